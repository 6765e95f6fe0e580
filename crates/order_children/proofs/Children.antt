-- T3 of one child by the tests that the code makes, one after the other. The child stands at the place q; the code knows it as `at`, and the
-- ticket there as k.
use Prim.Native.Nat.{ℕ, ◌≤◌, ◌<◌}
use mathlib.Core.Path.{◌≡◌, sym, ap, ◌∙◌}
use mathlib.Core.Bool.{Bool, true, false, cond}
use mathlib.Core.List.{List}
use lib.Dec.{ltb}
use lib.ListN.{get_or}
use borrow.Author.Tests.{lt-ltb, le-ltb}
use Rattle.lists.specs.Tests.{implies}
use Rattle.tables.specs.declared.{Name.Name, Ticket.Ticket}
use Rattle.tables.specs.Kinds.{is_child}
use Rattle.tables.specs.Names.{free}
use Rattle.tables.specs.Order.{parent_ok}
use Rattle.image_places.specs.Walk.{end_from}
use Rattle.image_places.specs.Places.{name_at, place_in}
use Rattle.order_children.specs.Parts.{child_ok}

-- what is written for the ticket k
abbrev pub up_of : List ℕ → Ticket → ℕ
up_of numbers k = cond (is_child k.kind) (place_in numbers k.other) 256

-- of any other ticket nothing is asked, and nothing is written
module _ (numbers : List ℕ) (k : Ticket) (e : is_child k.kind ≡ false) where
  pub no_child : (tickets : List Ticket) (q : ℕ) → child_ok tickets numbers q k ≡ true
  unfolding child_ok implies
  no_child tickets q = rw e

  pub no_child_up : up_of numbers k ≡ 256
  no_child_up = rw e

module _ (tickets : List Ticket) (numbers : List ℕ) (q at : ℕ) (a : at ≡ q) (k : Ticket) (e : k ≡ get_or tickets at free) where
  same : k ≡ get_or tickets q free
  same = e ∙ ap (λ (m : ℕ). get_or tickets m free) a

  module _ (c : is_child (get_or tickets q free).kind ≡ true) (p : ℕ) (s : p ≡ place_in numbers k.other) where
    there : p ≡ place_in numbers (get_or tickets q free).other
    there = s ∙ ap (λ (x : Ticket). place_in numbers x.other) same

    pub no_parent : 256 ≤ p → child_ok tickets numbers q (get_or tickets q free) ≡ false
    unfolding child_ok implies
    no_parent h = rw (c, sym there, le-ltb p 256 h)

    asked : p < 256 → child_ok tickets numbers q (get_or tickets q free) ≡ parent_ok (name_at q (get_or tickets q free)) (get_or tickets q free) (get_or tickets p free)
    unfolding child_ok implies
    asked h = rw (c, sym there, lt-ltb p 256 h)

    pub by_parent : p < 256 → (parent : Ticket) → parent ≡ get_or tickets p free → (n : Name) → n ≡ name_at at k
        → (b : Bool) → b ≡ parent_ok n k parent → child_ok tickets numbers q (get_or tickets q free) ≡ b
    by_parent h parent f n g b r = asked h ∙ sym (r ∙ λ i. parent_ok ((g ∙ λ j. name_at (a j) (same j)) i) (same i) (f i))

    pub parent_up : p ≡ up_of numbers (get_or tickets q free)
    parent_up = rw (c, there)

-- ---- the head of a child's chain
module _ (up : List ℕ) where
  abbrev pub headed : ℕ → Ticket → Bool
  headed q k = implies (is_child k.kind) (ltb (end_from 64 up q) 256)

  pub no_head_asked : (q : ℕ) (k : Ticket) → is_child k.kind ≡ false → headed q k ≡ true
  unfolding implies
  no_head_asked q k e = rw e

  module _ (q at : ℕ) (a : at ≡ q) (head : ℕ) (e : head ≡ end_from 64 up at) where
    ends : head ≡ end_from 64 up q
    ends = e ∙ ap (end_from 64 up) a

    pub head_missed : (k : Ticket) → is_child k.kind ≡ true → 256 ≤ head → headed q k ≡ false
    unfolding implies
    head_missed k c h = rw (c, sym ends, le-ltb head 256 h)
