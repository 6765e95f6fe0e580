-- Walks by places are walks by names: from the place of a live ticket the chain of places comes where the chain of names comes. Chains
-- stay on their pad.
use Prim.Native.Nat.{ℕ, zero, suc, ◌<◌}
use native.Mathlib.Omega.{arith}
use mathlib.Core.Path.{◌≡◌, refl, sym, ap, ◌∙◌}
use mathlib.Core.Bool.{Bool, true, false, not, ◌&&◌, ◌||◌}
use mathlib.Core.List.{List}
use lib.Dec.{eqb, ltb}
use lib.ListN.{length, get_or}
use borrow.Author.Tests.{eqb-true, lt-ltb, le-ltb}
use Rattle.lists.proofs.Tests.{Case, pass, fail, case}
use Rattle.tables.specs.declared.{Name.Name, Kind.Kind, Ticket.Ticket, Tables.Tables}
use Rattle.tables.specs.declared.Kind.TheVariants.{Free, Taken, Received, Child, Recall}
use Rattle.tables.specs.Names.{eq_name, is_none}
use Rattle.tables.specs.Lookup.{Sized, lookup}
use Rattle.tables.specs.Chains.{parent_by, parent_of, reaches}
use Rattle.tables.proofs.NameLaws.{eq_name_false}
use Rattle.image_places.specs.Walk.{parent_at, has_parent, leads_to}
use Rattle.image_pads.specs.Places.{numbers_of, place_in, up_by, up_of, ups_of}
use Rattle.image_pads.proofs.Places.{place_none}
use Rattle.image_pads.proofs.Rows.{ups_long, up_there}
use Rattle.op_drop_tickets.specs.Linked.{Linked}
use Rattle.op_drop_tickets.proofs.Names.{at, index, at_test, found_on, LiveAt, live_at}
use Rattle.tables.specs.Kinds.{is_live}

-- ---- Bools
walk_step : (a a' b b' u v : Bool) → a ≡ a' → b ≡ b' → (b' ≡ true → u ≡ v) → (a || (b && u)) ≡ (a' || (b' && v))
walk_step a a' b b' u v e f h = rw (e, f) (ap (λ (c : Bool). a' || c) (inner b' h))
  where
    inner : (b : Bool) → (b ≡ true → u ≡ v) → (b && u) ≡ (b && v)
    inner true h = h refl
    inner false h = refl

walk_none : (a b u : Bool) → a ≡ false → (b ≡ false → u ≡ false) → (a || (not b && u)) ≡ false
walk_none true b u e h = e
walk_none false true u e h = refl
walk_none false false u e h = h refl

not_back : (b : Bool) → not b ≡ true → b ≡ false
not_back true e = sym e
not_back false e = refl

-- the place of a parent is where its name stands
up_parent : (q : Kind) (numbers : List ℕ) (n : Name) (k : Ticket) → up_by q numbers n.program k ≡ place_in numbers (parent_by q n k).program (parent_by q n k).number
up_parent Free numbers n k = place_none numbers 0 0 refl
up_parent Taken numbers n k = place_none numbers 0 0 refl
up_parent Received numbers n k = place_none numbers 0 0 refl
up_parent Child numbers n k = refl
up_parent Recall numbers n k = refl

module _ (t : Tables) (z : Sized t) (link : Linked t) (a : ℕ) (low : a < 4) where
  -- the places of parents on the pad
  abbrev pub ups : List ℕ
  ups = ups_of t a (numbers_of t a)

  pub ups_64 : length ups ≡ 64
  ups_64 = ups_long t a (numbers_of t a)

  abbrev pub place : Name → ℕ
  place n = at t z a low n

  -- a live ticket's name, on this pad
  pub record Here (n : Name) : Type 0 where
    pub pad : n.pad ≡ a
    pub live : is_live (lookup t n).kind ≡ true

  pub here_at : (n : Name) → Here n → LiveAt t z a low n
  here_at n h = live_at t z a low n h.pad h.live (link.numbered n h.live)

  pub place_low_lem : (n : Name) → Here n → place n < 64
  place_low_lem n h = let w = here_at n h in omega (arith, w.here, w.below, w.program)

  -- ---- one step
  parent_here : (n : Name) → Here n → is_none (parent_of (lookup t) n) ≡ false → Here (parent_of (lookup t) n)
  parent_here n h e = record { pad = link.near n e ∙ h.pad; live = link.parent n e }

  ticket_up : (n : Name) → up_of (numbers_of t a) n.program (lookup t n) ≡ place (parent_of (lookup t) n)
  unfolding up_of
  ticket_up n = up_parent (lookup t n).kind (numbers_of t a) n (lookup t n)

  parent_at_lem : (n : Name) → Here n → parent_at ups (place n) ≡ place (parent_of (lookup t) n)
  parent_at_lem n h =
      let b : ℕ = n.program in
      let w : LiveAt t z a low n = here_at n h in
      ap (λ (j : ℕ). get_or ups j 0) w.here
      ∙ up_there t a b (index t z a low b n.number) w.program w.below (numbers_of t a)
      ∙ ap (up_of (numbers_of t a) b) (sym (found_on t z a low n h.pad))
      ∙ ticket_up n

  parent_test : (n : Name) → Here n → has_parent ups (place n) ≡ not (is_none (parent_of (lookup t) n))
  parent_test n h = ap (λ (i : ℕ). ltb i (length ups)) (parent_at_lem n h) ∙ go (case (is_none (parent_of (lookup t) n)))
    where
      go : Case (is_none (parent_of (lookup t) n)) → ltb (place (parent_of (lookup t) n)) (length ups) ≡ not (is_none (parent_of (lookup t) n))
      go (pass e) =
          let p : 64 ≡ place (parent_of (lookup t) n)
          = place_none (numbers_of t a) (parent_of (lookup t) n).program (parent_of (lookup t) n).number (eqb-true (parent_of (lookup t) n).number 0 e) in
          le-ltb (place (parent_of (lookup t) n)) (length ups) (omega (arith, p, ups_64)) ∙ ap not (sym e)
      go (fail e) =
          lt-ltb (place (parent_of (lookup t) n)) (length ups) (omega (arith, place_low_lem (parent_of (lookup t) n) (parent_here n h e), ups_64)) ∙ ap not (sym e)

  -- ---- the walks
  -- the place i is that of the name x, for every live ticket of the pad
  abbrev pub Marks : ℕ → Name → Type 0
  Marks i x = (m : Name) → Here m → eqb (place m) i ≡ eq_name m x

  pub name_marks : (x : Name) → x.pad ≡ a → Marks (place x) x
  name_marks x e m h = at_test t z a low m x (h.pad ∙ sym e) (place_low_lem m h)

  pub leads : (left : ℕ) (n : Name) → Here n → (i : ℕ) (x : Name) → Marks i x → leads_to left ups i (place n) ≡ reaches left (parent_of (lookup t)) n x
  unfolding leads_to reaches
  leads zero n h i x k = refl
  leads (suc left) n h i x k =
      walk_step (eqb (place n) i) (eq_name n x) (has_parent ups (place n)) (not (is_none (parent_of (lookup t) n)))
      (leads_to left ups i (parent_at ups (place n))) (reaches left (parent_of (lookup t)) (parent_of (lookup t) n) x)
      (k n h) (parent_test n h)
      (λ e. ap (leads_to left ups i) (parent_at_lem n h) ∙ leads left (parent_of (lookup t) n) (parent_here n h (not_back (is_none (parent_of (lookup t) n)) e)) i x k)

  -- ---- other pads
  pub record Away (n : Name) : Type 0 where
    pub pad : n.pad ≡ a → ⊥
    pub live : is_live (lookup t n).kind ≡ true

  -- no live ticket of another pad has the name x
  abbrev pub Missed : Name → Type 0
  Missed x = (m : Name) → Away m → eq_name m x ≡ false

  pub name_missed : (x : Name) → x.pad ≡ a → Missed x
  name_missed x e m h = eq_name_false m x (λ q. h.pad (ap (λ (y : Name). y.pad) q ∙ e))

  pub far : (left : ℕ) (n : Name) → Away n → (x : Name) → Missed x → reaches left (parent_of (lookup t)) n x ≡ false
  unfolding reaches
  far zero n h x k = refl
  far (suc left) n h x k =
      walk_none (eq_name n x) (is_none (parent_of (lookup t) n)) (reaches left (parent_of (lookup t)) (parent_of (lookup t) n) x) (k n h)
      (λ e. far left (parent_of (lookup t) n) (record { pad = λ q. h.pad (sym (link.near n e) ∙ q); live = link.parent n e }) x k)
