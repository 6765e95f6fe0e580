-- Keys by cases, as the code computes them; the keys of the listed recalls written one after the other.
use Prim.Native.Nat.{ℕ, ◌+◌, ◌*◌, ◌≤◌, ◌<◌}
use native.Mathlib.Omega.{arith}
use mathlib.Core.Path.{◌≡◌, sym, ap, ◌∙◌, subst}
use mathlib.Core.Bool.{true, false}
use mathlib.Core.List.{List, map}
use lib.ListN.{length, get_or, set, length-map}
use lib.Seq.{ext_get_or}
use Rattle.std.proofs.lemmas.List.{get_or-map}
use borrow.Author.Tests.{lt-ltb, le-ltb}
use Rattle.tables.specs.declared.{Name.Name, Ticket.Ticket}
use Rattle.tables.specs.Names.{free}
use Rattle.tables.specs.Kinds.{is_recall}
use Rattle.image_places.specs.Places.{place_in}
use Rattle.order_lists.specs.Listing.{TicketsListed}
use Rattle.order_lists.proofs.Laws.{Filled, filled_more, filled_end}
use Rattle.order_recall_marks.specs.Keys.{key_of, target_key}

abbrev pub dead_key : Name → ℕ
dead_key n = 257 + (n.pad * 65536 + n.program) * 65536 + n.number

pub key_place : (place : ℕ) (n : Name) → place < 256 → place ≡ key_of place n
unfolding key_of
key_place place n h = rw (lt-ltb place 256 h)

pub key_dead : (place : ℕ) (n : Name) → 256 ≤ place → dead_key n ≡ key_of place n
unfolding key_of
key_dead place n h = rw (le-ltb place 256 h)

module _ (numbers : List ℕ) (k : Ticket) where
  pub key_none : is_recall k.kind ≡ false → 256 ≡ target_key numbers k
  unfolding target_key
  key_none e = rw e

  pub key_recall : is_recall k.kind ≡ true → key_of (place_in numbers k.other) k.other ≡ target_key numbers k
  unfolding target_key
  key_recall e = rw e

-- ---- the keys written one after the other
module _ (numbers : List ℕ) (ks : List Ticket) (recalls : List ℕ) where
  -- the first i listed keys stand
  abbrev pub Written : ℕ → List ℕ → Type 0
  Written = Filled 256 256 (λ p. target_key numbers (get_or ks p free)) recalls

  module _ (listing : TicketsListed (λ k. is_recall k.kind) ks recalls) where
    pub written : (i : ℕ) (keys : List ℕ) → Written i keys → i < length recalls → (at x : ℕ) (k : Ticket)
        → at ≡ get_or recalls i 0 → k ≡ get_or ks at free → x ≡ target_key numbers k → Written (i + 1) (set keys at x)
    written i keys so h at x k place here e =
        subst (λ (p : ℕ). Written (i + 1) (set keys p x)) (sym place)
        (filled_more 256 256 (λ p. target_key numbers (get_or ks p free)) recalls i keys so (listing.low i h) x
        (e ∙ ap (target_key numbers) (here ∙ ap (λ (p : ℕ). get_or ks p free) place)))

    pub all_written : length ks ≡ 256 → (i : ℕ) (keys : List ℕ) → length recalls ≤ i → Written i keys → keys ≡ map (target_key numbers) ks
    all_written long i keys h so =
        ext_get_or 0 keys (map (target_key numbers) ks) (so.long ∙ sym (length-map ks (target_key numbers) ∙ long))
        (λ p l.
        filled_end 256 256 (λ q. target_key numbers (get_or ks q free)) recalls free (λ k. is_recall k.kind) ks (length recalls) listing
        (λ q g r. sym (key_none numbers (get_or ks q free) r)) i keys h so p (omega (arith, so.long, l))
        ∙ sym (get_or-map (target_key numbers) ks p free 0 (omega (arith, so.long, long, l))))
