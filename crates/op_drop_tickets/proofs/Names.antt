-- Places and names on one pad: names in one place are one, a live ticket's name has a place below 64, and where numbers are distinct it is
-- the ticket's own.
use Prim.Native.Nat.{ℕ, ◌+◌, ◌*◌, ◌≤◌, ◌<◌}
use native.Mathlib.Omega.{arith}
use mathlib.Core.Path.{◌≡◌, sym, ap, subst, ◌∙◌}
use mathlib.Core.Bool.{true}
use lib.Dec.{eqb}
use lib.ListN.{length}
use borrow.Author.Tests.{eqb-true, eq-eqb}
use Rattle.lists.specs.Lists.{first_index}
use Rattle.lists.proofs.Tests.{and_r, both_ways}
use Rattle.lists.proofs.Search.{find_passes}
use Rattle.lists.proofs.Keyed.{Distinct, found_low, found_key, found_somewhere}
use Rattle.tables.specs.declared.{Name.Name, Tables.Tables}
use Rattle.tables.specs.Names.{name_of, eq_name, free}
use Rattle.tables.specs.Lookup.{Sized, tickets_of, has_number, ticket_in, lookup}
use Rattle.tables.proofs.NameLaws.{name_eq, eq_name_true, eq_name_refl}
use Rattle.tables.proofs.Keys.{ticket_keys, ticket_laws}
use Rattle.tables.proofs.ByPlace.{ticket_at, place_low_lem, name_in_range}
use Rattle.image_places.proofs.Laws.{first_number}
use Rattle.image_pads.specs.Places.{numbers_of, place_in}
use Rattle.image_pads.proofs.Places.{index_in, place_here, Placed, placed}
use Rattle.image_pads.proofs.Rows.{row_at}
use Rattle.tables.specs.Kinds.{is_live}

module _ (t : Tables) (z : Sized t) (a : ℕ) (low : a < 4) where
  -- the place of the name's number on the pad
  abbrev pub at : Name → ℕ
  at n = place_in (numbers_of t a) n.program n.number

  -- where a number stands among the program's tickets
  abbrev pub index : ℕ → ℕ → ℕ
  index b m = first_index (has_number m) (tickets_of t a b)

  index_in_lem : (b m : ℕ) → b < 8 → (m ≡ 0 → ⊥) → index_in (numbers_of t a) b m ≡ index b m
  index_in_lem b m c ne = ap (first_index (λ j. eqb j m)) (row_at t a z low b c) ∙ first_number m ne (tickets_of t a b)

  -- ---- names in one place are one
  -- what a place below 64 tells
  record Stands (b m : ℕ) : Type 0 where
    program : b < 8
    below : index b m < 8
    here : place_in (numbers_of t a) b m ≡ 8 * b + index b m

  stands : (b m : ℕ) → place_in (numbers_of t a) b m < 64 → Stands b m
  stands b m h =
      let p : Placed (numbers_of t a) b m = placed (numbers_of t a) b m h in
      let e : index_in (numbers_of t a) b m ≡ index b m = index_in_lem b m p.program p.number in
      record { program = p.program; below = omega (arith, e, p.index); here = p.place ∙ ap (λ (i : ℕ). 8 * b + i) e }

  number_of_lem : (b m : ℕ) → b < 8 → index b m < 8 → (ticket_at t a b (index b m)).number ≡ m
  unfolding has_number
  number_of_lem b m c h =
      eqb-true (ticket_at t a b (index b m)).number m
      (and_r (is_live (ticket_at t a b (index b m)).kind) _ (find_passes (has_number m) (tickets_of t a b) free (omega (arith, h, z.tickets a b low c))))

  at_once : (n x : Name) → n.pad ≡ x.pad → at n < 64 → at n ≡ at x → n ≡ x
  at_once n x p h e =
      let s : Stands n.program n.number = stands n.program n.number h in
      let r : Stands x.program x.number = stands x.program x.number (omega (arith, h, e)) in
      let q : n.program ≡ x.program = omega (arith, s.here, s.below, r.here, r.below, e) in
      let i : index n.program n.number ≡ index x.program x.number = omega (arith, s.here, s.below, r.here, r.below, e) in
      name_eq p q
      (sym (number_of_lem n.program n.number s.program s.below)
      ∙ ap (λ (b : ℕ). (ticket_at t a b (index n.program n.number)).number) q
      ∙ ap (λ (j : ℕ). (ticket_at t a x.program j).number) i
      ∙ number_of_lem x.program x.number r.program r.below)

  pub at_test : (n x : Name) → n.pad ≡ x.pad → at n < 64 → eqb (at n) (at x) ≡ eq_name n x
  at_test n x p h =
      both_ways (eqb (at n) (at x)) (eq_name n x)
      (λ e. subst (λ (y : Name). eq_name n y ≡ true) (at_once n x p h (eqb-true (at n) (at x) e)) (eq_name_refl n))
      (λ e. eq-eqb (at n) (at x) (ap at (eq_name_true n x e)))

  -- ---- live tickets
  pub found_on : (n : Name) → n.pad ≡ a → lookup t n ≡ ticket_at t a n.program (index n.program n.number)
  unfolding lookup ticket_in
  found_on n e = ap (λ (i : ℕ). ticket_in (tickets_of t i n.program) n.number) e

  -- the place of a live ticket's name
  pub record LiveAt (n : Name) : Type 0 where
    pub program : n.program < 8
    pub below : index n.program n.number < 8
    pub here : at n ≡ 8 * n.program + index n.program n.number

  pub live_at : (n : Name) → n.pad ≡ a → is_live (lookup t n).kind ≡ true → 1 ≤ n.number → LiveAt n
  live_at n e l pos =
      let c : n.program < 8 = (name_in_range t z n l).program in
      let d : index n.program n.number < length (tickets_of t a n.program)
      = subst (λ (p : ℕ). first_index (has_number n.number) (tickets_of t p n.program) < length (tickets_of t p n.program)) e (place_low_lem t z n l) in
      let i : index n.program n.number < 8 = omega (arith, d, z.tickets a n.program low c) in
      let ne : n.number ≡ 0 → ⊥ = λ q. omega (arith, q, pos) in
      record {
        program = c;
        below = i;
        here =
            sym (place_here (numbers_of t a) n.program n.number (index n.program n.number) (sym (index_in_lem n.program n.number c ne)) ne
            (omega (arith, c)) i);
      }

-- ---- from places to names
module _ (t : Tables) (a b i : ℕ) (h : i < length (tickets_of t a b)) (l : is_live (ticket_at t a b i).kind ≡ true) where
  -- a live ticket's name finds a live ticket
  pub live_named : is_live (lookup t (name_of a b (ticket_at t a b i).number)).kind ≡ true
  unfolding lookup ticket_in has_number
  live_named = found_somewhere ticket_keys ticket_laws (tickets_of t a b) i h l

  -- and where numbers are distinct, itself
  pub own_index : Distinct ticket_keys (tickets_of t a b) → first_index (has_number (ticket_at t a b i).number) (tickets_of t a b) ≡ i
  unfolding has_number
  own_index one =
      let m = found_somewhere ticket_keys ticket_laws (tickets_of t a b) i h l in
      one (first_index (has_number (ticket_at t a b i).number) (tickets_of t a b)) i
      (found_low ticket_keys ticket_laws (tickets_of t a b) (ticket_at t a b i).number m) h m l
      (found_key ticket_keys ticket_laws (tickets_of t a b) (ticket_at t a b i).number m)
