-- In tables in order the next number above `after` is the next name of the program's that pass, and where there is none all have been seen.
use Prim.Native.Nat.{ℕ, ◌+◌, ◌*◌, ◌/◌, ◌%◌, ◌≤◌, ◌<◌}
use native.Mathlib.Omega.{arith}
use mathlib.Core.Path.{◌≡◌, refl, sym, ap, ◌∙◌}
use mathlib.Core.Bool.{Bool, true, false}
use mathlib.Core.List.{List, [], ◌∷◌, ◌++◌}
use lib.ListN.{length, get_or}
use Rattle.lists.proofs.Tests.{Case, pass, fail, case, cannot_pass}
use Rattle.lists.proofs.PartLaws.{length_tabulate, get_or_tabulate}
use Rattle.tables.specs.declared.{Name.Name, Ticket.Ticket, Tables.Tables}
use Rattle.tables.specs.Kinds.{is_live}
use Rattle.tables.specs.Names.{name_of, free}
use Rattle.tables.specs.Lookup.{last_of, lookup, place_of, names_of}
use Rattle.tables.proofs.NameLaws.{name_eq}
use Rattle.tables.proofs.ByPlace.{found_number}
use Rattle.tables.proofs.ByNumber.{names_to, names_next, names_all}
use Rattle.preservation.specs.InOrder.{Shape}
use Rattle.image_places.specs.Places.{placed, name_at}
use Rattle.image_places.proofs.Kept.{kept_there, kept_pad, kept_program, found_there, kept_here}
use Rattle.image_numbers.specs.Numbers.{number_if, numbers_in, NoneAbove, NextAbove}

module _ (t : Tables) (shape : Shape t) (tickets : List Ticket) (same : (p : ℕ) → p < 256 → get_or tickets p free ≡ placed t p)
    (test : Ticket → Bool) (alive : (k : Ticket) → test k ≡ true → is_live k.kind ≡ true) (program : ℕ) (in_range : program < 32) where
  abbrev numbers : List ℕ
  numbers = numbers_in test tickets program

  abbrev number : ℕ → ℕ
  number i = get_or numbers i 0

  abbrev pub name : ℕ → Name
  name m = name_of (program / 8) (program % 8) m

  pub numbers_long : length numbers ≡ 8
  unfolding numbers_in
  numbers_long = length_tabulate 8 (λ i. number_if test (get_or tickets (8 * program + i) free))

  number_at : (i : ℕ) → i < 8 → number i ≡ number_if test (placed t (8 * program + i))
  unfolding numbers_in
  number_at i h =
      get_or_tabulate 8 (λ j. number_if test (get_or tickets (8 * program + j) free)) i 0 h ∙ ap (number_if test) (same (8 * program + i) (omega arith))

  -- ---- what stands at a place whose number is not 0
  pub record Stands (i : ℕ) : Type 0 where
    pub ticket : lookup t (name (number i)) ≡ placed t (8 * program + i)
    pub place : place_of t (name (number i)) ≡ 8 * program + i
    pub passes : test (lookup t (name (number i))) ≡ true

  abbrev standing : ℕ → Ticket
  standing i = placed t (8 * program + i)

  stands : (i : ℕ) → i < 8 → 0 < number i → Stands i
  unfolding number_if
  stands i h positive = go (case (test (standing i)))
    where
      go : Case (test (standing i)) → Stands i
      go (fail e) = let zero : number i ≡ 0 = number_at i h ∙ rw e refl in absurd (omega (arith, positive, zero))
      go (pass e) =
          let k = standing i in
          let is : number i ≡ k.number = number_at i h ∙ rw e refl in
          let on : (8 * program + i) / 64 ≡ program / 8 = omega arith in
          let eighth : (8 * program + i) / 8 ≡ program = omega arith in
          let of : (8 * program + i) / 8 % 8 ≡ program % 8 = ap (λ (m : ℕ). m % 8) eighth in
          let named : name_at (8 * program + i) k ≡ name (number i) = name_eq on of (sym is) in
          let there = found_there t shape.sized shape.distinct (8 * program + i) (omega arith) (alive k e) in
          let ticket : lookup t (name (number i)) ≡ k = ap (lookup t) (sym named) ∙ there in
          record {
            ticket = ticket;
            place = ap (place_of t) (sym named) ∙ kept_here t shape.sized shape.distinct (8 * program + i) (omega arith) (alive k e);
            passes = ap test ticket ∙ e;
          }

  -- ---- who passes has its number among these
  pub record Among (x : ℕ) : Type 0 where
    pub at : ℕ
    pub low : at < 8
    pub is : number at ≡ x

  among : (x : ℕ) → test (lookup t (name x)) ≡ true → Among x
  unfolding number_if
  among x e =
      let l = alive (lookup t (name x)) e in
      let p = place_of t (name x) in
      let z = shape.sized in
      let on : p / 64 ≡ program / 8 = kept_pad t z (name x) l in
      let of : p / 8 % 8 ≡ program % 8 = kept_program t z (name x) l in
      let i = p % 8 in
      let here : 8 * program + i ≡ p = omega (arith, on, of) in
      let ticket : placed t (8 * program + i) ≡ lookup t (name x) = ap (placed t) here ∙ kept_there t z (name x) l in
      record {
        at = i;
        low = omega arith;
        is = number_at i (omega arith) ∙ ap (number_if test) ticket ∙ rw e (found_number t z (name x) l);
      }

  -- ---- the next one
  module _ (after r : ℕ) (next : NextAbove numbers after r) where
    pub next_low : r < 8
    next_low = omega (arith, next.low, numbers_long)

    below : (x : ℕ) → after < x → x < number r → test (lookup t (name x)) ≡ false
    below x above under =
        cannot_pass _
        (λ e. let a = among x e in omega (
          arith,
          under,
          next.least a.at (omega (arith, a.low, numbers_long)) (omega (arith, above, a.is)),
          a.is,
        ))

    pub next_stands : Stands r
    next_stands = stands r next_low (omega (arith, next.above))

    pub next_name : names_to test t (program / 8) (program % 8) (number r) ≡ names_to test t (program / 8) (program % 8) after ++ name (number r) ∷ []
    next_name = names_next test t (program / 8) (program % 8) after (number r) next.above next_stands.passes below

  pub next_none : (after : ℕ) → NoneAbove numbers after → after ≤ last_of t (program / 8) (program % 8)
      → names_of test t (program / 8) (program % 8) ≡ names_to test t (program / 8) (program % 8) after
  next_none after none given =
      names_all test t (program / 8) (program % 8) after given
      (λ x above. cannot_pass _ (λ e. let a = among x e in omega (arith, above, none.none a.at (omega (arith, a.low, numbers_long)), a.is)))
