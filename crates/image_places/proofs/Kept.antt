-- Names and places: the live ticket of a name stands at the name's place, and the name of what stands at a place leads back there.
use Prim.Native.Nat.{ℕ, ◌+◌, ◌*◌, ◌/◌, ◌%◌, ◌<◌}
use native.Mathlib.Omega.{arith}
use mathlib.Core.Path.{◌≡◌, refl, sym, ap, subst, ◌∙◌}
use mathlib.Core.Bool.{true}
use mathlib.Core.List.{List}
use lib.ListN.{length, get_or}
use Rattle.lists.specs.Lists.{first_index}
use Rattle.lists.proofs.Keyed.{Distinct, found_at}
use Rattle.tables.specs.declared.{Name.Name, Ticket.Ticket, Tables.Tables}
use Rattle.tables.specs.Kinds.{is_live}
use Rattle.tables.specs.Names.{free}
use Rattle.tables.specs.Lookup.{Sized, tickets_of, has_number, ticket_in, lookup, place_of}
use Rattle.tables.proofs.NameLaws.{name_eq}
use Rattle.tables.proofs.Keys.{ticket_keys, ticket_laws}
use Rattle.tables.proofs.ByPlace.{InRange, place_low_lem, found_number, name_in_range}
use Rattle.image_places.specs.Places.{placed, name_at}
use Rattle.image_places.proofs.Laying.{at_place}

module _ (t : Tables) (z : Sized t) where
  -- ---- from a name to its place
  module _ (n : Name) (l : is_live (lookup t n).kind ≡ true) where
    abbrev i : ℕ
    i = first_index (has_number n.number) (tickets_of t n.pad n.program)

    range : InRange n
    range = name_in_range t z n l

    below_8 : i < 8
    below_8 = subst (λ (m : ℕ). i < m) (z.tickets n.pad n.program range.pad range.program) (place_low_lem t z n l)

    place_of_lem : place_of t n ≡ 64 * n.pad + 8 * n.program + i
    unfolding place_of
    place_of_lem = rw l refl

    pub kept_low : place_of t n < 256
    kept_low = omega (arith, place_of_lem, below_8, range.pad, range.program)

    pub kept_there : placed t (place_of t n) ≡ lookup t n
    unfolding lookup ticket_in
    kept_there = ap (placed t) place_of_lem ∙ sym (at_place t n.pad n.program i range.program below_8)

    pub kept_pad : place_of t n / 64 ≡ n.pad
    kept_pad = omega (arith, place_of_lem, below_8, range.program)

    pub kept_program : place_of t n / 8 % 8 ≡ n.program
    kept_program =
        let tens : place_of t n / 8 ≡ 8 * n.pad + n.program = omega (arith, place_of_lem, below_8, range.program) in
        omega (arith, tens, range.program)

    pub kept_name : name_at (place_of t n) (placed t (place_of t n)) ≡ n
    kept_name = name_eq kept_pad kept_program (ap (λ (k : Ticket). k.number) kept_there ∙ found_number t z n l)

  -- ---- from a place to the name there
  module _ (distinct : (a b : ℕ) → a < 4 → b < 8 → Distinct ticket_keys (tickets_of t a b)) (p : ℕ) (low : p < 256)
      (l : is_live (placed t p).kind ≡ true) where
    abbrev tickets : List Ticket
    tickets = tickets_of t (p / 64) (p / 8 % 8)

    abbrev n : Name
    n = name_at p (placed t p)

    long : length tickets ≡ 8
    long = z.tickets (p / 64) (p / 8 % 8) (omega arith) (omega arith)

    pub found_there : lookup t n ≡ placed t p
    unfolding lookup ticket_in has_number
    found_there = found_at ticket_keys ticket_laws tickets (distinct (p / 64) (p / 8 % 8) (omega arith) (omega arith)) (p % 8) (omega (arith, long)) l

    found_live : is_live (lookup t n).kind ≡ true
    found_live = ap (λ (k : Ticket). is_live k.kind) found_there ∙ l

    found_place : get_or tickets (i n found_live) free ≡ placed t p
    unfolding lookup ticket_in
    found_place = found_there

    pub kept_here : place_of t n ≡ p
    kept_here =
        let same : i n found_live ≡ p % 8
        = distinct (p / 64) (p / 8 % 8) (omega arith) (omega arith) (i n found_live) (p % 8)
        (omega (arith, long, below_8 n found_live)) (omega (arith, long)) (ap (λ (k : Ticket). is_live k.kind) found_place ∙ l) l
        (ap (λ (k : Ticket). k.number) found_place) in
        omega (arith, place_of_lem n found_live, same)
