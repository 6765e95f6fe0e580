-- What the searches find: the place of a name's ticket, what stands there, and the entry of a name.
use Prim.Native.Nat.{ℕ, ◌+◌, ◌*◌, ◌/◌, ◌%◌, ◌≤◌, ◌<◌}
use native.Mathlib.Omega.{arith}
use mathlib.Core.Path.{◌≡◌, sym, ap, ◌∙◌}
use mathlib.Core.Bool.{true, false}
use mathlib.Core.List.{List}
use lib.ListN.{length, get_or, get_or-eq_default}
use Rattle.lists.specs.Lists.{first_index}
use Rattle.lists.proofs.Tests.{Case, pass, fail, case, contradiction, cannot_pass, and_l}
use Rattle.lists.proofs.Keyed.{nothing_found}
use Rattle.tables.specs.declared.{Name.Name, Ticket.Ticket, Entry.Entry}
use Rattle.tables.specs.Kinds.{is_live}
use Rattle.tables.specs.Names.{is_program, free, no_entry}
use Rattle.tables.specs.Lookup.{tickets_of, has_number, ticket_in, lookup, place_of, is_named, entry_in, entry_of}
use Rattle.tables.proofs.NameLaws.{is_program_lem, program_possible}
use Rattle.tables.proofs.Keys.{ticket_keys, ticket_laws}
use Rattle.tables.proofs.ByPlace.{name_in_range}
use Rattle.image.specs.Image.{decode}
use Rattle.image_read.specs.Places.{tickets_in, entries_in}
use Rattle.image_read.proofs.Places.{entries_long, entries_decoded}
use Rattle.image_places.proofs.Laying.{at_place}
use Rattle.image_places.proofs.Kept.{kept_low}
use Rattle.image_find.proofs.First.{first_is}
use Rattle.image_find.proofs.Laws.{flattened, decoded_sized}

-- ---- a program's tickets among all
module _ (bytes : List ℕ) (a b : ℕ) (p : a < 4) (q : b < 8) where
  pub eight : length (tickets_of (decode bytes) a b) ≡ 8
  eight = (decoded_sized bytes).tickets a b p q

  pub of_program : (i : ℕ) → i < 8 → get_or (tickets_in bytes) (64 * a + 8 * b + i) free ≡ get_or (tickets_of (decode bytes) a b) i free
  of_program i h = (flattened bytes).same (64 * a + 8 * b + i) (omega arith) ∙ sym (at_place (decode bytes) a b i q h)

-- programs counted over all pads
pub of_any_program : (bytes : List ℕ) (program i : ℕ) → program < 32 → i < 8
    → get_or (tickets_in bytes) (8 * program + i) free ≡ get_or (tickets_of (decode bytes) (program / 8) (program % 8)) i free
of_any_program bytes program i p h =
    let e : 8 * program + i ≡ 64 * (program / 8) + 8 * (program % 8) + i = omega arith in
    ap (λ (m : ℕ). get_or (tickets_in bytes) m free) e ∙ of_program bytes (program / 8) (program % 8) (omega arith) (omega arith) i h

module _ (bytes : List ℕ) (n : Name) where
  -- ---- the place of a name's ticket
  no_ticket : is_live (lookup (decode bytes) n).kind ≡ false → lookup (decode bytes) n ≡ free
  unfolding lookup ticket_in has_number
  no_ticket e = nothing_found ticket_keys ticket_laws (tickets_of (decode bytes) n.pad n.program) n.number e

  no_place : is_live (lookup (decode bytes) n).kind ≡ false → place_of (decode bytes) n ≡ 256
  unfolding place_of
  no_place e = rw e

  pub no_program_lem : is_program n.pad n.program ≡ false → place_of (decode bytes) n ≡ 256
  no_program_lem e =
      no_place
      (cannot_pass _
      (λ l.
      let r = name_in_range (decode bytes) (decoded_sized bytes) n l in
      contradiction (program_possible n.pad n.program (omega (arith, r.pad)) (omega (arith, r.program))) e))

  -- ---- the search among a program's places, which begin at `start`: no ticket before place i has the number
  module _ (p : is_program n.pad n.program ≡ true) (start : ℕ) (s : start ≡ 64 * n.pad + 8 * n.program) (i : ℕ)
      (before : (j : ℕ) → j < i → has_number n.number (get_or (tickets_in bytes) (start + j) free) ≡ false) where
    abbrev tickets : List Ticket
    tickets = tickets_of (decode bytes) n.pad n.program

    abbrev here : ℕ → Type 0
    here j = get_or (tickets_in bytes) (start + j) free ≡ get_or tickets j free

    low : n.pad < 4 × n.program < 8
    low = let q = is_program_lem n.pad n.program p in (omega (arith, q.pad), omega (arith, q.program))

    same : (j : ℕ) → j < 8 → here j
    same j h = ap (λ (m : ℕ). get_or (tickets_in bytes) (m + j) free) s ∙ of_program bytes n.pad n.program low.0 low.1 j h

    long : length tickets ≡ 8
    long = eight bytes n.pad n.program low.0 low.1

    spot : i ≤ 8 → (i < 8 → has_number n.number (get_or (tickets_in bytes) (start + i) free) ≡ true) → i ≡ first_index (has_number n.number) tickets
    spot h there =
        first_is (has_number n.number) free tickets i (omega (arith, long))
        (λ j g. ap (has_number n.number) (sym (same j (omega arith))) ∙ before j g)
        (λ g. ap (has_number n.number) (sym (same i (omega (arith, long)))) ∙ there (omega (arith, long)))

    pub ticket_hit : i < 8 → has_number n.number (get_or (tickets_in bytes) (start + i) free) ≡ true
        → (start + i ≡ place_of (decode bytes) n) × (get_or (tickets_in bytes) (start + i) free ≡ lookup (decode bytes) n)
    unfolding place_of lookup ticket_in has_number
    ticket_hit h y =
        let e = spot (omega arith) (λ _. y) in
        let k : get_or (tickets_in bytes) (start + i) free ≡ get_or tickets (first_index (has_number n.number) tickets) free
        = same i h ∙ ap (λ (j : ℕ). get_or tickets j free) e in
        let live : is_live (get_or tickets (first_index (has_number n.number) tickets) free).kind ≡ true
        = ap (λ (x : Ticket). is_live x.kind) (sym k) ∙ and_l (is_live (get_or (tickets_in bytes) (start + i) free).kind) _ y in
        (rw live (omega (arith, e, s)), k)

    pub ticket_missed : i ≡ 8 → place_of (decode bytes) n ≡ 256
    unfolding lookup ticket_in
    ticket_missed h =
        let e = spot (omega arith) (λ g. absurd (omega arith)) in
        no_place (ap (λ (k : Ticket). is_live k.kind) (get_or-eq_default tickets free (omega (arith, e, long))))

  pub ticket_nowhere : 256 ≤ place_of (decode bytes) n → lookup (decode bytes) n ≡ free
  ticket_nowhere h = go (case (is_live (lookup (decode bytes) n).kind))
    where
      go : Case (is_live (lookup (decode bytes) n).kind) → lookup (decode bytes) n ≡ free
      go (pass l) = absurd (omega (arith, kept_low (decode bytes) (decoded_sized bytes) n l))
      go (fail e) = no_ticket e

  -- ---- an entry
  module _ (place : ℕ) (e : place ≡ first_index (is_named n) (entries_in bytes)) where
    pub entry_there : get_or (entries_in bytes) place no_entry ≡ entry_of (decode bytes) n
    unfolding entry_in
    entry_there =
        ap (λ (i : ℕ). get_or (entries_in bytes) i no_entry) e ∙ ap (λ (l : List Entry). get_or l (first_index (is_named n) l) no_entry) (entries_decoded bytes)

    pub entry_nowhere : 256 ≤ place → no_entry ≡ entry_of (decode bytes) n
    entry_nowhere h = sym (get_or-eq_default (entries_in bytes) no_entry (omega (arith, h, entries_long bytes))) ∙ entry_there
