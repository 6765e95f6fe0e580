-- What stands at a place, and what a name finds: a name that finds a live ticket is one of the 32 programs', and a test of every ticket,
-- of some ticket or of every live entry is a test of every place. All of it needs the arrays' lengths and no more.
use Prim.Native.Nat.{ℕ, ◌≤◌, ◌<◌}
use native.Mathlib.Omega.{arith}
use mathlib.Core.Path.{◌≡◌, sym, ap, subst}
use mathlib.Core.Bool.{Bool, true, ◌&&◌}
use mathlib.Core.List.{List}
use lib.Dec.{ltb}
use lib.ListN.{length, get_or, get_or-eq_default}
use borrow.Author.Tests.{ltb-true, ltb-false}
use Rattle.lists.specs.Tests.{implies}
use Rattle.lists.specs.Lists.{first_index, all, all_at, some_at}
use Rattle.lists.proofs.Tests.{Case, pass, fail, case, implies_intro, implies_elim}
use Rattle.lists.proofs.Everywhere.{all_intro, all_elim, all_at_intro, all_at_elim, Somewhere, some_intro, some_elim, some_at_intro, some_at_elim}
use Rattle.lists.proofs.Keyed.{found_low, found_key}
use Rattle.tables.specs.declared.{Name.Name, Kind.Kind, Ticket.Ticket, Program.Program, Pad.Pad, Entry.Entry, Tables.Tables}
use Rattle.tables.specs.Names.{name_of, free, no_entry, no_program, no_pad}
use Rattle.tables.specs.Lookup.{Sized, pad_at, program_at, tickets_of, has_number, ticket_in, lookup, is_named, entry_in, entry_of}
use Rattle.tables.specs.Order.{every_ticket_of, every_ticket, some_ticket_of, some_ticket, every_entry, numbers_ok, t1}
use Rattle.tables.proofs.Keys.{ticket_keys, entry_keys, ticket_laws, entry_laws}
use Rattle.tables.specs.Kinds.{is_live}

abbrev pub ticket_at : Tables → ℕ → ℕ → ℕ → Ticket
ticket_at t pad program i = get_or (tickets_of t pad program) i free

abbrev pub at : List Entry → ℕ → Entry
at es i = get_or es i no_entry

abbrev pub entry_at : Tables → ℕ → Entry
entry_at t i = at t.entries i

pub record InRange (n : Name) : Type 0 where
  pub pad : n.pad < 4
  pub program : n.program < 8

module _ (t : Tables) (z : Sized t) where
  -- ---- where a name's ticket is: impossible names find nothing
  abbrev pub place : Name → ℕ
  place n = first_index (has_number n.number) (tickets_of t n.pad n.program)

  pub place_low_lem : (n : Name) → is_live (lookup t n).kind ≡ true → place n < length (tickets_of t n.pad n.program)
  unfolding lookup ticket_in has_number
  place_low_lem n l = found_low ticket_keys ticket_laws (tickets_of t n.pad n.program) n.number l

  pub found_number : (n : Name) → is_live (lookup t n).kind ≡ true → (lookup t n).number ≡ n.number
  unfolding lookup ticket_in has_number
  found_number n l = found_key ticket_keys ticket_laws (tickets_of t n.pad n.program) n.number l

  no_place : (n : Name) → is_live (lookup t n).kind ≡ true → program_at t n.pad n.program ≡ no_program → ⊥
  no_place n l e =
      let b : place n < length no_program.tickets
      = subst (λ (p : Program). place n < length p.tickets) e (place_low_lem n l) in
      omega (arith, b)

  pub name_in_range : (n : Name) → is_live (lookup t n).kind ≡ true → InRange n
  name_in_range n l = go (case (ltb n.pad 4))
    where
      outside_pads : 4 ≤ n.pad → ⊥
      outside_pads h =
          let e : pad_at t n.pad ≡ no_pad = get_or-eq_default t.pads no_pad (subst (λ (m : ℕ). m ≤ n.pad) (sym z.pads) h) in
          no_place n l (ap (λ (a : Pad). get_or a.programs n.program no_program) e)

      outside_programs : n.pad < 4 → 8 ≤ n.program → ⊥
      outside_programs b h =
          no_place n l (get_or-eq_default (pad_at t n.pad).programs no_program (subst (λ (m : ℕ). m ≤ n.program) (sym (z.programs n.pad b)) h))

      go₂ : n.pad < 4 → Case (ltb n.program 8) → InRange n
      go₂ b (pass e) = record { pad = b; program = ltb-true n.program 8 e }
      go₂ b (fail e) = absurd (outside_programs b (ltb-false n.program 8 e))

      go : Case (ltb n.pad 4) → InRange n
      go (pass e) = go₂ (ltb-true n.pad 4 e) (case (ltb n.program 8))
      go (fail e) = absurd (outside_pads (ltb-false n.pad 4 e))

  pub pad_low_lem : {p : ℕ} → p < 4 → p < length t.pads
  pad_low_lem b = rw z.pads b

  pub program_low_lem : {p q : ℕ} → p < 4 → q < 8 → q < length (pad_at t p).programs
  program_low_lem {p} b c = rw (z.programs p b) c

  -- ---- T1, of each program
  pub numbers_at : t1 t ≡ true → {p q : ℕ} → p < 4 → q < 8 → numbers_ok (program_at t p q) ≡ true
  unfolding t1
  numbers_at rule {p} {q} b c =
      all_elim no_program numbers_ok (pad_at t p).programs (all_elim no_pad (λ a. all numbers_ok a.programs) t.pads rule p (pad_low_lem b)) q (program_low_lem b c)

  -- ---- every live entry
  pub every_entry_elim : (test : Entry → Bool) → every_entry test t ≡ true → (n : Name) → (entry_of t n).live ≡ true → test (entry_of t n) ≡ true
  unfolding every_entry entry_in is_named
  every_entry_elim test e n l =
      implies_elim (entry_of t n).live _
      (all_elim no_entry (λ a. implies a.live (test a)) t.entries e (first_index (is_named n) t.entries) (found_low entry_keys entry_laws t.entries n l)) l

  pub found_name : (n : Name) → (entry_of t n).live ≡ true → (entry_of t n).name ≡ n
  unfolding entry_in is_named
  found_name n l = found_key entry_keys entry_laws t.entries n l

  -- ---- tickets of the kinds that are picked, at a place, under the name that it is given there
  module _ (kinds : Kind → Bool) (test : Name → Ticket → Bool) where
    abbrev pub picked : (p q i : ℕ) → Bool
    picked p q i = kinds (ticket_at t p q i).kind

    abbrev pub passes : (p q i : ℕ) → Bool
    passes p q i = test (name_of p q (ticket_at t p q i).number) (ticket_at t p q i)

    pub every_at : every_ticket kinds test t ≡ true → (p q i : ℕ) → p < 4 → q < 8 → i < length (tickets_of t p q) → picked p q i ≡ true → passes p q i ≡ true
    unfolding every_ticket every_ticket_of
    every_at e p q i b c d =
        implies_elim (picked p q i) _
        (all_elim free (λ k. implies (kinds k.kind) (test (name_of p q k.number) k)) (tickets_of t p q)
        (all_at_elim no_program (every_ticket_of kinds test p) (pad_at t p).programs
        (all_at_elim no_pad (λ pad a. all_at (every_ticket_of kinds test pad) 0 a.programs) t.pads e p (pad_low_lem b))
        q (program_low_lem b c)) i d)

    pub every_from : ((p q i : ℕ) → p < 4 → q < 8 → i < length (tickets_of t p q) → picked p q i ≡ true → passes p q i ≡ true) → every_ticket kinds test t ≡ true
    unfolding every_ticket every_ticket_of
    every_from h =
        all_at_intro no_pad (λ pad a. all_at (every_ticket_of kinds test pad) 0 a.programs) t.pads
        (λ p b. all_at_intro no_program (every_ticket_of kinds test p) (pad_at t p).programs
        (λ q c. all_intro free (λ k. implies (kinds k.kind) (test (name_of p q k.number) k)) (tickets_of t p q)
        (λ i d. implies_intro (picked p q i) _
        (let b' : p < 4 = rw z.pads at b in h p q i b' (rw (z.programs p b') at c) d))))

    pub some_at_lem : (p q i : ℕ) → p < 4 → q < 8 → i < length (tickets_of t p q) → (picked p q i && passes p q i) ≡ true → some_ticket kinds test t ≡ true
    unfolding some_ticket some_ticket_of
    some_at_lem p q i b c d e =
        some_at_intro no_pad (λ pad a. some_at (some_ticket_of kinds test pad) 0 a.programs) t.pads p (pad_low_lem b)
        (some_at_intro no_program (some_ticket_of kinds test p) (pad_at t p).programs q (program_low_lem b c)
        (some_intro free (λ k. kinds k.kind && test (name_of p q k.number) k) (tickets_of t p q) i d e))

    -- some ticket: the place that has it
    pub record SomePlace : Type 0 where
      pub pad : ℕ
      pub program : ℕ
      pub place : ℕ
      pub pad_low : pad < 4
      pub program_low : program < 8
      pub place_low : place < length (tickets_of t pad program)
      pub here : (picked pad program place && passes pad program place) ≡ true

    pub some_from : some_ticket kinds test t ≡ true → SomePlace
    unfolding some_ticket some_ticket_of
    some_from e =
        let x : Somewhere no_pad (λ pad a. some_at (some_ticket_of kinds test pad) 0 a.programs) t.pads
        = some_at_elim no_pad (λ pad a. some_at (some_ticket_of kinds test pad) 0 a.programs) t.pads e in
        let y : Somewhere no_program (some_ticket_of kinds test x.place) (pad_at t x.place).programs
        = some_at_elim no_program (some_ticket_of kinds test x.place) (pad_at t x.place).programs x.passes in
        let w = some_elim free (λ k. kinds k.kind && test (name_of x.place y.place k.number) k) (tickets_of t x.place y.place) y.passes in
        let b' : x.place < 4 = rw z.pads at x.low in
        record {
          pad = x.place;
          program = y.place;
          place = w.place;
          pad_low = b';
          program_low = rw (z.programs x.place b') at y.low;
          place_low = w.low;
          here = w.passes;
        }
