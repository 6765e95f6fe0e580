-- The programs of tables after a change, and that the arrays keep their lengths: a program replaced, and tickets removed.
use Prim.Native.Nat.{ℕ, ◌≤◌, ◌<◌}
use native.Mathlib.Omega.{arith}
use mathlib.Core.Path.{◌≡◌, refl, sym, ap, ◌∙◌, subst}
use mathlib.Core.Bool.{Bool, false}
use mathlib.Core.List.{map}
use lib.Dec.{eqb}
use lib.ListN.{length, get_or, set, length-set}
use lib.Seq.{get_or-set_same, get_or-set_other}
use borrow.Author.Tests.{eqb-true, eqb-false}
use Rattle.lists.specs.Lists.{map_at}
use Rattle.lists.proofs.Tests.{Case, pass, fail, case}
use Rattle.lists.proofs.Everywhere.{get_or_map_at, length_map_at}
use Rattle.lists.proofs.Keyed.{dropped_length}
use Rattle.tables.specs.declared.{Name.Name, Program.Program, Pad.Pad, Tables.Tables}
use Rattle.tables.specs.Names.{name_of, same_program, no_program, no_pad}
use Rattle.tables.specs.Lookup.{Sized, pad_at, program_at, tickets_of, last_of}
use Rattle.tables.specs.Change.{with_program, drop_ticket, drop_in_program, drop_in_pad, drop_tickets}
use Rattle.tables.proofs.NameLaws.{program_same, program_apart}
use Rattle.tables.proofs.Keys.{ticket_keys, ticket_laws}

-- ---- tickets removed
module _ (gone : Name → Bool) where
  no_program_lem : (p q : ℕ) → drop_in_program gone p q no_program ≡ no_program
  unfolding drop_in_program
  no_program_lem p q = refl

  no_pad_lem : (p : ℕ) → drop_in_pad gone p no_pad ≡ no_pad
  unfolding drop_in_pad map_at
  no_pad_lem p = refl

  pub dropped_program : (t : Tables) (p q : ℕ) → program_at (drop_tickets gone t) p q ≡ drop_in_program gone p q (program_at t p q)
  unfolding drop_tickets drop_in_pad
  dropped_program t p q =
      ap (λ (x : Pad). get_or x.programs q no_program) (get_or_map_at no_pad (drop_in_pad gone) no_pad_lem t.pads p)
      ∙ get_or_map_at no_program (drop_in_program gone p) (no_program_lem p) (pad_at t p).programs q

  pub dropped_tickets : (t : Tables) (p q : ℕ) → tickets_of (drop_tickets gone t) p q ≡ map (drop_ticket gone p q) (tickets_of t p q)
  unfolding drop_in_program
  dropped_tickets t p q = ap (λ (x : Program). x.tickets) (dropped_program t p q)

  pub dropped_last : (t : Tables) (p q : ℕ) → last_of (drop_tickets gone t) p q ≡ last_of t p q
  unfolding drop_in_program
  dropped_last t p q = ap (λ (x : Program). x.last) (dropped_program t p q)

  tickets_length : (t : Tables) (p q : ℕ) → length (map (drop_ticket gone p q) (tickets_of t p q)) ≡ length (tickets_of t p q)
  unfolding drop_ticket
  tickets_length t p q = dropped_length ticket_keys ticket_laws (λ m. gone (name_of p q m)) (tickets_of t p q)

  pub dropped_sized : (t : Tables) → Sized t → Sized (drop_tickets gone t)
  unfolding drop_tickets drop_in_pad
  dropped_sized t z = record {
    pads = length_map_at (drop_in_pad gone) 0 t.pads ∙ z.pads;
    programs = λ p b.
        ap (λ (x : Pad). length x.programs) (get_or_map_at no_pad (drop_in_pad gone) no_pad_lem t.pads p)
        ∙ length_map_at (drop_in_program gone p) 0 (pad_at t p).programs ∙ z.programs p b;
    tickets = λ p q b c. ap length (dropped_tickets t p q) ∙ tickets_length t p q ∙ z.tickets p q b c;
    entries = z.entries;
  }

-- ---- a program replaced
module _ (t : Tables) (z : Sized t) (p q : ℕ) (p3 : p ≤ 3) (q7 : q ≤ 7) (x : Program) where
  pad_here : pad_at (with_program t p q x) p ≡ record { programs = set (pad_at t p).programs q x }
  unfolding with_program
  pad_here = get_or-set_same t.pads p (record { programs = set (pad_at t p).programs q x }) no_pad (subst (λ (m : ℕ). p < m) (sym z.pads) (omega arith))

  pad_beside : (p' : ℕ) → (p' ≡ p → ⊥) → pad_at (with_program t p q x) p' ≡ pad_at t p'
  unfolding with_program
  pad_beside p' ne = get_or-set_other t.pads p p' (record { programs = set (pad_at t p).programs q x }) no_pad ne

  pub program_here : program_at (with_program t p q x) p q ≡ x
  program_here =
      ap (λ (a : Pad). get_or a.programs q no_program) pad_here
      ∙ get_or-set_same (pad_at t p).programs q x no_program (subst (λ (m : ℕ). q < m) (sym (z.programs p (omega arith))) (omega arith))

  pub program_beside : (p' q' : ℕ) → same_program p' q' p q ≡ false → program_at (with_program t p q x) p' q' ≡ program_at t p' q'
  program_beside p' q' e = go (case (eqb p' p))
    where
      go : Case (eqb p' p) → program_at (with_program t p q x) p' q' ≡ program_at t p' q'
      go (fail h) = ap (λ (a : Pad). get_or a.programs q' no_program) (pad_beside p' (eqb-false p' p h))
      go (pass h) =
          let s : p' ≡ p = eqb-true p' p h in
          subst (λ (m : ℕ). program_at (with_program t p q x) m q' ≡ program_at t m q') (sym s)
          (ap (λ (a : Pad). get_or a.programs q' no_program) pad_here
          ∙ get_or-set_other (pad_at t p).programs q q' x no_program (λ w. program_apart p' q' p q e s w))

  pads_with : length (with_program t p q x).pads ≡ 4
  unfolding with_program
  pads_with = length-set t.pads p (record { programs = set (pad_at t p).programs q x }) ∙ z.pads

  entries_with : length (with_program t p q x).entries ≡ 256
  unfolding with_program
  entries_with = z.entries

  pub sized_with : length x.tickets ≡ 8 → Sized (with_program t p q x)
  sized_with len = record {
    pads = pads_with;
    programs = λ p' b. programs_length p' b (case (eqb p' p));
    tickets = λ p' q' b c. tickets_length_at p' q' b c (case (same_program p' q' p q));
    entries = entries_with;
  }
    where
      programs_length : (p' : ℕ) → p' < 4 → Case (eqb p' p) → length (pad_at (with_program t p q x) p').programs ≡ 8
      programs_length p' b (fail h) = ap (λ (a : Pad). length a.programs) (pad_beside p' (eqb-false p' p h)) ∙ z.programs p' b
      programs_length p' b (pass h) =
          subst (λ (m : ℕ). length (pad_at (with_program t p q x) m).programs ≡ 8) (sym (eqb-true p' p h))
          (ap (λ (a : Pad). length a.programs) pad_here ∙ length-set (pad_at t p).programs q x ∙ z.programs p (omega arith))

      tickets_length_at : (p' q' : ℕ) → p' < 4 → q' < 8 → Case (same_program p' q' p q) → length (tickets_of (with_program t p q x) p' q') ≡ 8
      tickets_length_at p' q' b c (fail h) = ap (λ (a : Program). length a.tickets) (program_beside p' q' h) ∙ z.tickets p' q' b c
      tickets_length_at p' q' b c (pass h) =
          let s = program_same p' q' p q h in
          rw (s.pad, s.program) (ap (λ (a : Program). length a.tickets) program_here ∙ len)
