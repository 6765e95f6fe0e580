-- A program's ticket of one number: those of its eight places that have the number are those of that name.
use Prim.Native.Nat.{ℕ, ◌+◌, ◌*◌, ◌/◌, ◌%◌, ◌<◌}
use native.Mathlib.Omega.{arith}
use mathlib.Core.Path.{◌≡◌, refl, ap, ◌∙◌}
use mathlib.Core.Bool.{Bool, true, false, ◌&&◌}
use lib.Dec.{eqb}
use borrow.Author.Tests.{eqb-true, eq-eqb, leb-true, le-leb, ltb-true, lt-ltb}
use Rattle.lists.proofs.Tests.{both_ways, and_l, and_r, and_intro}
use Rattle.tables.specs.declared.{Name.Name, Ticket.Ticket}
use Rattle.tables.specs.Kinds.{is_live}
use Rattle.tables.specs.Names.{eq_name}
use Rattle.tables.specs.Lookup.{has_number}
use Rattle.image_places.specs.Places.{name_at, start_of}
use Rattle.op_clear_tickets.specs.Cleared.{among}
use Rattle.op_clear_tickets.proofs.Laws.{is_among}

live_first : (w l e : Bool) → (w && (l && e)) ≡ (l && (w && e))
live_first true l e = refl
live_first false true e = refl
live_first false false e = refl

module _ (n : Name) (pad : n.pad < 4) (program : n.program < 8) where
  -- the program's places, and the pad and program of a place
  of_program_lem : (p : ℕ) → among (start_of n) 8 p ≡ (eqb (p / 64) n.pad && eqb (p / 8 % 8) n.program)
  of_program_lem p =
      both_ways (among (start_of n) 8 p) (eqb (p / 64) n.pad && eqb (p / 8 % 8) n.program)
      (λ e.
      let w = is_among (start_of n) 8 p e in
      let low = leb-true (start_of n) p w.low in
      let high = ltb-true p (start_of n + 8) w.high in
      let m : p / 8 ≡ 8 * n.pad + n.program = omega (arith, low, high) in
      and_intro (eq-eqb (p / 64) n.pad (omega (arith, m, program))) (eq-eqb (p / 8 % 8) n.program (omega (arith, m, program))))
      (λ e.
      let a = eqb-true (p / 64) n.pad (and_l (eqb (p / 64) n.pad) (eqb (p / 8 % 8) n.program) e) in
      let b = eqb-true (p / 8 % 8) n.program (and_r (eqb (p / 64) n.pad) (eqb (p / 8 % 8) n.program) e) in
      let m : p / 8 ≡ 8 * n.pad + n.program = omega (arith, a, b) in
      and_intro (le-leb (start_of n) p (omega (arith, m))) (lt-ltb p (start_of n + 8) (omega (arith, m))))

  pub by_name : (p : ℕ) (k : Ticket) → (among (start_of n) 8 p && has_number n.number k) ≡ (is_live k.kind && eq_name (name_at p k) n)
  unfolding has_number eq_name
  by_name p k =
      ap (λ (b : Bool). b && (is_live k.kind && eqb k.number n.number)) (of_program_lem p)
      ∙ live_first (eqb (p / 64) n.pad && eqb (p / 8 % 8) n.program) (is_live k.kind) (eqb k.number n.number)
