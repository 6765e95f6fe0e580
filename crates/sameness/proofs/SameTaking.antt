-- Tables that are the same are the same after an accepted take: the new name and the run taken are the same on both sides, and so
-- are the new grant and its entry; nothing else changes on either.
use Prim.Native.Nat.{ℕ, ◌<◌}
use mathlib.Core.Path.{◌≡◌, sym, ap, ◌∙◌, subst}
use Rattle.lists.proofs.Tests.{Case, pass, fail, case}
use Rattle.tables.specs.declared.{Name.Name, Program.Program, Tables.Tables}
use Rattle.tables.specs.Names.{eq_name, same_program}
use Rattle.tables.specs.Lookup.{last_of, lookup, entry_of}
use Rattle.tables.specs.Change.{new_name}
use Rattle.tables.specs.Same.{said, said_entry, SameTables}
use Rattle.tables.proofs.NameLaws.{eq_name_true, eq_name_ne, program_same}
use Rattle.best_fit.specs.BestFit.{best_fit}
use Rattle.machine.specs.declared.Request.{Request}
use Rattle.machine.specs.Take.{take_tables}
use Rattle.preservation.specs.InOrder.{InOrder}
use Rattle.preservation.proofs.Taking.{MayTake, TakeEffect, take_effect}
use Rattle.sameness.proofs.SaidFacts.{new_name_same}
use Rattle.sameness.proofs.SamePlaces.{run_same}

-- one name x and one first sheet on both sides
module _ (t u t' u' : Tables) (same : SameTables t u) (r : Request) (x : Name) (first : ℕ)
    (a : TakeEffect t t' r x first) (b : TakeEffect u u' r x first) where
  last_at : (p q : ℕ) → p < 4 → q < 8 → Case (same_program p q r.pad r.program) → last_of t' p q ≡ last_of u' p q
  last_at p q c d (pass e) = let s = program_same p q r.pad r.program e in rw (s.pad, s.program) (a.last ∙ sym b.last)
  last_at p q c d (fail e) =
      ap (λ (g : Program). g.last) (a.programs p q e) ∙ same.lasts p q c d ∙ ap (λ (g : Program). g.last) (sym (b.programs p q e))

  ticket_at_lem : (n : Name) → Case (eq_name n x) → said (lookup t' n) ≡ said (lookup u' n)
  ticket_at_lem n (pass e) = ap said (rw (eq_name_true n x e) (a.ticket ∙ sym b.ticket))
  ticket_at_lem n (fail e) =
      let ne = eq_name_ne n x e in
      ap said (a.tickets n ne) ∙ same.tickets n ∙ ap said (sym (b.tickets n ne))

  entry_at : (n : Name) → Case (eq_name n x) → said_entry (entry_of t' n) ≡ said_entry (entry_of u' n)
  entry_at n (pass e) = ap said_entry (rw (eq_name_true n x e) (a.entry ∙ sym b.entry))
  entry_at n (fail e) =
      let ne = eq_name_ne n x e in
      ap said_entry (a.entries n ne) ∙ same.entries n ∙ ap said_entry (sym (b.entries n ne))

  same_effect : SameTables t' u'
  same_effect = record {
    lasts = λ p q c d. last_at p q c d (case (same_program p q r.pad r.program));
    tickets = λ n. ticket_at_lem n (case (eq_name n x));
    entries = λ n. entry_at n (case (eq_name n x));
  }

pub same_after_take : (t u : Tables) → InOrder t → InOrder u → SameTables t u → (r : Request) → MayTake t r → MayTake u r
    → SameTables (take_tables t r) (take_tables u r)
same_after_take t u ok ok' same r may may' =
    let name : new_name u r.pad r.program ≡ new_name t r.pad r.program
    = sym (new_name_same t u same r.pad r.program may.pad may.program) in
    let run : best_fit u.entries r.count ≡ best_fit t.entries r.count = sym (run_same t u ok ok' same r.count) in
    same_effect t u (take_tables t r) (take_tables u r) same r (new_name t r.pad r.program) (best_fit t.entries r.count) (take_effect t ok r may)
    (subst (λ (x : Name). TakeEffect u (take_tables u r) r x (best_fit t.entries r.count)) name
    (subst (TakeEffect u (take_tables u r) r (new_name u r.pad r.program)) run (take_effect u ok' r may')))
