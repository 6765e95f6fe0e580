-- The tables that lines give, whatever the dock names and last numbers: their programs, their lengths.
use Prim.Native.Nat.{ℕ, ◌<◌}
use mathlib.Core.Path.{◌≡◌, ap, ◌∙◌}
use mathlib.Core.List.{List, map}
use lib.ListN.{length, get_or}
use Rattle.lists.specs.Lists.{keep, filled}
use Rattle.lists.specs.Parts.{tabulate}
use Rattle.lists.proofs.PartLaws.{length_tabulate, get_or_tabulate}
use Rattle.lists.proofs.Filled.{filled_long}
use Rattle.tables.specs.declared.{Name.Name, Program.Program, Pad.Pad}
use Rattle.tables.specs.Names.{free, no_entry, no_program, no_pad}
use Rattle.tables.specs.Lookup.{Sized, program_at, tickets_of, last_of}
use Rattle.saved.specs.declared.Row.{Row}
use Rattle.saved.specs.Load.{ticket_of_program, ticket_from, program_from, tables_with}

module _ (docks : Name → Name) (lasts : ℕ → ℕ → ℕ) (rows : List Row) where
  pub program_at_lem : (p q : ℕ) → p < 4 → q < 8 → program_at (tables_with docks lasts rows) p q ≡ program_from docks lasts rows p q
  unfolding tables_with
  program_at_lem p q b c =
      ap (λ (a : Pad). get_or a.programs q no_program) (get_or_tabulate 4 (λ pad. record { programs = tabulate 8 (program_from docks lasts rows pad) }) p no_pad b)
      ∙ get_or_tabulate 8 (program_from docks lasts rows p) q no_program c

  pub with_sized : Sized (tables_with docks lasts rows)
  unfolding tables_with program_from
  with_sized = record {
    pads = length_tabulate 4 (λ pad. record { programs = tabulate 8 (program_from docks lasts rows pad) });
    programs = λ p b.
        ap (λ (a : Pad). length a.programs) (get_or_tabulate 4 (λ pad. record { programs = tabulate 8 (program_from docks lasts rows pad) }) p no_pad b)
        ∙ length_tabulate 8 (program_from docks lasts rows p);
    tickets = λ p q b c. ap (λ (a : Program). length a.tickets) (program_at_lem p q b c) ∙ filled_long 8 free _;
    entries = filled_long 256 no_entry _;
  }

  pub with_tickets : (p q : ℕ) → p < 4 → q < 8
      → tickets_of (tables_with docks lasts rows) p q ≡ filled 8 free (map (ticket_from docks) (keep (ticket_of_program p q) rows))
  unfolding program_from
  with_tickets p q b c = ap (λ (a : Program). a.tickets) (program_at_lem p q b c)

  pub with_last_lem : (p q : ℕ) → p < 4 → q < 8 → last_of (tables_with docks lasts rows) p q ≡ lasts p q
  unfolding program_from
  with_last_lem p q b c = ap (λ (a : Program). a.last) (program_at_lem p q b c)
