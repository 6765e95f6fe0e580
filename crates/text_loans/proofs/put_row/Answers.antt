use Prim.Native.Nat.{ℕ, ◌+◌, ◌≤◌}
use mathlib.Core.Path.{sym, subst}
use mathlib.Core.List.{List}
use lib.ListN.{length}
use Rattle.text.specs.Appending.{highest_count}
use Rattle.text.proofs.Appending.{append_as}
use Rattle.text_loans.proofs.Places.{row_values}
use Rattle.text_loans.proofs.put_row.Goals as goal

pub append_values-requires : goal.append_values-requires
append_values-requires c =
    let line = row_values c.args.image.now c.args.place c.requires.1.0.here c.args.depth _ c.ticket_at-k.ensures in
    subst (λ (l : List ℕ). c.args.at + length l ≤ highest_count) (sym line) c.requires.1.1

pub returns : goal.returns
returns c =
    let line = row_values c.args.image.now c.args.place c.requires.1.0.here c.args.depth _ c.ticket_at-k.ensures in
    append_as _ _ _ _ _ _ line c.append_values.ensures
