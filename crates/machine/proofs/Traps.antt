-- The traps of this trade, as document 01 lists them and document 02's first request adds one: each is a case that a machine which falls
-- into it fails. Each starts from an emptied dock.
use mathlib.Core.List.{List, [], ◌∷◌}
use Rattle.machine.proofs.CaseLines.{Line, line, gives}

-- "Naming an entry by its table place: after a recall, a stale received grant would open the next patient's sheets."
abbrev pub stale_grant : List Line
stale_grant =
    line 0 0 1 0 0 0 0 1 7 0 (gives 0 1 0 0) ∷
    line 0 0 2 1 1 0 0 1 1 0 (gives 0 2 1 0) ∷
    line 0 0 3 2 0 0 0 0 0 0 (gives 0 0 0 0) ∷
    line 2 0 1 0 0 0 0 1 7 0 (gives 0 1 0 0) ∷
    line 2 0 6 1 0 0 0 0 0 9 (gives 0 0 0 0) ∷
    line 1 0 5 1 0 0 0 0 0 0 (gives 12 0 0 0) ∷
    []

-- "Comparing rights by size: 3 is below 4 but not within it."
abbrev pub rights_by_size : List Line
rights_by_size =
    line 0 0 1 0 0 0 0 1 4 0 (gives 0 1 0 0) ∷
    line 0 0 2 1 0 1 0 1 3 0 (gives 7 0 0 0) ∷
    line 0 0 2 1 0 1 0 1 4 0 (gives 0 2 1 0) ∷
    []

-- "Recalling the child and leaving what it lent further on its pad."
abbrev pub lent_further : List Line
lent_further =
    line 0 0 1 0 0 0 0 1 7 0 (gives 0 1 0 0) ∷
    line 0 0 2 1 0 1 0 1 7 0 (gives 0 2 1 0) ∷
    line 0 1 2 1 0 2 0 1 1 0 (gives 0 2 1 0) ∷
    line 0 0 3 2 0 0 0 0 0 0 (gives 0 0 0 0) ∷
    line 0 1 5 1 0 0 0 0 0 0 (gives 4 0 0 0) ∷
    line 0 1 3 2 0 0 0 0 0 0 (gives 4 0 0 0) ∷
    line 0 2 5 1 0 0 0 0 0 0 (gives 4 0 0 0) ∷
    []

-- "Finding a ticket by number without asking whose it is."
abbrev pub others_ticket : List Line
others_ticket =
    line 0 0 1 0 0 0 0 1 7 0 (gives 0 1 0 0) ∷
    line 0 1 5 1 0 0 0 0 0 0 (gives 4 0 0 0) ∷
    line 1 0 5 1 0 0 0 0 0 0 (gives 4 0 0 0) ∷
    []

-- "Trusting the pad's check and skipping the dock's." The sheets were given back; the other pad's tickets are stale, its child's use
-- drops the grant at the head and all under it.
abbrev pub dock_skipped : List Line
dock_skipped =
    line 0 0 1 0 0 0 0 1 7 0 (gives 0 1 0 0) ∷
    line 0 0 2 1 1 0 0 1 7 0 (gives 0 2 1 0) ∷
    line 1 0 2 1 1 1 0 1 3 0 (gives 0 2 1 0) ∷
    line 0 0 4 1 0 0 0 0 0 0 (gives 0 0 0 0) ∷
    line 1 1 6 1 0 0 0 0 0 9 (gives 12 0 0 0) ∷
    line 1 1 6 1 0 0 0 0 0 9 (gives 4 0 0 0) ∷
    line 1 0 5 1 0 0 0 0 0 0 (gives 4 0 0 0) ∷
    line 1 0 3 2 0 0 0 0 0 0 (gives 4 0 0 0) ∷
    []

-- 02, 1/13: "A capture program lent to the viewer, the viewer lent on to the nurse's pad, and the capture program recalled its loan. .. The
-- wards now require that the loan end everywhere."
abbrev pub lent_off_the_pad : List Line
lent_off_the_pad =
    line 0 0 1 0 0 0 0 1 7 0 (gives 0 1 0 0) ∷
    line 0 0 2 1 0 1 0 1 5 0 (gives 0 2 1 0) ∷
    line 0 1 2 1 1 0 0 1 1 0 (gives 0 2 1 0) ∷
    line 1 0 5 1 0 0 0 0 0 0 (gives 0 0 0 0) ∷
    line 0 0 3 2 0 0 0 0 0 0 (gives 0 0 0 0) ∷
    line 1 0 5 1 0 0 0 0 0 0 (gives 12 0 0 0) ∷
    line 1 0 5 1 0 0 0 0 0 0 (gives 4 0 0 0) ∷
    []

-- "each other-pad recall among the tickets it removes, and all below": loans at two depths of the pad, on over three pads and back to the
-- first, and one that was recalled before; the loan beside them stands
abbrev pub lent_over_three_pads : List Line
lent_over_three_pads =
    line 0 0 1 0 0 0 0 8 7 0 (gives 0 1 0 0) ∷
    line 0 0 2 1 0 1 0 8 7 0 (gives 0 2 1 0) ∷
    line 0 1 2 1 1 0 0 4 7 0 (gives 0 2 1 0) ∷
    line 1 0 2 1 2 0 0 2 7 0 (gives 0 2 1 0) ∷
    line 2 0 2 1 0 2 0 1 1 0 (gives 0 2 1 0) ∷
    line 0 0 2 1 1 1 4 2 1 0 (gives 0 3 1 0) ∷
    line 0 1 2 1 0 3 0 8 7 0 (gives 0 3 1 0) ∷
    line 0 3 2 1 3 0 4 2 1 0 (gives 0 2 1 0) ∷
    line 0 1 2 1 3 1 7 1 1 0 (gives 0 4 1 0) ∷
    line 0 1 3 4 0 0 0 0 0 0 (gives 0 0 0 0) ∷
    line 0 0 3 2 0 0 0 0 0 0 (gives 0 0 0 0) ∷
    line 1 0 5 1 0 0 3 0 0 0 (gives 12 0 0 0) ∷
    line 2 0 2 1 3 3 0 1 1 0 (gives 12 0 0 0) ∷
    line 0 2 5 1 0 0 0 0 0 0 (gives 12 0 0 0) ∷
    line 0 2 5 1 0 0 0 0 0 0 (gives 4 0 0 0) ∷
    line 3 0 5 1 0 0 0 0 0 0 (gives 12 0 0 0) ∷
    line 3 1 5 1 0 0 0 0 0 0 (gives 12 0 0 0) ∷
    line 1 1 5 1 0 0 0 0 0 0 (gives 0 0 0 0) ∷
    line 0 0 5 1 0 0 7 0 0 0 (gives 0 0 0 0) ∷
    []

abbrev pub traps : List (List Line)
traps = stale_grant ∷ rights_by_size ∷ lent_further ∷ others_ticket ∷ dock_skipped ∷ lent_off_the_pad ∷ lent_over_three_pads ∷ []
