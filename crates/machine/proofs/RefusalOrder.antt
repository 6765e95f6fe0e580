-- Which refusal comes first: for neighbours in document 01's lists of refusals a line to which both apply, where there can be one, and
-- for each field the numbers past its range. 8 before 6 is M10, count 257 is M3; 13, 14 and the dock's list are in EdgeCases.
use Prim.Native.Nat.{ℕ}
use mathlib.Core.List.{List, [], ◌∷◌}
use Rattle.tables.specs.declared.Tables.{Tables}
use Rattle.tables.specs.Names.{name_of, empty_tables}
use Rattle.tables.proofs.Building.{with_taken, with_stale, with_last}
use Rattle.machine.proofs.CaseLines.{Line, line, gives}

-- ---- from an emptied dock
-- every operation: 1 before 2, 2 before 3, 3 before 4
abbrev pub early_refusals : List Line
early_refusals =
    line 4 0 0 0 0 0 0 0 0 0 (gives 1 0 0 0) ∷
    line 0 0 7 1 1 1 1 1 1 0 (gives 2 0 0 0) ∷
    line 0 0 5 1 0 0 256 0 0 0 (gives 3 0 0 0) ∷
    line 0 0 5 1 0 0 255 0 0 0 (gives 4 0 0 0) ∷
    []

-- the ranges of used fields, and unused ones that are not 0
abbrev pub field_ranges : List Line
field_ranges =
    line 0 0 1 0 0 0 0 0 7 0 (gives 3 0 0 0) ∷
    line 0 0 1 0 0 0 0 1 0 0 (gives 3 0 0 0) ∷
    line 0 0 1 0 0 0 0 1 8 0 (gives 3 0 0 0) ∷
    line 0 0 1 1 0 0 0 1 7 0 (gives 3 0 0 0) ∷
    line 0 0 1 0 1 0 0 1 7 0 (gives 3 0 0 0) ∷
    line 0 0 1 0 0 1 0 1 7 0 (gives 3 0 0 0) ∷
    line 0 0 1 0 0 0 1 1 7 0 (gives 3 0 0 0) ∷
    line 0 0 2 0 0 1 0 1 1 0 (gives 3 0 0 0) ∷
    line 0 0 2 1 4 0 0 1 1 0 (gives 3 0 0 0) ∷
    line 0 0 2 1 0 8 0 1 1 0 (gives 3 0 0 0) ∷
    line 0 0 2 1 3 7 255 256 7 0 (gives 4 0 0 0) ∷
    line 0 0 3 0 0 0 0 0 0 0 (gives 3 0 0 0) ∷
    line 0 0 3 1 1 0 0 0 0 0 (gives 3 0 0 0) ∷
    line 0 0 3 1 0 1 0 0 0 0 (gives 3 0 0 0) ∷
    line 0 0 3 1 0 0 1 0 0 0 (gives 3 0 0 0) ∷
    line 0 0 4 1 1 0 0 0 0 0 (gives 3 0 0 0) ∷
    line 0 0 4 1 0 1 0 0 0 0 (gives 3 0 0 0) ∷
    line 0 0 4 1 0 0 1 0 0 0 (gives 3 0 0 0) ∷
    line 0 0 4 1 0 0 0 0 1 0 (gives 3 0 0 0) ∷
    line 0 0 5 1 1 0 0 0 0 0 (gives 3 0 0 0) ∷
    line 0 0 5 1 0 1 0 0 0 0 (gives 3 0 0 0) ∷
    line 0 0 6 1 1 0 0 0 0 0 (gives 3 0 0 0) ∷
    line 0 0 6 1 0 1 0 0 0 0 (gives 3 0 0 0) ∷
    []

-- A capture program takes sheets 0, then 1 and 2, and lends the last to its pad's viewer to read, and to a nurse's pad with the right
-- to pass on, who lends it on to a third pad.
abbrev pub ward : List Line
ward =
    line 0 0 1 0 0 0 0 1 7 0 (gives 0 1 0 0) ∷
    line 0 0 1 0 0 0 0 2 7 0 (gives 0 2 0 0) ∷
    line 0 0 6 2 0 0 1 0 0 9 (gives 0 0 0 0) ∷
    line 0 0 2 2 0 1 1 1 1 0 (gives 0 3 1 0) ∷
    line 0 0 2 2 1 0 1 1 5 0 (gives 0 4 1 0) ∷
    line 1 0 2 1 2 0 0 1 1 0 (gives 0 2 1 0) ∷
    line 0 1 5 1 0 0 0 0 0 0 (gives 0 0 0 9) ∷
    line 2 0 5 1 0 0 0 0 0 0 (gives 0 0 0 9) ∷
    -- pass: 4 before 8, 5 before 8, 6 before 7, 7 for want of the pass on right
    line 0 0 2 9 0 0 0 1 1 0 (gives 4 0 0 0) ∷
    line 0 0 2 3 0 0 0 1 1 0 (gives 5 0 0 0) ∷
    line 0 1 2 1 0 2 0 2 1 0 (gives 6 0 0 0) ∷
    line 0 1 2 1 0 2 0 1 1 0 (gives 7 0 0 0) ∷
    -- read and write: 5 before 6, 6 before 7
    line 0 0 5 3 0 0 0 0 0 0 (gives 5 0 0 0) ∷
    line 0 1 6 1 0 0 1 0 0 9 (gives 6 0 0 0) ∷
    line 0 1 6 1 0 0 0 0 0 9 (gives 7 0 0 0) ∷
    -- recall of a grant, give back of a recall, of a child and of a received grant
    line 0 0 3 2 0 0 0 0 0 0 (gives 5 0 0 0) ∷
    line 0 0 4 3 0 0 0 0 0 0 (gives 5 0 0 0) ∷
    line 0 1 4 1 0 0 0 0 0 0 (gives 5 0 0 0) ∷
    line 1 0 4 1 0 0 0 0 0 0 (gives 5 0 0 0) ∷
    -- the recall ends the loan at the third pad too, and is spent itself
    line 0 0 3 4 0 0 0 0 0 0 (gives 0 0 0 0) ∷
    line 0 0 3 4 0 0 0 0 0 0 (gives 4 0 0 0) ∷
    line 2 0 6 1 0 0 0 0 0 9 (gives 7 0 0 0) ∷
    line 2 0 5 1 0 0 0 0 0 0 (gives 12 0 0 0) ∷
    line 2 0 5 1 0 0 0 0 0 0 (gives 4 0 0 0) ∷
    -- the nurse's stale grant: passed on its pad, refused to another, where 12 drops it and the child under it
    line 1 0 2 1 1 1 0 1 1 0 (gives 0 3 1 0) ∷
    line 1 0 2 1 3 0 0 1 1 0 (gives 12 0 0 0) ∷
    line 1 1 5 1 0 0 0 0 0 0 (gives 4 0 0 0) ∷
    line 1 0 3 3 0 0 0 0 0 0 (gives 4 0 0 0) ∷
    line 0 1 5 1 0 0 0 0 0 0 (gives 0 0 0 9) ∷
    -- a child lends off the pad, under the entry of its dock name; the give back ends it everywhere
    line 0 0 2 2 0 2 1 1 5 0 (gives 0 5 1 0) ∷
    line 0 2 2 1 1 0 0 1 1 0 (gives 0 2 4 0) ∷
    line 1 0 5 4 0 0 0 0 0 0 (gives 0 0 0 9) ∷
    line 0 0 4 2 0 0 0 0 0 0 (gives 0 0 0 0) ∷
    line 1 0 5 4 0 0 0 0 0 0 (gives 12 0 0 0) ∷
    line 0 2 3 2 0 0 0 0 0 0 (gives 4 0 0 0) ∷
    []

abbrev pub refusals_from_empty : List (List Line)
refusals_from_empty = early_refusals ∷ field_ranges ∷ ward ∷ []

-- ---- from tables with spent numbers, full programs and no free sheet
-- a program that holds the last eight of its numbers
with_full : ℕ → ℕ → Tables → Tables
with_full pad program t =
    let grant : ℕ → Tables → Tables = λ number. with_stale (name_of pad program number) 0 1 7 in
    grant 65535 (grant 65534 (grant 65533 (grant 65532 (grant 65531 (grant 65530 (grant 65529 (grant 65528 t)))))))

-- Program 0 of pad 3 took all 256 sheets. Programs 0 of pad 0 and of pad 1 are full and spent, programs 1 are spent. Programs 2 of pad 0
-- and 3 of pad 0 hold a stale grant each, the second without the pass on right.
unfoldable pub exhausted : Tables
unfolding with_full
exhausted =
    let taken = with_taken (name_of 3 0 1) 0 256 7 empty_tables in
    let full = with_full 0 0 (with_full 1 0 (with_last 0 1 65535 (with_last 1 1 65535 taken))) in
    with_stale (name_of 0 2 1) 0 1 7 (with_stale (name_of 0 3 1) 0 1 3 full)

abbrev pub exhaustion : List Line
exhaustion =
    -- take: 9 before 10, 10 before 11, 11
    line 0 0 1 0 0 0 0 1 7 0 (gives 9 0 0 0) ∷
    line 0 1 1 0 0 0 0 1 7 0 (gives 10 0 0 0) ∷
    line 0 4 1 0 0 0 0 1 7 0 (gives 11 0 0 0) ∷
    -- pass: 7 before 9, then the asker's and the recipient's 9 before 10
    line 0 3 2 1 1 0 0 1 1 0 (gives 7 0 0 0) ∷
    line 0 0 2 65528 1 2 0 1 7 0 (gives 9 0 0 0) ∷
    line 0 2 2 1 1 0 0 1 7 0 (gives 9 0 0 0) ∷
    -- the recipient's 10 before 12, also on the same pad, then 12
    line 0 2 2 1 1 1 0 1 7 0 (gives 10 0 0 0) ∷
    line 0 2 2 1 0 1 0 1 7 0 (gives 10 0 0 0) ∷
    line 0 2 2 1 1 2 0 1 7 0 (gives 12 0 0 0) ∷
    []
