-- The worked cases M1 to M11 of document 01, each from an emptied dock: one table.
use mathlib.Core.List.{List, [], ◌∷◌, ◌++◌}
use Rattle.machine.proofs.CaseLines.{Line, line, gives}

-- M1, the whole case
abbrev pub m1 : List Line
m1 =
    line 0 0 1 0 0 0 0 4 7 0 (gives 0 1 0 0) ∷
    line 0 0 2 1 0 1 0 2 3 0 (gives 0 2 1 0) ∷
    line 0 0 2 1 1 0 2 2 1 0 (gives 0 3 1 0) ∷
    line 0 1 6 1 0 0 1 0 0 9 (gives 0 0 0 0) ∷
    line 0 0 5 1 0 0 1 0 0 0 (gives 0 0 0 9) ∷
    line 1 0 6 1 0 0 0 0 0 9 (gives 7 0 0 0) ∷
    line 0 0 3 2 0 0 0 0 0 0 (gives 0 0 0 0) ∷
    line 0 1 5 1 0 0 1 0 0 0 (gives 4 0 0 0) ∷
    line 0 0 3 3 0 0 0 0 0 0 (gives 0 0 0 0) ∷
    line 1 0 5 1 0 0 0 0 0 0 (gives 12 0 0 0) ∷
    line 1 0 5 1 0 0 0 0 0 0 (gives 4 0 0 0) ∷
    []

-- M2. Empty dock: take 256 accepted, then take 1 is 11.
abbrev pub m2 : List Line
m2 =
    line 0 0 1 0 0 0 0 256 7 0 (gives 0 1 0 0) ∷
    line 0 0 1 0 0 0 0 1 7 0 (gives 11 0 0 0) ∷
    []

-- M3. Take 257 is 3.
abbrev pub m3 : List Line
m3 =
    line 0 0 1 0 0 0 0 257 7 0 (gives 3 0 0 0) ∷
    []

-- M4. Four-sheet grant: read at 3 accepted, at 4 is 6.
abbrev pub m4 : List Line
m4 =
    line 0 0 1 0 0 0 0 4 7 0 (gives 0 1 0 0) ∷
    line 0 0 5 1 0 0 3 0 0 0 (gives 0 0 0 0) ∷
    line 0 0 5 1 0 0 4 0 0 0 (gives 6 0 0 0) ∷
    []

-- M5. Pass 2 from first 2 accepted, 3 from first 2 is 6.
abbrev pub m5 : List Line
m5 =
    line 0 0 1 0 0 0 0 4 7 0 (gives 0 1 0 0) ∷
    line 0 0 2 1 0 1 2 2 1 0 (gives 0 2 1 0) ∷
    line 0 0 2 1 0 1 2 3 1 0 (gives 6 0 0 0) ∷
    []

-- seven takes of one sheet by program 0 of pad 0
abbrev pub seven_takes : List Line
seven_takes =
    line 0 0 1 0 0 0 0 1 7 0 (gives 0 1 0 0) ∷
    line 0 0 1 0 0 0 0 1 7 0 (gives 0 2 0 0) ∷
    line 0 0 1 0 0 0 0 1 7 0 (gives 0 3 0 0) ∷
    line 0 0 1 0 0 0 0 1 7 0 (gives 0 4 0 0) ∷
    line 0 0 1 0 0 0 0 1 7 0 (gives 0 5 0 0) ∷
    line 0 0 1 0 0 0 0 1 7 0 (gives 0 6 0 0) ∷
    line 0 0 1 0 0 0 0 1 7 0 (gives 0 7 0 0) ∷
    []

-- M6. Eighth take of one sheet accepted, ninth is 9.
abbrev pub m6 : List Line
m6 =
    seven_takes ++
    line 0 0 1 0 0 0 0 1 7 0 (gives 0 8 0 0) ∷
    line 0 0 1 0 0 0 0 1 7 0 (gives 9 0 0 0) ∷
    []

-- M7. With seven tickets a pass finds the asker's place, with eight it is 9.
abbrev pub m7 : List Line
m7 =
    seven_takes ++
    line 0 0 2 1 0 1 0 1 1 0 (gives 0 8 1 0) ∷
    line 0 0 2 1 0 1 0 1 1 0 (gives 9 0 0 0) ∷
    []

-- M8. Pad 3 program 7 may take; pad 4 is 1, program 8 is 1. Op 0 and op 7 are 2.
abbrev pub m8 : List Line
m8 =
    line 3 7 1 0 0 0 0 1 7 0 (gives 0 1 0 0) ∷
    line 4 0 1 0 0 0 0 1 7 0 (gives 1 0 0 0) ∷
    line 0 8 1 0 0 0 0 1 7 0 (gives 1 0 0 0) ∷
    line 0 0 0 0 0 0 0 0 0 0 (gives 2 0 0 0) ∷
    line 0 0 7 0 0 0 0 0 0 0 (gives 2 0 0 0) ∷
    []

-- M9. Read of a dead ticket with count 1 is 3, with count 0 is 4.
abbrev pub m9 : List Line
m9 =
    line 0 0 5 1 0 0 0 1 0 0 (gives 3 0 0 0) ∷
    line 0 0 5 1 0 0 0 0 0 0 (gives 4 0 0 0) ∷
    []

-- M10. A pass to oneself is 8, and stays 8 where it asks for more sheets than the ticket has.
abbrev pub m10 : List Line
m10 =
    line 0 0 1 0 0 0 0 1 7 0 (gives 0 1 0 0) ∷
    line 0 0 2 1 0 0 0 1 1 0 (gives 8 0 0 0) ∷
    line 0 0 2 1 0 0 0 2 1 0 (gives 8 0 0 0) ∷
    []

-- M11. Write 9, give back, take again, read: byte 0.
abbrev pub m11 : List Line
m11 =
    line 0 0 1 0 0 0 0 1 7 0 (gives 0 1 0 0) ∷
    line 0 0 6 1 0 0 0 0 0 9 (gives 0 0 0 0) ∷
    line 0 0 5 1 0 0 0 0 0 0 (gives 0 0 0 9) ∷
    line 0 0 4 1 0 0 0 0 0 0 (gives 0 0 0 0) ∷
    line 0 0 1 0 0 0 0 1 7 0 (gives 0 2 0 0) ∷
    line 0 0 5 2 0 0 0 0 0 0 (gives 0 0 0 0) ∷
    []

abbrev pub worked_cases : List (List Line)
worked_cases = m1 ∷ m2 ∷ m3 ∷ m4 ∷ m5 ∷ m6 ∷ m7 ∷ m8 ∷ m9 ∷ m10 ∷ m11 ∷ []
