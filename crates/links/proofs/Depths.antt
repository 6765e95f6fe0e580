-- How far chains of loans go: 31 links are reached.
use Prim.Native.Nat.{ℕ, suc, ◌+◌, ◌*◌, ◌/◌, ◌%◌}
use mathlib.Core.Path.{refl}
use mathlib.Core.List.{List, ◌∷◌, replicate}
use Rattle.lists.specs.Parts.{tabulate}
use Rattle.machine.specs.Sequence.{Sent}
use Rattle.machine.proofs.CaseLines.{Line, line, gives}

-- a line as a sequence has it
abbrev pub sent : Line → Sent
sent l = record { request = l.request; sheet = replicate 64 l.fill; whole = refl }

-- the i-th loan: a program lends the ticket that it was lent to the next one on the pad. In each round of eight every program gets a grant
-- and a recall, and four rounds fill the pad
abbrev lends : ℕ → Line
lends i = line 0 (i % 8) 2 (2 * (i / 8) + 1) 0 (suc i % 8) 0 1 7 0 (gives 0 (2 * (i / 8) + 2) (2 * (suc i / 8) + 1) 0)

-- a take and 31 loans: the last one is program 7's ticket 7
abbrev pub lent_on : List Line
lent_on = line 0 0 1 0 0 0 0 1 7 0 (gives 0 1 0 0) ∷ tabulate 31 lends
