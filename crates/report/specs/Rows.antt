-- The ward report's rows: "who can read what". "The report starts from each taken grant, by pad, program and number. A ticket's line is
-- followed by its list of loans, and each loan listed is again a ticket." Marks are the code's business: nothing here has any.
use Rattle.std.specs.Prelude.{ℕ, zero, suc, ◌+◌, Bool, ◌&&◌}
use mathlib.Core.List.{List, [], ◌∷◌, map, flat_map}
use Rattle.lists.specs.Lists.{keep}
use Rattle.lists.specs.Parts.{joined}
use Rattle.tables.specs.declared.{Name.Name, Tables.Tables}
use Rattle.tables.specs.Kinds.{is_grant, is_taken}
use Rattle.tables.specs.Chains.{is_recall_of}
use Rattle.tables.specs.Lookup.{lookup, entry_of, names_of}

-- "each taken grant, by pad, program and number"
unfoldable pub taken_grants : Tables → List Name
taken_grants t = joined 4 (λ pad. joined 8 (λ program. names_of (λ k. is_taken k.kind) t pad program))

-- a live grant whose dock name is in the dock
unfoldable pub is_listed : Tables → Name → Bool
is_listed t n = let k = lookup t n in is_grant k.kind && (entry_of t k.dock).live

-- "A grant's loans are the live targets of its recalls, by recall number; a target whose entry has gone is left out, with what hangs on it":
-- the rows below go on from what is listed alone
unfoldable pub loans_of : Tables → Name → List Name
loans_of t n = keep (is_listed t) (map (λ recall. (lookup t recall).other) (names_of (is_recall_of n.number) t n.pad n.program))

-- "depth (0 for a taken grant, one more each loan)", and whose ticket it is
pub record Row : Type 0 where
  pub depth : ℕ
  pub name : Name

abbrev pub row_of : ℕ → Name → Row
row_of depth n = record { depth = depth; name = n }

-- "A ticket's line is followed by its list of loans, and each loan listed is again a ticket", as far as there are places left: 256 are more
-- than a series of loans has (proofs/Depth, `shallow`)
unfoldable pub rows_from : ℕ → Tables → ℕ → Name → List Row
rows_from zero t depth n = []
rows_from (suc left) t depth n = row_of depth n ∷ flat_map (rows_from left t (depth + 1)) (loans_of t n)

unfoldable pub rows : Tables → List Row
rows t = flat_map (rows_from 256 t 0) (taken_grants t)
