-- Walks agree in tables that are the same: what is under a ticket, what heads its chain, what is below an entry. On a pad the two maps of
-- parents are equal. In the dock they may differ where the parent is the store, and there every walk stops.
use mathlib.Core.Path.{◌≡◌, ap, fun_ext}
use Rattle.tables.specs.declared.{Name.Name, Tables.Tables}
use Rattle.tables.specs.Lookup.{lookup, entry_of}
use Rattle.tables.specs.Chains.{reaches, end_of, parent_of, at_or_under, chain_head, entry_parent, at_or_below}
use Rattle.tables.specs.Same.{SameTables}
use Rattle.tables.proofs.Links.{reaches_same}
use Rattle.sameness.proofs.SaidFacts.{same_parent, same_root, same_entry_parent}

module _ (t u : Tables) (same : SameTables t u) where
  parents_same : parent_of (lookup t) ≡ parent_of (lookup u)
  parents_same = fun_ext (same_parent t u same)

  pub under_same : (x n : Name) → at_or_under t x n ≡ at_or_under u x n
  under_same x n = ap (λ (p : Name → Name). reaches 64 p n x) parents_same

  pub head_same : (n : Name) → chain_head t n ≡ chain_head u n
  head_same n = ap (λ (p : Name → Name). end_of 64 p n) parents_same

  pub below_same : (x n : Name) → at_or_below t x n ≡ at_or_below u x n
  below_same x n =
      reaches_same (entry_parent (entry_of t)) (entry_parent (entry_of u)) (λ m. Unit {0}) (λ m h. same_root t u same m)
      (λ m h e. (same_entry_parent t u same m e, tt)) x 256 n tt
