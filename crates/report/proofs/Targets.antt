-- Which targets of a listed grant's recalls are listed: on its own pad all of them, for they have its dock name; on another pad those whose
-- name is in the dock.
use mathlib.Core.Path.{◌≡◌, sym, ap, ◌∙◌}
use mathlib.Core.Logic.{⊎_elim}
use mathlib.Core.Bool.{true, false}
use Rattle.lists.proofs.Tests.{cannot_pass, contradiction}
use Rattle.tables.specs.declared.{Name.Name, Tables.Tables}
use Rattle.tables.specs.Kinds.{is_head, is_recall}
use Rattle.tables.specs.Lookup.{lookup, entry_of}
use Rattle.tables.specs.Chains.{own_name}
use Rattle.tables.proofs.KindLaws.{head_grant, child_grant, grant_sort}
use Rattle.preservation.specs.InOrder.{InOrder}
use Rattle.preservation.proofs.RuleFacts.{entry_head}
use Rattle.report.specs.Rows.{is_listed}
use Rattle.report.proofs.Depth.{listed_of, listed_grant, listed_entry}

module _ (t : Tables) (now : InOrder t) where
  -- a taken or received grant is listed where its own name is in the dock
  head_listed : (n : Name) → is_head (lookup t n).kind ≡ true → (entry_of t n).live ≡ true → is_listed t n ≡ true
  head_listed n head live =
      listed_of t now n (head_grant (lookup t n).kind head) (ap (λ (x : Name). (entry_of t x).live) (now.rules.dock n head) ∙ live)

  module _ (r : Name) (recall : is_recall (lookup t r).kind ≡ true) where
    abbrev target : Name
    target = (lookup t r).other

    pub near_listed : target.pad ≡ r.pad → is_listed t (own_name r (lookup t r)) ≡ true → is_listed t target ≡ true
    near_listed near lender =
        let child = (now.rules.near r recall near).child in
        let parent : (lookup t target).other ≡ own_name r (lookup t r) = (now.rules.near r recall near).parent in
        let dock : (lookup t target).dock ≡ (lookup t (own_name r (lookup t r))).dock
        = (now.rules.child target child).dock ∙ ap (λ (x : Name). (lookup t x).dock) parent in
        listed_of t now target (child_grant (lookup t target).kind child)
        (ap (λ (x : Name). (entry_of t x).live) dock ∙ listed_entry t now (own_name r (lookup t r)) lender)

    pub far_listed : (entry_of t target).live ≡ true → is_listed t target ≡ true
    far_listed live = head_listed target (entry_head (now.rules.entry target live)) live

    pub far_gone : (target.pad ≡ r.pad → ⊥) → (entry_of t target).live ≡ false → is_listed t target ≡ false
    far_gone far dead =
        cannot_pass _
        (λ listed.
        ⊎_elim
        (λ head. contradiction (ap (λ (x : Name). (entry_of t x).live) (sym (now.rules.dock target head)) ∙ listed_entry t now target listed) dead)
        (λ child. contradiction child (now.rules.no_far r recall far))
        (grant_sort (lookup t target).kind (listed_grant t now target listed)))
