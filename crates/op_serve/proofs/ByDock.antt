-- In tables in order the head of a chain and all under it are told by dock names.
use mathlib.Core.Path.{◌≡◌, refl, sym, ap, ◌∙◌}
use mathlib.Core.Bool.{Bool, true, false, ◌&&◌, ◌||◌}
use lib.Dec.{eqb}
use borrow.Author.Tests.{eq-eqb}
use Rattle.lists.proofs.Tests.{Case, pass, fail, case, cannot_pass, and_false}
use Rattle.tables.specs.declared.{Name.Name, Tables.Tables}
use Rattle.tables.specs.Kinds.{is_live, is_grant, is_head, is_recall}
use Rattle.tables.specs.Names.{eq_name}
use Rattle.tables.specs.Lookup.{lookup}
use Rattle.tables.specs.Chains.{own_name, at_or_under}
use Rattle.tables.proofs.KindLaws.{grant_of, grant_recall}
use Rattle.tables.proofs.NameLaws.{eq_name_true}
use Rattle.preservation.specs.InOrder.{InOrder}
use Rattle.preservation.proofs.ChainSteps.{head_is_dock, dock_head}
use Rattle.preservation.proofs.ByDock.{grant_by_dock, dock_pad, recall_by_dock}
use Rattle.op_drop_tickets.specs.Docked.{docked_by, docked_to, Heads}

module _ (t : Tables) (ok : InOrder t) where
  -- a name that has a dock name is of the dock name's pad
  same_pad : (d h n : Name) → d.pad ≡ n.pad → eq_name d h ≡ (eqb n.pad h.pad && eq_name d h)
  same_pad d h n e = go (case (eq_name d h))
    where
      go : Case (eq_name d h) → eq_name d h ≡ (eqb n.pad h.pad && eq_name d h)
      go (fail z) = rw z (sym (and_false (eqb n.pad h.pad)))
      go (pass z) = rw (eq-eqb n.pad h.pad (sym e ∙ ap (λ (m : Name). m.pad) (eq_name_true d h z)))

  docked_grant : (h n : Name) → is_grant (lookup t n).kind ≡ true → docked_to t h n ≡ eq_name (lookup t n).dock h
  unfolding docked_to docked_by
  docked_grant h n g =
      let r : is_recall (lookup t n).kind ≡ false = cannot_pass _ (λ q. grant_recall (lookup t n).kind g q) in
      rw (g, r) (last (eq_name (lookup t n).dock h))
    where
      last : (b : Bool) → (b || false) ≡ b
      last true = refl
      last false = refl

  docked_recall : (h n : Name) → is_recall (lookup t n).kind ≡ true → docked_to t h n ≡ eq_name (lookup t (own_name n (lookup t n))).dock h
  unfolding docked_to docked_by
  docked_recall h n r =
      let g : is_grant (lookup t n).kind ≡ false = cannot_pass _ (λ q. grant_recall (lookup t n).kind q r) in
      rw (g, r, (ok.rules.recall n r).grant)

  under_head : (h n : Name) → is_head (lookup t h).kind ≡ true → is_live (lookup t n).kind ≡ true
      → at_or_under t h n ≡ (eqb n.pad h.pad && docked_to t h n)
  under_head h n is live = go (case (is_recall (lookup t n).kind))
    where
      go : Case (is_recall (lookup t n).kind) → at_or_under t h n ≡ (eqb n.pad h.pad && docked_to t h n)
      go (pass r) =
          let own : Name = own_name n (lookup t n) in
          recall_by_dock t ok h is n r
          ∙ same_pad (lookup t own).dock h n (dock_pad t ok h is own (ok.rules.recall n r).grant)
          ∙ ap (λ (b : Bool). eqb n.pad h.pad && b) (sym (docked_recall h n r))
      go (fail r) =
          let g : is_grant (lookup t n).kind ≡ true = grant_of (lookup t n).kind live r in
          grant_by_dock t ok h is n g
          ∙ same_pad (lookup t n).dock h n (dock_pad t ok h is n g)
          ∙ ap (λ (b : Bool). eqb n.pad h.pad && b) (sym (docked_grant h n g))

  pub heads : Heads t
  heads = record { under = under_head; head = head_is_dock t ok; kind = dock_head t ok }
