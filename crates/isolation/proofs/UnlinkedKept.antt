-- No operation links the group to the others, unless a pass crosses the edge: what is removed leaves no new link, a take makes none, and a
-- pass links two programs of one side.
use Prim.Native.Nat.{ℕ}
use mathlib.Core.Path.{◌≡◌, refl, sym, ap, ◌∙◌}
use mathlib.Core.Bool.{Bool, true, false}
use Rattle.lists.proofs.Tests.{Case, pass, fail, case, no_true}
use Rattle.tables.specs.declared.{Name.Name, Ticket.Ticket, Tables.Tables}
use Rattle.tables.specs.Names.{eq_name}
use Rattle.tables.specs.Lookup.{lookup, entry_of}
use Rattle.tables.specs.Order.{under_store}
use Rattle.tables.proofs.KindLaws.{live_child, live_recall}
use Rattle.tables.proofs.NameLaws.{eq_name_true, eq_name_ne}
use Rattle.machine.specs.declared.Request.{Request}
use Rattle.machine.specs.State.{asked_name}
use Rattle.machine.specs.Pass.{pass_tables}
use Rattle.machine.specs.Sequence.{Group}
use Rattle.machine.specs.Isolation.{owns, Unlinked}
use Rattle.preservation.specs.InOrder.{InOrder}
use Rattle.preservation.proofs.AfterChange.{removed, lookup_removed, entry_removed}
use Rattle.preservation.proofs.Removal.{ticket_survives, entry_survives}
use Rattle.preservation.proofs.Taking.{TakeEffect}
use Rattle.preservation.proofs.Passing.{MayPass, recall_name, grant_name, new_child, new_received, PassEffect, pass_near, pass_near_entries, pass_far, pass_far_entry}
use Rattle.isolation.proofs.Sides.{dock_side}
use Rattle.tables.specs.Kinds.{is_live, is_child, is_recall}

-- ---- removal: what is there after was there before
module _ (gone cut : Name → Bool) (t : Tables) where
  pub removed_ticket : (n : Name) → is_live (lookup (removed gone cut t) n).kind ≡ true → (gone n ≡ false) × (lookup (removed gone cut t) n ≡ lookup t n)
  removed_ticket n l = ticket_survives (gone n) (lookup t n) (lookup_removed gone cut t n) l

  pub removed_entry : (n : Name) → (entry_of (removed gone cut t) n).live ≡ true → (cut n ≡ false) × (entry_of (removed gone cut t) n ≡ entry_of t n)
  removed_entry n l = entry_survives (cut n) (entry_of t n) (entry_removed gone cut t n) l

  pub unlinked_removed : (g : Group) → Unlinked g t → Unlinked g (removed gone cut t)
  unlinked_removed g apart = record {
    parent = λ n h. let e = (removed_ticket n (live_child (lookup (removed gone cut t) n).kind h)).1 in rw e (apart.parent n (rw e at h));
    target = λ n h. let e = (removed_ticket n (live_recall (lookup (removed gone cut t) n).kind h)).1 in rw e (apart.target n (rw e at h));
    entry = λ n l z. let e = (removed_entry n l).1 in rw e (apart.entry n (rw e at l) (rw e at z));
  }

-- ---- take
pub unlinked_take : (g : Group) (t t' : Tables) (r : Request) (x : Name) (s : ℕ) → TakeEffect t t' r x s → Unlinked g t → Unlinked g t'
unlinked_take g t t' r x s effect apart = record {
  parent = λ n h. parent n h (case (eq_name n x));
  target = λ n h. target n h (case (eq_name n x));
  entry = λ n l z. entry n l z (case (eq_name n x));
}
  where
    parent : (n : Name) → is_child (lookup t' n).kind ≡ true → Case (eq_name n x) → owns g (lookup t' n).other ≡ owns g n
    parent n h (pass e) = let a = ap (lookup t') (eq_name_true n x e) ∙ effect.ticket in no_true (rw a at h)
    parent n h (fail e) = let a = effect.tickets n (eq_name_ne n x e) in rw a (apart.parent n (rw a at h))

    target : (n : Name) → is_recall (lookup t' n).kind ≡ true → Case (eq_name n x) → owns g (lookup t' n).other ≡ owns g n
    target n h (pass e) = let a = ap (lookup t') (eq_name_true n x e) ∙ effect.ticket in no_true (rw a at h)
    target n h (fail e) = let a = effect.tickets n (eq_name_ne n x e) in rw a (apart.target n (rw a at h))

    entry : (n : Name) → (entry_of t' n).live ≡ true → under_store (entry_of t' n) ≡ false → Case (eq_name n x) → owns g (entry_of t' n).parent ≡ owns g n
    entry n l z (pass h) = no_true (sym z ∙ ap under_store (ap (entry_of t') (eq_name_true n x h) ∙ effect.entry))
    entry n l z (fail h) = let a = effect.entries n (eq_name_ne n x h) in rw a (apart.entry n (rw a at l) (rw a at z))

-- ---- pass: x is the recall, y the new grant k
module _ (g : Group) (t : Tables) (ok : InOrder t) (apart : Unlinked g t) (r : Request) (may : MayPass t r)
    (tie : g r.topad r.toprogram ≡ g r.pad r.program) where
  abbrev x : Name
  x = recall_name t r

  abbrev y : Name
  y = grant_name t r

  abbrev t' : Tables
  t' = pass_tables t r

  unlinked_passed : (k : Ticket) → PassEffect t t' r k → is_recall k.kind ≡ false → (is_child k.kind ≡ true → owns g k.other ≡ owns g y)
      → ((entry_of t' y).live ≡ true → under_store (entry_of t' y) ≡ false → owns g (entry_of t' y).parent ≡ owns g y) → Unlinked g t'
  unlinked_passed k effect plain up at_y = record {
    parent = λ n h. parent n h (case (eq_name n x)) (case (eq_name n y));
    target = λ n h. target n h (case (eq_name n x)) (case (eq_name n y));
    entry = λ n l z. entry n l z (case (eq_name n y));
  }
    where
      parent : (n : Name) → is_child (lookup t' n).kind ≡ true → Case (eq_name n x) → Case (eq_name n y) → owns g (lookup t' n).other ≡ owns g n
      parent n h (pass e) _ = let a = ap (lookup t') (eq_name_true n x e) ∙ effect.recall in no_true (rw a at h)
      parent n h (fail d) (pass e) =
          let q : n ≡ y = eq_name_true n y e in
          let a : lookup t' n ≡ k = ap (lookup t') q ∙ effect.grant in
          rw a (up (rw a at h) ∙ ap (owns g) (sym q))
      parent n h (fail d) (fail e) = let a = effect.tickets n (eq_name_ne n x d) (eq_name_ne n y e) in rw a (apart.parent n (rw a at h))

      target : (n : Name) → is_recall (lookup t' n).kind ≡ true → Case (eq_name n x) → Case (eq_name n y) → owns g (lookup t' n).other ≡ owns g n
      target n h (pass e) _ =
          let q : n ≡ x = eq_name_true n x e in
          let a = ap (lookup t') q ∙ effect.recall in
          rw a (tie ∙ ap (owns g) (sym q))
      target n h (fail d) (pass e) = let a : lookup t' n ≡ k = ap (lookup t') (eq_name_true n y e) ∙ effect.grant in no_true (sym plain ∙ (rw a at h))
      target n h (fail d) (fail e) = let a = effect.tickets n (eq_name_ne n x d) (eq_name_ne n y e) in rw a (apart.target n (rw a at h))

      entry : (n : Name) → (entry_of t' n).live ≡ true → under_store (entry_of t' n) ≡ false → Case (eq_name n y) → owns g (entry_of t' n).parent ≡ owns g n
      entry n l z (pass h) = let q : n ≡ y = eq_name_true n y h in rw q (at_y (rw q at l) (rw q at z))
      entry n l z (fail h) = let a = effect.entries n (eq_name_ne n y h) in rw a (apart.entry n (rw a at l) (rw a at z))

  pub unlinked_near : r.pad ≡ r.topad → Unlinked g t'
  unlinked_near same =
      unlinked_passed (new_child t r) (pass_near t ok r may same) refl (λ h. sym tie)
      (λ l z. let e = pass_near_entries t ok r may same y in rw e (apart.entry y (rw e at l) (rw e at z)))

  pub unlinked_far : (r.pad ≡ r.topad → ⊥) → Unlinked g t'
  unlinked_far away =
      unlinked_passed (new_received t r) (pass_far t ok r may away) refl (λ h. no_true h)
      (λ l z. rw (pass_far_entry t ok r may away) (dock_side g t ok apart (asked_name r) may.grant ∙ sym tie))
