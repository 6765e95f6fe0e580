-- The group's request gets the same refusal in two alike states: every test looks only at what they have in common. For a take, 11 must
-- come on both sides or on neither.
use Prim.Native.Nat.{ℕ}
use native.Mathlib.Omega.{arith}
use mathlib.Core.Path.{◌≡◌, sym, ap, ◌∙◌}
use mathlib.Core.Logic.{◌↔◌}
use mathlib.Core.Bool.{true, not}
use lib.Dec.{leb}
use Rattle.lists.specs.Tests.{between}
use Rattle.lists.proofs.Tests.{Case, pass, fail, case}
use Rattle.tables.specs.declared.Name.{Name}
use Rattle.tables.specs.Lookup.{entry_of}
use Rattle.tables.specs.Change.{has_place}
use Rattle.tables.specs.Sheets.{has_run}
use Rattle.machine.specs.declared.Request.{Request}
use Rattle.machine.specs.State.{State, asked_name, asked}
use Rattle.machine.specs.Refusal.{◌when◌else◌, is_spent}
use Rattle.machine.specs.Take.{take_refusal}
use Rattle.machine.specs.Pass.{pass_refusal}
use Rattle.machine.specs.Recall.{recall_refusal}
use Rattle.machine.specs.GiveBack.{give_back_refusal}
use Rattle.machine.specs.Access.{access_refusal}
use Rattle.machine.specs.Sequence.{Group}
use Rattle.machine.proofs.RefusalLaws.{agree_for_grants}
use Rattle.preservation.proofs.DockCheck.{access_as_listed}
use Rattle.isolation.specs.Alike.{Alike}
use Rattle.isolation.proofs.Sides.{dock_side}
use Rattle.isolation.proofs.AlikeFacts.{same_kind, same_count, same_rights, same_dock, same_live, same_place}
use Rattle.tables.specs.Kinds.{is_live, is_grant, is_recall}

module _ (g : Group) (s u : State) (al : Alike g s u) (r : Request) (mine : g r.pad r.program ≡ true) where
  -- ---- the asked ticket, where it is a grant, its entry, and the asker's numbers
  kind : (asked s.tables r).kind ≡ (asked u.tables r).kind
  kind = same_kind g s u al (asked_name r) mine

  count : (asked s.tables r).count ≡ (asked u.tables r).count
  count = same_count g s u al (asked_name r) mine

  rights : (asked s.tables r).rights ≡ (asked u.tables r).rights
  rights = same_rights g s u al (asked_name r) mine

  docked : is_grant (asked s.tables r).kind ≡ true → (entry_of s.tables (asked s.tables r).dock).live ≡ (entry_of u.tables (asked u.tables r).dock).live
  docked h =
      same_live g s u al (asked s.tables r).dock (dock_side g s.tables al.here.dock.tables al.here.unlinked (asked_name r) h ∙ mine)
      ∙ ap (λ (n : Name). (entry_of u.tables n).live) (same_dock g s u al (asked_name r) mine)

  spent : (p q : ℕ) → g p q ≡ true → is_spent s.tables p q ≡ is_spent u.tables p q
  unfolding is_spent
  spent p q h = ap (leb 65535) (al.lasts p q h)

  -- ---- the operations
  -- how a read, a write and a pass begin: 4, 5, and then the ticket is a grant
  starts : (a b : ℕ) → (is_grant (asked s.tables r).kind ≡ true → a ≡ b)
      → (4 when not (is_live (asked s.tables r).kind) else 5 when is_recall (asked s.tables r).kind else a)
      ≡ (4 when not (is_live (asked u.tables r).kind) else 5 when is_recall (asked u.tables r).kind else b)
  starts a b h = rw (sym kind) (agree_for_grants (asked s.tables r).kind a b h)

  pub access_same : (right : ℕ) → between 1 2 right ≡ true → access_refusal right s.tables r ≡ access_refusal right u.tables r
  access_same right one =
      access_as_listed s.tables al.here.dock.tables r right one ∙ starts _ _ (λ h. rw (count, rights, docked h))
      ∙ sym (access_as_listed u.tables al.there.dock.tables r right one)

  pub recall_same : recall_refusal s.tables r ≡ recall_refusal u.tables r
  unfolding recall_refusal
  recall_same = rw kind

  pub give_back_same : give_back_refusal s.tables r ≡ give_back_refusal u.tables r
  unfolding give_back_refusal
  give_back_same = rw kind

  pub pass_same : g r.topad r.toprogram ≡ true → pass_refusal s.tables r ≡ pass_refusal u.tables r
  unfolding pass_refusal
  pass_same h =
      starts _ _
      (λ k. rw (
        count,
        rights,
        same_place g s u al r.pad r.program mine,
        same_place g s u al r.topad r.toprogram h,
        spent r.pad r.program mine,
        spent r.topad r.toprogram h,
        docked k,
      ))

  pub take_same : ((take_refusal s.tables r ≡ 11) ↔ (take_refusal u.tables r ≡ 11)) → take_refusal s.tables r ≡ take_refusal u.tables r
  unfolding take_refusal ◌when◌else◌
  take_same eleven =
      go (case (has_place s.tables r.pad r.program)) (case (is_spent s.tables r.pad r.program))
      (case (has_run s.tables.entries r.count)) (case (has_run u.tables.entries r.count))
    where
      pl : has_place u.tables r.pad r.program ≡ has_place s.tables r.pad r.program
      pl = sym (same_place g s u al r.pad r.program mine)

      sp : is_spent u.tables r.pad r.program ≡ is_spent s.tables r.pad r.program
      sp = sym (spent r.pad r.program mine)

      go : Case (has_place s.tables r.pad r.program) → Case (is_spent s.tables r.pad r.program)
          → Case (has_run s.tables.entries r.count) → Case (has_run u.tables.entries r.count) → take_refusal s.tables r ≡ take_refusal u.tables r
      go (fail x) _ _ _ = rw (pl, x)
      go (pass x) (pass y) _ _ = rw (pl, sp, x, y)
      go (pass x) (fail y) (pass z) (pass w) = rw (pl, sp, x, y, z, w)
      go (pass x) (fail y) (fail z) (fail w) = rw (pl, sp, x, y, z, w)
      go (pass x) (fail y) (fail z) (pass w) = let e : ◌≡◌ {A = ℕ} 0 11 = rw (pl, sp, x, y, w) at (eleven.0 (rw (x, y, z))) in absurd (omega arith)
      go (pass x) (fail y) (pass z) (fail w) = let e : ◌≡◌ {A = ℕ} 0 11 = rw (x, y, z) at (eleven.1 (rw (pl, sp, x, y, w))) in absurd (omega arith)
