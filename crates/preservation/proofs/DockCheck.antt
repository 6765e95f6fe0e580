-- The dock's own check after the pad's tests: for tables in order it can only add 12. The grant's sheets and rights lie within the entry
-- of its dock name, so what the pad allowed the dock allows too, if the entry is there.
use Prim.Native.Nat.{ℕ, ◌+◌, ◌<◌}
use native.Mathlib.Omega.{arith}
use mathlib.Core.Path.{◌≡◌, refl, ◌∙◌}
use mathlib.Core.Bool.{Bool, true, false, not, cond}
use lib.Dec.{leb, ltb}
use borrow.Author.Tests.{le-ltb, lt-leb, leb-false}
use Rattle.lists.specs.Tests.{between}
use Rattle.lists.proofs.Tests.{Case, pass, fail, case}
use Rattle.rights.specs.Rules.{rights_of, within}
use Rattle.rights.proofs.Rules.{within_trans}
use Rattle.tables.specs.declared.{Entry.Entry, Tables.Tables}
use Rattle.tables.specs.Lookup.{entry_of}
use Rattle.tables.specs.Sheets.{apart}
use Rattle.machine.specs.declared.Request.{Request}
use Rattle.machine.specs.State.{asked_name, asked}
use Rattle.machine.specs.Refusal.{◌when◌else◌}
use Rattle.machine.specs.Dock.{dock_refusal}
use Rattle.machine.specs.Access.{sheet_of, access_refusal}
use Rattle.machine.proofs.RefusalLaws.{agree_for_grants}
use Rattle.preservation.specs.InOrder.{InOrder}
use Rattle.preservation.proofs.ChainSteps.{within_entry}
use Rattle.tables.specs.Kinds.{is_live, is_grant, is_recall}

module _ (t : Tables) (ok : InOrder t) (r : Request) (right : ℕ) (one_right : between 1 2 right ≡ true) where
  abbrev e : Entry
  e = entry_of t (asked t r).dock

  -- the grant is the asker's, the sheet is one of its sheets and the right one of its rights
  pub dock_adds_only_12 : is_grant (asked t r).kind ≡ true → r.first < (asked t r).count → within (rights_of right) (asked t r).rights ≡ true
      → dock_refusal t (asked t r).dock (sheet_of t r) right ≡ cond e.live 0 12
  unfolding dock_refusal apart ◌when◌else◌
  dock_adds_only_12 grant low held = go (case e.live)
    where
      small : ltb 255 (sheet_of t r) ≡ false
      small = le-ltb 255 (sheet_of t r) (omega (arith, (ok.rules.span (asked_name r) grant).fits))

      go : Case e.live → dock_refusal t (asked t r).dock (sheet_of t r) right ≡ cond e.live 0 12
      go (fail l) = rw (small, one_right, l)
      go (pass l) =
          let i = within_entry t ok (asked_name r) grant l in
          let from : leb (sheet_of t r + 1) e.first ≡ false = lt-leb (sheet_of t r + 1) e.first (omega (arith, i.from)) in
          let to : leb (e.first + e.count) (sheet_of t r) ≡ false = lt-leb (e.first + e.count) (sheet_of t r) (omega (arith, i.to)) in
          let w : within (rights_of right) e.rights ≡ true = within_trans (rights_of right) (asked t r).rights e.rights held i.rights in
          rw (small, one_right, l, from, to, w)

  -- so read and write refuse as document 01 lists it: 4, 5, 6, 7, 12
  abbrev pub listed : ℕ
  listed =
      4 when not (is_live (asked t r).kind) else
      5 when is_recall (asked t r).kind else
      6 when leb (asked t r).count r.first else
      7 when not (within (rights_of right) (asked t r).rights) else
      12 when not e.live else
      0

  pub access_as_listed : access_refusal right t r ≡ listed
  unfolding access_refusal ◌when◌else◌
  access_as_listed = agree_for_grants (asked t r).kind _ _ (λ g. go g (case (leb (asked t r).count r.first)) (case (within (rights_of right) (asked t r).rights)))
    where
      last_test : (b : Bool) → cond b 0 12 ≡ (12 when not b else 0)
      last_test true = refl
      last_test false = refl

      go : is_grant (asked t r).kind ≡ true → Case (leb (asked t r).count r.first) → Case (within (rights_of right) (asked t r).rights)
          → (6 when leb (asked t r).count r.first else
          7 when not (within (rights_of right) (asked t r).rights) else
          dock_refusal t (asked t r).dock (sheet_of t r) right)
          ≡ (6 when leb (asked t r).count r.first else
          7 when not (within (rights_of right) (asked t r).rights) else
          12 when not e.live else
          0)
      go g (pass c) _ = rw c
      go g (fail c) (fail w) = rw (c, w)
      go g (fail c) (pass w) = rw (c, w) (dock_adds_only_12 g (leb-false (asked t r).count r.first c) w ∙ last_test e.live)
