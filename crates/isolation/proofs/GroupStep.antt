-- The group's own request, served from two alike states: the answers agree, an accepted read leaves the same bytes, and the states that are
-- left are alike. One lemma for each operation and for the drop on 12; all of them by the refusal's number: WholeStep.
use Prim.Native.Nat.{ℕ, suc, ◌+◌, ◌*◌, ◌-◌, ◌≤◌}
use native.Mathlib.Omega.{arith}
use mathlib.Core.Path.{◌≡◌, refl, sym, ap, ◌∙◌, subst}
use mathlib.Core.Logic.{◌↔◌}
use mathlib.Core.Bool.{Bool, true, false, ◌||◌}
use mathlib.Core.List.{List}
use lib.Dec.{eqb}
use lib.ListN.{length, replicate, length-replicate}
use Rattle.lists.specs.Tests.{between}
use Rattle.lists.proofs.Tests.{Case, pass, fail, case}
use Rattle.tables.specs.declared.{Name.Name, Tables.Tables}
use Rattle.tables.specs.Names.{eq_name}
use Rattle.tables.specs.Lookup.{lookup, entry_of}
use Rattle.tables.specs.Chains.{at_or_under, chain_head, at_or_below}
use Rattle.machine.specs.declared.Request.{Request}
use Rattle.machine.specs.State.{State, Outcome, answer_of, accepted, with_tables, sheet_at, put_sheets, clear_sheets, asked_name, asked}
use Rattle.machine.specs.Operation.{Operation, taking, passing, recalling, giving_back, reading, writing, used_by, fields_ok}
use Rattle.machine.specs.Take.{after_take}
use Rattle.machine.specs.Pass.{after_pass}
use Rattle.machine.specs.Isolation.{owns}
use Rattle.machine.specs.Recall.{lent_away, goes_with, recall_tables, after_recall}
use Rattle.machine.specs.GiveBack.{give_back_tables, after_give_back}
use Rattle.machine.specs.Access.{sheet_of, after_read, after_write}
use Rattle.machine.specs.Step.{own_refusal, after_own, drop_head, serve}
use Rattle.machine.specs.Sequence.{Group}
use Rattle.preservation.specs.Rules.{Inside, EntryOk}
use Rattle.preservation.specs.InOrder.{InOrder, DockOk}
use Rattle.preservation.proofs.AfterChange.{removed}
use Rattle.preservation.proofs.ChainSteps.{head_is_dock, within_entry}
use Rattle.preservation.proofs.Preconditions.{number_of, pass_fields, may_take, may_pass, may_give_back, MayUse, may_use, Stale}
use Rattle.preservation.proofs.Passing.{MayPass}
use Rattle.preservation.proofs.Taking.{MayTake}
use Rattle.isolation.specs.Alike.{Mine, sheet_in, Alike}
use Rattle.isolation.proofs.Sides.{dock_side}
use Rattle.isolation.proofs.AlikeFacts.{lent_same, same_other, same_count, same_dock, under_same, below_same}
use Rattle.isolation.proofs.SameChange.{alike_put, alike_removed, alike_dropped}
use Rattle.isolation.proofs.SameRefusal.{access_same, recall_same, give_back_same, pass_same, take_same}
use Rattle.isolation.proofs.SameTake.{alike_take}
use Rattle.isolation.proofs.SamePass.{alike_pass}
use Rattle.tables.specs.Kinds.{is_taken}

-- what the group sees of two outcomes, and the states that they leave
pub record Agreed (g : Group) (r : Request) (o p : Outcome) : Type 0 where
  pub answer : o.answer ≡ p.answer
  pub sheet : r.op ≡ 5 → o.answer.result ≡ 0 → o.state.sheet ≡ p.state.sheet
  pub alike : Alike g o.state p.state

-- the sheet buffers are not part of the relation
pub alike_sheets : (g : Group) (s u : State) → Alike g s u → (a b : List ℕ)
    → Alike g (record { tables = s.tables; store = s.store; sheet = a }) (record { tables = u.tables; store = u.store; sheet = b })
alike_sheets g s u al a b = record {
  here = record { dock = record { tables = al.here.dock.tables; store = al.here.dock.store }; unlinked = al.here.unlinked };
  there = record { dock = record { tables = al.there.dock.tables; store = al.there.dock.store }; unlinked = al.there.unlinked };
  lasts = al.lasts;
  tickets = al.tickets;
  entries = al.entries;
  offset = al.offset;
  overlap = al.overlap;
  bytes = al.bytes;
}

module _ (g : Group) (s u : State) (al : Alike g s u) (r : Request) (mine : g r.pad r.program ≡ true) where
  abbrev ok : InOrder s.tables
  ok = al.here.dock.tables

  abbrev ok₂ : InOrder u.tables
  ok₂ = al.there.dock.tables

  abbrev a : Name
  a = asked_name r

  -- ---- take and pass
  take_agreed : MayTake s.tables r → MayTake u.tables r → (r.op ≡ 5 → ⊥) → DockOk (after_take s r).state → DockOk (after_take u r).state
      → Agreed g r (after_take s r) (after_take u r)
  unfolding after_take accepted
  take_agreed may may₂ other dock dock₂ = record {
    answer = ap (λ (m : ℕ). answer_of 0 (suc m) 0) (al.lasts r.pad r.program mine);
    sheet = λ z. absurd (other z);
    alike = alike_take g s u al r mine may may₂ dock dock₂;
  }

  pass_agreed : g r.topad r.toprogram ≡ true → MayPass s.tables r → MayPass u.tables r → (r.op ≡ 5 → ⊥)
      → DockOk (after_pass s r).state → DockOk (after_pass u r).state → Agreed g r (after_pass s r) (after_pass u r)
  unfolding after_pass accepted
  pass_agreed theirs may may₂ other dock dock₂ = record {
    answer = λ i. answer_of 0 (suc (al.lasts r.pad r.program mine i)) (suc (al.lasts r.topad r.toprogram theirs i));
    sheet = λ z. absurd (other z);
    alike = alike_pass g s u al r mine theirs may may₂ dock dock₂;
  }

  -- ---- recall
  target_same : (asked s.tables r).other ≡ (asked u.tables r).other
  target_same = same_other g s u al a mine

  near_tables : (t : Tables) → eqb (asked t r).other.pad r.pad ≡ true → recall_tables t r ≡ removed (goes_with t r) (lent_away t (goes_with t r)) t
  unfolding recall_tables
  near_tables t z = rw z

  far_tables : (t : Tables) → eqb (asked t r).other.pad r.pad ≡ false → recall_tables t r ≡ removed (λ n. eq_name n a) (at_or_below t (asked t r).other) t
  unfolding recall_tables
  far_tables t z = rw z

  target_pad : {b : Bool} → eqb (asked s.tables r).other.pad r.pad ≡ b → eqb (asked u.tables r).other.pad r.pad ≡ b
  target_pad z = ap (λ (n : Name). eqb n.pad r.pad) (sym target_same) ∙ z

  abbrev RecallAlike : Type 0
  RecallAlike =
      DockOk (with_tables s (recall_tables s.tables r)) → DockOk (with_tables u (recall_tables u.tables r))
      → Alike g (with_tables s (recall_tables s.tables r)) (with_tables u (recall_tables u.tables r))

  same_goes : (n : Name) → owns g n ≡ true → goes_with s.tables r n ≡ goes_with u.tables r n
  same_goes n o = ap (λ (b : Bool). eq_name n a || b) (under_same g s u al _ n o ∙ ap (λ (x : Name). at_or_under u.tables x n) target_same)

  near_alike : eqb (asked s.tables r).other.pad r.pad ≡ true → RecallAlike
  near_alike z =
      rw (near_tables s.tables z, near_tables u.tables (target_pad z))
      (alike_removed g s u al (goes_with s.tables r) (lent_away s.tables (goes_with s.tables r)) (goes_with u.tables r) (lent_away u.tables (goes_with u.tables r))
      same_goes (lent_same g s u al (goes_with s.tables r) (goes_with u.tables r) same_goes))

  far_alike : eqb (asked s.tables r).other.pad r.pad ≡ false → RecallAlike
  far_alike z =
      rw (far_tables s.tables z, far_tables u.tables (target_pad z))
      (alike_removed g s u al (λ n. eq_name n a) (at_or_below s.tables (asked s.tables r).other) (λ n. eq_name n a) (at_or_below u.tables (asked u.tables r).other)
      (λ n o. refl) (λ n o. below_same g s u al _ n o ∙ ap (λ (x : Name). at_or_below u.tables x n) target_same))

  recall_alike : Case (eqb (asked s.tables r).other.pad r.pad) → RecallAlike
  recall_alike (pass z) = near_alike z
  recall_alike (fail z) = far_alike z

  recall_agreed : (r.op ≡ 5 → ⊥) → DockOk (after_recall s r).state → DockOk (after_recall u r).state → Agreed g r (after_recall s r) (after_recall u r)
  unfolding after_recall accepted
  recall_agreed other dock dock₂ = record {
    answer = refl;
    sheet = λ z. absurd (other z);
    alike = recall_alike (case (eqb (asked s.tables r).other.pad r.pad)) dock dock₂;
  }

  -- ---- give back: zeros at the start of the entry, then the removal
  module _ (h : is_taken (asked s.tables r).kind ≡ true) (h₂ : is_taken (asked u.tables r).kind ≡ true) where
    own : EntryOk (entry_of s.tables a) (lookup s.tables a)
    own = ok.rules.entry a (ok.rules.taken a h)

    own₂ : EntryOk (entry_of u.tables a) (lookup u.tables a)
    own₂ = ok₂.rules.entry a (ok₂.rules.taken a h₂)

    abbrev zeros : List ℕ
    zeros = replicate (64 * (lookup s.tables a).count) 0

    put₁ : put_sheets (lookup s.tables a).first zeros s.store ≡ put_sheets (sheet_in s.tables a 0) zeros s.store
    put₁ = ap (λ (f : ℕ). put_sheets f zeros s.store) (omega (arith, own.first))

    put₂ : put_sheets (lookup u.tables a).first (replicate (64 * (lookup u.tables a).count) 0) u.store ≡ put_sheets (sheet_in u.tables a 0) zeros u.store
    put₂ =
        ap (λ (f : ℕ). put_sheets f (replicate (64 * (lookup u.tables a).count) 0) u.store) (omega (arith, own₂.first))
        ∙ ap (λ (c : ℕ). put_sheets (sheet_in u.tables a 0) (replicate (64 * c) 0) u.store) (sym (same_count g s u al a mine))

    abbrev zeroed₁ : State
    zeroed₁ = record { tables = s.tables; store = put_sheets (sheet_in s.tables a 0) zeros s.store; sheet = s.sheet }

    abbrev zeroed₂ : State
    zeroed₂ = record { tables = u.tables; store = put_sheets (sheet_in u.tables a 0) zeros u.store; sheet = u.sheet }

    zeroed : Alike g zeroed₁ zeroed₂
    zeroed = alike_put g s u al a mine (ok.rules.taken a h) 0 (lookup s.tables a).count zeros (length-replicate _ 0) (omega (arith, own.count))

    back_alike : DockOk (with_tables zeroed₁ (give_back_tables s.tables r)) → DockOk (with_tables zeroed₂ (give_back_tables u.tables r))
        → Alike g (with_tables zeroed₁ (give_back_tables s.tables r)) (with_tables zeroed₂ (give_back_tables u.tables r))
    unfolding give_back_tables
    back_alike =
        alike_removed g zeroed₁ zeroed₂ zeroed (at_or_under s.tables a) (at_or_below s.tables a) (at_or_under u.tables a) (at_or_below u.tables a)
        (λ n o. under_same g s u al a n o) (λ n o. below_same g s u al a n o)

    give_back_agreed : (r.op ≡ 5 → ⊥) → DockOk (after_give_back s r).state → DockOk (after_give_back u r).state → Agreed g r (after_give_back s r) (after_give_back u r)
    unfolding after_give_back accepted clear_sheets with_tables
    give_back_agreed other dock dock₂ = record {
      answer = refl;
      sheet = λ z. absurd (other z);
      alike = rw (put₁, put₂) (back_alike (rw put₁ at dock) (rw put₂ at dock₂));
    }

  -- ---- read and write: the sheet's offset in the entry of the dock name is the same on both sides
  module _ (may : MayUse s.tables r) where
    abbrev d : Name
    d = (lookup s.tables a).dock

    inside : Inside (lookup s.tables a).first (lookup s.tables a).count (lookup s.tables a).rights
        (entry_of s.tables d).first (entry_of s.tables d).count (entry_of s.tables d).rights
    inside = within_entry s.tables ok a may.grant may.known

    off : ℕ
    off = (lookup s.tables a).first + r.first - (entry_of s.tables d).first

    off₁ : sheet_of s.tables r ≡ sheet_in s.tables d off
    unfolding off
    off₁ = omega (arith, inside.from)

    off₂ : sheet_of u.tables r ≡ sheet_in u.tables d off
    unfolding off
    off₂ = omega (arith, inside.from, al.offset a mine may.grant may.known)

    off_low : off + 1 ≤ (entry_of s.tables d).count
    off_low = omega (arith, off₁, inside.to, may.low)

    asked_sheet : Mine g s.tables d off
    asked_sheet = record { own = dock_side g s.tables ok al.here.unlinked a may.grant ∙ mine; live = may.known; low = omega (arith, off_low) }

    read_same : sheet_at (sheet_of s.tables r) s.store ≡ sheet_at (sheet_of u.tables r) u.store
    read_same =
        ap (λ (i : ℕ). sheet_at i s.store) off₁ ∙ al.bytes d off asked_sheet ∙ ap (λ (i : ℕ). sheet_at i u.store) (sym off₂)

    read_agreed : Agreed g r (after_read s r) (after_read u r)
    unfolding after_read accepted
    read_agreed = record { answer = refl; sheet = λ z w. read_same; alike = alike_sheets g s u al _ _ }

    abbrev written_to : State → ℕ → List ℕ → State
    written_to v sheet bytes = record { tables = v.tables; store = put_sheets sheet bytes v.store; sheet = v.sheet }

    write_agreed : length s.sheet ≡ 64 → s.sheet ≡ u.sheet → (r.op ≡ 5 → ⊥) → Agreed g r (after_write s r) (after_write u r)
    unfolding after_write accepted
    write_agreed buf same other = record {
      answer = refl;
      sheet = λ z. absurd (other z);
      alike =
          rw (off₁, off₂)
          (subst (λ (b : List ℕ). Alike g (written_to s (sheet_in s.tables d off) s.sheet) (written_to u (sheet_in u.tables d off) b)) same
          (alike_put g s u al d asked_sheet.own may.known off 1 s.sheet buf off_low));
    }

  -- ---- the drop on 12
  pub drop_alike : Stale s.tables r → Stale u.tables r → DockOk (with_tables s (drop_head s.tables r)) → DockOk (with_tables u (drop_head u.tables r))
      → Alike g (with_tables s (drop_head s.tables r)) (with_tables u (drop_head u.tables r))
  unfolding drop_head
  drop_alike l m =
      alike_dropped g s u al (at_or_under s.tables (chain_head s.tables a)) (at_or_under u.tables (chain_head u.tables a))
      (λ n o. under_same g s u al _ n o ∙ ap (λ (x : Name). at_or_under u.tables x n) head_same)
    where
      head_same : chain_head s.tables a ≡ chain_head u.tables a
      head_same = head_is_dock s.tables ok a l.grant ∙ same_dock g s u al a mine ∙ sym (head_is_dock u.tables ok₂ a m.grant)

  -- ---- all operations
  -- what is given beside alike states: a pass stays inside, a take gets 11 on both sides or on neither
  module _ (inside : r.op ≡ 2 → r.topad ≤ 3 → r.toprogram ≤ 7 → g r.topad r.toprogram ≡ true)
      (eleven : r.op ≡ 1 → ((serve s r).answer.result ≡ 11) ↔ ((serve u r).answer.result ≡ 11)) (p3 : r.pad ≤ 3) (p7 : r.program ≤ 7) where
    recipient_inside : fields_ok (used_by passing) r ≡ true → r.op ≡ 2 → g r.topad r.toprogram ≡ true
    recipient_inside f o = inside o (pass_fields r f).0 (pass_fields r f).1

    pub own_same : (o : Operation) → number_of o ≡ r.op → fields_ok (used_by o) r ≡ true
        → ((v : State) → (serve v r).answer.result ≡ own_refusal o v.tables r) → own_refusal o s.tables r ≡ own_refusal o u.tables r
    unfolding own_refusal number_of between
    own_same taking n f result =
        take_same g s u al r mine
        ((λ e. sym (result u) ∙ (eleven (sym n)).0 (result s ∙ e)), (λ e. sym (result s) ∙ (eleven (sym n)).1 (result u ∙ e)))
    own_same passing n f result = pass_same g s u al r mine (recipient_inside f (sym n))
    own_same recalling n f result = recall_same g s u al r mine
    own_same giving_back n f result = give_back_same g s u al r mine
    own_same reading n f result = access_same g s u al r mine 1 refl
    own_same writing n f result = access_same g s u al r mine 2 refl

    pub own_agreed : (o : Operation) → number_of o ≡ r.op → fields_ok (used_by o) r ≡ true → length s.sheet ≡ 64 → (r.op ≡ 6 → s.sheet ≡ u.sheet)
        → own_refusal o s.tables r ≡ 0 → own_refusal o u.tables r ≡ 0 → DockOk (after_own o s r).state → DockOk (after_own o u r).state
        → Agreed g r (after_own o s r) (after_own o u r)
    unfolding own_refusal after_own number_of
    own_agreed taking n f buf same e e₂ = take_agreed (may_take s.tables r p3 p7 f e) (may_take u.tables r p3 p7 f e₂) (λ z. omega arith)
    own_agreed passing n f buf same e e₂ =
        pass_agreed (recipient_inside f (sym n)) (may_pass s.tables r p3 p7 f e) (may_pass u.tables r p3 p7 f e₂) (λ z. omega arith)
    own_agreed recalling n f buf same e e₂ = recall_agreed (λ z. omega arith)
    own_agreed giving_back n f buf same e e₂ = give_back_agreed (may_give_back s.tables r e) (may_give_back u.tables r e₂) (λ z. omega arith)
    own_agreed reading n f buf same e e₂ = λ dock dock₂. read_agreed (may_use s.tables r 1 e)
    own_agreed writing n f buf same e e₂ = λ dock dock₂. write_agreed (may_use s.tables r 2 e) buf (same (sym n)) (λ z. omega arith)
