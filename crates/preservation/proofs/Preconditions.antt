-- What the refusals have tested where they come to their end: from a chain of refusals that answers 0, or 12, the conditions under
-- which the operation works. The chains are taken apart link by link.
use Prim.Native.Nat.{ℕ, zero, suc, ◌+◌, ◌≤◌, ◌<◌}
use native.Mathlib.Omega.{arith}
use mathlib.Core.Path.{◌≡◌, refl}
use mathlib.Core.Bool.{Bool, true, false, not, ◌&&◌, ◌||◌}
use lib.Dec.{eqb, ltb, leb}
use borrow.Author.Tests.{leb-true, leb-false, ltb-false, ne_eqb, not-false, not-true}
use Rattle.lists.specs.Tests.{between}
use Rattle.lists.proofs.Tests.{and_l, and_r, or_false_l, or_false_r, between_low, between_high}
use Rattle.rights.specs.Rules.{rights_of, within, can_pass}
use Rattle.tables.specs.declared.Tables.{Tables}
use Rattle.tables.specs.Names.{is_program, same_program}
use Rattle.tables.specs.Lookup.{entry_of}
use Rattle.tables.specs.Change.{has_place}
use Rattle.tables.specs.Sheets.{apart, has_run}
use Rattle.tables.proofs.KindLaws.{grant_of}
use Rattle.tables.proofs.NameLaws.{is_program_lem}
use Rattle.machine.specs.declared.Request.{Request}
use Rattle.machine.specs.State.{asked}
use Rattle.machine.specs.Refusal.{◌when◌else◌, is_spent}
use Rattle.machine.specs.Operation.{Operation, taking, passing, recalling, giving_back, reading, writing, operation_of, used_by, field_ok, fields_ok}
use Rattle.machine.specs.Dock.{dock_refusal}
use Rattle.machine.specs.Take.{take_refusal}
use Rattle.machine.specs.Pass.{pass_refusal}
use Rattle.machine.specs.Recall.{recall_refusal}
use Rattle.machine.specs.GiveBack.{give_back_refusal}
use Rattle.machine.specs.Access.{sheet_of, access_refusal}
use Rattle.machine.specs.Step.{own_refusal, request_refusal}
use Rattle.machine.proofs.RefusalLaws.{when_past, when_here}
use Rattle.preservation.proofs.Taking.{MayTake}
use Rattle.preservation.proofs.Passing.{MayPass}
use Rattle.tables.specs.Kinds.{is_live, is_grant, is_taken, is_recall}

-- ---- a chain of refusals
-- an answer that none of the refusals 1 to 11 gives: 0, or 12
abbrev early : ℕ → Bool
early n = leb 1 n && leb n 11

pub Late : ℕ → Type 0
Late c = (n : ℕ) → early n ≡ true → n ≡ c → ⊥

pub late_0 : Late 0
unfolding Late
late_0 n h e = omega (arith, leb-true 1 n (and_l (leb 1 n) (leb n 11) h))

pub late_12 : Late 12
unfolding Late
late_12 n h e = omega (arith, leb-true n 11 (and_r (leb 1 n) (leb n 11) h))

-- one link: the test failed, and the rest of the chain gave the answer
past : (n : ℕ) (b : Bool) (later c : ℕ) → Late c → early n ≡ true → (n when b else later) ≡ c → (b ≡ false) × (later ≡ c)
unfolding Late
past n b later c late h e = when_past n b later c (late n h) e

-- ---- operations and their numbers
unfoldable pub number_of : Operation → ℕ
number_of taking = 1
number_of passing = 2
number_of recalling = 3
number_of giving_back = 4
number_of reading = 5
number_of writing = 6

operation_number : (op : ℕ) → 1 ≤ op → op ≤ 6 → number_of (operation_of op) ≡ op
unfolding number_of operation_of
operation_number zero a b = absurd (omega arith)
operation_number (suc zero) a b = refl
operation_number (suc (suc zero)) a b = refl
operation_number (suc (suc (suc zero))) a b = refl
operation_number (suc (suc (suc (suc zero)))) a b = refl
operation_number (suc (suc (suc (suc (suc zero))))) a b = refl
operation_number (suc (suc (suc (suc (suc (suc zero)))))) a b = refl
operation_number (suc (suc (suc (suc (suc (suc (suc n))))))) a b = absurd (omega arith)

-- past refusal 2
pub op_number : (op : ℕ) → between 1 6 op ≡ true → number_of (operation_of op) ≡ op
op_number op e = operation_number op (between_low 1 6 op e) (between_high 1 6 op e)

-- ---- the tests of every request
-- the operation's own tests gave the answer c
pub record Past (t : Tables) (r : Request) (c : ℕ) : Type 0 where
  pub pad : r.pad ≤ 3
  pub program : r.program ≤ 7
  pub number : number_of (operation_of r.op) ≡ r.op
  pub fields : fields_ok (used_by (operation_of r.op)) r ≡ true
  pub own : own_refusal (operation_of r.op) t r ≡ c

pub past_request : (t : Tables) (r : Request) (c : ℕ) → Late c → request_refusal t r ≡ c → Past t r c
unfolding request_refusal
past_request t r c late e =
    let a = past 1 (not (is_program r.pad r.program)) _ c late refl e in
    let b = past 2 (not (between 1 6 r.op)) _ c late refl a.1 in
    let d = past 3 (not (fields_ok (used_by (operation_of r.op)) r)) _ c late refl b.1 in
    let sender = is_program_lem r.pad r.program (not-false (is_program r.pad r.program) a.0) in
    record {
      pad = sender.pad;
      program = sender.program;
      number = op_number r.op (not-false (between 1 6 r.op) b.0);
      fields = not-false (fields_ok (used_by (operation_of r.op)) r) d.0;
      own = d.1;
    }

pub pass_fields : (r : Request) → fields_ok (used_by passing) r ≡ true → (r.topad ≤ 3) × (r.toprogram ≤ 7)
unfolding fields_ok field_ok used_by
pass_fields r f =
    let u : between 0 3 r.topad ≡ true = search (and_l, and_r) depth 8 in
    let v : between 0 7 r.toprogram ≡ true = search (and_l, and_r) depth 8 in
    (between_high 0 3 r.topad u, between_high 0 7 r.toprogram v)

module _ (t : Tables) (r : Request) where
  -- ---- op 1
  record TakeTested (c : ℕ) : Type 0 where
    room : has_place t r.pad r.program ≡ true
    run : has_run t.entries r.count ≡ true
    rest : 0 ≡ c

  take_tested : (c : ℕ) → Late c → take_refusal t r ≡ c → TakeTested c
  unfolding take_refusal
  take_tested c late e =
      let a = past 9 (not (has_place t r.pad r.program)) _ c late refl e in
      let b = past 10 (is_spent t r.pad r.program) _ c late refl a.1 in
      let d = past 11 (not (has_run t.entries r.count)) 0 c late refl b.1 in
      record {
        room = not-false (has_place t r.pad r.program) a.0;
        run = not-false (has_run t.entries r.count) d.0;
        rest = d.1;
      }

  pub may_take : r.pad ≤ 3 → r.program ≤ 7 → fields_ok (used_by taking) r ≡ true → take_refusal t r ≡ 0 → MayTake t r
  unfolding fields_ok field_ok used_by
  may_take p q f e =
      let tested : TakeTested 0 = take_tested 0 late_0 e in
      let g : between 1 256 r.count ≡ true = search (and_l, and_r) depth 8 in
      let h : between 1 7 r.rights ≡ true = search (and_l, and_r) depth 8 in
      record {
        pad = p;
        program = q;
        some = between_low 1 256 r.count g;
        right = between_low 1 7 r.rights h;
        rights = between_high 1 7 r.rights h;
        room = tested.room;
        run = tested.run;
      }

  -- ---- op 2
  -- its last test, with what came before
  record LastTest (c : ℕ) : Type 0 where
    grant : is_grant (asked t r).kind ≡ true
    may : ((r.pad ≡ r.topad → ⊥) → (entry_of t (asked t r).dock).live ≡ true) → MayPass t r
    rest : (12 when not (eqb r.pad r.topad) && not (entry_of t (asked t r).dock).live else 0) ≡ c

  last_test : (c : ℕ) → Late c → r.pad ≤ 3 → r.program ≤ 7 → fields_ok (used_by passing) r ≡ true → pass_refusal t r ≡ c → LastTest c
  unfolding fields_ok field_ok used_by pass_refusal
  last_test c late p q ok e =
      let a = past 4 (not (is_live (asked t r).kind)) _ c late refl e in
      let b = past 5 (is_recall (asked t r).kind) _ c late refl a.1 in
      let d = past 8 (same_program r.pad r.program r.topad r.toprogram) _ c late refl b.1 in
      let f = past 6 (ltb (asked t r).count (r.first + r.count)) _ c late refl d.1 in
      let g = past 7 (not (can_pass (asked t r).rights) || not (within (rights_of r.rights) (asked t r).rights)) _ c late refl f.1 in
      let h = past 9 (not (has_place t r.pad r.program) || not (has_place t r.topad r.toprogram)) _ c late refl g.1 in
      let i = past 10 (is_spent t r.pad r.program || is_spent t r.topad r.toprogram) _ c late refl h.1 in
      let w : between 1 256 r.count ≡ true = search (and_l, and_r) depth 8 in
      let z : between 1 7 r.rights ≡ true = search (and_l, and_r) depth 8 in
      let grant = grant_of (asked t r).kind (not-false (is_live (asked t r).kind) a.0) b.0 in
      record {
        grant = grant;
        may = λ known. record {
          pad = p;
          program = q;
          topad = (pass_fields r ok).0;
          toprogram = (pass_fields r ok).1;
          some = between_low 1 256 r.count w;
          right = between_low 1 7 r.rights z;
          rights = between_high 1 7 r.rights z;
          grant = grant;
          differ = d.0;
          fit = ltb-false (asked t r).count (r.first + r.count) f.0;
          may = not-false (can_pass (asked t r).rights) (or_false_l _ (not (within (rights_of r.rights) (asked t r).rights)) g.0);
          within = not-false (within (rights_of r.rights) (asked t r).rights) (or_false_r (not (can_pass (asked t r).rights)) _ g.0);
          room = not-false (has_place t r.pad r.program) (or_false_l (not (has_place t r.pad r.program)) _ h.0);
          room_there = not-false (has_place t r.topad r.toprogram) (or_false_r (not (has_place t r.pad r.program)) _ h.0);
          known = known;
        };
        rest = i.1;
      }

  pub may_pass : r.pad ≤ 3 → r.program ≤ 7 → fields_ok (used_by passing) r ≡ true → pass_refusal t r ≡ 0 → MayPass t r
  may_pass p q ok e =
      let l : LastTest 0 = last_test 0 late_0 p q ok e in
      l.may (λ away.
      let k : (not (eqb r.pad r.topad) && not (entry_of t (asked t r).dock).live) ≡ false = (when_past 12 _ 0 0 (λ z. omega arith) l.rest).0 in
      not-false (entry_of t (asked t r).dock).live (rw (ne_eqb r.pad r.topad away) at k))

  -- ---- op 3, op 4
  recall_tested : (c : ℕ) → Late c → recall_refusal t r ≡ c → (is_recall (asked t r).kind ≡ true) × (0 ≡ c)
  unfolding recall_refusal
  recall_tested c late e =
      let a = past 4 (not (is_live (asked t r).kind)) _ c late refl e in
      let b = past 5 (not (is_recall (asked t r).kind)) 0 c late refl a.1 in
      (not-false (is_recall (asked t r).kind) b.0, b.1)

  pub may_recall : recall_refusal t r ≡ 0 → is_recall (asked t r).kind ≡ true
  may_recall e = (recall_tested 0 late_0 e).0

  give_back_tested : (c : ℕ) → Late c → give_back_refusal t r ≡ c → (is_taken (asked t r).kind ≡ true) × (0 ≡ c)
  unfolding give_back_refusal
  give_back_tested c late e =
      let a = past 4 (not (is_live (asked t r).kind)) _ c late refl e in
      let b = past 5 (not (is_taken (asked t r).kind)) 0 c late refl a.1 in
      (not-false (is_taken (asked t r).kind) b.0, b.1)

  pub may_give_back : give_back_refusal t r ≡ 0 → is_taken (asked t r).kind ≡ true
  may_give_back e = (give_back_tested 0 late_0 e).0

  -- ---- op 5, op 6
  pub record MayUse : Type 0 where
    pub grant : is_grant (asked t r).kind ≡ true
    pub low : r.first < (asked t r).count
    pub known : (entry_of t (asked t r).dock).live ≡ true

  -- the pad's tests are passed, and the dock's check gave the answer c
  record AtDock (right c : ℕ) : Type 0 where
    grant : is_grant (asked t r).kind ≡ true
    low : r.first < (asked t r).count
    rest : dock_refusal t (asked t r).dock (sheet_of t r) right ≡ c

  at_dock : (right c : ℕ) → Late c → access_refusal right t r ≡ c → AtDock right c
  unfolding access_refusal
  at_dock right c late e =
      let a = past 4 (not (is_live (asked t r).kind)) _ c late refl e in
      let b = past 5 (is_recall (asked t r).kind) _ c late refl a.1 in
      let d = past 6 (leb (asked t r).count r.first) _ c late refl b.1 in
      let f = past 7 (not (within (rights_of right) (asked t r).rights)) _ c late refl d.1 in
      record {
        grant = grant_of (asked t r).kind (not-false (is_live (asked t r).kind) a.0) b.0;
        low = leb-false (asked t r).count r.first d.0;
        rest = f.1;
      }

  pub may_use : (right : ℕ) → access_refusal right t r ≡ 0 → MayUse
  unfolding dock_refusal
  may_use right e =
      let p : AtDock right 0 = at_dock right 0 late_0 e in
      let a = past 3 (ltb 255 (sheet_of t r) || not (between 1 2 right)) _ 0 late_0 refl p.rest in
      let b = when_past 12 (not (entry_of t (asked t r).dock).live) _ 0 (λ z. omega arith) a.1 in
      record { grant = p.grant; low = p.low; known = not-false (entry_of t (asked t r).dock).live b.0 }

  -- ---- on 12 the ticket is a grant whose dock name has no entry
  pub record Stale : Type 0 where
    pub grant : is_grant (asked t r).kind ≡ true
    pub lost : (entry_of t (asked t r).dock).live ≡ false

  access_stale : (right : ℕ) → access_refusal right t r ≡ 12 → Stale
  unfolding dock_refusal
  access_stale right e =
      let p : AtDock right 12 = at_dock right 12 late_12 e in
      let a = past 3 (ltb 255 (sheet_of t r) || not (between 1 2 right)) _ 12 late_12 refl p.rest in
      let later : (6 when apart (sheet_of t r) 1 (entry_of t (asked t r).dock).first (entry_of t (asked t r).dock).count else
      7 when not (within (rights_of right) (entry_of t (asked t r).dock).rights) else 0) ≡ 12 → ⊥
      = λ z.
      (let b = past 6 (apart (sheet_of t r) 1 (entry_of t (asked t r).dock).first (entry_of t (asked t r).dock).count) _ 12 late_12 refl z in
      let c = past 7 (not (within (rights_of right) (entry_of t (asked t r).dock).rights)) 0 12 late_12 refl b.1 in
      omega (arith, c.1)) in
      record {
        grant = p.grant;
        lost = not-true (entry_of t (asked t r).dock).live (when_here 12 (not (entry_of t (asked t r).dock).live) _ later a.1);
      }

  pass_stale : r.pad ≤ 3 → r.program ≤ 7 → fields_ok (used_by passing) r ≡ true → pass_refusal t r ≡ 12 → Stale
  pass_stale p q f e =
      let l : LastTest 12 = last_test 12 late_12 p q f e in
      let b = when_here 12 (not (eqb r.pad r.topad) && not (entry_of t (asked t r).dock).live) 0 (λ z. omega arith) l.rest in
      record { grant = l.grant; lost = not-true (entry_of t (asked t r).dock).live (and_r (not (eqb r.pad r.topad)) _ b) }

  stale_by : (o : Operation) → r.pad ≤ 3 → r.program ≤ 7 → fields_ok (used_by o) r ≡ true → own_refusal o t r ≡ 12 → Stale
  unfolding own_refusal
  stale_by taking p q f e = absurd (omega (arith, (take_tested 12 late_12 e).rest))
  stale_by passing p q f e = pass_stale p q f e
  stale_by recalling p q f e = absurd (omega (arith, (recall_tested 12 late_12 e).1))
  stale_by giving_back p q f e = absurd (omega (arith, (give_back_tested 12 late_12 e).1))
  stale_by reading p q f e = access_stale 1 e
  stale_by writing p q f e = access_stale 2 e

  pub stale_of : Past t r 12 → Stale
  stale_of p = stale_by (operation_of r.op) p.pad p.program p.fields p.own
