-- `each_holds`: before each turn the recalls at the listed places before the index hold, in any tables that are laid out so. Each way
-- through a turn ends in one of the cases of OneRecall: the recall does not hold, and the answer is no, or it does.
use Prim.Native.Nat.{ℕ, ◌≤◌}
use native.Mathlib.Omega.{arith}
use mathlib.Core.Path.{sym, subst, ◌∙◌}
use Rattle.order_recalls.proofs.OneRecall.{pick, has_key, held_more, held_end, no_grant, bad_grant, near_none, near_bad, near_ok, not_given, far_none, far_bad, far_ok}
use Rattle.order_recalls.proofs.each_holds.Goals as goal
use Rattle.order_recalls.proofs.each_holds.Goals.{then-k-own+else-key-gt256+else-not-is_child_of, else-k-own+else-not-may_name+then-note-lt256+else-not-far_entry_ok, else-k-own+else-not-may_name+else-note-lt256}

pub returns-then-place-ge256 : goal.returns-then-place-ge256
returns-then-place-ge256 c =
    let w = pick {image = c.args.image.now} c.requires.0 c.requires.1 c.loop-at-test.true c.from-at.ensures
    c.ticket_at-k.ensures c.name_at-own.ensures c.place_of-place.ensures in
    λ t x. no_grant x w c.if-place-ge256.true

pub returns-then-not-recall_parent_ok : goal.returns-then-not-recall_parent_ok
returns-then-not-recall_parent_ok c =
    let w = pick {image = c.args.image.now} c.requires.0 c.requires.1 c.loop-at-test.true c.from-at.ensures
    c.ticket_at-k.ensures c.name_at-own.ensures c.place_of-place.ensures in
    λ t x. bad_grant x w (omega (arith, c.if-place-ge256.false)) c.ticket_at-grant.ensures (sym c.recall_parent_ok.ensures ∙ c.if-not-recall_parent_ok.true)

pub returns-then-key-gt256 : goal.returns-then-key-gt256
returns-then-key-gt256 c =
    let w = pick {image = c.args.image.now} c.requires.0 c.requires.1 c.loop-at-test.true c.from-at.ensures
    c.ticket_at-k.ensures c.name_at-own.ensures c.place_of-place.ensures in
    λ t x. near_none x w (omega (arith, c.if-place-ge256.false)) c.ticket_at-grant.ensures (sym c.recall_parent_ok.ensures ∙ c.if-not-recall_parent_ok.false) c.if-k-own.true c.if-key-gt256.true

pub ticket_at-child-requires : goal.ticket_at-child-requires
ticket_at-child-requires c = let w = pick {image = c.args.image.now} c.requires.0 c.requires.1 c.loop-at-test.true c.from-at.ensures c.ticket_at-k.ensures c.name_at-own.ensures c.place_of-place.ensures in omega (arith, c.if-key-gt256.false, has_key w)

pub returns-then-not-is_child_of : goal.returns-then-not-is_child_of
returns-then-not-is_child_of c =
    let w = pick {image = c.args.image.now} c.requires.0 c.requires.1 c.loop-at-test.true c.from-at.ensures
    c.ticket_at-k.ensures c.name_at-own.ensures c.place_of-place.ensures in
    λ t x. near_bad x w (omega (arith, c.if-place-ge256.false)) c.ticket_at-grant.ensures (sym c.recall_parent_ok.ensures ∙ c.if-not-recall_parent_ok.false)
    c.if-k-own.true (omega (arith, c.if-key-gt256.false, has_key w)) c.ticket_at-child.ensures (sym c.is_child_of.ensures ∙ c.if-not-is_child_of.true)

pub returns-then-not-may_name : goal.returns-then-not-may_name
returns-then-not-may_name c =
    let w = pick {image = c.args.image.now} c.requires.0 c.requires.1 c.loop-at-test.true c.from-at.ensures
    c.ticket_at-k.ensures c.name_at-own.ensures c.place_of-place.ensures in
    λ t x. not_given x w (omega (arith, c.if-place-ge256.false)) c.ticket_at-grant.ensures (sym c.recall_parent_ok.ensures ∙ c.if-not-recall_parent_ok.false)
    c.if-k-own.false (sym c.may_name.ensures ∙ c.if-not-may_name.true)

pub returns-then-not-far_entry_ok : goal.returns-then-not-far_entry_ok
returns-then-not-far_entry_ok c =
    let w = pick {image = c.args.image.now} c.requires.0 c.requires.1 c.loop-at-test.true c.from-at.ensures
    c.ticket_at-k.ensures c.name_at-own.ensures c.place_of-place.ensures in
    λ t x. far_bad x w (omega (arith, c.if-place-ge256.false)) c.ticket_at-grant.ensures (sym c.recall_parent_ok.ensures ∙ c.if-not-recall_parent_ok.false)
    c.if-k-own.false (sym c.may_name.ensures ∙ c.if-not-may_name.false) c.note_of-note.result c.note_of-note.ensures c.entry_at-e.ensures
    c.far_entry_ok.ensures c.if-not-far_entry_ok.true

pub loop-at-preserved : goal.loop-at-preserved
loop-at-preserved c =
    let w = pick {image = c.args.image.now} c.requires.0 c.requires.1 c.loop-at-test.true c.from-at.ensures
    c.ticket_at-k.ensures c.name_at-own.ensures c.place_of-place.ensures in
    λ t x. held_more x w c.args.recalls.now c.loop-at.at-index c.from-at.ensures (c.loop-at.invariant t x)
    (elim c.if-k-own.branch [
      | then-k-own+else-key-gt256+else-not-is_child_of b ↦
          near_ok x w (omega (arith, c.if-place-ge256.false)) c.ticket_at-grant.ensures (sym c.recall_parent_ok.ensures ∙ c.if-not-recall_parent_ok.false) b.if-k-own.true
          (omega (arith, b.if-key-gt256.false, has_key w)) b.ticket_at-child.ensures (sym b.is_child_of.ensures ∙ b.if-not-is_child_of.false)
      | else-k-own+else-not-may_name+then-note-lt256+else-not-far_entry_ok b ↦
          far_ok x w (omega (arith, c.if-place-ge256.false)) c.ticket_at-grant.ensures (sym c.recall_parent_ok.ensures ∙ c.if-not-recall_parent_ok.false) b.if-k-own.false
          (sym b.may_name.ensures ∙ b.if-not-may_name.false) b.note_of-note.result b.note_of-note.ensures b.entry_at-e.ensures b.far_entry_ok.ensures
          b.if-not-far_entry_ok.false
      | else-k-own+else-not-may_name+else-note-lt256 b ↦
          far_none x w (omega (arith, c.if-place-ge256.false)) c.ticket_at-grant.ensures (sym c.recall_parent_ok.ensures ∙ c.if-not-recall_parent_ok.false) b.if-k-own.false
          (sym b.may_name.ensures ∙ b.if-not-may_name.false) (subst (λ (m : ℕ). 256 ≤ m) b.note_of-note.ensures b.if-note-lt256.false)
    ])

pub returns : goal.returns
returns c =
    λ t x. held_end x c.args.recalls.now c.requires.0 c.loop-at.at-index (omega arith) (c.loop-at.invariant t x)
