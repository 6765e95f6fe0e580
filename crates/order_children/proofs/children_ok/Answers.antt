-- The children before the index have passed, and the places of their parents are written.
use native.Mathlib.Omega.{arith}
use mathlib.Core.Path.{sym, subst, ◌∙◌}
use lib.ListN.{get_or}
use borrow.Author.Count.{below_more}
use Rattle.lists.proofs.Tests.{no_true}
use Rattle.tables.specs.Kinds.{is_child}
use Rattle.tables.specs.Names.{free}
use Rattle.image_read.specs.Places.{tickets_in}
use Rattle.image_read.proofs.Places.{tickets_long}
use Rattle.order_lists.proofs.Laws.{listed_all_at, listed_broken, Filled, filled_none, filled_at, filled_end}
use Rattle.order_children.specs.Parts.{child_ok, children_ok}
use Rattle.order_children.proofs.Children.{up_of, no_child, no_child_up, no_parent, by_parent, parent_up}
use Rattle.order_children.proofs.children_ok.Goals as goal

pub loop-at-init : goal.loop-at-init
loop-at-init c = (
  (λ j h. absurd (omega (arith, h))),
  subst (Filled 256 256 _ _ 0) (sym c.requires.1) (filled_none 256 256 _ _),
)

pub returns-then-p-ge256 : goal.returns-then-p-ge256
unfolding children_ok
returns-then-p-ge256 c =
    let ks = tickets_in c.args.image.now in
    let i = c.loop-at.at-index in
    let q = get_or c.args.children.now i 0 in
    let child = c.requires.0.passes i (omega arith) in
    let e = listed_broken free (λ k. is_child k.kind) ks 256 _ _ c.requires.0 (child_ok ks c.args.numbers.now) (tickets_long c.args.image.now) i (omega arith)
    (no_parent ks c.args.numbers.now q _ c.from-at.ensures _ c.ticket_at-k.ensures child _ c.place_of-p.ensures c.if-p-ge256.true) in
    (e, λ z. no_true z)

pub returns-then-not-parent_ok : goal.returns-then-not-parent_ok
unfolding children_ok
returns-then-not-parent_ok c =
    let ks = tickets_in c.args.image.now in
    let i = c.loop-at.at-index in
    let q = get_or c.args.children.now i 0 in
    let child = c.requires.0.passes i (omega arith) in
    let e = listed_broken free (λ k. is_child k.kind) ks 256 _ _ c.requires.0 (child_ok ks c.args.numbers.now) (tickets_long c.args.image.now) i (omega arith)
    (by_parent ks c.args.numbers.now q _ c.from-at.ensures _ c.ticket_at-k.ensures child _ c.place_of-p.ensures (omega (arith, c.if-p-ge256.false)) _
    c.ticket_at-parent.ensures _ c.name_at.ensures _ c.parent_ok.ensures ∙ c.if-not-parent_ok.true) in
    (e, λ z. no_true z)

pub loop-at-preserved : goal.loop-at-preserved
loop-at-preserved c =
    let ks = tickets_in c.args.image.now in
    let i = c.loop-at.at-index in
    let q = get_or c.args.children.now i 0 in
    let child = c.requires.0.passes i (omega arith) in
    let p = c.place_of-p.ensures in (
      below_more _ i c.loop-at.invariant.0
          (by_parent ks c.args.numbers.now q _ c.from-at.ensures _ c.ticket_at-k.ensures child _ p (omega (arith, c.if-p-ge256.false)) _
          c.ticket_at-parent.ensures _ c.name_at.ensures _ c.parent_ok.ensures ∙ c.if-not-parent_ok.false),
      filled_at 256 256 (λ m. up_of c.args.numbers.now (get_or ks m free)) c.args.children.now i c.loop-at.up c.loop-at.invariant.1
          (c.requires.0.low i (omega arith)) _
          (parent_up ks c.args.numbers.now q _ c.from-at.ensures _ c.ticket_at-k.ensures child _ p) _ c.from-at.ensures,
    )

pub returns : goal.returns
unfolding children_ok
returns c =
    let ks = tickets_in c.args.image.now in
    let listing = c.requires.0 in (
      sym
          (listed_all_at free (λ k. is_child k.kind) ks 256 _ _ listing (child_ok ks c.args.numbers.now) (tickets_long c.args.image.now)
          (λ j h. c.loop-at.invariant.0 j (omega arith)) (λ q k e. no_child c.args.numbers.now k e ks q)),
      λ z. record {
        long = c.loop-at.invariant.1.long;
        at = filled_end 256 256 _ _ free (λ k. is_child k.kind) ks _ listing (λ p h e. no_child_up c.args.numbers.now (get_or ks p free) e) c.loop-at.at-index _ (omega arith) c.loop-at.invariant.1;
      },
    )
