-- The first part of T5 that fails settles the answer; where none is, the taken grants do.
use native.Mathlib.Omega.{arith}
use mathlib.Core.Path.{refl, sym, ap, ◌∙◌}
use Rattle.std.specs.Prelude.{is_some}
use Rattle.image_read.proofs.Places.{tickets_long}
use Rattle.order_lists.proofs.Laws.{listed_front}
use Rattle.order_entries.proofs.Whole.{bad_notes, bad_hung, bad_roots, last_part}
use Rattle.order_entries.proofs.entries_ok.Goals as goal
use Rattle.order_entries.proofs.entries_ok.Goals.{else-hung_ok-via-then-hung_ok+then-roots_apart+else-taken_ok, else-hung_ok-via-then-hung_ok+else-roots_apart, else-hung_ok-via-else-hung_ok}

pub returns-in_err-listed : goal.returns-in_err-listed
returns-in_err-listed c =
    rw c.from_residual.ensures
    (λ t fl e ix s. bad_notes _ t _ _ fl _ e _ ix s _ _ c.note_entries.ensures.0 (ap is_some c.in_err-listed.was), tt)

pub hung_ok-requires : goal.hung_ok-requires
hung_ok-requires c = let listed = c.in_ok-listed.ensures.1 in listed_front _ _ _ _ _ _ listed.under (omega (arith, listed.under.most))

pub roots_apart-requires : goal.roots_apart-requires
roots_apart-requires c = let listed = c.in_ok-listed.ensures.1 in listed_front _ _ _ _ _ _ listed.top (omega (arith, listed.top.most))

pub returns-then-taken_ok : goal.returns-then-taken_ok
returns-then-taken_ok c = (
  λ t fl e ix s. last_part _ t _ _ fl _ e _ ix s _ _ c.in_ok-listed.ensures.0 refl _ c.hung_ok.ensures c.if-hung_ok.true _ c.roots_apart.ensures
      c.if-roots_apart.true _ (sym c.if-taken_ok.true ∙ c.taken_ok.ensures _ (tickets_long c.args.image.now) c.requires.0),
  c.in_ok-listed.ensures.1.grants,
)

pub returns-else-hung_ok : goal.returns-else-hung_ok
returns-else-hung_ok c = (
  λ t fl e ix s. elim c.else-hung_ok.branch [
    | else-hung_ok-via-then-hung_ok+then-roots_apart+else-taken_ok w ↦
        last_part _ t _ _ fl _ e _ ix s _ _ c.in_ok-listed.ensures.0 refl _ c.hung_ok.ensures w.if-hung_ok.true _ w.roots_apart.ensures
        w.if-roots_apart.true _ (sym w.if-taken_ok.false ∙ w.taken_ok.ensures _ (tickets_long c.args.image.now) c.requires.0)
    | else-hung_ok-via-then-hung_ok+else-roots_apart w ↦
        bad_roots _ t _ _ fl _ e _ ix s _ _ c.in_ok-listed.ensures.0 refl _ c.hung_ok.ensures w.if-hung_ok.true _ w.roots_apart.ensures w.if-roots_apart.false
    | else-hung_ok-via-else-hung_ok w ↦
        bad_hung _ t _ _ fl _ e _ ix s _ _ c.in_ok-listed.ensures.0 refl _ c.hung_ok.ensures w.if-hung_ok.false
  ],
  tt,
)
