-- Tables in order meet what serving asks of them.
use mathlib.Core.Path.{◌≡◌}
use Prim.Native.Nat.{ℕ}
use mathlib.Core.Bool.{true, false}
use mathlib.Core.List.{List}
use Rattle.tables.specs.declared.{Name.Name, Tables.Tables}
use Rattle.tables.specs.Names.{is_none}
use Rattle.tables.specs.Lookup.{Sized, lookup, entry_of, last_of}
use Rattle.tables.specs.Chains.{entry_parent}
use Rattle.tables.specs.Order.{in_order}
use Rattle.tables.proofs.KindLaws.{live_head}
use Rattle.preservation.specs.InOrder.{InOrder}
use Rattle.preservation.proofs.Walks.{end_good}
use Rattle.preservation.proofs.RuleFacts.{positive, entry_head, live_named, parent_live}
use Rattle.preservation.proofs.Places.{parent_pad, entry_chain_short}
use Rattle.preservation.proofs.TestMeansOrder.{test_means_order}
use Rattle.image.specs.Image.{decode}
use Rattle.image_find.proofs.Laws.{decoded_sized}
use Rattle.op_drop_tickets.specs.Linked.{Linked}
use Rattle.op_drop_entries.specs.Links.{LinkedEntries}
use Rattle.op_outcome.specs.Ready.{Ready}
use Rattle.op_serve.specs.Contract.{ReadyToServe}
use Rattle.op_serve.proofs.ByDock.{heads}

module _ (t : Tables) (ok : InOrder t) where
  linked : Linked t
  linked = record {
    distinct = ok.shape.distinct;
    numbered = positive (lookup t) (entry_of t) (last_of t) ok.rules;
    parent = parent_live (lookup t) (entry_of t) (last_of t) ok.rules;
    near = parent_pad t ok;
  }

  named : (n : Name) → (entry_of t n).live ≡ true → is_none n ≡ false
  named n l = live_named (lookup t) (entry_of t) (last_of t) ok.rules n (live_head (lookup t n).kind (entry_head (ok.rules.entry n l)))

  entries_linked : LinkedEntries t.entries
  entries_linked = record {
    distinct = ok.shape.distinct_entries;
    parent = λ n l z. (ok.rules.under n l z).live;
    ends = λ n l.
        let c = ok.rules.entry_chain n l in
        named _ (end_good (entry_parent (entry_of t)) (λ m. (entry_of t m).live ≡ true) (λ m k z. (ok.rules.under m k z).live) c.1 256 (entry_chain_short t ok l c.1) l);
  }

  pub ready_from : Ready t
  ready_from = record { linked = linked; heads = heads t ok; entries = entries_linked; span = λ n g. (ok.rules.span n g).fits }

pub ready : (t : Tables) → Sized t → in_order t ≡ true → Ready t
ready t z e = ready_from t (test_means_order t z e)

-- so do lent buffers that are
pub ready_lent : {image store sheet : List ℕ} → ReadyToServe image store sheet → Ready (decode image)
ready_lent {image} b = ready (decode image) (decoded_sized image) b.order
