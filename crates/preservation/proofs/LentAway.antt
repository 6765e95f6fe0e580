-- What was lent away to other pads from the tickets that go: the entries that their recalls name, with all below. Told by names.
use mathlib.Core.Path.{◌≡◌}
use mathlib.Core.Bool.{Bool, true, false, not, ◌&&◌}
use lib.Dec.{eqb}
use borrow.Author.Tests.{eqb-false, ne_eqb, not-true}
use Rattle.lists.proofs.Tests.{and_l, and_r, and_intro, not_test}
use Rattle.tables.specs.declared.{Name.Name, Tables.Tables}
use Rattle.tables.specs.Kinds.{is_recall}
use Rattle.tables.specs.Lookup.{lookup, entry_of}
use Rattle.tables.specs.Chains.{reaches, at_or_below}
use Rattle.tables.specs.Order.{under_store}
use Rattle.tables.proofs.KindLaws.{live_recall}
use Rattle.tables.proofs.NameLaws.{eq_name_refl}
use Rattle.machine.specs.Recall.{lent_away}
use Rattle.preservation.specs.InOrder.{InOrder}
use Rattle.preservation.proofs.TestsByName.{SomeName, some_ticket_intro, some_ticket_elim}
use Rattle.preservation.proofs.ChainSteps.{entry_falls}

-- an entry is at itself
pub at_itself : (t : Tables) (x : Name) → at_or_below t x x ≡ true
unfolding reaches
at_itself t x = rw (eq_name_refl x)

-- a recall of another pad's ticket that goes, at or below whose target the entry n is
pub record LentFrom (t : Tables) (gone : Name → Bool) (n : Name) : Type 0 where
  pub by : Name
  pub recall : is_recall (lookup t by).kind ≡ true
  pub goes : gone by ≡ true
  pub away : (lookup t by).other.pad ≡ by.pad → ⊥
  pub below : at_or_below t (lookup t by).other n ≡ true

module _ (t : Tables) (ok : InOrder t) (gone : Name → Bool) where
  pub lent_away_lem : (n : Name) → LentFrom t gone n → lent_away t gone n ≡ true
  unfolding lent_away
  lent_away_lem n f =
      some_ticket_intro t ok.shape.sized is_recall live_recall (λ m k. gone m && not (eqb k.other.pad m.pad) && at_or_below t k.other n)
      f.by f.recall
      (and_intro (and_intro f.goes (not_test (eqb (lookup t f.by).other.pad f.by.pad) (ne_eqb (lookup t f.by).other.pad f.by.pad f.away)))
      f.below)

  pub lent_from : (n : Name) → lent_away t gone n ≡ true → LentFrom t gone n
  unfolding lent_away
  lent_from n e =
      let s : SomeName t ok.shape is_recall live_recall (λ m k. gone m && not (eqb k.other.pad m.pad) && at_or_below t k.other n)
      = some_ticket_elim t ok.shape is_recall live_recall (λ m k. gone m && not (eqb k.other.pad m.pad) && at_or_below t k.other n) e in
      let p = s.passes in
      let a : gone s.name ≡ true = search (and_l, and_r) depth 4 in
      let b : not (eqb (lookup t s.name).other.pad s.name.pad) ≡ true = search (and_l, and_r) depth 4 in
      let c : at_or_below t (lookup t s.name).other n ≡ true = search (and_l, and_r) depth 4 in
      record {
        by = s.name;
        recall = s.picked;
        goes = a;
        away = eqb-false (lookup t s.name).other.pad s.name.pad (not-true (eqb (lookup t s.name).other.pad s.name.pad) b);
        below = c;
      }

  -- what is below such an entry is such an entry
  pub lent_falls : (n : Name) → (entry_of t n).live ≡ true → under_store (entry_of t n) ≡ false → lent_away t gone (entry_of t n).parent ≡ true
      → lent_away t gone n ≡ true
  lent_falls n l z e =
      let f = lent_from (entry_of t n).parent e in
      lent_away_lem n (record { by = f.by; recall = f.recall; goes = f.goes; away = f.away; below = entry_falls t ok (lookup t f.by).other n l z f.below })
