-- Places agree in tables in order that are the same: a program has a free place in both or in neither, a run of sheets is free in both or in
-- neither, and so a take would use the same one.
use Prim.Native.Nat.{ℕ, ◌+◌, ◌≤◌, ◌<◌}
use native.Mathlib.Omega.{arith}
use mathlib.Core.Path.{◌≡◌, refl, sym, ap, ◌∙◌, fun_ext}
use mathlib.Core.Bool.{Bool, true, false, not, ◌&&◌, ◌||◌}
use lib.Dec.{leb, ltb}
use Rattle.lists.specs.Tests.{implies}
use Rattle.lists.specs.Lists.{all, least}
use Rattle.lists.proofs.Tests.{both_ways}
use Rattle.lists.proofs.KeyedSame.{room_there_lem}
use Rattle.tables.specs.declared.{Ticket.Ticket, Entry.Entry, Tables.Tables}
use Rattle.tables.specs.Names.{name_of}
use Rattle.tables.specs.Kinds.{is_live}
use Rattle.tables.specs.Lookup.{tickets_of, lookup, entry_of}
use Rattle.tables.specs.Change.{is_free, has_place}
use Rattle.tables.specs.Sheets.{apart, outside, is_free_run, lowest_run, has_run}
use Rattle.tables.specs.Order.{every_entry}
use Rattle.tables.specs.Same.{SameTables}
use Rattle.tables.proofs.Keys.{ticket_keys, ticket_laws, lookup_keyed}
use Rattle.tables.proofs.ByPlace.{every_entry_elim}
use Rattle.best_fit.specs.BestFit.{best_fit}
use Rattle.best_fit.proofs.Laws.{best_same}
use Rattle.preservation.specs.InOrder.{InOrder}
use Rattle.preservation.proofs.TestsByName.{every_entry_intro}
use Rattle.sameness.proofs.SameIsEquivalence.{same_sym}
use Rattle.sameness.proofs.SaidFacts.{same_kind, same_live, same_entry_first, same_entry_count}

-- ---- one way
module _ (t u : Tables) (ok : InOrder t) (ok' : InOrder u) (same : SameTables t u) where
  ticket_known : (p q m : ℕ) → is_live (lookup u (name_of p q m)).kind ≡ true → is_live (lookup t (name_of p q m)).kind ≡ true
  ticket_known p q m l = ap is_live (same_kind t u same (name_of p q m)) ∙ l

  place_there : (p q : ℕ) → p < 4 → q < 8 → has_place t p q ≡ true → has_place u p q ≡ true
  unfolding has_place is_free
  place_there p q b c =
      room_there_lem ticket_keys ticket_laws (tickets_of t p q) (tickets_of u p q)
      (ok.shape.sized.tickets p q b c ∙ sym (ok'.shape.sized.tickets p q b c)) (ok'.shape.distinct p q b c)
      (λ m l.
      ap (λ (k : Ticket). is_live k.kind) (sym (lookup_keyed t (name_of p q m)))
      ∙ ticket_known p q m (ap (λ (k : Ticket). is_live k.kind) (lookup_keyed u (name_of p q m)) ∙ l))

  apart_there : (f c : ℕ) → every_entry (λ e. apart f c e.first e.count) t ≡ true → every_entry (λ e. apart f c e.first e.count) u ≡ true
  apart_there f c h =
      every_entry_intro u ok'.shape (λ e. apart f c e.first e.count)
      (λ n l.
      ap (λ (x : ℕ). apart f c x (entry_of u n).count) (sym (same_entry_first t u same n))
      ∙ ap (apart f c (entry_of t n).first) (sym (same_entry_count t u same n))
      ∙ every_entry_elim t ok.shape.sized (λ e. apart f c e.first e.count) h n (same_live t u same n ∙ l))

as_implies : (a b : Bool) → (not a || b) ≡ implies a b
unfolding implies
as_implies true b = refl
as_implies false b = refl

-- a run lies outside an entry that is not live, or apart from its sheets
outside_test : (f c : ℕ) (t : Tables) → all (outside f c) t.entries ≡ every_entry (λ e. apart f c e.first e.count) t
unfolding every_entry outside
outside_test f c t = ap (λ (test : Entry → Bool). all test t.entries) (fun_ext (λ e. as_implies e.live (apart f c e.first e.count)))

-- ---- both ways
module _ (t u : Tables) (ok : InOrder t) (ok' : InOrder u) (same : SameTables t u) where
  pub place_same : (p q : ℕ) → p ≤ 3 → q ≤ 7 → has_place t p q ≡ has_place u p q
  place_same p q b c =
      both_ways (has_place t p q) (has_place u p q) (place_there t u ok ok' same p q (omega arith) (omega arith))
      (place_there u t ok' ok (same_sym t u same) p q (omega arith) (omega arith))

  outside_same : (f c : ℕ) → all (outside f c) t.entries ≡ all (outside f c) u.entries
  outside_same f c =
      outside_test f c t ∙ both_ways _ _ (apart_there t u ok ok' same f c) (apart_there u t ok' ok (same_sym t u same) f c) ∙ sym (outside_test f c u)

  free_same : (c f : ℕ) → is_free_run t.entries c f ≡ is_free_run u.entries c f
  unfolding is_free_run
  free_same c f = ap (λ (b : Bool). leb (f + c) 256 && b) (outside_same f c)

  pub run_same : (c : ℕ) → best_fit t.entries c ≡ best_fit u.entries c
  run_same = best_same t.entries u.entries free_same

  pub has_run_same : (c : ℕ) → has_run t.entries c ≡ has_run u.entries c
  unfolding has_run lowest_run
  has_run_same c = ap (λ (test : ℕ → Bool). ltb (least test 256 0) 256) (fun_ext (free_same c))
