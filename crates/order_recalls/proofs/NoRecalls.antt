-- T6 in tables without a recall, a child or an entry under another.
use Prim.Native.Nat.{ℕ, ◌<◌}
use native.Mathlib.Omega.{arith}
use mathlib.Core.Path.{◌≡◌, sym, ap, subst, ◌∙◌}
use mathlib.Core.Bool.{Bool, true, not}
use mathlib.Core.List.{List}
use lib.ListN.{length, get_or}
use Rattle.lists.proofs.Tests.{and_intro, implies_intro}
use Rattle.lists.specs.Tests.{implies}
use Rattle.lists.proofs.Everywhere.{all_intro}
use Rattle.tables.specs.declared.{Ticket.Ticket, Entry.Entry, Tables.Tables}
use Rattle.tables.specs.Kinds.{is_child, is_recall}
use Rattle.tables.specs.Names.{free, no_entry}
use Rattle.tables.specs.Order.{every_entry, under_store, is_recalled, recall_ok, t6}
use Rattle.image_read.specs.Places.{tickets_in, entries_in}
use Rattle.image_read.proofs.Places.{entries_long}
use Rattle.image_places.specs.Places.{placed}
use Rattle.image_places.proofs.Laws.{placed_every}
use Rattle.order_lists.specs.Listing.{Spot, TicketsListed, ReceivedListed, is_hung}
use Rattle.order_lists.proofs.Laws.{none_listed}
use Rattle.order_recall_marks.proofs.Laws.{has_recall}
use Rattle.order_recalls.specs.Recalls.{LaidOut}

module _ {t : Tables} {image numbers notes : List ℕ} (ix : LaidOut t image numbers notes) (children recalls received : List ℕ)
    (under : TicketsListed (λ k. is_child k.kind) (tickets_in image) children) (back : TicketsListed (λ k. is_recall k.kind) (tickets_in image) recalls)
    (grants : ReceivedListed numbers (entries_in image) received) (none : length recalls ≡ 0) (childless : length children ≡ 0) (unlent : length received ≡ 0) where
  no_recall : (p : ℕ) → p < 256 → is_recall (placed t p).kind ≡ true → ⊥
  no_recall p h r =
      none_listed free (λ k. is_recall k.kind) (tickets_in image) 256 recalls (length recalls) back none p h
      (ap (λ (k : Ticket). is_recall k.kind) (ix.flat.same p h) ∙ r)

  no_child : (p : ℕ) → p < 256 → is_child (placed t p).kind ≡ true → ⊥
  no_child p h r =
      none_listed free (λ k. is_child k.kind) (tickets_in image) 256 children (length children) under childless p h
      (ap (λ (k : Ticket). is_child k.kind) (ix.flat.same p h) ∙ r)

  asks : Entry → Bool
  asks e = implies e.live (implies (not (under_store e)) (is_recalled t e.name))

  no_hung : (i : ℕ) → i < length t.entries → asks (get_or t.entries i no_entry) ≡ true
  unfolding asks
  no_hung i b =
      implies_intro (get_or t.entries i no_entry).live _
      (λ l. implies_intro (not (under_store (get_or t.entries i no_entry))) _
      (λ u. absurd (nobody (grants.all i (omega (arith, b, ap length ix.entries, entries_long image))
      (subst (λ (es : List Entry). is_hung (get_or es i no_entry) ≡ true) (sym ix.entries) (and_intro l u))))))
    where
      nobody : {p : ℕ} → Spot received (length received) p → ⊥
      nobody s = omega (arith, s.low, unlent)

  pub no_recalls : true ≡ t6 t
  unfolding t6 every_entry asks
  no_recalls =
      sym
      (and_intro
      (and_intro (placed_every t ix.numbered.sized is_recall (recall_ok t) (λ p h r. absurd (no_recall p h r)))
      (placed_every t ix.numbered.sized is_child (has_recall t) (λ p h c. absurd (no_child p h c))))
      (all_intro no_entry asks t.entries no_hung))
