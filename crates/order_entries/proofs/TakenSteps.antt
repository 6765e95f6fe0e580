-- The note that a taken grant must have, as the code reads it at each place that is listed.
use Prim.Native.Nat.{ℕ, ◌≤◌, ◌<◌}
use native.Mathlib.Omega.{arith}
use mathlib.Core.Path.{◌≡◌, sym, ap, subst, ◌∙◌}
use mathlib.Core.Bool.{Bool, true, false}
use mathlib.Core.List.{List}
use lib.Dec.{ltb}
use lib.ListN.{length, get_or}
use borrow.Author.Tests.{lt-ltb, le-ltb}
use Rattle.lists.specs.Tests.{implies}
use Rattle.lists.proofs.Reading.{any_default}
use Rattle.tables.specs.declared.Ticket.{Ticket}
use Rattle.tables.specs.Kinds.{is_taken}
use Rattle.tables.specs.Names.{free}
use Rattle.order_lists.specs.Listing.{TicketsListed}
use Rattle.order_lists.proofs.Laws.{listed_all_at, listed_broken}
use Rattle.order_entries.specs.Order.{has_note, taken_noted}

module _ (notes : List ℕ) (p : ℕ) (k : Ticket) where
  not_taken : is_taken k.kind ≡ false → has_note notes p k ≡ true
  unfolding has_note implies
  not_taken e = rw e

  module _ (e : is_taken k.kind ≡ true) (h : p < length notes) where
    taken : has_note notes p k ≡ ltb (get_or notes p 0) 256
    unfolding has_note implies
    taken =
        ap (λ (b : Bool). implies b (ltb (get_or notes p 256) 256)) e ∙ ap (λ (x : ℕ). ltb x 256) (any_default notes p 256 0 h)

    taken_noted_lem : get_or notes p 0 < 256 → has_note notes p k ≡ true
    taken_noted_lem l = taken ∙ lt-ltb (get_or notes p 0) 256 l

    taken_lost : 256 ≤ get_or notes p 0 → has_note notes p k ≡ false
    taken_lost l = taken ∙ le-ltb (get_or notes p 0) 256 l

module _ (notes : List ℕ) (long : length notes ≡ 256) (places : List ℕ) (tickets : List Ticket) (all : length tickets ≡ 256)
    (listing : TicketsListed (λ k. is_taken k.kind) tickets places) where
  there : (j : ℕ) → j < length places → get_or places j 0 < length notes
  there j h = omega (arith, listing.low j h, long)

  pub taken_broken : (j : ℕ) → j < length places → (p : ℕ) → p ≡ get_or places j 0 → 256 ≤ get_or notes p 0 → false ≡ taken_noted notes tickets
  unfolding taken_noted
  taken_broken j h p e l =
      listed_broken free (λ k. is_taken k.kind) tickets 256 places (length places) listing (has_note notes) all j h
      (taken_lost notes (get_or places j 0) (get_or tickets (get_or places j 0) free) (listing.passes j h) (there j h) (subst (λ (x : ℕ). 256 ≤ get_or notes x 0) e l))

  pub taken_all : ((j : ℕ) → j < length places → get_or notes (get_or places j 0) 0 < 256) → true ≡ taken_noted notes tickets
  unfolding taken_noted
  taken_all h =
      sym
      (listed_all_at free (λ k. is_taken k.kind) tickets 256 places (length places) listing (has_note notes) all
      (λ j b. taken_noted_lem notes (get_or places j 0) (get_or tickets (get_or places j 0) free) (listing.passes j b) (there j b) (h j b))
      (λ p k. not_taken notes p k))
