-- Programs counted over all pads, and whether one is full.
use Prim.Native.Nat.{ℕ, ◌+◌, ◌*◌, ◌/◌, ◌%◌, ◌≤◌}
use native.Mathlib.Omega.{arith}
use mathlib.Core.Path.{◌≡◌, sym, ap, ◌∙◌}
use mathlib.Core.Bool.{not}
use lib.Dec.{leb}
use lib.ListN.{length}
use borrow.Author.Tests.{leb-true, leb-false}
use Rattle.lists.specs.Lists.{first_index}
use Rattle.lists.proofs.Tests.{Case, pass, fail, case}
use Rattle.tables.specs.declared.{Ticket.Ticket, Tables.Tables}
use Rattle.tables.specs.Lookup.{tickets_of}
use Rattle.tables.specs.Change.{is_free, has_place, give}
use Rattle.tables.proofs.FreePlaces.{has_place_lem, has_no_place}

module _ (t : Tables) (a b : ℕ) (low : b ≤ 7) (m : ℕ) (e : m ≡ 8 * a + b) where
  pad_part_lem : m / 8 ≡ a
  pad_part_lem = omega (arith, low, e)

  program_part : m % 8 ≡ b
  program_part = omega (arith, low, e)

  pub given_there : (k : Ticket) → give t (m / 8) (m % 8) k ≡ give t a b k
  given_there k = λ i. give t (pad_part_lem i) (program_part i) k

  pub is_full : length (tickets_of t a b) ≡ 8 → (place : ℕ) → place ≡ first_index is_free (tickets_of t (m / 8) (m % 8)) → leb 8 place ≡ not (has_place t a b)
  is_full long place f = go (case (leb 8 place))
    where
      found : place ≡ first_index is_free (tickets_of t a b)
      found = f ∙ (λ i. first_index is_free (tickets_of t (pad_part_lem i) (program_part i)))

      go : Case (leb 8 place) → leb 8 place ≡ not (has_place t a b)
      go (pass h) = h ∙ sym (ap not (has_no_place t a b long place found (leb-true 8 place h)))
      go (fail h) = h ∙ sym (ap not (has_place_lem t a b long place found (leb-false 8 place h)))
