-- T1 makes the numbers of all places an index of the tickets by name.
use Prim.Native.Nat.{ℕ, ◌/◌, ◌%◌, ◌≤◌, ◌<◌}
use native.Mathlib.Omega.{arith}
use mathlib.Core.Path.{◌≡◌, sym, ap, ◌∙◌, subst}
use mathlib.Core.Bool.{true, ◌&&◌}
use mathlib.Core.List.{List, map}
use lib.Dec.{eqb}
use lib.ListN.{length, get_or, length-map, get_or-map}
use Rattle.lists.specs.Tests.{implies, between}
use Rattle.lists.specs.Lists.{no_two}
use Rattle.lists.proofs.Tests.{and_l, and_r, implies_elim, between_low}
use Rattle.lists.proofs.Everywhere.{all_elim}
use Rattle.lists.proofs.Keyed.{Distinct, distinct_intro}
use Rattle.tables.specs.declared.{Ticket.Ticket, Tables.Tables}
use Rattle.tables.specs.Names.{free}
use Rattle.tables.specs.Lookup.{Sized, tickets_of, last_of}
use Rattle.tables.specs.Order.{numbers_ok, t1, t2, t4}
use Rattle.tables.proofs.Keys.{ticket_keys, ticket_laws}
use Rattle.tables.proofs.ByPlace.{ticket_at, numbers_at}
use Rattle.image.specs.Layout.{image_size}
use Rattle.image.specs.Image.{decode, kinds_ok}
use Rattle.image_read.specs.Places.{tickets_in, lasts_in}
use Rattle.image_find.proofs.Laws.{flattened, decoded_sized}
use Rattle.image_places.specs.Places.{placed, number_of, Flattened, Numbered}
use Rattle.tables.specs.Kinds.{is_live}
use Rattle.order_programs.proofs.ThreeRules.{rule_1}
use Rattle.order.proofs.Rules.{rules}

module _ (t : Tables) (z : Sized t) (rule : t1 t ≡ true) where
  distinct_at : (a b : ℕ) → a < 4 → b < 8 → Distinct ticket_keys (tickets_of t a b)
  unfolding numbers_ok
  distinct_at a b p q = distinct_intro ticket_keys ticket_laws (tickets_of t a b) (and_l _ _ (numbers_at t z rule p q))

  low_at : (a b i : ℕ) → a < 4 → b < 8 → i < length (tickets_of t a b) → is_live (ticket_at t a b i).kind ≡ true → 1 ≤ (ticket_at t a b i).number
  unfolding numbers_ok
  low_at a b i p q h l =
      between_low 1 (last_of t a b) (ticket_at t a b i).number
      (implies_elim (is_live (ticket_at t a b i).kind) _
      (all_elim free (λ k. implies (is_live k.kind) (between 1 (last_of t a b) k.number)) (tickets_of t a b)
      (and_r (no_two (λ k. is_live k.kind) (λ k other. eqb k.number other.number) (tickets_of t a b)) _ (numbers_at t z rule p q)) i h) l)

  low_placed : (p : ℕ) → p < 256 → is_live (placed t p).kind ≡ true → 1 ≤ (placed t p).number
  low_placed p h =
      let a : p / 64 < 4 = omega arith in
      let b : p / 8 % 8 < 8 = omega arith in
      let i : p % 8 < 8 = omega arith in
      low_at (p / 64) (p / 8 % 8) (p % 8) a b (subst (λ (m : ℕ). p % 8 < m) (sym (z.tickets (p / 64) (p / 8 % 8) a b)) i)

  number_at : (tickets : List Ticket) (lasts : List ℕ) → Flattened t tickets lasts → (p : ℕ) → p < 256 → get_or (map number_of tickets) p 0 ≡ number_of (placed t p)
  unfolding number_of
  number_at tickets lasts flat p h = get_or-map number_of tickets p free ∙ ap number_of (flat.same p h)

  pub numbered : (tickets : List Ticket) (lasts : List ℕ) → Flattened t tickets lasts → (numbers : List ℕ) → numbers ≡ map number_of tickets → Numbered t numbers
  numbered tickets lasts flat numbers e =
      subst (Numbered t) (sym e)
      (record {
        sized = z;
        low = low_placed;
        distinct = distinct_at;
        long = length-map tickets number_of ∙ flat.long;
        same = number_at tickets lasts flat;
      })

-- of the tables that an image says, where the kinds are among the five and T1, T2 and T4 hold
pub image_numbered : (image : List ℕ) → length image ≡ image_size → (kinds_ok image && (t1 (decode image) && t2 (decode image) && t4 (decode image))) ≡ true
    → (numbers : List ℕ) → numbers ≡ map number_of (tickets_in image) → Numbered (decode image) numbers
image_numbered image long p numbers =
    numbered (decode image) (decoded_sized image) (rule_1 (decode image) (rules image long (decode image) p)) (tickets_in image) (lasts_in image)
    (flattened image) numbers
