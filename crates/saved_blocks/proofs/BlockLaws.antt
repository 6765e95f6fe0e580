-- The block of a number, by its kind; and who has a line in it.
use Prim.Native.Nat.{ℕ, ◌/◌, ◌%◌, ◌≤◌, ◌<◌}
use native.Mathlib.Omega.{arith}
use mathlib.Core.Path.{◌≡◌, refl}
use mathlib.Core.Bool.{true}
use mathlib.Core.List.{[], ◌∷◌}
use borrow.Author.Tests.{lt-ltb, le-ltb, eqb-true}
use Rattle.lists.proofs.Tests.{and_l}
use Rattle.tables.specs.declared.{Kind.Kind, Ticket.Ticket, Tables.Tables}
use Rattle.tables.specs.declared.Kind.TheVariants.{Free, Taken, Received, Child, Recall}
use Rattle.tables.specs.Kinds.{is_live, is_head}
use Rattle.tables.proofs.KindLaws.{live_head}
use Rattle.image.specs.Image.{kind_number}
use Rattle.saved.specs.Save.{last_row}
use Rattle.saved_blocks.specs.Blocks.{of_kind, has_entry, ticket_lines, entry_lines, block}

module _ (t : Tables) (m : ℕ) where
  pub block_last : m < 32 → block t m ≡ last_row t m ∷ []
  unfolding block
  block_last h = rw (lt-ltb m 32 h)

  pub block_tickets : 32 ≤ m → m < 160 → block t m ≡ ticket_lines t (m / 32) (m % 32)
  unfolding block
  block_tickets low h = rw (le-ltb m 32 low, lt-ltb m 160 h)

  pub block_entries : 160 ≤ m → block t m ≡ entry_lines t (m % 32)
  unfolding block
  block_entries low = rw (le-ltb m 32 (omega arith), le-ltb m 160 low)

-- ---- a ticket of a kind is live
by_number : (kind : ℕ) → 1 ≤ kind → (it : Kind) → kind_number it ≡ kind → is_live it ≡ true
by_number kind some Free e = absurd (omega (arith, e, some))
by_number kind some Taken e = refl
by_number kind some Received e = refl
by_number kind some Child e = refl
by_number kind some Recall e = refl

pub kind_alive : (kind : ℕ) → 1 ≤ kind → (k : Ticket) → of_kind kind k ≡ true → is_live k.kind ≡ true
kind_alive kind some k e = by_number kind some k.kind (eqb-true (kind_number k.kind) kind e)

-- ---- so is a grant that has its entry
pub entry_head : (t : Tables) (k : Ticket) → has_entry t k ≡ true → is_head k.kind ≡ true
unfolding has_entry
entry_head t k e = and_l (is_head k.kind) _ e

pub entry_alive : (t : Tables) (k : Ticket) → has_entry t k ≡ true → is_live k.kind ≡ true
entry_alive t k e = live_head k.kind (entry_head t k e)
