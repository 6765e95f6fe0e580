-- The chain of a pass's room, link by link: what the code's tests say of the answer.
use Prim.Native.Nat.{ℕ, ◌≤◌, ◌<◌}
use mathlib.Core.Path.{◌≡◌, refl, sym, ◌∙◌}
use mathlib.Core.Bool.{Bool, true, false, ◌||◌}
use lib.Dec.{leb}
use borrow.Author.Tests.{le-leb, lt-leb}
use Rattle.lists.proofs.Tests.{or_left, or_right}
use Rattle.machine.specs.Refusal.{◌when◌else◌}
use Rattle.op_check.proofs.Chains.{when_true, when_false}
use Rattle.op_refusals.specs.declared.Seat.{Seat}
use Rattle.op_refusals.specs.Parts.{pass_room_refusal}

-- ---- a test that passed, and one that failed
here : {n : ℕ} {b : Bool} (later : ℕ) → b ≡ true → n ≡ (n when b else later)
here {n} {b} later e = sym (when_true n b later e)

past : (n : ℕ) {b : Bool} {later r : ℕ} → b ≡ false → r ≡ later → r ≡ (n when b else later)
past n {b} {later} e q = q ∙ sym (when_false n b later e)

neither : {a b : Bool} → a ≡ false → b ≡ false → (a || b) ≡ false
neither {a} {b} p q = rw (p, q)

module _ (p q : Seat) (lost : Bool) where
  pub asker_full : p.full ≡ true → 9 ≡ pass_room_refusal p q lost
  unfolding pass_room_refusal
  asker_full e = here _ (or_left q.full e)

  pub recipient_full : q.full ≡ true → 9 ≡ pass_room_refusal p q lost
  unfolding pass_room_refusal
  recipient_full e = here _ (or_right p.full e)

  pub asker_spent : p.full ≡ false → q.full ≡ false → 65535 ≤ p.last → 10 ≡ pass_room_refusal p q lost
  unfolding pass_room_refusal
  asker_spent a b h = past 9 (neither a b) (here _ (or_left (leb 65535 q.last) (le-leb 65535 p.last h)))

  pub recipient_spent : p.full ≡ false → q.full ≡ false → 65535 ≤ q.last → 10 ≡ pass_room_refusal p q lost
  unfolding pass_room_refusal
  recipient_spent a b h = past 9 (neither a b) (here _ (or_right (leb 65535 p.last) (le-leb 65535 q.last h)))

  pub entry_lost : p.full ≡ false → q.full ≡ false → p.last < 65535 → q.last < 65535 → lost ≡ true → 12 ≡ pass_room_refusal p q lost
  unfolding pass_room_refusal
  entry_lost a b h k e = past 9 (neither a b) (past 10 (neither (lt-leb 65535 p.last h) (lt-leb 65535 q.last k)) (here _ e))

  pub room_there : p.full ≡ false → q.full ≡ false → p.last < 65535 → q.last < 65535 → lost ≡ false → 0 ≡ pass_room_refusal p q lost
  unfolding pass_room_refusal
  room_there a b h k e = past 9 (neither a b) (past 10 (neither (lt-leb 65535 p.last h) (lt-leb 65535 q.last k)) (past 12 e refl))

pub ruleset room_links = (asker_full, recipient_full, asker_spent, recipient_spent, entry_lost, room_there)
