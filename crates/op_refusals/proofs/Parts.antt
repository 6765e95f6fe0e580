-- The machine's refusals of pass, read and write are their two parts, one after the other.
use Prim.Native.Nat.{ℕ, ◌+◌, ◌<◌}
use native.Mathlib.Omega.{arith}
use mathlib.Core.Path.{◌≡◌, refl, sym, ◌∙◌}
use mathlib.Core.Bool.{Bool, true, false, not, ◌||◌}
use lib.Dec.{leb}
use borrow.Author.Tests.{ne_eqb, leb-false}
use Rattle.lists.proofs.Tests.{or_false_l, or_false_r}
use Rattle.rights.specs.Rules.{rights_of}
use Rattle.tables.specs.declared.{Ticket.Ticket, Tables.Tables}
use Rattle.tables.specs.Change.{has_place}
use Rattle.machine.specs.declared.{Request.Request, Refusal.Refusal}
use Rattle.machine.specs.State.{asked}
use Rattle.machine.specs.Refusal.{◌when◌else◌, number_of, is_spent}
use Rattle.machine.specs.Pass.{pass_refusal}
use Rattle.machine.specs.Dock.{dock_refusal}
use Rattle.machine.specs.Access.{access_refusal}
use Rattle.machine.proofs.RefusalLaws.{never_zero, when_past}
use Rattle.op_refusals.specs.declared.Seat.{Seat}
use Rattle.op_refusals.specs.Found.{Found, is_lost}
use Rattle.op_refusals.specs.Parts.{◌or_else◌, pass_ticket_refusal, pass_room_refusal, access_ticket_refusal}

-- ---- two refusals, one after the other
first_refuses : {x a : ℕ} (b : ℕ) → x ≡ a → (x ≡ 0 → ⊥) → x ≡ (a or_else b)
unfolding ◌or_else◌
first_refuses {x} {a} b e ne = e ∙ rw (ne_eqb a 0 (λ z. ne (e ∙ z)))

second_decides : {x a y b : ℕ} → x ≡ a → x ≡ 0 → y ≡ b → y ≡ (a or_else b)
unfolding ◌or_else◌
second_decides e z q = q ∙ rw (sym e ∙ z)

-- a chain's first link belongs to the first part
link : (n : ℕ) (b : Bool) (x y : ℕ) {z : ℕ} → (n ≡ 0 → ⊥) → z ≡ (x or_else y) → (n when b else z) ≡ ((n when b else x) or_else y)
unfolding ◌when◌else◌
link n true x y ne e = first_refuses y refl ne
link n false x y ne e = e

-- ---- pass
abbrev room : Tables → Request → Ticket → ℕ
room t r k =
    9 when not (has_place t r.pad r.program) || not (has_place t r.topad r.toprogram) else
    10 when is_spent t r.pad r.program || is_spent t r.topad r.toprogram else
    12 when is_lost t r k else
    0

module _ (t : Tables) (r : Request) (k : Ticket) (e : asked t r ≡ k) where
  pass_in_parts : pass_refusal t r ≡ (pass_ticket_refusal k r or_else room t r k)
  unfolding pass_refusal pass_ticket_refusal
  pass_in_parts =
      rw e
      (link 4 _ _ _ (λ z. omega (arith, z))
      (link 5 _ _ _ (λ z. omega (arith, z))
      (link 8 _ _ _ (λ z. omega (arith, z))
      (link 6 _ _ _ (λ z. omega (arith, z)) (link 7 _ _ _ (λ z. omega (arith, z)) (second_decides {x = 0} {a = 0} refl refl refl))))))

  pub ticket_refuses : {first : ℕ} → first ≡ pass_ticket_refusal k r → (first ≡ 0 → ⊥) → first ≡ pass_refusal t r
  ticket_refuses said ne = first_refuses (room t r k) said ne ∙ sym pass_in_parts

  -- a refusal of the code's is never 0
  pub ticket_refused : (refusal : Refusal) → number_of refusal ≡ pass_ticket_refusal k r → number_of refusal ≡ pass_refusal t r
  ticket_refused refusal said = ticket_refuses said (never_zero refusal)

  pub room_decides : 0 ≡ pass_ticket_refusal k r → {p q : Seat} {lost : Bool} → Found t r k p q lost → {second : ℕ} → second ≡ pass_room_refusal p q lost
      → second ≡ pass_refusal t r
  unfolding is_spent pass_room_refusal
  room_decides said {p} {q} {lost} f h =
      let found : pass_room_refusal p q lost ≡ room t r k
      = λ i.
      9 when f.asker.full i || f.recipient.full i else
      10 when leb 65535 (f.asker.last i) || leb 65535 (f.recipient.last i) else
      12 when f.entry i else
      0 in
      second_decides said refl (h ∙ found) ∙ sym pass_in_parts

-- a pass that has room has numbers left
pub record NumbersLeft (p q : Seat) : Type 0 where
  pub asker : p.last < 65535
  pub recipient : q.last < 65535

pub numbers_left : (p q : Seat) (lost : Bool) → 0 ≡ pass_room_refusal p q lost → NumbersLeft p q
unfolding pass_room_refusal
numbers_left p q lost e =
    let p₉ = when_past 9 (p.full || q.full) _ 0 (λ z. omega (arith, z)) (sym e) in
    let p₁₀ = when_past 10 (leb 65535 p.last || leb 65535 q.last) _ 0 (λ z. omega (arith, z)) p₉.1 in
    record {
      asker = leb-false 65535 p.last (or_false_l (leb 65535 p.last) (leb 65535 q.last) p₁₀.0);
      recipient = leb-false 65535 q.last (or_false_r (leb 65535 p.last) (leb 65535 q.last) p₁₀.0);
    }

-- ---- read and write
module _ (right : ℕ) (t : Tables) (r : Request) (k : Ticket) (e : asked t r ≡ k) where
  access_in_parts : access_refusal right t r
      ≡ (access_ticket_refusal (rights_of right) k r.first or_else dock_refusal t k.dock (k.first + r.first) right)
  unfolding access_refusal access_ticket_refusal
  access_in_parts =
      rw e
      (link 4 _ _ _ (λ z. omega (arith, z))
      (link 5 _ _ _ (λ z. omega (arith, z))
      (link 6 _ _ _ (λ z. omega (arith, z)) (link 7 _ _ _ (λ z. omega (arith, z)) (second_decides {x = 0} {a = 0} refl refl refl)))))

  pub pad_refuses : {first : ℕ} → first ≡ access_ticket_refusal (rights_of right) k r.first → (first ≡ 0 → ⊥) → first ≡ access_refusal right t r
  pad_refuses said ne = first_refuses _ said ne ∙ sym access_in_parts

  pub pad_refused : (refusal : Refusal) → number_of refusal ≡ access_ticket_refusal (rights_of right) k r.first → number_of refusal ≡ access_refusal right t r
  pad_refused refusal said = pad_refuses said (never_zero refusal)

  pub dock_decides : 0 ≡ access_ticket_refusal (rights_of right) k r.first → {second : ℕ} → second ≡ dock_refusal t k.dock (k.first + r.first) right
      → second ≡ access_refusal right t r
  dock_decides said h = second_decides said refl h ∙ sym access_in_parts

pub ruleset access_parts = (pad_refused, dock_decides)

pub ruleset pass_parts = (ticket_refused, room_decides, numbers_left)
