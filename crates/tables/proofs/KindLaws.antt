-- Laws of the kinds of tickets. A law of the form "what passes this test passes that one", or fails it, is computed at the five kinds; the
-- others go by cases.
use mathlib.Core.Path.{◌≡◌, refl, sym}
use mathlib.Core.Logic.{◌⊎◌, inl, inr}
use mathlib.Core.Bool.{Bool, true, false, not, ◌&&◌, ◌||◌}
use borrow.Author.Tests.{not-true}
use Rattle.lists.proofs.Tests.{no_true, and_l, and_r, contradiction}
use Rattle.tables.specs.declared.{Name.Name, Kind.Kind, Ticket.Ticket}
use Rattle.tables.specs.declared.Kind.TheVariants.{Free, Taken, Received, Child, Recall}
use Rattle.tables.specs.Names.{is_none}
use Rattle.tables.specs.Chains.{own_name, parent_by}
use Rattle.tables.specs.Kinds.{is_live, is_grant, is_head, is_taken, is_received, is_child, is_recall}

-- ---- by the five kinds
abbrev every_kind : (Kind → Bool) → Bool
every_kind f = f Free && f Taken && f Received && f Child && f Recall

at_kind : (f : Kind → Bool) → every_kind f ≡ true → (k : Kind) → f k ≡ true
at_kind f e Free = search (and_l, and_r) depth 6
at_kind f e Taken = search (and_l, and_r) depth 6
at_kind f e Received = search (and_l, and_r) depth 6
at_kind f e Child = search (and_l, and_r) depth 6
at_kind f e Recall = search (and_l, and_r) depth 6

then : (a b : Bool) → (not a || b) ≡ true → a ≡ true → b ≡ true
then true b e h = e
then false b e h = no_true h

-- what passes f passes g
implied : (f g : Kind → Bool) → every_kind (λ k. not (f k) || g k) ≡ true → (k : Kind) → f k ≡ true → g k ≡ true
implied f g e k h = then (f k) (g k) (at_kind (λ k. not (f k) || g k) e k) h

-- what passes f does not pass g
excluded : (f g : Kind → Bool) → every_kind (λ k. not (f k) || not (g k)) ≡ true → (k : Kind) → f k ≡ true → g k ≡ true → ⊥
excluded f g e k h p = contradiction p (not-true (g k) (then (f k) (not (g k)) (at_kind (λ k. not (f k) || not (g k)) e k) h))

-- ---- live tickets
pub live_grant : (k : Kind) → is_grant k ≡ true → is_live k ≡ true
live_grant = implied is_grant is_live refl

pub live_head : (k : Kind) → is_head k ≡ true → is_live k ≡ true
live_head = implied is_head is_live refl

pub live_taken : (k : Kind) → is_taken k ≡ true → is_live k ≡ true
live_taken = implied is_taken is_live refl

pub live_child : (k : Kind) → is_child k ≡ true → is_live k ≡ true
live_child = implied is_child is_live refl

pub live_recall : (k : Kind) → is_recall k ≡ true → is_live k ≡ true
live_recall = implied is_recall is_live refl

-- ---- grants
pub head_grant : (k : Kind) → is_head k ≡ true → is_grant k ≡ true
head_grant = implied is_head is_grant refl

pub child_grant : (k : Kind) → is_child k ≡ true → is_grant k ≡ true
child_grant = implied is_child is_grant refl

pub taken_head : (k : Kind) → is_taken k ≡ true → is_head k ≡ true
taken_head = implied is_taken is_head refl

pub received_head : (k : Kind) → is_received k ≡ true → is_head k ≡ true
received_head = implied is_received is_head refl

-- a live ticket that is no recall is a grant
pub grant_of : (k : Kind) → is_live k ≡ true → is_recall k ≡ false → is_grant k ≡ true
grant_of Free l h = l
grant_of Taken l h = refl
grant_of Received l h = refl
grant_of Child l h = refl
grant_of Recall l h = sym h

-- ---- what a ticket is not
pub child_head : (k : Kind) → is_child k ≡ true → is_head k ≡ true → ⊥
child_head = excluded is_child is_head refl

pub recall_head : (k : Kind) → is_recall k ≡ true → is_head k ≡ true → ⊥
recall_head = excluded is_recall is_head refl

pub child_recall : (k : Kind) → is_child k ≡ true → is_recall k ≡ true → ⊥
child_recall = excluded is_child is_recall refl

pub received_taken : (k : Kind) → is_received k ≡ true → is_taken k ≡ true → ⊥
received_taken = excluded is_received is_taken refl

pub grant_recall : (k : Kind) → is_grant k ≡ true → is_recall k ≡ true → ⊥
grant_recall = excluded is_grant is_recall refl

-- ---- a grant is a head or a child
pub grant_sort : (k : Kind) → is_grant k ≡ true → (is_head k ≡ true) ⊎ (is_child k ≡ true)
grant_sort Free e = inl e
grant_sort Taken e = inl refl
grant_sort Received e = inl refl
grant_sort Child e = inr refl
grant_sort Recall e = inl e

-- ---- parents on the pad
pub up_child : (k : Kind) (n : Name) (t : Ticket) → is_child k ≡ true → parent_by k n t ≡ t.other
up_child Free n t e = no_true e
up_child Taken n t e = no_true e
up_child Received n t e = no_true e
up_child Child n t e = refl
up_child Recall n t e = no_true e

pub up_recall : (k : Kind) (n : Name) (t : Ticket) → is_recall k ≡ true → parent_by k n t ≡ own_name n t
up_recall Free n t e = no_true e
up_recall Taken n t e = no_true e
up_recall Received n t e = no_true e
up_recall Child n t e = no_true e
up_recall Recall n t e = refl

pub head_up : (k : Kind) (n : Name) (t : Ticket) → is_head k ≡ true → is_none (parent_by k n t) ≡ true
head_up Free n t e = refl
head_up Taken n t e = refl
head_up Received n t e = refl
head_up Child n t e = no_true e
head_up Recall n t e = no_true e

-- what has a parent is a child or a recall
pub has_parent_lem : (k : Kind) (n : Name) (t : Ticket) → is_none (parent_by k n t) ≡ false → (is_child k ≡ true) ⊎ (is_recall k ≡ true)
has_parent_lem Free n t e = no_true (sym e)
has_parent_lem Taken n t e = no_true (sym e)
has_parent_lem Received n t e = no_true (sym e)
has_parent_lem Child n t e = inl refl
has_parent_lem Recall n t e = inr refl
