-- Demand 3: isolation, as a statement. "This is a single claim about the two sequences, not one for each operation": `Isolated`
-- says it for two sequences from one common state, `IsolatedFromEmpty` from the emptied dock as document 01 asks, and
-- `IsolatedFromAny` from any common state in order in which no link joins the group to the others.
use Rattle.std.specs.Prelude.{◌≡◌, Bool, true, false, List, [], ◌∷◌, ◌↔◌, length}
use Rattle.tables.specs.declared.{Name.Name, Tables.Tables}
use Rattle.tables.specs.Kinds.{is_child, is_recall}
use Rattle.tables.specs.Names.{is_none}
use Rattle.tables.specs.Lookup.{Sized, lookup, entry_of}
use Rattle.tables.specs.Order.{in_order}
use Rattle.machine.specs.State.{State}
use Rattle.machine.specs.Empty.{empty_dock}
use Rattle.machine.specs.Sequence.{Sent, Group, none_crosses, Exchange, group_exchanges}

-- "for every n": the n-th elements are related, for every n that both lists have
pub data ForEvery {A : Type 0} (R : A → A → Type 0) : List A → List A → Type 0 where
  no_left : {ys : List A} → ForEvery R [] ys
  no_right : {xs : List A} → ForEvery R xs []
  both : {x y : A} {xs ys : List A} → R x y → ForEvery R xs ys → ForEvery R (x ∷ xs) (y ∷ ys)

-- "the group's n-th requests agree in their numbers, and a write's in those 64 bytes; a take gets 11 in both or in neither."
pub record Given (a b : Exchange) : Type 0 where
  pub numbers : a.sent.request ≡ b.sent.request
  pub written : a.sent.request.op ≡ 6 → a.sent.sheet ≡ b.sent.sheet
  pub eleven : a.sent.request.op ≡ 1 → (a.answer.result ≡ 11) ↔ (b.answer.result ≡ 11)

-- "their answers agree in every number, and accepted reads in the 64 bytes they leave"
pub record Agree (a b : Exchange) : Type 0 where
  pub answers : a.answer ≡ b.answer
  pub read : a.sent.request.op ≡ 5 → a.answer.result ≡ 0 → a.left ≡ b.left

-- Two sequences that begin alike, with the state s. "Given: no pass in either sequence crosses the edge. Given also, for every n: ..
-- Then, for every n, .."
abbrev pub Isolated : Group → State → List Sent → List Sent → Type 0
Isolated g s is js =
    none_crosses g is ≡ true → none_crosses g js ≡ true
    → ForEvery Given (group_exchanges g s is) (group_exchanges g s js)
    → ForEvery Agree (group_exchanges g s is) (group_exchanges g s js)

-- "Both begin alike, with the tables and store that emptying leaves."
abbrev pub IsolatedFromEmpty : Type 0
IsolatedFromEmpty = (g : Group) (is js : List Sent) → Isolated g empty_dock is js

-- ---- the same from any common start
-- the program of a name is in the group
abbrev pub owns : Group → Name → Bool
owns g n = g n.pad n.program

-- no parent, recall or entry link joins the group to the others
pub record Unlinked (g : Group) (t : Tables) : Type 0 where
  pub parent : (n : Name) → is_child (lookup t n).kind ≡ true → owns g (lookup t n).other ≡ owns g n
  pub target : (n : Name) → is_recall (lookup t n).kind ≡ true → owns g (lookup t n).other ≡ owns g n
  pub entry : (n : Name) → (entry_of t n).live ≡ true → is_none (entry_of t n).parent ≡ false → owns g (entry_of t n).parent ≡ owns g n

-- tables in order and a whole store
pub record CommonStart (g : Group) (s : State) : Type 0 where
  pub sized : Sized s.tables
  pub order : in_order s.tables ≡ true
  pub unlinked : Unlinked g s.tables
  pub store : length s.store ≡ 16384

abbrev pub IsolatedFromAny : Type 0
IsolatedFromAny = (g : Group) (s : State) → CommonStart g s → (is js : List Sent) → Isolated g s is js
