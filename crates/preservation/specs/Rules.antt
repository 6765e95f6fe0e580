-- T2 to T6 as a proposition about maps: `tickets` takes a name to its live ticket (a free record where there is none), `entries` to its
-- live entry, `lasts` a program to its last number. No list, place or length occurs here, so that one theorem about removal and one
-- about insertion serve every operation. Each field says which rule it states.
use Rattle.std.specs.Prelude.{ℕ, suc, ◌+◌, ◌≤◌, ◌≡◌, ◌⊎◌, true, false}
use Rattle.rights.specs.declared.Rights.{Rights}
use Rattle.rights.specs.Rules.{within, can_pass}
use Rattle.tables.specs.declared.{Name.Name, Ticket.Ticket, Entry.Entry}
use Rattle.tables.specs.Kinds.{is_live, is_grant, is_head, is_taken, is_received, is_child, is_recall}
use Rattle.tables.specs.Names.{no_name, is_none}
use Rattle.tables.specs.Chains.{own_name, parent_of, entry_parent}
use Rattle.tables.specs.Order.{under_store}

-- ---- sheets and rights
pub record Span (f c : ℕ) (r : Rights) : Type 0 where
  pub some : 1 ≤ c
  pub fits : f + c ≤ 256
  pub right : 1 ≤ r.bits
  pub rights : r.bits ≤ 7

-- first, count and rights f, c, r lie within f', c', r'
pub record Inside (f c : ℕ) (r : Rights) (f' c' : ℕ) (r' : Rights) : Type 0 where
  pub from : f' ≤ f
  pub to : f + c ≤ f' + c'
  pub rights : within r r' ≡ true

-- the sheets and rights of the ticket k lie within those of p
abbrev pub Contains : Ticket → Ticket → Type 0
Contains k p = Inside k.first k.count k.rights p.first p.count p.rights

-- the two runs share no sheet
abbrev pub Apart : ℕ → ℕ → ℕ → ℕ → Type 0
Apart first count first' count' = (first + count ≤ first') ⊎ (first' + count' ≤ first)

-- ---- the parts of the rules, each about the tickets and entries that it names
-- a name that was given: of one of the 32 programs, its number between 1 and that program's last
pub record Given (lasts : ℕ → ℕ → ℕ) (n : Name) : Type 0 where
  pub pad : n.pad ≤ 3
  pub program : n.program ≤ 7
  pub low : 1 ≤ n.number
  pub high : n.number ≤ lasts n.pad n.program

-- T3, the child k named n with its parent p
pub record ChildOk (n : Name) (k p : Ticket) : Type 0 where
  pub grant : is_grant p.kind ≡ true
  pub pad : k.other.pad ≡ n.pad
  pub program : k.other.program ≡ n.program → ⊥
  pub pass : can_pass p.rights ≡ true
  pub inside : Contains k p
  pub dock : k.dock ≡ p.dock

-- T5, the entry e and the grant k of its name
pub record EntryOk (e : Entry) (k : Ticket) : Type 0 where
  pub taken : under_store e ≡ true → is_taken k.kind ≡ true
  pub store : under_store e ≡ true → e.parent ≡ no_name
  pub received : under_store e ≡ false → is_received k.kind ≡ true
  pub first : k.first ≡ e.first
  pub count : k.count ≡ e.count
  pub rights : k.rights ≡ e.rights

-- T5, the entry e under the entry p
pub record UnderOk (e p : Entry) : Type 0 where
  pub live : p.live ≡ true
  pub pass : can_pass p.rights ≡ true
  pub inside : Inside e.first e.count e.rights p.first p.count p.rights

-- T6, a recall's parent p
pub record RecallOk (p : Ticket) : Type 0 where
  pub grant : is_grant p.kind ≡ true
  pub pass : can_pass p.rights ≡ true

-- T6, the target c on the same pad of the recall k named n
pub record NearOk (n : Name) (k c : Ticket) : Type 0 where
  pub child : is_child c.kind ≡ true
  pub parent : c.other ≡ own_name n k

-- T6, the entry e of a target on another pad; p is the recall's parent
pub record FarOk (p : Ticket) (e : Entry) : Type 0 where
  pub parent : e.parent ≡ p.dock
  pub inside : Inside e.first e.count e.rights p.first p.count p.rights

-- T6, some recall names n
pub record Recalled (tickets : Name → Ticket) (n : Name) : Type 0 where
  pub by : Name
  pub recall : is_recall (tickets by).kind ≡ true
  pub target : (tickets by).other ≡ n

-- the chain of parents from n ends after d links, on a pad or in the dock
pub data Ends (parent : Name → Name) : Name → ℕ → Type 0 where
  here : {n : Name} → is_none (parent n) ≡ true → Ends parent n 0
  up : {n : Name} {d : ℕ} → is_none (parent n) ≡ false → Ends parent (parent n) d → Ends parent n (suc d)

-- ---- the rules
pub record Rules (tickets : Name → Ticket) (entries : Name → Entry) (lasts : ℕ → ℕ → ℕ) : Type 0 where
  -- T1, as far as names go
  pub named : (n : Name) → is_live (tickets n).kind ≡ true → Given lasts n
  pub number : (n : Name) → is_live (tickets n).kind ≡ true → (tickets n).number ≡ n.number
  -- T2
  pub span : (n : Name) → is_grant (tickets n).kind ≡ true → Span (tickets n).first (tickets n).count (tickets n).rights
  -- T3; a chain that ends does so at a taken or received grant, since every parent is a grant
  pub child : (n : Name) → is_child (tickets n).kind ≡ true → ChildOk n (tickets n) (tickets (tickets n).other)
  pub chain : (n : Name) → is_child (tickets n).kind ≡ true → (d : ℕ) × Ends (parent_of tickets) n d
  -- T4
  pub dock : (n : Name) → is_head (tickets n).kind ≡ true → (tickets n).dock ≡ n
  -- T5
  pub entry_name : (n : Name) → (entries n).live ≡ true → (entries n).name ≡ n
  pub entry : (n : Name) → (entries n).live ≡ true → EntryOk (entries n) (tickets n)
  pub under : (n : Name) → (entries n).live ≡ true → under_store (entries n) ≡ false → UnderOk (entries n) (entries (entries n).parent)
  pub entry_chain : (n : Name) → (entries n).live ≡ true → (d : ℕ) × Ends (entry_parent entries) n d
  pub roots : (n m : Name) → (entries n).live ≡ true → (entries m).live ≡ true → under_store (entries n) ≡ true → under_store (entries m) ≡ true
      → (n ≡ m → ⊥) → Apart (entries n).first (entries n).count (entries m).first (entries m).count
  pub taken : (n : Name) → is_taken (tickets n).kind ≡ true → (entries n).live ≡ true
  -- T6
  pub recall : (n : Name) → is_recall (tickets n).kind ≡ true → RecallOk (tickets (own_name n (tickets n)))
  pub near : (n : Name) → is_recall (tickets n).kind ≡ true → (tickets n).other.pad ≡ n.pad → NearOk n (tickets n) (tickets (tickets n).other)
  pub far : (n : Name) → is_recall (tickets n).kind ≡ true → ((tickets n).other.pad ≡ n.pad → ⊥) → Given lasts (tickets n).other
  pub far_entry : (n : Name) → is_recall (tickets n).kind ≡ true → ((tickets n).other.pad ≡ n.pad → ⊥) → (entries (tickets n).other).live ≡ true
      → FarOk (tickets (own_name n (tickets n))) (entries (tickets n).other)
  pub once : (n m : Name) → is_recall (tickets n).kind ≡ true → is_recall (tickets m).kind ≡ true → (tickets n).other ≡ (tickets m).other → n ≡ m
  pub recalled : (n : Name) → is_child (tickets n).kind ≡ true → Recalled tickets n
  -- 02, 1/13: "no recall names a live child of another pad", "every entry below another has exactly one live recall naming it"
  pub no_far : (n : Name) → is_recall (tickets n).kind ≡ true → ((tickets n).other.pad ≡ n.pad → ⊥) → is_child (tickets (tickets n).other).kind ≡ false
  pub lent : (n : Name) → (entries n).live ≡ true → under_store (entries n) ≡ false → Recalled tickets n
