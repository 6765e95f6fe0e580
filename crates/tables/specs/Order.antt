-- Tables in order: T1 to T6, one test each, in the words of document 01 and, in T6, of document 02's first request. Refusal 14 computes
-- `in_order`.
use Rattle.std.specs.Prelude.{ℕ, ◌+◌, Bool, not, ◌&&◌, cond, leb, eqb}
use Rattle.lists.specs.Tests.{implies, between}
use Rattle.lists.specs.Lists.{all, some, no_two, all_at, some_at}
use Rattle.rights.specs.Rules.{can_pass}
use Rattle.tables.specs.declared.{Name.Name, Kind.Kind, Ticket.Ticket, Program.Program, Entry.Entry, Tables.Tables}
use Rattle.tables.specs.Kinds.{is_live, is_grant, is_head, is_taken, is_received, is_child, is_recall}
use Rattle.tables.specs.Names.{name_of, no_name, eq_name, is_none, is_program}
use Rattle.tables.specs.Lookup.{last_of, lookup, entry_of}
use Rattle.tables.specs.Chains.{own_name, chain_head, chain_root}
use Rattle.tables.specs.Sheets.{apart, inside}

-- ---- every ticket, or some, of the kinds that a test picks, with its name; every live entry
unfoldable pub every_ticket_of : (Kind → Bool) → (Name → Ticket → Bool) → ℕ → ℕ → Program → Bool
every_ticket_of kinds test pad program p = all (λ k. implies (kinds k.kind) (test (name_of pad program k.number) k)) p.tickets

unfoldable pub every_ticket : (Kind → Bool) → (Name → Ticket → Bool) → Tables → Bool
every_ticket kinds test t = all_at (λ pad p. all_at (every_ticket_of kinds test pad) 0 p.programs) 0 t.pads

unfoldable pub some_ticket_of : (Kind → Bool) → (Name → Ticket → Bool) → ℕ → ℕ → Program → Bool
some_ticket_of kinds test pad program p = some (λ k. kinds k.kind && test (name_of pad program k.number) k) p.tickets

unfoldable pub some_ticket : (Kind → Bool) → (Name → Ticket → Bool) → Tables → Bool
some_ticket kinds test t = some_at (λ pad p. some_at (some_ticket_of kinds test pad) 0 p.programs) 0 t.pads

unfoldable pub every_entry : (Entry → Bool) → Tables → Bool
every_entry test t = all (λ e. implies e.live (test e)) t.entries

-- ---- "T1. A program's live tickets have distinct numbers, 1 up to its last number given."
unfoldable pub numbers_ok : Program → Bool
numbers_ok p =
    no_two (λ k. is_live k.kind) (λ k other. eqb k.number other.number) p.tickets
    && all (λ k. implies (is_live k.kind) (between 1 p.last k.number)) p.tickets

unfoldable pub t1 : Tables → Bool
t1 t = all (λ p. all numbers_ok p.programs) t.pads

-- ---- "T2. Every grant has a count of 1 or more, first + count at most 256, rights 1 to 7."
unfoldable pub span_ok : Ticket → Bool
span_ok k = leb 1 k.count && leb (k.first + k.count) 256 && between 1 7 k.rights.bits

unfoldable pub t2 : Tables → Bool
t2 t = every_ticket is_grant (λ n k. span_ok k) t

-- ---- "T3. A child's parent is a live grant of another program of that pad, with the pass on right. The child's sheets and rights
-- lie within it and the dock names agree."
unfoldable pub parent_ok : Name → Ticket → Ticket → Bool
parent_ok n k parent =
    is_grant parent.kind && eqb k.other.pad n.pad && not (eqb k.other.program n.program) && can_pass parent.rights
    && inside k.first k.count k.rights parent.first parent.count parent.rights && eq_name k.dock parent.dock

-- "The chain of parents is followed until a grant without a parent, and one is reached."
unfoldable pub child_ok : Tables → Name → Ticket → Bool
child_ok t n k = parent_ok n k (lookup t k.other) && is_head (lookup t (chain_head t n)).kind

unfoldable pub t3 : Tables → Bool
t3 t = every_ticket is_child (child_ok t) t

-- ---- "T4. A taken or received grant's dock name is its own."
unfoldable pub t4 : Tables → Bool
t4 t = every_ticket is_head (λ n k. eq_name k.dock n) t

-- ---- "T5. Entry names are distinct."
unfoldable pub entry_names_ok : Tables → Bool
entry_names_ok t = no_two (λ e. e.live) (λ e other. eq_name e.name other.name) t.entries

-- "Each names a live grant with equal sheets and rights: taken if the parent is the store, else received."
abbrev pub under_store : Entry → Bool
under_store e = is_none e.parent

-- "zeros meaning the store" (02, 4/13): a parent with number 0 is the store where pad and program are 0 too, and else nothing
unfoldable pub grant_ok : Entry → Ticket → Bool
grant_ok e k =
    cond (under_store e) (eq_name e.parent no_name && is_taken k.kind) (is_received k.kind)
    && eqb k.first e.first && eqb k.count e.count && eqb k.rights.bits e.rights.bits

-- "A parent entry is live, has the pass on right and contains the entry's sheets and rights."
unfoldable pub parent_entry_ok : Entry → Entry → Bool
parent_entry_ok e parent =
    parent.live && can_pass parent.rights
    && inside e.first e.count e.rights parent.first parent.count parent.rights

-- "Chains end at the store."
unfoldable pub entry_ok : Tables → Entry → Bool
entry_ok t e =
    grant_ok e (lookup t e.name)
    && implies (not (under_store e)) (parent_entry_ok e (entry_of t e.parent))
    && (entry_of t (chain_root t e.name)).live

-- "Entries directly under the store share no sheet."
unfoldable pub roots_ok : Tables → Bool
roots_ok t = no_two (λ e. e.live && under_store e) (λ e other. not (apart e.first e.count other.first other.count)) t.entries

-- "Every taken grant has its entry."
unfoldable pub t5 : Tables → Bool
t5 t = entry_names_ok t && every_entry (entry_ok t) t && roots_ok t && every_ticket is_taken (λ n k. (entry_of t n).live) t

-- ---- "T6. A recall's parent is a live grant of the same program with the pass on right."
unfoldable pub recall_parent_ok : Ticket → Bool
recall_parent_ok parent = is_grant parent.kind && can_pass parent.rights

-- "a child of that grant"
unfoldable pub is_child_of : Name → Ticket → Bool
is_child_of parent k = is_child k.kind && eq_name k.other parent

-- "a name on another pad whose number is between 1 and that program's last. If that name is in the dock, its parent is the
-- grant's dock name and its sheets and rights lie within the grant's." 02, 1/13: "no recall names a live child of another pad"
unfoldable pub far_target_ok : Tables → Name → Ticket → Entry → Bool
far_target_ok t target grant e =
    is_program target.pad target.program && between 1 (last_of t target.pad target.program) target.number
    && not (is_child (lookup t target).kind)
    && implies e.live
    (eq_name e.parent grant.dock && inside e.first e.count e.rights grant.first grant.count grant.rights)

-- "Its target is a child of that grant, or a name on another pad .."
unfoldable pub target_ok : Tables → Name → Ticket → Bool
target_ok t n k =
    cond (eqb k.other.pad n.pad)
    (is_child_of (own_name n k) (lookup t k.other))
    (far_target_ok t k.other (lookup t (own_name n k)) (entry_of t k.other))

-- "No target has two recalls"
unfoldable pub recall_ok : Tables → Name → Ticket → Bool
recall_ok t n k =
    recall_parent_ok (lookup t (own_name n k)) && target_ok t n k
    && every_ticket is_recall (λ m other. implies (eq_name other.other k.other) (eq_name m n)) t

-- some live recall names n
abbrev pub is_recalled : Tables → Name → Bool
is_recalled t n = some_ticket is_recall (λ m recall. eq_name recall.other n) t

-- "every child has one". 02, 1/13: "every entry below another has exactly one live recall naming it": no target has two
unfoldable pub t6 : Tables → Bool
t6 t =
    every_ticket is_recall (recall_ok t) t
    && every_ticket is_child (λ n k. is_recalled t n) t
    && every_entry (λ e. implies (not (under_store e)) (is_recalled t e.name)) t

-- ---- "Tables are in order when: T1 .. T6"
unfoldable pub in_order : Tables → Bool
in_order t = t1 t && t2 t && t3 t && t4 t && t5 t && t6 t
