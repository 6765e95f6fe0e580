-- The insertion theorem: tickets and entries are added under names that were never given, and the rules hold, if they hold at the new
-- names. It speaks of maps only. Take and both passes are instances (Taking.antt, Passing.antt).
use Prim.Native.Nat.{ℕ, ◌≤◌}
use native.Mathlib.Omega.{arith}
use mathlib.Core.Path.{◌≡◌, sym, ap, ◌∙◌}
use mathlib.Core.Logic.{◌⊎◌, inl, inr}
use mathlib.Core.Bool.{true, false}
use Rattle.lists.proofs.Tests.{contradiction, cannot_pass}
use Rattle.tables.specs.declared.{Name.Name, Ticket.Ticket, Entry.Entry, Tables.Tables}
use Rattle.tables.specs.Lookup.{last_of, lookup, entry_of}
use Rattle.tables.specs.Chains.{own_name, parent_by, parent_of, entry_parent}
use Rattle.tables.specs.Order.{under_store}
use Rattle.tables.proofs.KindLaws.{live_grant, live_child, live_recall, live_head, live_taken}
use Rattle.preservation.specs.Rules.{Span, Apart, Given, ChildOk, RecallOk, NearOk, FarOk, Recalled, EntryOk, UnderOk, Ends, Rules}
use Rattle.preservation.specs.InOrder.{Shape, InOrder}
use Rattle.preservation.proofs.SheetTests.{apart_sym}
use Rattle.preservation.proofs.Walks.{ends_kept}
use Rattle.preservation.proofs.RuleFacts.{entry_head, parent_live}
use Rattle.tables.specs.Kinds.{is_live, is_grant, is_head, is_taken, is_child, is_recall}

-- what is asked of a new ticket and of a new entry, in the maps that hold them
pub record NewTicket (tickets : Name → Ticket) (entries : Name → Entry) (lasts : ℕ → ℕ → ℕ) (n : Name) : Type 0 where
  pub named : Given lasts n
  pub number : (tickets n).number ≡ n.number
  pub span : is_grant (tickets n).kind ≡ true → Span (tickets n).first (tickets n).count (tickets n).rights
  pub child : is_child (tickets n).kind ≡ true → ChildOk n (tickets n) (tickets (tickets n).other)
  pub chain : is_child (tickets n).kind ≡ true → (d : ℕ) × Ends (parent_of tickets) n d
  pub recalled : is_child (tickets n).kind ≡ true → Recalled tickets n
  pub dock : is_head (tickets n).kind ≡ true → (tickets n).dock ≡ n
  pub taken : is_taken (tickets n).kind ≡ true → (entries n).live ≡ true
  pub recall : is_recall (tickets n).kind ≡ true → RecallOk (tickets (own_name n (tickets n)))
  pub near : is_recall (tickets n).kind ≡ true → (tickets n).other.pad ≡ n.pad → NearOk n (tickets n) (tickets (tickets n).other)
  pub far : is_recall (tickets n).kind ≡ true → ((tickets n).other.pad ≡ n.pad → ⊥) → Given lasts (tickets n).other
  pub far_entry : is_recall (tickets n).kind ≡ true → ((tickets n).other.pad ≡ n.pad → ⊥) → (entries (tickets n).other).live ≡ true
      → FarOk (tickets (own_name n (tickets n))) (entries (tickets n).other)
  pub no_far : is_recall (tickets n).kind ≡ true → ((tickets n).other.pad ≡ n.pad → ⊥) → is_child (tickets (tickets n).other).kind ≡ false
  pub once : is_recall (tickets n).kind ≡ true → (m : Name) → is_recall (tickets m).kind ≡ true → (tickets n).other ≡ (tickets m).other → n ≡ m

pub record NewEntry (tickets : Name → Ticket) (entries : Name → Entry) (n : Name) : Type 0 where
  pub entry_name : (entries n).name ≡ n
  pub entry : EntryOk (entries n) (tickets n)
  pub under : under_store (entries n) ≡ false → UnderOk (entries n) (entries (entries n).parent)
  pub entry_chain : (d : ℕ) × Ends (entry_parent entries) n d
  pub lent : under_store (entries n) ≡ false → Recalled tickets n
  pub roots : under_store (entries n) ≡ true → (m : Name) → (entries m).live ≡ true → under_store (entries m) ≡ true → (n ≡ m → ⊥)
      → Apart (entries n).first (entries n).count (entries m).first (entries m).count

-- the maps after, beside the maps before: what was live stays as it was, what is live after was live or keeps the rules as a new one,
-- and no name that had been given becomes live
pub record Inserted (tickets tickets' : Name → Ticket) (entries entries' : Name → Entry) (lasts lasts' : ℕ → ℕ → ℕ) : Type 0 where
  pub tickets_kept : (n : Name) → is_live (tickets n).kind ≡ true → tickets' n ≡ tickets n
  pub entries_kept : (n : Name) → (entries n).live ≡ true → entries' n ≡ entries n
  pub lasts_grow : (p q : ℕ) → lasts p q ≤ lasts' p q
  pub tickets_new : (n : Name) → is_live (tickets' n).kind ≡ true → (is_live (tickets n).kind ≡ true) ⊎ NewTicket tickets' entries' lasts' n
  pub entries_new : (n : Name) → (entries' n).live ≡ true → ((entries n).live ≡ true) ⊎ NewEntry tickets' entries' n
  pub tickets_fresh : (n : Name) → Given lasts n → is_live (tickets' n).kind ≡ true → is_live (tickets n).kind ≡ true
  pub entries_fresh : (n : Name) → Given lasts n → (entries' n).live ≡ true → (entries n).live ≡ true

-- ---- the theorem
module _ (tickets tickets' : Name → Ticket) (entries entries' : Name → Entry) (lasts lasts' : ℕ → ℕ → ℕ) (rules : Rules tickets entries lasts)
    (inserted : Inserted tickets tickets' entries entries' lasts lasts') where
  wider : (n : Name) → Given lasts n → Given lasts' n
  wider n g = record { pad = g.pad; program = g.program; low = g.low; high = omega (arith, g.high, inserted.lasts_grow n.pad n.program) }

  -- an old name's chain is its chain after
  parent_kept : (n : Name) → is_live (tickets n).kind ≡ true → parent_of tickets' n ≡ parent_of tickets n
  parent_kept n l = ap (λ (k : Ticket). parent_by k.kind n k) (inserted.tickets_kept n l)

  old_chain : {n : Name} {d : ℕ} → is_live (tickets n).kind ≡ true → Ends (parent_of tickets) n d → Ends (parent_of tickets') n d
  old_chain = ends_kept (λ m. is_live (tickets m).kind ≡ true) (λ m l. parent_live tickets entries lasts rules m) parent_kept

  old_entry_chain : {n : Name} {d : ℕ} → (entries n).live ≡ true → Ends (entry_parent entries) n d → Ends (entry_parent entries') n d
  old_entry_chain =
      ends_kept (λ m. (entries m).live ≡ true) (λ m l z. (rules.under m l z).live) (λ m l. ap (λ (e : Entry). e.parent) (inserted.entries_kept m l))

  child_parent : (n : Name) → is_child (tickets n).kind ≡ true → tickets' (tickets n).other ≡ tickets (tickets n).other
  child_parent n c = inserted.tickets_kept (tickets n).other (live_grant (tickets (tickets n).other).kind (rules.child n c).grant)

  recall_parent : (n : Name) → is_recall (tickets n).kind ≡ true → tickets' (own_name n (tickets n)) ≡ tickets (own_name n (tickets n))
  recall_parent n r = inserted.tickets_kept (own_name n (tickets n)) (live_grant (tickets (own_name n (tickets n))).kind (rules.recall n r).grant)

  -- what a recall named before it names after
  recalled_kept : (n : Name) → Recalled tickets n → Recalled tickets' n
  recalled_kept n r =
      let s : tickets' r.by ≡ tickets r.by = inserted.tickets_kept r.by (live_recall (tickets r.by).kind r.recall) in
      record { by = r.by; recall = rw s r.recall; target = rw s r.target }

  -- an old name's statements, carried over
  module _ (n : Name) (l : is_live (tickets n).kind ≡ true) where
    same : tickets' n ≡ tickets n
    same = inserted.tickets_kept n l

    old_recalled : is_child (tickets n).kind ≡ true → Recalled tickets' n
    old_recalled c = recalled_kept n (rules.recalled n c)

    old_near : is_recall (tickets n).kind ≡ true → (tickets n).other.pad ≡ n.pad → NearOk n (tickets n) (tickets' (tickets n).other)
    old_near r p =
        let k : NearOk n (tickets n) (tickets (tickets n).other) = rules.near n r p in
        rw (inserted.tickets_kept (tickets n).other (live_child (tickets (tickets n).other).kind k.child)) k

    old_far_entry : is_recall (tickets n).kind ≡ true → ((tickets n).other.pad ≡ n.pad → ⊥) → (entries' (tickets n).other).live ≡ true
        → FarOk (tickets' (own_name n (tickets n))) (entries' (tickets n).other)
    old_far_entry r p h =
        let h₀ : (entries (tickets n).other).live ≡ true = inserted.entries_fresh (tickets n).other (rules.far n r p) h in
        rw (recall_parent n r, inserted.entries_kept (tickets n).other h₀) (rules.far_entry n r p h₀)

    -- the target of an old recall was given before, so it is no new child
    old_no_far : is_recall (tickets n).kind ≡ true → ((tickets n).other.pad ≡ n.pad → ⊥) → is_child (tickets' (tickets n).other).kind ≡ false
    old_no_far r p =
        cannot_pass (is_child (tickets' (tickets n).other).kind)
        (λ e.
        let l₀ = inserted.tickets_fresh (tickets n).other (rules.far n r p) (live_child (tickets' (tickets n).other).kind e) in
        contradiction (ap (λ (k : Ticket). is_child k.kind) (sym (inserted.tickets_kept (tickets n).other l₀)) ∙ e) (rules.no_far n r p))

    old_once : is_recall (tickets n).kind ≡ true → (m : Name) → is_recall (tickets' m).kind ≡ true → (tickets n).other ≡ (tickets' m).other
        → (is_live (tickets m).kind ≡ true) ⊎ NewTicket tickets' entries' lasts' m → n ≡ m
    old_once r m s e (inl k) = rules.once n m r (rw (inserted.tickets_kept m k) at s) (rw (inserted.tickets_kept m k) at e)
    old_once r m s e (inr k) = sym (k.once s n (rw same r) (sym e ∙ ap (λ (x : Ticket). x.other) (sym same)))

    as_new : NewTicket tickets' entries' lasts' n
    as_new = record {
      named = wider n (rules.named n l);
      number = rw same (rules.number n l);
      span = rw same (rules.span n);
      child = rw same λ c. rw (child_parent n c) (rules.child n c);
      chain = rw same λ c. ((rules.chain n c).0, old_chain l (rules.chain n c).1);
      recalled = rw same old_recalled;
      dock = rw same (rules.dock n);
      taken = rw same λ t. rw (inserted.entries_kept n (rules.taken n t)) (rules.taken n t);
      recall = rw same λ r. rw (recall_parent n r) (rules.recall n r);
      near = rw same old_near;
      far = rw same λ r p. wider (tickets n).other (rules.far n r p);
      far_entry = rw same old_far_entry;
      no_far = rw same old_no_far;
      once = rw same λ r m s e. old_once r m s e (inserted.tickets_new m (live_recall (tickets' m).kind s));
    }

  module _ (n : Name) (l : (entries n).live ≡ true) where
    entry_same : entries' n ≡ entries n
    entry_same = inserted.entries_kept n l

    old_roots : under_store (entries n) ≡ true → (m : Name) → (entries' m).live ≡ true → under_store (entries' m) ≡ true → (n ≡ m → ⊥)
        → ((entries m).live ≡ true) ⊎ NewEntry tickets' entries' m → Apart (entries n).first (entries n).count (entries' m).first (entries' m).count
    old_roots z m h w ne (inl k) = rw (inserted.entries_kept m k) (rules.roots n m l k z (rw (inserted.entries_kept m k) at w) ne)
    old_roots z m h w ne (inr k) =
        apart_sym (entries' m).first (entries' m).count (entries n).first (entries n).count
        (rw entry_same at (k.roots w n (rw entry_same l) (rw entry_same z) (λ e. ne (sym e))))

    as_new_entry : NewEntry tickets' entries' n
    as_new_entry = record {
      entry_name = rw entry_same (rules.entry_name n l);
      entry = rw (entry_same, inserted.tickets_kept n (live_head (tickets n).kind (entry_head (rules.entry n l)))) (rules.entry n l);
      under = rw entry_same λ z. rw (inserted.entries_kept (entries n).parent (rules.under n l z).live) (rules.under n l z);
      entry_chain = ((rules.entry_chain n l).0, old_entry_chain l (rules.entry_chain n l).1);
      lent = rw entry_same λ z. recalled_kept n (rules.lent n l z);
      roots = rw entry_same λ z m h w ne. old_roots z m h w ne (inserted.entries_new m h);
    }

  new : (n : Name) → (is_live (tickets n).kind ≡ true) ⊎ NewTicket tickets' entries' lasts' n → NewTicket tickets' entries' lasts' n
  new n (inl l) = as_new n l
  new n (inr k) = k

  new_entry_lem : (n : Name) → ((entries n).live ≡ true) ⊎ NewEntry tickets' entries' n → NewEntry tickets' entries' n
  new_entry_lem n (inl l) = as_new_entry n l
  new_entry_lem n (inr k) = k

  at : (n : Name) → is_live (tickets' n).kind ≡ true → NewTicket tickets' entries' lasts' n
  at n l = new n (inserted.tickets_new n l)

  at_entry : (n : Name) → (entries' n).live ≡ true → NewEntry tickets' entries' n
  at_entry n l = new_entry_lem n (inserted.entries_new n l)

  rules_after_insertion : Rules tickets' entries' lasts'
  rules_after_insertion = record {
    named = λ n l. (at n l).named;
    number = λ n l. (at n l).number;
    span = λ n g. (at n (live_grant (tickets' n).kind g)).span g;
    child = λ n g. (at n (live_child (tickets' n).kind g)).child g;
    chain = λ n g. (at n (live_child (tickets' n).kind g)).chain g;
    recalled = λ n g. (at n (live_child (tickets' n).kind g)).recalled g;
    dock = λ n g. (at n (live_head (tickets' n).kind g)).dock g;
    taken = λ n g. (at n (live_taken (tickets' n).kind g)).taken g;
    recall = λ n g. (at n (live_recall (tickets' n).kind g)).recall g;
    near = λ n g. (at n (live_recall (tickets' n).kind g)).near g;
    far = λ n g. (at n (live_recall (tickets' n).kind g)).far g;
    far_entry = λ n g. (at n (live_recall (tickets' n).kind g)).far_entry g;
    once = λ n m g. (at n (live_recall (tickets' n).kind g)).once g m;
    no_far = λ n g. (at n (live_recall (tickets' n).kind g)).no_far g;
    entry_name = λ n l. (at_entry n l).entry_name;
    entry = λ n l. (at_entry n l).entry;
    under = λ n l. (at_entry n l).under;
    entry_chain = λ n l. (at_entry n l).entry_chain;
    lent = λ n l. (at_entry n l).lent;
    roots = λ n m l k z w ne. (at_entry n l).roots z m k w ne;
  }

-- the same of tables, with their shape
pub order_inserted : (t t' : Tables) → InOrder t → Shape t' → Inserted (lookup t) (lookup t') (entry_of t) (entry_of t') (last_of t) (last_of t') → InOrder t'
order_inserted t t' ok shape inserted = record {
  shape = shape;
  rules = rules_after_insertion (lookup t) (lookup t') (entry_of t) (entry_of t') (last_of t) (last_of t') ok.rules inserted;
}
