-- The removal theorem: tickets and entries are removed by name, and what is left keeps the rules, if what goes is closed. It speaks of
-- maps only. Recall, give back and the drop on 12 are instances (RemovingOperations.antt).
use Prim.Native.Nat.{ℕ}
use mathlib.Core.Path.{◌≡◌, refl, sym, ap, ◌∙◌, subst}
use mathlib.Core.Bool.{Bool, true, false, cond}
use lib.Dec.{eqb}
use borrow.Author.Tests.{eqb-true, eqb-false}
use Rattle.lists.proofs.Tests.{Case, pass, fail, case, no_true, not_pass}
use Rattle.tables.specs.declared.{Name.Name, Ticket.Ticket, Entry.Entry}
use Rattle.tables.specs.Names.{is_none, free, no_entry}
use Rattle.tables.specs.Chains.{own_name, parent_by, parent_of, entry_parent}
use Rattle.tables.specs.Order.{under_store}
use Rattle.tables.proofs.KindLaws.{live_grant, live_child, live_recall, live_head, live_taken, child_head}
use Rattle.preservation.specs.Rules.{Given, ChildOk, RecallOk, NearOk, FarOk, Recalled, EntryOk, UnderOk, Ends, Rules}
use Rattle.preservation.proofs.Walks.{ends_kept}
use Rattle.preservation.proofs.RuleFacts.{entry_head, child_up, recall_up, child_linked, recall_linked}
use Rattle.tables.specs.Kinds.{is_live, is_taken, is_child, is_recall}

-- what is live after a removal was not picked and is what it was
pub ticket_survives : (b : Bool) (k : Ticket) {k' : Ticket} → k' ≡ cond b free k → is_live k'.kind ≡ true → (b ≡ false) × (k' ≡ k)
ticket_survives false k e l = (refl, e)
ticket_survives true k e l = no_true (ap (λ (x : Ticket). is_live x.kind) (sym e) ∙ l)

pub entry_survives : (b : Bool) (d : Entry) {d' : Entry} → d' ≡ cond b no_entry d → d'.live ≡ true → (b ≡ false) × (d' ≡ d)
entry_survives false d e l = (refl, e)
entry_survives true d e l = no_true (ap (λ (x : Entry). x.live) (sym e) ∙ l)

-- ---- what may go together
-- `gone` picks tickets and `cut` entries by name. The set is closed: what is under a ticket that goes goes too; a child goes exactly
-- with its recall; where a recall of another pad's ticket goes, the entry that it names is cut; the entry of a grant that goes is cut; what
-- is below an entry that is cut is cut; a taken grant goes with its entry.
pub record Closure (tickets : Name → Ticket) (entries : Name → Entry) (gone cut : Name → Bool) : Type 0 where
  pub down : (n : Name) → is_none (parent_of tickets n) ≡ false → gone (parent_of tickets n) ≡ true → gone n ≡ true
  pub pair : (r : Name) → is_recall (tickets r).kind ≡ true → (tickets r).other.pad ≡ r.pad → gone (tickets r).other ≡ gone r
  pub told : (r : Name) → is_recall (tickets r).kind ≡ true → ((tickets r).other.pad ≡ r.pad → ⊥) → gone r ≡ true
      → (entries (tickets r).other).live ≡ true → cut (tickets r).other ≡ true
  pub lost : (n : Name) → (entries n).live ≡ true → gone n ≡ true → cut n ≡ true
  pub sink : (n : Name) → (entries n).live ≡ true → under_store (entries n) ≡ false → cut (entries n).parent ≡ true → cut n ≡ true
  pub both : (n : Name) → is_taken (tickets n).kind ≡ true → cut n ≡ true → gone n ≡ true

-- ---- the theorem
module _ (tickets tickets' : Name → Ticket) (entries entries' : Name → Entry) (lasts : ℕ → ℕ → ℕ) (rules : Rules tickets entries lasts)
    (gone cut : Name → Bool) (closure : Closure tickets entries gone cut)
    (tickets_gone : (n : Name) → tickets' n ≡ cond (gone n) free (tickets n))
    (entries_cut : (n : Name) → entries' n ≡ cond (cut n) no_entry (entries n)) where
  ticket_same : (n : Name) → gone n ≡ false → tickets' n ≡ tickets n
  ticket_same n e = tickets_gone n ∙ rw e

  entry_same : (n : Name) → cut n ≡ false → entries' n ≡ entries n
  entry_same n e = entries_cut n ∙ rw e

  ticket_stays : (n : Name) → is_live (tickets' n).kind ≡ true → gone n ≡ false
  ticket_stays n l = (ticket_survives (gone n) (tickets n) (tickets_gone n) l).0

  entry_stays : (n : Name) → (entries' n).live ≡ true → cut n ≡ false
  entry_stays n l = (entry_survives (cut n) (entries n) (entries_cut n) l).0

  ticket_kept : (n : Name) → is_live (tickets' n).kind ≡ true → tickets' n ≡ tickets n
  ticket_kept n l = (ticket_survives (gone n) (tickets n) (tickets_gone n) l).1

  entry_kept : (n : Name) → (entries' n).live ≡ true → entries' n ≡ entries n
  entry_kept n l = (entry_survives (cut n) (entries n) (entries_cut n) l).1

  ticket_climbs : (n : Name) → gone n ≡ false → is_none (parent_of tickets n) ≡ false → gone (parent_of tickets n) ≡ false
  ticket_climbs n e h = not_pass (closure.down n h) e

  entry_climbs : (n : Name) → cut n ≡ false → (entries n).live ≡ true → under_store (entries n) ≡ false → cut (entries n).parent ≡ false
  entry_climbs n e l h = not_pass (closure.sink n l h) e

  named_after : (n : Name) → is_live (tickets' n).kind ≡ true → Given lasts n
  named_after n l = rules.named n (rw (ticket_kept n l) at l)

  number_after : (n : Name) → is_live (tickets' n).kind ≡ true → (tickets' n).number ≡ n.number
  number_after n l = rw (ticket_kept n l) (rules.number n (rw (ticket_kept n l) at l))

  child_kept : (n : Name) → is_child (tickets' n).kind ≡ true → tickets' n ≡ tickets n
  child_kept n c = ticket_kept n (live_child (tickets' n).kind c)

  child_stays : (n : Name) → is_child (tickets' n).kind ≡ true → gone n ≡ false
  child_stays n c = ticket_stays n (live_child (tickets' n).kind c)

  recall_kept : (n : Name) → is_recall (tickets' n).kind ≡ true → tickets' n ≡ tickets n
  recall_kept n r = ticket_kept n (live_recall (tickets' n).kind r)

  recall_stays : (n : Name) → is_recall (tickets' n).kind ≡ true → gone n ≡ false
  recall_stays n r = ticket_stays n (live_recall (tickets' n).kind r)

  -- the parents of a child and a recall that stay
  child_parent : (n : Name) → gone n ≡ false → is_child (tickets n).kind ≡ true → tickets' (tickets n).other ≡ tickets (tickets n).other
  child_parent n e c =
      ticket_same (tickets n).other (rw (child_up tickets entries lasts rules n c) at (ticket_climbs n e (child_linked tickets entries lasts rules n c)))

  recall_parent : (n : Name) → gone n ≡ false → is_recall (tickets n).kind ≡ true → tickets' (own_name n (tickets n)) ≡ tickets (own_name n (tickets n))
  recall_parent n e r =
      ticket_same (own_name n (tickets n)) (rw (recall_up tickets entries lasts rules n r) at (ticket_climbs n e (recall_linked tickets entries lasts rules n r)))

  child_after : (n : Name) → is_child (tickets' n).kind ≡ true → ChildOk n (tickets' n) (tickets' (tickets' n).other)
  child_after n c =
      let c₀ : is_child (tickets n).kind ≡ true = rw (child_kept n c) at c in
      rw (child_kept n c) (rw (child_parent n (child_stays n c) c₀) (rules.child n c₀))

  chain_after : (n : Name) → is_child (tickets' n).kind ≡ true → (d : ℕ) × Ends (parent_of tickets') n d
  chain_after n c =
      let p = rules.chain n (rw (child_kept n c) at c) in
      (p.0, ends_kept (λ m. gone m ≡ false) ticket_climbs same (child_stays n c) p.1)
    where
      same : (m : Name) → gone m ≡ false → parent_of tickets' m ≡ parent_of tickets m
      same m e = ap (λ (k : Ticket). parent_by k.kind m k) (ticket_same m e)

  -- the recall of a child is on the child's own pad
  recalled_near : (n : Name) → is_child (tickets n).kind ≡ true → (r : Recalled tickets n) → (tickets r.by).other.pad ≡ r.by.pad
  recalled_near n c r = go (case (eqb (tickets r.by).other.pad r.by.pad))
    where
      go : Case (eqb (tickets r.by).other.pad r.by.pad) → (tickets r.by).other.pad ≡ r.by.pad
      go (pass e) = eqb-true (tickets r.by).other.pad r.by.pad e
      go (fail e) =
          no_true
          (sym (rules.no_far r.by r.recall (eqb-false (tickets r.by).other.pad r.by.pad e))
          ∙ ap (λ (m : Name). is_child (tickets m).kind) r.target ∙ c)

  recalled_after : (n : Name) → is_child (tickets' n).kind ≡ true → Recalled tickets' n
  recalled_after n c =
      let c₀ : is_child (tickets n).kind ≡ true = rw (child_kept n c) at c in
      let r : Recalled tickets n = rules.recalled n c₀ in
      let p : gone (tickets r.by).other ≡ gone r.by = closure.pair r.by r.recall (recalled_near n c₀ r) in
      let s : gone r.by ≡ false = sym p ∙ ap gone r.target ∙ child_stays n c in
      record { by = r.by; recall = rw (ticket_same r.by s) r.recall; target = rw (ticket_same r.by s) r.target }

  recall_after : (n : Name) → is_recall (tickets' n).kind ≡ true → RecallOk (tickets' (own_name n (tickets' n)))
  recall_after n r =
      let r₀ : is_recall (tickets n).kind ≡ true = rw (recall_kept n r) at r in
      rw (recall_kept n r) (rw (recall_parent n (recall_stays n r) r₀) (rules.recall n r₀))

  far_after : (n : Name) → is_recall (tickets' n).kind ≡ true → ((tickets' n).other.pad ≡ n.pad → ⊥) → Given lasts (tickets' n).other
  far_after n r p =
      let r₀ : is_recall (tickets n).kind ≡ true = rw (recall_kept n r) at r in
      rw (recall_kept n r) (rules.far n r₀ (rw (recall_kept n r) at p))

  far_entry_after : (n : Name) → is_recall (tickets' n).kind ≡ true → ((tickets' n).other.pad ≡ n.pad → ⊥) → (entries' (tickets' n).other).live ≡ true
      → FarOk (tickets' (own_name n (tickets' n))) (entries' (tickets' n).other)
  far_entry_after n r p l =
      let r₀ : is_recall (tickets n).kind ≡ true = rw (recall_kept n r) at r in
      let l₀ : (entries' (tickets n).other).live ≡ true = rw (recall_kept n r) at l in
      let e : entries' (tickets n).other ≡ entries (tickets n).other = entry_kept (tickets n).other l₀ in
      rw (recall_kept n r) (rw (recall_parent n (recall_stays n r) r₀, e) (rules.far_entry n r₀ (rw (recall_kept n r) at p) (rw e at l₀)))

  entry_after : (n : Name) → (entries' n).live ≡ true → EntryOk (entries' n) (tickets' n)
  entry_after n l =
      let l₀ : (entries n).live ≡ true = rw (entry_kept n l) at l in
      rw (entry_kept n l, ticket_same n (not_pass (closure.lost n l₀) (entry_stays n l))) (rules.entry n l₀)

  under_after : (n : Name) → (entries' n).live ≡ true → under_store (entries' n) ≡ false → UnderOk (entries' n) (entries' (entries' n).parent)
  under_after n l z =
      let l₀ : (entries n).live ≡ true = rw (entry_kept n l) at l in
      let z₀ : under_store (entries n) ≡ false = rw (entry_kept n l) at z in
      rw (entry_kept n l) (rw (entry_same (entries n).parent (entry_climbs n (entry_stays n l) l₀ z₀)) (rules.under n l₀ z₀))

  entry_chain_after : (n : Name) → (entries' n).live ≡ true → (d : ℕ) × Ends (entry_parent entries') n d
  entry_chain_after n l =
      let l₀ : (entries n).live ≡ true = rw (entry_kept n l) at l in
      let p = rules.entry_chain n l₀ in
      (p.0, ends_kept (λ m. (cut m ≡ false) × ((entries m).live ≡ true)) climbs same (entry_stays n l, l₀) p.1)
    where
      climbs : (m : Name) → (cut m ≡ false) × ((entries m).live ≡ true) → under_store (entries m) ≡ false
          → (cut (entries m).parent ≡ false) × ((entries (entries m).parent).live ≡ true)
      climbs m h z = (entry_climbs m h.0 h.1 z, (rules.under m h.1 z).live)

      same : (m : Name) → (cut m ≡ false) × ((entries m).live ≡ true) → (entries' m).parent ≡ (entries m).parent
      same m h = ap (λ (e : Entry). e.parent) (entry_same m h.0)

  -- the recall of an entry under another is on another pad than the entry: it would name a child else, and an entry's grant is none
  lent_far : (n : Name) → (entries n).live ≡ true → (r : Recalled tickets n) → (tickets r.by).other.pad ≡ r.by.pad → ⊥
  lent_far n l r p =
      child_head (tickets n).kind
      (subst (λ (m : Name). is_child (tickets m).kind ≡ true) r.target (rules.near r.by r.recall p).child)
      (entry_head (rules.entry n l))

  no_far_after : (n : Name) → is_recall (tickets' n).kind ≡ true → ((tickets' n).other.pad ≡ n.pad → ⊥)
      → is_child (tickets' (tickets' n).other).kind ≡ false
  no_far_after n r p = go (case (gone (tickets n).other))
    where
      r₀ : is_recall (tickets n).kind ≡ true
      r₀ = rw (recall_kept n r) at r

      before : is_child (tickets (tickets n).other).kind ≡ false
      before = rules.no_far n r₀ (rw (recall_kept n r) at p)

      go : Case (gone (tickets n).other) → is_child (tickets' (tickets' n).other).kind ≡ false
      go (pass e) = let z : tickets' (tickets n).other ≡ free = tickets_gone (tickets n).other ∙ rw e in rw (recall_kept n r) (rw z)
      go (fail e) = rw (recall_kept n r) (rw (ticket_same (tickets n).other e) before)

  pub rules_after_removal : Rules tickets' entries' lasts
  rules_after_removal = record {
    named = named_after;
    number = number_after;
    span = λ n g. let s = ticket_kept n (live_grant (tickets' n).kind g) in rw s (rules.span n (rw s at g));
    child = child_after;
    chain = chain_after;
    recalled = recalled_after;
    no_far = no_far_after;
    lent = lent_after;
    dock = λ n h. let s = ticket_kept n (live_head (tickets' n).kind h) in rw s (rules.dock n (rw s at h));
    taken = λ n h.
        let s = ticket_kept n (live_taken (tickets' n).kind h) in
        let h₀ : is_taken (tickets n).kind ≡ true = rw s at h in
        rw (entry_same n (not_pass (closure.both n h₀) (ticket_stays n (live_taken (tickets' n).kind h)))) (rules.taken n h₀);
    recall = recall_after;
    near = near_after;
    far = far_after;
    far_entry = far_entry_after;
    once = λ n m r s e.
        let a = recall_kept n r in
        let b = recall_kept m s in
        rules.once n m (rw a at r) (rw b at s) (rw (a, b) at e);
    entry_name = λ n l. rw (entry_kept n l) (rules.entry_name n (rw (entry_kept n l) at l));
    entry = entry_after;
    under = under_after;
    entry_chain = entry_chain_after;
    roots = λ n m l k z w ne.
        let a = entry_kept n l in
        let b = entry_kept m k in
        rw (a, b) (rules.roots n m (rw a at l) (rw b at k) (rw a at z) (rw b at w) ne);
  }
    where
      near_after : (n : Name) → is_recall (tickets' n).kind ≡ true → (tickets' n).other.pad ≡ n.pad → NearOk n (tickets' n) (tickets' (tickets' n).other)
      near_after n r p =
          let r₀ : is_recall (tickets n).kind ≡ true = rw (recall_kept n r) at r in
          let p₀ : (tickets n).other.pad ≡ n.pad = rw (recall_kept n r) at p in
          rw (recall_kept n r) (rw (ticket_same (tickets n).other (closure.pair n r₀ p₀ ∙ recall_stays n r)) (rules.near n r₀ p₀))

      lent_after : (n : Name) → (entries' n).live ≡ true → under_store (entries' n) ≡ false → Recalled tickets' n
      lent_after n l z =
          let l₀ : (entries n).live ≡ true = rw (entry_kept n l) at l in
          let z₀ : under_store (entries n) ≡ false = rw (entry_kept n l) at z in
          let r : Recalled tickets n = rules.lent n l₀ z₀ in
          let s : gone r.by ≡ false
          = not_pass
          (λ g. subst (λ (m : Name). cut m ≡ true) r.target
          (closure.told r.by r.recall (lent_far n l₀ r) g (subst (λ (m : Name). (entries m).live ≡ true) (sym r.target) l₀)))
          (entry_stays n l) in
          record { by = r.by; recall = rw (ticket_same r.by s) r.recall; target = rw (ticket_same r.by s) r.target }
