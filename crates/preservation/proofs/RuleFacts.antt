-- What follows from the rules without looking at places: an entry's grant heads its chain, a parent is a grant and has a number, every live
-- ticket has a chain that ends.
use Prim.Native.Nat.{ℕ, suc, ◌≤◌}
use native.Mathlib.Omega.{arith}
use mathlib.Core.Path.{◌≡◌}
use mathlib.Core.Logic.{◌⊎◌, inl, inr}
use mathlib.Core.Bool.{true, false}
use borrow.Author.Tests.{ne_eqb}
use Rattle.lists.proofs.Tests.{cannot_fail, Case, pass, fail, case}
use Rattle.tables.specs.declared.{Name.Name, Ticket.Ticket, Entry.Entry}
use Rattle.tables.specs.Names.{is_none}
use Rattle.tables.specs.Chains.{own_name, parent_of}
use Rattle.tables.specs.Order.{under_store}
use Rattle.tables.proofs.KindLaws.{live_grant, taken_head, received_head, received_taken, grant_sort, up_child, up_recall, head_up, has_parent_lem}
use Rattle.preservation.specs.Rules.{EntryOk, Ends, here, up, Rules}
use Rattle.tables.specs.Kinds.{is_live, is_grant, is_head, is_taken, is_child, is_recall}

-- ---- an entry and its grant
pub entry_head : {e : Entry} {k : Ticket} → EntryOk e k → is_head k.kind ≡ true
entry_head {e} {k} ok = go (case (under_store e))
  where
    go : Case (under_store e) → is_head k.kind ≡ true
    go (pass z) = taken_head k.kind (ok.taken z)
    go (fail z) = received_head k.kind (ok.received z)

pub taken_root : {e : Entry} {k : Ticket} → EntryOk e k → is_taken k.kind ≡ true → under_store e ≡ true
taken_root {e} {k} ok t = cannot_fail (under_store e) (λ z. received_taken k.kind (ok.received z) t)

module _ (tickets : Name → Ticket) (entries : Name → Entry) (lasts : ℕ → ℕ → ℕ) (rules : Rules tickets entries lasts) where
  -- ---- numbers are not 0
  pub positive : (n : Name) → is_live (tickets n).kind ≡ true → 1 ≤ n.number
  positive n l = (rules.named n l).low

  pub live_named : (n : Name) → is_live (tickets n).kind ≡ true → is_none n ≡ false
  live_named n l = ne_eqb n.number 0 (λ z. omega (arith, positive n l))

  pub grant_named : (n : Name) → is_grant (tickets n).kind ≡ true → is_none n ≡ false
  grant_named n g = live_named n (live_grant (tickets n).kind g)

  -- ---- parents
  pub child_up : (n : Name) → is_child (tickets n).kind ≡ true → parent_of tickets n ≡ (tickets n).other
  child_up n c = up_child (tickets n).kind n (tickets n) c

  pub recall_up : (n : Name) → is_recall (tickets n).kind ≡ true → parent_of tickets n ≡ own_name n (tickets n)
  recall_up n c = up_recall (tickets n).kind n (tickets n) c

  pub child_linked : (n : Name) → is_child (tickets n).kind ≡ true → is_none (parent_of tickets n) ≡ false
  child_linked n c = rw (child_up n c) (grant_named (tickets n).other (rules.child n c).grant)

  pub recall_linked : (n : Name) → is_recall (tickets n).kind ≡ true → is_none (parent_of tickets n) ≡ false
  recall_linked n c = rw (recall_up n c) (grant_named (own_name n (tickets n)) (rules.recall n c).grant)

  -- no ticket's parent is a recall
  pub parent_grant : (n : Name) → is_none (parent_of tickets n) ≡ false → is_grant (tickets (parent_of tickets n)).kind ≡ true
  parent_grant n z = go (has_parent_lem (tickets n).kind n (tickets n) z)
    where
      go : (is_child (tickets n).kind ≡ true) ⊎ (is_recall (tickets n).kind ≡ true) → is_grant (tickets (parent_of tickets n)).kind ≡ true
      go (inl c) = rw (child_up n c) (rules.child n c).grant
      go (inr c) = rw (recall_up n c) (rules.recall n c).grant

  pub parent_live : (n : Name) → is_none (parent_of tickets n) ≡ false → is_live (tickets (parent_of tickets n)).kind ≡ true
  parent_live n z = live_grant (tickets (parent_of tickets n)).kind (parent_grant n z)

  -- ---- every live ticket has a chain that ends
  grant_chain : (n : Name) → is_grant (tickets n).kind ≡ true → (d : ℕ) × Ends (parent_of tickets) n d
  grant_chain n g = go (grant_sort (tickets n).kind g)
    where
      go : (is_head (tickets n).kind ≡ true) ⊎ (is_child (tickets n).kind ≡ true) → (d : ℕ) × Ends (parent_of tickets) n d
      go (inl h) = (0, here {n = n} (head_up (tickets n).kind n (tickets n) h))
      go (inr c) = rules.chain n c

  pub ticket_chain : (n : Name) → is_live (tickets n).kind ≡ true → (d : ℕ) × Ends (parent_of tickets) n d
  ticket_chain n l = go (case (is_none (parent_of tickets n)))
    where
      go : Case (is_none (parent_of tickets n)) → (d : ℕ) × Ends (parent_of tickets) n d
      go (pass z) = (0, here {n = n} z)
      go (fail z) = let p = grant_chain (parent_of tickets n) (parent_grant n z) in (suc p.0, up {n = n} {d = p.0} z p.1)
