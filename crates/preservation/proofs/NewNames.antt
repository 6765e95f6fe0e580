-- Names past the last number of their program: they are neither a ticket's nor an entry's, nor were they ever given. A taken or
-- received grant under such a name keeps the rules there.
use Prim.Native.Nat.{ℕ, suc}
use native.Mathlib.Omega.{arith}
use mathlib.Core.Path.{◌≡◌, refl, sym, ap, ◌∙◌}
use mathlib.Core.Bool.{true, false}
use Rattle.lists.proofs.Tests.{contradiction, cannot_pass, no_true}
use Rattle.rights.specs.declared.Rights.{Rights}
use Rattle.tables.specs.declared.{Name.Name, Kind.Kind, Ticket.Ticket, Entry.Entry, Tables.Tables}
use Rattle.tables.specs.Names.{head_ticket}
use Rattle.tables.specs.Lookup.{last_of, lookup, entry_of}
use Rattle.tables.proofs.KindLaws.{live_head}
use Rattle.preservation.specs.Rules.{Span, Given}
use Rattle.preservation.specs.InOrder.{InOrder}
use Rattle.preservation.proofs.RuleFacts.{entry_head}
use Rattle.preservation.proofs.Insertion.{NewTicket}
use Rattle.tables.specs.Kinds.{is_live, is_taken, is_child, is_recall}

-- a name past the last is neither a ticket's nor an entry's
module _ (t : Tables) (ok : InOrder t) (x : Name) (past : x.number ≡ suc (last_of t x.pad x.program)) where
  pub past_ticket : is_live (lookup t x).kind ≡ false
  past_ticket = cannot_pass (is_live (lookup t x).kind) (λ e. omega (arith, past, (ok.rules.named x e).high))

  pub past_entry : (entry_of t x).live ≡ false
  past_entry =
      cannot_pass (entry_of t x).live (λ e. contradiction (live_head (lookup t x).kind (entry_head (ok.rules.entry x e))) past_ticket)

  pub past_given : Given (last_of t) x → ⊥
  past_given g = omega (arith, past, g.high)

  -- a live ticket's or entry's name is not past the last
  pub not_past : (n : Name) → is_live (lookup t n).kind ≡ true → n ≡ x → ⊥
  not_past n l q = no_true (sym past_ticket ∙ ap (λ (m : Name). is_live (lookup t m).kind) (sym q) ∙ l)

  pub not_past_entry : (n : Name) → (entry_of t n).live ≡ true → n ≡ x → ⊥
  not_past_entry n l q = no_true (sym past_entry ∙ ap (λ (m : Name). (entry_of t m).live) (sym q) ∙ l)

-- a new taken or received grant keeps the rules at its name
pub new_head : (tickets : Name → Ticket) (entries : Name → Entry) (lasts : ℕ → ℕ → ℕ) (n : Name) (kind : Kind) (f c : ℕ) (r : Rights)
    → tickets n ≡ head_ticket kind n f c r → is_child kind ≡ false → is_recall kind ≡ false → Given lasts n → Span f c r
    → (is_taken kind ≡ true → (entries n).live ≡ true) → NewTicket tickets entries lasts n
new_head tickets entries lasts n kind f c r e nc nr g s t = record {
  named = g;
  number = rw e;
  span = rw e λ h. s;
  child = λ h. no_true (sym nc ∙ (rw e at h));
  chain = λ h. no_true (sym nc ∙ (rw e at h));
  recalled = λ h. no_true (sym nc ∙ (rw e at h));
  dock = rw e λ h. refl;
  taken = rw e t;
  recall = λ h. no_true (sym nr ∙ (rw e at h));
  near = λ h. no_true (sym nr ∙ (rw e at h));
  far = λ h. no_true (sym nr ∙ (rw e at h));
  far_entry = λ h. no_true (sym nr ∙ (rw e at h));
  no_far = λ h. no_true (sym nr ∙ (rw e at h));
  once = λ h. no_true (sym nr ∙ (rw e at h));
}
