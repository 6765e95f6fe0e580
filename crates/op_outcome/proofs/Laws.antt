-- What is served where the request passed 1, 2 and 3: from the operation's own refusal, the outcome.
use Prim.Native.Nat.{ℕ}
use mathlib.Core.Path.{◌≡◌, refl, sym, ap, subst, ◌∙◌}
use mathlib.Core.Bool.{Bool, true, cond}
use mathlib.Core.List.{List}
use lib.Dec.{eqb}
use borrow.Author.Tests.{ne_eqb, eqb-true, eqb-false}
use Rattle.lists.proofs.Tests.{Case, pass, fail, case}
use Rattle.tables.specs.declared.{Name.Name, Ticket.Ticket, Tables.Tables}
use Rattle.tables.specs.Kinds.{is_grant, is_head}
use Rattle.tables.specs.Lookup.{lookup}
use Rattle.tables.specs.Chains.{at_or_under}
use Rattle.tables.specs.Change.{drop_tickets}
use Rattle.machine.specs.declared.{Request.Request, Answer.Answer}
use Rattle.machine.specs.State.{State, Outcome, refused, with_tables, asked_name, asked, state_of}
use Rattle.machine.specs.Operation.{Operation, operation_of}
use Rattle.machine.specs.Step.{own_refusal, after_own, drop_head, outcome, serve}
use Rattle.image.specs.Image.{decode, is_image}
use Rattle.image_write.specs.Shows.{Holds}
use Rattle.op_drop_entries.specs.Links.{LinkedEntries}
use Rattle.op_drop_tickets.specs.Docked.{Heads}
use Rattle.op_form.specs.Early.{early_refusal}
use Rattle.op_form.proofs.Laws.{serve_past}
use Rattle.op_outcome.specs.Outcomes.{outcome_of, plainly, Serves}
use Rattle.op_outcome.specs.Ready.{Ready}
use Rattle.op_outcome.specs.Refusing.{MayRefuse, Refuses, after_refusal}

module _ (t : Tables) (store sheet : List ℕ) (r : Request) (z : early_refusal r ≡ 0) (op : Operation) (o : operation_of r.op ≡ op) where
  abbrev before : State
  before = state_of t store sheet

  by_own : serve before r ≡ outcome before r (own_refusal op t r)
  by_own = serve_past before r z ∙ ap (λ (x : Operation). outcome before r (own_refusal x t r)) o

  pub served_done : own_refusal op t r ≡ 0 → after_own op before r ≡ serve before r
  unfolding outcome
  served_done e = sym (by_own ∙ rw (e, o))

  served_lost : own_refusal op t r ≡ 12 → outcome_of (plainly 12) (drop_head t r) store sheet ≡ serve before r
  unfolding outcome refused with_tables
  served_lost e = sym (by_own ∙ rw e)

  pub served_refused : (n : ℕ) → own_refusal op t r ≡ n → (n ≡ 0 → ⊥) → (n ≡ 12 → ⊥) → outcome_of (plainly n) t store sheet ≡ serve before r
  unfolding outcome refused
  served_refused n e ne ne' = sym (by_own ∙ rw (e, ne_eqb n 0 ne, ne_eqb n 12 ne'))

-- ---- the outcome is left in the buffers
module _ {o : Outcome} {a : Answer} {image store sheet : List ℕ} where
  -- the image holds other tables
  pub leaves : {u : Tables} → Holds image u → {b : Answer} → a ≡ b → outcome_of b u store sheet ≡ o → Serves o a image store sheet
  leaves held e q = record { is = held.is; same = (λ i. outcome_of (e i) (held.tables i) store sheet) ∙ q }

  -- the image stays
  pub stays : is_image image ≡ true → {n : ℕ} → a ≡ plainly n → outcome_of (plainly n) (decode image) store sheet ≡ o → Serves o a image store sheet
  stays is e q = leaves (record { is = is; tables = refl }) e q

-- ---- 12: the head of a grant's chain is its dock name
lost : (t : Tables) (r : Request) (k : Ticket) → asked t r ≡ k → Heads t → is_grant (asked t r).kind ≡ true
    → drop_tickets (at_or_under t k.dock) t ≡ drop_head t r
unfolding drop_head
lost t r k e heads g =
    ap (λ (h : Name). drop_tickets (at_or_under t h) t) (ap (λ (x : Ticket). x.dock) (sym e) ∙ sym (heads.head (asked_name r) g))

-- ---- what a refusal of a request for a ticket leaves
module _ (t : Tables) (r : Request) (asks : early_refusal r ≡ 0) (n : ℕ) (ne : n ≡ 0 → ⊥)
    (k : Ticket) (found : asked t r ≡ k) (ready : Ready t) (grant : n ≡ 12 → is_grant (asked t r).kind ≡ true) where
  pub may_refuse : MayRefuse t n k
  may_refuse = record {
    ready = ready;
    head = λ e. subst (λ (x : Ticket). is_head (lookup t x.dock).kind ≡ true) found (ready.heads.kind (asked_name r) (grant e));
  }

  refused_served : (store sheet : List ℕ) (op : Operation) → operation_of r.op ≡ op → own_refusal op t r ≡ n
      → outcome_of (plainly n) (after_refusal t n k) store sheet ≡ serve (state_of t store sheet) r
  unfolding after_refusal
  refused_served store sheet op o own = go (case (eqb n 12))
    where
      go : Case (eqb n 12) → outcome_of (plainly n) (after_refusal t n k) store sheet ≡ serve (state_of t store sheet) r
      go (pass e) =
          let twelve : n ≡ 12 = eqb-true n 12 e in
          (λ i. outcome_of (plainly (twelve i)) (cond (e i) (drop_tickets (at_or_under t k.dock) t) t) store sheet)
          ∙ ap (λ (u : Tables). outcome_of (plainly 12) u store sheet) (lost t r k found ready.heads (grant twelve))
          ∙ served_lost t store sheet r asks op o (own ∙ twelve)
      go (fail e) =
          (λ i. outcome_of (plainly n) (cond (e i) (drop_tickets (at_or_under t k.dock) t) t) store sheet)
          ∙ served_refused t store sheet r asks op o n own ne (eqb-false n 12 e)

  pub refuses : {a : Answer} {image store sheet : List ℕ} → Refuses t n k a image → (op : Operation) → operation_of r.op ≡ op → own_refusal op t r ≡ n
      → Serves (serve (state_of t store sheet) r) a image store sheet
  refuses {store = store} {sheet = sheet} left op o own = leaves left.holds left.answer (refused_served store sheet op o own)

-- ---- tickets removed leave the entries linked
pub entries_kept_lem : (gone : Name → Bool) (t u : Tables) → u ≡ drop_tickets gone t → LinkedEntries t.entries → LinkedEntries u.entries
unfolding drop_tickets
entries_kept_lem gone t u e linked = subst (λ (x : Tables). LinkedEntries x.entries) (sym e) linked
