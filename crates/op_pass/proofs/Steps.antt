-- What a pass decides, what it knows of its ticket, and what it leaves.
use Prim.Native.Nat.{ℕ, ◌+◌, ◌≤◌}
use native.Mathlib.Omega.{arith}
use mathlib.Core.Path.{◌≡◌, sym, ap, subst, ◌∙◌}
use mathlib.Core.Bool.{true}
use mathlib.Core.List.{List}
use borrow.Author.Tests.{eq-eqb, ne_eqb}
use Rattle.tables.specs.declared.{Name.Name, Ticket.Ticket, Entry.Entry, Tables.Tables}
use Rattle.tables.specs.declared.Kind.TheVariants.{Received, Child}
use Rattle.tables.specs.Kinds.{is_grant}
use Rattle.tables.specs.Names.{name_of, grant_ticket, head_ticket, recall_ticket, entry_for}
use Rattle.tables.specs.Change.{give, put_entry}
use Rattle.rights.specs.Rules.{rights_of}
use Rattle.std.specs.Prelude.{Ok, Err}
use Rattle.machine.specs.declared.{Request.Request, Answer.Answer, Refusal.Refusal}
use Rattle.machine.specs.Refusal.{number_of}
use Rattle.machine.specs.State.{answer_of, accepted, with_tables, asked_name, asked, state_of}
use Rattle.machine.specs.Operation.{passing, operation_of}
use Rattle.machine.specs.Pass.{pass_tables, after_pass}
use Rattle.machine.specs.Step.{own_refusal, after_own, serve}
use Rattle.machine.proofs.RefusalLaws.{never_zero}
use Rattle.op_form.proofs.Numbers.{op_pass}
use Rattle.op_refusals.proofs.Results.{pass_grant}
use Rattle.op_outcome.specs.Outcomes.{outcome_of, Serves}
use Rattle.op_outcome.specs.Ready.{Ready, Asks}
use Rattle.op_outcome.specs.Refusing.{MayRefuse, Refuses}
use Rattle.op_outcome.proofs.Laws.{may_refuse, refuses, served_done}
use Rattle.op_pass.specs.declared.Numbers.{Numbers}
use Rattle.op_pass.specs.Decides.{DecidesFor}
use Rattle.op_pass.specs.Grant.{granted}

-- ---- the recipient's grant, from the parts that the code has made
module _ (t : Tables) (k : Ticket) (r : Request) (n : Name) where
  pub granted_near : r.pad ≡ r.topad → {parent : Name} → parent ≡ asked_name r
      → {child : Ticket} → child ≡ grant_ticket Child n.number parent (k.first + r.first) r.count (rights_of r.rights) k.dock
      → {u : Tables} → u ≡ give t r.topad r.toprogram child → u ≡ granted t k r n
  unfolding granted
  granted_near h e made put =
      put ∙ ap (give t r.topad r.toprogram) (made ∙ (λ i. grant_ticket Child n.number (e i) (k.first + r.first) r.count (rights_of r.rights) k.dock))
      ∙ rw (eq-eqb r.pad r.topad h)

  pub granted_far : (r.pad ≡ r.topad → ⊥)
      → {received : Ticket} → received ≡ head_ticket Received n (k.first + r.first) r.count (rights_of r.rights)
      → {u : Tables} → u ≡ give t r.topad r.toprogram received
      → {entry : Entry} → entry ≡ entry_for n k.dock (k.first + r.first) r.count (rights_of r.rights)
      → {v : Tables} → v ≡ put_entry u entry → v ≡ granted t k r n
  unfolding granted
  granted_far h made put entered put' =
      put' ∙ (λ i. put_entry ((put ∙ ap (give t r.topad r.toprogram) made) i) (entered i)) ∙ rw (ne_eqb r.pad r.topad h)

-- ---- the outcome
module _ (t : Tables) (r : Request) (ready : Ready t) (asks : Asks 2 r) where
  op : operation_of r.op ≡ passing
  op = op_pass r.op asks.number

  -- it is refused; 12 is said of a grant
  module _ {refusal : Refusal} (is : DecidesFor t r (Err refusal)) (k : Ticket) (found : asked t r ≡ k) where
    lost_grant : number_of refusal ≡ 12 → is_grant (asked t r).kind ≡ true
    lost_grant e = pass_grant t r 12 (λ z. omega (arith, z)) (λ z. omega (arith, z)) (sym is.result ∙ e)

    module _ (n : ℕ) (of : n ≡ number_of refusal) where
      not_zero : n ≡ 0 → ⊥
      not_zero z = never_zero refusal (sym of ∙ z)

      pub may_be_refused : MayRefuse t n k
      may_be_refused = may_refuse t r asks.early n not_zero k found ready (λ e. lost_grant (sym of ∙ e))

      pub refused : {a : Answer} {image : List ℕ} → Refuses t n k a image
          → (store sheet : List ℕ) → Serves (serve (state_of t store sheet) r) a image store sheet
      unfolding own_refusal
      refused left store sheet = refuses t r asks.early n not_zero k found ready (λ e. lost_grant (sym of ∙ e)) left passing op (sym (of ∙ is.result))

  -- it is accepted
  module _ {numbers : Numbers} (is : DecidesFor t r (Ok numbers)) (k : Ticket) (found : asked t r ≡ k) where
    -- the sheets lent are within the ticket's, so within the store
    pub first_fits : k.first ≤ 256
    first_fits =
        let fits = ready.span (asked_name r) (pass_grant t r 0 (λ z. omega (arith, z)) (λ z. omega (arith, z)) (sym is.result)) in
        subst (λ (x : Ticket). x.first ≤ 256) found (omega (arith, fits))

    pub passed : {recall : Ticket} → recall ≡ recall_ticket numbers.own r.ticket (name_of r.topad r.toprogram numbers.other)
        → {lent : Tables} → lent ≡ give t r.pad r.program recall
        → {u : Tables} → u ≡ granted lent k r (name_of r.topad r.toprogram numbers.other)
        → (store sheet : List ℕ) → outcome_of (answer_of 0 numbers.own numbers.other) u store sheet ≡ serve (state_of t store sheet) r
    unfolding own_refusal after_own after_pass accepted with_tables pass_tables granted
    passed made given put store sheet =
        let lent = given ∙ ap (give t r.pad r.program) (made ∙ (λ i. recall_ticket (is.own i) r.ticket (name_of r.topad r.toprogram (is.other i)))) in
        let u = put ∙ (λ i. granted (lent i) (sym found i) r (name_of r.topad r.toprogram (is.other i))) in
        (λ i. outcome_of (answer_of 0 (is.own i) (is.other i)) (u i) store sheet) ∙ served_done t store sheet r asks.early passing op (sym is.result)
