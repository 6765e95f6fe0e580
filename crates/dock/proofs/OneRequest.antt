-- One request: refused for its lengths, refused with 14, or served, each as the definition says.
use Prim.Native.Nat.{ℕ, ◌<◌}
use native.Mathlib.Omega.{arith}
use mathlib.Core.Path.{◌≡◌, refl, sym, ap, subst, ◌∙◌}
use mathlib.Core.Bool.{Bool, true, false, ◌&&◌}
use mathlib.Core.List.{List}
use lib.Dec.{eqb}
use lib.ListN.{length, get_or}
use borrow.Author.Tests.{eq-eqb, ne_eqb}
use Rattle.lists.proofs.Tests.{and_false}
use Rattle.machine.specs.declared.{Request.Request, Answer.Answer, Refusal.Refusal}
use Rattle.machine.specs.State.{Outcome, state_of}
use Rattle.machine.specs.Numbers.{request_width, request_of, answer_width, answer_numbers}
use Rattle.machine.specs.Refusal.{◌when◌else◌, number_of}
use Rattle.machine.proofs.RefusalLaws.{never_zero}
use Rattle.machine.specs.Step.{serve}
use Rattle.image.specs.Layout.{image_size}
use Rattle.image.specs.Image.{decode}
use Rattle.op_serve.specs.Contract.{LeavesLent}
use Rattle.lending.specs.Batch.{Buffers, untouched}
use Rattle.lending.specs.Host.{step_refusal, step_outcome, left_by, step_image, Steps, lent_refusal}
use Rattle.lending.proofs.Refusals.{tables_image, tables_order, not_refused, step_served, step_refused}
use Rattle.lending.proofs.Served.{is_served}
use Rattle.lending.proofs.Kept.{image_kept}

module _ (b : Buffers) where
  -- the lengths of image, store and sheet buffer
  abbrev three : Bool
  three = eqb (length b.tables) image_size && eqb (length b.store) 16384 && eqb (length b.sheets) 64

  refused : {n : ℕ} → n ≡ step_refusal b → (n ≡ 0 → ⊥) → Steps b n b.tables b.store b.sheets b.answers
  unfolding untouched
  refused {n} e ne =
      let is : untouched b n ≡ step_image b = ap (untouched b) e ∙ sym (step_refused b (λ z. ne (e ∙ z))) in
      record {
        result = λ i. (is i).result;
        tables = λ i. (is i).tables;
        store = λ i. (is i).store;
        sheet = λ i. (is i).sheets;
        answer = λ i. (is i).answers;
        decoded = λ none. absurd (ne (e ∙ none));
        as_before = λ x y. refl;
      }

  -- ---- numbers of another request, or room for another answer
  module _ {n : ℕ} (thirteen : n ≡ 13) where
    pub other_request : (length b.requests ≡ request_width → ⊥) → Steps b n b.tables b.store b.sheets b.answers
    unfolding step_refusal ◌when◌else◌
    other_request h = refused (thirteen ∙ rw (ne_eqb (length b.requests) request_width h, and_false three)) (λ z. omega arith)

    pub other_answer : (length b.answers ≡ answer_width → ⊥) → Steps b n b.tables b.store b.sheets b.answers
    unfolding step_refusal ◌when◌else◌
    other_answer h =
        refused (thirteen ∙ rw (ne_eqb (length b.answers) answer_width h, and_false (three && eqb (length b.requests) request_width))) (λ z. omega arith)

  module _ (nine : length b.requests ≡ request_width) (room : length b.answers ≡ answer_width) where
    and_true : (x : Bool) → (x && true) ≡ x
    and_true true = refl
    and_true false = refl

    same_refusal : lent_refusal b.tables (length b.store) (length b.sheets) ≡ step_refusal b
    unfolding step_refusal lent_refusal
    same_refusal =
        rw (
          eq-eqb (length b.requests) request_width nine,
          eq-eqb (length b.answers) answer_width room,
          and_true (three && true),
          and_true three,
        )

    pub before_it : (refusal : Refusal) → number_of refusal ≡ lent_refusal b.tables (length b.store) (length b.sheets) → {n : ℕ} → n ≡ number_of refusal
        → Steps b n b.tables b.store b.sheets b.answers
    before_it refusal e is = refused (is ∙ e ∙ same_refusal) (λ z. never_zero refusal (sym is ∙ z))

    -- ---- served
    module _ (none : 0 ≡ lent_refusal b.tables (length b.store) (length b.sheets)) (r : Request) (read : r ≡ request_of b.requests) (a : Answer)
        (tables' store' sheet' : List ℕ) (left : LeavesLent (serve (state_of (decode b.tables) b.store b.sheets) r) a tables' store' sheet') where
      stepped : LeavesLent (step_outcome b) a tables' store' sheet'
      unfolding step_outcome
      stepped =
          let whole = not_refused b.tables (length b.store) (length b.sheets) (sym none) in
          subst (λ (o : Outcome). LeavesLent o a tables' store' sheet')
          (ap (serve (state_of (decode b.tables) b.store b.sheets)) read
          ∙ is_served (decode b.tables) b.store b.sheets (request_of b.requests) whole.store_long whole.sheet_long
          (tables_order b.tables whole.tables)) left

      is_step : left_by (step_outcome b) ≡ step_image b
      is_step = sym (step_served b (sym (none ∙ same_refusal)))

      pub served : ((i : ℕ) → get_or b.tables i 0 < 256) → {answer' : List ℕ} → answer' ≡ answer_numbers a → Steps b a.result tables' store' sheet' answer'
      unfolding left_by step_outcome
      served small put =
          let is = is_step in
          let result : a.result ≡ (step_outcome b).answer.result = ap (λ (x : Answer). x.result) stepped.answer in
          let whole = not_refused b.tables (length b.store) (length b.sheets) (sym none) in
          record {
            result = result ∙ λ i. (is i).result;
            tables = stepped.tables ∙ λ i. (is i).tables;
            store = stepped.store ∙ λ i. (is i).store;
            sheet = stepped.sheet ∙ λ i. (is i).sheets;
            answer = put ∙ ap answer_numbers stepped.answer ∙ λ i. (is i).answers;
            decoded = λ e. stepped.decoded;
            as_before = λ x y.
                stepped.tables
                ∙ image_kept b.tables b.store b.sheets (request_of b.requests) small (tables_image b.tables whole.tables)
                (λ z. x (result ∙ z)) (λ z. y (result ∙ z));
          }
