-- One request over lent bytes, refused with 13 or 14, or served.
use Prim.Native.Nat.{ℕ, ◌<◌}
use mathlib.Core.Path.{◌≡◌, refl, ap, subst, ◌∙◌}
use mathlib.Core.List.{List}
use lib.ListN.{length, get_or}
use Rattle.machine.specs.declared.{Request.Request, Answer.Answer, Refusal.Refusal}
use Rattle.machine.specs.Refusal.{number_of}
use Rattle.machine.proofs.RefusalLaws.{never_zero}
use Rattle.machine.specs.State.{Outcome, answer_of, state_of}
use Rattle.machine.specs.Step.{serve}
use Rattle.image.specs.Image.{decode}
use Rattle.op_serve.specs.Contract.{LeavesLent}
use Rattle.lending.specs.Host.{lent_refusal, stepped_by, StepsLent}
use Rattle.lending.proofs.Refusals.{tables_image, tables_order, not_refused, is_refused, is_stepped}
use Rattle.lending.proofs.Served.{is_served}
use Rattle.lending.proofs.Kept.{image_kept}

module _ (tables store sheet : List ℕ) (r : Request) where
  pub as_refused : (refusal : Refusal) → number_of refusal ≡ lent_refusal tables (length store) (length sheet)
      → {a : Answer} → a ≡ answer_of (number_of refusal) 0 0 → StepsLent tables store sheet r a tables store sheet
  as_refused refusal e plain =
      let is = is_refused tables store sheet r e (never_zero refusal) in
      record {
        answer = plain ∙ λ i. (is i).answer;
        tables = λ i. (is i).tables;
        store = λ i. (is i).store;
        sheet = λ i. (is i).sheet;
        decoded = λ none. absurd (never_zero refusal (e ∙ none));
        as_before = λ x y. refl;
      }

  pub as_served : ((i : ℕ) → get_or tables i 0 < 256) → lent_refusal tables (length store) (length sheet) ≡ 0 → {a : Answer} {tables' store' sheet' : List ℕ}
      → LeavesLent (serve (state_of (decode tables) store sheet) r) a tables' store' sheet' → StepsLent tables store sheet r a tables' store' sheet'
  unfolding stepped_by
  as_served small e {a} {tables'} {store'} {sheet'} left =
      let whole = not_refused tables (length store) (length sheet) e in
      let same = is_served (decode tables) store sheet r whole.store_long whole.sheet_long (tables_order tables whole.tables) in
      let l = subst (λ (o : Outcome). LeavesLent o a tables' store' sheet') same left in
      let is = is_stepped tables store sheet r e in
      record {
        answer = l.answer ∙ λ i. (is i).answer;
        tables = l.tables ∙ λ i. (is i).tables;
        store = l.store ∙ λ i. (is i).store;
        sheet = l.sheet ∙ λ i. (is i).sheet;
        decoded = λ none. l.decoded;
        as_before = λ x y.
            l.tables
            ∙ image_kept tables store sheet r small (tables_image tables whole.tables) (λ z. x (ap (λ (k : Answer). k.result) l.answer ∙ z))
            (λ z. y (ap (λ (k : Answer). k.result) l.answer ∙ z));
      }
