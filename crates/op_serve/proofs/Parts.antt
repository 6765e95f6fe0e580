-- One equation between outcomes is one between each of their fields; and a stopped request leaves what it got.
use Prim.Native.Nat.{ℕ}
use native.Mathlib.Omega.{arith}
use mathlib.Core.Path.{◌≡◌, sym, ap, subst, ◌∙◌}
use mathlib.Core.Bool.{true}
use mathlib.Core.List.{List}
use lib.ListN.{get_or}
use Rattle.tables.specs.declared.Tables.{Tables}
use Rattle.machine.specs.declared.{Request.Request, Answer.Answer}
use Rattle.machine.specs.State.{Outcome, refused, state_of}
use Rattle.machine.specs.declared.Refusal.{Refusal}
use Rattle.machine.specs.Refusal.{number_of}
use Rattle.machine.specs.Step.{serve}
use Rattle.machine.proofs.RefusalLaws.{never_zero}
use Rattle.std.proofs.Common.{Fits, w8}
use Rattle.image.specs.Image.{encode, decode, is_image}
use Rattle.image.proofs.RoundTrip.{encode_decode}
use Rattle.op_form.specs.Early.{early_refusal}
use Rattle.op_form.proofs.Laws.{serve_stopped}
use Rattle.op_outcome.specs.Outcomes.{outcome_of, plainly, Serves}
use Rattle.op_outcome.specs.Ready.{Asks}
use Rattle.op_outcome.proofs.Laws.{stays}
use Rattle.op_serve.specs.Contract.{LeavesLent}

module _ {o : Outcome} {a : Answer} {image store sheet : List ℕ} (small : (i : ℕ) → Fits w8 (get_or image i 0)) where
  pub by_fields : Serves o a image store sheet → LeavesLent o a image store sheet
  by_fields s =
      let decoded : decode image ≡ o.state.tables = ap (λ (x : Outcome). x.state.tables) s.same in
      record {
        answer = ap (λ (x : Outcome). x.answer) s.same;
        tables = sym (encode_decode image (λ i. omega (arith, small i)) s.is) ∙ ap encode decoded;
        decoded = decoded;
        store = ap (λ (x : Outcome). x.state.store) s.same;
        sheet = ap (λ (x : Outcome). x.state.sheet) s.same;
      }

  -- the image stays
  pub left_alone : is_image image ≡ true → {n : ℕ} → a ≡ plainly n → outcome_of (plainly n) (decode image) store sheet ≡ o → LeavesLent o a image store sheet
  left_alone is e q = by_fields (stays is e q)

pub same_outcome : {o o' : Outcome} → o ≡ o' → {a : Answer} {image store sheet : List ℕ} → LeavesLent o a image store sheet → LeavesLent o' a image store sheet
same_outcome e {a} {image} {store} {sheet} l = subst (λ (x : Outcome). LeavesLent x a image store sheet) e l

pub stopped : (t : Tables) (store sheet : List ℕ) (r : Request) (refusal : Refusal) → number_of refusal ≡ early_refusal r
    → outcome_of (plainly (number_of refusal)) t store sheet ≡ serve (state_of t store sheet) r
unfolding refused
stopped t store sheet r refusal e =
    ap (λ (x : ℕ). outcome_of (plainly x) t store sheet) e ∙ sym (serve_stopped (state_of t store sheet) r (λ z. never_zero refusal (e ∙ z)))

pub asks : (op : ℕ) (r : Request) → 0 ≡ early_refusal r → r.op ≡ op → Asks op r
asks op r z o = record { early = sym z; number = o }
