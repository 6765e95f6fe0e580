-- The calls that the claims follow are those of the routines' contracts: what `EmptiesImage`, `Steps`, `Leaves`, `TracesLent` and `LoadsLent`
-- say of the buffers that come back is what `result`, `left` and `made` take. (The check and the order test hand back `result` by name, and
-- what only reads the dock leaves it.)
use Prim.Native.Nat.{ℕ, ◌*◌}
use mathlib.Core.Path.{◌≡◌, refl, sym, ap, ◌∙◌}
use mathlib.Core.List.{List}
use lib.ListN.{get_or, take, drop}
use Rattle.machine.specs.State.{sheet_at}
use Rattle.machine.specs.Numbers.{request_of, answer_width, answer_numbers}
use Rattle.lending.specs.Numbers.{request_at}
use Rattle.lending.specs.Batch.{Left, batch, Leaves}
use Rattle.lending.specs.Host.{EmptiesImage, step_refusal, left_by, step_image, Steps}
use Rattle.lending.specs.Trace.{TracesLent}
use Rattle.lending.specs.Saved.{SavesLent, LoadsLent}
use Rattle.lending.proofs.Refusals.{step_served}
use Rattle.host_isolation.specs.Calls.{Dock, Call, emptying, stepping, serving, tracing, saving, loading}
use Rattle.host_isolation.specs.Calls.{lent, lent_trace, lent_save, result, left, in_step, in_batch}

-- what came back, and the dock that was left
pub record Follows (d : Dock) (c : Call) (result' : ℕ) (image store : List ℕ) : Type 0 where
  pub result : result' ≡ result d c
  pub dock : record { image = image; store = store } ≡ left d c

-- handed the tables alone, so that the store stays
pub dock_load : (d : Dock) (text : List ℕ) (result' : ℕ) (tables : List ℕ) → LoadsLent d.image text result' tables
    → Follows d (loading text) result' tables d.store
unfolding result left
dock_load d text result' tables h = record { result = h.result; dock = λ i. record { image = h.tables i; store = d.store } }

-- and only to read
pub dock_save : (d : Dock) (output : List ℕ) (result' : ℕ) (output' : List ℕ) (size : ℕ) → SavesLent (lent_save d output) result' output' size
    → Follows d (saving output) result' d.image d.store
unfolding result left
dock_save d output result' output' size h = record { result = h.result; dock = refl }

module _ (d : Dock) (result' : ℕ) (tables store : List ℕ) where
  pub dock_empty : EmptiesImage d.image d.store result' tables store → Follows d emptying result' tables store
  unfolding result left
  dock_empty h = record { result = h.result; dock = λ i. record { image = h.tables i; store = h.store i } }

  pub dock_trace : (input output output' : List ℕ) (size : ℕ) → TracesLent (lent_trace d input output) result' tables store output' size
      → Follows d (tracing input output) result' tables store
  unfolding result left
  dock_trace input output output' size h = record { result = h.result; dock = λ i. record { image = h.tables i; store = h.store i } }

  module _ (sheet request answer sheet' answer' : List ℕ) where
    pub dock_step : Steps (lent d sheet request answer) result' tables store sheet' answer'
        → Follows d (stepping sheet request answer) result' tables store
    unfolding result left
    dock_step h = record { result = h.result; dock = λ i. record { image = h.tables i; store = h.store i } }

    -- the exchange is in the host's own buffers
    pub step_exchange : Steps (lent d sheet request answer) result' tables store sheet' answer'
        → record { request = request_of request; sheet = sheet; answer = answer'; left = sheet' } ≡ in_step sheet request (step_image (lent d sheet request answer))
    unfolding in_step
    step_exchange h i = record { request = request_of request; sheet = sheet; answer = h.answer i; left = h.sheet i }

    -- and what dock_step hands back is its answer's first number
    pub step_returns : step_refusal (lent d sheet request answer) ≡ 0
        → result d (stepping sheet request answer) ≡ get_or (in_step sheet request (step_image (lent d sheet request answer))).answer 0 0
    unfolding result in_step left_by answer_numbers
    step_returns e = let is = step_served (lent d sheet request answer) e in (λ i. (is i).result) ∙ sym (ap (λ (l : Left). get_or l.answers 0 0) is)

    pub dock_serve : Leaves (lent d sheet request answer) result' tables store sheet' answer' → Follows d (serving sheet request answer) result' tables store
    unfolding result left
    dock_serve h = record { result = h.result; dock = λ i. record { image = h.tables i; store = h.store i } }

    -- the i-th exchange, by its place in them
    pub serve_exchange : Leaves (lent d sheet request answer) result' tables store sheet' answer' → (i : ℕ)
        → in_batch sheet request (record { result = result'; tables = tables; store = store; sheets = sheet'; answers = answer' }) i
        ≡ in_batch sheet request (batch (lent d sheet request answer)) i
    unfolding in_batch
    serve_exchange h i j = record {
      request = request_at i request;
      sheet = sheet_at i sheet;
      answer = take answer_width (drop (answer_width * i) (h.answers j));
      left = sheet_at i (h.sheets j);
    }
