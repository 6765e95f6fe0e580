-- One line's work: the request of a line in form is served on the lent image and store, and one of another form changes nothing.
use Prim.Native.Nat.{ℕ, ◌<◌}
use mathlib.Core.Path.{◌≡◌, refl, sym, ap, ◌∙◌}
use mathlib.Core.Bool.{true, ◌&&◌, cond}
use mathlib.Core.List.{List}
use lib.Dec.{eqb}
use lib.ListN.{length, get_or, replicate, length-replicate}
use Rattle.lists.proofs.Tests.{Case, pass, fail, case}
use Rattle.tables.specs.Lookup.{Sized}
use Rattle.tables.specs.Order.{in_order}
use Rattle.machine.specs.declared.Answer.{Answer}
use Rattle.machine.specs.State.{State, state_of}
use Rattle.machine.specs.Step.{step, serve}
use Rattle.machine.specs.Sequence.{enter}
use Rattle.preservation.proofs.StepKeepsOrder.{step_keeps_order}
use Rattle.image.specs.Image.{encode, decode, is_image}
use Rattle.image.proofs.RoundTrip.{encode_decode, encode_is_image}
use Rattle.image_find.proofs.Laws.{decoded_sized}
use Rattle.op_serve.specs.Contract.{LeavesLent}
use Rattle.op_serve.proofs.Parts.{same_outcome}
use Rattle.lending.proofs.Served.{is_served}
use Rattle.lending.specs.Trace.{dock_of}
use Rattle.trace_texts.specs.Line.{in_form, sent_by, answer_line, first_byte, other_line}
use Rattle.trace_texts.specs.Trace.{served_by, answer_to, left_by_line}
use Rattle.text_trace.specs.declared.Asked.{Asked}
use Rattle.text_trace.specs.Contract.{asked_in, Servable, LeavesDock}
use Rattle.std.specs.Prelude.{Some, None}
use Rattle.text_trace.proofs.LineReading.{told, told_other}
use Rattle.trace_texts.proofs.AnswersLaws.{answer_served, answer_other, left_served, left_other}

-- ---- an image that stays as it is
module _ (image bytes : List ℕ) (small : (j : ℕ) → get_or image j 0 < 256) (ready : Servable image bytes) where
  pub same_image : image ≡ encode (decode image)
  same_image = sym (encode_decode image small ready.is)

  pub same_dock : LeavesDock (dock_of image bytes) image bytes
  same_dock = record { tables = same_image; decoded = refl; store = refl }

-- ---- in order from line to line
left_in_order : (s : State) (line : List ℕ) → Sized s.tables → in_order s.tables ≡ true → in_order (left_by_line s line).tables ≡ true
unfolding enter
left_in_order s line z e = go (case (in_form line))
  where
    go : Case (in_form line) → in_order (left_by_line s line).tables ≡ true
    go (pass f) = rw (left_served s line f) (step_keeps_order (enter s (sent_by line)) (sent_by line).request z e)
    go (fail f) = rw (left_other s line f) e

pub still_ready : (image bytes line image' bytes' : List ℕ) → Servable image bytes
    → LeavesDock (left_by_line (dock_of image bytes) line) image' bytes' → length bytes' ≡ 16384 → Servable image' bytes'
still_ready image bytes line image' bytes' ready h long =
    let left = (left_by_line (dock_of image bytes) line).tables in
    record {
      is = ap is_image h.tables ∙ encode_is_image left;
      order = ap in_order h.decoded ∙ left_in_order (dock_of image bytes) line (decoded_sized image) ready.order;
      store = long;
    }

-- ---- what the routine appends and leaves
module _ (image bytes line : List ℕ) (number : ℕ) where
  abbrev here : State
  here = dock_of image bytes

  -- a line of another form
  module _ (other : None ≡ asked_in line) where
    pub other_text : answer_to number here line ≡ other_line number
    other_text = answer_other number here line (told_other line other)

    pub other_holds : LeavesDock here image bytes → LeavesDock (left_by_line here line) image bytes
    other_holds h = rw (left_other here line (told_other line other)) h

  -- a line in form
  module _ (a : Asked) (asked : Some a ≡ asked_in line) where
    formed : in_form line ≡ true
    formed = (told line a asked).0

    request_is : a.request ≡ (sent_by line).request
    unfolding sent_by
    request_is = ap (λ (x : Asked). x.request) (told line a asked).1

    sheet_is : replicate 64 a.fill ≡ (sent_by line).sheet
    unfolding sent_by
    sheet_is = ap (λ (x : Asked). replicate 64 x.fill) (told line a asked).1

    same_step : step (state_of (decode image) bytes (replicate 64 a.fill)) a.request ≡ served_by here line
    unfolding enter
    same_step i = step (state_of (decode image) bytes (sheet_is i)) (request_is i)

    module _ (ready : Servable image bytes) (answer : Answer) (image' bytes' sheet' : List ℕ)
        (leaves : LeavesLent (serve (state_of (decode image) bytes (replicate 64 a.fill)) a.request) answer image' bytes' sheet') where
      served : LeavesLent (served_by here line) answer image' bytes' sheet'
      served =
          same_outcome
          (is_served (decode image) bytes (replicate 64 a.fill) a.request ready.store (length-replicate {A = ℕ} 64 a.fill) ready.order ∙ same_step)
          leaves

      pub served_text : (byte : ℕ) → byte ≡ cond (eqb a.request.op 5 && eqb answer.result 0) (get_or sheet' 0 0) 0
          → answer_to number here line ≡ answer_line number answer byte
      unfolding first_byte
      served_text byte b =
          let byte_is : byte ≡ first_byte (sent_by line).request (served_by here line) =
          b ∙ (λ i. cond (eqb (request_is i).op 5 && eqb (served.answer i).result 0) (get_or (served.sheet i) 0 0) 0) in
          answer_served number here line formed ∙ λ i. answer_line number (sym served.answer i) (sym byte_is i)

      pub served_holds : LeavesDock (left_by_line here line) image' bytes'
      served_holds =
          rw (left_served here line formed) (record { tables = served.tables; decoded = served.decoded; store = served.store })
