-- A batch request by request: what holds before the i-th, that it holds before the next, and what it comes to at the end.
use Prim.Native.Nat.{ℕ, zero, suc, ◌+◌, ◌*◌, ◌<◌}
use native.Mathlib.Numerals.{add-one}
use native.Mathlib.Omega.{arith}
use mathlib.Core.Path.{◌≡◌, refl, sym, ap, subst, ◌∙◌}
use mathlib.Core.Bool.{true}
use mathlib.Core.List.{List}
use lib.ListN.{length, get_or, take, drop}
use borrow.Rule.Slice.PartMut.{put_mid}
use Rattle.lists.proofs.PartLaws.{Written, written_none, written_next, written_more, written_all}
use Rattle.tables.specs.Lookup.{Sized}
use Rattle.tables.specs.Order.{in_order}
use Rattle.machine.specs.declared.{Request.Request, Answer.Answer}
use Rattle.machine.specs.State.{State, sheet_at, state_of}
use Rattle.machine.specs.Numbers.{answer_width, answer_numbers}
use Rattle.machine.specs.Step.{step, serve}
use Rattle.preservation.proofs.StepKeepsOrder.{step_keeps_order}
use Rattle.image.specs.Image.{encode, decode, is_image}
use Rattle.image.proofs.RoundTrip.{encode_decode, encode_is_image}
use Rattle.image_find.proofs.Laws.{decoded_sized}
use Rattle.op_serve.specs.Contract.{LeavesLent}
use Rattle.op_serve.proofs.Parts.{same_outcome}
use Rattle.lending.specs.Numbers.{request_at}
use Rattle.lending.specs.Sequence.{Start, met, outcome_at, start_with, AllServed}
use Rattle.lending.proofs.Lengths.{answer_long}
use Rattle.lending.proofs.Served.{is_served}

-- the i-th request's own sheet buffer and answer
abbrev pub sheet_part : Start → ℕ → List ℕ
sheet_part b i = (outcome_at b i).state.sheet

abbrev pub answer_part : Start → ℕ → List ℕ
answer_part b i = answer_numbers (outcome_at b i).answer

pub record Going (b : Start) (room : List ℕ) (i : ℕ) (image store' sheets' answers' : List ℕ) : Type 0 where
  pub tables : image ≡ encode (met b i).tables
  pub decoded : decode image ≡ (met b i).tables
  pub store : store' ≡ (met b i).store
  pub long : length store' ≡ 16384
  pub sheets : Written 64 (sheet_part b) b.sheets i sheets'
  pub answers : Written answer_width (answer_part b) room i answers'
  pub order : in_order (decode image) ≡ true

pub begins : (image store sheets requests room : List ℕ) → ((j : ℕ) → get_or image j 0 < 256) → is_image image ≡ true
    → length store ≡ 16384 → in_order (decode image) ≡ true → Going (start_with (decode image) store sheets requests) room 0 image store sheets room
unfolding met
begins image store sheets requests room small is long order = record {
  tables = sym (encode_decode image small is);
  decoded = refl;
  store = refl;
  long = long;
  sheets = written_none 64 (sheet_part (start_with (decode image) store sheets requests)) sheets;
  answers = written_none answer_width (answer_part (start_with (decode image) store sheets requests)) room;
  order = order;
}

met_sheet : (b : Start) (i : ℕ) → (met b i).sheet ≡ sheet_at i b.sheets
unfolding met
met_sheet b zero = refl
met_sheet b (suc i) = refl

module _ (b : Start) (room : List ℕ) (i : ℕ) (image store sheets answers : List ℕ) (g : Going b room i image store sheets answers) where
  -- it stays an image
  pub still_image : is_image image ≡ true
  still_image = ap is_image g.tables ∙ encode_is_image (met b i).tables

  pub ends : (n : ℕ) → i ≡ n → length b.sheets ≡ 64 * n → length room ≡ answer_width * n → AllServed b n image store sheets answers
  ends n e a c = record {
    tables = g.tables ∙ ap (λ (m : ℕ). encode (met b m).tables) e;
    decoded = g.decoded ∙ ap (λ (m : ℕ). (met b m).tables) e;
    store = g.store ∙ ap (λ (m : ℕ). (met b m).store) e;
    sheets = written_all 64 (sheet_part b) b.sheets i sheets g.sheets n e a;
    answers = written_all answer_width (answer_part b) room i answers g.answers n e c;
  }

  -- what is lent for the i-th request's sheet is its sheet
  pub lent_sheet : (k : ℕ) → k ≡ 64 → take k (drop (64 * i) sheets) ≡ sheet_at i b.sheets
  unfolding sheet_at
  lent_sheet k e = written_next 64 (sheet_part b) b.sheets i sheets g.sheets (64 * i) k refl e

  module _ (k : ℕ) (whole : k ≡ 64) (wide : length (take k (drop (64 * i) sheets)) ≡ 64) (r : Request) (is : r ≡ request_at i b.requests)
      (a : Answer) (image' store' sheet' : List ℕ)
      (leaves : LeavesLent (serve (state_of (decode image) store (take k (drop (64 * i) sheets))) r) a image' store' sheet') where
    met_here : state_of (decode image) store (take k (drop (64 * i) sheets)) ≡ met b i
    met_here j = record { tables = g.decoded j; store = g.store j; sheet = (lent_sheet k whole ∙ sym (met_sheet b i)) j }

    here : LeavesLent (outcome_at b i) a image' store' sheet'
    unfolding outcome_at
    here =
        same_outcome (is_served (decode image) store (take k (drop (64 * i) sheets)) r g.long wide g.order ∙ λ j. step (met_here j) (is j)) leaves

    left : state_of (outcome_at b i).state.tables (outcome_at b i).state.store (sheet_at (suc i) b.sheets) ≡ met b (i + 1)
    unfolding met outcome_at
    left = rw add-one

    still_in_order : in_order (met b (i + 1)).tables ≡ true
    unfolding outcome_at
    still_in_order =
        ap (λ (s : State). in_order s.tables) (sym left)
        ∙ step_keeps_order (met b i) (request_at i b.requests) (subst Sized g.decoded (decoded_sized image)) (ap in_order (sym g.decoded) ∙ g.order)

    pub next : (n k' : ℕ) (answer' : List ℕ) → length store' ≡ 16384 → length sheet' ≡ 64 → i < n → length b.sheets ≡ 64 * n
        → length room ≡ answer_width * n → k' ≡ answer_width → answer' ≡ answer_numbers a
        → Going b room (i + 1) image' store' (put_mid (64 * i) k sheets sheet') (put_mid (answer_width * i) k' answers answer')
    next n k' answer' long kept more x y all put =
        let read : decode image' ≡ (met b (i + 1)).tables = here.decoded ∙ ap (λ (s : State). s.tables) left in
        record {
          tables = here.tables ∙ ap (λ (s : State). encode s.tables) left;
          decoded = read;
          store = here.store ∙ ap (λ (s : State). s.store) left;
          long = long;
          sheets = written_more 64 (sheet_part b) b.sheets i sheets g.sheets (64 * i) k sheet' refl whole
              (ap length (sym here.sheet) ∙ kept) (omega arith) here.sheet;
          answers = written_more answer_width (answer_part b) room i answers g.answers (answer_width * i) k' answer' refl all (answer_long (outcome_at b i).answer)
              (omega arith) (put ∙ ap answer_numbers here.answer);
          order = ap in_order read ∙ still_in_order;
        }
