-- A batch on a dock that stands for a state. By `outcome_in_sequence` its i-th outcome is the step's in the sequence of its requests; what lies
-- at the i-th place of the sheets and of the answers that it leaves is that outcome's.
use Prim.Native.Nat.{ℕ, zero, suc, ◌*◌, ◌≤◌, ◌<◌}
use native.Mathlib.Omega.{arith}
use mathlib.Core.Path.{◌≡◌, refl, sym, ap, ◌∙◌}
use mathlib.Core.Bool.{true, false, not}
use mathlib.Core.List.{List, [], ◌∷◌, ◌++◌}
use lib.Dec.{eqb}
use lib.ListN.{length, take, drop, replicate, length-append, length-replicate}
use lib.Seq.{take_at, length-take-le}
use borrow.Author.Tests.{eqb-true, not-false}
use Rattle.lists.specs.Parts.{tabulate, joined}
use Rattle.lists.proofs.PartLaws.{tabulate_last, joined_at}
use Rattle.lists.proofs.Tests.{Case, pass, fail, case}
use Rattle.machine.specs.State.{State, Outcome, sheet_at}
use Rattle.machine.specs.Numbers.{answer_width, answer_numbers}
use Rattle.machine.specs.Refusal.{◌when◌else◌}
use Rattle.machine.specs.Step.{step}
use Rattle.machine.specs.Sequence.{Sent, enter, after}
use Rattle.machine.proofs.RefusalLaws.{when_past}
use Rattle.preservation.specs.InOrder.{DockOk}
use Rattle.preservation.proofs.StoreSheets.{sheet_long}
use Rattle.preservation.proofs.StepKeepsOrder.{sequence_keeps}
use Rattle.preservation.proofs.SheetKept.{step_keeps_sheet}
use Rattle.image.specs.Image.{encode}
use Rattle.lending.specs.Numbers.{request_at, count_of}
use Rattle.lending.specs.Sequence.{Start, met, outcome_at}
use Rattle.lending.specs.Batch.{Buffers, Left, buffers_fit, tables_ok, batch_refusal, start_of, all_served, untouched, batch}
use Rattle.lending.proofs.Lengths.{answer_long, Fit, fit}
use Rattle.lending.proofs.IsSequence.{after_append, outcome_in_sequence}
use Rattle.host_isolation.specs.Calls.{Dock, serving, lent, left, in_batch, made}
use Rattle.host_isolation.proofs.Traced.{seen_by, traced, traced_append, traced_same, after_tables, after_store}
use Rattle.host_isolation.proofs.Stands.{Stands, decoded}
use Rattle.host_isolation.proofs.OneCall.{Makes, nothing_made}

-- 64 bytes: what there is, then zeros
unfoldable pub filled : List ℕ → List ℕ
filled l = take 64 (l ++ replicate 64 0)

pub filled_long : (l : List ℕ) → length (filled l) ≡ 64
unfolding filled
filled_long l =
    length-take-le 64 (l ++ replicate 64 0) (omega (arith, length-append l (replicate 64 0), length-replicate {A = ℕ} 64 0))

filled_whole : (l : List ℕ) → length l ≡ 64 → filled l ≡ l
unfolding filled
filled_whole l e = take_at l (replicate 64 0) 64 e

-- ---- the batch
module _ (d : Dock) (sheets requests answers : List ℕ) where
  abbrev b : Buffers
  b = lent d sheets requests answers

  batch_refused : eqb (batch_refusal b) 0 ≡ false → made d (serving sheets requests answers) ≡ []
  unfolding made
  batch_refused e = rw e

  batch_untouched : eqb (batch_refusal b) 0 ≡ false → left d (serving sheets requests answers) ≡ d
  unfolding left batch untouched
  batch_untouched e = rw e

  fits : batch_refusal b ≡ 0 → Fit (length d.image) (length d.store) (length sheets) (length requests) (length answers)
  unfolding batch_refusal
  fits e =
      let past = when_past 13 (not (buffers_fit b)) (14 when not (tables_ok d.image) else 0) 0 (λ z. omega arith) e in
      fit (length d.image) (length d.store) (length sheets) (length requests) (length answers) (not-false _ past.0)

  abbrev n : ℕ
  n = count_of requests

  abbrev st : Start
  st = start_of b

  unfoldable pub sent_at : ℕ → Sent
  sent_at i = record { request = request_at i requests; sheet = filled (sheet_at i sheets); whole = filled_long (sheet_at i sheets) }

  abbrev pub sent_to : ℕ → List Sent
  sent_to m = joined m (λ j. sent_at j ∷ [])

  module _ (s : State) (h : Stands d s) (e : eqb (batch_refusal b) 0 ≡ true) where
    long : length sheets ≡ 64 * n
    long = (fits (eqb-true (batch_refusal b) 0 e)).sheets

    requests_same : (i : ℕ) → i < n → (sent_at i).request ≡ request_at i st.requests
    unfolding sent_at
    requests_same i low = refl

    sheets_same : (i : ℕ) → i < n → (sent_at i).sheet ≡ sheet_at i st.sheets
    unfolding sent_at
    sheets_same i low = filled_whole (sheet_at i sheets) (sheet_long sheets n i long low)

    same_outcome : (i : ℕ) → i < n → outcome_at st i ≡ step (enter (after (met st 0) (sent_to i)) (sent_at i)) (sent_at i).request
    same_outcome i low = outcome_in_sequence st n sent_at requests_same sheets_same i low

    -- the state before the first
    first_tables : (met st 0).tables ≡ s.tables
    unfolding met
    first_tables = decoded d s h

    first_store : (met st 0).store ≡ s.store
    unfolding met
    first_store = h.store

    first_ok : DockOk (met st 0)
    first_ok = record { tables = rw first_tables h.ok.tables; store = rw first_store h.ok.store }

    -- the sheet buffer that each leaves has 64 bytes
    sheet_wide : (i : ℕ) → i < n → length (outcome_at st i).state.sheet ≡ 64
    unfolding enter
    sheet_wide i low =
        let ok = sequence_keeps (met st 0) first_ok (sent_to i) in
        rw (same_outcome i low)
        (step_keeps_sheet (enter (after (met st 0) (sent_to i)) (sent_at i)) (sent_at i).request
        (record { tables = ok.tables; store = ok.store }) (sent_at i).whole)

    served : batch b ≡ all_served b
    unfolding batch
    served = rw e

    left_at : (i : ℕ) → i < n → sheet_at i (batch b).sheets ≡ (outcome_at st i).state.sheet
    unfolding sheet_at all_served
    left_at i low =
        ap (λ (l : Left). take 64 (drop (64 * i) l.sheets)) served
        ∙ joined_at 64 (λ j. (outcome_at st j).state.sheet) n sheet_wide i low

    answer_at : (i : ℕ) → i < n → take answer_width (drop (answer_width * i) (batch b).answers) ≡ answer_numbers (outcome_at st i).answer
    unfolding all_served
    answer_at i low =
        ap (λ (l : Left). take answer_width (drop (answer_width * i) l.answers)) served
        ∙ joined_at answer_width (λ j. answer_numbers (outcome_at st j).answer) n (λ j k. answer_long (outcome_at st j).answer) i low

    -- the i-th exchange
    exchange_at : (i : ℕ) → i < n → in_batch sheets requests (batch b) i ≡ seen_by (sent_at i) (outcome_at st i)
    unfolding in_batch sent_at
    exchange_at i low j = record {
      request = request_at i requests;
      sheet = sym (sheets_same i low) j;
      answer = answer_at i low j;
      left = left_at i low j;
    }

    -- the first m of them
    exchanges_to : (m : ℕ) → m ≤ n → tabulate m (in_batch sheets requests (batch b)) ≡ traced (met st 0) (sent_to m)
    unfolding tabulate joined traced
    exchanges_to zero low = refl
    exchanges_to (suc m) low =
        let last : in_batch sheets requests (batch b) m ≡ seen_by (sent_at m) (step (enter (after (met st 0) (sent_to m)) (sent_at m)) (sent_at m).request) =
        exchange_at m low ∙ ap (λ (o : Outcome). seen_by (sent_at m) o) (same_outcome m low) in
        tabulate_last m (in_batch sheets requests (batch b)) ∙ (λ j. exchanges_to m (omega arith) j ++ last j ∷ [])
        ∙ sym (traced_append (met st 0) (sent_to m) (sent_at m ∷ []))

    -- what they leave
    left_to : (m : ℕ) → m ≤ n → ((met st m).tables ≡ (after (met st 0) (sent_to m)).tables) × ((met st m).store ≡ (after (met st 0) (sent_to m)).store)
    unfolding met joined after outcome_at
    left_to zero low = (refl, refl)
    left_to (suc m) low =
        let o : (step (met st m) (request_at m requests)).state ≡ after (met st 0) (sent_to m ++ sent_at m ∷ []) =
        ap (λ (x : Outcome). x.state) (same_outcome m low) ∙ sym (after_append (met st 0) (sent_to m) (sent_at m ∷ [])) in
        (ap (λ (x : State). x.tables) o, ap (λ (x : State). x.store) o)

    pub batch_same : made d (serving sheets requests answers) ≡ traced s (sent_to n)
    unfolding made
    batch_same = rw e (exchanges_to n (omega arith) ∙ traced_same (met st 0) s first_tables first_store (sent_to n))

    left_tables : (left d (serving sheets requests answers)).image ≡ encode (after s (sent_to n)).tables
    unfolding left all_served
    left_tables =
        (λ j. (served j).tables) ∙ ap encode ((left_to n (omega arith)).0 ∙ after_tables (met st 0) s first_tables first_store (sent_to n))

    left_store : (left d (serving sheets requests answers)).store ≡ (after s (sent_to n)).store
    unfolding left all_served
    left_store = (λ j. (served j).store) ∙ (left_to n (omega arith)).1 ∙ after_store (met st 0) s first_tables first_store (sent_to n)

    batch_makes : Makes d (serving sheets requests answers) s
    batch_makes = record {
      sent = sent_to n;
      same = batch_same;
      stands = record { image = left_tables; store = left_store; ok = sequence_keeps s h.ok (sent_to n) };
    }

  pub serving_makes : (s : State) → Stands d s → Makes d (serving sheets requests answers) s
  serving_makes s h = go (case (eqb (batch_refusal b) 0))
    where
      go : Case (eqb (batch_refusal b) 0) → Makes d (serving sheets requests answers) s
      go (pass e) = batch_makes s h e
      go (fail e) = nothing_made d (serving sheets requests answers) s (batch_refused e) (batch_untouched e) h
