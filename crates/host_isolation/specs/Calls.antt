-- Demand 3 for a host: isolation over any calls of the C boundary. A dock is two buffers of the host's, the tables' image and the store; each
-- call finds them as the one before left them, and leaves what its contract says: `empty_image`, `step_image`, `batch`, `trace_lent`, `load_lent`.
-- The claims are `IsolatedForHosts`, of docks that were emptied, and `IsolatedFromLoadedForHosts`, of docks that loaded a text; that no call of
-- others makes a dock refuse is `UsableForHosts`, `UsableFromLoaded`, and `UsableInOrder` of tables of any origin.
-- The first is false of three wrong hosts, by computed examples (proofs/WrongHosts): one that lends two copies of its dock in turn, so that a
-- call does not meet what the last one left; one that puts back the bytes that a refused request met, which on 12 are not those that it left;
-- one that counts requests across an emptying. What is asked where a text is loaded counts too (proofs/LoadedPremises).
use Rattle.std.specs.Prelude.{ℕ, ◌*◌, ◌≤◌, ◌<◌, ◌≡◌, ◌↔◌, Bool, true, false, not, ◌&&◌, ◌||◌, cond, List, [], ◌∷◌, ◌++◌, leb, eqb, length, get_or, take, drop}
use Rattle.lists.specs.Lists.{all, some}
use Rattle.lists.specs.Parts.{tabulate}
use Rattle.machine.specs.declared.Request.{Request}
use Rattle.machine.specs.State.{State, Outcome, sheet_at}
use Rattle.machine.specs.Numbers.{request_width, request_of, answer_width, answer_numbers}
use Rattle.machine.specs.Sequence.{Group, from_group, crosses}
use Rattle.machine.specs.Isolation.{ForEvery, Unlinked}
use Rattle.image.specs.Layout.{image_size}
use Rattle.text.specs.Reading.{lines}
use Rattle.text.specs.Names.{behind_names}
use Rattle.trace_texts.specs.Line.{in_form, sent_by}
use Rattle.trace_texts.specs.Trace.{trace_room, served_by, left_by_line, input_ok}
use Rattle.lending.specs.Numbers.{request_at, count_of}
use Rattle.lending.specs.Batch.{Buffers, buffers_of, Left, batch_refusal, batch}
use Rattle.lending.specs.Host.{empty_image, step_refusal, step_image, order_of, check_image}
use Rattle.text_marks.specs.Marks.{mark_bytes}
use Rattle.report.specs.Report.{report_room}
use Rattle.lending.specs.Report.{ReportBuffers, report_buffers, report_refusal, report_lent}
use Rattle.lending.specs.Trace.{TraceBuffers, trace_buffers, dock_of, trace_refusal, trace_lent}
use Rattle.saved.specs.Save.{saved_room}
use Rattle.saved.specs.Load.{load}
use Rattle.lending.specs.Saved.{SaveBuffers, save_buffers, save_refusal, save_lent, load_lent}

-- ---- a host's dock, and its calls
pub record Dock : Type 0 where
  pub image : List ℕ
  pub store : List ℕ

pub record WholeDock (d : Dock) : Type 0 where
  pub image : length d.image ≡ image_size
  pub store : length d.store ≡ 16384

-- dock_empty, dock_step, dock_serve, dock_trace, dock_report, dock_save, dock_load, dock_check and dock_in_order, with all that each is handed
-- beside the dock: buffers of any lengths, any numbers
pub data Call : Type 0 where
  emptying : Call
  stepping : (sheet request answer : List ℕ) → Call
  serving : (sheets requests answers : List ℕ) → Call
  tracing : (input output : List ℕ) → Call
  reporting : (scratch output : List ℕ) → Call
  saving : (output : List ℕ) → Call
  loading : (text : List ℕ) → Call
  checking : (pad program number sheet right : ℕ) → Call
  testing : Call

abbrev pub lent : Dock → List ℕ → List ℕ → List ℕ → Buffers
lent d sheets requests answers = buffers_of d.image d.store sheets requests answers

abbrev pub lent_trace : Dock → List ℕ → List ℕ → TraceBuffers
lent_trace d input output = trace_buffers d.image d.store input output

abbrev pub lent_report : Dock → List ℕ → List ℕ → ReportBuffers
lent_report d scratch output = report_buffers d.image scratch output

abbrev pub lent_save : Dock → List ℕ → SaveBuffers
lent_save d output = save_buffers d.image output

-- the number that comes back
unfoldable pub result : Dock → Call → ℕ
result d emptying = (empty_image d.image d.store).result
result d (stepping sheet request answer) = (step_image (lent d sheet request answer)).result
result d (serving sheets requests answers) = (batch (lent d sheets requests answers)).result
result d (tracing input output) = (trace_lent (lent_trace d input output)).result
result d (reporting scratch output) = (report_lent (lent_report d scratch output)).result
result d (saving output) = (save_lent (lent_save d output)).result
result d (loading text) = (load_lent d.image text).result
result d (checking pad program number sheet right) = check_image d.image pad program number sheet right
result d testing = order_of d.image

-- the dock afterwards; the report, saving, the check and the order test only read it, and loading leaves the store
abbrev pub dock_in : Left → Dock
dock_in l = record { image = l.tables; store = l.store }

unfoldable pub left : Dock → Call → Dock
left d emptying = let e = empty_image d.image d.store in record { image = e.tables; store = e.store }
left d (stepping sheet request answer) = dock_in (step_image (lent d sheet request answer))
left d (serving sheets requests answers) = dock_in (batch (lent d sheets requests answers))
left d (tracing input output) = let l = trace_lent (lent_trace d input output) in record { image = l.tables; store = l.store }
left d (reporting scratch output) = d
left d (saving output) = d
left d (loading text) = record { image = (load_lent d.image text).tables; store = d.store }
left d (checking pad program number sheet right) = d
left d testing = d

unfoldable pub left_by_all : Dock → List Call → Dock
left_by_all d [] = d
left_by_all d (c ∷ cs) = left_by_all (left d c) cs

-- ---- the requests that a call makes: each with its sheet buffer, its answer's numbers, and the sheet buffer that it leaves
pub record Exchange : Type 0 where
  pub request : Request
  pub sheet : List ℕ
  pub answer : List ℕ
  pub left : List ℕ

unfoldable pub in_step : List ℕ → List ℕ → Left → Exchange
in_step sheet request l = record { request = request_of request; sheet = sheet; answer = l.answers; left = l.sheets }

-- the i-th of a batch, by its place in each buffer
unfoldable pub in_batch : List ℕ → List ℕ → Left → ℕ → Exchange
in_batch sheets requests l i = record {
  request = request_at i requests;
  sheet = sheet_at i sheets;
  answer = take answer_width (drop (answer_width * i) l.answers);
  left = sheet_at i l.sheets;
}

-- a line of a trace, which has no buffers of numbers: its request and fill, and the outcome that its line of the output is written from
unfoldable pub in_line : List ℕ → Outcome → Exchange
in_line line o = record { request = (sent_by line).request; sheet = (sent_by line).sheet; answer = answer_numbers o.answer; left = o.state.sheet }

-- the lines of a trace, from the state s on; one of another form makes no request
unfoldable pub in_lines : State → List (List ℕ) → List Exchange
in_lines s [] = []
in_lines s (line ∷ later) =
    let rest = in_lines (left_by_line s line) later in
    cond (in_form line) (in_line line (served_by s line) ∷ rest) rest

-- a call that is refused for its buffers (13, 14, 17) makes none, nor does a trace whose input is too long or has wrong names
unfoldable pub made : Dock → Call → List Exchange
made d emptying = []
made d (stepping sheet request answer) =
    let b = lent d sheet request answer in
    cond (eqb (step_refusal b) 0) (in_step sheet request (step_image b) ∷ []) []
made d (serving sheets requests answers) =
    let b = lent d sheets requests answers in
    cond (eqb (batch_refusal b) 0) (tabulate (count_of requests) (in_batch sheets requests (batch b))) []
made d (tracing input output) =
    let served = in_lines (dock_of d.image d.store) (behind_names (lines input)) in
    cond (eqb (trace_refusal (lent_trace d input output)) 0 && input_ok input) served []
made d (reporting scratch output) = []
made d (saving output) = []
made d (loading text) = []
made d (checking pad program number sheet right) = []
made d testing = []

-- ---- the requests of many calls, in their order: "Both begin alike, with the tables and store that emptying leaves", or "from the same loaded
-- tables and one common store", so that what was before the last emptying or loading is no part of the sequence
abbrev pub empties : Call → Bool
empties emptying = true
empties (stepping sheet request answer) = false
empties (serving sheets requests answers) = false
empties (tracing input output) = false
empties (reporting scratch output) = false
empties (saving output) = false
empties (loading text) = false
empties (checking pad program number sheet right) = false
empties testing = false

abbrev pub loads : Call → Bool
loads emptying = false
loads (stepping sheet request answer) = false
loads (serving sheets requests answers) = false
loads (tracing input output) = false
loads (reporting scratch output) = false
loads (saving output) = false
loads (loading text) = true
loads (checking pad program number sheet right) = false
loads testing = false

abbrev pub begins : Call → Bool
begins c = empties c || loads c

unfoldable pub exchanges : Dock → List Call → List Exchange
exchanges d [] = []
exchanges d (c ∷ cs) =
    let later = exchanges (left d c) cs in
    cond (some begins cs) later (made d c ++ later)

unfoldable pub none_crosses : Group → List Exchange → Bool
none_crosses g xs = all (λ x. not (crosses g x.request)) xs

-- the group's part of it
unfoldable pub of_group : Group → List Exchange → List Exchange
of_group g [] = []
of_group g (x ∷ xs) = let later = of_group g xs in cond (from_group g x.request) (x ∷ later) later

-- ---- "the group's n-th requests agree in their numbers, and a write's in those 64 bytes; a take gets 11 in both or in neither."
pub record Given (a b : Exchange) : Type 0 where
  pub numbers : a.request ≡ b.request
  pub written : a.request.op ≡ 6 → a.sheet ≡ b.sheet
  pub eleven : a.request.op ≡ 1 → (get_or a.answer 0 0 ≡ 11) ↔ (get_or b.answer 0 0 ≡ 11)

-- "their answers agree in every number, and accepted reads in the 64 bytes they leave"
pub record Agree (a b : Exchange) : Type 0 where
  pub answers : a.answer ≡ b.answer
  pub read : a.request.op ≡ 5 → get_or a.answer 0 0 ≡ 0 → a.left ≡ b.left

-- two hosts' requests: "Given: no pass in either sequence crosses the edge. Given also, for every n: .. Then, for every n, .."
abbrev pub Isolated : Group → List Exchange → List Exchange → Type 0
Isolated g xs ys =
    none_crosses g xs ≡ true → none_crosses g ys ≡ true
    → ForEvery Given (of_group g xs) (of_group g ys) → ForEvery Agree (of_group g xs) (of_group g ys)

-- ---- the claim: two hosts, each with a dock of its own that it empties, whatever that held and however long it is; then any calls but loads,
-- refused ones and further emptyings included
abbrev pub IsolatedForHosts : Type 0
IsolatedForHosts =
    (g : Group) (d e : Dock) (cs ds : List Call) → some loads cs ≡ false → some loads ds ≡ false
    → Isolated g (exchanges d (emptying ∷ cs)) (exchanges e (emptying ∷ ds))

-- "The isolation rule may now also begin, in both sequences, from the same loaded tables and one common store, where no parent, recall or
-- entry link joins the group to others." Whatever the images held, of any lengths; a text that is refused gives empty tables to both.
abbrev pub IsolatedFromLoadedForHosts : Type 0
IsolatedFromLoadedForHosts =
    (g : Group) (text : List ℕ) (d e : Dock) (cs ds : List Call) → d.store ≡ e.store → Unlinked g (load text).tables
    → some begins cs ≡ false → some begins ds ≡ false → Isolated g (exchanges d (loading text ∷ cs)) (exchanges e (loading text ∷ ds))

-- that both speak of calls behind one beginning leaves none out: of what was called before it only the dock counts that was left
abbrev pub BegunAnew : Type 0
BegunAnew =
    (d : Dock) (before : List Call) (c : Call) (cs : List Call) → begins c ≡ true
    → exchanges d (before ++ c ∷ cs) ≡ exchanges (left_by_all d before) (c ∷ cs)

-- ---- A call that is refused makes no request, so that the claims are silent about it. That others cannot bring about a refusal is said here:
-- 14 never comes, as a result or in an answer, but from a text that is loaded; 13, 16 and 17 only where a buffer that is handed in beside the
-- dock has another length, and 18 for the text itself. A lent buffer holds bytes, so that last numbers have 16 bits.
pub record Usable (d : Dock) : Type 0 where
  pub whole : WholeDock d
  pub never14 : (c : Call) → loads c ≡ false → result d c ≡ 14 → ⊥
  pub answered : (c : Call) → all (λ x. leb (get_or x.answer 0 0) 12) (made d c) ≡ true
  pub emptied : result d emptying ≡ 0
  pub stepped : (sheet request answer : List ℕ) → length sheet ≡ 64 → length request ≡ request_width → length answer ≡ answer_width
      → step_refusal (lent d sheet request answer) ≡ 0
  pub served : (n : ℕ) (sheets requests answers : List ℕ) → length sheets ≡ 64 * n → length requests ≡ request_width * n → length answers ≡ answer_width * n
      → batch_refusal (lent d sheets requests answers) ≡ 0
  pub traced : (input output : List ℕ) → trace_room ≤ length output → trace_refusal (lent_trace d input output) ≡ 0
  pub reported : (scratch output : List ℕ) → length scratch ≡ mark_bytes → report_room ≤ length output → report_refusal (lent_report d scratch output) ≡ 0
  pub saved : ((i : ℕ) → get_or d.image i 0 < 256) → (output : List ℕ) → saved_room ≤ length output → save_refusal (lent_save d output) ≡ 0
  pub loaded : (text : List ℕ) → result d (loading text) ≡ (load text).result

abbrev pub UsableForHosts : Type 0
UsableForHosts = (d : Dock) → WholeDock d → (cs : List Call) → Usable (left_by_all d (emptying ∷ cs))

-- the same of a dock that loaded a text, one that was refused included
abbrev pub UsableFromLoaded : Type 0
UsableFromLoaded = (d : Dock) → WholeDock d → (text : List ℕ) (cs : List Call) → Usable (left_by_all d (loading text ∷ cs))

-- Since every request keeps the order, for tables of any origin (02, 1/13), so it is of a dock that a host kept, once its order test answered 0
abbrev pub UsableInOrder : Type 0
UsableInOrder = (d : Dock) → WholeDock d → ((i : ℕ) → get_or d.image i 0 < 256) → result d testing ≡ 0 → (cs : List Call) → Usable (left_by_all d cs)
