-- What the routines for hosts answer and leave, over the bytes that a host lends: document 01's emptying, step and check, with the tables
-- as their image. 13 where a buffer has another length; 14 where the bytes are no tables or tables that are not in order; both change
-- nothing.
use Rattle.std.specs.Prelude.{ℕ, ◌≡◌, not, ◌&&◌, cond, List, eqb, length}
use Rattle.tables.specs.Names.{name_of, empty_tables}
use Rattle.machine.specs.declared.{Request.Request, Answer.Answer}
use Rattle.machine.specs.State.{Outcome, answer_of, state_of}
use Rattle.machine.specs.Numbers.{request_width, request_of, answer_width, answer_numbers}
use Rattle.machine.specs.Refusal.{◌when◌else◌}
use Rattle.machine.specs.Dock.{dock_check}
use Rattle.machine.specs.Step.{step}
use Rattle.machine.specs.Empty.{emptied}
use Rattle.image.specs.Layout.{image_size}
use Rattle.image.specs.Image.{encode, decode, is_image}
use Rattle.lending.specs.Batch.{Buffers, Left, tables_ok, untouched}

-- ---- emptying
pub record EmptiedImage : Type 0 where
  pub result : ℕ
  pub tables : List ℕ
  pub store : List ℕ

unfoldable pub empty_image : List ℕ → List ℕ → EmptiedImage
empty_image tables store =
    let e = emptied store in
    let empty : EmptiedImage = record { result = e.result; tables = encode e.tables; store = e.store } in
    let refused : EmptiedImage = record { result = 13; tables = tables; store = store } in
    cond (eqb (length tables) image_size) empty refused

-- what a call leaves, field by field
pub record EmptiesImage (image bytes : List ℕ) (result' : ℕ) (tables' store' : List ℕ) : Type 0 where
  pub result : result' ≡ (empty_image image bytes).result
  pub tables : tables' ≡ (empty_image image bytes).tables
  pub store : store' ≡ (empty_image image bytes).store
  -- an image of its own length is read as "empty tables", with a store of another length too
  pub decoded : length image ≡ image_size → decode tables' ≡ empty_tables

-- ---- one request
unfoldable pub step_refusal : Buffers → ℕ
step_refusal b =
    let order = tables_ok b.tables in
    13 when not (eqb (length b.tables) image_size && eqb (length b.store) 16384 && eqb (length b.sheets) 64
    && eqb (length b.requests) request_width && eqb (length b.answers) answer_width) else
    14 when not order else
    0

-- the step on the tables that the image says; its outcome, with the tables as their image
unfoldable pub step_outcome : Buffers → Outcome
step_outcome b = step (state_of (decode b.tables) b.store b.sheets) (request_of b.requests)

unfoldable pub left_by : Outcome → Left
left_by o = record {
  result = o.answer.result;
  tables = encode o.state.tables;
  store = o.state.store;
  sheets = o.state.sheet;
  answers = answer_numbers o.answer;
}

unfoldable pub step_image : Buffers → Left
step_image b =
    let refusal = step_refusal b in
    let served = left_by (step_outcome b) in
    let refused = untouched b refusal in
    cond (eqb refusal 0) served refused

-- what a call leaves, field by field
pub record Steps (b : Buffers) (result' : ℕ) (tables' store' sheet' answer' : List ℕ) : Type 0 where
  pub result : result' ≡ (step_image b).result
  pub tables : tables' ≡ (step_image b).tables
  pub store : store' ≡ (step_image b).store
  pub sheet : sheet' ≡ (step_image b).sheets
  pub answer : answer' ≡ (step_image b).answers
  -- the image is read as the tables that the request leaves, so that the next call finds them "exactly as the one before it left them"
  pub decoded : step_refusal b ≡ 0 → decode tables' ≡ (step_outcome b).state.tables
  -- "Every refusal leaves tables .. untouched, except 12": byte for byte
  pub as_before : (result' ≡ 0 → ⊥) → (result' ≡ 12 → ⊥) → tables' ≡ b.tables

-- ---- one request as a caller in Rattle has it: a record in, a record out
unfoldable pub lent_refusal : List ℕ → ℕ → ℕ → ℕ
lent_refusal tables store sheet =
    let order = tables_ok tables in
    13 when not (eqb (length tables) image_size && eqb store 16384 && eqb sheet 64) else
    14 when not order else
    0

pub record Stepped : Type 0 where
  pub answer : Answer
  pub tables : List ℕ
  pub store : List ℕ
  pub sheet : List ℕ

unfoldable pub stepped_by : Outcome → Stepped
stepped_by o = record { answer = o.answer; tables = encode o.state.tables; store = o.state.store; sheet = o.state.sheet }

-- 13 and 14 change nothing
unfoldable pub step_lent : List ℕ → List ℕ → List ℕ → Request → Stepped
step_lent tables store sheet r =
    let refusal = lent_refusal tables (length store) (length sheet) in
    let served = stepped_by (step (state_of (decode tables) store sheet) r) in
    let refused : Stepped = record { answer = answer_of refusal 0 0; tables = tables; store = store; sheet = sheet } in
    cond (eqb refusal 0) served refused

-- what a call leaves, field by field; `decoded` and `as_before` as in `Steps`
pub record StepsLent (image bytes buffer : List ℕ) (r : Request) (a : Answer) (tables' store' sheet' : List ℕ) : Type 0 where
  pub answer : a ≡ (step_lent image bytes buffer r).answer
  pub tables : tables' ≡ (step_lent image bytes buffer r).tables
  pub store : store' ≡ (step_lent image bytes buffer r).store
  pub sheet : sheet' ≡ (step_lent image bytes buffer r).sheet
  pub decoded : lent_refusal image (length bytes) (length buffer) ≡ 0
      → decode tables' ≡ (step (state_of (decode image) bytes buffer) r).state.tables
  pub as_before : (a.result ≡ 0 → ⊥) → (a.result ≡ 12 → ⊥) → tables' ≡ image

-- ---- the order test and the dock's own check
unfoldable pub order_of : List ℕ → ℕ
order_of tables =
    let order = tables_ok tables in
    13 when not (eqb (length tables) image_size) else
    14 when not order else
    0

unfoldable pub check_image : List ℕ → ℕ → ℕ → ℕ → ℕ → ℕ → ℕ
check_image tables pad program number sheet right =
    let later = dock_check (decode tables) (name_of pad program number) sheet right in
    13 when not (eqb (length tables) image_size) else
    14 when not (is_image tables) else
    later
