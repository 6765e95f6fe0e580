-- A batch: requests served one after the other over the buffers that a host lends, the tables as their image.
use Rattle.std.specs.Prelude.{ℕ, ◌*◌, ◌/◌, ◌≡◌, Bool, not, ◌&&◌, cond, List, eqb, length}
use Rattle.tables.specs.Order.{in_order}
use Rattle.machine.specs.Numbers.{request_width, answer_width}
use Rattle.machine.specs.Refusal.{◌when◌else◌}
use Rattle.image.specs.Layout.{image_size}
use Rattle.image.specs.Image.{encode, decode, is_image}
use Rattle.lending.specs.Numbers.{count_of}
use Rattle.lending.specs.Sequence.{Start, met, sheets_of, answers_of}

-- for n requests: n sheets, the numbers of n requests and of n answers
pub record Buffers : Type 0 where
  pub tables : List ℕ
  pub store : List ℕ
  pub sheets : List ℕ
  pub requests : List ℕ
  pub answers : List ℕ

-- ---- when a batch is refused
-- the lengths go with one number of requests
unfoldable pub lengths_fit : ℕ → ℕ → ℕ → ℕ → ℕ → Bool
lengths_fit tables store sheets requests answers =
    let n = requests / request_width in
    eqb tables image_size && eqb store 16384 && eqb sheets (64 * n) && eqb requests (request_width * n) && eqb answers (answer_width * n)

abbrev pub buffers_fit : Buffers → Bool
buffers_fit b = lengths_fit (length b.tables) (length b.store) (length b.sheets) (length b.requests) (length b.answers)

-- the bytes are an image, and its tables are in order
unfoldable pub tables_ok : List ℕ → Bool
tables_ok bytes = let order = in_order (decode bytes) in is_image bytes && order

-- 13 a buffer has another length; 14 the bytes are no tables, or tables that are not in order
unfoldable pub batch_refusal : Buffers → ℕ
batch_refusal b =
    let order = tables_ok b.tables in
    13 when not (buffers_fit b) else
    14 when not order else
    0

-- ---- what it leaves; the requests are only read
pub record Left : Type 0 where
  pub result : ℕ
  pub tables : List ℕ
  pub store : List ℕ
  pub sheets : List ℕ
  pub answers : List ℕ

abbrev pub start_of : Buffers → Start
start_of b = record { tables = decode b.tables; store = b.store; sheets = b.sheets; requests = b.requests }

unfoldable pub all_served : Buffers → Left
all_served b =
    let n = count_of b.requests in
    record {
      result = 0;
      tables = encode (met (start_of b) n).tables;
      store = (met (start_of b) n).store;
      sheets = sheets_of (start_of b) n;
      answers = answers_of (start_of b) n;
    }

unfoldable pub untouched : Buffers → ℕ → Left
untouched b result = record { result = result; tables = b.tables; store = b.store; sheets = b.sheets; answers = b.answers }

-- a batch that is refused changes nothing
unfoldable pub batch : Buffers → Left
batch b =
    let refusal = batch_refusal b in
    let served = all_served b in
    let refused = untouched b refusal in
    cond (eqb refusal 0) served refused

-- ---- contracts
abbrev pub buffers_of : List ℕ → List ℕ → List ℕ → List ℕ → List ℕ → Buffers
buffers_of tables store sheets requests answers =
    record { tables = tables; store = store; sheets = sheets; requests = requests; answers = answers }

-- what a call leaves, field by field; and that the image is read as the tables that the last request left
pub record Leaves (b : Buffers) (result' : ℕ) (tables' store' sheets' answers' : List ℕ) : Type 0 where
  pub result : result' ≡ (batch b).result
  pub tables : tables' ≡ (batch b).tables
  pub store : store' ≡ (batch b).store
  pub sheets : sheets' ≡ (batch b).sheets
  pub answers : answers' ≡ (batch b).answers
  pub decoded : result' ≡ 0 → decode tables' ≡ (met (start_of b) (count_of b.requests)).tables
