-- The trace over a dock that a host lends, into an output that it lends: the trace program's texts, from the tables and the store as they are.
use Rattle.std.specs.Prelude.{ℕ, ◌≡◌, not, ◌&&◌, cond, List, leb, eqb, length, replicate}
use Rattle.machine.specs.State.{State, state_of}
use Rattle.machine.specs.Refusal.{◌when◌else◌}
use Rattle.image.specs.Layout.{image_size}
use Rattle.image.specs.Image.{encode, decode}
use Rattle.text.specs.Writing.{written}
use Rattle.trace_texts.specs.Trace.{trace_from, after_trace}
use Rattle.lending.specs.Batch.{tables_ok}

pub record TraceBuffers : Type 0 where
  pub tables : List ℕ
  pub store : List ℕ
  pub input : List ℕ
  pub output : List ℕ

-- the state that an image and a store are; each line of a trace brings a sheet buffer of its own
abbrev pub dock_of : List ℕ → List ℕ → State
dock_of image store = state_of (decode image) store (replicate 64 0)

abbrev pub trace_of : TraceBuffers → List ℕ
trace_of b = trace_from (dock_of b.tables b.store) b.input

abbrev pub state_after : TraceBuffers → State
state_after b = after_trace (dock_of b.tables b.store) b.input

-- 13 tables or store have another length; 14 the bytes are no tables, or tables that are not in order; 17 the output is too short for the
-- whole trace
unfoldable pub trace_refusal : TraceBuffers → ℕ
trace_refusal b =
    let order = tables_ok b.tables in
    let fits = leb (length (trace_of b)) (length b.output) in
    13 when not (eqb (length b.tables) image_size && eqb (length b.store) 16384) else
    14 when not order else
    17 when not fits else
    0

-- ---- what it leaves; the input is only read
pub record TraceLeft : Type 0 where
  pub result : ℕ
  pub tables : List ℕ
  pub store : List ℕ
  pub output : List ℕ
  pub size : ℕ

-- "One written into a lent output changes only its own bytes; the answer carries its length, 0 with a refusal, which leaves the output
-- unchanged." A refusal leaves tables and store unchanged too.
unfoldable pub trace_lent : TraceBuffers → TraceLeft
trace_lent b =
    let refusal = trace_refusal b in
    let served : TraceLeft = record {
      result = 0;
      tables = encode (state_after b).tables;
      store = (state_after b).store;
      output = written (trace_of b) b.output;
      size = length (trace_of b);
    } in
    let refused : TraceLeft = record { result = refusal; tables = b.tables; store = b.store; output = b.output; size = 0 } in
    cond (eqb refusal 0) served refused

-- ---- contracts
abbrev pub trace_buffers : List ℕ → List ℕ → List ℕ → List ℕ → TraceBuffers
trace_buffers tables store input output = record { tables = tables; store = store; input = input; output = output }

-- what a call leaves, field by field; and that the image is read as the tables that the last line left
pub record TracesLent (b : TraceBuffers) (result' : ℕ) (tables' store' output' : List ℕ) (size' : ℕ) : Type 0 where
  pub result : result' ≡ (trace_lent b).result
  pub tables : tables' ≡ (trace_lent b).tables
  pub store : store' ≡ (trace_lent b).store
  pub output : output' ≡ (trace_lent b).output
  pub size : size' ≡ (trace_lent b).size
  pub decoded : result' ≡ 0 → decode tables' ≡ (state_after b).tables
