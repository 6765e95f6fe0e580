-- Laws of what dock_step, dock_serve, dock_trace, dock_empty and dock_load leave, for every input, tables not in order included: the image is
-- read as the tables that the call leaves, and a refusal leaves the bytes exactly as they were, but for 12 and a text that is turned away.
use Rattle.std.specs.Prelude.{ℕ, ◌<◌, ◌≡◌, List, length, get_or}
use Rattle.tables.specs.Names.{empty_tables}
use Rattle.image.specs.Layout.{image_size}
use Rattle.image.specs.Image.{decode}
use Rattle.lending.specs.Numbers.{count_of}
use Rattle.lending.specs.Sequence.{met, outcome_at}
use Rattle.lending.specs.Batch.{Buffers, Left, batch_refusal, start_of, batch}
use Rattle.lending.specs.Host.{empty_image, step_refusal, step_outcome, step_image}
use Rattle.lending.specs.Trace.{TraceBuffers, state_after, trace_refusal, trace_lent}
use Rattle.saved.specs.Load.{load}
use Rattle.lending.specs.Saved.{load_lent}

-- what a lent buffer of bytes holds
abbrev pub AllBytes : List ℕ → Type 0
AllBytes l = (i : ℕ) → get_or l i 0 < 256

pub record AsBefore (b : Buffers) (l : Left) : Type 0 where
  pub tables : l.tables ≡ b.tables
  pub store : l.store ≡ b.store
  pub sheets : l.sheets ≡ b.sheets

-- "except 12, which drops tickets .., and only those"
pub record AfterStep (b : Buffers) : Type 0 where
  pub read : step_refusal b ≡ 0 → decode (step_image b).tables ≡ (step_outcome b).state.tables
  pub kept : AllBytes b.tables → ((step_image b).result ≡ 0 → ⊥) → ((step_image b).result ≡ 12 → ⊥) → AsBefore b (step_image b)
  pub store12 : (step_image b).result ≡ 12 → (step_image b).store ≡ b.store
  pub sheet12 : (step_image b).result ≡ 12 → (step_image b).sheets ≡ b.sheets
  pub answer : (step_refusal b ≡ 0 → ⊥) → (step_image b).answers ≡ b.answers

-- 12 is no result of a batch; of the requests in it, one that is answered other than 0 and 12 leaves what it met
pub record AfterServe (b : Buffers) : Type 0 where
  pub read : batch_refusal b ≡ 0 → decode (batch b).tables ≡ (met (start_of b) (count_of b.requests)).tables
  pub kept : ((batch b).result ≡ 0 → ⊥) → AsBefore b (batch b)
  pub answers : ((batch b).result ≡ 0 → ⊥) → (batch b).answers ≡ b.answers
  pub each : (i : ℕ) → ((outcome_at (start_of b) i).answer.result ≡ 0 → ⊥) → ((outcome_at (start_of b) i).answer.result ≡ 12 → ⊥)
      → (outcome_at (start_of b) i).state ≡ met (start_of b) i

pub record AfterTrace (b : TraceBuffers) : Type 0 where
  pub read : trace_refusal b ≡ 0 → decode (trace_lent b).tables ≡ (state_after b).tables
  pub tables : ((trace_lent b).result ≡ 0 → ⊥) → (trace_lent b).tables ≡ b.tables
  pub store : ((trace_lent b).result ≡ 0 → ⊥) → (trace_lent b).store ≡ b.store
  pub output : ((trace_lent b).result ≡ 0 → ⊥) → (trace_lent b).output ≡ b.output

-- "with another length, 13, empty tables and the store untouched": an image of its own length is emptied beside a store of another
pub record AfterEmpty (tables store : List ℕ) : Type 0 where
  pub read : length tables ≡ image_size → decode (empty_image tables store).tables ≡ empty_tables
  pub kept : ((empty_image tables store).result ≡ 0 → ⊥) → (empty_image tables store).store ≡ store
  pub other : (length tables ≡ image_size → ⊥) → (empty_image tables store).tables ≡ tables

-- "A refused load gives empty tables", but with 13 the bytes stay
pub record AfterLoad (tables text : List ℕ) : Type 0 where
  pub read : length tables ≡ image_size → decode (load_lent tables text).tables ≡ (load text).tables
  pub refused : length tables ≡ image_size → ((load_lent tables text).result ≡ 0 → ⊥) → decode (load_lent tables text).tables ≡ empty_tables
  pub other : (length tables ≡ image_size → ⊥) → (load_lent tables text).tables ≡ tables

pub record ImageLaws : Type 0 where
  pub step : (b : Buffers) → AfterStep b
  pub serve : (b : Buffers) → AfterServe b
  pub trace : (b : TraceBuffers) → AfterTrace b
  pub empty : (tables store : List ℕ) → AfterEmpty tables store
  pub load : (tables text : List ℕ) → AfterLoad tables text
