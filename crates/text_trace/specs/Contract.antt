-- What the routines below `trace` are lent and leave: a line of the input as it is read; and a dock as the image of its tables and its
-- store, from line to line.
use Rattle.std.specs.Prelude.{ℕ, ◌+◌, ◌≤◌, ◌≡◌, true, cond, List, length, Option, Some, None}
use Rattle.tables.specs.Order.{in_order}
use Rattle.machine.specs.State.{State}
use Rattle.machine.specs.Numbers.{request_of}
use Rattle.image.specs.Image.{encode, decode, is_image}
use Rattle.text.specs.Reading.{values_of}
use Rattle.trace_texts.specs.Line.{fill_of, in_form}
use Rattle.trace_texts.specs.Trace.{longest_input}
use Rattle.text_trace.specs.declared.Asked.{Asked}

-- what a line in form asks for
unfoldable pub asked_in : List ℕ → Option Asked
asked_in line =
    let values = values_of line in
    cond (in_form line) (Some (record { request = request_of values; fill = fill_of values })) None

-- an image of tables in order, and a store of 256 sheets
pub record Servable (image bytes : List ℕ) : Type 0 where
  pub is : is_image image ≡ true
  pub order : in_order (decode image) ≡ true
  pub store : length bytes ≡ 16384

-- the lines of an input from `start` on: one stands in front of them, and they are few enough for their numbers
pub record LinesFrom (start : ℕ) (input : List ℕ) : Type 0 where
  pub short : length input ≤ longest_input
  pub first : 1 ≤ start
  pub inside : start ≤ length input + 1

-- the image and the store of a state
pub record LeavesDock (s : State) (image bytes : List ℕ) : Type 0 where
  pub tables : image ≡ encode s.tables
  pub decoded : decode image ≡ s.tables
  pub store : bytes ≡ s.store
