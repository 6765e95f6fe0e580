-- What the lent buffers must be, and what a served request leaves in them, field by field, as the machine's outcome.
use Rattle.std.specs.Prelude.{ℕ, ◌≡◌, true, List, length}
use Rattle.tables.specs.Order.{in_order}
use Rattle.machine.specs.declared.Answer.{Answer}
use Rattle.machine.specs.State.{Outcome}
use Rattle.image.specs.Image.{encode, decode, is_image}

pub record Lengths (bytes buffer : List ℕ) : Type 0 where
  pub store : length bytes ≡ 16384
  pub sheet : length buffer ≡ 64

-- an image in order, and buffers of the lengths that they must have
pub record ReadyToServe (image store sheet : List ℕ) : Type 0 where
  pub is : is_image image ≡ true
  pub order : in_order (decode image) ≡ true
  pub lengths : Lengths store sheet

-- the answer, and the buffers that are left; the image is read as the tables that the request leaves
pub record LeavesLent (o : Outcome) (a : Answer) (tables' store' sheet' : List ℕ) : Type 0 where
  pub answer : a ≡ o.answer
  pub tables : tables' ≡ encode o.state.tables
  pub decoded : decode tables' ≡ o.state.tables
  pub store : store' ≡ o.state.store
  pub sheet : sheet' ≡ o.state.sheet
