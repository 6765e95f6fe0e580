-- The step with buffers of their lengths: 14 where the tables are not in order, otherwise serving.
use Prim.Native.Nat.{ℕ}
use mathlib.Core.Path.{◌≡◌, sym}
use mathlib.Core.Bool.{true, false}
use mathlib.Core.List.{List}
use lib.ListN.{length}
use borrow.Author.Tests.{eq-eqb}
use Rattle.tables.specs.declared.Tables.{Tables}
use Rattle.tables.specs.Order.{in_order}
use Rattle.machine.specs.declared.Request.{Request}
use Rattle.machine.specs.State.{refused, state_of}
use Rattle.machine.specs.Refusal.{◌when◌else◌}
use Rattle.machine.specs.Step.{lengths_ok, refusal, outcome, serve, step}

module _ (t : Tables) (store sheet : List ℕ) (r : Request) (whole : length store ≡ 16384) (whole' : length sheet ≡ 64) where
  lengths : lengths_ok (state_of t store sheet) ≡ true
  unfolding lengths_ok
  lengths = rw (eq-eqb (length store) 16384 whole, eq-eqb (length sheet) 64 whole')

  pub not_in_order : in_order t ≡ false → refused (state_of t store sheet) 14 ≡ step (state_of t store sheet) r
  unfolding step refusal outcome ◌when◌else◌
  not_in_order h = sym (rw (lengths, h))

  pub is_served : in_order t ≡ true → serve (state_of t store sheet) r ≡ step (state_of t store sheet) r
  unfolding step refusal serve ◌when◌else◌
  is_served h = sym (rw (lengths, h))
