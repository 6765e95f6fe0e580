-- What a line in form asks for, and that one of another form asks for nothing.
use Prim.Native.Nat.{ℕ, ◌≤◌}
use native.Mathlib.Omega.{arith}
use mathlib.Core.Path.{◌≡◌}
use mathlib.Core.Bool.{true, false, cond}
use mathlib.Core.List.{List}
use lib.Dec.{leb, eqb}
use borrow.Author.Tests.{leb-true, eqb-true}
use Rattle.std.specs.Prelude.{Some, None}
use Rattle.lists.proofs.Tests.{Case, pass, fail, case}
use Rattle.machine.specs.Numbers.{request_of}
use Rattle.text.specs.Reading.{values_of}
use Rattle.text_trace.specs.declared.Asked.{Asked}
use Rattle.trace_texts.specs.Line.{fill_of, fill_ok, in_form}
use Rattle.text_trace.specs.Contract.{asked_in}

-- a fill of a line in form is a byte
pub fill_small : (op fill : ℕ) → fill_ok op fill ≡ true → fill ≤ 255
unfolding fill_ok
fill_small op fill = go (case (eqb op 6))
  where
    go : Case (eqb op 6) → cond (eqb op 6) (leb fill 255) (eqb fill 0) ≡ true → fill ≤ 255
    go (pass e) ok = leb-true fill 255 (rw e at ok)
    go (fail e) ok = omega (arith, eqb-true fill 0 (rw e at ok))

module _ (line : List ℕ) where
  pub told : (a : Asked) → Some a ≡ asked_in line → (in_form line ≡ true) × (a ≡ record { request = request_of (values_of line); fill = fill_of (values_of line) })
  unfolding asked_in
  told a e = go (case (in_form line))
    where
      go : Case (in_form line) → (in_form line ≡ true) × (a ≡ record { request = request_of (values_of line); fill = fill_of (values_of line) })
      go (pass t) = let q = rw t at e in (t, cc)
      go (fail f) = let q = rw f at e in cc

  pub told_other : None ≡ asked_in line → in_form line ≡ false
  unfolding asked_in
  told_other e = go (case (in_form line))
    where
      go : Case (in_form line) → in_form line ≡ false
      go (pass t) = let q = rw t at e in cc
      go (fail f) = f
