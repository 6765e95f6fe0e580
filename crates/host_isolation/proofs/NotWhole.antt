-- A dock of other lengths: emptying and loading do not mend it, and every call that makes requests is refused with 13. So it makes no request
-- at all, and the claims need not ask that a host's dock is whole.
use Prim.Native.Nat.{ℕ}
use mathlib.Core.Path.{◌≡◌, refl}
use mathlib.Core.Bool.{Bool, true, false, ◌&&◌}
use mathlib.Core.List.{List, [], ◌∷◌}
use lib.Dec.{eqb}
use lib.ListN.{length}
use borrow.Author.Tests.{eqb-true}
use Rattle.lists.specs.Lists.{some}
use Rattle.lists.proofs.Tests.{Case, pass, fail, case, contradiction, and_l, and_r, and_intro, and_false}
use Rattle.tables.specs.Names.{empty_tables}
use Rattle.machine.specs.Refusal.{◌when◌else◌}
use Rattle.machine.specs.Empty.{emptied}
use Rattle.image.specs.Layout.{image_size}
use Rattle.image.specs.Image.{encode}
use Rattle.lending.specs.Batch.{lengths_fit, batch_refusal, untouched, batch}
use Rattle.lending.specs.Host.{empty_image, step_refusal, step_image}
use Rattle.lending.specs.Trace.{trace_refusal, trace_lent}
use Rattle.lending.specs.Saved.{load_lent}
use Rattle.saved.specs.Load.{load}
use Rattle.host_isolation.specs.Calls.{Dock, WholeDock, Call, emptying, stepping, serving, tracing, reporting, saving, loading, checking, testing}
use Rattle.host_isolation.specs.Calls.{lent, lent_trace, left, made, begins, exchanges}

abbrev pub is_whole : Dock → Bool
is_whole d = eqb (length d.image) image_size && eqb (length d.store) 16384

pub whole_dock : (d : Dock) → is_whole d ≡ true → WholeDock d
whole_dock d e = record {
  image = eqb-true (length d.image) image_size (and_l (eqb (length d.image) image_size) (eqb (length d.store) 16384) e);
  store = eqb-true (length d.store) 16384 (and_r (eqb (length d.image) image_size) (eqb (length d.store) 16384) e);
}

module _ (d : Dock) (other : is_whole d ≡ false) where
  step_13 : (sheet request answer : List ℕ) → step_refusal (lent d sheet request answer) ≡ 13
  unfolding step_refusal ◌when◌else◌
  step_13 sheet request answer = rw other

  serve_13 : (sheets requests answers : List ℕ) → batch_refusal (lent d sheets requests answers) ≡ 13
  unfolding batch_refusal lengths_fit ◌when◌else◌
  serve_13 sheets requests answers = rw other

  trace_13 : (input output : List ℕ) → trace_refusal (lent_trace d input output) ≡ 13
  unfolding trace_refusal ◌when◌else◌
  trace_13 input output = rw other

  none_made : (c : Call) → made d c ≡ []
  unfolding made
  none_made emptying = refl
  none_made (stepping sheet request answer) = rw (step_13 sheet request answer)
  none_made (serving sheets requests answers) = rw (serve_13 sheets requests answers)
  none_made (tracing input output) = rw (trace_13 input output)
  none_made (reporting scratch output) = refl
  none_made (saving output) = refl
  none_made (loading text) = refl
  none_made (checking pad program number sheet right) = refl
  none_made testing = refl

  still_emptied : Case (eqb (length d.image) image_size) → Case (eqb (length d.store) 16384) → is_whole (left d emptying) ≡ false
  unfolding left empty_image emptied
  still_emptied (fail e) _ = rw e other
  still_emptied (pass e) (fail f) = rw (e, f) (rw f (and_false (eqb (length (encode empty_tables)) image_size)))
  still_emptied (pass e) (pass f) = contradiction (and_intro e f) other

  still_loaded : (text : List ℕ) → Case (eqb (length d.image) image_size) → Case (eqb (length d.store) 16384) → is_whole (left d (loading text)) ≡ false
  unfolding left load_lent
  still_loaded text (fail e) _ = rw e other
  still_loaded text (pass e) (fail f) = rw (e, f) (and_false (eqb (length (encode (load text).tables)) image_size))
  still_loaded text (pass e) (pass f) = contradiction (and_intro e f) other

  still_other : (c : Call) → is_whole (left d c) ≡ false
  unfolding left step_image batch trace_lent untouched
  still_other emptying = still_emptied (case (eqb (length d.image) image_size)) (case (eqb (length d.store) 16384))
  still_other (stepping sheet request answer) = rw (step_13 sheet request answer) other
  still_other (serving sheets requests answers) = rw (serve_13 sheets requests answers) other
  still_other (tracing input output) = rw (trace_13 input output) other
  still_other (reporting scratch output) = other
  still_other (saving output) = other
  still_other (loading text) = still_loaded text (case (eqb (length d.image) image_size)) (case (eqb (length d.store) 16384))
  still_other (checking pad program number sheet right) = other
  still_other testing = other

pub none_at_all : (cs : List Call) (d : Dock) → is_whole d ≡ false → exchanges d cs ≡ []
unfolding exchanges
none_at_all [] d other = refl
none_at_all (c ∷ cs) d other = go (case (some begins cs)) (none_at_all cs (left d c) (still_other d other c))
  where
    go : Case (some begins cs) → exchanges (left d c) cs ≡ [] → exchanges d (c ∷ cs) ≡ []
    go (pass e) later = rw (e, later)
    go (fail e) later = rw (e, none_made d other c, later)
