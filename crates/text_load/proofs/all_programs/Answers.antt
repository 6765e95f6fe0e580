-- The library's test of the first 32 counts is that of the 32 programs.
use Prim.Native.Nat.{ℕ, ◌≤◌, ◌<◌}
use native.Mathlib.Omega.{arith}
use mathlib.Core.Path.{◌≡◌, refl, sym, ap, ◌∙◌}
use mathlib.Core.Bool.{Bool, not, ◌&&◌}
use mathlib.Core.List.{List, [], ◌∷◌}
use lib.Dec.{eqb, ltb}
use lib.ListN.{length, get_or, take}
use lib.Seq.{length-take-le}
use Rattle.std.proofs.Common.{rules, tests}
use Rattle.std.specs.List.{list_all}
use Rattle.std.proofs.lemmas.Bool.Decides.{nat_tests}
use Rattle.std.proofs.lemmas.List.{get_or-take}
use Rattle.std.proofs.lemmas.Iterator.{YieldsList-from_slice}
use Rattle.std.proofs.lemmas.Iterator.Search.{all_from_yields_List}
use Rattle.lists.specs.Lists.{all}
use Rattle.lists.proofs.Tests.{both_ways}
use Rattle.lists.proofs.Everywhere.{all_intro, all_elim}
use Rattle.lists.proofs.PartLaws.{every_intro, every_at}
use Rattle.saved.specs.Save.{programs}
use Rattle.text_load.proofs.all_programs.Goals as goal

each_passes : (test : ℕ → Bool) (l : List ℕ) → list_all test l ≡ all test l
unfolding all
each_passes test [] = refl
each_passes test (x ∷ l) = ap (λ (b : Bool). test x && b) (each_passes test l)

counted : (n : ℕ) → not (eqb n 0) ≡ ltb 0 n
counted n = grind (arith, nat_tests)

all_counted : (tally : List ℕ) → 32 ≤ length tally
    → all (λ n. not (eqb n 0)) (take 32 tally) ≡ all (λ i. ltb 0 (get_or tally i 0)) programs
unfolding programs
all_counted tally long =
    let n : length (take 32 tally) ≡ 32 = length-take-le 32 tally long in
    both_ways _ _
    (λ e. every_intro 32 (λ i. ltb 0 (get_or tally i 0))
    (λ i low. sym (there i low) ∙ all_elim 0 (λ n. not (eqb n 0)) (take 32 tally) e i (omega arith)))
    (λ e. all_intro 0 (λ n. not (eqb n 0)) (take 32 tally)
    (λ i low. let h : i < 32 = omega arith in there i h ∙ every_at 32 (λ j. ltb 0 (get_or tally j 0)) e i h))
  where
    there : (i : ℕ) → i < 32 → not (eqb (get_or (take 32 tally) i 0) 0) ≡ ltb 0 (get_or tally i 0)
    there i low = ap (λ (n : ℕ). not (eqb n 0)) (get_or-take 32 tally i 0 low) ∙ counted (get_or tally i 0)

pub slice_bounds-iter-end : goal.slice_bounds-iter-end
slice_bounds-iter-end c = sym (length-take-le 32 c.args.tally.now (omega arith))

pub returns : goal.returns
returns c =
    let tally = c.args.tally.now in
    all_from_yields_List (λ n. not (eqb n 0)) _ _ c.all.result c.all.ensures.ran (YieldsList-from_slice (take 32 tally) cc) (λ x b q k. search (rules, tests))
    ∙ each_passes (λ n. not (eqb n 0)) (take 32 tally) ∙ all_counted tally (omega arith)
