-- The text of a trace is made from its exchanges.
use Prim.Native.Nat.{ℕ, ◌+◌}
use mathlib.Core.Path.{◌≡◌, refl, sym, ap, ◌∙◌}
use mathlib.Core.Bool.{true, false}
use mathlib.Core.List.{List, [], ◌∷◌, ◌++◌}
use Rattle.lists.proofs.Tests.{Case, pass, fail, case}
use Rattle.machine.specs.State.{State}
use Rattle.machine.specs.Numbers.{answer_numbers}
use Rattle.text.specs.Bytes.{line_end}
use Rattle.text.specs.Reading.{lines}
use Rattle.text.specs.Names.{behind_names}
use Rattle.trace_texts.specs.Line.{in_form, answer_line, first_byte, other_line}
use Rattle.trace_texts.specs.Trace.{output_names, served_by, answer_to, answers, trace_from}
use Rattle.trace_texts.proofs.AnswersLaws.{answer_served, answer_other, left_served, left_other}
use Rattle.lending.specs.Trace.{dock_of}
use Rattle.host_isolation.specs.Calls.{Exchange, in_line, in_lines, made}
use Rattle.host_isolation.specs.Texts.{byte_of, line_of, lines_of, ToldByExchanges}

served_line : (number : ℕ) (s : State) (line : List ℕ) → in_form line ≡ true → answer_to number s line ≡ line_of number (in_line line (served_by s line))
unfolding answer_line first_byte line_of byte_of in_line answer_numbers
served_line number s line e = answer_served number s line e

no_line : (number : ℕ) → lines_of number [] [] ≡ []
unfolding lines_of
no_line number = refl

other_line_lem : (number : ℕ) (line : List ℕ) (later : List (List ℕ)) (xs : List Exchange) → in_form line ≡ false
    → lines_of number (line ∷ later) xs ≡ other_line number ++ lines_of (number + 1) later xs
unfolding lines_of
other_line_lem number line later [] e = refl
other_line_lem number line later (x ∷ xs) e = rw e

next_line : (number : ℕ) (line : List ℕ) (later : List (List ℕ)) (x : Exchange) (xs : List Exchange) → in_form line ≡ true
    → lines_of number (line ∷ later) (x ∷ xs) ≡ line_of number x ++ lines_of (number + 1) later xs
unfolding lines_of
next_line number line later x xs e = rw e

lines_told : (ls : List (List ℕ)) (number : ℕ) (s : State) → answers number s ls ≡ lines_of number ls (in_lines s ls)
unfolding answers in_lines
lines_told [] number s = sym (no_line number)
lines_told (line ∷ later) number s = go (case (in_form line)) (lines_told later (number + 1))
  where
    go : Case (in_form line) → ((u : State) → answers (number + 1) u later ≡ lines_of (number + 1) later (in_lines u later))
        → answers number s (line ∷ later) ≡ lines_of number (line ∷ later) (in_lines s (line ∷ later))
    go (pass e) rest =
        let u = (served_by s line).state in
        rw (e, left_served s line e)
        ((λ i. served_line number s line e i ++ rest u i) ∙ sym (next_line number line later (in_line line (served_by s line)) (in_lines u later) e))
    go (fail e) rest =
        rw (e, left_other s line e) ((λ i. answer_other number s line e i ++ rest s i) ∙ sym (other_line_lem number line later (in_lines s later) e))

pub told_by_exchanges : ToldByExchanges
unfolding trace_from made
told_by_exchanges d input output e ok =
    rw (e, ok) (ap (λ (l : List ℕ). output_names ++ line_end ∷ l) (lines_told (behind_names (lines input)) 1 (dock_of d.image d.store)))
