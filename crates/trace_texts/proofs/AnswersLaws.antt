-- The answers line by line, and how long they can be, from any state: at most 15 bytes for each byte of the input.
use Prim.Native.Nat.{ℕ, ◌+◌, ◌*◌, ◌≤◌}
use native.Mathlib.Omega.{arith}
use mathlib.Core.Path.{◌≡◌, refl}
use mathlib.Core.Bool.{true, false, cond}
use mathlib.Core.List.{List, [], ◌∷◌, ◌++◌}
use lib.Dec.{leb, eqb}
use lib.ListN.{length, length-append}
use borrow.Author.Tests.{leb-true, eqb-true}
use Rattle.lists.specs.Lists.{all}
use Rattle.lists.proofs.Tests.{Case, pass, fail, case, and_l}
use Rattle.machine.specs.State.{State}
use Rattle.machine.specs.Empty.{empty_dock}
use Rattle.text.specs.Bytes.{bytes, space, line_end}
use Rattle.text.specs.Names.{behind_names}
use Rattle.text.specs.Reading.{in_front, cut, lines, fields, is_value, has_values}
use Rattle.trace_texts.specs.Line.{input_columns, in_form, sent_by, answer_line, first_byte, other_line}
use Rattle.trace_texts.specs.Trace.{longest_input, trace_room, output_names, served_by, answer_to, left_by_line, answers, after_lines, input_ok, trace_from, trace}
use Rattle.trace_texts.proofs.AnswerLine.{answer_short, other_short}

-- ---- line by line
module _ (number : ℕ) (s : State) (line : List ℕ) where
  pub answer_served : in_form line ≡ true
      → answer_to number s line ≡ answer_line number (served_by s line).answer (first_byte (sent_by line).request (served_by s line))
  unfolding answer_to
  answer_served e = rw e

  pub answer_other : in_form line ≡ false → answer_to number s line ≡ other_line number
  unfolding answer_to
  answer_other e = rw e

module _ (s : State) (line : List ℕ) where
  pub left_served : in_form line ≡ true → left_by_line s line ≡ (served_by s line).state
  unfolding left_by_line
  left_served e = rw e

  pub left_other : in_form line ≡ false → left_by_line s line ≡ s
  unfolding left_by_line
  left_other e = rw e

pub answers_none : (number : ℕ) (s : State) → answers number s [] ≡ []
unfolding answers
answers_none number s = refl

pub answers_more : (number : ℕ) (s : State) (line : List ℕ) (later : List (List ℕ))
    → answers number s (line ∷ later) ≡ answer_to number s line ++ answers (number + 1) (left_by_line s line) later
unfolding answers
answers_more number s line later = refl

pub after_none : (s : State) → after_lines s [] ≡ s
unfolding after_lines
after_none s = refl

pub after_more : (s : State) (line : List ℕ) (later : List (List ℕ)) → after_lines s (line ∷ later) ≡ after_lines (left_by_line s line) later
unfolding after_lines
after_more s line later = refl

-- ---- how long lines are, with a byte behind each
span : List (List ℕ) → ℕ
span [] = 0
span (line ∷ later) = length line + 1 + span later

front_span : (x : ℕ) (parts : List (List ℕ)) (n : ℕ) → 1 ≤ n → span parts ≤ n → span (in_front x parts) ≤ n + 1
unfolding span in_front
front_span x [] n h k = omega arith
front_span x (part ∷ parts) n h k = omega arith

lines_span : (text : List ℕ) → span (lines text) ≤ length text + 1
unfolding lines cut span
lines_span [] = omega arith
lines_span (x ∷ xs) = go (lines_span xs) (case (eqb x line_end))
  where
    go : span (lines xs) ≤ length xs + 1 → Case (eqb x line_end) → span (lines (x ∷ xs)) ≤ length (x ∷ xs) + 1
    go later (pass e) = rw e (omega arith)
    go later (fail e) = rw e (le_by (front_span x (lines xs) (length xs + 1) (omega arith) later))
      where
        le_by : {m : ℕ} → m ≤ length xs + 1 + 1 → m ≤ length (x ∷ xs) + 1
        le_by k = omega arith

front_count : (x : ℕ) (parts : List (List ℕ)) (n : ℕ) → 1 ≤ n → length parts ≤ n → length (in_front x parts) ≤ n
unfolding in_front
front_count x [] n h k = omega arith
front_count x (part ∷ parts) n h k = k

fields_count : (line : List ℕ) → length (fields line) ≤ length line + 1
unfolding fields cut
fields_count [] = omega arith
fields_count (x ∷ xs) = go (fields_count xs) (case (eqb x space))
  where
    go : length (fields xs) ≤ length xs + 1 → Case (eqb x space) → length (fields (x ∷ xs)) ≤ length (x ∷ xs) + 1
    go later (pass e) = rw e (omega arith)
    go later (fail e) = rw e (front_count x (fields xs) (length (x ∷ xs) + 1) (omega arith) (omega arith))

formed_long : (line : List ℕ) → in_form line ≡ true → 1 ≤ length line
unfolding in_form has_values
formed_long line e =
    let ten = eqb-true (length (fields line)) input_columns
    (and_l (eqb (length (fields line)) input_columns) (all is_value (fields line)) (and_l (has_values input_columns line) _ e)) in
    omega (arith, fields_count line)

-- ---- how long answers are
answer_within : (number : ℕ) (s : State) (line : List ℕ) → length (answer_to number s line) ≤ 15 * (length line + 1)
answer_within number s line = go (case (in_form line))
  where
    go : Case (in_form line) → length (answer_to number s line) ≤ 15 * (length line + 1)
    go (pass e) =
        let short = answer_short number (served_by s line).answer (first_byte (sent_by line).request (served_by s line)) in
        rw (answer_served number s line e) (omega (arith, formed_long line e))
    go (fail e) = rw (answer_other number s line e) (omega (arith, other_short number))

answers_short : (number : ℕ) (s : State) (ls : List (List ℕ)) → length (answers number s ls) ≤ 15 * span ls
unfolding span
answers_short number s [] = rw (answers_none number s) (omega arith)
answers_short number s (line ∷ later) =
    let more = answers_short (number + 1) (left_by_line s line) later in
    rw (answers_more number s line later) (simp length-append (omega (arith, answer_within number s line)))

behind_span : (ls : List (List ℕ)) (n : ℕ) → span ls ≤ n + 1 → span (behind_names ls) ≤ n
unfolding behind_names span
behind_span [] n h = omega arith
behind_span (line ∷ later) n h = omega arith

names_long : length output_names ≡ 33
unfolding output_names bytes
names_long = refl

-- behind the line of names
pub answers_fit : (s : State) (input : List ℕ) → input_ok input ≡ true → 34 + length (answers 1 s (behind_names (lines input))) ≤ trace_room
unfolding input_ok
answers_fit s input e =
    let short = leb-true (length input) longest_input (and_l (leb (length input) longest_input) _ e) in
    let within = behind_span (lines input) longest_input (omega (arith, lines_span input)) in
    omega (arith, answers_short 1 s (behind_names (lines input)))

pub trace_short_from : (s : State) (input : List ℕ) → length (trace_from s input) ≤ trace_room
unfolding trace_from
trace_short_from s input = go (case (input_ok input))
  where
    go : Case (input_ok input)
        → length (output_names ++ line_end ∷ cond (input_ok input) (answers 1 s (behind_names (lines input))) (other_line 0)) ≤ trace_room
    go (pass e) = rw e (simp length-append (omega (arith, names_long, answers_fit s input e)))
    go (fail e) = rw e (simp length-append (omega (arith, names_long, other_short 0)))

pub trace_short : (input : List ℕ) → length (trace input) ≤ trace_room
trace_short = trace_short_from empty_dock
