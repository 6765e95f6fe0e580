-- No line sees the sheet buffer of the state: every request brings its own. So states with the same tables and store are answered alike.
use Prim.Native.Nat.{ℕ, ◌+◌}
use mathlib.Core.Path.{◌≡◌, refl, sym, ap, ◌∙◌}
use mathlib.Core.Bool.{cond}
use mathlib.Core.List.{List, [], ◌∷◌, ◌++◌}
use Rattle.lists.proofs.Tests.{Case, pass, fail, case}
use Rattle.machine.specs.State.{State, Outcome}
use Rattle.machine.specs.Step.{step}
use Rattle.machine.specs.Sequence.{Sent, enter}
use Rattle.trace_texts.specs.Line.{in_form, sent_by, answer_line, first_byte, other_line}
use Rattle.trace_texts.specs.Trace.{served_by, answer_to, left_by_line, answers, after_lines}
use Rattle.trace_texts.proofs.AnswersLaws.{left_served, left_other}

pub record SameDock (s s' : State) : Type 0 where
  pub tables : s.tables ≡ s'.tables
  pub store : s.store ≡ s'.store

pub same_trans : (s s' s'' : State) → SameDock s s' → SameDock s' s'' → SameDock s s''
same_trans s s' s'' a b = record { tables = a.tables ∙ b.tables; store = a.store ∙ b.store }

pub same_sym : (s s' : State) → SameDock s s' → SameDock s' s
same_sym s s' a = record { tables = sym a.tables; store = sym a.store }

pub same_of : (s s' : State) → s ≡ s' → SameDock s s'
same_of s s' e = record { tables = ap (λ (x : State). x.tables) e; store = ap (λ (x : State). x.store) e }

-- one line
module _ (s s' : State) (same : SameDock s s') (line : List ℕ) where
  same_entered : (i : Sent) → enter s i ≡ enter s' i
  unfolding enter
  same_entered i j = record { tables = same.tables j; store = same.store j; sheet = i.sheet }

  same_served : served_by s line ≡ served_by s' line
  same_served = ap (λ (x : State). step x (sent_by line).request) (same_entered (sent_by line))

  same_answer_lem : (number : ℕ) → answer_to number s line ≡ answer_to number s' line
  unfolding answer_to
  same_answer_lem number =
      ap (λ (o : Outcome). cond (in_form line) (answer_line number o.answer (first_byte (sent_by line).request o)) (other_line number)) same_served

  same_left : SameDock (left_by_line s line) (left_by_line s' line)
  same_left = go (case (in_form line))
    where
      go : Case (in_form line) → SameDock (left_by_line s line) (left_by_line s' line)
      go (pass e) = rw (left_served s line e, left_served s' line e) (same_of _ _ (ap (λ (o : Outcome). o.state) same_served))
      go (fail e) = rw (left_other s line e, left_other s' line e) same

-- any lines
pub same_answers : (s s' : State) → SameDock s s' → (ls : List (List ℕ)) (number : ℕ) → answers number s ls ≡ answers number s' ls
unfolding answers
same_answers s s' same [] number = refl
same_answers s s' same (line ∷ later) number =
    λ i. same_answer_lem s s' same line number i
    ++ same_answers (left_by_line s line) (left_by_line s' line) (same_left s s' same line) later (number + 1) i

pub same_after : (s s' : State) → SameDock s s' → (ls : List (List ℕ)) → SameDock (after_lines s ls) (after_lines s' ls)
unfolding after_lines
same_after s s' same [] = same
same_after s s' same (line ∷ later) = same_after (left_by_line s line) (left_by_line s' line) (same_left s s' same line) later
