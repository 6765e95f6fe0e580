-- Loading is sound, whatever the text: the tables are of the arrays' lengths, in order, and their last numbers have 16 bits.
use Prim.Native.Nat.{ℕ, zero, suc, ◌≤◌, ◌<◌}
use native.Mathlib.Omega.{arith}
use mathlib.Core.Path.{◌≡◌, sym, ap, ◌∙◌, subst}
use mathlib.Core.Bool.{true}
use mathlib.Core.List.{List, [], ◌∷◌, map}
use lib.ListN.{get_or, replicate, get_or-replicate}
use borrow.Author.Tests.{leb-true}
use Rattle.lists.specs.Lists.{all, first_index}
use Rattle.lists.proofs.Tests.{Case, pass, fail, case, and_l, and_r}
use Rattle.tables.specs.declared.{Program.Program, Pad.Pad}
use Rattle.tables.specs.Names.{free, no_program, no_pad, empty_tables}
use Rattle.tables.specs.Lookup.{last_of}
use Rattle.tables.specs.Order.{in_order}
use Rattle.text.specs.Reading.{fields, number, is_number, is_value, has_values, values_of}
use Rattle.preservation.proofs.EmptyDockInOrder.{empty_invariant}
use Rattle.preservation.proofs.OrderPassesTest.{order_passes_test}
use Rattle.machine.specs.Refusal.{◌when◌else◌}
use Rattle.saved.specs.Row.{row_of, line_ok}
use Rattle.saved.specs.Load.{lines_in, rows_in, form_ok, no_row, last_of_program, tables_from, last_in, tables_in, load_refusal, load}
use Rattle.saved.specs.Claims.{Sound, LoadingIsSound}
use Rattle.saved.proofs.TablesOfLines.{with_sized, with_last_lem}

-- ---- numbers
values_fit : (fs : List (List ℕ)) → all is_value fs ≡ true → (i : ℕ) → get_or (map number fs) i 0 ≤ 65535
unfolding all is_value is_number
values_fit [] e i = omega arith
values_fit (f ∷ fs) e zero =
    let v : is_value f ≡ true = and_l (is_value f) (all is_value fs) e in
    leb-true (number f) 65535 (search (and_l, and_r) depth 5)
values_fit (f ∷ fs) e (suc i) = values_fit fs (and_r (is_value f) (all is_value fs) e) i

row_fits : (line : List ℕ) → line_ok line ≡ true → (row_of (values_of line)).number ≤ 65535
unfolding line_ok has_values values_of
row_fits line e =
    let v : all is_value (fields line) ≡ true = search (and_l, and_r) depth 5 in
    values_fit (fields line) v 3

rows_fit : (ls : List (List ℕ)) → all line_ok ls ≡ true → (i : ℕ) → (get_or (map (λ line. row_of (values_of line)) ls) i no_row).number ≤ 65535
unfolding all
rows_fit [] e i = omega arith
rows_fit (l ∷ ls) e zero = row_fits l (and_l (line_ok l) (all line_ok ls) e)
rows_fit (l ∷ ls) e (suc i) = rows_fit ls (and_r (line_ok l) (all line_ok ls) e) i

-- ---- the two cases
abbrev empty_program : Program
empty_program = record { tickets = replicate 8 free; last = 0 }

abbrev empty_pad : Pad
empty_pad = record { programs = replicate 8 empty_program }

form_lines : (text : List ℕ) → form_ok text ≡ true → all line_ok (lines_in text) ≡ true
unfolding form_ok
form_lines text e = search (and_l, and_r) depth 6

accepted : (text : List ℕ) → form_ok text ≡ true → in_order (tables_in text) ≡ true → Sound (tables_in text)
unfolding tables_in tables_from last_in
accepted text f o = record {
  sized = with_sized _ _ _;
  order = o;
  fit = λ p q b c.
      subst (λ (n : ℕ). n ≤ 65535) (sym (with_last_lem _ _ _ p q b c))
      (rows_fit (lines_in text) (form_lines text f) (first_index (last_of_program p q) (rows_in text)));
}

empty_in_order : in_order empty_tables ≡ true
empty_in_order = order_passes_test empty_tables empty_invariant

empty_last : (p q : ℕ) → p < 4 → q < 8 → last_of empty_tables p q ≤ 65535
unfolding empty_tables
empty_last p q b c =
    let e : last_of empty_tables p q ≡ 0
    = ap (λ (a : Pad). (get_or a.programs q no_program).last) (get_or-replicate 4 p empty_pad no_pad b)
    ∙ ap (λ (a : Program). a.last) (get_or-replicate 8 q empty_program no_program c) in
    omega (arith, e)

empty_sound : Sound empty_tables
empty_sound = record {
  sized = empty_invariant.shape.sized;
  order = empty_in_order;
  fit = empty_last;
}

pub loading_is_sound : LoadingIsSound
unfolding load load_refusal ◌when◌else◌
loading_is_sound text = go (case (form_ok text)) (case (in_order (tables_in text)))
  where
    go : Case (form_ok text) → Case (in_order (tables_in text)) → Sound (load text).tables
    go (fail f) _ = rw f empty_sound
    go (pass f) (fail o) = rw (f, o) empty_sound
    go (pass f) (pass o) = rw (f, o) (accepted text f o)
