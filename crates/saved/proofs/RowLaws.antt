-- Laws of a line by itself: the bounds of its columns, the three kinds of lines, whose line it is.
use Prim.Native.Nat.{ℕ, ◌≤◌}
use native.Mathlib.Omega.{arith}
use mathlib.Core.Path.{◌≡◌}
use mathlib.Core.Logic.{◌⊎◌, inl, inr}
use mathlib.Core.Bool.{true, ◌&&◌}
use lib.Dec.{leb, eqb}
use borrow.Author.Tests.{leb-true, le-leb, eqb-true, eqb-false, eq-eqb}
use Rattle.lists.specs.Tests.{between}
use Rattle.lists.proofs.Tests.{Case, pass, fail, case, and_l, and_r, and_intro}
use Rattle.tables.specs.Names.{is_program, same_program}
use Rattle.saved.specs.declared.Row.{Row}
use Rattle.saved.specs.Row.{is_last_row, is_ticket_row, is_entry_row, of_program, row_ok}
use Rattle.saved.specs.Load.{last_of_program, ticket_of_program}

pub record Ranges (r : Row) : Type 0 where
  pub kind : r.kind ≤ 5
  pub pad : r.pad ≤ 3
  pub program : r.program ≤ 7

pub ranges : (r : Row) → row_ok r ≡ true → Ranges r
unfolding row_ok is_program
ranges r e =
    let k : leb r.kind 5 ≡ true = search (and_l, and_r) depth 8 in
    let p : leb r.pad 3 ≡ true = search (and_l, and_r) depth 8 in
    let q : leb r.program 7 ≡ true = search (and_l, and_r) depth 8 in
    record { kind = leb-true r.kind 5 k; pad = leb-true r.pad 3 p; program = leb-true r.program 7 q }

-- ---- a line is a kind 0 line, a ticket's or an entry's
pub three_kinds : (r : Row) → row_ok r ≡ true → (is_last_row r ≡ true) ⊎ ((is_ticket_row r ≡ true) ⊎ (is_entry_row r ≡ true))
unfolding is_last_row is_ticket_row is_entry_row between
three_kinds r o = go (case (eqb r.kind 0)) (case (eqb r.kind 5))
  where
    k : r.kind ≤ 5
    k = (ranges r o).kind

    go : Case (eqb r.kind 0) → Case (eqb r.kind 5)
        → (eqb r.kind 0 ≡ true) ⊎ (((leb 1 r.kind && leb r.kind 4) ≡ true) ⊎ (eqb r.kind 5 ≡ true))
    go (pass e) _ = inl e
    go (fail e) (pass f) = inr (inr f)
    go (fail e) (fail f) =
        inr (inl (and_intro (le-leb 1 r.kind (omega (arith, eqb-false r.kind 0 e))) (le-leb r.kind 4 (omega (arith, k, eqb-false r.kind 5 f)))))

pub last_no_ticket : (r : Row) → is_last_row r ≡ true → is_ticket_row r ≡ true → ⊥
unfolding is_last_row is_ticket_row between
last_no_ticket r l t = omega (arith, eqb-true r.kind 0 l, leb-true 1 r.kind (and_l (leb 1 r.kind) (leb r.kind 4) t))

pub last_no_entry : (r : Row) → is_last_row r ≡ true → is_entry_row r ≡ true → ⊥
unfolding is_last_row is_entry_row
last_no_entry r l t = omega (arith, eqb-true r.kind 0 l, eqb-true r.kind 5 t)

pub ticket_no_entry : (r : Row) → is_ticket_row r ≡ true → is_entry_row r ≡ true → ⊥
unfolding is_ticket_row is_entry_row between
ticket_no_entry r l t = omega (arith, eqb-true r.kind 5 t, leb-true r.kind 4 (and_r (leb 1 r.kind) (leb r.kind 4) l))

-- ---- whose line it is
pub last_kind : (p q : ℕ) (r : Row) → last_of_program p q r ≡ true → is_last_row r ≡ true
unfolding last_of_program
last_kind p q r e = and_l (is_last_row r) (of_program p q r) e

pub last_is : (p q : ℕ) (r : Row) → last_of_program p q r ≡ true → (r.pad ≡ p) × (r.program ≡ q)
unfolding last_of_program of_program same_program
last_is p q r e =
    let a : eqb r.pad p ≡ true = search (and_l, and_r) depth 5 in
    let b : eqb r.program q ≡ true = search (and_l, and_r) depth 5 in
    (eqb-true r.pad p a, eqb-true r.program q b)

pub is_last : (p q : ℕ) (r : Row) → is_last_row r ≡ true → r.pad ≡ p → r.program ≡ q → last_of_program p q r ≡ true
unfolding last_of_program of_program same_program
is_last p q r l a b = and_intro l (and_intro (eq-eqb r.pad p a) (eq-eqb r.program q b))

pub ticket_kind : (p q : ℕ) (r : Row) → ticket_of_program p q r ≡ true → is_ticket_row r ≡ true
unfolding ticket_of_program
ticket_kind p q r e = and_l (is_ticket_row r) (of_program p q r) e

pub ticket_is : (p q : ℕ) (r : Row) → ticket_of_program p q r ≡ true → (r.pad ≡ p) × (r.program ≡ q)
unfolding ticket_of_program of_program same_program
ticket_is p q r e =
    let a : eqb r.pad p ≡ true = search (and_l, and_r) depth 5 in
    let b : eqb r.program q ≡ true = search (and_l, and_r) depth 5 in
    (eqb-true r.pad p a, eqb-true r.program q b)

pub is_ticket : (p q : ℕ) (r : Row) → is_ticket_row r ≡ true → r.pad ≡ p → r.program ≡ q → ticket_of_program p q r ≡ true
unfolding ticket_of_program of_program same_program
is_ticket p q r l a b = and_intro l (and_intro (eq-eqb r.pad p a) (eq-eqb r.program q b))
