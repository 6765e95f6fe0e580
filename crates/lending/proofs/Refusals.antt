-- 13 and 14 over lent bytes: when they come, and what is known where they do not.
use Prim.Native.Nat.{ℕ}
use native.Mathlib.Omega.{arith}
use mathlib.Core.Path.{◌≡◌, sym, ap, ◌∙◌}
use mathlib.Core.Bool.{Bool, true, false, not, ◌&&◌}
use mathlib.Core.List.{List}
use lib.Dec.{eqb}
use lib.ListN.{length}
use borrow.Author.Tests.{eqb-true, eq-eqb, ne_eqb, not-false}
use Rattle.lists.proofs.Tests.{Case, pass, fail, case, and_l, and_r}
use Rattle.tables.specs.Order.{in_order}
use Rattle.machine.specs.declared.Request.{Request}
use Rattle.machine.specs.State.{answer_of, state_of}
use Rattle.machine.specs.Numbers.{request_width, answer_width}
use Rattle.machine.specs.Refusal.{◌when◌else◌}
use Rattle.machine.specs.Dock.{dock_check}
use Rattle.machine.specs.Step.{step}
use Rattle.machine.proofs.RefusalLaws.{when_past}
use Rattle.image.specs.Layout.{image_size}
use Rattle.image.specs.Image.{decode, is_image}
use Rattle.lending.specs.Batch.{Buffers, tables_ok, untouched}
use Rattle.lending.specs.Host.{step_refusal, step_outcome, left_by, step_image, order_of, check_image, lent_refusal, Stepped, stepped_by, step_lent}

-- ---- the tables' own test
module _ (bytes : List ℕ) where
  pub tables_told : {r : Bool} → r ≡ (is_image bytes && in_order (decode bytes)) → r ≡ tables_ok bytes
  unfolding tables_ok
  tables_told e = e

  pub tables_image : tables_ok bytes ≡ true → is_image bytes ≡ true
  unfolding tables_ok
  tables_image e = and_l (is_image bytes) (in_order (decode bytes)) e

  pub tables_order : tables_ok bytes ≡ true → in_order (decode bytes) ≡ true
  unfolding tables_ok
  tables_order e = and_r (is_image bytes) (in_order (decode bytes)) e

  -- ---- the order test
  pub order_13 : (length bytes ≡ image_size → ⊥) → 13 ≡ order_of bytes
  unfolding order_of ◌when◌else◌
  order_13 h = rw (ne_eqb (length bytes) image_size h)

  pub order_14 : length bytes ≡ image_size → tables_ok bytes ≡ false → 14 ≡ order_of bytes
  unfolding order_of ◌when◌else◌
  order_14 long e = rw (eq-eqb (length bytes) image_size long, e)

  pub order_0 : length bytes ≡ image_size → tables_ok bytes ≡ true → 0 ≡ order_of bytes
  unfolding order_of ◌when◌else◌
  order_0 long e = rw (eq-eqb (length bytes) image_size long, e)

  pub order_long : order_of bytes ≡ 0 → length bytes ≡ image_size
  unfolding order_of
  order_long e =
      let past = when_past 13 (not (eqb (length bytes) image_size)) (14 when not (tables_ok bytes) else 0) 0 (λ z. omega arith) e in
      eqb-true (length bytes) image_size (not-false _ past.0)

  pub order_good : order_of bytes ≡ 0 → tables_ok bytes ≡ true
  unfolding order_of
  order_good e =
      let past = when_past 13 (not (eqb (length bytes) image_size)) (14 when not (tables_ok bytes) else 0) 0 (λ z. omega arith) e in
      not-false _ (when_past 14 (not (tables_ok bytes)) 0 0 (λ z. omega arith) past.1).0

-- ---- the dock's check: what the order test refuses, and the check on tables in order
module _ (bytes : List ℕ) (pad program number sheet right : ℕ) where
  pub check_refused : {n : ℕ} → n ≡ order_of bytes → (n ≡ 0 → ⊥) → n ≡ check_image bytes pad program number sheet right
  unfolding order_of check_image tables_ok dock_check ◌when◌else◌
  check_refused {n} e ne = go (case (eqb (length bytes) image_size)) (case (is_image bytes)) (case (in_order (decode bytes)))
    where
      go : Case (eqb (length bytes) image_size) → Case (is_image bytes) → Case (in_order (decode bytes)) → n ≡ check_image bytes pad program number sheet right
      go (fail l) _ _ = e ∙ rw l
      go (pass l) (fail i) _ = e ∙ rw (l, i)
      go (pass l) (pass i) (fail o) = e ∙ rw (l, i, o)
      go (pass l) (pass i) (pass o) = absurd (ne (e ∙ rw (l, i, o)))

  pub check_asked : {n m : ℕ} → n ≡ order_of bytes → n ≡ 0 → m ≡ dock_check (decode bytes) (record { pad = pad; program = program; number = number }) sheet right
      → m ≡ check_image bytes pad program number sheet right
  unfolding check_image ◌when◌else◌
  check_asked e z c =
      c ∙ rw (eq-eqb (length bytes) image_size (order_long bytes (sym e ∙ z)), tables_image bytes (order_good bytes (sym e ∙ z)))

-- ---- before every request
module _ (bytes : List ℕ) (store sheet : ℕ) where
  pub other_store : (store ≡ 16384 → ⊥) → 13 ≡ lent_refusal bytes store sheet
  unfolding lent_refusal ◌when◌else◌
  other_store h = go (case (eqb (length bytes) image_size))
    where
      go : Case (eqb (length bytes) image_size) → 13 ≡ lent_refusal bytes store sheet
      go (pass l) = rw (ne_eqb store 16384 h, l)
      go (fail l) = rw (ne_eqb store 16384 h, l)

  module _ (whole : store ≡ 16384) where
    pub other_sheet : (sheet ≡ 64 → ⊥) → 13 ≡ lent_refusal bytes store sheet
    unfolding lent_refusal ◌when◌else◌
    other_sheet h = go (case (eqb (length bytes) image_size))
      where
        go : Case (eqb (length bytes) image_size) → 13 ≡ lent_refusal bytes store sheet
        go (pass l) = rw (eq-eqb store 16384 whole, ne_eqb sheet 64 h, l)
        go (fail l) = rw (eq-eqb store 16384 whole, ne_eqb sheet 64 h, l)

    pub then_order : sheet ≡ 64 → order_of bytes ≡ lent_refusal bytes store sheet
    unfolding order_of lent_refusal ◌when◌else◌
    then_order h = go (case (eqb (length bytes) image_size))
      where
        go : Case (eqb (length bytes) image_size) → order_of bytes ≡ lent_refusal bytes store sheet
        go (pass l) = rw (eq-eqb store 16384 whole, eq-eqb sheet 64 h, l)
        go (fail l) = rw (eq-eqb store 16384 whole, eq-eqb sheet 64 h, l)

  -- what is known of buffers that are not refused
  pub record Unrefused : Type 0 where
    pub store_long : store ≡ 16384
    pub sheet_long : sheet ≡ 64
    pub tables : tables_ok bytes ≡ true

  pub not_refused : lent_refusal bytes store sheet ≡ 0 → Unrefused
  unfolding lent_refusal
  not_refused e =
      let fit = eqb (length bytes) image_size && eqb store 16384 && eqb sheet 64 in
      let past = when_past 13 (not fit) (14 when not (tables_ok bytes) else 0) 0 (λ z. omega arith) e in
      let all = not-false fit past.0 in
      record {
        store_long = eqb-true store 16384 (search (and_l, and_r) depth 8);
        sheet_long = eqb-true sheet 64 (search (and_l, and_r) depth 8);
        tables = not-false _ (when_past 14 (not (tables_ok bytes)) 0 0 (λ z. omega arith) past.1).0;
      }

-- ---- one request as a caller in Rattle has it
module _ (bytes store sheet : List ℕ) (r : Request) where
  pub is_refused : {n : ℕ} → n ≡ lent_refusal bytes (length store) (length sheet) → (n ≡ 0 → ⊥)
      → record { answer = answer_of n 0 0; tables = bytes; store = store; sheet = sheet } ≡ step_lent bytes store sheet r
  unfolding step_lent
  is_refused e ne =
      rw (ne_eqb (lent_refusal bytes (length store) (length sheet)) 0 (λ z. ne (e ∙ z)))
      (ap {B = Stepped} (λ (n : ℕ). record { answer = answer_of n 0 0; tables = bytes; store = store; sheet = sheet }) e)

  pub is_stepped : lent_refusal bytes (length store) (length sheet) ≡ 0 → stepped_by (step (state_of (decode bytes) store sheet) r) ≡ step_lent bytes store sheet r
  unfolding step_lent
  is_stepped e = rw e

-- ---- one request over a host's buffers
module _ (b : Buffers) where
  pub step_served : step_refusal b ≡ 0 → step_image b ≡ left_by (step_outcome b)
  unfolding step_image
  step_served e = rw e

  pub step_refused : (step_refusal b ≡ 0 → ⊥) → step_image b ≡ untouched b (step_refusal b)
  unfolding step_image
  step_refused ne = rw (ne_eqb (step_refusal b) 0 ne)

  abbrev fits : Bool
  fits =
      eqb (length b.tables) image_size && eqb (length b.store) 16384 && eqb (length b.sheets) 64
      && eqb (length b.requests) request_width && eqb (length b.answers) answer_width

  past_13 : step_refusal b ≡ 0 → (not fits ≡ false) × ((14 when not (tables_ok b.tables) else 0) ≡ 0)
  unfolding step_refusal
  past_13 e = when_past 13 (not fits) (14 when not (tables_ok b.tables) else 0) 0 (λ z. omega arith) e

  pub step_sheet : step_refusal b ≡ 0 → length b.sheets ≡ 64
  step_sheet e =
      let all : fits ≡ true = not-false fits (past_13 e).0 in
      eqb-true (length b.sheets) 64 (search (and_l, and_r) depth 8)

  pub step_tables : step_refusal b ≡ 0 → tables_ok b.tables ≡ true
  step_tables e = not-false _ (when_past 14 (not (tables_ok b.tables)) 0 0 (λ z. omega arith) (past_13 e).1).0
