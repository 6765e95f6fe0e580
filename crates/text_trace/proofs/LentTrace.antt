-- The trace over lent buffers: refused, each as the definition says, or, past the tests of tables and store, written whole.
use Prim.Native.Nat.{ℕ}
use native.Mathlib.Omega.{arith}
use mathlib.Core.Path.{◌≡◌, ap, subst, ◌∙◌}
use mathlib.Core.Bool.{true, false}
use mathlib.Core.List.{List}
use lib.Dec.{leb, eqb}
use lib.ListN.{length}
use borrow.Author.Tests.{eq-eqb, ne_eqb}
use Rattle.std.specs.Array.{IsWholeChunk}
use Rattle.lists.proofs.Tests.{and_l, and_r, and_false}
use Rattle.machine.specs.Refusal.{◌when◌else◌}
use Rattle.image.specs.Layout.{image_size}
use Rattle.image.specs.Image.{encode, is_image}
use Rattle.lending.specs.Batch.{tables_ok}
use Rattle.lending.specs.Trace.{TraceBuffers, TraceLeft, trace_of, state_after, trace_refusal, trace_lent, trace_buffers, TracesLent}
use Rattle.text.specs.Writing.{written}
use Rattle.text.specs.Appending.{Appends}
use Rattle.text.proofs.Appending.{measured, write_tested}
use Rattle.text_trace.specs.Contract.{Servable, LeavesDock}

-- tables and store as the arrays that are made of them
pub of_arrays : {tables store image sheets input output : List ℕ} → image ≡ tables → sheets ≡ store
    → {n : ℕ} {tables' store' output' : List ℕ} {size : ℕ} → TracesLent (trace_buffers image sheets input output) n tables' store' output' size
    → TracesLent (trace_buffers tables store input output) n tables' store' output' size
of_arrays {input = input} {output = output} p q {n} {tables'} {store'} {output'} {size} =
    subst (λ (b : TraceBuffers). TracesLent b n tables' store' output' size) (λ i. trace_buffers (p i) (q i) input output)

pub array_long : {bytes array : List ℕ} {n : ℕ} → IsWholeChunk bytes array n → length array ≡ n
array_long w = ap length w.same ∙ w.long

pub ready : {image sheets bytes : List ℕ} → tables_ok image ≡ true → IsWholeChunk bytes sheets 16384 → Servable image sheets
unfolding tables_ok
ready {image} good w = record { is = and_l (is_image image) _ good; order = and_r (is_image image) _ good; store = array_long w }

module _ (b : TraceBuffers) where
  -- ---- refused
  refused : (n : ℕ) → trace_refusal b ≡ n → (n ≡ 0 → ⊥) → TracesLent b n b.tables b.store b.output 0
  unfolding trace_lent
  refused n e ne =
      let is : record { result = n; tables = b.tables; store = b.store; output = b.output; size = 0 } ≡ trace_lent b = rw (e, ne_eqb n 0 ne) in
      record {
        result = λ i. (is i).result;
        tables = λ i. (is i).tables;
        store = λ i. (is i).store;
        output = λ i. (is i).output;
        size = λ i. (is i).size;
        decoded = λ z. absurd (ne z);
      }

  pub other_tables : (length b.tables ≡ image_size → ⊥) → TracesLent b 13 b.tables b.store b.output 0
  unfolding trace_refusal ◌when◌else◌
  other_tables h = refused 13 (rw (ne_eqb (length b.tables) image_size h)) (λ z. omega arith)

  pub other_store : (length b.store ≡ 16384 → ⊥) → TracesLent b 13 b.tables b.store b.output 0
  unfolding trace_refusal ◌when◌else◌
  other_store h =
      refused 13 (rw (ne_eqb (length b.store) 16384 h, and_false (eqb (length b.tables) image_size))) (λ z. omega arith)

  module _ (image_long : length b.tables ≡ image_size) (store_long : length b.store ≡ 16384) where
    pub bad_tables : tables_ok b.tables ≡ false → TracesLent b 14 b.tables b.store b.output 0
    unfolding trace_refusal ◌when◌else◌
    bad_tables e =
        refused 14 (rw (eq-eqb (length b.tables) image_size image_long, eq-eqb (length b.store) 16384 store_long, e)) (λ z. omega arith)

    module _ (good : tables_ok b.tables ≡ true) where
      pub too_short : leb (length (trace_of b)) (length b.output) ≡ false → TracesLent b 17 b.tables b.store b.output 0
      unfolding trace_refusal ◌when◌else◌
      too_short e =
          refused 17 (rw (eq-eqb (length b.tables) image_size image_long, eq-eqb (length b.store) 16384 store_long, good, e)) (λ z. omega arith)

      -- ---- written whole
      module _ (fits : leb (length (trace_of b)) (length b.output) ≡ true) where
        served : TraceLeft
        served = record {
          result = 0;
          tables = encode (state_after b).tables;
          store = (state_after b).store;
          output = written (trace_of b) b.output;
          size = length (trace_of b);
        }

        is_served : served ≡ trace_lent b
        unfolding served trace_lent trace_refusal ◌when◌else◌
        is_served = rw (eq-eqb (length b.tables) image_size image_long, eq-eqb (length b.store) 16384 store_long, good, fits)

        pub whole : {tables' store' output' : List ℕ} {total : ℕ} → Appends (trace_of b) b.output output' 0 total
            → LeavesDock (state_after b) tables' store' → TracesLent b 0 tables' store' output' total
        unfolding served
        whole {output' = output'} {total = total} put left =
            let is = is_served in
            record {
              result = λ i. (is i).result;
              tables = left.tables ∙ λ i. (is i).tables;
              store = left.store ∙ λ i. (is i).store;
              output = (write_tested (trace_of b) b.output output' total fits put).output ∙ λ i. (is i).output;
              size = measured (trace_of b) b.output output' total put ∙ λ i. (is i).size;
              decoded = λ z. left.decoded;
            }
