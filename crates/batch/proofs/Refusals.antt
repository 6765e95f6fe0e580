-- What the batch leaves where it is refused, and where all of it was served.
use Prim.Native.Nat.{ℕ}
use native.Mathlib.Omega.{arith}
use mathlib.Core.Path.{◌≡◌, sym, ap, ◌∙◌}
use mathlib.Core.Bool.{Bool, true, false, not, ◌&&◌}
use mathlib.Core.List.{List}
use lib.ListN.{length}
use borrow.Author.Tests.{ne_eqb}
use Rattle.lists.proofs.Tests.{and_l, and_r, passed, failed}
use Rattle.tables.specs.Order.{in_order}
use Rattle.machine.specs.Refusal.{◌when◌else◌}
use Rattle.image.specs.Layout.{image_size}
use Rattle.image.specs.Image.{decode, is_image}
use Rattle.lending.specs.Numbers.{count_of}
use Rattle.lending.specs.Sequence.{Whole, AllServed}
use Rattle.lending.specs.Batch.{Buffers, buffers_fit, tables_ok, batch_refusal, start_of, all_served, untouched, batch, Leaves}
use Rattle.lending.proofs.Lengths.{fit}
use Rattle.lending.proofs.Refusals.{tables_told}

-- ---- lengths
pub whole : (b : Buffers) → buffers_fit b ≡ true → Whole (count_of b.requests) b.store b.sheets b.requests b.answers
whole b h =
    let f = fit (length b.tables) (length b.store) (length b.sheets) (length b.requests) (length b.answers) h in
    record { store = f.store; sheets = f.sheets; requests = f.requests; answers = f.answers }

pub image_whole : (b : Buffers) → buffers_fit b ≡ true → length b.tables ≡ image_size
image_whole b h =
    (fit (length b.tables) (length b.store) (length b.sheets) (length b.requests) (length b.answers) h).tables

-- ---- a batch that is refused
is_refused : (b : Buffers) (n : ℕ) → batch_refusal b ≡ n → (n ≡ 0 → ⊥) → untouched b n ≡ batch b
unfolding batch
is_refused b n e ne = rw (e, ne_eqb n 0 ne)

refused_leaves : (b : Buffers) (n : ℕ) → batch_refusal b ≡ n → (n ≡ 0 → ⊥) → Leaves b n b.tables b.store b.sheets b.answers
unfolding untouched
refused_leaves b n e ne =
    let is = is_refused b n e ne in
    record {
      result = λ i. (is i).result;
      tables = λ i. (is i).tables;
      store = λ i. (is i).store;
      sheets = λ i. (is i).sheets;
      answers = λ i. (is i).answers;
      decoded = λ z. absurd (ne z);
    }

pub leaves_13 : (b : Buffers) → buffers_fit b ≡ false → Leaves b 13 b.tables b.store b.sheets b.answers
unfolding batch_refusal ◌when◌else◌
leaves_13 b e = refused_leaves b 13 (rw e) (λ z. omega arith)

pub leaves_14 : (b : Buffers) → buffers_fit b ≡ true → tables_ok b.tables ≡ false → Leaves b 14 b.tables b.store b.sheets b.answers
unfolding batch_refusal ◌when◌else◌
leaves_14 b h e = refused_leaves b 14 (rw (h, e)) (λ z. omega arith)

-- ---- the one test of the tables, by what its routine ensures
module _ (bytes : List ℕ) {r : Bool} (e : r ≡ (is_image bytes && in_order (decode bytes))) where
  pub tables_bad : not r ≡ true → tables_ok bytes ≡ false
  tables_bad n = failed (tables_told bytes e) n

  pub out_of_order_lem : is_image bytes ≡ true → not r ≡ true → in_order (decode bytes) ≡ false
  out_of_order_lem i n = sym (ap (λ (b : Bool). b && in_order (decode bytes)) i) ∙ failed e n

  module _ (n : not r ≡ false) where
    pub tables_ok_lem : tables_ok bytes ≡ true
    tables_ok_lem = passed (tables_told bytes e) n

    pub is_image_lem : is_image bytes ≡ true
    is_image_lem = and_l (is_image bytes) (in_order (decode bytes)) (passed e n)

    pub is_in_order : in_order (decode bytes) ≡ true
    is_in_order = and_r (is_image bytes) (in_order (decode bytes)) (passed e n)

-- ---- a batch that was served
is_served : (b : Buffers) → buffers_fit b ≡ true → tables_ok b.tables ≡ true → all_served b ≡ batch b
unfolding batch batch_refusal ◌when◌else◌
is_served b h o = rw (h, o)

pub leaves_0 : (b : Buffers) → buffers_fit b ≡ true → tables_ok b.tables ≡ true → (tables' store' sheets' answers' : List ℕ)
    → AllServed (start_of b) (count_of b.requests) tables' store' sheets' answers' → Leaves b 0 tables' store' sheets' answers'
unfolding all_served
leaves_0 b h o tables' store' sheets' answers' all =
    let is = is_served b h o in
    record {
      result = λ i. (is i).result;
      tables = all.tables ∙ λ i. (is i).tables;
      store = all.store ∙ λ i. (is i).store;
      sheets = all.sheets ∙ λ i. (is i).sheets;
      answers = all.answers ∙ λ i. (is i).answers;
      decoded = λ z. all.decoded;
    }
