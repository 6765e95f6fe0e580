-- What emptying leaves: where the image has another length, where the store has, and where both have their own.
use Prim.Native.Nat.{ℕ}
use mathlib.Core.Path.{◌≡◌, sym, ap, ◌∙◌}
use mathlib.Core.List.{List}
use lib.ListN.{length, replicate}
use borrow.Author.Tests.{eq-eqb, ne_eqb}
use Rattle.tables.specs.Names.{empty_tables}
use Rattle.machine.specs.Empty.{emptied}
use Rattle.preservation.proofs.EmptyDockInOrder.{empty_sized}
use Rattle.image.specs.Layout.{image_size}
use Rattle.image.specs.Image.{encode, decode}
use Rattle.image.proofs.EmptyImage.{empty_zeros, zeros_empty}
use Rattle.lending.specs.Host.{EmptiedImage, empty_image, EmptiesImage}

abbrev emptied_to : ℕ → List ℕ → List ℕ → EmptiedImage
emptied_to result tables store = record { result = result; tables = tables; store = store }

module _ (tables store : List ℕ) where
  as_emptied : (result' : ℕ) (tables' store' : List ℕ) → emptied_to result' tables' store' ≡ empty_image tables store
      → (length tables ≡ image_size → decode tables' ≡ empty_tables) → EmptiesImage tables store result' tables' store'
  as_emptied result' tables' store' is read = record {
    result = λ i. (is i).result;
    tables = λ i. (is i).tables;
    store = λ i. (is i).store;
    decoded = read;
  }

  pub not_emptied : (length tables ≡ image_size → ⊥) → EmptiesImage tables store 13 tables store
  unfolding empty_image
  not_emptied h = as_emptied 13 tables store (rw (ne_eqb (length tables) image_size h)) (λ long. absurd (h long))

  module _ (long : length tables ≡ image_size) (zeros : List ℕ) (cleared : zeros ≡ replicate (length tables) 0) where
    all_zeros : zeros ≡ replicate image_size 0
    all_zeros = cleared ∙ ap (λ (n : ℕ). replicate {A = ℕ} n 0) long

    zero_image : zeros ≡ encode empty_tables
    zero_image = all_zeros ∙ sym empty_zeros

    read_empty : decode zeros ≡ empty_tables
    read_empty = ap decode all_zeros ∙ zeros_empty empty_sized

    pub tables_emptied : (length store ≡ 16384 → ⊥) → EmptiesImage tables store 13 zeros store
    unfolding empty_image emptied
    tables_emptied h =
        as_emptied 13 zeros store
        (ap (λ (t : List ℕ). emptied_to 13 t store) zero_image ∙ rw (eq-eqb (length tables) image_size long, ne_eqb (length store) 16384 h)) (λ h. read_empty)

    pub all_emptied : length store ≡ 16384 → (bytes : List ℕ) → bytes ≡ replicate (length store) 0 → EmptiesImage tables store 0 zeros bytes
    unfolding empty_image emptied
    all_emptied whole bytes f =
        as_emptied 0 zeros bytes
        ((λ i. emptied_to 0 (zero_image i) ((f ∙ ap (λ (n : ℕ). replicate {A = ℕ} n 0) whole) i))
        ∙ rw (eq-eqb (length tables) image_size long, eq-eqb (length store) 16384 whole)) (λ h. read_empty)
