-- The whole load: what each answer leaves.
use Prim.Native.Nat.{ℕ, ◌<◌}
use mathlib.Core.Path.{◌≡◌, refl, sym, ap, ◌∙◌}
use mathlib.Core.Bool.{true, false, ◌&&◌, cond}
use mathlib.Core.List.{List}
use lib.Dec.{eqb}
use lib.ListN.{length, get_or, replicate}
use borrow.Author.Tests.{eq-eqb, ne_eqb}
use Rattle.tables.specs.Names.{empty_tables}
use Rattle.tables.specs.Order.{in_order}
use Rattle.machine.specs.Refusal.{◌when◌else◌}
use Rattle.image.specs.Layout.{image_size}
use Rattle.image.specs.Image.{encode, decode, is_image}
use Rattle.image.proofs.RoundTrip.{encode_decode}
use Rattle.image.proofs.EmptyImage.{empty_zeros, zeros_empty}
use Rattle.image_write.specs.Shows.{Holds}
use Rattle.preservation.proofs.EmptyDockInOrder.{empty_sized}
use Rattle.saved.specs.Load.{rows_in, last_in, tables_from, tables_in, form_ok, load_refusal, load}
use Rattle.lending.specs.Saved.{load_lent, LoadsLent}
use Rattle.text_fill.specs.Filling.{bare_tables}
use Rattle.text_docks.specs.Docks.{Docked}
use Rattle.text_docks.proofs.Loaded.{holds_docked}

module _ (image text : List ℕ) where
  pub other_length : (length image ≡ image_size → ⊥) → LoadsLent image text 13 image
  unfolding load_lent
  other_length ne =
      let e = ne_eqb (length image) image_size ne in
      record { result = rw e; tables = rw e; decoded = λ l. absurd (ne l) }

  module _ (long : length image ≡ image_size) where
    -- as the definition has it, for an image of its length
    as_loaded : (n : ℕ) (image' : List ℕ) → n ≡ (load text).result → image' ≡ encode (load text).tables → decode image' ≡ (load text).tables
        → LoadsLent image text n image'
    unfolding load_lent
    as_loaded n image' a b d =
        let e = eq-eqb (length image) image_size long in
        record { result = a ∙ rw e; tables = b ∙ rw e; decoded = λ l. d }

    -- 18 and 14 leave empty tables
    refused : (n : ℕ) → n ≡ (load text).result → eqb n 0 ≡ false → (image' : List ℕ) → image' ≡ replicate image_size 0 → LoadsLent image text n image'
    unfolding load
    refused n e ne image' zeros =
        let empty : (load text).tables ≡ empty_tables = ap (λ (k : ℕ). cond (eqb k 0) (tables_in text) empty_tables) (sym e) ∙ rw ne in
        as_loaded n image' e (zeros ∙ sym empty_zeros ∙ ap encode (sym empty)) (ap decode zeros ∙ zeros_empty empty_sized ∙ sym empty)

    pub other_form : form_ok text ≡ false → (image' : List ℕ) → image' ≡ replicate image_size 0 → LoadsLent image text 18 image'
    unfolding load load_refusal ◌when◌else◌
    other_form e = refused 18 (rw e) refl

    -- the tables that were read, with their dock names
    pub read_whole : (image₁ image₂ : List ℕ) → Holds image₁ (bare_tables (rows_in text)) → Docked image₁ image₂ → Holds image₂ (tables_in text)
    unfolding tables_in tables_from
    read_whole image₁ image₂ = holds_docked (last_in (rows_in text)) (rows_in text) image₁ image₂

    module _ (formed : form_ok text ≡ true) (image' : List ℕ) (h : Holds image' (tables_in text)) where
      order_told : (is_image image' && in_order (decode image')) ≡ in_order (tables_in text)
      order_told = λ i. h.is i && in_order (h.tables i)

      pub not_in_order : (is_image image' && in_order (decode image')) ≡ false → (image'' : List ℕ) → image'' ≡ replicate image_size 0
          → LoadsLent image text 14 image''
      unfolding load load_refusal ◌when◌else◌
      not_in_order e = refused 14 (rw (formed, sym order_told ∙ e)) refl

      pub accepted : (is_image image' && in_order (decode image')) ≡ true → ((j : ℕ) → get_or image' j 0 < 256) → LoadsLent image text 0 image'
      unfolding load load_refusal ◌when◌else◌
      accepted e small =
          let done : 0 ≡ load_refusal text = rw (formed, sym order_told ∙ e) in
          let tables : (load text).tables ≡ tables_in text = ap (λ (k : ℕ). cond (eqb k 0) (tables_in text) empty_tables) (sym done) in
          as_loaded 0 image' done (sym (encode_decode image' small h.is) ∙ ap encode (h.tables ∙ sym tables)) (h.tables ∙ sym tables)
