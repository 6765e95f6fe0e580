-- The rules together, and what makes bytes an image: one that is broken settles the answer, and where all others hold, the last one does.
use Prim.Native.Nat.{ℕ}
use mathlib.Core.Path.{◌≡◌, sym}
use mathlib.Core.Bool.{Bool, true, false, ◌&&◌}
use mathlib.Core.List.{List}
use lib.ListN.{length}
use borrow.Author.Tests.{eq-eqb}
use Rattle.lists.proofs.Tests.{and_l, and_r, and_intro, cannot_pass, contradiction}
use Rattle.tables.specs.declared.Tables.{Tables}
use Rattle.tables.specs.Order.{t1, t2, t3, t4, t5, t6, in_order}
use Rattle.image.specs.Layout.{image_size}
use Rattle.image.specs.Image.{kinds_ok, lives_ok, is_image}
use Rattle.order_programs.proofs.ThreeRules.{rule_1, rule_2, rule_4}

module _ (image : List ℕ) (long : length image ≡ image_size) (t : Tables) where
  -- what is to be decided
  abbrev whole : Bool
  whole = is_image image && in_order t

  -- ---- T1, T2 and T4 are tested together with the kinds
  abbrev programs : Bool
  programs = kinds_ok image && (t1 t && t2 t && t4 t)

  programs_hold : whole ≡ true → programs ≡ true
  unfolding in_order is_image
  programs_hold e =
      let k : kinds_ok image ≡ true = search (and_l, and_r) depth 8 in
      let a : t1 t ≡ true = search (and_l, and_r) depth 8 in
      let b : t2 t ≡ true = search (and_l, and_r) depth 8 in
      let d : t4 t ≡ true = search (and_l, and_r) depth 8 in
      and_intro k (and_intro (and_intro a b) d)

  chains_hold : whole ≡ true → t3 t ≡ true
  unfolding in_order
  chains_hold e = search (and_l, and_r) depth 8

  -- T5 with the entries' being live or not
  entries_hold : whole ≡ true → (lives_ok image && t5 t) ≡ true
  unfolding in_order is_image
  entries_hold e =
      let l : lives_ok image ≡ true = search (and_l, and_r) depth 8 in
      let a : t5 t ≡ true = search (and_l, and_r) depth 8 in
      and_intro l a

  pub programs_broken : programs ≡ false → false ≡ whole
  programs_broken e = sym (cannot_pass whole (λ o. contradiction (programs_hold o) e))

  pub chains_broken : t3 t ≡ false → false ≡ whole
  chains_broken e = sym (cannot_pass whole (λ o. contradiction (chains_hold o) e))

  pub entries_broken : (lives_ok image && t5 t) ≡ false → false ≡ whole
  entries_broken e = sym (cannot_pass whole (λ o. contradiction (entries_hold o) e))

  module _ (hold : programs ≡ true) where
    pub rules : (t1 t && t2 t && t4 t) ≡ true
    rules = and_r (kinds_ok image) (t1 t && t2 t && t4 t) hold

    pub last_rule : t3 t ≡ true → (lives_ok image && t5 t) ≡ true → t6 t ≡ whole
    unfolding in_order is_image
    last_rule c e =
        rw (
          eq-eqb (length image) image_size long,
          and_l (kinds_ok image) (t1 t && t2 t && t4 t) hold,
          and_l (lives_ok image) (t5 t) e,
          rule_1 t rules,
          rule_2 t rules,
          c,
          rule_4 t rules,
          and_r (lives_ok image) (t5 t) e,
        )
