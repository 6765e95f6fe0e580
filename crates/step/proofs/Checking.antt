-- The dock's own check over lent bytes: what the order test refuses, and past it the check of the entry that was found.
use Prim.Native.Nat.{ℕ}
use mathlib.Core.Path.{◌≡◌, sym, refl, ◌∙◌}
use mathlib.Core.List.{List}
use lib.ListN.{length}
use Rattle.tables.specs.declared.{Name.Name}
use Rattle.machine.specs.declared.Refusal.{Refusal}
use Rattle.machine.specs.Refusal.{◌when◌else◌, number_of}
use Rattle.machine.specs.Dock.{dock_refusal, dock_check}
use Rattle.machine.proofs.RefusalLaws.{never_zero}
use Rattle.image.specs.Layout.{image_size}
use Rattle.image.specs.Image.{decode}
use Rattle.lending.specs.Host.{order_of, check_image}
use Rattle.lending.proofs.Refusals.{tables_order, order_long, order_good, check_refused, check_asked}

module _ (bytes : List ℕ) (n : Name) (sheet right : ℕ) where
  pub check_stopped : (refusal : Refusal) → number_of refusal ≡ order_of bytes → number_of refusal ≡ check_image bytes n.pad n.program n.number sheet right
  check_stopped refusal e = check_refused bytes n.pad n.program n.number sheet right e (never_zero refusal)

  pub check_past : {m : ℕ} → m ≡ dock_refusal (decode bytes) n sheet right → 0 ≡ order_of bytes → m ≡ check_image bytes n.pad n.program n.number sheet right
  unfolding dock_check ◌when◌else◌
  check_past c e =
      let order = tables_order bytes (order_good bytes (sym e)) in
      check_asked bytes n.pad n.program n.number sheet right e refl (c ∙ rw order)

pub image_long : (bytes : List ℕ) → 0 ≡ order_of bytes → length bytes ≡ image_size
image_long bytes e = order_long bytes (sym e)

pub ruleset check_parts = (check_stopped, check_past, image_long)
