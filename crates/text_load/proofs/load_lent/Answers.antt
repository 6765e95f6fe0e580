-- Each return is one case of the tests before it.
use Prim.Native.Nat.{ℕ}
use mathlib.Core.Path.{◌≡◌, sym, ap, ◌∙◌}
use native.Mathlib.Omega.{arith}
use borrow.Author.Rules.{rules}
use lib.ListN.{length, replicate}
use Rattle.image.specs.Layout.{image_size}
use Rattle.text_load.proofs.WholeLoad.{other_length, other_form, read_whole, not_in_order, accepted}
use Rattle.text_load.proofs.load_lent.Goals as goal

pub returns-in_default : goal.returns-in_default
returns-in_default c = other_length c.args.tables.now c.args.text.now c.in_default.ensures.cases

pub read_text-requires : goal.read_text-requires
read_text-requires c =
    let long : length c.in-Some.image.now ≡ image_size = omega arith in
    c.clear.ensures ∙ ap (λ n. replicate {A = ℕ} n 0) long

pub returns-then-not-read_text : goal.returns-then-not-read_text
returns-then-not-read_text c =
    other_form c.args.tables.now c.args.text.now c.in-Some.ensures.cases.long (sym c.read_text.ensures.answer ∙ c.if-not-read_text.true) _
    (c.clear-then-not-read_text.ensures ∙ ap (λ n. replicate {A = ℕ} n 0) c.read_text.array_long)

pub put_docks-requires : goal.put_docks-requires
put_docks-requires c = (c.read_text.ensures.tables c.if-not-read_text.false).is

pub returns-then-not-image_in_order : goal.returns-then-not-image_in_order
returns-then-not-image_in_order c =
    let long = c.in-Some.ensures.cases.long in
    let formed = sym c.read_text.ensures.answer ∙ c.if-not-read_text.false in
    let held = read_whole c.args.tables.now c.args.text.now long _ _ (c.read_text.ensures.tables c.if-not-read_text.false) c.put_docks.ensures in
    not_in_order c.args.tables.now c.args.text.now long formed _ held (sym c.image_in_order.ensures ∙ c.if-not-image_in_order.true) _
    (c.clear-then-not-image_in_order.ensures ∙ ap (λ n. replicate {A = ℕ} n 0) c.put_docks.array_long)

pub returns : goal.returns
returns c =
    let long = c.in-Some.ensures.cases.long in
    let formed = sym c.read_text.ensures.answer ∙ c.if-not-read_text.false in
    let held = read_whole c.args.tables.now c.args.text.now long _ _ (c.read_text.ensures.tables c.if-not-read_text.false) c.put_docks.ensures in
    accepted c.args.tables.now c.args.text.now long formed _ held (sym c.image_in_order.ensures ∙ c.if-not-image_in_order.false)
    (search rules)
