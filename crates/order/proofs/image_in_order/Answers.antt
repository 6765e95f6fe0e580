-- The first rule that is broken settles the answer; where none is, T6 does. p says that the kinds are among the five and that T1, T2 and T4
-- hold, x what the pass over the tickets leaves, ix that the numbers are an index of the names, e what T5 says.
use Prim.Native.Nat.{ℕ}
use native.Mathlib.Omega.{arith}
use mathlib.Core.Path.{refl, sym, ◌∙◌}
use lib.ListN.{length-replicate}
use Rattle.image.specs.Image.{decode}
use Rattle.image_read.proofs.Places.{entries_decoded}
use Rattle.image_find.proofs.Laws.{flattened, decoded_sized}
use Rattle.order_lists.proofs.Laws.{listed_front}
use Rattle.order_lists.proofs.Values.{values_front}
use Rattle.order.proofs.Numbered.{image_numbered}
use Rattle.order_programs.proofs.ThreeRules.{rule_2}
use Rattle.order.proofs.Rules.{programs_broken, chains_broken, entries_broken, rules, last_rule}
use Rattle.order.proofs.image_in_order.Goals as goal

pub returns-in_default : goal.returns-in_default
returns-in_default c =
    let image = c.args.image.now in
    programs_broken image c.told-image (decode image) (sym (c.in_default.ensures.0 (decode image) (decoded_sized image) (flattened image)))

pub chains_ok-requires : goal.chains_ok-requires
chains_ok-requires c = let x = c.in-Some.ensures.1 in listed_front _ _ _ _ _ _ x.children_listed (omega (arith, x.children_listed.most))

pub returns-then-not-chains_ok : goal.returns-then-not-chains_ok
returns-then-not-chains_ok c =
    let image = c.args.image.now in
    let p = sym (c.in-Some.ensures.0 (decode image) (decoded_sized image) (flattened image)) in
    let ix = image_numbered image c.told-image p _ c.in-Some.ensures.1.written in
    chains_broken image c.told-image (decode image) (sym (c.chains_ok.ensures (decode image) (flattened image) ix) ∙ c.if-not-chains_ok.true)

pub entries_ok-requires : goal.entries_ok-requires
entries_ok-requires c = let x = c.in-Some.ensures.1 in (listed_front _ _ _ _ _ _ x.taken_listed (omega (arith, x.taken_listed.most)), refl)

pub returns-in_default-entries_ok : goal.returns-in_default-entries_ok
returns-in_default-entries_ok c =
    let image = c.args.image.now in
    let p = sym (c.in-Some.ensures.0 (decode image) (decoded_sized image) (flattened image)) in
    let ix = image_numbered image c.told-image p _ c.in-Some.ensures.1.written in
    let e = c.in_default-entries_ok.ensures.0 (decode image) (flattened image) (entries_decoded image) ix (rule_2 (decode image) (rules image c.told-image (decode image) p)) in
    entries_broken image c.told-image (decode image) (sym e.same)

pub recalls_ok-requires : goal.recalls_ok-requires
recalls_ok-requires c = let image = c.args.image.now in let p = sym (c.in-Some.ensures.0 (decode image) (decoded_sized image) (flattened image)) in let ix = image_numbered image c.told-image p _ c.in-Some.ensures.1.written in let e = c.in-Some-entries_ok.ensures.0 (decode image) (flattened image) (entries_decoded image) ix (rule_2 (decode image) (rules image c.told-image (decode image) p)) in let x = c.in-Some.ensures.1 in let under = listed_front _ _ _ _ _ _ x.children_listed (omega (arith, x.children_listed.most)) in let back = listed_front _ _ _ _ _ _ x.recalls_listed (omega (arith, x.recalls_listed.most)) in let grants = c.in-Some-entries_ok.ensures.1 in ((under, back), values_front _ _ _ _ _ _ _ _ grants (omega (arith, grants.most)))

pub returns : goal.returns
returns c =
    let image = c.args.image.now in
    let p = sym (c.in-Some.ensures.0 (decode image) (decoded_sized image) (flattened image)) in
    let ix = image_numbered image c.told-image p _ c.in-Some.ensures.1.written in
    let e = c.in-Some-entries_ok.ensures.0 (decode image) (flattened image) (entries_decoded image) ix (rule_2 (decode image) (rules image c.told-image (decode image) p)) in
    c.recalls_ok.ensures (decode image) (record { flat = flattened image; entries = entries_decoded image; numbered = ix; noted = e.noted refl })
    ∙ last_rule image c.told-image (decode image) p (sym (c.chains_ok.ensures (decode image) (flattened image) ix) ∙ c.if-not-chains_ok.false) (sym e.same)
