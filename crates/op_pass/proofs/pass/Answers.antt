use native.Mathlib.Omega.{arith}
use mathlib.Core.Path.{refl, sym, subst}
use Rattle.image.specs.Image.{decode}
use Rattle.op_form.proofs.Laws.{sender_possible, pass_fields}
use Rattle.op_outcome.proofs.Laws.{leaves}
use Rattle.op_pass.specs.Decides.{DecidesFor}
use Rattle.op_pass.proofs.Steps.{may_be_refused, refused, first_fits, passed}
use Rattle.op_pass.proofs.pass.Goals as goal

pub refuse-requires : goal.refuse-requires
refuse-requires c =
    let found = c.allowed-d.ensures.ticket in
    (c.requires.0, may_be_refused (decode c.args.image.now) c.args.r c.requires.1.0 c.requires.1.1 (subst (DecidesFor (decode c.args.image.now) c.args.r) c.in-Err.is c.allowed-d.ensures.found) _ found _ c.into.ensures)

pub returns-in-Err : goal.returns-in-Err
returns-in-Err c =
    let found = c.allowed-d.ensures.ticket in
    refused (decode c.args.image.now) c.args.r c.requires.1.0 c.requires.1.1 (subst (DecidesFor (decode c.args.image.now) c.args.r) c.in-Err.is c.allowed-d.ensures.found) _ found _ c.into.ensures c.refuse.ensures

pub give-requires : goal.give-requires
give-requires c =
    (c.requires.0, sender_possible c.args.r c.requires.1.1.early)

pub grant-requires : goal.grant-requires
grant-requires c =
    let found = c.allowed-d.ensures.ticket in
    let fields = pass_fields c.args.r c.requires.1.1.early c.requires.1.1.number in
    let fits = first_fits (decode c.args.image.now) c.args.r c.requires.1.0 c.requires.1.1 (subst (DecidesFor (decode c.args.image.now) c.args.r) c.in-Ok.is c.allowed-d.ensures.found) _ found in
    (c.give.ensures.is, (fields.recipient, omega (arith, fits, fields.first)))

pub returns : goal.returns
returns c =
    let found = c.allowed-d.ensures.ticket in
    λ store sheet. leaves (record { is = c.grant.ensures.is; tables = refl }) c.accepted.ensures
    (passed (decode c.args.image.now) c.args.r c.requires.1.0 c.requires.1.1 (subst (DecidesFor (decode c.args.image.now) c.args.r) c.in-Ok.is c.allowed-d.ensures.found) _ found c.recall-recall.ensures
    c.give.ensures.tables c.grant.ensures.tables store sheet)
