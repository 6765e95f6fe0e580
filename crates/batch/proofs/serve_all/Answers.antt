-- Before each request `Going` holds.
use Prim.Native.Nat.{◌<◌, ◌+◌, ◌-◌, ◌*◌}
use native.Mathlib.Omega.{arith}
use mathlib.Core.Path.{sym, ap, ◌∙◌}
use lib.ListN.{length-take, length-drop}
use Rattle.std.proofs.Common.{rules}
use Rattle.lists.proofs.Front.{rest_part}
use Rattle.machine.specs.Numbers.{request_width, request_of, answer_width}
use Rattle.image.proofs.RoundTrip.{image_whole}
use Rattle.lending.specs.Numbers.{count_of}
use Rattle.batch.proofs.Steps.{begins, still_image, next, ends}
use Rattle.batch.proofs.serve_all.Goals as goal

pub loop-i-init : goal.loop-i-init
loop-i-init c =
    let a = c.args in
    begins a.tables.now a.store.now a.sheets.now a.requests.now a.answers.now
    (λ j. search rules) c.requires.0 c.requires.1.0.store c.requires.1.1

pub request-a-requires : goal.request-a-requires
request-a-requires c =
    let so = c.loop-i.invariant in
    let more : c.loop-i.i < count_of c.args.requests.now = omega arith in
    record {
      is = still_image _ _ _ _ _ _ _ so;
      order = so.order;
      lengths = record {
        store = so.long;
        sheet = simp (length-take, length-drop) (omega (arith, so.sheets.size, c.requires.1.0.sheets, more));
      };
    }

pub loop-i-preserved : goal.loop-i-preserved
loop-i-preserved c =
    let so = c.loop-i.invariant in
    let i = c.loop-i.i in
    let more : i < count_of c.args.requests.now = omega arith in
    let served = c.request-a in
    next _ _ _ _ _ _ _ so (64 * i + 64 - 64 * i) (omega arith)
    (simp (length-take, length-drop) (omega (arith, so.sheets.size, c.requires.1.0.sheets, more))) _
    (c.request_in-r.ensures ∙ ap request_of (rest_part c.args.requests.now (request_width * i))) served.result _ _ _ served.ensures
    _ (answer_width * i + answer_width - answer_width * i) _ (served.auto.store ∙ so.long)
    (served.auto.sheet ∙ simp (length-take, length-drop) (omega (arith, so.sheets.size, c.requires.1.0.sheets, more)))
    more c.requires.1.0.sheets c.requires.1.0.answers (omega arith)
    c.put_answer.ensures

pub shape_of-tables : goal.shape_of-tables
shape_of-tables c =
    image_whole _ (still_image _ _ _ _ _ _ _ c.loop-i.invariant) ∙ sym (image_whole c.args.tables.now c.requires.0)

pub returns : goal.returns
returns c = ends _ _ _ _ _ _ _ c.loop-i.invariant _ (omega (arith, c.loop-i.auto.i-end)) c.requires.1.0.sheets c.requires.1.0.answers
