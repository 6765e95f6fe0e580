use native.Mathlib.Omega.{arith}
use Rattle.image.specs.Image.{decode}
use Rattle.op_refusals.specs.Found.{Found}
use Rattle.op_refusals.proofs.Parts.{room_decides}
use Rattle.op_form.proofs.Laws.{sender_possible, pass_fields}
use Rattle.op_pass.proofs.allowed_by.Goals as goal

pub seat-p-requires : goal.seat-p-requires
seat-p-requires c = sender_possible c.args.r c.requires.early

pub seat-q-requires : goal.seat-q-requires
seat-q-requires c = (pass_fields c.args.r c.requires.early c.requires.number).recipient

pub returns-in_err-pass_room : goal.returns-in_err-pass_room
returns-in_err-pass_room c = λ found.
    let t = decode c.args.image.now in
    let all : Found t c.args.r c.args.k c.seat-p.result c.seat-q.result c.is_lost-lost.result
    = record { asker = c.seat-p.ensures; recipient = c.seat-q.ensures; entry = c.is_lost-lost.ensures } in
    let told = room_decides t c.args.r c.args.k found c.in_ok-pass_ticket.ensures all c.in_err-pass_room.ensures in
    grind (arith, told)
