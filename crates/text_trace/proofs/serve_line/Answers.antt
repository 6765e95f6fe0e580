-- A line of another form gets its line and changes nothing; the request of a line in form is served, and its answer appended.
use native.Mathlib.Omega.{arith}
use borrow.Author.Rules.{rules}
use mathlib.Core.Path.{sym, subst}
use Rattle.text.specs.Appending.{Countable}
use Rattle.text.proofs.Appending.{append_as}
use Rattle.text_trace.proofs.LineServed.{same_dock, other_text, other_holds, served_text, served_holds}
use Rattle.text_trace.proofs.serve_line.Goals as goal

pub append_other-requires : goal.append_other-requires
append_other-requires c =
    let a = c.args in
    subst (Countable a.at) (other_text a.tables.now a.store.now a.line.now a.number c.in_default.ensures) c.requires.1

pub returns-in_default : goal.returns-in_default
returns-in_default c =
    let a = c.args in
    let image = a.tables.now in
    let bytes = a.store.now in
    let other = c.in_default.ensures in
    record {
      appends = append_as _ _ _ _ _ _ (sym (other_text image bytes a.line.now a.number other)) c.append_other.ensures;
      leaves_dock = other_holds image bytes a.line.now a.number other (same_dock image bytes (search rules) c.requires.0);
    }

pub request-answer-requires : goal.request-answer-requires
request-answer-requires c =
    let p = c.requires.0 in
    record { is = p.is; order = p.order; lengths = record { store = p.store; sheet = omega arith } }

pub append_answer-requires : goal.append_answer-requires
append_answer-requires c =
    let a = c.args in
    let p = c.requires in
    let text = served_text a.tables.now a.store.now a.line.now a.number _ c.in-Some.ensures p.0
    c.request-answer.result _ _ _ c.request-answer.ensures _ c.first_byte-byte.ensures in
    subst (Countable a.at) text p.1

pub returns : goal.returns
returns c =
    let a = c.args in
    let p = c.requires in
    let image = a.tables.now in
    let bytes = a.store.now in
    let line = a.line.now in
    let asked = c.in-Some.ensures in
    let answer = c.request-answer in
    let text = served_text image bytes line a.number _ asked p.0 answer.result _ _ _ answer.ensures _ c.first_byte-byte.ensures in
    record {
      appends = append_as _ _ _ _ _ _ (sym text) c.append_answer.ensures;
      leaves_dock = served_holds image bytes line a.number _ asked p.0 answer.result _ _ _ answer.ensures;
    }
