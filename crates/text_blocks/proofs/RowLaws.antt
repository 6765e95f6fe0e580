-- The lines as the code makes them are those of the definitions.
use Prim.Native.Nat.{ℕ, ◌+◌, ◌*◌, ◌/◌, ◌%◌, ◌<◌}
use native.Mathlib.Omega.{arith}
use mathlib.Core.Path.{◌≡◌, sym, ap, ◌∙◌}
use mathlib.Core.Bool.{cond}
use mathlib.Core.List.{List}
use lib.ListN.{get_or}
use Rattle.tables.specs.declared.{Name.Name, Kind.Kind, Ticket.Ticket, Entry.Entry}
use Rattle.tables.specs.Names.{no_name, is_none}
use Rattle.tables.specs.Same.{said_by, said_entry}
use Rattle.image.specs.Image.{kind_number, decode}
use Rattle.image_read.specs.Places.{lasts_in}
use Rattle.image_find.proofs.Laws.{flattened}
use Rattle.saved.specs.declared.Row.{Row}
use Rattle.saved.specs.Save.{last_row, ticket_row, entry_row}
use Rattle.text_blocks.specs.Rows.{number_row}

-- a ticket's line, by its kind
abbrev pub row_by : ℕ → ℕ → Ticket → Kind → Row
row_by pad program k kind =
    let s = said_by kind k in
    record {
      kind = kind_number s.kind;
      pad = pad;
      program = program;
      number = s.number;
      own = s.own;
      other = s.other;
      first = s.first;
      count = s.count;
      rights = s.rights.bits;
    }

pub row_by_lem : (pad program : ℕ) (k : Ticket) (kind : Kind) → k.kind ≡ kind → row_by pad program k kind ≡ ticket_row pad program k
unfolding ticket_row
row_by_lem pad program k kind e = sym (ap (row_by pad program k) e)

-- an entry's line, with the parent that the code has found
abbrev row_with : Entry → Name → Row
row_with e parent = record {
  kind = 5;
  pad = e.name.pad;
  program = e.name.program;
  number = e.name.number;
  own = 0;
  other = parent;
  first = e.first;
  count = e.count;
  rights = e.rights.bits;
}

pub row_with_lem : (e : Entry) (parent : Name) → parent ≡ cond (is_none e.parent) no_name e.parent → row_with e parent ≡ entry_row e
unfolding entry_row said_entry
row_with_lem e parent is = ap (row_with e) is

-- a program's last number
pub last_row_lem : (image : List ℕ) (program last : ℕ) → program < 32 → last ≡ get_or (lasts_in image) program 0
    → number_row (program / 8) (program % 8) last ≡ last_row (decode image) program
unfolding last_row
last_row_lem image program last low is =
    let z : 8 * (program / 8) + program % 8 ≡ program = omega arith in
    ap (number_row (program / 8) (program % 8))
    (is ∙ ap (λ (i : ℕ). get_or (lasts_in image) i 0) (sym z) ∙ (flattened image).last (program / 8) (program % 8) (omega arith) (omega arith))
