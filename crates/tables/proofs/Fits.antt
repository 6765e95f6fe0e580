-- What owning a value of the tables' types tells: the arrays' lengths, and that each number fits 16 bits, at every depth. A parameter p:
-- `program_fits c.good.0`; the result of a call f: `program_fits c.f.ok`.
use Prim.Native.Nat.{ℕ, zero, suc, ◌<◌}
use native.Mathlib.Omega.{arith}
use mathlib.Core.Path.{◌≡◌, refl, sym, ap, ◌∙◌, subst}
use mathlib.Core.List.{List, [], ◌∷◌, map}
use lib.ListN.{length, get_or, length-map}
use mir.Val.{Val}
use denote.Array.{each}
use denote.Shadow.{shadow}
use denote.RattleType.{RattleType}
use denote.Builtin.{Array, One}
use denote.Struct.Field.{Field, row_field, array_field}
use Rattle.rights.specs.declared.Rights.{Rights}
use Rattle.rights.specs.contracts.Rights as rights
use Rattle.tables.specs.declared.{Name.Name, Ticket.Ticket, Program.Program, Entry.Entry}
use Rattle.tables.specs.contracts.Name as name
use Rattle.tables.specs.contracts.Ticket as ticket
use Rattle.tables.specs.contracts.Program as program
use Rattle.tables.specs.contracts.Entry as entry

-- ---- any field
-- x is owned, at some machine values
abbrev pub Owned : (F : Field) → F.Value → Type 0
Owned F x = (vs : List Val) × shadow (F.row.own_val (F.into x) vs)

each_at : (F : Field) (xs : List F.Value) (us : List Val) (i : ℕ) (d : F.Value) → i < length xs → shadow (each F.row.Denot F.row.own_val (map F.into xs) us) → Owned F (get_or xs i d)
each_at F [] us i d h p = absurd (omega arith)
each_at F (x ∷ xs) [] i d h p = absurd p
each_at F (x ∷ xs) (u ∷ us) zero d h p = (u ∷ [], p.0)
each_at F (x ∷ xs) (u ∷ us) (suc i) d h p = each_at F xs us i d (omega arith) p.1

module _ (F : Field) (n : ℕ) (xs : List F.Value) where
  pub array_long : Owned (array_field F n) xs → length xs ≡ n
  array_long o = sym (length-map xs F.into) ∙ o.1.1.0.1

  pub array_at : Owned (array_field F n) xs → (i : ℕ) (d : F.Value) → i < n → Owned F (get_or xs i d)
  array_at o i d h =
      let e : length xs ≡ n = array_long o in
      each_at F xs o.1.0 i d (omega arith) o.1.1.1

-- a struct's field that is an array stands at the array's own row
array_owned : (R : RattleType) (one : One R.mir) (n : ℕ) (xs : List R.Denot) → Owned (row_field (Array R one n)) xs → Owned (array_field (row_field R) n) xs
array_owned R one n xs o =
    (o.0, subst (λ (ys : List R.Denot). shadow ((Array R one n).own_val ys o.0)) (sym (map_same xs)) o.1)
  where
    map_same : (ys : List R.Denot) → map (λ (y : R.Denot). y) ys ≡ ys
    map_same [] = refl
    map_same (y ∷ ys) = ap (λ (zs : List R.Denot). y ∷ zs) (map_same ys)

-- ---- the tables' types
pub record NameFits (x : Name) : Type 0 where
  pub pad : x.pad < 65536
  pub program : x.program < 65536
  pub number : x.number < 65536

pub name_fits : (x : Name) → Owned name.the_field x → NameFits x
name_fits x o = record { pad = o.1.1.1.0.1; program = o.1.1.1.1.0.1; number = o.1.1.1.1.1.0.1 }

pub rights_fits : (x : Rights) → Owned rights.the_field x → x.bits < 65536
rights_fits x o = o.1.1.1.0.1

pub record TicketFits (x : Ticket) : Type 0 where
  pub number : x.number < 65536
  pub own : x.own < 65536
  pub other : NameFits x.other
  pub first : x.first < 65536
  pub count : x.count < 65536
  pub rights : x.rights.bits < 65536
  pub dock : NameFits x.dock

pub ticket_fits : (x : Ticket) → Owned ticket.the_field x → TicketFits x
ticket_fits x o =
    let f = o.1.1.1.1 in
    record {
      number = f.0.1;
      own = f.1.0.1;
      other = name_fits x.other (_, f.1.1.0);
      first = f.1.1.1.0.1;
      count = f.1.1.1.1.0.1;
      rights = rights_fits x.rights (_, f.1.1.1.1.1.0);
      dock = name_fits x.dock (_, f.1.1.1.1.1.1.0);
    }

pub record ProgramFits (x : Program) : Type 0 where
  pub long : length x.tickets ≡ 8
  pub ticket : (i : ℕ) (d : Ticket) → i < 8 → TicketFits (get_or x.tickets i d)
  pub last : x.last < 65536

pub program_fits : (x : Program) → Owned program.the_field x → ProgramFits x
program_fits x o =
    let f = o.1.1.1 in
    let tickets : Owned (array_field (row_field ticket.the_row) 8) x.tickets = array_owned ticket.the_row (tt {0}) 8 x.tickets (_, f.0) in
    record {
      long = array_long (row_field ticket.the_row) 8 x.tickets tickets;
      ticket = λ i d h. ticket_fits _ (array_at (row_field ticket.the_row) 8 x.tickets tickets i d h);
      last = f.1.0.1;
    }

pub record EntryFits (x : Entry) : Type 0 where
  pub name : NameFits x.name
  pub parent : NameFits x.parent
  pub first : x.first < 65536
  pub count : x.count < 65536
  pub rights : x.rights.bits < 65536

pub entry_fits_lem : (x : Entry) → Owned entry.the_field x → EntryFits x
entry_fits_lem x o =
    let f = o.1.1.1.1 in
    record {
      name = name_fits x.name (_, f.0);
      parent = name_fits x.parent (_, f.1.0);
      first = f.1.1.0.1;
      count = f.1.1.1.0.1;
      rights = rights_fits x.rights (_, f.1.1.1.1.0);
    }
