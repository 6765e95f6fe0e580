-- Tables put together by hand, for examples. Rights are given by their number.
use Prim.Native.Nat.{ℕ}
use mathlib.Core.Bool.{cond}
use mathlib.Core.List.{map}
use Rattle.rights.specs.Rules.{rights_of}
use Rattle.tables.specs.declared.{Name.Name, Kind.Kind, Ticket.Ticket, Entry.Entry, Tables.Tables}
use Rattle.tables.specs.declared.Kind.TheVariants.{Taken, Received, Child}
use Rattle.tables.specs.Names.{no_name, grant_ticket, head_ticket, entry_for}
use Rattle.tables.specs.Lookup.{program_at, has_number, is_named}
use Rattle.tables.specs.Change.{with_program, give, put_entry}

abbrev pub head : Kind → Name → ℕ → ℕ → ℕ → Ticket
head kind n first count rights = head_ticket kind n first count (rights_of rights)

abbrev pub child : ℕ → Name → ℕ → ℕ → ℕ → Name → Ticket
child number parent first count rights dock = grant_ticket Child number parent first count (rights_of rights) dock

abbrev pub entry : Name → Name → ℕ → ℕ → ℕ → Entry
entry n parent first count rights = entry_for n parent first count (rights_of rights)

-- ---- added: a taken or a received grant with its entry, a received grant that the dock no longer knows
abbrev pub with_taken : Name → ℕ → ℕ → ℕ → Tables → Tables
with_taken n first count rights t =
    put_entry (give t n.pad n.program (head Taken n first count rights)) (entry n no_name first count rights)

abbrev pub with_received : Name → Name → ℕ → ℕ → ℕ → Tables → Tables
with_received n parent first count rights t =
    put_entry (give t n.pad n.program (head Received n first count rights)) (entry n parent first count rights)

abbrev pub with_stale : Name → ℕ → ℕ → ℕ → Tables → Tables
with_stale n first count rights t = give t n.pad n.program (head Received n first count rights)

-- ---- replaced: the ticket of that name, the entry of that name, both, a program's last number
unfoldable pub swap : Name → Ticket → Tables → Tables
swap n k t =
    let p = program_at t n.pad n.program in
    with_program t n.pad n.program (record { tickets = map (λ x. cond (has_number n.number x) k x) p.tickets; last = p.last })

unfoldable pub swap_entry : Name → Entry → Tables → Tables
swap_entry n e t = record { pads = t.pads; entries = map (λ x. cond (is_named n x) e x) t.entries }

unfoldable pub swap_both : Name → Ticket → Entry → Tables → Tables
swap_both n k e t = swap_entry n e (swap n k t)

abbrev pub with_last : ℕ → ℕ → ℕ → Tables → Tables
with_last pad program last t = with_program t pad program (record { tickets = (program_at t pad program).tickets; last = last })
