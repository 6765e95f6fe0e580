-- Two states that a group cannot tell apart (`Alike`), and a step that it does not notice (`Quiet`). Where the sheets lie may differ: the
-- group's tickets and entries are equal but for their first sheet, a grant lies at the same offset in the entry of its dock name, two of
-- its entries share a sheet here exactly where they share it there, and its sheets hold the same bytes. Offsets are written with sums.
-- None of this is part of the claim: it is what the induction carries.
use Rattle.std.specs.Prelude.{ℕ, ◌+◌, ◌<◌, ◌≡◌, ◌↔◌, true, map}
use Rattle.tables.specs.declared.{Name.Name, Ticket.Ticket, Entry.Entry, Tables.Tables}
use Rattle.tables.specs.Kinds.{is_grant}
use Rattle.tables.specs.Lookup.{program_at, tickets_of, last_of, lookup, entry_of}
use Rattle.machine.specs.State.{State, sheet_at}
use Rattle.machine.specs.Sequence.{Group}
use Rattle.machine.specs.Isolation.{owns, Unlinked}
use Rattle.preservation.specs.InOrder.{DockOk}

-- a ticket and an entry without their first sheet
abbrev pub blur : Ticket → Ticket
blur k = record { kind = k.kind; number = k.number; own = k.own; other = k.other; first = 0; count = k.count; rights = k.rights; dock = k.dock }

abbrev pub blur_entry : Entry → Entry
blur_entry e = record { live = e.live; name = e.name; parent = e.parent; first = 0; count = e.count; rights = e.rights }

-- sheet number a of the entry n is a sheet of the group's
pub record Mine (g : Group) (t : Tables) (n : Name) (a : ℕ) : Type 0 where
  pub own : owns g n ≡ true
  pub live : (entry_of t n).live ≡ true
  pub low : a < (entry_of t n).count

-- the sheet of the store that it is
abbrev pub sheet_in : Tables → Name → ℕ → ℕ
sheet_in t n a = (entry_of t n).first + a

-- a dock in order in which no link joins the group to the others
pub record Parted (g : Group) (s : State) : Type 0 where
  pub dock : DockOk s
  pub unlinked : Unlinked g s.tables

pub record Alike (g : Group) (s u : State) : Type 0 where
  pub here : Parted g s
  pub there : Parted g u
  pub lasts : (p q : ℕ) → g p q ≡ true → last_of s.tables p q ≡ last_of u.tables p q
  pub tickets : (p q : ℕ) → g p q ≡ true → map blur (tickets_of s.tables p q) ≡ map blur (tickets_of u.tables p q)
  pub entries : (n : Name) → owns g n ≡ true → blur_entry (entry_of s.tables n) ≡ blur_entry (entry_of u.tables n)
  -- a grant's offset in the entry of its dock name
  pub offset : (n : Name) → owns g n ≡ true → is_grant (lookup s.tables n).kind ≡ true → (entry_of s.tables (lookup s.tables n).dock).live ≡ true
      → (lookup s.tables n).first + (entry_of u.tables (lookup s.tables n).dock).first
      ≡ (lookup u.tables n).first + (entry_of s.tables (lookup s.tables n).dock).first
  -- two entries share a sheet here exactly where they share it there
  pub overlap : (n m : Name) (a b : ℕ) → Mine g s.tables n a → Mine g s.tables m b
      → (sheet_in s.tables n a ≡ sheet_in s.tables m b) ↔ (sheet_in u.tables n a ≡ sheet_in u.tables m b)
  pub bytes : (n : Name) (a : ℕ) → Mine g s.tables n a → sheet_at (sheet_in s.tables n a) s.store ≡ sheet_at (sheet_in u.tables n a) u.store

-- from s to s' nothing of the group's has changed
pub record Quiet (g : Group) (s s' : State) : Type 0 where
  pub after : Parted g s'
  pub programs : (p q : ℕ) → g p q ≡ true → program_at s'.tables p q ≡ program_at s.tables p q
  pub entries : (n : Name) → owns g n ≡ true → entry_of s'.tables n ≡ entry_of s.tables n
  pub bytes : (n : Name) (a : ℕ) → Mine g s.tables n a → sheet_at (sheet_in s.tables n a) s'.store ≡ sheet_at (sheet_in s.tables n a) s.store
