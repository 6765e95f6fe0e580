-- Under the head of a chain: grants that have its dock name, and the recalls of such grants. In tables in order that is all that is at the
-- head or under it, so that nothing has to be walked.
use Rattle.std.specs.Prelude.{ℕ, ◌/◌, ◌≡◌, Bool, true, ◌&&◌, ◌||◌, eqb}
use Rattle.tables.specs.declared.{Name.Name, Ticket.Ticket, Tables.Tables}
use Rattle.tables.specs.Kinds.{is_live, is_grant, is_head, is_recall}
use Rattle.tables.specs.Names.{name_of, eq_name}
use Rattle.tables.specs.Lookup.{lookup}
use Rattle.tables.specs.Chains.{own_name, at_or_under, chain_head}
use Rattle.image_pads.specs.Places.{on_pad}

-- a grant with the dock name d
unfoldable pub docked_by : Name → Ticket → Bool
docked_by d k = is_grant k.kind && eq_name k.dock d

-- the ticket k named n is such a grant, or a recall that stands under one
abbrev pub docked_with : Tables → Name → Name → Ticket → Bool
docked_with t d n k = docked_by d k || (is_recall k.kind && docked_by d (lookup t (own_name n k)))

unfoldable pub docked_to : Tables → Name → Name → Bool
docked_to t d n = docked_with t d n (lookup t n)

-- what removal of a head needs; all of it is part of T3, T4 and T6
pub record Heads (t : Tables) : Type 0 where
  pub under : (h n : Name) → is_head (lookup t h).kind ≡ true → is_live (lookup t n).kind ≡ true
      → at_or_under t h n ≡ (eqb n.pad h.pad && docked_to t h n)
  pub head : (n : Name) → is_grant (lookup t n).kind ≡ true → chain_head t n ≡ (lookup t n).dock
  pub kind : (n : Name) → is_grant (lookup t n).kind ≡ true → is_head (lookup t (lookup t n).dock).kind ≡ true

-- by place: what stands in place i of d's pad
unfoldable pub docked_on : Tables → Name → ℕ → Bool
docked_on t d i = docked_with t d (name_of d.pad (i / 8) 0) (on_pad t d.pad i)
