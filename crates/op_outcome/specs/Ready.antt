-- What serving a request needs of the tables. All of it follows from tables in order (op_serve/proofs/FromOrder).
use Rattle.std.specs.Prelude.{ℕ, ◌+◌, ◌≤◌, ◌≡◌, true}
use Rattle.tables.specs.declared.{Name.Name, Tables.Tables}
use Rattle.tables.specs.Kinds.{is_grant}
use Rattle.tables.specs.Lookup.{lookup}
use Rattle.machine.specs.declared.Request.{Request}
use Rattle.op_form.specs.Early.{early_refusal}
use Rattle.op_drop_entries.specs.Links.{LinkedEntries}
use Rattle.op_drop_tickets.specs.Linked.{Linked}
use Rattle.op_drop_tickets.specs.Docked.{Heads}

pub record Ready (t : Tables) : Type 0 where
  -- T1, T3, T6: parents on a pad
  pub linked : Linked t
  -- T3, T4: dock names on a pad
  pub heads : Heads t
  -- T5: parents in the dock
  pub entries : LinkedEntries t.entries
  -- T2: a grant lies within the store
  pub span : (n : Name) → is_grant (lookup t n).kind ≡ true → (lookup t n).first + (lookup t n).count ≤ 256

-- the request passed 1, 2 and 3, and asks for this operation
pub record Asks (op : ℕ) (r : Request) : Type 0 where
  pub early : early_refusal r ≡ 0
  pub number : r.op ≡ op
