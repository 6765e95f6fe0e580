-- What two tables that are the same have in common: the next names; of tickets the kinds, the sheets, rights and dock names of grants, the
-- targets of recalls, the parents on the pad; and of entries all but a parent that is the store, which either side may write in its own way.
use Prim.Native.Nat.{ℕ, suc, ◌≤◌}
use native.Mathlib.Omega.{arith}
use mathlib.Core.Path.{◌≡◌, refl, sym, ap, ◌∙◌}
use mathlib.Core.Bool.{Bool, true, false, cond}
use Rattle.lists.proofs.Tests.{no_true}
use Rattle.rights.specs.declared.Rights.{Rights}
use Rattle.tables.specs.declared.{Name.Name, Kind.Kind, Ticket.Ticket, Entry.Entry, Tables.Tables}
use Rattle.tables.specs.declared.Kind.TheVariants.{Free, Taken, Received, Child, Recall}
use Rattle.tables.specs.Names.{name_of, no_name, is_none}
use Rattle.tables.specs.Lookup.{lookup, entry_of}
use Rattle.tables.specs.Chains.{parent_by, parent_of}
use Rattle.tables.specs.Change.{new_name}
use Rattle.tables.specs.Same.{said_by, said, said_entry, SameTables}
use Rattle.tables.specs.Kinds.{is_grant, is_recall}

-- ---- what a ticket of each kind says
pub said_kind : (c : Kind) (k : Ticket) → (said_by c k).kind ≡ c
unfolding said_by
said_kind Free k = refl
said_kind Taken k = refl
said_kind Received k = refl
said_kind Child k = refl
said_kind Recall k = refl

-- a grant's own part
record Part : Type 0 where
  first : ℕ
  count : ℕ
  rights : Rights
  dock : Name

abbrev part_of : Ticket → Part
part_of k = record { first = k.first; count = k.count; rights = k.rights; dock = k.dock }

said_part : (c : Kind) (k : Ticket) → is_grant c ≡ true → part_of (said_by c k) ≡ part_of k
unfolding said_by
said_part Free k h = no_true h
said_part Taken k h = refl
said_part Received k h = refl
said_part Child k h = refl
said_part Recall k h = no_true h

said_target : (c : Kind) (k : Ticket) → is_recall c ≡ true → (said_by c k).other ≡ k.other
unfolding said_by
said_target Free k h = no_true h
said_target Taken k h = no_true h
said_target Received k h = no_true h
said_target Child k h = no_true h
said_target Recall k h = refl

said_parent : (c : Kind) (n : Name) (k : Ticket) → parent_by c n (said_by c k) ≡ parent_by c n k
unfolding said_by
said_parent Free n k = refl
said_parent Taken n k = refl
said_parent Received n k = refl
said_parent Child n k = refl
said_parent Recall n k = refl

-- ---- the parent that an entry says
said_none : (p : Name) (b : Bool) → is_none p ≡ b → is_none (cond b no_name p) ≡ is_none p
said_none p true e = sym e
said_none p false e = refl

said_some : (p : Name) → is_none p ≡ false → cond (is_none p) no_name p ≡ p
said_some p e = rw e

-- ---- the next name of a possible program
pub new_name_same : (t u : Tables) → SameTables t u → (p q : ℕ) → p ≤ 3 → q ≤ 7 → new_name t p q ≡ new_name u p q
new_name_same t u same p q b c = ap (λ (m : ℕ). name_of p q (suc m)) (same.lasts p q (omega arith) (omega arith))

-- ---- what one name finds
module _ (t u : Tables) (same : SameTables t u) (n : Name) where
  -- its tickets
  pub same_kind : (lookup t n).kind ≡ (lookup u n).kind
  same_kind = sym (said_kind (lookup t n).kind (lookup t n)) ∙ ap (λ (k : Ticket). k.kind) (same.tickets n) ∙ said_kind (lookup u n).kind (lookup u n)

  pub same_parent : parent_of (lookup t) n ≡ parent_of (lookup u) n
  same_parent =
      sym (said_parent (lookup t n).kind n (lookup t n)) ∙ ap (λ (c : Kind). parent_by c n (said (lookup t n))) same_kind
      ∙ ap (parent_by (lookup u n).kind n) (same.tickets n) ∙ said_parent (lookup u n).kind n (lookup u n)

  -- the two tickets of one name, where the first is a grant
  module _ (grant : is_grant (lookup t n).kind ≡ true) where
    same_part : part_of (lookup t n) ≡ part_of (lookup u n)
    same_part =
        sym (said_part (lookup t n).kind (lookup t n) grant) ∙ ap part_of (same.tickets n)
        ∙ said_part (lookup u n).kind (lookup u n) (ap is_grant (sym same_kind) ∙ grant)

    pub same_first : (lookup t n).first ≡ (lookup u n).first
    same_first = ap (λ (k : Part). k.first) same_part

    pub same_count : (lookup t n).count ≡ (lookup u n).count
    same_count = ap (λ (k : Part). k.count) same_part

    pub same_rights : (lookup t n).rights ≡ (lookup u n).rights
    same_rights = ap (λ (k : Part). k.rights) same_part

    pub same_dock : (lookup t n).dock ≡ (lookup u n).dock
    same_dock = ap (λ (k : Part). k.dock) same_part

  pub same_target : is_recall (lookup t n).kind ≡ true → (lookup t n).other ≡ (lookup u n).other
  same_target recall =
      sym (said_target (lookup t n).kind (lookup t n) recall) ∙ ap (λ (k : Ticket). k.other) (same.tickets n)
      ∙ said_target (lookup u n).kind (lookup u n) (ap is_recall (sym same_kind) ∙ recall)

  -- its entries
  pub same_live : (entry_of t n).live ≡ (entry_of u n).live
  unfolding said_entry
  same_live = ap (λ (e : Entry). e.live) (same.entries n)

  pub same_entry_first : (entry_of t n).first ≡ (entry_of u n).first
  unfolding said_entry
  same_entry_first = ap (λ (e : Entry). e.first) (same.entries n)

  pub same_entry_count : (entry_of t n).count ≡ (entry_of u n).count
  unfolding said_entry
  same_entry_count = ap (λ (e : Entry). e.count) (same.entries n)

  pub same_entry_rights : (entry_of t n).rights ≡ (entry_of u n).rights
  unfolding said_entry
  same_entry_rights = ap (λ (e : Entry). e.rights) (same.entries n)

  -- under the store on both sides or on neither; and under one entry where not
  said_parents : cond (is_none (entry_of t n).parent) no_name (entry_of t n).parent ≡ cond (is_none (entry_of u n).parent) no_name (entry_of u n).parent
  unfolding said_entry
  said_parents = ap (λ (e : Entry). e.parent) (same.entries n)

  pub same_root : is_none (entry_of t n).parent ≡ is_none (entry_of u n).parent
  same_root =
      sym (said_none (entry_of t n).parent (is_none (entry_of t n).parent) refl) ∙ ap is_none said_parents
      ∙ said_none (entry_of u n).parent (is_none (entry_of u n).parent) refl

  pub same_entry_parent : is_none (entry_of t n).parent ≡ false → (entry_of t n).parent ≡ (entry_of u n).parent
  same_entry_parent e =
      sym (said_some (entry_of t n).parent e) ∙ said_parents ∙ said_some (entry_of u n).parent (sym same_root ∙ e)
