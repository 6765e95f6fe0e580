-- What a name finds in the tables that the lines of t give: the ticket or entry that it finds in t, as its line says it.
use Prim.Native.Nat.{ℕ, ◌≤◌, ◌<◌}
use native.Mathlib.Omega.{arith}
use mathlib.Core.Path.{◌≡◌, refl, sym, ap, ◌∙◌, subst, fun_ext}
use mathlib.Core.Logic.{◌⊎◌, inl, inr}
use mathlib.Core.Bool.{true, false, cond}
use mathlib.Core.List.{List, [], map}
use lib.ListN.{length, length-map}
use Rattle.lists.specs.Lists.{keep, filled}
use Rattle.lists.specs.Members.{In}
use Rattle.lists.proofs.Tests.{Case, pass, fail, case, no_true}
use Rattle.lists.proofs.Keyed as keyed
use Rattle.lists.proofs.Rising.{sorted_in, sorted_out, keep_rising}
use Rattle.lists.proofs.MemberLaws.{kept, in_keep, mapped, in_map}
use Rattle.lists.proofs.Counts.{keep_long}
use Rattle.lists.proofs.Filled.{filled_out, filled_in}
use Rattle.lists.proofs.KeyedMembers.{filled_distinct, Of, found_same, none_same}
use Rattle.tables.specs.declared.{Name.Name, Kind.Kind, Ticket.Ticket, Program.Program, Entry.Entry, Tables.Tables}
use Rattle.tables.specs.declared.Kind.TheVariants.{Free, Taken, Received, Child, Recall}
use Rattle.tables.specs.Kinds.{is_live, is_grant}
use Rattle.tables.specs.Names.{name_of, no_name, is_none, free, no_entry, grant_ticket}
use Rattle.tables.specs.Lookup.{tickets_of, lookup, entry_of}
use Rattle.tables.specs.Chains.{end_of, parent_by, parent_of, chain_head}
use Rattle.tables.specs.Same.{said, said_by, said_entry}
use Rattle.tables.specs.Order.{under_store}
use Rattle.tables.proofs.Keys.{ticket_keys, entry_keys, ticket_laws, entry_laws, lookup_keyed, entry_keyed}
use Rattle.tables.proofs.ByPlace.{name_in_range}
use Rattle.image.specs.Image.{kind_of}
use Rattle.saved.specs.declared.Row.{Row}
use Rattle.saved.specs.Row.{is_entry_row, key}
use Rattle.saved.specs.Save.{ticket_row, entry_row, rows_found, rows_of}
use Rattle.saved.specs.Load.{ticket_of_program, ticket_from, entry_from, program_from, tables_with}
use Rattle.saved_laws.proofs.Room.{few_tickets, few_entries}
use Rattle.saved_laws.proofs.Assembly.{none_counted, no_entries}
use Rattle.saved.proofs.TablesOfLines.{program_at_lem, with_sized}
use Rattle.saved.proofs.RowLaws.{last_no_ticket, last_no_entry, ticket_no_entry, ticket_kind, ticket_is, is_ticket}
use Rattle.restoring.proofs.RowsInForm.{row_by, Good, TicketLine, EntryLine, Line, last, ticket, entry, line_out, ticket_in_lem, entry_in_lem, ticket_named, entry_named}
use Rattle.restoring.proofs.RowsFollow.{row_is_ticket, row_pad, row_program, row_is_entry, lasts_kind, tickets_kind, entries_kind, rows_rising, rows_follow}

-- ---- a ticket's line, read again
module _ (docks : Name → Name) (p q : ℕ) where
  again_kind : (c : Kind) (k : Ticket) → is_live c ≡ true → (ticket_from docks (row_by c p q k)).kind ≡ c
  unfolding ticket_from kind_of said_by
  again_kind Free k l = no_true l
  again_kind Taken k l = refl
  again_kind Received k l = refl
  again_kind Child k l = refl
  again_kind Recall k l = refl

  again_number : (c : Kind) (k : Ticket) → is_live c ≡ true → (ticket_from docks (row_by c p q k)).number ≡ k.number
  unfolding ticket_from kind_of said_by
  again_number Free k l = no_true l
  again_number Taken k l = refl
  again_number Received k l = refl
  again_number Child k l = refl
  again_number Recall k l = refl

  again_parent : (c : Kind) (n : Name) (k : Ticket) → is_live c ≡ true
      → parent_by (ticket_from docks (row_by c p q k)).kind n (ticket_from docks (row_by c p q k)) ≡ parent_by c n k
  unfolding ticket_from kind_of said_by
  again_parent Free n k l = no_true l
  again_parent Taken n k l = refl
  again_parent Received n k l = refl
  again_parent Child n k l = refl
  again_parent Recall n k l = refl

  -- with the dock name that it had
  again_said : (c : Kind) (k : Ticket) → is_live c ≡ true → (is_grant c ≡ true → docks (name_of p q k.number) ≡ k.dock)
      → ticket_from docks (row_by c p q k) ≡ said_by c k
  unfolding ticket_from kind_of said_by
  again_said Free k l d = no_true l
  again_said Taken k l d = ap (grant_ticket Taken k.number no_name k.first k.count k.rights) (d refl)
  again_said Received k l d = ap (grant_ticket Received k.number no_name k.first k.count k.rights) (d refl)
  again_said Child k l d = ap (grant_ticket Child k.number k.other k.first k.count k.rights) (d refl)
  again_said Recall k l d = refl

  abbrev pub again : Ticket → Ticket
  again k = ticket_from docks (ticket_row p q k)

  kind_again : (k : Ticket) → is_live k.kind ≡ true → (again k).kind ≡ k.kind
  unfolding ticket_row
  kind_again k l = again_kind k.kind k l

  number_again : (k : Ticket) → is_live k.kind ≡ true → (again k).number ≡ k.number
  unfolding ticket_row
  number_again k l = again_number k.kind k l

  parent_again : (n : Name) (k : Ticket) → is_live k.kind ≡ true → parent_by (again k).kind n (again k) ≡ parent_by k.kind n k
  unfolding ticket_row
  parent_again n k l = again_parent k.kind n k l

  pub said_again : (k : Ticket) → is_live k.kind ≡ true → (is_grant k.kind ≡ true → docks (name_of p q k.number) ≡ k.dock) → again k ≡ said k
  unfolding ticket_row
  said_again k l d = again_said k.kind k l d

-- an entry's line, read again
entry_again : (e : Entry) → e.live ≡ true → (under_store e ≡ true → e.parent ≡ no_name) → entry_from (entry_row e) ≡ e
unfolding entry_from entry_row said_entry
entry_again e l plain =
    let p : cond (is_none e.parent) no_name e.parent ≡ e.parent = parent (case (is_none e.parent)) in
    λ i. record { live = sym l i; name = e.name; parent = p i; first = e.first; count = e.count; rights = e.rights }
  where
    parent : Case (is_none e.parent) → cond (is_none e.parent) no_name e.parent ≡ e.parent
    parent (pass z) = rw z (sym (plain z))
    parent (fail z) = rw z

-- ---- the tables that the lines give
module _ (t : Tables) (good : Good t) (docks : Name → Name) (lasts : ℕ → ℕ → ℕ) where
  abbrev pub rows : List Row
  rows = rows_of t

  abbrev pub given : Tables
  given = tables_with docks lasts rows

  in_rows : (z : Row) → In z (rows_found t) → In z rows
  unfolding rows_of
  in_rows z m = sorted_in key (rows_found t) z m

  from_rows : (z : Row) → In z rows → In z (rows_found t)
  unfolding rows_of
  from_rows z m = sorted_out key (rows_found t) z m

  abbrev program_rows : ℕ → ℕ → List Row
  program_rows p q = keep (ticket_of_program p q) rows

  few : (p q : ℕ) → length (map (ticket_from docks) (program_rows p q)) ≤ 8
  few p q =
      omega (
        arith,
        length-map (program_rows p q) (ticket_from docks),
        keep_long (ticket_of_program p q) rows,
        few_tickets p q [] rows (rows_follow t good) (none_counted p q),
      )

  -- the ticket that a program's line is of
  pub record Told (p q : ℕ) (z : Row) : Type 0 where
    pub ticket : Ticket
    pub member : In ticket (tickets_of t p q)
    pub lives : is_live ticket.kind ≡ true
    pub is : z ≡ ticket_row p q ticket

  told : (p q : ℕ) (z : Row) → In z (program_rows p q) → Told p q z
  told p q z m =
      let w = kept (ticket_of_program p q) z rows m in
      go (ticket_is p q z w.passes) (line_of w.passes (line_out t z (from_rows z w.member)))
    where
      line_of : ticket_of_program p q z ≡ true → Line t z → TicketLine t z
      line_of h (last r) = absurd (last_no_ticket z (lasts_kind t z r) (ticket_kind p q z h))
      line_of h (ticket r) = r
      line_of h (entry r) = absurd (ticket_no_entry z (ticket_kind p q z h) (entries_kind t z r))

      go : (z.pad ≡ p) × (z.program ≡ q) → TicketLine t z → Told p q z
      go w r =
          let a : r.pad ≡ p = sym (ap (λ (x : Row). x.pad) r.is ∙ row_pad r.pad r.program r.ticket) ∙ w.0 in
          let b : r.program ≡ q = sym (ap (λ (x : Row). x.program) r.is ∙ row_program r.pad r.program r.ticket) ∙ w.1 in
          record {
            ticket = r.ticket;
            member = subst (λ (x : ℕ). In r.ticket (tickets_of t p x)) b (subst (λ (x : ℕ). In r.ticket (tickets_of t x r.program)) a r.member);
            lives = r.lives;
            is = r.is ∙ ap (λ (x : ℕ). ticket_row x r.program r.ticket) a ∙ ap (λ (x : ℕ). ticket_row p x r.ticket) b;
          }

  module _ (p q : ℕ) (b : p < 4) (c : q < 8) where
    tickets_are : tickets_of given p q ≡ filled 8 free (map (ticket_from docks) (program_rows p q))
    unfolding program_from
    tickets_are = ap (λ (a : Program). a.tickets) (program_at_lem docks lasts rows p q b c)

    abbrev places : List Ticket
    places = filled 8 free (map (ticket_from docks) (program_rows p q))

    place_out : (x : Ticket) → In x places → is_live x.kind ≡ true → Of ticket_keys ticket_laws (again docks p q) x (tickets_of t p q)
    place_out x m l = go (filled_out 8 free (map (ticket_from docks) (program_rows p q)) x m)
      where
        go : (x ≡ free) ⊎ In x (map (ticket_from docks) (program_rows p q)) → Of ticket_keys ticket_laws (again docks p q) x (tickets_of t p q)
        go (inl e) = no_true (ap (λ (k : Ticket). is_live k.kind) (sym e) ∙ l)
        go (inr a) =
            let w = mapped (ticket_from docks) x (program_rows p q) a in
            let r : Told p q w.from = told p q w.from w.member in
            record { from = r.ticket; member = r.member; lives = r.lives; is = w.is ∙ ap (ticket_from docks) r.is }

    place_in : (k : Ticket) → In k (tickets_of t p q) → is_live k.kind ≡ true → In (again docks p q k) places
    place_in k m l =
        filled_in 8 free (map (ticket_from docks) (program_rows p q)) (few p q) (again docks p q k)
        (in_map (ticket_from docks) (ticket_row p q k) (program_rows p q)
        (in_keep (ticket_of_program p q) (ticket_row p q k) rows (in_rows (ticket_row p q k) (ticket_in_lem t p q b c k m l))
        (is_ticket p q (ticket_row p q k) (row_is_ticket p q k l) (row_pad p q k) (row_program p q k))))

    lives_again : (k : Ticket) → is_live k.kind ≡ true → is_live (again docks p q k).kind ≡ true
    lives_again k l = ap is_live (kind_again docks p q k l) ∙ l

    found_here : (n : ℕ) → is_live (keyed.by_key ticket_keys (tickets_of t p q) n).kind ≡ true
        → keyed.by_key ticket_keys places n ≡ again docks p q (keyed.by_key ticket_keys (tickets_of t p q) n)
    found_here n l =
        found_same ticket_keys ticket_laws places (tickets_of t p q) (good.order.shape.distinct p q b c) (again docks p q) (number_again docks p q) lives_again
        place_out place_in n l

    none_here : (n : ℕ) → is_live (keyed.by_key ticket_keys (tickets_of t p q) n).kind ≡ false → keyed.by_key ticket_keys places n ≡ free
    none_here n l =
        none_same ticket_keys ticket_laws places (tickets_of t p q) (good.order.shape.distinct p q b c) (again docks p q) (number_again docks p q) lives_again
        place_out place_in n l

    -- T1 of these tables
    pub given_distinct : keyed.Distinct ticket_keys (tickets_of given p q)
    given_distinct =
        subst (λ (l : List Ticket). keyed.Distinct ticket_keys l) (sym tickets_are)
        (filled_distinct ticket_keys ticket_laws key (ticket_from docks) 8 (program_rows p q) (keep_rising key (ticket_of_program p q) rows (rows_rising t good))
        (λ x y m k e.
        let v : Told p q x = told p q x m in
        let w : Told p q y = told p q y k in
        let h : v.ticket.number ≡ w.ticket.number
        = sym (ap (λ (r : Row). (ticket_from docks r).number) v.is ∙ number_again docks p q v.ticket v.lives) ∙ e
        ∙ (ap (λ (r : Row). (ticket_from docks r).number) w.is ∙ number_again docks p q w.ticket w.lives) in
        let s : v.ticket ≡ w.ticket
        = sym (ticket_named t good p q b c v.ticket v.member v.lives) ∙ ap (λ (i : ℕ). lookup t (name_of p q i)) h
        ∙ ticket_named t good p q b c w.ticket w.member w.lives in
        v.is ∙ ap (ticket_row p q) s ∙ sym w.is))

  -- ---- what a name finds
  pub lookup_found : (n : Name) → is_live (lookup t n).kind ≡ true → lookup given n ≡ again docks n.pad n.program (lookup t n)
  lookup_found n l =
      let r = name_in_range t good.order.shape.sized n l in
      let k = lookup_keyed t n in
      lookup_keyed given n ∙ ap (λ (l : List Ticket). keyed.by_key ticket_keys l n.number) (tickets_are n.pad n.program r.pad r.program)
      ∙ found_here n.pad n.program r.pad r.program n.number (ap (λ (a : Ticket). is_live a.kind) (sym k) ∙ l)
      ∙ ap (again docks n.pad n.program) (sym k)

  pub lookup_none : (n : Name) → is_live (lookup t n).kind ≡ false → lookup given n ≡ free
  lookup_none n l = go (case (is_live (lookup given n).kind))
    where
      go : Case (is_live (lookup given n).kind) → lookup given n ≡ free
      go (fail d) =
          let k = lookup_keyed given n in
          k ∙ keyed.nothing_found ticket_keys ticket_laws (tickets_of given n.pad n.program) n.number (ap (λ (a : Ticket). is_live a.kind) (sym k) ∙ d)
      go (pass d) =
          let r = name_in_range given (with_sized docks lasts rows) n d in
          let k = lookup_keyed t n in
          lookup_keyed given n ∙ ap (λ (l : List Ticket). keyed.by_key ticket_keys l n.number) (tickets_are n.pad n.program r.pad r.program)
          ∙ none_here n.pad n.program r.pad r.program n.number (ap (λ (a : Ticket). is_live a.kind) (sym k) ∙ l)

  -- chains are t's, whatever the dock names
  pub parents_again : parent_of (lookup given) ≡ parent_of (lookup t)
  parents_again = fun_ext (λ n. at n (case (is_live (lookup t n).kind)))
    where
      dead : (c : Kind) (n : Name) (k : Ticket) → is_live c ≡ false → no_name ≡ parent_by c n k
      dead Free n k l = refl
      dead Taken n k l = no_true (sym l)
      dead Received n k l = no_true (sym l)
      dead Child n k l = no_true (sym l)
      dead Recall n k l = no_true (sym l)

      at : (n : Name) → Case (is_live (lookup t n).kind) → parent_of (lookup given) n ≡ parent_of (lookup t) n
      at n (pass l) = ap (λ (k : Ticket). parent_by k.kind n k) (lookup_found n l) ∙ parent_again docks n.pad n.program n (lookup t n) l
      at n (fail l) = ap (λ (k : Ticket). parent_by k.kind n k) (lookup_none n l) ∙ dead (lookup t n).kind n (lookup t n) l

  pub heads_again : chain_head given ≡ chain_head t
  heads_again = ap (λ (p : Name → Name). λ n. end_of 64 p n) parents_again

  -- ---- entries
  abbrev entry_rows : List Row
  entry_rows = keep is_entry_row rows

  abbrev entry_places : List Entry
  entry_places = filled 256 no_entry (map entry_from entry_rows)

  entries_are : given.entries ≡ entry_places
  unfolding tables_with
  entries_are = refl

  few_there : length (map entry_from entry_rows) ≤ 256
  few_there = omega (arith, length-map entry_rows entry_from, keep_long is_entry_row rows, few_entries [] rows (rows_follow t good) no_entries)

  told_entry : (z : Row) → In z entry_rows → EntryLine t z
  told_entry z m =
      let w = kept is_entry_row z rows m in
      go w.passes (line_out t z (from_rows z w.member))
    where
      go : is_entry_row z ≡ true → Line t z → EntryLine t z
      go h (last r) = absurd (last_no_entry z (lasts_kind t z r) h)
      go h (ticket r) = absurd (ticket_no_entry z (tickets_kind t z r) h)
      go h (entry r) = r

  line_again : (e : Entry) → In e t.entries → e.live ≡ true → entry_from (entry_row e) ≡ e
  line_again e m l =
      let s = entry_named t good e m l in
      entry_again e l
      (subst (λ (a : Entry). under_store a ≡ true → a.parent ≡ no_name) s (good.order.rules.entry e.name (ap (λ (a : Entry). a.live) s ∙ l)).store)

  -- a line's entry, read again, is that entry
  entry_told : (z : Row) (r : EntryLine t z) → entry_from z ≡ r.entry
  entry_told z r = ap entry_from r.is ∙ line_again r.entry r.member r.lives

  entry_place_out : (x : Entry) → In x entry_places → x.live ≡ true → Of entry_keys entry_laws (λ e. e) x t.entries
  entry_place_out x m l = go (filled_out 256 no_entry (map entry_from entry_rows) x m)
    where
      go : (x ≡ no_entry) ⊎ In x (map entry_from entry_rows) → Of entry_keys entry_laws (λ e. e) x t.entries
      go (inl e) = no_true (ap (λ (a : Entry). a.live) (sym e) ∙ l)
      go (inr a) =
          let w = mapped entry_from x entry_rows a in
          let r : EntryLine t w.from = told_entry w.from w.member in
          record { from = r.entry; member = r.member; lives = r.lives; is = w.is ∙ entry_told w.from r }

  entry_place_in : (e : Entry) → In e t.entries → e.live ≡ true → In e entry_places
  entry_place_in e m l =
      subst (λ (x : Entry). In x entry_places) (line_again e m l)
      (filled_in 256 no_entry (map entry_from entry_rows) few_there (entry_from (entry_row e))
      (in_map entry_from (entry_row e) entry_rows (in_keep is_entry_row (entry_row e) rows (in_rows (entry_row e) (entry_in_lem t e m l)) (row_is_entry e))))

  pub entries_again : (n : Name) → entry_of given n ≡ entry_of t n
  entries_again n = go (case (keyed.by_key entry_keys t.entries n).live)
    where
      here : entry_of given n ≡ keyed.by_key entry_keys entry_places n
      here = entry_keyed given n ∙ ap (λ (l : List Entry). keyed.by_key entry_keys l n) entries_are

      go : Case (keyed.by_key entry_keys t.entries n).live → entry_of given n ≡ entry_of t n
      go (pass l) =
          here
          ∙ found_same entry_keys entry_laws entry_places t.entries good.order.shape.distinct_entries (λ e. e) (λ e h. refl) (λ e h. h)
          entry_place_out entry_place_in n l
          ∙ sym (entry_keyed t n)
      go (fail l) =
          here
          ∙ none_same entry_keys entry_laws entry_places t.entries good.order.shape.distinct_entries (λ e. e) (λ e h. refl) (λ e h. h)
          entry_place_out entry_place_in n l
          ∙ sym (keyed.nothing_found entry_keys entry_laws t.entries n l) ∙ sym (entry_keyed t n)

  pub given_entries_distinct : keyed.Distinct entry_keys given.entries
  given_entries_distinct =
      subst (λ (l : List Entry). keyed.Distinct entry_keys l) (sym entries_are)
      (filled_distinct entry_keys entry_laws key entry_from 256 entry_rows (keep_rising key is_entry_row rows (rows_rising t good))
      (λ x y m k e.
      let v : EntryLine t x = told_entry x m in
      let w : EntryLine t y = told_entry y k in
      let h : v.entry.name ≡ w.entry.name
      = ap (λ (a : Entry). a.name) (sym (entry_told x v)) ∙ e ∙ ap (λ (a : Entry). a.name) (entry_told y w) in
      let s : v.entry ≡ w.entry
      = sym (entry_named t good v.entry v.member v.lives) ∙ ap (entry_of t) h ∙ entry_named t good w.entry w.member w.lives in
      v.is ∙ ap entry_row s ∙ sym w.is))
