-- Tables that are the same have the same text: their lines have the same members, and both stand in the order of their keys.
use Prim.Native.Nat.{ℕ, ◌/◌, ◌%◌, ◌<◌}
use native.Mathlib.Omega.{arith}
use mathlib.Core.Path.{◌≡◌, sym, ap, subst, ◌∙◌}
use mathlib.Core.Bool.{true}
use Rattle.lists.specs.Members.{In}
use Rattle.lists.proofs.Rising.{sorted_in, sorted_out, is_sorted}
use Rattle.lists.proofs.KeyedMembers.{found_member}
use Rattle.tables.specs.declared.{Name.Name, Ticket.Ticket, Entry.Entry, Tables.Tables}
use Rattle.tables.specs.Kinds.{is_live}
use Rattle.tables.specs.Names.{name_of, no_name}
use Rattle.tables.specs.Lookup.{tickets_of, last_of, lookup, entry_of}
use Rattle.tables.specs.Same.{said, said_entry, SameTables}
use Rattle.tables.proofs.Keys.{ticket_keys, entry_keys, ticket_laws, entry_laws, lookup_keyed, entry_keyed}
use Rattle.sameness.proofs.SaidFacts.{same_kind}
use Rattle.sameness.proofs.SameIsEquivalence.{same_sym}
use Rattle.image.specs.Image.{kind_number}
use Rattle.saved.specs.declared.Row.{Row}
use Rattle.saved.specs.Row.{key}
use Rattle.saved.specs.Save.{last_row, ticket_row, entry_row, rows_found, rows_of, text_of, saved}
use Rattle.saved.specs.Claims.{SameSaved}
use Rattle.restoring.proofs.RowsInForm.{Good, good_of, Line, last, ticket, entry, line_out, last_in_lem, ticket_in_lem, entry_in_lem, ticket_named, entry_named}
use Rattle.restoring.proofs.RowsFollow.{rows_apart, rows_rising}

module _ (t u : Tables) (gt : Good t) (gu : Good u) (same : SameTables t u) where
  last_same : (i : ℕ) → i < 32 → last_row t i ≡ last_row u i
  unfolding last_row
  last_same i low =
      let e : last_of t (i / 8) (i % 8) ≡ last_of u (i / 8) (i % 8) = same.lasts (i / 8) (i % 8) (omega (arith, low)) (omega arith) in
      λ j. record { kind = 0; pad = i / 8; program = i % 8; number = e j; own = 0; other = no_name; first = 0; count = 0; rights = 0 }

  -- a line says what its ticket says, and no more
  ticket_same : (p q : ℕ) (k k' : Ticket) → said k ≡ said k' → ticket_row p q k ≡ ticket_row p q k'
  unfolding ticket_row
  ticket_same p q k k' e =
      ap (λ (s : Ticket). record {
        kind = kind_number s.kind;
        pad = p;
        program = q;
        number = s.number;
        own = s.own;
        other = s.other;
        first = s.first;
        count = s.count;
        rights = s.rights.bits;
      }) e

  entry_same : (e e' : Entry) → said_entry e ≡ said_entry e' → entry_row e ≡ entry_row e'
  unfolding entry_row
  entry_same e e' q =
      ap (λ (s : Entry). record {
        kind = 5;
        pad = s.name.pad;
        program = s.name.program;
        number = s.name.number;
        own = 0;
        other = s.parent;
        first = s.first;
        count = s.count;
        rights = s.rights.bits;
      }) q

  ticket_there : (p q : ℕ) → p < 4 → q < 8 → (n : Name) → n.pad ≡ p → n.program ≡ q → is_live (lookup u n).kind ≡ true → In (lookup u n) (tickets_of u p q)
  ticket_there p q a b n x y l =
      let e = lookup_keyed u n in
      let m : In (lookup u n) (tickets_of u n.pad n.program) =
      subst (λ (k : Ticket). In k (tickets_of u n.pad n.program)) (sym e)
      (found_member ticket_keys ticket_laws (tickets_of u n.pad n.program) n.number (ap (λ (k : Ticket). is_live k.kind) (sym e) ∙ l)) in
      subst (λ (c : ℕ). In (lookup u n) (tickets_of u p c)) y (subst (λ (c : ℕ). In (lookup u n) (tickets_of u c n.program)) x m)

  entry_there : (n : Name) → (entry_of u n).live ≡ true → In (entry_of u n) u.entries
  entry_there n l =
      let e = entry_keyed u n in
      subst (λ (k : Entry). In k u.entries) (sym e)
      (found_member entry_keys entry_laws u.entries n (ap (λ (k : Entry). k.live) (sym e) ∙ l))

  lines_within : (z : Row) → In z (rows_found t) → In z (rows_found u)
  unfolding said_entry
  lines_within z m = go (line_out t z m)
    where
      go : Line t z → In z (rows_found u)
      go (last l) = subst (λ (r : Row). In r (rows_found u)) (sym (l.is ∙ last_same l.at l.low)) (last_in_lem u l.at l.low)
      go (ticket l) =
          let n : Name = name_of l.pad l.program l.ticket.number in
          let e : lookup t n ≡ l.ticket = ticket_named t gt l.pad l.program l.pad_low l.program_low l.ticket l.member l.lives in
          let lives : is_live (lookup u n).kind ≡ true =
          ap is_live (sym (same_kind t u same n)) ∙ ap (λ (k : Ticket). is_live k.kind) e ∙ l.lives in
          let row : z ≡ ticket_row l.pad l.program (lookup u n) =
          l.is ∙ ap (ticket_row l.pad l.program) (sym e) ∙ ticket_same l.pad l.program (lookup t n) (lookup u n) (same.tickets n) in
          subst (λ (r : Row). In r (rows_found u)) (sym row)
          (ticket_in_lem u l.pad l.program l.pad_low l.program_low (lookup u n)
          (ticket_there l.pad l.program l.pad_low l.program_low n (λ i. l.pad) (λ i. l.program) lives) lives)
      go (entry l) =
          let n : Name = l.entry.name in
          let e : entry_of t n ≡ l.entry = entry_named t gt l.entry l.member l.lives in
          let lives : (entry_of u n).live ≡ true = ap (λ (s : Entry). s.live) (sym (same.entries n)) ∙ ap (λ (k : Entry). k.live) e ∙ l.lives in
          let row : z ≡ entry_row (entry_of u n) = l.is ∙ ap entry_row (sym e) ∙ entry_same (entry_of t n) (entry_of u n) (same.entries n) in
          subst (λ (r : Row). In r (rows_found u)) (sym row) (entry_in_lem u (entry_of u n) (entry_there n lives) lives)

pub same_saved : SameSaved
unfolding rows_of saved
same_saved t u zt zu ft fu ot ou same =
    let gt : Good t = good_of t zt ft ot in
    let gu : Good u = good_of u zu fu ou in
    let there = lines_within t u gt gu same in
    let back = lines_within u t gu gt (same_sym t u same) in
    ap text_of
    (is_sorted key (rows_found t) (rows_of u) (rows_apart t gt) (rows_rising u gu) (λ z m. sorted_in key (rows_found u) z (there z m))
    (λ z m. back z (sorted_out key (rows_found u) z m)))
