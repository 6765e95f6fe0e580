-- "any text that loads is what saving would write"
use Prim.Native.Nat.{ℕ, suc, ◌≤◌}
use native.Mathlib.Omega.{arith}
use mathlib.Core.Path.{◌≡◌, refl, ap, ◌∙◌}
use mathlib.Core.Bool.{true, ◌&&◌, cond}
use mathlib.Core.List.{List, [], map}
use lib.ListN.{length, length-map}
use Rattle.lists.specs.Tests.{implies}
use Rattle.lists.specs.Lists.{all, keep, filled}
use Rattle.lists.specs.Members.{In}
use Rattle.lists.proofs.Tests.{Case, pass, fail, case, and_l, and_r, implies_elim}
use Rattle.lists.proofs.MemberLaws.{in_keep, all_in, mapped, in_map}
use Rattle.lists.proofs.Counts.{keep_long}
use Rattle.lists.proofs.Filled.{all_filled}
use Rattle.tables.specs.declared.{Name.Name, Ticket.Ticket, Entry.Entry, Tables.Tables}
use Rattle.tables.specs.Kinds.{is_taken, is_received}
use Rattle.tables.specs.Lookup.{lookup}
use Rattle.tables.specs.Names.{no_name, eq_name, is_none, no_entry}
use Rattle.tables.specs.Chains.{chain_head}
use Rattle.tables.specs.Order.{every_entry, under_store, grant_ok, entry_ok, t5, in_order}
use Rattle.tables.proofs.NameLaws.{eq_name_true}
use Rattle.machine.specs.Refusal.{◌when◌else◌}
use Rattle.text.specs.Reading.{has_values, values_of}
use Rattle.saved.specs.declared.Row.{Row}
use Rattle.saved.specs.Row.{columns, is_entry_row, row_of, row_ok, line_ok}
use Rattle.saved.specs.Save.{text_of, saved}
use Rattle.saved.specs.Load.{lines_in, rows_in, all_follow, all_programs, form_ok, entry_from, tables_with, tables_from, last_in, tables_in, load_refusal, load}
use Rattle.saved.specs.Claims.{LoadedIsSaved}
use Rattle.saved_laws.proofs.Room.{few_entries}
use Rattle.saved_laws.proofs.Assembly.{no_entries, rows_back}
use Rattle.saved_laws.proofs.TextOfRows.{text_of_rows}

-- a row of a text in form
rows_ok : (ls : List (List ℕ)) → all line_ok ls ≡ true → (z : Row) → In z (map (λ line. row_of (values_of line)) ls) → row_ok z ≡ true
unfolding line_ok
rows_ok ls e z m =
    let w = mapped (λ line. row_of (values_of line)) z ls m in
    ap row_ok w.is ∙ and_r (has_values columns w.from) (row_ok (row_of (values_of w.from))) (all_in line_ok ls w.from e w.member)

-- in tables in order an entry's parent with number 0 is the store
plain_grant : (e : Entry) (k : Ticket) → grant_ok e k ≡ true → is_none e.parent ≡ true → e.parent ≡ no_name
unfolding grant_ok
plain_grant e k g n =
    let c : cond (under_store e) (eq_name e.parent no_name && is_taken k.kind) (is_received k.kind) ≡ true = search (and_l, and_r) depth 5 in
    eq_name_true e.parent no_name (and_l (eq_name e.parent no_name) (is_taken k.kind) (rw n at c))

entries_ok : (t : Tables) → in_order t ≡ true → all (λ e. implies e.live (entry_ok t e)) t.entries ≡ true
unfolding in_order t5 every_entry
entries_ok t o = search (and_l, and_r) depth 8

entry_plain : (t : Tables) (e : Entry) → e.live ≡ true → implies e.live (entry_ok t e) ≡ true → is_none e.parent ≡ true → e.parent ≡ no_name
unfolding entry_ok
entry_plain t e l h n =
    let o = implies_elim e.live (entry_ok t e) h l in
    let g : grant_ok e (lookup t e.name) ≡ true = search (and_l, and_r) depth 4 in
    plain_grant e (lookup t e.name) g n

plain_of : (docks : Name → Name) (rows : List Row) → all_follow [] rows ≡ true → in_order (tables_with docks (last_in rows) rows) ≡ true
    → (z : Row) → In z rows → is_entry_row z ≡ true → is_none z.other ≡ true → z.other ≡ no_name
unfolding tables_with entry_from
plain_of docks rows follow o z m t n =
    let tables = tables_with docks (last_in rows) rows in
    let a : all (λ e. implies e.live (entry_ok tables e)) (filled 256 no_entry (map entry_from (keep is_entry_row rows))) ≡ true = entries_ok tables o in
    let b = all_filled (λ e. implies e.live (entry_ok tables e)) 256 no_entry (map entry_from (keep is_entry_row rows)) few a in
    let c = all_in (λ e. implies e.live (entry_ok tables e)) (map entry_from (keep is_entry_row rows)) (entry_from z) b
    (in_map entry_from z (keep is_entry_row rows) (in_keep is_entry_row z rows m t)) in
    entry_plain tables (entry_from z) refl c n
  where
    few : length (map entry_from (keep is_entry_row rows)) ≤ 256
    few = omega (arith, length-map (keep is_entry_row rows) entry_from, keep_long is_entry_row rows, few_entries [] rows follow no_entries)

parts : (text : List ℕ) → form_ok text ≡ true → (all line_ok (lines_in text) ≡ true) × ((all_follow [] (rows_in text) ≡ true) × (all_programs (rows_in text) ≡ true))
unfolding form_ok
parts text f = (search (and_l, and_r) depth 6, (search (and_l, and_r) depth 6, search (and_l, and_r) depth 6))

saved_back : (text : List ℕ) → form_ok text ≡ true → in_order (tables_in text) ≡ true → saved (tables_in text) ≡ text
unfolding saved tables_in tables_from
saved_back text f o =
    let a : all line_ok (lines_in text) ≡ true = (parts text f).0 in
    let b : all_follow [] (rows_in text) ≡ true = (parts text f).1.0 in
    let c : all_programs (rows_in text) ≡ true = (parts text f).1.1 in
    let docks : Name → Name = chain_head (tables_with (λ n. n) (last_in (rows_in text)) (rows_in text)) in
    ap text_of (rows_back docks (rows_in text) (rows_ok (lines_in text) a) b c (plain_of docks (rows_in text) b o)) ∙ text_of_rows text f

no_zero : {A : Type 0} {n : ℕ} → suc n ≡ 0 → A
no_zero e = absurd (omega (arith, e))

pub loaded_is_saved : LoadedIsSaved
unfolding load load_refusal ◌when◌else◌
loaded_is_saved text e = go (case (form_ok text)) (case (in_order (tables_in text)))
  where
    go : Case (form_ok text) → Case (in_order (tables_in text)) → saved (load text).tables ≡ text
    go (fail f) _ = no_zero (rw f at e)
    go (pass f) (fail o) = no_zero (rw (f, o) at e)
    go (pass f) (pass o) = rw (f, o) (saved_back text f o)
