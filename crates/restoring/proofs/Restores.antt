-- "Loading what was saved restores the tables": the saved text loads, and every name finds in the loaded tables what it found before.
use Prim.Native.Nat.{ℕ, ◌+◌, ◌*◌, ◌/◌, ◌%◌, ◌<◌}
use native.Mathlib.Omega.{arith}
use mathlib.Core.Path.{◌≡◌, refl, sym, ap, ◌∙◌, subst}
use mathlib.Core.Bool.{true, false}
use mathlib.Core.List.{List}
use lib.ListN.{get_or}
use Rattle.lists.specs.Lists.{some, first_index}
use Rattle.lists.proofs.Tests.{Case, pass, fail, case, no_true}
use Rattle.lists.proofs.Rising.{sorted_in, sorted_out}
use Rattle.lists.proofs.MemberLaws.{Kept, found, some_in}
use Rattle.tables.specs.declared.{Name.Name, Kind.Kind, Ticket.Ticket, Tables.Tables}
use Rattle.tables.specs.declared.Kind.TheVariants.{Free, Taken, Received, Child, Recall}
use Rattle.tables.specs.Kinds.{is_live, is_grant}
use Rattle.tables.specs.Names.{name_of, free}
use Rattle.tables.specs.Lookup.{last_of, lookup, entry_of}
use Rattle.tables.specs.Chains.{chain_head}
use Rattle.tables.specs.Same.{said, said_by, said_entry, SameTables}
use Rattle.tables.specs.Order.{in_order}
use Rattle.tables.proofs.NameLaws.{name_eq}
use Rattle.preservation.specs.InOrder.{Shape, InOrder}
use Rattle.preservation.proofs.ChainSteps.{head_is_dock}
use Rattle.preservation.proofs.OrderPassesTest.{order_passes_test}
use Rattle.machine.specs.Refusal.{◌when◌else◌}
use Rattle.saved.specs.declared.Row.{Row}
use Rattle.saved.specs.Row.{key}
use Rattle.saved.specs.Save.{last_row, rows_found, rows_of, saved}
use Rattle.saved.specs.Load.{rows_in, last_of_program, form_ok, no_row, tables_with, tables_from, last_in, tables_in, load_refusal, load}
use Rattle.saved.specs.Claims.{LoadingRestores}
use Rattle.saved.proofs.TablesOfLines.{with_sized, with_last_lem}
use Rattle.saved.proofs.RowLaws.{is_last}
use Rattle.restoring.proofs.RowsOfText.{AllWritable, rows_of_text, text_in_form}
use Rattle.restoring.proofs.RowsInForm.{Good, good_of, LastLine, last_in_lem, line_form, writable}
use Rattle.restoring.proofs.RowsFollow.{row_is_last, last_at, rows_follow, programs_present, last_of_lem, last_place}
use Rattle.restoring.proofs.FoundAgain.{said_again, given_distinct, lookup_found, lookup_none, heads_again, entries_again, given_entries_distinct}
use Rattle.sameness.proofs.SameInOrder.{same_in_order}

-- ---- what a ticket says
said_dead : (c : Kind) (k : Ticket) → is_live c ≡ false → said_by c k ≡ free
unfolding said_by
said_dead Free k l = refl
said_dead Taken k l = no_true (sym l)
said_dead Received k l = no_true (sym l)
said_dead Child k l = no_true (sym l)
said_dead Recall k l = no_true (sym l)

said_twice : (c : Kind) (k : Ticket) → said (said_by c k) ≡ said_by c k
unfolding said_by
said_twice Free k = refl
said_twice Taken k = refl
said_twice Received k = refl
said_twice Child k = refl
said_twice Recall k = refl

-- ---- the text
rows_writable : (t : Tables) → Good t → AllWritable (rows_of t)
unfolding rows_of
rows_writable t good r m = writable r (line_form t good r (sorted_out key (rows_found t) r m))

saved_form : (t : Tables) → Good t → form_ok (saved t) ≡ true
unfolding saved
saved_form t good = text_in_form (rows_of t) (rows_writable t good) (rows_follow t good) (programs_present t good)

saved_rows : (t : Tables) → Good t → rows_in (saved t) ≡ rows_of t
unfolding saved
saved_rows t good = rows_of_text (rows_of t) (rows_writable t good)

-- ---- the tables
module _ (t : Tables) (good : Good t) where
  abbrev lasts : ℕ → ℕ → ℕ
  lasts = last_in (rows_of t)

  abbrev docks : Name → Name
  docks = chain_head (tables_with (λ n. n) lasts (rows_of t))

  abbrev restored : Tables
  restored = tables_with docks lasts (rows_of t)

  saved_tables : tables_in (saved t) ≡ restored
  unfolding tables_in tables_from
  saved_tables = ap (λ (rows : List Row). tables_from (last_in rows) rows) (saved_rows t good)

  -- a grant's dock name is the head of its chain
  dock_back : (n : Name) → is_live (lookup t n).kind ≡ true → is_grant (lookup t n).kind ≡ true
      → docks (name_of n.pad n.program (lookup t n).number) ≡ (lookup t n).dock
  dock_back n l g =
      ap (λ (f : Name → Name). f (name_of n.pad n.program (lookup t n).number)) (heads_again t good (λ n. n) lasts)
      ∙ ap (chain_head t) (name_eq refl refl (good.order.rules.number n l)) ∙ head_is_dock t good.order n g

  lookup_back : (n : Name) → lookup restored n ≡ said (lookup t n)
  lookup_back n = go (case (is_live (lookup t n).kind))
    where
      go : Case (is_live (lookup t n).kind) → lookup restored n ≡ said (lookup t n)
      go (pass l) = lookup_found t good docks lasts n l ∙ said_again docks n.pad n.program (lookup t n) l (dock_back n l)
      go (fail l) = lookup_none t good docks lasts n l ∙ sym (said_dead (lookup t n).kind (lookup t n) l)

  last_there : (p q : ℕ) → p < 4 → q < 8 → some (last_of_program p q) (rows_of t) ≡ true
  unfolding rows_of
  last_there p q b c = go (8 * p + q) (omega arith) (omega (arith, c)) (omega (arith, c))
    where
      go : (i : ℕ) → i < 32 → i / 8 ≡ p → i % 8 ≡ q → some (last_of_program p q) (rows_of t) ≡ true
      go i h x y =
          let v = last_at t i in
          some_in (last_of_program p q) (rows_of t) (last_row t i) (sorted_in key (rows_found t) (last_row t i) (last_in_lem t i h))
          (is_last p q (last_row t i) (row_is_last t i) (v.0 ∙ x) (v.1 ∙ y))

  last_number : (i : ℕ) → (last_row t i).number ≡ last_of t (i / 8) (i % 8)
  unfolding last_row
  last_number i = refl

  last_told : (p q : ℕ) → p < 4 → q < 8 → last_in (rows_of t) p q ≡ last_of t p q
  unfolding last_in rows_of
  last_told p q b c =
      let z : Row = get_or (rows_of t) (first_index (last_of_program p q) (rows_of t)) no_row in
      let w : Kept (last_of_program p q) z (rows_of t) = found (last_of_program p q) (rows_of t) no_row (last_there p q b c) in
      let r : LastLine t z = last_of_lem t good p q z (sorted_out key (rows_found t) z w.member) w.passes in
      let a = last_place t good p q z r w.passes in
      ap (λ (x : Row). x.number) r.is ∙ last_number r.at ∙ ap (λ (x : ℕ). last_of t x (r.at % 8)) a.0 ∙ ap (last_of t p) a.1

  last_back : (p q : ℕ) → p < 4 → q < 8 → last_of t p q ≡ last_of restored p q
  last_back p q b c = sym (with_last_lem docks lasts (rows_of t) p q b c ∙ last_told p q b c)

  entry_back : (n : Name) → entry_of t n ≡ entry_of restored n
  entry_back n = sym (entries_again t good docks lasts n)

  same : SameTables t restored
  same = record {
    lasts = last_back;
    tickets = λ n. sym (ap said (lookup_back n) ∙ said_twice (lookup t n).kind (lookup t n));
    entries = λ n. ap said_entry (entry_back n);
  }

  -- ---- and they are in order
  restored_shape : Shape restored
  restored_shape = record {
    sized = with_sized docks lasts (rows_of t);
    distinct = λ p q b c. given_distinct t good docks lasts p q b c;
    distinct_entries = given_entries_distinct t good docks lasts;
  }

  restored_order : InOrder restored
  restored_order = same_in_order t restored good.order restored_shape same entry_back

-- ---- the whole
record Accepted (text : List ℕ) : Type 0 where
  result : (load text).result ≡ 0
  tables : (load text).tables ≡ tables_in text

accepted : (text : List ℕ) → form_ok text ≡ true → in_order (tables_in text) ≡ true → Accepted text
unfolding load load_refusal ◌when◌else◌
accepted text f o =
    let a : (load text).result ≡ 0 = rw (f, o) in
    let b : (load text).tables ≡ tables_in text = rw (f, o) in
    record { result = a; tables = b }

pub loading_restores : LoadingRestores
loading_restores t z fit h =
    let good : Good t = good_of t z fit h in
    let e = saved_tables t good in
    let a : Accepted (saved t) = accepted (saved t) (saved_form t good) (ap in_order e ∙ order_passes_test (restored t good) (restored_order t good)) in
    record { accepted = a.result; same = subst (λ (u : Tables). SameTables t u) (sym (a.tables ∙ e)) (same t good) }
