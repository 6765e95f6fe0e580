-- The lines of all blocks, one block behind the other, are the lines of the tables in their order. Both lists are strictly rising and have the
-- same members; the keys of block m begin with m.
use Prim.Native.Nat.{ℕ, suc, ◌+◌, ◌*◌, ◌/◌, ◌%◌, ◌≤◌, ◌<◌}
use native.Mathlib.Omega.{arith}
use mathlib.Core.Path.{◌≡◌, refl, sym, ap, subst, ◌∙◌}
use mathlib.Core.Logic.{⊎_elim}
use mathlib.Core.Bool.{Bool, true}
use mathlib.Core.List.{List, [], ◌∷◌, map}
use lib.Dec.{ltb}
use borrow.Author.Tests.{ltb-true, ltb-false, eqb-true, eq-eqb}
use Rattle.lists.specs.Parts.{tabulate, joined}
use Rattle.lists.specs.Members.{In, first}
use Rattle.lists.proofs.Tests.{Case, pass, fail, case, no_true, and_r, and_intro}
use Rattle.lists.proofs.MemberLaws.{in_none, in_cons, in_joined, from_joined, mapped, in_map}
use Rattle.lists.proofs.Rising.{Rising, empty, rises, keep_rising, rising_joined, rising_tabulate, rising_map, is_sorted}
use Rattle.lists.proofs.KeyedMembers.{found_member}
use Rattle.tables.specs.declared.{Name.Name, Kind.Kind, Ticket.Ticket, Entry.Entry, Tables.Tables}
use Rattle.tables.specs.declared.Kind.TheVariants.{Free, Taken, Received, Child, Recall}
use Rattle.tables.specs.Kinds.{is_live, is_head}
use Rattle.tables.specs.Names.{name_of}
use Rattle.tables.specs.Lookup.{tickets_of, last_of, lookup, entry_of, names_of}
use Rattle.tables.specs.Same.{said_entry}
use Rattle.tables.proofs.KindLaws.{live_head}
use Rattle.tables.proofs.Keys.{ticket_keys, entry_keys, ticket_laws, entry_laws, lookup_keyed, entry_keyed}
use Rattle.tables.proofs.ByNumber.{Named, named, in_names}
use Rattle.preservation.specs.Rules.{Given}
use Rattle.preservation.proofs.RuleFacts as facts
use Rattle.sameness.proofs.SaidFacts.{said_kind}
use Rattle.image.specs.Image.{kind_number}
use Rattle.saved.specs.declared.Row.{Row}
use Rattle.saved.specs.Row.{key}
use Rattle.saved.specs.Save.{last_row, ticket_row, entry_row, rows_found, rows_of}
use Rattle.restoring.proofs.RowsInForm.{Good, LastLine, TicketLine, EntryLine, Line, last, ticket, entry, line_out}
use Rattle.restoring.proofs.RowsInForm.{last_in_lem, ticket_in_lem, entry_in_lem, ticket_named, entry_named}
use Rattle.restoring.proofs.RowsFollow.{row_pad, row_program, row_number, rows_apart}
use Rattle.saved_blocks.specs.Blocks.{of_kind, has_entry, ticket_line, entry_line, ticket_lines, entry_lines, blocks, block}
use Rattle.saved_blocks.proofs.BlockLaws.{block_last, block_tickets, block_entries, kind_alive, entry_head, entry_alive}

-- ---- keys
row_kind : (pad program : ℕ) (k : Ticket) → (ticket_row pad program k).kind ≡ kind_number k.kind
unfolding ticket_row
row_kind pad program k = ap kind_number (said_kind k.kind k)

ticket_key : (pad program : ℕ) (k : Ticket) → is_live k.kind ≡ true
    → key (ticket_row pad program k) ≡ ((kind_number k.kind * 4 + pad) * 8 + program) * 65536 + k.number
unfolding key
ticket_key pad program k l =
    λ i. ((row_kind pad program k i * 4 + row_pad pad program k i) * 8 + row_program pad program k i) * 65536 + row_number pad program k l i

entry_key : (e : Entry) → key (entry_row e) ≡ ((5 * 4 + e.name.pad) * 8 + e.name.program) * 65536 + e.name.number
unfolding key entry_row said_entry
entry_key e = refl

last_key : (t : Tables) (m : ℕ) → key (last_row t m) ≡ m * 65536 + last_of t (m / 8) (m % 8)
unfolding key last_row
last_key t m =
    let z : (0 * 4 + m / 8) * 8 + m % 8 ≡ m = omega arith in
    ap (λ (x : ℕ). x * 65536 + last_of t (m / 8) (m % 8)) z

kind_range : (c : Kind) → is_live c ≡ true → (1 ≤ kind_number c) × (kind_number c ≤ 4)
kind_range Free l = no_true l
kind_range Taken l = (omega arith, omega arith)
kind_range Received l = (omega arith, omega arith)
kind_range Child l = (omega arith, omega arith)
kind_range Recall l = (omega arith, omega arith)

-- rows by name whose keys are m and the number of the name
record Digits (m : ℕ) (row : Name → Row) (n : Name) : Type 0 where
  key_is : key (row n) ≡ m * 65536 + n.number
  low : n.number ≤ 65535

abbrev Stretch : ℕ → Row → Type 0
Stretch m z = (m * 65536 ≤ key z) × (key z < (m + 1) * 65536)

module _ (m : ℕ) (row : Name → Row) (names : List Name) (each : (n : Name) → In n names → Digits m row n) where
  lines_rise : Rising (λ n. n.number) names → Rising key (map row names)
  lines_rise r =
      rising_map (λ n. n.number) key row names (λ x y i j h. omega (arith, (each x i).key_is, (each y j).key_is, h)) r

  lines_within : (z : Row) → In z (map row names) → Stretch m z
  lines_within z i =
      let f = mapped row z names i in
      let d = each f.from f.member in
      let e : key z ≡ key (row f.from) = ap key f.is in
      (omega (arith, e, d.key_is), omega (arith, e, d.key_is, d.low))

module _ (t : Tables) (good : Good t) where
  by_number : (test : Ticket → Bool) (pad program : ℕ) → Rising (λ n. n.number) (names_of test t pad program)
  unfolding names_of
  by_number test pad program =
      keep_rising (λ n. n.number) (λ n. test (lookup t n)) (tabulate (last_of t pad program) (λ i. name_of pad program (suc i)))
      (rising_tabulate (λ n. n.number) (λ i. name_of pad program (suc i)) (λ i j h. omega (arith, h)) (last_of t pad program))

  module _ (n : Name) (l : is_live (lookup t n).kind ≡ true) where
    given : Given (last_of t) n
    given = good.order.rules.named n l

    number_low : n.number ≤ 65535
    number_low =
        omega (arith, given.high, good.numbers n.pad n.program (omega (arith, given.pad)) (omega (arith, given.program)))

  -- ---- tickets of a kind of a program
  module _ (m : ℕ) (low : 32 ≤ m) where
    abbrev kind : ℕ
    kind = m / 32

    abbrev i : ℕ
    i = m % 32

    ticket_names : List Name
    ticket_names = names_of (of_kind kind) t (i / 8) (i % 8)

    some : 1 ≤ kind
    some = omega (arith, low)

    ticket_digits : (n : Name) → In n ticket_names → Digits m (ticket_line t) n
    unfolding ticket_names
    ticket_digits n a =
        let w = named (of_kind kind) t (i / 8) (i % 8) n a in
        let l = kind_alive kind some (lookup t n) w.passes in
        let k : kind_number (lookup t n).kind ≡ kind = eqb-true (kind_number (lookup t n).kind) kind w.passes in
        let z : (kind * 4 + i / 8) * 8 + i % 8 ≡ m = omega arith in
        let at : ((kind_number (lookup t n).kind * 4 + n.pad) * 8 + n.program) ≡ m = (λ j. (k j * 4 + w.on j) * 8 + w.of j) ∙ z in
        record {
          key_is = ticket_key n.pad n.program (lookup t n) l ∙ λ j. at j * 65536 + good.order.rules.number n l j;
          low = number_low n l;
        }

    tickets_found : m < 160 → (z : Row) → In z (map (ticket_line t) ticket_names) → In z (rows_found t)
    unfolding ticket_names
    tickets_found h z a =
        let f = mapped (ticket_line t) z ticket_names a in
        let n = f.from in
        let w = named (of_kind kind) t (i / 8) (i % 8) n f.member in
        let l = kind_alive kind some (lookup t n) w.passes in
        let g = given n l in
        let e = lookup_keyed t n in
        let member : In (lookup t n) (tickets_of t n.pad n.program)
        = subst (λ (k : Ticket). In k (tickets_of t n.pad n.program)) (sym e)
        (found_member ticket_keys ticket_laws (tickets_of t n.pad n.program) n.number (ap (λ (k : Ticket). is_live k.kind) (sym e) ∙ l)) in
        subst (λ (r : Row). In r (rows_found t)) (sym f.is)
        (ticket_in_lem t n.pad n.program (omega (arith, g.pad)) (omega (arith, g.program)) (lookup t n) member l)

  -- ---- entries of a program's grants
  module _ (m : ℕ) (low : 160 ≤ m) (high : m < 192) where
    abbrev of_program_lem : ℕ
    of_program_lem = m % 32

    entry_names : List Name
    entry_names = names_of (has_entry t) t (of_program_lem / 8) (of_program_lem % 8)

    module _ (n : Name) (a : In n entry_names) where
      w : Named (has_entry t) t (of_program_lem / 8) (of_program_lem % 8) n
      unfolding entry_names
      w = named (has_entry t) t (of_program_lem / 8) (of_program_lem % 8) n a

      l : is_live (lookup t n).kind ≡ true
      l = entry_alive t (lookup t n) w.passes

      dock : (lookup t n).dock ≡ n
      dock = good.order.rules.dock n (entry_head t (lookup t n) w.passes)

      entry_live : (entry_of t n).live ≡ true
      unfolding has_entry
      entry_live = ap (λ (x : Name). (entry_of t x).live) (sym dock) ∙ and_r (is_head (lookup t n).kind) (entry_of t (lookup t n).dock).live w.passes

      entry_digits : Digits m (entry_line t) n
      entry_digits =
          let name : (entry_of t n).name ≡ n = good.order.rules.entry_name n entry_live in
          let z : (5 * 4 + of_program_lem / 8) * 8 + of_program_lem % 8 ≡ m = omega arith in
          let on : (entry_of t n).name.pad ≡ of_program_lem / 8 = ap (λ (x : Name). x.pad) name ∙ w.on in
          let of : (entry_of t n).name.program ≡ of_program_lem % 8 = ap (λ (x : Name). x.program) name ∙ w.of in
          let at : (5 * 4 + (entry_of t n).name.pad) * 8 + (entry_of t n).name.program ≡ m = (λ j. (5 * 4 + on j) * 8 + of j) ∙ z in
          record { key_is = entry_key (entry_of t n) ∙ λ j. at j * 65536 + (name j).number; low = number_low n l }

      member : In (entry_of t n) t.entries
      member =
          let e = entry_keyed t n in
          subst (λ (x : Entry). In x t.entries) (sym e) (found_member entry_keys entry_laws t.entries n (ap (λ (x : Entry). x.live) (sym e) ∙ entry_live))

    entries_found : (z : Row) → In z (map (entry_line t) entry_names) → In z (rows_found t)
    entries_found z a =
        let f = mapped (entry_line t) z entry_names a in
        subst (λ (r : Row). In r (rows_found t)) (sym f.is)
        (entry_in_lem t (entry_of t f.from) (member f.from f.member) (entry_live f.from f.member))

  -- ---- a block: rising, in its stretch of keys, of lines that are found
  record Fine (m : ℕ) (rows : List Row) : Type 0 where
    rising : Rising key rows
    within : (z : Row) → In z rows → Stretch m z
    found : (z : Row) → In z rows → In z (rows_found t)

  last_fine : (m : ℕ) → m < 32 → Fine m (last_row t m ∷ [])
  last_fine m h = record {
    rising = rises (λ y a. absurd (in_none a)) empty;
    within = λ z a.
        let e : key z ≡ m * 65536 + last_of t (m / 8) (m % 8) = ap key (is z a) ∙ last_key t m in
        let fit = good.numbers (m / 8) (m % 8) (omega (arith, h)) (omega arith) in
        (omega (arith, e), omega (arith, e, fit));
    found = λ z a. subst (λ (r : Row). In r (rows_found t)) (sym (is z a)) (last_in_lem t m h);
  }
    where
      is : (z : Row) → In z (last_row t m ∷ []) → z ≡ last_row t m
      is z a = ⊎_elim (λ e. e) (λ b. absurd (in_none b)) (in_cons a)

  tickets_fine : (m : ℕ) → 32 ≤ m → m < 160 → Fine m (ticket_lines t (m / 32) (m % 32))
  unfolding ticket_lines ticket_names
  tickets_fine m low h = record {
    rising = lines_rise m (ticket_line t) (ticket_names m low) (ticket_digits m low) (by_number (of_kind (m / 32)) (m % 32 / 8) (m % 32 % 8));
    within = lines_within m (ticket_line t) (ticket_names m low) (ticket_digits m low);
    found = tickets_found m low h;
  }

  entries_fine : (m : ℕ) → 160 ≤ m → m < 192 → Fine m (entry_lines t (m % 32))
  unfolding entry_lines entry_names
  entries_fine m low high = record {
    rising = lines_rise m (entry_line t) (entry_names m low high) (entry_digits m low high) (by_number (has_entry t) (m % 32 / 8) (m % 32 % 8));
    within = lines_within m (entry_line t) (entry_names m low high) (entry_digits m low high);
    found = entries_found m low high;
  }

  block_fine : (m : ℕ) → m < blocks → Fine m (block t m)
  block_fine m h = go (case (ltb m 32)) (case (ltb m 160))
    where
      go : Case (ltb m 32) → Case (ltb m 160) → Fine m (block t m)
      go (pass a) b = subst (Fine m) (sym (block_last t m (ltb-true m 32 a))) (last_fine m (ltb-true m 32 a))
      go (fail a) (pass b) =
          let low = ltb-false m 32 a in
          let high = ltb-true m 160 b in
          subst (Fine m) (sym (block_tickets t m low high)) (tickets_fine m low high)
      go (fail a) (fail b) = let low = ltb-false m 160 b in subst (Fine m) (sym (block_entries t m low)) (entries_fine m low (omega (arith, h)))

  -- ---- and each line that is found stands in a block
  abbrev whole : List Row
  whole = joined blocks (block t)

  last_stands : (z : Row) → LastLine t z → In z whole
  last_stands z r =
      in_joined blocks (block t) z r.at (omega (arith, r.low))
      (subst (In z) (sym (block_last t r.at r.low)) (first r.is))

  -- a name's line stands in the block of its program
  module _ (test : Ticket → Bool) (row : Name → Row) (n : Name) (l : is_live (lookup t n).kind ≡ true) (e : test (lookup t n) ≡ true) where
    stands : (i : ℕ) → i / 8 ≡ n.pad → i % 8 ≡ n.program → In (row n) (map row (names_of test t (i / 8) (i % 8)))
    stands i on of =
        let g = given n l in
        let here : In (row n) (map row (names_of test t n.pad n.program))
        = in_map row n (names_of test t n.pad n.program) (in_names test t n e g.low g.high) in
        subst (λ (p : ℕ). In (row n) (map row (names_of test t p (i % 8)))) (sym on)
        (subst (λ (q : ℕ). In (row n) (map row (names_of test t n.pad q))) (sym of) here)

  ticket_stands : (z : Row) → TicketLine t z → In z whole
  unfolding ticket_lines
  ticket_stands z r =
      let k = r.ticket in
      let c = kind_number k.kind in
      let n = name_of r.pad r.program k.number in
      let at : lookup t n ≡ k = ticket_named t good r.pad r.program r.pad_low r.program_low k r.member r.lives in
      let l : is_live (lookup t n).kind ≡ true = ap (λ (x : Ticket). is_live x.kind) at ∙ r.lives in
      let range = kind_range k.kind r.lives in
      let i = 8 * r.pad + r.program in
      let m = 32 * c + i in
      let small : i < 32 = omega (arith, r.pad_low, r.program_low) in
      let kind_is : m / 32 ≡ c = omega (arith, small) in
      let i_is : m % 32 ≡ i = omega (arith, small) in
      let on : i / 8 ≡ r.pad = omega (arith, r.program_low) in
      let of : i % 8 ≡ r.program = omega (arith, r.program_low) in
      let e : of_kind c (lookup t n) ≡ true = eq-eqb (kind_number (lookup t n).kind) c (ap (λ (x : Ticket). kind_number x.kind) at) in
      let here : In (ticket_line t n) (ticket_lines t c i) = stands (of_kind c) (ticket_line t) n l e i on of in
      let same : ticket_line t n ≡ z = ap (ticket_row r.pad r.program) at ∙ sym r.is in
      let block_is : block t m ≡ ticket_lines t c i
      = block_tickets t m (omega (arith, range.0)) (omega (arith, range.1, small)) ∙ λ j. ticket_lines t (kind_is j) (i_is j) in
      in_joined blocks (block t) z m (omega (arith, range.1, small)) (subst (In z) (sym block_is) (subst (λ (x : Row). In x (ticket_lines t c i)) same here))

  entry_stands : (z : Row) → EntryLine t z → In z whole
  unfolding entry_lines has_entry
  entry_stands z r =
      let n = r.entry.name in
      let at : entry_of t n ≡ r.entry = entry_named t good r.entry r.member r.lives in
      let live : (entry_of t n).live ≡ true = ap (λ (x : Entry). x.live) at ∙ r.lives in
      let head : is_head (lookup t n).kind ≡ true = facts.entry_head (good.order.rules.entry n live) in
      let l = live_head (lookup t n).kind head in
      let g = given n l in
      let dock : (lookup t n).dock ≡ n = good.order.rules.dock n head in
      let e : has_entry t (lookup t n) ≡ true = and_intro head (ap (λ (x : Name). (entry_of t x).live) dock ∙ live) in
      let i = 8 * n.pad + n.program in
      let m = 160 + i in
      let small : i < 32 = omega (arith, g.pad, g.program) in
      let i_is : m % 32 ≡ i = omega (arith, small) in
      let on : i / 8 ≡ n.pad = omega (arith, g.program) in
      let of : i % 8 ≡ n.program = omega (arith, g.program) in
      let here : In (entry_line t n) (entry_lines t i) = stands (has_entry t) (entry_line t) n l e i on of in
      let same : entry_line t n ≡ z = ap entry_row at ∙ sym r.is in
      let block_is : block t m ≡ entry_lines t i = block_entries t m (omega arith) ∙ ap (entry_lines t) i_is in
      in_joined blocks (block t) z m (omega (arith, small)) (subst (In z) (sym block_is) (subst (λ (x : Row). In x (entry_lines t i)) same here))

  all_stand : (z : Row) → In z (rows_found t) → In z whole
  all_stand z a = go (line_out t z a)
    where
      go : Line t z → In z whole
      go (last r) = last_stands z r
      go (ticket r) = ticket_stands z r
      go (entry r) = entry_stands z r

  -- ---- so they are the same lines
  whole_rises : Rising key whole
  whole_rises =
      rising_joined key (λ m. m * 65536) (λ i j h. omega (arith, h)) blocks (block t) (λ m h. (block_fine m h).rising) (λ m z h a. (block_fine m h).within z a)

  pub blocks_are_rows : joined blocks (block t) ≡ rows_of t
  unfolding rows_of
  blocks_are_rows =
      sym (is_sorted key (rows_found t) whole (rows_apart t good) whole_rises all_stand
      (λ z a. let j = from_joined blocks (block t) z a in (block_fine j.place j.low).found z j.member))
