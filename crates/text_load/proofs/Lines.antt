-- The lines one after the other. Before the line that begins at `from`: the lines so far are in form and follow each other, they are counted and
-- fill the image, and what is asked of all lines is asked of those that are left.
use Prim.Native.Nat.{ℕ, ◌+◌, ◌-◌, ◌*◌, ◌/◌, ◌%◌, ◌≤◌, ◌<◌}
use native.Mathlib.Omega.{arith}
use mathlib.Core.Path.{◌≡◌, refl, sym, ap, subst, ◌∙◌}
use mathlib.Core.Bool.{Bool, true, false, ◌&&◌}
use mathlib.Core.List.{List, [], ◌∷◌}
use lib.Dec.{leb, ltb}
use lib.ListN.{length, get_or, take, drop, replicate, length-replicate, get_or-replicate}
use lib.Seq.{ext_get_or}
use borrow.Author.Tests.{leb-true, le-leb, ltb-true, lt-ltb, lt-leb}
use Rattle.lists.specs.Lists.{all, some, count_of}
use Rattle.std.specs.Prelude.{Some, None}
use Rattle.text_rows.specs.Reading.{row_in}
use Rattle.lists.proofs.Tests.{Case, pass, fail, case, both_ways, and_r, and_intro, and_false, no_true}
use Rattle.lists.proofs.Reading.{same_all}
use Rattle.lists.proofs.PartLaws.{every_intro, every_at}
use Rattle.lists.proofs.Growing.{turned, count_turned}
use Rattle.tables.specs.declared.{Program.Program, Pad.Pad, Tables.Tables}
use Rattle.tables.specs.Names.{free, no_program, no_pad, empty_tables}
use Rattle.tables.specs.Lookup.{last_of}
use Rattle.image.specs.Layout.{image_size}
use Rattle.image.specs.Image.{decode}
use Rattle.image.proofs.RoundTrip.{encode_is_image}
use Rattle.image.proofs.EmptyImage.{empty_zeros, zeros_empty}
use Rattle.image_read.specs.Places.{tickets_in, lasts_in}
use Rattle.image_read.proofs.Places.{tickets_long, lasts_long_lem, entries_decoded}
use Rattle.image_find.proofs.Laws.{flattened}
use Rattle.image_places.specs.Places.{placed}
use Rattle.image_write.specs.Shows.{Holds}
use Rattle.preservation.proofs.EmptyDockInOrder.{empty_sized}
use Rattle.text.specs.Bytes.{line_end}
use Rattle.text.specs.Reading.{lines, has_values, values_of}
use Rattle.text.proofs.ReadingLaws.{up_to}
use Rattle.text.proofs.NextLine.{no_line, line_at, line_first}
use Rattle.text.proofs.NextLine as next_line
use Rattle.saved.specs.declared.Row.{Row}
use Rattle.saved.specs.Row.{columns, row_of, line_ok, row_ok, key}
use Rattle.saved.specs.Save.{programs}
use Rattle.saved.specs.Load.{above, has_room, may_follow, all_follow, last_of_program, all_programs}
use Rattle.saved.proofs.RowLaws.{ranges}
use Rattle.text_fill.specs.Filling.{sorts, sort_of, most_of, count_before, next_key, tickets_by, lasts_by, entries_by, bare_tables, Followed, none, more, Tallied, Filled}
use Rattle.text_fill.proofs.Sorts.{sort_low, count_last, some_counted, room_by_sort}
use Rattle.text_fill.proofs.Made.{rows_by, made}
use Rattle.text_load.specs.Reading.{rows_of_lines, lines_ok, ReadsLines}

-- ---- nothing read yet: zeros are filled by no lines
abbrev nothing_given : Program
nothing_given = record { tickets = replicate 8 free; last = 0 }

abbrev no_pad_given : Pad
no_pad_given = record { programs = replicate 8 nothing_given }

no_ticket : (p : ℕ) → p < 256 → placed empty_tables p ≡ free
unfolding empty_tables
no_ticket p low =
    let a : p / 64 < 4 = omega (arith, low) in
    let b : p / 8 % 8 < 8 = omega arith in
    ap (λ (x : Pad). get_or (get_or x.programs (p / 8 % 8) no_program).tickets (p % 8) free) (get_or-replicate 4 (p / 64) no_pad_given no_pad a)
    ∙ ap (λ (x : Program). get_or x.tickets (p % 8) free) (get_or-replicate 8 (p / 8 % 8) nothing_given no_program b)
    ∙ same_all 8 free (p % 8)

no_number : (p q : ℕ) → p < 4 → q < 8 → last_of empty_tables p q ≡ 0
unfolding empty_tables
no_number p q a b =
    ap (λ (x : Pad). (get_or x.programs q no_program).last) (get_or-replicate 4 p no_pad_given no_pad a)
    ∙ ap (λ (x : Program). x.last) (get_or-replicate 8 q nothing_given no_program b)

pub zeros_filled : (image : List ℕ) → image ≡ replicate image_size 0 → Filled [] image
unfolding tickets_by lasts_by entries_by empty_tables
zeros_filled image e =
    let t : decode image ≡ empty_tables = ap decode e ∙ zeros_empty empty_sized in
    let f = flattened image in
    record {
      is = rw (e, sym empty_zeros) (encode_is_image empty_tables);
      tickets = ext_get_or free (tickets_in image) (replicate 256 free) (tickets_long image ∙ sym (length-replicate 256 free))
          (λ p h. let low : p < 256 = omega (arith, h, tickets_long image) in
          f.same p low ∙ ap (λ (u : Tables). placed u p) t ∙ no_ticket p low ∙ sym (same_all 256 free p));
      lasts = ext_get_or 0 (lasts_in image) (replicate {A = ℕ} 32 0) (lasts_long_lem image ∙ sym (length-replicate {A = ℕ} 32 0))
          (λ p h. let low : p < 32 = omega (arith, h, lasts_long_lem image) in
          let z : p ≡ 8 * (p / 8) + p % 8 = omega arith in
          let a : p / 8 < 4 = omega (arith, low) in
          let b : p % 8 < 8 = omega arith in
          ap (λ (i : ℕ). get_or (lasts_in image) i 0) z ∙ f.last (p / 8) (p % 8) a b ∙ ap (λ (u : Tables). last_of u (p / 8) (p % 8)) t
          ∙ no_number (p / 8) (p % 8) a b ∙ sym (same_all 32 0 p));
      entries = entries_decoded image ∙ ap (λ (u : Tables). u.entries) t;
    }

-- ---- a line that may follow, by what is counted
pub above_next : (before : List Row) (r : Row) → above before r ≡ leb (next_key before) (key r)
unfolding above next_key
above_next [] r = sym (le-leb 0 (key r) (omega arith))
above_next (last ∷ earlier) r =
    both_ways (ltb (key last) (key r)) (leb (key last + 1) (key r)) (λ e. le-leb (key last + 1) (key r) (omega (arith, ltb-true (key last) (key r) e)))
    (λ e. lt-ltb (key last) (key r) (omega (arith, leb-true (key last + 1) (key r) e)))

module _ (before : List Row) (r : Row) where
  pub not_above : key r < next_key before → may_follow before r ≡ false
  unfolding may_follow
  not_above h = rw (above_next before r, lt-leb (next_key before) (key r) h)

  module _ (ok : Followed before) (o : row_ok r ≡ true) (tally : List ℕ) (t : Tallied before tally) where
    room_told : ltb (get_or tally (sort_of r) 0) (most_of r) ≡ has_room before r
    room_told = ap (λ (n : ℕ). ltb n (most_of r)) (t.counts (sort_of r) (sort_low r o)) ∙ sym (room_by_sort before r ok o)

    pub no_room : ltb (get_or tally (sort_of r) 0) (most_of r) ≡ false → may_follow before r ≡ false
    unfolding may_follow
    no_room e = ap (λ (b : Bool). above before r && b) (sym room_told ∙ e) ∙ and_false (above before r)

    pub may_follow_lem : next_key before ≤ key r → ltb (get_or tally (sort_of r) 0) (most_of r) ≡ true → may_follow before r ≡ true
    unfolding may_follow
    may_follow_lem h e = and_intro (above_next before r ∙ le-leb (next_key before) (key r) h) (sym room_told ∙ e)

-- ---- a line in form, and one of another
told_row : (line : List ℕ) (r : Row) → Some r ≡ row_in line → (r ≡ row_of (values_of line)) × (line_ok line ≡ true)
unfolding row_in
told_row line r e = go (case (line_ok line))
  where
    go : Case (line_ok line) → (r ≡ row_of (values_of line)) × (line_ok line ≡ true)
    go (pass t) = let q = rw t at e in (cc, t)
    go (fail f) = let q = rw f at e in cc

told_other : (line : List ℕ) → None ≡ row_in line → line_ok line ≡ false
unfolding row_in
told_other line e = go (case (line_ok line))
  where
    go : Case (line_ok line) → line_ok line ≡ false
    go (pass t) = let q = rw t at e in cc
    go (fail f) = f

pub row_in_form : (line : List ℕ) (r : Row) → Some r ≡ row_in line → row_ok r ≡ true
unfolding line_ok
row_in_form line r read =
    let t = told_row line r read in
    ap row_ok t.0 ∙ and_r (has_values columns line) (row_ok (row_of (values_of line))) t.1

pub key_low : (r : Row) → row_ok r ≡ true → r.number ≤ 65535 → key r < 12582912
unfolding key
key_low r o n = let w = ranges r o in omega (arith, w.kind, w.pad, w.program, n)

-- ---- between two lines
pub record Going (text : List ℕ) (start : ℕ) (image tally : List ℕ) (next from : ℕ) : Type 0 where
  pub before : List Row
  pub inside : from ≤ length text + 1
  pub ok : Followed before
  pub tallied : Tallied before tally
  pub filled : Filled before image
  pub key_next : next ≡ next_key before
  pub formed : all line_ok (lines (drop start text)) ≡ all line_ok (lines (drop from text))
  pub rows : rows_of_lines (lines (drop start text)) ≡ turned before (rows_of_lines (lines (drop from text)))
  pub follow : all_follow [] (rows_of_lines (lines (drop start text))) ≡ all_follow before (rows_of_lines (lines (drop from text)))

pub begins : (text : List ℕ) (start : ℕ) (image : List ℕ) → start ≤ length text + 1 → image ≡ replicate image_size 0
    → Going text start image (replicate sorts 0) 0 start
unfolding turned next_key count_before count_of
begins text start image inside zeros = record {
  before = [];
  inside = inside;
  ok = none;
  tallied = record { long = length-replicate {A = ℕ} sorts 0; counts = λ sort low. same_all sorts 0 sort };
  filled = zeros_filled image zeros;
  key_next = refl;
  formed = refl;
  rows = refl;
  follow = refl;
}

module _ (text : List ℕ) (start : ℕ) (image tally : List ℕ) (next from : ℕ) (g : Going text start image tally next from) where
  abbrev all_lines : List (List ℕ)
  all_lines = lines (drop start text)

  -- ---- one line more
  module _ (k : ℕ) (told : k ≡ up_to line_end (take (length text - from) (drop from text))) (some_left : from < length text) where
    abbrev line : List ℕ
    line = line_at text from k told some_left

    abbrev left : List (List ℕ)
    left = lines (drop (from + k + 1) text)

    split : lines (drop from text) ≡ line ∷ left
    split = line_first text from k told some_left

    pub other_form : None ≡ row_in line → (image' : List ℕ) → ReadsLines all_lines false image'
    unfolding lines_ok all
    other_form e image' = record {
      answer = sym (rw (g.formed ∙ ap (all line_ok) split, told_other line e));
      tables = λ t. no_true t;
    }

    module _ (r : Row) (read : Some r ≡ row_in line) where
      row_is : r ≡ row_of (values_of line)
      row_is = (told_row line r read).0

      follow_here : all_follow [] (rows_of_lines all_lines) ≡ (may_follow g.before r && all_follow (r ∷ g.before) (rows_of_lines left))
      unfolding all_follow
      follow_here =
          g.follow ∙ ap (λ (ls : List (List ℕ)). all_follow g.before (rows_of_lines ls)) split
          ∙ ap (λ (x : Row). may_follow g.before x && all_follow (x ∷ g.before) (rows_of_lines left)) (sym row_is)

      pub not_next : may_follow g.before r ≡ false → (image' : List ℕ) → ReadsLines all_lines false image'
      unfolding lines_ok
      not_next e image' = record {
        answer = sym (ap (λ (b : Bool). all line_ok all_lines && b && all_programs (rows_of_lines all_lines)) (follow_here ∙ rw e)
            ∙ ap (λ (b : Bool). b && all_programs (rows_of_lines all_lines)) (and_false (all line_ok all_lines)));
        tables = λ t. no_true t;
      }

      pub goes_on : may_follow g.before r ≡ true → (image' tally' : List ℕ) (keyed : ℕ) → keyed ≡ key r → Tallied (r ∷ g.before) tally'
          → Filled (r ∷ g.before) image' → Going text start image' tally' (keyed + 1) (from + k + 1)
      unfolding turned next_key all
      goes_on m image' tally' keyed e t f = record {
        before = r ∷ g.before;
        inside = omega (arith, next_line.line_inside text from k told some_left);
        ok = more (row_in_form line r read) m g.ok;
        tallied = t;
        filled = f;
        key_next = ap (λ (n : ℕ). n + 1) e;
        formed = g.formed ∙ ap (all line_ok) split ∙ rw ((told_row line r read).1);
        rows = g.rows ∙ ap (λ (ls : List (List ℕ)). turned g.before (rows_of_lines ls)) split
            ∙ ap (λ (x : Row). turned g.before (x ∷ rows_of_lines left)) (sym row_is);
        follow = follow_here ∙ rw m;
      }

  -- ---- behind the last line
  module _ (past : length text ≤ from) where
    nothing_left : lines (drop from text) ≡ []
    nothing_left = no_line text from past

    all_read : rows_of_lines all_lines ≡ rows_by g.before
    all_read = g.rows ∙ ap (λ (ls : List (List ℕ)). turned g.before (rows_of_lines ls)) nothing_left

    all_formed : all line_ok all_lines ≡ true
    unfolding all
    all_formed = g.formed ∙ ap (all line_ok) nothing_left

    all_followed : all_follow [] (rows_of_lines all_lines) ≡ true
    unfolding all_follow
    all_followed = g.follow ∙ ap (λ (ls : List (List ℕ)). all_follow g.before (rows_of_lines ls)) nothing_left

    programs_told : all (λ i. ltb 0 (get_or tally i 0)) programs ≡ all_programs (rows_of_lines all_lines)
    unfolding all_programs programs
    programs_told =
        both_ways (all (λ i. ltb 0 (get_or tally i 0)) programs) (all_programs (rows_of_lines all_lines))
        (λ e. every_intro 32 (λ i. some (last_of_program (i / 8) (i % 8)) (rows_of_lines all_lines))
        (λ i low. sym (told i low) ∙ every_at 32 (λ j. ltb 0 (get_or tally j 0)) e i low))
        (λ e. every_intro 32 (λ i. ltb 0 (get_or tally i 0)) (λ i low. told i low ∙ every_at 32 (λ j. some (last_of_program (j / 8) (j % 8)) (rows_of_lines all_lines)) e i
        low))
      where
        told : (i : ℕ) → i < 32 → ltb 0 (get_or tally i 0) ≡ some (last_of_program (i / 8) (i % 8)) (rows_of_lines all_lines)
        told i low =
            let test = last_of_program (i / 8) (i % 8) in
            let z : 8 * (i / 8) + i % 8 ≡ i = omega arith in
            ap (λ (n : ℕ). ltb 0 n)
            (g.tallied.counts i (omega (arith, low)) ∙ ap (count_before g.before) (sym z)
            ∙ sym (count_last g.ok (i / 8) (i % 8) (omega (arith, low)) (omega arith)) ∙ sym (count_turned test g.before))
            ∙ sym (some_counted test (rows_by g.before)) ∙ ap (some test) (sym all_read)

    pub ends : (r : Bool) → r ≡ all (λ i. ltb 0 (get_or tally i 0)) programs → ReadsLines all_lines r image
    unfolding lines_ok
    ends r e = record {
      answer = e ∙ programs_told ∙ sym (ap (λ (b : Bool). b && all_programs (rows_of_lines all_lines)) (and_intro all_formed all_followed));
      tables = λ t. subst (λ (rows : List Row). Holds image (bare_tables rows)) (sym all_read) (made g.ok image g.filled);
    }
