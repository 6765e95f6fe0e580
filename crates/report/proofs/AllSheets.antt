-- "the two make 256": counted sheet by sheet. Each sheet is in exactly one taken grant or in no entry.
use Prim.Native.Nat.{ℕ, zero, suc, ◌+◌, ◌≤◌, ◌<◌}
use native.Mathlib.Omega.{arith}
use mathlib.Core.Path.{◌≡◌, refl, sym, ap, subst, ◌∙◌}
use mathlib.Core.Logic.{⊎_elim}
use mathlib.Core.Bool.{Bool, true, false, not, ◌||◌, cond}
use mathlib.Core.List.{List, [], ◌∷◌, ◌++◌, flat_map}
use lib.Dec.{eqb, leb, ltb}
use lib.ListN.{length, get_or}
use borrow.Author.Tests.{leb-true, ltb-true, leb-false, ne_eqb, not-false}
use Rattle.lists.specs.Lists.{first_index, all, count_of, total, count_below}
use Rattle.lists.proofs.Tests.{Case, pass, fail, case, and_l, and_r, cannot_pass, contradiction, or_false_l, or_false_r}
use Rattle.lists.proofs.Everywhere.{all_elim}
use Rattle.lists.proofs.Keyed.{found_low, found_at}
use Rattle.tables.specs.declared.{Name.Name, Entry.Entry, Tables.Tables}
use Rattle.tables.specs.Names.{no_entry, eq_name}
use Rattle.tables.specs.Lookup.{last_of, lookup, is_named, entry_in, entry_of}
use Rattle.tables.specs.Chains.{entry_parent}
use Rattle.tables.specs.Sheets.{apart, outside, is_free_sheet, sheets_free}
use Rattle.tables.specs.Order.{under_store}
use Rattle.tables.proofs.Keys.{entry_keys, entry_laws, entry_keyed}
use Rattle.tables.proofs.NameLaws.{eq_name_true, eq_name_ne}
use Rattle.tables.proofs.KindLaws.{taken_head, head_grant}
use Rattle.preservation.specs.Rules.{Rules, Ends, here, up}
use Rattle.preservation.specs.InOrder.{InOrder}
use Rattle.preservation.proofs.SheetTests.{outside_of}
use Rattle.preservation.proofs.RuleFacts.{taken_root}
use Rattle.lists.specs.Members.{In}
use Rattle.report.specs.Rows.{Row, loans_of, taken_grants, rows_from, rows}
use Rattle.report.specs.Complete.{TakenAndFree}
use Rattle.report.specs.Report.{taken_in}
use Rattle.report.proofs.TakenGrants.{taken_is, in_taken, once_taken}
use Rattle.lists.proofs.Counting.{one, sum_same, sum_add, sum_ones, count_sum, total_same, exchanged, count_none, count_one}
use Rattle.report.proofs.Runs.{in_run, in_run_lem, run_count}

-- ---- the depth 0 lines are the taken grants
module _ (t : Tables) where
  taken_append : (xs ys : List Row) → taken_in t (xs ++ ys) ≡ taken_in t xs + taken_in t ys
  unfolding taken_in
  taken_append [] ys = omega arith
  taken_append (r ∷ xs) ys = let e = taken_append xs ys in omega (arith, e)

  none_all : (f : Name → List Row) → ((n : Name) → taken_in t (f n) ≡ 0) → (ns : List Name) → taken_in t (flat_map f ns) ≡ 0
  unfolding taken_in flat_map
  none_all f h [] = refl
  none_all f h (n ∷ ns) = taken_append (f n) (flat_map f ns) ∙ omega (arith, h n, none_all f h ns)

  deep : (left d : ℕ) (n : Name) → taken_in t (rows_from left t (d + 1) n) ≡ 0
  unfolding taken_in rows_from
  deep zero d n = refl
  deep (suc left) d n =
      let e : eqb (d + 1) 0 ≡ false = ne_eqb (d + 1) 0 (λ z. omega (arith, z)) in
      (λ i. cond (e i) (lookup t n).count 0 + none_all (rows_from left t (d + 1 + 1)) (deep left (d + 1)) (loans_of t n) i)

  top : (left : ℕ) (n : Name) → taken_in t (rows_from (suc left) t 0 n) ≡ (lookup t n).count
  unfolding taken_in rows_from
  top left n = omega (arith, none_all (rows_from left t (0 + 1)) (deep left 0) (loans_of t n))

  tops : (left : ℕ) (ns : List Name) → taken_in t (flat_map (rows_from (suc left) t 0) ns) ≡ total (λ n. (lookup t n).count) ns
  unfolding flat_map total taken_in
  tops left [] = refl
  tops left (n ∷ ns) = taken_append (rows_from (suc left) t 0 n) (flat_map (rows_from (suc left) t 0) ns) ∙ (λ i. top left n i + tops left ns i)

  pub taken_total : taken_in t (rows t) ≡ total (λ n. (lookup t n).count) (taken_grants t)
  unfolding rows
  taken_total = tops 255 (taken_grants t)

-- ---- a test that not all pass
record Broken (f : Entry → Bool) (l : List Entry) : Type 0 where
  place : ℕ
  low : place < length l
  fails : f (get_or l place no_entry) ≡ false

broken : (f : Entry → Bool) (l : List Entry) → all f l ≡ false → Broken f l
unfolding all
broken f [] e = absurd (contradiction {b = true} refl e)
broken f (x ∷ xs) e = go (case (f x)) (broken f xs)
  where
    go : Case (f x) → (all f xs ≡ false → Broken f xs) → Broken f (x ∷ xs)
    go (fail z) h = record { place = 0; low = omega arith; fails = z }
    go (pass z) h = let b = h (rw z at e) in record { place = suc b.place; low = omega (arith, b.low); fails = b.fails }

module _ (t : Tables) (o : InOrder t) (s : ℕ) where
  abbrev rules : Rules (lookup t) (entry_of t) (last_of t)
  rules = o.rules

  has : Name → Bool
  has n = in_run (lookup t n).first (lookup t n).count s

  record Has (f c : ℕ) : Type 0 where
    low : f ≤ s
    high : s < f + c

  has_of : (f c : ℕ) → in_run f c s ≡ true → Has f c
  unfolding in_run
  has_of f c e = record { low = leb-true f s (and_l (leb f s) (ltb s (f + c)) e); high = ltb-true s (f + c) (and_r (leb f s) (ltb s (f + c)) e) }

  -- an entry with the sheet hangs from one directly under the store that has it
  record Root : Type 0 where
    name : Name
    live : (entry_of t name).live ≡ true
    store : under_store (entry_of t name) ≡ true
    sheet : Has (entry_of t name).first (entry_of t name).count

  root : {n : Name} {d : ℕ} → Ends (entry_parent (entry_of t)) n d → (entry_of t n).live ≡ true → Has (entry_of t n).first (entry_of t n).count → Root
  root {n} (here e) l h = record { name = n; live = l; store = e; sheet = h }
  root {n} (up e rest) l h =
      let u = rules.under n l e in
      root rest u.live (record { low = omega (arith, u.inside.from, h.low); high = omega (arith, u.inside.to, h.high) })

  -- a taken grant and its entry
  entry_live : (n : Name) → In n (taken_grants t) → (entry_of t n).live ≡ true
  entry_live n i = rules.taken n (taken_is t n i)

  entry_has : (n : Name) → In n (taken_grants t) → has n ≡ true → Has (entry_of t n).first (entry_of t n).count
  unfolding has
  entry_has n i e =
      let ok = rules.entry n (entry_live n i) in
      let h = has_of (lookup t n).first (lookup t n).count e in
      record { low = omega (arith, ok.first, h.low); high = omega (arith, ok.first, ok.count, h.high) }

  -- outside all entries: in no taken grant
  nobody : is_free_sheet t.entries s ≡ true → (n : Name) → In n (taken_grants t) → has n ≡ false
  unfolding is_free_sheet entry_in is_named
  nobody e n i = cannot_pass (has n) (λ p.
      (let l = entry_live n i in
      let out : outside s 1 (entry_of t n) ≡ true = all_elim no_entry (outside s 1) t.entries e (first_index (is_named n) t.entries)
      (found_low entry_keys entry_laws t.entries n l) in
      let h = entry_has n i p in
      ⊎_elim (λ a. omega (arith, a, h.low)) (λ b. omega (arith, b, h.high)) (outside_of s 1 (entry_of t n) out l)))

  -- in some entry: in exactly one taken grant
  record Covered : Type 0 where
    name : Name
    live : (entry_of t name).live ≡ true
    sheet : Has (entry_of t name).first (entry_of t name).count

  covered : is_free_sheet t.entries s ≡ false → Covered
  unfolding is_free_sheet outside apart
  covered e =
      let b = broken (outside s 1) t.entries e in
      let x : Entry = get_or t.entries b.place no_entry in
      let live : x.live ≡ true = not-false x.live (or_false_l _ _ b.fails) in
      let near : (leb (s + 1) x.first || leb (x.first + x.count) s) ≡ false = or_false_r (not x.live) _ b.fails in
      let same : entry_of t x.name ≡ x = entry_keyed t x.name ∙ found_at entry_keys entry_laws t.entries o.shape.distinct_entries b.place b.low live in
      let low : x.first < s + 1 = leb-false (s + 1) x.first (or_false_l _ _ near) in
      let high : s < x.first + x.count = leb-false (x.first + x.count) s (or_false_r (leb (s + 1) x.first) _ near) in
      record {
        name = x.name;
        live = ap (λ (y : Entry). y.live) same ∙ live;
        sheet = subst (λ (y : Entry). Has y.first y.count) (sym same) (record { low = omega arith; high = high });
      }

  owner : is_free_sheet t.entries s ≡ false → Root
  owner e = let c = covered e in root (rules.entry_chain c.name c.live).1 c.live c.sheet

  owner_has : (r : Root) → has r.name ≡ true
  unfolding has
  owner_has r =
      let ok = rules.entry r.name r.live in
      in_run_lem (lookup t r.name).first (lookup t r.name).count s (omega (arith, ok.first, r.sheet.low)) (omega (arith, ok.first, ok.count, r.sheet.high))

  alone : (r : Root) (n : Name) → In n (taken_grants t) → has n ≡ true → n ≡ r.name
  alone r n i p = go (case (eq_name n r.name))
    where
      go : Case (eq_name n r.name) → n ≡ r.name
      go (pass e) = eq_name_true n r.name e
      go (fail e) =
          let l = entry_live n i in
          let h = entry_has n i p in
          let k = r.sheet in
          let a = rules.roots n r.name l r.live (taken_root (rules.entry n l) (taken_is t n i)) r.store (eq_name_ne n r.name e) in
          absurd (⊎_elim (λ x. omega (arith, x, h.high, k.low)) (λ y. omega (arith, y, h.low, k.high)) a)

  each_sheet : count_of has (taken_grants t) + one (is_free_sheet t.entries s) ≡ 1
  each_sheet = go (case (is_free_sheet t.entries s))
    where
      go : Case (is_free_sheet t.entries s) → count_of has (taken_grants t) + one (is_free_sheet t.entries s) ≡ 1
      go (pass e) = (λ i. count_none has (taken_grants t) (nobody e) i + one (e i))
      go (fail e) =
          let r = owner e in
          let i : In r.name (taken_grants t) = in_taken t rules r.name ((rules.entry r.name r.live).taken r.store) in
          (λ k. count_one has (taken_grants t) (once_taken t) r.name i (owner_has r) (λ n j p. alone r n j p) k + one (e k))

-- ---- "The first is the sum of the counts of the depth 0 lines. The second is counted sheet by sheet over all entries, and the two make 256."
pub all_sheets : TakenAndFree
unfolding sheets_free has
all_sheets t o =
    let L = taken_grants t in
    let run : Name → ℕ → Bool = λ n s. in_run (lookup t n).first (lookup t n).count s in
    let counts : total (λ n. (lookup t n).count) L ≡ total (λ n. count_below 256 (run n)) L =
    total_same (λ n. (lookup t n).count) (λ n. count_below 256 (run n)) L (λ n i.
    sym (run_count (lookup t n).first (lookup t n).count 256 (o.rules.span n (head_grant (lookup t n).kind
    (taken_head (lookup t n).kind (taken_is t n i)))).fits)) in
    (λ k. (taken_total t ∙ counts ∙ exchanged 256 run L) k + count_sum 256 (is_free_sheet t.entries) k)
    ∙ sum_add 256 (λ s. count_of (λ n. run n s) L) (λ s. one (is_free_sheet t.entries s))
    ∙ sum_same 256 (λ s. count_of (λ n. run n s) L + one (is_free_sheet t.entries s)) (λ s. 1) (λ s b. each_sheet t o s)
    ∙ sum_ones 256
