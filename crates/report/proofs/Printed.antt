-- The rows of the report are the grants that are lent, each at its depth and once.
use Prim.Native.Nat.{ℕ, zero, suc, ◌+◌, ◌<◌}
use native.Mathlib.Omega.{arith}
use mathlib.Core.Path.{◌≡◌, refl, sym, ap, subst, ◌∙◌}
use mathlib.Core.Bool.{true}
use mathlib.Core.List.{map, flat_map}
use Rattle.tables.specs.declared.{Name.Name, Tables.Tables}
use Rattle.preservation.specs.InOrder.{InOrder}
use Rattle.lists.specs.Members.{In, first, later, Once, none, more}
use Rattle.report.specs.Rows.{Row, row_of, is_listed, loans_of, taken_grants, rows_from, rows}
use Rattle.report.specs.Complete.{printed, PrintedOnce, PrintedListed}
use Rattle.lists.proofs.MemberLaws.{mapped, in_map, flat, in_flat, once_flat}
use Rattle.report.proofs.TakenGrants.{taken_is, in_taken, once_taken}
use Rattle.report.proofs.Lending.{once_loans, lender}
use Rattle.report.proofs.Depth.{Lent, root, loan, one_depth, lent_listed, shallow, reached}

module _ (t : Tables) (now : InOrder t) where
  abbrev pub L : Name → ℕ → Type 0
  L n d = Lent t now n d

  -- ---- from a row to its depth
  row_lent : (left depth : ℕ) (n : Name) → L n depth → (r : Row) → In r (rows_from left t depth n) → L r.name r.depth
  unfolding rows_from
  row_lent (suc left) depth n l r (first e) = subst (λ (x : Row). L x.name x.depth) (sym e) l
  row_lent (suc left) depth n l r (later i) =
      let p = flat (rows_from left t (depth + 1)) r (loans_of t n) i in
      let z : suc depth ≡ depth + 1 = omega arith in
      row_lent left (depth + 1) p.from (subst (λ (d : ℕ). L p.from d) z (loan l p.member)) r p.part
  row_lent zero depth n l r x'' = elim x'' [ ]

  rows_lent : (r : Row) → In r (rows t) → L r.name r.depth
  unfolding rows
  rows_lent r i =
      let p = flat (rows_from 256 t 0) r (taken_grants t) i in
      row_lent 256 0 p.from (root (taken_is t p.from p.member)) r p.part

  -- ---- from a depth to its row: a row's loans are rows, as far as places are left
  next : (left depth : ℕ) (top n m : Name) (d : ℕ) → In m (loans_of t n) → d + 1 < depth + left → In (row_of d n) (rows_from left t depth top)
      → In (row_of (d + 1) m) (rows_from left t depth top)
  unfolding rows_from
  next (suc zero) depth top n m d i b (first e) = absurd (let z : d ≡ depth = ap (λ (r : Row). r.depth) e in omega (arith, z, b))
  next (suc (suc left)) depth top n m d i b (first e) =
      let z : d ≡ depth = ap (λ (r : Row). r.depth) e in
      let y : n ≡ top = ap (λ (r : Row). r.name) e in
      later (in_flat (rows_from (suc left) t (depth + 1)) (row_of (d + 1) m) m (loans_of t top) (subst (λ (x : Name). In m (loans_of t x)) y i)
      (first (λ k. row_of (z k + 1) m)))
  next (suc left) depth top n m d i b (later j) =
      let p = flat (rows_from left t (depth + 1)) (row_of d n) (loans_of t top) j in
      later (in_flat (rows_from left t (depth + 1)) (row_of (d + 1) m) p.from (loans_of t top) p.member
      (next left (depth + 1) p.from n m d i (omega arith) p.part))
  next zero depth top n m d i b x3 = elim x3 [ ]

  lent_row : {n : Name} {d : ℕ} → L n d → In (row_of d n) (rows t)
  unfolding rows rows_from
  lent_row {n} (root e) = in_flat (rows_from 256 t 0) (row_of 0 n) n (taken_grants t) (in_taken t now.rules n e) (first refl)
  lent_row {n = m} (loan {n = n} {d = d} l i) =
      let b : suc d < 256 = shallow t now (loan l i) in
      let p = flat (rows_from 256 t 0) (row_of d n) (taken_grants t) (lent_row l) in
      let z : d + 1 ≡ suc d = omega arith in
      in_flat (rows_from 256 t 0) (row_of (suc d) m) p.from (taken_grants t) p.member
      (subst (λ (k : ℕ). In (row_of k m) (rows_from 256 t 0 p.from)) z (next 256 0 p.from n m d i (omega arith) p.part))

  -- ---- once: what is below two loans of one depth is below one loan
  pub data Down (top : Name) : Name → ℕ → Type 0 where
    here : {x : Name} → top ≡ x → Down top x 0
    down : {y x : Name} {k : ℕ} → Down top y k → In x (loans_of t y) → Down top x (suc k)

  pub down_lent : {top x : Name} {d k : ℕ} → L top d → Down top x k → L x (k + d)
  down_lent {top} {d = d} l (here e) = let z : d ≡ 0 + d = omega arith in subst (λ (y : Name). L y (0 + d)) e (subst (λ (c : ℕ). L top c) z l)
  down_lent {x = x} {d = d} l (down {k = k} b i) = let z : suc (k + d) ≡ suc k + d = omega arith in subst (λ (c : ℕ). L x c) z (loan (down_lent l b) i)

  same_top : {top top' x : Name} {k : ℕ} → Down top x k → Down top' x k → top ≡ top'
  same_top (here e) (here e') = e ∙ sym e'
  same_top {top' = top'} {x = x} (down {y = y} {k = k} b i) (down b' i') = same_top b (subst (λ (z : Name). Down top' z k) (lender t now _ y x i' i) b')

  pub above : {top q x : Name} {k : ℕ} → In q (loans_of t top) → Down q x k → Down top x (suc k)
  above {top} i (here e) = down (here refl) (subst (λ (z : Name). In z (loans_of t top)) e i)
  above i (down b j) = down (above i b) j

  pub record Under (top x : Name) : Type 0 where
    pub steps : ℕ
    pub way : Down top x steps

  row_under : (left depth : ℕ) (n : Name) (r : Row) → In r (rows_from left t depth n) → Under n r.name
  unfolding rows_from
  row_under (suc left) depth n r (first e) = record { steps = 0; way = here (ap (λ (x : Row). x.name) (sym e)) }
  row_under (suc left) depth n r (later i) =
      let p = flat (rows_from left t (depth + 1)) r (loans_of t n) i in
      let u = row_under left (depth + 1) p.from r p.part in
      record { steps = suc u.steps; way = above p.member u.way }
  row_under zero depth n r x' = elim x' [ ]

  name_under : (left depth : ℕ) (n c : Name) → In c (map (λ (r : Row). r.name) (rows_from left t depth n)) → Under n c
  name_under left depth n c i =
      let m = mapped (λ (r : Row). r.name) c (rows_from left t depth n) i in
      subst (λ (x : Name). Under n x) (sym m.is) (row_under left depth n m.from m.member)

  pub one_top : (d : ℕ) (a a' c : Name) → L a d → L a' d → Under a c → Under a' c → a ≡ a'
  one_top d a a' c l l' u u' =
      let e : u.steps + d ≡ u'.steps + d = one_depth t now (down_lent l u.way) (down_lent l' u'.way) in
      let z : u'.steps ≡ u.steps = omega (arith, e) in
      same_top u.way (subst (λ (k : ℕ). Down a' c k) z u'.way)

  once_from : (left depth : ℕ) (n : Name) → L n depth → Once (map (λ (r : Row). r.name) (rows_from left t depth n))
  unfolding rows_from
  once_from zero depth n l = none
  once_from (suc left) depth n l =
      more not_again
      (once_flat (rows_from left t (depth + 1)) (λ (r : Row). r.name) (loans_of t n) (once_loans t now n) (λ q i. once_from left (depth + 1) q (deeper q i))
      (λ a a' c i j u v. one_top (depth + 1) a a' c (deeper a i) (deeper a' j) (name_under left (depth + 1) a c u) (name_under left (depth + 1) a' c v)))
    where
      deeper : (q : Name) → In q (loans_of t n) → L q (depth + 1)
      deeper q i = let z : suc depth ≡ depth + 1 = omega arith in subst (λ (d : ℕ). L q d) z (loan l i)

      not_again : In n (map (λ (r : Row). r.name) (flat_map (rows_from left t (depth + 1)) (loans_of t n))) → ⊥
      not_again i =
          let m = mapped (λ (r : Row). r.name) n (flat_map (rows_from left t (depth + 1)) (loans_of t n)) i in
          let p = flat (rows_from left t (depth + 1)) m.from (loans_of t n) m.member in
          let u = row_under left (depth + 1) p.from m.from p.part in
          let e : u.steps + (depth + 1) ≡ depth = one_depth t now (subst (λ (x : Name). L x (u.steps + (depth + 1))) (sym m.is)
          (down_lent (deeper p.from p.member) u.way)) l in
          omega (arith, e)

pub printed_once : PrintedOnce
unfolding rows
printed_once t now =
    once_flat (rows_from 256 t 0) (λ (r : Row). r.name) (taken_grants t) (once_taken t) (λ n i. once_from t now 256 0 n (root (taken_is t n i)))
    (λ a a' c i j u v. one_top t now 0 a a' c (root (taken_is t a i)) (root (taken_is t a' j)) (name_under t now 256 0 a c u) (name_under t now 256 0 a' c v))

pub printed_listed : PrintedListed
printed_listed t now n = (to, back)
  where
    to : In n (printed t) → is_listed t n ≡ true
    to i =
        let m = mapped (λ (r : Row). r.name) n (rows t) i in
        subst (λ (x : Name). is_listed t x ≡ true) (sym m.is) (lent_listed t now (rows_lent t now m.from m.member))

    back : is_listed t n ≡ true → In n (printed t)
    back l = let r = reached t now n l in in_map (λ (x : Row). x.name) (row_of r.depth n) (rows t) (lent_row t now r.at)
