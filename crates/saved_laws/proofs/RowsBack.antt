-- From lines to tables and back: lines that may follow each other rise; the row of a row's ticket or entry is that row. There it counts that
-- what a kind does not use is 0 and that of an entry's parents only zeros are the store.
use Prim.Native.Nat.{ℕ, ◌≤◌, ◌<◌}
use native.Mathlib.Omega.{arith}
use mathlib.Core.Path.{◌≡◌, sym, ap, subst}
use mathlib.Core.Logic.{◌⊎◌, inl, inr}
use mathlib.Core.Bool.{true, ◌&&◌, cond}
use mathlib.Core.List.{List, [], ◌∷◌}
use lib.Dec.{ltb, eqb}
use borrow.Author.Tests.{ltb-true, eqb-true, eqb-false}
use Rattle.lists.specs.Tests.{between}
use Rattle.lists.specs.Members.{In, first, later}
use Rattle.lists.proofs.Tests.{Case, pass, fail, case, and_l, and_r, between_low, between_high}
use Rattle.lists.proofs.MemberLaws.{in_none}
use Rattle.lists.proofs.Rising.{Rising, empty, rises}
use Rattle.tables.specs.declared.{Name.Name}
use Rattle.tables.specs.Names.{name_of, no_name, is_none}
use Rattle.tables.specs.Same.{said_by, said_entry}
use Rattle.image.specs.Image.{kind_of}
use Rattle.saved.specs.declared.Row.{Row}
use Rattle.saved.specs.Row.{is_last_row, is_ticket_row, is_entry_row, zero_unless, own_ok, other_ok, sheets_ok, row_ok, key}
use Rattle.saved.specs.Save.{ticket_row, entry_row}
use Rattle.saved.specs.Load.{above, has_room, may_follow, all_follow, ticket_from, entry_from}

-- ---- the rows rise
pub record Behind (last : Row) (rs : List Row) : Type 0 where
  pub rising : Rising key rs
  pub low : (y : Row) → In y rs → key last < key y

behind : (last : Row) (before rs : List Row) → all_follow (last ∷ before) rs ≡ true → Behind last rs
unfolding all_follow may_follow above
behind last before [] e = record { rising = empty; low = λ y m. absurd (in_none m) }
behind last before (r ∷ rs) e =
    let f : (ltb (key last) (key r) && has_room (last ∷ before) r) ≡ true = and_l _ (all_follow (r ∷ last ∷ before) rs) e in
    let k : key last < key r = ltb-true (key last) (key r) (and_l (ltb (key last) (key r)) (has_room (last ∷ before) r) f) in
    let b : Behind r rs = behind r (last ∷ before) rs (and_r (ltb (key last) (key r) && has_room (last ∷ before) r) (all_follow (r ∷ last ∷ before) rs) e) in
    record { rising = rises b.low b.rising; low = go k b }
  where
    go : key last < key r → Behind r rs → (y : Row) → In y (r ∷ rs) → key last < key y
    go k b y (first q) = let h : key y ≡ key r = ap key q in omega (arith, h)
    go k b y (later m) = omega (arith, b.low y m)

pub rows_rise : (rs : List Row) → all_follow [] rs ≡ true → Rising key rs
unfolding all_follow
rows_rise [] e = empty
rows_rise (r ∷ rs) e =
    let b : Behind r rs = behind r [] rs (and_r (may_follow [] r) (all_follow (r ∷ []) rs) e) in
    rises b.low b.rising

-- ---- the row of a row's ticket, kind by kind
module _ (r : Row) where
  -- the row but for its kind, own and other
  abbrev but : ℕ → ℕ → Name → Row
  but k own other = record {
    kind = k;
    pad = r.pad;
    program = r.program;
    number = r.number;
    own = own;
    other = other;
    first = r.first;
    count = r.count;
    rights = r.rights;
  }

  abbrev kinded : ℕ → Row
  kinded k = but k r.own r.other

  abbrev zeros : ℕ → Row
  zeros k = record { kind = k; pad = r.pad; program = r.program; number = r.number; own = 0; other = no_name; first = 0; count = 0; rights = 0 }

  -- no other name, no sheets
  no_other : eqb r.other.pad 0 ≡ true → eqb r.other.program 0 ≡ true → eqb r.other.number 0 ≡ true → no_name ≡ r.other
  no_other a b c = λ i. name_of (sym (eqb-true r.other.pad 0 a) i) (sym (eqb-true r.other.program 0 b) i) (sym (eqb-true r.other.number 0 c) i)

  -- a kind 0 line has no other columns
  last_back : row_ok (kinded 0) ≡ true → zeros 0 ≡ kinded 0
  unfolding row_ok own_ok other_ok sheets_ok zero_unless between
  last_back e =
      let a : eqb r.own 0 ≡ true = search (and_l, and_r) depth 9 in
      let b : eqb r.other.pad 0 ≡ true = search (and_l, and_r) depth 9 in
      let c : eqb r.other.program 0 ≡ true = search (and_l, and_r) depth 9 in
      let d : eqb r.other.number 0 ≡ true = search (and_l, and_r) depth 9 in
      let f : eqb r.first 0 ≡ true = search (and_l, and_r) depth 9 in
      let g : eqb r.count 0 ≡ true = search (and_l, and_r) depth 9 in
      let h : eqb r.rights 0 ≡ true = search (and_l, and_r) depth 9 in
      λ i. record {
        kind = 0;
        pad = r.pad;
        program = r.program;
        number = r.number;
        own = sym (eqb-true r.own 0 a) i;
        other = no_other b c d i;
        first = sym (eqb-true r.first 0 f) i;
        count = sym (eqb-true r.count 0 g) i;
        rights = sym (eqb-true r.rights 0 h) i;
      }

  module _ (docks : Name → Name) where
    taken_back : row_ok (kinded 1) ≡ true → ticket_row r.pad r.program (ticket_from docks (kinded 1)) ≡ kinded 1
    unfolding row_ok own_ok other_ok sheets_ok zero_unless between ticket_row ticket_from said_by kind_of
    taken_back e =
        let a : eqb r.own 0 ≡ true = search (and_l, and_r) depth 9 in
        let b : eqb r.other.pad 0 ≡ true = search (and_l, and_r) depth 9 in
        let c : eqb r.other.program 0 ≡ true = search (and_l, and_r) depth 9 in
        let d : eqb r.other.number 0 ≡ true = search (and_l, and_r) depth 9 in
        λ i. but 1 (sym (eqb-true r.own 0 a) i) (no_other b c d i)

    received_back : row_ok (kinded 2) ≡ true → ticket_row r.pad r.program (ticket_from docks (kinded 2)) ≡ kinded 2
    unfolding row_ok own_ok other_ok sheets_ok zero_unless between ticket_row ticket_from said_by kind_of
    received_back e =
        let a : eqb r.own 0 ≡ true = search (and_l, and_r) depth 9 in
        let b : eqb r.other.pad 0 ≡ true = search (and_l, and_r) depth 9 in
        let c : eqb r.other.program 0 ≡ true = search (and_l, and_r) depth 9 in
        let d : eqb r.other.number 0 ≡ true = search (and_l, and_r) depth 9 in
        λ i. but 2 (sym (eqb-true r.own 0 a) i) (no_other b c d i)

    child_back : row_ok (kinded 3) ≡ true → ticket_row r.pad r.program (ticket_from docks (kinded 3)) ≡ kinded 3
    unfolding row_ok own_ok other_ok sheets_ok zero_unless between ticket_row ticket_from said_by kind_of
    child_back e =
        let a : eqb r.own 0 ≡ true = search (and_l, and_r) depth 9 in
        λ i. but 3 (sym (eqb-true r.own 0 a) i) r.other

    recall_back : row_ok (kinded 4) ≡ true → ticket_row r.pad r.program (ticket_from docks (kinded 4)) ≡ kinded 4
    unfolding row_ok own_ok other_ok sheets_ok zero_unless between ticket_row ticket_from said_by kind_of
    recall_back e =
        let a : eqb r.first 0 ≡ true = search (and_l, and_r) depth 9 in
        let b : eqb r.count 0 ≡ true = search (and_l, and_r) depth 9 in
        let c : eqb r.rights 0 ≡ true = search (and_l, and_r) depth 9 in
        λ i. record {
          kind = 4;
          pad = r.pad;
          program = r.program;
          number = r.number;
          own = r.own;
          other = r.other;
          first = sym (eqb-true r.first 0 a) i;
          count = sym (eqb-true r.count 0 b) i;
          rights = sym (eqb-true r.rights 0 c) i;
        }

  -- of an entry: only zeros are the store
  entry_back : row_ok (kinded 5) ≡ true → (is_none r.other ≡ true → r.other ≡ no_name) → entry_row (entry_from (kinded 5)) ≡ kinded 5
  unfolding row_ok own_ok other_ok sheets_ok zero_unless between entry_row entry_from said_entry
  entry_back e h =
      let a : eqb r.own 0 ≡ true = search (and_l, and_r) depth 9 in
      let b = parent (case (is_none r.other)) in
      λ i. but 5 (sym (eqb-true r.own 0 a) i) (b i)
    where
      parent : Case (is_none r.other) → cond (is_none r.other) no_name r.other ≡ r.other
      parent (pass z) = rw z (sym (h z))
      parent (fail z) = rw z

-- ---- the same, of any row
pub four : (k : ℕ) → 1 ≤ k → k ≤ 4 → (k ≡ 1) ⊎ ((k ≡ 2) ⊎ ((k ≡ 3) ⊎ (k ≡ 4)))
four k a b = go (case (eqb k 1)) (case (eqb k 2)) (case (eqb k 3))
  where
    go : Case (eqb k 1) → Case (eqb k 2) → Case (eqb k 3) → (k ≡ 1) ⊎ ((k ≡ 2) ⊎ ((k ≡ 3) ⊎ (k ≡ 4)))
    go (pass e) _ _ = inl (eqb-true k 1 e)
    go (fail e) (pass f) _ = inr (inl (eqb-true k 2 f))
    go (fail e) (fail f) (pass g) = inr (inr (inl (eqb-true k 3 g)))
    go (fail e) (fail f) (fail g) = inr (inr (inr (omega (arith, a, b, eqb-false k 1 e, eqb-false k 2 f, eqb-false k 3 g))))

kind_bounds : (r : Row) → is_ticket_row r ≡ true → (1 ≤ r.kind) × (r.kind ≤ 4)
unfolding is_ticket_row
kind_bounds r e = (between_low 1 4 r.kind e, between_high 1 4 r.kind e)

pub ticket_back : (docks : Name → Name) (r : Row) → row_ok r ≡ true → is_ticket_row r ≡ true → ticket_row r.pad r.program (ticket_from docks r) ≡ r
ticket_back docks r ok t = let b = kind_bounds r t in go (four r.kind b.0 b.1)
  where
    Back : ℕ → Type 0
    Back k = row_ok (kinded r k) ≡ true → ticket_row r.pad r.program (ticket_from docks (kinded r k)) ≡ kinded r k

    at : (k : ℕ) → Back k → r.kind ≡ k → ticket_row r.pad r.program (ticket_from docks r) ≡ r
    at k h e = subst (λ (k : ℕ). Back k) (sym e) h ok

    go : (r.kind ≡ 1) ⊎ ((r.kind ≡ 2) ⊎ ((r.kind ≡ 3) ⊎ (r.kind ≡ 4))) → ticket_row r.pad r.program (ticket_from docks r) ≡ r
    go (inl e) = at 1 (taken_back r docks) e
    go (inr (inl e)) = at 2 (received_back r docks) e
    go (inr (inr (inl e))) = at 3 (child_back r docks) e
    go (inr (inr (inr e))) = at 4 (recall_back r docks) e

pub entry_row_back : (r : Row) → row_ok r ≡ true → is_entry_row r ≡ true → (is_none r.other ≡ true → r.other ≡ no_name) → entry_row (entry_from r) ≡ r
unfolding is_entry_row
entry_row_back r ok t h =
    subst (λ (k : ℕ). row_ok (kinded r k) ≡ true → entry_row (entry_from (kinded r k)) ≡ kinded r k) (sym (eqb-true r.kind 5 t)) (λ o. entry_back r o h) ok

pub last_row_back : (r : Row) → row_ok r ≡ true → is_last_row r ≡ true → zeros r 0 ≡ r
unfolding is_last_row
last_row_back r ok l = subst (λ (k : ℕ). row_ok (kinded r k) ≡ true → zeros r 0 ≡ kinded r k) (sym (eqb-true r.kind 0 l)) (last_back r) ok
