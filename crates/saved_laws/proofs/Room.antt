-- Lines that may follow each other have at most eight tickets of a program, at most 256 entries and one kind 0 line of each program.
use Prim.Native.Nat.{ℕ, suc, ◌+◌, ◌≤◌, ◌<◌}
use native.Mathlib.Omega.{arith}
use mathlib.Core.Path.{◌≡◌, sym, ◌∙◌, subst}
use mathlib.Core.Bool.{true, false, cond}
use mathlib.Core.List.{List, [], ◌∷◌}
use lib.Dec.{leb}
use borrow.Author.Tests.{leb-true, ltb-true, eqb-true, ne_eqb, not-true}
use Rattle.lists.specs.Tests.{between}
use Rattle.lists.specs.Lists.{count_of}
use Rattle.lists.specs.Members.{In, first, later}
use Rattle.lists.proofs.Tests.{Case, pass, fail, case, contradiction, and_l, and_r}
use Rattle.lists.proofs.MemberLaws.{some_in}
use Rattle.saved.specs.declared.Row.{Row}
use Rattle.saved.specs.Row.{is_last_row, is_ticket_row, is_entry_row}
use Rattle.saved.specs.Load.{above, last_of_program, ticket_of_program, has_room, may_follow, all_follow}
use Rattle.saved.proofs.RowLaws.{ticket_is}

not_last : (p q : ℕ) (r : Row) → ticket_of_program p q r ≡ true → is_last_row r ≡ false
unfolding ticket_of_program is_ticket_row between is_last_row
not_last p q r e =
    let a : leb 1 r.kind ≡ true = search (and_l, and_r) depth 5 in
    ne_eqb r.kind 0 (λ z. omega (arith, leb-true 1 r.kind a, z))

not_entry : (p q : ℕ) (r : Row) → ticket_of_program p q r ≡ true → is_entry_row r ≡ false
unfolding ticket_of_program is_ticket_row between is_entry_row
not_entry p q r e =
    let a : leb r.kind 4 ≡ true = search (and_l, and_r) depth 5 in
    ne_eqb r.kind 5 (λ z. omega (arith, leb-true r.kind 4 a, z))

few_room : (p q : ℕ) (before : List Row) (r : Row) → may_follow before r ≡ true → ticket_of_program p q r ≡ true → count_of (ticket_of_program p q) before < 8
unfolding may_follow has_room
few_room p q before r m t =
    let h = rw (not_last p q r t, not_entry p q r t) at (and_r (above before r) (has_room before r) m) in
    let w = ticket_is p q r t in
    subst (λ (a : ℕ). count_of (ticket_of_program a q) before < 8) w.0
    (subst (λ (b : ℕ). count_of (ticket_of_program r.pad b) before < 8) w.1 (ltb-true _ 8 h))

pub few_tickets : (p q : ℕ) (before rs : List Row) → all_follow before rs ≡ true → count_of (ticket_of_program p q) before ≤ 8
    → count_of (ticket_of_program p q) before + count_of (ticket_of_program p q) rs ≤ 8
unfolding all_follow count_of
few_tickets p q before [] e h = omega (arith, h)
few_tickets p q before (r ∷ rs) e h =
    go (few_tickets p q (r ∷ before) rs (and_r (may_follow before r) (all_follow (r ∷ before) rs) e)) (and_l (may_follow before r) (all_follow (r ∷ before) rs) e)
    (case (ticket_of_program p q r))
  where
    room : may_follow before r ≡ true → ticket_of_program p q r ≡ true → count_of (ticket_of_program p q) before < 8
    room m t = few_room p q before r m t

    go : (count_of (ticket_of_program p q) (r ∷ before) ≤ 8 → count_of (ticket_of_program p q) (r ∷ before) + count_of (ticket_of_program p q) rs ≤ 8)
        → may_follow before r ≡ true → Case (ticket_of_program p q r)
        → count_of (ticket_of_program p q) before + cond (ticket_of_program p q r) (suc (count_of (ticket_of_program p q) rs)) (count_of (ticket_of_program p q) rs) ≤ 8
    go ih m (pass t) = let k = room m t in let i = (rw t at ih) (omega (arith, k)) in rw t (omega (arith, i))
    go ih m (fail t) = rw t ((rw t at ih) h)

entry_not_last : (r : Row) → is_entry_row r ≡ true → is_last_row r ≡ false
unfolding is_entry_row is_last_row
entry_not_last r t = ne_eqb r.kind 0 (λ z. omega (arith, eqb-true r.kind 5 t, z))

entry_room : (before : List Row) (r : Row) → may_follow before r ≡ true → is_entry_row r ≡ true → count_of is_entry_row before < 256
unfolding may_follow has_room
entry_room before r m t = ltb-true _ 256 (rw (entry_not_last r t, t) at (and_r (above before r) (has_room before r) m))

none_before : (before : List Row) (y b : Row) → may_follow before y ≡ true → is_last_row y ≡ true → In b before → last_of_program y.pad y.program b ≡ true → ⊥
unfolding may_follow has_room
none_before before y b m l k t =
    let h = rw l at (and_r (above before y) (has_room before y) m) in
    contradiction (some_in (last_of_program y.pad y.program) before b k t) (not-true _ h)

pub few_entries : (before rs : List Row) → all_follow before rs ≡ true → count_of is_entry_row before ≤ 256 → count_of is_entry_row before + count_of is_entry_row rs ≤ 256
unfolding all_follow count_of
few_entries before [] e h = omega (arith, h)
few_entries before (r ∷ rs) e h =
    go (few_entries (r ∷ before) rs (and_r (may_follow before r) (all_follow (r ∷ before) rs) e)) (and_l (may_follow before r) (all_follow (r ∷ before) rs) e)
    (case (is_entry_row r))
  where
    go : (count_of is_entry_row (r ∷ before) ≤ 256 → count_of is_entry_row (r ∷ before) + count_of is_entry_row rs ≤ 256) → may_follow before r ≡ true → Case (is_entry_row r)
        → count_of is_entry_row before + cond (is_entry_row r) (suc (count_of is_entry_row rs)) (count_of is_entry_row rs) ≤ 256
    go ih m (pass t) = let k = entry_room before r m t in let i = (rw t at ih) (omega (arith, k)) in rw t (omega (arith, i))
    go ih m (fail t) = rw t ((rw t at ih) h)

-- a kind 0 line finds none of its program before it
no_second : (before rs : List Row) → all_follow before rs ≡ true → (y b : Row) → In y rs → is_last_row y ≡ true → In b before
    → last_of_program y.pad y.program b ≡ true → ⊥
unfolding all_follow
no_second before (r ∷ rs) e y b (first q) l k t =
    none_before before y b (subst (λ (z : Row). may_follow before z ≡ true) (sym q) (and_l (may_follow before r) (all_follow (r ∷ before) rs) e)) l k t
no_second before (r ∷ rs) e y b (later m) l k t =
    no_second (r ∷ before) rs (and_r (may_follow before r) (all_follow (r ∷ before) rs) e) y b m l (later k) t
no_second before [] e y b x5 l k t = elim x5 [ ]

pub one_last : (before rs : List Row) → all_follow before rs ≡ true → (x y : Row) → In x rs → In y rs → is_last_row x ≡ true → is_last_row y ≡ true
    → last_of_program y.pad y.program x ≡ true → last_of_program x.pad x.program y ≡ true → x ≡ y
unfolding all_follow
one_last before (r ∷ rs) e x y (first a) (first b) l n s t = a ∙ sym b
one_last before (r ∷ rs) e x y (first a) (later b) l n s t =
    absurd (no_second (r ∷ before) rs (and_r (may_follow before r) (all_follow (r ∷ before) rs) e) y x b n (first a) s)
one_last before (r ∷ rs) e x y (later a) (first b) l n s t =
    absurd (no_second (r ∷ before) rs (and_r (may_follow before r) (all_follow (r ∷ before) rs) e) x y a l (first b) t)
one_last before (r ∷ rs) e x y (later a) (later b) l n s t =
    one_last (r ∷ before) rs (and_r (may_follow before r) (all_follow (r ∷ before) rs) e) x y a b l n s t
one_last before [] e x y x9 _ l n s t = elim x9 [ ]
