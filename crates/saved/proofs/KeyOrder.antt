-- "Lines stand by kind, pad, program, number": of rows in form the order of keys is this order.
use Prim.Native.Nat.{ℕ, ◌+◌, ◌*◌, ◌≤◌}
use native.Mathlib.Omega.{arith}
use mathlib.Core.Path.{◌≡◌, sym, ◌∙◌}
use mathlib.Core.Bool.{cond}
use lib.Dec.{ltb, eqb}
use borrow.Author.Tests.{ltb-true, ltb-false, lt-ltb, le-ltb, eqb-true, eqb-false}
use Rattle.lists.proofs.Tests.{Case, pass, fail, case}
use Rattle.saved.specs.Row.{key}
use Rattle.saved.specs.Claims.{stands_before, KeyOrder}
use Rattle.saved.proofs.RowLaws.{Ranges, ranges}

-- two numbers of a higher part and a digit below w, at the three bases of a key
module _ (a b m n : ℕ) where
  low_digit : (w : ℕ) → a ≡ b → ltb m n ≡ ltb (a * w + m) (b * w + n)
  low_digit w e = go (case (ltb m n))
    where
      go : Case (ltb m n) → ltb m n ≡ ltb (a * w + m) (b * w + n)
      go (pass l) = l ∙ sym (lt-ltb (a * w + m) (b * w + n) (rw e (omega (arith, ltb-true m n l))))
      go (fail l) = l ∙ sym (le-ltb (a * w + m) (b * w + n) (rw e (omega (arith, ltb-false m n l))))

  high_65536 : m ≤ 65535 → n ≤ 65535 → (a ≡ b → ⊥) → ltb a b ≡ ltb (a * 65536 + m) (b * 65536 + n)
  high_65536 h k ne = go (case (ltb a b))
    where
      go : Case (ltb a b) → ltb a b ≡ ltb (a * 65536 + m) (b * 65536 + n)
      go (pass l) = l ∙ sym (lt-ltb (a * 65536 + m) (b * 65536 + n) (omega (arith, ltb-true a b l, h)))
      go (fail l) = l ∙ sym (le-ltb (a * 65536 + m) (b * 65536 + n) (omega (arith, ltb-false a b l, ne, k)))

  high_8 : m ≤ 7 → n ≤ 7 → (a ≡ b → ⊥) → ltb a b ≡ ltb (a * 8 + m) (b * 8 + n)
  high_8 h k ne = go (case (ltb a b))
    where
      go : Case (ltb a b) → ltb a b ≡ ltb (a * 8 + m) (b * 8 + n)
      go (pass l) = l ∙ sym (lt-ltb (a * 8 + m) (b * 8 + n) (omega (arith, ltb-true a b l, h)))
      go (fail l) = l ∙ sym (le-ltb (a * 8 + m) (b * 8 + n) (omega (arith, ltb-false a b l, ne, k)))

  high_4 : m ≤ 3 → n ≤ 3 → (a ≡ b → ⊥) → ltb a b ≡ ltb (a * 4 + m) (b * 4 + n)
  high_4 h k ne = go (case (ltb a b))
    where
      go : Case (ltb a b) → ltb a b ≡ ltb (a * 4 + m) (b * 4 + n)
      go (pass l) = l ∙ sym (lt-ltb (a * 4 + m) (b * 4 + n) (omega (arith, ltb-true a b l, h)))
      go (fail l) = l ∙ sym (le-ltb (a * 4 + m) (b * 4 + n) (omega (arith, ltb-false a b l, ne, k)))

pub key_order : KeyOrder
unfolding key stands_before
key_order x y f g h k =
    sym (go (case (eqb x.kind y.kind)) (case (eqb x.pad y.pad)) (case (eqb x.program y.program)))
  where
    r : Ranges x
    r = ranges x f

    s : Ranges y
    s = ranges y g

    go : Case (eqb x.kind y.kind) → Case (eqb x.pad y.pad) → Case (eqb x.program y.program)
        → cond (eqb x.kind y.kind)
        (cond (eqb x.pad y.pad) (cond (eqb x.program y.program) (ltb x.number y.number) (ltb x.program y.program)) (ltb x.pad y.pad))
        (ltb x.kind y.kind)
        ≡ ltb (((x.kind * 4 + x.pad) * 8 + x.program) * 65536 + x.number) (((y.kind * 4 + y.pad) * 8 + y.program) * 65536 + y.number)
    go (fail a) _ _ =
        let ne = eqb-false x.kind y.kind a in
        let b = high_4 x.kind y.kind x.pad y.pad r.pad s.pad ne in
        let c = high_8 (x.kind * 4 + x.pad) (y.kind * 4 + y.pad) x.program y.program r.program s.program
        (λ e. ne (omega (arith, e, r.pad, s.pad))) in
        let d = high_65536 ((x.kind * 4 + x.pad) * 8 + x.program) ((y.kind * 4 + y.pad) * 8 + y.program) x.number y.number h k
        (λ e. ne (omega (arith, e, r.pad, s.pad, r.program, s.program))) in
        rw a (b ∙ c ∙ d)
    go (pass a) (fail p) _ =
        let e = eqb-true x.kind y.kind a in
        let ne = eqb-false x.pad y.pad p in
        let b = low_digit x.kind y.kind x.pad y.pad 4 e in
        let c = high_8 (x.kind * 4 + x.pad) (y.kind * 4 + y.pad) x.program y.program r.program s.program (λ q. ne (omega (arith, q, e))) in
        let d = high_65536 ((x.kind * 4 + x.pad) * 8 + x.program) ((y.kind * 4 + y.pad) * 8 + y.program) x.number y.number h k
        (λ q. ne (omega (arith, q, e, r.program, s.program))) in
        rw (a, p) (b ∙ c ∙ d)
    go (pass a) (pass p) (fail o) =
        let e = eqb-true x.kind y.kind a in
        let i = eqb-true x.pad y.pad p in
        let ne = eqb-false x.program y.program o in
        let c = low_digit (x.kind * 4 + x.pad) (y.kind * 4 + y.pad) x.program y.program 8 (omega (arith, e, i)) in
        let d = high_65536 ((x.kind * 4 + x.pad) * 8 + x.program) ((y.kind * 4 + y.pad) * 8 + y.program) x.number y.number h k
        (λ q. ne (omega (arith, q, e, i))) in
        rw (a, p, o) (c ∙ d)
    go (pass a) (pass p) (pass o) =
        let e = eqb-true x.kind y.kind a in
        let i = eqb-true x.pad y.pad p in
        let j = eqb-true x.program y.program o in
        rw (a, p, o) (low_digit ((x.kind * 4 + x.pad) * 8 + x.program) ((y.kind * 4 + y.pad) * 8 + y.program) x.number y.number 65536
        (omega (arith, e, i, j)))
