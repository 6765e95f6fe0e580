-- The tests of sheets decide what they say: runs within and apart, and T2. Each has a law from the test to the statement (of) and one back
-- (test). Then how containment goes on.
use Prim.Native.Nat.{ℕ, ◌+◌, ◌≤◌, ◌<◌}
use native.Mathlib.Omega.{arith}
use mathlib.Core.Path.{◌≡◌}
use mathlib.Core.Logic.{inl, inr, ◌⊎◌}
use mathlib.Core.Bool.{true}
use lib.Dec.{leb}
use borrow.Author.Tests.{leb-true, le-leb}
use Rattle.lists.specs.Tests.{between}
use Rattle.lists.proofs.Tests.{Case, pass, fail, case, and_l, and_r, and_intro, or_right, between_low, between_high, between_test}
use Rattle.rights.specs.declared.Rights.{Rights}
use Rattle.rights.specs.Rules.{within}
use Rattle.rights.proofs.Rules.{within_refl, within_trans}
use Rattle.tables.specs.declared.{Ticket.Ticket, Entry.Entry}
use Rattle.tables.specs.Sheets.{apart, inside, outside}
use Rattle.tables.specs.Order.{span_ok}
use Rattle.preservation.specs.Rules.{Span, Inside, Apart}

-- ---- T2
pub span_of : (k : Ticket) → span_ok k ≡ true → Span k.first k.count k.rights
unfolding span_ok
span_of k e =
    let some : leb 1 k.count ≡ true = search (and_l, and_r) depth 4 in
    let fits : leb (k.first + k.count) 256 ≡ true = search (and_l, and_r) depth 4 in
    let rights : between 1 7 k.rights.bits ≡ true = search (and_l, and_r) depth 4 in
    record {
      some = leb-true 1 k.count some;
      fits = leb-true (k.first + k.count) 256 fits;
      right = between_low 1 7 k.rights.bits rights;
      rights = between_high 1 7 k.rights.bits rights;
    }

pub span_test : (k : Ticket) → Span k.first k.count k.rights → span_ok k ≡ true
unfolding span_ok
span_test k s =
    and_intro (and_intro (le-leb 1 k.count s.some) (le-leb (k.first + k.count) 256 s.fits))
    (between_test 1 7 k.rights.bits s.right s.rights)

-- ---- within
pub inside_of : (f c : ℕ) (r : Rights) (f' c' : ℕ) (r' : Rights) → inside f c r f' c' r' ≡ true → Inside f c r f' c' r'
unfolding inside
inside_of f c r f' c' r' e =
    let from : leb f' f ≡ true = search (and_l, and_r) depth 4 in
    let to : leb (f + c) (f' + c') ≡ true = search (and_l, and_r) depth 4 in
    let rights : within r r' ≡ true = search (and_l, and_r) depth 4 in
    record { from = leb-true f' f from; to = leb-true (f + c) (f' + c') to; rights = rights }

pub inside_test : (f c : ℕ) (r : Rights) (f' c' : ℕ) (r' : Rights) → Inside f c r f' c' r' → inside f c r f' c' r' ≡ true
unfolding inside
inside_test f c r f' c' r' i = and_intro (and_intro (le-leb f' f i.from) (le-leb (f + c) (f' + c') i.to)) i.rights

pub inside_refl : (f c : ℕ) (r : Rights) → Inside f c r f c r
inside_refl f c r = record { from = omega arith; to = omega arith; rights = within_refl r }

pub inside_trans : {f c g d h e : ℕ} {r s u : Rights} → Inside f c r g d s → Inside g d s h e u → Inside f c r h e u
inside_trans {r} {s} {u} p q = record {
  from = omega (arith, p.from, q.from);
  to = omega (arith, p.to, q.to);
  rights = within_trans r s u p.rights q.rights;
}

-- ---- apart
pub apart_of : (f c g d : ℕ) → apart f c g d ≡ true → Apart f c g d
unfolding apart
apart_of f c g d e = go (case (leb (f + c) g))
  where
    go : Case (leb (f + c) g) → Apart f c g d
    go (pass p) = inl (leb-true (f + c) g p)
    go (fail p) = inr (leb-true (g + d) f (rw p at e))

pub apart_test : (f c g d : ℕ) → Apart f c g d → apart f c g d ≡ true
unfolding apart
apart_test f c g d (inl h) = rw (le-leb (f + c) g h)
apart_test f c g d (inr h) = or_right (leb (f + c) g) (le-leb (g + d) f h)

pub apart_sym : (f c g d : ℕ) → Apart f c g d → Apart g d f c
apart_sym f c g d (inl h) = inr h
apart_sym f c g d (inr h) = inl h

-- two runs that share no sheet have no sheet in common, and a sheet of one lies beside the other
pub apart_ne : (f c h d a b : ℕ) → Apart f c h d → a < c → b < d → f + a ≡ h + b → ⊥
apart_ne f c h d a b (inl x) y z e = omega arith
apart_ne f c h d a b (inr x) y z e = omega arith

pub beside : (f c h d a : ℕ) → Apart f c h d → a < d → (h + a < f) ⊎ (f + c ≤ h + a)
beside f c h d a (inl x) y = inr (omega arith)
beside f c h d a (inr x) y = inl (omega arith)

pub outside_of : (f c : ℕ) (e : Entry) → outside f c e ≡ true → e.live ≡ true → Apart f c e.first e.count
unfolding outside
outside_of f c e h l = apart_of f c e.first e.count (rw l at h)
