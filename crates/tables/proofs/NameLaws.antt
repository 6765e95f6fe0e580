-- Laws of names and programs: `eq_name` and `same_program` decide equality, `is_program` the two bounds.
use Prim.Native.Nat.{ℕ, ◌≤◌}
use mathlib.Core.Path.{◌≡◌, refl, sym, ap, ◌∙◌}
use mathlib.Core.Bool.{true, false, ◌&&◌}
use lib.Dec.{leb, eqb}
use borrow.Author.Tests.{leb-true, le-leb, eqb-true, eq-eqb}
use Rattle.lists.proofs.Tests.{cannot_pass, no_true, and_l, and_r, and_intro}
use Rattle.tables.specs.declared.Name.{Name}
use Rattle.tables.specs.Names.{eq_name, is_program, same_program}

pub name_eq : {a b : Name} → a.pad ≡ b.pad → a.program ≡ b.program → a.number ≡ b.number → a ≡ b
name_eq p q r = λ i. record { pad = p i; program = q i; number = r i }

pub eq_name_true : (a b : Name) → eq_name a b ≡ true → a ≡ b
unfolding eq_name
eq_name_true a b e =
    let p : (eqb a.pad b.pad && eqb a.program b.program) ≡ true = and_l _ (eqb a.number b.number) e in
    name_eq
    (eqb-true a.pad b.pad (and_l _ (eqb a.program b.program) p))
    (eqb-true a.program b.program (and_r (eqb a.pad b.pad) _ p))
    (eqb-true a.number b.number (and_r (eqb a.pad b.pad && eqb a.program b.program) _ e))

pub eq_name_refl : (a : Name) → eq_name a a ≡ true
unfolding eq_name
eq_name_refl a =
    rw (eq-eqb a.pad a.pad refl, eq-eqb a.program a.program refl) (eq-eqb a.number a.number refl)

pub eq_name_false : (a b : Name) → (a ≡ b → ⊥) → eq_name a b ≡ false
eq_name_false a b ne = cannot_pass (eq_name a b) (λ e. ne (eq_name_true a b e))

pub eq_name_ne : (a b : Name) → eq_name a b ≡ false → a ≡ b → ⊥
eq_name_ne a b e q = no_true (sym e ∙ ap (λ (x : Name). eq_name x b) q ∙ eq_name_refl b)

pub eq_name_test : (a b : Name) → a ≡ b → eq_name a b ≡ true
eq_name_test a b e = ap (λ (x : Name). eq_name x b) e ∙ eq_name_refl b

-- ---- programs
pub record Possible (p q : ℕ) : Type 0 where
  pub pad : p ≤ 3
  pub program : q ≤ 7

pub is_program_lem : (p q : ℕ) → is_program p q ≡ true → Possible p q
unfolding is_program
is_program_lem p q e = record { pad = leb-true p 3 (and_l (leb p 3) (leb q 7) e); program = leb-true q 7 (and_r (leb p 3) (leb q 7) e) }

pub program_possible : (p q : ℕ) → p ≤ 3 → q ≤ 7 → is_program p q ≡ true
unfolding is_program
program_possible p q a b = and_intro (le-leb p 3 a) (le-leb q 7 b)

pub record SameProgram (p q p' q' : ℕ) : Type 0 where
  pub pad : p ≡ p'
  pub program : q ≡ q'

pub program_same : (p q p' q' : ℕ) → same_program p q p' q' ≡ true → SameProgram p q p' q'
unfolding same_program
program_same p q p' q' e = record {
  pad = eqb-true p p' (and_l (eqb p p') (eqb q q') e);
  program = eqb-true q q' (and_r (eqb p p') (eqb q q') e);
}

pub program_ne : (p q p' q' : ℕ) → (p ≡ p' → q ≡ q' → ⊥) → same_program p q p' q' ≡ false
program_ne p q p' q' ne = cannot_pass (same_program p q p' q') (λ e. let s = program_same p q p' q' e in ne s.pad s.program)

pub program_apart : (p q p' q' : ℕ) → same_program p q p' q' ≡ false → p ≡ p' → q ≡ q' → ⊥
unfolding same_program
program_apart p q p' q' e a b = no_true (sym e ∙ and_intro (eq-eqb p p' a) (eq-eqb q q' b))

pub program_sym : (p q p' q' : ℕ) → same_program p q p' q' ≡ false → same_program p' q' p q ≡ false
program_sym p q p' q' e = program_ne p' q' p q (λ a b. program_apart p q p' q' e (sym a) (sym b))
