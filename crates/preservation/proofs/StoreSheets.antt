-- Sheets of the store after some are written: those written hold what was written, the others what they held. Shown byte by byte, by
-- taking the put of a run as a row of single stores.
use Prim.Native.Nat.{ℕ, zero, suc, ◌+◌, ◌*◌, ◌-◌, ◌≤◌, ◌<◌}
use native.Mathlib.Omega.{arith}
use native.Mathlib.Nat.{not-suc-le-zero, le_of_suc-le-suc}
use mathlib.Core.Path.{◌≡◌, refl, sym, ap, ◌∙◌, subst}
use mathlib.Core.Logic.{◌⊎◌, inl, inr}
use mathlib.Core.List.{List, [], ◌∷◌}
use lib.ListN.{length, get_or, set, drop, length-take, length-drop, length-set}
use lib.Seq.{sets, sets-eq, length-sets, get_or-set_same, get_or-set_other, get_or-take, get_or-drop, ext_get_or}
use Rattle.machine.specs.State.{sheet_at, put_sheets}

get_or_sets_other : (vs l : List ℕ) (i j : ℕ) → (j < i) ⊎ (i + length vs ≤ j) → get_or (sets l i vs) j 0 ≡ get_or l j 0
get_or_sets_other [] l i j h = refl
get_or_sets_other (v ∷ vs) l i j (inl h) = get_or_sets_other vs (set l i v) (suc i) j (inl (omega arith)) ∙ get_or-set_other l i j v 0 (omega arith)
get_or_sets_other (v ∷ vs) l i j (inr h) =
    get_or_sets_other vs (set l i v) (suc i) j (inr (omega arith)) ∙ get_or-set_other l i j v 0 (omega arith)

get_or_sets_at : (vs l : List ℕ) (i a : ℕ) → a < length vs → i + length vs ≤ length l → get_or (sets l i vs) (i + a) 0 ≡ get_or vs a 0
get_or_sets_at [] l i a h b = absurd (not-suc-le-zero h)
get_or_sets_at (v ∷ vs) l i zero h b =
    get_or_sets_other vs (set l i v) (suc i) (i + 0) (inl (omega arith))
    ∙ ap (λ (k : ℕ). get_or (set l i v) k 0) (omega arith) ∙ get_or-set_same l i v 0 (omega arith)
get_or_sets_at (v ∷ vs) l i (suc a) h b =
    ap (λ (k : ℕ). get_or (sets (set l i v) (suc i) vs) k 0) (omega arith)
    ∙ get_or_sets_at vs (set l i v) (suc i) a (le_of_suc-le-suc h) (subst (λ (k : ℕ). suc i + length vs ≤ k) (sym (length-set l i v)) (omega arith))

-- one of n sheets
pub sheet_long : (b : List ℕ) (n i : ℕ) → length b ≡ 64 * n → i < n → length (sheet_at i b) ≡ 64
unfolding sheet_at
sheet_long b n i e h =
    let d : length (drop (64 * i) b) ≡ length b - 64 * i = length-drop (64 * i) b in
    length-take 64 (drop (64 * i) b) ∙ omega arith

pub length_sheet : (b : List ℕ) (i : ℕ) → length b ≡ 16384 → i < 256 → length (sheet_at i b) ≡ 64
length_sheet b i e h = sheet_long b 256 i e h

get_or_sheet : (b : List ℕ) (i j : ℕ) → j < 64 → get_or (sheet_at i b) j 0 ≡ get_or b (64 * i + j) 0
unfolding sheet_at
get_or_sheet b i j h = get_or-take 64 (drop (64 * i) b) j 0 h ∙ get_or-drop (64 * i) b j 0

-- the bytes vs put from sheet f on: c sheets of them
module _ (f c : ℕ) (vs b : List ℕ) (size : length b ≡ 16384) (len : length vs ≡ 64 * c) (fits : f + c ≤ 256) where
  as_sets : put_sheets f vs b ≡ sets b (64 * f) vs
  unfolding put_sheets
  as_sets = sym (sets-eq vs b (64 * f) (omega arith))

  pub length_put : length (put_sheets f vs b) ≡ 16384
  length_put = ap length as_sets ∙ length-sets b (64 * f) vs ∙ size

  pub sheet_kept : (i : ℕ) → i < 256 → (i < f) ⊎ (f + c ≤ i) → sheet_at i (put_sheets f vs b) ≡ sheet_at i b
  sheet_kept i h o =
      ext_get_or 0 (sheet_at i (put_sheets f vs b)) (sheet_at i b) (length_sheet (put_sheets f vs b) i length_put h ∙ sym (length_sheet b i size h))
      (λ j k.
      let k' : j < 64 = subst (λ (m : ℕ). j < m) (length_sheet (put_sheets f vs b) i length_put h) k in
      get_or_sheet (put_sheets f vs b) i j k' ∙ ap (λ (l : List ℕ). get_or l (64 * i + j) 0) as_sets
      ∙ get_or_sets_other vs b (64 * f) (64 * i + j) (side k' o) ∙ sym (get_or_sheet b i j k'))
    where
      side : {j : ℕ} → j < 64 → (i < f) ⊎ (f + c ≤ i) → (64 * i + j < 64 * f) ⊎ (64 * f + length vs ≤ 64 * i + j)
      side k (inl x) = inl (omega arith)
      side k (inr x) = inr (omega arith)

  pub sheet_put : (a : ℕ) → a < c → sheet_at (f + a) (put_sheets f vs b) ≡ sheet_at a vs
  sheet_put a h =
      ext_get_or 0 (sheet_at (f + a) (put_sheets f vs b)) (sheet_at a vs) (length_sheet (put_sheets f vs b) (f + a) length_put (omega arith) ∙ sym (sheet_long vs c a len h))
      (λ j k.
      let k' : j < 64 = subst (λ (m : ℕ). j < m) (length_sheet (put_sheets f vs b) (f + a) length_put (omega arith)) k in
      get_or_sheet (put_sheets f vs b) (f + a) j k' ∙ ap (λ (l : List ℕ). get_or l (64 * (f + a) + j) 0) as_sets
      ∙ ap (λ (m : ℕ). get_or (sets b (64 * f) vs) m 0) (omega arith)
      ∙ get_or_sets_at vs b (64 * f) (64 * a + j) (omega arith) (omega arith) ∙ sym (get_or_sheet vs a j k'))
