-- A program's names by number: who is among them, that nobody is twice; and the loop over them: the names up to a number, none between, one
-- more, all.
use Prim.Native.Nat.{ℕ, zero, suc, ◌+◌, ◌-◌, ◌≤◌, ◌<◌}
use native.Mathlib.Omega.{arith}
use mathlib.Core.Path.{◌≡◌, refl, sym, ap, subst, ◌∙◌}
use mathlib.Core.Bool.{Bool, true, false}
use mathlib.Core.List.{List, [], ◌∷◌, ◌++◌, append-nil, append_assoc}
use Rattle.lists.specs.Lists.{keep}
use Rattle.lists.specs.Parts.{tabulate}
use Rattle.lists.proofs.PartLaws.{tabulate_last, Begins}
use Rattle.lists.specs.Members.{In, Once}
use Rattle.lists.proofs.MemberLaws.{in_keep, kept, once_keep, in_tabulate, tabulated, once_tabulate, keep_append}
use Rattle.tables.specs.declared.{Name.Name, Ticket.Ticket, Tables.Tables}
use Rattle.tables.specs.Names.{name_of}
use Rattle.tables.proofs.NameLaws.{name_eq}
use Rattle.tables.specs.Lookup.{last_of, lookup, names_of}

-- ---- who is among them
module _ (test : Ticket → Bool) (t : Tables) where
  abbrev numbered : ℕ → ℕ → ℕ → Name
  numbered pad program i = name_of pad program (suc i)

  pub record Named (pad program : ℕ) (n : Name) : Type 0 where
    pub on : n.pad ≡ pad
    pub of : n.program ≡ program
    pub passes : test (lookup t n) ≡ true

  pub named : (pad program : ℕ) (n : Name) → In n (names_of test t pad program) → Named pad program n
  unfolding names_of
  named pad program n i =
      let k = kept (λ m. test (lookup t m)) n (tabulate (last_of t pad program) (numbered pad program)) i in
      let p = tabulated (last_of t pad program) (numbered pad program) n k.member in
      record { on = ap (λ (m : Name). m.pad) p.is; of = ap (λ (m : Name). m.program) p.is; passes = k.passes }

  pub in_names : (n : Name) → test (lookup t n) ≡ true → 1 ≤ n.number → n.number ≤ last_of t n.pad n.program
      → In n (names_of test t n.pad n.program)
  unfolding names_of
  in_names n e low high =
      let z : suc (n.number - 1) ≡ n.number = omega arith in
      let same : numbered n.pad n.program (n.number - 1) ≡ n = name_eq refl refl z in
      in_keep (λ m. test (lookup t m)) n (tabulate (last_of t n.pad n.program) (numbered n.pad n.program))
      (subst (λ (m : Name). In m (tabulate (last_of t n.pad n.program) (numbered n.pad n.program))) same
      (in_tabulate (last_of t n.pad n.program) (numbered n.pad n.program) (n.number - 1) (omega arith))) e

  pub once_names : (pad program : ℕ) → Once (names_of test t pad program)
  unfolding names_of
  once_names pad program =
      once_keep (λ m. test (lookup t m)) (tabulate (last_of t pad program) (numbered pad program))
      (once_tabulate (last_of t pad program) (numbered pad program) (λ i j e. (let z : suc i ≡ suc j = ap (λ (m : Name). m.number) e in omega (arith, z))))

-- ---- the loop over them, by the number that it has come to
module _ (test : Ticket → Bool) (t : Tables) (pad program : ℕ) where
  -- those with a number up to k
  abbrev pub names_to : ℕ → List Name
  names_to k = keep (λ n. test (lookup t n)) (tabulate k (λ i. name_of pad program (suc i)))

  abbrev passes : ℕ → Bool
  passes number = test (lookup t (name_of pad program number))

  one_more : (k : ℕ) → names_to (suc k) ≡ names_to k ++ keep (λ n. test (lookup t n)) (name_of pad program (suc k) ∷ [])
  one_more k =
      ap (keep (λ n. test (lookup t n))) (tabulate_last k (λ i. name_of pad program (suc i)))
      ∙ keep_append (λ n. test (lookup t n)) (tabulate k (λ i. name_of pad program (suc i))) (name_of pad program (suc k) ∷ [])

  pass_over : (k : ℕ) → passes (suc k) ≡ false → names_to (suc k) ≡ names_to k
  unfolding keep
  pass_over k e = (rw e at (one_more k)) ∙ append-nil (names_to k)

  -- none between
  skip : (gap k : ℕ) → ((number : ℕ) → k < number → number ≤ k + gap → passes number ≡ false) → names_to (k + gap) ≡ names_to k
  skip zero k none = let z : k + 0 ≡ k = omega arith in ap names_to z
  skip (suc gap) k none =
      let z : k + suc gap ≡ suc (k + gap) = omega arith in
      ap names_to z ∙ pass_over (k + gap) (none (suc (k + gap)) (omega arith) (omega arith)) ∙ skip gap k (λ number a b. none number a (omega arith))

  -- the next one, and nobody between
  pub names_next : (k m : ℕ) → k < m → passes m ≡ true → ((number : ℕ) → k < number → number < m → passes number ≡ false)
      → names_to m ≡ names_to k ++ name_of pad program m ∷ []
  unfolding keep
  names_next k m b e none =
      let z : suc (m - 1) ≡ m = omega arith in
      let y : k + (m - 1 - k) ≡ m - 1 = omega arith in
      let same : names_to (m - 1) ≡ names_to k = subst (λ (x : ℕ). names_to x ≡ names_to k) y (skip (m - 1 - k) k (λ number a c. none number a (omega arith))) in
      let e' : passes (suc (m - 1)) ≡ true = ap passes z ∙ e in
      subst (λ (x : ℕ). names_to x ≡ names_to k ++ name_of pad program x ∷ []) z ((rw e' at (one_more (m - 1)))
      ∙ ap (λ (l : List Name). l ++ name_of pad program (suc (m - 1)) ∷ []) same)

  -- the next live one does not pass, and nobody between does
  pub names_past : (k m : ℕ) → k ≤ m → ((number : ℕ) → k < number → number ≤ m → passes number ≡ false) → names_to m ≡ names_to k
  names_past k m b none =
      let y : k + (m - k) ≡ m = omega arith in
      subst (λ (x : ℕ). names_to x ≡ names_to k) y (skip (m - k) k (λ number a c. none number a (omega arith)))

  -- nobody above: that is all
  pub names_all : (k : ℕ) → k ≤ last_of t pad program → ((number : ℕ) → k < number → passes number ≡ false) → names_of test t pad program ≡ names_to k
  unfolding names_of
  names_all k b none = names_past k (last_of t pad program) b (λ number a c. none number a)

  -- those up to a number stand in front
  to_front : (gap k : ℕ) → Begins (names_to k) (names_to (k + gap))
  to_front zero k = let z : k + 0 ≡ k = omega arith in record { rest = []; same = ap names_to z ∙ sym (append-nil (names_to k)) }
  to_front (suc gap) k =
      let z : k + suc gap ≡ suc (k + gap) = omega arith in
      let b = to_front gap k in
      let last = keep (λ n. test (lookup t n)) (name_of pad program (suc (k + gap)) ∷ []) in
      record {
        rest = b.rest ++ last;
        same = ap names_to z ∙ one_more (k + gap) ∙ ap (λ (l : List Name). l ++ last) b.same ∙ append_assoc (names_to k) b.rest last;
      }

  pub names_front : (k : ℕ) → k ≤ last_of t pad program → Begins (names_to k) (names_of test t pad program)
  unfolding names_of
  names_front k h =
      let y : k + (last_of t pad program - k) ≡ last_of t pad program = omega arith in
      subst (λ (x : ℕ). Begins (names_to k) (names_to x)) y (to_front (last_of t pad program - k) k)
