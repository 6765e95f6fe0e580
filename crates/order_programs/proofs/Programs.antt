-- T1, T2 and T4 hold exactly where every place passes and no two live tickets of a program have one number.
use Prim.Native.Nat.{ℕ, ◌+◌, ◌*◌, ◌/◌, ◌%◌, ◌<◌}
use native.Mathlib.Omega.{arith}
use mathlib.Core.Path.{◌≡◌, sym, ap, subst, ◌∙◌}
use mathlib.Core.Bool.{true, false, ◌&&◌}
use mathlib.Core.List.{List}
use lib.Dec.{eqb}
use lib.ListN.{length, get_or}
use Rattle.lists.specs.Tests.{implies, between}
use Rattle.lists.specs.Lists.{all, no_two}
use Rattle.lists.proofs.Tests.{contradiction, cannot_pass, cannot_fail, and_l, and_r, and_intro, implies_intro, implies_elim, between_low}
use Rattle.lists.proofs.Everywhere.{all_intro, all_elim}
use Rattle.lists.proofs.Keyed.{Distinct, distinct_intro, distinct_test_lem}
use Rattle.tables.specs.declared.{Name.Name, Ticket.Ticket, Tables.Tables}
use Rattle.tables.specs.Kinds.{is_live, is_grant, is_head}
use Rattle.tables.specs.Names.{eq_name, free, no_program, no_pad}
use Rattle.tables.specs.Lookup.{Sized, pad_at, program_at, tickets_of, last_of}
use Rattle.tables.specs.Order.{numbers_ok, span_ok, t1, t2, t4}
use Rattle.tables.proofs.Keys.{ticket_keys, ticket_laws}
use Rattle.tables.proofs.KindLaws.{head_grant}
use Rattle.tables.proofs.ByPlace.{ticket_at, numbers_at}
use Rattle.image_places.specs.Places.{placed, name_at, Flattened}
use Rattle.image_places.proofs.Laws.{every_placed, placed_every}
use Rattle.image_places.proofs.Laying.{at_place}
use Rattle.order_programs.specs.Parts.{is_new, grant_ok, before, ticket_ok}
use Rattle.order_programs.proofs.ThreeRules.{rule_1, rule_2, rule_4}
use Rattle.order_programs.proofs.Numbers.{ticket, live, PlaceOk, Apart, SoFar, old_number}

-- of one ticket
grant_says : (n : Name) (k : Ticket) → grant_ok n k ≡ true → is_grant k.kind ≡ true → (span_ok k && implies (is_head k.kind) (eq_name k.dock n)) ≡ true
unfolding grant_ok
grant_says n k e g = implies_elim (is_grant k.kind) _ e g

grant_test : (n : Name) (k : Ticket) → (is_grant k.kind ≡ true → span_ok k ≡ true) → (is_head k.kind ≡ true → eq_name k.dock n ≡ true) → grant_ok n k ≡ true
unfolding grant_ok
grant_test n k s d = implies_intro (is_grant k.kind) _ (λ g. and_intro (s g) (implies_intro (is_head k.kind) _ d))

module _ (t : Tables) (z : Sized t) (tickets : List Ticket) (lasts : List ℕ) (flat : Flattened t tickets lasts) where
  abbrev at : ℕ → ℕ → ℕ → ℕ
  at a b i = 64 * a + 8 * b + i

  -- the ticket in place i of program b of pad a
  here : (a b i : ℕ) → a < 4 → b < 8 → i < 8 → ticket_at t a b i ≡ get_or tickets (at a b i) free
  here a b i p q h = at_place t a b i q h ∙ sym (flat.same (at a b i) (omega arith))

  last_here : (a b i : ℕ) → a < 4 → b < 8 → i < 8 → last_of t a b ≡ get_or lasts (at a b i / 8) 0
  last_here a b i p q h =
      let s : at a b i / 8 ≡ 8 * a + b = omega arith in
      sym (ap (λ (m : ℕ). get_or lasts m 0) s ∙ flat.last a b p q)

  -- ---- from the places to the rules
  module _ (ok : (p : ℕ) → p < 256 → PlaceOk tickets lasts p) (apart : Apart tickets lasts 256) where
    module _ (a b : ℕ) (p : a < 4) (q : b < 8) where
      in_eight : (i : ℕ) → i < length (tickets_of t a b) → i < 8
      in_eight i h = subst (λ (m : ℕ). i < m) (z.tickets a b p q) h

      clash : (i j : ℕ) → i < j → j < 8 → is_live (ticket_at t a b i).kind ≡ true → is_live (ticket_at t a b j).kind ≡ true
          → (ticket_at t a b i).number ≡ (ticket_at t a b j).number → ⊥
      clash i j g h l m e =
          let x = here a b i p q (omega (arith, g, h)) in
          let y = here a b j p q h in
          apart (at a b i) (at a b j) (omega (arith, g)) (omega (arith, p, q, h)) (omega (arith, q, g, h))
          (subst (λ (k : Ticket). is_live k.kind ≡ true) x l) (subst (λ (k : Ticket). is_live k.kind ≡ true) y m)
          (sym (ap (λ (k : Ticket). k.number) x) ∙ e ∙ ap (λ (k : Ticket). k.number) y)

      distinct : Distinct ticket_keys (tickets_of t a b)
      distinct i j b₁ b₂ l m e =
          let low : i < j → ⊥ = λ h. clash i j h (in_eight j b₂) l m e in
          let high : j < i → ⊥ = λ h. clash j i h (in_eight i b₁) m l (sym e) in
          omega (arith, low, high)

      range : (i : ℕ) → i < 8 → is_live (ticket_at t a b i).kind ≡ true → between 1 (last_of t a b) (ticket_at t a b i).number ≡ true
      range i h l =
          let x = here a b i p q h in
          subst (λ (m : ℕ). between 1 m (ticket_at t a b i).number ≡ true) (sym (last_here a b i p q h))
          (subst (λ (k : Ticket). between 1 (get_or lasts (at a b i / 8) 0) k.number ≡ true) (sym x)
          ((ok (at a b i) (omega (arith, p, q, h))).range (subst (λ (k : Ticket). is_live k.kind ≡ true) x l)))

      program_ok : numbers_ok (program_at t a b) ≡ true
      unfolding numbers_ok
      program_ok =
          and_intro (distinct_test_lem ticket_keys ticket_laws (tickets_of t a b) distinct)
          (all_intro free (λ k. implies (is_live k.kind) (between 1 (last_of t a b) k.number)) (tickets_of t a b)
          (λ i h. implies_intro (is_live (ticket_at t a b i).kind) _ (range i (in_eight i h))))

    numbers : t1 t ≡ true
    unfolding t1
    numbers =
        all_intro no_pad (λ p. all numbers_ok p.programs) t.pads
        (λ a p. let p' : a < 4 = rw z.pads at p in
        all_intro no_program numbers_ok (pad_at t a).programs (λ b q. program_ok a b p' (rw (z.programs a p') at q)))

    granted : (p : ℕ) → p < 256 → grant_ok (name_at p (placed t p)) (placed t p) ≡ true
    granted p h = subst (λ (k : Ticket). grant_ok (name_at p k) k ≡ true) (flat.same p h) (ok p h).grant

    spans : t2 t ≡ true
    unfolding t2
    spans =
        placed_every t z is_grant (λ n k. span_ok k)
        (λ p h g. and_l (span_ok (placed t p)) _ (grant_says (name_at p (placed t p)) (placed t p) (granted p h) g))

    docks : t4 t ≡ true
    unfolding t4
    docks =
        placed_every t z is_head (λ n k. eq_name k.dock n)
        (λ p h e. implies_elim (is_head (placed t p).kind) _
        (and_r (span_ok (placed t p)) _ (grant_says (name_at p (placed t p)) (placed t p) (granted p h) (head_grant (placed t p).kind e))) e)

    pub rules_pass : (t1 t && t2 t && t4 t) ≡ true
    rules_pass = and_intro (and_intro numbers spans) docks

  -- ---- and back
  module _ (rules : (t1 t && t2 t && t4 t) ≡ true) where
    module _ (p : ℕ) (h : p < 256) where
      pad_low_lem : p / 64 < 4
      pad_low_lem = omega arith

      program_low_lem : p / 8 % 8 < 8
      program_low_lem = omega arith

      program : numbers_ok (program_at t (p / 64) (p / 8 % 8)) ≡ true
      program = numbers_at t z (rule_1 t rules) pad_low_lem program_low_lem

      place_low_lem : p % 8 < length (tickets_of t (p / 64) (p / 8 % 8))
      place_low_lem = subst (λ (m : ℕ). p % 8 < m) (sym (z.tickets (p / 64) (p / 8 % 8) pad_low_lem program_low_lem)) (omega arith)

      last_there : last_of t (p / 64) (p / 8 % 8) ≡ get_or lasts (p / 8) 0
      last_there =
          let s : 8 * (p / 64) + p / 8 % 8 ≡ p / 8 = omega arith in
          sym (flat.last (p / 64) (p / 8 % 8) pad_low_lem program_low_lem) ∙ ap (λ (m : ℕ). get_or lasts m 0) s

      range_there : is_live (placed t p).kind ≡ true → between 1 (get_or lasts (p / 8) 0) (placed t p).number ≡ true
      unfolding numbers_ok
      range_there l =
          subst (λ (m : ℕ). between 1 m (placed t p).number ≡ true) last_there
          (implies_elim (is_live (placed t p).kind) _
          (all_elim free (λ k. implies (is_live k.kind) (between 1 (last_of t (p / 64) (p / 8 % 8)) k.number)) (tickets_of t (p / 64) (p / 8 % 8))
          (and_r (no_two (λ k. is_live k.kind) (λ k other. eqb k.number other.number) (tickets_of t (p / 64) (p / 8 % 8))) _ program) (p % 8) place_low_lem) l)

      grant_there : grant_ok (name_at p (placed t p)) (placed t p) ≡ true
      unfolding t2 t4
      grant_there =
          grant_test (name_at p (placed t p)) (placed t p) (every_placed t z is_grant (λ n k. span_ok k) (rule_2 t rules) p h)
          (every_placed t z is_head (λ n k. eq_name k.dock n) (rule_4 t rules) p h)

      pub place_says : PlaceOk tickets lasts p
      place_says = record {
        range = subst (λ (k : Ticket). is_live k.kind ≡ true → between 1 (get_or lasts (p / 8) 0) k.number ≡ true) (sym (flat.same p h)) range_there;
        grant = subst (λ (k : Ticket). grant_ok (name_at p k) k ≡ true) (sym (flat.same p h)) grant_there;
      }

    distinct_there : (a b : ℕ) → a < 4 → b < 8 → Distinct ticket_keys (tickets_of t a b)
    unfolding numbers_ok
    distinct_there a b p q = distinct_intro ticket_keys ticket_laws (tickets_of t a b) (and_l _ _ (numbers_at t z (rule_1 t rules) p q))

    pub apart_says : Apart tickets lasts 256
    apart_says p q g h r l m e =
        let c : p < 256 = omega (arith, g, h) in
        let x : placed t p ≡ get_or tickets p free = sym (flat.same p c) in
        let y : placed t q ≡ get_or tickets q free = sym (flat.same q h) in
        let a : p / 64 ≡ q / 64 = omega (arith, r) in
        let b : p / 8 % 8 ≡ q / 8 % 8 = omega (arith, r) in
        let same : placed t q ≡ get_or (tickets_of t (p / 64) (p / 8 % 8)) (q % 8) free
        = sym ((λ i. get_or (tickets_of t (a i) (p / 8 % 8)) (q % 8) free) ∙ (λ i. get_or (tickets_of t (q / 64) (b i)) (q % 8) free)) in
        let long = place_low_lem p c in
        let e₁ = z.tickets (p / 64) (p / 8 % 8) (pad_low_lem p c) (program_low_lem p c) in
        let i : p % 8 ≡ q % 8
        = distinct_there (p / 64) (p / 8 % 8) (pad_low_lem p c) (program_low_lem p c) (p % 8) (q % 8) long (subst (λ (n : ℕ). q % 8 < n) (sym e₁) (omega arith))
        (subst (λ (k : Ticket). is_live k.kind ≡ true) (sym x) l) (subst (λ (k : Ticket). is_live k.kind ≡ true) (sym y ∙ same) m)
        (ap (λ (k : Ticket). k.number) x ∙ e ∙ ap (λ (k : Ticket). k.number) (sym y ∙ same)) in
        omega (arith, r, i, g)

  -- ---- a place that fails
  module _ (i : ℕ) (numbers : List ℕ) (so : SoFar tickets lasts i numbers) (low : i < 256) where
    pub ticket_fails : (k : Ticket) → k ≡ ticket tickets lasts i → live tickets lasts i ≡ true → ticket_ok lasts numbers i k ≡ false
        → (t1 t && t2 t && t4 t) ≡ false
    unfolding ticket_ok
    ticket_fails k e l f =
        cannot_pass (t1 t && t2 t && t4 t)
        (λ r. let range = (place_says r i low).range l in
        contradiction
        (and_intro (and_intro range (cannot_fail (is_new (ticket tickets lasts i).number (before i numbers))
        (λ n. old_number tickets lasts i numbers so low l n (between_low 1 _ (ticket tickets lasts i).number range) (apart_says r))))
        (place_says r i low).grant)
        (sym (ap (ticket_ok lasts numbers i) e) ∙ f))
