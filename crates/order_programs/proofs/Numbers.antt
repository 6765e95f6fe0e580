-- The numbers written down place by place: after i places each live ticket has passed, no two of a program have one number, and what is
-- written is each one's number, 0 where there is none. So a number that no place before it in its program has is new.
use Prim.Native.Nat.{ℕ, ◌+◌, ◌-◌, ◌*◌, ◌/◌, ◌≤◌, ◌<◌}
use native.Mathlib.Omega.{arith}
use mathlib.Core.Path.{◌≡◌, sym, ap, ◌∙◌}
use mathlib.Core.Bool.{Bool, true, false}
use mathlib.Core.List.{List, map}
use lib.Dec.{eqb}
use lib.ListN.{length, get_or, set, drop, replicate, length-set, length-map, length-drop, length-replicate, get_or-map}
use lib.Seq.{get_or-set_same, get_or-set_other, get_or-take, get_or-drop, length-take-le, ext_get_or}
use borrow.Author.Count.{below_more}
use borrow.Author.Tests.{eqb-true, eq-eqb, leb-true, leb-false}
use Rattle.lists.specs.Tests.{between}
use Rattle.lists.specs.Lists.{first_index}
use Rattle.lists.proofs.Tests.{Case, pass, fail, case, contradiction, cannot_pass, cannot_fail, implies_intro}
use Rattle.lists.proofs.Search.{first_bound, find_passes}
use Rattle.lists.proofs.Reading.{same_all}
use Rattle.tables.specs.declared.Ticket.{Ticket}
use Rattle.tables.specs.Kinds.{is_live, is_grant}
use Rattle.tables.specs.Names.{free}
use Rattle.tables.proofs.KindLaws.{live_grant}
use Rattle.image_places.specs.Places.{name_at, number_of}
use Rattle.order_programs.specs.Parts.{is_new, grant_ok, before}

-- ---- a number among others
module _ (m : ℕ) (l : List ℕ) where
  new_none : is_new m l ≡ true → (j : ℕ) → j < length l → get_or l j 0 ≡ m → ⊥
  unfolding is_new
  new_none e j h q =
      let b = first_bound (λ x. eqb x m) l 0 j h (eq-eqb (get_or l j 0) m q) in
      omega (arith, b, leb-true (length l) (first_index (λ x. eqb x m) l) e)

  -- as the code finds it
  pub found_old : (j : ℕ) → j < length l → get_or l j 0 ≡ m → false ≡ is_new m l
  found_old j h q = sym (cannot_pass (is_new m l) (λ e. new_none e j h q))

  -- where it stands
  record Stands : Type 0 where
    at : ℕ
    low : at < length l
    here : get_or l at 0 ≡ m

  old_somewhere : is_new m l ≡ false → Stands
  unfolding is_new
  old_somewhere e =
      let b : first_index (λ x. eqb x m) l < length l = omega (arith, leb-false (length l) (first_index (λ x. eqb x m) l) e) in
      record { at = first_index (λ x. eqb x m) l; low = b; here = eqb-true _ m (find_passes (λ x. eqb x m) l 0 b) }

  pub none_old : ((j : ℕ) → j < length l → get_or l j 0 ≡ m → ⊥) → true ≡ is_new m l
  none_old h = sym (cannot_fail (is_new m l) (λ e. let s = old_somewhere e in h s.at s.low s.here))

-- a ticket's number, where it is not 0
number_live : (k : Ticket) → (number_of k ≡ 0 → ⊥) → is_live k.kind ≡ true
unfolding number_of
number_live k ne = go (case (is_live k.kind))
  where
    go : Case (is_live k.kind) → is_live k.kind ≡ true
    go (pass e) = e
    go (fail e) = absurd (ne (rw e))

live_number : (k : Ticket) → is_live k.kind ≡ true → number_of k ≡ k.number
unfolding number_of
live_number k e = rw e

dead_number : (k : Ticket) → is_live k.kind ≡ false → number_of k ≡ 0
unfolding number_of
dead_number k e = rw e

module _ (tickets : List Ticket) (lasts : List ℕ) where
  abbrev pub ticket : ℕ → Ticket
  ticket p = get_or tickets p free

  abbrev pub live : ℕ → Bool
  live p = is_live (ticket p).kind

  -- T1's range, T2 and T4 at the place p
  pub record PlaceOk (p : ℕ) : Type 0 where
    pub range : live p ≡ true → between 1 (get_or lasts (p / 8) 0) (ticket p).number ≡ true
    pub grant : grant_ok (name_at p (ticket p)) (ticket p) ≡ true

  -- live tickets of one program, below i, have two numbers
  abbrev pub Apart : ℕ → Type 0
  Apart i = (p q : ℕ) → p < q → q < i → p / 8 ≡ q / 8 → live p ≡ true → live q ≡ true → (ticket p).number ≡ (ticket q).number → ⊥

  pub record SoFar (i : ℕ) (numbers : List ℕ) : Type 0 where
    pub long : length numbers ≡ 256
    pub ok : (p : ℕ) → p < i → PlaceOk p
    pub apart : Apart i
    pub written : (p : ℕ) → p < i → get_or numbers p 0 ≡ number_of (ticket p)
    pub rest : (p : ℕ) → i ≤ p → get_or numbers p 0 ≡ 0

  pub none_yet : (numbers : List ℕ) → numbers ≡ replicate {A = ℕ} 256 0 → SoFar 0 numbers
  none_yet numbers e = record {
    long = ap length e ∙ length-replicate {A = ℕ} 256 0;
    ok = λ p h. absurd (omega (arith, h));
    apart = λ p q g h. absurd (omega (arith, h));
    written = λ p h. absurd (omega (arith, h));
    rest = λ p h. ap (λ (l : List ℕ). get_or l p 0) e ∙ same_all {A = ℕ} 256 0 p;
  }

  -- the whole, written
  pub all_written : (i : ℕ) (numbers : List ℕ) → length tickets ≡ 256 → 256 ≤ i → SoFar i numbers → numbers ≡ map number_of tickets
  unfolding number_of
  all_written i numbers z h so =
      ext_get_or 0 numbers (map number_of tickets) (so.long ∙ sym (length-map tickets number_of ∙ z))
      (λ p b. so.written p (omega (arith, b, so.long, h)) ∙ sym (at p))
    where
      at : (p : ℕ) → get_or (map number_of tickets) p 0 ≡ number_of (ticket p)
      at p = get_or-map number_of tickets p free

  module _ (i : ℕ) (numbers : List ℕ) (so : SoFar i numbers) (low : i < 256) where
    -- no two are alike up to here, where the ticket here is like none before it
    apart_more : ((p : ℕ) → p < i → p / 8 ≡ i / 8 → live p ≡ true → live i ≡ true → (ticket p).number ≡ (ticket i).number → ⊥) → Apart (i + 1)
    apart_more here p q g h =
        below_more (λ q. p < q → p / 8 ≡ q / 8 → live p ≡ true → live q ≡ true → (ticket p).number ≡ (ticket q).number → ⊥) i
        (λ q b g. so.apart p q g b) (here p) q h g

    -- ---- a place without a ticket
    dead_ok : live i ≡ false → PlaceOk i
    unfolding grant_ok
    dead_ok e = record {
      range = λ l. contradiction l e;
      grant = implies_intro (is_grant (ticket i).kind) _ (λ g. contradiction (live_grant (ticket i).kind g) e);
    }

    pub dead_turn : live i ≡ false → SoFar (i + 1) numbers
    dead_turn e = record {
      long = so.long;
      ok = below_more _ i so.ok (dead_ok e);
      apart = apart_more (λ p g r m l. contradiction l e);
      written = below_more _ i so.written (so.rest i (omega arith) ∙ sym (dead_number (ticket i) e));
      rest = λ p h. so.rest p (omega (arith, h));
    }

    -- ---- the numbers before it in its program
    before_long : length (before i numbers) ≡ i - 8 * (i / 8)
    before_long = length-take-le (i - 8 * (i / 8)) (drop (8 * (i / 8)) numbers) (omega (arith, length-drop (8 * (i / 8)) numbers, so.long, low))

    before_at : (j : ℕ) → j < i - 8 * (i / 8) → get_or (before i numbers) j 0 ≡ get_or numbers (8 * (i / 8) + j) 0
    before_at j h = get_or-take (i - 8 * (i / 8)) (drop (8 * (i / 8)) numbers) j 0 h ∙ get_or-drop (8 * (i / 8)) numbers j 0

    module _ (l : live i ≡ true) where
      -- ---- a ticket whose number is new
      module _ (new : is_new (ticket i).number (before i numbers) ≡ true) where
        unlike : (p : ℕ) → p < i → p / 8 ≡ i / 8 → live p ≡ true → (ticket p).number ≡ (ticket i).number → ⊥
        unlike p h r m e =
            let j : ℕ = p - 8 * (i / 8) in
            let s : 8 * (i / 8) + j ≡ p = omega (arith, r) in
            let b : j < i - 8 * (i / 8) = omega (arith, r, h) in
            new_none (ticket i).number (before i numbers) new j (omega (arith, b, before_long))
            (before_at j b ∙ ap (λ (x : ℕ). get_or numbers x 0) s ∙ so.written p h ∙ live_number (ticket p) m ∙ e)

        pub live_turn : PlaceOk i → (x : ℕ) → x ≡ (ticket i).number → SoFar (i + 1) (set numbers i x)
        live_turn ok x e = record {
          long = length-set numbers i x ∙ so.long;
          ok = below_more _ i so.ok ok;
          apart = apart_more (λ p g r m _. unlike p g r m);
          written = below_more _ i kept (get_or-set_same numbers i x 0 (omega (arith, so.long, low)) ∙ e ∙ sym (live_number (ticket i) l));
          rest = λ p h. get_or-set_other numbers i p x 0 (λ z. omega (arith, z, h)) ∙ so.rest p (omega (arith, h));
        }
          where
            kept : (p : ℕ) → p < i → get_or (set numbers i x) p 0 ≡ number_of (ticket p)
            kept p h = get_or-set_other numbers i p x 0 (λ z. omega (arith, z, h)) ∙ so.written p h

      -- ---- a ticket whose number is not new
      pub old_number : is_new (ticket i).number (before i numbers) ≡ false → 1 ≤ (ticket i).number → Apart 256 → ⊥
      old_number old pos apart =
          let s = old_somewhere (ticket i).number (before i numbers) old in
          let b : s.at < i - 8 * (i / 8) = omega (arith, s.low, before_long) in
          at (8 * (i / 8) + s.at) (omega (arith, b)) (omega (arith, b)) (sym (before_at s.at b) ∙ s.here)
        where
          at : (p : ℕ) → p < i → p / 8 ≡ i / 8 → get_or numbers p 0 ≡ (ticket i).number → ⊥
          at p h r e =
              let w : number_of (ticket p) ≡ (ticket i).number = sym (so.written p h) ∙ e in
              let m : live p ≡ true = number_live (ticket p) (λ y. omega (arith, y, w, pos)) in
              apart p i h low r m l (sym (live_number (ticket p) m) ∙ w)
