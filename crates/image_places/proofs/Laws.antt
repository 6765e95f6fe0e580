-- The numbers of all places are an index of the tickets by name: in tables whose live numbers are distinct and not 0 (T1), a name finds
-- what stands at its place, and a live ticket's place is its name's. And a test of every ticket is a test of every place.
use Prim.Native.Nat.{ℕ, ◌+◌, ◌*◌, ◌/◌, ◌%◌, ◌≤◌, ◌<◌}
use native.Mathlib.Omega.{arith}
use mathlib.Core.Path.{◌≡◌, refl, sym, ap, ◌∙◌, subst}
use mathlib.Core.Logic.{◌⊎◌, inl, inr}
use mathlib.Core.Bool.{Bool, true, false, ◌&&◌, cond}
use mathlib.Core.List.{List, map}
use lib.Dec.{ltb, eqb}
use lib.ListN.{length, get_or, take, drop, length-drop, length-map, get_or-map, get_or-eq_default}
use lib.Seq.{length-take-le, get_or-take, get_or-drop, ext_get_or}
use borrow.Author.Tests.{ltb-true, ltb-false, eqb-true, eqb-false, eq-eqb, ne_eqb}
use Rattle.lists.specs.Lists.{first_index}
use Rattle.lists.proofs.Tests.{Case, pass, fail, case, contradiction, and_l, and_r, and_intro, cannot_pass, no_true}
use Rattle.lists.proofs.Search.{find_passes, first_bound, first_same, first_map}
use Rattle.lists.proofs.Keyed.{nothing_found}
use Rattle.tables.specs.declared.{Name.Name, Kind.Kind, Ticket.Ticket, Pad.Pad, Tables.Tables}
use Rattle.tables.specs.Names.{name_of, is_program, free, no_pad, no_program}
use Rattle.tables.specs.Lookup.{Sized, tickets_of, has_number, ticket_in, lookup}
use Rattle.tables.specs.Order.{every_ticket, some_ticket}
use Rattle.tables.proofs.NameLaws.{name_eq, is_program_lem, program_possible}
use Rattle.tables.proofs.Keys.{ticket_keys, ticket_laws}
use Rattle.tables.proofs.ByPlace.{InRange, ticket_at, place_low_lem, found_number, name_in_range, every_at, every_from, some_at_lem, some_from}
use Rattle.image_places.specs.Places.{placed, name_at, number_of, start_of, place_in, Numbered}
use Rattle.image_places.proofs.Laying.{at_place}
use Rattle.image_places.proofs.PlaceSteps.{no_program_lem, no_number, not_there, is_there}
use Rattle.tables.specs.Kinds.{is_live}

-- ---- every ticket, or some, by place
module _ (t : Tables) (z : Sized t) (kinds : Kind → Bool) (test : Name → Ticket → Bool) where
  in_eight : (p q i : ℕ) → p < 4 → q < 8 → i < length (tickets_of t p q) → i < 8
  in_eight p q i b c d = subst (λ (m : ℕ). i < m) (z.tickets p q b c) d

  pub every_placed : every_ticket kinds test t ≡ true → (p : ℕ) → p < 256 → kinds (placed t p).kind ≡ true → test (name_at p (placed t p)) (placed t p) ≡ true
  every_placed e p h =
      let b : p / 64 < 4 = omega arith in
      let c : p / 8 % 8 < 8 = omega arith in
      let d : p % 8 < 8 = omega arith in
      every_at t z kinds test e (p / 64) (p / 8 % 8) (p % 8) b c (subst (λ (m : ℕ). p % 8 < m) (sym (z.tickets (p / 64) (p / 8 % 8) b c)) d)

  pub placed_every : ((p : ℕ) → p < 256 → kinds (placed t p).kind ≡ true → test (name_at p (placed t p)) (placed t p) ≡ true) → every_ticket kinds test t ≡ true
  placed_every h =
      every_from t z kinds test
      (λ p q i b c d k. let e = in_eight p q i b c d in at_flat p q i b c e (h (64 * p + 8 * q + i) (omega arith)) k)
    where
      at_flat : (p q i : ℕ) → p < 4 → q < 8 → i < 8
          → (kinds (placed t (64 * p + 8 * q + i)).kind ≡ true → test (name_at (64 * p + 8 * q + i) (placed t (64 * p + 8 * q + i))) (placed t (64 * p + 8 * q + i)) ≡ true)
          → kinds (ticket_at t p q i).kind ≡ true → test (name_of p q (ticket_at t p q i).number) (ticket_at t p q i) ≡ true
      at_flat p q i b c d h =
          let x : (64 * p + 8 * q + i) / 64 ≡ p = omega arith in
          let w : (64 * p + 8 * q + i) / 8 ≡ 8 * p + q = omega arith in
          let y : (64 * p + 8 * q + i) / 8 % 8 ≡ q = omega arith in
          let v : (64 * p + 8 * q + i) % 8 ≡ i = omega arith in
          rw (x, y, v) at h

  pub some_placed : (p : ℕ) → p < 256 → kinds (placed t p).kind ≡ true → test (name_at p (placed t p)) (placed t p) ≡ true → some_ticket kinds test t ≡ true
  some_placed p h k e =
      let b : p / 64 < 4 = omega arith in
      let c : p / 8 % 8 < 8 = omega arith in
      let d : p % 8 < 8 = omega arith in
      some_at_lem t z kinds test (p / 64) (p / 8 % 8) (p % 8) b c (subst (λ (m : ℕ). p % 8 < m) (sym (z.tickets (p / 64) (p / 8 % 8) b c)) d) (and_intro k e)

  -- some ticket: its place
  pub record Spot : Type 0 where
    pub at : ℕ
    pub low : at < 256
    pub kind : kinds (placed t at).kind ≡ true
    pub passes : test (name_at at (placed t at)) (placed t at) ≡ true

  pub placed_some : some_ticket kinds test t ≡ true → Spot
  placed_some e =
      let w = some_from t z kinds test e in
      at_flat w.pad w.program w.place w.pad_low w.program_low (in_eight w.pad w.program w.place w.pad_low w.program_low w.place_low) w.here
    where
      at_flat : (p q i : ℕ) → p < 4 → q < 8 → i < 8
          → (kinds (ticket_at t p q i).kind && test (name_of p q (ticket_at t p q i).number) (ticket_at t p q i)) ≡ true → Spot
      at_flat p q i b c d h =
          let x : (64 * p + 8 * q + i) / 64 ≡ p = omega arith in
          let w : (64 * p + 8 * q + i) / 8 ≡ 8 * p + q = omega arith in
          let y : (64 * p + 8 * q + i) / 8 % 8 ≡ q = omega arith in
          let v : (64 * p + 8 * q + i) % 8 ≡ i = omega arith in
          record {
            at = 64 * p + 8 * q + i;
            low = omega arith;
            kind = rw (x, y, v) (and_l (kinds (ticket_at t p q i).kind) _ h);
            passes = rw (x, y, v) (and_r (kinds (ticket_at t p q i).kind) _ h);
          }

-- ---- names and places
has_its_number : (m : ℕ) → (m ≡ 0 → ⊥) → (k : Ticket) → eqb (number_of k) m ≡ has_number m k
unfolding number_of has_number
has_its_number m z k = go (is_live k.kind)
  where
    go : (b : Bool) → eqb (cond b k.number 0) m ≡ (b && eqb k.number m)
    go true = refl
    go false = ne_eqb 0 m (λ e. z (sym e))

-- a number that is not 0 is looked for among the numbers as among the tickets
pub first_number : (m : ℕ) → (m ≡ 0 → ⊥) → (l : List Ticket) → first_index (λ j. eqb j m) (map number_of l) ≡ first_index (has_number m) l
first_number m z l = first_map (λ j. eqb j m) number_of l ∙ first_same (λ k. eqb (number_of k) m) (has_number m) (has_its_number m z) l

module _ (t : Tables) (numbers : List ℕ) (ix : Numbered t numbers) where
  module _ (n : Name) (b : n.pad < 4) (c : n.program < 8) where
    abbrev tickets : List Ticket
    tickets = tickets_of t n.pad n.program

    eight : length tickets ≡ 8
    eight = ix.sized.tickets n.pad n.program b c

    part : take 8 (drop (start_of n) numbers) ≡ map number_of tickets
    unfolding number_of
    part =
        let l : 8 ≤ length (drop (start_of n) numbers) = rw (length-drop (start_of n) numbers, ix.long) (omega arith) in
        let m : length (take 8 (drop (start_of n) numbers)) ≡ 8 = length-take-le 8 (drop (start_of n) numbers) l in
        ext_get_or 0 _ _ (m ∙ sym (length-map tickets number_of ∙ eight)) (λ i h. at i (subst (λ (x : ℕ). i < x) m h))
      where
        at : (i : ℕ) → i < 8 → get_or (take 8 (drop (start_of n) numbers)) i 0 ≡ get_or (map number_of tickets) i 0
        at i h =
            get_or-take 8 (drop (start_of n) numbers) i 0 h ∙ get_or-drop (start_of n) numbers i 0 ∙ ix.same (start_of n + i) (omega arith)
            ∙ ap number_of (sym (at_place t n.pad n.program i c h)) ∙ sym (get_or-map number_of tickets i free)

    -- where the name's ticket stands in its program
    abbrev spot : ℕ
    spot = first_index (has_number n.number) tickets

    found_there : lookup t n ≡ ticket_at t n.pad n.program spot
    unfolding lookup ticket_in
    found_there = refl

    spot_there : (n.number ≡ 0 → ⊥) → spot ≡ first_index (λ x. eqb x n.number) (take 8 (drop (start_of n) numbers))
    spot_there z =
        sym (ap (first_index (λ x. eqb x n.number)) part ∙ first_number n.number z tickets)

  -- a name has a place where its live ticket stands, or neither place nor ticket
  record There (n : Name) : Type 0 where
    pad : n.pad < 4
    program : n.program < 8
    spot_low : spot n pad program < 8
    at : place_in numbers n ≡ start_of n + spot n pad program

  record Nowhere (n : Name) : Type 0 where
    nothing : lookup t n ≡ free
    at : place_in numbers n ≡ 256

  dead_free : (n : Name) → (is_live (lookup t n).kind ≡ true → ⊥) → lookup t n ≡ free
  unfolding lookup ticket_in has_number
  dead_free n h = nothing_found ticket_keys ticket_laws (tickets_of t n.pad n.program) n.number (cannot_pass _ h)

  where_is : (n : Name) → There n ⊎ Nowhere n
  where_is n = by_program (case (is_program n.pad n.program))
    where
      none : place_in numbers n ≡ 256 → (is_live (lookup t n).kind ≡ true → ⊥) → There n ⊎ Nowhere n
      none e h = inr (record { nothing = dead_free n h; at = e })

      by_spot : (p : is_program n.pad n.program ≡ true) (b : n.pad < 4) (c : n.program < 8) → (n.number ≡ 0 → ⊥) → Case (ltb (spot n b c) 8) → There n ⊎ Nowhere n
      by_spot p b c z (pass e) =
          inl
          (record {
            pad = b;
            program = c;
            spot_low = ltb-true (spot n b c) 8 e;
            at = is_there numbers n p z (spot n b c) (spot_there n b c z) (ltb-true (spot n b c) 8 e);
          })
      by_spot p b c z (fail e) =
          none (not_there numbers n p z (spot n b c) (spot_there n b c z) (ltb-false (spot n b c) 8 e))
          (λ l. let s : spot n b c < 8 = subst (λ (m : ℕ). spot n b c < m) (eight n b c) (place_low_lem t ix.sized n l) in omega (arith, s, ltb-false (spot n b c) 8 e))

      by_number : (p : is_program n.pad n.program ≡ true) (b : n.pad < 4) (c : n.program < 8) → Case (eqb n.number 0) → There n ⊎ Nowhere n
      by_number p b c (pass e) = none (no_number numbers n p (eqb-true n.number 0 e)) (zero_dead b c (eqb-true n.number 0 e))
        where
          zero_dead : (b : n.pad < 4) (c : n.program < 8) → n.number ≡ 0 → is_live (lookup t n).kind ≡ true → ⊥
          zero_dead b c z l =
              let s : spot n b c < 8 = subst (λ (m : ℕ). spot n b c < m) (eight n b c) (place_low_lem t ix.sized n l) in
              let a = at_place t n.pad n.program (spot n b c) c s in
              let k : lookup t n ≡ placed t (start_of n + spot n b c) = found_there n b c ∙ a in
              let f = found_number t ix.sized n l in
              let w = ix.low (start_of n + spot n b c) (omega arith) (subst (λ (x : Ticket). is_live x.kind ≡ true) k l) in
              let v : (lookup t n).number ≡ (placed t (start_of n + spot n b c)).number = ap (λ (x : Ticket). x.number) k in
              omega (arith, w, v, f, z)
      by_number p b c (fail e) = by_spot p b c (eqb-false n.number 0 e) (case (ltb (spot n b c) 8))

      by_program : Case (is_program n.pad n.program) → There n ⊎ Nowhere n
      by_program (pass p) =
          let q = is_program_lem n.pad n.program p in
          by_number p (omega (arith, q.pad)) (omega (arith, q.program)) (case (eqb n.number 0))
      by_program (fail e) = none (no_program_lem numbers n e) (λ l. contradiction (in_range (name_in_range t ix.sized n l)) e)
        where
          in_range : InRange n → is_program n.pad n.program ≡ true
          in_range q = program_possible n.pad n.program (omega (arith, q.pad)) (omega (arith, q.program))

  -- what stands at no place is the free record
  none_past : placed t 256 ≡ free
  none_past =
      let h : length t.pads ≤ 4 = omega (arith, ix.sized.pads) in
      ap (λ (a : Pad). get_or (get_or a.programs 0 no_program).tickets 0 free) (get_or-eq_default t.pads no_pad h)

  there_at : (n : Name) (w : There n) → lookup t n ≡ placed t (start_of n + spot n w.pad w.program)
  there_at n w = found_there n w.pad w.program ∙ at_place t n.pad n.program _ w.program w.spot_low

  pub lookup_place : (n : Name) → lookup t n ≡ placed t (place_in numbers n)
  lookup_place n = go (where_is n)
    where
      go : There n ⊎ Nowhere n → lookup t n ≡ placed t (place_in numbers n)
      go (inl w) = there_at n w ∙ ap (placed t) (sym w.at)
      go (inr w) = w.nothing ∙ sym none_past ∙ ap (placed t) (sym w.at)

  pub place_most : (n : Name) → place_in numbers n ≤ 256
  place_most n = go (where_is n)
    where
      go : There n ⊎ Nowhere n → place_in numbers n ≤ 256
      go (inl w) = omega (arith, w.at, w.pad, w.program, w.spot_low)
      go (inr w) = omega (arith, w.at)

  -- a place that was found: it has the name's live ticket
  pub record Found (n : Name) : Type 0 where
    pub live : is_live (placed t (place_in numbers n)).kind ≡ true
    pub name : name_at (place_in numbers n) (placed t (place_in numbers n)) ≡ n

  -- the first ticket that has a number has it
  has_number_lem : (n : Name) (w : There n) → has_number n.number (ticket_at t n.pad n.program (spot n w.pad w.program)) ≡ true
  has_number_lem n w =
      find_passes (has_number n.number) (tickets_of t n.pad n.program) free
      (subst (λ (m : ℕ). spot n w.pad w.program < m) (sym (eight n w.pad w.program)) w.spot_low)

  there_found : (n : Name) → There n → Found n
  unfolding has_number
  there_found n w =
      let i = spot n w.pad w.program in
      let k = ticket_at t n.pad n.program i in
      let p = start_of n + i in
      let e : k ≡ placed t p = at_place t n.pad n.program i w.program w.spot_low in
      let h = has_number_lem n w in
      let l : is_live k.kind ≡ true = and_l (is_live k.kind) _ h in
      let m : k.number ≡ n.number = eqb-true k.number n.number (and_r (is_live k.kind) _ h) in
      let x : p / 64 ≡ n.pad = omega (arith, w.pad, w.program, w.spot_low) in
      let y : p / 8 ≡ 8 * n.pad + n.program = omega (arith, w.pad, w.program, w.spot_low) in
      let z : p / 8 % 8 ≡ n.program = omega (arith, w.pad, w.program, w.spot_low, y) in
      record {
        live = subst (λ (q : ℕ). is_live (placed t q).kind ≡ true) (sym w.at) (subst (λ (a : Ticket). is_live a.kind ≡ true) e l);
        name =
            subst (λ (q : ℕ). name_at q (placed t q) ≡ n) (sym w.at)
            (name_eq x z (sym (ap (λ (a : Ticket). a.number) e) ∙ m));
      }

  pub place_found : (n : Name) → place_in numbers n < 256 → Found n
  place_found n h = go (where_is n)
    where
      go : There n ⊎ Nowhere n → Found n
      go (inr w) = absurd (omega (arith, w.at, h))
      go (inl w) = there_found n w

  pub live_place : (n : Name) → is_live (lookup t n).kind ≡ true → place_in numbers n < 256
  live_place n l = go (where_is n)
    where
      go : There n ⊎ Nowhere n → place_in numbers n < 256
      go (inl w) = omega (arith, w.at, w.pad, w.program, w.spot_low)
      go (inr w) = absurd (no_true (sym (ap (λ (k : Ticket). is_live k.kind) w.nothing) ∙ l))

  -- distinct numbers: the first ticket that has a live ticket's number is that ticket
  same_spot : (p : ℕ) → p < 256 → is_live (placed t p).kind ≡ true → (b : p / 64 < 4) (c : p / 8 % 8 < 8)
      → spot (name_at p (placed t p)) b c ≡ p % 8
  unfolding has_number
  same_spot p h l b c =
      let n = name_at p (placed t p) in
      let ks = tickets_of t (p / 64) (p / 8 % 8) in
      let e : length ks ≡ 8 = eight n b c in
      let d : p % 8 < length ks = subst (λ (m : ℕ). p % 8 < m) (sym e) (omega arith) in
      let f : first_index (has_number n.number) ks < length ks
      = first_bound (has_number n.number) ks free (p % 8) d (and_intro l (eq-eqb n.number n.number refl)) in
      let g : has_number n.number (get_or ks (first_index (has_number n.number) ks) free) ≡ true = find_passes (has_number n.number) ks free f in
      let k = get_or ks (first_index (has_number n.number) ks) free in
      ix.distinct (p / 64) (p / 8 % 8) b c (first_index (has_number n.number) ks) (p % 8) f d (and_l (is_live k.kind) _ g) l
      (eqb-true k.number n.number (and_r (is_live k.kind) _ g))

  -- the place of a live ticket's name is its own
  pub name_place : (p : ℕ) → p < 256 → is_live (placed t p).kind ≡ true → place_in numbers (name_at p (placed t p)) ≡ p
  name_place p h l =
      let n = name_at p (placed t p) in
      let b : p / 64 < 4 = omega arith in
      let c : p / 8 % 8 < 8 = omega arith in
      let s : spot n b c ≡ p % 8 = same_spot p h l b c in
      let e : place_in numbers n ≡ start_of n + spot n b c
      = is_there numbers n (program_possible n.pad n.program (omega arith) (omega arith)) (λ z. omega (arith, ix.low p h l, z)) (spot n b c) (spot_there n b c (λ z. omega (arith, ix.low p h l, z))) (omega arith) in
      omega (arith, e, s)
