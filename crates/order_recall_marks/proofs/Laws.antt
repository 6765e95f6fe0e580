-- What the keys say of the tables. A live target's key is its place, and what has that place has that name; a dead target's key spells
-- its name. So two recalls have the same key just where they have the same target, and no key stands twice just where no target has two
-- recalls. A place is a key just where the ticket there is the target of a recall: so every child is marked just where every child has
-- one, and so are the grants that entries below others name.
use Prim.Native.Nat.{ℕ, ◌≤◌, ◌<◌}
use native.Mathlib.Omega.{arith}
use mathlib.Core.Path.{◌≡◌, refl, sym, ap, ◌∙◌, subst}
use mathlib.Core.Bool.{Bool, true, false, not}
use mathlib.Core.List.{List, map}
use lib.Dec.{ltb, eqb}
use lib.ListN.{length, get_or, length-map}
use borrow.Author.Tests.{not-true, ltb-true, ltb-false, lt-ltb, eqb-true, eq-eqb, ne_eqb}
use Rattle.std.proofs.lemmas.List.{get_or-map}
use Rattle.lists.specs.Tests.{implies}
use Rattle.lists.specs.Lists.{all, some, no_two}
use Rattle.lists.proofs.Tests.{Case, pass, fail, case, contradiction, both_ways, not_test, and_l, and_r, and_intro, implies_intro, implies_elim}
use Rattle.lists.proofs.Everywhere.{all_intro, all_elim, some_intro, some_elim, no_two_intro, no_two_elim}
use Rattle.tables.specs.declared.{Name.Name, Ticket.Ticket, Entry.Entry, Tables.Tables}
use Rattle.tables.specs.Names.{free, no_entry, eq_name}
use Rattle.tables.specs.Order.{every_ticket, every_entry, under_store, is_recalled}
use Rattle.tables.proofs.KindLaws.{live_child, live_recall}
use Rattle.tables.proofs.NameLaws.{name_eq, eq_name_true, eq_name_test}
use Rattle.tables.proofs.Fits.{NameFits}
use Rattle.image_places.specs.Places.{placed, name_at, place_in, Flattened, Numbered}
use Rattle.image_places.proofs.Laws.{every_placed, placed_every, some_placed, placed_some, place_found, name_place}
use Rattle.order_lists.specs.Listing.{Source, TicketsListed, ReceivedListed, is_hung}
use Rattle.order_lists.proofs.Laws.{listed_all}
use Rattle.order_recall_marks.specs.Keys.{key_of, target_key, is_place, is_dead, KeysListed, is_marked}
use Rattle.order_recall_marks.proofs.KeySteps.{dead_key, key_place, key_dead, key_none, key_recall}
use Rattle.tables.specs.Kinds.{is_live, is_child, is_recall}

-- T6's tests of two tickets: no other recall has k's target; some recall has the target n
abbrev pub one_recall : Tables → Name → Ticket → Bool
one_recall t n k = every_ticket is_recall (λ m other. implies (eq_name other.other k.other) (eq_name m n)) t

abbrev pub has_recall : Tables → Name → Ticket → Bool
has_recall t n k = is_recalled t n

-- ---- one key
-- a ticket's key by cases
pub data KeyOf (numbers : List ℕ) (k : Ticket) : Type 0 where
  other : is_recall k.kind ≡ false → target_key numbers k ≡ 256 → KeyOf numbers k
  live : is_recall k.kind ≡ true → place_in numbers k.other < 256 → target_key numbers k ≡ place_in numbers k.other → KeyOf numbers k
  dead : is_recall k.kind ≡ true → 256 ≤ place_in numbers k.other → target_key numbers k ≡ dead_key k.other → KeyOf numbers k

pub key_cases : (numbers : List ℕ) (k : Ticket) → KeyOf numbers k
key_cases numbers k = by_kind (case (is_recall k.kind))
  where
    by_place : is_recall k.kind ≡ true → Case (ltb (place_in numbers k.other) 256) → KeyOf numbers k
    by_place r (pass e) =
        let h = ltb-true (place_in numbers k.other) 256 e in
        live r h (sym (key_recall numbers k r) ∙ sym (key_place (place_in numbers k.other) k.other h))
    by_place r (fail e) =
        let h = ltb-false (place_in numbers k.other) 256 e in
        dead r h (sym (key_recall numbers k r) ∙ sym (key_dead (place_in numbers k.other) k.other h))

    by_kind : Case (is_recall k.kind) → KeyOf numbers k
    by_kind (pass r) = by_place r (case (ltb (place_in numbers k.other) 256))
    by_kind (fail r) = other r (sym (key_none numbers k r))

module _ (numbers : List ℕ) (k : Ticket) where
  -- a key that is not 256 is a recall's
  key_is_recall : (target_key numbers k ≡ 256 → ⊥) → is_recall k.kind ≡ true
  key_is_recall ne = go (key_cases numbers k)
    where
      go : KeyOf numbers k → is_recall k.kind ≡ true
      go (other r e) = absurd (ne e)
      go (live r h e) = r
      go (dead r h e) = r

  pub recall_key : is_recall k.kind ≡ true → target_key numbers k ≡ 256 → ⊥
  recall_key r z = go (key_cases numbers k)
    where
      go : KeyOf numbers k → ⊥
      go (other s e) = contradiction r s
      go (live s h e) = omega (arith, z, e, h)
      go (dead s h e) = omega (arith, z, e)

  -- a key below 256 is the target's place
  pub key_is_place : target_key numbers k < 256 → place_in numbers k.other ≡ target_key numbers k
  key_is_place l = go (key_cases numbers k)
    where
      go : KeyOf numbers k → place_in numbers k.other ≡ target_key numbers k
      go (other s e) = absurd (omega (arith, l, e))
      go (live s h e) = sym e
      go (dead s h e) = absurd (omega (arith, l, e))

  -- the target of a key above 256 has no place
  pub key_has_none : 256 < target_key numbers k → 256 ≤ place_in numbers k.other
  key_has_none l = go (key_cases numbers k)
    where
      go : KeyOf numbers k → 256 ≤ place_in numbers k.other
      go (other s e) = absurd (omega (arith, l, e))
      go (live s h e) = absurd (omega (arith, l, e, h))
      go (dead s h e) = h

-- ---- all keys
-- the key at a place is its ticket's
pub key_written : (numbers keys : List ℕ) (ks : List Ticket) → keys ≡ map (target_key numbers) ks → (i : ℕ) → i < length ks
    → get_or keys i 0 ≡ target_key numbers (get_or ks i free)
key_written numbers keys ks e i h = ap (λ (l : List ℕ). get_or l i 0) e ∙ get_or-map (target_key numbers) ks i free 0 h

-- the places that have a key are those of the recalls
pub keys_listed : (numbers keys : List ℕ) (ks : List Ticket) (recalls : List ℕ) → keys ≡ map (target_key numbers) ks → length ks ≡ 256
    → TicketsListed (λ k. is_recall k.kind) ks recalls → KeysListed keys recalls
keys_listed numbers keys ks recalls e long listing = record {
  most = listing.most;
  low = listing.low;
  passes = λ j h. let p = get_or recalls j 0 in
      not_test (eqb (get_or keys p 256) 256)
      (ne_eqb (get_or keys p 256) 256 (λ z. recall_key numbers (get_or ks p free) (listing.passes j h) (sym (here p (listing.low j h)) ∙ z)));
  rising = listing.rising;
  all = λ p h t. listing.all p h
      (key_is_recall numbers (get_or ks p free)
      (λ z. contradiction (eq-eqb (get_or keys p 256) 256 (here p h ∙ z)) (not-true (eqb (get_or keys p 256) 256) t)));
}
  where
    here : (p : ℕ) → p < 256 → get_or keys p 256 ≡ target_key numbers (get_or ks p free)
    here p h = ap (λ (l : List ℕ). get_or l p 256) e ∙ get_or-map (target_key numbers) ks p free 256 (omega (arith, long, h))

module _ (t : Tables) (numbers : List ℕ) (ix : Numbered t numbers) where
  -- a place has one name
  place_names : (a b : Name) → place_in numbers a ≡ place_in numbers b → place_in numbers b < 256 → a ≡ b
  place_names a b e h =
      sym (place_found t numbers ix a (omega (arith, e, h))).name ∙ ap (λ (p : ℕ). name_at p (placed t p)) e ∙ (place_found t numbers ix b h).name

  same_target : (a b : Ticket) → NameFits a.other → NameFits b.other
      → is_recall a.kind ≡ true → is_recall b.kind ≡ true → target_key numbers a ≡ target_key numbers b → a.other ≡ b.other
  same_target a b fa fb ra rb e = go (key_cases numbers a) (key_cases numbers b)
    where
      go : KeyOf numbers a → KeyOf numbers b → a.other ≡ b.other
      go (other s p) (other s' p') = contradiction ra s
      go (other s p) (live s' h' p') = contradiction ra s
      go (other s p) (dead s' h' p') = contradiction ra s
      go (live s h p) (other s' p') = contradiction rb s'
      go (live s h p) (live s' h' p') = place_names a.other b.other (sym p ∙ e ∙ p') h'
      go (live s h p) (dead s' h' p') = absurd (omega (arith, h, p, e, p'))
      go (dead s h p) (other s' p') = contradiction rb s'
      go (dead s h p) (live s' h' p') = absurd (omega (arith, h', p, e, p'))
      go (dead s h p) (dead s' h' p') =
          let d : dead_key a.other ≡ dead_key b.other = sym p ∙ e ∙ p' in
          name_eq
          (omega (arith, d, fa.program, fa.number, fb.program, fb.number))
          (omega (arith, d, fa.program, fa.number, fb.program, fb.number))
          (omega (arith, d, fa.program, fa.number, fb.program, fb.number))

module _ (t : Tables) (ks : List Ticket) (lasts numbers : List ℕ) (flat : Flattened t ks lasts) (ix : Numbered t numbers) where
  abbrev pub keys : List ℕ
  keys = map (target_key numbers) ks

  pub keys_long : length keys ≡ 256
  keys_long = length-map ks (target_key numbers) ∙ flat.long

  key_at_lem : (p : ℕ) → p < 256 → get_or keys p 0 ≡ target_key numbers (placed t p)
  key_at_lem p h = key_written numbers keys ks refl p (omega (arith, flat.long)) ∙ ap (target_key numbers) (flat.same p h)

  recall_at : (p : ℕ) → p < 256 → (get_or keys p 0 ≡ 256 → ⊥) → is_recall (placed t p).kind ≡ true
  recall_at p h ne = key_is_recall numbers (placed t p) (λ e. ne (key_at_lem p h ∙ e))

  -- ---- "No target has two recalls"
  module _ (fits : (p : ℕ) → p < 256 → NameFits (get_or ks p free).other) where
    target_fits : (p : ℕ) → p < 256 → NameFits (placed t p).other
    target_fits p h = subst (λ (k : Ticket). NameFits k.other) (flat.same p h) (fits p h)

    alike : (a b : ℕ) → a < 256 → b < 256 → (get_or keys a 0 ≡ 256 → ⊥) → get_or keys a 0 ≡ get_or keys b 0 → (placed t b).other ≡ (placed t a).other
    alike a b h g ne e =
        same_target t numbers ix (placed t b) (placed t a) (target_fits b g) (target_fits a h)
        (recall_at b g (λ z. ne (e ∙ z))) (recall_at a h ne) (sym (key_at_lem b g) ∙ sym e ∙ key_at_lem a h)

    -- where it holds, no key stands twice
    pub once_keys : (counts : ℕ → Bool) → counts 256 ≡ false → every_ticket is_recall (one_recall t) t ≡ true → no_two counts eqb keys ≡ true
    once_keys counts none e =
        no_two_intro 0 counts eqb keys
        (λ a b l h c d. ne_eqb (get_or keys a 0) (get_or keys b 0)
        (two a b l (subst (λ (m : ℕ). b < m) keys_long h) (λ z. contradiction (subst (λ (x : ℕ). counts x ≡ true) z c) none)))
      where
        two : (a b : ℕ) → a < b → b < 256 → (get_or keys a 0 ≡ 256 → ⊥) → get_or keys a 0 ≡ get_or keys b 0 → ⊥
        two a b l h ne s =
            let g : a < 256 = omega arith in
            let ra = recall_at a g ne in
            let rb = recall_at b h (λ z. ne (s ∙ z)) in
            let n = name_at a (placed t a) in
            let o = every_placed t ix.sized is_recall (one_recall t) e a g ra in
            let w = every_placed t ix.sized is_recall (λ m other. implies (eq_name other.other (placed t a).other) (eq_name m n)) o b h rb in
            let m = name_at b (placed t b) in
            let q : m ≡ n = eq_name_true m n (implies_elim (eq_name (placed t b).other (placed t a).other) (eq_name m n) w (eq_name_test _ _ (alike a b g h ne s))) in
            let x = name_place t numbers ix a g (live_recall (placed t a).kind ra) in
            let y = name_place t numbers ix b h (live_recall (placed t b).kind rb) in
            let z : place_in numbers m ≡ place_in numbers n = ap (place_in numbers) q in
            omega (arith, x, y, z)

    -- where no key stands twice, it holds
    pub keys_once : no_two is_place eqb keys ≡ true → no_two is_dead eqb keys ≡ true → every_ticket is_recall (one_recall t) t ≡ true
    keys_once low high =
        placed_every t ix.sized is_recall (one_recall t)
        (λ p h r. placed_every t ix.sized is_recall (λ m other. implies (eq_name other.other (placed t p).other) (eq_name m (name_at p (placed t p))))
        (λ q g s. implies_intro (eq_name (placed t q).other (placed t p).other) _ (λ e. eq_name_test _ _ (ap (λ (x : ℕ). name_at x (placed t x)) (same p q h g r s (eq_name_true _ _ e))))))
      where
        key_equal : (p q : ℕ) → p < 256 → q < 256 → is_recall (placed t p).kind ≡ true → is_recall (placed t q).kind ≡ true
            → (placed t q).other ≡ (placed t p).other → get_or keys q 0 ≡ get_or keys p 0
        key_equal p q h g r s e =
            key_at_lem q g ∙ sym (key_recall numbers (placed t q) s) ∙ ap (λ (n : Name). key_of (place_in numbers n) n) e ∙ key_recall numbers (placed t p) r
            ∙ sym (key_at_lem p h)

        apart : (counts : ℕ → Bool) → no_two counts eqb keys ≡ true → (p q : ℕ) → p < q → q < 256
            → counts (get_or keys q 0) ≡ true → get_or keys q 0 ≡ get_or keys p 0 → ⊥
        apart counts once p q l h c e =
            contradiction (eq-eqb (get_or keys p 0) (get_or keys q 0) (sym e))
            (no_two_elim 0 counts eqb keys once p q l (subst (λ (m : ℕ). q < m) (sym keys_long) h) (subst (λ (x : ℕ). counts x ≡ true) e c) c)

        clash : (p q : ℕ) → p < q → q < 256 → is_recall (placed t q).kind ≡ true → get_or keys q 0 ≡ get_or keys p 0 → ⊥
        clash p q l h r e = go (case (ltb (get_or keys q 0) 256))
          where
            go : Case (ltb (get_or keys q 0) 256) → ⊥
            go (pass c) = apart is_place low p q l h c e
            go (fail c) =
                let ne : get_or keys q 0 ≡ 256 → ⊥ = λ z. recall_key numbers (placed t q) r (sym (key_at_lem q h) ∙ z) in
                apart is_dead high p q l h (lt-ltb 256 (get_or keys q 0) (omega (arith, ne, ltb-false (get_or keys q 0) 256 c))) e

        same : (p q : ℕ) → p < 256 → q < 256 → is_recall (placed t p).kind ≡ true → is_recall (placed t q).kind ≡ true → (placed t q).other ≡ (placed t p).other → q ≡ p
        same p q h g r s e = by_order (case (ltb p q)) (case (ltb q p))
          where
            by_order : Case (ltb p q) → Case (ltb q p) → q ≡ p
            by_order (pass l) x = absurd (clash p q (ltb-true p q l) g s (key_equal p q h g r s e))
            by_order (fail l) (pass m) = absurd (clash q p (ltb-true q p m) h r (sym (key_equal p q h g r s e)))
            by_order (fail l) (fail m) = omega (arith, ltb-false p q l, ltb-false q p m)

  -- ---- "every child has one"
  -- a place is a key where the ticket there is the target of a recall
  key_recalls : (p : ℕ) → p < 256 → some (λ key. eqb key p) keys ≡ true → has_recall t (name_at p (placed t p)) (placed t p) ≡ true
  key_recalls p h e =
      let w = some_elim 0 (λ key. eqb key p) keys e in
      let g : w.place < 256 = subst (λ (m : ℕ). w.place < m) keys_long w.low in
      let s : get_or keys w.place 0 ≡ p = eqb-true (get_or keys w.place 0) p w.passes in
      let k = placed t w.place in
      let z : target_key numbers k ≡ p = sym (key_at_lem w.place g) ∙ s in
      let y : place_in numbers k.other ≡ p = key_is_place numbers k (omega (arith, z, h)) ∙ z in
      let n = name_at p (placed t p) in
      let x : n ≡ k.other = subst (λ (q : ℕ). name_at q (placed t q) ≡ k.other) y (place_found t numbers ix k.other (omega (arith, y, h))).name in
      some_placed t ix.sized is_recall (λ m recall. eq_name recall.other n) w.place g
      (recall_at w.place g (λ v. omega (arith, v, s, h))) (eq_name_test k.other n (sym x))

  recalls_key : (p : ℕ) → p < 256 → is_live (placed t p).kind ≡ true → has_recall t (name_at p (placed t p)) (placed t p) ≡ true → some (λ key. eqb key p) keys ≡ true
  recalls_key p h l e =
      let n = name_at p (placed t p) in
      let w = placed_some t ix.sized is_recall (λ m recall. eq_name recall.other n) e in
      let k = placed t w.at in
      let x : k.other ≡ n = eq_name_true k.other n w.passes in
      let y : place_in numbers k.other ≡ p = ap (place_in numbers) x ∙ name_place t numbers ix p h l in
      let z : get_or keys w.at 0 ≡ p
      = key_at_lem w.at w.low ∙ sym (key_recall numbers k w.kind) ∙ sym (key_place (place_in numbers k.other) k.other (omega (arith, y, h))) ∙ y in
      some_intro 0 (λ key. eqb key p) keys w.at (subst (λ (m : ℕ). w.at < m) (sym keys_long) w.low) (eq-eqb (get_or keys w.at 0) p z)

  -- where the marks tell which places are keys, marked places decide who has a recall
  module _ (marks : List ℕ) (told : (p : ℕ) → p < 256 → is_marked marks p ≡ some (λ key. eqb key p) keys) where
    pub children_recalled : (children : List ℕ) → TicketsListed (λ k. is_child k.kind) ks children
        → all (is_marked marks) children ≡ every_ticket is_child (has_recall t) t
    children_recalled children listing =
        both_ways (all (is_marked marks) children) (every_ticket is_child (has_recall t) t)
        (λ e. placed_every t ix.sized is_child (has_recall t) (λ p h c. key_recalls p h (sym (told p h) ∙ marked e p h c)))
        (λ e. all_intro 0 (is_marked marks) children (λ j h. recalled e (get_or children j 0) (listing.low j h) (listing.passes j h)))
      where
        marked : all (is_marked marks) children ≡ true → (p : ℕ) → p < 256 → is_child (placed t p).kind ≡ true → is_marked marks p ≡ true
        marked e p h c =
            listed_all free (λ k. is_child k.kind) ks 256 children (length children) listing (λ q. is_marked marks q ≡ true)
            (all_elim 0 (is_marked marks) children e) p h (ap (λ (k : Ticket). is_child k.kind) (flat.same p h) ∙ c)

        recalled : every_ticket is_child (has_recall t) t ≡ true → (p : ℕ) → p < 256 → is_child (get_or ks p free).kind ≡ true → is_marked marks p ≡ true
        recalled e p h k =
            let c : is_child (placed t p).kind ≡ true = ap (λ (x : Ticket). is_child x.kind) (sym (flat.same p h)) ∙ k in
            told p h ∙ recalls_key p h (live_child (placed t p).kind c) (every_placed t ix.sized is_child (has_recall t) e p h c)

    -- a mark at the place of a name tells whether a recall names it
    marked_recalled : (n : Name) → place_in numbers n < 256 → is_marked marks (place_in numbers n) ≡ is_recalled t n
    marked_recalled n h =
        let p = place_in numbers n in
        let f = place_found t numbers ix n h in
        told p h
        ∙ both_ways (some (λ key. eqb key p) keys) (is_recalled t n)
        (λ e. subst (λ (m : Name). is_recalled t m ≡ true) f.name (key_recalls p h e))
        (λ e. recalls_key p h f.live (subst (λ (m : Name). is_recalled t m ≡ true) (sym f.name) e))

    pub received_recalled : length t.entries ≡ 256 → (received : List ℕ) → ReceivedListed numbers t.entries received
        → all (is_marked marks) received ≡ every_entry (λ e. implies (not (under_store e)) (is_recalled t e.name)) t
    unfolding every_entry
    received_recalled long received listing =
        both_ways (all (is_marked marks) received) (all asks t.entries)
        (λ e. all_intro no_entry asks t.entries
        (λ i b. implies_intro (entry i).live _ (λ l. implies_intro (not (under_store (entry i))) _ (λ u. recalled e i (omega (arith, b, long)) (and_intro l u)))))
        (λ e. all_intro 0 (is_marked marks) received (λ j h. marked e (get_or received j 0) (listing.low j h) (listing.from j h)))
      where
        asks : Entry → Bool
        asks e = implies e.live (implies (not (under_store e)) (is_recalled t e.name))

        entry : ℕ → Entry
        entry i = get_or t.entries i no_entry

        recalled : all (is_marked marks) received ≡ true → (i : ℕ) → i < 256 → is_hung (entry i) ≡ true → is_recalled t (entry i).name ≡ true
        recalled e i b u =
            let s = listing.all i b u in
            let low : place_in numbers (entry i).name < 256 = subst (λ (p : ℕ). p < 256) s.here (listing.low s.at s.low) in
            sym (marked_recalled (entry i).name low)
            ∙ subst (λ (p : ℕ). is_marked marks p ≡ true) s.here (all_elim 0 (is_marked marks) received e s.at s.low)

        marked : all asks t.entries ≡ true → (p : ℕ) → p < 256 → Source no_entry is_hung (λ e. place_in numbers e.name) t.entries 256 p
            → is_marked marks p ≡ true
        marked e p h s =
            let x = entry s.at in
            let l : x.live ≡ true = and_l x.live (not (under_store x)) s.passes in
            let u : not (under_store x) ≡ true = and_r x.live (not (under_store x)) s.passes in
            let asked = all_elim no_entry asks t.entries e s.at (omega (arith, s.low, long)) in
            subst (λ (q : ℕ). is_marked marks q ≡ true) s.here
            (marked_recalled x.name (omega (arith, s.here, h))
            ∙ implies_elim (not (under_store x)) (is_recalled t x.name) (implies_elim x.live _ asked l) u)
