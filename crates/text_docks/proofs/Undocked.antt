-- Dock names are in no walk: tables that differ in nothing else, place by place, have the same parents, and so the same heads.
use Prim.Native.Nat.{ℕ, ◌+◌, ◌*◌, ◌/◌, ◌%◌, ◌≤◌, ◌<◌}
use native.Mathlib.Omega.{arith}
use mathlib.Core.Path.{◌≡◌, refl, sym, ap, ◌∙◌, fun_ext}
use mathlib.Core.List.{List, [], ◌∷◌, map}
use lib.Dec.{ltb}
use lib.ListN.{get_or, length-map, get_or-map, get_or-eq_default}
use lib.Seq.{ext_get_or}
use borrow.Author.Tests.{ltb-true, ltb-false}
use Rattle.lists.specs.Lists.{first_index}
use Rattle.lists.proofs.Tests.{Case, pass, fail, case}
use Rattle.tables.specs.declared.{Name.Name, Kind.Kind, Ticket.Ticket, Program.Program, Pad.Pad, Tables.Tables}
use Rattle.tables.specs.declared.Kind.TheVariants.{Free, Taken, Received, Child, Recall}
use Rattle.tables.specs.Names.{no_name, free, no_program, no_pad}
use Rattle.tables.specs.Lookup.{Sized, pad_at, tickets_of, has_number, ticket_in, lookup}
use Rattle.tables.specs.Chains.{parent_by, parent_of, end_of, chain_head}
use Rattle.image_places.specs.Places.{placed}
use Rattle.text_docks.specs.Docks.{with_dock}

abbrev pub undocked : Ticket → Ticket
undocked k = with_dock k no_name

-- a parent says nothing of the dock name
blind : (n : Name) (k : Ticket) → parent_by (undocked k).kind n (undocked k) ≡ parent_by k.kind n k
blind n k = by_kind k.kind
  where
    by_kind : (x : Kind) → parent_by x n (undocked k) ≡ parent_by x n k
    by_kind Free = refl
    by_kind Taken = refl
    by_kind Received = refl
    by_kind Child = refl
    by_kind Recall = refl

-- ---- found without looking at dock names
found_undocked : (l : List Ticket) (number : ℕ) → ticket_in (map undocked l) number ≡ undocked (ticket_in l number)
unfolding ticket_in first_index has_number
found_undocked [] number = refl
found_undocked (k ∷ ks) number = go (found_undocked ks number) (case (has_number number k))
  where
    go : ticket_in (map undocked ks) number ≡ undocked (ticket_in ks number) → Case (has_number number k)
        → ticket_in (map undocked (k ∷ ks)) number ≡ undocked (ticket_in (k ∷ ks) number)
    go h (pass e) = rw e
    go h (fail e) = rw e h

-- a program that is none has no tickets
none_there : (t : Tables) → Sized t → (a b : ℕ) → Case (ltb a 4) → Case (ltb b 8) → (a < 4 → b < 8 → tickets_of t a b ≡ []) → tickets_of t a b ≡ []
none_there t z a b (pass p) (pass q) h = h (ltb-true a 4 p) (ltb-true b 8 q)
none_there t z a b (pass p) (fail q) h =
    let high : 8 ≤ b = ltb-false b 8 q in
    ap (λ (x : Program). x.tickets)
    (get_or-eq_default (pad_at t a).programs no_program (omega (arith, high, z.programs a (ltb-true a 4 p))))
none_there t z a b (fail p) _ h =
    let high : 4 ≤ a = ltb-false a 4 p in
    ap (λ (x : Pad). (get_or x.programs b no_program).tickets) (get_or-eq_default t.pads no_pad (omega (arith, high, z.pads)))

module _ (t u : Tables) (zt : Sized t) (zu : Sized u) (same : (p : ℕ) → p < 256 → undocked (placed t p) ≡ undocked (placed u p)) where
  tickets_alike : (a b : ℕ) → a < 4 → b < 8 → map undocked (tickets_of t a b) ≡ map undocked (tickets_of u a b)
  tickets_alike a b p q =
      ext_get_or free (map undocked (tickets_of t a b)) (map undocked (tickets_of u a b))
      (length-map (tickets_of t a b) undocked ∙ zt.tickets a b p q ∙ sym (length-map (tickets_of u a b) undocked ∙ zu.tickets a b p q))
      (λ i h.
      let low : i < 8 = omega (arith, h, length-map (tickets_of t a b) undocked, zt.tickets a b p q) in
      let x : (64 * a + 8 * b + i) / 64 ≡ a = omega (arith, q, low) in
      let y : (64 * a + 8 * b + i) / 8 % 8 ≡ b = omega (arith, q, low) in
      let w : (64 * a + 8 * b + i) % 8 ≡ i = omega (arith, low) in
      get_or-map undocked (tickets_of t a b) i free
      ∙ (λ j. undocked (get_or (tickets_of t (sym x j) (sym y j)) (sym w j) free))
      ∙ same (64 * a + 8 * b + i) (omega (arith, p, q, low))
      ∙ (λ j. undocked (get_or (tickets_of u (x j) (y j)) (w j) free))
      ∙ sym (get_or-map undocked (tickets_of u a b) i free))

  all_alike : (a b : ℕ) → map undocked (tickets_of t a b) ≡ map undocked (tickets_of u a b)
  all_alike a b = go (case (ltb a 4)) (case (ltb b 8))
    where
      go : Case (ltb a 4) → Case (ltb b 8) → map undocked (tickets_of t a b) ≡ map undocked (tickets_of u a b)
      go (pass p) (pass q) = tickets_alike a b (ltb-true a 4 p) (ltb-true b 8 q)
      go (pass p) (fail q) =
          ap (map undocked)
          (none_there t zt a b (pass p) (fail q) (λ x y. absurd (let h : 8 ≤ b = ltb-false b 8 q in omega (arith, h, y)))
          ∙ sym (none_there u zu a b (pass p) (fail q) (λ x y. absurd (let h : 8 ≤ b = ltb-false b 8 q in omega (arith, h, y)))))
      go (fail p) q =
          ap (map undocked)
          (none_there t zt a b (fail p) q (λ x y. absurd (let h : 4 ≤ a = ltb-false a 4 p in omega (arith, h, x)))
          ∙ sym (none_there u zu a b (fail p) q (λ x y. absurd (let h : 4 ≤ a = ltb-false a 4 p in omega (arith, h, x)))))

  lookup_alike : (n : Name) → undocked (lookup t n) ≡ undocked (lookup u n)
  unfolding lookup
  lookup_alike n =
      sym (found_undocked (tickets_of t n.pad n.program) n.number)
      ∙ ap (λ (l : List Ticket). ticket_in l n.number) (all_alike n.pad n.program)
      ∙ found_undocked (tickets_of u n.pad n.program) n.number

  parent_alike : (m : Name) → parent_of (lookup t) m ≡ parent_of (lookup u) m
  parent_alike m = sym (blind m (lookup t m)) ∙ ap (λ (k : Ticket). parent_by k.kind m k) (lookup_alike m) ∙ blind m (lookup u m)

  pub heads_alike : (n : Name) → chain_head t n ≡ chain_head u n
  heads_alike n =
      let parents : parent_of (lookup t) ≡ parent_of (lookup u) = fun_ext parent_alike in
      ap (λ (parent : Name → Name). end_of 64 parent n) parents
