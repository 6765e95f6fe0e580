-- T3 by place. A child's parent is what stands at the place of its name; so walking from place to place along `up` keeps step with walking
-- from name to name, and a chain comes to a head there exactly where it comes to a place without a parent here.
use Prim.Native.Nat.{ℕ, zero, suc, ◌<◌}
use native.Mathlib.Omega.{arith}
use mathlib.Core.Path.{◌≡◌, sym, ap, ◌∙◌, subst}
use mathlib.Core.Logic.{⊎_elim}
use mathlib.Core.Bool.{Bool, true, false, ◌&&◌, cond}
use mathlib.Core.List.{List}
use lib.Dec.{ltb}
use lib.ListN.{length, get_or}
use borrow.Author.Tests.{ltb-true, lt-ltb, le-ltb, ne_eqb}
use Rattle.lists.proofs.Tests.{and_l, and_r, and_intro, no_true, implies_intro, implies_elim, both_ways, cannot_pass}
use Rattle.lists.proofs.Everywhere.{all_at_intro, all_at_elim}
use Rattle.tables.specs.declared.{Name.Name, Ticket.Ticket, Tables.Tables}
use Rattle.tables.specs.Names.{no_name, is_none, free}
use Rattle.tables.specs.Lookup.{lookup}
use Rattle.tables.specs.Chains.{parent_by, parent_of, end_of}
use Rattle.tables.specs.Order.{parent_ok, t3}
use Rattle.tables.specs.Order as order
use Rattle.tables.proofs.KindLaws.{live_child, live_grant, live_head, child_head, child_grant, grant_sort, up_child, head_up}
use Rattle.image_places.specs.Walk.{parent_at, has_parent, end_from}
use Rattle.image_places.specs.Places.{placed, name_at, place_in, Flattened, Numbered}
use Rattle.image_places.proofs.Laws.{every_placed, placed_every, lookup_place, place_found, live_place, name_place}
use Rattle.order_lists.specs.Listing.{TicketsListed}
use Rattle.order_lists.proofs.Laws.{none_listed}
use Rattle.order_children.specs.Parts.{child_ok, children_ok, Ups, heads_ok}
use Rattle.order_children.proofs.Children.{headed}
use Rattle.tables.specs.Kinds.{is_live, is_grant, is_head, is_child}

-- ---- one step of the two walks
end_here : (left : ℕ) (parent : Name → Name) (n : Name) → is_none (parent n) ≡ true → end_of (suc left) parent n ≡ n
unfolding end_of
end_here left parent n e = rw e

end_up : (left : ℕ) (parent : Name → Name) (n : Name) → is_none (parent n) ≡ false → end_of (suc left) parent n ≡ end_of left parent (parent n)
unfolding end_of
end_up left parent n e = rw e

from_here : (left : ℕ) (up : List ℕ) (p : ℕ) → has_parent up p ≡ false → end_from (suc left) up p ≡ p
unfolding end_from
from_here left up p e = rw e

from_up : (left : ℕ) (up : List ℕ) (p : ℕ) → has_parent up p ≡ true → end_from (suc left) up p ≡ end_from left up (parent_at up p)
unfolding end_from
from_up left up p e = rw e

module _ (t : Tables) (tickets : List Ticket) (lasts numbers : List ℕ) (flat : Flattened t tickets lasts) (ix : Numbered t numbers) where
  abbrev pub ticket : ℕ → Ticket
  ticket p = placed t p

  abbrev pub name : ℕ → Name
  name p = name_at p (ticket p)

  -- a live ticket is what its name finds
  found : (p : ℕ) → p < 256 → is_live (ticket p).kind ≡ true → lookup t (name p) ≡ ticket p
  found p h l = lookup_place t numbers ix (name p) ∙ ap (placed t) (name_place t numbers ix p h l)

  -- ---- parents
  -- what the tests of T3 say of the child at p, but for its chain
  pub record Parent (p : ℕ) : Type 0 where
    pub low : place_in numbers (ticket p).other < 256
    pub ok : parent_ok (name p) (ticket p) (ticket (place_in numbers (ticket p).other)) ≡ true

  abbrev pub Parents : Type 0
  Parents = (p : ℕ) → p < 256 → is_child (ticket p).kind ≡ true → Parent p

  pub parents_say : children_ok tickets numbers ≡ true → Parents
  unfolding children_ok child_ok
  parents_say e p h c =
      let at = all_at_elim free (child_ok tickets numbers) tickets e p (omega (arith, h, flat.long)) in
      let at' : child_ok tickets numbers p (ticket p) ≡ true = subst (λ (k : Ticket). child_ok tickets numbers p k ≡ true) (flat.same p h) at in
      let q = place_in numbers (ticket p).other in
      let both = implies_elim (is_child (ticket p).kind) (ltb q 256 && parent_ok (name p) (ticket p) (get_or tickets q free)) at' c in
      let low = ltb-true q 256 (and_l (ltb q 256) _ both) in
      record {
        low = low;
        ok = subst (λ (k : Ticket). parent_ok (name p) (ticket p) k ≡ true) (flat.same q low) (and_r (ltb q 256) _ both);
      }

  parents_test : Parents → children_ok tickets numbers ≡ true
  unfolding children_ok child_ok
  parents_test h =
      all_at_intro free (child_ok tickets numbers) tickets
      (λ p b. let b' : p < 256 = subst (λ (m : ℕ). p < m) flat.long b in
      subst (λ (k : Ticket). child_ok tickets numbers p k ≡ true) (sym (flat.same p b'))
      (implies_intro (is_child (ticket p).kind) _ (λ c. at p (h p b' c))))
    where
      at : (p : ℕ) → Parent p → (ltb (place_in numbers (ticket p).other) 256 && parent_ok (name p) (ticket p) (get_or tickets (place_in numbers (ticket p).other) free)) ≡ true
      at p w =
          and_intro (lt-ltb (place_in numbers (ticket p).other) 256 w.low)
          (subst (λ (k : Ticket). parent_ok (name p) (ticket p) k ≡ true) (sym (flat.same (place_in numbers (ticket p).other) w.low)) w.ok)

  parent_grant : (n : Name) (k p : Ticket) → parent_ok n k p ≡ true → is_grant p.kind ≡ true
  unfolding parent_ok
  parent_grant n k p e = search (and_l, and_r) depth 8

  -- T3 gives every child its parent's place: what is not there is no grant
  rule_parents : t3 t ≡ true → Parents
  unfolding t3 order.child_ok
  rule_parents e p h c =
      let w = every_placed t ix.sized is_child (order.child_ok t) e p h c in
      let q = place_in numbers (ticket p).other in
      let ok : parent_ok (name p) (ticket p) (ticket q) ≡ true
      = subst (λ (k : Ticket). parent_ok (name p) (ticket p) k ≡ true) (lookup_place t numbers ix (ticket p).other) (and_l _ _ w) in
      let g = parent_grant (name p) (ticket p) (ticket q) ok in
      record {
        low = live_place t numbers ix (ticket p).other (subst (λ (k : Ticket). is_live k.kind ≡ true) (sym (lookup_place t numbers ix (ticket p).other)) (live_grant (ticket q).kind g));
        ok = ok;
      }

  pub parents_missing : false ≡ children_ok tickets numbers → false ≡ t3 t
  parents_missing e = sym (cannot_pass (t3 t) (λ w. no_true (e ∙ parents_test (rule_parents w))))

  -- ---- chains
  module _ (up : List ℕ) (ups : Ups tickets numbers up) (parents : Parents) where
    abbrev parent : Name → Name
    parent = parent_of (lookup t)

    -- no ticket has the number 0
    no_name_lem : is_head (lookup t no_name).kind ≡ false
    no_name_lem = cannot_pass _ (λ h. dead (live_head (lookup t no_name).kind h))
      where
        dead : is_live (lookup t no_name).kind ≡ true → ⊥
        dead l =
            let low = live_place t numbers ix no_name l in
            let w = place_found t numbers ix no_name low in
            let z : (ticket (place_in numbers no_name)).number ≡ 0 = ap (λ (n : Name). n.number) w.name in
            omega (arith, z, ix.low (place_in numbers no_name) low w.live)

    up_at : (p : ℕ) → p < 256 → parent_at up p ≡ cond (is_child (ticket p).kind) (place_in numbers (ticket p).other) 256
    up_at p h = ups.at p h ∙ ap (λ (k : Ticket). cond (is_child k.kind) (place_in numbers k.other) 256) (flat.same p h)

    -- the two walks from the grant at p come to a head, or run out of places, together
    abbrev Together : ℕ → ℕ → Type 0
    Together left p = is_head (lookup t (end_of left parent (name p))).kind ≡ ltb (end_from left up p) 256

    no_places : (p : ℕ) → Together 0 p
    unfolding end_of end_from
    no_places p = no_name_lem ∙ sym (le-ltb (length up) 256 (omega (arith, ups.long)))

    at_head : (left p : ℕ) → p < 256 → is_head (ticket p).kind ≡ true → Together (suc left) p
    at_head left p h e =
        let f = found p h (live_head (ticket p).kind e) in
        let z : is_none (parent (name p)) ≡ true
        = subst (λ (k : Ticket). is_none (parent_by k.kind (name p) k) ≡ true) (sym f) (head_up (ticket p).kind (name p) (ticket p) e) in
        let n : is_child (ticket p).kind ≡ false = cannot_pass _ (λ c. child_head (ticket p).kind c e) in
        let u : parent_at up p ≡ 256 = up_at p h ∙ ap (λ (b : Bool). cond b (place_in numbers (ticket p).other) 256) n in
        ap (λ (m : Name). is_head (lookup t m).kind) (end_here left parent (name p) z) ∙ ap (λ (k : Ticket). is_head k.kind) f ∙ e
        ∙ sym (ap (λ (m : ℕ). ltb m 256) (from_here left up p (le-ltb (parent_at up p) (length up) (omega (arith, u, ups.long)))) ∙ lt-ltb p 256 h)

    at_child : (left p : ℕ) → p < 256 → (c : is_child (ticket p).kind ≡ true)
        → ((q : ℕ) → q < 256 → is_grant (ticket q).kind ≡ true → Together left q) → Together (suc left) p
    at_child left p h c higher =
        let f = found p h (live_child (ticket p).kind c) in
        let w = parents p h c in
        let q = place_in numbers (ticket p).other in
        let there = place_found t numbers ix (ticket p).other w.low in
        let o : parent (name p) ≡ (ticket p).other
        = subst (λ (k : Ticket). parent_by k.kind (name p) k ≡ (ticket p).other) (sym f) (up_child (ticket p).kind (name p) (ticket p) c) in
        let m : (ticket p).other.number ≡ (ticket q).number = ap (λ (n : Name). n.number) (sym there.name) in
        let z : is_none (parent (name p)) ≡ false
        = ap is_none o ∙ ne_eqb (ticket p).other.number 0 (λ y. omega (arith, y, m, ix.low q w.low there.live)) in
        let u : parent_at up p ≡ q = up_at p h ∙ ap (λ (b : Bool). cond b q 256) c in
        ap (λ (n : Name). is_head (lookup t n).kind) (end_up left parent (name p) z ∙ ap (end_of left parent) (o ∙ sym there.name))
        ∙ higher q w.low (parent_grant (name p) (ticket p) (ticket q) w.ok)
        ∙ sym (ap (λ (x : ℕ). ltb x 256) (from_up left up p (lt-ltb (parent_at up p) (length up) (omega (arith, u, ups.long, w.low))) ∙ ap (end_from left up) u))

    together : (left p : ℕ) → p < 256 → is_grant (ticket p).kind ≡ true → Together left p
    together zero p h g = no_places p
    together (suc left) p h g = ⊎_elim (at_head left p h) (λ c. at_child left p h c (together left)) (grant_sort (ticket p).kind g)

    -- ---- T3
    heads_say : heads_ok tickets up ≡ true → (p : ℕ) → p < 256 → headed up p (ticket p) ≡ true
    unfolding heads_ok
    heads_say e p h =
        subst (λ (k : Ticket). headed up p k ≡ true) (flat.same p h) (all_at_elim free (headed up) tickets e p (omega (arith, h, flat.long)))

    heads_from : ((p : ℕ) → p < 256 → headed up p (ticket p) ≡ true) → heads_ok tickets up ≡ true
    unfolding heads_ok
    heads_from h =
        all_at_intro free (headed up) tickets
        (λ p b. let b' : p < 256 = subst (λ (m : ℕ). p < m) flat.long b in subst (λ (k : Ticket). headed up p k ≡ true) (sym (flat.same p b')) (h p b'))

    child_ok_lem : (p : ℕ) → p < 256 → is_child (ticket p).kind ≡ true → ltb (end_from 64 up p) 256 ≡ true → order.child_ok t (name p) (ticket p) ≡ true
    unfolding order.child_ok
    child_ok_lem p h c e =
        and_intro
        (subst (λ (k : Ticket). parent_ok (name p) (ticket p) k ≡ true) (sym (lookup_place t numbers ix (ticket p).other)) (parents p h c).ok)
        (together 64 p h (child_grant (ticket p).kind c) ∙ e)

    child_head_reached : t3 t ≡ true → (p : ℕ) → p < 256 → is_child (ticket p).kind ≡ true → ltb (end_from 64 up p) 256 ≡ true
    unfolding t3 order.child_ok
    child_head_reached e p h c =
        sym (together 64 p h (child_grant (ticket p).kind c)) ∙ and_r (parent_ok (name p) (ticket p) (lookup t (ticket p).other)) _ (every_placed t ix.sized is_child (order.child_ok t) e p h c)

    rule_from : ((p : ℕ) → p < 256 → is_child (ticket p).kind ≡ true → order.child_ok t (name p) (ticket p) ≡ true) → t3 t ≡ true
    unfolding t3
    rule_from h = placed_every t ix.sized is_child (order.child_ok t) h

    pub heads_decide : heads_ok tickets up ≡ t3 t
    heads_decide = both_ways (heads_ok tickets up) (t3 t) rule tests
      where
        child : (p : ℕ) → p < 256 → is_child (ticket p).kind ≡ true → headed up p (ticket p) ≡ true → order.child_ok t (name p) (ticket p) ≡ true
        child p h c e = child_ok_lem p h c (implies_elim (is_child (ticket p).kind) _ e c)

        rule : heads_ok tickets up ≡ true → t3 t ≡ true
        rule e = rule_from (λ p h c. child p h c (heads_say e p h))

        tests : t3 t ≡ true → heads_ok tickets up ≡ true
        tests e = heads_from (λ p h. implies_intro (is_child (ticket p).kind) _ (λ c. child_head_reached e p h c))

  -- ---- no child
  pub no_children : (places : List ℕ) → TicketsListed (λ k. is_child k.kind) tickets places → length places ≡ 0 → true ≡ t3 t
  unfolding t3
  no_children places listed z =
      sym
      (placed_every t ix.sized is_child (order.child_ok t)
      (λ p h c. absurd
      (none_listed free (λ k. is_child k.kind) tickets 256 places (length places) listed z p h (ap (λ (k : Ticket). is_child k.kind) (flat.same p h) ∙ c))))
