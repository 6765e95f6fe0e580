-- What two alike states have in common: the group's tickets and entries but for their first sheet, its free places, and what its tickets
-- and entries reach. And the relation may change sides.
use Prim.Native.Nat.{ℕ, suc, ◌<◌}
use native.Mathlib.Omega.{arith}
use mathlib.Core.Path.{◌≡◌, refl, sym, ap, ◌∙◌}
use mathlib.Core.Bool.{Bool, true, false, ◌||◌, cond}
use mathlib.Core.List.{List, [], ◌∷◌, map}
use lib.ListN.{get_or, get_or-map}
use Rattle.lists.specs.Lists.{first_index, some}
use Rattle.lists.proofs.Tests.{cannot_fail, contradiction, both_ways}
use Rattle.tables.specs.declared.{Name.Name, Kind.Kind, Ticket.Ticket, Program.Program, Entry.Entry}
use Rattle.tables.specs.declared.Kind.TheVariants.{Free, Taken, Received, Child, Recall}
use Rattle.tables.specs.Names.{is_none, free}
use Rattle.tables.specs.Lookup.{tickets_of, has_number, ticket_in, lookup, entry_of}
use Rattle.tables.specs.Chains.{parent_by, parent_of, at_or_under, entry_parent, at_or_below}
use Rattle.tables.specs.Order.{under_store}
use Rattle.tables.specs.Change.{is_free, has_place}
use Rattle.machine.specs.State.{State}
use Rattle.machine.specs.Sequence.{Group}
use Rattle.machine.specs.Isolation.{owns}
use Rattle.preservation.proofs.AfterChange.{lookup_programs, no_entry_there}
use Rattle.tables.proofs.Links.{reaches_same}
use Rattle.preservation.proofs.ChainSteps.{entry_fits_lem}
use Rattle.preservation.proofs.LentAway.{lent_away_lem, lent_from}
use Rattle.machine.specs.Recall.{lent_away}
use Rattle.isolation.specs.Alike.{blur, blur_entry, Mine, Alike, Quiet, sheet_in, Parted}
use Rattle.isolation.proofs.Sides.{parent_side, dock_side, lender_side}
use Rattle.tables.specs.Kinds.{is_grant, is_recall}

-- a sheet of the group's is a sheet of the store
pub mine_low : (g : Group) (s : State) → Parted g s → {n : Name} {a : ℕ} → Mine g s.tables n a → sheet_in s.tables n a < 256
mine_low g s p {n} m = omega (arith, entry_fits_lem s.tables p.dock.tables n m.live, m.low)

-- ---- tests and searches that do not look at the first sheet
first_blur : (f : Ticket → Bool) → ((k : Ticket) → f (blur k) ≡ f k) → (l : List Ticket) → first_index f (map blur l) ≡ first_index f l
unfolding first_index
first_blur f e [] = refl
first_blur f e (x ∷ xs) = λ i. cond (e x i) 0 (suc (first_blur f e xs i))

some_blur : (f : Ticket → Bool) → ((k : Ticket) → f (blur k) ≡ f k) → (l : List Ticket) → some f (map blur l) ≡ some f l
unfolding some
some_blur f e [] = refl
some_blur f e (x ∷ xs) = λ i. e x i || some_blur f e xs i

number_blur : (m : ℕ) (k : Ticket) → has_number m (blur k) ≡ has_number m k
unfolding has_number
number_blur m k = refl

free_blur : (k : Ticket) → is_free (blur k) ≡ is_free k
unfolding is_free
free_blur k = refl

find_blur : (ts : List Ticket) (m : ℕ) → ticket_in (map blur ts) m ≡ blur (ticket_in ts m)
unfolding ticket_in
find_blur ts m =
    ap (λ (i : ℕ). get_or (map blur ts) i free) (first_blur (has_number m) (number_blur m) ts) ∙ get_or-map blur ts (first_index (has_number m) ts) free

pub place_blur : (ts us : List Ticket) → map blur ts ≡ map blur us → first_index is_free ts ≡ first_index is_free us
place_blur ts us e = sym (first_blur is_free free_blur ts) ∙ ap (first_index is_free) e ∙ first_blur is_free free_blur us

parent_blur : (k : Kind) (n : Name) (t : Ticket) → parent_by k n (blur t) ≡ parent_by k n t
parent_blur Free n t = refl
parent_blur Taken n t = refl
parent_blur Received n t = refl
parent_blur Child n t = refl
parent_blur Recall n t = refl

module _ (g : Group) (s u : State) (al : Alike g s u) where
  -- ---- the group's tickets
  same_ticket : (n : Name) → owns g n ≡ true → blur (lookup s.tables n) ≡ blur (lookup u.tables n)
  unfolding lookup
  same_ticket n h =
      sym (find_blur (tickets_of s.tables n.pad n.program) n.number)
      ∙ ap (λ (l : List Ticket). ticket_in l n.number) (al.tickets n.pad n.program h)
      ∙ find_blur (tickets_of u.tables n.pad n.program) n.number

  pub same_kind : (n : Name) → owns g n ≡ true → (lookup s.tables n).kind ≡ (lookup u.tables n).kind
  same_kind n h = ap (λ (k : Ticket). k.kind) (same_ticket n h)

  pub same_other : (n : Name) → owns g n ≡ true → (lookup s.tables n).other ≡ (lookup u.tables n).other
  same_other n h = ap (λ (k : Ticket). k.other) (same_ticket n h)

  pub same_count : (n : Name) → owns g n ≡ true → (lookup s.tables n).count ≡ (lookup u.tables n).count
  same_count n h = ap (λ (k : Ticket). k.count) (same_ticket n h)

  pub same_rights : (n : Name) → owns g n ≡ true → (lookup s.tables n).rights ≡ (lookup u.tables n).rights
  same_rights n h = ap (λ (k : Ticket). k.rights) (same_ticket n h)

  pub same_dock : (n : Name) → owns g n ≡ true → (lookup s.tables n).dock ≡ (lookup u.tables n).dock
  same_dock n h = ap (λ (k : Ticket). k.dock) (same_ticket n h)

  same_parent : (n : Name) → owns g n ≡ true → parent_of (lookup s.tables) n ≡ parent_of (lookup u.tables) n
  same_parent n h =
      sym (parent_blur (lookup s.tables n).kind n (lookup s.tables n)) ∙ ap (λ (k : Ticket). parent_by k.kind n k) (same_ticket n h)
      ∙ parent_blur (lookup u.tables n).kind n (lookup u.tables n)

  pub same_place : (p q : ℕ) → g p q ≡ true → has_place s.tables p q ≡ has_place u.tables p q
  unfolding has_place
  same_place p q h =
      sym (some_blur is_free free_blur (tickets_of s.tables p q)) ∙ ap (some is_free) (al.tickets p q h)
      ∙ some_blur is_free free_blur (tickets_of u.tables p q)

  -- ---- the group's entries
  pub same_live : (n : Name) → owns g n ≡ true → (entry_of s.tables n).live ≡ (entry_of u.tables n).live
  same_live n h = ap (λ (e : Entry). e.live) (al.entries n h)

  pub same_entry_count : (n : Name) → owns g n ≡ true → (entry_of s.tables n).count ≡ (entry_of u.tables n).count
  same_entry_count n h = ap (λ (e : Entry). e.count) (al.entries n h)

  same_entry_parent : (n : Name) → owns g n ≡ true → (entry_of s.tables n).parent ≡ (entry_of u.tables n).parent
  same_entry_parent n h = ap (λ (e : Entry). e.parent) (al.entries n h)

  -- a sheet of the group's here is one there
  pub mine_there : {n : Name} {a : ℕ} → Mine g s.tables n a → Mine g u.tables n a
  mine_there {n} m = record {
    own = m.own;
    live = sym (same_live n m.own) ∙ m.live;
    low = rw (same_entry_count n m.own) at m.low;
  }

  mine_here : {n : Name} {a : ℕ} → Mine g u.tables n a → Mine g s.tables n a
  mine_here {n} m = record { own = m.own; live = same_live n m.own ∙ m.live; low = rw (same_entry_count n m.own) m.low }

  -- ---- what the group's tickets and entries reach
  pub under_same : (x n : Name) → owns g n ≡ true → at_or_under s.tables x n ≡ at_or_under u.tables x n
  under_same x n h =
      reaches_same (parent_of (lookup s.tables)) (parent_of (lookup u.tables)) (λ m. owns g m ≡ true) (λ m o. ap is_none (same_parent m o))
      (λ m o z. (same_parent m o, parent_side g s.tables al.here.dock.tables al.here.unlinked m z ∙ o)) x 64 n h

  pub below_same : (x n : Name) → owns g n ≡ true → at_or_below s.tables x n ≡ at_or_below u.tables x n
  below_same x n h =
      reaches_same (entry_parent (entry_of s.tables)) (entry_parent (entry_of u.tables)) (λ m. owns g m ≡ true) (λ m o. ap is_none (same_entry_parent m o))
      (λ m o z. (same_entry_parent m o, al.here.unlinked.entry m (linked_live m z) z ∙ o)) x 256 n h
    where
      linked_live : (m : Name) → under_store (entry_of s.tables m) ≡ false → (entry_of s.tables m).live ≡ true
      linked_live m z = cannot_fail (entry_of s.tables m).live (λ l. contradiction (ap under_store (no_entry_there s.tables m l)) z)

  -- ---- the relation changes sides
  pub alike_sym : Alike g u s
  alike_sym = record {
    here = al.there;
    there = al.here;
    lasts = λ p q h. sym (al.lasts p q h);
    tickets = λ p q h. sym (al.tickets p q h);
    entries = λ n h. sym (al.entries n h);
    offset = λ n h k l.
        let e = same_dock n h in
        let k₀ : is_grant (lookup s.tables n).kind ≡ true = ap is_grant (same_kind n h) ∙ k in
        let o : owns g (lookup s.tables n).dock ≡ true = dock_side g s.tables al.here.dock.tables al.here.unlinked n k₀ ∙ h in
        let l₀ : (entry_of s.tables (lookup s.tables n).dock).live ≡ true = same_live (lookup s.tables n).dock o ∙ ap (λ (m : Name). (entry_of u.tables m).live) e ∙ l in
        rw (sym e) (sym (al.offset n h k₀ l₀));
    overlap = λ n m a b x y. let o = al.overlap n m a b (mine_here x) (mine_here y) in (o.1, o.0);
    bytes = λ n a x. sym (al.bytes n a (mine_here x));
  }

-- ---- a step that the group does not notice keeps two states alike
-- what was lent away from the tickets that go is the same on both sides
lent_there : (g : Group) (s u : State) → Alike g s u → (gone gone₂ : Name → Bool) → ((n : Name) → owns g n ≡ true → gone n ≡ gone₂ n)
    → (n : Name) → owns g n ≡ true → lent_away s.tables gone n ≡ true → lent_away u.tables gone₂ n ≡ true
lent_there g s u al gone gone₂ agree n o e =
    let f = lent_from s.tables al.here.dock.tables gone n e in
    let own : owns g f.by ≡ true = lender_side g s.tables al.here.dock.tables al.here.unlinked gone n o f in
    let target = same_other g s u al f.by own in
    lent_away_lem u.tables al.there.dock.tables gone₂ n
    (record {
      by = f.by;
      recall = ap is_recall (sym (same_kind g s u al f.by own)) ∙ f.recall;
      goes = sym (agree f.by own) ∙ f.goes;
      away = λ p. f.away (ap (λ (m : Name). m.pad) target ∙ p);
      below = ap (λ (x : Name). at_or_below u.tables x n) (sym target) ∙ sym (below_same g s u al _ n o) ∙ f.below;
    })

pub lent_same : (g : Group) (s u : State) → Alike g s u → (gone gone₂ : Name → Bool) → ((n : Name) → owns g n ≡ true → gone n ≡ gone₂ n)
    → (n : Name) → owns g n ≡ true → lent_away s.tables gone n ≡ lent_away u.tables gone₂ n
lent_same g s u al gone gone₂ agree n o =
    both_ways (lent_away s.tables gone n) (lent_away u.tables gone₂ n) (lent_there g s u al gone gone₂ agree n o)
    (lent_there g u s (alike_sym g s u al) gone₂ gone (λ m h. sym (agree m h)) n o)

module _ (g : Group) (s s' u : State) (al : Alike g s u) (q : Quiet g s s') where
  ticket_kept : (n : Name) → owns g n ≡ true → lookup s'.tables n ≡ lookup s.tables n
  ticket_kept n h = lookup_programs s.tables s'.tables n (q.programs n.pad n.program h)

  mine_before : {n : Name} {a : ℕ} → Mine g s'.tables n a → Mine g s.tables n a
  mine_before {n} m = let c = q.entries n m.own in record { own = m.own; live = rw c at m.live; low = rw c at m.low }

  pub quiet_left : Alike g s' u
  quiet_left = record {
    here = q.after;
    there = al.there;
    lasts = λ p r h. ap (λ (x : Program). x.last) (q.programs p r h) ∙ al.lasts p r h;
    tickets = λ p r h. ap (λ (x : Program). map blur x.tickets) (q.programs p r h) ∙ al.tickets p r h;
    entries = λ n h. ap blur_entry (q.entries n h) ∙ al.entries n h;
    offset = λ n h gr l.
        let a = ticket_kept n h in
        let gr₀ : is_grant (lookup s.tables n).kind ≡ true = rw a at gr in
        let d : owns g (lookup s.tables n).dock ≡ true = dock_side g s.tables al.here.dock.tables al.here.unlinked n gr₀ ∙ h in
        let b = q.entries (lookup s.tables n).dock d in
        let l₀ : (entry_of s'.tables (lookup s.tables n).dock).live ≡ true = rw a at l in
        rw (a, b) (al.offset n h gr₀ (rw b at l₀));
    overlap = λ n m a b x y. rw (q.entries n x.own, q.entries m y.own) (al.overlap n m a b (mine_before x) (mine_before y));
    bytes = λ n a x. rw (q.entries n x.own) (q.bytes n a (mine_before x) ∙ al.bytes n a (mine_before x));
  }
