-- The same change on both sides keeps two states alike: the same bytes put at the same offset of an entry, and the same tickets and
-- entries removed.
use Prim.Native.Nat.{ℕ, ◌+◌, ◌*◌, ◌-◌, ◌≤◌, ◌<◌}
use native.Mathlib.Omega.{arith}
use mathlib.Core.Path.{◌≡◌, refl, sym, ap, ◌∙◌, subst}
use mathlib.Core.Logic.{◌⊎◌, inl, inr}
use mathlib.Core.Bool.{Bool, true, false, ◌&&◌, cond}
use mathlib.Core.List.{List, [], ◌∷◌, map}
use lib.Dec.{ltb}
use lib.ListN.{length}
use borrow.Author.Tests.{ltb-true, ltb-false}
use Rattle.lists.proofs.Tests.{Case, pass, fail, case}
use Rattle.tables.specs.declared.{Name.Name, Ticket.Ticket, Tables.Tables}
use Rattle.tables.specs.Names.{name_of, free, no_entry}
use Rattle.tables.specs.Lookup.{tickets_of, lookup, entry_of}
use Rattle.tables.specs.Change.{drop_ticket, drop_tickets}
use Rattle.tables.proofs.KindLaws.{live_grant}
use Rattle.machine.specs.State.{State, with_tables, sheet_at, put_sheets}
use Rattle.machine.specs.Sequence.{Group}
use Rattle.machine.specs.Isolation.{owns}
use Rattle.preservation.specs.InOrder.{DockOk}
use Rattle.preservation.proofs.AfterChange.{removed, lookup_removed, entry_removed, last_removed, tickets_removed}
use Rattle.preservation.proofs.ChainSteps.{entry_fits_lem}
use Rattle.tables.proofs.Keys.{drop_no_entry}
use Rattle.preservation.proofs.StoreSheets.{length_put, sheet_kept, sheet_put}
use Rattle.isolation.specs.Alike.{blur, blur_entry, Mine, sheet_in, Alike}
use Rattle.isolation.proofs.Sides.{dock_side}
use Rattle.isolation.proofs.AlikeFacts.{mine_there, mine_low, same_live, same_entry_count}
use Rattle.isolation.proofs.UnlinkedKept.{removed_ticket, removed_entry, unlinked_removed}
use Rattle.tables.specs.Kinds.{is_live, is_grant}

-- ---- the same bytes vs, c sheets of them, put at the offset o of the entry d
module _ (g : Group) (s u : State) (al : Alike g s u) (d : Name) (own : owns g d ≡ true) (live : (entry_of s.tables d).live ≡ true)
    (o c : ℕ) (vs : List ℕ) (len : length vs ≡ 64 * c) (room : o + c ≤ (entry_of s.tables d).count) where
  -- sheet b of those written is a sheet of the entry's
  written : {b : ℕ} → b < c → Mine g s.tables d (o + b)
  written h = record { own = own; live = live; low = omega arith }

  abbrev f₁ : ℕ
  f₁ = sheet_in s.tables d o

  abbrev f₂ : ℕ
  f₂ = sheet_in u.tables d o

  fits₁ : f₁ + c ≤ 256
  fits₁ = omega (arith, entry_fits_lem s.tables al.here.dock.tables d live)

  fits₂ : f₂ + c ≤ 256
  fits₂ = omega (arith, entry_fits_lem u.tables al.there.dock.tables d (sym (same_live g s u al d own) ∙ live), same_entry_count g s u al d own)

  abbrev after₁ : State
  after₁ = record { tables = s.tables; store = put_sheets f₁ vs s.store; sheet = s.sheet }

  abbrev after₂ : State
  after₂ = record { tables = u.tables; store = put_sheets f₂ vs u.store; sheet = u.sheet }

  module _ (n : Name) (a : ℕ) (m : Mine g s.tables n a) where
    abbrev i₁ : ℕ
    i₁ = sheet_in s.tables n a

    abbrev i₂ : ℕ
    i₂ = sheet_in u.tables n a

    abbrev Same : Type 0
    Same = sheet_at i₁ after₁.store ≡ sheet_at i₂ after₂.store

    -- beside what is written on both sides
    kept : (i₁ < f₁) ⊎ (f₁ + c ≤ i₁) → (i₂ < f₂) ⊎ (f₂ + c ≤ i₂) → Same
    kept x y =
        sheet_kept f₁ c vs s.store al.here.dock.store len fits₁ i₁ (mine_low g s al.here m) x ∙ al.bytes n a m
        ∙ sym (sheet_kept f₂ c vs u.store al.there.dock.store len fits₂ i₂ (mine_low g u al.there (mine_there g s u al m)) y)

    -- within what is written: the same sheet of it on both sides
    put : (b : ℕ) → b < c → i₁ ≡ f₁ + b → Same
    put b h e =
        let e₂ : i₂ ≡ sheet_in u.tables d (o + b) = (al.overlap n d a (o + b) m (written h)).0 (omega arith) in
        ap (λ (i : ℕ). sheet_at i after₁.store) e ∙ sheet_put f₁ c vs s.store al.here.dock.store len fits₁ b h
        ∙ sym (ap (λ (i : ℕ). sheet_at i after₂.store) (omega arith) ∙ sheet_put f₂ c vs u.store al.there.dock.store len fits₂ b h)

    -- what is within there is within here
    back : (b : ℕ) → b < c → i₂ ≡ f₂ + b → i₁ ≡ f₁ + b
    back b h e = let e₁ : i₁ ≡ sheet_in s.tables d (o + b) = (al.overlap n d a (o + b) m (written h)).1 (omega arith) in omega arith

    data Where (i f : ℕ) : Type 0 where
      out : (i < f) ⊎ (f + c ≤ i) → Where i f
      in_at : (b : ℕ) → b < c → i ≡ f + b → Where i f

    find : (i f : ℕ) → Where i f
    find i f = go (case (ltb i f)) (case (ltb i (f + c)))
      where
        go : Case (ltb i f) → Case (ltb i (f + c)) → Where i f
        go (pass x) _ = out (inl (ltb-true i f x))
        go (fail x) (fail y) = out (inr (ltb-false i (f + c) y))
        go (fail x) (pass y) =
            let p : f ≤ i = ltb-false i f x in
            let q : i < f + c = ltb-true i (f + c) y in
            in_at (i - f) (omega arith) (omega arith)

    put_bytes : Same
    put_bytes = go (find i₁ f₁) (find i₂ f₂)
      where
        go : Where i₁ f₁ → Where i₂ f₂ → Same
        go (in_at b h e) _ = put b h e
        go (out x) (in_at b h e) = put b h (back b h e)
        go (out x) (out y) = kept x y

  pub alike_put : Alike g after₁ after₂
  alike_put = record {
    here = record { dock = record { tables = al.here.dock.tables; store = length_put f₁ c vs s.store al.here.dock.store len fits₁ }; unlinked = al.here.unlinked };
    there = record { dock = record { tables = al.there.dock.tables; store = length_put f₂ c vs u.store al.there.dock.store len fits₂ }; unlinked = al.there.unlinked };
    lasts = al.lasts;
    tickets = al.tickets;
    entries = al.entries;
    offset = al.offset;
    overlap = al.overlap;
    bytes = put_bytes;
  }

-- ---- the same tickets and entries removed
drop_blur : (gone : Name → Bool) (p q : ℕ) (k : Ticket) → blur (drop_ticket gone p q k) ≡ drop_ticket gone p q (blur k)
unfolding drop_ticket
drop_blur gone p q k = go (case (is_live k.kind && gone (name_of p q k.number)))
  where
    go : Case (is_live k.kind && gone (name_of p q k.number))
        → blur (cond (is_live k.kind && gone (name_of p q k.number)) free k) ≡ cond (is_live k.kind && gone (name_of p q k.number)) free (blur k)
    go (pass e) = rw e
    go (fail e) = rw e

drop_agree : (gone gone₂ : Name → Bool) (p q : ℕ) → ((m : ℕ) → gone (name_of p q m) ≡ gone₂ (name_of p q m)) → (k : Ticket) → drop_ticket gone p q k ≡ drop_ticket gone₂ p q k
unfolding drop_ticket
drop_agree gone gone₂ p q e k = rw (e k.number)

map_drop : (gone gone₂ : Name → Bool) (p q : ℕ) → ((m : ℕ) → gone (name_of p q m) ≡ gone₂ (name_of p q m)) → (l : List Ticket)
    → map blur (map (drop_ticket gone p q) l) ≡ map (drop_ticket gone₂ p q) (map blur l)
map_drop gone gone₂ p q e [] = refl
map_drop gone gone₂ p q e (x ∷ xs) = λ j. (drop_blur gone p q x ∙ drop_agree gone gone₂ p q e (blur x)) j ∷ map_drop gone gone₂ p q e xs j

module _ (g : Group) (s u : State) (al : Alike g s u) (gone cut gone₂ cut₂ : Name → Bool)
    (agree : (n : Name) → owns g n ≡ true → gone n ≡ gone₂ n) (cuts : (n : Name) → owns g n ≡ true → cut n ≡ cut₂ n) where
  abbrev t₁ : Tables
  t₁ = removed gone cut s.tables

  abbrev t₂ : Tables
  t₂ = removed gone₂ cut₂ u.tables

  ticket₂ : (n : Name) → gone₂ n ≡ false → lookup t₂ n ≡ lookup u.tables n
  ticket₂ n e = lookup_removed gone₂ cut₂ u.tables n ∙ rw e

  entry₂ : (n : Name) → cut₂ n ≡ false → entry_of t₂ n ≡ entry_of u.tables n
  entry₂ n e = entry_removed gone₂ cut₂ u.tables n ∙ rw e

  -- a live entry of the group's is the one that it was, on both sides
  entry_both : (n : Name) → owns g n ≡ true → (entry_of t₁ n).live ≡ true → (entry_of t₁ n ≡ entry_of s.tables n) × (entry_of t₂ n ≡ entry_of u.tables n)
  entry_both n h l =
      let e = removed_entry gone cut s.tables n l in
      (e.1, entry₂ n (sym (cuts n h) ∙ e.0))

  mine_before : {n : Name} {a : ℕ} → Mine g t₁ n a → Mine g s.tables n a
  mine_before {n} m = let e = (entry_both n m.own m.live).0 in record { own = m.own; live = rw e at m.live; low = rw e at m.low }

  entries_agree : (n : Name) → owns g n ≡ true → Case (cut n) → blur_entry (entry_of t₁ n) ≡ blur_entry (entry_of t₂ n)
  entries_agree n h (pass e) =
      let x : entry_of t₁ n ≡ no_entry = entry_removed gone cut s.tables n ∙ rw e in
      let y : entry_of t₂ n ≡ no_entry = entry_removed gone₂ cut₂ u.tables n ∙ rw (sym (cuts n h) ∙ e) in
      ap blur_entry (x ∙ sym y)
  entries_agree n h (fail e) =
      let x : entry_of t₁ n ≡ entry_of s.tables n = entry_removed gone cut s.tables n ∙ rw e in
      ap blur_entry x ∙ al.entries n h ∙ ap blur_entry (sym (entry₂ n (sym (cuts n h) ∙ e)))

  pub alike_removed : DockOk (with_tables s t₁) → DockOk (with_tables u t₂) → Alike g (with_tables s t₁) (with_tables u t₂)
  unfolding with_tables
  alike_removed dock dock₂ = record {
    here = record { dock = dock; unlinked = unlinked_removed gone cut s.tables g al.here.unlinked };
    there = record { dock = dock₂; unlinked = unlinked_removed gone₂ cut₂ u.tables g al.there.unlinked };
    lasts = λ p q h. last_removed gone cut s.tables p q ∙ al.lasts p q h ∙ sym (last_removed gone₂ cut₂ u.tables p q);
    tickets = λ p q h.
        ap (map blur) (tickets_removed gone cut s.tables p q)
        ∙ map_drop gone gone₂ p q (λ m. agree (name_of p q m) h) (tickets_of s.tables p q)
        ∙ ap (map (drop_ticket gone₂ p q)) (al.tickets p q h)
        ∙ sym (ap (map blur) (tickets_removed gone₂ cut₂ u.tables p q) ∙ map_drop gone₂ gone₂ p q (λ m. refl) (tickets_of u.tables p q));
    entries = λ n h. entries_agree n h (case (cut n));
    offset = λ n h k l.
        let a = removed_ticket gone cut s.tables n (live_grant (lookup t₁ n).kind k) in
        let a₂ = ticket₂ n (sym (agree n h) ∙ a.0) in
        let k₀ : is_grant (lookup s.tables n).kind ≡ true = rw a.1 at k in
        let l₀ : (entry_of t₁ (lookup s.tables n).dock).live ≡ true = rw a.1 at l in
        let e = entry_both (lookup s.tables n).dock (dock_side g s.tables al.here.dock.tables al.here.unlinked n k₀ ∙ h) l₀ in
        rw (a.1, a₂, e.0, e.1) (al.offset n h k₀ (rw e.0 at l₀));
    overlap = λ n m a b x y.
        let c = entry_both n x.own x.live in
        let d = entry_both m y.own y.live in
        rw (c.0, c.1, d.0, d.1) (al.overlap n m a b (mine_before x) (mine_before y));
    bytes = λ n a x. let c = entry_both n x.own x.live in rw (c.0, c.1) (al.bytes n a (mine_before x));
  }

-- the same, where no entry goes
pub alike_dropped : (g : Group) (s u : State) → Alike g s u → (gone gone₂ : Name → Bool) → ((n : Name) → owns g n ≡ true → gone n ≡ gone₂ n)
    → DockOk (with_tables s (drop_tickets gone s.tables)) → DockOk (with_tables u (drop_tickets gone₂ u.tables))
    → Alike g (with_tables s (drop_tickets gone s.tables)) (with_tables u (drop_tickets gone₂ u.tables))
alike_dropped g s u al gone gone₂ agree dock dock₂ =
    let e = drop_no_entry (drop_tickets gone s.tables) in
    let e₂ = drop_no_entry (drop_tickets gone₂ u.tables) in
    subst (λ (b : Tables). Alike g (with_tables s (drop_tickets gone s.tables)) (with_tables u b)) e₂
    (subst (λ (b : Tables). Alike g (with_tables s b) (with_tables u (removed gone₂ (λ n. false) u.tables))) e
    (alike_removed g s u al gone (λ n. false) gone₂ (λ n. false) agree (λ n o. refl)
    (subst (λ (b : Tables). DockOk (with_tables s b)) (sym e) dock) (subst (λ (b : Tables). DockOk (with_tables u b)) (sym e₂) dock₂)))
