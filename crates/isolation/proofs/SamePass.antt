-- A pass on both sides keeps two states alike: the two new names are equal on both, and the new grant lies at the same offset of the entry
-- that it comes from. To another pad the new entry is a part of an old one, at the same offset on both sides.
use Prim.Native.Nat.{ℕ, suc, ◌+◌, ◌-◌, ◌≤◌}
use native.Mathlib.Omega.{arith}
use mathlib.Core.Path.{◌≡◌, refl, sym, ap, ◌∙◌}
use mathlib.Core.Logic.{◌↔◌}
use mathlib.Core.Bool.{true}
use mathlib.Core.List.{map}
use lib.Dec.{eqb}
use borrow.Author.Tests.{eqb-true, eqb-false}
use Rattle.lists.proofs.Tests.{Case, pass, fail, case, no_true}
use Rattle.rights.specs.Rules.{rights_of}
use Rattle.tables.specs.declared.{Name.Name, Ticket.Ticket, Program.Program, Tables.Tables}
use Rattle.tables.specs.declared.Kind.TheVariants.{Received, Child}
use Rattle.tables.specs.Names.{eq_name, same_program, grant_ticket, head_ticket, recall_ticket, entry_for}
use Rattle.tables.specs.Lookup.{tickets_of, last_of, lookup, entry_of}
use Rattle.tables.proofs.NameLaws.{name_eq, eq_name_true, eq_name_ne, program_same}
use Rattle.machine.specs.declared.Request.{Request}
use Rattle.machine.specs.State.{State, with_tables, sheet_at, asked_name}
use Rattle.machine.specs.Pass.{pass_tables}
use Rattle.machine.specs.Sequence.{Group}
use Rattle.machine.specs.Isolation.{owns}
use Rattle.preservation.specs.Rules.{Inside}
use Rattle.preservation.specs.InOrder.{InOrder, DockOk}
use Rattle.preservation.proofs.ChainSteps.{dock_live, within_entry}
use Rattle.preservation.proofs.NewNames.{not_past}
use Rattle.preservation.proofs.Passing.{MayPass, recall_name, grant_name, new_recall, new_child, new_received, new_entry, Gained, PassEffect, pass_near, pass_near_entries, pass_far, pass_far_entry}
use Rattle.isolation.specs.Alike.{blur, blur_entry, Mine, sheet_in, Alike}
use Rattle.isolation.proofs.Sides.{dock_side}
use Rattle.isolation.proofs.AlikeFacts.{same_dock}
use Rattle.isolation.proofs.SameTake.{put_both}
use Rattle.isolation.proofs.UnlinkedKept.{unlinked_near, unlinked_far}
use Rattle.tables.specs.Kinds.{is_grant}

module _ (g : Group) (s u : State) (al : Alike g s u) (r : Request) (mine : g r.pad r.program ≡ true) (theirs : g r.topad r.toprogram ≡ true)
    (may : MayPass s.tables r) (may₂ : MayPass u.tables r) where
  abbrev ok : InOrder s.tables
  ok = al.here.dock.tables

  abbrev ok₂ : InOrder u.tables
  ok₂ = al.there.dock.tables

  abbrev a : Name
  a = asked_name r

  abbrev x : Name
  x = recall_name s.tables r

  abbrev y : Name
  y = grant_name s.tables r

  abbrev t₁ : Tables
  t₁ = pass_tables s.tables r

  abbrev t₂ : Tables
  t₂ = pass_tables u.tables r

  same_x : x ≡ recall_name u.tables r
  same_x = name_eq refl refl (ap suc (al.lasts r.pad r.program mine))

  same_y : y ≡ grant_name u.tables r
  same_y = name_eq refl refl (ap suc (al.lasts r.topad r.toprogram theirs))

  dock_same : (lookup s.tables a).dock ≡ (lookup u.tables a).dock
  dock_same = same_dock g s u al a mine

  tie : g r.topad r.toprogram ≡ g r.pad r.program
  tie = theirs ∙ sym mine

  like_recall : blur (new_recall s.tables r) ≡ blur (new_recall u.tables r)
  like_recall = λ i. recall_ticket (same_x i).number r.ticket (same_y i)

  -- ---- what both kinds of pass have in common; k and k₂ are the new grants
  module _ (k k₂ : Ticket) (like : blur k ≡ blur k₂) (effect : PassEffect s.tables t₁ r k) (effect₂ : PassEffect u.tables t₂ r k₂) where
    gained : (p q : ℕ) (c c₂ : Ticket) → blur c ≡ blur c₂ → Gained s.tables t₁ p q c → Gained u.tables t₂ p q c₂ → g p q ≡ true
        → (map blur (tickets_of t₁ p q) ≡ map blur (tickets_of t₂ p q)) × (last_of t₁ p q ≡ last_of t₂ p q)
    gained p q c c₂ e m m₂ h = (
      ap (map blur) m.tickets ∙ put_both (tickets_of s.tables p q) (tickets_of u.tables p q) c c₂ (al.tickets p q h) e ∙ ap (map blur) (sym m₂.tickets),
      m.last ∙ ap (λ (z : Ticket). z.number) e ∙ sym m₂.last,
    )

    programs_same : (p q : ℕ) → g p q ≡ true → Case (same_program p q r.pad r.program) → Case (same_program p q r.topad r.toprogram)
        → (map blur (tickets_of t₁ p q) ≡ map blur (tickets_of t₂ p q)) × (last_of t₁ p q ≡ last_of t₂ p q)
    programs_same p q h (pass e) _ =
        let w = program_same p q r.pad r.program e in
        rw (w.pad, w.program) (gained r.pad r.program _ _ like_recall effect.asker effect₂.asker mine)
    programs_same p q h (fail d) (pass e) =
        let w = program_same p q r.topad r.toprogram e in
        rw (w.pad, w.program) (gained r.topad r.toprogram k k₂ like effect.recipient effect₂.recipient theirs)
    programs_same p q h (fail d) (fail e) =
        let v = effect.programs p q d e in
        let w = effect₂.programs p q d e in (
          ap (λ (z : Program). map blur z.tickets) v ∙ al.tickets p q h ∙ ap (λ (z : Program). map blur z.tickets) (sym w),
          ap (λ (z : Program). z.last) v ∙ al.lasts p q h ∙ ap (λ (z : Program). z.last) (sym w),
        )

    programs_both : (p q : ℕ) → g p q ≡ true → (map blur (tickets_of t₁ p q) ≡ map blur (tickets_of t₂ p q)) × (last_of t₁ p q ≡ last_of t₂ p q)
    programs_both p q h = programs_same p q h (case (same_program p q r.pad r.program)) (case (same_program p q r.topad r.toprogram))

    -- the second side, by the first side's names
    tickets₂ : (n : Name) → (n ≡ x → ⊥) → (n ≡ y → ⊥) → lookup t₂ n ≡ lookup u.tables n
    tickets₂ n p q = effect₂.tickets n (λ z. p (z ∙ sym same_x)) (λ z. q (z ∙ sym same_y))

    entries₂ : (n : Name) → (n ≡ y → ⊥) → entry_of t₂ n ≡ entry_of u.tables n
    entries₂ n q = effect₂.entries n (λ z. q (z ∙ sym same_y))

    offset_of : ((entry_of t₁ k.dock).live ≡ true → k.first + (entry_of t₂ k.dock).first ≡ k₂.first + (entry_of t₁ k.dock).first)
        → (n : Name) → owns g n ≡ true → is_grant (lookup t₁ n).kind ≡ true → (entry_of t₁ (lookup t₁ n).dock).live ≡ true → Case (eq_name n x) → Case (eq_name n y)
        → (lookup t₁ n).first + (entry_of t₂ (lookup t₁ n).dock).first ≡ (lookup t₂ n).first + (entry_of t₁ (lookup t₁ n).dock).first
    offset_of new n h c l (pass e) _ = let z = ap (lookup t₁) (eq_name_true n x e) ∙ effect.recall in no_true (rw z at c)
    offset_of new n h c l (fail d) (pass e) =
        let q : n ≡ y = eq_name_true n y e in
        let z : lookup t₁ n ≡ k = ap (lookup t₁) q ∙ effect.grant in
        let w : lookup t₂ n ≡ k₂ = ap (lookup t₂) (q ∙ same_y) ∙ effect₂.grant in
        rw (z, w) (new (rw z at l))
    offset_of new n h c l (fail d) (fail e) =
        let z = effect.tickets n (eq_name_ne n x d) (eq_name_ne n y e) in
        let c₀ : is_grant (lookup s.tables n).kind ≡ true = rw z at c in
        let l₀ : (entry_of t₁ (lookup s.tables n).dock).live ≡ true = rw z at l in
        let v : (lookup s.tables n).dock ≡ y → ⊥
        = not_past s.tables ok y refl (lookup s.tables n).dock (dock_live s.tables ok n c₀) in
        let i = effect.entries (lookup s.tables n).dock v in
        rw (z, tickets₂ n (eq_name_ne n x d) (eq_name_ne n y e), i, entries₂ (lookup s.tables n).dock v) (al.offset n h c₀ (rw i at l₀))

  -- the asked grant's offset in the entry of its dock name
  moved : (entry_of s.tables (lookup s.tables a).dock).live ≡ true
      → (lookup s.tables a).first + (entry_of u.tables (lookup s.tables a).dock).first
      ≡ (lookup u.tables a).first + (entry_of s.tables (lookup s.tables a).dock).first
  moved = al.offset a mine may.grant

  -- ---- on the same pad
  module _ (same : r.pad ≡ r.topad) where
    like_child : blur (new_child s.tables r) ≡ blur (new_child u.tables r)
    like_child = λ i. grant_ticket Child (same_y i).number a 0 r.count (rights_of r.rights) (dock_same i)

    near : PassEffect s.tables t₁ r (new_child s.tables r)
    near = pass_near s.tables ok r may same

    near₂ : PassEffect u.tables t₂ r (new_child u.tables r)
    near₂ = pass_near u.tables ok₂ r may₂ same

    e₁ : (n : Name) → entry_of t₁ n ≡ entry_of s.tables n
    e₁ = pass_near_entries s.tables ok r may same

    e₂ : (n : Name) → entry_of t₂ n ≡ entry_of u.tables n
    e₂ = pass_near_entries u.tables ok₂ r may₂ same

    near_offset : (entry_of t₁ (lookup s.tables a).dock).live ≡ true
        → (lookup s.tables a).first + r.first + (entry_of t₂ (lookup s.tables a).dock).first
        ≡ (lookup u.tables a).first + r.first + (entry_of t₁ (lookup s.tables a).dock).first
    near_offset z =
        let w = moved (rw (e₁ (lookup s.tables a).dock) at z) in
        rw (e₁ (lookup s.tables a).dock, e₂ (lookup s.tables a).dock) (omega (arith, w))

    mine_before : {n : Name} {i : ℕ} → Mine g t₁ n i → Mine g s.tables n i
    mine_before {n} m = record { own = m.own; live = rw (e₁ n) at m.live; low = rw (e₁ n) at m.low }

    alike_near : DockOk (with_tables s t₁) → DockOk (with_tables u t₂) → Alike g (with_tables s t₁) (with_tables u t₂)
    unfolding with_tables
    alike_near dock dock₂ = record {
      here = record { dock = dock; unlinked = unlinked_near g s.tables ok al.here.unlinked r may tie same };
      there = record { dock = dock₂; unlinked = unlinked_near g u.tables ok₂ al.there.unlinked r may₂ tie same };
      lasts = λ p q h. (programs_both (new_child s.tables r) (new_child u.tables r) like_child near near₂ p q h).1;
      tickets = λ p q h. (programs_both (new_child s.tables r) (new_child u.tables r) like_child near near₂ p q h).0;
      entries = λ n h. ap blur_entry (e₁ n) ∙ al.entries n h ∙ ap blur_entry (sym (e₂ n));
      offset = λ n h k l.
          offset_of (new_child s.tables r) (new_child u.tables r) like_child near near₂ near_offset n h k l (case (eq_name n x)) (case (eq_name n y));
      overlap = λ n m i j h k. rw (e₁ n, e₁ m, e₂ n, e₂ m) (al.overlap n m i j (mine_before h) (mine_before k));
      bytes = λ n i m. rw (e₁ n, e₂ n) (al.bytes n i (mine_before m));
    }

  -- ---- to another pad
  module _ (away : r.pad ≡ r.topad → ⊥) where
    abbrev d : Name
    d = (lookup s.tables a).dock

    known : (entry_of s.tables d).live ≡ true
    known = may.known away

    own_dock : owns g d ≡ true
    own_dock = dock_side g s.tables ok al.here.unlinked a may.grant ∙ mine

    like_received : blur (new_received s.tables r) ≡ blur (new_received u.tables r)
    like_received = λ i. head_ticket Received (same_y i) 0 r.count (rights_of r.rights)

    far : PassEffect s.tables t₁ r (new_received s.tables r)
    far = pass_far s.tables ok r may away

    far₂ : PassEffect u.tables t₂ r (new_received u.tables r)
    far₂ = pass_far u.tables ok₂ r may₂ away

    others₂ : (n : Name) → (n ≡ y → ⊥) → entry_of t₂ n ≡ entry_of u.tables n
    others₂ = entries₂ (new_received s.tables r) (new_received u.tables r) like_received far far₂

    entry_y : entry_of t₁ y ≡ new_entry s.tables r
    entry_y = pass_far_entry s.tables ok r may away

    entry-y₂ : entry_of t₂ y ≡ new_entry u.tables r
    entry-y₂ = ap (entry_of t₂) same_y ∙ pass_far_entry u.tables ok₂ r may₂ away

    -- the place of the new entry in the entry of the dock name, the same on both sides
    shift : ℕ
    shift = (lookup s.tables a).first + r.first - (entry_of s.tables d).first

    inside : Inside (lookup s.tables a).first (lookup s.tables a).count (lookup s.tables a).rights
        (entry_of s.tables d).first (entry_of s.tables d).count (entry_of s.tables d).rights
    inside = within_entry s.tables ok a may.grant known

    shift₁ : (lookup s.tables a).first + r.first ≡ (entry_of s.tables d).first + shift
    unfolding shift
    shift₁ = omega (arith, inside.from)

    shift₂ : (lookup u.tables a).first + r.first ≡ (entry_of u.tables d).first + shift
    unfolding shift
    shift₂ = omega (arith, inside.from, moved known)

    shift_fits : shift + r.count ≤ (entry_of s.tables d).count
    shift_fits = omega (arith, shift₁, inside.to, may.fit)

    -- an entry after is a part of an entry before, at the same offset on both sides
    record PartOf (n : Name) : Type 0 where
      name : Name
      own : owns g name ≡ true
      live : (entry_of s.tables name).live ≡ true
      by : ℕ
      first : (entry_of t₁ n).first ≡ (entry_of s.tables name).first + by
      first₂ : (entry_of t₂ n).first ≡ (entry_of u.tables name).first + by
      count : by + (entry_of t₁ n).count ≤ (entry_of s.tables name).count

    part_of : (n : Name) → owns g n ≡ true → (entry_of t₁ n).live ≡ true → Case (eq_name n y) → PartOf n
    part_of n h l (pass e) =
        let q : n ≡ y = eq_name_true n y e in
        let f : entry_of t₁ n ≡ new_entry s.tables r = ap (entry_of t₁) q ∙ entry_y in
        let f₂ : entry_of t₂ n ≡ new_entry u.tables r = ap (entry_of t₂) q ∙ entry-y₂ in
        record { name = d; own = own_dock; live = known; by = shift; first = rw f shift₁; first₂ = rw f₂ shift₂; count = rw f shift_fits }
    part_of n h l (fail e) =
        let f = far.entries n (eq_name_ne n y e) in
        let f₂ = others₂ n (eq_name_ne n y e) in
        record { name = n; own = h; live = rw f at l; by = 0; first = rw f (omega arith); first₂ = rw f₂ (omega arith); count = rw f (omega arith) }

    part : {n : Name} {i : ℕ} → Mine g t₁ n i → PartOf n
    part {n} m = part_of n m.own m.live (case (eq_name n y))

    part_mine : {n : Name} {i : ℕ} → Mine g t₁ n i → (p : PartOf n) → Mine g s.tables p.name (p.by + i)
    part_mine m p = record { own = p.own; live = p.live; low = omega (arith, m.low, p.count) }

    overlap_of : (n m : Name) (i j : ℕ) → Mine g t₁ n i → Mine g t₁ m j → PartOf n → PartOf m
        → (sheet_in t₁ n i ≡ sheet_in t₁ m j) ↔ (sheet_in t₂ n i ≡ sheet_in t₂ m j)
    overlap_of n m i j h k p q =
        let o = al.overlap p.name q.name (p.by + i) (q.by + j) (part_mine h p) (part_mine k q) in (
          (λ z. let w = o.0 (omega (arith, p.first, q.first)) in omega (arith, w, p.first₂, q.first₂)),
          (λ z. let w = o.1 (omega (arith, p.first₂, q.first₂)) in omega (arith, w, p.first, q.first)),
        )

    bytes_of : (n : Name) (i : ℕ) → Mine g t₁ n i → PartOf n → sheet_at (sheet_in t₁ n i) s.store ≡ sheet_at (sheet_in t₂ n i) u.store
    bytes_of n i m p =
        ap (λ (j : ℕ). sheet_at j s.store) (omega (arith, p.first)) ∙ al.bytes p.name (p.by + i) (part_mine m p)
        ∙ ap (λ (j : ℕ). sheet_at j u.store) (omega (arith, p.first₂))

    entries_of : (n : Name) → owns g n ≡ true → Case (eq_name n y) → blur_entry (entry_of t₁ n) ≡ blur_entry (entry_of t₂ n)
    entries_of n h (pass e) =
        let q : n ≡ y = eq_name_true n y e in
        ap blur_entry (ap (entry_of t₁) q ∙ entry_y) ∙ (λ i. entry_for (same_y i) (dock_same i) 0 r.count (rights_of r.rights))
        ∙ ap blur_entry (sym (ap (entry_of t₂) q ∙ entry-y₂))
    entries_of n h (fail e) = let q = eq_name_ne n y e in ap blur_entry (far.entries n q) ∙ al.entries n h ∙ ap blur_entry (sym (others₂ n q))

    alike_far : DockOk (with_tables s t₁) → DockOk (with_tables u t₂) → Alike g (with_tables s t₁) (with_tables u t₂)
    unfolding with_tables
    alike_far dock dock₂ = record {
      here = record { dock = dock; unlinked = unlinked_far g s.tables ok al.here.unlinked r may tie away };
      there = record { dock = dock₂; unlinked = unlinked_far g u.tables ok₂ al.there.unlinked r may₂ tie away };
      lasts = λ p q h. (programs_both (new_received s.tables r) (new_received u.tables r) like_received far far₂ p q h).1;
      tickets = λ p q h. (programs_both (new_received s.tables r) (new_received u.tables r) like_received far far₂ p q h).0;
      entries = λ n h. entries_of n h (case (eq_name n y));
      offset = λ n h k l.
          offset_of (new_received s.tables r) (new_received u.tables r) like_received far far₂ (λ z. rw (entry_y, entry-y₂) (omega arith)) n h k l
          (case (eq_name n x)) (case (eq_name n y));
      overlap = λ n m i j h k. overlap_of n m i j h k (part h) (part k);
      bytes = λ n i m. bytes_of n i m (part m);
    }

  pub alike_pass : DockOk (with_tables s t₁) → DockOk (with_tables u t₂) → Alike g (with_tables s t₁) (with_tables u t₂)
  alike_pass = go (case (eqb r.pad r.topad))
    where
      go : Case (eqb r.pad r.topad) → DockOk (with_tables s t₁) → DockOk (with_tables u t₂) → Alike g (with_tables s t₁) (with_tables u t₂)
      go (pass h) = alike_near (eqb-true r.pad r.topad h)
      go (fail h) = alike_far (eqb-false r.pad r.topad h)
