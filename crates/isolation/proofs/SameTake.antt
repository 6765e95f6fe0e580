-- A take on both sides keeps two states alike. The new names are equal; the new sheets may lie elsewhere, but outside all entries on either
-- side, so they overlap nothing and hold zeros on both.
use Prim.Native.Nat.{ℕ, suc, ◌+◌, ◌*◌, ◌<◌}
use native.Mathlib.Omega.{arith}
use mathlib.Core.Path.{◌≡◌, refl, sym, ap, ◌∙◌}
use mathlib.Core.Logic.{◌↔◌}
use mathlib.Core.Bool.{true}
use mathlib.Core.List.{List, map}
use lib.ListN.{set, replicate, length-replicate}
use Rattle.lists.specs.Lists.{first_index}
use Rattle.lists.proofs.Tests.{Case, pass, fail, case}
use Rattle.lists.proofs.Everywhere.{map_set}
use Rattle.rights.specs.Rules.{rights_of}
use Rattle.tables.specs.declared.{Name.Name, Ticket.Ticket, Program.Program, Entry.Entry, Tables.Tables}
use Rattle.tables.specs.declared.Kind.TheVariants.{Taken}
use Rattle.tables.specs.Names.{no_name, eq_name, same_program, head_ticket, entry_for}
use Rattle.tables.specs.Lookup.{tickets_of, last_of, lookup, entry_of}
use Rattle.tables.specs.Change.{is_free, new_name}
use Rattle.tables.proofs.NameLaws.{name_eq, eq_name_true, eq_name_ne, program_same}
use Rattle.machine.specs.declared.Request.{Request}
use Rattle.machine.specs.State.{State, accepted, sheet_at, put_sheets, clear_sheets}
use Rattle.machine.specs.Take.{take_tables, after_take}
use Rattle.machine.specs.Sequence.{Group}
use Rattle.machine.specs.Isolation.{owns}
use Rattle.preservation.specs.InOrder.{DockOk}
use Rattle.preservation.proofs.SheetTests.{apart_ne, beside}
use Rattle.preservation.proofs.ChainSteps.{dock_live}
use Rattle.preservation.proofs.NewNames.{not_past}
use Rattle.preservation.proofs.Taking.{MayTake, TakeEffect, take_effect}
use Rattle.preservation.proofs.StoreSheets.{sheet_kept, sheet_put}
use Rattle.isolation.specs.Alike.{blur, blur_entry, Mine, sheet_in, Alike}
use Rattle.isolation.proofs.AlikeFacts.{place_blur, mine_there, mine_low}
use Rattle.isolation.proofs.UnlinkedKept.{unlinked_take}
use Rattle.tables.specs.Kinds.{is_grant}
use Rattle.best_fit.specs.BestFit.{best_fit}
use Rattle.best_fit.proofs.Laws.{best_fits}

-- ---- a ticket put in the lowest free place on both sides
pub put_both : (ts us : List Ticket) (k k₂ : Ticket) → map blur ts ≡ map blur us → blur k ≡ blur k₂
    → map blur (set ts (first_index is_free ts) k) ≡ map blur (set us (first_index is_free us) k₂)
put_both ts us k k₂ e like =
    map_set blur ts (first_index is_free ts) k ∙ ap (λ (l : List Ticket). set l (first_index is_free ts) (blur k)) e
    ∙ ap (λ (i : ℕ). set (map blur us) i (blur k)) (place_blur ts us e) ∙ ap (set (map blur us) (first_index is_free us)) like
    ∙ sym (map_set blur us (first_index is_free us) k₂)

module _ (g : Group) (s u : State) (al : Alike g s u) (r : Request) (mine : g r.pad r.program ≡ true)
    (may : MayTake s.tables r) (may₂ : MayTake u.tables r) where
  abbrev x : Name
  x = new_name s.tables r.pad r.program

  abbrev y : Name
  y = new_name u.tables r.pad r.program

  x≡y : x ≡ y
  x≡y = name_eq refl refl (ap suc (al.lasts r.pad r.program mine))

  abbrev f₁ : ℕ
  f₁ = best_fit s.tables.entries r.count

  abbrev f₂ : ℕ
  f₂ = best_fit u.tables.entries r.count

  abbrev t₁ : Tables
  t₁ = take_tables s.tables r

  abbrev t₂ : Tables
  t₂ = take_tables u.tables r

  abbrev taken : Name → ℕ → Ticket
  taken n f = head_ticket Taken n f r.count (rights_of r.rights)

  abbrev made : Name → ℕ → Entry
  made n f = entry_for n no_name f r.count (rights_of r.rights)

  effect : TakeEffect s.tables t₁ r x f₁
  effect = take_effect s.tables al.here.dock.tables r may

  effect₂ : TakeEffect u.tables t₂ r y f₂
  effect₂ = take_effect u.tables al.there.dock.tables r may₂

  -- ---- the second side, by the first side's name
  tickets₂ : (n : Name) → (n ≡ x → ⊥) → lookup t₂ n ≡ lookup u.tables n
  tickets₂ n ne = effect₂.tickets n (λ e. ne (e ∙ sym x≡y))

  ticket₂ : lookup t₂ x ≡ taken y f₂
  ticket₂ = ap (lookup t₂) x≡y ∙ effect₂.ticket

  entries₂ : (n : Name) → (n ≡ x → ⊥) → entry_of t₂ n ≡ entry_of u.tables n
  entries₂ n ne = effect₂.entries n (λ e. ne (e ∙ sym x≡y))

  entry₂ : entry_of t₂ x ≡ made y f₂
  entry₂ = ap (entry_of t₂) x≡y ∙ effect₂.entry

  -- ---- tickets, last numbers, entries
  tickets_same : (p q : ℕ) → g p q ≡ true → Case (same_program p q r.pad r.program) → map blur (tickets_of t₁ p q) ≡ map blur (tickets_of t₂ p q)
  tickets_same p q h (pass e) =
      let w = program_same p q r.pad r.program e in
      rw (w.pad, w.program)
      (ap (map blur) effect.places
      ∙ put_both (tickets_of s.tables r.pad r.program) (tickets_of u.tables r.pad r.program) (taken x f₁) (taken y f₂)
      (al.tickets r.pad r.program mine) (ap (λ (m : Name). blur (taken m 0)) x≡y)
      ∙ ap (map blur) (sym effect₂.places))
  tickets_same p q h (fail e) =
      ap (λ (a : Program). map blur a.tickets) (effect.programs p q e) ∙ al.tickets p q h
      ∙ ap (λ (a : Program). map blur a.tickets) (sym (effect₂.programs p q e))

  lasts_same : (p q : ℕ) → g p q ≡ true → Case (same_program p q r.pad r.program) → last_of t₁ p q ≡ last_of t₂ p q
  lasts_same p q h (pass e) =
      let w = program_same p q r.pad r.program e in
      rw (w.pad, w.program) (effect.last ∙ ap (λ (m : Name). m.number) x≡y ∙ sym effect₂.last)
  lasts_same p q h (fail e) =
      ap (λ (a : Program). a.last) (effect.programs p q e) ∙ al.lasts p q h ∙ ap (λ (a : Program). a.last) (sym (effect₂.programs p q e))

  entries_same : (n : Name) → owns g n ≡ true → Case (eq_name n x) → blur_entry (entry_of t₁ n) ≡ blur_entry (entry_of t₂ n)
  entries_same n h (pass e) =
      let z : n ≡ x = eq_name_true n x e in
      ap blur_entry (ap (entry_of t₁) z ∙ effect.entry) ∙ ap (λ (m : Name). blur_entry (made m 0)) x≡y
      ∙ ap blur_entry (sym (ap (entry_of t₂) z ∙ entry₂))
  entries_same n h (fail e) = let z = eq_name_ne n x e in ap blur_entry (effect.entries n z) ∙ al.entries n h ∙ ap blur_entry (sym (entries₂ n z))

  offset_of : (n : Name) → owns g n ≡ true → is_grant (lookup t₁ n).kind ≡ true → (entry_of t₁ (lookup t₁ n).dock).live ≡ true → Case (eq_name n x)
      → (lookup t₁ n).first + (entry_of t₂ (lookup t₁ n).dock).first ≡ (lookup t₂ n).first + (entry_of t₁ (lookup t₁ n).dock).first
  offset_of n h k l (pass e) =
      let z : n ≡ x = eq_name_true n x e in
      let a : lookup t₁ n ≡ taken x f₁ = ap (lookup t₁) z ∙ effect.ticket in
      let b : lookup t₂ n ≡ taken y f₂ = ap (lookup t₂) z ∙ ticket₂ in
      rw (a, b, effect.entry, entry₂) (omega arith)
  offset_of n h k l (fail e) =
      let z = eq_name_ne n x e in
      let a = effect.tickets n z in
      let k₀ : is_grant (lookup s.tables n).kind ≡ true = rw a at k in
      let l₀ : (entry_of t₁ (lookup s.tables n).dock).live ≡ true = rw a at l in
      let v : (lookup s.tables n).dock ≡ x → ⊥
      = not_past s.tables al.here.dock.tables x refl (lookup s.tables n).dock (dock_live s.tables al.here.dock.tables n k₀) in
      rw (a, tickets₂ n z, effect.entries (lookup s.tables n).dock v, entries₂ (lookup s.tables n).dock v)
      (al.offset n h k₀ (rw (effect.entries (lookup s.tables n).dock v) at l₀))

  -- ---- where an entry lies: the new one on the free runs, the others where they lay
  new₁ : (n : Name) → n ≡ x → entry_of t₁ n ≡ made x f₁
  new₁ n z = ap (entry_of t₁) z ∙ effect.entry

  new₂ : (n : Name) → n ≡ x → entry_of t₂ n ≡ made y f₂
  new₂ n z = ap (entry_of t₂) z ∙ entry₂

  mine_before : {n : Name} {a : ℕ} → (n ≡ x → ⊥) → Mine g t₁ n a → Mine g s.tables n a
  mine_before {n} ne m = let e = effect.entries n ne in record { own = m.own; live = rw e at m.live; low = rw e at m.low }

  -- no sheet of an old entry is a new sheet, on either side
  never : (n : Name) (a b : ℕ) → Mine g s.tables n a → b < r.count → f₁ + b ≡ sheet_in s.tables n a → ⊥
  never n a b m c = apart_ne f₁ r.count (entry_of s.tables n).first (entry_of s.tables n).count b a (effect.apart n m.live) c m.low

  never₂ : (n : Name) (a b : ℕ) → Mine g s.tables n a → b < r.count → f₂ + b ≡ sheet_in u.tables n a → ⊥
  never₂ n a b m c =
      let m₂ : Mine g u.tables n a = mine_there g s u al m in
      apart_ne f₂ r.count (entry_of u.tables n).first (entry_of u.tables n).count b a (effect₂.apart n m₂.live) c m₂.low

  overlap_of : (n m : Name) (a b : ℕ) → Mine g t₁ n a → Mine g t₁ m b → Case (eq_name n x) → Case (eq_name m x)
      → (sheet_in t₁ n a ≡ sheet_in t₁ m b) ↔ (sheet_in t₂ n a ≡ sheet_in t₂ m b)
  overlap_of n m a b h k (pass v) (pass w) =
      let p = eq_name_true n x v in
      let q = eq_name_true m x w in
      rw (new₁ n p, new₂ n p, new₁ m q, new₂ m q) ((λ e. omega arith), (λ e. omega arith))
  overlap_of n m a b h k (pass v) (fail w) =
      let p = eq_name_true n x v in
      let ne = eq_name_ne m x w in
      let c : a < r.count = rw (new₁ n p) at h.low in
      rw (new₁ n p, new₂ n p, effect.entries m ne, entries₂ m ne)
      ((λ e. absurd (never m b a (mine_before ne k) c e)), (λ e. absurd (never₂ m b a (mine_before ne k) c e)))
  overlap_of n m a b h k (fail v) (pass w) =
      let ne = eq_name_ne n x v in
      let q = eq_name_true m x w in
      let c : b < r.count = rw (new₁ m q) at k.low in
      rw (effect.entries n ne, entries₂ n ne, new₁ m q, new₂ m q)
      ((λ e. absurd (never n a b (mine_before ne h) c (sym e))), (λ e. absurd (never₂ n a b (mine_before ne h) c (sym e))))
  overlap_of n m a b h k (fail v) (fail w) =
      let p = eq_name_ne n x v in
      let q = eq_name_ne m x w in
      rw (effect.entries n p, entries₂ n p, effect.entries m q, entries₂ m q) (al.overlap n m a b (mine_before p h) (mine_before q k))

  -- ---- bytes
  abbrev zeros : List ℕ
  zeros = replicate (64 * r.count) 0

  bytes_of : (n : Name) (a : ℕ) → Mine g t₁ n a → Case (eq_name n x)
      → sheet_at (sheet_in t₁ n a) (put_sheets f₁ zeros s.store) ≡ sheet_at (sheet_in t₂ n a) (put_sheets f₂ zeros u.store)
  bytes_of n a m (pass v) =
      let p = eq_name_true n x v in
      let c : a < r.count = rw (new₁ n p) at m.low in
      rw (new₁ n p, new₂ n p)
      (sheet_put f₁ r.count zeros s.store al.here.dock.store (length-replicate _ 0) (best_fits s.tables.entries r.count may.some may.run) a c
      ∙ sym (sheet_put f₂ r.count zeros u.store al.there.dock.store (length-replicate _ 0) (best_fits u.tables.entries r.count may₂.some may₂.run) a c))
  bytes_of n a m (fail v) =
      let ne = eq_name_ne n x v in
      let m₁ : Mine g s.tables n a = mine_before ne m in
      let m₂ : Mine g u.tables n a = mine_there g s u al m₁ in
      rw (effect.entries n ne, entries₂ n ne)
      (sheet_kept f₁ r.count zeros s.store al.here.dock.store (length-replicate _ 0) (best_fits s.tables.entries r.count may.some may.run) _
      (mine_low g s al.here m₁) (beside f₁ r.count _ _ a (effect.apart n m₁.live) m₁.low)
      ∙ al.bytes n a m₁
      ∙ sym (sheet_kept f₂ r.count zeros u.store al.there.dock.store (length-replicate _ 0) (best_fits u.tables.entries r.count may₂.some may₂.run) _
      (mine_low g u al.there m₂) (beside f₂ r.count _ _ a (effect₂.apart n m₂.live) m₂.low)))

  pub alike_take : DockOk (after_take s r).state → DockOk (after_take u r).state → Alike g (after_take s r).state (after_take u r).state
  unfolding after_take accepted clear_sheets
  alike_take dock dock₂ = record {
    here = record { dock = dock; unlinked = unlinked_take g s.tables t₁ r x f₁ effect al.here.unlinked };
    there = record { dock = dock₂; unlinked = unlinked_take g u.tables t₂ r y f₂ effect₂ al.there.unlinked };
    lasts = λ p q h. lasts_same p q h (case (same_program p q r.pad r.program));
    tickets = λ p q h. tickets_same p q h (case (same_program p q r.pad r.program));
    entries = λ n h. entries_same n h (case (eq_name n x));
    offset = λ n h k l. offset_of n h k l (case (eq_name n x));
    overlap = λ n m a b h k. overlap_of n m a b h k (case (eq_name n x)) (case (eq_name m x));
    bytes = λ n a m. bytes_of n a m (case (eq_name n x));
  }
