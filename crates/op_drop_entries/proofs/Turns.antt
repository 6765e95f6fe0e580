-- Removal from its start to its end: the invariants of its two loops.
use Prim.Native.Nat.{ℕ, ◌+◌, ◌≤◌, ◌<◌}
use native.Mathlib.Omega.{arith}
use mathlib.Core.Path.{◌≡◌, refl, sym, ap, ◌∙◌, subst}
use mathlib.Core.Logic.{◌⊎◌, inl, inr}
use mathlib.Core.Bool.{true, false, ◌&&◌, cond}
use mathlib.Core.List.{List, map}
use lib.Dec.{eqb}
use lib.ListN.{length, get_or, set, length-set, get_or-eq_default}
use lib.Seq.{get_or-set_same, get_or-set_other}
use borrow.Author.Count.{below_more}
use borrow.Author.Tests.{eqb-true, eqb-false}
use Rattle.lists.specs.Lists.{first_index}
use Rattle.lists.proofs.Tests.{Case, pass, fail, case, contradiction, and_l, and_r}
use Rattle.lists.proofs.Search.{find_passes}
use Rattle.tables.specs.declared.{Name.Name, Entry.Entry}
use Rattle.tables.specs.Names.{no_entry}
use Rattle.tables.specs.Lookup.{is_named, entry_in}
use Rattle.tables.specs.Chains.{reaches}
use Rattle.tables.specs.Change.{drop_entry}
use Rattle.tables.proofs.NameLaws.{eq_name_test}
use Rattle.tables.proofs.ByPlace.{at}
use Rattle.op_drop_entries.specs.Links.{directly_below, LinkedEntries}
use Rattle.op_drop_entries.proofs.DirectlyBelow.{below_live}
use Rattle.op_drop_entries.proofs.Reaching.{under, without_below, named, at_name, all_under, dropped_by_places}
use Rattle.op_drop_entries.proofs.Queue.{Removed, Queued, Partly, Swept, Sweeping, tail_room, one_more, swept_still, sweeping_gone, all_gone}

-- ---- the start
-- x is at some place: it goes first
module _ (es : List Entry) (long : length es ≡ 256) (x : Name) (i : ℕ) (b : i < 256) (l : (at es i).live ≡ true) (q : (at es i).name ≡ x) where
  under_itself : under es x (at es i).name ≡ true
  unfolding reaches
  under_itself = rw (eq_name_test (at es i).name x q)

  first_gone : (queue : List ℕ) → length queue ≡ 256 → Partly es (set es i no_entry) x (set queue 0 i) 1
  first_gone queue r = record {
    long = length-set es i no_entry ∙ long;
    room = length-set queue 0 i ∙ r;
    removed = λ h c. subst (Removed es (set es i no_entry) x) (sym (queue_at h c)) here;
    once = λ h k c d e. omega arith;
    kept = λ j c. go j c (case (eqb j i));
  }
    where
      queue_at : (h : ℕ) → h < 1 → get_or (set queue 0 i) h 0 ≡ i
      queue_at h c = let z : h ≡ 0 = omega arith in ap (λ (k : ℕ). get_or (set queue 0 i) k 0) z ∙ get_or-set_same queue 0 i 0 (omega arith)

      here : Removed es (set es i no_entry) x i
      here = record { low = b; live = l; under = under_itself; gone = get_or-set_same es i no_entry no_entry (omega arith) }

      go : (j : ℕ) → j < 256 → Case (eqb j i) → (at (set es i no_entry) j ≡ at es j) ⊎ Queued (set queue 0 i) 1 j
      go j c (pass p) = inr (record { turn = 0; before = omega arith; here = queue_at 0 (omega arith) ∙ sym (eqb-true j i p) })
      go j c (fail p) = inl (get_or-set_other es i j no_entry no_entry (eqb-false j i p))

-- x is at no place: nothing is below it, since parents are live
module _ (es : List Entry) (ok : LinkedEntries es) (x : Name) (d : (entry_in es x).live ≡ false) where
  never : (i : ℕ) → i < length es → (at es i).live ≡ true → under es x (at es i).name ≡ true → ⊥
  never i b l h =
      all_under es ok x (λ j. ⊥)
      (λ j c k q. contradiction (ap (λ (n : Name). (entry_in es n).live) (sym q) ∙ ap (λ (e : Entry). e.live) (at_name es ok j c k) ∙ k) d)
      (λ i j a c e n. n) 256 i b l h

  none_gone : es ≡ map (drop_entry (under es x)) es
  unfolding drop_entry
  none_gone = dropped_by_places es es (under es x) refl (λ i b. sym (go i b (case ((at es i).live && under es x (at es i).name))))
    where
      go : (i : ℕ) → i < length es → Case ((at es i).live && under es x (at es i).name) → cond ((at es i).live && under es x (at es i).name) no_entry (at es i) ≡ at es i
      go i b (pass e) = absurd (never i b (and_l (at es i).live _ e) (and_r (at es i).live (under es x (at es i).name) e))
      go i b (fail e) = rw e

-- ---- the two loops: `head` counts the turns that are over, `i` the places that the present turn has looked at
pub record Turns (es us : List Entry) (start : ℕ) (queue : List ℕ) (tail head : ℕ) : Type 0 where
  pub partly : Partly es us (at es start).name queue tail
  pub begun : 0 < tail
  pub first : get_or queue 0 0 ≡ start
  pub within : head ≤ tail
  pub swept : Swept es us queue head

pub record Turn (es us : List Entry) (start : ℕ) (queue : List ℕ) (tail head : ℕ) (n : Name) (i : ℕ) : Type 0 where
  pub turns : Turns es us start queue tail head
  pub more : head < tail
  pub of : (at es (get_or queue head 0)).name ≡ n
  pub within : i ≤ 256
  pub sweeping : Sweeping n us i

module _ {es us : List Entry} {start : ℕ} {queue : List ℕ} {tail head : ℕ} where
  module _ {n : Name} {i : ℕ} (t : Turn es us start queue tail head n i) where
    -- the entry at place i is not directly below n: it stays
    pub turn_kept : i < 256 → directly_below n (at us i) ≡ false → Turn es us start queue tail head n (i + 1)
    turn_kept b d = record { turns = t.turns; more = t.more; of = t.of; within = omega arith; sweeping = below_more _ i t.sweeping d }

    -- it is: there is room in the queue, and it goes
    pub turn_room : i < 256 → directly_below n (at us i) ≡ true → tail < 256
    turn_room b d = tail_room t.turns.partly i b (below_live n (at us i) d)

    pub turn_under : under es (at es start).name n ≡ true
    turn_under = ap (under es (at es start).name) (sym t.of) ∙ (t.turns.partly.removed head t.more).under

    pub turn_gone : LinkedEntries es → length es ≡ 256 → {none : Entry} → none ≡ no_entry → i < 256 → directly_below n (at us i) ≡ true
        → Turn es (set us i none) start (set queue tail i) (tail + 1) head n (i + 1)
    turn_gone ok long q b d = subst (λ (e : Entry). Turn es (set us i e) start (set queue tail i) (tail + 1) head n (i + 1)) (sym q) (record {
      turns = record {
        partly = one_more t.turns.partly ok long i b n d turn_under;
        begun = omega arith;
        first = get_or-set_other queue tail 0 i 0 (λ e. omega (arith, t.turns.begun)) ∙ t.turns.first;
        within = omega (arith, t.more);
        swept = swept_still t.turns.partly ok long i b n d turn_under head t.turns.within t.turns.swept;
      };
      more = omega (arith, t.more);
      of = ap (λ (k : ℕ). (at es k).name) (get_or-set_other queue tail head i 0 (λ e. omega (arith, t.more))) ∙ t.of;
      within = omega arith;
      sweeping = sweeping_gone t.turns.partly ok long i b n d turn_under t.sweeping;
    })

    pub turns_more : 256 ≤ i → Turns es us start queue tail (head + 1)
    turns_more b = record {
      partly = t.turns.partly;
      begun = t.turns.begun;
      first = t.turns.first;
      within = omega (arith, t.more);
      swept = below_more _ head t.turns.swept (λ j c. ap (λ (m : Name). directly_below m (at us j)) t.of ∙ t.sweeping j (omega arith));
    }

-- ---- the search for x ended at the place i
module _ (es : List Entry) (x : Name) (ok : LinkedEntries es) (long : length es ≡ 256) {i : ℕ} (q : i ≡ first_index (is_named x) es) where
  at_place : entry_in es x ≡ at es i
  unfolding entry_in
  at_place = ap (at es) (sym q)

  x_live : i < 256 → (at es i).live ≡ true
  unfolding is_named
  x_live b =
      and_l (at es i).live _ (ap (λ (j : ℕ). is_named x (at es j)) q ∙ find_passes (is_named x) es no_entry (omega arith))

  pub x_named : i < 256 → (at es i).name ≡ x
  x_named b =
      let l : (entry_in es x).live ≡ true = ap (λ (e : Entry). e.live) at_place ∙ x_live b in
      ap (λ (e : Entry). e.name) (sym at_place) ∙ named es x l

  pub drop_none : 256 ≤ i → es ≡ without_below es x
  unfolding without_below
  drop_none b =
      let z : at es i ≡ no_entry = get_or-eq_default es no_entry (omega arith) in
      none_gone es ok x (ap (λ (e : Entry). e.live) (at_place ∙ z))

  pub drop_begins : i < 256 → {none : Entry} → none ≡ no_entry → (queue : List ℕ) → length queue ≡ 256 → Turns es (set es i none) i (set queue 0 i) 1 0
  drop_begins b z queue r = subst (λ (e : Entry). Turns es (set es i e) i (set queue 0 i) 1 0) (sym z) (record {
    partly = first_gone es long (at es i).name i b (x_live b) refl queue r;
    begun = omega arith;
    first = get_or-set_same queue 0 i 0 (omega arith);
    within = omega arith;
    swept = λ h c. absurd (omega arith);
  })

  pub drop_ends : i < 256 → {us : List Entry} {queue : List ℕ} {tail head : ℕ} → Turns es us i queue tail head → tail ≤ head → us ≡ without_below es x
  unfolding without_below
  drop_ends b {us} {queue} {tail} {head} r done =
      all_gone r.partly ok long r.begun (ap (λ (k : ℕ). (at es k).name) r.first) head done r.swept
      ∙ ap (λ (n : Name). map (drop_entry (under es n)) es) (x_named b)
