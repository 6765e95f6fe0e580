-- The entry of a name by its note: the entry whose place is noted at the name's place. A live entry of that name is noted there; and an
-- entry that is noted there has the name, since a place has one name.
use Prim.Native.Nat.{ℕ, ◌≤◌, ◌<◌}
use native.Mathlib.Omega.{arith}
use mathlib.Core.Path.{◌≡◌, sym, ap, subst, ◌∙◌}
use mathlib.Core.Bool.{true}
use mathlib.Core.List.{List}
use lib.Dec.{eqb, ltb}
use lib.ListN.{length, get_or, get_or-eq_default}
use borrow.Author.Tests.{eqb-true, eqb-false, ltb-true, ltb-false}
use Rattle.lists.specs.Lists.{first_index}
use Rattle.lists.proofs.Tests.{Case, pass, fail, case, cannot_pass}
use Rattle.lists.proofs.Keyed.{distinct_intro, found_low, found_key, found_at, nothing_found}
use Rattle.lists.proofs.Reading.{any_default}
use Rattle.tables.specs.declared.{Name.Name, Entry.Entry, Tables.Tables}
use Rattle.tables.specs.Names.{no_entry}
use Rattle.tables.specs.Lookup.{is_named, entry_in, entry_of}
use Rattle.tables.specs.Order.{entry_names_ok}
use Rattle.tables.proofs.Keys.{entry_keys, entry_laws, entry_keyed}
use Rattle.image_places.specs.Places.{place_in, Numbered, Noted}
use Rattle.image_places.proofs.Laws.{place_most}
use Rattle.order_entry_notes.specs.Notes.{NotesOf, note_of, entry_by}
use Rattle.order_entry_notes.proofs.Grants.{grants_ok, entry_at, one_name_lem}

module _ (t : Tables) (n : Name) where
  -- where the entry of a name stands
  pub record Standing : Type 0 where
    pub place : ℕ
    pub low : place < length t.entries
    pub live : (entry_at t place).live ≡ true
    pub name : (entry_at t place).name ≡ n

  pub standing : (entry_of t n).live ≡ true → Standing
  unfolding entry_in is_named
  standing l = record {
    place = first_index (is_named n) t.entries;
    low = found_low entry_keys entry_laws t.entries n l;
    live = l;
    name = found_key entry_keys entry_laws t.entries n l;
  }

  pub no_entry_lem : (Standing → ⊥) → entry_of t n ≡ no_entry
  no_entry_lem none =
      entry_keyed t n
      ∙ nothing_found entry_keys entry_laws t.entries n
      (ap (λ (e : Entry). e.live) (sym (entry_keyed t n)) ∙ cannot_pass (entry_of t n).live (λ l. none (standing l)))

module _ (t : Tables) where
  -- distinct names: a live entry is the entry of its name
  pub entry_here : entry_names_ok t ≡ true → (i : ℕ) → i < length t.entries → (entry_at t i).live ≡ true → entry_of t (entry_at t i).name ≡ entry_at t i
  unfolding entry_names_ok
  entry_here e i h l = entry_keyed t (entry_at t i).name ∙ found_at entry_keys entry_laws t.entries (distinct_intro entry_keys entry_laws t.entries e) i h l

module _ (t : Tables) (numbers notes : List ℕ) (ix : Numbered t numbers) where
  module _ (grants : grants_ok t ≡ true) (names : entry_names_ok t ≡ true) (of : NotesOf numbers t.entries 256 notes) where
    long : length t.entries ≡ 256
    long = ix.sized.entries

    abbrev note : Name → ℕ
    note n = get_or notes (place_in numbers n) 256

    -- the entry of a name is noted at the name's place
    noted_there : (n : Name) (s : Standing t n) → note n ≡ s.place
    noted_there n s =
        ap note (sym s.name) ∙ of.noted s.place (omega (arith, s.low, long)) s.live

    without : (n : Name) → note n ≡ 256 → entry_of t n ≡ no_entry
    without n e = no_entry_lem t n (λ s. omega (arith, s.low, long, noted_there n s, e))

    with_note : (n : Name) → place_in numbers n < 256 → (note n ≡ 256 → ⊥) → entry_of t n ≡ entry_at t (note n)
    with_note n h ne =
        let w = of.noter (place_in numbers n) ne in
        let q : (entry_at t (note n)).name ≡ n
        = one_name_lem t numbers ix (entry_at t (note n)).name n (subst (λ (p : ℕ). p < 256) (sym w.place) h) w.place in
        ap (entry_of t) (sym q) ∙ entry_here t names (note n) (omega (arith, w.low, long)) w.live

    pub noted_all : Noted t numbers notes
    noted_all = record {
      long = of.long;
      most = λ p h. subst (λ (j : ℕ). j ≤ 256) (any_default notes p 256 0 (omega (arith, of.long, h))) (most p (case (eqb (get_or notes p 256) 256)));
      here = λ n h. here n h (case (eqb (note n) 256)) ∙ ap (entry_at t) (any_default notes (place_in numbers n) 256 0 (omega (arith, of.long, h)));
      nowhere = λ n e. without n (get_or-eq_default notes 256 (omega (arith, of.long, e)));
    }
      where
        most : (p : ℕ) → Case (eqb (get_or notes p 256) 256) → get_or notes p 256 ≤ 256
        most p (pass e) = omega (arith, eqb-true (get_or notes p 256) 256 e)
        most p (fail e) = omega (arith, (of.noter p (eqb-false (get_or notes p 256) 256 e)).low)

        here : (n : Name) → place_in numbers n < 256 → Case (eqb (note n) 256) → entry_of t n ≡ entry_at t (note n)
        here n h (pass e) =
            let z : note n ≡ 256 = eqb-true (note n) 256 e in
            without n z ∙ sym (get_or-eq_default t.entries no_entry (omega (arith, long, z)))
        here n h (fail e) = with_note n h (eqb-false (note n) 256 e)

  -- the entry of any name, as `note_of` finds its place
  pub entry_noted : Noted t numbers notes → (n : Name) → entry_of t n ≡ entry_by numbers notes t.entries n
  unfolding note_of
  entry_noted all n = go (case (ltb (place_in numbers n) 256))
    where
      go : Case (ltb (place_in numbers n) 256) → entry_of t n ≡ get_or t.entries (get_or notes (place_in numbers n) 256) no_entry
      go (pass e) =
          let h = ltb-true (place_in numbers n) 256 e in
          all.here n h ∙ ap (λ (j : ℕ). get_or t.entries j no_entry) (any_default notes (place_in numbers n) 0 256 (omega (arith, all.long, h)))
      go (fail e) =
          let z : place_in numbers n ≡ 256 = omega (arith, ltb-false (place_in numbers n) 256 e, place_most t numbers ix n) in
          let w : get_or notes (place_in numbers n) 256 ≡ 256 = get_or-eq_default notes 256 (omega (arith, all.long, z)) in
          all.nowhere n z ∙ sym (get_or-eq_default t.entries no_entry (omega (arith, ix.sized.entries, w)))
