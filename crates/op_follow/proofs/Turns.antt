-- One place after the other: what goes stays closed under below, so that the next loan that goes takes with it what was below it at first.
use Prim.Native.Nat.{ℕ, zero, suc, ◌+◌}
use native.Mathlib.Numerals.{add-one}
use mathlib.Core.Path.{◌≡◌, refl, sym, ap, ◌∙◌, subst, fun_ext}
use mathlib.Core.Bool.{Bool, true, false, ◌&&◌, ◌||◌, or-false}
use mathlib.Core.List.{List, map}
use lib.ListN.{get_or}
use Rattle.lists.proofs.Tests.{Case, pass, fail, case, or_left, or_right, and_l, and_r, and_intro}
use Rattle.tables.proofs.Keys.{drop_no_entry}
use Rattle.tables.specs.declared.{Name.Name, Ticket.Ticket, Tables.Tables}
use Rattle.tables.specs.Names.{is_none}
use Rattle.tables.specs.Lookup.{entry_in}
use Rattle.tables.specs.Chains.{at_or_below}
use Rattle.tables.specs.Change.{drop_entry, drop_entries}
use Rattle.image.specs.Image.{decode, is_image}
use Rattle.image_write.specs.Shows.{Holds}
use Rattle.image_pads.specs.Places.{on_pad}
use Rattle.op_drop_entries.specs.Links.{LinkedEntries}
use Rattle.op_drop_entries.proofs.Again.{Closed, linked_again, dropped_again, under_closed}
use Rattle.op_follow.specs.Lent.{is_lending, lent_by}

module _ (t : Tables) (linked : LinkedEntries t.entries) (pad : ℕ) (marks : List Bool) where
  closed : (i : ℕ) → Closed t.entries (lent_by t pad marks i)
  unfolding lent_by
  closed zero = record { sink = λ n l z e. e }
  closed (suc i) = record { sink = λ n l z e. go n l z (case (lent_by t pad marks i (entry_in t.entries n).parent)) e (closed i) }
    where
      go : (n : Name) → (entry_in t.entries n).live ≡ true → is_none (entry_in t.entries n).parent ≡ false
          → Case (lent_by t pad marks i (entry_in t.entries n).parent)
          → (lent_by t pad marks i (entry_in t.entries n).parent
          || (is_lending pad (get_or marks i false) (on_pad t pad i) && at_or_below t (on_pad t pad i).other (entry_in t.entries n).parent)) ≡ true
          → Closed t.entries (lent_by t pad marks i)
          → (lent_by t pad marks i n || (is_lending pad (get_or marks i false) (on_pad t pad i) && at_or_below t (on_pad t pad i).other n)) ≡ true
      go n l z (pass h) e ih = or_left _ (ih.sink n l z h)
      go n l z (fail h) e ih =
          let w : (is_lending pad (get_or marks i false) (on_pad t pad i) && at_or_below t (on_pad t pad i).other (entry_in t.entries n).parent) ≡ true = rw h at e in
          or_right (lent_by t pad marks i n)
          (and_intro (and_l (is_lending pad (get_or marks i false) (on_pad t pad i)) _ w)
          (under_closed t.entries linked (on_pad t pad i).other n l z (and_r (is_lending pad (get_or marks i false) (on_pad t pad i)) _ w)))

  -- the tables before the i-th place's turn
  abbrev pub before : ℕ → Tables
  before i = drop_entries (lent_by t pad marks i) t

  pub still_linked : (i : ℕ) → LinkedEntries (before i).entries
  unfolding drop_entries
  still_linked i = linked_again t.entries linked (lent_by t pad marks i) (closed i)

  pub stands : (i : ℕ) → on_pad (before i) pad i ≡ on_pad t pad i
  unfolding drop_entries
  stands i = refl

  -- a loan that goes
  pub turn_gone : (i : ℕ) → is_lending pad (get_or marks i false) (on_pad t pad i) ≡ true
      → drop_entries (at_or_below (before i) (on_pad t pad i).other) (before i) ≡ before (i + 1)
  unfolding drop_entries lent_by
  turn_gone i h = rw add-one
      λ j. record {
        pads = t.pads;
        entries = (dropped_again t.entries linked (lent_by t pad marks i) (closed i) (on_pad t pad i).other ∙ ap (λ (f : Name → Bool). map (drop_entry f) t.entries) (fun_ext later)) j;
      }
    where
      later : (n : Name) → (lent_by t pad marks i n || at_or_below t (on_pad t pad i).other n)
          ≡ (lent_by t pad marks i n || (is_lending pad (get_or marks i false) (on_pad t pad i) && at_or_below t (on_pad t pad i).other n))
      later n = rw h

  -- nothing goes
  pub turn_kept : (i : ℕ) → is_lending pad (get_or marks i false) (on_pad t pad i) ≡ false → before i ≡ before (i + 1)
  unfolding lent_by
  turn_kept i h = rw add-one (ap (λ (f : Name → Bool). drop_entries f t) (fun_ext later))
    where
      later : (n : Name) → lent_by t pad marks i n ≡ (lent_by t pad marks i n || (is_lending pad (get_or marks i false) (on_pad t pad i) && at_or_below t (on_pad t pad i).other n))
      later n = rw h (sym (or-false (lent_by t pad marks i n)))

  pub begins : before 0 ≡ t
  unfolding lent_by
  begins = drop_no_entry t

  -- ---- a turn, as the code takes it: u is what the image holds, k what it has at the i-th place
  module _ (i : ℕ) (u : Tables) (is : u ≡ before i) (k : Ticket) (here : k ≡ on_pad u pad i) where
    there : k ≡ on_pad t pad i
    there = here ∙ ap (λ (v : Tables). on_pad v pad i) is ∙ stands i

    pub turned : is_lending pad (get_or marks i false) k ≡ true → {image : List ℕ} → Holds image (drop_entries (at_or_below u k.other) u) → Holds image (before (i + 1))
    turned h {image} holds = record { is = holds.is; tables = holds.tables ∙ one ∙ turn_gone i (ap (is_lending pad (get_or marks i false)) (sym there) ∙ h) }
      where
        one : drop_entries (at_or_below u k.other) u ≡ drop_entries (at_or_below (before i) (on_pad t pad i).other) (before i)
        one = λ j. drop_entries (at_or_below (is j) (there j).other) (is j)

    pub passed : is_lending pad (get_or marks i false) k ≡ false → {image : List ℕ} → is_image image ≡ true → decode image ≡ u → Holds image (before (i + 1))
    passed h {image} im e = record { is = im; tables = e ∙ is ∙ turn_kept i (ap (is_lending pad (get_or marks i false)) (sym there) ∙ h) }

  pub linked_now : (i : ℕ) (u : Tables) → u ≡ before i → LinkedEntries u.entries
  linked_now i u e = subst (λ (v : Tables). LinkedEntries v.entries) (sym e) (still_linked i)
