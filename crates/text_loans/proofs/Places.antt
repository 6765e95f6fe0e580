-- A ticket by its place: it is the one that its name finds; and the target of a recall, by the place of the recall.
use Prim.Native.Nat.{ℕ, ◌/◌, ◌%◌, ◌≤◌, ◌<◌}
use native.Mathlib.Omega.{arith}
use mathlib.Core.Path.{◌≡◌, refl, sym, ap, ◌∙◌}
use mathlib.Core.Bool.{true, false}
use mathlib.Core.List.{List, [], ◌∷◌}
use lib.Dec.{ltb}
use lib.ListN.{get_or}
use borrow.Author.Tests.{ltb-true, ltb-false}
use Rattle.std.specs.Prelude.{Some, None}
use Rattle.lists.specs.Lists.{first_index}
use Rattle.lists.proofs.Tests.{Case, pass, fail, case, and_l}
use Rattle.lists.proofs.Search.{find_passes}
use Rattle.tables.specs.declared.{Name.Name, Ticket.Ticket, Entry.Entry, Tables.Tables}
use Rattle.tables.specs.Kinds.{is_live, is_recall}
use Rattle.tables.specs.Names.{no_entry}
use Rattle.tables.specs.Lookup.{lookup, place_of, is_named, entry_of}
use Rattle.tables.specs.Chains.{own_name}
use Rattle.tables.proofs.KindLaws.{live_grant}
use Rattle.image.specs.Image.{decode}
use Rattle.image_read.specs.Places.{entries_in}
use Rattle.image_read.proofs.Places.{entries_long}
use Rattle.image_places.specs.Places.{placed, name_at}
use Rattle.image_places.proofs.Kept.{kept_low, kept_there, kept_name}
use Rattle.image_find.proofs.Laws.{flattened, decoded_sized}
use Rattle.image_find.proofs.Steps.{entry_there, entry_nowhere}
use Rattle.text.specs.Writing.{values_line}
use Rattle.preservation.specs.InOrder.{InOrder}
use Rattle.report.specs.Rows.{is_listed, row_of}
use Rattle.report.specs.Report.{row_line}
use Rattle.report.proofs.Depth.{listed_grant}
use Rattle.report.proofs.Targets.{near_listed, far_listed, far_gone}
use Rattle.text_loans.specs.Walk.{ticket_in, name_in, Kept, Listed, Lending, listed_place}

module _ (image : List ℕ) where
  abbrev t : Tables
  t = decode image

  -- ---- by name and by place
  kept_live : (n : Name) → place_of t n < 256 → is_live (lookup t n).kind ≡ true
  unfolding place_of
  kept_live n low = go (case (is_live (lookup t n).kind))
    where
      go : Case (is_live (lookup t n).kind) → is_live (lookup t n).kind ≡ true
      go (pass e) = e
      go (fail e) = absurd (omega (arith, rw e at low))

  module _ (place : ℕ) (here : Kept image place) where
    pub found : lookup t (name_in image place) ≡ ticket_in image place
    found =
        let n = name_in image place in
        let low : place_of t n < 256 = omega (arith, here.kept, here.low) in
        sym (kept_there t (decoded_sized image) n (kept_live n low)) ∙ ap (placed t) here.kept ∙ sym ((flattened image).same place here.low)

    -- its line
    pub row_values : (depth : ℕ) (k : Ticket) → k ≡ ticket_in image place
        → values_line (depth ∷ place / 64 ∷ place / 8 % 8 ∷ k.number ∷ k.first ∷ k.count ∷ k.rights.bits ∷ []) ≡ row_line t (row_of depth (name_in image place))
    unfolding row_line
    row_values depth k e =
        let there : k ≡ lookup t (name_in image place) = e ∙ sym found in
        λ i. values_line (depth ∷ place / 64 ∷ place / 8 % 8 ∷ (e i).number ∷ (there i).first ∷ (there i).count ∷ (there i).rights.bits ∷ [])

  -- a live ticket's name has a place, and is the name there
  module _ (n : Name) (l : is_live (lookup t n).kind ≡ true) where
    low : place_of t n < 256
    low = kept_low t (decoded_sized image) n l

    pub name_there : name_in image (place_of t n) ≡ n
    name_there = ap (name_at (place_of t n)) ((flattened image).same (place_of t n) low) ∙ kept_name t (decoded_sized image) n l

    pub ticket_there : ticket_in image (place_of t n) ≡ lookup t n
    ticket_there = (flattened image).same (place_of t n) low ∙ kept_there t (decoded_sized image) n l

    pub kept_of : Kept image (place_of t n)
    kept_of = record { low = low; kept = ap (place_of t) name_there }

  pub listed_of : InOrder t → (n : Name) → is_listed t n ≡ true → Listed image (place_of t n)
  listed_of order n e =
      let l = live_grant (lookup t n).kind (listed_grant t order n e) in
      record { here = kept_of n l; listed = ap (is_listed t) (name_there n l) ∙ e }

  -- ---- an entry found
  module _ (n : Name) (r : ℕ) (is : r ≡ first_index (is_named n) (entries_in image)) where
    pub entry_live : r < 256 → (entry_of t n).live ≡ true
    unfolding is_named
    entry_live h =
        let first = first_index (is_named n) (entries_in image) in
        let there = entry_there image n first refl in
        let passes = find_passes (is_named n) (entries_in image) no_entry (omega (arith, is, h, entries_long image)) in
        ap (λ (e : Entry). e.live) (sym there) ∙ and_l (get_or (entries_in image) first no_entry).live _ passes

    pub entry_gone : 256 ≤ r → (entry_of t n).live ≡ false
    entry_gone h = ap (λ (e : Entry). e.live) (sym (entry_nowhere image n r is h))

  -- ---- the target of a recall
  module _ (order : InOrder t) (place : ℕ) (lending : Lending image place) where
    abbrev n : Name
    n = name_in image place

    abbrev target : Name
    target = (ticket_in image place).other

    is : lookup t n ≡ ticket_in image place
    is = found place lending.here

    recall : is_recall (lookup t n).kind ≡ true
    recall = ap (λ (k : Ticket). is_recall k.kind) is ∙ lending.recall

    same_target : (lookup t n).other ≡ target
    same_target = ap (λ (k : Ticket). k.other) is

    pub near_target : target.pad ≡ place / 64 → true ≡ is_listed t target
    near_target e =
        let lender : is_listed t (own_name n (lookup t n)) ≡ true = ap (λ (k : Ticket). is_listed t (own_name n k)) is ∙ lending.lender in
        sym (ap (is_listed t) (sym same_target) ∙ near_listed t order n recall (ap (λ (x : Name). x.pad) same_target ∙ e) lender)

    pub far_target : (target.pad ≡ place / 64 → ⊥) → (r : ℕ) → r ≡ first_index (is_named target) (entries_in image) → ltb r 256 ≡ is_listed t target
    far_target far r e = go (case (ltb r 256))
      where
        at : entry_of t (lookup t n).other ≡ entry_of t target
        at = ap (entry_of t) same_target

        go : Case (ltb r 256) → ltb r 256 ≡ is_listed t target
        go (pass h) =
            h ∙ sym (ap (is_listed t) (sym same_target)
            ∙ far_listed t order n recall (ap (λ (x : Entry). x.live) at ∙ entry_live target r e (ltb-true r 256 h)))
        go (fail h) =
            h ∙ sym (ap (is_listed t) (sym same_target)
            ∙ far_gone t order n recall (λ near. far (ap (λ (x : Name). x.pad) (sym same_target) ∙ near))
            (ap (λ (x : Entry). x.live) at ∙ entry_gone target r e (ltb-false r 256 h)))

  -- ---- the place of what is listed
  pub place_listed : (n : Name) (r : ℕ) → Some r ≡ listed_place t n → (is_listed t n ≡ true) × (r ≡ place_of t n)
  unfolding listed_place
  place_listed n r e = go (case (is_listed t n))
    where
      go : Case (is_listed t n) → (is_listed t n ≡ true) × (r ≡ place_of t n)
      go (pass l) = let same : Some r ≡ Some (place_of t n) = e ∙ rw l refl in (l, cc)
      go (fail l) = let other : Some r ≡ None = e ∙ rw l refl in absurd cc

  pub place_other : (n : Name) → None ≡ listed_place t n → is_listed t n ≡ false
  unfolding listed_place
  place_other n e = go (case (is_listed t n))
    where
      go : Case (is_listed t n) → is_listed t n ≡ false
      go (pass l) = let other : None ≡ Some (place_of t n) = e ∙ rw l refl in absurd cc
      go (fail l) = l
