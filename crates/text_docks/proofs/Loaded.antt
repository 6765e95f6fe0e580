-- Where the image held the tables of lines, it holds them with their grants' dock names now.
use Prim.Native.Nat.{ℕ, zero, suc, ◌+◌, ◌*◌, ◌/◌, ◌%◌, ◌<◌}
use native.Mathlib.Omega.{arith}
use mathlib.Core.Path.{◌≡◌, refl, sym, ap, ◌∙◌}
use mathlib.Core.Bool.{true}
use mathlib.Core.List.{List, [], ◌∷◌, map}
use lib.Dec.{eqb}
use lib.ListN.{get_or}
use borrow.Author.Tests.{eqb-true, eqb-false}
use Rattle.lists.specs.Lists.{keep}
use Rattle.lists.specs.Members.{In, first, later}
use Rattle.lists.proofs.Tests.{Case, pass, fail, case, between_low, between_high}
use Rattle.lists.proofs.MemberLaws.{kept}
use Rattle.lists.proofs.Growing.{filled_at}
use Rattle.tables.specs.declared.{Name.Name, Ticket.Ticket, Tables.Tables}
use Rattle.tables.specs.Names.{name_of, free}
use Rattle.tables.specs.Lookup.{last_of}
use Rattle.tables.specs.Chains.{chain_head}
use Rattle.image.proofs.KindNumbers.{grant_kind, recall_kind}
use Rattle.image_places.specs.Places.{placed, Flattened}
use Rattle.image_read.specs.Places.{tickets_in, lasts_in}
use Rattle.image_read.proofs.Places.{tickets_long, lasts_long_lem, entries_decoded}
use Rattle.image_find.proofs.Laws.{flattened}
use Rattle.image_write.specs.Shows.{Holds}
use Rattle.image_write.proofs.ToTables.{holds}
use Rattle.saved.specs.declared.Row.{Row}
use Rattle.saved.specs.Row.{name_in, is_ticket_row}
use Rattle.saved.specs.Load.{ticket_of_program, ticket_from, tables_with}
use Rattle.saved.proofs.RowLaws.{ticket_kind, ticket_is}
use Rattle.saved.proofs.TablesOfLines.{with_tickets, with_sized, with_last_lem}
use Rattle.text_docks.specs.Docks.{with_dock, docked_at, Docked}

-- ---- one line
docked_line : (t : Tables) (p : ℕ) (r : Row) → is_ticket_row r ≡ true → r.pad ≡ p / 64 → r.program ≡ p / 8 % 8
    → docked_at t p (ticket_from (λ n. n) r) ≡ ticket_from (chain_head t) r
unfolding docked_at ticket_from is_ticket_row
docked_line t p r k a b = go (case (eqb r.kind 4))
  where
    name : name_of (p / 64) (p / 8 % 8) r.number ≡ name_in r
    name i = name_of (sym a i) (sym b i) r.number

    go : Case (eqb r.kind 4) → docked_at t p (ticket_from (λ n. n) r) ≡ ticket_from (chain_head t) r
    go (pass e) = rw (recall_kind r.kind (eqb-true r.kind 4 e), e)
    go (fail e) =
        rw (
          grant_kind r.kind (between_low 1 4 r.kind k) (omega (arith, between_high 1 4 r.kind k, eqb-false r.kind 4 e)),
          e,
        )
        (ap (λ (n : Name). with_dock (ticket_from (λ m. m) r) (chain_head t n)) name)

-- ---- all lines of a program
each_mapped : {A B : Type 0} (f g : A → B) (h : B → B) (d : B) (l : List A) → h d ≡ d → ((x : A) → In x l → h (f x) ≡ g x)
    → (i : ℕ) → h (get_or (map f l) i d) ≡ get_or (map g l) i d
each_mapped f g h d [] e same i = e
each_mapped f g h d (x ∷ xs) e same zero = same x (first refl)
each_mapped f g h d (x ∷ xs) e same (suc i) = each_mapped f g h d xs e (λ y m. same y (later m)) i

module _ (lasts : ℕ → ℕ → ℕ) (rows : List Row) where
  abbrev pub bare : Tables
  bare = tables_with (λ n. n) lasts rows

  abbrev pub whole : Tables
  whole = tables_with (chain_head bare) lasts rows

  placed_of : (docks : Name → Name) (p : ℕ) → p < 256
      → placed (tables_with docks lasts rows) p ≡ get_or (map (ticket_from docks) (keep (ticket_of_program (p / 64) (p / 8 % 8)) rows)) (p % 8) free
  placed_of docks p low =
      ap (λ (l : List Ticket). get_or l (p % 8) free) (with_tickets docks lasts rows (p / 64) (p / 8 % 8) (omega (arith, low)) (omega arith))
      ∙ filled_at 8 free (map (ticket_from docks) (keep (ticket_of_program (p / 64) (p / 8 % 8)) rows)) (p % 8) (omega arith)

  free_stays : (p : ℕ) → docked_at bare p free ≡ free
  unfolding docked_at
  free_stays p = refl

  docked_there : (p : ℕ) → p < 256 → docked_at bare p (placed bare p) ≡ placed whole p
  docked_there p low =
      ap (docked_at bare p) (placed_of (λ n. n) p low)
      ∙ each_mapped (ticket_from (λ n. n)) (ticket_from (chain_head bare)) (docked_at bare p) free (keep (ticket_of_program (p / 64) (p / 8 % 8)) rows) (free_stays p)
      (λ r m.
      let t = (kept (ticket_of_program (p / 64) (p / 8 % 8)) r rows m).passes in
      let w = ticket_is (p / 64) (p / 8 % 8) r t in
      docked_line bare p r (ticket_kind (p / 64) (p / 8 % 8) r t) w.0 w.1)
      (p % 8)
      ∙ sym (placed_of (chain_head bare) p low)

  -- ---- the tables
  pub holds_docked : (image image' : List ℕ) → Holds image bare → Docked image image' → Holds image' whole
  unfolding tables_with
  holds_docked image image' h d =
      holds whole (with_sized (chain_head bare) lasts rows) laid
      (ap (λ (t : Tables). t.entries) (sym h.tables) ∙ sym (entries_decoded image) ∙ sym d.entries)
      (record { is = d.is; tickets = refl; lasts = refl; entries = refl })
    where
      laid : Flattened whole (tickets_in image') (lasts_in image')
      laid = record {
        long = tickets_long image';
        same = λ p low.
            d.tickets p low ∙ (λ j. docked_at (h.tables j) p ((flattened image).same p low j))
            ∙ ap (λ (t : Tables). docked_at bare p (placed t p)) h.tables ∙ docked_there p low;
        lasts_long = lasts_long_lem image';
        last = λ p q a b.
            ap (λ (l : List ℕ). get_or l (8 * p + q) 0) d.lasts ∙ (flattened image).last p q a b ∙ ap (λ (t : Tables). last_of t p q) h.tables
            ∙ with_last_lem (λ n. n) lasts rows p q a b ∙ sym (with_last_lem (chain_head bare) lasts rows p q a b);
      }
