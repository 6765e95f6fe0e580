-- The two choices that lines go by: a ticket of a kind, a grant that has its entry.
use Prim.Native.Nat.{ℕ, ◌/◌, ◌%◌, ◌≤◌, ◌<◌}
use mathlib.Core.Path.{◌≡◌, sym, ap, ◌∙◌}
use mathlib.Core.Bool.{true}
use mathlib.Core.List.{List}
use Rattle.tables.specs.declared.{Name.Name, Ticket.Ticket, Tables.Tables}
use Rattle.tables.specs.Lookup.{lookup, place_of, entry_of}
use Rattle.image.specs.Image.{decode}
use Rattle.image_places.proofs.Kept.{kept_pad, kept_program}
use Rattle.image_find.proofs.Laws.{decoded_sized}
use Rattle.saved.specs.Save.{ticket_row, entry_row}
use Rattle.saved_blocks.specs.Blocks.{of_kind, has_entry, ticket_line, entry_line}
use Rattle.saved_blocks.proofs.BlockLaws.{kind_alive, entry_head, entry_alive}
use Rattle.text_loans.specs.Walk.{Ordered, ticket_in}
use Rattle.text_loans.proofs.Places.{ticket_there}
use Rattle.text_blocks.specs.Rows.{ticket_row_at, entry_row_at}
use Rattle.text_blocks.proofs.Going.{Choice}

module _ (image : List ℕ) where
  abbrev t : Tables
  t = decode image

  -- ---- a ticket of a kind
  module _ (kind : ℕ) (some : 1 ≤ kind) where
    ticket_here : (n : Name) → of_kind kind (lookup t n) ≡ true → ticket_line t n ≡ ticket_row_at image (place_of t n)
    ticket_here n e =
        let l = kind_alive kind some (lookup t n) e in
        let on : n.pad ≡ place_of t n / 64 = sym (kept_pad t (decoded_sized image) n l) in
        let of : n.program ≡ place_of t n / 8 % 8 = sym (kept_program t (decoded_sized image) n l) in
        let there : lookup t n ≡ ticket_in image (place_of t n) = sym (ticket_there image n l) in
        λ i. ticket_row (on i) (of i) (there i)

    pub tickets : Ordered image → (program : ℕ) → program < 32 → Choice image (of_kind kind) (ticket_line t) (ticket_row_at image) program
    tickets o program low = record { tables = o; low = low; alive = kind_alive kind some; here = ticket_here }

  -- ---- a grant that has its entry
  entry_here : Ordered image → (n : Name) → has_entry t (lookup t n) ≡ true → entry_line t n ≡ entry_row_at image (place_of t n)
  entry_here o n e =
      let dock : (lookup t n).dock ≡ n = o.order.rules.dock n (entry_head t (lookup t n) e) in
      let there : (ticket_in image (place_of t n)).dock ≡ (lookup t n).dock
      = ap (λ (k : Ticket). k.dock) (ticket_there image n (entry_alive t (lookup t n) e)) in
      ap (λ (m : Name). entry_row (entry_of t m)) (sym (there ∙ dock))

  pub entries : Ordered image → (program : ℕ) → program < 32 → Choice image (has_entry t) (entry_line t) (entry_row_at image) program
  entries o program low = record { tables = o; low = low; alive = entry_alive t; here = entry_here o }
