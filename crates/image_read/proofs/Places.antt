-- What stands at each place of an image.
use Prim.Native.Nat.{ℕ, ◌<◌}
use Prim.Native.Nat.{◌-◌}
use mathlib.Core.Path.{◌≡◌, refl, ap, subst, ◌∙◌}
use mathlib.Core.List.{List}
use lib.ListN.{length, get_or, take, drop}
use Rattle.lists.proofs.Front.{rest_part}
use Rattle.lists.proofs.PartLaws.{length_tabulate, get_or_tabulate}
use Rattle.tables.specs.declared.Ticket.{Ticket}
use Rattle.tables.specs.Names.{free, no_entry}
use Rattle.image.specs.Numbers.{number_at}
use Rattle.image.specs.Image.{kind_of, read_ticket, read_entry, ticket_start, entry_start, decode}
use Rattle.image.proofs.NumberLaws.{number_drop}
use Rattle.image_read.specs.Places.{last_start, tickets_in, lasts_in, entries_in}

module _ (bytes : List ℕ) where
  pub tickets_long : length (tickets_in bytes) ≡ 256
  unfolding tickets_in
  tickets_long = length_tabulate 256 (λ place. read_ticket (drop (ticket_start place) bytes))

  pub lasts_long_lem : length (lasts_in bytes) ≡ 32
  unfolding lasts_in
  lasts_long_lem = length_tabulate 32 (λ program. number_at (last_start program) bytes)

  pub entries_long : length (entries_in bytes) ≡ 256
  unfolding entries_in
  entries_long = length_tabulate 256 (λ place. read_entry (drop (entry_start place) bytes))

  pub ticket_here : (place : ℕ) → place < 256 → get_or (tickets_in bytes) place free ≡ read_ticket (drop (ticket_start place) bytes)
  unfolding tickets_in
  ticket_here place h = get_or_tabulate 256 (λ p. read_ticket (drop (ticket_start p) bytes)) place free h

  -- its kind is that of the number in front
  pub kind_here : (place : ℕ) → place < 256 → (get_or (tickets_in bytes) place free).kind ≡ kind_of (number_at (ticket_start place) bytes)
  unfolding read_ticket
  kind_here place h = ap (λ (k : Ticket). k.kind) (ticket_here place h) ∙ ap kind_of (number_drop (ticket_start place) bytes)

  pub last_here : (program : ℕ) → program < 32 → get_or (lasts_in bytes) program 0 ≡ number_at (last_start program) bytes
  unfolding lasts_in
  last_here program h = get_or_tabulate 32 (λ p. number_at (last_start p) bytes) program 0 h

  pub entry_here : (place : ℕ) → place < 256 → get_or (entries_in bytes) place no_entry ≡ read_entry (drop (entry_start place) bytes)
  unfolding entries_in
  entry_here place h = get_or_tabulate 256 (λ p. read_entry (drop (entry_start p) bytes)) place no_entry h

  -- the entries are those of the tables
  pub entries_decoded : entries_in bytes ≡ (decode bytes).entries
  unfolding entries_in decode
  entries_decoded = refl

-- the part of an array from `at` on: its length is the number of its type
pub rest_of_array : {A : Type 0} (l : List A) (at n : ℕ) → length l ≡ n → take (n - at) (drop at l) ≡ drop at l
rest_of_array l at n long = subst (λ (m : ℕ). take (m - at) (drop at l) ≡ drop at l) long (rest_part l at)
