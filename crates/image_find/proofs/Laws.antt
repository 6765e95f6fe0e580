-- An image by place says the tables that are read from it: its tickets and last numbers stand where the tables' do.
use Prim.Native.Nat.{ℕ, ◌+◌, ◌*◌, ◌/◌, ◌%◌, ◌<◌}
use native.Mathlib.Omega.{arith}
use mathlib.Core.Path.{◌≡◌, refl, sym, ap, ◌∙◌}
use mathlib.Core.List.{List}
use lib.ListN.{length, get_or, drop}
use lib.Seq.{drop-drop}
use Rattle.lists.proofs.PartLaws.{length_tabulate, get_or_tabulate}
use Rattle.tables.specs.declared.{Program.Program, Pad.Pad}
use Rattle.tables.specs.Names.{free, no_program, no_pad}
use Rattle.tables.specs.Lookup.{Sized, pad_at, program_at, last_of}
use Rattle.image.specs.Layout.{ticket_size, program_last_at, program_size, pad_size}
use Rattle.image.specs.Numbers.{number_at}
use Rattle.image.specs.Image.{read_ticket, read_program, read_pad, decode}
use Rattle.image.proofs.NumberLaws.{number_drop}
use Rattle.image_read.specs.Places.{last_start, tickets_in, lasts_in}
use Rattle.image_read.proofs.Places.{tickets_long, lasts_long_lem, entries_long, ticket_here, last_here, entries_decoded}
use Rattle.image_places.specs.Places.{placed, Flattened}

module _ (bytes : List ℕ) where
  pad_read : (a : ℕ) → a < 4 → pad_at (decode bytes) a ≡ read_pad (drop (pad_size * a) bytes)
  unfolding decode
  pad_read a h = get_or_tabulate 4 (λ i. read_pad (drop (pad_size * i) bytes)) a no_pad h

  program_in : (a b : ℕ) → b < 8 → get_or (read_pad (drop (pad_size * a) bytes)).programs b no_program ≡ read_program (drop (program_size * b) (drop (pad_size * a) bytes))
  unfolding read_pad
  program_in a b h = get_or_tabulate 8 (λ i. read_program (drop (program_size * i) (drop (pad_size * a) bytes))) b no_program h

  program_read : (a b : ℕ) → a < 4 → b < 8 → program_at (decode bytes) a b ≡ read_program (drop (program_size * b) (drop (pad_size * a) bytes))
  program_read a b p q = ap (λ (x : Pad). get_or x.programs b no_program) (pad_read a p) ∙ program_in a b q

  ticket_in_lem : (part : List ℕ) (i : ℕ) → i < 8 → get_or (read_program part).tickets i free ≡ read_ticket (drop (ticket_size * i) part)
  unfolding read_program
  ticket_in_lem part i h = get_or_tabulate 8 (λ j. read_ticket (drop (ticket_size * j) part)) i free h

  last_in_lem : (part : List ℕ) → (read_program part).last ≡ number_at program_last_at part
  unfolding read_program
  last_in_lem part = refl

  -- where a program begins
  program_start : (a b : ℕ) → drop (program_size * b) (drop (pad_size * a) bytes) ≡ drop (program_size * (8 * a + b)) bytes
  program_start a b =
      let e : pad_size * a + program_size * b ≡ program_size * (8 * a + b) = omega arith in
      drop-drop (program_size * b) (pad_size * a) bytes ∙ ap (λ (m : ℕ). drop m bytes) e

  pub program_there : (a b : ℕ) → a < 4 → b < 8 → program_at (decode bytes) a b ≡ read_program (drop (program_size * (8 * a + b)) bytes)
  program_there a b p q = program_read a b p q ∙ ap read_program (program_start a b)

  ticket_placed : (p : ℕ) → p < 256 → get_or (tickets_in bytes) p free ≡ placed (decode bytes) p
  ticket_placed p h =
      let a : p / 64 < 4 = omega arith in
      let b : p / 8 % 8 < 8 = omega arith in
      let i : p % 8 < 8 = omega arith in
      let s : 8 * (p / 64) + p / 8 % 8 ≡ p / 8 = omega arith in
      ticket_here bytes p h
      ∙ sym
      (ap (λ (q : Program). get_or q.tickets (p % 8) free) (program_there (p / 64) (p / 8 % 8) a b)
      ∙ ticket_in_lem (drop (program_size * (8 * (p / 64) + p / 8 % 8)) bytes) (p % 8) i
      ∙ ap read_ticket (drop-drop (ticket_size * (p % 8)) (program_size * (8 * (p / 64) + p / 8 % 8)) bytes ∙ ap (λ (m : ℕ). drop (program_size * m + ticket_size * (p % 8)) bytes) s))

  last_placed : (a b : ℕ) → a < 4 → b < 8 → get_or (lasts_in bytes) (8 * a + b) 0 ≡ last_of (decode bytes) a b
  last_placed a b p q =
      last_here bytes (8 * a + b) (omega arith)
      ∙ sym (ap (λ (x : Program). x.last) (program_there a b p q) ∙ last_in_lem (drop (program_size * (8 * a + b)) bytes) ∙ at)
    where
      at : number_at program_last_at (drop (program_size * (8 * a + b)) bytes) ≡ number_at (last_start (8 * a + b)) bytes
      at = sym (number_drop program_last_at (drop (program_size * (8 * a + b)) bytes)) ∙ ap (number_at 0) (drop-drop program_last_at (program_size * (8 * a + b)) bytes) ∙ number_drop (last_start (8 * a + b)) bytes

  pub flattened : Flattened (decode bytes) (tickets_in bytes) (lasts_in bytes)
  flattened = record { long = tickets_long bytes; same = ticket_placed; lasts_long = lasts_long_lem bytes; last = last_placed }

  -- ---- tables that are read have their lengths
  pads_long : length (decode bytes).pads ≡ 4
  unfolding decode
  pads_long = length_tabulate 4 (λ i. read_pad (drop (pad_size * i) bytes))

  programs_in : (part : List ℕ) → length (read_pad part).programs ≡ 8
  unfolding read_pad
  programs_in part = length_tabulate 8 (λ i. read_program (drop (program_size * i) part))

  tickets_in_lem : (part : List ℕ) → length (read_program part).tickets ≡ 8
  unfolding read_program
  tickets_in_lem part = length_tabulate 8 (λ i. read_ticket (drop (ticket_size * i) part))

  pub decoded_sized : Sized (decode bytes)
  decoded_sized = record {
    pads = pads_long;
    programs = λ a h. ap (λ (x : Pad). length x.programs) (pad_read a h) ∙ programs_in (drop (pad_size * a) bytes);
    tickets = λ a b p q. ap (λ (x : Program). length x.tickets) (program_there a b p q) ∙ tickets_in_lem (drop (program_size * (8 * a + b)) bytes);
    entries = ap length (sym (entries_decoded bytes)) ∙ entries_long bytes;
  }
