-- The image and the tables, either had back from the other: what is written is read again, what is written is an image, and what is read
-- from an image is written again as it was.
use Prim.Native.Nat.{ℕ, ◌+◌, ◌*◌, ◌/◌, ◌%◌, ◌≤◌, ◌<◌}
use native.Mathlib.Omega.{arith}
use mathlib.Core.Path.{◌≡◌, refl, sym, ap, subst, ◌∙◌}
use mathlib.Core.Bool.{Bool, true, false, ◌&&◌, cond}
use mathlib.Core.List.{List, [], ◌∷◌, ◌++◌}
use lib.Dec.{leb, eqb}
use lib.ListN.{length, get_or, take, drop}
use lib.Seq.{drop-drop, take-add, take_all}
use borrow.Author.Tests.{leb-true, eqb-true, eq-eqb}
use Rattle.lists.specs.Parts.{tabulate, joined}
use Rattle.lists.proofs.Tests.{and_l, and_r, and_intro}
use Rattle.lists.proofs.Below.{below_at}
use Rattle.lists.proofs.PartLaws.{every_intro, every_at, Begins, begins_all, begins_front, begins_behind, part_begins, parts_back, parts_cut}
use Rattle.rights.specs.Rules.{rights_of}
use Rattle.tables.specs.declared.{Name.Name, Kind.Kind, Ticket.Ticket, Program.Program, Pad.Pad, Entry.Entry, Tables.Tables}
use Rattle.tables.specs.declared.Kind.TheVariants.{Free, Taken, Received, Child, Recall}
use Rattle.tables.specs.Names.{name_of, free, no_entry, no_program, no_pad}
use Rattle.tables.specs.Lookup.{pad_at, Sized}
use Rattle.image.specs.Layout.{ticket_size, program_last_at, program_size, pad_size, entry_size, entries_at, entries_size, image_size}
use Rattle.image.specs.Numbers.{bytes_of, number_at}
use Rattle.image.specs.Image.{kind_number, kind_of, ticket_numbers, ticket_bytes, read_ticket, program_bytes, read_program, pad_bytes, read_pad}
use Rattle.image.specs.Image.{entry_numbers, entry_bytes, read_entry, encode, decode, ticket_start, entry_start, kinds_ok, lives_ok, is_image}
use Rattle.image.proofs.NumberLaws.{number_back, number_begins, number_drop, Bytes, bytes_drop, numbers_cut}
use Rattle.image.proofs.Lengths.{ticket_long, tickets_long, program_long, pad_long, pads_long, entry_long, image_long}

-- ---- what is written is read again
kind_back : (k : Kind) → kind_of (kind_number k % 256 + 256 * (kind_number k / 256)) ≡ k
unfolding kind_of
kind_back Free = refl
kind_back Taken = refl
kind_back Received = refl
kind_back Child = refl
kind_back Recall = refl

live_back : (live : Bool) → eqb (cond live 1 0 % 256 + 256 * (cond live 1 0 / 256)) 1 ≡ live
live_back true = refl
live_back false = refl

name_back : (n : Name)
    → name_of (n.pad % 256 + 256 * (n.pad / 256)) (n.program % 256 + 256 * (n.program / 256)) (n.number % 256 + 256 * (n.number / 256)) ≡ n
name_back n = λ i. name_of (number_back n.pad i) (number_back n.program i) (number_back n.number i)

pub ticket_back : (k : Ticket) (bytes : List ℕ) → Begins (ticket_bytes k) bytes → read_ticket bytes ≡ k
unfolding ticket_bytes ticket_numbers bytes_of read_ticket
ticket_back k bytes it =
    ap read_ticket it.same
    ∙ (λ i. record {
      kind = kind_back k.kind i;
      number = number_back k.number i;
      own = number_back k.own i;
      other = name_back k.other i;
      first = number_back k.first i;
      count = number_back k.count i;
      rights = rights_of (number_back k.rights.bits i);
      dock = name_back k.dock i;
    })

pub entry_back : (e : Entry) (bytes : List ℕ) → Begins (entry_bytes e) bytes → read_entry bytes ≡ e
unfolding entry_bytes entry_numbers bytes_of read_entry
entry_back e bytes it =
    ap read_entry it.same
    ∙ (λ i. record {
      live = live_back e.live i;
      name = name_back e.name i;
      parent = name_back e.parent i;
      first = number_back e.first i;
      count = number_back e.count i;
      rights = rights_of (number_back e.rights.bits i);
    })

abbrev ticket_part : Program → ℕ → List ℕ
ticket_part p i = ticket_bytes (get_or p.tickets i free)

module _ (p : Program) (bytes : List ℕ) (it : Begins (program_bytes p) bytes) where
  tickets_begin : Begins (joined 8 (ticket_part p)) bytes
  unfolding program_bytes
  tickets_begin = begins_front (joined 8 (ticket_part p)) (bytes_of (p.last ∷ [])) bytes it

  ticket_begins : (i : ℕ) → i < 8 → Begins (ticket_part p i) (drop (ticket_size * i) bytes)
  ticket_begins = part_begins ticket_size 8 ticket_bytes free ticket_long p.tickets bytes tickets_begin

  program_back : length p.tickets ≡ 8 → read_program bytes ≡ p
  unfolding program_bytes read_program
  program_back long =
      let tickets = parts_back ticket_size 8 ticket_bytes free read_ticket ticket_long p.tickets bytes tickets_begin long (λ i h. ticket_back _ _) in
      let behind = begins_behind (joined 8 (ticket_part p)) (bytes_of (p.last ∷ [])) bytes it program_last_at (tickets_long p) in
      let last = sym (number_drop program_last_at bytes) ∙ number_begins p.last [] (drop program_last_at bytes) behind in
      λ i. record { tickets = tickets i; last = last i }

module _ (p : Pad) (bytes : List ℕ) (it : Begins (pad_bytes p) bytes) where
  program_begins : (i : ℕ) → i < 8 → Begins (program_bytes (get_or p.programs i no_program)) (drop (program_size * i) bytes)
  unfolding pad_bytes
  program_begins = part_begins program_size 8 program_bytes no_program program_long p.programs bytes it

  pad_back : length p.programs ≡ 8 → ((i : ℕ) → i < 8 → length (get_or p.programs i no_program).tickets ≡ 8) → read_pad bytes ≡ p
  unfolding pad_bytes read_pad
  pad_back long each =
      let programs =
      parts_back program_size 8 program_bytes no_program read_program program_long p.programs bytes it long (λ i h b. program_back _ _ b (each i h)) in
      λ i. record { programs = programs i }

module _ (t : Tables) where
  abbrev pad_part : ℕ → List ℕ
  pad_part i = pad_bytes (pad_at t i)

  abbrev entry_part : ℕ → List ℕ
  entry_part i = entry_bytes (get_or t.entries i no_entry)

  pads_begin : Begins (joined 4 pad_part) (encode t)
  unfolding encode
  pads_begin = begins_front (joined 4 pad_part) (joined 256 entry_part) (encode t) (begins_all (encode t))

  entries_begin : Begins (joined 256 entry_part) (drop entries_at (encode t))
  unfolding encode
  entries_begin = begins_behind (joined 4 pad_part) (joined 256 entry_part) (encode t) (begins_all (encode t)) entries_at (pads_long t)

-- the entries stand behind the pads
entries_in_lem : (bytes : List ℕ) → (decode bytes).entries ≡ tabulate 256 (λ i. read_entry (drop (entry_size * i) (drop entries_at bytes)))
unfolding decode
entries_in_lem bytes = λ j. tabulate 256 (λ i. read_entry (sym (drop-drop (entry_size * i) entries_at bytes) j))

pub decode_encode : (t : Tables) → Sized t → decode (encode t) ≡ t
unfolding decode
decode_encode t s =
    let pads =
    parts_back pad_size 4 pad_bytes no_pad read_pad pad_long t.pads (encode t) (pads_begin t) s.pads
    (λ i h b. pad_back _ _ b (s.programs i h) (λ j low. s.tickets i j h low)) in
    let entries =
    entries_in_lem (encode t)
    ∙ parts_back entry_size 256 entry_bytes no_entry read_entry entry_long t.entries (drop entries_at (encode t)) (entries_begin t) s.entries
    (λ i h. entry_back _ _) in
    λ i. record { pads = pads i; entries = entries i }

-- ---- what is written is an image
-- the ticket in place i of program b of pad a
kind_place : (a b i : ℕ) (bytes : List ℕ) → b < 8 → i < 8
    → number_at (ticket_start (64 * a + 8 * b + i)) bytes ≡ number_at 0 (drop (ticket_size * i) (drop (program_size * b) (drop (pad_size * a) bytes)))
kind_place a b i bytes hb hi =
    let program : (64 * a + 8 * b + i) / 8 ≡ 8 * a + b = omega arith in
    let place : (64 * a + 8 * b + i) % 8 ≡ i = omega arith in
    let start : program_size * (8 * a + b) + ticket_size * i ≡ pad_size * a + (program_size * b + ticket_size * i) = omega arith in
    rw (program, place, start, drop-drop (ticket_size * i) (program_size * b), drop-drop, number_drop)

entry_place_lem : (i : ℕ) (bytes : List ℕ) → number_at (entry_start i) bytes ≡ number_at 0 (drop (entry_size * i) (drop entries_at bytes))
entry_place_lem i bytes = rw (drop-drop, number_drop)

kind_low : (k : Kind) → leb (kind_number k) 4 ≡ true
kind_low Free = refl
kind_low Taken = refl
kind_low Received = refl
kind_low Child = refl
kind_low Recall = refl

live_low : (live : Bool) → leb (cond live 1 0) 1 ≡ true
live_low true = refl
live_low false = refl

pub ticket_kind : (k : Ticket) (bytes : List ℕ) → Begins (ticket_bytes k) bytes → leb (number_at 0 bytes) 4 ≡ true
unfolding ticket_bytes ticket_numbers
ticket_kind k bytes it = rw (number_begins (kind_number k.kind) _ bytes it) (kind_low k.kind)

pub entry_live : (e : Entry) (bytes : List ℕ) → Begins (entry_bytes e) bytes → leb (number_at 0 bytes) 1 ≡ true
unfolding entry_bytes entry_numbers
entry_live e bytes it = rw (number_begins (cond e.live 1 0) _ bytes it) (live_low e.live)

module _ (t : Tables) where
  kind_ok : (a b i : ℕ) → a < 4 → b < 8 → i < 8 → leb (number_at (ticket_start (64 * a + 8 * b + i)) (encode t)) 4 ≡ true
  kind_ok a b i ha hb hi =
      let pad = part_begins pad_size 4 pad_bytes no_pad pad_long t.pads (encode t) (pads_begin t) a ha in
      let ticket = ticket_begins _ _ (program_begins _ _ pad b hb) i hi in
      rw (kind_place a b i (encode t) hb hi) (ticket_kind _ _ ticket)

  kinds_ok_lem : kinds_ok (encode t) ≡ true
  unfolding kinds_ok
  kinds_ok_lem =
      every_intro 256 (λ place. leb (number_at (ticket_start place) (encode t)) 4)
      (λ place h.
      let same : 64 * (place / 8 / 8) + 8 * (place / 8 % 8) + place % 8 ≡ place = omega arith in
      subst (λ (p : ℕ). leb (number_at (ticket_start p) (encode t)) 4 ≡ true) same
      (kind_ok (place / 8 / 8) (place / 8 % 8) (place % 8) (omega arith) (omega arith) (omega arith)))

  lives_ok_lem : lives_ok (encode t) ≡ true
  unfolding lives_ok
  lives_ok_lem =
      every_intro 256 (λ place. leb (number_at (entry_start place) (encode t)) 1)
      (λ i h. rw entry_place_lem (entry_live _ _ (part_begins entry_size 256 entry_bytes no_entry entry_long t.entries _ (entries_begin t) i h)))

pub encode_is_image : (t : Tables) → is_image (encode t) ≡ true
unfolding is_image
encode_is_image t = and_intro (and_intro (eq-eqb _ image_size (image_long t)) (kinds_ok_lem t)) (lives_ok_lem t)

-- ---- what is read from an image is written again
pub kind_again : (n : ℕ) → n ≤ 4 → kind_number (kind_of n) ≡ n
unfolding kind_of
kind_again n h = eqb-true _ n (below_at 5 (λ m. eqb (kind_number (kind_of m)) m) refl n (omega arith))

live_again : (n : ℕ) → n ≤ 1 → cond (eqb n 1) 1 0 ≡ n
live_again n h = eqb-true _ n (below_at 2 (λ m. eqb (cond (eqb m 1) 1 0) m) refl n (omega arith))

ticket_again : (bytes : List ℕ) → Bytes ticket_size bytes → number_at 0 bytes ≤ 4 → ticket_bytes (read_ticket bytes) ≡ take ticket_size bytes
unfolding ticket_bytes ticket_numbers read_ticket bytes_of tabulate
ticket_again bytes b low = rw (kind_again _ low) (numbers_cut 12 bytes b)

entry_again : (bytes : List ℕ) → Bytes entry_size bytes → number_at 0 bytes ≤ 1 → entry_bytes (read_entry bytes) ≡ take entry_size bytes
unfolding entry_bytes entry_numbers read_entry bytes_of tabulate
entry_again bytes b low = rw (live_again _ low) (numbers_cut 10 bytes b)

program_again : (bytes : List ℕ) → Bytes program_size bytes → ((i : ℕ) → i < 8 → number_at 0 (drop (ticket_size * i) bytes) ≤ 4)
    → program_bytes (read_program bytes) ≡ take program_size bytes
unfolding program_bytes read_program bytes_of tabulate
program_again bytes b low =
    let tickets = parts_cut ticket_size 8 ticket_bytes free read_ticket bytes (λ i h. ticket_again _ (bytes_drop (ticket_size * i) ticket_size (omega arith) b) (low i h)) in
    let last = ap (λ (n : ℕ). bytes_of (n ∷ [])) (sym (number_drop program_last_at bytes)) ∙ numbers_cut 1 (drop program_last_at bytes) (bytes_drop program_last_at 2 (omega arith) b) in
    (λ i. tickets i ++ last i) ∙ sym (take-add program_last_at 2 bytes)

pad_again : (bytes : List ℕ) → Bytes pad_size bytes → ((b i : ℕ) → b < 8 → i < 8 → number_at 0 (drop (ticket_size * i) (drop (program_size * b) bytes)) ≤ 4)
    → pad_bytes (read_pad bytes) ≡ take pad_size bytes
unfolding pad_bytes read_pad
pad_again bytes b low =
    parts_cut program_size 8 program_bytes no_program read_program bytes
    (λ i h. program_again _ (bytes_drop (program_size * i) program_size (omega arith) b) (λ j. low i j h))

-- ---- the tests of an image
module _ (bytes : List ℕ) (e : is_image bytes ≡ true) where
  pub image_whole : length bytes ≡ image_size
  unfolding is_image
  image_whole = eqb-true _ image_size (and_l _ (kinds_ok bytes) (and_l _ (lives_ok bytes) e))

  pub image_kinds : kinds_ok bytes ≡ true
  unfolding is_image
  image_kinds = and_r (eqb (length bytes) image_size) (kinds_ok bytes) (and_l _ (lives_ok bytes) e)

  pub image_lives : lives_ok bytes ≡ true
  unfolding is_image
  image_lives = and_r (eqb (length bytes) image_size && kinds_ok bytes) (lives_ok bytes) e

  kinds : (a b i : ℕ) → a < 4 → b < 8 → i < 8 → number_at 0 (drop (ticket_size * i) (drop (program_size * b) (drop (pad_size * a) bytes))) ≤ 4
  unfolding kinds_ok
  kinds a b i ha hb hi =
      rw (sym (kind_place a b i bytes hb hi))
      (leb-true _ 4 (every_at 256 (λ place. leb (number_at (ticket_start place) bytes) 4) image_kinds (64 * a + 8 * b + i) (omega arith)))

  lives : (i : ℕ) → i < 256 → number_at 0 (drop (entry_size * i) (drop entries_at bytes)) ≤ 1
  unfolding lives_ok
  lives i h =
      rw (sym (entry_place_lem i bytes)) (leb-true _ 1 (every_at 256 (λ place. leb (number_at (entry_start place) bytes) 1) image_lives i h))

pub is_image_lem : (bytes : List ℕ) → length bytes ≡ image_size → kinds_ok bytes ≡ true → lives_ok bytes ≡ true → is_image bytes ≡ true
unfolding is_image
is_image_lem bytes long kinds lives = and_intro (and_intro (eq-eqb _ image_size long) kinds) lives

pub encode_decode : (bytes : List ℕ) → ((i : ℕ) → get_or bytes i 0 < 256) → is_image bytes ≡ true → encode (decode bytes) ≡ bytes
unfolding encode decode
encode_decode bytes small e =
    let whole : Bytes image_size bytes = record { long = omega (arith, image_whole bytes e); small = small } in
    let pads =
    parts_cut pad_size 4 pad_bytes no_pad read_pad bytes
    (λ i h. pad_again _ (bytes_drop (pad_size * i) pad_size (omega arith) whole) (λ b j. kinds bytes e i b j h)) in
    let entries =
    ap (λ (l : List Entry). joined 256 (λ i. entry_bytes (get_or l i no_entry))) (entries_in_lem bytes)
    ∙ parts_cut entry_size 256 entry_bytes no_entry read_entry (drop entries_at bytes)
    (λ i h. entry_again _ (bytes_drop (entry_size * i) entry_size (omega arith) (bytes_drop entries_at entries_size (omega arith) whole)) (lives bytes e i h)) in
    (λ i. pads i ++ entries i) ∙ sym (take-add entries_at entries_size bytes) ∙ take_all image_size bytes (omega (arith, image_whole bytes e))
