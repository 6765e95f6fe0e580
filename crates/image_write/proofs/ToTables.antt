-- From what an image shows, by place, to the tables that it holds: tickets and last numbers by place, with the entries, are the tables.
use Prim.Native.Nat.{ℕ, ◌+◌, ◌*◌, ◌/◌, ◌%◌, ◌<◌}
use native.Mathlib.Omega.{arith}
use mathlib.Core.Path.{◌≡◌, sym, ap, subst, ◌∙◌}
use mathlib.Core.Bool.{Bool, false}
use mathlib.Core.List.{List}
use lib.Dec.{eqb}
use lib.ListN.{length, get_or, get_or-map}
use lib.Seq.{ext_get_or}
use borrow.Author.Tests.{eqb-true, eqb-false}
use Rattle.lists.proofs.Tests.{Case, pass, fail, case}
use Rattle.tables.specs.declared.{Name.Name, Ticket.Ticket, Program.Program, Entry.Entry, Tables.Tables}
use Rattle.tables.specs.Names.{same_program, free, no_program, no_pad}
use Rattle.tables.specs.Lookup.{Sized, pad_at, program_at, tickets_of, last_of}
use Rattle.tables.specs.Change.{with_program, drop_ticket, drop_tickets}
use Rattle.tables.proofs.NameLaws.{program_ne}
use Rattle.tables.proofs.Programs.{dropped_tickets, dropped_last, program_here, program_beside}
use Rattle.image.specs.Image.{decode}
use Rattle.image_read.specs.Places.{tickets_in}
use Rattle.image_read.proofs.Places.{entries_decoded}
use Rattle.image_places.specs.Places.{placed, Flattened}
use Rattle.image_find.proofs.Laws.{flattened, decoded_sized}
use Rattle.image_write.specs.Shows.{Shows, Holds}

-- ---- places and programs
module _ (a b i : ℕ) (p3 : a < 4) (q7 : b < 8) (h : i < 8) where
  pad_of : (64 * a + 8 * b + i) / 64 ≡ a
  pad_of = omega (arith, q7, h)

  program_of_lem : (64 * a + 8 * b + i) / 8 % 8 ≡ b
  program_of_lem = omega (arith, q7, h)

  place_of_lem : (64 * a + 8 * b + i) % 8 ≡ i
  place_of_lem = omega (arith, h)

  -- the ticket in place i of a program
  pub at_place : {t : Tables} {ts : List Ticket} {ls : List ℕ} → Flattened t ts ls → get_or ts (64 * a + 8 * b + i) free ≡ get_or (tickets_of t a b) i free
  at_place {t} {ts} {ls} f =
      f.same (64 * a + 8 * b + i) (omega (arith, p3, q7, h))
      ∙ (λ j. get_or (tickets_of t (pad_of j) (program_of_lem j)) (place_of_lem j) free)

-- ---- the same places are the same tables
module _ (t t' : Tables) (z : Sized t) (z' : Sized t') (ts : List Ticket) (ls : List ℕ) (f : Flattened t ts ls) (f' : Flattened t' ts ls) where
  same_tickets : (a b : ℕ) → a < 4 → b < 8 → tickets_of t a b ≡ tickets_of t' a b
  same_tickets a b p q =
      ext_get_or free (tickets_of t a b) (tickets_of t' a b) (z.tickets a b p q ∙ sym (z'.tickets a b p q))
      (λ i h. let low : i < 8 = omega (arith, h, z.tickets a b p q) in sym (at_place a b i p q low f) ∙ at_place a b i p q low f')

  same_program_lem : (a b : ℕ) → a < 4 → b < 8 → program_at t a b ≡ program_at t' a b
  same_program_lem a b p q =
      let tickets = same_tickets a b p q in
      let last : last_of t a b ≡ last_of t' a b = sym (f.last a b p q) ∙ f'.last a b p q in
      λ j. record { tickets = tickets j; last = last j }

  same_pad : (a : ℕ) → a < 4 → pad_at t a ≡ pad_at t' a
  same_pad a p =
      let programs : (pad_at t a).programs ≡ (pad_at t' a).programs =
      ext_get_or no_program (pad_at t a).programs (pad_at t' a).programs (z.programs a p ∙ sym (z'.programs a p))
      (λ b h. same_program_lem a b p (omega (arith, h, z.programs a p))) in
      λ j. record { programs = programs j }

  pub same_tables : t.entries ≡ t'.entries → t ≡ t'
  same_tables e =
      let pads : t.pads ≡ t'.pads =
      ext_get_or no_pad t.pads t'.pads (z.pads ∙ sym z'.pads) (λ a h. same_pad a (omega (arith, h, z.pads))) in
      λ j. record { pads = pads j; entries = e j }

-- an image that shows the tables' tickets, last numbers and entries holds them
pub holds : {image : List ℕ} {ts : List Ticket} {ls : List ℕ} {es : List Entry} (t : Tables) → Sized t → Flattened t ts ls → t.entries ≡ es
    → Shows image ts ls es → Holds image t
holds {image} {ts} {ls} {es} t z f e shows = record {
  is = shows.is;
  tables = same_tables (decode image) t (decoded_sized image) z ts ls shown f (sym (entries_decoded image) ∙ shows.entries ∙ sym e);
}
  where
    shown : Flattened (decode image) ts ls
    shown = subst (λ (l : List Ticket). Flattened (decode image) l ls) shows.tickets
        (subst (λ (l : List ℕ). Flattened (decode image) (tickets_in image) l) shows.lasts (flattened image))

-- ---- tickets removed
module _ (gone : Name → Bool) (t : Tables) (ts ts' : List Ticket) (ls : List ℕ) (f : Flattened t ts ls) where
  dropped_at : (p : ℕ) → placed (drop_tickets gone t) p ≡ drop_ticket gone (p / 64) (p / 8 % 8) (placed t p)
  unfolding drop_ticket
  dropped_at p =
      ap (λ (l : List Ticket). get_or l (p % 8) free) (dropped_tickets gone t (p / 64) (p / 8 % 8))
      ∙ get_or-map (drop_ticket gone (p / 64) (p / 8 % 8)) (tickets_of t (p / 64) (p / 8 % 8)) (p % 8) free

  pub dropped_flat : length ts' ≡ 256 → ((p : ℕ) → p < 256 → get_or ts' p free ≡ drop_ticket gone (p / 64) (p / 8 % 8) (get_or ts p free))
      → Flattened (drop_tickets gone t) ts' ls
  dropped_flat long each = record {
    long = long;
    same = λ p h. each p h ∙ ap (drop_ticket gone (p / 64) (p / 8 % 8)) (f.same p h) ∙ sym (dropped_at p);
    lasts_long = f.lasts_long;
    last = λ a b p q. f.last a b p q ∙ sym (dropped_last gone t a b);
  }

-- ---- a program replaced: its eight tickets and its last number, and nothing else
module _ (t : Tables) (z : Sized t) (a b : ℕ) (p3 : a < 4) (q7 : b < 8) (x : Program) (ts ts' : List Ticket) (ls ls' : List ℕ) (f : Flattened t ts ls) where
  apart : (a' b' : ℕ) → (8 * a' + b' ≡ 8 * a + b → ⊥) → same_program a' b' a b ≡ false
  apart a' b' ne = program_ne a' b' a b (λ e g. ne (λ i. 8 * e i + g i))

  pub replaced_flat : length ts' ≡ 256 → length ls' ≡ 32
      → ((i : ℕ) → i < 8 → get_or ts' (64 * a + 8 * b + i) free ≡ get_or x.tickets i free)
      → ((p : ℕ) → p < 256 → (p / 8 ≡ 8 * a + b → ⊥) → get_or ts' p free ≡ get_or ts p free)
      → get_or ls' (8 * a + b) 0 ≡ x.last
      → ((q : ℕ) → q < 32 → (q ≡ 8 * a + b → ⊥) → get_or ls' q 0 ≡ get_or ls q 0)
      → Flattened (with_program t a b x) ts' ls'
  replaced_flat long lasts_long here others last lasts = record {
    long = long;
    same = λ p h. same p h (case (eqb (p / 8) (8 * a + b)));
    lasts_long = lasts_long;
    last = λ a' b' p q. last_at a' b' p q (case (eqb (8 * a' + b') (8 * a + b)));
  }
    where
      there : program_at (with_program t a b x) a b ≡ x
      there = program_here t z a b (omega (arith, p3)) (omega (arith, q7)) x

      beside : (a' b' : ℕ) → (8 * a' + b' ≡ 8 * a + b → ⊥) → program_at (with_program t a b x) a' b' ≡ program_at t a' b'
      beside a' b' ne = program_beside t z a b (omega (arith, p3)) (omega (arith, q7)) x a' b' (apart a' b' ne)

      same : (p : ℕ) → p < 256 → Case (eqb (p / 8) (8 * a + b)) → get_or ts' p free ≡ placed (with_program t a b x) p
      same p h (fail e) =
          let ne : p / 8 ≡ 8 * a + b → ⊥ = eqb-false (p / 8) (8 * a + b) e in
          others p h ne ∙ f.same p h
          ∙ sym (ap (λ (q : Program). get_or q.tickets (p % 8) free)
          (beside (p / 64) (p / 8 % 8) (λ g. ne (omega (arith, g)))))
      same p h (pass e) =
          let g : p / 8 ≡ 8 * a + b = eqb-true (p / 8) (8 * a + b) e in
          let pa : p / 64 ≡ a = omega (arith, g, q7) in
          let pb : p / 8 % 8 ≡ b = omega (arith, g, q7) in
          let pp : p ≡ 64 * a + 8 * b + p % 8 = omega (arith, g) in
          ap (λ (m : ℕ). get_or ts' m free) pp ∙ here (p % 8) (omega arith)
          ∙ sym ((λ j. get_or (tickets_of (with_program t a b x) (pa j) (pb j)) (p % 8) free) ∙ ap (λ (q : Program). get_or q.tickets (p % 8) free) there)

      last_at : (a' b' : ℕ) → a' < 4 → b' < 8 → Case (eqb (8 * a' + b') (8 * a + b)) → get_or ls' (8 * a' + b') 0 ≡ last_of (with_program t a b x) a' b'
      last_at a' b' p q (fail e) =
          let ne : 8 * a' + b' ≡ 8 * a + b → ⊥ = eqb-false (8 * a' + b') (8 * a + b) e in
          lasts (8 * a' + b') (omega (arith, p, q)) ne ∙ f.last a' b' p q ∙ sym (ap (λ (y : Program). y.last) (beside a' b' ne))
      last_at a' b' p q (pass e) =
          let g : 8 * a' + b' ≡ 8 * a + b = eqb-true (8 * a' + b') (8 * a + b) e in
          let ea : a' ≡ a = omega (arith, g, q, q7) in
          let eb : b' ≡ b = omega (arith, g, q, q7) in
          ap (λ (m : ℕ). get_or ls' m 0) g ∙ last ∙ sym ((λ j. last_of (with_program t a b x) (ea j) (eb j)) ∙ ap (λ (y : Program). y.last) there)
