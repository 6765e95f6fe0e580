-- The loop over a program's names that pass a test, by number: the lines of those up to a number are put. A line is by name, as it is defined,
-- or by place, as the code makes it.
use Prim.Native.Nat.{ℕ, ◌+◌, ◌*◌, ◌/◌, ◌%◌, ◌≤◌, ◌<◌}
use native.Mathlib.Omega.{arith}
use mathlib.Core.Path.{◌≡◌, refl, sym, ap, subst, ◌∙◌}
use mathlib.Core.Bool.{Bool, true}
use mathlib.Core.List.{List, [], ◌∷◌, ◌++◌, map, map-append}
use lib.ListN.{length, get_or}
use Rattle.std.specs.Prelude.{Some}
use Rattle.lists.specs.Lists.{keep}
use Rattle.lists.specs.Parts.{tabulate}
use Rattle.lists.proofs.PartLaws.{Begins}
use Rattle.tables.specs.declared.{Name.Name, Ticket.Ticket, Tables.Tables}
use Rattle.tables.specs.Kinds.{is_live}
use Rattle.tables.specs.Names.{name_of}
use Rattle.tables.specs.Lookup.{last_of, lookup, place_of, names_of}
use Rattle.tables.proofs.ByNumber.{names_to, names_front}
use Rattle.image.specs.Image.{decode}
use Rattle.image_read.specs.Places.{tickets_in}
use Rattle.image_find.proofs.Laws.{flattened}
use Rattle.image_numbers.specs.declared.Walk.{Walk}
use Rattle.image_numbers.specs.Numbers.{numbers_in, NoneAbove, NextAbove}
use Rattle.image_numbers.specs.Steps.{NextPlace}
use Rattle.image_numbers.proofs.ByNumber.{Stands, next_low, next_stands, next_name, next_none}
use Rattle.text.specs.Appending.{Appends, Countable}
use Rattle.text.proofs.Appending.{append_as, append_none}
use Rattle.saved.specs.declared.Row.{Row}
use Rattle.saved_blocks.specs.Blocks.{line_of, lines_of}
use Rattle.text_loans.specs.Walk.{Ordered, ticket_in}
use Rattle.text_blocks.proofs.Lines.{lines_none, lines_one, front_short, more_room, more_put}

-- who passes is live, and its line by name is that by place
pub record Choice (image : List ℕ) (test : Ticket → Bool) (row : Name → Row) (row_at : ℕ → Row) (program : ℕ) : Type 0 where
  pub tables : Ordered image
  pub low : program < 32
  pub alive : (k : Ticket) → test k ≡ true → is_live k.kind ≡ true
  pub here : (n : Name) → test (lookup (decode image) n) ≡ true → row n ≡ row_at (place_of (decode image) n)

module _ (image : List ℕ) (test : Ticket → Bool) (row : Name → Row) (program : ℕ) where
  abbrev t : Tables
  t = decode image

  -- the numbers of those that pass, each in its place
  abbrev numbers_of : List ℕ
  numbers_of = numbers_in test (tickets_in image) program

  abbrev pub last : ℕ
  last = last_of t (program / 8) (program % 8)

  abbrev rows_to : ℕ → List Row
  rows_to k = map row (names_to test t (program / 8) (program % 8) k)

  abbrev pub rows_of : List Row
  rows_of = map row (names_of test t (program / 8) (program % 8))

  -- ---- where the loop stands
  pub record Going (out₀ : List ℕ) (at : ℕ) (walk : Walk) (out : List ℕ) (end : ℕ) : Type 0 where
    pub long : length out ≡ length out₀
    pub is : walk.numbers ≡ numbers_of
    pub given : walk.after ≤ last
    pub text : Appends (lines_of (rows_to walk.after)) out₀ out at end

  rows_none : lines_of (rows_to 0) ≡ []
  unfolding keep tabulate
  rows_none = lines_none

  pub going_none : (out numbers : List ℕ) (at : ℕ) (walk : Walk) → numbers ≡ numbers_of → walk ≡ record { numbers = numbers; after = 0 }
      → Going out at walk out at
  going_none out numbers at walk is start =
      subst (λ (w : Walk). Going out at w out at) (sym start)
      (record { long = refl; is = is; given = omega arith; text = append_as _ _ out out at at (sym rows_none) (append_none out at) })

  module _ (row_at : ℕ → Row) (choice : Choice image test row row_at program) (out₀ : List ℕ) (at : ℕ) (walk : Walk) (out : List ℕ) (end : ℕ)
      (g : Going out₀ at walk out end) where
    abbrev o : Ordered image
    o = choice.tables

    abbrev low : program < 32
    low = choice.low

    abbrev alive : (k : Ticket) → test k ≡ true → is_live k.kind ≡ true
    alive = choice.alive

    pub going_end : NoneAbove walk.numbers walk.after → Appends (lines_of rows_of) out₀ out at end
    going_end none =
        let none_here = subst (λ (l : List ℕ). NoneAbove l walk.after) g.is none in
        let all = next_none t o.order.shape (tickets_in image) (flattened image).same test alive program low walk.after none_here g.given in
        append_as _ _ out₀ out at end (ap (λ (names : List Name). lines_of (map row names)) (sym all)) g.text

    module _ (i : ℕ) (walk' : Walk) (step : NextPlace walk (Some i) walk') where
      next : NextAbove numbers_of walk.after i
      next = subst (λ (l : List ℕ). NextAbove l walk.after i) g.is step.0

      pub going_low : i < 8
      going_low = next_low t o.order.shape (tickets_in image) (flattened image).same test alive program low walk.after i next

      abbrev now : ℕ
      now = get_or walk.numbers i 0

      abbrev place : ℕ
      place = 8 * program + i

      abbrev number : ℕ
      number = get_or numbers_of i 0

      is_number : now ≡ number
      is_number = ap (λ (l : List ℕ). get_or l i 0) g.is

      it : Stands t o.order.shape (tickets_in image) (flattened image).same test alive program low i
      it = next_stands t o.order.shape (tickets_in image) (flattened image).same test alive program low walk.after i next

      abbrev n : Name
      n = name_of (program / 8) (program % 8) number

      given_next : now ≤ last
      given_next = omega (arith, is_number, (o.order.rules.named n (alive (lookup t n) it.passes)).high)

      -- what stands there passes
      pub going_passes : test (ticket_in image place) ≡ true
      going_passes = ap test ((flattened image).same place (omega (arith, low, going_low)) ∙ sym it.ticket) ∙ it.passes

      row_is : row n ≡ row_at place
      row_is = choice.here n it.passes ∙ ap row_at it.place

      rows_more : rows_to now ≡ rows_to walk.after ++ row_at place ∷ []
      rows_more =
          ap rows_to is_number
          ∙ ap (map row) (next_name t o.order.shape (tickets_in image) (flattened image).same test alive program low walk.after i next)
          ∙ map-append row (names_to test t (program / 8) (program % 8) walk.after) (n ∷ []) ∙ ap (λ (r : Row). rows_to walk.after ++ r ∷ []) row_is

      front : Begins (rows_to now) rows_of
      front =
          let b = names_front test t (program / 8) (program % 8) now given_next in
          record {
            rest = map row b.rest;
            same = ap (map row) b.same ∙ map-append row (names_to test t (program / 8) (program % 8) now) b.rest;
          }

      pub going_room : Countable at (lines_of rows_of) → Countable end (line_of (row_at place))
      going_room room =
          let short = front_short (rows_to now) rows_of front in
          let part : Countable at (lines_of (rows_to walk.after ++ row_at place ∷ []))
          = subst (λ (rs : List Row). Countable at (lines_of rs)) rows_more (omega (arith, room, short)) in
          subst (Countable end) (lines_one (row_at place)) (more_room (rows_to walk.after) (row_at place ∷ []) out₀ out at end g.text part)

      pub going_more : (out' : List ℕ) (r : ℕ) → Appends (line_of (row_at place)) out out' end r → Going out₀ at walk' out' r
      going_more out' r put =
          subst (λ (w : Walk). Going out₀ at w out' r) (sym step.1)
          (record {
            long = put.kept ∙ g.long;
            is = g.is;
            given = given_next;
            text = append_as _ _ out₀ out' at r (ap lines_of (sym rows_more))
                (more_put (rows_to walk.after) (row_at place ∷ []) out₀ out at end g.text out' r
                (append_as _ _ out out' end r (sym (lines_one (row_at place))) put));
          })
