-- Where the loop over a grant's recalls stands: the loans of those with a number up to the walk's are printed.
use Prim.Native.Nat.{ℕ, suc, ◌+◌, ◌*◌, ◌/◌, ◌≤◌}
use native.Mathlib.Omega.{arith}
use mathlib.Core.Path.{◌≡◌, refl, sym, ap, subst, ◌∙◌}
use mathlib.Core.Bool.{false}
use mathlib.Core.List.{List}
use lib.ListN.{length, get_or}
use Rattle.std.specs.Prelude.{Some, None}
use Rattle.text.specs.Appending.{Countable}
use Rattle.text_marks.specs.Marks.{mark_bytes, marked_in, with_mark, unmarked}
use Rattle.text_marks.proofs.Laws.{one_less}
use Rattle.image.specs.Image.{decode}
use Rattle.image_numbers.specs.declared.Walk.{Walk}
use Rattle.image_numbers.specs.Numbers.{NoneAbove, NextAbove}
use Rattle.image_numbers.specs.Steps.{NextPlace}
use Rattle.report.specs.Rows.{row_of, loans_of}
use Rattle.report.specs.Report.{row_line, line_room}
use Rattle.report.specs.Marked.{visit}
use Rattle.report.proofs.Short.{row_short}
use Rattle.text_loans.specs.Walk.{ticket_in, name_in, Lending, listed_place, Fits, Printed}
use Rattle.text_loans.proofs.Steps.{Visited, visited_none, visited_as, visited_more, fewer, room_left}
use Rattle.text_loans.proofs.Loans.{recalls, last, loans_to, loans_none, loans_listed, loans_all, given_next, lending, loan_more, loan_listed, loan_none}

pub record Going (image marks₀ out₀ : List ℕ) (at depth place : ℕ) (walk : Walk) (marks out : List ℕ) (total : ℕ) : Type 0 where
  pub size : length marks ≡ mark_bytes
  pub long : length out ≡ length out₀
  pub is : walk.numbers ≡ recalls image place
  pub given : walk.after ≤ last image place
  pub done : Visited (decode image) depth (loans_to image place walk.after) marks₀ marks out₀ out at total

pub going_none : (image marks out : List ℕ) (at depth place : ℕ) (numbers : List ℕ) (walk : Walk)
    → length marks ≡ mark_bytes → numbers ≡ recalls image place
    → walk ≡ record { numbers = numbers; after = 0 } → Going image marks out at depth place walk marks out at
going_none image marks out at depth place numbers walk size is start =
    subst (λ (w : Walk). Going image marks out at depth place w marks out at) (sym start)
    (record {
      size = size;
      long = refl;
      is = is;
      given = omega arith;
      done = visited_as (decode image) depth _ _ marks marks out out at at (sym (loans_none image place)) (visited_none (decode image) depth marks out at);
    })

module _ (image marks₀ out₀ : List ℕ) (at depth place : ℕ) (walk : Walk) (marks out : List ℕ) (total : ℕ)
    (g : Going image marks₀ out₀ at depth place walk marks out total) (pre : Fits image marks₀ at depth place) where
  -- ---- fewer places are left, and a line for each has room
  pub going_fewer : unmarked (marked_in marks) ≤ unmarked (marked_in marks₀)
  going_fewer =
      fewer (decode image) depth pre.tables.order (loans_to image place walk.after) (loans_listed image place walk.after) marks₀ marks out₀ out at total
      g.done pre.shallow

  pub going_end : NoneAbove walk.numbers walk.after → Visited (decode image) depth (loans_of (decode image) (name_in image place)) marks₀ marks out₀ out at total
  going_end none =
      let all = subst (λ (l : List ℕ). NoneAbove l walk.after) g.is none in
      visited_as (decode image) depth _ _ marks₀ marks out₀ out at total (loans_all image place pre.tables pre.grant walk.after all g.given) g.done

  -- ---- one recall more
  module _ (i : ℕ) (walk' : Walk) (step : NextPlace walk (Some i) walk') where
    next : NextAbove (recalls image place) walk.after i
    next = subst (λ (l : List ℕ). NextAbove l walk.after i) g.is step.0

    abbrev now : ℕ
    now = get_or walk.numbers i 0

    is_number : now ≡ get_or (recalls image place) i 0
    is_number = ap (λ (l : List ℕ). get_or l i 0) g.is

    pub going_lending : Lending image (8 * (place / 8) + i)
    going_lending = lending image place pre.tables pre.grant walk.after i next

    -- as the walk goes on
    going_on : (marks' out' : List ℕ) (r : ℕ) → length marks' ≡ mark_bytes → length out' ≡ length out
        → Visited (decode image) depth (loans_to image place (get_or (recalls image place) i 0)) marks₀ marks' out₀ out' at r
        → Going image marks₀ out₀ at depth place walk' marks' out' r
    going_on marks' out' r size long done =
        subst (λ (w : Walk). Going image marks₀ out₀ at depth place w marks' out' r) (sym step.1)
        (record {
          size = size;
          long = long ∙ g.long;
          is = g.is;
          given = omega (arith, is_number, given_next image place pre.tables pre.grant walk.after i next);
          done = visited_as (decode image) depth _ _ marks₀ marks' out₀ out' at r (ap (loans_to image place) (sym is_number)) done;
        })

    module _ (loan : ℕ) (is : Some loan ≡ listed_place (decode image) (ticket_in image (8 * (place / 8) + i)).other) where
      pub going_fits : Fits image marks total depth loan
      going_fits = record {
        tables = pre.tables;
        grant = loan_listed image place pre.tables pre.grant walk.after i next loan is;
        scratch = g.size;
        room = room_left (decode image) depth pre.tables.order (loans_to image place walk.after) (loans_listed image place walk.after) marks₀ marks out₀
            out at total g.done pre.shallow pre.room;
        shallow = omega (arith, pre.shallow, going_fewer);
      }

      pub going_more : (marks' out' : List ℕ) (r : ℕ) → length marks' ≡ mark_bytes → length out' ≡ length out
          → Printed (λ left. visit (decode image) left depth (marked_in marks) (name_in image loan)) marks marks' out out' total r
          → Going image marks₀ out₀ at depth place walk' marks' out' r
      going_more marks' out' r size long printed =
          going_on marks' out' r size long
          (visited_as (decode image) depth _ _ marks₀ marks' out₀ out' at r
          (sym (loan_more image place pre.tables pre.grant walk.after i next loan is))
          (visited_more (decode image) depth pre.tables.order (loans_to image place walk.after) (loans_listed image place walk.after) marks₀ marks out₀ out
          at total g.done pre.shallow (name_in image loan) marks' out' r printed))

    pub going_past : None ≡ listed_place (decode image) (ticket_in image (8 * (place / 8) + i)).other
        → Going image marks₀ out₀ at depth place walk' marks out total
    going_past is =
        going_on marks out total g.size refl
        (visited_as (decode image) depth _ _ marks₀ marks out₀ out at total
        (sym (loan_none image place pre.tables pre.grant walk.after i next is)) g.done)

-- ---- a ticket's line, and the loans behind it
module _ (image marks : List ℕ) (at depth place : ℕ) (pre : Fits image marks at depth place) (clear : marked_in marks place ≡ false) where
  abbrev line : List ℕ
  line = row_line (decode image) (row_of depth (name_in image place))

  short : length line ≤ line_room
  short = row_short (decode image) pre.tables.order depth (name_in image place) pre.grant.listed (omega (arith, pre.shallow))

  pub less : unmarked (marked_in marks) ≡ suc (unmarked (with_mark place (marked_in marks)))
  less = one_less place (marked_in marks) clear pre.grant.here.low

  pub line_fits : Countable at line
  line_fits = omega (arith, pre.room, less, short)

  pub loans_fit : (marks₁ : List ℕ) → length marks₁ ≡ mark_bytes → marked_in marks₁ ≡ with_mark place (marked_in marks)
      → (k : ℕ) → k ≡ at + length line → Fits image marks₁ k (depth + 1) place
  loans_fit marks₁ size marked k end =
      let now = ap unmarked marked in
      record {
        tables = pre.tables;
        grant = pre.grant;
        scratch = size;
        room = omega (arith, pre.room, less, now, short, end);
        shallow = omega (arith, pre.shallow, less, now);
      }
