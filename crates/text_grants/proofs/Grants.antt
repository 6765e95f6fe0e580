-- The loop over a program's taken grants, by number: those up to a number are printed, with their loans, and their sheets added.
use Prim.Native.Nat.{ℕ, suc, ◌+◌, ◌*◌, ◌/◌, ◌%◌, ◌≤◌, ◌<◌}
use native.Mathlib.Omega.{arith}
use mathlib.Core.Path.{◌≡◌, refl, sym, ap, subst, ◌∙◌}
use mathlib.Core.Bool.{Bool, true}
use mathlib.Core.List.{List, [], ◌∷◌, ◌++◌}
use lib.ListN.{length, get_or}
use Rattle.std.specs.Prelude.{Some}
use Rattle.lists.specs.Lists.{keep, total}
use Rattle.lists.specs.Parts.{tabulate}
use Rattle.lists.specs.Members.{In}
use Rattle.lists.proofs.MemberLaws.{kept}
use Rattle.lists.proofs.Counting.{total_append}
use Rattle.tables.specs.declared.{Name.Name, Ticket.Ticket, Tables.Tables}
use Rattle.tables.specs.Kinds.{is_live, is_taken}
use Rattle.tables.specs.Names.{name_of}
use Rattle.tables.specs.Lookup.{last_of, lookup}
use Rattle.tables.proofs.KindLaws.{live_taken}
use Rattle.tables.proofs.ByNumber.{names_to, names_front}
use Rattle.image.specs.Image.{decode}
use Rattle.image_read.specs.Places.{tickets_in}
use Rattle.image_find.proofs.Laws.{flattened}
use Rattle.image_numbers.specs.declared.Walk.{Walk}
use Rattle.image_numbers.specs.Numbers.{numbers_in, NoneAbove, NextAbove}
use Rattle.image_numbers.specs.Steps.{NextPlace}
use Rattle.image_numbers.proofs.ByNumber.{Stands, next_stands, next_name, next_none}
use Rattle.text_marks.specs.Marks.{mark_bytes, marked_in, unmarked}
use Rattle.text_marks.proofs.Laws.{unmarked_most}
use Rattle.report.specs.Rows.{is_listed}
use Rattle.report.specs.Marked.{visit}
use Rattle.report.proofs.Depth.{root, lent_listed}
use Rattle.text_loans.specs.Walk.{Ordered, ticket_in, name_in, Listed, Fits, Printed}
use Rattle.text_loans.proofs.Places.{name_there, ticket_there, listed_of}
use Rattle.text_loans.proofs.Steps.{Visited, visited_none, visited_as, visited_more, room_left}
use Rattle.text_grants.specs.declared.Printing.{Printing}
use Rattle.text_grants.specs.Grants.{taken_of, sheets_of, Ready, Puts}

abbrev test : Ticket → Bool
test k = is_taken k.kind

taken_live : (k : Ticket) → test k ≡ true → is_live k.kind ≡ true
taken_live k e = live_taken k.kind e

module _ (image : List ℕ) (program : ℕ) where
  abbrev t : Tables
  t = decode image

  -- the numbers of its taken grants
  abbrev pub grants : List ℕ
  grants = numbers_in test (tickets_in image) program

  abbrev number : ℕ → ℕ
  number i = get_or grants i 0

  abbrev pub last : ℕ
  last = last_of t (program / 8) (program % 8)

  -- those up to a number
  abbrev pub taken_to : ℕ → List Name
  taken_to k = names_to test t (program / 8) (program % 8) k

  pub taken_none : taken_to 0 ≡ []
  unfolding keep tabulate
  taken_none = refl

  pub taken_listed_lem : Ordered image → (k : ℕ) (q : Name) → In q (taken_to k) → is_listed t q ≡ true
  taken_listed_lem o k q i = lent_listed t o.order (root (kept (λ n. test (lookup t n)) q (tabulate k (λ j. name_of (program / 8) (program % 8) (suc j))) i).passes)

  module _ (o : Ordered image) (low : program < 32) where
    pub taken_all : (after : ℕ) → NoneAbove grants after → after ≤ last → taken_to after ≡ taken_of t program
    taken_all after none given =
        sym (next_none t o.order.shape (tickets_in image) (flattened image).same test taken_live program low after none given)

    module _ (after i : ℕ) (next : NextAbove grants after i) where
      it : Stands t o.order.shape (tickets_in image) (flattened image).same test taken_live program low i
      it = next_stands t o.order.shape (tickets_in image) (flattened image).same test taken_live program low after i next

      abbrev n : Name
      n = name_of (program / 8) (program % 8) (number i)

      live : is_live (lookup t n).kind ≡ true
      live = taken_live (lookup t n) it.passes

      pub given_next : number i ≤ last
      given_next = (o.order.rules.named n live).high

      -- the ticket that stands there
      abbrev p : ℕ
      p = 8 * program + i

      pub count_there : (ticket_in image p).count ≡ (lookup t n).count
      count_there = ap (λ (k : Ticket). k.count) (ap (ticket_in image) (sym it.place) ∙ ticket_there image n live)

      pub grant_there : Listed image p
      grant_there = subst (Listed image) it.place (listed_of image o.order n (lent_listed t o.order (root it.passes)))

      pub taken_more : taken_to (number i) ≡ taken_to after ++ name_in image p ∷ []
      taken_more =
          let named : name_in image p ≡ n = ap (name_in image) (sym it.place) ∙ name_there image n live in
          next_name t o.order.shape (tickets_in image) (flattened image).same test taken_live program low after i next
          ∙ ap (λ (x : Name). taken_to after ++ x ∷ []) (sym named)

      pub sheets_more : sheets_of t (taken_to (number i)) ≡ sheets_of t (taken_to after) + (ticket_in image p).count
      unfolding total
      sheets_more =
          let names = next_name t o.order.shape (tickets_in image) (flattened image).same test taken_live program low after i next in
          let added : sheets_of t (taken_to after ++ n ∷ []) ≡ sheets_of t (taken_to after) + sheets_of t (n ∷ [])
          = total_append (λ n. (lookup t n).count) (taken_to after) (n ∷ []) in
          ap (sheets_of t) names ∙ omega (arith, added, count_there)

      pub sheets_most : sheets_of t (taken_to (number i)) ≤ sheets_of t (taken_of t program)
      sheets_most =
          let b = names_front test t (program / 8) (program % 8) (number i) given_next in
          let added = total_append (λ n. (lookup t n).count) (taken_to (number i)) b.rest in
          let whole : sheets_of t (taken_of t program) ≡ sheets_of t (taken_to (number i) ++ b.rest) = ap (sheets_of t) b.same in
          omega (arith, added, whole)

-- ---- where the loop stands
pub record Going (image marks₀ out₀ : List ℕ) (so_far : Printing) (program : ℕ) (walk : Walk) (marks out : List ℕ) (end sheets : ℕ) : Type 0 where
  pub size : length marks ≡ mark_bytes
  pub long : length out ≡ length out₀
  pub is : walk.numbers ≡ grants image program
  pub given : walk.after ≤ last image program
  pub text : Visited (decode image) 0 (taken_to image program walk.after) marks₀ marks out₀ out so_far.end end
  pub sum : sheets ≡ so_far.sheets + sheets_of (decode image) (taken_to image program walk.after)

pub going_none : (image marks out : List ℕ) (so_far : Printing) (program : ℕ) (numbers : List ℕ) (walk : Walk)
    → length marks ≡ mark_bytes → numbers ≡ grants image program
    → walk ≡ record { numbers = numbers; after = 0 } → Going image marks out so_far program walk marks out so_far.end so_far.sheets
unfolding total
going_none image marks out so_far program numbers walk size is start =
    subst (λ (w : Walk). Going image marks out so_far program w marks out so_far.end so_far.sheets) (sym start)
    (record {
      size = size;
      long = refl;
      is = is;
      given = omega arith;
      text = visited_as (decode image) 0 _ _ marks marks out out _ _ (sym (taken_none image program)) (visited_none (decode image) 0 marks out so_far.end);
      sum = omega (arith, ap (sheets_of (decode image)) (taken_none image program));
    })

module _ (image marks₀ out₀ : List ℕ) (so_far : Printing) (program : ℕ) (walk : Walk) (marks out : List ℕ) (end sheets : ℕ)
    (g : Going image marks₀ out₀ so_far program walk marks out end sheets) (ready : Ready image marks₀ so_far.end) (low : program < 32)
    (few : so_far.sheets + sheets_of (decode image) (taken_of (decode image) program) ≤ 256) where
  shallow : 0 + unmarked (marked_in marks₀) ≤ 256
  shallow = omega (arith, unmarked_most (marked_in marks₀))

  pub going_end : NoneAbove walk.numbers walk.after
      → Puts (decode image) (taken_of (decode image) program) marks₀ marks out₀ out so_far (record { end = end; sheets = sheets })
  going_end none =
      let none_here = subst (λ (l : List ℕ). NoneAbove l walk.after) g.is none in
      let all = taken_all image program ready.tables low walk.after none_here g.given in
      record {
        text = visited_as (decode image) 0 _ _ marks₀ marks out₀ out _ _ all g.text;
        sheets = g.sum ∙ ap (λ (names : List Name). so_far.sheets + sheets_of (decode image) names) all;
      }

  module _ (i : ℕ) (walk' : Walk) (step : NextPlace walk (Some i) walk') where
    next : NextAbove (grants image program) walk.after i
    next = subst (λ (l : List ℕ). NextAbove l walk.after i) g.is step.0

    abbrev now : ℕ
    now = get_or walk.numbers i 0

    is_number : now ≡ get_or (grants image program) i 0
    is_number = ap (λ (l : List ℕ). get_or l i 0) g.is

    pub going_sheets : sheets + (ticket_in image (8 * program + i)).count ≤ 256
    going_sheets =
        omega (
          arith,
          g.sum,
          few,
          sheets_more image program ready.tables low walk.after i next,
          sheets_most image program ready.tables low walk.after i next,
        )

    pub going_fits : Fits image marks end 0 (8 * program + i)
    going_fits = record {
      tables = ready.tables;
      grant = grant_there image program ready.tables low walk.after i next;
      scratch = g.size;
      room = room_left (decode image) 0 ready.tables.order (taken_to image program walk.after) (taken_listed_lem image program ready.tables walk.after)
          marks₀ marks out₀ out so_far.end end g.text shallow ready.room;
      shallow = omega (arith, unmarked_most (marked_in marks));
    }

    pub going_more : (count : ℕ) → count ≡ (ticket_in image (8 * program + i)).count
        → (marks' out' : List ℕ) (r : ℕ) → length marks' ≡ mark_bytes → length out' ≡ length out
        → Printed (λ left. visit (decode image) left 0 (marked_in marks) (name_in image (8 * program + i))) marks marks' out out' end r
        → Going image marks₀ out₀ so_far program walk' marks' out' r (sheets + count)
    going_more count is marks' out' r size long printed =
        let more = taken_more image program ready.tables low walk.after i next in
        let all : taken_to image program now ≡ _ = ap (taken_to image program) is_number ∙ more in
        let added = sheets_more image program ready.tables low walk.after i next in
        let added_now : sheets_of (decode image) (taken_to image program now) ≡ _ = ap (λ (k : ℕ). sheets_of (decode image) (taken_to image program k)) is_number ∙ added in
        subst (λ (w : Walk). Going image marks₀ out₀ so_far program w marks' out' r (sheets + count)) (sym step.1)
        (record {
          size = size;
          long = long ∙ g.long;
          is = g.is;
          given = omega (arith, is_number, given_next image program ready.tables low walk.after i next);
          text = visited_as (decode image) 0 _ _ marks₀ marks' out₀ out' _ _ (sym all)
              (visited_more (decode image) 0 ready.tables.order (taken_to image program walk.after) (taken_listed_lem image program ready.tables walk.after)
              marks₀ marks out₀ out so_far.end end g.text shallow (name_in image (8 * program + i)) marks' out' r printed);
          sum = omega (arith, g.sum, is, added_now);
        })
