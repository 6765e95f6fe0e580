-- The loop over the 32 programs: the taken grants of those below `program` are printed; all of them are the taken grants.
use Prim.Native.Nat.{ℕ, ◌+◌, ◌/◌, ◌%◌, ◌≤◌, ◌<◌}
use native.Mathlib.Omega.{arith}
use native.Mathlib.Numerals.{add-one}
use mathlib.Core.Path.{◌≡◌, refl, sym, ap, subst, ◌∙◌}
use mathlib.Core.Bool.{true}
use mathlib.Core.List.{List, [], ◌++◌}
use lib.ListN.{length}
use Rattle.lists.specs.Lists.{total}
use Rattle.lists.specs.Parts.{joined}
use Rattle.lists.specs.Members.{In}
use Rattle.lists.proofs.PartLaws.{joined_front, joined_eights}
use Rattle.lists.proofs.MemberLaws.{from_joined}
use Rattle.lists.proofs.Counting.{total_append}
use Rattle.tables.specs.declared.{Name.Name, Tables.Tables}
use Rattle.tables.specs.Kinds.{is_taken}
use Rattle.tables.specs.Lookup.{lookup, names_of}
use Rattle.tables.proofs.ByNumber.{named}
use Rattle.image.specs.Image.{decode}
use Rattle.text_marks.specs.Marks.{mark_bytes, marked_in, unmarked}
use Rattle.text_marks.proofs.Laws.{unmarked_most}
use Rattle.preservation.specs.InOrder.{InOrder}
use Rattle.report.specs.Rows.{is_listed, taken_grants, rows}
use Rattle.report.specs.Report.{taken_in}
use Rattle.report.proofs.Depth.{root, lent_listed}
use Rattle.report.proofs.AllSheets.{taken_total, all_sheets}
use Rattle.text_loans.proofs.Steps.{visited_none, visited_as, visited_append, room_left}
use Rattle.text_grants.specs.declared.Printing.{Printing}
use Rattle.text_grants.specs.Grants.{taken_of, sheets_of, Ready, Puts}

module _ (t : Tables) where
  -- the taken grants of the programs below `program`
  unfoldable pub grants_to : ℕ → List Name
  grants_to program = joined program (taken_of t)

  pub grants_all : taken_grants t ≡ grants_to 32
  unfolding taken_grants grants_to
  grants_all = joined_eights 4 (λ pad program. names_of (λ k. is_taken k.kind) t pad program)

  grants_none : grants_to 0 ≡ []
  unfolding grants_to joined
  grants_none = refl

  grants_more : (program : ℕ) → grants_to (program + 1) ≡ grants_to program ++ taken_of t program
  unfolding grants_to joined
  grants_more program = rw (add-one program) refl

  module _ (order : InOrder t) where
    grants_listed : (program : ℕ) (q : Name) → In q (grants_to program) → is_listed t q ≡ true
    unfolding grants_to
    grants_listed program q i =
        let j = from_joined program (taken_of t) q i in
        lent_listed t order (root (named (λ k. is_taken k.kind) t (j.place / 8) (j.place % 8) q j.member).passes)

    sheets_more : (program : ℕ) → sheets_of t (grants_to (program + 1)) ≡ sheets_of t (grants_to program) + sheets_of t (taken_of t program)
    sheets_more program =
        ap (sheets_of t) (grants_more program) ∙ total_append (λ n. (lookup t n).count) (grants_to program) (taken_of t program)

    sheets_most : (program : ℕ) → program ≤ 32 → sheets_of t (grants_to program) ≤ 256
    unfolding grants_to
    sheets_most program h =
        let b = joined_front program 32 (taken_of t) h in
        let added = total_append (λ n. (lookup t n).count) (grants_to program) b.rest in
        let whole : sheets_of t (grants_to 32) ≡ sheets_of t (grants_to program ++ b.rest) = ap (sheets_of t) b.same in
        let all : taken_in t (rows t) ≡ sheets_of t (grants_to 32) = taken_total t ∙ ap (sheets_of t) grants_all in
        omega (arith, added, whole, all, all_sheets t order)

-- ---- where the loop stands
abbrev pub started : ℕ → Printing
started at = record { end = at; sheets = 0 }

pub record Round (image marks₀ out₀ : List ℕ) (at : ℕ) (marks out : List ℕ) (printing : Printing) (program : ℕ) : Type 0 where
  pub size : length marks ≡ mark_bytes
  pub long : length out ≡ length out₀
  pub done : Puts (decode image) (grants_to (decode image) program) marks₀ marks out₀ out (started at) printing

pub round_none : (image marks out : List ℕ) (at : ℕ) → length marks ≡ mark_bytes → Round image marks out at marks out (started at) 0
unfolding total
round_none image marks out at size = record {
  size = size;
  long = refl;
  done = record {
    text = visited_as (decode image) 0 _ _ marks marks out out at at (sym (grants_none (decode image))) (visited_none (decode image) 0 marks out at);
    sheets = omega (arith, ap (sheets_of (decode image)) (grants_none (decode image)));
  };
}

module _ (image marks₀ out₀ : List ℕ) (at : ℕ) (marks out : List ℕ) (printing : Printing) (program : ℕ)
    (round : Round image marks₀ out₀ at marks out printing program) (ready : Ready image marks₀ at) where
  abbrev t : Tables
  t = decode image

  shallow : 0 + unmarked (marked_in marks₀) ≤ 256
  shallow = omega (arith, unmarked_most (marked_in marks₀))

  pub round_end : program ≡ 32 → Puts t (taken_grants t) marks₀ marks out₀ out (started at) printing
  round_end all =
      let names : grants_to t program ≡ taken_grants t = ap (grants_to t) all ∙ sym (grants_all t) in
      subst (λ (ns : List Name). Puts t ns marks₀ marks out₀ out (started at) printing) names round.done

  module _ (h : program < 32) where
    pub round_ready : Ready image marks printing.end
    round_ready = record {
      tables = ready.tables;
      scratch = round.size;
      room = room_left t 0 ready.tables.order (grants_to t program) (grants_listed t ready.tables.order program) marks₀ marks out₀ out at
          printing.end round.done.text shallow ready.room;
    }

    pub round_few : printing.sheets + sheets_of t (taken_of t program) ≤ 256
    round_few =
        omega (
          arith,
          round.done.sheets,
          sheets_more t ready.tables.order program,
          sheets_most t ready.tables.order (program + 1) (omega arith),
        )

    pub round_more : (marks' out' : List ℕ) (next : Printing) → length marks' ≡ mark_bytes → length out' ≡ length out
        → Puts t (taken_of t program) marks marks' out out' printing next → Round image marks₀ out₀ at marks' out' next (program + 1)
    round_more marks' out' next size long puts = record {
      size = size;
      long = long ∙ round.long;
      done = record {
        text = visited_as t 0 _ _ marks₀ marks' out₀ out' at next.end (sym (grants_more t program))
            (visited_append t 0 ready.tables.order (grants_to t program) (grants_listed t ready.tables.order program) marks₀ marks out₀ out at
            printing.end round.done.text shallow (taken_of t program) marks' out' next.end puts.text);
        sheets = omega (arith, puts.sheets, round.done.sheets, sheets_more t ready.tables.order program);
      };
    }
