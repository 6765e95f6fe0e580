-- Places do not count: two tables in order that are the same have the same report.
use Prim.Native.Nat.{ℕ, zero, suc, ◌+◌, ◌<◌}
use native.Mathlib.Omega.{arith}
use mathlib.Core.Path.{◌≡◌, refl, sym, ap, ◌∙◌}
use mathlib.Core.Bool.{Bool, true, ◌&&◌}
use mathlib.Core.List.{List, [], ◌∷◌, ◌++◌, map, flat_map}
use lib.Dec.{eqb}
use Rattle.lists.specs.Lists.{total, keep}
use Rattle.lists.specs.Parts.{tabulate}
use Rattle.lists.specs.Members.{In}
use Rattle.lists.proofs.Tests.{Case, pass, fail, case, and_l}
use Rattle.lists.proofs.PartLaws.{joined_same}
use Rattle.lists.proofs.MemberLaws.{in_map, map_same, flat_same}
use Rattle.lists.proofs.Counting.{total_same}
use Rattle.tables.specs.declared.{Name.Name, Ticket.Ticket, Tables.Tables}
use Rattle.tables.specs.Kinds.{is_grant, is_taken, is_recall}
use Rattle.tables.specs.Names.{name_of}
use Rattle.tables.specs.Lookup.{lookup, entry_of, names_of}
use Rattle.tables.specs.Chains.{is_recall_of}
use Rattle.tables.specs.Sheets.{sheets_free}
use Rattle.tables.specs.Same.{SameTables}
use Rattle.tables.proofs.KindLaws.{live_grant, head_grant, taken_head, up_recall}
use Rattle.tables.proofs.ByNumber.{named}
use Rattle.text.specs.Writing.{values_line}
use Rattle.text.specs.Bytes.{line_end}
use Rattle.preservation.specs.InOrder.{InOrder}
use Rattle.sameness.proofs.SaidFacts.{same_kind, same_parent, same_first, same_count, same_rights, same_dock, same_target, same_live}
use Rattle.report.specs.Rows.{Row, row_of, is_listed, loans_of, taken_grants, rows_from, rows}
use Rattle.report.specs.Report.{report_names, row_line, taken_in, report}
use Rattle.report.specs.Complete.{SameReport}
use Rattle.report.proofs.TakenGrants.{taken_is}
use Rattle.report.proofs.Lending.{loan_of}
use Rattle.report.proofs.Depth.{root, lent_listed, listed_grant}
use Rattle.report.proofs.Printed.{printed_listed}
use Rattle.report.proofs.AllSheets.{taken_total, all_sheets}

module _ (t u : Tables) (now : InOrder t) (then : InOrder u) (same : SameTables t u) where
  -- ---- tests by name
  listed_same : (n : Name) → is_listed t n ≡ is_listed u n
  unfolding is_listed
  listed_same n = go (case (is_grant (lookup t n).kind))
    where
      kind : is_grant (lookup t n).kind ≡ is_grant (lookup u n).kind
      kind = ap is_grant (same_kind t u same n)

      go : Case (is_grant (lookup t n).kind) → (is_grant (lookup t n).kind && (entry_of t (lookup t n).dock).live) ≡ (is_grant (lookup u n).kind && (entry_of u (lookup u n).dock).live)
      go (fail e) = rw (e, sym kind ∙ e) refl
      go (pass e) =
          let live : (entry_of t (lookup t n).dock).live ≡ (entry_of u (lookup u n).dock).live
          = same_live t u same (lookup t n).dock ∙ ap (λ (x : Name). (entry_of u x).live) (same_dock t u same n e) in
          (λ i. kind i && live i)

  recall_same : (own : ℕ) (n : Name) → is_recall_of own (lookup t n) ≡ is_recall_of own (lookup u n)
  unfolding is_recall_of
  recall_same own n = go (case (is_recall (lookup t n).kind))
    where
      kind : is_recall (lookup t n).kind ≡ is_recall (lookup u n).kind
      kind = ap is_recall (same_kind t u same n)

      go : Case (is_recall (lookup t n).kind) → (is_recall (lookup t n).kind && eqb (lookup t n).own own) ≡ (is_recall (lookup u n).kind && eqb (lookup u n).own own)
      go (fail e) = rw (e, sym kind ∙ e) refl
      go (pass e) =
          let up : _ ≡ _
          = sym (up_recall (lookup t n).kind n (lookup t n) e) ∙ same_parent t u same n ∙ up_recall (lookup u n).kind n (lookup u n) (sym kind ∙ e) in
          let owns : (lookup t n).own ≡ (lookup u n).own = ap (λ (x : Name). x.number) up in
          (λ i. kind i && eqb (owns i) own)

  -- ---- names by number
  names_same : (test : Ticket → Bool) → ((n : Name) → test (lookup t n) ≡ test (lookup u n)) → (pad program : ℕ) → pad < 4 → program < 8
      → names_of test t pad program ≡ names_of test u pad program
  unfolding names_of
  names_same test each pad program a b =
      λ i. keep (λ n. each n i) (tabulate (same.lasts pad program a b i) (λ j. name_of pad program (suc j)))

  taken_same : taken_grants t ≡ taken_grants u
  unfolding taken_grants
  taken_same =
      joined_same 4 _ _
      (λ pad a. joined_same 8 _ _ (λ program b. names_same (λ k. is_taken k.kind) (λ n. ap is_taken (same_kind t u same n)) pad program a b))

  -- ---- a listed grant's loans and line
  module _ (n : Name) (listed : is_listed t n ≡ true) where
    grant : is_grant (lookup t n).kind ≡ true
    grant = listed_grant t now n listed

    abbrev recalls_of : Tables → List Name
    recalls_of v = names_of (is_recall_of n.number) v n.pad n.program

    recall_of : (r : Name) → In r (recalls_of t) → is_recall (lookup t r).kind ≡ true
    unfolding is_recall_of
    recall_of r i =
        and_l (is_recall (lookup t r).kind) (eqb (lookup t r).own n.number) (named (is_recall_of n.number) t n.pad n.program r i).passes

    loans_same : loans_of t n ≡ loans_of u n
    unfolding loans_of
    loans_same =
        let given = now.rules.named n (live_grant (lookup t n).kind grant) in
        let recalls : recalls_of t ≡ recalls_of u
        = names_same (is_recall_of n.number) (recall_same n.number) n.pad n.program (omega (arith, given.pad)) (omega (arith, given.program)) in
        let targets : map (λ r. (lookup t r).other) (recalls_of t) ≡ map (λ r. (lookup u r).other) (recalls_of u)
        = map_same (λ r. (lookup t r).other) (λ r. (lookup u r).other) (recalls_of t) (λ r i. same_target t u same r (recall_of r i))
        ∙ ap (map (λ (r : Name). (lookup u r).other)) recalls in
        (λ i. keep (λ m. listed_same m i) (targets i))

    line_same : (depth : ℕ) → row_line t (row_of depth n) ≡ row_line u (row_of depth n)
    unfolding row_line
    line_same depth = λ i. values_line (
        depth ∷ n.pad ∷ n.program ∷ n.number ∷ same_first t u same n grant i ∷ same_count t u same n grant i ∷ (same_rights t u same n grant i).bits ∷ []
        )

  -- ---- rows
  from_same : (left depth : ℕ) (n : Name) → is_listed t n ≡ true → rows_from left t depth n ≡ rows_from left u depth n
  unfolding rows_from
  from_same zero depth n listed = refl
  from_same (suc left) depth n listed =
      let deeper = flat_same (rows_from left t (depth + 1)) (rows_from left u (depth + 1)) (loans_of t n)
      (λ q i. from_same left (depth + 1) q (loan_of t now n q i).listed) in
      ap (λ (rs : List Row). row_of depth n ∷ rs) (deeper ∙ ap (flat_map (rows_from left u (depth + 1))) (loans_same n listed))

  rows_same : rows t ≡ rows u
  unfolding rows
  rows_same =
      flat_same (rows_from 256 t 0) (rows_from 256 u 0) (taken_grants t) (λ q i. from_same 256 0 q (lent_listed t now (root (taken_is t q i))))
      ∙ ap (flat_map (rows_from 256 u 0)) taken_same

  lines_same : flat_map (row_line t) (rows t) ≡ flat_map (row_line u) (rows u)
  lines_same =
      flat_same (row_line t) (row_line u) (rows t)
      (λ r i. line_same r.name ((printed_listed t now r.name).0 (in_map (λ (x : Row). x.name) r (rows t) i)) r.depth)
      ∙ ap (flat_map (row_line u)) rows_same

  -- ---- the last line
  taken_sum : taken_in t (rows t) ≡ taken_in u (rows u)
  taken_sum =
      taken_total t
      ∙ total_same (λ n. (lookup t n).count) (λ n. (lookup u n).count) (taken_grants t)
      (λ n i. same_count t u same n (head_grant (lookup t n).kind (taken_head (lookup t n).kind (taken_is t n i))))
      ∙ ap (total (λ (n : Name). (lookup u n).count)) taken_same ∙ sym (taken_total u)

  free_same : sheets_free t.entries ≡ sheets_free u.entries
  free_same = omega (arith, all_sheets t now, all_sheets u then, taken_sum)

  whole : report t ≡ report u
  unfolding report
  whole = λ i. report_names ++ line_end ∷ lines_same i ++ values_line (taken_sum i ∷ free_same i ∷ [])

pub same_report : SameReport
same_report t u now then same = whole t u now then same
