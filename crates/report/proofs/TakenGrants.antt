-- The taken grants: who is among them, and that nobody is twice.
use Prim.Native.Nat.{ℕ}
use native.Mathlib.Omega.{arith}
use mathlib.Core.Path.{◌≡◌, sym, ◌∙◌}
use mathlib.Core.Bool.{Bool, true}
use mathlib.Core.List.{List}
use Rattle.lists.specs.Parts.{joined}
use Rattle.tables.specs.declared.{Name.Name, Ticket.Ticket, Tables.Tables}
use Rattle.tables.specs.Kinds.{is_taken}
use Rattle.tables.specs.Lookup.{last_of, lookup, entry_of, names_of}
use Rattle.tables.proofs.KindLaws.{live_taken}
use Rattle.preservation.specs.Rules.{Given, Rules}
use Rattle.lists.specs.Members.{In, Once}
use Rattle.report.specs.Rows.{taken_grants}
use Rattle.lists.proofs.MemberLaws.{in_joined, from_joined, once_joined}
use Rattle.tables.proofs.ByNumber.{named, in_names, once_names}

-- ---- the taken grants
module _ (t : Tables) where
  abbrev is_taken_grant : Ticket → Bool
  is_taken_grant k = is_taken k.kind

  abbrev of_pad : ℕ → List Name
  of_pad pad = joined 8 (λ program. names_of is_taken_grant t pad program)

  pub taken_is : (n : Name) → In n (taken_grants t) → is_taken (lookup t n).kind ≡ true
  unfolding taken_grants
  taken_is n i =
      let p = from_joined 4 of_pad n i in
      let q = from_joined 8 (λ program. names_of is_taken_grant t p.place program) n p.member in
      (named is_taken_grant t p.place q.place n q.member).passes

  pub in_taken : Rules (lookup t) (entry_of t) (last_of t) → (n : Name) → is_taken (lookup t n).kind ≡ true → In n (taken_grants t)
  unfolding taken_grants
  in_taken rules n e =
      let g : Given (last_of t) n = rules.named n (live_taken (lookup t n).kind e) in
      in_joined 4 of_pad n n.pad (omega (arith, g.pad))
      (in_joined 8 (λ program. names_of is_taken_grant t n.pad program) n n.program (omega (arith, g.program)) (in_names is_taken_grant t n e g.low g.high))

  pub once_taken : Once (taken_grants t)
  unfolding taken_grants
  once_taken =
      once_joined 4 of_pad (λ pad. once_joined 8 (λ program. names_of is_taken_grant t pad program) (λ program. once_names is_taken_grant t pad program)
      (λ i j n a b. sym (named is_taken_grant t pad i n a).of ∙ (named is_taken_grant t pad j n b).of))
      (λ i j n a b. sym (pad_of i n a) ∙ pad_of j n b)
    where
      pad_of : (pad : ℕ) (n : Name) → In n (of_pad pad) → n.pad ≡ pad
      pad_of pad n i =
          let q = from_joined 8 (λ program. names_of is_taken_grant t pad program) n i in
          (named is_taken_grant t pad q.place n q.member).on
