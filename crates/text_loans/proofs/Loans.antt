-- The loop over a grant's recalls, by their numbers: the loans up to the number that it has come to, and one more, or none.
use Prim.Native.Nat.{ℕ, ◌+◌, ◌*◌, ◌/◌, ◌%◌, ◌≤◌, ◌<◌}
use native.Mathlib.Omega.{arith}
use mathlib.Core.Path.{◌≡◌, refl, sym, ap, subst, ◌∙◌}
use mathlib.Core.Bool.{Bool, true}
use mathlib.Core.List.{List, [], ◌∷◌, ◌++◌, map, map-append, append-nil}
use lib.Dec.{eqb}
use lib.ListN.{get_or}
use borrow.Author.Tests.{eqb-true}
use Rattle.std.specs.Prelude.{Some, None}
use Rattle.lists.specs.Lists.{keep}
use Rattle.lists.specs.Parts.{tabulate}
use Rattle.lists.specs.Members.{In}
use Rattle.lists.proofs.Tests.{and_l, and_r}
use Rattle.lists.proofs.MemberLaws.{kept, keep_append}
use Rattle.tables.specs.declared.{Name.Name, Ticket.Ticket, Tables.Tables}
use Rattle.tables.specs.Kinds.{is_live, is_recall}
use Rattle.tables.specs.Names.{name_of}
use Rattle.tables.specs.Lookup.{last_of, lookup, place_of, names_of}
use Rattle.tables.specs.Chains.{own_name, is_recall_of}
use Rattle.tables.proofs.KindLaws.{live_recall, live_grant}
use Rattle.tables.proofs.NameLaws.{name_eq}
use Rattle.tables.proofs.ByNumber.{names_to}
use Rattle.image.specs.Image.{decode}
use Rattle.image_read.specs.Places.{tickets_in}
use Rattle.image_find.proofs.Laws.{flattened}
use Rattle.image_numbers.specs.Numbers.{numbers_in, NoneAbove, NextAbove}
use Rattle.image_numbers.proofs.ByNumber.{Stands, next_stands, next_name, next_none}
use Rattle.report.specs.Rows.{is_listed, loans_of}
use Rattle.report.proofs.Depth.{listed_grant}
use Rattle.text_loans.specs.Walk.{Ordered, ticket_in, name_in, Kept, Listed, Lending, listed_place}
use Rattle.text_loans.proofs.Places.{name_there, ticket_there, kept_of, listed_of, place_listed, place_other}

recall_live : (own : ℕ) (k : Ticket) → is_recall_of own k ≡ true → is_live k.kind ≡ true
unfolding is_recall_of
recall_live own k e = live_recall k.kind (and_l (is_recall k.kind) (eqb k.own own) e)

module _ (image : List ℕ) (place : ℕ) where
  abbrev t : Tables
  t = decode image

  -- the grant's name
  abbrev n : Name
  n = name_in image place

  abbrev test : Ticket → Bool
  test k = is_recall_of n.number k

  abbrev program : ℕ
  program = place / 8

  abbrev target : Name → Name
  target r = (lookup t r).other

  -- the numbers of its recalls
  abbrev pub recalls : List ℕ
  recalls = numbers_in test (tickets_in image) program

  abbrev number : ℕ → ℕ
  number i = get_or recalls i 0

  -- the last number of its program
  abbrev pub last : ℕ
  last = last_of t (program / 8) (program % 8)

  -- ---- the loans up to a number
  unfoldable pub loans_to : ℕ → List Name
  loans_to k = keep (is_listed t) (map target (names_to test t (program / 8) (program % 8) k))

  pub loans_none : loans_to 0 ≡ []
  unfolding loans_to keep tabulate
  loans_none = refl

  pub loans_listed : (k : ℕ) (q : Name) → In q (loans_to k) → is_listed t q ≡ true
  unfolding loans_to
  loans_listed k q i = (kept (is_listed t) q (map target (names_to test t (program / 8) (program % 8) k)) i).passes

  module _ (o : Ordered image) (grant : Listed image place) where
    low : program < 32
    low = omega (arith, grant.here.low)

    on : program / 8 ≡ place / 64
    on = omega arith

    pub loans_all : (after : ℕ) → NoneAbove recalls after → after ≤ last → loans_to after ≡ loans_of t n
    unfolding loans_to loans_of
    loans_all after none given =
        let all = next_none t o.order.shape (tickets_in image) (flattened image).same test (recall_live n.number) program low after none given in
        ap (λ (names : List Name). keep (is_listed t) (map target names)) (sym all)
        ∙ ap (λ (pad : ℕ). keep (is_listed t) (map target (names_of test t pad n.program))) on

    module _ (after i : ℕ) (next : NextAbove recalls after i) where
      it : Stands t o.order.shape (tickets_in image) (flattened image).same test (recall_live n.number) program low i
      it = next_stands t o.order.shape (tickets_in image) (flattened image).same test (recall_live n.number) program low after i next

      -- its name, and what it is
      abbrev r : Name
      r = name_of (program / 8) (program % 8) (number i)

      live : is_live (lookup t r).kind ≡ true
      live = recall_live n.number (lookup t r) it.passes

      pub given_next : number i ≤ last
      given_next = (o.order.rules.named r live).high

      -- the ticket that stands there
      abbrev p : ℕ
      p = 8 * program + i

      ticket : ticket_in image p ≡ lookup t r
      ticket = ap (ticket_in image) (sym it.place) ∙ ticket_there image r live

      named : name_in image p ≡ r
      named = ap (name_in image) (sym it.place) ∙ name_there image r live

      recall : is_recall (lookup t r).kind ≡ true
      unfolding is_recall_of
      recall = and_l (is_recall (lookup t r).kind) (eqb (lookup t r).own n.number) it.passes

      own : (lookup t r).own ≡ n.number
      unfolding is_recall_of
      own = eqb-true _ _ (and_r (is_recall (lookup t r).kind) (eqb (lookup t r).own n.number) it.passes)

      pub lending : Lending image p
      lending = record {
        here = subst (Kept image) it.place (kept_of image r live);
        recall = ap (λ (k : Ticket). is_recall k.kind) ticket ∙ recall;
        lender = (λ j. is_listed t (own_name (named j) (ticket j))) ∙ ap (is_listed t) (name_eq on refl own) ∙ grant.listed;
      }

      -- ---- its target
      abbrev q : Name
      q = target r

      place_is : listed_place t (ticket_in image p).other ≡ listed_place t q
      place_is = ap (λ (k : Ticket). listed_place t k.other) ticket

      loans_more : loans_to (number i) ≡ loans_to after ++ keep (is_listed t) (q ∷ [])
      unfolding loans_to
      loans_more =
          let names = names_to test t (program / 8) (program % 8) after in
          ap (λ (ns : List Name). keep (is_listed t) (map target ns))
          (next_name t o.order.shape (tickets_in image) (flattened image).same test (recall_live n.number) program low after i next)
          ∙ ap (keep (is_listed t)) (map-append target names (r ∷ [])) ∙ keep_append (is_listed t) (map target names) (q ∷ [])

      module _ (loan : ℕ) (is : Some loan ≡ listed_place t (ticket_in image p).other) where
        there : (is_listed t q ≡ true) × (loan ≡ place_of t q)
        there = place_listed image q loan (is ∙ place_is)

        pub loan_listed : Listed image loan
        loan_listed = subst (Listed image) (sym there.1) (listed_of image o.order q there.0)

        pub loan_more : loans_to (number i) ≡ loans_to after ++ name_in image loan ∷ []
        unfolding keep
        loan_more =
            let l = live_grant (lookup t q).kind (listed_grant t o.order q there.0) in
            let same : name_in image loan ≡ q = ap (name_in image) there.1 ∙ name_there image q l in
            (rw there.0 at loans_more) ∙ ap (λ (x : Name). loans_to after ++ x ∷ []) (sym same)

      pub loan_none : None ≡ listed_place t (ticket_in image p).other → loans_to (number i) ≡ loans_to after
      unfolding keep
      loan_none is = (rw (place_other image q (is ∙ place_is)) at loans_more) ∙ append-nil (loans_to after)
