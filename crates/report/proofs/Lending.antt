-- Who is lent by whom: a loan has one lender, and every listed grant is reached from a taken one.
use mathlib.Core.Path.{◌≡◌, refl, sym, ap, subst, ◌∙◌}
use mathlib.Core.Bool.{true}
use mathlib.Core.List.{map}
use lib.Dec.{eqb}
use borrow.Author.Tests.{eqb-true, eq-eqb}
use Rattle.lists.proofs.Tests.{and_l, and_r, and_intro}
use Rattle.tables.specs.declared.{Name.Name, Tables.Tables}
use Rattle.tables.specs.Kinds.{is_recall}
use Rattle.tables.specs.Lookup.{last_of, lookup, entry_of, names_of}
use Rattle.tables.specs.Chains.{own_name, is_recall_of}
use Rattle.tables.proofs.NameLaws.{name_eq}
use Rattle.tables.proofs.KindLaws.{live_recall}
use Rattle.preservation.specs.Rules.{Rules}
use Rattle.preservation.specs.InOrder.{InOrder}
use Rattle.lists.specs.Members.{In, Once}
use Rattle.report.specs.Rows.{is_listed, loans_of}
use Rattle.lists.proofs.MemberLaws.{in_keep, kept, once_keep, mapped, in_map, once_map}
use Rattle.tables.proofs.ByNumber.{named, in_names, once_names}

module _ (t : Tables) (now : InOrder t) where
  abbrev rules : Rules (lookup t) (entry_of t) (last_of t)
  rules = now.rules

  -- ---- a loan and its recall
  pub record Loan (n m : Name) : Type 0 where
    pub by : Name
    pub recall : is_recall (lookup t by).kind ≡ true
    pub own : own_name by (lookup t by) ≡ n
    pub target : (lookup t by).other ≡ m
    pub listed : is_listed t m ≡ true

  pub loan_of : (n m : Name) → In m (loans_of t n) → Loan n m
  unfolding loans_of is_recall_of
  loan_of n m i =
      let k = kept (is_listed t) m (map (λ r. (lookup t r).other) (names_of (is_recall_of n.number) t n.pad n.program)) i in
      let p = mapped (λ (r : Name). (lookup t r).other) m (names_of (is_recall_of n.number) t n.pad n.program) k.member in
      let a = named (is_recall_of n.number) t n.pad n.program p.from p.member in
      record {
        by = p.from;
        recall = and_l (is_recall (lookup t p.from).kind) (eqb (lookup t p.from).own n.number) a.passes;
        own = name_eq a.on a.of (eqb-true (lookup t p.from).own n.number (and_r (is_recall (lookup t p.from).kind)
            (eqb (lookup t p.from).own n.number) a.passes));
        target = sym p.is;
        listed = k.passes;
      }

  pub in_loans : (r m : Name) → is_recall (lookup t r).kind ≡ true → (lookup t r).other ≡ m → is_listed t m ≡ true → In m (loans_of t (own_name r (lookup t r)))
  unfolding loans_of is_recall_of
  in_loans r m e target l =
      let g = rules.named r (live_recall (lookup t r).kind e) in
      let i = in_names (is_recall_of (lookup t r).own) t r (and_intro e (eq-eqb (lookup t r).own (lookup t r).own refl)) g.low g.high in
      in_keep (is_listed t) m (map (λ (q : Name). (lookup t q).other) (names_of (is_recall_of (lookup t r).own) t r.pad r.program))
      (subst (λ (x : Name). In x (map (λ (q : Name). (lookup t q).other) (names_of (is_recall_of (lookup t r).own) t r.pad r.program))) target
      (in_map (λ (q : Name). (lookup t q).other) r (names_of (is_recall_of (lookup t r).own) t r.pad r.program) i)) l

  -- one lender
  pub lender : (n n' m : Name) → In m (loans_of t n) → In m (loans_of t n') → n ≡ n'
  lender n n' m i j =
      let a = loan_of n m i in
      let b = loan_of n' m j in
      let e : a.by ≡ b.by = rules.once a.by b.by a.recall b.recall (a.target ∙ sym b.target) in
      sym a.own ∙ ap (λ (r : Name). own_name r (lookup t r)) e ∙ b.own

  pub once_loans : (n : Name) → Once (loans_of t n)
  unfolding loans_of is_recall_of
  once_loans n =
      once_keep (is_listed t) (map (λ r. (lookup t r).other) (names_of (is_recall_of n.number) t n.pad n.program))
      (once_map (λ (r : Name). (lookup t r).other) (names_of (is_recall_of n.number) t n.pad n.program) (once_names (is_recall_of n.number) t n.pad n.program)
      (λ a b i j e. rules.once a b (is_recall_lem a i) (is_recall_lem b j) e))
    where
      is_recall_lem : (a : Name) → In a (names_of (is_recall_of n.number) t n.pad n.program) → is_recall (lookup t a).kind ≡ true
      is_recall_lem a i = and_l (is_recall (lookup t a).kind) (eqb (lookup t a).own n.number) (named (is_recall_of n.number) t n.pad n.program a i).passes
