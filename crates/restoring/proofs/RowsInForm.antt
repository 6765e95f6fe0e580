-- Every line of tables in order is in form, with values of 16 bits: what is saved can be read again, and how long a line may be.
use Prim.Native.Nat.{ℕ, ◌+◌, ◌*◌, ◌/◌, ◌%◌, ◌≤◌, ◌<◌}
use native.Mathlib.Omega.{arith}
use mathlib.Core.Path.{◌≡◌, refl, sym, ap, ◌∙◌, subst}
use mathlib.Core.Logic.{⊎_elim}
use mathlib.Core.Bool.{true, cond}
use mathlib.Core.List.{List, ◌++◌, map, flat_map}
use lib.Dec.{leb, eqb}
use borrow.Author.Tests.{le-leb, eqb-true, eqb-false}
use Rattle.lists.specs.Tests.{between}
use Rattle.lists.specs.Lists.{all, keep}
use Rattle.lists.specs.Members.{In}
use Rattle.lists.proofs.Tests.{Case, pass, fail, case, no_true, and_l, and_r, and_intro}
use Rattle.lists.proofs.MemberLaws.{in_left, in_right, in_either, kept, in_keep, mapped, in_map, flat, in_flat}
use Rattle.lists.proofs.KeyedMembers.{member_found}
use Rattle.rights.specs.declared.Rights.{Rights}
use Rattle.tables.specs.declared.{Name.Name, Kind.Kind, Ticket.Ticket, Entry.Entry, Tables.Tables}
use Rattle.tables.specs.declared.Kind.TheVariants.{Free, Taken, Received, Child, Recall}
use Rattle.tables.specs.Kinds.{is_live, is_grant, is_child, is_recall}
use Rattle.tables.specs.Names.{name_of, no_name, is_none, is_program}
use Rattle.tables.specs.Lookup.{Sized, tickets_of, last_of, lookup, entry_of}
use Rattle.tables.specs.Chains.{own_name}
use Rattle.tables.specs.Same.{said_by, said_entry}
use Rattle.tables.specs.Order.{in_order}
use Rattle.tables.proofs.KindLaws.{live_grant, live_head, live_child, head_grant}
use Rattle.tables.proofs.NameLaws.{Possible, is_program_lem, program_possible}
use Rattle.tables.proofs.Keys.{ticket_keys, entry_keys, ticket_laws, entry_laws, lookup_keyed, entry_keyed}
use Rattle.preservation.specs.Rules.{Span, Given, EntryOk}
use Rattle.preservation.specs.InOrder.{InOrder}
use Rattle.preservation.proofs.RuleFacts.{entry_head}
use Rattle.preservation.proofs.TestMeansOrder.{test_means_order}
use Rattle.image.specs.Image.{kind_number}
use Rattle.saved.specs.declared.Row.{Row}
use Rattle.saved.specs.Row.{columns_of, zero_unless, own_ok, other_ok, sheets_ok, row_ok}
use Rattle.saved.specs.Save.{programs, last_row, ticket_row, ticket_rows, entry_row, rows_found}
use Rattle.saved.specs.Claims.{NumbersFit}
use Rattle.saved.proofs.RowLaws.{ranges}
use Rattle.saved_laws.proofs.Assembly.{listed, in_list}
use Rattle.restoring.proofs.RowsOfText.{Writable}

-- ---- a row in form whose values have 16 bits, and sheets and rights that a grant can have
pub record InForm (r : Row) : Type 0 where
  pub ok : row_ok r ≡ true
  pub number : r.number ≤ 65535
  pub own : r.own ≤ 65535
  pub other : r.other.number ≤ 65535
  pub first : r.first ≤ 256
  pub count : r.count ≤ 256
  pub rights : r.rights ≤ 7

pub other_ranges : (r : Row) → row_ok r ≡ true → Possible r.other.pad r.other.program
unfolding row_ok
other_ranges r e =
    let p : is_program r.other.pad r.other.program ≡ true = search (and_l, and_r) depth 8 in
    is_program_lem r.other.pad r.other.program p

-- a name that a column may hold
record Known (n : Name) : Type 0 where
  program : is_program n.pad n.program ≡ true
  number : n.number ≤ 65535

no_program_lem : is_program 0 0 ≡ true
unfolding is_program
no_program_lem = refl

no_known : Known no_name
no_known = record { program = no_program_lem; number = omega arith }

-- ---- tickets, by kind
abbrev pub row_by : Kind → ℕ → ℕ → Ticket → Row
row_by c p q k = record {
  kind = kind_number (said_by c k).kind;
  pad = p;
  program = q;
  number = (said_by c k).number;
  own = (said_by c k).own;
  other = (said_by c k).other;
  first = (said_by c k).first;
  count = (said_by c k).count;
  rights = (said_by c k).rights.bits;
}

record Holds (c : Kind) (k : Ticket) : Type 0 where
  number : k.number ≤ 65535
  own : is_recall c ≡ true → k.own ≤ 65535
  parent : is_child c ≡ true → Known k.other
  target : is_recall c ≡ true → Known k.other
  span : is_grant c ≡ true → Span k.first k.count k.rights

first_low : {f c : ℕ} {r : Rights} → Span f c r → f ≤ 256
first_low s = omega (arith, s.fits)

count_low : {f c : ℕ} {r : Rights} → Span f c r → c ≤ 256
count_low s = omega (arith, s.fits)

form_by : (c : Kind) (p q : ℕ) (k : Ticket) → is_live c ≡ true → is_program p q ≡ true → Holds c k → InForm (row_by c p q k)
unfolding row_ok own_ok other_ok sheets_ok zero_unless between said_by
form_by Free p q k l h u = no_true l
form_by Taken p q k l h u =
    let s = u.span refl in
    let o : row_ok (row_by Taken p q k) ≡ true = rw (h, no_program_lem) in
    record { ok = o; number = u.number; own = omega arith; other = omega arith; first = first_low s; count = count_low s; rights = s.rights }
form_by Received p q k l h u =
    let s = u.span refl in
    let o : row_ok (row_by Received p q k) ≡ true = rw (h, no_program_lem) in
    record { ok = o; number = u.number; own = omega arith; other = omega arith; first = first_low s; count = count_low s; rights = s.rights }
form_by Child p q k l h u =
    let s = u.span refl in
    let w = u.parent refl in
    let o : row_ok (row_by Child p q k) ≡ true = rw (h, w.program) in
    record { ok = o; number = u.number; own = omega arith; other = w.number; first = first_low s; count = count_low s; rights = s.rights }
form_by Recall p q k l h u =
    let w = u.target refl in
    let o : row_ok (row_by Recall p q k) ≡ true = rw (h, w.program) in
    record { ok = o; number = u.number; own = u.own refl; other = w.number; first = omega arith; count = omega arith; rights = omega arith }

form_entry : (e : Entry) → Known e.name → Span e.first e.count e.rights → Known (cond (is_none e.parent) no_name e.parent) → InForm (entry_row e)
unfolding row_ok own_ok other_ok sheets_ok zero_unless between entry_row said_entry
form_entry e n s w =
    let o : row_ok (entry_row e) ≡ true = rw (n.program, w.program) in
    record { ok = o; number = n.number; own = omega arith; other = w.number; first = first_low s; count = count_low s; rights = s.rights }

form_last : (t : Tables) (i : ℕ) → is_program (i / 8) (i % 8) ≡ true → last_of t (i / 8) (i % 8) ≤ 65535 → InForm (last_row t i)
unfolding row_ok own_ok other_ok sheets_ok zero_unless between last_row
form_last t i h b =
    let o : row_ok (last_row t i) ≡ true = rw (h, no_program_lem) in
    record { ok = o; number = b; own = omega arith; other = omega arith; first = omega arith; count = omega arith; rights = omega arith }

-- ---- tables whose rows may be written: in order, last numbers of 16 bits
pub record Good (t : Tables) : Type 0 where
  pub order : InOrder t
  pub numbers : NumbersFit t

pub good_of : (t : Tables) → Sized t → NumbersFit t → in_order t ≡ true → Good t
good_of t z fit h = record { order = test_means_order t z h; numbers = fit }

-- ---- which lines there are
pub record LastLine (t : Tables) (z : Row) : Type 0 where
  pub at : ℕ
  pub low : at < 32
  pub is : z ≡ last_row t at

pub record TicketLine (t : Tables) (z : Row) : Type 0 where
  pub pad : ℕ
  pub program : ℕ
  pub pad_low : pad < 4
  pub program_low : program < 8
  pub ticket : Ticket
  pub member : In ticket (tickets_of t pad program)
  pub lives : is_live ticket.kind ≡ true
  pub is : z ≡ ticket_row pad program ticket

pub record EntryLine (t : Tables) (z : Row) : Type 0 where
  pub entry : Entry
  pub member : In entry t.entries
  pub lives : entry.live ≡ true
  pub is : z ≡ entry_row entry

module _ (t : Tables) where
  abbrev pub last_lines : List Row
  last_lines = map (last_row t) programs

  abbrev pub ticket_lines : List Row
  ticket_lines = flat_map (ticket_rows t) programs

  abbrev pub entry_lines : List Row
  entry_lines = map entry_row (keep (λ e. e.live) t.entries)

  pub last_out : (z : Row) → In z last_lines → LastLine t z
  last_out z m = let f = mapped (last_row t) z programs m in record { at = f.from; low = listed f.from f.member; is = f.is }

  pub part_out : (i : ℕ) → i < 32 → (z : Row) → In z (ticket_rows t i) → TicketLine t z
  unfolding ticket_rows
  part_out i b z m =
      let f = mapped (ticket_row (i / 8) (i % 8)) z (keep (λ k. is_live k.kind) (tickets_of t (i / 8) (i % 8))) m in
      let p = kept (λ k. is_live k.kind) f.from (tickets_of t (i / 8) (i % 8)) f.member in
      record {
        pad = i / 8;
        program = i % 8;
        pad_low = omega (arith, b);
        program_low = omega arith;
        ticket = f.from;
        member = p.member;
        lives = p.passes;
        is = f.is;
      }

  pub ticket_out : (z : Row) → In z ticket_lines → TicketLine t z
  ticket_out z m = let p = flat (ticket_rows t) z programs m in part_out p.from (listed p.from p.member) z p.part

  pub entry_out : (z : Row) → In z entry_lines → EntryLine t z
  entry_out z m =
      let f = mapped entry_row z (keep (λ e. e.live) t.entries) m in
      let p = kept (λ e. e.live) f.from t.entries f.member in
      record { entry = f.from; member = p.member; lives = p.passes; is = f.is }

  pub data Line (z : Row) : Type 0 where
    last : LastLine t z → Line z
    ticket : TicketLine t z → Line z
    entry : EntryLine t z → Line z

  pub line_out : (z : Row) → In z (rows_found t) → Line z
  unfolding rows_found
  line_out z m =
      ⊎_elim (λ a. ⊎_elim (λ b. last (last_out z b)) (λ b. ticket (ticket_out z b)) (in_either z last_lines ticket_lines a)) (λ a. entry (entry_out z a))
      (in_either z (last_lines ++ ticket_lines) entry_lines m)

  pub lasts_found : (z : Row) → In z last_lines → In z (rows_found t)
  unfolding rows_found
  lasts_found z m = in_left z (last_lines ++ ticket_lines) entry_lines (in_left z last_lines ticket_lines m)

  pub tickets_found : (z : Row) → In z ticket_lines → In z (rows_found t)
  unfolding rows_found
  tickets_found z m = in_left z (last_lines ++ ticket_lines) entry_lines (in_right z last_lines ticket_lines m)

  pub entries_found : (z : Row) → In z entry_lines → In z (rows_found t)
  unfolding rows_found
  entries_found z m = in_right z (last_lines ++ ticket_lines) entry_lines m

  pub last_in_lem : (i : ℕ) → i < 32 → In (last_row t i) (rows_found t)
  last_in_lem i b = lasts_found (last_row t i) (in_map (last_row t) i programs (in_list i b))

  part_in : (i : ℕ) (k : Ticket) → In k (tickets_of t (i / 8) (i % 8)) → is_live k.kind ≡ true → In (ticket_row (i / 8) (i % 8) k) (ticket_rows t i)
  unfolding ticket_rows
  part_in i k m l =
      in_map (ticket_row (i / 8) (i % 8)) k (keep (λ k. is_live k.kind) (tickets_of t (i / 8) (i % 8)))
      (in_keep (λ k. is_live k.kind) k (tickets_of t (i / 8) (i % 8)) m l)

  pub found_in : (i : ℕ) → i < 32 → (z : Row) → In z (ticket_rows t i) → In z (rows_found t)
  found_in i b z m = tickets_found z (in_flat (ticket_rows t) z i programs (in_list i b) m)

  pub ticket_in_lem : (p q : ℕ) → p < 4 → q < 8 → (k : Ticket) → In k (tickets_of t p q) → is_live k.kind ≡ true → In (ticket_row p q k) (rows_found t)
  ticket_in_lem p q b c k m l = go (8 * p + q) (omega arith) (omega (arith, c)) (omega (arith, c))
    where
      go : (i : ℕ) → i < 32 → i / 8 ≡ p → i % 8 ≡ q → In (ticket_row p q k) (rows_found t)
      go i h x y =
          let a : In (ticket_row (i / 8) (i % 8) k) (ticket_rows t i)
          = part_in i k (subst (λ (n : ℕ). In k (tickets_of t n (i % 8))) (sym x) (subst (λ (n : ℕ). In k (tickets_of t p n)) (sym y) m)) l in
          let w : In (ticket_row (i / 8) (i % 8) k) (rows_found t) = found_in i h (ticket_row (i / 8) (i % 8) k) a in
          subst (λ (n : ℕ). In (ticket_row n q k) (rows_found t)) x (subst (λ (n : ℕ). In (ticket_row (i / 8) n k) (rows_found t)) y w)

  pub entry_in_lem : (e : Entry) → In e t.entries → e.live ≡ true → In (entry_row e) (rows_found t)
  entry_in_lem e m l = entries_found (entry_row e) (in_map entry_row e (keep (λ e. e.live) t.entries) (in_keep (λ e. e.live) e t.entries m l))

-- ---- each is in form
module _ (t : Tables) (good : Good t) where
  -- what a live ticket's or entry's name finds is that one
  pub ticket_named : (p q : ℕ) → p < 4 → q < 8 → (k : Ticket) → In k (tickets_of t p q) → is_live k.kind ≡ true → lookup t (name_of p q k.number) ≡ k
  ticket_named p q b c k m l =
      lookup_keyed t (name_of p q k.number) ∙ member_found ticket_keys ticket_laws (tickets_of t p q) (good.order.shape.distinct p q b c) k m l

  pub entry_named : (e : Entry) → In e t.entries → e.live ≡ true → entry_of t e.name ≡ e
  entry_named e m l = entry_keyed t e.name ∙ member_found entry_keys entry_laws t.entries good.order.shape.distinct_entries e m l

  given_known : (n : Name) → Given (last_of t) n → Known n
  given_known n g = record {
    program = program_possible n.pad n.program g.pad g.program;
    number = omega (arith, g.high, good.numbers n.pad n.program (omega (arith, g.pad)) (omega (arith, g.program)));
  }

  live_known : (n : Name) → is_live (lookup t n).kind ≡ true → Known n
  live_known n l = given_known n (good.order.rules.named n l)

  holds : (n : Name) → is_live (lookup t n).kind ≡ true → Holds (lookup t n).kind (lookup t n)
  holds n l = record {
    number = omega (arith, good.order.rules.number n l, (live_known n l).number);
    own = λ h. (live_known (own_name n (lookup t n)) (live_grant (lookup t (own_name n (lookup t n))).kind (good.order.rules.recall n h).grant)).number;
    parent = λ h. live_known (lookup t n).other (live_grant (lookup t (lookup t n).other).kind (good.order.rules.child n h).grant);
    target = λ h. target_of h (case (eqb (lookup t n).other.pad n.pad));
    span = good.order.rules.span n;
  }
    where
      target_of : is_recall (lookup t n).kind ≡ true → Case (eqb (lookup t n).other.pad n.pad) → Known (lookup t n).other
      target_of h (pass p) =
          live_known (lookup t n).other
          (live_child (lookup t (lookup t n).other).kind (good.order.rules.near n h (eqb-true (lookup t n).other.pad n.pad p)).child)
      target_of h (fail p) = given_known (lookup t n).other (good.order.rules.far n h (eqb-false (lookup t n).other.pad n.pad p))

  ticket_form : (p q : ℕ) → p < 4 → q < 8 → (k : Ticket) → In k (tickets_of t p q) → is_live k.kind ≡ true → InForm (ticket_row p q k)
  unfolding ticket_row
  ticket_form p q b c k m l =
      let e = ticket_named p q b c k m l in
      let u : Holds (lookup t (name_of p q k.number)).kind (lookup t (name_of p q k.number))
      = holds (name_of p q k.number) (ap (λ (a : Ticket). is_live a.kind) e ∙ l) in
      form_by k.kind p q k l (program_possible p q (omega (arith, b)) (omega (arith, c))) (subst (λ (a : Ticket). Holds a.kind a) e u)

  entry_form : (n : Name) → (entry_of t n).live ≡ true → InForm (entry_row (entry_of t n))
  entry_form n l =
      let o : EntryOk (entry_of t n) (lookup t n) = good.order.rules.entry n l in
      let h = entry_head o in
      let s : Span (lookup t n).first (lookup t n).count (lookup t n).rights = good.order.rules.span n (head_grant (lookup t n).kind h) in
      let s' : Span (entry_of t n).first (entry_of t n).count (entry_of t n).rights = rw (o.first, o.count, o.rights) at s in
      form_entry (entry_of t n)
      (subst Known (sym (good.order.rules.entry_name n l)) (live_known n (live_head (lookup t n).kind h))) s' (parent_of_lem (case (is_none (entry_of t n).parent)))
    where
      parent_of_lem : Case (is_none (entry_of t n).parent) → Known (cond (is_none (entry_of t n).parent) no_name (entry_of t n).parent)
      parent_of_lem (pass z) = rw z no_known
      parent_of_lem (fail z) =
          let w = (good.order.rules.under n l z).live in
          let k : Known (entry_of t n).parent
          = live_known (entry_of t n).parent (live_head (lookup t (entry_of t n).parent).kind (entry_head (good.order.rules.entry (entry_of t n).parent w))) in
          rw z k

  pub line_form : (z : Row) → In z (rows_found t) → InForm z
  line_form z m = go (line_out t z m)
    where
      go : Line t z → InForm z
      go (last r) =
          subst InForm (sym r.is)
          (form_last t r.at (program_possible (r.at / 8) (r.at % 8) (omega (arith, r.low)) (omega arith))
          (good.numbers (r.at / 8) (r.at % 8) (omega (arith, r.low)) (omega arith)))
      go (ticket r) = subst InForm (sym r.is) (ticket_form r.pad r.program r.pad_low r.program_low r.ticket r.member r.lives)
      go (entry r) =
          let e = entry_named r.entry r.member r.lives in
          subst InForm (sym r.is)
          (subst (λ (a : Entry). InForm (entry_row a)) e (entry_form r.entry.name (ap (λ (a : Entry). a.live) e ∙ r.lives)))

columns_fit : (r : Row) → InForm r → all (λ x. leb x 65535) (columns_of r) ≡ true
unfolding all
columns_fit r f =
    let a = ranges r f.ok in
    let b = other_ranges r f.ok in
    and_intro (le-leb r.kind 65535 (omega (arith, a.kind)))
    (and_intro (le-leb r.pad 65535 (omega (arith, a.pad)))
    (and_intro (le-leb r.program 65535 (omega (arith, a.program)))
    (and_intro (le-leb r.number 65535 f.number)
    (and_intro (le-leb r.own 65535 f.own)
    (and_intro (le-leb r.other.pad 65535 (omega (arith, b.pad)))
    (and_intro (le-leb r.other.program 65535 (omega (arith, b.program)))
    (and_intro (le-leb r.other.number 65535 f.other)
    (and_intro (le-leb r.first 65535 (omega (arith, f.first)))
    (and_intro (le-leb r.count 65535 (omega (arith, f.count)))
    (and_intro (le-leb r.rights 65535 (omega (arith, f.rights))) refl))))))))))

pub writable : (r : Row) → InForm r → Writable r
writable r f = record { ok = f.ok; fits = columns_fit r f }
