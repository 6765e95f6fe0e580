-- The rules T1 to T6 on examples: tables in order, and for each clause of each rule tables that break it. The claim is computed: the
-- first broken rule of each example is the one that is written beside it, 0 where there is none.
use Prim.Native.Nat.{ℕ}
use mathlib.Core.Path.{◌≡◌, refl}
use mathlib.Core.Bool.{Bool, true, cond}
use mathlib.Core.List.{List, [], ◌∷◌}
use lib.Dec.{eqb}
use Rattle.lists.specs.Tests.{implies, between}
use Rattle.lists.specs.Lists.{first_index, all, some, no_two, all_at, some_at, map_at}
use Rattle.rights.specs.Rules.{rights_of, within}
use Rattle.tables.specs.declared.{Name.Name, Tables.Tables}
use Rattle.tables.specs.declared.Kind.TheVariants.{Taken, Received, Recall}
use Rattle.tables.specs.Names.{name_of, no_name, eq_name, is_program, grant_ticket, recall_ticket, empty_tables}
use Rattle.tables.specs.Lookup.{has_number, ticket_in, lookup, is_named, entry_in}
use Rattle.tables.specs.Chains.{reaches, end_of}
use Rattle.tables.specs.Sheets.{apart, inside}
use Rattle.tables.specs.Order.{every_ticket_of, every_ticket, some_ticket_of, some_ticket, every_entry, numbers_ok, t1, span_ok, t2, parent_ok, child_ok, t3, t4, entry_names_ok, grant_ok, parent_entry_ok, entry_ok, roots_ok, t5, recall_parent_ok, is_child_of, far_target_ok, target_ok, recall_ok, t6}
use Rattle.tables.specs.Change.{is_free, with_ticket, with_program, give, is_spare, put_entry, drop_ticket, drop_in_program, drop_in_pad, drop_tickets, drop_entry, drop_entries}
use Rattle.tables.proofs.Building.{head, child, entry, with_taken, with_received, with_stale, swap, swap_entry, swap_both, with_last}

first_broken : Tables → ℕ
first_broken t = cond (t1 t) (cond (t2 t) (cond (t3 t) (cond (t4 t) (cond (t5 t) (cond (t6 t) 0 6) 5) 4) 3) 2) 1

-- ---- tables in order: `capture` took sheets 0 to 3, lent 0 and 1 to `viewer` on its pad and 2 and 3 to `nurse` on another, who
-- lent 3 on to `doctor` on a third; `clerk` took 100 sheets more
abbrev capture : Name
capture = name_of 0 0 1

abbrev viewer : Name
viewer = name_of 0 1 1

abbrev nurse : Name
nurse = name_of 1 0 1

abbrev doctor : Name
doctor = name_of 2 0 1

abbrev clerk : Name
clerk = name_of 3 0 1

abbrev at_viewer : Tables → Tables
at_viewer t = give (give t 0 0 (recall_ticket 2 1 viewer)) 0 1 (child 1 capture 0 2 3 capture)

abbrev at_nurse : Tables → Tables
at_nurse t = with_received nurse capture 2 2 5 (give t 0 0 (recall_ticket 3 1 nurse))

abbrev at_doctor : Tables → Tables
at_doctor t = with_received doctor nurse 3 1 1 (give t 1 0 (recall_ticket 2 1 doctor))

good : Tables
good = with_taken clerk 4 100 7 (at_doctor (at_nurse (at_viewer (with_taken capture 0 4 7 empty_tables))))

-- `good` after the dock has forgotten the loans to other pads: nurse and doctor hold stale grants
abbrev forgotten : Tables → Tables
forgotten t = drop_entries (λ n. eq_name n nurse) (drop_entries (λ n. eq_name n doctor) t)

abbrev without : Name → Tables → Tables
without n t = drop_tickets (λ m. eq_name m n) t

record Example : Type 0 where
  broken : ℕ
  tables : Tables

abbrev breaks : ℕ → Tables → Example
breaks rule t = record { broken = rule; tables = t }

-- `good` with a recall whose unused fields are those of a grant
recall_like_grant : Tables
recall_like_grant =
    swap (name_of 0 0 2)
    (record { kind = Recall; number = 2; own = 1; other = viewer; first = 0; count = 4; rights = rights_of 7; dock = capture })
    good

in_good_order : List Example
in_good_order =
    breaks 0 empty_tables ∷
    breaks 0 good ∷
    breaks 0 recall_like_grant ∷
    -- the clerk's sheets reach the end of the store
    breaks 0 (swap_both clerk (head Taken clerk 4 252 7) (entry clerk no_name 4 252 7) good) ∷
    -- the viewer lends one sheet on to another program of its pad: a child of a child
    breaks 0 (give (give (swap viewer (child 1 capture 0 2 7 capture) good) 0 1 (recall_ticket 2 1 (name_of 0 2 1))) 0 2 (child 1 viewer 1 1 1 capture)) ∷
    -- stale grants, with recalls that name them and without
    breaks 0 (forgotten good) ∷
    breaks 0 (without (name_of 0 0 3) (forgotten good)) ∷
    []

broken_numbers : List Example
broken_numbers =
    -- two live tickets of one number; a number above the last; number 0
    breaks 1 (with_last 0 0 3 (give good 0 0 (recall_ticket 1 1 nurse))) ∷
    breaks 1 (with_last 0 0 2 good) ∷
    breaks 1 (swap clerk (head Taken (name_of 3 0 0) 4 100 7) good) ∷
    []

broken_spans : List Example
broken_spans =
    -- count 0; one sheet past the store; rights 0 and 8
    breaks 2 (swap viewer (child 1 capture 0 0 3 capture) good) ∷
    breaks 2 (swap clerk (head Taken clerk 4 253 7) good) ∷
    breaks 2 (swap viewer (child 1 capture 0 2 0 capture) good) ∷
    breaks 2 (swap viewer (child 1 capture 0 2 8 capture) good) ∷
    []

broken_children : List Example
broken_children =
    -- the parent is dead, a recall, on another pad, of the same program, without the pass on right
    breaks 3 (swap viewer (child 1 (name_of 0 0 9) 0 2 3 capture) good) ∷
    breaks 3 (swap viewer (child 1 (name_of 0 0 2) 0 2 3 capture) recall_like_grant) ∷
    breaks 3 (swap viewer (child 1 clerk 4 2 3 clerk) good) ∷
    breaks 3 (give good 0 0 (child 4 capture 0 2 3 capture)) ∷
    breaks 3 (swap capture (head Taken capture 0 4 3) good) ∷
    -- one sheet outside the parent's; rights 3 of a parent with 5; another dock name; a ring of two
    breaks 3 (swap viewer (child 1 capture 3 2 3 capture) good) ∷
    breaks 3 (swap capture (head Taken capture 0 4 5) good) ∷
    breaks 3 (swap viewer (child 1 capture 0 2 3 nurse) good) ∷
    breaks 3 (give (swap viewer (child 1 (name_of 0 2 1) 0 2 7 capture) good) 0 2 (child 1 viewer 0 2 7 capture)) ∷
    []

broken_dock_names : List Example
broken_dock_names =
    breaks 4 (swap clerk (grant_ticket Taken 1 no_name 4 100 (rights_of 7) capture) good) ∷
    breaks 4 (swap nurse (grant_ticket Received 1 no_name 2 2 (rights_of 5) capture) good) ∷
    []

broken_entries : List Example
broken_entries =
    -- two entries of one name; an entry that names a dead ticket, a child
    breaks 5 (put_entry good (entry nurse capture 2 2 5)) ∷
    breaks 5 (swap_entry clerk (entry (name_of 3 0 2) no_name 4 100 7) good) ∷
    breaks 5 (put_entry good (entry viewer capture 0 2 3)) ∷
    -- another first sheet, another count, other rights than the grant's
    breaks 5 (swap_entry clerk (entry clerk no_name 5 100 7) good) ∷
    breaks 5 (swap_entry clerk (entry clerk no_name 4 99 7) good) ∷
    breaks 5 (swap_entry clerk (entry clerk no_name 4 100 3) good) ∷
    -- a received grant's entry under the store, a taken one's under an entry
    breaks 5 (swap_both doctor (head Received doctor 200 1 1) (entry doctor no_name 200 1 1) good) ∷
    breaks 5 (swap_both clerk (head Taken clerk 0 1 7) (entry clerk capture 0 1 7) good) ∷
    -- a parent with number 0 that is not the store, by its pad, by its program
    breaks 5 (swap_entry clerk (entry clerk (name_of 1 0 0) 4 100 7) good) ∷
    breaks 5 (swap_entry clerk (entry clerk (name_of 0 2 0) 4 100 7) good) ∷
    -- the parent entry is dead, lacks the pass on right, does not contain the sheets, does not contain the rights
    breaks 5 (drop_entries (λ n. eq_name n nurse) good) ∷
    breaks 5 (swap_both nurse (head Received nurse 2 2 3) (entry nurse capture 2 2 3) good) ∷
    breaks 5 (swap_both doctor (head Received doctor 1 2 1) (entry doctor nurse 1 2 1) good) ∷
    breaks 5 (swap_both doctor (head Received doctor 3 1 2) (entry doctor nurse 3 1 2) good) ∷
    -- a ring of two; two entries under the store that share sheet 3; a taken grant without its entry
    breaks 5
    (swap_both nurse (head Received nurse 3 1 4) (entry nurse doctor 3 1 4)
    (swap_both doctor (head Received doctor 3 1 4) (entry doctor nurse 3 1 4) good)) ∷
    breaks 5 (swap_both clerk (head Taken clerk 3 100 7) (entry clerk no_name 3 100 7) good) ∷
    breaks 5 (drop_entries (λ n. eq_name n clerk) good) ∷
    []

broken_recalls : List Example
broken_recalls =
    -- the recall's grant is dead, a recall, without the pass on right
    breaks 6 (swap (name_of 0 0 3) (recall_ticket 3 9 nurse) (forgotten good)) ∷
    breaks 6 (swap (name_of 0 0 3) (recall_ticket 3 2 nurse) (forgotten recall_like_grant)) ∷
    breaks 6 (swap_both nurse (head Received nurse 2 2 1) (entry nurse capture 2 2 1) (drop_entries (λ n. eq_name n doctor) good)) ∷
    -- the target on its pad is dead, no child, or another grant's child
    breaks 6 (without viewer good) ∷
    breaks 6 (swap viewer (grant_ticket Received 1 capture 0 2 (rights_of 3) viewer) good) ∷
    breaks 6 (swap (name_of 0 0 2) (recall_ticket 2 4 viewer) (with_stale (name_of 0 0 4) 0 4 7 good)) ∷
    -- the target on another pad has number 0, a number above the last, an impossible pad, an impossible program
    breaks 6 (swap (name_of 1 0 2) (recall_ticket 2 1 (name_of 2 0 0)) (forgotten good)) ∷
    breaks 6 (swap (name_of 1 0 2) (recall_ticket 2 1 (name_of 2 0 2)) (forgotten good)) ∷
    breaks 6 (swap (name_of 1 0 2) (recall_ticket 2 1 (name_of 4 0 1)) (forgotten good)) ∷
    breaks 6 (swap (name_of 1 0 2) (recall_ticket 2 1 (name_of 2 8 1)) (forgotten good)) ∷
    -- it is a live child: the viewer, whose own recall is gone
    breaks 6 (give (without (name_of 0 0 2) good) 3 0 (recall_ticket 2 1 viewer)) ∷
    -- it is in the dock under another entry, under the store, with a sheet that the recall's grant lacks
    breaks 6 (give (without (name_of 1 0 2) good) 0 0 (recall_ticket 4 1 doctor)) ∷
    breaks 6 (give good 0 0 (recall_ticket 4 1 clerk)) ∷
    breaks 6 (give (without (name_of 0 0 3) (swap viewer (child 1 capture 0 3 7 capture) good)) 0 1 (recall_ticket 2 1 nurse)) ∷
    -- two recalls of one target; a child that no recall names; an entry below another that no recall names
    breaks 6 (give good 0 0 (recall_ticket 4 1 nurse)) ∷
    breaks 6 (without (name_of 0 0 2) good) ∷
    breaks 6 (without (name_of 1 0 2) good) ∷
    []

-- each example breaks first the rule that stands beside it
rightly : List Example → Bool
rightly es = all (λ e. eqb (first_broken e.tables) e.broken) es

abbrev examples : List (List Example)
examples = in_good_order ∷ broken_numbers ∷ broken_spans ∷ broken_children ∷ broken_dock_names ∷ broken_entries ∷ broken_recalls ∷ []

order_cases : all rightly examples ≡ true
unfolding implies between first_index all some no_two all_at some_at map_at within eq_name is_program empty_tables
    has_number ticket_in lookup is_named entry_in reaches end_of apart inside
    every_ticket_of every_ticket some_ticket_of some_ticket every_entry numbers_ok t1 span_ok t2 parent_ok child_ok t3 t4
    entry_names_ok grant_ok parent_entry_ok entry_ok roots_ok t5 recall_parent_ok is_child_of far_target_ok target_ok recall_ok t6
    is_free with_ticket with_program give is_spare put_entry drop_ticket drop_in_program drop_in_pad drop_tickets drop_entry drop_entries
    first_broken swap swap_entry swap_both good recall_like_grant rightly
    in_good_order broken_numbers broken_spans broken_children broken_dock_names broken_entries broken_recalls
order_cases = refl
