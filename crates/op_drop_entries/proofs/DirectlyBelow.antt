-- An entry directly below another: what it says, and its test in code.
use mathlib.Core.Path.{◌≡◌}
use mathlib.Core.Bool.{true, false, not, ◌&&◌}
use borrow.Author.Tests.{not-true}
use Rattle.lists.proofs.Tests.{and_l, and_r, and_intro, not_test}
use Rattle.tables.specs.declared.{Name.Name, Entry.Entry}
use Rattle.tables.specs.Names.{eq_name, is_none}
use Rattle.tables.proofs.NameLaws.{eq_name_true, eq_name_test}
use Rattle.op_drop_entries.specs.Links.{directly_below}

module _ (n : Name) (e : Entry) where
  pub below_live : directly_below n e ≡ true → e.live ≡ true
  unfolding directly_below
  below_live h = and_l e.live _ h

  pub below_linked : directly_below n e ≡ true → is_none e.parent ≡ false
  unfolding directly_below
  below_linked h =
      not-true (is_none e.parent) (and_l (not (is_none e.parent)) _ (and_r e.live (not (is_none e.parent) && eq_name e.parent n) h))

  pub below_parent : directly_below n e ≡ true → e.parent ≡ n
  unfolding directly_below
  below_parent h =
      eq_name_true e.parent n (and_r (not (is_none e.parent)) _ (and_r e.live (not (is_none e.parent) && eq_name e.parent n) h))

  pub below_intro : e.live ≡ true → is_none e.parent ≡ false → e.parent ≡ n → directly_below n e ≡ true
  unfolding directly_below
  below_intro l z p = and_intro l (and_intro (not_test (is_none e.parent) z) (eq_name_test e.parent n p))
