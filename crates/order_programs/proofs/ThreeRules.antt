-- Each of the three rules that are tested together: T1, T2 and T4.
use mathlib.Core.Path.{◌≡◌}
use mathlib.Core.Bool.{true, ◌&&◌}
use Rattle.lists.proofs.Tests.{and_l, and_r}
use Rattle.tables.specs.declared.Tables.{Tables}
use Rattle.tables.specs.Order.{t1, t2, t4}

module _ (t : Tables) (rules : (t1 t && t2 t && t4 t) ≡ true) where
  pub rule_1 : t1 t ≡ true
  rule_1 = and_l (t1 t) (t2 t) (and_l (t1 t && t2 t) (t4 t) rules)

  pub rule_2 : t2 t ≡ true
  rule_2 = and_r (t1 t) (t2 t) (and_l (t1 t && t2 t) (t4 t) rules)

  pub rule_4 : t4 t ≡ true
  rule_4 = and_r (t1 t && t2 t) (t4 t) rules
