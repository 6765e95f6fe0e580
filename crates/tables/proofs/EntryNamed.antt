-- Whether an entry is the live one of a name.
use mathlib.Core.Path.{◌≡◌, sym, ap}
use mathlib.Core.Bool.{true, false, ◌&&◌}
use Rattle.lists.proofs.Tests.{contradiction, cannot_pass, both_ways, and_l, and_r, and_intro}
use Rattle.tables.specs.declared.{Name.Name, Entry.Entry}
use Rattle.tables.specs.Names.{eq_name}
use Rattle.tables.specs.Lookup.{is_named}
use Rattle.tables.proofs.NameLaws.{eq_name_true}

module _ (e : Entry) (n : Name) where
  pub other_number : (e.name.number ≡ n.number → ⊥) → false ≡ is_named n e
  unfolding is_named
  other_number ne =
      sym (cannot_pass (e.live && eq_name e.name n) (λ h. ne (ap (λ (m : Name). m.number) (eq_name_true e.name n (and_r e.live _ h)))))

  pub other_name : eq_name e.name n ≡ false → false ≡ is_named n e
  unfolding is_named
  other_name h = sym (cannot_pass (e.live && eq_name e.name n) (λ p. contradiction (and_r e.live _ p) h))

  pub same_name : eq_name e.name n ≡ true → e.live ≡ is_named n e
  unfolding is_named
  same_name h = both_ways e.live (e.live && eq_name e.name n) (λ l. and_intro l h) (λ p. and_l e.live _ p)
