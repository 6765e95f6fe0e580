-- "The same" is an equivalence of tables: each is the same as itself, and the relation may be turned round and carried on.
use mathlib.Core.Path.{refl, sym, ◌∙◌}
use Rattle.tables.specs.declared.Tables.{Tables}
use Rattle.tables.specs.Same.{SameTables}

pub same_refl_lem : (t : Tables) → SameTables t t
same_refl_lem t = record { lasts = λ p q b c. refl; tickets = λ n. refl; entries = λ n. refl }

pub same_sym : (t u : Tables) → SameTables t u → SameTables u t
same_sym t u e = record {
  lasts = λ p q b c. sym (e.lasts p q b c);
  tickets = λ n. sym (e.tickets n);
  entries = λ n. sym (e.entries n);
}

pub same_trans : (t u v : Tables) → SameTables t u → SameTables u v → SameTables t v
same_trans t u v e f = record {
  lasts = λ p q b c. e.lasts p q b c ∙ f.lasts p q b c;
  tickets = λ n. e.tickets n ∙ f.tickets n;
  entries = λ n. e.entries n ∙ f.entries n;
}
