-- The entries that hang under others: the parents decide and then their chains. All links are at listed places; where none is listed, no
-- entry needs a parent and every chain ends where it begins.
use Prim.Native.Nat.{ℕ, ◌<◌}
use native.Mathlib.Omega.{arith}
use mathlib.Core.Path.{◌≡◌, sym, ap, subst, ◌∙◌}
use mathlib.Core.Bool.{Bool, true, false, ◌&&◌}
use mathlib.Core.List.{List, map}
use lib.ListN.{length, get_or, length-map, get_or-map}
use Rattle.lists.proofs.Tests.{cannot_pass, cannot_fail, and_intro}
use Rattle.lists.proofs.Everywhere.{all_intro}
use Rattle.lists.proofs.Reading.{any_default}
use Rattle.tables.specs.declared.Entry.{Entry}
use Rattle.tables.specs.Names.{no_entry}
use Rattle.order_lists.specs.Listing.{EntriesListed, is_hung}
use Rattle.order_lists.proofs.Laws.{none_listed}
use Rattle.order_entry_chains.specs.Ends.{LinksListed, all_end}
use Rattle.order_entry_chains.proofs.Settling.{walked_none, walked_all}
use Rattle.order_entries.specs.Parents.{has_parent, up_of, hung_ok, Linking}
use Rattle.order_entries.proofs.Linking.{free_fits, free_up}

module _ (numbers notes : List ℕ) (es : List Entry) (long : length es ≡ 256) (places : List ℕ) (listed : EntriesListed is_hung es places) where
  abbrev ups : List ℕ
  ups = map (up_of numbers notes) es

  ups_long : length ups ≡ 256
  ups_long = length-map es (up_of numbers notes) ∙ long

  up_at : (p : ℕ) → p < 256 → get_or ups p 0 ≡ up_of numbers notes (get_or es p no_entry)
  unfolding up_of
  up_at p h = any_default ups p 0 256 (omega (arith, ups_long, h)) ∙ get_or-map (up_of numbers notes) es p no_entry

  links : LinksListed ups places
  links p h b =
      listed.all p h
      (cannot_fail (is_hung (get_or es p no_entry))
      (λ f. let z : get_or ups p 0 ≡ 256 = up_at p h ∙ free_up numbers notes es (get_or es p no_entry) f in omega (arith, z, b)))

  module _ (up : List ℕ) (r : Bool) (linking : Linking numbers notes es up r) where
    pub no_links : r ≡ false → false ≡ hung_ok numbers notes es
    unfolding hung_ok
    no_links q = sym (ap (λ (b : Bool). b && all_end ups) (sym linking.same ∙ q))

    module _ (good : r ≡ true) where
      pub links_listed : LinksListed up places
      links_listed = subst (λ (l : List ℕ). LinksListed l places) (sym (linking.ups good)) links

      pub by_chains : (s : Bool) → s ≡ all_end up → s ≡ hung_ok numbers notes es
      unfolding hung_ok
      by_chains s e = e ∙ ap all_end (linking.ups good) ∙ sym (ap (λ (b : Bool). b && all_end ups) (sym linking.same ∙ good))

  pub none_hung : length places ≡ 0 → true ≡ hung_ok numbers notes es
  unfolding hung_ok
  none_hung z =
      sym
      (and_intro (all_intro no_entry (has_parent numbers notes es) es (λ p h. free_fits numbers notes es (get_or es p no_entry) (free p h)))
      (sym (walked_all ups places 0 ups (walked_none ups places) ups_long links (omega (arith, z)))))
    where
      free : (p : ℕ) → p < length es → is_hung (get_or es p no_entry) ≡ false
      free p h = cannot_pass (is_hung (get_or es p no_entry)) (none_listed no_entry is_hung es 256 places (length places) listed z p (omega (arith, h, long)))
