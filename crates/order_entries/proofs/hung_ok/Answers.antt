-- No entry listed: nothing to ask. Else the parents decide, and then their chains.
use native.Mathlib.Omega.{arith}
use mathlib.Core.Path.{sym, ◌∙◌}
use borrow.Author.Tests.{eqb-true}
use Rattle.image_read.proofs.Places.{entries_long}
use Rattle.order_entries.proofs.Hanging.{no_links, links_listed, by_chains, none_hung}
use Rattle.order_entries.proofs.hung_ok.Goals as goal

pub returns-then-is_empty : goal.returns-then-is_empty
returns-then-is_empty c =
    none_hung _ _ _ (entries_long c.args.image.now) _ c.requires (eqb-true _ _ (sym c.is_empty.ensures ∙ c.if-is_empty.true))

pub returns-else-link_entries : goal.returns-else-link_entries
returns-else-link_entries c =
    c.if-link_entries.false
    ∙ no_links _ _ _ (entries_long c.args.image.now) _ c.requires _ _ c.link_entries.ensures c.if-link_entries.false

pub chains_end-requires : goal.chains_end-requires
chains_end-requires c = (c.requires.low, links_listed _ _ _ (entries_long c.args.image.now) _ c.requires _ _ c.link_entries.ensures c.if-link_entries.true)

pub returns-then-link_entries : goal.returns-then-link_entries
returns-then-link_entries c =
    by_chains _ _ _ (entries_long c.args.image.now) _ c.requires _ _ c.link_entries.ensures c.if-link_entries.true _
    c.chains_end.ensures
