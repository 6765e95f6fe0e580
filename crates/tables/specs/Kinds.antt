-- The kinds of tickets. "A ticket is a grant or a recall. A grant is taken (from the store), received (from another pad) or a
-- child (from another program of the same pad)." A live ticket is one that is there; Free is a place without one. Each test is a
-- table with a line for each kind.
use Rattle.std.specs.Prelude.{Bool, true, false}
use Rattle.tables.specs.declared.Kind.{Kind}
use Rattle.tables.specs.declared.Kind.TheVariants.{Free, Taken, Received, Child, Recall}

abbrev pub is_live : Kind → Bool
is_live Free = false
is_live Taken = true
is_live Received = true
is_live Child = true
is_live Recall = true

abbrev pub is_grant : Kind → Bool
is_grant Free = false
is_grant Taken = true
is_grant Received = true
is_grant Child = true
is_grant Recall = false

-- a grant without a parent on its pad: it heads the chain of what is under it
abbrev pub is_head : Kind → Bool
is_head Free = false
is_head Taken = true
is_head Received = true
is_head Child = false
is_head Recall = false

abbrev pub is_taken : Kind → Bool
is_taken Free = false
is_taken Taken = true
is_taken Received = false
is_taken Child = false
is_taken Recall = false

abbrev pub is_received : Kind → Bool
is_received Free = false
is_received Taken = false
is_received Received = true
is_received Child = false
is_received Recall = false

abbrev pub is_child : Kind → Bool
is_child Free = false
is_child Taken = false
is_child Received = false
is_child Child = true
is_child Recall = false

abbrev pub is_recall : Kind → Bool
is_recall Free = false
is_recall Taken = false
is_recall Received = false
is_recall Child = false
is_recall Recall = true
