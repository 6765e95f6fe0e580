use native.Mathlib.Omega.{arith}
use Rattle.order_entry_chains.proofs.Settling.{walked_all}
use Rattle.order_entry_chains.proofs.chains_end.Goals as goal

pub returns : goal.returns
returns c = walked_all _ _ _ _ c.loop-at.invariant.1 c.told-up c.requires.1 (omega arith)
