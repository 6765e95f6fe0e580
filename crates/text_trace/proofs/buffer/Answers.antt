-- The length by its law: the prover would count to it.
use Prim.Native.Nat.{ℕ}
use lib.ListN.{length-replicate}
use Rattle.trace_texts.specs.Trace.{trace_room}
use Rattle.text_trace.proofs.buffer.Goals as goal

pub returns : goal.returns
returns c = length-replicate {A = ℕ} trace_room 0
