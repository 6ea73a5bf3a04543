-- A byte has 8 bits.
use Rattle.leak_lemmas.proofs.Bytes.{are_bytes}
use Rattle.leak_passing.proofs.pieces.are_bytes.Goals as goal

pub returns : goal.returns
returns c = are_bytes c.args.bytes.now c.type_inv.bytes
