use Rattle.cli.proofs.HexLaws.{Storing}
use Rattle.cli.proofs.hex.decode_hex.Given as goal

abbrev pub invariant-loop-b : goal.invariant-loop-b
invariant-loop-b l = Storing l.text l.initial.out l.out l.p l.n l.b-index
