-- what was decoded lies within the query's buffer
use Rattle.std.proofs.Common.{arith, sym}
use Rattle.std.proofs.lemmas.List.{length-take-le}
use Rattle.cli.proofs.HexLaws.{decoded_within}
use Rattle.console.proofs.query.from_hex.Goals as goal

pub slice_bounds-result-end : goal.slice_bounds-result-end
slice_bounds-result-end g c = sym (length-take-le _ _ (omega (arith, decoded_within c.decode_hex.ensures c.in-Ok.is, c.decode_hex.auto.out)))
