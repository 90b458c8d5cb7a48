-- `fingerprints::word` meets its contract: it is the definition's own sum, and each byte is below 256.
use Rattle.fingerprints.specs.Fingerprints.{word}
use native.Mathlib.Omega.{arith}
use Rattle.fingerprints.proofs.word.Goals as goal

pub returns : goal.returns
unfolding word
returns c = record { same = omega arith; small = omega arith }
