use Rattle.query.specs.Records.{text_place}
use mathlib.Core.Path.{◌≡◌}
use Rattle.query.proofs.Query.text_place.Given as goal

abbrev pub invariant-loop : goal.invariant-loop
invariant-loop l = l.at ≡ text_place l.self.bytes.now l.counter l.initial.at
