-- `lokuwaine::Spread::from` meets its contract: each arm is one law of the definition.
use Rattle.lokuwaine.proofs.Spreading.{spread_verdict, spread_length, spread_refused}
use Rattle.lokuwaine.proofs.SpreadFromAnswer.from.Goals as goal

pub returns-in-Verdict : goal.returns-in-Verdict
returns-in-Verdict c = spread_verdict c.in-Verdict.is c.from.ensures

pub returns-in-Length : goal.returns-in-Length
returns-in-Length c = spread_length c.in-Length.is

pub returns-in-Refused : goal.returns-in-Refused
returns-in-Refused c = spread_refused c.in-Refused.is
