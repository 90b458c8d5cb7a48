-- `property::value_as` meets its contract: each arm is the definition's clause, at what the callees answer.
use mathlib.Core.Path.{◌∙◌, refl}
use Rattle.line.specs.Reading.{line_of}
use Rattle.property.specs.declared.PropertyValue.{PropertyValue}
use Rattle.property.specs.Facts.{SpanFact, span, identity, recurrence_id, reading_of}
use Rattle.property.specs.Properties.{value_as}
use Rattle.property.proofs.Properties.{time_said, duration_said, rule_said}
use Rattle.property.proofs.value_as.Goals as goal

pub returns-in-Start : goal.returns-in-Start
unfolding value_as reading_of
returns-in-Start c =
    rw c.in-Start.is (time_said PropertyValue.Start (λ t. span (SpanFact.start t)) _ _ (λ t. refl) c.map.ensures.cases ∙ c.time_value.ensures _)

pub returns-in-End : goal.returns-in-End
unfolding value_as reading_of
returns-in-End c =
    rw c.in-End.is (time_said PropertyValue.End (λ t. span (SpanFact.end t)) _ _ (λ t. refl) c.map-in-End.ensures.cases ∙ c.time_value-in-End.ensures _)

pub returns-in-Duration : goal.returns-in-Duration
unfolding value_as line_of
returns-in-Duration c =
    simp (duration_said _ _ c.map-in-Duration.ensures.cases c.ok_or.ensures.value, c.read_duration.ensures, c.args.line.value_is, c.in-Duration.is)

pub returns-in-Rule : goal.returns-in-Rule
unfolding value_as line_of
returns-in-Rule c = simp (rule_said _ _ c.map-in-Rule.ensures.cases, c.rule_of.ensures, c.args.line.value_is, c.in-Rule.is)

pub returns-in-Status : goal.returns-in-Status
unfolding value_as line_of reading_of
returns-in-Status c = simp (c.status_named.ensures, c.args.line.value_is, c.in-Status.is)

pub returns-in-Transparency : goal.returns-in-Transparency
unfolding value_as line_of reading_of
returns-in-Transparency c = simp (c.same_name.ensures, c.args.line.value_is, c.in-Transparency.is)

pub returns-in-Uid : goal.returns-in-Uid
unfolding value_as reading_of
returns-in-Uid c = rw c.in-Uid.is

pub returns-in-RecurrenceId : goal.returns-in-RecurrenceId
unfolding value_as reading_of
returns-in-RecurrenceId c =
    rw c.in-RecurrenceId.is
    (time_said PropertyValue.RecurrenceId (λ t. identity (recurrence_id t)) _ _ (λ t. refl) c.map-in-RecurrenceId.ensures.cases ∙ c.recurrence_value.ensures _)

pub returns-in-Periods : goal.returns-in-Periods
unfolding value_as
returns-in-Periods c = simp (c.type_value.ensures, c.in-Periods.is)

pub returns-in-Unsupported : goal.returns-in-Unsupported
unfolding value_as reading_of
returns-in-Unsupported c = rw c.in-Unsupported.is
