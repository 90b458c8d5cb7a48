-- `property::exceptions_by` meets its contract: any form but a wrong one is that of the times.
use Rattle.property.specs.Facts.{reading_of}
use Rattle.property.specs.Properties.{exceptions_by}
use Rattle.property.proofs.Properties.{form_said}
use Rattle.property.proofs.exceptions_by.Goals as goal

pub returns-in-Wrong : goal.returns-in-Wrong
unfolding exceptions_by reading_of
returns-in-Wrong c = rw c.in-Wrong.is

pub returns-in_default : goal.returns-in_default
unfolding reading_of
returns-in_default c = form_said _ c.in_default.not-Wrong
