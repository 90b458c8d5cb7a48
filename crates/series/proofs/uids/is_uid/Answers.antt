-- `series::uids::is_uid` meets its contract: each arm is a clause of the definition.
use Rattle.property.specs.Facts.{reading_of}
use Rattle.series.specs.Uids.{is_uid}
use borrow.Author.Rules.{rules}
use Rattle.series.proofs.uids.is_uid.Goals as goal

pub returns-in-Ok-Nothing : goal.returns-in-Ok-Nothing
unfolding is_uid reading_of
returns-in-Ok-Nothing c = search rules

pub returns-in-Err-Unsupported : goal.returns-in-Err-Unsupported
unfolding is_uid reading_of
returns-in-Err-Unsupported c = search rules

pub returns-in-Err-Bad : goal.returns-in-Err-Bad
unfolding is_uid reading_of
returns-in-Err-Bad c = search rules

pub returns-in-Ok-Start : goal.returns-in-Ok-Start
unfolding is_uid reading_of
returns-in-Ok-Start c = search rules

pub returns-in-Ok-End : goal.returns-in-Ok-End
unfolding is_uid reading_of
returns-in-Ok-End c = search rules

pub returns-in-Ok-Lasts : goal.returns-in-Ok-Lasts
unfolding is_uid reading_of
returns-in-Ok-Lasts c = search rules

pub returns-in-Ok-Repeats : goal.returns-in-Ok-Repeats
unfolding is_uid reading_of
returns-in-Ok-Repeats c = search rules

pub returns-in-Ok-HasStatus : goal.returns-in-Ok-HasStatus
unfolding is_uid reading_of
returns-in-Ok-HasStatus c = search rules

pub returns-in-Ok-Transparent : goal.returns-in-Ok-Transparent
unfolding is_uid reading_of
returns-in-Ok-Transparent c = search rules

pub returns-in-Ok-Uid : goal.returns-in-Ok-Uid
unfolding is_uid reading_of
returns-in-Ok-Uid c = search rules

pub returns-in-Ok-RecurrenceId : goal.returns-in-Ok-RecurrenceId
unfolding is_uid reading_of
returns-in-Ok-RecurrenceId c = search rules

pub returns-in-Ok-HasExceptions : goal.returns-in-Ok-HasExceptions
unfolding is_uid reading_of
returns-in-Ok-HasExceptions c = search rules

pub returns-in-Ok-HasPeriods : goal.returns-in-Ok-HasPeriods
unfolding is_uid reading_of
returns-in-Ok-HasPeriods c = search rules
