-- What ties an event to others, as it is gathered: of UID and RECURRENCE-ID one, or that there are several; of EXDATE the kinds of its times and how many stand in a column.
use Rattle.std.specs.Prelude.{ℕ}
use Rattle.values.specs.declared.times.Time.{Time}
use Rattle.values.specs.declared.time_lists.Kinds.{Kinds}
use Rattle.values.specs.declared.given.Given.{Given}
use Rattle.values.specs.Given.{given_more}
use Rattle.identities.specs.declared.RecurrenceId.{RecurrenceId}
use Rattle.identities.specs.declared.IdentityRead.{IdentityRead}

-- what is kept of a RECURRENCE-ID
abbrev pub recurrence_id_of : Time → RecurrenceId
recurrence_id_of t = record { kind = t.kind; second = t.second }

-- nothing is read yet, and so many times stand in the column
unfoldable pub no_identity : ℕ → IdentityRead
no_identity n = record { uid = Given.None; recurrence = Given.None; kinds = Kinds.None; held = n }

unfoldable pub with_uid : IdentityRead → ℕ → IdentityRead
with_uid y n = record { uid = given_more y.uid n; recurrence = y.recurrence; kinds = y.kinds; held = y.held }

unfoldable pub with_recurrence : IdentityRead → Time → IdentityRead
with_recurrence y t = record { uid = y.uid; recurrence = given_more y.recurrence (recurrence_id_of t); kinds = y.kinds; held = y.held }

unfoldable pub with_exceptions : IdentityRead → Kinds → ℕ → IdentityRead
with_exceptions y ks n = record { uid = y.uid; recurrence = y.recurrence; kinds = ks; held = n }
