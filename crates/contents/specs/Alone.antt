-- Which rules of R-3 an event breaks by itself, by what was gathered of its lines; tied to overrides.Rules in proofs/AloneLaws.
use Rattle.std.specs.Prelude.{ℕ, Bool, true, false, not, ◌||◌}
use Rattle.time.specs.declared.date_time.Kind.{Kind}
use Rattle.values.specs.TimeLists.{same_kind}
use Rattle.values.specs.declared.time_lists.Kinds.{Kinds}
use Rattle.events.specs.declared.Event.{Event}
use Rattle.overrides.specs.Rules.{has_rule}
use Rattle.values.specs.declared.given.Given.{Given}
use Rattle.identities.specs.declared.RecurrenceId.{RecurrenceId}
use Rattle.identities.specs.declared.IdentityRead.{IdentityRead}

unfoldable pub several_uids : Given ℕ → Bool
several_uids Given.None = false
several_uids (Given.One n) = false
several_uids Given.Several = true

unfoldable pub no_uid : Given ℕ → Bool
no_uid Given.None = true
no_uid (Given.One n) = false
no_uid Given.Several = false

-- an exception is of another kind
unfoldable pub other_kinds : Kinds → Kind → Bool
other_kinds Kinds.None k = false
other_kinds (Kinds.One j) k = not (same_kind j k)
other_kinds Kinds.Several k = true

-- there is an exception
unfoldable pub some_kinds : Kinds → Bool
some_kinds Kinds.None = false
some_kinds (Kinds.One j) = true
some_kinds Kinds.Several = true

-- what an override may not have
unfoldable pub override_by : Given RecurrenceId → Given ℕ → Kinds → Bool → Bool
override_by Given.None u ks rule = false
override_by (Given.One t) u ks rule = no_uid u || some_kinds ks || rule
override_by Given.Several u ks rule = true

unfoldable pub alone_by : IdentityRead → Event → Bool
alone_by y e = several_uids y.uid || other_kinds y.kinds e.kind || override_by y.recurrence y.uid y.kinds (has_rule e.repeat)
