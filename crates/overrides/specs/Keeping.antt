-- Refusal 10 of VEVENTs for the reader (requests R-1 and R-3): a field for each rule.
-- That the tests of Rules say the same is in proofs/Keeping.antt.
use Rattle.std.specs.Prelude.{ℕ, ◌≤◌, ◌≡◌, length, Some}
use mathlib.Core.List.{List, [], ◌∷◌, ◌++◌, Memᴰ}
use Rattle.values.specs.declared.times.Time.{Time}
use Rattle.values.specs.TimeLists.{seconds_of}
use Rattle.events.specs.declared.Event.{Event}
use Rattle.events.specs.declared.Repeat.{Repeat}
use Rattle.overrides.specs.VEvents.{VEvent, Master, Override, SharesUid, FirstMaster}
use Rattle.overrides.specs.Instances.{NamesInstance}

-- ---- by itself

-- with a RECURRENCE-ID: one of them, a UID, no RRULE, no EXDATE
pub record OverrideAlone (v : VEvent) (e : Event) : Type 0 where
  pub one_recurrence_id : length v.recurrence_ids ≡ 1
  pub some_uid : 1 ≤ length v.uids
  pub no_rule : e.repeat ≡ Repeat.Once
  pub no_exception : v.exceptions ≡ []

-- any VEVENT
pub record KeepsAlone (v : VEvent) : Type 0 where
  -- it keeps the rules of document 01, and so is an event
  pub its_event : Event
  pub is_event_holds : v.event ≡ Some its_event
  pub few_uids : length v.uids ≤ 1
  pub exceptions_kind : (t : Time) → Memᴰ t v.exceptions → t.kind ≡ its_event.kind
  pub as_override : Override v → OverrideAlone v its_event

-- ---- beside others

-- RECURRENCE-ID t, where e is the event of the master m
pub record FitsMaster (m : VEvent) (e : Event) (t : Time) : Type 0 where
  pub same_kind : t.kind ≡ e.kind
  pub names : NamesInstance e t.second
  pub not_excluded : Memᴰ t.second (seconds_of m.exceptions) → ⊥

-- RECURRENCE-ID t beside UID u: there is a master, and if that keeps its own rules, t fits it
pub record HasMaster (all : List VEvent) (u : List ℕ) (t : Time) : Type 0 where
  pub master : VEvent
  pub is_first : FirstMaster u all master
  pub fits : (k : KeepsAlone master) → FitsMaster master k.its_event t

-- v, behind the VEVENTs `before`, in a file of these all
pub record KeepsBeside (before all : List VEvent) (v : VEvent) : Type 0 where
  pub masters_apart : Master v → (w : VEvent) → Memᴰ w before → Master w → SharesUid v w → ⊥
  pub overrides_apart : (w : VEvent) → Memᴰ w before → SharesUid v w → (s t : Time)
      → Memᴰ s v.recurrence_ids → Memᴰ t w.recurrence_ids → s.second ≡ t.second → ⊥
  pub has_master : (t : Time) (u : List ℕ) → Memᴰ t v.recurrence_ids → Memᴰ u v.uids → HasMaster all u t

-- all rules
pub record Keeps (before all : List VEvent) (v : VEvent) : Type 0 where
  pub alone : KeepsAlone v
  pub beside : KeepsBeside before all v

-- ---- the line

-- the first VEVENT that does not keep a rule begins at line n
pub record FirstBroken (all : List VEvent) (n : ℕ) : Type 0 where
  pub before : List VEvent
  pub which : VEvent
  pub behind : List VEvent
  pub whole : all ≡ before ++ (which ∷ behind)
  pub earlier_keep : (b : List VEvent) (w : VEvent) (c : List VEvent) → before ≡ b ++ (w ∷ c) → Keeps b all w
  pub which_breaks : Keeps before all which → ⊥
  pub line : which.begin ≡ n
