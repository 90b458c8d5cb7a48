-- VEVENTs (request R-3): what is read of one, which of them are masters and which overrides,
-- and how a UID ties an override to its master.
use Rattle.std.specs.Prelude.{ℕ, ◌≡◌, Bool, cond, not, ◌&&◌, Option}
use Rattle.events.specs.declared.Event.{Event}
use mathlib.Core.List.{List, [], ◌∷◌, ◌++◌, Memᴰ}
use Rattle.ascii.specs.Names.{same_bytes}
use Rattle.values.specs.declared.times.Time.{Time}
use Rattle.overrides.specs.Lists.{some, is_empty}

-- what the lines directly in a VEVENT give
pub record VEvent : Type 0 where
  -- which line its BEGIN is
  pub begin : ℕ
  -- the bytes of every UID
  pub uids : List (List ℕ)
  -- every RECURRENCE-ID
  pub recurrence_ids : List Time
  -- all times of every EXDATE
  pub exceptions : List Time
  -- its event, where it keeps the rules of document 01
  pub event : Option Event

-- without RECURRENCE-ID it is a master, whether it repeats or not
unfoldable pub is_master : VEvent → Bool
is_master v = is_empty v.recurrence_ids

-- with one it is an override
unfoldable pub is_override : VEvent → Bool
is_override v = not (is_master v)

-- a UID of it has these bytes
unfoldable pub has_uid : List ℕ → VEvent → Bool
has_uid u v = some (same_bytes u) v.uids

-- a UID of the one is a UID of the other
unfoldable pub shares_uid : VEvent → VEvent → Bool
shares_uid v w = some (λ u. has_uid u w) v.uids

pub data MasterFound : Type 0 where
  nowhere : MasterFound
  found : VEvent → MasterFound

-- the master of a UID is the first in the file that has it, also on a second UID line, and also if it breaks a rule
unfoldable pub master_of : List ℕ → List VEvent → MasterFound
master_of u [] = nowhere
master_of u (v ∷ vs) = cond (is_master v && has_uid u v) (found v) (master_of u vs)

-- ---- the same for the reader

abbrev pub Master : VEvent → Type 0
Master v = v.recurrence_ids ≡ []

abbrev pub Override : VEvent → Type 0
Override v = v.recurrence_ids ≡ [] → ⊥

pub record SharesUid (v w : VEvent) : Type 0 where
  pub uid : List ℕ
  pub of_one : Memᴰ uid v.uids
  pub of_other : Memᴰ uid w.uids

-- m is the first master of this UID
pub record FirstMaster (u : List ℕ) (all : List VEvent) (m : VEvent) : Type 0 where
  pub before : List VEvent
  pub behind : List VEvent
  pub whole : all ≡ before ++ (m ∷ behind)
  pub none_before : (w : VEvent) → Memᴰ w before → Master w → Memᴰ u w.uids → ⊥
  pub is_master_holds : Master m
  pub has_uid_holds : Memᴰ u m.uids
