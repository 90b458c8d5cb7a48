-- The VEVENTs of a calendar row by row, and what must be known of the rows to ask them.
-- Only the rows right below VCALENDAR are those of events, so every row may be looked at.
use Rattle.std.specs.Prelude.{ℕ, zero, suc, ◌+◌, ◌*◌, ◌≤◌, ◌<◌, ◌≡◌, Bool, cond, ◌&&◌, List, [], ◌∷◌, ◌++◌, eqb, length, get_or, None, Option, Some}
use Rattle.seconds.specs.Seconds.{among}
use Rattle.values.specs.TimeLists.{seconds_of}
use Rattle.values.specs.declared.times.Context.{Context}
use Rattle.structure.specs.Rows.{component_by}
use Rattle.overrides.specs.VEvents.{VEvent, is_master, has_uid, nowhere, found, master_of}
use Rattle.calendar.specs.Identities.{identity_of}
use Rattle.calendar.specs.Meaning.{vevent_of}
use Rattle.identities.specs.LinkRows.{link_at}
use Rattle.values.specs.declared.given.Given.{Given}
use Rattle.series.specs.Identities.{RecurrenceTies}
use Rattle.series.specs.Uids.{UidsKnown}

-- that of row k, where it is an event
unfoldable pub vevents_at : Context → List ℕ → List ℕ → ℕ → List VEvent
vevents_at c s rows k = cond (eqb (get_or rows (4 * k + 3) 0) 1) (vevent_of c (component_by s rows k) ∷ []) []

-- those of n rows from row k on
unfoldable pub vevents_from : Context → List ℕ → List ℕ → ℕ → ℕ → List VEvent
vevents_from c s rows k zero = []
vevents_from c s rows k (suc n) = vevents_at c s rows k ++ vevents_from c s rows (k + 1) n

-- those of the rows before row m
unfoldable pub vevents_before : Context → List ℕ → List ℕ → ℕ → List VEvent
vevents_before c s rows m = vevents_from c s rows 0 m

-- ---- what is asked of one

-- it is a master with these bytes as a UID
unfoldable pub is_master_of : List ℕ → VEvent → Bool
is_master_of u v = is_master v && has_uid u v

-- it has them as a UID, and a RECURRENCE-ID at this second
unfoldable pub names : List ℕ → ℕ → VEvent → Bool
names u x v = has_uid u v && among x (seconds_of v.recurrence_ids)

-- ---- what is known of the rows

-- row k, as far as UID and RECURRENCE-ID go
pub record RowTied (c : Context) (s index rows links : List ℕ) (k : ℕ) : Type 0 where
  pub row_room : 4 * k + 4 ≤ length rows
  pub link_room : 8 * k + 8 ≤ length links
  pub uids : get_or rows (4 * k + 3) 0 ≡ 1 → UidsKnown c s index rows links k
  pub recurrences : get_or rows (4 * k + 3) 0 ≡ 1 → RecurrenceTies (link_at links k).recurrence (identity_of c (component_by s rows k)).recurrence_ids

-- the rows before row m
pub record Tied (c : Context) (s index rows links : List ℕ) (m : ℕ) : Type 0 where
  pub few : m ≤ 256
  pub each : (k : ℕ) → k < m → RowTied c s index rows links k

-- row k has at most one RECURRENCE-ID and one UID, if it is an event
pub record OneAt (rows links : List ℕ) (k : ℕ) : Type 0 where
  pub one_recurrence : get_or rows (4 * k + 3) 0 ≡ 1 → (link_at links k).recurrence ≡ Given.Several → ⊥
  pub one_uid : get_or rows (4 * k + 3) 0 ≡ 1 → (link_at links k).uid ≡ Given.Several → ⊥

-- so has every row before row m
abbrev pub OneEach : List ℕ → List ℕ → ℕ → Type 0
OneEach rows links m = (k : ℕ) → k < m → OneAt rows links k

-- ---- the master of a UID among the rows before row m

pub data MasterIs (c : Context) (s rows : List ℕ) (m : ℕ) (u : List ℕ) : Option ℕ → Type 0 where
  is_none : master_of u (vevents_before c s rows m) ≡ nowhere → MasterIs c s rows m u None
  is_at : {k : ℕ} → k < m → get_or rows (4 * k + 3) 0 ≡ 1 → master_of u (vevents_before c s rows m) ≡ found (vevent_of c (component_by s rows k))
      → MasterIs c s rows m u (Some k)
