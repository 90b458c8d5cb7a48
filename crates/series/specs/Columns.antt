-- The starts that are taken away from events, as a column of seconds: those of row k stand from place k up to place k + 1, in order.
-- What must be known of the rows to fill it, and that the column has room for all.
use Rattle.std.specs.Prelude.{ℕ, ◌+◌, ◌*◌, ◌-◌, ◌≤◌, ◌<◌, ◌≡◌, Bool, true, cond, List, [], ◌∷◌, length, get_or}
use Rattle.text.specs.Lines.{part}
use Rattle.seconds.specs.Seconds.{among, Ordered}
use Rattle.values.specs.declared.times.Context.{Context}
use Rattle.structure.specs.Rows.{component_by}
use Rattle.overrides.specs.VEvents.{VEvent, is_master}
use Rattle.overrides.specs.Instances.{moved_from}
use Rattle.calendar.specs.Meaning.{removed_from, components_of}
use Rattle.identities.specs.LinkRows.{link_at}
use Rattle.values.specs.declared.given.Given.{Given}
use Rattle.series.specs.VEventRows.{vevents_before}
use Rattle.series.specs.Removed.{Takeable, SecondsOrdered, removed_at}

-- those of row k
unfoldable pub gone_at : List ℕ → List ℕ → ℕ → List ℕ
gone_at places removed k = part removed (get_or places k 0) (get_or places (k + 1) 0)

-- row k has its part of the column
pub record PartAt (places removed : List ℕ) (k : ℕ) : Type 0 where
  pub room : k + 1 < length places
  pub order : get_or places k 0 ≤ get_or places (k + 1) 0
  pub inside : get_or places (k + 1) 0 ≤ length removed
  pub ordered : Ordered (gone_at places removed k)

-- of the components of the first m rows, the column has the starts that are taken away from an event, and of others nothing
pub record RemovedRows (c : Context) (s rows places removed : List ℕ) (m : ℕ) : Type 0 where
  pub parts : (k : ℕ) → k < m → PartAt places removed k
  pub same : (k : ℕ) → k < m → get_or rows (4 * k + 3) 0 ≡ 1 → (x : ℕ)
      → among x (gone_at places removed k) ≡ among x (removed_from c (components_of s) (component_by s rows k))
  pub none : (k : ℕ) → k < m → (get_or rows (4 * k + 3) 0 ≡ 1 → ⊥) → gone_at places removed k ≡ []

-- ---- what filling it asks

-- how many starts overrides take away from the masters among these
unfoldable pub moved_count : List VEvent → List VEvent → ℕ
moved_count all [] = 0
moved_count all (v ∷ vs) = cond (is_master v) (length (moved_from v all)) 0 + moved_count all vs

-- of the first m rows every event can be asked what is taken away from it; the parts of excluded seconds rise, and overrides take no more away than there are rows
pub record Removable (c : Context) (s index rows links exceptions : List ℕ) (m : ℕ) : Type 0 where
  pub few : m ≤ 256
  pub row_room : 4 * m ≤ length rows
  pub link_room : 8 * m ≤ length links
  pub whole : get_or rows 2 0 ≡ m
  pub takeable : (k : ℕ) → k < m → get_or rows (4 * k + 3) 0 ≡ 1 → Takeable c s index rows links exceptions k m
  pub rising : (j k : ℕ) → j < k → k < m → get_or rows (4 * j + 3) 0 ≡ 1 → get_or rows (4 * k + 3) 0 ≡ 1 → (link_at links j).to ≤ (link_at links k).from
  pub moved_few : (k : ℕ) → k ≤ m → moved_count (vevents_before c s rows m) (vevents_before c s rows k) ≤ 256
  pub as_file : (k : ℕ) → k < m → get_or rows (4 * k + 3) 0 ≡ 1 → removed_at c s rows k m ≡ removed_from c (components_of s) (component_by s rows k)

-- row k can be filled in: an event can be asked, and there is room for what is taken away from it, with what overrides may name
pub record RowFillable (c : Context) (s index rows links exceptions : List ℕ) (k m room : ℕ) : Type 0 where
  pub row_room : 4 * k + 4 ≤ length rows
  pub takeable : get_or rows (4 * k + 3) 0 ≡ 1 → Takeable c s index rows links exceptions k m
  pub fits : get_or rows (4 * k + 3) 0 ≡ 1 → (link_at links k).to - (link_at links k).from + m ≤ room

-- the first r seconds of a column are what is taken away from row k
pub record RowFilled (c : Context) (s rows : List ℕ) (k m : ℕ) (o : List ℕ) (r : ℕ) : Type 0 where
  pub event : get_or rows (4 * k + 3) 0 ≡ 1 → SecondsOrdered (removed_at c s rows k m) o r
  pub none : (get_or rows (4 * k + 3) 0 ≡ 1 → ⊥) → r ≡ 0

-- ---- the common case

-- row k, if it is an event's, has neither RECURRENCE-ID nor exception
pub record NothingAt (rows links : List ℕ) (k : ℕ) : Type 0 where
  pub no_recurrence : get_or rows (4 * k + 3) 0 ≡ 1 → (link_at links k).recurrence ≡ Given.None
  pub no_exception : get_or rows (4 * k + 3) 0 ≡ 1 → (link_at links k).from ≡ (link_at links k).to

-- r says so only where it is so
abbrev pub NothingIf : List ℕ → List ℕ → ℕ → Bool → Type 0
NothingIf rows links k r = r ≡ true → NothingAt rows links k

-- of all rows before row m
abbrev pub NothingBefore : List ℕ → List ℕ → ℕ → Bool → Type 0
NothingBefore rows links m r = r ≡ true → (k : ℕ) → k < m → NothingAt rows links k
