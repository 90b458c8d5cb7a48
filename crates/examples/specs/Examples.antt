-- The proved examples of document 01, Examples at the edges, and those of R-2: one table, of the definitions that the contracts cite.
use Rattle.std.specs.Prelude.{ℕ, ◌<◌, ◌≡◌, Bool, true, false, List, [], ◌∷◌, ◌++◌, map}
use Prim.Native.String.{String}
use Rattle.ascii.specs.Words.{ascii}
use Rattle.text.specs.Lines.{joined}
use Rattle.text.specs.Unfolding.{unfolded}
use Rattle.time.specs.declared.date_time.Kind.{Kind}
use Rattle.periods.specs.Periods.{period}
use Rattle.periods.specs.declared.Period.{Period}
use Rattle.periods.specs.declared.BusyType.{BusyType}
use Rattle.periods.specs.BusyTypes.{BusyPeriod}
use Rattle.table.specs.Runs.{runs}
use Rattle.events.specs.Events.{Entry, event, block}
use Rattle.events.specs.declared.Event.{Event}
use Rattle.events.specs.declared.Block.{Block}
use Rattle.calendar.specs.Meaning.{Meaning, fault, calendar, meaning_of}
use Rattle.recurrence.specs.Instances.{utc_clock_of, start_of, occurs, length_by}
use Rattle.recurrence.specs.TimeRange.{EventIn, block_in, Decides}
use Rattle.pieces.specs.Covered.{covered}
use Rattle.pieces.specs.Pieces.{busy_pieces}

-- ---- what is claimed

-- a value is so many seconds, or is refused with a number
pub data Value : Type 0 where
  seconds : ℕ → Value
  refused : ℕ → Value

pub data Claim : Type 0 where
  -- the text of a DTSTART, and what it is
  time : String → Value → Claim
  -- the text of a DURATION, and what it is
  duration : String → Value → Claim
  -- an event's lines, a range, and whether the event is in it
  range : List String → ℕ → ℕ → Bool → Claim
  -- a block's lines, a range, and whether the block is in it
  block_range : List String → ℕ → ℕ → Bool → Claim
  -- the lines of an event without a busy piece in a range
  no_piece : List String → ℕ → ℕ → Claim
  -- a block's lines, how many seconds from 0 are looked at, and the covered ones of type BUSY as periods
  periods : List String → ℕ → List Period → Claim
  -- an event's lines, the number of its last instance, and that one's start
  last : List String → ℕ → ℕ → Claim

-- ---- what a claim says

-- the bytes of a calendar that holds one component of this name with these lines, CR LF behind each
unfoldable pub calendar_bytes : String → List (List ℕ) → List ℕ
calendar_bytes name ls =
    joined
    (ascii "BEGIN:VCALENDAR"
    ∷ (ascii "BEGIN:" ++ ascii name)
    ∷ (ls ++ ((ascii "END:" ++ ascii name) ∷ ascii "END:VCALENDAR" ∷ [])))

-- what they mean at offset 0
unfoldable pub meaning_with : String → List (List ℕ) → Meaning
meaning_with name ls = meaning_of (record { shift = 50400 }) (unfolded (calendar_bytes name ls))

-- an event with these lines
unfoldable pub event_with : List String → Meaning
event_with ls = meaning_with "VEVENT" (map ascii ls)

-- a block with these lines
unfoldable pub block_with : List String → Meaning
block_with ls = meaning_with "VFREEBUSY" (map ascii ls)

-- an event whose DTSTART has this value, on line 3
unfoldable pub starting_at : String → Meaning
starting_at s = meaning_with "VEVENT" ((ascii "DTSTART:" ++ ascii s) ∷ [])

-- an event whose DURATION has this value, on line 4
unfoldable pub lasting : String → Meaning
lasting s = meaning_with "VEVENT" (ascii "DTSTART:19700101T000000Z" ∷ (ascii "DURATION:" ++ ascii s) ∷ [])

-- a calendar of one event alone, of which something holds
pub record OneEvent (m : Meaning) (P : Event → Type 0) : Type 0 where
  pub given : Event
  pub means : m ≡ calendar (event given [] ∷ [])
  pub so : P given

-- a calendar of one block alone, of which and of whose periods something holds
pub record OneBlock (m : Meaning) (P : Block → List BusyPeriod → Type 0) : Type 0 where
  pub given : Block
  pub listed : List BusyPeriod
  pub means : m ≡ calendar (block given listed ∷ [])
  pub so : P given listed

-- a calendar without a fault, of whose entries something holds
pub record Entries (m : Meaning) (P : List Entry → Type 0) : Type 0 where
  pub given : List Entry
  pub means : m ≡ calendar given
  pub so : P given

-- instance k stands and starts at s, and none after it stands
pub record Last (e : Event) (k s : ℕ) : Type 0 where
  pub there : occurs e [] k ≡ true
  pub starts : start_of e k ≡ utc_clock_of s
  pub none_later : (j : ℕ) → k < j → occurs e [] j ≡ false

abbrev pub Holds : Claim → Type 0
Holds (time s (seconds n)) = OneEvent (starting_at s) (λ e. (e.kind ≡ Kind.Utc) × (e.start ≡ n))
Holds (time s (refused r)) = starting_at s ≡ fault r 3
Holds (duration s (seconds n)) = OneEvent (lasting s) (λ e. length_by e e.ending ≡ n)
Holds (duration s (refused r)) = lasting s ≡ fault r 4
Holds (range ls a b t) = OneEvent (event_with ls) (λ e. Decides t (EventIn e [] a b))
Holds (block_range ls a b t) = OneBlock (block_with ls) (λ k ps. block_in k ps a b ≡ t)
Holds (no_piece ls a b) = OneEvent (event_with ls) (λ e. busy_pieces a b (event e [] ∷ []) ≡ [])
Holds (periods ls n qs) = Entries (block_with ls) (λ es. runs (covered BusyType.Busy es) 0 n ≡ qs)
Holds (last ls k s) = OneEvent (event_with ls) (λ e. Last e k s)

abbrev pub All : List Claim → Type 0
All [] = Unit {0}
All (c ∷ cs) = Holds c × All cs

-- ---- the table

unfoldable pub table : List Claim
table =
    time "19700101T000000Z" (seconds 0)
    ∷ time "20000229T000000Z" (seconds 951_782_400)
    ∷ time "20240311T080000Z" (seconds 1_710_144_000)
    ∷ time "20991231T235959Z" (seconds 4_102_444_799)
    ∷ time "21000101T000000Z" (refused 9)
    ∷ time "20010229T000000Z" (refused 9)
    ∷ duration "P1DT2H" (seconds 93_600)
    ∷ duration "PT1H30S" (refused 9)
    ∷ range ("DTSTART:19700101T001640Z" ∷ "DTEND:19700101T003320Z" ∷ []) 2_000 3_000 false
    ∷ range ("DTSTART:19700101T001640Z" ∷ "DTEND:19700101T003320Z" ∷ []) 1_999 2_000 true
    ∷ range ("DTSTART:19700101T003320Z" ∷ []) 2_000 3_000 true
    -- R-2: a block with both ends, both sides of both; its periods play no part; a block by its periods
    ∷ block_range ("DTSTART:19700101T001640Z" ∷ "DTEND:19700101T003320Z" ∷ []) 2_000 3_000 true
    ∷ block_range ("DTSTART:19700101T001640Z" ∷ "DTEND:19700101T003320Z" ∷ []) 2_001 3_000 false
    ∷ block_range ("DTSTART:19700101T001640Z" ∷ "DTEND:19700101T003320Z" ∷ []) 500 1_000 false
    ∷ block_range ("DTSTART:19700101T001640Z" ∷ "DTEND:19700101T003320Z" ∷ []) 500 1_001 true
    ∷ block_range ("DTSTART:19700101T001640Z" ∷ "DTEND:19700101T003320Z" ∷ "FREEBUSY:19700101T010000Z/PT1H" ∷ []) 3_600 3_700 false
    ∷ block_range ("FREEBUSY:19700101T001640Z/19700101T003320Z" ∷ []) 2_000 3_000 false
    ∷ block_range ("FREEBUSY:19700101T001640Z/19700101T003320Z" ∷ []) 1_999 2_000 true
    ∷ no_piece ("DTSTART:19700101T003320Z" ∷ []) 2_000 3_000
    ∷ periods ("FREEBUSY:19700101T000010Z/19700101T000020Z,19700101T000020Z/19700101T000030Z" ∷ []) 40 (period 10 30 ∷ [])
    ∷ periods ("FREEBUSY:19700101T000010Z/19700101T000020Z,19700101T000021Z/19700101T000030Z" ∷ []) 40 (period 10 20 ∷ period 21 30 ∷ [])
    ∷ last ("DTSTART:20240311T080000Z" ∷ "RRULE:FREQ=DAILY;COUNT=5" ∷ []) 4 1_710_489_600
    ∷ []
