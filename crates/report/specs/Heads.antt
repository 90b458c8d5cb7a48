-- The fixed byte strings of a report (document 01, The report's bytes): its line heads, and where they stand.
use Rattle.std.specs.Prelude.{ℕ, ◌-◌, ◌≡◌, Bool, true, false, ◌&&◌, ◌||◌, List, [], ◌∷◌, ◌++◌, eqb, leb, length, drop}
use Rattle.ascii.specs.Words.{ascii}
use Rattle.text.specs.Lines.{joined, part, every_line, content_lines}
use Rattle.time.specs.Writing.{utc_text}
use Rattle.periods.specs.declared.BusyType.{BusyType}
use Rattle.periods.specs.BusyTypes.{is_busy}
use Rattle.report.specs.Bytes.{period_head}

-- the bytes begin with the fixed string
unfoldable pub begins : List ℕ → List ℕ → Bool
begins s [] = true
begins [] (b ∷ h) = false
begins (a ∷ s) (b ∷ h) = eqb a b && begins s h

-- the fixed string stands at a place of the bytes
unfoldable pub has_bytes_at : List ℕ → List ℕ → ℕ → Bool
has_bytes_at s h at = begins (drop at s) h

-- what stands before the stamp, before the start of the range and before its end
unfoldable pub stamp_head : List ℕ
stamp_head =
    joined (ascii "BEGIN:VCALENDAR" ∷ ascii "VERSION:2.0" ∷ ascii "PRODID:-//Cover Desk//Free Busy//EN" ∷ ascii "BEGIN:VFREEBUSY" ∷ [])
    ++ ascii "DTSTAMP:"

unfoldable pub start_head : List ℕ
start_head = 13 ∷ 10 ∷ ascii "DTSTART:"

unfoldable pub end_head : List ℕ
end_head = 13 ∷ 10 ∷ ascii "DTEND:"

-- the last two lines
unfoldable pub closing : List ℕ
closing = joined (ascii "END:VFREEBUSY" ∷ ascii "END:VCALENDAR" ∷ [])

-- a fixed string, and a second behind it
unfoldable pub timed : List ℕ → ℕ → List ℕ
timed h t = h ++ utc_text t

-- the lines before the periods: when it was stamped, and the range
unfoldable pub opening : ℕ → ℕ → ℕ → List ℕ
opening a b stamp = timed stamp_head stamp ++ (timed start_head a ++ (timed end_head b ++ (13 ∷ 10 ∷ [])))

-- the heads stand where a report has them, sixteen bytes of time between two
unfoldable pub opens_report : List ℕ → Bool
opens_report s = has_bytes_at s stamp_head 0 && has_bytes_at s start_head 108 && has_bytes_at s end_head 134

-- the last thirty bytes are the last two lines
unfoldable pub closes_report : List ℕ → Bool
closes_report s = has_bytes_at s closing (length s - 30)

-- a line of busy time begins with the head of one of the three busy types; that of free time is none
unfoldable pub is_busy_line : List ℕ → Bool
is_busy_line l = begins l (period_head BusyType.Busy) || begins l (period_head BusyType.Tentative) || begins l (period_head BusyType.Unavailable)

unfoldable pub all_busy_lines : List ℕ → Bool
all_busy_lines s = every_line is_busy_line (content_lines s)

-- the same for the reader: each line begins with the head of a busy type
pub data BusyLines : List (List ℕ) → Type 0 where
  none : BusyLines []
  then : {l : List ℕ} {ls : List (List ℕ)} (b : BusyType) → is_busy b ≡ true → begins l (period_head b) ≡ true → BusyLines ls → BusyLines (l ∷ ls)

-- every line of the bytes has a head of a report: the opening's 160 bytes, the closing's 30, and between them lines of busy time alone
unfoldable pub heads_match : List ℕ → Bool
heads_match s = leb 190 (length s) && opens_report s && closes_report s && all_busy_lines (part s 160 (length s - 30))
