-- The grammar of DURATION as RFC 5545 writes it, a constructor for each phrase of dur-value, with what the phrase lasts.
-- Document 01, Values, narrows it: no minus sign, and numbers of 1 to 6 digits.
use Rattle.std.specs.Prelude.{ℕ, ◌+◌, ◌-◌, ◌*◌, ◌≤◌, ◌≡◌, Bool, true, false, List, [], ◌∷◌, ◌++◌, length}
use Rattle.ascii.specs.Bytes.{is_digit, upper}
use Rattle.ascii.specs.Names.{every}
use Rattle.time.specs.declared.duration.Duration.{Duration}

-- the number of digits in decimal, after a number read before
unfoldable pub decimal : ℕ → List ℕ → ℕ
decimal n [] = n
decimal n (b ∷ l) = decimal (n * 10 + (b - 48)) l

-- l is 1 to 6 digits that make n, a letter in either case, and k
pub record Counted (letter n : ℕ) (l k : List ℕ) : Type 0 where
  pub digits : List ℕ
  pub byte : ℕ
  pub all_digits : every is_digit digits ≡ true
  pub at_least : 1 ≤ length digits
  pub at_most : length digits ≤ 6
  pub number : n ≡ decimal 0 digits
  pub letter_is : upper byte ≡ letter
  pub text : l ≡ digits ++ (byte ∷ k)

-- days, seconds, and whether there is a time
abbrev pub lasting : ℕ → ℕ → Bool → Duration
lasting d c x = record { days = d; seconds = c; timed = x }

-- seconds (dur-second): a number and S
pub data DurSecond : List ℕ → ℕ → Type 0 where
  second : {n : ℕ} {l : List ℕ} → Counted 83 n l [] → DurSecond l n

-- 1*DIGIT and a letter of this many seconds, perhaps with the phrase that may follow it
pub data Followed (letter weight : ℕ) (Next : List ℕ → ℕ → Type 0) : List ℕ → ℕ → Type 0 where
  alone : {n : ℕ} {l : List ℕ} → Counted letter n l [] → Followed letter weight Next l (n * weight)
  followed : {n s : ℕ} {l k : List ℕ} → Counted letter n l k → Next k s → Followed letter weight Next l (n * weight + s)

-- minutes (dur-minute): a number and M, then perhaps seconds
abbrev pub DurMinute : List ℕ → ℕ → Type 0
DurMinute = Followed 77 60 DurSecond

-- hours (dur-hour): a number and H, then perhaps minutes
abbrev pub DurHour : List ℕ → ℕ → Type 0
DurHour = Followed 72 3600 DurMinute

-- a time (dur-time): T, then hours, minutes or seconds
pub data DurTime : List ℕ → ℕ → Type 0 where
  time_hour : {b s : ℕ} {l : List ℕ} → upper b ≡ 84 → DurHour l s → DurTime (b ∷ l) s
  time_minute : {b s : ℕ} {l : List ℕ} → upper b ≡ 84 → DurMinute l s → DurTime (b ∷ l) s
  time_second : {b s : ℕ} {l : List ℕ} → upper b ≡ 84 → DurSecond l s → DurTime (b ∷ l) s

-- the body: days, perhaps with a time behind them (dur-date), or a time, or weeks (dur-week)
pub data DurBody : List ℕ → Duration → Type 0 where
  day : {n : ℕ} {l : List ℕ} → Counted 68 n l [] → DurBody l (lasting n 0 false)
  day_time : {n s : ℕ} {l k : List ℕ} → Counted 68 n l k → DurTime k s → DurBody l (lasting n s true)
  time : {s : ℕ} {l : List ℕ} → DurTime l s → DurBody l (lasting 0 s true)
  week : {n : ℕ} {l : List ℕ} → Counted 87 n l [] → DurBody l (lasting (n * 7) 0 false)

-- the whole (dur-value): perhaps +, then P, then the body
pub data DurationGrammar : List ℕ → Duration → Type 0 where
  plain : {b : ℕ} {l : List ℕ} {d : Duration} → upper b ≡ 80 → DurBody l d → DurationGrammar (b ∷ l) d
  signed : {b : ℕ} {l : List ℕ} {d : Duration} → upper b ≡ 80 → DurBody l d → DurationGrammar (43 ∷ b ∷ l) d
