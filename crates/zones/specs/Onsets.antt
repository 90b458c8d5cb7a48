-- The onsets of a part (R-5), by the wall clock before the change, and the latest of them at or before a clock.
use Rattle.std.specs.Prelude.{ℕ, zero, suc, ◌+◌, ◌*◌, ◌/◌, ◌%◌, ◌≤◌, ◌<◌, ◌≡◌, Bool, true, false, ◌&&◌, ltb, leb, None, Option, Some}
use Rattle.zones.specs.declared.Part.{Part}
use Rattle.zones.specs.RuleDays.{RuleDay, rule_day}

-- ---- for the reader

-- the rule's day of some year, where it comes after the day of DTSTART, at DTSTART's time of day
pub record RuledOnset (p : Part) (t : ℕ) : Type 0 where
  pub year : ℕ
  pub day : ℕ
  pub is_rule_day : RuleDay p year day
  pub is_later : p.start / 86400 < day
  pub clock : t ≡ day * 86400 + p.start % 86400

-- an onset of a part: its DTSTART, whether the rule names that day or not, or one by the rule
pub data IsOnset (p : Part) (t : ℕ) : Type 0 where
  at_start : t ≡ p.start → IsOnset p t
  by_rule_holds : RuledOnset p t → IsOnset p t

-- t is the latest of certain clocks at or before w
pub record Latest (On : ℕ → Type 0) (w t : ℕ) : Type 0 where
  pub is_one : On t
  pub reached : t ≤ w
  pub greatest : (u : ℕ) → On u → u ≤ w → u ≤ t

-- the latest was found, or none is reached
pub record LatestFound (On : ℕ → Type 0) (w : ℕ) (r : Option ℕ) : Type 0 where
  pub found : (t : ℕ) → r ≡ Some t → Latest On w t
  pub none : r ≡ None → (u : ℕ) → On u → u ≤ w → ⊥

-- ---- computed, where what is left is asked only if it is needed

abbrev pub or_else : Bool → Option ℕ → (Unit {0} → Option ℕ) → Option ℕ
or_else true x rest = x
or_else false x rest = rest tt

-- this day of the rule, if it is after that of DTSTART and reached
abbrev pub if_reached : Part → ℕ → Option ℕ → (Unit {0} → Option ℕ) → Option ℕ
if_reached p w None rest = rest tt
if_reached p w (Some d) rest =
    or_else (ltb (p.start / 86400) d && leb (d * 86400 + p.start % 86400) w) (Some (d * 86400 + p.start % 86400)) rest

-- the latest by the rule in the years before y
unfoldable pub latest_by_rule : Part → ℕ → ℕ → Option ℕ
latest_by_rule p w zero = None
latest_by_rule p w (suc y) = if_reached p w (rule_day p y) (λ _. latest_by_rule p w y)

abbrev pub or_start : Part → Option ℕ → Option ℕ
or_start p None = Some p.start
or_start p (Some t) = Some t

-- a year has 365 days or more, so none after these has begun by w
unfoldable pub latest_onset : Part → ℕ → Option ℕ
latest_onset p w = or_else (ltb w p.start) None (λ _. or_start p (latest_by_rule p w (w / 86400 / 365 + 1)))
