-- The offset of a wall clock in a zone (R-5), and its UTC time. A zone is n parts in the order of the file, `at i` for each i below n.
-- Offsets have a day added, as those of the parts have.
use Rattle.std.specs.Prelude.{ℕ, zero, suc, ◌+◌, ◌-◌, ◌≤◌, ◌<◌, ◌≡◌, cond, ltb, leb, None, Option, Some}
use Rattle.zones.specs.declared.Part.{Part}
use Rattle.zones.specs.declared.offsets.Governing.{Governing}
use Rattle.zones.specs.Onsets.{IsOnset, latest_onset}

-- ---- for the reader

-- t is the latest onset of any part at or before w, as wall clocks compare; of the parts that have it, i is the last
pub record Governs (at : ℕ → Part) (n w i t : ℕ) : Type 0 where
  pub listed : i < n
  pub is_onset : IsOnset (at i) t
  pub reached : t ≤ w
  pub greatest : (j u : ℕ) → j < n → IsOnset (at j) u → u ≤ w → u ≤ t
  pub last : (j : ℕ) → j < n → IsOnset (at j) t → j ≤ i

-- w is before any onset
abbrev pub BeforeAny : (ℕ → Part) → ℕ → ℕ → Type 0
BeforeAny at n w = (j u : ℕ) → j < n → IsOnset (at j) u → u ≤ w → ⊥

-- t is the earliest onset of any part; of the parts that have it, i is the last
pub record Opens (at : ℕ → Part) (n i t : ℕ) : Type 0 where
  pub listed : i < n
  pub is_onset : IsOnset (at i) t
  pub least : (j u : ℕ) → j < n → IsOnset (at j) u → t ≤ u
  pub last : (j : ℕ) → j < n → IsOnset (at j) t → j ≤ i

-- w at or after the onset t of the part: TO, but FROM while w is less than TO minus FROM past it, which the clock leaps over
unfoldable pub offset_after : Part → ℕ → ℕ → ℕ
offset_after p w t = cond (ltb (w - t + p.from) p.to) p.from p.to

-- o is the offset of w
pub data IsOffset (at : ℕ → Part) (n w o : ℕ) : Type 0 where
  after : (i t : ℕ) → Governs at n w i t → o ≡ offset_after (at i) w t → IsOffset at n w o
  before : (i t : ℕ) → BeforeAny at n w → Opens at n i t → o ≡ (at i).from → IsOffset at n w o

-- u is w by UTC: u plus the offset is w, where a day has been added to the offset
pub record IsUtcClock (at : ℕ → Part) (n w u : ℕ) : Type 0 where
  pub offset : ℕ
  pub is_offset : IsOffset at n w offset
  pub is_utc_holds : u + offset ≡ w + 86400

-- ---- what the functions answer

pub record GoverningFound (at : ℕ → Part) (n w : ℕ) (r : Option Governing) : Type 0 where
  pub found : (g : Governing) → r ≡ Some g → Governs at n w g.part g.clock
  pub none : r ≡ None → BeforeAny at n w

-- a part's earliest onset is its DTSTART
abbrev pub OpeningPart : (ℕ → Part) → ℕ → ℕ → Type 0
OpeningPart at n i = Opens at n i (at i).start

-- ---- computed, part by part

abbrev pub later_onset : ℕ → Option ℕ → Option Governing → Option Governing
later_onset k None g = g
later_onset k (Some t) None = Some (record { part = k; clock = t })
later_onset k (Some t) (Some g) = cond (ltb t g.clock) (Some g) (Some (record { part = k; clock = t }))

unfoldable pub governing : (ℕ → Part) → ℕ → ℕ → Option Governing
governing at w zero = None
governing at w (suc k) = later_onset k (latest_onset (at k) w) (governing at w k)

abbrev pub earlier_part : (ℕ → Part) → ℕ → ℕ → ℕ
earlier_part at k b = cond (leb (at k).start (at b).start) k b

unfoldable pub opening_part : (ℕ → Part) → ℕ → ℕ
opening_part at zero = 0
opening_part at (suc k) = earlier_part at k (opening_part at k)

abbrev pub offset_by : (ℕ → Part) → ℕ → ℕ → Option Governing → ℕ
offset_by at w opening (Some g) = offset_after (at g.part) w g.clock
offset_by at w opening None = (at opening).from

unfoldable pub offset_of : (ℕ → Part) → ℕ → ℕ → ℕ
offset_of at n w = offset_by at w (opening_part at n) (governing at w n)

-- exact from the second day of year 0 on; before it, what would be before year 0 is 0
unfoldable pub utc_clock : (ℕ → Part) → ℕ → ℕ → ℕ
utc_clock at n w = w + 86400 - offset_of at n w
