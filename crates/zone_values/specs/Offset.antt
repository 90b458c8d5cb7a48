-- A utc-offset, the value of TZOFFSETFROM and TZOFFSETTO (R-5, with RFC 5545 3.3.14): its grammar, for the reader, and `read_offset`, which
-- the code computes. The two are tied in proofs/OffsetLaws. An offset is told as 86,400 more than it.
use Rattle.std.specs.Prelude.{ℕ, ◌+◌, ◌-◌, ◌*◌, ◌≤◌, ◌≡◌, true, cond, ◌&&◌, List, [], ◌∷◌, eqb, ltb, length, get_or, None, Option, Some}
use Rattle.ascii.specs.Bytes.{is_digit}
use Rattle.time.specs.DateTime.{pair_at, three, checked_time}

-- ---- for the reader

-- two digits, which make n
pub record TwoDigits (a b n : ℕ) : Type 0 where
  pub first : is_digit a ≡ true
  pub second : is_digit b ≡ true
  pub number : n ≡ (a - 48) * 10 + (b - 48)

-- hours 00 to 23 and minutes 00 to 59
pub record HourMinute (a b c d h m : ℕ) : Type 0 where
  pub hour : TwoDigits a b h
  pub hour_small : h ≤ 23
  pub minute : TwoDigits c d m
  pub minute_small : m ≤ 59

-- hours, minutes and perhaps seconds 00 to 60, of which 60 is taken for 59, and how many seconds that is
pub data OffsetSize : List ℕ → ℕ → Type 0 where
  no_second : {a b c d h m : ℕ} → HourMinute a b c d h m → OffsetSize (a ∷ b ∷ c ∷ d ∷ []) (h * 3600 + m * 60)
  with_second : {a b c d e f h m s : ℕ} → HourMinute a b c d h m → TwoDigits e f s → s ≤ 59 → OffsetSize (a ∷ b ∷ c ∷ d ∷ e ∷ f ∷ []) (h * 3600 + m * 60 + s)
  leap_second : {a b c d e f h m : ℕ} → HourMinute a b c d h m → TwoDigits e f 60 → OffsetSize (a ∷ b ∷ c ∷ d ∷ e ∷ f ∷ []) (h * 3600 + m * 60 + 59)

-- a plus (43) and any size, or a minus (45) and a size that is not 0
pub data UtcOffset : List ℕ → ℕ → Type 0 where
  ahead : {l : List ℕ} {n : ℕ} → OffsetSize l n → UtcOffset (43 ∷ l) (86400 + n)
  behind : {l : List ℕ} {n : ℕ} → OffsetSize l n → 1 ≤ n → UtcOffset (45 ∷ l) (86400 - n)

-- ---- as it is computed

-- five bytes have no second, seven have one
unfoldable pub second_at : List ℕ → Option ℕ
second_at v = cond (eqb (length v) 5) (Some 0) (cond (eqb (length v) 7) (pair_at v 5) None)

-- the seconds behind the sign
unfoldable pub offset_size : List ℕ → Option ℕ
offset_size v = three checked_time (pair_at v 1) (pair_at v 3) (second_at v)

unfoldable pub signed : ℕ → ℕ → Option ℕ
signed b n =
    cond (eqb b 43) (Some (86400 + n)) (cond (eqb b 45 && ltb 0 n) (Some (86400 - n)) None)

unfoldable pub signed_by : ℕ → Option ℕ → Option ℕ
signed_by b None = None
signed_by b (Some n) = signed b n

unfoldable pub read_offset : List ℕ → Option ℕ
read_offset v = signed_by (get_or v 0 0) (offset_size v)
