-- The limits of a second, both ways round: a clock's UTC second, and the clock that has it;
-- and what a good range is.
use Rattle.std.specs.Prelude.{None, Some}
use Prim.Native.Nat.{ℕ, ◌+◌, ◌-◌, ◌*◌, ◌≤◌, ◌<◌}
use mathlib.Core.Path.{◌≡◌, refl, sym, ap, ◌∙◌}
use mathlib.Core.Bool.{Bool, true, false, cond, ◌&&◌}
use mathlib.Core.Logic.{◌↔◌}
use native.Mathlib.Omega.{arith}
use native.Mathlib.Nat.{add-sub_of_le}
use lib.Dec.{leb, ltb}
use borrow.Author.Tests.{leb-true, le-leb, lt-leb, ltb-true}
use Rattle.ascii.proofs.Bools.{and_left, and_right}
use Rattle.time.specs.declared.date_time.Kind.{Kind}
use Rattle.time.specs.Limits.{epoch, last_second, since, utc_second, range_good}
use Rattle.time.proofs.DaysLaws.{epoch_day}

-- the epoch as the number that the code has
pub epoch_number : epoch ≡ 62167219200
unfolding epoch
epoch_number = ap (λ (n : ℕ). 86400 * n) epoch_day

-- before the start, past the limit, within
pub since_before : (start clock : ℕ) → clock < start → None ≡ since start clock
unfolding since
since_before start clock h = rw (lt-leb start clock h)

pub since_after : (start clock : ℕ) → start ≤ clock → last_second < clock - start → None ≡ since start clock
unfolding since
since_after start clock h k = rw (le-leb start clock h, lt-leb (clock - start) last_second k)

pub since_within : (start clock : ℕ) → start ≤ clock → clock - start ≤ last_second → Some (clock - start) ≡ since start clock
unfolding since
since_within start clock h k = rw (le-leb start clock h, le-leb (clock - start) last_second k)

-- a second t is within the limits and this far from the start, exactly when it is the answer
since_in : (start clock t : ℕ) → since start clock ≡ Some t → (t ≤ last_second) × (t + start ≡ clock)
unfolding since
since_in start clock t e = go (leb start clock && leb (clock - start) last_second) refl e
  where
    go : (b : Bool) → (leb start clock && leb (clock - start) last_second) ≡ b
        → cond b (Some (clock - start)) None ≡ Some t → (t ≤ last_second) × (t + start ≡ clock)
    go true p e =
        let z : clock - start ≡ t = cc in
        let h : start ≤ clock = leb-true _ _ (and_left (leb start clock) (leb (clock - start) last_second) p) in
        let k : clock - start ≤ last_second = leb-true _ _ (and_right (leb start clock) (leb (clock - start) last_second) p) in
        omega arith
    go false p e = let z : ◌≡◌ {A = ℕ} 0 1 = cc in absurd (omega arith)

since_of : (start clock t : ℕ) → t ≤ last_second → t + start ≡ clock → since start clock ≡ Some t
since_of start clock t h e = sym (since_within start clock (omega arith) (omega arith)) ∙ ap Some (let z : clock - start ≡ t = omega arith in z)

-- how far the clock of second 0 is from 00000101T000000, and 50,400 more
abbrev pub start : Kind → ℕ → ℕ
start Kind.Utc shift = epoch + 50400
start Kind.Floating shift = epoch + shift
start Kind.Date shift = epoch + shift

-- UTC = clock - offset, within the limits
pub utc_second_in : (kind : Kind) (clock shift t : ℕ) → utc_second kind clock shift ≡ Some t
    → (t ≤ last_second) × (t + start kind shift ≡ clock + 50400)
unfolding utc_second
utc_second_in Kind.Utc clock shift t e = omega (arith, since_in epoch clock t e)
utc_second_in Kind.Floating clock shift t e = omega (arith, epoch_number, since_in (epoch - 50400 + shift) clock t e)
utc_second_in Kind.Date clock shift t e = omega (arith, epoch_number, since_in (epoch - 50400 + shift) clock t e)

pub utc_second_of : (kind : Kind) (clock shift t : ℕ) → t ≤ last_second → t + start kind shift ≡ clock + 50400
    → utc_second kind clock shift ≡ Some t
unfolding utc_second
utc_second_of Kind.Utc clock shift t h e = since_of epoch clock t h (omega arith)
utc_second_of Kind.Floating clock shift t h e = since_of (epoch - 50400 + shift) clock t h (omega (arith, epoch_number))
utc_second_of Kind.Date clock shift t h e = since_of (epoch - 50400 + shift) clock t h (omega (arith, epoch_number))

pub utc_second_iff : (kind : Kind) (clock shift t : ℕ)
    → (utc_second kind clock shift ≡ Some t) ↔ ((t ≤ last_second) × (t + start kind shift ≡ clock + 50400))
utc_second_iff kind clock shift t = (λ e. utc_second_in kind clock shift t e, λ p. utc_second_of kind clock shift t p.0 p.1)

-- the UTC clock of a second is that second again, whatever the offset
pub second_written : (t shift : ℕ) → t ≤ last_second → utc_second Kind.Utc (t + epoch) shift ≡ Some t
second_written t shift h = utc_second_of Kind.Utc (t + epoch) shift t h (omega arith)

-- of equal kinds, the same second
utc_second_kind : (k l : Kind) (clock shift : ℕ) → k ≡ l → utc_second l clock shift ≡ utc_second k clock shift
utc_second_kind k l clock shift e = rw e

-- the arms of the code, with the epoch as a number
module _ (k : Kind) (clock shift : ℕ) where
  pub second_utc : k ≡ Kind.Utc → since 62167219200 clock ≡ utc_second k clock shift
  unfolding utc_second
  second_utc e = ap (λ (n : ℕ). since n clock) (sym epoch_number) ∙ utc_second_kind k Kind.Utc clock shift e

  pub second_floating : k ≡ Kind.Floating → since (62167219200 - 50400 + shift) clock ≡ utc_second k clock shift
  unfolding utc_second
  second_floating e = ap (λ (n : ℕ). since (n - 50400 + shift) clock) (sym epoch_number) ∙ utc_second_kind k Kind.Floating clock shift e

  pub second_date : k ≡ Kind.Date → since (62167219200 - 50400 + shift) clock ≡ utc_second k clock shift
  unfolding utc_second
  second_date e = ap (λ (n : ℕ). since (n - 50400 + shift) clock) (sym epoch_number) ∙ utc_second_kind k Kind.Date clock shift e

-- ---- a good range

pub range_rising : (a e : ℕ) → range_good a e ≡ true → a < e
unfolding range_good
range_rising a e g = ltb-true a e (and_left (ltb a e) _ g)

pub range_limit : (a e : ℕ) → range_good a e ≡ true → e ≤ last_second
unfolding range_good
range_limit a e g = leb-true e last_second (and_right (ltb a e) _ g)

-- its seconds, counted from its start, reach its end
pub range_width : (a e : ℕ) → range_good a e ≡ true → a + (e - a) ≡ e
range_width a e g = add-sub_of_le (let z : a ≤ e = omega (arith, range_rising a e g) in z)
