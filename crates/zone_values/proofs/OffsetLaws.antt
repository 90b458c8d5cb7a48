-- A utc-offset is read exactly where the grammar has it; how large it can be.
use Rattle.std.specs.Prelude.{None, Option, Some}
use Prim.Native.Nat.{ℕ, ◌+◌, ◌-◌, ◌*◌, ◌≤◌, ◌<◌}
use mathlib.Core.Path.{◌≡◌, refl, sym, ap, subst, ◌∙◌}
use mathlib.Core.Bool.{Bool, true, false, cond, ◌&&◌}
use mathlib.Core.List.{List, [], ◌∷◌}
use mathlib.Core.Logic.{◌↔◌}
use native.Mathlib.Omega.{arith}
use lib.Dec.{eqb, ltb, leb}
use lib.ListN.{length, get_or}
use borrow.Author.Tests.{ne_eqb, eqb-true, eqb-false, ltb-true, lt-ltb, le-leb}
use Rattle.ascii.specs.Bytes.{is_digit}
use Rattle.ascii.proofs.Bools.{and_both}
use Rattle.time.specs.DateTime.{digit_pair, pair_at, three, checked_time}
use Rattle.time.proofs.DateTime.{three_of, time_parts, checked_time_last, checked_time_of, checked_time_small}
use Rattle.zone_values.specs.Offset.{TwoDigits, HourMinute, OffsetSize, no_second, with_second, leap_second, UtcOffset, ahead, behind}
use Rattle.zone_values.specs.Offset.{second_at, offset_size, signed, signed_by, read_offset}

-- ---- how large

-- less than a day
pub size_small : (v : List ℕ) (n : ℕ) → offset_size v ≡ Some n → n < 86400
unfolding offset_size
size_small v n e =
    let w = three_of checked_time _ _ _ n e in
    checked_time_small w.0 w.1 w.2 n w.6

-- what was read is not bad
pub bad_number : {A B : Type 0} {x : B} → None ≡ Some x → A
bad_number e = let z : ◌≡◌ {A = ℕ} 0 1 = cc in absurd (omega arith)

-- a sign and a size that was read: ahead, or behind by more than nothing
data Signed (b n o : ℕ) : Type 0 where
  plus : b ≡ 43 → o ≡ 86400 + n → Signed b n o
  minus : b ≡ 45 → 1 ≤ n → o ≡ 86400 - n → Signed b n o

signed_is : (b n o : ℕ) → signed b n ≡ Some o → Signed b n o
unfolding signed
signed_is b n o e = go (eqb b 43) (eqb b 45) (ltb 0 n) refl refl refl e
  where
    go : (p m s : Bool) → eqb b 43 ≡ p → eqb b 45 ≡ m → ltb 0 n ≡ s
        → cond p (Some (86400 + n)) (cond (m && s) (Some (86400 - n)) None) ≡ Some o → Signed b n o
    go true m s p q r k = plus (eqb-true b 43 p) (cc)
    go false true true p q r k = minus (eqb-true b 45 q) (ltb-true 0 n r) (cc)
    go false true false p q r k = bad_number k
    go false false s p q r k = bad_number k

signed_by_lem : (b : ℕ) (s : Option ℕ) (o : ℕ) → signed_by b s ≡ Some o → (n : ℕ) × (s ≡ Some n) × (Signed b n o)
unfolding signed_by
signed_by_lem b None o e = bad_number e
signed_by_lem b (Some n) o e = (n, refl, signed_is b n o e)

signed_small : (b n o : ℕ) → n < 86400 → Signed b n o → (1 ≤ o) × (o ≤ 172799)
signed_small b n o h (plus p q) = omega arith
signed_small b n o h (minus p k q) = omega arith

-- an offset is told by a number from 1 to 172,799
pub read_offset_small : (v : List ℕ) (o : ℕ) → read_offset v ≡ Some o → (1 ≤ o) × (o ≤ 172799)
unfolding read_offset
read_offset_small v o e =
    let w = signed_by_lem (get_or v 0 0) (offset_size v) o e in
    signed_small (get_or v 0 0) w.0 o (size_small v w.0 w.1) w.2

-- ---- two digits

is_pair : {a b n : ℕ} → TwoDigits a b n → digit_pair a b ≡ Some n
unfolding digit_pair
is_pair r = rw (r.first, r.second) (ap Some (sym r.number))

pair_is : (a b n : ℕ) → digit_pair a b ≡ Some n → TwoDigits a b n
unfolding digit_pair
pair_is a b n e = go (is_digit a) (is_digit b) refl refl e
  where
    go : (x y : Bool) → is_digit a ≡ x → is_digit b ≡ y → cond (x && y) (Some ((a - 48) * 10 + (b - 48))) None ≡ Some n → TwoDigits a b n
    go true true p q k = record { first = p; second = q; number = (cc) }
    go true false p q k = bad_number k
    go false y p q k = bad_number k

-- ---- hours, minutes and seconds

time_test : (h m s : ℕ) → h ≤ 23 → m ≤ 59 → s ≤ 60 → (leb h 23 && leb m 59 && leb s 60) ≡ true
time_test h m s p q r = and_both (and_both (le-leb h 23 p) (le-leb m 59 q)) (le-leb s 60 r)

-- what reads as a time of day
record TimeIs (h m s n : ℕ) : Type 0 where
  hour_small : h ≤ 23
  minute_small : m ≤ 59
  second_small : s ≤ 60
  size : n ≡ h * 3600 + m * 60 + cond (eqb s 60) 59 s

checked_is : (h m s n : ℕ) → checked_time h m s ≡ Some n → TimeIs h m s n
unfolding checked_time
checked_is h m s n e = go (leb h 23 && leb m 59 && leb s 60) refl e
  where
    go : (t : Bool) → (leb h 23 && leb m 59 && leb s 60) ≡ t → cond t (Some (h * 3600 + m * 60 + cond (eqb s 60) 59 s)) None ≡ Some n → TimeIs h m s n
    go true p k =
        let w : (h ≤ 23) × (m ≤ 59) × (s ≤ 60) = time_parts h m s p in
        record { hour_small = w.0; minute_small = w.1; second_small = w.2; size = (cc) }
    go false p k = bad_number k

-- the grammar's size is read, whatever byte stands before it
is_size : (x : ℕ) {l : List ℕ} {n : ℕ} → OffsetSize l n → offset_size (x ∷ l) ≡ Some n
unfolding offset_size second_at pair_at three
is_size x (no_second {h = h} {m = m} t) =
    rw (is_pair t.hour, is_pair t.minute)
    (sym (checked_time_of h m 0 (time_test h m 0 t.hour_small t.minute_small (omega arith)) (λ z. omega arith)) ∙ ap Some (omega arith))
is_size x (with_second {h = h} {m = m} {s = s} t u k) =
    rw (is_pair t.hour, is_pair t.minute, is_pair u)
    (sym (checked_time_of h m s (time_test h m s t.hour_small t.minute_small (omega arith)) (λ z. omega arith)))
is_size x (leap_second {h = h} {m = m} t u) =
    rw (is_pair t.hour, is_pair t.minute, is_pair u)
    (sym (checked_time_last h m 60 (time_test h m 60 t.hour_small t.minute_small (omega arith)) refl))

-- neither five bytes nor seven have no size
no_size : {A : Type 0} (v : List ℕ) (n : ℕ) → (length v ≡ 5 → ⊥) → (length v ≡ 7 → ⊥) → offset_size v ≡ Some n → A
unfolding offset_size second_at
no_size v n p q e =
    let w = three_of checked_time _ _ _ n e in
    let z : cond (eqb (length v) 5) (Some 0) (cond (eqb (length v) 7) (pair_at v 5) None) ≡ None = rw (ne_eqb (length v) 5 p, ne_eqb (length v) 7 q) in
    bad_number (sym z ∙ w.5)

-- six digits
six : (a b c d e f h m s n : ℕ) → digit_pair a b ≡ Some h → digit_pair c d ≡ Some m → digit_pair e f ≡ Some s → TimeIs h m s n
    → OffsetSize (a ∷ b ∷ c ∷ d ∷ e ∷ f ∷ []) n
six a b c d e f h m s n p q r t = go (eqb s 60) refl t.size
  where
    w : HourMinute a b c d h m
    w = record { hour = pair_is a b h p; hour_small = t.hour_small; minute = pair_is c d m q; minute_small = t.minute_small }

    go : (y : Bool) → eqb s 60 ≡ y → n ≡ h * 3600 + m * 60 + cond y 59 s → OffsetSize (a ∷ b ∷ c ∷ d ∷ e ∷ f ∷ []) n
    go true y k = rw k (leap_second w (pair_is e f 60 (r ∙ ap Some (eqb-true s 60 y))))
    go false y k = rw k (with_second w (pair_is e f s r) (omega (arith, t.second_small, eqb-false s 60 y)))

four : (a b c d h m n : ℕ) → digit_pair a b ≡ Some h → digit_pair c d ≡ Some m → TimeIs h m 0 n → OffsetSize (a ∷ b ∷ c ∷ d ∷ []) n
four a b c d h m n p q t =
    let z : n ≡ h * 3600 + m * 60 = omega (arith, t.size) in
    rw z (no_second (record { hour = pair_is a b h p; hour_small = t.hour_small; minute = pair_is c d m q; minute_small = t.minute_small }))

size_is : (x : ℕ) (l : List ℕ) (n : ℕ) → offset_size (x ∷ l) ≡ Some n → OffsetSize l n
unfolding offset_size second_at pair_at
size_is x [] n e = no_size (x ∷ []) n (λ z. omega arith) (λ z. omega arith) e
size_is x (a ∷ []) n e = no_size (x ∷ a ∷ []) n (λ z. omega arith) (λ z. omega arith) e
size_is x (a ∷ b ∷ []) n e = no_size (x ∷ a ∷ b ∷ []) n (λ z. omega arith) (λ z. omega arith) e
size_is x (a ∷ b ∷ c ∷ []) n e = no_size (x ∷ a ∷ b ∷ c ∷ []) n (λ z. omega arith) (λ z. omega arith) e
size_is x (a ∷ b ∷ c ∷ d ∷ []) n e =
    let w = three_of checked_time (digit_pair a b) (digit_pair c d) (Some 0) n e in
    let z : w.2 ≡ 0 = cc in
    four a b c d w.0 w.1 n w.3 w.4 (checked_is w.0 w.1 0 n (subst (λ (s : ℕ). checked_time w.0 w.1 s ≡ Some n) z w.6))
size_is x (a ∷ b ∷ c ∷ d ∷ f ∷ []) n e = no_size (x ∷ a ∷ b ∷ c ∷ d ∷ f ∷ []) n (λ z. omega arith) (λ z. omega arith) e
size_is x (a ∷ b ∷ c ∷ d ∷ f ∷ g ∷ []) n e =
    let w = three_of checked_time (digit_pair a b) (digit_pair c d) (digit_pair f g) n e in
    six a b c d f g w.0 w.1 w.2 n w.3 w.4 w.5 (checked_is w.0 w.1 w.2 n w.6)
size_is x (a ∷ b ∷ c ∷ d ∷ f ∷ g ∷ h ∷ l) n e = no_size (x ∷ a ∷ b ∷ c ∷ d ∷ f ∷ g ∷ h ∷ l) n (λ z. omega arith) (λ z. omega arith) e

-- ---- the whole value

-- fewer than five bytes are no offset
pub offset_short : (v : List ℕ) → length v < 5 → None ≡ read_offset v
unfolding read_offset signed_by
offset_short v h = go (offset_size v) refl
  where
    go : (n : Option ℕ) → offset_size v ≡ n → None ≡ signed_by (get_or v 0 0) n
    go (Some n) e = no_size v n (λ z. omega arith) (λ z. omega arith) e
    go None e = refl

is_offset : {v : List ℕ} {o : ℕ} → UtcOffset v o → read_offset v ≡ Some o
unfolding read_offset signed_by signed
is_offset (ahead p) = rw (is_size 43 p)
is_offset (behind {n = n} p h) = rw (is_size 45 p, lt-ltb 0 n h)

signed_offset : (b : ℕ) (l : List ℕ) (n o : ℕ) → OffsetSize l n → Signed b n o → UtcOffset (b ∷ l) o
signed_offset b l n o h (plus p q) = rw (p, q) (ahead h)
signed_offset b l n o h (minus p k q) = rw (p, q) (behind h k)

offset_is : (v : List ℕ) (o : ℕ) → read_offset v ≡ Some o → UtcOffset v o
unfolding read_offset
offset_is [] o e =
    let w = signed_by_lem 0 (offset_size []) o e in
    no_size [] w.0 (λ z. omega arith) (λ z. omega arith) w.1
offset_is (b ∷ l) o e =
    let w = signed_by_lem b (offset_size (b ∷ l)) o e in
    signed_offset b l w.0 o (size_is b l w.0 w.1) w.2

-- the law
pub offset_iff : (v : List ℕ) (o : ℕ) → (read_offset v ≡ Some o) ↔ UtcOffset v o
offset_iff v o = (offset_is v o, is_offset)
