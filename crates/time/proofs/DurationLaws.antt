-- The fold that reads a DURATION: its ways out, and how large what it reads can be.
use Rattle.std.specs.Prelude.{None, Option, Some}
use Prim.Native.Nat.{ℕ, ◌+◌, ◌-◌, ◌*◌, ◌^◌, ◌≤◌, ◌<◌}
use mathlib.Core.Path.{◌≡◌, refl, ap, ◌∙◌}
use mathlib.Core.Bool.{Bool, true, false, cond, ◌&&◌, ◌||◌}
use mathlib.Core.List.{List, [], ◌∷◌}
use native.Mathlib.Omega.{arith}
use native.Mathlib.Numerals.{add-one}
use native.Mathlib.Nat.{mul-le-mul, pow-suc}
use lib.Dec.{eqb, ltb, leb}
use lib.ListN.{length, drop, get_or}
use borrow.Author.Tests.{ltb-true, leb-true, le-leb, lt-leb, lt-ltb, le-ltb}
use Rattle.ascii.specs.Bytes.{between, is_digit, upper}
use Rattle.ascii.proofs.Bytes.{inside, below, above}
use Rattle.ascii.proofs.Lists.{drop_next, drop_end}
use Rattle.time.specs.declared.duration.Stage.{Stage}
use Rattle.time.specs.declared.duration.Stage.TheVariants.{Start, Sign, Period, Weeks, Days, Time, Hours, Minutes, Seconds, Wrong}
use Rattle.time.specs.declared.duration.Weight.{Weight}
use Rattle.time.specs.declared.duration.Reading.{Reading}
use Rattle.time.specs.declared.duration.Duration.{Duration}
use Rattle.time.specs.Duration.{on, time_start, next_stage, weight_of, blank, with_digit, fitting, unit_to, with_unit, step, runs, finish, duration_text, duration_seconds, within_limit, limited, read_duration, rank, EventSmall}
use Rattle.time.proofs.DateTime.{digit_range}
use Rattle.time.proofs.Below as tables

-- equal stages and equal letters lead on to one stage, and have one weight
pub next_stage_at : (s s' : Stage) (b b' : ℕ) → s ≡ s' → b ≡ b' → next_stage s' b' ≡ next_stage s b
next_stage_at s s' b b' e f = rw (e, f)

pub time_start_at : (b b' : ℕ) → b ≡ b' → time_start b' ≡ time_start b
time_start_at b b' f = rw f

pub weight_of_at : (s s' : Stage) → s ≡ s' → weight_of s' ≡ weight_of s
weight_of_at s s' e = rw e

-- one of a unit is at most seven days or an hour, and some unless it is a mark
pub weight_of_small : (s : Stage) → ((weight_of s).0 ≤ 7) × ((weight_of s).1 ≤ 3600)
unfolding weight_of
weight_of_small Start = omega arith
weight_of_small Sign = omega arith
weight_of_small Period = omega arith
weight_of_small Weeks = omega arith
weight_of_small Days = omega arith
weight_of_small Time = omega arith
weight_of_small Hours = omega arith
weight_of_small Minutes = omega arith
weight_of_small Seconds = omega arith
weight_of_small Wrong = omega arith

-- the same of what a function answers
pub weight_small : (w : Weight) (s : Stage) → w ≡ weight_of s → (w.0 ≤ 7) × (w.1 ≤ 3600)
weight_small w s e = rw e (weight_of_small s)

-- six digits make less than a million
six_digits : (d : ℕ) → d ≤ 6 → 10 ^ d ≤ 1000000
six_digits d h = leb-true _ _ (tables.below (λ d. leb (10 ^ d) 1000000) 7 refl d (omega arith))

pub number_small : (r : Reading) → EventSmall r → r.number ≤ 999999
number_small r h = omega (arith, six_digits r.digits h.digits_small, h.number_small)

rank_small : (s : Stage) → rank s ≤ 8
unfolding rank
rank_small Start = omega arith
rank_small Sign = omega arith
rank_small Period = omega arith
rank_small Weeks = omega arith
rank_small Days = omega arith
rank_small Time = omega arith
rank_small Hours = omega arith
rank_small Minutes = omega arith
rank_small Seconds = omega arith
rank_small Wrong = omega arith

pub sums_small : (r : Reading) → EventSmall r → (r.days ≤ 55999944) × (r.seconds ≤ 28799971200)
sums_small r h = omega (arith, rank_small r.stage, h.days_small, h.seconds_small)

-- one digit more, of at most six
pub with_digit_of : (r : Reading) (b : ℕ) → r.digits < 6
    → record { stage = r.stage; digits = r.digits + 1; number = r.number * 10 + (b - 48); days = r.days; seconds = r.seconds; timed = r.timed } ≡ with_digit r b
unfolding with_digit
with_digit_of r b h = rw (lt-ltb r.digits 6 h)

pub with_digit_full : (r : Reading) (b : ℕ) → 6 ≤ r.digits → blank Wrong ≡ with_digit r b
unfolding with_digit
with_digit_full r b h = rw (le-ltb r.digits 6 h)

-- a number by the weight of a unit
pub product_small : (n w : ℕ) → n ≤ 999999 → w ≤ 3600 → n * w ≤ 3599996400
product_small n w h k = mul-le-mul h k

-- what a letter adds, and what it is added to, fits
pub unit_fits : (r : Reading) → EventSmall r → (w : Weight) (s : Stage) → w ≡ weight_of s
    → (w.0 ≤ 7) × (w.1 ≤ 3600) × (r.number * w.0 ≤ 3599996400) × (r.number * w.1 ≤ 3599996400)
    × (r.days ≤ 55999944) × (r.seconds ≤ 28799971200)
unit_fits r h w s e =
    let k : (w.0 ≤ 7) × (w.1 ≤ 3600) = weight_small w s e in
    let n : r.number ≤ 999999 = number_small r h in
    let z : (r.days ≤ 55999944) × (r.seconds ≤ 28799971200) = sums_small r h in
    (k.0, k.1, product_small r.number w.0 n (omega arith), product_small r.number w.1 n k.1, z.0, z.1)

-- a unit after a number or a mark after none, or neither
pub with_unit_of : (r : Reading) (b : ℕ) (next : Stage) (w : Weight) → next ≡ next_stage r.stage b → w ≡ weight_of next
    → (ltb 0 (w.0 + w.1) && ltb 0 r.digits || ltb (w.0 + w.1) 1 && ltb r.digits 1) ≡ true
    → record {
      stage = next;
      digits = 0;
      number = 0;
      days = r.days + r.number * w.0;
      seconds = r.seconds + r.number * w.1;
      timed = r.timed || eqb b 84;
    } ≡ with_unit r b
unfolding with_unit unit_to fitting
with_unit_of r b next w e f t = rw (← e, ← f, t)

pub with_unit_wrong : (r : Reading) (b : ℕ) (next : Stage) (w : Weight) → next ≡ next_stage r.stage b → w ≡ weight_of next
    → (ltb 0 (w.0 + w.1) && ltb 0 r.digits || ltb (w.0 + w.1) 1 && ltb r.digits 1) ≡ false
    → blank Wrong ≡ with_unit r b
unfolding with_unit unit_to fitting
with_unit_wrong r b next w e f t = rw (← e, ← f, t)

-- what a byte is by its interval
pub step_digit : (r : Reading) (b : ℕ) → 48 ≤ b → b ≤ 57 → with_digit r b ≡ step r b
unfolding step is_digit
step_digit r b h k = rw (inside 48 57 b h k)

pub step_lower : (r : Reading) (b : ℕ) → 97 ≤ b → b ≤ 122 → with_unit r (b - 32) ≡ step r b
unfolding step is_digit upper
step_lower r b h k = rw (above 48 57 b (omega arith), inside 97 122 b h k)

step_plain : (r : Reading) (b : ℕ) → between 48 57 b ≡ false → between 97 122 b ≡ false → with_unit r b ≡ step r b
unfolding step is_digit upper
step_plain r b p q = rw (p, q)

pub step_low : (r : Reading) (b : ℕ) → b < 48 → with_unit r b ≡ step r b
step_low r b h = step_plain r b (below 48 57 b h) (below 97 122 b (omega arith))

pub step_middle : (r : Reading) (b : ℕ) → 57 < b → b < 97 → with_unit r b ≡ step r b
step_middle r b h k = step_plain r b (above 48 57 b h) (below 97 122 b k)

pub step_high : (r : Reading) (b : ℕ) → 122 < b → with_unit r b ≡ step r b
step_high r b h = step_plain r b (above 48 57 b (omega arith)) (above 97 122 b h)

-- whole, or not
pub finish_of : (r : Reading) (w : Weight) → w ≡ weight_of r.stage → (ltb 0 (w.0 + w.1) && ltb r.digits 1) ≡ true
    → Some (record { days = r.days; seconds = r.seconds; timed = r.timed }) ≡ finish r
unfolding finish
finish_of r w e t = rw (← e, t)

pub finish_bad : (r : Reading) (w : Weight) → w ≡ weight_of r.stage → (ltb 0 (w.0 + w.1) && ltb r.digits 1) ≡ false → None ≡ finish r
unfolding finish
finish_bad r w e t = rw (← e, t)

-- what was read stays small
pub blank_small : (s : Stage) → EventSmall (blank s)
unfolding blank
blank_small s = record { digits_small = omega arith; number_small = omega arith; days_small = omega arith; seconds_small = omega arith }

with_digit_small : (r : Reading) (b : ℕ) → EventSmall r → 48 ≤ b → b ≤ 57 → EventSmall (with_digit r b)
unfolding with_digit
with_digit_small r b h p q = go (ltb r.digits 6) refl
  where
    go : (t : Bool) → ltb r.digits 6 ≡ t
        → EventSmall (cond t (record { stage = r.stage; digits = r.digits + 1; number = r.number * 10 + (b - 48); days = r.days; seconds = r.seconds; timed = r.timed }) (blank Wrong))
    go true e =
        record {
          digits_small = omega (arith, ltb-true r.digits 6 e);
          number_small = rw (add-one, pow-suc 10 r.digits) (omega (arith, h.number_small));
          days_small = h.days_small;
          seconds_small = h.seconds_small;
        }
    go false e = blank_small Wrong

-- there is room for n of a unit between two stages
abbrev Room : ℕ → Stage → Stage → Type 0
Room n s t =
    (rank s * 6999993 + n * (weight_of t).0 ≤ rank t * 6999993) × (rank s * 3599996400 + n * (weight_of t).1 ≤ rank t * 3599996400)

room_on : (n : ℕ) (s : Stage) (b letter : ℕ) (t u : Stage) → Room n s t → Room n s u → Room n s (on b letter t u)
room_on n s b letter t u p q = go (eqb b letter)
  where
    go : (x : Bool) → Room n s (cond x t u)
    go true = p
    go false = q

next_room : (n : ℕ) (s : Stage) (b : ℕ) → n ≤ 999999 → Room n s (next_stage s b)
unfolding next_stage time_start rank weight_of
next_room n Start b h = room_on n Start b 43 Sign _ (omega arith) (room_on n Start b 80 Period Wrong (omega arith) (omega arith))
next_room n Sign b h = room_on n Sign b 80 Period Wrong (omega arith) (omega arith)
next_room n Period b h =
    room_on n Period b 87 Weeks _ (omega arith)
    (room_on n Period b 68 Days _ (omega arith) (room_on n Period b 84 Time Wrong (omega arith) (omega arith)))
next_room n Weeks b h = omega arith
next_room n Days b h = room_on n Days b 84 Time Wrong (omega arith) (omega arith)
next_room n Time b h =
    room_on n Time b 72 Hours _ (omega arith)
    (room_on n Time b 77 Minutes _ (omega arith) (room_on n Time b 83 Seconds Wrong (omega arith) (omega arith)))
next_room n Hours b h = room_on n Hours b 77 Minutes Wrong (omega arith) (omega arith)
next_room n Minutes b h = room_on n Minutes b 83 Seconds Wrong (omega arith) (omega arith)
next_room n Seconds b h = omega arith
next_room n Wrong b h = omega arith

unit_to_small : (r : Reading) (b : ℕ) (next : Stage) → EventSmall r → Room r.number r.stage next → EventSmall (unit_to r b next)
unfolding unit_to
unit_to_small r b next h room = go (fitting (weight_of next) r.digits)
  where
    go : (t : Bool) → EventSmall (cond t
        (record {
          stage = next;
          digits = 0;
          number = 0;
          days = r.days + r.number * (weight_of next).0;
          seconds = r.seconds + r.number * (weight_of next).1;
          timed = r.timed || eqb b 84;
        })
        (blank Wrong))
    go true =
        record {
          digits_small = omega arith;
          number_small = omega arith;
          days_small = omega (arith, h.days_small, room.0);
          seconds_small = omega (arith, h.seconds_small, room.1);
        }
    go false = blank_small Wrong

pub step_small : (r : Reading) (b : ℕ) → EventSmall r → EventSmall (step r b)
unfolding step with_unit
step_small r b h = go (is_digit b) refl
  where
    go : (t : Bool) → is_digit b ≡ t → EventSmall (cond t (with_digit r b) (with_unit r (upper b)))
    go true e = with_digit_small r b h (digit_range b e).0 (digit_range b e).1
    go false e = unit_to_small r (upper b) (next_stage r.stage (upper b)) h (next_room r.number r.stage (upper b) (number_small r h))

-- the loop: what is left of the text is read from here
pub runs_next : (r q : Reading) (s : List ℕ) (i : ℕ) → i < length s → q ≡ step r (get_or s i 0) → runs q (drop (i + 1) s) ≡ runs r (drop i s)
unfolding runs
runs_next r q s i h e = rw (drop_next s i h, e)

pub runs_end : (r : Reading) (s : List ℕ) (i : ℕ) → length s ≤ i → runs r (drop i s) ≡ r
unfolding runs
runs_end r s i h = rw (drop_end s i h)

runs_small : (r : Reading) (l : List ℕ) → EventSmall r → EventSmall (runs r l)
unfolding runs
runs_small r [] h = h
runs_small r (b ∷ l) h = runs_small (step r b) l (step_small r b h)

-- a text read is small, and one within the limit is what is answered
pub duration_text_small : (l : List ℕ) (d : Duration) → duration_text l ≡ Some d → (d.days ≤ 55999944) × (d.seconds ≤ 28799971200)
unfolding duration_text finish
duration_text_small l d e = go (runs (blank Start) l) (runs_small (blank Start) l (blank_small Start)) e
  where
    answer : (r : Reading) (t : Bool) → EventSmall r → cond t (Some (record { days = r.days; seconds = r.seconds; timed = r.timed })) None ≡ Some d
        → (d.days ≤ 55999944) × (d.seconds ≤ 28799971200)
    answer r true h e =
        let z : record { days = r.days; seconds = r.seconds; timed = r.timed } ≡ d = cc in
        rw (← z) (sums_small r h)
    answer r false h e = let z : ◌≡◌ {A = ℕ} 0 1 = cc in absurd (omega arith)

    go : (r : Reading) → EventSmall r → finish r ≡ Some d → (d.days ≤ 55999944) × (d.seconds ≤ 28799971200)
    go r h e = answer r (ltb 0 ((weight_of r.stage).0 + (weight_of r.stage).1) && ltb r.digits 1) h e

pub read_duration_bad : (l : List ℕ) → duration_text l ≡ None → None ≡ read_duration l
unfolding read_duration limited
read_duration_bad l e = rw e

pub read_duration_of : (l : List ℕ) (d : Duration) (n : ℕ) → duration_text l ≡ Some d → n ≡ duration_seconds d → n ≤ 315360000 → Some d ≡ read_duration l
unfolding read_duration limited within_limit
read_duration_of l d n e f h = rw (e, ← f, le-leb n 315360000 h)

pub read_duration_over : (l : List ℕ) (d : Duration) (n : ℕ) → duration_text l ≡ Some d → n ≡ duration_seconds d → 315360000 < n → None ≡ read_duration l
unfolding read_duration limited within_limit
read_duration_over l d n e f h = rw (e, ← f, lt-leb n 315360000 h)

-- a duration read is within the limit, and is what its text says
pub read_duration_in : (l : List ℕ) (d : Duration) → read_duration l ≡ Some d → (duration_text l ≡ Some d) × (duration_seconds d ≤ 315360000)
unfolding read_duration limited within_limit
read_duration_in l d e = go (duration_text l) refl e
  where
    known : (c : Duration) (t : Bool) → leb (duration_seconds c) 315360000 ≡ t → cond t (Some c) None ≡ Some d → (c ≡ d) × (duration_seconds d ≤ 315360000)
    known c true h e = let z : c ≡ d = cc in (z, rw (← z) (leb-true (duration_seconds c) 315360000 h))
    known c false h e = let z : ◌≡◌ {A = ℕ} 0 1 = cc in absurd (omega arith)

    go : (t : Option Duration) → duration_text l ≡ t → limited t ≡ Some d → (duration_text l ≡ Some d) × (duration_seconds d ≤ 315360000)
    go None p e = let z : ◌≡◌ {A = ℕ} 0 1 = cc in absurd (omega arith)
    go (Some c) p e =
        let k : (c ≡ d) × (duration_seconds d ≤ 315360000) = known c (leb (duration_seconds c) 315360000) refl e in
        (p ∙ ap Some k.0, k.1)

-- so its parts are small
pub read_duration_small : (l : List ℕ) (d : Duration) → read_duration l ≡ Some d → (d.days ≤ 3650) × (d.seconds ≤ 315360000)
unfolding duration_seconds
read_duration_small l d e = omega (arith, (read_duration_in l d e).1)
