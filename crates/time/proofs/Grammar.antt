-- The fold that reads a DURATION reads exactly what the grammar has.
use Rattle.std.specs.Prelude.{None, Some}
use Prim.Native.Nat.{ℕ, suc, ◌+◌, ◌-◌, ◌*◌, ◌≤◌, ◌<◌}
use mathlib.Core.Path.{◌≡◌, refl, sym, ap, ◌∙◌, subst}
use mathlib.Core.Bool.{Bool, true, false, cond, ◌&&◌, ◌||◌}
use mathlib.Core.Logic.{◌↔◌, ◌⊎◌, inl, inr, ⊎_elim}
use mathlib.Core.List.{List, [], ◌∷◌, ◌++◌, append_assoc}
use native.Mathlib.Omega.{arith}
use native.Mathlib.Decide.{dec_lt}
use lib.Dec.{eqb, ltb, leb}
use lib.ListN.{length, length-append}
use borrow.Author.Tests.{leb-true, ltb-true, lt-ltb, le-ltb, eqb-true}
use Rattle.ascii.specs.Bytes.{between, is_digit, upper}
use Rattle.ascii.specs.Names.{every}
use Rattle.ascii.proofs.Bytes.{below}
use Rattle.ascii.proofs.Bools.{and_left, and_right, and_both}
use Rattle.ascii.proofs.Names.{every_append}
use Rattle.time.specs.declared.duration.Stage.{Stage}
use Rattle.time.specs.declared.duration.Stage.TheVariants.{Start, Sign, Period, Weeks, Days, Time, Hours, Minutes, Seconds, Wrong}
use Rattle.time.specs.declared.duration.Reading.{Reading}
use Rattle.time.specs.declared.duration.Duration.{Duration}
use Rattle.time.specs.Duration.{on, time_start, next_stage, weight_of, blank, with_digit, fitting, unit_to, with_unit, step, runs, finish, duration_text, duration_seconds, read_duration}
use Rattle.time.specs.Grammar.{decimal, Counted, lasting, DurSecond, Followed, DurMinute, DurHour, DurTime, DurBody, DurationGrammar}
use Rattle.time.proofs.DateTime.{digit_range}
use Rattle.time.proofs.DurationLaws.{with_digit_of, with_digit_full, step_digit, read_duration_in, read_duration_of}

-- a text read so far
abbrev reading : Stage → ℕ → ℕ → ℕ → ℕ → Bool → Reading
reading s g n d c x = record { stage = s; digits = g; number = n; days = d; seconds = c; timed = x }

-- more than nothing where the last letter was a unit
abbrev size : Stage → ℕ
size s = (weight_of s).0 + (weight_of s).1

-- from a stage, with these sums, the text ends as this duration
abbrev Ends : Stage → ℕ → ℕ → Bool → List ℕ → Duration → Type 0
Ends s d c x l out = finish (runs (reading s 0 0 d c x) l) ≡ Some out

-- a byte whose capital is past the digits is no digit
no_digit : (b letter : ℕ) → 58 ≤ letter → upper b ≡ letter → is_digit b ≡ false
unfolding is_digit upper
no_digit b letter h e = go (between 48 57 b) refl
  where
    go : (t : Bool) → between 48 57 b ≡ t → t ≡ false
    go true p =
        let k : (48 ≤ b) × (b ≤ 57) = digit_range b p in
        let q : upper b ≡ b = rw (below 97 122 b (omega arith)) in
        absurd (omega arith)
    go false p = refl

-- digits are read one by one
module _ (s : Stage) (d c : ℕ) (x : Bool) where
  one_digit : (g n b : ℕ) → is_digit b ≡ true → g < 6 → step (reading s g n d c x) b ≡ reading s (g + 1) (n * 10 + (b - 48)) d c x
  one_digit g n b e h =
      sym (step_digit (reading s g n d c x) b (digit_range b e).0 (digit_range b e).1) ∙ sym (with_digit_of (reading s g n d c x) b h)

  runs_digits : (ds k : List ℕ) (g n : ℕ) → every is_digit ds ≡ true → g + length ds ≤ 6
      → runs (reading s g n d c x) (ds ++ k) ≡ runs (reading s (g + length ds) (decimal n ds) d c x) k
  unfolding runs decimal
  runs_digits [] k g n e h = ap (λ (i : ℕ). runs (reading s i n d c x) k) (let z : g ≡ g + 0 = omega arith in z)
  runs_digits (b ∷ ds) k g n e h =
      ap (λ (r : Reading). runs r (ds ++ k)) (one_digit g n b (and_left (is_digit b) (every is_digit ds) e) (omega arith))
      ∙ runs_digits ds k (g + 1) (n * 10 + (b - 48)) (and_right (is_digit b) (every is_digit ds) e) (omega arith)
      ∙ ap (λ (i : ℕ). runs (reading s i (decimal (n * 10 + (b - 48)) ds) d c x) k) (let z : g + 1 + length ds ≡ g + suc (length ds) = omega arith in z)

-- a letter: a unit after a number, a mark after none
step_letter : (r : Reading) (b : ℕ) → is_digit b ≡ false → step r b ≡ with_unit r (upper b)
unfolding step
step_letter r b e = rw e

fitting_unit : (t : Stage) (g : ℕ) → 0 < size t → 0 < g → fitting (weight_of t) g ≡ true
unfolding fitting
fitting_unit t g h k = rw (lt-ltb 0 (size t) h, lt-ltb 0 g k)

fitting_mark : (t : Stage) → size t < 1 → fitting (weight_of t) 0 ≡ true
unfolding fitting
fitting_mark t h = rw (le-ltb 0 (size t) (omega arith), lt-ltb (size t) 1 h)

module _ (s t : Stage) (d c : ℕ) (x : Bool) where
  unit_step : (g n letter : ℕ) → next_stage s letter ≡ t → fitting (weight_of t) g ≡ true
      → with_unit (reading s g n d c x) letter ≡ reading t 0 0 (d + n * (weight_of t).0) (c + n * (weight_of t).1) (x || eqb letter 84)
  unfolding with_unit unit_to
  unit_step g n letter e f = rw (e, f)

  counted_runs : (letter n : ℕ) (l k : List ℕ) → Counted letter n l k → 58 ≤ letter → next_stage s letter ≡ t → 0 < size t
      → runs (reading s 0 0 d c x) l ≡ runs (reading t 0 0 (d + n * (weight_of t).0) (c + n * (weight_of t).1) (x || eqb letter 84)) k
  unfolding runs
  counted_runs letter n l k p h e f =
      ap (λ (w : List ℕ). runs (reading s 0 0 d c x) w) p.text
      ∙ runs_digits s d c x p.digits (p.byte ∷ k) 0 0 p.all_digits (omega (arith, p.at_most))
      ∙ ap (λ (r : Reading). runs r k)
      (step_letter (reading s (0 + length p.digits) (decimal 0 p.digits) d c x) p.byte (no_digit p.byte letter h p.letter_is)
      ∙ ap (λ (a : ℕ). with_unit (reading s (0 + length p.digits) (decimal 0 p.digits) d c x) a) p.letter_is
      ∙ unit_step (0 + length p.digits) (decimal 0 p.digits) letter e (fitting_unit t (0 + length p.digits) f (omega (arith, p.at_least)))
      ∙ ap (λ (m : ℕ). reading t 0 0 (d + m * (weight_of t).0) (c + m * (weight_of t).1) (x || eqb letter 84)) (sym p.number))

  mark_runs : (b : ℕ) (k : List ℕ) → is_digit b ≡ false → next_stage s (upper b) ≡ t → size t < 1
      → runs (reading s 0 0 d c x) (b ∷ k) ≡ runs (reading t 0 0 d c (x || eqb (upper b) 84)) k
  unfolding runs
  mark_runs b k h e f =
      ap (λ (r : Reading). runs r k)
      (step_letter (reading s 0 0 d c x) b h ∙ unit_step 0 0 (upper b) e (fitting_mark t f)
      ∙ ap (λ (i : ℕ). reading t 0 0 i (c + 0 * (weight_of t).1) (x || eqb (upper b) 84)) (let z : d + 0 * (weight_of t).0 ≡ d = omega arith in z)
      ∙ ap (λ (i : ℕ). reading t 0 0 d i (x || eqb (upper b) 84)) (let z : c + 0 * (weight_of t).1 ≡ c = omega arith in z))

-- the text may stop behind a unit
stop : (s : Stage) (d c : ℕ) (x : Bool) → 0 < size s → Ends s d c x [] (lasting d c x)
unfolding finish runs
stop s d c x h = rw (lt-ltb 0 (size s) h)

-- a phrase with what follows it, from one stage to the next
counted_ends : (s t : Stage) (d c d' c' : ℕ) (x : Bool) (letter n : ℕ) (l k : List ℕ) (out : Duration) → Counted letter n l k → 58 ≤ letter
    → next_stage s letter ≡ t → 0 < size t → d + n * (weight_of t).0 ≡ d' → c + n * (weight_of t).1 ≡ c'
    → Ends t d' c' (x || eqb letter 84) k out → Ends s d c x l out
counted_ends s t d c d' c' x letter n l k out p h e f i j rest =
    ap finish
    (counted_runs s t d c x letter n l k p h e f ∙ ap (λ (a : ℕ). runs (reading t 0 0 a (c + n * (weight_of t).1) (x || eqb letter 84)) k) i
    ∙ ap (λ (a : ℕ). runs (reading t 0 0 d' a (x || eqb letter 84)) k) j)
    ∙ rest

mark_ends : (s t : Stage) (d c : ℕ) (x : Bool) (b letter : ℕ) (k : List ℕ) (out : Duration) → upper b ≡ letter → 58 ≤ letter
    → next_stage s letter ≡ t → size t < 1 → Ends t d c (x || eqb letter 84) k out → Ends s d c x (b ∷ k) out
mark_ends s t d c x b letter k out p h e f rest =
    ap finish (mark_runs s t d c x b k (no_digit b letter h p) (ap (next_stage s) p ∙ e) f)
    ∙ (rw p rest)

-- equal sums, the same duration
same_sum : (d c c' : ℕ) → c ≡ c' → Some (lasting d c true) ≡ Some (lasting d c' true)
same_sum d c c' e = ap (λ (a : ℕ). Some (lasting d a true)) e

-- what the grammar has, the fold reads
second_ends : {l : List ℕ} {n : ℕ} → DurSecond l n → (s : Stage) (d c : ℕ) → next_stage s 83 ≡ Seconds → Ends s d c true l (lasting d (c + n) true)
unfolding weight_of
second_ends (DurSecond.second {n} {l} p) s d c e =
    counted_ends s Seconds d c d (c + n) true 83 n l [] _ p (omega arith) e (omega arith) (omega arith) (omega arith) (stop Seconds d (c + n) true (omega arith))

-- a phrase that leads to the stage t, and what may follow it there
module _ (letter weight : ℕ) (Next : List ℕ → ℕ → Type 0) (t : Stage) (h : 58 ≤ letter) (unit : 0 < size t) (p : (weight_of t).0 ≡ 0) (q : (weight_of t).1 ≡ weight) where
  no_days : (d n : ℕ) → d + n * (weight_of t).0 ≡ d
  no_days d n = rw p (omega arith)

  some_seconds : (c n : ℕ) → c + n * (weight_of t).1 ≡ c + n * weight
  some_seconds c n = rw q

  followed_ends : ((k : List ℕ) (m : ℕ) → Next k m → (d c : ℕ) → Ends t d c true k (lasting d (c + m) true))
      → (l : List ℕ) (n : ℕ) → Followed letter weight Next l n → (s : Stage) (d c : ℕ) → next_stage s letter ≡ t → Ends s d c true l (lasting d (c + n) true)
  followed_ends next _ _ (Followed.alone {n} {l} u) s d c e =
      counted_ends s t d c d (c + n * weight) true letter n l [] _ u h e unit (no_days d n) (some_seconds c n) (stop t d (c + n * weight) true unit)
  followed_ends next _ _ (Followed.followed {n} {s = m} {l} {k} u v) s d c e =
      counted_ends s t d c d (c + n * weight) true letter n l k _ u h e unit (no_days d n) (some_seconds c n)
      (next k m v d (c + n * weight) ∙ same_sum d (c + n * weight + m) (c + (n * weight + m)) (omega arith))

minute_ends : {l : List ℕ} {n : ℕ} → DurMinute l n → (s : Stage) (d c : ℕ) → next_stage s 77 ≡ Minutes → Ends s d c true l (lasting d (c + n) true)
unfolding weight_of next_stage
minute_ends {l} {n} = followed_ends 77 60 DurSecond Minutes (omega arith) (omega arith) refl refl (λ k m v d c. second_ends v Minutes d c refl) l n

hour_ends : {l : List ℕ} {n : ℕ} → DurHour l n → (s : Stage) (d c : ℕ) → next_stage s 72 ≡ Hours → Ends s d c true l (lasting d (c + n) true)
unfolding weight_of next_stage
hour_ends {l} {n} = followed_ends 72 3600 DurMinute Hours (omega arith) (omega arith) refl refl (λ k m v d c. minute_ends v Hours d c refl) l n

time_ends : {l : List ℕ} {n : ℕ} → DurTime l n → (s : Stage) (d : ℕ) → next_stage s 84 ≡ Time → Ends s d 0 false l (lasting d n true)
unfolding weight_of next_stage time_start
time_ends (DurTime.time_hour {b} {s = n} {l} p q) s d e =
    mark_ends s Time d 0 false b 84 l _ p (omega arith) e (omega arith) (hour_ends q Time d 0 refl ∙ same_sum d (0 + n) n (omega arith))
time_ends (DurTime.time_minute {b} {s = n} {l} p q) s d e =
    mark_ends s Time d 0 false b 84 l _ p (omega arith) e (omega arith) (minute_ends q Time d 0 refl ∙ same_sum d (0 + n) n (omega arith))
time_ends (DurTime.time_second {b} {s = n} {l} p q) s d e =
    mark_ends s Time d 0 false b 84 l _ p (omega arith) e (omega arith) (second_ends q Time d 0 refl ∙ same_sum d (0 + n) n (omega arith))

body_ends : {l : List ℕ} {out : Duration} → DurBody l out → Ends Period 0 0 false l out
unfolding weight_of next_stage
body_ends (DurBody.day {n} {l} p) =
    counted_ends Period Days 0 0 n 0 false 68 n l [] _ p (omega arith) refl (omega arith) (omega arith) (omega arith) (stop Days n 0 false (omega arith))
body_ends (DurBody.day_time {n} {s = m} {l} {k} p q) =
    counted_ends Period Days 0 0 n 0 false 68 n l k _ p (omega arith) refl (omega arith) (omega arith) (omega arith) (time_ends q Days n refl)
body_ends (DurBody.time q) = time_ends q Period 0 refl
body_ends (DurBody.week {n} {l} p) =
    counted_ends Period Weeks 0 0 (n * 7) 0 false 87 n l [] _ p (omega arith) refl (omega arith) (omega arith) (omega arith) (stop Weeks (n * 7) 0 false (omega arith))

pub grammar_read : {l : List ℕ} {out : Duration} → DurationGrammar l out → duration_text l ≡ Some out
unfolding duration_text blank weight_of next_stage upper is_digit
grammar_read (DurationGrammar.plain {b} {l} {d} p q) = mark_ends Start Period 0 0 false b 80 l d p (omega arith) refl (omega arith) (body_ends q)
grammar_read (DurationGrammar.signed {b} {l} {d} p q) =
    ap finish (mark_runs Start Sign 0 0 false 43 (b ∷ l) refl refl (omega arith))
    ∙ mark_ends Sign Period 0 0 false b 80 l d p (omega arith) refl (omega arith) (body_ends q)

-- what is wrong stays wrong
with_digit_wrong : (r : Reading) (b : ℕ) → r.stage ≡ Wrong → (with_digit r b).stage ≡ Wrong
unfolding with_digit blank
with_digit_wrong r b e = go (ltb r.digits 6)
  where
    go : (t : Bool) → (cond t
        (record { stage = r.stage; digits = r.digits + 1; number = r.number * 10 + (b - 48); days = r.days; seconds = r.seconds; timed = r.timed })
        (reading Wrong 0 0 0 0 false)).stage ≡ Wrong
    go true = e
    go false = refl

unit_to_wrong : (r : Reading) (b : ℕ) (next : Stage) → next ≡ Wrong → (unit_to r b next).stage ≡ Wrong
unfolding unit_to blank
unit_to_wrong r b next e = go (fitting (weight_of next) r.digits)
  where
    go : (t : Bool) → (cond t
        (reading next 0 0 (r.days + r.number * (weight_of next).0) (r.seconds + r.number * (weight_of next).1) (r.timed || eqb b 84))
        (reading Wrong 0 0 0 0 false)).stage ≡ Wrong
    go true = e
    go false = refl

next_wrong : (s : Stage) (b : ℕ) → s ≡ Wrong → next_stage s b ≡ Wrong
unfolding next_stage
next_wrong s b e = rw e

step_wrong : (r : Reading) (b : ℕ) → r.stage ≡ Wrong → (step r b).stage ≡ Wrong
unfolding step with_unit
step_wrong r b e = go (is_digit b)
  where
    go : (t : Bool) → (cond t (with_digit r b) (unit_to r (upper b) (next_stage r.stage (upper b)))).stage ≡ Wrong
    go true = with_digit_wrong r b e
    go false = unit_to_wrong r (upper b) (next_stage r.stage (upper b)) (next_wrong r.stage (upper b) e)

blank_wrong : (blank Wrong).stage ≡ Wrong
unfolding blank
blank_wrong = refl

-- what ends as a duration stopped behind a unit
finish_in : (r : Reading) (out : Duration) → finish r ≡ Some out
    → (0 < size r.stage) × (r.digits < 1) × (out ≡ lasting r.days r.seconds r.timed)
unfolding finish
finish_in r out e = go (ltb 0 (size r.stage) && ltb r.digits 1) refl e
  where
    go : (t : Bool) → (ltb 0 (size r.stage) && ltb r.digits 1) ≡ t
        → cond t (Some (lasting r.days r.seconds r.timed)) None ≡ Some out
        → (0 < size r.stage) × (r.digits < 1) × (out ≡ lasting r.days r.seconds r.timed)
    go true p e = (
      ltb-true 0 (size r.stage) (and_left (ltb 0 (size r.stage)) (ltb r.digits 1) p),
      ltb-true r.digits 1 (and_right (ltb 0 (size r.stage)) (ltb r.digits 1) p),
      let z : out ≡ lasting r.days r.seconds r.timed = cc in z,
    )
    go false p e = let z : ◌≡◌ {A = ℕ} 0 1 = cc in absurd (omega arith)

wrong_size : (s : Stage) → s ≡ Wrong → 0 < size s → ⊥
unfolding weight_of
wrong_size s e h = let k : 0 < size Wrong = subst (λ (z : Stage). 0 < size z) e h in omega arith

wrong_ends : (r : Reading) (l : List ℕ) (out : Duration) → r.stage ≡ Wrong → finish (runs r l) ≡ Some out → ⊥
unfolding runs
wrong_ends r [] out e f = wrong_size r.stage e (finish_in r out f).0
wrong_ends r (b ∷ l) out e f = wrong_ends (step r b) l out (step_wrong r b e) f

-- a unit w = digits, letter a, k, or a mark b with capital a, that leads to the stage z
abbrev UnitTo : ℕ → ℕ → Bool → Duration → List ℕ → ℕ → List ℕ → ℕ → Stage → Type 0
UnitTo d c x out w n k a z =
    Counted a n w k × (0 < size z) × Ends z (d + n * (weight_of z).0) (c + n * (weight_of z).1) (x || eqb a 84) k out

abbrev MarkTo : ℕ → ℕ → Bool → Duration → ℕ → List ℕ → ℕ → Stage → Type 0
MarkTo d c x out b k a z = (upper b ≡ a) × (size z < 1) × Ends z d c (x || eqb a 84) k out

-- what can stand at the front of a text that ends as a duration
data Ahead (s : Stage) (d c : ℕ) (x : Bool) (out : Duration) (w : List ℕ) : Type 0 where
  ended : w ≡ [] → 0 < size s → out ≡ lasting d c x → Ahead s d c x out w
  marked : (b : ℕ) (k : List ℕ) → w ≡ b ∷ k → MarkTo d c x out b k (upper b) (next_stage s (upper b)) → Ahead s d c x out w
  united : (a n : ℕ) (k : List ℕ) → UnitTo d c x out w n k a (next_stage s a) → Ahead s d c x out w

decimal_snoc : (ds : List ℕ) (n b : ℕ) → decimal n (ds ++ (b ∷ [])) ≡ decimal n ds * 10 + (b - 48)
unfolding decimal
decimal_snoc [] n b = refl
decimal_snoc (a ∷ ds) n b = decimal_snoc ds (n * 10 + (a - 48)) b

none : (ds : List ℕ) → length ds < 1 → ds ≡ []
none [] h = refl
none (b ∷ ds) h = absurd (omega arith)

fitting_in : (t : Stage) (g : ℕ) → fitting (weight_of t) g ≡ true → ((0 < size t) × (0 < g)) ⊎ ((size t < 1) × (g < 1))
unfolding fitting
fitting_in t g e = go (ltb 0 (size t)) (ltb 0 g) refl refl e
  where
    go : (p q : Bool) → ltb 0 (size t) ≡ p → ltb 0 g ≡ q → (p && q || ltb (size t) 1 && ltb g 1) ≡ true
        → ((0 < size t) × (0 < g)) ⊎ ((size t < 1) × (g < 1))
    go true true h k e = inl (ltb-true 0 (size t) h, ltb-true 0 g k)
    go true false h k e = inr (ltb-true (size t) 1 (and_left (ltb (size t) 1) (ltb g 1) e), ltb-true g 1 (and_right (ltb (size t) 1) (ltb g 1) e))
    go false q h k e = inr (ltb-true (size t) 1 (and_left (ltb (size t) 1) (ltb g 1) e), ltb-true g 1 (and_right (ltb (size t) 1) (ltb g 1) e))

no_number : (ds : List ℕ) (d w : ℕ) → length ds < 1 → d + decimal 0 ds * w ≡ d
unfolding decimal
no_number [] d w h = omega arith
no_number (b ∷ ds) d w h = absurd (omega arith)

unit_none : (r : Reading) (b : ℕ) → fitting (weight_of (next_stage r.stage b)) r.digits ≡ false → with_unit r b ≡ blank Wrong
unfolding with_unit unit_to
unit_none r b e = rw e

-- one byte more, behind the digits ds: a digit, a letter behind a number, or a mark
module _ (s : Stage) (d c : ℕ) (x : Bool) (out : Duration) (w : List ℕ) where
  -- what holds where the digits ds were read and l is left
  abbrev Left : List ℕ → List ℕ → Type 0
  Left ds l =
      w ≡ ds ++ l → every is_digit ds ≡ true → length ds ≤ 6 → finish (runs (reading s (length ds) (decimal 0 ds) d c x) l) ≡ Some out → Ahead s d c x out w

  scan_end : (ds : List ℕ) → Left ds []
  unfolding runs decimal
  scan_end ds q e h f =
      let p : (0 < size s) × (length ds < 1) × (out ≡ lasting d c x) = finish_in (reading s (length ds) (decimal 0 ds) d c x) out f in
      ended (q ∙ ap (λ (a : List ℕ). a ++ []) (none ds p.1)) p.0 p.2

  scan_digit : (ds : List ℕ) (b : ℕ) (l : List ℕ) → Left (ds ++ (b ∷ [])) l → is_digit b ≡ true → Left ds (b ∷ l)
  unfolding runs
  scan_digit ds b l more i q e h f = go (dec_lt (length ds) 6)
    where
      go : Dec (length ds < 6) → Ahead s d c x out w
      go (yes p) =
          more (q ∙ sym (append_assoc ds (b ∷ []) l)) (every_append is_digit ds (b ∷ []) e (and_both i refl))
          (simp length-append (omega arith))
          (ap (λ (r : Reading). finish (runs r l))
          (ap (λ (a : ℕ). reading s a (decimal 0 (ds ++ (b ∷ []))) d c x) (length-append ds (b ∷ []))
          ∙ ap (λ (a : ℕ). reading s (length ds + 1) a d c x) (decimal_snoc ds 0 b)
          ∙ sym (one_digit s d c x (length ds) (decimal 0 ds) b i p))
          ∙ f)
      go (no p) =
          absurd
          (wrong_ends (step (reading s (length ds) (decimal 0 ds) d c x) b) l out
          (ap (λ (r : Reading). r.stage)
          (sym (step_digit (reading s (length ds) (decimal 0 ds) d c x) b (digit_range b i).0 (digit_range b i).1)
          ∙ sym (with_digit_full (reading s (length ds) (decimal 0 ds) d c x) b (omega arith)))
          ∙ blank_wrong)
          f)

  scan_unit : (ds : List ℕ) (b : ℕ) (l : List ℕ) (t : Stage) → w ≡ ds ++ (b ∷ l) → every is_digit ds ≡ true → length ds ≤ 6 → next_stage s (upper b) ≡ t
      → finish (runs (reading t 0 0 (d + decimal 0 ds * (weight_of t).0) (c + decimal 0 ds * (weight_of t).1) (x || eqb (upper b) 84)) l) ≡ Some out
      → ((0 < size t) × (0 < length ds)) ⊎ ((size t < 1) × (length ds < 1)) → Ahead s d c x out w
  scan_unit ds b l t q e h n g (inl p) =
      united (upper b) (decimal 0 ds) l
      (subst (λ (z : Stage). UnitTo d c x out w (decimal 0 ds) l (upper b) z) (sym n)
      (record { digits = ds; byte = b; all_digits = e; at_least = p.1; at_most = h; number = refl; letter_is = refl; text = q }, p.0, g))
  scan_unit ds b l t q e h n g (inr p) =
      marked b l (q ∙ ap (λ (a : List ℕ). a ++ (b ∷ l)) (none ds p.1))
      (subst (λ (z : Stage). MarkTo d c x out b l (upper b) z) (sym n) (
        refl,
        p.0,
        ap (λ (r : Reading). finish (runs r l))
            (sym
            (ap (λ (a : ℕ). reading t 0 0 a (c + decimal 0 ds * (weight_of t).1) (x || eqb (upper b) 84)) (no_number ds d (weight_of t).0 p.1)
            ∙ ap (λ (a : ℕ). reading t 0 0 d a (x || eqb (upper b) 84)) (no_number ds c (weight_of t).1 p.1)))
            ∙ g,
      ))

  scan_letter : (ds : List ℕ) (b : ℕ) (l : List ℕ) → is_digit b ≡ false → Left ds (b ∷ l)
  unfolding runs
  scan_letter ds b l i q e h f = go (fitting (weight_of (next_stage s (upper b))) (length ds)) refl
    where
      go : (t : Bool) → fitting (weight_of (next_stage s (upper b))) (length ds) ≡ t → Ahead s d c x out w
      go true p =
          scan_unit ds b l (next_stage s (upper b)) q e h refl
          (ap (λ (r : Reading). finish (runs r l))
          (sym
          (step_letter (reading s (length ds) (decimal 0 ds) d c x) b i
          ∙ unit_step s (next_stage s (upper b)) d c x (length ds) (decimal 0 ds) (upper b) refl p))
          ∙ f)
          (fitting_in (next_stage s (upper b)) (length ds) p)
      go false p =
          absurd
          (wrong_ends (step (reading s (length ds) (decimal 0 ds) d c x) b) l out
          (ap (λ (r : Reading). r.stage)
          (step_letter (reading s (length ds) (decimal 0 ds) d c x) b i ∙ unit_none (reading s (length ds) (decimal 0 ds) d c x) (upper b) p)
          ∙ blank_wrong)
          f)

  scan : (ds l : List ℕ) → Left ds l
  scan ds [] q e h f = scan_end ds q e h f
  scan ds (b ∷ l) q e h f = go (is_digit b) refl (scan (ds ++ (b ∷ [])) l)
    where
      go : (t : Bool) → is_digit b ≡ t → Left (ds ++ (b ∷ [])) l → Ahead s d c x out w
      go true i more = scan_digit ds b l more i q e h f
      go false i more = scan_letter ds b l i q e h f

  ahead : Ends s d c x w out → Ahead s d c x out w
  unfolding decimal
  ahead f = scan [] w refl refl (omega arith) f

-- a letter that leads to one stage or else another
on_case : (P : ℕ → Stage → Type 0) (a letter : ℕ) (t u : Stage) → P a (on a letter t u) → P letter t ⊎ P a u
on_case P a letter t u p = go (eqb a letter) refl p
  where
    go : (e : Bool) → eqb a letter ≡ e → P a (cond e t u) → P letter t ⊎ P a u
    go true e p = inl (subst (λ (z : ℕ). P z t) (eqb-true a letter e) p)
    go false e p = inr p

same_lasting : (d d' c c' : ℕ) (x : Bool) → d ≡ d' → c ≡ c' → lasting d c x ≡ lasting d' c' x
same_lasting d d' c c' x p q = rw (p, q)

-- from a wrong stage nothing ends as a duration
no_end : (d c : ℕ) (x : Bool) (l : List ℕ) (out : Duration) → Ends Wrong d c x l out → ⊥
no_end d c x l out f = wrong_ends (reading Wrong 0 0 d c x) l out refl f

-- behind weeks and seconds nothing stands
last_unit : (s : Stage) (d c : ℕ) (x : Bool) (out : Duration) (l : List ℕ) → ((b : ℕ) → next_stage s b ≡ Wrong) → Ends s d c x l out
    → (l ≡ []) × (out ≡ lasting d c x)
last_unit s d c x out l e f = go (ahead s d c x out l f)
  where
    go : Ahead s d c x out l → (l ≡ []) × (out ≡ lasting d c x)
    go (ended p h q) = (p, q)
    go (marked b k p m) = absurd (no_end _ _ _ _ _ (subst (λ (z : Stage). MarkTo d c x out b k (upper b) z) (e (upper b)) m).2)
    go (united a n k u) = absurd (wrong_size (next_stage s a) (e a) u.1)

-- a number and S, and nothing more
read_second : (d c n : ℕ) (out : Duration) (l k : List ℕ) → UnitTo d c true out l n k 83 Seconds → (m : ℕ) × DurSecond l m × (out ≡ lasting d (c + m) true)
unfolding next_stage weight_of
read_second d c n out l k u =
    let p : (k ≡ []) × (out ≡ lasting (d + n * 0) (c + n * 1) true) = last_unit Seconds (d + n * 0) (c + n * 1) true out k (λ b. refl) u.2 in
    (n, DurSecond.second (subst (λ (z : List ℕ). Counted 83 n l z) p.0 u.0), p.1 ∙ same_lasting _ _ _ _ true (omega arith) (omega arith))

-- behind minutes and hours nothing stands, or the next unit
one_unit : (s t : Stage) (letter d c : ℕ) (x : Bool) (out : Duration) (l : List ℕ) → ((b : ℕ) → next_stage s b ≡ on b letter t Wrong) → 0 < size t
    → Ends s d c x l out → ((l ≡ []) × (out ≡ lasting d c x)) ⊎ ((n : ℕ) × (k : List ℕ) × UnitTo d c x out l n k letter t)
one_unit s t letter d c x out l e h f = go (ahead s d c x out l f)
  where
    go : Ahead s d c x out l → ((l ≡ []) × (out ≡ lasting d c x)) ⊎ ((n : ℕ) × (k : List ℕ) × UnitTo d c x out l n k letter t)
    go (ended p i q) = inl (p, q)
    go (marked b k p m) =
        ⊎_elim (λ v. absurd (omega (arith, v.1))) (λ v. absurd (no_end _ _ _ _ _ v.2))
        (on_case (MarkTo d c x out b k) (upper b) letter t Wrong (subst (λ (z : Stage). MarkTo d c x out b k (upper b) z) (e (upper b)) m))
    go (united a n k u) =
        ⊎_elim (λ v. inr (n, k, v)) (λ v. absurd (wrong_size Wrong refl v.1))
        (on_case (UnitTo d c x out l n k) a letter t Wrong (subst (λ (z : Stage). UnitTo d c x out l n k a z) (e a) u))

-- a number and M, perhaps with seconds; a number and H, perhaps with minutes
module _ (letter after weight : ℕ) (Next : List ℕ → ℕ → Type 0) (t u : Stage) (e : (b : ℕ) → next_stage t b ≡ on b after u Wrong) (unit : 0 < size u)
    (p : (weight_of t).0 ≡ 0) (q : (weight_of t).1 ≡ weight)
    (read_next : (d c n : ℕ) (out : Duration) (l k : List ℕ) → UnitTo d c true out l n k after u → (m : ℕ) × Next l m × (out ≡ lasting d (c + m) true)) where
  read_followed : (d c n : ℕ) (out : Duration) (l k : List ℕ) → UnitTo d c true out l n k letter t
      → (m : ℕ) × Followed letter weight Next l m × (out ≡ lasting d (c + m) true)
  read_followed d c n out l k v =
      let ends = subst (λ (a : ℕ). Ends t a (c + n * (weight_of t).1) true k out) none_of v.2 in
      go (one_unit t u after d (c + n * weight) true out k e unit (subst (λ (a : ℕ). Ends t d (c + n * a) true k out) q ends))
    where
      none_of : d + n * (weight_of t).0 ≡ d
      none_of = rw p (omega arith)

      go : ((k ≡ []) × (out ≡ lasting d (c + n * weight) true)) ⊎ ((m : ℕ) × (j : List ℕ) × UnitTo d (c + n * weight) true out k m j after u)
          → (m : ℕ) × Followed letter weight Next l m × (out ≡ lasting d (c + m) true)
      go (inl r) = (n * weight, Followed.alone (subst (λ (z : List ℕ). Counted letter n l z) r.0 v.0), r.1)
      go (inr r) =
          let w : (m : ℕ) × Next k m × (out ≡ lasting d (c + n * weight + m) true) = read_next d (c + n * weight) r.0 out k r.1 r.2 in
          (n * weight + w.0, Followed.followed v.0 w.1, w.2 ∙ same_lasting _ _ _ _ true refl (omega arith))

read_minute : (d c n : ℕ) (out : Duration) (l k : List ℕ) → UnitTo d c true out l n k 77 Minutes → (m : ℕ) × DurMinute l m × (out ≡ lasting d (c + m) true)
unfolding next_stage weight_of
read_minute = read_followed 77 83 60 DurSecond Minutes Seconds (λ b. refl) (omega arith) refl refl read_second

read_hour : (d c n : ℕ) (out : Duration) (l k : List ℕ) → UnitTo d c true out l n k 72 Hours → (m : ℕ) × DurHour l m × (out ≡ lasting d (c + m) true)
unfolding next_stage weight_of
read_hour = read_followed 72 77 3600 DurMinute Hours Minutes (λ b. refl) (omega arith) refl refl read_minute

-- T, and behind it hours, minutes or seconds
read_time_lem : (d : ℕ) (out : Duration) (b : ℕ) (l : List ℕ) → MarkTo d 0 false out b l 84 Time → (m : ℕ) × DurTime (b ∷ l) m × (out ≡ lasting d m true)
unfolding next_stage time_start weight_of
read_time_lem d out b l t = go (ahead Time d 0 true out l t.2)
  where
    go : Ahead Time d 0 true out l → (m : ℕ) × DurTime (b ∷ l) m × (out ≡ lasting d m true)
    go (ended p h q) = absurd (omega arith)
    go (marked a k p m) =
        ⊎_elim (λ v. absurd (omega (arith, v.1)))
        (λ v. ⊎_elim (λ v. absurd (omega (arith, v.1)))
        (λ v. ⊎_elim (λ v. absurd (omega (arith, v.1))) (λ v. absurd (no_end _ _ _ _ _ v.2))
        (on_case (MarkTo d 0 true out a k) (upper a) 83 Seconds Wrong v))
        (on_case (MarkTo d 0 true out a k) (upper a) 77 Minutes _ v))
        (on_case (MarkTo d 0 true out a k) (upper a) 72 Hours _ m)
    go (united a n k u) =
        ⊎_elim
        (λ v. let q : (m : ℕ) × DurHour l m × (out ≡ lasting d (0 + m) true) = read_hour d 0 n out l k v in
        (q.0, DurTime.time_hour t.0 q.1, q.2 ∙ same_lasting _ _ _ _ true refl (omega arith)))
        (λ v. ⊎_elim
        (λ v. let q : (m : ℕ) × DurMinute l m × (out ≡ lasting d (0 + m) true) = read_minute d 0 n out l k v in
        (q.0, DurTime.time_minute t.0 q.1, q.2 ∙ same_lasting _ _ _ _ true refl (omega arith)))
        (λ v. ⊎_elim
        (λ v. let q : (m : ℕ) × DurSecond l m × (out ≡ lasting d (0 + m) true) = read_second d 0 n out l k v in
        (q.0, DurTime.time_second t.0 q.1, q.2 ∙ same_lasting _ _ _ _ true refl (omega arith)))
        (λ v. absurd (omega (arith, v.1)))
        (on_case (UnitTo d 0 true out l n k) a 83 Seconds Wrong v))
        (on_case (UnitTo d 0 true out l n k) a 77 Minutes _ v))
        (on_case (UnitTo d 0 true out l n k) a 72 Hours _ u)

-- behind days nothing stands, or a time
after_days : (d : ℕ) (out : Duration) (l : List ℕ) → Ends Days d 0 false l out
    → ((l ≡ []) × (out ≡ lasting d 0 false)) ⊎ ((m : ℕ) × DurTime l m × (out ≡ lasting d m true))
unfolding next_stage weight_of
after_days d out l f = go (ahead Days d 0 false out l f)
  where
    go : Ahead Days d 0 false out l → ((l ≡ []) × (out ≡ lasting d 0 false)) ⊎ ((m : ℕ) × DurTime l m × (out ≡ lasting d m true))
    go (ended p h q) = inl (p, q)
    go (marked b k p m) =
        ⊎_elim
        (λ v. let q : (m : ℕ) × DurTime (b ∷ k) m × (out ≡ lasting d m true) = read_time_lem d out b k v in
        inr (q.0, subst (λ (w : List ℕ). DurTime w q.0) (sym p) q.1, q.2))
        (λ v. absurd (no_end _ _ _ _ _ v.2))
        (on_case (MarkTo d 0 false out b k) (upper b) 84 Time Wrong m)
    go (united a n k u) =
        ⊎_elim (λ v. absurd (omega (arith, v.1))) (λ v. absurd (omega (arith, v.1))) (on_case (UnitTo d 0 false out l n k) a 84 Time Wrong u)

-- behind P: weeks alone, days with an optional time, or a time
read_week : (n : ℕ) (out : Duration) (l k : List ℕ) → UnitTo 0 0 false out l n k 87 Weeks → DurBody l out
unfolding next_stage weight_of
read_week n out l k u =
    let p : (k ≡ []) × (out ≡ lasting (0 + n * 7) (0 + n * 0) false) = last_unit Weeks (0 + n * 7) (0 + n * 0) false out k (λ b. refl) u.2 in
    let q : lasting (n * 7) 0 false ≡ out = same_lasting _ _ _ _ false (omega arith) (omega arith) ∙ sym p.1 in
    subst (λ (o : Duration). DurBody l o) q (DurBody.week (subst (λ (z : List ℕ). Counted 87 n l z) p.0 u.0))

read_days : (n : ℕ) (out : Duration) (l k : List ℕ) → UnitTo 0 0 false out l n k 68 Days → DurBody l out
unfolding weight_of
read_days n out l k u =
    go
    (after_days n out k
    (ap (λ (a : ℕ). finish (runs (reading Days 0 0 a 0 false) k)) (let z : n ≡ 0 + n * 1 = omega arith in z)
    ∙ ap (λ (a : ℕ). finish (runs (reading Days 0 0 (0 + n * 1) a false) k)) (let z : 0 ≡ 0 + n * 0 = omega arith in z) ∙ u.2))
  where
    go : ((k ≡ []) × (out ≡ lasting n 0 false)) ⊎ ((m : ℕ) × DurTime k m × (out ≡ lasting n m true)) → DurBody l out
    go (inl p) = subst (λ (o : Duration). DurBody l o) (sym p.1) (DurBody.day (subst (λ (z : List ℕ). Counted 68 n l z) p.0 u.0))
    go (inr p) = subst (λ (o : Duration). DurBody l o) (sym p.2) (DurBody.day_time u.0 p.1)

read_body : (out : Duration) (l : List ℕ) → Ends Period 0 0 false l out → DurBody l out
unfolding next_stage weight_of
read_body out l f = go (ahead Period 0 0 false out l f)
  where
    go : Ahead Period 0 0 false out l → DurBody l out
    go (ended p h q) = absurd (omega arith)
    go (marked b k p m) =
        ⊎_elim (λ v. absurd (omega (arith, v.1)))
        (λ v. ⊎_elim (λ v. absurd (omega (arith, v.1)))
        (λ v. ⊎_elim
        (λ v. let q : (m : ℕ) × DurTime (b ∷ k) m × (out ≡ lasting 0 m true) = read_time_lem 0 out b k v in
        subst (λ (o : Duration). DurBody l o) (sym q.2) (DurBody.time (subst (λ (w : List ℕ). DurTime w q.0) (sym p) q.1)))
        (λ v. absurd (no_end _ _ _ _ _ v.2))
        (on_case (MarkTo 0 0 false out b k) (upper b) 84 Time Wrong v))
        (on_case (MarkTo 0 0 false out b k) (upper b) 68 Days _ v))
        (on_case (MarkTo 0 0 false out b k) (upper b) 87 Weeks _ m)
    go (united a n k u) =
        ⊎_elim (λ v. read_week n out l k v)
        (λ v. ⊎_elim (λ v. read_days n out l k v)
        (λ v. ⊎_elim (λ v. absurd (omega (arith, v.1))) (λ v. absurd (omega (arith, v.1))) (on_case (UnitTo 0 0 false out l n k) a 84 Time Wrong v))
        (on_case (UnitTo 0 0 false out l n k) a 68 Days _ v))
        (on_case (UnitTo 0 0 false out l n k) a 87 Weeks _ u)

-- P behind a sign, or first
read_sign : (out : Duration) (l : List ℕ) → Ends Sign 0 0 false l out → DurationGrammar (43 ∷ l) out
unfolding next_stage weight_of
read_sign out l f = go (ahead Sign 0 0 false out l f)
  where
    go : Ahead Sign 0 0 false out l → DurationGrammar (43 ∷ l) out
    go (ended p h q) = absurd (omega arith)
    go (marked b k p m) =
        ⊎_elim
        (λ v. subst (λ (w : List ℕ). DurationGrammar (43 ∷ w) out) (sym p) (DurationGrammar.signed v.0 (read_body out k v.2)))
        (λ v. absurd (no_end _ _ _ _ _ v.2))
        (on_case (MarkTo 0 0 false out b k) (upper b) 80 Period Wrong m)
    go (united a n k u) =
        ⊎_elim (λ v. absurd (omega (arith, v.1))) (λ v. absurd (omega (arith, v.1))) (on_case (UnitTo 0 0 false out l n k) a 80 Period Wrong u)

-- a byte whose capital is + is +
plus_is : (b : ℕ) → upper b ≡ 43 → 43 ≡ b
unfolding upper
plus_is b e = go (between 97 122 b) refl e
  where
    go : (t : Bool) → between 97 122 b ≡ t → cond t (b - 32) b ≡ 43 → 43 ≡ b
    go true p e = absurd (omega (arith, leb-true 97 b (and_left (leb 97 b) (leb b 122) p)))
    go false p e = sym e

pub read_grammar : (l : List ℕ) (out : Duration) → duration_text l ≡ Some out → DurationGrammar l out
unfolding duration_text blank next_stage weight_of
read_grammar l out f = go (ahead Start 0 0 false out l f)
  where
    go : Ahead Start 0 0 false out l → DurationGrammar l out
    go (ended p h q) = absurd (omega arith)
    go (marked b k p m) =
        ⊎_elim
        (λ v. subst (λ (w : List ℕ). DurationGrammar w out) (ap (λ (a : ℕ). a ∷ k) (plus_is b v.0) ∙ sym p) (read_sign out k v.2))
        (λ v. ⊎_elim
        (λ v. subst (λ (w : List ℕ). DurationGrammar w out) (sym p) (DurationGrammar.plain v.0 (read_body out k v.2)))
        (λ v. absurd (no_end _ _ _ _ _ v.2))
        (on_case (MarkTo 0 0 false out b k) (upper b) 80 Period Wrong v))
        (on_case (MarkTo 0 0 false out b k) (upper b) 43 Sign _ m)
    go (united a n k u) =
        ⊎_elim (λ v. absurd (omega (arith, v.1)))
        (λ v. ⊎_elim (λ v. absurd (omega (arith, v.1))) (λ v. absurd (omega (arith, v.1))) (on_case (UnitTo 0 0 false out l n k) a 80 Period Wrong v))
        (on_case (UnitTo 0 0 false out l n k) a 43 Sign _ u)

-- the text of a duration reads as one exactly where the grammar has it
pub duration_text_iff : (l : List ℕ) (out : Duration) → (duration_text l ≡ Some out) ↔ DurationGrammar l out
duration_text_iff l out = (λ e. read_grammar l out e, λ g. grammar_read g)

-- and is a DURATION where it is within the limit too
pub read_duration_iff : (l : List ℕ) (out : Duration) → (read_duration l ≡ Some out) ↔ (DurationGrammar l out × (duration_seconds out ≤ 315360000))
read_duration_iff l out = (
  λ e. (read_grammar l out (read_duration_in l out e).0, (read_duration_in l out e).1),
  λ p. sym (read_duration_of l out (duration_seconds out) (grammar_read p.0) refl p.1),
)
