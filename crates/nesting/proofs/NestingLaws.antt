-- The walk over the lines: by numbered lines, step by step, and by what a line does to the innermost open component.
use Prim.Native.Nat.{ℕ, suc, ◌+◌, ◌≤◌, ◌-◌}
use mathlib.Core.Path.{◌≡◌, refl, sym, ap, ◌∙◌}
use mathlib.Core.Bool.{Bool, true, false, not, ◌&&◌, ◌||◌, cond}
use mathlib.Core.List.{List, [], ◌∷◌}
use native.Mathlib.Omega.{arith}
use lib.Dec.{eqb, leb}
use lib.ListN.{length}
use borrow.Author.Tests.{not-true, leb-true, le-leb, eqb-true, eq-eqb}
use Rattle.ascii.proofs.Bools.{and_left, and_right, and_both, clash}
use Rattle.ascii.specs.Names.{same_name}
use Rattle.line.specs.Grammar.{ContentLine}
use Rattle.delimiters.specs.Delimiters.{delimiter_of}
use Rattle.delimiters.specs.Innermost.{is_calendar, is_event, is_free_busy, may_begin, nesting_step_by}
use Rattle.delimiters.specs.declared.Delimiter.{Delimiter}
use Rattle.delimiters.specs.declared.Delimiter.TheVariants.{Begins, Ends, Property, Wrong}
use Rattle.nesting.specs.Nesting.{Walk, inside, closed, broken, after_begin, outside, after_end, after_property, after_wrong, after_delimiter, walk}
use Rattle.nesting.specs.Components.{Numbered, Delimited, delimited_as, delimited_from}
use Rattle.nesting.specs.WellNested.{numbered_from, AllowedAt}
use Rattle.delimiters.specs.declared.NestingStep.{NestingStep}
use Rattle.delimiters.specs.declared.NestingStep.TheVariants.{Opens, Stays, Closes, Breaks}

-- ---- the walk and the delimiters over lines that carry their numbers

abbrev pub stepped : Walk → Numbered → Walk
stepped w x = after_delimiter (delimiter_of x.line) x.number x.line w

abbrev pub walked : Walk → List Numbered → Walk
walked w [] = w
walked w (x ∷ xs) = walked (stepped w x) xs

abbrev pub delimiters : List Numbered → List Delimited
delimiters [] = []
delimiters (x ∷ xs) = delimited_as (delimiter_of x.line) x ∷ delimiters xs

pub walk_numbered : (i : ℕ) (w : Walk) (xs : List ContentLine) → walk i w xs ≡ walked w (numbered_from i xs)
unfolding walk numbered_from
walk_numbered i w [] = refl
walk_numbered i w (x ∷ xs) = walk_numbered (suc i) (after_delimiter (delimiter_of x) i x w) xs

pub delimiters_numbered : (i : ℕ) (xs : List ContentLine) → delimited_from i xs ≡ delimiters (numbered_from i xs)
unfolding delimited_from numbered_from
delimiters_numbered i [] = refl
delimiters_numbered i (x ∷ xs) = ap (λ (l : List Delimited). delimited_as (delimiter_of x) (record { number = i; line = x }) ∷ l) (delimiters_numbered (suc i) xs)

-- ---- where a component may begin

or_not : (a b c : Bool) → ((a || not (b || c)) ≡ true) → b ≡ true → a ≡ true
or_not true b c e h = refl
or_not false true c e h = e
or_not false false c e h = clash h refl

or_not_right : (a b c : Bool) → ((a || not (b || c)) ≡ true) → c ≡ true → a ≡ true
or_not_right true b c e h = refl
or_not_right false true c e h = e
or_not_right false false true e h = e
or_not_right false false false e h = clash h refl

not_or : (a b c : Bool) → (b ≡ true → a ≡ true) → (c ≡ true → a ≡ true) → (a || not (b || c)) ≡ true
not_or true b c p q = refl
not_or false true c p q = p refl
not_or false false true p q = q refl
not_or false false false p q = refl

-- what the test says of a component that may begin, and back
pub record Begun (x : Numbered) (d k : ℕ) : Type 0 where
  pub allowed : AllowedAt d x
  pub counted : k ≤ 256

pub may_begin_allowed : (x : Numbered) (d k : ℕ) → may_begin x.line.value d k ≡ true → Begun x d k
unfolding may_begin
may_begin_allowed x d k e =
    let n = x.line.value in
    let l1 = and_left (not (is_calendar n) && leb d 8 && leb k 256) _ e in
    let l2 = and_left (not (is_calendar n) && leb d 8) _ l1 in
    let r = and_right (not (is_calendar n) && leb d 8 && leb k 256) _ e in
    record {
      allowed = record {
        no_calendar = not-true (is_calendar n) (and_left (not (is_calendar n)) _ l2);
        at_most_8 = leb-true d 8 (and_right (not (is_calendar n)) _ l2);
        event_at_2 = λ h. eqb-true d 2 (or_not (eqb d 2) (is_event n) (is_free_busy n) r h);
        free_busy_at_2 = λ h. eqb-true d 2 (or_not_right (eqb d 2) (is_event n) (is_free_busy n) r h);
      };
      counted = leb-true k 256 (and_right (not (is_calendar n) && leb d 8) _ l1);
    }

pub allowed_may_begin : (x : Numbered) (d k : ℕ) → AllowedAt d x → k ≤ 256 → may_begin x.line.value d k ≡ true
unfolding may_begin
allowed_may_begin x d k s h =
    and_both
    (and_both (and_both (ap not s.no_calendar) (le-leb d 8 s.at_most_8)) (le-leb k 256 h))
    (not_or (eqb d 2) _ _ (λ e. eq-eqb d 2 (s.event_at_2 e)) (λ e. eq-eqb d 2 (s.free_busy_at_2 e)))

-- ---- one step inside a component

pub step_begin : (o : List (List ℕ)) (k : ℕ) (b : Numbered) → delimiter_of b.line ≡ Begins → AllowedAt (length o + 1) b → k + 1 ≤ 256
    → stepped (inside o k) b ≡ inside (b.line.value ∷ o) (k + 1)
unfolding after_begin
step_begin o k b m s h = rw (m, allowed_may_begin b (length o + 1) (k + 1) s h)

pub step_end : (n : List ℕ) (o : List (List ℕ)) (k : ℕ) (e : Numbered) → delimiter_of e.line ≡ Ends → same_name e.line.value n ≡ true
    → stepped (inside (n ∷ o) k) e ≡ outside o k
unfolding after_end
step_end n o k e m s = rw (m, s)

pub step_property : (o : List (List ℕ)) (k : ℕ) (x : Numbered) → delimiter_of x.line ≡ Property → stepped (inside o k) x ≡ inside o k
unfolding after_property
step_property o k x m = rw m

-- ---- broken stays broken, and nothing comes after the end

after_broken : (m : Delimiter) (i j : ℕ) (x : ContentLine) → after_delimiter m i x (broken j) ≡ broken j
unfolding after_begin after_end after_property after_wrong
after_broken Begins i j x = refl
after_broken Ends i j x = refl
after_broken Property i j x = refl
after_broken Wrong i j x = refl

pub stays_broken : (j : ℕ) (xs : List Numbered) → walked (broken j) xs ≡ broken j
stays_broken j [] = refl
stays_broken j (x ∷ xs) = ap (λ (w : Walk). walked w xs) (after_broken (delimiter_of x.line) x.number j x.line) ∙ stays_broken j xs

-- a walk that breaks at a line does not come to its end
pub broken_step : {A : Type 0} (w : Walk) (x : Numbered) (xs : List Numbered) → stepped w x ≡ broken x.number → walked w (x ∷ xs) ≡ closed → A
broken_step w x xs e c =
    let q : broken x.number ≡ closed = sym (stays_broken x.number xs) ∙ ap (λ (v : Walk). walked v xs) (sym e) ∙ c in
    let z : ◌≡◌ {A = ℕ} 0 1 = cc in
    absurd (omega arith)

pub after_closed : (m : Delimiter) (i : ℕ) (x : ContentLine) → after_delimiter m i x closed ≡ broken i
unfolding after_begin after_end after_property after_wrong
after_closed Begins i x = refl
after_closed Ends i x = refl
after_closed Property i x = refl
after_closed Wrong i x = refl

pub closed_last : (xs : List Numbered) → walked closed xs ≡ closed → xs ≡ []
closed_last [] e = refl
closed_last (x ∷ xs) e = broken_step closed x xs (after_closed (delimiter_of x.line) x.number x.line) e

-- ---- what a line does to the innermost open component is what it does to the walk

abbrev pub after_nesting_step : NestingStep → ℕ → List ℕ → List ℕ → List (List ℕ) → ℕ → Walk
after_nesting_step Opens i v n o k = inside (v ∷ n ∷ o) (k + 1)
after_nesting_step Stays i v n o k = inside (n ∷ o) k
after_nesting_step Closes i v n o k = outside o k
after_nesting_step Breaks i v n o k = broken i

pub after_step : (m : Delimiter) (x : ContentLine) (i : ℕ) (n : List ℕ) (o : List (List ℕ)) (k : ℕ)
    → after_delimiter m i x (inside (n ∷ o) k) ≡ after_nesting_step (nesting_step_by m x.value n (length (n ∷ o) + 1) (k + 1)) i x.value n o k
unfolding nesting_step_by after_begin after_end after_property after_wrong
after_step Begins x i n o k = go (may_begin x.value (length (n ∷ o) + 1) (k + 1))
  where
    go : (t : Bool) → cond t (inside (x.value ∷ n ∷ o) (k + 1)) (broken i) ≡ after_nesting_step (cond t Opens Breaks) i x.value n o k
    go true = refl
    go false = refl
after_step Ends x i n o k = go (same_name x.value n)
  where
    go : (t : Bool) → cond t (outside o k) (broken i) ≡ after_nesting_step (cond t Closes Breaks) i x.value n o k
    go true = refl
    go false = refl
after_step Property x i n o k = refl
after_step Wrong x i n o k = refl

-- where one more may begin there is room for it
pub record Room (left count : ℕ) : Type 0 where
  pub some : 1 ≤ left
  pub few : count ≤ 256

abbrev is_opens : NestingStep → Bool
is_opens Opens = true
is_opens Stays = false
is_opens Closes = false
is_opens Breaks = false

cond_opens : (t : Bool) (m : NestingStep) → is_opens m ≡ false → is_opens (cond t m Breaks) ≡ false
cond_opens true m e = e
cond_opens false m e = refl

opens_may : (m : Delimiter) (v n : List ℕ) (d k : ℕ) → is_opens (nesting_step_by m v n d k) ≡ true → may_begin v d k ≡ true
unfolding nesting_step_by
opens_may Begins v n d k e = go (may_begin v d k) e
  where
    go : (t : Bool) → is_opens (cond t Opens Breaks) ≡ true → t ≡ true
    go true h = refl
    go false h = h
opens_may Ends v n d k e = clash e (cond_opens (same_name v n) Closes refl)
opens_may Property v n d k e = clash e refl
opens_may Wrong v n d k e = clash e refl

pub opens_room : (m : Delimiter) (x : ContentLine) (n : List ℕ) (left k : ℕ) → nesting_step_by m x.value n (10 - left) k ≡ Opens → Room left k
opens_room m x n left k e =
    let b = may_begin_allowed (record { number = 0; line = x }) (10 - left) k (opens_may m x.value n (10 - left) k (ap is_opens e)) in
    record { some = omega (arith, b.allowed.at_most_8); few = b.counted }
