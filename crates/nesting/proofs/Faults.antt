-- The line that a fault of nesting names: broken stays broken, and lines whose walk is not broken can be continued by the
-- END lines of what is open.
use Prim.Native.Nat.{ℕ, suc, ◌+◌}
use mathlib.Core.Path.{◌≡◌, refl, sym, ap, ◌∙◌}
use mathlib.Core.Bool.{Bool, true, false, cond, ◌&&◌}
use mathlib.Core.Logic.{◌↔◌}
use mathlib.Core.List.{List, [], ◌∷◌, ◌++◌}
use native.Mathlib.Omega.{arith}
use lib.ListN.{length}
use Rattle.ascii.specs.Names.{same_name, is_name}
use Rattle.ascii.specs.Bytes.{upper, is_name_byte, is_letter, is_digit}
use Rattle.ascii.specs.Words.{ascii}
use Rattle.ascii.proofs.Bools.{and_left, and_right, and_both, clash}
use Rattle.ascii.proofs.Names.{same_name_iff}
use Rattle.line.specs.Grammar.{ContentLine, content_line}
use Rattle.line.specs.WellFormed.{all_good, bad_line}
use Rattle.delimiters.specs.Delimiters.{delimiter_of, no_parameters}
use Rattle.delimiters.specs.Innermost.{is_calendar, may_begin}
use Rattle.delimiters.specs.declared.Delimiter.{Delimiter}
use Rattle.delimiters.specs.declared.Delimiter.TheVariants.{Begins, Ends, Property, Wrong}
use Rattle.nesting.specs.Nesting.{Walk, start, inside, closed, broken, after_begin, outside, after_end, after_property, after_wrong, after_delimiter, walk, outcome, nesting_of}
use Rattle.nesting.specs.WellNested.{numbered_from}
use Rattle.nesting.specs.Faults.{GoesOn, BreaksAt, StopsAt, FaultAt, breaks, stops}
use Rattle.nesting.proofs.NestingLaws.{walk_numbered, stays_broken, step_end}

-- ---- what is open has names

abbrev all_names : List (List ℕ) → Bool
all_names [] = true
all_names (n ∷ o) = is_name n && all_names o

-- a walk as it comes about: inside, something is open, and each open component has a name
abbrev sound : Walk → Bool
sound start = true
sound (inside [] k) = false
sound (inside (n ∷ o) k) = is_name n && all_names o
sound closed = true
sound (broken j) = true

abbrev is_begins : Delimiter → Bool
is_begins Begins = true
is_begins Ends = false
is_begins Property = false
is_begins Wrong = false

begins_named : (a b c : Bool) → is_begins (cond a (cond c Begins Wrong) (cond b (cond c Ends Wrong) Property)) ≡ true → c ≡ true
begins_named a b true e = refl
begins_named true b false e = e
begins_named false true false e = e
begins_named false false false e = e

begin_name : (x : ContentLine) → delimiter_of x ≡ Begins → is_name x.value ≡ true
unfolding delimiter_of
begin_name x e =
    and_right (no_parameters x.parameters) _
    (begins_named (same_name x.name (ascii "BEGIN")) (same_name x.name (ascii "END")) (no_parameters x.parameters && is_name x.value) (ap is_begins e))

sound_cond : (t : Bool) (v w : Walk) → sound v ≡ true → sound w ≡ true → sound (cond t v w) ≡ true
sound_cond true v w p q = p
sound_cond false v w p q = q

sound_begin : (i : ℕ) (n : List ℕ) (w : Walk) → is_name n ≡ true → sound w ≡ true → sound (after_begin i n w) ≡ true
unfolding after_begin
sound_begin i n start h s = sound_cond (is_calendar n) (inside (n ∷ []) 1) (broken i) (and_both h refl) refl
sound_begin i n (inside [] k) h s = clash s refl
sound_begin i n (inside (m ∷ o) k) h s =
    sound_cond (may_begin n (length (m ∷ o) + 1) (k + 1)) (inside (n ∷ m ∷ o) (k + 1)) (broken i) (and_both h s) refl
sound_begin i n closed h s = refl
sound_begin i n (broken j) h s = refl

sound_outside : (o : List (List ℕ)) (k : ℕ) → all_names o ≡ true → sound (outside o k) ≡ true
sound_outside [] k h = refl
sound_outside (n ∷ o) k h = h

sound_end : (i : ℕ) (n : List ℕ) (w : Walk) → sound w ≡ true → sound (after_end i n w) ≡ true
unfolding after_end
sound_end i n start s = refl
sound_end i n (inside [] k) s = refl
sound_end i n (inside (m ∷ o) k) s =
    sound_cond (same_name n m) (outside o k) (broken i) (sound_outside o k (and_right (is_name m) (all_names o) s)) refl
sound_end i n closed s = refl
sound_end i n (broken j) s = refl

sound_property : (i : ℕ) (w : Walk) → sound w ≡ true → sound (after_property i w) ≡ true
unfolding after_property
sound_property i start s = refl
sound_property i (inside o k) s = s
sound_property i closed s = refl
sound_property i (broken j) s = refl

sound_wrong : (i : ℕ) (w : Walk) → sound (after_wrong i w) ≡ true
unfolding after_wrong
sound_wrong i start = refl
sound_wrong i (inside o k) = refl
sound_wrong i closed = refl
sound_wrong i (broken j) = refl

sound_delimiter : (m : Delimiter) (i : ℕ) (x : ContentLine) (w : Walk) → delimiter_of x ≡ m → sound w ≡ true → sound (after_delimiter m i x w) ≡ true
sound_delimiter Begins i x w h s = sound_begin i x.value w (begin_name x h) s
sound_delimiter Ends i x w h s = sound_end i x.value w s
sound_delimiter Property i x w h s = sound_property i w s
sound_delimiter Wrong i x w h s = sound_wrong i w

sound_walk : (i : ℕ) (w : Walk) (xs : List ContentLine) → sound w ≡ true → sound (walk i w xs) ≡ true
unfolding walk
sound_walk i w [] s = s
sound_walk i w (x ∷ xs) s = sound_walk (suc i) (after_delimiter (delimiter_of x) i x w) xs (sound_delimiter (delimiter_of x) i x w refl s)

-- ---- the END lines of what is open close the walk

abbrev end_line : List ℕ → ContentLine
end_line n = content_line (ascii "END") [] n

abbrev closings : List (List ℕ) → List ContentLine
closings [] = []
closings (n ∷ o) = end_line n ∷ closings o

same_self : (n : List ℕ) → same_name n n ≡ true
same_self n = (same_name_iff n n).1 refl

end_delimited : (n : List ℕ) → is_name n ≡ true → delimiter_of (end_line n) ≡ Ends
unfolding delimiter_of same_name upper
end_delimited n h = rw h

closes : (i : ℕ) (n : List ℕ) (o : List (List ℕ)) (k : ℕ) → (is_name n && all_names o) ≡ true → walk i (inside (n ∷ o) k) (closings (n ∷ o)) ≡ closed
unfolding walk
closes i n [] k s = step_end n [] k (record { number = i; line = end_line n }) (end_delimited n (and_left (is_name n) true s)) (same_self n)
closes i n (m ∷ o) k s =
    ap (λ (v : Walk). walk (suc i) v (closings (m ∷ o)))
    (step_end n (m ∷ o) k (record { number = i; line = end_line n }) (end_delimited n (and_left (is_name n) (all_names (m ∷ o)) s)) (same_self n))
    ∙ closes (suc i) m o k (and_right (is_name n) (all_names (m ∷ o)) s)

-- a calendar with nothing in it
abbrev empty_calendar : List ContentLine
empty_calendar = content_line (ascii "BEGIN") [] (ascii "VCALENDAR") ∷ end_line (ascii "VCALENDAR") ∷ []

empty_closes : (i : ℕ) → walk i start empty_calendar ≡ closed
unfolding walk delimiter_of same_name upper is_name is_name_byte is_letter is_digit after_begin after_end is_calendar
empty_closes i = refl

abbrev is_broken : Walk → Bool
is_broken start = false
is_broken (inside o k) = false
is_broken closed = false
is_broken (broken j) = true

record Continued (w : Walk) : Type 0 where
  pub more : List ContentLine
  pub closes : (i : ℕ) → walk i w more ≡ closed

continued : (w : Walk) → sound w ≡ true → is_broken w ≡ false → Continued w
unfolding walk
continued start s b = record { more = empty_calendar; closes = empty_closes }
continued (inside [] k) s b = clash s refl
continued (inside (n ∷ o) k) s b = record { more = closings (n ∷ o); closes = λ i. closes i n o k s }
continued closed s b = record { more = []; closes = λ i. refl }
continued (broken j) s b = clash refl b

-- ---- continuations

walk_append : (i : ℕ) (w : Walk) (p r : List ContentLine) → walk i w (p ++ r) ≡ walk (length p + i) (walk i w p) r
unfolding walk
walk_append i w [] r = let z : i ≡ 0 + i = omega arith in ap (λ (j : ℕ). walk j w r) z
walk_append i w (x ∷ p) r =
    let z : length p + suc i ≡ suc (length p) + i = omega arith in
    walk_append (suc i) (after_delimiter (delimiter_of x) i x w) p r ∙ ap (λ (j : ℕ). walk j (walk (suc i) (after_delimiter (delimiter_of x) i x w) p) r) z

walk_broken : (i j : ℕ) (xs : List ContentLine) → walk i (broken j) xs ≡ broken j
walk_broken i j xs = walk_numbered i (broken j) xs ∙ stays_broken j (numbered_from i xs)

-- lines whose walk is not broken go on
pub unbroken_goes_on : (p : List ContentLine) → is_broken (walk 1 start p) ≡ false → GoesOn p
unfolding nesting_of outcome
unbroken_goes_on p b =
    let c = continued (walk 1 start p) (sound_walk 1 start p refl) b in
    record {
      more = c.more;
      good = ap (outcome (length (p ++ c.more) + 1)) (walk_append 1 start p c.more ∙ c.closes (length p + 1));
    }

-- lines whose walk is broken do not
pub broken_goes_not_on : (p : List ContentLine) (j : ℕ) → walk 1 start p ≡ broken j → GoesOn p → ⊥
unfolding nesting_of outcome
broken_goes_not_on p j e g =
    let w : walk 1 start (p ++ g.more) ≡ broken j =
    walk_append 1 start p g.more ∙ ap (λ (v : Walk). walk (length p + 1) v g.more) e ∙ walk_broken (length p + 1) j g.more in
    let q : bad_line j ≡ all_good = sym (ap (outcome (length (p ++ g.more) + 1)) w) ∙ g.good in
    let z : ◌≡◌ {A = ℕ} 0 1 = cc in
    omega arith

-- ---- the line that breaks

record Broken (w : Walk) : Type 0 where
  pub number : ℕ
  pub is : w ≡ broken number

is_broken_lem : (w : Walk) → is_broken w ≡ true → Broken w
is_broken_lem start e = clash e refl
is_broken_lem (inside o k) e = clash e refl
is_broken_lem closed e = clash e refl
is_broken_lem (broken j) e = record { number = j; is = refl }

cond_broken : (t : Bool) (v : Walk) (i j : ℕ) → is_broken v ≡ false → cond t v (broken i) ≡ broken j → j ≡ i
cond_broken true v i j b e = clash (ap is_broken e) b
cond_broken false v i j b e = cc

outside_unbroken : (o : List (List ℕ)) (k : ℕ) → is_broken (outside o k) ≡ false
outside_unbroken [] k = refl
outside_unbroken (n ∷ o) k = refl

-- a step breaks with its own number
begin_breaks : (i j : ℕ) (n : List ℕ) (w : Walk) → is_broken w ≡ false → after_begin i n w ≡ broken j → j ≡ i
unfolding after_begin
begin_breaks i j n start b e = cond_broken (is_calendar n) (inside (n ∷ []) 1) i j refl e
begin_breaks i j n (inside o k) b e = cond_broken (may_begin n (length o + 1) (k + 1)) (inside (n ∷ o) (k + 1)) i j refl e
begin_breaks i j n closed b e = cc
begin_breaks i j n (broken h) b e = clash refl b

end_breaks : (i j : ℕ) (n : List ℕ) (w : Walk) → is_broken w ≡ false → after_end i n w ≡ broken j → j ≡ i
unfolding after_end
end_breaks i j n start b e = cc
end_breaks i j n (inside [] k) b e = cc
end_breaks i j n (inside (m ∷ o) k) b e = cond_broken (same_name n m) (outside o k) i j (outside_unbroken o k) e
end_breaks i j n closed b e = cc
end_breaks i j n (broken h) b e = clash refl b

property_breaks : (i j : ℕ) (w : Walk) → is_broken w ≡ false → after_property i w ≡ broken j → j ≡ i
unfolding after_property
property_breaks i j start b e = cc
property_breaks i j (inside o k) b e = clash (ap is_broken e) refl
property_breaks i j closed b e = cc
property_breaks i j (broken h) b e = clash refl b

wrong_breaks : (i j : ℕ) (w : Walk) → is_broken w ≡ false → after_wrong i w ≡ broken j → j ≡ i
unfolding after_wrong
wrong_breaks i j start b e = cc
wrong_breaks i j (inside o k) b e = cc
wrong_breaks i j closed b e = cc
wrong_breaks i j (broken h) b e = clash refl b

step_breaks : (m : Delimiter) (i j : ℕ) (x : ContentLine) (w : Walk) → is_broken w ≡ false → after_delimiter m i x w ≡ broken j → j ≡ i
step_breaks Begins i j x w b e = begin_breaks i j x.value w b e
step_breaks Ends i j x w b e = end_breaks i j x.value w b e
step_breaks Property i j x w b e = property_breaks i j w b e
step_breaks Wrong i j x w b e = wrong_breaks i j w b e

-- a walk that ends broken was not broken up to one line, and was after it
record Split (i : ℕ) (w : Walk) (xs : List ContentLine) (j : ℕ) : Type 0 where
  pub before : List ContentLine
  pub line : ContentLine
  pub behind : List ContentLine
  pub file : xs ≡ before ++ (line ∷ behind)
  pub number : j ≡ length before + i
  pub unbroken : is_broken (walk i w before) ≡ false
  pub breaks : walk i w (before ++ (line ∷ [])) ≡ broken j

split_here : (i j : ℕ) (w : Walk) (x : ContentLine) (xs : List ContentLine) → is_broken w ≡ false → Broken (after_delimiter (delimiter_of x) i x w)
    → walk i w (x ∷ xs) ≡ broken j → Split i w (x ∷ xs) j
unfolding walk
split_here i j w x xs b q e =
    let s : broken q.number ≡ broken j = sym (walk_broken (suc i) q.number xs) ∙ ap (λ (v : Walk). walk (suc i) v xs) (sym q.is) ∙ e in
    record {
      before = [];
      line = x;
      behind = xs;
      file = refl;
      number = omega (arith, step_breaks (delimiter_of x) i j x w b (q.is ∙ s));
      unbroken = b;
      breaks = q.is ∙ s;
    }

split_later : (i j : ℕ) (w : Walk) (x : ContentLine) (xs : List ContentLine) → Split (suc i) (after_delimiter (delimiter_of x) i x w) xs j → Split i w (x ∷ xs) j
unfolding walk
split_later i j w x xs s = record {
  before = x ∷ s.before;
  line = s.line;
  behind = s.behind;
  file = ap (λ (l : List ContentLine). x ∷ l) s.file;
  number = omega (arith, s.number);
  unbroken = s.unbroken;
  breaks = s.breaks;
}

split_by : (i j : ℕ) (w : Walk) (x : ContentLine) (xs : List ContentLine) (t : Bool) → is_broken (after_delimiter (delimiter_of x) i x w) ≡ t → is_broken w ≡ false
    → walk i w (x ∷ xs) ≡ broken j → (is_broken (after_delimiter (delimiter_of x) i x w) ≡ false → Split (suc i) (after_delimiter (delimiter_of x) i x w) xs j)
    → Split i w (x ∷ xs) j
split_by i j w x xs true q b e ih = split_here i j w x xs b (is_broken_lem (after_delimiter (delimiter_of x) i x w) q) e
split_by i j w x xs false q b e ih = split_later i j w x xs (ih q)

split : (i j : ℕ) (w : Walk) (xs : List ContentLine) → is_broken w ≡ false → walk i w xs ≡ broken j → Split i w xs j
unfolding walk
split i j w [] b e = clash (ap is_broken e) b
split i j w (x ∷ xs) b e =
    split_by i j w x xs (is_broken (after_delimiter (delimiter_of x) i x w)) refl b e (λ q. split (suc i) j (after_delimiter (delimiter_of x) i x w) xs q e)

-- ---- from the walk's outcome to the line, and back

-- the walk came to the last line unbroken, and what is open is missing its END lines
stopped : (xs : List ContentLine) (k : ℕ) → is_broken (walk 1 start xs) ≡ false → nesting_of xs ≡ bad_line (length xs + 1) → nesting_of xs ≡ bad_line k
    → FaultAt xs k
stopped xs k b e q =
    stops (record {
      number = cc;
      goes_on = unbroken_goes_on xs b;
      unfinished = λ g. let z : ◌≡◌ {A = ℕ} 0 1 = cc in omega arith;
    })

fault_of_lem : (xs : List ContentLine) (k : ℕ) (w : Walk) → walk 1 start xs ≡ w → nesting_of xs ≡ outcome (length xs + 1) w → nesting_of xs ≡ bad_line k
    → FaultAt xs k
unfolding outcome
fault_of_lem xs k start e h q = stopped xs k (ap is_broken e) h q
fault_of_lem xs k (inside o c) e h q = stopped xs k (ap is_broken e) h q
fault_of_lem xs k closed e h q = let z : ◌≡◌ {A = ℕ} 0 1 = cc in absurd (omega arith)
fault_of_lem xs k (broken j) e h q =
    let n : j ≡ k = cc in
    let s = split 1 j start xs refl e in
    breaks (record {
      before = s.before;
      line = s.line;
      behind = s.behind;
      file = s.file;
      number = sym n ∙ s.number;
      goes_on = unbroken_goes_on s.before s.unbroken;
      stuck = broken_goes_not_on (s.before ++ (s.line ∷ [])) j s.breaks;
    })

unbroken_of : (p : List ContentLine) (t : Bool) → is_broken (walk 1 start p) ≡ t → GoesOn p → is_broken (walk 1 start p) ≡ false
unbroken_of p true e g = let b = is_broken_lem (walk 1 start p) e in absurd (broken_goes_not_on p b.number b.is g)
unbroken_of p false e g = e

broken_of : (p : List ContentLine) (t : Bool) → is_broken (walk 1 start p) ≡ t → (GoesOn p → ⊥) → Broken (walk 1 start p)
broken_of p true e g = is_broken_lem (walk 1 start p) e
broken_of p false e g = absurd (g (unbroken_goes_on p e))

break_walk : (p : List ContentLine) (x : ContentLine) (r : List ContentLine) (v : Walk) → walk 1 start p ≡ v → is_broken v ≡ false
    → Broken (walk 1 start (p ++ (x ∷ []))) → walk 1 start (p ++ (x ∷ r)) ≡ broken (length p + 1)
unfolding walk
break_walk p x r v e u b =
    let s : after_delimiter (delimiter_of x) (length p + 1) x v ≡ broken b.number =
    ap (λ (w : Walk). walk (length p + 1) w (x ∷ [])) (sym e) ∙ sym (walk_append 1 start p (x ∷ [])) ∙ b.is in
    let n : b.number ≡ length p + 1 = step_breaks (delimiter_of x) (length p + 1) b.number x v u s in
    walk_append 1 start p (x ∷ r)
    ∙ ap (λ (w : Walk). walk (length p + 1) w (x ∷ r)) e
    ∙ ap (λ (w : Walk). walk (suc (length p + 1)) w r) s
    ∙ walk_broken (suc (length p + 1)) b.number r
    ∙ ap broken n

bad_of_break : (xs : List ContentLine) (k : ℕ) → BreaksAt xs k → nesting_of xs ≡ bad_line k
unfolding nesting_of outcome
bad_of_break xs k f =
    let p = f.before ++ (f.line ∷ []) in
    let u = unbroken_of f.before (is_broken (walk 1 start f.before)) refl f.goes_on in
    let b = broken_of p (is_broken (walk 1 start p)) refl f.stuck in
    let w : walk 1 start xs ≡ broken (length f.before + 1) =
    ap (walk 1 start) f.file ∙ break_walk f.before f.line f.behind (walk 1 start f.before) refl u b in
    ap (outcome (length xs + 1)) w ∙ ap bad_line (sym f.number)

stop_by : (n : ℕ) (w : Walk) → is_broken w ≡ false → (outcome n w ≡ all_good → ⊥) → outcome n w ≡ bad_line n
unfolding outcome
stop_by n start b u = refl
stop_by n (inside o k) b u = refl
stop_by n closed b u = absurd (u refl)
stop_by n (broken j) b u = clash refl b

bad_of_stop : (xs : List ContentLine) (k : ℕ) → StopsAt xs k → nesting_of xs ≡ bad_line k
unfolding nesting_of
bad_of_stop xs k f =
    let u = unbroken_of xs (is_broken (walk 1 start xs)) refl f.goes_on in
    stop_by (length xs + 1) (walk 1 start xs) u f.unfinished ∙ ap bad_line (sym f.number)

bad_of_fault : (xs : List ContentLine) (k : ℕ) → FaultAt xs k → nesting_of xs ≡ bad_line k
bad_of_fault xs k (breaks f) = bad_of_break xs k f
bad_of_fault xs k (stops f) = bad_of_stop xs k f

fault_of_bad : (xs : List ContentLine) (k : ℕ) → nesting_of xs ≡ bad_line k → FaultAt xs k
unfolding nesting_of
fault_of_bad xs k e = fault_of_lem xs k (walk 1 start xs) refl refl e

-- THE THEOREM: the fault names line k exactly where k is as change request R-1 says
pub fault_iff : (xs : List ContentLine) (k : ℕ) → (nesting_of xs ≡ bad_line k) ↔ FaultAt xs k
fault_iff xs k = (fault_of_bad xs k, bad_of_fault xs k)
