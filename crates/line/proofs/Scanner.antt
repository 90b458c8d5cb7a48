-- Laws of the scanner: the step that each byte makes from each state, the loops of the code,
-- which go from state to state, and that a well formed line stands in a file as it is.
use Prim.Native.Nat.{ℕ, ◌+◌, ◌≤◌, ◌<◌}
use mathlib.Core.Path.{◌≡◌, refl, sym, ap, ◌∙◌, subst}
use mathlib.Core.Bool.{Bool, true, false, cond, not, ◌&&◌, ◌||◌}
use mathlib.Core.List.{List, [], ◌∷◌, ◌++◌}
use native.Mathlib.Omega.{arith}
use lib.Dec.{eqb, leb}
use lib.ListN.{length, drop, get_or}
use borrow.Author.Tests.{le-leb, lt-leb, not-false, eqb-true, ne_eqb}
use Rattle.ascii.specs.Bytes.{is_name_byte, is_control, is_letter, is_digit}
use Rattle.ascii.specs.Names.{is_name, every}
use Rattle.ascii.proofs.Lists.{drop_next, drop_end}
use Rattle.ascii.proofs.Bools.{and_left, and_right, clash, and_both, apart}
use Rattle.text.specs.Unfolding.{is_blank}
use Rattle.text.specs.Lines.{every_line, holds_no_cr, no_leading_blank, is_whole_line}
use Rattle.line.specs.declared.scan.State.{State}
use Rattle.line.specs.declared.scan.State.TheVariants.{Start, Name, ParameterStart, ParameterName, ValueStart, Unquoted, Quoted, AfterQuoted, Value, Wrong}
use Rattle.line.specs.Scanner.{after_value, step, is_ending, scan, is_well_formed}

-- ---- one step

-- one byte read
pub scan_step : (q : State) (b : ℕ) {p : State} → step q b ≡ p → (r : List ℕ) → scan q (b ∷ r) ≡ scan p r
unfolding scan
scan_step q b e r = ap (λ (x : State). scan x r) e

-- in a state that a class of bytes does not leave, such bytes change nothing
pub scan_stays : (q : State) (f : ℕ → Bool) → ((b : ℕ) → f b ≡ true → step q b ≡ q) → (s r : List ℕ) → every f s ≡ true
    → scan q (s ++ r) ≡ scan q r
scan_stays q f k [] r e = refl
scan_stays q f k (b ∷ s) r e = scan_step _ _ (k b (and_left (f b) _ e)) (s ++ r) ∙ scan_stays q f k s r (and_right (f b) _ e)

pub or_none : (a b : Bool) → not (a || b) ≡ true → (a ≡ false) × (b ≡ false)
or_none true b e = clash e refl
or_none false true e = clash e refl
or_none false false e = (refl, refl)

pub name_stays : (b : ℕ) → is_name_byte b ≡ true → step Name b ≡ Name
unfolding step
name_stays b e = rw e

pub parameter_name_stays : (b : ℕ) → is_name_byte b ≡ true → step ParameterName b ≡ ParameterName
unfolding step
parameter_name_stays b e = rw e

-- the three bytes that may follow a parameter value, with the state that each leads to
pub data Ends : ℕ → State → Type 0 where
  at_comma : Ends 44 ValueStart
  at_semicolon : Ends 59 ParameterStart
  at_colon : Ends 58 Value

pub ends_start : {d : ℕ} {q : State} → Ends d q → step ValueStart d ≡ q
unfolding step after_value
ends_start at_comma = refl
ends_start at_semicolon = refl
ends_start at_colon = refl

pub ends_unquoted : {d : ℕ} {q : State} → Ends d q → step Unquoted d ≡ q
unfolding step after_value
ends_unquoted at_comma = refl
ends_unquoted at_semicolon = refl
ends_unquoted at_colon = refl

pub ends_quoted : {d : ℕ} {q : State} → Ends d q → step AfterQuoted d ≡ q
unfolding step after_value
ends_quoted at_comma = refl
ends_quoted at_semicolon = refl
ends_quoted at_colon = refl

pub quote_opens : step ValueStart 34 ≡ Quoted
unfolding step
quote_opens = refl

pub quote_closes : step Quoted 34 ≡ AfterQuoted
unfolding step
quote_closes = refl

pub starts_name : (b : ℕ) → is_name_byte b ≡ true → step Start b ≡ Name
unfolding step
starts_name b e = rw e

pub starts_parameter_name : (b : ℕ) → is_name_byte b ≡ true → step ParameterStart b ≡ ParameterName
unfolding step
starts_parameter_name b e = rw e

-- a name, from a state q that waits for it to the state p inside it
pub scan_name : (q p : State) → ((b : ℕ) → is_name_byte b ≡ true → step q b ≡ p) → ((b : ℕ) → is_name_byte b ≡ true → step p b ≡ p)
    → (n r : List ℕ) → is_name n ≡ true → scan q (n ++ r) ≡ scan p r
unfolding is_name
scan_name q p h k [] r e = clash e refl
scan_name q p h k (b ∷ n) r e =
    scan_step _ _ (h b (and_left (is_name_byte b) _ e)) (n ++ r) ∙ scan_stays p is_name_byte k n r (and_right (is_name_byte b) _ e)

pub semicolon_ends : step Name 59 ≡ ParameterStart
unfolding step is_name_byte is_letter is_digit
semicolon_ends = refl

pub colon_ends : step Name 58 ≡ Value
unfolding step is_name_byte is_letter is_digit
colon_ends = refl

pub equals_ends : step ParameterName 61 ≡ ValueStart
unfolding step is_name_byte is_letter is_digit
equals_ends = refl

pub value_ends : scan Value [] ≡ true
unfolding scan is_ending
value_ends = refl

pub wrong_stays : (s : List ℕ) → scan Wrong s ≡ false
unfolding scan is_ending step
wrong_stays [] = refl
wrong_stays (b ∷ s) = wrong_stays s

-- ---- the loops of the code

pub well_formed_long : (l : List ℕ) → 1024 < length l → is_well_formed l ≡ false
unfolding is_well_formed
well_formed_long l h = ap (λ (t : Bool). t && scan Start l) (lt-leb (length l) 1024 h)

pub well_formed_start : (l : List ℕ) → length l ≤ 1024 → scan Start l ≡ is_well_formed l
unfolding is_well_formed
well_formed_start l h = sym (ap (λ (t : Bool). t && scan Start l) (le-leb (length l) 1024 h))

pub scan_next : (q : State) (l : List ℕ) (i : ℕ) → i < length l → scan (step q (get_or l i 0)) (drop (i + 1) l) ≡ scan q (drop i l)
unfolding scan
scan_next q l i h = rw (drop_next l i h)

pub scan_end : (q : State) (l : List ℕ) (i : ℕ) → length l ≤ i → scan q (drop i l) ≡ is_ending q
unfolding scan
scan_end q l i h = rw (drop_end l i h)

-- the scanner decides in state p from i on as it does in state q from a on
abbrev pub Leads : List ℕ → State → ℕ → State → ℕ → Type 0
Leads l q a p i = (a ≤ i) × (scan p (drop i l) ≡ scan q (drop a l))

pub leads_none : (l : List ℕ) (q : State) (a : ℕ) → Leads l q a q a
leads_none l q a = (omega arith, refl)

pub leads_on : (l : List ℕ) (q p s : State) (a i k : ℕ) → Leads l q a p i → Leads l p i s k → Leads l q a s k
leads_on l q p s a i k v w = (omega (arith, v.0, w.0), w.1 ∙ v.1)

pub leads_in : (l : List ℕ) {p q : State} (s : State) (a i : ℕ) → p ≡ q → Leads l q a s i → Leads l p a s i
leads_in l s a i e w = subst (λ (x : State). Leads l x a s i) (sym e) w

-- one step
leads_step : (l : List ℕ) (q p : State) (a : ℕ) → a < length l → step q (get_or l a 0) ≡ p → Leads l q a p (a + 1)
leads_step l q p a h e = (omega arith, ap (λ (s : State). scan s (drop (a + 1) l)) (sym e) ∙ scan_next q l a h)

-- one byte more of a class f that leaves the state as it is
pub leads_next : (q : State) (f : ℕ → Bool) → ((b : ℕ) → f b ≡ true → step q b ≡ q) → (l : List ℕ) (a i : ℕ) (t : Bool) → i < length l
    → t ≡ f (get_or l i 0) → not t ≡ false → Leads l q a q i → Leads l q a q (i + 1)
leads_next q f k l a i t h e p w = leads_on l q q q a i (i + 1) w (leads_step l q q i h (k _ (sym e ∙ not-false t p)))

-- the step that a byte known by its number makes
pub leads_byte : (l : List ℕ) (q p : State) (a n : ℕ) → a < length l → get_or l a 0 ≡ n → step q n ≡ p → Leads l q a p (a + 1)
leads_byte l q p a n h e k = leads_step l q p a h (ap (λ (b : ℕ). step q b) e ∙ k)

-- one step, and what it leads to
pub leads_after : (l : List ℕ) (q p s : State) (a k : ℕ) → a < length l → p ≡ step q (get_or l a 0) → Leads l p (a + 1) s k → Leads l q a s k
leads_after l q p s a k h e w = leads_on l q p s a (a + 1) k (leads_step l q p a h (sym e)) w

-- a name byte, and the name bytes behind it
pub leads_name : (l : List ℕ) (a i : ℕ) (t : Bool) → a < length l → t ≡ is_name_byte (get_or l a 0) → not t ≡ false
    → Leads l ParameterName (a + 1) ParameterName i → Leads l ParameterStart a ParameterName i
leads_name l a i t h e p w = leads_after l ParameterStart ParameterName ParameterName a i h (sym (starts_parameter_name _ (sym e ∙ not-false t p))) w

pub no_name : (b : ℕ) → is_name_byte b ≡ false → step Start b ≡ Wrong
unfolding step
no_name b e = rw e

-- a colon behind the name leads to the value
pub colon_next : (l : List ℕ) (i : ℕ) → i < length l → get_or l i 0 ≡ 58 → scan Value (drop (i + 1) l) ≡ scan Name (drop i l)
colon_next l i h e =
    ap (λ (q : State). scan q (drop (i + 1) l)) (sym (ap (λ (b : ℕ). step Name b) e ∙ colon_ends)) ∙ scan_next Name l i h

-- a line may end in its value alone
pub ending_value : (q : State) → is_ending q ≡ true → q ≡ Value
unfolding is_ending
ending_value Start e = clash e refl
ending_value Name e = clash e refl
ending_value ParameterStart e = clash e refl
ending_value ParameterName e = clash e refl
ending_value ValueStart e = clash e refl
ending_value Unquoted e = clash e refl
ending_value Quoted e = clash e refl
ending_value AfterQuoted e = clash e refl
ending_value Value e = refl
ending_value Wrong e = clash e refl

-- the step into the value
pub step_ending : (q p : State) (l : List ℕ) (i : ℕ) (t : Bool) → i < length l → p ≡ step q (get_or l i 0) → t ≡ is_ending p → t ≡ true
    → scan Value (drop (i + 1) l) ≡ scan q (drop i l)
step_ending q p l i t h e k y = ap (λ (s : State). scan s (drop (i + 1) l)) (sym (ending_value p (sym k ∙ y)) ∙ e) ∙ scan_next q l i h

-- the value, where bad says whether a control was read before
value_step : (bad t : Bool) (s : List ℕ) → (not (bad || t) && scan Value s) ≡ (not bad && scan (cond t Wrong Value) s)
value_step true t s = refl
value_step false true s = sym (wrong_stays s)
value_step false false s = refl

step_value : (b : ℕ) → cond (is_control b) Wrong Value ≡ step Value b
unfolding step
step_value b = refl

pub value_next : (bad : Bool) (l : List ℕ) (i : ℕ) → i < length l
    → (not (bad || is_control (get_or l i 0)) && scan Value (drop (i + 1) l)) ≡ (not bad && scan Value (drop i l))
value_next bad l i h =
    value_step bad (is_control (get_or l i 0)) (drop (i + 1) l)
    ∙ ap (λ (q : State). not bad && scan q (drop (i + 1) l)) (step_value (get_or l i 0))
    ∙ ap (λ (t : Bool). not bad && t) (scan_next Value l i h)

pub value_end : (l : List ℕ) (i : ℕ) → length l ≤ i → true ≡ scan Value (drop i l)
unfolding is_ending
value_end l i h = sym (scan_end Value l i h)

-- ---- a well formed line stands in a file as it is

-- CR is a control, and no state takes it
cr_wrong : (q : State) → step q 13 ≡ Wrong
unfolding step after_value is_name_byte is_letter is_digit is_control
cr_wrong Start = refl
cr_wrong Name = refl
cr_wrong ParameterStart = refl
cr_wrong ParameterName = refl
cr_wrong ValueStart = refl
cr_wrong Unquoted = refl
cr_wrong Quoted = refl
cr_wrong AfterQuoted = refl
cr_wrong Value = refl
cr_wrong Wrong = refl

scan_no_cr : (q : State) (s : List ℕ) → scan q s ≡ true → holds_no_cr s ≡ true
unfolding scan
scan_no_cr q [] e = refl
scan_no_cr q (b ∷ s) e = and_both (go (eqb b 13) refl) (scan_no_cr (step q b) s e)
  where
    go : (t : Bool) → eqb b 13 ≡ t → not (eqb b 13) ≡ true
    go true h =
        clash (subst (λ (k : ℕ). scan (step q k) s ≡ true) (eqb-true b 13 h) e) (ap (λ (p : State). scan p s) (cr_wrong q) ∙ wrong_stays s)
    go false h = ap not h

-- a line begins with a name byte, and a blank is none
scan_begins : (s : List ℕ) → scan Start s ≡ true → no_leading_blank s ≡ true
unfolding scan step is_blank is_name_byte is_letter is_digit
scan_begins [] e = refl
scan_begins (b ∷ s) e = go (is_name_byte b) refl
  where
    go : (t : Bool) → is_name_byte b ≡ t → not (eqb b 32 || eqb b 9) ≡ true
    go true h = rw (ne_eqb b 32 (apart is_name_byte b 32 h refl), ne_eqb b 9 (apart is_name_byte b 9 h refl))
    go false h = clash e (rw h (wrong_stays s))

pub well_formed_plain : (l : List ℕ) → is_well_formed l ≡ true → is_whole_line l ≡ true
unfolding is_well_formed
well_formed_plain l e =
    let k : scan Start l ≡ true = and_right (leb (length l) 1024) _ e in
    and_both (scan_no_cr Start l k) (scan_begins l k)

pub every_plain : (ls : List (List ℕ)) → every_line is_well_formed ls ≡ true → every_line is_whole_line ls ≡ true
every_plain [] e = refl
every_plain (l ∷ ls) e =
    and_both (well_formed_plain l (and_left (is_well_formed l) _ e)) (every_plain ls (and_right (is_well_formed l) _ e))
