-- Controls and lines: no state of the scanner takes one, and without one every value is good.
use Prim.Native.Nat.{ℕ, zero, suc, ◌+◌, ◌-◌, ◌≤◌, ◌<◌}
use mathlib.Core.Path.{◌≡◌, refl, sym, ap, ◌∙◌}
use mathlib.Core.Bool.{Bool, true, false, not, ◌&&◌, and-false}
use mathlib.Core.Logic.{◌⊎◌, inl, inr, ⊎_elim}
use mathlib.Core.List.{List, [], ◌∷◌, ◌++◌}
use native.Mathlib.Omega.{arith}
use borrow.Author.Tests.{eqb-true, ne_eqb, ltb-true, ltb-false}
use lib.Dec.{eqb, ltb, leb}
use lib.ListN.{length, drop, get_or, length-take, length-append, get_or-append}
use lib.Seq.{get_or-drop, get_or-take}
use Rattle.ascii.specs.Bytes.{between, is_letter, is_digit, is_name_byte, is_control}
use Rattle.ascii.proofs.Bools.{clash, and_left, not_so}
use Rattle.ascii.proofs.Bytes.{below, above}
use Rattle.text.specs.Unfolding.{is_break, Nowhere}
use Rattle.text.specs.Lines.{CutLines, end, unended, line, grow, cut, part, break_at, LineAt}
use Rattle.text.proofs.Unfolding.{nowhere_next}
use Rattle.text.proofs.Lines.{grown, grown_line, grown_end, length_part, no_break_pieces, searched_found, searched_end, searched_none, break_inside}
use Rattle.line.specs.Scanner.{Clear, Unclear, step, after_value, is_ending, scan, is_well_formed}
use Rattle.line.specs.WellFormed.{begins_badly, control_at, NextControl, NextAt}
use Rattle.line.specs.declared.scan.State.{State}
use Rattle.line.specs.declared.scan.State.TheVariants.{Start, Name, ParameterStart, ParameterName, ValueStart, Unquoted, Quoted, AfterQuoted, Value, Wrong}
use Rattle.line.specs.declared.check.Next.{Next}
use Rattle.line.proofs.Scanner.{value_next, value_end, wrong_stays, step_ending, colon_next}
use Rattle.line.proofs.WellFormed.{next_unended, next_none}

-- ---- a value without a control

clear_left : (l : List ℕ) → Clear l → (d i : ℕ) → length l ≤ i + d → true ≡ scan Value (drop i l)
clear_left l c zero i h = value_end l i (omega arith)
clear_left l c (suc d) i h = go (ltb i (length l)) refl (clear_left l c d (i + 1) (omega arith))
  where
    go : (t : Bool) → ltb i (length l) ≡ t → true ≡ scan Value (drop (i + 1) l) → true ≡ scan Value (drop i l)
    go true e r =
        r
        ∙ ap (λ (t : Bool). not t && scan Value (drop (i + 1) l)) (sym (c.none i (ltb-true i (length l) e)))
        ∙ value_next false l i (ltb-true i (length l) e)
    go false e r = value_end l i (ltb-false i (length l) e)

clear_value : (l : List ℕ) → Clear l → (i : ℕ) → true ≡ scan Value (drop i l)
clear_value l c i = clear_left l c (length l) i (omega arith)

-- the step into the value, and the colon behind the name, of a clear line
pub clear_ending : (l : List ℕ) → Clear l → (q p : State) (i : ℕ) (t : Bool) → i < length l → p ≡ step q (get_or l i 0) → t ≡ is_ending p → t ≡ true
    → true ≡ scan q (drop i l)
clear_ending l c q p i t h e k y = clear_value l c (i + 1) ∙ step_ending q p l i t h e k y

pub clear_colon : (l : List ℕ) → Clear l → (i : ℕ) → i < length l → get_or l i 0 ≡ 58 → true ≡ scan Name (drop i l)
clear_colon l c i h e = clear_value l c (i + 1) ∙ colon_next l i h e

-- ---- no state takes a control

control_range : (b : ℕ) → is_control b ≡ true → (b < 32) ⊎ (b ≡ 127)
unfolding is_control
control_range b c = go (ltb b 32) (eqb b 9) (eqb b 127) refl refl refl
  where
    go : (x y z : Bool) → ltb b 32 ≡ x → eqb b 9 ≡ y → eqb b 127 ≡ z → (b < 32) ⊎ (b ≡ 127)
    go true y z p q r = inl (ltb-true b 32 p)
    go false y true p q r = inr (eqb-true b 127 r)
    go false y false p q r = clash c (rw (p, r))

module _ (b : ℕ) (c : is_control b ≡ true) where
  other_byte : (k : ℕ) → 31 < k → k < 127 → eqb b k ≡ false
  other_byte k l h = ne_eqb b k (λ e. ⊎_elim (λ x. absurd (omega (arith, x, e))) (λ x. absurd (omega (arith, x, e))) (control_range b c))

  outside : (lo hi : ℕ) → 31 < lo → hi < 127 → between lo hi b ≡ false
  outside lo hi l h = ⊎_elim (λ x. below lo hi b (omega (arith, x))) (λ x. above lo hi b (omega (arith, x))) (control_range b c)

  no_name_byte : is_name_byte b ≡ false
  unfolding is_name_byte is_letter is_digit
  no_name_byte =
      rw (outside 65 90 (omega arith) (omega arith), outside 97 122 (omega arith) (omega arith), outside 48 57 (omega arith) (omega arith), other_byte 45 (omega arith) (omega arith)) refl

  control_wrong : (q : State) → step q b ≡ Wrong
  unfolding step after_value
  control_wrong Start = rw no_name_byte refl
  control_wrong Name = rw (no_name_byte, other_byte 59 (omega arith) (omega arith), other_byte 58 (omega arith) (omega arith)) refl
  control_wrong ParameterStart = rw no_name_byte refl
  control_wrong ParameterName = rw (no_name_byte, other_byte 61 (omega arith) (omega arith)) refl
  control_wrong ValueStart =
      rw (other_byte 34 (omega arith) (omega arith), other_byte 44 (omega arith) (omega arith), other_byte 59 (omega arith) (omega arith), other_byte 58 (omega arith) (omega arith), c) refl
  control_wrong Unquoted =
      rw (other_byte 34 (omega arith) (omega arith), other_byte 44 (omega arith) (omega arith), other_byte 59 (omega arith) (omega arith), other_byte 58 (omega arith) (omega arith), c) refl
  control_wrong Quoted = rw (other_byte 34 (omega arith) (omega arith), c) refl
  control_wrong AfterQuoted = rw (other_byte 44 (omega arith) (omega arith), other_byte 59 (omega arith) (omega arith), other_byte 58 (omega arith) (omega arith)) refl
  control_wrong Value = rw c refl
  control_wrong Wrong = refl

-- a control anywhere
unclear_scan : (q : State) (l : List ℕ) (i : ℕ) → i < length l → is_control (get_or l i 0) ≡ true → scan q l ≡ false
unfolding scan
unclear_scan q [] i h c = absurd (omega arith)
unclear_scan q (b ∷ l) zero h c = ap (λ (p : State). scan p l) (control_wrong b c q) ∙ wrong_stays l
unclear_scan q (b ∷ l) (suc i) h c = unclear_scan (step q b) l i (omega arith) c

pub unclear_badly : (l : List ℕ) → Unclear l → is_well_formed l ≡ false
unfolding is_well_formed
unclear_badly l u = rw (unclear_scan Start l u.place u.inside u.control) (and-false (leb (length l) 1024))

-- ---- the line at a place

-- CR LF begins with a control
no_break : {s : List ℕ} {from e : ℕ} → Nowhere control_at s from e → Nowhere break_at s from e
unfolding control_at break_at is_break is_control
no_break {s} {from} {e} h = record { order = h.order; inside = h.inside; none = λ k a b. go k (h.none k a b) }
  where
    go : (k : ℕ) → control_at s k ≡ false → break_at s k ≡ false
    go k f = not_so (break_at s k) (λ t. clash (ap is_control (eqb-true (get_or s k 0) 13 (and_left (eqb (get_or s k 0) 13) _ t))) f)

-- the bytes between are clear
pub part_clear : {s : List ℕ} {from e : ℕ} → Nowhere control_at s from e → Clear (part s from e)
unfolding control_at
part_clear {s} {from} {e} h =
    record {
      none = λ i l.
          let k : i < e - from = omega (arith, l, length-take (e - from) (drop from s)) in
          ap is_control (get_or-take (e - from) (drop from s) i 0 k ∙ get_or-drop from s i 0) ∙ h.none (from + i) (omega arith) (omega (arith, h.order));
    }

pub control_line : {s : List ℕ} {from e : ℕ} → NextControl s from e → break_at s e ≡ true → LineAt s from e
control_line {s} {from} {e} h b = searched_found (no_break h.before) b

grown_unended : (l t : List ℕ) → grown l (unended t) ≡ unended (l ++ t)
grown_unended [] t = refl
grown_unended (a ∷ l) t = ap (grow a) (grown_unended l t)

unclear_more : (l t : List ℕ) → Unclear l → Unclear (l ++ t)
unclear_more l t u =
    record {
      place = u.place;
      inside = omega (arith, u.inside, length-append l t);
      control = ap is_control (get_or-append l t 0 u.place u.inside) ∙ u.control;
    }

-- what begins with a control in it begins badly
unclear_begins : (l : List ℕ) (p : CutLines) → Unclear l → begins_badly (grown l p) ≡ true
unfolding begins_badly
unclear_begins [] p u = absurd (omega (arith, u.inside))
unclear_begins (b ∷ l) end u = ap begins_badly (grown_end b l)
unclear_begins (b ∷ l) (unended t) u = ap begins_badly (grown_unended (b ∷ l) t)
unclear_begins (b ∷ l) (line t p) u = ap begins_badly (grown_line (b ∷ l) t p) ∙ ap not (unclear_badly (b ∷ l ++ t) (unclear_more (b ∷ l) t u))

module _ {s : List ℕ} {from e : ℕ} (g : from < length s) (h : NextControl s from e) (b : break_at s e ≡ false) where
  -- a control that begins no CR LF stands in the line
  control_inside : e < length s → NextAt s from Next.Bad
  unfolding NextAt control_at
  control_inside l =
      let n : Nowhere break_at s from (e + 1) = nowhere_next (no_break h.before) l b in
      let k : e - from < e + 1 - from = omega (arith, h.before.order) in
      let at : from + (e - from) ≡ e = omega (arith, h.before.order) in
      record {
        bad =
            ap begins_badly (no_break_pieces n)
            ∙ unclear_begins (part s from (e + 1)) (cut (drop (e + 1) s))
            (record {
              place = e - from;
              inside = omega (arith, length_part s from (e + 1) (omega (arith, h.before.order)) (omega arith), h.before.order);
              control =
                  ap is_control (get_or-take (e + 1 - from) (drop from s) (e - from) 0 k ∙ get_or-drop from s (e - from) 0 ∙ ap (λ (i : ℕ). get_or s i 0) at) ∙ h.there l;
            });
      }

  pub control_bad : NextAt s from Next.Bad
  control_bad = go (ltb e (length s)) refl
    where
      go : (t : Bool) → ltb e (length s) ≡ t → NextAt s from Next.Bad
      go true q = control_inside (ltb-true e (length s) q)
      go false q = next_unended (searched_end g (no_break h.before) (omega (arith, ltb-false e (length s) q)))

-- ---- the search

pub control_found : {s : List ℕ} {from i : ℕ} → Nowhere control_at s from i → is_control (get_or s i 0) ≡ true → NextControl s from i
unfolding control_at
control_found h c = record { before = h; there = λ _. c }

pub control_none : {s : List ℕ} {from i : ℕ} → Nowhere control_at s from i → length s ≤ i → NextControl s from i
control_none h l = record { before = h; there = λ x. absurd (omega (arith, x)) }

pub break_none : (s : List ℕ) (i : ℕ) → length s < i + 2 → false ≡ break_at s i
break_none s i h = sym (not_so (break_at s i) (λ e. absurd (omega (arith, break_inside s i e))))

-- no byte is left
pub next_past : (s : List ℕ) (from : ℕ) → length s ≤ from → NextAt s from Next.End
next_past s from h = next_none (searched_none s from h)
