-- What a line does to the innermost open component, and the line that begins VCALENDAR.
use Prim.Native.Nat.{ℕ}
use mathlib.Core.Path.{◌≡◌, refl, sym, ap, ◌∙◌}
use mathlib.Core.Bool.{Bool, true, false, cond, ◌&&◌}
use mathlib.Core.List.{List}
use Rattle.ascii.specs.Names.{same_name, is_name}
use Rattle.ascii.specs.Words.{ascii}
use Rattle.line.specs.Reading.{line_of, name_of}
use Rattle.delimiters.specs.Delimiters.{no_parameters}
use Rattle.delimiters.specs.Innermost.{is_calendar, may_begin, nesting_step_by, begins_by, begins_calendar}
use Rattle.delimiters.proofs.Delimiters.{delimiter_later}
use Rattle.delimiters.specs.declared.Delimiter.{Delimiter}
use Rattle.delimiters.specs.declared.Delimiter.TheVariants.{Begins, Ends, Property, Wrong}
use Rattle.delimiters.specs.declared.NestingStep.TheVariants.{Opens, Stays, Closes, Breaks}

-- ---- the function that says what a line does

module _ (n : List ℕ) (d k : ℕ) {m r : Delimiter} {v w : List ℕ} {t : Bool} (p : r ≡ m) (g : w ≡ v) where
  -- by the test of its value
  pub step_begins : r ≡ Begins → t ≡ may_begin w d k → {b : Bool} → t ≡ b → cond b Opens Breaks ≡ nesting_step_by m v n d k
  unfolding nesting_step_by
  step_begins f e {b} h = rw (sym p ∙ f, sym g, sym e ∙ h)

  pub step_ends : r ≡ Ends → t ≡ same_name w n → {b : Bool} → t ≡ b → cond b Closes Breaks ≡ nesting_step_by m v n d k
  unfolding nesting_step_by
  step_ends f e {b} h = rw (sym p ∙ f, sym g, sym e ∙ h)

pub step_stays : (v n : List ℕ) (d k : ℕ) {m r : Delimiter} → r ≡ m → r ≡ Property → Stays ≡ nesting_step_by m v n d k
unfolding nesting_step_by
step_stays v n d k p b = rw (sym p ∙ b)

pub step_wrong : (v n : List ℕ) (d k : ℕ) {m r : Delimiter} → r ≡ m → r ≡ Wrong → Breaks ≡ nesting_step_by m v n d k
unfolding nesting_step_by
step_wrong v n d k p b = rw (sym p ∙ b)

-- ---- the line that begins VCALENDAR

pub begins_yes : {m r : Delimiter} {v w : List ℕ} (t : Bool) → r ≡ m → w ≡ v → r ≡ Begins → t ≡ same_name w (ascii "VCALENDAR") → t ≡ begins_by m v
unfolding is_calendar
begins_yes t p g b e = rw (sym p ∙ b, sym g) e

pub begins_no : {m r : Delimiter} (v : List ℕ) → r ≡ m → (r ≡ Begins → ⊥) → false ≡ begins_by m v
begins_no {m} {r} v p h = sym (go r h) ∙ ap (λ (j : Delimiter). begins_by j v) p
  where
    go : (j : Delimiter) → (j ≡ Begins → ⊥) → begins_by j v ≡ false
    go Begins k = absurd (k refl)
    go Ends k = refl
    go Property k = refl
    go Wrong k = refl

-- a line of another name than BEGIN begins nothing
pub begins_other : (l : List ℕ) (t : Bool) → t ≡ same_name (name_of l) (ascii "BEGIN") → t ≡ false → false ≡ begins_calendar (line_of l)
unfolding begins_calendar
begins_other l t q e =
    let ends = same_name (name_of l) (ascii "END") in
    let plain = no_parameters (line_of l).parameters && is_name (line_of l).value in
    sym (ap (λ (m : Delimiter). begins_by m (line_of l).value) (delimiter_later l t q _ refl e _ refl) ∙ go ends plain)
  where
    go : (u d : Bool) → begins_by (cond u (cond d Ends Wrong) Property) (line_of l).value ≡ false
    go true true = refl
    go true false = refl
    go false d = refl
