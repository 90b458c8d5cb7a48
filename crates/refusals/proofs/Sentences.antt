-- Each row applies exactly when its sentence holds.
use Rattle.std.specs.Prelude.{Err, None, Ok, Option, Result, Some}
use Prim.Native.Nat.{ℕ}
use Rattle.calendar.specs.declared.LineError.{LineError}
use mathlib.Core.Path.{◌≡◌, refl, ap, subst}
use mathlib.Core.Bool.{Bool, true}
use mathlib.Core.List.Memᴰ
use mathlib.Core.List.{List, [], ◌∷◌, ◌++◌}
use mathlib.Core.Logic.{◌↔◌, ◌⊎◌, inl, inr, ⊎_elim}
use lib.Dec.{ltb}
use lib.ListN.{length}
use borrow.Author.Tests.{ltb-true, lt-ltb}
use Rattle.ascii.proofs.Bools.{clash}
use Rattle.line.specs.WellFormed.{line_check, LineCheck, all_good, bad_line}
use Rattle.line.proofs.WellFormed.{bad_iff}
use Rattle.nesting.specs.Nesting.{nesting_of}
use Rattle.nesting.proofs.Faults.{fault_iff}
use Rattle.values.specs.declared.times.Context.{Context}
use Rattle.calendar.specs.Meaning.{file_lines, components_of, value_fault, rule_fault}
use Rattle.calendar.proofs.FirstFaults.{unsupported_iff, bad_value_iff, broken_iff}
use Rattle.refusals.specs.Refusals.{Row, row, RowApplies, size_rows, line_row, unsupported_row, bad_value_row, rule_row, structure_rows, contents_rows, calendar_rows}
use Rattle.refusals.specs.Sentences.{SizeApplies, calendar_long, work_short, CalendarApplies, line_bad, nesting_wrong, unsupported, bad_value, rule_broken}
use Rattle.refusals.proofs.Refusals.{applies_cases, applies_later}

-- ---- rows of a list

-- what a row tells where it applies
abbrev pub Tells : Row → ℕ → ℕ → Type 0
Tells r k i = (r.number ≡ k) × (r.line ≡ i) × (r.applies ≡ true)

pub no_rows : {k i : ℕ} → RowApplies [] k i → ⊥
no_rows a = Memᴰ.not-nil a.listed

pub tells_here : {k i : ℕ} (r : Row) (rs : List Row) → Tells r k i → RowApplies (r ∷ rs) k i
tells_here r rs t = record { which = r; listed = Memᴰ.head refl; numbered = t.0; lined = t.1; applies = t.2 }

-- the one row of a list of one
pub only_row : {k i : ℕ} (r : Row) → RowApplies (r ∷ []) k i → Tells r k i
only_row {k} {i} r a = ⊎_elim (λ t. t) (λ b. absurd (no_rows b)) (applies_cases r [] k i a)

pub append_cases : {k i : ℕ} (xs ys : List Row) → RowApplies (xs ++ ys) k i → RowApplies xs k i ⊎ RowApplies ys k i
append_cases [] ys a = inr a
append_cases {k} {i} (r ∷ xs) ys a =
    ⊎_elim
    (λ t. inl (tells_here r xs t))
    (λ b. ⊎_elim (λ c. inl (applies_later r xs k i c)) (λ c. inr c) (append_cases xs ys b))
    (applies_cases r (xs ++ ys) k i a)

pub append_first : {k i : ℕ} (xs ys : List Row) → RowApplies xs k i → RowApplies (xs ++ ys) k i
append_first [] ys a = absurd (no_rows a)
append_first {k} {i} (r ∷ xs) ys a =
    ⊎_elim (λ t. tells_here r (xs ++ ys) t) (λ b. applies_later r (xs ++ ys) k i (append_first xs ys b)) (applies_cases r xs k i a)

pub append_second : {k i : ℕ} (xs ys : List Row) → RowApplies ys k i → RowApplies (xs ++ ys) k i
append_second [] ys a = a
append_second {k} {i} (r ∷ xs) ys a = applies_later r (xs ++ ys) k i (append_second xs ys a)

-- a row without a line, by its test
pub told_by : {k i : ℕ} (n : ℕ) (t : Bool) → Tells (row n 0 t) k i → (n ≡ k) × (0 ≡ i) × (t ≡ true)
told_by n t h = h

-- ---- sizes

module _ (cal work : List ℕ) where
  abbrev long : Row
  long = row 2 0 (ltb 65536 (length cal))

  abbrev short : Row
  short = row 3 0 (ltb (length work) (length cal))

  long_says : {k i : ℕ} → Tells long k i → SizeApplies cal work k i
  long_says {k} t = subst (λ (j : ℕ). SizeApplies cal work k j) t.1 (subst (λ (n : ℕ). SizeApplies cal work n 0) t.0 (calendar_long (ltb-true _ _ t.2)))

  short_says : {k i : ℕ} → Tells short k i → SizeApplies cal work k i
  short_says {k} t = subst (λ (j : ℕ). SizeApplies cal work k j) t.1 (subst (λ (n : ℕ). SizeApplies cal work n 0) t.0 (work_short (ltb-true _ _ t.2)))

  size_listed : {k i : ℕ} → SizeApplies cal work k i → RowApplies (size_rows cal work) k i
  unfolding size_rows
  size_listed (calendar_long h) = tells_here long (short ∷ []) (refl, refl, lt-ltb _ _ h)
  size_listed (work_short h) = applies_later long (short ∷ []) 3 0 (tells_here short [] (refl, refl, lt-ltb _ _ h))

  pub sizes_iff : (k i : ℕ) → RowApplies (size_rows cal work) k i ↔ SizeApplies cal work k i
  unfolding size_rows
  sizes_iff k i = (
    λ a. ⊎_elim long_says (λ b. short_says (only_row short b)) (applies_cases long (short ∷ []) k i a),
    size_listed,
  )

-- ---- the calendar

line_says : {n k i : ℕ} (l : LineCheck) → Tells (line_row n l) k i → (n ≡ k) × (l ≡ bad_line i)
unfolding line_row
line_says all_good t = clash t.2 refl
line_says (bad_line j) t = (t.0, ap bad_line t.1)

unsupported_says : {k i : ℕ} (v : Result (Unit {0}) LineError) → Tells (unsupported_row v) k i → (8 ≡ k) × (v ≡ Err (LineError.Unsupported i))
unfolding unsupported_row
unsupported_says (Ok _) t = clash t.2 refl
unsupported_says (Err (LineError.Unsupported j)) t = (t.0, ap Err (ap LineError.Unsupported t.1))
unsupported_says (Err (LineError.Bad j)) t = clash t.2 refl

bad_says : {k i : ℕ} (v : Result (Unit {0}) LineError) → Tells (bad_value_row v) k i → (9 ≡ k) × (v ≡ Err (LineError.Bad i))
unfolding bad_value_row
bad_says (Ok _) t = clash t.2 refl
bad_says (Err (LineError.Unsupported j)) t = clash t.2 refl
bad_says (Err (LineError.Bad j)) t = (t.0, ap Err (ap LineError.Bad t.1))

rule_says : {k i : ℕ} (r : Option ℕ) → Tells (rule_row r) k i → (10 ≡ k) × (r ≡ Some i)
unfolding rule_row
rule_says None t = clash t.2 refl
rule_says (Some j) t = (t.0, ap Some t.1)

module _ (c : Context) (u : List ℕ) where
  -- a sentence at the number that the row has
  at_number : {n k i : ℕ} → n ≡ k → CalendarApplies c u n i → CalendarApplies c u k i
  at_number {i = i} e a = subst (λ (j : ℕ). CalendarApplies c u j i) e a

  abbrev values : Result (Unit {0}) LineError
  values = value_fault c (components_of u)

  abbrev rules : Option ℕ
  rules = rule_fault c (components_of u)

  abbrev nesting : LineCheck
  nesting = nesting_of (file_lines u)

  structure_says : {k i : ℕ} → RowApplies (structure_rows u) k i → CalendarApplies c u k i
  unfolding structure_rows
  structure_says {k} {i} a =
      ⊎_elim
      (λ t. let h = line_says (line_check u) t in at_number h.0 (line_bad i ((bad_iff u i).0 h.1)))
      (λ b. let h = line_says nesting (only_row (line_row 7 nesting) b) in at_number h.0 (nesting_wrong i ((fault_iff (file_lines u) i).0 h.1)))
      (applies_cases (line_row 6 (line_check u)) (line_row 7 nesting ∷ []) k i a)

  contents_says : {k i : ℕ} → RowApplies (contents_rows c u) k i → CalendarApplies c u k i
  unfolding contents_rows
  contents_says {k} {i} a =
      ⊎_elim
      (λ t. let h = unsupported_says values t in at_number h.0 (unsupported i ((unsupported_iff c (components_of u) i).0 h.1)))
      (λ b.
      ⊎_elim
      (λ t. let h = bad_says values t in at_number h.0 (bad_value i ((bad_value_iff c (components_of u) i).0 h.1)))
      (λ d. let h = rule_says rules (only_row (rule_row rules) d) in at_number h.0 (rule_broken i ((broken_iff c (components_of u) i).0 h.1)))
      (applies_cases (bad_value_row values) (rule_row rules ∷ []) k i b))
      (applies_cases (unsupported_row values) (bad_value_row values ∷ rule_row rules ∷ []) k i a)

  calendar_listed : {k i : ℕ} → CalendarApplies c u k i → RowApplies (calendar_rows c u) k i
  unfolding calendar_rows structure_rows contents_rows line_row unsupported_row bad_value_row rule_row
  calendar_listed (line_bad i f) =
      let e = (bad_iff u i).1 f in
      tells_here (line_row 6 (line_check u)) _ (rw e (refl, refl, refl))
  calendar_listed (nesting_wrong i f) =
      let e = (fault_iff (file_lines u) i).1 f in
      applies_later _ _ 7 i (tells_here (line_row 7 nesting) _ (rw e (refl, refl, refl)))
  calendar_listed (unsupported i f) =
      let e = (unsupported_iff c (components_of u) i).1 f in
      applies_later _ _ 8 i (applies_later _ _ 8 i (tells_here (unsupported_row values) _ (rw e (refl, refl, refl))))
  calendar_listed (bad_value i f) =
      let e = (bad_value_iff c (components_of u) i).1 f in
      applies_later _ _ 9 i (applies_later _ _ 9 i (applies_later _ _ 9 i (tells_here (bad_value_row values) _ (rw e (refl, refl, refl)))))
  calendar_listed (rule_broken i f) =
      let e = (broken_iff c (components_of u) i).1 f in
      applies_later _ _ 10 i (applies_later _ _ 10 i (applies_later _ _ 10 i (applies_later _ _ 10 i (tells_here (rule_row rules) _ (rw e (refl, refl, refl))))))

  pub calendar_iff : (k i : ℕ) → RowApplies (calendar_rows c u) k i ↔ CalendarApplies c u k i
  unfolding calendar_rows
  calendar_iff k i = (
    λ a. ⊎_elim structure_says contents_says (append_cases (structure_rows u) (contents_rows c u) a),
    calendar_listed,
  )
