-- The first row that applies, for the reader; and stages of rows follow each other: those of a calendar, its structure before its contents.
use Rattle.std.specs.Prelude.{Err, None, Ok, Option, Result, Some}
use Prim.Native.Nat.{ℕ}
use Rattle.calendar.specs.declared.LineError.{LineError}
use mathlib.Core.Path.{◌≡◌, refl, sym, ap, ◌∙◌}
use mathlib.Core.Bool.{Bool, true, false}
use mathlib.Core.List.Memᴰ
use mathlib.Core.List.{List, [], ◌∷◌, ◌++◌}
use mathlib.Core.Logic.{◌↔◌, ◌⊎◌, inl, inr, ⊎_elim}
use native.Mathlib.Omega.{arith}
use Rattle.ascii.proofs.Bools.{clash}
use Rattle.line.specs.WellFormed.{line_check, LineCheck, all_good, bad_line}
use Rattle.nesting.specs.Nesting.{nesting_of}
use Rattle.values.specs.declared.times.Context.{Context}
use Rattle.events.specs.Events.{Entry}
use Rattle.calendar.specs.Meaning.{calendar, by_rules, by_values, by_lines, file_lines, components_of, value_fault, rule_fault, entries_of, contents_of, meaning_of, fault_of, structure_fault}
use Rattle.calendar.specs.FirstFaults.{First}
use Rattle.calendar.proofs.FirstFaults.{first_here, first_later, no_first, first_cases}
use Rattle.calendar.specs.declared.Refusal.{Refusal}
use Rattle.calendar.specs.Refused.{refused_at}
use Rattle.refusals.specs.Refusals.{Row, first_refusal, RowApplies, NoneApplies, Applies, FirstApplies, line_row, unsupported_row, bad_value_row, rule_row, structure_rows, contents_rows, calendar_rows}

-- a fault and none are apart; one fault has one number and one line
pub no_fault_here : {A : Type 0} {f : Result (Unit {0}) Refusal} {n i : ℕ} → f ≡ refused_at n i → f ≡ Ok tt → A
no_fault_here e k = let z : ◌≡◌ {A = ℕ} 0 1 = cc in absurd (omega arith)

-- the refusal of a check, and any where it refuses nothing
abbrev refusal_in : Result (Unit {0}) Refusal → Refusal
refusal_in (Ok u) = record { number = 0; line = 0 }
refusal_in (Err r) = r

pub same_number : {f : Result (Unit {0}) Refusal} {n i m j : ℕ} → f ≡ refused_at n i → f ≡ refused_at m j → n ≡ m
same_number e k = ap (λ (f : Result (Unit {0}) Refusal). (refusal_in f).number) (sym e ∙ k)

pub same_line : {f : Result (Unit {0}) Refusal} {n i m j : ℕ} → f ≡ refused_at n i → f ≡ refused_at m j → i ≡ j
same_line e k = ap (λ (f : Result (Unit {0}) Refusal). (refusal_in f).line) (sym e ∙ k)

-- ---- one row

first_by : (r : Row) (rs : List Row) (t : Bool) → r.applies ≡ t
    → first_refusal (r ∷ rs) ≡ elim t as (λ y. Result (Unit {0}) Refusal) [ true ↦ refused_at r.number r.line | false ↦ first_refusal rs ]
unfolding first_refusal
first_by r rs t e = ap (λ (y : Bool). elim y as (λ z. Result (Unit {0}) Refusal) [ true ↦ refused_at r.number r.line | false ↦ first_refusal rs ]) e

pub row_applies : (r : Row) (rs : List Row) → r.applies ≡ true → first_refusal (r ∷ rs) ≡ refused_at r.number r.line
row_applies r rs e = first_by r rs true e

pub row_passed : (r : Row) (rs : List Row) → r.applies ≡ false → first_refusal (r ∷ rs) ≡ first_refusal rs
row_passed r rs e = first_by r rs false e

-- ---- stages: the rows of one, then the rest

pub stage_passed : (xs ys : List Row) → first_refusal xs ≡ Ok tt → first_refusal (xs ++ ys) ≡ first_refusal ys
stage_passed [] ys e = refl
stage_passed (r ∷ rs) ys e = go r.applies refl (stage_passed rs ys)
  where
    go : (t : Bool) → r.applies ≡ t → (first_refusal rs ≡ Ok tt → first_refusal (rs ++ ys) ≡ first_refusal ys) → first_refusal (r ∷ (rs ++ ys)) ≡ first_refusal ys
    go true k ih = no_fault_here (row_applies r rs k) e
    go false k ih = row_passed r (rs ++ ys) k ∙ ih (sym (row_passed r rs k) ∙ e)

pub stage_refused : {n i : ℕ} (xs ys : List Row) → first_refusal xs ≡ refused_at n i → first_refusal (xs ++ ys) ≡ refused_at n i
unfolding first_refusal
stage_refused [] ys e = no_fault_here e refl
stage_refused {n} {i} (r ∷ rs) ys e = go r.applies refl (stage_refused rs ys)
  where
    go : (t : Bool) → r.applies ≡ t → (first_refusal rs ≡ refused_at n i → first_refusal (rs ++ ys) ≡ refused_at n i) → first_refusal (r ∷ (rs ++ ys)) ≡ refused_at n i
    go true k ih = row_applies r (rs ++ ys) k ∙ sym (row_applies r rs k) ∙ e
    go false k ih = row_passed r (rs ++ ys) k ∙ ih (sym (row_passed r rs k) ∙ e)

-- none of all the rows applies, so none of the first
pub stage_none : (xs ys : List Row) → first_refusal (xs ++ ys) ≡ Ok tt → first_refusal xs ≡ Ok tt
stage_none xs ys e = go (first_refusal xs) refl
  where
    go : (f : Result (Unit {0}) Refusal) → first_refusal xs ≡ f → first_refusal xs ≡ Ok tt
    go (Ok _) h = h
    go (Err r) h = no_fault_here (stage_refused xs ys h) e

-- ---- rows that apply

pub applies_cases : (r : Row) (rs : List Row) (k i : ℕ) → RowApplies (r ∷ rs) k i → ((r.number ≡ k) × (r.line ≡ i) × (r.applies ≡ true)) ⊎ RowApplies rs k i
applies_cases r rs k i a =
    ⊎_elim
    (λ e. inl (ap (λ (x : Row). x.number) (sym e) ∙ a.numbered, ap (λ (x : Row). x.line) (sym e) ∙ a.lined, ap (λ (x : Row). x.applies) (sym e) ∙ a.applies))
    (λ m. inr (record { which = a.which; listed = m; numbered = a.numbered; lined = a.lined; applies = a.applies }))
    (Memᴰ.cases_cons a.listed)

pub applies_here : (r : Row) (rs : List Row) → r.applies ≡ true → RowApplies (r ∷ rs) r.number r.line
applies_here r rs e = record { which = r; listed = Memᴰ.head refl; numbered = refl; lined = refl; applies = e }

pub applies_later : (r : Row) (rs : List Row) (k i : ℕ) → RowApplies rs k i → RowApplies (r ∷ rs) k i
applies_later r rs k i a =
    record { which = a.which; listed = Memᴰ.tail a.listed; numbered = a.numbered; lined = a.lined; applies = a.applies }

-- ---- none applies

pub none_applies : (rows : List Row) → first_refusal rows ≡ Ok tt → (k i : ℕ) → RowApplies rows k i → ⊥
none_applies [] e k i a = Memᴰ.not-nil a.listed
none_applies (r ∷ rs) e k i a = go r.applies refl (λ h. none_applies rs h k i)
  where
    go : (t : Bool) → r.applies ≡ t → (first_refusal rs ≡ Ok tt → RowApplies rs k i → ⊥) → ⊥
    go true h ih = no_fault_here (row_applies r rs h) e
    go false h ih = ⊎_elim (λ x. clash x.2 h) (ih (sym (row_passed r rs h) ∙ e)) (applies_cases r rs k i a)

-- ---- the first that applies

first_found : {k i : ℕ} (rows : List Row) → first_refusal rows ≡ refused_at k i → FirstApplies rows k i
unfolding first_refusal Applies
first_found [] e = no_fault_here e refl
first_found {k} {i} (r ∷ rs) e = go r.applies refl (first_found rs)
  where
    go : (t : Bool) → r.applies ≡ t → (first_refusal rs ≡ refused_at k i → FirstApplies rs k i) → FirstApplies (r ∷ rs) k i
    go true h ih =
        let f = row_applies r rs h in
        record { which = r; first = first_here r rs h; numbered = same_number f e; lined = same_line f e }
    go false h ih =
        let f = ih (sym (row_passed r rs h) ∙ e) in
        record { which = f.which; first = first_later r rs (λ a. clash a h) f.first; numbered = f.numbered; lined = f.lined }

found_first : {k i : ℕ} (rows : List Row) → FirstApplies rows k i → first_refusal rows ≡ refused_at k i
unfolding Applies
found_first [] f = absurd (no_first f.first)
found_first {k} {i} (r ∷ rs) f = go (first_cases r rs f.first) r.applies refl (found_first rs)
  where
    go : ((f.which ≡ r) × Applies r) ⊎ ((Applies r → ⊥) × First Applies rs f.which) → (t : Bool) → r.applies ≡ t
        → (FirstApplies rs k i → first_refusal rs ≡ refused_at k i) → first_refusal (r ∷ rs) ≡ refused_at k i
    go (inl h) t q ih =
        row_applies r rs h.1
        ∙ ap (λ (x : Row). refused_at x.number x.line) (sym h.0)
        ∙ ap (λ (n : ℕ). refused_at n f.which.line) f.numbered
        ∙ ap (λ (n : ℕ). refused_at k n) f.lined
    go (inr h) true q ih = absurd (h.0 q)
    go (inr h) false q ih =
        row_passed r rs q ∙ ih (record { which = f.which; first = h.1; numbered = f.numbered; lined = f.lined })

-- a number is given, with its line, exactly when its row is the first that applies
pub first_iff : (rows : List Row) (k i : ℕ) → (first_refusal rows ≡ refused_at k i) ↔ FirstApplies rows k i
first_iff rows k i = (first_found rows, found_first rows)

-- some row applies where one is the first
pub first_applies : {k i : ℕ} (rows : List Row) → first_refusal rows ≡ refused_at k i → RowApplies rows k i
unfolding first_refusal
first_applies [] e = no_fault_here e refl
first_applies {k} {i} (r ∷ rs) e = go r.applies refl (first_applies rs)
  where
    go : (t : Bool) → r.applies ≡ t → (first_refusal rs ≡ refused_at k i → RowApplies rs k i) → RowApplies (r ∷ rs) k i
    go true h ih =
        let f = row_applies r rs h in
        record { which = r; listed = Memᴰ.head refl; numbered = same_number f e; lined = same_line f e; applies = h }
    go false h ih = applies_later r rs k i (ih (sym (row_passed r rs h) ∙ e))

pub none_iff : (rows : List Row) → (first_refusal rows ≡ Ok tt) ↔ NoneApplies rows
unfolding NoneApplies
none_iff rows = (none_applies rows, λ h. go h (first_refusal rows) refl)
  where
    go : ((k i : ℕ) → RowApplies rows k i → ⊥) → (f : Result (Unit {0}) Refusal) → first_refusal rows ≡ f → first_refusal rows ≡ Ok tt
    go h (Ok _) e = e
    go h (Err r) e = absurd (h r.number r.line (first_applies rows e))

-- ---- 6 to 10: the calendar

structure_fault_lem : (l n : LineCheck) → first_refusal (line_row 6 l ∷ line_row 7 n ∷ []) ≡ fault_of (by_lines 6 l (by_lines 7 n (calendar [])))
unfolding first_refusal line_row fault_of by_lines
structure_fault_lem (bad_line i) n = refl
structure_fault_lem all_good (bad_line i) = refl
structure_fault_lem all_good all_good = refl

contents_fault : (v : Result (Unit {0}) LineError) (r : Option ℕ) (es : List Entry)
    → first_refusal (unsupported_row v ∷ bad_value_row v ∷ rule_row r ∷ []) ≡ fault_of (by_values v (by_rules r es))
unfolding first_refusal unsupported_row bad_value_row rule_row fault_of by_values by_rules
contents_fault (Err (LineError.Unsupported i)) r es = refl
contents_fault (Err (LineError.Bad i)) r es = refl
contents_fault (Ok _) (Some i) es = refl
contents_fault (Ok _) None es = refl

rows_fault : (l n : LineCheck) (v : Result (Unit {0}) LineError) (r : Option ℕ) (es : List Entry)
    → first_refusal (line_row 6 l ∷ line_row 7 n ∷ unsupported_row v ∷ bad_value_row v ∷ rule_row r ∷ [])
    ≡ fault_of (by_lines 6 l (by_lines 7 n (by_values v (by_rules r es))))
unfolding first_refusal line_row fault_of by_lines
rows_fault (bad_line i) n v r es = refl
rows_fault all_good (bad_line i) v r es = refl
rows_fault all_good all_good v r es = contents_fault v r es

-- the first row of all is the fault of the calendar's meaning
pub calendar_first : (c : Context) (u : List ℕ) → first_refusal (calendar_rows c u) ≡ fault_of (meaning_of c u)
unfolding calendar_rows structure_rows contents_rows meaning_of contents_of
calendar_first c u =
    rows_fault (line_check u) (nesting_of (file_lines u)) (value_fault c (components_of u)) (rule_fault c (components_of u)) (entries_of c (components_of u))

-- its structure, then its contents

structure_first : (u : List ℕ) → first_refusal (structure_rows u) ≡ structure_fault u
unfolding structure_rows structure_fault
structure_first u = structure_fault_lem (line_check u) (nesting_of (file_lines u))

pub structure_passed : (u : List ℕ) (rows : List Row) → structure_fault u ≡ Ok tt → first_refusal (structure_rows u ++ rows) ≡ first_refusal rows
structure_passed u rows e = stage_passed (structure_rows u) rows (structure_first u ∙ e)

pub structure_refused : {n i : ℕ} (u : List ℕ) (rows : List Row) → structure_fault u ≡ refused_at n i → first_refusal (structure_rows u ++ rows) ≡ refused_at n i
structure_refused u rows e = stage_refused (structure_rows u) rows (structure_first u ∙ e)

pub contents_first : (c : Context) (u : List ℕ) → first_refusal (contents_rows c u) ≡ fault_of (contents_of c u)
unfolding contents_rows contents_of
contents_first c u = contents_fault (value_fault c (components_of u)) (rule_fault c (components_of u)) (entries_of c (components_of u))

pub contents_passed : (c : Context) (u : List ℕ) (rows : List Row) → fault_of (contents_of c u) ≡ Ok tt → first_refusal (contents_rows c u ++ rows) ≡ first_refusal rows
contents_passed c u rows e = stage_passed (contents_rows c u) rows (contents_first c u ∙ e)

pub contents_refused : {n i : ℕ} (c : Context) (u : List ℕ) (rows : List Row) → fault_of (contents_of c u) ≡ refused_at n i → first_refusal (contents_rows c u ++ rows) ≡ refused_at n i
contents_refused c u rows e = stage_refused (contents_rows c u) rows (contents_first c u ∙ e)
