-- How long a report is: its lines in parts, the length of each part, and how many bytes it has at most;
-- equal periods have equal bytes.
use Prim.Native.Nat.{ℕ, suc, ◌+◌, ◌*◌, ◌≤◌}
use mathlib.Core.Path.{◌≡◌, refl, sym, ap, ◌∙◌}
use mathlib.Core.List.{List, [], ◌∷◌, ◌++◌, append_assoc}
use mathlib.Core.Bool.{true}
use native.Mathlib.Omega.{arith}
use native.Mathlib.Nat.{mul-suc}
use lib.ListN.{length, length-append}
use Rattle.ascii.proofs.Bools.{clash}
use Rattle.text.specs.Lines.{joined}
use Rattle.time.specs.Writing.{utc_text, date_text, time_text}
use Rattle.periods.specs.declared.Period.{Period}
use Rattle.periods.specs.declared.BusyType.{BusyType}
use Rattle.periods.specs.BusyTypes.{is_busy}
use Rattle.report.specs.Bytes.{Report, period_head, period_text, period_lines, busy_lines, report_lines, report_bytes, report_length, period_count}
use Rattle.report.specs.Heads.{stamp_head, start_head, end_head, timed, opening, closing}

-- lines behind lines
pub joined_append : (ls ms : List (List ℕ)) → joined (ls ++ ms) ≡ joined ls ++ joined ms
joined_append [] ms = refl
joined_append (l ∷ ls) ms =
    ap (λ (x : List ℕ). l ++ (13 ∷ 10 ∷ x)) (joined_append ls ms) ∙ sym (append_assoc l (13 ∷ 10 ∷ joined ls) (joined ms))

-- the lines of a type
abbrev pub type_bytes : BusyType → List Period → List ℕ
type_bytes b ps = joined (period_lines (period_head b) ps)

-- the three types, one behind the other
pub busy_parts : (f : BusyType → List Period)
    → joined (busy_lines f) ≡ type_bytes BusyType.Busy (f BusyType.Busy) ++ (type_bytes BusyType.Tentative (f BusyType.Tentative) ++ type_bytes BusyType.Unavailable (f BusyType.Unavailable))
unfolding busy_lines
busy_parts f =
    joined_append (period_lines (period_head BusyType.Busy) (f BusyType.Busy)) _
    ∙ ap (λ (x : List ℕ). type_bytes BusyType.Busy (f BusyType.Busy) ++ x) (joined_append (period_lines (period_head BusyType.Tentative) (f BusyType.Tentative)) _)

-- a report is its opening, the lines of its periods, and its closing
pub report_parts : (r : Report) → report_bytes r ≡ opening r.start r.end r.stamp ++ (joined (busy_lines r.periods) ++ closing)
unfolding report_bytes report_lines opening timed stamp_head start_head end_head closing utc_text date_text time_text
report_parts r = ap (λ (x : List ℕ). opening r.start r.end r.stamp ++ x) (joined_append (busy_lines r.periods) _)

-- the line of a period is 33 bytes longer than its head, and with CR LF 35
line_length : (h : List ℕ) (p : Period) → length (h ++ period_text p) ≡ length h + 33
unfolding period_text utc_text date_text time_text
line_length h p = length-append h (period_text p)

pub lines_length : (h : List ℕ) (ps : List Period) → length (joined (period_lines h ps)) ≡ (length h + 35) * length ps
unfolding period_lines
lines_length h [] = omega arith
lines_length h (p ∷ ps) =
    let z : length (joined (period_lines h (p ∷ ps))) ≡ length (h ++ period_text p) + suc (suc (length (joined (period_lines h ps)))) =
    length-append (h ++ period_text p) (13 ∷ 10 ∷ joined (period_lines h ps)) in
    omega (arith, z, line_length h p, lines_length h ps, mul-suc (length h + 35) (length ps))

-- how long the parts are
heads_length : (length (period_head BusyType.Busy) ≡ 21) × (length (period_head BusyType.Tentative) ≡ 31) × (length (period_head BusyType.Unavailable) ≡ 33)
unfolding period_head
heads_length = (refl, refl, refl)

pub opening_length : (a b s : ℕ) → length (opening a b s) ≡ 160
unfolding opening timed stamp_head start_head end_head utc_text date_text time_text
opening_length a b s = refl

pub closing_length : length closing ≡ 30
unfolding closing
closing_length = refl

busy_length : (f : BusyType → List Period)
    → length (joined (busy_lines f)) ≡ 56 * length (f BusyType.Busy) + (66 * length (f BusyType.Tentative) + 68 * length (f BusyType.Unavailable))
busy_length f =
    ap length (busy_parts f)
    ∙ simp (length-append, lines_length, heads_length.0, heads_length.1, heads_length.2)

pub parts_length : (r : Report) → length (report_bytes r) ≡ 160 + (length (joined (busy_lines r.periods)) + 30)
parts_length r = ap length (report_parts r) ∙ simp (length-append, opening_length, closing_length)

-- the length is known from the number of periods of each type
pub report_length_lem : (r : Report) → length (report_bytes r) ≡ report_length (length (r.periods BusyType.Busy)) (length (r.periods BusyType.Tentative)) (length (r.periods BusyType.Unavailable))
unfolding report_length
report_length_lem r = omega (arith, parts_length r, busy_length r.periods)

-- 512 periods of the longest line
pub report_short : (r : Report) → period_count r ≤ 512 → length (report_bytes r) ≤ 35006
unfolding period_count report_length
report_short r h = rw (report_length_lem r) (omega arith)

-- a report of 190 bytes lists no period
pub empty_periods : (r : Report) → length (report_bytes r) ≡ 190 → (b : BusyType) → is_busy b ≡ true → length (r.periods b) ≡ 0
unfolding report_length is_busy
empty_periods r e BusyType.Busy u = omega (arith, report_length_lem r)
empty_periods r e BusyType.Tentative u = omega (arith, report_length_lem r)
empty_periods r e BusyType.Unavailable u = omega (arith, report_length_lem r)
empty_periods r e BusyType.Free u = clash u refl

-- ---- equal periods, equal bytes

pub equal_bytes : (r s : Report) → r.start ≡ s.start → r.end ≡ s.end → r.stamp ≡ s.stamp
    → ((b : BusyType) → is_busy b ≡ true → r.periods b ≡ s.periods b)
    → report_bytes r ≡ report_bytes s
unfolding report_bytes report_lines busy_lines is_busy
equal_bytes r s x y z p = rw (x, y, z, p BusyType.Busy refl, p BusyType.Tentative refl, p BusyType.Unavailable refl)
