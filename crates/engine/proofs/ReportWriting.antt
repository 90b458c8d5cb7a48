-- The last stage of a report: where the output is too short, and what is left in it where it is not.
use Rattle.std.specs.Prelude.{Result, Ok, Err}
use Prim.Native.Nat.{ℕ, ◌+◌, ◌≤◌, ◌<◌}
use mathlib.Core.Path.{◌≡◌, refl, sym, ap, ◌∙◌}
use mathlib.Core.Bool.{true}
use mathlib.Core.List.{List, ◌++◌}
use native.Mathlib.Omega.{arith}
use lib.ListN.{length, drop}
use lib.Seq.{sets-eq}
use borrow.Author.Tests.{lt-ltb, le-ltb}
use Rattle.table.specs.Tables.{table_at, listed}
use Rattle.table.specs.Seconds.{seconds_in}
use Rattle.periods.specs.declared.BusyType.{BusyType}
use Rattle.periods.specs.BusyTypes.{is_busy}
use Rattle.report.specs.Bytes.{report_bytes, report_length}
use Rattle.report.specs.Writing.{packed, report_of, Put}
use Rattle.report.proofs.Writing.{tables_length}
use Rattle.ascii.proofs.Bools.{clash}
use Rattle.refusals.specs.Refusals.{first_refusal}
use Rattle.calendar.specs.declared.Refusal.{Refusal}
use Rattle.calendar.specs.Refused.{refused_at, refusal_of}
use Rattle.engine.specs.Answers.{Outcome, report, length_in, length_told, unless_refused}
use Rattle.engine.specs.Reporting.{output_row, output_after, seconds_told}
use Rattle.engine.specs.ReportWriting.{write_rows, write_outcome, Wrote, WroteCounted}

module _ (a b s x y z : ℕ) (ss es : List ℕ) (long : length ss ≡ 512) (even : length es ≡ 512) (few : x + y + z ≤ 512) {n : ℕ} (e : n ≡ report_length x y z) where
  -- the length that is counted is the report's
  pub counted : n ≡ length (report_bytes (report_of a b s (packed x y z ss es)))
  counted = e ∙ sym (tables_length a b s x y z ss es (omega arith) (omega arith))

  pub counted_room : {l : ℕ} → n ≤ l → length (report_bytes (report_of a b s (packed x y z ss es))) ≤ l
  counted_room h = omega (arith, counted)

module _ (bytes out : List ℕ) where
  rows_short : length out < length bytes → first_refusal (write_rows bytes out) ≡ refused_at 12 0
  unfolding write_rows output_row first_refusal
  rows_short h = rw (lt-ltb (length out) (length bytes) h)

  rows_room : length bytes ≤ length out → first_refusal (write_rows bytes out) ≡ Ok tt
  unfolding write_rows output_row first_refusal
  rows_room h = rw (le-ltb (length out) (length bytes) h)

  outcome_by : {f : Result (Unit {0}) Refusal} → first_refusal (write_rows bytes out) ≡ f → write_outcome bytes out ≡ unless_refused f (report (length bytes))
  unfolding write_outcome
  outcome_by e = ap (λ (f : Result (Unit {0}) Refusal). unless_refused f (report (length bytes))) e

  wrote : {w : Result ℕ Refusal} {left : List ℕ} {f : Result (Unit {0}) Refusal} → first_refusal (write_rows bytes out) ≡ f → refusal_of w ≡ f → length_told w ≡ length_in (unless_refused f (report (length bytes)))
      → left ≡ output_after (unless_refused f (report (length bytes))) bytes out → Wrote bytes out w left
  wrote e f g h =
      record {
        fault_is = f ∙ sym e;
        length_is = g ∙ ap length_in (sym (outcome_by e));
        output_left_is = h ∙ ap (λ (o : Outcome). output_after o bytes out) (sym (outcome_by e));
      }

  module _ {n : ℕ} (e : n ≡ length bytes) where
    pub write_refused : length out < n → Wrote bytes out (Err (record { number = 12; line = 0 })) out
    unfolding length_in output_after unless_refused
    write_refused h = wrote (rows_short (omega arith)) refl refl refl

    pub write_done : {left : List ℕ} {r : ℕ} → n ≤ length out → Put out 0 bytes left r → Wrote bytes out (Ok n) left
    unfolding length_in output_after unless_refused
    write_done h p =
        wrote (rows_room (omega arith)) refl e
        (p.bytes ∙ sets-eq bytes out 0 (omega arith) ∙ ap (λ (k : ℕ). bytes ++ drop k out) (let z : 0 + length bytes ≡ length bytes = omega arith in z))

-- the seconds of the rows of each type
pub wrote_counted : (a b s x y z : ℕ) (ss es : List ℕ) {out left : List ℕ} {w : Result ℕ Refusal} {i j k : ℕ} → Wrote (report_bytes (report_of a b s (packed x y z ss es))) out w left
    → i ≡ seconds_in (listed (table_at 0 x ss es)) → j ≡ seconds_in (listed (table_at x y ss es)) → k ≡ seconds_in (listed (table_at (x + y) z ss es))
    → WroteCounted (report_of a b s (packed x y z ss es)) out (record { written = w; busy = i; tentative = j; unavailable = k }) left
unfolding packed report_of is_busy seconds_told
wrote_counted a b s x y z ss es {w = w} {i} {j} {k} p e f g = record { wrote = p; seconds_are = seconds }
  where
    seconds : (b : BusyType) → is_busy b ≡ true → seconds_told (record { written = w; busy = i; tentative = j; unavailable = k }) b ≡ seconds_in (packed x y z ss es b)
    seconds BusyType.Busy u = e
    seconds BusyType.Tentative u = f
    seconds BusyType.Unavailable u = g
    seconds BusyType.Free u = clash u refl
