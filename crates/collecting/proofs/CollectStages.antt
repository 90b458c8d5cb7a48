-- The stages of collecting: range, stamp and offset read; tables, none where something is refused,
-- otherwise, from the stored pieces, the covered seconds of the range; and the work buffer that goes with them.
use Rattle.std.specs.Prelude.{None, Option, Result, Some, Ok, Err}
use Prim.Native.Nat.{ℕ, ◌≤◌, ◌<◌, zero, suc, ◌+◌, ◌-◌}
use Rattle.nesting.specs.declared.StructureError.{StructureError}
use Rattle.std.specs.Result.{IsErrAnd}
use mathlib.Core.Path.{◌≡◌, sym, ap, ◌∙◌, refl, subst}
use mathlib.Core.Bool.{Bool, true, false, ◌&&◌}
use mathlib.Core.List.{List, [], ◌∷◌, append_assoc, Memᴰ}
use native.Mathlib.Omega.{arith}
use lib.Dec.{ltb}
use lib.IntN.{ℤ}
use lib.ListN.{length, take}
use lib.Seq.{sets}
use borrow.Author.Tests.{ltb-true, leb-true, lt-ltb, le-ltb}
use Rattle.ascii.proofs.Bools.{and_left, and_right, clash}
use Rattle.text.specs.Unfolding.{Unfolded}
use Rattle.text.proofs.Unfolding.{unfolded_front}
use Rattle.time.specs.Limits.{last_second, range_good}
use Rattle.periods.specs.declared.Period.{Period}
use Rattle.periods.specs.declared.BusyType.{BusyType}
use Rattle.periods.specs.BusyTypes.{report_place, is_busy, BusyPeriod}
use Rattle.periods.proofs.Periods.{second_in_true}
use Rattle.values.specs.declared.times.Context.{Context}
use Rattle.table.specs.Runs.{runs, Lies}
use Rattle.table.specs.Tables.{table_at, listed}
use Rattle.table.specs.Inserting.{inserted_all}
use Rattle.table.proofs.Tables.{listed_kept}
use Rattle.table.proofs.Runs.{runs_same}
use Rattle.report.specs.Writing.{packed}
use Rattle.events.specs.Events.{Entry}
use Rattle.calendar.specs.Meaning.{structure_refusal, entries_of, components_of, contents_of, fault_of}
use Rattle.calendar.specs.declared.Refusal.{Refusal}
use Rattle.calendar.specs.Refused.{refused_at}
use Rattle.pieces.specs.BusyPeriods.{stated_periods, instance_periods, gathered, busy_periods}
use Rattle.pieces.specs.Columns.{flat, stored, Stored, Room}
use Rattle.pieces.specs.Covered.{covered_by, covered}
use Rattle.pieces.specs.Pieces.{pieces_of, busy_pieces}
use Rattle.pieces.proofs.Columns.{stored_as, stored_then, stored_few, stored_long, stored_all}
use Rattle.pieces.proofs.Pieces.{pieces_of_append, busy_pieces_cover, pieces_inside}
use Rattle.refusals.specs.Refusals.{Row, first_refusal, row, structure_rows, contents_rows, calendar_rows}
use Rattle.refusals.specs.Offsets.{offset_good, offset_read}
use Rattle.refusals.specs.Stages.{work_by}
use Rattle.refusals.proofs.Offsets.{read_out, shift_bound, offset_given}
use Rattle.refusals.proofs.Refusals.{row_applies, row_passed, structure_passed, structure_refused, contents_passed, contents_refused}
use Rattle.structure.specs.Reading.{StructureRead}
use Rattle.contents.specs.Contents.{EntryTerms}
use Rattle.contents.specs.Walks.{WalksPass}
use Rattle.contents.proofs.Contents.{structure_found}
use Rattle.tables.specs.Building.{periods_at, BuiltAt}
use Rattle.tables.proofs.Building.{built_stored, periods_few}
use Rattle.periods.specs.declared.Counts.{Counts}
use Rattle.collecting.specs.CalendarTerms.{stamp_good, piece_row}
use Rattle.collecting.specs.CollectStages.{call_read, Tabled, ContentsTabled, CalendarTabled, CalendarCollected, piece_rows, Typed, unless_fault, fewest_periods}

-- ---- range, stamp and offset

module _ (a e t : ℕ) where
  pub call_good : {z o : ℤ} {r : Option ℕ} → z ≡ o → (range_good a e && stamp_good t) ≡ true → r ≡ offset_read z → r ≡ call_read a e o t
  unfolding call_read
  call_good q h k = rw h (sym (offset_given q k refl))

  pub call_bad : (o : ℤ) → (range_good a e && stamp_good t) ≡ false → None ≡ call_read a e o t
  unfolding call_read
  call_bad o h = rw h

  -- what was read tells what is good
  pub read_call_good : {s : ℕ} (o : ℤ) → call_read a e o t ≡ Some s
      → (range_good a e ≡ true) × (stamp_good t ≡ true) × (offset_read o ≡ Some s)
  unfolding call_read
  read_call_good {s} o q = go (range_good a e && stamp_good t) refl
    where
      go : (y : Bool) → (range_good a e && stamp_good t) ≡ y
          → (range_good a e ≡ true) × (stamp_good t ≡ true) × (offset_read o ≡ Some s)
      go true h =
          let k : offset_read o ≡ Some s = rw h at q in
          (and_left (range_good a e) (stamp_good t) h, and_right (range_good a e) (stamp_good t) h, k)
      go false h = let k : None ≡ Some s = rw h at q in let z : ◌≡◌ {A = ℕ} 0 1 = cc in absurd (omega arith)

  pub read_call_bad : (o : ℤ) → call_read a e o t ≡ None → (range_good a e && stamp_good t && offset_good o) ≡ false
  unfolding call_read
  read_call_bad o q = go (range_good a e) refl (stamp_good t) refl
    where
      go : (x : Bool) → range_good a e ≡ x → (y : Bool) → stamp_good t ≡ y → (range_good a e && stamp_good t && offset_good o) ≡ false
      go true h true k = let w : offset_read o ≡ None = rw (h, k) at q in rw (h, k) (read_out o w)
      go true h false k = rw (h, k)
      go false h y k = rw h

  -- what was read of z, the number that the machine reads back from the bits of the offset, was read of the offset
  pub call_given : {z o : ℤ} {r x : Option ℕ} → z ≡ o → r ≡ call_read a e z t → r ≡ x → call_read a e o t ≡ x
  call_given q k h = ap (λ (y : ℤ). call_read a e y t) (sym q) ∙ sym k ∙ h

  -- what later stages are promised of the call
  pub call_bounds : {s : ℕ} (o : ℤ) → call_read a e o t ≡ Some s → (s ≤ 100800) × (a < e) × (e ≤ last_second)
  unfolding range_good
  call_bounds o q =
      let h = read_call_good o q in
      (shift_bound o h.2, ltb-true a e (and_left (ltb a e) _ h.0), leb-true e last_second (and_right (ltb a e) _ h.0))

-- ---- a refusal

module _ {rows : List Row} {ps : BusyType → List Period} {ss es : List ℕ} where
  pub tabled_refused : {f : Refusal} → first_refusal rows ≡ Err f → Tabled rows ps (Err f) ss es
  unfolding unless_fault
  tabled_refused e =
      record {
        fault_is = sym e;
        periods_are = λ b u. sym (ap (λ (f : Result (Unit {0}) Refusal). unless_fault f (ps b)) e);
        few = omega arith;
      }

  -- the same, handed up
  pub tabled_up : {r : Result Counts Refusal} {f : Refusal} → first_refusal rows ≡ Err f → IsErrAnd r (λ y. y ≡ f) → Tabled rows ps r ss es
  tabled_up {r = Ok x} e z = absurd z
  tabled_up {r = Err y} e z = tabled_refused (e ∙ ap Err (sym z))

module _ {rows : List Row} {ps : BusyType → List Period} {r : Result Counts Refusal} {ss es : List ℕ} where
  pub tabled_passed : {more : List Row} → first_refusal rows ≡ first_refusal more → Tabled more ps r ss es → Tabled rows ps r ss es
  tabled_passed e t =
      record {
        fault_is = t.fault_is ∙ sym e;
        periods_are = λ b u. t.periods_are b u ∙ ap (λ (f : Result (Unit {0}) Refusal). unless_fault f (ps b)) (sym e);
        few = t.few;
      }

-- ---- no refusal

-- the tables of three types, each behind the one before, are the types' tables in the end
module _ {c : List ℕ} {n x : ℕ} {ss es us vs : List ℕ} (long : length ss ≡ 512) (even : length es ≡ 512) (small : n ≤ 512) (p : BuiltAt c n 0 0 ss es x us vs) where
  pub busy_fits : x + length (periods_at 1 n c) ≤ length us
  busy_fits = omega (arith, p.built.count, periods_few n c, p.starts_long)

  module _ {y : ℕ} {ws xs : List ℕ} (q : BuiltAt c n 1 x us vs y ws xs) where
    pub tentative_fits : x + y + length (periods_at 2 n c) ≤ length ws
    tentative_fits = omega (arith, p.built.count, q.built.count, periods_few n c, p.starts_long, q.starts_long)

    pub typed : {z : ℕ} {ys zs : List ℕ} → BuiltAt c n 2 (x + y) ws xs z ys zs → Typed c n (record { busy = x; tentative = y; unavailable = z }) ys zs
    unfolding packed report_place is_busy
    typed {z} {ys} {zs} r = record { built = made; few = omega (arith, p.built.count, q.built.count, r.built.count, periods_few n c) }
      where
        -- what stands before a row stays
        first_kept : listed (table_at 0 x ws xs) ≡ listed (table_at 0 x us vs)
        first_kept =
            listed_kept 0 x x us vs ws xs (omega arith) (omega (arith, busy_fits)) (omega (arith, p.starts_long, p.ends_long))
            q.starts_long (omega (arith, p.starts_long, p.ends_long, q.ends_long)) q.starts_before_holds q.ends_before_holds

        then_kept : (k m : ℕ) → k + m ≤ x + y → listed (table_at k m ys zs) ≡ listed (table_at k m ws xs)
        then_kept k m h =
            listed_kept k m (x + y) ws xs ys zs h (omega (arith, tentative_fits)) (omega (arith, p.starts_long, p.ends_long, q.starts_long, q.ends_long))
            r.starts_long (omega (arith, p.starts_long, p.ends_long, q.starts_long, q.ends_long, r.ends_long)) r.starts_before_holds r.ends_before_holds

        made : (b : BusyType) → is_busy b ≡ true → packed x y z ys zs b ≡ inserted_all [] (periods_at (report_place b) n c)
        made BusyType.Busy u = then_kept 0 x (omega arith) ∙ first_kept ∙ p.built.list
        made BusyType.Tentative u = then_kept x y (omega arith) ∙ q.built.list
        made BusyType.Unavailable u = r.built.list
        made BusyType.Free u = clash u refl

-- no more are taken than there are
take_least : (m : ℕ) (ps : List BusyPeriod) → length (take m ps) ≤ length ps
take_least zero ps = omega arith
take_least (suc m) [] = omega arith
take_least (suc m) (p ∷ ps) = omega (arith, take_least m ps)

module _ (a e : ℕ) (es : List Entry) where
  -- a range and its length
  range_end_holds : a < e → a + (e - a) ≡ e
  range_end_holds h = omega arith

  pieces_lie : a < e → (p : BusyPeriod) → Memᴰ p (busy_pieces a e es) → Lies a (a + (e - a)) p.period
  unfolding busy_pieces
  pieces_lie h p m =
      let i = pieces_inside a e (busy_periods es) m in
      record { from = i.from; some = i.rising; to = omega (arith, i.to) }

  -- in the range, the pieces cover what the calendar covers
  pieces_runs : (b : BusyType) → is_busy b ≡ true → a < e → runs (covered_by b (busy_pieces a e es)) a (e - a) ≡ fewest_periods a e es b
  unfolding fewest_periods
  pieces_runs b u h =
      runs_same (covered_by b (busy_pieces a e es)) (covered b es) a (e - a)
      (λ x k l. busy_pieces_cover b u a e x es ∙ ap (λ (t : Bool). t && covered b es x) (second_in_true a e x k (omega (arith, range_end_holds h))))

  module _ {o o' : List ℕ} {n : ℕ} (h : Stored o 0 (busy_pieces a e es) o' n) where
    stored_many : 512 < n → first_refusal (piece_row (busy_pieces a e es) ∷ []) ≡ refused_at 11 0
    unfolding piece_row stored
    stored_many k =
        row_applies _ _ (lt-ltb 512 (length (busy_pieces a e es)) (omega (arith, h.count, take_least 513 (busy_pieces a e es))))

    module _ (k : n ≤ 512) where
      all_stored : stored 0 (busy_pieces a e es) ≡ busy_pieces a e es
      all_stored = stored_all h (omega arith)

      stored_count : n ≡ length (busy_pieces a e es)
      stored_count = (let z : n ≡ length (stored 0 (busy_pieces a e es)) = omega (arith, h.count) in z) ∙ ap length all_stored

      stored_numbers : o' ≡ sets o 0 (flat (busy_pieces a e es))
      stored_numbers = h.numbers ∙ ap (λ (ps : List BusyPeriod). sets o 0 (flat ps)) all_stored

      few_stored : first_refusal (piece_row (busy_pieces a e es) ∷ []) ≡ Ok tt
      unfolding piece_row first_refusal
      few_stored = row_passed (row 11 0 (ltb 512 (length (busy_pieces a e es)))) [] (le-ltb 512 (length (busy_pieces a e es)) (omega (arith, stored_count)))

      tabled_stored : {r : Counts} {us vs : List ℕ} → Room o → a < e → Typed o' n r us vs → Tabled (piece_row (busy_pieces a e es) ∷ []) (fewest_periods a e es) (Ok r) us vs
      unfolding unless_fault
      tabled_stored l w t =
          record {
            fault_is = sym few_stored;
            periods_are = λ b u.
                t.built b u
                ∙ built_stored b a (e - a) (busy_pieces a e es) o stored_numbers (omega (arith, stored_count)) stored_count (pieces_lie w)
                ∙ pieces_runs b u w
                ∙ sym (ap (λ (f : Result (Unit {0}) Refusal). unless_fault f (fewest_periods a e es b)) few_stored);
            few = t.few;
          }

-- the pieces of stated periods, and behind them those of instances, are all
pub all_pieces : (a e : ℕ) (es : List Entry) {o o' o'' : List ℕ} {n m : ℕ} → Stored o 0 (pieces_of a e (gathered stated_periods es)) o' n
    → Stored o' n (pieces_of a e (gathered instance_periods es)) o'' m → Stored o 0 (busy_pieces a e es) o'' m
unfolding busy_pieces busy_periods
all_pieces a e es x y = stored_as (stored_then x y) (sym (pieces_of_append a e (gathered stated_periods es) (gathered instance_periods es)))

-- room and number for the pieces of events
pub stated_room : {c : Context} {u index rows : List ℕ} {a e : ℕ} {o : List ℕ} {new : EntryTerms} {n : ℕ} → WalksPass c u index rows a e o new n
    → Room o → Room new.pieces × (n ≤ 513)
stated_room k l = (stored_long k.stored ∙ l, stored_few k.stored (omega arith))

-- ---- refusals 8 to 11, then the tables

pub contents_refuse : (c : Context) (u : List ℕ) (a e : ℕ) {us vs : List ℕ} {r : Result Counts Refusal} {f : Refusal} → fault_of (contents_of c u) ≡ Err f → IsErrAnd r (λ y. y ≡ f) → ContentsTabled c u a e r us vs
contents_refuse c u a e q w = tabled_up (contents_refused c u _ q) w

module _ {c : Context} {u index rows : List ℕ} {a e : ℕ} {o : List ℕ} {new : EntryTerms} {i : ℕ} (k : WalksPass c u index rows a e o new i) where
  contents_pass : {r : Result Counts Refusal} {us vs : List ℕ} → Tabled (piece_rows c u a e) (fewest_periods a e (entries_of c (components_of u))) r us vs → ContentsTabled c u a e r us vs
  contents_pass t = tabled_passed (contents_passed c u _ k.no_fault) t

  module _ {o'' : List ℕ} {n : ℕ} (d : Stored new.pieces i (pieces_of a e (gathered instance_periods (entries_of c (components_of u)))) o'' n) where
    pub contents_many : {us vs : List ℕ} → 512 < n → ContentsTabled c u a e (Err (record { number = 11; line = 0 })) us vs
    unfolding piece_rows
    contents_many m = contents_pass (tabled_refused (stored_many a e _ (all_pieces a e _ k.stored d) m))

    pub contents_few : {r : Counts} {us vs : List ℕ} → n ≤ 512 → Room o → a < e → Typed o'' n r us vs → ContentsTabled c u a e (Ok r) us vs
    unfolding piece_rows
    contents_few m l w t = contents_pass (tabled_stored a e _ (all_pieces a e _ k.stored d) m l w t)

-- ---- from the calendar on

-- by what reading the structure answered
module _ {u index rows : List ℕ} {x : Result (Unit {0}) StructureError} (k : StructureRead u index rows x) {f : Result (Unit {0}) Refusal} (q : f ≡ structure_refusal x) where
  pub structure_refuses : (c : Context) (a e : ℕ) {r : Result Counts Refusal} {us vs : List ℕ} {y : Refusal} → f ≡ Err y → IsErrAnd r (λ z. z ≡ y) → CalendarTabled c u a e r us vs
  unfolding calendar_rows
  structure_refuses c a e h w =
      tabled_up (ap first_refusal (append_assoc (structure_rows u) (contents_rows c u) (piece_rows c u a e)) ∙ structure_refused u _ (structure_found k q ∙ h)) w

  pub structure_passes : (c : Context) (a e : ℕ) {r : Result Counts Refusal} {us vs : List ℕ} → f ≡ Ok tt → ContentsTabled c u a e r us vs → CalendarTabled c u a e r us vs
  unfolding calendar_rows
  structure_passes c a e h t =
      tabled_passed (ap first_refusal (append_assoc (structure_rows u) (contents_rows c u) (piece_rows c u a e)) ∙ structure_passed u _ (structure_found k q ∙ h)) t

-- the unfolded calendar was left in the buffer
pub calendar_collected : (c : Context) (cal work : List ℕ) (a e : ℕ) {left : List ℕ} {m : ℕ} {r : Result Counts Refusal} {us vs : List ℕ} → Unfolded cal work left m
    → CalendarTabled c (take m left) a e r us vs → CalendarCollected c cal work a e r us vs left
unfolding work_by
calendar_collected c cal work a e {r = r} {us} {vs} k t =
    record { tabled = subst (λ (u : List ℕ). CalendarTabled c u a e r us vs) (unfolded_front k) t; work_left = k.bytes }
