-- Demands 2 and 3 of the report call: a report stands for the covered seconds of its calendar, is read back as it was written,
-- and is the same for two calls exactly when their calendars cover the same seconds.
use Rattle.std.specs.Prelude.{Ok}
use Prim.Native.Nat.{ℕ, ◌≤◌, ◌<◌, suc, ◌-◌, ◌+◌}
use mathlib.Core.Path.{◌≡◌, refl, sym, ap, ◌∙◌, subst}
use mathlib.Core.Bool.{true, not, ◌&&◌, Bool, false}
use mathlib.Core.List.Memᴰ
use mathlib.Core.List.{List, [], ◌∷◌, ◌++◌, append-nil, append_assoc, Memᴰ}
use mathlib.Core.Logic.{◌↔◌, ◌⊎◌, inl, inr, ⊎_elim}
use native.Mathlib.Omega.{arith}
use lib.IntN.{ℤ, pos}
use lib.ListN.{take, length, length-append}
use borrow.Author.Tests.{le-ltb}
use Rattle.ascii.proofs.Bools.{and_both, clash}
use Rattle.text.specs.Unfolding.{unfolded}
use Rattle.time.specs.Limits.{last_second, range_good}
use Rattle.time.proofs.LimitsLaws.{range_limit, range_width}
use Rattle.periods.specs.declared.Period.{Period}
use Rattle.periods.specs.declared.BusyType.{BusyType}
use Rattle.periods.specs.Periods.{covers}
use Rattle.periods.specs.BusyTypes.{is_busy, BusyPeriod, typed}
use Rattle.table.specs.Runs.{Rising, Lies}
use Rattle.table.proofs.Runs.{rising_lies, runs_only, runs_same}
use Rattle.report.specs.Bytes.{Report, report_bytes, Writable, period_count}
use Rattle.report.proofs.Bytes.{report_short, equal_bytes, empty_periods}
use Rattle.events.specs.Events.{block}
use Rattle.calendar.specs.Meaning.{entries_of, components_of, fault_of}
use Rattle.calendar.proofs.Meaning.{entries_small}
use Rattle.pieces.specs.BusyPeriods.{stated_periods, instance_periods, gathered, busy_periods}
use Rattle.pieces.specs.Covered.{of_type, covered_by, covered, Covers}
use Rattle.pieces.specs.Pieces.{busy_pieces}
use Rattle.pieces.proofs.Covered.{covered_iff}
use Rattle.pieces.proofs.Pieces.{Inside, pieces_of_same}
use Rattle.refusals.specs.Offsets.{offset_good, context_of}
use Rattle.refusals.specs.Refusals.{NoneApplies, first_refusal, calendar_rows}
use Rattle.refusals.proofs.Refusals.{none_iff, row_passed, stage_passed, calendar_first}
use Rattle.refusals.proofs.Stages.{sizes_good, sizes_passed}
use Rattle.readback.specs.Reading.{report_periods, report_meaning}
use Rattle.readback.proofs.ReadingLines.{report_unfolds}
use Rattle.readback.proofs.Reading.{report_block, report_entries, report_types, report_means}
use Rattle.collecting.specs.CalendarTerms.{CalendarTerms, stamp_good, entries_in, covered_in, report_for, pieces_for, terms_row, early_rows, piece_row, late_rows, collect_rows}
use Rattle.collecting.proofs.CalendarTerms.{writable, periods_cover, rising_writable, periods_rising}
use Rattle.engine.specs.declared.Answer.{Answer}
use Rattle.engine.specs.Reporting.{ReportCall, Reported, output_row, report_rows}
use Rattle.engine.specs.Demands.{IsReport, StandsUnder, SaysCovered, OnReport, HasRoom, ReadsBack, SameRange, SameSeconds, OneMeaning}
use Rattle.engine.specs.Answers.{outcome_of}
use Rattle.engine.proofs.DemandsAnswers.{ReportWritten, report_given, written_report}
use Rattle.engine.proofs.ReportingLaws.{range_good_holds, stamp_good_holds, few_periods}

-- ---- a report read as a calendar

-- one block, with the report's periods
pub read_entries : (o : ℤ) {r : Report} → Writable r → entries_in (report_bytes r) o ≡ block (report_block r) (report_periods r) ∷ []
unfolding entries_in
read_entries o {r} w = ap (λ (u : List ℕ). entries_of (context_of o) (components_of u)) (report_unfolds r) ∙ report_entries (context_of o) w

-- these are its busy periods
pub read_periods : (o : ℤ) {r : Report} → Writable r → busy_periods (entries_in (report_bytes r) o) ≡ report_periods r
unfolding busy_periods gathered stated_periods instance_periods
read_periods o {r} w = ap busy_periods (read_entries o w) ∙ append-nil (report_periods r ++ []) ∙ append-nil (report_periods r)

-- what it covers is what its periods cover
pub read_covered : (o : ℤ) {r : Report} → Writable r → (b : BusyType) → is_busy b ≡ true → (x : ℕ) → covered_in (report_bytes r) o b x ≡ covers (r.periods b) x
unfolding covered_in covered covered_by
read_covered o {r} w b u x =
    ap (λ (ps : List BusyPeriod). covers (of_type b ps) x) (read_periods o w)
    ∙ ap (λ (ps : List Period). covers ps x) (report_types r b u)

-- ---- a call's report

module _ (m : CalendarTerms) (g : range_good m.start m.end ≡ true) (s : stamp_good m.stamp ≡ true) where
  -- it covers what the calendar covers
  pub read_covers : (o : ℤ) (b : BusyType) → is_busy b ≡ true → (x : ℕ) → m.start ≤ x → x < m.end
      → covered_in (report_bytes (report_for m)) o b x ≡ covered_in m.calendar m.offset b x
  read_covers o b u x h k = read_covered o (writable m g s) b u x ∙ periods_cover m g b x h k

-- ---- Demand 2

-- a covered second is covered by an instance or a period, for the reader
pub covered_reads : (cal : List ℕ) (o : ℤ) (b : BusyType) (x : ℕ) → x ≤ last_second → (covered_in cal o b x ≡ true) ↔ Covers (entries_in cal o) b x
unfolding covered_in entries_in
covered_reads cal o b x l =
    covered_iff b (entries_in cal o) x l (entries_small (context_of o) (components_of (unfolded cal)))

-- some offset is good
zero_good : offset_good (pos 0) ≡ true
unfolding offset_good
zero_good = refl

pub says_covered : {m : ReportCall} {a : Answer} {work_left out-left : List ℕ} → Reported m a work_left out-left → SaysCovered m a out-left
unfolding StandsUnder
says_covered {m} {a} {out-left = out-left} p = record { stands_when = stands }
  where
    stands : (n : ℕ) → IsReport a n → (b : BusyType) → is_busy b ≡ true → (x : ℕ) → m.terms.start ≤ x → x < m.terms.end
        → StandsUnder (take n out-left) b x ↔ Covers (entries_in m.terms.calendar m.terms.offset) b x
    stands n e b u x h k =
        let z = written_report p e in
        let g = range_good_holds m z.none_applies in
        let same : (o : ℤ) → covered_in (take n out-left) o b x ≡ covered_in m.terms.calendar m.terms.offset b x =
        λ o. ap (λ (c : List ℕ). covered_in c o b x) z.its_bytes ∙ read_covers m.terms g (stamp_good_holds m z.none_applies) o b u x h k in
        let l : x ≤ last_second = omega (arith, range_limit m.terms.start m.terms.end g) in
        let reads = covered_reads m.terms.calendar m.terms.offset b x l in
        let again : (o : ℤ) → (covered_in (take n out-left) o b x ≡ true) ↔ Covers (entries_in (take n out-left) o) b x =
        λ o. covered_reads (take n out-left) o b x l in
        (λ f. reads.0 (sym (same (pos 0)) ∙ (again (pos 0)).1 (f (pos 0) zero_good)), λ c o q. (again o).0 (same o ∙ reads.1 c))

-- ---- the pieces of a report are its own periods

inside_typed : {lo hi : ℕ} (b : BusyType) → is_busy b ≡ true → (p : Period) → Lies lo hi p → Inside lo hi (record { busy = b; period = p })
inside_typed b u p l = record { is_busy_holds = u; from = l.from; rising = l.some; to = l.to }

typed_inside : {lo hi : ℕ} (b : BusyType) → is_busy b ≡ true → (ps : List Period) → ((p : Period) → Memᴰ p ps → Lies lo hi p)
    → (p : BusyPeriod) → Memᴰ p (typed b ps) → Inside lo hi p
typed_inside b u [] f p m = absurd (Memᴰ.not-nil m)
typed_inside {lo} {hi} b u (q ∷ ps) f p m =
    go (Memᴰ.cases_cons m) (typed_inside b u ps (λ r d. f r (Memᴰ.tail d)) p)
  where
    go : (p ≡ record { busy = b; period = q }) ⊎ Memᴰ p (typed b ps) → (Memᴰ p (typed b ps) → Inside lo hi p) → Inside lo hi p
    go (inl e) k = subst (Inside lo hi) (sym e) (inside_typed b u q (f q (Memᴰ.head refl)))
    go (inr d) k = k d

-- a period of a report lies in the range that its periods rise in
periods_inside : {lo hi : ℕ} (r : Report) → ((b : BusyType) → Rising lo (r.periods b) hi) → (p : BusyPeriod) → Memᴰ p (report_periods r) → Inside lo hi p
unfolding report_periods is_busy
periods_inside {lo} {hi} r f p m =
    let at : (b : BusyType) → is_busy b ≡ true → Memᴰ p (typed b (r.periods b)) → Inside lo hi p =
    λ b u d. typed_inside b u (r.periods b) (λ q k. rising_lies (f b) k) p d in
    ⊎_elim (at BusyType.Busy refl)
    (λ d. ⊎_elim (at BusyType.Tentative refl) (at BusyType.Unavailable refl) (Memᴰ.append_cases (typed BusyType.Tentative (r.periods BusyType.Tentative)) d))
    (Memᴰ.append_cases (typed BusyType.Busy (r.periods BusyType.Busy)) m)

typed_length : (b : BusyType) (ps : List Period) → length (typed b ps) ≡ length ps
typed_length b [] = refl
typed_length b (p ∷ ps) = ap suc (typed_length b ps)

-- as many as its periods
periods_length : (r : Report) → length (report_periods r) ≡ period_count r
unfolding report_periods period_count
periods_length r =
    rw (length-append, length-append)
    (omega (
      arith,
      typed_length BusyType.Busy (r.periods BusyType.Busy),
      typed_length BusyType.Tentative (r.periods BusyType.Tentative),
      typed_length BusyType.Unavailable (r.periods BusyType.Unavailable),
    ))

-- ---- rows that pass

no_row : first_refusal [] ≡ Ok tt
unfolding first_refusal
no_row = refl

-- a table passes where each stage does
pub none_refuses : (m : ReportCall) → (range_good m.terms.start m.terms.end && stamp_good m.terms.stamp && offset_good m.terms.offset) ≡ true
    → length m.terms.calendar ≤ 65536
    → length m.terms.calendar ≤ length m.terms.work
    → first_refusal (calendar_rows (context_of m.terms.offset) (unfolded m.terms.calendar)) ≡ Ok tt
    → length (pieces_for m.terms) ≤ 512
    → length (report_bytes (report_for m.terms)) ≤ length m.output
    → NoneApplies (report_rows m)
unfolding NoneApplies report_rows collect_rows early_rows terms_row late_rows piece_row output_row
none_refuses m one two three six eleven twelve =
    (none_iff (report_rows m)).0
    (ap first_refusal (append_assoc (early_rows m.terms) (late_rows m.terms) _)
    ∙ row_passed _ _ (ap not one)
    ∙ sizes_passed m.terms.calendar m.terms.work _ (sym (sizes_good m.terms.calendar m.terms.work two three))
    ∙ ap first_refusal (append_assoc (calendar_rows (context_of m.terms.offset) (unfolded m.terms.calendar)) (piece_row (pieces_for m.terms) ∷ []) _)
    ∙ stage_passed (calendar_rows (context_of m.terms.offset) (unfolded m.terms.calendar)) _ six
    ∙ row_passed _ _ (le-ltb 512 _ eleven)
    ∙ row_passed _ _ (le-ltb _ _ twelve)
    ∙ no_row)

-- ---- a canonical report: over a good range, with a good stamp, few periods that rise inside the range

pub record Canonical (r : Report) : Type 0 where
  pub range_fits : range_good r.start r.end ≡ true
  pub stamp_fits : stamp_good r.stamp ≡ true
  pub rising : (b : BusyType) → Rising r.start (r.periods b) r.end
  pub few : period_count r ≤ 512

-- every call's report is one
pub call_canonical : (m : ReportCall) → NoneApplies (report_rows m) → Canonical (report_for m.terms)
unfolding report_for
call_canonical m h =
    record { range_fits = range_good_holds m h; stamp_fits = stamp_good_holds m h; rising = periods_rising m.terms (range_good_holds m h); few = few_periods m h }

-- a call on its bytes, over its range with its stamp, and with room
pub record CallOn (r : Report) (m : ReportCall) : Type 0 where
  pub its_bytes : m.terms.calendar ≡ report_bytes r
  pub its_start : m.terms.start ≡ r.start
  pub its_end : m.terms.end ≡ r.end
  pub its_stamp : m.terms.stamp ≡ r.stamp
  pub offset_good_holds : offset_good m.terms.offset ≡ true
  pub work_long : length (report_bytes r) ≤ length m.terms.work
  pub output_long : length (report_bytes r) ≤ length m.output

module _ {r : Report} (c : Canonical r) {m : ReportCall} (k : CallOn r m) where
  can_write : Writable r
  can_write = rising_writable r c.range_fits c.stamp_fits c.rising

  range_on : range_good m.terms.start m.terms.end ≡ true
  range_on = rw (k.its_start, k.its_end) c.range_fits

  -- 1
  first_on : (range_good m.terms.start m.terms.end && stamp_good m.terms.stamp && offset_good m.terms.offset) ≡ true
  first_on = and_both (and_both range_on (rw k.its_stamp c.stamp_fits)) k.offset_good_holds

  -- 6 to 10
  calendar_on : first_refusal (calendar_rows (context_of m.terms.offset) (unfolded m.terms.calendar)) ≡ Ok tt
  unfolding report_meaning fault_of
  calendar_on =
      ap (λ (u : List ℕ). first_refusal (calendar_rows (context_of m.terms.offset) u)) (ap unfolded k.its_bytes ∙ report_unfolds r)
      ∙ calendar_first (context_of m.terms.offset) (report_bytes r)
      ∙ ap fault_of (report_means (context_of m.terms.offset) can_write)

  -- 11: its pieces are its own periods
  pub pieces_on : pieces_for m.terms ≡ report_periods r
  unfolding pieces_for busy_pieces
  pieces_on =
      rw (k.its_start, k.its_end, k.its_bytes, read_periods m.terms.offset can_write)
      (pieces_of_same r.start r.end (report_periods r) (periods_inside r c.rising))

  -- the periods come back
  pub periods_on : (b : BusyType) → is_busy b ≡ true → (report_for m.terms).periods b ≡ r.periods b
  unfolding report_for
  periods_on b u =
      sym (runs_only (covered_in m.terms.calendar m.terms.offset b) m.terms.start (m.terms.end - m.terms.start)
      (rw (range_width m.terms.start m.terms.end range_on, k.its_start, k.its_end) (c.rising b))
      (λ x h l. sym (ap (λ (s : List ℕ). covered_in s m.terms.offset b x) k.its_bytes ∙ read_covered m.terms.offset can_write b u x)))

  -- and so do the bytes
  pub bytes_on : report_bytes (report_for m.terms) ≡ report_bytes r
  unfolding report_for
  bytes_on = equal_bytes (report_for m.terms) r k.its_start k.its_end k.its_stamp periods_on

  pub none_on : NoneApplies (report_rows m)
  none_on =
      let y : length m.terms.calendar ≡ length (report_bytes r) = ap length k.its_bytes in
      none_refuses m first_on
      (omega (arith, y, report_short r c.few))
      (omega (arith, y, k.work_long))
      calendar_on
      (omega (arith, c.few, ap length pieces_on, periods_length r))
      (omega (arith, ap length bytes_on, k.output_long))

-- ---- reading back

call_on_lem : {m again : ReportCall} {n : ℕ} {out-left : List ℕ} → ReportWritten m n out-left → OnReport m n out-left again → HasRoom n again → CallOn (report_for m.terms) again
unfolding report_for
call_on_lem z c h =
    record {
      its_bytes = c.its_bytes ∙ z.its_bytes;
      its_start = c.same_range.same_start;
      its_end = c.same_range.same_end;
      its_stamp = c.same_range.same_stamp;
      offset_good_holds = h.offset_good_holds;
      work_long = rw (← z.its_length) h.work_long;
      output_long = rw (← z.its_length) h.output_long;
    }

pub reads_back : {m again : ReportCall} {a b : Answer} {work_left out-left work-again out-again : List ℕ}
    → Reported m a work_left out-left → Reported again b work-again out-again
    → ReadsBack m a out-left again b out-again
reads_back {m} {again} {a} {b} {out-left = out-left} {out-again = out-again} p q = record { same_bytes = back }
  where
    back : (n : ℕ) → IsReport a n → OnReport m n out-left again → HasRoom n again → IsReport b n × (take n out-again ≡ take n out-left)
    back n i c h =
        let z = written_report p i in
        let r = call_canonical m z.none_applies in
        let k = call_on_lem z c h in
        let y = bytes_on r k in
        let j : IsReport b n = subst (IsReport b) (ap length y ∙ sym z.its_length) (report_given q (none_on r k)) in
        (j, (written_report q j).its_bytes ∙ y ∙ sym z.its_bytes)

-- ---- every canonical report is the report of some call that nothing refuses

abbrev pub call_on : Report → ReportCall
call_on r =
    record {
      terms = record { calendar = report_bytes r; start = r.start; end = r.end; offset = pos 0; stamp = r.stamp; work = report_bytes r };
      output = report_bytes r;
    }

on_itself : (r : Report) → CallOn r (call_on r)
unfolding offset_good
on_itself r =
    record {
      its_bytes = refl;
      its_start = refl;
      its_end = refl;
      its_stamp = refl;
      offset_good_holds = refl;
      work_long = omega arith;
      output_long = omega arith;
    }

pub some_call : {r : Report} → Canonical r → NoneApplies (report_rows (call_on r)) × (report_bytes (report_for (call_on r).terms) ≡ report_bytes r)
some_call {r} c = (none_on c (on_itself r), bytes_on c (on_itself r))

-- ---- same seconds, same bytes

-- a second counted from a start lies before the end
before_end : (a e t : ℕ) → a ≤ t → t < a + (e - a) → t < e
before_end a e t h k = omega arith

-- two tests that hold together are one
same_test : (s t : Bool) → ((s ≡ true) ↔ (t ≡ true)) → s ≡ t
same_test true t f = sym (f.0 refl)
same_test false true f = f.1 refl
same_test false false f = refl

module _ {x y : CalendarTerms} (r : SameRange x y) (g : range_good x.start x.end ≡ true) (s : SameSeconds x y) where
  same_covered : (b : BusyType) → is_busy b ≡ true → (t : ℕ) → x.start ≤ t → t < x.end
      → covered_in x.calendar x.offset b t ≡ covered_in y.calendar y.offset b t
  unfolding SameSeconds
  same_covered b u t h k =
      let l : t ≤ last_second = omega (arith, range_limit x.start x.end g) in
      let one = covered_reads x.calendar x.offset b t l in
      let two = covered_reads y.calendar y.offset b t l in
      let both = s b u t h k in
      same_test _ _ (λ e. two.1 (both.0 (one.0 e)), λ e. one.1 (both.1 (two.0 e)))

  same_periods_holds : (b : BusyType) → is_busy b ≡ true → (report_for x).periods b ≡ (report_for y).periods b
  unfolding report_for
  same_periods_holds b u =
      let f = covered_in y.calendar y.offset b in
      runs_same (covered_in x.calendar x.offset b) f x.start (x.end - x.start) (λ t h k. same_covered b u t h (before_end x.start x.end t h k))
      ∙ rw (r.same_start, r.same_end)

  pub same_bytes : report_bytes (report_for x) ≡ report_bytes (report_for y)
  unfolding report_for
  same_bytes = equal_bytes (report_for x) (report_for y) r.same_start r.same_end r.same_stamp same_periods_holds

-- ---- same bytes, same seconds

-- a second of both ranges is covered in both calendars or in neither, whatever else the calls are
pub same_second : (x y : ReportCall) → NoneApplies (report_rows x) → NoneApplies (report_rows y) → report_bytes (report_for x.terms) ≡ report_bytes (report_for y.terms)
    → (b : BusyType) → is_busy b ≡ true → (t : ℕ) → x.terms.start ≤ t → t < x.terms.end → y.terms.start ≤ t → t < y.terms.end
    → covered_in x.terms.calendar x.terms.offset b t ≡ covered_in y.terms.calendar y.terms.offset b t
same_second x y f g e b u t h k i j =
    sym (read_covers x.terms (range_good_holds x f) (stamp_good_holds x f) (pos 0) b u t h k)
    ∙ ap (λ (c : List ℕ). covered_in c (pos 0) b t) e
    ∙ read_covers y.terms (range_good_holds y g) (stamp_good_holds y g) (pos 0) b u t i j

-- ---- Demand 3

module _ {x y : ReportCall} {a b : Answer} {work-x out-x work-y out-y : List ℕ} (p : Reported x a work-x out-x) (q : Reported y b work-y out-y) where
  module _ (r : SameRange x.terms y.terms) (n k : ℕ) (e : IsReport a n) (f : IsReport b k) where
    seconds_of_lem : take n out-x ≡ take k out-y → SameSeconds x.terms y.terms
    unfolding SameSeconds
    seconds_of_lem z d u t h l =
        let v = written_report p e in
        let w = written_report q f in
        let g = range_good_holds x v.none_applies in
        let late : t ≤ last_second = omega (arith, range_limit x.terms.start x.terms.end g) in
        let one = covered_reads x.terms.calendar x.terms.offset d t late in
        let two = covered_reads y.terms.calendar y.terms.offset d t late in
        let same =
        same_second x y v.none_applies w.none_applies (sym v.its_bytes ∙ z ∙ w.its_bytes) d u t h l (rw (← r.same_start) h) (rw (← r.same_end) l) in
        (λ c. two.0 (sym same ∙ one.1 c), λ c. one.0 (same ∙ two.1 c))

    report_of_lem : SameSeconds x.terms y.terms → (n ≡ k) × (take n out-x ≡ take k out-y)
    report_of_lem s =
        let v = written_report p e in
        let w = written_report q f in
        let z = same_bytes r (range_good_holds x v.none_applies) s in
        (v.its_length ∙ ap length z ∙ sym w.its_length, v.its_bytes ∙ z ∙ sym w.its_bytes)

  pub one_meaning : OneMeaning x a out-x y b out-y
  one_meaning =
      record {
        both_report = (
          λ z. ((written_report p z.2.0).none_applies, (written_report q z.2.1).none_applies),
          λ h. (length (report_bytes (report_for x.terms)), length (report_bytes (report_for y.terms)), (report_given p h.0, report_given q h.1)),
        );
        same_report = λ r n k e f. (λ z. seconds_of_lem r n k e f z.1, report_of_lem r n k e f);
      }

-- ---- one report for calendars that differ

-- a second of a call's range, covered under a type or not
pub record SecondIs (m : CalendarTerms) (b : BusyType) (t : ℕ) (c : Bool) : Type 0 where
  pub from : m.start ≤ t
  pub to : t < m.end
  pub is_covered : covered_in m.calendar m.offset b t ≡ c

-- two calls that differ in a covered second have not the same report
pub reports_differ : (x y : ReportCall) → NoneApplies (report_rows x) → NoneApplies (report_rows y) → (b : BusyType) → is_busy b ≡ true → (t : ℕ)
    → SecondIs x.terms b t true → SecondIs y.terms b t false
    → report_bytes (report_for x.terms) ≡ report_bytes (report_for y.terms)
    → ⊥
reports_differ x y f g b u t h k e =
    clash (sym (same_second x y f g e b u t h.from h.to k.from k.to) ∙ h.is_covered) k.is_covered

-- a report that stays the same
pub constant_report : {x y : ReportCall} {a c : Answer} {work-x out-x work-y out-y : List ℕ} → Reported x a work-x out-x → Reported y c work-y out-y
    → (n k : ℕ) → IsReport a n → IsReport c k → take n out-x ≡ take k out-y
    → (b : BusyType) → is_busy b ≡ true → (t : ℕ) → SecondIs x.terms b t true → SecondIs y.terms b t false
    → ⊥
constant_report {x} {y} p q n k i j e b u t h l =
    let v = written_report p i in
    let w = written_report q j in
    reports_differ x y v.none_applies w.none_applies b u t h l (sym v.its_bytes ∙ e ∙ w.its_bytes)

-- ---- a report of nothing

none_cover : (ps : List Period) (t : ℕ) → length ps ≡ 0 → covers ps t ≡ false
unfolding covers
none_cover [] t e = refl
none_cover (p ∷ ps) t e = absurd (omega arith)

pub empty_report : {m : ReportCall} {work_left out-left : List ℕ} → Reported m (Answer.Length 190) work_left out-left
    → (b : BusyType) → is_busy b ≡ true → (t : ℕ) → SecondIs m.terms b t true
    → ⊥
unfolding IsReport outcome_of
empty_report {m} p b u t h =
    let z = written_report p refl in
    clash (periods_cover m.terms (range_good_holds m z.none_applies) b t h.from h.to ∙ h.is_covered)
    (none_cover ((report_for m.terms).periods b) t (empty_periods (report_for m.terms) (sym z.its_length) b u))
