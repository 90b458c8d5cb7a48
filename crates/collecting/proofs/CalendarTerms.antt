-- What calendar terms report: their report keeps the limits, covers what the calendar covers inside the range,
-- and has no more periods than there are busy pieces.
use Prim.Native.Nat.{ℕ, ◌-◌, ◌≤◌, ◌<◌}
use mathlib.Core.Path.{◌≡◌, refl, sym, ap, ◌∙◌, subst}
use mathlib.Core.Bool.{Bool, true, false, ◌&&◌}
use mathlib.Core.List.Memᴰ
use mathlib.Core.List.{List, [], ◌∷◌, Memᴰ}
use mathlib.Core.Logic.{⊎_elim}
use native.Mathlib.Omega.{arith}
use lib.ListN.{length}
use borrow.Author.Tests.{leb-true}
use Rattle.time.specs.Limits.{last_second, range_good}
use Rattle.periods.specs.declared.Period.{Period}
use Rattle.periods.specs.declared.BusyType.{BusyType}
use Rattle.periods.specs.Periods.{covers}
use Rattle.table.specs.Runs.{Rising, Lies}
use Rattle.table.specs.Runs.Rising.{none, then}
use Rattle.table.proofs.Runs.{runs_rising, runs_same, runs_here}
use Rattle.table.proofs.Inserting.{fewest}
use Rattle.periods.proofs.Periods.{second_in_true}
use Rattle.report.specs.Bytes.{Report, GoodPeriods, Writable, period_count}
use Rattle.periods.specs.BusyTypes.{is_busy, same_busy, BusyPeriod}
use Rattle.pieces.specs.BusyPeriods.{busy_periods}
use Rattle.pieces.specs.Covered.{of_type, covered_by, covered}
use Rattle.pieces.specs.Pieces.{busy_pieces}
use Rattle.pieces.proofs.Pieces.{clipped_covers, pieces_inside, pieces_count}
use Rattle.collecting.specs.CalendarTerms.{CalendarTerms, stamp_good, entries_in, covered_in, pieces_for, report_for}
use Rattle.time.proofs.LimitsLaws.{range_rising, range_limit, range_width}

-- ---- their report can be written

good_rising : {lo hi : ℕ} {ps : List Period} → Rising lo ps hi → hi ≤ last_second → GoodPeriods ps
good_rising none l = GoodPeriods.none
good_rising {hi = hi} (then {p = p} x y z r) l = let k : p.end ≤ last_second = omega arith in GoodPeriods.then y k (good_rising r l)

-- a report over a good range, with a good stamp, whose periods rise inside the range, keeps the limits
pub rising_writable : (r : Report) → range_good r.start r.end ≡ true → stamp_good r.stamp ≡ true
    → ((b : BusyType) → Rising r.start (r.periods b) r.end)
    → Writable r
unfolding stamp_good
rising_writable r g s f =
    record {
      start_first = range_rising r.start r.end g;
      end_limit = range_limit r.start r.end g;
      stamp_limit = leb-true r.stamp last_second s;
      periods_good = λ b. good_rising (f b) (range_limit r.start r.end g);
    }

module _ (m : CalendarTerms) (g : range_good m.start m.end ≡ true) where
  -- its periods rise from the range's start to its end
  pub periods_rising : (b : BusyType) → Rising m.start ((report_for m).periods b) m.end
  unfolding report_for
  periods_rising b =
      subst (Rising m.start ((report_for m).periods b)) (range_width m.start m.end g)
      (runs_rising (covered_in m.calendar m.offset b) m.start (m.end - m.start))

  pub writable : stamp_good m.stamp ≡ true → Writable (report_for m)
  unfolding report_for
  writable s = rising_writable (report_for m) g s periods_rising

  -- inside the range its periods cover what the calendar does
  pub periods_cover : (b : BusyType) (x : ℕ) → m.start ≤ x → x < m.end → covers ((report_for m).periods b) x ≡ covered_in m.calendar m.offset b x
  unfolding report_for
  periods_cover b x h k =
      runs_here (covered_in m.calendar m.offset b) m.start (m.end - m.start) x h (rw (range_width m.start m.end g) k)

-- ---- it has few periods

-- what holds of every busy period holds of those of one type
type_lies : {lo hi : ℕ} (b : BusyType) (ps : List BusyPeriod) → ((p : BusyPeriod) → Memᴰ p ps → Lies lo hi p.period)
    → (q : Period) → Memᴰ q (of_type b ps) → Lies lo hi q
unfolding of_type
type_lies b [] f q m = absurd (Memᴰ.not-nil m)
type_lies {lo} {hi} b (p ∷ ps) f q m = go (same_busy b p.busy) m (type_lies b ps (λ r d. f r (Memᴰ.tail d)) q)
  where
    go : (t : Bool) → Memᴰ q (elim t [ true ↦ p.period ∷ of_type b ps | false ↦ of_type b ps ]) → (Memᴰ q (of_type b ps) → Lies lo hi q) → Lies lo hi q
    go true d k = ⊎_elim (λ e. subst (Lies lo hi) (sym e) (f p (Memᴰ.head refl))) k (Memᴰ.cases_cons d)
    go false d k = k d

module _ (m : CalendarTerms) (g : range_good m.start m.end ≡ true) where
  -- the pieces of a type cover what the calendar does inside the range
  pieces_cover : (b : BusyType) → is_busy b ≡ true → (x : ℕ) → m.start ≤ x → x < m.end
      → covered_in m.calendar m.offset b x ≡ covers (of_type b (pieces_for m)) x
  unfolding covered_in covered covered_by pieces_for busy_pieces
  pieces_cover b u x h k =
      let ps = busy_periods (entries_in m.calendar m.offset) in
      sym (clipped_covers b u m.start m.end x ps
      ∙ ap (λ (t : Bool). t && covered_by b ps x) (second_in_true m.start m.end x h k))

  pieces_lie : (p : BusyPeriod) → Memᴰ p (pieces_for m) → Lies m.start m.end p.period
  unfolding pieces_for busy_pieces
  pieces_lie p d =
      let i = pieces_inside m.start m.end (busy_periods (entries_in m.calendar m.offset)) d in
      record { from = i.from; some = i.rising; to = i.to }

  -- no more periods of a type than pieces of it
  type_few : (b : BusyType) → is_busy b ≡ true → length ((report_for m).periods b) ≤ length (of_type b (pieces_for m))
  unfolding report_for
  type_few b u =
      let f = covered_in m.calendar m.offset b in
      let qs = of_type b (pieces_for m) in
      let n = m.end - m.start in
      let w = range_width m.start m.end g in
      rw (runs_same f (covers qs) m.start n (λ x h k. pieces_cover b u x h (rw w at k)))
      (fewest m.start n qs (λ q d. rw w (type_lies b (pieces_for m) pieces_lie q d)))

  pub periods_few : period_count (report_for m) ≤ length (pieces_for m)
  unfolding period_count pieces_for busy_pieces is_busy
  periods_few =
      omega (
        arith,
        type_few BusyType.Busy refl,
        type_few BusyType.Tentative refl,
        type_few BusyType.Unavailable refl,
        pieces_count m.start m.end (busy_periods (entries_in m.calendar m.offset)),
      )
