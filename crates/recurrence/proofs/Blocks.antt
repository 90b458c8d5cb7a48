-- Whether some period of a list overlaps a range.
use Prim.Native.Nat.{ℕ}
use mathlib.Core.Path.{◌≡◌, refl, sym, ap, ◌∙◌}
use mathlib.Core.Bool.{Bool, true, false, ◌||◌}
use mathlib.Core.List.{List, [], ◌∷◌, Memᴰ}
use mathlib.Core.Logic.{◌↔◌}
use Rattle.ascii.proofs.Bools.{clash, or_by_left, or_by_right}
use Rattle.periods.specs.BusyTypes.{BusyPeriod, periods_of}
use Rattle.recurrence.specs.TimeRange.{overlaps, periods_overlap}
use Rattle.recurrence.specs.Blocks.{PeriodIn}

module _ (a b : ℕ) where
  listed_overlaps : {p : BusyPeriod} {ps : List BusyPeriod} → Memᴰ p ps → overlaps a b p.period.start p.period.end ≡ true → periods_overlap a b (periods_of ps) ≡ true
  unfolding periods_overlap
  listed_overlaps (Memᴰ.head {xs = xs} e) h =
      or_by_left (periods_overlap a b (periods_of xs)) (ap (λ (q : BusyPeriod). overlaps a b q.period.start q.period.end) (sym e) ∙ h)
  listed_overlaps (Memᴰ.tail {x = x} m) h = or_by_right (overlaps a b x.period.start x.period.end) (listed_overlaps m h)

  later : {p : BusyPeriod} {ps : List BusyPeriod} → PeriodIn a b ps → PeriodIn a b (p ∷ ps)
  later i = record { which = i.which; listed = Memᴰ.tail i.listed; passes = i.passes }

  here_or_later : (p : BusyPeriod) (ps : List BusyPeriod) (t : Bool)
      → overlaps a b p.period.start p.period.end ≡ t → (periods_overlap a b (periods_of ps) ≡ true → PeriodIn a b ps) → (t || periods_overlap a b (periods_of ps)) ≡ true → PeriodIn a b (p ∷ ps)
  here_or_later p ps true q below h = record { which = p; listed = Memᴰ.head refl; passes = q }
  here_or_later p ps false q below h = later (below h)

  overlapping_listed : (ps : List BusyPeriod) → periods_overlap a b (periods_of ps) ≡ true → PeriodIn a b ps
  unfolding periods_overlap
  overlapping_listed [] h = clash h refl
  overlapping_listed (p ∷ ps) h = here_or_later p ps (overlaps a b p.period.start p.period.end) refl (overlapping_listed ps) h

  -- the test says that some period of the list overlaps the range
  pub periods_iff : (ps : List BusyPeriod) → (periods_overlap a b (periods_of ps) ≡ true) ↔ PeriodIn a b ps
  periods_iff ps = (overlapping_listed ps, λ i. listed_overlaps i.listed i.passes)
