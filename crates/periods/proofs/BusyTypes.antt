-- Busy types are told apart by their places; periods with and without their types.
use Prim.Native.Nat.{ℕ, zero, suc}
use mathlib.Core.Path.{◌≡◌, refl, sym, ap, ◌∙◌}
use mathlib.Core.Bool.{true}
use mathlib.Core.List.{List, [], ◌∷◌, ◌++◌}
use mathlib.Core.Logic.{◌↔◌}
use lib.Dec.{ltb}
use borrow.Author.Tests.{eqb-true, eq-eqb}
use Rattle.periods.specs.declared.Period.{Period}
use Rattle.periods.specs.declared.BusyType.{BusyType}
use Rattle.periods.specs.BusyTypes.{report_place, is_busy, same_busy, BusyPeriod, typed, periods_of}

-- the busy type that stands at a place
type_at : ℕ → BusyType
type_at zero = BusyType.Busy
type_at (suc zero) = BusyType.Tentative
type_at (suc (suc zero)) = BusyType.Unavailable
type_at (suc (suc (suc n))) = BusyType.Free

type_there : (b : BusyType) → type_at (report_place b) ≡ b
unfolding type_at report_place
type_there BusyType.Busy = refl
type_there BusyType.Tentative = refl
type_there BusyType.Unavailable = refl
type_there BusyType.Free = refl

-- no two types have one place
pub same_busy_iff : (a b : BusyType) → (same_busy a b ≡ true) ↔ (a ≡ b)
unfolding same_busy
same_busy_iff a b =
    (λ e. sym (type_there a) ∙ ap type_at (eqb-true (report_place a) (report_place b) e) ∙ type_there b, λ e. eq-eqb (report_place a) (report_place b) (ap report_place e))

-- busy time has one of the places below 3
pub busy_place : (b : BusyType) → ltb (report_place b) 3 ≡ is_busy b
unfolding report_place is_busy
busy_place BusyType.Busy = refl
busy_place BusyType.Tentative = refl
busy_place BusyType.Unavailable = refl
busy_place BusyType.Free = refl

-- a type given and left out again
pub periods_of_typed : (b : BusyType) (ps : List Period) → periods_of (typed b ps) ≡ ps
periods_of_typed b [] = refl
periods_of_typed b (p ∷ ps) = ap (λ (qs : List Period). p ∷ qs) (periods_of_typed b ps)

pub periods_of_append : (ps qs : List BusyPeriod) → periods_of (ps ++ qs) ≡ (periods_of ps ++ periods_of qs)
periods_of_append [] qs = refl
periods_of_append (p ∷ ps) qs = ap (λ (rs : List Period). p.period ∷ rs) (periods_of_append ps qs)
