-- Laws of what is found of parts: one that has a property and no other has, or none; and where the clocks of four digits end.
use Rattle.std.specs.Prelude.{None, Option, Some}
use Prim.Native.Nat.{ℕ, ◌*◌}
use mathlib.Core.Path.{◌≡◌, sym, ap}
use native.Mathlib.Omega.{arith}
use Rattle.time.specs.Days.{days_before_year}
use Rattle.time.proofs.DaysLaws.{days_before_year_direct}
use Rattle.zones.specs.declared.Part.{Part}
use Rattle.zones.specs.Parts.{GoodPart, Exactly, clock_end}

pub clock_end_lem : clock_end ≡ days_before_year 10000 * 86400
clock_end_lem = ap (λ (d : ℕ). d * 86400) (sym (days_before_year_direct 10000))

-- an answer is one of the two
pub not_both : {A : Type 0} {r : Option ℕ} {t : ℕ} → r ≡ Some t → r ≡ None → A
not_both p q = let z : ◌≡◌ {A = ℕ} 0 1 = cc in absurd (omega arith)

pub same_found : {r : Option ℕ} {t u : ℕ} → r ≡ Some t → r ≡ Some u → t ≡ u
same_found p q = cc

pub exactly_at : {P : ℕ → Type 0} (d : ℕ) → P d → ((e : ℕ) → P e → e ≡ d) → Exactly P (Some d)
exactly_at {P} d x u = record { is_so = λ e q. let z : d ≡ e = cc in rw (← z) x; no_other = λ e y. ap Some (sym (u e y)) }

pub exactly_nothing : {P : ℕ → Type 0} → ((e : ℕ) → P e → ⊥) → Exactly P None
exactly_nothing u = record { is_so = λ e q. let z : ◌≡◌ {A = ℕ} 0 1 = cc in absurd (omega arith); no_other = λ e y. absurd (u e y) }

pub good_as : (q p : Part) → p ≡ q → GoodPart q → GoodPart p
good_as q p e x = rw e x
