-- Times within the limits: what is read as one has the second of its wall clock, which is no later than the last.
use Rattle.std.specs.Prelude.{None, Option, Some}
use Prim.Native.Nat.{ℕ, ◌≤◌}
use mathlib.Core.Path.{◌≡◌, refl}
use mathlib.Core.Bool.{cond}
use mathlib.Core.List.{List}
use native.Mathlib.Omega.{arith}
use denote.Enum.Bare.{sameb}
use Rattle.time.specs.Limits.{last_second}
use Rattle.time.specs.DateTime.{read_date_time, read_date}
use Rattle.time.specs.declared.date_time.DateTime.{DateTime}
use Rattle.time.specs.declared.date_time.Kind.{Kind}
use Rattle.time.specs.contracts.date_time.Kind.{the_type}
use Rattle.time.proofs.LimitsLaws.{utc_second_in}
use Rattle.values.specs.Times.{utc_of, at_second, time_by, read_time, if_utc, utc_only}
use Rattle.values.specs.declared.times.Context.{Context}
use Rattle.values.specs.declared.times.Time.{Time}
use Rattle.values.specs.declared.times.Form.{Form}

at_second_utc : (c : Context) (k : Kind) (clock : ℕ) (s : Option ℕ) (t : Time) → utc_of c k clock ≡ s → at_second k clock s ≡ Some t
    → utc_of c t.kind t.clock ≡ Some t.second
unfolding at_second
at_second_utc c k clock (Some u) t q e =
    let z : record { kind = k; clock = clock; second = u } ≡ t = cc in
    rw (← z) q
at_second_utc c k clock None t q e = let z : ◌≡◌ {A = ℕ} 0 1 = cc in absurd (omega arith)

time_by_utc : (c : Context) (d : Option DateTime) (t : Time) → time_by c d ≡ Some t → utc_of c t.kind t.clock ≡ Some t.second
unfolding time_by
time_by_utc c (Some d) t e = at_second_utc c d.kind d.clock (utc_of c d.kind d.clock) t refl e
time_by_utc c None t e = let z : ◌≡◌ {A = ℕ} 0 1 = cc in absurd (omega arith)

-- the second of a time that is read is that of its wall clock
pub read_time_utc : (c : Context) (f : Form) (l : List ℕ) (t : Time) → read_time c f l ≡ Some t → utc_of c t.kind t.clock ≡ Some t.second
unfolding read_time
read_time_utc c Form.DateTime l t e = time_by_utc c (read_date_time l) t e
read_time_utc c Form.Date l t e = time_by_utc c (read_date l) t e
read_time_utc c Form.Wrong l t e = let z : ◌≡◌ {A = ℕ} 0 1 = cc in absurd (omega arith)

-- a time that is read is within the limits
pub read_time_small : (c : Context) (f : Form) (l : List ℕ) (t : Time) → read_time c f l ≡ Some t → t.second ≤ last_second
unfolding utc_of
read_time_small c f l t e = (utc_second_in t.kind t.clock c.shift t.second (read_time_utc c f l t e)).0

-- where UTC is asked for, a time is the one that was read
pub utc_only_same : (r : Option Time) (t : Time) → utc_only r ≡ Some t → r ≡ Some t
unfolding utc_only
utc_only_same (Some u) t e = go u.kind e
  where
    go : (k : Kind) → if_utc k u ≡ Some t → Some u ≡ Some t
    go Kind.Utc q = q
    go Kind.Floating q = let z : ◌≡◌ {A = ℕ} 0 1 = cc in absurd (omega arith)
    go Kind.Date q = let z : ◌≡◌ {A = ℕ} 0 1 = cc in absurd (omega arith)
utc_only_same None t e = e

-- whether a time is UTC, as one comparison of kinds
pub if_utc_is : (k : Kind) (t : Time) → if_utc k t ≡ cond (sameb the_type k Kind.Utc) (Some t) None
if_utc_is Kind.Utc t = refl
if_utc_is Kind.Floating t = refl
if_utc_is Kind.Date t = refl
