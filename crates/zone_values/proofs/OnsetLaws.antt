-- The onset of a part is read exactly where its line is a floating DATE-TIME without TZID.
use Rattle.std.specs.Prelude.{None, Option, Some}
use Prim.Native.Nat.{ℕ}
use mathlib.Core.Path.{◌≡◌, refl, ap}
use mathlib.Core.Bool.{Bool, true, false, cond}
use mathlib.Core.Logic.{◌↔◌}
use native.Mathlib.Omega.{arith}
use denote.Enum.Bare.{sameb}
use Rattle.ascii.specs.Words.{ascii}
use Rattle.time.specs.DateTime.{read_date_time}
use Rattle.time.specs.declared.date_time.DateTime.{DateTime}
use Rattle.time.specs.declared.date_time.Kind.{Kind}
use Rattle.time.specs.contracts.date_time.Kind.{the_type}
use Rattle.line.specs.Grammar.{ContentLine}
use Rattle.line.specs.Reading.{has_parameter}
use Rattle.values.specs.Times.{form_of}
use Rattle.values.specs.declared.times.Form.{Form}
use Rattle.zone_values.specs.Onset.{Onset, if_floating, floating_only, onset_by, onset_of}

bad_at : {A : Type 0} {n : ℕ} → None ≡ Some n → A
bad_at e = let z : ◌≡◌ {A = ℕ} 0 1 = cc in absurd (omega arith)

floating_clock : (k : Kind) (m n : ℕ) → if_floating k m ≡ Some n → ◌≡◌ {A = DateTime} (record { kind = k; clock = m }) (record { kind = Kind.Floating; clock = n })
floating_clock Kind.Utc m n e = bad_at e
floating_clock Kind.Floating m n e = let z : m ≡ n = cc in ap (λ (c : ℕ). record { kind = Kind.Floating; clock = c }) z
floating_clock Kind.Date m n e = bad_at e

floating_at : (d : Option DateTime) (n : ℕ) → floating_only d ≡ Some n → d ≡ Some (record { kind = Kind.Floating; clock = n })
unfolding floating_only
floating_at (Some d) n e = ap Some (floating_clock d.kind d.clock n e)
floating_at None n e = bad_at e

-- whether a clock is floating, as one comparison of kinds
pub if_floating_is : (k : Kind) (clock : ℕ) → if_floating k clock ≡ cond (sameb the_type k Kind.Floating) (Some clock) None
if_floating_is Kind.Utc clock = refl
if_floating_is Kind.Floating clock = refl
if_floating_is Kind.Date clock = refl

onset_is : (x : ContentLine) (n : ℕ) → onset_of x ≡ Some n → Onset x n
unfolding onset_of onset_by
onset_is x n e = go (has_parameter (ascii "TZID") x) (form_of x) refl refl e
  where
    go : (z : Bool) (f : Form) → has_parameter (ascii "TZID") x ≡ z → form_of x ≡ f → cond z None (onset_by f x.value) ≡ Some n → Onset x n
    go true f p q r = bad_at r
    go false Form.DateTime p q r = record { no_zone = p; form = q; floating = floating_at (read_date_time x.value) n r }
    go false Form.Date p q r = bad_at r
    go false Form.Wrong p q r = bad_at r

is_onset : (x : ContentLine) (n : ℕ) → Onset x n → onset_of x ≡ Some n
unfolding onset_of onset_by floating_only
is_onset x n h = rw (h.no_zone, h.form, h.floating)

-- the law
pub onset_iff : (x : ContentLine) (n : ℕ) → (onset_of x ≡ Some n) ↔ Onset x n
onset_iff x n = (onset_is x n, is_onset x n)
