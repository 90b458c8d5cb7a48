-- The kinds, the block and the numbers of a rule by what the code asks: kinds compared, values mapped where they are given.
use Rattle.std.specs.Prelude.{None, Option, Some}
use Rattle.std.specs.Bool.{then_some}
use Rattle.std.specs.Option.{IsSomeAnd, MatchOption, unwrap_or}
use Prim.Native.Nat.{ℕ}
use mathlib.Core.Path.{◌≡◌, refl, sym, ap, subst}
use mathlib.Core.Bool.{Bool, true, false, cond, true≢false}
use denote.Enum.Bare.{sameb}
use denote.Enum.Declared.{tag_of}
use lib.Dec.{eqb, ltb}
use Rattle.time.specs.contracts.date_time.Kind.{the_type}
use Rattle.time.specs.declared.date_time.Kind.{Kind}
use Rattle.periods.specs.declared.BusyType.{BusyType}
use Rattle.property.specs.declared.Status.{Status}
use Rattle.values.specs.declared.times.Time.{Time}
use Rattle.values.specs.declared.rule.Rule.{Rule}
use Rattle.events.specs.Events.{kind_number, same_kind, is_date, days_by, interval_by, busy_by, busy_by_status, block_between, block_from}
use Rattle.events.specs.declared.Block.{Block}

-- kinds are equal where their numbers are
pub kinds_equal : (a b : Kind) → sameb the_type a b ≡ eqb (kind_number a) (kind_number b)
unfolding kind_number
kinds_equal Kind.Utc Kind.Utc = refl
kinds_equal Kind.Utc Kind.Floating = refl
kinds_equal Kind.Utc Kind.Date = refl
kinds_equal Kind.Floating Kind.Utc = refl
kinds_equal Kind.Floating Kind.Floating = refl
kinds_equal Kind.Floating Kind.Date = refl
kinds_equal Kind.Date Kind.Utc = refl
kinds_equal Kind.Date Kind.Floating = refl
kinds_equal Kind.Date Kind.Date = refl

-- and those are the numbers of its variants
pub kind_code : (k : Kind) → tag_of the_type k ≡ kind_number k
unfolding kind_number
kind_code Kind.Utc = refl
kind_code Kind.Floating = refl
kind_code Kind.Date = refl

pub times_alike : (s t : Time) → sameb the_type s.kind t.kind ≡ same_kind s t
unfolding same_kind
times_alike s t = kinds_equal s.kind t.kind

pub on_date : (k : Kind) → sameb the_type k Kind.Date ≡ is_date k
unfolding is_date
on_date Kind.Utc = refl
on_date Kind.Floating = refl
on_date Kind.Date = refl

-- DATE is the kind of number 2
pub date_number : (k : Kind) → eqb (kind_number k) 2 ≡ is_date k
unfolding kind_number is_date
date_number Kind.Utc = refl
date_number Kind.Floating = refl
date_number Kind.Date = refl

-- the number of a rule, where one is given
module _ {P : Rule → Type 0} (g : Option Rule) (n : ℕ) (h : MatchOption g (n ≡ 1) P) where
  pub days_said : ((x : Rule) → P x → n ≡ x.days) → n ≡ days_by g
  unfolding days_by
  days_said k = go g h
    where
      go : (r : Option Rule) → MatchOption r (n ≡ 1) P → n ≡ days_by r
      go None e = e
      go (Some x) e = k x e

  pub interval_said : ((x : Rule) → P x → n ≡ x.interval) → n ≡ interval_by g
  unfolding interval_by
  interval_said k = go g h
    where
      go : (r : Option Rule) → MatchOption r (n ≡ 1) P → n ≡ interval_by r
      go None e = e
      go (Some x) e = k x e

pub busy_said : (g : Option Bool) (s : Option Status) → (unwrap_or g false ≡ true → BusyType.Free ≡ busy_by g s) × (unwrap_or g false ≡ false → busy_by_status s ≡ busy_by g s)
unfolding busy_by
busy_said None s = (λ h. absurd (true≢false (sym h)), λ h. refl)
busy_said (Some true) s = (λ h. refl, λ h. absurd (true≢false h))
busy_said (Some false) s = (λ h. absurd (true≢false (sym h)), λ h. refl)

-- a bound is the second of a time, where there is one
abbrev pub BoundOf : Option Time → Option ℕ → Type 0
BoundOf g a = MatchOption g (a ≡ None) (λ t. IsSomeAnd a (λ n. n ≡ t.second))

pub bound_of : {P : Time → ℕ → Type 0} (g : Option Time) (a : Option ℕ) → MatchOption g (a ≡ None) (λ t. IsSomeAnd a (λ n. P t n)) → ((t : Time) (n : ℕ) → P t n → n ≡ t.second) → BoundOf g a
bound_of None a h k = h
bound_of (Some t) None h k = h
bound_of (Some t) (Some n) h k = k t n h

bound_some : (t : Time) (a : Option ℕ) → BoundOf (Some t) a → a ≡ Some t.second
bound_some t (Some n) h = ap Some h
bound_some t None h = elim h [ ]

pub both_given : {g h : Option Time} (s e : Time) (a b : Option ℕ) → g ≡ Some s → h ≡ Some e → BoundOf g a → BoundOf h b
    → then_some (ltb s.second e.second) (record { start = a; end = b }) ≡ block_from g h
unfolding block_from block_between
both_given s e a b p q h k =
    rw (p, q, bound_some s a (subst (λ (x : Option Time). BoundOf x a) p h), bound_some e b (subst (λ (x : Option Time). BoundOf x b) q k))
    (go (ltb s.second e.second) (record { start = Some s.second; end = Some e.second }))
  where
    go : (t : Bool) (x : Block) → then_some t x ≡ cond t (Some x) None
    go true x = refl
    go false x = refl

pub start_given : {g h : Option Time} (s : Time) (a b : Option ℕ) → g ≡ Some s → h ≡ None → BoundOf g a → BoundOf h b → Some (record { start = a; end = b }) ≡ block_from g h
unfolding block_from
start_given s a b p q h k = rw (p, q, bound_some s a (subst (λ (x : Option Time). BoundOf x a) p h), subst (λ (x : Option Time). BoundOf x b) q k)

pub no_start : {g : Option Time} (h : Option Time) (a b : Option ℕ) → g ≡ None → BoundOf g a → BoundOf h b → Some (record { start = a; end = b }) ≡ block_from g h
unfolding block_from
no_start h a b p k l = rw (p, subst (λ (x : Option Time). BoundOf x a) p k) (go h l)
  where
    go : (x : Option Time) → BoundOf x b → Some (record { start = None; end = b }) ≡ block_from None x
    go None z = rw z
    go (Some e) z = rw (bound_some e b z)
