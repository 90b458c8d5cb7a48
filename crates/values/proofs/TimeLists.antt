-- Lists of times: how long an item is, how late a second can be, what the kinds of a list say of its times,
-- and the loop that stores a value's times: what is left to store makes the whole.
use Rattle.std.specs.Prelude.{None, Option, Some}
use Prim.Native.Nat.{ℕ, suc, ◌+◌, ◌*◌, ◌≤◌, ◌<◌}
use mathlib.Core.Path.{◌≡◌, refl, sym, ap, subst, ◌∙◌}
use mathlib.Core.Bool.{Bool, true, false, cond}
use mathlib.Core.Logic.{⊎_elim}
use mathlib.Core.List.Memᴰ
use mathlib.Core.List.{List, [], ◌∷◌, ◌++◌, map, Memᴰ}
use native.Mathlib.Omega.{arith}
use denote.Enum.Bare.{sameb}
use lib.Dec.{eqb, ltb}
use lib.ListN.{length, set, length-set}
use lib.Seq.{sets, length-sets}
use borrow.Author.Tests.{ltb-true, ltb-false, eq-eqb, eqb-true}
use Rattle.std.specs.Iterator.{AlwaysYields}
use Rattle.std.specs.List.{slice_split, onto_first}
use Rattle.line.specs.Splitting.{plain_split}
use Rattle.line.proofs.Splitting.{parts_end}
use Rattle.time.specs.Limits.{last_second}
use Rattle.time.specs.declared.date_time.Kind.{Kind}
use Rattle.time.specs.contracts.date_time.Kind.{the_type}
use Rattle.time.proofs.DateTime.{read_date_length, read_date_time_length}
use Rattle.values.specs.Times.{time_by, read_time}
use Rattle.values.specs.TimeLists.{time_items, all_times, good_times, seconds_of, kind_number, same_kind, with_kind, with_kinds, TimesAre, times_good, times_bad}
use Rattle.values.specs.declared.times.Context.{Context}
use Rattle.values.specs.declared.times.Time.{Time}
use Rattle.values.specs.declared.times.Form.{Form}
use Rattle.values.specs.declared.time_lists.Kinds.{Kinds}
use Rattle.values.proofs.TimesLaws.{read_time_small}
use Rattle.values.proofs.Splits.{split_same}

-- ---- one item

-- fewer than eight bytes are no time
few_bad : (c : Context) (f : Form) (l : List ℕ) → length l < 8 → None ≡ read_time c f l
unfolding read_time time_by
few_bad c Form.DateTime l h = ap (time_by c) (read_date_time_length l (λ e. omega arith) (λ e. omega arith))
few_bad c Form.Date l h = ap (time_by c) (read_date_length l (λ e. omega arith))
few_bad c Form.Wrong l h = refl

-- a time that is read has eight bytes or more
pub read_time_long : (c : Context) (f : Form) (l : List ℕ) (t : Time) → read_time c f l ≡ Some t → 8 ≤ length l
read_time_long c f l t e = go (ltb (length l) 8) refl
  where
    go : (b : Bool) → ltb (length l) 8 ≡ b → 8 ≤ length l
    go true k =
        let bad : None ≡ read_time c f l = few_bad c f l (ltb-true _ _ k) in
        let z : ◌≡◌ {A = ℕ} 0 1 = cc in
        absurd (omega arith)
    go false k = ltb-false _ _ k

-- a list that begins with an empty item is bad, and so is an empty value
empty_item : (c : Context) (f : Form) (rs : List (Option Time)) → all_times (read_time c f [] ∷ rs) ≡ false
unfolding all_times
empty_item c f rs = sym (ap (λ (r : Option Time). all_times (r ∷ rs)) (few_bad c f [] (omega arith)))

pub empty_value : (c : Context) (f : Form) → all_times (time_items c f []) ≡ false
unfolding time_items plain_split
empty_value c f = ap (λ (l : List (List ℕ)). all_times (map (read_time c f) l)) (parts_end false 44 false) ∙ empty_item c f []

-- ---- how late a second can be

items_small : (c : Context) (f : Form) (ts : List (List ℕ)) (s : ℕ) → Memᴰ s (seconds_of (good_times (map (read_time c f) ts))) → s ≤ last_second
unfolding seconds_of good_times
items_small c f [] s m = absurd (Memᴰ.not-nil m)
items_small c f (l ∷ ts) s m = go (read_time c f l) refl m (items_small c f ts s)
  where
    go : (r : Option Time) → read_time c f l ≡ r → Memᴰ s (seconds_of (good_times (r ∷ map (read_time c f) ts)))
        → (Memᴰ s (seconds_of (good_times (map (read_time c f) ts))) → s ≤ last_second) → s ≤ last_second
    go (Some t) e (Memᴰ.head q) rest = omega (arith, read_time_small c f l t e)
    go (Some t) e (Memᴰ.tail w) rest = rest w
    go None e w rest = rest w

-- every second of a value is within the limits
pub times_small : (c : Context) (f : Form) (v : List ℕ) (s : ℕ) → Memᴰ s (seconds_of (good_times (time_items c f v))) → s ≤ last_second
unfolding time_items
times_small c f v s m = items_small c f (plain_split 44 v) s m

-- ---- the kinds of a list

-- two kinds are the same where their numbers are
kind_is : (a b : Kind) → kind_number a ≡ kind_number b → a ≡ b
unfolding kind_number
kind_is Kind.Utc Kind.Utc e = refl
kind_is Kind.Utc Kind.Floating e = absurd (omega arith)
kind_is Kind.Utc Kind.Date e = absurd (omega arith)
kind_is Kind.Floating Kind.Utc e = absurd (omega arith)
kind_is Kind.Floating Kind.Floating e = refl
kind_is Kind.Floating Kind.Date e = absurd (omega arith)
kind_is Kind.Date Kind.Utc e = absurd (omega arith)
kind_is Kind.Date Kind.Floating e = absurd (omega arith)
kind_is Kind.Date Kind.Date e = refl

-- as the code compares them
pub kind_eq : (a b : Kind) → sameb the_type a b ≡ same_kind a b
unfolding same_kind kind_number
kind_eq Kind.Utc Kind.Utc = refl
kind_eq Kind.Utc Kind.Floating = refl
kind_eq Kind.Utc Kind.Date = refl
kind_eq Kind.Floating Kind.Utc = refl
kind_eq Kind.Floating Kind.Floating = refl
kind_eq Kind.Floating Kind.Date = refl
kind_eq Kind.Date Kind.Utc = refl
kind_eq Kind.Date Kind.Floating = refl
kind_eq Kind.Date Kind.Date = refl

same_kind_is : (a b : Kind) → same_kind a b ≡ true → a ≡ b
unfolding same_kind
same_kind_is a b e = kind_is a b (eqb-true _ _ e)

is_same_kind : (a b : Kind) → a ≡ b → same_kind a b ≡ true
unfolding same_kind
is_same_kind a b e = eq-eqb _ _ (ap kind_number e)

-- several kinds stay several
with_kinds_several : (ts : List Time) → with_kinds Kinds.Several ts ≡ Kinds.Several
unfolding with_kinds with_kind
with_kinds_several [] = refl
with_kinds_several (t ∷ ts) = with_kinds_several ts

-- one kind stays where every time is of it, and nowhere else
pub one_kind_all : (k : Kind) (ts : List Time) → ((t : Time) → Memᴰ t ts → t.kind ≡ k) → with_kinds (Kinds.One k) ts ≡ Kinds.One k
unfolding with_kinds with_kind
one_kind_all k [] h = refl
one_kind_all k (t ∷ ts) h =
    ap (λ (b : Bool). with_kinds (cond b (Kinds.One k) Kinds.Several) ts) (is_same_kind k t.kind (sym (h t (Memᴰ.head refl))))
    ∙ one_kind_all k ts (λ u m. h u (Memᴰ.tail m))

pub all_one_kind : (j k : Kind) (ts : List Time) → with_kinds (Kinds.One j) ts ≡ Kinds.One k → (j ≡ k) × ((t : Time) → Memᴰ t ts → t.kind ≡ k)
unfolding with_kinds with_kind
all_one_kind j k [] e = (cc, λ t m. absurd (Memᴰ.not-nil m))
all_one_kind j k (t ∷ ts) e = go (same_kind j t.kind) refl e (all_one_kind j k ts)
  where
    go : (b : Bool) → same_kind j t.kind ≡ b → with_kinds (cond b (Kinds.One j) Kinds.Several) ts ≡ Kinds.One k
        → (with_kinds (Kinds.One j) ts ≡ Kinds.One k → (j ≡ k) × ((u : Time) → Memᴰ u ts → u.kind ≡ k))
        → (j ≡ k) × ((u : Time) → Memᴰ u (t ∷ ts) → u.kind ≡ k)
    go true q w rest = (
      (rest w).0,
      λ u m. ⊎_elim (λ (x : u ≡ t). ap (λ (y : Time). y.kind) x ∙ sym (same_kind_is j t.kind q) ∙ (rest w).0) (λ (x : Memᴰ u ts). (rest w).1 u x) (Memᴰ.cases_cons m),
    )
    go false q w rest = let s = with_kinds_several ts in let z : ◌≡◌ {A = ℕ} 0 1 = cc in absurd (omega arith)

-- the kinds of two lists
pub with_kinds_append : (ks : Kinds) (a b : List Time) → with_kinds ks (a ++ b) ≡ with_kinds (with_kinds ks a) b
unfolding with_kinds
with_kinds_append ks [] b = refl
with_kinds_append ks (t ∷ a) b = with_kinds_append (with_kind ks t.kind) a b

-- ---- the loop over a value

-- the bytes of the pieces and of what cuts them, with one more
unfoldable pub span : List (List ℕ) → ℕ
span [] = 0
span (t ∷ ts) = length t + 1 + span ts

span_split : (sep : ℕ) (s : List ℕ) → span (slice_split (λ b. eqb b sep) s) ≡ length s + 1
unfolding span
span_split sep [] = refl
span_split sep (b ∷ s) = go (eqb b sep) (slice_split (λ x. eqb x sep) s) (span_split sep s)
  where
    go : (t : Bool) (ts : List (List ℕ)) → span ts ≡ length s + 1 → span (cond t ([] ∷ ts) (onto_first b ts)) ≡ length (b ∷ s) + 1
    go true ts e = omega (arith, e)
    go false [] e = absurd (omega (arith, e))
    go false (t ∷ ts) e = omega (arith, e)

-- a pass over the pieces: the next of them, and none
module _ {S A B : Type 0} (steps : S → Option A → S → Type 0) (g : A → B) where
  pub next_piece : (left : List B) {s t : S} {x : A} → AlwaysYields steps g s left → steps s (Some x) t → (rest : List B) × (left ≡ g x ∷ rest) × AlwaysYields steps g t rest
  next_piece [] {s} {t} {x} y h = absurd (y x t h)
  next_piece (b ∷ left) {s} {t} {x} y h = (left, sym (ap (λ (z : B). z ∷ left) (y.1 x t h).0), (y.1 x t h).1)

  pub no_piece : (left : List B) {s t : S} → AlwaysYields steps g s left → steps s None t → left ≡ []
  no_piece [] y h = refl
  no_piece (b ∷ left) {s} {t} y h = absurd (y.0 t h)

-- every piece before those left is a time, and the seconds of these are left to store behind n in o
pub record StoringTimes (c : Context) (f : Form) (v : List ℕ) (ks₀ : Kinds) (o₀ : List ℕ) (n₀ : ℕ) (ks : Kinds) (o : List ℕ) (n : ℕ) (left : List (List ℕ)) : Type 0 where
  pub room : 8 * n₀ + length v ≤ 8 * length o₀
  pub long : length o ≡ length o₀
  pub behind : n₀ ≤ n
  pub few : 9 * n + span left ≤ 9 * n₀ + length v + 1
  pub good : all_times (map (read_time c f) left) ≡ all_times (time_items c f v)
  pub seconds : sets o n (seconds_of (good_times (map (read_time c f) left))) ≡ sets o₀ n₀ (seconds_of (good_times (time_items c f v)))
  pub count : n + length (good_times (map (read_time c f) left)) ≡ n₀ + length (good_times (time_items c f v))
  pub kinds : with_kinds ks (good_times (map (read_time c f) left)) ≡ with_kinds ks₀ (good_times (time_items c f v))

pub storing_start : (c : Context) (f : Form) (v : List ℕ) (ks : Kinds) (o : List ℕ) (n : ℕ) → 8 * n + length v ≤ 8 * length o
    → StoringTimes c f v ks o n ks o n (slice_split (λ b. eqb b 44) v)
unfolding time_items
storing_start c f v ks o n h =
    rw (split_same 44 v)
    (record {
      room = h;
      long = refl;
      behind = omega arith;
      few = omega (arith, span_split 44 v, ap span (split_same 44 v));
      good = refl;
      seconds = refl;
      count = refl;
      kinds = refl;
    })

module _ {c : Context} {f : Form} {v : List ℕ} {ks₀ : Kinds} {o₀ : List ℕ} {n₀ : ℕ} {ks : Kinds} {o : List ℕ} {n : ℕ} {left : List (List ℕ)} (z : StoringTimes c f v ks₀ o₀ n₀ ks o n left) where
  -- no piece is left
  pub storing_ends : left ≡ [] → TimesAre c f v ks₀ o₀ n₀ o (Some (n, ks))
  unfolding all_times good_times seconds_of with_kinds span
  storing_ends p =
      times_good {m = n}
      (sym z.good ∙ ap (λ (l : List (List ℕ)). all_times (map (read_time c f) l)) p)
      (sym (ap (λ (l : List (List ℕ)). sets o n (seconds_of (good_times (map (read_time c f) l)))) p) ∙ z.seconds)
      (omega (arith, z.count, ap (λ (l : List (List ℕ)). length (good_times (map (read_time c f) l))) p))
      (sym (ap (λ (l : List (List ℕ)). with_kinds ks (good_times (map (read_time c f) l))) p) ∙ z.kinds)
      (omega (arith, z.few, z.behind))

  -- the next piece is a time, or is bad
  module _ {item : List ℕ} {rest : List (List ℕ)} (p : left ≡ item ∷ rest) {x : Option Time} (w : x ≡ read_time c f item) where
    read_first : {r : Option Time} → x ≡ r → map (read_time c f) left ≡ r ∷ map (read_time c f) rest
    read_first k = ap (map (read_time c f)) p ∙ ap (λ (y : Option Time). y ∷ map (read_time c f) rest) (sym w ∙ k)

    pub storing_stops : x ≡ None → TimesAre c f v ks₀ o₀ n₀ o None
    unfolding all_times
    storing_stops k = times_bad (sym z.good ∙ ap all_times (read_first k)) z.long

    module _ {t : Time} (k : x ≡ Some t) where
      -- its second can be stored
      pub storing_small : t.second ≤ last_second
      storing_small = read_time_small c f item t (sym w ∙ k)

      fewer : 9 * n + (length item + 1 + span rest) ≤ 9 * n₀ + length v + 1
      unfolding span
      fewer = omega (arith, z.few, ap span p)

      pub storing_room : n < length o
      storing_room = omega (arith, z.room, z.long, z.behind, fewer, read_time_long c f item t (sym w ∙ k))

      -- after it: what is left is one less
      pub storing_next : {js : Kinds} → js ≡ with_kind ks t.kind → StoringTimes c f v ks₀ o₀ n₀ js (set o n t.second) (n + 1) rest
      unfolding all_times good_times seconds_of with_kinds
      storing_next g =
          let q = read_first k in
          record {
            room = z.room;
            long = length-set o n t.second ∙ z.long;
            behind = omega (arith, z.behind);
            few = omega (arith, fewer, read_time_long c f item t (sym w ∙ k));
            good = sym (ap all_times q) ∙ z.good;
            seconds =
                ap (λ (i : ℕ). sets (set o n t.second) i (seconds_of (good_times (map (read_time c f) rest)))) (let one : n + 1 ≡ suc n = omega arith in one)
                ∙ sym (ap (λ (l : List (Option Time)). sets o n (seconds_of (good_times l))) q)
                ∙ z.seconds;
            count = omega (arith, z.count, ap (λ (l : List (Option Time)). length (good_times l)) q);
            kinds =
                ap (λ (j : Kinds). with_kinds j (good_times (map (read_time c f) rest))) g
                ∙ sym (ap (λ (l : List (Option Time)). with_kinds ks (good_times l)) q)
                ∙ z.kinds;
          }

-- ---- what a caller learns
module _ {c : Context} {f : Form} {v : List ℕ} {kinds : Kinds} {o : List ℕ} {n : ℕ} {o' : List ℕ} {r : Option (ℕ × Kinds)} (h : TimesAre c f v kinds o n o' r) where
  -- every item is a time
  pub times_read : (m : ℕ) (ks : Kinds) → r ≡ Some (m, ks) → all_times (time_items c f v) ≡ true
  times_read m ks e = go (subst (TimesAre c f v kinds o n o') e h)
    where
      go : TimesAre c f v kinds o n o' (Some (m, ks)) → all_times (time_items c f v) ≡ true
      go (times_good a b d g l) = a

  pub times_stored : (m : ℕ) (ks : Kinds) → r ≡ Some (m, ks)
      → (o' ≡ sets o n (seconds_of (good_times (time_items c f v)))) × (m ≡ n + length (good_times (time_items c f v)))
      × (ks ≡ with_kinds kinds (good_times (time_items c f v))) × (8 * m ≤ 8 * n + length v)
  times_stored m ks e = go (subst (TimesAre c f v kinds o n o') e h)
    where
      go : TimesAre c f v kinds o n o' (Some (m, ks))
          → (o' ≡ sets o n (seconds_of (good_times (time_items c f v)))) × (m ≡ n + length (good_times (time_items c f v)))
          × (ks ≡ with_kinds kinds (good_times (time_items c f v))) × (8 * m ≤ 8 * n + length v)
      go (times_good a b d g l) = (b, d, g, l)

  -- or one is bad
  pub times_unread : r ≡ None → all_times (time_items c f v) ≡ false
  times_unread e = go (subst (TimesAre c f v kinds o n o') e h)
    where
      go : TimesAre c f v kinds o n o' None → all_times (time_items c f v) ≡ false
      go (times_bad a l) = a

-- the column keeps its length
pub times_long : {c : Context} {f : Form} {v : List ℕ} {kinds : Kinds} {o : List ℕ} {n : ℕ} {o' : List ℕ} {r : Option (ℕ × Kinds)} → TimesAre c f v kinds o n o' r → length o' ≡ length o
times_long {c} {f} {v} {o = o} {n = n} (times_good a b d g l) = ap length b ∙ length-sets o n (seconds_of (good_times (time_items c f v)))
times_long (times_bad a l) = l
