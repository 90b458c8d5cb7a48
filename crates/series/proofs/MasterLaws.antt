-- Laws of the VEVENTs row by row: what a row adds, what its link says of it, and how the rows that are left decide.
use Rattle.std.specs.Prelude.{None, Some}
use Prim.Native.Nat.{ℕ, suc, ◌+◌, ◌*◌, ◌-◌, ◌≤◌, ◌<◌}
use mathlib.Core.Path.{◌≡◌, refl, sym, ap, subst, ◌∙◌}
use mathlib.Core.Bool.{Bool, true, false, cond, ◌&&◌, ◌||◌, and-false, and-true}
use mathlib.Core.List.{List, [], ◌∷◌, ◌++◌, Memᴰ}
use native.Mathlib.Omega.{arith}
use borrow.Author.Tests.{eq-eqb, ne_eqb, eqb-true}
use lib.Dec.{eqb}
use lib.ListN.{get_or}
use Rattle.ascii.proofs.Bools.{clash, or_left, or_right}
use Rattle.seconds.specs.Seconds.{among}
use Rattle.values.specs.TimeLists.{seconds_of}
use Rattle.values.specs.declared.times.Context.{Context}
use Rattle.values.specs.declared.times.Time.{Time}
use Rattle.structure.specs.Rows.{component_by}
use Rattle.overrides.specs.Lists.{some, is_empty, two_or_more}
use Rattle.overrides.specs.VEvents.{VEvent, is_master, has_uid, found, master_of}
use Rattle.calendar.specs.Identities.{identity_of}
use Rattle.calendar.specs.Meaning.{vevent_of}
use Rattle.identities.specs.LinkRows.{link_at}
use Rattle.identities.specs.declared.RecurrenceId.{RecurrenceId}
use Rattle.values.specs.declared.given.Given.{Given}
use Rattle.identities.specs.declared.rows.Link.{Link}
use Rattle.series.specs.Identities.{OneRecurrence, RecurrenceTies}
use Rattle.series.specs.VEventRows.{vevents_at, vevents_from, vevents_before, is_master_of, names, RowTied, OneAt, MasterIs, is_none, is_at}
use Rattle.series.proofs.UidLaws.{or_nothing, some_append}

-- ---- one row

module _ (c : Context) (s rows : List ℕ) (k : ℕ) where
  pub row_is : get_or rows (4 * k + 3) 0 ≡ 1 → vevents_at c s rows k ≡ vevent_of c (component_by s rows k) ∷ []
  unfolding vevents_at
  row_is e = ap (λ (t : Bool). cond t (vevent_of c (component_by s rows k) ∷ []) []) (eq-eqb (get_or rows (4 * k + 3) 0) 1 e)

  pub row_none : (get_or rows (4 * k + 3) 0 ≡ 1 → ⊥) → vevents_at c s rows k ≡ []
  unfolding vevents_at
  row_none e = ap (λ (t : Bool). cond t (vevent_of c (component_by s rows k) ∷ []) []) (ne_eqb (get_or rows (4 * k + 3) 0) 1 e)

  -- a test of its VEVENT
  pub test_is : (f : VEvent → Bool) → get_or rows (4 * k + 3) 0 ≡ 1 → f (vevent_of c (component_by s rows k)) ≡ some f (vevents_at c s rows k)
  unfolding some
  test_is f e = or_nothing (f (vevent_of c (component_by s rows k))) ∙ sym (ap (some f) (row_is e))

  pub test_none : (f : VEvent → Bool) {t : ℕ} → t ≡ get_or rows (4 * k + 3) 0 → (t ≡ 1 → ⊥) → false ≡ some f (vevents_at c s rows k)
  unfolding some
  test_none f q h = sym (ap (some f) (row_none (λ e. h (q ∙ e))))

-- ---- by its link

-- what bounds the seconds of a list bounds the one that is kept
pub one_second : {r : RecurrenceId} {ts : List Time} {n : ℕ} → OneRecurrence r ts → ((t : Time) → Memᴰ t ts → t.second ≤ n) → r.second ≤ n
one_second {n = n} o f = subst (λ (y : RecurrenceId). y.second ≤ n) o.kept (f o.time (subst (Memᴰ o.time) (sym o.alone) (Memᴰ.head refl)))

module _ {c : Context} {s index rows links : List ℕ} {k : ℕ} (g : RowTied c s index rows links k) {l : Link} (q : l ≡ link_at links k) (e : get_or rows (4 * k + 3) 0 ≡ 1) where
  moved_by : {y : Given RecurrenceId} → l.recurrence ≡ y → RecurrenceTies y (identity_of c (component_by s rows k)).recurrence_ids
  moved_by h =
      subst (λ (x : Given RecurrenceId). RecurrenceTies x (identity_of c (component_by s rows k)).recurrence_ids) (ap (λ (x : Link). x.recurrence) (sym q) ∙ h) (g.recurrences e)

  pub times_one : {t : RecurrenceId} → l.recurrence ≡ Given.One t → OneRecurrence t (identity_of c (component_by s rows k)).recurrence_ids
  times_one h = moved_by h

  pub master_by : l.recurrence ≡ Given.None → is_master (vevent_of c (component_by s rows k)) ≡ true
  unfolding is_master vevent_of is_empty
  master_by h = ap is_empty (moved_by h)

  pub override_one : {t : RecurrenceId} → l.recurrence ≡ Given.One t → is_master (vevent_of c (component_by s rows k)) ≡ false
  unfolding is_master vevent_of is_empty
  override_one h = ap is_empty (times_one h).alone

  pub override_several : l.recurrence ≡ Given.Several → is_master (vevent_of c (component_by s rows k)) ≡ false
  unfolding is_master vevent_of two_or_more is_empty
  override_several h = go (identity_of c (component_by s rows k)).recurrence_ids (moved_by h)
    where
      go : (ts : List Time) → two_or_more ts ≡ true → is_empty ts ≡ false
      go [] h = clash h refl
      go (t ∷ ts) h = refl

  pub seconds_one : {t : RecurrenceId} → l.recurrence ≡ Given.One t → seconds_of (vevent_of c (component_by s rows k)).recurrence_ids ≡ t.second ∷ []
  unfolding vevent_of seconds_of
  seconds_one h = ap seconds_of (times_one h).alone ∙ ap (λ (y : RecurrenceId). y.second ∷ []) (times_one h).kept

  pub seconds_none : l.recurrence ≡ Given.None → seconds_of (vevent_of c (component_by s rows k)).recurrence_ids ≡ []
  unfolding vevent_of seconds_of
  seconds_none h = ap seconds_of (moved_by h)

  module _ (u : List ℕ) where
    -- is it a master of the UID?
    pub master_tells : {r : Bool} → l.recurrence ≡ Given.None → r ≡ has_uid u (vevent_of c (component_by s rows k)) → r ≡ some (is_master_of u) (vevents_at c s rows k)
    unfolding is_master_of
    master_tells h p =
        p ∙ sym (ap (λ (t : Bool). t && has_uid u (vevent_of c (component_by s rows k))) (master_by h)) ∙ test_is c s rows k (is_master_of u) e

    no_master : is_master (vevent_of c (component_by s rows k)) ≡ false → false ≡ some (is_master_of u) (vevents_at c s rows k)
    unfolding is_master_of
    no_master h = sym (ap (λ (t : Bool). t && has_uid u (vevent_of c (component_by s rows k))) h) ∙ test_is c s rows k (is_master_of u) e

    pub one_tells : {t : RecurrenceId} → l.recurrence ≡ Given.One t → false ≡ some (is_master_of u) (vevents_at c s rows k)
    one_tells h = no_master (override_one h)

    pub several_tells : l.recurrence ≡ Given.Several → false ≡ some (is_master_of u) (vevents_at c s rows k)
    several_tells h = no_master (override_several h)

    -- does it name the second?
    named_as : (x : ℕ) (ss : List ℕ) → seconds_of (vevent_of c (component_by s rows k)).recurrence_ids ≡ ss
        → (has_uid u (vevent_of c (component_by s rows k)) && among x ss) ≡ some (names u x) (vevents_at c s rows k)
    unfolding names
    named_as x ss h = sym (ap (λ (l : List ℕ). has_uid u (vevent_of c (component_by s rows k)) && among x l) h) ∙ test_is c s rows k (names u x) e

    pub named_none : (x : ℕ) → l.recurrence ≡ Given.None → false ≡ some (names u x) (vevents_at c s rows k)
    unfolding among
    named_none x h = sym (and-false (has_uid u (vevent_of c (component_by s rows k)))) ∙ named_as x [] (seconds_none h)

    pub named_other : (x : ℕ) {t : RecurrenceId} → l.recurrence ≡ Given.One t → (t.second ≡ x → ⊥) → false ≡ some (names u x) (vevents_at c s rows k)
    unfolding among
    named_other x {t} h n =
        let v = vevent_of c (component_by s rows k) in
        sym (and-false (has_uid u v))
        ∙ sym (ap (λ (b : Bool). has_uid u v && (b || false)) (ne_eqb x t.second (λ z. n (sym z))))
        ∙ named_as x (t.second ∷ []) (seconds_one h)

    pub named_here : (x : ℕ) {t : RecurrenceId} {r : Bool} → l.recurrence ≡ Given.One t → t.second ≡ x → r ≡ has_uid u (vevent_of c (component_by s rows k))
        → r ≡ some (names u x) (vevents_at c s rows k)
    unfolding among
    named_here x {t} h n p =
        let v = vevent_of c (component_by s rows k) in
        p
        ∙ sym (and-true (has_uid u v))
        ∙ sym (ap (λ (b : Bool). has_uid u v && (b || false)) (eq-eqb x t.second (sym n)))
        ∙ named_as x (t.second ∷ []) (seconds_one h)

    pub named_several : (x : ℕ) → l.recurrence ≡ Given.Several → OneAt rows links k → false ≡ some (names u x) (vevents_at c s rows k)
    named_several x h n = absurd (n.one_recurrence e (ap (λ (y : Link). y.recurrence) (sym q) ∙ h))

-- ---- from row to row

-- a test that a row passed is of its VEVENT
pub record Passed (c : Context) (s rows : List ℕ) (k : ℕ) (f : VEvent → Bool) : Type 0 where
  pub is_event_holds : get_or rows (4 * k + 3) 0 ≡ 1
  pub passes : f (vevent_of c (component_by s rows k)) ≡ true

pub passed : (c : Context) (s rows : List ℕ) (k : ℕ) (f : VEvent → Bool) {r : Bool} → r ≡ some f (vevents_at c s rows k) → r ≡ true → Passed c s rows k f
unfolding some vevents_at
passed c s rows k f {r} p h = go (eqb (get_or rows (4 * k + 3) 0) 1) refl (sym p ∙ h)
  where
    go : (t : Bool) → eqb (get_or rows (4 * k + 3) 0) 1 ≡ t → some f (cond t (vevent_of c (component_by s rows k) ∷ []) []) ≡ true → Passed c s rows k f
    go true q h = record { is_event_holds = eqb-true (get_or rows (4 * k + 3) 0) 1 q; passes = or_nothing (f (vevent_of c (component_by s rows k))) ∙ h }
    go false q h = clash h refl

module _ (c : Context) (s rows : List ℕ) where
  pub from_next : (k m : ℕ) → k < m → vevents_from c s rows k (m - k) ≡ vevents_at c s rows k ++ vevents_from c s rows (k + 1) (m - (k + 1))
  unfolding vevents_from
  from_next k m h = let z : m - k ≡ suc (m - (k + 1)) = omega arith in ap (vevents_from c s rows k) z

  pub from_none : (k m : ℕ) → m ≤ k → vevents_from c s rows k (m - k) ≡ []
  unfolding vevents_from
  from_none k m h = let z : m - k ≡ 0 = omega arith in ap (vevents_from c s rows k) z

-- no master of the UID stands before row k
pub record MasterLeft (c : Context) (s rows : List ℕ) (m : ℕ) (u : List ℕ) (k : ℕ) : Type 0 where
  pub within : k ≤ m
  pub left : master_of u (vevents_from c s rows k (m - k)) ≡ master_of u (vevents_before c s rows m)

master_skip : (u : List ℕ) (xs ys : List VEvent) → some (is_master_of u) xs ≡ false → master_of u (xs ++ ys) ≡ master_of u ys
unfolding some is_master_of master_of
master_skip u [] ys h = refl
master_skip u (x ∷ xs) ys h =
    ap (λ (t : Bool). cond t (found x) (master_of u (xs ++ ys))) (or_left (is_master x && has_uid u x) (some (is_master_of u) xs) h)
    ∙ master_skip u xs ys (or_right (is_master x && has_uid u x) (some (is_master_of u) xs) h)

pub masters_start : (c : Context) (s rows : List ℕ) (m : ℕ) (u : List ℕ) → MasterLeft c s rows m u 0
unfolding vevents_before
masters_start c s rows m u = let z : m - 0 ≡ m = omega arith in record { within = omega arith; left = ap (λ (n : ℕ). master_of u (vevents_from c s rows 0 n)) z }

module _ {c : Context} {s rows : List ℕ} {m : ℕ} {u : List ℕ} {k : ℕ} (g : MasterLeft c s rows m u k) where
  module _ {r : Bool} (p : r ≡ some (is_master_of u) (vevents_at c s rows k)) (l : k < m) where
    pub masters_more : r ≡ false → MasterLeft c s rows m u (k + 1)
    masters_more h =
        record {
          within = omega arith;
          left =
              sym
              (ap (master_of u) (from_next c s rows k m l)
              ∙ master_skip u (vevents_at c s rows k) (vevents_from c s rows (k + 1) (m - (k + 1))) (sym p ∙ h))
              ∙ g.left;
        }

    pub masters_found : r ≡ true → MasterIs c s rows m u (Some k)
    unfolding is_master_of master_of
    masters_found h =
        let z : Passed c s rows k (is_master_of u) = passed c s rows k (is_master_of u) p h in
        let v = vevent_of c (component_by s rows k) in
        let rest = vevents_from c s rows (k + 1) (m - (k + 1)) in
        is_at l z.is_event_holds
        (sym g.left
        ∙ ap (master_of u) (from_next c s rows k m l ∙ ap (λ (vs : List VEvent). vs ++ rest) (row_is c s rows k z.is_event_holds))
        ∙ ap (λ (t : Bool). cond t (found v) (master_of u rest)) z.passes)

  pub masters_none : m ≤ k → MasterIs c s rows m u None
  unfolding master_of
  masters_none h = is_none (sym g.left ∙ ap (master_of u) (from_none c s rows k m h))

-- no row before row k passes the test
pub record SomeLeft (c : Context) (s rows : List ℕ) (m : ℕ) (f : VEvent → Bool) (k : ℕ) : Type 0 where
  pub within : k ≤ m
  pub left : some f (vevents_from c s rows k (m - k)) ≡ some f (vevents_before c s rows m)

pub some_start : (c : Context) (s rows : List ℕ) (m : ℕ) (f : VEvent → Bool) → SomeLeft c s rows m f 0
unfolding vevents_before
some_start c s rows m f = let z : m - 0 ≡ m = omega arith in record { within = omega arith; left = ap (λ (n : ℕ). some f (vevents_from c s rows 0 n)) z }

module _ {c : Context} {s rows : List ℕ} {m : ℕ} {f : VEvent → Bool} {k : ℕ} (g : SomeLeft c s rows m f k) where
  module _ {r : Bool} (p : r ≡ some f (vevents_at c s rows k)) (l : k < m) where
    here_or : some f (vevents_from c s rows k (m - k)) ≡ (r || some f (vevents_from c s rows (k + 1) (m - (k + 1))))
    here_or =
        ap (some f) (from_next c s rows k m l)
        ∙ some_append f (vevents_at c s rows k) (vevents_from c s rows (k + 1) (m - (k + 1)))
        ∙ ap (λ (t : Bool). t || some f (vevents_from c s rows (k + 1) (m - (k + 1)))) (sym p)

    pub some_more : r ≡ false → SomeLeft c s rows m f (k + 1)
    some_more h =
        record {
          within = omega arith;
          left = sym (here_or ∙ ap (λ (t : Bool). t || some f (vevents_from c s rows (k + 1) (m - (k + 1)))) h) ∙ g.left;
        }

    pub some_there : r ≡ true → true ≡ some f (vevents_before c s rows m)
    some_there h = sym (here_or ∙ ap (λ (t : Bool). t || some f (vevents_from c s rows (k + 1) (m - (k + 1)))) h) ∙ g.left

  pub some_nowhere : m ≤ k → false ≡ some f (vevents_before c s rows m)
  unfolding some
  some_nowhere h = sym (ap (some f) (from_none c s rows k m h)) ∙ g.left
