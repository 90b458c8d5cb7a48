-- Laws of the seconds that overrides name: what a row adds, and how those of the rows that are left are stored behind those before.
use Rattle.std.specs.Prelude.{None, Option, Some}
use Prim.Native.Nat.{ℕ, suc, ◌+◌, ◌*◌, ◌-◌, ◌≤◌, ◌<◌}
use mathlib.Core.Path.{◌≡◌, refl, sym, ap, subst, ◌∙◌}
use mathlib.Core.Bool.{Bool, true, false, cond}
use mathlib.Core.List.{List, [], ◌∷◌, ◌++◌, append_assoc, append-nil}
use native.Mathlib.Omega.{arith}
use lib.ListN.{length, get_or, set, length-set}
use lib.Seq.{sets}
use Rattle.time.specs.Limits.{last_second}
use Rattle.values.specs.TimeLists.{seconds_of}
use Rattle.values.specs.declared.times.Context.{Context}
use Rattle.structure.specs.Rows.{component_by}
use Rattle.overrides.specs.VEvents.{VEvent, has_uid}
use Rattle.calendar.specs.Meaning.{vevent_of}
use Rattle.calendar.proofs.Identities.{identity_small}
use Rattle.identities.specs.LinkRows.{link_at}
use Rattle.identities.specs.declared.RecurrenceId.{RecurrenceId}
use Rattle.values.specs.declared.given.Given.{Given}
use Rattle.identities.specs.declared.rows.Link.{Link}
use Rattle.series.specs.VEventRows.{vevents_at, vevents_from, vevents_before, RowTied, OneAt}
use Rattle.series.specs.Moved.{moved_by, NamedIs, names_none, names_one, MovedStored}
use Rattle.series.proofs.MasterLaws.{row_is, row_none, from_next, from_none, seconds_none, seconds_one, one_second, times_one}

pub moved_append : (u : List ℕ) (vs ws : List VEvent) → moved_by u (vs ++ ws) ≡ moved_by u vs ++ moved_by u ws
unfolding moved_by
moved_append u [] ws = refl
moved_append u (v ∷ vs) ws =
    let here = cond (has_uid u v) (seconds_of v.recurrence_ids) [] in
    ap (λ (l : List ℕ). here ++ l) (moved_append u vs ws) ∙ sym (append_assoc here (moved_by u vs) (moved_by u ws))

-- ---- one row

module _ (c : Context) (s rows : List ℕ) (k : ℕ) (u : List ℕ) where
  pub named_nothing : {t : ℕ} → t ≡ get_or rows (4 * k + 3) 0 → (t ≡ 1 → ⊥) → NamedIs c s rows k u None
  unfolding moved_by
  named_nothing q h = names_none (ap (moved_by u) (row_none c s rows k (λ e. h (q ∙ e))))

  -- of an event with the UID or without
  row_moved : get_or rows (4 * k + 3) 0 ≡ 1 → {t : Bool} → t ≡ has_uid u (vevent_of c (component_by s rows k))
      → moved_by u (vevents_at c s rows k) ≡ cond t (seconds_of (vevent_of c (component_by s rows k)).recurrence_ids) []
  unfolding moved_by
  row_moved e {t} q =
      ap (moved_by u) (row_is c s rows k e)
      ∙ append-nil (cond (has_uid u (vevent_of c (component_by s rows k))) (seconds_of (vevent_of c (component_by s rows k)).recurrence_ids) [])
      ∙ ap (λ (b : Bool). cond b (seconds_of (vevent_of c (component_by s rows k)).recurrence_ids) []) (sym q)

module _ {c : Context} {s index rows links : List ℕ} {k : ℕ} (g : RowTied c s index rows links k) {l : Link} (q : l ≡ link_at links k) (e : get_or rows (4 * k + 3) 0 ≡ 1) (u : List ℕ) where
  pub named_not : l.recurrence ≡ Given.None → NamedIs c s rows k u None
  named_not h = names_none (row_moved c s rows k u e refl ∙ ap (λ (l : List ℕ). cond (has_uid u (vevent_of c (component_by s rows k))) l []) (seconds_none g q e h) ∙ either (has_uid u (vevent_of c (component_by s rows k))))
    where
      either : (b : Bool) → ◌≡◌ {A = List ℕ} (cond b [] []) []
      either true = refl
      either false = refl

  module _ {t : RecurrenceId} (h : l.recurrence ≡ Given.One t) {r : Bool} (p : r ≡ has_uid u (vevent_of c (component_by s rows k))) where
    pub named_one : r ≡ true → NamedIs c s rows k u (Some t.second)
    named_one y =
        names_one
        (one_second (times_one g q e h) (identity_small c (component_by s rows k)).moved_small)
        (row_moved c s rows k u e p
        ∙ ap (λ (b : Bool). cond b (seconds_of (vevent_of c (component_by s rows k)).recurrence_ids) []) y
        ∙ seconds_one g q e h)

    pub named_unlike : r ≡ false → NamedIs c s rows k u None
    named_unlike y = names_none (row_moved c s rows k u e p ∙ ap (λ (b : Bool). cond b (seconds_of (vevent_of c (component_by s rows k)).recurrence_ids) []) y)

  pub named_never : l.recurrence ≡ Given.Several → OneAt rows links k → NamedIs c s rows k u None
  named_never h n = absurd (n.one_recurrence e (ap (λ (y : Link). y.recurrence) (sym q) ∙ h))

-- ---- from row to row

-- those of the rows from k on are left to store
pub record Moving (c : Context) (s rows : List ℕ) (m : ℕ) (u o₀ : List ℕ) (n₀ : ℕ) (o : List ℕ) (n k : ℕ) : Type 0 where
  pub within : k ≤ m
  pub left : sets o n (moved_by u (vevents_from c s rows k (m - k))) ≡ sets o₀ n₀ (moved_by u (vevents_before c s rows m))
  pub counting : n + length (moved_by u (vevents_from c s rows k (m - k))) ≡ n₀ + length (moved_by u (vevents_before c s rows m))
  pub long : length o ≡ length o₀
  pub few : n ≤ n₀ + k

pub moving_start : (c : Context) (s rows : List ℕ) (m : ℕ) (u o : List ℕ) (n : ℕ) → Moving c s rows m u o n o n 0
unfolding vevents_before
moving_start c s rows m u o n =
    let z : m - 0 ≡ m = omega arith in
    record {
      within = omega arith;
      left = ap (λ (i : ℕ). sets o n (moved_by u (vevents_from c s rows 0 i))) z;
      counting = ap (λ (i : ℕ). n + length (moved_by u (vevents_from c s rows 0 i))) z;
      long = refl;
      few = omega arith;
    }

named_none_by : {c : Context} {s rows : List ℕ} {k : ℕ} {u : List ℕ} {r : Option ℕ} → NamedIs c s rows k u r → r ≡ None → moved_by u (vevents_at c s rows k) ≡ []
named_none_by {c} {s} {rows} {k} {u} g e = go (subst (NamedIs c s rows k u) e g)
  where
    go : NamedIs c s rows k u None → moved_by u (vevents_at c s rows k) ≡ []
    go (names_none p) = p

pub named_one_by : {c : Context} {s rows : List ℕ} {k : ℕ} {u : List ℕ} {r : Option ℕ} {x : ℕ} → NamedIs c s rows k u r → r ≡ Some x
    → (x ≤ last_second) × (moved_by u (vevents_at c s rows k) ≡ x ∷ [])
named_one_by {c} {s} {rows} {k} {u} {x = x} g e = go (subst (NamedIs c s rows k u) e g)
  where
    go : NamedIs c s rows k u (Some x) → (x ≤ last_second) × (moved_by u (vevents_at c s rows k) ≡ x ∷ [])
    go (names_one l p) = (l, p)

module _ {c : Context} {s rows : List ℕ} {m : ℕ} {u o₀ : List ℕ} {n₀ : ℕ} {o : List ℕ} {n k : ℕ} (g : Moving c s rows m u o₀ n₀ o n k) where
  module _ (l : k < m) {r : Option ℕ} (p : NamedIs c s rows k u r) where
    rest_here : (xs : List ℕ) → moved_by u (vevents_at c s rows k) ≡ xs → moved_by u (vevents_from c s rows k (m - k)) ≡ xs ++ moved_by u (vevents_from c s rows (k + 1) (m - (k + 1)))
    rest_here xs h =
        ap (moved_by u) (from_next c s rows k m l)
        ∙ moved_append u (vevents_at c s rows k) (vevents_from c s rows (k + 1) (m - (k + 1)))
        ∙ ap (λ (y : List ℕ). y ++ moved_by u (vevents_from c s rows (k + 1) (m - (k + 1)))) h

    pub moving_past : r ≡ None → Moving c s rows m u o₀ n₀ o n (k + 1)
    moving_past e =
        let here = rest_here [] (named_none_by p e) in
        record {
          within = omega arith;
          left = sym (ap (sets o n) here) ∙ g.left;
          counting = sym (ap (λ (y : List ℕ). n + length y) here) ∙ g.counting;
          long = g.long;
          few = omega (arith, g.few);
        }

    pub moving_more : {x : ℕ} → r ≡ Some x → Moving c s rows m u o₀ n₀ (set o n x) (n + 1) (k + 1)
    moving_more {x} e =
        let rest = moved_by u (vevents_from c s rows (k + 1) (m - (k + 1))) in
        let here = rest_here (x ∷ []) (named_one_by p e).1 in
        record {
          within = omega arith;
          left = ap (λ (i : ℕ). sets (set o n x) i rest) (let one : n + 1 ≡ suc n = omega arith in one) ∙ sym (ap (sets o n) here) ∙ g.left;
          counting = omega (arith, ap length here, g.counting);
          long = length-set o n x ∙ g.long;
          few = omega (arith, g.few);
        }

  pub moving_end : m ≤ k → MovedStored c s rows m u o₀ n₀ o n
  unfolding moved_by
  moving_end l =
      let none : moved_by u (vevents_from c s rows k (m - k)) ≡ [] = ap (moved_by u) (from_none c s rows k m l) in
      record {
        stored = sym (ap (sets o n) none) ∙ g.left;
        counted = omega (arith, ap length none, g.counting);
        within = omega (arith, g.few, g.within);
      }
