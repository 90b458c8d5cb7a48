-- Laws of what a component is, by the kind that its row has: an event, a block or another; and what is taken away from it.
use Prim.Native.Nat.{ℕ, ◌+◌, ◌*◌, ◌-◌, ◌<◌}
use mathlib.Core.Path.{◌≡◌, refl, sym, ap, ◌∙◌}
use mathlib.Core.Bool.{Bool, true, false, cond}
use mathlib.Core.List.{List}
use borrow.Author.Tests.{ne_eqb, eqb-true, eqb-false}
use lib.Dec.{eqb}
use lib.ListN.{get_or}
use Rattle.ascii.proofs.Bools.{clash}
use Rattle.line.specs.Reading.{line_of, value_of}
use Rattle.delimiters.specs.Innermost.{is_event, is_free_busy}
use Rattle.seconds.specs.Seconds.{among}
use Rattle.values.specs.declared.times.Context.{Context}
use Rattle.property.specs.declared.Scope.{Scope}
use Rattle.index.specs.Index.{line_bytes}
use Rattle.structure.specs.Rows.{kind_of, numbered_line, RowOf, component_by}
use Rattle.calendar.specs.Meaning.{scope_of, component_scope, removed_from, components_of}
use Rattle.calendar.proofs.VEvents.{removed_none}
use Rattle.series.specs.Columns.{gone_at, RemovedRows}

scope_by : ℕ → Scope
scope_by t = cond (eqb t 1) Scope.Event (cond (eqb t 2) Scope.FreeBusy Scope.Other)

scope_kind : (v : List ℕ) → scope_of v ≡ scope_by (kind_of v)
unfolding scope_of kind_of scope_by
scope_kind v = go (is_event v) (is_free_busy v)
  where
    go : (x y : Bool) → cond x Scope.Event (cond y Scope.FreeBusy Scope.Other)
        ≡ cond (eqb (cond x 1 (cond y 2 0)) 1) Scope.Event (cond (eqb (cond x 1 (cond y 2 0)) 2) Scope.FreeBusy Scope.Other)
    go true y = refl
    go false true = refl
    go false false = refl

module _ {s rows : List ℕ} {k : ℕ} (r : RowOf s rows k) {t : ℕ} (q : t ≡ get_or rows (4 * k + 3) 0) where
  row_scope : component_scope (component_by s rows k) ≡ scope_by t
  unfolding component_scope component_by numbered_line line_of
  row_scope = scope_kind (value_of (line_bytes s (get_or rows (4 * k) 0 - 1))) ∙ ap scope_by (sym (q ∙ r.kind))

  pub row_event : t ≡ 1 → component_scope (component_by s rows k) ≡ Scope.Event
  unfolding scope_by
  row_event e = row_scope ∙ ap scope_by e

  pub row_block : t ≡ 2 → component_scope (component_by s rows k) ≡ Scope.FreeBusy
  unfolding scope_by
  row_block e = row_scope ∙ ap scope_by e

  pub row_other : (t ≡ 1 → ⊥) → (t ≡ 2 → ⊥) → component_scope (component_by s rows k) ≡ Scope.Other
  unfolding scope_by
  row_other x y = row_scope ∙ rw (ne_eqb t 1 x, ne_eqb t 2 y) refl

abbrev pub scope_number : Scope → ℕ
scope_number Scope.Event = 1
scope_number Scope.FreeBusy = 2
scope_number Scope.Other = 0

pub scopes_apart : {A : Type 0} {o : Scope} (x y : Scope) → (scope_number x ≡ scope_number y → ⊥) → o ≡ x → o ≡ y → A
scopes_apart x y f p q = absurd (f (ap scope_number (sym p ∙ q)))

-- whatever a row is, its part of the column takes the same starts away
abbrev is_event_scope : Scope → Bool
is_event_scope Scope.Event = true
is_event_scope Scope.FreeBusy = false
is_event_scope Scope.Other = false

pub row_same : {c : Context} {s rows places removed : List ℕ} {m k : ℕ} → RemovedRows c s rows places removed m → RowOf s rows k → k < m → (x : ℕ)
    → among x (gone_at places removed k) ≡ among x (removed_from c (components_of s) (component_by s rows k))
row_same {c} {s} {rows} {places} {removed} {m} {k} z r l x = go (eqb (get_or rows (4 * k + 3) 0) 1) (eqb (get_or rows (4 * k + 3) 0) 2) refl refl
  where
    other : (get_or rows (4 * k + 3) 0 ≡ 1 → ⊥) → (component_scope (component_by s rows k) ≡ Scope.Event → ⊥)
        → among x (gone_at places removed k) ≡ among x (removed_from c (components_of s) (component_by s rows k))
    other n e = ap (among x) (z.none k l n ∙ sym (removed_none c (component_by s rows k) (components_of s) e))

    go : (t u : Bool) → eqb (get_or rows (4 * k + 3) 0) 1 ≡ t → eqb (get_or rows (4 * k + 3) 0) 2 ≡ u
        → among x (gone_at places removed k) ≡ among x (removed_from c (components_of s) (component_by s rows k))
    go true u p q = z.same k l (eqb-true _ 1 p) x
    go false true p q = other (eqb-false _ 1 p) (λ e. clash (ap is_event_scope e) (ap is_event_scope (row_block r refl (eqb-true _ 2 q))))
    go false false p q = other (eqb-false _ 1 p) (λ e. clash (ap is_event_scope e) (ap is_event_scope (row_other r refl (eqb-false _ 1 p) (eqb-false _ 2 q))))
