-- What the fault of a calendar tells of its meaning, and how large its events and blocks are.
use Rattle.std.specs.Prelude.{Err, None, Ok, Option, Result, Some}
use Prim.Native.Nat.{ℕ}
use Rattle.nesting.specs.declared.StructureError.{StructureError}
use Rattle.calendar.specs.declared.LineError.{LineError}
use Rattle.events.specs.declared.Block.{Block}
use mathlib.Core.Path.{◌≡◌, refl, ap, ◌∙◌, sym, subst}
use mathlib.Core.List.Memᴰ
use mathlib.Core.List.{List, [], ◌∷◌, Memᴰ}
use native.Mathlib.Omega.{arith}
use Rattle.line.specs.WellFormed.{line_check, LineCheck, all_good, bad_line}
use Rattle.nesting.specs.Nesting.{nesting_of}
use Rattle.nesting.specs.Files.{nesting_in, structure_by}
use Rattle.values.specs.declared.times.Context.{Context}
use Rattle.events.specs.Events.{Entry, event, block}
use Rattle.calendar.specs.Meaning.{Meaning, fault, calendar, by_rules, by_values, by_lines, value_fault, rule_fault, entries_among, entries_of, file_lines, components_of, contents_of, meaning_of, fault_of, structure_fault, structure_refusal, property_values_in, event_of, block_of, event_entry, block_entry, entry_of, component_scope}
use mathlib.Core.Bool.{Bool, true, false}
use mathlib.Core.Logic.{◌⊎◌, inl, inr}
use Rattle.ascii.proofs.Bools.{clash}
use Rattle.property.specs.declared.Scope.{Scope}
use Rattle.property.proofs.Properties.{property_value_of_small}
use Rattle.nesting.specs.Components.{Numbered, Component, properties_in}
use Rattle.periods.specs.BusyTypes.{BusyPeriod}
use Rattle.events.specs.Sizes.{EventSmall, EventsSmall}
use Rattle.events.specs.declared.Event.{Event}
use Rattle.events.proofs.ComponentPropertiesLaws.{AllSmall}
use Rattle.events.proofs.Sizes.{event_small}

-- the nesting that the check reads is that of the file's lines
pub nesting_file : (u : List ℕ) → nesting_in u ≡ nesting_of (file_lines u)
unfolding nesting_in file_lines
nesting_file u = refl

rules_good : (k : Option ℕ) (es : List Entry) → fault_of (by_rules k es) ≡ Ok tt → by_rules k es ≡ calendar es
unfolding fault_of by_rules
rules_good None es e = refl
rules_good (Some n) es e = let z : ◌≡◌ {A = ℕ} 0 1 = cc in absurd (omega arith)

values_good : (k : Result (Unit {0}) LineError) (m : Meaning) → fault_of (by_values k m) ≡ Ok tt → (by_values k m ≡ m) × (fault_of m ≡ Ok tt)
unfolding fault_of by_values
values_good (Ok _) m e = (refl, e)
values_good (Err (LineError.Unsupported n)) m e = let z : ◌≡◌ {A = ℕ} 0 1 = cc in absurd (omega arith)
values_good (Err (LineError.Bad n)) m e = let z : ◌≡◌ {A = ℕ} 0 1 = cc in absurd (omega arith)

lines_good : (i : ℕ) (k : LineCheck) (m : Meaning) → fault_of (by_lines i k m) ≡ Ok tt → (by_lines i k m ≡ m) × (fault_of m ≡ Ok tt)
unfolding fault_of by_lines
lines_good i all_good m e = (refl, e)
lines_good i (bad_line n) m e = let z : ◌≡◌ {A = ℕ} 0 1 = cc in absurd (omega arith)

-- a calendar without a fault means its events and blocks
pub no_fault : (c : Context) (u : List ℕ) → fault_of (meaning_of c u) ≡ Ok tt → meaning_of c u ≡ calendar (entries_of c (components_of u))
unfolding meaning_of contents_of
no_fault c u e =
    let ks = components_of u in
    let rules = by_rules (rule_fault c ks) (entries_of c ks) in
    let l = lines_good 6 (line_check u) (by_lines 7 (nesting_of (file_lines u)) (contents_of c u)) e in
    let n = lines_good 7 (nesting_of (file_lines u)) (contents_of c u) l.1 in
    let v = values_good (value_fault c ks) rules n.1 in
    l.0 ∙ n.0 ∙ v.0 ∙ rules_good (rule_fault c ks) (entries_of c ks) v.1

-- ---- each refusal exactly where its check fails and those before it pass

module _ (c : Context) (u : List ℕ) where
  pub refused_6 : (n : ℕ) → line_check u ≡ bad_line n → meaning_of c u ≡ fault 6 n
  unfolding meaning_of by_lines
  refused_6 n h = rw h

  module _ (l : line_check u ≡ all_good) where
    pub refused_7 : (n : ℕ) → nesting_of (file_lines u) ≡ bad_line n → meaning_of c u ≡ fault 7 n
    unfolding meaning_of by_lines
    refused_7 n h = rw (l, h)

    module _ (k : nesting_of (file_lines u) ≡ all_good) where
      pub refused_8 : (n : ℕ) → value_fault c (components_of u) ≡ Err (LineError.Unsupported n) → meaning_of c u ≡ fault 8 n
      unfolding meaning_of by_lines contents_of by_values
      refused_8 n h = rw (l, k, h)

      pub refused_9 : (n : ℕ) → value_fault c (components_of u) ≡ Err (LineError.Bad n) → meaning_of c u ≡ fault 9 n
      unfolding meaning_of by_lines contents_of by_values
      refused_9 n h = rw (l, k, h)

      pub refused_10 : (n : ℕ) → value_fault c (components_of u) ≡ Ok tt → rule_fault c (components_of u) ≡ Some n
          → meaning_of c u ≡ fault 10 n
      unfolding meaning_of by_lines contents_of by_values by_rules
      refused_10 n v h = rw (l, k, v, h)

      pub not_refused : value_fault c (components_of u) ≡ Ok tt → rule_fault c (components_of u) ≡ None
          → meaning_of c u ≡ calendar (entries_of c (components_of u))
      unfolding meaning_of by_lines contents_of by_values by_rules
      not_refused v h = rw (l, k, v, h)

-- ---- refusals 6 and 7

refusal_by : (c k : LineCheck) → structure_refusal (structure_by c k) ≡ fault_of (by_lines 6 c (by_lines 7 k (calendar [])))
unfolding structure_by by_lines fault_of
refusal_by (bad_line n) k = refl
refusal_by all_good (bad_line n) = refl
refusal_by all_good all_good = refl

pub structure_refusal_lem : (u : List ℕ) {r : Result (Unit {0}) StructureError} → r ≡ structure_by (line_check u) (nesting_in u) → structure_refusal r ≡ structure_fault u
unfolding structure_fault
structure_refusal_lem u e =
    ap structure_refusal e
    ∙ refusal_by (line_check u) (nesting_in u)
    ∙ ap (λ (k : LineCheck). fault_of (by_lines 6 (line_check u) (by_lines 7 k (calendar [])))) (nesting_file u)

pub no_refusal : (r : Result (Unit {0}) StructureError) → structure_refusal r ≡ Ok tt → r ≡ Ok tt
no_refusal (Err (StructureError.BadLine n)) e = let z : ◌≡◌ {A = ℕ} 0 1 = cc in absurd (omega arith)
no_refusal (Err (StructureError.BadNesting n)) e = let z : ◌≡◌ {A = ℕ} 0 1 = cc in absurd (omega arith)
no_refusal (Ok _) e = refl

-- ---- sizes: an event and a block are small, since what any line says is

property_values_small : (c : Context) (o : Scope) (xs : List Numbered) → AllSmall (property_values_in c o xs)
unfolding property_values_in
property_values_small c o [] = AllSmall.none
property_values_small c o (x ∷ xs) = AllSmall.then (property_value_of_small c o x.line) (property_values_small c o xs)

pub event_of_small : (c : Context) (k : Component) (e : Event) → event_of c k ≡ Some e → EventSmall e
unfolding event_of
event_of_small c k e q = event_small _ e (property_values_small c Scope.Event (properties_in k.items)) q

-- ---- the entries of a calendar

-- the event of an entry that is one
event_or : Event → Entry → Event
event_or y (event e gone) = e
event_or y (block k ps) = y

is_one : Entry → Bool
is_one (event e gone) = true
is_one (block k ps) = false

module _ (c : Context) (all : List Component) (e : Event) (gone : List ℕ) where
  event_entry_small : (k : Component) (r : Option Event) (g : List ℕ) → event_of c k ≡ r → Memᴰ (event e gone) (event_entry r g) → EventSmall e
  unfolding event_or
  event_entry_small k (Some y) g q d = subst EventSmall (sym (ap (event_or e) (Memᴰ.eq_of_singleton d))) (event_of_small c k y q)
  event_entry_small k None g q d = absurd (Memᴰ.not-nil d)

  no_block_entry : (r : Option Block) (ps : List BusyPeriod) → Memᴰ (event e gone) (block_entry r ps) → ⊥
  unfolding is_one
  no_block_entry (Some k) ps d = clash refl (ap is_one (Memᴰ.eq_of_singleton d))
  no_block_entry None ps d = Memᴰ.not-nil d

  entry_small : (o : Scope) (k : Component) → Memᴰ (event e gone) (entry_of c all o k) → EventSmall e
  unfolding entry_of
  entry_small Scope.Event k d = event_entry_small k (event_of c k) _ refl d
  entry_small Scope.FreeBusy k d = absurd (no_block_entry (block_of c k) _ d)
  entry_small Scope.Other k d = absurd (Memᴰ.not-nil d)

  among_small : (ks : List Component) → Memᴰ (event e gone) (entries_among c all ks) → EventSmall e
  unfolding entries_among
  among_small [] d = absurd (Memᴰ.not-nil d)
  among_small (k ∷ ks) d = go (Memᴰ.append_cases (entry_of c all (component_scope k) k) d) (among_small ks)
    where
      go : Memᴰ (event e gone) (entry_of c all (component_scope k) k) ⊎ Memᴰ (event e gone) (entries_among c all ks)
          → (Memᴰ (event e gone) (entries_among c all ks) → EventSmall e) → EventSmall e
      go (inl m) r = entry_small (component_scope k) k m
      go (inr m) r = r m

-- the events of a calendar are small
pub entries_small : (c : Context) (ks : List Component) → EventsSmall (entries_of c ks)
unfolding entries_of
entries_small c ks e gone d = among_small c ks e gone ks d
