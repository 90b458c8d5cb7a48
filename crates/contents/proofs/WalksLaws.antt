-- Laws of both walks together: the fault of a value is that of the whole, and where there is none, the second walk decides.
use Rattle.std.specs.Prelude.{Err, None, Ok, Option, Result, Some}
use Prim.Native.Nat.{ℕ}
use Rattle.calendar.specs.declared.LineError.{LineError}
use Rattle.std.specs.Result.{IsErrAnd}
use mathlib.Core.Path.{◌≡◌, refl, sym, ap, subst, ◌∙◌}
use mathlib.Core.Bool.{Bool, true, false}
use mathlib.Core.List.{List, []}
use native.Mathlib.Omega.{arith}
use Rattle.ascii.proofs.Bools.{clash}
use Rattle.values.specs.Times.{ContextGood}
use Rattle.values.specs.declared.times.Context.{Context}
use Rattle.nesting.specs.Components.{Component}
use Rattle.structure.specs.Rows.{FileRows}
use Rattle.events.specs.Events.{Entry}
use Rattle.calendar.specs.Checks.{rule_else}
use Rattle.calendar.specs.Meaning.{Meaning, vevents, value_fault, rule_fault, entries_of, components_of, by_rules, by_values, contents_of, fault_of}
use Rattle.calendar.specs.Passes.{before_alone, alone_fault, beside_fault}
use Rattle.calendar.specs.declared.Refusal.{Refusal}
use Rattle.calendar.specs.Refused.{refused_at}
use Rattle.calendar.proofs.Passes.{two_passes_whole}
use Rattle.series.proofs.PassLaws.{removable}
use Rattle.contents.specs.Contents.{EntryTerms, ContentsGood, ContentsAre, contents_read, contents_refused}
use Rattle.contents.specs.Walks.{WalksPass, WalksTell, passed, refused}
use Rattle.contents.specs.declared.ContentsRead.{ContentsRead}

never_none : {A : Type 0} {f : Result (Unit {0}) Refusal} (n i : ℕ) → f ≡ refused_at n i → f ≡ Ok tt → A
never_none n i h e = let z : ◌≡◌ {A = ℕ} 0 1 = cc in absurd (omega arith)

-- what the entries are plays no part in the refusal
rules_told : (r : Option ℕ) (es : List Entry) → fault_of (by_values (Ok tt) (by_rules r [])) ≡ fault_of (by_values (Ok tt) (by_rules r es))
unfolding by_values by_rules fault_of
rules_told None es = refl
rules_told (Some n) es = refl

rules_good : (r : Option ℕ) → fault_of (by_values (Ok tt) (by_rules r [])) ≡ Ok tt → r ≡ None
unfolding by_values by_rules fault_of
rules_good None e = refl
rules_good (Some n) e = never_none 10 n refl e

abbrev is_rule_good : Option ℕ → Bool
is_rule_good None = true
is_rule_good (Some n) = false

else_good : (x y : Option ℕ) → rule_else x y ≡ None → y ≡ None
unfolding rule_else
else_good None y e = e
else_good (Some n) y e = clash refl (ap is_rule_good (sym e))

-- where no rule is broken, none is by itself
none_alone : (c : Context) (ks : List Component) → rule_fault c ks ≡ None → alone_fault c ks ≡ None
none_alone c ks e = else_good (beside_fault c [] (vevents c ks) (before_alone c ks)) (alone_fault c ks) (sym (two_passes_whole c ks) ∙ e)

module _ {c : Context} {s rows : List ℕ} {a b : ℕ} {o : List ℕ} {new : EntryTerms} {r : Result ContentsRead LineError} (h : ContentsAre c s rows a b o new r) where
  pub contents_told : (v : ContentsRead) → r ≡ Ok v → ContentsGood c s rows a b o new v
  contents_told v e = go (subst (ContentsAre c s rows a b o new) e h)
    where
      go : ContentsAre c s rows a b o new (Ok v) → ContentsGood c s rows a b o new v
      go (contents_read y) = y

  first_told : (f : LineError) → r ≡ Err f → value_fault c (components_of s) ≡ Err f
  first_told f e = go (subst (ContentsAre c s rows a b o new) e h)
    where
      go : ContentsAre c s rows a b o new (Err f) → value_fault c (components_of s) ≡ Err f
      go (contents_refused y) = y

  -- a value at fault
  pub tells_value : {index : List ℕ} {x : Result ℕ Refusal} (f : LineError) → r ≡ Err f → IsErrAnd x (λ e. (y : Meaning) → Err e ≡ fault_of (by_values (Err f) y))
      → WalksTell c s index rows a b o new x
  unfolding contents_of
  tells_value {x = Ok n} f e z = absurd z
  tells_value {x = Err q} f e z =
      let rest = by_rules (rule_fault c (components_of s)) (entries_of c (components_of s)) in
      refused (ap (λ (y : Result (Unit {0}) LineError). fault_of (by_values y rest)) (first_told f e) ∙ sym (z rest))

-- no value is, and the second walk tells `rules`
module _ {c : Context} {s rows : List ℕ} {a b : ℕ} {o : List ℕ} {new : EntryTerms} {r : ContentsRead} (h : ContentsGood c s rows a b o new r)
    {rules : Option ℕ} {f : Result (Unit {0}) Refusal} (q : rules ≡ rule_fault c (components_of s)) (t : f ≡ fault_of (by_values (Ok tt) (by_rules rules []))) where
  fault_here : f ≡ fault_of (contents_of c s)
  unfolding contents_of
  fault_here =
      let all = entries_of c (components_of s) in
      t
      ∙ rules_told rules all
      ∙ ap (λ (y : Option ℕ). fault_of (by_values (Ok tt) (by_rules y all))) q
      ∙ ap (λ (y : Result (Unit {0}) LineError). fault_of (by_values y (by_rules (rule_fault c (components_of s)) all))) (sym h.no_fault)

  pub tells_rule : {index : List ℕ} {x : Result ℕ Refusal} (e : Refusal) → f ≡ Err e → IsErrAnd x (λ y. y ≡ e) → WalksTell c s index rows a b o new x
  tells_rule {x = Ok n} e k z = absurd z
  tells_rule {x = Err y} e k z = refused (sym fault_here ∙ k ∙ ap Err (sym z))

  pub tells_passed : {index : List ℕ} → ContextGood c → FileRows s index rows → f ≡ Ok tt → WalksTell c s index rows a b o new (Ok r.count)
  tells_passed good file e =
      let none : rule_fault c (components_of s) ≡ None = sym q ∙ rules_good rules (sym t ∙ e) in
      let alone : r.rules ≡ None = h.rules_are ∙ none_alone c (components_of s) none in
      passed
      (record {
        no_fault = sym fault_here ∙ e;
        stored = h.stored alone;
        entries = h.entries alone;
        removable = removable good file h.links_are none;
      })

-- what both walks told
module _ {c : Context} {u index rows : List ℕ} {a e : ℕ} {o : List ℕ} {new : EntryTerms} {x : Result ℕ Refusal} (k : WalksTell c u index rows a e o new x) where
  pub walks_pass : (n : ℕ) → x ≡ Ok n → WalksPass c u index rows a e o new n
  walks_pass n q = go (subst (WalksTell c u index rows a e o new) q k)
    where
      go : WalksTell c u index rows a e o new (Ok n) → WalksPass c u index rows a e o new n
      go (passed y) = y

  pub walks_refuse : (f : Refusal) → x ≡ Err f → fault_of (contents_of c u) ≡ Err f
  walks_refuse f q = go (subst (WalksTell c u index rows a e o new) q k)
    where
      go : WalksTell c u index rows a e o new (Err f) → fault_of (contents_of c u) ≡ Err f
      go (refused y) = y
