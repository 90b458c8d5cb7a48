-- The lines of a part make its numbers exactly where each line that it needs stands once, and RRULE not twice.
use Rattle.std.specs.Prelude.{Err, None, Ok, Some}
use Prim.Native.Nat.{ℕ}
use mathlib.Core.Path.{◌≡◌, refl, sym, ap, subst, ◌∙◌}
use mathlib.Core.List.{List, [], ◌∷◌}
use mathlib.Core.Logic.{◌↔◌}
use native.Mathlib.Omega.{arith}
use Rattle.values.specs.declared.given.Given.{Given}
use Rattle.values.specs.Given.{given_more, given_all}
use Rattle.values.proofs.GivenLaws.{several_stay, given_one}
use Rattle.zone_values.specs.declared.zone_rule.ZoneRule.{ZoneRule}
use Rattle.zone_properties.specs.declared.ZoneValue.{ZoneValue}
use Rattle.zone_properties.specs.declared.part.PartRead.{PartRead}
use Rattle.zone_properties.specs.declared.part.PartNumbers.{PartNumbers}
use Rattle.zone_properties.specs.Parts.{Said, onset_in, from_in, to_in, rule_in, all_in, RuleOf, absent, given, PartOf}
use Rattle.zone_properties.specs.Parts.{nothing_given, with_said, with_value, with_values, by_rule, by_start, part_of}

-- ---- what was given after some lines, by what those lines give

record Summed (p : PartRead) (vs : List Said) (q : PartRead) : Type 0 where
  starts : q.start ≡ given_all p.start (all_in onset_in vs)
  froms : q.from ≡ given_all p.from (all_in from_in vs)
  tos : q.to ≡ given_all p.to (all_in to_in vs)
  rules : q.rule ≡ given_all p.rule (all_in rule_in vs)

summed_said : (p : PartRead) (v : ZoneValue) (vs : List Said) (q : PartRead) → Summed (with_said p v) vs q → Summed p (Ok (Some v) ∷ vs) q
unfolding with_said
summed_said p ZoneValue.Tzid vs q h = record { starts = h.starts; froms = h.froms; tos = h.tos; rules = h.rules }
summed_said p (ZoneValue.Onset n) vs q h = record { starts = h.starts; froms = h.froms; tos = h.tos; rules = h.rules }
summed_said p (ZoneValue.From n) vs q h = record { starts = h.starts; froms = h.froms; tos = h.tos; rules = h.rules }
summed_said p (ZoneValue.To n) vs q h = record { starts = h.starts; froms = h.froms; tos = h.tos; rules = h.rules }
summed_said p (ZoneValue.Rule r) vs q h = record { starts = h.starts; froms = h.froms; tos = h.tos; rules = h.rules }

summed_next : (p : PartRead) (v : Said) (vs : List Said) (q : PartRead) → Summed (with_value p v) vs q → Summed p (v ∷ vs) q
unfolding with_value
summed_next p (Ok (Some v)) vs q h = summed_said p v vs q h
summed_next p (Ok None) vs q h = record { starts = h.starts; froms = h.froms; tos = h.tos; rules = h.rules }
summed_next p (Err e) vs q h = record { starts = h.starts; froms = h.froms; tos = h.tos; rules = h.rules }

summed : (p : PartRead) (vs : List Said) → Summed p vs (with_values p vs)
unfolding with_values
summed p [] = record { starts = refl; froms = refl; tos = refl; rules = refl }
summed p (v ∷ vs) = summed_next p v vs (with_values (with_value p v) vs) (summed (with_value p v) vs)

broken_of : {A : Type 0} {p : PartNumbers} → None ≡ Some p → A
broken_of e = let z : ◌≡◌ {A = ℕ} 0 1 = cc in absurd (omega arith)

-- ---- the part

-- three numbers given once, and the rule
record Made (s f t : Given ℕ) (g : Given ZoneRule) (p : PartNumbers) : Type 0 where
  start : s ≡ Given.One p.start
  from : f ≡ Given.One p.from
  to : t ≡ Given.One p.to
  rule : by_rule p.start p.from p.to g ≡ Some p

-- a part keeps the numbers that it was made of
rule_keeps : (s f t : ℕ) (g : Given ZoneRule) (p : PartNumbers) → by_rule s f t g ≡ Some p → Made (Given.One s) (Given.One f) (Given.One t) g p
unfolding by_rule
rule_keeps s f t Given.None p e =
    let z : record { start = s; from = f; to = t; rule = None } ≡ p = cc in
    subst (Made (Given.One s) (Given.One f) (Given.One t) Given.None) z (record { start = refl; from = refl; to = refl; rule = refl })
rule_keeps s f t (Given.One r) p e =
    let z : record { start = s; from = f; to = t; rule = Some r } ≡ p = cc in
    subst (Made (Given.One s) (Given.One f) (Given.One t) (Given.One r)) z (record { start = refl; from = refl; to = refl; rule = refl })
rule_keeps s f t Given.Several p e = broken_of e

made_is : (s f t : Given ℕ) (g : Given ZoneRule) (p : PartNumbers) → by_start s f t g ≡ Some p → Made s f t g p
made_is Given.None f t g p e = broken_of e
made_is Given.Several f t g p e = broken_of e
made_is (Given.One s) Given.None t g p e = broken_of e
made_is (Given.One s) Given.Several t g p e = broken_of e
made_is (Given.One s) (Given.One f) Given.None g p e = broken_of e
made_is (Given.One s) (Given.One f) Given.Several g p e = broken_of e
made_is (Given.One s) (Given.One f) (Given.One t) g p e = rule_keeps s f t g p e

is_made : (s f t : Given ℕ) (g : Given ZoneRule) (p : PartNumbers) → Made s f t g p → by_start s f t g ≡ Some p
is_made s f t g p h = rw (h.start, h.from, h.to) h.rule

-- the rules that were given, none or one
rules_of : (rs : List ZoneRule) (p : PartNumbers) → by_rule p.start p.from p.to (given_all Given.None rs) ≡ Some p → RuleOf rs p
unfolding by_rule given_more
rules_of [] p e =
    let z : record { start = p.start; from = p.from; to = p.to; rule = None } ≡ p = cc in
    subst (RuleOf []) z absent
rules_of (r ∷ []) p e =
    let z : record { start = p.start; from = p.from; to = p.to; rule = Some r } ≡ p = cc in
    subst (RuleOf (r ∷ [])) z given
rules_of (r ∷ s ∷ rs) p e = broken_of (sym (ap (by_rule p.start p.from p.to) (several_stay rs)) ∙ e)

of_rules : (rs : List ZoneRule) (p : PartNumbers) → RuleOf rs p → by_rule p.start p.from p.to (given_all Given.None rs) ≡ Some p
unfolding by_rule given_more
of_rules rs p absent = refl
of_rules rs p given = refl

part_is : (vs : List Said) (p : PartNumbers) → part_of (with_values nothing_given vs) ≡ Some p → PartOf vs p
unfolding part_of nothing_given
part_is vs p e =
    let h = summed nothing_given vs in
    let m = made_is _ _ _ _ p e in
    record {
      one_start = given_one (all_in onset_in vs) p.start (sym h.starts ∙ m.start);
      one_from = given_one (all_in from_in vs) p.from (sym h.froms ∙ m.from);
      one_to = given_one (all_in to_in vs) p.to (sym h.tos ∙ m.to);
      at_most_one_rule = rules_of (all_in rule_in vs) p (sym (ap (by_rule p.start p.from p.to) h.rules) ∙ m.rule);
    }

is_part : (vs : List Said) (p : PartNumbers) → PartOf vs p → part_of (with_values nothing_given vs) ≡ Some p
unfolding part_of nothing_given given_more
is_part vs p k =
    let h = summed nothing_given vs in
    is_made _ _ _ _ p
    (record {
      start = h.starts ∙ ap (given_all Given.None) k.one_start;
      from = h.froms ∙ ap (given_all Given.None) k.one_from;
      to = h.tos ∙ ap (given_all Given.None) k.one_to;
      rule = ap (by_rule p.start p.from p.to) h.rules ∙ of_rules (all_in rule_in vs) p k.at_most_one_rule;
    })

-- the law
pub part_iff : (vs : List Said) (p : PartNumbers) → (part_of (with_values nothing_given vs) ≡ Some p) ↔ PartOf vs p
part_iff vs p = (part_is vs p, is_part vs p)
