-- What the lines of one part of a zone say together (R-5, refusal 10): when they make a part, for the reader, and `part_of`, which the code
-- computes line by line. The two are tied in proofs/PartLaws.
use Rattle.std.specs.Prelude.{ℕ, ◌≡◌, List, [], ◌∷◌, ◌++◌, Err, None, Ok, Option, Result, Some}
use Rattle.zone_values.specs.declared.zone_rule.ZoneRule.{ZoneRule}
use Rattle.values.specs.declared.given.Given.{Given}
use Rattle.values.specs.declared.rule.ValueError.{ValueError}
use Rattle.values.specs.Given.{given_more}
use Rattle.zone_properties.specs.declared.ZoneValue.{ZoneValue}
use Rattle.zone_properties.specs.declared.part.PartRead.{PartRead}
use Rattle.zone_properties.specs.declared.part.PartNumbers.{PartNumbers}

-- ---- for the reader

-- what a line says: a value, nothing, or a refusal
abbrev pub Said : Type 0
Said = Result (Option ZoneValue) ValueError

-- the onset that a value gives, and so on: none, or one
abbrev pub onset_in : ZoneValue → List ℕ
onset_in ZoneValue.Tzid = []
onset_in (ZoneValue.Onset n) = n ∷ []
onset_in (ZoneValue.From n) = []
onset_in (ZoneValue.To n) = []
onset_in (ZoneValue.Rule r) = []

abbrev pub from_in : ZoneValue → List ℕ
from_in ZoneValue.Tzid = []
from_in (ZoneValue.Onset n) = []
from_in (ZoneValue.From n) = n ∷ []
from_in (ZoneValue.To n) = []
from_in (ZoneValue.Rule r) = []

abbrev pub to_in : ZoneValue → List ℕ
to_in ZoneValue.Tzid = []
to_in (ZoneValue.Onset n) = []
to_in (ZoneValue.From n) = []
to_in (ZoneValue.To n) = n ∷ []
to_in (ZoneValue.Rule r) = []

abbrev pub rule_in : ZoneValue → List ZoneRule
rule_in ZoneValue.Tzid = []
rule_in (ZoneValue.Onset n) = []
rule_in (ZoneValue.From n) = []
rule_in (ZoneValue.To n) = []
rule_in (ZoneValue.Rule r) = r ∷ []

-- what a line gives: a line that says nothing, or is refused, gives none
abbrev pub said_in : {A : Type 0} → (ZoneValue → List A) → Said → List A
said_in f (Ok (Some v)) = f v
said_in f (Ok None) = []
said_in f (Err e) = []

-- all that the lines give, in their order
abbrev pub all_in : {A : Type 0} → (ZoneValue → List A) → List Said → List A
all_in f [] = []
all_in f (v ∷ vs) = said_in f v ++ all_in f vs

-- at most one rule
pub data RuleOf : List ZoneRule → PartNumbers → Type 0 where
  absent : {s f t : ℕ} → RuleOf [] (record { start = s; from = f; to = t; rule = None })
  given : {s f t : ℕ} {r : ZoneRule} → RuleOf (r ∷ []) (record { start = s; from = f; to = t; rule = Some r })

-- the lines of a part, by what they say, make these numbers: exactly one DTSTART, one TZOFFSETFROM, one TZOFFSETTO, and at most one RRULE
pub record PartOf (vs : List Said) (p : PartNumbers) : Type 0 where
  pub one_start : all_in onset_in vs ≡ p.start ∷ []
  pub one_from : all_in from_in vs ≡ p.from ∷ []
  pub one_to : all_in to_in vs ≡ p.to ∷ []
  pub at_most_one_rule : RuleOf (all_in rule_in vs) p

-- ---- as it is computed

unfoldable pub nothing_given : PartRead
nothing_given = record { start = Given.None; from = Given.None; to = Given.None; rule = Given.None }

unfoldable pub with_said : PartRead → ZoneValue → PartRead
with_said p ZoneValue.Tzid = p
with_said p (ZoneValue.Onset n) = record { start = given_more p.start n; from = p.from; to = p.to; rule = p.rule }
with_said p (ZoneValue.From n) = record { start = p.start; from = given_more p.from n; to = p.to; rule = p.rule }
with_said p (ZoneValue.To n) = record { start = p.start; from = p.from; to = given_more p.to n; rule = p.rule }
with_said p (ZoneValue.Rule r) = record { start = p.start; from = p.from; to = p.to; rule = given_more p.rule r }

unfoldable pub with_value : PartRead → Said → PartRead
with_value p (Ok (Some v)) = with_said p v
with_value p (Ok None) = p
with_value p (Err e) = p

unfoldable pub with_values : PartRead → List Said → PartRead
with_values p [] = p
with_values p (v ∷ vs) = with_values (with_value p v) vs

unfoldable pub by_rule : ℕ → ℕ → ℕ → Given ZoneRule → Option PartNumbers
by_rule s f t Given.None = Some (record { start = s; from = f; to = t; rule = None })
by_rule s f t (Given.One r) = Some (record { start = s; from = f; to = t; rule = Some r })
by_rule s f t Given.Several = None

abbrev pub by_to : ℕ → ℕ → Given ℕ → Given ZoneRule → Option PartNumbers
by_to s f Given.None g = None
by_to s f (Given.One t) g = by_rule s f t g
by_to s f Given.Several g = None

abbrev pub by_from : ℕ → Given ℕ → Given ℕ → Given ZoneRule → Option PartNumbers
by_from s Given.None t g = None
by_from s (Given.One f) t g = by_to s f t g
by_from s Given.Several t g = None

abbrev pub by_start : Given ℕ → Given ℕ → Given ℕ → Given ZoneRule → Option PartNumbers
by_start Given.None f t g = None
by_start (Given.One s) f t g = by_from s f t g
by_start Given.Several f t g = None

unfoldable pub part_of : PartRead → Option PartNumbers
part_of p = by_start p.start p.from p.to p.rule
