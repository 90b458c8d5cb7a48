-- What a value of RRULE must be (document 01, Values), for the reader: its parts, how often each name may stand, and what each value
-- says. The code computes `rule_of`; the two are tied in proofs/RuleGrammar.antt.
use Rattle.std.specs.Prelude.{ℕ, ◌≤◌, ◌≡◌, Bool, true, false, length, Some}
use mathlib.Core.List.{List, [], ◌∷◌, ◌++◌, map, Memᴰ}
use Rattle.ascii.specs.Bytes.{is_digit}
use Rattle.ascii.specs.Names.{same_name, is_name, every}
use Rattle.ascii.specs.Words.{ascii}
use Rattle.time.specs.Grammar.{decimal}
use Rattle.line.specs.Splitting.{plain_split}
use Rattle.values.specs.Times.{read_time}
use Rattle.values.specs.declared.times.Context.{Context}
use Rattle.values.specs.declared.times.Time.{Time}
use Rattle.values.specs.declared.times.Form.{Form}
use Rattle.values.specs.declared.rule.Limit.{Limit}
use Rattle.values.specs.declared.rule.Rule.{Rule}

-- ---- parts

-- a name and a value
pub record RulePart : Type 0 where
  pub name : List ℕ
  pub value : List ℕ

-- as it stands in the value of RRULE: the name, an equals sign (61), the value
abbrev pub written : RulePart → List ℕ
written x = x.name ++ (61 ∷ x.value)

-- one of the four names that are supported
pub data KnownName (n : List ℕ) : Type 0 where
  freq : same_name n (ascii "FREQ") ≡ true → KnownName n
  interval : same_name n (ascii "INTERVAL") ≡ true → KnownName n
  count : same_name n (ascii "COUNT") ≡ true → KnownName n
  until : same_name n (ascii "UNTIL") ≡ true → KnownName n

-- each of the parts has one of them
abbrev pub EachKnown : List RulePart → Type 0
EachKnown [] = Unit {0}
EachKnown (x ∷ xs) = (is_name x.name ≡ true) × KnownName x.name × EachKnown xs

-- v in front of the others, where its name is asked for
abbrev pub value_if : Bool → List ℕ → List (List ℕ) → List (List ℕ)
value_if true v vs = v ∷ vs
value_if false v vs = vs

-- the values of all parts with this name, in order
unfoldable pub part_values : List ℕ → List RulePart → List (List ℕ)
part_values n [] = []
part_values n (x ∷ xs) = value_if (same_name x.name n) x.value (part_values n xs)

-- ---- what the value of one part says

-- how many days DAILY and WEEKLY have
pub data FrequencyIs (v : List ℕ) : ℕ → Type 0 where
  daily : same_name v (ascii "DAILY") ≡ true → FrequencyIs v 1
  weekly : same_name v (ascii "WEEKLY") ≡ true → FrequencyIs v 7

-- one to four digits, which make a number from 1 to the given one
pub record NumberIs (most : ℕ) (v : List ℕ) (n : ℕ) : Type 0 where
  pub some_digits : 1 ≤ length v
  pub few_digits : length v ≤ 4
  pub digits : every is_digit v ≡ true
  pub number : decimal 0 v ≡ n
  pub least : 1 ≤ n
  pub greatest : n ≤ most

-- eight bytes are a DATE, any other number of them a DATE-TIME
pub data UntilIs (c : Context) (v : List ℕ) (t : Time) : Type 0 where
  date : length v ≡ 8 → read_time c Form.Date v ≡ Some t → UntilIs c v t
  date_time : (length v ≡ 8 → ⊥) → read_time c Form.DateTime v ≡ Some t → UntilIs c v t

-- ---- how often a name may stand, and what follows where it does not

-- exactly one FREQ
pub data OneFrequency : List (List ℕ) → ℕ → Type 0 where
  given : {v : List ℕ} {days : ℕ} → FrequencyIs v days → OneFrequency (v ∷ []) days

-- at most one INTERVAL, from 1 to 999; without it the interval is 1
pub data OneInterval : List (List ℕ) → ℕ → Type 0 where
  absent : OneInterval [] 1
  given : {v : List ℕ} {n : ℕ} → NumberIs 999 v n → OneInterval (v ∷ []) n

-- at most one of COUNT, from 1 to 9,999, and UNTIL, whose values are these
pub data OneLimit (c : Context) : List (List ℕ) → List (List ℕ) → Limit → Type 0 where
  absent : OneLimit c [] [] Limit.Forever
  counted : {v : List ℕ} {n : ℕ} → NumberIs 9999 v n → OneLimit c (v ∷ []) [] (Limit.Count n)
  up_to : {v : List ℕ} {t : Time} → UntilIs c v t → OneLimit c [] (v ∷ []) (Limit.Until t)

-- ---- the whole value

-- v is a value of RRULE, and it says r: cut at each semicolon (59) it is a list of parts with known names
pub record RuleGrammar (c : Context) (v : List ℕ) (r : Rule) : Type 0 where
  pub parts : List RulePart
  pub cut : plain_split 59 v ≡ map written parts
  pub known : EachKnown parts
  pub frequency : OneFrequency (part_values (ascii "FREQ") parts) r.days
  pub interval : OneInterval (part_values (ascii "INTERVAL") parts) r.interval
  pub limit : OneLimit c (part_values (ascii "COUNT") parts) (part_values (ascii "UNTIL") parts) r.limit

-- ---- what is not supported

-- a name besides the four, or a FREQ besides the two
pub data Unsupported (x : RulePart) : Type 0 where
  other_name : (KnownName x.name → ⊥) → Unsupported x
  other_frequency : same_name x.name (ascii "FREQ") ≡ true → same_name x.value (ascii "DAILY") ≡ false
      → same_name x.value (ascii "WEEKLY") ≡ false → Unsupported x

-- among the pieces of v stands a name, = and a value that is not supported, whatever the other pieces are
pub record HasUnsupported (v : List ℕ) : Type 0 where
  pub part : RulePart
  pub stands : Memᴰ (written part) (plain_split 59 v)
  pub named : is_name part.name ≡ true
  pub unsupported : Unsupported part
