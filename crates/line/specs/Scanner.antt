-- The scanner of a content line: a state for what was read last, and the state after one more byte.
-- `is_well_formed` is the test that the code makes; it holds exactly of the lines of the grammar.
use Rattle.std.specs.Prelude.{ℕ, suc, ◌<◌, Bool, true, false, cond, ◌&&◌, ◌≡◌, List, [], ◌∷◌, eqb, leb, length, get_or}
use Rattle.ascii.specs.Bytes.{is_name_byte, is_control}
use Rattle.line.specs.declared.scan.State.{State}
use Rattle.line.specs.declared.scan.State.TheVariants.{Start, Name, ParameterStart, ParameterName, ValueStart, Unquoted, Quoted, AfterQuoted, Value, Wrong}

-- what may follow a parameter value: a comma, a semicolon or a colon; any other byte gives s
unfoldable pub after_value : State → ℕ → State
after_value s b = cond (eqb b 44) ValueStart (cond (eqb b 59) ParameterStart (cond (eqb b 58) Value s))

unfoldable pub step : State → ℕ → State
step Start b = cond (is_name_byte b) Name Wrong
step Name b = cond (is_name_byte b) Name (cond (eqb b 59) ParameterStart (cond (eqb b 58) Value Wrong))
step ParameterStart b = cond (is_name_byte b) ParameterName Wrong
step ParameterName b = cond (is_name_byte b) ParameterName (cond (eqb b 61) ValueStart Wrong)
step ValueStart b = cond (eqb b 34) Quoted (after_value (cond (is_control b) Wrong Unquoted) b)
step Unquoted b = cond (eqb b 34) Wrong (after_value (cond (is_control b) Wrong Unquoted) b)
step Quoted b = cond (eqb b 34) AfterQuoted (cond (is_control b) Wrong Quoted)
step AfterQuoted b = after_value Wrong b
step Value b = cond (is_control b) Wrong Value
step Wrong b = Wrong

-- a line may end in its value alone
unfoldable pub is_ending : State → Bool
is_ending Start = false
is_ending Name = false
is_ending ParameterStart = false
is_ending ParameterName = false
is_ending ValueStart = false
is_ending Unquoted = false
is_ending Quoted = false
is_ending AfterQuoted = false
is_ending Value = true
is_ending Wrong = false

unfoldable pub scan : State → List ℕ → Bool
scan s [] = is_ending s
scan s (b ∷ l) = scan (step s b) l

unfoldable pub is_well_formed : List ℕ → Bool
is_well_formed l = leb (length l) 1024 && scan Start l

-- how many name bytes a line begins with
unfoldable pub name_bytes : List ℕ → ℕ
name_bytes [] = 0
name_bytes (b ∷ l) = cond (is_name_byte b) (suc (name_bytes l)) 0

-- ---- controls

-- no byte of a line is a control
pub record Clear (l : List ℕ) : Type 0 where
  pub none : (i : ℕ) → i < length l → is_control (get_or l i 0) ≡ false

-- some byte is
pub record Unclear (l : List ℕ) : Type 0 where
  pub place : ℕ
  pub inside : place < length l
  pub control : is_control (get_or l place 0) ≡ true
