-- What reading the lines directly in a component tells: the first fault of a value, or what the lines say together and the busy pieces of their periods.
use Rattle.std.specs.Prelude.{ℕ, ◌≡◌, true, false, List, [], ◌∷◌, ◌++◌, Err, None, Ok, Option, Result, Some}
use Rattle.calendar.specs.declared.LineError.{LineError}
use Rattle.values.specs.Period.{period_items, all_periods}
use Rattle.values.specs.declared.times.Context.{Context}
use Rattle.periods.specs.declared.BusyType.{BusyType}
use Rattle.periods.specs.BusyTypes.{BusyPeriod, typed}
use Rattle.property.specs.Properties.{property_value_of}
use Rattle.property.specs.declared.Scope.{Scope}
use Rattle.nesting.specs.Components.{Numbered}
use Rattle.events.specs.ComponentProperties.{no_properties, with_properties}
use Rattle.events.specs.declared.ComponentProperties.{ComponentProperties}
use Rattle.calendar.specs.Meaning.{property_values_in, fault_in, periods_by}
use Rattle.calendar.specs.Periods.{periods_from}
use Rattle.pieces.specs.Pieces.{pieces_of}
use Rattle.pieces.specs.Columns.{Stored}
use Rattle.component_lines.specs.Identities.{LinesTie}
use Rattle.component_lines.specs.declared.LinesRead.{LinesRead}

-- what the lines of a component say together
unfoldable pub together : Context → Scope → List Numbered → ComponentProperties
together c o xs = with_properties no_properties (property_values_in c o xs)

-- the first fault of the lines of a component, or none
unfoldable pub lines_fault : Context → Scope → List Numbered → Result (Unit {0}) LineError
lines_fault c o xs = fault_in c o xs (Ok tt)

-- the periods of the lines of a component, in file order
unfoldable pub periods_in : Context → Scope → List Numbered → List BusyPeriod
periods_in c o [] = []
periods_in c o (x ∷ xs) = periods_by (property_value_of c o x.line) x.line ++ periods_in c o xs

-- no line has a fault, g is what they say, and the pieces from a up to b of their periods were stored behind n others in o, which left o', and there are m
pub record LinesGood (c : Context) (s : Scope) (xs : List Numbered) (a b : ℕ) (o : List ℕ) (n : ℕ) (o' : List ℕ) (g : ComponentProperties) (m : ℕ) : Type 0 where
  pub no_fault : lines_fault c s xs ≡ Ok tt
  pub say : g ≡ together c s xs
  pub stored : Stored o n (pieces_of a b (periods_in c s xs)) o' m

-- what reading the lines of a component answers, its END line being `stop`, and the column of excluded seconds e with h in it
pub data LinesAre (c : Context) (o : Scope) (s index : List ℕ) (xs : List Numbered) (stop a b : ℕ) (p : List ℕ) (n : ℕ) (p' e : List ℕ) (h : ℕ) (e' : List ℕ) : Result LinesRead LineError → Type 0 where
  good : {r : LinesRead} → LinesGood c o xs a b p n p' r.properties r.count → LinesTie c o s index xs e h e' stop r.identity
      → LinesAre c o s index xs stop a b p n p' e h e' (Ok r)
  refused : {f : LineError} → lines_fault c o xs ≡ Err f → LinesAre c o s index xs stop a b p n p' e h e' (Err f)

-- the periods of a FREEBUSY value, all of one type
unfoldable pub value_periods : BusyType → List ℕ → List BusyPeriod
value_periods b v = typed b (periods_from v 0)

-- what storing the periods of a value answers
pub data ValueIs (y : BusyType) (v : List ℕ) (a b : ℕ) (o : List ℕ) (n : ℕ) (o' : List ℕ) : Option ℕ → Type 0 where
  value_good : {m : ℕ} → all_periods (period_items v) ≡ true → Stored o n (pieces_of a b (value_periods y v)) o' m → ValueIs y v a b o n o' (Some m)
  value_bad : all_periods (period_items v) ≡ false → ValueIs y v a b o n o' None
