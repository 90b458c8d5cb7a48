-- What both walks over the components tell: the first of refusals 8 to 10, or the pieces of stated periods, the rows of all events and blocks, and that the starts that are taken away can be told.
use Rattle.std.specs.Prelude.{ℕ, ◌≡◌, List, get_or, Err, Ok, Result}
use Rattle.values.specs.declared.times.Context.{Context}
use Rattle.calendar.specs.Meaning.{entries_of, components_of, contents_of, fault_of}
use Rattle.calendar.specs.declared.Refusal.{Refusal}
use Rattle.pieces.specs.BusyPeriods.{stated_periods, gathered}
use Rattle.pieces.specs.Pieces.{pieces_of}
use Rattle.pieces.specs.Columns.{Stored}
use Rattle.series.specs.Columns.{Removable}
use Rattle.contents.specs.EntryRows.{EntryRows}
use Rattle.contents.specs.Contents.{EntryTerms}

-- nothing is refused, and n pieces stand
pub record WalksPass (c : Context) (s index rows : List ℕ) (a b : ℕ) (o : List ℕ) (new : EntryTerms) (n : ℕ) : Type 0 where
  pub no_fault : fault_of (contents_of c s) ≡ Ok tt
  pub stored : Stored o 0 (pieces_of a b (gathered stated_periods (entries_of c (components_of s)))) new.pieces n
  pub entries : EntryRows c s rows new.entries (get_or rows 2 0)
  pub removable : Removable c s index rows new.links new.excluded (get_or rows 2 0)

pub data WalksTell (c : Context) (s index rows : List ℕ) (a b : ℕ) (o : List ℕ) (new : EntryTerms) : Result ℕ Refusal → Type 0 where
  passed : {n : ℕ} → WalksPass c s index rows a b o new n → WalksTell c s index rows a b o new (Ok n)
  refused : {f : Refusal} → fault_of (contents_of c s) ≡ Err f → WalksTell c s index rows a b o new (Err f)
