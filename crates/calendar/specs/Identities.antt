-- What ties a VEVENT to others (request R-3): its UID, the start that it moves (RECURRENCE-ID), and the starts that it takes away (EXDATE).
-- Read of the lines directly in it, each by what it says; how many there may be of each is a rule beside this.
use Rattle.std.specs.Prelude.{ℕ, List, [], ◌∷◌, ◌++◌}
use Rattle.line.specs.Grammar.{ContentLine}
use Rattle.values.specs.TimeLists.{time_items, good_times}
use Rattle.values.specs.declared.times.Context.{Context}
use Rattle.values.specs.declared.times.Time.{Time}
use Rattle.property.specs.Properties.{property_value_of}
use Rattle.property.specs.declared.Scope.{Scope}
use Rattle.property.specs.Facts.{Reading, unread, fault, of, span, repeats, busy, identity, periods, uid, recurrence_id, exceptions}
use Rattle.nesting.specs.Components.{Numbered, Component, properties_in}

-- the bytes of its UID lines, the times of its RECURRENCE-ID lines, and the times of all its EXDATE lines, each in file order
pub record Identity : Type 0 where
  pub uids : List (List ℕ)
  pub recurrence_ids : List Time
  pub exceptions : List Time

-- ---- one line, by what it says

-- the bytes of a UID: its value as it stands
unfoldable pub uids_by : Reading → ContentLine → List (List ℕ)
uids_by unread x = []
uids_by (fault f) x = []
uids_by (of (span f)) x = []
uids_by (of (repeats r)) x = []
uids_by (of (busy f)) x = []
uids_by (of (identity uid)) x = x.value ∷ []
uids_by (of (identity (recurrence_id t))) x = []
uids_by (of (identity (exceptions f))) x = []
uids_by (of (periods b)) x = []

-- the time of a RECURRENCE-ID
unfoldable pub recurrence_ids_by : Reading → List Time
recurrence_ids_by unread = []
recurrence_ids_by (fault f) = []
recurrence_ids_by (of (span f)) = []
recurrence_ids_by (of (repeats r)) = []
recurrence_ids_by (of (busy f)) = []
recurrence_ids_by (of (identity uid)) = []
recurrence_ids_by (of (identity (recurrence_id t))) = t ∷ []
recurrence_ids_by (of (identity (exceptions f))) = []
recurrence_ids_by (of (periods b)) = []

-- the times of an EXDATE
unfoldable pub exceptions_by : Context → Reading → ContentLine → List Time
exceptions_by c unread x = []
exceptions_by c (fault f) x = []
exceptions_by c (of (span f)) x = []
exceptions_by c (of (repeats r)) x = []
exceptions_by c (of (busy f)) x = []
exceptions_by c (of (identity uid)) x = []
exceptions_by c (of (identity (recurrence_id t))) x = []
exceptions_by c (of (identity (exceptions f))) x = good_times (time_items c f x.value)
exceptions_by c (of (periods b)) x = []

-- ---- the lines directly in a VEVENT, in file order

unfoldable pub uids_in : Context → List Numbered → List (List ℕ)
uids_in c [] = []
uids_in c (x ∷ xs) = uids_by (property_value_of c Scope.Event x.line) x.line ++ uids_in c xs

unfoldable pub recurrence_ids_in : Context → List Numbered → List Time
recurrence_ids_in c [] = []
recurrence_ids_in c (x ∷ xs) = recurrence_ids_by (property_value_of c Scope.Event x.line) ++ recurrence_ids_in c xs

unfoldable pub exceptions_in : Context → List Numbered → List Time
exceptions_in c [] = []
exceptions_in c (x ∷ xs) = exceptions_by c (property_value_of c Scope.Event x.line) x.line ++ exceptions_in c xs

unfoldable pub identity_in : Context → List Numbered → Identity
identity_in c xs = record { uids = uids_in c xs; recurrence_ids = recurrence_ids_in c xs; exceptions = exceptions_in c xs }

-- that of a VEVENT
unfoldable pub identity_of : Context → Component → Identity
identity_of c k = identity_in c (properties_in k.items)
