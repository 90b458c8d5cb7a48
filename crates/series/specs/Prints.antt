-- The fingerprints of UIDs, row by row: equal UIDs have equal ones, so a row whose fingerprint is new has a UID that is new.
use Rattle.std.specs.Prelude.{ℕ, ◌+◌, ◌*◌, ◌<◌, ◌≡◌, Bool, true, List, [], ◌∷◌, length, get_or, take}
use Rattle.fingerprints.specs.Fingerprints.{fingerprint}
use Rattle.values.specs.declared.times.Context.{Context}
use Rattle.structure.specs.Rows.{component_by}
use Rattle.calendar.specs.Identities.{identity_of}
use Rattle.values.specs.declared.given.Given.{Given}
use Rattle.identities.specs.declared.RecurrenceId.{RecurrenceId}

-- that of a UID, by its first 1,024 bytes; no line has more
unfoldable pub print_of : List ℕ → ℕ
print_of u = fingerprint (take 1024 u)

-- r is that of row k, if it is an event with one UID
pub record PrintIs (c : Context) (s rows : List ℕ) (k r : ℕ) : Type 0 where
  pub print : get_or rows (4 * k + 3) 0 ≡ 1 → (u : List ℕ) → (identity_of c (component_by s rows k)).uids ≡ u ∷ [] → r ≡ print_of u

-- the column has those of the rows before row m, behind 64 places that are free; a row whose mark is 0 has one that is new
pub record Printed (c : Context) (s rows prints marks : List ℕ) (m : ℕ) : Type 0 where
  pub room : length prints ≡ 320
  pub mark_room : length marks ≡ 256
  pub each : (k : ℕ) → k < m → PrintIs c s rows k (get_or prints (64 + k) 0)
  pub new : (k : ℕ) → k < m → get_or marks k 0 ≡ 0 → (j : ℕ) → j < k → get_or prints (64 + j) 0 ≡ get_or prints (64 + k) 0 → ⊥

-- the UID of the event of row k is u, and its fingerprint can be compared with those before it
pub record Compared (c : Context) (s rows prints marks : List ℕ) (k : ℕ) (u : List ℕ) : Type 0 where
  pub few : k < 256
  pub printed : Printed c s rows prints marks (k + 1)
  pub is_event_holds : get_or rows (4 * k + 3) 0 ≡ 1
  pub uid : (identity_of c (component_by s rows k)).uids ≡ u ∷ []

-- where r says so, row k has no RECURRENCE-ID, and its fingerprint stands at no row before it
pub record Unshared (prints : List ℕ) (k : ℕ) (recurrence : Given RecurrenceId) (r : Bool) : Type 0 where
  pub is_master_holds : r ≡ true → recurrence ≡ Given.None
  pub is_new : r ≡ true → (j : ℕ) → j < k → get_or prints (64 + j) 0 ≡ get_or prints (64 + k) 0 → ⊥

-- row k can be asked whether it is unshared
pub record Markable (prints marks : List ℕ) (k : ℕ) : Type 0 where
  pub few : k < 256
  pub room : length prints ≡ 320
  pub mark_room : length marks ≡ 256
  pub new : get_or marks k 0 ≡ 0 → (j : ℕ) → j < k → get_or prints (64 + j) 0 ≡ get_or prints (64 + k) 0 → ⊥
