-- The value of EXDATE (request R-3): a comma list of times, each of them an exception,
-- their seconds as they are stored one behind the other, and which kinds they have.
use Rattle.std.specs.Prelude.{ℕ, ◌+◌, ◌*◌, ◌≤◌, ◌≡◌, Bool, true, false, cond, ◌&&◌, List, [], ◌∷◌, map, eqb, length, None, Option, Some}
use Rattle.std.proofs.lemmas.List.Edits.{sets}
use Rattle.line.specs.Splitting.{plain_split}
use Rattle.time.specs.declared.date_time.Kind.{Kind}
use Rattle.values.specs.Times.{read_time}
use Rattle.values.specs.declared.times.Context.{Context}
use Rattle.values.specs.declared.times.Time.{Time}
use Rattle.values.specs.declared.times.Form.{Form}
use Rattle.values.specs.declared.time_lists.Kinds.{Kinds}

-- the times stand between commas, and each is read as DTSTART's value is; an empty item is bad
unfoldable pub time_items : Context → Form → List ℕ → List (Option Time)
time_items c f v = map (read_time c f) (plain_split 44 v)

-- is an item a time?
abbrev pub is_time : Option Time → Bool
is_time (Some t) = true
is_time None = false

-- is each item a time?
unfoldable pub all_times : List (Option Time) → Bool
all_times [] = true
all_times (r ∷ rs) = is_time r && all_times rs

-- the times of a list, those that are bad left out
unfoldable pub good_times : List (Option Time) → List Time
good_times [] = []
good_times (Some t ∷ rs) = t ∷ good_times rs
good_times (None ∷ rs) = good_times rs

-- their seconds
unfoldable pub seconds_of : List Time → List ℕ
seconds_of [] = []
seconds_of (t ∷ ts) = t.second ∷ seconds_of ts

-- kinds are compared by a number for each
unfoldable pub kind_number : Kind → ℕ
kind_number Kind.Utc = 0
kind_number Kind.Floating = 1
kind_number Kind.Date = 2

-- are two kinds the same?
unfoldable pub same_kind : Kind → Kind → Bool
same_kind a b = eqb (kind_number a) (kind_number b)

-- which kinds there are with one more time of kind k
unfoldable pub with_kind : Kinds → Kind → Kinds
with_kind Kinds.None k = Kinds.One k
with_kind (Kinds.One j) k = cond (same_kind j k) (Kinds.One j) Kinds.Several
with_kind Kinds.Several k = Kinds.Several

-- and with those of a list, from left to right
unfoldable pub with_kinds : Kinds → List Time → Kinds
with_kinds ks [] = ks
with_kinds ks (t ∷ ts) = with_kinds (with_kind ks t.kind) ts

-- what storing the times of the value v behind n others in o answers, and what it leaves in o'.
-- All are times: there are m seconds now, and an item has eight bytes or more. Or one is bad: o' is as long as o was
pub data TimesAre (c : Context) (f : Form) (v : List ℕ) (kinds : Kinds) (o : List ℕ) (n : ℕ) (o' : List ℕ) : Option (ℕ × Kinds) → Type 0 where
  times_good : {m : ℕ} {ks : Kinds} → all_times (time_items c f v) ≡ true → o' ≡ sets o n (seconds_of (good_times (time_items c f v)))
      → m ≡ n + length (good_times (time_items c f v)) → ks ≡ with_kinds kinds (good_times (time_items c f v)) → 8 * m ≤ 8 * n + length v
      → TimesAre c f v kinds o n o' (Some (m, ks))
  times_bad : all_times (time_items c f v) ≡ false → length o' ≡ length o → TimesAre c f v kinds o n o' None
