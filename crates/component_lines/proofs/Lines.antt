-- Laws of the lines of a component: what a line is to the first fault, to what the lines say together and to the pieces of their periods.
use Rattle.std.specs.Prelude.{Err, None, Ok, Option, Result, Some}
use Prim.Native.Nat.{ℕ, ◌+◌, ◌*◌, ◌-◌, ◌≤◌}
use Rattle.values.specs.declared.rule.ValueError.{ValueError}
use Rattle.property.specs.declared.PropertyValue.{PropertyValue}
use Rattle.calendar.specs.declared.LineError.{LineError}
use mathlib.Core.Path.{◌≡◌, refl, sym, ap, subst, ◌∙◌}
use mathlib.Core.Bool.{Bool, true, false, cond, true≢false}
use mathlib.Core.List.{List, [], ◌∷◌, ◌++◌}
use native.Mathlib.Omega.{arith}
use lib.ListN.{get_or}
use Rattle.line.specs.Grammar.{ContentLine}
use Rattle.line.specs.Reading.{line_of, value_of}
use Rattle.values.specs.Period.{period_items, all_periods}
use Rattle.values.specs.TimeLists.{time_items, all_times}
use Rattle.values.specs.declared.times.Context.{Context}
use Rattle.values.specs.declared.times.Form.{Form}
use Rattle.values.specs.declared.times.Time.{Time}
use Rattle.periods.specs.declared.BusyType.{BusyType}
use Rattle.periods.specs.declared.Period.{Period}
use Rattle.periods.specs.BusyTypes.{BusyPeriod, typed}
use Rattle.property.specs.Facts.{ValueFault, Reading, unread, fault, of, span, repeats, busy, identity, periods, uid, recurrence_id, exceptions, reading_of}
use Rattle.property.specs.Properties.{before_items, items_good, with_items, property_value_of, gives_periods}
use Rattle.property.specs.declared.Scope.{Scope}
use Rattle.property.proofs.Properties.{event_periods_lem}
use Rattle.nesting.specs.Components.{Numbered, Items, properties_in}
use Rattle.index.specs.Index.{line_bytes, Entry, Indexed}
use Rattle.structure.specs.Rows.{items_by, numbered_line, ItemsAt, RowOf, component_by}
use Rattle.structure.specs.Items.{item_by, PropertyAt, InnerAt}
use Rattle.structure.specs.declared.items.Item.{Item}
use Rattle.structure.proofs.ItemsLaws.{property_at_holds, inner_at, no_item_at}
use Rattle.events.specs.ComponentProperties.{no_properties, with_property, with_properties}
use Rattle.events.specs.declared.ComponentProperties.{ComponentProperties}
use Rattle.calendar.specs.Meaning.{property_values_in, fault_or, fault_in, periods_by, block_periods}
use Rattle.calendar.specs.Periods.{periods_from}
use Rattle.calendar.proofs.Periods.{periods_all}
use Rattle.pieces.specs.Pieces.{pieces_of}
use Rattle.pieces.specs.Columns.{Room}
use Rattle.pieces.proofs.Pieces.{pieces_of_none, pieces_of_append}
use Rattle.component_lines.specs.Lines.{together, lines_fault, periods_in, value_periods, ValueIs, LinesGood, LinesAre, good, refused}
use Rattle.component_lines.specs.Identities.{LinesTie}
use Rattle.component_lines.specs.declared.LinesRead.{LinesRead}
use Rattle.component_lines.proofs.LinesStoring.{Left, left_start, left_then, left_same, left_none, value_stored, value_unread}

-- ---- a line by what it says

-- it says something that is neither a fault nor a period: a line that is not read, and all that an event or a block is made of
abbrev pub Plain : Reading → Type 0
Plain unread = Unit
Plain (fault f) = ⊥
Plain (of (span f)) = Unit
Plain (of (repeats r)) = Unit
Plain (of (busy f)) = Unit
Plain (of (identity uid)) = Unit
Plain (of (identity (recurrence_id t))) = Unit
Plain (of (identity (exceptions f))) = ⊥
Plain (of (periods y)) = ⊥

module _ (n : ℕ) (r : Result (Unit {0}) LineError) (x : ContentLine) (c : Context) (w : List ℕ) where
  -- it is no fault, gives no period, and stays as it is
  plain_so : (v : Reading) → Plain v → (fault_or n v r ≡ r) × (periods_by v x ≡ []) × (with_items c w v ≡ v)
  unfolding fault_or periods_by with_items items_good
  plain_so unread p = (refl, refl, refl)
  plain_so (fault f) p = absurd p
  plain_so (of (span f)) p = (refl, refl, refl)
  plain_so (of (repeats q)) p = (refl, refl, refl)
  plain_so (of (busy f)) p = (refl, refl, refl)
  plain_so (of (identity uid)) p = (refl, refl, refl)
  plain_so (of (identity (recurrence_id t))) p = (refl, refl, refl)
  plain_so (of (identity (exceptions f))) p = absurd p
  plain_so (of (periods y)) p = absurd p

pub nothing_said : (g : ComponentProperties) → g ≡ with_property g unread
unfolding with_property
nothing_said g = refl

-- neither UID nor RECURRENCE-ID is a part of the event
pub uid_said : (g : ComponentProperties) → g ≡ with_property g (of (identity uid))
unfolding with_property
uid_said g = refl

pub recurrence_said : (g : ComponentProperties) (t : Time) → g ≡ with_property g (of (identity (recurrence_id t)))
unfolding with_property
recurrence_said g t = refl

-- what a line says, by what it says before its periods are looked at
module _ (c : Context) (o : Scope) (l : List ℕ) {u : Result PropertyValue ValueError} (q : reading_of u ≡ before_items c o (line_of l)) where
  value_as : (v : Result PropertyValue ValueError) → u ≡ v → property_value_of c o (line_of l) ≡ with_items c (value_of l) (reading_of v)
  unfolding property_value_of line_of
  value_as v e = ap (with_items c (value_of l)) (sym q ∙ ap reading_of e)

  value_unsupported : u ≡ Err ValueError.Unsupported → property_value_of c o (line_of l) ≡ fault ValueFault.unsupported
  unfolding with_items reading_of
  value_unsupported e = value_as (Err ValueError.Unsupported) e

  value_bad : u ≡ Err ValueError.Bad → property_value_of c o (line_of l) ≡ fault ValueFault.bad
  unfolding with_items reading_of
  value_bad e = value_as (Err ValueError.Bad) e

  module _ (y : BusyType) (e : u ≡ Ok (PropertyValue.HasPeriods y)) {w : List ℕ} (f : w ≡ value_of l) where
    periods_by_lem : (t : Bool) → all_periods (period_items w) ≡ t → property_value_of c o (line_of l) ≡ cond t (of (periods y)) (fault ValueFault.bad)
    unfolding with_items items_good reading_of
    periods_by_lem t h =
        value_as (Ok (PropertyValue.HasPeriods y)) e
        ∙ ap (λ (k : Bool). cond k (of (periods y)) (fault ValueFault.bad)) (ap (λ (k : List ℕ). all_periods (period_items k)) (sym f) ∙ h)

-- ---- from line to line

-- the properties from a line on
abbrev pub properties_by : List ℕ → ℕ → List Numbered
properties_by s i = properties_in (items_by s i)

module _ {s rows : List ℕ} {i row j m : ℕ} where
  pub next_property : PropertyAt s rows i row j m → properties_by s i ≡ numbered_line s i ∷ properties_by s (i + 1)
  unfolding properties_in
  next_property h = ap properties_in h.items

  pub next_inner : {next after : ℕ} → InnerAt s rows i row j m next after → properties_by s i ≡ properties_by s next
  unfolding properties_in
  next_inner h = ap properties_in h.items

pub no_properties_lem : (s : List ℕ) (i : ℕ) → items_by s i ≡ Items.none → properties_by s i ≡ []
unfolding properties_in
no_properties_lem s i h = ap properties_in h

-- ---- the lines of a component

-- the lines from line i on are left of xs; those before have no fault, g is what they say together, and the pieces of those that are left are left to store
pub record ReadingLines (c : Context) (t : Scope) (s rows : List ℕ) (xs : List Numbered) (a b : ℕ) (o₀ : List ℕ) (n₀ : ℕ) (o : List ℕ) (n : ℕ) (g : ComponentProperties) (i row j m : ℕ) : Type 0 where
  pub items : ItemsAt s rows i row j m
  pub fault : lines_fault c t (properties_by s i) ≡ lines_fault c t xs
  pub say : with_properties g (property_values_in c t (properties_by s i)) ≡ together c t xs
  pub still : Left o₀ n₀ (pieces_of a b (periods_in c t xs)) o n (pieces_of a b (periods_in c t (properties_by s i)))

-- the line l stands at i and is a property, and u is what it says before its periods are looked at
pub record LineHere (c : Context) (t : Scope) (s rows : List ℕ) (xs : List Numbered) (a b : ℕ) (o₀ : List ℕ) (n₀ : ℕ) (o : List ℕ) (n : ℕ) (g : ComponentProperties) (i row j m : ℕ)
    (l : List ℕ) (u : Result PropertyValue ValueError) : Type 0 where
  pub reading : ReadingLines c t s rows xs a b o₀ n₀ o n g i row j m
  pub here : PropertyAt s rows i row j m
  pub line : l ≡ line_bytes s i
  pub value : reading_of u ≡ before_items c t (line_of l)

module _ (c : Context) (t : Scope) {s rows : List ℕ} {k : ℕ} (r : RowOf s rows k) (a b : ℕ) {o : List ℕ} {n : ℕ} (room : Room o) (few : n ≤ 513) where
  pub reading_start : {g : ComponentProperties} (first behind last : ℕ) → g ≡ no_properties → first ≡ get_or rows (4 * k) 0 → behind ≡ get_or rows (4 * k + 1) 0
      → last ≡ get_or rows (4 * k + 2) 0 → ReadingLines c t s rows (properties_in (component_by s rows k).items) a b o n o n g first (k + 1) (behind - 1) last
  unfolding component_by together
  reading_start first behind last e p q w =
      let z : behind - 1 ≡ r.stop = omega (arith, r.end) in
      rw (z, p, w)
      (record {
        items = r.inner;
        fault = refl;
        say = ap (λ (y : ComponentProperties). with_properties y (property_values_in c t (properties_by s (get_or rows (4 * k) 0)))) e;
        still = left_start o n _ few room;
      })

module _ {c : Context} {t : Scope} {s rows : List ℕ} {xs : List Numbered} {a b : ℕ} {o₀ : List ℕ} {n₀ : ℕ} {o : List ℕ} {n : ℕ} {g : ComponentProperties} {i row j m : ℕ}
    (z : ReadingLines c t s rows xs a b o₀ n₀ o n g i row j m) where
  pub reading_inner : {r : Item} {next after : ℕ} → r ≡ item_by rows i row j m → r ≡ Item.Inner next after → ReadingLines c t s rows xs a b o₀ n₀ o n g next after j m
  reading_inner q e =
      let h = inner_at z.items q e in
      record {
        items = h.rest;
        fault = ap (lines_fault c t) (sym (next_inner h)) ∙ z.fault;
        say = ap (λ (ys : List Numbered). with_properties g (property_values_in c t ys)) (sym (next_inner h)) ∙ z.say;
        still = left_same z.still (ap (λ (ys : List Numbered). pieces_of a b (periods_in c t ys)) (next_inner h));
      }

  pub reading_done : {r : Item} → r ≡ item_by rows i row j m → r ≡ Item.Done → LinesGood c t xs a b o₀ n₀ o g n
  unfolding lines_fault fault_in with_properties property_values_in periods_in
  reading_done q e =
      let h = no_properties_lem s i (no_item_at z.items q e) in
      record {
        no_fault = sym z.fault ∙ ap (lines_fault c t) h;
        say = ap (λ (ys : List Numbered). with_properties g (property_values_in c t ys)) (sym h) ∙ z.say;
        stored = left_none z.still (ap (λ (ys : List Numbered). pieces_of a b (periods_in c t ys)) h ∙ pieces_of_none a b);
      }

  -- the line of a property is known to the index
  pub line_entry : {r : Item} {index : List ℕ} → r ≡ item_by rows i row j m → r ≡ Item.Property → Indexed s index → Entry s index i
  line_entry q e x = x.entries i (property_at_holds z.items q e).inside

  -- its value is read
  pub line_read : {r : Item} {l : List ℕ} {u : Result PropertyValue ValueError} → r ≡ item_by rows i row j m → r ≡ Item.Property → l ≡ line_bytes s i → reading_of u ≡ before_items c t (line_of l)
      → LineHere c t s rows xs a b o₀ n₀ o n g i row j m l u
  line_read q e p f = record { reading = z; here = property_at_holds z.items q e; line = p; value = f }

module _ {c : Context} {t : Scope} {s rows : List ℕ} {xs : List Numbered} {a b : ℕ} {o₀ : List ℕ} {n₀ : ℕ} {o : List ℕ} {n : ℕ} {g : ComponentProperties} {i row j m : ℕ} {l : List ℕ}
    {u : Result PropertyValue ValueError} (z : LineHere c t s rows xs a b o₀ n₀ o n g i row j m l u) where
  -- what it says
  module _ {v : Reading} (q : property_value_of c t (line_of l) ≡ v) where
    value_here : property_value_of c t (numbered_line s i).line ≡ v
    unfolding numbered_line
    value_here = ap (λ (y : List ℕ). property_value_of c t (line_of y)) (sym z.line) ∙ q

    fault_here : fault_or (i + 1) v (lines_fault c t (properties_by s (i + 1))) ≡ lines_fault c t xs
    unfolding lines_fault fault_in numbered_line
    fault_here =
        ap (λ (u : Reading). fault_or (i + 1) u (lines_fault c t (properties_by s (i + 1)))) (sym value_here)
        ∙ ap (lines_fault c t) (sym (next_property z.here))
        ∙ z.reading.fault

    say_here : with_properties (with_property g v) (property_values_in c t (properties_by s (i + 1))) ≡ together c t xs
    unfolding with_properties property_values_in
    say_here =
        ap (λ (u : Reading). with_properties (with_property g u) (property_values_in c t (properties_by s (i + 1)))) (sym value_here)
        ∙ ap (λ (ys : List Numbered). with_properties g (property_values_in c t ys)) (sym (next_property z.here))
        ∙ z.reading.say

    pieces_here : pieces_of a b (periods_in c t (properties_by s i)) ≡ pieces_of a b (periods_by v (line_of l)) ++ pieces_of a b (periods_in c t (properties_by s (i + 1)))
    unfolding periods_in numbered_line
    pieces_here =
        ap (λ (ys : List Numbered). pieces_of a b (periods_in c t ys)) (next_property z.here)
        ∙ ap (λ (y : List ℕ). pieces_of a b (periods_by (property_value_of c t (line_of y)) (line_of y) ++ periods_in c t (properties_by s (i + 1)))) (sym z.line)
        ∙ ap (λ (y : Reading). pieces_of a b (periods_by y (line_of l) ++ periods_in c t (properties_by s (i + 1)))) q
        ∙ pieces_of_append a b (periods_by v (line_of l)) (periods_in c t (properties_by s (i + 1)))

  pub reading_unsupported : u ≡ Err ValueError.Unsupported → lines_fault c t xs ≡ Err (LineError.Unsupported (i + 1))
  unfolding fault_or
  reading_unsupported e = sym (fault_here (value_unsupported c t l z.value e))

  pub reading_bad : u ≡ Err ValueError.Bad → lines_fault c t xs ≡ Err (LineError.Bad (i + 1))
  unfolding fault_or
  reading_bad e = sym (fault_here (value_bad c t l z.value e))

  pub reading_plain : {v : Result PropertyValue ValueError} {g' : ComponentProperties} → u ≡ v → g' ≡ with_property g (reading_of v) → Plain (reading_of v) → ReadingLines c t s rows xs a b o₀ n₀ o n g' (i + 1) row j m
  reading_plain {v} e f y =
      let so = plain_so (i + 1) (lines_fault c t (properties_by s (i + 1))) (line_of l) c (value_of l) (reading_of v) y in
      let w : property_value_of c t (line_of l) ≡ reading_of v = value_as c t l z.value v e ∙ so.2 in
      record {
        items = z.here.rest;
        fault = sym so.0 ∙ fault_here w;
        say = ap (λ (x : ComponentProperties). with_properties x (property_values_in c t (properties_by s (i + 1)))) f ∙ say_here w;
        still =
            left_same z.reading.still
            (pieces_here w
            ∙ ap (λ (ps : List BusyPeriod). pieces_of a b ps ++ pieces_of a b (periods_in c t (properties_by s (i + 1)))) so.1
            ∙ ap (λ (ps : List BusyPeriod). ps ++ pieces_of a b (periods_in c t (properties_by s (i + 1)))) (pieces_of_none a b));
      }

  module _ {y : BusyType} (e : u ≡ Ok (PropertyValue.HasPeriods y)) {w : List ℕ} (f : w ≡ value_of l) {o' : List ℕ} {r : Option ℕ} (k : ValueIs y w a b o n o' r) where
    pub reading_bad_period : r ≡ None → lines_fault c t xs ≡ Err (LineError.Bad (i + 1))
    unfolding fault_or
    reading_bad_period x = sym (fault_here (periods_by_lem c t l z.value y e f false (value_unread k x)))

    pub reading_periods : (n' : ℕ) → r ≡ Some n' → ReadingLines c t s rows xs a b o₀ n₀ o' n' g (i + 1) row j m
    unfolding fault_or with_property periods_by line_of value_periods
    reading_periods n' x =
        let (d, st) = value_stored k n' x in
        let v : property_value_of c t (line_of l) ≡ of (periods y) = periods_by_lem c t l z.value y e f true d in
        record {
          items = z.here.rest;
          fault = fault_here v;
          say = say_here v;
          still =
              left_then z.reading.still
              (pieces_here v
              ∙ ap
              (λ (ps : List Period). pieces_of a b (typed y ps) ++ pieces_of a b (periods_in c t (properties_by s (i + 1))))
              (sym (ap (λ (ws : List ℕ). periods_from ws 0) f ∙ periods_all (value_of l))))
              st;
        }

  -- the times of an EXDATE line: bad where one is, else the line says no more of the event
  module _ {x : Form} (e : u ≡ Ok (PropertyValue.HasExceptions x)) {w : List ℕ} (f : w ≡ value_of l) where
    times_by : (y : Bool) → all_times (time_items c x w) ≡ y → property_value_of c t (line_of l) ≡ cond y (of (identity (exceptions x))) (fault ValueFault.bad)
    unfolding with_items items_good reading_of
    times_by y h =
        value_as c t l z.value (Ok (PropertyValue.HasExceptions x)) e
        ∙ ap (λ (k : Bool). cond k (of (identity (exceptions x))) (fault ValueFault.bad)) (ap (λ (k : List ℕ). all_times (time_items c x k)) (sym f) ∙ h)

    pub reading_bad_time : all_times (time_items c x w) ≡ false → lines_fault c t xs ≡ Err (LineError.Bad (i + 1))
    unfolding fault_or
    reading_bad_time h = sym (fault_here (times_by false h))

    pub exceptions_said : all_times (time_items c x w) ≡ true → property_value_of c t (numbered_line s i).line ≡ of (identity (exceptions x))
    exceptions_said h = value_here (times_by true h)

    pub reading_exceptions : all_times (time_items c x w) ≡ true → ReadingLines c t s rows xs a b o₀ n₀ o n g (i + 1) row j m
    unfolding fault_or with_property periods_by
    reading_exceptions h =
        let v = times_by true h in
        record {
          items = z.here.rest;
          fault = fault_here v;
          say = say_here v;
          still =
              left_same z.reading.still
              (pieces_here v ∙ ap (λ (ps : List BusyPeriod). ps ++ pieces_of a b (periods_in c t (properties_by s (i + 1)))) (pieces_of_none a b));
        }

  -- what the other lines say
  pub plain_said : {v : Result PropertyValue ValueError} → u ≡ v → Plain (reading_of v) → property_value_of c t (numbered_line s i).line ≡ reading_of v
  plain_said {v} e y = value_here (value_as c t l z.value v e ∙ (plain_so (i + 1) (Ok tt) (line_of l) c (value_of l) (reading_of v) y).2)

  pub periods_said : {y : BusyType} → u ≡ Ok (PropertyValue.HasPeriods y) → {w : List ℕ} → w ≡ value_of l → all_periods (period_items w) ≡ true
      → property_value_of c t (numbered_line s i).line ≡ of (periods y)
  periods_said {y} e f h = value_here (periods_by_lem c t l z.value y e f true h)

-- ---- what the answers say

module _ {c : Context} {t : Scope} {s index : List ℕ} {xs : List Numbered} {stop a b : ℕ} {o : List ℕ} {n : ℕ} {o' e₀ : List ℕ} {held : ℕ} {e' : List ℕ} {r : Result LinesRead LineError}
    (h : LinesAre c t s index xs stop a b o n o' e₀ held e' r) where
  pub lines_of : (x : LinesRead) → r ≡ Ok x → LinesGood c t xs a b o n o' x.properties x.count
  lines_of x e = go (subst (LinesAre c t s index xs stop a b o n o' e₀ held e') e h)
    where
      go : LinesAre c t s index xs stop a b o n o' e₀ held e' (Ok x) → LinesGood c t xs a b o n o' x.properties x.count
      go (good y w) = y

  pub lines_tie : (x : LinesRead) → r ≡ Ok x → LinesTie c t s index xs e₀ held e' stop x.identity
  lines_tie x e = go (subst (LinesAre c t s index xs stop a b o n o' e₀ held e') e h)
    where
      go : LinesAre c t s index xs stop a b o n o' e₀ held e' (Ok x) → LinesTie c t s index xs e₀ held e' stop x.identity
      go (good y w) = w

  pub lines_refused : (f : LineError) → r ≡ Err f → lines_fault c t xs ≡ Err f
  lines_refused f e = go (subst (LinesAre c t s index xs stop a b o n o' e₀ held e') e h)
    where
      go : LinesAre c t s index xs stop a b o n o' e₀ held e' (Err f) → lines_fault c t xs ≡ Err f
      go (refused y) = y

-- ---- the periods of an event's lines, which has none, and of a block's

no_periods_by : (v : Reading) (x : ContentLine) → gives_periods v ≡ false → periods_by v x ≡ []
unfolding gives_periods periods_by
no_periods_by unread x h = refl
no_periods_by (fault f) x h = refl
no_periods_by (of (span f)) x h = refl
no_periods_by (of (repeats r)) x h = refl
no_periods_by (of (busy f)) x h = refl
no_periods_by (of (identity f)) x h = refl
no_periods_by (of (periods b)) x h = absurd (true≢false h)

pub periods_event : (c : Context) (xs : List Numbered) → periods_in c Scope.Event xs ≡ []
unfolding periods_in
periods_event c [] = refl
periods_event c (x ∷ xs) =
    ap (λ (ps : List BusyPeriod). ps ++ periods_in c Scope.Event xs) (no_periods_by (property_value_of c Scope.Event x.line) x.line (event_periods_lem c x.line))
    ∙ periods_event c xs

pub periods_block : (c : Context) (xs : List Numbered) → periods_in c Scope.FreeBusy xs ≡ block_periods c xs
unfolding periods_in block_periods
periods_block c [] = refl
periods_block c (x ∷ xs) = ap (λ (ps : List BusyPeriod). periods_by (property_value_of c Scope.FreeBusy x.line) x.line ++ ps) (periods_block c xs)
