-- Laws of the column of starts that are taken away: it is filled row by row and has room for all;
-- where nothing is taken away from any event, places that are all 0 serve.
use Prim.Native.Nat.{ℕ, zero, suc, ◌+◌, ◌*◌, ◌-◌, ◌≤◌, ◌<◌}
use mathlib.Core.Path.{◌≡◌, refl, sym, ap, subst, ◌∙◌}
use mathlib.Core.Bool.{Bool, true, false, cond, ◌&&◌}
use mathlib.Core.List.{List, [], ◌∷◌, ◌++◌, append-nil, append_assoc}
use native.Mathlib.Omega.{arith}
use borrow.Author.Tests.{eqb-true, eqb-false}
use lib.Dec.{eqb}
use lib.ListN.{length, take, drop, get_or, set, length-set, length-take, length-drop, length-append, drop_of_length-le, replicate, get_or-replicate, length-replicate}
use lib.Seq.{get_or-set_same, get_or-set_other, length-take-le}
use Rattle.ascii.proofs.Bools.{clash}
use Rattle.text.specs.Lines.{part}
use Rattle.seconds.specs.Seconds.{among, Ordered}
use Rattle.seconds.proofs.Seconds.{ordered_empty}
use Rattle.values.specs.TimeLists.{seconds_of}
use Rattle.values.specs.declared.times.Context.{Context}
use Rattle.structure.specs.Rows.{component_by}
use Rattle.overrides.specs.VEvents.{VEvent, is_master, is_override, shares_uid}
use Rattle.overrides.specs.Instances.{moved_from, removed_from as starts_removed}
use Rattle.calendar.specs.Meaning.{vevent_of, removed_from, components_of}
use Rattle.identities.specs.LinkRows.{link_at}
use Rattle.values.specs.declared.given.Given.{Given}
use Rattle.identities.specs.declared.rows.Link.{Link}
use Rattle.series.specs.VEventRows.{vevents_at, vevents_from, vevents_before}
use Rattle.series.specs.Beside.{excluded_at}
use Rattle.series.specs.Removed.{Takeable, SecondsOrdered, removed_at}
use Rattle.series.specs.Columns.{gone_at, PartAt, RemovedRows, moved_count, Removable, RowFillable, RowFilled, NothingAt, NothingIf, NothingBefore}
use Rattle.series.proofs.MasterLaws.{row_is, row_none, seconds_none}
use Rattle.series.proofs.PartLaws.{part_before, part_written, part_none}
use Rattle.series.proofs.CountingLaws.{moved_next}
use Rattle.series.proofs.PassLaws.{before_more}

-- what stands between two places is the part of a row
pub gone_read : (places removed : List ℕ) (k : ℕ) {x y : ℕ} → x ≡ get_or places k 0 → y ≡ get_or places (k + 1) 0 → part removed x y ≡ gone_at places removed k
unfolding gone_at
gone_read places removed k p q = rw (p, q) refl

-- ---- one row

module _ {c : Context} {s index rows links exceptions : List ℕ} {k m room : ℕ} (g : RowFillable c s index rows links exceptions k m room) {t : ℕ} (q : t ≡ get_or rows (4 * k + 3) 0) where
  pub row_other : (o : List ℕ) → (t ≡ 1 → ⊥) → RowFilled c s rows k m o 0
  row_other o h = record { event = λ e. absurd (h (q ∙ e)); none = λ _. refl }

  pub row_event : {o : List ℕ} {r : ℕ} → t ≡ 1 → SecondsOrdered (removed_at c s rows k m) o r → RowFilled c s rows k m o r
  row_event h w = record { event = λ _. w; none = λ n. absurd (n (sym q ∙ h)) }

-- how many starts are taken away from an event
removed_long : {c : Context} {s index rows links exceptions : List ℕ} {k m : ℕ} → Takeable c s index rows links exceptions k m
    → length (removed_at c s rows k m)
    ≤ (link_at links k).to - (link_at links k).from + cond (is_master (vevent_of c (component_by s rows k))) (length (moved_from (vevent_of c (component_by s rows k)) (vevents_before c s rows m))) 0
unfolding removed_at starts_removed excluded_at vevent_of
removed_long {c} {s} {index} {rows} {links} {exceptions} {k} {m} g = go (is_master v)
  where
    v : VEvent
    v = vevent_of c (component_by s rows k)

    own : length (seconds_of v.exceptions) ≡ (link_at links k).to - (link_at links k).from
    own = ap length (sym g.excluded) ∙ simp (length-take, length-drop) (omega (arith, g.order, g.inside))

    go : (t : Bool) → length (cond t (seconds_of v.exceptions ++ moved_from v (vevents_before c s rows m)) []) ≤ (link_at links k).to - (link_at links k).from + cond t (length (moved_from v (vevents_before c s rows m))) 0
    go true = omega (arith, length-append (seconds_of v.exceptions) (moved_from v (vevents_before c s rows m)), own)
    go false = omega arith

-- what stands from a place on to the end
pub behind_long : (l : List ℕ) (at : ℕ) {long : ℕ} → length l ≡ long → length (take (length l - at) (drop at l)) ≡ long - at
behind_long l at q = simp (length-take, length-drop) (omega (arith, q))

pub none_behind : (l : List ℕ) (at : ℕ) → drop (length l - at) (drop at l) ≡ []
none_behind l at = drop_of_length-le (drop at l) {i = length l - at} (omega (arith, length-drop at l))

-- ---- row by row

-- the rows before row k take up `at` places: of the excluded seconds only those before `excluded` were used, and of what overrides name only that of those rows
pub record UsedBy (c : Context) (s rows links exceptions : List ℕ) (m k at : ℕ) : Type 0 where
  pub excluded : ℕ
  pub unused : (p : ℕ) → k ≤ p → p < m → get_or rows (4 * p + 3) 0 ≡ 1 → excluded ≤ (link_at links p).from
  pub inside : excluded ≤ length exceptions
  pub used : at ≤ excluded + moved_count (vevents_before c s rows m) (vevents_before c s rows k)

-- the rows before row k are filled in, up to place `at`
pub record Filling (c : Context) (s index rows links exceptions : List ℕ) (m long : ℕ) (places removed : List ℕ) (at k : ℕ) : Type 0 where
  pub within : k ≤ m
  pub places_long : length places ≡ 257
  pub removed_long : length removed ≡ long
  pub at_is : get_or places k 0 ≡ at
  pub uses : UsedBy c s rows links exceptions m k at
  pub parts : (j : ℕ) → j < k → PartAt places removed j
  pub before : (j : ℕ) → j < k → get_or places (j + 1) 0 ≤ at
  pub same : (j : ℕ) → j < k → get_or rows (4 * j + 3) 0 ≡ 1 → (x : ℕ) → among x (gone_at places removed j) ≡ among x (removed_from c (components_of s) (component_by s rows j))
  pub none : (j : ℕ) → j < k → (get_or rows (4 * j + 3) 0 ≡ 1 → ⊥) → gone_at places removed j ≡ []

module _ {c : Context} {s index rows links exceptions : List ℕ} {m : ℕ} (h : Removable c s index rows links exceptions m) {long : ℕ} (room : length exceptions + 512 ≤ long) where
  pub filling_start : (places removed : List ℕ) → length places ≡ 257 → length removed ≡ long → Filling c s index rows links exceptions m long (set places 0 0) removed 0 0
  unfolding moved_count vevents_before vevents_from
  filling_start places removed l r =
      record {
        within = omega arith;
        places_long = length-set places 0 0 ∙ l;
        removed_long = r;
        at_is = get_or-set_same places 0 0 0 (omega (arith, l));
        uses = record { excluded = 0; unused = λ p a b e. omega arith; inside = omega arith; used = omega arith };
        parts = λ j i. absurd (omega (arith, i));
        before = λ j i. absurd (omega (arith, i));
        same = λ j i. absurd (omega (arith, i));
        none = λ j i. absurd (omega (arith, i));
      }

  module _ {places removed : List ℕ} {at k : ℕ} (g : Filling c s index rows links exceptions m long places removed at k) where
    -- there is room for any row
    pub filling_room : at ≤ length exceptions + 256
    filling_room = omega (arith, g.uses.used, g.uses.inside, h.moved_few k g.within)

    pub filling_fits : at ≤ length removed
    filling_fits = omega (arith, filling_room, room, g.removed_long)

    pub filling_row : k < m → {n : ℕ} → n ≡ long - at → RowFillable c s index rows links exceptions k m n
    filling_row l q =
        record {
          row_room = omega (arith, h.row_room);
          takeable = h.takeable k l;
          fits = λ e.
              let w = h.takeable k l e in
              omega (arith, q, g.uses.used, g.uses.unused k (omega arith) l e, h.moved_few k g.within, w.order, w.inside, room, h.few);
        }

    -- what was lent to a row fills the rest of the column
    pub filling_size : (o : List ℕ) → length o ≡ length (take (length removed - at) (drop at removed)) → at + length o ≡ long
    filling_size o q = omega (arith, q, behind_long removed at g.removed_long, filling_fits, g.removed_long)

    module _ (l : k < m) {o : List ℕ} {n : ℕ} (w : RowFilled c s rows k m o n) (size : at + length o ≡ long) where
      abbrev new : List ℕ
      new = set places (k + 1) (at + n)

      abbrev column : List ℕ
      column = take at removed ++ o

      new_here : get_or new (k + 1) 0 ≡ at + n
      new_here = get_or-set_same places (k + 1) (at + n) 0 (omega (arith, g.places_long, h.few))

      new_before : (j : ℕ) → j ≤ k → get_or new j 0 ≡ get_or places j 0
      new_before j i = get_or-set_other places (k + 1) j (at + n) 0 (λ z. omega (arith, z))

      column_long : length column ≡ long
      column_long = length-append (take at removed) o ∙ ap (λ (i : ℕ). i + length o) (length-take-le at removed filling_fits) ∙ size

      -- the parts of before
      gone_before : (j : ℕ) → j < k → gone_at new column j ≡ gone_at places removed j
      unfolding gone_at
      gone_before j i =
          rw (new_before j (omega arith), new_before (j + 1) (omega arith))
          (part_before removed o at (get_or places j 0) (get_or places (j + 1) 0) (g.parts j i).order (g.before j i) filling_fits)

      -- this row's
      gone_here : gone_at new column k ≡ take n o
      unfolding gone_at
      gone_here = rw (new_before k (omega arith), g.at_is) (part_written removed o at n new_here filling_fits)

      count_here : get_or rows (4 * k + 3) 0 ≡ 1 → n ≤ length o
      count_here e = (w.event e).within

      count : n ≤ length o
      count = go (eqb (get_or rows (4 * k + 3) 0) 1) refl
        where
          go : (t : Bool) → eqb (get_or rows (4 * k + 3) 0) 1 ≡ t → n ≤ length o
          go true q = count_here (eqb-true _ 1 q)
          go false q = omega (arith, w.none (eqb-false _ 1 q))

      pub filling_small : at + n ≤ long
      filling_small = omega (arith, count, size)

      ordered_here : Ordered (take n o)
      ordered_here = go (eqb (get_or rows (4 * k + 3) 0) 1) refl
        where
          go : (t : Bool) → eqb (get_or rows (4 * k + 3) 0) 1 ≡ t → Ordered (take n o)
          go true q = (w.event (eqb-true _ 1 q)).ordered
          go false q = subst (λ (i : ℕ). Ordered (take i o)) (sym (w.none (eqb-false _ 1 q))) ordered_empty

      used_here : UsedBy c s rows links exceptions m (k + 1) (at + n)
      used_here = go (eqb (get_or rows (4 * k + 3) 0) 1) refl
        where
          all : List VEvent
          all = vevents_before c s rows m

          more : vevents_before c s rows (k + 1) ≡ vevents_before c s rows k ++ vevents_at c s rows k
          more = before_more c s rows k

          go : (t : Bool) → eqb (get_or rows (4 * k + 3) 0) 1 ≡ t → UsedBy c s rows links exceptions m (k + 1) (at + n)
          go false q =
              let z : moved_count all (vevents_before c s rows (k + 1)) ≡ moved_count all (vevents_before c s rows k) =
              ap (moved_count all) (more ∙ ap (λ (vs : List VEvent). vevents_before c s rows k ++ vs) (row_none c s rows k (eqb-false _ 1 q)) ∙ append-nil (vevents_before c s rows k)) in
              record {
                excluded = g.uses.excluded;
                unused = λ p a b e. g.uses.unused p (omega arith) b e;
                inside = g.uses.inside;
                used = omega (arith, z, g.uses.used, w.none (eqb-false _ 1 q));
              }
          go true q =
              let e : get_or rows (4 * k + 3) 0 ≡ 1 = eqb-true _ 1 q in
              let v = vevent_of c (component_by s rows k) in
              let y = h.takeable k l e in
              let z : moved_count all (vevents_before c s rows (k + 1)) ≡ moved_count all (vevents_before c s rows k) + cond (is_master v) (length (moved_from v all)) 0 =
              ap (moved_count all) (more ∙ ap (λ (vs : List VEvent). vevents_before c s rows k ++ vs) (row_is c s rows k e)) ∙ moved_next all (vevents_before c s rows k) v in
              record {
                excluded = (link_at links k).to;
                unused = λ p a b d. h.rising k p (omega arith) b e d;
                inside = y.inside;
                used = omega (arith, z, g.uses.used, g.uses.unused k (omega arith) l e, y.order, (w.event e).counted, removed_long y);
              }

      pub filling_more : Filling c s index rows links exceptions m long new column (at + n) (k + 1)
      filling_more =
          record {
            within = omega arith;
            places_long = length-set places (k + 1) (at + n) ∙ g.places_long;
            removed_long = column_long;
            at_is = new_here;
            uses = used_here;
            parts = λ j i. part j (eqb j k) refl i;
            before = λ j i. low j (eqb j k) refl i;
            same = λ j i e. alike j (eqb j k) refl i e;
            none = λ j i e. nothing j (eqb j k) refl i e;
          }
        where
          part_here : PartAt new column k
          part_here =
              record {
                room = omega (arith, length-set places (k + 1) (at + n), g.places_long, h.few);
                order = omega (arith, new_here, new_before k (omega arith), g.at_is);
                inside = omega (arith, new_here, column_long, filling_small);
                ordered = subst Ordered (sym gone_here) ordered_here;
              }

          part : (j : ℕ) (t : Bool) → eqb j k ≡ t → j < k + 1 → PartAt new column j
          part j true q i = subst (PartAt new column) (sym (eqb-true j k q)) part_here
          part j false q i =
              let n' : j ≡ k → ⊥ = eqb-false j k q in
              let d : j < k = omega (arith, n') in
              let y = g.parts j d in
              record {
                room = omega (arith, length-set places (k + 1) (at + n), y.room);
                order = omega (arith, new_before j (omega arith), new_before (j + 1) (omega arith), y.order);
                inside = omega (arith, new_before (j + 1) (omega arith), g.before j d, column_long, filling_small);
                ordered = subst Ordered (sym (gone_before j d)) y.ordered;
              }

          low : (j : ℕ) (t : Bool) → eqb j k ≡ t → j < k + 1 → get_or new (j + 1) 0 ≤ at + n
          low j true q i = subst (λ (x : ℕ). get_or new (x + 1) 0 ≤ at + n) (sym (eqb-true j k q)) (omega (arith, new_here))
          low j false q i =
              let n' : j ≡ k → ⊥ = eqb-false j k q in
              let d : j < k = omega (arith, n') in
              omega (arith, new_before (j + 1) (omega arith), g.before j d)

          alike : (j : ℕ) (t : Bool) → eqb j k ≡ t → j < k + 1 → get_or rows (4 * j + 3) 0 ≡ 1 → (x : ℕ)
              → among x (gone_at new column j) ≡ among x (removed_from c (components_of s) (component_by s rows j))
          alike j true q i e x =
              let z : j ≡ k = eqb-true j k q in
              let e' : get_or rows (4 * k + 3) 0 ≡ 1 = subst (λ (y : ℕ). get_or rows (4 * y + 3) 0 ≡ 1) z e in
              subst (λ (y : ℕ). among x (gone_at new column y) ≡ among x (removed_from c (components_of s) (component_by s rows y))) (sym z)
              (ap (among x) gone_here ∙ (w.event e').same x ∙ ap (among x) (h.as_file k l e'))
          alike j false q i e x =
              let n' : j ≡ k → ⊥ = eqb-false j k q in
              let d : j < k = omega (arith, n') in
              ap (among x) (gone_before j d) ∙ g.same j d e x

          nothing : (j : ℕ) (t : Bool) → eqb j k ≡ t → j < k + 1 → (get_or rows (4 * j + 3) 0 ≡ 1 → ⊥) → gone_at new column j ≡ []
          nothing j true q i e =
              let z : j ≡ k = eqb-true j k q in
              let e' : get_or rows (4 * k + 3) 0 ≡ 1 → ⊥ = subst (λ (y : ℕ). get_or rows (4 * y + 3) 0 ≡ 1 → ⊥) z e in
              subst (λ (y : ℕ). gone_at new column y ≡ []) (sym z) (gone_here ∙ ap (λ (y : ℕ). take y o) (w.none e'))
          nothing j false q i e =
              let n' : j ≡ k → ⊥ = eqb-false j k q in
              let d : j < k = omega (arith, n') in
              gone_before j d ∙ g.none j d e

      -- the same where nothing follows what was written
      pub filling_on : {rest : List ℕ} → rest ≡ [] → Filling c s index rows links exceptions m long new (take at removed ++ (o ++ rest)) (at + n) (k + 1)
      filling_on q =
          subst (λ (y : List ℕ). Filling c s index rows links exceptions m long new (take at removed ++ y) (at + n) (k + 1)) (sym (append-nil o) ∙ ap (λ (y : List ℕ). o ++ y) (sym q)) filling_more

    pub filling_end : m ≤ k → RemovedRows c s rows places removed m
    filling_end l =
        record { parts = λ j i. g.parts j (omega (arith, i)); same = λ j i. g.same j (omega (arith, i)); none = λ j i. g.none j (omega (arith, i)) }

-- ---- nothing is taken away

module _ (rows links : List ℕ) (k : ℕ) where
  pub nothing_other : {t : ℕ} → t ≡ get_or rows (4 * k + 3) 0 → (t ≡ 1 → ⊥) → NothingIf rows links k true
  nothing_other q n _ = record { no_recurrence = λ e. absurd (n (q ∙ e)); no_exception = λ e. absurd (n (q ∙ e)) }

  pub nothing_own : {l : Link} → l ≡ link_at links k → l.recurrence ≡ Given.None → NothingIf rows links k (eqb l.from l.to)
  nothing_own q e h =
      record {
        no_recurrence = λ _. sym (ap (λ (x : Link). x.recurrence) q) ∙ e;
        no_exception = λ _. sym (ap (λ (x : Link). x.from) q) ∙ eqb-true _ _ h ∙ ap (λ (x : Link). x.to) q;
      }

  pub nothing_not : NothingIf rows links k false
  nothing_not h = clash h refl

pub record NothingSoFar (rows links : List ℕ) (m k : ℕ) : Type 0 where
  pub within : k ≤ m
  pub so_far : (j : ℕ) → j < k → NothingAt rows links j

pub nothing_start : (rows links : List ℕ) (m : ℕ) → NothingSoFar rows links m 0
nothing_start rows links m = record { within = omega arith; so_far = λ j l. absurd (omega (arith, l)) }

pub nothing_more : {rows links : List ℕ} {m k : ℕ} → NothingSoFar rows links m k → k < m → NothingAt rows links k → NothingSoFar rows links m (k + 1)
nothing_more {rows} {links} {m} {k} g l h = record { within = omega arith; so_far = λ j i. go j (eqb j k) refl i }
  where
    go : (j : ℕ) (t : Bool) → eqb j k ≡ t → j < k + 1 → NothingAt rows links j
    go j true q i = subst (NothingAt rows links) (sym (eqb-true j k q)) h
    go j false q i = let n : j ≡ k → ⊥ = eqb-false j k q in g.so_far j (omega (arith, n))

pub nothing_end : {rows links : List ℕ} {m k : ℕ} → NothingSoFar rows links m k → m ≤ k → NothingBefore rows links m true
nothing_end g l _ j i = g.so_far j (omega (arith, l, i))

pub nothing_stop : (rows links : List ℕ) (m : ℕ) → NothingBefore rows links m false
nothing_stop rows links m h = clash h refl

moved_append : (v : VEvent) (vs ws : List VEvent) → moved_from v (vs ++ ws) ≡ moved_from v vs ++ moved_from v ws
unfolding moved_from
moved_append v [] ws = refl
moved_append v (w ∷ vs) ws =
    let here = cond (is_override w && shares_uid v w) (seconds_of w.recurrence_ids) [] in
    ap (λ (l : List ℕ). here ++ l) (moved_append v vs ws) ∙ sym (append_assoc here (moved_from v vs) (moved_from v ws))

-- one that names no second takes nothing away
moved_master : (v w : VEvent) → seconds_of w.recurrence_ids ≡ [] → moved_from v (w ∷ []) ≡ []
unfolding moved_from
moved_master v w e = append-nil (cond (is_override w && shares_uid v w) (seconds_of w.recurrence_ids) []) ∙ ap (λ (l : List ℕ). cond (is_override w && shares_uid v w) l []) e ∙ go (is_override w && shares_uid v w)
  where
    go : (t : Bool) → ◌≡◌ {A = List ℕ} (cond t [] []) []
    go true = refl
    go false = refl

-- then every place may be 0
abbrev zeros : List ℕ
zeros = replicate 257 0

zero_at : (k : ℕ) → k < 257 → get_or zeros k 0 ≡ 0
zero_at k h = get_or-replicate 257 k 0 0 h

module _ {c : Context} {s index rows links exceptions : List ℕ} {m : ℕ} (h : Removable c s index rows links exceptions m) (n : (k : ℕ) → k < m → NothingAt rows links k) where
  -- no VEVENT of the rows names anything
  unnamed : (v : VEvent) (j k : ℕ) → k + j ≤ m → moved_from v (vevents_from c s rows k j) ≡ []
  unfolding vevents_from moved_from
  unnamed v zero k l = refl
  unnamed v (suc j) k l = moved_append v (vevents_at c s rows k) (vevents_from c s rows (k + 1) j) ∙ ap (λ (l : List ℕ). l ++ moved_from v (vevents_from c s rows (k + 1) j)) here ∙ unnamed v j (k + 1) (omega arith)
    where
      here : moved_from v (vevents_at c s rows k) ≡ []
      here = go (eqb (get_or rows (4 * k + 3) 0) 1) refl
        where
          go : (t : Bool) → eqb (get_or rows (4 * k + 3) 0) 1 ≡ t → moved_from v (vevents_at c s rows k) ≡ []
          go true q =
              let e : get_or rows (4 * k + 3) 0 ≡ 1 = eqb-true _ 1 q in
              let w = h.takeable k (omega arith) e in
              ap (moved_from v) (row_is c s rows k e) ∙ moved_master v (vevent_of c (component_by s rows k)) (seconds_none (w.tied.each k (omega arith)) refl e ((n k (omega arith)).no_recurrence e))
          go false q = ap (moved_from v) (row_none c s rows k (eqb-false _ 1 q))

  untouched : (k : ℕ) → k < m → get_or rows (4 * k + 3) 0 ≡ 1 → removed_from c (components_of s) (component_by s rows k) ≡ []
  unfolding removed_at starts_removed excluded_at vevents_before vevent_of
  untouched k l e =
      let w = h.takeable k l e in
      let v = vevent_of c (component_by s rows k) in
      let own : seconds_of v.exceptions ≡ [] = sym w.excluded ∙ part_none exceptions (link_at links k).from (sym ((n k l).no_exception e)) in
      sym (h.as_file k l e)
      ∙ ap (λ (xs : List ℕ). cond (is_master v) (xs ++ moved_from v (vevents_from c s rows 0 m)) []) own
      ∙ ap (λ (xs : List ℕ). cond (is_master v) xs []) (unnamed v m 0 (omega arith))
      ∙ either (is_master v)
    where
      either : (t : Bool) → ◌≡◌ {A = List ℕ} (cond t [] []) []
      either true = refl
      either false = refl

  zero_part : (removed : List ℕ) (k : ℕ) → k < m → gone_at zeros removed k ≡ []
  unfolding gone_at
  zero_part removed k l = rw (zero_at k (omega (arith, h.few)), zero_at (k + 1) (omega (arith, h.few))) refl

  pub nothing_removed : (removed : List ℕ) → RemovedRows c s rows zeros removed m
  nothing_removed removed =
      record {
        parts = λ k l.
            record {
              room = omega (arith, length-replicate {A = ℕ} 257 0, h.few);
              order = omega (arith, zero_at k (omega (arith, h.few)), zero_at (k + 1) (omega (arith, h.few)));
              inside = omega (arith, zero_at (k + 1) (omega (arith, h.few)));
              ordered = subst Ordered (sym (zero_part removed k l)) ordered_empty;
            };
        same = λ k l e x. ap (among x) (zero_part removed k l ∙ sym (untouched k l e));
        none = λ k l e. zero_part removed k l;
      }

-- ---- of a whole file

pub removable_at : {c : Context} {s index rows links exceptions : List ℕ} {m : ℕ} → m ≡ get_or rows 2 0 → Removable c s index rows links exceptions (get_or rows 2 0)
    → Removable c s index rows links exceptions m
removable_at e h = rw e h

pub removed_at_lem : {c : Context} {s rows places removed : List ℕ} {m : ℕ} → m ≡ get_or rows 2 0 → RemovedRows c s rows places removed m → RemovedRows c s rows places removed (get_or rows 2 0)
removed_at_lem {c} {s} {rows} {places} {removed} e h = subst (RemovedRows c s rows places removed) e h
