-- Laws of the rows: items side by side with their rows, how a row is written, and what a reader learns of the component of a row.
use Prim.Native.Nat.{ℕ, suc, ◌+◌, ◌*◌, ◌-◌, ◌≤◌, ◌<◌}
use mathlib.Core.Path.{◌≡◌, refl, sym, ap, subst, ◌∙◌}
use mathlib.Core.Bool.{Bool, true, false, cond}
use mathlib.Core.List.{List, [], ◌∷◌, map}
use native.Mathlib.Omega.{arith}
use native.Mathlib.Nat.{add-zero}
use borrow.Author.Tests.{ltb-true, ltb-false, lt-ltb, le-ltb}
use lib.Dec.{ltb}
use lib.ListN.{length, take, drop, get_or, length-take, length-drop, length-map, get_or-map}
use lib.Seq.{drop-cons}
use borrow.Rule.Slice.PartMut.{put_mid}
use Rattle.std.proofs.lemmas.List.{places}
use Rattle.ascii.specs.Names.{same_name}
use Rattle.ascii.specs.Bytes.{upper}
use Rattle.ascii.specs.Words.{ascii}
use Rattle.ascii.proofs.Names.{same_name_iff}
use Rattle.text.specs.Lines.{content_lines}
use Rattle.line.specs.Grammar.{ContentLine}
use Rattle.line.specs.Reading.{line_of, value_of}
use Rattle.delimiters.specs.Innermost.{is_calendar, is_event, is_free_busy}
use Rattle.delimiters.specs.declared.Delimiter.{Delimiter}
use Rattle.delimiters.specs.declared.Delimiter.TheVariants.{Begins, Ends, Property}
use Rattle.nesting.specs.Components.{Numbered, delimited_as, delimited_from, Items, none, property, component, items_of, end_of, tree_of, items_below, Component, components_in}
use Rattle.nesting.specs.WellNested.{AllowedAt, NestedAt, WellNested, calendar}
use Rattle.nesting.specs.Files.{tree_in}
use Rattle.nesting.proofs.WellNested.{file_nested}
use Rattle.index.specs.Index.{line_bytes}
use Rattle.structure.specs.Rows.{kind_of, lines_after, delimited_by, items_by, numbered_line, RowPut, RowAt, LineIs, ItemRows, nothing, with_property_holds, with_component}
use Rattle.structure.specs.Rows.{ItemsAt, ComponentsAt, RowOf, component_by, components_by, BelowAt, FileRows}

-- ---- items side by side

pub rows_lines : {s rows : List ℕ} {i k j m : ℕ} → ItemRows s rows i k j m → i ≤ j
rows_lines nothing = omega arith
rows_lines (with_property_holds q r) = omega (arith, rows_lines r)
rows_lines (with_component q w a e r) = omega (arith, rows_lines a, rows_lines r)

pub rows_rise : {s rows : List ℕ} {i k j m : ℕ} → ItemRows s rows i k j m → k ≤ m
rows_rise nothing = omega arith
rows_rise (with_property_holds q r) = rows_rise r
rows_rise (with_component q w a e r) = omega (arith, rows_rise a, rows_rise r)

-- the next component begins at this line or behind it
pub rows_begin : {s rows : List ℕ} {i k j m : ℕ} → ItemRows s rows i k j m → k < m → i < get_or rows (4 * k) 0
rows_begin nothing h = absurd (omega arith)
rows_begin (with_property_holds q r) h = omega (arith, rows_begin r h)
rows_begin (with_component q w a e r) h = omega (arith, w.begin)

-- items and then items
pub rows_then : {s rows : List ℕ} {i k j m y z : ℕ} → ItemRows s rows i k j m → ItemRows s rows j m y z → ItemRows s rows i k y z
rows_then nothing t = t
rows_then (with_property_holds q r) t = with_property_holds q (rows_then r t)
rows_then (with_component q w a e r) t = with_component q w a e (rows_then r t)

row_kept : {rows new : List ℕ} {k b e n t : ℕ} → RowAt rows k b e n t
    → ((p : ℕ) → p < 4 → get_or new (4 * k + p) 0 ≡ get_or rows (4 * k + p) 0) → RowAt new k b e n t
row_kept {rows} {new} {k} w f =
    record {
      begin = simp add-zero at (f 0 (omega arith)) ∙ w.begin;
      end = f 1 (omega arith) ∙ w.end;
      next = f 2 (omega arith) ∙ w.next;
      kind = f 3 (omega arith) ∙ w.kind;
    }

-- only the rows from k up to m matter
pub rows_kept : {s rows : List ℕ} (new : List ℕ) {i k j m : ℕ} → ItemRows s rows i k j m
    → ((p : ℕ) → 4 * k ≤ p → p < 4 * m → get_or new p 0 ≡ get_or rows p 0) → ItemRows s new i k j m
rows_kept new nothing f = nothing
rows_kept new (with_property_holds q r) f = with_property_holds q (rows_kept new r f)
rows_kept new (with_component q w a e r) f =
    with_component q
    (row_kept w (λ p h. f _ (omega arith) (omega (arith, rows_rise a, rows_rise r))))
    (rows_kept new a (λ p h l. f p (omega arith) (omega (arith, rows_rise r))))
    e
    (rows_kept new r (λ p h l. f p (omega (arith, rows_rise a)) l))

-- ---- one line

drop_line : (ls : List (List ℕ)) (i : ℕ) → i < length ls → drop i (map line_of ls) ≡ line_of (get_or ls i []) ∷ drop (i + 1) (map line_of ls)
drop_line ls i h =
    let l : i < length (map line_of ls) = simp length-map h in
    let n : suc i ≡ i + 1 = omega arith in
    drop-cons (map line_of ls) i (line_of []) l
    ∙ ap (λ (x : ContentLine). x ∷ drop (suc i) (map line_of ls)) (get_or-map line_of ls i [])
    ∙ ap (λ (t : ℕ). line_of (get_or ls i []) ∷ drop t (map line_of ls)) n

pub one_after : (s : List ℕ) (i : ℕ) → i < length (content_lines s) → lines_after s i ≡ line_of (line_bytes s i) ∷ lines_after s (i + 1)
unfolding lines_after line_bytes
one_after s i h = drop_line (content_lines s) i h

-- line i as the tree takes it
pub line_is : {s : List ℕ} {i : ℕ} {m : Delimiter} → LineIs s i m → delimited_by s i ≡ delimited_as m (numbered_line s i) ∷ delimited_by s (i + 1)
unfolding delimited_by delimited_from numbered_line
line_is {s} {i} {m} h =
    let n : suc (i + 1) ≡ i + 1 + 1 = omega arith in
    ap (delimited_from (i + 1)) (one_after s i h.inside)
    ∙ ap (λ (t : Delimiter). delimited_as t (numbered_line s i) ∷ delimited_from (suc (i + 1)) (lines_after s (i + 1))) h.delimiter
    ∙ ap (λ (t : ℕ). delimited_as m (numbered_line s i) ∷ delimited_from t (lines_after s (i + 1))) n

-- what is outside these items goes on behind them
rows_outside : {s rows : List ℕ} {i k j m : ℕ} (d : ℕ) → ItemRows s rows i k j m → items_of (suc d) (delimited_by s i) ≡ items_of (suc d) (delimited_by s j)
unfolding items_of
rows_outside d nothing = refl
rows_outside d (with_property_holds q r) = ap (items_of (suc d)) (line_is q) ∙ rows_outside d r
rows_outside d (with_component q w a e r) =
    ap (items_of (suc d)) (line_is q) ∙ rows_outside (suc d) a ∙ ap (items_of (suc (suc d))) (line_is e) ∙ rows_outside d r

-- ---- the items at a line

pub items_property : {s : List ℕ} {i : ℕ} → LineIs s i Property → items_by s i ≡ property (numbered_line s i) (items_by s (i + 1))
unfolding items_by items_of
items_property q = ap (items_of 0) (line_is q)

pub items_component : {s rows : List ℕ} {i k q n : ℕ} → LineIs s i Begins → ItemRows s rows (i + 1) k q n → LineIs s q Ends
    → items_by s i ≡ component (numbered_line s i) (items_by s (i + 1)) (end_of 0 (delimited_by s (i + 1))) (items_by s (q + 1))
unfolding items_by items_of
items_component {s} {rows} {i} p a c =
    ap (items_of 0) (line_is p)
    ∙ ap (component (numbered_line s i) (items_by s (i + 1)) (end_of 0 (delimited_by s (i + 1)))) (rows_outside 0 a ∙ ap (items_of 1) (line_is c))

pub items_end : {s : List ℕ} {j : ℕ} → LineIs s j Ends → items_by s j ≡ none
unfolding items_by items_of
items_end q = ap (items_of 0) (line_is q)

-- ---- what a component is

kind_by : (v : List ℕ) {a b : Bool} → a ≡ same_name v (ascii "VEVENT") → b ≡ same_name v (ascii "VFREEBUSY") → kind_of v ≡ cond a 1 (cond b 2 0)
unfolding kind_of is_event is_free_busy
kind_by v q r = rw (q, r)

pub kind_event : (v : List ℕ) {a : Bool} → a ≡ same_name v (ascii "VEVENT") → a ≡ true → 1 ≡ kind_of v
kind_event v q t = sym (kind_by v (sym t ∙ q) refl)

pub kind_block : (v : List ℕ) {a b : Bool} → a ≡ same_name v (ascii "VEVENT") → b ≡ same_name v (ascii "VFREEBUSY") → a ≡ false → b ≡ true → 2 ≡ kind_of v
kind_block v q r t u = sym (kind_by v (sym t ∙ q) (sym u ∙ r))

pub kind_other : (v : List ℕ) {a b : Bool} → a ≡ same_name v (ascii "VEVENT") → b ≡ same_name v (ascii "VFREEBUSY") → a ≡ false → b ≡ false → 0 ≡ kind_of v
kind_other v q r t u = sym (kind_by v (sym t ∙ q) (sym u ∙ r))

-- ---- writing a row

-- the row stands in the part that it was copied to
pub row_put : (old : List ℕ) (at n : ℕ) (row part : List ℕ) → n ≡ 4 → at + 4 ≤ length old → length part ≡ length (take n (drop at old)) → part ≡ row
    → RowPut old at row (put_mid at n old part)
row_put old at n row part w h l e =
    let whole : length part ≡ 4 = omega (arith, length-take n (drop at old), length-drop at old) in
    rw (← e)
    (record {
      here = λ p k. grind (arith, places);
      before = λ p k. grind (arith, places);
      behind = λ p k. grind (arith, places);
    })

-- ---- what a reader learns

components_listed : {s rows : List ℕ} {i k j m : ℕ} → ItemRows s rows i k j m → items_by s j ≡ none
    → components_in (items_by s i) ≡ components_by s rows k m
unfolding components_by components_in
components_listed {s} {rows} {i} {k} nothing e = let z : ltb k k ≡ false = le-ltb k k (omega arith) in rw (z, components_by) (ap components_in e)
components_listed (with_property_holds q r) e = ap components_in (items_property q) ∙ components_listed r e
components_listed {s} {rows} {i} {k} {j} {m} (with_component q w a c r) e =
    let z : ltb k m ≡ true = lt-ltb k m (omega (arith, rows_rise a, rows_rise r)) in
    let y : get_or rows (4 * k) 0 - 1 ≡ i = omega (arith, w.begin) in
    rw (z, y, components_by)

-- the components among items are those that the rows tell
pub items_components : {s rows : List ℕ} {i k j m : ℕ} → ItemsAt s rows i k j m → components_in (items_by s i) ≡ components_by s rows k m
items_components h = components_listed h.items h.none_left

-- a component stands at row k, and others from the next row on
pub record NextComponent (s rows : List ℕ) (k m : ℕ) : Type 0 where
  pub row : RowOf s rows k
  pub list : components_by s rows k m ≡ component_by s rows k ∷ components_by s rows (get_or rows (4 * k + 2) 0) m
  pub after : ComponentsAt s rows (get_or rows (4 * k + 2) 0) m
  pub onward : k < get_or rows (4 * k + 2) 0
  pub within : get_or rows (4 * k + 2) 0 ≤ m

module _ {s rows : List ℕ} {i k q n j m : ℕ} (p : LineIs s i Begins) (w : RowAt rows k (i + 1) (q + 1) n (kind_of (value_of (line_bytes s i))))
    (a : ItemRows s rows (i + 1) (k + 1) q n) (c : LineIs s q Ends) (r : ItemRows s rows (q + 1) n j m) (last : items_by s j ≡ none) (few : m ≤ 256)
    (room : 4 * m ≤ length rows) (small : j ≤ 65535) where
  inner_items : ItemsAt s rows (i + 1) (k + 1) q n
  inner_items =
      record {
        items = a;
        none_left = items_end c;
        few = omega (arith, rows_rise r);
        room = omega (arith, rows_rise r);
        inside = omega (arith, rows_lines r);
      }

  after_items : ItemsAt s rows (q + 1) n j m
  after_items = record { items = r; none_left = last; few = few; room = room; inside = small }

  back : get_or rows (4 * k) 0 - 1 ≡ i
  back = omega (arith, w.begin)

  row_of : RowOf s rows k
  row_of =
      record {
        room = omega (arith, rows_rise a, rows_rise r);
        few = omega (arith, rows_rise a, rows_rise r);
        some = omega (arith, w.begin);
        begin_inside = omega (arith, w.begin, p.inside);
        stop = q;
        end = w.end;
        inner = rw (w.begin, w.next) inner_items;
        kind = w.kind ∙ ap (λ (x : ℕ). kind_of (value_of (line_bytes s x))) (sym back);
      }

  row_list : components_by s rows k m ≡ component_by s rows k ∷ components_by s rows (get_or rows (4 * k + 2) 0) m
  unfolding component_by components_in
  row_list =
      sym (items_components (record { items = with_component p w a c r; none_left = last; few = few; room = room; inside = small }))
      ∙ ap components_in (items_component p a c)
      ∙ rw (back, w.begin, w.next)
      (ap (λ (x : List Component). record { begin = numbered_line s i; items = items_by s (i + 1); end = end_of 0 (delimited_by s (i + 1)) } ∷ x) (items_components after_items))

  next_component : NextComponent s rows k m
  next_component =
      record {
        row = row_of;
        list = row_list;
        after = rw w.next (record { line = q + 1; stop = j; items = after_items });
        onward = omega (arith, w.next, rows_rise a);
        within = omega (arith, w.next, rows_rise r);
      }

pub components_next : {s rows : List ℕ} {k m : ℕ} → ComponentsAt s rows k m → k < m → NextComponent s rows k m
components_next {s} {rows} h l = go h.items.items h.items.none_left h.items.few h.items.room h.items.inside l
  where
    go : {i k j m : ℕ} → ItemRows s rows i k j m → items_by s j ≡ none → m ≤ 256 → 4 * m ≤ length rows → j ≤ 65535 → k < m → NextComponent s rows k m
    go nothing e f o d l = absurd (omega arith)
    go (with_property_holds q r) e f o d l = go r e f o d l
    go (with_component q w a c r) e f o d l = next_component q w a c r e f o d

pub components_none : (s rows : List ℕ) {k m : ℕ} → m ≤ k → components_by s rows k m ≡ []
unfolding components_by
components_none s rows {k} {m} h = rw (le-ltb k m h, components_by)

-- the components in the component of row k
pub inner_components : {s rows : List ℕ} {k : ℕ} → RowOf s rows k → ComponentsAt s rows (k + 1) (get_or rows (4 * k + 2) 0)
inner_components r = record { line = _; stop = r.stop; items = r.inner }

pub inner_list : {s rows : List ℕ} {k : ℕ} → RowOf s rows k
    → components_in (component_by s rows k).items ≡ components_by s rows (k + 1) (get_or rows (4 * k + 2) 0)
unfolding component_by
inner_list r = items_components r.inner

-- ---- right below VCALENDAR

nested_rest : {d : ℕ} {x : Numbered} {i : Items} → NestedAt d (property x i) → NestedAt d i
nested_rest (NestedAt.with_property_holds q n) = n

-- what a well nested component says of its name, of the items in it, and of those behind it
record NestedComponent (d : ℕ) (b : Numbered) (k i : Items) : Type 0 where
  allowed : AllowedAt d b
  inner : NestedAt (suc d) k
  behind : NestedAt d i

nested_parts : {d : ℕ} {b e : Numbered} {k i : Items} → NestedAt d (component b k e i) → NestedComponent d b k i
nested_parts (NestedAt.with_component c a n m) = record { allowed = a; inner = n; behind = m }

-- no event and no block stands deeper
deep_kind : (d : ℕ) (b : Numbered) → 2 < d → AllowedAt d b → kind_of b.line.value ≡ 0
unfolding kind_of
deep_kind d b l h = go (is_event b.line.value) (is_free_busy b.line.value) refl refl
  where
    go : (x y : Bool) → is_event b.line.value ≡ x → is_free_busy b.line.value ≡ y → ◌≡◌ {A = ℕ} (cond x 1 (cond y 2 0)) 0
    go true y p q = absurd (omega (arith, h.event_at_2 p))
    go false true p q = absurd (omega (arith, h.free_busy_at_2 q))
    go false false p q = refl

-- a row is the component's own, of one in it, or of one behind it
rows_among : {rows : List ℕ} {k y z next t m : ℕ} → RowAt rows k y z next t → t ≡ 0 → (p : ℕ) → k ≤ p → p < m
    → (k + 1 ≤ p → p < next → get_or rows (4 * p + 3) 0 ≡ 0) → (next ≤ p → get_or rows (4 * p + 3) 0 ≡ 0) → get_or rows (4 * p + 3) 0 ≡ 0
rows_among {rows} {k} {y} {z} {next} w e p a b inner behind = go (ltb k p) (ltb p next) refl refl
  where
    go : (t u : Bool) → ltb k p ≡ t → ltb p next ≡ u → get_or rows (4 * p + 3) 0 ≡ 0
    go false u f g = let z : p ≡ k = omega (arith, ltb-false) in rw z (w.kind ∙ e)
    go true true f g = inner (omega (arith, ltb-true)) (omega (arith, ltb-true))
    go true false f g = behind (omega (arith, ltb-false))

deep_rows : {s rows : List ℕ} {i k j m : ℕ} (d : ℕ) → 2 < d → ItemRows s rows i k j m → NestedAt d (items_by s i) → (p : ℕ) → k ≤ p → p < m
    → get_or rows (4 * p + 3) 0 ≡ 0
unfolding numbered_line line_of
deep_rows d l nothing n p a b = absurd (omega arith)
deep_rows d l (with_property_holds q r) n p a b = deep_rows d l r (nested_rest (subst (NestedAt d) (items_property q) n)) p a b
deep_rows {s} {rows} {i} {k} {j} {m} d l (with_component {q = stop} {n = next} q w x e r) n p a b =
    let parts : NestedComponent d (numbered_line s i) (items_by s (i + 1)) (items_by s (stop + 1)) = nested_parts (subst (NestedAt d) (items_component q x e) n) in
    rows_among w (deep_kind d (numbered_line s i) l parts.allowed) p a b
    (λ f g. deep_rows (suc d) (omega arith) x parts.inner p f g)
    (λ f. deep_rows d l r parts.behind p f b)

-- ---- the components right below VCALENDAR, one after the other

-- what is known besides: no row between this component's and the next one's is that of an event or a block
pub record NextBelow (s rows : List ℕ) (k m : ℕ) : Type 0 where
  pub here : NextComponent s rows k m
  pub after : BelowAt s rows (get_or rows (4 * k + 2) 0) m
  pub quiet : (p : ℕ) → k < p → p < get_or rows (4 * k + 2) 0 → get_or rows (4 * p + 3) 0 ≡ 0
  -- the next one begins behind its END line
  pub later : get_or rows (4 * k + 2) 0 < m → get_or rows (4 * k + 1) 0 < get_or rows (4 * get_or rows (4 * k + 2) 0) 0

pub below_next : {s rows : List ℕ} {k m : ℕ} → BelowAt s rows k m → k < m → NextBelow s rows k m
below_next {s} {rows} h l = go h.components.items.items h.components.items.none_left h.components.items.few h.components.items.room h.components.items.inside h.nested l
  where
    go : {i k j m : ℕ} → ItemRows s rows i k j m → items_by s j ≡ none → m ≤ 256 → 4 * m ≤ length rows → j ≤ 65535 → NestedAt 2 (items_by s i) → k < m
        → NextBelow s rows k m
    go nothing e f o d n l = absurd (omega arith)
    go (with_property_holds q r) e f o d n l = go r e f o d (nested_rest (subst (NestedAt 2) (items_property q) n)) l
    go {i} {k} {j} {m} (with_component {q = stop} {n = next} q w a c r) e f o d n l =
        let parts : NestedComponent 2 (numbered_line s i) (items_by s (i + 1)) (items_by s (stop + 1)) = nested_parts (subst (NestedAt 2) (items_component q a c) n) in
        record {
          here = next_component q w a c r e f o d;
          after = rw w.next (record { components = record { line = stop + 1; stop = j; items = after_items q w a c r e f o d }; nested = parts.behind });
          quiet = λ p g y. deep_rows 3 (omega arith) a parts.inner p (omega arith) (omega (arith, w.next));
          later = λ g.
              let z : get_or rows (4 * get_or rows (4 * k + 2) 0) 0 ≡ get_or rows (4 * next) 0 = ap (λ (x : ℕ). get_or rows (4 * x) 0) w.next in
              omega (arith, rows_begin r (omega (arith, w.next)), w.end, z);
        }

-- ---- the file

calendar_kind : (v : List ℕ) → is_calendar v ≡ true → kind_of v ≡ 0
unfolding kind_of is_calendar is_event is_free_busy same_name upper
calendar_kind v e = let z : map upper v ≡ map upper (ascii "VCALENDAR") = (same_name_iff v (ascii "VCALENDAR")).0 e in rw z refl

-- the tree begins at the first line
pub tree_items : (s : List ℕ) → tree_in s ≡ items_by s 0
unfolding tree_in tree_of items_by delimited_by lines_after
tree_items s = refl

first_begin : Numbered → Items → Numbered
first_begin d none = d
first_begin d (property x i) = d
first_begin d (component b k e i) = b

whole_calendar : {t : Items} {b e : Numbered} {k i : Items} → WellNested t → t ≡ component b k e i → (is_calendar b.line.value ≡ true) × NestedAt 2 k
unfolding first_begin items_below
whole_calendar {b = b} (calendar c y n l) q =
    (subst (λ (x : Items). is_calendar (first_begin b x).line.value ≡ true) q y, subst (λ (x : Items). NestedAt 2 (items_below x)) q n)

-- the component that begins at line i, whose row is row k
record FirstComponent (s : List ℕ) (i : ℕ) : Type 0 where
  behind : ℕ
  items : items_by s i ≡ component (numbered_line s i) (items_by s (i + 1)) (end_of 0 (delimited_by s (i + 1))) (items_by s behind)

first_component : {s rows : List ℕ} {i k j m : ℕ} → ItemRows s rows i k j m → get_or rows (4 * k) 0 ≡ i + 1 → k < m → FirstComponent s i
first_component nothing e f = absurd (omega arith)
first_component (with_property_holds q r) e f = absurd (omega (arith, rows_begin r f))
first_component (with_component {q = stop} q w a c r) e f = record { behind = stop + 1; items = items_component q a c }

module _ {s index rows : List ℕ} (h : FileRows s index rows) where
  first_here : FirstComponent s 0
  first_here = first_component h.top.items h.first h.some

  file_whole : (is_calendar (numbered_line s 0).line.value ≡ true) × NestedAt 2 (items_by s 1)
  file_whole = whole_calendar (file_nested s h.nested).0 (tree_items s ∙ first_here.items)

  pub file_next : NextComponent s rows 0 (get_or rows 2 0)
  file_next = components_next (record { line = 0; stop = h.lines; items = h.top }) h.some

  -- the calendar is no event and no block
  pub file_kind : get_or rows 3 0 ≡ 0
  unfolding numbered_line line_of
  file_kind =
      let z : get_or rows 0 0 - 1 ≡ 0 = omega (arith, h.first) in
      file_next.row.kind ∙ ap (λ (x : ℕ). kind_of (value_of (line_bytes s x))) z ∙ calendar_kind (value_of (line_bytes s 0)) file_whole.0

  -- what stands outside every component
  pub file_top : components_in (tree_in s) ≡ components_by s rows 0 (get_or rows 2 0)
  file_top = ap components_in (tree_items s) ∙ items_components h.top

  pub file_top_at : ComponentsAt s rows 0 (get_or rows 2 0)
  file_top_at = record { line = 0; stop = h.lines; items = h.top }

  -- what stands right below VCALENDAR
  pub file_below : components_in (items_below (tree_in s)) ≡ components_by s rows 1 (get_or rows 2 0)
  unfolding items_below
  file_below =
      ap (λ (x : Items). components_in (items_below x)) (tree_items s ∙ first_here.items)
      ∙ ap (λ (x : ℕ). components_in (items_by s x)) (sym h.first)
      ∙ items_components file_next.row.inner

  pub file_below_at : BelowAt s rows 1 (get_or rows 2 0)
  file_below_at =
      record {
        components = record { line = get_or rows 0 0; stop = file_next.row.stop; items = file_next.row.inner };
        nested = subst (λ (x : ℕ). NestedAt 2 (items_by s x)) (sym h.first) file_whole.1;
      }
