-- Laws of UIDs: a line by what it says, the lines of an event one after the other, and its link.
use Prim.Native.Nat.{ℕ, ◌+◌, ◌*◌, ◌-◌, ◌≤◌, suc}
use mathlib.Core.Path.{◌≡◌, refl, sym, ap, subst, ◌∙◌}
use mathlib.Core.Bool.{Bool, true, false, ◌||◌, and-false}
use mathlib.Core.List.{List, [], ◌∷◌, ◌++◌}
use native.Mathlib.Omega.{arith}
use lib.Dec.{eqb}
use lib.ListN.{length, get_or}
use Rattle.ascii.specs.Names.{same_bytes}
use Rattle.ascii.proofs.Bools.{clash}
use Rattle.text.specs.Lines.{content_lines}
use Rattle.line.specs.Grammar.{ContentLine}
use Rattle.line.specs.Reading.{line_of, value_of}
use Rattle.values.specs.declared.times.Context.{Context}
use Rattle.property.specs.Facts.{Reading, unread, fault, of, span, repeats, busy, identity, periods, uid, recurrence_id, exceptions}
use Rattle.property.specs.Properties.{before_items, items_good, with_items, property_value_of}
use Rattle.property.proofs.Properties.{items_keep}
use Rattle.property.specs.declared.Scope.{Scope}
use Rattle.nesting.specs.Components.{Numbered, Items, properties_in}
use Rattle.index.specs.Index.{line_bytes, Entry, Indexed}
use Rattle.structure.specs.Rows.{items_by, numbered_line, ItemsAt, RowOf, component_by}
use Rattle.structure.specs.Items.{item_by}
use Rattle.structure.specs.declared.items.Item.{Item}
use Rattle.structure.proofs.ItemsLaws.{property_at_holds, inner_at, no_item_at}
use Rattle.overrides.specs.Lists.{some}
use Rattle.overrides.specs.VEvents.{has_uid}
use Rattle.calendar.specs.Identities.{uids_by, uids_in, identity_in, identity_of}
use Rattle.calendar.specs.Meaning.{vevent_of}
use Rattle.identities.specs.LinkRows.{link_at}
use Rattle.values.specs.declared.given.Given.{Given}
use Rattle.identities.specs.declared.rows.Link.{Link}
use Rattle.series.specs.Identities.{UidTies}
use Rattle.series.specs.Uids.{is_uid, line_has, lines_have, UidsKnown}

-- ---- bytes

-- other lengths, other bytes
pub bytes_length : (s t : List ℕ) → (length s ≡ length t → ⊥) → same_bytes s t ≡ false
bytes_length [] [] h = absurd (h refl)
bytes_length [] (b ∷ t) h = refl
bytes_length (a ∷ s) [] h = refl
bytes_length (a ∷ s) (b ∷ t) h = rw (bytes_length s t (λ e. h (ap suc e))) (and-false (eqb a b))

-- ---- a line

pub or_nothing : (b : Bool) → b ≡ (b || false)
or_nothing true = refl
or_nothing false = refl

-- what is no UID, before its items are looked at and after
no_uid_before : (x : ContentLine) (v : Reading) → is_uid v ≡ false → uids_by v x ≡ []
unfolding is_uid uids_by
no_uid_before x unread h = refl
no_uid_before x (fault f) h = refl
no_uid_before x (of (span f)) h = refl
no_uid_before x (of (repeats r)) h = refl
no_uid_before x (of (busy f)) h = refl
no_uid_before x (of (identity uid)) h = clash refl h
no_uid_before x (of (identity (recurrence_id t))) h = refl
no_uid_before x (of (identity (exceptions f))) h = refl
no_uid_before x (of (periods b)) h = refl

no_uid_lem : (c : Context) (x : ContentLine) (v : Reading) → is_uid v ≡ false → uids_by (with_items c x.value v) x ≡ []
unfolding uids_by
no_uid_lem c x v h = items_keep (λ (w : Reading). uids_by w x ≡ []) refl c x.value v (no_uid_before x v h)

one_uid : (c : Context) (x : ContentLine) (v : Reading) → is_uid v ≡ true → uids_by (with_items c x.value v) x ≡ x.value ∷ []
unfolding is_uid with_items items_good uids_by
one_uid c x unread h = clash h refl
one_uid c x (fault f) h = clash h refl
one_uid c x (of (span f)) h = clash h refl
one_uid c x (of (repeats r)) h = clash h refl
one_uid c x (of (busy f)) h = clash h refl
one_uid c x (of (identity uid)) h = refl
one_uid c x (of (identity (recurrence_id t))) h = clash h refl
one_uid c x (of (identity (exceptions f))) h = clash h refl
one_uid c x (of (periods b)) h = clash h refl

-- line i, by what was read of its bytes l
module _ (c : Context) (s u : List ℕ) (i : ℕ) {l : List ℕ} (p : l ≡ line_bytes s i) {v : Reading} (q : v ≡ before_items c Scope.Event (line_of l)) {t : Bool} (e : t ≡ is_uid v) where
  said : property_value_of c Scope.Event (line_of (line_bytes s i)) ≡ with_items c (line_of (line_bytes s i)).value v
  unfolding property_value_of
  said = ap (with_items c (line_of (line_bytes s i)).value) (sym (q ∙ ap (λ (x : List ℕ). before_items c Scope.Event (line_of x)) p))

  pub line_uid : t ≡ true → {r : Bool} {w : List ℕ} → w ≡ value_of l → r ≡ same_bytes u w → r ≡ line_has c u (line_of (line_bytes s i))
  unfolding line_has some line_of
  line_uid h {r} {w} y z =
      z
      ∙ ap (same_bytes u) (y ∙ ap value_of p)
      ∙ or_nothing (same_bytes u (value_of (line_bytes s i)))
      ∙ sym (ap (some (same_bytes u)) (ap (λ (x : Reading). uids_by x (line_of (line_bytes s i))) said ∙ one_uid c (line_of (line_bytes s i)) v (sym e ∙ h)))

  pub line_no_uid : t ≡ false → false ≡ line_has c u (line_of (line_bytes s i))
  unfolding line_has some
  line_no_uid h = sym (ap (some (same_bytes u)) (ap (λ (x : Reading). uids_by x (line_of (line_bytes s i))) said ∙ no_uid_lem c (line_of (line_bytes s i)) v (sym e ∙ h)))

-- ---- the lines of an event

abbrev properties_by : List ℕ → ℕ → List Numbered
properties_by s i = properties_in (items_by s i)

pub some_append : {A : Type 0} (f : A → Bool) (xs ys : List A) → some f (xs ++ ys) ≡ (some f xs || some f ys)
unfolding some
some_append f [] ys = refl
some_append f (x ∷ xs) ys = go (f x) (some_append f xs ys)
  where
    go : (t : Bool) → some f (xs ++ ys) ≡ (some f xs || some f ys) → (t || some f (xs ++ ys)) ≡ ((t || some f xs) || some f ys)
    go true ih = refl
    go false ih = ih

-- the lines from line i on decide
pub record Asking (c : Context) (s rows u : List ℕ) (xs : List Numbered) (i row j m : ℕ) : Type 0 where
  pub items : ItemsAt s rows i row j m
  pub left : lines_have c u (properties_by s i) ≡ lines_have c u xs

pub asking_start : (c : Context) {s rows : List ℕ} (u : List ℕ) {k : ℕ} (first behind last : ℕ) → RowOf s rows k → first ≡ get_or rows (4 * k) 0 → behind ≡ get_or rows (4 * k + 1) 0
    → last ≡ get_or rows (4 * k + 2) 0 → Asking c s rows u (properties_in (component_by s rows k).items) first (k + 1) (behind - 1) last
unfolding component_by
asking_start c {s} {rows} u {k} first behind last r p q w =
    let z : behind - 1 ≡ r.stop = omega (arith, q, r.end) in
    rw (p, z, w) (record { items = r.inner; left = refl })

module _ {c : Context} {s rows u : List ℕ} {xs : List Numbered} {i row j m : ℕ} (g : Asking c s rows u xs i row j m) {r : Item} (q : r ≡ item_by rows i row j m) where
  pub asked_entry : {index : List ℕ} → r ≡ Item.Property → Indexed s index → Entry s index i
  asked_entry e k = k.entries i (property_at_holds g.items q e).inside

  here_or : (e : r ≡ Item.Property) → lines_have c u (properties_by s i) ≡ (line_has c u (line_of (line_bytes s i)) || lines_have c u (properties_by s (i + 1)))
  unfolding lines_have line_has uids_in properties_in numbered_line
  here_or e =
      ap (λ (y : Items). some (same_bytes u) (uids_in c (properties_in y))) (property_at_holds g.items q e).items
      ∙ some_append (same_bytes u) (uids_by (property_value_of c Scope.Event (line_of (line_bytes s i))) (line_of (line_bytes s i))) (uids_in c (properties_by s (i + 1)))

  pub asked_found : r ≡ Item.Property → {t : Bool} → t ≡ line_has c u (line_of (line_bytes s i)) → t ≡ true → true ≡ lines_have c u xs
  asked_found e p h = sym (sym g.left ∙ here_or e ∙ ap (λ (b : Bool). b || lines_have c u (properties_by s (i + 1))) (sym p ∙ h))

  pub asked_more : r ≡ Item.Property → {t : Bool} → t ≡ line_has c u (line_of (line_bytes s i)) → t ≡ false → Asking c s rows u xs (i + 1) row j m
  asked_more e p h =
      record {
        items = (property_at_holds g.items q e).rest;
        left = sym (here_or e ∙ ap (λ (b : Bool). b || lines_have c u (properties_by s (i + 1))) (sym p ∙ h)) ∙ g.left;
      }

  pub asked_inner : {next after : ℕ} → r ≡ Item.Inner next after → Asking c s rows u xs next after j m
  unfolding properties_in
  asked_inner e = record { items = (inner_at g.items q e).rest; left = sym (ap (λ (y : Items). lines_have c u (properties_in y)) (inner_at g.items q e).items) ∙ g.left }

  pub asked_none : r ≡ Item.Done → false ≡ lines_have c u xs
  unfolding properties_in lines_have uids_in some
  asked_none e = sym (ap (λ (y : Items). some (same_bytes u) (uids_in c (properties_in y))) (no_item_at g.items q e)) ∙ g.left

-- ---- by its link

module _ {c : Context} {s index rows links : List ℕ} {k : ℕ} (g : UidsKnown c s index rows links k) {l : Link} (q : l ≡ link_at links k) {y : Given ℕ} (e : l.uid ≡ y) where
  ties : UidTies s y (identity_of c (component_by s rows k)).uids
  ties = subst (λ (x : Given ℕ). UidTies s x (identity_of c (component_by s rows k)).uids) (ap (λ (x : Link). x.uid) (sym q) ∙ e) g.uid_ties

module _ {c : Context} {s index rows links : List ℕ} {k : ℕ} (g : UidsKnown c s index rows links k) {l : Link} (q : l ≡ link_at links k) where
  pub one_there : {n : ℕ} → l.uid ≡ Given.One n → (1 ≤ n) × (n ≤ length (content_lines s))
  one_there e = let z = ties g q e in (z.0, z.1)

module _ {c : Context} {s index rows links : List ℕ} {k : ℕ} (g : UidsKnown c s index rows links k) {l : Link} (q : l ≡ link_at links k) (u : List ℕ) where
  pub none_has : l.uid ≡ Given.None → false ≡ has_uid u (vevent_of c (component_by s rows k))
  unfolding has_uid vevent_of some
  none_has e = sym (ap (some (same_bytes u)) (ties g q e))

  pub one_has : {n : ℕ} {w : List ℕ} {r : Bool} → l.uid ≡ Given.One n → w ≡ value_of (line_bytes s (n - 1)) → r ≡ same_bytes u w → r ≡ has_uid u (vevent_of c (component_by s rows k))
  unfolding has_uid vevent_of some
  one_has {n} e p h = h ∙ ap (same_bytes u) p ∙ or_nothing (same_bytes u (value_of (line_bytes s (n - 1)))) ∙ sym (ap (some (same_bytes u)) (ties g q e).3)

-- whatever its link says, its lines tell
pub lines_tell : (c : Context) (s rows u : List ℕ) (k : ℕ) {r : Bool} → r ≡ lines_have c u (properties_in (component_by s rows k).items) → r ≡ has_uid u (vevent_of c (component_by s rows k))
unfolding lines_have has_uid vevent_of identity_of identity_in
lines_tell c s rows u k h = h
