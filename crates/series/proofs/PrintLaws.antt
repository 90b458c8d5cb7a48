-- Laws of the fingerprints of UIDs: they are filled in row by row, and a row whose fingerprint is new has a UID that no master before it has.
use Prim.Native.Nat.{ℕ, zero, suc, ◌+◌, ◌*◌, ◌-◌, ◌%◌, ◌≤◌, ◌<◌}
use mathlib.Core.Path.{◌≡◌, refl, sym, ap, subst, ◌∙◌}
use mathlib.Core.Bool.{Bool, true, false, ◌||◌}
use mathlib.Core.List.Memᴰ
use mathlib.Core.List.{List, [], ◌∷◌, Memᴰ}
use native.Mathlib.Omega.{arith}
use borrow.Author.Tests.{eqb-true, eqb-false}
use lib.Dec.{eqb}
use lib.ListN.{length, get_or, take, set, length-set}
use lib.Seq.{take_all, get_or-set_same, get_or-set_other}
use Rattle.ascii.proofs.Bools.{clash, not_so, and_right}
use Rattle.fingerprints.specs.Fingerprints.{fingerprint}
use Rattle.fingerprints.specs.Columns.{NewAmong}
use Rattle.text.specs.Lines.{content_lines}
use Rattle.line.specs.Reading.{value_of}
use Rattle.values.specs.declared.times.Context.{Context}
use Rattle.index.specs.Index.{line_bytes}
use Rattle.structure.specs.Rows.{component_by}
use Rattle.overrides.specs.Lists.{some, two_or_more}
use Rattle.overrides.specs.VEvents.{VEvent, is_master}
use Rattle.overrides.proofs.VEvents.{uid_iff}
use Rattle.calendar.specs.Identities.{identity_of}
use Rattle.calendar.specs.Meaning.{vevent_of}
use Rattle.identities.specs.LinkRows.{link_at}
use Rattle.values.specs.declared.given.Given.{Given}
use Rattle.identities.specs.declared.RecurrenceId.{RecurrenceId}
use Rattle.identities.specs.declared.rows.Link.{Link}
use Rattle.series.specs.Identities.{UidTies}
use Rattle.series.specs.VEventRows.{vevents_at, vevents_from, vevents_before, is_master_of, RowTied, Tied, OneEach}
use Rattle.series.specs.Prints.{print_of, PrintIs, Printed, Compared, Unshared, Markable}
use Rattle.series.proofs.UidLaws.{some_append}
use Rattle.series.proofs.MasterLaws.{row_is, row_none}

-- ---- one UID

pub print_long : (u : List ℕ) {r : ℕ} → r ≡ fingerprint (take 1024 u) → r ≡ print_of u
unfolding print_of
print_long u q = q

pub print_short : (u : List ℕ) {r : ℕ} → length u ≤ 1024 → r ≡ fingerprint u → r ≡ print_of u
unfolding print_of
print_short u h q = q ∙ ap fingerprint (sym (take_all 1024 u h))

-- ---- one row

module _ {c : Context} {s index rows links : List ℕ} {k : ℕ} (g : RowTied c s index rows links k) where
  pub print_other : {t : ℕ} → t ≡ get_or rows (4 * k + 3) 0 → (t ≡ 1 → ⊥) → PrintIs c s rows k 0
  print_other q n = record { print = λ e. absurd (n (q ∙ e)) }

  module _ {l : Link} (q : l ≡ link_at links k) {t : ℕ} (p : t ≡ get_or rows (4 * k + 3) 0) (i : t ≡ 1) where
    ties : {y : Given ℕ} → l.uid ≡ y → UidTies s y (identity_of c (component_by s rows k)).uids
    ties h =
        subst (λ (w : Given ℕ). UidTies s w (identity_of c (component_by s rows k)).uids) (ap (λ (x : Link). x.uid) (sym q) ∙ h) (g.uids (sym p ∙ i)).uid_ties

    pub print_none : l.uid ≡ Given.None → PrintIs c s rows k 0
    print_none h = record { print = λ e u w. absurd (omega (arith, ap length (sym (ties h) ∙ w))) }

    pub print_several : l.uid ≡ Given.Several → PrintIs c s rows k 0
    unfolding two_or_more
    print_several h = record { print = λ e u w. clash (ties h) (ap two_or_more w) }

    pub print_there : {n : ℕ} → l.uid ≡ Given.One n → (1 ≤ n) × (n ≤ length (content_lines s))
    print_there h = let z = ties h in (z.0, z.1)

    pub print_one : {n : ℕ} {w : List ℕ} {r : ℕ} → l.uid ≡ Given.One n → w ≡ value_of (line_bytes s (n - 1)) → r ≡ print_of w → PrintIs c s rows k r
    print_one h v z = record { print = λ e u w. z ∙ ap print_of (v ∙ first (sym (ties h).3 ∙ w)) }
      where
        first : {x y : List ℕ} → x ∷ [] ≡ y ∷ [] → x ≡ y
        first {x} e = ap (λ (l : List (List ℕ)). get_or l 0 x) e

-- ---- row by row

-- the rows before row k stand, and each has its fingerprint noted
pub record Printing (c : Context) (s rows : List ℕ) (m : ℕ) (prints marks notes : List ℕ) (k : ℕ) : Type 0 where
  pub within : k ≤ m
  pub note_room : length notes ≡ 1024
  pub so_far : Printed c s rows prints marks k
  pub noted : (j : ℕ) → j < k → get_or notes (get_or prints (64 + j) 0 % 1024) 0 ≡ 0 → ⊥

pub printing_start : (c : Context) (s rows : List ℕ) (m : ℕ) {prints marks notes : List ℕ} → length prints ≡ 320 → length marks ≡ 256 → length notes ≡ 1024
    → Printing c s rows m prints marks notes 0
printing_start c s rows m e f g =
    record {
      within = omega arith;
      note_room = g;
      so_far = record { room = e; mark_room = f; each = λ k l. absurd (omega (arith, l)); new = λ k l. absurd (omega (arith, l)) };
      noted = λ k l. absurd (omega (arith, l));
    }

module _ {c : Context} {s rows : List ℕ} {m : ℕ} {prints marks notes : List ℕ} {k r : ℕ} (g : Printing c s rows m prints marks notes k) (f : m ≤ 256) (l : k < m) (h : PrintIs c s rows k r)
    {p : ℕ} (q : p ≡ r % 1024) (w : p < 1024) where
  abbrev prints' : List ℕ
  prints' = set prints (64 + k) r

  abbrev marks' : List ℕ
  marks' = set marks k (get_or notes p 0)

  abbrev notes' : List ℕ
  notes' = set notes p 1

  print_here : get_or prints' (64 + k) 0 ≡ r
  print_here = get_or-set_same prints (64 + k) r 0 (omega (arith, g.so_far.room))

  print_kept : (j : ℕ) → j < k → get_or prints' (64 + j) 0 ≡ get_or prints (64 + j) 0
  print_kept j i = get_or-set_other prints (64 + k) (64 + j) r 0 (λ z. omega (arith, z, i))

  note_kept : (i : ℕ) → get_or notes' i 0 ≡ 0 → get_or notes i 0 ≡ 0
  note_kept i z = go (eqb i p) refl
    where
      go : (t : Bool) → eqb i p ≡ t → get_or notes i 0 ≡ 0
      go true y =
          let e : i ≡ p = eqb-true i p y in
          absurd (omega (arith, subst (λ (x : ℕ). get_or notes' x 0 ≡ 0) e z, get_or-set_same notes p 1 0 (omega (arith, g.note_room, w))))
      go false y = sym (get_or-set_other notes p i 1 0 (eqb-false i p y)) ∙ z

  -- equal fingerprints are noted at one place
  mark_new : get_or notes p 0 ≡ 0 → (j : ℕ) → j < k → get_or prints (64 + j) 0 ≡ r → ⊥
  mark_new z j i y = g.noted j i (ap (λ (x : ℕ). get_or notes (x % 1024) 0) y ∙ ap (λ (x : ℕ). get_or notes x 0) (sym q) ∙ z)

  pub printing_more : Printing c s rows m prints' marks' notes' (k + 1)
  printing_more =
      record {
        within = omega arith;
        note_room = length-set notes p 1 ∙ g.note_room;
        so_far =
            record {
              room = length-set prints (64 + k) r ∙ g.so_far.room;
              mark_room = length-set marks k (get_or notes p 0) ∙ g.so_far.mark_room;
              each = λ j i. each j (eqb j k) refl i;
              new = λ j i. new j (eqb j k) refl i;
            };
        noted = λ j i. noted j (eqb j k) refl i;
      }
    where
      each : (j : ℕ) (t : Bool) → eqb j k ≡ t → j < k + 1 → PrintIs c s rows j (get_or prints' (64 + j) 0)
      each j true y i = subst (λ (x : ℕ). PrintIs c s rows x (get_or prints' (64 + x) 0)) (sym (eqb-true j k y)) (subst (PrintIs c s rows k) (sym print_here) h)
      each j false y i =
          let n : j ≡ k → ⊥ = eqb-false j k y in
          let d : j < k = omega (arith, n) in
          subst (PrintIs c s rows j) (sym (print_kept j d)) (g.so_far.each j d)

      new : (j : ℕ) (t : Bool) → eqb j k ≡ t → j < k + 1 → get_or marks' j 0 ≡ 0 → (a : ℕ) → a < j → get_or prints' (64 + a) 0 ≡ get_or prints' (64 + j) 0 → ⊥
      new j true y i z a b e =
          let x : j ≡ k = eqb-true j k y in
          let z' : get_or notes p 0 ≡ 0 = sym (get_or-set_same marks k (get_or notes p 0) 0 (omega (arith, g.so_far.mark_room))) ∙ subst (λ (v : ℕ). get_or marks' v 0 ≡ 0) x z in
          let d : a < k = omega (arith, x) in
          mark_new z' a d (sym (print_kept a d) ∙ e ∙ ap (λ (v : ℕ). get_or prints' (64 + v) 0) x ∙ print_here)
      new j false y i z a b e =
          let n : j ≡ k → ⊥ = eqb-false j k y in
          let d : j < k = omega (arith, n) in
          g.so_far.new j d (sym (get_or-set_other marks k j (get_or notes p 0) 0 n) ∙ z) a b (sym (print_kept a (omega arith)) ∙ e ∙ print_kept j d)

      noted : (j : ℕ) (t : Bool) → eqb j k ≡ t → j < k + 1 → get_or notes' (get_or prints' (64 + j) 0 % 1024) 0 ≡ 0 → ⊥
      noted j true y i z =
          let x : j ≡ k = eqb-true j k y in
          let e : get_or notes' p 0 ≡ 0 = ap (λ (v : ℕ). get_or notes' v 0) q ∙ ap (λ (v : ℕ). get_or notes' (v % 1024) 0) (sym print_here) ∙ subst (λ (v : ℕ). get_or notes' (get_or prints' (64 + v) 0 % 1024) 0 ≡ 0) x z in
          omega (arith, e, get_or-set_same notes p 1 0 (omega (arith, g.note_room, w)))
      noted j false y i z =
          let n : j ≡ k → ⊥ = eqb-false j k y in
          let d : j < k = omega (arith, n) in
          g.noted j d (note_kept (get_or prints (64 + j) 0 % 1024) (ap (λ (v : ℕ). get_or notes' (v % 1024) 0) (sym (print_kept j d)) ∙ z))

pub printing_end : {c : Context} {s rows : List ℕ} {m : ℕ} {prints marks notes : List ℕ} {k : ℕ} → Printing c s rows m prints marks notes k → m ≤ k → Printed c s rows prints marks m
printing_end g l = record {
  room = g.so_far.room;
  mark_room = g.so_far.mark_room;
  each = λ j i. g.so_far.each j (omega (arith, l, i));
  new = λ j i. g.so_far.new j (omega (arith, l, i));
}

-- ---- a fingerprint that is new

-- the rows before row k, where none passes
none_passes : (c : Context) (s rows : List ℕ) (f : VEvent → Bool) (n k : ℕ)
    → ((j : ℕ) → k ≤ j → j < k + n → get_or rows (4 * j + 3) 0 ≡ 1 → f (vevent_of c (component_by s rows j)) ≡ false) → some f (vevents_from c s rows k n) ≡ false
unfolding vevents_from some
none_passes c s rows f zero k h = refl
none_passes c s rows f (suc n) k h =
    some_append f (vevents_at c s rows k) (vevents_from c s rows (k + 1) n)
    ∙ ap (λ (t : Bool). t || some f (vevents_from c s rows (k + 1) n)) (go (eqb (get_or rows (4 * k + 3) 0) 1) refl)
    ∙ none_passes c s rows f n (k + 1) (λ j a b. h j (omega arith) (omega arith))
  where
    go : (t : Bool) → eqb (get_or rows (4 * k + 3) 0) 1 ≡ t → some f (vevents_at c s rows k) ≡ false
    go true q =
        let e : get_or rows (4 * k + 3) 0 ≡ 1 = eqb-true _ 1 q in
        ap (some f) (row_is c s rows k e) ∙ ap (λ (t : Bool). t || false) (h k (omega arith) (omega arith) e)
    go false q = ap (some f) (row_none c s rows k (eqb-false _ 1 q))

module _ {c : Context} {s index rows links prints marks : List ℕ} {k : ℕ} {u : List ℕ} (g : Tied c s index rows links k) (o : OneEach rows links k) (h : Compared c s rows prints marks k u) where
  -- a row before that has the UID has the fingerprint
  print_before : (j : ℕ) → j < k → get_or rows (4 * j + 3) 0 ≡ 1 → Memᴰ u (identity_of c (component_by s rows j)).uids → get_or prints (64 + j) 0 ≡ get_or prints (64 + k) 0
  print_before j l e i = go (link_at links j).uid refl
    where
      us : List (List ℕ)
      us = (identity_of c (component_by s rows j)).uids

      here : get_or prints (64 + k) 0 ≡ print_of u
      here = (h.printed.each k (omega arith)).print h.is_event_holds u h.uid

      known : (y : Given ℕ) → (link_at links j).uid ≡ y → UidTies s y us
      known y q = subst (λ (w : Given ℕ). UidTies s w us) q ((g.each j l).uids e).uid_ties

      only : {w : List ℕ} → Memᴰ u (w ∷ []) → u ≡ w
      only (Memᴰ.head p) = p
      only (Memᴰ.tail m) = absurd (Memᴰ.not-nil m)

      go : (y : Given ℕ) → (link_at links j).uid ≡ y → get_or prints (64 + j) 0 ≡ get_or prints (64 + k) 0
      go Given.None q = absurd (Memᴰ.not-nil (subst (Memᴰ u) (known Given.None q) i))
      go (Given.One n) q =
          let z : us ≡ value_of (line_bytes s (n - 1)) ∷ [] = (known (Given.One n) q).3 in
          (h.printed.each j (omega arith)).print e (value_of (line_bytes s (n - 1))) z ∙ ap print_of (sym (only (subst (Memᴰ u) z i))) ∙ sym here
      go Given.Several q = absurd ((o j l).one_uid e q)

  pub print_new : ((j : ℕ) → j < k → get_or prints (64 + j) 0 ≡ get_or prints (64 + k) 0 → ⊥) → false ≡ some (is_master_of u) (vevents_before c s rows k)
  unfolding vevents_before is_master_of vevent_of
  print_new w =
      sym
      (none_passes c s rows (is_master_of u) k 0
      (λ j a b d. not_so _ (λ t. w j (omega arith) (print_before j (omega arith) d ((uid_iff u (vevent_of c (component_by s rows j))).0 (and_right (is_master (vevent_of c (component_by s rows j))) _ t))))))

-- the rows up to one of them
pub compared : {c : Context} {s rows prints marks : List ℕ} {m k : ℕ} {u : List ℕ} → Printed c s rows prints marks m → m ≤ 256 → k < m → get_or rows (4 * k + 3) 0 ≡ 1
    → (identity_of c (component_by s rows k)).uids ≡ u ∷ [] → Compared c s rows prints marks k u
compared g f l e p =
    record {
      few = omega arith;
      printed = record { room = g.room; mark_room = g.mark_room; each = λ j i. g.each j (omega (arith, l)); new = λ j i. g.new j (omega (arith, l)) };
      is_event_holds = e;
      uid = p;
    }

pub markable : {c : Context} {s rows prints marks : List ℕ} {m k : ℕ} → Printed c s rows prints marks m → m ≤ 256 → k < m → Markable prints marks k
markable g f l = record { few = omega arith; room = g.room; mark_room = g.mark_room; new = g.new _ l }

-- what a search of the column tells of a row
pub unshared_new : {prints : List ℕ} {k x : ℕ} {y : Given RecurrenceId} {r : Bool} → y ≡ Given.None → x ≡ get_or prints (64 + k) 0 → NewAmong prints k x r → Unshared prints k y r
unshared_new e q w = record { is_master_holds = λ _. e; is_new = λ t j l z. w.yes t j l (z ∙ sym q) }

pub unshared_no : (prints : List ℕ) (k : ℕ) (y : Given RecurrenceId) → Unshared prints k y false
unshared_no prints k y = record { is_master_holds = λ t. clash t refl; is_new = λ t. clash t refl }

pub unshared_marked : {prints marks : List ℕ} {k : ℕ} {y : Given RecurrenceId} → Markable prints marks k → y ≡ Given.None → get_or marks k 0 ≡ 0 → Unshared prints k y true
unshared_marked g e z = record { is_master_holds = λ _. e; is_new = λ _. g.new z }
