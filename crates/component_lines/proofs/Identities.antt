-- Laws of what ties a component to others, from line to line: what a line adds to it and to the column of excluded seconds, and the room that is left there.
use Rattle.std.specs.Prelude.{Option, Some}
use Prim.Native.Nat.{ℕ, ◌+◌, ◌*◌, ◌-◌, ◌≤◌, ◌<◌}
use mathlib.Core.Path.{◌≡◌, refl, sym, ap, subst, ◌∙◌}
use mathlib.Core.Bool.{true, false}
use mathlib.Core.List.{List, [], ◌∷◌, ◌++◌, append_assoc, append-nil}
use native.Mathlib.Omega.{arith}
use lib.ListN.{length, get_or, length-drop, length-append}
use lib.Seq.{sets}
use Rattle.time.proofs.Stores.{sets_append}
use Rattle.text.specs.Lines.{content_lines}
use Rattle.line.specs.Grammar.{ContentLine}
use Rattle.line.specs.Splitting.{first_outside, after}
use Rattle.line.specs.Reading.{line_of, value_of}
use Rattle.values.specs.TimeLists.{time_items, good_times, seconds_of, with_kinds, TimesAre}
use Rattle.values.specs.declared.times.Context.{Context}
use Rattle.values.specs.declared.times.Time.{Time}
use Rattle.values.specs.declared.times.Form.{Form}
use Rattle.values.specs.declared.time_lists.Kinds.{Kinds}
use Rattle.values.proofs.TimeLists.{times_stored, times_long, with_kinds_append}
use Rattle.property.specs.Properties.{property_value_of}
use Rattle.property.specs.Facts.{IdentityFact, Reading, unread, fault, of, span, repeats, busy, identity, periods, uid, recurrence_id}
use Rattle.property.specs.declared.Scope.{Scope}
use Rattle.nesting.specs.Components.{Numbered, Items, properties_in}
use Rattle.index.specs.Index.{line_bytes, start_in, Indexed}
use Rattle.index.proofs.Index.{entry_long, starts_rise}
use Rattle.structure.specs.Rows.{items_by, numbered_line, component_by}
use Rattle.structure.specs.Items.{PropertyAt, InnerAt}
use Rattle.overrides.specs.Lists.{two_or_more}
use Rattle.calendar.specs.Identities.{uids_by, recurrence_ids_by, exceptions_by, uids_in, recurrence_ids_in, exceptions_in, identity_in}
use Rattle.ascii.proofs.Bools.{clash}
use Rattle.values.specs.Given.{given_more}
use Rattle.identities.specs.Gathering.{recurrence_id_of, no_identity, with_uid, with_recurrence, with_exceptions}
use Rattle.values.specs.declared.given.Given.{Given}
use Rattle.identities.specs.declared.RecurrenceId.{RecurrenceId}
use Rattle.series.specs.Identities.{UidTies, RecurrenceTies, Ties}
use Rattle.component_lines.specs.Identities.{excluded_in, RoomFrom, LinesTie}
use Rattle.identities.specs.declared.IdentityRead.{IdentityRead}
use Rattle.component_lines.proofs.Lines.{properties_by, next_property, next_inner, no_properties_lem}

-- it ties nothing: neither UID nor RECURRENCE-ID nor EXDATE
abbrev pub Untied : Reading → Type 0
Untied unread = Unit
Untied (fault f) = Unit
Untied (of (span f)) = Unit
Untied (of (repeats r)) = Unit
Untied (of (busy f)) = Unit
Untied (of (identity f)) = ⊥
Untied (of (periods y)) = Unit

-- it has no UID, no RECURRENCE-ID and no excluded second
untied_so : (c : Context) (l : ContentLine) (v : Reading) → Untied v → (uids_by v l ≡ []) × (recurrence_ids_by v ≡ []) × (exceptions_by c v l ≡ [])
unfolding uids_by recurrence_ids_by exceptions_by
untied_so c l unread p = (refl, refl, refl)
untied_so c l (fault f) p = (refl, refl, refl)
untied_so c l (of (span f)) p = (refl, refl, refl)
untied_so c l (of (repeats r)) p = (refl, refl, refl)
untied_so c l (of (busy f)) p = (refl, refl, refl)
untied_so c l (of (identity f)) p = absurd p
untied_so c l (of (periods b)) p = (refl, refl, refl)

-- ---- one more

two_more : {A : Type 0} (xs ys : List A) → two_or_more xs ≡ true → two_or_more (xs ++ ys) ≡ true
unfolding two_or_more
two_more [] ys h = clash h refl
two_more (x ∷ []) ys h = clash h refl
two_more (x ∷ y ∷ xs) ys h = refl

uid_more : (s : List ℕ) (g : Given ℕ) (us : List (List ℕ)) (i : ℕ) → i < length (content_lines s) → i < 65536 → UidTies s g us → UidTies s (given_more g (i + 1)) (us ++ (value_of (line_bytes s i) ∷ []))
unfolding given_more two_or_more
uid_more s Given.None us i l r e =
    let z : i + 1 - 1 ≡ i = omega arith in
    (omega arith, omega arith, omega arith, ap (λ (x : List (List ℕ)). x ++ (value_of (line_bytes s i) ∷ [])) e ∙ ap (λ (n : ℕ). value_of (line_bytes s n) ∷ []) (sym z))
uid_more s (Given.One n) us i l r e = ap (λ (x : List (List ℕ)). two_or_more (x ++ (value_of (line_bytes s i) ∷ []))) e.3
uid_more s Given.Several us i l r e = two_more us (value_of (line_bytes s i) ∷ []) e

recurrence_more : (g : Given RecurrenceId) (ts : List Time) (t : Time) → RecurrenceTies g ts → RecurrenceTies (given_more g (recurrence_id_of t)) (ts ++ (t ∷ []))
unfolding given_more two_or_more
recurrence_more Given.None ts t e = record { time = t; alone = ap (λ (x : List Time). x ++ (t ∷ [])) e; kept = refl }
recurrence_more (Given.One u) ts t e = ap (λ (x : List Time). two_or_more (x ++ (t ∷ []))) e.alone
recurrence_more Given.Several ts t e = two_more ts (t ∷ []) e

-- so far these were read, and with those of the lines from line i on they are all
pub record TiedSoFar (c : Context) (s : List ℕ) (xs : List Numbered) (y : IdentityRead) (i : ℕ) : Type 0 where
  pub uids : List (List ℕ)
  pub recurrences : List Time
  pub exceptions : List Time
  pub so_far : Ties s y (record { uids = uids; recurrence_ids = recurrences; exceptions = exceptions })
  pub uids_left : uids ++ uids_in c (properties_by s i) ≡ uids_in c xs
  pub recurrences_left : recurrences ++ recurrence_ids_in c (properties_by s i) ≡ recurrence_ids_in c xs
  pub exceptions_left : exceptions ++ exceptions_in c (properties_by s i) ≡ exceptions_in c xs

-- the lines from line i on are left of xs; y is what those before tell, and their excluded seconds stand in the column
pub record ReadingTies (c : Context) (t : Scope) (s index : List ℕ) (xs : List Numbered) (e₀ : List ℕ) (h₀ : ℕ) (e : List ℕ) (y : IdentityRead) (i : ℕ) : Type 0 where
  pub tied : t ≡ Scope.Event → TiedSoFar c s xs y i
  pub excluding : (e' : List ℕ) → e' ≡ sets e y.held (excluded_in c t (properties_by s i)) → e' ≡ sets e₀ h₀ (excluded_in c t xs)
  pub counting : y.held + length (excluded_in c t (properties_by s i)) ≡ h₀ + length (excluded_in c t xs)
  pub long : length e ≡ length e₀
  pub room : RoomFrom s index i y.held
  pub few : y.held ≤ length e₀

pub ties_start : (c : Context) (t : Scope) (s index rows : List ℕ) (k : ℕ) (e : List ℕ) (h first : ℕ) {y : IdentityRead} → y ≡ no_identity h → first ≡ get_or rows (4 * k) 0
    → RoomFrom s index (get_or rows (4 * k) 0) h → h ≤ length e → ReadingTies c t s index (properties_in (component_by s rows k).items) e h e y first
unfolding component_by no_identity with_kinds
ties_start c t s index rows k e h first p q r f =
    rw (p, q)
    (record {
      tied = λ _.
          record {
            uids = [];
            recurrences = [];
            exceptions = [];
            so_far = record { uid_ties = refl; recurrence_ties = refl; kinds_are = refl };
            uids_left = refl;
            recurrences_left = refl;
            exceptions_left = refl;
          };
      excluding = λ e' w. w;
      counting = refl;
      long = refl;
      room = r;
      few = f;
    })

module _ {c : Context} {t : Scope} {s index : List ℕ} {xs : List Numbered} {e₀ : List ℕ} {h₀ : ℕ} {e : List ℕ} {y : IdentityRead} {i : ℕ}
    (z : ReadingTies c t s index xs e₀ h₀ e y i) where
  pub ties_inner : {rows : List ℕ} {row j m next after : ℕ} → InnerAt s rows i row j m next after → ReadingTies c t s index xs e₀ h₀ e y next
  ties_inner h =
      let same = sym (next_inner h) in
      record {
        tied = λ o.
            let f = z.tied o in
            record {
              uids = f.uids;
              recurrences = f.recurrences;
              exceptions = f.exceptions;
              so_far = f.so_far;
              uids_left = ap (λ (ys : List Numbered). f.uids ++ uids_in c ys) same ∙ f.uids_left;
              recurrences_left = ap (λ (ys : List Numbered). f.recurrences ++ recurrence_ids_in c ys) same ∙ f.recurrences_left;
              exceptions_left = ap (λ (ys : List Numbered). f.exceptions ++ exceptions_in c ys) same ∙ f.exceptions_left;
            };
        excluding = λ e' w. z.excluding e' (w ∙ ap (λ (ys : List Numbered). sets e y.held (excluded_in c t ys)) same);
        counting = ap (λ (ys : List Numbered). y.held + length (excluded_in c t ys)) same ∙ z.counting;
        long = z.long;
        room = λ n l u. z.room n (omega (arith, h.onward)) u;
        few = z.few;
      }

  module _ {rows : List ℕ} {row j m : ℕ} (h : PropertyAt s rows i row j m) {v : Reading} (q : property_value_of c t (numbered_line s i).line ≡ v) where
    excluded_here : excluded_in c t (properties_by s i) ≡ seconds_of (exceptions_by c v (numbered_line s i).line) ++ excluded_in c t (properties_by s (i + 1))
    unfolding excluded_in
    excluded_here =
        ap (excluded_in c t) (next_property h)
        ∙ ap (λ (w : Reading). seconds_of (exceptions_by c w (numbered_line s i).line) ++ excluded_in c t (properties_by s (i + 1))) q

    -- what the line adds, where it stands in an event
    tied_more : {y' : IdentityRead} (o : t ≡ Scope.Event)
        → ((f : TiedSoFar c s xs y i)
        → Ties s y'
        (record {
          uids = f.uids ++ uids_by v (numbered_line s i).line;
          recurrence_ids = f.recurrences ++ recurrence_ids_by v;
          exceptions = f.exceptions ++ exceptions_by c v (numbered_line s i).line;
        }))
        → TiedSoFar c s xs y' (i + 1)
    unfolding uids_in recurrence_ids_in exceptions_in
    tied_more o g =
        let f = z.tied o in
        let l = (numbered_line s i).line in
        let rest = properties_by s (i + 1) in
        let said : property_value_of c Scope.Event l ≡ v = ap (λ (w : Scope). property_value_of c w l) (sym o) ∙ q in
        record {
          uids = f.uids ++ uids_by v l;
          recurrences = f.recurrences ++ recurrence_ids_by v;
          exceptions = f.exceptions ++ exceptions_by c v l;
          so_far = g f;
          uids_left =
              append_assoc f.uids (uids_by v l) (uids_in c rest)
              ∙ ap (λ (w : Reading). f.uids ++ (uids_by w l ++ uids_in c rest)) (sym said)
              ∙ ap (λ (ys : List Numbered). f.uids ++ uids_in c ys) (sym (next_property h))
              ∙ f.uids_left;
          recurrences_left =
              append_assoc f.recurrences (recurrence_ids_by v) (recurrence_ids_in c rest)
              ∙ ap (λ (w : Reading). f.recurrences ++ (recurrence_ids_by w ++ recurrence_ids_in c rest)) (sym said)
              ∙ ap (λ (ys : List Numbered). f.recurrences ++ recurrence_ids_in c ys) (sym (next_property h))
              ∙ f.recurrences_left;
          exceptions_left =
              append_assoc f.exceptions (exceptions_by c v l) (exceptions_in c rest)
              ∙ ap (λ (w : Reading). f.exceptions ++ (exceptions_by c w l ++ exceptions_in c rest)) (sym said)
              ∙ ap (λ (ys : List Numbered). f.exceptions ++ exceptions_in c ys) (sym (next_property h))
              ∙ f.exceptions_left;
        }

    -- a line that has no excluded seconds
    ties_without : {y' : IdentityRead} → y'.held ≡ y.held → exceptions_by c v (numbered_line s i).line ≡ [] → (t ≡ Scope.Event → TiedSoFar c s xs y' (i + 1))
        → ReadingTies c t s index xs e₀ h₀ e y' (i + 1)
    unfolding seconds_of
    ties_without {y'} r o f =
        let rest = excluded_in c t (properties_by s (i + 1)) in
        let here : excluded_in c t (properties_by s i) ≡ rest = excluded_here ∙ ap (λ (ts : List Time). seconds_of ts ++ rest) o in
        record {
          tied = f;
          excluding = λ e' w. z.excluding e' (w ∙ ap (λ (n : ℕ). sets e n rest) r ∙ sym (ap (sets e y.held) here));
          counting = omega (arith, r, ap length here, z.counting);
          long = z.long;
          room = λ n l u. omega (arith, z.room n (omega arith) u, r);
          few = omega (arith, r, z.few);
        }

    pub ties_untied : Untied v → ReadingTies c t s index xs e₀ h₀ e y (i + 1)
    ties_untied n =
        let so = untied_so c (numbered_line s i).line v n in
        ties_without refl so.2
        (λ o.
        tied_more o
        (λ f.
        subst (Ties s y)
        (sym
        (ap (λ (us : List (List ℕ)). record { uids = us; recurrence_ids = f.recurrences ++ recurrence_ids_by v; exceptions = f.exceptions ++ exceptions_by c v (numbered_line s i).line })
        (ap (λ (us : List (List ℕ)). f.uids ++ us) so.0 ∙ append-nil f.uids)
        ∙ ap (λ (rs : List Time). record { uids = f.uids; recurrence_ids = rs; exceptions = f.exceptions ++ exceptions_by c v (numbered_line s i).line })
        (ap (λ (rs : List Time). f.recurrences ++ rs) so.1 ∙ append-nil f.recurrences)
        ∙ ap (λ (es : List Time). record { uids = f.uids; recurrence_ids = f.recurrences; exceptions = es })
        (ap (λ (es : List Time). f.exceptions ++ es) so.2 ∙ append-nil f.exceptions)))
        f.so_far))

  module _ {rows : List ℕ} {row j m : ℕ} (h : PropertyAt s rows i row j m) where
    pub ties_uid : {y' : IdentityRead} → property_value_of c t (numbered_line s i).line ≡ of (identity uid) → y' ≡ with_uid y (i + 1) → ReadingTies c t s index xs e₀ h₀ e y' (i + 1)
    unfolding with_uid uids_by recurrence_ids_by exceptions_by numbered_line line_of
    ties_uid {y'} q p =
        ties_without h q (ap (λ (w : IdentityRead). w.held) p) refl
        (λ o.
        tied_more h q o
        (λ f.
        rw p
        (record {
          uid_ties = uid_more s y.uid f.uids i h.inside (omega (arith, h.onward, h.rest.inside)) f.so_far.uid_ties;
          recurrence_ties = subst (RecurrenceTies y.recurrence) (sym (append-nil f.recurrences)) f.so_far.recurrence_ties;
          kinds_are = f.so_far.kinds_are ∙ ap (with_kinds Kinds.None) (sym (append-nil f.exceptions));
        })))

    pub ties_recurrence : {y' : IdentityRead} {x : Time} → property_value_of c t (numbered_line s i).line ≡ of (identity (recurrence_id x)) → y' ≡ with_recurrence y x
        → ReadingTies c t s index xs e₀ h₀ e y' (i + 1)
    unfolding with_recurrence uids_by recurrence_ids_by exceptions_by
    ties_recurrence {y'} {x} q p =
        ties_without h q (ap (λ (w : IdentityRead). w.held) p) refl
        (λ o.
        tied_more h q o
        (λ f.
        rw p
        (record {
          uid_ties = subst (UidTies s y.uid) (sym (append-nil f.uids)) f.so_far.uid_ties;
          recurrence_ties = recurrence_more y.recurrence f.recurrences x f.so_far.recurrence_ties;
          kinds_are = f.so_far.kinds_are ∙ ap (with_kinds Kinds.None) (sym (append-nil f.exceptions));
        })))

-- ---- the times of an EXDATE line

seconds_length : (ts : List Time) → length (seconds_of ts) ≡ length ts
unfolding seconds_of
seconds_length [] = refl
seconds_length (t ∷ ts) = omega (arith, seconds_length ts)

value_fits : (l : List ℕ) → length (value_of l) ≤ length l
unfolding value_of after
value_fits l = omega (arith, length-drop (first_outside true 58 false l + 1) l)

value_at : (s : List ℕ) (i : ℕ) {l w : List ℕ} → l ≡ line_bytes s i → w ≡ value_of l → w ≡ (numbered_line s i).line.value
unfolding numbered_line line_of
value_at s i p q = q ∙ ap value_of p

module _ {c : Context} {t : Scope} {s index : List ℕ} {xs : List Numbered} {e₀ : List ℕ} {h₀ : ℕ} {e : List ℕ} {y : IdentityRead} {i : ℕ}
    (z : ReadingTies c t s index xs e₀ h₀ e y i) {rows : List ℕ} {row j m : ℕ} (h : PropertyAt s rows i row j m) (k : Indexed s index)
    {l w : List ℕ} (p : l ≡ line_bytes s i) (q : w ≡ value_of l) where
  -- the value stands before the next line
  value_before : 8 * y.held + length w + 2 ≤ start_in (get_or index (i + 1) 0)
  value_before =
      let fits = value_fits (line_bytes s i) in
      omega (arith, z.room i (omega arith) h.inside, entry_long (k.entries i h.inside), ap length (q ∙ ap value_of p), fits)

  -- and there is room for its times
  pub ties_room : length s ≤ 8 * length e₀ → 8 * y.held + length w ≤ 8 * length e
  ties_room u = omega (arith, value_before, (k.entries i h.inside).between.inside, z.long, u)

  pub ties_exceptions : {f : Form} {e' : List ℕ} {r : Option (ℕ × Kinds)} (n : ℕ) (ks : Kinds) {y' : IdentityRead} → length s ≤ 8 * length e₀
      → property_value_of c t (numbered_line s i).line ≡ of (identity (IdentityFact.exceptions f))
      → TimesAre c f w y.kinds e y.held e' r → r ≡ Some (n, ks) → y' ≡ with_exceptions y ks n → ReadingTies c t s index xs e₀ h₀ e' y' (i + 1)
  unfolding with_exceptions uids_by recurrence_ids_by exceptions_by
  ties_exceptions {f} {e'} n ks {y'} long v u b d =
      let ts = good_times (time_items c f w) in
      let st = times_stored u n ks b in
      let same : w ≡ (numbered_line s i).line.value = value_at s i p q in
      let rest = excluded_in c t (properties_by s (i + 1)) in
      let held : y'.held ≡ y.held + length ts = ap (λ (x : IdentityRead). x.held) d ∙ st.1 in
      let here : excluded_in c t (properties_by s i) ≡ seconds_of ts ++ rest =
      excluded_here z h v ∙ ap (λ (o : List ℕ). seconds_of (good_times (time_items c f o)) ++ rest) (sym same)
      in
      record {
        tied = λ o.
            tied_more z h v o
            (λ g.
            rw (d, st.2)
            (record {
              uid_ties = subst (UidTies s y.uid) (sym (append-nil g.uids)) g.so_far.uid_ties;
              recurrence_ties = subst (RecurrenceTies y.recurrence) (sym (append-nil g.recurrences)) g.so_far.recurrence_ties;
              kinds_are =
                  ap (λ (x : Kinds). with_kinds x ts) g.so_far.kinds_are
                  ∙ sym (with_kinds_append Kinds.None g.exceptions ts)
                  ∙ ap (λ (x : List ℕ). with_kinds Kinds.None (g.exceptions ++ good_times (time_items c f x))) same;
            }));
        excluding = λ e'' x.
            z.excluding e''
            (x
            ∙ ap (λ (o : List ℕ). sets o y'.held rest) st.0
            ∙ ap (λ (o : ℕ). sets (sets e y.held (seconds_of ts)) o rest) held
            ∙ sets_append e (seconds_of ts) rest y.held (length ts) (seconds_length ts)
            ∙ sym (ap (sets e y.held) here));
        counting = omega (arith, held, ap length here, length-append (seconds_of ts) rest, seconds_length ts, z.counting);
        long = times_long u ∙ z.long;
        room = λ o a g.
            let up : i + 1 + (o - (i + 1)) ≡ o = omega arith in
            let rise = starts_rise k (i + 1) (o - (i + 1)) (omega arith) in
            omega (arith, ap (λ (x : IdentityRead). x.held) d, st.3, value_before, rise, ap (λ (x : ℕ). start_in (get_or index x 0)) up);
        few = omega (arith, ap (λ (x : IdentityRead). x.held) d, st.3, ties_room long, z.long);
      }

-- no line is left
pub ties_done : {c : Context} {t : Scope} {s index : List ℕ} {xs : List Numbered} {e₀ : List ℕ} {h₀ : ℕ} {e : List ℕ} {y : IdentityRead} {i stop : ℕ}
    → ReadingTies c t s index xs e₀ h₀ e y i → items_by s i ≡ Items.none → i ≤ stop → LinesTie c t s index xs e₀ h₀ e stop y
unfolding identity_in uids_in recurrence_ids_in exceptions_in excluded_in
ties_done {c} {t} {s} {xs = xs} {e = e} {y = y} {i = i} z n l =
    let none = no_properties_lem s i n in
    record {
      ties = λ o.
          let f = z.tied o in
          let us : f.uids ≡ uids_in c xs = sym (append-nil f.uids) ∙ ap (λ (ys : List Numbered). f.uids ++ uids_in c ys) (sym none) ∙ f.uids_left in
          let rs : f.recurrences ≡ recurrence_ids_in c xs =
          sym (append-nil f.recurrences) ∙ ap (λ (ys : List Numbered). f.recurrences ++ recurrence_ids_in c ys) (sym none) ∙ f.recurrences_left
          in
          let es : f.exceptions ≡ exceptions_in c xs =
          sym (append-nil f.exceptions) ∙ ap (λ (ys : List Numbered). f.exceptions ++ exceptions_in c ys) (sym none) ∙ f.exceptions_left
          in
          record {
            uid_ties = subst (UidTies s y.uid) us f.so_far.uid_ties;
            recurrence_ties = subst (RecurrenceTies y.recurrence) rs f.so_far.recurrence_ties;
            kinds_are = f.so_far.kinds_are ∙ ap (with_kinds Kinds.None) es;
          };
      counted = (let w : y.held ≡ y.held + 0 = omega arith in w) ∙ sym (ap (λ (ys : List Numbered). y.held + length (excluded_in c t ys)) none) ∙ z.counting;
      excluded = z.excluding e (sym (ap (λ (ys : List Numbered). sets e y.held (excluded_in c t ys)) none));
      room = λ o a g. z.room o (omega arith) g;
      few = z.few;
    }
