-- Laws of an event beside others: a search through seconds, a RECURRENCE-ID against a master's row, and the rules by UID and RECURRENCE-ID.
use Rattle.std.specs.Prelude.{None, Option, Some}
use Rattle.std.proofs.Common.{nat_eq}
use Rattle.std.specs.List.{list_any}
use Rattle.std.proofs.lemmas.Grind.{common_steps}
use Prim.Native.Nat.{ℕ, ◌+◌, ◌*◌, ◌-◌, ◌≤◌, ◌<◌}
use mathlib.Core.Path.{◌≡◌, refl, sym, ap, subst, ◌∙◌}
use mathlib.Core.Bool.{Bool, true, false, cond, not, ◌&&◌, ◌||◌, and-false}
use mathlib.Core.List.{List, [], ◌∷◌}
use native.Mathlib.Omega.{arith}
use lib.Dec.{eqb}
use lib.ListN.{length, get_or}
use Rattle.ascii.proofs.Bools.{clash, or_left, or_right, or_neither}
use Rattle.text.specs.Lines.{part, content_lines}
use Rattle.line.specs.Reading.{value_of}
use Rattle.index.specs.Index.{line_bytes}
use Rattle.time.specs.Limits.{last_second}
use Rattle.seconds.specs.Seconds.{among}
use Rattle.values.specs.TimeLists.{seconds_of, same_kind}
use Rattle.values.specs.declared.times.Context.{Context}
use Rattle.values.specs.declared.times.Time.{Time}
use Rattle.nesting.specs.Components.{Component}
use Rattle.structure.specs.Rows.{component_by}
use Rattle.events.specs.EntryRows.{event_at}
use Rattle.events.specs.declared.Event.{Event}
use Rattle.overrides.specs.Lists.{some, is_empty, two_or_more}
use Rattle.overrides.specs.VEvents.{VEvent, is_master, is_override, has_uid, shares_uid, MasterFound, nowhere, found, master_of}
use Rattle.overrides.specs.Instances.{names_instance}
use Rattle.overrides.specs.Rules.{other_kind, override_breaks, event_breaks, breaks_alone, masters_clash, overrides_clash, has_rule, misnames, misplaced, override_misplaced, breaks_beside}
use Rattle.calendar.specs.Identities.{identity_of}
use Rattle.calendar.specs.Meaning.{vevent_of}
use Rattle.calendar.proofs.Meaning.{event_of_small}
use Rattle.calendar.proofs.Identities.{identity_small}
use Rattle.identities.specs.LinkRows.{link_at}
use Rattle.values.specs.declared.given.Given.{Given}
use Rattle.identities.specs.declared.RecurrenceId.{RecurrenceId}
use Rattle.identities.specs.declared.rows.Link.{Link}
use Rattle.series.specs.Identities.{UidTies, RecurrenceTies}
use Rattle.series.specs.LinkRows.{LinkStands}
use Rattle.series.specs.VEventRows.{vevents_before, is_master_of, names, Tied, MasterIs, is_none, is_at}
use Rattle.series.specs.Prints.{Printed, Unshared}
use Rattle.series.proofs.MasterLaws.{one_second}
use Rattle.series.proofs.PrintLaws.{print_new, compared}
use Rattle.series.specs.Beside.{excluded_at, misfits, MasterKnown, Linked, Unbroken}
use Rattle.series.proofs.UidLaws.{or_nothing}

-- ---- a search through seconds

-- the library's test of some element
pub among_any : (x : ℕ) (l : List ℕ) → list_any (λ (s : ℕ). nat_eq s x) l ≡ among x l
unfolding among
among_any x [] = refl
among_any x (s ∷ ss) = grind (arith, common_steps, among_any x ss)

-- ---- against the row of a master

module _ (l : Link) (e : Event) (xs : List ℕ) (t : RecurrenceId) where
  pub fit_broken : l.broken ≡ true → false ≡ misfits l e xs t
  unfolding misfits
  fit_broken h = sym (ap (λ (b : Bool). not b && (other_kind e t.kind || not (names_instance e t.second) || among t.second xs)) h)

  sound : l.broken ≡ false → (other_kind e t.kind || not (names_instance e t.second) || among t.second xs) ≡ misfits l e xs t
  unfolding misfits
  sound h = sym (ap (λ (b : Bool). not b && (other_kind e t.kind || not (names_instance e t.second) || among t.second xs)) h)

  pub fit_kind : l.broken ≡ false → same_kind t.kind e.kind ≡ false → true ≡ misfits l e xs t
  unfolding other_kind
  fit_kind h a = sym (ap (λ (b : Bool). not b || not (names_instance e t.second) || among t.second xs) a) ∙ sound h

  pub fit_named : l.broken ≡ false → same_kind t.kind e.kind ≡ true → names_instance e t.second ≡ false → true ≡ misfits l e xs t
  unfolding other_kind
  fit_named h a n =
      sym
      (ap (λ (b : Bool). not b || not (names_instance e t.second) || among t.second xs) a
      ∙ ap (λ (b : Bool). not b || among t.second xs) n)
      ∙ sound h

  pub fit_excluded : l.broken ≡ false → same_kind t.kind e.kind ≡ true → names_instance e t.second ≡ true → {r : Bool} → r ≡ among t.second xs → r ≡ misfits l e xs t
  unfolding other_kind
  fit_excluded h a n p =
      p
      ∙ sym
      (ap (λ (b : Bool). not b || not (names_instance e t.second) || among t.second xs) a
      ∙ ap (λ (b : Bool). not b || among t.second xs) n)
      ∙ sound h

-- the same by what was read of the row
module _ (entries links exceptions : List ℕ) (k : ℕ) (t : RecurrenceId) {l : Link} (q : l ≡ link_at links k) where
  pub misfit_broken : l.broken ≡ true → false ≡ misfits (link_at links k) (event_at entries k) (excluded_at links exceptions k) t
  misfit_broken h = fit_broken (link_at links k) (event_at entries k) (excluded_at links exceptions k) t (ap (λ (x : Link). x.broken) (sym q) ∙ h)

  sound_row : l.broken ≡ false → (link_at links k).broken ≡ false
  sound_row h = ap (λ (x : Link). x.broken) (sym q) ∙ h

  module _ (h : l.broken ≡ false) {e : Event} (w : e ≡ event_at entries k) {a : Bool} (p : a ≡ same_kind t.kind e.kind) where
    kinds : same_kind t.kind (event_at entries k).kind ≡ a
    kinds = sym (p ∙ ap (λ (x : Event). same_kind t.kind x.kind) w)

    pub misfit_kind : a ≡ false → true ≡ misfits (link_at links k) (event_at entries k) (excluded_at links exceptions k) t
    misfit_kind i = fit_kind (link_at links k) (event_at entries k) (excluded_at links exceptions k) t (sound_row h) (kinds ∙ i)

    module _ (i : a ≡ true) {b : Bool} (n : b ≡ names_instance e t.second) where
      named : names_instance (event_at entries k) t.second ≡ b
      named = sym (n ∙ ap (λ (x : Event). names_instance x t.second) w)

      pub misfit_named : b ≡ false → true ≡ misfits (link_at links k) (event_at entries k) (excluded_at links exceptions k) t
      misfit_named o = fit_named (link_at links k) (event_at entries k) (excluded_at links exceptions k) t (sound_row h) (kinds ∙ i) (named ∙ o)

      pub misfit_excluded : b ≡ true → {r : Bool} → r ≡ among t.second (part exceptions l.from l.to)
          → r ≡ misfits (link_at links k) (event_at entries k) (excluded_at links exceptions k) t
      unfolding excluded_at
      misfit_excluded o y =
          fit_excluded (link_at links k) (event_at entries k) (excluded_at links exceptions k) t (sound_row h) (kinds ∙ i) (named ∙ o)
          (y ∙ ap (λ (x : Link). among t.second (part exceptions x.from x.to)) q)

-- ---- the master of a UID

-- where the first master stands
pub record MasterAt (c : Context) (s rows : List ℕ) (m : ℕ) (u : List ℕ) (k : ℕ) : Type 0 where
  pub there : k < m
  pub is_event_holds : get_or rows (4 * k + 3) 0 ≡ 1
  pub master : master_of u (vevents_before c s rows m) ≡ found (vevent_of c (component_by s rows k))

module _ {c : Context} {s rows : List ℕ} {m : ℕ} {u : List ℕ} {r : Option ℕ} (g : MasterIs c s rows m u r) where
  pub none_of : r ≡ None → master_of u (vevents_before c s rows m) ≡ nowhere
  none_of e = go (subst (MasterIs c s rows m u) e g)
    where
      go : MasterIs c s rows m u None → master_of u (vevents_before c s rows m) ≡ nowhere
      go (is_none p) = p

  pub at_of : {k : ℕ} → r ≡ Some k → MasterAt c s rows m u k
  at_of {k} e = go (subst (MasterIs c s rows m u) e g)
    where
      go : MasterIs c s rows m u (Some k) → MasterAt c s rows m u k
      go (is_at l i p) = record { there = l; is_event_holds = i; master = p }

is_found : MasterFound → Bool
is_found nowhere = false
is_found (found v) = true

found_some : (u : List ℕ) (vs : List VEvent) → is_found (master_of u vs) ≡ some (is_master_of u) vs
unfolding master_of some is_master_of is_found
found_some u [] = refl
found_some u (v ∷ vs) = go (is_master v && has_uid u v) (found_some u vs)
  where
    go : (t : Bool) → is_found (master_of u vs) ≡ some (is_master_of u) vs → is_found (cond t (found v) (master_of u vs)) ≡ (t || some (is_master_of u) vs)
    go true ih = refl
    go false ih = ih

pub none_before : (u : List ℕ) (vs : List VEvent) → master_of u vs ≡ nowhere → false ≡ some (is_master_of u) vs
unfolding is_found
none_before u vs h = sym (ap is_found h) ∙ found_some u vs

pub one_before : (u : List ℕ) (vs : List VEvent) {v : VEvent} → master_of u vs ≡ found v → true ≡ some (is_master_of u) vs
unfolding is_found
one_before u vs h = sym (ap is_found h) ∙ found_some u vs

-- ---- a RECURRENCE-ID against it

module _ {c : Context} {s rows entries links exceptions : List ℕ} {k : ℕ} (g : LinkStands c s rows entries links exceptions k) (t : RecurrenceId) where
  abbrev v : VEvent
  v = vevent_of c (component_by s rows k)

  names_same : (link_at links k).broken ≡ false
      → (other_kind (event_at entries k) t.kind || not (names_instance (event_at entries k) t.second) || among t.second (excluded_at links exceptions k)) ≡ misnames v v.event t.kind t.second
  unfolding misnames vevent_of excluded_at
  names_same h =
      ap (λ (xs : List ℕ). other_kind (event_at entries k) t.kind || not (names_instance (event_at entries k) t.second) || among t.second xs) g.excluded
      ∙ sym (ap (λ (x : Option Event). misnames v x t.kind t.second) (g.event_is h))

  fits_same : misfits (link_at links k) (event_at entries k) (excluded_at links exceptions k) t ≡ (not (breaks_alone v) && misnames v v.event t.kind t.second)
  unfolding misfits
  fits_same = go (link_at links k).broken refl g.broken_is
    where
      go : (b : Bool) → (link_at links k).broken ≡ b → (link_at links k).broken ≡ breaks_alone v
          → (not (link_at links k).broken && (other_kind (event_at entries k) t.kind || not (names_instance (event_at entries k) t.second) || among t.second (excluded_at links exceptions k)))
          ≡ (not (breaks_alone v) && misnames v v.event t.kind t.second)
      go true p q =
          ap (λ (b : Bool). not b && (other_kind (event_at entries k) t.kind || not (names_instance (event_at entries k) t.second) || among t.second (excluded_at links exceptions k))) p
          ∙ sym (ap (λ (b : Bool). not b && misnames v v.event t.kind t.second) (sym q ∙ p))
      go false p q =
          ap (λ (b : Bool). not (link_at links k).broken && b) (names_same p)
          ∙ ap (λ (b : Bool). not b && misnames v v.event t.kind t.second) q

  pub place_at : (u : List ℕ) (m : ℕ) {r : Bool} → master_of u (vevents_before c s rows m) ≡ found v → r ≡ misfits (link_at links k) (event_at entries k) (excluded_at links exceptions k) t
      → r ≡ misplaced t.kind t.second (master_of u (vevents_before c s rows m))
  unfolding misplaced
  place_at u m h p = p ∙ fits_same ∙ sym (ap (misplaced t.kind t.second) h)

pub place_none : (t : RecurrenceId) {f : MasterFound} → f ≡ nowhere → true ≡ misplaced t.kind t.second f
unfolding misplaced
place_none t h = sym (ap (misplaced t.kind t.second) h)

pub master_known : {c : Context} {s index rows entries links exceptions : List ℕ} {m : ℕ} → Linked c s index rows entries links exceptions m → {k : ℕ} → k < m
    → get_or rows (4 * k + 3) 0 ≡ 1 → MasterKnown entries links exceptions k
master_known {c} {s} {index} {rows} {entries} g {k} l e =
    let z = g.stands k l e in
    record {
      entry_room = omega (arith, g.entry_room, g.tied.few);
      link_room = (g.tied.each k l).link_room;
      order = z.order;
      inside = z.inside;
      small = λ h. event_of_small c (component_by s rows k) (event_at entries k) (z.event_is h);
    }

-- ---- the rules, by UID and RECURRENCE-ID

some_same : {A : Type 0} {f g : A → Bool} → ((a : A) → f a ≡ g a) → (l : List A) → some f l ≡ some g l
unfolding some
some_same h [] = refl
some_same {f = f} {g = g} h (a ∷ l) = ap (λ (b : Bool). b || some f l) (h a) ∙ ap (λ (b : Bool). g a || b) (some_same h l)

some_never : {A : Type 0} {f : A → Bool} → ((a : A) → f a ≡ false) → (l : List A) → some f l ≡ false
unfolding some
some_never h [] = refl
some_never h (a ∷ l) = or_neither (h a) (some_never h l)

module _ (before all : List VEvent) (v : VEvent) where
  pub no_uid_keeps : v.uids ≡ [] → false ≡ breaks_beside before all v
  unfolding breaks_beside masters_clash overrides_clash override_misplaced shares_uid some
  no_uid_keeps h =
      let shares : (w : VEvent) → shares_uid v w ≡ false = λ w. ap (some (λ u. has_uid u w)) h in
      sym
      (or_neither
      (or_neither
      (some_never (λ w. ap (λ (b : Bool). is_master v && is_master w && b) (shares w) ∙ and-false (is_master v && is_master w)) before)
      (some_never (λ w. ap (λ (b : Bool). b && some (λ t. among t.second (seconds_of w.recurrence_ids)) v.recurrence_ids) (shares w)) before))
      (some_never (λ t. ap (some (λ u. misplaced t.kind t.second (master_of u all))) h) v.recurrence_ids))

  module _ (u : List ℕ) (h : v.uids ≡ u ∷ []) where
    shares_one : (w : VEvent) → shares_uid v w ≡ has_uid u w
    unfolding shares_uid some
    shares_one w = ap (some (λ x. has_uid x w)) h ∙ sym (or_nothing (has_uid u w))

    pub master_breaks : v.recurrence_ids ≡ [] → some (is_master_of u) before ≡ breaks_beside before all v
    unfolding breaks_beside masters_clash overrides_clash override_misplaced is_master_of some is_master is_empty
    master_breaks n =
        let masters : some (masters_clash v) before ≡ some (is_master_of u) before =
        some_same
        (λ w. ap (λ (b : Bool). b && is_master w && shares_uid v w) (ap is_empty n) ∙ ap (λ (b : Bool). is_master w && b) (shares_one w))
        before
        in
        let overrides : some (overrides_clash v) before ≡ false =
        some_never
        (λ w. ap (λ (ts : List Time). shares_uid v w && some (λ t. among t.second (seconds_of w.recurrence_ids)) ts) n ∙ and-false (shares_uid v w))
        before
        in
        let places : override_misplaced all v ≡ false = ap (some (λ t. some (λ x. misplaced t.kind t.second (master_of x all)) v.uids)) n in
        sym
        (ap (λ (b : Bool). b || some (overrides_clash v) before || override_misplaced all v) masters
        ∙ ap (λ (b : Bool). some (is_master_of u) before || b || override_misplaced all v) overrides
        ∙ ap (λ (b : Bool). some (is_master_of u) before || false || b) places
        ∙ sym (or_nothing (some (is_master_of u) before || false))
        ∙ sym (or_nothing (some (is_master_of u) before)))

    pub override_breaks_lem : {t : Time} → v.recurrence_ids ≡ t ∷ [] → (some (names u t.second) before || misplaced t.kind t.second (master_of u all)) ≡ breaks_beside before all v
    unfolding breaks_beside masters_clash overrides_clash override_misplaced names some is_master is_empty
    override_breaks_lem {t} n =
        let masters : some (masters_clash v) before ≡ false = some_never (λ w. ap (λ (b : Bool). b && is_master w && shares_uid v w) (ap is_empty n)) before in
        let overrides : some (overrides_clash v) before ≡ some (names u t.second) before =
        some_same
        (λ w.
        ap (λ (b : Bool). b && some (λ x. among x.second (seconds_of w.recurrence_ids)) v.recurrence_ids) (shares_one w)
        ∙ ap (λ (ts : List Time). has_uid u w && some (λ x. among x.second (seconds_of w.recurrence_ids)) ts) n
        ∙ ap (λ (b : Bool). has_uid u w && b) (sym (or_nothing (among t.second (seconds_of w.recurrence_ids)))))
        before
        in
        let places : override_misplaced all v ≡ misplaced t.kind t.second (master_of u all) =
        ap (some (λ x. some (λ y. misplaced x.kind x.second (master_of y all)) v.uids)) n
        ∙ sym (or_nothing (some (λ y. misplaced t.kind t.second (master_of y all)) v.uids))
        ∙ ap (some (λ y. misplaced t.kind t.second (master_of y all))) h
        ∙ sym (or_nothing (misplaced t.kind t.second (master_of u all)))
        in
        sym
        (ap (λ (b : Bool). b || some (overrides_clash v) before || override_misplaced all v) masters
        ∙ ap (λ (b : Bool). b || override_misplaced all v) overrides
        ∙ ap (λ (b : Bool). some (names u t.second) before || b) places)

-- one that keeps the rules by itself has one UID at most, and one RECURRENCE-ID
pub one_uid : (v : VEvent) → breaks_alone v ≡ false → two_or_more v.uids ≡ false
unfolding breaks_alone
one_uid v h = or_left (two_or_more v.uids) (event_breaks v v.event) h

inner : (a b c d e : Bool) → a ≡ true → (a && (b || c || d || e)) ≡ false → c ≡ false
inner true true c d e p h = clash refl h
inner true false true d e p h = clash refl h
inner true false false d e p h = refl
inner false b c d e p h = clash p refl

pub one_recurrence : (v : VEvent) → breaks_alone v ≡ false → two_or_more v.recurrence_ids ≡ false
unfolding breaks_alone event_breaks is_override is_master override_breaks is_empty two_or_more
one_recurrence v h = go v.event (or_right (two_or_more v.uids) (event_breaks v v.event) h)
  where
    few : (ts : List Time) (b d e : Bool) → (not (is_empty ts) && (b || two_or_more ts || d || e)) ≡ false → two_or_more ts ≡ false
    few [] b d e h = refl
    few (t ∷ ts) b d e h = inner true b (two_or_more (t ∷ ts)) d e refl h

    go : (e : Option Event) → event_breaks v e ≡ false → two_or_more v.recurrence_ids ≡ false
    go None h = clash refl h
    go (Some e) h =
        few v.recurrence_ids (is_empty v.uids) (not (is_empty v.exceptions)) (has_rule e.repeat)
        (or_right (some (λ t. other_kind e t.kind) v.exceptions) (is_override v && override_breaks v e) h)

-- ---- an event that is not broken by itself, by its link

module _ {c : Context} {s index rows entries links exceptions : List ℕ} {m k : ℕ} (g : Linked c s index rows entries links exceptions m) (h : Unbroken rows links k m)
    {l : Link} (q : l ≡ link_at links k) where
  abbrev x : Component
  x = component_by s rows k

  here : LinkStands c s rows entries links exceptions k
  here = g.stands k h.there h.is_event_holds

  keeps : breaks_alone (vevent_of c x) ≡ false
  keeps = sym here.broken_is ∙ h.alone

  uid_by : {y : Given ℕ} → l.uid ≡ y → UidTies s y (identity_of c x).uids
  uid_by e = subst (λ (w : Given ℕ). UidTies s w (identity_of c x).uids) (ap (λ (w : Link). w.uid) (sym q) ∙ e) here.ties.uid_ties

  moved_by : {y : Given RecurrenceId} → l.recurrence ≡ y → RecurrenceTies y (identity_of c x).recurrence_ids
  moved_by e = subst (λ (w : Given RecurrenceId). RecurrenceTies w (identity_of c x).recurrence_ids) (ap (λ (w : Link). w.recurrence) (sym q) ∙ e) here.ties.recurrence_ties

  pub beside_none : l.uid ≡ Given.None → false ≡ breaks_beside (vevents_before c s rows k) (vevents_before c s rows m) (vevent_of c x)
  unfolding vevent_of
  beside_none e = no_uid_keeps (vevents_before c s rows k) (vevents_before c s rows m) (vevent_of c x) (uid_by e)

  pub beside_there : {n : ℕ} → l.uid ≡ Given.One n → (1 ≤ n) × (n ≤ length (content_lines s))
  beside_there e = let z = uid_by e in (z.0, z.1)

  pub beside_uid : {n : ℕ} → l.uid ≡ Given.One n → {w : List ℕ} → w ≡ value_of (line_bytes s (n - 1)) → (identity_of c x).uids ≡ w ∷ []
  beside_uid e p = (uid_by e).3 ∙ ap (λ (y : List ℕ). y ∷ []) (sym p)

  pub beside_several : l.uid ≡ Given.Several → false ≡ breaks_beside (vevents_before c s rows k) (vevents_before c s rows m) (vevent_of c x)
  unfolding vevent_of
  beside_several e = clash (uid_by e) (one_uid (vevent_of c x) keeps)

  pub second_small : {t : RecurrenceId} → l.recurrence ≡ Given.One t → t.second ≤ last_second
  second_small e = one_second (moved_by e) (identity_small c x).moved_small

  pub by_several : l.recurrence ≡ Given.Several → false ≡ breaks_beside (vevents_before c s rows k) (vevents_before c s rows m) (vevent_of c x)
  unfolding vevent_of
  by_several e = clash (moved_by e) (one_recurrence (vevent_of c x) keeps)

  module _ (u : List ℕ) (p : (identity_of c x).uids ≡ u ∷ []) where
    pub by_master : l.recurrence ≡ Given.None → {r : Bool} → r ≡ some (is_master_of u) (vevents_before c s rows k)
        → r ≡ breaks_beside (vevents_before c s rows k) (vevents_before c s rows m) (vevent_of c x)
    unfolding vevent_of
    by_master e z = z ∙ master_breaks (vevents_before c s rows k) (vevents_before c s rows m) (vevent_of c x) u p (moved_by e)

    module _ {t : RecurrenceId} (e : l.recurrence ≡ Given.One t) {r : Bool} (z : r ≡ some (names u t.second) (vevents_before c s rows k)) where
      either : (r || misplaced t.kind t.second (master_of u (vevents_before c s rows m))) ≡ breaks_beside (vevents_before c s rows k) (vevents_before c s rows m) (vevent_of c x)
      unfolding vevent_of
      either =
          ap (λ (b : Bool). b || misplaced t.kind t.second (master_of u (vevents_before c s rows m))) z
          ∙ subst
          (λ (y : RecurrenceId).
          (some (names u y.second) (vevents_before c s rows k) || misplaced y.kind y.second (master_of u (vevents_before c s rows m)))
          ≡ breaks_beside (vevents_before c s rows k) (vevents_before c s rows m) (vevent_of c x))
          (moved_by e).kept
          (override_breaks_lem (vevents_before c s rows k) (vevents_before c s rows m) (vevent_of c x) u p (moved_by e).alone)

      pub by_clash : r ≡ true → true ≡ breaks_beside (vevents_before c s rows k) (vevents_before c s rows m) (vevent_of c x)
      by_clash y = sym (ap (λ (b : Bool). b || misplaced t.kind t.second (master_of u (vevents_before c s rows m))) y) ∙ either

      pub by_place : r ≡ false → {w : Bool} → w ≡ misplaced t.kind t.second (master_of u (vevents_before c s rows m)) → w ≡ breaks_beside (vevents_before c s rows k) (vevents_before c s rows m) (vevent_of c x)
      by_place y a = a ∙ sym (ap (λ (b : Bool). b || misplaced t.kind t.second (master_of u (vevents_before c s rows m))) y) ∙ either

  -- the rows before it can be asked too
  pub fewer_tied : Tied c s index rows links k
  fewer_tied = record { few = omega (arith, h.there, g.tied.few); each = λ j i. g.tied.each j (omega (arith, h.there)) }

  -- a master whose fingerprint is new
  pub beside_new : {n : ℕ} {prints marks : List ℕ} {r : Bool} → l.uid ≡ Given.One n → Printed c s rows prints marks m → Unshared prints k l.recurrence r → r ≡ true
      → false ≡ breaks_beside (vevents_before c s rows k) (vevents_before c s rows m) (vevent_of c x)
  beside_new {n} e z w t =
      let u = value_of (line_bytes s (n - 1)) in
      let p : (identity_of c x).uids ≡ u ∷ [] = beside_uid e refl in
      by_master u p (w.is_master_holds t) (print_new fewer_tied h.one_each (compared z g.tied.few h.there h.is_event_holds p) (w.is_new t))

-- the part of a row stands in the column
pub part_there : {entries links exceptions : List ℕ} {k : ℕ} → MasterKnown entries links exceptions k → {l : Link} → l ≡ link_at links k → (l.from ≤ l.to) × (l.to ≤ length exceptions)
part_there {exceptions = exceptions} g q = subst (λ (x : Link). (x.from ≤ x.to) × (x.to ≤ length exceptions)) (sym q) (g.order, g.inside)
