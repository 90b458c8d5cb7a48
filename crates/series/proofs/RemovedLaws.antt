-- Laws of what is taken away from an event: seconds copied, what overrides name by its UID, and both together.
use Prim.Native.Nat.{ℕ, ◌+◌, ◌-◌, ◌≤◌}
use mathlib.Core.Path.{◌≡◌, refl, sym, ap, subst, ◌∙◌}
use mathlib.Core.Bool.{Bool, true, false, cond, not, ◌&&◌}
use mathlib.Core.List.{List, [], ◌∷◌, ◌++◌, append-nil}
use native.Mathlib.Omega.{arith}
use lib.ListN.{length, take, drop, length-append, length-take, length-drop}
use lib.Seq.{sets, length-sets, sets-eq, length-take-le, length_front, take_at}
use Rattle.seconds.specs.Seconds.{among, Ordered, Sorted}
use Rattle.ascii.proofs.Bools.{clash}
use Rattle.time.proofs.Stores.{sets_append}
use Rattle.text.specs.Lines.{part, content_lines}
use Rattle.line.specs.Reading.{value_of}
use Rattle.values.specs.TimeLists.{seconds_of}
use Rattle.values.specs.declared.times.Context.{Context}
use Rattle.values.specs.declared.times.Time.{Time}
use Rattle.index.specs.Index.{line_bytes}
use Rattle.structure.specs.Rows.{component_by}
use Rattle.overrides.specs.Lists.{some, is_empty}
use Rattle.overrides.specs.VEvents.{VEvent, is_master, is_override, has_uid, shares_uid}
use Rattle.overrides.specs.Instances.{moved_from, removed_from}
use Rattle.calendar.specs.Identities.{identity_of}
use Rattle.calendar.specs.Meaning.{vevent_of}
use Rattle.identities.specs.LinkRows.{link_at}
use Rattle.values.specs.declared.given.Given.{Given}
use Rattle.identities.specs.declared.RecurrenceId.{RecurrenceId}
use Rattle.identities.specs.declared.rows.Link.{Link}
use Rattle.series.specs.Identities.{UidTies}
use Rattle.series.specs.VEventRows.{vevents_before}
use Rattle.series.specs.Beside.{excluded_at}
use Rattle.series.specs.Moved.{moved_by, MovedStored}
use Rattle.series.specs.Removed.{Takeable, SecondsStored, SecondsOrdered, moved_at, removed_at}
use Rattle.series.proofs.UidLaws.{or_nothing}
use Rattle.series.proofs.MasterLaws.{master_by, override_one, override_several}

-- ---- seconds copied

-- ---- what overrides name

-- one without RECURRENCE-ID names nothing
named_by : (ts : List Time) (b : Bool) → cond (not (is_empty ts) && b) (seconds_of ts) [] ≡ cond b (seconds_of ts) []
unfolding is_empty seconds_of
named_by [] true = refl
named_by [] false = refl
named_by (t ∷ ts) b = refl

module _ (v : VEvent) where
  moved_one : (u : List ℕ) → v.uids ≡ u ∷ [] → (ws : List VEvent) → moved_from v ws ≡ moved_by u ws
  unfolding moved_from moved_by is_override is_master shares_uid some
  moved_one u h [] = refl
  moved_one u h (w ∷ ws) =
      ap (λ (l : List ℕ). cond (is_override w && shares_uid v w) (seconds_of w.recurrence_ids) [] ++ l) (moved_one u h ws)
      ∙ ap (λ (l : List ℕ). l ++ moved_by u ws)
      (named_by w.recurrence_ids (shares_uid v w)
      ∙ ap (λ (b : Bool). cond b (seconds_of w.recurrence_ids) []) (ap (some (λ x. has_uid x w)) h ∙ sym (or_nothing (has_uid u w))))

  moved_none : v.uids ≡ [] → (ws : List VEvent) → moved_from v ws ≡ []
  unfolding moved_from is_override is_master shares_uid some
  moved_none h [] = refl
  moved_none h (w ∷ ws) =
      ap (λ (l : List ℕ). cond (is_override w && shares_uid v w) (seconds_of w.recurrence_ids) [] ++ l) (moved_none h ws)
      ∙ append-nil (cond (is_override w && shares_uid v w) (seconds_of w.recurrence_ids) [])
      ∙ named_by w.recurrence_ids (shares_uid v w)
      ∙ ap (λ (b : Bool). cond b (seconds_of w.recurrence_ids) []) (ap (some (λ x. has_uid x w)) h)

nothing_stored : {xs : List ℕ} (o : List ℕ) (n : ℕ) → n ≤ length o → xs ≡ [] → SecondsStored xs o n o n
nothing_stored o n l e = rw e (record { stored = refl; counted = omega arith; within = l })

module _ {c : Context} {s index rows links exceptions : List ℕ} {k m : ℕ} (g : Takeable c s index rows links exceptions k m) {y : Given ℕ} (q : y ≡ (link_at links k).uid) where
  uid_by : {z : Given ℕ} → y ≡ z → UidTies s z (identity_of c (component_by s rows k)).uids
  uid_by e = subst (λ (w : Given ℕ). UidTies s w (identity_of c (component_by s rows k)).uids) (sym q ∙ e) ((g.tied.each k g.there).uids g.is_event_holds).uid_ties

  pub stored_none : (o : List ℕ) (n : ℕ) → n + m ≤ length o → y ≡ Given.None → SecondsStored (moved_at c s rows k m) o n o n
  unfolding moved_at vevent_of
  stored_none o n l e = nothing_stored o n (omega arith) (moved_none (vevent_of c (component_by s rows k)) (uid_by e) (vevents_before c s rows m))

  pub stored_several : (o : List ℕ) (n : ℕ) → y ≡ Given.Several → SecondsStored (moved_at c s rows k m) o n o n
  stored_several o n e = clash (uid_by e) g.one_uid

  pub stored_there : {i : ℕ} → y ≡ Given.One i → (1 ≤ i) × (i ≤ length (content_lines s))
  stored_there e = let z = uid_by e in (z.0, z.1)

  pub stored_one : {i : ℕ} → y ≡ Given.One i → {u o o' : List ℕ} {n r : ℕ} → n + m ≤ length o → u ≡ value_of (line_bytes s (i - 1)) → MovedStored c s rows m u o n o' r
      → SecondsStored (moved_at c s rows k m) o n o' r
  unfolding moved_at vevent_of
  stored_one e {u} {o} {o'} {n} {r} l p d =
      let z : moved_from (vevent_of c (component_by s rows k)) (vevents_before c s rows m) ≡ moved_by u (vevents_before c s rows m) =
      moved_one (vevent_of c (component_by s rows k)) u ((uid_by e).3 ∙ ap (λ (x : List ℕ). x ∷ []) (sym p)) (vevents_before c s rows m)
      in
      record { stored = d.stored ∙ sym (ap (sets o n) z); counted = d.counted ∙ sym (ap (λ (l : List ℕ). n + length l) z); within = omega (arith, d.within, l) }

-- ---- all that is taken away

module _ {c : Context} {s index rows links exceptions : List ℕ} {k m : ℕ} (g : Takeable c s index rows links exceptions k m) {l : Link} (q : l ≡ link_at links k) where
  pub part_there : (l.from ≤ l.to) × (l.to ≤ length exceptions)
  part_there = subst (λ (x : Link). (x.from ≤ x.to) × (x.to ≤ length exceptions)) (sym q) (g.order, g.inside)

  pub part_room : {n : ℕ} → (link_at links k).to - (link_at links k).from + m ≤ n → l.to - l.from + m ≤ n
  part_room {n} h = subst (λ (x : Link). x.to - x.from + m ≤ n) (sym q) h

  pub uid_same : l.uid ≡ (link_at links k).uid
  uid_same = ap (λ (x : Link). x.uid) q

  removed_of : {b : Bool} → is_master (vevent_of c (component_by s rows k)) ≡ b
      → removed_at c s rows k m ≡ cond b (seconds_of (identity_of c (component_by s rows k)).exceptions ++ moved_at c s rows k m) []
  unfolding removed_at removed_from moved_at vevent_of
  removed_of h = ap (λ (b : Bool). cond b (seconds_of (identity_of c (component_by s rows k)).exceptions ++ moved_from (vevent_of c (component_by s rows k)) (vevents_before c s rows m)) []) h

  pub removed_override : {t : RecurrenceId} (o : List ℕ) → l.recurrence ≡ Given.One t → SecondsStored (removed_at c s rows k m) o 0 o 0
  removed_override o e = nothing_stored o 0 (omega arith) (removed_of (override_one (g.tied.each k g.there) q g.is_event_holds e))

  pub removed_several : (o : List ℕ) → l.recurrence ≡ Given.Several → SecondsStored (removed_at c s rows k m) o 0 o 0
  removed_several o e = nothing_stored o 0 (omega arith) (removed_of (override_several (g.tied.each k g.there) q g.is_event_holds e))

  pub part_long : length (part exceptions l.from l.to) ≡ l.to - l.from
  part_long = simp (length-take, length-drop) (omega (arith, part_there))

  pub removed_master : {o o' o'' : List ℕ} {r : ℕ} → l.recurrence ≡ Given.None → o' ≡ sets o 0 (part exceptions l.from l.to)
      → SecondsStored (moved_at c s rows k m) o' (l.to - l.from) o'' r → SecondsStored (removed_at c s rows k m) o 0 o'' r
  unfolding excluded_at
  removed_master {o} {o'} {o''} {r} e p d =
      let xs = part exceptions l.from l.to in
      let moves = moved_at c s rows k m in
      let same : xs ≡ seconds_of (identity_of c (component_by s rows k)).exceptions = ap (λ (x : Link). part exceptions x.from x.to) q ∙ g.excluded in
      let all : removed_at c s rows k m ≡ xs ++ moves =
      removed_of (master_by (g.tied.each k g.there) q g.is_event_holds e) ∙ ap (λ (y : List ℕ). y ++ moves) (sym same)
      in
      let z : 0 + (l.to - l.from) ≡ l.to - l.from = omega arith in
      record {
        stored =
            d.stored
            ∙ ap (λ (y : List ℕ). sets y (l.to - l.from) moves) p
            ∙ ap (λ (i : ℕ). sets (sets o 0 xs) i moves) (sym z)
            ∙ sets_append o xs moves 0 (l.to - l.from) part_long
            ∙ sym (ap (sets o 0) all);
        counted = omega (arith, d.counted, ap length all, length-append xs moves, part_long);
        within = omega (arith, d.within, ap length p, length-sets o 0 xs);
      }

-- ---- put in order

module _ {xs o o' : List ℕ} {n : ℕ} (d : SecondsStored xs o 0 o' n) where
  pub stored_long : length o' ≡ length o
  stored_long = ap length d.stored ∙ length-sets o 0 xs

  pub stored_fits : n ≤ length o'
  stored_fits = omega (arith, d.within, stored_long)

  pub front_long : length (take n o') ≡ n
  front_long = length-take-le n o' stored_fits

  front_is : take n o' ≡ xs
  front_is =
      let z : 0 + length xs ≤ length o = omega (arith, d.counted, d.within) in
      ap (take n) (d.stored ∙ sets-eq xs o 0 z) ∙ take_at xs (drop (0 + length xs) o) n (omega (arith, d.counted))

  module _ {p : List ℕ} (w : Sorted (take n o') p) where
    pub ordered_long : length (p ++ drop n o') ≡ length o
    ordered_long = length_front o' p n w.long ∙ stored_long

    pub ordered_front : SecondsOrdered xs (p ++ drop n o') n
    ordered_front =
        let there : take n (p ++ drop n o') ≡ p = take_at p (drop n o') n (w.long ∙ front_long) in
        record {
          counted = omega (arith, d.counted);
          within = omega (arith, ordered_long, d.within);
          ordered = subst Ordered (sym there) w.ordered;
          same = λ x. ap (among x) there ∙ w.same x ∙ ap (among x) front_is;
        }
