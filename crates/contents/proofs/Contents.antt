-- Laws of reading the components right below VCALENDAR: what one adds, and how those before a row and those from it on make the whole.
use Rattle.std.specs.Prelude.{Err, None, Ok, Option, Result, Some}
use Prim.Native.Nat.{ℕ, ◌+◌, ◌*◌, ◌-◌, ◌≤◌, ◌<◌}
use Rattle.nesting.specs.declared.StructureError.{StructureError}
use Rattle.calendar.specs.declared.LineError.{LineError}
use Rattle.std.specs.Result.{IsErrAnd}
use mathlib.Core.Path.{◌≡◌, refl, sym, ap, subst, ◌∙◌}
use mathlib.Core.Bool.{Bool, true, false, cond, ◌||◌}
use mathlib.Core.List.{List, [], ◌∷◌, ◌++◌, append-nil, Memᴰ}
use native.Mathlib.Omega.{arith}
use borrow.Author.Tests.{ltb-true, ltb-false}
use lib.Dec.{ltb}
use lib.ListN.{length, get_or}
use lib.Seq.{sets, length-sets}
use Rattle.ascii.proofs.Bools.{clash, or_by_right}
use Rattle.values.specs.declared.times.Context.{Context}
use Rattle.property.specs.Properties.{property_of, value_as, before_items, with_items, property_value_of}
use Rattle.property.specs.Facts.{Reading, unread}
use Rattle.property.specs.declared.Scope.{Scope}
use Rattle.periods.specs.BusyTypes.{BusyPeriod}
use Rattle.nesting.specs.Components.{Numbered, Component, properties_in}
use Rattle.nesting.specs.Files.{tree_in}
use Rattle.structure.specs.Rows.{numbered_line, RowOf, component_by, components_by, BelowAt, FileRows}
use Rattle.structure.specs.Reading.{StructureRead}
use Rattle.structure.proofs.ItemsLaws.{items_rise}
use Rattle.structure.proofs.RowsLaws.{components_none, NextBelow, below_next, file_kind, file_below, file_below_at}
use Rattle.events.specs.Events.{event_by, block_by, block}
use Rattle.events.specs.EntryRows.{event_row, block_row, event_at, block_at, EntryPut}
use Rattle.events.specs.declared.ComponentProperties.{ComponentProperties}
use Rattle.events.specs.declared.Event.{Event}
use Rattle.events.specs.declared.Block.{Block}
use Rattle.events.proofs.EntryRows.{event_put, block_put, event_kept, block_kept}
use Rattle.calendar.specs.Checks.{rule_else}
use Rattle.calendar.specs.Checks.{fault_else}
use Rattle.calendar.specs.Meaning.{component_scope, fault_or, fault_in, value_fault, event_of, block_of, block_broken, broken_or, block_periods, removed_from, event_entry, block_entry, entry_of, entries_among, entries_of, components_of, file_lines, structure_fault, structure_refusal}
use Rattle.calendar.proofs.Meaning.{structure_refusal_lem, no_refusal}
use Rattle.calendar.specs.declared.Refusal.{Refusal}
use Rattle.calendar.proofs.Checks.{fault_in_else}
use Rattle.pieces.specs.BusyPeriods.{stated_periods, gathered}
use Rattle.pieces.specs.Pieces.{pieces_of}
use Rattle.pieces.specs.Columns.{Stored, Room}
use Rattle.pieces.proofs.BusyPeriods.{gathered_append}
use Rattle.pieces.proofs.Columns.{stored_none, stored_as, stored_few}
use Rattle.pieces.proofs.Pieces.{pieces_of_none, pieces_of_append}
use Rattle.component_lines.specs.Lines.{together, lines_fault, LinesGood}
use Rattle.text.specs.Lines.{part}
use Rattle.values.specs.TimeLists.{seconds_of}
use Rattle.values.specs.declared.times.Time.{Time}
use Rattle.overrides.specs.Rules.{breaks_alone, event_breaks}
use Rattle.overrides.specs.Lists.{two_or_more}
use Rattle.time.specs.Limits.{last_second}
use Rattle.identities.specs.LinkRows.{UidSmall, RecurrenceSmall, link_row, link_at, LinkPut}
use Rattle.values.specs.declared.given.Given.{Given}
use Rattle.identities.specs.declared.RecurrenceId.{RecurrenceId}
use Rattle.calendar.proofs.Identities.{identity_small}
use Rattle.identities.specs.declared.IdentityRead.{IdentityRead}
use Rattle.identities.specs.declared.rows.Link.{Link}
use Rattle.identities.proofs.LinkRows.{link_put, link_kept}
use Rattle.calendar.specs.Identities.{exceptions_by, exceptions_in, identity_in, identity_of}
use Rattle.calendar.specs.Passes.{broken_alone, alone_fault}
use Rattle.calendar.specs.Meaning.{vevent_of}
use Rattle.series.specs.Identities.{UidTies, RecurrenceTies, Ties}
use Rattle.component_lines.specs.Identities.{excluded_in, LinesTie}
use Rattle.series.proofs.MasterLaws.{one_second}
use Rattle.contents.specs.Alone.{alone_by}
use Rattle.series.specs.LinkRows.{gathered_in, link_from, LinkStands}
use Rattle.contents.specs.Contents.{component_fault, stated_in, seconds_in, EntryStands, Linked, ExcludedRoom, IdentitySmall, EventEntered, EntryTerms, EntryGood, EntryBroken, EntryIs, entry_good, entry_broken, entry_refused, ContentsAre, contents_read, contents_refused}
use Rattle.contents.specs.declared.EntryRead.{EntryRead}
use Rattle.contents.specs.declared.ContentsRead.{ContentsRead}
use Rattle.component_lines.proofs.LinesStoring.{Left, left_start, left_then, left_none}
use Rattle.component_lines.proofs.Lines.{periods_event, periods_block}
use Rattle.contents.proofs.AloneLaws.{alone_tied}
use Rattle.contents.proofs.ExcludedLaws.{part_kept, part_here}
use Rattle.contents.proofs.RowKinds.{row_event, row_block, scopes_apart}

-- ---- the periods that entries state

event_stated : (r : Option Event) (g h : List ℕ) → gathered stated_periods (event_entry r g) ≡ gathered stated_periods (event_entry r h)
unfolding gathered stated_periods
event_stated (Some e) g h = refl
event_stated None g h = refl

-- beside whatever components
any_stated : (c : Context) (all : List Component) (o : Scope) (x : Component) → gathered stated_periods (entry_of c all o x) ≡ gathered stated_periods (entry_of c [] o x)
unfolding entry_of
any_stated c all Scope.Event x = event_stated (event_of c x) (removed_from c all x) (removed_from c [] x)
any_stated c all Scope.FreeBusy x = refl
any_stated c all Scope.Other x = refl

event_states_any : (r : Option Event) (gone : List ℕ) → gathered stated_periods (event_entry r gone) ≡ []
unfolding gathered stated_periods
event_states_any (Some e) gone = refl
event_states_any None gone = refl

block_states : (k : Block) (ps : List BusyPeriod) → gathered stated_periods (block k ps ∷ []) ≡ ps
unfolding gathered stated_periods
block_states k ps = append-nil ps

-- those of components in file order
unfoldable pub all_stated : Context → List Component → List BusyPeriod
all_stated c [] = []
all_stated c (x ∷ xs) = stated_in c x ++ all_stated c xs

among_stated : (c : Context) (all ks : List Component) → gathered stated_periods (entries_among c all ks) ≡ all_stated c ks
unfolding entries_among gathered all_stated stated_in
among_stated c all [] = refl
among_stated c all (k ∷ ks) =
    gathered_append stated_periods (entry_of c all (component_scope k) k) (entries_among c all ks)
    ∙ ap (λ (l : List BusyPeriod). l ++ gathered stated_periods (entries_among c all ks)) (any_stated c all (component_scope k) k)
    ∙ ap (λ (l : List BusyPeriod). gathered stated_periods (entry_of c [] (component_scope k) k) ++ l) (among_stated c all ks)

-- the fault of its lines is that of the component
pub lines_fault_lem : (c : Context) (x : Component) {o : Scope} {f : Result (Unit {0}) LineError} → component_scope x ≡ o → lines_fault c o (properties_in x.items) ≡ f → component_fault c x ≡ f
unfolding component_fault
lines_fault_lem c x w h = ap (λ (o : Scope). lines_fault c o (properties_in x.items)) w ∙ h

-- ---- links

uid_fits : (s : List ℕ) (g : Given ℕ) (us : List (List ℕ)) → UidTies s g us → UidSmall g
uid_fits s Given.None us h = tt
uid_fits s (Given.One n) us h = omega (arith, h.2)
uid_fits s Given.Several us h = tt

recurrence_fits : (g : Given RecurrenceId) (ts : List Time) → ((t : Time) → Memᴰ t ts → t.second ≤ last_second) → RecurrenceTies g ts → RecurrenceSmall g
recurrence_fits Given.None ts f h = tt
recurrence_fits (Given.One r) ts f h = omega (arith, one_second h f)
recurrence_fits Given.Several ts f h = tt

-- what the lines tell of links and excluded seconds, as that of the component
module _ {c : Context} {s index : List ℕ} (x : Component) {o : Scope} (w : component_scope x ≡ o) {stop : ℕ} {e : List ℕ} {h : ℕ} {e' : List ℕ} {y : IdentityRead}
    (z : LinesTie c o s index (properties_in x.items) e h e' stop y) where
  seconds_as : excluded_in c o (properties_in x.items) ≡ seconds_in c x
  unfolding seconds_in
  seconds_as = ap (λ (v : Scope). excluded_in c v (properties_in x.items)) (sym w)

  -- what was gathered of an event fits a row
  pub identity_fits : o ≡ Scope.Event → length e ≤ 65536 → h ≤ length e → IdentitySmall y h
  unfolding IdentitySmall link_from identity_of
  identity_fits v short few t =
      record {
        uid_small = uid_fits s y.uid _ (z.ties v).uid_ties;
        recurrence_small = recurrence_fits y.recurrence _ (identity_small c x).moved_small (z.ties v).recurrence_ties;
        from_small = omega arith;
        to_small = omega (arith, z.few);
      }

  -- where no link was put
  pub unlinked : (k : ℕ) (entries links : List ℕ) → (o ≡ Scope.Event → ⊥) → Linked c s index x k stop e h e' y.held entries links links
  unlinked k entries links n =
      record {
        kept = λ j l. refl;
        excluded = z.excluded ∙ ap (sets e h) seconds_as;
        counted = z.counted ∙ ap (λ (l : List ℕ). h + length l) seconds_as;
        room = z.room;
        few = z.few;
        event = λ v. absurd (n (sym w ∙ v));
      }

  -- where that of an event was
  pub linked : (k : ℕ) (t : Bool) {entries links links' : List ℕ} → o ≡ Scope.Event → LinkPut links k (link_row (link_from y h t)) links' → t ≡ breaks_alone (vevent_of c x)
      → (t ≡ false → event_of c x ≡ Some (event_at entries k)) → Linked c s index x k stop e h e' y.held entries links links'
  unfolding link_from identity_of
  linked k t v p b q =
      let put = link_put (link_from y h t) p in
      record {
        kept = λ j l. link_kept j p l;
        excluded = z.excluded ∙ ap (sets e h) seconds_as;
        counted = z.counted ∙ ap (λ (l : List ℕ). h + length l) seconds_as;
        room = z.room;
        few = z.few;
        event = λ _.
            record {
              ties = subst (λ (l : Link). Ties s (gathered_in l) (identity_in c (properties_in x.items))) (sym put) (z.ties v);
              from_is = ap (λ (l : Link). l.from) put;
              to_is = ap (λ (l : Link). l.to) put;
              broken_is = ap (λ (l : Link). l.broken) put ∙ b;
              event_is = λ f. q (sym (ap (λ (l : Link). l.broken) put) ∙ f);
            };
      }

-- what is answered, by whether it is broken
abbrev entry_answer : IdentityRead → ℕ → Bool → EntryRead
entry_answer y m t = record { count = cond t None (Some m); held = y.held }

-- whether it was told broken, or not
module _ (e : Event) (y : IdentityRead) {entries links : List ℕ} {k : ℕ} (from : ℕ) {entries' links' : List ℕ} (t : Bool)
    (p : EntryPut entries k (event_row e) entries') (q : LinkPut links k (link_row (link_from y from t)) links') (a : t ≡ alone_by y e) where
  link_told : LinkPut links k (link_row (link_from y from (alone_by y e))) links'
  link_told = subst (λ (u : Bool). LinkPut links k (link_row (link_from y from u)) links') a q

  pub entered_broken : {m : ℕ} → t ≡ true → EventEntered entries links k e y from m entries' links' (record { count = None; held = y.held })
  entered_broken {m} b =
      record { put = p; linked = link_told; answer = ap (entry_answer y m) (sym b ∙ a) }

  pub entered_good : {m : ℕ} → t ≡ false → EventEntered entries links k e y from m entries' links' (record { count = Some m; held = y.held })
  entered_good {m} b =
      record { put = p; linked = link_told; answer = ap (entry_answer y m) (sym b ∙ a) }

-- ---- an event

module _ (c : Context) (s index : List ℕ) (x : Component) (w : component_scope x ≡ Scope.Event) where
  module _ {a b : ℕ} {o : List ℕ} {n : ℕ} {o₁ : List ℕ} {g : ComponentProperties} {m₁ : ℕ} {stop : ℕ} {e₀ : List ℕ} {held : ℕ} {e₁ : List ℕ} {y : IdentityRead}
      (h : LinesGood c Scope.Event (properties_in x.items) a b o n o₁ g m₁) (z : LinesTie c Scope.Event s index (properties_in x.items) e₀ held e₁ stop y)
      {v : Option Event} (q : v ≡ event_by g) where
    event_read : v ≡ event_of c x
    unfolding event_of together
    event_read = q ∙ ap event_by h.say

    -- it breaks a rule by itself: one of its own properties, or of what ties it to others
    alone_broken : v ≡ None → true ≡ breaks_alone (vevent_of c x)
    unfolding breaks_alone event_breaks vevent_of
    alone_broken t =
        sym
        (ap (λ (u : Option Event). two_or_more (identity_of c x).uids || event_breaks (vevent_of c x) u) (sym event_read ∙ t)
        ∙ or_by_right (two_or_more (identity_of c x).uids) refl)

    alone_by_lem : (e : Event) → v ≡ Some e → alone_by y e ≡ breaks_alone (vevent_of c x)
    unfolding vevent_of identity_of
    alone_by_lem e t =
        alone_tied s y (identity_in c (properties_in x.items)) (z.ties refl) x.begin.number e
        ∙ ap
        (λ (u : Option Event).
        breaks_alone
        (record {
          begin = x.begin.number;
          uids = (identity_in c (properties_in x.items)).uids;
          recurrence_ids = (identity_in c (properties_in x.items)).recurrence_ids;
          exceptions = (identity_in c (properties_in x.items)).exceptions;
          event = u;
        }))
        (sym t ∙ event_read)

    states_nothing : stated_in c x ≡ []
    unfolding stated_in entry_of
    states_nothing =
        ap (λ (o : Scope). gathered stated_periods (entry_of c [] o x)) w ∙ event_states_any (event_of c x) (removed_from c [] x)

    event_stands : (e : Event) {k : ℕ} {old new : List ℕ} → v ≡ Some e → EntryPut old k (event_row e) new → EntryStands c x k old new
    event_stands e {k} {old} {new} t p =
        record {
          event = λ _. sym event_read ∙ t ∙ ap Some (sym (event_put e p));
          block = λ u. scopes_apart Scope.Event Scope.FreeBusy (λ i. omega (arith, i)) w u;
          events_kept = λ j l. event_kept j p l;
          blocks_kept = λ j l. block_kept j p l;
        }

    -- the lines of an event have no pieces of their own
    lines_none : Stored o n [] o₁ m₁
    lines_none = stored_as h.stored (ap (pieces_of a b) (periods_event c (properties_in x.items)) ∙ pieces_of_none a b)

    broken_as : (t : Bool) → t ≡ breaks_alone (vevent_of c x) → broken_alone c (component_scope x) x ≡ t
    unfolding broken_alone
    broken_as t u = ap (λ (o : Scope). broken_alone c o x) w ∙ sym u

    module _ (e : Event) (t : v ≡ Some e) {k : ℕ} {entries entries' links links' : List ℕ} {r : EntryRead}
        (d : EventEntered entries links k e y held m₁ entries' links' r) where
      stands_here : EntryStands c x k entries entries'
      stands_here = event_stands e t d.put

      linked_here : Linked c s index x k stop e₀ held e₁ y.held entries' links links'
      linked_here = linked x w z k (alone_by y e) refl d.linked (alone_by_lem e t) (λ _. stands_here.event w)

      pub event_entered : EntryIs c s index x k stop a b n held (record { pieces = o; entries = entries; excluded = e₀; links = links })
          (record { pieces = o₁; entries = entries'; excluded = e₁; links = links' }) (Ok r)
      event_entered = subst (λ (z : EntryRead). EntryIs c s index x k stop a b n held (record { pieces = o; entries = entries; excluded = e₀; links = links }) (record { pieces = o₁; entries = entries'; excluded = e₁; links = links' }) (Ok z)) (sym d.answer) (go (alone_by y e) refl)
        where
          go : (u : Bool) → alone_by y e ≡ u
              → EntryIs c s index x k stop a b n held (record { pieces = o; entries = entries; excluded = e₀; links = links })
              (record { pieces = o₁; entries = entries'; excluded = e₁; links = links' }) (Ok (entry_answer y m₁ u))
          go true f =
              entry_broken refl
              (record {
                no_fault = lines_fault_lem c x w h.no_fault;
                broken = broken_as true (sym f ∙ alone_by_lem e t);
                events_kept = stands_here.events_kept;
                linked = linked_here;
              })
          go false f =
              entry_good refl
              (record {
                no_fault = lines_fault_lem c x w h.no_fault;
                unbroken = broken_as false (sym f ∙ alone_by_lem e t);
                stored = stored_as lines_none (sym (ap (pieces_of a b) states_nothing ∙ pieces_of_none a b));
                stands = stands_here;
                linked = linked_here;
              })

    pub event_broken : (k : ℕ) {entries links links' : List ℕ} → v ≡ None → LinkPut links k (link_row (link_from y held true)) links'
        → EntryIs c s index x k stop a b n held (record { pieces = o; entries = entries; excluded = e₀; links = links })
        (record { pieces = o₁; entries = entries; excluded = e₁; links = links' }) (Ok (record { count = None; held = y.held }))
    event_broken k t p =
        entry_broken refl
        (record {
          no_fault = lines_fault_lem c x w h.no_fault;
          broken = broken_as true (alone_broken t);
          events_kept = λ j l. refl;
          linked = linked x w z k true refl p (alone_broken t) (λ f. clash refl f);
        })

-- ---- a block

module _ (c : Context) (s index : List ℕ) (x : Component) (w : component_scope x ≡ Scope.FreeBusy) where
  module _ {a b : ℕ} {o : List ℕ} {n : ℕ} {o₁ : List ℕ} {g : ComponentProperties} {m₁ : ℕ} {stop : ℕ} {e₀ : List ℕ} {held : ℕ} {e₁ : List ℕ} {y : IdentityRead}
      (h : LinesGood c Scope.FreeBusy (properties_in x.items) a b o n o₁ g m₁) (z : LinesTie c Scope.FreeBusy s index (properties_in x.items) e₀ held e₁ stop y)
      {v : Option Block} (q : v ≡ block_by g) where
    block_read : v ≡ block_of c x
    unfolding block_of together
    block_read = q ∙ ap block_by h.say

    block_broken_as : (u : Option Block) → v ≡ u → broken_alone c (component_scope x) x ≡ block_broken u
    unfolding broken_alone
    block_broken_as u t = ap (λ (o : Scope). broken_alone c o x) w ∙ ap block_broken (sym block_read ∙ t)

    states_periods : (k : Block) → v ≡ Some k → stated_in c x ≡ block_periods c (properties_in x.items)
    unfolding stated_in entry_of
    states_periods k t =
        ap (λ (o : Scope). gathered stated_periods (entry_of c [] o x)) w
        ∙ ap (λ (u : Option Block). gathered stated_periods (block_entry u (block_periods c (properties_in x.items)))) (sym block_read ∙ t)
        ∙ block_states k (block_periods c (properties_in x.items))

    block_stands : (d : Block) {k : ℕ} {old new : List ℕ} → v ≡ Some d → EntryPut old k (block_row d) new → EntryStands c x k old new
    block_stands d {k} {old} {new} t p =
        record {
          event = λ u. scopes_apart Scope.FreeBusy Scope.Event (λ i. omega (arith, i)) w u;
          block = λ _. sym block_read ∙ t ∙ ap Some (sym (block_put d p));
          events_kept = λ j l. event_kept j p l;
          blocks_kept = λ j l. block_kept j p l;
        }

    no_event : Scope.FreeBusy ≡ Scope.Event → ⊥
    no_event u = scopes_apart Scope.FreeBusy Scope.Event (λ i. omega (arith, i)) refl u

    pub block_good : (d : Block) {k : ℕ} {entries entries' links : List ℕ} → v ≡ Some d → EntryPut entries k (block_row d) entries'
        → EntryIs c s index x k stop a b n held (record { pieces = o; entries = entries; excluded = e₀; links = links })
        (record { pieces = o₁; entries = entries'; excluded = e₁; links = links }) (Ok (record { count = Some m₁; held = y.held }))
    block_good d {k} {entries} {entries'} {links} t p =
        entry_good refl
        (record {
          no_fault = lines_fault_lem c x w h.no_fault;
          unbroken = block_broken_as (Some d) t;
          stored = stored_as h.stored (ap (pieces_of a b) (periods_block c (properties_in x.items) ∙ sym (states_periods d t)));
          stands = block_stands d t p;
          linked = unlinked x w z k entries' links no_event;
        })

    pub block_broken_lem : (k : ℕ) (entries links : List ℕ) → v ≡ None
        → EntryIs c s index x k stop a b n held (record { pieces = o; entries = entries; excluded = e₀; links = links })
        (record { pieces = o₁; entries = entries; excluded = e₁; links = links }) (Ok (record { count = None; held = y.held }))
    block_broken_lem k entries links t =
        entry_broken refl
        (record {
          no_fault = lines_fault_lem c x w h.no_fault;
          broken = block_broken_as None t;
          events_kept = λ j l. refl;
          linked = unlinked x w z k entries links no_event;
        })

-- ---- any other component: nothing of it is read

other_value : (c : Context) (x : Numbered) → property_value_of c Scope.Other x.line ≡ unread
unfolding property_value_of before_items property_of value_as with_items
other_value c x = refl

other_lines : (c : Context) (xs : List Numbered) → lines_fault c Scope.Other xs ≡ Ok tt
unfolding lines_fault fault_in fault_or
other_lines c [] = refl
other_lines c (x ∷ xs) = ap (λ (v : Reading). fault_or x.number v (fault_in c Scope.Other xs (Ok tt))) (other_value c x) ∙ other_lines c xs

other_excluded : (c : Context) (xs : List Numbered) → excluded_in c Scope.Other xs ≡ []
unfolding excluded_in seconds_of exceptions_by
other_excluded c [] = refl
other_excluded c (x ∷ xs) =
    ap (λ (v : Reading). seconds_of (exceptions_by c v x.line) ++ excluded_in c Scope.Other xs) (other_value c x) ∙ other_excluded c xs

module _ (c : Context) (s rows : List ℕ) (k : ℕ) (w : component_scope (component_by s rows k) ≡ Scope.Other) where
  none_excluded : seconds_in c (component_by s rows k) ≡ []
  unfolding seconds_in
  none_excluded = ap (λ (v : Scope). excluded_in c v (properties_in (component_by s rows k).items)) w ∙ other_excluded c (properties_in (component_by s rows k).items)

  other_linked : {index e : List ℕ} {held : ℕ} (entries links : List ℕ) → RowOf s rows k → ExcludedRoom s index (get_or rows (4 * k) 0) e held
      → Linked c s index (component_by s rows k) k (get_or rows (4 * k + 1) 0 - 1) e held e held entries links links
  other_linked {index} {e} {held} entries links row room =
      record {
        kept = λ j l. refl;
        excluded = sym (ap (sets e held) none_excluded);
        counted = (let z : held ≡ held + 0 = omega arith in z) ∙ sym (ap (λ (l : List ℕ). held + length l) none_excluded);
        room = λ i f g. room.room i (omega (arith, row.end, items_rise row.inner)) g;
        few = room.few;
        event = λ v. scopes_apart Scope.Other Scope.Event (λ i. omega (arith, i)) w v;
      }

  pub other_good : (a b : ℕ) {n held : ℕ} {index o entries e links : List ℕ} → RowOf s rows k → ExcludedRoom s index (get_or rows (4 * k) 0) e held
      → EntryIs c s index (component_by s rows k) k (get_or rows (4 * k + 1) 0 - 1) a b n held (record { pieces = o; entries = entries; excluded = e; links = links })
      (record { pieces = o; entries = entries; excluded = e; links = links }) (Ok (record { count = Some n; held = held }))
  unfolding component_fault broken_alone stated_in entry_of gathered
  other_good a b {n} {held} {index} {o} {entries} {e} {links} row room =
      entry_good refl
      (record {
        no_fault = ap (λ (v : Scope). lines_fault c v (properties_in (component_by s rows k).items)) w ∙ other_lines c (properties_in (component_by s rows k).items);
        unbroken = ap (λ (v : Scope). broken_alone c v (component_by s rows k)) w;
        stored = stored_as (stored_none o n) (sym (ap (λ (v : Scope). pieces_of a b (gathered stated_periods (entry_of c [] v (component_by s rows k)))) w ∙ pieces_of_none a b));
        stands =
            record {
              event = λ z. scopes_apart Scope.Other Scope.Event (λ v. omega (arith, v)) w z;
              block = λ z. scopes_apart Scope.Other Scope.FreeBusy (λ v. omega (arith, v)) w z;
              events_kept = λ j n. refl;
              blocks_kept = λ j n. refl;
            };
        linked = other_linked entries links row room;
      })

-- ---- from component to component

-- the pieces of what components state
abbrev pub pieces_in : Context → ℕ → ℕ → List Component → List BusyPeriod
pieces_in c a b ks = pieces_of a b (all_stated c ks)

no_pieces : (c : Context) (a b : ℕ) → pieces_in c a b [] ≡ []
unfolding all_stated
no_pieces c a b = pieces_of_none a b

-- the events and blocks of the rows below k stand in the column
pub record EntriesBelow (c : Context) (s rows entries : List ℕ) (k : ℕ) : Type 0 where
  pub events : (p : ℕ) → p < k → get_or rows (4 * p + 3) 0 ≡ 1 → event_of c (component_by s rows p) ≡ Some (event_at entries p)
  pub blocks : (p : ℕ) → p < k → get_or rows (4 * p + 3) 0 ≡ 2 → block_of c (component_by s rows p) ≡ Some (block_at entries p)

-- the links of the events of the rows below k stand, and their excluded seconds are among the first `held`
pub record LinksBelow (c : Context) (s rows : List ℕ) (now : EntryTerms) (held k : ℕ) : Type 0 where
  pub stands : (p : ℕ) → p < k → get_or rows (4 * p + 3) 0 ≡ 1 → LinkStands c s rows now.entries now.links now.excluded p
  pub within : (p : ℕ) → p < k → get_or rows (4 * p + 3) 0 ≡ 1 → (link_at now.links p).to ≤ held
  pub rising : (i p : ℕ) → i < p → p < k → get_or rows (4 * i + 3) 0 ≡ 1 → get_or rows (4 * p + 3) 0 ≡ 1 → (link_at now.links i).to ≤ (link_at now.links p).from

-- of all components, those from row k on are left; no value before is at fault, `rules` is the first before that breaks a rule by itself,
-- the links of those before stand, and where none breaks a rule, their pieces and rows
pub record ReadingContents (c : Context) (a b : ℕ) (s index rows o₀ : List ℕ) (m : ℕ) (now : EntryTerms) (rules : Option ℕ) (n held k : ℕ) : Type 0 where
  pub below : BelowAt s rows k m
  pub few : n ≤ 513
  pub long : Room now.pieces
  pub size : length now.entries ≡ 3072
  pub link_size : length now.links ≡ 2048
  pub room : k < m → ExcludedRoom s index (get_or rows (4 * k) 0) now.excluded held
  pub values : value_fault c (components_by s rows k m) ≡ value_fault c (components_by s rows 1 m)
  pub first_broken_holds : rule_else rules (alone_fault c (components_by s rows k m)) ≡ alone_fault c (components_by s rows 1 m)
  pub linked : LinksBelow c s rows now held k
  pub still : rules ≡ None → Left o₀ 0 (pieces_in c a b (components_by s rows 1 m)) now.pieces n (pieces_in c a b (components_by s rows k m))
  pub known : rules ≡ None → EntriesBelow c s rows now.entries k

module _ (c : Context) (a b : ℕ) {s index rows : List ℕ} (h : FileRows s index rows) where
  -- row 0 is the calendar's own
  none_before : {A : Type 0} (t p : ℕ) → 1 ≤ t → p < 1 → get_or rows (4 * p + 3) 0 ≡ t → A
  none_before t p o l q = let z : p ≡ 0 = omega arith in absurd (omega (arith, sym (subst (λ (y : ℕ). get_or rows (4 * y + 3) 0 ≡ t) z q) ∙ file_kind h))

  pub contents_start : {o entries excluded links : List ℕ} {m : ℕ} → Room o → length entries ≡ 3072 → length links ≡ 2048
      → (length s ≤ 8 * length excluded) × (length excluded ≤ 65536) → m ≡ get_or rows 2 0
      → ReadingContents c a b s index rows o m (record { pieces = o; entries = entries; excluded = excluded; links = links }) None 0 0 1
  unfolding rule_else
  contents_start {o} room size links space e =
      record {
        below = rw e (file_below_at h);
        few = omega arith;
        long = room;
        size = size;
        link_size = links;
        room = λ _. record { long = space.0; short = space.1; room = λ n l g. omega arith; few = omega arith };
        values = refl;
        first_broken_holds = refl;
        linked =
            record {
              stands = λ p l q. none_before 1 p (omega arith) l q;
              within = λ p l q. none_before 1 p (omega arith) l q;
              rising = λ i p o l d q. none_before 1 p (omega arith) l q;
            };
        still = λ _. left_start o 0 _ (omega arith) room;
        known = λ _. record { events = λ p l q. none_before 1 p (omega arith) l q; blocks = λ p l q. none_before 2 p (omega arith) l q };
      }

-- what the answer for one component says
module _ {c : Context} {s index : List ℕ} {x : Component} {k stop a b n h : ℕ} {old new : EntryTerms} {r : Result EntryRead LineError}
    (u : EntryIs c s index x k stop a b n h old new r) where
  entry_of_holds : (v : EntryRead) (m : ℕ) → r ≡ Ok v → v.count ≡ Some m → EntryGood c s index x k stop a b n h old new m v.held
  entry_of_holds v m e = go (subst (EntryIs c s index x k stop a b n h old new) e u)
    where
      go : EntryIs c s index x k stop a b n h old new (Ok v) → v.count ≡ Some m → EntryGood c s index x k stop a b n h old new m v.held
      go (entry_good {m = i} q y) w = let z : i ≡ m = cc in subst (λ (j : ℕ). EntryGood c s index x k stop a b n h old new j v.held) z y
      go (entry_broken q y) w = let z : ◌≡◌ {A = ℕ} 0 1 = cc in absurd (omega arith)

  entry_of_broken : (v : EntryRead) → r ≡ Ok v → v.count ≡ None → EntryBroken c s index x k stop h old new v.held
  entry_of_broken v e = go (subst (EntryIs c s index x k stop a b n h old new) e u)
    where
      go : EntryIs c s index x k stop a b n h old new (Ok v) → v.count ≡ None → EntryBroken c s index x k stop h old new v.held
      go (entry_good q y) w = let z : ◌≡◌ {A = ℕ} 0 1 = cc in absurd (omega arith)
      go (entry_broken q y) w = y

  entry_of_refused : (f : LineError) → r ≡ Err f → component_fault c x ≡ Err f
  entry_of_refused f e = go (subst (EntryIs c s index x k stop a b n h old new) e u)
    where
      go : EntryIs c s index x k stop a b n h old new (Err f) → component_fault c x ≡ Err f
      go (entry_refused y) = y

-- a fault is handed up as it is
pub entry_up : {c : Context} {s index : List ℕ} {x : Component} {k stop a b n h : ℕ} {old new : EntryTerms} {r : Result EntryRead LineError} {f : LineError}
    → component_fault c x ≡ Err f → IsErrAnd r (λ y. y ≡ f) → EntryIs c s index x k stop a b n h old new r
entry_up {r = Ok v} e z = absurd z
entry_up {r = Err g} e z = entry_refused (e ∙ ap Err (sym z))

pub contents_up : {c : Context} {s rows : List ℕ} {a b : ℕ} {o : List ℕ} {new : EntryTerms} {r : Result ContentsRead LineError} {f : LineError}
    → value_fault c (components_of s) ≡ Err f → IsErrAnd r (λ y. y ≡ f) → ContentsAre c s rows a b o new r
contents_up {r = Ok v} e z = absurd z
contents_up {r = Err g} e z = contents_refused (e ∙ ap Err (sym z))

seconds_append : (xs ys : List Time) → seconds_of (xs ++ ys) ≡ seconds_of xs ++ seconds_of ys
unfolding seconds_of
seconds_append [] ys = refl
seconds_append (x ∷ xs) ys = ap (λ (l : List ℕ). x.second ∷ l) (seconds_append xs ys)

event_excluded : (c : Context) (xs : List Numbered) → excluded_in c Scope.Event xs ≡ seconds_of (exceptions_in c xs)
unfolding excluded_in exceptions_in seconds_of
event_excluded c [] = refl
event_excluded c (x ∷ xs) =
    let here = exceptions_by c (property_value_of c Scope.Event x.line) x.line in
    ap (λ (l : List ℕ). seconds_of here ++ l) (event_excluded c xs) ∙ sym (seconds_append here (exceptions_in c xs))

abbrev is_rule_good : Option ℕ → Bool
is_rule_good None = true
is_rule_good (Some n) = false

-- a second one that is broken changes nothing of the first
broken_twice : (rules : Option ℕ) (i : ℕ) (r : Option ℕ) → rule_else (rule_else rules (Some i)) r ≡ rule_else rules (Some i)
unfolding rule_else
broken_twice None i r = refl
broken_twice (Some n) i r = refl

else_broken : {A : Type 0} (rules : Option ℕ) (i : ℕ) → rule_else rules (Some i) ≡ None → A
unfolding rule_else
else_broken None i e = clash (ap is_rule_good e) refl
else_broken (Some n) i e = clash (ap is_rule_good e) refl

module _ {c : Context} {a b : ℕ} {s index rows o₀ : List ℕ} {m : ℕ} {old : EntryTerms} {rules : Option ℕ} {n held k : ℕ}
    (g : ReadingContents c a b s index rows o₀ m old rules n held k) where
  module _ (l : k < m) where
    pub here : NextBelow s rows k m
    here = below_next g.below l

    abbrev x : Component
    x = component_by s rows k

    abbrev rest : List Component
    rest = components_by s rows (get_or rows (4 * k + 2) 0) m

    listed : components_by s rows k m ≡ x ∷ rest
    listed = here.here.list

    values_here : (f : Result (Unit {0}) LineError) → component_fault c x ≡ f → value_fault c (components_by s rows 1 m) ≡ fault_else f (value_fault c rest)
    unfolding value_fault component_fault lines_fault
    values_here f e =
        sym g.values
        ∙ ap (value_fault c) listed
        ∙ fault_in_else c (component_scope x) (properties_in x.items) (value_fault c rest)
        ∙ ap (λ (y : Result (Unit {0}) LineError). fault_else y (value_fault c rest)) e

    rules_here : (t : Bool) → broken_alone c (component_scope x) x ≡ t
        → rule_else rules (broken_or t (get_or rows (4 * k) 0) (alone_fault c rest)) ≡ alone_fault c (components_by s rows 1 m)
    unfolding alone_fault component_by numbered_line
    rules_here t e =
        let z : get_or rows (4 * k) 0 - 1 + 1 ≡ get_or rows (4 * k) 0 = omega (arith, here.here.row.some) in
        ap (λ (y : ℕ). rule_else rules (broken_or t y (alone_fault c rest))) (sym z)
        ∙ ap (λ (y : Bool). rule_else rules (broken_or y (get_or rows (4 * k) 0 - 1 + 1) (alone_fault c rest))) (sym e)
        ∙ ap (λ (ks : List Component). rule_else rules (alone_fault c ks)) (sym listed)
        ∙ g.first_broken_holds

    pieces_here : pieces_in c a b (components_by s rows k m) ≡ pieces_of a b (stated_in c x) ++ pieces_in c a b rest
    unfolding all_stated
    pieces_here = ap (pieces_in c a b) listed ∙ pieces_of_append a b (stated_in c x) (all_stated c rest)

    module _ (new : EntryTerms) where
      -- the rows up to the next component's stand
      known_here : EntryStands c x k old.entries new.entries → EntriesBelow c s rows old.entries k → EntriesBelow c s rows new.entries (get_or rows (4 * k + 2) 0)
      known_here u y =
          record {
            events = λ p q e. go p (ltb p k) (ltb k p) refl refl q e;
            blocks = λ p q e. gob p (ltb p k) (ltb k p) refl refl q e;
          }
        where
          go : (p : ℕ) (t v : Bool) → ltb p k ≡ t → ltb k p ≡ v → p < get_or rows (4 * k + 2) 0 → get_or rows (4 * p + 3) 0 ≡ 1
              → event_of c (component_by s rows p) ≡ Some (event_at new.entries p)
          go p true v f d q e = y.events p (ltb-true p k f) e ∙ ap Some (sym (u.events_kept p (λ z. omega (arith, ltb-true p k f))))
          go p false true f d q e = absurd (omega (arith, here.quiet p (ltb-true k p d) q, e))
          go p false false f d q e =
              let z : p ≡ k = omega (arith, ltb-false p k f, ltb-false k p d) in
              rw z (u.event (row_event here.here.row (ap (λ (w : ℕ). get_or rows (4 * w + 3) 0) refl) (subst (λ (w : ℕ). get_or rows (4 * w + 3) 0 ≡ 1) z e)))

          gob : (p : ℕ) (t v : Bool) → ltb p k ≡ t → ltb k p ≡ v → p < get_or rows (4 * k + 2) 0 → get_or rows (4 * p + 3) 0 ≡ 2
              → block_of c (component_by s rows p) ≡ Some (block_at new.entries p)
          gob p true v f d q e = y.blocks p (ltb-true p k f) e ∙ ap Some (sym (u.blocks_kept p (λ z. omega (arith, ltb-true p k f))))
          gob p false true f d q e = absurd (omega (arith, here.quiet p (ltb-true k p d) q, e))
          gob p false false f d q e =
              let z : p ≡ k = omega (arith, ltb-false p k f, ltb-false k p d) in
              rw z (u.block (row_block here.here.row (ap (λ (w : ℕ). get_or rows (4 * w + 3) 0) refl) (subst (λ (w : ℕ). get_or rows (4 * w + 3) 0 ≡ 2) z e)))

      module _ {held' : ℕ} (u : Linked c s index x k (get_or rows (4 * k + 1) 0 - 1) old.excluded held new.excluded held' new.entries old.links new.links)
          (kept : (j : ℕ) → (j ≡ k → ⊥) → event_at new.entries j ≡ event_at old.entries j) where
        same_excluded : length new.excluded ≡ length old.excluded
        same_excluded = ap (λ (l : List ℕ). length l) u.excluded ∙ length-sets old.excluded held (seconds_in c x)

        -- a link of before
        link_before : (p : ℕ) → p < k → LinkStands c s rows old.entries old.links old.excluded p → (link_at old.links p).to ≤ held
            → LinkStands c s rows new.entries new.links new.excluded p
        link_before p l v w =
            let q : link_at new.links p ≡ link_at old.links p = u.kept p (λ z. omega (arith, z)) in
            record {
              ties = subst (λ (y : Link). Ties s (gathered_in y) (identity_of c (component_by s rows p))) (sym q) v.ties;
              order = subst (λ (y : Link). y.from ≤ y.to) (sym q) v.order;
              inside = omega (arith, ap (λ (y : Link). y.to) q, v.inside, same_excluded);
              excluded =
                  ap (λ (y : Link). part new.excluded y.from y.to) q
                  ∙ ap (λ (y : List ℕ). part y (link_at old.links p).from (link_at old.links p).to) u.excluded
                  ∙ part_kept old.excluded held (seconds_in c x) (link_at old.links p).from (link_at old.links p).to v.order w
                  ∙ v.excluded;
              broken_is = ap (λ (y : Link). y.broken) q ∙ v.broken_is;
              event_is = λ f. v.event_is (sym (ap (λ (y : Link). y.broken) q) ∙ f) ∙ ap Some (sym (kept p (λ z. omega (arith, z))));
            }

        -- that of this component
        link_here : component_scope x ≡ Scope.Event → LinkStands c s rows new.entries new.links new.excluded k
        unfolding seconds_in identity_of identity_in
        link_here o =
            let v = u.event o in
            let told : seconds_in c x ≡ seconds_of (identity_of c x).exceptions =
            ap (λ (t : Scope). excluded_in c t (properties_in x.items)) o ∙ event_excluded c (properties_in x.items)
            in
            record {
              ties = v.ties;
              order = omega (arith, v.from_is, v.to_is, u.counted);
              inside = omega (arith, v.to_is, u.few, same_excluded);
              excluded =
                  ap (λ (i : ℕ). part new.excluded i (link_at new.links k).to) v.from_is
                  ∙ ap (part new.excluded held) v.to_is
                  ∙ ap (λ (y : List ℕ). part y held held') u.excluded
                  ∙ part_here old.excluded held (seconds_in c x) u.counted u.few
                  ∙ told;
              broken_is = v.broken_is;
              event_is = v.event_is;
            }

        event_here : (p : ℕ) → p ≡ k → get_or rows (4 * p + 3) 0 ≡ 1 → component_scope x ≡ Scope.Event
        event_here p z e = row_event here.here.row (ap (λ (w : ℕ). get_or rows (4 * w + 3) 0) refl) (subst (λ (w : ℕ). get_or rows (4 * w + 3) 0 ≡ 1) z e)

        links_here : LinksBelow c s rows new held' (get_or rows (4 * k + 2) 0)
        links_here =
            record {
              stands = λ p q e. go p (ltb p k) (ltb k p) refl refl q e;
              within = λ p q e. gow p (ltb p k) (ltb k p) refl refl q e;
              rising = λ i p o q d e. gor i p (ltb p k) (ltb k p) refl refl o q d e;
            }
          where
            kept_to : (i : ℕ) → i < k → (link_at new.links i).to ≡ (link_at old.links i).to
            kept_to i l = ap (λ (y : Link). y.to) (u.kept i (λ z. omega (arith, z)))

            gor : (i p : ℕ) (t v : Bool) → ltb p k ≡ t → ltb k p ≡ v → i < p → p < get_or rows (4 * k + 2) 0 → get_or rows (4 * i + 3) 0 ≡ 1 → get_or rows (4 * p + 3) 0 ≡ 1
                → (link_at new.links i).to ≤ (link_at new.links p).from
            gor i p true v f h o q d e =
                let l = ltb-true p k f in
                omega (arith, kept_to i (omega arith), ap (λ (y : Link). y.from) (u.kept p (λ z. omega (arith, z))), g.linked.rising i p o l d e)
            gor i p false true f h o q d e = absurd (omega (arith, here.quiet p (ltb-true k p h) q, e))
            gor i p false false f h o q d e =
                let z : p ≡ k = omega (arith, ltb-false p k f, ltb-false k p h) in
                let l : i < k = omega (arith, z) in
                subst (λ (w : ℕ). (link_at new.links i).to ≤ (link_at new.links w).from) (sym z)
                (omega (arith, kept_to i l, g.linked.within i l d, (u.event (event_here p z e)).from_is))

            go : (p : ℕ) (t v : Bool) → ltb p k ≡ t → ltb k p ≡ v → p < get_or rows (4 * k + 2) 0 → get_or rows (4 * p + 3) 0 ≡ 1
                → LinkStands c s rows new.entries new.links new.excluded p
            go p true v f d q e = let l = ltb-true p k f in link_before p l (g.linked.stands p l e) (g.linked.within p l e)
            go p false true f d q e = absurd (omega (arith, here.quiet p (ltb-true k p d) q, e))
            go p false false f d q e =
                let z : p ≡ k = omega (arith, ltb-false p k f, ltb-false k p d) in
                subst (LinkStands c s rows new.entries new.links new.excluded) (sym z) (link_here (event_here p z e))

            gow : (p : ℕ) (t v : Bool) → ltb p k ≡ t → ltb k p ≡ v → p < get_or rows (4 * k + 2) 0 → get_or rows (4 * p + 3) 0 ≡ 1 → (link_at new.links p).to ≤ held'
            gow p true v f d q e =
                let l = ltb-true p k f in
                omega (arith, ap (λ (y : Link). y.to) (u.kept p (λ z. omega (arith, z))), g.linked.within p l e, u.counted)
            gow p false true f d q e = absurd (omega (arith, here.quiet p (ltb-true k p d) q, e))
            gow p false false f d q e =
                let z : p ≡ k = omega (arith, ltb-false p k f, ltb-false k p d) in
                subst (λ (w : ℕ). (link_at new.links w).to ≤ held') (sym z) (omega (arith, (u.event (event_here p z e)).to_is))

        room_here : get_or rows (4 * k + 2) 0 < m → ExcludedRoom s index (get_or rows (4 * get_or rows (4 * k + 2) 0) 0) new.excluded held'
        room_here f =
            let r = g.room l in
            record {
              long = omega (arith, r.long, same_excluded);
              short = omega (arith, r.short, same_excluded);
              room = λ i d e. u.room i (omega (arith, here.later f)) e;
              few = omega (arith, u.few, same_excluded);
            }

      module _ {r : Result EntryRead LineError} (u : EntryIs c s index (component_by s rows k) k (get_or rows (4 * k + 1) 0 - 1) a b n held old new r) (long : length new.pieces ≡ length old.pieces)
          (size : length new.entries ≡ length old.entries) (link_size : length new.links ≡ length old.links) where
        pub contents_good : (v : EntryRead) (j : ℕ) {next : ℕ} → r ≡ Ok v → v.count ≡ Some j → next ≡ get_or rows (4 * k + 2) 0 → ReadingContents c a b s index rows o₀ m new rules j v.held next
        unfolding broken_or fault_else
        contents_good v j q z w =
            let y = entry_of_holds u v j q z in
            rw w
            (record {
              below = here.after;
              few = stored_few y.stored g.few;
              long = long ∙ g.long;
              size = size ∙ g.size;
              link_size = link_size ∙ g.link_size;
              room = room_here y.linked y.stands.events_kept;
              values = sym (values_here (Ok tt) y.no_fault);
              first_broken_holds = rules_here false y.unbroken;
              linked = links_here y.linked y.stands.events_kept;
              still = λ e. left_then (g.still e) pieces_here y.stored;
              known = λ e. known_here y.stands (g.known e);
            })

        pub contents_broken : (v : EntryRead) {next first : ℕ} {rules' : Option ℕ} → r ≡ Ok v → v.count ≡ None → next ≡ get_or rows (4 * k + 2) 0 → first ≡ get_or rows (4 * k) 0
            → rules' ≡ rule_else rules (Some first) → ReadingContents c a b s index rows o₀ m new rules' n v.held next
        unfolding broken_or fault_else
        contents_broken v {next} {first} {rules'} q z w p f =
            let y = entry_of_broken u v q z in
            rw (w, f)
            (record {
              below = here.after;
              few = g.few;
              long = long ∙ g.long;
              size = size ∙ g.size;
              link_size = link_size ∙ g.link_size;
              room = room_here y.linked y.events_kept;
              values = sym (values_here (Ok tt) y.no_fault);
              first_broken_holds =
                  broken_twice rules first (alone_fault c rest) ∙ ap (λ (i : ℕ). rule_else rules (Some i)) p ∙ rules_here true y.broken;
              linked = links_here y.linked y.events_kept;
              still = λ e. else_broken rules first e;
              known = λ e. else_broken rules first e;
            })

        -- a fault of a value is that of the whole
        pub contents_fault : (f : LineError) → r ≡ Err f → value_fault c (components_by s rows 1 m) ≡ Err f
        unfolding fault_else
        contents_fault f q = values_here (Err f) (entry_of_refused u f q)

-- ---- all of them

pub components_file : {s index rows : List ℕ} → FileRows s index rows → components_of s ≡ components_by s rows 1 (get_or rows 2 0)
unfolding components_of file_lines tree_in
components_file h = file_below h

rule_last : (r : Option ℕ) → rule_else r None ≡ r
unfolding rule_else
rule_last None = refl
rule_last (Some n) = refl

module _ {s index rows : List ℕ} (h : FileRows s index rows) {m : ℕ} (w : m ≡ get_or rows 2 0) where
  all_of : components_by s rows 1 m ≡ components_of s
  all_of = ap (components_by s rows 1) w ∙ sym (components_file h)

  -- a value at fault
  pub fault_told : {c : Context} {a b : ℕ} {o : List ℕ} {new : EntryTerms} {r : Result ContentsRead LineError} {f : LineError} → value_fault c (components_by s rows 1 m) ≡ Err f → IsErrAnd r (λ y. y ≡ f)
      → ContentsAre c s rows a b o new r
  fault_told {c} e = contents_up (sym (ap (value_fault c) all_of) ∙ e)

  -- no component is left
  pub contents_end : {c : Context} {a b : ℕ} {o : List ℕ} {new : EntryTerms} {rules : Option ℕ} {n held k : ℕ} → ReadingContents c a b s index rows o m new rules n held k → m ≤ k
      → ContentsAre c s rows a b o new (Ok (record { rules = rules; count = n }))
  unfolding value_fault alone_fault entries_of
  contents_end {c} {a} {b} {o} {new} {rules} {n} {held} {k} g l =
      let none : components_by s rows k m ≡ [] = components_none s rows l in
      let values : value_fault c (components_of s) ≡ Ok tt = ap (value_fault c) (sym all_of) ∙ sym g.values ∙ ap (value_fault c) none in
      let first : alone_fault c (components_of s) ≡ rules =
      ap (alone_fault c) (sym all_of) ∙ sym g.first_broken_holds ∙ ap (λ (ks : List Component). rule_else rules (alone_fault c ks)) none ∙ rule_last rules
      in
      contents_read
      (record {
        no_fault = values;
        rules_are = sym first;
        links_are =
            record {
              room = g.link_size;
              entry_room = g.size;
              stands = λ p f u. g.linked.stands p (omega (arith, w)) u;
              rising = λ i p o f u v. g.linked.rising i p o (omega (arith, w)) u v;
            };
        stored = λ e.
            let z = left_none (g.still e) (ap (pieces_in c a b) none ∙ no_pieces c a b) in
            let stated : all_stated c (components_by s rows 1 m) ≡ gathered stated_periods (entries_among c (components_of s) (components_of s)) =
            ap (all_stated c) all_of ∙ sym (among_stated c (components_of s) (components_of s))
            in
            stored_as z (ap (pieces_of a b) stated);
        entries = λ e.
            let z = g.known e in
            record { room = g.size; events = λ p f u. z.events p (omega (arith, w)) u; blocks = λ p f u. z.blocks p (omega (arith, w)) u };
      })

-- ---- refusals 6 and 7, by what reading the structure answered

module _ {u index rows : List ℕ} {x : Result (Unit {0}) StructureError} (k : StructureRead u index rows x) {f : Result (Unit {0}) Refusal} (q : f ≡ structure_refusal x) where
  pub structure_found : structure_fault u ≡ f
  structure_found = sym (structure_refusal_lem u k.structure_is) ∙ sym q

  pub structure_known : f ≡ Ok tt → FileRows u index rows
  structure_known e = k.known (no_refusal x (sym q ∙ e))
