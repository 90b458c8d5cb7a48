-- What was gathered of an event's lines decides which rules of R-3 it breaks by itself.
use Rattle.std.specs.Prelude.{Some}
use Prim.Native.Nat.{ℕ}
use mathlib.Core.Path.{◌≡◌, refl, sym, ap, ◌∙◌}
use mathlib.Core.Bool.{Bool, true, false, cond, not, ◌&&◌, ◌||◌, or_assoc, or-false}
use mathlib.Core.List.{List, [], ◌∷◌}
use borrow.Author.Tests.{eqb-true, eqb-false}
use Rattle.ascii.proofs.Bools.{clash}
use Rattle.time.specs.declared.date_time.Kind.{Kind}
use Rattle.values.specs.TimeLists.{kind_number, same_kind, with_kind, with_kinds}
use Rattle.values.specs.declared.times.Time.{Time}
use Rattle.values.specs.declared.time_lists.Kinds.{Kinds}
use Rattle.events.specs.declared.Event.{Event}
use Rattle.overrides.specs.Lists.{some, is_empty, two_or_more}
use Rattle.overrides.specs.VEvents.{VEvent, is_master, is_override}
use Rattle.overrides.specs.Rules.{has_rule, other_kind, override_breaks, event_breaks, breaks_alone}
use Rattle.calendar.specs.Identities.{Identity}
use Rattle.values.specs.declared.given.Given.{Given}
use Rattle.identities.specs.declared.RecurrenceId.{RecurrenceId}
use Rattle.identities.specs.declared.IdentityRead.{IdentityRead}
use Rattle.series.specs.Identities.{UidTies, RecurrenceTies, Ties}
use Rattle.contents.specs.Alone.{several_uids, no_uid, other_kinds, some_kinds, override_by, alone_by}

-- ---- the kinds of exceptions

-- one kind beside another: both are this kind, or not
two_kinds : (i j k : Kind) (t u v : Bool) → same_kind i j ≡ t → same_kind i k ≡ u → same_kind j k ≡ v → other_kinds (cond t (Kinds.One i) Kinds.Several) k ≡ (not u || not v)
unfolding other_kinds same_kind
two_kinds i j k true true true p q r = ap not q
two_kinds i j k true true false p q r =
    absurd (eqb-false (kind_number j) (kind_number k) r (sym (eqb-true (kind_number i) (kind_number j) p) ∙ eqb-true (kind_number i) (kind_number k) q))
two_kinds i j k true false v p q r = ap not q
two_kinds i j k false true true p q r =
    absurd (eqb-false (kind_number i) (kind_number j) p (eqb-true (kind_number i) (kind_number k) q ∙ sym (eqb-true (kind_number j) (kind_number k) r)))
two_kinds i j k false true false p q r = refl
two_kinds i j k false false v p q r = refl

-- one more kind
kind_more : (ks : Kinds) (j k : Kind) → other_kinds (with_kind ks j) k ≡ (other_kinds ks k || not (same_kind j k))
unfolding other_kinds with_kind
kind_more Kinds.None j k = refl
kind_more (Kinds.One i) j k = two_kinds i j k (same_kind i j) (same_kind i k) (same_kind j k) refl refl refl
kind_more Kinds.Several j k = refl

kinds_more : (e : Event) (ks : Kinds) (ts : List Time) → other_kinds (with_kinds ks ts) e.kind ≡ (other_kinds ks e.kind || some (λ t. other_kind e t.kind) ts)
unfolding with_kinds some other_kind
kinds_more e ks [] = sym (or-false (other_kinds ks e.kind))
kinds_more e ks (t ∷ ts) =
    kinds_more e (with_kind ks t.kind) ts
    ∙ ap (λ (b : Bool). b || some (λ t. other_kind e t.kind) ts) (kind_more ks t.kind e.kind)
    ∙ or_assoc (other_kinds ks e.kind) (not (same_kind t.kind e.kind)) (some (λ t. other_kind e t.kind) ts)

given_more : (ks : Kinds) (k : Kind) → some_kinds (with_kind ks k) ≡ true
unfolding some_kinds with_kind
given_more Kinds.None k = refl
given_more (Kinds.One j) k = go (same_kind j k)
  where
    go : (b : Bool) → some_kinds (cond b (Kinds.One j) Kinds.Several) ≡ true
    go true = refl
    go false = refl
given_more Kinds.Several k = refl

some_more : (ks : Kinds) (ts : List Time) → some_kinds ks ≡ true → some_kinds (with_kinds ks ts) ≡ true
unfolding with_kinds
some_more ks [] h = h
some_more ks (t ∷ ts) h = some_more (with_kind ks t.kind) ts (given_more ks t.kind)

kinds_given : (ts : List Time) → some_kinds (with_kinds Kinds.None ts) ≡ not (is_empty ts)
unfolding with_kinds some_kinds is_empty with_kind
kinds_given [] = refl
kinds_given (t ∷ ts) = some_more (Kinds.One t.kind) ts refl

-- ---- UID and RECURRENCE-ID

two_some : {A : Type 0} (xs : List A) → two_or_more xs ≡ true → is_empty xs ≡ false
unfolding two_or_more is_empty
two_some [] h = clash h refl
two_some (x ∷ xs) h = refl

either_true : (a b c : Bool) → (a || true || b || c) ≡ true
either_true true b c = refl
either_true false b c = refl

several_uids_lem : (s : List ℕ) (g : Given ℕ) (us : List (List ℕ)) → UidTies s g us → several_uids g ≡ two_or_more us
unfolding several_uids two_or_more
several_uids_lem s Given.None us e = sym (ap two_or_more e)
several_uids_lem s (Given.One n) us e = sym (ap two_or_more e.3)
several_uids_lem s Given.Several us e = sym e

no_uids : (s : List ℕ) (g : Given ℕ) (us : List (List ℕ)) → UidTies s g us → no_uid g ≡ is_empty us
unfolding no_uid is_empty
no_uids s Given.None us e = sym (ap is_empty e)
no_uids s (Given.One n) us e = sym (ap is_empty e.3)
no_uids s Given.Several us e = sym (two_some us e)

-- ---- all

module _ (s : List ℕ) (y : IdentityRead) (i : Identity) (h : Ties s y i) (n : ℕ) (e : Event) where
  abbrev v : VEvent
  v = record { begin = n; uids = i.uids; recurrence_ids = i.recurrence_ids; exceptions = i.exceptions; event = Some e }

  override_by_holds : (g : Given RecurrenceId) (ts : List Time) → RecurrenceTies g ts
      → override_by g y.uid y.kinds (has_rule e.repeat) ≡ (not (is_empty ts) && (is_empty i.uids || two_or_more ts || not (is_empty i.exceptions) || has_rule e.repeat))
  unfolding override_by is_empty two_or_more
  override_by_holds Given.None ts q = sym (ap (λ (x : List Time). not (is_empty x) && (is_empty i.uids || two_or_more x || not (is_empty i.exceptions) || has_rule e.repeat)) q)
  override_by_holds (Given.One t) ts q =
      ap (λ (b : Bool). b || some_kinds y.kinds || has_rule e.repeat) (no_uids s y.uid i.uids h.uid_ties)
      ∙ ap (λ (b : Bool). is_empty i.uids || b || has_rule e.repeat) (ap some_kinds h.kinds_are ∙ kinds_given i.exceptions)
      ∙ sym (ap (λ (b : Bool). b || not (is_empty i.exceptions) || has_rule e.repeat) (or-false (is_empty i.uids)))
      ∙ sym (ap (λ (x : List Time). not (is_empty x) && (is_empty i.uids || two_or_more x || not (is_empty i.exceptions) || has_rule e.repeat)) q.alone)
  override_by_holds Given.Several ts q =
      sym
      (ap (λ (b : Bool). not b && (is_empty i.uids || two_or_more ts || not (is_empty i.exceptions) || has_rule e.repeat)) (two_some ts q)
      ∙ ap (λ (b : Bool). is_empty i.uids || b || not (is_empty i.exceptions) || has_rule e.repeat) q
      ∙ either_true (is_empty i.uids) (not (is_empty i.exceptions)) (has_rule e.repeat))

  -- what was gathered decides it
  pub alone_tied : alone_by y e ≡ breaks_alone v
  unfolding alone_by breaks_alone event_breaks is_override is_master override_breaks other_kinds
  alone_tied =
      ap (λ (b : Bool). b || other_kinds y.kinds e.kind || override_by y.recurrence y.uid y.kinds (has_rule e.repeat)) (several_uids_lem s y.uid i.uids h.uid_ties)
      ∙ ap (λ (b : Bool). two_or_more i.uids || b || override_by y.recurrence y.uid y.kinds (has_rule e.repeat))
      (ap (λ (ks : Kinds). other_kinds ks e.kind) h.kinds_are ∙ kinds_more e Kinds.None i.exceptions)
      ∙ ap (λ (b : Bool). two_or_more i.uids || some (λ t. other_kind e t.kind) i.exceptions || b) (override_by_holds y.recurrence i.recurrence_ids h.recurrence_ties)
      ∙ or_assoc (two_or_more i.uids) (some (λ t. other_kind e t.kind) i.exceptions) _
