-- Laws of how many starts overrides take away: where every VEVENT keeps the rules, each override has one master at most,
-- so all masters together lose no more than there are VEVENTs.
use Prim.Native.Nat.{ℕ, suc, ◌+◌, ◌≤◌}
use mathlib.Core.Path.{◌≡◌, refl, sym, ap, subst, ◌∙◌}
use mathlib.Core.Bool.{Bool, true, false, cond, ◌&&◌, ◌||◌}
use mathlib.Core.List.{List, [], ◌∷◌, ◌++◌, Memᴰ, append_assoc}
use native.Mathlib.Omega.{arith}
use lib.ListN.{length, length-append}
use Rattle.ascii.proofs.Bools.{and_left, and_right}
use Rattle.values.specs.TimeLists.{seconds_of}
use Rattle.values.specs.declared.times.Time.{Time}
use Rattle.overrides.specs.Lists.{some}
use Rattle.overrides.specs.VEvents.{VEvent, is_master, is_override, shares_uid, Master, SharesUid}
use Rattle.overrides.specs.Instances.{moved_from}
use Rattle.overrides.specs.Keeping.{KeepsAlone, Keeps}
use Rattle.overrides.proofs.Lists.{some_iff}
use Rattle.overrides.proofs.VEvents.{master_iff, shares_iff}
use Rattle.series.specs.Columns.{moved_count}
use Rattle.series.proofs.UidLaws.{some_append, or_nothing}

-- ---- weighing VEVENTs that pass a test by how many RECURRENCE-IDs they have

weigh : (VEvent → Bool) → List VEvent → ℕ
weigh f [] = 0
weigh f (w ∷ ws) = cond (f w) (length w.recurrence_ids) 0 + weigh f ws

-- tests that no VEVENT passes both are weighed apart
weigh_apart : (f g h : VEvent → Bool) (ws : List VEvent) → ((w : VEvent) → Memᴰ w ws → f w ≡ true → g w ≡ true → ⊥)
    → ((w : VEvent) → h w ≡ (f w || g w)) → weigh f ws + weigh g ws ≤ weigh h ws
unfolding weigh
weigh_apart f g h [] n e = omega arith
weigh_apart f g h (w ∷ ws) n e = omega (arith, go (f w) (g w) refl refl, weigh_apart f g h ws (λ x m. n x (Memᴰ.tail m)) e)
  where
    one : ℕ
    one = length w.recurrence_ids

    go : (a b : Bool) → f w ≡ a → g w ≡ b → cond (f w) one 0 + cond (g w) one 0 ≤ cond (h w) one 0
    go true true p q = absurd (n w (Memᴰ.head refl) p q)
    go true false p q = rw (e w, p, q) (omega arith)
    go false true p q = rw (e w, p, q) (omega arith)
    go false false p q = rw (e w, p, q) (omega arith)

weigh_few : (f : VEvent → Bool) (ws : List VEvent) → ((w : VEvent) → Memᴰ w ws → length w.recurrence_ids ≤ 1) → weigh f ws ≤ length ws
unfolding weigh
weigh_few f [] n = omega arith
weigh_few f (w ∷ ws) n = omega (arith, go (f w), weigh_few f ws (λ x m. n x (Memᴰ.tail m)))
  where
    go : (a : Bool) → cond a (length w.recurrence_ids) 0 ≤ 1
    go true = n w (Memᴰ.head refl)
    go false = omega arith

seconds_long : (ts : List Time) → length (seconds_of ts) ≡ length ts
unfolding seconds_of
seconds_long [] = refl
seconds_long (t ∷ ts) = ap suc (seconds_long ts)

-- what a VEVENT loses is weighed by those that share its UID
moved_weighed : (v : VEvent) (ws : List VEvent) → length (moved_from v ws) ≤ weigh (shares_uid v) ws
unfolding moved_from weigh
moved_weighed v [] = omega arith
moved_weighed v (w ∷ ws) =
    omega (arith, length-append (cond (is_override w && shares_uid v w) (seconds_of w.recurrence_ids) []) (moved_from v ws), go (is_override w) (shares_uid v w), moved_weighed v ws)
  where
    go : (a b : Bool) → length (cond (a && b) (seconds_of w.recurrence_ids) []) ≤ cond b (length w.recurrence_ids) 0
    go true true = omega (arith, seconds_long w.recurrence_ids)
    go true false = omega arith
    go false true = omega arith
    go false false = omega arith

-- ---- all masters together

taken : List VEvent → VEvent → Bool
taken before w = some (λ v. is_master v && shares_uid v w) before

-- what the rules give of a file of these VEVENTs
pub record Apart (all : List VEvent) : Type 0 where
  pub one_uid : (w : VEvent) → Memᴰ w all → length w.uids ≤ 1
  pub one_recurrence : (w : VEvent) → Memᴰ w all → length w.recurrence_ids ≤ 1
  pub masters : (b : List VEvent) (v : VEvent) (d : List VEvent) → all ≡ b ++ (v ∷ d) → Master v → (w : VEvent) → Memᴰ w b → Master w → SharesUid v w → ⊥

-- of a list of one at most all members are the same
same_member : {A : Type 0} {x y : A} (l : List A) → length l ≤ 1 → Memᴰ x l → Memᴰ y l → x ≡ y
same_member [] h m n = elim m [ ]
same_member (a ∷ []) h (Memᴰ.head p) (Memᴰ.head q) = p ∙ sym q
same_member (a ∷ []) h (Memᴰ.head p) (Memᴰ.tail m) = elim m [ ]
same_member (a ∷ []) h (Memᴰ.tail m) n = elim m [ ]
same_member (a ∷ b ∷ l) h m n = absurd (omega arith)

module _ {all : List VEvent} (g : Apart all) where
  -- no VEVENT shares a UID with two masters
  once : (b : List VEvent) (v : VEvent) (d : List VEvent) → all ≡ b ++ (v ∷ d) → is_master v ≡ true → (w : VEvent) → Memᴰ w all → taken b w ≡ true → shares_uid v w ≡ true → ⊥
  unfolding taken
  once b v d e m w i t s =
      let p = (some_iff (λ x. is_master x && shares_uid x w) b).0 t in
      let one = (shares_iff p.which w).0 (and_right (is_master p.which) _ p.passes) in
      let other = (shares_iff v w).0 s in
      let same : other.uid ≡ one.uid = same_member w.uids (g.one_uid w i) other.of_other one.of_other in
      g.masters b v d e ((master_iff v).0 m) p.which p.listed ((master_iff p.which).0 (and_left (is_master p.which) _ p.passes))
      (record { uid = one.uid; of_one = subst (λ (u : List ℕ). Memᴰ u v.uids) same other.of_one; of_other = one.of_one })

  taken_next : (b : List VEvent) (v w : VEvent) → taken (b ++ (v ∷ [])) w ≡ (taken b w || (is_master v && shares_uid v w))
  unfolding some taken
  taken_next b v w = some_append (λ x. is_master x && shares_uid x w) b (v ∷ []) ∙ ap (λ (t : Bool). taken b w || t) (sym (or_nothing (is_master v && shares_uid v w)))

  counted : (b vs : List VEvent) → all ≡ b ++ vs → weigh (taken b) all + moved_count all vs ≤ length all
  unfolding moved_count
  counted b [] e = omega (arith, weigh_few (taken b) all g.one_recurrence)
  counted b (v ∷ vs) e =
      omega (
        arith,
        here (is_master v) refl,
        weigh_apart (taken b) (λ w. is_master v && shares_uid v w) (taken (b ++ (v ∷ []))) all
            (λ w i t s. once b v vs e (and_left (is_master v) _ s) w i t (and_right (is_master v) _ s))
            (taken_next b v),
        counted (b ++ (v ∷ [])) vs (e ∙ sym (append_assoc b (v ∷ []) vs)),
      )
    where
      here : (t : Bool) → is_master v ≡ t → cond (is_master v) (length (moved_from v all)) 0 ≤ weigh (λ w. is_master v && shares_uid v w) all
      here true q = rw q (moved_weighed v all)
      here false q = rw q (omega arith)

  pub moved_few : moved_count all all ≤ length all
  moved_few = omega (arith, counted [] all refl)

-- those of a part are no more than all
pub moved_part : (all b d : List VEvent) → moved_count all b ≤ moved_count all (b ++ d)
unfolding moved_count
moved_part all [] d = omega arith
moved_part all (v ∷ b) d = omega (arith, moved_part all b d)

-- one VEVENT more
pub moved_next : (all b : List VEvent) (v : VEvent) → moved_count all (b ++ (v ∷ [])) ≡ moved_count all b + cond (is_master v) (length (moved_from v all)) 0
unfolding moved_count
moved_next all [] v = omega arith
moved_next all (w ∷ b) v = omega (arith, moved_next all b v)

-- ---- where every VEVENT keeps the rules

record Split (w : VEvent) (l : List VEvent) : Type 0 where
  pub before : List VEvent
  pub behind : List VEvent
  pub whole : l ≡ before ++ (w ∷ behind)

split_at : {w : VEvent} (l : List VEvent) → Memᴰ w l → Split w l
split_at {w = w} [] x' = elim x' [ ]
split_at (v ∷ l) (Memᴰ.head e) = record { before = []; behind = l; whole = ap (λ (x : VEvent). x ∷ l) (sym e) }
split_at (v ∷ l) (Memᴰ.tail m) = let z = split_at l m in record { before = v ∷ z.before; behind = z.behind; whole = ap (λ (k : List VEvent). v ∷ k) z.whole }

module _ {all : List VEvent} (k : (b : List VEvent) (w : VEvent) (d : List VEvent) → all ≡ b ++ (w ∷ d) → Keeps b all w) where
  keeps_in : (w : VEvent) → Memᴰ w all → KeepsAlone w
  keeps_in w i = let z = split_at all i in (k z.before w z.behind z.whole).alone

  few_recurrences : (w : VEvent) → KeepsAlone w → (ts : List Time) → w.recurrence_ids ≡ ts → length ts ≤ 1
  few_recurrences w g [] e = omega arith
  few_recurrences w g (t ∷ ts) e =
      omega (arith, sym (ap length e) ∙ (g.as_override (λ z. absurd (omega (arith, ap length (sym e ∙ z))))).one_recurrence_id)

  pub keeps_apart : Apart all
  keeps_apart =
      record {
        one_uid = λ w i. (keeps_in w i).few_uids;
        one_recurrence = λ w i. few_recurrences w (keeps_in w i) w.recurrence_ids refl;
        masters = λ b v d e m w i n s. (k b v d e).beside.masters_apart m w i n s;
      }
