-- What the tests of masters, overrides and UIDs say,
-- and which master a UID has.
use Prim.Native.Nat.{ℕ}
use mathlib.Core.Path.{◌≡◌, refl, sym, ap, subst, ◌∙◌}
use mathlib.Core.Bool.{Bool, true, false, cond, not, ◌&&◌}
use mathlib.Core.List.Memᴰ
use mathlib.Core.List.{List, [], ◌∷◌, ◌++◌, Memᴰ}
use mathlib.Core.Logic.{◌↔◌}
use native.Mathlib.Omega.{arith}
use borrow.Author.Tests.{not-true}
use Rattle.ascii.specs.Names.{same_bytes}
use Rattle.ascii.proofs.Bools.{clash, not_so, and_left, and_right, and_both}
use Rattle.ascii.proofs.Names.{same_bytes_eq, same_bytes_refl}
use Rattle.overrides.specs.VEvents.{VEvent, is_master, is_override, has_uid, shares_uid, nowhere, found, master_of, Master, Override, SharesUid, FirstMaster}
use Rattle.overrides.proofs.Lists.{some_iff, some_by, empty_iff}

pub master_iff : (v : VEvent) → (is_master v ≡ true) ↔ Master v
unfolding is_master
master_iff v = empty_iff v.recurrence_ids

pub override_iff : (v : VEvent) → (is_override v ≡ true) ↔ Override v
unfolding is_override
override_iff v = (
  λ h m. clash ((master_iff v).1 m) (not-true (is_master v) h),
  λ n. ap not (not_so (is_master v) (λ q. n ((master_iff v).0 q))),
)

pub uid_iff : (u : List ℕ) (v : VEvent) → (has_uid u v ≡ true) ↔ Memᴰ u v.uids
unfolding has_uid
uid_iff u v = (
  λ h.
      let p = (some_iff (same_bytes u) v.uids).0 h in
      subst (λ (w : List ℕ). Memᴰ w v.uids) (sym (same_bytes_eq u p.which p.passes)) p.listed,
  λ m. some_by (same_bytes u) m (same_bytes_refl u),
)

pub shares_iff : (v w : VEvent) → (shares_uid v w ≡ true) ↔ SharesUid v w
unfolding shares_uid
shares_iff v w = (
  λ h.
      let p = (some_iff (λ u. has_uid u w) v.uids).0 h in
      record { uid = p.which; of_one = p.listed; of_other = (uid_iff p.which w).0 p.passes },
  λ s. some_by (λ u. has_uid u w) s.of_one ((uid_iff s.uid w).1 s.of_other),
)

-- ---- the master of a UID

module _ (u : List ℕ) where
  master_test : (v : VEvent) → Master v → Memᴰ u v.uids → (is_master v && has_uid u v) ≡ true
  master_test v m h = and_both ((master_iff v).1 m) ((uid_iff u v).1 h)

  first_here : (v : VEvent) (vs : List VEvent) → (is_master v && has_uid u v) ≡ true → FirstMaster u (v ∷ vs) v
  first_here v vs h =
      record {
        before = [];
        behind = vs;
        whole = refl;
        none_before = λ w m. absurd (Memᴰ.not-nil m);
        is_master_holds = (master_iff v).0 (and_left (is_master v) (has_uid u v) h);
        has_uid_holds = (uid_iff u v).0 (and_right (is_master v) (has_uid u v) h);
      }

  first_later : (v : VEvent) (vs : List VEvent) (m : VEvent) → (is_master v && has_uid u v) ≡ false → FirstMaster u vs m → FirstMaster u (v ∷ vs) m
  first_later v vs m h f =
      record {
        before = v ∷ f.before;
        behind = f.behind;
        whole = ap (λ (l : List VEvent). v ∷ l) f.whole;
        none_before = none;
        is_master_holds = f.is_master_holds;
        has_uid_holds = f.has_uid_holds;
      }
    where
      none : (w : VEvent) → Memᴰ w (v ∷ f.before) → Master w → Memᴰ u w.uids → ⊥
      none w (Memᴰ.head e) a b = clash (ap (λ (x : VEvent). is_master x && has_uid u x) (sym e) ∙ master_test w a b) h
      none w (Memᴰ.tail m) a b = f.none_before w m a b

  found_first : (vs : List VEvent) (m : VEvent) → master_of u vs ≡ found m → FirstMaster u vs m
  unfolding master_of
  found_first [] m h = let z : ◌≡◌ {A = ℕ} 0 1 = cc in absurd (omega arith)
  found_first (v ∷ vs) m h = go (is_master v && has_uid u v) refl (found_first vs m) h
    where
      go : (t : Bool) → (is_master v && has_uid u v) ≡ t → (master_of u vs ≡ found m → FirstMaster u vs m)
          → cond t (found v) (master_of u vs) ≡ found m → FirstMaster u (v ∷ vs) m
      go true q below h = let e : v ≡ m = cc in subst (FirstMaster u (v ∷ vs)) e (first_here v vs q)
      go false q below h = first_later v vs m q (below h)

  first_found : (before behind : List VEvent) (m : VEvent)
      → ((w : VEvent) → Memᴰ w before → Master w → Memᴰ u w.uids → ⊥) → Master m → Memᴰ u m.uids
      → master_of u (before ++ (m ∷ behind)) ≡ found m
  unfolding master_of
  first_found [] behind m n a b = ap (λ (t : Bool). cond t (found m) (master_of u behind)) (master_test m a b)
  first_found (w ∷ before) behind m n a b =
      let q : (is_master w && has_uid u w) ≡ false =
      not_so _ (λ t. n w (Memᴰ.head refl) ((master_iff w).0 (and_left (is_master w) _ t)) ((uid_iff u w).0 (and_right (is_master w) _ t))) in
      ap (λ (t : Bool). cond t (found w) (master_of u (before ++ (m ∷ behind)))) q
      ∙ first_found before behind m (λ x i. n x (Memᴰ.tail i)) a b

  pub first_master_iff : (all : List VEvent) (m : VEvent) → (master_of u all ≡ found m) ↔ FirstMaster u all m
  first_master_iff all m = (
    found_first all m,
    λ f. ap (master_of u) f.whole ∙ first_found f.before f.behind m f.none_before f.is_master_holds f.has_uid_holds,
  )

  -- no master has the UID
  pub no_master : (all : List VEvent) → master_of u all ≡ nowhere → (w : VEvent) → Memᴰ w all → Master w → Memᴰ u w.uids → ⊥
  unfolding master_of
  no_master (v ∷ all) h w i a b = go (is_master v && has_uid u v) refl (λ q j. no_master all q w j a b) h i
    where
      go : (t : Bool) → (is_master v && has_uid u v) ≡ t → (master_of u all ≡ nowhere → Memᴰ w all → ⊥)
          → cond t (found v) (master_of u all) ≡ nowhere → Memᴰ w (v ∷ all) → ⊥
      go true q below h i = let z : ◌≡◌ {A = ℕ} 0 1 = cc in omega arith
      go false q below h (Memᴰ.head e) = clash (ap (λ (x : VEvent). is_master x && has_uid u x) (sym e) ∙ master_test w a b) q
      go false q below h (Memᴰ.tail j) = below h j
  no_master [] h w i a b = Memᴰ.not-nil i
