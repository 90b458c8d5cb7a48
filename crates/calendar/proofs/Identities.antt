-- What ties a VEVENT to others: that of lines in two parts is that of the one part and then that of the other,
-- and every time of it is within the limits.
use Prim.Native.Nat.{ℕ, ◌≤◌}
use mathlib.Core.Path.{◌≡◌, refl, sym, ap, ◌∙◌}
use mathlib.Core.Logic.{◌⊎◌, inl, inr}
use mathlib.Core.List.Memᴰ
use mathlib.Core.List.{List, [], ◌∷◌, ◌++◌, append_assoc, Memᴰ}
use native.Mathlib.Omega.{arith}
use Rattle.line.specs.Grammar.{ContentLine}
use Rattle.time.specs.Limits.{last_second}
use Rattle.values.specs.TimeLists.{time_items, good_times, seconds_of}
use Rattle.values.specs.declared.times.Context.{Context}
use Rattle.values.specs.declared.times.Time.{Time}
use Rattle.values.proofs.TimeLists.{times_small}
use Rattle.property.specs.Properties.{property_value_of, PropertyValueSmall}
use Rattle.property.specs.declared.Scope.{Scope}
use Rattle.property.specs.Facts.{Reading, unread, fault, of, span, repeats, busy, identity, periods, uid, recurrence_id, exceptions}
use Rattle.property.proofs.Properties.{property_value_of_small}
use Rattle.nesting.specs.Components.{Numbered, Component, properties_in}
use Rattle.calendar.specs.Identities.{Identity, uids_by, recurrence_ids_by, exceptions_by, uids_in, recurrence_ids_in, exceptions_in, identity_in, identity_of}

-- ---- lines in two parts

pub uids_append : (c : Context) (xs ys : List Numbered) → uids_in c (xs ++ ys) ≡ uids_in c xs ++ uids_in c ys
unfolding uids_in
uids_append c [] ys = refl
uids_append c (x ∷ xs) ys =
    let here = uids_by (property_value_of c Scope.Event x.line) x.line in
    ap (λ (l : List (List ℕ)). here ++ l) (uids_append c xs ys) ∙ sym (append_assoc here (uids_in c xs) (uids_in c ys))

pub recurrence_ids_append : (c : Context) (xs ys : List Numbered) → recurrence_ids_in c (xs ++ ys) ≡ recurrence_ids_in c xs ++ recurrence_ids_in c ys
unfolding recurrence_ids_in
recurrence_ids_append c [] ys = refl
recurrence_ids_append c (x ∷ xs) ys =
    let here = recurrence_ids_by (property_value_of c Scope.Event x.line) in
    ap (λ (l : List Time). here ++ l) (recurrence_ids_append c xs ys) ∙ sym (append_assoc here (recurrence_ids_in c xs) (recurrence_ids_in c ys))

pub exceptions_append : (c : Context) (xs ys : List Numbered) → exceptions_in c (xs ++ ys) ≡ exceptions_in c xs ++ exceptions_in c ys
unfolding exceptions_in
exceptions_append c [] ys = refl
exceptions_append c (x ∷ xs) ys =
    let here = exceptions_by c (property_value_of c Scope.Event x.line) x.line in
    ap (λ (l : List Time). here ++ l) (exceptions_append c xs ys) ∙ sym (append_assoc here (exceptions_in c xs) (exceptions_in c ys))

-- ---- how late a time can be

-- a time of a list has its second among the list's
second_among : (ts : List Time) (t : Time) → Memᴰ t ts → Memᴰ t.second (seconds_of ts)
unfolding seconds_of
second_among [] t x' = elim x' [ ]
second_among (u ∷ ts) t (Memᴰ.head q) = Memᴰ.head (ap (λ (y : Time). y.second) q)
second_among (u ∷ ts) t (Memᴰ.tail m) = Memᴰ.tail (second_among ts t m)

recurrence_id_small : (v : Reading) → PropertyValueSmall v → (t : Time) → Memᴰ t (recurrence_ids_by v) → t.second ≤ last_second
unfolding recurrence_ids_by
recurrence_id_small unread h t m = absurd (Memᴰ.not-nil m)
recurrence_id_small (fault f) h t m = absurd (Memᴰ.not-nil m)
recurrence_id_small (of (span f)) h t m = absurd (Memᴰ.not-nil m)
recurrence_id_small (of (repeats r)) h t m = absurd (Memᴰ.not-nil m)
recurrence_id_small (of (busy f)) h t m = absurd (Memᴰ.not-nil m)
recurrence_id_small (of (identity uid)) h t m = absurd (Memᴰ.not-nil m)
recurrence_id_small (of (identity (recurrence_id u))) h t m = let e = ap (λ (y : Time). y.second) (Memᴰ.eq_of_singleton m) in omega arith
recurrence_id_small (of (identity (exceptions f))) h t m = absurd (Memᴰ.not-nil m)
recurrence_id_small (of (periods b)) h t m = absurd (Memᴰ.not-nil m)

exception_small : (c : Context) (v : Reading) (x : ContentLine) (t : Time) → Memᴰ t (exceptions_by c v x) → t.second ≤ last_second
unfolding exceptions_by
exception_small c unread x t m = absurd (Memᴰ.not-nil m)
exception_small c (fault f) x t m = absurd (Memᴰ.not-nil m)
exception_small c (of (span f)) x t m = absurd (Memᴰ.not-nil m)
exception_small c (of (repeats r)) x t m = absurd (Memᴰ.not-nil m)
exception_small c (of (busy f)) x t m = absurd (Memᴰ.not-nil m)
exception_small c (of (identity uid)) x t m = absurd (Memᴰ.not-nil m)
exception_small c (of (identity (recurrence_id u))) x t m = absurd (Memᴰ.not-nil m)
exception_small c (of (identity (exceptions f))) x t m = times_small c f x.value t.second (second_among (good_times (time_items c f x.value)) t m)
exception_small c (of (periods b)) x t m = absurd (Memᴰ.not-nil m)

-- a claim about every time of two lists
either_list : {P : Time → Type 0} (a b : List Time) → ((t : Time) → Memᴰ t a → P t) → ((t : Time) → Memᴰ t b → P t)
    → (t : Time) → Memᴰ t (a ++ b) → P t
either_list {P} a b h k t m = go (Memᴰ.append_cases a m)
  where
    go : Memᴰ t a ⊎ Memᴰ t b → P t
    go (inl w) = h t w
    go (inr w) = k t w

pub recurrence_ids_small : (c : Context) (xs : List Numbered) (t : Time) → Memᴰ t (recurrence_ids_in c xs) → t.second ≤ last_second
unfolding recurrence_ids_in
recurrence_ids_small c [] t m = absurd (Memᴰ.not-nil m)
recurrence_ids_small c (x ∷ xs) t m =
    either_list {P = λ u. u.second ≤ last_second} (recurrence_ids_by (property_value_of c Scope.Event x.line)) (recurrence_ids_in c xs)
    (recurrence_id_small (property_value_of c Scope.Event x.line) (property_value_of_small c Scope.Event x.line))
    (recurrence_ids_small c xs) t m

pub exceptions_small : (c : Context) (xs : List Numbered) (t : Time) → Memᴰ t (exceptions_in c xs) → t.second ≤ last_second
unfolding exceptions_in
exceptions_small c [] t m = absurd (Memᴰ.not-nil m)
exceptions_small c (x ∷ xs) t m =
    either_list {P = λ u. u.second ≤ last_second} (exceptions_by c (property_value_of c Scope.Event x.line) x.line) (exceptions_in c xs)
    (exception_small c (property_value_of c Scope.Event x.line) x.line)
    (exceptions_small c xs) t m

-- THE LAW of a VEVENT: its times are within the limits
pub record IdentitySmall (i : Identity) : Type 0 where
  pub moved_small : (t : Time) → Memᴰ t i.recurrence_ids → t.second ≤ last_second
  pub taken_small : (t : Time) → Memᴰ t i.exceptions → t.second ≤ last_second

pub identity_small : (c : Context) (k : Component) → IdentitySmall (identity_of c k)
unfolding identity_of identity_in
identity_small c k =
    let xs = properties_in k.items in
    record { moved_small = recurrence_ids_small c xs; taken_small = exceptions_small c xs }
