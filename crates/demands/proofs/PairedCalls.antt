-- Two report calls in one: each keeps its own promise, and what they say together follows from both.
use Prim.Native.Nat.{ℕ, suc, ◌≤◌, ◌<◌, min}
use mathlib.Core.Path.{◌≡◌, refl, sym, ap, ◌∙◌, subst}
use mathlib.Core.Bool.{Bool, true, false, ◌&&◌, and-false}
use mathlib.Core.List.{List, [], ◌∷◌}
use native.Mathlib.Omega.{arith}
use lib.IntN.{ℤ}
use lib.Dec.{eqb, ltb}
use lib.ListN.{length, take}
use lib.Seq.{length-take-le, take_all, take-length}
use lib.Pointwise.{pointwise}
use borrow.Author.Tests.{eq-eqb, ne_eqb, ltb-true, ltb-false, lt-ltb, eqb-true, eqb-false}
use Rattle.ascii.specs.Names.{same_bytes}
use Rattle.ascii.proofs.Bools.{and_both}
use Rattle.ascii.proofs.Names.{same_bytes_refl}
use Rattle.report.specs.Heads.{begins, has_bytes_at, heads_match}
use Rattle.report.proofs.HeadsLaws.{report_heads_match}
use Rattle.report.proofs.Bytes.{parts_length}
use Rattle.collecting.specs.CalendarTerms.{report_for}
use Rattle.engine.specs.Answers.{outcome_of}
use Rattle.engine.specs.Reporting.{ReportCall, Reported}
use Rattle.engine.specs.Demands.{IsReport, OnReport, HasRoom, ReadsBack}
use Rattle.engine.specs.declared.Answer.{Answer}
use Rattle.engine.proofs.DemandsAnswers.{written_report}
use Rattle.engine.proofs.DemandsReports.{says_covered, reads_back, one_meaning}
use Rattle.demands.specs.PairedCalls.{length_of, same_reports, ReadBackCalls, Compared}

-- ---- the length of a report

length_is : (a : Answer) {n : ℕ} → IsReport a n → length_of a ≡ n
unfolding IsReport outcome_of length_of
length_is (Answer.Verdict b) e = let z : ◌≡◌ {A = ℕ} 0 1 = cc in absurd (omega arith)
length_is (Answer.Length n) e = cc
length_is (Answer.Refused n i) e = let z : ◌≡◌ {A = ℕ} 0 1 = cc in absurd (omega arith)

length_room : {m : ReportCall} (a : Answer) {w o : List ℕ} → Reported m a w o → length_of a ≤ length o
unfolding IsReport outcome_of length_of
length_room (Answer.Verdict b) p = omega arith
length_room (Answer.Length n) p = (written_report p refl).has_room
length_room (Answer.Refused n i) p = omega arith

-- the bytes of a report are there
module _ {m : ReportCall} {a : Answer} {w o : List ℕ} {n : ℕ} (p : Reported m a w o) (e : n ≡ length_of a) where
  pub report_room : n ≤ length o
  report_room = omega (arith, length_room a p)

  pub report_long : n ≡ length (take n o)
  report_long = sym (length-take-le n o report_room)

-- its bytes have the heads of a report
heads_match_holds : {m : ReportCall} {a : Answer} {w o : List ℕ} {k : ℕ} → Reported m a w o → k ≡ length_of a → (n : ℕ) → IsReport a n → heads_match (take k o) ≡ true
heads_match_holds {a = a} {o = o} p e n i =
    let z = written_report p i in
    ap heads_match (ap (λ (j : ℕ). take j o) (e ∙ length_is a i) ∙ z.its_bytes) ∙ report_heads_match _

-- ---- the same bytes

same_step : (x l b m : Bool) → (l && b) ≡ m → (l && (x && b)) ≡ (x && m)
same_step true l b m e = e
same_step false l b m e = and-false l

eqb_suc : (m n : ℕ) → eqb (suc m) (suc n) ≡ eqb m n
eqb_suc m n = go (eqb m n) refl
  where
    go : (t : Bool) → eqb m n ≡ t → eqb (suc m) (suc n) ≡ eqb m n
    go true q = eq-eqb (suc m) (suc n) (ap suc (eqb-true m n q)) ∙ sym q
    go false q = ne_eqb (suc m) (suc n) (λ e. eqb-false m n q (omega arith)) ∙ sym q

-- of one length, and one begins with the other
same_both : (s t : List ℕ) → (eqb (length s) (length t) && has_bytes_at s t 0) ≡ same_bytes s t
unfolding has_bytes_at begins
same_both [] [] = refl
same_both [] (b ∷ t) = rw (ne_eqb 0 (suc (length t)) (omega arith))
same_both (a ∷ s) [] = rw (ne_eqb (suc (length s)) 0 (omega arith))
same_both (a ∷ s) (b ∷ t) = rw (eqb_suc (length s) (length t)) (same_step (eqb a b) (eqb (length s) (length t)) (begins s t) (same_bytes s t) (same_both s t))

pub same_by : (s t : List ℕ) {r : Bool} → r ≡ has_bytes_at s t 0 → (eqb (length s) (length t) && r) ≡ same_bytes s t
same_by s t e = rw e (same_both s t)

-- std's equality of slices
pointwise_same : (s t : List ℕ) → pointwise eqb s t ≡ same_bytes s t
pointwise_same [] [] = refl
pointwise_same [] (b ∷ t) = refl
pointwise_same (a ∷ s) [] = refl
pointwise_same (a ∷ s) (b ∷ t) = ap (λ (x : Bool). eqb a b && x) (pointwise_same s t)

-- as many bytes as there are
pub min_long : (n : ℕ) (s : List ℕ) {i : ℕ} → i ≡ min n (length s) → i ≡ length (take i s)
min_long n s {i} e = sym (length-take-le i s (omega (arith, e)))

take_min : (n : ℕ) (s : List ℕ) → take (min n (length s)) s ≡ take n s
take_min n s = go (ltb n (length s)) refl
  where
    go : (t : Bool) → ltb n (length s) ≡ t → take (min n (length s)) s ≡ take n s
    go true q = let h = ltb-true n (length s) q in let z : min n (length s) ≡ n = omega (arith, h) in ap (λ (k : ℕ). take k s) z
    go false q =
        let h = ltb-false n (length s) q in
        let z : min n (length s) ≡ length s = omega (arith, h) in
        ap (λ (k : ℕ). take k s) z ∙ take-length s ∙ sym (take_all n s h)

pub same_first : (n k : ℕ) (s t : List ℕ) {i j : ℕ} {r : Bool} → i ≡ min n (length s) → j ≡ min k (length t)
    → r ≡ pointwise eqb (take i s) (take j t) → r ≡ same_bytes (take n s) (take k t)
same_first n k s t {i = i} {j = j} e f g =
    g
    ∙ pointwise_same (take i s) (take j t)
    ∙ ap (λ (l : List ℕ). same_bytes l (take j t)) (ap (λ (x : ℕ). take x s) e ∙ take_min n s)
    ∙ ap (λ (l : List ℕ). same_bytes (take n s) l) (ap (λ (x : ℕ). take x t) f ∙ take_min k t)

pub same_answers : (a b : Answer) (o p : List ℕ) {n k : ℕ} {r : Bool} → n ≡ length_of a → k ≡ length_of b → r ≡ same_bytes (take n o) (take k p)
    → (ltb 0 n && ltb 0 k && r) ≡ same_reports a o b p
unfolding same_reports
same_answers a b o p e f g = rw (g, e, f)

-- a report read back is the same report
pub same_read_back : {m again : ReportCall} {a b : Answer} {w o p : List ℕ} → Reported m a w o → ReadsBack m a o again b p
    → (n : ℕ) → IsReport a n → OnReport m n o again → HasRoom n again → same_reports a o b p ≡ true
unfolding same_reports
same_read_back {m = m} {a = a} {b = b} {o = o} {p = p} f g n i h k =
    let z = g.same_bytes n i h k in
    let w = written_report f i in
    let some : 0 < n = omega (arith, w.its_length, parts_length (report_for m.terms)) in
    let same : same_bytes (take n o) (take n p) ≡ true = ap (λ (l : List ℕ). same_bytes (take n o) l) z.1 ∙ same_bytes_refl (take n o) in
    rw (length_is a i, length_is b z.0) (and_both (and_both (lt-ltb 0 n some) (lt-ltb 0 n some)) same)

-- ---- both calls

module _ {cal work out w o work₂ out₂ w₂ o₂ : List ℕ} {start end stamp : ℕ} {x y : ℤ} {a b : Answer} where
  pub read_back_calls : {n : ℕ} {s : Bool}
      → Reported (record { terms = record { calendar = cal; start = start; end = end; offset = x; stamp = stamp; work = work }; output = out }) a w o
      → n ≡ length_of a → s ≡ heads_match (take n o)
      → Reported (record { terms = record { calendar = take n o; start = start; end = end; offset = y; stamp = stamp; work = work₂ }; output = out₂ }) b w₂ o₂
      → ReadBackCalls (record { terms = record { calendar = cal; start = start; end = end; offset = x; stamp = stamp; work = work }; output = out })
      (record { terms = record { calendar = take (length_of a) o; start = start; end = end; offset = y; stamp = stamp; work = work₂ }; output = out₂ })
      (record { first = a; second = b; heads = s }) w o w₂ o₂
  read_back_calls p e f q =
      let v =
      subst
      (λ (k : ℕ). Reported (record { terms = record { calendar = take k o; start = start; end = end; offset = y; stamp = stamp; work = work₂ }; output = out₂ }) b w₂ o₂)
      e q in
      record {
        first_call = p;
        on_first = record { its_bytes = refl; same_range = record { same_start = refl; same_end = refl; same_stamp = refl } };
        second_call = v;
        says_covered = says_covered p;
        reads_back = reads_back p v;
        heads_are = f ∙ ap (λ (k : ℕ). heads_match (take k o)) e;
        heads_match_holds = λ k i. f ∙ heads_match_holds p e k i;
      }

  pub compared : {other : List ℕ}
      → Reported (record { terms = record { calendar = cal; start = start; end = end; offset = x; stamp = stamp; work = work }; output = out }) a w o
      → Reported (record { terms = record { calendar = other; start = start; end = end; offset = y; stamp = stamp; work = work₂ }; output = out₂ }) b w₂ o₂
      → Compared (record { terms = record { calendar = cal; start = start; end = end; offset = x; stamp = stamp; work = work }; output = out })
      (record { terms = record { calendar = other; start = start; end = end; offset = y; stamp = stamp; work = work₂ }; output = out₂ })
      (record { first = a; second = b }) w o w₂ o₂
  compared p q =
      record {
        first_call = p;
        second_call = q;
        one_meaning = one_meaning p q;
      }
