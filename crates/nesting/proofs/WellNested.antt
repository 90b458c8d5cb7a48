-- THE THEOREM of nesting: the lines of a file are nested right exactly where they are the lines of a well nested tree, and then
-- the tree that is read from them is that tree.
use Prim.Native.Nat.{ℕ, zero, suc, ◌+◌, ◌≤◌, ◌<◌}
use mathlib.Core.Path.{◌≡◌, refl, sym, ap, ◌∙◌, subst}
use mathlib.Core.Bool.{Bool, true, false}
use mathlib.Core.Logic.{◌↔◌}
use mathlib.Core.List.{List, [], ◌∷◌, ◌++◌, append_assoc, map}
use Rattle.text.specs.Lines.{content_lines}
use Rattle.line.specs.Reading.{line_of}
use Rattle.nesting.specs.Files.{nesting_in, tree_in}
use native.Mathlib.Omega.{arith}
use lib.ListN.{length, length-append}
use Rattle.ascii.specs.Names.{same_name}
use Rattle.line.specs.Grammar.{ContentLine}
use Rattle.line.specs.WellFormed.{all_good}
use Rattle.delimiters.specs.Delimiters.{delimiter_of}
use Rattle.delimiters.specs.Innermost.{is_calendar, may_begin}
use Rattle.delimiters.specs.declared.Delimiter.{Delimiter}
use Rattle.delimiters.specs.declared.Delimiter.TheVariants.{Begins, Ends, Property, Wrong}
use Rattle.nesting.specs.Nesting.{Walk, start, inside, closed, broken, after_begin, outside, after_end, after_property, after_wrong, walk, outcome, nesting_of}
use Rattle.nesting.specs.Components.{Numbered, begins, ends, other, Items, none, property, component, end_of, items_of, tree_of, rendered_items}
use Rattle.nesting.specs.WellNested.{numbered_from, component_count, AllowedAt, NestedAt, nothing, with_property_holds, with_component, WellNested, calendar}
use Rattle.nesting.proofs.NestingLaws.{stepped, walked, delimiters, walk_numbered, delimiters_numbered, may_begin_allowed, step_begin, step_end, step_property, broken_step, closed_last}

-- ---- from a tree to its lines: the tree is read back, and the walk passes it

delimiters_begin : (x : Numbered) (s : List Numbered) → delimiter_of x.line ≡ Begins → delimiters (x ∷ s) ≡ begins x ∷ delimiters s
delimiters_begin x s e = rw e

delimiters_end : (x : Numbered) (s : List Numbered) → delimiter_of x.line ≡ Ends → delimiters (x ∷ s) ≡ ends x ∷ delimiters s
delimiters_end x s e = rw e

delimiters_property : (x : Numbered) (s : List Numbered) → delimiter_of x.line ≡ Property → delimiters (x ∷ s) ≡ other x ∷ delimiters s
delimiters_property x s e = rw e

-- the lines of a component, with lines behind it
component_lines : (b e : Numbered) (k i : Items) (s : List Numbered)
    → rendered_items (component b k e i) ++ s ≡ b ∷ (rendered_items k ++ (e ∷ (rendered_items i ++ s)))
unfolding rendered_items
component_lines b e k i s = ap (λ (l : List Numbered). b ∷ l) (append_assoc (rendered_items k) (e ∷ rendered_items i) s)

-- whole items are passed over, seen from an outer component
items_past : {c : ℕ} {t : Items} → NestedAt c t → (d : ℕ) (s : List Numbered)
    → items_of (suc d) (delimiters (rendered_items t ++ s)) ≡ items_of (suc d) (delimiters s)
unfolding items_of rendered_items
items_past nothing d s = refl
items_past (with_property_holds {x = x} {i = i} m n) d s =
    ap (items_of (suc d)) (delimiters_property x (rendered_items i ++ s) m) ∙ items_past n d s
items_past (with_component {b = b} {e = e} {k = k} {i = i} w p n r) d s =
    ap (λ (l : List Numbered). items_of (suc d) (delimiters l)) (component_lines b e k i s)
    ∙ ap (items_of (suc d)) (delimiters_begin b (rendered_items k ++ (e ∷ (rendered_items i ++ s))) w.begins)
    ∙ items_past n (suc d) (e ∷ (rendered_items i ++ s))
    ∙ ap (items_of (suc (suc d))) (delimiters_end e (rendered_items i ++ s) w.ends)
    ∙ items_past r d s

end_past : {c : ℕ} {t : Items} → NestedAt c t → (d : ℕ) (s : List Numbered) → end_of d (delimiters (rendered_items t ++ s)) ≡ end_of d (delimiters s)
unfolding end_of rendered_items
end_past nothing d s = refl
end_past (with_property_holds {x = x} {i = i} m n) d s = ap (end_of d) (delimiters_property x (rendered_items i ++ s) m) ∙ end_past n d s
end_past (with_component {b = b} {e = e} {k = k} {i = i} w p n r) d s =
    ap (λ (l : List Numbered). end_of d (delimiters l)) (component_lines b e k i s)
    ∙ ap (end_of d) (delimiters_begin b (rendered_items k ++ (e ∷ (rendered_items i ++ s))) w.begins)
    ∙ end_past n (suc d) (e ∷ (rendered_items i ++ s))
    ∙ ap (end_of (suc d)) (delimiters_end e (rendered_items i ++ s) w.ends)
    ∙ end_past r d s

component_eq : (b : Numbered) {k k' i i' : Items} {e e' : Numbered} → k ≡ k' → e ≡ e' → i ≡ i' → component b k e i ≡ component b k' e' i'
component_eq b p q r = cc

-- items up to the END line of their component are read back
items_read : {c : ℕ} {t : Items} → NestedAt c t → (e : Numbered) (s : List Numbered) → delimiter_of e.line ≡ Ends
    → items_of 0 (delimiters (rendered_items t ++ (e ∷ s))) ≡ t
unfolding items_of end_of rendered_items
items_read nothing e s h = ap (items_of 0) (delimiters_end e s h)
items_read (with_property_holds {x = x} {i = i} m n) e s h =
    ap (items_of 0) (delimiters_property x (rendered_items i ++ (e ∷ s)) m) ∙ ap (property x) (items_read n e s h)
items_read (with_component {b = b} {e = f} {k = k} {i = i} w p n r) e s h =
    let l : List Numbered = rendered_items i ++ (e ∷ s) in
    ap (λ (l : List Numbered). items_of 0 (delimiters l)) (component_lines b f k i (e ∷ s))
    ∙ ap (items_of 0) (delimiters_begin b (rendered_items k ++ (f ∷ l)) w.begins)
    ∙ component_eq b (items_read n f l w.ends)
    (end_past n 0 (f ∷ l) ∙ ap (end_of 0) (delimiters_end f l w.ends))
    (items_past n 0 (f ∷ l) ∙ ap (items_of 1) (delimiters_end f l w.ends) ∙ items_read r e s h)

walk_past : {c : ℕ} {t : Items} → NestedAt c t → (m : List ℕ) (o : List (List ℕ)) (k : ℕ) → c ≡ length o + 2 → k + component_count t ≤ 256
    → (s : List Numbered) → walked (inside (m ∷ o) k) (rendered_items t ++ s) ≡ walked (inside (m ∷ o) (k + component_count t)) s
unfolding component_count rendered_items
walk_past nothing m o k q h s = let z : k ≡ k + 0 = omega arith in ap (λ (j : ℕ). walked (inside (m ∷ o) j) s) z
walk_past (with_property_holds {x = x} {i = i} y n) m o k q h s =
    ap (λ (v : Walk). walked v (rendered_items i ++ s)) (step_property (m ∷ o) k x y) ∙ walk_past n m o k q h s
walk_past {c} (with_component {b = b} {e = e} {k = t} {i = i} w p n r) m o k q h s =
    let l : List Numbered = e ∷ (rendered_items i ++ s) in
    let d : c ≡ length (m ∷ o) + 1 = omega arith in
    let z : k + 1 + component_count t + component_count i ≡ k + suc (component_count t + component_count i) = omega arith in
    ap (λ (l : List Numbered). walked (inside (m ∷ o) k) l) (component_lines b e t i s)
    ∙ ap (λ (v : Walk). walked v (rendered_items t ++ l)) (step_begin (m ∷ o) k b w.begins (subst (λ (j : ℕ). AllowedAt j b) d p) (omega arith))
    ∙ walk_past n b.line.value (m ∷ o) (k + 1) (ap suc q ∙ omega arith) (omega arith) l
    ∙ ap (λ (v : Walk). walked v (rendered_items i ++ s)) (step_end b.line.value (m ∷ o) (k + 1 + component_count t) e w.ends w.names)
    ∙ walk_past r m o (k + 1 + component_count t) q (omega arith) s
    ∙ ap (λ (j : ℕ). walked (inside (m ∷ o) j) s) z

-- ---- from lines to a tree: where the walk inside a component comes to its end, the lines are items and an END line

record Parsed (ns : List Numbered) (m : List ℕ) (o : List (List ℕ)) (k : ℕ) : Type 0 where
  pub items : Items
  pub end : Numbered
  pub rest : List Numbered
  pub lines : ns ≡ rendered_items items ++ (end ∷ rest)
  pub nested : NestedAt (length o + 2) items
  pub ends : delimiter_of end.line ≡ Ends
  pub names : same_name end.line.value m ≡ true
  pub few : k + component_count items ≤ 256

-- the walk goes on behind the END line
parsed_walk : {ns : List Numbered} {m : List ℕ} {o : List (List ℕ)} {k : ℕ} (p : Parsed ns m o k)
    → walked (inside (m ∷ o) k) ns ≡ walked (outside o (k + component_count p.items)) p.rest
parsed_walk {ns} {m} {o} {k} p =
    ap (walked (inside (m ∷ o) k)) p.lines
    ∙ walk_past p.nested m o k refl p.few (p.end ∷ p.rest)
    ∙ ap (λ (v : Walk). walked v p.rest) (step_end m o (k + component_count p.items) p.end p.ends p.names)

parsed_shorter : {ns : List Numbered} {m : List ℕ} {o : List (List ℕ)} {k : ℕ} (p : Parsed ns m o k) → length p.rest < length ns
parsed_shorter p = omega (arith, simp length-append at (ap length p.lines))

-- a component and what follows it
parsed_join : {x : Numbered} {ns : List Numbered} {m : List ℕ} {o : List (List ℕ)} {k : ℕ} → delimiter_of x.line ≡ Begins → AllowedAt (length (m ∷ o) + 1) x
    → (p : Parsed ns x.line.value (m ∷ o) (k + 1)) → Parsed p.rest m o (k + 1 + component_count p.items) → Parsed (x ∷ ns) m o k
unfolding rendered_items component_count
parsed_join {x} {ns} {m} {o} {k} h s p q =
    let d : length (m ∷ o) + 1 ≡ length o + 2 = omega arith in
    let d' : length (m ∷ o) + 2 ≡ suc (length o + 2) = omega arith in
    record {
      items = component x p.items p.end q.items;
      end = q.end;
      rest = q.rest;
      lines =
          ap (λ (l : List Numbered). x ∷ l) (p.lines ∙ ap (λ (l : List Numbered). rendered_items p.items ++ (p.end ∷ l)) q.lines)
          ∙ sym (component_lines x p.end p.items q.items (q.end ∷ q.rest));
      nested =
          with_component (record { begins = h; ends = p.ends; names = p.names }) (subst (λ (j : ℕ). AllowedAt j x) d s)
          (subst (λ (j : ℕ). NestedAt j p.items) d' p.nested) q.nested;
      ends = q.ends;
      names = q.names;
      few = omega (arith, q.few);
    }

-- what holds of every list of at most n lines
abbrev Parses : ℕ → Type 0
Parses n = (ns : List Numbered) → length ns ≤ n → (m : List ℕ) (o : List (List ℕ)) (k : ℕ) → k ≤ 256
    → walked (inside (m ∷ o) k) ns ≡ closed → Parsed ns m o k

module _ (n : ℕ) (ih : Parses n) (x : Numbered) (ns : List Numbered) (short : length ns ≤ n) (m : List ℕ) (o : List (List ℕ)) (k : ℕ) (few : k ≤ 256) where
  parsed_property : delimiter_of x.line ≡ Property → walked (inside (m ∷ o) k) (x ∷ ns) ≡ closed → Parsed (x ∷ ns) m o k
  unfolding rendered_items component_count
  parsed_property h w =
      let p = ih ns short m o k few (ap (λ (v : Walk). walked v ns) (sym (step_property (m ∷ o) k x h)) ∙ w) in
      record {
        items = property x p.items;
        end = p.end;
        rest = p.rest;
        lines = ap (λ (l : List Numbered). x ∷ l) p.lines;
        nested = with_property_holds h p.nested;
        ends = p.ends;
        names = p.names;
        few = p.few;
      }

  parsed_end : delimiter_of x.line ≡ Ends → (t : Bool) → same_name x.line.value m ≡ t → walked (inside (m ∷ o) k) (x ∷ ns) ≡ closed
      → Parsed (x ∷ ns) m o k
  unfolding rendered_items component_count after_end
  parsed_end h true s w = record {
    items = none;
    end = x;
    rest = ns;
    lines = refl;
    nested = nothing;
    ends = h;
    names = s;
    few = omega arith;
  }
  parsed_end h false s w = broken_step (inside (m ∷ o) k) x ns (rw (h, s)) w

  parsed_begin : delimiter_of x.line ≡ Begins → (t : Bool) → may_begin x.line.value (length (m ∷ o) + 1) (k + 1) ≡ t
      → walked (inside (m ∷ o) k) (x ∷ ns) ≡ closed → Parsed (x ∷ ns) m o k
  unfolding after_begin
  parsed_begin h true s w =
      let b = may_begin_allowed x (length (m ∷ o) + 1) (k + 1) s in
      let e = step_begin (m ∷ o) k x h b.allowed b.counted in
      let p = ih ns short x.line.value (m ∷ o) (k + 1) b.counted (ap (λ (v : Walk). walked v ns) (sym e) ∙ w) in
      let next = sym (parsed_walk p) ∙ ap (λ (v : Walk). walked v ns) (sym e) ∙ w in
      parsed_join h b.allowed p (ih p.rest (omega (arith, parsed_shorter p)) m o (k + 1 + component_count p.items) p.few next)
  parsed_begin h false s w = broken_step (inside (m ∷ o) k) x ns (rw (h, s)) w

  parsed_step : (t : Delimiter) → delimiter_of x.line ≡ t → walked (inside (m ∷ o) k) (x ∷ ns) ≡ closed → Parsed (x ∷ ns) m o k
  unfolding after_wrong
  parsed_step Begins h w = parsed_begin h (may_begin x.line.value (length (m ∷ o) + 1) (k + 1)) refl w
  parsed_step Ends h w = parsed_end h (same_name x.line.value m) refl w
  parsed_step Property h w = parsed_property h w
  parsed_step Wrong h w = broken_step (inside (m ∷ o) k) x ns (rw h) w

inside_not_closed : {A : Type 0} {o : List (List ℕ)} {k : ℕ} → inside o k ≡ closed → A
inside_not_closed e = let z : ◌≡◌ {A = ℕ} 0 1 = cc in absurd (omega arith)

parses_none : Parses 0
parses_none [] h m o k f w = inside_not_closed w
parses_none (x ∷ ns) h m o k f w = absurd (omega arith)

parses_more : (n : ℕ) → Parses n → Parses (suc n)
parses_more n ih [] h m o k f w = inside_not_closed w
parses_more n ih (x ∷ ns) h m o k f w = parsed_step n ih x ns (omega arith) m o k f (delimiter_of x.line) refl w

parsed : (n : ℕ) → Parses n
parsed zero = parses_none
parsed (suc n) = parses_more n (parsed n)

-- ---- the whole file

-- a walk over the whole file that is good has closed
good_closed : (n : ℕ) (w : Walk) → outcome n w ≡ all_good → w ≡ closed
unfolding outcome
good_closed n start e = cc
good_closed n (inside o k) e = cc
good_closed n closed e = refl
good_closed n (broken j) e = cc

start_not_closed : {A : Type 0} → start ≡ closed → A
start_not_closed e = let z : ◌≡◌ {A = ℕ} 0 1 = cc in absurd (omega arith)

pub record Whole (ns : List Numbered) : Type 0 where
  pub tree : Items
  pub good : WellNested tree
  pub lines : rendered_items tree ≡ ns

module _ (x : Numbered) (ns : List Numbered) where
  whole_begin : delimiter_of x.line ≡ Begins → (t : Bool) → is_calendar x.line.value ≡ t → walked start (x ∷ ns) ≡ closed → Whole (x ∷ ns)
  unfolding after_begin rendered_items
  whole_begin h true s w =
      let e : stepped start x ≡ inside (x.line.value ∷ []) 1 = rw (h, s) in
      let p = parsed (length ns) ns (omega arith) x.line.value [] 1 (omega arith) (ap (λ (v : Walk). walked v ns) (sym e) ∙ w) in
      let last : p.rest ≡ [] = closed_last p.rest (sym (parsed_walk p) ∙ ap (λ (v : Walk). walked v ns) (sym e) ∙ w) in
      record {
        tree = component x p.items p.end none;
        good = calendar (record { begins = h; ends = p.ends; names = p.names }) s p.nested p.few;
        lines =
            ap (λ (l : List Numbered). x ∷ (rendered_items p.items ++ (p.end ∷ l))) (sym last) ∙ ap (λ (l : List Numbered). x ∷ l) (sym p.lines);
      }
  whole_begin h false s w = broken_step start x ns (rw (h, s)) w

  whole_step : (t : Delimiter) → delimiter_of x.line ≡ t → walked start (x ∷ ns) ≡ closed → Whole (x ∷ ns)
  unfolding after_end after_property after_wrong
  whole_step Begins h w = whole_begin h (is_calendar x.line.value) refl w
  whole_step Ends h w = broken_step start x ns (rw h) w
  whole_step Property h w = broken_step start x ns (rw h) w
  whole_step Wrong h w = broken_step start x ns (rw h) w

whole : (ns : List Numbered) → walked start ns ≡ closed → Whole ns
whole [] w = start_not_closed w
whole (x ∷ ns) w = whole_step x ns (delimiter_of x.line) refl w

-- good lines are the lines of a well nested tree
pub good_tree : (xs : List ContentLine) → nesting_of xs ≡ all_good → Whole (numbered_from 1 xs)
unfolding nesting_of
good_tree xs e = whole (numbered_from 1 xs) (sym (walk_numbered 1 start xs) ∙ good_closed (length xs + 1) (walk 1 start xs) e)

-- the lines of a well nested tree are good, and that tree is read from them
tree_walk : {t : Items} → WellNested t → walked start (rendered_items t) ≡ closed
unfolding after_begin rendered_items
tree_walk (calendar {b} {e} {k} w c n h) =
    let f : stepped start b ≡ inside (b.line.value ∷ []) 1 = rw (w.begins, c) in
    ap (λ (v : Walk). walked v (rendered_items k ++ (e ∷ []))) f
    ∙ walk_past n b.line.value [] 1 refl h (e ∷ [])
    ∙ step_end b.line.value [] (1 + component_count k) e w.ends w.names

tree_read : {t : Items} → WellNested t → items_of 0 (delimiters (rendered_items t)) ≡ t
unfolding items_of end_of rendered_items
tree_read (calendar {b} {e} {k} w c n h) =
    ap (items_of 0) (delimiters_begin b (rendered_items k ++ (e ∷ [])) w.begins)
    ∙ component_eq b (items_read n e [] w.ends)
    (end_past n 0 (e ∷ []) ∙ ap (end_of 0) (delimiters_end e [] w.ends))
    (items_past n 0 (e ∷ []) ∙ ap (items_of 1) (delimiters_end e [] w.ends))

pub tree_good : {t : Items} (xs : List ContentLine) → WellNested t → rendered_items t ≡ numbered_from 1 xs → nesting_of xs ≡ all_good
unfolding nesting_of outcome
tree_good xs g e = ap (outcome (length xs + 1)) (walk_numbered 1 start xs ∙ ap (walked start) (sym e) ∙ tree_walk g)

pub tree_same : {t : Items} (xs : List ContentLine) → WellNested t → rendered_items t ≡ numbered_from 1 xs → tree_of xs ≡ t
unfolding tree_of
tree_same xs g e = ap (items_of 0) (delimiters_numbered 1 xs ∙ ap delimiters (sym e)) ∙ tree_read g

-- THE THEOREM: the nesting is good and t is the tree of the file, exactly where t is well nested and its lines are the file's
pub nesting_iff : (xs : List ContentLine) (t : Items)
    → ((nesting_of xs ≡ all_good) × (tree_of xs ≡ t)) ↔ (WellNested t × (rendered_items t ≡ numbered_from 1 xs))
nesting_iff xs t = (
  λ h.
      let w = good_tree xs h.0 in
      let e : w.tree ≡ t = sym (tree_same xs w.good w.lines) ∙ h.1 in
      (subst WellNested e w.good, ap rendered_items (sym e) ∙ w.lines),
  λ h. (tree_good xs h.0 h.1, tree_same xs h.0 h.1),
)

-- the same of the bytes of a file: a good file's tree is well nested, and its lines are the file's
pub file_nested : (s : List ℕ) → nesting_in s ≡ all_good → WellNested (tree_in s) × (rendered_items (tree_in s) ≡ numbered_from 1 (map line_of (content_lines s)))
unfolding nesting_in tree_in
file_nested s e = (nesting_iff (map line_of (content_lines s)) (tree_in s)).0 (e, refl)
