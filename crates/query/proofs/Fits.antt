-- Sections that stand in the bytes as the layout says lie inside them,
-- and none has more records than it may have.
use Prim.Native.Nat.{ℕ, suc, ◌≤◌}
use mathlib.Core.List.{List}
use native.Mathlib.Omega.{arith}
use Rattle.query.specs.declared.Sections.{Sections}
use Rattle.query.specs.Records.{text_place}
use Rattle.query.specs.Fits.{Fits}
use Rattle.query.specs.Layout.{Layout}
use Rattle.query.proofs.Records.{place_suc, place_grows, start_below}

-- what is laid out lies inside
pub layout_fits : (s : List ℕ) (q : Sections) → Layout s q → Fits s q
layout_fits s q l =
    let a = l.ranges_laid in
    let b = l.texts_laid in
    let c = l.components_laid in
    let d = l.properties_laid in
    let e = l.parameters_laid in
    let g : q.texts.at ≤ text_place s q.texts.count q.texts.at = start_below s q.texts.count q.texts.at in
    record {
      ranges_inside = omega arith;
      texts_inside =
          λ n h.
          omega (arith, place_suc s n q.texts.at, place_grows s q.texts.count (suc n) q.texts.at (omega arith));
      components_inside = omega arith;
      properties_inside = omega arith;
      parameters_inside = omega arith;
      ranges_few = a.most_holds;
      texts_few = b.most_holds;
      components_some = c.least_holds;
      components_few = c.most_holds;
      properties_few = d.most_holds;
      parameters_few = e.most_holds;
    }
