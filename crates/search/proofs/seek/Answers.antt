-- `search::seek` meets its contract: k bytes of the text stand before i, and it stands nowhere whole; the measure is what is left of the value.
use mathlib.Core.Path.{sym}
use native.Mathlib.Omega.{arith}
use Rattle.search.proofs.Borders.{seeking_start, seeking_next, seeking_found, seeking_end, borders_some}
use Rattle.search.proofs.seek.Goals as goal

pub loop-b-init : goal.loop-b-init
loop-b-init c = seeking_start c.requires.in_bounds

pub step-k-requires : goal.step-k-requires
step-k-requires c =
    let seeking = c.loop-b.invariant in
    record { from_in_bounds = seeking.short; text_in_bounds = c.requires.text_in_bounds; borders = borders_some _ (omega (arith, seeking.short)) c.requires.borders }

pub returns-then-k-text : goal.returns-then-k-text
returns-then-k-text c =
    let seeking = c.loop-b.invariant in
    let folded = c.fold.ensures in
    let stepped = c.step-k.ensures in
    let whole = c.if-k-text.true in
    sym (seeking_found seeking (omega arith) folded stepped whole)

pub loop-b-preserved : goal.loop-b-preserved
loop-b-preserved c =
    let seeking = c.loop-b.invariant in
    let folded = c.fold.ensures in
    let stepped = c.step-k.ensures in
    seeking_next seeking (omega arith) folded stepped (omega (arith, seeking.short, stepped.most))

pub returns : goal.returns
returns c = sym (seeking_end c.loop-b.invariant (omega arith))
