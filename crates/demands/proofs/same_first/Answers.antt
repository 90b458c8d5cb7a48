-- `demands::same_first` meets its contract: what is past the end of a slice is left out on both sides.
use Rattle.demands.proofs.PairedCalls.{min_long, same_first}
use Rattle.demands.proofs.same_first.Goals as goal

pub slice_bounds-eq-end : goal.slice_bounds-eq-end
slice_bounds-eq-end c = min_long _ _ c.min-n.ensures

pub slice_bounds-eq-end-2 : goal.slice_bounds-eq-end-2
slice_bounds-eq-end-2 c = min_long _ _ c.min-k.ensures

pub returns : goal.returns
returns c = same_first _ _ c.args.a.now c.args.b.now c.min-n.ensures c.min-k.ensures c.eq.ensures
