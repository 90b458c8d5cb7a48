use Prim.Native.Nat.{◌+◌, ◌-◌, ◌*◌}
use lib.ListN.{get_or}
use Rattle.structure.specs.Rows.{components_by}
use Rattle.recurrence.specs.Instances.{instances_at_most}
use Rattle.filter.specs.Trials.{Tried}
use Rattle.filter.proofs.Tests.{Beside, some_here, Descending}
use Rattle.nesting.specs.Files.{tree_in}
use Rattle.filter.specs.Tests.{whole_of}
use Rattle.filter.proofs.components.+children_hold_component_holds_trial_here.Given as goal

-- the records that are left, three steps for each
abbrev pub decreases-children_hold : goal.decreases-children_hold
decreases-children_hold l = (l.q.now.sections.components.count - l.from) * 3 + 1

abbrev pub decreases-component_holds : goal.decreases-component_holds
decreases-component_holds l = (l.q.now.sections.components.count - l.j) * 3

abbrev pub decreases-trial_here : goal.decreases-trial_here
decreases-trial_here l = (l.q.now.sections.components.count - l.j) * 3 - 1

abbrev pub invariant-children_hold-loop-i : goal.invariant-children_hold-loop-i
invariant-children_hold-loop-i l = Descending (whole_of l.c (tree_in l.cal.text.now)) l.q.bytes.now l.q.sections l.parent (components_by l.cal.text.now l.cal.rows.now (l.k + 1) (get_or l.cal.rows.now (4 * l.k + 2) 0)) l.from l.i

abbrev pub decreases-children_hold-loop-i : goal.decreases-children_hold-loop-i
decreases-children_hold-loop-i l = l.n - l.i

abbrev pub invariant-component_holds-loop-gone : goal.invariant-component_holds-loop-gone
invariant-component_holds-loop-gone l = Tried l.gone l.t l.k

abbrev pub decreases-component_holds-loop-gone : goal.decreases-component_holds-loop-gone
decreases-component_holds-loop-gone l = instances_at_most - l.k

abbrev pub invariant-component_holds-search : goal.invariant-component_holds-search
invariant-component_holds-search l = Beside (some_here (whole_of l.c (tree_in l.cal.text.now)) l.q.bytes.now l.q.sections l.j) l.cal.text.now l.cal.rows.now l.first l.end l.row

abbrev pub decreases-component_holds-search : goal.decreases-component_holds-search
decreases-component_holds-search l = l.end - l.row
