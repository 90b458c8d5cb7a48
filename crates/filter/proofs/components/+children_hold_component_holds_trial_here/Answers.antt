-- `filter::components::children_hold`, `component_holds` and `trial_here` meet their contracts: of the records of one parent the first that fails
-- decides, and of the components side by side the first that passes; what is tried of one component asks the records of higher numbers.
use mathlib.Core.Path.{sym, subst, ◌∙◌}
use native.Mathlib.Omega.{arith}
use Rattle.seconds.specs.Seconds.{Ordered}
use Rattle.filter.proofs.Tests.{beside_start, beside_here, beside_next, beside_found, beside_end, component_name, component_range, record_name, here_none, test_absent, test_there, child_as, descending_start, descending_other, descending_next, descending_stop, descending_end}
use Rattle.filter.proofs.RangesLaws.{row_number, row_small, beside_file, inner_among}
use Rattle.filter.proofs.TrialsLaws.{trial_by_part, tried_found, tried_more, tried_end, here_not, here_childless, here_tried, here_found, here_passed}
use Rattle.filter.proofs.components.+children_hold_component_holds_trial_here.Goals as goal

-- ---- the records of one parent

pub children_hold-overflow_add-inside : goal.children_hold-overflow_add-inside
children_hold-overflow_add-inside t c = omega (arith, c.requires.here.row.few)

pub children_hold-next_row-end-requires : goal.children_hold-next_row-end-requires
children_hold-next_row-end-requires t c = c.requires.here.row.room

pub children_hold-loop-i-init : goal.children_hold-loop-i-init
children_hold-loop-i-init t c = descending_start _ _ _ _ _ _ c.requires.from_le_count

pub children_hold-component_at-r-requires : goal.children_hold-component_at-r-requires
children_hold-component_at-r-requires t c =
    c.loop-i-test.true

pub children_hold-component_holds-requires : goal.children_hold-component_holds-requires
children_hold-component_holds-requires t c =
    let next = c.next_row-end.ensures in
    let onward = c.loop-i.invariant.onward in
    let inside = c.loop-i-test.true in
    (omega (arith, c.decreases, inside, onward), (c.requires.q_value, (inside, (c.requires.context_good, (c.requires.given, (c.requires.removed_rows, inner_among c.requires.here next))))))

pub children_hold-returns-then-not-component_holds : goal.children_hold-returns-then-not-component_holds
children_hold-returns-then-not-component_holds t c =
    descending_stop _ _ _ _ _
    c.loop-i.invariant
    c.loop-i-test.true
    c.component_at-r.ensures
    c.if-r-parent.true
    (child_as _ _ _ _ _ _ _ c.next_row-end.ensures c.component_holds.ensures)
    c.if-not-component_holds.true

pub children_hold-loop-i-preserved-else-not-component_holds : goal.children_hold-loop-i-preserved-else-not-component_holds
children_hold-loop-i-preserved-else-not-component_holds t c =
    descending_next _ _ _ _ _
    c.loop-i.invariant
    c.loop-i-test.true
    c.component_at-r.ensures
    c.if-r-parent.true
    (child_as _ _ _ _ _ _ _ c.next_row-end.ensures c.component_holds.ensures)
    c.if-not-component_holds.false

pub children_hold-loop-i-preserved : goal.children_hold-loop-i-preserved
children_hold-loop-i-preserved t c =
    let descending = c.loop-i.invariant in
    let inside = c.loop-i-test.true in
    let read = c.component_at-r.ensures in
    let other = c.if-r-parent.false in
    descending_other _ _ _ _ _ descending inside read other

pub children_hold-returns : goal.children_hold-returns
children_hold-returns t c = descending_end _ _ _ _ _ c.loop-i.invariant c.loop-i-test.false

-- ---- the components side by side

pub component_holds-component_at-r-requires : goal.component_holds-component_at-r-requires
component_holds-component_at-r-requires t c =
    c.requires.j_lt_count

pub component_holds-text_of-name-requires : goal.component_holds-text_of-name-requires
component_holds-text_of-name-requires t c =
    component_name _ _ _ c.requires.q_value c.requires.j_lt_count c.component_at-r.ensures

pub component_holds-some_component_named-requires : goal.component_holds-some_component_named-requires
component_holds-some_component_named-requires t c =
    let indexed = c.requires.given.indexed in
    let among = c.requires.among.components in
    record {
      indexed = indexed;
      components_at = among;
    }

pub component_holds-returns-then-r-eq1 : goal.component_holds-returns-then-r-eq1
component_holds-returns-then-r-eq1 t c =
    let read = c.component_at-r.ensures in
    let name = c.text_of-name.ensures in
    let absent = c.if-r-eq1.true in
    let tested = c.some_component_named.ensures in
    test_absent _ _ _ _ _ read absent name tested

pub component_holds-search-init : goal.component_holds-search-init
component_holds-search-init t c = beside_start _ c.requires.among.components

pub component_holds-returns-then-end-row : goal.component_holds-returns-then-end-row
component_holds-returns-then-end-row t c =
    let read = c.component_at-r.ensures in
    let there = c.if-r-eq1.false in
    let beside = c.search.invariant in
    let ended = c.if-end-row.true in
    test_there _ _ _ _ _ read there (here_none _ _ _ _ ∙ beside_end beside ended)

pub component_holds-trial_here-t-requires : goal.component_holds-trial_here-t-requires
component_holds-trial_here-t-requires t c = (
  omega (arith, c.decreases, c.requires.j_lt_count),
  (
    c.requires.q_value,
    (
      c.requires.j_lt_count,
      (
        record_name _ _ _ c.component_at-r.ensures c.text_of-name.ensures,
        (c.requires.context_good, (c.requires.given, (c.requires.removed_rows, beside_file c.search.invariant c.if-end-row.false c.requires.among.within))),
      ),
    ),
  ),
)

pub component_holds-gone_at-gone-requires : goal.component_holds-gone_at-gone-requires
component_holds-gone_at-gone-requires t c =
    c.requires.removed_rows.parts _ (row_number c.requires.given (beside_file c.search.invariant c.if-end-row.false c.requires.among.within))

pub component_holds-first_tried-k-requires : goal.component_holds-first_tried-k-requires
component_holds-first_tried-k-requires t c = c.trial_here-t.ensures.small

pub component_holds-loop-gone-init : goal.component_holds-loop-gone-init
component_holds-loop-gone-init t c = c.first_tried-k.ensures _

pub component_holds-goes_on-requires : goal.component_holds-goes_on-requires
component_holds-goes_on-requires t c =
    record {
      small_trial = c.trial_here-t.ensures.small;
      k_bound = omega (arith, c.loop-gone.invariant.few);
    }

pub component_holds-passes-requires : goal.component_holds-passes-requires
component_holds-passes-requires t c =
    let part = c.requires.removed_rows.parts _ (row_number c.requires.given (beside_file c.search.invariant c.if-end-row.false c.requires.among.within)) in
    record {
      small_trial = c.trial_here-t.ensures.small;
      ordered = subst Ordered (sym c.gone_at-gone.ensures) part.ordered;
      k_bound = omega (arith, c.loop-gone.invariant.few);
    }

pub component_holds-overflow_add-k : goal.component_holds-overflow_add-k
component_holds-overflow_add-k t c = omega (arith, c.loop-gone.invariant.few)

pub component_holds-loop-gone-smaller : goal.component_holds-loop-gone-smaller
component_holds-loop-gone-smaller t c = omega (arith, c.goes_on.ensures.few c.loop-gone-test.true)

pub component_holds-loop-gone-preserved : goal.component_holds-loop-gone-preserved
component_holds-loop-gone-preserved t c =
    tried_more _ _ _
    (c.goes_on.ensures.few c.loop-gone-test.true)
    c.loop-gone.invariant
    c.passes.ensures c.if-passes.false

pub component_holds-next_row-row-requires : goal.component_holds-next_row-row-requires
component_holds-next_row-row-requires t c = (beside_here c.search.invariant c.if-end-row.false).row.room

pub component_holds-search-smaller : goal.component_holds-search-smaller
component_holds-search-smaller t c =
    let h = beside_here c.search.invariant c.if-end-row.false in
    omega (arith, h.onward, h.within, c.next_row-row.ensures)

pub component_holds-search-preserved : goal.component_holds-search-preserved
component_holds-search-preserved t c =
    let trial = trial_by_part c.requires.removed_rows (beside_file c.search.invariant c.if-end-row.false c.requires.among.within).row (row_number c.requires.given (beside_file c.search.invariant c.if-end-row.false c.requires.among.within)) c.gone_at-gone.ensures c.trial_here-t.ensures in
    beside_next c.search.invariant c.if-end-row.false c.next_row-row.ensures
    (here_passed _ _ _ _ _ trial (tried_end _ _ _ trial.small c.loop-gone.invariant c.goes_on.ensures c.loop-gone-test.false))

pub component_holds-returns : goal.component_holds-returns
component_holds-returns t c =
    let trial = trial_by_part c.requires.removed_rows (beside_file c.search.invariant c.if-end-row.false c.requires.among.within).row (row_number c.requires.given (beside_file c.search.invariant c.if-end-row.false c.requires.among.within)) c.gone_at-gone.ensures c.trial_here-t.ensures in
    test_there _ _ _ _ _ c.component_at-r.ensures c.if-r-eq1.false
    (beside_found c.search.invariant c.if-end-row.false
    (here_found _ _ _ _ _ trial (tried_found _ _ _ trial.small c.passes.ensures c.if-passes.true)))

-- ---- one component

pub trial_here-alone_holds-requires : goal.trial_here-alone_holds-requires
trial_here-alone_holds-requires t c =
    record {
      q_value = c.requires.q_value;
      j_lt_count = c.requires.j_lt_count;
      name_value = c.requires.name_value;
      indexed = c.requires.given.indexed;
      row_of = c.requires.here.row;
      row_small = row_small c.requires.given c.requires.here;
    }

pub trial_here-overflow_add-j : goal.trial_here-overflow_add-j
trial_here-overflow_add-j t c =
    let few = c.args.q.now.fits.components_few in
    omega (arith, c.requires.j_lt_count, few)

pub trial_here-children_hold-requires : goal.trial_here-children_hold-requires
trial_here-children_hold-requires t c =
    (omega (arith, c.decreases, c.requires.j_lt_count), (c.requires.q_value, (omega (arith, c.requires.j_lt_count), (c.requires.context_good, (c.requires.given, (c.requires.removed_rows, c.requires.here))))))

pub trial_here-component_at-r-requires : goal.trial_here-component_at-r-requires
trial_here-component_at-r-requires t c =
    c.requires.j_lt_count

pub trial_here-trial_of-requires : goal.trial_here-trial_of-requires
trial_here-trial_of-requires t c =
    record {
      q_value = c.requires.q_value;
      r_le_count = component_range _ _ _ c.requires.q_value c.requires.j_lt_count c.component_at-r.ensures;
      context_good = c.requires.context_good;
      given = c.requires.given;
      here = c.requires.here;
    }

pub trial_here-returns-then-children_hold : goal.trial_here-returns-then-children_hold
trial_here-returns-then-children_hold t c =
    here_tried _ _ _ c.requires.given c.requires.here
    c.alone_holds.ensures
    c.children_hold.ensures
    c.if-alone_holds.true
    c.if-children_hold.true
    c.component_at-r.ensures c.trial_of.ensures

pub trial_here-returns-else-children_hold : goal.trial_here-returns-else-children_hold
trial_here-returns-else-children_hold t c =
    here_childless _ _ _ c.requires.given c.requires.here c.alone_holds.ensures c.children_hold.ensures c.if-children_hold.false

pub trial_here-returns-else-alone_holds : goal.trial_here-returns-else-alone_holds
trial_here-returns-else-alone_holds t c =
    here_not _ _ _ c.requires.given c.requires.here c.alone_holds.ensures c.if-alone_holds.false
