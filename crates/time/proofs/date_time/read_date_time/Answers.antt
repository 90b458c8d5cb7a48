-- `time::date_time::read_date_time` meets its contract: the length decides, and at sixteen bytes the Z.
use Rattle.time.proofs.DateTime.{read_date_time_floating, read_date_time_length, read_date_time_mark, read_date_time_utc}
use mathlib.Core.Path.{◌∙◌}
use native.Mathlib.Omega.{arith}
use Rattle.time.proofs.date_time.read_date_time.Goals.{then-s-eq16+else-upper-ne90, else-s-eq16+else-s-ne15}
use Rattle.time.proofs.date_time.read_date_time.Goals as goal

pub returns-then-upper-ne90 : goal.returns-then-upper-ne90
returns-then-upper-ne90 c = read_date_time_mark _ _ c.if-s-eq16.true c.upper.ensures c.if-upper-ne90.true

pub returns-then-s-ne15 : goal.returns-then-s-ne15
returns-then-s-ne15 c = read_date_time_length _ c.if-s-ne15.true c.if-s-eq16.false

pub clock_at-requires : goal.clock_at-requires
clock_at-requires c = elim c.if-s-eq16.branch [ then-s-eq16+else-upper-ne90 w ↦ omega arith | else-s-eq16+else-s-ne15 w ↦ omega arith ]

pub returns : goal.returns
returns c =
    c.clock_at.ensures
    ∙ elim c.if-s-eq16.branch [
      | then-s-eq16+else-upper-ne90 w ↦ rw w.kind-is (read_date_time_utc _ _ w.if-s-eq16.true w.upper.ensures w.if-upper-ne90.false)
      | else-s-eq16+else-s-ne15 w ↦ rw w.kind-is (read_date_time_floating _ w.if-s-ne15.false)
    ]
