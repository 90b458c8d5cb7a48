-- `series::columns::RemovedColumn::gone_at` meets its contract: what stands between the two places is the part of row k.
use Rattle.series.proofs.ColumnsLaws.{gone_read}
use mathlib.Core.Path.{refl}
use Rattle.series.proofs.columns.RemovedColumn.gone_at.Goals as goal

pub returns : goal.returns
returns c = gone_read _ _ _ refl refl
