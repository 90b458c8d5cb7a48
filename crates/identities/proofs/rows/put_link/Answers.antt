-- `identities::rows::put_link` meets its contract: the numbers handed to `put_row` are those of the link.
use Rattle.identities.proofs.LinkRows.{put_as}
use Rattle.identities.proofs.rows.put_link.Goals as goal

pub returns : goal.returns
returns c =
    put_as _
    c.uid_numbers-uid.ensures
    c.recurrence_numbers-recurrence.ensures
    c.kinds_tag-kinds.ensures
    c.put_row.ensures
