-- `time::writing::write_utc` meets its contract: two runs of bytes, one behind the other, are the text.
use Rattle.time.proofs.WritingLaws.{written_parts}
use Rattle.time.proofs.writing.write_utc.Goals as goal

pub returns : goal.returns
returns c =
    let out = c.args.out.now in
    let place = c.args.at in
    let second = c.args.t in
    let day = c.day_of.ensures in
    let dated = c.put_date.ensures in
    let timed = c.put_time.ensures in
    written_parts out _ _ place second _ day dated timed
