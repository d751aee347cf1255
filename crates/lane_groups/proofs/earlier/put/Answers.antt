use Rattle.std.proofs.Common.{rules, ◌<◌, length}
use Rattle.lane_groups.proofs.Kept.{put_in}
use Rattle.lane_groups.proofs.earlier.put.Goals as goal

pub returns-in-Some-get_mut : goal.returns-in-Some-get_mut
returns-in-Some-get_mut c =
    let l : c.args.array < length c.args.rows.now.items = search rules in
    put_in c.args.rows.now.items c.args.array c.in-Some.row.now c.args.index c.args.word l c.in-Some.ensures.value c.requires
