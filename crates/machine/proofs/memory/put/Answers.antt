use Rattle.std.proofs.Common.{rules, ◌<◌, length}
use Rattle.write_log.proofs.Entries.{put-is}
use Rattle.machine.proofs.memory.put.Goals as goal

pub returns-in-Some-get_mut : goal.returns-in-Some-get_mut
returns-in-Some-get_mut c =
    let l : c.args.array < length c.args.arrays.now.words.items = search rules in
    put-is c.args.arrays.now.words.items c.args.array c.args.index c.in-Some.words.now c.args.word l c.in-Some.ensures.value
