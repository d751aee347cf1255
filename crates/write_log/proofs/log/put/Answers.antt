use Rattle.std.proofs.Common.{rules, ◌<◌, length}
use Rattle.write_log.proofs.Entries.{put-is}
use Rattle.write_log.proofs.log.put.Goals as goal

pub returns-in-Some-get_mut : goal.returns-in-Some-get_mut
returns-in-Some-get_mut c =
    let l : c.args.buffer < length c.args.buffers.now.words.items = search rules in
    put-is c.args.buffers.now.words.items c.args.buffer c.args.index c.in-Some.words.now c.args.word l c.in-Some.ensures.value
