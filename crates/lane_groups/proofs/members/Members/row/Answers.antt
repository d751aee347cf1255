use Rattle.std.proofs.Common.{rules, ◌≡◌, length}
use Rattle.lane_groups.proofs.Based.{unstored_row}
use Rattle.lane_groups.proofs.members.Members.row.Goals as goal

pub returns : goal.returns
returns c =
    let row = c.in-Some.row.now in
    let same : length row ≡ c.args.source.extent = search rules in record {
      count = same;
      each = λ s lane n. unstored_row s c.args.self.now c.args.source row lane c.args.self.now.overlay.group n (c.has_none.ensures c.if-not-has_none.false lane n) c.in-Some.ensures.group (c.in-Some.ensures.words n);
    }
