use Rattle.std.proofs.Common.{◌∙◌, ◌/◌, ◌<◌, sym, ap, subst, length, arith}
use Rattle.supports.specs.Candidates.{IsInGreatest}
use Rattle.supports.specs.Sets.{members}
use Rattle.board.proofs.Steps.{drops, but_others, but_lacks}
use Rattle.board.proofs.board.Board.refute.Goals as goal

pub fetch_and-requires : goal.fetch_and-requires
fetch_and-requires c =
    let board = c.args.self.now in
    let eight = board.eight in
    let few = board.few in
    let candidate = c.args.candidate in
    let lt : candidate / 64 < 8 = omega (arith, c.requires.candidate.0) in
    let out = subst (λ t. ¬ (IsInGreatest t candidate)) (sym board.same) c.requires.candidate.1 in
    (c.requires.seat.0, omega arith, λ s rule homes at fits. drops board.table.shared.key board.table.shared.table_id.slots (candidate / 64) c.all_but-mask.result c.args.seat.now.id c.args.seat.now.me s lt (but_others board.table.shared.key candidate c.all_but-mask.result c.all_but-mask.ensures.others out) rule at)

pub returns-clause-seen : goal.returns-clause-seen
returns-clause-seen c =
    let told = c.fetch_and.ensures.2 in
    let few = c.args.self.now.few in
    let lt : c.args.candidate < 512 = omega (arith, c.requires.candidate.0) in (
      subst (λ t. c.args.candidate < length t) (sym (told.view.0 ∙ c.requires.seat.2.0)) c.requires.candidate.0,
      ap (λ l. members l c.args.candidate) told.left ∙ but_lacks c.args.seat.now.me.0.left c.fetch_and.result c.args.candidate c.all_but-mask.result c.requires.seat.2.1 lt c.all_but-mask.ensures.lacks,
    )
