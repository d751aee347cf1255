use Rattle.std.proofs.Common.{◌∙◌, sym, ⊎_elim, inr, [], get_or}
use Rattle.std.proofs.lemmas.Bool.{false≢true}
use Rattle.std.proofs.lemmas.List.Elements.{All-contains}
use Rattle.supports.specs.Sets.{members}
use Rattle.supports.specs.Candidates.{IsSupported}
use Rattle.supports.proofs.Greatest.{refutes}
use Rattle.board.proofs.Readings.{read_on}
use Rattle.board.proofs.board.Board.examine.Goals as goal

pub returns-then-is_supported-clause-exact : goal.returns-then-is_supported-clause-exact
returns-then-is_supported-clause-exact c =
    let words = c.alive-set.result.words in (
      words,
      c.alive-set.ensures.read,
      (λ r. ⊎_elim
          (λ f. false≢true (sym f ∙ (sym c.contains.ensures ∙ c.if-not-contains.false)))
          (λ u. u.2 (All-contains (IsSupported (members words)) (get_or c.args.self.now.supports c.args.candidate []) u.0 (c.is_supported.ensures.shown c.if-is_supported.true) u.1))
          r),
    )

pub refute-requires-clause-candidate : goal.refute-requires-clause-candidate
refute-requires-clause-candidate c = (c.requires.candidate, refutes c.args.self.now.supports (members c.alive-set.result.words) c.args.candidate c.alive-set.ensures.read.greatest (c.is_supported.ensures.lacking c.if-is_supported.false))

pub returns-clause-exact : goal.returns-clause-exact
returns-clause-exact c = (c.alive-set.result.words, read_on c.args.self.now c.args.seat.now c.alive-set.new.seat c.refute.new.seat c.alive-set.result.words c.alive-set.ensures.read c.refute.ensures.more, inr (c.is_supported.ensures.lacking c.if-is_supported.false))

pub returns-clause-refuted : goal.returns-clause-refuted
returns-clause-refuted c = λ _. (c.refute.ensures.seen, refutes c.args.self.now.supports (members c.alive-set.result.words) c.args.candidate c.alive-set.ensures.read.greatest (c.is_supported.ensures.lacking c.if-is_supported.false))
