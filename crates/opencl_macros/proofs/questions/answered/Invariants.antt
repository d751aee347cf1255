use Rattle.std.proofs.Common.{◌≡◌, [], drop}
use Rattle.opencl_tokens.specs.Seen.{site}
use Rattle.opencl_macros.specs.Questions.{answered, Nothing}
use Rattle.opencl_macros.specs.Seen.{table, tokens_seen}
use Rattle.opencl_macros.specs.SeenQuestions.{due}
use Rattle.opencl_macros.proofs.questions.answered.Given as goal

abbrev pub invariant-loop-token : goal.invariant-loop-token
invariant-loop-token l =
    answered (table l.entries) (site l.site) (due l.due) (tokens_seen l.out.items) (tokens_seen (drop l.token-index l.tokens))
    ≡ answered (table l.entries) (site l.site) Nothing [] (tokens_seen l.tokens)
