use Rattle.std.proofs.Common.{◌∙◌, sym, ap, drop}
use Rattle.std.proofs.lemmas.List.{take_rest}
use Rattle.opencl_tokens.specs.Spelling.{sign}
use Rattle.opencl_macros.specs.Macros.{is_front}
use Rattle.opencl_macros.specs.Seen.{tokens_seen}
use Rattle.opencl_macros.proofs.Pieces.{ending}
use Rattle.opencl_macros.proofs.directives.ends_with.Goals as goal

pub returns : goal.returns
returns c =
    (rw take_rest at c.is_front.ensures) ∙ ap (is_front (sign c.args.wanted))
    (ap (λ n. tokens_seen (drop n c.args.tokens.now)) c.saturating_sub.ensures ∙ sym (ending c.args.tokens.now))
