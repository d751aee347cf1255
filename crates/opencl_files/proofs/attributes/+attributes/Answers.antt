use Rattle.std.proofs.Common.{◌≡◌, ◌-◌, false, nat_eq, cond, ap, ◌∙◌, rules, arith}
use Rattle.std.proofs.lemmas.Bool.Decides.{nat_tests}
use Rattle.opencl_parser.specs.Reader.{Gives, front, behind, run}
use Rattle.opencl_parser.specs.View.{lexemes}
use Rattle.opencl_files.specs.Headers.{Closing, attribute_part, attributes, by_part}
use Rattle.opencl_files.specs.View.{maybe_sizes}
use Rattle.opencl_files.proofs.HeaderSteps.{attributes-less}
use Rattle.opencl_files.proofs.attributes.+attributes.Goals as goal

pub returns-else-depth-eq1 : goal.returns-else-depth-eq1
returns-else-depth-eq1 t c =
    let left = c.args.left in
    let depth = c.args.depth in
    let so = maybe_sizes c.args.so in
    let ts = lexemes c.args.tokens.now in
    let other : nat_eq depth 1 ≡ false = grind (arith, nat_tests, c.if-depth-eq1.false) in
    let part : attribute_part depth (front ts).kind ≡ Closing = search rules in
    rw (attributes-less left depth so ts c.if-left-eq0.false ∙ ap (λ p. run (by_part (attributes (left - 1)) depth so p) ts) part
    ∙ ap (λ b. run (cond b (Gives so) (attributes (left - 1) (depth - 1) so)) (behind ts)) other) (search rules)
