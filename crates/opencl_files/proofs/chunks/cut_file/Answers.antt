use Rattle.std.proofs.Common.{◌≡◌, ◌+◌, ◌≤◌, ◌++◌, ◌∷◌, [], ap, sym, ◌∙◌, arith, drop, map}
use Rattle.std.specs.List.{slice_range}
use Rattle.std.proofs.lemmas.List.{map-append}
use Rattle.opencl_parser.specs.View.{lexemes}
use Rattle.opencl_files.specs.Chunks.{cut, turned}
use Rattle.opencl_files.specs.View.{brackets, chunk, chunks}
use Rattle.opencl_files.proofs.Cutting.{brackets-none, within, last}
use Rattle.opencl_files.proofs.chunks.cut_file.Goals as goal
use Rattle.opencl_files.proofs.chunks.cut_file.Goals.{in-Within, in-Last+in_ok-push-in-Last}

pub loop-at-init : goal.loop-at-init
loop-at-init c = record {
  same = rw (c.new-done.ensures.items, c.new-stack.ensures.items, brackets-none);
  before = omega arith;
}

pub loop-at-preserved : goal.loop-at-preserved
loop-at-preserved c =
    let ts = c.args.tokens.now in
    let at = c.loop-at.at in
    let from = c.loop-at.from in
    let stack = brackets c.loop-at.stack.items in
    let after = brackets c.turned.new.stack.items in
    let done = chunks c.loop-at.done.items in
    let rest = lexemes (drop (at + 1) ts) in
    record {
      same = c.loop-at.invariant.same ∙ elim c.match-branch-2.branch [
        | in-Within w ↦
            within done stack after ts from at _ c.loop-at.invariant.before c.loop-at-test.true
            ((rw w.in-Within.is at c.in_ok-turned.ensures) ∙ ap (turned stack) c.turn_of.ensures)
            ∙ ap (λ v. cut (chunks v.items) after (lexemes (slice_range ts from (at + 1))) rest) (sym w.done-is)
            ∙ ap (λ n. cut (chunks c.match-branch-2.done.items) after (lexemes (slice_range ts n (at + 1))) rest) (sym w.from-is)
        | in-Last+in_ok-push-in-Last w ↦
            last done stack after ts from at _ (chunk w.chunk_of.result) c.loop-at.invariant.before c.loop-at-test.true
            ((rw w.in-Last.is at c.in_ok-turned.ensures) ∙ ap (turned stack) c.turn_of.ensures) w.chunk_of.ensures
            ∙ ap (λ cs. cut cs after (lexemes (slice_range ts (at + 1) (at + 1))) rest) (sym (ap (map chunk) w.in_ok-push-in-Last.ensures.items ∙ map-append chunk c.loop-at.done.items (w.chunk_of.result ∷ [])))
            ∙ ap (λ v. cut (chunks v.items) after (lexemes (slice_range ts (at + 1) (at + 1))) rest) (sym w.done-is)
            ∙ ap (λ n. cut (chunks c.match-branch-2.done.items) after (lexemes (slice_range ts n (at + 1))) rest) (sym w.from-is)
      ];
      before = elim c.match-branch-2.branch [ in-Within w ↦ omega arith | in-Last+in_ok-push-in-Last w ↦ omega arith ];
    }
