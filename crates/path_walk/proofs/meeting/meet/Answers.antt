use Rattle.std.proofs.Common.{◌≡◌, rules, true, subst, sym, ◌∙◌, SFits, w64}
use Rattle.std.proofs.lemmas.Int.{to_z-of_z}
use Rattle.linear.specs.Forms.{form}
use Rattle.words.specs.View.{kind}
use Rattle.walk_trees.specs.Bits.{is_run}
use Rattle.path_walk.proofs.BitPlaces.{found_run}
use Rattle.path_walk.proofs.meeting.meet.Goals as goal

pub in_run-requires-clause-above : goal.in_run-requires-clause-above
in_run-requires-clause-above g c = (found_run (kind c.args.kind) (form c.args.right.now) c.in-Some.lowest (sym c.run_in.ensures ∙ c.in-Some.is)).above

pub in_run-requires-clause-few : goal.in_run-requires-clause-few
in_run-requires-clause-few g c = (found_run (kind c.args.kind) (form c.args.right.now) c.in-Some.lowest (sym c.run_in.ensures ∙ c.in-Some.is)).few

pub in_run-requires-clause-run : goal.in_run-requires-clause-run
in_run-requires-clause-run g c =
    let z : SFits w64 c.constant_part.result = search rules in
    subst (λ n. is_run (kind c.args.kind) c.in-Some.lowest n ≡ true) (sym (to_z-of_z w64 c.constant_part.result z ∙ c.constant_part.ensures)) (found_run (kind c.args.kind) (form c.args.right.now) c.in-Some.lowest (sym c.run_in.ensures ∙ c.in-Some.is)).run
