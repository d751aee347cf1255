use Rattle.std.proofs.Common.{rules, ◌-◌, map, List, Ok, ap, sym, ◌∙◌, arith}
use Rattle.std.proofs.lemmas.List.{map_push}
use Rattle.semantics.specs.Conditions.{Summand}
use Rattle.launch_text.specs.LaunchFaults as texts
use Rattle.launch_text.specs.LaunchSums.{sum_at}
use Rattle.syntax.specs.View.{parameter}
use Rattle.launch.specs.View.{summand}
use Rattle.launch_text.specs.Answers.{cursor, read}
use Rattle.launch_text.proofs.Sums.{sum_step, sum_spent, sum_ends, sum_goes}
use Rattle.launch_text.proofs.sum.sum.Goals as goal

pub returns-in_err-term : goal.returns-in_err-term
returns-in_err-term c =
    let ps = map parameter c.args.parameters.now in
    rw (c.loop-room.invariant.same ∙ sum_step c.args.has_products ps c.loop-room.room (map summand c.loop-room.terms.items) (cursor c.loop-room.rest) c.loop-room-test.true) (search rules)

pub returns-in_default : goal.returns-in_default
returns-in_default c =
    let ps = map parameter c.args.parameters.now in
    c.loop-room.invariant.same
    ∙ sum_ends c.args.has_products ps c.loop-room.room (map summand c.loop-room.terms.items) (cursor c.loop-room.rest) (read summand (c.in_ok-term.term, c.in_ok-term.after)) c.loop-room-test.true c.in_ok-term.ensures c.in_default.ensures
    ∙ ap (λ (ts : List Summand). Ok (ts, cursor c.in_ok-term.after)) (sym (ap (map summand) c.in_ok-push.ensures.items ∙ map_push summand c.loop-room.terms.items c.in_ok-term.term))

pub loop-room-preserved : goal.loop-room-preserved
loop-room-preserved c =
    let ps = map parameter c.args.parameters.now in
    record {
      few = omega (arith, c.loop-room.invariant.few, c.in_ok-push.ensures.len);
      same =
          c.loop-room.invariant.same
          ∙ sum_goes c.args.has_products ps c.loop-room.room (map summand c.loop-room.terms.items) (cursor c.loop-room.rest) (read summand (c.in_ok-term.term, c.in_ok-term.after)) c.loop-room-test.true c.in_ok-term.ensures c.in-Some.ensures.0
          ∙ ap (λ (ts : List Summand). sum_at c.args.has_products ps (c.loop-room.room - 1) ts (texts.past 3 (cursor c.in_ok-term.after))) (sym (ap (map summand) c.in_ok-push.ensures.items ∙ map_push summand c.loop-room.terms.items c.in_ok-term.term))
          ∙ ap (sum_at c.args.has_products ps (c.loop-room.room - 1) (map summand c.push.new.self.items)) (sym c.in-Some.ensures.1);
    }

pub returns : goal.returns
returns c =
    let ps = map parameter c.args.parameters.now in
    rw (c.loop-room.invariant.same ∙ sum_spent c.args.has_products ps c.loop-room.room (map summand c.loop-room.terms.items) (cursor c.loop-room.rest) (omega arith)) (search rules)
