use Rattle.std.proofs.Common.{◌-◌, arith}
use Rattle.facts.specs.View.{known_seen}
use Rattle.walk_trees.specs.Seconds.{element_of_factor}
use Rattle.path_steps.specs.View.{held_seen}
use Rattle.two_thread.proofs.Elements.{first_factor, last_factor, next_factor}
use Rattle.two_thread.proofs.two.element_of_product.Goals as goal

pub loop-most-init : goal.loop-most-init
loop-most-init g c =
    first_factor g.D.Domain (element_of_factor g.D.Domain (known_seen c.args.known.now) (held_seen c.args.first.news.now c.args.first.narrowed.now) (held_seen c.args.second.news.now c.args.second.narrowed.now))
    c.args.packed c.element_of_factor-so_far.result (omega arith) c.element_of_factor-so_far.ensures

pub returns-then-digit-eq0-2 : goal.returns-then-digit-eq0-2
returns-then-digit-eq0-2 g c =
    last_factor g.D.Domain (element_of_factor g.D.Domain (known_seen c.args.known.now) (held_seen c.args.first.news.now c.args.first.narrowed.now) (held_seen c.args.second.news.now c.args.second.narrowed.now))
    c.loop-most.so_far c.loop-most.most c.loop-most.left _ c.if-digit-eq0-2.true c.loop-most.invariant

pub loop-most-preserved : goal.loop-most-preserved
loop-most-preserved g c =
    next_factor g.D.Domain (element_of_factor g.D.Domain (known_seen c.args.known.now) (held_seen c.args.first.news.now c.args.first.narrowed.now) (held_seen c.args.second.news.now c.args.second.narrowed.now))
    c.loop-most.so_far c.loop-most.most (c.loop-most.most - 1) c.loop-most.left c.element_of_factor.result c.mul-so_far.result _ (omega arith) (omega arith) c.element_of_factor.ensures c.mul-so_far.ensures c.loop-most.invariant
