use Rattle.std.proofs.Common.{◌≡◌, ◌+◌, ◌-◌, ◌*◌, [], drop}
use Rattle.opencl_tokens.specs.Seen.{site}
use Rattle.opencl_macros.specs.Machine.{machine, expanded, expanded_all, arguments_with}
use Rattle.opencl_macros.specs.Seen.{active, arguments, table}
use Rattle.opencl_macros.specs.SeenMachine.{machine as machine_seen, done_seen}
use Rattle.opencl_macros.proofs.machine.+expansion.Given as goal

abbrev pub invariant-run-loop-turn : goal.invariant-run-loop-turn
invariant-run-loop-turn l =
    machine (4194304 - l._turn) (expanded l.depth (table l.entries)) (site l.site) (table l.entries) (machine_seen l.m)
    ≡ machine 4194304 (expanded l.depth (table l.entries)) (site l.site) (table l.entries) (machine_seen l.initial.m)

abbrev pub invariant-expanded_all-loop-argument : goal.invariant-expanded_all-loop-argument
invariant-expanded_all-loop-argument l =
    expanded_all (expanded l.depth (table l.entries)) (site l.site) (active l.active) (done_seen l.found)
    (arguments (drop l.argument-index l.arguments))
    ≡ expanded_all (expanded l.depth (table l.entries)) (site l.site) (active l.active) (arguments_with [] l.left) (arguments l.arguments)

abbrev pub decreases-expanded : goal.decreases-expanded
decreases-expanded l = l.depth * 10 + 0

abbrev pub decreases-run : goal.decreases-run
decreases-run l = l.depth * 10 + 9

abbrev pub decreases-advance : goal.decreases-advance
decreases-advance l = l.depth * 10 + 8

abbrev pub decreases-perform : goal.decreases-perform
decreases-perform l = l.depth * 10 + 7

abbrev pub decreases-expanded_all : goal.decreases-expanded_all
decreases-expanded_all l = l.depth * 10 + 6
