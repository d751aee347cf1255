-- What nodes stand for, by the `Vec`s that they hold.
use Rattle.opencl_tree.proofs.Rows.{seen_call, seen_vector, seen_if, seen_while, seen_do, seen_for, seen_switch, seen_block}

pub ruleset rows = (seen_call, seen_vector)

pub ruleset nodes = (seen_if, seen_while, seen_do, seen_for, seen_switch, seen_block)
