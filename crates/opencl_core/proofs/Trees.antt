-- What nodes stand for, by the `Vec`s that they hold.
use Rattle.std.proofs.lemmas.List.{map-append}
use Rattle.opencl_tree.proofs.Rows as tree_rows
use Rattle.opencl_tree.proofs.Rows.{seen_call, seen_listed, seen_while, seen_do, seen_switch, seen_block, seen_for}
use Rattle.core_code.proofs.Rows.{seen_loop}
use Rattle.core_code.proofs.Rows as core_rows

pub ruleset nodes = (tree_rows.seen_if, seen_while, seen_do, seen_for, seen_switch, seen_block)

pub ruleset calls = (seen_call)

pub ruleset lists = (seen_listed)

pub ruleset parts = (core_rows.seen_if, seen_loop, map-append)
