use Rattle.std.proofs.Common.{◌-◌, length, sym, arith}
use Rattle.std.proofs.lemmas.Option.{get_or_from_slice_get, slice_get_within}
use Rattle.write_log.specs.Elements.{nowhere}
use Rattle.write_log.proofs.Growing.{goes-on_last}
use Rattle.write_log.proofs.rising.is_followed.Goals as goal

pub returns-in-Some : goal.returns-in-Some
returns-in-Some c = λ yes.
    let ts = c.args.stretches.now in
    let last = c.in-Some.last.now in
    let here = sym c.in-Some.ensures.value in
    let within = slice_get_within ts (length ts - 1) last here in
    let is = c.is_followed_by.ensures yes in
    goes-on_last ts c.args.places c.args.at c.args.kind c.requires.begins c.requires.apart (length ts - 1) (omega (arith, within)) last (get_or_from_slice_get ts (length ts - 1) last nowhere here) is.0 is.1 is.2 is.3
