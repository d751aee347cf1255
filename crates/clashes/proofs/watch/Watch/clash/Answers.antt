use Rattle.std.proofs.Common.{map}
use Rattle.clashes.specs.View.{access}
use Rattle.clashes.proofs.Clashing.{no_access, first_at, first_clash, none_clashes}
use Rattle.clashes.proofs.watch.Watch.clash.Goals as goal

pub returns-in-Some : goal.returns-in-Some
returns-in-Some c = λ s n w.
    let h = c.args.history.now in
    let place = c.in_ok-place.place in
    let first = c.in-Some.ensures.first s no_access n in
    first_clash s h no_access place c.in-Some.before (first_at s (map access h) c.args.self.now place c.in_ok-place.was w) c.if-place-history.false c.in-Some.ensures.below first.0 first.1

pub returns-in-None : goal.returns-in-None
returns-in-None c = λ s n w a b p q k.
    let h = c.args.history.now in
    let place = c.in_ok-place.place in
    none_clashes s h no_access place (first_at s (map access h) c.args.self.now place c.in_ok-place.was w) c.if-place-history.false (c.in-None.ensures.first s no_access n)
