use Rattle.std.proofs.Common.{◌≡◌, rules, sym, refl, subst}
use Rattle.write_log.specs.Elements.{GoesOn}
use Rattle.write_log.proofs.Growing.{goes-on_new}
use Rattle.write_log.proofs.rising.go_on.Goals as goal

pub returns-clause-ok : goal.returns-clause-ok
returns-clause-ok c =
    let ts = c.args.stretches.now.items in
    let start : c.in-Ok.start ≡ c.args.places = search rules in
    subst (λ us. GoesOn ts us c.args.places c.args.at c.args.kind) (sym c.in_ok-push.ensures.items)
    (goes-on_new ts c.args.places _ c.requires.begins c.requires.apart start c.args.at c.args.kind refl refl refl)
