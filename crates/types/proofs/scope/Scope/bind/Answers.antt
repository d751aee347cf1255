use Rattle.std.proofs.Common.{◌≡◌, true, rules, sym, ◌∙◌, refl}
use Rattle.types.specs.Scope as scoping
use Rattle.types.specs.Names.{scope_seen}
use Rattle.types.proofs.Bindings.{bound}
use Rattle.types.proofs.scope.Scope.bind.Goals as goal

pub returns : goal.returns
returns c =
    let declared : c.may_declare.result ≡ true = search rules in
    let may : scoping.may_declare (scope_seen c.args.self.now) c.args.name.now ≡ true = sym c.may_declare.ensures ∙ declared in
    let last = bound c.args.self.now.visible c.insert.new.self c.args.name c.args.meaning (scoping.is_taken c.args.name.now) may c.in_ok-insert.ensures.entries in
    rw (may, last) refl
