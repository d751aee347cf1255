use Rattle.std.proofs.Common.{◌≡◌, subst, sym}
use Rattle.std.specs.Prelude.{IfOk}
use Rattle.entry_check.specs.Rows.{all_alone, held_rows}
use Rattle.entry_check.proofs.paired.are_alone.Goals as goal

pub returns-in-Ends-clause-exact : goal.returns-in-Ends-clause-exact
returns-in-Ends-clause-exact g c = subst (λ k. c.are_final.result ≡ all_alone c.args.terrain.now k (held_rows k c.args.met.now)) (sym c.in-Ends.is) c.are_final.ensures

pub returns-in-Accesses-clause-exact : goal.returns-in-Accesses-clause-exact
returns-in-Accesses-clause-exact g c = subst (λ k. IfOk c.are_lone.result (λ b. b ≡ all_alone c.args.terrain.now k (held_rows k c.args.met.now))) (sym c.in-Accesses.is) c.are_lone.ensures.exact
