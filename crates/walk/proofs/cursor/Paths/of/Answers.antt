use Rattle.std.proofs.Common.{map, ap, sym, ◌∙◌}
use Rattle.facts.specs.Launching.{launch_facts}
use Rattle.path_steps.specs.Turns.{listed_accesses, listed_ends}
use Rattle.path_steps.specs.View.{choice}
use Rattle.obligations.specs.Listing.{claims_of, accesses_of, ends_in}
use Rattle.two_thread.specs.Goals.{owed}
use Rattle.walk.specs.Cursors.{claims_from, conditions_of, listed_from, trees_at}
use Rattle.walk.proofs.CursorSteps.{begins}
use Rattle.walk.proofs.Stepping.{accesses_all, claims_all, ends_all}
use Rattle.walk.proofs.cursor.Paths.of.Goals as goal

pub returns-clause-stands : goal.returns-clause-stands
returns-clause-stands g c = record {
  whole = c.requires;
  comes = begins g.D.Domain c.args.terrain.now (map choice c.new.result.items) (ap (map choice) c.new.ensures.items) c.requires;
}

pub returns-clause-claims : goal.returns-clause-claims
returns-clause-claims g c =
    let t = c.args.terrain.now in
    let ts = trees_at g.D.Domain t 0 0 in
    ap (λ l. map (owed (launch_facts (conditions_of t))) (claims_from (map choice l) ts)) c.new.ensures.items
    ∙ claims_all (conditions_of t) ts ∙ ap (claims_of (conditions_of t)) (sym c.requires.trees)

pub returns-clause-accesses : goal.returns-clause-accesses
returns-clause-accesses g c =
    let ts = trees_at g.D.Domain c.args.terrain.now 0 0 in
    ap (λ l. listed_from listed_accesses (map choice l) ts) c.new.ensures.items ∙ accesses_all ts ∙ ap accesses_of (sym c.requires.trees)

pub returns-clause-ends : goal.returns-clause-ends
returns-clause-ends g c =
    let ts = trees_at g.D.Domain c.args.terrain.now 0 0 in
    ap (λ l. listed_from listed_ends (map choice l) ts) c.new.ensures.items ∙ ends_all ts ∙ ap ends_in (sym c.requires.trees)
