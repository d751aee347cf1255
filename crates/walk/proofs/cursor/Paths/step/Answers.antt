use Rattle.std.proofs.Common.{◌≡◌, ◌<◌, ◌∙◌, map, length, get_or, slice_index_or, rules, sym, ap, subst}
use Rattle.facts.proofs.Unmade.{passed}
use Rattle.path_steps.specs.View.{choice}
use Rattle.places.specs.declared.place.Place.{Place}
use Rattle.walk.specs.Cursors.{IsUnfoundIn, IsWithin}
use Rattle.walk.specs.Steps.{IsOn}
use Rattle.walk.proofs.CursorSteps.{here, stepped, stuck_here, within_here}
use Rattle.walk.proofs.cursor.Paths.step.Goals as goal

pub walk_one-requires-clause-within : goal.walk_one-requires-clause-within
walk_one-requires-clause-within g c =
    let t = c.args.terrain.now in
    let p = c.args.self.now in
    let x = slice_index_or t.places.now p.at c.index-terrain-self.result in
    let lt : p.at < length t.places.now = search rules in
    let e : x ≡ get_or t.places.now p.at x = ap (λ (d : Place). slice_index_or t.places.now p.at d) c.index-terrain-self.is in
    let s = c.in_ok-given.ensures.items ∙ c.as_slice.ensures.value in
    subst (λ cs. IsWithin (here g.D.Domain t p x lt e) p.ends (map choice cs)) (sym s) (within_here g.D.Domain t p x lt e c.requires)

pub returns-in_err-walked-clause-unfound : goal.returns-in_err-walked-clause-unfound
returns-in_err-walked-clause-unfound g c =
    let t = c.args.terrain.now in
    let p = c.args.self.now in
    let x = slice_index_or t.places.now p.at c.index-terrain-self.result in
    let lt : p.at < length t.places.now = search rules in
    let e : x ≡ get_or t.places.now p.at x = ap (λ (d : Place). slice_index_or t.places.now p.at d) c.index-terrain-self.is in
    let z = c.in_err-walked.field-0.0 in
    passed c.from_residual-in_err-walked.result z (IsUnfoundIn g.D.Domain t) c.from_residual-in_err-walked.ensures.1 (stuck_here g.D.Domain t p x lt e c.requires z c.in_err-walked.ensures.stuck)

pub returns-clause-step : goal.returns-clause-step
returns-clause-step g c =
    let t = c.args.terrain.now in
    let p = c.args.self.now in
    let x = slice_index_or t.places.now p.at c.index-terrain-self.result in
    let lt : p.at < length t.places.now = search rules in
    let e : x ≡ get_or t.places.now p.at x = ap (λ (d : Place). slice_index_or t.places.now p.at d) c.index-terrain-self.is in
    let s = c.in_ok-given.ensures.items ∙ c.as_slice.ensures.value in
    let on = subst (λ cs. IsOn (here g.D.Domain t p x lt e) (map choice cs) p.ends c.in_ok-walked.walked) s c.in_ok-walked.ensures.on in
    stepped g.D.Domain t p x lt e c.requires c.in_ok-walked.walked on c.stepped.result c.stepped.ensures
