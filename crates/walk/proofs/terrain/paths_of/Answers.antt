use Rattle.std.proofs.Common.{[], ◌∷◌, ap, refl, ◌∙◌}
use Rattle.core_code.specs.View.{kernel}
use Rattle.obligations.specs.Owning.{all_own_accesses, all_own_ends}
use Rattle.obligations.specs.View.{seen}
use Rattle.path_steps.specs.View.{setting}
use Rattle.places.specs.View.{place}
use Rattle.walk.specs.Planting.{planted_by}
use Rattle.walk.proofs.Trees.{accesses_are, ends_are}
use Rattle.walk.proofs.terrain.paths_of.Goals as goal

pub own_paths-requires-clause-accesses : goal.own_paths-requires-clause-accesses
own_paths-requires-clause-accesses g c =
    let s = c.args.setting.now in
    let p = place c.args.place.now in
    let t = planted_by g.D.Domain (setting g.D.Domain s) (kernel c.args.core.now) (seen c.args.notes.now s.entries.items) c.args.claims p in
    ap all_own_accesses (accesses_are (c.in_ok-from.from.walked ∷ []) (t ∷ []) (c.in_ok-from.ensures.walked, refl)) ∙ (c.requires.own c.args.claims p).0

pub own_paths-requires-clause-ends : goal.own_paths-requires-clause-ends
own_paths-requires-clause-ends g c =
    let s = c.args.setting.now in
    let p = place c.args.place.now in
    let t = planted_by g.D.Domain (setting g.D.Domain s) (kernel c.args.core.now) (seen c.args.notes.now s.entries.items) c.args.claims p in
    ap all_own_ends (ends_are (c.in_ok-from.from.walked ∷ []) (t ∷ []) (c.in_ok-from.ensures.walked, refl)) ∙ (c.requires.own c.args.claims p).1
