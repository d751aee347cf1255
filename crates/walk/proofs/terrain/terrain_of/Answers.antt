use Rattle.std.proofs.Common.{[], ◌∷◌, refl, sym, ap, ◌∙◌}
use Rattle.core_code.specs.View.{kernel}
use Rattle.launch.specs.View.{conditions}
use Rattle.obligations.specs.Listing.{accesses_of, ends_in}
use Rattle.obligations.specs.Owning.{all_own_accesses, all_own_ends}
use Rattle.obligations.specs.View.{seen}
use Rattle.obligations.proofs.OwnPlaces.{accesses-own-from, ends-own-from}
use Rattle.walk.proofs.AllFound.{from_are, trees_are}
use Rattle.walk.proofs.terrain.terrain_of.Goals as goal

pub returns-clause-whole : goal.returns-clause-whole
returns-clause-whole g c =
    let core = c.args.core.now in
    let cs = conditions c.args.conditions.now in
    let said = c.args.notes.now in
    let setting = c.in_ok-setting.setting in
    let entries = setting.entries.items in
    let s = c.in_ok-setting.ensures in
    let tells = c.requires.items entries in
    let is = from_are g.D.Domain core cs said entries setting s.wide s.joins s.known s.sizes s.buffers s.arrays s.contents refl c.args.places.now c.requires.places in
    record {
      sizes = c.requires.sizes;
      trees = sym (trees_are g.D.Domain core cs said entries setting s.wide s.joins s.known s.sizes s.buffers s.arrays s.contents refl c.args.places.now c.requires.places);
      known = s.known;
      own_accesses = c.trees_have_own_symbols.ensures.accesses (kernel core) cs (seen said entries) tells;
      own_ends = c.trees_have_own_symbols.ensures.ends (kernel core) cs (seen said entries) tells;
      own = λ claims p. (
        ap (λ ts. all_own_accesses (accesses_of ts)) (is claims (p ∷ [])) ∙ accesses-own-from g.D.Domain (kernel core) cs (seen said entries) tells claims (p ∷ []),
        ap (λ ts. all_own_ends (ends_in ts)) (is claims (p ∷ [])) ∙ ends-own-from g.D.Domain (kernel core) cs (seen said entries) tells claims (p ∷ []),
      );
    }
