use Rattle.std.proofs.Common.{sym, ◌∙◌}
use Rattle.core_code.specs.View.{kernel}
use Rattle.launch.specs.View.{conditions}
use Rattle.linear.specs.Forms.{forms}
use Rattle.facts.proofs.Unmade.{passed}
use Rattle.obligations.specs.View.{seen}
use Rattle.walk.specs.Unfound.{IsUnfound}
use Rattle.walk.specs.declared.error.FindError.TheVariants as errors
use Rattle.walk.proofs.AllFound.{stuck_all, few_all, trees_fitting, own_accesses, own_ends, found_is, own_found, ungathered}
use Rattle.walk.proofs.finding.find.Goals as goal

pub returns-in_err-walked-clause-unfound : goal.returns-in_err-walked-clause-unfound
returns-in_err-walked-clause-unfound g c =
    let core = c.args.core.now in
    let cs = conditions c.args.conditions.now in
    let said = c.args.notes.now in
    let entries = c.args.entries.items in
    let s = c.in_ok-setting.ensures in
    let x = c.in_err-walked.field-0.0 in
    passed c.from_residual-in_err-walked.result x (IsUnfound g.D.Domain (kernel core) cs (seen said entries)) c.from_residual-in_err-walked.ensures.1
    (stuck_all g.D.Domain core cs said entries c.in_ok-setting.setting s.wide s.joins s.known s.sizes s.buffers s.arrays s.contents s.entries c.args.places.now c.requires.places x c.in_err-walked.ensures.stuck)

pub of-requires-clause-accesses : goal.of-requires-clause-accesses
of-requires-clause-accesses g c =
    let core = c.args.core.now in
    let cs = conditions c.args.conditions.now in
    let said = c.args.notes.now in
    let entries = c.args.entries.items in
    let s = c.in_ok-setting.ensures in
    own_accesses g.D.Domain core cs said entries c.in_ok-setting.setting s.wide s.joins s.known s.sizes s.buffers s.arrays s.contents s.entries c.args.places.now c.requires.places c.in_ok-walked.walked.items c.in_ok-walked.ensures.walked (c.trees_have_own_symbols.ensures.accesses (kernel core) cs (seen said entries) (c.requires.items entries))

pub of-requires-clause-ends : goal.of-requires-clause-ends
of-requires-clause-ends g c =
    let core = c.args.core.now in
    let cs = conditions c.args.conditions.now in
    let said = c.args.notes.now in
    let entries = c.args.entries.items in
    let s = c.in_ok-setting.ensures in
    own_ends g.D.Domain core cs said entries c.in_ok-setting.setting s.wide s.joins s.known s.sizes s.buffers s.arrays s.contents s.entries c.args.places.now c.requires.places c.in_ok-walked.walked.items c.in_ok-walked.ensures.walked (c.trees_have_own_symbols.ensures.ends (kernel core) cs (seen said entries) (c.requires.items entries))

pub returns-in_err-found-clause-unfound : goal.returns-in_err-found-clause-unfound
returns-in_err-found-clause-unfound g c =
    let core = c.args.core.now in
    let cs = conditions c.args.conditions.now in
    let said = c.args.notes.now in
    let entries = c.args.entries.items in
    let s = c.in_ok-setting.ensures in
    let x = c.in_err-found.field-0.0 in
    passed c.from_residual-in_err-found.result (errors.Walk x) (IsUnfound g.D.Domain (kernel core) cs (seen said entries)) c.from_residual-in_err-found.ensures.1
    (ungathered g.D.Domain core cs said entries c.in_ok-setting.setting s.wide s.joins s.known s.sizes s.buffers s.arrays s.contents s.entries c.args.places.now c.requires.places c.in_ok-walked.walked.items c.in_ok-walked.ensures.walked (forms c.in_ok-launch.launch.items) c.in_ok-launch.ensures x (c.in_err-found.ensures.ungathered entries))

pub returns-clause-listed : goal.returns-clause-listed
returns-clause-listed g c =
    let core = c.args.core.now in
    let cs = conditions c.args.conditions.now in
    let said = c.args.notes.now in
    let entries = c.args.entries.items in
    let s = c.in_ok-setting.ensures in
    found_is g.D.Domain core cs said entries c.in_ok-setting.setting s.wide s.joins s.known s.sizes s.buffers s.arrays s.contents s.entries c.args.places.now c.requires.places c.in_ok-walked.walked.items c.in_ok-walked.ensures.walked (forms c.in_ok-launch.launch.items) c.in_ok-launch.ensures _ (c.in_ok-found.ensures.listed entries)

pub returns-clause-own : goal.returns-clause-own
returns-clause-own g c =
    let core = c.args.core.now in
    let cs = conditions c.args.conditions.now in
    let said = c.args.notes.now in
    let entries = c.args.entries.items in
    let s = c.in_ok-setting.ensures in
    own_found g.D.Domain core cs said entries c.in_ok-setting.setting s.wide s.joins s.known s.sizes s.buffers s.arrays s.contents s.entries c.args.places.now c.requires.places c.in_ok-walked.walked.items c.in_ok-walked.ensures.walked (forms c.in_ok-launch.launch.items) c.in_ok-launch.ensures _ (c.in_ok-found.ensures.fits entries)

pub returns-clause-fits : goal.returns-clause-fits
returns-clause-fits g c =
    let core = c.args.core.now in
    let cs = conditions c.args.conditions.now in
    let said = c.args.notes.now in
    let entries = c.args.entries.items in
    let s = c.in_ok-setting.ensures in
    sym (trees_fitting g.D.Domain core cs said entries c.in_ok-setting.setting s.wide s.joins s.known s.sizes s.buffers s.arrays s.contents s.entries c.args.places.now c.requires.places c.in_ok-walked.walked.items c.in_ok-walked.ensures.walked) ∙ c.in_ok-found.ensures.denied

pub returns-clause-few : goal.returns-clause-few
returns-clause-few g c =
    let core = c.args.core.now in
    let cs = conditions c.args.conditions.now in
    let said = c.args.notes.now in
    let entries = c.args.entries.items in
    let s = c.in_ok-setting.ensures in
    few_all g.D.Domain core cs said entries c.in_ok-setting.setting s.wide s.joins s.known s.sizes s.buffers s.arrays s.contents s.entries c.args.places.now c.requires.places c.in_ok-walked.walked.items c.in_ok-walked.ensures.walked
