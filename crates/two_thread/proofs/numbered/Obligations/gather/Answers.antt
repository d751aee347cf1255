use Rattle.std.proofs.Common.{map, arith, length, ◌≡◌, ◌≤◌, ◌-◌, ap, sym, subst, ◌∙◌}
use Rattle.std.proofs.lemmas.List.{length-map}
use Rattle.core_code.specs.View.{kernel}
use Rattle.launch.specs.View.{conditions}
use Rattle.linear.specs.Forms.{forms}
use Rattle.facts.proofs.Unmade.{passed}
use Rattle.facts.specs.View.{known_seen}
use Rattle.obligations.specs.Crossings.{crossings}
use Rattle.two_thread.specs.Alike.{notes_of}
use Rattle.two_thread.specs.Fitting.{claims_fit}
use Rattle.two_thread.specs.Meetings.{meeting_seen, all_meetings}
use Rattle.two_thread.specs.Paths.{all_claims}
use Rattle.two_thread.specs.Refusals.{DoNotFit, AreUngathered}
use Rattle.two_thread.specs.View.{met_accesses, met_ends, crossing}
use Rattle.two_thread.proofs.Gathering.{whole, listed_is, fits_is, many, over_ungathered, unfit_ungathered}
use Rattle.two_thread.proofs.Nth.{length_met_claims}
use Rattle.two_thread.proofs.numbered.Obligations.gather.Goals as goal

pub returns-clause-listed : goal.returns-clause-listed
returns-clause-listed g c =
    let n = notes_of c.args.alike.items in
    let es = met_ends c.in_ok-met.met in
    let us = met_accesses c.in_ok-met.met in
    let k = kernel c.args.core.now in
    let cs = conditions c.args.conditions.now in
    let slice = ap (λ a. all_meetings (notes_of a) es) c.as_slice.ensures.value in
    let e : map (meeting_seen es) c.in_ok-meetings.meetings.items ≡ all_meetings n es = c.in_ok-meetings.ensures.exact ∙ slice in
    listed_is g.D.Domain (known_seen c.args.premises.known) (forms c.args.premises.launch.items) (notes_of c.args.alike.items) (kernel c.args.core.now) (conditions c.args.conditions.now) c.in_ok-met.met.paths.items c.args.paths.items (map (meeting_seen es) c.in_ok-meetings.meetings.items) (map (crossing us) c.in_ok-crossings.crossings.items) c.in_ok-met.ensures.paths e c.in_ok-crossings.ensures.exact

pub returns-clause-fits : goal.returns-clause-fits
returns-clause-fits g c =
    let n = notes_of c.args.alike.items in
    let es = met_ends c.in_ok-met.met in
    let us = met_accesses c.in_ok-met.met in
    let k = kernel c.args.core.now in
    let cs = conditions c.args.conditions.now in
    let slice = ap (λ a. all_meetings (notes_of a) es) c.as_slice.ensures.value in
    let e : map (meeting_seen es) c.in_ok-meetings.meetings.items ≡ all_meetings n es = c.in_ok-meetings.ensures.exact ∙ slice in
    fits_is g.D.Domain (known_seen c.args.premises.known) (forms c.args.premises.launch.items) (notes_of c.args.alike.items) (kernel c.args.core.now) (conditions c.args.conditions.now) c.in_ok-met.met.paths.items c.args.paths.items (map (meeting_seen es) c.in_ok-meetings.meetings.items) (map (crossing us) c.in_ok-crossings.crossings.items) c.in_ok-met.ensures.paths e c.in_ok-crossings.ensures.exact

pub returns-then-claims-gt65536-clause-ungathered : goal.returns-then-claims-gt65536-clause-ungathered
returns-then-claims-gt65536-clause-ungathered g c =
    let a : c.len-claims.result ≤ length (all_claims c.in_ok-met.met.paths.items) = let h = length_met_claims c.in_ok-met.met in omega (arith, c.len-claims.ensures, h) in
    many g.D.Domain (known_seen c.args.premises.known) (forms c.args.premises.launch.items) (notes_of c.args.alike.items) (kernel c.args.core.now) (conditions c.args.conditions.now) c.in_ok-met.met.paths.items c.args.paths.items c.len-claims.result 0 0 c.in_ok-met.ensures.paths a (omega arith) (omega arith) (omega (arith, c.if-claims-gt65536.true))

pub returns-in_err-meetings-clause-ungathered : goal.returns-in_err-meetings-clause-ungathered
returns-in_err-meetings-clause-ungathered g c =
    let n = notes_of c.args.alike.items in
    let es = met_ends c.in_ok-met.met in
    let us = met_accesses c.in_ok-met.met in
    let k = kernel c.args.core.now in
    let cs = conditions c.args.conditions.now in
    let slice = ap (λ a. all_meetings (notes_of a) es) c.as_slice.ensures.value in
    let a : c.len-claims.result ≤ length (all_claims c.in_ok-met.met.paths.items) = let h = length_met_claims c.in_ok-met.met in omega (arith, c.len-claims.ensures, h) in
    let z = c.in_err-meetings.field-0.0 in
    let os = whole g.D.Domain (known_seen c.args.premises.known) (forms c.args.premises.launch.items) (notes_of c.args.alike.items) (kernel c.args.core.now) (conditions c.args.conditions.now) c.args.paths.items in
    let fit = claims_fit (all_claims c.args.paths.items) in
    let l = length (all_meetings (notes_of c.as_slice.result.now) es) in
    let q : l ≤ length (all_meetings n es) = let h = ap length slice in omega (arith, h) in
    passed c.from_residual-in_err-meetings.result z (AreUngathered os fit) c.from_residual-in_err-meetings.ensures.1
    (over_ungathered os fit (65536 - c.len-claims.result) l z (λ h. many g.D.Domain (known_seen c.args.premises.known) (forms c.args.premises.launch.items) (notes_of c.args.alike.items) (kernel c.args.core.now) (conditions c.args.conditions.now) c.in_ok-met.met.paths.items c.args.paths.items c.len-claims.result l 0 c.in_ok-met.ensures.paths a q (omega arith) (omega (arith, h))) c.in_err-meetings.ensures.exact)

pub returns-then-len-room-clause-ungathered : goal.returns-then-len-room-clause-ungathered
returns-then-len-room-clause-ungathered g c =
    let n = notes_of c.args.alike.items in
    let es = met_ends c.in_ok-met.met in
    let us = met_accesses c.in_ok-met.met in
    let k = kernel c.args.core.now in
    let cs = conditions c.args.conditions.now in
    let slice = ap (λ a. all_meetings (notes_of a) es) c.as_slice.ensures.value in
    let a : c.len-claims.result ≤ length (all_claims c.in_ok-met.met.paths.items) = let h = length_met_claims c.in_ok-met.met in omega (arith, c.len-claims.ensures, h) in
    let e : map (meeting_seen es) c.in_ok-meetings.meetings.items ≡ all_meetings n es = c.in_ok-meetings.ensures.exact ∙ slice in
    let b : length c.in_ok-meetings.meetings.items ≤ length (all_meetings n es) = let h = length-map c.in_ok-meetings.meetings.items (meeting_seen es) in let q = ap length e in omega (arith, h, q) in
    many g.D.Domain (known_seen c.args.premises.known) (forms c.args.premises.launch.items) (notes_of c.args.alike.items) (kernel c.args.core.now) (conditions c.args.conditions.now) c.in_ok-met.met.paths.items c.args.paths.items c.len-claims.result (length c.in_ok-meetings.meetings.items) 0 c.in_ok-met.ensures.paths a b (omega arith) (omega (arith, c.if-len-room.true, c.len.ensures))

pub returns-in_err-crossings-clause-ungathered : goal.returns-in_err-crossings-clause-ungathered
returns-in_err-crossings-clause-ungathered g c =
    let n = notes_of c.args.alike.items in
    let es = met_ends c.in_ok-met.met in
    let us = met_accesses c.in_ok-met.met in
    let k = kernel c.args.core.now in
    let cs = conditions c.args.conditions.now in
    let slice = ap (λ a. all_meetings (notes_of a) es) c.as_slice.ensures.value in
    let a : c.len-claims.result ≤ length (all_claims c.in_ok-met.met.paths.items) = let h = length_met_claims c.in_ok-met.met in omega (arith, c.len-claims.ensures, h) in
    let e : map (meeting_seen es) c.in_ok-meetings.meetings.items ≡ all_meetings n es = c.in_ok-meetings.ensures.exact ∙ slice in
    let b : length c.in_ok-meetings.meetings.items ≤ length (all_meetings n es) = let h = length-map c.in_ok-meetings.meetings.items (meeting_seen es) in let q = ap length e in omega (arith, h, q) in
    let z = c.in_err-crossings.field-0.0 in
    let os = whole g.D.Domain (known_seen c.args.premises.known) (forms c.args.premises.launch.items) (notes_of c.args.alike.items) (kernel c.args.core.now) (conditions c.args.conditions.now) c.args.paths.items in
    let fit = claims_fit (all_claims c.args.paths.items) in
    let l = length (crossings k cs us) in
    passed c.from_residual-in_err-crossings.result z (AreUngathered os fit) c.from_residual-in_err-crossings.ensures.1
    (over_ungathered os fit (65536 - c.len-claims.result - c.len-2.result) l z (λ h. many g.D.Domain (known_seen c.args.premises.known) (forms c.args.premises.launch.items) (notes_of c.args.alike.items) (kernel c.args.core.now) (conditions c.args.conditions.now) c.in_ok-met.met.paths.items c.args.paths.items c.len-claims.result (length c.in_ok-meetings.meetings.items) l c.in_ok-met.ensures.paths a b (omega arith) (omega (arith, h, c.len-2.ensures))) c.in_err-crossings.ensures.exact)

pub returns-then-len-most-clause-ungathered : goal.returns-then-len-most-clause-ungathered
returns-then-len-most-clause-ungathered g c =
    let n = notes_of c.args.alike.items in
    let es = met_ends c.in_ok-met.met in
    let us = met_accesses c.in_ok-met.met in
    let k = kernel c.args.core.now in
    let cs = conditions c.args.conditions.now in
    let slice = ap (λ a. all_meetings (notes_of a) es) c.as_slice.ensures.value in
    let a : c.len-claims.result ≤ length (all_claims c.in_ok-met.met.paths.items) = let h = length_met_claims c.in_ok-met.met in omega (arith, c.len-claims.ensures, h) in
    let e : map (meeting_seen es) c.in_ok-meetings.meetings.items ≡ all_meetings n es = c.in_ok-meetings.ensures.exact ∙ slice in
    let b : length c.in_ok-meetings.meetings.items ≤ length (all_meetings n es) = let h = length-map c.in_ok-meetings.meetings.items (meeting_seen es) in let q = ap length e in omega (arith, h, q) in
    let m : length c.in_ok-crossings.crossings.items ≤ length (crossings k cs us) = let h = length-map c.in_ok-crossings.crossings.items (crossing us) in let q = ap length c.in_ok-crossings.ensures.exact in omega (arith, h, q) in
    many g.D.Domain (known_seen c.args.premises.known) (forms c.args.premises.launch.items) (notes_of c.args.alike.items) (kernel c.args.core.now) (conditions c.args.conditions.now) c.in_ok-met.met.paths.items c.args.paths.items c.len-claims.result (length c.in_ok-meetings.meetings.items) (length c.in_ok-crossings.crossings.items) c.in_ok-met.ensures.paths a b m (omega (arith, c.if-len-most.true, c.len-2.ensures, c.len-3.ensures))

-- the paths that were met are those that were given
pub returns-clause-denied : goal.returns-clause-denied
returns-clause-denied g c = ap (λ ps. claims_fit (all_claims ps)) (sym c.in_ok-met.ensures.paths) ∙ c.in_ok-try_denials.ensures

pub returns-in_err-try_denials-clause-ungathered : goal.returns-in_err-try_denials-clause-ungathered
returns-in_err-try_denials-clause-ungathered g c =
    let os = whole g.D.Domain (known_seen c.args.premises.known) (forms c.args.premises.launch.items) (notes_of c.args.alike.items) (kernel c.args.core.now) (conditions c.args.conditions.now) c.args.paths.items in
    let fit = claims_fit (all_claims c.args.paths.items) in
    let z = c.in_err-try_denials.field-0.0 in
    passed c.from_residual-in_err-try_denials.result z (AreUngathered os fit) c.from_residual-in_err-try_denials.ensures.1
    (unfit_ungathered os fit z (subst (λ ps. DoNotFit (claims_fit (all_claims ps)) z) c.in_ok-met.ensures.paths c.in_err-try_denials.ensures))
