use Rattle.std.proofs.Common.{◌≡◌, ℕ, ◌++◌, [], map, ap, sym, subst, ◌∙◌, inl}
use Rattle.certificate.specs.EntryCursors.{left}
use Rattle.linear.specs.Forms.{forms}
use Rattle.facts.proofs.Unmade.{passed}
use Rattle.facts.specs.Launching.{launch_facts}
use Rattle.facts.specs.View.{known_seen}
use Rattle.obligations.specs.Crossings.{crossing_obligation, crossings}
use Rattle.obligations.specs.Fitting.{crossing_fits}
use Rattle.obligations.specs.Listing.{accesses_of, claims_of, ends_in}
use Rattle.obligations.specs.View.{seen}
use Rattle.two_thread.specs.Alike.{alike_of, notes_of as alike_notes}
use Rattle.two_thread.specs.Goals.{owed}
use Rattle.two_thread.specs.Paths.{all_accesses, all_claims, all_ends}
use Rattle.two_thread.specs.View.{met_accesses, met_claims, met_ends}
use Rattle.walk.specs.Cursors.{conditions_of, kernel_of, left_accesses, left_claims, left_ends, notes_of, trees_of}
use Rattle.entry_check.specs.Lacking.{TellsOwing, owing, owing_fits, said}
use Rattle.entry_check.specs.Numbers.{show_of}
use Rattle.entry_check.specs.Tallies.{Fails, Takes}
use Rattle.entry_check.specs.View.{stated}
use Rattle.entry_check.proofs.Concluding.{comes, end_lacks, end_passed, end_shown, told, told_first, told_second, told_third}
use Rattle.entry_check.proofs.all.show_on.Goals as goal

pub returns-in_err-met-clause-lacks : goal.returns-in_err-met-clause-lacks
returns-in_err-met-clause-lacks g c =
    let d = g.D.Domain in
    let t = c.args.terrain.now in
    let k = kernel_of t in
    let cs = conditions_of t in
    let es = (left c.args.entries.now).entries in
    let n = seen c.args.said.now.notes.now [] in
    let m = stated c.args.said.now.names in
    let e = c.in_err-met.field-0.0 in
    passed c.from_residual.result (show_of e) (TellsOwing d k cs m n es) c.from_residual.ensures.1 (told d t es n m c.requires.notes e (inl c.in_err-met.ensures.unfound))

pub returns-in_err-fit-clause-lacks : goal.returns-in_err-fit-clause-lacks
returns-in_err-fit-clause-lacks g c =
    let d = g.D.Domain in
    let t = c.args.terrain.now in
    let k = kernel_of t in
    let cs = conditions_of t in
    let es = (left c.args.entries.now).entries in
    let n = seen c.args.said.now.notes.now [] in
    let m = stated c.args.said.now.names in
    let e = c.in_err-fit.field-0.0 in
    passed c.from_residual-in_err-fit.result (show_of e) (TellsOwing d k cs m n es) c.from_residual-in_err-fit.ensures.1 (told d t es n m c.requires.notes e (inl c.in_err-fit.ensures.unfound))

pub take_all_claims-requires-clause-denied : goal.take_all_claims-requires-clause-denied
take_all_claims-requires-clause-denied g c = λ e. sym c.in_ok-fit.ensures.exact ∙ c.in_ok-tally.ensures.looks e

pub returns-in_err-take_all_claims-clause-lacks : goal.returns-in_err-take_all_claims-clause-lacks
returns-in_err-take_all_claims-clause-lacks g c =
    let d = g.D.Domain in
    let t = c.args.terrain.now in
    let k = kernel_of t in
    let cs = conditions_of t in
    let es = (left c.args.entries.now).entries in
    let n = seen c.args.said.now.notes.now [] in
    let m = stated c.args.said.now.names in
    let start = c.of-behind.result in
    let behind = c.hold.new.next in
    let met = c.in_ok-met.met in
    let h = c.in_ok-met.ensures.holds in
    let claims = met_claims met ++ left_claims d t behind in
    let ends = met_ends met ++ left_ends d t behind in
    let us = met_accesses met ++ left_accesses d t behind in
    let claims_are : map (owed (launch_facts cs)) claims ≡ claims_of cs (trees_of d t) = ap (map (owed (launch_facts cs))) (sym h.claims ∙ ap (λ l. all_claims l ++ left_claims d t start) c.new.ensures.items) ∙ c.of-behind.ensures.claims in
    let ends_are : ends ≡ ends_in (trees_of d t) = sym h.ends ∙ ap (λ l. all_ends l ++ left_ends d t start) c.new.ensures.items ∙ c.of-behind.ensures.ends in
    let accesses_are : us ≡ accesses_of (trees_of d t) = sym h.accesses ∙ ap (λ l. all_accesses l ++ left_accesses d t start) c.new.ensures.items ∙ c.of-behind.ensures.accesses in
    let launch = forms c.as_slice.result.now in
    let alike = alike_notes c.as_slice-2.result.now in
    let is_launch : launch ≡ launch_facts cs = ap forms c.as_slice.ensures.value ∙ c.in_ok-launch.ensures in
    let same : (b : ℕ) → alike.same b ≡ (notes_of t).same b = λ b. ap (λ l. alike_of l b) c.as_slice-2.ensures.value ∙ c.in_ok-alike.ensures.same b in
    let t0 = c.in_ok-tally.tally in
    let e = c.in_err-take_all_claims.field-0.0 in
    passed c.from_residual-in_err-take_all_claims.result (show_of e) (TellsOwing d k cs m n es) c.from_residual-in_err-take_all_claims.ensures.1 (told_first d t es n m c.requires.notes (known_seen t.setting.known) launch alike same c.requires.terrain.known is_launch claims ends us claims_are ends_are accesses_are c.in_ok-fit.fit t0 c.in_ok-tally.ensures.begins e c.in_err-take_all_claims.ensures.fails)

pub returns-in_err-take_all_ends-clause-lacks : goal.returns-in_err-take_all_ends-clause-lacks
returns-in_err-take_all_ends-clause-lacks g c =
    let d = g.D.Domain in
    let t = c.args.terrain.now in
    let k = kernel_of t in
    let cs = conditions_of t in
    let es = (left c.args.entries.now).entries in
    let n = seen c.args.said.now.notes.now [] in
    let m = stated c.args.said.now.names in
    let start = c.of-behind.result in
    let behind = c.hold.new.next in
    let met = c.in_ok-met.met in
    let h = c.in_ok-met.ensures.holds in
    let claims = met_claims met ++ left_claims d t behind in
    let ends = met_ends met ++ left_ends d t behind in
    let us = met_accesses met ++ left_accesses d t behind in
    let claims_are : map (owed (launch_facts cs)) claims ≡ claims_of cs (trees_of d t) = ap (map (owed (launch_facts cs))) (sym h.claims ∙ ap (λ l. all_claims l ++ left_claims d t start) c.new.ensures.items) ∙ c.of-behind.ensures.claims in
    let ends_are : ends ≡ ends_in (trees_of d t) = sym h.ends ∙ ap (λ l. all_ends l ++ left_ends d t start) c.new.ensures.items ∙ c.of-behind.ensures.ends in
    let accesses_are : us ≡ accesses_of (trees_of d t) = sym h.accesses ∙ ap (λ l. all_accesses l ++ left_accesses d t start) c.new.ensures.items ∙ c.of-behind.ensures.accesses in
    let launch = forms c.as_slice.result.now in
    let alike = alike_notes c.as_slice-2.result.now in
    let is_launch : launch ≡ launch_facts cs = ap forms c.as_slice.ensures.value ∙ c.in_ok-launch.ensures in
    let same : (b : ℕ) → alike.same b ≡ (notes_of t).same b = λ b. ap (λ l. alike_of l b) c.as_slice-2.ensures.value ∙ c.in_ok-alike.ensures.same b in
    let t0 = c.in_ok-tally.tally in
    let e = c.in_err-take_all_ends.field-0.0 in
    passed c.from_residual-in_err-take_all_ends.result (show_of e) (TellsOwing d k cs m n es) c.from_residual-in_err-take_all_ends.ensures.1 (told_second d t es n m c.requires.notes (known_seen t.setting.known) launch alike same c.requires.terrain.known is_launch claims ends us claims_are ends_are accesses_are c.in_ok-fit.fit t0 c.in_ok-tally.ensures.begins c.take_all_claims.new.tally c.in_ok-take_all_claims.ensures.takes e c.in_err-take_all_ends.ensures.fails)

pub returns-in_err-take_all_accesses-clause-lacks : goal.returns-in_err-take_all_accesses-clause-lacks
returns-in_err-take_all_accesses-clause-lacks g c =
    let d = g.D.Domain in
    let t = c.args.terrain.now in
    let k = kernel_of t in
    let cs = conditions_of t in
    let es = (left c.args.entries.now).entries in
    let n = seen c.args.said.now.notes.now [] in
    let m = stated c.args.said.now.names in
    let start = c.of-behind.result in
    let behind = c.hold.new.next in
    let met = c.in_ok-met.met in
    let h = c.in_ok-met.ensures.holds in
    let claims = met_claims met ++ left_claims d t behind in
    let ends = met_ends met ++ left_ends d t behind in
    let us = met_accesses met ++ left_accesses d t behind in
    let claims_are : map (owed (launch_facts cs)) claims ≡ claims_of cs (trees_of d t) = ap (map (owed (launch_facts cs))) (sym h.claims ∙ ap (λ l. all_claims l ++ left_claims d t start) c.new.ensures.items) ∙ c.of-behind.ensures.claims in
    let ends_are : ends ≡ ends_in (trees_of d t) = sym h.ends ∙ ap (λ l. all_ends l ++ left_ends d t start) c.new.ensures.items ∙ c.of-behind.ensures.ends in
    let accesses_are : us ≡ accesses_of (trees_of d t) = sym h.accesses ∙ ap (λ l. all_accesses l ++ left_accesses d t start) c.new.ensures.items ∙ c.of-behind.ensures.accesses in
    let launch = forms c.as_slice.result.now in
    let alike = alike_notes c.as_slice-2.result.now in
    let is_launch : launch ≡ launch_facts cs = ap forms c.as_slice.ensures.value ∙ c.in_ok-launch.ensures in
    let same : (b : ℕ) → alike.same b ≡ (notes_of t).same b = λ b. ap (λ l. alike_of l b) c.as_slice-2.ensures.value ∙ c.in_ok-alike.ensures.same b in
    let t0 = c.in_ok-tally.tally in
    let e = c.in_err-take_all_accesses.field-0.0 in
    let t2 = c.take_all_ends.new.tally in
    let again = subst (λ ps. Fails d t (said n m) (crossing_obligation d (known_seen t.setting.known) launch alike) crossing_fits (crossings k cs (all_accesses ps ++ left_accesses d t behind)) t2 e) c.in_ok-take_all_ends.ensures.held c.in_err-take_all_accesses.ensures.fails in
    passed c.from_residual-in_err-take_all_accesses.result (show_of e) (TellsOwing d k cs m n es) c.from_residual-in_err-take_all_accesses.ensures.1 (told_third d t es n m c.requires.notes (known_seen t.setting.known) launch alike same c.requires.terrain.known is_launch claims ends us claims_are ends_are accesses_are c.in_ok-fit.fit t0 c.in_ok-tally.ensures.begins c.take_all_claims.new.tally c.in_ok-take_all_claims.ensures.takes t2 c.in_ok-take_all_ends.ensures.takes e again)

pub returns-clause-shown : goal.returns-clause-shown
returns-clause-shown g c =
    let d = g.D.Domain in
    let t = c.args.terrain.now in
    let k = kernel_of t in
    let cs = conditions_of t in
    let es = (left c.args.entries.now).entries in
    let n = seen c.args.said.now.notes.now [] in
    let m = stated c.args.said.now.names in
    let start = c.of-behind.result in
    let behind = c.hold.new.next in
    let met = c.in_ok-met.met in
    let h = c.in_ok-met.ensures.holds in
    let claims = met_claims met ++ left_claims d t behind in
    let ends = met_ends met ++ left_ends d t behind in
    let us = met_accesses met ++ left_accesses d t behind in
    let claims_are : map (owed (launch_facts cs)) claims ≡ claims_of cs (trees_of d t) = ap (map (owed (launch_facts cs))) (sym h.claims ∙ ap (λ l. all_claims l ++ left_claims d t start) c.new.ensures.items) ∙ c.of-behind.ensures.claims in
    let ends_are : ends ≡ ends_in (trees_of d t) = sym h.ends ∙ ap (λ l. all_ends l ++ left_ends d t start) c.new.ensures.items ∙ c.of-behind.ensures.ends in
    let accesses_are : us ≡ accesses_of (trees_of d t) = sym h.accesses ∙ ap (λ l. all_accesses l ++ left_accesses d t start) c.new.ensures.items ∙ c.of-behind.ensures.accesses in
    let launch = forms c.as_slice.result.now in
    let alike = alike_notes c.as_slice-2.result.now in
    let is_launch : launch ≡ launch_facts cs = ap forms c.as_slice.ensures.value ∙ c.in_ok-launch.ensures in
    let same : (b : ℕ) → alike.same b ≡ (notes_of t).same b = λ b. ap (λ l. alike_of l b) c.as_slice-2.ensures.value ∙ c.in_ok-alike.ensures.same b in
    let t0 = c.in_ok-tally.tally in
    let t2 = c.take_all_ends.new.tally in
    let t3 = c.take_all_accesses.new.tally in
    let again = subst (λ ps. Takes (said n m) (crossing_obligation d (known_seen t.setting.known) launch alike) crossing_fits (crossings k cs (all_accesses ps ++ left_accesses d t behind)) [] t2 t3) c.in_ok-take_all_ends.ensures.held c.in_ok-take_all_accesses.ensures.takes in
    let z = c.end.ensures.ends (said n m) es c.in_ok-fit.fit (owing d k cs n es) (owing_fits d k cs n es) (comes d t es n m c.requires.notes (known_seen t.setting.known) launch alike same c.requires.terrain.known is_launch claims ends us claims_are ends_are accesses_are c.in_ok-fit.fit t0 c.in_ok-tally.ensures.begins c.take_all_claims.new.tally c.in_ok-take_all_claims.ensures.takes t2 c.in_ok-take_all_ends.ensures.takes t3 again) in
    end_shown d t es n m c.requires.notes claims c.in_ok-fit.fit c.in_ok-fit.ensures.exact claims_are c.in_ok-fit.ensures.few c.in_ok-fit.ensures.walks z.0 c.end.result z.1

pub returns-clause-passed : goal.returns-clause-passed
returns-clause-passed g c =
    let d = g.D.Domain in
    let t = c.args.terrain.now in
    let k = kernel_of t in
    let cs = conditions_of t in
    let es = (left c.args.entries.now).entries in
    let n = seen c.args.said.now.notes.now [] in
    let m = stated c.args.said.now.names in
    let start = c.of-behind.result in
    let behind = c.hold.new.next in
    let met = c.in_ok-met.met in
    let h = c.in_ok-met.ensures.holds in
    let claims = met_claims met ++ left_claims d t behind in
    let ends = met_ends met ++ left_ends d t behind in
    let us = met_accesses met ++ left_accesses d t behind in
    let claims_are : map (owed (launch_facts cs)) claims ≡ claims_of cs (trees_of d t) = ap (map (owed (launch_facts cs))) (sym h.claims ∙ ap (λ l. all_claims l ++ left_claims d t start) c.new.ensures.items) ∙ c.of-behind.ensures.claims in
    let ends_are : ends ≡ ends_in (trees_of d t) = sym h.ends ∙ ap (λ l. all_ends l ++ left_ends d t start) c.new.ensures.items ∙ c.of-behind.ensures.ends in
    let accesses_are : us ≡ accesses_of (trees_of d t) = sym h.accesses ∙ ap (λ l. all_accesses l ++ left_accesses d t start) c.new.ensures.items ∙ c.of-behind.ensures.accesses in
    let launch = forms c.as_slice.result.now in
    let alike = alike_notes c.as_slice-2.result.now in
    let is_launch : launch ≡ launch_facts cs = ap forms c.as_slice.ensures.value ∙ c.in_ok-launch.ensures in
    let same : (b : ℕ) → alike.same b ≡ (notes_of t).same b = λ b. ap (λ l. alike_of l b) c.as_slice-2.ensures.value ∙ c.in_ok-alike.ensures.same b in
    let t0 = c.in_ok-tally.tally in
    let t2 = c.take_all_ends.new.tally in
    let t3 = c.take_all_accesses.new.tally in
    let again = subst (λ ps. Takes (said n m) (crossing_obligation d (known_seen t.setting.known) launch alike) crossing_fits (crossings k cs (all_accesses ps ++ left_accesses d t behind)) [] t2 t3) c.in_ok-take_all_ends.ensures.held c.in_ok-take_all_accesses.ensures.takes in
    let z = c.end.ensures.ends (said n m) es c.in_ok-fit.fit (owing d k cs n es) (owing_fits d k cs n es) (comes d t es n m c.requires.notes (known_seen t.setting.known) launch alike same c.requires.terrain.known is_launch claims ends us claims_are ends_are accesses_are c.in_ok-fit.fit t0 c.in_ok-tally.ensures.begins c.take_all_claims.new.tally c.in_ok-take_all_claims.ensures.takes t2 c.in_ok-take_all_ends.ensures.takes t3 again) in
    end_passed d t es n m c.requires.notes claims c.in_ok-fit.fit c.in_ok-fit.ensures.exact claims_are c.in_ok-fit.ensures.few c.in_ok-fit.ensures.walks z.0 c.end.result z.1

pub returns-clause-lacks : goal.returns-clause-lacks
returns-clause-lacks g c =
    let d = g.D.Domain in
    let t = c.args.terrain.now in
    let k = kernel_of t in
    let cs = conditions_of t in
    let es = (left c.args.entries.now).entries in
    let n = seen c.args.said.now.notes.now [] in
    let m = stated c.args.said.now.names in
    let start = c.of-behind.result in
    let behind = c.hold.new.next in
    let met = c.in_ok-met.met in
    let h = c.in_ok-met.ensures.holds in
    let claims = met_claims met ++ left_claims d t behind in
    let ends = met_ends met ++ left_ends d t behind in
    let us = met_accesses met ++ left_accesses d t behind in
    let claims_are : map (owed (launch_facts cs)) claims ≡ claims_of cs (trees_of d t) = ap (map (owed (launch_facts cs))) (sym h.claims ∙ ap (λ l. all_claims l ++ left_claims d t start) c.new.ensures.items) ∙ c.of-behind.ensures.claims in
    let ends_are : ends ≡ ends_in (trees_of d t) = sym h.ends ∙ ap (λ l. all_ends l ++ left_ends d t start) c.new.ensures.items ∙ c.of-behind.ensures.ends in
    let accesses_are : us ≡ accesses_of (trees_of d t) = sym h.accesses ∙ ap (λ l. all_accesses l ++ left_accesses d t start) c.new.ensures.items ∙ c.of-behind.ensures.accesses in
    let launch = forms c.as_slice.result.now in
    let alike = alike_notes c.as_slice-2.result.now in
    let is_launch : launch ≡ launch_facts cs = ap forms c.as_slice.ensures.value ∙ c.in_ok-launch.ensures in
    let same : (b : ℕ) → alike.same b ≡ (notes_of t).same b = λ b. ap (λ l. alike_of l b) c.as_slice-2.ensures.value ∙ c.in_ok-alike.ensures.same b in
    let t0 = c.in_ok-tally.tally in
    let t2 = c.take_all_ends.new.tally in
    let t3 = c.take_all_accesses.new.tally in
    let again = subst (λ ps. Takes (said n m) (crossing_obligation d (known_seen t.setting.known) launch alike) crossing_fits (crossings k cs (all_accesses ps ++ left_accesses d t behind)) [] t2 t3) c.in_ok-take_all_ends.ensures.held c.in_ok-take_all_accesses.ensures.takes in
    let z = c.end.ensures.ends (said n m) es c.in_ok-fit.fit (owing d k cs n es) (owing_fits d k cs n es) (comes d t es n m c.requires.notes (known_seen t.setting.known) launch alike same c.requires.terrain.known is_launch claims ends us claims_are ends_are accesses_are c.in_ok-fit.fit t0 c.in_ok-tally.ensures.begins c.take_all_claims.new.tally c.in_ok-take_all_claims.ensures.takes t2 c.in_ok-take_all_ends.ensures.takes t3 again) in
    end_lacks d t es n m c.requires.notes claims c.in_ok-fit.fit c.in_ok-fit.ensures.exact claims_are c.in_ok-fit.ensures.few c.in_ok-fit.ensures.walks z.0 c.end.result z.1
