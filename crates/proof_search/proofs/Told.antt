-- What an error of a search tells of texts.
use Rattle.std.proofs.Common.{ℕ, List, Bool, sym, subst}
use Rattle.std.specs.Prelude.{◌≡◌, Option, Some, None, IfSome, slice_index_or, Result, Ok, Err, IfOk, IfErr}
use Rattle.semantics.specs.Conditions.{Conditions}
use Rattle.semantics.specs.Launch.{Launch}
use Rattle.semantics.specs.World.{Event}
use Rattle.launch_text.specs.ConditionsReading.{Lined, meant}
use Rattle.launch_text.specs.ConditionsText.{IsConditionsText}
use Rattle.kernel_reading.specs.Kernels.{Kernel, Source}
use Rattle.kernel_reading.specs.Texts.{IsTextOf}
use Rattle.kernel_reading.specs.Answers.{kernel_seen}
use Rattle.kernel_names.specs.View.{names_seen}
use Rattle.typed_kernels.specs.TypedKernel.{TypedKernel}
use Rattle.launch.specs.View.{conditions as conditions_seen}
use Rattle.launch.specs.declared.conditions.Conditions as code
use Rattle.launch_text.specs.View.{lined}
use Rattle.launch_text.proofs.LeastFits.{conditions_meant}
use Rattle.findings.specs.Findings.{Finding}
use Rattle.findings.specs.View.{finding as finding_seen}
use Rattle.proof_search.specs.Findings.{IsWitness, IsTrue, IsTrueOf}
use Rattle.arrivals.specs.Loops.{unmet}
use Rattle.core_code.specs.View.{kernel as core_seen, site as site_seen}
use Rattle.core_code.specs.declared.tree.Site.{Site}
use Rattle.kernel_names.specs.NameMap.{site_at}
use Rattle.cert_check.specs.Refusing.{AreRead}
use Rattle.cert_check.specs.declared.error.CheckError.TheVariants as checks
use Rattle.proof_search.specs.Searching.{AreSearched, IsCount, IsNoCount, Ends, TellsOf}
use Rattle.proof_search.specs.declared.error.VerifyError.{VerifyError}
use Rattle.proof_search.specs.declared.error.VerifyError.TheVariants as errors

module _ (is_wide : Bool) (kernel : Source) (conditions : List ℕ) (k : Kernel) (c : Conditions) (text : IsTextOf kernel k) (said : IsConditionsText is_wide k.names.parameters conditions c) (f : Finding) where
  witnessed : (o : Option (List Event)) → IfSome o (λ events. (l : Launch) × IsWitness k c f l)
      → IfSome o (λ events. (k : Kernel) × (c : Conditions) × IsTextOf kernel k × IsConditionsText is_wide k.names.parameters conditions c × ((l : Launch) × IsWitness k c f l))
  witnessed None h = tt
  witnessed (Some events) h = (k, c, text, said, h)

  is_true_of : IsTrue k c f → IsTrueOf is_wide kernel conditions f
  is_true_of h = witnessed f.schedule h

module _ (is_wide : Bool) (t : TypedKernel) (c : code.Conditions) (workers : ℕ) (kernel : Source) (conditions : List ℕ) (text : IsTextOf kernel (kernel_seen t)) (said : IsConditionsText is_wide (names_seen t.0).parameters conditions (meant (lined c))) (count : IsCount workers) (searched : AreSearched is_wide kernel conditions) where
  same : IsConditionsText is_wide (names_seen t.0).parameters conditions (conditions_seen c)
  same = subst (IsConditionsText is_wide (names_seen t.0).parameters conditions) (conditions_meant c) said

  told : (e : VerifyError) → Ends t c e → TellsOf is_wide e workers kernel conditions
  told (errors.Check (checks.Kernel e)) h = absurd h
  told (errors.Check (checks.Conditions e)) h = absurd h
  told (errors.Check (checks.Missed site)) h = absurd h
  told (errors.Check (checks.Certificate e)) h = absurd h
  told (errors.Check (checks.ManyPaths site)) h = (count, searched)
  told (errors.Check (checks.Show e)) h = (count, searched)
  told errors.Workers h = absurd h
  told (errors.NotShown found) h = (count, searched, λ n d within. is_true_of is_wide kernel conditions (kernel_seen t) (conditions_seen c) text same (finding_seen (slice_index_or found.items n d)) (h n d within))
  told errors.TooLong h = (count, searched)
  told errors.Memory h = tt

  pub all_told : {T : Type 0} → (r : Result T VerifyError) → IfErr r (Ends t c) → IfErr r (λ e. TellsOf is_wide e workers kernel conditions)
  all_told (Ok v) h = tt
  all_told (Err e) h = told e h

pub counted : {T : Type 0} (r : Result T VerifyError) (workers : ℕ) → IsCount workers → IfOk r (λ v. IsCount workers)
counted (Ok v) workers h = h
counted (Err e) workers h = tt

pub uncounted : (is_wide : Bool) (e : VerifyError) (workers : ℕ) (kernel : Source) (conditions : List ℕ) → e ≡ errors.Workers → IsNoCount workers → AreSearched is_wide kernel conditions → TellsOf is_wide e workers kernel conditions
uncounted is_wide e workers kernel conditions same count searched = subst (λ e. TellsOf is_wide e workers kernel conditions) (sym same) (count, searched)

-- a loop that may miss its barrier
pub none_placed : (is_wide : Bool) (t : TypedKernel) (found : Lined) (workers : ℕ) (kernel : Source) (conditions : List ℕ) (loop : ℕ) (site : Site) → AreRead is_wide t found kernel conditions → unmet (core_seen t.1).body ≡ Some loop → site_seen site ≡ site_at (names_seen t.0) (Some loop) → TellsOf is_wide (errors.Check (checks.Missed site)) workers kernel conditions
none_placed is_wide t found workers kernel conditions loop site read missed at = (t, found, loop, read, missed, at)
