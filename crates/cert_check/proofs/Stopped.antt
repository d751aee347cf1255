-- What an error tells once the kernel and the conditions are read.
use Rattle.kernel_reading.specs.Kernels.{Source}
use Rattle.std.proofs.Common.{◌≡◌, ℕ, List, Bool, sym, subst}
use Rattle.std.specs.Prelude.{Ok}
use Rattle.semantics.specs.Conditions.{Conditions}
use Rattle.certificate_text.specs.Certificate.{Certificate}
use Rattle.launch_text.specs.ConditionsReading.{Lined, conditions_of, meant}
use Rattle.kernel_names.specs.View.{names_seen}
use Rattle.typed_kernels.specs.TypedKernel.{TypedKernel}
use Rattle.core_code.specs.View.{kernel as core_seen}
use Rattle.launch_text.specs.Answers as answers
use Rattle.entry_check.specs.declared.error.ShowError.{ShowError}
use Rattle.entry_check.specs.declared.error.ShowError.TheVariants as shows
use Rattle.cert_check.specs.Breadth.{text_says}
use Rattle.cert_check.specs.Refusing.{AreRead, AreMet, RefusesBy, Shows}
use Rattle.cert_check.specs.Checked.{StopsBy, IsTold, Unshown}
use Rattle.cert_check.specs.declared.error.CheckError.{CheckError}
use Rattle.cert_check.specs.declared.error.CheckError.TheVariants as errors

-- what is not shown, as it is told of the source
module _ (is_wide : Bool) (typed : TypedKernel) (c : Conditions) (certificate : List ℕ) (cert : Certificate) (met : AreMet typed) (is : text_says is_wide certificate ≡ Ok cert) where
  abbrev Has : CheckError → Type 0
  Has e = StopsBy is_wide typed c certificate e

  -- it is told as it is
  as_is : (e : ShowError) (told : CheckError) → told ≡ errors.Show e → Shows (core_seen typed.1) (names_seen typed.0) c cert e → Has told
  as_is e told h s = subst Has (sym h) (cert, met, is, s)

  many : (s : _) (told : CheckError) → IsTold (names_seen typed.0) (shows.ManyPaths s) told → Unshown (core_seen typed.1) (names_seen typed.0) c cert (shows.ManyPaths s) → Has told
  many s (errors.ManyPaths site) h (n, said, first) = (cert, met, is, (n, s, said, first, h))
  many s (errors.Kernel e) h u = absurd h
  many s (errors.Conditions e) h u = absurd h
  many s (errors.Missed site) h u = absurd h
  many s (errors.Certificate e) h u = absurd h
  many s (errors.Show e) h u = absurd h

  pub stopped : (e : ShowError) (told : CheckError) → IsTold (names_seen typed.0) e told → Unshown (core_seen typed.1) (names_seen typed.0) c cert e → Has told
  stopped (shows.NotShown m) told h u = as_is (shows.NotShown m) told h u
  stopped (shows.ManyPaths s) told h u = many s told h u
  stopped (shows.Walk e) told h u = as_is (shows.Walk e) told h u
  stopped shows.OverBudget told h u = as_is shows.OverBudget told h u
  stopped shows.Memory told h u = as_is shows.Memory told h u

-- what stops the check refuses the texts
pub refused : (is_wide : Bool) (typed : TypedKernel) (found : Lined) (kernel : Source) (conditions certificate : List ℕ) → AreRead is_wide typed found kernel conditions → (e : CheckError) → StopsBy is_wide typed (meant found) certificate e → RefusesBy is_wide e kernel conditions certificate
refused is_wide typed found k l p read (errors.Kernel e) s = absurd s
refused is_wide typed found k l p read (errors.Conditions e) s = (typed, read.0, subst (λ x. answers.Refuses x (conditions_of is_wide (names_seen typed.0).parameters l)) (sym s) tt)
refused is_wide typed found k l p read (errors.Missed site) (loop, missed, at) = (typed, found, loop, read, missed, at)
refused is_wide typed found k l p read (errors.Certificate e) (met, told) = (typed, found, read, met, told)
refused is_wide typed found k l p read (errors.ManyPaths site) (cert, met, is, many) = (typed, found, cert, (read, met, is), many)
refused is_wide typed found k l p read (errors.Show e) (cert, met, is, shown) = (typed, found, cert, (read, met, is), shown)
