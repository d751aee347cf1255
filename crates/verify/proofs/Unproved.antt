-- What the check refuses of a certificate that was found is told of the texts.
use Rattle.std.specs.Prelude.{ℕ, List, Bool}
use Rattle.kernel_reading.specs.Kernels.{Source}
use Rattle.cert_check.specs.Refusing.{RefusesBy}
use Rattle.cert_check.specs.declared.error.CheckError.{CheckError}
use Rattle.cert_check.specs.declared.error.CheckError.TheVariants as checks
use Rattle.entry_check.specs.declared.error.ShowError.{ShowError}
use Rattle.proof_search.specs.Searching.{AreSearched, IsCount, RefusesTexts}

-- the texts are read wherever the certificate is looked at
pub told : (is_wide : Bool) (e : CheckError) (workers : ℕ) (k : Source) (c p : List ℕ) → IsCount workers → RefusesBy is_wide e k c p → RefusesTexts is_wide e workers k c
told is_wide (checks.Kernel e) workers k c p n h = h
told is_wide (checks.Conditions e) workers k c p n h = h
told is_wide (checks.Missed site) workers k c p n h = h
told is_wide (checks.Certificate e) workers k c p n (t, found, read, met, said) = (n, (t, found, read, met))
told is_wide (checks.ManyPaths site) workers k c p n (t, found, cert, read, many) = (n, (t, found, read.0, read.1))
told is_wide (checks.Show e) workers k c p n (t, found, cert, read, shows) = (n, (t, found, read.0, read.1))

pub searched : (is_wide : Bool) (e : ShowError) (k : Source) (c p : List ℕ) → RefusesBy is_wide (checks.Show e) k c p → AreSearched is_wide k c
searched is_wide e k c p (t, found, cert, read, shows) = (t, found, read.0, read.1)
