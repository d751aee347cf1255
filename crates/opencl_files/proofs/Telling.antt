-- An error of a part is that of the whole.
use Rattle.std.proofs.Common.{◌≡◌, ap}
use Rattle.opencl_files.specs.Faults.{Answer}
use Rattle.opencl_files.specs.Files.{on}
use Rattle.opencl_files.specs.View.{Fails}
use Rattle.opencl_files.specs.declared.errors.FileError.{FileError}
use Rattle.opencl_files.specs.declared.errors.FileError.TheVariants as errors

pub fails-on : {A B : Type 0} (e : FileError) (a : Answer A) (next : A → Answer B) → Fails e a → Fails e (on a next)
fails-on (errors.At f s) a next h = ap (λ a. on a next) h
fails-on errors.Memory a next h = h

pub ruleset telling = (fails-on)
