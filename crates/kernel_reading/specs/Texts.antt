-- What it is for bytes to be the text of a kernel, by the way in which they are read: of the plain language in the grammar's own words, of
-- OpenCL C by its readers, which are definitions.
use Rattle.std.specs.Prelude.{◌≡◌, ◌⊎◌, true, false, Ok, IsErr}
use Rattle.launch_text.specs.HeadReading.{Head}
use Rattle.reading.specs.Kernels as plain
use Rattle.reading.specs.Texts as plain_texts
use Rattle.opencl_reading.specs.Kernels as opencl
use Rattle.kernel_reading.specs.Kernels.{Kernel, Source, OpenCl, head_in, as_plain, as_opencl, is_silent, without_tree, of_written}

-- there is no head, and the bytes are the text of a tree which has the core and the names
pub record IsPlainText (h : Head) (s : Source) (k : Kernel) : Type 0 where
  pub of_tree : plain.Kernel
  pub is_text : plain_texts.IsTextOf (as_plain s) of_tree
  pub is_kernel : without_tree of_tree ≡ k
  pub has_no_head : is_silent h ≡ true

-- OpenCL C is read, the bytes are no plain text or there is a head, and the core and the names are those that are read of them with it
pub record IsOpenClText (h : Head) (s : Source) (k : Kernel) : Type 0 where
  pub of_core : opencl.Written
  pub is_opencl : s.reading.language ≡ OpenCl
  pub is_other : IsErr (plain.read (as_plain s)) ⊎ (is_silent h ≡ false)
  pub is_read : as_opencl h s ≡ Ok of_core
  pub is_kernel : of_written of_core ≡ k

-- under the head of the conditions that are asked with it
abbrev pub IsTextOf : Source → Kernel → Type 0
IsTextOf s k = (h : Head) × (head_in s.conditions ≡ Ok h) × (IsPlainText h s k ⊎ IsOpenClText h s k)
