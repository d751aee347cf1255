-- How kernels are found, chunk by chunk.
use Rattle.std.proofs.Common.{◌≡◌, ℕ, ◌+◌, ◌<◌, List, [], ◌∷◌, ◌++◌, Option, None, Some, length, get_or, take, drop, refl, ap, sym, ◌∙◌, map}
use Rattle.std.specs.Option.{option_map}
use Rattle.std.proofs.lemmas.List.{map-append}
use Rattle.opencl_files.specs.Functions as functions
use Rattle.opencl_files.specs.Functions.{kernel_in, with_found}
use Rattle.opencl_files.specs.View.{chunk, chunks, kernel, kernels}
use Rattle.opencl_files.specs.declared.chunks.Chunk.{Chunk}
use Rattle.opencl_files.specs.declared.functions.Kernel.{Kernel}
use Rattle.opencl_files.proofs.Splits.{dropped, taken}

pub kernels-snoc : (ks : List Kernel) (k : Kernel) → kernels (ks ++ k ∷ []) ≡ kernels ks ++ kernel k ∷ []
kernels-snoc ks k = map-append kernel ks (k ∷ [])

-- the chunk at a place
pub found_at : (so : List functions.Kernel) (cs : List Chunk) (at : ℕ) (d : Chunk) (found : Option functions.Kernel) → at < length cs → found ≡ kernel_in (chunks (take at cs)) (chunk (get_or cs at d)) → functions.kernels so (chunks (take at cs)) (chunks (drop at cs)) ≡ functions.kernels (with_found so found) (chunks (take (at + 1) cs)) (chunks (drop (at + 1) cs))
found_at so cs at d found h e =
    ap (functions.kernels so (chunks (take at cs))) (dropped chunk cs at d h)
    ∙ ap (λ before. functions.kernels (with_found so (kernel_in (chunks (take at cs)) (chunk (get_or cs at d)))) before (chunks (drop (at + 1) cs))) (sym (taken chunk cs at d h))
    ∙ ap (λ f. functions.kernels (with_found so f) (chunks (take (at + 1) cs)) (chunks (drop (at + 1) cs))) (sym e)

pub ruleset finding = (kernels-snoc, found_at)
