-- What is read is what is read with a tree, without that, or what is read as OpenCL C.
use Rattle.std.proofs.Common.{◌≡◌, ◌⊎◌, inl, inr, Bool, true, false, Ok, Err, refl, ap, sym, ◌∙◌, subst}
use Rattle.std.specs.Prelude.{Result, IsErr}
use Rattle.kernel_names.specs.Parameters.{HasParameters}
use Rattle.types.proofs.Parameters.{tells_parameters}
use Rattle.lexer.specs.declared.TextError.TheVariants as texts
use Rattle.parser.specs.declared.error.ParseError.TheVariants as trees
use Rattle.types.specs.declared.error.TypeError.TheVariants as typing
use Rattle.reading.specs.Kernels as plain
use Rattle.reading.specs.Limits.{HasLocalSizes}
use Rattle.reading.specs.Answers as plain_answers
use Rattle.reading.specs.declared.KernelError as plain_code
use Rattle.reading.specs.declared.KernelError.TheVariants as plain_errors
use Rattle.reading.proofs.Grammatical as grammatical
use Rattle.reading.proofs.Sizes.{sizes-read}
use Rattle.launch_text.specs.LaunchFaults.{Step}
use Rattle.launch_text.specs.HeadReading.{Head}
use Rattle.launch_text.specs.Answers as launch_answers
use Rattle.launch_text.specs.declared.error.LaunchTextError.{LaunchTextError}
use Rattle.launch_text.specs.declared.error.LaunchTextError.TheVariants as launch_errors
use Rattle.opencl_reading.specs.Kernels as opencl
use Rattle.opencl_reading.specs.Answers as opencl_answers
use Rattle.opencl_reading.specs.declared.error.OpenClError as opencl_code
use Rattle.opencl_reading.specs.declared.error.OpenClError.TheVariants as opencl_errors
use Rattle.opencl_reading.proofs.Sound.{written-parameters, written-sizes}
use Rattle.kernel_reading.specs.Kernels.{Language, Plain, OpenCl, Kernel, Source, Read, of_plain, of_opencl, of_written, or_opencl, head_in, as_plain, as_opencl, without_tree, is_silent, in_plain, in_opencl, read_as, read_with, read_under, read}
use Rattle.kernel_reading.specs.Texts.{IsPlainText, IsOpenClText, IsTextOf}
use Rattle.kernel_reading.specs.Answers.{Refuses, is_fault}
use Rattle.kernel_reading.specs.declared.KernelError.TheVariants as errors

-- one of two ways
abbrev pub IsPlainRead : Head → Source → Kernel → Type 0
IsPlainRead e s k = (p : plain.Kernel) × (plain.read (as_plain s) ≡ Ok p) × (without_tree p ≡ k) × (is_silent e ≡ true)

abbrev pub IsOpenClRead : Head → Source → Kernel → Type 0
IsOpenClRead e s k = (w : opencl.Written) × (s.reading.language ≡ OpenCl) × (IsErr (plain.read (as_plain s)) ⊎ (is_silent e ≡ false)) × (as_opencl e s ≡ Ok w) × (of_written w ≡ k)

back : (r : plain.Read) (k : Kernel) → of_plain r ≡ Ok k → (p : plain.Kernel) × (r ≡ Ok p) × (without_tree p ≡ k)
back (Ok p) k h = (p, refl, cc)
back (Err e) k h = absurd cc

opencl-back : (r : opencl.Read) (k : Kernel) → of_opencl r ≡ Ok k → (w : opencl.Written) × (r ≡ Ok w) × (of_written w ≡ k)
opencl-back (Ok w) k h = (w, refl, cc)
opencl-back (Err e) k h = absurd cc

in_plain-back : (e : Head) (b : Bool) (s : Source) (k : Kernel) → is_silent e ≡ b → in_plain b s ≡ Ok k → IsPlainRead e s k
in_plain-back e true s k i h = let p = back (plain.read (as_plain s)) k h in (p.0, p.1, p.2, i)
in_plain-back e false s k i h = absurd cc

in_opencl-back : (e : Head) (b : Bool) (s : Source) (k : Kernel) → s.reading.language ≡ OpenCl → is_silent e ≡ b → in_opencl b e s ≡ Ok k → IsPlainRead e s k ⊎ IsOpenClRead e s k
in_opencl-back e true s k l i h = of (plain.read (as_plain s)) refl h
  where
    of : (r : plain.Read) → plain.read (as_plain s) ≡ r → or_opencl r (as_opencl e s) ≡ Ok k → IsPlainRead e s k ⊎ IsOpenClRead e s k
    of (Ok p) q f = inl (p, q, cc, i)
    of (Err x) q f = let w = opencl-back (as_opencl e s) k f in inr (w.0, l, inl (subst IsErr (sym q) refl), w.1, w.2)
in_opencl-back e false s k l i h = let w = opencl-back (as_opencl e s) k h in inr (w.0, l, inr i, w.1, w.2)

by_language : (e : Head) (l : Language) (s : Source) (k : Kernel) → s.reading.language ≡ l → read_as l e s ≡ Ok k → IsPlainRead e s k ⊎ IsOpenClRead e s k
by_language e Plain s k l h = inl (in_plain-back e (is_silent e) s k refl h)
by_language e OpenCl s k l h = in_opencl-back e (is_silent e) s k l refl h

abbrev pub IsReadWith : Source → Kernel → Type 0
IsReadWith s k = (e : Head) × (head_in s.conditions ≡ Ok e) × (IsPlainRead e s k ⊎ IsOpenClRead e s k)

under-back : (r : Step Head) (s : Source) (k : Kernel) → head_in s.conditions ≡ r → read_under r s ≡ Ok k → IsReadWith s k
under-back (Ok e) s k q h = (e, q, by_language e s.reading.language s k refl h)
under-back (Err (fault, line)) s k q h = absurd cc

pub read-either : (s : Source) (k : Kernel) → read s ≡ Ok k → IsReadWith s k
unfolding read
read-either s k h = under-back (head_in s.conditions) s k refl h

pub read-sound : (s : Source) (k : Kernel) → read s ≡ Ok k → IsTextOf s k
read-sound s k h =
    let r = read-either s k h in (
      r.0,
      r.1,
      elim r.2 [
        | inl p ↦ inl (record { of_tree = p.0; is_text = grammatical.read-sound (as_plain s) p.0 p.1; is_kernel = p.2; has_no_head = p.3 })
        | inr w ↦ inr (record { of_core = w.0; is_opencl = w.1; is_other = w.2; is_read = w.3; is_kernel = w.4 })
      ],
    )

pub sizes-kept : (s : Source) (k : Kernel) → read s ≡ Ok k → HasLocalSizes k.core
sizes-kept s k h =
    let r = read-either s k h in
    elim r.2 [
      | inl p ↦ subst (λ x. HasLocalSizes x.core) p.2 (sizes-read (as_plain s) p.0 p.1)
      | inr w ↦ subst (λ x. HasLocalSizes x.core) w.4 (written-sizes s.reading.devices r.0 s.bytes w.0 w.3)
    ]

-- the map tells of just the core's parameters
pub told-parameters : (s : Source) (k : Kernel) → read s ≡ Ok k → HasParameters k.names k.core
told-parameters s k h =
    let r = read-either s k h in
    elim r.2 [
      | inl p ↦
          let t = grammatical.read-sound (as_plain s) p.0 p.1 in
          subst (λ x. HasParameters x.names x.core) p.2 (tells_parameters s.reading.devices p.0.tree p.0.core p.0.names t.is_named t.is_typed)
      | inr w ↦ subst (λ x. HasParameters x.names x.core) w.4 (written-parameters s.reading.devices r.0 s.bytes w.0 w.3)
    ]

-- errors
pub plain-refused : (e : plain_code.KernelError) (d : Head) (s : Source) → s.reading.language ≡ Plain → is_silent d ≡ true → plain_answers.Refuses e (plain.read (as_plain s)) → Refuses (errors.Plain e) (read_with d s)
plain-refused (plain_errors.Text (texts.At f line column)) d s l i h = ap (λ x. read_as x d s) l ∙ ap (λ b. in_plain b s) i ∙ ap of_plain h
plain-refused (plain_errors.Tree (trees.At f at)) d s l i h = ap (λ x. read_as x d s) l ∙ ap (λ b. in_plain b s) i ∙ ap of_plain h
plain-refused (plain_errors.Types (typing.At f at)) d s l i h = ap (λ x. read_as x d s) l ∙ ap (λ b. in_plain b s) i ∙ ap of_plain h
plain-refused (plain_errors.Text texts.Memory) d s l i h = tt
plain-refused (plain_errors.Tree trees.Memory) d s l i h = tt
plain-refused (plain_errors.Types typing.Memory) d s l i h = tt

-- a fault of the plain language is one of what is read
faulty : (e : plain_code.KernelError) (r : plain.Read) → is_fault e ≡ true → plain_answers.Refuses e r → IsErr r
faulty (plain_errors.Text (texts.At f line column)) r b h = subst IsErr (sym h) refl
faulty (plain_errors.Tree (trees.At f at)) r b h = subst IsErr (sym h) refl
faulty (plain_errors.Types (typing.At f at)) r b h = subst IsErr (sym h) refl
faulty (plain_errors.Text texts.Memory) r b h = absurd cc
faulty (plain_errors.Tree trees.Memory) r b h = absurd cc
faulty (plain_errors.Types typing.Memory) r b h = absurd cc

other : (r : plain.Read) (o : opencl.Read) → IsErr r → or_opencl r o ≡ of_opencl o
other (Ok k) o h = absurd cc
other (Err e) o h = refl

pub opencl-given : (e : plain_code.KernelError) (d : Head) (s : Source) → s.reading.language ≡ OpenCl → is_silent d ≡ true → is_fault e ≡ true → plain_answers.Refuses e (plain.read (as_plain s)) → read_with d s ≡ of_opencl (as_opencl d s)
opencl-given e d s l i b h = ap (λ x. read_as x d s) l ∙ ap (λ x. in_opencl x d s) i ∙ other (plain.read (as_plain s)) (as_opencl d s) (faulty e (plain.read (as_plain s)) b h)

-- want of memory is any answer
pub no-memory : (e : plain_code.KernelError) (d : Head) (s : Source) → is_fault e ≡ false → Refuses (errors.Plain e) (read_with d s)
no-memory (plain_errors.Text (texts.At f line column)) d s b = absurd cc
no-memory (plain_errors.Tree (trees.At f at)) d s b = absurd cc
no-memory (plain_errors.Types (typing.At f at)) d s b = absurd cc
no-memory (plain_errors.Text texts.Memory) d s b = tt
no-memory (plain_errors.Tree trees.Memory) d s b = tt
no-memory (plain_errors.Types typing.Memory) d s b = tt

pub plain-taken : (p : plain.Kernel) (d : Head) (s : Source) → is_silent d ≡ true → plain.read (as_plain s) ≡ Ok p → read_with d s ≡ Ok (without_tree p)
plain-taken p d s i h = by s.reading.language
  where
    by : (l : Language) → read_as l d s ≡ Ok (without_tree p)
    by Plain = ap (λ b. in_plain b s) i ∙ ap of_plain h
    by OpenCl = ap (λ b. in_opencl b d s) i ∙ ap (λ r. or_opencl r (as_opencl d s)) h

-- where there is a head
pub headed-refused : (d : Head) (s : Source) → s.reading.language ≡ Plain → is_silent d ≡ false → Refuses errors.Headed (read_with d s)
headed-refused d s l i = ap (λ x. read_as x d s) l ∙ ap (λ b. in_plain b s) i

pub headed-given : (d : Head) (s : Source) → s.reading.language ≡ OpenCl → is_silent d ≡ false → read_with d s ≡ of_opencl (as_opencl d s)
headed-given d s l i = ap (λ x. read_as x d s) l ∙ ap (λ b. in_opencl b d s) i

-- the head's own faults
pub head-refused : (e : LaunchTextError) (s : Source) → launch_answers.Refuses e (head_in s.conditions) → Refuses (errors.Head e) (read s)
unfolding read
head-refused (launch_errors.Refused f line) s h = ap (λ r. read_under r s) h
head-refused launch_errors.Memory s h = tt

pub head-taken : (e : Head) (s : Source) → head_in s.conditions ≡ Ok e → read s ≡ read_with e s
unfolding read
head-taken e s h = ap (λ r. read_under r s) h
