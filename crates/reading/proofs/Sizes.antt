-- The local sizes of what is read.
use Rattle.std.proofs.Common.{◌≡◌, ℕ, List, Ok, Err, sym, ap, subst}
use Rattle.semantics.specs.Launch as launch
use Rattle.texts.specs.Surface as surface
use Rattle.types.specs.TypeFaults.{NameTwice, Checked, then, when}
use Rattle.types.specs.Elaboration.{elaborate_inside, elaborate, InKernel, elaborate_all, declare_parameters}
use Rattle.types.specs.Scope.{Devices, empty_scope, may_name_kernel}
use Rattle.texts.specs.KernelLimits.{IsLocalSize}
use Rattle.reading.specs.Kernels.{Kernel, Source, read}
use Rattle.reading.specs.Limits.{HasLocalSizes}
use Rattle.reading.proofs.Grammatical.{read-sound}

-- a chain that answers took its first step
then-took : {A B : Type 0} (a : Checked A) (go : A → Checked B) (b : B) → then a go ≡ Ok b → (x : A) × (go x ≡ Ok b)
then-took (Ok x) go b h = (x, h)
then-took (Err e) go b h = absurd cc

sizes-or : launch.Three ℕ → Checked launch.Kernel → launch.Three ℕ
sizes-or d (Ok k) = k.sizes
sizes-or d (Err e) = d

core-sizes : (d : Devices) (t : surface.Kernel) (k : launch.Kernel) → elaborate d t ≡ Ok k → k.sizes ≡ t.sizes
unfolding elaborate elaborate_inside sizes-or
core-sizes d t k h =
    let named = then-took (when (may_name_kernel t.name) NameTwice t.name_site (empty_scope d)) _ k h in
    let outer = then-took (declare_parameters (empty_scope d) t.parameters) _ k named.1 in
    let body = then-took (elaborate_all InKernel outer.0 t.body) _ k outer.1 in
    sym (ap (sizes-or t.sizes) body.1)

pub sizes-read : (source : Source) (k : Kernel) → read source ≡ Ok k → HasLocalSizes k.core
sizes-read source k h =
    let t = read-sound source k h in
    let s = t.within_limits.1.local_sizes in
    subst (λ z. IsLocalSize z.x × IsLocalSize z.y × IsLocalSize z.z) (sym (core-sizes source.devices k.tree k.core t.is_typed)) (s.0, s.1, s.2)
