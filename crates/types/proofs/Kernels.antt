-- Kernels, by their parts.
use Rattle.std.proofs.Common.{◌≡◌, ℕ, List, length, drop, map, Ok, refl, ◌∙◌, sym}
use Rattle.std.proofs.lemmas.List.{length-map, drop-map}
use Rattle.semantics.specs.Core as core
use Rattle.semantics.specs.Launch as launch
use Rattle.texts.specs.Surface as surface
use Rattle.types.specs.Scope.{Devices, Scope, empty_scope}
use Rattle.types.specs.Elaboration.{Elaborated, InKernel, declare_parameters, elaborate_all, elaborate_inside}
use Rattle.words.specs.View.{kind}
use Rattle.words.specs.declared.word.Kind.{Kind}
use Rattle.types.specs.Blocks.{behind}
use Rattle.types.proofs.Blocks.{behind-none}

pub kernel-done : (d : Devices) (k : surface.Kernel) (outer : Scope) (x : Elaborated) → declare_parameters (empty_scope d) k.parameters ≡ Ok outer → behind core.none (elaborate_all InKernel outer k.body) ≡ Ok x → elaborate_inside d k ≡ Ok (let r : launch.Kernel = record { sizes = k.sizes; buffers = outer.buffers; arguments = outer.slots; arrays = x.scope.arrays; variables = drop (length outer.slots) x.scope.slots; body = x.statements } in r)
unfolding elaborate_inside
kernel-done d k outer x p q = rw (p, sym (behind-none (elaborate_all InKernel outer k.body)) ∙ q) refl

pub kinds-behind : (first all : List Kind) (n : ℕ) → n ≡ length first → map kind (drop n all) ≡ drop (length (map kind first)) (map kind all)
kinds-behind first all n h = rw (h, length-map first kind) (sym (drop-map kind (length first) all))
