-- The kinds of a kernel's value parameters and of its buffer parameters, in order.
use Rattle.std.specs.Prelude.{◌≡◌, List, [], ◌∷◌, Option, None, Some}
use Rattle.semantics.specs.Word.{Kind}
use Rattle.semantics.specs.Launch.{Kernel}
use Rattle.texts.specs.Surface.{Parameter, Buffer, Value}
use Rattle.kernel_names.specs.NameMap.{NameMap}

-- the kind of a value parameter
abbrev pub value_kind : Parameter → Option Kind
value_kind (Buffer constant k site name) = None
value_kind (Value k site name) = Some k

-- the kind of a buffer parameter's elements
abbrev pub buffer_kind : Parameter → Option Kind
buffer_kind (Buffer constant k site name) = Some k
buffer_kind (Value k site name) = None

abbrev pub onto : Option Kind → List Kind → List Kind
onto None ks = ks
onto (Some k) ks = k ∷ ks

-- the kinds of those parameters that have one, in order
abbrev pub kinds : (Parameter → Option Kind) → List Parameter → List Kind
kinds of [] = []
kinds of (p ∷ ps) = onto (of p) (kinds of ps)

-- a map tells of just the parameters that a core has
abbrev pub HasParameters : NameMap → Kernel → Type 0
HasParameters m k = (k.arguments ≡ kinds value_kind m.parameters) × (k.buffers ≡ kinds buffer_kind m.parameters)
