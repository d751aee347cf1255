-- What the names of a scope stand for is declared in it.
use Rattle.std.proofs.Common.{◌≡◌, ℕ, ◌+◌, ◌<◌, List, [], ◌∷◌, ◌++◌, Bool, cond, true, false, arith, length, refl, sym, subst, not}
use Rattle.std.specs.Prelude.{Option, Some, None, bytes_eq}
use Rattle.std.proofs.lemmas.List.{length-append}
use Rattle.semantics.specs.Word.{Kind}
use Rattle.semantics.specs.Core.{Site, Global, Local}
use Rattle.semantics.specs.Launch.{LocalArray}
use Rattle.texts.specs.Surface.{Parameter, Buffer, Value}
use Rattle.types.specs.TypeFaults.{UnknownName, NameTwice, found}
use Rattle.types.specs.Scope.{Meaning, VariableAt, ArrayAt, Binding, Scope, meaning_of, may_declare, bind, declare_variable, declare_buffer, declare_array}
use Rattle.types.specs.Elaboration.{declare_parameter, declare_parameters}
use Rattle.sound_cores.specs.Declarations.{Declared, HasArray}
use Rattle.shown_kernels.proofs.Holding.{Holds, then-holds, when-holds}
use Rattle.shown_kernels.proofs.Mapping.{mapped}
use Rattle.shown_kernels.proofs.Growing.{Grows, array-grows}

abbrev pub declared_in : Scope → Declared
declared_in scope = record { slots = length scope.slots; buffers = length scope.buffers; arrays = length scope.arrays }

abbrev pub IsThere : Declared → Meaning → Type 0
IsThere d (VariableAt slot kind) = slot < d.slots
IsThere d (ArrayAt array kind writable) = HasArray d array

abbrev pub AreThere : Declared → List Binding → Type 0
AreThere d [] = Unit {0}
AreThere d (b ∷ bs) = IsThere d b.meaning × AreThere d bs

there-grows : (d e : Declared) → Grows d e → (m : Meaning) → IsThere d m → IsThere e m
there-grows d e g (VariableAt slot kind) h = omega (arith, g.slots, h)
there-grows d e g (ArrayAt array kind writable) h = array-grows d e g array.space array.number h

pub are-there-grow : (d e : Declared) → Grows d e → (bs : List Binding) → AreThere d bs → AreThere e bs
are-there-grow d e g [] h = tt
are-there-grow d e g (b ∷ bs) h = (there-grows d e g b.meaning h.0, are-there-grow d e g bs h.1)

there-more : (d : Declared) (bs : List Binding) (b : Binding) → AreThere d bs → IsThere d b.meaning → AreThere d (bs ++ b ∷ [])
there-more d [] b h k = (k, tt)
there-more d (c ∷ bs) b h k = (h.0, there-more d bs b h.1 k)

-- a name that is found
abbrev IsFound : Declared → Option Meaning → Type 0
IsFound d None = Unit {0}
IsFound d (Some m) = IsThere d m

name-there : (d : Declared) (names : List Binding) (x : List ℕ) → AreThere d names → IsFound d (meaning_of names x)
name-there d [] x h = tt
name-there d (b ∷ bs) x h = by (bytes_eq b.name x) (name-there d bs x h.1)
  where
    by : (c : Bool) → IsFound d (meaning_of bs x) → IsFound d (cond c (Some b.meaning) (meaning_of bs x))
    by true k = h.0
    by false k = k

found-holds : (d : Declared) (site : Site) (m : Option Meaning) → IsFound d m → Holds (IsThere d) (found m UnknownName site)
found-holds d site None h = tt
found-holds d site (Some m) h = h

pub found-there : (d : Declared) (names : List Binding) (site : Site) (x : List ℕ) → AreThere d names → Holds (IsThere d) (found (meaning_of names x) UnknownName site)
found-there d names site x h = found-holds d site (meaning_of names x) (name-there d names x h)

-- a scope with more in it
pub record Larger (scope inner : Scope) : Type 0 where
  pub grows : Grows (declared_in scope) (declared_in inner)
  pub there : AreThere (declared_in inner) inner.visible

abbrev pub AreSeen : Scope → Type 0
AreSeen scope = AreThere (declared_in scope) scope.visible

bound : (scope more : Scope) (name : List ℕ) (m : Meaning) → more.visible ≡ scope.visible → AreSeen scope → Grows (declared_in scope) (declared_in more) → IsThere (declared_in more) m → Larger scope (bind more name m)
bound scope more name m e h g k =
    record { grows = g; there = there-more (declared_in more) more.visible (record { name = name; meaning = m }) (subst (AreThere (declared_in more)) (sym e) (are-there-grow (declared_in scope) (declared_in more) g scope.visible h)) k }

-- a private variable or value parameter takes the next slot
pub record NextSlot (scope inner : Scope) : Type 0 where
  pub larger : Larger scope inner
  pub slot : length scope.slots < length inner.slots
  pub buffers : length inner.buffers ≡ length scope.buffers

pub variable-declared : (scope : Scope) (site : Site) (x : List ℕ) (kind : Kind) → AreSeen scope → Holds (NextSlot scope) (declare_variable scope site x kind)
variable-declared scope site x kind h =
    let e : length (scope.slots ++ kind ∷ []) ≡ length scope.slots + 1 = length-append scope.slots (kind ∷ []) in
    let more : Scope = record scope { slots = scope.slots ++ kind ∷ [] } in
    let g : Grows (declared_in scope) (declared_in more) = record { slots = omega (arith, e); buffers = omega arith; arrays = omega arith } in
    when-holds (NextSlot scope) (may_declare scope x) NameTwice site (bind more x (VariableAt (length scope.slots) kind))
    (record { larger = bound scope more x (VariableAt (length scope.slots) kind) refl h g (omega (arith, e)); slot = omega (arith, e); buffers = refl })

pub record NextArray (scope inner : Scope) : Type 0 where
  pub larger : Larger scope inner
  pub buffers : length inner.buffers ≡ length scope.buffers

pub array-declared : (scope : Scope) (site : Site) (x : List ℕ) (kind : Kind) (size : ℕ) → AreSeen scope → Holds (NextArray scope) (declare_array scope site x kind size)
array-declared scope site x kind size h =
    let a : LocalArray = record { kind = kind; length = size } in
    let e : length (scope.arrays ++ a ∷ []) ≡ length scope.arrays + 1 = length-append scope.arrays (a ∷ []) in
    let more : Scope = record scope { arrays = scope.arrays ++ a ∷ [] } in
    let m : Meaning = ArrayAt (record { space = Local; number = length scope.arrays }) kind true in
    let g : Grows (declared_in scope) (declared_in more) = record { slots = omega arith; buffers = omega arith; arrays = omega (arith, e) } in
    when-holds (NextArray scope) (may_declare scope x) NameTwice site (bind more x m) (record { larger = bound scope more x m refl h g (omega (arith, e)); buffers = refl })

buffer-declared : (scope : Scope) (site : Site) (x : List ℕ) (kind : Kind) (constant : Bool) → AreSeen scope → Holds AreSeen (declare_buffer scope site x kind constant)
buffer-declared scope site x kind constant h =
    let e : length (scope.buffers ++ kind ∷ []) ≡ length scope.buffers + 1 = length-append scope.buffers (kind ∷ []) in
    let more : Scope = record scope { buffers = scope.buffers ++ kind ∷ [] } in
    let m : Meaning = ArrayAt (record { space = Global; number = length scope.buffers }) kind (not constant) in
    let g : Grows (declared_in scope) (declared_in more) = record { slots = omega arith; buffers = omega (arith, e); arrays = omega arith } in
    when-holds AreSeen (may_declare scope x) NameTwice site (bind more x m) (bound scope more x m refl h g (omega (arith, e))).there

parameter-declared : (scope : Scope) (p : Parameter) → AreSeen scope → Holds AreSeen (declare_parameter scope p)
parameter-declared scope (Buffer constant kind site x) h = buffer-declared scope site x kind constant h
parameter-declared scope (Value kind site x) h = mapped (NextSlot scope) AreSeen (declare_variable scope site x kind) (λ inner n. n.larger.there) (variable-declared scope site x kind h)

pub parameters-declared : (scope : Scope) (ps : List Parameter) → AreSeen scope → Holds AreSeen (declare_parameters scope ps)
parameters-declared scope [] h = h
parameters-declared scope (p ∷ ps) h = then-holds AreSeen AreSeen (declare_parameter scope p) _ (parameter-declared scope p h) (λ inner k. parameters-declared inner ps k)
