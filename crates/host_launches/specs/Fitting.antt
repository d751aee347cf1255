-- Whether arguments are those of a kernel's parameters (OpenCL 1.2, 5.7.2), or the first that is not.
use Rattle.std.specs.Prelude.{ℕ, ◌*◌, ◌/◌, ◌+◌, suc, List, [], ◌∷◌, length, take, Bool, true, false, ◌&&◌, ◌||◌, not, nat_eq, nat_le, cond, Result, Ok, Err}
use Rattle.host_launches.specs.declared.given.Argument.{Argument}
use Rattle.host_launches.specs.declared.given.Refusal.{Refusal}
use Rattle.host_launches.specs.declared.shapes.Element.{Element}
use Rattle.host_launches.specs.declared.shapes.Shape.{Shape}
use Rattle.host_launches.specs.declared.shapes.Shape.TheVariants.{Value, Buffer, Local}
use Rattle.host_launches.specs.Shapes.{size_of, bytes_of}
use Rattle.host_launches.specs.Numbers.{has_word}
use Rattle.host_launches.specs.Refusing.{fine, on, when}

abbrev pub Fit : Type 0
Fit = Result (Unit {0}) Refusal

-- one of the buffers among these is that memory
abbrev pub is_among : (memory : ℕ) → List Argument → Bool
is_among m [] = false
is_among m (a ∷ gs) = (nat_eq a.kind 1 && nat_eq a.memory m) || is_among m gs

abbrev pub value_fits : Element → (at : ℕ) → Argument → Fit
value_fits e n a = when (nat_eq a.kind 0 && (nat_eq a.bytes (bytes_of e.scalar e.width) && has_word e.scalar a.words)) 41 n fine

-- a `uint` counts its components
abbrev pub is_short : Element → Argument → Bool
is_short e a = nat_le (a.bytes / size_of e.scalar) 4294967295

abbrev pub buffer_fits : Element → (at : ℕ) → Argument → (earlier : List Argument) → Fit
buffer_fits e n a gs =
    when (nat_eq a.kind 1 && not (nat_eq a.memory 0)) 41 n (when (is_short e a) 47 n (
    when (not (is_among a.memory gs)) 44 n fine))

abbrev pub local_fits : Element → (count at : ℕ) → Argument → Fit
local_fits e count n a = when (nat_eq a.kind 2 && nat_le (count * bytes_of e.scalar e.width) a.bytes) 41 n fine

abbrev pub argument_fits : Shape → (at : ℕ) → Argument → (earlier : List Argument) → Fit
argument_fits (Value e) n a gs = value_fits e n a
argument_fits (Buffer e) n a gs = buffer_fits e n a gs
argument_fits (Local e count) n a gs = local_fits e count n a

-- those behind the first ones
abbrev pub each_fits : (all : List Argument) (at : ℕ) → List Shape → List Argument → Fit
each_fits all n [] gs = fine
each_fits all n (s ∷ ss) [] = fine
each_fits all n (s ∷ ss) (a ∷ gs) = on (argument_fits s n a (take n all)) (λ u. each_fits all (n + 1) ss gs)

abbrev pub lesser : ℕ → ℕ → ℕ
lesser m n = cond (nat_le m n) m n

-- there is one for each parameter, and each is its parameter's
abbrev pub arguments_fit : List Shape → List Argument → Fit
arguments_fit ss gs = when (nat_eq (length ss) (length gs)) 41 (lesser (length ss) (length gs)) (each_fits gs 0 ss gs)
