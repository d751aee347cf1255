-- The symbols that may be named at a place, in the test of a loop and in a quotient, and forms of them.
use Rattle.std.specs.Prelude.{ℕ, ◌+◌, ◌-◌, ◌%◌, ◌^◌, ℤ, pos, Bool, cond, nat_eq, nat_le, nat_lt, ◌&&◌, List, [], ◌∷◌, ◌++◌, length, Option, None, Some, bytes_eq}
use Rattle.std.specs.Option.{option_map}
use Rattle.linear.specs.Linear.{Weighted, Form}
use Rattle.semantics.specs.Launch as launch
use Rattle.linear.specs.Exact.{fits, sum, multiple}
use Rattle.linear.specs.Products.{and_then, times}
use Rattle.facts.specs.Symbols as symbols
use Rattle.facts.specs.Symbols.{Fact, constant, number}
use Rattle.texts.specs.Surface.{Parameter, Buffer, Value}
use Rattle.kernel_names.specs.NameMap.{NameMap}
use Rattle.certificate_text.specs.Certificate as certificate
use Rattle.certificate_text.specs.Certificate.{Dimension, First, Second, Third, Name, Variable, AtAnchor, Turns, Fresh, Argument, Length, Groups, Group, Local, Product}
use Rattle.certificate_notes.specs.Scenes.{Named, Scene, take_arguments, take_variables, all_assigned, all_scenes}

-- buffer parameters by their numbers
abbrev pub take_buffer : Parameter → List Named → List Named
take_buffer (Buffer constant kind site name) bs = bs ++ record { name = name; slot = length bs } ∷ []
take_buffer (Value kind site name) bs = bs

abbrev pub take_buffers : List Parameter → List Named → List Named
take_buffers [] bs = bs
take_buffers (p ∷ ps) bs = take_buffers ps (take_buffer p bs)

-- a kernel's value parameters, its buffer parameters, the value parameters that are assigned, all its variables, and its scenes
pub record Chart : Type 0 where
  pub arguments : List Named
  pub buffers : List Named
  pub entry : List Named
  pub names : List Named
  pub scenes : List Scene

abbrev pub arguments_of : NameMap → List Named
arguments_of m = take_arguments m.parameters []

abbrev pub entry_of : launch.Kernel → NameMap → List Named
entry_of k m = all_assigned k (arguments_of m) []

abbrev pub chart_of : launch.Kernel → NameMap → Chart
chart_of k m = record {
  arguments = arguments_of m;
  buffers = take_buffers m.parameters [];
  entry = entry_of k m;
  names = take_variables m.variables (arguments_of m);
  scenes = all_scenes (length (arguments_of m)) (entry_of k m) m m.statements [];
}

-- the variables that stand for what they are now, and for what they were at the anchor; the loops around; whether symbols that are new
-- on a path are among them, and those of a second item
pub record Sight : Type 0 where
  pub here : List Named
  pub before : List Named
  pub around : List ℕ
  pub has_new : Bool
  pub has_second : Bool

-- the first of that name, of that number
abbrev pub slot_of : List Named → (name : List ℕ) → Option ℕ
slot_of [] x = None
slot_of (n ∷ ns) x = cond (bytes_eq n.name x) (Some n.slot) (slot_of ns x)

abbrev pub found_in : List ℕ → ℕ → Option ℕ
found_in [] n = None
found_in (m ∷ ms) n = cond (nat_eq m n) (Some m) (found_in ms n)

abbrev pub dimension_number : Dimension → ℕ
dimension_number First = 0
dimension_number Second = 1
dimension_number Third = 2

-- new symbols are counted from 1; no path makes so many as 2^32
abbrev pub new_number : (has_new : Bool) → ℕ → Option ℕ
new_number has n = cond (has && (nat_le 1 n && nat_lt n (2 ^ 32))) (Some (n - 1)) None

-- the second item's copy of a symbol that is an item's own: six families on
abbrev pub second_of : (has_second : Bool) → ℕ → Option ℕ
second_of has n = cond (has && (nat_le 3 (n % 16) && nat_lt (n % 16) 9)) (Some (n + 6)) None

-- the product of two symbols, where it is one
abbrev pub product_of : Option ℕ → Option ℕ → Option ℕ
product_of m n = and_then m (λ a. and_then n (λ b. times a b))

-- the symbol of the first term
abbrev pub first_of : List (Weighted ℕ) → Option ℕ
first_of [] = None
first_of (t ∷ ts) = Some t.symbol

abbrev pub plain_symbol : Chart → Sight → Name → Option ℕ
plain_symbol c s (Variable x) = option_map (λ n. number (symbols.Variable symbols.First n)) (slot_of s.here x)
plain_symbol c s (AtAnchor x) = option_map (λ n. number (symbols.AtAnchor symbols.First n)) (slot_of s.before x)
plain_symbol c s (Turns n) = option_map (λ m. number (symbols.Turns symbols.First m)) (found_in s.around n)
plain_symbol c s (Fresh n) = option_map (λ k. number (symbols.New symbols.First k)) (new_number s.has_new n)
plain_symbol c s (Argument x) = option_map (λ n. number (symbols.ArgumentOf n)) (slot_of c.arguments x)
plain_symbol c s (Length x) = option_map (λ n. number (symbols.Length n)) (slot_of c.buffers x)
plain_symbol c s (Groups d) = Some (number (symbols.Groups (dimension_number d)))
plain_symbol c s (Group d) = Some (number (symbols.Group symbols.First (dimension_number d)))
plain_symbol c s (Local d) = Some (number (symbols.Local symbols.First (dimension_number d)))
plain_symbol c s (certificate.Second x) = None
plain_symbol c s (Product x y) = None

-- a name's symbol: of a second item where those may be named, of a product by its factors
abbrev pub symbol : Chart → Sight → Name → Option ℕ
symbol c s (certificate.Second x) = and_then (symbol c s x) (second_of s.has_second)
symbol c s (Product x y) = product_of (symbol c s x) (symbol c s y)
symbol c s (Variable x) = plain_symbol c s (Variable x)
symbol c s (AtAnchor x) = plain_symbol c s (AtAnchor x)
symbol c s (Turns n) = plain_symbol c s (Turns n)
symbol c s (Fresh n) = plain_symbol c s (Fresh n)
symbol c s (Argument x) = plain_symbol c s (Argument x)
symbol c s (Length x) = plain_symbol c s (Length x)
symbol c s (Groups d) = plain_symbol c s (Groups d)
symbol c s (Group d) = plain_symbol c s (Group d)
symbol c s (Local d) = plain_symbol c s (Local d)

-- a form, where all its numbers are of `i64`: those of a certificate always are
abbrev pub fitting : Fact → Option Fact
fitting f = cond (fits f) (Some f) None

abbrev pub then_fact : Option Fact → (goes : Fact → Option Fact) → Option Fact
then_fact None go = None
then_fact (Some f) go = go f

-- a form and a multiple of a symbol
abbrev pub with_term : (coefficient : ℤ) → Fact → (symbol : ℕ) → Option Fact
with_term z f n = then_fact (fitting (multiple z (record { terms = record { coefficient = pos 1; symbol = n } ∷ []; constant = pos 0 }))) (λ g. fitting (sum f g))

-- and what goes on from there
abbrev pub then_added : (coefficient : ℤ) → Fact → (goes : Fact → Option Fact) → Option ℕ → Option Fact
then_added z f go None = None
then_added z f go (Some n) = then_fact (with_term z f n) go

abbrev pub added : Chart → Sight → List (Weighted Name) → Fact → Option Fact
added c s [] f = Some f
added c s (t ∷ ts) f = then_added t.coefficient f (added c s ts) (symbol c s t.symbol)

-- a form of a certificate, where all its names are symbols
abbrev pub fact : Chart → Sight → Form Name → Option Fact
fact c s f = added c s f.terms (constant f.constant)
