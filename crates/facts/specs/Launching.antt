-- What launch conditions say of each launch that meets them, and of its items: facts, and elements of their symbols.
use Rattle.std.specs.Prelude.{ℕ, zero, suc, ℤ, pos, ◌-ℤ◌, List, [], ◌∷◌, ◌++◌, map, Option, Some, None, Bool, ◌&&◌, nat_le}
use Rattle.std.specs.Option.{option_map}
use Rattle.semantics.specs.Launch.{Three}
use Rattle.semantics.specs.Setup.{along}
use Rattle.semantics.specs.Conditions.{Range, Factor, ArgumentFactor, GroupsFactor, Summand, Constant, Argument, Groups, Product}
use Rattle.semantics.specs.Conditions.{Requirement, Content, Conditions}
use Rattle.linear.specs.Exact.{sum, multiple}
use Rattle.linear.specs.Products.{times, single, and_then}
use Rattle.domain.specs.declared.Domain.{Ghosts}
use Rattle.facts.specs.Symbols as symbols
use Rattle.facts.specs.Symbols.{Side, Symbol, ArgumentOf, Length, Local, Group, number, Fact, constant, once, minus}
use Rattle.facts.specs.Elements.{Known, Elements, between, element_of}

abbrev pub each_dimension : {A : Type 0} → (ℕ → List A) → List A
each_dimension f = f 0 ++ (f 1 ++ f 2)

abbrev pub factor_symbol : Factor → Symbol
factor_symbol (ArgumentFactor n) = ArgumentOf n
factor_symbol (GroupsFactor d) = symbols.Groups d

-- the symbol of a product, once; parameters from the 65,535th on have no products
abbrev pub product_form : (first second : Factor) → Option Fact
product_form a b = option_map single (times (number (factor_symbol a)) (number (factor_symbol b)))

abbrev pub summand_form : Summand → Option Fact
summand_form (Constant z) = Some (constant z)
summand_form (Argument c n) = Some (multiple c (once (ArgumentOf n)))
summand_form (Groups c d) = Some (multiple c (once (symbols.Groups d)))
summand_form (Product c a b) = option_map (multiple c) (product_form a b)

abbrev pub sum_from : Fact → List Summand → Option Fact
sum_from f [] = Some f
sum_from f (x ∷ xs) = and_then (summand_form x) (λ g. sum_from (sum f g) xs)

abbrev pub sum_form : List Summand → Option Fact
sum_form xs = sum_from (constant (pos 0)) xs

-- where a sum has no form nothing is said: 0 is at least 0
abbrev pub difference : (left right : Option Fact) → Fact
difference None g = constant (pos 0)
difference (Some f) None = constant (pos 0)
difference (Some f) (Some g) = minus f g

-- what a line says of a buffer: each element is at most, or at least, this sum, where it has a form
pub record BufferBound : Type 0 where
  pub buffer : ℕ
  pub is_upper : Bool
  pub sum : Option Fact

abbrev pub buffer_bound : Content → BufferBound
buffer_bound x = record { buffer = x.buffer; is_upper = x.is_upper; sum = sum_form x.sum }

abbrev pub buffer_bounds : Conditions → List BufferBound
buffer_bounds c = map buffer_bound c.contents

-- at least the low end, at most the high one
abbrev pub ends : Range → Fact → List Fact
ends r f = minus f (constant r.low) ∷ minus (constant r.high) f ∷ []

abbrev pub argument_facts : ℕ → List Range → List Fact
argument_facts n [] = []
argument_facts n (r ∷ rs) = ends r (once (ArgumentOf n)) ++ argument_facts (suc n) rs

-- a buffer is as long as its sum, and a `uint` counts its elements
abbrev pub length_ends : ℕ → List Summand → List Fact
length_ends b s = difference (Some (once (Length b))) (sum_form s) ∷ minus (constant (pos 4294967295)) (once (Length b)) ∷ []

abbrev pub length_facts : ℕ → List (List Summand) → List Fact
length_facts b [] = []
length_facts b (s ∷ ss) = length_ends b s ++ length_facts (suc b) ss

abbrev pub required : Requirement → Fact
required r = difference (sum_form r.left) (sum_form r.right)

-- a dimension's range of group counts
abbrev pub count_range : Conditions → ℕ → Range
count_range c zero = c.groups.x
count_range c (suc zero) = c.groups.y
count_range c (suc (suc d)) = c.groups.z

abbrev pub launch_facts : Conditions → List Fact
launch_facts c =
    each_dimension (λ d. ends (count_range c d) (once (symbols.Groups d)))
    ++ (argument_facts 0 c.arguments ++ (length_facts 0 c.lengths ++ map required c.requires))

-- local sizes are those that a device has (OpenCL 1.2, 4.2 lets it choose; ours are at most 1,024)
abbrev pub are_sizes : Three ℕ → Bool
are_sizes t = nat_le t.x 1024 && (nat_le t.y 1024 && nat_le t.z 1024)

-- an item's local id is below the local size, and its group id below the group count
abbrev pub local_facts : Three ℕ → Side → ℕ → List Fact
local_facts sizes w d = once (Local w d) ∷ minus (constant (pos (along sizes d 1) -ℤ pos 1)) (once (Local w d)) ∷ []

abbrev pub group_facts : Side → ℕ → List Fact
group_facts w d = once (Group w d) ∷ minus (minus (once (symbols.Groups d)) (once (Group w d))) (constant (pos 1)) ∷ []

abbrev pub id_facts : Three ℕ → Side → ℕ → List Fact
id_facts sizes w d = local_facts sizes w d ++ group_facts w d

abbrev pub item_facts : Three ℕ → Side → List Fact
item_facts sizes w = each_dimension (id_facts sizes w)

abbrev pub of_range : {E : Type 0} → Ghosts E → Range → E
of_range g r = between g r.low r.high

abbrev pub at_least_some : {E : Type 0} → Ghosts E → E → Option ℤ → E
at_least_some g e None = e
at_least_some g e (Some low) = g.at_least_of e low

-- counts and arguments alone are known
abbrev pub known_so_far : {E : Type 0} → Ghosts E → Conditions → Elements E
known_so_far g c = record {
  known = record {
    counts = of_range g c.groups.x ∷ of_range g c.groups.y ∷ of_range g c.groups.z ∷ [];
    arguments = map (of_range g) c.arguments;
    lengths = [];
    locals = [];
    groups = [];
  };
  first = [];
  second = [];
}

-- the least value of a sum, by the elements of its symbols
abbrev pub least_of : {E : Type 0} → Ghosts E → Elements E → Option Fact → Option ℤ
least_of g e None = None
least_of g e (Some f) = (g.bounds_of (element_of g e f)).low

-- what a `uint` counts, from the least value of the buffer's sum on
abbrev pub from_least : {E : Type 0} → Ghosts E → Elements E → List Summand → E
from_least g e s = at_least_some g (between g (pos 0) (pos 4294967295)) (least_of g e (sum_form s))

-- 0 up to the number before n
abbrev pub below : {E : Type 0} → Ghosts E → ℤ → E
below g n = between g (pos 0) (n -ℤ pos 1)

abbrev pub known : {E : Type 0} → Ghosts E → Three ℕ → Conditions → Known E
known g sizes c = record {
  counts = of_range g c.groups.x ∷ of_range g c.groups.y ∷ of_range g c.groups.z ∷ [];
  arguments = map (of_range g) c.arguments;
  lengths = map (from_least g (known_so_far g c)) c.lengths;
  locals = below g (pos sizes.x) ∷ below g (pos sizes.y) ∷ below g (pos sizes.z) ∷ [];
  groups = below g c.groups.x.high ∷ below g c.groups.y.high ∷ below g c.groups.z.high ∷ [];
}
