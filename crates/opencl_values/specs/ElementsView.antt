-- What the code's elements stand for.
use denote.Ref.{Bor}
use Rattle.std.specs.Prelude.{ℕ, List, Option, Some, None}
use Rattle.semantics.specs.Core as core
use Rattle.core_code.specs.View.{array, term}
use Rattle.core_code.specs.declared.tree.Term.{Term}
use Rattle.opencl_terms.specs.Answers.{value_type}
use Rattle.opencl_values.specs.Elements as elements
use Rattle.opencl_values.specs.View.{maybe_scalar}
use Rattle.opencl_values.specs.declared.elements.Part.{Part}
use Rattle.opencl_values.specs.declared.elements.Element.{Element}

abbrev pub maybe_term : Option Term → Option core.Term
maybe_term None = None
maybe_term (Some t) = Some (term t)

-- the lengths that are left, and the index
abbrev pub rest : Bor (List ℕ) × Term → List ℕ × core.Term
rest r = (r.0.now, term r.1)

abbrev pub part : Part → elements.Part
part p = record {
  array = array p.array;
  element = value_type p.element;
  is_constant = p.is_constant;
  lengths = p.lengths.now;
  index = maybe_term p.index;
  offset = maybe_term p.offset;
  over = maybe_scalar p.over;
}

abbrev pub element : Element → elements.Element
element e =
    record { array = array e.array; element = value_type e.element; is_constant = e.is_constant; index = term e.index; over = maybe_scalar e.over }
