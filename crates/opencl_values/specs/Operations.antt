-- Operators of scalars (C99 6.5.3 to 6.5.15).
use Rattle.std.specs.Prelude.{ℕ, Bool, cond, not, ◌||◌, Ok}
use Rattle.semantics.specs.Word.{Kind, Direction, Leftward, Rightward}
use Rattle.semantics.specs.Core.{Site, Term, Select}
use Rattle.texts.specs.Surface.{InfixSign, Arithmetic, LeftShift, RightShift, Comparison, LogicalAnd, LogicalOr}
use Rattle.opencl_tree.specs.Tree.{PrefixSign, Minus, Plus, LogicalNot, BitNot, Indirection, AddressOf}
use Rattle.opencl_terms.specs.Types.{Scalar, Int, Size, is_float, promoted, is_unsettled}
use Rattle.opencl_terms.specs.Types as types
use Rattle.opencl_terms.specs.Components.{number_in_text, size_shifted}
use Rattle.opencl_terms.specs.Operators as operators
use Rattle.opencl_terms.specs.Operators.{OfOne, OfTwo, of_one_component, of_two_components, result_type, may_take}
use Rattle.opencl_values.specs.Faults.{Checked, WrongType, LeftOut, Pointer, Long, SizeShift, refused, then, when, found}
use Rattle.opencl_values.specs.Singles.{Single, single, alone, scalar_of_both, as_scalar, as_operand, as_test}

-- an operator of one operand, which is promoted (6.5.3.3p2 to p4)
abbrev pub of_promoted : (ids : Kind) → OfOne → Site → Single → Single
of_promoted ids op site v = single (promoted v.scalar) (of_one_component ids (alone (promoted v.scalar)) op site v.term)

-- `!` gives an `int` (6.5.3.3p5); `*` and `&` of what is no array are left out
abbrev pub prefix_of : (ids : Kind) → PrefixSign → Site → Single → Checked Single
prefix_of ids Minus site v = Ok (of_promoted ids operators.Negative site v)
prefix_of ids Plus site v = Ok (single (promoted v.scalar) v.term)
prefix_of ids LogicalNot site v = Ok (single Int (of_one_component ids (alone v.scalar) operators.Refutation site v.term))
prefix_of ids BitNot site v = when (not (is_float v.scalar)) WrongType site (of_promoted ids operators.Complement site v)
prefix_of ids Indirection site v = refused (LeftOut Pointer) site
prefix_of ids AddressOf site v = refused (LeftOut Pointer) site

-- an operator of two operands, both brought to one scalar
abbrev pub of_both : (ids : Kind) → OfTwo → Site → (to : Scalar) → (l r : Single) → Single
of_both ids op site to l r =
    single (result_type op (alone to)).scalar (of_two_components ids (alone to) op site (as_operand ids to site l) (as_operand ids to site r))

abbrev pub of_settled : (ids : Kind) → OfTwo → Site → (l r : Single) → Checked Single
of_settled ids op site l r = when (may_take op (scalar_of_both l r)) WrongType site (of_both ids op site (scalar_of_both l r) l r)

-- of a `long` and a size devices make different things
abbrev pub of_operands : (ids : Kind) → OfTwo → Site → (l r : Single) → Checked Single
of_operands ids op site l r = cond (is_unsettled l.scalar r.scalar) (refused (LeftOut Long) site) (of_settled ids op site l r)

-- `&&` and `||`
abbrev pub logical : (ids : Kind) → OfTwo → Site → (l r : Single) → Checked Single
logical ids op site l r = Ok (single Int (of_two_components ids (alone Int) op site (as_test ids site l) (as_test ids site r)))

-- the left operand of a shift is promoted, the count is any integer; a size is shifted by a number in the text alone, a `long` not at all
abbrev pub shifted_as : (ids : Kind) → Direction → Site → Scalar → (l r : Single) → Checked Single
shifted_as ids d site Size l r =
    then (found (number_in_text r.term) (LeftOut SizeShift) site) (λ n. Ok (single Size (size_shifted ids d site l.term n)))
shifted_as ids d site types.Long l r = refused (LeftOut Long) site
shifted_as ids d site s l r = Ok (single s (of_two_components ids (alone s) (operators.Shifting d r.scalar) site l.term r.term))

abbrev pub shifted : (ids : Kind) → Direction → Site → (l r : Single) → Checked Single
shifted ids d site l r =
    cond (is_float l.scalar || is_float r.scalar) (refused WrongType site) (shifted_as ids d site (promoted l.scalar) l r)

abbrev pub infix_of : (ids : Kind) → InfixSign → Site → (l r : Single) → Checked Single
infix_of ids (Arithmetic op) site l r = of_operands ids (operators.Arithmetic op) site l r
infix_of ids LeftShift site l r = shifted ids Leftward site l r
infix_of ids RightShift site l r = shifted ids Rightward site l r
infix_of ids (Comparison r) site a b = of_operands ids (operators.Comparison r) site a b
infix_of ids LogicalAnd site l r = logical ids operators.Both site l r
infix_of ids LogicalOr site l r = logical ids operators.Either site l r

-- the arms of `?:` are converted to one scalar, each after its own evaluation (6.5.15p5)
abbrev pub chosen_as : (ids : Kind) → Site → (to : Scalar) → (test taken skipped : Single) → Single
chosen_as ids site to test a b = single to (Select (as_test ids site test) (as_scalar ids to site a) (as_scalar ids to site b))

abbrev pub conditional_of : (ids : Kind) → Site → (test taken skipped : Single) → Single
conditional_of ids site test a b = chosen_as ids site (scalar_of_both a b) test a b
