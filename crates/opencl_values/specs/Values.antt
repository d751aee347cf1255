-- Which term of the core an expression is, among these names (C99 6.5; OpenCL 1.2, 6.3 and 6.12). The value of one with effects is that
-- which was written out before.
use Rattle.std.specs.Prelude.{ℕ, pos, List, [], ◌∷◌, ◌++◌, cond, Option, Some, None, Ok}
use Rattle.semantics.specs.Word.{Kind, Int, Add}
use Rattle.semantics.specs.Core.{Site, Variable, Literal}
use Rattle.opencl_tree.specs.Tree.{Expression, Integer, Real, Name, Call, Index, Member, Prefix, Step, Cast, Vector, Infix, Conditional, Assign, Comma, SizeofType, SizeofOf, Expressions, nothing, also}
use Rattle.opencl_tree.specs.Types.{TypeName}
use Rattle.opencl_terms.specs.Types.{Scalar, Size, ValueType, Value, is_vector}
use Rattle.opencl_effects.specs.Marks.{Sort, OfCall, OfStep, OfAssign, OfComma, OfLogical, OfChoice}
use Rattle.opencl_values.specs.Faults as faults
use Rattle.opencl_values.specs.Faults.{Checked, UnknownName, WrongType, LeftOut, Pointer, Effect, Outside, refused, then, found}
use Rattle.opencl_values.specs.Scope.{Meaning, VariableOf, ArrayOf, OwnOf, PointerOf, NumberOf, TypeOf, UnreadOf, Names, Drawn, meaning_of, drawn_at}
use Rattle.texts.specs.Surface.{InfixSign, LogicalAnd, LogicalOr}
use Rattle.opencl_values.specs.Singles.{Single, single}
use Rattle.opencl_values.specs.Wholes.{whole, only}
use Rattle.opencl_values.specs.Vectors.{Kept, vector_made, prefix_of, infix_of, conditional_of, converted_to, literal_of}
use Rattle.opencl_values.specs.Members.{member_of}
use Rattle.opencl_values.specs.Names.{type_of_name, bytes_of}
use Rattle.opencl_values.specs.Constants.{number_value, int_term, real_value, constant_named}
use Rattle.opencl_values.specs.Elements.{Part, Element, part_meant}
use Rattle.opencl_values.specs.Reads.{indexed_by, element_at, element_value, vector_at}
use Rattle.opencl_values.specs.Widened.{Wide, wide_named, read_width}
use Rattle.opencl_values.specs.Functions.{Form, form_named, construct_called}
use Rattle.opencl_values.specs.Pointers.{is_indirection, is_address, moving, is_behind, shifted_by, first_element, type_pointed, converted_part, null_compared, null_value}
use Rattle.opencl_values.specs.VectorCalls.{called, wide_result}

-- a variable has a slot for each component, one behind the other
abbrev pub variable_value : Site → ValueType → (slot : ℕ) → Value
variable_value site t slot = cond (is_vector t) (vector_made Int site (Kept slot) t) (whole (single t.scalar (Variable slot)))

-- an array without an index is a pointer to its first element (C99 6.3.2.1p3)
abbrev pub value_meant : Site → Meaning → Checked Value
value_meant site (VariableOf t slot constant) = Ok (variable_value site t slot)
value_meant site (ArrayOf a t lengths constant) = refused (LeftOut Pointer) site
value_meant site (OwnOf a t lengths constant row) = refused (LeftOut Pointer) site
value_meant site (PointerOf a t constant row over slot) = refused (LeftOut Pointer) site
value_meant site (NumberOf bits) = Ok (whole (number_value site Int bits))
value_meant site (TypeOf t) = refused WrongType site
value_meant site UnreadOf = refused (LeftOut Outside) site

-- a name that is not visible may be that of a constant
abbrev pub value_named : Site → List ℕ → Option Meaning → Checked Value
value_named site name (Some m) = value_meant site m
value_named site name None = then (found (constant_named site name) UnknownName site) (λ s. Ok (whole s))

abbrev pub sizeof_type : (ids : Kind) → Site → ValueType → Checked Value
sizeof_type ids site t = then (bytes_of site t) (λ n. Ok (whole (single Size (Literal ids (pos n)))))

-- the value that was written out before, or else another
abbrev pub kept : Site → Drawn → Value
kept site d = variable_value site d.type d.slot

abbrev pub kept_or : Site → Checked Value → Option Drawn → Checked Value
kept_or site otherwise (Some d) = Ok (kept site d)
kept_or site otherwise None = otherwise

abbrev pub with_effect : Names → Sort → Site → Checked Value
with_effect names sort site = kept_or site (refused (LeftOut Effect) site) (drawn_at names sort site)

-- a comparison with a null pointer, or else another value
abbrev pub null_or : Option ℕ → Checked Value → Checked Value
null_or (Some n) otherwise = Ok (null_value n)
null_or None otherwise = otherwise

-- `&&` and `||` may have effects in their right operand, as `?:` in its arms
abbrev pub drawn_for : Names → InfixSign → Site → Option Drawn
drawn_for names LogicalAnd site = drawn_at names OfLogical site
drawn_for names LogicalOr site = drawn_at names OfLogical site
drawn_for names sign site = None

-- a name that is visible is no built-in function
abbrev pub visible_called : Names → Site → Meaning → Checked Value
visible_called names site UnreadOf = kept_or site (refused (LeftOut Outside) site) (drawn_at names OfCall site)
visible_called names site m = refused WrongType site

-- conversions of vectors, and vectors that are read
abbrev pub wide_called : Names → Site → List ℕ → Checked (List Value) → Option Wide → Checked Value
wide_called names site name values (Some w) = then values (wide_result names.ids w site)
wide_called names site name values None = refused (LeftOut (construct_called name)) site

abbrev pub other_called : Names → Site → List ℕ → Checked (List Value) → (read : Checked Value) → (width : Option ℕ) → Checked Value
other_called names site name values read (Some n) = read
other_called names site name values read None = wide_called names site name values (wide_named name)

abbrev pub call_meant : Names → Site → List ℕ → Expressions → Checked (List Value) → (read : Checked Value) → Option Meaning → Option (Form × ℕ) → Checked Value
call_meant names site name arguments values read (Some m) f = visible_called names site m
call_meant names site name arguments values read None (Some f) = called names.ids f.0 f.1 site arguments values
call_meant names site name arguments values read None None = other_called names site name values read (read_width name)

abbrev pub width_read : Option ℕ → ℕ
width_read (Some n) = n
width_read None = 0

-- the operand of `sizeof` is not evaluated, so nothing of it was written out (6.5.3.4p2)
abbrev pub undrawn : Names → Names
undrawn names = record names { drawn = [] }

unfoldable mutual
  pub value_of : Names → Expression → Checked Value
  value_of names (Integer site kind n) = Ok (whole (number_value site kind n))
  value_of names (Real site spelling) = Ok (whole real_value)
  value_of names (Name site name) = value_named site name (meaning_of names.visible name)
  value_of names (Call site name arguments) =
      call_meant names site name arguments (values_behind names [] arguments) (vector_read names site (width_read (read_width name)) arguments)
      (meaning_of names.visible name) (form_named name)
  value_of names (Index site of index) =
      then (part_of names site of) (λ p. then (value_of names index) (element_value site p))
  value_of names (Member site of name) = then (value_of names of) (λ v. member_of names.ids site v name)
  value_of names (Prefix site sign e) =
      cond (is_indirection sign) (then (part_of names site e) (λ p. element_value site p first_element))
      (then (value_of names e) (prefix_of names.ids sign site))
  value_of names (Step site side sign e) = with_effect names OfStep site
  value_of names (Cast site to e) =
      then (type_of_name names.visible to site) (λ t. then (value_of names e) (converted_to names.ids site t))
  value_of names (Vector site to parts) =
      then (type_of_name names.visible to site) (λ t. then (values_behind names [] parts) (literal_of names.ids site t))
  value_of names (Infix site sign left right) =
      null_or (null_compared names sign left right)
      (kept_or site (then (value_of names left) (λ l. then (value_of names right) (infix_of names.ids sign site l))) (drawn_for names sign site))
  value_of names (Conditional site test taken skipped) =
      kept_or site (then (value_of names test) (λ t. then (value_of names taken) (λ a. then (value_of names skipped) (conditional_of names.ids site t a)))) (drawn_at names OfChoice site)
  value_of names (Assign site sign target value) = with_effect names OfAssign site
  value_of names (Comma site first second) = with_effect names OfComma site
  value_of names (SizeofType site to) = then (type_of_name names.visible to site) (sizeof_type names.ids site)
  value_of names (SizeofOf site e) = then (value_of (undrawn names) e) (λ v. sizeof_type names.ids site v.type)

  -- values of arguments, behind those so far
  pub values_behind : Names → (so_far : List Value) → Expressions → Checked (List Value)
  values_behind names vs nothing = Ok vs
  values_behind names vs (also e es) = then (value_of names e) (λ v. values_behind names (vs ++ v ∷ []) es)

  -- so many elements from a multiple of so many on (6.12.7)
  pub vector_read : Names → Site → (width : ℕ) → Expressions → Checked Value
  vector_read names site n (also i (also p nothing)) =
      then (value_of names i) (λ v. then (part_of names site p) (vector_at names.ids site n v))
  vector_read names site n arguments = refused WrongType site

  -- what stands in front of a bracket: an array, perhaps with indexes, or another pointer
  pub part_of : Names → (bracket : Site) → Expression → Checked Part
  part_of names bracket (Name site name) = then (found (meaning_of names.visible name) UnknownName site) (part_meant site)
  part_of names bracket (Index site of index) =
      then (part_of names site of) (λ p. then (value_of names index) (indexed_by site p))
  part_of names bracket (Infix site sign left right) =
      then (found (moving sign) (LeftOut Pointer) bracket) (λ op.
      cond (is_behind names op left) (then (part_of names site right) (λ p. then (value_of names left) (shifted_by site op p)))
      (then (part_of names site left) (λ p. then (value_of names right) (shifted_by site op p))))
  part_of names bracket (Prefix site sign e) = cond (is_address sign) (addressed names bracket site e) (refused (LeftOut Pointer) bracket)
  part_of names bracket (Cast site to e) =
      then (type_pointed names.visible to site) (λ t. then (part_of names site e) (converted_part site to.qualifiers t))
  part_of names bracket e = refused (LeftOut Pointer) bracket

  -- a pointer to what an operand is (6.5.3.2)
  pub addressed : Names → (bracket sign : Site) → Expression → Checked Part
  addressed names bracket sign (Index at of index) =
      then (part_of names at of) (λ p. then (value_of names index) (shifted_by sign Add p))
  addressed names bracket sign (Prefix at s e) = cond (is_indirection s) (part_of names at e) (refused (LeftOut Pointer) bracket)
  addressed names bracket sign e = refused (LeftOut Pointer) bracket

-- the element that a pointer points to
unfoldable pub pointed_to : Names → Site → Expression → Checked Element
pointed_to names site e = then (part_of names site e) (λ p. element_at site p first_element)

-- the element `of[index]`, to be loaded or stored to
unfoldable pub element_of : Names → Site → (of index : Expression) → Checked Element
element_of names site of index = then (part_of names site of) (λ p. then (value_of names index) (element_at site p))
