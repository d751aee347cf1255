-- The typing rules of expressions, and the term that each stands for (C99 6.3.1.8 and 6.5; OpenCL 1.2, 6.3, 6.12.1, 6.12.3).
use Rattle.std.specs.Prelude.{ℕ, ◌^◌, pos, List, [], ◌∷◌, Bool, true, false, cond, ◌&&◌, ◌||◌, nat_eq, nat_le, Option, Some, None, Ok, bytes_eq, codes}
use Rattle.std.specs.List.{starts_with}
use Rattle.semantics.specs.Word.{Kind, Int, Uint, Size, Operator, Multiply, Divide, Relation, UnaryOperator, Negate, Complement, ShiftLeft, ShiftRight}
pub use Rattle.semantics.specs.Word.{same_kind}
use Rattle.semantics.specs.Core as core
use Rattle.semantics.specs.Core.{Site, Array, Function, GlobalId, LocalId, GroupId, GlobalSize, LocalSize, NumGroups, Term}
use Rattle.texts.specs.Surface.{PrefixSign, Minus, LogicalNot, BitNot, InfixSign, Arithmetic, LeftShift, RightShift, Comparison, LogicalAnd, LogicalOr, Expression, Number, Name, Element, Call, Prefix, Cast, Infix, Conditional, Expressions, nothing, also}
use Rattle.types.specs.TypeFaults.{UnknownName, WrongType, LeftOutWord, Checked, refused, then, when, found}
use Rattle.types.specs.Scope.{Devices, size_kind, Meaning, VariableAt, ArrayAt, Binding, meaning_of, is_one_of}

-- a term with its kind
pub record TypedTerm : Type 0 where
  pub kind : Kind
  pub term : Term

abbrev pub typed : Kind → Term → TypedTerm
typed k t = record { kind = k; term = t }

abbrev pub is_unsigned : Kind → Bool
is_unsigned Int = false
is_unsigned Uint = true
is_unsigned Size = true

-- the kind of two operands (the usual conversions; a size beside another kind gives a size, which is of as many bits at least)
abbrev pub common : Kind → Kind → Kind
common Int k = k
common Uint Int = Uint
common Uint Uint = Uint
common Uint Size = Size
common Size k = Size

-- brought to a kind; where that is its own, nothing is to convert
abbrev pub brought : (from to : Kind) → Site → Term → Term
brought Int Int site t = t
brought Int Uint site t = core.Convert Uint site t
brought Uint Int site t = core.Convert Int site t
brought Uint Uint site t = t
brought Int Size site t = core.Convert Size site t
brought Uint Size site t = core.Convert Size site t
brought Size Int site t = core.Convert Int site t
brought Size Uint site t = core.Convert Uint site t
brought Size Size site t = t

-- the site is the target's name, the cast's parenthesis, or the operator's; that of an arm of `?:` is told only where the other arm is a
-- size, since to `uint` nothing fails
abbrev pub bring : Kind → Site → TypedTerm → Term
bring to site t = brought t.kind to site t.term

abbrev pub variable_term : Site → Meaning → Checked TypedTerm
variable_term site (VariableAt slot kind) = Ok (typed kind (core.Variable slot))
variable_term site (ArrayAt array kind writable) = refused WrongType site

-- only a buffer or an array takes an index
abbrev pub array_of : Site → Meaning → Checked (Array × Kind)
array_of site (VariableAt slot kind) = refused WrongType site
array_of site (ArrayAt array kind writable) = Ok (array, kind)

abbrev pub element_term : Site → Array × Kind → TypedTerm → TypedTerm
element_term site array index = typed array.1 (core.Load array.0 site index.term)

abbrev pub prefix_term : PrefixSign → Site → TypedTerm → TypedTerm
prefix_term Minus site t = typed t.kind (core.Unary Negate t.kind site t.term)
prefix_term LogicalNot site t = typed Int (core.Not t.term)
prefix_term BitNot site t = typed t.kind (core.Unary Complement t.kind site t.term)

-- a shift has a `uint` or a size on its left, and on its right a number in the text, 0 to 31 (ours)
abbrev pub shift_count : Kind → Expression → Option ℕ
shift_count left (Number site kind n) = cond (is_unsigned left && nat_le n 31) (Some n) None
shift_count left e = None

-- a `uint` is shifted bit by bit; of a size a shift to the left is written as a product with a power of 2, to the right as a quotient by
-- it, which is what they are (C99 6.5.7p4, 6.5.7p5)
abbrev pub shifted : (ℕ → UnaryOperator) → Operator → Site → Kind → Term → ℕ → Term
shifted shift op site Int t n = core.Unary (shift n) Uint site t
shifted shift op site Uint t n = core.Unary (shift n) Uint site t
shifted shift op site Size t n = core.Binary op Size site t (core.Literal Uint (pos (2 ^ n)))

abbrev pub shift_term : Site → (ℕ → UnaryOperator) → Operator → TypedTerm → Option ℕ → Checked TypedTerm
shift_term site shift op l (Some n) = Ok (typed (common Uint l.kind) (shifted shift op site l.kind l.term n))
shift_term site shift op l None = refused WrongType site

-- beside a size an `int` is converted to one, which changes a negative number; a `uint` is the same number as a size
abbrev pub widened : (from : Kind) → Site → Term → Term
widened Int site t = core.Convert Size site t
widened Uint site t = t
widened Size site t = t

-- an operand of an operator of a kind; where that is no size, it is taken as the operator reads it
abbrev pub operand : (kind : Kind) → Site → TypedTerm → Term
operand Int site t = t.term
operand Uint site t = t.term
operand Size site t = widened t.kind site t.term

abbrev pub arithmetic_term : Operator → Site → Kind → TypedTerm → TypedTerm → TypedTerm
arithmetic_term op site k l r = typed k (core.Binary op k site (operand k site l) (operand k site r))

abbrev pub comparison_term : Relation → Site → Kind → TypedTerm → TypedTerm → TypedTerm
comparison_term relation site k l r = typed Int (core.Compare relation k (operand k site l) (operand k site r))

abbrev pub infix_term : InfixSign → Site → Expression → TypedTerm → TypedTerm → Checked TypedTerm
infix_term (Arithmetic op) site right l r = Ok (arithmetic_term op site (common l.kind r.kind) l r)
infix_term LeftShift site right l r = shift_term site ShiftLeft Multiply l (shift_count l.kind right)
infix_term RightShift site right l r = shift_term site ShiftRight Divide l (shift_count l.kind right)
infix_term (Comparison relation) site right l r = Ok (comparison_term relation site (common l.kind r.kind) l r)
infix_term LogicalAnd site right l r = Ok (typed Int (core.And l.term r.term))
infix_term LogicalOr site right l r = Ok (typed Int (core.Or l.term r.term))

-- the arms of `?:` are brought to one kind, each after its own evaluation (C99 6.5.15p5)
abbrev pub conditional_term : Site → TypedTerm → TypedTerm → TypedTerm → TypedTerm
conditional_term site test a b =
    typed (common a.kind b.kind) (core.Select test.term (bring (common a.kind b.kind) site a) (bring (common a.kind b.kind) site b))

-- the work-item functions
unfoldable pub function_named : List ℕ → Option Function
function_named name =
    cond (bytes_eq name (codes "get_global_id")) (Some GlobalId) (
    cond (bytes_eq name (codes "get_local_id")) (Some LocalId) (
    cond (bytes_eq name (codes "get_group_id")) (Some GroupId) (
    cond (bytes_eq name (codes "get_global_size")) (Some GlobalSize) (
    cond (bytes_eq name (codes "get_local_size")) (Some LocalSize) (
    cond (bytes_eq name (codes "get_num_groups")) (Some NumGroups) None)))))

-- functions of OpenCL C 1.2 that this language leaves out (6.12.1, 6.12.3, 6.12.9 to 6.12.11)
unfoldable pub left_out_names : List (List ℕ)
left_out_names =
    codes "get_work_dim" ∷ codes "get_global_offset" ∷ codes "mem_fence" ∷ codes "read_mem_fence" ∷ codes "write_mem_fence"
    ∷ codes "mul24" ∷ codes "mad24" ∷ codes "abs" ∷ codes "clamp" ∷ codes "async_work_group_copy" ∷ codes "wait_group_events"
    ∷ codes "prefetch" ∷ []

unfoldable pub is_left_out : List ℕ → Bool
is_left_out name = (starts_with nat_eq name (codes "atomic_") || starts_with nat_eq name (codes "atom_")) || is_one_of left_out_names name

-- there are three dimensions. Above them OpenCL gives 0 for an id and 1 for a size (6.12.1), but devices give 0 for a size, too: so a
-- number above 2 is refused where a kernel is read for any devices (ours)
abbrev pub has_dimension : (ids : Kind) → ℕ → Bool
has_dimension Int n = true
has_dimension Uint n = true
has_dimension Size n = nat_le n 2

-- their argument is one number in the text (ours), and they give a size
abbrev pub id_term : (ids : Kind) → Site → Function → Expressions → Checked TypedTerm
id_term ids site function (also (Number at kind n) nothing) = when (has_dimension ids n) WrongType at (typed ids (core.Id ids function n))
id_term ids site function arguments = refused WrongType site

-- `min` and `max` take two operands of one kind
abbrev pub pick_term : Site → (Term → Term → Term) → List TypedTerm → Checked TypedTerm
pick_term site pick (a ∷ b ∷ []) = when (same_kind a.kind b.kind) WrongType site (typed a.kind (pick a.term b.term))
pick_term site pick terms = refused WrongType site

abbrev pub pick_named : List ℕ → Option (Term → Term → Term)
pick_named name = cond (bytes_eq name (codes "min")) (Some core.Minimum) (cond (bytes_eq name (codes "max")) (Some core.Maximum) None)

-- by the name: a work-item function, `min` or `max`, or no function of the language
abbrev pub are_two : Expressions → Bool
are_two (also a (also b nothing)) = true
are_two arguments = false

abbrev pub call_other : Site → Expressions → Checked (List TypedTerm) → Option (Term → Term → Term) → Checked TypedTerm
call_other site arguments terms (Some pick) = cond (are_two arguments) (then terms (pick_term site pick)) (refused WrongType site)
call_other site arguments terms None = refused UnknownName site

abbrev pub call_term : (ids : Kind) → Site → List ℕ → Expressions → Checked (List TypedTerm) → Option Function → Checked TypedTerm
call_term ids site name arguments terms (Some function) = id_term ids site function arguments
call_term ids site name arguments terms None = call_other site arguments terms (pick_named name)

-- an expression's term and kind, where it is well typed among these names, for these devices; else its first fault, from left to right
unfoldable mutual
  pub type_of : Devices → List Binding → Expression → Checked TypedTerm
  type_of d names (Number site kind n) = Ok (typed kind (core.Literal kind (pos n)))
  type_of d names (Name site name) = then (found (meaning_of names name) UnknownName site) (variable_term site)
  type_of d names (Element site name index) =
      then (found (meaning_of names name) UnknownName site) (λ m. then (array_of site m) (λ a.
      then (type_of d names index) (λ i. Ok (element_term site a i))))
  type_of d names (Call site name arguments) =
      cond (is_left_out name) (refused LeftOutWord site) (call_term (size_kind d) site name arguments (types_of d names arguments) (function_named name))
  type_of d names (Prefix site sign e) = then (type_of d names e) (λ t. Ok (prefix_term sign site t))
  type_of d names (Cast site kind e) = then (type_of d names e) (λ t. Ok (typed kind (bring kind site t)))
  type_of d names (Infix site sign left right) =
      then (type_of d names left) (λ l. then (type_of d names right) (λ r. infix_term sign site right l r))
  type_of d names (Conditional site test taken skipped) =
      then (type_of d names test) (λ t. then (type_of d names taken) (λ a. then (type_of d names skipped) (λ b. Ok (conditional_term site t a b))))

  pub types_of : Devices → List Binding → Expressions → Checked (List TypedTerm)
  types_of d names nothing = Ok []
  types_of d names (also e es) = then (type_of d names e) (λ t. then (types_of d names es) (λ ts. Ok (t ∷ ts)))
