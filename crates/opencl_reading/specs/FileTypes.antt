-- What names that a file declares in front of its kernel mean there: names of types (C99 6.7.7), and constants of enumerations (6.7.2.2).
-- What cannot be meant (a pointer's type, a constant that is no number of the text) stays without a meaning.
use Rattle.std.specs.Prelude.{ℕ, ◌+◌, List, [], ◌∷◌, ◌++◌, Bool, true, false, cond, not, ◌&&◌, Option, None, Some, Result, Ok, Err}
use Rattle.semantics.specs.Word.{Kind}
use Rattle.semantics.specs.Core.{Term}
use Rattle.opencl_tree.specs.Types.{Space, Qualifiers}
use Rattle.opencl_tree.specs.Tree.{Expression, Declarator, Declaration}
use Rattle.opencl_terms.specs.Types.{ValueType, Value}
use Rattle.opencl_files.specs.FileTree.{Enumerator, KernelText}
use Rattle.opencl_values.specs.Faults.{Checked}
use Rattle.opencl_values.specs.Scope.{TypeOf, NumberOf, Binding, Names}
use Rattle.opencl_values.specs.Wholes.{single_in}
use Rattle.opencl_values.specs.Names.{type_of_base}
use Rattle.opencl_values.specs.Values.{value_of}
use Rattle.opencl_core.specs.Constants.{constant_of, small}

abbrev pub with_type : (name : List ℕ) → Checked ValueType → List Binding → List Binding
with_type name (Ok t) bs = bs ++ record { name = name; meaning = TypeOf t } ∷ []
with_type name (Err e) bs = bs

abbrev pub has_space : Option Space → Bool
has_space None = false
has_space (Some s) = true

-- a name of a scalar or a vector, without a qualifier that belongs to the type
abbrev pub is_plain : Qualifiers → List Qualifiers → List (Option Expression) → Bool
is_plain q [] [] = not q.constant && not (has_space q.space)
is_plain q stars ds = false

abbrev pub with_name : Declaration → Declarator → List Binding → List Binding
with_name d x bs = cond (is_plain d.qualifiers x.stars x.dimensions) (with_type x.name (type_of_base bs d.base d.site) bs) bs

abbrev pub with_declarators : Declaration → List Declarator → List Binding → List Binding
with_declarators d [] bs = bs
with_declarators d (x ∷ xs) bs = with_declarators d xs (with_name d x bs)

abbrev pub with_aliases : List Declaration → List Binding → List Binding
with_aliases [] bs = bs
with_aliases (d ∷ ds) bs = with_aliases ds (with_declarators d d.declarators bs)

-- the number of the text that an expression is
abbrev pub number_in : Checked Value → Option ℕ
number_in (Ok v) = constant_of (single_in v).term
number_in (Err e) = None

abbrev pub names_of : (ids : Kind) → List Binding → Names
names_of ids bs = record { ids = ids; visible = bs; drawn = [] }

abbrev pub number_of : (ids : Kind) → List Binding → (next : Option ℕ) → Option Expression → Option ℕ
number_of ids bs next None = next
number_of ids bs next (Some e) = number_in (value_of (names_of ids bs) e)

abbrev pub following : Option ℕ → Option ℕ
following None = None
following (Some n) = small (n + 1)

abbrev pub with_number : (name : List ℕ) → Option ℕ → List Binding → List Binding
with_number name None bs = bs
with_number name (Some n) bs = bs ++ record { name = name; meaning = NumberOf n } ∷ []

-- a constant without a number is one more than that in front of it, the first one is 0
abbrev pub with_constants : (ids : Kind) → (next : Option ℕ) → List Enumerator → List Binding → List Binding
with_constants ids next [] bs = bs
with_constants ids next (e ∷ es) bs =
    with_constants ids (following (number_of ids bs next e.value)) es (with_number e.name (number_of ids bs next e.value) bs)

abbrev pub first : Option ℕ
first = Some 0

abbrev pub with_enumerations : (ids : Kind) → List (List Enumerator) → List Binding → List Binding
with_enumerations ids [] bs = bs
with_enumerations ids (es ∷ ess) bs = with_enumerations ids ess (with_constants ids first es bs)

abbrev pub meant_in : (ids : Kind) → KernelText → List Binding → List Binding
meant_in ids t bs = with_aliases t.aliases (with_enumerations ids t.enumerations bs)
