-- Terms of expressions name what is declared, where the names that they are typed among do.
use Rattle.std.proofs.Common.{ℕ, List, [], ◌∷◌, Bool, true, false, cond}
use Rattle.std.specs.Prelude.{Option, Some, None, bytes_eq, codes}
use Rattle.semantics.specs.Word.{Kind, Int, Uint, Size, Operator, Multiply, Divide, UnaryOperator, ShiftLeft, ShiftRight}
use Rattle.semantics.specs.Core as core
use Rattle.semantics.specs.Core.{Site, Array, Function, Term}
use Rattle.texts.specs.Surface.{PrefixSign, Minus, LogicalNot, BitNot, InfixSign, Arithmetic, LeftShift, RightShift, Comparison, LogicalAnd, LogicalOr, Expression, Number, Name, Element, Call, Prefix, Cast, Infix, Conditional, Expressions, nothing, also}
use Rattle.types.specs.TypeFaults.{Checked, UnknownName, WrongType, LeftOutWord, refused, then, found}
use Rattle.types.specs.Scope.{Devices, size_kind, Meaning, VariableAt, ArrayAt, Binding, meaning_of}
use Rattle.types.specs.Typing.{TypedTerm, typed, common, brought, bring, variable_term, array_of, prefix_term, shift_count, shifted, shift_term, widened, operand, infix_term, conditional_term, function_named, is_left_out, has_dimension, id_term, same_kind, pick_term, are_two, call_other, call_term, type_of, types_of}
use Rattle.sound_cores.specs.Declarations.{Declared, HasArray, TermWithin}
use Rattle.shown_kernels.proofs.Holding.{Holds, then-holds, when-holds}
use Rattle.shown_kernels.proofs.Scoping.{IsThere, AreThere, found-there}

abbrev pub IsIn : Declared → TypedTerm → Type 0
IsIn d t = TermWithin d t.term

abbrev AreIn : Declared → List TypedTerm → Type 0
AreIn d [] = Unit {0}
AreIn d (t ∷ ts) = IsIn d t × AreIn d ts

abbrev pub IsArrayOf : Declared → Array × Kind → Type 0
IsArrayOf d a = HasArray d a.0

brought-in : (d : Declared) (from to : Kind) (site : Site) (t : Term) → TermWithin d t → TermWithin d (brought from to site t)
brought-in d Int Int site t h = h
brought-in d Int Uint site t h = h
brought-in d Uint Int site t h = h
brought-in d Uint Uint site t h = h
brought-in d Int Size site t h = h
brought-in d Uint Size site t h = h
brought-in d Size Int site t h = h
brought-in d Size Uint site t h = h
brought-in d Size Size site t h = h

pub bring-in : (d : Declared) (to : Kind) (site : Site) (t : TypedTerm) → IsIn d t → TermWithin d (bring to site t)
bring-in d to site t h = brought-in d t.kind to site t.term h

variable-in : (d : Declared) (site : Site) (m : Meaning) → IsThere d m → Holds (IsIn d) (variable_term site m)
variable-in d site (VariableAt slot kind) h = h
variable-in d site (ArrayAt array kind writable) h = tt

array-in : (d : Declared) (site : Site) (m : Meaning) → IsThere d m → Holds (IsArrayOf d) (array_of site m)
array-in d site (VariableAt slot kind) h = tt
array-in d site (ArrayAt array kind writable) h = h

prefix-in : (d : Declared) (sign : PrefixSign) (site : Site) (t : TypedTerm) → IsIn d t → IsIn d (prefix_term sign site t)
prefix-in d Minus site t h = h
prefix-in d LogicalNot site t h = h
prefix-in d BitNot site t h = h

shifted-in : (d : Declared) (shift : ℕ → UnaryOperator) (op : Operator) (site : Site) (k : Kind) (t : Term) (n : ℕ) → TermWithin d t → TermWithin d (shifted shift op site k t n)
shifted-in d shift op site Int t n h = h
shifted-in d shift op site Uint t n h = h
shifted-in d shift op site Size t n h = (h, tt)

shift-in : (d : Declared) (site : Site) (shift : ℕ → UnaryOperator) (op : Operator) (l : TypedTerm) (count : Option ℕ) → IsIn d l → Holds (IsIn d) (shift_term site shift op l count)
shift-in d site shift op l (Some n) h = shifted-in d shift op site l.kind l.term n h
shift-in d site shift op l None h = tt

widened-in : (d : Declared) (from : Kind) (site : Site) (t : Term) → TermWithin d t → TermWithin d (widened from site t)
widened-in d Int site t h = h
widened-in d Uint site t h = h
widened-in d Size site t h = h

operand-in : (d : Declared) (k : Kind) (site : Site) (t : TypedTerm) → IsIn d t → TermWithin d (operand k site t)
operand-in d Int site t h = h
operand-in d Uint site t h = h
operand-in d Size site t h = widened-in d t.kind site t.term h

pub infix-in : (d : Declared) (sign : InfixSign) (site : Site) (right : Expression) (l r : TypedTerm) → IsIn d l → IsIn d r → Holds (IsIn d) (infix_term sign site right l r)
infix-in d (Arithmetic op) site right l r h k = (operand-in d (common l.kind r.kind) site l h, operand-in d (common l.kind r.kind) site r k)
infix-in d LeftShift site right l r h k = shift-in d site ShiftLeft Multiply l (shift_count l.kind right) h
infix-in d RightShift site right l r h k = shift-in d site ShiftRight Divide l (shift_count l.kind right) h
infix-in d (Comparison relation) site right l r h k = (operand-in d (common l.kind r.kind) site l h, operand-in d (common l.kind r.kind) site r k)
infix-in d LogicalAnd site right l r h k = (h, k)
infix-in d LogicalOr site right l r h k = (h, k)

conditional-in : (d : Declared) (site : Site) (t a b : TypedTerm) → IsIn d t → IsIn d a → IsIn d b → IsIn d (conditional_term site t a b)
conditional-in d site t a b h k m = (h, bring-in d (common a.kind b.kind) site a k, bring-in d (common a.kind b.kind) site b m)

id-in : (d : Declared) (ids : Kind) (site : Site) (function : Function) (arguments : Expressions) → Holds (IsIn d) (id_term ids site function arguments)
id-in d ids site function nothing = tt
id-in d ids site function (also (Number at kind n) nothing) = when-holds (IsIn d) (has_dimension ids n) WrongType at (typed ids (core.Id ids function n)) tt
id-in d ids site function (also (Number at kind n) (also e es)) = tt
id-in d ids site function (also (Name at x) es) = tt
id-in d ids site function (also (Element at x index) es) = tt
id-in d ids site function (also (Call at x arguments) es) = tt
id-in d ids site function (also (Prefix at sign e) es) = tt
id-in d ids site function (also (Cast at kind e) es) = tt
id-in d ids site function (also (Infix at sign a b) es) = tt
id-in d ids site function (also (Conditional at test a b) es) = tt

-- `min` and `max`
abbrev KeepsIn : Declared → (Term → Term → Term) → Type 0
KeepsIn d pick = (a b : Term) → TermWithin d a → TermWithin d b → TermWithin d (pick a b)

pick-in : (d : Declared) (site : Site) (pick : Term → Term → Term) → KeepsIn d pick → (ts : List TypedTerm) → AreIn d ts → Holds (IsIn d) (pick_term site pick ts)
pick-in d site pick k [] h = tt
pick-in d site pick k (a ∷ []) h = tt
pick-in d site pick k (a ∷ b ∷ []) h = when-holds (IsIn d) (same_kind a.kind b.kind) WrongType site (typed a.kind (pick a.term b.term)) (k a.term b.term h.0 h.1.0)
pick-in d site pick k (a ∷ b ∷ c ∷ ts) h = tt

picked-in : (d : Declared) (site : Site) (terms : Checked (List TypedTerm)) (pick : Term → Term → Term) → KeepsIn d pick → Holds (AreIn d) terms → (two : Bool) → Holds (IsIn d) (cond two (then terms (pick_term site pick)) (refused WrongType site))
picked-in d site terms pick k h true = then-holds (AreIn d) (IsIn d) terms (pick_term site pick) h (pick-in d site pick k)
picked-in d site terms pick k h false = tt

other-in : (d : Declared) (site : Site) (arguments : Expressions) (terms : Checked (List TypedTerm)) → Holds (AreIn d) terms → (b c : Bool) → Holds (IsIn d) (call_other site arguments terms (cond b (Some core.Minimum) (cond c (Some core.Maximum) None)))
other-in d site arguments terms h true c = picked-in d site terms core.Minimum (λ a b x y. (x, y)) h (are_two arguments)
other-in d site arguments terms h false true = picked-in d site terms core.Maximum (λ a b x y. (x, y)) h (are_two arguments)
other-in d site arguments terms h false false = tt

call-in : (d : Declared) (ids : Kind) (site : Site) (name : List ℕ) (arguments : Expressions) (terms : Checked (List TypedTerm)) → Holds (AreIn d) terms → (f : Option Function) → Holds (IsIn d) (call_term ids site name arguments terms f)
call-in d ids site name arguments terms h (Some function) = id-in d ids site function arguments
call-in d ids site name arguments terms h None = other-in d site arguments terms h (bytes_eq name (codes "min")) (bytes_eq name (codes "max"))

called-in : (d : Declared) (site : Site) (b : Bool) (c : Checked TypedTerm) → Holds (IsIn d) c → Holds (IsIn d) (cond b (refused LeftOutWord site) c)
called-in d site true c h = tt
called-in d site false c h = h

mutual
  unfolding type_of types_of

  pub type-in : (f : Devices) (d : Declared) (names : List Binding) → AreThere d names → (e : Expression) → Holds (IsIn d) (type_of f names e)
  type-in f d names a (Number site kind n) = tt
  type-in f d names a (Name site x) = then-holds (IsThere d) (IsIn d) (found (meaning_of names x) UnknownName site) (variable_term site) (found-there d names site x a) (variable-in d site)
  type-in f d names a (Element site x index) =
      then-holds (IsThere d) (IsIn d) (found (meaning_of names x) UnknownName site) _ (found-there d names site x a) (λ m p.
      then-holds (IsArrayOf d) (IsIn d) (array_of site m) _ (array-in d site m p) (λ b q.
      then-holds (IsIn d) (IsIn d) (type_of f names index) _ (type-in f d names a index) (λ i r. (q, r))))
  type-in f d names a (Call site x arguments) =
      called-in d site (is_left_out x) _ (call-in d (size_kind f) site x arguments (types_of f names arguments) (types-in f d names a arguments) (function_named x))
  type-in f d names a (Prefix site sign e) = then-holds (IsIn d) (IsIn d) (type_of f names e) _ (type-in f d names a e) (λ t p. prefix-in d sign site t p)
  type-in f d names a (Cast site kind e) = then-holds (IsIn d) (IsIn d) (type_of f names e) _ (type-in f d names a e) (λ t p. bring-in d kind site t p)
  type-in f d names a (Infix site sign left right) =
      then-holds (IsIn d) (IsIn d) (type_of f names left) _ (type-in f d names a left) (λ l p.
      then-holds (IsIn d) (IsIn d) (type_of f names right) _ (type-in f d names a right) (λ r q. infix-in d sign site right l r p q))
  type-in f d names a (Conditional site test taken skipped) =
      then-holds (IsIn d) (IsIn d) (type_of f names test) _ (type-in f d names a test) (λ t p.
      then-holds (IsIn d) (IsIn d) (type_of f names taken) _ (type-in f d names a taken) (λ b q.
      then-holds (IsIn d) (IsIn d) (type_of f names skipped) _ (type-in f d names a skipped) (λ c r. conditional-in d site t b c p q r)))

  types-in : (f : Devices) (d : Declared) (names : List Binding) → AreThere d names → (es : Expressions) → Holds (AreIn d) (types_of f names es)
  types-in f d names a nothing = tt
  types-in f d names a (also e es) =
      then-holds (IsIn d) (AreIn d) (type_of f names e) _ (type-in f d names a e) (λ t p.
      then-holds (AreIn d) (AreIn d) (types_of f names es) _ (types-in f d names a es) (λ ts q. (p, q)))
