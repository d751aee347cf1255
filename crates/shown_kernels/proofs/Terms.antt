-- Terms of expressions whose numbers are of their kinds are proper.
use Rattle.std.proofs.Common.{◌≡◌, ◌≤◌, ◌<◌, ◌^◌, ℕ, List, [], ◌∷◌, Bool, true, false, ◌&&◌, cond, refl, arith, nat_lt}
use Rattle.std.specs.Prelude.{pos, Option, Some, None, nat_le, bytes_eq, codes}
use Rattle.std.proofs.lemmas.Bool.Decides.{nat_tests}
use Rattle.std.proofs.lemmas.Nat.{pow_below}
use Rattle.semantics.specs.Word.{Kind, Int, Uint, Size, in_kind, Operator, Multiply, Divide, UnaryOperator, ShiftLeft, ShiftRight}
use Rattle.semantics.specs.Core as core
use Rattle.semantics.specs.Core.{Site, Array, Function, Term}
use Rattle.texts.specs.Surface.{PrefixSign, Minus, LogicalNot, BitNot, InfixSign, Arithmetic, LeftShift, RightShift, Comparison, LogicalAnd, LogicalOr, Expression, Number, Name, Element, Call, Prefix, Cast, Infix, Conditional, Expressions, nothing, also}
use Rattle.types.specs.TypeFaults.{Checked, UnknownName, WrongType, LeftOutWord, refused, then, found}
use Rattle.types.specs.Scope.{Devices, Bits32, Any, size_kind, Meaning, VariableAt, ArrayAt, Binding, meaning_of}
use Rattle.types.specs.Typing.{TypedTerm, typed, is_unsigned, common, brought, bring, variable_term, array_of, prefix_term, shift_count, shifted, shift_term, widened, operand, infix_term, conditional_term, function_named, is_left_out, has_dimension, id_term, same_kind, pick_term, are_two, call_other, call_term, type_of, types_of}
use Rattle.texts.specs.Numbers.{is_literal}
use Rattle.texts.specs.Spelling.{SpellsExpression, SpellsExpressions}
use Rattle.work_item.specs.Proper.{is_id_kind, is_proper_unary, is_proper_term}
use Rattle.shown_kernels.proofs.Holding.{Holds, then-holds, then-any, when-holds, both}

abbrev pub IsProper : TypedTerm → Type 0
IsProper t = is_proper_term t.term ≡ true

abbrev AreProper : List TypedTerm → Type 0
AreProper [] = Unit {0}
AreProper (t ∷ ts) = IsProper t × AreProper ts

brought-proper : (from to : Kind) (site : Site) (t : Term) → is_proper_term t ≡ true → is_proper_term (brought from to site t) ≡ true
brought-proper Int Int site t h = h
brought-proper Int Uint site t h = h
brought-proper Uint Int site t h = h
brought-proper Uint Uint site t h = h
brought-proper Int Size site t h = h
brought-proper Uint Size site t h = h
brought-proper Size Int site t h = h
brought-proper Size Uint site t h = h
brought-proper Size Size site t h = h

pub bring-proper : (to : Kind) (site : Site) (t : TypedTerm) → IsProper t → is_proper_term (bring to site t) ≡ true
bring-proper to site t h = brought-proper t.kind to site t.term h

-- a literal is a number of its kind
literal-in : (k : Kind) (n : ℕ) → is_literal k n ≡ true → in_kind k (pos n) ≡ true
literal-in Int n h = h
literal-in Uint n h = h
literal-in Size n h = cc

variable-proper : (site : Site) (m : Meaning) → Holds IsProper (variable_term site m)
variable-proper site (VariableAt slot kind) = refl
variable-proper site (ArrayAt array kind writable) = tt

prefix-proper : (sign : PrefixSign) (site : Site) (t : TypedTerm) → IsProper t → IsProper (prefix_term sign site t)
prefix-proper Minus site t h = h
prefix-proper LogicalNot site t h = h
prefix-proper BitNot site t h = h

second : (a b : Bool) → (a && b) ≡ true → b ≡ true
second true b h = h
second false b h = cc

at_most : (a b : ℕ) → nat_le a b ≡ true → a ≤ b
at_most a b h = grind (arith, nat_tests)

below : (a b : ℕ) → a < b → nat_lt a b ≡ true
below a b h = grind (arith, nat_tests)

-- 2 to the count of a shift is a `uint`
power-in : (n : ℕ) → nat_le n 31 ≡ true → in_kind Uint (pos (2 ^ n)) ≡ true
power-in n h = let l : n ≤ 31 = at_most n 31 h in below (2 ^ n) (2 ^ 32) (pow_below n 32 (omega (arith, l)))

-- shifts of a `uint` with a count that fits
abbrev IsShift : (ℕ → UnaryOperator) → Type 0
IsShift shift = (n : ℕ) → nat_le n 31 ≡ true → is_proper_unary (shift n) Uint ≡ true

shifted-proper : (shift : ℕ → UnaryOperator) (op : Operator) → IsShift shift → (site : Site) (k : Kind) (t : Term) (n : ℕ) → nat_le n 31 ≡ true → is_proper_term t ≡ true → is_proper_term (shifted shift op site k t n) ≡ true
shifted-proper shift op s site Int t n h p = both (is_proper_unary (shift n) Uint) (is_proper_term t) (s n h) p
shifted-proper shift op s site Uint t n h p = both (is_proper_unary (shift n) Uint) (is_proper_term t) (s n h) p
shifted-proper shift op s site Size t n h p = both (is_proper_term t) (in_kind Uint (pos (2 ^ n))) p (power-in n h)

shift-proper : (shift : ℕ → UnaryOperator) (op : Operator) → IsShift shift → (site : Site) (l : TypedTerm) (b : Bool) (n : ℕ) → (b ≡ true → nat_le n 31 ≡ true) → IsProper l → Holds IsProper (shift_term site shift op l (cond b (Some n) None))
shift-proper shift op s site l true n k h = shifted-proper shift op s site l.kind l.term n (k refl) h
shift-proper shift op s site l false n k h = tt

counted-proper : (shift : ℕ → UnaryOperator) (op : Operator) → IsShift shift → (site : Site) (right : Expression) (l : TypedTerm) → IsProper l → Holds IsProper (shift_term site shift op l (shift_count l.kind right))
counted-proper shift op s site (Number at kind n) l h = shift-proper shift op s site l (is_unsigned l.kind && nat_le n 31) n (second (is_unsigned l.kind) (nat_le n 31)) h
counted-proper shift op s site (Name at x) l h = tt
counted-proper shift op s site (Element at x index) l h = tt
counted-proper shift op s site (Call at x arguments) l h = tt
counted-proper shift op s site (Prefix at sign e) l h = tt
counted-proper shift op s site (Cast at kind e) l h = tt
counted-proper shift op s site (Infix at sign a b) l h = tt
counted-proper shift op s site (Conditional at test a b) l h = tt

widened-proper : (from : Kind) (site : Site) (t : Term) → is_proper_term t ≡ true → is_proper_term (widened from site t) ≡ true
widened-proper Int site t h = h
widened-proper Uint site t h = h
widened-proper Size site t h = h

operand-proper : (k : Kind) (site : Site) (t : TypedTerm) → IsProper t → is_proper_term (operand k site t) ≡ true
operand-proper Int site t h = h
operand-proper Uint site t h = h
operand-proper Size site t h = widened-proper t.kind site t.term h

operands-proper : (k : Kind) (site : Site) (l r : TypedTerm) → IsProper l → IsProper r → (is_proper_term (operand k site l) && is_proper_term (operand k site r)) ≡ true
operands-proper k site l r h m = both (is_proper_term (operand k site l)) (is_proper_term (operand k site r)) (operand-proper k site l h) (operand-proper k site r m)

pub infix-proper : (sign : InfixSign) (site : Site) (right : Expression) (l r : TypedTerm) → IsProper l → IsProper r → Holds IsProper (infix_term sign site right l r)
infix-proper (Arithmetic op) site right l r h k = operands-proper (common l.kind r.kind) site l r h k
infix-proper LeftShift site right l r h k = counted-proper ShiftLeft Multiply (λ n q. q) site right l h
infix-proper RightShift site right l r h k = counted-proper ShiftRight Divide (λ n q. q) site right l h
infix-proper (Comparison relation) site right l r h k = operands-proper (common l.kind r.kind) site l r h k
infix-proper LogicalAnd site right l r h k = both (is_proper_term l.term) (is_proper_term r.term) h k
infix-proper LogicalOr site right l r h k = both (is_proper_term l.term) (is_proper_term r.term) h k

conditional-proper : (site : Site) (t a b : TypedTerm) → IsProper t → IsProper a → IsProper b → IsProper (conditional_term site t a b)
conditional-proper site t a b h k m =
    let to = common a.kind b.kind in
    both (is_proper_term t.term) (is_proper_term (bring to site a) && is_proper_term (bring to site b)) h
    (both (is_proper_term (bring to site a)) (is_proper_term (bring to site b)) (bring-proper to site a k) (bring-proper to site b m))

-- sizes are of no `int`
size-proper : (d : Devices) → is_id_kind (size_kind d) ≡ true
size-proper Bits32 = refl
size-proper Any = refl

id-proper : (d : Devices) (site : Site) (function : Function) (arguments : Expressions) → Holds IsProper (id_term (size_kind d) site function arguments)
id-proper d site function nothing = tt
id-proper d site function (also (Number at kind n) nothing) = when-holds IsProper (has_dimension (size_kind d) n) WrongType at (typed (size_kind d) (core.Id (size_kind d) function n)) (size-proper d)
id-proper d site function (also (Number at kind n) (also e es)) = tt
id-proper d site function (also (Name at x) es) = tt
id-proper d site function (also (Element at x index) es) = tt
id-proper d site function (also (Call at x arguments) es) = tt
id-proper d site function (also (Prefix at sign e) es) = tt
id-proper d site function (also (Cast at kind e) es) = tt
id-proper d site function (also (Infix at sign a b) es) = tt
id-proper d site function (also (Conditional at test a b) es) = tt

-- `min` and `max`
abbrev KeepsProper : (Term → Term → Term) → Type 0
KeepsProper pick = (a b : Term) → is_proper_term a ≡ true → is_proper_term b ≡ true → is_proper_term (pick a b) ≡ true

pick-proper : (site : Site) (pick : Term → Term → Term) → KeepsProper pick → (ts : List TypedTerm) → AreProper ts → Holds IsProper (pick_term site pick ts)
pick-proper site pick k [] h = tt
pick-proper site pick k (a ∷ []) h = tt
pick-proper site pick k (a ∷ b ∷ []) h = when-holds IsProper (same_kind a.kind b.kind) WrongType site (typed a.kind (pick a.term b.term)) (k a.term b.term h.0 h.1.0)
pick-proper site pick k (a ∷ b ∷ c ∷ ts) h = tt

picked-proper : (site : Site) (arguments : Expressions) (terms : Checked (List TypedTerm)) (pick : Term → Term → Term) → KeepsProper pick → Holds AreProper terms → (two : Bool) → Holds IsProper (cond two (then terms (pick_term site pick)) (refused WrongType site))
picked-proper site arguments terms pick k h true = then-holds AreProper IsProper terms (pick_term site pick) h (pick-proper site pick k)
picked-proper site arguments terms pick k h false = tt

other-proper : (site : Site) (arguments : Expressions) (terms : Checked (List TypedTerm)) → Holds AreProper terms → (b c : Bool) → Holds IsProper (call_other site arguments terms (cond b (Some core.Minimum) (cond c (Some core.Maximum) None)))
other-proper site arguments terms h true c = picked-proper site arguments terms core.Minimum (λ a b. both (is_proper_term a) (is_proper_term b)) h (are_two arguments)
other-proper site arguments terms h false true = picked-proper site arguments terms core.Maximum (λ a b. both (is_proper_term a) (is_proper_term b)) h (are_two arguments)
other-proper site arguments terms h false false = tt

call-proper : (d : Devices) (site : Site) (name : List ℕ) (arguments : Expressions) (terms : Checked (List TypedTerm)) → Holds AreProper terms → (f : Option Function) → Holds IsProper (call_term (size_kind d) site name arguments terms f)
call-proper d site name arguments terms h (Some function) = id-proper d site function arguments
call-proper d site name arguments terms h None = other-proper site arguments terms h (bytes_eq name (codes "min")) (bytes_eq name (codes "max"))

called-proper : (site : Site) (b : Bool) (c : Checked TypedTerm) → Holds IsProper c → Holds IsProper (cond b (refused LeftOutWord site) c)
called-proper site true c h = tt
called-proper site false c h = h

mutual
  unfolding type_of types_of

  pub type-proper : (d : Devices) (names : List Binding) (e : Expression) → SpellsExpression e → Holds IsProper (type_of d names e)
  type-proper d names (Number site kind n) h = literal-in kind n h
  type-proper d names (Name site x) h = then-any IsProper (found (meaning_of names x) UnknownName site) (variable_term site) (variable-proper site)
  type-proper d names (Element site x index) h =
      then-any IsProper (found (meaning_of names x) UnknownName site) _ (λ m. then-any IsProper (array_of site m) _ (λ a.
      then-holds IsProper IsProper (type_of d names index) _ (type-proper d names index h.1) (λ i p. p)))
  type-proper d names (Call site x arguments) h =
      called-proper site (is_left_out x) _ (call-proper d site x arguments (types_of d names arguments) (types-proper d names arguments h.1) (function_named x))
  type-proper d names (Prefix site sign e) h = then-holds IsProper IsProper (type_of d names e) _ (type-proper d names e h) (λ t p. prefix-proper sign site t p)
  type-proper d names (Cast site kind e) h = then-holds IsProper IsProper (type_of d names e) _ (type-proper d names e h) (λ t p. bring-proper kind site t p)
  type-proper d names (Infix site sign left right) h =
      then-holds IsProper IsProper (type_of d names left) _ (type-proper d names left h.0) (λ l p.
      then-holds IsProper IsProper (type_of d names right) _ (type-proper d names right h.1) (λ r q. infix-proper sign site right l r p q))
  type-proper d names (Conditional site test taken skipped) h =
      then-holds IsProper IsProper (type_of d names test) _ (type-proper d names test h.0) (λ t p.
      then-holds IsProper IsProper (type_of d names taken) _ (type-proper d names taken h.1) (λ a q.
      then-holds IsProper IsProper (type_of d names skipped) _ (type-proper d names skipped h.2) (λ b r. conditional-proper site t a b p q r)))

  types-proper : (d : Devices) (names : List Binding) (es : Expressions) → SpellsExpressions es → Holds AreProper (types_of d names es)
  types-proper d names nothing h = tt
  types-proper d names (also e es) h =
      then-holds IsProper AreProper (type_of d names e) _ (type-proper d names e h.0) (λ t p.
      then-holds AreProper AreProper (types_of d names es) _ (types-proper d names es h.1) (λ ts q. (p, q)))
