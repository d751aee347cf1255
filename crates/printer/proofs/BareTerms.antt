-- Typing, positions aside: an expression without positions has the term without positions, or the same fault.
use Rattle.std.proofs.Common.{◌≡◌, ℕ, List, [], ◌∷◌, map, Bool, true, false, cond, Ok, Err, refl, ap, ◌∙◌}
use Rattle.std.specs.Prelude.{Option, Some, None}
use Rattle.semantics.specs.Word.{Kind, Int, Uint, Size, Operator, Multiply, Divide, Relation, UnaryOperator, ShiftLeft, ShiftRight}
use Rattle.semantics.specs.Core as core
use Rattle.semantics.specs.Core.{Site, Function, Term}
use Rattle.texts.specs.Bare.{nowhere, bare_expression, bare_expressions}
use Rattle.texts.specs.Surface.{PrefixSign, Minus, LogicalNot, BitNot, InfixSign, Arithmetic, LeftShift, RightShift, Comparison, LogicalAnd, LogicalOr, Expression, Number, Name, Element, Call, Prefix, Cast, Infix, Conditional, Expressions, nothing, also}
use Rattle.types.specs.TypeFaults.{TypeFault, UnknownName, WrongType, LeftOutWord, Checked, refused, then, when, found}
use Rattle.types.specs.Scope.{Devices, size_kind, Meaning, VariableAt, ArrayAt, Binding, meaning_of}
use Rattle.types.specs.Typing.{TypedTerm, typed, common, brought, bring, variable_term, array_of, prefix_term, shift_count, shifted, shift_term, widened, operand, arithmetic_term, comparison_term, infix_term, conditional_term, function_named, is_left_out, has_dimension, id_term, same_kind, pick_term, are_two, call_other, call_term, type_of, types_of}
use Rattle.printer.specs.BareCore.{bare_term, bare_checked}

abbrev pub same : {A : Type 0} → A → A
same a = a

abbrev pub bare_typed : TypedTerm → TypedTerm
bare_typed t = typed t.kind (bare_term t.term)

-- one step, and then the rest
pub bare-then : {A B : Type 0} (f : A → A) (g : B → B) (a b : Checked A) (go on : A → Checked B) → b ≡ bare_checked f a → ((x : A) → on (f x) ≡ bare_checked g (go x)) → then b on ≡ bare_checked g (then a go)
bare-then f g (Ok x) b go on e h = ap (λ c. then c on) e ∙ h x
bare-then f g (Err (fault, site)) b go on e h = ap (λ c. then c on) e

pub bare-found : {A : Type 0} (o : Option A) (fault : TypeFault) (site : Site) → found o fault nowhere ≡ bare_checked same (found o fault site)
bare-found (Some a) fault site = refl
bare-found None fault site = refl

pub bare-when : {A : Type 0} (f : A → A) (b : Bool) (fault : TypeFault) (site : Site) (a : A) → when b fault nowhere (f a) ≡ bare_checked f (when b fault site a)
bare-when f true fault site a = refl
bare-when f false fault site a = refl

bare-brought : (from to : Kind) (site : Site) (t : Term) → brought from to nowhere (bare_term t) ≡ bare_term (brought from to site t)
bare-brought Int Int site t = refl
bare-brought Int Uint site t = refl
bare-brought Uint Int site t = refl
bare-brought Uint Uint site t = refl
bare-brought Int Size site t = refl
bare-brought Uint Size site t = refl
bare-brought Size Int site t = refl
bare-brought Size Uint site t = refl
bare-brought Size Size site t = refl

pub bare-bring : (to : Kind) (site : Site) (t : TypedTerm) → bring to nowhere (bare_typed t) ≡ bare_term (bring to site t)
bare-bring to site t = bare-brought t.kind to site t.term

bare-variable : (site : Site) (m : Meaning) → variable_term nowhere m ≡ bare_checked bare_typed (variable_term site m)
bare-variable site (VariableAt slot kind) = refl
bare-variable site (ArrayAt array kind writable) = refl

bare-array : (site : Site) (m : Meaning) → array_of nowhere m ≡ bare_checked same (array_of site m)
bare-array site (VariableAt slot kind) = refl
bare-array site (ArrayAt array kind writable) = refl

bare-prefix : (sign : PrefixSign) (site : Site) (t : TypedTerm) → prefix_term sign nowhere (bare_typed t) ≡ bare_typed (prefix_term sign site t)
bare-prefix Minus site t = refl
bare-prefix LogicalNot site t = refl
bare-prefix BitNot site t = refl

bare-count : (kind : Kind) (e : Expression) → shift_count kind (bare_expression e) ≡ shift_count kind e
bare-count kind (Number site k n) = refl
bare-count kind (Name site x) = refl
bare-count kind (Element site x index) = refl
bare-count kind (Call site x es) = refl
bare-count kind (Prefix site sign e) = refl
bare-count kind (Cast site k e) = refl
bare-count kind (Infix site sign l r) = refl
bare-count kind (Conditional site test a b) = refl

bare-shifted : (shift : ℕ → UnaryOperator) (op : Operator) (site : Site) (kind : Kind) (t : Term) (n : ℕ) → shifted shift op nowhere kind (bare_term t) n ≡ bare_term (shifted shift op site kind t n)
bare-shifted shift op site Int t n = refl
bare-shifted shift op site Uint t n = refl
bare-shifted shift op site Size t n = refl

bare-shift : (site : Site) (shift : ℕ → UnaryOperator) (op : Operator) (l : TypedTerm) (o : Option ℕ) → shift_term nowhere shift op (bare_typed l) o ≡ bare_checked bare_typed (shift_term site shift op l o)
bare-shift site shift op l (Some n) = ap (λ t. Ok (typed (common Uint l.kind) t)) (bare-shifted shift op site l.kind l.term n)
bare-shift site shift op l None = refl

bare-widened : (from : Kind) (site : Site) (t : Term) → widened from nowhere (bare_term t) ≡ bare_term (widened from site t)
bare-widened Int site t = refl
bare-widened Uint site t = refl
bare-widened Size site t = refl

bare-operand : (kind : Kind) (site : Site) (t : TypedTerm) → operand kind nowhere (bare_typed t) ≡ bare_term (operand kind site t)
bare-operand Int site t = refl
bare-operand Uint site t = refl
bare-operand Size site t = bare-widened t.kind site t.term

bare-arithmetic : (operator : Operator) (site : Site) (kind : Kind) (l r : TypedTerm) → arithmetic_term operator nowhere kind (bare_typed l) (bare_typed r) ≡ bare_typed (arithmetic_term operator site kind l r)
bare-arithmetic operator site kind l r =
    ap (λ t. typed kind (core.Binary operator kind nowhere t (operand kind nowhere (bare_typed r)))) (bare-operand kind site l)
    ∙ ap (λ t. typed kind (core.Binary operator kind nowhere (bare_term (operand kind site l)) t)) (bare-operand kind site r)

bare-comparison : (relation : Relation) (site : Site) (kind : Kind) (l r : TypedTerm) → comparison_term relation nowhere kind (bare_typed l) (bare_typed r) ≡ bare_typed (comparison_term relation site kind l r)
bare-comparison relation site kind l r =
    ap (λ t. typed Int (core.Compare relation kind t (operand kind nowhere (bare_typed r)))) (bare-operand kind site l)
    ∙ ap (λ t. typed Int (core.Compare relation kind (bare_term (operand kind site l)) t)) (bare-operand kind site r)

pub bare-infix : (sign : InfixSign) (site : Site) (right : Expression) (l r : TypedTerm) → infix_term sign nowhere (bare_expression right) (bare_typed l) (bare_typed r) ≡ bare_checked bare_typed (infix_term sign site right l r)
bare-infix (Arithmetic operator) site right l r = ap Ok (bare-arithmetic operator site (common l.kind r.kind) l r)
bare-infix LeftShift site right l r = ap (shift_term nowhere ShiftLeft Multiply (bare_typed l)) (bare-count l.kind right) ∙ bare-shift site ShiftLeft Multiply l (shift_count l.kind right)
bare-infix RightShift site right l r = ap (shift_term nowhere ShiftRight Divide (bare_typed l)) (bare-count l.kind right) ∙ bare-shift site ShiftRight Divide l (shift_count l.kind right)
bare-infix (Comparison relation) site right l r = ap Ok (bare-comparison relation site (common l.kind r.kind) l r)
bare-infix LogicalAnd site right l r = refl
bare-infix LogicalOr site right l r = refl

bare-conditional : (site : Site) (test a b : TypedTerm) → conditional_term nowhere (bare_typed test) (bare_typed a) (bare_typed b) ≡ bare_typed (conditional_term site test a b)
bare-conditional site test a b =
    let k = common a.kind b.kind in
    ap (λ t. typed k (core.Select (bare_term test.term) t (bring k nowhere (bare_typed b)))) (bare-bring k site a)
    ∙ ap (λ t. typed k (core.Select (bare_term test.term) (bare_term (bring k site a)) t)) (bare-bring k site b)

-- calls
bare-id : (ids : Kind) (site : Site) (function : Function) (es : Expressions) → id_term ids nowhere function (bare_expressions es) ≡ bare_checked bare_typed (id_term ids site function es)
bare-id ids site function nothing = refl
bare-id ids site function (also (Number at kind n) nothing) = bare-when bare_typed (has_dimension ids n) WrongType at (typed ids (core.Id ids function n))
bare-id ids site function (also (Number at kind n) (also e es)) = refl
bare-id ids site function (also (Name at x) es) = refl
bare-id ids site function (also (Element at x index) es) = refl
bare-id ids site function (also (Call at x arguments) es) = refl
bare-id ids site function (also (Prefix at sign e) es) = refl
bare-id ids site function (also (Cast at kind e) es) = refl
bare-id ids site function (also (Infix at sign l r) es) = refl
bare-id ids site function (also (Conditional at test a b) es) = refl

bare-two : (es : Expressions) → are_two (bare_expressions es) ≡ are_two es
bare-two nothing = refl
bare-two (also a nothing) = refl
bare-two (also a (also b nothing)) = refl
bare-two (also a (also b (also c es))) = refl

bare-pick : (site : Site) (pick : Term → Term → Term) → ((a b : Term) → pick (bare_term a) (bare_term b) ≡ bare_term (pick a b)) → (ts : List TypedTerm) → pick_term nowhere pick (map bare_typed ts) ≡ bare_checked bare_typed (pick_term site pick ts)
bare-pick site pick h [] = refl
bare-pick site pick h (a ∷ []) = refl
bare-pick site pick h (a ∷ b ∷ []) =
    ap (λ t. when (same_kind a.kind b.kind) WrongType nowhere (typed a.kind t)) (h a.term b.term)
    ∙ bare-when bare_typed (same_kind a.kind b.kind) WrongType site (typed a.kind (pick a.term b.term))
bare-pick site pick h (a ∷ b ∷ c ∷ ts) = refl

bare-two-arguments : (site : Site) (pick : Term → Term → Term) → ((a b : Term) → pick (bare_term a) (bare_term b) ≡ bare_term (pick a b)) → (es : Expressions) (terms others : Checked (List TypedTerm)) → others ≡ bare_checked (map bare_typed) terms →
    call_other nowhere (bare_expressions es) others (Some pick) ≡ bare_checked bare_typed (call_other site es terms (Some pick))
bare-two-arguments site pick h es terms others e =
    ap (λ b. cond b (then others (pick_term nowhere pick)) (refused WrongType nowhere)) (bare-two es) ∙ by (are_two es)
  where
    by : (b : Bool) → cond b (then others (pick_term nowhere pick)) (refused WrongType nowhere) ≡ bare_checked bare_typed (cond b (then terms (pick_term site pick)) (refused WrongType site))
    by true = bare-then (map bare_typed) bare_typed terms others (pick_term site pick) (pick_term nowhere pick) e (bare-pick site pick h)
    by false = refl

bare-picked : (site : Site) (es : Expressions) (terms others : Checked (List TypedTerm)) → others ≡ bare_checked (map bare_typed) terms → (least most : Bool) →
    call_other nowhere (bare_expressions es) others (cond least (Some core.Minimum) (cond most (Some core.Maximum) None)) ≡ bare_checked bare_typed (call_other site es terms (cond least (Some core.Minimum) (cond most (Some core.Maximum) None)))
bare-picked site es terms others e true most = bare-two-arguments site core.Minimum (λ a b. refl) es terms others e
bare-picked site es terms others e false true = bare-two-arguments site core.Maximum (λ a b. refl) es terms others e
bare-picked site es terms others e false false = refl

bare-call : (ids : Kind) (site : Site) (x : List ℕ) (es : Expressions) (terms others : Checked (List TypedTerm)) → others ≡ bare_checked (map bare_typed) terms → (o : Option Function) → call_term ids nowhere x (bare_expressions es) others o ≡ bare_checked bare_typed (call_term ids site x es terms o)
bare-call ids site x es terms others e (Some function) = bare-id ids site function es
bare-call ids site x es terms others e None = bare-picked site es terms others e _ _

bare-left-out : (b : Bool) (site : Site) (a c : Checked TypedTerm) → c ≡ bare_checked bare_typed a → cond b (refused LeftOutWord nowhere) c ≡ bare_checked bare_typed (cond b (refused LeftOutWord site) a)
bare-left-out true site a c e = refl
bare-left-out false site a c e = e

mutual
  unfolding type_of

  pub bare-type : (d : Devices) (names : List Binding) (e : Expression) → type_of d names (bare_expression e) ≡ bare_checked bare_typed (type_of d names e)
  bare-type d names (Number site kind n) = refl
  bare-type d names (Name site x) = bare-then same bare_typed _ _ _ _ (bare-found (meaning_of names x) UnknownName site) (λ m. bare-variable site m)
  bare-type d names (Element site x index) =
      bare-then same bare_typed _ _ _ _ (bare-found (meaning_of names x) UnknownName site) (λ m. bare-then same bare_typed _ _ _ _ (bare-array site m) (λ a.
      bare-then bare_typed bare_typed _ _ _ _ (bare-type d names index) (λ i. refl)))
  bare-type d names (Call site x es) =
      bare-left-out (is_left_out x) site _ _ (bare-call (size_kind d) site x es (types_of d names es) (types_of d names (bare_expressions es)) (bare-types d names es) (function_named x))
  bare-type d names (Prefix site sign e) = bare-then bare_typed bare_typed _ _ _ _ (bare-type d names e) (λ t. ap Ok (bare-prefix sign site t))
  bare-type d names (Cast site kind e) = bare-then bare_typed bare_typed _ _ _ _ (bare-type d names e) (λ t. ap (λ u. Ok (typed kind u)) (bare-bring kind site t))
  bare-type d names (Infix site sign l r) =
      bare-then bare_typed bare_typed _ _ _ _ (bare-type d names l) (λ a. bare-then bare_typed bare_typed _ _ _ _ (bare-type d names r) (λ b. bare-infix sign site r a b))
  bare-type d names (Conditional site test a b) =
      bare-then bare_typed bare_typed _ _ _ _ (bare-type d names test) (λ t. bare-then bare_typed bare_typed _ _ _ _ (bare-type d names a) (λ u.
      bare-then bare_typed bare_typed _ _ _ _ (bare-type d names b) (λ v. ap Ok (bare-conditional site t u v))))

  bare-types : (d : Devices) (names : List Binding) (es : Expressions) → types_of d names (bare_expressions es) ≡ bare_checked (map bare_typed) (types_of d names es)
  bare-types d names nothing = refl
  bare-types d names (also e es) = bare-then bare_typed (map bare_typed) _ _ _ _ (bare-type d names e) (λ t. bare-then (map bare_typed) (map bare_typed) _ _ _ _ (bare-types d names es) (λ ts. refl))
