-- Canonical texts, positions aside: a tree without positions has the same text.
use Rattle.std.proofs.Common.{◌≡◌, ℕ, List, [], ◌∷◌, ◌++◌, map, refl, ap, ◌∙◌, codes}
use Rattle.std.specs.Prelude.{Option, Some, None}
use Rattle.texts.specs.Canonical.{kind_text, prefix_text, infix_text, assign_text, is_compound, parenthesised, expression_text, arguments_text, declaration_text, index_text, assignment_text, first_text, for_text, line, deeper, statement_text, statements_text, else_text, parameter_text, parameters_text, sizes_text, canonical}
use Rattle.texts.specs.Bare.{bare_expression, bare_expressions, bare_declaration, bare_index, bare_assignment, bare_first, bare_statement, bare_statements, bare_parameter, bare_kernel}
use Rattle.texts.specs.Surface.{Expression, Number, Name, Element, Call, Prefix, Cast, Infix, Conditional, Expressions, nothing, also, Declaration, Assignment, First, FirstDeclares, FirstAssigns, Statement, Declare, DeclareArray, Assign, If, While, For, Barrier, Jump, Block, Statements, none, one, Parameter, Buffer, Value, Kernel}

compound-bare : (e : Expression) → is_compound (bare_expression e) ≡ is_compound e
compound-bare (Number site kind n) = refl
compound-bare (Name site x) = refl
compound-bare (Element site x index) = refl
compound-bare (Call site x es) = refl
compound-bare (Prefix site sign e) = refl
compound-bare (Cast site kind e) = refl
compound-bare (Infix site sign l r) = refl
compound-bare (Conditional site test a b) = refl

operand-bare : (e : Expression) → expression_text (bare_expression e) ≡ expression_text e → parenthesised (is_compound (bare_expression e)) (expression_text (bare_expression e)) ≡ parenthesised (is_compound e) (expression_text e)
operand-bare e h = ap (λ c. parenthesised c (expression_text (bare_expression e))) (compound-bare e) ∙ ap (parenthesised (is_compound e)) h

-- parts of a text that are the same
two : {a b c d : List ℕ} → (go : List ℕ → List ℕ → List ℕ) → a ≡ b → c ≡ d → go a c ≡ go b d
two {b = b} {c = c} go e f = ap (λ x. go x c) e ∙ ap (go b) f

mutual
  expression-bare : (e : Expression) → expression_text (bare_expression e) ≡ expression_text e
  expression-bare (Number site kind n) = refl
  expression-bare (Name site x) = refl
  expression-bare (Element site x index) = ap (λ t. x ++ (codes "[" ++ (t ++ codes "]"))) (expression-bare index)
  expression-bare (Call site x es) = ap (λ t. x ++ (codes "(" ++ (t ++ codes ")"))) (arguments-bare [] es)
  expression-bare (Prefix site sign e) = ap (λ t. prefix_text sign ++ t) (operand-bare e (expression-bare e))
  expression-bare (Cast site kind e) = ap (λ t. codes "(" ++ (kind_text kind ++ (codes ")" ++ t))) (operand-bare e (expression-bare e))
  expression-bare (Infix site sign l r) = two (λ a b. a ++ (codes " " ++ (infix_text sign ++ (codes " " ++ b)))) (operand-bare l (expression-bare l)) (operand-bare r (expression-bare r))
  expression-bare (Conditional site test a b) =
      two (λ t u. t ++ (32 ∷ 63 ∷ 32 ∷ [] ++ u)) (operand-bare test (expression-bare test)) (two (λ t u. t ++ (codes " : " ++ u)) (operand-bare a (expression-bare a)) (operand-bare b (expression-bare b)))

  arguments-bare : (before : List ℕ) (es : Expressions) → arguments_text before (bare_expressions es) ≡ arguments_text before es
  arguments-bare before nothing = refl
  arguments-bare before (also e es) = two (λ t u. before ++ (t ++ u)) (expression-bare e) (arguments-bare (codes ", ") es)

declaration-bare : (d : Declaration) → declaration_text (bare_declaration d) ≡ declaration_text d
declaration-bare d = ap (λ t. kind_text d.kind ++ (codes " " ++ (d.name ++ (codes " = " ++ t)))) (expression-bare d.value)

index-bare : (o : Option Expression) → index_text (bare_index o) ≡ index_text o
index-bare None = refl
index-bare (Some e) = ap (λ t. codes "[" ++ (t ++ codes "]")) (expression-bare e)

assignment-bare : (a : Assignment) → assignment_text (bare_assignment a) ≡ assignment_text a
assignment-bare a = two (λ t u. a.name ++ (t ++ (codes " " ++ (assign_text a.sign ++ (codes " " ++ u))))) (index-bare a.index) (expression-bare a.value)

first-bare : (f : First) → first_text (bare_first f) ≡ first_text f
first-bare (FirstDeclares d) = declaration-bare d
first-bare (FirstAssigns a) = assignment-bare a

for-bare : (f : First) (test : Expression) (update : Assignment) → for_text (bare_first f) (bare_expression test) (bare_assignment update) ≡ for_text f test update
for-bare f test update =
    two (λ t u. codes "for (" ++ (t ++ (codes "; " ++ u))) (first-bare f) (two (λ t u. t ++ (codes "; " ++ (u ++ codes ")"))) (expression-bare test) (assignment-bare update))

mutual
  statement-bare : (pad : List ℕ) (s : Statement) → statement_text pad (bare_statement s) ≡ statement_text pad s
  statement-bare pad (Declare d) = ap (λ t. line pad (t ++ codes ";")) (declaration-bare d)
  statement-bare pad (DeclareArray n site kind name_site x size) = refl
  statement-bare pad (Assign a) = ap (λ t. line pad (t ++ codes ";")) (assignment-bare a)
  statement-bare pad (If n site test a b) =
      two (λ t u. line pad (codes "if (" ++ (t ++ codes ") {")) ++ u) (expression-bare test) (two (λ t u. t ++ (u ++ line pad (codes "}"))) (statements-bare (deeper pad) a) (else-bare pad b))
  statement-bare pad (While n site test body) = two (λ t u. line pad (codes "while (" ++ (t ++ codes ") {")) ++ (u ++ line pad (codes "}"))) (expression-bare test) (statements-bare (deeper pad) body)
  statement-bare pad (For n site first test update body) = two (λ t u. line pad (t ++ codes " {") ++ (u ++ line pad (codes "}"))) (for-bare first test update) (statements-bare (deeper pad) body)
  statement-bare pad (Barrier n site flags) = ap (λ t. line pad (codes "barrier(" ++ (t ++ codes ");"))) (expression-bare flags)
  statement-bare pad (Jump n site jump) = refl
  statement-bare pad (Block n site body) = ap (λ t. line pad (codes "{") ++ (t ++ line pad (codes "}"))) (statements-bare (deeper pad) body)

  statements-bare : (pad : List ℕ) (ss : Statements) → statements_text pad (bare_statements ss) ≡ statements_text pad ss
  statements-bare pad none = refl
  statements-bare pad (one s ss) = two (λ t u. t ++ u) (statement-bare pad s) (statements-bare pad ss)

  else-bare : (pad : List ℕ) (ss : Statements) → else_text pad (bare_statements ss) ≡ else_text pad ss
  else-bare pad none = refl
  else-bare pad (one s ss) = two (λ t u. line pad (codes "} else {") ++ (t ++ u)) (statement-bare (deeper pad) s) (statements-bare (deeper pad) ss)

parameter-bare : (p : Parameter) → parameter_text (bare_parameter p) ≡ parameter_text p
parameter-bare (Buffer constant kind site x) = refl
parameter-bare (Value kind site x) = refl

parameters-bare : (before : List ℕ) (ps : List Parameter) → parameters_text before (map bare_parameter ps) ≡ parameters_text before ps
parameters-bare before [] = refl
parameters-bare before (p ∷ ps) = two (λ t u. before ++ (t ++ u)) (parameter-bare p) (parameters-bare (codes ", ") ps)

pub canonical-bare : (k : Kernel) → canonical (bare_kernel k) ≡ canonical k
canonical-bare k =
    two (λ t u. line [] (sizes_text k.sizes.x k.sizes.y k.sizes.z ++ (k.name ++ (codes "(" ++ (t ++ codes ") {")))) ++ (u ++ line [] (codes "}"))) (parameters-bare [] k.parameters) (statements-bare (codes "  ") k.body)
