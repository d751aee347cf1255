-- One step of each reader of expressions.
use Rattle.std.proofs.Common.{◌≡◌, ℕ, zero, suc, ◌+◌, ◌-◌, List, [], ◌∷◌, ◌++◌, Bool, true, false, cond, ◌&&◌, refl, ap, ◌∙◌}
use Rattle.semantics.specs.Core.{Site}
use Rattle.std.specs.Option.{is_some}
use Rattle.texts.specs.Surface.{AssignSign}
use Rattle.opencl_tokens.specs.Lexemes.{Lexeme}
use Rattle.opencl_tree.specs.Types.{TypeName}
use Rattle.opencl_tree.specs.Tree.{Expression, Expressions, nothing, also, Assign, Conditional, Cast, Vector, SizeofOf, Call, Name, Index, Member}
use Rattle.opencl_tree.specs.View.{expression, expressions}
use Rattle.opencl_tree.specs.declared.tree.Expr.{Expr}
use Rattle.opencl_parser.specs.Faults.{Expected, TooDeep, TooMany}
use Rattle.opencl_parser.specs.Reader.{Reader, Attempt, Took, Refused, Gives, Fails, Looks, Passes, Then, carry, front, behind, run, expects, takes}
use Rattle.opencl_parser.specs.Signs.{is_left_parenthesis, is_right_parenthesis, is_colon, is_comma, is_right_bracket, name_at, joint_at, suffix_at}
use Rattle.opencl_parser.specs.TypeNames.{Known, known, starts_type, type_reader}
use Rattle.opencl_parser.specs.Expressions.{assigns, chooses, goes_on, longer, chain, ranked, with_last, more_arguments, parts, arguments, by_suffix, suffixed, indexes, selects, grouped, vector, converted, cast, sized_type, sized_by, sized, sized_within, called, named, at_name, parenthesized, opened, operand_at, operand, level, inner}
use Rattle.opencl_parser.proofs.Steps.{pred, stops-carry}

pub level-none : (ks : List Known) (depth rank : ℕ) (ts : List Lexeme) → depth ≡ 0 → run (level ks depth rank) ts ≡ Refused TooDeep (front ts).site
unfolding level
level-none ks depth rank ts h = ap (λ d. run (level ks d rank) ts) h

level-more : (ks : List Known) (depth rank : ℕ) (ts : List Lexeme) → run (level ks (suc depth) rank) ts ≡ run (inner ks depth rank) ts
unfolding level
level-more ks depth rank ts = refl

pub level-less : (ks : List Known) (depth rank : ℕ) (ts : List Lexeme) → (depth ≡ 0 → ⊥) → run (level ks depth rank) ts ≡ run (inner ks (depth - 1) rank) ts
level-less ks depth rank ts h = ap (λ d. run (level ks d rank) ts) (pred depth h) ∙ level-more ks (depth - 1) rank ts

pub ranked-none : (o : Reader Expression) (deeper : ℕ → Reader Expression) (depth rank : ℕ) (ts : List Lexeme) → rank ≡ 0 → run (ranked o deeper depth rank) ts ≡ run o ts
unfolding ranked
ranked-none o deeper depth rank ts h = ap (λ r. run (ranked o deeper depth r) ts) h

pub ranked-more : (o : Reader Expression) (deeper : ℕ → Reader Expression) (depth rank : ℕ) (ts : List Lexeme) → run (ranked o deeper depth (suc rank)) ts ≡ carry (run (ranked o deeper depth rank) ts) (λ e rest. run (chain (ranked o deeper depth rank) deeper (rank + 1) (depth + 1) e) rest)
unfolding ranked
ranked-more o deeper depth rank ts = refl

pub ranked-less : (o : Reader Expression) (deeper : ℕ → Reader Expression) (depth rank : ℕ) (ts : List Lexeme) → (rank ≡ 0 → ⊥) → run (ranked o deeper depth rank) ts ≡ run (ranked o deeper depth (suc (rank - 1))) ts
ranked-less o deeper depth rank ts h = ap (λ r. run (ranked o deeper depth r) ts) (pred rank h)

pub chain-none : (o : Reader Expression) (deeper : ℕ → Reader Expression) (rank left : ℕ) (e : Expression) (ts : List Lexeme) → left ≡ 0 → run (chain o deeper rank left e) ts ≡ Refused TooDeep (front ts).site
unfolding chain
chain-none o deeper rank left e ts h = ap (λ l. run (chain o deeper rank l e) ts) h

chain-more : (o : Reader Expression) (deeper : ℕ → Reader Expression) (rank left : ℕ) (e : Expression) (ts : List Lexeme) → run (chain o deeper rank (suc left) e) ts ≡ run (goes_on (longer o (chain o deeper rank left) e) deeper e (front ts).site (joint_at rank (front ts).kind)) ts
unfolding chain
chain-more o deeper rank left e ts = refl

pub chain-less : (o : Reader Expression) (deeper : ℕ → Reader Expression) (rank left : ℕ) (e : Expression) (ts : List Lexeme) → (left ≡ 0 → ⊥) → run (chain o deeper rank left e) ts ≡ run (goes_on (longer o (chain o deeper rank (left - 1)) e) deeper e (front ts).site (joint_at rank (front ts).kind)) ts
chain-less o deeper rank left e ts h = ap (λ l. run (chain o deeper rank l e) ts) (pred left h) ∙ chain-more o deeper rank (left - 1) e ts

pub assigns-is : (deeper : ℕ → Reader Expression) (at : Site) (sign : AssignSign) (e : Expression) (ts : List Lexeme) → run (assigns deeper at sign e) ts ≡ carry (run (deeper 12) ts) (λ v rest. Took (Assign at sign e v) rest)
unfolding assigns
assigns-is deeper at sign e ts = refl

pub chooses-is : (deeper : ℕ → Reader Expression) (at : Site) (e : Expression) (ts : List Lexeme) → run (chooses deeper at e) ts ≡ carry (run (deeper 13) ts) (λ a rest. carry (run (expects is_colon) rest) (λ colon rest. carry (run (deeper 11) rest) (λ b rest. Took (Conditional at e a b) rest)))
unfolding chooses
chooses-is deeper at e ts = refl

pub operand-is : (ks : List Known) (deeper : ℕ → Reader Expression) (depth : ℕ) (ts : List Lexeme) → run (operand ks deeper depth) ts ≡ run (operand_at ks deeper depth (front ts).site (front ts).kind) ts
unfolding operand
operand-is ks deeper depth ts = refl

pub parenthesized-is : (ks : List Known) (deeper : ℕ → Reader Expression) (depth : ℕ) (at : Site) (ts : List Lexeme) → run (parenthesized ks deeper depth at) ts ≡ run (cond (starts_type ks (front ts).kind) (cast ks deeper depth at) (grouped deeper depth)) ts
unfolding parenthesized
parenthesized-is ks deeper depth at ts = refl

pub cast-is : (ks : List Known) (deeper : ℕ → Reader Expression) (depth : ℕ) (at : Site) (ts : List Lexeme) → run (cast ks deeper depth at) ts ≡ carry (run (type_reader ks) ts) (λ to rest. carry (run (expects is_right_parenthesis) rest) (λ closing rest. run (converted deeper depth at to) rest))
unfolding cast
cast-is ks deeper depth at ts = refl

pub converted-is : (deeper : ℕ → Reader Expression) (depth : ℕ) (at : Site) (to : TypeName × Bool) (ts : List Lexeme) → run (converted deeper depth at to) ts ≡ run (cond (to.1 && is_left_parenthesis (front ts).kind) (Passes (vector deeper depth at to.0)) (Then (deeper 0) (λ e. Gives (Cast at to.0 e)))) ts
unfolding converted
converted-is deeper depth at to ts = refl

pub vector-is : (deeper : ℕ → Reader Expression) (depth : ℕ) (at : Site) (to : TypeName) (ts : List Lexeme) → run (vector deeper depth at to) ts ≡ carry (run (parts (deeper 12)) ts) (λ es rest. run (suffixed deeper (depth + 1) (Vector at to es)) rest)
unfolding vector
vector-is deeper depth at to ts = refl

pub grouped-is : (deeper : ℕ → Reader Expression) (depth : ℕ) (ts : List Lexeme) → run (grouped deeper depth) ts ≡ carry (run (deeper 13) ts) (λ e rest. carry (run (expects is_right_parenthesis) rest) (λ closing rest. run (suffixed deeper (depth + 1) e) rest))
unfolding grouped
grouped-is deeper depth ts = refl

pub at_name-is : (ks : List Known) (deeper : ℕ → Reader Expression) (depth : ℕ) (at : Site) (x : List ℕ) (ts : List Lexeme) → run (at_name ks deeper depth at x) ts ≡ run (cond (is_some (known ks x)) (Fails Expected) (Passes (named deeper depth at x))) ts
unfolding at_name
at_name-is ks deeper depth at x ts = refl

pub named-is : (deeper : ℕ → Reader Expression) (depth : ℕ) (at : Site) (x : List ℕ) (ts : List Lexeme) → run (named deeper depth at x) ts ≡ run (cond (is_left_parenthesis (front ts).kind) (Passes (called deeper depth at x)) (suffixed deeper (depth + 1) (Name at x))) ts
unfolding named
named-is deeper depth at x ts = refl

pub called-is : (deeper : ℕ → Reader Expression) (depth : ℕ) (at : Site) (x : List ℕ) (ts : List Lexeme) → run (called deeper depth at x) ts ≡ carry (run (arguments (deeper 12)) ts) (λ es rest. run (suffixed deeper (depth + 1) (Call at x es)) rest)
unfolding called
called-is deeper depth at x ts = refl

pub sized-is : (ks : List Known) (deeper : ℕ → Reader Expression) (depth : ℕ) (at : Site) (ts : List Lexeme) → run (sized ks deeper depth at) ts ≡ run (cond (is_left_parenthesis (front ts).kind) (Passes (sized_within ks deeper depth at)) (sized_by at (deeper 0))) ts
unfolding sized
sized-is ks deeper depth at ts = refl

pub sized_within-is : (ks : List Known) (deeper : ℕ → Reader Expression) (depth : ℕ) (at : Site) (ts : List Lexeme) → run (sized_within ks deeper depth at) ts ≡ run (cond (starts_type ks (front ts).kind) (sized_type ks at) (sized_by at (grouped deeper depth))) ts
unfolding sized_within
sized_within-is ks deeper depth at ts = refl

pub suffixed-none : (deeper : ℕ → Reader Expression) (left : ℕ) (e : Expression) (ts : List Lexeme) → left ≡ 0 → run (suffixed deeper left e) ts ≡ Refused TooDeep (front ts).site
unfolding suffixed
suffixed-none deeper left e ts h = ap (λ l. run (suffixed deeper l e) ts) h

suffixed-more : (deeper : ℕ → Reader Expression) (left : ℕ) (e : Expression) (ts : List Lexeme) → run (suffixed deeper (suc left) e) ts ≡ run (by_suffix (suffixed deeper left) deeper e (front ts).site (suffix_at (front ts).kind)) ts
unfolding suffixed
suffixed-more deeper left e ts = refl

pub suffixed-less : (deeper : ℕ → Reader Expression) (left : ℕ) (e : Expression) (ts : List Lexeme) → (left ≡ 0 → ⊥) → run (suffixed deeper left e) ts ≡ run (by_suffix (suffixed deeper (left - 1)) deeper e (front ts).site (suffix_at (front ts).kind)) ts
suffixed-less deeper left e ts h = ap (λ l. run (suffixed deeper l e) ts) (pred left h) ∙ suffixed-more deeper (left - 1) e ts

pub indexes-is : (more : Expression → Reader Expression) (deeper : ℕ → Reader Expression) (e : Expression) (at : Site) (ts : List Lexeme) → run (indexes more deeper e at) ts ≡ carry (run (deeper 13) ts) (λ i rest. carry (run (expects is_right_bracket) rest) (λ closing rest. run (more (Index at e i)) rest))
unfolding indexes
indexes-is more deeper e at ts = refl

pub selects-is : (more : Expression → Reader Expression) (e : Expression) (at : Site) (ts : List Lexeme) → run (selects more e at) ts ≡ carry (run (takes name_at) ts) (λ x rest. run (more (Member at e x.0)) rest)
unfolding selects
selects-is more e at ts = refl

pub arguments-is : (argument : Reader Expression) (ts : List Lexeme) → run (arguments argument) ts ≡ run (cond (is_right_parenthesis (front ts).kind) (Passes (Gives nothing)) (parts argument)) ts
unfolding arguments
arguments-is argument ts = refl

-- arguments
pub parts-begin : (argument : Reader Expression) (ts : List Lexeme) → run (parts argument) ts ≡ carry (run argument ts) (λ e rest. run (more_arguments argument 256 (also e nothing)) rest)
unfolding parts
parts-begin argument ts = refl

pub arguments-none : (argument : Reader Expression) (left : ℕ) (so : Expressions) (ts : List Lexeme) → left ≡ 0 → run (more_arguments argument left so) ts ≡ Refused TooMany (front ts).site
unfolding more_arguments
arguments-none argument left so ts h = ap (λ l. run (more_arguments argument l so) ts) h

arguments-more : (argument : Reader Expression) (left less : ℕ) (so : Expressions) (ts : List Lexeme) → left ≡ suc less → run (more_arguments argument left so) ts ≡ run (cond (is_comma (front ts).kind) (Passes (Then argument (λ e. more_arguments argument less (with_last so e)))) (Then (expects is_right_parenthesis) (λ closing. Gives so))) ts
unfolding more_arguments
arguments-more argument left less so ts h = ap (λ l. run (more_arguments argument l so) ts) h

pub another : (argument : Reader Expression) (left less : ℕ) (so : Expressions) (ts : List Lexeme) → left ≡ suc less → is_comma (front ts).kind ≡ true → run (more_arguments argument left so) ts ≡ carry (run argument (behind ts)) (λ e rest. run (more_arguments argument less (with_last so e)) rest)
another argument left less so ts h comma =
    arguments-more argument left less so ts h ∙ ap (λ b. run (cond b (Passes (Then argument (λ e. more_arguments argument less (with_last so e)))) (Then (expects is_right_parenthesis) (λ closing. Gives so))) ts) comma

pub closes : (argument : Reader Expression) (left less : ℕ) (so : Expressions) (ts : List Lexeme) → left ≡ suc less → is_comma (front ts).kind ≡ false → run (more_arguments argument left so) ts ≡ carry (run (expects is_right_parenthesis) ts) (λ closing rest. Took so rest)
closes argument left less so ts h comma =
    arguments-more argument left less so ts h ∙ ap (λ b. run (cond b (Passes (Then argument (λ e. more_arguments argument less (with_last so e)))) (Then (expects is_right_parenthesis) (λ closing. Gives so))) ts) comma

pub seen-snoc : (list : List Expr) (e : Expr) → expressions (list ++ e ∷ []) ≡ with_last (expressions list) (expression e)
seen-snoc [] e = refl
seen-snoc (x ∷ list) e = ap (also (expression x)) (seen-snoc list e)

pub ruleset steps = (stops-carry, level-none, level-less, ranked-none, ranked-more, ranked-less, chain-none, chain-less, assigns-is, chooses-is, operand-is, parenthesized-is, cast-is, converted-is, vector-is, grouped-is, at_name-is, named-is, called-is, sized-is, sized_within-is, suffixed-none, suffixed-less, indexes-is, selects-is, arguments-is, parts-begin)
