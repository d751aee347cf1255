-- One step of each reader of declarations.
use Rattle.std.proofs.Common.{◌≡◌, ℕ, zero, suc, ◌-◌, List, [], ◌∷◌, ◌++◌, Bool, true, false, cond, ◌&&◌, Option, None, Some, refl, ap, ◌∙◌, map}
use Rattle.semantics.specs.Core.{Site}
use Rattle.opencl_tokens.specs.Lexemes.{Lexeme}
use Rattle.opencl_tree.specs.Types.{Base, Qualifiers}
use Rattle.opencl_tree.specs.Tree.{Expression, Initial, Initials, Given, Absent, Listed, and_then, no_more, Declarator}
use Rattle.opencl_tree.specs.View.{maybe, initial, initials, declarator}
use Rattle.opencl_tree.specs.declared.tree.Expr.{Expr}
use Rattle.opencl_tree.specs.declared.tree.Initial as code
use Rattle.opencl_tree.specs.declared.tree.Declarator as code_of
use Rattle.opencl_parser.specs.Faults.{TooDeep, TooMany, LeftOut, Half}
use Rattle.opencl_parser.specs.Reader.{Reader, Attempt, Took, Refused, Gives, Fails, Looks, Passes, Then, carry, front, behind, run, expects, takes}
use Rattle.opencl_parser.specs.Signs.{is_comma, is_right_bracket}
use Rattle.opencl_parser.specs.TypeNames.{Known, Typed, untyped, by_part, typing, base_of, starring, is_half, is_bare}
use Rattle.opencl_parser.specs.Expressions.{level}
use Rattle.opencl_parser.specs.Declarations as reads
use Rattle.opencl_parser.specs.Declarations.{is_left_bracket, is_equal, is_left_brace, is_right_brace, specified, specifying, new_name, dimension, dimensions, Shape, shaped, shape, with_last_value, more_values, values, initial_value, named, more_declarators, declarators, declared, declaration, aliased, alias}
use Rattle.opencl_parser.proofs.Steps.{pred, stops-carry}

pub specifying-none : (ks : List Known) (left : ℕ) (t : Typed) (ts : List Lexeme) → left ≡ 0 → run (specifying ks left t) ts ≡ Refused TooMany (front ts).site
unfolding specifying
specifying-none ks left t ts h = ap (λ n. run (specifying ks n t) ts) h

specifying-more : (ks : List Known) (left : ℕ) (t : Typed) (ts : List Lexeme) → run (specifying ks (suc left) t) ts ≡ run (by_part (specifying ks left) t (specified ks t (front ts).kind)) ts
unfolding specifying
specifying-more ks left t ts = refl

pub specifying-less : (ks : List Known) (left : ℕ) (t : Typed) (ts : List Lexeme) → (left ≡ 0 → ⊥) → run (specifying ks left t) ts ≡ run (by_part (specifying ks (left - 1)) t (specified ks t (front ts).kind)) ts
specifying-less ks left t ts h = ap (λ n. run (specifying ks n t) ts) (pred left h) ∙ specifying-more ks (left - 1) t ts

pub dimension-is : (ks : List Known) (depth : ℕ) (ts : List Lexeme) → run (dimension ks depth) ts ≡ run (cond (is_right_bracket (front ts).kind) (Passes (Gives None)) (Then (level ks depth 12) (λ e. Then (expects is_right_bracket) (λ closing. Gives (Some e))))) ts
unfolding dimension
dimension-is ks depth ts = refl

pub dimensions-none : (ks : List Known) (depth left : ℕ) (so : List (Option Expression)) (ts : List Lexeme) → left ≡ 0 → run (dimensions ks depth left so) ts ≡ Refused TooMany (front ts).site
unfolding dimensions
dimensions-none ks depth left so ts h = ap (λ n. run (dimensions ks depth n so) ts) h

dimensions-more : (ks : List Known) (depth left : ℕ) (so : List (Option Expression)) (ts : List Lexeme) → run (dimensions ks depth (suc left) so) ts ≡ run (cond (is_left_bracket (front ts).kind) (Passes (Then (dimension ks depth) (λ d. dimensions ks depth left (so ++ d ∷ [])))) (Gives so)) ts
unfolding dimensions
dimensions-more ks depth left so ts = refl

pub dimensions-less : (ks : List Known) (depth left : ℕ) (so : List (Option Expression)) (ts : List Lexeme) → (left ≡ 0 → ⊥) → run (dimensions ks depth left so) ts ≡ run (cond (is_left_bracket (front ts).kind) (Passes (Then (dimension ks depth) (λ d. dimensions ks depth (left - 1) (so ++ d ∷ [])))) (Gives so)) ts
dimensions-less ks depth left so ts h = ap (λ n. run (dimensions ks depth n so) ts) (pred left h) ∙ dimensions-more ks depth (left - 1) so ts

pub shaped-is : (ks : List Known) (depth : ℕ) (stars : List Qualifiers) (ts : List Lexeme) → run (shaped ks depth stars) ts ≡ carry (run (takes (new_name ks)) ts) (λ x rest. carry (run (dimensions ks depth 8 []) rest) (λ ds rest. Took (record { stars = stars; site = x.1; name = x.0; dimensions = ds }) rest))
unfolding shaped
shaped-is ks depth stars ts = refl

pub shape-is : (ks : List Known) (depth : ℕ) (base : Base) (ts : List Lexeme) → run (shape ks depth base) ts ≡ carry (run (starring 16 []) ts) (λ stars rest. run (cond (is_half base && is_bare stars) (Fails (LeftOut Half)) (shaped ks depth stars)) rest)
unfolding shape
shape-is ks depth base ts = refl

pub initial_value-none : (ks : List Known) (depth : ℕ) (ts : List Lexeme) → depth ≡ 0 → run (initial_value ks depth) ts ≡ Refused TooDeep (front ts).site
unfolding initial_value
initial_value-none ks depth ts h = ap (λ d. run (initial_value ks d) ts) h

initial_value-more : (ks : List Known) (depth : ℕ) (ts : List Lexeme) → run (initial_value ks (suc depth)) ts ≡ run (cond (is_left_brace (front ts).kind) (Passes (Then (values (initial_value ks depth)) (λ is. Gives (Listed (front ts).site is)))) (Then (level ks depth 12) (λ e. Gives (Given e)))) ts
unfolding initial_value
initial_value-more ks depth ts = refl

pub initial_value-less : (ks : List Known) (depth : ℕ) (ts : List Lexeme) → (depth ≡ 0 → ⊥) → run (initial_value ks depth) ts ≡ run (cond (is_left_brace (front ts).kind) (Passes (Then (values (initial_value ks (depth - 1))) (λ is. Gives (Listed (front ts).site is)))) (Then (level ks (depth - 1) 12) (λ e. Gives (Given e)))) ts
initial_value-less ks depth ts h = ap (λ d. run (initial_value ks d) ts) (pred depth h) ∙ initial_value-more ks (depth - 1) ts

pub values-begin : (value : Reader Initial) (ts : List Lexeme) → run (values value) ts ≡ carry (run value ts) (λ i rest. run (more_values value 65536 (and_then i no_more)) rest)
unfolding values
values-begin value ts = refl

pub values-none : (value : Reader Initial) (left : ℕ) (so : Initials) (ts : List Lexeme) → left ≡ 0 → run (more_values value left so) ts ≡ Refused TooMany (front ts).site
unfolding more_values
values-none value left so ts h = ap (λ l. run (more_values value l so) ts) h

abbrev closing_brace : Initials → Reader Initials
closing_brace so = Then (expects is_right_brace) (λ closing. Gives so)

abbrev next_value : Reader Initial → ℕ → Initials → Reader Initials
next_value value less so = Looks (λ n. cond (is_right_brace n.kind) (Passes (Gives so)) (Then value (λ i. more_values value less (with_last_value so i))))

values-more : (value : Reader Initial) (left less : ℕ) (so : Initials) (ts : List Lexeme) → left ≡ suc less → run (more_values value left so) ts ≡ run (cond (is_comma (front ts).kind) (Passes (next_value value less so)) (closing_brace so)) ts
unfolding more_values
values-more value left less so ts h = ap (λ l. run (more_values value l so) ts) h

pub value-closes : (value : Reader Initial) (left less : ℕ) (so : Initials) (ts : List Lexeme) → left ≡ suc less → is_comma (front ts).kind ≡ false → run (more_values value left so) ts ≡ carry (run (expects is_right_brace) ts) (λ closing rest. Took so rest)
value-closes value left less so ts h comma =
    values-more value left less so ts h ∙ ap (λ b. run (cond b (Passes (next_value value less so)) (closing_brace so)) ts) comma

pub value-last : (value : Reader Initial) (left less : ℕ) (so : Initials) (ts : List Lexeme) → left ≡ suc less → is_comma (front ts).kind ≡ true → is_right_brace (front (behind ts)).kind ≡ true → run (more_values value left so) ts ≡ Took so (behind (behind ts))
value-last value left less so ts h comma brace =
    values-more value left less so ts h ∙ ap (λ b. run (cond b (Passes (next_value value less so)) (closing_brace so)) ts) comma
    ∙ ap (λ b. run (cond b (Passes (Gives so)) (Then value (λ i. more_values value less (with_last_value so i)))) (behind ts)) brace

pub value-next : (value : Reader Initial) (left less : ℕ) (so : Initials) (ts : List Lexeme) → left ≡ suc less → is_comma (front ts).kind ≡ true → is_right_brace (front (behind ts)).kind ≡ false → run (more_values value left so) ts ≡ carry (run value (behind ts)) (λ i rest. run (more_values value less (with_last_value so i)) rest)
value-next value left less so ts h comma brace =
    values-more value left less so ts h ∙ ap (λ b. run (cond b (Passes (next_value value less so)) (closing_brace so)) ts) comma
    ∙ ap (λ b. run (cond b (Passes (Gives so)) (Then value (λ i. more_values value less (with_last_value so i)))) (behind ts)) brace

pub initial-is : (ks : List Known) (depth : ℕ) (ts : List Lexeme) → run (reads.initial ks depth) ts ≡ run (cond (is_equal (front ts).kind) (Passes (initial_value ks depth)) (Gives Absent)) ts
unfolding reads.initial
initial-is ks depth ts = refl

pub declarator-is : (ks : List Known) (depth : ℕ) (base : Base) (ts : List Lexeme) → run (reads.declarator ks depth base) ts ≡ carry (run (shape ks depth base) ts) (λ s rest. carry (run (reads.initial ks depth) rest) (λ i rest. Took (named s i) rest))
unfolding reads.declarator
declarator-is ks depth base ts = refl

pub declarators-none : (d : Reader Declarator) (left : ℕ) (so : List Declarator) (ts : List Lexeme) → left ≡ 0 → run (more_declarators d left so) ts ≡ Refused TooMany (front ts).site
unfolding more_declarators
declarators-none d left so ts h = ap (λ n. run (more_declarators d n so) ts) h

declarators-more : (d : Reader Declarator) (left : ℕ) (so : List Declarator) (ts : List Lexeme) → run (more_declarators d (suc left) so) ts ≡ run (cond (is_comma (front ts).kind) (Passes (Then d (λ x. more_declarators d left (so ++ x ∷ [])))) (Gives so)) ts
unfolding more_declarators
declarators-more d left so ts = refl

pub declarators-less : (d : Reader Declarator) (left : ℕ) (so : List Declarator) (ts : List Lexeme) → (left ≡ 0 → ⊥) → run (more_declarators d left so) ts ≡ run (cond (is_comma (front ts).kind) (Passes (Then d (λ x. more_declarators d (left - 1) (so ++ x ∷ [])))) (Gives so)) ts
declarators-less d left so ts h = ap (λ n. run (more_declarators d n so) ts) (pred left h) ∙ declarators-more d (left - 1) so ts

pub declarators-begin : (d : Reader Declarator) (ts : List Lexeme) → run (declarators d) ts ≡ carry (run d ts) (λ x rest. run (more_declarators d 64 (x ∷ [])) rest)
unfolding declarators
declarators-begin d ts = refl

pub declaration-is : (ks : List Known) (depth n : ℕ) (at : Site) (ts : List Lexeme) → run (declaration ks depth n at) ts ≡ carry (run (specifying ks 16 untyped) ts) (λ t rest. run (declared ks depth n at t.qualifiers (base_of t.written)) rest)
unfolding declaration
declaration-is ks depth n at ts = refl

pub alias-is : (ks : List Known) (depth n : ℕ) (at : Site) (ts : List Lexeme) → run (alias ks depth n at) ts ≡ carry (run (typing ks 16 untyped) ts) (λ t rest. run (aliased ks depth n at t.qualifiers (base_of t.written)) rest)
unfolding alias
alias-is ks depth n at ts = refl

pub dimensions-snoc : (ds : List (Option Expr)) (d : Option Expr) → map maybe (ds ++ d ∷ []) ≡ map maybe ds ++ maybe d ∷ []
dimensions-snoc [] d = refl
dimensions-snoc (x ∷ ds) d = ap (λ r. maybe x ∷ r) (dimensions-snoc ds d)

pub declarators-snoc : (ds : List code_of.Declarator) (d : code_of.Declarator) → map declarator (ds ++ d ∷ []) ≡ map declarator ds ++ declarator d ∷ []
declarators-snoc [] d = refl
declarators-snoc (x ∷ ds) d = ap (λ r. declarator x ∷ r) (declarators-snoc ds d)

pub initials-snoc : (list : List code.Initial) (i : code.Initial) → initials (list ++ i ∷ []) ≡ with_last_value (initials list) (initial i)
initials-snoc [] i = refl
initials-snoc (x ∷ list) i = ap (and_then (initial x)) (initials-snoc list i)

pub ruleset declaration_steps = (stops-carry, specifying-none, specifying-less, dimension-is, dimensions-none, dimensions-less, shaped-is, shape-is, initial_value-none, initial_value-less, values-begin, initial-is, declarator-is, declarators-none, declarators-less, declarators-begin, declaration-is, alias-is, dimensions-snoc, declarators-snoc)
