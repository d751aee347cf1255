-- One step of each reader.
use Rattle.std.proofs.Common.{◌≡◌, ℕ, zero, suc, ◌-◌, List, true, false, cond, refl, ap, ◌∙◌, None, Some, arith}
use Rattle.texts.specs.Lexemes.{Lexeme}
use Rattle.texts.specs.ParseFaults.{Expected, TooDeep}
use Rattle.semantics.specs.Core.{Site}
use Rattle.texts.specs.Surface.{Expression, Expressions, InfixSign, Infix, Name, Element, Call}
use Rattle.parser.specs.Reader.{Reader, Attempt, Took, Refused, Gives, Fails, Looks, Passes, Then, carry, front, behind, run}
use Rattle.parser.specs.Expressions.{is_question, is_left_bracket, is_right_bracket, is_left_parenthesis, is_right_parenthesis, expects, kind_at, Room, opened, arguments, after_name, parenthesized, signed, infix_at, arms, chain, goes_on, longer, ranked, operand_at, Full, Within, inside, operand_reader, expression_reader}
use Rattle.parser.specs.Statements.{bracket}
use Rattle.parser.specs.View.{IsStopOf}
use Rattle.parser.specs.declared.stops.Stop.{Stop}
use Rattle.parser.specs.declared.stops.Stop.TheVariants as stops

pub stops-carry : {A B : Type 0} (e : Stop) (o : Attempt A) (next : A → List Lexeme → Attempt B) → IsStopOf e o → IsStopOf e (carry o next)
stops-carry (stops.Refused f rest) o next h = ap (λ o. carry o next) h
stops-carry stops.Memory o next h = h

pub expression-none : (room : ℕ) (ts : List Lexeme) → run (expression_reader room 0) ts ≡ Refused TooDeep ts
unfolding expression_reader
expression-none room ts = refl

pub expression-more : (room depth : ℕ) (ts : List Lexeme) → run (expression_reader room (suc depth)) ts ≡ carry (run (ranked (operand_reader room (suc depth)) (suc depth) 10) ts) (λ e rest. run (cond (is_question (front rest).kind) (Passes (arms (expression_reader room depth) (front rest).site e)) (Gives e)) rest)
unfolding expression_reader operand_reader
expression-more room depth ts = refl

pub operand-none : (room : ℕ) (ts : List Lexeme) → run (operand_reader room 0) ts ≡ Refused TooDeep ts
unfolding operand_reader
operand-none room ts = refl

pub operand-more : (room depth : ℕ) (ts : List Lexeme) → run (operand_reader room (suc depth)) ts ≡ run (operand_at (inside room) (operand_reader room depth) depth (front ts).site (front ts).kind) ts
unfolding operand_reader
operand-more room depth ts = refl

pub ranked-none : (operand : Reader Expression) (depth : ℕ) (ts : List Lexeme) → run (ranked operand depth 0) ts ≡ run operand ts
unfolding ranked
ranked-none operand depth ts = refl

pub ranked-more : (operand : Reader Expression) (depth rank : ℕ) (ts : List Lexeme) → run (ranked operand depth (suc rank)) ts ≡ carry (run (ranked operand depth rank) ts) (λ e rest. run (chain (ranked operand depth rank) (suc rank) depth e) rest)
unfolding ranked
ranked-more operand depth rank ts = refl

pub chain-ends : (operand : Reader Expression) (rank left : ℕ) (e : Expression) (ts : List Lexeme) → infix_at rank (front ts).kind ≡ None → run (chain operand rank left e) ts ≡ Took e ts
unfolding chain
chain-ends operand rank left e ts h = ap (λ o. run (goes_on (longer operand rank left e) e (front ts).site o) ts) h

pub chain-goes : (operand : Reader Expression) (rank left : ℕ) (e : Expression) (ts : List Lexeme) (sign : InfixSign) → infix_at rank (front ts).kind ≡ Some sign → run (chain operand rank left e) ts ≡ run (longer operand rank left e (front ts).site sign) ts
unfolding chain
chain-goes operand rank left e ts sign h = ap (λ o. run (goes_on (longer operand rank left e) e (front ts).site o) ts) h

pub inside-none : inside 0 ≡ Full
unfolding inside
inside-none = refl

pub inside-more : (room : ℕ) → inside (suc room) ≡ Within (expression_reader room)
unfolding inside expression_reader
inside-more room = refl

pub pred : (n : ℕ) → (n ≡ 0 → ⊥) → n ≡ suc (n - 1)
pred zero h = absurd (h refl)
pred (suc n) h = omega arith

pub inside-less : (room : ℕ) → (room ≡ 0 → ⊥) → inside room ≡ Within (expression_reader (room - 1))
inside-less room h = ap inside (pred room h) ∙ inside-more (room - 1)

pub longer-none : (operand : Reader Expression) (rank left : ℕ) (e : Expression) (at : Site) (sign : InfixSign) (ts : List Lexeme) → left ≡ 0 → run (longer operand rank left e at sign) ts ≡ Refused TooDeep ts
longer-none operand rank left e at sign ts h = rw h refl

pub longer-more : (operand : Reader Expression) (rank left : ℕ) (e : Expression) (at : Site) (sign : InfixSign) (ts : List Lexeme) → (left ≡ 0 → ⊥) → run (longer operand rank left e at sign) ts ≡ carry (run operand (behind ts)) (λ r rest. run (chain operand rank (left - 1) (Infix at sign e r)) rest)
unfolding chain
longer-more operand rank left e at sign ts h = ap (λ n. run (longer operand rank n e at sign) ts) (pred left h)

pub name-call : (room depth : ℕ) (x : List ℕ) (at : Site) (ts rest : List Lexeme) (es : Expressions) → is_left_bracket (front ts).kind ≡ false → is_left_parenthesis (front ts).kind ≡ true → (room ≡ 0 → ⊥) → run (arguments (expression_reader (room - 1) depth)) (behind ts) ≡ Took es rest → run (after_name (inside room) depth x at (front ts).kind) ts ≡ Took (Call at x es) rest
name-call room depth x at ts rest es bracket parenthesis h taken =
    let called : Room → Reader Expression = λ inside. opened inside (λ within. Then (arguments (within depth)) (λ es. Gives (Call at x es))) in
    ap (λ b. run (cond b (opened (inside room) (λ within. Then (within depth) (λ i. Then (expects is_right_bracket) (λ closing. Gives (Element at x i))))) (cond (is_left_parenthesis (front ts).kind) (called (inside room)) (Gives (Name at x)))) ts) bracket
    ∙ ap (λ b. run (cond b (called (inside room)) (Gives (Name at x))) ts) parenthesis
    ∙ ap (λ inside. run (called inside) ts) (inside-less room h)
    ∙ ap (λ o. carry o (λ es rest. Took (Call at x es) rest)) taken

abbrev in_parentheses : Reader Expression → Reader Expression
in_parentheses reader = Then reader (λ e. Then (expects is_right_parenthesis) (λ closing. Gives e))

pub parentheses-inner : (deeper : Reader Expression) (room depth : ℕ) (at : Site) (ts : List Lexeme) → is_left_parenthesis (front ts).kind ≡ true → (room ≡ 0 → ⊥) → kind_at (front (behind ts)).kind ≡ None → run (signed (inside room) deeper depth at None (front ts).kind) ts ≡ run (in_parentheses (expression_reader (room - 1) (suc depth))) (behind ts)
parentheses-inner deeper room depth at ts parenthesis h none =
    let opens : Room → Reader Expression = λ inside. opened inside (λ within. Looks (λ t. parenthesized deeper (within (suc depth)) at (kind_at t.kind))) in
    ap (λ b. run (cond b (opens (inside room)) (Fails Expected)) ts) parenthesis
    ∙ ap (λ inside. run (opens inside) ts) (inside-less room h)
    ∙ ap (λ k. run (parenthesized deeper (expression_reader (room - 1) (suc depth)) at k) (behind ts)) none

pub ruleset steps = (stops-carry, expression-none, expression-more, operand-none, operand-more, ranked-none, ranked-more, inside-none, inside-less, longer-none, longer-more, chain-ends, chain-goes)

pub bracket-less : {A : Type 0} (room : ℕ) (next : ℕ → Reader A) → (room ≡ 0 → ⊥) → bracket room next ≡ Passes (next (room - 1))
bracket-less room next h = ap (λ n. bracket n next) (pred room h)

pub ruleset part_steps = (stops-carry, bracket-less)
