-- How what is in the grammar begins, and what fits of it fits its parts.
use Rattle.std.proofs.Common.{◌≡◌, ◌≤◌, ◌<◌, ℕ, suc, Bool, true, false, nat_lt, nat_eq, cond, Option, Some, None, List, lt-ltb, refl, ap, sym, ◌∙◌, arith}
use Rattle.std.proofs.lemmas.Bool.Decides.{Decides-eqb}
use Rattle.semantics.specs.Core.{Site}
use Rattle.texts.specs.Signs as signs
use Rattle.texts.specs.Signs.{Sign}
use Rattle.texts.specs.Tokens as token
use Rattle.texts.specs.Tokens.{TokenKind}
use Rattle.texts.specs.Lexemes.{Lexeme, infix_of, prefix_of}
use Rattle.texts.specs.Surface.{Expression, InfixSign, PrefixSign, Statement}
use Rattle.texts.specs.Limits.{either}
use Rattle.texts.specs.Limits.{past, deep_expression, deep_statement}
use Rattle.texts.specs.Grammar as rules
use Rattle.texts.specs.Grammar.{IsExpression, IsRank, IsOperand}
use Rattle.parser.specs.Reader.{front}
use Rattle.parser.specs.Expressions.{is_left_parenthesis, is_right_parenthesis, is_left_bracket, is_question, of_rank, infix_at, kind_at}
use Rattle.parser.proofs.Options.{none-some, not-some}
use Rattle.parser.proofs.Depths.{expression-here, statement-here}

-- no operand goes on here, and no chain of signs up to this rank
abbrev pub Ends : (kind : TokenKind) → Type 0
Ends kind = (is_left_parenthesis kind ≡ false) × (is_left_bracket kind ≡ false)

abbrev pub Stops : (rank : ℕ) (kind : TokenKind) → Type 0
Stops rank kind = ((r : ℕ) → r ≤ rank → infix_at r kind ≡ None) × Ends kind

-- nor any expression
abbrev pub Closes : (kind : TokenKind) → Type 0
Closes kind = Stops 10 kind × (is_question kind ≡ false)

pub lower : (rank : ℕ) (kind : TokenKind) → Stops (suc rank) kind → Stops rank kind
lower rank kind h = ((λ r le. h.0 r (omega (arith, le))), h.1)

-- a sign between operands is not of a lower rank
other-rank : (r : ℕ) (entry : ℕ × InfixSign) → r < entry.0 → of_rank r (Some entry) ≡ None
other-rank r entry lt = by (nat_eq entry.0 r) refl
  where
    by : (b : Bool) → nat_eq entry.0 r ≡ b → cond b (Some entry.1) None ≡ None
    by false q = refl
    by true q = absurd (let e : entry.0 ≡ r = (Decides-eqb entry.0 r).0 q in omega (arith, e, lt))

no-bracket : (s : Sign) (entry : ℕ × InfixSign) → infix_of s ≡ Some entry → Ends (token.Mark s)
no-bracket signs.LeftParenthesis entry h = absurd (none-some entry h)
no-bracket signs.LeftBracket entry h = absurd (none-some entry h)
no-bracket s entry h = (refl, refl)

pub sign-stops : (s : Sign) (rank : ℕ) (sign : InfixSign) → infix_of s ≡ Some (suc rank, sign) → Stops rank (token.Mark s)
sign-stops s rank sign h = ((λ r le. ap (of_rank r) h ∙ other-rank r (suc rank, sign) (omega (arith, le))), no-bracket s (suc rank, sign) h)

pub its-rank : (s : Sign) (rank : ℕ) (sign : InfixSign) → infix_of s ≡ Some (rank, sign) → infix_at rank (token.Mark s) ≡ Some sign
its-rank s rank sign h = ap (of_rank rank) h ∙ ap (λ b. cond b (Some sign) None) ((Decides-eqb rank rank).1 refl)

-- an expression begins with no type and no `)`
abbrev pub Begins : TokenKind → Type 0
Begins kind = (kind_at kind ≡ None) × (is_right_parenthesis kind ≡ false)

prefix-begins : (s : Sign) (sign : PrefixSign) → prefix_of s ≡ Some sign → Begins (token.Mark s)
prefix-begins signs.RightParenthesis sign h = absurd (none-some sign h)
prefix-begins s sign h = (refl, refl)

operand-begins : {room : ℕ} {ts rest : List Lexeme} {e : Expression} → IsOperand room ts e rest → Begins (front ts).kind
operand-begins (rules.prefixed s sign at found h) = prefix-begins s sign found
operand-begins (rules.cast w kind at in_it end found h) = (refl, refl)
operand-begins (rules.literal n at) = (refl, refl)
operand-begins (rules.variable x at) = (refl, refl)
operand-begins (rules.element x at opening closing h) = (refl, refl)
operand-begins (rules.call x at opening h) = (refl, refl)
operand-begins (rules.parentheses at closing h) = (refl, refl)

rank-begins : {room rank : ℕ} {ts rest : List Lexeme} {e : Expression} → IsRank room rank ts e rest → Begins (front ts).kind
rank-begins (rules.operand h) = operand-begins h
rank-begins (rules.tighter h) = rank-begins h
rank-begins (rules.infixed s sign at found h k) = rank-begins h

pub expression-begins : {room : ℕ} {ts rest : List Lexeme} {e : Expression} → IsExpression room ts e rest → Begins (front ts).kind
expression-begins (rules.plain h) = rank-begins h
expression-begins (rules.conditional at colon h a b) = rank-begins h

-- within 32 levels, and so is what is in it
pub inner : (d : ℕ) (site : Site) (o : Option Site) → past d site o ≡ None → o ≡ None
inner d site o h = by (nat_lt 32 d) h
  where
    by : (b : Bool) → cond b (Some site) o ≡ None → o ≡ None
    by true h = absurd (not-some site h)
    by false h = h

pub parts : (a b : Option Site) → either a b ≡ None → (a ≡ None) × (b ≡ None)
parts None b h = (refl, h)
parts (Some a) b h = absurd (not-some a h)

pub too-deep : (d : ℕ) (e : Expression) → 33 ≤ d → deep_expression d e ≡ None → ⊥
too-deep d e le h = not-some _ (sym (expression-here d e (lt-ltb 32 d (omega (arith, le)))) ∙ h)

pub too-deep-statement : (d : ℕ) (s : Statement) → 33 ≤ d → deep_statement d s ≡ None → ⊥
too-deep-statement d s le h = not-some _ (sym (statement-here d s (lt-ltb 32 d (omega (arith, le)))) ∙ h)
