-- How expressions are read. `depth` is how many levels of the tree are left, `inside` how to read within one more bracket, where one
-- may be opened.
use Rattle.std.specs.Prelude.{ℕ, zero, suc, List, Bool, true, false, cond, nat_eq, Option, Some, None}
use Rattle.semantics.specs.Word.{Kind}
use Rattle.semantics.specs.Core.{Site}
use Rattle.texts.specs.Signs.{LeftParenthesis, RightParenthesis, LeftBracket, RightBracket, Comma, Question, Colon}
use Rattle.texts.specs.Tokens as token
use Rattle.texts.specs.Tokens.{TokenKind}
use Rattle.texts.specs.Lexemes.{infix_of, prefix_of, kind_of}
use Rattle.texts.specs.ParseFaults.{Expected, TooDeep, TooMany}
use Rattle.texts.specs.Surface.{Expression, InfixSign, Number, Name, Element, Call, Prefix, Cast, Infix, Conditional, Expressions, nothing, also, PrefixSign}
use Rattle.parser.specs.Reader.{Reader, Gives, Fails, Looks, Passes, Then}

-- signs that stand by themselves
abbrev pub is_left_parenthesis : TokenKind → Bool
is_left_parenthesis (token.Mark LeftParenthesis) = true
is_left_parenthesis kind = false

abbrev pub is_right_parenthesis : TokenKind → Bool
is_right_parenthesis (token.Mark RightParenthesis) = true
is_right_parenthesis kind = false

abbrev pub is_left_bracket : TokenKind → Bool
is_left_bracket (token.Mark LeftBracket) = true
is_left_bracket kind = false

abbrev pub is_right_bracket : TokenKind → Bool
is_right_bracket (token.Mark RightBracket) = true
is_right_bracket kind = false

abbrev pub is_comma : TokenKind → Bool
is_comma (token.Mark Comma) = true
is_comma kind = false

abbrev pub is_question : TokenKind → Bool
is_question (token.Mark Question) = true
is_question kind = false

abbrev pub is_colon : TokenKind → Bool
is_colon (token.Mark Colon) = true
is_colon kind = false

-- passes over the lexeme that is due
abbrev pub expects : (TokenKind → Bool) → Reader Site
expects is_due = Looks (λ t. cond (is_due t.kind) (Passes (Gives t.site)) (Fails Expected))

-- the sign between operands that a lexeme of this rank is
abbrev pub of_rank : ℕ → Option (ℕ × InfixSign) → Option InfixSign
of_rank rank None = None
of_rank rank (Some entry) = cond (nat_eq entry.0 rank) (Some entry.1) None

abbrev pub infix_at : ℕ → TokenKind → Option InfixSign
infix_at rank (token.Mark s) = of_rank rank (infix_of s)
infix_at rank kind = None

abbrev pub goes_on : (more : Site → InfixSign → Reader Expression) → Expression → Site → Option InfixSign → Reader Expression
goes_on more e at None = Gives e
goes_on more e at (Some sign) = more at sign

-- from a sign after a left operand on, `left` times at most
abbrev pub longer : (operand : Reader Expression) (rank left : ℕ) → Expression → Site → InfixSign → Reader Expression
longer operand rank zero e at sign = Fails TooDeep
longer operand rank (suc left) e at sign =
    Passes (Then operand (λ r. Looks (λ t. goes_on (longer operand rank left (Infix at sign e r)) (Infix at sign e r) t.site (infix_at rank t.kind))))

-- after a left operand
unfoldable pub chain : (operand : Reader Expression) (rank left : ℕ) → Expression → Reader Expression
chain operand rank left e = Looks (λ t. goes_on (longer operand rank left e) e t.site (infix_at rank t.kind))

unfoldable pub ranked : (operand : Reader Expression) (depth rank : ℕ) → Reader Expression
ranked operand depth zero = operand
ranked operand depth (suc rank) = Then (ranked operand depth rank) (λ e. chain (ranked operand depth rank) (suc rank) depth e)

-- after the operand of a `?`
abbrev pub arms : (deeper : Reader Expression) → Site → Expression → Reader Expression
arms deeper at e = Then deeper (λ a. Then (expects is_colon) (λ colon. Then deeper (λ b. Gives (Conditional at e a b))))

abbrev pub whole : (operand deeper : Reader Expression) (depth : ℕ) → Reader Expression
whole operand deeper depth = Then (ranked operand depth 10) (λ e. Looks (λ t. cond (is_question t.kind) (Passes (arms deeper t.site e)) (Gives e)))

pub record Readers : Type 1 where
  pub operand : Reader Expression
  pub expression : Reader Expression

-- how many arguments are read: more than a text within its limit can hold
abbrev pub most_arguments : ℕ
most_arguments = 65536

abbrev pub argument : (expression : Reader Expression) (others : Reader Expressions) → Reader Expressions
argument expression others = Then expression (λ e. Then others (λ es. Gives (also e es)))

unfoldable pub more_arguments : (expression : Reader Expression) (left : ℕ) → Reader Expressions
more_arguments expression zero = Fails TooMany
more_arguments expression (suc left) = Looks (λ t. cond (is_comma t.kind) (Passes (argument expression (more_arguments expression left))) (Then (expects is_right_parenthesis) (λ closing. Gives nothing)))

unfoldable pub arguments : (expression : Reader Expression) → Reader Expressions
arguments expression = Looks (λ t. cond (is_right_parenthesis t.kind) (Passes (Gives nothing)) (argument expression (more_arguments expression most_arguments)))

-- how to read within one more bracket, where one may be opened
pub data Room : Type 1 where
  Full : Room
  Within : (expression : (depth : ℕ) → Reader Expression) → Room

-- over an opening bracket
abbrev pub opened : {A : Type 0} → Room → (((depth : ℕ) → Reader Expression) → Reader A) → Reader A
opened Full next = Fails TooDeep
opened (Within expression) next = Passes (next expression)

-- the kind that a lexeme names
abbrev pub kind_at : TokenKind → Option Kind
kind_at (token.Word w) = kind_of w
kind_at kind = None

abbrev pub parenthesized : (deeper : Reader Expression) (inner : Reader Expression) → Site → Option Kind → Reader Expression
parenthesized deeper inner at (Some kind) = Passes (Then (expects is_right_parenthesis) (λ closing. Then deeper (λ e. Gives (Cast at kind e))))
parenthesized deeper inner at None = Then inner (λ e. Then (expects is_right_parenthesis) (λ closing. Gives e))

abbrev pub after_name : (inside : Room) (depth : ℕ) → List ℕ → Site → TokenKind → Reader Expression
after_name inside depth x at kind =
    cond (is_left_bracket kind) (opened inside (λ within. Then (within depth) (λ i. Then (expects is_right_bracket) (λ closing. Gives (Element at x i))))) (
    cond (is_left_parenthesis kind) (opened inside (λ within. Then (arguments (within depth)) (λ es. Gives (Call at x es)))) (Gives (Name at x)))

abbrev pub signed : (inside : Room) (deeper : Reader Expression) (depth : ℕ) → Site → Option PrefixSign → TokenKind → Reader Expression
signed inside deeper depth at (Some sign) kind = Passes (Then deeper (λ e. Gives (Prefix at sign e)))
signed inside deeper depth at None kind =
    cond (is_left_parenthesis kind) (opened inside (λ within. Looks (λ t. parenthesized deeper (within (suc depth)) at (kind_at t.kind)))) (Fails Expected)

abbrev pub operand_at : (inside : Room) (deeper : Reader Expression) (depth : ℕ) → Site → TokenKind → Reader Expression
operand_at inside deeper depth at (token.Number n) = Passes (Gives (Number at n.kind n.value))
operand_at inside deeper depth at (token.Name x) = Passes (Looks (λ t. after_name inside depth x at t.kind))
operand_at inside deeper depth at (token.Mark s) = signed inside deeper depth at (prefix_of s) (token.Mark s)
operand_at inside deeper depth at kind = Fails Expected

abbrev pub tower : (inside : Room) (depth : ℕ) → Readers
tower inside zero = record { operand = Fails TooDeep; expression = Fails TooDeep }
tower inside (suc depth) =
    let operand = Looks (λ t. operand_at inside (tower inside depth).operand depth t.site t.kind) in
    record { operand = operand; expression = whole operand (tower inside depth).expression (suc depth) }

-- within one bracket more
unfoldable pub inside : (room : ℕ) → Room
inside zero = Full
inside (suc room) = Within (λ depth. (tower (inside room) depth).expression)

unfoldable pub operand_reader : (room depth : ℕ) → Reader Expression
operand_reader room depth = (tower (inside room) depth).operand

unfoldable pub expression_reader : (room depth : ℕ) → Reader Expression
expression_reader room depth = (tower (inside room) depth).expression
