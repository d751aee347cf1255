-- Tests of lexemes, taken back.
use Rattle.std.proofs.Common.{◌≡◌, true, List, ◌∷◌, refl}
use Rattle.std.proofs.lemmas.Bool.{false≢true}
use Rattle.texts.specs.Signs.{LeftParenthesis, RightParenthesis, LeftBracket, RightBracket, Comma, Question, Colon}
use Rattle.texts.specs.Tokens.{TokenKind, Mark}
use Rattle.texts.specs.Lexemes.{Lexeme, mark}
use Rattle.parser.specs.Reader.{front, behind}
use Rattle.parser.specs.Expressions.{is_left_parenthesis, is_right_parenthesis, is_left_bracket, is_right_bracket, is_comma, is_question, is_colon}
use Rattle.parser.proofs.Inversion.{front-is}

pub left_parenthesis-kind : (kind : TokenKind) → is_left_parenthesis kind ≡ true → kind ≡ Mark LeftParenthesis
left_parenthesis-kind (Mark LeftParenthesis) h = refl
left_parenthesis-kind kind h = absurd (false≢true h)

pub right_parenthesis-kind : (kind : TokenKind) → is_right_parenthesis kind ≡ true → kind ≡ Mark RightParenthesis
right_parenthesis-kind (Mark RightParenthesis) h = refl
right_parenthesis-kind kind h = absurd (false≢true h)

left_bracket-kind : (kind : TokenKind) → is_left_bracket kind ≡ true → kind ≡ Mark LeftBracket
left_bracket-kind (Mark LeftBracket) h = refl
left_bracket-kind kind h = absurd (false≢true h)

pub right_bracket-kind : (kind : TokenKind) → is_right_bracket kind ≡ true → kind ≡ Mark RightBracket
right_bracket-kind (Mark RightBracket) h = refl
right_bracket-kind kind h = absurd (false≢true h)

pub comma-kind : (kind : TokenKind) → is_comma kind ≡ true → kind ≡ Mark Comma
comma-kind (Mark Comma) h = refl
comma-kind kind h = absurd (false≢true h)

question-kind : (kind : TokenKind) → is_question kind ≡ true → kind ≡ Mark Question
question-kind (Mark Question) h = refl
question-kind kind h = absurd (false≢true h)

colon-kind : (kind : TokenKind) → is_colon kind ≡ true → kind ≡ Mark Colon
colon-kind (Mark Colon) h = refl
colon-kind kind h = absurd (false≢true h)

pub left_parenthesis : (ts : List Lexeme) → is_left_parenthesis (front ts).kind ≡ true → ts ≡ mark LeftParenthesis (front ts).site ∷ behind ts
left_parenthesis ts h = front-is ts (Mark LeftParenthesis) refl (left_parenthesis-kind (front ts).kind h)

pub right_parenthesis : (ts : List Lexeme) → is_right_parenthesis (front ts).kind ≡ true → ts ≡ mark RightParenthesis (front ts).site ∷ behind ts
right_parenthesis ts h = front-is ts (Mark RightParenthesis) refl (right_parenthesis-kind (front ts).kind h)

pub left_bracket : (ts : List Lexeme) → is_left_bracket (front ts).kind ≡ true → ts ≡ mark LeftBracket (front ts).site ∷ behind ts
left_bracket ts h = front-is ts (Mark LeftBracket) refl (left_bracket-kind (front ts).kind h)

pub right_bracket : (ts : List Lexeme) → is_right_bracket (front ts).kind ≡ true → ts ≡ mark RightBracket (front ts).site ∷ behind ts
right_bracket ts h = front-is ts (Mark RightBracket) refl (right_bracket-kind (front ts).kind h)

pub comma : (ts : List Lexeme) → is_comma (front ts).kind ≡ true → ts ≡ mark Comma (front ts).site ∷ behind ts
comma ts h = front-is ts (Mark Comma) refl (comma-kind (front ts).kind h)

pub question : (ts : List Lexeme) → is_question (front ts).kind ≡ true → ts ≡ mark Question (front ts).site ∷ behind ts
question ts h = front-is ts (Mark Question) refl (question-kind (front ts).kind h)

pub colon : (ts : List Lexeme) → is_colon (front ts).kind ≡ true → ts ≡ mark Colon (front ts).site ∷ behind ts
colon ts h = front-is ts (Mark Colon) refl (colon-kind (front ts).kind h)
