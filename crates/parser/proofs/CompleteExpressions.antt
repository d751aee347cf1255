-- Each expression of the grammar is read, or a limit is passed: it opens more brackets than the reader may, is deeper than the levels left,
-- or longer than a text.
use Rattle.std.proofs.Common.{◌≡◌, ◌≤◌, ℕ, zero, suc, ◌+◌, false, Option, None, List, ◌∷◌, length, refl, arith}
use Rattle.semantics.specs.Core.{Site}
use Rattle.texts.specs.Signs as signs
use Rattle.texts.specs.Signs.{Sign}
use Rattle.texts.specs.Tokens as token
use Rattle.texts.specs.Tokens.{TokenKind}
use Rattle.texts.specs.Lexemes.{Lexeme, mark}
use Rattle.texts.specs.Ended.{IsShort}
use Rattle.texts.specs.Surface.{Expression, Expressions, nothing}
use Rattle.texts.specs.Limits.{deep_expression, deep_arguments}
use Rattle.texts.specs.Grammar as rules
use Rattle.texts.specs.Grammar.{IsExpression, IsRank, IsOperand, IsArguments, IsMore}
use Rattle.parser.specs.Reader.{Reader, front}
use Rattle.parser.specs.Expressions.{is_right_parenthesis, is_question, ranked, argument, more_arguments, arguments, operand_reader, expression_reader}
use Rattle.parser.proofs.Answers.{Answers, gives, refuses-many, looks, passes, sure, both, if-false}
use Rattle.parser.proofs.Later.{Later, past, stays, later-length, expression-later, rank-later}
use Rattle.parser.proofs.Beginnings.{Ends, Stops, Closes, lower, sign-stops, expression-begins, inner, parts, too-deep}
use Rattle.parser.proofs.ReadSteps.{no-level, no-operand-level, expression-step, prefix-step, literal-step, variable-step, no-index, no-call, no-parenthesis, index-step, call-step, parentheses-step, cast-step}
use Rattle.parser.proofs.Chains.{Reached, rank-zero, begun, ended, joined}

-- what the grammar has with so much room is within what may be opened, and no node is too deep
abbrev pub Shallow : (had room : ℕ) → Option Site → Type 0
Shallow had room deep = (had ≤ room) × (deep ≡ None)

pub shorter : {ts us : List Lexeme} → Later ts us → IsShort ts → IsShort us
shorter h le = omega (arith, later-length h, le)

pub semicolon_closes : Closes (token.Mark signs.Semicolon)
semicolon_closes = (((λ r le. refl), (refl, refl)), refl)

pub parenthesis_closes : Closes (token.Mark signs.RightParenthesis)
parenthesis_closes = (((λ r le. refl), (refl, refl)), refl)

pub bracket_closes : Closes (token.Mark signs.RightBracket)
bracket_closes = (((λ r le. refl), (refl, refl)), refl)

comma_closes : Closes (token.Mark signs.Comma)
comma_closes = (((λ r le. refl), (refl, refl)), refl)

pub colon_closes : Closes (token.Mark signs.Colon)
colon_closes = (((λ r le. refl), (refl, refl)), refl)

pub question_stops : Stops 10 (token.Mark signs.Question)
question_stops = ((λ r le. refl), (refl, refl))

pub more-closes : {room : ℕ} {ts rest : List Lexeme} {es : Expressions} → IsMore room ts es rest → Closes (front ts).kind
more-closes (rules.last closing) = parenthesis_closes
more-closes (rules.more comma h k) = comma_closes

-- arguments, as many as are left
no-argument : (reader : Reader Expression) {rest : List Lexeme} {deep many : Type 0} (closing : Site) → Answers (arguments reader) (mark signs.RightParenthesis closing ∷ rest) nothing rest deep many
unfolding arguments
no-argument reader closing = looks (passes gives)

some-argument : (reader : Reader Expression) {ts rest : List Lexeme} {es : Expressions} {deep many : Type 0} → is_right_parenthesis (front ts).kind ≡ false → Answers (argument reader (more_arguments reader 65536)) ts es rest deep many → Answers (arguments reader) ts es rest deep many
unfolding arguments
some-argument reader {ts = ts} other h = looks (if-false (is_right_parenthesis (front ts).kind) _ _ other h)

none-left : (reader : Reader Expression) {ts rest : List Lexeme} {es : Expressions} {deep many : Type 0} → (many → ⊥) → Answers (more_arguments reader zero) ts es rest deep many
unfolding more_arguments
none-left reader n = refuses-many n

last-argument : (reader : Reader Expression) (left : ℕ) {rest : List Lexeme} {deep many : Type 0} (closing : Site) → Answers (more_arguments reader (suc left)) (mark signs.RightParenthesis closing ∷ rest) nothing rest deep many
unfolding more_arguments
last-argument reader left closing = looks (sure refl gives)

next-argument : (reader : Reader Expression) (left : ℕ) {ts rest : List Lexeme} {es : Expressions} {deep many : Type 0} (comma : Site) → Answers (argument reader (more_arguments reader left)) ts es rest deep many → Answers (more_arguments reader (suc left)) (mark signs.Comma comma ∷ ts) es rest deep many
unfolding more_arguments
next-argument reader left comma h = looks (passes h)

mutual
  pub expression-complete : {had : ℕ} {ts rest : List Lexeme} {e : Expression} → IsExpression had ts e rest → Closes (front rest).kind → (room depth d : ℕ) → 33 ≤ depth + d → Answers (expression_reader room depth) ts e rest (Shallow had room (deep_expression d e)) (IsShort ts)
  expression-complete {e = e} h closes room zero d le = no-level room (λ f. too-deep d e (omega (arith, le)) f.1)
  expression-complete {rest = rest} (rules.plain h) closes room (suc depth) d le =
      expression-step room depth (both (rank-complete h closes.0 room (suc depth) d le) (λ f. f) (λ f. f) (looks (if-false (is_question (front rest).kind) _ _ closes.1 gives)))
  expression-complete (rules.conditional at colon h a b) closes room (suc depth) d le =
      expression-step room depth (both (rank-complete h question_stops room (suc depth) (d + 1) (omega (arith, le))) (λ f. (f.0, (parts _ _ (inner d at _ f.1)).0)) (λ f. f)
      (looks (passes (both (expression-complete a colon_closes room depth (d + 1) (omega (arith, le))) (λ f. (f.0, (parts _ _ (parts _ _ (inner d at _ f.1)).1).0)) (λ f. shorter (past refl (rank-later h) stays) f)
      (sure refl (both (expression-complete b closes room depth (d + 1) (omega (arith, le))) (λ f. (f.0, (parts _ _ (parts _ _ (inner d at _ f.1)).1).1)) (λ f. shorter (past refl (rank-later h) (past refl (expression-later a) stays)) f) gives))))))

  rank-complete : {had rank : ℕ} {ts rest : List Lexeme} {e : Expression} → IsRank had rank ts e rest → Stops rank (front rest).kind → (room depth d : ℕ) → 33 ≤ depth + d → Answers (ranked (operand_reader room depth) depth rank) ts e rest (Shallow had room (deep_expression d e)) (IsShort ts)
  rank-complete (rules.operand h) stops room depth d le = rank-zero (operand_reader room depth) depth (operand-complete h stops.1 room depth d le)
  rank-complete {rest = rest} (rules.tighter {rank = rank} h) stops room depth d le =
      ended (operand_reader room depth) depth rank (stops.0 (suc rank) (omega arith)) (begun (operand_reader room depth) depth rank (rank-complete h (lower rank (front rest).kind stops) room depth d le))
  rank-complete {rest = rest} (rules.infixed {rank = rank} s sign at found h k) stops room depth d le =
      ended (operand_reader room depth) depth rank (stops.0 (suc rank) (omega arith))
      (joined (operand_reader room depth) depth rank d s sign at found le (λ f. (f.0, (parts _ _ (inner d at _ f.1)).0)) (λ f. f) (λ f. (f.0, (parts _ _ (inner d at _ f.1)).1)) (λ f. shorter (past refl (rank-later h) stays) f) (λ f. f.1)
      (reach h (sign-stops s rank sign found) room depth (d + 1) (omega (arith, le))) (rank-complete k (lower rank (front rest).kind stops) room depth (d + 1) (omega (arith, le))))

  -- up to where the next sign of the rank may stand
  reach : {had rank : ℕ} {ts rest : List Lexeme} {e : Expression} → IsRank had (suc rank) ts e rest → Stops rank (front rest).kind → (room depth d : ℕ) → 33 ≤ depth + d → Reached (operand_reader room depth) depth rank ts e rest (Shallow had room (deep_expression d e)) (IsShort ts)
  reach (rules.tighter {rank = rank} h) stops room depth d le = begun (operand_reader room depth) depth rank (rank-complete h stops room depth d le)
  reach (rules.infixed {rank = rank} s sign at found h k) stops room depth d le =
      joined (operand_reader room depth) depth rank d s sign at found le (λ f. (f.0, (parts _ _ (inner d at _ f.1)).0)) (λ f. f) (λ f. (f.0, (parts _ _ (inner d at _ f.1)).1)) (λ f. shorter (past refl (rank-later h) stays) f) (λ f. f.1)
      (reach h (sign-stops s rank sign found) room depth (d + 1) (omega (arith, le))) (rank-complete k stops room depth (d + 1) (omega (arith, le)))

  operand-complete : {had : ℕ} {ts rest : List Lexeme} {e : Expression} → IsOperand had ts e rest → Ends (front rest).kind → (room depth d : ℕ) → 33 ≤ depth + d → Answers (operand_reader room depth) ts e rest (Shallow had room (deep_expression d e)) (IsShort ts)
  operand-complete {e = e} h ends room zero d le = no-operand-level room (λ f. too-deep d e (omega (arith, le)) f.1)
  operand-complete (rules.prefixed s sign at found h) ends room (suc depth) d le =
      prefix-step room depth s sign at found (both (operand-complete h ends room depth (d + 1) (omega (arith, le))) (λ f. (f.0, inner d at _ f.1)) (λ f. omega (arith, f)) gives)
  operand-complete (rules.cast w kind at in_it end found h) ends zero (suc depth) d le = no-parenthesis depth at (λ f. omega (arith, f.0))
  operand-complete (rules.cast w kind at in_it end found h) ends (suc room) (suc depth) d le =
      cast-step room depth w kind at in_it end found (both (operand-complete h ends (suc room) depth (d + 1) (omega (arith, le))) (λ f. (f.0, inner d at _ f.1)) (λ f. omega (arith, f)) gives)
  operand-complete (rules.literal n at) ends room (suc depth) d le = literal-step room depth n at
  operand-complete (rules.variable x at) ends room (suc depth) d le = variable-step room depth x at ends
  operand-complete (rules.element x at opening closing h) ends zero (suc depth) d le = no-index depth x at opening (λ f. omega (arith, f.0))
  operand-complete (rules.element x at opening closing h) ends (suc room) (suc depth) d le =
      index-step room depth x at opening (both (expression-complete h bracket_closes room depth (d + 1) (omega (arith, le))) (λ f. (omega (arith, f.0), inner d at _ f.1)) (λ f. omega (arith, f)) (sure refl gives))
  operand-complete (rules.call x at opening h) ends zero (suc depth) d le = no-call depth x at opening (λ f. omega (arith, f.0))
  operand-complete (rules.call x at opening h) ends (suc room) (suc depth) d le =
      call-step room depth x at opening (both (arguments-complete h room depth (d + 1) (omega (arith, le))) (λ f. (omega (arith, f.0), inner d at _ f.1)) (λ f. (omega (arith, f), omega (arith, f))) gives)
  operand-complete (rules.parentheses at closing h) ends zero (suc depth) d le = no-parenthesis depth at (λ f. omega (arith, f.0))
  operand-complete (rules.parentheses at closing h) ends (suc room) (suc depth) d le =
      parentheses-step room depth at (expression-begins h).0 (both (expression-complete h parenthesis_closes room (suc depth) d le) (λ f. (omega (arith, f.0), f.1)) (λ f. omega (arith, f)) (sure refl gives))

  arguments-complete : {had : ℕ} {ts rest : List Lexeme} {es : Expressions} → IsArguments had ts es rest → (room depth d : ℕ) → 33 ≤ depth + d → Answers (arguments (expression_reader room depth)) ts es rest (Shallow had room (deep_arguments d es)) (IsShort ts × (length ts ≤ 65536))
  arguments-complete (rules.empty closing) room depth d le = no-argument (expression_reader room depth) closing
  arguments-complete (rules.arguments h k) room depth d le =
      some-argument (expression_reader room depth) (expression-begins h).1
      (both (expression-complete h (more-closes k) room depth d le) (λ f. (f.0, (parts _ _ f.1).0)) (λ f. f.0)
      (both (more-complete k room depth d 65536 le) (λ f. (f.0, (parts _ _ f.1).1)) (λ f. (shorter (expression-later h) f.0, omega (arith, f.1, later-length (expression-later h)))) gives))

  more-complete : {had : ℕ} {ts rest : List Lexeme} {es : Expressions} → IsMore had ts es rest → (room depth d left : ℕ) → 33 ≤ depth + d → Answers (more_arguments (expression_reader room depth) left) ts es rest (Shallow had room (deep_arguments d es)) (IsShort ts × (length ts ≤ left))
  more-complete (rules.last closing) room depth d zero le = none-left (expression_reader room depth) (λ f. omega (arith, f.1))
  more-complete (rules.last closing) room depth d (suc left) le = last-argument (expression_reader room depth) left closing
  more-complete (rules.more comma h k) room depth d zero le = none-left (expression_reader room depth) (λ f. omega (arith, f.1))
  more-complete (rules.more comma h k) room depth d (suc left) le =
      next-argument (expression_reader room depth) left comma
      (both (expression-complete h (more-closes k) room depth d le) (λ f. (f.0, (parts _ _ f.1).0)) (λ f. omega (arith, f.0))
      (both (more-complete k room depth d left le) (λ f. (f.0, (parts _ _ f.1).1)) (λ f. (omega (arith, f.0, later-length (expression-later h)), omega (arith, f.1, later-length (expression-later h)))) gives))
