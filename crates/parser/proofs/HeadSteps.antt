-- What a `for` has in parentheses, part by part.
use Rattle.std.proofs.Common.{◌≡◌, ℕ, ◌+◌, List, Bool, refl}
use Rattle.semantics.specs.Core.{Site}
use Rattle.texts.specs.Lexemes.{Lexeme}
use Rattle.texts.specs.Tokens.{TokenKind}
use Rattle.texts.specs.Surface.{Expression, First}
use Rattle.parser.specs.Reader.{Reader, Attempt, Took, Refused, Gives, Then, carry, run}
use Rattle.parser.specs.Expressions.{expects, is_right_parenthesis, expression_reader}
use Rattle.parser.specs.Statements.{Head, is_semicolon, first_reader, assignment_reader, parts_reader}
use Rattle.parser.specs.Heads.{ended}
use Rattle.parser.proofs.Steps.{stops-carry}

over : {A B : Type 0} → (a : A) (sign : Attempt Site) (next : A → List Lexeme → Attempt B) → carry sign (λ s rest. next a rest) ≡ carry (carry sign (λ s rest. Took a rest)) next
over a (Took s rest) next = refl
over a (Refused f rest) next = refl

regroup : {A B : Type 0} → (o : Attempt A) (is_due : TokenKind → Bool) (next : A → List Lexeme → Attempt B) → carry o (λ a rest. carry (run (expects is_due) rest) (λ s rest. next a rest)) ≡ carry (carry o (λ a rest. carry (run (expects is_due) rest) (λ s rest. Took a rest))) next
regroup (Took a rest) is_due next = over a (run (expects is_due) rest) next
regroup (Refused f rest) is_due next = refl

ended-is : {A B : Type 0} → (reader : Reader A) (is_due : TokenKind → Bool) (next : A → Reader B) (ts : List Lexeme) → run (Then reader (λ a. Then (expects is_due) (λ s. next a))) ts ≡ carry (run (ended reader is_due) ts) (λ a rest. run (next a) rest)
unfolding ended
ended-is reader is_due next ts = regroup (run reader ts) is_due (λ a rest. run (next a) rest)

unfoldable pub updates : (room depth n : ℕ) → First → Expression → Reader Head
updates room depth n first e = Then (assignment_reader room depth (n + 1)) (λ update. Then (expects is_right_parenthesis) (λ closing. Gives (record { first = first; test = e; update = update })))

unfoldable pub tests : (room depth n : ℕ) → First → Reader Head
tests room depth n first = Then (expression_reader room depth) (λ e. Then (expects is_semicolon) (λ b. updates room depth n first e))

pub parts-are : (room depth n : ℕ) (ts : List Lexeme) → run (parts_reader room depth n) ts ≡ carry (run (ended (first_reader room depth n) is_semicolon) ts) (λ first rest. run (tests room depth n first) rest)
unfolding parts_reader tests updates
parts-are room depth n ts = ended-is (first_reader room depth n) is_semicolon (λ first. tests room depth n first) ts

pub tests-are : (room depth n : ℕ) (first : First) (ts : List Lexeme) → run (tests room depth n first) ts ≡ carry (run (ended (expression_reader room depth) is_semicolon) ts) (λ e rest. run (updates room depth n first e) rest)
unfolding tests
tests-are room depth n first ts = ended-is (expression_reader room depth) is_semicolon (λ e. updates room depth n first e) ts

pub updates-are : (room depth n : ℕ) (first : First) (e : Expression) (ts : List Lexeme) → run (updates room depth n first e) ts ≡ carry (run (ended (assignment_reader room depth (n + 1)) is_right_parenthesis) ts) (λ update rest. Took (record { first = first; test = e; update = update }) rest)
unfolding updates
updates-are room depth n first e ts = ended-is (assignment_reader room depth (n + 1)) is_right_parenthesis (λ update. Gives (record { first = first; test = e; update = update })) ts

pub ruleset head_steps = (stops-carry, parts-are, tests-are, updates-are)
