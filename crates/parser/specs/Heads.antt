-- What the code has of a `for` and of an `if`, as the definitions have it.
use Rattle.std.specs.Prelude.{ℕ, ◌+◌, Bool}
use Rattle.semantics.specs.Core.{Site}
use Rattle.texts.specs.Surface.{Statement, If, For, Statements}
use Rattle.texts.specs.Tokens.{TokenKind}
use Rattle.syntax.specs.View.{expression, assignment, first}
use Rattle.parser.specs.Reader.{Reader, Gives, Then}
use Rattle.parser.specs.Expressions.{expects}
use Rattle.parser.specs.Statements as reads
use Rattle.parser.specs.declared.parts.Head.{Head}

abbrev pub head : Head → reads.Head
head h = record { first = first h.first; test = expression h.test; update = assignment h.update }

-- what is read up to and with a sign
unfoldable pub ended : {A : Type 0} → Reader A → (TokenKind → Bool) → Reader A
ended reader is_due = Then reader (λ a. Then (expects is_due) (λ sign. Gives a))

-- behind `if` and behind `for`, as `statement_by` has them
abbrev pub choice_reader : (body : (room n : ℕ) → Reader (Statements × ℕ)) → (room depth n : ℕ) → Site → Reader (Statement × ℕ)
choice_reader body room depth n at = Then (reads.tested room depth) (λ e. Then (body room (n + 1)) (λ a. Then (reads.else_reader body room a.1) (λ b. Gives (If n at e a.0 b.0, b.1))))

abbrev pub counting_reader : (body : (room n : ℕ) → Reader (Statements × ℕ)) → (room depth n : ℕ) → Site → Reader (Statement × ℕ)
counting_reader body room depth n at = Then (reads.head_reader room depth (n + 1)) (λ h. Then (body room (n + 3)) (λ b. Gives (For n at h.first h.test h.update b.0, b.1)))
