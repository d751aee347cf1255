-- How statements are read (C99 6.8): `ks` are the names that are types, `depth` is how many levels may stand below, `n` the number of the
-- next statement.
use Rattle.std.specs.Prelude.{ℕ, zero, suc, ◌+◌, List, [], ◌∷◌, ◌++◌, Bool, true, false, cond, nat_lt, ◌&&◌, ◌||◌, Option, None, Some}
use Rattle.semantics.specs.Core.{Site}
use Rattle.opencl_tokens.specs.Words as words
use Rattle.opencl_tokens.specs.Signs as signs
use Rattle.opencl_tokens.specs.Lexemes.{Lexeme, LexemeKind, Word, Mark}
use Rattle.opencl_tree.specs.Tree as tree
use Rattle.opencl_tree.specs.Tree.{Expression, First, FirstAbsent, FirstDeclares, FirstEvaluates, Statement, Declare, Typedef, Evaluate, If, While, Do, For, Switch, Case, Default, Break, Continue, Return, Block, Empty, Statements, none, one}
use Rattle.opencl_parser.specs.Faults.{Expected, TooDeep, TooMany, LeftOut, Goto, Label}
use Rattle.opencl_parser.specs.Reader.{Reader, Gives, Fails, Looks, Passes, Then, expects}
use Rattle.opencl_parser.specs.Signs.{is_left_parenthesis, is_right_parenthesis, is_colon}
use Rattle.opencl_parser.specs.TypeNames.{Known}
use Rattle.opencl_parser.specs.Expressions.{level}
use Rattle.opencl_parser.specs.Declarations.{is_left_brace, is_right_brace, starts_declaration, declaration, alias}

abbrev pub is_semicolon : LexemeKind → Bool
is_semicolon (Mark signs.Semicolon) = true
is_semicolon kind = false

abbrev pub is_while : LexemeKind → Bool
is_while (Word words.While) = true
is_while kind = false

abbrev pub is_else : LexemeKind → Bool
is_else (Word words.Else) = true
is_else kind = false

-- how many statements a function has at most
abbrev pub most_statements : ℕ
most_statements = 4096

-- an expression in parentheses
unfoldable pub tested : List Known → (depth : ℕ) → Reader Expression
tested ks depth =
    Then (expects is_left_parenthesis) (λ opening. Then (level ks depth 13) (λ e. Then (expects is_right_parenthesis) (λ closing. Gives e)))

-- an expression, or none, up to and with a sign
unfoldable pub optional : List Known → (depth : ℕ) → (LexemeKind → Bool) → Reader (Option Expression)
optional ks depth is_due =
    Looks (λ t. cond (is_due t.kind) (Passes (Gives None)) (Then (level ks depth 13) (λ e. Then (expects is_due) (λ sign. Gives (Some e)))))

-- the first part of a `for`, up to and with its semicolon
unfoldable pub first_declares : List Known → (depth n : ℕ) → Site → Reader First
first_declares ks depth n at = Then (declaration ks depth n at) (λ d. Then (expects is_semicolon) (λ sign. Gives (FirstDeclares d)))

abbrev pub first_of : Option Expression → First
first_of None = FirstAbsent
first_of (Some e) = FirstEvaluates e

unfoldable pub first_reader : List Known → (depth n : ℕ) → Reader First
first_reader ks depth n =
    Looks (λ t. cond (starts_declaration ks t.kind) (first_declares ks depth n t.site) (Then (optional ks depth is_semicolon) (λ e. Gives (first_of e))))

-- what a `for` has in parentheses
pub record Head : Type 0 where
  pub first : First
  pub test : Option Expression
  pub update : Option Expression

unfoldable pub head_reader : List Known → (depth n : ℕ) → Reader Head
head_reader ks depth n =
    Then (expects is_left_parenthesis) (λ opening. Then (first_reader ks depth n) (λ first. Then (optional ks depth is_semicolon) (λ test.
    Then (optional ks depth is_right_parenthesis) (λ update. Gives (record { first = first; test = test; update = update })))))

-- the parts of statements: a statement, what a loop or an `if` has as its part, and what stands up to a closing brace
pub record StatementReaders : Type 1 where
  pub statement : List Known → (n : ℕ) → Reader (Statement × ℕ)
  pub body : List Known → (n : ℕ) → Reader (Statements × ℕ)
  pub block : List Known → (n : ℕ) → Reader (Statements × ℕ)

abbrev pub else_reader : (body : (n : ℕ) → Reader (Statements × ℕ)) → (n : ℕ) → Reader (Statements × ℕ)
else_reader body n = Looks (λ t. cond (is_else t.kind) (Passes (body n)) (Gives (none, n)))

-- behind the words of statements
abbrev pub choice : (body : (n : ℕ) → Reader (Statements × ℕ)) → List Known → (depth n : ℕ) → Site → Reader (Statement × ℕ)
choice body ks depth n at =
    Then (tested ks depth) (λ e. Then (body (n + 1)) (λ a. Then (else_reader body a.1) (λ b. Gives (If n at e a.0 b.0, b.1))))

abbrev pub repeated : (body : (n : ℕ) → Reader (Statements × ℕ)) → List Known → (depth n : ℕ) → Site → Reader (Statement × ℕ)
repeated body ks depth n at = Then (tested ks depth) (λ e. Then (body (n + 1)) (λ b. Gives (While n at e b.0, b.1)))

abbrev pub selected : (body : (n : ℕ) → Reader (Statements × ℕ)) → List Known → (depth n : ℕ) → Site → Reader (Statement × ℕ)
selected body ks depth n at = Then (tested ks depth) (λ e. Then (body (n + 1)) (λ b. Gives (Switch n at e b.0, b.1)))

unfoldable pub until : List Known → (depth : ℕ) → Reader Expression
until ks depth = Then (expects is_while) (λ word. Then (tested ks depth) (λ e. Then (expects is_semicolon) (λ sign. Gives e)))

abbrev pub done : (body : (n : ℕ) → Reader (Statements × ℕ)) → List Known → (depth n : ℕ) → Site → Reader (Statement × ℕ)
done body ks depth n at = Then (body (n + 1)) (λ b. Then (until ks depth) (λ e. Gives (Do n at b.0 e, b.1)))

abbrev pub counting : (body : (n : ℕ) → Reader (Statements × ℕ)) → List Known → (depth n : ℕ) → Site → Reader (Statement × ℕ)
counting body ks depth n at =
    Then (head_reader ks depth (n + 1)) (λ h. Then (body (n + 3)) (λ b. Gives (For n at h.first h.test h.update b.0, b.1)))

unfoldable pub returned : List Known → (depth n : ℕ) → Site → Reader (Statement × ℕ)
returned ks depth n at = Then (optional ks depth is_semicolon) (λ e. Gives (Return n at e, n + 1))

unfoldable pub ended : (n : ℕ) → Statement → Reader (Statement × ℕ)
ended n s = Then (expects is_semicolon) (λ sign. Gives (s, n + 1))

abbrev pub is_name : Expression → Bool
is_name (tree.Name at x) = true
is_name e = false

-- a name with a colon is a label, which is left out
unfoldable pub evaluated : List Known → (depth n : ℕ) → Site → Reader (Statement × ℕ)
evaluated ks depth n at =
    Then (level ks depth 13) (λ e. Looks (λ t. cond (is_colon t.kind && is_name e) (Fails (LeftOut Label)) (ended n (Evaluate n at e))))

abbrev pub braces : (block : (n : ℕ) → Reader (Statements × ℕ)) → (n : ℕ) → Site → Reader (Statement × ℕ)
braces block n at = Then (block (n + 1)) (λ ss. Gives (Block n at ss.0, ss.1))

abbrev pub statement_by : (body block : (n : ℕ) → Reader (Statements × ℕ)) → List Known → (depth n : ℕ) → Site → LexemeKind →
    Reader (Statement × ℕ)
statement_by body block ks depth n at (Mark signs.LeftBrace) = Passes (braces block n at)
statement_by body block ks depth n at (Mark signs.Semicolon) = Passes (Gives (Empty n at, n + 1))
statement_by body block ks depth n at (Word words.If) = Passes (choice body ks depth n at)
statement_by body block ks depth n at (Word words.While) = Passes (repeated body ks depth n at)
statement_by body block ks depth n at (Word words.Do) = Passes (done body ks depth n at)
statement_by body block ks depth n at (Word words.For) = cond (nat_lt 4094 n) (Fails TooMany) (Passes (counting body ks depth n at))
statement_by body block ks depth n at (Word words.Switch) = Passes (selected body ks depth n at)
statement_by body block ks depth n at (Word words.Return) = Passes (returned ks depth n at)
statement_by body block ks depth n at (Word words.Break) = Passes (ended n (Break n at))
statement_by body block ks depth n at (Word words.Continue) = Passes (ended n (Continue n at))
statement_by body block ks depth n at (Word words.Goto) = Fails (LeftOut Goto)
statement_by body block ks depth n at kind = evaluated ks depth n at

-- a statement more than there may be is one too many; a `for` has two more statements in its head
abbrev pub counted : {A : Type 0} → (n : ℕ) → Reader A → Reader A
counted n reader = cond (nat_lt most_statements n) (Fails TooMany) reader

-- what stands in a block: a statement, a declaration, or the name of a type; with the number of what follows
pub record Item : Type 0 where
  pub statement : Statement
  pub next : ℕ
  pub made : Option Known

abbrev pub plain : Statement × ℕ → Item
plain s = record { statement = s.0; next = s.1; made = None }

-- a label stands at a statement (C99 6.8.1): neither at a closing brace nor at a declaration
unfoldable pub labelled : List Known → (n : ℕ) → Statement → Reader Item
labelled ks n s =
    Then (expects is_colon) (λ colon. Looks (λ t.
    cond (is_right_brace t.kind || starts_declaration ks t.kind) (Fails Expected) (Gives (plain (s, n + 1)))))

unfoldable pub case_reader : List Known → (depth n : ℕ) → Site → Reader Item
case_reader ks depth n at = Then (level ks depth 11) (λ e. labelled ks n (Case n at e))

unfoldable pub alias_reader : List Known → (depth n : ℕ) → Site → Reader Item
alias_reader ks depth n at =
    Then (alias ks depth n at) (λ d.
    Then (expects is_semicolon) (λ sign. Gives (record { statement = Typedef d.0; next = n + 1; made = Some d.1 })))

unfoldable pub declaration_reader : List Known → (depth n : ℕ) → Site → Reader Item
declaration_reader ks depth n at =
    Then (declaration ks depth n at) (λ d. Then (expects is_semicolon) (λ sign. Gives (plain (Declare d, n + 1))))

abbrev pub other_item : (statement : Reader (Statement × ℕ)) → List Known → (depth n : ℕ) → Site → LexemeKind → Reader Item
other_item statement ks depth n at kind =
    cond (starts_declaration ks kind) (declaration_reader ks depth n at) (Then statement (λ s. Gives (plain s)))

abbrev pub item_by : (statement : Reader (Statement × ℕ)) → List Known → (depth n : ℕ) → Site → LexemeKind → Reader Item
item_by statement ks depth n at (Word words.Typedef) = Passes (alias_reader ks depth n at)
item_by statement ks depth n at (Word words.Case) = Passes (case_reader ks depth n at)
item_by statement ks depth n at (Word words.Default) = Passes (labelled ks n (Default n at))
item_by statement ks depth n at kind = other_item statement ks depth n at kind

abbrev pub extended : List Known → Option Known → List Known
extended ks None = ks
extended ks (Some k) = ks ++ k ∷ []

abbrev pub with_last : Statements → Statement → Statements
with_last none s = one s none
with_last (one first others) s = one first (with_last others s)

-- one more than the statements that a block may have
abbrev pub most_items : ℕ
most_items = 4097

-- behind the statements that were read, up to the brace that closes them
unfoldable pub items : (item : List Known → (n : ℕ) → Reader Item) (left : ℕ) → List Known → (n : ℕ) → Statements → Reader (Statements × ℕ)
items item zero ks n so = Fails TooMany
items item (suc left) ks n so =
    Looks (λ t. cond (is_right_brace t.kind) (Passes (Gives (so, n))) (Then (item ks n) (λ s. items item left (extended ks s.made) s.next (with_last so s.statement))))

abbrev pub body_by : (statement : Reader (Statement × ℕ)) (block : Reader (Statements × ℕ)) → Reader (Statements × ℕ)
body_by statement block = Looks (λ t. cond (is_left_brace t.kind) (Passes block) (Then statement (λ s. Gives (one s.0 none, s.1))))

abbrev pub levels : (depth : ℕ) → StatementReaders
levels zero = record {
  statement = λ ks n. Fails TooDeep;
  body = λ ks n. body_by (Fails TooDeep) (items (λ ks n. Fails TooDeep) most_items ks n none);
  block = λ ks n. items (λ ks n. Fails TooDeep) most_items ks n none;
}
levels (suc depth) =
    let statement : List Known → (n : ℕ) → Reader (Statement × ℕ) =
    λ ks n. counted n (Looks (λ t. statement_by (λ n. (levels depth).body ks n) (λ n. (levels depth).block ks n) ks depth n t.site t.kind)) in
    let item : List Known → (n : ℕ) → Reader Item = λ ks n. counted n (Looks (λ t. item_by (statement ks n) ks depth n t.site t.kind)) in
    let block : List Known → (n : ℕ) → Reader (Statements × ℕ) = λ ks n. items item most_items ks n none in
    record { statement = statement; body = λ ks n. body_by (statement ks n) (block ks n); block = block }

unfoldable pub statement_reader : List Known → (depth n : ℕ) → Reader (Statement × ℕ)
statement_reader ks depth n = (levels depth).statement ks n

unfoldable pub body_reader : List Known → (depth n : ℕ) → Reader (Statements × ℕ)
body_reader ks depth n = (levels depth).body ks n

unfoldable pub block_reader : List Known → (depth n : ℕ) → Reader (Statements × ℕ)
block_reader ks depth n = (levels depth).block ks n

unfoldable pub item_reader : List Known → (depth n : ℕ) → Reader Item
item_reader ks zero n = Fails TooDeep
item_reader ks (suc depth) n = counted n (Looks (λ t. item_by (statement_reader ks (suc depth) n) ks depth n t.site t.kind))
