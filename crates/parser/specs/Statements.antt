-- How statements are read. `depth` is how many levels of the tree are left, `room` how many brackets may be opened, `n` the number of
-- the next statement.
use Rattle.std.specs.Prelude.{ℕ, zero, suc, ◌+◌, List, Bool, true, false, cond, nat_lt, nat_le, ◌&&◌, Option, Some, None, bytes_eq, codes}
use Rattle.semantics.specs.Word.{Kind}
use Rattle.semantics.specs.Core.{Site}
use Rattle.texts.specs.Signs as signs
use Rattle.texts.specs.Reserved as words
use Rattle.texts.specs.Tokens as token
use Rattle.texts.specs.Tokens.{TokenKind}
use Rattle.texts.specs.Lexemes.{Lexeme, assign_of}
use Rattle.texts.specs.ParseFaults.{Expected, TooDeep, TooMany}
use Rattle.texts.specs.KernelGrammar.{is_else}
use Rattle.texts.specs.Surface.{AssignSign, Expression, Declaration, Assignment, First, FirstDeclares, FirstAssigns, JumpWord, Return, Break, Continue, Statement, Declare, DeclareArray, Assign, If, While, For, Barrier, Jump, Block, Statements, none, one}
use Rattle.parser.specs.Reader.{Reader, Gives, Fails, Looks, Passes, Then}
use Rattle.parser.specs.Expressions.{is_left_parenthesis, is_right_parenthesis, is_left_bracket, is_right_bracket, expects, kind_at, expression_reader}

abbrev pub is_semicolon : TokenKind → Bool
is_semicolon (token.Mark signs.Semicolon) = true
is_semicolon kind = false

abbrev pub is_equal : TokenKind → Bool
is_equal (token.Mark signs.Equal) = true
is_equal kind = false

abbrev pub is_left_brace : TokenKind → Bool
is_left_brace (token.Mark signs.LeftBrace) = true
is_left_brace kind = false

abbrev pub is_right_brace : TokenKind → Bool
is_right_brace (token.Mark signs.RightBrace) = true
is_right_brace kind = false

abbrev pub is_local : TokenKind → Bool
is_local (token.Word words.Local) = true
is_local kind = false

abbrev pub assign_at : TokenKind → Option AssignSign
assign_at (token.Mark s) = assign_of s
assign_at kind = None

abbrev pub name_at : TokenKind → Option (List ℕ)
name_at (token.Name x) = Some x
name_at kind = None

abbrev pub number_at : TokenKind → Option ℕ
number_at (token.Number literal) = Some literal.value
number_at kind = None

-- passes over what a lexeme must have, and gives that with its place
abbrev pub taken : {A : Type 0} → Option A → Site → Reader (A × Site)
taken None at = Fails Expected
taken (Some a) at = Passes (Gives (a, at))

abbrev pub takes : {A : Type 0} → (TokenKind → Option A) → Reader (A × Site)
takes found = Looks (λ t. taken (found t.kind) t.site)

-- over an opening bracket
abbrev pub bracket : {A : Type 0} (room : ℕ) → (ℕ → Reader A) → Reader A
bracket zero next = Fails TooDeep
bracket (suc room) next = Passes (next room)

-- over the opening bracket that is due
abbrev pub opens : {A : Type 0} → (TokenKind → Bool) → (room : ℕ) → (ℕ → Reader A) → Reader A
opens is_due room next = Looks (λ t. cond (is_due t.kind) (bracket room next) (Fails Expected))

-- after a target
unfoldable pub assigned_reader : (room depth n : ℕ) → List ℕ → Site → Option Expression → Reader Assignment
assigned_reader room depth n x at index =
    Then (takes assign_at) (λ sign. Then (expression_reader room depth) (λ e. Gives (record {
      number = n;
      site = at;
      name = x;
      index = index;
      sign = sign.0;
      sign_site = sign.1;
      value = e;
    })))

-- an index in brackets, if one stands here
unfoldable pub index_reader : (room depth : ℕ) → Reader (Option Expression)
index_reader room depth = Looks (λ t. cond (is_left_bracket t.kind) (bracket room (λ room. Then (expression_reader room depth) (λ i. Then (expects is_right_bracket) (λ closing. Gives (Some i))))) (Gives None))

unfoldable pub assignment_reader : (room depth n : ℕ) → Reader Assignment
assignment_reader room depth n = Then (takes name_at) (λ x. Then (index_reader room depth) (λ index. assigned_reader room depth n x.0 x.1 index))

unfoldable pub declaration_reader : (room depth n : ℕ) → Reader Declaration
declaration_reader room depth n =
    Then (takes kind_at) (λ kind. Then (takes name_at) (λ x. Then (expects is_equal) (λ equal. Then (expression_reader room depth) (λ e. Gives (record {
      number = n;
      site = kind.1;
      kind = kind.0;
      name_site = x.1;
      name = x.0;
      value = e;
    })))))

abbrev pub first_by : Option Kind → (room depth n : ℕ) → Reader First
first_by None room depth n = Then (assignment_reader room depth n) (λ a. Gives (FirstAssigns a))
first_by (Some kind) room depth n = Then (declaration_reader room depth n) (λ d. Gives (FirstDeclares d))

unfoldable pub first_reader : (room depth n : ℕ) → Reader First
first_reader room depth n = Looks (λ t. first_by (kind_at t.kind) room depth n)

-- an expression in parentheses
unfoldable pub tested : (room depth : ℕ) → Reader Expression
tested room depth = opens is_left_parenthesis room (λ room. Then (expression_reader room depth) (λ e. Then (expects is_right_parenthesis) (λ closing. Gives e)))

-- what a `for` has in parentheses
pub record Head : Type 0 where
  pub first : First
  pub test : Expression
  pub update : Assignment

unfoldable pub parts_reader : (room depth n : ℕ) → Reader Head
parts_reader room depth n =
    Then (first_reader room depth n) (λ first. Then (expects is_semicolon) (λ a. Then (expression_reader room depth) (λ e. Then (expects is_semicolon) (λ b.
    Then (assignment_reader room depth (n + 1)) (λ update. Then (expects is_right_parenthesis) (λ closing. Gives (record { first = first; test = e; update = update })))))))

unfoldable pub head_reader : (room depth n : ℕ) → Reader Head
head_reader room depth n = opens is_left_parenthesis room (λ room. parts_reader room depth n)

-- how many statements one block is read with: one more than a kernel may have
abbrev pub most_items : ℕ
most_items = 513

unfoldable pub items : (item : (n : ℕ) → Reader (Statement × ℕ)) (left n : ℕ) → Reader (Statements × ℕ)
items item zero n = Fails TooMany
items item (suc left) n =
    Looks (λ t. cond (is_right_brace t.kind) (Passes (Gives (none, n))) (Then (item n) (λ s. Then (items item left s.1) (λ ss. Gives (one s.0 ss.0, ss.1)))))

-- how statements, parts of statements and blocks one level deeper are read
pub record StatementReaders : Type 1 where
  pub statement : (room n : ℕ) → Reader (Statement × ℕ)
  pub body : (room n : ℕ) → Reader (Statements × ℕ)
  pub block : (room n : ℕ) → Reader (Statements × ℕ)

-- what an `else` brings, if one stands here
abbrev pub else_reader : (body : (room n : ℕ) → Reader (Statements × ℕ)) → (room n : ℕ) → Reader (Statements × ℕ)
else_reader body room n = Looks (λ t. cond (is_else t.kind) (Passes (body room n)) (Gives (none, n)))

unfoldable pub named : (room depth n : ℕ) → Site → List ℕ → Reader (Statement × ℕ)
named room depth n at x =
    cond (bytes_eq x (codes "barrier")) (Passes (Then (tested room depth) (λ flags. Then (expects is_semicolon) (λ semicolon. Gives (Barrier n at flags, n + 1)))))
    (Then (assignment_reader room depth n) (λ a. Then (expects is_semicolon) (λ semicolon. Gives (Assign a, n + 1))))

-- over the word of a jump statement, and its semicolon
unfoldable pub jump_reader : (n : ℕ) → Site → JumpWord → Reader (Statement × ℕ)
jump_reader n at jump = Passes (Then (expects is_semicolon) (λ semicolon. Gives (Jump n at jump, n + 1)))

abbrev pub statement_by : (body block : (room n : ℕ) → Reader (Statements × ℕ)) → (room depth n : ℕ) → Site → TokenKind → Reader (Statement × ℕ)
statement_by body block room depth n at (token.Name x) = named room depth n at x
statement_by body block room depth n at (token.Mark signs.LeftBrace) = bracket room (λ room. Then (block room (n + 1)) (λ ss. Gives (Block n at ss.0, ss.1)))
statement_by body block room depth n at (token.Word words.If) = Passes (Then (tested room depth) (λ e. Then (body room (n + 1)) (λ a. Then (else_reader body room a.1) (λ b. Gives (If n at e a.0 b.0, b.1)))))
statement_by body block room depth n at (token.Word words.While) = Passes (Then (tested room depth) (λ e. Then (body room (n + 1)) (λ b. Gives (While n at e b.0, b.1))))
statement_by body block room depth n at (token.Word words.For) =
    cond (nat_lt 510 n) (Fails TooMany) (Passes (Then (head_reader room depth (n + 1)) (λ h. Then (body room (n + 3)) (λ b. Gives (For n at h.first h.test h.update b.0, b.1)))))
statement_by body block room depth n at (token.Word words.Return) = jump_reader n at Return
statement_by body block room depth n at (token.Word words.Break) = jump_reader n at Break
statement_by body block room depth n at (token.Word words.Continue) = jump_reader n at Continue
statement_by body block room depth n at kind = Fails Expected

-- a statement more than 512 is one too many; a `for` has two more statements in its head
abbrev pub counted : {A : Type 0} → (n : ℕ) → Reader A → Reader A
counted n reader = cond (nat_lt 512 n) (Fails TooMany) reader

-- an array's length in brackets, 1 to 16,384
abbrev pub length_by : Option ℕ → Reader ℕ
length_by None = Fails Expected
length_by (Some length) = cond (nat_lt 0 length && nat_le length 16384) (Passes (Gives length)) (Fails TooMany)

abbrev pub length_reader : Reader ℕ
length_reader = Looks (λ t. length_by (number_at t.kind))

unfoldable pub array_reader : (room n : ℕ) → Site → Reader Statement
array_reader room n at =
    Then (takes kind_at) (λ kind. Then (takes name_at) (λ x. opens is_left_bracket room (λ room. Then length_reader (λ length.
    Then (expects is_right_bracket) (λ closing. Then (expects is_semicolon) (λ semicolon. Gives (DeclareArray n at kind.0 x.1 x.0 length)))))))

abbrev pub item_by : (statement : Reader (Statement × ℕ)) (room depth n : ℕ) → Lexeme → Option Kind → Reader (Statement × ℕ)
item_by statement room depth n t None = cond (is_local t.kind) (Passes (Then (array_reader room n t.site) (λ s. Gives (s, n + 1)))) statement
item_by statement room depth n t (Some kind) = Then (declaration_reader room depth n) (λ d. Then (expects is_semicolon) (λ semicolon. Gives (Declare d, n + 1)))

abbrev pub body_by : (statement : (room n : ℕ) → Reader (Statement × ℕ)) (block : (room n : ℕ) → Reader (Statements × ℕ)) → (room n : ℕ) → Reader (Statements × ℕ)
body_by statement block room n = Looks (λ t. cond (is_left_brace t.kind) (bracket room (λ room. block room n)) (Then (statement room n) (λ s. Gives (one s.0 none, s.1))))

abbrev pub levels : (depth : ℕ) → StatementReaders
levels zero = record {
  statement = λ room n. Fails TooDeep;
  body = body_by (λ room n. Fails TooDeep) (λ room n. items (λ n. Fails TooDeep) most_items n);
  block = λ room n. items (λ n. Fails TooDeep) most_items n;
}
levels (suc depth) =
    let statement : (room n : ℕ) → Reader (Statement × ℕ) = λ room n. counted n (Looks (λ t. statement_by (levels depth).body (levels depth).block room depth n t.site t.kind)) in
    let block : (room n : ℕ) → Reader (Statements × ℕ) = λ room n. items (λ n. counted n (Looks (λ t. item_by (statement room n) room depth n t (kind_at t.kind)))) most_items n in
    record { statement = statement; body = body_by statement block; block = block }

unfoldable pub statement_reader : (depth room n : ℕ) → Reader (Statement × ℕ)
statement_reader depth room n = (levels depth).statement room n

unfoldable pub body_reader : (depth room n : ℕ) → Reader (Statements × ℕ)
body_reader depth room n = (levels depth).body room n

unfoldable pub block_reader : (depth room n : ℕ) → Reader (Statements × ℕ)
block_reader depth room n = (levels depth).block room n

-- an item of a block: a declaration may stand here too
unfoldable pub item_reader : (depth room n : ℕ) → Reader (Statement × ℕ)
item_reader zero room n = Fails TooDeep
item_reader (suc depth) room n = counted n (Looks (λ t. item_by (statement_reader (suc depth) room n) room depth n t (kind_at t.kind)))
