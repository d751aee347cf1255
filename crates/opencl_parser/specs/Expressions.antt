-- How expressions are read (C99 6.5; OpenCL 1.2, 6.1.6): `ks` are the names that are types, `deeper` reads what stands one level deeper, by
-- the rank of the signs that may join it: 0 for an operand, 10 for `||` and closer, 11 with `?:`, 12 with assignments, 13 with commas.
use Rattle.std.specs.Prelude.{ℕ, zero, suc, ◌+◌, List, Bool, cond, ◌&&◌, Option, Some, None}
use Rattle.std.specs.Option.{is_some}
use Rattle.semantics.specs.Core.{Site}
use Rattle.opencl_tokens.specs.Words as words
use Rattle.opencl_tokens.specs.Signs.{Sign}
use Rattle.opencl_tokens.specs.Lexemes as lexeme
use Rattle.opencl_tokens.specs.Lexemes.{LexemeKind}
use Rattle.texts.specs.Surface.{AssignSign}
use Rattle.opencl_tree.specs.Types.{TypeName}
use Rattle.opencl_tree.specs.Tree.{Expression, Expressions, Integer, Real, Name, Call, Index, Member, Prefix, Step, Cast, Vector, Conditional, Assign, SizeofType, SizeofOf, Before, Behind, nothing, also}
use Rattle.opencl_parser.specs.Faults.{Expected, TooDeep, TooMany, LeftOut, Structure, String}
use Rattle.opencl_parser.specs.Reader.{Reader, Gives, Fails, Looks, Passes, Then, expects, takes}
use Rattle.opencl_parser.specs.Signs.{is_left_parenthesis, is_right_parenthesis, is_right_bracket, is_comma, is_colon, name_at, Join, joined, Joint, Joins, Assigns, Asks, joint_at, Opening, Prefixes, Steps, Opens, Wrong, opening_of, Suffix, Indexes, Selects, StepsBehind, Follows, suffix_at}
use Rattle.opencl_parser.specs.TypeNames.{Known, known, starts_type, type_reader}

-- behind the sign of an assignment, and behind a `?`
unfoldable pub assigns : (deeper : ℕ → Reader Expression) → Site → AssignSign → Expression → Reader Expression
assigns deeper at sign e = Then (deeper 12) (λ v. Gives (Assign at sign e v))

unfoldable pub chooses : (deeper : ℕ → Reader Expression) → Site → Expression → Reader Expression
chooses deeper at e = Then (deeper 13) (λ a. Then (expects is_colon) (λ colon. Then (deeper 11) (λ b. Gives (Conditional at e a b))))

-- behind a left operand, with the sign that stands there
abbrev pub goes_on : (more : Site → Join → Reader Expression) (deeper : ℕ → Reader Expression) → Expression → Site → Option Joint →
    Reader Expression
goes_on more deeper e at None = Gives e
goes_on more deeper e at (Some (Joins join)) = more at join
goes_on more deeper e at (Some (Assigns sign)) = Passes (assigns deeper at sign e)
goes_on more deeper e at (Some Asks) = Passes (chooses deeper at e)

abbrev pub longer : (operand : Reader Expression) (chain : Expression → Reader Expression) → Expression → Site → Join → Reader Expression
longer operand chain e at join = Passes (Then operand (λ r. chain (joined join at e r)))

-- operands joined by signs of one rank, from the left: fewer more than so many
unfoldable pub chain : (operand : Reader Expression) (deeper : ℕ → Reader Expression) (rank left : ℕ) → Expression → Reader Expression
chain operand deeper rank zero e = Fails TooDeep
chain operand deeper rank (suc left) e =
    Looks (λ t. goes_on (longer operand (chain operand deeper rank left) e) deeper e t.site (joint_at rank t.kind))

unfoldable pub ranked : (operand : Reader Expression) (deeper : ℕ → Reader Expression) (depth rank : ℕ) → Reader Expression
ranked operand deeper depth zero = operand
ranked operand deeper depth (suc rank) =
    Then (ranked operand deeper depth rank) (λ e. chain (ranked operand deeper depth rank) deeper (rank + 1) (depth + 1) e)

abbrev pub with_last : Expressions → Expression → Expressions
with_last nothing e = also e nothing
with_last (also first others) e = also first (with_last others e)

-- how many arguments a call has at most, and how many parts a vector (ours)
abbrev pub most_arguments : ℕ
most_arguments = 256

-- behind those that were read, up to the parenthesis that closes them
unfoldable pub more_arguments : (argument : Reader Expression) (left : ℕ) → Expressions → Reader Expressions
more_arguments argument zero so = Fails TooMany
more_arguments argument (suc left) so =
    Looks (λ t. cond (is_comma t.kind) (Passes (Then argument (λ e. more_arguments argument left (with_last so e)))) (Then (expects is_right_parenthesis) (λ closing. Gives so)))

-- one or more
unfoldable pub parts : (argument : Reader Expression) → Reader Expressions
parts argument = Then argument (λ e. more_arguments argument most_arguments (also e nothing))

unfoldable pub arguments : (argument : Reader Expression) → Reader Expressions
arguments argument = Looks (λ t. cond (is_right_parenthesis t.kind) (Passes (Gives nothing)) (parts argument))

-- behind the bracket of an index, and behind a dot
unfoldable pub indexes : (more : Expression → Reader Expression) (deeper : ℕ → Reader Expression) → Expression → Site → Reader Expression
indexes more deeper e at = Then (deeper 13) (λ i. Then (expects is_right_bracket) (λ closing. more (Index at e i)))

unfoldable pub selects : (more : Expression → Reader Expression) → Expression → Site → Reader Expression
selects more e at = Then (takes name_at) (λ x. more (Member at e x.0))

abbrev pub by_suffix : (more : Expression → Reader Expression) (deeper : ℕ → Reader Expression) → Expression → Site → Option Suffix →
    Reader Expression
by_suffix more deeper e at None = Gives e
by_suffix more deeper e at (Some Indexes) = Passes (indexes more deeper e at)
by_suffix more deeper e at (Some Selects) = Passes (selects more e at)
by_suffix more deeper e at (Some (StepsBehind sign)) = Passes (more (Step at Behind sign e))
by_suffix more deeper e at (Some Follows) = Fails (LeftOut Structure)

-- what belongs to an operand and stands behind it: fewer than so many
unfoldable pub suffixed : (deeper : ℕ → Reader Expression) (left : ℕ) → Expression → Reader Expression
suffixed deeper zero e = Fails TooDeep
suffixed deeper (suc left) e = Looks (λ t. by_suffix (suffixed deeper left) deeper e t.site (suffix_at t.kind))

-- behind an opening parenthesis
unfoldable pub grouped : (deeper : ℕ → Reader Expression) (depth : ℕ) → Reader Expression
grouped deeper depth = Then (deeper 13) (λ e. Then (expects is_right_parenthesis) (λ closing. suffixed deeper (depth + 1) e))

unfoldable pub vector : (deeper : ℕ → Reader Expression) (depth : ℕ) → Site → TypeName → Reader Expression
vector deeper depth at to = Then (parts (deeper 12)) (λ es. suffixed deeper (depth + 1) (Vector at to es))

-- behind a type in parentheses
unfoldable pub converted : (deeper : ℕ → Reader Expression) (depth : ℕ) → Site → TypeName × Bool → Reader Expression
converted deeper depth at to =
    Looks (λ t. cond (to.1 && is_left_parenthesis t.kind) (Passes (vector deeper depth at to.0)) (Then (deeper 0) (λ e. Gives (Cast at to.0 e))))

unfoldable pub cast : List Known → (deeper : ℕ → Reader Expression) (depth : ℕ) → Site → Reader Expression
cast ks deeper depth at = Then (type_reader ks) (λ to. Then (expects is_right_parenthesis) (λ closing. converted deeper depth at to))

unfoldable pub sized_type : List Known → Site → Reader Expression
sized_type ks at = Then (type_reader ks) (λ to. Then (expects is_right_parenthesis) (λ closing. Gives (SizeofType at to.0)))

abbrev pub sized_by : Site → Reader Expression → Reader Expression
sized_by at operand = Then operand (λ e. Gives (SizeofOf at e))

unfoldable pub sized_within : List Known → (deeper : ℕ → Reader Expression) (depth : ℕ) → Site → Reader Expression
sized_within ks deeper depth at = Looks (λ t. cond (starts_type ks t.kind) (sized_type ks at) (sized_by at (grouped deeper depth)))

-- behind `sizeof`
unfoldable pub sized : List Known → (deeper : ℕ → Reader Expression) (depth : ℕ) → Site → Reader Expression
sized ks deeper depth at =
    Looks (λ t. cond (is_left_parenthesis t.kind) (Passes (sized_within ks deeper depth at)) (sized_by at (deeper 0)))

unfoldable pub called : (deeper : ℕ → Reader Expression) (depth : ℕ) → Site → List ℕ → Reader Expression
called deeper depth at x = Then (arguments (deeper 12)) (λ es. suffixed deeper (depth + 1) (Call at x es))

-- behind a name
unfoldable pub named : (deeper : ℕ → Reader Expression) (depth : ℕ) → Site → List ℕ → Reader Expression
named deeper depth at x =
    Looks (λ t. cond (is_left_parenthesis t.kind) (Passes (called deeper depth at x)) (suffixed deeper (depth + 1) (Name at x)))

unfoldable pub at_name : List Known → (deeper : ℕ → Reader Expression) (depth : ℕ) → Site → List ℕ → Reader Expression
at_name ks deeper depth at x = cond (is_some (known ks x)) (Fails Expected) (Passes (named deeper depth at x))

-- behind a parenthesis with which an operand begins
unfoldable pub parenthesized : List Known → (deeper : ℕ → Reader Expression) (depth : ℕ) → Site → Reader Expression
parenthesized ks deeper depth at = Looks (λ t. cond (starts_type ks t.kind) (cast ks deeper depth at) (grouped deeper depth))

abbrev pub opened : List Known → (deeper : ℕ → Reader Expression) (depth : ℕ) → Site → Opening → Reader Expression
opened ks deeper depth at (Prefixes sign) = Passes (Then (deeper 0) (λ e. Gives (Prefix at sign e)))
opened ks deeper depth at (Steps sign) = Passes (Then (deeper 0) (λ e. Gives (Step at Before sign e)))
opened ks deeper depth at Opens = Passes (parenthesized ks deeper depth at)
opened ks deeper depth at Wrong = Fails Expected

abbrev pub operand_at : List Known → (deeper : ℕ → Reader Expression) (depth : ℕ) → Site → LexemeKind → Reader Expression
operand_at ks deeper depth at (lexeme.Integer kind value) = Passes (suffixed deeper (depth + 1) (Integer at kind value))
operand_at ks deeper depth at (lexeme.Real spelling) = Passes (suffixed deeper (depth + 1) (Real at spelling))
operand_at ks deeper depth at (lexeme.Name x) = at_name ks deeper depth at x
operand_at ks deeper depth at (lexeme.Word words.Sizeof) = Passes (sized ks deeper depth at)
operand_at ks deeper depth at (lexeme.Mark s) = opened ks deeper depth at (opening_of s)
operand_at ks deeper depth at (lexeme.Text spelling) = Fails (LeftOut String)
operand_at ks deeper depth at kind = Fails Expected

unfoldable pub operand : List Known → (deeper : ℕ → Reader Expression) (depth : ℕ) → Reader Expression
operand ks deeper depth = Looks (λ t. operand_at ks deeper depth t.site t.kind)

-- an expression of the rank, where so many levels may stand within one another: operators, brackets and blocks
unfoldable pub level : List Known → (depth rank : ℕ) → Reader Expression
level ks zero rank = Fails TooDeep
level ks (suc depth) rank = ranked (operand ks (level ks depth) depth) (level ks depth) depth rank

-- with so many levels below it
abbrev pub inner : List Known → (depth rank : ℕ) → Reader Expression
inner ks depth rank = ranked (operand ks (level ks depth) depth) (level ks depth) depth rank
