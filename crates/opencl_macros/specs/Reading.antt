-- The tokens that come of a text's tokens, or the first fault (C99 6.10; the limits are ours).
use Rattle.std.specs.Prelude.{ℕ, zero, suc, ◌+◌, List, [], ◌∷◌, ◌++◌, length, take, map, Bool, true, false, cond, not, nat_lt, ◌&&◌, ◌||◌, bytes_eq, Option, Some, None, Result, Ok, Err, codes}
use Rattle.semantics.specs.Core.{Site}
use Rattle.texts.specs.Tokens.{first_site}
use Rattle.opencl_tokens.specs.Signs.{Hash}
use Rattle.opencl_tokens.specs.Tokens.{TokenKind, Token, End}
use Rattle.opencl_macros.specs.Macros.{Macro, Table, entry, is_defined, is_mark, on}
use Rattle.opencl_macros.specs.Expansion.{Fed, Word, Behind}
use Rattle.opencl_macros.specs.Machine.{Expanded, expanded, is_left_out}
use Rattle.opencl_macros.specs.Compilers.{whether_defined}
use Rattle.opencl_macros.specs.Conditions.{holds}
use Rattle.opencl_macros.specs.Questions.{answered}
use Rattle.opencl_macros.specs.Questions as questions
use Rattle.opencl_macros.specs.Directives.{Directive, Nothing, Else, Ends, Defines, Forgets, If, ElseIf, IfDefined, directive_of}

-- a group of a conditional is read; it is skipped and a later one may be read; it is skipped and so are all later ones
pub data Group : Type 0 where
  Taken Awaited Passed : Group

-- a conditional that is open: where it begins, its group, and whether that is the one behind `#else`
pub record Conditional : Type 0 where
  pub site : Site
  pub group : Group
  pub is_last : Bool

-- the macros, the conditionals that are open, the inner one first, what came out, and how many tokens may still be put in for macros
pub record State : Type 0 where
  pub table : Table
  pub conditionals : List Conditional
  pub out : List Token
  pub left : ℕ

abbrev pub Went : Type 0
Went = Result State Site

abbrev pub state : Table → List Conditional → List Token → ℕ → State
state table conditionals out left = record { table = table; conditionals = conditionals; out = out; left = left }

abbrev pub conditional : Site → Group → (is_last : Bool) → Conditional
conditional site group is_last = record { site = site; group = group; is_last = is_last }

abbrev pub is_taken : Group → Bool
is_taken Taken = true
is_taken Awaited = false
is_taken Passed = false

-- the innermost group alone has to be looked at, since what stands in a skipped group is passed over
abbrev pub is_reading : List Conditional → Bool
is_reading [] = true
is_reading (c ∷ cs) = is_taken c.group

abbrev pub first_group : (holds : Bool) → Group
first_group holds = cond holds Taken Awaited

abbrev pub fed : Token → Fed
fed token = Word token false

abbrev pub with_fed : List Token → Fed → List Token
with_fed out (Word token is_kept) = out ++ token ∷ []
with_fed out Behind = out

-- the tokens among what came out, behind those before
abbrev pub with_tokens : (out : List Token) → List Fed → List Token
with_tokens out [] = out
with_tokens out (f ∷ fs) = with_tokens (with_fed out f) fs

-- tokens with their macros expanded; uses in arguments are 64 levels deep at most
abbrev pub expand : Site → State → List Token → Result Expanded Site
expand site s tokens = expanded 64 s.table site s.left [] (map fed tokens)

abbrev pub with_out : State → Expanded → State
with_out s e = state s.table s.conditionals (with_tokens s.out e.out) e.left

-- lines of text between directives are expanded together
abbrev pub texts : State → Site → List Token → Went
texts s site tokens = cond (is_reading s.conditionals) (on (expand site s tokens) (λ e. Ok (with_out s e))) (Ok s)

abbrev pub with_entry : State → (name : List ℕ) → Option Macro → Went
with_entry s name macro = Ok (state (s.table ++ entry name macro ∷ []) s.conditionals s.out s.left)

abbrev pub may_define : Table → (name : List ℕ) → Bool
may_define table name =
    not (is_defined name table) && (not (bytes_eq name (codes "defined") || is_left_out name) && nat_lt (length table) 4096)

-- a name with a definition has to be forgotten first (ours, more than 6.10.3p2), and there are 4,096 definitions at most
abbrev pub defines : State → Site → (name : List ℕ) → Macro → Went
defines s site name macro = cond (may_define s.table name) (with_entry s name (Some macro)) (Err site)

-- names that a text may not take away (6.10.8p4)
abbrev pub is_constant : (name : List ℕ) → Bool
is_constant name =
    bytes_eq name (codes "__OPENCL_VERSION__") || (bytes_eq name (codes "__OPENCL_C_VERSION__")
    || (bytes_eq name (codes "__ENDIAN_LITTLE__") || (bytes_eq name (codes "CL_VERSION_1_0")
    || (bytes_eq name (codes "CL_VERSION_1_1") || bytes_eq name (codes "CL_VERSION_1_2")))))

abbrev pub may_forget : Table → (name : List ℕ) → Bool
may_forget table name = not (is_constant name) && (not (bytes_eq name (codes "defined") || is_left_out name) && nat_lt (length table) 4096)

abbrev pub forgets : State → Site → (name : List ℕ) → Went
forgets s site name = cond (may_forget s.table name) (with_entry s name None) (Err site)

-- whether a condition holds, and how many tokens may still be put in
abbrev pub Held : Type 0
Held = Result (Bool × ℕ) Site

abbrev pub expanded_condition : Site → Expanded → Held
expanded_condition site e = on (holds site (with_tokens [] e.out)) (λ b. Ok (b, e.left))

abbrev pub condition : State → Site → List Token → Held
condition s site tokens =
    on (answered s.table site questions.Nothing [] tokens) (λ ts. on (expand site s ts) (expanded_condition site))

abbrev pub with_conditional : State → Conditional → List Conditional → (left : ℕ) → Went
with_conditional s c cs left = Ok (state s.table (c ∷ cs) s.out left)

abbrev pub opens : State → Site → Held → Went
opens s site held = on held (λ h. with_conditional s (conditional site (first_group h.0) false) s.conditionals h.1)

abbrev pub passes : State → Site → Went
passes s site = with_conditional s (conditional site Passed false) s.conditionals s.left

abbrev pub same_flag : Bool → Bool → Bool
same_flag true b = b
same_flag false b = not b

abbrev pub tests : State → Site → Option (List ℕ) → (wanted : Bool) → Went
tests s site None wanted = Err site
tests s site (Some name) wanted =
    on (whether_defined s.table site name) (λ b. opens s site (Ok (same_flag wanted b, s.left)))

-- the condition of an `#elif` is looked at where no group was read before
abbrev pub turns_to : State → Site → List Token → Site → List Conditional → Group → Went
turns_to s site tokens begin cs Awaited =
    on (condition s site tokens) (λ h. with_conditional s (conditional begin (first_group h.0) false) cs h.1)
turns_to s site tokens begin cs Taken = with_conditional s (conditional begin Passed false) cs s.left
turns_to s site tokens begin cs Passed = with_conditional s (conditional begin Passed false) cs s.left

abbrev pub else_if : State → Site → List Token → List Conditional → Went
else_if s site tokens [] = Err site
else_if s site tokens (c ∷ cs) = cond c.is_last (Err site) (turns_to s site tokens c.site cs c.group)

-- the group behind `#else`
abbrev pub last_group : Group → Group
last_group Taken = Passed
last_group Awaited = Taken
last_group Passed = Passed

abbrev pub otherwise : State → Site → List Conditional → Went
otherwise s site [] = Err site
otherwise s site (c ∷ cs) = cond c.is_last (Err site) (with_conditional s (conditional c.site (last_group c.group) true) cs s.left)

abbrev pub ends : State → Site → List Conditional → Went
ends s site [] = Err site
ends s site (c ∷ cs) = Ok (state s.table cs s.out s.left)

abbrev pub obeys : State → Site → Directive → Went
obeys s site (If tokens) = opens s site (condition s site tokens)
obeys s site (IfDefined name wanted) = tests s site name wanted
obeys s site (Defines name macro) = defines s site name macro
obeys s site (Forgets name) = forgets s site name
obeys s site Nothing = Ok s
obeys s site directive = Err site

abbrev pub overlooks : State → Site → Directive → Went
overlooks s site (If tokens) = passes s site
overlooks s site (IfDefined name wanted) = passes s site
overlooks s site directive = Ok s

-- in a skipped group only conditionals are looked at (6.10.1p6)
abbrev pub looks_at : State → Site → Directive → Went
looks_at s site directive = cond (is_reading s.conditionals) (obeys s site directive) (overlooks s site directive)

abbrev pub directed : State → Site → Directive → Went
directed s site Else = otherwise s site s.conditionals
directed s site Ends = ends s site s.conditionals
directed s site (ElseIf tokens) = else_if s site tokens s.conditionals
directed s site directive = looks_at s site directive

abbrev pub is_end : TokenKind → Bool
is_end End = true
is_end kind = false

abbrev pub is_directive : Token → Bool
is_directive token = token.begins_line && is_mark Hash token.kind

-- how many tokens stand behind a `#` in its line
abbrev pub line_length : List Token → ℕ
line_length [] = 0
line_length (t ∷ ts) = cond (t.begins_line || is_end t.kind) 0 (1 + line_length ts)

abbrev pub text_length : List Token → ℕ
text_length [] = 0
text_length (t ∷ ts) = cond (is_directive t) 0 (1 + text_length ts)

-- how many tokens behind the first one belong to it: those of a directive, or those before the next one
abbrev pub length_behind : Token → List Token → ℕ
length_behind first tokens = cond (is_directive first) (line_length tokens) (text_length tokens)

-- a directive with what stands behind its `#`, or all up to the next one
abbrev pub put_piece : State → Token → (behind all : List Token) → Went
put_piece s first behind all = cond (is_directive first) (directed s first.site (directive_of behind)) (texts s first.site all)

abbrev pub piece_at : State → Token → (tokens : List Token) → (count : ℕ) → Went
piece_at s first tokens count = put_piece s first (take count tokens) (first ∷ take count tokens)

abbrev pub piece_with : State → Token → (tokens : List Token) → (count : ℕ) → Result (State × ℕ) Site
piece_with s first tokens count = on (piece_at s first tokens count) (λ after. Ok (after, count))

-- the first piece, and how many tokens behind its first one belong to it
abbrev pub piece : State → List Token → Result (State × ℕ) Site
piece s [] = Ok (s, 0)
piece s (first ∷ tokens) = piece_with s first tokens (length_behind first tokens)

-- piece after piece; `skip` tokens belong to the one before
abbrev pub read : (skip : ℕ) → State → List Token → Went
read skip s [] = Ok s
read (suc skip) s (token ∷ tokens) = read skip s tokens
read zero s (token ∷ tokens) = on (piece s (token ∷ tokens)) (λ p. read p.1 p.0 tokens)

-- each conditional has its end
abbrev pub closed : State → List Conditional → Result (List Token) Site
closed s [] = Ok s.out
closed s (c ∷ cs) = Err c.site

abbrev pub finished : State → Result (List Token) Site
finished s = closed s s.conditionals

-- at most 262,144 tokens are put in for macros
abbrev pub start : Table → State
start table = state table [] [] 262144

-- the definitions that are given stand in tokens of their own; their faults are told at the text's beginning
abbrev pub table_of : Went → Result Table Site
table_of (Ok s) = Ok s.table
table_of (Err site) = Err first_site

abbrev pub read_text : Table → List Token → Result (List Token) Site
read_text table tokens = on (read 0 (start table) tokens) finished

-- the tokens that come of a text's tokens behind definitions that are given
unfoldable pub preprocessed : (given : List Token) → List Token → Result (List Token) Site
preprocessed given tokens =
    on (table_of (read 0 (start []) given)) (λ table. read_text table tokens)
