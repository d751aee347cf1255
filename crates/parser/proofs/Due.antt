-- Signs and words that are due, taken back.
use Rattle.std.proofs.Common.{◌≡◌, Bool, true, List, ◌∷◌, refl, ap}
use Rattle.std.proofs.lemmas.Bool.{false≢true}
use Rattle.std.proofs.lemmas.Slice.Eq.{bytes_eq-Decides}
use Rattle.std.specs.Prelude.{codes}
use Rattle.semantics.specs.Core.{Site}
use Rattle.texts.specs.Signs as signs
use Rattle.texts.specs.Reserved as words
use Rattle.texts.specs.Tokens.{TokenKind, Mark, Word, Name}
use Rattle.texts.specs.Lexemes.{Lexeme}
use Rattle.texts.specs.KernelGrammar.{is_else}
use Rattle.parser.specs.Reader.{Took, front, behind, run}
use Rattle.parser.specs.Expressions.{expects, is_left_parenthesis, is_right_parenthesis, is_right_bracket, is_comma}
use Rattle.parser.specs.Statements.{is_semicolon, is_equal, is_left_brace, is_right_brace, is_local}
use Rattle.parser.specs.Kernels.{is_kernel, is_attribute, is_void, is_global, is_const, is_star, is_required_size}
use Rattle.parser.proofs.Inversion.{front-is}
use Rattle.parser.proofs.Marks.{left_parenthesis-kind, right_parenthesis-kind, right_bracket-kind, comma-kind}
use Rattle.parser.proofs.Taking.{past}

-- a reader that passes over what is due passed over this
abbrev pub Due : (TokenKind → Bool) → TokenKind → Type 0
Due is_due kind = (ts rest : List Lexeme) (at : Site) → run (expects is_due) ts ≡ Took at rest → ts ≡ record { kind = kind; site = (front ts).site } ∷ rest

-- what stands at the front, where a test says so
abbrev pub Stands : (TokenKind → Bool) → TokenKind → Type 0
Stands test kind = (ts : List Lexeme) → test (front ts).kind ≡ true → ts ≡ record { kind = kind; site = (front ts).site } ∷ behind ts

pub left_parenthesis_due : Due is_left_parenthesis (Mark signs.LeftParenthesis)
left_parenthesis_due = past (Mark signs.LeftParenthesis) is_left_parenthesis refl left_parenthesis-kind

pub right_parenthesis_due : Due is_right_parenthesis (Mark signs.RightParenthesis)
right_parenthesis_due = past (Mark signs.RightParenthesis) is_right_parenthesis refl right_parenthesis-kind

pub right_bracket_due : Due is_right_bracket (Mark signs.RightBracket)
right_bracket_due = past (Mark signs.RightBracket) is_right_bracket refl right_bracket-kind

pub comma_due : Due is_comma (Mark signs.Comma)
comma_due = past (Mark signs.Comma) is_comma refl comma-kind

semicolon-kind : (kind : TokenKind) → is_semicolon kind ≡ true → kind ≡ Mark signs.Semicolon
semicolon-kind (Mark signs.Semicolon) h = refl
semicolon-kind kind h = absurd (false≢true h)

pub semicolon_due : Due is_semicolon (Mark signs.Semicolon)
semicolon_due = past (Mark signs.Semicolon) is_semicolon refl semicolon-kind

equal-kind : (kind : TokenKind) → is_equal kind ≡ true → kind ≡ Mark signs.Equal
equal-kind (Mark signs.Equal) h = refl
equal-kind kind h = absurd (false≢true h)

pub equal_due : Due is_equal (Mark signs.Equal)
equal_due = past (Mark signs.Equal) is_equal refl equal-kind

star-kind : (kind : TokenKind) → is_star kind ≡ true → kind ≡ Mark signs.Star
star-kind (Mark signs.Star) h = refl
star-kind kind h = absurd (false≢true h)

pub star_due : Due is_star (Mark signs.Star)
star_due = past (Mark signs.Star) is_star refl star-kind

left_brace-kind : (kind : TokenKind) → is_left_brace kind ≡ true → kind ≡ Mark signs.LeftBrace
left_brace-kind (Mark signs.LeftBrace) h = refl
left_brace-kind kind h = absurd (false≢true h)

pub left_brace_due : Due is_left_brace (Mark signs.LeftBrace)
left_brace_due = past (Mark signs.LeftBrace) is_left_brace refl left_brace-kind

pub left_brace : Stands is_left_brace (Mark signs.LeftBrace)
left_brace ts h = front-is ts (Mark signs.LeftBrace) refl (left_brace-kind (front ts).kind h)

right_brace-kind : (kind : TokenKind) → is_right_brace kind ≡ true → kind ≡ Mark signs.RightBrace
right_brace-kind (Mark signs.RightBrace) h = refl
right_brace-kind kind h = absurd (false≢true h)

pub right_brace : Stands is_right_brace (Mark signs.RightBrace)
right_brace ts h = front-is ts (Mark signs.RightBrace) refl (right_brace-kind (front ts).kind h)

local-kind : (kind : TokenKind) → is_local kind ≡ true → kind ≡ Word words.Local
local-kind (Word words.Local) h = refl
local-kind kind h = absurd (false≢true h)

pub local_stands : Stands is_local (Word words.Local)
local_stands ts h = front-is ts (Word words.Local) refl (local-kind (front ts).kind h)

else-kind : (kind : TokenKind) → is_else kind ≡ true → kind ≡ Word words.Else
else-kind (Word words.Else) h = refl
else-kind kind h = absurd (false≢true h)

pub else_stands : Stands is_else (Word words.Else)
else_stands ts h = front-is ts (Word words.Else) refl (else-kind (front ts).kind h)

global-kind : (kind : TokenKind) → is_global kind ≡ true → kind ≡ Word words.Global
global-kind (Word words.Global) h = refl
global-kind kind h = absurd (false≢true h)

pub global_stands : Stands is_global (Word words.Global)
global_stands ts h = front-is ts (Word words.Global) refl (global-kind (front ts).kind h)

const-kind : (kind : TokenKind) → is_const kind ≡ true → kind ≡ Word words.Const
const-kind (Word words.Const) h = refl
const-kind kind h = absurd (false≢true h)

pub const_stands : Stands is_const (Word words.Const)
const_stands ts h = front-is ts (Word words.Const) refl (const-kind (front ts).kind h)

kernel-kind : (kind : TokenKind) → is_kernel kind ≡ true → kind ≡ Word words.Kernel
kernel-kind (Word words.Kernel) h = refl
kernel-kind kind h = absurd (false≢true h)

pub kernel_due : Due is_kernel (Word words.Kernel)
kernel_due = past (Word words.Kernel) is_kernel refl kernel-kind

attribute-kind : (kind : TokenKind) → is_attribute kind ≡ true → kind ≡ Word words.Attribute
attribute-kind (Word words.Attribute) h = refl
attribute-kind kind h = absurd (false≢true h)

pub attribute_due : Due is_attribute (Word words.Attribute)
attribute_due = past (Word words.Attribute) is_attribute refl attribute-kind

void-kind : (kind : TokenKind) → is_void kind ≡ true → kind ≡ Word words.Void
void-kind (Word words.Void) h = refl
void-kind kind h = absurd (false≢true h)

pub void_due : Due is_void (Word words.Void)
void_due = past (Word words.Void) is_void refl void-kind

required-kind : (kind : TokenKind) → is_required_size kind ≡ true → kind ≡ Name (codes "reqd_work_group_size")
required-kind (Name x) h = ap Name ((bytes_eq-Decides x (codes "reqd_work_group_size")).0 h)
required-kind kind h = absurd (false≢true h)

pub required_due : Due is_required_size (Name (codes "reqd_work_group_size"))
required_due = past (Name (codes "reqd_work_group_size")) is_required_size refl required-kind
