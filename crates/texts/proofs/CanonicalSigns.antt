-- The signs and words of the canonical text, each before a byte that is no part of it.
use Rattle.std.proofs.Common.{◌≡◌, ℕ, List, [], ◌∷◌, ◌++◌, refl, false, nat_eq}
use Rattle.semantics.specs.Word.{Kind, Int, Uint, Size, Add, Subtract, Multiply, Divide, Remainder, BitAnd, BitOr, BitXor, Less, AtMost, More, AtLeast, Equal, Unequal}
use Rattle.texts.specs.Signs.{signs, LeftParenthesis, RightParenthesis, LeftBrace, RightBrace, LeftBracket, RightBracket, Semicolon, Comma, Question, Colon}
use Rattle.texts.specs.Reserved.{reserved_words}
use Rattle.texts.specs.Tokens.{TokenKind, Mark, Word}
use Rattle.texts.specs.Canonical.{kind_text, infix_text, prefix_text, assign_text}
use Rattle.texts.specs.CanonicalTokens.{kind_word, infix_sign, prefix_sign, assign_sign}
use Rattle.texts.specs.Surface.{PrefixSign, Minus, LogicalNot, BitNot, InfixSign, Arithmetic, LeftShift, RightShift, Comparison, LogicalAnd, LogicalOr, AssignSign, Plain, With, WithLeftShift, WithRightShift}
use Rattle.texts.proofs.CanonicalPieces.{Lexes, lex_piece, lex_gap}

pub blank : {rest : List ℕ} {ks : List TokenKind} → Lexes rest ks → Lexes (32 ∷ rest) ks
blank go = lex_gap 32 _ _ refl go

pub feed : {rest : List ℕ} {ks : List TokenKind} → Lexes rest ks → Lexes (10 ∷ rest) ks
feed go = lex_gap 10 _ _ refl go

pub opening : {rest : List ℕ} {ks : List TokenKind} → Lexes rest ks → Lexes (40 ∷ rest) (Mark LeftParenthesis ∷ ks)
unfolding signs
opening go = lex_piece _ 40 [] _ _ refl go

pub closing : {rest : List ℕ} {ks : List TokenKind} → Lexes rest ks → Lexes (41 ∷ rest) (Mark RightParenthesis ∷ ks)
unfolding signs
closing go = lex_piece _ 41 [] _ _ refl go

pub bracket : {rest : List ℕ} {ks : List TokenKind} → Lexes rest ks → Lexes (91 ∷ rest) (Mark LeftBracket ∷ ks)
unfolding signs
bracket go = lex_piece _ 91 [] _ _ refl go

pub bracket_end : {rest : List ℕ} {ks : List TokenKind} → Lexes rest ks → Lexes (93 ∷ rest) (Mark RightBracket ∷ ks)
unfolding signs
bracket_end go = lex_piece _ 93 [] _ _ refl go

pub brace : {rest : List ℕ} {ks : List TokenKind} → Lexes rest ks → Lexes (123 ∷ rest) (Mark LeftBrace ∷ ks)
unfolding signs
brace go = lex_piece _ 123 [] _ _ refl go

pub brace_end : {rest : List ℕ} {ks : List TokenKind} → Lexes rest ks → Lexes (125 ∷ rest) (Mark RightBrace ∷ ks)
unfolding signs
brace_end go = lex_piece _ 125 [] _ _ refl go

pub semicolon : {rest : List ℕ} {ks : List TokenKind} → Lexes rest ks → Lexes (59 ∷ rest) (Mark Semicolon ∷ ks)
unfolding signs
semicolon go = lex_piece _ 59 [] _ _ refl go

pub comma : {rest : List ℕ} {ks : List TokenKind} → Lexes rest ks → Lexes (44 ∷ rest) (Mark Comma ∷ ks)
unfolding signs
comma go = lex_piece _ 44 [] _ _ refl go

pub question : {rest : List ℕ} {ks : List TokenKind} → Lexes rest ks → Lexes (63 ∷ rest) (Mark Question ∷ ks)
unfolding signs
question go = lex_piece _ 63 [] _ _ refl go

pub colon : {rest : List ℕ} {ks : List TokenKind} → Lexes rest ks → Lexes (58 ∷ rest) (Mark Colon ∷ ks)
unfolding signs
colon go = lex_piece _ 58 [] _ _ refl go

pub between : (sign : InfixSign) {rest : List ℕ} {ks : List TokenKind} → Lexes rest ks → Lexes (infix_text sign ++ (32 ∷ rest)) (Mark (infix_sign sign) ∷ ks)
unfolding signs
between (Arithmetic Add) {rest} go = lex_piece _ 43 [] (32 ∷ rest) _ refl (blank go)
between (Arithmetic Subtract) {rest} go = lex_piece _ 45 [] (32 ∷ rest) _ refl (blank go)
between (Arithmetic Multiply) {rest} go = lex_piece _ 42 [] (32 ∷ rest) _ refl (blank go)
between (Arithmetic Divide) {rest} go = lex_piece _ 47 [] (32 ∷ rest) _ refl (blank go)
between (Arithmetic Remainder) {rest} go = lex_piece _ 37 [] (32 ∷ rest) _ refl (blank go)
between (Arithmetic BitAnd) {rest} go = lex_piece _ 38 [] (32 ∷ rest) _ refl (blank go)
between (Arithmetic BitOr) {rest} go = lex_piece _ 124 [] (32 ∷ rest) _ refl (blank go)
between (Arithmetic BitXor) {rest} go = lex_piece _ 94 [] (32 ∷ rest) _ refl (blank go)
between LeftShift {rest} go = lex_piece _ 60 (60 ∷ []) (32 ∷ rest) _ refl (blank go)
between RightShift {rest} go = lex_piece _ 62 (62 ∷ []) (32 ∷ rest) _ refl (blank go)
between (Comparison Less) {rest} go = lex_piece _ 60 [] (32 ∷ rest) _ refl (blank go)
between (Comparison AtMost) {rest} go = lex_piece _ 60 (61 ∷ []) (32 ∷ rest) _ refl (blank go)
between (Comparison More) {rest} go = lex_piece _ 62 [] (32 ∷ rest) _ refl (blank go)
between (Comparison AtLeast) {rest} go = lex_piece _ 62 (61 ∷ []) (32 ∷ rest) _ refl (blank go)
between (Comparison Equal) {rest} go = lex_piece _ 61 (61 ∷ []) (32 ∷ rest) _ refl (blank go)
between (Comparison Unequal) {rest} go = lex_piece _ 33 (61 ∷ []) (32 ∷ rest) _ refl (blank go)
between LogicalAnd {rest} go = lex_piece _ 38 (38 ∷ []) (32 ∷ rest) _ refl (blank go)
between LogicalOr {rest} go = lex_piece _ 124 (124 ∷ []) (32 ∷ rest) _ refl (blank go)

pub assign : (sign : AssignSign) {rest : List ℕ} {ks : List TokenKind} → Lexes rest ks → Lexes (assign_text sign ++ (32 ∷ rest)) (Mark (assign_sign sign) ∷ ks)
unfolding signs
assign Plain {rest} go = lex_piece _ 61 [] (32 ∷ rest) _ refl (blank go)
assign (With Add) {rest} go = lex_piece _ 43 (61 ∷ []) (32 ∷ rest) _ refl (blank go)
assign (With Subtract) {rest} go = lex_piece _ 45 (61 ∷ []) (32 ∷ rest) _ refl (blank go)
assign (With Multiply) {rest} go = lex_piece _ 42 (61 ∷ []) (32 ∷ rest) _ refl (blank go)
assign (With Divide) {rest} go = lex_piece _ 47 (61 ∷ []) (32 ∷ rest) _ refl (blank go)
assign (With Remainder) {rest} go = lex_piece _ 37 (61 ∷ []) (32 ∷ rest) _ refl (blank go)
assign (With BitAnd) {rest} go = lex_piece _ 38 (61 ∷ []) (32 ∷ rest) _ refl (blank go)
assign (With BitOr) {rest} go = lex_piece _ 124 (61 ∷ []) (32 ∷ rest) _ refl (blank go)
assign (With BitXor) {rest} go = lex_piece _ 94 (61 ∷ []) (32 ∷ rest) _ refl (blank go)
assign WithLeftShift {rest} go = lex_piece _ 60 (60 ∷ 61 ∷ []) (32 ∷ rest) _ refl (blank go)
assign WithRightShift {rest} go = lex_piece _ 62 (62 ∷ 61 ∷ []) (32 ∷ rest) _ refl (blank go)

pub cast_kind : (kind : Kind) {rest : List ℕ} {ks : List TokenKind} → Lexes rest ks → Lexes (kind_text kind ++ (41 ∷ rest)) (Word (kind_word kind) ∷ Mark RightParenthesis ∷ ks)
unfolding reserved_words
cast_kind Int {rest} go = lex_piece _ 105 (110 ∷ 116 ∷ []) (41 ∷ rest) _ refl (closing go)
cast_kind Uint {rest} go = lex_piece _ 117 (105 ∷ 110 ∷ 116 ∷ []) (41 ∷ rest) _ refl (closing go)
cast_kind Size {rest} go = lex_piece _ 115 (105 ∷ 122 ∷ 101 ∷ 95 ∷ 116 ∷ []) (41 ∷ rest) _ refl (closing go)

-- a byte that goes on with no sign
abbrev pub IsFirst : ℕ → Type 0
IsFirst b = (nat_eq 61 b ≡ false) × (nat_eq 45 b ≡ false)

pub ahead : (sign : PrefixSign) (b : ℕ) {rest : List ℕ} {ks : List TokenKind} → IsFirst b → Lexes (b ∷ rest) ks → Lexes (prefix_text sign ++ (b ∷ rest)) (Mark (prefix_sign sign) ∷ ks)
unfolding signs
ahead Minus b {rest} h go = lex_piece _ 45 [] (b ∷ rest) _ (rw (h.0, h.1) refl) go
ahead LogicalNot b {rest} h go = lex_piece _ 33 [] (b ∷ rest) _ (rw h.0 refl) go
ahead BitNot b {rest} h go = lex_piece _ 126 [] (b ∷ rest) _ refl go
