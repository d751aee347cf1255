-- The tokens of a kernel's canonical text.
use Rattle.std.proofs.Common.{◌≡◌, ℕ, List, [], ◌∷◌, ◌++◌, true, false, Option, Some, None, refl, sym, subst, append_assoc, codes}
use Rattle.std.specs.Fmt.{decimal}
use Rattle.semantics.specs.Word.{Kind, Int, Uint, Size}
use Rattle.texts.specs.Signs as s
use Rattle.texts.specs.Signs.{signs, RightParenthesis, RightBrace, LeftBrace, LeftParenthesis, Semicolon}
use Rattle.texts.specs.Reserved as w
use Rattle.texts.specs.Reserved.{Reserved, reserved_words}
use Rattle.texts.specs.Tokens as token
use Rattle.texts.specs.Tokens.{TokenKind, Mark, Word}
use Rattle.texts.specs.Canonical.{kind_text, assign_text, jump_text, expression_text, declaration_text, index_text, assignment_text, first_text, array_text, for_text, line, deeper, statement_text, statements_text, else_text, parameter_text, parameters_text, sizes_text, canonical}
use Rattle.texts.specs.CanonicalTokens.{IsName, IsSize, kind_word, jump_word, number_token, expression_tokens, declaration_tokens, index_tokens, assignment_tokens, first_tokens, statement_tokens, statements_tokens, else_tokens, parameter_tokens, more_parameters, parameters_tokens, sizes_tokens, kernel_tokens, IsPrintable, IsPrintableDeclaration, IsPrintableIndex, IsPrintableAssignment, IsPrintableFirst, IsPrintableStatement, ArePrintableStatements, parameter_name, ArePrintableParameters, IsPrintableKernel}
use Rattle.texts.specs.Surface.{Expression, Plain, Declaration, Assignment, First, FirstDeclares, FirstAssigns, JumpWord, Return, Break, Continue, Statement, Declare, DeclareArray, Assign, If, While, For, Barrier, Jump, Block, Statements, none, one, Parameter, Buffer, Value, Kernel}
use Rattle.texts.proofs.CanonicalPieces.{Lexes, lex_piece, lex_end}
use Rattle.texts.proofs.CanonicalSigns.{blank, feed, opening, closing, bracket, bracket_end, brace, brace_end, semicolon, comma, assign, IsFirst}
use Rattle.texts.proofs.CanonicalNames.{lex_name, lex_number, front_name}
use Rattle.texts.proofs.CanonicalExpressions.{IsApart, moved, lex_expression}

-- words, each before a blank
kind_word_lexes : (kind : Kind) {rest : List ℕ} {ks : List TokenKind} → Lexes rest ks → Lexes (kind_text kind ++ (32 ∷ rest)) (Word (kind_word kind) ∷ ks)
unfolding reserved_words
kind_word_lexes Int {rest} go = lex_piece _ 105 (110 ∷ 116 ∷ []) (32 ∷ rest) _ refl (blank go)
kind_word_lexes Uint {rest} go = lex_piece _ 117 (105 ∷ 110 ∷ 116 ∷ []) (32 ∷ rest) _ refl (blank go)
kind_word_lexes Size {rest} go = lex_piece _ 115 (105 ∷ 122 ∷ 101 ∷ 95 ∷ 116 ∷ []) (32 ∷ rest) _ refl (blank go)

local : {rest : List ℕ} {ks : List TokenKind} → Lexes rest ks → Lexes (codes "__local " ++ rest) (Word w.Local ∷ ks)
unfolding reserved_words
local {rest} go = lex_piece _ 95 (codes "_local") (32 ∷ rest) _ refl (blank go)

global : {rest : List ℕ} {ks : List TokenKind} → Lexes rest ks → Lexes (codes "__global " ++ rest) (Word w.Global ∷ ks)
unfolding reserved_words
global {rest} go = lex_piece _ 95 (codes "_global") (32 ∷ rest) _ refl (blank go)

constant : {rest : List ℕ} {ks : List TokenKind} → Lexes rest ks → Lexes (codes "const " ++ rest) (Word w.Const ∷ ks)
unfolding reserved_words
constant {rest} go = lex_piece _ 99 (codes "onst") (32 ∷ rest) _ refl (blank go)

if_word : {rest : List ℕ} {ks : List TokenKind} → Lexes rest ks → Lexes (codes "if (" ++ rest) (Word w.If ∷ Mark LeftParenthesis ∷ ks)
unfolding reserved_words
if_word {rest} go = lex_piece _ 105 (codes "f") (32 ∷ 40 ∷ rest) _ refl (blank (opening go))

while_word : {rest : List ℕ} {ks : List TokenKind} → Lexes rest ks → Lexes (codes "while (" ++ rest) (Word w.While ∷ Mark LeftParenthesis ∷ ks)
unfolding reserved_words
while_word {rest} go = lex_piece _ 119 (codes "hile") (32 ∷ 40 ∷ rest) _ refl (blank (opening go))

for_word : {rest : List ℕ} {ks : List TokenKind} → Lexes rest ks → Lexes (codes "for (" ++ rest) (Word w.For ∷ Mark LeftParenthesis ∷ ks)
unfolding reserved_words
for_word {rest} go = lex_piece _ 102 (codes "or") (32 ∷ 40 ∷ rest) _ refl (blank (opening go))

else_word : {rest : List ℕ} {ks : List TokenKind} → Lexes rest ks → Lexes (codes "} else {" ++ rest) (Mark RightBrace ∷ Word w.Else ∷ Mark LeftBrace ∷ ks)
unfolding reserved_words
else_word {rest} go = brace_end (blank (lex_piece _ 101 (codes "lse") (32 ∷ 123 ∷ rest) _ refl (blank (brace go))))

barrier_name : {rest : List ℕ} {ks : List TokenKind} → Lexes rest ks → Lexes (codes "barrier(" ++ rest) (token.Name (codes "barrier") ∷ Mark LeftParenthesis ∷ ks)
unfolding reserved_words
barrier_name {rest} go = lex_piece _ 98 (codes "arrier") (40 ∷ rest) _ refl (opening go)

jump_ends : (jump : JumpWord) {rest : List ℕ} {ks : List TokenKind} → Lexes rest ks → Lexes ((jump_text jump ++ codes ";") ++ (10 ∷ rest)) (Word (jump_word jump) ∷ Mark Semicolon ∷ ks)
unfolding reserved_words
jump_ends Return {rest} go = lex_piece _ 114 (codes "eturn") (59 ∷ 10 ∷ rest) _ refl (semicolon (feed go))
jump_ends Break {rest} go = lex_piece _ 98 (codes "reak") (59 ∷ 10 ∷ rest) _ refl (semicolon (feed go))
jump_ends Continue {rest} go = lex_piece _ 99 (codes "ontinue") (59 ∷ 10 ∷ rest) _ refl (semicolon (feed go))

size_name : {rest : List ℕ} {ks : List TokenKind} → Lexes rest ks → Lexes (codes "reqd_work_group_size(" ++ rest) (token.Name (codes "reqd_work_group_size") ∷ Mark LeftParenthesis ∷ ks)
unfolding reserved_words
size_name {rest} go = lex_piece _ 114 (codes "eqd_work_group_size") (40 ∷ rest) _ refl (opening go)

head_words : {rest : List ℕ} {ks : List TokenKind} → Lexes rest ks → Lexes (codes "__kernel __attribute__((" ++ rest) (Word w.Kernel ∷ Word w.Attribute ∷ Mark LeftParenthesis ∷ Mark LeftParenthesis ∷ ks)
unfolding reserved_words
head_words {rest} go =
    lex_piece _ 95 (codes "_kernel") (codes " __attribute__((" ++ rest) _ refl (blank (lex_piece _ 95 (codes "_attribute__") (40 ∷ 40 ∷ rest) _ refl (opening (opening go))))

void_word : {rest : List ℕ} {ks : List TokenKind} → Lexes rest ks → Lexes (codes "void " ++ rest) (Word w.Void ∷ ks)
unfolding reserved_words
void_word {rest} go = lex_piece _ 118 (codes "oid") (32 ∷ rest) _ refl (blank go)

starred : (b : ℕ) {rest : List ℕ} {ks : List TokenKind} → IsFirst b → Lexes (b ∷ rest) ks → Lexes (42 ∷ b ∷ rest) (Mark s.Star ∷ ks)
unfolding signs
starred b {rest} h go = lex_piece _ 42 [] (b ∷ rest) _ (rw h.0 refl) go

star_name : (x rest : List ℕ) {ks : List TokenKind} → IsName x → Lexes (x ++ rest) ks → Lexes (42 ∷ (x ++ rest)) (Mark s.Star ∷ ks)
star_name x rest {ks} h go =
    let r = front_name x rest h in
    subst (λ bs. Lexes (42 ∷ bs) (Mark s.Star ∷ ks)) (sym r.3) (starred r.0 r.2 (subst (λ bs. Lexes bs ks) r.3 go))

-- parts of statements
pub lex_declaration : (d : Declaration) {rest : List ℕ} {ks : List TokenKind} → IsPrintableDeclaration d → IsApart rest → Lexes rest ks → Lexes (declaration_text d ++ rest) (declaration_tokens d ks)
lex_declaration d {rest} h e go =
    moved (parts (kind_text d.kind) d.name (expression_text d.value) rest) (kind_word_lexes d.kind (lex_name d.name h.0 refl (blank (assign Plain (lex_expression d.value rest _ h.1 e go)))))
  where
    parts : (k x v rest : List ℕ) → (k ++ (32 ∷ (x ++ (32 ∷ 61 ∷ 32 ∷ v)))) ++ rest ≡ k ++ (32 ∷ (x ++ (32 ∷ 61 ∷ 32 ∷ (v ++ rest))))
    parts k x v rest = simp append_assoc refl

lex_index : (i : Option Expression) {rest : List ℕ} {ks : List TokenKind} → IsPrintableIndex i → Lexes rest ks → Lexes (index_text i ++ rest) (index_tokens i ks)
lex_index None h go = go
lex_index (Some e) {rest} h go = bracket (moved (append_assoc (expression_text e) (codes "]") rest) (lex_expression e (93 ∷ rest) _ h refl (bracket_end go)))

index_apart : (i : Option Expression) (rest : List ℕ) → IsApart (index_text i ++ (32 ∷ rest))
index_apart None rest = refl
index_apart (Some e) rest = refl

pub lex_assignment : (a : Assignment) {rest : List ℕ} {ks : List TokenKind} → IsPrintableAssignment a → IsApart rest → Lexes rest ks → Lexes (assignment_text a ++ rest) (assignment_tokens a ks)
lex_assignment a {rest} h e go =
    moved (parts a.name (index_text a.index) (assign_text a.sign) (expression_text a.value) rest)
    (lex_name a.name h.0 (index_apart a.index _) (lex_index a.index h.1 (blank (assign a.sign (lex_expression a.value rest _ h.2 e go)))))
  where
    parts : (x i s v rest : List ℕ) → (x ++ (i ++ (32 ∷ (s ++ (32 ∷ v))))) ++ rest ≡ x ++ (i ++ (32 ∷ (s ++ (32 ∷ (v ++ rest)))))
    parts x i s v rest = simp append_assoc refl

lex_first : (f : First) {rest : List ℕ} {ks : List TokenKind} → IsPrintableFirst f → IsApart rest → Lexes rest ks → Lexes (first_text f ++ rest) (first_tokens f ks)
lex_first (FirstDeclares d) h e go = lex_declaration d h e go
lex_first (FirstAssigns a) h e go = lex_assignment a h e go

lex_array : (kind : Kind) (x : List ℕ) (n : ℕ) {rest : List ℕ} {ks : List TokenKind} → IsName x → IsSize n → Lexes rest ks →
    Lexes (array_text kind x n ++ rest) (Word w.Local ∷ Word (kind_word kind) ∷ token.Name x ∷ Mark s.LeftBracket ∷ number_token Int n ∷ Mark s.RightBracket ∷ ks)
lex_array kind x n {rest} h l go =
    local (moved (parts (kind_text kind) x (decimal n) rest) (kind_word_lexes kind (lex_name x h refl (bracket (lex_number Int n l refl (bracket_end go))))))
  where
    parts : (k x v rest : List ℕ) → (k ++ (32 ∷ (x ++ (91 ∷ (v ++ 93 ∷ []))))) ++ rest ≡ k ++ (32 ∷ (x ++ (91 ∷ (v ++ (93 ∷ rest)))))
    parts k x v rest = simp append_assoc refl

-- blanks in front of a line
IsPad : List ℕ → Type 0
IsPad [] = Unit {0}
IsPad (b ∷ pad) = (b ≡ 32) × IsPad pad

lex_pad : (pad : List ℕ) {rest : List ℕ} {ks : List TokenKind} → IsPad pad → Lexes rest ks → Lexes (pad ++ rest) ks
unfolding IsPad
lex_pad [] h go = go
lex_pad (b ∷ pad) {rest} {ks} h go = subst (λ c. Lexes (c ∷ (pad ++ rest)) ks) (sym h.0) (blank (lex_pad pad h.1 go))

deeper_pad : (pad : List ℕ) → IsPad pad → IsPad (deeper pad)
unfolding IsPad
deeper_pad [] h = (refl, (refl, tt))
deeper_pad (b ∷ pad) h = (h.0, deeper_pad pad h.1)

lex_line : (pad text rest : List ℕ) {ks : List TokenKind} → IsPad pad → Lexes (text ++ (10 ∷ rest)) ks → Lexes (line pad text ++ rest) ks
lex_line pad text rest h go = moved (parts pad text rest) (lex_pad pad h go)
  where
    parts : (pad text rest : List ℕ) → (pad ++ (text ++ 10 ∷ [])) ++ rest ≡ pad ++ (text ++ (10 ∷ rest))
    parts pad text rest = simp append_assoc refl

lex_brace : (pad rest : List ℕ) {ks : List TokenKind} → IsPad pad → Lexes rest ks → Lexes (line pad (codes "}") ++ rest) (Mark RightBrace ∷ ks)
lex_brace pad rest h go = lex_line pad (codes "}") rest h (brace_end (feed go))

in_turn : (a b c rest : List ℕ) → (a ++ (b ++ c)) ++ rest ≡ a ++ (b ++ (c ++ rest))
in_turn a b c rest = simp append_assoc refl

in_turn_four : (a b c d rest : List ℕ) → (a ++ (b ++ (c ++ d))) ++ rest ≡ a ++ (b ++ ((c ++ d) ++ rest))
in_turn_four a b c d rest = simp append_assoc refl

lex_test : (e : Expression) {rest : List ℕ} {ks : List TokenKind} → IsPrintable e → Lexes rest ks → Lexes ((expression_text e ++ codes ") {") ++ (10 ∷ rest)) (expression_tokens e (Mark RightParenthesis ∷ Mark LeftBrace ∷ ks))
lex_test e {rest} h go = moved (append_assoc (expression_text e) (codes ") {") (10 ∷ rest)) (lex_expression e _ _ h refl (closing (blank (brace (feed go)))))

lex_for : (f : First) (e : Expression) (u : Assignment) {rest : List ℕ} {ks : List TokenKind} → IsPrintableFirst f → IsPrintable e → IsPrintableAssignment u → Lexes rest ks →
    Lexes ((for_text f e u ++ codes " {") ++ (10 ∷ rest))
    (Word w.For ∷ Mark LeftParenthesis ∷ first_tokens f (Mark Semicolon ∷ expression_tokens e (Mark Semicolon ∷ assignment_tokens u (Mark RightParenthesis ∷ Mark LeftBrace ∷ ks))))
lex_for f e u {rest} hf he hu go =
    for_word (moved (parts (first_text f) (expression_text e) (assignment_text u) (10 ∷ rest))
    (lex_first f hf refl (semicolon (blank (lex_expression e _ _ he refl (semicolon (blank (lex_assignment u hu refl (closing (blank (brace (feed go)))))))))))
    )
  where
    parts : (f e u rest : List ℕ) → ((f ++ (59 ∷ 32 ∷ (e ++ (59 ∷ 32 ∷ (u ++ 41 ∷ []))))) ++ (32 ∷ 123 ∷ [])) ++ rest ≡ f ++ (59 ∷ 32 ∷ (e ++ (59 ∷ 32 ∷ (u ++ (41 ∷ 32 ∷ 123 ∷ rest)))))
    parts f e u rest = simp append_assoc refl

mutual
  lex_statement : (pad : List ℕ) (s : Statement) (rest : List ℕ) (ks : List TokenKind) → IsPad pad → IsPrintableStatement s → Lexes rest ks → Lexes (statement_text pad s ++ rest) (statement_tokens s ks)
  lex_statement pad (Declare d) rest ks p h go =
      lex_line pad (declaration_text d ++ codes ";") _ p (moved (append_assoc (declaration_text d) (codes ";") (10 ∷ rest)) (lex_declaration d h refl (semicolon (feed go))))
  lex_statement pad (DeclareArray n site kind name_site x length) rest ks p h go =
      lex_line pad (array_text kind x length ++ codes ";") _ p (moved (append_assoc (array_text kind x length) (codes ";") (10 ∷ rest)) (lex_array kind x length h.0 h.1 (semicolon (feed go))))
  lex_statement pad (Assign a) rest ks p h go =
      lex_line pad (assignment_text a ++ codes ";") _ p (moved (append_assoc (assignment_text a) (codes ";") (10 ∷ rest)) (lex_assignment a h.0 refl (semicolon (feed go))))
  lex_statement pad (If n site test a b) rest ks p h go =
      moved (in_turn_four (line pad (codes "if (" ++ (expression_text test ++ codes ") {"))) (statements_text (deeper pad) a) (else_text pad b) (line pad (codes "}")) rest)
      (lex_line pad (codes "if (" ++ (expression_text test ++ codes ") {")) _ p (if_word (lex_test test h.0 (lex_statements (deeper pad) a _ _ (deeper_pad pad p) h.1
      (lex_else pad b rest ks p h.2 go)))))
  lex_statement pad (While n site test body) rest ks p h go =
      moved (in_turn (line pad (codes "while (" ++ (expression_text test ++ codes ") {"))) (statements_text (deeper pad) body) (line pad (codes "}")) rest)
      (lex_line pad (codes "while (" ++ (expression_text test ++ codes ") {")) _ p (while_word (lex_test test h.0 (lex_statements (deeper pad) body _ _ (deeper_pad pad p) h.1 (lex_brace pad rest p go)))))
  lex_statement pad (For n site first test update body) rest ks p h go =
      moved (in_turn (line pad (for_text first test update ++ codes " {")) (statements_text (deeper pad) body) (line pad (codes "}")) rest)
      (lex_line pad (for_text first test update ++ codes " {") _ p (lex_for first test update h.0 h.1 h.2 (lex_statements (deeper pad) body _ _ (deeper_pad pad p) h.3 (lex_brace pad rest p go))))
  lex_statement pad (Barrier n site flags) rest ks p h go =
      lex_line pad (codes "barrier(" ++ (expression_text flags ++ codes ");")) _ p
      (barrier_name (moved (append_assoc (expression_text flags) (codes ");") (10 ∷ rest)) (lex_expression flags _ _ h refl (closing (semicolon (feed go))))))
  lex_statement pad (Jump n site jump) rest ks p h go = lex_line pad (jump_text jump ++ codes ";") rest p (jump_ends jump go)
  lex_statement pad (Block n site body) rest ks p h go =
      moved (in_turn (line pad (codes "{")) (statements_text (deeper pad) body) (line pad (codes "}")) rest)
      (lex_line pad (codes "{") _ p (brace (feed (lex_statements (deeper pad) body _ _ (deeper_pad pad p) h (lex_brace pad rest p go)))))

  lex_statements : (pad : List ℕ) (ss : Statements) (rest : List ℕ) (ks : List TokenKind) → IsPad pad → ArePrintableStatements ss → Lexes rest ks → Lexes (statements_text pad ss ++ rest) (statements_tokens ss ks)
  lex_statements pad none rest ks p h go = go
  lex_statements pad (one s ss) rest ks p h go =
      moved (append_assoc (statement_text pad s) (statements_text pad ss) rest) (lex_statement pad s _ _ p h.0 (lex_statements pad ss rest ks p h.1 go))

  lex_else : (pad : List ℕ) (b : Statements) (rest : List ℕ) (ks : List TokenKind) → IsPad pad → ArePrintableStatements b → Lexes rest ks → Lexes ((else_text pad b ++ line pad (codes "}")) ++ rest) (Mark RightBrace ∷ else_tokens b ks)
  lex_else pad none rest ks p h go = lex_brace pad rest p go
  lex_else pad (one s ss) rest ks p h go =
      moved (parts (line pad (codes "} else {")) (statement_text (deeper pad) s) (statements_text (deeper pad) ss) (line pad (codes "}")) rest)
      (lex_line pad (codes "} else {") _ p (else_word (feed (lex_statement (deeper pad) s _ _ (deeper_pad pad p) h.0 (lex_statements (deeper pad) ss _ _ (deeper_pad pad p) h.1 (lex_brace pad rest p go))))))
    where
      parts : (a b c d rest : List ℕ) → ((a ++ (b ++ c)) ++ d) ++ rest ≡ a ++ (b ++ (c ++ (d ++ rest)))
      parts a b c d rest = simp append_assoc refl

-- kernels
lex_parameter : (q : Parameter) {rest : List ℕ} {ks : List TokenKind} → IsName (parameter_name q) → IsApart rest → Lexes rest ks → Lexes (parameter_text q ++ rest) (parameter_tokens q ks)
lex_parameter (Buffer true kind site x) {rest} h e go =
    global (constant (moved (parts (kind_text kind) x rest) (kind_word_lexes kind (star_name x rest h (lex_name x h e go)))))
  where
    parts : (k x rest : List ℕ) → (k ++ (32 ∷ 42 ∷ x)) ++ rest ≡ k ++ (32 ∷ 42 ∷ (x ++ rest))
    parts k x rest = simp append_assoc refl
lex_parameter (Buffer false kind site x) {rest} h e go =
    global (moved (parts (kind_text kind) x rest) (kind_word_lexes kind (star_name x rest h (lex_name x h e go))))
  where
    parts : (k x rest : List ℕ) → (k ++ (32 ∷ 42 ∷ x)) ++ rest ≡ k ++ (32 ∷ 42 ∷ (x ++ rest))
    parts k x rest = simp append_assoc refl
lex_parameter (Value kind site x) {rest} h e go =
    moved (parts (kind_text kind) x rest) (kind_word_lexes kind (lex_name x h e go))
  where
    parts : (k x rest : List ℕ) → (k ++ (32 ∷ x)) ++ rest ≡ k ++ (32 ∷ (x ++ rest))
    parts k x rest = simp append_assoc refl

more_apart : (ps : List Parameter) (rest : List ℕ) → IsApart rest → IsApart (parameters_text (codes ", ") ps ++ rest)
more_apart [] rest e = e
more_apart (p ∷ ps) rest e = refl

lex_more : (ps : List Parameter) {rest : List ℕ} {ks : List TokenKind} → ArePrintableParameters ps → IsApart rest → Lexes rest ks → Lexes (parameters_text (codes ", ") ps ++ rest) (more_parameters ps ks)
lex_more [] h e go = go
lex_more (p ∷ ps) {rest} h e go =
    comma (blank (moved (append_assoc (parameter_text p) (parameters_text (codes ", ") ps) rest) (lex_parameter p h.0 (more_apart ps rest e) (lex_more ps h.2 e go))))

lex_parameters : (ps : List Parameter) {rest : List ℕ} {ks : List TokenKind} → ArePrintableParameters ps → IsApart rest → Lexes rest ks → Lexes (parameters_text [] ps ++ rest) (parameters_tokens ps ks)
lex_parameters [] h e go = go
lex_parameters (p ∷ ps) {rest} h e go =
    moved (append_assoc (parameter_text p) (parameters_text (codes ", ") ps) rest) (lex_parameter p h.0 (more_apart ps rest e) (lex_more ps h.2 e go))

lex_sizes : (x y z : ℕ) {rest : List ℕ} {ks : List TokenKind} → IsSize x → IsSize y → IsSize z → Lexes rest ks → Lexes (sizes_text x y z ++ rest) (sizes_tokens x y z ks)
unfolding sizes_text
lex_sizes x y z {rest} hx hy hz go =
    head_words (size_name (moved (parts (decimal x) (decimal y) (decimal z) rest)
    (lex_number Int x hx refl (comma (blank (lex_number Int y hy refl (comma (blank (lex_number Int z hz refl (closing (closing (closing (blank (void_word go)))))))))))))
    )
  where
    parts : (x y z rest : List ℕ) → (x ++ (44 ∷ 32 ∷ (y ++ (44 ∷ 32 ∷ (z ++ codes "))) void "))))) ++ rest ≡ x ++ (44 ∷ 32 ∷ (y ++ (44 ∷ 32 ∷ (z ++ (codes "))) void " ++ rest)))))
    parts x y z rest = simp append_assoc refl

pub lex_kernel : (k : Kernel) → IsPrintableKernel k → Lexes (canonical k) (kernel_tokens k)
unfolding IsPad
lex_kernel k h =
    moved (parts (sizes_text k.sizes.x k.sizes.y k.sizes.z) k.name (parameters_text [] k.parameters) (statements_text (codes "  ") k.body))
    (lex_sizes k.sizes.x k.sizes.y k.sizes.z h.sizes.0 h.sizes.1 h.sizes.2 (lex_name k.name h.name refl (opening (lex_parameters k.parameters h.parameters refl
    (closing (blank (brace (feed (lex_statements (codes "  ") k.body _ _ (refl, (refl, tt)) h.body (brace_end (feed lex_end)))))))))))
  where
    parts : (a x p b : List ℕ) → ((a ++ (x ++ (40 ∷ (p ++ (41 ∷ 32 ∷ 123 ∷ []))))) ++ 10 ∷ []) ++ (b ++ (125 ∷ 10 ∷ [])) ≡ a ++ (x ++ (40 ∷ (p ++ (41 ∷ 32 ∷ 123 ∷ 10 ∷ (b ++ (125 ∷ 10 ∷ []))))))
    parts a x p b = simp append_assoc refl
