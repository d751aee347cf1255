-- The tokens of an expression's canonical text.
use Rattle.std.proofs.Common.{◌≡◌, ℕ, List, [], ◌∷◌, ◌++◌, Bool, true, false, refl, sym, subst, append_assoc, ◌∙◌, codes}
use Rattle.std.specs.List.{prefix_len}
use Rattle.texts.specs.Signs.{RightParenthesis}
use Rattle.texts.specs.Tokens.{TokenKind, Mark}
use Rattle.lines.specs.Bytes.{is_word_byte}
use Rattle.texts.specs.Canonical.{is_compound, parenthesised, expression_text, arguments_text, kind_text, infix_text, prefix_text}
use Rattle.texts.specs.CanonicalTokens.{parenthesised_tokens, expression_tokens, arguments_tokens, more_tokens, IsPrintable, ArePrintable, prefix_sign}
use Rattle.texts.specs.Surface.{PrefixSign, Expression, Number, Name, Element, Call, Prefix, Cast, Infix, Conditional, Expressions, nothing, also}
use Rattle.texts.proofs.CanonicalPieces.{Lexes}
use Rattle.texts.proofs.CanonicalSigns.{blank, opening, closing, bracket, bracket_end, comma, question, colon, between, cast_kind, IsFirst, ahead}
use Rattle.texts.proofs.CanonicalNames.{lex_name, lex_number, front_name, front_number}

-- a byte that ends a word stands in front, or none
abbrev pub IsApart : List ℕ → Type 0
IsApart rest = prefix_len is_word_byte rest ≡ 0

pub moved : {a b : List ℕ} {ks : List TokenKind} → b ≡ a → Lexes a ks → Lexes b ks
moved {ks = ks} e go = subst (λ bytes. Lexes bytes ks) (sym e) go

within : (a b rest : List ℕ) (left right : ℕ) → (a ++ (left ∷ (b ++ right ∷ []))) ++ rest ≡ a ++ (left ∷ (b ++ (right ∷ rest)))
within a b rest left right = simp append_assoc refl

two : (l s r rest : List ℕ) → (l ++ (32 ∷ (s ++ (32 ∷ r)))) ++ rest ≡ l ++ (32 ∷ (s ++ (32 ∷ (r ++ rest))))
two l s r rest = simp append_assoc refl

three : (t a b rest : List ℕ) → (t ++ (32 ∷ 63 ∷ 32 ∷ (a ++ (32 ∷ 58 ∷ 32 ∷ b)))) ++ rest ≡ t ++ (32 ∷ 63 ∷ 32 ∷ (a ++ (32 ∷ 58 ∷ 32 ∷ (b ++ rest))))
three t a b rest = simp append_assoc refl

operand : (c : Bool) (t : List ℕ) (k : List TokenKind → List TokenKind) → ((rest : List ℕ) (ks : List TokenKind) → IsApart rest → Lexes rest ks → Lexes (t ++ rest) (k ks)) →
    (rest : List ℕ) (ks : List TokenKind) → IsApart rest → Lexes rest ks → Lexes (parenthesised c t ++ rest) (parenthesised_tokens c k ks)
operand true t k all rest ks e go = moved (within [] t rest 40 41) (opening (all (41 ∷ rest) (Mark RightParenthesis ∷ ks) refl (closing go)))
operand false t k all rest ks e go = all rest ks e go

-- what an operand begins with goes on with no sign
Begins : List ℕ → Type 0
Begins bytes = (b : ℕ) × (others : List ℕ) × IsFirst b × (bytes ≡ b ∷ others)

operand_begins : (e : Expression) (rest : List ℕ) → IsPrintable e → Begins (parenthesised (is_compound e) (expression_text e) ++ rest)
unfolding Begins
operand_begins (Number site kind n) rest h = front_number kind n rest h
operand_begins (Name site x) rest h = front_name x rest h
operand_begins (Element site x index) rest h =
    let r = front_name x ((91 ∷ (expression_text index ++ codes "]")) ++ rest) h.0 in
    (r.0, r.1, r.2, append_assoc x (91 ∷ (expression_text index ++ codes "]")) rest ∙ r.3)
operand_begins (Call site x arguments) rest h =
    let r = front_name x ((40 ∷ (arguments_text [] arguments ++ codes ")")) ++ rest) h.0 in
    (r.0, r.1, r.2, append_assoc x (40 ∷ (arguments_text [] arguments ++ codes ")")) rest ∙ r.3)
operand_begins (Prefix site sign e) rest h = (40, _, (refl, refl), refl)
operand_begins (Cast site kind e) rest h = (40, _, (refl, refl), refl)
operand_begins (Infix site sign l r) rest h = (40, _, (refl, refl), refl)
operand_begins (Conditional site test a b) rest h = (40, _, (refl, refl), refl)

signed : (sign : PrefixSign) (bytes : List ℕ) (ks : List TokenKind) → Begins bytes → Lexes bytes ks → Lexes (prefix_text sign ++ bytes) (Mark (prefix_sign sign) ∷ ks)
unfolding Begins
signed sign bytes ks r go =
    subst (λ bs. Lexes (prefix_text sign ++ bs) (Mark (prefix_sign sign) ∷ ks)) (sym r.3) (ahead sign r.0 r.2 (subst (λ bs. Lexes bs ks) r.3 go))

more_apart : (es : Expressions) (rest : List ℕ) → IsApart rest → IsApart (arguments_text (codes ", ") es ++ rest)
more_apart nothing rest e = e
more_apart (also x es) rest e = refl

mutual
  pub lex_expression : (e : Expression) (rest : List ℕ) (ks : List TokenKind) → IsPrintable e → IsApart rest → Lexes rest ks → Lexes (expression_text e ++ rest) (expression_tokens e ks)
  lex_expression (Number site kind n) rest ks h e go = lex_number kind n h e go
  lex_expression (Name site x) rest ks h e go = lex_name x h e go
  lex_expression (Element site x index) rest ks h e go =
      moved (within x (expression_text index) rest 91 93) (lex_name x h.0 refl (bracket (lex_expression index (93 ∷ rest) _ h.1 refl (bracket_end go))))
  lex_expression (Call site x arguments) rest ks h e go =
      moved (within x (arguments_text [] arguments) rest 40 41) (lex_name x h.0 refl (opening (lex_arguments arguments (41 ∷ rest) _ h.1 refl (closing go))))
  lex_expression (Prefix site sign x) rest ks h e go =
      moved (append_assoc (prefix_text sign) (parenthesised (is_compound x) (expression_text x)) rest)
      (signed sign _ _ (operand_begins x rest h) (operand (is_compound x) (expression_text x) (λ after. expression_tokens x after) (λ rest ks e go. lex_expression x rest ks h e go) rest ks e go))
  lex_expression (Cast site kind x) rest ks h e go =
      opening (moved (append_assoc (kind_text kind) (41 ∷ parenthesised (is_compound x) (expression_text x)) rest)
      (cast_kind kind (operand (is_compound x) (expression_text x) (λ after. expression_tokens x after) (λ rest ks e go. lex_expression x rest ks h.0 e go) rest ks e go)))
  lex_expression (Infix site sign l r) rest ks h e go =
      moved (two (parenthesised (is_compound l) (expression_text l)) (infix_text sign) (parenthesised (is_compound r) (expression_text r)) rest)
      (operand (is_compound l) (expression_text l) (λ after. expression_tokens l after) (λ rest ks e go. lex_expression l rest ks h.0 e go) _ _ refl
      (blank (between sign (operand (is_compound r) (expression_text r) (λ after. expression_tokens r after) (λ rest ks e go. lex_expression r rest ks h.1 e go) rest ks e go))))
  lex_expression (Conditional site test a b) rest ks h e go =
      moved (three (parenthesised (is_compound test) (expression_text test)) (parenthesised (is_compound a) (expression_text a)) (parenthesised (is_compound b) (expression_text b)) rest)
      (operand (is_compound test) (expression_text test) (λ after. expression_tokens test after) (λ rest ks e go. lex_expression test rest ks h.0 e go) _ _ refl
      (blank (question (blank (operand (is_compound a) (expression_text a) (λ after. expression_tokens a after) (λ rest ks e go. lex_expression a rest ks h.1 e go) _ _ refl
      (blank (colon (blank (operand (is_compound b) (expression_text b) (λ after. expression_tokens b after) (λ rest ks e go. lex_expression b rest ks h.2 e go) rest ks e go)))))))))

  pub lex_arguments : (es : Expressions) (rest : List ℕ) (ks : List TokenKind) → ArePrintable es → IsApart rest → Lexes rest ks → Lexes (arguments_text [] es ++ rest) (arguments_tokens es ks)
  lex_arguments nothing rest ks h e go = go
  lex_arguments (also x es) rest ks h e go =
      moved (append_assoc (expression_text x) (arguments_text (codes ", ") es) rest) (lex_expression x _ _ h.0 (more_apart es rest e) (lex_more es rest ks h.1 e go))

  lex_more : (es : Expressions) (rest : List ℕ) (ks : List TokenKind) → ArePrintable es → IsApart rest → Lexes rest ks → Lexes (arguments_text (codes ", ") es ++ rest) (more_tokens es ks)
  lex_more nothing rest ks h e go = go
  lex_more (also x es) rest ks h e go =
      comma (blank (moved (append_assoc (expression_text x) (arguments_text (codes ", ") es) rest) (lex_expression x _ _ h.0 (more_apart es rest e) (lex_more es rest ks h.1 e go))))
