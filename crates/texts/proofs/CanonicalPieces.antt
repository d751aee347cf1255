-- The tokens of bytes, piece by piece from the front.
use Rattle.std.proofs.Common.{◌≡◌, ℕ, suc, ◌+◌, ◌-◌, List, [], ◌∷◌, ◌++◌, length, map, Ok, ap, refl, ◌∙◌, arith}
use Rattle.texts.specs.Tokens.{TokenKind, End, Token, Has, Gap, in_front, next, piece, tokens, token_at}

-- the tokens of these bytes are of these kinds, wherever they stand
pub record Lexes (bytes : List ℕ) (kinds : List TokenKind) : Type 0 where
  pub at_once : (text : List ℕ) (at : ℕ) → (ts : List Token) × (tokens text 0 at bytes ≡ Ok ts) × (map (λ t. t.kind) ts ≡ kinds)

over : (text : List ℕ) (at : ℕ) (front rest : List ℕ) → tokens text (length front) at (front ++ rest) ≡ tokens text 0 (at + length front) rest
over text at [] rest = ap (λ k. tokens text 0 k rest) (omega arith)
over text at (b ∷ front) rest = over text (at + 1) front rest ∙ ap (λ k. tokens text 0 k rest) (omega arith)

pub lex_end : Lexes [] (End ∷ [])
lex_end = record { at_once = λ text at. (token_at text End at 0 ∷ [], refl, refl) }

pub lex_piece : (kind : TokenKind) (b : ℕ) (front rest : List ℕ) (ks : List TokenKind) → piece b (b ∷ (front ++ rest)) ≡ Has kind (suc (length front)) → Lexes rest ks → Lexes (b ∷ (front ++ rest)) (kind ∷ ks)
lex_piece kind b front rest ks e go = record {
  at_once = λ text at.
      let r = go.at_once text (at + 1 + length front) in
      let n : suc (length front) - 1 ≡ length front = omega arith in (
        token_at text kind at (suc (length front)) ∷ r.0,
        ap (λ p. next text p at (λ skip. tokens text skip (at + 1) (front ++ rest))) e
            ∙ ap (λ k. in_front (token_at text kind at (suc (length front)) ∷ []) (tokens text k (at + 1) (front ++ rest))) n
            ∙ ap (in_front (token_at text kind at (suc (length front)) ∷ [])) (over text (at + 1) front rest ∙ r.1),
        ap (λ xs. kind ∷ xs) r.2,
      );
}

pub lex_gap : (b : ℕ) (rest : List ℕ) (ks : List TokenKind) → piece b (b ∷ rest) ≡ Gap 1 → Lexes rest ks → Lexes (b ∷ rest) ks
lex_gap b rest ks e go = record {
  at_once = λ text at.
      let r = go.at_once text (at + 1) in
      (r.0, ap (λ p. next text p at (λ skip. tokens text skip (at + 1) rest)) e ∙ r.1, r.2);
}
