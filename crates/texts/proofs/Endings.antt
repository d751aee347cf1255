-- The lexemes of a text: one end, and no more than bytes and one.
use Rattle.std.proofs.Common.{◌≡◌, ◌≤◌, ℕ, ◌+◌, ◌∷◌, List, [], length, Ok, sym, subst, arith}
use Rattle.texts.specs.Tokens.{Token, tokens_of}
use Rattle.texts.specs.Lexemes.{lexemes}
use Rattle.texts.specs.Ended.{EndsOnce, ends, goes_on, IsShort}
use Rattle.texts.specs.Reading.{IsInOrder}
use Rattle.texts.proofs.Order.{tokens_ordered}
use Rattle.texts.proofs.Reading.{tokens_read}

ended : (n at : ℕ) (tokens : List Token) → IsInOrder n at tokens → EndsOnce (lexemes tokens)
ended n at [] h = absurd h
ended n at (t ∷ []) h = subst (λ kind. EndsOnce (record { kind = kind; site = t.site } ∷ [])) (sym h.0) (ends t.site)
ended n at (t ∷ u ∷ ts) h = goes_on h.0 (ended n t.stop (u ∷ ts) h.3)

few : (n at : ℕ) (tokens : List Token) → IsInOrder n at tokens → at + length (lexemes tokens) ≤ n + 1
few n at [] h = absurd h
few n at (t ∷ []) h = omega (arith, h.1)
few n at (t ∷ u ∷ ts) h = omega (arith, h.1, h.2, few n t.stop (u ∷ ts) h.3)

pub lexemes_ended : (text : List ℕ) (tokens : List Token) → tokens_of text ≡ Ok tokens → EndsOnce (lexemes tokens) × IsShort (lexemes tokens)
lexemes_ended text tokens e =
    let order = tokens_ordered text tokens e in
    (ended (length text) 0 tokens order, omega (arith, few (length text) 0 tokens order, (tokens_read text tokens e).0))
