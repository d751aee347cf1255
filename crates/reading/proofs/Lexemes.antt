-- The tokens that the lexer gives are those that the parser reads.
use Rattle.std.proofs.Common.{◌≡◌, List, [], ◌∷◌, map, refl, ap}
use Rattle.lexer.specs.Seen.{token}
use Rattle.lexer.specs.declared.Token.{Token}
use Rattle.texts.specs.Lexemes as texts
use Rattle.parser.specs.View as parser

pub lexemes-same : (ts : List Token) → texts.lexemes (map token ts) ≡ parser.lexemes ts
lexemes-same [] = refl
lexemes-same (t ∷ ts) = ap (λ x. texts.lexeme (token t) ∷ x) (lexemes-same ts)

pub ruleset lexemes_seen = (lexemes-same)
