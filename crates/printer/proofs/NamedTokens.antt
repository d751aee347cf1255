-- The names of a text are identifiers that no reserved word has, its numbers are of their kinds.
use Rattle.std.proofs.Common.{◌≡◌, ℕ, pos, true, Ok, List, [], ◌∷◌, refl, sym, subst}
use Rattle.std.specs.Prelude.{Option, Some, None}
use Rattle.std.specs.List.{find, Contains}
use Rattle.std.specs.Str.{bytes_eq}
use Rattle.std.proofs.lemmas.Slice.Eq.{bytes_eq-Decides}
use Rattle.texts.specs.Numbers.{is_literal}
use Rattle.texts.specs.Tokens as token
use Rattle.texts.specs.Tokens.{TokenKind, Token, tokens_of}
use Rattle.texts.specs.Reserved.{Reserved, reserved_words}
use Rattle.texts.specs.Lexemes.{Lexeme, lexemes}
use Rattle.texts.specs.Reading.{IsText, Reads, ends, gap, token as one_token}
use Rattle.texts.specs.Spelling.{IsSpelt, AreSpelt}
use Rattle.texts.specs.CanonicalTokens.{IsName}
use Rattle.texts.proofs.Reading.{found, tokens_read}
use Rattle.texts.proofs.Spellings.{lexemes_spelt}

abbrev pub IsPrintableToken : TokenKind → Type 0
IsPrintableToken (token.Name x) = IsName x
IsPrintableToken (token.Number l) = is_literal l.kind l.value ≡ true
IsPrintableToken token.End = Unit {0}
IsPrintableToken (token.Word w) = Unit {0}
IsPrintableToken (token.Mark s) = Unit {0}

abbrev pub ArePrintableTokens : List Lexeme → Type 0
ArePrintableTokens [] = Unit {0}
ArePrintableTokens (t ∷ ts) = IsPrintableToken t.kind × ArePrintableTokens ts

not-found : (x : List ℕ) (o : Option (List ℕ × Reserved)) → find (λ entry. bytes_eq entry.0 x) reserved_words ≡ o → ((word : Reserved) → ¬ (Contains reserved_words (x, word))) → o ≡ None
not-found x None e h = refl
not-found x (Some entry) e h =
    let r = found (λ entry. bytes_eq entry.0 x) reserved_words entry e in
    absurd (h entry.1 (subst (λ xs. Contains reserved_words (xs, entry.1)) ((bytes_eq-Decides entry.0 x).0 r.1) r.0))

printable : (kind : TokenKind) (bytes rest : List ℕ) → IsText kind bytes rest → IsSpelt kind → IsPrintableToken kind
printable (token.Name x) bytes rest h s = (s, subst (λ y. find (λ entry. bytes_eq entry.0 y) reserved_words ≡ None) (sym h.2) (not-found bytes _ refl h.1))
printable (token.Number l) bytes rest h s = s
printable (token.Word w) bytes rest h s = tt
printable (token.Mark sign) bytes rest h s = tt
printable token.End bytes rest h s = tt

all-printable : (text : List ℕ) (at : ℕ) (bytes : List ℕ) (tokens : List Token) → Reads text at bytes tokens → AreSpelt (lexemes tokens) → ArePrintableTokens (lexemes tokens)
all-printable text at bytes tokens (ends n) s = (tt, tt)
all-printable text at bytes tokens (gap n some rest ts g h) s = all-printable text _ rest ts h s
all-printable text at bytes tokens (one_token n kind some rest ts g h) s = (printable kind some rest g s.0, all-printable text _ rest ts h s.1)

pub lexemes-printable : (text : List ℕ) (tokens : List Token) → tokens_of text ≡ Ok tokens → ArePrintableTokens (lexemes tokens)
lexemes-printable text tokens e = all-printable text 0 text tokens (tokens_read text tokens e).1 (lexemes_spelt text tokens e)
