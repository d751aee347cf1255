-- A row has its tokens in order.
use Rattle.std.proofs.Common.{◌≡◌, ◌≢◌, ℕ, ◌+◌, ◌<◌, ◌≤◌, List, [], ◌∷◌, inl, inr, length, Bool, true, false, nat_lt, Ok, ap, refl, sym, ◌∙◌, arith, ltb-true, length-append}
use Rattle.std.specs.List.{Contains}
use Rattle.lines.specs.Bytes.{is_decimal_digit}
use Rattle.texts.specs.Signs.{Sign, signs}
use Rattle.texts.specs.Tokens.{TokenKind, Name, End, Word, Number, Mark, Token, token_at, tokens_of}
use Rattle.lines.specs.Bytes.{is_letter}
use Rattle.texts.specs.Reading.{IsWord, IsText, IsInOrder, Reads, ends, gap, token}
use Rattle.lines.proofs.Fronts.{both}
use Rattle.texts.proofs.Fits.{all_written, signs_written}
use Rattle.texts.proofs.Reading.{one_of, tokens_read}

written : (xs : List (List ℕ × Sign)) (x : List ℕ × Sign) → all_written xs ≡ true → Contains xs x → 0 < length x.0
written [] x h c = absurd (omega (arith, c.1))
written (y ∷ xs) x h c =
    let b = both (nat_lt 0 (length y.0)) (all_written xs) h in
    elim (one_of y xs x c.0 c.1 c.2) [ inl k ↦ omega (arith, ltb-true 0 (length y.0) b.0, ap (λ z. length z.0) k) | inr d ↦ written xs x b.1 d ]

pub word_written : (first : ℕ → Bool) (bytes rest : List ℕ) → first 0 ≡ false → IsWord first bytes rest → 0 < length bytes
word_written first [] rest h w = cc (sym h ∙ w.1)
word_written first (b ∷ bytes) rest h w = omega arith

pub text_written : (kind : TokenKind) (bytes rest : List ℕ) → IsText kind bytes rest → 0 < length bytes
text_written (Name name) bytes rest t = word_written is_letter bytes rest refl t.0
text_written (Word w) bytes rest t = word_written is_letter bytes rest refl t.0
text_written (Number n) bytes rest t = word_written is_decimal_digit bytes rest refl t.0
text_written (Mark s) bytes rest t = written signs (bytes, s) signs_written t.0
text_written End bytes rest t = absurd t

not_end : (kind : TokenKind) (bytes rest : List ℕ) → IsText kind bytes rest → kind ≢ End
not_end (Name name) bytes rest t e = cc
not_end (Word w) bytes rest t e = cc
not_end (Number n) bytes rest t e = cc
not_end (Mark s) bytes rest t e = cc
not_end End bytes rest t e = t

earlier : (n at to : ℕ) (ts : List Token) → at ≤ to → IsInOrder n to ts → IsInOrder n at ts
earlier n at to [] h o = o
earlier n at to (t ∷ []) h o = (o.0, omega (arith, o.1), o.2, o.3)
earlier n at to (t ∷ u ∷ ts) h o = (o.0, omega (arith, o.1), o.2, o.3)

after_token : (text : List ℕ) (at n count : ℕ) (kind : TokenKind) (ts : List Token) → 0 < count → kind ≢ End → IsInOrder n (at + count) ts → IsInOrder n at (token_at text kind at count ∷ ts)
after_token text at n count kind [] h k o = absurd o
after_token text at n count kind (u ∷ ts) h k o = (k, omega arith, omega arith, o)

ordered : (text : List ℕ) (at : ℕ) (bytes : List ℕ) (ts : List Token) → Reads text at bytes ts → at + length bytes ≡ length text → IsInOrder (length text) at ts
ordered text _ _ _ (ends at) l = (refl, omega (arith, l), omega (arith, l), omega (arith, l))
ordered text _ _ _ (gap at front rest ts g r) l =
    earlier (length text) at (at + length front) ts (omega arith) (ordered text (at + length front) rest ts r (omega (arith, l, length-append front rest)))
ordered text _ _ _ (token at kind front rest us t r) l =
    after_token text at (length text) (length front) kind us (text_written kind front rest t) (not_end kind front rest t)
    (ordered text (at + length front) rest us r (omega (arith, l, length-append front rest)))

pub tokens_ordered : (text : List ℕ) (ts : List Token) → tokens_of text ≡ Ok ts → IsInOrder (length text) 0 ts
tokens_ordered text ts e = ordered text 0 text ts (tokens_read text ts e).1 (omega arith)
