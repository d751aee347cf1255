-- The definition, byte by byte.
use Rattle.std.proofs.Common.{◌≡◌, ℕ, zero, suc, ◌+◌, ◌-◌, ◌<◌, List, ◌++◌, length, drop, get_or, Ok, Err, ap, refl, sym, ◌∙◌, append_assoc, arith}
use Rattle.std.proofs.lemmas.List.{at_drop_more, drop_more}
use Rattle.texts.specs.Tokens.{Token, Lexed, Piece, in_front, next, piece, tokens}

-- past a byte of the piece before
pub skips : (text : List ℕ) (skip at : ℕ) → 0 < skip → at < length text → tokens text skip at (drop at text) ≡ tokens text (skip - 1) (at + 1) (drop (at + 1) text)
skips text zero at h l = absurd (omega arith)
skips text (suc skip) at h l =
    let n : skip ≡ suc skip - 1 = omega arith in
    at_drop_more (tokens text (suc skip) at) text at 0 l ∙ ap (λ k. tokens text k (at + 1) (drop (at + 1) text)) n

-- a piece, and what follows its first byte
pub reads : (text : List ℕ) (at : ℕ) (p : Piece) → at < length text → p ≡ piece (get_or text at 0) (drop at text) → tokens text 0 at (drop at text) ≡ next text p at (λ skip. tokens text skip (at + 1) (drop (at + 1) text))
reads text at p l e =
    let split = at_drop_more (tokens text 0 at) text at 0 l in
    split
    ∙ ap (λ bytes. next text (piece (get_or text at 0) bytes) at (λ skip. tokens text skip (at + 1) (drop (at + 1) text))) (sym (drop_more text at 0 l))
    ∙ ap (λ q. next text q at (λ skip. tokens text skip (at + 1) (drop (at + 1) text))) (sym e)

pub in_front-twice : (a b : List Token) (l : Lexed) → in_front a (in_front b l) ≡ in_front (a ++ b) l
in_front-twice a b (Ok ts) = ap Ok (sym (append_assoc a b ts))
in_front-twice a b (Err e) = refl
