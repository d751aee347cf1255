-- The reading of tokens, piece by piece.
use Rattle.std.proofs.Common.{◌≡◌, ℕ, zero, suc, ◌+◌, ◌-◌, ◌<◌, List, [], ◌∷◌, ◌++◌, length, drop, get_or, true, false, Ok, Err, ap, refl, sym, ◌∙◌, append_assoc, arith}
use Rattle.std.proofs.lemmas.List.{at_drop_more, drop_more}
use Rattle.semantics.specs.Core.{Site}
use Rattle.opencl_tokens.specs.Faults.{TextFault, Answered, in_front}
use Rattle.opencl_tokens.specs.Tokens.{TokenKind, Token}
use Rattle.opencl_tokens.specs.Pieces.{Piece, Blank, Line, Has, Bad, piece}
use Rattle.opencl_tokens.specs.Scanning.{Lead, lead, site_at, token_of, next, tokens}

-- past a byte of the piece before
pub skips : (sites : List Site) (bytes : List ℕ) (at skip : ℕ) (before : Lead) → 0 < skip → at < length bytes →
    tokens sites before skip at (drop at bytes) ≡ tokens sites before (skip - 1) (at + 1) (drop (at + 1) bytes)
skips sites bytes at zero before h l = absurd (omega arith)
skips sites bytes at (suc skip) before h l =
    let n : skip ≡ suc skip - 1 = omega arith in
    at_drop_more (tokens sites before (suc skip) at) bytes at 0 l ∙ ap (λ k. tokens sites before k (at + 1) (drop (at + 1) bytes)) n

-- a piece, and what follows its first byte
reads : (sites : List Site) (bytes : List ℕ) (at : ℕ) (p : Piece) (before : Lead) → at < length bytes →
    p ≡ piece (get_or bytes at 0) (drop at bytes) → tokens sites before 0 at (drop at bytes)
    ≡ next p (site_at sites at) before (λ behind skip. tokens sites behind skip (at + 1) (drop (at + 1) bytes))
reads sites bytes at p before l e =
    at_drop_more (tokens sites before 0 at) bytes at 0 l
    ∙ ap (λ rest. next (piece (get_or bytes at 0) rest) (site_at sites at) before
    (λ behind skip. tokens sites behind skip (at + 1) (drop (at + 1) bytes))) (sym (drop_more bytes at 0 l))
    ∙ ap (λ q. next q (site_at sites at) before (λ behind skip. tokens sites behind skip (at + 1) (drop (at + 1) bytes))) (sym e)

pub in_front-twice : {X : Type 0} (a b : List X) (answer : Answered X) → in_front a (in_front b answer) ≡ in_front (a ++ b) answer
in_front-twice a b (Ok rest) = ap Ok (sym (append_assoc a b rest))
in_front-twice a b (Err e) = refl

pub past_blank : (sites : List Site) (bytes : List ℕ) (at count skip : ℕ) (before after : Lead) (front new : List Token) →
    at < length bytes → Blank count ≡ piece (get_or bytes at 0) (drop at bytes) → after ≡ lead before.begins_line true → skip ≡ count - 1 →
    new ≡ front → in_front front (tokens sites before 0 at (drop at bytes))
    ≡ in_front new (tokens sites after skip (at + 1) (drop (at + 1) bytes))
past_blank sites bytes at count skip before after front new l e a s n = rw (a, s, n)
    (ap (in_front front) (reads sites bytes at (Blank count) before l e))

pub past_line : (sites : List Site) (bytes : List ℕ) (at skip : ℕ) (before after : Lead) (front new : List Token) → at < length bytes →
    Line ≡ piece (get_or bytes at 0) (drop at bytes) → after ≡ lead true true → skip ≡ 0 → new ≡ front →
    in_front front (tokens sites before 0 at (drop at bytes)) ≡ in_front new (tokens sites after skip (at + 1) (drop (at + 1) bytes))
past_line sites bytes at skip before after front new l e a s n = rw (a, s, n) (ap (in_front front) (reads sites bytes at Line before l e))

pub past_token : (sites : List Site) (bytes : List ℕ) (at count skip : ℕ) (kind : TokenKind) (before after : Lead)
    (front new : List Token) → at < length bytes → Has kind count ≡ piece (get_or bytes at 0) (drop at bytes) → after ≡ lead false false →
    skip ≡ count - 1 → new ≡ front ++ token_of kind (site_at sites at) before ∷ [] →
    in_front front (tokens sites before 0 at (drop at bytes)) ≡ in_front new (tokens sites after skip (at + 1) (drop (at + 1) bytes))
past_token sites bytes at count skip kind before after front new l e a s n =
    rw (a, s, n) (ap (in_front front) (reads sites bytes at (Has kind count) before l e)
    ∙ in_front-twice front (token_of kind (site_at sites at) before ∷ [])
    (tokens sites (lead false false) (count - 1) (at + 1) (drop (at + 1) bytes)))

pub stops : (sites : List Site) (bytes : List ℕ) (at : ℕ) (fault : TextFault) (before : Lead) (front : List Token) → at < length bytes →
    Bad fault ≡ piece (get_or bytes at 0) (drop at bytes) → in_front front (tokens sites before 0 at (drop at bytes))
    ≡ Err (fault, site_at sites at)
stops sites bytes at fault before front l e = ap (in_front front) (reads sites bytes at (Bad fault) before l e)
