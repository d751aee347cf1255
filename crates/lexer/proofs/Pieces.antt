-- One piece of a text after another.
use Rattle.std.proofs.Common.{◌≡◌, ℕ, suc, ◌+◌, ◌-◌, ◌<◌, ◌≤◌, List, [], ◌∷◌, ◌++◌, length, drop, get_or, take, Bool, true, false, cond, Some, Err, ap, sym, subst, ◌∙◌, arith, length-drop, IsAscii}
use Rattle.std.specs.Prelude.{codes, fold}
use Rattle.std.proofs.lemmas.Bool.Decides.{nat_tests}
use Rattle.std.proofs.lemmas.List.Sums.{prefix_len_passes, fold-append}
use Rattle.std.proofs.lemmas.Str.Ascii.{IsAscii-nil, IsAscii-cons}
use Rattle.std.proofs.lemmas.Bool.{cond-false, cond-true}
use Rattle.std.proofs.lemmas.List.{at_drop_more, drop_more, drop-take, take-append-drop, take-take}
use Rattle.std.specs.List.{prefix_len, find}
use Rattle.std.specs.Str.{bytes_eq}
use Rattle.texts.specs.Faults.{TextFault}
use Rattle.texts.specs.Reserved.{reserved_words}
use Rattle.texts.specs.Tokens.{TokenKind, Token, Site, site_of, first_site, past, Gap, Has, Bad, token_at, in_front, tokens, piece, begins_with, comment_end, first_place, is_blank, word_kind}
use Rattle.lines.specs.Bytes.{is_letter, is_word_byte}
use Rattle.texts.proofs.Fits.{Fits, piece_fits}
use Rattle.texts.proofs.Steps.{reads, in_front-twice}

-- a comment does not end at this byte
pub comment_more : (bytes : List ℕ) (i : ℕ) → i < length bytes → begins_with (drop i bytes) (codes "*/") ≡ false → comment_end i (drop i bytes) ≡ comment_end (i + 1) (drop (i + 1) bytes)
comment_more bytes i h no_end =
    let e : begins_with (get_or bytes i 0 ∷ drop (i + 1) bytes) (codes "*/") ≡ false = ap (λ xs. begins_with xs (codes "*/")) (sym (drop_more bytes i 0 h)) ∙ no_end in
    at_drop_more (comment_end i) bytes i 0 h ∙ cond-false _ (Some (i + 2)) (comment_end (i + 1) (drop (i + 1) bytes)) e

-- a word is reserved, or a name
pub word_piece : (b : ℕ) (bytes : List ℕ) (kind : TokenKind) (count : ℕ) → is_blank b ≡ false → is_letter b ≡ true → count ≡ prefix_len is_word_byte bytes → kind ≡ word_kind (take count bytes) (find (λ entry. bytes_eq entry.0 (take count bytes)) reserved_words) → Has kind count ≡ piece b bytes
word_piece b bytes kind count no_blank letter n e =
    ap (λ k. Has k count) e
    ∙ ap (λ n. Has (word_kind (take n bytes) (find (λ entry. bytes_eq entry.0 (take n bytes)) reserved_words)) n) n
    ∙ sym (cond-false (is_blank b) _ _ no_blank ∙ cond-true (is_letter b) _ _ letter)

pub stops : (text : List ℕ) (at : ℕ) (kind : TokenKind) (count : ℕ) → at < length text → Has kind count ≡ piece (get_or text at 0) (drop at text) → at + count ≤ length text
stops text at kind count h e =
    let split = drop_more text at 0 h in
    let fits = subst (Fits (suc (length (drop (at + 1) text)))) (sym (e ∙ ap (piece (get_or text at 0)) split)) (piece_fits (get_or text at 0) (drop (at + 1) text)) in
    omega (arith, fits.1, length-drop (at + 1) text)

pub past_gap : (text : List ℕ) (at count skip : ℕ) (front new : List Token) → at < length text → Gap count ≡ piece (get_or text at 0) (drop at text) → skip ≡ count - 1 → new ≡ front → in_front front (tokens text 0 at (drop at text)) ≡ in_front new (tokens text skip (at + 1) (drop (at + 1) text))
past_gap text at count skip front new h e s n = rw (s, n) (ap (in_front front) (reads text at (Gap count) h e))

pub past_token : (text : List ℕ) (at count skip : ℕ) (kind : TokenKind) (site : Site) (front new : List Token) → at < length text → Has kind count ≡ piece (get_or text at 0) (drop at text) → skip ≡ count - 1 → site ≡ site_of text at → new ≡ front ++ record { kind = kind; start = at; stop = at + count; site = site } ∷ [] → in_front front (tokens text 0 at (drop at text)) ≡ in_front new (tokens text skip (at + 1) (drop (at + 1) text))
past_token text at count skip kind site front new h e s here n =
    rw (s, n, here) (ap (in_front front) (reads text at (Has kind count) h e) ∙ in_front-twice front (token_at text kind at count ∷ []) (tokens text (count - 1) (at + 1) (drop (at + 1) text)))

-- word bytes are ASCII
small : (b : ℕ) → is_word_byte b ≡ true → b < 128
small b h = grind (arith, nat_tests)

pub word_ascii : (word : List ℕ) → prefix_len is_word_byte word ≡ length word → IsAscii word
word_ascii [] h = IsAscii-nil
word_ascii (b ∷ bytes) h =
    let first : is_word_byte b ≡ true = prefix_len_passes is_word_byte (b ∷ bytes) 0 0 (omega (arith, h)) in
    let more : prefix_len is_word_byte (b ∷ bytes) ≡ 1 + prefix_len is_word_byte bytes = ap (λ t. cond t (1 + prefix_len is_word_byte bytes) 0) first in
    IsAscii-cons b bytes (small b first) (word_ascii bytes (omega (arith, h, more)))

-- the first of the places from i on, where i is none
pub place_more : (test : List ℕ → Bool) (i count : ℕ) (bytes : List ℕ) → i < count → i < length bytes → test (drop i bytes) ≡ false → first_place test i (count - i) (drop i bytes) ≡ first_place test (i + 1) (count - (i + 1)) (drop (i + 1) bytes)
place_more test i count bytes h l fails =
    let n : count - i ≡ suc (count - (i + 1)) = omega arith in
    let split = drop_more bytes i 0 l in
    let fails' : test (get_or bytes i 0 ∷ drop (i + 1) bytes) ≡ false = ap test (sym split) ∙ fails in
    ap (λ k. first_place test i k (drop i bytes)) n ∙ ap (first_place test i (suc (count - (i + 1)))) split
    ∙ cond-false (test (get_or bytes i 0 ∷ drop (i + 1) bytes)) (Some i) _ fails'

-- and where i is one
pub place_here : (test : List ℕ → Bool) (i count : ℕ) (bytes : List ℕ) → i < count → i < length bytes → test (drop i bytes) ≡ true → first_place test i (count - i) (drop i bytes) ≡ Some i
place_here test i count bytes h l passes =
    let n : count - i ≡ suc (count - (i + 1)) = omega arith in
    let split = drop_more bytes i 0 l in
    let passes' : test (get_or bytes i 0 ∷ drop (i + 1) bytes) ≡ true = ap test (sym split) ∙ passes in
    ap (λ k. first_place test i k (drop i bytes)) n ∙ ap (first_place test i (suc (count - (i + 1)))) split
    ∙ cond-true (test (get_or bytes i 0 ∷ drop (i + 1) bytes)) (Some i) _ passes'

-- a fault stands in the text
pub stops_before : (text : List ℕ) (at : ℕ) (fault : TextFault) (count : ℕ) → at < length text → Bad fault count ≡ piece (get_or text at 0) (drop at text) → at + count ≤ length text
stops_before text at fault count h e =
    let split = drop_more text at 0 h in
    let fits = subst (Fits (suc (length (drop (at + 1) text)))) (sym (e ∙ ap (piece (get_or text at 0)) split)) (piece_fits (get_or text at 0) (drop (at + 1) text)) in
    omega (arith, fits, length-drop (at + 1) text)

-- and its place is that of its byte
pub site_further : (text : List ℕ) (at count : ℕ) → fold past (site_of text at) (take count (drop at text)) ≡ site_of text (at + count)
site_further text at count =
    let front : take at (take (at + count) text) ≡ take at text = take-take at (at + count) text (omega arith) in
    let parts : take at text ++ take count (drop at text) ≡ take (at + count) text = ap (λ xs. xs ++ take count (drop at text)) (sym front) ∙ ap (λ ys. take at (take (at + count) text) ++ ys) (sym (drop-take at count text)) ∙ take-append-drop at (take (at + count) text) in
    sym (fold-append past first_site (take at text) (take count (drop at text))) ∙ ap (fold past first_site) parts

pub past_fault : (text : List ℕ) (at count : ℕ) (fault : TextFault) (here found : Site) (front : List Token) → at < length text → Bad fault count ≡ piece (get_or text at 0) (drop at text) → here ≡ site_of text at → found ≡ fold past here (take count (drop at text)) → in_front front (tokens text 0 at (drop at text)) ≡ Err (fault, found)
past_fault text at count fault here found front h e s f =
    ap (in_front front) (reads text at (Bad fault count) h e) ∙ ap (λ p. Err (fault, p)) (sym (f ∙ ap (λ p. fold past p (take count (drop at text))) s ∙ site_further text at count))

pub same_rest : (at count : ℕ) → at + count - at ≡ count
same_rest at count = omega arith
