-- A piece has at least one byte, and no more than there are; its fault stands in the text.
use Rattle.std.proofs.Common.{◌≡◌, ℕ, suc, ◌+◌, ◌≤◌, ◌<◌, zero, false, not, ltb-true, length-drop, List, [], ◌∷◌, ◌++◌, length, drop, Bool, true, ◌&&◌, nat_lt, Option, Some, None, Result, Ok, Err, refl, sym, subst, arith}
use Rattle.std.specs.Prelude.{codes}
use Rattle.std.specs.List.{prefix_len, position_or_len, find}
use Rattle.std.proofs.lemmas.Bool.{cond_both}
use Rattle.std.proofs.lemmas.List.Prefix.{front_fits}
use Rattle.std.proofs.lemmas.List.Sums.{prefix_len-le-length}
use Rattle.lines.proofs.Fronts.{begins, both}
use Rattle.texts.specs.Signs.{Sign, signs}
use Rattle.texts.specs.Faults.{TextFault}
use Rattle.texts.specs.Numbers.{Literal}
use Rattle.texts.specs.Tokens.{Piece, Gap, Has, Bad, piece, begins_with, is_blank, is_line_feed, comment_end, comment_piece, comment_gap, gap_without, first_place, joins_lines, leaves_line, number_before, number_piece, sign_piece}
use Rattle.lines.specs.Bytes.{is_letter, is_word_byte}
use Rattle.lines.specs.Bytes.{is_decimal_digit}
use Rattle.std.specs.List.{take_while}

abbrev pub IsCount : (length count : ℕ) → Type 0
IsCount length count = (1 ≤ count) × (count ≤ length)

abbrev pub Fits : (length : ℕ) → Piece → Type 0
Fits length (Gap count) = IsCount length count
Fits length (Has kind count) = IsCount length count
Fits length (Bad fault before) = before ≤ length

pub word : (p : ℕ → Bool) (b : ℕ) (bytes : List ℕ) → p b ≡ true → IsCount (suc (length bytes)) (prefix_len p (b ∷ bytes))
word p b bytes h = rw h (omega arith, omega (arith, prefix_len-le-length p bytes))

comment : (at : ℕ) (bytes : List ℕ) (n : ℕ) → comment_end at bytes ≡ Some n → (at + 2 ≤ n) × (n ≤ at + length bytes)
comment at [] n = λ e. cc
comment at (b ∷ bytes) n =
    cond_both (begins_with (b ∷ bytes) (codes "*/")) (Some (at + 2)) (comment_end (at + 1) bytes) (λ o. o ≡ Some n → (at + 2 ≤ n) × (n ≤ at + suc (length bytes)))
    (λ h e. let k : at + 2 ≡ n = cc in (omega arith, omega (arith, front_fits (b ∷ bytes) (codes "*/") _ (begins (b ∷ bytes) (codes "*/") h))))
    (λ h e. let k = comment (at + 1) bytes n e in (omega arith, omega arith))

-- a comment has no more bytes than there are
pub comment_within : (all : List ℕ) (n : ℕ) → begins_with all (codes "/*") ≡ true → comment_end 2 (drop 2 all) ≡ Some n → IsCount (length all) n
comment_within all n h e =
    let k = comment 2 (drop 2 all) n e in
    let l = front_fits all (codes "/*") _ (begins all (codes "/*") h) in
    (omega (arith, k.0), omega (arith, k.1, l, length-drop 2 all))

pub line_within : (all : List ℕ) → begins_with all (codes "//") ≡ true → IsCount (length all) (position_or_len is_line_feed all)
line_within all h =
    subst (λ xs. IsCount (length xs) (position_or_len is_line_feed xs)) (sym (begins all (codes "//") h)) (omega arith, omega (arith, prefix_len-le-length (λ x. not (is_line_feed x)) (drop 2 all)))

-- a place is one of those that were looked at
place_within : (test : List ℕ → Bool) (at n : ℕ) (bytes : List ℕ) (k : ℕ) → first_place test at n bytes ≡ Some k → k < at + n
place_within test at zero bytes k = λ e. cc
place_within test at (suc n) [] k = λ e. cc
place_within test at (suc n) (b ∷ bytes) k =
    cond_both (test (b ∷ bytes)) (Some at) (first_place test (at + 1) n bytes) (λ o. o ≡ Some k → k < at + suc n)
    (λ h e. let q : at ≡ k = cc in omega arith) (λ h e. omega (arith, place_within test (at + 1) n bytes k e))

gap_fits : (test : List ℕ → Bool) (count : ℕ) (bytes : List ℕ) (n : ℕ) → IsCount n count → Fits n (gap_without test count bytes)
gap_fits test count bytes n h = by (first_place test 0 count bytes) refl
  where
    by : (o : Option ℕ) → first_place test 0 count bytes ≡ o → Fits n (comment_gap o count)
    by None e = h
    by (Some k) e = omega (arith, place_within test 0 count bytes k e, h.1)

comment_fits : (all : List ℕ) (o : Option ℕ) → ((n : ℕ) → o ≡ Some n → IsCount (length all) n) → Fits (length all) (comment_piece all o)
comment_fits all None h = omega arith
comment_fits all (Some n) h = gap_fits joins_lines n all (length all) (h n refl)

number_fits : (r : Result Literal TextFault) (length count : ℕ) → IsCount length count → Fits length (number_piece r count)
number_fits (Ok literal) length count h = h
number_fits (Err fault) length count h = omega arith

-- no sign is written by nothing
abbrev pub all_written : List (List ℕ × Sign) → Bool
all_written [] = true
all_written (entry ∷ entries) = nat_lt 0 (length entry.0) && all_written entries

pub signs_written : all_written signs ≡ true
unfolding signs
signs_written = refl

-- what `find` finds passes, and is written
sign_fits : (bytes : List ℕ) (entries : List (List ℕ × Sign)) → all_written entries ≡ true → Fits (length bytes) (sign_piece (find (λ entry. begins_with bytes entry.0) entries))
sign_fits bytes [] h = omega arith
sign_fits bytes (entry ∷ entries) h =
    cond_both (begins_with bytes entry.0) (Some entry) (find (λ entry. begins_with bytes entry.0) entries) (λ o. Fits (length bytes) (sign_piece o))
    (λ b. (omega (arith, ltb-true 0 (length entry.0) (both _ _ h).0), front_fits bytes entry.0 _ (begins bytes entry.0 b)))
    (λ b. sign_fits bytes entries (both _ _ h).1)

pub piece_fits : (b : ℕ) (bytes : List ℕ) → Fits (suc (length bytes)) (piece b (b ∷ bytes))
piece_fits b bytes =
    let all : List ℕ = b ∷ bytes in
    let P : Piece → Type 0 = Fits (suc (length bytes)) in
    cond_both (is_blank b) _ _ P (λ _. (omega arith, omega arith)) (λ _.
    cond_both (is_letter b) _ _ P (λ h. word is_word_byte b bytes (grind (arith, h))) (λ _.
    cond_both (is_decimal_digit b) _ _ P (λ h. number_fits (number_before (take_while is_word_byte all) (drop (prefix_len is_word_byte all) all)) _ _ (word is_word_byte b bytes (grind (arith, h)))) (λ _.
    cond_both (begins_with all (codes "//")) _ _ P (λ h. gap_fits leaves_line _ all _ (line_within all h)) (λ _.
    cond_both (begins_with all (codes "/*")) _ _ P (λ h. comment_fits all (comment_end 2 (drop 2 all)) (λ n e. comment_within all n h e)) (λ _.
    sign_fits all signs signs_written)))))
