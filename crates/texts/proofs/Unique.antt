-- A text has one row: that of the definition.
use Rattle.std.proofs.Common.{◌≡◌, ℕ, suc, ◌+◌, ◌-◌, ◌≤◌, ◌<◌, zero, List, [], ◌∷◌, ◌++◌, inl, inr, length, take, drop, Bool, true, false, cond, not, nat_lt, ◌&&◌, Option, Some, None, Ok, ap, refl, sym, subst, ◌∙◌, arith, length-append}
use Rattle.std.specs.Prelude.{codes}
use Rattle.std.specs.List.{prefix_len, find, Contains}
use Rattle.std.specs.Str.{bytes_eq}
use Rattle.std.proofs.lemmas.Bool.{cond_both, cond-true, cond-false, false≢true}
use Rattle.std.proofs.lemmas.Bool.Decides.{Decides-eqb, nat_tests}
use Rattle.std.proofs.lemmas.List.{take_at, drop_at}
use Rattle.std.proofs.lemmas.Slice.Eq.{bytes_eq-Decides, starts_is}
use Rattle.lines.specs.Bytes.{is_decimal_digit}
use Rattle.texts.specs.Reserved.{Reserved, reserved_words}
use Rattle.texts.specs.Signs.{Sign, signs}
use Rattle.texts.specs.Tokens.{TokenKind, Name, End, Word, Number, Mark, Token, Piece, Gap, Has, piece, next, tokens, tokens_of, token_at, in_front, begins_with, is_blank, is_line_feed, comment_end, comment_piece, comment_gap, gap_without, first_place, joins_lines, leaves_line, goes_on, number_before, number_piece, word_kind, sign_piece}
use Rattle.lines.specs.Bytes.{is_letter, is_word_byte}
use Rattle.texts.specs.Reading.{IsLongestRun, IsWord, IsGap, blank, line_comment, comment, IsText, Reads, ends, gap, token}
use Rattle.lines.proofs.Fronts.{begins, both}
use Rattle.texts.proofs.Reading.{same_two, found, not_found, one_of, longest, signs_fall, after}
use Rattle.texts.proofs.Order.{text_written}

one_more : (b : Bool) (m n k : ℕ) → cond b (1 + m) 0 ≡ suc k → (m ≡ k → n ≡ k) → cond b (1 + n) 0 ≡ suc k
one_more true m n k h f = let e : n ≡ k = f (omega arith) in omega arith
one_more false m n k h f = absurd (omega arith)

run_back : (p : ℕ → Bool) (bytes rest : List ℕ) → IsLongestRun p bytes rest → prefix_len p (bytes ++ rest) ≡ length bytes
run_back p [] rest h = h.1
run_back p (x ∷ xs) rest h = one_more (p x) (prefix_len p xs) (prefix_len p (xs ++ rest)) (length xs) h.0 (λ e. run_back p xs rest (e, h.1))

comment_back : (k m : ℕ) (body rest : List ℕ) → comment_end k (body ++ codes "*/") ≡ Some (k + length body + 2) → comment_end m (body ++ codes "*/" ++ rest) ≡ Some (m + length body + 2)
comment_back k m [] rest = λ e. ap Some (omega arith)
comment_back k m (b ∷ body) rest =
    cond_both (begins_with (b ∷ (body ++ codes "*/")) (codes "*/")) (Some (k + 2)) (comment_end (k + 1) (body ++ codes "*/")) (λ o. o ≡ Some (k + suc (length body) + 2) → comment_end m (b ∷ (body ++ codes "*/" ++ rest)) ≡ Some (m + suc (length body) + 2))
    (λ i e. let q : k + 2 ≡ k + suc (length body) + 2 = cc in absurd (omega arith))
    (λ i e.
    let ih = comment_back (k + 1) (m + 1) body rest (e ∙ ap Some (omega arith)) in
    cond-false (begins_with (b ∷ (body ++ codes "*/" ++ rest)) (codes "*/")) (Some (m + 2)) (comment_end (m + 1) (body ++ codes "*/" ++ rest)) (same_two b body rest ∙ i) ∙ ih ∙ ap Some (omega arith))

-- the piece at the front of `bytes`, which are not empty, and the rest
abbrev Begins : (bytes rest : List ℕ) → Piece → Type 0
Begins [] rest p = ⊥
Begins (b ∷ bytes) rest p = piece b (b ∷ (bytes ++ rest)) ≡ p

-- where none of the bytes passes, no place is found
none_found : (test : List ℕ → Bool) (at n : ℕ) (bytes : List ℕ) → ((k : ℕ) → k < n → test (drop k bytes) ≡ false) → first_place test at n bytes ≡ None
none_found test at zero bytes h = refl
none_found test at (suc n) [] h = refl
none_found test at (suc n) (b ∷ bytes) h = cond-false (test (b ∷ bytes)) _ _ (h 0 (omega arith)) ∙ none_found test (at + 1) n bytes (λ k l. h (suc k) (omega (arith, l)))

gap_found : (test : List ℕ → Bool) (found count : ℕ) (all : List ℕ) → found ≡ count → ((k : ℕ) → k < count → test (drop k all) ≡ false) → gap_without test found all ≡ Gap count
gap_found test found count all e h = ap (λ n. gap_without test n all) e ∙ ap (λ o. comment_gap o count) (none_found test 0 count all h)

gap_back : (bytes rest : List ℕ) → IsGap bytes rest → Begins bytes rest (Gap (length bytes))
gap_back _ _ (blank b rest h) = cond-true (is_blank b) _ _ h
gap_back _ _ (line_comment line rest h w) =
    gap_found leaves_line _ (length (codes "//" ++ line)) (codes "//" ++ line ++ rest) (omega (arith, run_back (λ b. not (is_line_feed b)) line rest h)) w
gap_back _ _ (comment body rest h w) =
    let all = codes "/*" ++ body ++ codes "*/" ++ rest in
    ap (comment_piece all) (comment_back 0 2 body rest (h ∙ ap Some (omega arith)))
    ∙ gap_found joins_lines _ (length (codes "/*" ++ body ++ codes "*/")) all (omega (arith, length-append body (codes "*/"))) w

-- no two entries of the tables are written alike
abbrev differs : {X : Type 0} → List ℕ → List (List ℕ × X) → Bool
differs bytes [] = true
differs bytes (x ∷ xs) = not (bytes_eq bytes x.0) && differs bytes xs

abbrev apart : {X : Type 0} → List (List ℕ × X) → Bool
apart [] = true
apart (x ∷ xs) = differs x.0 xs && apart xs

words_apart : apart reserved_words ≡ true
unfolding reserved_words
words_apart = refl

signs_apart : apart signs ≡ true
unfolding signs
signs_apart = refl

alone : {X : Type 0} (bytes : List ℕ) (xs : List (List ℕ × X)) (x : List ℕ × X) → differs bytes xs ≡ true → Contains xs x → x.0 ≡ bytes → ⊥
alone bytes [] x h c e = omega (arith, c.1)
alone bytes (y ∷ xs) x h c e =
    let b = both (not (bytes_eq bytes y.0)) (differs bytes xs) h in
    elim (one_of y xs x c.0 c.1 c.2) [
      | inl k ↦ false≢true (sym (ap not ((bytes_eq-Decides bytes y.0).1 (sym (ap (λ z. z.0) k ∙ e)))) ∙ b.0)
      | inr d ↦ alone bytes xs x b.1 d e
    ]

unique : {X : Type 0} (xs : List (List ℕ × X)) (x y : List ℕ × X) → apart xs ≡ true → Contains xs x → Contains xs y → x.0 ≡ y.0 → x.1 ≡ y.1
unique [] x y h c d e = absurd (omega (arith, c.1))
unique (z ∷ xs) x y h c d e =
    let b = both (differs z.0 xs) (apart xs) h in
    elim (one_of z xs x c.0 c.1 c.2) [
      | inl k ↦ elim (one_of z xs y d.0 d.1 d.2) [
        | inl l ↦ ap (λ z. z.1) (sym k ∙ l)
        | inr l ↦ absurd (alone z.0 xs y b.0 l (sym e ∙ sym (ap (λ z. z.0) k)))
      ]
      | inr k ↦ elim (one_of z xs y d.0 d.1 d.2) [
        | inl l ↦ absurd (alone z.0 xs x b.0 k (e ∙ sym (ap (λ z. z.0) l)))
        | inr l ↦ unique xs x y b.1 k l e
      ]
    ]

-- a letter or digit is no blank, a digit no letter
letter : (b : ℕ) → is_letter b ≡ true → is_blank b ≡ false
letter b h = grind (arith, nat_tests)

digit : (b : ℕ) → is_decimal_digit b ≡ true → (is_blank b ≡ false) × (is_letter b ≡ false)
digit b h = (grind (arith, nat_tests), grind (arith, nat_tests))

-- a word that no entry has is not found
unlisted : (bytes : List ℕ) (o : Option (List ℕ × Reserved)) → find (λ entry. bytes_eq entry.0 bytes) reserved_words ≡ o → ((word : Reserved) → ¬ (Contains reserved_words (bytes, word))) → word_kind bytes o ≡ Name bytes
unlisted bytes None e h = refl
unlisted bytes (Some entry) e h =
    let r = found (λ entry. bytes_eq entry.0 bytes) reserved_words entry e in
    absurd (h entry.1 (subst (λ xs. Contains reserved_words (xs, entry.1)) ((bytes_eq-Decides entry.0 bytes).0 r.1) r.0))

listed : (bytes : List ℕ) (word : Reserved) (o : Option (List ℕ × Reserved)) → find (λ entry. bytes_eq entry.0 bytes) reserved_words ≡ o → Contains reserved_words (bytes, word) → word_kind bytes o ≡ Word word
listed bytes word None e c = absurd (false≢true (sym (not_found (λ entry. bytes_eq entry.0 bytes) reserved_words (bytes, word) e c) ∙ (bytes_eq-Decides bytes bytes).1 refl))
listed bytes word (Some entry) e c =
    let r = found (λ entry. bytes_eq entry.0 bytes) reserved_words entry e in
    ap Word (unique reserved_words entry (bytes, word) words_apart r.0 c ((bytes_eq-Decides entry.0 bytes).0 r.1))

letter_back : (b : ℕ) (bytes rest : List ℕ) (kind : TokenKind) → IsWord is_letter (b ∷ bytes) rest → word_kind (b ∷ bytes) (find (λ entry. bytes_eq entry.0 (b ∷ bytes)) reserved_words) ≡ kind → Begins (b ∷ bytes) rest (Has kind (suc (length bytes)))
letter_back b bytes rest kind w k =
    let all : List ℕ = b ∷ (bytes ++ rest) in
    let n = run_back is_word_byte (b ∷ bytes) rest w.0 in
    let same = ap (λ n. take n all) n ∙ take_at (b ∷ bytes) rest (suc (length bytes)) refl in
    cond-false (is_blank b) _ _ (letter b w.1) ∙ cond-true (is_letter b) _ _ w.1
    ∙ ap (λ xs. Has (word_kind xs (find (λ entry. bytes_eq entry.0 xs) reserved_words)) (prefix_len is_word_byte all)) same
    ∙ ap (λ k. Has k (prefix_len is_word_byte all)) k ∙ ap (Has kind) n

-- no sign begins as a blank or a word does
abbrev is_plain : List ℕ → Bool
is_plain [] = false
is_plain (b ∷ bytes) = not (is_blank b) && (not (is_letter b) && not (is_decimal_digit b))

abbrev all_plain : List (List ℕ × Sign) → Bool
all_plain [] = true
all_plain (x ∷ xs) = is_plain x.0 && all_plain xs

signs_plain : all_plain signs ≡ true
unfolding signs
signs_plain = refl

plain : (xs : List (List ℕ × Sign)) (x : List ℕ × Sign) → all_plain xs ≡ true → Contains xs x → is_plain x.0 ≡ true
plain [] x h c = absurd (omega (arith, c.1))
plain (y ∷ xs) x h c =
    let b = both (is_plain y.0) (all_plain xs) h in
    elim (one_of y xs x c.0 c.1 c.2) [ inl k ↦ ap (λ z. is_plain z.0) (sym k) ∙ b.0 | inr d ↦ plain xs x b.1 d ]

negated : (b : Bool) → not b ≡ true → b ≡ false
negated true h = sym h
negated false h = refl

sign_back : (all bytes : List ℕ) (sign : Sign) (o : Option (List ℕ × Sign)) → find (λ entry. begins_with all entry.0) signs ≡ o → Contains signs (bytes, sign) → begins_with all bytes ≡ true → ((other : List ℕ × Sign) → Contains signs other → begins_with all other.0 ≡ true → length other.0 ≤ length bytes) → sign_piece o ≡ Has (Mark sign) (length bytes)
sign_back all bytes sign None e c h l = absurd (false≢true (sym (not_found (λ entry. begins_with all entry.0) signs (bytes, sign) e c) ∙ h))
sign_back all bytes sign (Some entry) e c h l =
    let r = found (λ entry. begins_with all entry.0) signs entry e in
    let n : length entry.0 ≡ length bytes = omega (arith, l entry r.0 r.1, longest (λ entry. begins_with all entry.0) signs entry (bytes, sign) signs_fall e c h) in
    let front = λ (xs : List ℕ) (h : begins_with all xs ≡ true). ap (take (length xs)) (begins all xs h) ∙ take_at xs (drop (length xs) all) (length xs) refl in
    let same : entry.0 ≡ bytes = sym (front entry.0 r.1) ∙ ap (λ n. take n all) n ∙ front bytes h in
    ap (λ s. Has (Mark s) (length entry.0)) (unique signs entry (bytes, sign) signs_apart r.0 c same) ∙ ap (λ xs. Has (Mark sign) (length xs)) same

text_back : (kind : TokenKind) (bytes rest : List ℕ) → IsText kind bytes rest → Begins bytes rest (Has kind (length bytes))
text_back kind [] rest t = omega (arith, text_written kind [] rest t)
text_back (Name name) (b ∷ bytes) rest t = letter_back b bytes rest (Name name) t.0 (unlisted (b ∷ bytes) _ refl t.1 ∙ ap Name (sym t.2))
text_back (Word word) (b ∷ bytes) rest t = letter_back b bytes rest (Word word) t.0 (listed (b ∷ bytes) word _ refl t.1)
text_back (Number literal) (b ∷ bytes) rest t =
    let all : List ℕ = b ∷ (bytes ++ rest) in
    let n = run_back is_word_byte (b ∷ bytes) rest t.0.0 in
    let same = ap (λ n. take n all) n ∙ take_at (b ∷ bytes) rest (suc (length bytes)) refl in
    let behind = ap (λ n. drop n all) n ∙ drop_at (b ∷ bytes) rest (suc (length bytes)) refl in
    cond-false (is_blank b) _ _ (digit b t.0.1).0 ∙ cond-false (is_letter b) _ _ (digit b t.0.1).1 ∙ cond-true (is_decimal_digit b) _ _ t.0.1
    ∙ ap (λ xs. number_piece (number_before xs (drop (prefix_len is_word_byte all) all)) (prefix_len is_word_byte all)) same
    ∙ ap (λ xs. number_piece (number_before (b ∷ bytes) xs) (prefix_len is_word_byte all)) behind
    ∙ ap (λ r. number_piece r (prefix_len is_word_byte all)) (cond-false (goes_on (b ∷ bytes) rest) _ _ t.1 ∙ t.2) ∙ ap (Has (Number literal)) n
text_back (Mark sign) (b ∷ bytes) rest t =
    let p = both (not (is_blank b)) (not (is_letter b) && not (is_decimal_digit b)) (plain signs (b ∷ bytes, sign) signs_plain t.0) in
    let q = both (not (is_letter b)) (not (is_decimal_digit b)) p.1 in
    cond-false (is_blank b) _ _ (negated _ p.0) ∙ cond-false (is_letter b) _ _ (negated _ q.0) ∙ cond-false (is_decimal_digit b) _ _ (negated _ q.1)
    ∙ cond-false (begins_with (b ∷ (bytes ++ rest)) (codes "//")) _ _ t.2 ∙ cond-false (begins_with (b ∷ (bytes ++ rest)) (codes "/*")) _ _ t.3
    ∙ sign_back (b ∷ (bytes ++ rest)) (b ∷ bytes) sign _ refl t.0 ((starts_is Decides-eqb (b ∷ (bytes ++ rest)) (b ∷ bytes) _ refl).1 rest refl) t.1
text_back End (b ∷ bytes) rest t = absurd t

past_front : (text : List ℕ) (at b : ℕ) (bytes rest : List ℕ) → tokens text (suc (length bytes) - 1) (at + 1) (bytes ++ rest) ≡ tokens text 0 (at + suc (length bytes)) rest
past_front text at b bytes rest =
    after text (suc (length bytes)) at b (bytes ++ rest) (omega arith, omega (arith, length-append bytes rest))
    ∙ ap (tokens text 0 (at + suc (length bytes))) (drop_at (b ∷ bytes) rest (suc (length bytes)) refl)

front_gap : (text : List ℕ) (at : ℕ) (bytes rest : List ℕ) (ts : List Token) → Begins bytes rest (Gap (length bytes)) → tokens text 0 (at + length bytes) rest ≡ Ok ts → tokens text 0 at (bytes ++ rest) ≡ Ok ts
front_gap text at [] rest ts p r = absurd p
front_gap text at (b ∷ bytes) rest ts p r =
    ap (λ q. next text q at (λ skip. tokens text skip (at + 1) (bytes ++ rest))) p ∙ past_front text at b bytes rest ∙ r

front_token : (text : List ℕ) (at : ℕ) (kind : TokenKind) (bytes rest : List ℕ) (ts : List Token) → Begins bytes rest (Has kind (length bytes)) → tokens text 0 (at + length bytes) rest ≡ Ok ts → tokens text 0 at (bytes ++ rest) ≡ Ok (token_at text kind at (length bytes) ∷ ts)
front_token text at kind [] rest ts p r = absurd p
front_token text at kind (b ∷ bytes) rest ts p r =
    ap (λ q. next text q at (λ skip. tokens text skip (at + 1) (bytes ++ rest))) p
    ∙ ap (in_front (token_at text kind at (suc (length bytes)) ∷ [])) (past_front text at b bytes rest ∙ r)

back : (text : List ℕ) (at : ℕ) (bytes : List ℕ) (ts : List Token) → Reads text at bytes ts → tokens text 0 at bytes ≡ Ok ts
back text _ _ _ (ends at) = refl
back text _ _ _ (gap at bytes rest ts g r) = front_gap text at bytes rest ts (gap_back bytes rest g) (back text (at + length bytes) rest ts r)
back text _ _ _ (token at kind bytes rest ts t r) = front_token text at kind bytes rest ts (text_back kind bytes rest t) (back text (at + length bytes) rest ts r)

pub reading_is_tokens : (text : List ℕ) (ts : List Token) → length text ≤ 65536 → Reads text 0 text ts → tokens_of text ≡ Ok ts
reading_is_tokens text ts h r =
    let short : nat_lt 65536 (length text) ≡ false = grind (arith, nat_tests) in
    cond-false (nat_lt 65536 (length text)) _ _ short ∙ back text 0 text ts r
