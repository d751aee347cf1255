-- The definition reads a text as a row of blanks, comments and tokens.
use Rattle.std.proofs.Common.{◌≡◌, ℕ, zero, suc, ◌+◌, ◌-◌, ◌<◌, ◌≤◌, List, [], ◌∷◌, ◌++◌, length, take, drop, get_or, Bool, true, false, cond, not, ◌&&◌, nat_lt, nat_le, Option, Some, None, Result, Ok, Err, ap, refl, sym, subst, length-drop, ltb-false, ◌∙◌, arith, leb-true, ◌⊎◌, inl, inr}
use Rattle.std.specs.Prelude.{codes}
use Rattle.std.specs.List.{prefix_len, position_or_len, take_while, find, Contains}
use Rattle.std.specs.Str.{bytes_eq}
use Rattle.std.proofs.lemmas.Bool.{cond_both, false≢true}
use Rattle.std.proofs.lemmas.List.{take-append-drop, length-take-le, take_at, drop_at, get_or-take, length-append}
use Rattle.std.proofs.lemmas.List.Folds.{length-prefix_len}
use Rattle.std.proofs.lemmas.Slice.Eq.{bytes_eq-Decides}
use Rattle.texts.specs.Faults.{TextFault, BadNumber, TextTooLong}
use Rattle.texts.specs.Numbers.{Literal, number_of}
use Rattle.lines.specs.Bytes.{is_decimal_digit}
use Rattle.texts.specs.Reserved.{Reserved, reserved_words}
use Rattle.texts.specs.Signs.{Sign, signs}
use Rattle.texts.specs.Tokens.{TokenKind, End, tokens_of, first_site, Mark, Token, Lexed, Piece, Gap, Has, Bad, piece, next, tokens, token_at, in_front, begins_with, is_blank, is_line_feed, comment_end, comment_piece, comment_gap, gap_without, first_place, joins_lines, leaves_line, goes_on, number_before, number_piece, word_kind, sign_piece}
use Rattle.lines.specs.Bytes.{is_letter, is_word_byte}
use Rattle.texts.specs.Reading.{IsLongestRun, IsWord, IsWithout, IsGap, blank, line_comment, comment, IsText, Reads, ends, gap, token}
use Rattle.lines.proofs.Fronts.{begins, both}
use Rattle.texts.proofs.Fits.{Fits, IsCount, word, comment_within, line_within, piece_fits}

-- the bytes of a piece, and what follows
abbrev Means : List ℕ → Piece → Type 0
Means all (Gap count) = IsGap (take count all) (drop count all)
Means all (Has kind count) = IsText kind (take count all) (drop count all)
Means all (Bad fault before) = Unit {0}

by_parts : (P : List ℕ → List ℕ → Type 0) (all p q : List ℕ) (count : ℕ) → all ≡ p ++ q → length p ≡ count → P p q → P (take count all) (drop count all)
by_parts P all p q count e l h =
    let t : p ≡ take count all = sym (ap (take count) e ∙ take_at p q count l) in
    let d : q ≡ drop count all = sym (ap (drop count) e ∙ drop_at p q count l) in
    subst (λ xs. P xs (drop count all)) t (subst (P p) d h)

-- the longest front that passes
pub run : (p : ℕ → Bool) (xs : List ℕ) → IsLongestRun p (take (prefix_len p xs) xs) (drop (prefix_len p xs) xs)
run p [] = (refl, refl)
run p (x ∷ xs) =
    cond_both (p x) (1 + prefix_len p xs) 0 (λ n. IsLongestRun p (take n (x ∷ xs)) (drop n (x ∷ xs)))
    (λ h.
    let h' : cond (p x) (1 + prefix_len p (take (prefix_len p xs) xs)) 0 ≡ 1 + prefix_len p (take (prefix_len p xs) xs) = rw h refl in
    let e : 1 + prefix_len p xs ≡ suc (prefix_len p xs) = omega arith in
    rw e (omega (arith, h', (run p xs).0), (run p xs).1))
    (λ h. (refl, rw h refl))

-- whether a comment ends here, two bytes tell
pub same_two : (b : ℕ) (body rest : List ℕ) → begins_with (b ∷ (body ++ codes "*/" ++ rest)) (codes "*/") ≡ begins_with (b ∷ (body ++ codes "*/")) (codes "*/")
same_two b [] rest = refl
same_two b (c ∷ body) rest = refl

-- a comment's bytes, up to the first end
abbrev Closes : (at n : ℕ) → List ℕ → Type 0
Closes at n bytes = (body : List ℕ) × (rest : List ℕ) × (bytes ≡ body ++ codes "*/" ++ rest) × (n ≡ at + length body + 2) × ((k : ℕ) → comment_end k (body ++ codes "*/") ≡ Some (k + length body + 2))

closes : (at n : ℕ) (bytes : List ℕ) → comment_end at bytes ≡ Some n → Closes at n bytes
closes at n [] = λ e. cc
closes at n (b ∷ bytes) =
    cond_both (begins_with (b ∷ bytes) (codes "*/")) (Some (at + 2)) (comment_end (at + 1) bytes) (λ o. o ≡ Some n → Closes at n (b ∷ bytes))
    (λ h e. let k : at + 2 ≡ n = cc in ([], drop 2 (b ∷ bytes), begins (b ∷ bytes) (codes "*/") h, omega arith, λ k. ap Some (omega arith)))
    (λ h e.
    let r = closes (at + 1) n bytes e in
    let no : begins_with (b ∷ (r.0 ++ codes "*/")) (codes "*/") ≡ false = sym (same_two b r.0 r.1) ∙ ap (λ xs. begins_with (b ∷ xs) (codes "*/")) (sym r.2) ∙ h in
    (b ∷ r.0, r.1, ap (λ xs. b ∷ xs) r.2, omega (arith, r.3), λ k. rw no (r.4 (k + 1) ∙ ap Some (omega arith))))

-- what `find` finds is there and passes, and where it finds nothing, nothing does
pub found : {X : Type 0} (p : X → Bool) (xs : List X) (x : X) → find p xs ≡ Some x → Contains xs x × (p x ≡ true)
found p [] x = λ e. cc
found p (y ∷ xs) x =
    cond_both (p y) (Some y) (find p xs) (λ o. o ≡ Some x → Contains (y ∷ xs) x × (p x ≡ true))
    (λ h e. let k : y ≡ x = cc in ((0, omega arith, k), ap p (sym k) ∙ h))
    (λ h e. let r = found p xs x e in ((suc r.0.0, omega (arith, r.0.1), r.0.2), r.1))

pub one_of : {X : Type 0} (y : X) (xs : List X) (x : X) (k : ℕ) → k < suc (length xs) → get_or (y ∷ xs) k x ≡ x → (y ≡ x) ⊎ Contains xs x
one_of y xs x zero l e = inl e
one_of y xs x (suc k) l e = inr (k, omega arith, e)

pub not_found : {X : Type 0} (p : X → Bool) (xs : List X) (x : X) → find p xs ≡ None → Contains xs x → p x ≡ false
not_found p [] x e c = absurd (omega (arith, c.1))
not_found p (y ∷ xs) x e c =
    cond_both (p y) (Some y) (find p xs) (λ o. o ≡ None → p x ≡ false) (λ h e. cc)
    (λ h e. elim (one_of y xs x c.0 c.1 c.2) [ inl k ↦ ap p (sym k) ∙ h | inr d ↦ not_found p xs x e d ]) e

-- the table of signs has longer ones first
abbrev pub no_longer : (length : ℕ) → List (List ℕ × Sign) → Bool
no_longer n [] = true
no_longer n (x ∷ xs) = nat_le (length x.0) n && no_longer n xs

abbrev pub falls : List (List ℕ × Sign) → Bool
falls [] = true
falls (x ∷ xs) = no_longer (length x.0) xs && falls xs

pub signs_fall : falls signs ≡ true
unfolding signs
signs_fall = refl

bounded : (n : ℕ) (xs : List (List ℕ × Sign)) (x : List ℕ × Sign) → no_longer n xs ≡ true → Contains xs x → length x.0 ≤ n
bounded n [] x h c = absurd (omega (arith, c.1))
bounded n (y ∷ xs) x h c =
    let b = both (nat_le (length y.0) n) (no_longer n xs) h in
    elim (one_of y xs x c.0 c.1 c.2) [ inl k ↦ omega (arith, leb-true (length y.0) n b.0, ap (λ z. length z.0) k) | inr d ↦ bounded n xs x b.1 d ]

pub longest : (p : List ℕ × Sign → Bool) (xs : List (List ℕ × Sign)) (e x : List ℕ × Sign) → falls xs ≡ true → find p xs ≡ Some e → Contains xs x → p x ≡ true → length x.0 ≤ length e.0
longest p [] e x f h c t = cc
longest p (y ∷ xs) e x f h c t =
    let b = both (no_longer (length y.0) xs) (falls xs) f in
    cond_both (p y) (Some y) (find p xs) (λ o. o ≡ Some e → length x.0 ≤ length e.0)
    (λ i h. let k : y ≡ e = cc in elim (one_of y xs x c.0 c.1 c.2) [ inl j ↦ omega (arith, ap (λ z. length z.0) j, ap (λ z. length z.0) k) | inr d ↦ omega (arith, bounded (length y.0) xs x b.0 d, ap (λ z. length z.0) k) ])
    (λ i h. elim (one_of y xs x c.0 c.1 c.2) [ inl j ↦ absurd (false≢true (sym i ∙ ap p j ∙ t)) | inr d ↦ longest p xs e x b.1 h d t ]) h

word_means : (all : List ℕ) (o : Option (List ℕ × Reserved)) → IsWord is_letter (take_while is_word_byte all) (drop (prefix_len is_word_byte all) all) → find (λ entry. bytes_eq entry.0 (take_while is_word_byte all)) reserved_words ≡ o → Means all (Has (word_kind (take_while is_word_byte all) o) (prefix_len is_word_byte all))
word_means all None h e = (h, (λ w c. false≢true (sym (not_found (λ entry. bytes_eq entry.0 (take_while is_word_byte all)) reserved_words _ e c) ∙ (bytes_eq-Decides (take_while is_word_byte all) (take_while is_word_byte all)).1 refl)), refl)
word_means all (Some entry) h e =
    let r = found (λ entry. bytes_eq entry.0 (take_while is_word_byte all)) reserved_words entry e in
    (h, subst (λ xs. Contains reserved_words (xs, entry.1)) ((bytes_eq-Decides entry.0 (take_while is_word_byte all)).0 r.1) r.0)

-- no sign behind it is part of a number that is read
number_alone : (word rest : List ℕ) (l : Literal) → number_before word rest ≡ Ok l → (goes_on word rest ≡ false) × (number_of word ≡ Ok l)
number_alone word rest l =
    cond_both (goes_on word rest) (Err BadNumber) (number_of word) (λ r. r ≡ Ok l → (goes_on word rest ≡ false) × (number_of word ≡ Ok l)) (λ h e. cc) (λ h e. (h, e))

number_means : (all : List ℕ) (r : Result Literal TextFault) → IsWord is_decimal_digit (take_while is_word_byte all) (drop (prefix_len is_word_byte all) all) → number_before (take_while is_word_byte all) (drop (prefix_len is_word_byte all) all) ≡ r → Means all (number_piece r (prefix_len is_word_byte all))
number_means all (Ok literal) h e = let r = number_alone (take_while is_word_byte all) (drop (prefix_len is_word_byte all) all) literal e in (h, r.0, r.1)
number_means all (Err fault) h e = tt

-- where no place passes, none of the bytes there does
pub none_passes : (test : List ℕ → Bool) (at n : ℕ) (bytes : List ℕ) → first_place test at n bytes ≡ None → n ≤ length bytes → (k : ℕ) → k < n → test (drop k bytes) ≡ false
none_passes test at zero bytes e l k h = absurd (omega (arith, h))
none_passes test at (suc n) [] e l k h = absurd (omega (arith, l))
none_passes test at (suc n) (b ∷ bytes) e l zero h =
    cond_both (test (b ∷ bytes)) (Some at) (first_place test (at + 1) n bytes) (λ o. o ≡ None → test (b ∷ bytes) ≡ false) (λ t e. cc) (λ t e. t) e
none_passes test at (suc n) (b ∷ bytes) e l (suc k) h =
    cond_both (test (b ∷ bytes)) (Some at) (first_place test (at + 1) n bytes) (λ o. o ≡ None → test (drop k bytes) ≡ false) (λ t e. cc)
    (λ t e. none_passes test (at + 1) n bytes e (omega (arith, l)) k (omega (arith, h))) e

gap_means : (test : List ℕ → Bool) (count : ℕ) (all : List ℕ) → count ≤ length all → (IsWithout test (take count all) (drop count all) → IsGap (take count all) (drop count all)) → Means all (gap_without test count all)
gap_means test count all l h = by (first_place test 0 count all) refl
  where
    by : (o : Option ℕ) → first_place test 0 count all ≡ o → Means all (comment_gap o count)
    by None e = h (λ k i. ap (λ xs. test (drop k xs)) (take-append-drop count all) ∙ none_passes test 0 count all e l k (omega (arith, i, length-take-le count all l)))
    by (Some k) e = tt

sign_means : (all : List ℕ) (o : Option (List ℕ × Sign)) → begins_with all (codes "//") ≡ false → begins_with all (codes "/*") ≡ false → find (λ entry. begins_with all entry.0) signs ≡ o → Means all (sign_piece o)
sign_means all None line block e = tt
sign_means all (Some entry) line block e =
    let r = found (λ entry. begins_with all entry.0) signs entry e in
    let a = begins all entry.0 r.1 in
    by_parts (IsText (Mark entry.1)) all entry.0 (drop (length entry.0) all) (length entry.0) a refl (
      r.0,
      λ x c h. longest (λ entry. begins_with all entry.0) signs entry x signs_fall e c (ap (λ xs. begins_with xs x.0) a ∙ h),
      ap (λ xs. begins_with xs (codes "//")) (sym a) ∙ line,
      ap (λ xs. begins_with xs (codes "/*")) (sym a) ∙ block,
    )

comment_means : (all : List ℕ) (o : Option ℕ) → begins_with all (codes "/*") ≡ true → comment_end 2 (drop 2 all) ≡ o → Means all (comment_piece all o)
comment_means all None h e = tt
comment_means all (Some n) h e =
    let r = closes 2 n (drop 2 all) e in
    gap_means joins_lines n all (comment_within all n h e).1
    (by_parts (λ p q. IsWithout joins_lines p q → IsGap p q) all (codes "/*" ++ r.0 ++ codes "*/") r.1 n (begins all (codes "/*") h ∙ ap (λ xs. 47 ∷ 42 ∷ xs) r.2) (omega (arith, r.3, length-append r.0 (codes "*/")))
    (λ w. comment r.0 r.1 (r.4 0 ∙ ap Some (omega arith)) w))

line_means : (all : List ℕ) → begins_with all (codes "//") ≡ true → Means all (gap_without leaves_line (position_or_len is_line_feed all) all)
line_means all h =
    let p : ℕ → Bool = λ b. not (is_line_feed b) in
    let xs = drop 2 all in
    let n = prefix_len p xs in
    let a = begins all (codes "//") h in
    gap_means leaves_line (position_or_len is_line_feed all) all (line_within all h).1
    (by_parts (λ p q. IsWithout leaves_line p q → IsGap p q) all (codes "//" ++ take n xs) (drop n xs) (position_or_len is_line_feed all)
    (a ∙ ap (λ xs. 47 ∷ 47 ∷ xs) (sym (take-append-drop n xs))) (omega (arith, ap (prefix_len p) a, length-prefix_len p xs)) (λ w. line_comment (take n xs) (drop n xs) (run p xs) w))

is_word_front : (first : ℕ → Bool) (b : ℕ) (bytes : List ℕ) → is_word_byte b ≡ true → first b ≡ true → IsWord first (take_while is_word_byte (b ∷ bytes)) (drop (prefix_len is_word_byte (b ∷ bytes)) (b ∷ bytes))
is_word_front first b bytes w h =
    let count = word is_word_byte b bytes w in
    (run is_word_byte (b ∷ bytes), ap first (get_or-take (prefix_len is_word_byte (b ∷ bytes)) (b ∷ bytes) 0 0 (omega (arith, count.0))) ∙ h)

pub piece_means : (b : ℕ) (bytes : List ℕ) → Means (b ∷ bytes) (piece b (b ∷ bytes))
piece_means b bytes =
    let all : List ℕ = b ∷ bytes in
    let P : Piece → Type 0 = Means all in
    cond_both (is_blank b) _ _ P (λ h. blank b bytes h) (λ _.
    cond_both (is_letter b) _ _ P (λ h. word_means all _ (is_word_front is_letter b bytes (grind (arith, h)) h) refl) (λ _.
    cond_both (is_decimal_digit b) _ _ P (λ h. number_means all _ (is_word_front is_decimal_digit b bytes (grind (arith, h)) h) refl) (λ _.
    cond_both (begins_with all (codes "//")) _ _ P (λ h. line_means all h) (λ line.
    cond_both (begins_with all (codes "/*")) _ _ P (λ h. comment_means all _ h refl) (λ block.
    sign_means all _ line block refl)))))

-- what is skipped is dropped
skipped : (text : List ℕ) (k at : ℕ) (bytes : List ℕ) → k ≤ length bytes → tokens text k at bytes ≡ tokens text 0 (at + k) (drop k bytes)
skipped text zero at bytes h = ap (λ n. tokens text 0 n bytes) (omega arith)
skipped text (suc k) at [] h = absurd (omega arith)
skipped text (suc k) at (b ∷ bytes) h = skipped text k (at + 1) bytes (omega arith) ∙ ap (λ n. tokens text 0 n (drop k bytes)) (omega arith)

pub after : (text : List ℕ) (count at b : ℕ) (bytes : List ℕ) → IsCount (suc (length bytes)) count → tokens text (count - 1) (at + 1) bytes ≡ tokens text 0 (at + count) (drop count (b ∷ bytes))
after text zero at b bytes h = absurd (omega (arith, h.0))
after text (suc k) at b bytes h =
    let e : suc k - 1 ≡ k = omega arith in
    rw e (skipped text k (at + 1) bytes (omega (arith, h.1)) ∙ ap (λ n. tokens text 0 n (drop k bytes)) (omega arith))

first_of : (t : Token) (l : Lexed) (ts : List Token) → in_front (t ∷ []) l ≡ Ok ts → (us : List Token) × (l ≡ Ok us) × (t ∷ us ≡ ts)
first_of t (Ok us) ts e = (us, refl, cc)
first_of t (Err f) ts e = cc

-- a piece in front of a row makes a row
with_gap : (text : List ℕ) (at count : ℕ) (all : List ℕ) (ts : List Token) → count ≤ length all → IsGap (take count all) (drop count all) → Reads text (at + count) (drop count all) ts → Reads text at all ts
with_gap text at count all ts h g r =
    subst (λ xs. Reads text at xs ts) (take-append-drop count all)
    (gap at (take count all) (drop count all) ts g (subst (λ n. Reads text (at + n) (drop count all) ts) (sym (length-take-le count all h)) r))

with_token : (text : List ℕ) (at count : ℕ) (all : List ℕ) (kind : TokenKind) (ts : List Token) → count ≤ length all → IsText kind (take count all) (drop count all) → Reads text (at + count) (drop count all) ts → Reads text at all (token_at text kind at count ∷ ts)
with_token text at count all kind ts h g r =
    let n = length-take-le count all h in
    subst (λ xs. Reads text at xs (token_at text kind at count ∷ ts)) (take-append-drop count all)
    (subst (λ n. Reads text at (take count all ++ drop count all) (token_at text kind at n ∷ ts)) n
    (token at kind (take count all) (drop count all) ts g (subst (λ n. Reads text (at + n) (drop count all) ts) (sym n) r)))

-- one piece, and then a shorter text
step : (n : ℕ) (text : List ℕ) → ((at : ℕ) (bytes : List ℕ) (ts : List Token) → length bytes ≤ n → tokens text 0 at bytes ≡ Ok ts → Reads text at bytes ts) → (at b : ℕ) (bytes : List ℕ) (ts : List Token) → length bytes ≤ n → (p : Piece) → Fits (suc (length bytes)) p → Means (b ∷ bytes) p → next text p at (λ skip. tokens text skip (at + 1) bytes) ≡ Ok ts → Reads text at (b ∷ bytes) ts
step n text shorter at b bytes ts l (Gap count) fits means e =
    with_gap text at count (b ∷ bytes) ts fits.1 means
    (shorter (at + count) (drop count (b ∷ bytes)) ts (omega (arith, fits.0, fits.1, length-drop count (b ∷ bytes))) (sym (after text count at b bytes fits) ∙ e))
step n text shorter at b bytes ts l (Has kind count) fits means e =
    let r = first_of (token_at text kind at count) (tokens text (count - 1) (at + 1) bytes) ts e in
    subst (Reads text at (b ∷ bytes)) r.2
    (with_token text at count (b ∷ bytes) kind r.0 fits.1 means
    (shorter (at + count) (drop count (b ∷ bytes)) r.0 (omega (arith, fits.0, fits.1, length-drop count (b ∷ bytes))) (sym (after text count at b bytes fits) ∙ r.1)))
step n text shorter at b bytes ts l (Bad fault before) fits means e = cc

pub reads : (n : ℕ) (text : List ℕ) (at : ℕ) (bytes : List ℕ) (ts : List Token) → length bytes ≤ n → tokens text 0 at bytes ≡ Ok ts → Reads text at bytes ts
reads n text at [] ts l e = let k : token_at text End at 0 ∷ [] ≡ ts = cc in subst (Reads text at []) k (ends at)
reads zero text at (b ∷ bytes) ts l e = absurd (omega arith)
reads (suc n) text at (b ∷ bytes) ts l e = step n text (reads n text) at b bytes ts (omega arith) (piece b (b ∷ bytes)) (piece_fits b bytes) (piece_means b bytes) e

pub tokens_read : (text : List ℕ) (ts : List Token) → tokens_of text ≡ Ok ts → (length text ≤ 65536) × Reads text 0 text ts
tokens_read text ts =
    cond_both (nat_lt 65536 (length text)) (Err (TextTooLong, first_site)) (tokens text 0 0 text) (λ l. l ≡ Ok ts → (length text ≤ 65536) × Reads text 0 text ts)
    (λ h e. cc) (λ h e. (omega (arith, ltb-false 65536 (length text) h), reads (length text) text 0 text ts (omega arith) e))
