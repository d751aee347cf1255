-- What a step of the reader took from the front: words, numbers and names.
use Rattle.std.proofs.Common.{◌≡◌, ℕ, suc, zero, ◌+◌, true, cond, nat_le, ◌&&◌, List, [], ◌∷◌, ◌++◌, length, take, drop, Option, Some, None, Ok, Err, refl, ap, sym, ◌∙◌, arith}
use Rattle.std.proofs.lemmas.Int.{ints}
use Rattle.std.specs.Prelude.{ℤ, pos, negsuc, codes, Result, bytes_eq}
use Rattle.std.specs.List.{prefix_len}
use Rattle.std.specs.Fmt.{decimal, signed_decimal}
use Rattle.std.proofs.lemmas.Bool.{cond_both}
use Rattle.std.proofs.lemmas.Bool.Decides.{nat_tests}
use Rattle.std.proofs.lemmas.List.{take-append-drop}
use Rattle.std.proofs.lemmas.Slice.Eq.{bytes_eq-Decides}
use Rattle.semantics.specs.Word.{Kind, Word, word, in_kind}
use Rattle.lines.specs.Bytes.{is_word_byte}
use Rattle.lines.specs.Lines.{NumberFault, NoDecimal, TooLarge, is_empty, integer_of}
use Rattle.texts.specs.Surface.{Parameter}
use Rattle.launch_text.specs.LaunchFaults.{LaunchFault, Expected, MissingLine, UnknownName, Cursor, Step, refused, found, sees, past, expect, end_line}
use Rattle.launch_text.specs.LaunchWords.{Form, number_length, number_found, number_at, natural_within, natural_at, word_within, word_at, factor_within, begins_name, name_at, is_known, parameter_at, is_in_word, first_word, is_keyword, due, due_blank, due_parameter, head_line, end_text}
use Rattle.launch_text.specs.ConditionsText.{IsFactor}
use Rattle.lines.proofs.Fronts.{begins}
use Rattle.lines.proofs.Decimals.{integer_back}
use Rattle.launch_text.proofs.Back.{then_back, same_back, when_back, unless_back, found_back}

pub expect_took : (front : List ℕ) (c d : Cursor) → expect front c ≡ Ok d → c.rest ≡ front ++ d.rest
unfolding expect
expect_took front c d e =
    let h = when_back (sees front c) _ Expected c d e in
    begins c.rest front h.0 ∙ ap (λ (x : Cursor). front ++ x.rest) (same_back (past (length front) c) d h.1)

pub end_took : (c d : Cursor) → end_line c ≡ Ok d → c.rest ≡ 10 ∷ d.rest
unfolding end_line
end_took c d e =
    let h = when_back (sees (10 ∷ []) c) _ Expected c d e in
    begins c.rest (10 ∷ []) h.0 ∙ ap (λ (x : Cursor). 10 ∷ x.rest) (same_back _ d h.1)

empty_is : (bytes : List ℕ) → is_empty bytes ≡ true → bytes ≡ []
empty_is [] h = refl
empty_is (b ∷ bytes) h = absurd cc

pub end_text_took : (c : Cursor) (u : Unit {0}) → end_text c ≡ Ok u → c.rest ≡ []
unfolding end_text
end_text_took c u e = empty_is c.rest (when_back (is_empty c.rest) _ Expected c u e).0

pub found_rest : {A : Type 0} (o : Option A) (f : LaunchFault) (c : Cursor) (t : A × Cursor) → found o f c ≡ Ok t → c ≡ t.1
found_rest None f c t e = absurd cc
found_rest (Some a) f c t e = ap (λ r. r.1) (same_back (a, c) t e)

number_is : (r : Result ℤ NumberFault) (c : Cursor) (t : ℤ × Cursor) → number_found r c ≡ Ok t → (r ≡ Ok t.0) × (c ≡ t.1)
number_is (Ok z) c t e = let q : (z, c) ≡ t = same_back (z, c) t e in (ap (λ x. Ok x.0) q, ap (λ x. x.1) q)
number_is (Err NoDecimal) c t e = absurd cc
number_is (Err TooLarge) c t e = absurd cc

pub number_took : (c : Cursor) (t : ℤ × Cursor) → number_at c ≡ Ok t → c.rest ≡ signed_decimal t.0 ++ t.1.rest
unfolding number_at
number_took c t e =
    let n : ℕ = number_length c.rest in
    let h = number_is (integer_of (take n c.rest)) (past n c) t e in
    sym (take-append-drop n c.rest) ∙ ap (λ w. w ++ drop n c.rest) (sym (integer_back (take n c.rest) t.0 h.0).0)
    ∙ ap (λ (d : Cursor). signed_decimal t.0 ++ d.rest) h.1

natural_is : (least most : ℕ) (z : ℤ) (n : ℕ) → natural_within least most z ≡ Some n → z ≡ pos n
natural_is least most (pos m) n =
    cond_both (nat_le least m && nat_le m most) (Some m) None (λ o. o ≡ Some n → pos m ≡ pos n) (λ h e. let q : m ≡ n = cc in ap pos q) (λ h e. absurd cc)
natural_is least most (negsuc m) n = λ e. absurd cc

pub natural_took : (least most : ℕ) (c : Cursor) (t : ℕ × Cursor) → natural_at least most c ≡ Ok t → c.rest ≡ decimal t.0 ++ t.1.rest
unfolding natural_at
natural_took least most c t e =
    let n = then_back (number_at c) _ t e in
    number_took c n.0 n.1 ∙ ap (λ z. signed_decimal z ++ n.0.1.rest) (natural_is least most n.0.0 t.0 (found_back (natural_within least most n.0.0) _ n.0.1 t n.2))
    ∙ ap (λ (d : Cursor). decimal t.0 ++ d.rest) (found_rest (natural_within least most n.0.0) _ n.0.1 t n.2)

word_is : (k : Kind) (z : ℤ) (w : Word) → word_within k z ≡ Some w → z ≡ w.value
word_is k z w =
    cond_both (in_kind k z) (Some (word k z)) None (λ o. o ≡ Some w → z ≡ w.value)
    (λ h e. let q : word k z ≡ w = cc in ap (λ v. v.value) q) (λ h e. absurd cc)

pub word_took : (k : Kind) (c : Cursor) (t : Word × Cursor) → word_at k c ≡ Ok t → c.rest ≡ signed_decimal t.0.value ++ t.1.rest
unfolding word_at
word_took k c t e =
    let n = then_back (number_at c) _ t e in
    number_took c n.0 n.1 ∙ ap (λ z. signed_decimal z ++ n.0.1.rest) (word_is k n.0.0 t.0 (found_back (word_within k n.0.0) _ n.0.1 t n.2))
    ∙ ap (λ (d : Cursor). signed_decimal t.0.value ++ d.rest) (found_rest (word_within k n.0.0) _ n.0.1 t n.2)

pub factor_is : (z y : ℤ) → factor_within z ≡ Some y → (z ≡ y) × IsFactor z
factor_is (pos n) y =
    cond_both (nat_le n 4294967295) (Some (pos n)) None (λ o. o ≡ Some y → (pos n ≡ y) × IsFactor (pos n))
    (λ h e. (cc, (omega (arith, ints), grind (arith, ints, nat_tests)))) (λ h e. absurd cc)
factor_is (negsuc n) y =
    cond_both (nat_le (n + 1) 4294967295) (Some (negsuc n)) None (λ o. o ≡ Some y → (negsuc n ≡ y) × IsFactor (negsuc n))
    (λ h e. (cc, (grind (arith, ints, nat_tests), omega (arith, ints)))) (λ h e. absurd cc)

pub name_took : (c : Cursor) (t : List ℕ × Cursor) → name_at c ≡ Ok t → c.rest ≡ t.0 ++ t.1.rest
unfolding name_at
name_took c t e =
    let h = when_back (begins_name c.rest) _ Expected c t e in
    let n : ℕ = prefix_len is_word_byte c.rest in
    sym (take-append-drop n c.rest) ∙ ap (λ (r : List ℕ × Cursor). r.0 ++ r.1.rest) (same_back (take n c.rest, past n c) t h.1)

pub parameter_took : (ps : List Parameter) (name : List ℕ) (c d : Cursor) → parameter_at ps name c ≡ Ok d → c.rest ≡ name ++ d.rest
unfolding parameter_at
parameter_took ps name c d e =
    let n = then_back (name_at c) _ d e in
    let P : Step Cursor → Type 0 = λ s. s ≡ Ok d → c.rest ≡ name ++ d.rest in
    cond_both (bytes_eq n.0.0 name) (Ok n.0.1) (cond (is_known ps n.0.0) (refused MissingLine n.0.1) (refused UnknownName n.0.1)) P
    (λ h f. name_took c n.0 n.1 ∙ ap (λ w. w ++ n.0.1.rest) ((bytes_eq-Decides n.0.0 name).0 h) ∙ ap (λ (x : Cursor). name ++ x.rest) (same_back n.0.1 d f))
    (λ h. cond_both (is_known ps n.0.0) (refused MissingLine n.0.1) (refused UnknownName n.0.1) P (λ _ f. absurd cc) (λ _ f. absurd cc)) n.2

front_is : (n : ℕ) (bytes front : List ℕ) → take n bytes ≡ front → bytes ≡ front ++ drop (length front) bytes
front_is zero bytes [] h = refl
front_is zero bytes (a ∷ front) h = absurd cc
front_is (suc n) [] [] h = refl
front_is (suc n) [] (a ∷ front) h = absurd cc
front_is (suc n) (b ∷ bytes) [] h = absurd cc
front_is (suc n) (b ∷ bytes) (a ∷ front) h =
    let same : b ≡ a = cc in
    let others : take n bytes ≡ front = cc in
    ap (λ x. x ∷ bytes) same ∙ ap (λ xs. a ∷ xs) (front_is n bytes front others)

pub due_took : (form : Form) (keyword : List ℕ) (c d : Cursor) → due form keyword c ≡ Ok d → c.rest ≡ keyword ++ d.rest
unfolding due
due_took form keyword c d e =
    let P : Step Cursor → Type 0 = λ s. s ≡ Ok d → c.rest ≡ keyword ++ d.rest in
    let h = unless_back (is_empty c.rest) _ MissingLine c d e in
    cond_both (bytes_eq (first_word c.rest) keyword) (Ok (past (length keyword) c)) (cond (is_keyword form (first_word c.rest)) (refused MissingLine c) (refused Expected c)) P
    (λ w f. front_is (prefix_len is_in_word c.rest) c.rest keyword ((bytes_eq-Decides (first_word c.rest) keyword).0 w) ∙ ap (λ (x : Cursor). keyword ++ x.rest) (same_back (past (length keyword) c) d f))
    (λ _. cond_both (is_keyword form (first_word c.rest)) (refused MissingLine c) (refused Expected c) P (λ _ f. absurd cc) (λ _ f. absurd cc)) h.1

pub due_blank_took : (form : Form) (keyword : List ℕ) (c d : Cursor) → due_blank form keyword c ≡ Ok d → c.rest ≡ keyword ++ (32 ∷ d.rest)
unfolding due_blank
due_blank_took form keyword c d e =
    let a = then_back (due form keyword c) _ d e in
    due_took form keyword c a.0 a.1 ∙ ap (λ x. keyword ++ x) (expect_took (codes " ") a.0 d a.2)

pub due_parameter_took : (form : Form) (keyword : List ℕ) (ps : List Parameter) (name : List ℕ) (c d : Cursor) → due_parameter form keyword ps name c ≡ Ok d → c.rest ≡ keyword ++ (32 ∷ (name ++ (32 ∷ d.rest)))
unfolding due_parameter
due_parameter_took form keyword ps name c d e =
    let a = then_back (due_blank form keyword c) _ d e in
    let b = then_back (parameter_at ps name a.0) _ d a.2 in
    due_blank_took form keyword c a.0 a.1 ∙ ap (λ x. keyword ++ (32 ∷ x)) (parameter_took ps name a.0 b.0 b.1 ∙ ap (λ x. name ++ x) (expect_took (codes " ") b.0 d b.2))

pub head_took : (form : Form) (keyword : List ℕ) (c d : Cursor) → head_line form keyword c ≡ Ok d → c.rest ≡ keyword ++ (32 ∷ 49 ∷ 10 ∷ d.rest)
unfolding head_line
head_took form keyword c d e =
    let a = then_back (due form keyword c) _ d e in
    let b = then_back (expect (codes " 1") a.0) _ d a.2 in
    due_took form keyword c a.0 a.1 ∙ ap (λ x. keyword ++ x) (expect_took (codes " 1") a.0 b.0 b.1 ∙ ap (λ x. 32 ∷ 49 ∷ x) (end_took b.0 d b.2))
