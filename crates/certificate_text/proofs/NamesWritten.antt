-- Names are read as they are written.
use Rattle.std.proofs.Common.{◌≡◌, ℕ, suc, ◌<◌, ◌^◌, Bool, true, false, not, nat_eq, ◌&&◌, ◌||◌, List, [], ◌∷◌, ◌++◌, None, Some, refl, ap, sym, ◌∙◌, inl, inr, ◌⊎◌, cond, arith}
use Rattle.std.specs.Prelude.{ℤ, pos, negsuc, codes}
use Rattle.std.specs.Option.{option_map}
use Rattle.std.specs.List.{onto_first, starts_with}
use Rattle.std.specs.Str.{all_ascii_digits}
use Rattle.std.specs.Fmt.{decimal, signed_decimal}
use Rattle.std.proofs.lemmas.Bool.{cond-true, cond-false, false≢true}
use Rattle.std.proofs.lemmas.Bool.Decides.{nat_tests}
use Rattle.std.proofs.lemmas.List.Splits.{slice_split-cons_no}
use Rattle.lines.specs.Bytes.{is_letter, is_word_byte}
use Rattle.lines.specs.Lines.{is_empty, pieces, first, natural_of}
use Rattle.certificate_text.specs.Certificate.{Dimension, First, Second, Third, Name, Variable, AtAnchor, Turns, Fresh, Argument, Length, Groups, Group, Local, Product}
use Rattle.certificate_text.specs.Text.{dimension_text, name_text}
use Rattle.certificate_text.specs.Forms.{then, number, begins, identifier_of, dimensional_of, name_of, second_of, factor_of, pair_of, triple_of, names_of}
use Rattle.lines.specs.Identifiers.{all_word_bytes, is_identifier}
use Rattle.certificate_text.specs.Rules.{all, is_plain_name, is_factor, names_rise, is_pair, is_name}
use Rattle.lines.specs.Lines.{is_natural, is_integer}
use Rattle.lines.proofs.Fronts.{both}
use Rattle.lines.proofs.Decimals.{digits_of_decimal, below_of, natural_forth}

-- no separator stands in it
abbrev pub is_free : (separator : ℕ) → List ℕ → Bool
is_free separator text = all (λ b. not (nat_eq b separator)) text

negated : (b : Bool) → not b ≡ true → b ≡ false
negated true h = sym h
negated false h = refl

pub cut_one : (c : ℕ) (xs : List ℕ) → is_free c xs ≡ true → pieces c xs ≡ xs ∷ []
cut_one c [] h = refl
cut_one c (x ∷ xs) h =
    let p = both (not (nat_eq x c)) (is_free c xs) h in
    slice_split-cons_no (λ b. nat_eq b c) x xs (negated (nat_eq x c) p.0) ∙ ap (onto_first x) (cut_one c xs p.1)

itself : (c : ℕ) → nat_eq c c ≡ true
itself c = grind (arith, nat_tests)

pub cut_at : (c : ℕ) (xs ys : List ℕ) → is_free c xs ≡ true → pieces c (xs ++ c ∷ ys) ≡ xs ∷ pieces c ys
cut_at c [] ys h = cond-true (nat_eq c c) ([] ∷ pieces c ys) (onto_first c (pieces c ys)) (itself c)
cut_at c (x ∷ xs) ys h =
    let p = both (not (nat_eq x c)) (is_free c xs) h in
    slice_split-cons_no (λ b. nat_eq b c) x (xs ++ c ∷ ys) (negated (nat_eq x c) p.0) ∙ ap (onto_first x) (cut_at c xs ys p.1)

pub all_append : {A : Type 0} (test : A → Bool) (a b : List A) → all test a ≡ true → all test b ≡ true → all test (a ++ b) ≡ true
all_append test [] b p q = q
all_append test (x ∷ a) b p q = let h = both (test x) (all test a) p in rw (h.0, all_append test a b h.1 q) refl

-- bytes of names and numbers
abbrev pub is_plain : ℕ → Bool
is_plain b = is_word_byte b || (nat_eq b 64 || (nat_eq b 36 || (nat_eq b 35 || (nat_eq b 46 || nat_eq b 45))))

tested : (b c : ℕ) → nat_eq b c ≡ true → b ≡ c
tested b c h = grind (arith, nat_tests)

same_not : (b c : ℕ) (t : Bool) → nat_eq b c ≡ t → is_plain c ≡ false → is_plain b ≡ true → not t ≡ true
same_not b c true e h p = absurd (false≢true (sym h ∙ ap is_plain (sym (tested b c e)) ∙ p))
same_not b c false e h p = refl

pub apart : (b c : ℕ) → is_plain c ≡ false → is_plain b ≡ true → not (nat_eq b c) ≡ true
apart b c h p = same_not b c (nat_eq b c) refl h p

pub plain_free : (c : ℕ) (text : List ℕ) → is_plain c ≡ false → all is_plain text ≡ true → is_free c text ≡ true
plain_free c [] h p = refl
plain_free c (b ∷ text) h p = let q = both (is_plain b) (all is_plain text) p in rw (apart b c h q.0, plain_free c text h q.1) refl

digit_plain : (b : ℕ) (rest : List ℕ) → all_ascii_digits (b ∷ rest) ≡ true → is_plain b ≡ true
digit_plain b rest h = grind (arith, nat_tests)

digits_plain : (ds : List ℕ) → all_ascii_digits ds ≡ true → all is_plain ds ≡ true
digits_plain [] h = refl
digits_plain (b ∷ ds) h = rw (digit_plain b ds h, digits_plain ds (both _ (all_ascii_digits ds) h).1) refl

pub decimal_plain : (n : ℕ) → n < 2 ^ 64 → all is_plain (decimal n) ≡ true
decimal_plain n l = digits_plain (decimal n) (digits_of_decimal n l)

pub natural_plain : (n : ℕ) → is_natural n ≡ true → all is_plain (decimal n) ≡ true
natural_plain n h = decimal_plain n (omega (arith, below_of n (2 ^ 63) h))

pub integer_plain : (z : ℤ) → is_integer z ≡ true → all is_plain (signed_decimal z) ≡ true
integer_plain (pos n) h = natural_plain n h
integer_plain (negsuc n) h = decimal_plain (suc n) (omega (arith, below_of n (2 ^ 63) h))

word_plain : (b : ℕ) → is_word_byte b ≡ true → is_plain b ≡ true
word_plain b h = rw h refl

letter_plain : (b : ℕ) → is_letter b ≡ true → is_plain b ≡ true
letter_plain b h = rw h refl

word_bytes_plain : (bytes : List ℕ) → all_word_bytes bytes ≡ true → all is_plain bytes ≡ true
word_bytes_plain [] h = refl
word_bytes_plain (b ∷ bytes) h = let p = both (is_word_byte b) (all_word_bytes bytes) h in rw (word_plain b p.0, word_bytes_plain bytes p.1) refl

pub identifier_plain : (s : List ℕ) → is_identifier s ≡ true → all is_plain s ≡ true
identifier_plain [] h = refl
identifier_plain (b ∷ bytes) h = let p = both (is_letter b) (all_word_bytes bytes) h in rw (letter_plain b p.0, word_bytes_plain bytes p.1) refl

dimension_plain : (d : Dimension) → all is_plain (dimension_text d) ≡ true
dimension_plain First = refl
dimension_plain Second = refl
dimension_plain Third = refl

pub name_plain : (n : Name) → is_plain_name n ≡ true → all is_plain (name_text n) ≡ true
name_plain (Variable s) h = identifier_plain s h
name_plain (AtAnchor s) h = identifier_plain s h
name_plain (Turns k) h = natural_plain k h
name_plain (Fresh k) h = natural_plain k h
name_plain (Argument s) h = identifier_plain s h
name_plain (Length s) h = identifier_plain s h
name_plain (Groups d) h = dimension_plain d
name_plain (Group d) h = dimension_plain d
name_plain (Local d) h = dimension_plain d
name_plain (Second m) h = absurd (false≢true h)
name_plain (Product l m) h = absurd (false≢true h)

-- an identifier begins as no other name does
letter_sign : (b c : ℕ) (rest : List ℕ) → is_letter b ≡ true → is_letter c ≡ false → starts_with nat_eq (b ∷ rest) (c ∷ []) ≡ false
letter_sign b c rest h k = grind (arith, nat_tests)

abbrev has_dot : List ℕ → Bool
has_dot [] = false
has_dot (b ∷ bytes) = nat_eq b 46 || has_dot bytes

word_byte_is_no_dot : (b : ℕ) → is_word_byte b ≡ true → nat_eq b 46 ≡ false
word_byte_is_no_dot b h = grind (arith, nat_tests)

letter_is_word_byte : (b : ℕ) → is_letter b ≡ true → is_word_byte b ≡ true
letter_is_word_byte b h = rw h refl

dotted : (b c : ℕ) (bytes front : List ℕ) (t : Bool) → nat_eq c b ≡ t → (u : Bool) → nat_eq c 46 ≡ u → nat_eq b 46 ≡ false → (u || has_dot front) ≡ true → (has_dot front ≡ true → starts_with nat_eq bytes front ≡ false) → (t && starts_with nat_eq bytes front) ≡ false
dotted b c bytes front false e u f n d ih = refl
dotted b c bytes front true e true f n d ih = absurd (false≢true (sym n ∙ ap (λ x. nat_eq x 46) (sym (tested c b e)) ∙ f))
dotted b c bytes front true e false f n d ih = ih d

no_dot : (bytes front : List ℕ) → all_word_bytes bytes ≡ true → has_dot front ≡ true → starts_with nat_eq bytes front ≡ false
no_dot bytes [] h d = absurd (false≢true d)
no_dot [] (c ∷ front) h d = refl
no_dot (b ∷ bytes) (c ∷ front) h d =
    let p = both (is_word_byte b) (all_word_bytes bytes) h in
    dotted b c bytes front (nat_eq c b) refl (nat_eq c 46) refl (word_byte_is_no_dot b p.0) d (no_dot bytes front p.1)

identifier_front : (s front : List ℕ) → is_identifier s ≡ true → has_dot front ≡ true → begins s front ≡ false
identifier_front [] front h d = absurd (false≢true h)
identifier_front (b ∷ bytes) front h d =
    let p = both (is_letter b) (all_word_bytes bytes) h in
    no_dot (b ∷ bytes) front (rw (letter_is_word_byte b p.0, p.1) refl) d

identifier_sign : (s : List ℕ) (c : ℕ) → is_identifier s ≡ true → is_letter c ≡ false → begins s (c ∷ []) ≡ false
identifier_sign [] c h k = absurd (false≢true h)
identifier_sign (b ∷ bytes) c h k = letter_sign b c bytes (both (is_letter b) (all_word_bytes bytes) h).0 k

pub identifier_forth : (s : List ℕ) → is_identifier s ≡ true → identifier_of s ≡ Some s
identifier_forth s h = cond-true (is_identifier s) (Some s) None h

number_forth : (n : ℕ) → is_natural n ≡ true → number (natural_of (decimal n)) ≡ Some n
number_forth n h = ap number (natural_forth n h)

variable_forth : (s : List ℕ) → is_identifier s ≡ true → name_of s ≡ Some (Variable s)
unfolding name_of dimensional_of
variable_forth s h =
    cond-false (begins s (codes "@")) _ _ (identifier_sign s 64 h refl) ∙ cond-false (begins s (codes "$")) _ _ (identifier_sign s 36 h refl)
    ∙ cond-false (begins s (codes "#")) _ _ (identifier_sign s 35 h refl) ∙ cond-false (begins s (codes "arg.")) _ _ (identifier_front s (codes "arg.") h refl)
    ∙ cond-false (begins s (codes "len.")) _ _ (identifier_front s (codes "len.") h refl) ∙ cond-false (begins s (codes "groups.")) _ _ (identifier_front s (codes "groups.") h refl)
    ∙ cond-false (begins s (codes "group.")) _ _ (identifier_front s (codes "group.") h refl) ∙ cond-false (begins s (codes "local.")) _ _ (identifier_front s (codes "local.") h refl)
    ∙ ap (option_map Variable) (identifier_forth s h)

name_forth : (n : Name) → is_plain_name n ≡ true → name_of (name_text n) ≡ Some n
unfolding name_of dimensional_of
name_forth (Variable s) h = variable_forth s h
name_forth (AtAnchor s) h = ap (option_map AtAnchor) (identifier_forth s h)
name_forth (Turns k) h = ap (option_map Turns) (number_forth k h)
name_forth (Fresh k) h = ap (option_map Fresh) (number_forth k h)
name_forth (Argument s) h = ap (option_map Argument) (identifier_forth s h)
name_forth (Length s) h = ap (option_map Length) (identifier_forth s h)
name_forth (Groups First) h = refl
name_forth (Groups Second) h = refl
name_forth (Groups Third) h = refl
name_forth (Group First) h = refl
name_forth (Group Second) h = refl
name_forth (Group Third) h = refl
name_forth (Local First) h = refl
name_forth (Local Second) h = refl
name_forth (Local Third) h = refl
name_forth (Second m) h = absurd (false≢true h)
name_forth (Product l m) h = absurd (false≢true h)

-- what a factor is
factor_kind : (n : Name) → is_factor n ≡ true → (is_plain_name n ≡ true) ⊎ ((m : Name) × (Second m ≡ n) × (is_plain_name m ≡ true))
factor_kind (Variable s) h = inl h
factor_kind (AtAnchor s) h = inl h
factor_kind (Turns k) h = inl h
factor_kind (Fresh k) h = inl h
factor_kind (Argument s) h = inl h
factor_kind (Length s) h = inl h
factor_kind (Groups d) h = inl h
factor_kind (Group d) h = inl h
factor_kind (Local d) h = inl h
factor_kind (Second m) h = inr (m, refl, h)
factor_kind (Product l m) h = absurd (false≢true h)

-- a name is a factor, or a product of two or three
record IsTriple (n : Name) : Type 0 where
  first : Name
  second : Name
  third : Name
  same : Product first (Product second third) ≡ n
  factor : is_factor first ≡ true
  pair : is_pair second third ≡ true
  order : names_rise first second ≡ true

abbrev NameKind : Name → Type 0
NameKind n = (is_factor n ≡ true) ⊎ (((l m : Name) × (Product l m ≡ n) × (is_pair l m ≡ true)) ⊎ IsTriple n)

product_kind : (l others : Name) → is_name (Product l others) ≡ true → NameKind (Product l others)
product_kind l (Variable s) h = inr (inl (l, Variable s, refl, h))
product_kind l (AtAnchor s) h = inr (inl (l, AtAnchor s, refl, h))
product_kind l (Turns k) h = inr (inl (l, Turns k, refl, h))
product_kind l (Fresh k) h = inr (inl (l, Fresh k, refl, h))
product_kind l (Argument s) h = inr (inl (l, Argument s, refl, h))
product_kind l (Length s) h = inr (inl (l, Length s, refl, h))
product_kind l (Groups d) h = inr (inl (l, Groups d, refl, h))
product_kind l (Group d) h = inr (inl (l, Group d, refl, h))
product_kind l (Local d) h = inr (inl (l, Local d, refl, h))
product_kind l (Second m) h = inr (inl (l, Second m, refl, h))
product_kind l (Product m k) h =
    let p = both (is_factor l) _ h in
    let q = both (is_pair m k) (names_rise l m) p.1 in
    inr (inr (record { first = l; second = m; third = k; same = refl; factor = p.0; pair = q.0; order = q.1 }))

name_kind : (n : Name) → is_name n ≡ true → NameKind n
name_kind (Variable s) h = inl h
name_kind (AtAnchor s) h = inl h
name_kind (Turns k) h = inl h
name_kind (Fresh k) h = inl h
name_kind (Argument s) h = inl h
name_kind (Length s) h = inl h
name_kind (Groups d) h = inl h
name_kind (Group d) h = inl h
name_kind (Local d) h = inl h
name_kind (Second m) h = inl h
name_kind (Product l others) h = product_kind l others h

free_on : (c : ℕ) (a b : List ℕ) → is_free c a ≡ true → is_free c b ≡ true → is_free c (a ++ b) ≡ true
free_on c a b p q = all_append (λ x. not (nat_eq x c)) a b p q

-- a separator that stands in no name
factor_free : (c : ℕ) (n : Name) → is_plain c ≡ false → not (nat_eq 39 c) ≡ true → is_factor n ≡ true → is_free c (name_text n) ≡ true
factor_free c n h k f = elim (factor_kind n f) [
  | inl p ↦ plain_free c (name_text n) h (name_plain n p)
  | inr p ↦ ap (λ t. is_free c (name_text t)) (sym p.1) ∙ free_on c (name_text p.0) (39 ∷ []) (plain_free c (name_text p.0) h (name_plain p.0 p.2)) (rw k refl)
]

record PairParts (l m : Name) : Type 0 where
  first : is_factor l ≡ true
  second : is_factor m ≡ true
  order : names_rise l m ≡ true

pair_parts : (l m : Name) → is_pair l m ≡ true → PairParts l m
pair_parts l m h = let p = both (is_factor l) _ h in let q = both (is_factor m) (names_rise l m) p.1 in record { first = p.0; second = q.0; order = q.1 }

star_free : (c : ℕ) (l : Name) (rest : List ℕ) → is_plain c ≡ false → not (nat_eq 39 c) ≡ true → not (nat_eq 42 c) ≡ true → is_factor l ≡ true → is_free c rest ≡ true → is_free c (name_text l ++ (42 ∷ rest)) ≡ true
star_free c l rest h k s f r = free_on c (name_text l) (42 ∷ rest) (factor_free c l h k f) (rw (s, r) refl)

pub name_free : (c : ℕ) (n : Name) → is_plain c ≡ false → not (nat_eq 39 c) ≡ true → not (nat_eq 42 c) ≡ true → is_name n ≡ true → is_free c (name_text n) ≡ true
name_free c n h k s f = elim (name_kind n f) [
  | inl p ↦ factor_free c n h k p
  | inr (inl p) ↦ let q = pair_parts p.0 p.1 p.3 in ap (λ t. is_free c (name_text t)) (sym p.2) ∙ star_free c p.0 (name_text p.1) h k s q.first (factor_free c p.1 h k q.second)
  | inr (inr p) ↦
      let q = pair_parts p.second p.third p.pair in
      ap (λ t. is_free c (name_text t)) (sym p.same)
      ∙ star_free c p.first (name_text p.second ++ (42 ∷ name_text p.third)) h k s p.factor (star_free c p.second (name_text p.third) h k s q.first (factor_free c p.third h k q.second))
]

factor_forth : (n : Name) → is_factor n ≡ true → factor_of (name_text n) ≡ Some n
factor_forth n f = elim (factor_kind n f) [
  | inl p ↦ ap (λ ps. then (first ps) (λ w. cond (is_empty w.1) (name_of w.0) (second_of w.0 w.1))) (cut_one 39 (name_text n) (plain_free 39 (name_text n) refl (name_plain n p))) ∙ name_forth n p
  | inr p ↦
      ap (λ t. factor_of (name_text t)) (sym p.1)
      ∙ ap (λ ps. then (first ps) (λ w. cond (is_empty w.1) (name_of w.0) (second_of w.0 w.1))) (cut_at 39 (name_text p.0) [] (plain_free 39 (name_text p.0) refl (name_plain p.0 p.2)))
      ∙ ap (option_map Second) (name_forth p.0 p.2) ∙ ap Some p.1
]

star_cut : (l : Name) (rest : List ℕ) → is_factor l ≡ true → pieces 42 (name_text l ++ (42 ∷ rest)) ≡ name_text l ∷ pieces 42 rest
star_cut l rest f = cut_at 42 (name_text l) rest (factor_free 42 l refl refl f)

last_cut : (l : Name) → is_factor l ≡ true → pieces 42 (name_text l) ≡ name_text l ∷ []
last_cut l f = cut_one 42 (name_text l) (factor_free 42 l refl refl f)

pair_forth : (l m : Name) → PairParts l m → pair_of (name_text l) (name_text m) ≡ Some (Product l m)
pair_forth l m q = rw (factor_forth l q.first, factor_forth m q.second, q.order) refl

triple_forth : (n : Name) (p : IsTriple n) → PairParts p.second p.third → triple_of (name_text p.first) (name_text p.second) (name_text p.third) ≡ Some n
triple_forth n p q = rw (factor_forth p.first p.factor, pair_forth p.second p.third q, p.order) (ap Some p.same)

-- the names of a product are cut at their stars
pub names_forth : (n : Name) → is_name n ≡ true → names_of (pieces 42 (name_text n)) ≡ Some n
names_forth n f = elim (name_kind n f) [
  | inl p ↦ ap names_of (last_cut n p) ∙ factor_forth n p
  | inr (inl p) ↦
      let q = pair_parts p.0 p.1 p.3 in
      ap (λ t. names_of (pieces 42 (name_text t))) (sym p.2) ∙ ap names_of (star_cut p.0 (name_text p.1) q.first ∙ ap (λ ps. name_text p.0 ∷ ps) (last_cut p.1 q.second)) ∙ pair_forth p.0 p.1 q ∙ ap Some p.2
  | inr (inr p) ↦
      let q = pair_parts p.second p.third p.pair in
      ap (λ t. names_of (pieces 42 (name_text t))) (sym p.same)
      ∙ ap names_of (star_cut p.first (name_text p.second ++ (42 ∷ name_text p.third)) p.factor ∙ ap (λ ps. name_text p.first ∷ ps) (star_cut p.second (name_text p.third) q.first ∙ ap (λ ps. name_text p.second ∷ ps) (last_cut p.third q.second)))
      ∙ triple_forth n p q
]
