-- Sums that a text has by cases are read of it.
use Rattle.std.proofs.Common.{◌≡◌, ℕ, zero, suc, ◌+◌, ◌<◌, ◌≤◌, ◌^◌, Bool, true, false, nat_eq, nat_le, ◌||◌, ◌&&◌, List, [], ◌∷◌, ◌++◌, length, drop, Some, Ok, refl, ap, sym, ◌∙◌, subst, append_assoc, arith}
use Rattle.std.specs.Prelude.{ℤ, pos, negsuc, codes, bytes_eq}
use Rattle.std.specs.List.{prefix_len, starts_with}
use Rattle.std.specs.Str.{all_ascii_digits}
use Rattle.std.specs.Fmt.{decimal, signed_decimal}
use Rattle.std.proofs.Math.Seq.{drop-append_seam}
use Rattle.std.proofs.lemmas.Bool.{cond_both}
use Rattle.std.proofs.lemmas.Bool.Decides.{nat_tests}
use Rattle.std.proofs.lemmas.Int.{ints}
use Rattle.std.proofs.lemmas.Fmt.{decimal_nonempty}
use Rattle.std.proofs.lemmas.Slice.Eq.{bytes_eq-Decides}
use Rattle.semantics.specs.Conditions.{Factor, Summand}
use Rattle.lines.specs.Bytes.{is_decimal_digit}
use Rattle.lines.specs.Bytes.{is_letter, is_word_byte}
use Rattle.lines.specs.Identifiers.{all_word_bytes, is_identifier}
use Rattle.lines.specs.Lines.{is_integer}
use Rattle.texts.specs.Surface.{Parameter, Buffer, Value}
use Rattle.launch_text.specs.LaunchFaults.{cursor, found}
use Rattle.launch_text.specs.LaunchWords.{factor_within, factor_at}
use Rattle.launch_text.specs.LaunchSums.{value_number, argument_at, symbol_at, symbols_at, begins_number, term_at, sum_at}
use Rattle.launch_text.specs.ConditionsText.{IsFactor, IsSymbol, groups_x, groups_y, groups_z, argument, IsMultiple, one_name, two_names, IsTerm, alone, number, product, IsSum, last, more, IsShortSum}
use Rattle.lines.proofs.Fronts.{both, begins}
use Rattle.lines.proofs.Decimals.{digits_of_decimal}
use Rattle.launch_text.specs.Parameters.{AreNamed}
use Rattle.launch_text.proofs.Forth.{number_forth, word_prefix, letter_in_word, name_forth}

-- what may stand behind a term
pub record Stops (rest : List ℕ) : Type 0 where
  pub word : prefix_len is_word_byte rest ≡ 0
  pub digit : prefix_len is_decimal_digit rest ≡ 0
  pub star : starts_with nat_eq rest (codes "*") ≡ false
  pub dot : starts_with nat_eq rest (codes ".") ≡ false

-- what may stand behind a name
record Ends (rest : List ℕ) : Type 0 where
  pub word : prefix_len is_word_byte rest ≡ 0
  pub dot : starts_with nat_eq rest (codes ".") ≡ false

stops_end : (rest : List ℕ) → Stops rest → Ends rest
stops_end rest s = record { word = s.word; dot = s.dot }

star_ends : (rest : List ℕ) → Ends (42 ∷ rest)
star_ends rest = record { word = refl; dot = refl }

pub blank_stops : (rest : List ℕ) → Stops (32 ∷ rest)
blank_stops rest = record { word = refl; digit = refl; star = refl; dot = refl }

pub end_stops : (rest : List ℕ) → Stops (10 ∷ rest)
end_stops rest = record { word = refl; digit = refl; star = refl; dot = refl }

false_of : (b : Bool) → (b ≡ true → ⊥) → b ≡ false
false_of true h = absurd (h refl)
false_of false h = refl

-- the names of value parameters are identifiers
value_named : (before : ℕ) (ps : List Parameter) (name : List ℕ) (n : ℕ) → AreNamed ps → value_number before ps name ≡ Some n → is_identifier name ≡ true
value_named before [] name n i h = absurd cc
value_named before (Buffer constant k site own ∷ ps) name n i h = value_named before ps name n i.1 h
value_named before (Value k site own ∷ ps) name n i h =
    cond_both (bytes_eq own name) (Some before) (value_number (before + 1) ps name) (λ o. o ≡ Some n → is_identifier name ≡ true)
    (λ same _. subst (λ w. is_identifier w ≡ true) ((bytes_eq-Decides own name).0 same) i.0) (λ _ e. value_named (before + 1) ps name n i.1 e) h

identifier_bytes : (name : List ℕ) → is_identifier name ≡ true → all_word_bytes name ≡ true
identifier_bytes [] h = absurd cc
identifier_bytes (b ∷ name) h =
    let p = both (is_letter b) (all_word_bytes name) h in
    rw (letter_in_word b p.0, p.1) refl

-- a name goes on with no dot
no_dot : (name rest behind : List ℕ) → is_identifier name ≡ true → Ends rest → name ++ rest ≡ codes "groups." ++ behind → ⊥
no_dot name rest behind i s e =
    let six : length name ≡ 6 = sym (word_prefix name rest (identifier_bytes name i) s.word) ∙ ap (prefix_len is_word_byte) e in
    let dotted : rest ≡ 46 ∷ behind = sym (drop-append_seam name rest) ∙ ap (λ k. drop k (name ++ rest)) six ∙ ap (drop 6) e in
    let clash : true ≡ false = sym (ap (λ r. starts_with nat_eq r (codes ".")) dotted) ∙ s.dot in
    absurd cc

not_groups : (name rest digit : List ℕ) → is_identifier name ≡ true → Ends rest → starts_with nat_eq (name ++ rest) (codes "groups." ++ digit) ≡ false
not_groups name rest digit i s =
    let word : List ℕ = codes "groups." ++ digit in
    false_of (starts_with nat_eq (name ++ rest) word) (λ h. no_dot name rest (digit ++ drop (length word) (name ++ rest)) i s (begins (name ++ rest) word h))

symbol_forth : (ps : List Parameter) (bytes : List ℕ) (a : Factor) (rest : List ℕ) (n : ℕ) → AreNamed ps → IsSymbol ps bytes a → Ends rest → symbol_at ps (cursor n (bytes ++ rest)) ≡ Ok (a, cursor n rest)
unfolding symbol_at argument_at
symbol_forth ps bytes a rest n i groups_x h = refl
symbol_forth ps bytes a rest n i groups_y h = refl
symbol_forth ps bytes a rest n i groups_z h = refl
symbol_forth ps bytes a rest n i (argument name m found) h =
    let own = value_named 0 ps name m i found in
    rw (not_groups name rest (codes "0") own h, not_groups name rest (codes "1") own h, not_groups name rest (codes "2") own h, name_forth name rest n own h.word, found) refl

and_false : (b : Bool) → (b && false) ≡ false
and_false true = refl
and_false false = refl

symbols_forth : (products : Bool) (ps : List Parameter) (z : ℤ) (bytes : List ℕ) (s : Summand) (rest : List ℕ) (n : ℕ) → AreNamed ps → IsMultiple products ps z bytes s → Stops rest → symbols_at products ps z (cursor n (bytes ++ rest)) ≡ Ok (s, cursor n rest)
unfolding symbols_at
symbols_forth products ps z bytes s rest n i (one_name {a = a} symbol) h = rw (symbol_forth ps bytes a rest n i symbol (stops_end rest h), h.star, and_false products) refl
symbols_forth products ps z bytes s rest n i (two_names {first = first} {second = second} {a = a} {b = b} has one two) h =
    rw (append_assoc first (codes "*" ++ second) rest, symbol_forth ps first a (codes "*" ++ (second ++ rest)) n i one (star_ends (second ++ rest)), has, symbol_forth ps second b rest n i two (stops_end rest h)) refl

-- whether a number begins here
letter_is_no_digit : (b : ℕ) → is_letter b ≡ true → (nat_eq b 45 || is_decimal_digit b) ≡ false
letter_is_no_digit b h = grind (arith, nat_tests)

no_number : (name rest : List ℕ) → is_identifier name ≡ true → begins_number (name ++ rest) ≡ false
no_number [] rest h = absurd cc
no_number (b ∷ name) rest h = letter_is_no_digit b (both (is_letter b) (all_word_bytes name) h).0

symbol_begins : (ps : List Parameter) (bytes : List ℕ) (a : Factor) (rest : List ℕ) → AreNamed ps → IsSymbol ps bytes a → begins_number (bytes ++ rest) ≡ false
symbol_begins ps bytes a rest i groups_x = refl
symbol_begins ps bytes a rest i groups_y = refl
symbol_begins ps bytes a rest i groups_z = refl
symbol_begins ps bytes a rest i (argument name m found) = no_number name rest (value_named 0 ps name m i found)

symbols_begin : (products : Bool) (ps : List Parameter) (z : ℤ) (bytes : List ℕ) (s : Summand) (rest : List ℕ) → AreNamed ps → IsMultiple products ps z bytes s → begins_number (bytes ++ rest) ≡ false
symbols_begin products ps z bytes s rest i (one_name {a = a} symbol) = symbol_begins ps bytes a rest i symbol
symbols_begin products ps z bytes s rest i (two_names {first = first} {second = second} {a = a} has one two) =
    ap begins_number (append_assoc first (codes "*" ++ second) rest) ∙ symbol_begins ps first a (codes "*" ++ (second ++ rest)) i one

digit_begins : (b : ℕ) → is_decimal_digit b ≡ true → (nat_eq b 45 || is_decimal_digit b) ≡ true
digit_begins b h = grind (arith, nat_tests)

digits_begin : (ds rest : List ℕ) → 0 < length ds → all_ascii_digits ds ≡ true → begins_number (ds ++ rest) ≡ true
digits_begin [] rest l h = absurd (omega arith)
digits_begin (b ∷ ds) rest l h = digit_begins b (both (is_decimal_digit b) (all_ascii_digits ds) h).0

number_begins : (z : ℤ) (rest : List ℕ) → IsFactor z → begins_number (signed_decimal z ++ rest) ≡ true
number_begins (pos n) rest h =
    let l : n < 2 ^ 64 = omega (arith, ints, h.1) in
    digits_begin (decimal n) rest (omega (arith, decimal_nonempty n l)) (digits_of_decimal n l)
number_begins (negsuc n) rest h = refl

factor_fits : (z : ℤ) → IsFactor z → (is_integer z ≡ true) × (factor_within z ≡ Some z)
factor_fits (pos n) h =
    let small : nat_le n 4294967295 ≡ true = grind (arith, ints, nat_tests, h.1) in
    (grind (arith, ints, nat_tests, h.1), rw small refl)
factor_fits (negsuc n) h =
    let small : nat_le (n + 1) 4294967295 ≡ true = grind (arith, ints, nat_tests, h.0) in
    (grind (arith, ints, nat_tests, h.0), rw small refl)

factor_forth : (z : ℤ) (rest : List ℕ) (n : ℕ) → IsFactor z → prefix_len is_decimal_digit rest ≡ 0 → factor_at (cursor n (signed_decimal z ++ rest)) ≡ Ok (z, cursor n rest)
unfolding factor_at
factor_forth z rest n h s =
    let f = factor_fits z h in
    rw (number_forth z rest n f.0 s, f.1) refl

term_forth : (products : Bool) (ps : List Parameter) (bytes : List ℕ) (s : Summand) (rest : List ℕ) (n : ℕ) → AreNamed ps → IsTerm products ps bytes s → Stops rest → term_at products ps (cursor n (bytes ++ rest)) ≡ Ok (s, cursor n rest)
unfolding term_at
term_forth products ps bytes s rest n i (alone symbol) h = rw (symbols_begin products ps (pos 1) bytes s rest i symbol, symbols_forth products ps (pos 1) bytes s rest n i symbol h) refl
term_forth products ps bytes s rest n i (number z f) h = rw (number_begins z rest f, factor_forth z rest n f h.digit, h.star) refl
term_forth products ps bytes s rest n i (product {bytes = own} z f symbol) h =
    rw (append_assoc (signed_decimal z) (codes "*" ++ own) rest, number_begins z (codes "*" ++ (own ++ rest)) f, factor_forth z (codes "*" ++ (own ++ rest)) n f refl, symbols_forth products ps z own s rest n i symbol h) refl

sum_forth : (products : Bool) (ps : List Parameter) (room : ℕ) (done : List Summand) (bytes : List ℕ) (ss : List Summand) (rest : List ℕ) (n : ℕ) → AreNamed ps → IsSum products ps bytes ss → length ss ≤ room → Stops rest → starts_with nat_eq rest (codes " + ") ≡ false
    → sum_at products ps room done (cursor n (bytes ++ rest)) ≡ Ok (done ++ ss, cursor n rest)
unfolding sum_at
sum_forth products ps zero done bytes ss rest n i (last {s = s} t) l h plus = absurd (omega arith)
sum_forth products ps zero done bytes ss rest n i (more {s = s} {ss = others} t sum) l h plus = absurd (omega arith)
sum_forth products ps (suc room) done bytes ss rest n i (last {s = s} t) l h plus = rw (term_forth products ps bytes s rest n i t h, plus) refl
sum_forth products ps (suc room) done bytes ss rest n i (more {bytes = first} {others = others} {s = s} {ss = behind} t sum) l h plus =
    rw (append_assoc first (codes " + " ++ others) rest, term_forth products ps first s (codes " + " ++ (others ++ rest)) n i t (blank_stops (43 ∷ 32 ∷ (others ++ rest))), sum_forth products ps room (done ++ s ∷ []) others behind rest n i sum (omega (arith, l)) h plus, append_assoc done (s ∷ []) behind) refl

pub short_sum_forth : (products : Bool) (ps : List Parameter) (bytes : List ℕ) (ss : List Summand) (rest : List ℕ) (n : ℕ) → AreNamed ps → IsShortSum products ps bytes ss → Stops rest → starts_with nat_eq rest (codes " + ") ≡ false
    → sum_at products ps 8 [] (cursor n (bytes ++ rest)) ≡ Ok (ss, cursor n rest)
short_sum_forth products ps bytes ss rest n i h s plus = sum_forth products ps 8 [] bytes ss rest n i h.0 h.1 s plus
