-- The names and forms of a certificate, by their words. Words that fit nothing give nothing.
use Rattle.std.specs.Prelude.{ℕ, ℤ, pos, List, [], ◌∷◌, ◌++◌, drop, Bool, cond, not, nat_eq, ◌&&◌, Option, None, Some, Result, Ok, Err, bytes_eq, codes}
use Rattle.std.specs.Option.{option_map}
use Rattle.std.specs.Ordering.{nat_cmp, is_lt, int_eq}
use Rattle.std.specs.List.{starts_with}
use Rattle.std.specs.Cmp.Lexicographic.{slice_cmp}
use Rattle.linear.specs.Linear.{Weighted, Form}
use Rattle.lines.specs.Identifiers.{is_identifier}
use Rattle.lines.specs.Lines.{NumberFault, is_empty, pieces, first, sole, follows, natural_of, integer_of}
use Rattle.certificate_text.specs.Certificate.{Dimension, First, Second, Third, Name, Variable, AtAnchor, Turns, Fresh, Argument, Length, Groups, Group, Local, Product}
use Rattle.certificate_text.specs.Text.{name_text}

abbrev pub then : {A B : Type 0} → Option A → (A → Option B) → Option B
then None go = None
then (Some a) go = go a

abbrev pub when : {A : Type 0} → Bool → A → Option A
when holds a = cond holds (Some a) None

abbrev pub number : {A : Type 0} → Result A NumberFault → Option A
number (Ok a) = Some a
number (Err fault) = None

abbrev pub begins : (word front : List ℕ) → Bool
begins word front = starts_with nat_eq word front

abbrev pub identifier_of : List ℕ → Option (List ℕ)
identifier_of word = when (is_identifier word) word

abbrev pub dimension_of : List ℕ → Option Dimension
dimension_of word =
    cond (bytes_eq word (codes "0")) (Some First) (cond (bytes_eq word (codes "1")) (Some Second) (cond (bytes_eq word (codes "2")) (Some Third) None))

-- `groups.`, `group.` and `local.`
unfoldable pub dimensional_of : List ℕ → Option Name
dimensional_of word =
    cond (begins word (codes "groups.")) (option_map Groups (dimension_of (drop 7 word))) (
    cond (begins word (codes "group.")) (option_map Group (dimension_of (drop 6 word))) (
    cond (begins word (codes "local.")) (option_map Local (dimension_of (drop 6 word))) (
    option_map Variable (identifier_of word))))

-- a name of one item alone
unfoldable pub name_of : List ℕ → Option Name
name_of word =
    cond (begins word (codes "@")) (option_map AtAnchor (identifier_of (drop 1 word))) (
    cond (begins word (codes "$")) (option_map Turns (number (natural_of (drop 1 word)))) (
    cond (begins word (codes "#")) (option_map Fresh (number (natural_of (drop 1 word)))) (
    cond (begins word (codes "arg.")) (option_map Argument (identifier_of (drop 4 word))) (
    cond (begins word (codes "len.")) (option_map Length (identifier_of (drop 4 word))) (
    dimensional_of word)))))

-- bytes before bytes, as in a dictionary
abbrev pub is_before : (left right : List ℕ) → Bool
is_before left right = is_lt (slice_cmp nat_cmp left right)

-- the second item's, where `'` stands behind a name, and nothing behind that
abbrev pub second_of : (word : List ℕ) → List (List ℕ) → Option Name
second_of word behind = then (sole behind) (λ rest. cond (is_empty rest) (option_map Second (name_of word)) None)

-- a name, and `'` behind that of the second item
abbrev pub factor_of : List ℕ → Option Name
factor_of word = then (first (pieces 39 word)) (λ w. cond (is_empty w.1) (name_of w.0) (second_of w.0 w.1))

-- names of a product rise by their bytes, or are the same
abbrev pub in_order : (left right : List ℕ) → Bool
in_order left right = not (is_before right left)

abbrev pub pair_of : (first second : List ℕ) → Option Name
pair_of first second = then (factor_of first) (λ m. then (factor_of second) (λ n. when (in_order first second) (Product m n)))

abbrev pub triple_of : (first second third : List ℕ) → Option Name
triple_of first second third = then (factor_of first) (λ m. then (pair_of second third) (λ n. when (in_order first second) (Product m n)))

abbrev pub product_in : (word : List ℕ) → List (List ℕ) → Option Name
product_in word words = then (first words) (λ w. cond (is_empty w.1) (pair_of word w.0) (then (sole w.1) (triple_of word w.0)))

-- one name, or two or three that have a product
abbrev pub names_of : List (List ℕ) → Option Name
names_of words = then (first words) (λ w. cond (is_empty w.1) (factor_of w.0) (product_in w.0 w.1))

abbrev pub weighted : ℤ → Name → Weighted Name
weighted coefficient name = record { coefficient = coefficient; symbol = name }

-- the number and the names of `C*NAME`; no coefficient is 0
abbrev pub term_in : (number_word : List ℕ) → (names : List (List ℕ)) → Option (Weighted Name)
term_in number_word names =
    then (number (integer_of number_word)) (λ coefficient. then (names_of names) (λ name.
    when (not (int_eq coefficient (pos 0))) (weighted coefficient name)))

abbrev pub term_of : List ℕ → Option (Weighted Name)
term_of word = then (first (pieces 42 word)) (λ parts. term_in parts.0 parts.1)

-- names rise in the order of their bytes
abbrev pub term_is_before : (left right : Weighted Name) → Bool
term_is_before left right = is_before (name_text left.symbol) (name_text right.symbol)

abbrev pub form : List (Weighted Name) → ℤ → Form Name
form terms constant = record { terms = terms; constant = constant }

abbrev pub constant_of : List (Weighted Name) → List ℕ → Option (Form Name)
constant_of terms word = option_map (form terms) (number (integer_of word))

-- terms with ` + ` after each, their names rising, and a constant
unfoldable pub form_of : (terms : List (Weighted Name)) → List (List ℕ) → Option (Form Name)
form_of terms [] = None
form_of terms (word ∷ []) = constant_of terms word
form_of terms (word ∷ sign ∷ others) =
    then (term_of word) (λ term. cond (bytes_eq sign (codes "+") && follows term_is_before terms term) (form_of (terms ++ term ∷ []) others) None)
