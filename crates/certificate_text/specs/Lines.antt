-- What a line of a certificate says, by its words. Words that fit nothing give nothing.
use Rattle.std.specs.Prelude.{ℕ, List, [], ◌∷◌, ◌++◌, drop, Bool, cond, not, nat_le, Option, None, Some, Result, bytes_eq, codes}
use Rattle.std.specs.Option.{option_map}
use Rattle.std.specs.Int.Signed.{lt_z}
use Rattle.linear.specs.Linear.{Form}
use Rattle.lines.specs.Lines.{NumberFault, pieces, is_empty, follows, sole, two, first, natural_of, integer_of}
use Rattle.certificate_text.specs.Certificate.{Name, Anchor, KernelEntry, Barrier, Spot, Congruence, Multiple, Descent, Down, Halve, Double, Bound, EntrySort, Show, Positive, Negative, Quotient, Scaled, Step, Given, Sum, Divide, Product}
use Rattle.certificate_text.specs.Forms.{then, when, number, begins, identifier_of, constant_of, form_of}

-- what a line between the first and the last says
pub data Item : Type 0 where
  PlaceItem : (spot : Spot) → Item
  SameItem : (name : List ℕ) → Item
  FactItem : (form : Form Name) → Item
  CongruenceItem : (congruence : Congruence) → Item
  MultipleItem : (multiple : Multiple) → Item
  BoundItem : (bound : Bound) → Item
  EntryItem : (obligation : ℕ) (sort : EntrySort) → Item
  LemmaItem : (form : Form Name) → Item
  MainItem : Item
  StepItem : (step : Step) → Item
  EndItem : Item

abbrev pub anchor_of : List ℕ → Option Anchor
anchor_of word =
    cond (bytes_eq word (codes "entry")) (Some KernelEntry) (cond (begins word (codes "b")) (option_map Barrier (number (natural_of (drop 1 word)))) None)

abbrev pub head_of : List (List ℕ) → Option (Option ℕ)
head_of [] = Some None
head_of (word ∷ []) = cond (begins word (codes "h")) (option_map Some (number (natural_of (drop 1 word)))) None
head_of (word ∷ other ∷ others) = None

-- an anchor, and `/hK` behind it
abbrev pub spot_of : List (List ℕ) → Option Spot
spot_of words = then (first words) (λ w. then (anchor_of w.0) (λ anchor. then (head_of w.1) (λ head. Some (record { anchor = anchor; head = head }))))

abbrev pub at_least : ℕ → Result ℕ NumberFault → Option ℕ
at_least least answer = then (number answer) (λ n. when (nat_le least n) n)

unfoldable pub congruence_of : List (List ℕ) → Option Congruence
congruence_of words =
    then (first words) (λ w. then (at_least 2 (natural_of w.0)) (λ modulus. then (form_of [] w.1) (λ f.
    Some (record { modulus = modulus; form = f }))))

-- `A of B`, of two numbers
abbrev pub multiple_in : (form between of : List ℕ) → Option Multiple
multiple_in form between of =
    cond (bytes_eq between (codes "of")) (then (constant_of [] form) (λ f. then (constant_of [] of) (λ g. Some (record { of = g; form = f })))) None

unfoldable pub multiple_of : List (List ℕ) → Option Multiple
multiple_of words = then (first words) (λ a. then (two a.1) (λ b. multiple_in a.0 b.0 b.1))

-- `down STEP`, `halve` or `double LOW`, and the words after it
abbrev pub descent_of : List ℕ → List (List ℕ) → Option (Descent × List (List ℕ))
descent_of word words =
    cond (bytes_eq word (codes "down")) (then (first words) (λ w. then (at_least 1 (natural_of w.0)) (λ step. Some (Down step, w.1)))) (
    cond (bytes_eq word (codes "halve")) (Some (Halve, words)) (
    cond (bytes_eq word (codes "double")) (then (first words) (λ w. then (at_least 1 (natural_of w.0)) (λ least. Some (Double least, w.1)))) None))

unfoldable pub bound_of : List (List ℕ) → Option Bound
bound_of words =
    then (first words) (λ a. then (number (natural_of a.0)) (λ loop. then (first a.1) (λ b. then (descent_of b.0 b.1) (λ descent.
    then (first descent.1) (λ c. then (number (integer_of c.0)) (λ most. then (form_of [] c.1) (λ f.
    Some (record { loop = loop; descent = descent.0; most = most; form = f }))))))))

abbrev pub plain_sort : List ℕ → Option EntrySort
plain_sort word =
    cond (bytes_eq word (codes "show")) (Some Show) (cond (bytes_eq word (codes "pos")) (Some Positive) (cond (bytes_eq word (codes "neg")) (Some Negative) None))

abbrev pub sort_of : List ℕ → List (List ℕ) → Option EntrySort
sort_of word words =
    cond (bytes_eq word (codes "quot")) (option_map Quotient (form_of [] words)) (cond (is_empty words) (plain_sort word) None)

unfoldable pub entry_of : List (List ℕ) → Option Item
entry_of words =
    then (first words) (λ a. then (at_least 1 (natural_of a.0)) (λ obligation. then (first a.1) (λ b. then (sort_of b.0 b.1) (λ sort.
    Some (EntryItem obligation sort)))))

abbrev pub scaled_of : (factor line : List ℕ) → Option Scaled
scaled_of factor line =
    then (number (integer_of factor)) (λ f. then (number (integer_of line)) (λ l. Some (record { factor = f; line = l })))

abbrev pub line_is_before : (left right : Scaled) → Bool
line_is_before left right = lt_z left.line right.line

-- pairs of a weight and a line, one at least, the lines rising
unfoldable pub sum_of : (parts : List Scaled) → List (List ℕ) → Option Step
sum_of parts [] = when (not (is_empty parts)) (Sum parts)
sum_of parts (weight ∷ []) = None
sum_of parts (weight ∷ line ∷ others) =
    then (scaled_of weight line) (λ p. cond (follows line_is_before parts p) (sum_of (parts ++ p ∷ []) others) None)

abbrev pub given_of : List (List ℕ) → Option Step
given_of words = then (sole words) (λ word. option_map Given (number (integer_of word)))

abbrev pub divide_of : List (List ℕ) → Option Step
divide_of words = then (two words) (λ w. option_map Divide (scaled_of w.0 w.1))

abbrev pub product_of : List (List ℕ) → Option Step
product_of words = then (two words) (λ w. then (number (integer_of w.0)) (λ first. then (number (integer_of w.1)) (λ second. Some (Product first second))))

-- by the first word; those of a place
abbrev pub place_item : (keyword : List ℕ) → List (List ℕ) → Option Item
place_item keyword words =
    cond (bytes_eq keyword (codes "place")) (then (sole words) (λ word. option_map PlaceItem (spot_of (pieces 47 word)))) (
    cond (bytes_eq keyword (codes "same")) (then (sole words) (λ word. option_map SameItem (identifier_of word))) (
    cond (bytes_eq keyword (codes "fact")) (option_map FactItem (form_of [] words)) (
    cond (bytes_eq keyword (codes "mod")) (option_map CongruenceItem (congruence_of words)) (
    cond (bytes_eq keyword (codes "multiple")) (option_map MultipleItem (multiple_of words)) None))))

-- those of lemmas, and a product
abbrev pub lemma_item : (keyword : List ℕ) → List (List ℕ) → Option Item
lemma_item keyword words =
    cond (bytes_eq keyword (codes "p")) (option_map StepItem (product_of words)) (
    cond (bytes_eq keyword (codes "l")) (option_map LemmaItem (form_of [] words)) (
    cond (bytes_eq keyword (codes "m")) (when (is_empty words) MainItem) (
    place_item keyword words)))

-- those of a derivation
abbrev pub step_item : (keyword : List ℕ) → List (List ℕ) → Option Item
step_item keyword words =
    cond (bytes_eq keyword (codes "g")) (option_map StepItem (given_of words)) (
    cond (bytes_eq keyword (codes "s")) (option_map StepItem (sum_of [] words)) (
    cond (bytes_eq keyword (codes "d")) (option_map StepItem (divide_of words)) (
    lemma_item keyword words)))

unfoldable pub item_of : List (List ℕ) → Option Item
item_of words =
    then (first words) (λ w.
    cond (bytes_eq w.0 (codes "loop")) (option_map BoundItem (bound_of w.1)) (
    cond (bytes_eq w.0 (codes "ob")) (entry_of w.1) (
    cond (bytes_eq w.0 (codes "end")) (when (is_empty w.1) EndItem) (
    step_item w.0 w.1))))
