-- How declarations are read (C99 6.7; OpenCL 1.2, 6.5 and 6.8): `ks` are the names that are types, `depth` is how many levels may stand
-- below.
use Rattle.std.specs.Prelude.{ℕ, zero, suc, List, [], ◌∷◌, ◌++◌, Bool, true, false, cond, ◌&&◌, ◌||◌, Option, None, Some}
use Rattle.std.specs.Option.{is_some}
use Rattle.semantics.specs.Core.{Site}
use Rattle.opencl_tokens.specs.Words as words
use Rattle.opencl_tokens.specs.Signs as signs
use Rattle.opencl_tokens.specs.Lexemes.{LexemeKind, Word, Mark, Name}
use Rattle.opencl_tree.specs.Types.{Base, Qualifiers}
use Rattle.opencl_tree.specs.Tree.{Expression, Initial, Absent, Given, Listed, Initials, no_more, and_then, Declarator, Declaration}
use Rattle.opencl_parser.specs.Faults.{Expected, TooDeep, TooMany, LeftOut, Half}
use Rattle.opencl_parser.specs.Reader.{Reader, Gives, Fails, Looks, Passes, Then, expects, takes}
use Rattle.opencl_parser.specs.Signs.{is_comma, is_right_bracket}
use Rattle.opencl_parser.specs.TypeNames.{Known, known, Typed, untyped, Part, NoPart, More, Wrong, grown, is_part, by_part, typing, most_words, base_of, starring, is_half, is_bare, starts_type}
use Rattle.opencl_parser.specs.Expressions.{level}

abbrev pub is_left_bracket : LexemeKind → Bool
is_left_bracket (Mark signs.LeftBracket) = true
is_left_bracket kind = false

abbrev pub is_equal : LexemeKind → Bool
is_equal (Mark signs.Equal) = true
is_equal kind = false

abbrev pub is_left_brace : LexemeKind → Bool
is_left_brace (Mark signs.LeftBrace) = true
is_left_brace kind = false

abbrev pub is_right_brace : LexemeKind → Bool
is_right_brace (Mark signs.RightBrace) = true
is_right_brace kind = false

-- storage classes and `inline`, which are passed over
abbrev pub is_storage : LexemeKind → Bool
is_storage (Word words.Static) = true
is_storage (Word words.Inline) = true
is_storage (Word words.Extern) = true
is_storage (Word words.Register) = true
is_storage (Word words.Auto) = true
is_storage kind = false

-- a declaration may begin here
abbrev pub starts_declaration : List Known → LexemeKind → Bool
starts_declaration ks kind = is_storage kind || starts_type ks kind

abbrev pub specified : List Known → Typed → LexemeKind → Part Typed
specified ks t kind = cond (is_storage kind) (More t) (grown ks t kind)

-- the words in front of declarators
unfoldable pub specifying : List Known → (left : ℕ) → Typed → Reader Typed
specifying ks zero t = Fails TooMany
specifying ks (suc left) t = Looks (λ n. by_part (specifying ks left) t (specified ks t n.kind))

-- a name that is no type: what has a type's name hides nothing (ours)
abbrev pub new_name : List Known → LexemeKind → Option (List ℕ)
new_name ks (Name x) = cond (is_some (known ks x)) None (Some x)
new_name ks kind = None

-- behind the bracket of a dimension
unfoldable pub dimension : List Known → (depth : ℕ) → Reader (Option Expression)
dimension ks depth =
    Looks (λ t. cond (is_right_bracket t.kind) (Passes (Gives None)) (Then (level ks depth 12) (λ e.
    Then (expects is_right_bracket) (λ closing. Gives (Some e)))))

-- an array has fewer dimensions than this (ours)
abbrev pub most_dimensions : ℕ
most_dimensions = 8

-- behind those that were read
unfoldable pub dimensions : List Known → (depth left : ℕ) → List (Option Expression) → Reader (List (Option Expression))
dimensions ks depth zero so = Fails TooMany
dimensions ks depth (suc left) so =
    Looks (λ t. cond (is_left_bracket t.kind) (Passes (Then (dimension ks depth) (λ d. dimensions ks depth left (so ++ d ∷ [])))) (Gives so))

-- a name with its stars and dimensions
pub record Shape : Type 0 where
  pub stars : List Qualifiers
  pub site : Site
  pub name : List ℕ
  pub dimensions : List (Option Expression)

unfoldable pub shaped : List Known → (depth : ℕ) → List Qualifiers → Reader Shape
shaped ks depth stars =
    Then (takes (new_name ks)) (λ x.
    Then (dimensions ks depth most_dimensions []) (λ ds. Gives (record { stars = stars; site = x.1; name = x.0; dimensions = ds })))

unfoldable pub shape : List Known → (depth : ℕ) → Base → Reader Shape
shape ks depth base =
    Then (starring most_words []) (λ stars. cond (is_half base && is_bare stars) (Fails (LeftOut Half)) (shaped ks depth stars))

abbrev pub with_last_value : Initials → Initial → Initials
with_last_value no_more i = and_then i no_more
with_last_value (and_then first others) i = and_then first (with_last_value others i)

-- how many values a list has at most (ours)
abbrev pub most_values : ℕ
most_values = 65536

-- behind the values that were read, up to the brace that closes them; a comma may stand in front of it
unfoldable pub more_values : (value : Reader Initial) (left : ℕ) → Initials → Reader Initials
more_values value zero so = Fails TooMany
more_values value (suc left) so =
    Looks (λ t. cond (is_comma t.kind) (Passes (Looks (λ n.
    cond (is_right_brace n.kind) (Passes (Gives so)) (Then value (λ i. more_values value left (with_last_value so i))))))
    (Then (expects is_right_brace) (λ closing. Gives so)))

-- one or more
unfoldable pub values : (value : Reader Initial) → Reader Initials
values value = Then value (λ i. more_values value most_values (and_then i no_more))

unfoldable pub initial_value : List Known → (depth : ℕ) → Reader Initial
initial_value ks zero = Fails TooDeep
initial_value ks (suc depth) =
    Looks (λ t. cond (is_left_brace t.kind) (Passes (Then (values (initial_value ks depth)) (λ is. Gives (Listed t.site is)))) (Then (level ks depth 12) (λ e. Gives (Given e))))

unfoldable pub initial : List Known → (depth : ℕ) → Reader Initial
initial ks depth = Looks (λ t. cond (is_equal t.kind) (Passes (initial_value ks depth)) (Gives Absent))

abbrev pub named : Shape → Initial → Declarator
named s i = record { site = s.site; name = s.name; stars = s.stars; dimensions = s.dimensions; initial = i }

unfoldable pub declarator : List Known → (depth : ℕ) → Base → Reader Declarator
declarator ks depth base = Then (shape ks depth base) (λ s. Then (initial ks depth) (λ i. Gives (named s i)))

-- how many declarators a declaration has at most (ours)
abbrev pub most_declarators : ℕ
most_declarators = 64

-- behind those that were read
unfoldable pub more_declarators : (declarator : Reader Declarator) (left : ℕ) → List Declarator → Reader (List Declarator)
more_declarators declarator zero so = Fails TooMany
more_declarators declarator (suc left) so =
    Looks (λ t. cond (is_comma t.kind) (Passes (Then declarator (λ d. more_declarators declarator left (so ++ d ∷ [])))) (Gives so))

unfoldable pub declarators : (declarator : Reader Declarator) → Reader (List Declarator)
declarators declarator = Then declarator (λ d. more_declarators declarator most_declarators (d ∷ []))

abbrev pub declared : (ks : List Known) (depth n : ℕ) → Site → Qualifiers → Option (Base × Bool) → Reader Declaration
declared ks depth n at q None = Fails Expected
declared ks depth n at q (Some b) =
    Then (declarators (declarator ks depth b.0)) (λ ds. Gives (record { number = n; site = at; base = b.0; qualifiers = q; declarators = ds }))

-- up to its last declarator
unfoldable pub declaration : (ks : List Known) (depth n : ℕ) → Site → Reader Declaration
declaration ks depth n at = Then (specifying ks most_words untyped) (λ t. declared ks depth n at t.qualifiers (base_of t.written))

abbrev pub is_single : List (Option Expression) → Bool
is_single [] = true
is_single (d ∷ ds) = false

-- the declaration of a type's name, and what is known of that name
abbrev pub defined : (n : ℕ) → Site → Qualifiers → Base × Bool → Shape → Declaration × Known
defined n at q b s =
    (record { number = n; site = at; base = b.0; qualifiers = q; declarators = named s Absent ∷ [] }, record { name = s.name; is_vector = b.1 && (is_bare s.stars && is_single s.dimensions) })

abbrev pub aliased : (ks : List Known) (depth n : ℕ) → Site → Qualifiers → Option (Base × Bool) → Reader (Declaration × Known)
aliased ks depth n at q None = Fails Expected
aliased ks depth n at q (Some b) = Then (shape ks depth b.0) (λ s. Gives (defined n at q b s))

-- behind `typedef`: one name (ours)
unfoldable pub alias : (ks : List Known) (depth n : ℕ) → Site → Reader (Declaration × Known)
alias ks depth n at = Then (typing ks most_words untyped) (λ t. aliased ks depth n at t.qualifiers (base_of t.written))
