-- How a kernel is read (C99 6.9.1; OpenCL 1.2, 6.7 and 6.8): `ks` are the names that are types.
use Rattle.std.specs.Prelude.{ℕ, zero, suc, ◌+◌, ◌-◌, List, [], ◌∷◌, ◌++◌, Bool, true, false, cond, ◌&&◌, ◌||◌, nat_eq, bytes_eq, codes, Option, None, Some}
use Rattle.std.specs.Option.{is_some}
use Rattle.semantics.specs.Core.{Site}
use Rattle.semantics.specs.Launch.{Three}
use Rattle.opencl_tokens.specs.Words as words
use Rattle.opencl_tokens.specs.Signs as signs
use Rattle.opencl_tokens.specs.Lexemes.{LexemeKind, Word, Mark, Name, Integer}
use Rattle.opencl_tree.specs.Types.{Base, Qualifiers, Void}
use Rattle.opencl_tree.specs.Tree.{Expression, Statements}
use Rattle.opencl_parser.specs.Faults.{Expected, TooMany, LeftOut, Half}
use Rattle.opencl_parser.specs.Reader.{Reader, Gives, Fails, Looks, Passes, Then, expects, takes}
use Rattle.opencl_parser.specs.Signs.{is_left_parenthesis, is_right_parenthesis, is_comma}
use Rattle.opencl_parser.specs.TypeNames.{Known, Typed, untyped, Part, NoPart, More, Wrong, typing, base_of, most_words, starring, is_half, is_bare}
use Rattle.opencl_parser.specs.Declarations.{is_left_brace, specified, new_name, dimensions, most_dimensions, is_single}
use Rattle.opencl_parser.specs.Statements.{block_reader}
use Rattle.opencl_parser.specs.Parsed.{is_end}
use Rattle.opencl_files.specs.FileTree.{Parameter, Header}
use Rattle.opencl_files.specs.Functions.{is_kernel}

abbrev pub is_attribute : LexemeKind → Bool
is_attribute (Word words.Attribute) = true
is_attribute kind = false

-- compilers take the name of an attribute between underlines, too
abbrev pub is_required_size : LexemeKind → Bool
is_required_size (Name x) = bytes_eq x (codes "reqd_work_group_size") || bytes_eq x (codes "__reqd_work_group_size__")
is_required_size kind = false

abbrev pub number_at : LexemeKind → Option ℕ
number_at (Integer kind value) = Some value
number_at kind = None

unfoldable pub number : Reader ℕ
number = Then (takes number_at) (λ n. Gives n.0)

-- behind `reqd_work_group_size`
unfoldable pub size_reader : Reader (Three ℕ)
size_reader =
    Then (expects is_left_parenthesis) (λ opening. Then number (λ x. Then (expects is_comma) (λ a. Then number (λ y.
    Then (expects is_comma) (λ b. Then number (λ z. Then (expects is_right_parenthesis) (λ closing. Gives (record { x = x; y = y; z = z }))))))))

-- an attribute has fewer lexemes than this (ours)
abbrev pub most_passed : ℕ
most_passed = 256

-- what a lexeme is to the attributes between two parentheses each
pub data AttributePart : Type 0 where
  Deeper Closing Sizes Passed : AttributePart

abbrev pub attribute_part : (depth : ℕ) → LexemeKind → AttributePart
attribute_part depth (Mark signs.LeftParenthesis) = Deeper
attribute_part depth (Mark signs.RightParenthesis) = Closing
attribute_part depth kind = cond (is_required_size kind && nat_eq depth 2) Sizes Passed

-- the size that is required stands once
abbrev pub sized : (more : Option (Three ℕ) → Reader (Option (Three ℕ))) → Option (Three ℕ) → Reader (Option (Three ℕ))
sized more None = Passes (Then size_reader (λ s. more (Some s)))
sized more (Some s) = Fails Expected

abbrev pub by_part : (more : (depth : ℕ) → Option (Three ℕ) → Reader (Option (Three ℕ))) → (depth : ℕ) → Option (Three ℕ) → AttributePart →
    Reader (Option (Three ℕ))
by_part more depth so Deeper = Passes (more (depth + 1) so)
by_part more depth so Closing = Passes (cond (nat_eq depth 1) (Gives so) (more (depth - 1) so))
by_part more depth so Sizes = sized (more depth) so
by_part more depth so Passed = Passes (more depth so)

-- where so many parentheses are open, up to the one that closes the last; others than `reqd_work_group_size` are passed over
unfoldable pub attributes : (left depth : ℕ) → Option (Three ℕ) → Reader (Option (Three ℕ))
attributes zero depth so = Fails TooMany
attributes (suc left) depth so = Looks (λ t. by_part (attributes left) depth so (attribute_part depth t.kind))

-- behind `__attribute__`: with the size that was required so far
unfoldable pub attribute : Option (Three ℕ) → Reader (Option (Three ℕ))
attribute so = Then (expects is_left_parenthesis) (λ a. Then (expects is_left_parenthesis) (λ b. attributes most_passed 2 so))

-- the words in front of a function's name
pub record Lead : Type 0 where
  pub typed : Typed
  pub sizes : Option (Three ℕ)

abbrev pub no_lead : Lead
no_lead = record { typed = untyped; sizes = None }

abbrev pub by_specified : (more : Lead → Reader Lead) → Lead → Part Typed → Reader Lead
by_specified more lead NoPart = Gives lead
by_specified more lead (More t) = Passes (more (record { typed = t; sizes = lead.sizes }))
by_specified more lead (Wrong fault) = Fails fault

-- storage classes, `inline` and `kernel` are passed over
unfoldable pub leading : List Known → (left : ℕ) → Lead → Reader Lead
leading ks zero lead = Fails TooMany
leading ks (suc left) lead = Looks (λ t.
    cond (is_attribute t.kind) (Passes (Then (attribute lead.sizes) (λ s. leading ks left (record { typed = lead.typed; sizes = s }))))
    (cond (is_kernel t.kind) (Passes (leading ks left lead)) (by_specified (leading ks left) lead (specified ks lead.typed t.kind))))

-- a type in front of a name
pub record Front : Type 0 where
  pub base : Base
  pub qualifiers : Qualifiers
  pub stars : List Qualifiers

abbrev pub parameter_so : Front → Site → Option (List ℕ) → List (Option Expression) → Parameter
parameter_so f at x ds = record { site = at; name = x; base = f.base; qualifiers = f.qualifiers; stars = f.stars; dimensions = ds }

-- a parameter's name may be missing
abbrev pub passed_name : Option (List ℕ) → Reader (Option (List ℕ))
passed_name None = Gives None
passed_name (Some x) = Passes (Gives (Some x))

unfoldable pub name_if_any : List Known → Reader (Option (List ℕ))
name_if_any ks = Looks (λ t. passed_name (new_name ks t.kind))

unfoldable pub parameter_at : List Known → Front → Reader Parameter
parameter_at ks f = Looks (λ t. Then (name_if_any ks) (λ x. Then (dimensions ks 64 most_dimensions []) (λ ds. Gives (parameter_so f t.site x ds))))

-- `half` is the element of a pointer alone (OpenCL 1.2, 6.1.1.1)
abbrev pub parameter_behind : List Known → Front → Reader Parameter
parameter_behind ks f = cond (is_half f.base && is_bare f.stars) (Fails (LeftOut Half)) (parameter_at ks f)

abbrev pub parameter_of : List Known → Qualifiers → Option (Base × Bool) → Reader Parameter
parameter_of ks q None = Fails Expected
parameter_of ks q (Some b) = Then (starring most_words []) (λ stars. parameter_behind ks (record { base = b.0; qualifiers = q; stars = stars }))

unfoldable pub parameter : List Known → Reader Parameter
parameter ks = Then (typing ks most_words untyped) (λ t. parameter_of ks t.qualifiers (base_of t.written))

-- a function has fewer parameters than this (ours)
abbrev pub most_parameters : ℕ
most_parameters = 256

-- behind those that were read, up to the parenthesis that closes them
unfoldable pub more_parameters : List Known → (left : ℕ) → List Parameter → Reader (List Parameter)
more_parameters ks zero so = Fails TooMany
more_parameters ks (suc left) so =
    Looks (λ t. cond (is_comma t.kind) (Passes (Then (parameter ks) (λ p. more_parameters ks left (so ++ p ∷ []))))
    (Then (expects is_right_parenthesis) (λ closing. Gives so)))

-- nothing but the word `void`
abbrev pub is_void : Option (List ℕ) → Base → Bool
is_void None Void = true
is_void x base = false

abbrev pub is_nothing : Parameter → Bool
is_nothing p = is_void p.name p.base && (is_bare p.stars && is_single p.dimensions)

-- `void` alone is no parameter (C99 6.7.5.3p10)
abbrev pub without_void : List Parameter → List Parameter
without_void (p ∷ []) = cond (is_nothing p) [] (p ∷ [])
without_void ps = ps

-- behind the opening parenthesis
unfoldable pub parameters : List Known → Reader (List Parameter)
parameters ks =
    Looks (λ t. cond (is_right_parenthesis t.kind) (Passes (Gives [])) (Then (parameter ks) (λ p.
    Then (more_parameters ks most_parameters (p ∷ [])) (λ ps. Gives (without_void ps)))))

-- attributes may stand behind the parameters, too
unfoldable pub trailing : (left : ℕ) → Option (Three ℕ) → Reader (Option (Three ℕ))
trailing zero so = Fails TooMany
trailing (suc left) so = Looks (λ t. cond (is_attribute t.kind) (Passes (Then (attribute so) (λ s. trailing left s))) (Gives so))

-- the stars and the name of a function
pub record Title : Type 0 where
  pub stars : List Qualifiers
  pub site : Site
  pub name : List ℕ

-- up to the parenthesis behind the name
unfoldable pub title : List Known → Reader Title
title ks = Then (starring most_words []) (λ stars. Then (takes (new_name ks)) (λ x. Then (expects is_left_parenthesis) (λ opening. Gives (record { stars = stars; site = x.1; name = x.0 }))))

abbrev pub header_so : Lead → Base → Title → List Parameter → Option (Three ℕ) → Header
header_so lead base x ps s = record { sizes = s; base = base; qualifiers = lead.typed.qualifiers; stars = x.stars; site = x.site; name = x.name; parameters = ps }

unfoldable pub header_with : List Known → Lead → Base → Reader Header
header_with ks lead base =
    Then (title ks) (λ x. Then (parameters ks) (λ ps. Then (trailing most_words lead.sizes) (λ s. Gives (header_so lead base x ps s))))

abbrev pub header_of : List Known → Lead → Option (Base × Bool) → Reader Header
header_of ks lead None = Fails Expected
header_of ks lead (Some b) = header_with ks lead b.0

unfoldable pub header : List Known → Reader Header
header ks = Then (leading ks most_words no_lead) (λ lead. header_of ks lead (base_of lead.typed.written))

-- behind a header, and nothing behind it
unfoldable pub body : List Known → Reader Statements
body ks = Then (expects is_left_brace) (λ opening. Then (block_reader ks 64 1) (λ b. Then (expects is_end) (λ end. Gives b.0)))

unfoldable pub function : List Known → Reader (Header × Statements)
function ks = Then (header ks) (λ h. Then (body ks) (λ b. Gives (h, b)))
