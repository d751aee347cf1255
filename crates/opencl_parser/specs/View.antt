-- What the code reads and answers, as the definitions have it.
use Rattle.std.specs.Prelude.{◌≡◌, ℕ, List, Bool, map, Option, None, Some, Result, Ok, Err, Vec}
use denote.Ref.{Bor}
use Rattle.semantics.specs.Core.{Site}
use Rattle.std.specs.declared.alloc.Global.{Global}
use Rattle.syntax.specs.View.{infix_sign, assign_sign}
use Rattle.opencl_tokens.specs.Lexemes as lexemes_of
use Rattle.opencl_tokens.specs.Seen.{lexeme}
use Rattle.opencl_tokens.specs.Spelling.{scalar}
use Rattle.opencl_tokens.specs.declared.Lexeme.{Lexeme}
use Rattle.core_code.specs.View.{site}
use Rattle.opencl_tree.specs.Types as types
use Rattle.opencl_tree.specs.Tree as tree
use Rattle.opencl_tree.specs.View.{prefix_sign, step_sign, qualifiers, type_name, expressions}
use Rattle.opencl_tree.specs.declared.types.Qualifiers.{Qualifiers}
use Rattle.opencl_tree.specs.declared.types.TypeName.{TypeName}
use Rattle.opencl_tree.specs.declared.tree.Expr.{Expr}
use Rattle.opencl_parser.specs.Faults as rules
use Rattle.opencl_parser.specs.Signs as signs
use Rattle.opencl_parser.specs.TypeNames as names
use Rattle.opencl_parser.specs.Reader.{Attempt, Took, Refused}
use Rattle.opencl_parser.specs.declared.stops.Construct.{Construct}
use Rattle.opencl_parser.specs.declared.stops.Construct.TheVariants as constructs
use Rattle.opencl_parser.specs.declared.stops.ParseFault.{ParseFault}
use Rattle.opencl_parser.specs.declared.stops.ParseFault.TheVariants as faults
use Rattle.opencl_parser.specs.declared.stops.ParseError.{ParseError}
use Rattle.opencl_parser.specs.declared.stops.ParseError.TheVariants as errors
use Rattle.opencl_parser.specs.declared.signs.Join.{Join}
use Rattle.opencl_parser.specs.declared.signs.Join.TheVariants as joins
use Rattle.opencl_parser.specs.declared.signs.Joint.{Joint}
use Rattle.opencl_parser.specs.declared.signs.Joint.TheVariants as joints
use Rattle.opencl_parser.specs.declared.signs.Opening.{Opening}
use Rattle.opencl_parser.specs.declared.signs.Opening.TheVariants as openings
use Rattle.opencl_parser.specs.declared.signs.Suffix.{Suffix}
use Rattle.opencl_parser.specs.declared.signs.Suffix.TheVariants as suffixes
use Rattle.opencl_parser.specs.declared.type_words.Known.{Known}
use Rattle.opencl_parser.specs.declared.type_words.Rank.{Rank}
use Rattle.opencl_parser.specs.declared.type_words.Rank.TheVariants as ranks
use Rattle.opencl_parser.specs.declared.type_words.Named.{Named}
use Rattle.opencl_parser.specs.declared.type_words.Named.TheVariants as named
use Rattle.opencl_parser.specs.declared.type_words.Written.{Written}
use Rattle.opencl_parser.specs.declared.type_words.Written.TheVariants as written_as
use Rattle.opencl_parser.specs.declared.type_words.Typed.{Typed}
use Rattle.opencl_parser.specs.declared.type_words.WordPart.{WordPart}
use Rattle.opencl_parser.specs.declared.type_words.WordPart.TheVariants as word_parts
use Rattle.opencl_parser.specs.declared.type_words.TypePart.{TypePart}
use Rattle.opencl_parser.specs.declared.type_words.TypePart.TheVariants as type_parts

-- what the definitions read of the code's lexemes
abbrev pub lexemes : List Lexeme → List lexemes_of.Lexeme
lexemes ts = map lexeme ts

abbrev pub construct : Construct → rules.Construct
construct constructs.Structure = rules.Structure
construct constructs.Enumeration = rules.Enumeration
construct constructs.Image = rules.Image
construct constructs.Sampler = rules.Sampler
construct constructs.Event = rules.Event
construct constructs.Double = rules.Double
construct constructs.Half = rules.Half
construct constructs.Long = rules.Long
construct constructs.String = rules.String
construct constructs.Goto = rules.Goto
construct constructs.Label = rules.Label

abbrev pub fault : ParseFault → rules.ParseFault
fault faults.Expected = rules.Expected
fault faults.TooDeep = rules.TooDeep
fault faults.TooMany = rules.TooMany
fault (faults.LeftOut c) = rules.LeftOut (construct c)

abbrev pub error_number : ParseError → ℕ
error_number (errors.At f s) = rules.fault_number (fault f)
error_number errors.Memory = 90

-- an error is the reader's, unless memory was refused
abbrev pub IsStopOf : {A : Type 0} → ParseError → Attempt A → Type 0
IsStopOf (errors.At f s) outcome = outcome ≡ Refused (fault f) (site s)
IsStopOf errors.Memory outcome = Unit {0}

abbrev pub Reads : {A C : Type 0} → (C → A) → Result (C × Bor (List Lexeme)) ParseError → Attempt A → Type 0
Reads view (Ok (c, rest)) outcome = outcome ≡ Took (view c) (lexemes rest.now)
Reads view (Err error) outcome = IsStopOf error outcome

-- signs
abbrev pub join : Join → signs.Join
join (joins.Operates s) = signs.Operates (infix_sign s)
join joins.Sequence = signs.Sequence

abbrev pub joint : Joint → signs.Joint
joint (joints.Joins j) = signs.Joins (join j)
joint (joints.Assigns s) = signs.Assigns (assign_sign s)
joint joints.Asks = signs.Asks

abbrev pub ranked_joint : ℕ × Joint → ℕ × signs.Joint
ranked_joint entry = (entry.0, joint entry.1)

abbrev pub maybe_joint : Option Joint → Option signs.Joint
maybe_joint None = None
maybe_joint (Some j) = Some (joint j)

abbrev pub maybe_ranked : Option (ℕ × Joint) → Option (ℕ × signs.Joint)
maybe_ranked None = None
maybe_ranked (Some entry) = Some (ranked_joint entry)

abbrev pub opening : Opening → signs.Opening
opening (openings.Prefixes s) = signs.Prefixes (prefix_sign s)
opening (openings.Steps s) = signs.Steps (step_sign s)
opening openings.Opens = signs.Opens
opening openings.Wrong = signs.Wrong

abbrev pub suffix : Suffix → signs.Suffix
suffix suffixes.Indexes = signs.Indexes
suffix suffixes.Selects = signs.Selects
suffix (suffixes.Steps s) = signs.StepsBehind (step_sign s)
suffix suffixes.Follows = signs.Follows

abbrev pub maybe_suffix : Option Suffix → Option signs.Suffix
maybe_suffix None = None
maybe_suffix (Some s) = Some (suffix s)

abbrev pub text_seen : Bor (List ℕ) → List ℕ
text_seen text = text.now

-- types
abbrev pub known : Known → names.Known
known k = record { name = k.name.now; is_vector = k.is_vector }

abbrev pub all_known : List Known → List names.Known
all_known ks = map known ks

abbrev pub rank : Rank → names.Rank
rank ranks.Chars = names.Chars
rank ranks.Shorts = names.Shorts
rank ranks.Longs = names.Longs

abbrev pub maybe_rank : Option Rank → Option names.Rank
maybe_rank None = None
maybe_rank (Some n) = Some (rank n)

abbrev pub base_named : Named → types.Base
base_named named.Void = types.Void
base_named (named.Numbers s width) = types.Numbers (scalar s) width
base_named (named.Alias x) = types.Alias x.now

abbrev pub written : Written → names.Written
written written_as.Nothing = names.Nothing
written (written_as.Words unsigned n with_int) = names.Words unsigned (maybe_rank n) with_int
written (written_as.Whole base is_vector) = names.Whole (base_named base) is_vector

abbrev pub maybe_written : Option Written → Option names.Written
maybe_written None = None
maybe_written (Some w) = Some (written w)

abbrev pub word_part : WordPart → names.Part names.Written
word_part word_parts.NoPart = names.NoPart
word_part (word_parts.More w) = names.More (written w)
word_part (word_parts.Wrong f) = names.Wrong (fault f)

abbrev pub typed : Typed → names.Typed
typed t = record { written = written t.written; qualifiers = qualifiers t.qualifiers }

abbrev pub type_part : TypePart → names.Part names.Typed
type_part type_parts.NoPart = names.NoPart
type_part (type_parts.More t) = names.More (typed t)
type_part (type_parts.Wrong f) = names.Wrong (fault f)

abbrev pub maybe_base : Option (Named × Bool) → Option (types.Base × Bool)
maybe_base None = None
maybe_base (Some b) = Some (base_named b.0, b.1)

abbrev pub maybe_qualified : Option Qualifiers → Option types.Qualifiers
maybe_qualified None = None
maybe_qualified (Some q) = Some (qualifiers q)

abbrev pub maybe_construct : Option Construct → Option rules.Construct
maybe_construct None = None
maybe_construct (Some c) = Some (construct c)

abbrev pub stars_seen : Vec Qualifiers Global → List types.Qualifiers
stars_seen stars = map qualifiers stars.items

-- a type, and whether it is a vector
abbrev pub sorted : TypeName × Bool → types.TypeName × Bool
sorted t = (type_name t.0, t.1)

abbrev pub arguments_seen : Vec Expr Global → tree.Expressions
arguments_seen arguments = expressions arguments.items
