-- How types are read (C99 6.7.2, 6.7.3, 6.7.6; OpenCL 1.2, 6.1 and 6.5).
use Rattle.std.specs.Prelude.{ℕ, zero, suc, List, [], ◌∷◌, ◌++◌, Bool, true, false, cond, not, ◌&&◌, nat_lt, Option, Some, None, bytes_eq, codes}
use Rattle.opencl_tokens.specs.Words as words
use Rattle.opencl_tokens.specs.Scalars as scalars
use Rattle.opencl_tokens.specs.Scalars.{Scalar}
use Rattle.opencl_tokens.specs.Lexemes.{LexemeKind, Word, «Type», Name}
use Rattle.opencl_tree.specs.Types as types
use Rattle.opencl_tree.specs.Types.{Space, Qualifiers, Base, TypeName, Void, Numbers, Alias}
use Rattle.opencl_parser.specs.Faults.{ParseFault, Expected, TooMany, LeftOut, Construct, Structure, Enumeration, Image, Sampler, Event, Double, Half, Long}
use Rattle.opencl_parser.specs.Reader.{Reader, Gives, Fails, Looks, Passes, Then}
use Rattle.opencl_parser.specs.Signs.{is_star}

-- a name that a `typedef` made, and whether it is that of a vector
pub record Known : Type 0 where
  pub name : List ℕ
  pub is_vector : Bool

-- the newest one of that name says whether it is a vector; none where the name is no type
abbrev pub known : List Known → List ℕ → Option Bool
known [] x = None
known (k ∷ ks) x = cond (bytes_eq k.name x) (Some k.is_vector) (known ks x)

-- `char`, `short` and `long`, with which `int` and a sign may stand, or may not
pub data Rank : Type 0 where
  Chars Shorts Longs : Rank

-- the words that name a type, so far
pub data Written : Type 0 where
  Nothing : Written
  Words : (unsigned : Option Bool) (rank : Option Rank) (with_int : Bool) → Written
  Whole : (base : Base) (is_vector : Bool) → Written

abbrev pub with_sign : Bool → Written → Option Written
with_sign unsigned Nothing = Some (Words (Some unsigned) None false)
with_sign unsigned (Words None rank int) = Some (Words (Some unsigned) rank int)
with_sign unsigned written = None

abbrev pub with_char : Written → Option Written
with_char Nothing = Some (Words None (Some Chars) false)
with_char (Words sign None false) = Some (Words sign (Some Chars) false)
with_char written = None

abbrev pub with_short : Written → Option Written
with_short Nothing = Some (Words None (Some Shorts) false)
with_short (Words sign None int) = Some (Words sign (Some Shorts) int)
with_short written = None

abbrev pub with_long : Written → Option Written
with_long Nothing = Some (Words None (Some Longs) false)
with_long (Words sign None int) = Some (Words sign (Some Longs) int)
with_long written = None

abbrev pub with_int : Written → Option Written
with_int Nothing = Some (Words None None true)
with_int (Words sign None false) = Some (Words sign None true)
with_int (Words sign (Some Shorts) false) = Some (Words sign (Some Shorts) true)
with_int (Words sign (Some Longs) false) = Some (Words sign (Some Longs) true)
with_int written = None

abbrev pub with_whole : Base → Bool → Written → Option Written
with_whole base is_vector Nothing = Some (Whole base is_vector)
with_whole base is_vector written = None

-- a plain `char` is signed (OpenCL 1.2, 6.1.1)
abbrev pub scalar_of : Option Bool → Option Rank → Scalar
scalar_of (Some true) None = scalars.Uint
scalar_of (Some true) (Some Chars) = scalars.Uchar
scalar_of (Some true) (Some Shorts) = scalars.Ushort
scalar_of (Some true) (Some Longs) = scalars.Ulong
scalar_of sign None = scalars.Int
scalar_of sign (Some Chars) = scalars.Char
scalar_of sign (Some Shorts) = scalars.Short
scalar_of sign (Some Longs) = scalars.Long

-- the type that was written, and whether it is a vector; none where no word of it stands
abbrev pub base_of : Written → Option (Base × Bool)
base_of Nothing = None
base_of (Words sign rank int) = Some (Numbers (scalar_of sign rank) 1, false)
base_of (Whole base is_vector) = Some (base, is_vector)

-- what a lexeme is to a type: no part of it, one part more, or a fault
pub data Part (A : Type 0) : Type 0 where
  NoPart : Part A
  More : (grown : A) → Part A
  Wrong : (fault : ParseFault) → Part A

abbrev pub added : Option Written → Part Written
added (Some written) = More written
added None = Wrong Expected

-- `ulong`, vectors of 64 bits and `double` are left out
abbrev pub whole : Scalar → ℕ → Written → Part Written
whole scalars.Long width written = Wrong (LeftOut Long)
whole scalars.Ulong width written = Wrong (LeftOut Long)
whole scalars.Double width written = Wrong (LeftOut Double)
whole s width written = added (with_whole (Numbers s width) (nat_lt 1 width) written)

-- types that are left out, by names
abbrev pub left_out : List ℕ → Option Construct
left_out x =
    cond (bytes_eq x (codes "image2d_t")) (Some Image) (cond (bytes_eq x (codes "image3d_t")) (Some Image) (
    cond (bytes_eq x (codes "image2d_array_t")) (Some Image) (cond (bytes_eq x (codes "image1d_t")) (Some Image) (
    cond (bytes_eq x (codes "image1d_buffer_t")) (Some Image) (cond (bytes_eq x (codes "image1d_array_t")) (Some Image) (
    cond (bytes_eq x (codes "sampler_t")) (Some Sampler) (cond (bytes_eq x (codes "event_t")) (Some Event) None)))))))

abbrev pub unknown : Option Construct → Part Written
unknown (Some construct) = Wrong (LeftOut construct)
unknown None = NoPart

abbrev pub alias : List ℕ → Option Bool → Part Written
alias x (Some is_vector) = More (Whole (Alias x) is_vector)
alias x None = unknown (left_out x)

-- a name names a type where no other word has
abbrev pub named : List Known → List ℕ → Written → Part Written
named ks x Nothing = alias x (known ks x)
named ks x written = NoPart

abbrev pub word_part : words.Word → Written → Part Written
word_part words.Void written = added (with_whole Void false written)
word_part words.Unsigned written = added (with_sign true written)
word_part words.Signed written = added (with_sign false written)
word_part words.Char written = added (with_char written)
word_part words.Short written = added (with_short written)
word_part words.Int written = added (with_int written)
word_part words.Float written = added (with_whole (Numbers scalars.Float 1) false written)
word_part words.Half written = added (with_whole (Numbers scalars.Half 1) false written)
word_part words.Long written = added (with_long written)
word_part words.Double written = Wrong (LeftOut Double)
word_part words.Struct written = Wrong (LeftOut Structure)
word_part words.Union written = Wrong (LeftOut Structure)
word_part words.Enum written = Wrong (LeftOut Enumeration)
word_part words.ReadOnly written = Wrong (LeftOut Image)
word_part words.WriteOnly written = Wrong (LeftOut Image)
word_part words.ReadWrite written = Wrong (LeftOut Image)
word_part w written = NoPart

abbrev pub base_part : List Known → LexemeKind → Written → Part Written
base_part ks (Word w) written = word_part w written
base_part ks («Type» s width) written = whole s width written
base_part ks (Name x) written = named ks x written
base_part ks kind written = NoPart

abbrev pub in_space : Space → Qualifiers → Option Qualifiers
in_space s q = within q.space
  where
    within : Option Space → Option Qualifiers
    within None = Some (record { space = Some s; constant = q.constant; volatile = q.volatile; restrict = q.restrict })
    within (Some other) = None

-- with one qualifier more; none where the lexeme is none, or names a second space
abbrev pub qualified : Qualifiers → LexemeKind → Option Qualifiers
qualified q (Word words.Const) = Some (record { space = q.space; constant = true; volatile = q.volatile; restrict = q.restrict })
qualified q (Word words.Volatile) = Some (record { space = q.space; constant = q.constant; volatile = true; restrict = q.restrict })
qualified q (Word words.Restrict) = Some (record { space = q.space; constant = q.constant; volatile = q.volatile; restrict = true })
qualified q (Word words.Global) = in_space types.Global q
qualified q (Word words.Local) = in_space types.Local q
qualified q (Word words.Constant) = in_space types.Constant q
qualified q (Word words.Private) = in_space types.Private q
qualified q kind = None

abbrev pub unqualified : Qualifiers
unqualified = record { space = None; constant = false; volatile = false; restrict = false }

-- the words and the qualifiers so far
pub record Typed : Type 0 where
  pub written : Written
  pub qualifiers : Qualifiers

abbrev pub untyped : Typed
untyped = record { written = Nothing; qualifiers = unqualified }

abbrev pub with_base : Qualifiers → Part Written → Part Typed
with_base q NoPart = NoPart
with_base q (More written) = More (record { written = written; qualifiers = q })
with_base q (Wrong fault) = Wrong fault

abbrev pub with_qualifiers : List Known → Typed → LexemeKind → Option Qualifiers → Part Typed
with_qualifiers ks t kind (Some q) = More (record { written = t.written; qualifiers = q })
with_qualifiers ks t kind None = with_base t.qualifiers (base_part ks kind t.written)

abbrev pub grown : List Known → Typed → LexemeKind → Part Typed
grown ks t kind = with_qualifiers ks t kind (qualified t.qualifiers kind)

abbrev pub is_part : {A : Type 0} → Part A → Bool
is_part NoPart = false
is_part (More grown) = true
is_part (Wrong fault) = true

-- a type may begin here
abbrev pub starts_type : List Known → LexemeKind → Bool
starts_type ks kind = is_part (grown ks untyped kind)

-- a type has fewer words and qualifiers than this, and fewer stars (ours)
abbrev pub most_words : ℕ
most_words = 16

abbrev pub by_part : {A : Type 0} → (more : A → Reader A) → A → Part A → Reader A
by_part more t NoPart = Gives t
by_part more t (More grown) = Passes (more grown)
by_part more t (Wrong fault) = Fails fault

unfoldable pub typing : List Known → (left : ℕ) → Typed → Reader Typed
typing ks zero t = Fails TooMany
typing ks (suc left) t = Looks (λ n. by_part (typing ks left) t (grown ks t n.kind))

abbrev pub by_qualified : (more : Qualifiers → Reader Qualifiers) → Qualifiers → Option Qualifiers → Reader Qualifiers
by_qualified more q None = Gives q
by_qualified more q (Some others) = Passes (more others)

unfoldable pub qualifying : (left : ℕ) → Qualifiers → Reader Qualifiers
qualifying zero q = Fails TooMany
qualifying (suc left) q = Looks (λ n. by_qualified (qualifying left) q (qualified q n.kind))

-- stars with their qualifiers, behind those that were read
unfoldable pub starring : (left : ℕ) → List Qualifiers → Reader (List Qualifiers)
starring zero so = Fails TooMany
starring (suc left) so =
    Looks (λ n. cond (is_star n.kind) (Passes (Then (qualifying most_words unqualified) (λ q. starring left (so ++ q ∷ [])))) (Gives so))

abbrev pub is_bare : List Qualifiers → Bool
is_bare [] = true
is_bare (q ∷ qs) = false

abbrev pub is_half : Base → Bool
is_half (Numbers scalars.Half width) = true
is_half base = false

-- `half` is the element of a pointer alone (OpenCL 1.2, 6.1.1.1)
abbrev pub pointed : Base × Bool → Qualifiers → List Qualifiers → Reader (TypeName × Bool)
pointed b q stars =
    cond (is_half b.0 && is_bare stars) (Fails (LeftOut Half)) (Gives (record { base = b.0; qualifiers = q; stars = stars }, b.1 && is_bare stars))

abbrev pub based : Qualifiers → Option (Base × Bool) → Reader (TypeName × Bool)
based q None = Fails Expected
based q (Some b) = Then (starring most_words []) (λ stars. pointed b q stars)

-- a type in a cast or behind `sizeof`, and whether it is a vector
unfoldable pub type_reader : List Known → Reader (TypeName × Bool)
type_reader ks = Then (typing ks most_words untyped) (λ t. based t.qualifiers (base_of t.written))
