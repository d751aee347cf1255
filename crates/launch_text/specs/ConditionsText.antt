-- Which conditions a text says of a kernel with these parameters, by cases.
use Rattle.std.specs.Prelude.{◌≡◌, ◌≤◌, ℕ, ℤ, pos, negsuc, ◌≤ℤ◌, ◌*ℤ◌, List, [], ◌∷◌, ◌++◌, length, Bool, true, false, Option, None, Some, IfSome, codes}
use Rattle.std.specs.List.{All, flat_map}
use Rattle.std.specs.Fmt.{decimal, signed_decimal}
use Rattle.semantics.specs.Core.{Site}
use Rattle.semantics.specs.Word.{Kind, in_kind}
use Rattle.semantics.specs.Launch.{Three}
use Rattle.semantics.specs.Conditions.{Range, Factor, ArgumentFactor, GroupsFactor, Summand, Constant, Product, Requirement, Content, Conditions}
use Rattle.lines.specs.Lines.{line_feed}
use Rattle.texts.specs.Surface.{Parameter, Buffer, Value}
use Rattle.lines.specs.Identifiers.{is_identifier}
use Rattle.launch_text.specs.LaunchSums.{value_number, buffer_number, times}
use Rattle.launch_text.specs.LaunchWords.{begins_name}
use Rattle.launch_text.specs.HeadReading.{LocalCount, Head, no_head, are_printable}

-- a number of a sum: at most 4,294,967,295 in size
abbrev pub IsFactor : ℤ → Type 0
IsFactor z = (negsuc 4294967294 ≤ℤ z) × (z ≤ℤ pos 4294967295)

pub data IsSymbol (ps : List Parameter) : List ℕ → Factor → Type 0 where
  -- a group count
  groups_x : IsSymbol ps (codes "groups.0") (GroupsFactor 0)
  groups_y : IsSymbol ps (codes "groups.1") (GroupsFactor 1)
  groups_z : IsSymbol ps (codes "groups.2") (GroupsFactor 2)
  -- the n-th of the value parameters has this name
  argument : (name : List ℕ) (n : ℕ) → value_number 0 ps name ≡ Some n → IsSymbol ps name (ArgumentFactor n)

-- what stands for this summand where it is multiplied by this number
pub data IsMultiple (has_products : Bool) (ps : List Parameter) (z : ℤ) : List ℕ → Summand → Type 0 where
  -- `NAME`
  one_name : {bytes : List ℕ} {a : Factor} → IsSymbol ps bytes a → IsMultiple has_products ps z bytes (times z a)
  -- `NAME*NAME`, in texts of version 2
  two_names : {first second : List ℕ} {a b : Factor} → has_products ≡ true → IsSymbol ps first a → IsSymbol ps second b →
      IsMultiple has_products ps z (first ++ (codes "*" ++ second)) (Product z a b)

pub data IsTerm (has_products : Bool) (ps : List Parameter) : List ℕ → Summand → Type 0 where
  -- the names, once
  alone : {bytes : List ℕ} {s : Summand} → IsMultiple has_products ps (pos 1) bytes s → IsTerm has_products ps bytes s
  -- `C`
  number : (z : ℤ) → IsFactor z → IsTerm has_products ps (signed_decimal z) (Constant z)
  -- `C*` and the names
  product : {bytes : List ℕ} {s : Summand} (z : ℤ) → IsFactor z → IsMultiple has_products ps z bytes s →
      IsTerm has_products ps (signed_decimal z ++ (codes "*" ++ bytes)) s

pub data IsSum (has_products : Bool) (ps : List Parameter) : List ℕ → List Summand → Type 0 where
  -- `TERM`
  last : {bytes : List ℕ} {s : Summand} → IsTerm has_products ps bytes s → IsSum has_products ps bytes (s ∷ [])
  -- `TERM + SUM`
  more : {bytes others : List ℕ} {s : Summand} {ss : List Summand} →
      IsTerm has_products ps bytes s → IsSum has_products ps others ss → IsSum has_products ps (bytes ++ (codes " + " ++ others)) (s ∷ ss)

-- a sum of at most 8 terms
abbrev pub IsShortSum : (has_products : Bool) → List Parameter → List ℕ → List Summand → Type 0
IsShortSum has_products ps bytes ss = IsSum has_products ps bytes ss × (length ss ≤ 8)

-- `L..H`
abbrev pub range_text : Range → List ℕ
range_text r = signed_decimal r.low ++ (codes ".." ++ signed_decimal r.high)

-- a range of group counts, 1 to 65,536, that is not empty
abbrev pub AreCounts : Range → Type 0
AreCounts r = (pos 1 ≤ℤ r.low) × (r.low ≤ℤ r.high) × (r.high ≤ℤ pos 65536)

-- a range of numbers of a kind that is not empty
abbrev pub AreOfKind : Kind → Range → Type 0
AreOfKind k r = (in_kind k r.low ≡ true) × (in_kind k r.high ≡ true) × (r.low ≤ℤ r.high)

-- `groups L..H L..H L..H`
abbrev pub groups_text : Three Range → List ℕ
groups_text g = codes "groups " ++ (range_text g.x ++ (codes " " ++ (range_text g.y ++ (codes " " ++ (range_text g.z ++ line_feed ∷ [])))))

-- `arg NAME L..H`
abbrev pub argument_text : (name : List ℕ) → Range → List ℕ
argument_text name r = codes "arg " ++ (name ++ (codes " " ++ (range_text r ++ line_feed ∷ [])))

-- `length NAME >= SUM`
abbrev pub length_text : (name sum : List ℕ) → List ℕ
length_text name sum = codes "length " ++ (name ++ (codes " >= " ++ (sum ++ line_feed ∷ [])))

-- `require SUM >= SUM`
abbrev pub requirement_text : (left right : List ℕ) → List ℕ
requirement_text left right = codes "require " ++ (left ++ (codes " >= " ++ (right ++ line_feed ∷ [])))

-- `values NAME <= SUM`, `values NAME >= SUM`
abbrev pub end_text : (is_upper : Bool) → List ℕ
end_text true = codes " <= "
end_text false = codes " >= "

abbrev pub content_text : (name : List ℕ) (is_upper : Bool) (sum : List ℕ) → List ℕ
content_text name is_upper sum = codes "values " ++ (name ++ (end_text is_upper ++ (sum ++ line_feed ∷ [])))

-- `budget N`
abbrev pub budget_text : ℕ → List ℕ
budget_text n = codes "budget " ++ (decimal n ++ line_feed ∷ [])

-- one line a value parameter, in order
pub data AreArgumentLines : List Parameter → List ℕ → List Range → Type 0 where
  no_argument : AreArgumentLines [] [] []
  past_buffer : {ps : List Parameter} {lines : List ℕ} {rs : List Range} (constant : Bool) (k : Kind) (site : Site) (name : List ℕ) →
      AreArgumentLines ps lines rs → AreArgumentLines (Buffer constant k site name ∷ ps) lines rs
  an_argument : {ps : List Parameter} {lines : List ℕ} {rs : List Range} (k : Kind) (site : Site) (name : List ℕ) (r : Range) →
      AreOfKind k r → AreArgumentLines ps lines rs → AreArgumentLines (Value k site name ∷ ps) (argument_text name r ++ lines) (r ∷ rs)

-- one line a buffer parameter, in order; sums are of all parameters
pub data AreLengthLines (has_products : Bool) (all : List Parameter) : List Parameter → List ℕ → List (List Summand) → Type 0 where
  no_length : AreLengthLines has_products all [] [] []
  past_value : {ps : List Parameter} {lines : List ℕ} {sums : List (List Summand)} (k : Kind) (site : Site) (name : List ℕ) →
      AreLengthLines has_products all ps lines sums → AreLengthLines has_products all (Value k site name ∷ ps) lines sums
  a_length : {ps : List Parameter} {lines sum : List ℕ} {ss : List Summand} {sums : List (List Summand)}
      (constant : Bool) (k : Kind) (site : Site) (name : List ℕ) → IsShortSum has_products all sum ss → AreLengthLines has_products all ps lines sums →
      AreLengthLines has_products all (Buffer constant k site name ∷ ps) (length_text name sum ++ lines) (ss ∷ sums)

pub data AreRequirementLines (has_products : Bool) (ps : List Parameter) : List ℕ → List Requirement → Type 0 where
  no_requirement : AreRequirementLines has_products ps [] []
  a_requirement : {left right lines : List ℕ} {rs : List Requirement} (r : Requirement) →
      IsShortSum has_products ps left r.left → IsShortSum has_products ps right r.right → AreRequirementLines has_products ps lines rs →
      AreRequirementLines has_products ps (requirement_text left right ++ lines) (r ∷ rs)

-- in texts of version 2; the name is that of a buffer parameter, and several lines may have it
pub data AreContentLines (is_two : Bool) (ps : List Parameter) : List ℕ → List Content → Type 0 where
  no_content : AreContentLines is_two ps [] []
  a_content : {sum lines : List ℕ} {xs : List Content} (name : List ℕ) (x : Content) →
      is_two ≡ true → buffer_number 0 ps name ≡ Some x.buffer → IsShortSum true ps sum x.sum → AreContentLines is_two ps lines xs →
      AreContentLines is_two ps (content_text name x.is_upper sum ++ lines) (x ∷ xs)

-- `kernel NAME`
abbrev pub kernel_text : Option (List ℕ) → List ℕ
kernel_text None = []
kernel_text (Some name) = codes "kernel " ++ (name ++ line_feed ∷ [])

-- `define NAME TOKENS`
abbrev pub define_text : List ℕ → List ℕ
define_text line = codes "define " ++ (line ++ line_feed ∷ [])

-- `local_size X Y Z`
abbrev pub sizes_text : Option (Three ℕ) → List ℕ
sizes_text None = []
sizes_text (Some s) = codes "local_size " ++ (decimal s.x ++ (codes " " ++ (decimal s.y ++ (codes " " ++ (decimal s.z ++ line_feed ∷ [])))))

-- `local NAME COUNT`
abbrev pub local_text : LocalCount → List ℕ
local_text l = codes "local " ++ (l.name ++ (codes " " ++ (decimal l.count ++ line_feed ∷ [])))

-- the lines of a head, one after another
abbrev pub head_text : Head → List ℕ
head_text h = kernel_text h.kernel ++ (flat_map define_text h.defines ++ (sizes_text h.sizes ++ flat_map local_text h.locals))

-- a letter or `_` and printable bytes behind it
pub record IsDefinition (line : List ℕ) : Type 0 where
  pub begins : begins_name line ≡ true
  pub printable : are_printable line ≡ true
  pub short : length line ≤ 255

abbrev pub IsSize : ℕ → Type 0
IsSize n = (1 ≤ n) × (n ≤ 1024)

abbrev pub AreSizes : Three ℕ → Type 0
AreSizes s = IsSize s.x × IsSize s.y × IsSize s.z

abbrev pub IsLocal : LocalCount → Type 0
IsLocal l = (is_identifier l.name ≡ true) × (1 ≤ l.count) × (l.count ≤ 1048576)

-- what a head may say
pub record IsHead (h : Head) : Type 0 where
  pub kernel : IfSome h.kernel (λ name. is_identifier name ≡ true)
  pub defines : All IsDefinition h.defines
  pub few_defines : length h.defines ≤ 256
  pub sizes : IfSome h.sizes AreSizes
  pub locals : All IsLocal h.locals
  pub few_locals : length h.locals ≤ 64

-- how a text opens, in front of its line of groups, and whether its sums may have products
pub data IsOpening : (has_products : Bool) → List ℕ → Type 0 where
  -- version 1
  one : IsOpening false (codes "conditions 1\n")
  -- version 2
  two : IsOpening true (codes "conditions 2\n")
  -- version 3, with this head
  three : (h : Head) → IsHead h → IsOpening true (codes "conditions 3\n" ++ head_text h)

-- the head that an opening has
abbrev pub head_in : {has_products : Bool} {opening : List ℕ} → IsOpening has_products opening → Head
head_in one = no_head
head_in two = no_head
head_in (three h is) = h

-- whether an opening is that of version 3
abbrev pub is_three : {has_products : Bool} {opening : List ℕ} → IsOpening has_products opening → Bool
is_three one = false
is_three two = false
is_three (three h is) = true

-- the last line, and the budget that it says
pub data IsBudget : (may_lack : Bool) → List ℕ → ℕ → Type 0 where
  -- `budget N`
  given : {may_lack : Bool} (n : ℕ) → 1 ≤ n → n ≤ 1000000000000 → IsBudget may_lack (budget_text n) n
  -- in texts of version 3 it may be left out: the greatest
  greatest : IsBudget true [] 1000000000000

-- these lines, one after another, and nothing else
pub record AreConditionsLines (has_products : Bool) (ps : List Parameter) (text : List ℕ) (c : Conditions) : Type 0 where
  pub opening : List ℕ
  pub argument_lines : List ℕ
  pub length_lines : List ℕ
  pub requirement_lines : List ℕ
  pub content_lines : List ℕ
  pub budget_line : List ℕ
  pub is_text : text ≡ opening ++ (groups_text c.groups ++ (argument_lines ++ (length_lines ++ (requirement_lines ++ (content_lines ++ budget_line)))))
  pub opens : IsOpening has_products opening
  pub counts_x : AreCounts c.groups.x
  pub counts_y : AreCounts c.groups.y
  pub counts_z : AreCounts c.groups.z
  pub few_groups : (c.groups.x.high *ℤ c.groups.y.high *ℤ c.groups.z.high) ≤ℤ pos 1048576
  pub arguments : AreArgumentLines ps argument_lines c.arguments
  pub lengths : AreLengthLines has_products ps ps length_lines c.lengths
  pub requires : AreRequirementLines has_products ps requirement_lines c.requires
  pub few_requires : length c.requires ≤ 16
  pub contents : AreContentLines has_products ps content_lines c.contents
  pub few_contents : length c.contents ≤ 16
  pub budget : IsBudget (is_three opens) budget_line c.budget

-- in at most 65,536 bytes; of version 2 or 3 only where it may be
pub record IsConditionsText (may_be_two : Bool) (ps : List Parameter) (text : List ℕ) (c : Conditions) : Type 0 where
  pub has_products : Bool
  pub may_have : has_products ≡ true → may_be_two ≡ true
  pub lines : AreConditionsLines has_products ps text c
  pub within_limit : length text ≤ 65536
