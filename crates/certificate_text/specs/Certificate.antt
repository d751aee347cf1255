-- Certificates (ours): what is said of places, how often loops turn, and what shows each obligation.
use Rattle.std.specs.Prelude.{ℕ, ℤ, List, Bool, Option, None, Some}
use Rattle.linear.specs.Linear.{Form}

pub data Dimension : Type 0 where
  First Second Third : Dimension

-- a symbol, by what it is called; the second item's of a name, and the product of a name and of others
pub data Name : Type 0 where
  Variable : (name : List ℕ) → Name
  AtAnchor : (name : List ℕ) → Name
  Turns : (loop : ℕ) → Name
  Fresh : (number : ℕ) → Name
  Argument : (name : List ℕ) → Name
  Length : (name : List ℕ) → Name
  Groups : (dimension : Dimension) → Name
  Group : (dimension : Dimension) → Name
  Local : (dimension : Dimension) → Name
  Second : (name : Name) → Name
  Product : (first others : Name) → Name

-- where the items of a group meet: at their first step, or at a barrier statement
pub data Anchor : Type 0 where
  KernelEntry : Anchor
  Barrier : (statement : ℕ) → Anchor

-- an anchor, or the test of a loop on the way from it
pub record Spot : Type 0 where
  pub anchor : Anchor
  pub head : Option ℕ

-- a form that the modulus divides
pub record Congruence : Type 0 where
  pub modulus : ℕ
  pub form : Form Name

-- a form that is a multiple of another
pub record Multiple : Type 0 where
  pub of : Form Name
  pub form : Form Name

-- what is said of a spot: names on which the items of a group agree, forms that are at least 0, congruences, and multiples
pub record Place : Type 0 where
  pub spot : Spot
  pub same : List (List ℕ)
  pub facts : List (Form Name)
  pub congruences : List Congruence
  pub multiples : List Multiple

-- each turn makes the form less by a step at least, or at most half, or twice as large at least, from `least` on up to `most`
pub data Descent : Type 0 where
  Down : (step : ℕ) → Descent
  Halve : Descent
  Double : (least : ℕ) → Descent

-- how a loop ends: its form is at most `most` where it opens, or, where it doubles, where its test is true
pub record Bound : Type 0 where
  pub loop : ℕ
  pub descent : Descent
  pub most : ℤ
  pub form : Form Name

-- what an entry shows of its obligation
pub data EntrySort : Type 0 where
  Show Positive Negative : EntrySort
  Quotient : (form : Form Name) → EntrySort

-- a line of a derivation, and what it is multiplied or divided by
pub record Scaled : Type 0 where
  pub factor : ℤ
  pub line : ℤ

-- a line of a derivation: a fact, a sum of earlier lines with weights, an earlier line divided, the product of two earlier lines
pub data Step : Type 0 where
  Given : (fact : ℤ) → Step
  Sum : (parts : List Scaled) → Step
  Divide : (quotient : Scaled) → Step
  Product : (first second : ℤ) → Step

-- a form that is at least 0, and the lines that show it
pub record Lemma : Type 0 where
  pub form : Form Name
  pub steps : List Step

pub record Entry : Type 0 where
  pub obligation : ℕ
  pub sort : EntrySort
  pub lemmas : List Lemma
  pub steps : List Step

-- in a wide certificate loops may double, names, places and entries have what stands behind the first nine, the first four and the first
-- three, and the walk may join ways
pub record Certificate : Type 0 where
  pub is_wide : Bool
  pub joins : Bool
  pub places : List Place
  pub bounds : List Bound
  pub entries : List Entry

-- why a text is no certificate: a line of this number says nothing, or the certificate is of another version
pub data CertificateFault : Type 0 where
  BadLine : (line : ℕ) → CertificateFault
  OtherVersion : CertificateFault

-- the number that each is printed under
abbrev pub certificate_fault_number : CertificateFault → ℕ
certificate_fault_number (BadLine line) = 50
certificate_fault_number OtherVersion = 51

-- and its line, where it has one
abbrev pub certificate_fault_line : CertificateFault → Option ℕ
certificate_fault_line (BadLine line) = Some line
certificate_fault_line OtherVersion = None
