-- An item of a launch, and what a list of new numbers settles of it: valuations that agree with both.
use Rattle.std.proofs.Common.{◌≡◌, ℕ, ◌<◌, Bool, true, List, [], ◌∷◌, ◌++◌, length, slice_index_or, arith, ap, ◌∙◌, length-append}
use Rattle.std.specs.Prelude.{ℤ, pos}
use Rattle.std.specs.List.{All}
use lib.ListN.{get_or-append}
use lib.Seq.{get_or-append_seam}
use Rattle.semantics.specs.Word.{Word, zero_word}
use Rattle.semantics.specs.Core.{Space}
use Rattle.semantics.specs.Launch.{Kernel, Launch, Fits}
use Rattle.semantics.specs.Setup.{Setup, at_launch, along, item_count, local_id, group_id}
use Rattle.semantics.specs.Conditions.{Conditions, Meets}
use Rattle.linear.specs.Linear.{value_of, IsMet}
use Rattle.linear.specs.Products.{IsMultiplicative}
use Rattle.domain.specs.declared.Domain.{Ghosts}
use Rattle.facts.specs.Symbols as symbols
use Rattle.facts.specs.Symbols.{Side, First, Second, Symbol, ArgumentOf, Length, Local, Group, New, Variable, AtAnchor, Turns, number, Fact}
use Rattle.facts.specs.Launching.{are_sizes}
use Rattle.facts.proofs.Members.{Lawful, by_number, by_number-multiplicative, numbered}

-- a kernel that is walked under conditions, by the wide walk or not, which joins ways or does not, at a launch that meets them; its arrays
-- are of these spaces
pub record Walked (E : Type 0) : Type 1 where
  pub domain : Ghosts E
  pub lawful : Lawful domain
  pub kernel : Kernel
  pub conditions : Conditions
  pub is_wide : Bool
  pub joins : Bool
  pub has_entry : ℕ → Bool
  pub spaces : Space → Bool
  pub launch : Launch
  pub sized : are_sizes kernel.sizes ≡ true
  pub fits : Fits kernel launch
  pub meets : Meets conditions launch

abbrev pub setup_of : {E : Type 0} → Walked E → Setup
setup_of k = at_launch k.kernel k.launch

-- what an item has where its path begins: its variables, those at the anchor before, and what ranked each loop
pub record Root : Type 0 where
  pub variables : List Word
  pub anchor : List Word
  pub ranks : ℕ → ℤ

-- as it opens
abbrev pub opening_root : Root
opening_root = record { variables = []; anchor = []; ranks = λ n. pos 0 }

-- one of its items
pub record View (E : Type 0) : Type 1 where
  pub walked : Walked E
  pub open walked use *
  pub item : ℕ
  pub place : item < item_count (setup_of walked)
  pub root : Root

abbrev pub setup : {E : Type 0} → View E → Setup
setup c = setup_of c.walked

-- the numbers of a launch, of an item's ids and of the new symbols along its path
abbrev pub groups_at : Launch → ℕ → ℤ
groups_at l d = pos (along l.groups d 1)

abbrev pub given_at : Launch → ℕ → ℤ
given_at l n = (slice_index_or l.arguments n zero_word).value

abbrev pub length_at : Launch → ℕ → ℤ
length_at l b = pos (length (slice_index_or l.buffers b []))

abbrev pub new_at : List ℤ → ℕ → ℤ
new_at news k = slice_index_or news k (pos 0)

abbrev pub variable_at : List Word → ℕ → ℤ
variable_at vars x = (slice_index_or vars x zero_word).value

-- those of two items
abbrev pub meaning : Setup → (i j : ℕ) → (root other : Root) → (news more : List ℤ) → Symbol → ℤ
meaning s i j root other news more (symbols.Groups d) = groups_at s.launch d
meaning s i j root other news more (ArgumentOf n) = given_at s.launch n
meaning s i j root other news more (Length b) = length_at s.launch b
meaning s i j root other news more (Local First d) = pos (local_id s i d)
meaning s i j root other news more (Group First d) = pos (group_id s i d)
meaning s i j root other news more (New First k) = new_at news k
meaning s i j root other news more (Local Second d) = pos (local_id s j d)
meaning s i j root other news more (Group Second d) = pos (group_id s j d)
meaning s i j root other news more (New Second k) = new_at more k
meaning s i j root other news more (Variable First x) = variable_at root.variables x
meaning s i j root other news more (AtAnchor First x) = variable_at root.anchor x
meaning s i j root other news more (Turns First k) = root.ranks k
meaning s i j root other news more (Variable Second x) = variable_at other.variables x
meaning s i j root other news more (AtAnchor Second x) = variable_at other.anchor x
meaning s i j root other news more (Turns Second k) = other.ranks k

pub record Agrees {E : Type 0} (c : View E) (news : List ℤ) (v : ℕ → ℤ) : Type 0 where
  pub groups : (d : ℕ) → v (number (symbols.Groups d)) ≡ groups_at c.launch d
  pub given : (n : ℕ) → v (number (ArgumentOf n)) ≡ given_at c.launch n
  pub lengths : (b : ℕ) → v (number (Length b)) ≡ length_at c.launch b
  pub local : (d : ℕ) → v (number (Local First d)) ≡ pos (local_id (setup c) c.item d)
  pub group : (d : ℕ) → v (number (Group First d)) ≡ pos (group_id (setup c) c.item d)
  pub variable : (x : ℕ) → v (number (Variable First x)) ≡ variable_at c.root.variables x
  pub at_anchor : (x : ℕ) → v (number (AtAnchor First x)) ≡ variable_at c.root.anchor x
  pub turns : (k : ℕ) → v (number (Turns First k)) ≡ c.root.ranks k
  pub products : IsMultiplicative v
  pub new : (k : ℕ) → k < length news → v (number (New First k)) ≡ new_at news k

-- the form has that value in each valuation that agrees; the facts hold in each
abbrev pub Means : {E : Type 0} → View E → List ℤ → Fact → ℤ → Type 0
Means c news f z = (v : ℕ → ℤ) → Agrees c news v → value_of v f ≡ z

abbrev pub Knows : {E : Type 0} → View E → List ℤ → List Fact → Type 0
Knows c news facts = (v : ℕ → ℤ) → Agrees c news v → All (IsMet v) facts

-- an item's own numbers
abbrev pub own : {E : Type 0} → View E → List ℤ → Symbol → ℤ
own c news = meaning (setup c) c.item c.item c.root c.root news []

pub agrees_itself : {E : Type 0} (c : View E) (news : List ℤ) → Agrees c news (by_number (own c news))
agrees_itself c news = record {
  products = by_number-multiplicative (own c news);
  groups = λ d. numbered (own c news) (symbols.Groups d);
  given = λ n. numbered (own c news) (ArgumentOf n);
  lengths = λ b. numbered (own c news) (Length b);
  local = λ d. numbered (own c news) (Local First d);
  group = λ d. numbered (own c news) (Group First d);
  variable = λ x. numbered (own c news) (Variable First x);
  at_anchor = λ x. numbered (own c news) (AtAnchor First x);
  turns = λ k. numbered (own c news) (Turns First k);
  new = λ k h. numbered (own c news) (New First k);
}

pub agrees_before : {E : Type 0} (c : View E) (news : List ℤ) (z : ℤ) (v : ℕ → ℤ) → Agrees c (news ++ z ∷ []) v → Agrees c news v
agrees_before c news z v a = record {
  products = a.products;
  groups = a.groups;
  given = a.given;
  lengths = a.lengths;
  local = a.local;
  group = a.group;
  variable = a.variable;
  at_anchor = a.at_anchor;
  turns = a.turns;
  new = λ k h. a.new k (omega (arith, length-append news (z ∷ []))) ∙ get_or-append news (z ∷ []) (pos 0) k h;
}

pub agrees_new : {E : Type 0} (c : View E) (news : List ℤ) (z : ℤ) (v : ℕ → ℤ) → Agrees c (news ++ z ∷ []) v → v (number (New First (length news))) ≡ z
agrees_new c news z v a = a.new (length news) (omega (arith, length-append news (z ∷ []))) ∙ get_or-append_seam news z [] (pos 0)
