-- What is said of a place holds of an item: a test, and what it tells.
use Rattle.std.proofs.Common.{◌≡◌, ℕ, Bool, true, ◌&&◌, List, [], ◌∷◌, Option, Some, None}
use Rattle.std.specs.Prelude.{ℤ, pos, int_le}
use Rattle.std.specs.Int.RustNames.{unsigned_abs}
use Rattle.std.proofs.lemmas.Bool.{and_parts, and_from}
use Rattle.semantics.specs.Word.{Word}
use Rattle.semantics.specs.Setup.{Setup}
use Rattle.semantics.specs.Conditions.{Content}
use Rattle.semantics.specs.Solo.{opening}
use Rattle.linear.specs.Linear.{value_of}
use Rattle.facts.specs.Symbols.{Fact}
use Rattle.facts.proofs.Members.{by_number}
use Rattle.facts.proofs.Worlds.{Root, meaning}
use Rattle.arrivals.specs.Paths.{Held}
use Rattle.arrivals.specs.Shown as shown
use Rattle.walk_trees.proofs.SameWords.{same_words}
use Rattle.obligations.specs.Notes.{Congruence, Multiple, Notes, number_at}
use Rattle.obligations.specs.Roots.{facts_at, congruences_at, multiples_at}
use Rattle.obligations.specs.Walking.{divides}
use Rattle.obligations.proofs.Words.{are_words}
use Rattle.obligations.proofs.Faithfully.{ranking_of}

abbrev pub root_at : (anchor here : Held) → Root
root_at a h = record { variables = h.variables; anchor = a.variables; ranks = h.ranks }

abbrev pub value_by : Setup → (item : ℕ) → Root → Fact → ℤ
value_by s i r f = value_of (by_number (meaning s i i r r [] [])) f

abbrev pub facts_hold : (Fact → ℤ) → List Fact → Bool
facts_hold v [] = true
facts_hold v (f ∷ fs) = int_le (pos 0) (v f) && facts_hold v fs

abbrev pub congruences_hold : (Fact → ℤ) → List Congruence → Bool
congruences_hold v [] = true
congruences_hold v (c ∷ cs) = divides c.modulus (v c.form) && congruences_hold v cs

-- a value is a multiple of another one
abbrev pub multiples_hold : (Fact → ℤ) → List Multiple → Bool
multiples_hold v [] = true
multiples_hold v (m ∷ ms) = divides (unsigned_abs (v m.of)) (v m.form) && multiples_hold v ms

abbrev pub quotients_hold : (Fact → ℤ) → List Congruence → List Multiple → Bool
quotients_hold v cs ms = congruences_hold v cs && multiples_hold v ms

-- at the entry an item has what it opens with
abbrev pub opens_so : Setup → ℕ → (anchor head : Option ℕ) → List Word → Bool
opens_so s i None None ws = same_words ws (opening s i).variables
opens_so s i None (Some h) ws = true
opens_so s i (Some b) h ws = true

abbrev pub line_by : Setup → Notes → (anchor head : Option ℕ) → (item : ℕ) → (anchor_held here : Held) → Bool
line_by s n a h i from here =
    (are_words s.kernel s.launch here.variables && are_words s.kernel s.launch from.variables)
    && (opens_so s i a h here.variables && (facts_hold (value_by s i (root_at from here)) (facts_at n a h) && quotients_hold (value_by s i (root_at from here)) (congruences_at n a h) (multiples_at n a h)))

-- what is noted of a kernel's places, where lines say so of what buffers hold
abbrev pub notes_of : Setup → List Content → Notes → shown.Notes
notes_of s cs n = record { same = n.same; rank = ranking_of s n; line = λ p i from here. line_by s n (number_at p.anchor) (number_at p.head) i from here; contents = cs }

-- the parts of the test
pub record Holds (s : Setup) (n : Notes) (a h : Option ℕ) (i : ℕ) (from here : Held) : Type 0 where
  pub words : are_words s.kernel s.launch here.variables ≡ true
  pub before : are_words s.kernel s.launch from.variables ≡ true
  pub opens : opens_so s i a h here.variables ≡ true
  pub facts : facts_hold (value_by s i (root_at from here)) (facts_at n a h) ≡ true
  pub congruences : congruences_hold (value_by s i (root_at from here)) (congruences_at n a h) ≡ true
  pub multiples : multiples_hold (value_by s i (root_at from here)) (multiples_at n a h) ≡ true

pub holds_of : (s : Setup) (n : Notes) (a h : Option ℕ) (i : ℕ) (from here : Held) → line_by s n a h i from here ≡ true → Holds s n a h i from here
holds_of s n a h i from here e =
    let f = facts_hold (value_by s i (root_at from here)) (facts_at n a h) in
    let x = congruences_hold (value_by s i (root_at from here)) (congruences_at n a h) in
    let y = multiples_hold (value_by s i (root_at from here)) (multiples_at n a h) in
    let g = x && y in
    let o = opens_so s i a h here.variables in
    let p = and_parts (are_words s.kernel s.launch here.variables && are_words s.kernel s.launch from.variables) (o && (f && g)) e in
    let q = and_parts (are_words s.kernel s.launch here.variables) (are_words s.kernel s.launch from.variables) p.0 in
    let r = and_parts o (f && g) p.1 in
    let t = and_parts f g r.1 in
    let u = and_parts x y t.1 in
    record { words = q.0; before = q.1; opens = r.0; facts = t.0; congruences = u.0; multiples = u.1 }

pub of_holds : (s : Setup) (n : Notes) (a h : Option ℕ) (i : ℕ) (from here : Held) → Holds s n a h i from here → line_by s n a h i from here ≡ true
of_holds s n a h i from here e =
    let f = facts_hold (value_by s i (root_at from here)) (facts_at n a h) in
    let x = congruences_hold (value_by s i (root_at from here)) (congruences_at n a h) in
    let y = multiples_hold (value_by s i (root_at from here)) (multiples_at n a h) in
    let g = x && y in
    let o = opens_so s i a h here.variables in
    and_from (are_words s.kernel s.launch here.variables && are_words s.kernel s.launch from.variables) (o && (f && g))
    (and_from (are_words s.kernel s.launch here.variables) (are_words s.kernel s.launch from.variables) e.words e.before)
    (and_from o (f && g) e.opens (and_from f g e.facts (and_from x y e.congruences e.multiples)))
