-- The notes that a certificate stands for, by places, loops and claims, with the numbers of the obligations that have an entry.
use Rattle.std.specs.Prelude.{◌≡◌, ℕ, Bool, false, not, ◌&&◌, cond, nat_eq, List, [], ◌∷◌, Option, None, Some, is_some, slice_index_or, pos}
use Rattle.semantics.specs.Launch as launch
use Rattle.facts.specs.Symbols.{Fact, constant}
use Rattle.arrivals.specs.Places as places
use Rattle.obligations.specs.Notes as notes
use Rattle.obligations.specs.View.{same_number, no_ranking}
use Rattle.kernel_names.specs.NameMap.{NameMap}
use Rattle.certificate_text.specs.Certificate.{Certificate}
use Rattle.certificate_notes.specs.Noted.{Lines, Ranked, Quoted, Visible, Noted, noted}

-- it names a place, a loop or a symbol that the kernel lacks, says something of the entry, of items that agree at a loop, or twice or
-- out of order of what agrees, or says of a loop of the kernel nothing
abbrev pub lacks : launch.Kernel → NameMap → List places.Place → Certificate → Bool
lacks k names ps cert = not (is_some (noted k names ps cert))

abbrev pub is_of : (anchor head : Option ℕ) → Lines → Bool
is_of a h l = same_number l.anchor a && same_number l.head h

abbrev pub facts_of : List Lines → (anchor head : Option ℕ) → List Fact
facts_of [] a h = []
facts_of (l ∷ ls) a h = cond (is_of a h l) l.facts (facts_of ls a h)

abbrev pub congruences_of : List Lines → (anchor head : Option ℕ) → List notes.Congruence
congruences_of [] a h = []
congruences_of (l ∷ ls) a h = cond (is_of a h l) l.congruences (congruences_of ls a h)

abbrev pub multiples_of : List Lines → (anchor head : Option ℕ) → List notes.Multiple
multiples_of [] a h = []
multiples_of (l ∷ ls) a h = cond (is_of a h l) l.multiples (multiples_of ls a h)

abbrev pub same_of : List Lines → (barrier : ℕ) → List ℕ
same_of [] b = []
same_of (l ∷ ls) b = cond (is_of (Some b) None l) l.same (same_of ls b)

abbrev pub ranking_of : List Ranked → (loop : ℕ) → notes.Ranking
ranking_of [] n = no_ranking
ranking_of (r ∷ rs) n = cond (nat_eq r.loop n) r.ranking (ranking_of rs n)

abbrev pub visible_of : List Visible → (statement : Option ℕ) → List ℕ
visible_of [] s = []
visible_of (v ∷ vs) s = cond (same_number v.statement s) v.slots (visible_of vs s)

abbrev pub quotient_of : List Quoted → (claim : ℕ) → Fact
quotient_of [] n = constant (pos 0)
quotient_of (q ∷ qs) n = cond (nat_eq q.claim n) q.form (quotient_of qs n)

abbrev pub notes_by : Noted → (entries : List Bool) → notes.Notes
notes_by m entries = record {
  same = same_of m.places;
  facts = facts_of m.places;
  congruences = congruences_of m.places;
  multiples = multiples_of m.places;
  ranking = ranking_of m.rankings;
  visible = visible_of m.visible;
  quotient = quotient_of m.quotients;
  has_entry = λ n. slice_index_or entries n false;
  is_wide = m.is_wide;
  joins = m.joins;
}

-- the same is said of all that can be asked
pub record Agrees (n m : notes.Notes) : Type 0 where
  pub same : (barrier : ℕ) → n.same barrier ≡ m.same barrier
  pub facts : (anchor head : Option ℕ) → n.facts anchor head ≡ m.facts anchor head
  pub congruences : (anchor head : Option ℕ) → n.congruences anchor head ≡ m.congruences anchor head
  pub multiples : (anchor head : Option ℕ) → n.multiples anchor head ≡ m.multiples anchor head
  pub ranking : (loop : ℕ) → n.ranking loop ≡ m.ranking loop
  pub visible : (statement : Option ℕ) → n.visible statement ≡ m.visible statement
  pub quotient : (claim : ℕ) → n.quotient claim ≡ m.quotient claim
  pub has_entry : (claim : ℕ) → n.has_entry claim ≡ m.has_entry claim
  pub is_wide : n.is_wide ≡ m.is_wide
  pub joins : n.joins ≡ m.joins
