-- What the code's notes say.
use Rattle.std.specs.Prelude.{ℕ, pos, Bool, true, false, ◌&&◌, nat_eq, cond, List, [], ◌∷◌, map, Option, Some, None, slice_index_or}
use Rattle.linear.specs.Forms.{form, forms}
use Rattle.facts.specs.Symbols.{Fact, constant}
use Rattle.loop_bounds.specs.declared.bound.Bound.{Bound}
use Rattle.loop_bounds.specs.declared.bound.Bound.TheVariants as bounds
use Rattle.loop_bounds.specs.declared.bound.LoopBound.{LoopBound}
use Rattle.obligations.specs.Notes as notes
use Rattle.obligations.specs.declared.notes.Congruence.{Congruence}
use Rattle.obligations.specs.declared.notes.Multiple.{Multiple}
use Rattle.obligations.specs.declared.notes.Lines.{Lines}
use Rattle.obligations.specs.declared.notes.Visible.{Visible}
use Rattle.obligations.specs.declared.notes.Quotient.{Quotient}
use Rattle.obligations.specs.declared.notes.Notes.{Notes}

abbrev pub same_number : Option ℕ → Option ℕ → Bool
same_number None None = true
same_number None (Some m) = false
same_number (Some n) None = false
same_number (Some n) (Some m) = nat_eq n m

abbrev pub congruence : Congruence → notes.Congruence
congruence c = record { modulus = c.modulus; form = form c.form }

abbrev pub multiple : Multiple → notes.Multiple
multiple m = record { of = form m.of; form = form m.form }

abbrev pub is_of : (anchor head : Option ℕ) → Lines → Bool
is_of a h l = same_number l.anchor a && same_number l.head h

-- of the first that are of the place
abbrev pub facts_of : List Lines → (anchor head : Option ℕ) → List Fact
facts_of [] a h = []
facts_of (l ∷ ls) a h = cond (is_of a h l) (forms l.facts.items) (facts_of ls a h)

abbrev pub congruences_of : List Lines → (anchor head : Option ℕ) → List notes.Congruence
congruences_of [] a h = []
congruences_of (l ∷ ls) a h = cond (is_of a h l) (map congruence l.congruences.items) (congruences_of ls a h)

abbrev pub multiples_of : List Lines → (anchor head : Option ℕ) → List notes.Multiple
multiples_of [] a h = []
multiples_of (l ∷ ls) a h = cond (is_of a h l) (map multiple l.multiples.items) (multiples_of ls a h)

abbrev pub same_of : List Lines → (barrier : ℕ) → List ℕ
same_of [] b = []
same_of (l ∷ ls) b = cond (is_of (Some b) None l) l.same.items (same_of ls b)

abbrev pub ranking : Bound → notes.Ranking
ranking (bounds.Down f step n) = record { form = form f; bound = notes.Down step.size n }
ranking (bounds.Halving f n) = record { form = form f; bound = notes.Halving n }
ranking (bounds.Doubling f least n) = record { form = form f; bound = notes.Doubling least.number n }

-- of a loop without one nothing is shown: it would have to open at most 0 and be above 0 inside
abbrev pub no_ranking : notes.Ranking
no_ranking = record { form = constant (pos 0); bound = notes.Down 1 (pos 0) }

abbrev pub ranking_of : List LoopBound → (loop : ℕ) → notes.Ranking
ranking_of [] n = no_ranking
ranking_of (b ∷ bs) n = cond (nat_eq b.number n) (ranking b.bound) (ranking_of bs n)

abbrev pub visible_of : List Visible → (statement : Option ℕ) → List ℕ
visible_of [] s = []
visible_of (v ∷ vs) s = cond (same_number v.statement s) v.slots.items (visible_of vs s)

abbrev pub quotient_of : List Quotient → (claim : ℕ) → Fact
quotient_of [] n = constant (pos 0)
quotient_of (q ∷ qs) n = cond (nat_eq q.claim n) (form q.form) (quotient_of qs n)

-- with the numbers of the obligations that have an entry
abbrev pub seen : Notes → (entries : List Bool) → notes.Notes
seen n entries = record {
  same = same_of n.places.items;
  facts = facts_of n.places.items;
  congruences = congruences_of n.places.items;
  multiples = multiples_of n.places.items;
  ranking = ranking_of n.rankings.items;
  visible = visible_of n.visible.items;
  quotient = quotient_of n.quotients.items;
  has_entry = λ m. slice_index_or entries m false;
  is_wide = n.is_wide;
  joins = n.joins;
}
