-- The slots that are alike at a barrier, as they were copied.
use Rattle.std.specs.Prelude.{ℕ, pos, ◌&&◌, cond, List, [], ◌∷◌, Some, None, false}
use Rattle.facts.specs.Symbols.{constant}
use Rattle.obligations.specs.View.{same_number, no_ranking}
use Rattle.obligations.specs.Notes as notes
use Rattle.two_thread.specs.declared.alike.Alike.{Alike}

-- of the first that are of the barrier
abbrev pub alike_of : List Alike → (barrier : ℕ) → List ℕ
alike_of [] b = []
alike_of (a ∷ as') b = cond (same_number a.anchor (Some b) && same_number a.head None) a.same.items (alike_of as' b)

-- notes that say nothing else
abbrev pub notes_of : List Alike → notes.Notes
notes_of as' = record {
  same = alike_of as';
  facts = λ a h. [];
  congruences = λ a h. [];
  multiples = λ a h. [];
  ranking = λ n. no_ranking;
  visible = λ s. [];
  quotient = λ n. constant (pos 0);
  has_entry = λ n. false;
  is_wide = false;
  joins = false;
}
