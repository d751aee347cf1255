-- What is owed of a kernel of one loop can be shown. Its body is `for (; x; x = 0u) {}`, x being its argument; where x is not 0 the loop
-- has the rank 1.
use Rattle.std.proofs.Common.{◌≡◌, ℕ, ℤ, Bool, true, false, List, [], ◌∷◌, Some, None, refl, sym, ap, inl, inr, subst}
use Rattle.std.specs.Prelude.{pos, ◌⊎◌, slice_index_or}
use Rattle.semantics.specs.Word.{Uint, Exact, Word, zero_word, is_zero}
use Rattle.semantics.specs.Core.{Statement, Literal, Variable, Set, Loop, Statements, none, one}
use Rattle.semantics.specs.Launch.{Launch}
use Rattle.semantics.specs.Setup.{Setup}
use Rattle.arrivals.specs.Points.{Has, point, points}
use Rattle.arrivals.specs.Trees.{Stop, AtEnd, End, IsEnd}
use Rattle.arrivals.specs.Places.{Place, own_place, places, tree}
use Rattle.arrivals.specs.Paths.{Ranking}
use Rattle.arrivals.specs.Shown.{Notes, IsHead, same_turns, owed, Shows, Shown, IsSound}
use Rattle.arrivals.proofs.Numbers.{numbered_by}
use Rattle.rankings.specs.Limits.{Limit, Down}

abbrev pub loop : Statement
loop = Loop 1 (Variable 0) none (one (Set 2 0 (Literal Uint (pos 0))) none)

abbrev pub body : Statements
body = one loop none

abbrev pub at_one : Launch → Setup
at_one l = record { kernel = record { sizes = record { x = 1; y = 1; z = 1 }; arguments = Uint ∷ []; buffers = []; arrays = []; variables = []; body = body }; launch = l; width = Exact }

abbrev pub value_of : List Word → Word
value_of vars = slice_index_or vars 0 zero_word

abbrev pub counted : Bool → ℤ
counted true = pos 0
counted false = pos 1

-- nothing else is noted
abbrev pub rank : Ranking
rank n i here = counted (is_zero (value_of here.variables).value)

abbrev pub notes : Notes
notes = record { same = λ n. []; rank = rank; line = λ p i a b. true; contents = [] }

abbrev pub limit : ℕ → Limit
limit n = Down 1 (pos 1)

abbrev pub head_place : Place
head_place = record { anchor = None; head = Some (point loop []); turns = Some [] }

-- the places are the entry and the loop
pub are_places : (p : Place) → Has p (places body) → (p ≡ own_place None) ⊎ (p ≡ head_place)
are_places p (inl e) = inl e
are_places p (inr (inl e)) = inr e
are_places p (inr (inr e)) = absurd e

-- an item that goes on at no head has ended
at_end : (p : Place) (u : End) → Has p (places body) → IsEnd u [] (tree body p) → (IsHead u.stop → ⊥) → u.stop ≡ AtEnd
at_end p u h e nu = by (are_places p h)
  where
    at_own : IsEnd u [] (tree body (own_place None)) → u.stop ≡ AtEnd
    at_own e = absurd (nu (subst (λ (u : End). IsHead u.stop) (sym e) tt))

    at_head : IsEnd u [] (tree body head_place) → u.stop ≡ AtEnd
    at_head (inl e) = absurd (nu (subst (λ (u : End). IsHead u.stop) (sym e) tt))
    at_head (inr e) = ap (λ (u : End). u.stop) e

    by : (p ≡ own_place None) ⊎ (p ≡ head_place) → u.stop ≡ AtEnd
    by (inl q) = at_own (subst (λ p. IsEnd u [] (tree body p)) q e)
    by (inr q) = at_head (subst (λ p. IsEnd u [] (tree body p)) q e)

both_end : (l : Launch) (p q : Place) (u v : End) (x y : Stop) (b : Bool) → x ≡ AtEnd → y ≡ AtEnd → Shows (at_one l) notes p q u v (owed x y b)
both_end l p q u v x y b e f = subst (λ x. Shows (at_one l) notes p q u v (owed x y b)) (sym e) (subst (λ y. Shows (at_one l) notes p q u v (owed AtEnd y b)) (sym f) tt)

pub one_loop-shown : (l : Launch) → Shown (at_one l) notes
one_loop-shown l = record {
  opens = λ i h. refl;
  at_heads = λ p q u n z a b e h x f i c d g m. refl;
  at_barriers = λ p b u a c x f i d e g m. refl;
  pairs = λ p q u v a b e x y nu nv. inl (both_end l p q u v u.stop v.stop (same_turns u.turns v.turns) (at_end p u a x nu) (at_end q v b y nv));
}

pub one_loop-sound : (l : Launch) → IsSound (at_one l)
one_loop-sound l = record {
  formed = ((refl, ((λ k j. cc), (tt, ((tt, (tt, record { loops = λ k h. refl; jumps = λ k h. refl })), record { no_loop = λ k. refl; no_barrier = refl; no_jump = λ k. refl; other = refl })))), (tt, record { loops = λ k h. refl; jumps = λ k h. refl }));
  numbered = numbered_by (points body []) refl;
  met = refl;
}
