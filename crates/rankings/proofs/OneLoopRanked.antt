-- What is owed of its rank can be shown too, and a solo run of it has just as many steps as it costs.
use Rattle.std.proofs.Common.{◌≡◌, ℕ, Bool, true, false, List, [], ◌∷◌, None, refl, sym, ap, ◌∙◌, inl, inr, subst, slice_set, arith}
use Rattle.std.specs.Prelude.{pos, ◌≤ℤ◌, ◌⊎◌}
use Rattle.std.proofs.lemmas.Int.{ints}
use Rattle.semantics.specs.Word.{Uint, Word, word, is_zero}
use Rattle.semantics.specs.Core.{Literal, Variable}
use Rattle.semantics.specs.Evaluation.{evaluate, Gives}
use Rattle.semantics.specs.Launch.{Launch}
use Rattle.semantics.specs.Solo.{opening, after}
use Rattle.semantics.specs.Ask.{ask}
use Rattle.arrivals.specs.Points.{Has}
use Rattle.arrivals.specs.Trees.{Step, Sets, Tests, Enters, AtHead, AtEnd, End, IsEnd, Front, IsFront}
use Rattle.arrivals.specs.LoopTests.{IsTest, IsEntering}
use Rattle.arrivals.specs.Places.{Place, own_place, places, tree}
use Rattle.arrivals.specs.Paths.{CanBe, Held, Follows}
use Rattle.arrivals.specs.Shown.{Came, IsShort}
use Rattle.arrivals.proofs.Tests.{true_false}
use Rattle.rankings.specs.Ranked.{Owes, RanksShown}
use Rattle.rankings.proofs.Short.{ranked_short}
use Rattle.rankings.proofs.OneLoop.{body, at_one, value_of, counted, rank, notes, limit, head_place, are_places, one_loop-shown, one_loop-sound}

at_most_one : (b : Bool) → counted b ≤ℤ pos 1
at_most_one true = omega (arith, ints)
at_most_one false = omega (arith, ints)

is_value : (l : Launch) (i : ℕ) (vars : List Word) (v : Word) → CanBe (at_one l) [] i (Variable 0) vars v → value_of vars ≡ v
unfolding evaluate
is_value l i vars v c = by c.answers c.rest c.is
  where
    by : (answers rest : List Word) → Gives (value_of vars) answers ≡ Gives v rest → value_of vars ≡ v
    by answers rest e = cc

-- where the test was true
some : (l : Launch) (i : ℕ) (root here : Held) → Follows (at_one l) [] rank i (Tests (Variable 0) true ∷ []) root here → rank 1 i here ≡ pos 1
some l i root here (mid, (f, (v, (can, (z, e))))) = subst (λ (h : Held). rank 1 i h ≡ pos 1) (sym e) (ap (λ (v : Word). counted (is_zero v.value)) (is_value l i mid.variables v can) ∙ ap counted z)

set_first : (vars : List Word) (v : Word) → is_zero v.value ≡ true → is_zero (value_of (slice_set vars 0 v)).value ≡ true
set_first [] v h = refl
set_first (x ∷ xs) v h = h

is_literal : (l : Launch) (i : ℕ) (vars : List Word) (v : Word) → CanBe (at_one l) [] i (Literal Uint (pos 0)) vars v → is_zero v.value ≡ true
unfolding evaluate
is_literal l i vars v c = by c.answers c.rest c.is
  where
    by : (answers rest : List Word) → Gives (word Uint (pos 0)) answers ≡ Gives v rest → is_zero v.value ≡ true
    by answers rest e = let e : word Uint (pos 0) ≡ v = cc in ap (λ (v : Word). is_zero v.value) (sym e)

-- behind a turn x is 0
fallen : (l : Launch) (i : ℕ) (root here : Held) → Follows (at_one l) [] rank i (Sets 0 (Literal Uint (pos 0)) ∷ Enters 1 ∷ Tests (Variable 0) true ∷ []) root here → Owes notes limit 1 i true here
fallen l i root here (mid, ((old, (f, e)), (v, (can, e')))) =
    let new : rank 1 i here ≡ pos 0 = ap (λ (h : Held). rank 1 i h) e' ∙ ap counted (set_first mid.variables v (is_literal l i mid.variables v can)) in
    let was : here.ranks 1 ≡ pos 1 = ap (λ (h : Held). h.ranks 1) e' ∙ ap (λ (h : Held). h.ranks 1) e ∙ some l i root old f in
    omega (arith, ints, new, was)

module _ (l : Launch) (i : ℕ) (n : ℕ) (anchor here : Held) where
  no_test : (p : Place) (f : Front) (again : Bool) → Has p (places body) → IsFront f [] (tree body p) → IsTest n again f.statement.statement f.statement.again → ⊥
  no_test p f again h e test = by (are_places p h)
    where
      at_head : IsFront f [] (tree body head_place) → ⊥
      at_head (inl e) = let q = subst (λ (f : Front). IsTest n again f.statement.statement f.statement.again) e test in true_false false q.1.1 refl
      at_head (inr (inl (inl e))) = subst (λ (f : Front). IsTest n again f.statement.statement f.statement.again) e test
      at_head (inr (inl (inr e))) = absurd e
      at_head (inr (inr e)) = absurd e

      by : (p ≡ own_place None) ⊎ (p ≡ head_place) → ⊥
      by (inl q) = subst (λ p. IsFront f [] (tree body p)) q e
      by (inr q) = at_head (subst (λ p. IsFront f [] (tree body p)) q e)

  owes_of : (x : ℕ) (b again : Bool) → AtHead x b ≡ AtHead n again → Owes notes limit x i b here → Owes notes limit n i again here
  owes_of x b again e h = let f : x ≡ n = cc in let g : b ≡ again = cc in subst (λ n. Owes notes limit n i again here) f (subst (λ b. Owes notes limit x i b here) g h)

  at_test : (p : Place) (u : End) (again : Bool) → Has p (places body) → IsEnd u [] (tree body p) → u.stop ≡ AtHead n again → Came (at_one l) notes p i u.path anchor here → Owes notes limit n i again here
  at_test p u again h e stops came = by (are_places p h)
    where
      at_own : IsEnd u [] (tree body (own_place None)) → Owes notes limit n i again here
      at_own e = owes_of 1 false again (sym (ap (λ (u : End). u.stop) e) ∙ stops) (at_most_one (is_zero (value_of here.variables).value))

      at_head : IsEnd u [] (tree body head_place) → Owes notes limit n i again here
      at_head (inl e) = owes_of 1 true again (sym (ap (λ (u : End). u.stop) e) ∙ stops) (fallen l i came.root here (subst (λ (u : End). Follows (at_one l) [] rank i u.path came.root here) e came.follows))
      at_head (inr e) = let f : AtEnd ≡ AtHead n again = sym (ap (λ (u : End). u.stop) e) ∙ stops in cc

      by : (p ≡ own_place None) ⊎ (p ≡ head_place) → Owes notes limit n i again here
      by (inl q) = at_own (subst (λ p. IsEnd u [] (tree body p)) q e)
      by (inr q) = at_head (subst (λ p. IsEnd u [] (tree body p)) q e)

  in_body : (p : Place) (path : List Step) → Has p (places body) → IsEntering n path [] (tree body p) → Came (at_one l) notes p i path anchor here → pos 1 ≤ℤ rank n i here
  in_body p path h e came = by (are_places p h)
    where
      at_head : IsEntering n path [] (tree body head_place) → pos 1 ≤ℤ rank n i here
      at_head (inl (inl e)) = let f : Tests (Variable 0) true ≡ Enters n = e.0 in cc
      at_head (inl (inr (inl e))) = omega (arith, ints, some l i came.root here (subst (λ path. Follows (at_one l) [] rank i path came.root here) e.1 came.follows))
      at_head (inl (inr (inr (inl e)))) = let f : Sets 0 (Literal Uint (pos 0)) ≡ Enters n = e.0 in cc
      at_head (inl (inr (inr (inr e)))) = absurd e
      at_head (inr (inl e)) = let f : Tests (Variable 0) false ≡ Enters n = e.0 in cc
      at_head (inr (inr e)) = absurd e

      by : (p ≡ own_place None) ⊎ (p ≡ head_place) → pos 1 ≤ℤ rank n i here
      by (inl q) = absurd (subst (λ p. IsEntering n path [] (tree body p)) q e)
      by (inr q) = at_head (subst (λ p. IsEntering n path [] (tree body p)) q e)

pub one_loop-ranked : (l : Launch) → RanksShown (at_one l) notes limit
one_loop-ranked l = record {
  are_limits = λ n. omega arith;
  at_loops = λ p f n again h e test i anchor here is_item came. absurd (no_test l i n anchor here p f again h e test);
  at_heads = λ p u n again h e stops i anchor here is_item came. at_test l i n anchor here p u again h e stops came;
  entering = λ p n path h e i anchor here is_item came. in_body l i n anchor here p path h e came;
}

-- three steps at most
pub one_loop-short : (l : Launch) → IsShort (at_one l) [] 3
one_loop-short l = ranked_short (at_one l) notes limit (one_loop-sound l) (one_loop-shown l) (one_loop-ranked l)

-- and three where x is 1: two tests and an assignment
abbrev at_1 : Launch
at_1 = record { groups = record { x = 1; y = 1; z = 1 }; arguments = word Uint (pos 1) ∷ []; buffers = []; fill = 0; machine = λ o. pos 0 }

pub one_loop-steps : (after (at_one at_1) 0 (pos 0 ∷ pos 0 ∷ pos 0 ∷ [])).steps ≡ 3
unfolding opening ask evaluate
one_loop-steps = refl
