-- Statements whose barriers fence a space, and the points of a kernel.
use Rattle.std.proofs.Common.{◌≡◌, ◌&&◌, Bool, true, false, List, [], ◌∷◌, ◌++◌, refl, sym, ap, ◌∙◌}
use Rattle.semantics.specs.Core.{Space, Global, Local, Statement, Set, Store, If, Loop, Barrier, Return, Break, Continue, Statements, none, one}
use Rattle.arrivals.specs.Points.{Left, Point, points_one, points, join, turning}
use Rattle.arrivals.specs.Races as races
use Rattle.obligations.specs.Crossings.{is_fenced}
use Rattle.two_thread.specs.Fences.{fences, all_fence}

and-true : (b : Bool) → (b && true) ≡ b
and-true true = refl
and-true false = refl

and-assoc : (a b c : Bool) → ((a && b) && c) ≡ (a && (b && c))
and-assoc true b c = refl
and-assoc false b c = refl

fence-append : (sp : Space) (ps qs : List Point) → races.all_fence sp (ps ++ qs) ≡ (races.all_fence sp ps && races.all_fence sp qs)
fence-append sp [] qs = refl
fence-append sp (p ∷ ps) qs = ap (λ b. races.fence sp p.statement && b) (fence-append sp ps qs) ∙ sym (and-assoc (races.fence sp p.statement) (races.all_fence sp ps) (races.all_fence sp qs))

loop-fences : (sp : Space) (n : _) (e : _) (b u : Statements) → races.fence sp (Loop n e b u) ≡ true
loop-fences Global n e b u = refl
loop-fences Local n e b u = refl

mutual
  one-fence : (sp : Space) (s : Statement) (rest : List Left) → races.all_fence sp (points_one s rest) ≡ fences sp s
  one-fence sp (Set n x e) rest = refl
  one-fence sp (Store n a site i e) rest = refl
  one-fence sp (If n e t f) rest = fence-append sp (points t rest) (points f rest) ∙ (λ i. points-fence sp t rest i && points-fence sp f rest i)
  one-fence sp (Loop n e b u) rest =
      let more = turning (Loop n e b u) ∷ rest in
      (λ i. loop-fences sp n e b u i && fence-append sp (points b (join u more)) (points u more) i)
      ∙ (λ i. points-fence sp b (join u more) i && points-fence sp u more i)
  one-fence Global (Barrier n l g) rest = and-true g
  one-fence Local (Barrier n l g) rest = and-true l
  one-fence sp (Return n) rest = refl
  one-fence sp (Break n k) rest = refl
  one-fence sp (Continue n k) rest = refl

  points-fence : (sp : Space) (ss : Statements) (rest : List Left) → races.all_fence sp (points ss rest) ≡ all_fence sp ss
  points-fence sp none rest = refl
  points-fence sp (one s ss) rest = fence-append sp (points_one s (join ss rest)) (points ss rest) ∙ (λ i. one-fence sp s (join ss rest) i && points-fence sp ss rest i)

pub fenced_is : (sp : Space) (ss : Statements) → all_fence sp ss ≡ is_fenced ss sp
fenced_is sp ss = sym (points-fence sp ss [])
