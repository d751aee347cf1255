-- Where every barrier fences a space, an item's epoch of it counts the barriers that it has passed.
use Rattle.std.proofs.Common.{◌≡◌, ℕ, zero, suc, ◌+◌, ◌<◌, ℤ, true, cond, List, [], ◌∷◌, get_or, refl, sym, ap, ◌∙◌, inl, inr, subst, arith}
use Rattle.semantics.specs.Word.{Word}
use Rattle.semantics.specs.Core.{Space, Global, Local, Statement, Set, Store, If, Loop, Barrier, Return, Break, Continue, number}
use Rattle.semantics.specs.Setup.{Setup, item_count}
use Rattle.semantics.specs.Item.{Entry, Item, trail, local_flag, global_flag}
use Rattle.semantics.specs.Solo.{after, opening, passed, is_waiting, epoch}
use Rattle.semantics.specs.Contents.{IsHonest}
use Rattle.semantics.proofs.Steps.{Next, Passed, over-not_waiting}
use Rattle.semantics.proofs.Turns.{Turn, Steps, Passes, Stays, turn}
use Rattle.arrivals.specs.Points.{Has, Point, points}
use Rattle.arrivals.specs.Places.{is_barrier}
use Rattle.arrivals.specs.Shown.{Notes, Shown, IsSound}
use Rattle.arrivals.specs.Races.{fence, all_fence, is_fenced, space_of}
use Rattle.arrivals.proofs.Tests.{and_left, and_right}
use Rattle.arrivals.proofs.Placing.{Placed}
use Rattle.arrivals.proofs.Runs.{is_placed}
use Rattle.arrivals.proofs.Alike.{Waits, waits}

fences : (sp : Space) (ps : List Point) (p : Point) → all_fence sp ps ≡ true → Has p ps → fence sp p.statement ≡ true
fences sp [] p h k = absurd k
fences sp (q ∷ ps) p h (inl e) = subst (λ (q : Point). fence sp q.statement ≡ true) (sym e) (and_left (fence sp q.statement) (all_fence sp ps) h)
fences sp (q ∷ ps) p h (inr k) = fences sp ps p (and_right (fence sp q.statement) (all_fence sp ps) h) k

-- the epoch of a space
abbrev pub of_space : Space → Item → ℕ
of_space Global it = it.global_epoch
of_space Local it = it.local_epoch

abbrev flag_at : Space → ℕ
flag_at Global = 3
flag_at Local = 2

flag_is : (sp : Space) (st : Statement) (t : ℕ) (rest : List ℕ) → is_barrier st ≡ true → fence sp st ≡ true → get_or (number st ∷ t ∷ local_flag st ∷ global_flag st ∷ rest) (flag_at sp) 0 ≡ 1
flag_is Global (Barrier n l g) t rest b h = ap (λ x. cond x 1 0) h
flag_is Local (Barrier n l g) t rest b h = ap (λ x. cond x 1 0) h
flag_is sp (Set n x e) t rest b h = cc
flag_is sp (Store n a site x e) t rest b h = cc
flag_is sp (If n e yeses noes) t rest b h = cc
flag_is sp (Loop n e x u) t rest b h = cc
flag_is sp (Return n) t rest b h = cc
flag_is sp (Break n k) t rest b h = cc
flag_is sp (Continue n k) t rest b h = cc

raised : (sp : Space) (it new : Item) → Passed it new → of_space sp new ≡ of_space sp it + get_or (trail it.left) (flag_at sp) 0
raised Global it new p = p.global
raised Local it new p = p.local

kept : (sp : Space) (it new : Item) → Next it new → of_space sp new ≡ of_space sp it
kept Global it new n = n.global
kept Local it new n = n.local

module _ (s : Setup) (k : Notes) (sound : IsSound s) (shown : Shown s k) (i : ℕ) (is_item : i < item_count s) (sp : Space) (fenced : is_fenced s sp ≡ true) where
  flag_here : (n : ℕ) (left : List Entry) (vars : List Word) → Waits s k i n left vars → get_or (trail left) (flag_at sp) 0 ≡ 1
  flag_here n left vars w = ap (λ l. get_or (trail l) (flag_at sp) 0) w.left_is ∙ flag_is sp w.barrier.statement _ _ w.is_a_barrier (fences sp (points s.kernel.body []) w.barrier fenced w.is_point)

  by_turn : (z : ℤ) (ws : List ℤ) → IsHonest s k.contents i ws → of_space sp (after s i ws) ≡ passed s i ws → Turn (after s i ws) (after s i (z ∷ ws)) → of_space sp (after s i (z ∷ ws)) ≡ passed s i (z ∷ ws)
  by_turn z ws fair h (Steps n) =
      let w = ap is_waiting n.was in
      let q = kept sp (after s i ws) (after s i (z ∷ ws)) n in omega (arith, w, q, h)
  by_turn z ws fair h (Passes p) =
      let w = ap is_waiting p.was in
      let q = raised sp (after s i ws) (after s i (z ∷ ws)) p in
      let there = subst (Placed s k i (passed s i ws) (after s i ws).left (after s i ws).variables) p.was (is_placed s k shown i is_item sound ws fair) in
      let f = flag_here (passed s i ws) (after s i ws).left (after s i ws).variables (waits s k i (passed s i ws) (after s i ws).left (after s i ws).variables there.0 there.1) in
      omega (arith, w, q, f, h)
  by_turn z ws fair h (Stays o e) =
      let w = over-not_waiting (after s i ws).status o in
      let q = ap (of_space sp) e in omega (arith, w, q, h)

  opened : of_space sp (opening s i) ≡ 0
  unfolding opening
  opened = by sp
    where
      by : (sp : Space) → of_space sp (opening s i) ≡ 0
      by Global = refl
      by Local = refl

  pub epoch-passed : (ws : List ℤ) → IsHonest s k.contents i ws → of_space sp (after s i ws) ≡ passed s i ws
  epoch-passed [] fair = opened
  epoch-passed (z ∷ ws) fair = by_turn z ws fair.0 (epoch-passed ws fair.0) (turn s i (after s i ws) z)

pub epoch-is : (it : Item) (owner : ℕ) → epoch it owner ≡ of_space (space_of owner) it
epoch-is it zero = refl
epoch-is it (suc g) = refl
