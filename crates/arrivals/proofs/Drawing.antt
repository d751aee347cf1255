-- Where an item stands in the walk with forms: at the leaf, in front of the statement, or at the claim on a rank, to which it follows
-- a path.
use Rattle.std.proofs.Common.{◌≡◌, ℕ, Bool, List, [], refl}
use Rattle.semantics.specs.Core.{Statements}
use Rattle.semantics.specs.Setup.{Setup}
use Rattle.semantics.specs.Conditions.{Content}
use Rattle.arrivals.specs.Points.{Has}
use Rattle.arrivals.specs.Places.{Place, tree, places}
use Rattle.arrivals.specs.LoopTests.{IsTest, IsEntering}
use Rattle.arrivals.specs.Trees.{Step, Stop, AtHead, Turns, End, IsEnd, Front, IsFront, Enters}
use Rattle.arrivals.specs.Paths.{Follows, Held, Ranking}
use Rattle.arrivals.specs.Symbolic.{Terms, sketch, Faithful, AtFront, AtArrival, AtEntering}
use Rattle.arrivals.proofs.PlaceHeads.{place-head}
use Rattle.arrivals.proofs.Drawn.{stands_at}
use Rattle.arrivals.proofs.Spots.{Stops, Before, Taking, spot_of_end, spot_of_front, spot_of_entering}

module _ (s : Setup) (cs : List Content) (r : Ranking) (i : ℕ) (T S F : Type 0) (k : Terms T S F) (At : T → S → Held → Type 0) (law : Faithful s cs r i T S F k At) where
  abbrev pub AtLeaf : Stop → Turns → (here : Held) → Type 0
  AtLeaf stop t here = (st : S) × At (k.stops stop t st) st here

  -- an item that stands at a place's sketch stands at the leaf, or in front of the statement, to which it follows a path
  pub stands_at_leaf : (body : Statements) (p : Place) (u : End) (st : S) (root here : Held) → At (sketch k body p st) st root → IsEnd u [] (tree body p) → Follows s cs r i u.path root here → AtLeaf u.stop u.turns here
  stands_at_leaf body p u st root here h e f = (stands_at s cs r i T S F k At law ⊥ body p (Stops u.stop u.turns) u.path st root here (λ y. absurd y) h (spot_of_end (tree body p) u [] e) f).0

  pub stands_in_front : (body : Statements) (p : Place) (g : Front) (st : S) (root here : Held) → At (sketch k body p st) st root → IsFront g [] (tree body p) → Follows s cs r i g.path root here → AtFront k At g.statement.statement here
  stands_in_front body p g st root here h e f = (stands_at s cs r i T S F k At law ⊥ body p (Before g.statement) g.path st root here (λ y. absurd y) h (spot_of_front (tree body p) g [] e) f).0

  -- where it comes to a loop's test, at the claim that is made there: in front of a loop with a barrier, and at a head's leaf
  pub stands_at_arrival : (body : Statements) (p : Place) (g : Front) (n : ℕ) (again : Bool) (st : S) (root here : Held) → Has p (places body) → At (sketch k body p st) st root → IsFront g [] (tree body p) → IsTest n again g.statement.statement g.statement.again → Follows s cs r i g.path root here → AtArrival k At n again here
  stands_at_arrival body p g n again st root here is_place h e test f = (stands_at s cs r i T S F k At law (Unit {0}) body p (Before g.statement) g.path st root here (λ y. place-head body p is_place) h (spot_of_front (tree body p) g [] e) f).1 tt n again test

  pub stands_at_head : (body : Statements) (p : Place) (u : End) (n : ℕ) (again : Bool) (st : S) (root here : Held) → At (sketch k body p st) st root → IsEnd u [] (tree body p) → u.stop ≡ AtHead n again → Follows s cs r i u.path root here → AtArrival k At n again here
  stands_at_head body p u n again st root here h e is f = (stands_at s cs r i T S F k At law ⊥ body p (Stops u.stop u.turns) u.path st root here (λ y. absurd y) h (spot_of_end (tree body p) u [] e) f).1 n again is

  -- and where that was true, at the claim of entering
  pub stands_at_entering : (body : Statements) (p : Place) (n : ℕ) (path : List Step) (st : S) (root here : Held) → At (sketch k body p st) st root → IsEntering n path [] (tree body p) → Follows s cs r i path root here → AtEntering k At n here
  stands_at_entering body p n path st root here h e f = stands_at s cs r i T S F k At law ⊥ body p (Taking (Enters n)) path st root here (λ y. absurd y) h (spot_of_entering (tree body p) n path [] e) f n refl
