-- What is to be shown of the ranks of loops: of one item, wherever it comes to a loop's test, and wherever that was true.
use Rattle.std.specs.Prelude.{ℕ, ◌<◌, Bool, true, false, List, [], ◌≡◌}
use Rattle.semantics.specs.Setup.{Setup, item_count}
use Rattle.arrivals.specs.Points.{Has}
use Rattle.arrivals.specs.Trees.{Step, AtHead, End, IsEnd, Front, IsFront}
use Rattle.arrivals.specs.LoopTests.{IsTest, IsEntering}
use Rattle.arrivals.specs.Places.{Place, places, tree}
use Rattle.arrivals.specs.Paths.{Held}
use Rattle.arrivals.specs.Shown.{Notes, Came}
use Rattle.rankings.specs.Limits.{Limit, IsLimit, Opens, Holds, Falls}

-- where the loop opens its rank is as its limit says; behind a turn it has fallen, or grown, since the test was last true
abbrev pub Owes : Notes → (limit : ℕ → Limit) → (loop item : ℕ) (again : Bool) → Held → Type 0
Owes k limit n i false here = Opens (limit n) (k.rank n i here)
Owes k limit n i true here = Falls (limit n) (here.ranks n) (k.rank n i here)

pub record RanksShown (s : Setup) (k : Notes) (limit : ℕ → Limit) : Type 0 where
  pub are_limits : (n : ℕ) → IsLimit (limit n)
  -- in front of a loop that holds a barrier
  pub at_loops : (p : Place) (f : Front) (n : ℕ) (again : Bool) → Has p (places s.kernel.body) → IsFront f [] (tree s.kernel.body p) → IsTest n again f.statement.statement f.statement.again
      → (i : ℕ) (anchor here : Held) → i < item_count s → Came s k p i f.path anchor here → Owes k limit n i again here
  -- at a leaf that is the head of one without; what the head's own tree begins with owes nothing
  pub at_heads : (p : Place) (u : End) (n : ℕ) (again : Bool) → Has p (places s.kernel.body) → IsEnd u [] (tree s.kernel.body p) → u.stop ≡ AtHead n again
      → (i : ℕ) (anchor here : Held) → i < item_count s → Came s k p i u.path anchor here → Owes k limit n i again here
  -- behind a true test
  pub entering : (p : Place) (n : ℕ) (path : List Step) → Has p (places s.kernel.body) → IsEntering n path [] (tree s.kernel.body p)
      → (i : ℕ) (anchor here : Held) → i < item_count s → Came s k p i path anchor here → Holds (limit n) (k.rank n i here)
