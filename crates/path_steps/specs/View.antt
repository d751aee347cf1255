-- What the code's values stand for.
use Rattle.std.specs.Prelude.{ℕ, List, map, take, drop, reverse, length, Option, None, Some, true, false, slice_index_or}
use Rattle.std.proofs.Common.{Vec, Global}
use Rattle.arrivals.specs.Trees as arrivals
use Rattle.domain.specs.declared.Domain.{Ghosts}
use Rattle.words.specs.View.{kind}
use Rattle.core_code.specs.View.{array, site, local_array}
use Rattle.facts.specs.View.{known_seen, three, buffer_bound}
use Rattle.linear.specs.Forms.{form, forms}
use Rattle.facts.specs.Symbols.{Fact}
use Rattle.walk_trees.specs.Held as held
use Rattle.walk_trees.specs.Shares as shares
use Rattle.walk_trees.specs.Trees as trees
use Rattle.walk_trees.specs.Values as values
use Rattle.walk_trees.specs.Walks as walks
use Rattle.path_steps.specs.Paths as paths
use Rattle.path_steps.specs.Paths.{Claimed, Followed}
use Rattle.path_steps.specs.declared.path.Sort.{Sort}
use Rattle.path_steps.specs.declared.path.Sort.TheVariants as sorts
use Rattle.path_steps.specs.declared.path.Spot.{Spot}
use Rattle.path_steps.specs.declared.path.Target.{Target}
use Rattle.path_steps.specs.declared.path.Goal.{Goal}
use Rattle.path_steps.specs.declared.path.Goal.TheVariants as goals
use Rattle.path_steps.specs.declared.path.Claim.{Claim}
use Rattle.path_steps.specs.declared.path.Access.{Access}
use Rattle.path_steps.specs.declared.path.Invented.{Invented}
use Rattle.path_steps.specs.declared.path.Narrowed.{Narrowed}
use Rattle.path_steps.specs.declared.path.Choice.{Choice}
use Rattle.path_steps.specs.declared.path.Choice.TheVariants as choices
use Rattle.path_steps.specs.declared.path.Value.{Value}
use Rattle.path_steps.specs.declared.path.Ranked.{Ranked}
use Rattle.path_steps.specs.declared.path.Shared.{Shared}
use Rattle.path_steps.specs.declared.path.Stop.{Stop}
use Rattle.path_steps.specs.declared.path.Stop.TheVariants as stops
use Rattle.path_steps.specs.declared.path.Arrived.{Arrived}
use Rattle.path_steps.specs.declared.path.Path.{Path}
use Rattle.path_steps.specs.declared.setting.Setting.{Setting}

abbrev pub sort : Sort → trees.Sort
sort (sorts.OfRange k) = trees.OfRange (kind k)
sort sorts.OfIndex = trees.OfIndex
sort sorts.OfDivisor = trees.OfDivisor
sort sorts.OfQuotient = trees.OfQuotient
sort sorts.OfRanking = trees.OfRanking
sort sorts.OfFact = trees.OfFact
sort sorts.OfCongruence = trees.OfCongruence
sort sorts.OfContent = trees.OfContent
sort sorts.OfPair = trees.OfPair
sort sorts.OfSame = trees.OfSame
sort sorts.OfMeeting = trees.OfMeeting

abbrev pub spot : Spot → trees.Spot
spot p = record { statement = p.statement; site = site p.site }

abbrev pub target : Target → trees.Target
target t = record { is_store = t.is_store; array = array t.array; spot = spot t.spot }

abbrev pub goal_seen : Goal → trees.Goal
goal_seen (goals.AtLeastZero f) = trees.AtLeastZero (form f)
goal_seen (goals.Either p n) = trees.Either (form p) (form n)
goal_seen (goals.Replaced made f) = trees.Replaced (forms made.items) (form f)
goal_seen (goals.Divided made f) = trees.Divided (forms made.items) (form f)

abbrev pub claim_seen : List Fact → Claim → Claimed
claim_seen facts c = record { demand = record { sort = sort c.sort; spot = spot c.spot }; needed = c.needed; settled = c.settled; goal = goal_seen c.goal; facts = take c.facts facts }

abbrev pub narrowed_seen : {E : Type 0} → Narrowed E → held.Narrowed E
narrowed_seen n = record { symbol = n.symbol.number; element = n.element }

abbrev pub invented_seen : {E : Type 0} → Invented E → E
invented_seen i = i.element

abbrev pub held_seen : {E : Type 0} → List (Invented E) → List (Narrowed E) → held.Held E
held_seen news narrowed = record { news = map invented_seen news; narrowed = map narrowed_seen narrowed }

abbrev pub access_seen : {E : Type 0} → List Fact → List (Invented E) → List (Narrowed E) → Access → trees.Access E
access_seen facts news narrowed a = record { target = target a.target; index = form a.index; held = held_seen (take a.news news) (take a.narrowed narrowed); facts = take a.facts facts }

abbrev pub choice : Choice → paths.Choice
choice choices.First = paths.First
choice (choices.Other n) = paths.Other n

abbrev pub value : Value → values.Value
value v = record { kind = kind v.kind; form = form v.form }

abbrev pub stop : Stop → arrivals.Stop
stop (stops.Barrier n) = arrivals.AtBarrier n
stop (stops.Head n again) = arrivals.AtHead n again
stop stops.End = arrivals.AtEnd

-- the code has the oldest first
abbrev pub turns : Option (Vec ℕ Global) → arrivals.Turns
turns None = None
turns (Some v) = Some (reverse v.items)

abbrev pub ended_seen : {E : Type 0} → List Fact → List (Invented E) → List (Narrowed E) → Arrived → trees.Ended E
ended_seen facts news narrowed a = record { arrived = record { stop = stop a.stop; turns = turns a.turns; variables = map value a.variables.items; held = held_seen (take a.news news) (take a.narrowed narrowed) }; facts = take a.facts facts }

-- the code has the oldest first
abbrev pub ranked : Ranked → walks.Ranked
ranked r = record { loop = r.number; form = form r.form }

-- the code has the oldest first
abbrev pub shared_seen : Shared → shares.Shared
shared_seen q = record { dividend = form q.dividend; divisor = form q.divisor; quotient = form q.quotient; left = form q.left }

abbrev pub maybe_shared : Option Shared → Option shares.Shared
maybe_shared None = None
maybe_shared (Some q) = Some (shared_seen q)

unfoldable pub followed : {E : Type 0} → Path E → Followed E
followed p = record {
  found = record {
    facts = forms p.facts.items;
    claims = map (claim_seen (forms p.facts.items)) p.claims.items;
    accesses = map (access_seen (forms p.facts.items) p.news.items p.narrowed.items) p.accesses.items;
    ends = map (ended_seen (forms p.facts.items) p.news.items p.narrowed.items) p.ends.items;
    count = p.count;
    taken = map choice p.taken.items;
    left = map choice (drop (length p.taken.items) p.given.items);
    is_fit = true;
    is_few = true;
  };
  state = record {
    claims = p.count;
    variables = map value p.variables.items;
    ranks = reverse (map ranked p.ranks.items);
    quotients = reverse (map shared_seen p.quotients.items);
    held = held_seen p.news.items p.narrowed.items;
    at = spot p.at;
  };
}

abbrev pub setting : {E : Type 0} → Ghosts E → Setting E → walks.Setting E
setting g s = record {
  is_wide = s.is_wide;
  joins = s.joins;
  domain = g;
  known = known_seen s.known;
  sizes = three s.sizes;
  buffers = map kind s.buffers.items;
  arrays = map local_array s.arrays.items;
  contents = map buffer_bound s.contents.items;
  has_entry = λ n. slice_index_or s.entries.items n false;
}
