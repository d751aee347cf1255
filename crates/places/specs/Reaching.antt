-- With which lists one head is reached from what is left, from its end to its front, without the tree. It serves the contracts of the
-- code; that it is what the definitions say is proved.
use Rattle.std.specs.Prelude.{ℕ, Bool, true, false, ◌||◌, cond, nat_eq, List, [], ◌∷◌, ◌++◌}
use Rattle.semantics.specs.Core.{Statement, Set, Store, If, Loop, Barrier, Return, Break, Continue, Statements, none, one, number}
use Rattle.semantics.specs.Item.{update_of}
use Rattle.arrivals.specs.Loops.{have_barrier}
use Rattle.arrivals.specs.Points.{Left}
use Rattle.arrivals.specs.Places.{Lists, NoList, OneList, TwoLists, with_list}

-- it is reached on two ways
abbrev pub join : Lists → Lists → Lists
join NoList b = b
join (OneList l) b = with_list l b
join TwoLists b = TwoLists

-- those loops have turned before
abbrev pub after : Lists → List ℕ → Lists
after NoList l = NoList
after (OneList m) l = OneList (m ++ l)
after TwoLists l = TwoLists

-- it is the head itself, or another
abbrev pub at_head : Bool → Lists
at_head true = OneList []
at_head false = NoList

-- with which lists it is reached past the loop of that number, and from the update of the loop of that number
pub record Exits : Type 0 where
  pub out : ℕ → Lists
  pub back : ℕ → Lists

abbrev pub no_exits : Exits
no_exits = record { out = λ k. NoList; back = λ k. NoList }

abbrev pub in_body : Lists → Exits
in_body go = record { out = λ k. go; back = λ k. NoList }

-- from a loop, by what it is reached with from its body, from its update, and behind it
abbrev pub by_loop : (holds is : Bool) → ℕ → (body update go : Lists) → Lists
by_loop true is m body update go = join (after body (m ∷ [])) go
by_loop false is m body update go = join (at_head is) (join (join body update) go)

abbrev mutual
  pub by_statement : ℕ → Statement → Lists → Exits → Lists
  by_statement n (Set m x e) go w = go
  by_statement n (Store m a site k e) go w = go
  by_statement n (If m e t f) go w = join (by_statements n t go w) (by_statements n f go w)
  by_statement n (Loop m e b u) go w = by_loop (have_barrier b || have_barrier u) (nat_eq m n) m (by_statements n b NoList (in_body go)) (by_statements n u NoList (in_body go)) go
  by_statement n (Barrier m l g) go w = NoList
  by_statement n (Return m) go w = NoList
  by_statement n (Break m k) go w = w.out k
  by_statement n (Continue m k) go w = w.back k

  pub by_statements : ℕ → Statements → Lists → Exits → Lists
  by_statements n none go w = go
  by_statements n (one s ss) go w = by_statement n s (by_statements n ss go w) w

-- with which lists it is reached from what is left, and from the ways out of it
pub record Found : Type 0 where
  pub go : Lists
  pub exits : Exits

abbrev pub nothing : Found
nothing = record { go = NoList; exits = no_exits }

-- a statement in front, by what it is reached with from there and from its update
abbrev pub passed : ℕ → (go back : Lists) → Found → Found
passed k go back w = record {
  go = go;
  exits = record {
    out = λ m. cond (nat_eq k m) w.go (w.exits.out m);
    back = λ m. cond (nat_eq k m) back (w.exits.back m);
  };
}

abbrev pub before : ℕ → Statement → Found → Found
before n s w = passed (number s) (by_statement n s w.go w.exits) (by_statements n (update_of s) (by_statement n s w.go w.exits) w.exits) w

abbrev pub all_before : ℕ → Statements → Found → Found
all_before n none w = w
all_before n (one s ss) w = before n s (all_before n ss w)

abbrev pub found : ℕ → List Left → Found
found n [] = nothing
found n (s ∷ ss) = before n s.statement (found n ss)
