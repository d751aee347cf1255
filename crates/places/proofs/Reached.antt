-- The lists of a head, from the end of what is left to its front, are those of the tree.
use Rattle.std.proofs.Common.{◌≡◌, ℕ, Bool, true, false, ◌||◌, nat_eq, cond, List, [], ◌∷◌, ◌++◌, Some, refl, sym, ap, ap₂, ◌∙◌}
use Rattle.semantics.specs.Core.{Statement, Set, Store, If, Loop, Barrier, Return, Break, Continue, Statements, none, one, number}
use Rattle.semantics.specs.Item.{update_of}
use Rattle.arrivals.specs.Loops.{have_barrier}
use Rattle.arrivals.specs.Points.{Left}
use Rattle.arrivals.specs.Trees as trees
use Rattle.arrivals.specs.Trees.{Later, Ways, walk_one, walk, walk_loop, ways, left, turned}
use Rattle.arrivals.specs.Places.{reaches, reached, with_list, Lists, NoList, OneList, lists_of}
use Rattle.places.specs.Reaching.{join, after, at_head, Exits, in_body, by_loop, by_statement, by_statements, Found, before, found}
use Rattle.places.proofs.Joins.{lists-append, after-join, after-one, after-none}

-- whatever turned before
abbrev Says : ℕ → Later → Lists → Type 0
Says n go a = (l : List ℕ) → lists_of n (reaches (go (Some l))) ≡ after a l

record AreSaid (n : ℕ) (w : Ways) (go : Lists) (x : Exits) : Type 0 where
  going : Says n w.go go
  leaving : (k : ℕ) → Says n (w.out k) (x.out k)
  resuming : (k : ℕ) → Says n (w.back k) (x.back k)

nowhere : (n : ℕ) → Says n trees.end NoList
nowhere n l = refl

said_in_body : (n : ℕ) (w : Ways) (go : Lists) → Says n w.go go → AreSaid n (trees.in_body w.go) NoList (in_body go)
said_in_body n w go h = record { going = nowhere n; leaving = λ k. h; resuming = λ k. nowhere n }

both : (n : ℕ) (f g : Later) (a b : Lists) → Says n f a → Says n g b → (l : List ℕ) → lists_of n (reaches (f (Some l)) ++ reaches (g (Some l))) ≡ after (join a b) l
both n f g a b h k l = lists-append n (reaches (f (Some l))) (reaches (g (Some l))) ∙ ap₂ join (h l) (k l) ∙ after-join a b l

said_loop : (n : ℕ) (a : Bool) (m : ℕ) (e : _) (b u : Statements) (holds : Bool) (body update go : Later) (x y z : Lists) → Says n body x → Says n update y → Says n go z →
    Says n (walk_loop true holds (left (Loop m e b u) a) m e body update go) (by_loop holds (nat_eq m n) m x y z)
said_loop n a m e b u true body update go x y z h k g l = both n (λ t. body (turned m t)) go (after x (m ∷ [])) z (λ l'. h (m ∷ l') ∙ after-one x m l') g l
said_loop n a m e b u false body update go x y z h k g l = at (nat_eq m n)
  where
    rest : lists_of n ((reaches (body (Some l)) ++ reaches (update (Some l))) ++ reaches (go (Some l))) ≡ after (join (join x y) z) l
    rest = both n (λ t. trees.Fork (body t) (update t)) go (join x y) z (both n body update x y h k) g l

    at : (is : Bool) → cond is (with_list l (lists_of n ((reaches (body (Some l)) ++ reaches (update (Some l))) ++ reaches (go (Some l))))) (lists_of n ((reaches (body (Some l)) ++ reaches (update (Some l))) ++ reaches (go (Some l)))) ≡ after (join (at_head is) (join (join x y) z)) l
    at true = ap (with_list l) rest ∙ after-join (OneList []) (join (join x y) z) l
    at false = rest

mutual
  said_one : (n : ℕ) (a : Bool) (s : Statement) (w : Ways) (go : Lists) (x : Exits) → AreSaid n w go x → Says n (walk_one true a s w) (by_statement n s go x)
  said_one n a (Set m y e) w go x h = h.going
  said_one n a (Store m y site k e) w go x h = h.going
  said_one n a (If m e t f) w go x h = both n (walk true t w) (walk true f w) (by_statements n t go x) (by_statements n f go x) (said_all n t w go x h) (said_all n f w go x h)
  said_one n a (Loop m e b u) w go x h = said_loop n a m e b u (have_barrier b || have_barrier u) (walk true b (trees.in_body w.go)) (walk true u (trees.in_body w.go)) w.go (by_statements n b NoList (in_body go)) (by_statements n u NoList (in_body go)) go (said_all n b (trees.in_body w.go) NoList (in_body go) (said_in_body n w go h.going)) (said_all n u (trees.in_body w.go) NoList (in_body go) (said_in_body n w go h.going)) h.going
  said_one n a (Barrier m l g) w go x h = λ l'. refl
  said_one n a (Return m) w go x h = λ l'. refl
  said_one n a (Break m k) w go x h = h.leaving k
  said_one n a (Continue m k) w go x h = h.resuming k

  said_all : (n : ℕ) (ss : Statements) (w : Ways) (go : Lists) (x : Exits) → AreSaid n w go x → Says n (walk true ss w) (by_statements n ss go x)
  said_all n none w go x h = h.going
  said_all n (one s ss) w go x h = said_one n false s (record { go = λ t. walk true ss w t; out = w.out; back = w.back }) (by_statements n ss go x) x (record { going = said_all n ss w go x h; leaving = h.leaving; resuming = h.resuming })

said_cond : (n : ℕ) (is : Bool) (f g : Later) (a b : Lists) → Says n f a → Says n g b → Says n (cond is f g) (cond is a b)
said_cond n true f g a b h k = h
said_cond n false f g a b h k = k

said_left : (n : ℕ) (ss : List Left) → AreSaid n (ways true ss) (found n ss).go (found n ss).exits
said_left n [] = record { going = nowhere n; leaving = λ k. nowhere n; resuming = λ k. nowhere n }
said_left n (s ∷ ss) = at (ways true ss) (found n ss) (said_left n ss)
  where
    at : (w : Ways) (v : Found) → AreSaid n w v.go v.exits → AreSaid n (trees.before true s w) (before n s.statement v).go (before n s.statement v).exits
    at w v h =
        let here = said_one n s.again s.statement w v.go v.exits h in
        let around = said_all n (update_of s.statement) (record { go = walk_one true s.again s.statement w; out = w.out; back = w.back }) (by_statement n s.statement v.go v.exits) v.exits (record { going = here; leaving = h.leaving; resuming = h.resuming }) in
        record {
          going = here;
          leaving = λ k. said_cond n (nat_eq (number s.statement) k) w.go (w.out k) v.go (v.exits.out k) h.going (h.leaving k);
          resuming = λ k. said_cond n (nat_eq (number s.statement) k) (walk true (update_of s.statement) (record { go = walk_one true s.again s.statement w; out = w.out; back = w.back })) (w.back k) (by_statements n (update_of s.statement) (by_statement n s.statement v.go v.exits) v.exits) (v.exits.back k) around (h.resuming k);
        }

-- from what is left
pub found_reached : (n : ℕ) (ss : List Left) → (found n ss).go ≡ lists_of n (reached ss)
found_reached n ss = sym ((said_left n ss).going [] ∙ after-none (found n ss).go)
