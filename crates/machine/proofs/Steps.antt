-- What steps of work-items leave.
use Rattle.std.proofs.Common.{◌≡◌, ◌<◌, ℕ, ℤ, pos, List, [], ◌∷◌, Bool, true, false, cond, refl, ap, ◌∙◌, arith, nat_eq, length, map, slice_set}
use Rattle.std.specs.Prelude.{None, Result, Ok, Err, OnOk, OnErr, slice_index_or}
use Rattle.std.proofs.lemmas.Bool.Decides.{nat_tests}
use Rattle.std.proofs.lemmas.List.{map-set, get_or-set_same, get_or-set_other, length-map}
use Rattle.std.proofs.Math.Path.{fun_ext}
use Rattle.semantics.specs.Memory.{Memory}
use Rattle.semantics.specs.Item.{Entry, Item}
use Rattle.semantics.specs.Ask.{Ask, passes, ask}
use Rattle.semantics.specs.Solo.{Access, touch, moved}
use Rattle.semantics.specs.World.{World, put_item}
use Rattle.semantics.specs.Setup.{Setup}
use Rattle.work_item.specs.Proper.{is_proper_left}
use Rattle.work_item.proofs.Keeping.{keeps_proper}
use Rattle.machine.specs.Worlds.{remembered, answered}

pub touches_nothing : (i : ℕ) (it : Item) (left : List Entry) → touch i it (passes it left) ≡ None
touches_nothing i it [] = refl
touches_nothing i it (e ∷ rest) = refl

pub answers_nothing : (it : Item) (left : List Entry) (m : Memory) → answered (passes it left) m ≡ pos 0
answers_nothing it [] m = refl
answers_nothing it (e ∷ rest) m = refl

pub remembers_nothing : (it : Item) (left : List Entry) (m : Memory) → remembered (passes it left) m ≡ m
remembers_nothing it [] m = refl
remembers_nothing it (e ∷ rest) m = refl

abbrev pub the_world : Memory → (ℕ → Item) → List Access → World
the_world m items history = record { memory = m; items = items; history = history }

-- an item in a list
pub item_put : {A B : Type 0} (f : A → B) (xs : List A) (i : ℕ) (x : A) (past : ℕ → B) (j : ℕ) → i < length xs → slice_index_or (map f (slice_set xs i x)) j (past j) ≡ cond (nat_eq j i) (f x) (slice_index_or (map f xs) j (past j))
item_put f xs i x past j l = ap (λ ys. slice_index_or ys j (past j)) (map-set f xs i x) ∙ by (nat_eq j i) refl
  where
    by : (e : Bool) → nat_eq j i ≡ e → slice_index_or (slice_set (map f xs) i (f x)) j (past j) ≡ cond e (f x) (slice_index_or (map f xs) j (past j))
    by true e = let same : j ≡ i = grind (arith, nat_tests) in rw same (get_or-set_same (map f xs) i (f x) (past i) (rw (length-map xs f) l))
    by false e = get_or-set_other (map f xs) i j (f x) (past j) (grind (arith, nat_tests))

pub items_put : {A : Type 0} (f : A → Item) (xs : List A) (i : ℕ) (x : A) (past : ℕ → Item) → i < length xs → (λ j. slice_index_or (map f (slice_set xs i x)) j (past j)) ≡ put_item i (f x) (λ j. slice_index_or (map f xs) j (past j))
unfolding put_item
items_put f xs i x past l = fun_ext (λ j. item_put f xs i x past j l)

pub when_ok : {A B P Q : Type 0} (r : Result A B) → (P → Q) → OnOk r P → OnOk r Q
when_ok (Ok a) h p = h p
when_ok (Err e) h p = p

pub when_err : {A B P Q : Type 0} (r : Result A B) → (P → Q) → OnErr r P → OnErr r Q
when_err (Ok a) h p = p
when_err (Err e) h p = h p

-- an item goes on, the others stay: all that is left stays proper
pub put_proper : (s : Setup) (i : ℕ) (items new : ℕ → Item) (a : Ask) (z : ℤ) → a ≡ ask s i (items i) → ((j : ℕ) → is_proper_left (items j).left ≡ true) → new ≡ put_item i (moved (items i) a z) items → (j : ℕ) → is_proper_left (new j).left ≡ true
unfolding put_item
put_proper s i items new a z e h n j = ap (λ f. is_proper_left (f j).left) n ∙ by (nat_eq j i)
  where
    by : (b : Bool) → is_proper_left (cond b (moved (items i) a z) (items j)).left ≡ true
    by true = ap (λ k. is_proper_left (moved (items i) k z).left) e ∙ keeps_proper s i (items i) z (h i)
    by false = h j

pub world_is : (m m' : Memory) (items items' : ℕ → Item) (history history' : List Access) → m ≡ m' → items ≡ items' → history ≡ history' → record { memory = m; items = items; history = history } ≡ the_world m' items' history'
world_is m m' items items' history history' e f g = ap (λ x. the_world x items history) e ∙ ap (λ x. the_world m' x history) f ∙ ap (λ x. the_world m' items' x) g
