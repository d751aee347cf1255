-- What is stored lies in an array.
use Rattle.std.proofs.Common.{◌≡◌, ◌<◌, ◌+◌, ℕ, zero, suc, ℤ, pos, negsuc, List, [], ◌∷◌, Bool, true, false, refl, sym, ap, ◌∙◌, subst, arith, nat_lt, length, map, ltb-true}
use Rattle.std.specs.Prelude.{slice_index_or, cond}
use Rattle.std.proofs.Math.ListN as lists
use Rattle.std.proofs.lemmas.List.{get_or-replicate}
use Rattle.semantics.specs.Word.{Word}
use Rattle.semantics.specs.Core.{Array, Site, Space, Global, Local, Statement, Set, Store, If, Loop, Barrier, Return, Break, Continue}
use Rattle.semantics.specs.Setup.{Setup, group_of, group_count, item_count}
use Rattle.semantics.specs.Memory.{cell, owner_of, extent, extent_in, no_array}
use Rattle.semantics.specs.Evaluation.{Outcome, Gives, Needs, Faults, evaluate, Index, At, Outside, within}
use Rattle.semantics.specs.Item.{Entry, Item, Status, Running, Waiting, Ended, Stopped, trail}
use Rattle.semantics.specs.Ask.{Ask, Loads, Stores, Goes, Waits, Rests, on_value, stores, act, front, passes, by_status, ask}
use Rattle.semantics.proofs.Groups.{group-below}
use Rattle.work_item.specs.Asks.{asked}
use Rattle.work_item.specs.declared.ask.Ask as code
use Rattle.launch.specs.declared.launches.Buffers.{Buffers}
use Rattle.work_item.specs.declared.ask.Ask.TheVariants as variants
use Rattle.write_log.specs.Written.{words_of}
use Rattle.machine.specs.Memories.{HasShape, Inside, arrays_of}
use Rattle.machine.specs.Worlds.{StoresInside}
use Rattle.machine.specs.declared.memory.Memory.{Memory}

-- what is stored is an element of an array
IsElement : Setup → ℕ → Ask → Type 0
IsElement s i (Loads at k site) = Unit {0}
IsElement s i (Stores at site z next) = (a : Array) × (k : ℕ) × (at ≡ cell s i a k) × (k < extent s a)
IsElement s i (Goes next) = Unit {0}
IsElement s i (Waits next) = Unit {0}
IsElement s i Rests = Unit {0}

valued : (s : Setup) (i : ℕ) (it : Item) (o : Outcome) (go : Word → List Word → Ask) → ((v : Word) (rest : List Word) → IsElement s i (go v rest)) → IsElement s i (on_value s i it o go)
unfolding IsElement
valued s i it (Gives v rest) go k = k v rest
valued s i it (Needs a n site) go k = tt
valued s i it (Faults f site) go k = tt

found : (b : Bool) (k j : ℕ) (n : ℕ) → nat_lt k n ≡ b → cond b (At k) Outside ≡ At j → j < n
found true k j n e h = subst (λ m. m < n) (at_is k j h) (ltb-true k n e)
  where
    at_is : (x y : ℕ) → At x ≡ At y → x ≡ y
    at_is x y q = cc
found false k j n e h = cc

below : (n j : ℕ) (z : ℤ) → within n z ≡ At j → j < n
below n j (pos k) h = found (nat_lt k n) k j n refl h
below n j (negsuc k) h = cc

stored : (s : Setup) (i : ℕ) (it : Item) (a : Array) (site : Site) (k : Index) (value : ℤ) (rest : List Entry) → ((j : ℕ) → k ≡ At j → j < extent s a) → IsElement s i (stores s i it a site k value rest)
unfolding IsElement
stored s i it a site (At k) value rest h = (a, k, refl, h k refl)
stored s i it a site Outside value rest h = tt

acts : (s : Setup) (i : ℕ) (it : Item) (st : Statement) (turns : ℕ) (rest : List Entry) → IsElement s i (act s i it st turns rest)
unfolding IsElement
acts s i it (Set n x e) turns rest = valued s i it (evaluate s i (trail it.left) e it.variables it.answers) _ (λ v later. tt)
acts s i it (Store n a site k e) turns rest =
    valued s i it (evaluate s i (trail it.left) k it.variables it.answers) _ (λ index later.
    valued s i it (evaluate s i (trail it.left) e it.variables later) _ (λ v _. stored s i it a site (within (extent s a) index.value) v.value rest (λ j. below (extent s a) j index.value)))
acts s i it (If n e taken skipped) turns rest = valued s i it (evaluate s i (trail it.left) e it.variables it.answers) _ (λ v later. tt)
acts s i it (Loop n e body update) turns rest = valued s i it (evaluate s i (trail it.left) e it.variables it.answers) _ (λ v later. tt)
acts s i it (Barrier n l g) turns rest = tt
acts s i it (Return n) turns rest = tt
acts s i it (Break n loop) turns rest = tt
acts s i it (Continue n loop) turns rest = tt

fronts : (s : Setup) (i : ℕ) (it : Item) (left : List Entry) → IsElement s i (front s i it left)
unfolding IsElement
fronts s i it [] = tt
fronts s i it (e ∷ rest) = acts s i it e.statement e.turns rest

passing : (s : Setup) (i : ℕ) (it : Item) (left : List Entry) → IsElement s i (passes it left)
unfolding IsElement
passing s i it [] = tt
passing s i it (e ∷ rest) = tt

by : (s : Setup) (i : ℕ) (it : Item) (status : Status) → IsElement s i (by_status s i it status)
unfolding IsElement
by s i it Running = fronts s i it it.left
by s i it Waiting = passing s i it it.left
by s i it Ended = tt
by s i it (Stopped f site) = tt

is_element : (s : Setup) (i : ℕ) (it : Item) → IsElement s i (ask s i it)
unfolding ask
is_element s i it = by s i it it.status

row : (rows : List (List ℤ)) (a : ℕ) → length (slice_index_or rows a []) ≡ slice_index_or (map length rows) a 0
row rows a = sym (lists.get_or-map length rows a [])

in_space : (s : Setup) (m : Memory) (i : ℕ) (space : Space) (a k : ℕ) → HasShape s m → i < item_count s → k < extent_in s space a → k < length (slice_index_or (arrays_of m (owner_of s i space)) a [])
in_space s m i Global a k h l b = subst (λ n. k < n) (row s.launch.buffers a ∙ ap (λ ns. slice_index_or ns a 0) (sym h.buffers) ∙ sym (row (words_of m.buffers) a)) b
in_space s m i Local a k h l b =
    let g = group_of s i in
    let e : map length (slice_index_or (map words_of m.groups.items) g []) ≡ map (λ x. x.length) s.kernel.arrays = shapes_at m.groups.items g ∙ ap (λ ns. slice_index_or ns g []) h.groups ∙ get_or-replicate (group_count s) g _ [] (group-below s i l) in
    subst (λ n. k < n) (sym (lists.get_or-map (λ x. x.length) s.kernel.arrays a no_array) ∙ ap (λ ns. slice_index_or ns a 0) (sym e) ∙ sym (row (slice_index_or (map words_of m.groups.items) g []) a) ∙ ap (λ o. length (slice_index_or (arrays_of m o) a [])) (one g)) b
  where
    one : (g : ℕ) → suc g ≡ 1 + g
    one g = omega arith

    shapes_at : (xs : List Buffers) (g : ℕ) → map length (slice_index_or (map words_of xs) g []) ≡ slice_index_or (map (λ b. map length (words_of b)) xs) g []
    shapes_at [] g = refl
    shapes_at (x ∷ xs) zero = refl
    shapes_at (x ∷ xs) (suc g) = shapes_at xs g

inside_of : (s : Setup) (m : Memory) (i : ℕ) (c : code.Ask) (it : Item) → HasShape s m → i < item_count s → IsElement s i (asked c it) → StoresInside m c
unfolding IsElement
inside_of s m i (variants.Loads at k site) it h l e = tt
inside_of s m i (variants.Stores at site w) it h l e = subst (Inside m) (sym e.2) (in_space s m i e.0.space e.0.number e.1 h l e.3)
inside_of s m i (variants.Faults f site) it h l e = tt
inside_of s m i (variants.Sets slot w) it h l e = tt
inside_of s m i (variants.Takes block) it h l e = tt
inside_of s m i (variants.Repeats body update) it h l e = tt
inside_of s m i variants.PassesBy it h l e = tt
inside_of s m i variants.Arrives it h l e = tt
inside_of s m i variants.Ends it h l e = tt
inside_of s m i (variants.Leaves n) it h l e = tt
inside_of s m i (variants.Resumes n) it h l e = tt
inside_of s m i variants.Waits it h l e = tt
inside_of s m i variants.Rests it h l e = tt

pub stores_inside : (s : Setup) (m : Memory) (i : ℕ) (c : code.Ask) (it : Item) → HasShape s m → i < item_count s → asked c it ≡ ask s i it → StoresInside m c
stores_inside s m i c it h l e = inside_of s m i c it h l (subst (IsElement s i) (sym e) (is_element s i it))
