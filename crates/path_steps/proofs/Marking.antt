-- The latest narrowed element of a symbol, by marks.
use Rattle.std.proofs.Common.{◌≡◌, ◌≤◌, ℕ, zero, suc, ◌+◌, Bool, true, false, cond, List, [], ◌∷◌, ◌++◌, length, map, take, drop, nat_eq, nat_lt, Result, Ok, Err, is_err, refl, ap, sym, ◌∙◌, arith}
use Rattle.std.specs.Prelude.{Option, None, Some, OnOk}
use Rattle.std.specs.BTreeMap.{BTreeMap, Updates, get, is_at}
use Rattle.std.specs.Ordering.{nat_cmp, is_eq}
use Rattle.std.specs.declared.cmp.Ordering.TheVariants.{Less, Equal, Greater}
use Rattle.std.proofs.lemmas.Bool.Decides.{nat_tests}
use Rattle.std.proofs.lemmas.List.{length-append}
use Rattle.walk_trees.specs.Held.{latest}
use Rattle.path_steps.specs.Marks.{latest_of}
use Rattle.path_steps.specs.View.{narrowed_seen}
use Rattle.path_steps.specs.declared.path.Narrowed.{Narrowed}

abbrev or_found : {E : Type 0} → E → Option E → E
or_found f None = f
or_found f (Some e) = e

picked : {E : Type 0} (f e : E) (o : Option E) (b : Bool) → cond b e (or_found f o) ≡ or_found f (cond b (Some e) o)
picked f e o true = refl
picked f e o false = refl

latest_is : {E : Type 0} (f : E) (o : Option E) (ns : List (Narrowed E)) (s : ℕ) → latest (or_found f o) (map narrowed_seen ns) s ≡ or_found f (latest_of o ns s)
latest_is f o [] s = refl
latest_is f o (n ∷ ns) s = ap (λ e. latest e (map narrowed_seen ns) s) (picked f n.element o (nat_eq n.symbol.number s)) ∙ latest_is f (cond (nat_eq n.symbol.number s) (Some n.element) o) ns s

-- of the first so many, and of those behind them
parted : {E : Type 0} (f : E) (k : ℕ) (ns : List (Narrowed E)) (s : ℕ) → latest f (map narrowed_seen ns) s ≡ or_found (latest f (map narrowed_seen (take k ns)) s) (latest_of None (drop k ns) s)
parted f zero ns s = latest_is f None ns s
parted f (suc k) [] s = refl
parted f (suc k) (n ∷ ns) s = parted (cond (nat_eq n.symbol.number s) n.element f) k ns s

pub found_some : {E : Type 0} (f e : E) (k : ℕ) (ns : List (Narrowed E)) (s : ℕ) → Some e ≡ latest_of None (drop k ns) s → e ≡ latest f (map narrowed_seen ns) s
found_some f e k ns s h = sym (parted f k ns s ∙ ap (or_found (latest f (map narrowed_seen (take k ns)) s)) (sym h))

pub found_none : {E : Type 0} (f : E) (k : ℕ) (ns : List (Narrowed E)) (s : ℕ) → None ≡ latest_of None (drop k ns) s → latest f (map narrowed_seen (take k ns)) s ≡ latest f (map narrowed_seen ns) s
found_none f k ns s h = sym (parted f k ns s ∙ ap (or_found (latest f (map narrowed_seen (take k ns)) s)) (sym h))

-- one more at the end
latest_push : {E : Type 0} (o : Option E) (ns : List (Narrowed E)) (x : Narrowed E) (s : ℕ) → latest_of o (ns ++ x ∷ []) s ≡ cond (nat_eq x.symbol.number s) (Some x.element) (latest_of o ns s)
latest_push o [] x s = refl
latest_push o (n ∷ ns) x s = latest_push (cond (nat_eq n.symbol.number s) (Some n.element) o) ns x s

drop_push : {A : Type 0} (k : ℕ) (xs : List A) (x : A) → k ≤ length xs → drop k (xs ++ x ∷ []) ≡ drop k xs ++ x ∷ []
drop_push zero xs x h = refl
drop_push (suc k) [] x h = absurd (omega arith)
drop_push (suc k) (y ∷ ys) x h = drop_push k ys x (omega arith)

same_number : (x y : ℕ) → is_at (nat_cmp x) y ≡ nat_eq x y
same_number x y = by (nat_lt x y) (nat_eq x y) refl refl
  where
    by : (l e : Bool) → nat_lt x y ≡ l → nat_eq x y ≡ e → is_eq (cond l Less (cond e Equal Greater)) ≡ nat_eq x y
    by true e p q = grind (arith, nat_tests)
    by false true p q = sym q
    by false false p q = sym q

-- one more is marked
marked_more : {E : Type 0} (k : ℕ) (old new : BTreeMap ℕ E) (ns ms : List (Narrowed E)) (x : Narrowed E) → ((s : ℕ) → get nat_cmp new s ≡ cond (is_at (nat_cmp x.symbol.number) s) (Some x.element) (get nat_cmp old s)) → ms ≡ ns ++ x ∷ [] → k ≤ length ns → ((s : ℕ) → get nat_cmp old s ≡ latest_of None (drop k ns) s) → (k ≤ length ms) × ((s : ℕ) → get nat_cmp new s ≡ latest_of None (drop k ms) s)
marked_more k old new ns ms x h p l m =
    let more : length ms ≡ length ns + 1 = ap length p ∙ length-append ns (x ∷ []) in (
      omega (arith, more, l),
      λ s.
          h s ∙ ap (λ b. cond b (Some x.element) (get nat_cmp old s)) (same_number x.symbol.number s)
          ∙ ap (λ o. cond (nat_eq x.symbol.number s) (Some x.element) o) (m s)
          ∙ sym (ap (λ xs. latest_of None (drop k xs) s) p ∙ ap (λ xs. latest_of None xs s) (drop_push k ns x l) ∙ latest_push None (drop k ns) x s),
    )

pub marked_push : {E A B : Type 0} (r : Result A B) (k : ℕ) (old new : BTreeMap ℕ E) (ns ms : List (Narrowed E)) (x : Narrowed E) → is_err r ≡ false → OnOk r (Updates nat_cmp old new x.symbol.number (Some x.element)) → ms ≡ ns ++ x ∷ [] → (k ≤ length ns) × ((s : ℕ) → get nat_cmp old s ≡ latest_of None (drop k ns) s) → (k ≤ length ms) × ((s : ℕ) → get nat_cmp new s ≡ latest_of None (drop k ms) s)
marked_push (Err b) k old new ns ms x t u p a = absurd cc
marked_push (Ok v) k old new ns ms x t u p a = marked_more k old new ns ms x u.0 p a.0 a.1
