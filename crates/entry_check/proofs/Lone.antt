-- Accesses of which none gives a crossing with itself.
use Rattle.std.proofs.Common.{◌≡◌, ℕ, suc, ◌+◌, ◌<◌, List, [], ◌∷◌, ◌++◌, drop, length, nat_eq, Bool, true, false, ◌&&◌, ◌||◌, refl, sym, ap, ◌∙◌, arith}
use Rattle.std.proofs.lemmas.Bool.Decides.{nat_tests}
use Rattle.std.specs.Prelude.{Option, None, Some}
use Rattle.std.proofs.lemmas.Bool.{and_parts}
use Rattle.walk_trees.specs.Pairs.{Scope, Within, Across, where_so}
use Rattle.walk_trees.specs.Trees.{Access}
use Rattle.obligations.specs.Crossings.{Crossing, all_orders, conflict, crossings_in, is_array, may_meet, two_orders, with_each, with_one}
use Rattle.obligations.specs.Listing.{Of}
use Rattle.obligations.specs.Meetings.{same_anchor}
use Rattle.two_thread.specs.Paths.{no_access}
use Rattle.two_thread.specs.View.{nth_access, scope, sought_array}
use Rattle.two_thread.specs.declared.crossings.Sought.{Sought}
use Rattle.walk.specs.Cursors.{conditions_of, kernel_of}
use Rattle.walk.specs.declared.terrain.Terrain.{Terrain}
use Rattle.entry_check.specs.Pairs.{all_lone, crossings_sought, lone}
use Rattle.entry_check.proofs.Taking.{next_at}

over_zero : (n : ℕ) → nat_eq (suc n) 0 ≡ true → ⊥
over_zero n h = let e : suc n ≡ 0 = grind (arith, nat_tests) in absurd (omega (arith, e))

-- how many crossings two accesses have heeds neither
module _ {E : Type 0} (u v : Of (Access E)) (s : Scope) (alike : Bool) where
  orders_none : (a b c : Bool) → nat_eq (length (two_orders a u u s alike 0 ++ (two_orders b u u s alike 1 ++ two_orders c u u s alike 2))) 0 ≡ true → two_orders a u v s alike 0 ++ (two_orders b u v s alike 1 ++ two_orders c u v s alike 2) ≡ []
  orders_none false false false h = refl
  orders_none false false true h = absurd (over_zero 1 h)
  orders_none false true c h = absurd (over_zero _ h)
  orders_none true b c h = absurd (over_zero _ h)

  orders_back : (a b c : Bool) → nat_eq (length (two_orders a v v s alike 0 ++ (two_orders b v v s alike 1 ++ two_orders c v v s alike 2))) 0 ≡ true → two_orders a u v s alike 0 ++ (two_orders b u v s alike 1 ++ two_orders c u v s alike 2) ≡ []
  orders_back false false false h = refl
  orders_back false false true h = absurd (over_zero 1 h)
  orders_back false true c h = absurd (over_zero _ h)
  orders_back true b c h = absurd (over_zero _ h)

same_self : (a : Option ℕ) → same_anchor a a ≡ true
same_self None = refl
same_self (Some n) = nat_self n
  where
    nat_self : (k : ℕ) → nat_eq k k ≡ true
    nat_self k = grind (arith, nat_tests)

meets_self : (fenced : Bool) (s : Scope) (a : Option ℕ) → may_meet fenced s a a ≡ true
meets_self true Within a = same_self a
meets_self true Across a = refl
meets_self false s a = refl

both_load : (a b p q : Bool) → (a && (a && (p || p))) ≡ false → (b && (b && (q || q))) ≡ false → (a && (b && (p || q))) ≡ false
both_load false b p q h k = refl
both_load true false p q h k = refl
both_load true true false false h k = refl
both_load true true true q h k = absurd cc
both_load true true false true h k = absurd cc

none_where : {A : Type 0} (b : Bool) (xs : List A) → xs ≡ [] → where_so b xs ≡ []
none_where true xs e = e
none_where false xs e = refl

not_where : {A : Type 0} (b m : Bool) (xs : List A) → b ≡ false → where_so (b && m) xs ≡ []
not_where true m xs e = absurd cc
not_where false m xs e = refl

-- an access that is alone is no store to the array, or no two items differ
stores_or_none : {A : Type 0} (c m : Bool) (xs : List A) → m ≡ true → nat_eq (length (where_so (c && m) xs)) 0 ≡ true → c ≡ true → nat_eq (length xs) 0 ≡ true
stores_or_none true true xs e h k = h
stores_or_none true false xs e h k = absurd cc
stores_or_none false m xs e h k = absurd cc

module _ {E : Type 0} (t : Terrain E) (s : Sought) where
  two_lone : (u v : Of (Access E)) → lone t s u ≡ true → lone t s v ≡ true → with_one (kernel_of t).sizes (conditions_of t) s.fenced (sought_array s) (scope s.scope) u v ≡ []
  two_lone u v h k = by_stores (conflict (sought_array s) u u) (conflict (sought_array s) v v) refl refl
    where
      orders : Of (Access E) → Of (Access E) → List (Crossing E)
      orders x y = all_orders (kernel_of t).sizes (conditions_of t) (scope s.scope) s.fenced x y

      own : (x : Of (Access E)) → lone t s x ≡ true → conflict (sought_array s) x x ≡ true → nat_eq (length (orders x x)) 0 ≡ true
      own x l c = stores_or_none (conflict (sought_array s) x x) (may_meet s.fenced (scope s.scope) x.anchor x.anchor) (orders x x) (meets_self s.fenced (scope s.scope) x.anchor) l c

      by_stores : (a b : Bool) → conflict (sought_array s) u u ≡ a → conflict (sought_array s) v v ≡ b → with_one (kernel_of t).sizes (conditions_of t) s.fenced (sought_array s) (scope s.scope) u v ≡ []
      by_stores true b c d = none_where (conflict (sought_array s) u v && may_meet s.fenced (scope s.scope) u.anchor v.anchor) (orders u v) (orders_none u v (scope s.scope) s.fenced _ _ _ (own u h c))
      by_stores false true c d = none_where (conflict (sought_array s) u v && may_meet s.fenced (scope s.scope) u.anchor v.anchor) (orders u v) (orders_back u v (scope s.scope) s.fenced _ _ _ (own v k d))
      by_stores false false c d = not_where (conflict (sought_array s) u v) (may_meet s.fenced (scope s.scope) u.anchor v.anchor) (orders u v) (both_load (is_array (sought_array s) u.it.target) (is_array (sought_array s) v.it.target) u.it.target.is_store v.it.target.is_store c d)

  each_lone : (u : Of (Access E)) (vs : List (Of (Access E))) → lone t s u ≡ true → all_lone t s vs ≡ true → with_each (kernel_of t).sizes (conditions_of t) s.fenced (sought_array s) (scope s.scope) u vs ≡ []
  each_lone u [] h k = refl
  each_lone u (v ∷ vs) h k =
      let p = and_parts (lone t s v) (all_lone t s vs) k in
      ap (λ l. l ++ with_each (kernel_of t).sizes (conditions_of t) s.fenced (sought_array s) (scope s.scope) u vs) (two_lone u v h p.0) ∙ each_lone u vs h p.1

  pub none_sought : (us : List (Of (Access E))) → all_lone t s us ≡ true → crossings_sought t s us ≡ []
  none_sought [] h = refl
  none_sought (u ∷ us) h =
      let p = and_parts (lone t s u) (all_lone t s us) h in
      ap (λ l. l ++ crossings_in (kernel_of t).sizes (conditions_of t) s.fenced (sought_array s) (scope s.scope) us) (each_lone u (u ∷ us) p.0 h) ∙ none_sought us p.1

  pub lone_both : (us vs : List (Of (Access E))) → all_lone t s (us ++ vs) ≡ (all_lone t s us && all_lone t s vs)
  lone_both [] vs = refl
  lone_both (u ∷ us) vs = ap (λ b. lone t s u && b) (lone_both us vs) ∙ apart (lone t s u) (all_lone t s us) (all_lone t s vs)
    where
      apart : (a b c : Bool) → (a && (b && c)) ≡ ((a && b) && c)
      apart true b c = refl
      apart false b c = refl

  pub lone_next : (us : List (Of (Access E))) (i : ℕ) (whole : Bool) → i < length us → lone t s (nth_access us i) ≡ true → all_lone t s (drop i us) ≡ whole → all_lone t s (drop (i + 1) us) ≡ whole
  lone_next us i whole h l e = sym (true_and (lone t s (nth_access us i)) (all_lone t s (drop (i + 1) us)) l) ∙ sym (ap (all_lone t s) (next_at us i no_access h)) ∙ e
    where
      true_and : (a b : Bool) → a ≡ true → (a && b) ≡ b
      true_and true b x = refl
      true_and false b x = absurd cc

  pub lone_not : (us : List (Of (Access E))) (i : ℕ) (whole : Bool) → i < length us → lone t s (nth_access us i) ≡ false → all_lone t s (drop i us) ≡ whole → whole ≡ false
  lone_not us i whole h l e = sym e ∙ ap (all_lone t s) (next_at us i no_access h) ∙ false_and (lone t s (nth_access us i)) (all_lone t s (drop (i + 1) us)) l
    where
      false_and : (a b : Bool) → a ≡ false → (a && b) ≡ false
      false_and true b x = absurd cc
      false_and false b x = refl
