-- Places of some kernels, computed: the text is above each, with F for CLK_LOCAL_MEM_FENCE. Tests and values are 0 here, since places
-- do not heed them.
use Rattle.std.proofs.Common.{◌≡◌, ℕ, true, false, List, [], ◌∷◌, map, Option, Some, None, refl}
use Rattle.std.specs.Prelude.{pos}
use Rattle.semantics.specs.Word.{Uint}
use Rattle.semantics.specs.Core.{Site, Array, Global, Term, Literal, Set, Store, If, Loop, Barrier, Return, Break, Continue, Statements, none, one, number}
use Rattle.arrivals.specs.Loops.{unmet}
use Rattle.arrivals.specs.Points.{Point}
use Rattle.arrivals.specs.Places.{Place, places}

abbrev zero_term : Term
zero_term = Literal Uint (pos 0)

abbrev site : Site
site = record { line = 1; column = 1 }

abbrev array : Array
array = record { space = Global; number = 0 }

abbrev name : Option Point → ℕ
name None = 0
name (Some p) = number p.statement

-- a place by the numbers of its barrier and its loop, 0 where there is none, and its list of loops turned
record Told : Type 0 where
  barrier : ℕ
  head : ℕ
  turns : Option (List ℕ)

abbrev tell : Place → Told
tell p = record { barrier = name p.anchor; head = name p.head; turns = p.turns }

abbrev told : ℕ → ℕ → Option (List ℕ) → Told
told b h t = record { barrier = b; head = h; turns = t }

-- uint l = get_local_id(0); uint k = 0u;
-- while (k < 3u) { if (k == 0u) { k += 1u; barrier(F); if (l == 0u) continue; } k += 1u; barrier(F); }
abbrev iteration_skipped : Statements
iteration_skipped = one (Set 1 0 zero_term) (one (Set 2 0 zero_term) (one (Loop 3 zero_term (one (If 4 zero_term (one (Set 5 0 zero_term) (one (Barrier 6 true false) (one (If 7 zero_term (one (Continue 8 3) (none)) (none)) (none)))) (none)) (one (Set 9 0 zero_term) (one (Barrier 10 true false) (none)))) (none)) (none)))

iteration_skipped-met : unmet iteration_skipped ≡ None
iteration_skipped-met = refl

iteration_skipped-places : map tell (places iteration_skipped) ≡ (told 0 0 (Some ([])) ∷ told 6 0 (Some ([])) ∷ told 10 0 (Some ([])) ∷ [])
iteration_skipped-places = refl

-- uint x = 0u;
-- for (x = 0u; x < 3u; x += 1u) {
--   for (uint j = 0u; j < 2u; j += 1u) a[j] = 1u;
--   barrier(F);
--   while (x < 2u) { if (x == 1u) { barrier(F); } else { x += 1u; barrier(F); } }
--   for (uint m = 0u; m < 2u; m += 1u) { if (m == 1u) break; }
-- }
abbrev nested : Statements
nested = one (Set 1 0 zero_term) (one (Set 3 0 zero_term) (one (Loop 2 zero_term (one (Set 6 0 zero_term) (one (Loop 5 zero_term (one (Store 8 array site zero_term zero_term) (none)) (one (Set 7 0 zero_term) (none))) (one (Barrier 9 true false) (one (Loop 10 zero_term (one (If 11 zero_term (one (Barrier 12 true false) (none)) (one (Set 13 0 zero_term) (one (Barrier 14 true false) (none)))) (none)) (none)) (one (Set 16 0 zero_term) (one (Loop 15 zero_term (one (If 18 zero_term (one (Break 19 15) (none)) (none)) (none)) (one (Set 17 0 zero_term) (none))) (none))))))) (one (Set 4 0 zero_term) (none))) (none)))

nested-met : unmet nested ≡ None
nested-met = refl

nested-places : map tell (places nested) ≡ (told 0 0 (Some ([])) ∷ told 0 5 (Some (2 ∷ [])) ∷ told 9 0 (Some ([])) ∷ told 9 5 (Some (2 ∷ [])) ∷ told 9 15 (Some ([])) ∷ told 12 0 (Some ([])) ∷ told 12 5 (Some (2 ∷ [])) ∷ told 12 15 (Some ([])) ∷ told 14 0 (Some ([])) ∷ told 14 5 (Some (2 ∷ [])) ∷ told 14 15 (Some ([])) ∷ [])
nested-places = refl

-- uint x = 0u;
-- while (x < 9u) {
--   while (x < 3u) { x += 1u; if (x == 2u) break; barrier(F); }
--   for (uint j = 0u; j < 2u; j += 1u) x += 1u;
--   barrier(F);
-- }
-- if (x == 9u) return;
-- while (x < 12u) x += 1u;
abbrev left_early : Statements
left_early = one (Set 1 0 zero_term) (one (Loop 2 zero_term (one (Loop 3 zero_term (one (Set 4 0 zero_term) (one (If 5 zero_term (one (Break 6 3) (none)) (none)) (one (Barrier 7 true false) (none)))) (none)) (one (Set 9 0 zero_term) (one (Loop 8 zero_term (one (Set 11 0 zero_term) (none)) (one (Set 10 0 zero_term) (none))) (one (Barrier 12 true false) (none))))) (none)) (one (If 13 zero_term (one (Return 14) (none)) (none)) (one (Loop 15 zero_term (one (Set 16 0 zero_term) (none)) (none)) (none))))

left_early-met : unmet left_early ≡ None
left_early-met = refl

left_early-places : map tell (places left_early) ≡ (told 0 0 (Some ([])) ∷ told 0 8 None ∷ told 0 15 (Some ([])) ∷ told 7 0 (Some ([])) ∷ told 7 8 None ∷ told 12 0 (Some ([])) ∷ told 12 8 None ∷ told 12 15 (Some ([])) ∷ [])
left_early-places = refl

-- uint x = 0u; while (x < 3u) { if (x == 1u) { barrier(F); } x += 1u; }
abbrev slips : Statements
slips = one (Set 1 0 zero_term) (one (Loop 2 zero_term (one (If 3 zero_term (one (Barrier 4 true false) (none)) (none)) (one (Set 5 0 zero_term) (none))) (none)) (none))

slips-met : unmet slips ≡ Some 2
slips-met = refl
