-- Elements as keys of a map.
use Rattle.std.proofs.Common.{◌≡◌, ℕ, zero, suc, Bool, true, false, ◌&&◌, cond, refl, sym, ap, ◌∙◌, subst, arith, nat_eq}
use Rattle.std.specs.Prelude.{Option, Some, None, Result, Ok, Err, OnOk, OnErr}
use Rattle.std.specs.Option.{option_eq, unwrap_or, IsSome}
use Rattle.std.specs.HashMap.{get, Updates}
use Rattle.std.proofs.lemmas.Bool.Decides.{nat_tests}
use Rattle.semantics.specs.Memory.{Cell, same_cell}
use Rattle.semantics.proofs.Updates.{same_cell-is}
use Rattle.clashes.specs.Marks.{nothing}
use Rattle.clashes.specs.Elements.{group_in, key, same_key, seen_of, HasRoom}
use Rattle.clashes.specs.declared.seen.Seen.{Seen}
use Rattle.clashes.specs.declared.watch.Watch.{Watch}

turned : (x y : ℕ) → nat_eq x y ≡ nat_eq y x
turned x y = by (nat_eq x y) refl
  where
    by : (t : Bool) → nat_eq x y ≡ t → t ≡ nat_eq y x
    by true q = grind (arith, nat_tests)
    by false q = grind (arith, nat_tests)

same_owner : (o p : ℕ) → option_eq nat_eq (group_in o) (group_in p) ≡ nat_eq p o
same_owner zero zero = grind (arith, nat_tests)
same_owner zero (suc p) = grind (arith, nat_tests)
same_owner (suc o) zero = grind (arith, nat_tests)
same_owner (suc o) (suc p) = turned o p ∙ by (nat_eq p o) (nat_eq (suc p) (suc o)) refl refl
  where
    by : (s t : Bool) → nat_eq p o ≡ s → nat_eq (suc p) (suc o) ≡ t → s ≡ t
    by true true a b = refl
    by true false a b = absurd (grind (arith, nat_tests))
    by false true a b = absurd (grind (arith, nat_tests))
    by false false a b = refl

regroup : (a b c : Bool) → ((a && b) && c) ≡ (a && (b && c))
regroup true b c = refl
regroup false b c = refl

-- two keys are one where the elements are
pub same-key : (c d : Cell) → same_key (key c) (key d) ≡ same_cell d c
same-key c d = regroup (option_eq nat_eq (group_in c.owner) (group_in d.owner)) (nat_eq c.array d.array) (nat_eq c.index d.index) ∙ rw (same_owner c.owner d.owner, turned c.array d.array, turned c.index d.index) refl

by_test : (t : Bool) (o : Option Seen) (seen : Seen) → unwrap_or (cond t (Some seen) o) nothing ≡ cond t seen (unwrap_or o nothing)
by_test true o seen = refl
by_test false o seen = refl

updated : (old new : Watch) (c d : Cell) (seen : Seen) → Updates same_key old.seen new.seen (key c) (Some seen) → seen_of new d ≡ cond (same_cell d c) seen (seen_of old d)
updated old new c d seen u = ap (λ o. unwrap_or o nothing) (u.0 (key d)) ∙ by_test (same_key (key c) (key d)) (get same_key old.seen (key d)) seen ∙ ap (λ t. cond t seen (seen_of old d)) (same-key c d)

-- where there is room, nothing fails
pub put_seen : {A B : Type 0} (r : Result A B) (old new : Watch) (c d : Cell) (seen : Seen) → HasRoom old c → OnOk r (Updates same_key old.seen new.seen (key c) (Some seen)) → OnErr r (get same_key old.seen (key c) ≡ None) → seen_of new d ≡ cond (same_cell d c) seen (seen_of old d)
put_seen (Ok a) old new c d seen room u n = updated old new c d seen u
put_seen (Err e) old new c d seen room u n = let x = subst IsSome n room in cc

-- room alone changes nothing
pub room_seen : (old new : Watch) (c d : Cell) → get same_key old.seen (key c) ≡ None → Updates same_key old.seen new.seen (key c) (Some nothing) → seen_of new d ≡ seen_of old d
room_seen old new c d n u = updated old new c d nothing u ∙ by (same_cell d c) refl
  where
    by : (t : Bool) → same_cell d c ≡ t → cond t nothing (seen_of old d) ≡ seen_of old d
    by true e = sym (ap (λ (x : Cell). seen_of old x) (same_cell-is d c e) ∙ ap (λ o. unwrap_or o nothing) n)
    by false e = refl
