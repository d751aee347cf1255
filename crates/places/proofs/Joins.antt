-- Lists with which a head is reached, on two ways and behind turns.
use Rattle.std.proofs.Common.{◌≡◌, ℕ, Bool, true, false, nat_eq, cond, List, [], ◌∷◌, ◌++◌, length, refl, sym, ap, ◌∙◌, eq-eqb, subst}
use Rattle.std.proofs.lemmas.List.{append_assoc, append-nil, append_cancel_right}
use Rattle.arrivals.specs.Places.{Reach, same_numbers, Lists, NoList, OneList, TwoLists, with_list, lists_of}
use Rattle.arrivals.proofs.Members.{same_numbers-is}
use Rattle.places.specs.Reaching.{join, after}

same_numbers-self : (a : List ℕ) → same_numbers a a ≡ true
same_numbers-self [] = refl
same_numbers-self (n ∷ ns) = rw (eq-eqb n n refl) (same_numbers-self ns)

-- what two lists both have behind them is no matter
same_numbers-append : (a b l : List ℕ) → same_numbers (a ++ l) (b ++ l) ≡ same_numbers a b
same_numbers-append a b l = by (same_numbers a b) refl (same_numbers (a ++ l) (b ++ l)) refl
  where
    by : (x : Bool) → same_numbers a b ≡ x → (y : Bool) → same_numbers (a ++ l) (b ++ l) ≡ y → same_numbers (a ++ l) (b ++ l) ≡ same_numbers a b
    by true e true f = f ∙ sym e
    by true e false f = let h : same_numbers (a ++ l) (b ++ l) ≡ true = subst (λ c. same_numbers (a ++ l) (c ++ l) ≡ true) (same_numbers-is a b e) (same_numbers-self (a ++ l)) in cc
    by false e true f = let h : same_numbers a b ≡ true = subst (λ c. same_numbers a c ≡ true) (append_cancel_right a b l (same_numbers-is (a ++ l) (b ++ l) f)) (same_numbers-self a) in cc
    by false e false f = f ∙ sym e

-- a list twice is no other than once
twice : (l : List ℕ) (a : Lists) → with_list l (with_list l a) ≡ with_list l a
twice l NoList = rw (same_numbers-self l) refl
twice l (OneList m) = by (same_numbers l m) refl
  where
    by : (x : Bool) → same_numbers l m ≡ x → with_list l (with_list l (OneList m)) ≡ with_list l (OneList m)
    by true e = rw (e, e) refl
    by false e = rw e refl
twice l TwoLists = refl

-- two different lists are two, whatever else there is
differ : (l m : List ℕ) (a : Lists) → same_numbers l m ≡ false → with_list l (with_list m a) ≡ TwoLists
differ l m NoList h = rw h refl
differ l m (OneList k) h = by (same_numbers m k) refl
  where
    by : (x : Bool) → same_numbers m k ≡ x → with_list l (with_list m (OneList k)) ≡ TwoLists
    by true e = let f : same_numbers l k ≡ false = subst (λ c. same_numbers l c ≡ false) (same_numbers-is m k e) h in rw (e, f) refl
    by false e = rw e refl
differ l m TwoLists h = refl

with_list-join : (l : List ℕ) (a b : Lists) → with_list l (join a b) ≡ join (with_list l a) b
with_list-join l NoList b = refl
with_list-join l (OneList m) b = by (same_numbers l m) refl
  where
    by : (x : Bool) → same_numbers l m ≡ x → with_list l (with_list m b) ≡ join (cond (same_numbers l m) (OneList m) TwoLists) b
    by true e = rw e (subst (λ c. with_list c (with_list m b) ≡ with_list m b) (sym (same_numbers-is l m e)) (twice m b))
    by false e = rw e (differ l m b e)
with_list-join l TwoLists b = refl

pub lists-append : (n : ℕ) (xs ys : List Reach) → lists_of n (xs ++ ys) ≡ join (lists_of n xs) (lists_of n ys)
lists-append n [] ys = refl
lists-append n (r ∷ xs) ys = by (nat_eq r.loop n) (lists-append n xs ys)
  where
    by : (x : Bool) → lists_of n (xs ++ ys) ≡ join (lists_of n xs) (lists_of n ys) → cond x (with_list r.turns (lists_of n (xs ++ ys))) (lists_of n (xs ++ ys)) ≡ join (cond x (with_list r.turns (lists_of n xs)) (lists_of n xs)) (lists_of n ys)
    by true h = ap (with_list r.turns) h ∙ with_list-join r.turns (lists_of n xs) (lists_of n ys)
    by false h = h

pub after-join : (a b : Lists) (l : List ℕ) → join (after a l) (after b l) ≡ after (join a b) l
after-join NoList b l = refl
after-join (OneList m) NoList l = refl
after-join (OneList m) (OneList k) l = rw (same_numbers-append m k l) (by (same_numbers m k))
  where
    by : (x : Bool) → cond x (OneList (k ++ l)) TwoLists ≡ after (cond x (OneList k) TwoLists) l
    by true = refl
    by false = refl
after-join (OneList m) TwoLists l = refl
after-join TwoLists b l = refl

pub after-one : (a : Lists) (m : ℕ) (l : List ℕ) → after a (m ∷ l) ≡ after (after a (m ∷ [])) l
after-one NoList m l = refl
after-one (OneList k) m l = ap OneList (sym (append_assoc k (m ∷ []) l))
after-one TwoLists m l = refl

pub after-none : (a : Lists) → after a [] ≡ a
after-none NoList = refl
after-none (OneList l) = ap OneList (append-nil l)
after-none TwoLists = refl

pub unlike : (a b : List ℕ) → (length a ≡ length b → ⊥) → false ≡ same_numbers a b
unlike a b h = by (same_numbers a b) refl
  where
    by : (x : Bool) → same_numbers a b ≡ x → false ≡ same_numbers a b
    by true e = absurd (h (ap length (same_numbers-is a b e)))
    by false e = sym e
