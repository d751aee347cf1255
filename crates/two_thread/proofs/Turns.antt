-- Lists of numbers, compared.
use Rattle.std.proofs.Common.{◌≡◌, ℕ, ◌+◌, ◌<◌, ◌≤◌, ◌&&◌, Bool, true, false, nat_eq, List, [], ◌∷◌, length, drop, get_or, refl, sym, ap, subst, ◌∙◌, reverse, eq-eqb}
use Rattle.std.proofs.Math.ListN.{drop_of_length-le}
use Rattle.std.proofs.lemmas.List.{reverse-reverse}
use Rattle.arrivals.specs.Places.{same_numbers}
use Rattle.arrivals.proofs.Members.{same_numbers-is}
use Rattle.two_thread.proofs.Growing.{front}

same_self : (l : List ℕ) → same_numbers l l ≡ true
same_self [] = refl
same_self (n ∷ l) = (λ i. eq-eqb n n refl i && same_numbers l l) ∙ same_self l

false_of : (b : Bool) → (b ≡ true → ⊥) → b ≡ false
false_of true h = absurd (h refl)
false_of false h = refl

-- turned round they are alike where they were
pub same_reverse : (l m : List ℕ) → same_numbers l m ≡ same_numbers (reverse l) (reverse m)
same_reverse l m = by (same_numbers l m) refl
  where
    by : (b : Bool) → same_numbers l m ≡ b → b ≡ same_numbers (reverse l) (reverse m)
    by true e = sym (ap (λ x. same_numbers (reverse l) (reverse x)) (sym (same_numbers-is l m e)) ∙ same_self (reverse l))
    by false e = sym (false_of (same_numbers (reverse l) (reverse m)) (λ h.
        let d : l ≡ m = sym (reverse-reverse l) ∙ ap reverse (same_numbers-is (reverse l) (reverse m) h) ∙ reverse-reverse m in
        cc (e, ap (λ x. same_numbers l x) (sym d) ∙ same_self l)))

pub unequal_lengths : (l m : List ℕ) → (length l ≡ length m → ⊥) → same_numbers l m ≡ false
unequal_lengths l m h = false_of (same_numbers l m) (λ e. h (ap length (same_numbers-is l m e)))

pub same_front : (l m : List ℕ) (i : ℕ) → i < length l → length l ≡ length m → same_numbers (drop i l) (drop i m) ≡ (nat_eq (get_or l i 0) (get_or m i 0) && same_numbers (drop (i + 1) l) (drop (i + 1) m))
same_front l m i h e = λ j. same_numbers (front l i 0 h j) (front m i 0 (subst (λ n. i < n) e h) j)

pub same_ends : (l m : List ℕ) (i : ℕ) → length l ≤ i → length l ≡ length m → same_numbers (drop i l) (drop i m) ≡ true
same_ends l m i h e = λ j. same_numbers (drop_of_length-le l h j) (drop_of_length-le m (subst (λ n. n ≤ i) e h) j)

pub same_differ : (l m : List ℕ) (i : ℕ) → i < length l → length l ≡ length m → (get_or l i 0 ≡ get_or m i 0 → ⊥) → same_numbers l m ≡ false
same_differ l m i h e d = false_of (same_numbers l m) (λ s. d (ap (λ x. get_or x i 0) (same_numbers-is l m s)))

pub same_here : (l m : List ℕ) (i : ℕ) → i < length l → length l ≡ length m → get_or l i 0 ≡ get_or m i 0 → same_numbers (drop i l) (drop i m) ≡ same_numbers (drop (i + 1) l) (drop (i + 1) m)
same_here l m i h e d = same_front l m i h e ∙ (λ j. eq-eqb (get_or l i 0) (get_or m i 0) d j && same_numbers (drop (i + 1) l) (drop (i + 1) m))
