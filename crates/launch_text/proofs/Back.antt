-- What an answer came from.
use Rattle.std.proofs.Common.{◌≡◌, ℕ, ◌≤◌, Bool, true, false, cond, nat_le, ◌&&◌, Option, None, Some, Ok, Err, refl, ap, sym, ◌∙◌, arith}
use Rattle.std.specs.Prelude.{ℤ, pos, negsuc}
use Rattle.std.proofs.lemmas.Bool.{cond_both}
use Rattle.std.proofs.lemmas.Bool.Decides.{nat_tests}
use Rattle.semantics.specs.Word.{Kind, Word, word, in_kind}
use Rattle.semantics.specs.Launch.{IsArgument}
use Rattle.launch_text.specs.LaunchFaults.{LaunchFault, Cursor, Step, refused, then, found}
use Rattle.launch_text.specs.LaunchWords.{number_at, natural_within, natural_at, word_within, word_at}

pub then_back : {A B : Type 0} (s : Step A) (go : A → Step B) (b : B) → then s go ≡ Ok b → (a : A) × (s ≡ Ok a) × (go a ≡ Ok b)
then_back (Ok a) go b e = (a, refl, e)
then_back (Err f) go b e = absurd cc

pub same_back : {A : Type 0} (a b : A) → (let s : Step A = Ok a in s ≡ Ok b) → a ≡ b
same_back a b e = cc

pub when_back : {A : Type 0} (h : Bool) (s : Step A) (f : LaunchFault) (c : Cursor) (a : A) → cond h s (refused f c) ≡ Ok a → (h ≡ true) × (s ≡ Ok a)
when_back true s f c a e = (refl, e)
when_back false s f c a e = absurd cc

pub unless_back : {A : Type 0} (h : Bool) (s : Step A) (f : LaunchFault) (c : Cursor) (a : A) → cond h (refused f c) s ≡ Ok a → (h ≡ false) × (s ≡ Ok a)
unless_back true s f c a e = absurd cc
unless_back false s f c a e = (refl, e)

pub found_back : {A : Type 0} (o : Option A) (f : LaunchFault) (c : Cursor) (t : A × Cursor) → found o f c ≡ Ok t → o ≡ Some t.0
found_back None f c t e = absurd cc
found_back (Some a) f c t e = let q : (a, c) ≡ t = cc in ap (λ r. Some r.0) q

both : (a b : Bool) → (a && b) ≡ true → (a ≡ true) × (b ≡ true)
both true true h = (refl, refl)
both true false h = absurd cc
both false b h = absurd cc

le : (a b : ℕ) → nat_le a b ≡ true → a ≤ b
le a b h = grind (arith, nat_tests)

within_back : (least most : ℕ) (z : ℤ) (n : ℕ) → natural_within least most z ≡ Some n → (least ≤ n) × (n ≤ most)
within_back least most (pos m) n =
    cond_both (nat_le least m && nat_le m most) (Some m) None (λ o. o ≡ Some n → (least ≤ n) × (n ≤ most))
    (λ h e. let q : m ≡ n = cc in let p = both (nat_le least m) (nat_le m most) h in (omega (arith, le least m p.0), omega (arith, le m most p.1)))
    (λ h e. absurd cc)
within_back least most (negsuc m) n = λ e. absurd cc

pub natural_back : (least most : ℕ) (c : Cursor) (t : ℕ × Cursor) → natural_at least most c ≡ Ok t → (least ≤ t.0) × (t.0 ≤ most)
unfolding natural_at
natural_back least most c t e =
    let n = then_back (number_at c) _ t e in
    within_back least most n.0.0 t.0 (found_back (natural_within least most n.0.0) _ n.0.1 t n.2)

kind_back : (k : Kind) (z : ℤ) (w : Word) → word_within k z ≡ Some w → IsArgument k w
kind_back k z w =
    cond_both (in_kind k z) (Some (word k z)) None (λ o. o ≡ Some w → IsArgument k w)
    (λ h e. let q : word k z ≡ w = cc in (ap (λ v. v.kind) (sym q), ap (λ v. in_kind k v.value) (sym q) ∙ h))
    (λ h e. absurd cc)

pub word_back : (k : Kind) (c : Cursor) (t : Word × Cursor) → word_at k c ≡ Ok t → IsArgument k t.0
unfolding word_at
word_back k c t e =
    let n = then_back (number_at c) _ t e in
    kind_back k n.0.0 t.0 (found_back (word_within k n.0.0) _ n.0.1 t n.2)
