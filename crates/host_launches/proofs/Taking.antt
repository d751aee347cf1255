-- What nothing refuses, part by part.
use Rattle.std.proofs.Common.{◌≡◌, ◌≢◌, ℕ, ◌≤◌, ◌<◌, Bool, true, false, Result, Ok, Err, refl, arith, sym, ◌∙◌}
use Rattle.std.specs.Prelude.{◌&&◌, not, nat_eq, nat_le, nat_lt}
use Rattle.std.proofs.lemmas.Bool.Decides.{nat_tests}
use Rattle.host_launches.specs.declared.given.Refusal.{Refusal}
use Rattle.host_launches.specs.Refusing.{on, when}

pub on-ok : {A B : Type 0} (a : Result A Refusal) (f : A → Result B Refusal) (b : B) → on a f ≡ Ok b → (x : A) × (a ≡ Ok x) × (f x ≡ Ok b)
on-ok (Ok x) f b h = (x, refl, h)
on-ok (Err e) f b h = cc

pub when-ok : {A : Type 0} (t : Bool) (n p : ℕ) (next : Result A Refusal) (a : A) → when t n p next ≡ Ok a → (t ≡ true) × (next ≡ Ok a)
when-ok true n p next a h = (refl, h)
when-ok false n p next a h = cc

pub both : (a b : Bool) → (a && b) ≡ true → (a ≡ true) × (b ≡ true)
both true true h = (refl, refl)
both true false h = cc
both false b h = cc

pub equal : (m n : ℕ) → nat_eq m n ≡ true → m ≡ n
equal m n h = grind (arith, nat_tests)

pub within : (m n : ℕ) → nat_le m n ≡ true → m ≤ n
within m n h = grind (arith, nat_tests)

pub below : (m n : ℕ) → nat_lt m n ≡ true → m < n
below m n h = grind (arith, nat_tests)

pub not-zero : (n : ℕ) → not (nat_eq n 0) ≡ true → n ≢ 0
not-zero n h e = grind (arith, nat_tests)
