-- What holds of a value, where there is one.
use Rattle.std.proofs.Common.{◌≡◌, Bool, true, false, ◌&&◌, subst}
use Rattle.std.specs.Prelude.{Ok, Err}
use Rattle.semantics.specs.Core.{Site}
use Rattle.types.specs.TypeFaults.{TypeFault, Checked, then, when}

abbrev pub Holds : {A : Type 0} → (A → Type 0) → Checked A → Type 0
Holds P (Ok a) = P a
Holds P (Err e) = Unit {0}

abbrev pub Anything : {A : Type 0} → A → Type 0
Anything a = Unit {0}

pub then-holds : {A B : Type 0} (P : A → Type 0) (Q : B → Type 0) (a : Checked A) (go : A → Checked B) → Holds P a → ((x : A) → P x → Holds Q (go x)) → Holds Q (then a go)
then-holds P Q (Ok x) go h k = k x h
then-holds P Q (Err e) go h k = tt

pub anything : {A : Type 0} (a : Checked A) → Holds Anything a
anything (Ok x) = tt
anything (Err e) = tt

-- whatever the value
pub then-any : {A B : Type 0} (Q : B → Type 0) (a : Checked A) (go : A → Checked B) → ((x : A) → Holds Q (go x)) → Holds Q (then a go)
then-any Q a go k = then-holds Anything Q a go (anything a) (λ x p. k x)

pub when-holds : {A : Type 0} (P : A → Type 0) (b : Bool) (f : TypeFault) (site : Site) (a : A) → P a → Holds P (when b f site a)
when-holds P true f site a h = h
when-holds P false f site a h = tt

pub held : {A : Type 0} (P : A → Type 0) (c : Checked A) (a : A) → c ≡ Ok a → Holds P c → P a
held P c a e h = subst (Holds P) e h

pub both : (a b : Bool) → a ≡ true → b ≡ true → (a && b) ≡ true
both true b h k = k
both false b h k = h
