-- What ways come to, one after another.
use Rattle.std.proofs.Common.{◌≡◌, ℕ, Bool, true, false, ◌&&◌, min, refl, ap, ◌∙◌, arith}
use Rattle.std.specs.Prelude.{Option, Some, None}
use Rattle.sound_cores.specs.Unset.{Ways, earlier, steps, follows, either, turns}

earlier-none : (a : Option ℕ) → earlier a None ≡ a
earlier-none None = refl
earlier-none (Some n) = refl

pub earlier-assoc : (a b c : Option ℕ) → earlier (earlier a b) c ≡ earlier a (earlier b c)
earlier-assoc None b c = refl
earlier-assoc (Some m) None c = refl
earlier-assoc (Some m) (Some n) None = refl
earlier-assoc (Some m) (Some n) (Some k) = let e : min (min m n) k ≡ min m (min n k) = omega arith in ap Some e

and-true : (a : Bool) → (a && true) ≡ a
and-true true = refl
and-true false = refl

and-assoc : (a b c : Bool) → ((a && b) && c) ≡ (a && (b && c))
and-assoc true b c = refl
and-assoc false b c = refl

-- nothing behind changes nothing
pub follows-end : (a : Ways) → follows a (steps None a.after) ≡ a
follows-end a = rw (earlier-none a.unset, and-true a.broken, and-true a.continued) refl

pub follows-assoc : (a b c : Ways) → follows (follows a b) c ≡ follows a (follows b c)
follows-assoc a b c = rw (earlier-assoc a.unset b.unset c.unset, and-assoc a.broken b.broken c.broken, and-assoc a.continued b.continued c.continued) refl

pub either-same : {t u : Option ℕ} {a b c d : Ways} → t ≡ u → a ≡ c → b ≡ d → either t a b ≡ either u c d
either-same {t} {u} {a} {b} {c} {d} e f g = ap (λ x. either x a b) e ∙ (ap (λ x. either u x b) f ∙ ap (either u c) g)

pub turns-same : {t u : Option ℕ} {p q : Bool} (set : Bool) {a b c d : Ways} → t ≡ u → p ≡ q → a ≡ c → b ≡ d → turns t p set a b ≡ turns u q set c d
turns-same {t} {u} {p} {q} set {a} {b} {c} {d} e h f g = ap (λ x. turns x p set a b) e ∙ (ap (λ x. turns u x set a b) h ∙ (ap (λ x. turns u q set x b) f ∙ ap (turns u q set c) g))
