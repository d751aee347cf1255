-- What each reader's steps have in common.
use Rattle.std.proofs.Common.{◌≡◌, ℕ, zero, suc, ◌-◌, List, refl, ap, arith}
use Rattle.opencl_tokens.specs.Lexemes.{Lexeme}
use Rattle.opencl_parser.specs.Reader.{Attempt, carry}
use Rattle.opencl_parser.specs.View.{IsStopOf}
use Rattle.opencl_parser.specs.declared.stops.ParseError.{ParseError}
use Rattle.opencl_parser.specs.declared.stops.ParseError.TheVariants as errors

pub stops-carry : {A B : Type 0} (e : ParseError) (o : Attempt A) (next : A → List Lexeme → Attempt B) → IsStopOf e o → IsStopOf e (carry o next)
stops-carry (errors.At f s) o next h = ap (λ o. carry o next) h
stops-carry errors.Memory o next h = h

pub pred : (n : ℕ) → (n ≡ 0 → ⊥) → n ≡ suc (n - 1)
pred zero h = absurd (h refl)
pred (suc n) h = omega arith
