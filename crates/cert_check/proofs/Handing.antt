-- Answers and errors that are handed on.
use Rattle.std.specs.Prelude.{Result, Ok, Err, IfOk, IfErr}

-- what follows of an error's meaning
pub mapped : {T E : Type 0} (r : Result T E) (P Q : E → Type 0) → ((e : E) → P e → Q e) → IfErr r P → IfErr r Q
mapped (Ok t) P Q f h = tt
mapped (Err e) P Q f h = f e h

-- and of an answer's
pub follows : {T E : Type 0} (r : Result T E) (P Q : Type 0) → (P → Q) → IfOk r (λ _. P) → IfOk r (λ _. Q)
follows (Ok t) P Q f h = f h
follows (Err e) P Q f h = tt
