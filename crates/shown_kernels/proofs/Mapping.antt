-- What holds of a value, where more follows of it.
use Rattle.std.specs.Prelude.{Ok, Err}
use Rattle.types.specs.TypeFaults.{Checked}
use Rattle.shown_kernels.proofs.Holding.{Holds}

pub mapped : {A : Type 0} (P Q : A → Type 0) (c : Checked A) → ((a : A) → P a → Q a) → Holds P c → Holds Q c
mapped P Q (Ok a) f h = f a h
mapped P Q (Err e) f h = tt
