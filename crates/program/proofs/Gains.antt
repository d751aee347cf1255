-- What a writer gains.
use Rattle.std.proofs.Common.{◌+◌, ◌-◌, ℕ, List, length, take, drop, sym, subst}
use Rattle.std.specs.Prelude.{Option}
use Rattle.std.specs.Io.KnownBytes.{Appends}
use Rattle.std.proofs.KnownBytes.{Appends-trans}
use Rattle.std.proofs.lemmas.List.{take_rest}
use Rattle.std.proofs.Math.Seq.{take-add}

-- a front of a text, and then the first bytes of the rest
pub gained : (a b c : Option (List ℕ)) (text : List ℕ) (at n : ℕ) → Appends a b (take at text) → Appends b c (take n (take (length text - at) (drop at text))) → Appends a c (take (at + n) text)
gained a b c text at n p q =
    subst (Appends a c) (sym (take-add at n text)) (Appends-trans a b c _ _ p (subst (λ l. Appends b c (take n l)) (take_rest text at) q))
