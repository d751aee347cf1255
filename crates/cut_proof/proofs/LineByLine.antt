-- Lines of a derivation, one after the other, and what they have made.
use Rattle.std.proofs.Common.{◌≡◌, ℕ, zero, suc, ◌+◌, ◌<◌, Bool, false, List, [], ◌∷◌, length, map, drop, drop-cons, add-one, get_or, arith, refl, ap, sym, ◌∙◌, subst}
use Rattle.std.specs.Prelude.{None, Some}
use Rattle.cut_proof.specs.Derivations as derivations
use Rattle.cut_proof.specs.Derivations.{Forms, entry, refutes_from}
use Rattle.cut_proof.specs.View.{line, made_form}
use Rattle.cut_proof.specs.declared.Line.{Line}
use Rattle.cut_proof.specs.declared.Made.{Made}

pub made_none : (ms : List Made) (n : ℕ) → length ms < n → entry (map made_form ms) n ≡ None
made_none ms zero h = absurd (omega arith)
made_none [] (suc n) h = refl
made_none (m ∷ ms) (suc zero) h = absurd (omega arith)
made_none (m ∷ ms) (suc (suc n)) h = made_none ms (suc n) (omega arith)

pub made_is : (ms : List Made) (n i : ℕ) (d : Made) → n ≡ i + 1 → i < length ms → entry (map made_form ms) n ≡ Some (made_form (get_or ms i d))
made_is ms zero i d e h = absurd (omega arith)
made_is [] (suc n) i d e h = absurd (omega arith)
made_is (m ∷ ms) (suc zero) zero d e h = refl
made_is (m ∷ ms) (suc zero) (suc i) d e h = absurd (omega arith)
made_is (m ∷ ms) (suc (suc n)) zero d e h = absurd (omega arith)
made_is (m ∷ ms) (suc (suc n)) (suc i) d e h = made_is ms (suc n) i d (omega arith) (omega arith)

-- the next one of the lines
first_left : (i : ℕ) (ls : List Line) (l : Line) → i < length ls → l ≡ get_or ls i l → drop i ls ≡ l ∷ drop (i + 1) ls
first_left i ls l h g = drop-cons ls i l h ∙ rw (sym g, add-one) refl

pub goes_on : (before facts made made' : Forms) (answer answer' all : Bool) (i : ℕ) (ls : List Line) (l : Line) → i < length ls → l ≡ get_or ls i l → before ≡ facts → ((ks : List derivations.Line) → refutes_from before made answer (line l ∷ ks) ≡ refutes_from before made' answer' ks) → refutes_from facts made answer (map line (drop i ls)) ≡ all → refutes_from facts made' answer' (map line (drop (i + 1) ls)) ≡ all
goes_on before facts made made' answer answer' all i ls l h g e a k =
    let ks = map line (drop (i + 1) ls) in
    sym (subst (λ fs. refutes_from fs made answer (line l ∷ ks) ≡ refutes_from fs made' answer' ks) e (a ks))
    ∙ ap (λ xs. refutes_from facts made answer (map line xs)) (sym (first_left i ls l h g)) ∙ k

pub stops : (before facts made : Forms) (answer all : Bool) (i : ℕ) (ls : List Line) (l : Line) → i < length ls → l ≡ get_or ls i l → before ≡ facts → ((ks : List derivations.Line) → refutes_from before made answer (line l ∷ ks) ≡ false) → refutes_from facts made answer (map line (drop i ls)) ≡ all → false ≡ all
stops before facts made answer all i ls l h g e a k =
    let ks = map line (drop (i + 1) ls) in
    sym (subst (λ fs. refutes_from fs made answer (line l ∷ ks) ≡ false) e (a ks))
    ∙ ap (λ xs. refutes_from facts made answer (map line xs)) (sym (first_left i ls l h g)) ∙ k
