-- The code's lists of forms, entry by entry.
use Rattle.std.proofs.Common.{◌≡◌, ℕ, zero, suc, ◌+◌, ◌<◌, ◌≤◌, ◌==◌, Bool, true, false, ◌&&◌, List, [], ◌∷◌, length, map, drop, get_or, arith, refl, ap, sym, ◌∙◌}
use Rattle.std.specs.Prelude.{None, Some, ℤ}
use Rattle.std.specs.Int.{is_negative}
use Rattle.std.proofs.lemmas.Bool.Decides.{nat_tests}
use Rattle.linear.specs.Linear as semantics
use Rattle.linear.specs.declared.form.Form.{Form}
use Rattle.linear.specs.declared.term.Term.{Term}
use Rattle.linear.specs.Terms.{terms}
use Rattle.linear.specs.Forms.{form, forms}
use Rattle.cut_proof.specs.Derivations.{Forms, entry, is_none, refutes_from, refutes_of}
use Rattle.cut_proof.specs.View.{line}
use Rattle.cut_proof.specs.declared.Line.{Line}

pub entry_none : (fs : List Form) (n : ℕ) → length fs < n → entry (forms fs) n ≡ None
entry_none fs zero h = absurd (omega arith)
entry_none [] (suc n) h = refl
entry_none (f ∷ fs) (suc zero) h = absurd (omega arith)
entry_none (f ∷ fs) (suc (suc n)) h = entry_none fs (suc n) (omega arith)

pub entry_is : (fs : List Form) (n i : ℕ) (d : Form) → n ≡ i + 1 → i < length fs → entry (forms fs) n ≡ Some (form (get_or fs i d))
entry_is fs zero i d e h = absurd (omega arith)
entry_is [] (suc n) i d e h = absurd (omega arith)
entry_is (f ∷ fs) (suc zero) zero d e h = refl
entry_is (f ∷ fs) (suc zero) (suc i) d e h = absurd (omega arith)
entry_is (f ∷ fs) (suc (suc n)) zero d e h = absurd (omega arith)
entry_is (f ∷ fs) (suc (suc n)) (suc i) d e h = entry_is fs (suc n) i d (omega arith) (omega arith)

some_length : (ts : List Term) → false ≡ (suc (length ts) == 0)
some_length ts = grind (arith, nat_tests)

pub terms_end : (ts : List Term) (us : List (semantics.Weighted ℕ)) → terms ts ≡ us → is_none us ≡ (length ts == 0)
terms_end [] us e = ap is_none (sym e)
terms_end (t ∷ ts) us e = ap is_none (sym e) ∙ some_length ts

pub alone : (ts : List Term) (us : List (semantics.Weighted ℕ)) (r k : ℤ) (b : Bool) → terms ts ≡ us → b ≡ (length ts == 0) → b ≡ true → r ≡ k → is_negative r ≡ (is_none us && is_negative k)
alone ts us r k b e f g h = rw (terms_end ts us e ∙ sym f ∙ g) (ap is_negative h)

pub not_alone : (ts : List Term) (us : List (semantics.Weighted ℕ)) (k : ℤ) (b : Bool) → terms ts ≡ us → b ≡ (length ts == 0) → b ≡ false → b ≡ (is_none us && is_negative k)
not_alone ts us k b e f g = rw (terms_end ts us e ∙ sym f ∙ g) g

pub no_more : {A : Type 0} (ls : List A) (i : ℕ) → length ls ≤ i → drop i ls ≡ []
no_more [] zero h = refl
no_more [] (suc i) h = refl
no_more (l ∷ ls) zero h = absurd (omega arith)
no_more (l ∷ ls) (suc i) h = no_more ls i (omega arith)

pub over : (facts made : Forms) (answer : Bool) (i : ℕ) (ls : List Line) → length ls ≤ i → refutes_from facts made answer (map line (drop i ls)) ≡ refutes_of facts (map line ls) → answer ≡ refutes_of facts (map line ls)
over facts made answer i ls h e = ap (λ l. refutes_from facts made answer (map line l)) (sym (no_more ls i h)) ∙ e
