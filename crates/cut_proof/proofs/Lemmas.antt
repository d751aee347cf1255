-- Facts with what is known beside them, and lemmas, one by one.
use Rattle.std.proofs.Common.{◌≡◌, ℕ, zero, suc, ◌+◌, ◌<◌, ◌≤◌, Bool, true, false, ◌&&◌, List, [], ◌∷◌, ◌++◌, length, map, drop, drop-cons, add-one, get_or, append_assoc, arith, refl, ap, sym, ◌∙◌}
use Rattle.std.specs.Prelude.{None, Some, Result, Ok, Err, IfOk, IsTrue}
use Rattle.linear.specs.declared.form.Form.{Form}
use Rattle.linear.specs.Forms.{form, forms}
use Rattle.linear.specs.Linear.{IsImpossible}
use Rattle.linear.specs.Products.{within_i64, denial, IsImpossibleWithProducts}
use Rattle.linear.proofs.FormLists.{forms-append}
use Rattle.cut_proof.specs.Derivations as derivations
use Rattle.cut_proof.specs.Derivations.{Forms, entry, if_made, refutes_of, shows, refutes_with, are_without_products}
use Rattle.cut_proof.specs.View.{line, lemma}
use Rattle.cut_proof.specs.declared.Lemma.{Lemma}
use Rattle.cut_proof.proofs.Soundness.{refuted_with_products, refuted_without_products}
use Rattle.cut_proof.proofs.Entries.{no_more}

pub entry_before : (fs gs : Forms) (n : ℕ) → n ≤ length fs → entry (fs ++ gs) n ≡ entry fs n
entry_before fs gs zero h = refl
entry_before [] gs (suc n) h = absurd (omega arith)
entry_before (f ∷ fs) gs (suc zero) h = refl
entry_before (f ∷ fs) gs (suc (suc n)) h = entry_before fs gs (suc n) (omega arith)

pub entry_after : (fs gs : Forms) (n m : ℕ) → 0 < m → n ≡ length fs + m → entry (fs ++ gs) n ≡ entry gs m
entry_after [] gs n m h e = (let k : n ≡ m = omega arith in ap (entry gs) k)
entry_after (f ∷ fs) gs zero m h e = absurd (omega arith)
entry_after (f ∷ fs) gs (suc zero) m h e = absurd (omega arith)
entry_after (f ∷ fs) gs (suc (suc n)) m h e = entry_after fs gs (suc n) m h (omega arith)

one_more : (fs : Forms) (known more : List Form) (f : Form) → more ≡ known ++ f ∷ [] → fs ++ forms more ≡ (fs ++ forms known) ++ form f ∷ []
one_more fs known more f e = ap (λ ms. fs ++ forms ms) e ∙ ap (λ ms. fs ++ ms) (forms-append known (f ∷ [])) ∙ sym (append_assoc fs (forms known) (form f ∷ []))

-- what is found of a lemma's lines
pub shown : (fs : Forms) (known more : List Form) (d : Form) (l : Lemma) (b : Bool) → more ≡ known ++ d ∷ [] → Some (form d) ≡ within_i64 (denial (form l.form)) → b ≡ refutes_of (fs ++ forms more) (map line l.lines.items) → b ≡ shows (fs ++ forms known) (lemma l)
shown fs known more d l b m w e =
    e ∙ ap (λ g. refutes_of g (map line l.lines.items)) (one_more fs known more d m)
    ∙ ap (λ o. if_made o (λ g. refutes_of ((fs ++ forms known) ++ g ∷ []) (map line l.lines.items))) w

pub not_denied : (fs : Forms) (l : Lemma) → None ≡ within_i64 (denial (form l.form)) → false ≡ shows fs (lemma l)
not_denied fs l w = ap (λ o. if_made o (λ g. refutes_of (fs ++ g ∷ []) (map line l.lines.items))) w

next : (ls : List Lemma) (l : Lemma) (i : ℕ) → i < length ls → l ≡ get_or ls i l → drop i ls ≡ l ∷ drop (i + 1) ls
next ls l i h g = drop-cons ls i l h ∙ rw (sym g, add-one) refl

-- one lemma more
pub next_lemma : (fs : Forms) (known more : List Form) (f : Form) (ls : List Lemma) (l : Lemma) (i : ℕ) (lines : List derivations.Line) (all : Bool) → i < length ls → l ≡ get_or ls i l → true ≡ shows (fs ++ forms known) (lemma l) → more ≡ known ++ f ∷ [] → form f ≡ form l.form → refutes_with (fs ++ forms known) (map lemma (drop i ls)) lines ≡ all → refutes_with (fs ++ forms more) (map lemma (drop (i + 1) ls)) lines ≡ all
next_lemma fs known more f ls l i lines all h g s m e k =
    ap (λ gs. refutes_with gs (map lemma (drop (i + 1) ls)) lines) (one_more fs known more f m ∙ ap (λ x. (fs ++ forms known) ++ x ∷ []) e)
    ∙ ap (λ b. b && refutes_with ((fs ++ forms known) ++ form l.form ∷ []) (map lemma (drop (i + 1) ls)) lines) s
    ∙ ap (λ rest. refutes_with (fs ++ forms known) (map lemma rest) lines) (sym (next ls l i h g)) ∙ k

-- a lemma that is not shown
pub failing : (fs : Forms) (ls : List Lemma) (l : Lemma) (i : ℕ) (lines : List derivations.Line) (all : Bool) → i < length ls → l ≡ get_or ls i l → false ≡ shows fs (lemma l) → refutes_with fs (map lemma (drop i ls)) lines ≡ all → false ≡ all
failing fs ls l i lines all h g s k =
    ap (λ b. b && refutes_with (fs ++ form l.form ∷ []) (map lemma (drop (i + 1) ls)) lines) s
    ∙ ap (λ rest. refutes_with fs (map lemma rest) lines) (sym (next ls l i h g)) ∙ k

pub all_lemmas : (fs : Forms) (ls : List Lemma) (i : ℕ) (lines : List derivations.Line) (all : Bool) → length ls ≤ i → refutes_with fs (map lemma (drop i ls)) lines ≡ all → refutes_of fs lines ≡ all
all_lemmas fs ls i lines all h k = ap (λ rest. refutes_with fs (map lemma rest) lines) (sym (no_more ls i h)) ∙ k

-- where the last lines refute
pub if_refuted : {E : Type 0} (r : Result Bool E) (fs : Forms) (ls : List derivations.Lemma) (lines : List derivations.Line) (all : Bool) → all ≡ refutes_with fs ls lines → IfOk r (λ b. b ≡ all) → IfOk r (λ b. IsTrue b → are_without_products ls lines ≡ true → IsImpossible fs)
if_refuted (Ok b) fs ls lines all k e = λ h w. refuted_without_products fs ls lines w (sym k ∙ sym e ∙ h)
if_refuted (Err x) fs ls lines all k e = tt

pub if_refuted_with_products : {E : Type 0} (r : Result Bool E) (fs : Forms) (ls : List derivations.Lemma) (lines : List derivations.Line) (all : Bool) → all ≡ refutes_with fs ls lines → IfOk r (λ b. b ≡ all) → IfOk r (λ b. IsTrue b → IsImpossibleWithProducts fs)
if_refuted_with_products (Ok b) fs ls lines all k e = λ h. refuted_with_products fs ls lines (sym k ∙ sym e ∙ h)
if_refuted_with_products (Err x) fs ls lines all k e = tt
