-- Each line of a derivation is at least 0 wherever the facts are (Chvátal; Cook, Coullard and Turán 1987).
use Rattle.std.proofs.Common.{◌≡◌, ℕ, zero, suc, Bool, true, false, cond, ◌&&◌, List, [], ◌∷◌, ◌++◌, arith, refl, sym, subst, ◌∙◌, nat_lt}
use Rattle.std.specs.Prelude.{Option, None, Some, ℤ, pos, negsuc, ◌+ℤ◌, ◌-ℤ◌, ◌<ℤ◌, ◌≤ℤ◌}
use Rattle.std.specs.Int.{is_positive, is_negative}
use Rattle.std.specs.List.{All}
use Rattle.std.proofs.lemmas.Int.{ints}
use Rattle.std.proofs.lemmas.List.Elements.{All-head, All-tail, All-push, All-nil}
use Rattle.linear.specs.Linear.{Form, Weighted, value_of, terms_value, IsMet, IsImpossible}
use Rattle.semantics.proofs.Integers.{mul-add, weighted}
use Rattle.linear.specs.Exact.{sum, multiple, all_divide, fits}
use Rattle.linear.specs.Products.{and_then, within_i64, IsMultiplicative, IsImpossibleWithProducts, denial}
use Rattle.linear.proofs.Multiplying.{value_product}
use Rattle.linear.proofs.Merging.{value-merge, value-multiples}
use Rattle.linear.proofs.Results.{value_difference}
use Rattle.linear.proofs.Quotients.{met-quotient}
use Rattle.cut_proof.specs.Derivations.{Line, Given, Sum, Divide, Product, Forms, entry, add_part, add_parts, nothing, sum_line, divided_line, product_line, line_form, is_none, is_contradiction, if_made, refutes_from, refutes_of, Lemma, shows, refutes_with, is_linear, are_linear, are_without_products}

true≢false : true ≡ false → ⊥
true≢false e = subst (λ b. cond b (Unit {0}) ⊥) e tt

gives : (o : Option (Form ℕ)) (go : Form ℕ → Option (Form ℕ)) (g : Form ℕ) → and_then o go ≡ Some g → (f : Form ℕ) × (o ≡ Some f) × (go f ≡ Some g)
gives None go g h = absurd cc
gives (Some f) go g h = (f, refl, h)

tested : (b : Bool) (o : Option (Form ℕ)) (g : Form ℕ) → cond b o None ≡ Some g → (b ≡ true) × (o ≡ Some g)
tested true o g h = (refl, h)
tested false o g h = absurd cc

same : (f g : Form ℕ) → Some f ≡ Some g → f ≡ g
same f g h = cc

positive : (z : ℤ) → is_positive z ≡ true → pos 0 <ℤ z
positive z h = grind (arith, ints)

at_least : (z : ℤ) → pos 0 <ℤ z → pos 0 ≤ℤ z
at_least z h = omega (arith, ints)

met-sum : (v : ℕ → ℤ) (f g : Form ℕ) → IsMet v f → IsMet v g → IsMet v (sum f g)
met-sum v f g p q = omega (arith, ints, p, q, value-merge v f.terms g.terms)

met-multiple : (v : ℕ → ℤ) (k : ℤ) (f : Form ℕ) → pos 0 <ℤ k → IsMet v f → IsMet v (multiple k f)
met-multiple v k f hk p = omega (arith, ints, weighted k (value_of v f) (at_least k hk) p, value-multiples v k f.terms, mul-add k (terms_value v f.terms) f.constant)

met-entry : (v : ℕ → ℤ) (fs : Forms) (n : ℕ) (f : Form ℕ) → All (IsMet v) fs → entry fs n ≡ Some f → IsMet v f
met-entry v fs zero f m h = absurd cc
met-entry v [] (suc n) f m h = absurd cc
met-entry v (g ∷ fs) (suc zero) f m h = subst (IsMet v) (same g f h) (All-head (IsMet v) g fs m)
met-entry v (g ∷ fs) (suc (suc n)) f m h = met-entry v fs (suc n) f (All-tail (IsMet v) g fs m) h

met-add_part : (v : ℕ → ℤ) (made : Forms) (f : Form ℕ) (p : ℤ × ℕ) (g : Form ℕ) → All (IsMet v) made → IsMet v f → add_part made f p ≡ Some g → IsMet v g
met-add_part v made f p g m mf h =
    let t = tested (is_positive p.0) _ g h in
    let e = gives (entry made p.1) _ g t.1 in
    let k = gives (within_i64 (multiple p.0 e.0)) _ g e.2 in
    let w = tested (fits (multiple p.0 e.0)) _ k.0 k.1 in
    let s = tested (fits (sum f k.0)) _ g k.2 in
    let mm : IsMet v k.0 = subst (IsMet v) (same _ _ w.1) (met-multiple v p.0 e.0 (positive p.0 t.0) (met-entry v made p.1 e.0 m e.1)) in
    subst (IsMet v) (same _ _ s.1) (met-sum v f k.0 mf mm)

met-add_parts : (v : ℕ → ℤ) (made : Forms) (before : ℕ) (f : Form ℕ) (ps : List (ℤ × ℕ)) (g : Form ℕ) → All (IsMet v) made → IsMet v f → add_parts made before f ps ≡ Some g → IsMet v g
met-add_parts v made before f [] g m mf h = subst (IsMet v) (same f g h) mf
met-add_parts v made before f (p ∷ ps) g m mf h =
    let t = tested (nat_lt before p.1) _ g h in
    let e = gives (add_part made f p) _ g t.1 in
    met-add_parts v made p.1 e.0 ps g m (met-add_part v made f p e.0 m mf e.1) e.2

met-sum_line : (v : ℕ → ℤ) (made : Forms) (ps : List (ℤ × ℕ)) (g : Form ℕ) → All (IsMet v) made → sum_line made ps ≡ Some g → IsMet v g
met-sum_line v made [] g m h = absurd cc
met-sum_line v made (p ∷ ps) g m h = met-add_parts v made 0 nothing (p ∷ ps) g m (omega (arith, ints)) h

met-divided_line : (v : ℕ → ℤ) (made : Forms) (d : ℤ) (l : ℕ) (g : Form ℕ) → All (IsMet v) made → divided_line made d l ≡ Some g → IsMet v g
met-divided_line v made d l g m h =
    let t = tested (is_positive d) _ g h in
    let e = gives (entry made l) _ g t.1 in
    let w = tested (all_divide d e.0.terms) _ g e.2 in
    subst (IsMet v) (same _ _ w.1) (met-quotient v d e.0 (positive d t.0) w.0 (met-entry v made l e.0 m e.1))

met-product_line : (v : ℕ → ℤ) → IsMultiplicative v → (made : Forms) (l k : ℕ) (g : Form ℕ) → All (IsMet v) made → product_line made l k ≡ Some g → IsMet v g
met-product_line v mv made l k g m h =
    let e = gives (entry made l) _ g h in
    let d = gives (entry made k) _ g e.2 in
    let w = weighted (value_of v e.0) (value_of v d.0) (met-entry v made l e.0 m e.1) (met-entry v made k d.0 m d.1) in
    subst (λ z. pos 0 ≤ℤ z) (sym (value_product v mv e.0 d.0 g d.2)) w

-- products are asked of values only where a line is one
abbrev pub Asked : (ℕ → ℤ) → (linear : Bool) → Type 0
Asked v linear = linear ≡ false → IsMultiplicative v

first_asked : (v : ℕ → ℤ) (a b : Bool) → Asked v (a && b) → Asked v a
first_asked v true b k = λ h. absurd (true≢false h)
first_asked v false b k = k

second_asked : (v : ℕ → ℤ) (a b : Bool) → Asked v (a && b) → Asked v b
second_asked v true b k = k
second_asked v false b k = λ h. k refl

met-line : (v : ℕ → ℤ) (facts made : Forms) (l : Line) (g : Form ℕ) → Asked v (is_linear l) → All (IsMet v) facts → All (IsMet v) made → line_form facts made l ≡ Some g → IsMet v g
met-line v facts made (Given n) g k mf m h = met-entry v facts n g mf h
met-line v facts made (Sum ps) g k mf m h = met-sum_line v made ps g m h
met-line v facts made (Divide d l) g k mf m h = met-divided_line v made d l g m h
met-line v facts made (Product l n) g k mf m h = met-product_line v (k refl) made l n g m h

negative : (z : ℤ) → is_negative z ≡ true → z <ℤ pos 0
negative z h = grind (arith, ints)

below_zero : (v : ℕ → ℤ) (ts : List (Weighted ℕ)) (c : ℤ) → (is_none ts && is_negative c) ≡ true → pos 0 ≤ℤ (terms_value v ts +ℤ c) → ⊥
below_zero v [] c h m = absurd (omega (arith, ints, negative c h, m))
below_zero v (t ∷ ts) c h m = true≢false (sym h)

made_by : (o : Option (Form ℕ)) (go : Form ℕ → Bool) → if_made o go ≡ true → (f : Form ℕ) × (o ≡ Some f) × (go f ≡ true)
made_by None go h = absurd cc
made_by (Some f) go h = (f, refl, h)

never : (v : ℕ → ℤ) (facts made : Forms) (answer : Bool) (ls : List Line) → Asked v (are_linear ls) → All (IsMet v) facts → All (IsMet v) made → (answer ≡ true → ⊥) → refutes_from facts made answer ls ≡ true → ⊥
never v facts made answer [] k mf m a h = a h
never v facts made answer (l ∷ ls) k mf m a h =
    let e = made_by (line_form facts made l) _ h in
    let g = met-line v facts made l e.0 (first_asked v (is_linear l) (are_linear ls) k) mf m e.1 in
    never v facts (made ++ e.0 ∷ []) (is_contradiction e.0) ls (second_asked v (is_linear l) (are_linear ls) k) mf (All-push (IsMet v) made e.0 m g) (λ c. below_zero v e.0.terms e.0.constant c g) e.2

refuted : (v : ℕ → ℤ) (facts : Forms) (ls : List Line) → Asked v (are_linear ls) → refutes_of facts ls ≡ true → All (IsMet v) facts → ⊥
refuted v facts ls k h m = never v facts [] false ls k m (All-nil (IsMet v)) (λ e. true≢false (sym e)) h

-- a form is at least 0, or its denial is
data Decided (v : ℕ → ℤ) (f : Form ℕ) : Type 0 where
  Holds : (h : IsMet v f) → Decided v f
  Denied : (h : IsMet v (denial f)) → Decided v f

value-denial : (v : ℕ → ℤ) (f : Form ℕ) → value_of v (denial f) ≡ negsuc 0 -ℤ value_of v f
value-denial v f = omega (arith, ints, value_difference (record { terms = []; constant = negsuc 0 }) f v)

decided : (v : ℕ → ℤ) (f : Form ℕ) (z : ℤ) → value_of v f ≡ z → Decided v f
decided v f (pos n) h = Holds (omega (arith, ints, h))
decided v f (negsuc n) h = Denied (omega (arith, ints, h, value-denial v f))

met-lemma : (v : ℕ → ℤ) (facts : Forms) (l : Lemma) → Asked v (are_linear l.lines) → All (IsMet v) facts → shows facts l ≡ true → IsMet v l.form
met-lemma v facts l k mf h =
    let d = made_by (within_i64 (denial l.form)) _ h in
    let w = tested (fits (denial l.form)) (Some (denial l.form)) d.0 d.1 in
    elim (decided v l.form (value_of v l.form) refl) [
      | Holds m ↦ m
      | Denied m ↦ absurd (refuted v (facts ++ d.0 ∷ []) l.lines k d.2 (All-push (IsMet v) facts d.0 mf (subst (IsMet v) (same _ _ w.1) m)))
    ]

both_true : (a b : Bool) → (a && b) ≡ true → (a ≡ true) × (b ≡ true)
both_true true b h = (refl, h)
both_true false b h = absurd cc

refuted_with : (v : ℕ → ℤ) (facts : Forms) (lemmas : List Lemma) (ls : List Line) → Asked v (are_without_products lemmas ls) → refutes_with facts lemmas ls ≡ true → All (IsMet v) facts → ⊥
refuted_with v facts [] ls k h m = refuted v facts ls k h m
refuted_with v facts (l ∷ more) ls k h m =
    let t = both_true (shows facts l) (refutes_with (facts ++ l.form ∷ []) more ls) h in
    let one = met-lemma v facts l (first_asked v (are_linear l.lines) (are_without_products more ls) k) m t.0 in
    refuted_with v (facts ++ l.form ∷ []) more ls (second_asked v (are_linear l.lines) (are_without_products more ls) k) t.1 (All-push (IsMet v) facts l.form m one)

pub refuted_with_products : (facts : Forms) (lemmas : List Lemma) (ls : List Line) → refutes_with facts lemmas ls ≡ true → IsImpossibleWithProducts facts
refuted_with_products facts lemmas ls h = λ v mv m. refuted_with v facts lemmas ls (λ e. mv) h m

pub refuted_without_products : (facts : Forms) (lemmas : List Lemma) (ls : List Line) → are_without_products lemmas ls ≡ true → refutes_with facts lemmas ls ≡ true → IsImpossible facts
refuted_without_products facts lemmas ls w h = λ v m. refuted_with v facts lemmas ls (λ e. absurd (true≢false (sym w ∙ e))) h m
