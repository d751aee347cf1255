-- What is noted tells of items alone.
use Rattle.std.proofs.Common.{◌≡◌, ℕ, zero, suc, ◌%◌, ◌<◌, Bool, true, false, ◌&&◌, cond, nat_lt, List, [], ◌∷◌, Option, None, Some, arith, refl, ap, ◌∙◌, lt-ltb}
use Rattle.std.specs.Prelude.{ℤ, pos, negsuc, ◌+ℤ◌, ◌*ℤ◌}
use Rattle.std.specs.Option.{option_map}
use Rattle.std.proofs.lemmas.Bool.{and_parts, and_from}
use Rattle.linear.specs.Linear.{Weighted}
use Rattle.linear.specs.Exact.{Terms, fits, put, merge, merge_one, sum, multiple}
use Rattle.facts.specs.Symbols as symbols
use Rattle.facts.specs.Symbols.{Symbol, number, symbol_of, Fact, constant}
use Rattle.facts.proofs.Naming.{symbol_of-number}
use Rattle.linear.specs.Products.{and_then, times}
use Rattle.obligations.specs.Telling.{may_tell, is_symbol, factor_tells, symbol_tells, terms_tell, tells}
use Rattle.certificate_text.specs.Certificate as certificate
use Rattle.certificate_text.specs.Certificate.{Name, Variable, AtAnchor, Turns, Fresh, Argument, Length, Groups, Group, Local, Product}
use Rattle.certificate_notes.specs.Scenes.{Named}
use Rattle.certificate_notes.specs.Sights.{Chart, Sight, slot_of, found_in, dimension_number, second_of, product_of, symbol, fitting, then_fact, with_term, then_added, added}
use Rattle.certificate_notes.proofs.ProductTells.{IsFine, fine-tells, alone-fine, times-fine}

-- symbols, forms
abbrev pub Tells : Bool → ℕ → Type 0
Tells b n = symbol_tells b n ≡ true

abbrev pub MayTell : Bool → Option ℕ → Type 0
MayTell b None = Unit {0}
MayTell b (Some n) = IsFine b n

abbrev pub FormTells : Bool → Option Fact → Type 0
FormTells b None = Unit {0}
FormTells b (Some f) = tells b f ≡ true

put-tells : (b : Bool) (z : ℤ) (s : ℕ) (ts : Terms) → Tells b s → terms_tell b ts ≡ true → terms_tell b (put z s ts) ≡ true
put-tells b (pos zero) s ts h k = k
put-tells b (pos (suc n)) s ts h k = and_from (symbol_tells b s) (terms_tell b ts) h k
put-tells b (negsuc n) s ts h k = and_from (symbol_tells b s) (terms_tell b ts) h k

chosen : (b c : Bool) (ts us : Terms) → terms_tell b ts ≡ true → terms_tell b us ≡ true → terms_tell b (cond c ts us) ≡ true
chosen b true ts us h k = h
chosen b false ts us h k = k

merge_one-tells : (b : Bool) (x : Weighted ℕ) (rest : Terms → Terms) → Tells b x.symbol → ((us : Terms) → terms_tell b us ≡ true → terms_tell b (rest us) ≡ true) → (us : Terms) → terms_tell b us ≡ true → terms_tell b (merge_one x rest us) ≡ true
merge_one-tells b x rest h f [] k = and_from (symbol_tells b x.symbol) (terms_tell b (rest [])) h (f [] refl)
merge_one-tells b x rest h f (y ∷ us) k =
    let p = and_parts (symbol_tells b y.symbol) (terms_tell b us) k in
    chosen b (nat_lt x.symbol y.symbol) (x ∷ rest (y ∷ us)) _ (and_from (symbol_tells b x.symbol) (terms_tell b (rest (y ∷ us))) h (f (y ∷ us) k))
    (chosen b (nat_lt y.symbol x.symbol) (y ∷ merge_one x rest us) _ (and_from (symbol_tells b y.symbol) (terms_tell b (merge_one x rest us)) p.0 (merge_one-tells b x rest h f us p.1)) (put-tells b (x.coefficient +ℤ y.coefficient) x.symbol (rest us) h (f us p.1)))

merge-tells : (b : Bool) (ts us : Terms) → terms_tell b ts ≡ true → terms_tell b us ≡ true → terms_tell b (merge ts us) ≡ true
merge-tells b [] us h k = k
merge-tells b (x ∷ ts) us h k =
    let p = and_parts (symbol_tells b x.symbol) (terms_tell b ts) h in
    merge_one-tells b x (merge ts) p.0 (λ us' k'. merge-tells b ts us' p.1 k') us k

fitting-tells : (b : Bool) (f : Fact) → tells b f ≡ true → FormTells b (fitting f)
fitting-tells b f h = found (fits f)
  where
    found : (c : Bool) → FormTells b (cond c (Some f) None)
    found true = h
    found false = tt

then_fact-tells : (b : Bool) (o : Option Fact) (go : Fact → Option Fact) → FormTells b o → ((g : Fact) → tells b g ≡ true → FormTells b (go g)) → FormTells b (then_fact o go)
then_fact-tells b None go h next = tt
then_fact-tells b (Some f) go h next = next f h

-- one term more
term-tells : (b : Bool) (z : ℤ) (f : Fact) (n : ℕ) → tells b f ≡ true → Tells b n → FormTells b (with_term z f n)
term-tells b z f n h k =
    let m : Fact = multiple z (record { terms = record { coefficient = pos 1; symbol = n } ∷ []; constant = pos 0 }) in
    then_fact-tells b (fitting m) (λ g. fitting (sum f g)) (fitting-tells b m (put-tells b (z *ℤ pos 1) n [] k refl)) (λ g t. fitting-tells b (sum f g) (merge-tells b f.terms g.terms h t))

then-tells : (b : Bool) (z : ℤ) (f : Fact) (go : Fact → Option Fact) (o : Option ℕ) → tells b f ≡ true → MayTell b o → ((g : Fact) → tells b g ≡ true → FormTells b (go g)) → FormTells b (then_added z f go o)
then-tells b z f go None h k next = tt
then-tells b z f go (Some n) h k next = then_fact-tells b (with_term z f n) go (term-tells b z f n h (fine-tells b n k)) next

pub added-tells : (b : Bool) (c : Chart) (s : Sight) → ((x : Name) → MayTell b (symbol c s x)) → (ts : List (Weighted Name)) (f : Fact) → tells b f ≡ true → FormTells b (added c s ts f)
added-tells b c s all [] f h = h
added-tells b c s all (t ∷ ts) f h = then-tells b t.coefficient f (added c s ts) (symbol c s t.symbol) h (all t.symbol) (λ g k. added-tells b c s all ts g k)

of-symbol : (b : Bool) (s : Symbol) → (number s % 16 < 15) → may_tell b s ≡ true → IsFine b (number s)
of-symbol b s l h = alone-fine b (number s) (and_from (is_symbol (number s)) (may_tell b (symbol_of (number s))) (lt-ltb (number s % 16) 15 l) (ap (may_tell b) (symbol_of-number s) ∙ h))

mapped : (b : Bool) (f : ℕ → Symbol) (o : Option ℕ) → ((i : ℕ) → IsFine b (number (f i))) → MayTell b (option_map (λ i. number (f i)) o)
mapped b f None h = tt
mapped b f (Some i) h = h i

-- at a head what the variables were at the anchor has symbols, elsewhere not
abbrev pub Fits : Bool → List Named → Type 0
Fits true ns = Unit {0}
Fits false [] = Unit {0}
Fits false (n ∷ ns) = ⊥

before-tells : (b : Bool) (before : List Named) → Fits b before → (x : List ℕ) → MayTell b (option_map (λ n. number (symbols.AtAnchor symbols.First n)) (slot_of before x))
before-tells true before h x = mapped true (symbols.AtAnchor symbols.First) (slot_of before x) (λ i. of-symbol true (symbols.AtAnchor symbols.First i) (omega arith) refl)
before-tells false [] h x = tt
before-tells false (n ∷ ns) h x = absurd h

-- no second item is told of
no-second : (b : Bool) (o : Option ℕ) → MayTell b (and_then o (second_of false))
no-second b None = tt
no-second b (Some n) = tt

product-tells : (b : Bool) (m n : Option ℕ) → MayTell b m → MayTell b n → MayTell b (product_of m n)
product-tells b None n h k = tt
product-tells b (Some m) None h k = tt
product-tells b (Some m) (Some n) h k = by (times m n) refl
  where
    by : (o : Option ℕ) → times m n ≡ o → MayTell b o
    by None e = tt
    by (Some i) e = times-fine b m n i h k e

pub symbol-tells : (b : Bool) (c : Chart) (here before : List Named) (around : List ℕ) → Fits b before → (x : Name) → MayTell b (symbol c (record { here = here; before = before; around = around; has_new = false; has_second = false }) x)
symbol-tells b c here before around h (Variable x) = mapped b (symbols.Variable symbols.First) (slot_of here x) (λ i. of-symbol b (symbols.Variable symbols.First i) (omega arith) refl)
symbol-tells b c here before around h (AtAnchor x) = before-tells b before h x
symbol-tells b c here before around h (Turns n) = mapped b (symbols.Turns symbols.First) (found_in around n) (λ i. of-symbol b (symbols.Turns symbols.First i) (omega arith) refl)
symbol-tells b c here before around h (Fresh n) = tt
symbol-tells b c here before around h (Argument x) = mapped b symbols.ArgumentOf (slot_of c.arguments x) (λ i. of-symbol b (symbols.ArgumentOf i) (omega arith) refl)
symbol-tells b c here before around h (Length x) = mapped b symbols.Length (slot_of c.buffers x) (λ i. of-symbol b (symbols.Length i) (omega arith) refl)
symbol-tells b c here before around h (Groups d) = of-symbol b (symbols.Groups (dimension_number d)) (omega arith) refl
symbol-tells b c here before around h (Group d) = of-symbol b (symbols.Group symbols.First (dimension_number d)) (omega arith) refl
symbol-tells b c here before around h (Local d) = of-symbol b (symbols.Local symbols.First (dimension_number d)) (omega arith) refl
symbol-tells b c here before around h (certificate.Second x) = no-second b (symbol c (record { here = here; before = before; around = around; has_new = false; has_second = false }) x)
symbol-tells b c here before around h (Product x y) = product-tells b _ _ (symbol-tells b c here before around h x) (symbol-tells b c here before around h y)
