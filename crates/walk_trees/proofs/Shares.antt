-- The quotients that a walk keeps are those of the values of their forms.
use Rattle.std.proofs.Common.{◌≡◌, ℕ, Bool, true, false, cond, nat_eq, List, [], ◌∷◌, Some, arith, refl, sym, ◌∙◌, subst}
use Rattle.std.specs.Prelude.{ℤ, int_div, int_rem}
use Rattle.std.specs.Ordering.{int_eq}
use Rattle.std.proofs.lemmas.Bool.{and_parts}
use Rattle.std.proofs.lemmas.Bool.Decides.{nat_tests, Decides-int_eq}
use Rattle.linear.specs.Linear.{Weighted}
use Rattle.linear.specs.Exact.{Terms}
use Rattle.linear.proofs.Merging.{IsRising}
use Rattle.facts.specs.Symbols.{Fact}
use Rattle.facts.proofs.Members.{by_number}
use Rattle.facts.proofs.Worlds.{View, Agrees, Means, own, agrees_itself}
use Rattle.walk_trees.specs.Held.{Held}
use Rattle.walk_trees.specs.Shares.{Shared, is_same_term, are_same_terms, is_same, is_of, shared_of}
use Rattle.walk_trees.specs.Walks.{State}
use Rattle.walk_trees.proofs.Each.{Each}

-- what the domain holds, and the quotients by forms
pub record Keeping (E : Type 0) : Type 0 where
  pub held : Held E
  pub quotients : List Shared

abbrev pub keeping : {E : Type 0} → State E → Keeping E
keeping st = record { held = st.held; quotients = st.quotients }

-- the quotient of two numbers, and what it leaves
pub record Divided {E : Type 0} (c : View E) (news : List ℤ) (q : Shared) (x y : ℤ) : Type 0 where
  pub quotient : Means c news q.quotient (int_div x y)
  pub left : Means c news q.left (int_rem x y)
  pub quotient_rises : IsRising 0 q.quotient.terms
  pub left_rises : IsRising 0 q.left.terms

-- that of the values of its forms
pub record IsShared {E : Type 0} (c : View E) (news : List ℤ) (q : Shared) : Type 0 where
  pub x : ℤ
  pub y : ℤ
  pub dividend : Means c news q.dividend x
  pub divisor : Means c news q.divisor y
  pub divided : Divided c news q x y

abbrev pub AreShared : {E : Type 0} → View E → List ℤ → List Shared → Type 0
AreShared c news qs = Each (IsShared c news) qs

same-symbol : (a b : ℕ) → nat_eq a b ≡ true → a ≡ b
same-symbol a b h = grind (arith, nat_tests)

same-term : (t u : Weighted ℕ) → is_same_term t u ≡ true → t ≡ u
same-term t u h =
    let p = and_parts (int_eq t.coefficient u.coefficient) (nat_eq t.symbol u.symbol) h in
    let z = (Decides-int_eq t.coefficient u.coefficient).0 p.0 in
    let s = same-symbol t.symbol u.symbol p.1 in
    λ i. record { coefficient = z i; symbol = s i }

same-terms : (ts us : Terms) → are_same_terms ts us ≡ true → ts ≡ us
same-terms [] [] h = refl
same-terms [] (u ∷ us) h = cc
same-terms (t ∷ ts) [] h = cc
same-terms (t ∷ ts) (u ∷ us) h =
    let p = and_parts (is_same_term t u) (are_same_terms ts us) h in
    let e = same-term t u p.0 in
    let r = same-terms ts us p.1 in
    λ i. e i ∷ r i

pub same-form : (f g : Fact) → is_same f g ≡ true → f ≡ g
same-form f g h =
    let p = and_parts (are_same_terms f.terms g.terms) (int_eq f.constant g.constant) h in
    let ts = same-terms f.terms g.terms p.0 in
    let z = (Decides-int_eq f.constant g.constant).0 p.1 in
    λ i. record { terms = ts i; constant = z i }

-- forms that have a value in each valuation that agrees have one
one-value : {E : Type 0} (c : View E) (news : List ℤ) (f : Fact) (x y : ℤ) → Means c news f x → Means c news f y → x ≡ y
one-value c news f x y m k =
    let v = by_number (own c news) in
    let a = agrees_itself c news in
    sym (m v a) ∙ k v a

module _ {E : Type 0} (c : View E) where
  divided_kept : {news more : List ℤ} (q : Shared) (x y : ℤ) → ((v : ℕ → ℤ) → Agrees c more v → Agrees c news v) → Divided c news q x y → Divided c more q x y
  divided_kept q x y k h = record { quotient = λ v a. h.quotient v (k v a); left = λ v a. h.left v (k v a); quotient_rises = h.quotient_rises; left_rises = h.left_rises }

  shared_kept_one : {news more : List ℤ} (q : Shared) → ((v : ℕ → ℤ) → Agrees c more v → Agrees c news v) → IsShared c news q → IsShared c more q
  shared_kept_one q k h = record { x = h.x; y = h.y; dividend = λ v a. h.dividend v (k v a); divisor = λ v a. h.divisor v (k v a); divided = divided_kept q h.x h.y k h.divided }

  -- as new symbols come
  pub shared_kept : {news more : List ℤ} (qs : List Shared) → ((v : ℕ → ℤ) → Agrees c more v → Agrees c news v) → AreShared c news qs → AreShared c more qs
  shared_kept [] k h = tt
  shared_kept (q ∷ qs) k h = (shared_kept_one q k h.0, shared_kept qs k h.1)

  -- of these two forms, of these values
  divided_where : {news : List ℤ} (q : Shared) (f g : Fact) (x y : ℤ) → IsShared c news q → q.dividend ≡ f → q.divisor ≡ g → Means c news f x → Means c news g y → Divided c news q x y
  divided_where {news = news} q f g x y h e k mf mg =
      let ex = one-value c news f h.x x (subst (λ d. Means c news d h.x) e h.dividend) mf in
      let ey = one-value c news g h.y y (subst (λ d. Means c news d h.y) k h.divisor) mg in
      subst (λ a. Divided c news q a y) ex (subst (λ b. Divided c news q h.x b) ey h.divided)

  pub found_divided : {news : List ℤ} (qs : List Shared) (f g : Fact) (x y : ℤ) (q : Shared) → AreShared c news qs → shared_of f g qs ≡ Some q → Means c news f x → Means c news g y → Divided c news q x y
  found_divided [] f g x y q h e mf mg = cc
  found_divided {news = news} (p ∷ qs) f g x y q h e mf mg = by (is_of f g p) refl e (λ i. found_divided qs f g x y q h.1 i mf mg)
    where
      by : (b : Bool) → is_of f g p ≡ b → cond b (Some p) (shared_of f g qs) ≡ Some q → (shared_of f g qs ≡ Some q → Divided c news q x y) → Divided c news q x y
      by true i e later =
          let s = and_parts (is_same p.dividend f) (is_same p.divisor g) i in
          let same : p ≡ q = cc in
          subst (λ r. Divided c news r x y) same (divided_where p f g x y h.0 (same-form p.dividend f s.0) (same-form p.divisor g s.1) mf mg)
      by false i e later = later e
