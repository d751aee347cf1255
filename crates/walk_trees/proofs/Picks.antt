-- What `min` and `max` promise: the less of two values, or the greater one, by one way or by one of two.
use Rattle.std.proofs.Common.{◌≡◌, ℕ, Bool, true, false, cond, List, refl, sym, ◌∙◌, subst}
use Rattle.std.specs.Prelude.{ℤ, pos, int_lt}
use Rattle.std.proofs.lemmas.Bool.{and_parts}
use Rattle.semantics.specs.Word.{Kind, Word, word, Less, in_kind}
use Rattle.semantics.specs.Evaluation.{Gives}
use Rattle.facts.specs.Symbols.{Fact, minus}
use Rattle.facts.proofs.Worlds.{View}
use Rattle.walk_trees.specs.Values.{Value}
use Rattle.walk_trees.specs.Walks.{State, Onward}
use Rattle.walk_trees.specs.Joined.{same_kind, are_joined, pick_joined}
use Rattle.walk_trees.specs.Terms.{chosen, pick_split, is_joined_pick, pick}
use Rattle.walk_trees.proofs.Shares.{keeping}
use Rattle.walk_trees.proofs.Standing.{walks, Stands, Comes, Goes, gives, arriving, restated, owns}
use Rattle.walk_trees.proofs.Ranges.{IsValue, value_kept}
use Rattle.walk_trees.proofs.JoinedSound.{picked_number, pick_joined_sound, kinds_same}
use Rattle.walk_trees.proofs.Splits.{split_sound}

-- a word by its kind and number
by_kind : (k : Kind) (w : Word) → w.kind ≡ k → word k w.value ≡ w
by_kind k w e = λ i. word (sym e i) w.value

picked_word : (g t : Bool) (k : Kind) (v w : Word) → v.kind ≡ k → w.kind ≡ k → word k (cond t (cond g w.value v.value) (cond g v.value w.value)) ≡ cond t (chosen g w v) (chosen g v w)
picked_word true true k v w p q = by_kind k w q
picked_word true false k v w p q = by_kind k v p
picked_word false true k v w p q = by_kind k v p
picked_word false false k v w p q = by_kind k w q

one-in : (t : Bool) (a b : Word) → in_kind a.kind a.value ≡ true → in_kind b.kind b.value ≡ true → in_kind (cond t b a).kind (cond t b a).value ≡ true
one-in true a b ia ib = ib
one-in false a b ia ib = ia

chosen-in : (g : Bool) (a b : Word) → in_kind a.kind a.value ≡ true → in_kind b.kind b.value ≡ true → in_kind (chosen g b a).kind (chosen g b a).value ≡ true
chosen-in true a b ia ib = ib
chosen-in false a b ia ib = ia

-- the second operand where the left one is less, else the first
abbrev pub picked : (is_greater : Bool) → (left right : Word) → Word
picked g v w = cond (int_lt v.value w.value) (chosen g w v) (chosen g v w)

module _ {E : Type 0} (c : View E) (launch : List Fact) where
  chosen-is : (g : Bool) (more : List ℤ) (a b : Word) (x y : Value) → IsValue c more a x → IsValue c more b y → IsValue c more (chosen g b a) (chosen g y x)
  chosen-is true more a b x y mx my = my
  chosen-is false more a b x y mx my = mx

  one-is : (t q : Bool) (more : List ℤ) (a b : Word) (x y : Value) → t ≡ q → IsValue c more a x → IsValue c more b y → IsValue c more (cond q b a) (chosen t y x)
  one-is true true more a b x y e mx my = my
  one-is true false more a b x y e mx my = cc
  one-is false true more a b x y e mx my = cc
  one-is false false more a b x y e mx my = mx

  picked_joined : (g : Bool) {facts : List Fact} {n : ℕ} {news : List ℤ} (v w : Word) (x y : Value) (st : State E) (go : Onward E) → x.kind ≡ y.kind → IsValue c news v x → IsValue c news w y → Stands c launch facts n (pick_joined (walks c) g x.kind x.form y.form st go) news (keeping st) →
      Comes c launch facts n (pick_joined (walks c) g x.kind x.form y.form st go) go news (owns st) (λ more u. IsValue c more (picked g v w) u)
  picked_joined g v w x y st go e mx my s =
      let a = v.value in
      let b = w.value in
      let m = cond (int_lt a b) (cond g b a) (cond g a b) in
      restated c launch (λ more u kept h. subst (λ (z : Word). IsValue c more z u) (picked_word g (int_lt a b) x.kind v w (sym mx.kind) (sym (e ∙ my.kind))) h) (pick_joined_sound c launch g x.kind x.form y.form a b m st go (picked_number g a b) mx.form my.form s)

  picked_split : (g : Bool) {facts : List Fact} {n : ℕ} {news : List ℤ} (v w : Word) (x y : Value) (st : State E) (go : Onward E) → IsValue c news v x → IsValue c news w y → Stands c launch facts n (pick_split (walks c) x y (chosen g y x) (chosen g x y) st go) news (keeping st) →
      Comes c launch facts n (pick_split (walks c) x y (chosen g y x) (chosen g x y) st go) go news (owns st) (λ more u. IsValue c more (picked g v w) u)
  picked_split g v w x y st go mx my s =
      let second = chosen g y x in
      let first = chosen g x y in
      arriving c launch go (λ t. chosen t second first) (λ more u. IsValue c more (picked g v w) u) (λ more t kept e. one-is t (int_lt v.value w.value) more (chosen g v w) (chosen g w v) first second e (chosen-is g more w v y x (value_kept c kept my) (value_kept c kept mx)) (chosen-is g more v w x y (value_kept c kept mx) (value_kept c kept my)))
      (split_sound c launch c.is_wide Less x.form y.form v.value w.value st (λ t st'. go (chosen t second first) st') mx.form my.form s)

  -- of a left and a right operand the less, or the greater
  pub picked_goes : (g : Bool) {facts : List Fact} {n : ℕ} {news : List ℤ} (v w : Word) (x y : Value) (st : State E) (go : Onward E) (rest : List Word) → in_kind v.kind v.value ≡ true → in_kind w.kind w.value ≡ true → IsValue c news v x → IsValue c news w y → Stands c launch facts n (pick (walks c) g x y (chosen g y x) (chosen g x y) st go) news (keeping st) →
      Goes c launch facts n (pick (walks c) g x y (chosen g y x) (chosen g x y) st go) go news (owns st) (λ u more z. IsValue c more u z) (Gives (picked g v w) rest)
  picked_goes g {facts = facts} {n = n} {news = news} v w x y st go rest iv iw mx my s = gives (picked g v w) rest refl (one-in (int_lt v.value w.value) (chosen g v w) (chosen g w v) (chosen-in g w v iw iv) (chosen-in g v w iv iw)) (by (is_joined_pick (walks c) x y st) refl s)
    where
      by : (b : Bool) → is_joined_pick (walks c) x y st ≡ b → Stands c launch facts n (cond b (pick_joined (walks c) g x.kind x.form y.form st go) (pick_split (walks c) x y (chosen g y x) (chosen g x y) st go)) news (keeping st) →
          Comes c launch facts n (cond b (pick_joined (walks c) g x.kind x.form y.form st go) (pick_split (walks c) x y (chosen g y x) (chosen g x y) st go)) go news (owns st) (λ more u. IsValue c more (picked g v w) u)
      by true e s = picked_joined g v w x y st go (kinds_same x.kind y.kind (and_parts (same_kind x.kind y.kind) (are_joined (walks c) (pos 0) (minus y.form x.form) (minus x.form y.form) st) e).0) mx my s
      by false e s = picked_split g v w x y st go mx my s
