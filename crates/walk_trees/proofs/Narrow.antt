-- Where the walk is not the wide one, where ways are not joined, and where no line says what buffers hold.
use Rattle.std.proofs.Common.{◌≡◌, ℕ, ◌&&◌, ◌||◌, Bool, true, false, [], Option, None, cond, refl, ap, ◌∙◌}
use Rattle.std.specs.Prelude.{ℤ, pos, negsuc}
use Rattle.semantics.specs.Word.{Kind, Int, Equal, Unequal, Add, Subtract, Multiply, Divide, Remainder, BitAnd, BitOr, BitXor}
use Rattle.semantics.specs.Core.{Site, Space, Global, Local, Array}
use Rattle.semantics.specs.Launch.{Kernel}
use Rattle.semantics.specs.Conditions.{Conditions}
use Rattle.linear.specs.Exact.{sum, multiple}
use Rattle.domain.specs.declared.Domain.{Ghosts}
use Rattle.facts.specs.Symbols.{Fact, constant, minus}
use Rattle.facts.specs.Elements.{is_from_zero}
use Rattle.walk_trees.specs.Held.{narrow}
use Rattle.walk_trees.specs.Trees.{Tree}
use Rattle.walk_trees.specs.Values.{Value, value}
use Rattle.walk_trees.specs.Shares.{Shared}
use Rattle.walk_trees.specs.Walks.{Setting, State, Onward, element_of, bounds_of, holding, unknown, ranged, fork_unless, invent, is_dead, is_either_left_out, are_both_left_out, unless_dead, know_test, know_two, known_form}
use Rattle.walk_trees.specs.Quotients.{quotient, left_by}
use Rattle.walk_trees.specs.Operators.{product_in, product, claim_divisor, is_positive, is_exact, claim_dividend, share, divided, remaining, is_mask, are_from_zero, masked_by, masked, binary}
use Rattle.walk_trees.specs.Joined.{may_reach, are_joined, same_kind, pick_joined}
use Rattle.walk_trees.specs.Tests.{Outcomes, below, split_below, split_apart, split_from_zero, split_sign, split, split_number}
use Rattle.walk_trees.specs.Contents.{of_buffer, contents_in, know_contents}
use Rattle.walk_trees.specs.Terms.{access, array_kind, load, keep_contents, stored, pick_split, pick}
use Rattle.walk_trees.specs.Statements.{setting}

module _ {E : Type 0} (g : Ghosts E) (kernel : Kernel) (c : Conditions) (has_entry : ℕ → Bool) where
  abbrev s : Setting E
  s = setting g kernel c false false has_entry

  pub narrow-test : (f : Fact) (st : State E) (go : State E → Tree E) → know_test s false f st go ≡ unless_dead (is_dead f) f (go (holding (narrow s.domain s.known f st.held) st))
  narrow-test f st go = refl

  pub narrow-number : (f : Fact) (st : State E) (go : Outcomes E) → split_number s f st go ≡
      fork_unless (is_dead (minus f (constant (pos 1)))) (is_dead (minus (constant (negsuc 0)) f) && (is_dead f || is_dead (multiple (negsuc 0) f))) st (λ a. know_test s false (minus f (constant (pos 1))) a (go true)) (λ a.
      fork_unless (is_dead (minus (constant (negsuc 0)) f)) (is_dead f || is_dead (multiple (negsuc 0) f)) a (λ b. know_test s false (minus (constant (negsuc 0)) f) b (go true)) (λ b. know_two s false f (multiple (negsuc 0) f) b (go false)))
  narrow-number f st go = refl

  pub narrow-form : (st : State E) (f : Fact) → known_form s st f ≡ f
  narrow-form st f = refl

  pub narrow-left : (k : Kind) (x : Fact) (d : ℤ) (st : State E) (go : Fact → State E → Tree E) → left_by s k x d st go ≡ quotient s k x d st (λ q r st'. go r st')
  narrow-left k x d st go = refl

  pub narrow-exact : (st : State E) (k : Kind) (x y : Fact) → is_exact s st k x y ≡ (is_positive y && is_from_zero (bounds_of s st x).low)
  narrow-exact st k x y = refl

  pub narrow-dividend : (k : Kind) (x y : Fact) (st : State E) (go : Bool → State E → Tree E) → claim_dividend s k x y st go ≡ go (is_exact s st k x y) st
  narrow-dividend k x y st go = refl

  pub narrow-mask : (y : Fact) → is_mask s.is_wide Int y ≡ false
  narrow-mask y = refl

  pub narrow-masked : (k : Kind) (x y : Fact) (st : State E) (go : Fact → State E → Tree E) → masked s false k x y st go ≡ masked_by s (are_from_zero s st x y) k x y st go
  narrow-masked k x y st go = refl

  -- the tree of each operator
  pub narrow-sum : (k : Kind) (x y : Fact) (st : State E) (go : Onward E) → binary s Add k x y st go ≡ ranged s k (sum x y) st go
  narrow-sum k x y st go = refl

  pub narrow-difference : (k : Kind) (x y : Fact) (st : State E) (go : Onward E) → binary s Subtract k x y st go ≡ ranged s k (minus x y) st go
  narrow-difference k x y st go = refl

  pub narrow-product : (k : Kind) (x y : Fact) (st : State E) (go : Onward E) → binary s Multiply k x y st go ≡ product s x.terms y.terms x y st (λ f st'. ranged s k f st' go)
  narrow-product k x y st go = refl

  pub narrow-quotient : (k : Kind) (x y : Fact) (st : State E) (go : Onward E) → binary s Divide k x y st go ≡ claim_divisor s k x y st (λ st1. divided s (is_exact s st1 k x y) k x y st1 (λ f st'. go (value k f) st'))
  narrow-quotient k x y st go = refl

  pub narrow-remainder : (k : Kind) (x y : Fact) (st : State E) (go : Onward E) → binary s Remainder k x y st go ≡ claim_divisor s k x y st (λ st1. remaining s (is_exact s st1 k x y) k x y st1 (λ f st'. go (value k f) st'))
  narrow-remainder k x y st go = refl

  pub narrow-and : (k : Kind) (x y : Fact) (st : State E) (go : Onward E) → binary s BitAnd k x y st go ≡ masked s (is_mask false k y) k x y st (λ f st'. go (value k f) st')
  narrow-and k x y st go = refl

  pub narrow-or : (k : Kind) (x y : Fact) (st : State E) (go : Onward E) → binary s BitOr k x y st go ≡ unknown s k st go
  narrow-or k x y st go = refl

  pub narrow-xor : (k : Kind) (x y : Fact) (st : State E) (go : Onward E) → binary s BitXor k x y st go ≡ unknown s k st go
  narrow-xor k x y st go = refl

  -- a product of two forms with terms is a new symbol
  pub narrow-product_in : (f g : Fact) (e : E) (st : State E) (go : Fact → State E → Tree E) → product_in s s.is_wide f g e st go ≡ invent s e st go
  narrow-product_in f g e st go = refl

  -- a quotient by a form, or what it leaves, is a new symbol
  pub narrow-share : (k : Kind) (x y : Fact) (st : State E) (go : Option Shared → State E → Tree E) → share s k x y st go ≡ go None st
  narrow-share k x y st go = refl

  pub narrow-divided : (k : Kind) (x y : Fact) (st : State E) (go : Fact → State E → Tree E) → divided s false k x y st go ≡ invent s (s.domain.div_of (element_of s st x) (element_of s st y)) st go
  narrow-divided k x y st go = refl

  pub narrow-remaining : (k : Kind) (x y : Fact) (st : State E) (go : Fact → State E → Tree E) → remaining s false k x y st go ≡ invent s (s.domain.rem_of (element_of s st x) (element_of s st y)) st go
  narrow-remaining k x y st go = refl

-- Where ways are not joined.
none_joined : (b : Bool) → b && false ≡ false
none_joined true = refl
none_joined false = refl

module _ {E : Type 0} (s : Setting E) (apart : s.joins ≡ false) where
  none_joined_of : (least : ℤ) (more less : Fact) (st : State E) → are_joined s least more less st ≡ false
  none_joined_of least more less st = ap (λ b. b && (may_reach s (pos 1) more st && may_reach s least less st)) apart

  -- `==`, `!=` and a number as a test have a way on which one is less, and a way on which it is more
  pub split-equal : (w : Bool) (x y : Fact) (st : State E) (go : Outcomes E) → split s w Equal x y st go ≡ fork_unless (is_either_left_out s s.is_wide (minus x y) (minus y x) st) (are_both_left_out s s.is_wide (below x y) (below y x) st) st (λ a. know_two s s.is_wide (minus x y) (minus y x) a (go true)) (λ a. split_below s s.is_wide false false (below x y) (below y x) a go)
  split-equal w x y st go = ap (λ (f : State E → Bool). fork_unless (is_either_left_out s s.is_wide (minus x y) (minus y x) st) (are_both_left_out s s.is_wide (below x y) (below y x) st) st (λ a. know_two s s.is_wide (minus x y) (minus y x) a (go true)) (λ a. split_apart s (f a) x y a go)) (λ i a. none_joined_of (pos 1) (minus x y) (minus y x) a i)

  pub split-unequal : (w : Bool) (x y : Fact) (st : State E) (go : Outcomes E) → split s w Unequal x y st go ≡ split_sign s (below x y) (below y x) (minus x y) (minus y x) st go
  split-unequal w x y st go = ap (λ b. cond b (split_from_zero s (minus x y) (minus y x) st go) (split_sign s (below x y) (below y x) (minus x y) (minus y x) st go)) (none_joined_of (pos 1) (minus x y) (minus y x) st)

  pub split-number : (f : Fact) (st : State E) (go : Outcomes E) → split_number s f st go ≡ split_sign s (minus f (constant (pos 1))) (minus (constant (negsuc 0)) f) f (multiple (negsuc 0) f) st go
  split-number f st go = ap (λ b. cond b (split_from_zero s f (multiple (negsuc 0) f) st go) (split_sign s (minus f (constant (pos 1))) (minus (constant (negsuc 0)) f) f (multiple (negsuc 0) f) st go)) (none_joined_of (pos 1) f (multiple (negsuc 0) f) st)

  -- `min` and `max` have two ways
  pub pick-apart : (g : Bool) (x y second first : Value) (st : State E) (go : Onward E) → pick s g x y second first st go ≡ pick_split s x y second first st go
  pick-apart g x y second first st go = ap (λ b. cond b (pick_joined s g x.kind x.form y.form st go) (pick_split s x y second first st go)) (ap (λ b. same_kind x.kind y.kind && b) (none_joined_of (pos 0) (minus y.form x.form) (minus x.form y.form) st) ∙ none_joined (same_kind x.kind y.kind))

-- Where no line says what buffers hold.
module _ {E : Type 0} (s : Setting E) (none : s.contents ≡ []) where
  none_in : (sp : Space) (b : ℕ) → contents_in s sp b ≡ []
  none_in Global b = ap (of_buffer b) none
  none_in Local b = refl

  -- a load is the access, then any number of the array's kind
  pub narrow-load : (a : Array) (site : Site) (i : Fact) (st : State E) (go : Onward E) → load s a site i st go ≡ access s false a site i st (λ st'. unknown s (array_kind s a) st' go)
  narrow-load a site i st go = ap (λ xs. access s false a site i st (λ st'. unknown s (array_kind s a) st' (λ v st1. know_contents s xs v.form st1 (λ st2. go v st2)))) (none_in a.space a.number)

  -- a store is the access
  pub narrow-store : (a : Array) (site : Site) (i v : Value) (st : State E) (go : State E → Tree E) → stored s a site i v st go ≡ access s true a site i.form st go
  narrow-store a site i v st go = ap (λ xs. keep_contents s xs (array_kind s a) site v st (λ st'. access s true a site i.form st' go)) (none_in a.space a.number)
