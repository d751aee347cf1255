-- The walk of a place: what an item meets from there to the next places.
use Rattle.std.specs.Prelude.{ℕ, ◌+◌, ◌%◌, ◌==◌, ℤ, pos, negsuc, Bool, true, false, ◌&&◌, cond, List, [], ◌∷◌, ◌++◌, Option, Some, None}
use Rattle.std.specs.Int.RustNames.{unsigned_abs}
use Rattle.semantics.specs.Core.{Term, Statement, Set, Store, If, Loop, Barrier, Return, Break, Continue}
use Rattle.semantics.specs.Launch.{Kernel}
use Rattle.semantics.specs.Conditions.{Conditions}
use Rattle.linear.specs.Linear.{Weighted}
use Rattle.domain.specs.declared.Domain.{Ghosts}
use Rattle.linear.specs.Exact.{multiple}
use Rattle.facts.specs.Symbols.{Fact, constant, minus}
use Rattle.facts.specs.Launching.{known}
use Rattle.arrivals.specs.Trees.{Stop, AtBarrier, AtHead, AtEnd, Turns}
use Rattle.arrivals.specs.Places.{Place}
use Rattle.arrivals.specs.Symbolic.{Terms, sketch}
use Rattle.walk_trees.specs.Covered.{covers_term}
use Rattle.walk_trees.specs.Trees.{OfRanking, OfFact, OfCongruence, AtLeastZero, Replaced, Divided, Tree, Leaf, Dead}
use Rattle.walk_trees.specs.Values.{Value}
use Rattle.walk_trees.specs.Walks.{Setting, State, settles, claim, stand, with_rank, rank_form, arrived}
use Rattle.walk_trees.specs.Terms.{walk, stored, chosen}
use Rattle.walk_trees.specs.Operators.{small_product}
use Rattle.walk_trees.specs.Statements.{spot_of, setting, assigned}
use Rattle.obligations.specs.Notes.{Congruence, Multiple, Notes, number_at, opens, holds, fallen, fallen_by}
use Rattle.obligations.specs.Replacing.{Replacement, replaced, made, is_replaceable, replacement}
use Rattle.obligations.specs.Roots.{kinds, are_slots, facts_at, congruences_at, multiples_at, anchor_forms, root_state}

-- the walk of a kernel's terms, what is said of its places, and the place it is of
pub record Placed (E : Type 0) : Type 1 where
  pub setting : Setting E
  pub kernel : Kernel
  pub notes : Notes
  pub anchor : Option ℕ
  pub head : Option ℕ

-- the path's own terms
abbrev pub on_path : {E : Type 0} → Placed E → State E → Replacement
on_path w st = replacement st.variables (anchor_forms w.kernel w.anchor w.head) st.ranks

-- what is said holds where the path comes
abbrev pub claim_replaced : {E : Type 0} → Placed E → (made : List Fact) → Fact → State E → (State E → Tree E) → Tree E
claim_replaced w made f st go = claim OfFact true (settles w.setting st f) (Replaced made f) st go

-- a claim that is shown only where no item comes there
abbrev pub never : {E : Type 0} → State E → (State E → Tree E) → Tree E
never st go = claim OfFact true false (AtLeastZero (constant (negsuc 0))) st go

-- claims of forms that were put in the path's terms; where a product has no form there, nothing is shown
abbrev pub if_replaced : {E : Type 0} → Bool → (claims : State E → (State E → Tree E) → Tree E) → State E → (State E → Tree E) → Tree E
if_replaced true claims st go = claims st go
if_replaced false claims st go = never st go

abbrev pub has_form : {E : Type 0} → Placed E → State E → Fact → Bool
has_form w st f = is_replaceable (on_path w st) f

abbrev pub claim_fact : {E : Type 0} → Placed E → Fact → State E → (State E → Tree E) → Tree E
claim_fact w f st go = if_replaced (has_form w st f) (claim_replaced w (made (on_path w st) f) (replaced (on_path w st) f)) st go

abbrev pub claim_facts : {E : Type 0} → Placed E → List Fact → State E → (State E → Tree E) → Tree E
claim_facts w [] st go = go st
claim_facts w (f ∷ fs) st go = claim_fact w f st (λ st'. claim_facts w fs st' go)

-- a number divides a form term by term
abbrev pub divides : ℕ → ℤ → Bool
divides m z = unsigned_abs z % m == 0

abbrev pub divides_terms : ℕ → List (Weighted ℕ) → Bool
divides_terms m [] = true
divides_terms m (t ∷ ts) = divides m t.coefficient && divides_terms m ts

abbrev pub divides_form : ℕ → Fact → Bool
divides_form m f = divides_terms m f.terms && divides m f.constant

-- two claims: the form is the modulus times the quotient that the first one's entry names
abbrev pub claim_quotient : {E : Type 0} → Placed E → (made : List Fact) → ℕ → Fact → (quotient : Fact) → State E → (State E → Tree E) → Tree E
claim_quotient w made m f q st go =
    claim OfCongruence true (divides_form m f) (Divided (made ++ multiple (pos m) q ∷ []) (minus f (multiple (pos m) q))) st (λ st1.
    claim OfCongruence true (divides_form m f) (Divided [] (minus (multiple (pos m) q) f)) st1 go)

abbrev pub claim_congruence : {E : Type 0} → Placed E → Congruence → State E → (State E → Tree E) → Tree E
claim_congruence w c st go =
    if_replaced (has_form w st c.form) (claim_quotient w (made (on_path w st) c.form) c.modulus (replaced (on_path w st) c.form) (w.notes.quotient (st.claims + 1))) st go

abbrev pub claim_congruences : {E : Type 0} → Placed E → List Congruence → State E → (State E → Tree E) → Tree E
claim_congruences w [] st go = go st
claim_congruences w (c ∷ cs) st go = claim_congruence w c st (λ st'. claim_congruences w cs st' go)

-- likewise of a form that is a multiple of another one: it is that form times the quotient. Where that product is none, nothing is shown
abbrev pub claim_product : {E : Type 0} → (made : List Fact) → Fact → (product : Option Fact) → State E → (State E → Tree E) → Tree E
claim_product made f None st go = claim OfCongruence true false (Divided made (constant (negsuc 0))) st go
claim_product made f (Some h) st go =
    claim OfCongruence true false (Divided (made ++ h ∷ []) (minus f h)) st (λ st1.
    claim OfCongruence true false (Divided [] (minus h f)) st1 go)

abbrev pub claim_multiple : {E : Type 0} → Placed E → Multiple → State E → (State E → Tree E) → Tree E
claim_multiple w m st go =
    if_replaced (has_form w st m.form && has_form w st m.of)
    (claim_product (made (on_path w st) m.form ++ made (on_path w st) m.of) (replaced (on_path w st) m.form) (small_product (replaced (on_path w st) m.of) (w.notes.quotient (st.claims + 1)))) st go

abbrev pub claim_multiples : {E : Type 0} → Placed E → List Multiple → State E → (State E → Tree E) → Tree E
claim_multiples w [] st go = go st
claim_multiples w (m ∷ ms) st go = claim_multiple w m st (λ st'. claim_multiples w ms st' go)

-- what is walked on from a term has numbers of its kind and shifts of at most 31, and where a place is reached variables have their kinds
-- and parameters that nothing assigns their arguments. Elaborated kernels are so; of others nothing is shown
abbrev pub is_lawful : Term → Bool
is_lawful e = covers_term (λ sp. true) e

abbrev pub refused : {E : Type 0} → State E → Tree E
refused st = never st (λ st'. Dead)

-- what is said of a place
abbrev pub claim_lines : {E : Type 0} → Placed E → (anchor head : Option ℕ) → State E → (State E → Tree E) → Tree E
claim_lines w a h st go =
    claim_facts w (facts_at w.notes a h) st (λ st1. claim_congruences w (congruences_at w.notes a h) st1 (λ st2. claim_multiples w (multiples_at w.notes a h) st2 go))

-- a place is reached
abbrev pub arrive_at : {E : Type 0} → Placed E → (anchor head : Option ℕ) → Stop → Turns → State E → Tree E
arrive_at w a h stop turns st =
    cond (are_slots w.kernel 0 (kinds w.kernel) st.variables) (claim_lines w a h st (λ st'. Leaf (arrived stop turns st'))) (refused st)

abbrev pub stops : {E : Type 0} → Placed E → Stop → Turns → State E → Tree E
stops w (AtBarrier n) turns st = arrive_at w (Some n) None (AtBarrier n) turns st
stops w (AtHead n again) turns st = arrive_at w w.anchor (Some n) (AtHead n again) turns st
stops w AtEnd turns st = Leaf (arrived AtEnd turns st)

-- a loop's ranking on the path, where it is
abbrev pub rank_on : {E : Type 0} → Placed E → ℕ → State E → Fact
rank_on w n st = cond (has_form w st (w.notes.ranking n).form) (replaced (on_path w st) (w.notes.ranking n).form) (constant (pos 0))

abbrev pub claim_rank : {E : Type 0} → Placed E → ℕ → (extra : List Fact) → Fact → State E → (State E → Tree E) → Tree E
claim_rank w n extra f st go =
    if_replaced (has_form w st (w.notes.ranking n).form) (claim OfRanking true (settles w.setting st f) (Replaced (made (on_path w st) (w.notes.ranking n).form ++ extra) f)) st go

-- where a loop opens its ranking is as its bound says; after a turn it has fallen, or grown
abbrev pub arrive : {E : Type 0} → Placed E → ℕ → (again : Bool) → State E → (State E → Tree E) → Tree E
arrive w n false st go = claim_rank w n [] (opens (w.notes.ranking n).bound (rank_on w n st)) (stand (spot_of n) st) go
arrive w n true st go = claim_rank w n (fallen_by (w.notes.ranking n).bound (rank_form st.ranks n) (rank_on w n st) ∷ []) (fallen (w.notes.ranking n).bound (rank_form st.ranks n) (rank_on w n st)) (stand (spot_of n) st) go

-- where its test was true its ranking is as its bound says
abbrev pub enter : {E : Type 0} → Placed E → ℕ → State E → (State E → Tree E) → Tree E
enter w n st go = claim_rank w n [] (holds (w.notes.ranking n).bound (rank_on w n st)) (stand (spot_of n) st) (λ st'. go (with_rank n (rank_on w n st) st'))

abbrev pub store : {E : Type 0} → Placed E → Statement → (index value : Value) → State E → (State E → Tree E) → Tree E
store w (Store n a site i e) x y st go = stored w.setting a site x y st go
store w (Set n x e) x' y st go = go st
store w (If n e t f) x y st go = go st
store w (Loop n e b u) x y st go = go st
store w (Barrier n l g) x y st go = go st
store w (Return n) x y st go = go st
store w (Break n k) x y st go = go st
store w (Continue n k) x y st go = go st

abbrev pub course : {E : Type 0} → Placed E → Terms (Tree E) (State E) Value
course w = record {
  value = λ n e st go. cond (is_lawful e) ((walk w.setting e).value (stand (spot_of n) st) go) (refused st);
  test = λ n e st taken skipped. cond (is_lawful e) ((walk w.setting e).test (stand (spot_of n) st) (λ b st'. chosen b (taken st') (skipped st'))) (refused st);
  set = λ st x f. assigned x f st;
  arrive = λ n again st go. arrive w n again st go;
  enter = λ n st go. enter w n st go;
  store = λ a x y st go. store w a x y st go;
  stops = λ stop turns st. stops w stop turns st;
}

abbrev pub placed : {E : Type 0} → Ghosts E → Kernel → Conditions → Notes → Place → Placed E
placed g k c n p = record { setting = setting g k c n.is_wide n.joins n.has_entry; kernel = k; notes = n; anchor = number_at p.anchor; head = number_at p.head }

-- the tree of a place, with so many claims before it
abbrev pub tree_of : {E : Type 0} → Ghosts E → Kernel → Conditions → Notes → (claims : ℕ) → Place → Tree E
tree_of g k c n claims p = sketch (course (placed g k c n p)) k.body p (root_state g (known g k.sizes c) k n claims (number_at p.anchor) (number_at p.head))
