-- Where the tree of a place begins: what is known of an item there.
use Rattle.std.specs.Prelude.{ℕ, suc, pos, Bool, true, false, not, ◌&&◌, ◌||◌, cond, nat_eq, nat_lt, List, [], ◌∷◌, ◌++◌, length, slice_index_or, Option, Some, None}
use Rattle.std.specs.Ordering.{int_eq}
use Rattle.linear.specs.Linear.{Weighted}
use Rattle.semantics.specs.Word.{Kind, Int}
pub use Rattle.semantics.specs.Word.{same_kind}
use Rattle.semantics.specs.Core.{Statement, Set, Store, If, Loop, Barrier, Return, Break, Continue, Statements, none, one}
use Rattle.semantics.specs.Launch.{Kernel}
use Rattle.domain.specs.declared.Domain.{Ghosts}
use Rattle.linear.specs.Exact.{is_rising, multiple}
use Rattle.facts.specs.Symbols.{First, ArgumentOf, New, Variable, AtAnchor, Symbol, number, Fact, constant, once, minus, equals}
use Rattle.facts.specs.Launching.{item_facts}
use Rattle.facts.specs.Elements.{Known}
use Rattle.walk_trees.specs.Held.{Held, Narrowed, narrow}
use Rattle.walk_trees.specs.Values.{Value, value}
use Rattle.walk_trees.specs.Terms.{no_value}
use Rattle.walk_trees.specs.Walks.{State, any_of, least, greatest}
use Rattle.walk_trees.specs.Statements.{spot_of, opening_values}
use Rattle.walk_trees.specs.Operators.{small_product}
use Rattle.obligations.specs.Notes.{Congruence, Multiple, Notes}

-- some statement assigns the variable
abbrev mutual
  pub sets : ℕ → Statement → Bool
  sets x (Set n y e) = nat_eq y x
  sets x (Store n a site i e) = false
  sets x (If n e t f) = some_sets x t || some_sets x f
  sets x (Loop n e b u) = some_sets x b || some_sets x u
  sets x (Barrier n l g) = false
  sets x (Return n) = false
  sets x (Break n k) = false
  sets x (Continue n k) = false

  pub some_sets : ℕ → Statements → Bool
  some_sets x none = false
  some_sets x (one s ss) = sets x s || some_sets x ss

-- a value parameter that nothing assigns keeps its argument
abbrev pub is_kept : Kernel → ℕ → Bool
is_kept k x = nat_lt x (length k.arguments) && not (some_sets x k.body)

abbrev pub kinds : Kernel → List Kind
kinds k = k.arguments ++ k.variables

abbrev pub kind_of : Kernel → ℕ → Kind
kind_of k x = slice_index_or (kinds k) x Int

abbrev pub root_form : Kernel → ℕ → Fact
root_form k x = cond (is_kept k x) (once (ArgumentOf x)) (once (Variable First x))

abbrev pub values_from : Kernel → ℕ → List Kind → List Value
values_from k x [] = []
values_from k x (a ∷ as') = value a (root_form k x) ∷ values_from k (suc x) as'

-- an item opens with its arguments; elsewhere a variable is a symbol
abbrev pub root_values : Kernel → (anchor head : Option ℕ) → List Value
root_values k None None = opening_values k
root_values k None (Some h) = values_from k 0 (kinds k)
root_values k (Some b) h = values_from k 0 (kinds k)

-- the form is a parameter's argument
abbrev pub is_argument_term : ℕ → List (Weighted ℕ) → Bool
is_argument_term x [] = false
is_argument_term x (t ∷ []) = int_eq t.coefficient (pos 1) && nat_eq t.symbol (number (ArgumentOf x))
is_argument_term x (t ∷ (u ∷ ts)) = false

abbrev pub is_argument : ℕ → Fact → Bool
is_argument x f = is_argument_term x f.terms && int_eq f.constant (pos 0)

-- each value is of its variable's kind, and a parameter that nothing assigns is its argument
abbrev pub is_slot : Kernel → ℕ → Kind → Value → Bool
is_slot k x a v = same_kind v.kind a && (not (is_kept k x) || is_argument x v.form)

abbrev pub are_slots : Kernel → ℕ → List Kind → List Value → Bool
are_slots k x [] [] = true
are_slots k x [] (v ∷ vs) = false
are_slots k x (a ∷ as') [] = false
are_slots k x (a ∷ as') (v ∷ vs) = is_slot k x a v && are_slots k (suc x) as' vs

abbrev pub anchor_form : Kernel → ℕ → Fact
anchor_form k x = cond (is_kept k x) (once (ArgumentOf x)) (once (AtAnchor First x))

-- what the variables were at the anchor: at the anchor itself what they are
abbrev pub anchor_forms : Kernel → (anchor head : Option ℕ) → ℕ → Fact
anchor_forms k a None x = (slice_index_or (root_values k a None) x no_value).form
anchor_forms k a (Some h) x = anchor_form k x

abbrev pub narrowed_from : {E : Type 0} → Ghosts E → (ℕ → Symbol) → ℕ → List Kind → List (Narrowed E)
narrowed_from g s x [] = []
narrowed_from g s x (a ∷ as') = record { symbol = number (s x); element = any_of g a } ∷ narrowed_from g s (suc x) as'

-- a variable is a number of its kind; at a loop those of the anchor too
abbrev pub root_narrowed : {E : Type 0} → Ghosts E → Kernel → (anchor head : Option ℕ) → List (Narrowed E)
root_narrowed g k None None = []
root_narrowed g k (Some b) None = narrowed_from g (Variable First) 0 (kinds k)
root_narrowed g k a (Some h) = narrowed_from g (Variable First) 0 (kinds k) ++ narrowed_from g (AtAnchor First) 0 (kinds k)

abbrev pub tops : {E A : Type 0} → Ghosts E → List A → List E
tops g [] = []
tops g (x ∷ xs) = g.top_of ∷ tops g xs

-- of the entry nothing is said
abbrev pub facts_at : Notes → (anchor head : Option ℕ) → List Fact
facts_at n None None = []
facts_at n None (Some h) = n.facts None (Some h)
facts_at n (Some b) h = n.facts (Some b) h

abbrev pub congruences_at : Notes → (anchor head : Option ℕ) → List Congruence
congruences_at n None None = []
congruences_at n None (Some h) = n.congruences None (Some h)
congruences_at n (Some b) h = n.congruences (Some b) h

-- multiples of forms are of the wide walk
abbrev pub multiples_at : Notes → (anchor head : Option ℕ) → List Multiple
multiples_at n None None = []
multiples_at n None (Some h) = cond n.is_wide (n.multiples None (Some h)) []
multiples_at n (Some b) h = cond n.is_wide (n.multiples (Some b) h) []

-- a fact whose terms are in the order of a form's narrows as that of a test
abbrev pub narrow_where : {E : Type 0} → Ghosts E → Known E → Bool → Fact → Held E → Held E
narrow_where g k true f h = narrow g k f h
narrow_where g k false f h = h

abbrev pub narrow_all : {E : Type 0} → Ghosts E → Known E → List Fact → Held E → Held E
narrow_all g k [] h = h
narrow_all g k (f ∷ fs) h = narrow_all g k fs (narrow_where g k (is_rising 0 f.terms) f h)

abbrev pub root_held : {E : Type 0} → Ghosts E → Kernel → Notes → (anchor head : Option ℕ) → Held E
root_held g k n a h = record { news = tops g (congruences_at n a h) ++ tops g (multiples_at n a h); narrowed = root_narrowed g k a h }

-- in the wide walk what is said of the place narrows
abbrev pub root_known : {E : Type 0} → Ghosts E → Known E → Kernel → Notes → (anchor head : Option ℕ) → Held E
root_known g e k n a h = cond n.is_wide (narrow_all g e (facts_at n a h) (root_held g k n a h)) (root_held g k n a h)

-- a state with so many claims before it
abbrev pub root_state : {E : Type 0} → Ghosts E → Known E → Kernel → Notes → (claims : ℕ) → (anchor head : Option ℕ) → State E
root_state g e k n c a h = record { claims = c; variables = root_values k a h; ranks = []; quotients = []; held = root_known g e k n a h; at = spot_of 0 }

-- the two ends of a variable's kind
abbrev pub ends_of : Kernel → (ℕ → Symbol) → ℕ → List Fact
ends_of k s x = minus (once (s x)) (constant (least (kind_of k x))) ∷ minus (constant (greatest (kind_of k x))) (once (s x)) ∷ []

abbrev pub all_ends : Kernel → (ℕ → Symbol) → List ℕ → List Fact
all_ends k s [] = []
all_ends k s (x ∷ xs) = ends_of k s x ++ all_ends k s xs

-- each congruence has a quotient, a new symbol
abbrev pub congruence_facts : ℕ → List Congruence → List Fact
congruence_facts i [] = []
congruence_facts i (c ∷ cs) = equals c.form (multiple (pos c.modulus) (once (New First i))) ++ congruence_facts (suc i) cs

-- so has each multiple, where the product of its quotient is
abbrev pub multiple_fact : Fact → Option Fact → List Fact
multiple_fact f None = []
multiple_fact f (Some h) = equals f h

abbrev pub multiple_facts : ℕ → List Multiple → List Fact
multiple_facts i [] = []
multiple_facts i (m ∷ ms) = multiple_fact m.form (small_product m.of (once (New First i))) ++ multiple_facts (suc i) ms

-- the facts of congruences, then those of multiples
abbrev pub quotient_facts : List Congruence → List Multiple → List Fact
quotient_facts cs ms = congruence_facts 0 cs ++ multiple_facts (length cs) ms

-- the variables that are visible at the place, and at a loop those of the anchor
abbrev pub range_facts : Kernel → Notes → (anchor head : Option ℕ) → List Fact
range_facts k n None None = []
range_facts k n (Some b) None = all_ends k (Variable First) (n.visible (Some b))
range_facts k n a (Some h) = all_ends k (Variable First) (n.visible (Some h)) ++ all_ends k (AtAnchor First) (n.visible a)

abbrev pub root_facts : Kernel → Notes → (anchor head : Option ℕ) → List Fact
root_facts k n a h = item_facts k.sizes First ++ (range_facts k n a h ++ (facts_at n a h ++ quotient_facts (congruences_at n a h) (multiples_at n a h)))
