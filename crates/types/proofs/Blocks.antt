-- Blocks, and statements behind others.
use Rattle.std.proofs.Common.{◌≡◌, ℕ, suc, ◌+◌, ◌<◌, ◌≤◌, List, [], ◌∷◌, ◌++◌, length, drop, get_or, Result, Ok, Err, refl, ap, ◌∙◌, sym, add-one, drop-cons}
use Rattle.std.proofs.Math.ListN.{drop_of_length-le}
use Rattle.semantics.specs.Core as core
use Rattle.texts.specs.Surface as surface
use Rattle.types.specs.TypeFaults.{Checked, then}
use Rattle.types.specs.Scope.{Scope, leave_block}
use Rattle.types.specs.Typing.{TypedTerm, type_of}
use Rattle.types.specs.Elaboration.{Elaborated, elaborated, single, join, elaborate_first, Around, InLoop, inside, elaborate_statement, elaborate_all}
use Rattle.core_code.specs.View.{statement, statements}
use Rattle.types.specs.Blocks.{behind, block, repeated, turn, otherwise}
use Rattle.types.specs.Answers.{Gives, Refuses}
use Rattle.core_code.specs.declared.tree.Statement.{Statement}
use Rattle.types.specs.declared.error.TypeError.{TypeError}
use Rattle.types.specs.declared.error.TypeError.TheVariants as errors
use Rattle.syntax.specs.View.{statement as stmt, statements as stmts}
use Rattle.syntax.specs.declared.tree.Stmt.{Stmt}
use Rattle.core_code.proofs.Rows.{seen_if, seen_loop}

then-then : {A B C : Type 0} → (a : Checked A) (f : A → Checked B) (g : B → Checked C) → then (then a f) g ≡ then a (λ x. then (f x) g)
then-then (Ok a) f g = refl
then-then (Err e) f g = refl

pub block-if : (around : Around) (sc : Scope) (n : ℕ) (s : core.Site) (e : surface.Expression) (a b : surface.Statements) → elaborate_statement around sc (surface.If n s e a b) ≡ then (type_of sc.devices sc.visible e) (λ t. then (block around sc a) (λ x. otherwise around x.scope n t.term x.statements b))
unfolding elaborate_statement
block-if around sc n s e a b = simp then-then

pub block-while : (around : Around) (sc : Scope) (n : ℕ) (s : core.Site) (e : surface.Expression) (a : surface.Statements) → elaborate_statement around sc (surface.While n s e a) ≡ then (type_of sc.devices sc.visible e) (λ t. then (block (InLoop n) sc a) (λ x. Ok (elaborated (single (core.Loop n t.term x.statements core.none)) x.scope)))
unfolding elaborate_statement
block-while around sc n s e a = simp then-then

pub block-for : (around : Around) (sc : Scope) (n : ℕ) (s : core.Site) (first : surface.First) (e : surface.Expression) (update : surface.Assignment) (a : surface.Statements) → elaborate_statement around sc (surface.For n s first e update a) ≡ then (elaborate_first sc first) (λ f. then (repeated f.scope n e update a) (λ x. Ok (elaborated (join f.statements x.statements) (leave_block sc x.scope))))
unfolding elaborate_statement
block-for around sc n s first e update a = simp then-then

pub join-none : (a : core.Statements) → join a core.none ≡ a
join-none core.none = refl
join-none (core.one s ss) = ap (core.one s) (join-none ss)

join-join : (a b c : core.Statements) → join (join a b) c ≡ join a (join b c)
join-join core.none b c = refl
join-join (core.one s ss) b c = ap (core.one s) (join-join ss b c)

pub statements-snoc : (a : List Statement) (s : Statement) → statements (a ++ s ∷ []) ≡ join (statements a) (single (statement s))
statements-snoc [] s = refl
statements-snoc (x ∷ xs) s = ap (core.one (statement x)) (statements-snoc xs s)

-- one statement behind others, then what follows it
pub behind-one : (around : Around) (before : core.Statements) (sc : Scope) (s : surface.Statement) (ss : surface.Statements) → behind before (elaborate_all around sc (surface.one s ss)) ≡ then (behind before (elaborate_statement around sc s)) (λ a. behind a.statements (elaborate_all around a.scope ss))
unfolding elaborate_statement
behind-one around before sc s ss = simp (then-then, join-join)

pub behind-nothing : (before : core.Statements) (sc : Scope) → behind before (Ok (elaborated core.none sc)) ≡ Ok (elaborated before sc)
behind-nothing before sc = ap (λ b. Ok (elaborated b sc)) (join-none before)

pub behind-none : (answer : Checked Elaborated) → behind core.none answer ≡ answer
behind-none (Ok e) = refl
behind-none (Err e) = refl

pub all-done : (around : Around) (out : core.Statements) (sc : Scope) (ss : List Stmt) (i : ℕ) → length ss ≤ i → behind out (elaborate_all around sc (stmts (drop i ss))) ≡ Ok (elaborated out sc)
unfolding elaborate_statement
all-done around out sc ss i h = rw (drop_of_length-le ss h) (ap (λ b. Ok (elaborated b sc)) (join-none out))

pub all-step : (around : Around) (out : core.Statements) (sc : Scope) (ss : List Stmt) (i : ℕ) (s : Stmt) → i < length ss → s ≡ get_or ss i s → behind out (elaborate_all around sc (stmts (drop i ss))) ≡ then (behind out (elaborate_statement around sc (stmt s))) (λ a. behind a.statements (elaborate_all around a.scope (stmts (drop (i + 1) ss))))
all-step around out sc ss i s h e = rw (add-one, drop-cons ss i s, ← e) (behind-one around out sc (stmt s) (stmts (drop (suc i) ss)))

-- what an answer stands for, behind others
pub gives-behind : {A : Type 0} → (r : Result A TypeError) (x : Checked Elaborated) (out : core.Statements) (after : Scope) → Gives (λ _. elaborated core.none after) r x → Gives (λ _. elaborated out after) r (behind out x)
gives-behind (Ok a) x out after h = rw h (ap (λ b. Ok (elaborated b after)) (join-none out))
gives-behind (Err (errors.At f s)) x out after h = rw h refl
gives-behind (Err errors.Memory) x out after h = tt

pub gives-alone : (r : Result Statement TypeError) (x : Checked core.Statement) (sc : Scope) → Gives statement r x → Gives (λ s. elaborated (single (statement s)) sc) r (then x (λ s. Ok (elaborated (single s) sc)))
gives-alone (Ok s) x sc h = rw h refl
gives-alone (Err (errors.At f s)) x sc h = rw h refl
gives-alone (Err errors.Memory) x sc h = tt

pub if-taken : (around : Around) (sc : Scope) (n : ℕ) (s : core.Site) (e : surface.Expression) (a b : surface.Statements) (t : TypedTerm) (x : Elaborated) → type_of sc.devices sc.visible e ≡ Ok t → behind core.none (block around sc a) ≡ Ok x → elaborate_statement around sc (surface.If n s e a b) ≡ otherwise around x.scope n t.term x.statements b
if-taken around sc n s e a b t x p q = block-if around sc n s e a b ∙ rw (p, sym (behind-none (block around sc a)) ∙ q) refl

pub if-refused : (around : Around) (sc : Scope) (n : ℕ) (s : core.Site) (e : surface.Expression) (a b : surface.Statements) (t : TypedTerm) (error : TypeError) (out : core.Statements) → type_of sc.devices sc.visible e ≡ Ok t → Refuses error (behind core.none (block around sc a)) → Refuses error (behind out (elaborate_statement around sc (surface.If n s e a b)))
if-refused around sc n s e a b t (errors.At f at) out p q = rw (block-if around sc n s e a b, p, sym (behind-none (block around sc a)) ∙ q) refl
if-refused around sc n s e a b t errors.Memory out p q = tt

outside : (sc : Scope) (out : core.Statements) (a : Checked Elaborated) (x : Elaborated) → behind out a ≡ Ok x → behind out (then a (λ b. Ok (elaborated b.statements (leave_block sc b.scope)))) ≡ Ok (elaborated x.statements (leave_block sc x.scope))
outside sc out (Ok e) x h = let k : elaborated (join out e.statements) e.scope ≡ x = cc in ap (λ y. Ok (elaborated y.statements (leave_block sc y.scope))) k
outside sc out (Err e) x h = cc

pub block-done : (around : Around) (sc : Scope) (body : surface.Statements) (out : core.Statements) (x : Elaborated) → behind out (elaborate_all (inside around) sc body) ≡ Ok x → behind out (block around sc body) ≡ Ok (elaborated x.statements (leave_block sc x.scope))
block-done around sc body out x h = outside sc out (elaborate_all (inside around) sc body) x h

pub otherwise-done : (around : Around) (sc : Scope) (n : ℕ) (test : core.Term) (taken : core.Statements) (skipped : surface.Statements) (x : Elaborated) → behind core.none (block around sc skipped) ≡ Ok x → otherwise around sc n test taken skipped ≡ Ok (elaborated (single (core.If n test taken x.statements)) x.scope)
otherwise-done around sc n test taken skipped x h = rw (sym (behind-none (block around sc skipped)) ∙ h) refl

pub while-done : (around : Around) (sc : Scope) (n : ℕ) (s : core.Site) (e : surface.Expression) (body : surface.Statements) (t : TypedTerm) (x : Elaborated) → type_of sc.devices sc.visible e ≡ Ok t → behind core.none (block (InLoop n) sc body) ≡ Ok x → elaborate_statement around sc (surface.While n s e body) ≡ Ok (elaborated (single (core.Loop n t.term x.statements core.none)) x.scope)
while-done around sc n s e body t x p q = block-while around sc n s e body ∙ rw (p, sym (behind-none (block (InLoop n) sc body)) ∙ q) refl

pub repeated-done : (sc : Scope) (n : ℕ) (e : surface.Expression) (update : surface.Assignment) (body : surface.Statements) (u : core.Term × core.Statement) (x : Elaborated) → turn sc e update ≡ Ok u → behind core.none (block (InLoop n) sc body) ≡ Ok x → repeated sc n e update body ≡ Ok (elaborated (single (core.Loop n u.0 x.statements (single u.1))) x.scope)
repeated-done sc n e update body u x q r = rw (q, sym (behind-none (block (InLoop n) sc body)) ∙ r) refl

pub for-done : (around : Around) (sc : Scope) (n : ℕ) (s : core.Site) (first : surface.First) (e : surface.Expression) (update : surface.Assignment) (body : surface.Statements) (f x : Elaborated) → elaborate_first sc first ≡ Ok f → repeated f.scope n e update body ≡ Ok x → elaborate_statement around sc (surface.For n s first e update body) ≡ Ok (elaborated (join f.statements x.statements) (leave_block sc x.scope))
for-done around sc n s first e update body f x p q = block-for around sc n s first e update body ∙ rw (p, q) refl

pub for-first : (around : Around) (sc : Scope) (n : ℕ) (s : core.Site) (first : surface.First) (e : surface.Expression) (update : surface.Assignment) (body : surface.Statements) (error : TypeError) (out : core.Statements) → Refuses error (elaborate_first sc first) → Refuses error (behind out (elaborate_statement around sc (surface.For n s first e update body)))
for-first around sc n s first e update body (errors.At f at) out p = rw (block-for around sc n s first e update body, p) refl
for-first around sc n s first e update body errors.Memory out p = tt

pub for-repeated : (around : Around) (sc : Scope) (n : ℕ) (s : core.Site) (first : surface.First) (e : surface.Expression) (update : surface.Assignment) (body : surface.Statements) (f : Elaborated) (error : TypeError) (out : core.Statements) → elaborate_first sc first ≡ Ok f → Refuses error (repeated f.scope n e update body) → Refuses error (behind out (elaborate_statement around sc (surface.For n s first e update body)))
for-repeated around sc n s first e update body f (errors.At fault at) out p q = rw (block-for around sc n s first e update body, p, q) refl
for-repeated around sc n s first e update body f errors.Memory out p q = tt

pub behind-two : (out : List Statement) (a b : Statement) → join (statements out) (join (single (statement a)) (single (statement b))) ≡ statements ((out ++ a ∷ []) ++ b ∷ [])
behind-two out a b = sym (statements-snoc (out ++ a ∷ []) b ∙ ap (λ x. join x (single (statement b))) (statements-snoc out a) ∙ join-join (statements out) (single (statement a)) (single (statement b)))

pub ruleset in_order = (behind-one)

pub ruleset alone = (block-while, block-for, join-none, seen_if, seen_loop)
