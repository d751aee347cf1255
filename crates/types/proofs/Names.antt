-- Statements add names behind those that were visible.
use Rattle.std.proofs.Common.{Bor, ◌≡◌, ℕ, Bool, true, false, List, [], ◌∷◌, ◌++◌, length, take, rules, Ok, Err, refl, ap, ◌∙◌, sym, append_assoc}
use Rattle.std.proofs.lemmas.List.{length-map, take-map}
use Rattle.std.proofs.Math.Seq.{take-append_seam}
use Rattle.indexmap.specs.IndexMap.{IndexMap}
use Rattle.semantics.specs.Core as core
use Rattle.semantics.specs.Word.{Kind}
use Rattle.texts.specs.Surface as surface
use Rattle.types.specs.TypeFaults.{TypeFault, NameTwice, Checked, then, when}
use Rattle.types.specs.Scope.{Scope, Binding, ArrayAt, may_declare, bind, declare_array}
use Rattle.types.specs.Blocks.{behind, block, repeated}
use Rattle.types.specs.Names.{binding, names}
use Rattle.types.specs.declared.scope.Meaning.{Meaning}
use Rattle.types.specs.Elaboration.{Elaborated, elaborated, join, elaborate_declaration, elaborate_first, Around, InKernel, InBlock, InLoop, elaborate_statement, elaborate_all}

abbrev pub Extends : List Binding → List Binding → Type 0
Extends old new = (more : List Binding) × (new ≡ old ++ more)

same : (names : List Binding) → Extends names names
same names = ([], search rules)

last : (names : List Binding) (b : Binding) → Extends names (names ++ b ∷ [])
last names b = (b ∷ [], refl)

further : (a b c : List Binding) → Extends a b → Extends b c → Extends a c
further a b c (m, p) (n, q) = (m ++ n, q ∙ ap (λ x. x ++ n) p ∙ append_assoc a m n)

abbrev pub Keeps : List Binding → Checked Elaborated → Type 0
Keeps names (Ok e) = Extends names e.scope.visible
Keeps names (Err e) = Unit {0}

keeps-then : {A : Type 0} → (names : List Binding) (a : Checked A) (go : A → Checked Elaborated) → ((x : A) → Keeps names (go x)) → Keeps names (then a go)
keeps-then names (Ok x) go h = h x
keeps-then names (Err e) go h = tt

lifts : (a b : List Binding) (x : Checked Elaborated) → Extends a b → Keeps b x → Keeps a x
lifts a b (Ok e) h k = further a b e.scope.visible h k
lifts a b (Err e) h k = tt

keeps-both : (names : List Binding) (a : Checked Elaborated) (go : Elaborated → Checked Elaborated) → Keeps names a → ((x : Elaborated) → Keeps x.scope.visible (go x)) → Keeps names (then a go)
keeps-both names (Ok x) go k h = lifts names x.scope.visible (go x) k (h x)
keeps-both names (Err e) go k h = tt

found-first : (names : List Binding) (x : Checked Elaborated) (answer : Elaborated) → Keeps names x → x ≡ Ok answer → take (length names) answer.scope.visible ≡ names
found-first names (Ok e) answer (more, k) h =
    let i : e ≡ answer = cc in
    ap (λ y. take (length names) y.scope.visible) (sym i) ∙ ap (take (length names)) k ∙ take-append_seam names more
found-first names (Err e) answer k h = cc

left : (names : List Binding) (out : core.Statements) (x : Checked Elaborated) (answer : Elaborated) → Keeps names x → behind out x ≡ Ok answer → take (length names) answer.scope.visible ≡ names
left names out (Ok e) answer (more, k) h =
    let i : e.scope.visible ≡ answer.scope.visible = cc in
    ap (take (length names)) (sym i ∙ k) ∙ take-append_seam names more
left names out (Err e) answer k h = cc

keeps-when : (names : List Binding) (b : Bool) (fault : TypeFault) (s : core.Site) (inner : Scope) (ss : core.Statements) → Extends names inner.visible → Keeps names (then (when b fault s inner) (λ x. Ok (elaborated ss x)))
keeps-when names true fault s inner ss h = h
keeps-when names false fault s inner ss h = tt

keeps-declaration : (sc : Scope) (d : surface.Declaration) → Keeps sc.visible (elaborate_declaration sc d)
unfolding elaborate_declaration
keeps-declaration sc d = search (keeps-then, keeps-when, last)

keeps-array : (sc : Scope) (s : core.Site) (kind : Kind) (name : List ℕ) (size : ℕ) → Keeps sc.visible (then (declare_array sc s name kind size) (λ inner. Ok (elaborated core.none inner)))
keeps-array sc s kind name size = keeps-when sc.visible (may_declare sc name) NameTwice s (bind (record sc { arrays = sc.arrays ++ record { kind = kind; length = size } ∷ [] }) name (ArrayAt (record { space = core.Local; number = length sc.arrays }) kind true)) core.none (_, refl)

keeps-first : (sc : Scope) (first : surface.First) → Keeps sc.visible (elaborate_first sc first)
keeps-first sc (surface.FirstDeclares d) = keeps-declaration sc d
keeps-first sc (surface.FirstAssigns a) = search (keeps-then, same)

keeps-statement : (around : Around) (sc : Scope) (s : surface.Statement) → Keeps sc.visible (elaborate_statement around sc s)
unfolding elaborate_statement
keeps-statement around sc (surface.Declare d) = keeps-declaration sc d
keeps-statement InKernel sc (surface.DeclareArray n s k t name size) = keeps-array sc t k name size
keeps-statement InBlock sc (surface.DeclareArray n s k t name size) = tt
keeps-statement (InLoop loop) sc (surface.DeclareArray n s k t name size) = tt
keeps-statement around sc (surface.Assign a) = search (keeps-then, same)
keeps-statement around sc (surface.If n s test a b) = search (keeps-then, same)
keeps-statement around sc (surface.While n s test a) = search (keeps-then, same)
keeps-statement around sc (surface.For n s first test update a) = search (keeps-then, same)
keeps-statement around sc (surface.Barrier n s flags) = search (keeps-then, same)
keeps-statement around sc (surface.Jump n s jump) = search (keeps-then, same)
keeps-statement around sc (surface.Block n s a) = search (keeps-then, same)

keeps-all : (around : Around) (sc : Scope) (ss : surface.Statements) → Keeps sc.visible (elaborate_all around sc ss)
unfolding elaborate_statement
keeps-all around sc surface.none = same sc.visible
keeps-all around sc (surface.one s ss) =
    keeps-both sc.visible (elaborate_statement around sc s) (λ a. then (elaborate_all around a.scope ss) (λ b. Ok (elaborated (join a.statements b.statements) b.scope)))
    (keeps-statement around sc s)
    (λ a. keeps-both a.scope.visible (elaborate_all around a.scope ss) (λ b. Ok (elaborated (join a.statements b.statements) b.scope)) (keeps-all around a.scope ss) (λ b. same b.scope.visible))

-- as many names as were visible before are those, at the end
pub names-left : (around : Around) (before : Scope) (ss : surface.Statements) (out : core.Statements) (answer : Elaborated) → behind out (elaborate_all around before ss) ≡ Ok answer → take (length before.visible) answer.scope.visible ≡ before.visible
names-left around before ss out answer h = left before.visible out (elaborate_all around before ss) answer (keeps-all around before ss) h

-- a block, and what a `for` repeats, leave as many names as they found
Leaves : List Binding → Checked Elaborated → Type 0
Leaves names answer = (e : Elaborated) → answer ≡ Ok e → e.scope.visible ≡ names

leaves-then : {A : Type 0} → (names : List Binding) (a : Checked A) (go : A → Checked Elaborated) → ((x : A) → Leaves names (go x)) → Leaves names (then a go)
unfolding Leaves
leaves-then names (Ok x) go h = h x
leaves-then names (Err e) go h = λ e i. cc

leaves-ok : (names : List Binding) (x : Elaborated) → x.scope.visible ≡ names → Leaves names (Ok x)
unfolding Leaves
leaves-ok names x h = λ e i. let k : x ≡ e = cc in ap (λ y. y.scope.visible) (sym k) ∙ h

ends : (names : List Binding) (a : Checked Elaborated) (f : Elaborated → core.Statements) → Leaves names a → Leaves names (then a (λ x. Ok (elaborated (f x) x.scope)))
unfolding Leaves
ends names (Ok x) f h = λ e i. let k : elaborated (f x) x.scope ≡ e = cc in ap (λ y. y.scope.visible) (sym k) ∙ h x refl
ends names (Err e) f h = λ e i. cc

block-leaves : (around : Around) (sc : Scope) (body : surface.Statements) → Leaves sc.visible (block around sc body)
block-leaves around sc body = search (leaves-then, leaves-ok)

repeated-leaves : (sc : Scope) (n : ℕ) (e : surface.Expression) (update : surface.Assignment) (body : surface.Statements) → Leaves sc.visible (repeated sc n e update body)
repeated-leaves sc n e update body = search (leaves-then, ends, block-leaves (InLoop n) sc body)

pub for-left : (sc : Scope) (first : surface.First) (f : Elaborated) (n : ℕ) (e : surface.Expression) (update : surface.Assignment) (body : surface.Statements) (x : Elaborated) → elaborate_first sc first ≡ Ok f → repeated f.scope n e update body ≡ Ok x → take (length sc.visible) x.scope.visible ≡ sc.visible
unfolding Leaves
for-left sc first f n e update body x p q =
    ap (take (length sc.visible)) (repeated-leaves f.scope n e update body x q) ∙ found-first sc.visible (elaborate_first sc first) f (keeps-first sc first) p

-- what is kept of the code's names
pub names-kept : {S : Type 0} (before mid rest : IndexMap (Bor (List ℕ)) Meaning S) (n : ℕ) → n ≡ length before.entries → rest.entries ≡ take n mid.entries → take (length (names before)) (names mid) ≡ names before → names rest ≡ names before
names-kept before mid rest n e r h = rw (r, e, ← length-map before.entries binding, ← take-map binding (length (names before)) mid.entries) h
