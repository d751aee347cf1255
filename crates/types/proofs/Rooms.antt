-- Statements declare no more names than stand in them.
use Rattle.std.proofs.Common.{◌≡◌, ℕ, ◌+◌, ◌≤◌, ◌<◌, Bool, true, false, not, List, [], ◌∷◌, ◌++◌, length, drop, get_or, Ok, Err, refl, ap, subst, arith, add-one, drop-cons}
use Rattle.std.proofs.lemmas.List.{length-append, length-drop}
use Rattle.semantics.specs.Core as core
use Rattle.semantics.specs.Word.{Kind}
use Rattle.texts.specs.Surface as surface
use Rattle.types.specs.TypeFaults.{TypeFault, NameTwice, Checked, then, when}
use Rattle.types.specs.Scope.{Scope, VariableAt, ArrayAt, may_declare, bind, declare_array, leave_block}
use Rattle.types.specs.Typing.{type_of}
use Rattle.texts.specs.Declarations.{declared_first, declared_in, declared_by}
use Rattle.types.specs.Elaboration.{Elaborated, elaborated, declare_parameter, declare_parameters, elaborate_assignment, elaborate_declaration, elaborate_first, elaborate_statement, elaborate_all, barrier_of, Around, InKernel, InBlock, InLoop, inside, jump_to}
use Rattle.types.specs.Blocks.{behind, block}
use Rattle.types.specs.Rooms.{declared}
use Rattle.std.specs.Prelude.{Vec}
use Rattle.std.specs.declared.alloc.Global.{Global}
use Rattle.core_code.specs.declared.tree.Site.{Site}
use Rattle.syntax.proofs.Rows.{seen_if, seen_while, seen_for, seen_block}
use Rattle.std.specs.Prelude.{map}
use Rattle.syntax.specs.View.{parameter, statement as stmt, statements as stmts, first as first_of}
use Rattle.syntax.specs.declared.tree.Parameter.{Parameter}
use Rattle.syntax.specs.declared.tree.Assignment.{Assignment}
use Rattle.syntax.specs.declared.tree.Expr.{Expr}
use Rattle.syntax.specs.declared.tree.First.{First}
use Rattle.syntax.specs.declared.tree.Stmt.{Stmt, If, While, For, Block}

-- what is typed has at most so many names
abbrev pub Holds : (most : ℕ) → Checked Elaborated → Type 0
Holds most (Ok e) = declared e.scope ≤ most
Holds most (Err e) = Unit {0}

holds-then : {A : Type 0} → (most : ℕ) (a : Checked A) (go : A → Checked Elaborated) → ((x : A) → Holds most (go x)) → Holds most (then a go)
holds-then most (Ok x) go h = h x
holds-then most (Err e) go h = tt

holds-both : (few most : ℕ) (a : Checked Elaborated) (go : Elaborated → Checked Elaborated) → Holds few a → ((x : Elaborated) → declared x.scope ≤ few → Holds most (go x)) → Holds most (then a go)
holds-both few most (Ok x) go k h = h x k
holds-both few most (Err e) go k h = tt

holds-when : (most : ℕ) (b : Bool) (fault : TypeFault) (s : core.Site) (inner : Scope) (ss : core.Statements) → declared inner ≤ most → Holds most (then (when b fault s inner) (λ x. Ok (elaborated ss x)))
holds-when most true fault s inner ss h = h
holds-when most false fault s inner ss h = tt

last : {A : Type 0} (xs : List A) (x : A) → length (xs ++ x ∷ []) ≡ length xs + 1
last xs x = length-append xs (x ∷ [])

holds-declaration : (sc : Scope) (d : surface.Declaration) → Holds (declared sc + 1) (elaborate_declaration sc d)
unfolding elaborate_declaration
holds-declaration sc d =
    holds-then (declared sc + 1) (type_of sc.devices sc.visible d.value) _ (λ v.
    holds-when (declared sc + 1) (may_declare sc d.name) NameTwice d.name_site (bind (record sc { slots = sc.slots ++ d.kind ∷ [] }) d.name (VariableAt (length sc.slots) d.kind)) _ (omega (arith, last sc.slots d.kind)))

holds-array : (sc : Scope) (s : core.Site) (kind : Kind) (name : List ℕ) (size : ℕ) → Holds (declared sc + 1) (then (declare_array sc s name kind size) (λ inner. Ok (elaborated core.none inner)))
holds-array sc s kind name size =
    holds-when (declared sc + 1) (may_declare sc name) NameTwice s (bind (record sc { arrays = sc.arrays ++ record { kind = kind; length = size } ∷ [] }) name (ArrayAt (record { space = core.Local; number = length sc.arrays }) kind true)) core.none
    (omega (arith, last sc.arrays (record { kind = kind; length = size })))

holds-first : (sc : Scope) (first : surface.First) → Holds (declared sc + declared_first first) (elaborate_first sc first)
holds-first sc (surface.FirstDeclares d) = holds-declaration sc d
holds-first sc (surface.FirstAssigns a) = holds-then (declared sc + 0) (elaborate_assignment sc a) _ (λ s. omega arith)

mutual
  unfolding elaborate_statement

  holds-statement : (around : Around) (sc : Scope) (s : surface.Statement) → Holds (declared sc + declared_in s) (elaborate_statement around sc s)
  holds-statement around sc (surface.Declare d) = holds-declaration sc d
  holds-statement InKernel sc (surface.DeclareArray n s k t name size) = holds-array sc t k name size
  holds-statement InBlock sc (surface.DeclareArray n s k t name size) = tt
  holds-statement (InLoop loop) sc (surface.DeclareArray n s k t name size) = tt
  holds-statement around sc (surface.Assign a) = holds-then (declared sc + 0) (elaborate_assignment sc a) _ (λ s. omega arith)
  holds-statement around sc (surface.If n s test a b) =
      holds-then (declared sc + (declared_by a + declared_by b)) (type_of sc.devices sc.visible test) _ (λ t.
      holds-both (declared sc + declared_by a) (declared sc + (declared_by a + declared_by b)) (elaborate_all (inside around) sc a) _ (holds-all (inside around) sc a) (λ x h.
      holds-both (declared x.scope + declared_by b) (declared sc + (declared_by a + declared_by b)) (elaborate_all (inside around) (leave_block sc x.scope) b) _ (holds-all (inside around) (leave_block sc x.scope) b) (λ y k.
      omega (arith, h, k))))
  holds-statement around sc (surface.While n s test a) =
      holds-then (declared sc + declared_by a) (type_of sc.devices sc.visible test) _ (λ t.
      holds-both (declared sc + declared_by a) (declared sc + declared_by a) (elaborate_all (InLoop n) sc a) _ (holds-all (InLoop n) sc a) (λ x h. h))
  holds-statement around sc (surface.For n s first test update a) =
      holds-both (declared sc + declared_first first) (declared sc + (declared_first first + declared_by a)) (elaborate_first sc first) _ (holds-first sc first) (λ f h.
      holds-then (declared sc + (declared_first first + declared_by a)) (type_of f.scope.devices f.scope.visible test) _ (λ t.
      holds-then (declared sc + (declared_first first + declared_by a)) (elaborate_assignment f.scope update) _ (λ u.
      holds-both (declared f.scope + declared_by a) (declared sc + (declared_first first + declared_by a)) (elaborate_all (InLoop n) f.scope a) _ (holds-all (InLoop n) f.scope a) (λ x k.
      omega (arith, h, k)))))
  holds-statement around sc (surface.Barrier n s flags) = holds-then (declared sc + 0) (barrier_of n flags) _ (λ s. omega arith)
  holds-statement around sc (surface.Jump n s jump) = holds-then (declared sc + 0) (jump_to n s around jump) _ (λ s. omega arith)
  holds-statement around sc (surface.Block n s a) = holds-both (declared sc + declared_by a) (declared sc + declared_by a) (elaborate_all (inside around) sc a) _ (holds-all (inside around) sc a) (λ x h. h)

  holds-all : (around : Around) (sc : Scope) (ss : surface.Statements) → Holds (declared sc + declared_by ss) (elaborate_all around sc ss)
  holds-all around sc surface.none = omega arith
  holds-all around sc (surface.one s ss) =
      holds-both (declared sc + declared_in s) (declared sc + (declared_in s + declared_by ss)) (elaborate_statement around sc s) _ (holds-statement around sc s) (λ a h.
      holds-both (declared a.scope + declared_by ss) (declared sc + (declared_in s + declared_by ss)) (elaborate_all around a.scope ss) _ (holds-all around a.scope ss) (λ b k.
      omega (arith, h, k)))

grown : (most : ℕ) (out : core.Statements) (x : Checked Elaborated) (answer : Elaborated) → Holds most x → behind out x ≡ Ok answer → declared answer.scope ≤ most
grown most out (Ok e) answer h p = let i : e.scope ≡ answer.scope = cc in subst (λ s. declared s ≤ most) i h
grown most out (Err e) answer h p = cc

-- what a statement, a first part and a block leave room for
pub statement-grown : (around : Around) (sc : Scope) (s : surface.Statement) (out : core.Statements) (answer : Elaborated) → behind out (elaborate_statement around sc s) ≡ Ok answer → declared answer.scope ≤ declared sc + declared_in s
statement-grown around sc s out answer p = grown (declared sc + declared_in s) out (elaborate_statement around sc s) answer (holds-statement around sc s) p

pub first-grown : (sc : Scope) (first : surface.First) (answer : Elaborated) → elaborate_first sc first ≡ Ok answer → declared answer.scope ≤ declared sc + declared_first first
first-grown sc first answer p = by (elaborate_first sc first) (holds-first sc first) p
  where
    by : (x : Checked Elaborated) → Holds (declared sc + declared_first first) x → x ≡ Ok answer → declared answer.scope ≤ declared sc + declared_first first
    by (Ok e) h q = let i : e.scope ≡ answer.scope = cc in subst (λ s. declared s ≤ declared sc + declared_first first) i h
    by (Err e) h q = cc

pub block-grown : (around : Around) (sc : Scope) (body : surface.Statements) (out : core.Statements) (answer : Elaborated) → behind out (block around sc body) ≡ Ok answer → declared answer.scope ≤ declared sc + declared_by body
block-grown around sc body out answer p =
    grown (declared sc + declared_by body) out (block around sc body) answer
    (holds-both (declared sc + declared_by body) (declared sc + declared_by body) (elaborate_all (inside around) sc body) _ (holds-all (inside around) sc body) (λ x h. h)) p

-- parameters
HoldsScope : (most : ℕ) → Checked Scope → Type 0
HoldsScope most (Ok s) = declared s ≤ most
HoldsScope most (Err e) = Unit {0}

parameter-holds : (sc : Scope) (p : surface.Parameter) → HoldsScope (declared sc + 1) (declare_parameter sc p)
unfolding HoldsScope
parameter-holds sc (surface.Buffer constant kind site name) = by (may_declare sc name)
  where
    by : (b : Bool) → HoldsScope (declared sc + 1) (when b NameTwice site (bind (record sc { buffers = sc.buffers ++ kind ∷ [] }) name (ArrayAt (record { space = core.Global; number = length sc.buffers }) kind (not constant))))
    by true = omega (arith, last sc.buffers kind)
    by false = tt
parameter-holds sc (surface.Value kind site name) = by (may_declare sc name)
  where
    by : (b : Bool) → HoldsScope (declared sc + 1) (when b NameTwice site (bind (record sc { slots = sc.slots ++ kind ∷ [] }) name (VariableAt (length sc.slots) kind)))
    by true = omega (arith, last sc.slots kind)
    by false = tt

pub parameter-grown : (sc : Scope) (p : surface.Parameter) (after : Scope) → declare_parameter sc p ≡ Ok after → declared after ≤ declared sc + 1
unfolding HoldsScope
parameter-grown sc p after q = by (declare_parameter sc p) (parameter-holds sc p) q
  where
    by : (x : Checked Scope) → HoldsScope (declared sc + 1) x → x ≡ Ok after → declared after ≤ declared sc + 1
    by (Ok s) h e = let i : s ≡ after = cc in subst (λ s. declared s ≤ declared sc + 1) i h
    by (Err e) h k = cc

pub parameters-grown : (sc : Scope) (ps : List surface.Parameter) (after : Scope) → declare_parameters sc ps ≡ Ok after → declared after ≤ declared sc + length ps
parameters-grown sc [] after q = let i : sc ≡ after = cc in subst (λ s. declared s ≤ declared sc + 0) i (omega arith)
parameters-grown sc (p ∷ ps) after q = by (declare_parameter sc p) refl q (λ s e. parameters-grown s ps after e)
  where
    by : (x : Checked Scope) → declare_parameter sc p ≡ x → then x (λ inner. declare_parameters inner ps) ≡ Ok after → ((s : Scope) → declare_parameters s ps ≡ Ok after → declared after ≤ declared s + length ps) → declared after ≤ declared sc + length (p ∷ ps)
    by (Ok s) h e others = omega (arith, parameter-grown sc p s h, others s e)
    by (Err e) h k others = cc

-- a parameter, and those behind it
pub next-parameters : (ps : List Parameter) (i : ℕ) (p : Parameter) (sc after : Scope) → i < length ps → p ≡ get_or ps i p → declare_parameter sc (parameter p) ≡ Ok after
    → declare_parameters after (map parameter (drop (i + 1) ps)) ≡ declare_parameters sc (map parameter (drop i ps))
next-parameters ps i p sc after h e q = rw (add-one, drop-cons ps i p, ← e, q) refl

pub fewer-parameters : (ps : List Parameter) (i : ℕ) (p : Parameter) → i < length ps → length (drop i ps) ≡ length (drop (i + 1) ps) + 1
fewer-parameters ps i p h = omega (arith, length-drop i ps, length-drop (i + 1) ps, h)

-- room for a statement, and for what follows it
pub next-room : (ss : List Stmt) (i : ℕ) (s : Stmt) → i < length ss → s ≡ get_or ss i s → declared_by (stmts (drop i ss)) ≡ declared_in (stmt s) + declared_by (stmts (drop (i + 1) ss))
next-room ss i s h e = rw (add-one, drop-cons ss i s, ← e) refl

-- what a statement of the code declares
pub if-declares : (n : ℕ) (s : Site) (test : Expr) (taken skipped : Vec Stmt Global) → declared_in (stmt (If n s test taken skipped)) ≡ declared_by (stmts taken.items) + declared_by (stmts skipped.items)
if-declares n s test taken skipped = ap declared_in (seen_if n s test taken skipped)

pub while-declares : (n : ℕ) (s : Site) (test : Expr) (body : Vec Stmt Global) → declared_in (stmt (While n s test body)) ≡ declared_by (stmts body.items)
while-declares n s test body = ap declared_in (seen_while n s test body)

pub for-declares : (n : ℕ) (s : Site) (begin : First) (test : Expr) (update : Assignment) (body : Vec Stmt Global) → declared_in (stmt (For n s begin test update body)) ≡ declared_first (first_of begin) + declared_by (stmts body.items)
for-declares n s begin test update body = ap declared_in (seen_for n s begin test update body)

pub block-declares : (n : ℕ) (s : Site) (body : Vec Stmt Global) → declared_in (stmt (Block n s body)) ≡ declared_by (stmts body.items)
block-declares n s body = ap declared_in (seen_block n s body)
