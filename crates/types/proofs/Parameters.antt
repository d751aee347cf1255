-- The parameters that a map of names tells are those of the core.
use Rattle.std.proofs.Common.{◌≡◌, ◌≤◌, length, arith, Bool, true, false, List, [], ◌∷◌, ◌++◌, Option, None, Some, Ok, Err, refl, ap, sym, ◌∙◌, append_assoc}
use Rattle.std.proofs.lemmas.List.{append-nil, length-map}
use Rattle.semantics.specs.Core.{Site}
use Rattle.semantics.specs.Word.{Kind}
use Rattle.semantics.specs.Launch.{Kernel}
use Rattle.texts.specs.Surface as surface
use Rattle.texts.specs.Surface.{Parameter, Buffer, Value}
use Rattle.types.specs.TypeFaults as checks
use Rattle.types.specs.Scope.{Devices, Scope, empty_scope, may_declare, may_name_kernel}
use Rattle.types.specs.Elaboration.{InKernel, declare_parameter, declare_parameters, elaborate_inside, elaborate, elaborate_all}
use Rattle.kernel_names.specs.NameMap.{NameMap, names_of}
use Rattle.kernel_names.specs.Parameters.{value_kind, buffer_kind, onto, kinds, HasParameters}
use Rattle.texts.specs.Declarations.{HasFewNames, most_names}
use Rattle.syntax.specs.View.{parameter}
use Rattle.kernel_names.specs.View.{names_seen}
use Rattle.kernel_names.specs.declared.NameMap as code
use Rattle.kernel_names.proofs.Keeping.{names-keep-parameters}

checked_back : {A B : Type 0} (s : checks.Checked A) (go : A → checks.Checked B) (b : B) → checks.then s go ≡ Ok b → (a : A) × (s ≡ Ok a) × (go a ≡ Ok b)
checked_back (Ok a) go b e = (a, refl, e)
checked_back (Err f) go b e = absurd cc

-- what is declared of one parameter
abbrev IsDeclared : Scope → Scope → List Kind → List Kind → Type 0
IsDeclared before after slots buffers = (after.slots ≡ before.slots ++ slots) × (after.buffers ≡ before.buffers ++ buffers)

checked_when : {A : Type 0} (h : Bool) (f : checks.TypeFault) (site : Site) (a b : A) → checks.when h f site a ≡ Ok b → a ≡ b
checked_when true f site a b e = cc
checked_when false f site a b e = absurd cc

declared_one : (p : Parameter) (before after : Scope) → declare_parameter before p ≡ Ok after → IsDeclared before after (onto (value_kind p) []) (onto (buffer_kind p) [])
declared_one (Buffer constant k site name) before after e =
    let q = checked_when (may_declare before name) _ site _ after e in
    (ap (λ s. s.slots) (sym q) ∙ sym (append-nil before.slots), ap (λ s. s.buffers) (sym q))
declared_one (Value k site name) before after e =
    let q = checked_when (may_declare before name) _ site _ after e in
    (ap (λ s. s.slots) (sym q), ap (λ s. s.buffers) (sym q) ∙ sym (append-nil before.buffers))

one_more : (before after all : List Kind) (o : Option Kind) (others : List Kind) → after ≡ before ++ onto o [] → all ≡ after ++ others → all ≡ before ++ onto o others
one_more before after all None others p q = q ∙ ap (λ ks. ks ++ others) (p ∙ append-nil before)
one_more before after all (Some k) others p q = q ∙ ap (λ ks. ks ++ others) p ∙ append_assoc before (k ∷ []) others

declared_all : (ps : List Parameter) (before after : Scope) → declare_parameters before ps ≡ Ok after → IsDeclared before after (kinds value_kind ps) (kinds buffer_kind ps)
declared_all [] before after e =
    let q : before ≡ after = cc in
    (ap (λ s. s.slots) (sym q) ∙ sym (append-nil before.slots), ap (λ s. s.buffers) (sym q) ∙ sym (append-nil before.buffers))
declared_all (p ∷ ps) before after e =
    let inner = checked_back (declare_parameter before p) _ after e in
    let one = declared_one p before inner.0 inner.1 in
    let all = declared_all ps inner.0 after inner.2 in
    (one_more before.slots inner.0.slots after.slots (value_kind p) (kinds value_kind ps) one.0 all.0, one_more before.buffers inner.0.buffers after.buffers (buffer_kind p) (kinds buffer_kind ps) one.1 all.1)

made : (a b : Kernel) → (let r : checks.Checked Kernel = Ok a in r ≡ Ok b) → a ≡ b
made a b e = cc

kernel_back : (d : Devices) (tree : surface.Kernel) (k : Kernel) → elaborate d tree ≡ Ok k → (k.arguments ≡ kinds value_kind tree.parameters) × (k.buffers ≡ kinds buffer_kind tree.parameters)
unfolding elaborate elaborate_inside
kernel_back d tree k e =
    let named = checked_back (checks.when (may_name_kernel tree.name) checks.NameTwice tree.name_site (empty_scope d)) _ k e in
    let outer = checked_back (declare_parameters (empty_scope d) tree.parameters) _ k named.2 in
    let body = checked_back (elaborate_all InKernel outer.0 tree.body) _ k outer.2 in
    let all = declared_all tree.parameters (empty_scope d) outer.0 outer.1 in
    let q = made _ k body.2 in
    (ap (λ m. m.arguments) (sym q) ∙ all.0, ap (λ m. m.buffers) (sym q) ∙ all.1)

pub tells_parameters : (d : Devices) (tree : surface.Kernel) (k : Kernel) (m : NameMap) → m ≡ names_of tree → elaborate d tree ≡ Ok k → HasParameters m k
tells_parameters d tree k m q e =
    let own = kernel_back d tree k e in
    let same = ap (λ n. n.parameters) q ∙ names-keep-parameters tree in
    (own.0 ∙ ap (kinds value_kind) (sym same), own.1 ∙ ap (kinds buffer_kind) (sym same))

-- a map has no more parameters than its tree has names
pub few_parameters : (tree : surface.Kernel) (m : code.NameMap) → names_seen m ≡ names_of tree → HasFewNames tree → length m.parameters.items ≤ most_names
few_parameters tree m q few =
    let e : length m.parameters.items ≡ length tree.parameters = sym (length-map m.parameters.items parameter) ∙ ap (λ n. length n.parameters) q ∙ ap length (names-keep-parameters tree) in
    omega (arith, e, few)
