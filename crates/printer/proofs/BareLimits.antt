-- The limits of trees, positions aside: a tree is within them where it is without positions, and the other way round.
use Rattle.std.proofs.Common.{◌≡◌, ℕ, ◌+◌, List, [], ◌∷◌, map, Bool, true, false, cond, nat_lt, Ok, Err, refl, ap, subst, sym, ◌∙◌}
use Rattle.std.specs.Prelude.{Option, Some, None, Result, ◌≤◌}
use Rattle.semantics.specs.Core.{Site}
use Rattle.texts.specs.Bare.{nowhere, bare_expression, bare_expressions, bare_declaration, bare_index, bare_assignment, bare_first, bare_statement, bare_statements, bare_parameter, bare_kernel}
use Rattle.texts.specs.Limits.{past, deep_expression, deep_arguments, deep_index, deep_declaration, deep_assignment, deep_first, deep_statement, deep_statements, Counts, nothing_declared, next, count_parameter, count_parameters, count_first, count_statement, count_statements}
use Rattle.texts.specs.KernelLimits.{ArraysFit, AllArraysFit, statements_in, statements_of, IsWithinLimits}
use Rattle.texts.specs.Surface.{Expression, Number, Name, Element, Call, Prefix, Cast, Infix, Conditional, Expressions, nothing, also, Declaration, Assignment, First, FirstDeclares, FirstAssigns, Statement, Declare, DeclareArray, Assign, If, While, For, Barrier, Jump, Block, Statements, none, one, Parameter, Buffer, Value, Kernel}
use Rattle.printer.proofs.BareStatements.{bare_place, bare-both}

-- depth
bare-past : (depth : ℕ) (site : Site) (a b : Option Site) → b ≡ bare_place a → past depth nowhere b ≡ bare_place (past depth site a)
bare-past depth site a b e = ap (past depth nowhere) e ∙ by (nat_lt 32 depth)
  where
    by : (t : Bool) → cond t (Some nowhere) (bare_place a) ≡ bare_place (cond t (Some site) a)
    by true = refl
    by false = refl

mutual
  deep-expression : (depth : ℕ) (e : Expression) → deep_expression depth (bare_expression e) ≡ bare_place (deep_expression depth e)
  deep-expression depth (Number site kind n) = bare-past depth site _ _ refl
  deep-expression depth (Name site x) = bare-past depth site _ _ refl
  deep-expression depth (Element site x index) = bare-past depth site _ _ (deep-expression (depth + 1) index)
  deep-expression depth (Call site x es) = bare-past depth site _ _ (deep-arguments (depth + 1) es)
  deep-expression depth (Prefix site sign e) = bare-past depth site _ _ (deep-expression (depth + 1) e)
  deep-expression depth (Cast site kind e) = bare-past depth site _ _ (deep-expression (depth + 1) e)
  deep-expression depth (Infix site sign l r) = bare-past depth site _ _ (bare-both _ _ _ _ (deep-expression (depth + 1) l) (deep-expression (depth + 1) r))
  deep-expression depth (Conditional site test a b) =
      bare-past depth site _ _ (bare-both _ _ _ _ (deep-expression (depth + 1) test) (bare-both _ _ _ _ (deep-expression (depth + 1) a) (deep-expression (depth + 1) b)))

  deep-arguments : (depth : ℕ) (es : Expressions) → deep_arguments depth (bare_expressions es) ≡ bare_place (deep_arguments depth es)
  deep-arguments depth nothing = refl
  deep-arguments depth (also e es) = bare-both _ _ _ _ (deep-expression depth e) (deep-arguments depth es)

deep-index : (depth : ℕ) (o : Option Expression) → deep_index depth (bare_index o) ≡ bare_place (deep_index depth o)
deep-index depth None = refl
deep-index depth (Some e) = deep-expression depth e

deep-declaration : (depth : ℕ) (d : Declaration) → deep_declaration depth (bare_declaration d) ≡ bare_place (deep_declaration depth d)
deep-declaration depth d = bare-past depth d.site _ _ (deep-expression (depth + 1) d.value)

deep-assignment : (depth : ℕ) (a : Assignment) → deep_assignment depth (bare_assignment a) ≡ bare_place (deep_assignment depth a)
deep-assignment depth a = bare-past depth a.site _ _ (bare-both _ _ _ _ (deep-index (depth + 1) a.index) (deep-expression (depth + 1) a.value))

deep-first : (depth : ℕ) (f : First) → deep_first depth (bare_first f) ≡ bare_place (deep_first depth f)
deep-first depth (FirstDeclares d) = deep-declaration depth d
deep-first depth (FirstAssigns a) = deep-assignment depth a

mutual
  deep-statement : (depth : ℕ) (s : Statement) → deep_statement depth (bare_statement s) ≡ bare_place (deep_statement depth s)
  deep-statement depth (Declare d) = deep-declaration depth d
  deep-statement depth (DeclareArray n site kind name_site x size) = bare-past depth site _ _ refl
  deep-statement depth (Assign a) = deep-assignment depth a
  deep-statement depth (If n site test a b) =
      bare-past depth site _ _ (bare-both _ _ _ _ (deep-expression (depth + 1) test) (bare-both _ _ _ _ (deep-statements (depth + 1) a) (deep-statements (depth + 1) b)))
  deep-statement depth (While n site test body) = bare-past depth site _ _ (bare-both _ _ _ _ (deep-expression (depth + 1) test) (deep-statements (depth + 1) body))
  deep-statement depth (For n site first test update body) =
      bare-past depth site _ _ (bare-both _ _ _ _ (deep-first (depth + 1) first) (bare-both _ _ _ _ (deep-expression (depth + 1) test)
      (bare-both _ _ _ _ (deep-assignment (depth + 1) update) (deep-statements (depth + 1) body))))
  deep-statement depth (Barrier n site flags) = bare-past depth site _ _ (deep-expression (depth + 1) flags)
  deep-statement depth (Jump n site jump) = bare-past depth site _ _ refl
  deep-statement depth (Block n site body) = bare-past depth site _ _ (deep-statements (depth + 1) body)

  deep-statements : (depth : ℕ) (ss : Statements) → deep_statements depth (bare_statements ss) ≡ bare_place (deep_statements depth ss)
  deep-statements depth none = refl
  deep-statements depth (one s ss) = bare-both _ _ _ _ (deep-statement depth s) (deep-statements depth ss)

-- counts
abbrev bare_counts : Result Counts Site → Result Counts Site
bare_counts (Ok c) = Ok c
bare_counts (Err site) = Err nowhere

bare-next : (r q : Result Counts Site) (go on : Counts → Result Counts Site) → q ≡ bare_counts r → ((c : Counts) → on c ≡ bare_counts (go c)) → next q on ≡ bare_counts (next r go)
bare-next (Ok c) q go on e h = ap (λ r. next r on) e ∙ h c
bare-next (Err site) q go on e h = ap (λ r. next r on) e

bare-room : (b : Bool) (c : Counts) (site : Site) → cond b (Ok c) (Err nowhere) ≡ bare_counts (cond b (Ok c) (Err site))
bare-room true c site = refl
bare-room false c site = refl

count-parameter : (c : Counts) (p : Parameter) → count_parameter c (bare_parameter p) ≡ bare_counts (count_parameter c p)
count-parameter c (Buffer constant kind site x) = bare-room (nat_lt c.buffers 16) _ site
count-parameter c (Value kind site x) = bare-room (nat_lt c.variables 64) _ site

count-parameters : (c : Counts) (ps : List Parameter) → count_parameters c (map bare_parameter ps) ≡ bare_counts (count_parameters c ps)
count-parameters c [] = refl
count-parameters c (p ∷ ps) = bare-next _ _ _ _ (count-parameter c p) (λ d. count-parameters d ps)

count-first : (c : Counts) (f : First) → count_first c (bare_first f) ≡ bare_counts (count_first c f)
count-first c (FirstDeclares d) = bare-room (nat_lt c.variables 64) _ d.name_site
count-first c (FirstAssigns a) = refl

mutual
  count-statement : (c : Counts) (s : Statement) → count_statement c (bare_statement s) ≡ bare_counts (count_statement c s)
  count-statement c (Declare d) = bare-room (nat_lt c.variables 64) _ d.name_site
  count-statement c (DeclareArray n site kind name_site x size) = bare-room (nat_lt c.arrays 16) _ name_site
  count-statement c (Assign a) = refl
  count-statement c (If n site test a b) = bare-next _ _ _ _ (count-statements c a) (λ d. count-statements d b)
  count-statement c (While n site test body) = count-statements c body
  count-statement c (For n site first test update body) = bare-next _ _ _ _ (count-first c first) (λ d. count-statements d body)
  count-statement c (Barrier n site flags) = refl
  count-statement c (Jump n site jump) = refl
  count-statement c (Block n site body) = count-statements c body

  count-statements : (c : Counts) (ss : Statements) → count_statements c (bare_statements ss) ≡ bare_counts (count_statements c ss)
  count-statements c none = refl
  count-statements c (one s ss) = bare-next _ _ _ _ (count-statement c s) (λ d. count-statements d ss)

-- statements and arrays
mutual
  pub statements-in : (s : Statement) → statements_in (bare_statement s) ≡ statements_in s
  statements-in (Declare d) = refl
  statements-in (DeclareArray n site kind name_site x size) = refl
  statements-in (Assign a) = refl
  statements-in (If n site test a b) = ap (λ m. 1 + (m + statements_of (bare_statements b))) (statements-of a) ∙ ap (λ m. 1 + (statements_of a + m)) (statements-of b)
  statements-in (While n site test body) = ap (λ m. 1 + m) (statements-of body)
  statements-in (For n site first test update body) = ap (λ m. 3 + m) (statements-of body)
  statements-in (Barrier n site flags) = refl
  statements-in (Jump n site jump) = refl
  statements-in (Block n site body) = ap (λ m. 1 + m) (statements-of body)

  statements-of : (ss : Statements) → statements_of (bare_statements ss) ≡ statements_of ss
  statements-of none = refl
  statements-of (one s ss) = ap (λ m. m + statements_of (bare_statements ss)) (statements-in s) ∙ ap (λ m. statements_in s + m) (statements-of ss)

mutual
  arrays-on : (s : Statement) → ArraysFit s → ArraysFit (bare_statement s)
  arrays-on (Declare d) h = tt
  arrays-on (DeclareArray n site kind name_site x size) h = h
  arrays-on (Assign a) h = tt
  arrays-on (If n site test a b) h = (all-arrays-on a h.0, all-arrays-on b h.1)
  arrays-on (While n site test body) h = all-arrays-on body h
  arrays-on (For n site first test update body) h = all-arrays-on body h
  arrays-on (Barrier n site flags) h = tt
  arrays-on (Jump n site jump) h = tt
  arrays-on (Block n site body) h = all-arrays-on body h

  all-arrays-on : (ss : Statements) → AllArraysFit ss → AllArraysFit (bare_statements ss)
  all-arrays-on none h = tt
  all-arrays-on (one s ss) h = (arrays-on s h.0, all-arrays-on ss h.1)

mutual
  arrays-back : (s : Statement) → ArraysFit (bare_statement s) → ArraysFit s
  arrays-back (Declare d) h = tt
  arrays-back (DeclareArray n site kind name_site x size) h = h
  arrays-back (Assign a) h = tt
  arrays-back (If n site test a b) h = (all-arrays-back a h.0, all-arrays-back b h.1)
  arrays-back (While n site test body) h = all-arrays-back body h
  arrays-back (For n site first test update body) h = all-arrays-back body h
  arrays-back (Barrier n site flags) h = tt
  arrays-back (Jump n site jump) h = tt
  arrays-back (Block n site body) h = all-arrays-back body h

  all-arrays-back : (ss : Statements) → AllArraysFit (bare_statements ss) → AllArraysFit ss
  all-arrays-back none h = tt
  all-arrays-back (one s ss) h = (arrays-back s h.0, all-arrays-back ss h.1)

-- all limits
none-back : (o p : Option Site) → p ≡ bare_place o → p ≡ None → o ≡ None
none-back None p e h = refl
none-back (Some site) p e h = cc

counts-back : (r q : Result Counts Site) (c : Counts) → q ≡ bare_counts r → q ≡ Ok c → r ≡ Ok c
counts-back (Ok d) q c e h = sym e ∙ h
counts-back (Err site) q c e h = cc

all-counted : (k : Kernel) → next (count_parameters nothing_declared (map bare_parameter k.parameters)) (λ c. count_statements c (bare_statements k.body)) ≡ bare_counts (next (count_parameters nothing_declared k.parameters) (λ c. count_statements c k.body))
all-counted k = bare-next _ _ _ _ (count-parameters nothing_declared k.parameters) (λ d. count-statements d k.body)

pub within-on : (k : Kernel) → IsWithinLimits k → IsWithinLimits (bare_kernel k)
within-on k (shallow, few) = (
  deep-statements 1 k.body ∙ ap bare_place shallow,
  record {
    local_sizes = few.local_sizes;
    statements = subst (λ n. n ≤ 512) (sym (statements-of k.body)) few.statements;
    arrays = all-arrays-on k.body few.arrays;
    names = (few.names.0, all-counted k ∙ ap bare_counts few.names.1);
  },
)

pub within-back : (k : Kernel) → IsWithinLimits (bare_kernel k) → IsWithinLimits k
within-back k (shallow, few) = (
  none-back _ _ (deep-statements 1 k.body) shallow,
  record {
    local_sizes = few.local_sizes;
    statements = subst (λ n. n ≤ 512) (statements-of k.body) few.statements;
    arrays = all-arrays-back k.body few.arrays;
    names = (few.names.0, counts-back _ _ few.names.0 (all-counted k) few.names.1);
  },
)
