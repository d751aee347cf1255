-- A kernel within the limits has few names.
use Rattle.std.proofs.Common.{◌≡◌, ◌≤◌, ℕ, ◌+◌, Bool, true, false, List, [], ◌∷◌, length, cond, nat_lt, Option, None, Some, Result, Ok, Err, refl, subst, arith}
use Rattle.std.proofs.lemmas.Bool.{ltb-true}
use Rattle.semantics.specs.Core.{Site}
use Rattle.texts.specs.Surface.{First, FirstDeclares, FirstAssigns, Statement, Declare, DeclareArray, Assign, If, While, For, Barrier, Jump, Block, Statements, none, one, Parameter, Buffer, Value, Kernel}
use Rattle.texts.specs.Limits.{Counts, nothing_declared, one_buffer, one_variable, one_array, next, count_parameter, count_parameters, count_first, count_statement, count_statements, measured, deep_statements, within_limits}
use Rattle.texts.specs.Declarations.{declared_first, declared_in, declared_by, HasFewNames}

-- each sort counts no more than its limit
record Few (c : Counts) : Type 0 where
  buffers : c.buffers ≤ 16
  variables : c.variables ≤ 64
  arrays : c.arrays ≤ 16

all : Counts → ℕ
all c = c.buffers + c.variables + c.arrays

-- counted as `n` more, where the limits allow it
Counted : Counts → ℕ → Result Counts Site → Type 0
Counted c n (Ok d) = Few d × (all d ≡ all c + n)
Counted c n (Err site) = Unit {0}

buffer-counted : (c : Counts) (site : Site) → Few c → Counted c 1 (one_buffer c site)
unfolding Counted all
buffer-counted c site few = by (nat_lt c.buffers 16) refl
  where
    by : (b : Bool) → nat_lt c.buffers 16 ≡ b → Counted c 1 (cond b (Ok (record c { buffers = c.buffers + 1 })) (Err site))
    by true e = (record { buffers = omega (arith, ltb-true _ _ e); variables = few.variables; arrays = few.arrays }, omega arith)
    by false e = tt

variable-counted : (c : Counts) (site : Site) → Few c → Counted c 1 (one_variable c site)
unfolding Counted all
variable-counted c site few = by (nat_lt c.variables 64) refl
  where
    by : (b : Bool) → nat_lt c.variables 64 ≡ b → Counted c 1 (cond b (Ok (record c { variables = c.variables + 1 })) (Err site))
    by true e = (record { buffers = few.buffers; variables = omega (arith, ltb-true _ _ e); arrays = few.arrays }, omega arith)
    by false e = tt

array-counted : (c : Counts) (site : Site) → Few c → Counted c 1 (one_array c site)
unfolding Counted all
array-counted c site few = by (nat_lt c.arrays 16) refl
  where
    by : (b : Bool) → nat_lt c.arrays 16 ≡ b → Counted c 1 (cond b (Ok (record c { arrays = c.arrays + 1 })) (Err site))
    by true e = (record { buffers = few.buffers; variables = few.variables; arrays = omega (arith, ltb-true _ _ e) }, omega arith)
    by false e = tt

none-counted : (c : Counts) → Few c → Counted c 0 (Ok c)
unfolding Counted all
none-counted c few = (few, omega arith)

-- one count and then another
both-counted : (c : Counts) (m n : ℕ) (r : Result Counts Site) (go : Counts → Result Counts Site) → Counted c m r → ((d : Counts) → Few d → Counted d n (go d)) → Counted c (m + n) (next r go)
unfolding Counted
both-counted c m n (Err site) go h k = tt
both-counted c m n (Ok d) go h k = further (go d) (k d h.0)
  where
    further : (r : Result Counts Site) → Counted d n r → Counted c (m + n) r
    further (Err site) l = tt
    further (Ok e) l = (l.0, omega (arith, h.1, l.1))

parameter-counted : (c : Counts) (p : Parameter) → Few c → Counted c 1 (count_parameter c p)
parameter-counted c (Buffer constant kind site name) few = buffer-counted c site few
parameter-counted c (Value kind site name) few = variable-counted c site few

parameters-counted : (c : Counts) (ps : List Parameter) → Few c → Counted c (length ps) (count_parameters c ps)
parameters-counted c [] few = none-counted c few
parameters-counted c (p ∷ ps) few =
    let more : 1 + length ps ≡ length (p ∷ ps) = omega arith in
    subst (λ n. Counted c n (count_parameters c (p ∷ ps))) more (both-counted c 1 (length ps) (count_parameter c p) (λ c. count_parameters c ps) (parameter-counted c p few) (λ d f. parameters-counted d ps f))

first-counted : (c : Counts) (first : First) → Few c → Counted c (declared_first first) (count_first c first)
first-counted c (FirstDeclares d) few = variable-counted c d.name_site few
first-counted c (FirstAssigns a) few = none-counted c few

mutual
  statement-counted : (c : Counts) (s : Statement) → Few c → Counted c (declared_in s) (count_statement c s)
  statement-counted c (Declare d) few = variable-counted c d.name_site few
  statement-counted c (DeclareArray n site kind name_site name size) few = array-counted c name_site few
  statement-counted c (Assign a) few = none-counted c few
  statement-counted c (If n site test a b) few = both-counted c (declared_by a) (declared_by b) (count_statements c a) (λ c. count_statements c b) (statements-counted c a few) (λ d f. statements-counted d b f)
  statement-counted c (While n site test body) few = statements-counted c body few
  statement-counted c (For n site first test update body) few = both-counted c (declared_first first) (declared_by body) (count_first c first) (λ c. count_statements c body) (first-counted c first few) (λ d f. statements-counted d body f)
  statement-counted c (Barrier n site flags) few = none-counted c few
  statement-counted c (Jump n site jump) few = none-counted c few
  statement-counted c (Block n site body) few = statements-counted c body few

  statements-counted : (c : Counts) (ss : Statements) → Few c → Counted c (declared_by ss) (count_statements c ss)
  statements-counted c none few = none-counted c few
  statements-counted c (one s ss) few = both-counted c (declared_in s) (declared_by ss) (count_statement c s) (λ c. count_statements c ss) (statement-counted c s few) (λ d f. statements-counted d ss f)

none-few : Few nothing_declared
none-few = record { buffers = omega arith; variables = omega arith; arrays = omega arith }

pub few-names : (k : Kernel) (c : Counts) → within_limits k ≡ Ok c → HasFewNames k
unfolding within_limits Counted all
few-names k c h =
    by (deep_statements 1 k.body) (next (count_parameters nothing_declared k.parameters) (λ c. count_statements c k.body)) h
    (both-counted nothing_declared (length k.parameters) (declared_by k.body) (count_parameters nothing_declared k.parameters) (λ c. count_statements c k.body) (parameters-counted nothing_declared k.parameters none-few) (λ d f. statements-counted d k.body f))
  where
    by : (o : Option Site) (r : Result Counts Site) → measured o r ≡ Ok c → Counted nothing_declared (length k.parameters + declared_by k.body) r → HasFewNames k
    by None (Ok d) e (few, same) = omega (arith, few.buffers, few.variables, few.arrays, same)
    by None (Err site) e l = absurd cc
    by (Some site) r e l = absurd cc

pub ruleset few_names = (few-names)
