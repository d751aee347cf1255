-- A kernel of at most 32 levels opens few brackets in its canonical text: at most one a level.
use Rattle.std.proofs.Common.{◌≡◌, ◌≤◌, ℕ, zero, suc, ◌+◌, Bool, true, false, cond, nat_lt, refl, arith}
use Rattle.std.proofs.lemmas.Bool.Decides.{nat_tests}
use Rattle.std.specs.Prelude.{Option, Some, None}
use Rattle.semantics.specs.Core.{Site}
use Rattle.texts.specs.Limits.{either}
use Rattle.texts.specs.Canonical.{is_compound}
use Rattle.texts.specs.Brackets.{InBrackets, AsOperand, Opens, AllOpen, OpensIndex, OpensAssignment, OpensFirst, OpensStatement, AllOpenStatements}
use Rattle.texts.specs.Limits.{past, deep_expression, deep_arguments, deep_index, deep_declaration, deep_assignment, deep_first, deep_statement, deep_statements}
use Rattle.texts.specs.Surface.{Expression, Number, Name, Element, Call, Prefix, Cast, Infix, Conditional, Expressions, nothing, also, Declaration, Assignment, First, FirstDeclares, FirstAssigns, Statement, Declare, DeclareArray, Assign, If, While, For, Barrier, Jump, Block, Statements, none, one}

-- no place is told of either part
no-either : (a b : Option Site) → either a b ≡ None → (a ≡ None) × (b ≡ None)
no-either None b h = (refl, h)
no-either (Some site) b h = cc

-- a node is not too deep, nor is what is in it
no-past : (depth : ℕ) (site : Site) (inner : Option Site) → past depth site inner ≡ None → (depth ≤ 32) × (inner ≡ None)
no-past depth site inner h = by (nat_lt 32 depth) refl h
  where
    by : (t : Bool) → nat_lt 32 depth ≡ t → cond t (Some site) inner ≡ None → (depth ≤ 32) × (inner ≡ None)
    by true q e = cc
    by false q e = (grind (arith, nat_tests, q), e)

-- one bracket more, one level deeper
bracket : (room depth : ℕ) (P : ℕ → Type 0) → depth ≤ 32 → 33 ≤ depth + room → ((n : ℕ) → 33 ≤ (depth + 1) + n → P n) → InBrackets room P
bracket zero depth P d h go = absurd (omega (arith, d, h))
bracket (suc n) depth P d h go = go n (omega (arith, h))

operand : (compound : Bool) (room depth : ℕ) (P : ℕ → Type 0) → depth ≤ 32 → 33 ≤ depth + room → ((n : ℕ) → 33 ≤ (depth + 1) + n → P n) → AsOperand compound room P
operand true room depth P d h go = bracket room depth P d h go
operand false room depth P d h go = go room (omega (arith, h))

deeper : (depth room : ℕ) → 33 ≤ depth + room → 33 ≤ (depth + 1) + room
deeper depth room h = omega (arith, h)

mutual
  opens : (e : Expression) (depth room : ℕ) → 33 ≤ depth + room → deep_expression depth e ≡ None → Opens room e
  opens (Number site kind n) depth room h d = tt
  opens (Name site x) depth room h d = tt
  opens (Element site x index) depth room h d =
      let p = no-past depth site _ d in
      bracket room depth (λ n. Opens n index) p.0 h (λ n q. opens index (depth + 1) n q p.1)
  opens (Call site x es) depth room h d =
      let p = no-past depth site _ d in
      bracket room depth (λ n. AllOpen n es) p.0 h (λ n q. all-open es (depth + 1) n q p.1)
  opens (Prefix site sign e) depth room h d =
      let p = no-past depth site _ d in
      operand (is_compound e) room depth (λ n. Opens n e) p.0 h (λ n q. opens e (depth + 1) n q p.1)
  opens (Cast site kind e) depth room h d =
      let p = no-past depth site _ d in
      (bracket room depth (λ n. Unit {0}) p.0 h (λ n q. tt), operand (is_compound e) room depth (λ n. Opens n e) p.0 h (λ n q. opens e (depth + 1) n q p.1))
  opens (Infix site sign l r) depth room h d =
      let p = no-past depth site _ d in
      let q = no-either _ _ p.1 in
      (operand (is_compound l) room depth (λ n. Opens n l) p.0 h (λ n m. opens l (depth + 1) n m q.0), operand (is_compound r) room depth (λ n. Opens n r) p.0 h (λ n m. opens r (depth + 1) n m q.1))
  opens (Conditional site test a b) depth room h d =
      let p = no-past depth site _ d in
      let q = no-either _ _ p.1 in
      let r = no-either _ _ q.1 in (
        operand (is_compound test) room depth (λ n. Opens n test) p.0 h (λ n m. opens test (depth + 1) n m q.0),
        operand (is_compound a) room depth (λ n. Opens n a) p.0 h (λ n m. opens a (depth + 1) n m r.0),
        operand (is_compound b) room depth (λ n. Opens n b) p.0 h (λ n m. opens b (depth + 1) n m r.1),
      )

  all-open : (es : Expressions) (depth room : ℕ) → 33 ≤ depth + room → deep_arguments depth es ≡ None → AllOpen room es
  all-open nothing depth room h d = tt
  all-open (also e es) depth room h d = let p = no-either _ _ d in (opens e depth room h p.0, all-open es depth room h p.1)

index-opens : (o : Option Expression) (depth room : ℕ) → depth ≤ 32 → 33 ≤ depth + room → deep_index (depth + 1) o ≡ None → OpensIndex room o
index-opens None depth room l h d = tt
index-opens (Some e) depth room l h d = bracket room depth (λ n. Opens n e) l h (λ n q. opens e (depth + 1) n q d)

assignment-opens : (a : Assignment) (depth room : ℕ) → 33 ≤ depth + room → deep_assignment depth a ≡ None → OpensAssignment room a
assignment-opens a depth room h d =
    let p = no-past depth a.site _ d in
    let q = no-either _ _ p.1 in
    (index-opens a.index depth room p.0 h q.0, opens a.value (depth + 1) room (deeper depth room h) q.1)

declaration-opens : (d : Declaration) (depth room : ℕ) → 33 ≤ depth + room → deep_declaration depth d ≡ None → Opens room d.value
declaration-opens d depth room h e = opens d.value (depth + 1) room (deeper depth room h) (no-past depth d.site _ e).1

first-opens : (f : First) (depth room : ℕ) → 33 ≤ depth + room → deep_first depth f ≡ None → OpensFirst room f
first-opens (FirstDeclares d) depth room h e = declaration-opens d depth room h e
first-opens (FirstAssigns a) depth room h e = assignment-opens a depth room h e

mutual
  statement-opens : (s : Statement) (depth room : ℕ) → 33 ≤ depth + room → deep_statement depth s ≡ None → OpensStatement room s
  statement-opens (Declare d) depth room h e = declaration-opens d depth room h e
  statement-opens (DeclareArray n site kind name_site x size) depth room h e = bracket room depth (λ m. Unit {0}) (no-past depth site _ e).0 h (λ m q. tt)
  statement-opens (Assign a) depth room h e = assignment-opens a depth room h e
  statement-opens (If n site test a b) depth room h e =
      let p = no-past depth site _ e in
      let q = no-either _ _ p.1 in
      let r = no-either _ _ q.1 in
      bracket room depth (λ m. Opens m test × AllOpenStatements m a × AllOpenStatements m b) p.0 h
      (λ m l. (opens test (depth + 1) m l q.0, statements-open a (depth + 1) m l r.0, statements-open b (depth + 1) m l r.1))
  statement-opens (While n site test body) depth room h e =
      let p = no-past depth site _ e in
      let q = no-either _ _ p.1 in
      bracket room depth (λ m. Opens m test × AllOpenStatements m body) p.0 h (λ m l. (opens test (depth + 1) m l q.0, statements-open body (depth + 1) m l q.1))
  statement-opens (For n site first test update body) depth room h e =
      let p = no-past depth site _ e in
      let q = no-either _ _ p.1 in
      let r = no-either _ _ q.1 in
      let u = no-either _ _ r.1 in
      bracket room depth (λ m. OpensFirst m first × Opens m test × OpensAssignment m update × AllOpenStatements m body) p.0 h
      (λ m l. (first-opens first (depth + 1) m l q.0, opens test (depth + 1) m l r.0, assignment-opens update (depth + 1) m l u.0, statements-open body (depth + 1) m l u.1))
  statement-opens (Barrier n site flags) depth room h e = let p = no-past depth site _ e in bracket room depth (λ m. Opens m flags) p.0 h (λ m l. opens flags (depth + 1) m l p.1)
  statement-opens (Jump n site jump) depth room h e = tt
  statement-opens (Block n site body) depth room h e = let p = no-past depth site _ e in bracket room depth (λ m. AllOpenStatements m body) p.0 h (λ m l. statements-open body (depth + 1) m l p.1)

  pub statements-open : (ss : Statements) (depth room : ℕ) → 33 ≤ depth + room → deep_statements depth ss ≡ None → AllOpenStatements room ss
  statements-open none depth room h e = tt
  statements-open (one s ss) depth room h e = let p = no-either _ _ e in (statement-opens s depth room h p.0, statements-open ss depth room h p.1)
