-- The tree of a text has identifiers for names, numbers of their kinds, and statements numbered in the order of the source.
use Rattle.std.proofs.Common.{◌≡◌, ℕ, ◌+◌, List, refl, subst}
use Rattle.texts.specs.Lexemes.{Lexeme}
use Rattle.texts.specs.Spelling.{AreSpelt, SpellsExpression, SpellsExpressions, SpellsDeclaration, SpellsAssignment, SpellsFirst, SpellsStatement, SpellsStatements, SpellsParameter, SpellsParameters, first_number, IsNumbered, AreNumbered, IsTextTree}
use Rattle.texts.specs.Surface.{Expression, Expressions, Declaration, Assignment, First, Statement, Statements, Parameter, Kernel}
use Rattle.texts.specs.Grammar as rules
use Rattle.texts.specs.Grammar.{IsExpression, IsRank, IsOperand, IsArguments, IsMore}
use Rattle.texts.specs.KernelGrammar as kernels
use Rattle.texts.specs.KernelGrammar.{IsAssignment, IsDeclaration, IsFirst, IsStatement, IsBody, IsItems, IsItem, IsParameter, IsParameters, IsKernel}
use Rattle.parser.proofs.Counting.{body-counts, item-counts}
use Rattle.parser.proofs.Later.{Later, stays, over, expression-later, rank-later, assignment-later, first-later, body-later, item-later, parameter-later, parameters-later}

-- what is left is spelt, where all is
left : {ts rest : List Lexeme} → Later ts rest → AreSpelt ts → AreSpelt rest
left stays a = a
left (over e h) a = left h a.1

mutual
  expression-spelt : {room : ℕ} {ts rest : List Lexeme} {e : Expression} → IsExpression room ts e rest → AreSpelt ts → SpellsExpression e
  expression-spelt (rules.plain h) a = rank-spelt h a
  expression-spelt (rules.conditional at colon h t e) a = (rank-spelt h a, expression-spelt t (left (rank-later h) a).1, expression-spelt e (left (expression-later t) (left (rank-later h) a).1).1)

  rank-spelt : {room rank : ℕ} {ts rest : List Lexeme} {e : Expression} → IsRank room rank ts e rest → AreSpelt ts → SpellsExpression e
  rank-spelt (rules.operand h) a = operand-spelt h a
  rank-spelt (rules.tighter h) a = rank-spelt h a
  rank-spelt (rules.infixed s sign at found h k) a = (rank-spelt h a, rank-spelt k (left (rank-later h) a).1)

  operand-spelt : {room : ℕ} {ts rest : List Lexeme} {e : Expression} → IsOperand room ts e rest → AreSpelt ts → SpellsExpression e
  operand-spelt (rules.prefixed s sign at found h) a = operand-spelt h a.1
  operand-spelt (rules.cast w kind at in_it end found h) a = operand-spelt h a.1.1.1
  operand-spelt (rules.literal n at) a = a.0
  operand-spelt (rules.variable x at) a = a.0
  operand-spelt (rules.element x at opening closing h) a = (a.0, expression-spelt h a.1.1)
  operand-spelt (rules.call x at opening h) a = (a.0, arguments-spelt h a.1.1)
  operand-spelt (rules.parentheses at closing h) a = expression-spelt h a.1

  arguments-spelt : {room : ℕ} {ts rest : List Lexeme} {es : Expressions} → IsArguments room ts es rest → AreSpelt ts → SpellsExpressions es
  arguments-spelt (rules.empty closing) a = tt
  arguments-spelt (rules.arguments h k) a = (expression-spelt h a, more-spelt k (left (expression-later h) a))

  more-spelt : {room : ℕ} {ts rest : List Lexeme} {es : Expressions} → IsMore room ts es rest → AreSpelt ts → SpellsExpressions es
  more-spelt (rules.last closing) a = tt
  more-spelt (rules.more comma h k) a = (expression-spelt h a.1, more-spelt k (left (expression-later h) a.1))

assignment-spelt : {room n : ℕ} {ts rest : List Lexeme} {c : Assignment} → IsAssignment room n ts c rest → AreSpelt ts → SpellsAssignment c
assignment-spelt (kernels.to_variable x s sign at equal found h) a = (a.0, tt, expression-spelt h a.1.1)
assignment-spelt (kernels.to_element x s sign at opening closing equal found i h) a = (a.0, expression-spelt i a.1.1, expression-spelt h (left (expression-later i) a.1.1).1.1)

declaration-spelt : {room n : ℕ} {ts rest : List Lexeme} {d : Declaration} → IsDeclaration room n ts d rest → AreSpelt ts → SpellsDeclaration d
declaration-spelt (kernels.declared w kind x at there equal found h) a = (a.1.0, expression-spelt h a.1.1.1)

first-spelt : {room n : ℕ} {ts rest : List Lexeme} {f : First} → IsFirst room n ts f rest → AreSpelt ts → SpellsFirst f
first-spelt (kernels.first_declares h) a = declaration-spelt h a
first-spelt (kernels.first_assigns h) a = assignment-spelt h a

mutual
  statement-spelt : {room n next : ℕ} {ts rest : List Lexeme} {s : Statement} → IsStatement room n ts s next rest → AreSpelt ts → SpellsStatement s
  statement-spelt (kernels.assigns semicolon differs h) a = assignment-spelt h a
  statement-spelt (kernels.if_alone at opening closing h b free) a = (expression-spelt h a.1.1, body-spelt b (left (expression-later h) a.1.1).1, tt)
  statement-spelt (kernels.if_else at opening closing other h b c) a = let rest = (left (expression-later h) a.1.1).1 in (expression-spelt h a.1.1, body-spelt b rest, body-spelt c (left (body-later b) rest).1)
  statement-spelt (kernels.while at opening closing h b) a = (expression-spelt h a.1.1, body-spelt b (left (expression-later h) a.1.1).1)
  statement-spelt (kernels.for at opening semicolon then closing f h u b) a =
      let rest = (left (first-later f) a.1.1).1 in
      let more = (left (expression-later h) rest).1 in
      (first-spelt f a.1.1, expression-spelt h rest, assignment-spelt u more, body-spelt b (left (assignment-later u) more).1)
  statement-spelt (kernels.barrier at opening closing semicolon h) a = expression-spelt h a.1.1
  statement-spelt (kernels.jump w jump at semicolon found) a = tt
  statement-spelt (kernels.block at h) a = items-spelt h a.1

  body-spelt : {room n next : ℕ} {ts rest : List Lexeme} {ss : Statements} → IsBody room n ts ss next rest → AreSpelt ts → SpellsStatements ss
  body-spelt (kernels.single free h) a = (statement-spelt h a, tt)
  body-spelt (kernels.braces at h) a = items-spelt h a.1

  items-spelt : {room n next : ℕ} {ts rest : List Lexeme} {ss : Statements} → IsItems room n ts ss next rest → AreSpelt ts → SpellsStatements ss
  items-spelt (kernels.end closing) a = tt
  items-spelt (kernels.item h k) a = (item-spelt h a, items-spelt k (left (item-later h) a))

  item-spelt : {room n next : ℕ} {ts rest : List Lexeme} {s : Statement} → IsItem room n ts s next rest → AreSpelt ts → SpellsStatement s
  item-spelt (kernels.statement h) a = statement-spelt h a
  item-spelt (kernels.declares semicolon h) a = declaration-spelt h a
  item-spelt (kernels.array w kind x length at type there opening count closing semicolon found) a = a.1.1.0

parameter-spelt : {ts rest : List Lexeme} {p : Parameter} → IsParameter ts p rest → AreSpelt ts → SpellsParameter p
parameter-spelt (kernels.buffer w kind x at type star there found) a = a.1.1.1.0
parameter-spelt (kernels.constant_buffer w kind x at fixed type star there found) a = a.1.1.1.1.0
parameter-spelt (kernels.value w kind x at there found) a = a.1.0

parameters-spelt : {ts rest : List Lexeme} {ps : List Parameter} → IsParameters ts ps rest → AreSpelt ts → SpellsParameters ps
parameters-spelt (kernels.no_parameter closing) a = tt
parameters-spelt (kernels.last_parameter closing h) a = (parameter-spelt h a, tt)
parameters-spelt (kernels.another_parameter comma h k) a = (parameter-spelt h a, parameters-spelt k (left (parameter-later h) a).1)

-- numbers of statements
assignment-number : {room n : ℕ} {ts rest : List Lexeme} {c : Assignment} → IsAssignment room n ts c rest → c.number ≡ n
assignment-number (kernels.to_variable x s sign at equal found h) = refl
assignment-number (kernels.to_element x s sign at opening closing equal found i h) = refl

declaration-number : {room n : ℕ} {ts rest : List Lexeme} {d : Declaration} → IsDeclaration room n ts d rest → d.number ≡ n
declaration-number (kernels.declared w kind x at there equal found h) = refl

first-number : {room n : ℕ} {ts rest : List Lexeme} {f : First} → IsFirst room n ts f rest → first_number f ≡ n
first-number (kernels.first_declares h) = declaration-number h
first-number (kernels.first_assigns h) = assignment-number h

mutual
  statement-numbered : (n : ℕ) {room next : ℕ} {ts rest : List Lexeme} {s : Statement} → IsStatement room n ts s next rest → IsNumbered n s
  statement-numbered n (kernels.assigns semicolon differs h) = assignment-number h
  statement-numbered n (kernels.if_alone at opening closing h a free) = (refl, body-numbered (n + 1) a, tt)
  statement-numbered n (kernels.if_else {middle = middle} {b = skipped} at opening closing other h a b) = (refl, body-numbered (n + 1) a, subst (λ m. AreNumbered m skipped) (body-counts (n + 1) a) (body-numbered middle b))
  statement-numbered n (kernels.while at opening closing h a) = (refl, body-numbered (n + 1) a)
  statement-numbered n (kernels.for at opening semicolon then closing f h u a) = (refl, first-number f, assignment-number u, body-numbered (n + 3) a)
  statement-numbered n (kernels.barrier at opening closing semicolon h) = refl
  statement-numbered n (kernels.jump w jump at semicolon found) = refl
  statement-numbered n (kernels.block at h) = (refl, items-numbered (n + 1) h)

  body-numbered : (n : ℕ) {room next : ℕ} {ts rest : List Lexeme} {ss : Statements} → IsBody room n ts ss next rest → AreNumbered n ss
  body-numbered n (kernels.single free h) = (statement-numbered n h, tt)
  body-numbered n (kernels.braces at h) = items-numbered n h

  items-numbered : (n : ℕ) {room next : ℕ} {ts rest : List Lexeme} {ss : Statements} → IsItems room n ts ss next rest → AreNumbered n ss
  items-numbered n (kernels.end closing) = tt
  items-numbered n (kernels.item {middle = middle} {others = others} h k) = (item-numbered n h, subst (λ m. AreNumbered m others) (item-counts n h) (items-numbered middle k))

  item-numbered : (n : ℕ) {room next : ℕ} {ts rest : List Lexeme} {s : Statement} → IsItem room n ts s next rest → IsNumbered n s
  item-numbered n (kernels.statement h) = statement-numbered n h
  item-numbered n (kernels.declares semicolon h) = declaration-number h
  item-numbered n (kernels.array w kind x length at type there opening count closing semicolon found) = refl

pub text-tree : (room : ℕ) (ts : List Lexeme) (k : Kernel) → AreSpelt ts → IsKernel room ts k → IsTextTree k
text-tree room ts k a (kernels.kernel x y z f at1 at2 at3 at4 at5 at6 at7 at8 at9 at10 at11 at12 at13 at14 at15 at16 at17 at18 at19 parameters items) =
    let named = a.1.1.1.1.1.1.1.1.1.1.1.1.1.1.1 in
    record { name = named.0; parameters = parameters-spelt parameters named.1.1; body = items-spelt items (left (parameters-later parameters) named.1.1).1; numbers = items-numbered 1 items }
