-- The tree of a text within the limits can be printed: its names are names, its numbers of their kinds, its kinds named, its sizes `int`.
use Rattle.std.proofs.Common.{◌≡◌, ◌<◌, ℕ, List, true, arith}
use Rattle.std.proofs.lemmas.Bool.Decides.{nat_tests}
use Rattle.texts.specs.Lexemes.{Lexeme, is_named}
use Rattle.texts.proofs.NamedKinds.{named}
use Rattle.texts.specs.KernelLimits.{ArraysFit, AllArraysFit, IsLocalSize, IsWithinLimits}
use Rattle.texts.specs.CanonicalTokens.{IsName, IsSize, IsPrintable, ArePrintable, IsPrintableDeclaration, IsPrintableAssignment, IsPrintableFirst, IsPrintableStatement, ArePrintableStatements, parameter_name, parameter_kind, ArePrintableParameters, IsPrintableKernel}
use Rattle.texts.specs.Surface.{Expression, Expressions, Declaration, Assignment, First, Statement, Statements, Parameter, Kernel}
use Rattle.texts.specs.Grammar as rules
use Rattle.texts.specs.Grammar.{IsExpression, IsRank, IsOperand, IsArguments, IsMore}
use Rattle.texts.specs.KernelGrammar as kernels
use Rattle.texts.specs.KernelGrammar.{IsAssignment, IsDeclaration, IsFirst, IsStatement, IsBody, IsItems, IsItem, IsParameter, IsParameters, IsKernel}
use Rattle.parser.proofs.Later.{Later, stays, over, expression-later, rank-later, assignment-later, first-later, body-later, item-later, parameter-later, parameters-later}
use Rattle.printer.proofs.NamedTokens.{ArePrintableTokens}

-- a number of few digits is an `int`
size : (n : ℕ) → n < 2147483648 → IsSize n
size n h = grind (arith, nat_tests, h)

local-size : (n : ℕ) → IsLocalSize n → IsSize n
local-size n h = size n (omega (arith, h.1))

-- what is left is printable, where all is
left : {ts rest : List Lexeme} → Later ts rest → ArePrintableTokens ts → ArePrintableTokens rest
left stays a = a
left (over e h) a = left h a.1

mutual
  expression-printable : {room : ℕ} {ts rest : List Lexeme} {e : Expression} → IsExpression room ts e rest → ArePrintableTokens ts → IsPrintable e
  expression-printable (rules.plain h) a = rank-printable h a
  expression-printable (rules.conditional at colon h t e) a = (rank-printable h a, expression-printable t (left (rank-later h) a).1, expression-printable e (left (expression-later t) (left (rank-later h) a).1).1)

  rank-printable : {room rank : ℕ} {ts rest : List Lexeme} {e : Expression} → IsRank room rank ts e rest → ArePrintableTokens ts → IsPrintable e
  rank-printable (rules.operand h) a = operand-printable h a
  rank-printable (rules.tighter h) a = rank-printable h a
  rank-printable (rules.infixed s sign at found h k) a = (rank-printable h a, rank-printable k (left (rank-later h) a).1)

  operand-printable : {room : ℕ} {ts rest : List Lexeme} {e : Expression} → IsOperand room ts e rest → ArePrintableTokens ts → IsPrintable e
  operand-printable (rules.prefixed s sign at found h) a = operand-printable h a.1
  operand-printable (rules.cast w kind at in_it end found h) a = (operand-printable h a.1.1.1, named w kind found)
  operand-printable (rules.literal n at) a = a.0
  operand-printable (rules.variable x at) a = a.0
  operand-printable (rules.element x at opening closing h) a = (a.0, expression-printable h a.1.1)
  operand-printable (rules.call x at opening h) a = (a.0, arguments-printable h a.1.1)
  operand-printable (rules.parentheses at closing h) a = expression-printable h a.1

  arguments-printable : {room : ℕ} {ts rest : List Lexeme} {es : Expressions} → IsArguments room ts es rest → ArePrintableTokens ts → ArePrintable es
  arguments-printable (rules.empty closing) a = tt
  arguments-printable (rules.arguments h k) a = (expression-printable h a, more-printable k (left (expression-later h) a))

  more-printable : {room : ℕ} {ts rest : List Lexeme} {es : Expressions} → IsMore room ts es rest → ArePrintableTokens ts → ArePrintable es
  more-printable (rules.last closing) a = tt
  more-printable (rules.more comma h k) a = (expression-printable h a.1, more-printable k (left (expression-later h) a.1))

assignment-printable : {room n : ℕ} {ts rest : List Lexeme} {c : Assignment} → IsAssignment room n ts c rest → ArePrintableTokens ts → IsPrintableAssignment c
assignment-printable (kernels.to_variable x s sign at equal found h) a = (a.0, tt, expression-printable h a.1.1)
assignment-printable (kernels.to_element x s sign at opening closing equal found i h) a = (a.0, expression-printable i a.1.1, expression-printable h (left (expression-later i) a.1.1).1.1)

declaration-printable : {room n : ℕ} {ts rest : List Lexeme} {d : Declaration} → IsDeclaration room n ts d rest → ArePrintableTokens ts → IsPrintableDeclaration d
declaration-printable (kernels.declared w kind x at there equal found h) a = (a.1.0, expression-printable h a.1.1.1, named w kind found)

first-printable : {room n : ℕ} {ts rest : List Lexeme} {f : First} → IsFirst room n ts f rest → ArePrintableTokens ts → IsPrintableFirst f
first-printable (kernels.first_declares h) a = declaration-printable h a
first-printable (kernels.first_assigns h) a = assignment-printable h a

mutual
  statement-printable : {room n next : ℕ} {ts rest : List Lexeme} {s : Statement} → IsStatement room n ts s next rest → ArePrintableTokens ts → ArraysFit s → IsPrintableStatement s
  statement-printable (kernels.assigns semicolon differs h) a f = (assignment-printable h a, differs)
  statement-printable (kernels.if_alone at opening closing h b free) a f = (expression-printable h a.1.1, body-printable b (left (expression-later h) a.1.1).1 f.0, tt)
  statement-printable (kernels.if_else at opening closing other h b c) a f =
      let rest = (left (expression-later h) a.1.1).1 in
      (expression-printable h a.1.1, body-printable b rest f.0, body-printable c (left (body-later b) rest).1 f.1)
  statement-printable (kernels.while at opening closing h b) a f = (expression-printable h a.1.1, body-printable b (left (expression-later h) a.1.1).1 f)
  statement-printable (kernels.for at opening semicolon then closing first h u b) a f =
      let rest = (left (first-later first) a.1.1).1 in
      let more = (left (expression-later h) rest).1 in
      (first-printable first a.1.1, expression-printable h rest, assignment-printable u more, body-printable b (left (assignment-later u) more).1 f)
  statement-printable (kernels.barrier at opening closing semicolon h) a f = expression-printable h a.1.1
  statement-printable (kernels.jump w jump at semicolon found) a f = tt
  statement-printable (kernels.block at h) a f = items-printable h a.1 f

  body-printable : {room n next : ℕ} {ts rest : List Lexeme} {ss : Statements} → IsBody room n ts ss next rest → ArePrintableTokens ts → AllArraysFit ss → ArePrintableStatements ss
  body-printable (kernels.single free h) a f = (statement-printable h a f.0, tt)
  body-printable (kernels.braces at h) a f = items-printable h a.1 f

  items-printable : {room n next : ℕ} {ts rest : List Lexeme} {ss : Statements} → IsItems room n ts ss next rest → ArePrintableTokens ts → AllArraysFit ss → ArePrintableStatements ss
  items-printable (kernels.end closing) a f = tt
  items-printable (kernels.item h k) a f = (item-printable h a f.0, items-printable k (left (item-later h) a) f.1)

  item-printable : {room n next : ℕ} {ts rest : List Lexeme} {s : Statement} → IsItem room n ts s next rest → ArePrintableTokens ts → ArraysFit s → IsPrintableStatement s
  item-printable (kernels.statement h) a f = statement-printable h a f
  item-printable (kernels.declares semicolon h) a f = declaration-printable h a
  item-printable (kernels.array w kind x length at type there opening count closing semicolon found) a f = (a.1.1.0, size length.value (omega (arith, f.1)), named w kind found)

parameter-printable : {ts rest : List Lexeme} {p : Parameter} → IsParameter ts p rest → ArePrintableTokens ts → IsName (parameter_name p)
parameter-printable (kernels.buffer w kind x at type star there found) a = a.1.1.1.0
parameter-printable (kernels.constant_buffer w kind x at fixed type star there found) a = a.1.1.1.1.0
parameter-printable (kernels.value w kind x at there found) a = a.1.0

parameter-named : {ts rest : List Lexeme} {p : Parameter} → IsParameter ts p rest → is_named (parameter_kind p) ≡ true
parameter-named (kernels.buffer w kind x at type star there found) = named w kind found
parameter-named (kernels.constant_buffer w kind x at fixed type star there found) = named w kind found
parameter-named (kernels.value w kind x at there found) = named w kind found

parameters-printable : {ts rest : List Lexeme} {ps : List Parameter} → IsParameters ts ps rest → ArePrintableTokens ts → ArePrintableParameters ps
parameters-printable (kernels.no_parameter closing) a = tt
parameters-printable (kernels.last_parameter closing h) a = (parameter-printable h a, parameter-named h, tt)
parameters-printable (kernels.another_parameter comma h k) a = (parameter-printable h a, parameter-named h, parameters-printable k (left (parameter-later h) a).1)

pub tree-printable : {room : ℕ} {ts : List Lexeme} {k : Kernel} → IsKernel room ts k → ArePrintableTokens ts → IsWithinLimits k → IsPrintableKernel k
tree-printable (kernels.kernel x y z f at1 at2 at3 at4 at5 at6 at7 at8 at9 at10 at11 at12 at13 at14 at15 at16 at17 at18 at19 parameters items) a limits =
    let named = a.1.1.1.1.1.1.1.1.1.1.1.1.1.1.1 in
    let sizes = limits.1.local_sizes in
    record {
      name = named.0;
      sizes = (local-size x.value sizes.0, local-size y.value sizes.1, local-size z.value sizes.2);
      parameters = parameters-printable parameters named.1.1;
      body = items-printable items (left (parameters-later parameters) named.1.1).1 limits.1.arrays;
    }
