-- What is left of lexemes stands behind what was read of them, and no end was passed over.
use Rattle.std.proofs.Common.{◌≡◌, ◌≤◌, ℕ, false, List, ◌∷◌, length, refl, sym, arith}
use Rattle.std.proofs.lemmas.Bool.{false≢true}
use Rattle.texts.specs.Lexemes.{Lexeme}
use Rattle.texts.specs.Ended.{EndsOnce, ends, goes_on}
use Rattle.texts.specs.Surface.{Expression, Expressions, Declaration, Assignment, First, Statement, Statements, Parameter}
use Rattle.texts.specs.Grammar as rules
use Rattle.texts.specs.Grammar.{IsExpression, IsRank, IsOperand, IsArguments, IsMore}
use Rattle.texts.specs.KernelGrammar as kernels
use Rattle.texts.specs.KernelGrammar.{IsAssignment, IsDeclaration, IsFirst, IsStatement, IsBody, IsItems, IsItem, IsParameter, IsParameters}
use Rattle.parser.specs.Kernels.{is_end}

pub data Later : List Lexeme → List Lexeme → Type 0 where
  stays : {ts : List Lexeme} → Later ts ts
  over : {t : Lexeme} {ts rest : List Lexeme} → is_end t.kind ≡ false → Later ts rest → Later (t ∷ ts) rest

pub on : {ts us rest : List Lexeme} → Later ts us → Later us rest → Later ts rest
on stays k = k
on (over e h) k = over e (on h k)

-- over one lexeme more
pub past : {t : Lexeme} {ts us rest : List Lexeme} → is_end t.kind ≡ false → Later ts (t ∷ us) → Later us rest → Later ts rest
past e h k = on h (over e k)

pub later-length : {ts rest : List Lexeme} → Later ts rest → length rest ≤ length ts
later-length stays = omega arith
later-length (over e h) = omega (arith, later-length h)

pub later-ends : {ts rest : List Lexeme} → Later ts rest → EndsOnce ts → EndsOnce rest
later-ends stays k = k
later-ends (over e h) (ends at) = absurd (false≢true (sym e))
later-ends (over e h) (goes_on other k) = later-ends h k

mutual
  pub expression-later : {room : ℕ} {ts rest : List Lexeme} {e : Expression} → IsExpression room ts e rest → Later ts rest
  expression-later (rules.plain h) = rank-later h
  expression-later (rules.conditional at colon h a b) = past refl (rank-later h) (past refl (expression-later a) (expression-later b))

  pub rank-later : {room rank : ℕ} {ts rest : List Lexeme} {e : Expression} → IsRank room rank ts e rest → Later ts rest
  rank-later (rules.operand h) = operand-later h
  rank-later (rules.tighter h) = rank-later h
  rank-later (rules.infixed s sign at found h k) = past refl (rank-later h) (rank-later k)

  operand-later : {room : ℕ} {ts rest : List Lexeme} {e : Expression} → IsOperand room ts e rest → Later ts rest
  operand-later (rules.prefixed s sign at found h) = over refl (operand-later h)
  operand-later (rules.cast w kind at in_it end found h) = over refl (over refl (over refl (operand-later h)))
  operand-later (rules.literal n at) = over refl stays
  operand-later (rules.variable x at) = over refl stays
  operand-later (rules.element x at opening closing h) = over refl (over refl (past refl (expression-later h) stays))
  operand-later (rules.call x at opening h) = over refl (over refl (arguments-later h))
  operand-later (rules.parentheses at closing h) = over refl (past refl (expression-later h) stays)

  arguments-later : {room : ℕ} {ts rest : List Lexeme} {es : Expressions} → IsArguments room ts es rest → Later ts rest
  arguments-later (rules.empty closing) = over refl stays
  arguments-later (rules.arguments h k) = on (expression-later h) (more-later k)

  more-later : {room : ℕ} {ts rest : List Lexeme} {es : Expressions} → IsMore room ts es rest → Later ts rest
  more-later (rules.last closing) = over refl stays
  more-later (rules.more comma h k) = over refl (on (expression-later h) (more-later k))

pub assignment-later : {room n : ℕ} {ts rest : List Lexeme} {a : Assignment} → IsAssignment room n ts a rest → Later ts rest
assignment-later (kernels.to_variable x s sign at equal found h) = over refl (over refl (expression-later h))
assignment-later (kernels.to_element x s sign at opening closing equal found i h) = over refl (over refl (past refl (expression-later i) (over refl (expression-later h))))

pub declaration-later : {room n : ℕ} {ts rest : List Lexeme} {d : Declaration} → IsDeclaration room n ts d rest → Later ts rest
declaration-later (kernels.declared w kind x at there equal found h) = over refl (over refl (over refl (expression-later h)))

pub first-later : {room n : ℕ} {ts rest : List Lexeme} {f : First} → IsFirst room n ts f rest → Later ts rest
first-later (kernels.first_declares h) = declaration-later h
first-later (kernels.first_assigns h) = assignment-later h

mutual
  pub statement-later : {room n next : ℕ} {ts rest : List Lexeme} {s : Statement} → IsStatement room n ts s next rest → Later ts rest
  statement-later (kernels.assigns semicolon differs h) = past refl (assignment-later h) stays
  statement-later (kernels.if_alone at opening closing h a free) = over refl (over refl (past refl (expression-later h) (body-later a)))
  statement-later (kernels.if_else at opening closing other h a b) = over refl (over refl (past refl (expression-later h) (past refl (body-later a) (body-later b))))
  statement-later (kernels.while at opening closing h a) = over refl (over refl (past refl (expression-later h) (body-later a)))
  statement-later (kernels.for at opening semicolon then closing f h u a) = over refl (over refl (past refl (first-later f) (past refl (expression-later h) (past refl (assignment-later u) (body-later a)))))
  statement-later (kernels.barrier at opening closing semicolon h) = over refl (over refl (past refl (expression-later h) (over refl stays)))
  statement-later (kernels.jump w jump at semicolon found) = over refl (over refl stays)
  statement-later (kernels.block at h) = over refl (items-later h)

  pub body-later : {room n next : ℕ} {ts rest : List Lexeme} {ss : Statements} → IsBody room n ts ss next rest → Later ts rest
  body-later (kernels.single free h) = statement-later h
  body-later (kernels.braces at h) = over refl (items-later h)

  pub items-later : {room n next : ℕ} {ts rest : List Lexeme} {ss : Statements} → IsItems room n ts ss next rest → Later ts rest
  items-later (kernels.end closing) = over refl stays
  items-later (kernels.item h k) = on (item-later h) (items-later k)

  pub item-later : {room n next : ℕ} {ts rest : List Lexeme} {s : Statement} → IsItem room n ts s next rest → Later ts rest
  item-later (kernels.statement h) = statement-later h
  item-later (kernels.declares semicolon h) = past refl (declaration-later h) stays
  item-later (kernels.array w kind x length at type there opening count closing semicolon found) = over refl (over refl (over refl (over refl (over refl (over refl (over refl stays))))))

pub parameter-later : {ts rest : List Lexeme} {p : Parameter} → IsParameter ts p rest → Later ts rest
parameter-later (kernels.buffer w kind x at type star there found) = over refl (over refl (over refl (over refl stays)))
parameter-later (kernels.constant_buffer w kind x at fixed type star there found) = over refl (over refl (over refl (over refl (over refl stays))))
parameter-later (kernels.value w kind x at there found) = over refl (over refl stays)

pub parameters-later : {ts rest : List Lexeme} {ps : List Parameter} → IsParameters ts ps rest → Later ts rest
parameters-later (kernels.no_parameter closing) = over refl stays
parameters-later (kernels.last_parameter closing h) = past refl (parameter-later h) stays
parameters-later (kernels.another_parameter comma h k) = past refl (parameter-later h) (parameters-later k)
