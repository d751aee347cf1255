-- The numbers of statements count them.
use Rattle.std.proofs.Common.{◌≡◌, ◌≤◌, ℕ, ◌+◌, List, refl, arith}
use Rattle.texts.specs.Lexemes.{Lexeme}
use Rattle.texts.specs.Surface.{Statement, Declare, DeclareArray, Assign, If, While, For, Barrier, Jump, Block, Statements}
use Rattle.texts.specs.KernelLimits.{statements_in, statements_of}
use Rattle.texts.specs.KernelGrammar as kernels
use Rattle.texts.specs.KernelGrammar.{IsStatement, IsBody, IsItems, IsItem}

pub at-least-one : (s : Statement) → 1 ≤ statements_in s
at-least-one (Declare d) = omega arith
at-least-one (DeclareArray n site kind name_site name length) = omega arith
at-least-one (Assign a) = omega arith
at-least-one (If n site test a b) = omega arith
at-least-one (While n site test body) = omega arith
at-least-one (For n site first test update body) = omega arith
at-least-one (Barrier n site flags) = omega arith
at-least-one (Jump n site jump) = omega arith
at-least-one (Block n site body) = omega arith

mutual
  pub statement-counts : {room : ℕ} (n : ℕ) {next : ℕ} {ts rest : List Lexeme} {s : Statement} → IsStatement room n ts s next rest → next ≡ n + statements_in s
  statement-counts n (kernels.assigns semicolon differs h) = refl
  statement-counts n (kernels.if_alone at opening closing h a free) = omega (arith, body-counts (n + 1) a)
  statement-counts n (kernels.if_else {middle = middle} at opening closing other h a b) = omega (arith, body-counts (n + 1) a, body-counts middle b)
  statement-counts n (kernels.while at opening closing h a) = omega (arith, body-counts (n + 1) a)
  statement-counts n (kernels.for at opening semicolon then closing f h u a) = omega (arith, body-counts (n + 3) a)
  statement-counts n (kernels.barrier at opening closing semicolon h) = refl
  statement-counts n (kernels.jump w jump at semicolon found) = refl
  statement-counts n (kernels.block at h) = omega (arith, items-counts (n + 1) h)

  pub body-counts : {room : ℕ} (n : ℕ) {next : ℕ} {ts rest : List Lexeme} {ss : Statements} → IsBody room n ts ss next rest → next ≡ n + statements_of ss
  body-counts n (kernels.single free h) = omega (arith, statement-counts n h)
  body-counts n (kernels.braces at h) = items-counts n h

  pub items-counts : {room : ℕ} (n : ℕ) {next : ℕ} {ts rest : List Lexeme} {ss : Statements} → IsItems room n ts ss next rest → next ≡ n + statements_of ss
  items-counts n (kernels.end closing) = omega arith
  items-counts n (kernels.item {middle = middle} h k) = omega (arith, item-counts n h, items-counts middle k)

  pub item-counts : {room : ℕ} (n : ℕ) {next : ℕ} {ts rest : List Lexeme} {s : Statement} → IsItem room n ts s next rest → next ≡ n + statements_in s
  item-counts n (kernels.statement h) = statement-counts n h
  item-counts n (kernels.declares semicolon h) = refl
  item-counts n (kernels.array w kind x length at type there opening count closing semicolon found) = refl
