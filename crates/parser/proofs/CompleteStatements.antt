-- Each statement of the grammar is read, or a limit is passed.
use Rattle.std.proofs.Common.{◌≡◌, ◌≤◌, ℕ, zero, suc, ◌+◌, false, nat_lt, Some, None, List, ◌∷◌, length, refl, sym, subst, arith}
use Rattle.std.proofs.lemmas.Bool.{le-ltb}
use Rattle.semantics.specs.Core.{Site}
use Rattle.texts.specs.Signs as signs
use Rattle.semantics.specs.Word.{Kind}
use Rattle.texts.specs.Numbers.{Literal}
use Rattle.texts.specs.Reserved.{Reserved}
use Rattle.texts.specs.Lexemes.{Lexeme, mark, word, name, number, kind_of}
use Rattle.texts.specs.Ended.{IsShort}
use Rattle.texts.specs.Surface.{Expression, Assignment, First, Statement, Statements, Declare, DeclareArray, For}
use Rattle.texts.specs.Limits.{deep_expression, deep_assignment, deep_first, deep_statement, deep_statements}
use Rattle.texts.specs.KernelLimits.{ArraysFit, AllArraysFit}
use Rattle.texts.specs.KernelGrammar as rules
use Rattle.texts.specs.KernelGrammar.{IsStatement, IsBody, IsItems, IsItem}
use Rattle.parser.specs.Reader.{Gives, Then, front}
use Rattle.parser.specs.Expressions.{expects, kind_at}
use Rattle.parser.specs.Statements.{is_semicolon, is_right_brace, is_local, declaration_reader, items, array_reader, item_by, statement_reader, body_reader, block_reader, item_reader}
use Rattle.parser.proofs.Answers.{Answers, gives, refuses-deep, looks, passes, sure, both, weaker, if-false, if-not}
use Rattle.parser.proofs.Counting.{body-counts, items-counts, item-counts, at-least-one}
use Rattle.parser.proofs.Later.{past, stays, later-length, expression-later, first-later, assignment-later, body-later, item-later}
use Rattle.parser.proofs.Beginnings.{inner, parts, too-deep-statement}
use Rattle.parser.proofs.CompleteExpressions.{Shallow, semicolon_closes}
use Rattle.parser.proofs.CompleteParts.{type-taken, assignment-complete, declaration-complete, typed-front, tested-complete, head-complete, length-complete}
use Rattle.parser.proofs.SoundStatements.{name-of}
use Rattle.parser.proofs.StatementReads.{statement-begins, item-begins, no-brace, no-statement-level, no-item-level, statement-step, item-step, single-step, no-braces, braces-step, block-step, no-item-left, end-step, items-step, no-else-read, assign-step, barrier-step, jump-step}

-- no more lexemes than a text has, no more than 512 statements, and arrays of a fair length
abbrev pub FewStatements : (next : ℕ) → (fair : Type 0) → List Lexeme → Type 0
FewStatements next fair ts = IsShort ts × (next ≤ 513) × fair

-- what stands in a block
plain-item : (depth room n : ℕ) {ts rest : List Lexeme} {s : Statement × ℕ} {deep many : Type 0} → (kind_at (front ts).kind ≡ None) × (is_local (front ts).kind ≡ false) × (is_right_brace (front ts).kind ≡ false) → Answers (statement_reader (suc depth) room n) ts s rest deep many →
    Answers (item_by (statement_reader (suc depth) room n) room depth n (front ts) (kind_at (front ts).kind)) ts s rest deep many
plain-item depth room n {ts = ts} {rest = rest} {s = s} {deep = deep} {many = many} begins h =
    subst (λ o. Answers (item_by (statement_reader (suc depth) room n) room depth n (front ts) o) ts s rest deep many) (sym begins.0) (if-false (is_local (front ts).kind) _ _ begins.1 h)

declared-item : (depth room n : ℕ) {ts rest : List Lexeme} {s : Statement × ℕ} {deep many : Type 0} {kind : Kind} → kind_at (front ts).kind ≡ Some kind → Answers (Then (declaration_reader room depth n) (λ d. Then (expects is_semicolon) (λ semicolon. Gives (Declare d, n + 1)))) ts s rest deep many →
    Answers (item_by (statement_reader (suc depth) room n) room depth n (front ts) (kind_at (front ts).kind)) ts s rest deep many
declared-item depth room n {ts = ts} {rest = rest} {s = s} {deep = deep} {many = many} typed h =
    subst (λ o. Answers (item_by (statement_reader (suc depth) room n) room depth n (front ts) o) ts s rest deep many) (sym typed) h

array-complete : (n : ℕ) {rest : List Lexeme} (had : ℕ) (w : Reserved) (kind : Kind) (x : List ℕ) (l : Literal) (at type there opening count closing semicolon : Site) → kind_of w ≡ Some kind → (room : ℕ) →
    Answers (array_reader room n at) (word w type ∷ name x there ∷ mark signs.LeftBracket opening ∷ number l count ∷ mark signs.RightBracket closing ∷ mark signs.Semicolon semicolon ∷ rest) (DeclareArray n at kind there x l.value) rest (suc had ≤ room) ((1 ≤ l.value) × (l.value ≤ 16384))
unfolding array_reader
array-complete n {rest = rest} had w kind x l at type there opening count closing semicolon found zero =
    sure (type-taken w kind type (name x there ∷ mark signs.LeftBracket opening ∷ number l count ∷ mark signs.RightBracket closing ∷ mark signs.Semicolon semicolon ∷ rest) found) (sure refl (looks (refuses-deep (λ f. omega (arith, f)))))
array-complete n {rest = rest} had w kind x l at type there opening count closing semicolon found (suc room) =
    sure (type-taken w kind type (name x there ∷ mark signs.LeftBracket opening ∷ number l count ∷ mark signs.RightBracket closing ∷ mark signs.Semicolon semicolon ∷ rest) found) (sure refl (looks (passes
    (both (length-complete l count) (λ f. f) (λ f. f) (sure refl (sure refl gives))))))

-- the parts of a `for`
for-parts : (d n : ℕ) (at : Site) (f : First) (e : Expression) (u : Assignment) (body : Statements) → deep_statement d (For n at f e u body) ≡ None → (deep_first (d + 1) f ≡ None) × (deep_expression (d + 1) e ≡ None) × (deep_assignment (d + 1) u ≡ None) × (deep_statements (d + 1) body ≡ None)
for-parts d n at f e u body h =
    let p = parts (deep_first (d + 1) f) _ (inner d at _ h) in
    let q = parts (deep_expression (d + 1) e) _ p.1 in
    let r = parts (deep_assignment (d + 1) u) _ q.1 in
    (p.0, q.0, r.0, r.1)

mutual
  pub statement-complete : (n : ℕ) {had next : ℕ} {ts rest : List Lexeme} {s : Statement} → IsStatement had n ts s next rest → 1 ≤ n → (depth room d : ℕ) → 33 ≤ depth + d → Answers (statement_reader depth room n) ts (s, next) rest (Shallow had room (deep_statement d s)) (FewStatements next (ArraysFit s) ts)
  statement-complete n {s = s} h first zero room d le = no-statement-level room n (λ f. too-deep-statement d s (omega (arith, le)) f.1)
  statement-complete n (rules.assigns {a = a} semicolon differs h) first (suc depth) room d le =
      statement-step depth room n (λ f. omega (arith, f.1)) (assign-step (body_reader depth) (block_reader depth) room depth n a.name (name-of h) differs
      (both (assignment-complete h semicolon_closes room depth d (omega (arith, le))) (λ f. f) (λ f. f.0) (sure refl gives)))
  statement-complete n {next = next} {rest = rest} (rules.if_alone at opening closing h a free) first (suc depth) room d le =
      statement-step depth room n (λ f. omega (arith, f.1, body-counts (n + 1) a)) (passes
      (both (tested-complete opening closing h room depth (d + 1) (omega (arith, le))) (λ f. (f.0, (parts _ _ (inner d at _ f.1)).0)) (λ f. omega (arith, f.0))
      (both (body-complete (n + 1) a (omega arith) depth room (d + 1) (omega (arith, le))) (λ f. (f.0, (parts _ _ (parts _ _ (inner d at _ f.1)).1).0)) (λ f. (omega (arith, f.0, later-length (past refl (expression-later h) stays)), f.1, f.2.0))
      (sure (no-else-read (body_reader depth) room next rest free) gives))))
  statement-complete n (rules.if_else {middle = middle} at opening closing other h a b) first (suc depth) room d le =
      statement-step depth room n (λ f. omega (arith, f.1, body-counts (n + 1) a, body-counts middle b)) (passes
      (both (tested-complete opening closing h room depth (d + 1) (omega (arith, le))) (λ f. (f.0, (parts _ _ (inner d at _ f.1)).0)) (λ f. omega (arith, f.0))
      (both (body-complete (n + 1) a (omega arith) depth room (d + 1) (omega (arith, le))) (λ f. (f.0, (parts _ _ (parts _ _ (inner d at _ f.1)).1).0)) (λ f. (omega (arith, f.0, later-length (past refl (expression-later h) stays)), omega (arith, f.1, body-counts middle b), f.2.0))
      (both (looks (passes (body-complete middle b (omega (arith, body-counts (n + 1) a)) depth room (d + 1) (omega (arith, le))))) (λ f. (f.0, (parts _ _ (parts _ _ (inner d at _ f.1)).1).1)) (λ f. (omega (arith, f.0, later-length (past refl (expression-later h) stays), later-length (past refl (body-later a) stays)), f.1, f.2.1)) gives))))
  statement-complete n (rules.while at opening closing h a) first (suc depth) room d le =
      statement-step depth room n (λ f. omega (arith, f.1, body-counts (n + 1) a)) (passes
      (both (tested-complete opening closing h room depth (d + 1) (omega (arith, le))) (λ f. (f.0, (parts _ _ (inner d at _ f.1)).0)) (λ f. omega (arith, f.0))
      (both (body-complete (n + 1) a (omega arith) depth room (d + 1) (omega (arith, le))) (λ f. (f.0, (parts _ _ (inner d at _ f.1)).1)) (λ f. (omega (arith, f.0, later-length (past refl (expression-later h) stays)), f.1, f.2)) gives)))
  statement-complete n (rules.for {first = part} {e = test} {update = update} {body = body} at opening semicolon then closing f e u a) first (suc depth) room d le =
      statement-step depth room n (λ fit. omega (arith, fit.1, body-counts (n + 3) a)) (if-not (nat_lt 510 n) (λ fit. le-ltb 510 n (omega (arith, fit.1, body-counts (n + 3) a))) (passes
      (both (head-complete n opening semicolon then closing f e u room depth (d + 1) (omega (arith, le)))
      (λ fit. let p = for-parts d n at part test update body fit.1 in (fit.0, p.0, p.1, p.2)) (λ fit. omega (arith, fit.0))
      (both (body-complete (n + 3) a (omega arith) depth room (d + 1) (omega (arith, le)))
      (λ fit. (fit.0, (for-parts d n at part test update body fit.1).3)) (λ fit. (omega (arith, fit.0, later-length (past refl (first-later f) stays), later-length (past refl (expression-later e) stays), later-length (past refl (assignment-later u) stays)), fit.1, fit.2)) gives))))
  statement-complete n (rules.barrier at opening closing semicolon h) first (suc depth) room d le =
      statement-step depth room n (λ f. omega (arith, f.1)) (barrier-step (body_reader depth) (block_reader depth) room depth n at
      (both (tested-complete opening closing h room depth (d + 1) (omega (arith, le))) (λ f. (f.0, inner d at _ f.1)) (λ f. omega (arith, f.0)) (sure refl gives)))
  statement-complete n (rules.jump w jump at semicolon found) first (suc depth) room d le =
      statement-step depth room n (λ f. omega (arith, f.1)) (jump-step (body_reader depth) (block_reader depth) room depth n w jump at semicolon found)
  statement-complete n (rules.block at h) first (suc depth) zero d le = statement-step depth zero n (λ f. omega (arith, f.1, items-counts (n + 1) h)) (refuses-deep (λ f. omega (arith, f.0)))
  statement-complete n (rules.block at h) first (suc depth) (suc room) d le =
      statement-step depth (suc room) n (λ f. omega (arith, f.1, items-counts (n + 1) h)) (passes
      (both (block-step depth room (n + 1) (items-complete (n + 1) h (omega arith) 513 depth room (d + 1) (omega (arith, le)) (omega (arith, first)))) (λ f. (omega (arith, f.0), inner d at _ f.1)) (λ f. (omega (arith, f.0), f.1, f.2)) gives))

  pub body-complete : (n : ℕ) {had next : ℕ} {ts rest : List Lexeme} {ss : Statements} → IsBody had n ts ss next rest → 1 ≤ n → (depth room d : ℕ) → 33 ≤ depth + d → Answers (body_reader depth room n) ts (ss, next) rest (Shallow had room (deep_statements d ss)) (FewStatements next (AllArraysFit ss) ts)
  body-complete n (rules.single free h) first depth room d le =
      single-step depth room n (no-brace h free) (both (statement-complete n h first depth room d le) (λ f. (f.0, (parts _ _ f.1).0)) (λ f. (f.0, f.1, f.2.0)) gives)
  body-complete n (rules.braces at h) first depth zero d le = no-braces depth n at (λ f. omega (arith, f.0))
  body-complete n (rules.braces at h) first depth (suc room) d le =
      braces-step depth room n at (weaker (λ f. (omega (arith, f.0), f.1)) (λ f. (omega (arith, f.0), f.1, f.2)) (block-step depth room n (items-complete n h first 513 depth room d le (omega (arith, first)))))

  pub items-complete : (n : ℕ) {had next : ℕ} {ts rest : List Lexeme} {ss : Statements} → IsItems had n ts ss next rest → 1 ≤ n → (left depth room d : ℕ) → 33 ≤ depth + d → 514 ≤ left + n → Answers (items (item_reader depth room) left n) ts (ss, next) rest (Shallow had room (deep_statements d ss)) (FewStatements next (AllArraysFit ss) ts)
  items-complete n h first zero depth room d le enough = no-item-left (item_reader depth room) n (λ f. omega (arith, f.1, enough, items-counts n h))
  items-complete n (rules.end closing) first (suc left) depth room d le enough = end-step (item_reader depth room) left n closing
  items-complete n (rules.item {middle = middle} {s = s} h k) first (suc left) depth room d le enough =
      items-step (item_reader depth room) left n (item-begins h)
      (both (item-complete n h first depth room d le) (λ f. (f.0, (parts _ _ f.1).0)) (λ f. (f.0, omega (arith, f.1, items-counts middle k), f.2.0))
      (both (items-complete middle k (omega (arith, first, item-counts n h)) left depth room d le (omega (arith, enough, item-counts n h, at-least-one s)))
      (λ f. (f.0, (parts _ _ f.1).1)) (λ f. (omega (arith, f.0, later-length (item-later h)), f.1, f.2.1)) gives))

  item-complete : (n : ℕ) {had next : ℕ} {ts rest : List Lexeme} {s : Statement} → IsItem had n ts s next rest → 1 ≤ n → (depth room d : ℕ) → 33 ≤ depth + d → Answers (item_reader depth room n) ts (s, next) rest (Shallow had room (deep_statement d s)) (FewStatements next (ArraysFit s) ts)
  item-complete n {s = s} h first zero room d le = no-item-level room n (λ f. too-deep-statement d s (omega (arith, le)) f.1)
  item-complete n {ts = ts} (rules.statement {s = s} h) first (suc depth) room d le =
      item-step depth room n (λ f. omega (arith, f.1, item-counts n (rules.statement h), at-least-one s)) (plain-item depth room n (statement-begins h) (statement-complete n h first (suc depth) room d le))
  item-complete n (rules.declares {d = c} semicolon h) first (suc depth) room d le =
      item-step depth room n (λ f. omega (arith, f.1)) (declared-item depth room n (typed-front h) (both (declaration-complete h semicolon_closes room depth d (omega (arith, le))) (λ f. f) (λ f. f.0) (sure refl gives)))
  item-complete n (rules.array {room = had} w kind x length at type there opening count closing semicolon found) first (suc depth) room d le =
      item-step depth room n (λ f. omega (arith, f.1)) (passes (both (array-complete n had w kind x length at type there opening count closing semicolon found room) (λ f. f.0) (λ f. f.2) gives))
