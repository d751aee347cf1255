-- How a reader of statements goes on, by what stands at the front.
use Rattle.std.proofs.Common.{◌≡◌, ◌≤◌, ◌≢◌, not, ℕ, zero, suc, ◌+◌, Bool, true, false, nat_lt, cond, Some, None, List, [], ◌∷◌, refl, ap, sym, subst}
use Rattle.std.specs.Prelude.{codes, bytes_eq}
use Rattle.std.proofs.lemmas.Bool.{false≢true, le-ltb, false_from_ne_true}
use Rattle.std.proofs.lemmas.Slice.Eq.{bytes_eq-Decides}
use Rattle.semantics.specs.Core.{Site}
use Rattle.texts.specs.Signs as signs
use Rattle.texts.specs.Reserved as words
use Rattle.texts.specs.Reserved.{Reserved}
use Rattle.texts.specs.Tokens as token
use Rattle.texts.specs.Tokens.{TokenKind}
use Rattle.texts.specs.Lexemes.{Lexeme, mark, word, name, kind_of, jump_of}
use Rattle.texts.specs.Surface.{JumpWord, Return, Break, Continue, Statement, Statements, Assign, Barrier, Jump, none, one}
use Rattle.texts.specs.KernelGrammar as rules
use Rattle.texts.specs.KernelGrammar.{IsStatement, IsItem, is_else, no_else, is_block}
use Rattle.parser.specs.Reader.{Reader, Gives, Passes, Then, Took, front, run}
use Rattle.parser.specs.Expressions.{expects, kind_at}
use Rattle.parser.specs.Statements.{is_semicolon, is_left_brace, is_right_brace, is_local, tested, assignment_reader, named, jump_reader, items, else_reader, statement_by, item_by, statement_reader, body_reader, block_reader, item_reader}
use Rattle.parser.proofs.Options.{none-some, same-some}
use Rattle.parser.proofs.Answers.{Answers, takes, gives, refuses-deep, refuses-many, looks, passes, if-false, if-not}
use Rattle.parser.proofs.CompleteParts.{typed-front}
use Rattle.parser.proofs.SoundStatements.{name-of}

-- a jump's word is no type, nor a qualifier
jump-begins : (w : Reserved) (jump : JumpWord) → jump_of w ≡ Some jump → (kind_of w ≡ None) × (is_local (token.Word w) ≡ false)
jump-begins words.Return jump h = (refl, refl)
jump-begins words.Break jump h = (refl, refl)
jump-begins words.Continue jump h = (refl, refl)
jump-begins w jump h = absurd (none-some jump h)

-- how statements begin
pub statement-begins : {room n next : ℕ} {ts rest : List Lexeme} {s : Statement} → IsStatement room n ts s next rest → (kind_at (front ts).kind ≡ None) × (is_local (front ts).kind ≡ false) × (is_right_brace (front ts).kind ≡ false)
statement-begins (rules.assigns semicolon differs h) = (ap kind_at (name-of h), ap is_local (name-of h), ap is_right_brace (name-of h))
statement-begins (rules.if_alone at opening closing h a free) = (refl, refl, refl)
statement-begins (rules.if_else at opening closing other h a b) = (refl, refl, refl)
statement-begins (rules.while at opening closing h a) = (refl, refl, refl)
statement-begins (rules.for at opening semicolon then closing f h u a) = (refl, refl, refl)
statement-begins (rules.barrier at opening closing semicolon h) = (refl, refl, refl)
statement-begins (rules.jump w jump at semicolon found) = let b = jump-begins w jump found in (b.0, b.1, refl)
statement-begins (rules.block at h) = (refl, refl, refl)

typed-is : (kind : TokenKind) (k : _) → kind_at kind ≡ Some k → is_right_brace kind ≡ false
typed-is (token.Mark s) k h = absurd (none-some k h)
typed-is kind k h = refl

pub item-begins : {room n next : ℕ} {ts rest : List Lexeme} {s : Statement} → IsItem room n ts s next rest → is_right_brace (front ts).kind ≡ false
item-begins (rules.statement h) = (statement-begins h).2
item-begins {ts = ts} (rules.declares {d = d} semicolon h) = typed-is (front ts).kind d.kind (typed-front h)
item-begins (rules.array w kind x length at type there opening count closing semicolon found) = refl

-- what is no block begins without a brace
pub no-brace : {room n next : ℕ} {ts rest : List Lexeme} {s : Statement} → IsStatement room n ts s next rest → is_block s ≡ false → is_left_brace (front ts).kind ≡ false
no-brace (rules.assigns semicolon differs h) e = ap is_left_brace (name-of h)
no-brace (rules.if_alone at opening closing h a free) e = refl
no-brace (rules.if_else at opening closing other h a b) e = refl
no-brace (rules.while at opening closing h a) e = refl
no-brace (rules.for at opening semicolon then closing f h u a) e = refl
no-brace (rules.barrier at opening closing semicolon h) e = refl
no-brace (rules.jump w jump at semicolon found) e = refl
no-brace (rules.block at h) e = absurd (false≢true (sym e))

pub no-statement-level : (room n : ℕ) {ts rest : List Lexeme} {s : Statement × ℕ} {deep many : Type 0} → (deep → ⊥) → Answers (statement_reader zero room n) ts s rest deep many
unfolding statement_reader
no-statement-level room n h = refuses-deep h

pub no-item-level : (room n : ℕ) {ts rest : List Lexeme} {s : Statement × ℕ} {deep many : Type 0} → (deep → ⊥) → Answers (item_reader zero room n) ts s rest deep many
unfolding item_reader
no-item-level room n h = refuses-deep h

-- a statement that is not one too many
pub statement-step : (depth room n : ℕ) {ts rest : List Lexeme} {s : Statement × ℕ} {deep many : Type 0} → (many → n ≤ 512) → Answers (statement_by (body_reader depth) (block_reader depth) room depth n (front ts).site (front ts).kind) ts s rest deep many → Answers (statement_reader (suc depth) room n) ts s rest deep many
unfolding statement_reader body_reader block_reader
statement-step depth room n few h = if-not (nat_lt 512 n) (λ f. le-ltb 512 n (few f)) (looks h)

pub item-step : (depth room n : ℕ) {ts rest : List Lexeme} {s : Statement × ℕ} {deep many : Type 0} → (many → n ≤ 512) → Answers (item_by (statement_reader (suc depth) room n) room depth n (front ts) (kind_at (front ts).kind)) ts s rest deep many → Answers (item_reader (suc depth) room n) ts s rest deep many
unfolding item_reader
item-step depth room n few h = if-not (nat_lt 512 n) (λ f. le-ltb 512 n (few f)) (looks h)

-- a part of a statement
pub single-step : (depth room n : ℕ) {ts rest : List Lexeme} {ss : Statements × ℕ} {deep many : Type 0} → is_left_brace (front ts).kind ≡ false → Answers (Then (statement_reader depth room n) (λ s. Gives (one s.0 none, s.1))) ts ss rest deep many → Answers (body_reader depth room n) ts ss rest deep many
unfolding body_reader statement_reader
single-step zero room n {ts = ts} other h = looks (if-false (is_left_brace (front ts).kind) _ _ other h)
single-step (suc depth) room n {ts = ts} other h = looks (if-false (is_left_brace (front ts).kind) _ _ other h)

pub no-braces : (depth n : ℕ) {ts rest : List Lexeme} {ss : Statements × ℕ} {deep many : Type 0} (at : Site) → (deep → ⊥) → Answers (body_reader depth zero n) (mark signs.LeftBrace at ∷ ts) ss rest deep many
unfolding body_reader
no-braces zero n at h = looks (refuses-deep h)
no-braces (suc depth) n at h = looks (refuses-deep h)

pub braces-step : (depth room n : ℕ) {ts rest : List Lexeme} {ss : Statements × ℕ} {deep many : Type 0} (at : Site) → Answers (block_reader depth room n) ts ss rest deep many → Answers (body_reader depth (suc room) n) (mark signs.LeftBrace at ∷ ts) ss rest deep many
unfolding body_reader block_reader
braces-step zero room n at h = looks (passes h)
braces-step (suc depth) room n at h = looks (passes h)

-- statement after statement
pub block-step : (depth room n : ℕ) {ts rest : List Lexeme} {ss : Statements × ℕ} {deep many : Type 0} → Answers (items (item_reader depth room) 513 n) ts ss rest deep many → Answers (block_reader depth room n) ts ss rest deep many
unfolding block_reader item_reader statement_reader
block-step zero room n h = h
block-step (suc depth) room n h = h

pub no-item-left : (item : ℕ → Reader (Statement × ℕ)) (n : ℕ) {ts rest : List Lexeme} {ss : Statements × ℕ} {deep many : Type 0} → (many → ⊥) → Answers (items item zero n) ts ss rest deep many
unfolding items
no-item-left item n h = refuses-many h

pub end-step : (item : ℕ → Reader (Statement × ℕ)) (left n : ℕ) {rest : List Lexeme} {deep many : Type 0} (closing : Site) → Answers (items item (suc left) n) (mark signs.RightBrace closing ∷ rest) (none, n) rest deep many
unfolding items
end-step item left n closing = looks (passes gives)

pub items-step : (item : ℕ → Reader (Statement × ℕ)) (left n : ℕ) {ts rest : List Lexeme} {ss : Statements × ℕ} {deep many : Type 0} → is_right_brace (front ts).kind ≡ false → Answers (Then (item n) (λ s. Then (items item left s.1) (λ ss. Gives (one s.0 ss.0, ss.1)))) ts ss rest deep many → Answers (items item (suc left) n) ts ss rest deep many
unfolding items
items-step item left n {ts = ts} other h = looks (if-false (is_right_brace (front ts).kind) _ _ other h)

-- where no `else` stands
pub no-else-read : (body : (room n : ℕ) → Reader (Statements × ℕ)) (room n : ℕ) (ts : List Lexeme) → no_else ts ≡ true → run (else_reader body room n) ts ≡ Took (none, n) ts
no-else-read body room n [] h = refl
no-else-read body room n (t ∷ ts) h = by (is_else t.kind) h
  where
    by : (b : Bool) → not b ≡ true → run (cond b (Passes (body room n)) (Gives (none, n))) (t ∷ ts) ≡ Took (none, n) (t ∷ ts)
    by false h = refl
    by true h = absurd (false≢true h)

-- what begins with a name
pub assign-step : (body block : (room n : ℕ) → Reader (Statements × ℕ)) (room depth n : ℕ) {ts rest : List Lexeme} {s : Statement × ℕ} {deep many : Type 0} (x : List ℕ) → (front ts).kind ≡ token.Name x → x ≢ codes "barrier" →
    Answers (Then (assignment_reader room depth n) (λ a. Then (expects is_semicolon) (λ semicolon. Gives (Assign a, n + 1)))) ts s rest deep many → Answers (statement_by body block room depth n (front ts).site (front ts).kind) ts s rest deep many
unfolding named
assign-step body block room depth n {ts = ts} {rest = rest} {s = s} {deep = deep} {many = many} x q differs h =
    subst (λ k. Answers (statement_by body block room depth n (front ts).site k) ts s rest deep many) (sym q)
    (if-false (bytes_eq x (codes "barrier")) _ _ (false_from_ne_true (bytes_eq x (codes "barrier")) (λ e. differs ((bytes_eq-Decides x (codes "barrier")).0 e))) h)

pub barrier-step : (body block : (room n : ℕ) → Reader (Statements × ℕ)) (room depth n : ℕ) {ts rest : List Lexeme} {s : Statement × ℕ} {deep many : Type 0} (at : Site) →
    Answers (Then (tested room depth) (λ flags. Then (expects is_semicolon) (λ semicolon. Gives (Barrier n at flags, n + 1)))) ts s rest deep many → Answers (statement_by body block room depth n at (token.Name (codes "barrier"))) (name (codes "barrier") at ∷ ts) s rest deep many
unfolding named
barrier-step body block room depth n at h = passes h

-- a jump is sure to be taken
pub jump-step : (body block : (room n : ℕ) → Reader (Statements × ℕ)) (room depth n : ℕ) {rest : List Lexeme} {deep many : Type 0} (w : Reserved) (jump : JumpWord) (at semicolon : Site) → jump_of w ≡ Some jump →
    Answers (statement_by body block room depth n at (token.Word w)) (word w at ∷ mark signs.Semicolon semicolon ∷ rest) (Jump n at jump, n + 1) rest deep many
unfolding jump_reader
jump-step body block room depth n {rest = rest} words.Return jump at semicolon found = takes (ap (λ j. Took (Jump n at j, n + 1) rest) (same-some (Some Return) Return jump refl found))
jump-step body block room depth n {rest = rest} words.Break jump at semicolon found = takes (ap (λ j. Took (Jump n at j, n + 1) rest) (same-some (Some Break) Break jump refl found))
jump-step body block room depth n {rest = rest} words.Continue jump at semicolon found = takes (ap (λ j. Took (Jump n at j, n + 1) rest) (same-some (Some Continue) Continue jump refl found))
jump-step body block room depth n w jump at semicolon found = absurd (none-some jump found)
