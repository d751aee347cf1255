-- One step of each reader of statements within statements, and of the statements of a block.
use Rattle.std.proofs.Common.{◌≡◌, ℕ, zero, suc, ◌-◌, List, [], ◌∷◌, ◌++◌, Bool, true, false, cond, refl, ap, sym, ◌∙◌, map}
use Rattle.opencl_tokens.specs.Lexemes.{Lexeme}
use Rattle.opencl_tree.specs.Tree.{Statement, Statements, none, one}
use Rattle.opencl_tree.specs.View.{statement, statements}
use Rattle.opencl_tree.specs.declared.tree.Stmt.{Stmt}
use Rattle.opencl_parser.specs.Faults.{TooDeep, TooMany}
use Rattle.opencl_parser.specs.Reader.{Reader, Attempt, Took, Refused, Gives, Looks, Passes, Then, carry, front, behind, run}
use Rattle.opencl_parser.specs.TypeNames.{Known}
use Rattle.opencl_parser.specs.Declarations.{is_right_brace}
use Rattle.opencl_parser.specs.View.{known, all_known}
use Rattle.opencl_parser.specs.declared.type_words.Known as code
use Rattle.opencl_parser.specs.Statements.{counted, statement_by, body_by, item_by, items, Item, extended, with_last, statement_reader, body_reader, block_reader, item_reader}
use Rattle.opencl_parser.proofs.Steps.{pred, stops-carry}

pub statement-none : (ks : List Known) (depth n : ℕ) (ts : List Lexeme) → depth ≡ 0 → run (statement_reader ks depth n) ts ≡ Refused TooDeep (front ts).site
unfolding statement_reader
statement-none ks depth n ts h = ap (λ d. run (statement_reader ks d n) ts) h

statement-more : (ks : List Known) (depth n : ℕ) (ts : List Lexeme) → run (statement_reader ks (suc depth) n) ts ≡ run (counted n (Looks (λ t. statement_by (body_reader ks depth) (block_reader ks depth) ks depth n t.site t.kind))) ts
unfolding statement_reader body_reader block_reader
statement-more ks depth n ts = refl

pub statement-less : (ks : List Known) (depth n : ℕ) (ts : List Lexeme) → (depth ≡ 0 → ⊥) → run (statement_reader ks depth n) ts ≡ run (counted n (Looks (λ t. statement_by (body_reader ks (depth - 1)) (block_reader ks (depth - 1)) ks (depth - 1) n t.site t.kind))) ts
statement-less ks depth n ts h = ap (λ d. run (statement_reader ks d n) ts) (pred depth h) ∙ statement-more ks (depth - 1) n ts

pub body-is : (ks : List Known) (depth n : ℕ) (ts : List Lexeme) → run (body_reader ks depth n) ts ≡ run (body_by (statement_reader ks depth n) (block_reader ks depth n)) ts
unfolding statement_reader body_reader block_reader
body-is ks zero n ts = refl
body-is ks (suc depth) n ts = refl

pub block-is : (ks : List Known) (depth n : ℕ) (ts : List Lexeme) → run (block_reader ks depth n) ts ≡ run (items (λ ks n. item_reader ks depth n) 4097 ks n none) ts
unfolding statement_reader block_reader item_reader
block-is ks zero n ts = refl
block-is ks (suc depth) n ts = refl

pub item-none : (ks : List Known) (depth n : ℕ) (ts : List Lexeme) → depth ≡ 0 → run (item_reader ks depth n) ts ≡ Refused TooDeep (front ts).site
unfolding item_reader
item-none ks depth n ts h = ap (λ d. run (item_reader ks d n) ts) h

item-more : (ks : List Known) (depth n : ℕ) (ts : List Lexeme) → run (item_reader ks (suc depth) n) ts ≡ run (counted n (Looks (λ t. item_by (statement_reader ks (suc depth) n) ks depth n t.site t.kind))) ts
unfolding item_reader
item-more ks depth n ts = refl

pub item-less : (ks : List Known) (depth n : ℕ) (ts : List Lexeme) → (depth ≡ 0 → ⊥) → run (item_reader ks depth n) ts ≡ run (counted n (Looks (λ t. item_by (statement_reader ks depth n) ks (depth - 1) n t.site t.kind))) ts
item-less ks depth n ts h =
    ap (λ d. run (item_reader ks d n) ts) (pred depth h) ∙ item-more ks (depth - 1) n ts
    ∙ ap (λ d. run (counted n (Looks (λ t. item_by (statement_reader ks d n) ks (depth - 1) n t.site t.kind))) ts) (sym (pred depth h))

pub items-none : (item : List Known → (n : ℕ) → Reader Item) (left : ℕ) (ks : List Known) (n : ℕ) (so : Statements) (ts : List Lexeme) → left ≡ 0 → run (items item left ks n so) ts ≡ Refused TooMany (front ts).site
unfolding items
items-none item left ks n so ts h = ap (λ l. run (items item l ks n so) ts) h

items-more : (item : List Known → (n : ℕ) → Reader Item) (left less : ℕ) (ks : List Known) (n : ℕ) (so : Statements) (ts : List Lexeme) → left ≡ suc less → run (items item left ks n so) ts ≡ run (cond (is_right_brace (front ts).kind) (Passes (Gives (so, n))) (Then (item ks n) (λ s. items item less (extended ks s.made) s.next (with_last so s.statement)))) ts
unfolding items
items-more item left less ks n so ts h = ap (λ l. run (items item l ks n so) ts) h

pub last-item : (item : List Known → (n : ℕ) → Reader Item) (left less : ℕ) (ks : List Known) (n : ℕ) (so : Statements) (ts : List Lexeme) → left ≡ suc less → is_right_brace (front ts).kind ≡ true → run (items item left ks n so) ts ≡ Took (so, n) (behind ts)
last-item item left less ks n so ts h brace =
    items-more item left less ks n so ts h ∙ ap (λ b. run (cond b (Passes (Gives (so, n))) (Then (item ks n) (λ s. items item less (extended ks s.made) s.next (with_last so s.statement)))) ts) brace

pub next-item : (item : List Known → (n : ℕ) → Reader Item) (left less : ℕ) (ks : List Known) (n : ℕ) (so : Statements) (ts : List Lexeme) → left ≡ suc less → is_right_brace (front ts).kind ≡ false → run (items item left ks n so) ts ≡ carry (run (item ks n) ts) (λ s rest. run (items item less (extended ks s.made) s.next (with_last so s.statement)) rest)
next-item item left less ks n so ts h brace =
    items-more item left less ks n so ts h ∙ ap (λ b. run (cond b (Passes (Gives (so, n))) (Then (item ks n) (λ s. items item less (extended ks s.made) s.next (with_last so s.statement)))) ts) brace

pub statements-snoc : (list : List Stmt) (s : Stmt) → statements (list ++ s ∷ []) ≡ with_last (statements list) (statement s)
statements-snoc [] s = refl
statements-snoc (x ∷ list) s = ap (one (statement x)) (statements-snoc list s)

pub known-snoc : (ks : List code.Known) (k : code.Known) → all_known (ks ++ k ∷ []) ≡ all_known ks ++ known k ∷ []
known-snoc [] k = refl
known-snoc (x ∷ ks) k = ap (λ r. known x ∷ r) (known-snoc ks k)

pub ruleset statement_steps = (stops-carry, statement-none, statement-less, body-is, item-none, item-less)
