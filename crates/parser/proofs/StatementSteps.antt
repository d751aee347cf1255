-- One step of each reader of statements.
use Rattle.std.proofs.Common.{◌≡◌, ℕ, zero, suc, ◌-◌, List, refl, ap, sym, ◌∙◌}
use Rattle.texts.specs.Lexemes.{Lexeme}
use Rattle.texts.specs.ParseFaults.{TooDeep}
use Rattle.parser.specs.Reader.{Looks, Refused, run}
use Rattle.parser.specs.Expressions.{kind_at}
use Rattle.parser.specs.Statements.{counted, statement_by, body_by, items, item_by, statement_reader, body_reader, block_reader, item_reader}
use Rattle.parser.proofs.Steps.{pred, stops-carry, bracket-less}

pub statement-none : (room n : ℕ) (ts : List Lexeme) → run (statement_reader 0 room n) ts ≡ Refused TooDeep ts
unfolding statement_reader
statement-none room n ts = refl

statement-more : (depth room n : ℕ) (ts : List Lexeme) → run (statement_reader (suc depth) room n) ts ≡ run (counted n (Looks (λ t. statement_by (body_reader depth) (block_reader depth) room depth n t.site t.kind))) ts
unfolding statement_reader body_reader block_reader
statement-more depth room n ts = refl

pub statement-less : (depth room n : ℕ) (ts : List Lexeme) → (depth ≡ 0 → ⊥) → run (statement_reader depth room n) ts ≡ run (counted n (Looks (λ t. statement_by (body_reader (depth - 1)) (block_reader (depth - 1)) room (depth - 1) n t.site t.kind))) ts
statement-less depth room n ts h = ap (λ d. run (statement_reader d room n) ts) (pred depth h) ∙ statement-more (depth - 1) room n ts

pub body-is : (depth room n : ℕ) (ts : List Lexeme) → run (body_reader depth room n) ts ≡ run (body_by (statement_reader depth) (block_reader depth) room n) ts
unfolding statement_reader body_reader block_reader
body-is zero room n ts = refl
body-is (suc depth) room n ts = refl

pub block-is : (depth room n : ℕ) (ts : List Lexeme) → run (block_reader depth room n) ts ≡ run (items (λ n. item_reader depth room n) 513 n) ts
unfolding statement_reader block_reader item_reader
block-is zero room n ts = refl
block-is (suc depth) room n ts = refl

pub item-none : (room n : ℕ) (ts : List Lexeme) → run (item_reader 0 room n) ts ≡ Refused TooDeep ts
unfolding item_reader
item-none room n ts = refl

item-more : (depth room n : ℕ) (ts : List Lexeme) → run (item_reader (suc depth) room n) ts ≡ run (counted n (Looks (λ t. item_by (statement_reader (suc depth) room n) room depth n t (kind_at t.kind)))) ts
unfolding item_reader
item-more depth room n ts = refl

pub item-less : (depth room n : ℕ) (ts : List Lexeme) → (depth ≡ 0 → ⊥) → run (item_reader depth room n) ts ≡ run (counted n (Looks (λ t. item_by (statement_reader depth room n) room (depth - 1) n t (kind_at t.kind)))) ts
item-less depth room n ts h =
    ap (λ d. run (item_reader d room n) ts) (pred depth h) ∙ item-more (depth - 1) room n ts
    ∙ ap (λ d. run (counted n (Looks (λ t. item_by (statement_reader d room n) room (depth - 1) n t (kind_at t.kind)))) ts) (sym (pred depth h))

pub ruleset statement_steps = (stops-carry, bracket-less, statement-none, statement-less, body-is, item-none, item-less)
