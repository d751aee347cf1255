-- How a reader of expressions goes on, by what stands at the front.
use Rattle.std.proofs.Common.{◌≡◌, ℕ, zero, suc, Some, None, List, ◌∷◌, refl, sym, subst}
use Rattle.semantics.specs.Word.{Kind}
use Rattle.semantics.specs.Core.{Site}
use Rattle.texts.specs.Numbers.{Literal}
use Rattle.texts.specs.Signs.{Sign, LeftParenthesis, RightParenthesis, LeftBracket}
use Rattle.texts.specs.Reserved.{Reserved}
use Rattle.texts.specs.Tokens as token
use Rattle.texts.specs.Lexemes.{Lexeme, mark, word, name, number, prefix_of, kind_of}
use Rattle.texts.specs.Surface.{Expression, PrefixSign, Number, Name, Element, Call, Prefix, Cast}
use Rattle.parser.specs.Reader.{Gives, Then, front}
use Rattle.parser.specs.Expressions.{is_left_parenthesis, is_right_parenthesis, is_left_bracket, is_right_bracket, expects, kind_at, whole, arguments, parenthesized, signed, inside, operand_reader, expression_reader}
use Rattle.parser.proofs.Answers.{Answers, gives, refuses-deep, looks, passes, sure, if-false}
use Rattle.parser.proofs.Beginnings.{Ends}

pub no-level : (r : ℕ) {ts rest : List Lexeme} {e : Expression} {deep many : Type 0} → (deep → ⊥) → Answers (expression_reader r zero) ts e rest deep many
unfolding expression_reader
no-level r n = refuses-deep n

pub no-operand-level : (r : ℕ) {ts rest : List Lexeme} {e : Expression} {deep many : Type 0} → (deep → ⊥) → Answers (operand_reader r zero) ts e rest deep many
unfolding operand_reader
no-operand-level r n = refuses-deep n

pub expression-step : (r depth : ℕ) {ts rest : List Lexeme} {e : Expression} {deep many : Type 0} → Answers (whole (operand_reader r (suc depth)) (expression_reader r depth) (suc depth)) ts e rest deep many → Answers (expression_reader r (suc depth)) ts e rest deep many
unfolding expression_reader operand_reader
expression-step r depth h = h

pub prefix-step : (r depth : ℕ) {ts rest : List Lexeme} {e : Expression} {deep many : Type 0} (s : Sign) (sign : PrefixSign) (at : Site) → prefix_of s ≡ Some sign → Answers (Then (operand_reader r depth) (λ e. Gives (Prefix at sign e))) ts e rest deep many → Answers (operand_reader r (suc depth)) (mark s at ∷ ts) e rest deep many
unfolding operand_reader
prefix-step r depth {ts = ts} {rest = rest} {e = e} {deep = deep} {many = many} s sign at found h =
    looks (subst (λ o. Answers (signed (inside r) (operand_reader r depth) depth at o (token.Mark s)) (mark s at ∷ ts) e rest deep many) (sym found) (passes h))

pub literal-step : (r depth : ℕ) {rest : List Lexeme} {deep many : Type 0} (n : Literal) (at : Site) → Answers (operand_reader r (suc depth)) (number n at ∷ rest) (Number at n.kind n.value) rest deep many
unfolding operand_reader
literal-step r depth n at = looks (passes gives)

pub variable-step : (r depth : ℕ) {rest : List Lexeme} {deep many : Type 0} (x : List ℕ) (at : Site) → Ends (front rest).kind → Answers (operand_reader r (suc depth)) (name x at ∷ rest) (Name at x) rest deep many
unfolding operand_reader
variable-step r depth {rest = rest} x at ends = looks (passes (looks (if-false (is_left_bracket (front rest).kind) _ _ ends.1 (if-false (is_left_parenthesis (front rest).kind) _ _ ends.0 gives))))

-- where no bracket may be opened
pub no-index : (depth : ℕ) {ts rest : List Lexeme} {e : Expression} {deep many : Type 0} (x : List ℕ) (at opening : Site) → (deep → ⊥) → Answers (operand_reader zero (suc depth)) (name x at ∷ mark LeftBracket opening ∷ ts) e rest deep many
unfolding operand_reader inside
no-index depth x at opening n = looks (passes (looks (refuses-deep n)))

pub no-call : (depth : ℕ) {ts rest : List Lexeme} {e : Expression} {deep many : Type 0} (x : List ℕ) (at opening : Site) → (deep → ⊥) → Answers (operand_reader zero (suc depth)) (name x at ∷ mark LeftParenthesis opening ∷ ts) e rest deep many
unfolding operand_reader inside
no-call depth x at opening n = looks (passes (looks (refuses-deep n)))

pub no-parenthesis : (depth : ℕ) {ts rest : List Lexeme} {e : Expression} {deep many : Type 0} (at : Site) → (deep → ⊥) → Answers (operand_reader zero (suc depth)) (mark LeftParenthesis at ∷ ts) e rest deep many
unfolding operand_reader inside
no-parenthesis depth at n = looks (refuses-deep n)

pub index-step : (r depth : ℕ) {ts rest : List Lexeme} {e : Expression} {deep many : Type 0} (x : List ℕ) (at opening : Site) → Answers (Then (expression_reader r depth) (λ i. Then (expects is_right_bracket) (λ closing. Gives (Element at x i)))) ts e rest deep many →
    Answers (operand_reader (suc r) (suc depth)) (name x at ∷ mark LeftBracket opening ∷ ts) e rest deep many
unfolding operand_reader expression_reader inside
index-step r depth x at opening h = looks (passes (looks (passes h)))

pub call-step : (r depth : ℕ) {ts rest : List Lexeme} {e : Expression} {deep many : Type 0} (x : List ℕ) (at opening : Site) → Answers (Then (arguments (expression_reader r depth)) (λ es. Gives (Call at x es))) ts e rest deep many →
    Answers (operand_reader (suc r) (suc depth)) (name x at ∷ mark LeftParenthesis opening ∷ ts) e rest deep many
unfolding operand_reader expression_reader inside
call-step r depth x at opening h = looks (passes (looks (passes h)))

pub parentheses-step : (r depth : ℕ) {ts rest : List Lexeme} {e : Expression} {deep many : Type 0} (at : Site) → kind_at (front ts).kind ≡ None → Answers (Then (expression_reader r (suc depth)) (λ e. Then (expects is_right_parenthesis) (λ closing. Gives e))) ts e rest deep many →
    Answers (operand_reader (suc r) (suc depth)) (mark LeftParenthesis at ∷ ts) e rest deep many
unfolding operand_reader expression_reader inside
parentheses-step r depth {ts = ts} {rest = rest} {e = e} {deep = deep} {many = many} at none h =
    looks (passes (looks (subst (λ o. Answers (parenthesized (operand_reader (suc r) depth) (expression_reader r (suc depth)) at o) ts e rest deep many) (sym none) h)))

pub cast-step : (r depth : ℕ) {ts rest : List Lexeme} {e : Expression} {deep many : Type 0} (w : Reserved) (kind : Kind) (at in_it end : Site) → kind_of w ≡ Some kind → Answers (Then (operand_reader (suc r) depth) (λ e. Gives (Cast at kind e))) ts e rest deep many →
    Answers (operand_reader (suc r) (suc depth)) (mark LeftParenthesis at ∷ word w in_it ∷ mark RightParenthesis end ∷ ts) e rest deep many
unfolding operand_reader expression_reader inside
cast-step r depth {ts = ts} {rest = rest} {e = e} {deep = deep} {many = many} w kind at in_it end found h =
    looks (passes (looks (subst (λ o. Answers (parenthesized (operand_reader (suc r) depth) (expression_reader r (suc depth)) at o) (word w in_it ∷ mark RightParenthesis end ∷ ts) e rest deep many) (sym found) (passes (sure refl h)))))
