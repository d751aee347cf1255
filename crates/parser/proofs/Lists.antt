-- Rows of trees, one after another.
use Rattle.std.proofs.Common.{◌≡◌, ℕ, suc, ◌+◌, ◌-◌, ◌<◌, ◌≤◌, List, [], ◌∷◌, ◌++◌, true, false, cond, refl, ap, sym, ◌∙◌, arith}
use Rattle.texts.specs.Lexemes.{Lexeme}
use Rattle.texts.specs.ParseFaults.{Expected, TooMany}
use Rattle.texts.specs.Surface.{Expression, Expressions, nothing, also, Statement, Statements, none, one}
use Rattle.syntax.specs.View.{expression, expressions, statement, statements}
use Rattle.syntax.specs.declared.tree.Stmt.{Stmt}
use Rattle.parser.specs.Statements.{is_right_brace, items}
use Rattle.syntax.specs.declared.tree.Expr.{Expr}
use Rattle.parser.specs.Expressions.{is_comma, is_right_parenthesis, expects, argument, arguments, more_arguments}
use Rattle.parser.specs.Reader.{Reader, Attempt, Took, Refused, Gives, Fails, Passes, Then, carry, front, behind, run}

-- rows in front of others
abbrev pub append : Expressions → Expressions → Expressions
append nothing others = others
append (also e es) others = also e (append es others)

abbrev pub in_front : Expressions → Attempt Expressions → Attempt Expressions
in_front front outcome = carry outcome (λ es rest. Took (append front es) rest)

pub append-nothing : (es : Expressions) → append es nothing ≡ es
append-nothing nothing = refl
append-nothing (also e es) = ap (also e) (append-nothing es)

pub seen-snoc : (list : List Expr) (e : Expr) (others : Expressions) → append (expressions (list ++ e ∷ [])) others ≡ append (expressions list) (also (expression e) others)
seen-snoc [] e others = refl
seen-snoc (x ∷ list) e others = ap (also (expression x)) (seen-snoc list e others)

abbrev pub with_first : Expression → Attempt Expressions → Attempt Expressions
with_first e outcome = carry outcome (λ es rest. Took (also e es) rest)

pub begin : (reader : Reader Expression) (ts rest : List Lexeme) (e : Expr) → is_right_parenthesis (front ts).kind ≡ false → run reader ts ≡ Took (expression e) rest → run (arguments reader) ts ≡ in_front (expressions (e ∷ [])) (run (more_arguments reader 65536) rest)
unfolding arguments
begin reader ts rest e h first =
    ap (λ b. run (cond b (Passes (Gives nothing)) (argument reader (more_arguments reader 65536))) ts) h
    ∙ ap (λ o. carry o (λ e rest. with_first e (run (more_arguments reader 65536) rest))) first

abbrev closing-one : List Lexeme → Reader Expressions
closing-one ts = Then (expects is_right_parenthesis) (λ closing. Gives nothing)

none-left : (reader : Reader Expression) (ts : List Lexeme) → run (more_arguments reader 0) ts ≡ Refused TooMany ts
unfolding more_arguments
none-left reader ts = refl

one-left : (reader : Reader Expression) (n : ℕ) (ts rest : List Lexeme) (e : Expression) → is_comma (front ts).kind ≡ true → run reader (behind ts) ≡ Took e rest → run (more_arguments reader (suc n)) ts ≡ with_first e (run (more_arguments reader n) rest)
unfolding more_arguments
one-left reader n ts rest e h next =
    ap (λ b. run (cond b (Passes (argument reader (more_arguments reader n))) (closing-one ts)) ts) h
    ∙ ap (λ o. carry o (λ e rest. with_first e (run (more_arguments reader n) rest))) next

shifted : (list : List Expr) (e : Expr) (outcome : Attempt Expressions) → in_front (expressions list) (with_first (expression e) outcome) ≡ in_front (expressions (list ++ e ∷ [])) outcome
shifted list e (Took es rest) = ap (λ es. Took es rest) (sym (seen-snoc list e es))
shifted list e (Refused fault rest) = refl

pub next-one : (reader : Reader Expression) (list : List Expr) (count : ℕ) (ts rest : List Lexeme) (e : Expr) → count < 65536 → is_comma (front ts).kind ≡ true → run reader (behind ts) ≡ Took (expression e) rest → in_front (expressions list) (run (more_arguments reader (65536 - count)) ts) ≡ in_front (expressions (list ++ e ∷ [])) (run (more_arguments reader (65536 - (count + 1))) rest)
next-one reader list count ts rest e lt h next =
    let n : 65536 - count ≡ suc (65536 - (count + 1)) = omega (arith, lt) in
    ap (λ n. in_front (expressions list) (run (more_arguments reader n) ts)) n
    ∙ ap (in_front (expressions list)) (one-left reader (65536 - (count + 1)) ts rest (expression e) h next)
    ∙ shifted list e (run (more_arguments reader (65536 - (count + 1))) rest)

last-one : (reader : Reader Expression) (n : ℕ) (ts : List Lexeme) → is_comma (front ts).kind ≡ false → run (more_arguments reader (suc n)) ts ≡ carry (run (cond (is_right_parenthesis (front ts).kind) (Passes (Gives (front ts).site)) (Fails Expected)) ts) (λ closing rest. Took nothing rest)
unfolding more_arguments
last-one reader n ts h = ap (λ b. run (cond b (Passes (argument reader (more_arguments reader n))) (closing-one ts)) ts) h

pub closes : (reader : Reader Expression) (list : List Expr) (count : ℕ) (ts : List Lexeme) → count < 65536 → is_comma (front ts).kind ≡ false → in_front (expressions list) (run (more_arguments reader (65536 - count)) ts) ≡ carry (run (cond (is_right_parenthesis (front ts).kind) (Passes (Gives (front ts).site)) (Fails Expected)) ts) (λ closing rest. Took (expressions list) rest)
closes reader list count ts lt h =
    let n : 65536 - count ≡ suc (65536 - (count + 1)) = omega (arith, lt) in
    ap (λ n. in_front (expressions list) (run (more_arguments reader n) ts)) n
    ∙ ap (in_front (expressions list)) (last-one reader (65536 - (count + 1)) ts h)
    ∙ carried list (run (cond (is_right_parenthesis (front ts).kind) (Passes (Gives (front ts).site)) (Fails Expected)) ts)
  where
    carried : {A : Type 0} (list : List Expr) (o : Attempt A) → in_front (expressions list) (carry o (λ closing rest. Took nothing rest)) ≡ carry o (λ closing rest. Took (expressions list) rest)
    carried list (Took a rest) = ap (λ es. Took es rest) (append-nothing (expressions list))
    carried list (Refused fault rest) = refl

pub too-many : (reader : Reader Expression) (list : List Expr) (count : ℕ) (ts : List Lexeme) → 65536 ≤ count → in_front (expressions list) (run (more_arguments reader (65536 - count)) ts) ≡ Refused TooMany ts
too-many reader list count ts h =
    let n : 65536 - count ≡ 0 = omega (arith, h) in
    ap (λ n. in_front (expressions list) (run (more_arguments reader n) ts)) n ∙ ap (in_front (expressions list)) (none-left reader ts)

pub none-given : (reader : Reader Expression) (ts : List Lexeme) → is_right_parenthesis (front ts).kind ≡ true → run (arguments reader) ts ≡ Took nothing (behind ts)
unfolding arguments
none-given reader ts h = ap (λ b. run (cond b (Passes (Gives nothing)) (argument reader (more_arguments reader 65536))) ts) h

pub some-given : (reader : Reader Expression) (ts : List Lexeme) → is_right_parenthesis (front ts).kind ≡ false → run (arguments reader) ts ≡ carry (run reader ts) (λ e rest. with_first e (run (more_arguments reader 65536) rest))
unfolding arguments
some-given reader ts h = ap (λ b. run (cond b (Passes (Gives nothing)) (argument reader (more_arguments reader 65536))) ts) h

pub another : (reader : Reader Expression) (list : List Expr) (count : ℕ) (ts : List Lexeme) → count < 65536 → is_comma (front ts).kind ≡ true → in_front (expressions list) (run (more_arguments reader (65536 - count)) ts) ≡ carry (run reader (behind ts)) (λ e rest. in_front (expressions list) (with_first e (run (more_arguments reader (65536 - (count + 1))) rest)))
unfolding more_arguments
another reader list count ts lt h =
    let n : 65536 - count ≡ suc (65536 - (count + 1)) = omega (arith, lt) in
    let m : ℕ = 65536 - (count + 1) in
    ap (λ n. in_front (expressions list) (run (more_arguments reader n) ts)) n
    ∙ ap (λ b. in_front (expressions list) (run (cond b (Passes (argument reader (more_arguments reader m))) (closing-one ts)) ts)) h
    ∙ within list (run reader (behind ts)) (λ e rest. with_first e (run (more_arguments reader m) rest))
  where
    within : {A : Type 0} (list : List Expr) (o : Attempt A) (next : A → List Lexeme → Attempt Expressions) → in_front (expressions list) (carry o next) ≡ carry o (λ a rest. in_front (expressions list) (next a rest))
    within list (Took a rest) next = refl
    within list (Refused fault rest) next = refl

pub ruleset lists = (none-given, some-given)

-- and rows of statements
abbrev pub append_statements : Statements → Statements → Statements
append_statements none others = others
append_statements (one s ss) others = one s (append_statements ss others)

abbrev pub before : Statements → Attempt (Statements × ℕ) → Attempt (Statements × ℕ)
before front outcome = carry outcome (λ ss rest. Took (append_statements front ss.0, ss.1) rest)

append-none : (ss : Statements) → append_statements ss none ≡ ss
append-none none = refl
append-none (one s ss) = ap (one s) (append-none ss)

statements-snoc : (list : List Stmt) (s : Stmt) (others : Statements) → append_statements (statements (list ++ s ∷ [])) others ≡ append_statements (statements list) (one (statement s) others)
statements-snoc [] s others = refl
statements-snoc (x ∷ list) s others = ap (one (statement x)) (statements-snoc list s others)

pub first-item : (item : ℕ → Reader (Statement × ℕ)) (n : ℕ) (ts : List Lexeme) → run (items item 513 n) ts ≡ before none (run (items item 513 n) ts)
first-item item n ts = alone (run (items item 513 n) ts)
  where
    alone : (o : Attempt (Statements × ℕ)) → o ≡ before none o
    alone (Took ss rest) = refl
    alone (Refused fault rest) = refl

pub no-item : (item : ℕ → Reader (Statement × ℕ)) (list : List Stmt) (count n : ℕ) (ts : List Lexeme) → 513 ≤ count → before (statements list) (run (items item (513 - count) n) ts) ≡ Refused TooMany ts
unfolding items
no-item item list count n ts h =
    let k : 513 - count ≡ 0 = omega (arith, h) in
    ap (λ k. before (statements list) (run (items item k n) ts)) k

pub last-item : (item : ℕ → Reader (Statement × ℕ)) (list : List Stmt) (count n : ℕ) (ts : List Lexeme) → count < 513 → is_right_brace (front ts).kind ≡ true → before (statements list) (run (items item (513 - count) n) ts) ≡ Took (statements list, n) (behind ts)
unfolding items
last-item item list count n ts lt h =
    let k : 513 - count ≡ suc (513 - (count + 1)) = omega (arith, lt) in
    ap (λ k. before (statements list) (run (items item k n) ts)) k
    ∙ ap (λ b. before (statements list) (run (cond b (Passes (Gives (none, n))) (Then (item n) (λ s. Then (items item (513 - (count + 1)) s.1) (λ ss. Gives (one s.0 ss.0, ss.1))))) ts)) h
    ∙ ap (λ ss. Took (ss, n) (behind ts)) (append-none (statements list))

pub more-items : (item : ℕ → Reader (Statement × ℕ)) (list : List Stmt) (count n : ℕ) (ts : List Lexeme) → count < 513 → is_right_brace (front ts).kind ≡ false → before (statements list) (run (items item (513 - count) n) ts) ≡ carry (run (item n) ts) (λ s rest. before (append_statements (statements list) (one s.0 none)) (run (items item (513 - (count + 1)) s.1) rest))
unfolding items
more-items item list count n ts lt h =
    let k : 513 - count ≡ suc (513 - (count + 1)) = omega (arith, lt) in
    ap (λ k. before (statements list) (run (items item k n) ts)) k
    ∙ ap (λ b. before (statements list) (run (cond b (Passes (Gives (none, n))) (Then (item n) (λ s. Then (items item (513 - (count + 1)) s.1) (λ ss. Gives (one s.0 ss.0, ss.1))))) ts)) h
    ∙ within (run (item n) ts)
  where
    joined : (front : Statements) (s : Statement) (ss : Statements) → append_statements front (one s ss) ≡ append_statements (append_statements front (one s none)) ss
    joined none s ss = refl
    joined (one x front) s ss = ap (one x) (joined front s ss)

    shift : (s : Statement) (o : Attempt (Statements × ℕ)) → before (statements list) (carry o (λ ss rest. Took (one s ss.0, ss.1) rest)) ≡ before (append_statements (statements list) (one s none)) o
    shift s (Took ss rest) = ap (λ x. Took (x, ss.1) rest) (joined (statements list) s ss.0)
    shift s (Refused fault rest) = refl

    within : (o : Attempt (Statement × ℕ)) → before (statements list) (carry o (λ s rest. carry (run (items item (513 - (count + 1)) s.1) rest) (λ ss rest. Took (one s.0 ss.0, ss.1) rest))) ≡ carry o (λ s rest. before (append_statements (statements list) (one s.0 none)) (run (items item (513 - (count + 1)) s.1) rest))
    within (Took s rest) = shift s.0 (run (items item (513 - (count + 1)) s.1) rest)
    within (Refused fault rest) = refl

pub snoc-items : (list : List Stmt) (s : Stmt) → append_statements (statements list) (one (statement s) none) ≡ statements (list ++ s ∷ [])
snoc-items list s = sym (statements-snoc list s none) ∙ append-none (statements (list ++ s ∷ []))
