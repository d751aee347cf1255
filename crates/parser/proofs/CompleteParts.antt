-- Each assignment, declaration and head of the grammar is read, or a limit is passed.
use Rattle.std.proofs.Common.{◌≡◌, ◌≤◌, ℕ, zero, suc, ◌+◌, false, nat_lt, nat_le, ◌&&◌, cond, Some, None, List, ◌∷◌, refl, ap, sym, subst, arith}
use Rattle.std.proofs.lemmas.Bool.{and_from, lt-ltb, le-leb}
use Rattle.semantics.specs.Word.{Kind}
use Rattle.semantics.specs.Core.{Site}
use Rattle.texts.specs.Numbers.{Literal}
use Rattle.texts.specs.Reserved.{Reserved}
use Rattle.texts.specs.Signs as signs
use Rattle.texts.specs.Signs.{Sign}
use Rattle.texts.specs.Tokens as token
use Rattle.texts.specs.Lexemes.{Lexeme, mark, word, name, number, kind_of, assign_of}
use Rattle.texts.specs.Ended.{IsShort}
use Rattle.texts.specs.Surface.{AssignSign, Expression, Declaration, Assignment, First, FirstDeclares, FirstAssigns}
use Rattle.texts.specs.Limits.{deep_expression, deep_index, deep_declaration, deep_assignment, deep_first}
use Rattle.texts.specs.Grammar.{IsExpression}
use Rattle.texts.specs.KernelGrammar as rules
use Rattle.texts.specs.KernelGrammar.{IsAssignment, IsDeclaration, IsFirst}
use Rattle.parser.specs.Reader.{Gives, Then, Took, front, run}
use Rattle.parser.specs.Expressions.{is_left_bracket, is_right_bracket, expects, kind_at, expression_reader}
use Rattle.parser.specs.Statements.{takes, taken, assign_at, bracket, index_reader, assigned_reader, assignment_reader, declaration_reader, first_by, first_reader, tested, parts_reader, head_reader, length_reader}
use Rattle.parser.proofs.Options.{none-some}
use Rattle.parser.proofs.Answers.{Answers, gives, refuses-deep, looks, passes, sure, both, if-so}
use Rattle.parser.proofs.Later.{later-length, expression-later, first-later}
use Rattle.parser.proofs.Beginnings.{Closes, inner, parts}
use Rattle.parser.proofs.CompleteExpressions.{Shallow, semicolon_closes, parenthesis_closes, bracket_closes, expression-complete}
use Rattle.parser.proofs.SoundStatements.{name-of}

no-bracket : (s : Sign) (sign : AssignSign) → assign_of s ≡ Some sign → is_left_bracket (token.Mark s) ≡ false
no-bracket signs.LeftBracket sign h = absurd (none-some sign h)
no-bracket s sign h = refl

index-none : (room depth : ℕ) (s : Sign) (sign : AssignSign) (equal : Site) (ts : List Lexeme) → assign_of s ≡ Some sign → run (index_reader room depth) (mark s equal ∷ ts) ≡ Took None (mark s equal ∷ ts)
unfolding index_reader
index-none room depth s sign equal ts found =
    ap (λ b. run (cond b (bracket room (λ room. Then (expression_reader room depth) (λ i. Then (expects is_right_bracket) (λ closing. Gives (Some i))))) (Gives None)) (mark s equal ∷ ts)) (no-bracket s sign found)

sign-taken : (s : Sign) (sign : AssignSign) (equal : Site) (ts : List Lexeme) → assign_of s ≡ Some sign → run (takes assign_at) (mark s equal ∷ ts) ≡ Took (sign, equal) ts
sign-taken s sign equal ts found = ap (λ o. run (taken o equal) (mark s equal ∷ ts)) found

pub type-taken : (w : Reserved) (kind : Kind) (at : Site) (ts : List Lexeme) → kind_of w ≡ Some kind → run (takes kind_at) (word w at ∷ ts) ≡ Took (kind, at) ts
type-taken w kind at ts found = ap (λ o. run (taken o at) (word w at ∷ ts)) found

index-complete : {had : ℕ} {ts rest : List Lexeme} {i : Expression} (opening closing : Site) → IsExpression had ts i (mark signs.RightBracket closing ∷ rest) → (room depth d : ℕ) → 33 ≤ depth + d → Answers (index_reader room depth) (mark signs.LeftBracket opening ∷ ts) (Some i) rest (Shallow (suc had) room (deep_expression d i)) (IsShort (mark signs.LeftBracket opening ∷ ts))
unfolding index_reader
index-complete opening closing h zero depth d le = looks (refuses-deep (λ f. omega (arith, f.0)))
index-complete opening closing h (suc room) depth d le = looks (passes (both (expression-complete h bracket_closes room depth d le) (λ f. (omega (arith, f.0), f.1)) (λ f. omega (arith, f)) (sure refl gives)))

pub assignment-complete : {had n : ℕ} {ts rest : List Lexeme} {a : Assignment} → IsAssignment had n ts a rest → Closes (front rest).kind → (room depth d : ℕ) → 33 ≤ depth + (d + 1) → Answers (assignment_reader room depth n) ts a rest (Shallow had room (deep_assignment d a)) (IsShort ts)
unfolding assignment_reader assigned_reader
assignment-complete (rules.to_variable {ts = ts} x s sign at equal found h) closes room depth d le =
    sure refl (sure (index-none room depth s sign equal ts found) (sure (sign-taken s sign equal ts found)
    (both (expression-complete h closes room depth (d + 1) le) (λ f. (f.0, (parts (deep_index (d + 1) None) _ (inner d at _ f.1)).1)) (λ f. omega (arith, f)) gives)))
assignment-complete (rules.to_element {ts1 = ts1} x s sign at opening closing equal found i h) closes room depth d le =
    sure refl (both (index-complete opening closing i room depth (d + 1) le) (λ f. (f.0, (parts _ _ (inner d at _ f.1)).0)) (λ f. omega (arith, f))
    (sure (sign-taken s sign equal ts1 found) (both (expression-complete h closes room depth (d + 1) le) (λ f. (f.0, (parts _ _ (inner d at _ f.1)).1)) (λ f. omega (arith, f, later-length (expression-later i))) gives)))

pub declaration-complete : {had n : ℕ} {ts rest : List Lexeme} {c : Declaration} → IsDeclaration had n ts c rest → Closes (front rest).kind → (room depth d : ℕ) → 33 ≤ depth + (d + 1) → Answers (declaration_reader room depth n) ts c rest (Shallow had room (deep_declaration d c)) (IsShort ts)
unfolding declaration_reader
declaration-complete (rules.declared {ts = ts} w kind x at there equal found h) closes room depth d le =
    sure (type-taken w kind at (name x there ∷ mark signs.Equal equal ∷ ts) found) (sure refl (sure refl (both (expression-complete h closes room depth (d + 1) le) (λ f. (f.0, inner d at _ f.1)) (λ f. omega (arith, f)) gives)))

pub typed-front : {had n : ℕ} {ts rest : List Lexeme} {c : Declaration} → IsDeclaration had n ts c rest → kind_at (front ts).kind ≡ Some c.kind
typed-front (rules.declared w kind x at there equal found h) = found

first-complete : {had n : ℕ} {ts rest : List Lexeme} {f : First} → IsFirst had n ts f rest → Closes (front rest).kind → (room depth d : ℕ) → 33 ≤ depth + (d + 1) → Answers (first_reader room depth n) ts f rest (Shallow had room (deep_first d f)) (IsShort ts)
unfolding first_reader
first-complete {had = had} {n = n} {ts = ts} {rest = rest} (rules.first_declares {d = c} h) closes room depth d le =
    looks (subst (λ o. Answers (first_by o room depth n) ts (FirstDeclares c) rest (Shallow had room (deep_declaration d c)) (IsShort ts)) (sym (typed-front h)) (both (declaration-complete h closes room depth d le) (λ f. f) (λ f. f) gives))
first-complete {had = had} {n = n} {ts = ts} {rest = rest} (rules.first_assigns {a = a} h) closes room depth d le =
    looks (subst (λ o. Answers (first_by o room depth n) ts (FirstAssigns a) rest (Shallow had room (deep_assignment d a)) (IsShort ts)) (sym (ap kind_at (name-of h))) (both (assignment-complete h closes room depth d le) (λ f. f) (λ f. f) gives))

pub tested-complete : {had : ℕ} {ts rest : List Lexeme} {e : Expression} (opening closing : Site) → IsExpression had ts e (mark signs.RightParenthesis closing ∷ rest) → (room depth d : ℕ) → 33 ≤ depth + d → Answers (tested room depth) (mark signs.LeftParenthesis opening ∷ ts) e rest (Shallow (suc had) room (deep_expression d e)) (IsShort (mark signs.LeftParenthesis opening ∷ ts))
unfolding tested
tested-complete opening closing h zero depth d le = looks (refuses-deep (λ f. omega (arith, f.0)))
tested-complete opening closing h (suc room) depth d le = looks (passes (both (expression-complete h parenthesis_closes room depth d le) (λ f. (omega (arith, f.0), f.1)) (λ f. omega (arith, f)) (sure refl gives)))

one-more : (n : ℕ) {had : ℕ} {ts rest : List Lexeme} {u : Assignment} → IsAssignment had (n + 2) ts u rest → IsAssignment had (n + 1 + 1) ts u rest
one-more n {had = had} {ts = ts} {rest = rest} {u = u} h = let e : n + 2 ≡ n + 1 + 1 = omega arith in subst (λ m. IsAssignment had m ts u rest) e h

-- the three parts of a head
abbrev pub ShallowHead : (had room d : ℕ) → First → Expression → Assignment → Type 0
ShallowHead had room d f e u = (had ≤ room) × (deep_first d f ≡ None) × (deep_expression d e ≡ None) × (deep_assignment d u ≡ None)

pub head-complete : (n : ℕ) {had : ℕ} {ts ts1 ts2 rest : List Lexeme} {f : First} {e : Expression} {u : Assignment} (opening semicolon then closing : Site) → IsFirst had (n + 1) ts f (mark signs.Semicolon semicolon ∷ ts1) → IsExpression had ts1 e (mark signs.Semicolon then ∷ ts2) → IsAssignment had (n + 2) ts2 u (mark signs.RightParenthesis closing ∷ rest) →
    (room depth d : ℕ) → 33 ≤ depth + d → Answers (head_reader room depth (n + 1)) (mark signs.LeftParenthesis opening ∷ ts) (record { first = f; test = e; update = u }) rest (ShallowHead (suc had) room d f e u) (IsShort (mark signs.LeftParenthesis opening ∷ ts))
unfolding head_reader parts_reader
head-complete n opening semicolon then closing f e u zero depth d le = looks (refuses-deep (λ fit. omega (arith, fit.0)))
head-complete n opening semicolon then closing f e u (suc room) depth d le =
    looks (passes (both (first-complete f semicolon_closes room depth d (omega (arith, le))) (λ fit. (omega (arith, fit.0), fit.1)) (λ fit. omega (arith, fit))
    (sure refl (both (expression-complete e semicolon_closes room depth d le) (λ fit. (omega (arith, fit.0), fit.2)) (λ fit. omega (arith, fit, later-length (first-later f)))
    (sure refl (both (assignment-complete (one-more n u) parenthesis_closes room depth d (omega (arith, le))) (λ fit. (omega (arith, fit.0), fit.3)) (λ fit. omega (arith, fit, later-length (first-later f), later-length (expression-later e))) (sure refl gives)))))))

-- an array's length
pub length-complete : (l : Literal) (at : Site) {rest : List Lexeme} {deep : Type 0} → Answers length_reader (number l at ∷ rest) l.value rest deep ((1 ≤ l.value) × (l.value ≤ 16384))
length-complete l at {rest = rest} = looks (if-so (nat_lt 0 l.value && nat_le l.value 16384) (λ f. and_from (nat_lt 0 l.value) (nat_le l.value 16384) (lt-ltb 0 l.value (omega (arith, f.0))) (le-leb l.value 16384 f.1)) (passes gives))
