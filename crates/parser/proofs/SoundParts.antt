-- What is read of assignments, declarations and heads is in the grammar.
use Rattle.std.proofs.Common.{◌≡◌, ◌≤◌, ℕ, suc, ◌+◌, true, ◌&&◌, nat_lt, nat_le, Option, Some, None, List, ◌∷◌, refl, ap, sym, ◌∙◌, subst, arith}
use Rattle.std.proofs.lemmas.Bool.{and_parts, ltb-true, leb-true}
use Rattle.semantics.specs.Word.{Kind}
use Rattle.semantics.specs.Core.{Site}
use Rattle.texts.specs.Numbers.{Literal}
use Rattle.texts.specs.Signs.{Sign, LeftParenthesis, RightParenthesis, LeftBracket, RightBracket, Semicolon, Equal}
use Rattle.texts.specs.Tokens as token
use Rattle.texts.specs.Tokens.{TokenKind}
use Rattle.texts.specs.Lexemes.{Lexeme, mark, word, name, number, assign_of}
use Rattle.texts.specs.ParseFaults.{Expected, TooMany}
use Rattle.texts.specs.Surface.{AssignSign, Expression, Declaration, Assignment, First, FirstDeclares, FirstAssigns}
use Rattle.texts.specs.Grammar.{IsExpression}
use Rattle.texts.specs.KernelGrammar.{IsAssignment, to_variable, to_element, IsDeclaration, declared, IsFirst, first_declares, first_assigns}
use Rattle.parser.specs.Reader.{Reader, Gives, Fails, Passes, Then, Took, front, behind, run}
use Rattle.parser.specs.Expressions.{is_left_parenthesis, is_right_parenthesis, is_left_bracket, is_right_bracket, expects, kind_at, expression_reader}
use Rattle.parser.specs.Statements.{bracket, number_at, assigned_reader, index_reader, assignment_reader, declaration_reader, first_by, first_reader, tested, Head, parts_reader, head_reader, length_by, length_reader}
use Rattle.parser.proofs.Options.{none-some, same-some}
use Rattle.parser.proofs.Inversion.{not-taken, on-test, front-is}
use Rattle.parser.proofs.Marks.{left_parenthesis, left_bracket}
use Rattle.parser.proofs.Taking.{Went, taking, settled, within, opened, a-name, TypeWord, type_word, a-type, AssignWord, assign_word, an-assignment}
use Rattle.parser.proofs.Due.{right_parenthesis_due, right_bracket_due, semicolon_due, equal_due}
use Rattle.parser.proofs.Sound.{expression-sound}

-- an expression in parentheses
pub data Tested : (room : ℕ) → List Lexeme → Expression → (rest : List Lexeme) → Type 0 where
  tests : {room : ℕ} {ts rest : List Lexeme} {e : Expression} (opening closing : Site) → IsExpression room ts e (mark RightParenthesis closing ∷ rest) → Tested (suc room) (mark LeftParenthesis opening ∷ ts) e rest

pub tested-sound : (room depth : ℕ) (ts rest : List Lexeme) (e : Expression) → run (tested room depth) ts ≡ Took e rest → Tested room ts e rest
unfolding tested
tested-sound room depth ts rest e k =
    opened (λ room. Tested room ts e rest) is_left_parenthesis room (λ room. Then (expression_reader room depth) (λ e. Then (expects is_right_parenthesis) (λ closing. Gives e))) ts rest e k
    (λ less due w. settled (Tested (suc less) ts) e w.0 w.3.1 rest w.3.3 (subst (λ l. Tested (suc less) l w.0 w.3.1) (sym (left_parenthesis ts due))
    (tests (front ts).site (front w.1).site (subst (IsExpression less (behind ts) w.0) (right_parenthesis_due w.1 w.3.1 w.3.0 w.3.2) (expression-sound less depth (behind ts) w.1 w.0 w.2)))))

-- an index in brackets, or none
pub data Indexed : (room : ℕ) → List Lexeme → Option Expression → (rest : List Lexeme) → Type 0 where
  no_index : {room : ℕ} {ts : List Lexeme} → Indexed room ts None ts
  in_brackets : {room : ℕ} {ts rest : List Lexeme} {i : Expression} (opening closing : Site) → IsExpression room ts i (mark RightBracket closing ∷ rest) → Indexed (suc room) (mark LeftBracket opening ∷ ts) (Some i) rest

index-sound : (room depth : ℕ) (ts rest : List Lexeme) (index : Option Expression) → run (index_reader room depth) ts ≡ Took index rest → Indexed room ts index rest
unfolding index_reader
index-sound room depth ts rest index k =
    let indexes : ℕ → Reader (Option Expression) = λ room. Then (expression_reader room depth) (λ i. Then (expects is_right_bracket) (λ closing. Gives (Some i))) in
    on-test (is_left_bracket (front ts).kind) (bracket room indexes) (Gives None) ts rest index k
    (λ due k. within (λ room. Indexed room ts index rest) room indexes ts rest index k
    (λ less k. let w = taking (indexes less) (behind ts) rest index k in settled (Indexed (suc less) ts) index (Some w.0) w.3.1 rest w.3.3 (subst (λ l. Indexed (suc less) l (Some w.0) w.3.1) (sym (left_bracket ts due))
    (in_brackets (front ts).site (front w.1).site (subst (IsExpression less (behind ts) w.0) (right_bracket_due w.1 w.3.1 w.3.0 w.3.2) (expression-sound less depth (behind ts) w.1 w.0 w.2))))))
    (λ other k. let w = taking (Gives None) ts rest index k in settled (Indexed room ts) index None ts rest w no_index)

to-either : {room n : ℕ} {us ts rest : List Lexeme} {index : Option Expression} {e : Expression} (x : List ℕ) (s : Sign) (sign : AssignSign) (at equal : Site) → assign_of s ≡ Some sign → Indexed room us index (mark s equal ∷ ts) → IsExpression room ts e rest →
    IsAssignment room n (name x at ∷ us) (record { number = n; site = at; name = x; index = index; sign = sign; sign_site = equal; value = e }) rest
to-either x s sign at equal found no_index h = to_variable x s sign at equal found h
to-either x s sign at equal found (in_brackets opening closing i) h = to_element x s sign at opening closing equal found i h

assigned : (room n : ℕ) (ts us middle left rest : List Lexeme) (x : List ℕ × Site) (index : Option Expression) (sign : AssignSign × Site) (e : Expression) → ts ≡ name x.0 x.1 ∷ us → Indexed room us index middle → AssignWord middle sign.0 sign.1 left → IsExpression room left e rest →
    IsAssignment room n ts (record { number = n; site = x.1; name = x.0; index = index; sign = sign.0; sign_site = sign.1; value = e }) rest
assigned room n ts us middle left rest x index sign e named i (assign_word s found eq) h =
    subst (λ l. IsAssignment room n l (record { number = n; site = x.1; name = x.0; index = index; sign = sign.0; sign_site = sign.1; value = e }) rest) (sym named)
    (to-either x.0 s sign.0 x.1 sign.1 found (subst (Indexed room us index) eq i) h)

pub assignment-sound : (room depth n : ℕ) (ts rest : List Lexeme) (a : Assignment) → run (assignment_reader room depth n) ts ≡ Took a rest → IsAssignment room n ts a rest
unfolding assignment_reader assigned_reader
assignment-sound room depth n ts rest a k =
    let w = taking (assignment_reader room depth n) ts rest a k in
    let i = w.3 in
    let s = i.3 in
    let e = s.3 in
    settled (IsAssignment room n ts) a (record { number = n; site = w.0.1; name = w.0.0; index = i.0; sign = s.0.0; sign_site = s.0.1; value = e.0 }) e.1 rest e.3
    (assigned room n ts w.1 i.1 s.1 e.1 w.0 i.0 s.0 e.0 (a-name ts w.1 w.0 w.2) (index-sound room depth w.1 i.1 i.0 i.2) (an-assignment i.1 s.1 s.0 s.2) (expression-sound room depth s.1 e.1 e.0 e.2))

declares : (room n : ℕ) (ts us middle left rest : List Lexeme) (kind : Kind × Site) (x : List ℕ × Site) (at : Site) (e : Expression) → TypeWord ts kind.0 kind.1 us → us ≡ name x.0 x.1 ∷ middle → middle ≡ mark Equal at ∷ left → IsExpression room left e rest →
    IsDeclaration room n ts (record { number = n; site = kind.1; kind = kind.0; name_site = x.1; name = x.0; value = e }) rest
declares room n ts us middle left rest kind x at e (type_word w found eq) named equal h =
    subst (λ l. IsDeclaration room n l (record { number = n; site = kind.1; kind = kind.0; name_site = x.1; name = x.0; value = e }) rest)
    (sym (eq ∙ ap (λ l. word w kind.1 ∷ l) (named ∙ ap (λ l. name x.0 x.1 ∷ l) equal))) (declared w kind.0 x.0 kind.1 x.1 at found h)

pub declaration-sound : (room depth n : ℕ) (ts rest : List Lexeme) (d : Declaration) → run (declaration_reader room depth n) ts ≡ Took d rest → IsDeclaration room n ts d rest
unfolding declaration_reader
declaration-sound room depth n ts rest d k =
    let w = taking (declaration_reader room depth n) ts rest d k in
    let x = w.3 in
    let q = x.3 in
    let e = q.3 in
    settled (IsDeclaration room n ts) d (record { number = n; site = w.0.1; kind = w.0.0; name_site = x.0.1; name = x.0.0; value = e.0 }) e.1 rest e.3
    (declares room n ts w.1 x.1 q.1 e.1 w.0 x.0 (front x.1).site e.0 (a-type ts w.1 w.0 w.2) (a-name w.1 x.1 x.0 x.2) (equal_due x.1 q.1 q.0 q.2) (expression-sound room depth q.1 e.1 e.0 e.2))

first-sound : (room depth n : ℕ) (ts rest : List Lexeme) (f : First) → run (first_reader room depth n) ts ≡ Took f rest → IsFirst room n ts f rest
unfolding first_reader
first-sound room depth n ts rest f k = by (kind_at (front ts).kind) k
  where
    by : (o : Option Kind) → run (first_by o room depth n) ts ≡ Took f rest → IsFirst room n ts f rest
    by None k = let w = taking (first_by None room depth n) ts rest f k in settled (IsFirst room n ts) f (FirstAssigns w.0) w.1 rest w.3 (first_assigns (assignment-sound room depth n ts w.1 w.0 w.2))
    by (Some kind) k = let w = taking (first_by (Some kind) room depth n) ts rest f k in settled (IsFirst room n ts) f (FirstDeclares w.0) w.1 rest w.3 (first_declares (declaration-sound room depth n ts w.1 w.0 w.2))

-- what a `for` has in parentheses
pub data Heads : (room n : ℕ) → List Lexeme → Head → (rest : List Lexeme) → Type 0 where
  heads : {room n : ℕ} {ts ts1 ts2 rest : List Lexeme} {h : Head} (opening semicolon then closing : Site) → IsFirst room n ts h.first (mark Semicolon semicolon ∷ ts1) → IsExpression room ts1 h.test (mark Semicolon then ∷ ts2) →
      IsAssignment room (n + 1) ts2 h.update (mark RightParenthesis closing ∷ rest) → Heads (suc room) n (mark LeftParenthesis opening ∷ ts) h rest

pub head-sound : (room depth n : ℕ) (ts rest : List Lexeme) (h : Head) → run (head_reader room depth n) ts ≡ Took h rest → Heads room n ts h rest
unfolding head_reader parts_reader
head-sound room depth n ts rest h k =
    opened (λ room. Heads room n ts h rest) is_left_parenthesis room (λ room. parts_reader room depth n) ts rest h k (λ less due w. inner less due w)
  where
    inner : (less : ℕ) → is_left_parenthesis (front ts).kind ≡ true → Went (parts_reader less depth n) (behind ts) h rest → Heads (suc less) n ts h rest
    inner less due w =
        let a = w.3 in
        let e = a.3 in
        let b = e.3 in
        let u = b.3 in
        let c = u.3 in
        settled (Heads (suc less) n ts) h (record { first = w.0; test = e.0; update = u.0 }) c.1 rest c.3
        (subst (λ l. Heads (suc less) n l (record { first = w.0; test = e.0; update = u.0 }) c.1) (sym (left_parenthesis ts due))
        (heads (front ts).site (front w.1).site (front e.1).site (front u.1).site
        (subst (IsFirst less n (behind ts) w.0) (semicolon_due w.1 a.1 a.0 a.2) (first-sound less depth n (behind ts) w.1 w.0 w.2))
        (subst (IsExpression less a.1 e.0) (semicolon_due e.1 b.1 b.0 b.2) (expression-sound less depth a.1 e.1 e.0 e.2))
        (subst (IsAssignment less (n + 1) b.1 u.0) (right_parenthesis_due u.1 c.1 c.0 c.2) (assignment-sound less depth (n + 1) b.1 u.1 u.0 u.2))))

-- a number, written out
pub data HasNumber (ts : List Lexeme) (n : ℕ) (rest : List Lexeme) : Type 0 where
  has_number : (l : Literal) → l.value ≡ n → ts ≡ number l (front ts).site ∷ rest → HasNumber ts n rest

pub number-back : (ts : List Lexeme) (kind : TokenKind) (n : ℕ) → (front ts).kind ≡ kind → number_at kind ≡ Some n → HasNumber ts n (behind ts)
number-back ts (token.Number l) n q h = has_number l (same-some _ _ n refl h) (front-is ts (token.Number l) refl q)
number-back ts kind n q h = absurd (none-some n h)

pub data ALength (ts : List Lexeme) (n : ℕ) (rest : List Lexeme) : Type 0 where
  a_length : HasNumber ts n rest → (1 ≤ n) × (n ≤ 16384) → ALength ts n rest

pub length-sound : (ts rest : List Lexeme) (n : ℕ) → run length_reader ts ≡ Took n rest → ALength ts n rest
length-sound ts rest n k = by (number_at (front ts).kind) refl k
  where
    by : (o : Option ℕ) → number_at (front ts).kind ≡ o → run (length_by o) ts ≡ Took n rest → ALength ts n rest
    by None q k = absurd (not-taken Expected ts rest n k)
    by (Some m) q k = on-test (nat_lt 0 m && nat_le m 16384) (Passes (Gives m)) (Fails TooMany) ts rest n k
        (λ h k. let w = taking (Passes (Gives m)) ts rest n k in
        let b = and_parts (nat_lt 0 m) (nat_le m 16384) h in
        settled (ALength ts) n m (behind ts) rest w (a_length (number-back ts (front ts).kind m refl q) (omega (arith, ltb-true 0 m b.0), leb-true m 16384 b.1)))
        (λ other k. absurd (not-taken TooMany ts rest n k))
