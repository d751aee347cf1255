-- What is read of an expression is in the grammar.
use Rattle.std.proofs.Common.{◌≡◌, ℕ, zero, suc, nat_eq, Bool, true, false, cond, Option, Some, None, List, ◌∷◌, refl, ap, sym, ◌∙◌, subst}
use Rattle.std.proofs.lemmas.Bool.Decides.{Decides-eqb}
use Rattle.semantics.specs.Word.{Kind}
use Rattle.semantics.specs.Core.{Site}
use Rattle.texts.specs.Signs.{Sign, LeftParenthesis, RightParenthesis, LeftBracket, RightBracket, Comma}
use Rattle.texts.specs.Reserved.{Reserved}
use Rattle.texts.specs.Tokens as token
use Rattle.texts.specs.Tokens.{TokenKind}
use Rattle.texts.specs.Lexemes.{Lexeme, mark, word, name, infix_of, prefix_of, kind_of}
use Rattle.texts.specs.ParseFaults.{Expected, TooDeep, TooMany}
use Rattle.texts.specs.Surface.{Expression, Expressions, InfixSign, PrefixSign, Number, Name, Element, Call, Prefix, Cast, Infix, Conditional, nothing, also}
use Rattle.texts.specs.Grammar.{IsExpression, plain, conditional, IsRank, operand, tighter, infixed, IsOperand, prefixed, cast, literal, variable, element, call, parentheses, IsArguments, empty, arguments as some_arguments, IsMore, last, more}
use Rattle.parser.specs.Reader.{Reader, Gives, Fails, Looks, Passes, Then, Took, carry, front, behind, run}
use Rattle.parser.specs.Expressions.{is_comma, is_question, is_colon, is_left_parenthesis, is_right_parenthesis, is_left_bracket, is_right_bracket, expects, of_rank, infix_at, goes_on, longer, chain, ranked, arms, whole, argument, more_arguments, arguments, Room, Full, Within, opened, kind_at, parenthesized, after_name, signed, operand_at, tower, inside, expression_reader}
use Rattle.parser.proofs.Options.{none-some, same-some}
use Rattle.parser.proofs.Inversion.{not-taken, same-value, same-rest, Through, through, went, on-test, front-is, Passed, over, expected}
use Rattle.parser.proofs.Marks.{left_parenthesis, right_parenthesis, left_bracket, right_bracket, comma, question, colon}

abbrev pub Sound : (List Lexeme → Expression → List Lexeme → Type 0) → Reader Expression → Type 0
Sound holds reader = (ts rest : List Lexeme) (e : Expression) → run reader ts ≡ Took e rest → holds ts e rest

-- a sign of a rank, taken back
data Signed (kind : TokenKind) (rank : ℕ) (sign : InfixSign) : Type 0 where
  is : (s : Sign) → kind ≡ token.Mark s → infix_of s ≡ Some (rank, sign) → Signed kind rank sign

ranked-entry : (s : Sign) (rank : ℕ) (sign : InfixSign) (o : Option (ℕ × InfixSign)) → infix_of s ≡ o → of_rank rank o ≡ Some sign → Signed (token.Mark s) rank sign
ranked-entry s rank sign None e h = absurd (none-some sign h)
ranked-entry s rank sign (Some entry) e h = at-rank (nat_eq entry.0 rank) refl h
  where
    at-rank : (b : Bool) → nat_eq entry.0 rank ≡ b → cond b (Some entry.1) None ≡ Some sign → Signed (token.Mark s) rank sign
    at-rank false n k = absurd (none-some sign k)
    at-rank true n k = is s refl (e ∙ ap (λ x. Some (x, entry.1)) ((Decides-eqb entry.0 rank).0 n) ∙ ap (λ x. Some (rank, x)) (same-some _ entry.1 sign refl k))

sign-back : (kind : TokenKind) (rank : ℕ) (sign : InfixSign) → infix_at rank kind ≡ Some sign → Signed kind rank sign
sign-back (token.Mark s) rank sign h = ranked-entry s rank sign (infix_of s) refl h
sign-back kind rank sign h = absurd (none-some sign h)

-- the same, where less is left and where the lexemes are written out
moved : (holds : List Lexeme → Expression → List Lexeme → Type 0) (ts rest left : List Lexeme) (e f : Expression) → holds ts e rest → Took e rest ≡ Took f left → holds ts f left
moved holds ts rest left e f h k = subst (λ x. holds ts x left) (same-value e f rest left k) (subst (λ r. holds ts e r) (same-rest e f rest left k) h)

-- one more operand behind a left one
joined : (room rank : ℕ) (reader : Reader Expression) → Sound (IsRank room rank) reader → (ts middle rest : List Lexeme) (e r : Expression) (sign : InfixSign) → IsRank room (suc rank) ts e middle → Signed (front middle).kind (suc rank) sign → run reader (behind middle) ≡ Took r rest → IsRank room (suc rank) ts (Infix (front middle).site sign e r) rest
joined room rank reader sound ts middle rest e r sign h (is s kind found) p =
    infixed s sign (front middle).site found (subst (IsRank room (suc rank) ts e) (front-is middle (token.Mark s) refl kind) h) (sound (behind middle) rest r p)

Chained : (room rank : ℕ) (reader : Reader Expression) (left : ℕ) → Type 0
Chained room rank reader left = (ts middle rest : List Lexeme) (e f : Expression) → IsRank room (suc rank) ts e middle → run (chain reader (suc rank) left e) middle ≡ Took f rest → IsRank room (suc rank) ts f rest

longer-sound : (room rank : ℕ) (reader : Reader Expression) → Sound (IsRank room rank) reader → (left : ℕ) → Chained room rank reader left → (ts middle rest : List Lexeme) (e f : Expression) (sign : InfixSign) → IsRank room (suc rank) ts e middle → Signed (front middle).kind (suc rank) sign → run (longer reader (suc rank) (suc left) e (front middle).site sign) middle ≡ Took f rest → IsRank room (suc rank) ts f rest
unfolding chain Chained
longer-sound room rank reader sound left again ts middle rest e f sign h signed k =
    on (went (run reader (behind middle)) (λ r rest. run (chain reader (suc rank) left (Infix (front middle).site sign e r)) rest) f rest k)
  where
    on : Through (run reader (behind middle)) (λ r rest. run (chain reader (suc rank) left (Infix (front middle).site sign e r)) rest) f rest → IsRank room (suc rank) ts f rest
    on (through r left' p q) = again ts left' rest (Infix (front middle).site sign e r) f (joined room rank reader sound ts middle left' e r sign h signed p) q

-- from a sign on, or none
by-sign : (room rank : ℕ) (reader : Reader Expression) (left : ℕ) (ts middle rest : List Lexeme) (e f : Expression) → IsRank room (suc rank) ts e middle → (o : Option InfixSign) → infix_at (suc rank) (front middle).kind ≡ o → run (goes_on (longer reader (suc rank) left e) e (front middle).site o) middle ≡ Took f rest → ((sign : InfixSign) → Signed (front middle).kind (suc rank) sign → run (longer reader (suc rank) left e (front middle).site sign) middle ≡ Took f rest → IsRank room (suc rank) ts f rest) → IsRank room (suc rank) ts f rest
by-sign room rank reader left ts middle rest e f h None n k go = moved (IsRank room (suc rank)) ts middle rest e f h k
by-sign room rank reader left ts middle rest e f h (Some sign) n k go = go sign (sign-back (front middle).kind (suc rank) sign n) k

chained : (room rank : ℕ) (reader : Reader Expression) → Sound (IsRank room rank) reader → (left : ℕ) → Chained room rank reader left
unfolding chain Chained
chained room rank reader sound zero ts middle rest e f h k =
    by-sign room rank reader zero ts middle rest e f h (infix_at (suc rank) (front middle).kind) refl k (λ sign signed k. absurd (not-taken TooDeep middle rest f k))
chained room rank reader sound (suc left) ts middle rest e f h k =
    by-sign room rank reader (suc left) ts middle rest e f h (infix_at (suc rank) (front middle).kind) refl k
    (λ sign signed k. longer-sound room rank reader sound left (chained room rank reader sound left) ts middle rest e f sign h signed k)

pub ranked-sound : (room depth rank : ℕ) (reader : Reader Expression) → Sound (IsOperand room) reader → Sound (IsRank room rank) (ranked reader depth rank)
unfolding ranked Chained
ranked-sound room depth zero reader sound ts rest e k = operand (sound ts rest e k)
ranked-sound room depth (suc rank) reader sound ts rest e k =
    both (ranked-sound room depth rank reader sound) (went (run (ranked reader depth rank) ts) (λ e rest. run (chain (ranked reader depth rank) (suc rank) depth e) rest) e rest k)
  where
    both : Sound (IsRank room rank) (ranked reader depth rank) → Through (run (ranked reader depth rank) ts) (λ e rest. run (chain (ranked reader depth rank) (suc rank) depth e) rest) e rest → IsRank room (suc rank) ts e rest
    both inner (through a middle p q) = chained room rank (ranked reader depth rank) inner depth ts middle rest a e (tighter (inner ts middle a p)) q

-- `?:`
conditional-read : (room : ℕ) (ts middle left final : List Lexeme) (t a b : Expression) → IsRank room 10 ts t middle → is_question (front middle).kind ≡ true → IsExpression room (behind middle) a left → is_colon (front left).kind ≡ true → IsExpression room (behind left) b final → IsExpression room ts (Conditional (front middle).site t a b) final
conditional-read room ts middle left final t a b h q ha c hb =
    conditional (front middle).site (front left).site (subst (IsRank room 10 ts t) (question middle q) h) (subst (IsExpression room (behind middle) a) (colon left c) ha) hb

-- what follows its `?`
arms-sound : (room : ℕ) (deeper : Reader Expression) → Sound (IsExpression room) deeper → (ts middle rest : List Lexeme) (t e : Expression) → IsRank room 10 ts t middle → is_question (front middle).kind ≡ true → run (arms deeper (front middle).site t) (behind middle) ≡ Took e rest → IsExpression room ts e rest
arms-sound room deeper inner ts middle rest t e h q k =
    taken (went (run deeper (behind middle)) (λ a left. carry (run (expects is_colon) left) (λ colon left. carry (run deeper left) (λ b left. Took (Conditional (front middle).site t a b) left))) e rest k)
  where
    skipped : (a : Expression) (left behind_it : List Lexeme) → IsExpression room (behind middle) a left → Passed left is_colon behind_it → Through (run deeper behind_it) (λ b left. Took (Conditional (front middle).site t a b) left) e rest → IsExpression room ts e rest
    skipped a left behind_it ha (over due eq) (through b final p k) =
        moved (IsExpression room) ts final rest (Conditional (front middle).site t a b) e (conditional-read room ts middle left final t a b h q ha due (subst (λ l. IsExpression room l b final) (sym eq) (inner behind_it final b p))) k

    colon-of : (a : Expression) (left : List Lexeme) → IsExpression room (behind middle) a left → Through (run (expects is_colon) left) (λ colon left. carry (run deeper left) (λ b left. Took (Conditional (front middle).site t a b) left)) e rest → IsExpression room ts e rest
    colon-of a left ha (through at behind_it p k) =
        skipped a left behind_it ha (expected is_colon left behind_it at p) (went (run deeper behind_it) (λ b left. Took (Conditional (front middle).site t a b) left) e rest k)

    taken : Through (run deeper (behind middle)) (λ a left. carry (run (expects is_colon) left) (λ colon left. carry (run deeper left) (λ b left. Took (Conditional (front middle).site t a b) left))) e rest → IsExpression room ts e rest
    taken (through a left p k) = colon-of a left (inner (behind middle) left a p) (went (run (expects is_colon) left) (λ colon left. carry (run deeper left) (λ b left. Took (Conditional (front middle).site t a b) left)) e rest k)

pub whole-sound : (room depth : ℕ) (reader deeper : Reader Expression) → Sound (IsOperand room) reader → Sound (IsExpression room) deeper → Sound (IsExpression room) (whole reader deeper depth)
whole-sound room depth reader deeper sound inner ts rest e k =
    first (went (run (ranked reader depth 10) ts) (λ e rest. run (cond (is_question (front rest).kind) (Passes (arms deeper (front rest).site e)) (Gives e)) rest) e rest k)
  where
    first : Through (run (ranked reader depth 10) ts) (λ e rest. run (cond (is_question (front rest).kind) (Passes (arms deeper (front rest).site e)) (Gives e)) rest) e rest → IsExpression room ts e rest
    first (through t middle p k) =
        on-test (is_question (front middle).kind) (Passes (arms deeper (front middle).site t)) (Gives t) middle rest e k
        (λ q k. arms-sound room deeper inner ts middle rest t e (ranked-sound room depth 10 reader sound ts middle t p) q k)
        (λ q k. moved (IsExpression room) ts middle rest t e (plain (ranked-sound room depth 10 reader sound ts middle t p)) k)

-- how what is within one more bracket is read
pub RoomSound : ℕ → Room → Type 0
RoomSound room Full = Unit {0}
RoomSound zero (Within reader) = ⊥
RoomSound (suc room) (Within reader) = (depth : ℕ) → Sound (IsExpression room) (reader depth)

-- up to the bracket that is due, then a lexeme over it
closed : {P : Type 0} (reader : Reader Expression) (is_due : TokenKind → Bool) (ts rest : List Lexeme) (made : Expression → Expression) (e : Expression) → run (Then reader (λ i. Then (expects is_due) (λ closing. Gives (made i)))) ts ≡ Took e rest → ((i : Expression) (left : List Lexeme) → run reader ts ≡ Took i left → is_due (front left).kind ≡ true → behind left ≡ rest → made i ≡ e → P) → P
closed {P} reader is_due ts rest made e k go = inner (went (run reader ts) (λ i left. carry (run (expects is_due) left) (λ closing left. Took (made i) left)) e rest k)
  where
    last-one : (i : Expression) (left final : List Lexeme) → run reader ts ≡ Took i left → Passed left is_due final → Took (made i) final ≡ Took e rest → P
    last-one i left final p (over due eq) k = go i left p due (eq ∙ same-rest (made i) e final rest k) (same-value (made i) e final rest k)

    closing-of : (i : Expression) (left : List Lexeme) → run reader ts ≡ Took i left → Through (run (expects is_due) left) (λ closing left. Took (made i) left) e rest → P
    closing-of i left p (through at final q k) = last-one i left final p (expected is_due left final at q) k

    inner : Through (run reader ts) (λ i left. carry (run (expects is_due) left) (λ closing left. Took (made i) left)) e rest → P
    inner (through i left p k) = closing-of i left p (went (run (expects is_due) left) (λ closing left. Took (made i) left) e rest k)

parentheses-sound : (room : ℕ) (reader : Reader Expression) → Sound (IsExpression room) reader → (ts rest : List Lexeme) (e : Expression) → is_left_parenthesis (front ts).kind ≡ true → run (Then reader (λ i. Then (expects is_right_parenthesis) (λ closing. Gives i))) (behind ts) ≡ Took e rest → IsOperand (suc room) ts e rest
parentheses-sound room reader sound ts rest e h k =
    closed reader is_right_parenthesis (behind ts) rest (λ i. i) e k (λ i left p due eq same.
    subst (λ x. IsOperand (suc room) x e rest) (sym (left_parenthesis ts h))
    (parentheses (front ts).site (front left).site (subst (λ x. IsExpression room (behind ts) x (mark RightParenthesis (front left).site ∷ rest)) same
    (subst (IsExpression room (behind ts) i) (right_parenthesis left due ∙ ap (λ l. mark RightParenthesis (front left).site ∷ l) eq) (sound (behind ts) left i p)))))

element-sound : (room : ℕ) (reader : Reader Expression) → Sound (IsExpression room) reader → (ts rest : List Lexeme) (x : List ℕ) (at : Site) (e : Expression) → is_left_bracket (front ts).kind ≡ true → run (Then reader (λ i. Then (expects is_right_bracket) (λ closing. Gives (Element at x i)))) (behind ts) ≡ Took e rest → IsOperand (suc room) (name x at ∷ ts) e rest
element-sound room reader sound ts rest x at e h k =
    closed reader is_right_bracket (behind ts) rest (λ i. Element at x i) e k (λ i left p due eq same.
    subst (λ l. IsOperand (suc room) (name x at ∷ l) e rest) (sym (left_bracket ts h))
    (subst (λ y. IsOperand (suc room) (name x at ∷ mark LeftBracket (front ts).site ∷ behind ts) y rest) same
    (element x at (front ts).site (front left).site
    (subst (IsExpression room (behind ts) i) (right_bracket left due ∙ ap (λ l. mark RightBracket (front left).site ∷ l) eq) (sound (behind ts) left i p)))))

-- more arguments, up to the parenthesis that closes them
MoreSound : ℕ → Reader Expressions → Type 0
MoreSound room reader = (ts rest : List Lexeme) (es : Expressions) → run reader ts ≡ Took es rest → IsMore room ts es rest

argument-sound : (room : ℕ) (reader : Reader Expression) → Sound (IsExpression room) reader → (others : Reader Expressions) → MoreSound room others → {P : Type 0} (ts rest : List Lexeme) (es : Expressions) → run (argument reader others) ts ≡ Took es rest → ((e : Expression) (left : List Lexeme) (fs : Expressions) → IsExpression room ts e left → IsMore room left fs rest → also e fs ≡ es → P) → P
unfolding MoreSound
argument-sound room reader sound others more-sound {P} ts rest es k go = first (went (run reader ts) (λ e left. carry (run others left) (λ fs left. Took (also e fs) left)) es rest k)
  where
    second : (e : Expression) (left : List Lexeme) → run reader ts ≡ Took e left → Through (run others left) (λ fs left. Took (also e fs) left) es rest → P
    second e left p (through fs final q k) =
        go e left fs (sound ts left e p) (subst (IsMore room left fs) (same-rest (also e fs) es final rest k) (more-sound left final fs q)) (same-value (also e fs) es final rest k)

    first : Through (run reader ts) (λ e left. carry (run others left) (λ fs left. Took (also e fs) left)) es rest → P
    first (through e left p k) = second e left p (went (run others left) (λ fs left. Took (also e fs) left) es rest k)

-- the parenthesis alone
ends : (room : ℕ) (ts rest : List Lexeme) (es : Expressions) → run (Then (expects is_right_parenthesis) (λ closing. Gives nothing)) ts ≡ Took es rest → IsMore room ts es rest
ends room ts rest es k = on (went (run (expects is_right_parenthesis) ts) (λ closing left. Took nothing left) es rest k)
  where
    by : (left : List Lexeme) → Passed ts is_right_parenthesis left → Took nothing left ≡ Took es rest → IsMore room ts es rest
    by left (over due eq) k =
        subst (λ l. IsMore room l es rest) (sym (right_parenthesis ts due ∙ ap (λ l. mark RightParenthesis (front ts).site ∷ l) (eq ∙ same-rest nothing es left rest k)))
        (subst (λ es. IsMore room (mark RightParenthesis (front ts).site ∷ rest) es rest) (same-value nothing es left rest k) (last (front ts).site))

    on : Through (run (expects is_right_parenthesis) ts) (λ closing left. Took nothing left) es rest → IsMore room ts es rest
    on (through at left p k) = by left (expected is_right_parenthesis ts left at p) k

more-arguments : (room : ℕ) (reader : Reader Expression) → Sound (IsExpression room) reader → (left : ℕ) → MoreSound room (more_arguments reader left)
unfolding more_arguments MoreSound
more-arguments room reader sound zero ts rest es k = absurd (not-taken TooMany ts rest es k)
more-arguments room reader sound (suc left) ts rest es k =
    on-test (is_comma (front ts).kind) (Passes (argument reader (more_arguments reader left))) (Then (expects is_right_parenthesis) (λ closing. Gives nothing)) ts rest es k
    (λ h k. argument-sound room reader sound (more_arguments reader left) (more-arguments room reader sound left) (behind ts) rest es k
    (λ e middle fs he hs same. subst (λ l. IsMore room l es rest) (sym (comma ts h)) (subst (λ es. IsMore room (mark Comma (front ts).site ∷ behind ts) es rest) same (more (front ts).site he hs))))
    (λ h k. ends room ts rest es k)

arguments-sound : (room : ℕ) (reader : Reader Expression) → Sound (IsExpression room) reader → (ts rest : List Lexeme) (es : Expressions) → run (arguments reader) ts ≡ Took es rest → IsArguments room ts es rest
unfolding arguments MoreSound
arguments-sound room reader sound ts rest es k =
    on-test (is_right_parenthesis (front ts).kind) (Passes (Gives nothing)) (argument reader (more_arguments reader 65536)) ts rest es k
    (λ h k. subst (λ l. IsArguments room l es rest) (sym (right_parenthesis ts h ∙ ap (λ l. mark RightParenthesis (front ts).site ∷ l) (same-rest nothing es (behind ts) rest k)))
    (subst (λ es. IsArguments room (mark RightParenthesis (front ts).site ∷ rest) es rest) (same-value nothing es (behind ts) rest k) (empty (front ts).site)))
    (λ h k. argument-sound room reader sound (more_arguments reader 65536) (more-arguments room reader sound 65536) ts rest es k
    (λ e middle fs he hs same. subst (λ es. IsArguments room ts es rest) same (some_arguments he hs)))

call-sound : (room : ℕ) (reader : Reader Expression) → Sound (IsExpression room) reader → (ts rest : List Lexeme) (x : List ℕ) (at : Site) (e : Expression) → is_left_parenthesis (front ts).kind ≡ true → run (Then (arguments reader) (λ es. Gives (Call at x es))) (behind ts) ≡ Took e rest → IsOperand (suc room) (name x at ∷ ts) e rest
call-sound room reader sound ts rest x at e h k = on (went (run (arguments reader) (behind ts)) (λ es left. Took (Call at x es) left) e rest k)
  where
    on : Through (run (arguments reader) (behind ts)) (λ es left. Took (Call at x es) left) e rest → IsOperand (suc room) (name x at ∷ ts) e rest
    on (through es left p k) =
        subst (λ l. IsOperand (suc room) (name x at ∷ l) e rest) (sym (left_parenthesis ts h))
        (moved (IsOperand (suc room)) (name x at ∷ mark LeftParenthesis (front ts).site ∷ behind ts) left rest (Call at x es) e (call x at (front ts).site (arguments-sound room reader sound (behind ts) left es p)) k)

-- a type's word, taken back
data Typed (kind : TokenKind) (of : Kind) : Type 0 where
  by_word : (w : Reserved) → kind ≡ token.Word w → kind_of w ≡ Some of → Typed kind of

type-back : (kind : TokenKind) (of : Kind) → kind_at kind ≡ Some of → Typed kind of
type-back (token.Word w) of h = by_word w refl h
type-back kind of h = absurd (none-some of h)

cast-sound : (room : ℕ) (deeper : Reader Expression) → Sound (IsOperand (suc room)) deeper → (ts rest : List Lexeme) (kind : Kind) (e : Expression) → is_left_parenthesis (front ts).kind ≡ true → Typed (front (behind ts)).kind kind → run (Then (expects is_right_parenthesis) (λ closing. Then deeper (λ e. Gives (Cast (front ts).site kind e)))) (behind (behind ts)) ≡ Took e rest → IsOperand (suc room) ts e rest
cast-sound room deeper sound ts rest kind e h (by_word w same found) k =
    on (went (run (expects is_right_parenthesis) (behind (behind ts))) (λ closing left. carry (run deeper left) (λ e left. Took (Cast (front ts).site kind e) left)) e rest k)
  where
    of-operand : (left : List Lexeme) → Passed (behind (behind ts)) is_right_parenthesis left → Through (run deeper left) (λ e left. Took (Cast (front ts).site kind e) left) e rest → IsOperand (suc room) ts e rest
    of-operand left (over due eq) (through f final q k) =
        let third : behind (behind ts) ≡ mark RightParenthesis (front (behind (behind ts))).site ∷ left = right_parenthesis (behind (behind ts)) due ∙ ap (λ l. mark RightParenthesis (front (behind (behind ts))).site ∷ l) eq in
        let all : ts ≡ mark LeftParenthesis (front ts).site ∷ word w (front (behind ts)).site ∷ mark RightParenthesis (front (behind (behind ts))).site ∷ left =
        left_parenthesis ts h ∙ ap (λ l. mark LeftParenthesis (front ts).site ∷ l) (front-is (behind ts) (token.Word w) refl same ∙ ap (λ l. word w (front (behind ts)).site ∷ l) third) in
        moved (IsOperand (suc room)) ts final rest (Cast (front ts).site kind f) e
        (subst (λ l. IsOperand (suc room) l (Cast (front ts).site kind f) final) (sym all) (cast w kind (front ts).site (front (behind ts)).site (front (behind (behind ts))).site found (sound left final f q))) k

    on : Through (run (expects is_right_parenthesis) (behind (behind ts))) (λ closing left. carry (run deeper left) (λ e left. Took (Cast (front ts).site kind e) left)) e rest → IsOperand (suc room) ts e rest
    on (through at left p k) = of-operand left (expected is_right_parenthesis (behind (behind ts)) left at p) (went (run deeper left) (λ e left. Took (Cast (front ts).site kind e) left) e rest k)

-- what begins with a parenthesis
opened-sound : (room : ℕ) (deeper inner : Reader Expression) → Sound (IsOperand (suc room)) deeper → Sound (IsExpression room) inner → (ts rest : List Lexeme) (e : Expression) → is_left_parenthesis (front ts).kind ≡ true → (o : Option Kind) → kind_at (front (behind ts)).kind ≡ o → run (parenthesized deeper inner (front ts).site o) (behind ts) ≡ Took e rest → IsOperand (suc room) ts e rest
opened-sound room deeper inner sound within-sound ts rest e h (Some kind) n k = cast-sound room deeper sound ts rest kind e h (type-back (front (behind ts)).kind kind n) k
opened-sound room deeper inner sound within-sound ts rest e h None n k = parentheses-sound room inner within-sound ts rest e h k

in-parentheses : (room depth : ℕ) (within : Room) → RoomSound room within → (deeper : Reader Expression) → Sound (IsOperand room) deeper → (ts rest : List Lexeme) (e : Expression) → is_left_parenthesis (front ts).kind ≡ true → run (opened within (λ inner. Looks (λ t. parenthesized deeper (inner (suc depth)) (front ts).site (kind_at t.kind)))) ts ≡ Took e rest → IsOperand room ts e rest
unfolding RoomSound
in-parentheses room depth Full r deeper sound ts rest e h k = absurd (not-taken TooDeep ts rest e k)
in-parentheses zero depth (Within inner) r deeper sound ts rest e h k = absurd r
in-parentheses (suc room) depth (Within inner) r deeper sound ts rest e h k = opened-sound room deeper (inner (suc depth)) sound (r (suc depth)) ts rest e h (kind_at (front (behind ts)).kind) refl k

in-brackets : (room depth : ℕ) (within : Room) → RoomSound room within → (ts rest : List Lexeme) (x : List ℕ) (at : Site) (e : Expression) → is_left_bracket (front ts).kind ≡ true → run (opened within (λ inner. Then (inner depth) (λ i. Then (expects is_right_bracket) (λ closing. Gives (Element at x i))))) ts ≡ Took e rest → IsOperand room (name x at ∷ ts) e rest
unfolding RoomSound
in-brackets room depth Full r ts rest x at e h k = absurd (not-taken TooDeep ts rest e k)
in-brackets zero depth (Within inner) r ts rest x at e h k = absurd r
in-brackets (suc room) depth (Within inner) r ts rest x at e h k = element-sound room (inner depth) (r depth) ts rest x at e h k

in-call : (room depth : ℕ) (within : Room) → RoomSound room within → (ts rest : List Lexeme) (x : List ℕ) (at : Site) (e : Expression) → is_left_parenthesis (front ts).kind ≡ true → run (opened within (λ inner. Then (arguments (inner depth)) (λ es. Gives (Call at x es)))) ts ≡ Took e rest → IsOperand room (name x at ∷ ts) e rest
unfolding RoomSound
in-call room depth Full r ts rest x at e h k = absurd (not-taken TooDeep ts rest e k)
in-call zero depth (Within inner) r ts rest x at e h k = absurd r
in-call (suc room) depth (Within inner) r ts rest x at e h k = call-sound room (inner depth) (r depth) ts rest x at e h k

name-sound : (room depth : ℕ) (within : Room) → RoomSound room within → (ts rest : List Lexeme) (x : List ℕ) (at : Site) (e : Expression) → run (after_name within depth x at (front ts).kind) ts ≡ Took e rest → IsOperand room (name x at ∷ ts) e rest
name-sound room depth within r ts rest x at e k =
    let called = opened within (λ inner. Then (arguments (inner depth)) (λ es. Gives (Call at x es))) in
    on-test (is_left_bracket (front ts).kind) (opened within (λ inner. Then (inner depth) (λ i. Then (expects is_right_bracket) (λ closing. Gives (Element at x i))))) (cond (is_left_parenthesis (front ts).kind) called (Gives (Name at x))) ts rest e k
    (λ h k. in-brackets room depth within r ts rest x at e h k)
    (λ n k. on-test (is_left_parenthesis (front ts).kind) called (Gives (Name at x)) ts rest e k
    (λ h k. in-call room depth within r ts rest x at e h k)
    (λ n k. moved (IsOperand room) (name x at ∷ ts) ts rest (Name at x) e (variable x at) k))

prefix-sound : (room : ℕ) (deeper : Reader Expression) → Sound (IsOperand room) deeper → (ts rest : List Lexeme) (s : Sign) (sign : PrefixSign) (at : Site) (e : Expression) → prefix_of s ≡ Some sign → run (Then deeper (λ e. Gives (Prefix at sign e))) ts ≡ Took e rest → IsOperand room (mark s at ∷ ts) e rest
prefix-sound room deeper sound ts rest s sign at e n k = on (went (run deeper ts) (λ e left. Took (Prefix at sign e) left) e rest k)
  where
    on : Through (run deeper ts) (λ e left. Took (Prefix at sign e) left) e rest → IsOperand room (mark s at ∷ ts) e rest
    on (through f final p k) = moved (IsOperand room) (mark s at ∷ ts) final rest (Prefix at sign f) e (prefixed s sign at n (sound ts final f p)) k

sign-sound : (room depth : ℕ) (within : Room) → RoomSound room within → (deeper : Reader Expression) → Sound (IsOperand room) deeper → (ts rest : List Lexeme) (s : Sign) (e : Expression) → (front ts).kind ≡ token.Mark s → (o : Option PrefixSign) → prefix_of s ≡ o → run (signed within deeper depth (front ts).site o (token.Mark s)) ts ≡ Took e rest → IsOperand room ts e rest
sign-sound room depth within r deeper sound ts rest s e q (Some sign) n k =
    subst (λ l. IsOperand room l e rest) (sym (front-is ts (token.Mark s) refl q)) (prefix-sound room deeper sound (behind ts) rest s sign (front ts).site e n k)
sign-sound room depth within r deeper sound ts rest s e q None n k =
    on-test (is_left_parenthesis (token.Mark s)) (opened within (λ inner. Looks (λ t. parenthesized deeper (inner (suc depth)) (front ts).site (kind_at t.kind)))) (Fails Expected) ts rest e k
    (λ h k. in-parentheses room depth within r deeper sound ts rest e (ap is_left_parenthesis q ∙ h) k)
    (λ h k. absurd (not-taken Expected ts rest e k))

kind-sound : (room depth : ℕ) (within : Room) → RoomSound room within → (deeper : Reader Expression) → Sound (IsOperand room) deeper → (ts rest : List Lexeme) (e : Expression) (kind : TokenKind) → (front ts).kind ≡ kind → run (operand_at within deeper depth (front ts).site kind) ts ≡ Took e rest → IsOperand room ts e rest
kind-sound room depth within r deeper sound ts rest e (token.Number n) q k =
    moved (IsOperand room) ts (behind ts) rest (Number (front ts).site n.kind n.value) e
    (subst (λ l. IsOperand room l (Number (front ts).site n.kind n.value) (behind ts)) (sym (front-is ts (token.Number n) refl q)) (literal n (front ts).site)) k
kind-sound room depth within r deeper sound ts rest e (token.Name x) q k =
    subst (λ l. IsOperand room l e rest) (sym (front-is ts (token.Name x) refl q)) (name-sound room depth within r (behind ts) rest x (front ts).site e k)
kind-sound room depth within r deeper sound ts rest e (token.Mark s) q k = sign-sound room depth within r deeper sound ts rest s e q (prefix_of s) refl k
kind-sound room depth within r deeper sound ts rest e (token.Word w) q k = absurd (not-taken Expected ts rest e k)
kind-sound room depth within r deeper sound ts rest e token.End q k = absurd (not-taken Expected ts rest e k)

tower-sound : (room : ℕ) (within : Room) → RoomSound room within → (depth : ℕ) → Sound (IsOperand room) (tower within depth).operand × Sound (IsExpression room) (tower within depth).expression
tower-sound room within r zero = ((λ ts rest e k. absurd (not-taken TooDeep ts rest e k)), (λ ts rest e k. absurd (not-taken TooDeep ts rest e k)))
tower-sound room within r (suc depth) =
    let below = tower-sound room within r depth in
    let operands : Sound (IsOperand room) (tower within (suc depth)).operand = λ ts rest e k. kind-sound room depth within r (tower within depth).operand below.0 ts rest e (front ts).kind refl k in
    (operands, whole-sound room (suc depth) (tower within (suc depth)).operand (tower within depth).expression operands below.1)

inside-sound : (room : ℕ) → RoomSound room (inside room)
unfolding inside RoomSound
inside-sound zero = tt
inside-sound (suc room) = λ depth. (tower-sound room (inside room) (inside-sound room) depth).1

-- what is read of an expression is one in the grammar
pub expression-sound : (room depth : ℕ) (ts rest : List Lexeme) (e : Expression) → run (expression_reader room depth) ts ≡ Took e rest → IsExpression room ts e rest
unfolding expression_reader
expression-sound room depth ts rest e k = (tower-sound room (inside room) (inside-sound room) depth).1 ts rest e k
