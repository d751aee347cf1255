-- The grammar of expressions: which lexemes stand for which tree (C99 6.5, for this profile). Each relation speaks of lexemes of which a
-- tree stands at the front, and of the `rest` after it; `room` is how many brackets may be opened one inside another.
use Rattle.std.specs.Prelude.{◌≡◌, ℕ, suc, List, ◌∷◌, Some}
use Rattle.semantics.specs.Word.{Kind}
use Rattle.semantics.specs.Core.{Site}
use Rattle.texts.specs.Numbers.{Literal}
use Rattle.texts.specs.Signs.{Sign, LeftParenthesis, RightParenthesis, LeftBracket, RightBracket, Comma, Question, Colon}
use Rattle.texts.specs.Reserved.{Reserved}
use Rattle.texts.specs.Lexemes.{Lexeme, mark, word, name, number, infix_of, prefix_of, kind_of}
use Rattle.texts.specs.Surface.{PrefixSign, InfixSign, Expression, Number, Name, Element, Call, Prefix, Cast, Infix, Conditional, Expressions, nothing, also}

mutual
  -- `?:` groups to the right (C99 6.5.15)
  pub data IsExpression : (room : ℕ) → List Lexeme → Expression → (rest : List Lexeme) → Type 0 where
    plain : {room : ℕ} {ts rest : List Lexeme} {e : Expression} → IsRank room 10 ts e rest → IsExpression room ts e rest
    conditional : {room : ℕ} {ts ts1 ts2 rest : List Lexeme} {e a b : Expression} (at colon : Site) →
        IsRank room 10 ts e (mark Question at ∷ ts1) → IsExpression room ts1 a (mark Colon colon ∷ ts2) → IsExpression room ts2 b rest →
        IsExpression room ts (Conditional at e a b) rest

  -- signs of one rank group to the left; their operands bind tighter
  pub data IsRank : (room rank : ℕ) → List Lexeme → Expression → (rest : List Lexeme) → Type 0 where
    operand : {room : ℕ} {ts rest : List Lexeme} {e : Expression} → IsOperand room ts e rest → IsRank room 0 ts e rest
    tighter : {room rank : ℕ} {ts rest : List Lexeme} {e : Expression} → IsRank room rank ts e rest → IsRank room (suc rank) ts e rest
    infixed : {room rank : ℕ} {ts ts1 rest : List Lexeme} {l r : Expression} (s : Sign) (sign : InfixSign) (at : Site) →
        infix_of s ≡ Some (suc rank, sign) → IsRank room (suc rank) ts l (mark s at ∷ ts1) → IsRank room rank ts1 r rest →
        IsRank room (suc rank) ts (Infix at sign l r) rest

  pub data IsOperand : (room : ℕ) → List Lexeme → Expression → (rest : List Lexeme) → Type 0 where
    prefixed : {room : ℕ} {ts rest : List Lexeme} {e : Expression} (s : Sign) (sign : PrefixSign) (at : Site) →
        prefix_of s ≡ Some sign → IsOperand room ts e rest → IsOperand room (mark s at ∷ ts) (Prefix at sign e) rest
    cast : {room : ℕ} {ts rest : List Lexeme} {e : Expression} (w : Reserved) (kind : Kind) (at in_it end : Site) →
        kind_of w ≡ Some kind → IsOperand (suc room) ts e rest →
        IsOperand (suc room) (mark LeftParenthesis at ∷ word w in_it ∷ mark RightParenthesis end ∷ ts) (Cast at kind e) rest
    literal : {room : ℕ} {rest : List Lexeme} (n : Literal) (at : Site) → IsOperand room (number n at ∷ rest) (Number at n.kind n.value) rest
    variable : {room : ℕ} {rest : List Lexeme} (x : List ℕ) (at : Site) → IsOperand room (name x at ∷ rest) (Name at x) rest
    element : {room : ℕ} {ts rest : List Lexeme} {i : Expression} (x : List ℕ) (at opening closing : Site) →
        IsExpression room ts i (mark RightBracket closing ∷ rest) → IsOperand (suc room) (name x at ∷ mark LeftBracket opening ∷ ts) (Element at x i) rest
    call : {room : ℕ} {ts rest : List Lexeme} {es : Expressions} (x : List ℕ) (at opening : Site) →
        IsArguments room ts es rest → IsOperand (suc room) (name x at ∷ mark LeftParenthesis opening ∷ ts) (Call at x es) rest
    parentheses : {room : ℕ} {ts rest : List Lexeme} {e : Expression} (at closing : Site) →
        IsExpression room ts e (mark RightParenthesis closing ∷ rest) → IsOperand (suc room) (mark LeftParenthesis at ∷ ts) e rest

  -- up to and with the `)`
  pub data IsArguments : (room : ℕ) → List Lexeme → Expressions → (rest : List Lexeme) → Type 0 where
    empty : {room : ℕ} {rest : List Lexeme} (closing : Site) → IsArguments room (mark RightParenthesis closing ∷ rest) nothing rest
    arguments : {room : ℕ} {ts ts1 rest : List Lexeme} {e : Expression} {es : Expressions} →
        IsExpression room ts e ts1 → IsMore room ts1 es rest → IsArguments room ts (also e es) rest

  pub data IsMore : (room : ℕ) → List Lexeme → Expressions → (rest : List Lexeme) → Type 0 where
    last : {room : ℕ} {rest : List Lexeme} (closing : Site) → IsMore room (mark RightParenthesis closing ∷ rest) nothing rest
    more : {room : ℕ} {ts ts1 rest : List Lexeme} {e : Expression} {es : Expressions} (comma : Site) →
        IsExpression room ts e ts1 → IsMore room ts1 es rest → IsMore room (mark Comma comma ∷ ts) (also e es) rest
