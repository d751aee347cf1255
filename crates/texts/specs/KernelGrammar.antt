-- The grammar of statements and kernels (C99 6.8, OpenCL 1.2 6.7, for this profile). Statements are numbered in the order of the source:
-- each relation has the `number` of its first statement and that of the `next` one after it.
use Rattle.std.specs.Prelude.{◌≡◌, ◌≢◌, ℕ, suc, ◌+◌, List, [], ◌∷◌, Bool, true, false, not, Some, None, codes}
use Rattle.semantics.specs.Word.{Kind}
use Rattle.semantics.specs.Core.{Site}
use Rattle.texts.specs.Numbers.{Literal}
use Rattle.texts.specs.Signs.{Sign, LeftParenthesis, RightParenthesis, LeftBrace, RightBrace, LeftBracket, RightBracket, Semicolon, Comma, Equal, Star}
use Rattle.texts.specs.Reserved as words
use Rattle.texts.specs.Reserved.{Reserved}
use Rattle.texts.specs.Tokens.{TokenKind, Word, End}
use Rattle.texts.specs.Lexemes.{Lexeme, mark, word, name, number, kind_of, assign_of, jump_of}
use Rattle.texts.specs.Surface.{AssignSign, Expression, Declaration, Assignment, First, FirstDeclares, FirstAssigns, JumpWord, Statement, Declare, DeclareArray, Assign, If, While, For, Barrier, Jump, Block, Statements, none, one, Parameter, Buffer, Value, Kernel}
use Rattle.texts.specs.Grammar.{IsExpression}

pub data IsAssignment : (room number : ℕ) → List Lexeme → Assignment → (rest : List Lexeme) → Type 0 where
  to_variable : {room n : ℕ} {ts rest : List Lexeme} {e : Expression} (x : List ℕ) (s : Sign) (sign : AssignSign) (at equal : Site) →
      assign_of s ≡ Some sign → IsExpression room ts e rest →
      IsAssignment room n (name x at ∷ mark s equal ∷ ts) (record { number = n; site = at; name = x; index = None; sign = sign; sign_site = equal; value = e }) rest
  to_element : {room n : ℕ} {ts ts1 rest : List Lexeme} {i e : Expression} (x : List ℕ) (s : Sign) (sign : AssignSign) (at opening closing equal : Site) →
      assign_of s ≡ Some sign → IsExpression room ts i (mark RightBracket closing ∷ mark s equal ∷ ts1) → IsExpression (suc room) ts1 e rest →
      IsAssignment (suc room) n (name x at ∷ mark LeftBracket opening ∷ ts) (record { number = n; site = at; name = x; index = Some i; sign = sign; sign_site = equal; value = e }) rest

pub data IsDeclaration : (room number : ℕ) → List Lexeme → Declaration → (rest : List Lexeme) → Type 0 where
  declared : {room n : ℕ} {ts rest : List Lexeme} {e : Expression} (w : Reserved) (kind : Kind) (x : List ℕ) (at there equal : Site) →
      kind_of w ≡ Some kind → IsExpression room ts e rest →
      IsDeclaration room n (word w at ∷ name x there ∷ mark Equal equal ∷ ts) (record { number = n; site = at; kind = kind; name_site = there; name = x; value = e }) rest

pub data IsFirst : (room number : ℕ) → List Lexeme → First → (rest : List Lexeme) → Type 0 where
  first_declares : {room n : ℕ} {ts rest : List Lexeme} {d : Declaration} → IsDeclaration room n ts d rest → IsFirst room n ts (FirstDeclares d) rest
  first_assigns : {room n : ℕ} {ts rest : List Lexeme} {a : Assignment} → IsAssignment room n ts a rest → IsFirst room n ts (FirstAssigns a) rest

abbrev pub is_else : TokenKind → Bool
is_else (Word words.Else) = true
is_else kind = false

-- no `else` stands at the front
abbrev pub no_else : List Lexeme → Bool
no_else [] = true
no_else (t ∷ ts) = not (is_else t.kind)

abbrev pub is_block : Statement → Bool
is_block (Block n site body) = true
is_block s = false

mutual
  -- `barrier` is read as the first word of a barrier alone; an `else` belongs to the nearest `if` (C99 6.8.4.1p3)
  pub data IsStatement : (room number : ℕ) → List Lexeme → Statement → (next : ℕ) (rest : List Lexeme) → Type 0 where
    assigns : {room n : ℕ} {ts rest : List Lexeme} {a : Assignment} (semicolon : Site) →
        a.name ≢ codes "barrier" → IsAssignment room n ts a (mark Semicolon semicolon ∷ rest) → IsStatement room n ts (Assign a) (n + 1) rest
    if_alone : {room n next : ℕ} {ts ts1 rest : List Lexeme} {e : Expression} {a : Statements} (at opening closing : Site) →
        IsExpression room ts e (mark RightParenthesis closing ∷ ts1) → IsBody (suc room) (n + 1) ts1 a next rest → no_else rest ≡ true →
        IsStatement (suc room) n (word words.If at ∷ mark LeftParenthesis opening ∷ ts) (If n at e a none) next rest
    if_else : {room n middle next : ℕ} {ts ts1 ts2 rest : List Lexeme} {e : Expression} {a b : Statements} (at opening closing other : Site) →
        IsExpression room ts e (mark RightParenthesis closing ∷ ts1) → IsBody (suc room) (n + 1) ts1 a middle (word words.Else other ∷ ts2) → IsBody (suc room) middle ts2 b next rest →
        IsStatement (suc room) n (word words.If at ∷ mark LeftParenthesis opening ∷ ts) (If n at e a b) next rest
    while : {room n next : ℕ} {ts ts1 rest : List Lexeme} {e : Expression} {body : Statements} (at opening closing : Site) →
        IsExpression room ts e (mark RightParenthesis closing ∷ ts1) → IsBody (suc room) (n + 1) ts1 body next rest →
        IsStatement (suc room) n (word words.While at ∷ mark LeftParenthesis opening ∷ ts) (While n at e body) next rest
    for : {room n next : ℕ} {ts ts1 ts2 ts3 rest : List Lexeme} {first : First} {e : Expression} {update : Assignment} {body : Statements} (at opening semicolon then closing : Site) →
        IsFirst room (n + 1) ts first (mark Semicolon semicolon ∷ ts1) → IsExpression room ts1 e (mark Semicolon then ∷ ts2) →
        IsAssignment room (n + 2) ts2 update (mark RightParenthesis closing ∷ ts3) → IsBody (suc room) (n + 3) ts3 body next rest →
        IsStatement (suc room) n (word words.For at ∷ mark LeftParenthesis opening ∷ ts) (For n at first e update body) next rest
    barrier : {room n : ℕ} {ts rest : List Lexeme} {flags : Expression} (at opening closing semicolon : Site) →
        IsExpression room ts flags (mark RightParenthesis closing ∷ mark Semicolon semicolon ∷ rest) →
        IsStatement (suc room) n (name (codes "barrier") at ∷ mark LeftParenthesis opening ∷ ts) (Barrier n at flags) (n + 1) rest
    jump : {room n : ℕ} {rest : List Lexeme} (w : Reserved) (jump : JumpWord) (at semicolon : Site) → jump_of w ≡ Some jump →
        IsStatement room n (word w at ∷ mark Semicolon semicolon ∷ rest) (Jump n at jump) (n + 1) rest
    block : {room n next : ℕ} {ts rest : List Lexeme} {body : Statements} (at : Site) →
        IsItems room (n + 1) ts body next rest → IsStatement (suc room) n (mark LeftBrace at ∷ ts) (Block n at body) next rest

  -- the part of an `if` or a loop: braces round it count as no statement
  pub data IsBody : (room number : ℕ) → List Lexeme → Statements → (next : ℕ) (rest : List Lexeme) → Type 0 where
    single : {room n next : ℕ} {ts rest : List Lexeme} {s : Statement} → is_block s ≡ false → IsStatement room n ts s next rest → IsBody room n ts (one s none) next rest
    braces : {room n next : ℕ} {ts rest : List Lexeme} {body : Statements} (at : Site) → IsItems room n ts body next rest → IsBody (suc room) n (mark LeftBrace at ∷ ts) body next rest

  -- up to and with the `}`
  pub data IsItems : (room number : ℕ) → List Lexeme → Statements → (next : ℕ) (rest : List Lexeme) → Type 0 where
    end : {room n : ℕ} {rest : List Lexeme} (closing : Site) → IsItems room n (mark RightBrace closing ∷ rest) none n rest
    item : {room n middle next : ℕ} {ts ts1 rest : List Lexeme} {s : Statement} {others : Statements} →
        IsItem room n ts s middle ts1 → IsItems room middle ts1 others next rest → IsItems room n ts (one s others) next rest

  pub data IsItem : (room number : ℕ) → List Lexeme → Statement → (next : ℕ) (rest : List Lexeme) → Type 0 where
    statement : {room n next : ℕ} {ts rest : List Lexeme} {s : Statement} → IsStatement room n ts s next rest → IsItem room n ts s next rest
    declares : {room n : ℕ} {ts rest : List Lexeme} {d : Declaration} (semicolon : Site) →
        IsDeclaration room n ts d (mark Semicolon semicolon ∷ rest) → IsItem room n ts (Declare d) (n + 1) rest
    array : {room n : ℕ} {rest : List Lexeme} (w : Reserved) (kind : Kind) (x : List ℕ) (length : Literal) (at type there opening count closing semicolon : Site) →
        kind_of w ≡ Some kind →
        IsItem (suc room) n (word words.Local at ∷ word w type ∷ name x there ∷ mark LeftBracket opening ∷ number length count ∷ mark RightBracket closing ∷ mark Semicolon semicolon ∷ rest)
        (DeclareArray n at kind there x length.value) (n + 1) rest

pub data IsParameter : List Lexeme → Parameter → (rest : List Lexeme) → Type 0 where
  buffer : {rest : List Lexeme} (w : Reserved) (kind : Kind) (x : List ℕ) (at type star there : Site) → kind_of w ≡ Some kind →
      IsParameter (word words.Global at ∷ word w type ∷ mark Star star ∷ name x there ∷ rest) (Buffer false kind there x) rest
  constant_buffer : {rest : List Lexeme} (w : Reserved) (kind : Kind) (x : List ℕ) (at fixed type star there : Site) → kind_of w ≡ Some kind →
      IsParameter (word words.Global at ∷ word words.Const fixed ∷ word w type ∷ mark Star star ∷ name x there ∷ rest) (Buffer true kind there x) rest
  value : {rest : List Lexeme} (w : Reserved) (kind : Kind) (x : List ℕ) (at there : Site) → kind_of w ≡ Some kind →
      IsParameter (word w at ∷ name x there ∷ rest) (Value kind there x) rest

-- up to and with the `)`: none, or one after another with commas between
pub data IsParameters : List Lexeme → List Parameter → (rest : List Lexeme) → Type 0 where
  no_parameter : {rest : List Lexeme} (closing : Site) → IsParameters (mark RightParenthesis closing ∷ rest) [] rest
  last_parameter : {ts rest : List Lexeme} {p : Parameter} (closing : Site) → IsParameter ts p (mark RightParenthesis closing ∷ rest) → IsParameters ts (p ∷ []) rest
  another_parameter : {ts ts1 rest : List Lexeme} {p q : Parameter} {ps : List Parameter} (comma : Site) →
      IsParameter ts p (mark Comma comma ∷ ts1) → IsParameters ts1 (q ∷ ps) rest → IsParameters ts (p ∷ q ∷ ps) rest

-- `__kernel __attribute__((reqd_work_group_size(X, Y, Z))) void NAME(PARAMETERS) { ITEMS }`, and then the end
pub data IsKernel : (room : ℕ) → List Lexeme → Kernel → Type 0 where
  kernel : {room next : ℕ} {ts ts1 : List Lexeme} {ps : List Parameter} {body : Statements} (x y z : Literal) (f : List ℕ)
      (at1 at2 at3 at4 at5 at6 at7 at8 at9 at10 at11 at12 at13 at14 at15 at16 at17 at18 at19 : Site) →
      IsParameters ts ps (mark LeftBrace at18 ∷ ts1) → IsItems (suc (suc room)) 1 ts1 body next (record { kind = End; site = at19 } ∷ []) →
      IsKernel (suc (suc (suc room)))
      (word words.Kernel at1 ∷ word words.Attribute at2 ∷ mark LeftParenthesis at3 ∷ mark LeftParenthesis at4 ∷ name (codes "reqd_work_group_size") at5
      ∷ mark LeftParenthesis at6 ∷ number x at7 ∷ mark Comma at8 ∷ number y at9 ∷ mark Comma at10 ∷ number z at11
      ∷ mark RightParenthesis at12 ∷ mark RightParenthesis at13 ∷ mark RightParenthesis at14 ∷ word words.Void at15 ∷ name f at16 ∷ mark LeftParenthesis at17 ∷ ts)
      (record { name = f; name_site = at16; sizes = record { x = x.value; y = y.value; z = z.value }; parameters = ps; body = body })
