-- The words that stand for themselves (OpenCL 1.2, 6.1.9; C99 6.4.1): also those of which the names of types are made.
use Rattle.std.specs.Prelude.{ℕ, List, [], ◌∷◌, codes}

pub data Word : Type 0 where
  Kernel Global Local Constant Private ReadOnly WriteOnly ReadWrite Attribute : Word
  Const Restrict Volatile Static Inline Extern Register Auto Typedef Enum Struct Union : Word
  Void Unsigned Signed Char Short Int Long Float Double Half : Word
  If Else While Do For Switch Case Default Break Continue Return Goto Sizeof : Word

-- how each is written: the qualifiers of spaces and of access in two ways, and some words as compilers have them besides
unfoldable pub words : List (List ℕ × Word)
words =
    (codes "__kernel", Kernel) ∷ (codes "kernel", Kernel) ∷ (codes "__global", Global) ∷ (codes "global", Global)
    ∷ (codes "__local", Local) ∷ (codes "local", Local) ∷ (codes "__constant", Constant) ∷ (codes "constant", Constant)
    ∷ (codes "__private", Private) ∷ (codes "private", Private) ∷ (codes "__read_only", ReadOnly) ∷ (codes "read_only", ReadOnly)
    ∷ (codes "__write_only", WriteOnly) ∷ (codes "write_only", WriteOnly) ∷ (codes "__read_write", ReadWrite)
    ∷ (codes "read_write", ReadWrite) ∷ (codes "__attribute__", Attribute) ∷ (codes "const", Const) ∷ (codes "restrict", Restrict)
    ∷ (codes "__restrict", Restrict) ∷ (codes "volatile", Volatile) ∷ (codes "static", Static) ∷ (codes "inline", Inline)
    ∷ (codes "__inline", Inline) ∷ (codes "extern", Extern) ∷ (codes "register", Register) ∷ (codes "auto", Auto)
    ∷ (codes "typedef", Typedef) ∷ (codes "enum", Enum) ∷ (codes "struct", Struct) ∷ (codes "union", Union) ∷ (codes "void", Void)
    ∷ (codes "unsigned", Unsigned) ∷ (codes "signed", Signed) ∷ (codes "char", Char) ∷ (codes "short", Short) ∷ (codes "int", Int)
    ∷ (codes "long", Long) ∷ (codes "float", Float) ∷ (codes "double", Double) ∷ (codes "half", Half) ∷ (codes "if", If)
    ∷ (codes "else", Else) ∷ (codes "while", While) ∷ (codes "do", Do) ∷ (codes "for", For) ∷ (codes "switch", Switch)
    ∷ (codes "case", Case) ∷ (codes "default", Default) ∷ (codes "break", Break) ∷ (codes "continue", Continue) ∷ (codes "return", Return)
    ∷ (codes "goto", Goto) ∷ (codes "sizeof", Sizeof) ∷ (codes "__const", Const) ∷ (codes "__const__", Const)
    ∷ (codes "__restrict__", Restrict) ∷ (codes "__inline__", Inline) ∷ (codes "__volatile", Volatile) ∷ (codes "__volatile__", Volatile)
    ∷ (codes "__signed", Signed) ∷ (codes "__signed__", Signed) ∷ []
