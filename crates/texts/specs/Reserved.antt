-- The reserved words (OpenCL 1.2, 6.1.9, and C99 6.4.1, those of this profile), named by their own letters.
use Rattle.std.specs.Prelude.{ℕ, List, [], ◌∷◌, codes}

pub data Reserved : Type 0 where
  Kernel Global Local Constant Private Attribute Const Int Uint Unsigned Signed Void : Reserved
  If Else While For Do Switch Case Default Break Continue Return Goto : Reserved
  Struct Union Enum Typedef Sizeof Float Double Half Char Uchar Short Ushort Long Ulong Bool SizeT : Reserved
  Volatile Restrict Static Extern Inline Register Auto : Reserved

-- how each is written: the five qualifiers in two ways
unfoldable pub reserved_words : List (List ℕ × Reserved)
reserved_words =
    (codes "__kernel", Kernel) ∷ (codes "kernel", Kernel) ∷ (codes "__global", Global) ∷ (codes "global", Global)
    ∷ (codes "__local", Local) ∷ (codes "local", Local) ∷ (codes "__constant", Constant) ∷ (codes "constant", Constant)
    ∷ (codes "__private", Private) ∷ (codes "private", Private) ∷ (codes "__attribute__", Attribute)
    ∷ (codes "const", Const) ∷ (codes "int", Int) ∷ (codes "uint", Uint) ∷ (codes "unsigned", Unsigned)
    ∷ (codes "signed", Signed) ∷ (codes "void", Void) ∷ (codes "if", If) ∷ (codes "else", Else) ∷ (codes "while", While)
    ∷ (codes "for", For) ∷ (codes "do", Do) ∷ (codes "switch", Switch) ∷ (codes "case", Case) ∷ (codes "default", Default)
    ∷ (codes "break", Break) ∷ (codes "continue", Continue) ∷ (codes "return", Return) ∷ (codes "goto", Goto)
    ∷ (codes "struct", Struct) ∷ (codes "union", Union) ∷ (codes "enum", Enum) ∷ (codes "typedef", Typedef)
    ∷ (codes "sizeof", Sizeof) ∷ (codes "float", Float) ∷ (codes "double", Double) ∷ (codes "half", Half)
    ∷ (codes "char", Char) ∷ (codes "uchar", Uchar) ∷ (codes "short", Short) ∷ (codes "ushort", Ushort)
    ∷ (codes "long", Long) ∷ (codes "ulong", Ulong) ∷ (codes "bool", Bool) ∷ (codes "size_t", SizeT)
    ∷ (codes "volatile", Volatile) ∷ (codes "restrict", Restrict) ∷ (codes "static", Static) ∷ (codes "extern", Extern)
    ∷ (codes "inline", Inline) ∷ (codes "register", Register) ∷ (codes "auto", Auto) ∷ []
