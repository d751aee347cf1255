-- The kinds that words name.
use Rattle.std.proofs.Common.{◌≡◌, true, Some, refl}
use Rattle.semantics.specs.Word.{Kind, Int, Uint, Size}
use Rattle.texts.specs.Reserved as words
use Rattle.texts.specs.Reserved.{Reserved}
use Rattle.texts.specs.Lexemes.{kind_of, is_named}

no_size : (w : Reserved) → kind_of w ≡ Some Size → ⊥
no_size words.Kernel h = cc
no_size words.Global h = cc
no_size words.Local h = cc
no_size words.Constant h = cc
no_size words.Private h = cc
no_size words.Attribute h = cc
no_size words.Const h = cc
no_size words.Int h = cc
no_size words.Uint h = cc
no_size words.Unsigned h = cc
no_size words.Signed h = cc
no_size words.Void h = cc
no_size words.If h = cc
no_size words.Else h = cc
no_size words.While h = cc
no_size words.For h = cc
no_size words.Do h = cc
no_size words.Switch h = cc
no_size words.Case h = cc
no_size words.Default h = cc
no_size words.Break h = cc
no_size words.Continue h = cc
no_size words.Return h = cc
no_size words.Goto h = cc
no_size words.Struct h = cc
no_size words.Union h = cc
no_size words.Enum h = cc
no_size words.Typedef h = cc
no_size words.Sizeof h = cc
no_size words.Float h = cc
no_size words.Double h = cc
no_size words.Half h = cc
no_size words.Char h = cc
no_size words.Uchar h = cc
no_size words.Short h = cc
no_size words.Ushort h = cc
no_size words.Long h = cc
no_size words.Ulong h = cc
no_size words.Bool h = cc
no_size words.SizeT h = cc
no_size words.Volatile h = cc
no_size words.Restrict h = cc
no_size words.Static h = cc
no_size words.Extern h = cc
no_size words.Inline h = cc
no_size words.Register h = cc
no_size words.Auto h = cc

pub named : (w : Reserved) (kind : Kind) → kind_of w ≡ Some kind → is_named kind ≡ true
named w Int h = refl
named w Uint h = refl
named w Size h = absurd (no_size w h)
