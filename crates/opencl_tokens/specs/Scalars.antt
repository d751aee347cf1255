-- The scalars, and the types that one word names (OpenCL 1.2, 6.1.1 and 6.1.2).
use Rattle.std.specs.Prelude.{ℕ, List, [], ◌∷◌, codes}

pub data Scalar : Type 0 where
  Bool Char Uchar Short Ushort Int Uint Long Ulong SizeT PtrdiffT Half Float Double : Scalar

-- how each is written, with its scalar and its width, which is 1 for a scalar. `intptr_t` and `uintptr_t` have the range of `ptrdiff_t`
-- and of `size_t`; `char`, `int` and their like are words, since more than one of them may name a type
unfoldable pub types : List (List ℕ × Scalar × ℕ)
types =
    (codes "uchar", Uchar, 1) ∷ (codes "ushort", Ushort, 1) ∷ (codes "uint", Uint, 1) ∷ (codes "ulong", Ulong, 1)
    ∷ (codes "bool", Bool, 1) ∷ (codes "size_t", SizeT, 1) ∷ (codes "ptrdiff_t", PtrdiffT, 1) ∷ (codes "intptr_t", PtrdiffT, 1)
    ∷ (codes "uintptr_t", SizeT, 1) ∷ (codes "char2", Char, 2) ∷ (codes "char3", Char, 3) ∷ (codes "char4", Char, 4)
    ∷ (codes "char8", Char, 8) ∷ (codes "char16", Char, 16) ∷ (codes "uchar2", Uchar, 2) ∷ (codes "uchar3", Uchar, 3)
    ∷ (codes "uchar4", Uchar, 4) ∷ (codes "uchar8", Uchar, 8) ∷ (codes "uchar16", Uchar, 16) ∷ (codes "short2", Short, 2)
    ∷ (codes "short3", Short, 3) ∷ (codes "short4", Short, 4) ∷ (codes "short8", Short, 8) ∷ (codes "short16", Short, 16)
    ∷ (codes "ushort2", Ushort, 2) ∷ (codes "ushort3", Ushort, 3) ∷ (codes "ushort4", Ushort, 4) ∷ (codes "ushort8", Ushort, 8)
    ∷ (codes "ushort16", Ushort, 16) ∷ (codes "int2", Int, 2) ∷ (codes "int3", Int, 3) ∷ (codes "int4", Int, 4) ∷ (codes "int8", Int, 8)
    ∷ (codes "int16", Int, 16) ∷ (codes "uint2", Uint, 2) ∷ (codes "uint3", Uint, 3) ∷ (codes "uint4", Uint, 4) ∷ (codes "uint8", Uint, 8)
    ∷ (codes "uint16", Uint, 16) ∷ (codes "long2", Long, 2) ∷ (codes "long3", Long, 3) ∷ (codes "long4", Long, 4)
    ∷ (codes "long8", Long, 8) ∷ (codes "long16", Long, 16) ∷ (codes "ulong2", Ulong, 2) ∷ (codes "ulong3", Ulong, 3)
    ∷ (codes "ulong4", Ulong, 4) ∷ (codes "ulong8", Ulong, 8) ∷ (codes "ulong16", Ulong, 16) ∷ (codes "half2", Half, 2)
    ∷ (codes "half3", Half, 3) ∷ (codes "half4", Half, 4) ∷ (codes "half8", Half, 8) ∷ (codes "half16", Half, 16)
    ∷ (codes "float2", Float, 2) ∷ (codes "float3", Float, 3) ∷ (codes "float4", Float, 4) ∷ (codes "float8", Float, 8)
    ∷ (codes "float16", Float, 16) ∷ (codes "double2", Double, 2) ∷ (codes "double3", Double, 3) ∷ (codes "double4", Double, 4)
    ∷ (codes "double8", Double, 8) ∷ (codes "double16", Double, 16) ∷ []
