-- Which claims of a kernel of stores alone are of the ranges of kinds; the others are of indexes.
use Rattle.std.specs.Prelude.{ℕ, zero, suc, List, [], ◌∷◌, Bool, true, false, slice_index_or}
use Rattle.semantics.specs.Word.{Kind, Int, Uint, Size}
use Rattle.semantics.specs.Core.{Term, Literal, Variable, Id, Binary, Convert, Store, Statements, one}
use Rattle.semantics.specs.Launch.{Kernel}

abbrev pub kind_of : (arguments : List Kind) → Term → Kind
kind_of ks (Literal k z) = k
kind_of ks (Variable x) = slice_index_or ks x Int
kind_of ks (Id k f d) = k
kind_of ks (Binary op k site a b) = k
kind_of ks (Convert k site a) = k
kind_of ks t = Int

-- a value that is brought to another kind has two, each marked by `true`
abbrev pub brings : (to from : Kind) → List Bool → List Bool
brings Int Int rest = rest
brings Int Uint rest = true ∷ true ∷ rest
brings Uint Int rest = true ∷ true ∷ rest
brings Uint Uint rest = rest
brings Int Size rest = true ∷ true ∷ rest
brings Uint Size rest = rest
brings Size Int rest = true ∷ true ∷ rest
brings Size Uint rest = rest
brings Size Size rest = rest

-- so has the result of an operator
abbrev pub ranges : (arguments : List Kind) → Term → List Bool → List Bool
ranges ks (Binary op k site a b) rest = ranges ks a (ranges ks b (brings k (kind_of ks a) (brings k (kind_of ks b) (true ∷ true ∷ rest))))
ranges ks (Convert k site a) rest = ranges ks a (brings k (kind_of ks a) rest)
ranges ks t rest = rest

-- a store's index and value have claims of ranges, then come the two of its index
abbrev pub claims : (arguments : List Kind) → Statements → List Bool
claims ks (one (Store n a site index value) others) = ranges ks index (ranges ks value (false ∷ false ∷ claims ks others))
claims ks ss = []

abbrev pub marked : List Bool → ℕ → Bool
marked [] n = false
marked (b ∷ bs) zero = b
marked (b ∷ bs) (suc n) = marked bs n

-- the obligation of a number, from 1, is a claim of a range
abbrev pub is_range : Kernel → ℕ → Bool
is_range k zero = false
is_range k (suc n) = marked (claims k.arguments k.body) n
