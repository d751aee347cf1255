-- Products of symbols, which are symbols with numbers of their own, and products of forms.
use Rattle.std.specs.Prelude.{◌≡◌, ◌≢◌, ◌<◌, map, ℕ, zero, suc, ◌+◌, ◌*◌, ◌/◌, ◌%◌, ◌^◌, ℤ, pos, negsuc, ◌*ℤ◌, Bool, true, cond, ◌&&◌, nat_le, nat_lt, nat_eq, Option, None, Some, List, [], ◌∷◌, length}
use Rattle.std.specs.List.{All}
use Rattle.linear.specs.Linear.{Weighted, Form, IsMet}
use Rattle.linear.specs.Exact.{Terms, fits, fits_i64, sum, multiple}

-- the digits of a number to the base 2^20, the lowest first, up to one that is 0: each is one more than a factor
abbrev pub factor_before : (digit : ℕ) → List ℕ → List ℕ
factor_before zero rest = []
factor_before (suc a) rest = a ∷ rest

abbrev pub unpacked : (most : ℕ) → ℕ → List ℕ
unpacked zero n = []
unpacked (suc most) n = factor_before (n % 2 ^ 20) (unpacked most (n / 2 ^ 20))

abbrev pub packed : List ℕ → ℕ
packed [] = 0
packed (a ∷ fs) = suc a + 2 ^ 20 * packed fs

-- numbers that are 15 modulo 16 are products, of up to three factors; each other number is its own one factor
abbrev pub factors : ℕ → List ℕ
factors n = cond (nat_eq (n % 16) 15) (unpacked 3 (n / 16)) (n ∷ [])

abbrev pub product_number : List ℕ → ℕ
product_number fs = 15 + 16 * packed fs

-- in rising order
abbrev pub insert_rising : ℕ → List ℕ → List ℕ
insert_rising a [] = a ∷ []
insert_rising a (b ∷ gs) = cond (nat_le a b) (a ∷ b ∷ gs) (b ∷ insert_rising a gs)

abbrev pub merged : List ℕ → List ℕ → List ℕ
merged [] gs = gs
merged (a ∷ fs) gs = merged fs (insert_rising a gs)

-- below 2^20 - 16, so that symbols of the same sixteen are as well
abbrev pub are_small : List ℕ → Bool
are_small [] = true
are_small (a ∷ fs) = nat_lt a 1048560 && are_small fs

-- factors have a product where they are three at most, and small
abbrev pub product_of : List ℕ → Option ℕ
product_of fs = cond (nat_le (length fs) 3 && are_small fs) (Some (product_number fs)) None

-- the number of the product of two symbols
abbrev pub times : ℕ → ℕ → Option ℕ
times m n = product_of (merged (factors m) (factors n))

-- the value of each product is the product of the values
abbrev pub IsMultiplicative : (ℕ → ℤ) → Type 0
IsMultiplicative v = (m n k : ℕ) → times m n ≡ Some k → v k ≡ v m *ℤ v n

-- no whole numbers for the symbols meet all of the facts, products being products
abbrev pub IsImpossibleWithProducts : List (Form ℕ) → Type 0
IsImpossibleWithProducts facts = (v : ℕ → ℤ) → IsMultiplicative v → All (IsMet v) facts → ⊥

-- a valuation of the symbols that are no products, for all symbols
abbrev pub value_of_factors : (ℕ → ℤ) → List ℕ → ℤ
value_of_factors v [] = pos 1
value_of_factors v (a ∷ fs) = v a *ℤ value_of_factors v fs

abbrev pub with_products : (ℕ → ℤ) → ℕ → ℤ
with_products v n = value_of_factors v (factors n)

abbrev pub and_then : {A B : Type 0} → Option A → (A → Option B) → Option B
and_then None go = None
and_then (Some a) go = go a

abbrev pub within_i64 : Form ℕ → Option (Form ℕ)
within_i64 f = cond (fits f) (Some f) None

abbrev pub single : ℕ → Form ℕ
single s = record { terms = record { coefficient = pos 1; symbol = s } ∷ []; constant = pos 0 }

-- a form less its constant
abbrev pub varying : Form ℕ → Form ℕ
varying f = record { terms = f.terms; constant = pos 0 }

-- a form and a multiple of another one, all of i64
abbrev pub plus_multiple : Form ℕ → ℤ → Form ℕ → Option (Form ℕ)
plus_multiple f k g = cond (fits_i64 k) (within_i64 (sum f (multiple k g))) None

-- a form, and the product of two terms
abbrev pub add_product : Form ℕ → Weighted ℕ → Weighted ℕ → Option (Form ℕ)
add_product f t u = and_then (times t.symbol u.symbol) (λ s. plus_multiple f (t.coefficient *ℤ u.coefficient) (single s))

abbrev pub add_row : Form ℕ → Weighted ℕ → Terms → Option (Form ℕ)
add_row f t [] = Some f
add_row f t (u ∷ us) = and_then (add_product f t u) (λ g. add_row g t us)

abbrev pub add_rows : Form ℕ → Terms → Terms → Option (Form ℕ)
add_rows f [] us = Some f
add_rows f (t ∷ ts) us = and_then (add_row f t us) (λ g. add_rows g ts us)

abbrev pub no_form : Form ℕ
no_form = record { terms = []; constant = pos 0 }

-- the product of two forms, where all products of their symbols are and each number of a sum on the way is an i64
abbrev pub product : Form ℕ → Form ℕ → Option (Form ℕ)
product f g = and_then (plus_multiple no_form g.constant f)
    (λ a. and_then (plus_multiple a f.constant (varying g)) (λ b. add_rows b f.terms g.terms))

-- what denies that a form is at least 0
abbrev pub denial : Form ℕ → Form ℕ
denial f = sum (record { terms = []; constant = negsuc 0 }) (multiple (negsuc 0) f)

-- a form of each symbol put in its place; that of a product is the product of its factors'
abbrev pub replaced_factors : (ℕ → Form ℕ) → Form ℕ → List ℕ → Option (Form ℕ)
replaced_factors by f [] = Some f
replaced_factors by f (n ∷ ns) = and_then (product f (by n)) (λ g. replaced_factors by g ns)

abbrev pub replaced_product : (ℕ → Form ℕ) → List ℕ → Option (Form ℕ)
replaced_product by [] = Some (record { terms = []; constant = pos 1 })
replaced_product by (n ∷ ns) = replaced_factors by (by n) ns

abbrev pub replaced_from : (ℕ → Form ℕ) → Form ℕ → Terms → Option (Form ℕ)
replaced_from by f [] = Some f
replaced_from by f (t ∷ ts) = and_then (replaced_product by (factors t.symbol))
    (λ g. and_then (plus_multiple f t.coefficient g) (λ h. replaced_from by h ts))

abbrev pub replaced : (ℕ → Form ℕ) → Form ℕ → Option (Form ℕ)
replaced by f = replaced_from by (record { terms = []; constant = f.constant }) f.terms

-- other numbers for symbols that are no products, and the products of these
abbrev pub relabelled : (ℕ → ℕ) → ℕ → ℕ
relabelled by n = cond (nat_eq (n % 16) 15) (product_number (map by (factors n))) (by n)

-- no products and small numbers stay so
pub record IsRelabelling (by : ℕ → ℕ) : Type 0 where
  pub alone : (n : ℕ) → n % 16 ≢ 15 → by n % 16 ≢ 15
  pub small : (n : ℕ) → n < 1048560 → by n < 1048560
