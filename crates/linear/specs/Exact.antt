-- Sums, multiples and quotients of linear forms over numbered symbols, in whole numbers without bounds.
use Rattle.std.specs.Prelude.{ℕ, zero, suc, ℤ, pos, negsuc, ◌+ℤ◌, ◌*ℤ◌, ◌^◌, Bool, true, cond, not, ◌&&◌, nat_le, nat_lt, nat_eq, List, [], ◌∷◌}
use Rattle.std.specs.Int.{int_div_euclid, int_rem_euclid}
use Rattle.std.specs.Ordering.{int_eq}
use Rattle.linear.specs.Linear.{Weighted, Form}

abbrev pub Terms : Type 0
Terms = List (Weighted ℕ)

-- symbols rise strictly, from `least` on, and no coefficient is 0
abbrev pub is_rising : (least : ℕ) → Terms → Bool
is_rising least [] = true
is_rising least (t ∷ ts) = nat_le least t.symbol && (not (int_eq t.coefficient (pos 0)) && is_rising (suc t.symbol) ts)

-- a number is an i64
abbrev pub fits_i64 : ℤ → Bool
fits_i64 (pos n) = nat_lt n (2 ^ 63)
fits_i64 (negsuc n) = nat_lt n (2 ^ 63)

abbrev pub fits_terms : Terms → Bool
fits_terms [] = true
fits_terms (t ∷ ts) = fits_i64 t.coefficient && fits_terms ts

-- each coefficient and the constant are i64
abbrev pub fits : Form ℕ → Bool
fits f = fits_i64 f.constant && fits_terms f.terms

-- a term before others, unless its coefficient is 0
abbrev pub put : (coefficient : ℤ) (symbol : ℕ) → Terms → Terms
put (pos zero) s ts = ts
put (pos (suc n)) s ts = record { coefficient = pos (suc n); symbol = s } ∷ ts
put (negsuc n) s ts = record { coefficient = negsuc n; symbol = s } ∷ ts

-- a term and what `rest` merges, merged with more terms
abbrev pub merge_one : Weighted ℕ → (rest : Terms → Terms) → Terms → Terms
merge_one x rest [] = x ∷ rest []
merge_one x rest (y ∷ b) = cond (nat_lt x.symbol y.symbol) (x ∷ rest (y ∷ b))
    (cond (nat_lt y.symbol x.symbol) (y ∷ merge_one x rest b) (put (x.coefficient +ℤ y.coefficient) x.symbol (rest b)))

abbrev pub merge : Terms → Terms → Terms
merge [] b = b
merge (x ∷ a) b = merge_one x (merge a) b

abbrev pub multiples : ℤ → Terms → Terms
multiples k [] = []
multiples k (t ∷ ts) = put (k *ℤ t.coefficient) t.symbol (multiples k ts)

abbrev pub sum : Form ℕ → Form ℕ → Form ℕ
sum f g = record { terms = merge f.terms g.terms; constant = f.constant +ℤ g.constant }

abbrev pub multiple : ℤ → Form ℕ → Form ℕ
multiple k f = record { terms = multiples k f.terms; constant = k *ℤ f.constant }

-- the coefficient of a symbol, 0 where there is no term of it
abbrev pub coefficient_of : (symbol : ℕ) → Terms → ℤ
coefficient_of s [] = pos 0
coefficient_of s (t ∷ ts) = cond (nat_eq t.symbol s) t.coefficient (coefficient_of s ts)

abbrev pub without : (symbol : ℕ) → Terms → Terms
without s [] = []
without s (t ∷ ts) = cond (nat_eq t.symbol s) (without s ts) (t ∷ without s ts)

abbrev pub form_without : (symbol : ℕ) → Form ℕ → Form ℕ
form_without s f = record { terms = without s f.terms; constant = f.constant }

-- the same coefficients with other symbols
abbrev pub over : (symbols : List ℕ) → Terms → Terms
over ns [] = []
over [] (t ∷ ts) = []
over (n ∷ ns) (t ∷ ts) = record { coefficient = t.coefficient; symbol = n } ∷ over ns ts

abbrev pub form_over : (symbols : List ℕ) → Form ℕ → Form ℕ
form_over ns f = record { terms = over ns f.terms; constant = f.constant }

-- a form with another one in place of a symbol
abbrev pub substituted : (symbol : ℕ) → Form ℕ → Form ℕ → Form ℕ
substituted s f g = sum (form_without s f) (multiple (coefficient_of s f.terms) g)

-- a valuation, but for one symbol
abbrev pub with_value : (ℕ → ℤ) → (symbol : ℕ) → ℤ → ℕ → ℤ
with_value v s z n = cond (nat_eq n s) z (v n)

abbrev pub divides : (divisor : ℤ) → ℤ → Bool
divides d c = int_eq (int_rem_euclid c d) (pos 0)

-- each coefficient divides
abbrev pub all_divide : (divisor : ℤ) → Terms → Bool
all_divide d [] = true
all_divide d (t ∷ ts) = divides d t.coefficient && all_divide d ts

abbrev pub quotients : (divisor : ℤ) → Terms → Terms
quotients d [] = []
quotients d (t ∷ ts) = record { coefficient = int_div_euclid t.coefficient d; symbol = t.symbol } ∷ quotients d ts

-- coefficients divided, and the constant divided rounding down
abbrev pub quotient : (divisor : ℤ) → Form ℕ → Form ℕ
quotient d f = record { terms = quotients d f.terms; constant = int_div_euclid f.constant d }
