-- Stretches with bits: which stretch a place belongs to, and which entries stand where.
use Rattle.std.proofs.Common.{◌≡◌, ◌<◌, ◌≤◌, ◌+◌, ◌-◌, ℕ, zero, suc, List, [], ◌∷◌, ◌++◌, Bool, true, false, cond, refl, sym, ap, ◌∙◌, subst, arith, nat_lt, length, get_or, slice_get, le_refl, length-append}
use Rattle.std.proofs.Math.ListN as lists
use Rattle.std.proofs.Math.Seq.{get_or-append_seam}
use Rattle.std.proofs.lemmas.Bool.Decides.{nat_tests}
use Rattle.std.specs.Prelude.{Some, None}
use Rattle.std.proofs.lemmas.Option.{get_or_from_slice_get, slice_get-get_or, slice_get_within}
use Rattle.write_log.specs.Elements.{Entry, AreApart, border, entry_at, entry_of, first_entries, last_from, nowhere, stretch_at}
use Rattle.write_log.specs.declared.stretch.Stretch.{Stretch}

-- without the first one
apart-tail : (t : Stretch) (ts : List Stretch) (n : ℕ) → AreApart (t ∷ ts) n → AreApart ts n
apart-tail t ts n h number l =
    let e : suc number + 1 ≡ suc (number + 1) = omega arith in
    subst (λ m. border ts n number < border (t ∷ ts) n m) e (h (suc number) (omega (arith, l)))

-- a border is no further than the end
pub border-within : (ts : List Stretch) (n number : ℕ) → AreApart ts n → border ts n number ≤ n
border-within [] n number h = le_refl n
border-within (t ∷ ts) n zero h =
    let here = h 0 (omega arith) in
    let there = border-within ts n 0 (apart-tail t ts n h) in
    omega (arith, here, there)
border-within (t ∷ ts) n (suc number) h = border-within ts n number (apart-tail t ts n h)

-- a border is where a stretch starts
pub border-is : (ts : List Stretch) (n number : ℕ) (d : Stretch) → number < length ts → border ts n number ≡ (get_or ts number d).start
border-is (t ∷ ts) n zero d l = refl
border-is (t ∷ ts) n (suc number) d l = border-is ts n number d (omega (arith, l))
border-is [] n number d l = absurd (omega (arith, l))

pub border-past : (ts : List Stretch) (n number : ℕ) → length ts ≤ number → border ts n number ≡ n
border-past [] n number l = refl
border-past (t ∷ ts) n zero l = absurd (omega (arith, l))
border-past (t ∷ ts) n (suc number) l = border-past ts n number (omega (arith, l))

-- before the first one
last-before : (ts : List Stretch) (n place : ℕ) (s : Stretch) → AreApart ts n → place < border ts n 0 → last_from ts place s ≡ s
last-before [] n place s h l = refl
last-before (t ∷ ts) n place s h l =
    let below : nat_lt place t.start ≡ true = grind (arith, nat_tests) in
    let here = h 0 (omega arith) in
    ap (λ b. last_from ts place (cond b s t)) below ∙ last-before ts n place s (apart-tail t ts n h) (omega (arith, l, here))

-- from where a stretch starts to where the next one does
pub last-is : (ts : List Stretch) (n place : ℕ) (s : Stretch) (number : ℕ) → AreApart ts n → number < length ts → border ts n number ≤ place → place < border ts n (number + 1) → last_from ts place s ≡ get_or ts number nowhere
last-is [] n place s number h l from to = absurd (omega (arith, l))
last-is (t ∷ ts) n place s zero h l from to =
    let from_here : nat_lt place t.start ≡ false = grind (arith, nat_tests) in
    ap (λ b. last_from ts place (cond b s t)) from_here ∙ last-before ts n place t (apart-tail t ts n h) to
last-is (t ∷ ts) n place s (suc number) h l from to =
    let e : suc number + 1 ≡ suc (number + 1) = omega arith in
    last-is ts n place (cond (nat_lt place t.start) s t) number (apart-tail t ts n h) (omega (arith, l)) from (subst (λ m. place < border (t ∷ ts) n m) e to)

-- with one more at the end
pub last-snoc : (ts : List Stretch) (t : Stretch) (place : ℕ) (s : Stretch) → last_from (ts ++ t ∷ []) place s ≡ cond (nat_lt place t.start) (last_from ts place s) t
last-snoc [] t place s = refl
last-snoc (u ∷ ts) t place s = last-snoc ts t place (cond (nat_lt place u.start) s u)

-- the entries of the first places
pub length-first : (ts : List Stretch) (bits : List ℕ) (n : ℕ) → length (first_entries ts bits n) ≡ n
length-first ts bits zero = refl
length-first ts bits (suc n) =
    let before = length-first ts bits n in
    let more = length-append (first_entries ts bits n) (entry_at ts bits n ∷ []) in
    omega (arith, before, more)

pub first-at : (ts : List Stretch) (bits : List ℕ) (n place : ℕ) (d : Entry) → place < n → get_or (first_entries ts bits n) place d ≡ entry_at ts bits place
first-at ts bits zero place d l = absurd (omega (arith, l))
first-at ts bits (suc n) place d l = by (first-at ts bits n place d) (nat_lt place n) refl
  where
    by : (place < n → get_or (first_entries ts bits n) place d ≡ entry_at ts bits place) → (b : Bool) → nat_lt place n ≡ b → get_or (first_entries ts bits n ++ entry_at ts bits n ∷ []) place d ≡ entry_at ts bits place
    by so_far true q =
        let below : place < n = grind (arith, nat_tests) in
        lists.get_or-append (first_entries ts bits n) (entry_at ts bits n ∷ []) d place (subst (λ m. place < m) (sym (length-first ts bits n)) below)
        ∙ so_far below
    by so_far false q =
        let last : place ≡ n = grind (arith, nat_tests) in
        ap (λ m. get_or (first_entries ts bits n ++ entry_at ts bits n ∷ []) m d) (last ∙ sym (length-first ts bits n))
        ∙ get_or-append_seam (first_entries ts bits n) (entry_at ts bits n) [] d
        ∙ ap (entry_at ts bits) (sym last)

-- the last stretch has the last place
module _ (ts : List Stretch) (n : ℕ) (h : AreApart ts n) (s : Stretch) (last : Some s ≡ slice_get ts (length ts - 1)) where
  some_ : length ts - 1 < length ts
  some_ = slice_get_within ts (length ts - 1) s (sym last)

  is : get_or ts (length ts - 1) nowhere ≡ s
  is = get_or_from_slice_get ts (length ts - 1) s nowhere (sym last)

  starts : border ts n (length ts - 1) ≡ s.start
  starts = border-is ts n (length ts - 1) nowhere some_ ∙ ap (λ (t : Stretch). t.start) is

  ends : border ts n (length ts - 1 + 1) ≡ n
  ends = border-past ts n (length ts - 1 + 1) (omega (arith, some_))

  pub starts-below : s.start < n
  starts-below = let l = h (length ts - 1) some_ in omega (arith, starts, ends, l)

  pub at-last : stretch_at ts (n - 1) ≡ s
  at-last = last-is ts n (n - 1) nowhere (length ts - 1) h some_ (omega (arith, starts, starts-below)) (omega (arith, ends, starts-below)) ∙ is

-- without a stretch there is no place
pub no-place : (ts : List Stretch) (n : ℕ) → border ts n 0 ≡ 0 → None ≡ slice_get ts (length ts - 1) → n ≡ 0
no-place [] n b h = b
no-place (t ∷ ts) n b h = absurd (by (length (t ∷ ts) - 1) (omega arith) h)
  where
    by : (k : ℕ) → k < length (t ∷ ts) → None ≡ slice_get (t ∷ ts) k → ⊥
    by k l h = let g = slice_get-get_or (t ∷ ts) k t l in cc

-- the entry of the last place
pub last-entry : (ts : List Stretch) (bits : List ℕ) (n : ℕ) → 0 < n → Some (entry_at ts bits (n - 1)) ≡ slice_get (first_entries ts bits n) (length (first_entries ts bits n) - 1)
last-entry ts bits n l =
    let e = entry_at ts bits (n - 1) in
    let all = first_entries ts bits n in
    let place : length all - 1 ≡ n - 1 = omega (arith, length-first ts bits n) in
    sym (ap (slice_get all) place ∙ slice_get-get_or all (n - 1) e (omega (arith, l, length-first ts bits n)) ∙ ap (λ x. Some x) (first-at ts bits n (n - 1) e (omega (arith, l))))

-- an element that is there, whatever stands for one that is not
pub from_place : {A : Type 0} (xs : List A) (i : ℕ) (d x : A) → i < length xs → x ≡ get_or xs i x → get_or xs i d ≡ x
from_place xs i d x l e = get_or_from_slice_get xs i x d (slice_get-get_or xs i x l ∙ ap (λ y. Some y) (sym e))

-- the places of a stretch
module _ (ts : List Stretch) (bits : List ℕ) (h : AreApart ts (length bits)) (number : ℕ) (l : number < length ts) (t : Stretch) (is : t ≡ get_or ts number t) (place : ℕ) (from : t.start ≤ place) (to : place < border ts (length bits) (number + 1)) where
  is_there : get_or ts number nowhere ≡ t
  is_there = from_place ts number nowhere t l is

  pub in-stretch : stretch_at ts place ≡ t
  in-stretch = let starts = border-is ts (length bits) number nowhere l ∙ ap (λ (u : Stretch). u.start) is_there in last-is ts (length bits) place nowhere number h l (omega (arith, starts, from)) to ∙ is_there

  pub has-bits : place < length bits
  has-bits = let w = border-within ts (length bits) (number + 1) h in omega (arith, w, to)

  pub entry-in : (b : ℕ) → b ≡ get_or bits place b → entry_of t place b ≡ entry_at ts bits place
  entry-in b e = ap (λ (u : Stretch). entry_of u place b) (sym in-stretch) ∙ ap (entry_of (stretch_at ts place) place) (sym (from_place bits place 0 b has-bits e))

  pub index-in : (limit : ℕ) → ((p : ℕ) → p < length bits → (entry_at ts bits p).0.1 < limit) → t.first + (place - t.start) < limit
  index-in limit fits = subst (λ (u : Stretch). u.first + (place - u.start) < limit) in-stretch (fits place has-bits)
