-- Arguments that are those of the parameters.
use Rattle.std.proofs.Common.{◌≡◌, ◌≢◌, ℕ, suc, ◌+◌, ◌*◌, ◌/◌, ◌<◌, ◌≤◌, List, [], ◌∷◌, ◌++◌, length, map, take, Bool, true, false, Result, Ok, Err, refl, ap, sym, ◌∙◌, arith, append_assoc, length-append}
use Rattle.std.specs.Prelude.{◌&&◌, ◌||◌, not, nat_eq, nat_le, nat_lt, cond}
use Rattle.std.specs.List.{All, AllZip}
use Rattle.std.proofs.lemmas.Bool.Decides.{nat_tests}
use Rattle.std.proofs.Math.Seq.{take-append_seam}
use Rattle.std.proofs.lemmas.List.Elements.{All-nil, All-cons, All-head, All-tail, All-append}
use Rattle.host_launches.specs.declared.given.Argument.{Argument}
use Rattle.host_launches.specs.declared.shapes.Element.{Element}
use Rattle.host_launches.specs.declared.shapes.Shape.{Shape}
use Rattle.host_launches.specs.declared.shapes.Shape.TheVariants.{Value, Buffer, Local}
use Rattle.host_launches.specs.Shapes.{size_of, bytes_of}
use Rattle.host_launches.specs.Fitting.{is_among, is_short, value_fits, buffer_fits, local_fits, argument_fits, each_fits, arguments_fit, lesser}
use Rattle.host_launches.specs.Launches.{IsArgumentOf, AreOther, AreApart, AreApartBehind}
use Rattle.host_launches.specs.Numbers.{has_word, lengths_at, lengths_of}
use Rattle.host_launches.specs.Refusing.{fine, on, when}
use Rattle.host_launches.proofs.Taking.{on-ok, when-ok, both, equal, within, below, not-zero}

pub one_fits : (s : Shape) (n : ℕ) (a : Argument) (es : List Argument) → argument_fits s n a es ≡ fine → IsArgumentOf s a
one_fits (Value e) n a es h =
    let t = when-ok (nat_eq a.kind 0 && (nat_eq a.bytes (bytes_of e.scalar e.width) && has_word e.scalar a.words)) 41 n fine tt h in
    let p = both (nat_eq a.kind 0) (nat_eq a.bytes (bytes_of e.scalar e.width) && has_word e.scalar a.words) t.0 in
    let q = both (nat_eq a.bytes (bytes_of e.scalar e.width)) (has_word e.scalar a.words) p.1 in
    (equal a.kind 0 p.0, equal a.bytes (bytes_of e.scalar e.width) q.0, q.1)
one_fits (Buffer e) n a es h =
    let t = when-ok (nat_eq a.kind 1 && not (nat_eq a.memory 0)) 41 n (when (is_short e a) 47 n (when (not (is_among a.memory es)) 44 n fine)) tt h in
    let u = when-ok (is_short e a) 47 n (when (not (is_among a.memory es)) 44 n fine) tt t.1 in
    let p = both (nat_eq a.kind 1) (not (nat_eq a.memory 0)) t.0 in
    (equal a.kind 1 p.0, not-zero a.memory p.1, within (a.bytes / size_of e.scalar) 4294967295 u.0)
one_fits (Local e count) n a es h =
    let t = when-ok (nat_eq a.kind 2 && nat_le (count * bytes_of e.scalar e.width) a.bytes) 41 n fine tt h in
    let p = both (nat_eq a.kind 2) (nat_le (count * bytes_of e.scalar e.width) a.bytes) t.0 in
    (equal a.kind 2 p.0, within (count * bytes_of e.scalar e.width) a.bytes p.1)

-- no buffer among these is in its memory, if it is one
abbrev IsNew : Argument → List Argument → Type 0
IsNew a es = All (λ e. AreOther e a) es

not_among : (m : ℕ) (a : Argument) (es : List Argument) → a.memory ≡ m → not (is_among m es) ≡ true → IsNew a es
not_among m a [] e h = All-nil (λ x. AreOther x a)
not_among m a (x ∷ es) e h = All-cons (λ x. AreOther x a) x es (first (nat_eq x.kind 1) (nat_eq x.memory m) refl refl h) (not_among m a es e (rest (nat_eq x.kind 1 && nat_eq x.memory m) (is_among m es) h))
  where
    rest : (s t : Bool) → not (s || t) ≡ true → not t ≡ true
    rest true t h = cc
    rest false t h = h

    first : (s t : Bool) → nat_eq x.kind 1 ≡ s → nat_eq x.memory m ≡ t → not ((s && t) || is_among m es) ≡ true → AreOther x a
    first true true p q h = cc
    first true false p q h = λ k l same. differ (same ∙ e) q
      where
        differ : x.memory ≡ m → nat_eq x.memory m ≡ false → ⊥
        differ w v = grind (arith, nat_tests)
    first false t p q h = λ k l same. other k p
      where
        other : x.kind ≡ 1 → nat_eq x.kind 1 ≡ false → ⊥
        other w v = grind (arith, nat_tests)

other_kind : (k : ℕ) (a : Argument) (es : List Argument) → a.kind ≡ k → k ≢ 1 → IsNew a es
other_kind k a [] e h = All-nil (λ x. AreOther x a)
other_kind k a (x ∷ es) e h = All-cons (λ x. AreOther x a) x es (λ p q same. h (sym e ∙ q)) (other_kind k a es e h)

pub one_is_new : (s : Shape) (n : ℕ) (a : Argument) (es : List Argument) → argument_fits s n a es ≡ fine → IsNew a es
one_is_new (Value e) n a es h = other_kind 0 a es (one_fits (Value e) n a es h).0 (λ w. cc)
one_is_new (Buffer e) n a es h =
    let t = when-ok (nat_eq a.kind 1 && not (nat_eq a.memory 0)) 41 n (when (is_short e a) 47 n (when (not (is_among a.memory es)) 44 n fine)) tt h in
    let u = when-ok (is_short e a) 47 n (when (not (is_among a.memory es)) 44 n fine) tt t.1 in
    let v = when-ok (not (is_among a.memory es)) 44 n fine tt u.1 in
    not_among a.memory a es refl v.0
one_is_new (Local e count) n a es h = other_kind 2 a es (one_fits (Local e count) n a es h).0 (λ w. cc)

-- each is its parameter's
pub each : (all : List Argument) (n : ℕ) (ss : List Shape) (gs : List Argument) → length ss ≡ length gs → each_fits all n ss gs ≡ fine → AllZip IsArgumentOf ss gs
each all n [] [] e h = tt
each all n [] (a ∷ gs) e h = absurd (omega arith)
each all n (s ∷ ss) [] e h = absurd (omega arith)
each all n (s ∷ ss) (a ∷ gs) e h =
    let t = on-ok (argument_fits s n a (take n all)) (λ u. each_fits all (n + 1) ss gs) tt h in
    let first : argument_fits s n a (take n all) ≡ fine = t.1 in
    (one_fits s n a (take n all) first, each all (n + 1) ss gs (omega arith) t.2)

-- those behind the first ones are apart from these and from one another
pub apart_behind : (all es : List Argument) (n : ℕ) (ss : List Shape) (gs : List Argument) → all ≡ es ++ gs → n ≡ length es → length ss ≡ length gs → each_fits all n ss gs ≡ fine → AreApartBehind es gs
apart_behind all es n [] [] f l e h = tt
apart_behind all es n [] (a ∷ gs) f l e h = absurd (omega arith)
apart_behind all es n (s ∷ ss) [] f l e h = absurd (omega arith)
apart_behind all es n (s ∷ ss) (a ∷ gs) f l e h =
    let t = on-ok (argument_fits s n a (take n all)) (λ u. each_fits all (n + 1) ss gs) tt h in
    let front : take n all ≡ es = ap (λ xs. take n xs) f ∙ ap (λ m. take m (es ++ (a ∷ gs))) l ∙ take-append_seam es (a ∷ gs) in
    let first : argument_fits s n a es ≡ fine = ap (λ xs. argument_fits s n a xs) (sym front) ∙ t.1 in
    let longer : n + 1 ≡ length (es ++ a ∷ []) = omega (arith, length-append es (a ∷ []), l) in
    (one_is_new s n a es first, apart_behind all (es ++ a ∷ []) (n + 1) ss gs (f ∙ sym (append_assoc es (a ∷ []) gs)) longer (omega arith) t.2)

-- a buffer has no more components than a `uint` counts
few_at : (s : Shape) (a : Argument) → IsArgumentOf s a → All (λ n. n ≤ 4294967295) (lengths_at s a)
few_at (Value e) a h = All-nil (λ n. n ≤ 4294967295)
few_at (Buffer e) a h = All-cons (λ n. n ≤ 4294967295) (a.bytes / size_of e.scalar) [] h.2 (All-nil (λ n. n ≤ 4294967295))
few_at (Local e count) a h = All-nil (λ n. n ≤ 4294967295)

pub few : (ss : List Shape) (gs : List Argument) → AllZip IsArgumentOf ss gs → All (λ n. n ≤ 4294967295) (lengths_of ss gs)
few [] gs h = All-nil (λ n. n ≤ 4294967295)
few (s ∷ ss) [] h = All-nil (λ n. n ≤ 4294967295)
few (s ∷ ss) (a ∷ gs) h = All-append (λ n. n ≤ 4294967295) (lengths_at s a) (lengths_of ss gs) (few_at s a h.0) (few ss gs h.1)

pub record AllFit (ss : List Shape) (gs : List Argument) : Type 0 where
  pub many : length ss ≡ length gs
  pub arguments : AllZip IsArgumentOf ss gs
  pub apart : AreApart gs

pub all_fit : (ss : List Shape) (gs : List Argument) → arguments_fit ss gs ≡ fine → AllFit ss gs
all_fit ss gs h =
    let t = when-ok (nat_eq (length ss) (length gs)) 41 (lesser (length ss) (length gs)) (each_fits gs 0 ss gs) tt h in
    let many : length ss ≡ length gs = equal (length ss) (length gs) t.0 in
    record { many = many; arguments = each gs 0 ss gs many t.1; apart = apart_behind gs [] 0 ss gs refl refl many t.1 }
