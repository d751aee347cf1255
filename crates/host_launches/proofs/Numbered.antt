-- The number of a refusal is not 0.
use Rattle.std.proofs.Common.{◌≡◌, ◌≢◌, ◌⊎◌, ℕ, ◌+◌, ◌/◌, ◌*◌, List, [], ◌∷◌, length, take, Bool, true, false, Option, Some, None, Result, Ok, Err, ap, sym, ◌∙◌, inl, inr, arith}
use Rattle.std.specs.Prelude.{◌&&◌, not, nat_eq, nat_le, IfErr}
use Rattle.semantics.specs.Launch as launches
use Rattle.launch.specs.Unmet.{unmet_by}
use Rattle.launch.specs.declared.conditions.Content.{Content}
use Rattle.launch.specs.declared.conditions.Conditions.{Conditions}
use Rattle.launch.specs.declared.launches.Counts.{Counts}
use Rattle.host_launches.specs.declared.given.Argument.{Argument}
use Rattle.host_launches.specs.declared.given.Range.{Range}
use Rattle.host_launches.specs.declared.given.Refusal.{Refusal}
use Rattle.host_launches.specs.declared.shapes.Shape.{Shape}
use Rattle.host_launches.specs.declared.shapes.Shape.TheVariants.{Value, Buffer, Local}
use Rattle.host_launches.specs.declared.sizes.Along.{Along}
use Rattle.host_launches.specs.Shapes.{size_of, bytes_of}
use Rattle.host_launches.specs.Sizes.{first, second, third, are_dimensions, whole_groups, or_sizes, groups_along, groups_in, groups_of}
use Rattle.host_launches.specs.Sizes as sizes
use Rattle.host_launches.specs.Fitting.{is_among, is_short, argument_fits, each_fits, arguments_fit, lesser}
use Rattle.host_launches.specs.Kinds.{are_parameters}
use Rattle.host_launches.specs.Numbers.{has_word, lengths_of}
use Rattle.host_launches.specs.Telling.{groups_told, launch_of, on_line, unsaid, met_told, all_told}
use Rattle.host_launches.specs.Refusing.{fine, memory, on, when, refusal, Tells}

-- no error of this answer has number 0
abbrev IsNumbered : {A : Type 0} → Result A Refusal → Type 0
IsNumbered r = (e : Refusal) → r ≡ Err e → e.number ≢ 0

ok-numbered : {A : Type 0} (a : A) → IsNumbered (Ok a)
ok-numbered a e h = cc

on-numbered : {A B : Type 0} (r : Result A Refusal) (f : A → Result B Refusal) → IsNumbered r → ((a : A) → IsNumbered (f a)) → IsNumbered (on r f)
on-numbered (Ok a) f h k = k a
on-numbered (Err x) f h k = λ e same. h e (let p : x ≡ e = cc in ap (λ z. Err z) p)

when-numbered : {A : Type 0} (t : Bool) (n p : ℕ) (r : Result A Refusal) → n ≢ 0 → IsNumbered r → IsNumbered (when t n p r)
when-numbered true n p r h k = k
when-numbered false n p r h k = λ e same zero. h (let q : refusal n p ≡ e = cc in ap (λ z. z.number) q ∙ zero)

sizes-numbered : (d : ℕ) (o : Option ℕ) → IsNumbered (or_sizes d o)
sizes-numbered d (Some n) = ok-numbered n
sizes-numbered d None = λ e same zero. absurd (let q : refusal 42 d ≡ e = cc in let r : 42 ≡ 0 = ap (λ z. z.number) q ∙ zero in cc)

along-numbered : (d size : ℕ) (a : Along) → IsNumbered (groups_along d size a)
along-numbered d size a = when-numbered (nat_eq a.offset 0) 43 d (or_sizes d (whole_groups size a)) (λ z. cc) (sizes-numbered d (whole_groups size a))

groups-numbered : (s : launches.Three ℕ) (r : Range) → IsNumbered (groups_of s r)
groups-numbered s r =
    when-numbered (are_dimensions r.dimensions) 42 r.dimensions (groups_in s r) (λ z. cc) (
    on-numbered (groups_along 0 s.x (first r)) (λ x. on (groups_along 1 s.y (second r)) (λ y. on (groups_along 2 s.z (third r)) (λ z. sizes.counts x y z))) (along-numbered 0 s.x (first r)) (λ x.
    on-numbered (groups_along 1 s.y (second r)) (λ y. on (groups_along 2 s.z (third r)) (λ z. sizes.counts x y z)) (along-numbered 1 s.y (second r)) (λ y.
    on-numbered (groups_along 2 s.z (third r)) (λ z. sizes.counts x y z) (along-numbered 2 s.z (third r)) (λ z. ok-numbered (record { x = x; y = y; z = z })))))

one-numbered : (s : Shape) (n : ℕ) (a : Argument) (es : List Argument) → IsNumbered (argument_fits s n a es)
one-numbered (Value e) n a es = when-numbered (nat_eq a.kind 0 && (nat_eq a.bytes (bytes_of e.scalar e.width) && has_word e.scalar a.words)) 41 n fine (λ z. cc) (ok-numbered tt)
one-numbered (Buffer e) n a es =
    when-numbered (nat_eq a.kind 1 && not (nat_eq a.memory 0)) 41 n (when (is_short e a) 47 n (when (not (is_among a.memory es)) 44 n fine)) (λ z. cc) (
    when-numbered (is_short e a) 47 n (when (not (is_among a.memory es)) 44 n fine) (λ z. cc) (when-numbered (not (is_among a.memory es)) 44 n fine (λ z. cc) (ok-numbered tt)))
one-numbered (Local e count) n a es = when-numbered (nat_eq a.kind 2 && nat_le (count * bytes_of e.scalar e.width) a.bytes) 41 n fine (λ z. cc) (ok-numbered tt)

each-numbered : (all : List Argument) (n : ℕ) (ss : List Shape) (gs : List Argument) → IsNumbered (each_fits all n ss gs)
each-numbered all n [] gs = ok-numbered tt
each-numbered all n (s ∷ ss) [] = ok-numbered tt
each-numbered all n (s ∷ ss) (a ∷ gs) = on-numbered (argument_fits s n a (take n all)) (λ u. each_fits all (n + 1) ss gs) (one-numbered s n a (take n all)) (λ u. each-numbered all (n + 1) ss gs)

told-numbered : (k : launches.Kernel) (ss : List Shape) (r : Range) (gs : List Argument) → IsNumbered (groups_told k ss r gs)
told-numbered k ss r gs =
    on-numbered (groups_of k.sizes r) (λ g. on (arguments_fit ss gs) (λ u. when (are_parameters k ss) 41 (length ss) (Ok g))) (groups-numbered k.sizes r) (λ g.
    on-numbered (arguments_fit ss gs) (λ u. when (are_parameters k ss) 41 (length ss) (Ok g))
    (when-numbered (nat_eq (length ss) (length gs)) 41 (lesser (length ss) (length gs)) (each_fits gs 0 ss gs) (λ z. cc) (each-numbered gs 0 ss gs)) (λ u.
    when-numbered (are_parameters k ss) 41 (length ss) (Ok g) (λ z. cc) (ok-numbered g)))

line-numbered : (o : Option ℕ) (r : Result (Unit {0}) Refusal) → IsNumbered r → IsNumbered (on_line o r)
line-numbered None r h = h
line-numbered (Some n) r h = λ e same zero. absurd (let q : refusal 40 n ≡ e = cc in let r : 40 ≡ 0 = ap (λ z. z.number) q ∙ zero in cc)

unsaid-numbered : (is_held : Bool) (xs : List Content) → IsNumbered (unsaid is_held xs)
unsaid-numbered true xs = ok-numbered tt
unsaid-numbered false [] = ok-numbered tt
unsaid-numbered false (x ∷ xs) = λ e same zero. absurd (let q : refusal 45 x.line ≡ e = cc in let r : 45 ≡ 0 = ap (λ z. z.number) q ∙ zero in cc)

all-numbered : (k : launches.Kernel) (ss : List Shape) (c : Conditions) (r : Range) (gs : List Argument) (is_held : Bool) → IsNumbered (all_told k ss c r gs is_held)
all-numbered k ss c r gs is_held =
    on-numbered (groups_told k ss r gs) (λ g. met_told c (launch_of g r ss gs) (lengths_of ss gs) is_held) (told-numbered k ss r gs) (λ g.
    line-numbered (unmet_by c (launch_of g r ss gs) (lengths_of ss gs)) (unsaid is_held c.contents.items) (unsaid-numbered is_held c.contents.items))

memory-numbered : (e : Refusal) → e ≡ memory → e.number ≢ 0
memory-numbered e h z = absurd (let r : 90 ≡ 0 = ap (λ x. x.number) (sym h) ∙ z in cc)

pub numbered : (k : launches.Kernel) (ss : List Shape) (c : Conditions) (r : Range) (gs : List Argument) (is_held : Bool) (answer : Result (Unit {0}) Refusal) → Tells answer (all_told k ss c r gs is_held) → IfErr answer (λ e. e.number ≢ 0)
numbered k ss c r gs is_held (Ok u) t = tt
numbered k ss c r gs is_held (Err e) (inl h) = memory-numbered e h
numbered k ss c r gs is_held (Err e) (inr h) = all-numbered k ss c r gs is_held e h
