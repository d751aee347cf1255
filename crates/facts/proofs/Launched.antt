-- The facts of a launch that meets the conditions, and of an item, hold.
use Rattle.std.proofs.Common.{◌≡◌, ℕ, zero, suc, ◌+◌, ◌<◌, ◌%◌, List, [], ◌∷◌, ◌++◌, map, length, slice_index_or, arith, refl, ap, ◌∙◌, subst, Option, Some, None}
use Rattle.std.specs.Prelude.{ℤ, pos, ◌+ℤ◌, ◌-ℤ◌, ◌*ℤ◌, ◌≤ℤ◌}
use Rattle.std.specs.Option.{option_map}
use Rattle.std.specs.List.{All, AllZip}
use Rattle.std.proofs.lemmas.Int.{ints}
use Rattle.std.proofs.lemmas.List.Elements.{All-append, All-cons, All-nil, All-head, All-tail}
use Rattle.semantics.specs.Word.{Kind, Word, zero_word}
use Rattle.semantics.specs.Launch.{Three, Launch, IsBuffer}
use Rattle.semantics.specs.Setup.{Setup, along, place, IsPlace, group_size, group_count, group_of, item_count, local_id, group_id}
use Rattle.semantics.specs.Conditions.{Range, Factor, ArgumentFactor, GroupsFactor, Summand, Constant, Argument, Groups, Product, Requirement, Conditions, IsIn, IsLongEnough, IsRequired, Meets, factor_value, summand_value, sum_value}
use Rattle.linear.specs.Linear.{value_of, IsMet}
use Rattle.semantics.proofs.Groups.{group_size-pos, place-below, group-below}
use Rattle.semantics.proofs.Places.{place-is}
use Rattle.linear.specs.Exact.{sum, multiple}
use Rattle.linear.proofs.Merging.{IsRising, rising-merge, rising-multiples}
use Rattle.linear.specs.Products.{times, single, and_then, IsMultiplicative}
use Rattle.facts.specs.Symbols as symbols
use Rattle.facts.specs.Symbols.{First, Symbol, ArgumentOf, Length, Local, Group, number, Fact, constant, once, minus}
use Rattle.facts.specs.Launching.{each_dimension, factor_symbol, summand_form, difference, sum_from, sum_form, ends, argument_facts, length_facts, required, count_range, launch_facts, id_facts, item_facts}
use Rattle.facts.proofs.Values.{value-sum, value-multiple, value-minus, value-constant, value-once}
use Rattle.facts.proofs.Worlds.{View, setup, groups_at, given_at, Knows}

pub each_dimension-all : {A : Type 0} (P : A → Type 0) (f : ℕ → List A) → ((d : ℕ) → d < 3 → All P (f d)) → All P (each_dimension f)
each_dimension-all P f h = All-append P (f 0) (f 1 ++ f 2) (h 0 (omega arith)) (All-append P (f 1) (f 2) (h 1 (omega arith)) (h 2 (omega arith)))

-- ids are below their counts
along-place : (t p : Three ℕ) → IsPlace t p → (d : ℕ) → d < 3 → along p d 0 < along t d 1
along-place t p h zero l = h.0
along-place t p h (suc zero) l = h.1
along-place t p h (suc (suc zero)) l = h.2
along-place t p h (suc (suc (suc d))) l = absurd (omega arith)

pub local-below : (s : Setup) (i : ℕ) → i < item_count s → (d : ℕ) → d < 3 → local_id s i d < along s.kernel.sizes d 1
unfolding group_size
local-below s i h = along-place s.kernel.sizes (place s.kernel.sizes (i % group_size s)) (place-is s.kernel.sizes (i % group_size s) (place-below s i (group_size-pos s i h))).0

pub group_id-below : (s : Setup) (i : ℕ) → i < item_count s → (d : ℕ) → d < 3 → group_id s i d < along s.launch.groups d 1
unfolding group_count
group_id-below s i h = along-place s.launch.groups (place s.launch.groups (group_of s i)) (place-is s.launch.groups (group_of s i) (group-below s i h)).0

-- a count is in its range
pub count_in : (c : Conditions) (l : Launch) → Meets c l → (d : ℕ) → d < 3 → IsIn (count_range c d) (groups_at l d)
count_in c l m zero h = m.groups_x
count_in c l m (suc zero) h = m.groups_y
count_in c l m (suc (suc zero)) h = m.groups_z
count_in c l m (suc (suc (suc d))) h = absurd (omega arith)

-- what a form that there is has to be worth
abbrev pub IsWorth : (ℕ → ℤ) → Option Fact → ℤ → Type 0
IsWorth v None z = Unit {0}
IsWorth v (Some f) z = value_of v f ≡ z

factor-value : (v : ℕ → ℤ) (l : Launch) → ((d : ℕ) → v (number (symbols.Groups d)) ≡ groups_at l d) → ((n : ℕ) → v (number (ArgumentOf n)) ≡ given_at l n) → (x : Factor) → v (number (factor_symbol x)) ≡ factor_value l x
factor-value v l g a (ArgumentFactor n) = a n
factor-value v l g a (GroupsFactor d) = g d

product-worth : (v : ℕ → ℤ) (c z : ℤ) (o : Option ℕ) → ((k : ℕ) → o ≡ Some k → v k ≡ z) → IsWorth v (option_map (multiple c) (option_map single o)) (c *ℤ z)
product-worth v c z None h = tt
product-worth v c z (Some k) h = value-multiple v c (single k) ∙ ap (λ y. c *ℤ y) (omega (arith, ints, h k refl))

summand-value : (v : ℕ → ℤ) (l : Launch) → IsMultiplicative v → ((d : ℕ) → v (number (symbols.Groups d)) ≡ groups_at l d) → ((n : ℕ) → v (number (ArgumentOf n)) ≡ given_at l n) → (x : Summand) → IsWorth v (summand_form x) (summand_value l x)
summand-value v l m g a (Constant z) = value-constant v z
summand-value v l m g a (Argument c n) = value-multiple v c (once (ArgumentOf n)) ∙ ap (λ z. c *ℤ z) (value-once v (ArgumentOf n) ∙ a n)
summand-value v l m g a (Groups c d) = value-multiple v c (once (symbols.Groups d)) ∙ ap (λ z. c *ℤ z) (value-once v (symbols.Groups d) ∙ g d)
summand-value v l m g a (Product c x y) =
    product-worth v c (factor_value l x *ℤ factor_value l y) (times (number (factor_symbol x)) (number (factor_symbol y)))
    (λ k e. m (number (factor_symbol x)) (number (factor_symbol y)) k e ∙ (λ i. factor-value v l g a x i *ℤ factor-value v l g a y i))

sum-worth : (v : ℕ → ℤ) (f : Fact) (o : Option Fact) (go : Fact → Option Fact) (x y : ℤ) → IsWorth v o x → ((h : Fact) → value_of v h ≡ value_of v f +ℤ x → IsWorth v (go h) y) → IsWorth v (and_then o (λ g. go (sum f g))) y
sum-worth v f None go x y h k = tt
sum-worth v f (Some g) go x y h k = k (sum f g) (value-sum v f g ∙ ap (λ z. value_of v f +ℤ z) h)

sum_from-value : (v : ℕ → ℤ) (l : Launch) → IsMultiplicative v → ((d : ℕ) → v (number (symbols.Groups d)) ≡ groups_at l d) → ((n : ℕ) → v (number (ArgumentOf n)) ≡ given_at l n) → (f : Fact) (xs : List Summand) → IsWorth v (sum_from f xs) (value_of v f +ℤ sum_value l xs)
sum_from-value v l m g a f [] = omega (arith, ints)
sum_from-value v l m g a f (x ∷ xs) =
    sum-worth v f (summand_form x) (λ h. sum_from h xs) (summand_value l x) (value_of v f +ℤ (summand_value l x +ℤ sum_value l xs)) (summand-value v l m g a x)
    (λ h e. subst (IsWorth v (sum_from h xs)) (omega (arith, ints, e)) (sum_from-value v l m g a h xs))

pub sum_form-value : (v : ℕ → ℤ) (l : Launch) → IsMultiplicative v → ((d : ℕ) → v (number (symbols.Groups d)) ≡ groups_at l d) → ((n : ℕ) → v (number (ArgumentOf n)) ≡ given_at l n) → (xs : List Summand) → IsWorth v (sum_form xs) (sum_value l xs)
sum_form-value v l m g a xs = subst (IsWorth v (sum_form xs)) (omega (arith, ints, value-constant v (pos 0))) (sum_from-value v l m g a (constant (pos 0)) xs)

-- a sum's symbols rise, where it has a form
abbrev pub AreRising : Option Fact → Type 0
AreRising None = Unit {0}
AreRising (Some f) = IsRising 0 f.terms

rising-product : (c : ℤ) (o : Option ℕ) → AreRising (option_map (multiple c) (option_map single o))
rising-product c None = tt
rising-product c (Some k) = rising-multiples 0 c (single k).terms (omega arith, λ e. cc, tt)

rising-summand : (x : Summand) → AreRising (summand_form x)
rising-summand (Constant z) = tt
rising-summand (Argument c n) = rising-multiples 0 c (once (ArgumentOf n)).terms (omega arith, λ e. cc, tt)
rising-summand (Groups c d) = rising-multiples 0 c (once (symbols.Groups d)).terms (omega arith, λ e. cc, tt)
rising-summand (Product c x y) = rising-product c (times (number (factor_symbol x)) (number (factor_symbol y)))

rising-next : (f : Fact) (o : Option Fact) (go : Fact → Option Fact) → IsRising 0 f.terms → AreRising o → ((g : Fact) → IsRising 0 g.terms → AreRising (go g)) → AreRising (and_then o (λ g. go (sum f g)))
rising-next f None go r h k = tt
rising-next f (Some g) go r h k = k (sum f g) (rising-merge 0 f.terms g.terms r h)

rising-sum_from : (f : Fact) (xs : List Summand) → IsRising 0 f.terms → AreRising (sum_from f xs)
rising-sum_from f [] r = r
rising-sum_from f (x ∷ xs) r = rising-next f (summand_form x) (λ g. sum_from g xs) r (rising-summand x) (λ g q. rising-sum_from g xs q)

pub rising-sum_form : (xs : List Summand) → AreRising (sum_form xs)
rising-sum_form xs = rising-sum_from (constant (pos 0)) xs tt

-- a difference of two forms that are worth numbers in this order holds
difference_holds : (v : ℕ → ℤ) (o p : Option Fact) (x y : ℤ) → IsWorth v o x → IsWorth v p y → y ≤ℤ x → IsMet v (difference o p)
difference_holds v None p x y h k l = omega (arith, ints, value-constant v (pos 0))
difference_holds v (Some f) None x y h k l = omega (arith, ints, value-constant v (pos 0))
difference_holds v (Some f) (Some g) x y h k l = omega (arith, ints, value-minus v f g, h, k, l)

ends_hold : (v : ℕ → ℤ) (r : Range) (s : Symbol) (z : ℤ) → v (number s) ≡ z → IsIn r z → All (IsMet v) (ends r (once s))
ends_hold v r s z e h =
    All-cons (IsMet v) (minus (once s) (constant r.low)) (minus (constant r.high) (once s) ∷ []) (omega (arith, ints, value-minus v (once s) (constant r.low), value-once v s, value-constant v r.low, e, h.0))
    (All-cons (IsMet v) (minus (constant r.high) (once s)) [] (omega (arith, ints, value-minus v (constant r.high) (once s), value-once v s, value-constant v r.high, e, h.1)) (All-nil (IsMet v)))

arguments_hold : (v : ℕ → ℤ) (n : ℕ) (rs : List Range) (ws : List Word) → AllZip (λ (r : Range) (w : Word). IsIn r w.value) rs ws → ((k : ℕ) → v (number (ArgumentOf (n + k))) ≡ (slice_index_or ws k zero_word).value) → All (IsMet v) (argument_facts n rs)
arguments_hold v n [] ws h e = All-nil (IsMet v)
arguments_hold v n (r ∷ rs) [] h e = elim h [ ]
arguments_hold v n (r ∷ rs) (w ∷ ws) h e =
    let here : v (number (ArgumentOf n)) ≡ w.value = ap (λ m. v (number (ArgumentOf m))) (omega arith) ∙ e 0 in
    All-append (IsMet v) (ends r (once (ArgumentOf n))) (argument_facts (suc n) rs) (ends_hold v r (ArgumentOf n) w.value here h.0) (arguments_hold v (suc n) rs ws h.1 (λ k. let m : suc n + k ≡ n + suc k = omega arith in ap (λ x. v (number (ArgumentOf x))) m ∙ e (suc k)))

lengths_hold : (v : ℕ → ℤ) (l : Launch) → IsMultiplicative v → ((d : ℕ) → v (number (symbols.Groups d)) ≡ groups_at l d) → ((n : ℕ) → v (number (ArgumentOf n)) ≡ given_at l n) → (n : ℕ) (ss : List (List Summand)) (ks : List Kind) (bs : List (List ℤ)) → AllZip (IsLongEnough l) ss bs → AllZip IsBuffer ks bs → ((k : ℕ) → v (number (Length (n + k))) ≡ pos (length (slice_index_or bs k []))) → All (IsMet v) (length_facts n ss)
lengths_hold v l mv g a n [] ks bs h j e = All-nil (IsMet v)
lengths_hold v l mv g a n (s ∷ ss) ks [] h j e = elim h [ ]
lengths_hold v l mv g a n (s ∷ ss) [] (b ∷ bs) h j e = elim j [ ]
lengths_hold v l mv g a n (s ∷ ss) (k ∷ ks) (b ∷ bs) h j e =
    let here : v (number (Length n)) ≡ pos (length b) = ap (λ m. v (number (Length m))) (omega arith) ∙ e 0 in
    let long : Fact = once (Length n) in
    let enough = h.0 in
    let most = j.0.0 in
    All-cons (IsMet v) (difference (Some long) (sum_form s)) (minus (constant (pos 4294967295)) long ∷ length_facts (suc n) ss) (difference_holds v (Some long) (sum_form s) (pos (length b)) (sum_value l s) (value-once v (Length n) ∙ here) (sum_form-value v l mv g a s) enough)
    (All-cons (IsMet v) (minus (constant (pos 4294967295)) long) (length_facts (suc n) ss) (omega (arith, ints, value-minus v (constant (pos 4294967295)) long, value-constant v (pos 4294967295), value-once v (Length n), here, most))
    (lengths_hold v l mv g a (suc n) ss ks bs h.1 j.1 (λ k. let m : suc n + k ≡ n + suc k = omega arith in ap (λ x. v (number (Length x))) m ∙ e (suc k))))

requires_hold : (v : ℕ → ℤ) (l : Launch) → IsMultiplicative v → ((d : ℕ) → v (number (symbols.Groups d)) ≡ groups_at l d) → ((n : ℕ) → v (number (ArgumentOf n)) ≡ given_at l n) → (rs : List Requirement) → All (IsRequired l) rs → All (IsMet v) (map required rs)
requires_hold v l mv g a [] h = All-nil (IsMet v)
requires_hold v l mv g a (r ∷ rs) h =
    let here = All-head (IsRequired l) r rs h in
    All-cons (IsMet v) (required r) (map required rs) (difference_holds v (sum_form r.left) (sum_form r.right) (sum_value l r.left) (sum_value l r.right) (sum_form-value v l mv g a r.left) (sum_form-value v l mv g a r.right) here) (requires_hold v l mv g a rs (All-tail (IsRequired l) r rs h))

pub launch_known : {E : Type 0} (c : View E) (news : List ℤ) → Knows c news (launch_facts c.conditions)
launch_known c news v a =
    let m = c.meets in
    let k = c.conditions in
    All-append (IsMet v) (each_dimension (λ d. ends (count_range k d) (once (symbols.Groups d)))) (argument_facts 0 k.arguments ++ (length_facts 0 k.lengths ++ map required k.requires))
    (each_dimension-all (IsMet v) (λ d. ends (count_range k d) (once (symbols.Groups d))) (λ d l. ends_hold v (count_range k d) (symbols.Groups d) (groups_at c.launch d) (a.groups d) (count_in k c.launch m d l)))
    (All-append (IsMet v) (argument_facts 0 k.arguments) (length_facts 0 k.lengths ++ map required k.requires)
    (arguments_hold v 0 k.arguments c.launch.arguments m.arguments (λ n. ap (λ x. v (number (ArgumentOf x))) (omega arith) ∙ a.given n))
    (All-append (IsMet v) (length_facts 0 k.lengths) (map required k.requires)
    (lengths_hold v c.launch a.products a.groups a.given 0 k.lengths c.kernel.buffers c.launch.buffers m.lengths c.fits.buffers (λ n. ap (λ x. v (number (Length x))) (omega arith) ∙ a.lengths n))
    (requires_hold v c.launch a.products a.groups a.given k.requires m.requires)))

pub item_known : {E : Type 0} (c : View E) (news : List ℤ) → Knows c news (item_facts c.kernel.sizes First)
item_known c news v a = each_dimension-all (IsMet v) (id_facts c.kernel.sizes First) (λ d h.
    let n : ℤ = pos (along c.kernel.sizes d 1) -ℤ pos 1 in
    let own : Fact = once (Local First d) in
    let group : Fact = once (Group First d) in
    let groups : Fact = once (symbols.Groups d) in
    let l = value-once v (Local First d) ∙ a.local d in
    let g = value-once v (Group First d) ∙ a.group d in
    let t = value-once v (symbols.Groups d) ∙ a.groups d in
    let lb = local-below (setup c) c.item c.place d h in
    let gb = group_id-below (setup c) c.item c.place d h in
    let most : Fact = minus (constant n) own in
    let last : Fact = minus (minus groups group) (constant (pos 1)) in
    All-cons (IsMet v) own (most ∷ group ∷ last ∷ []) (omega (arith, ints, l)) (All-cons (IsMet v) most (group ∷ last ∷ []) (omega (arith, ints, l, lb, value-minus v (constant n) own, value-constant v n))
    (All-cons (IsMet v) group (last ∷ []) (omega (arith, ints, g)) (All-cons (IsMet v) last [] (omega (arith, ints, g, t, gb, value-minus v (minus groups group) (constant (pos 1)), value-minus v groups group, value-constant v (pos 1))) (All-nil (IsMet v))))))

-- a launch has as many buffers as its kernel
pub buffers-length : (ks : List Kind) (bs : List (List ℤ)) → AllZip IsBuffer ks bs → length bs ≡ length ks
buffers-length [] [] h = refl
buffers-length [] (b ∷ bs) h = elim h [ ]
buffers-length (k ∷ ks) [] h = elim h [ ]
buffers-length (k ∷ ks) (b ∷ bs) h = ap suc (buffers-length ks bs h.1)
