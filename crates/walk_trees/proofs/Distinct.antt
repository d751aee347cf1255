-- Two items of a launch differ in an id.
use Rattle.std.proofs.Common.{◌≡◌, ◌≢◌, ℕ, ◌%◌, ◌<◌, arith, sym, ap, ◌∙◌, inl, inr}
use Rattle.std.specs.Prelude.{◌⊎◌}
use Rattle.std.proofs.lemmas.Bool.{cases_eq}
use Rattle.semantics.specs.Launch.{Three, product}
use Rattle.semantics.specs.Setup.{Setup, along, place, number_of, group_size, group_count, group_of, item_count, member, local_id, group_id}
use Rattle.semantics.proofs.Groups.{group_size-pos, place-below, group-below, member-of}
use Rattle.semantics.proofs.Places.{place-is}

-- they differ there
abbrev pub Differ : Three ℕ → Three ℕ → Type 0
Differ a b = (d : ℕ) × (d < 3) × (along a d 0 ≢ along b d 0)

differ : (a b : Three ℕ) → a ≢ b → Differ a b
differ a b n = by (cases_eq a.x b.x) (cases_eq a.y b.y) (cases_eq a.z b.z)
  where
    by : (a.x ≡ b.x) ⊎ (a.x ≢ b.x) → (a.y ≡ b.y) ⊎ (a.y ≢ b.y) → (a.z ≡ b.z) ⊎ (a.z ≢ b.z) → Differ a b
    by (inl p) (inl q) (inl r) = absurd (n (λ i. record { x = p i; y = q i; z = r i }))
    by (inl p) (inl q) (inr o) = (2, omega arith, o)
    by (inl p) (inr o) r = (1, omega arith, o)
    by (inr o) q r = (0, omega arith, o)

places-differ : (t : Three ℕ) (m n : ℕ) → m < product t → n < product t → m ≢ n → Differ (place t m) (place t n)
places-differ t m n hm hn o = differ (place t m) (place t n) (λ e. o (sym (place-is t m hm).1 ∙ ap (number_of t) e ∙ (place-is t n hn).1))

-- in one group, by a local id
pub locals-differ : (s : Setup) (i j : ℕ) → i < item_count s → j < item_count s → i ≢ j → group_of s i ≡ group_of s j → (d : ℕ) × (d < 3) × (local_id s i d ≢ local_id s j d)
unfolding group_size
locals-differ s i j hi hj n g =
    let pi = group_size-pos s i hi in
    let pj = group_size-pos s j hj in
    places-differ s.kernel.sizes (i % group_size s) (j % group_size s) (place-below s i pi) (place-below s j pj)
    (λ e. n (sym (member-of s i pi) ∙ ap (λ a. member s a (i % group_size s)) g ∙ ap (member s (group_of s j)) e ∙ member-of s j pj))

-- in two groups, by a group id
pub groups-differ : (s : Setup) (i j : ℕ) → i < item_count s → j < item_count s → group_of s i ≢ group_of s j → (d : ℕ) × (d < 3) × (group_id s i d ≢ group_id s j d)
unfolding group_count
groups-differ s i j hi hj n = places-differ s.launch.groups (group_of s i) (group_of s j) (group-below s i hi) (group-below s j hj) n
