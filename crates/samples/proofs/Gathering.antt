-- The kernels whose first buffer is bounded.
use Rattle.std.proofs.Common.{◌≡◌, ◌≢◌, ℕ, zero, suc, ◌≤◌, ◌<◌, ◌⊎◌, ◌%◌, ◌^◌, ℤ, pos, List, [], ◌∷◌, true, refl, ap, sym, ◌∙◌, inl, inr, subst, arith, mod-eq_of_lt, lt-ltb}
use Rattle.std.specs.Prelude.{◌≤ℤ◌}
use Rattle.std.proofs.lemmas.Int.{ints}
use Rattle.std.proofs.lemmas.List.Elements.{All-nil, All-cons, All-head}
use Rattle.semantics.specs.Word.{OutOfBounds, Uint, Word, word, bits_of, as_kind}
use Rattle.semantics.specs.Setup.{Setup, item_count, group_size, group_count}
use Rattle.semantics.specs.Memory.{Cell, opening_memory, opening_at, kind_in}
use Rattle.semantics.specs.Evaluation.{evaluate}
use Rattle.semantics.specs.Item.{Item, Running, Ended, Stopped, enter}
use Rattle.semantics.specs.Ask.{Loads, Stores, Rests, ask}
use Rattle.semantics.specs.Solo.{after, opening, is_waiting}
use Rattle.semantics.specs.Conditions.{Content, Constant, IsContent}
use Rattle.semantics.specs.Contents.{IsHonest, IsKept, IsInsideIn, HoldsIn, MayHold, StoresKept}
use Rattle.semantics.specs.Safety.{IsPairSafe, IsPairSafeWithin}
use Rattle.semantics.specs.Headline.{Headline}
use Rattle.reduction.proofs.Whole.{headline_within}
use Rattle.samples.specs.Terms.{at}
use Rattle.samples.specs.Bounded.{at_most_three, gathers, spoils, spares}

abbrev c0 : ℕ → ℕ → Cell
c0 a k = record { owner = 0; array = a; index = k }

stage : List Word → ℕ → Item
stage answers n = record { left = enter gathers.kernel.body []; variables = []; answers = answers; local_epoch = 0; global_epoch = 0; steps = n; status = Running }

done : ℕ → Item
done n = record { left = []; variables = []; answers = []; local_epoch = 0; global_epoch = 0; steps = n; status = Ended }

first : ask gathers 0 (stage [] 0) ≡ Loads (c0 0 0) Uint (at 3)
unfolding ask evaluate stage
first = refl

second : (n : ℕ) → n ≤ 3 → ask gathers 0 (stage (word Uint (pos n) ∷ []) 1) ≡ Loads (c0 1 n) Uint (at 2)
unfolding ask evaluate stage
second n h =
    let m : n % 2 ^ 32 ≡ n = mod-eq_of_lt (omega arith) in
    let l : n < 4 = omega arith in
    rw (m, lt-ltb n 4 l) refl

third : (n : ℕ) (v : ℤ) → ask gathers 0 (stage (word Uint (pos n) ∷ word Uint v ∷ []) 2) ≡ Stores (c0 2 0) (at 1) (as_kind Uint (as_kind Uint v)) (done 3)
unfolding ask evaluate stage done
third n v = refl

last : (n : ℕ) → ask gathers 0 (done n) ≡ Rests
unfolding ask done
last n = refl

data Place (it : Item) : Type 0 where
  AtStart : it ≡ stage [] 0 → Place it
  Indexed : (n : ℕ) → n ≤ 3 → it ≡ stage (word Uint (pos n) ∷ []) 1 → Place it
  Fetched : (n : ℕ) (v : ℤ) → it ≡ stage (word Uint (pos n) ∷ word Uint v ∷ []) 2 → Place it
  AtEnd : it ≡ done 3 → Place it

abbrev line : Content
line = record { buffer = 0; is_upper = true; sum = Constant (pos 3) ∷ [] }

-- what the line asks of a number that a buffer holds
abbrev Asked : Setup → (buffer : ℕ) → ℤ → Content → Type 0
Asked s b z x = x.buffer ≡ b → IsContent s.launch x z

may_hold-three : (s : Setup) (z : ℤ) → MayHold s at_most_three 0 z → z ≤ℤ pos 3
may_hold-three s z h = All-head (Asked s 0 z) line [] h refl

place : (ws : List ℤ) → IsHonest gathers at_most_three 0 ws → Place (after gathers 0 ws)
unfolding opening stage done
place [] h = AtStart refl
place (z ∷ ws) h = go (place ws h.0)
  where
    go : Place (after gathers 0 ws) → Place (after gathers 0 (z ∷ ws))
    go (AtStart e) =
        let held : MayHold gathers at_most_three 0 (pos (bits_of z)) = rw (e, first) at h.1 in
        let low = may_hold-three gathers (pos (bits_of z)) held in
        Indexed (bits_of z) (omega (arith, ints, low)) (rw (e, first) refl)
    go (Indexed n l e) = Fetched n (pos (bits_of z)) (rw (e, second n l) refl)
    go (Fetched n v e) = AtEnd (rw (e, third n v) refl)
    go (AtEnd e) = AtEnd (rw (e, last 3) refl)

status : (it : Item) → Place it → (it.status ≡ Running) ⊎ (it.status ≡ Ended)
unfolding stage done
status it (AtStart e) = inl (ap (λ (x : Item). x.status) e)
status it (Indexed n l e) = inl (ap (λ (x : Item). x.status) e)
status it (Fetched n v e) = inl (ap (λ (x : Item). x.status) e)
status it (AtEnd e) = inr (ap (λ (x : Item). x.status) e)

steps : (it : Item) → Place it → it.steps ≤ 3
unfolding stage done
steps it (AtStart e) = let q = ap (λ (x : Item). x.steps) e in omega (arith, q)
steps it (Indexed n l e) = let q = ap (λ (x : Item). x.steps) e in omega (arith, q)
steps it (Fetched n v e) = let q = ap (λ (x : Item). x.steps) e in omega (arith, q)
steps it (AtEnd e) = let q = ap (λ (x : Item). x.steps) e in omega (arith, q)

never : (ws : List ℤ) → IsHonest gathers at_most_three 0 ws → is_waiting (after gathers 0 ws).status ≡ 0
never ws h = elim (status (after gathers 0 ws) (place ws h)) [ inl e ↦ ap is_waiting e | inr e ↦ ap is_waiting e ]

-- a line of the first buffer says nothing of another one
spared : (s : Setup) (b : ℕ) (z : ℤ) → MayHold s at_most_three (suc b) z
spared s b z = All-cons (Asked s (suc b) z) line [] (λ e. cc) (All-nil (Asked s (suc b) z))

keeps : (it : Item) → Place it → StoresKept gathers at_most_three (ask gathers 0 it)
unfolding done
keeps it (AtStart e) = rw (e, first) tt
keeps it (Indexed n l e) = rw (e, second n l) tt
keeps it (Fetched n v e) = rw (e, third n v) (spared gathers 1 _)
keeps it (AtEnd e) = rw (e, last 3) tt

one_item : (i : ℕ) → i < item_count gathers → i ≡ 0
unfolding group_size group_count
one_item i h = omega arith

pub gathers-safe : IsPairSafeWithin at_most_three gathers 3
gathers-safe = record {
  quiet = λ i ws f site lt h. subst (λ k. IsHonest gathers at_most_three k ws → (after gathers k ws).status ≢ Stopped f site) (sym (one_item i lt))
      (λ h' e. elim (status (after gathers 0 ws) (place ws h')) [ inl r ↦ let q : Stopped f site ≡ Running = sym e ∙ r in cc | inr r ↦ let q : Stopped f site ≡ Ended = sym e ∙ r in cc ]) h;
  short = λ i ws lt h. subst (λ k. IsHonest gathers at_most_three k ws → (after gathers k ws).steps ≤ 3) (sym (one_item i lt)) (λ h'. steps (after gathers 0 ws) (place ws h')) h;
  apart = λ i j ws vs a b hi hj ne. absurd (ne (one_item i hi ∙ sym (one_item j hj)));
  agree = λ i j hi hj ne. absurd (ne (one_item i hi ∙ sym (one_item j hj)));
  ends = λ i j hi hj ne. absurd (ne (one_item i hi ∙ sym (one_item j hj)));
  keeps = λ i ws lt h. subst (λ k. IsHonest gathers at_most_three k ws → StoresKept gathers at_most_three (ask gathers k (after gathers k ws))) (sym (one_item i lt)) (λ h'. keeps (after gathers 0 ws) (place ws h')) h;
}

kept : IsKept gathers at_most_three (opening_memory gathers)
kept c inside = go c.owner c.array c.index inside
  where
    go : (o a k : ℕ) → IsInsideIn gathers o a k → HoldsIn gathers at_most_three o a (as_kind (kind_in gathers o a) (opening_at gathers o a k))
    go (suc g) a k h = tt
    go zero (suc a) k h = spared gathers a _
    go zero zero (suc k) h = absurd (omega arith)
    go zero zero zero h = All-cons (Asked gathers 0 (pos 2)) line [] (λ e. omega (arith, ints)) (All-nil (Asked gathers 0 (pos 2)))

filled : 0 < group_size gathers
unfolding group_size
filled = omega arith

below : 0 < item_count gathers
unfolding group_size group_count
below = omega arith

pub gathers-headline : Headline gathers 3
gathers-headline = headline_within gathers 3 filled gathers-safe kept

pub gathers-stops : (after gathers 0 (pos 0 ∷ pos 9 ∷ [])).status ≡ Stopped OutOfBounds (at 2)
unfolding ask evaluate opening
gathers-stops = refl

pub gathers-unbounded : (bound : ℕ) → IsPairSafe gathers bound → ⊥
gathers-unbounded bound p = p.quiet 0 (pos 0 ∷ pos 9 ∷ []) OutOfBounds (at 2) below gathers-stops

spoils-below : 0 < item_count spoils
unfolding group_size group_count
spoils-below = omega arith

spoils-asks : ask spoils 0 (after spoils 0 []) ≡ Stores (c0 0 0) (at 1) (pos 4) (done 1)
unfolding ask evaluate opening done
spoils-asks = refl

pub spoils-unsafe : (bound : ℕ) → IsPairSafeWithin at_most_three spoils bound → ⊥
spoils-unsafe bound p =
    let k : MayHold spoils at_most_three 0 (pos 4) = subst (StoresKept spoils at_most_three) spoils-asks (p.keeps 0 [] spoils-below tt) in
    let h = may_hold-three spoils (pos 4) k in
    omega (arith, ints, h)

data Stood (it : Item) : Type 0 where
  Yet : it ≡ opening spares 0 → Stood it
  Gone : it ≡ done 1 → Stood it

spares-asks : ask spares 0 (opening spares 0) ≡ Stores (c0 1 0) (at 1) (pos 4) (done 1)
unfolding ask evaluate opening done
spares-asks = refl

spares-last : ask spares 0 (done 1) ≡ Rests
unfolding ask done
spares-last = refl

stood : (ws : List ℤ) → Stood (after spares 0 ws)
unfolding done
stood [] = Yet refl
stood (z ∷ ws) = go (stood ws)
  where
    go : Stood (after spares 0 ws) → Stood (after spares 0 (z ∷ ws))
    go (Yet e) = Gone (rw (e, spares-asks) refl)
    go (Gone e) = Gone (rw (e, spares-last) refl)

stood-status : (it : Item) → Stood it → (it.status ≡ Running) ⊎ (it.status ≡ Ended)
unfolding opening done
stood-status it (Yet e) = inl (ap (λ (x : Item). x.status) e)
stood-status it (Gone e) = inr (ap (λ (x : Item). x.status) e)

stood-steps : (it : Item) → Stood it → it.steps ≤ 1
unfolding opening done
stood-steps it (Yet e) = let q = ap (λ (x : Item). x.steps) e in omega (arith, q)
stood-steps it (Gone e) = let q = ap (λ (x : Item). x.steps) e in omega (arith, q)

stood-keeps : (it : Item) → Stood it → StoresKept spares at_most_three (ask spares 0 it)
stood-keeps it (Yet e) = rw (e, spares-asks) (spared spares 0 (pos 4))
stood-keeps it (Gone e) = rw (e, spares-last) tt

spares-item : (i : ℕ) → i < item_count spares → i ≡ 0
unfolding group_size group_count
spares-item i h = omega arith

pub spares-safe : IsPairSafeWithin at_most_three spares 1
spares-safe = record {
  quiet = λ i ws f site lt h. subst (λ k. (after spares k ws).status ≢ Stopped f site) (sym (spares-item i lt))
      (λ e. elim (stood-status (after spares 0 ws) (stood ws)) [ inl r ↦ let q : Stopped f site ≡ Running = sym e ∙ r in cc | inr r ↦ let q : Stopped f site ≡ Ended = sym e ∙ r in cc ]);
  short = λ i ws lt h. subst (λ k. (after spares k ws).steps ≤ 1) (sym (spares-item i lt)) (stood-steps (after spares 0 ws) (stood ws));
  apart = λ i j ws vs a b hi hj ne. absurd (ne (spares-item i hi ∙ sym (spares-item j hj)));
  agree = λ i j hi hj ne. absurd (ne (spares-item i hi ∙ sym (spares-item j hj)));
  ends = λ i j hi hj ne. absurd (ne (spares-item i hi ∙ sym (spares-item j hj)));
  keeps = λ i ws lt h. subst (λ k. StoresKept spares at_most_three (ask spares k (after spares k ws))) (sym (spares-item i lt)) (stood-keeps (after spares 0 ws) (stood ws));
}
