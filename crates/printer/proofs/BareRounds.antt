-- The result by rounds, positions aside: of a kernel without positions it is the same.
use Rattle.std.proofs.Common.{◌≡◌, ℕ, zero, suc, ◌+◌, ℤ, List, ◌++◌, ◌&&◌, ◌||◌, refl, ap, ◌∙◌}
use Rattle.std.proofs.Math.Path.{fun_ext}
use Rattle.semantics.specs.Setup.{Setup, group_size, group_count, member}
use Rattle.semantics.specs.Memory.{Cell, Memory, put, opening_memory}
use Rattle.semantics.specs.Item.{Status, Running, Waiting, Ended, Stopped, Item, has_ended}
use Rattle.semantics.specs.Ask.{Ask, Loads, Stores, Goes, Waits, Rests, ask}
use Rattle.semantics.specs.Solo.{opening, moved}
use Rattle.semantics.specs.World.{past, may_go, every}
use Rattle.semantics.specs.Rounds.{Part, applied, noting, alone_by, alone, round_stores, after_round, next_round, rounds, group_stores, rounds_end, result_of, result_by_rounds}
use Rattle.printer.specs.BareRuns.{bare_status, bare_item, bare_setup}
use Rattle.printer.proofs.BareSteps.{bare_ask, bare-asked}
use Rattle.printer.proofs.BareWorlds.{bare_items, bare-moved, bare-past, every-same, bare-may, bare-memory, bare-openings}

abbrev bare_part : Part → Part
bare_part p = record { item = bare_item p.item; stores = p.stores }

-- one item alone
bare-alone-by : (go on : Item → Memory → Part) → ((it : Item) (m : Memory) → on (bare_item it) m ≡ bare_part (go it m)) → (it : Item) (m : Memory) (a : Ask) → alone_by on (bare_item it) m (bare_ask a) ≡ bare_part (alone_by go it m a)
bare-alone-by go on h it m (Loads at kind site) = ap (λ x. on x m) (bare-moved it (Loads at kind site) (m at)) ∙ h (moved it (Loads at kind site) (m at)) m
bare-alone-by go on h it m (Stores at site value next) = ap (noting at value) (h next (put at value m))
bare-alone-by go on h it m (Goes next) = h next m
bare-alone-by go on h it m (Waits next) = refl
bare-alone-by go on h it m Rests = refl

bare-alone : (s : Setup) (i fuel : ℕ) (it : Item) (m : Memory) → alone (bare_setup s) i fuel (bare_item it) m ≡ bare_part (alone s i fuel it m)
bare-alone s i zero it m = refl
bare-alone s i (suc fuel) it m =
    ap (alone_by (alone (bare_setup s) i fuel) (bare_item it) m) (bare-asked s i it)
    ∙ bare-alone-by (alone s i fuel) (alone (bare_setup s) i fuel) (λ it m. bare-alone s i fuel it m) it m (ask s i it)

-- a round
bare-round : (s : Setup) (g fuel : ℕ) (items : ℕ → Item) (m : Memory) (n : ℕ) → round_stores (bare_setup s) g fuel (bare_items items) m n ≡ round_stores s g fuel items m n
unfolding group_size
bare-round s g fuel items m zero = refl
bare-round s g fuel items m (suc n) =
    ap (λ xs. xs ++ (alone (bare_setup s) (member s g n) fuel (bare_item (items (member s g n))) m).stores) (bare-round s g fuel items m n)
    ∙ ap (λ p. round_stores s g fuel items m n ++ p.stores) (bare-alone s (member s g n) fuel (items (member s g n)) m)

bare-after : (s : Setup) (fuel : ℕ) (items : ℕ → Item) (m : Memory) → after_round (bare_setup s) fuel (bare_items items) m ≡ bare_items (after_round s fuel items m)
bare-after s fuel items m = fun_ext (λ i. ap (λ p. p.item) (bare-alone s i fuel (items i) m))

bare-passed : (s : Setup) (fuel : ℕ) (items : ℕ → Item) (m : Memory) → (λ i. past (bare_setup s) i (after_round (bare_setup s) fuel (bare_items items) m i)) ≡ bare_items (λ i. past s i (after_round s fuel items m i))
bare-passed s fuel items m = fun_ext (λ i. ap (λ p. past (bare_setup s) i p.item) (bare-alone s i fuel (items i) m) ∙ bare-past s i (after_round s fuel items m i))

bare-rounds : (s : Setup) (g fuel n : ℕ) (items : ℕ → Item) (m : Memory) → rounds (bare_setup s) g fuel n (bare_items items) m ≡ rounds s g fuel n items m
unfolding group_size
bare-rounds s g fuel zero items m = refl
bare-rounds s g fuel (suc n) items m =
    let k = group_size s in
    let first = round_stores s g fuel items m k in
    let behind = λ (i : ℕ). past s i (after_round s fuel items m i) in
    ap (λ xs. xs ++ next_round (may_go (bare_setup s) (after_round (bare_setup s) fuel (bare_items items) m) g)
    (rounds (bare_setup s) g fuel n (λ i. past (bare_setup s) i (after_round (bare_setup s) fuel (bare_items items) m i)) (applied xs m))) (bare-round s g fuel items m k)
    ∙ ap (λ b. first ++ next_round b (rounds (bare_setup s) g fuel n (λ i. past (bare_setup s) i (after_round (bare_setup s) fuel (bare_items items) m i)) (applied first m)))
    (ap (λ js. may_go (bare_setup s) js g) (bare-after s fuel items m) ∙ bare-may s (after_round s fuel items m) g)
    ∙ ap (λ xs. first ++ next_round (may_go s (after_round s fuel items m) g) xs)
    (ap (λ js. rounds (bare_setup s) g fuel n js (applied first m)) (bare-passed s fuel items m) ∙ bare-rounds s g fuel n behind (applied first m))

bare-group : (s : Setup) (bound g : ℕ) → group_stores (bare_setup s) bound g ≡ group_stores s bound g
bare-group s bound g =
    ap (λ m. rounds (bare_setup s) g (bound + 1) (bound + 1) (opening (bare_setup s)) m) (bare-memory s)
    ∙ ap (λ items. rounds (bare_setup s) g (bound + 1) (bound + 1) items (opening_memory s)) (bare-openings s)
    ∙ bare-rounds s g (bound + 1) (bound + 1) (opening s) (opening_memory s)

bare-result-of : (s : Setup) (bound n : ℕ) → result_of (bare_setup s) bound n ≡ result_of s bound n
bare-result-of s bound zero = bare-memory s
bare-result-of s bound (suc n) = ap (λ xs. applied xs (result_of (bare_setup s) bound n)) (bare-group s bound n) ∙ ap (applied (group_stores s bound n)) (bare-result-of s bound n)

-- whether the rounds come to an end
bare-ended : (st : Status) → has_ended (bare_status st) ≡ has_ended st
bare-ended Running = refl
bare-ended Waiting = refl
bare-ended Ended = refl
bare-ended (Stopped f site) = refl

bare-end : (s : Setup) (g fuel n : ℕ) (items : ℕ → Item) (m : Memory) → rounds_end (bare_setup s) g fuel n (bare_items items) m ≡ rounds_end s g fuel n items m
unfolding group_size
bare-end s g fuel zero items m = refl
bare-end s g fuel (suc n) items m =
    let k = group_size s in
    let first = round_stores s g fuel items m k in
    let behind = λ (i : ℕ). past s i (after_round s fuel items m i) in
    let ends = every k (λ j. has_ended (after_round s fuel items m (member s g j)).status) in
    let later = λ (xs : List (Cell × ℤ)). rounds_end (bare_setup s) g fuel n (λ i. past (bare_setup s) i (after_round (bare_setup s) fuel (bare_items items) m i)) (applied xs m) in
    ap (λ b. b || (may_go (bare_setup s) (after_round (bare_setup s) fuel (bare_items items) m) g && later (round_stores (bare_setup s) g fuel (bare_items items) m k)))
    (every-same k _ _ (λ j. ap (λ p. has_ended p.item.status) (bare-alone s (member s g j) fuel (items (member s g j)) m) ∙ bare-ended (after_round s fuel items m (member s g j)).status))
    ∙ ap (λ b. ends || (b && later (round_stores (bare_setup s) g fuel (bare_items items) m k)))
    (ap (λ js. may_go (bare_setup s) js g) (bare-after s fuel items m) ∙ bare-may s (after_round s fuel items m) g)
    ∙ ap (λ xs. ends || (may_go s (after_round s fuel items m) g && later xs)) (bare-round s g fuel items m k)
    ∙ ap (λ b. ends || (may_go s (after_round s fuel items m) g && b))
    (ap (λ js. rounds_end (bare_setup s) g fuel n js (applied first m)) (bare-passed s fuel items m) ∙ bare-end s g fuel n behind (applied first m))

pub bare-ends : (s : Setup) (bound g : ℕ) → rounds_end (bare_setup s) g (bound + 1) (bound + 1) (opening (bare_setup s)) (opening_memory (bare_setup s)) ≡ rounds_end s g (bound + 1) (bound + 1) (opening s) (opening_memory s)
bare-ends s bound g =
    ap (λ m. rounds_end (bare_setup s) g (bound + 1) (bound + 1) (opening (bare_setup s)) m) (bare-memory s)
    ∙ ap (λ items. rounds_end (bare_setup s) g (bound + 1) (bound + 1) items (opening_memory s)) (bare-openings s)
    ∙ bare-end s g (bound + 1) (bound + 1) (opening s) (opening_memory s)

pub bare-result : (s : Setup) (bound : ℕ) → result_by_rounds (bare_setup s) bound ≡ result_by_rounds s bound
unfolding group_count
bare-result s bound = bare-result-of s bound (group_count s)
