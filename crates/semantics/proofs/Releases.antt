-- A group goes past its barrier together, or not at all.
use Rattle.std.proofs.Common.{◌≡◌, ℕ, ◌<◌, true, ◌&&◌, Some, refl, lt-ltb}
use Rattle.std.specs.Prelude.{nat_lt}
use Rattle.std.proofs.lemmas.Slice.Eq.{bytes_eq-Decides}
use Rattle.semantics.specs.Setup.{Setup, group_size, group_count, member}
use Rattle.semantics.specs.Item.{Item, Status, Running, Waiting, Ended, Stopped, trail}
use Rattle.semantics.specs.World.{World, Release, happens, may_go, released, waits}
use Rattle.semantics.proofs.Events.{guarded-is}
use Rattle.semantics.proofs.Groups.{both-true, every-at, every-by}

-- an item waits, with what is left of another
abbrev pub WaitsLike : Item → Item → Type 0
WaitsLike it first = (it.status ≡ Waiting) × (trail it.left ≡ trail first.left)

waits-is : (st : Status) → waits st ≡ true → st ≡ Waiting
waits-is Running h = cc
waits-is Waiting h = refl
waits-is Ended h = cc
waits-is (Stopped f site) h = cc

pub may_go-at : (s : Setup) (items : ℕ → Item) (g k : ℕ) → may_go s items g ≡ true → k < group_size s → WaitsLike (items (member s g k)) (items (member s g 0))
unfolding may_go
may_go-at s items g k h lt =
    let t = both-true _ _ (every-at (group_size s) _ k h lt) in
    (waits-is _ t.0, (bytes_eq-Decides _ _).0 t.1)

may_go-by : (s : Setup) (items : ℕ → Item) (g : ℕ) → ((k : ℕ) → k < group_size s → WaitsLike (items (member s g k)) (items (member s g 0))) → may_go s items g ≡ true
unfolding may_go
may_go-by s items g h = every-by (group_size s) _ (λ k lt. rw ((h k lt).0, (bytes_eq-Decides _ _).1 (h k lt).1) refl)

pub released-together : (s : Setup) (w v : World) (g k : ℕ) → happens s w (Release g) ≡ Some v → k < group_size s → WaitsLike (w.items (member s g k)) (w.items (member s g 0))
unfolding happens
released-together s w v g k h lt =
    may_go-at s w.items g k (both-true _ _ (guarded-is (nat_lt g (group_count s) && may_go s w.items g) (Some (released s g w)) v h).0).1 lt

pub release-possible : (s : Setup) (w : World) (g : ℕ) → g < group_count s → ((k : ℕ) → k < group_size s → WaitsLike (w.items (member s g k)) (w.items (member s g 0))) → (v : World) × (happens s w (Release g) ≡ Some v)
unfolding happens
release-possible s w g lt h = (released s g w, rw (lt-ltb g (group_count s) lt, may_go-by s w.items g h) refl)
