-- The tests of data races and barrier divergence decide them.
use Rattle.std.proofs.Common.{◌≡◌, ℕ, Bool, true, refl}
use Rattle.std.specs.Bool.{Decides}
use Rattle.std.proofs.lemmas.Bool.Decides.{Decides-eqb, Decides-not, Decides-and, Decides-or, Decides-like}
use Rattle.std.proofs.lemmas.Slice.Eq.{bytes_eq-Decides}
use Rattle.semantics.specs.Setup.{Setup, group_of}
use Rattle.semantics.specs.Memory.{same_cell}
use Rattle.semantics.specs.Item.{Status, Running, Waiting, Ended, Stopped, has_ended, trail}
use Rattle.semantics.specs.Solo.{Access}
use Rattle.semantics.specs.World.{World, waits}
use Rattle.semantics.specs.Safety.{Clash, Divergent}
use Rattle.semantics.specs.Tests.{clashes, diverges}
use Rattle.semantics.proofs.Updates.{same_cell-is, same_cell-refl}

true-Decides : (b : Bool) → Decides b (b ≡ true)
true-Decides b = (λ h. h, λ h. h)

cell-Decides : (a b : Access) → Decides (same_cell a.at b.at) (a.at ≡ b.at)
cell-Decides a b = (same_cell-is a.at b.at, λ e. rw e (same_cell-refl b.at))

pub clashes-Decides : (s : Setup) (a b : Access) → Decides (clashes s a b) (Clash s a b)
clashes-Decides s a b =
    Decides-like (clashes s a b)
    (λ p. record { items = p.0.0.0; element = p.0.0.1; stored = p.0.1; unordered = p.1 })
    (λ (c : Clash s a b). (((c.items, c.element), c.stored), c.unordered))
    (Decides-and _ _ (Decides-and _ _ (Decides-and _ _ (Decides-not _ (Decides-eqb a.item b.item)) (cell-Decides a b))
    (Decides-or _ _ (true-Decides a.is_store) (true-Decides b.is_store)))
    (Decides-or _ _ (Decides-not _ (Decides-eqb (group_of s a.item) (group_of s b.item))) (Decides-eqb a.epoch b.epoch)))

waits-Decides : (st : Status) → Decides (waits st) (st ≡ Waiting)
waits-Decides Running = (λ h. cc, λ h. cc)
waits-Decides Waiting = (λ h. refl, λ h. refl)
waits-Decides Ended = (λ h. cc, λ h. cc)
waits-Decides (Stopped f site) = (λ h. cc, λ h. cc)

ended-Decides : (st : Status) → Decides (has_ended st) (st ≡ Ended)
ended-Decides Running = (λ h. cc, λ h. cc)
ended-Decides Waiting = (λ h. cc, λ h. cc)
ended-Decides Ended = (λ h. refl, λ h. refl)
ended-Decides (Stopped f site) = (λ h. cc, λ h. cc)

pub diverges-Decides : (s : Setup) (w : World) (i j : ℕ) → Decides (diverges s w i j) (Divergent s w i j)
diverges-Decides s w i j =
    Decides-like (diverges s w i j)
    (λ p. record { group = p.0.0; waits = p.0.1; apart = p.1 })
    (λ (d : Divergent s w i j). ((d.group, d.waits), d.apart))
    (Decides-and _ _ (Decides-and _ _ (Decides-eqb (group_of s i) (group_of s j)) (waits-Decides (w.items i).status))
    (Decides-or _ _ (ended-Decides (w.items j).status)
    (Decides-and _ _ (waits-Decides (w.items j).status) (Decides-not _ (bytes_eq-Decides (trail (w.items i).left) (trail (w.items j).left))))))
