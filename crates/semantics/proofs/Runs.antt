-- Runs one after another.
use Rattle.std.proofs.Common.{◌≡◌, List, [], ◌∷◌, ◌++◌, Option, Some, None, refl, sym, ◌∙◌}
use Rattle.semantics.specs.Setup.{Setup}
use Rattle.semantics.specs.World.{World, Event, happens, then_run, run}

then_run_twice : (o : Option World) (f g : World → Option World) → then_run (then_run o f) g ≡ then_run o (λ w. then_run (f w) g)
then_run_twice None f g = refl
then_run_twice (Some w) f g = refl

pub run-append : (s : Setup) (es fs : List Event) (w : World) → run s (es ++ fs) w ≡ then_run (run s es w) (run s fs)
run-append s [] fs w = refl
run-append s (e ∷ es) fs w = go (happens s w e) (λ v. run-append s es fs v)
  where
    go : (o : Option World) → ((v : World) → run s (es ++ fs) v ≡ then_run (run s es v) (run s fs)) → then_run o (run s (es ++ fs)) ≡ then_run (then_run o (run s es)) (run s fs)
    go None h = refl
    go (Some v) h = h v

prefix_of : (o : Option World) (go : World → Option World) (v : World) → then_run o go ≡ Some v → (u : World) × (o ≡ Some u) × (go u ≡ Some v)
prefix_of None go v h = cc
prefix_of (Some u) go v h = (u, refl, h)

pub run-prefix : (s : Setup) (es fs : List Event) (w v : World) → run s (es ++ fs) w ≡ Some v → (u : World) × (run s es w ≡ Some u) × (run s fs u ≡ Some v)
run-prefix s es fs w v h = prefix_of (run s es w) (run s fs) v (sym (run-append s es fs w) ∙ h)
