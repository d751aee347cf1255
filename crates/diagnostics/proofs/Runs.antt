-- Runs with one event more, as the code has them, and what they confirm.
use Rattle.std.proofs.Common.{◌≡◌, List, [], ◌∷◌, ◌++◌, map, true, false, ap, sym, ◌∙◌, subst}
use Rattle.std.specs.Prelude.{Some}
use Rattle.std.proofs.lemmas.List.{map-append}
use Rattle.semantics.specs.Setup.{Setup}
use Rattle.semantics.specs.World as meaning
use Rattle.semantics.specs.World.{run, opening_world}
use Rattle.machine.specs.Worlds.{setup, world, event, IsSound, Answers}
use Rattle.machine.specs.declared.world.World.{World}
use Rattle.machine.specs.declared.world.Event.{Event}
use Rattle.machine.specs.declared.world.Applied.{Applied}
use Rattle.kernel_names.specs.NameMap.{NameMap}
use Rattle.diagnostics.specs.Possible.{was_possible}
use Rattle.diagnostics.proofs.ReplayRuns.{run_more, happened, not_possible}
use Rattle.diagnostics.specs.Confirming.{IsConfirmed}
use Rattle.diagnostics.specs.Replays.{IsAfter, finding_of}
use Rattle.findings.specs.Visits.{IsSighting}
use Rattle.findings.specs.declared.sighting.Sighting.{Sighting}
use Rattle.findings.specs.declared.sighting.Sighting.TheVariants as variants

pub one_more : (w u : World) (events : List Event) (e : Event) (a : Applied) → IsAfter w events → IsSound u → setup u ≡ setup w → was_possible a ≡ true → Answers (setup w) (event e) (world w) (world u) a → IsAfter u (events ++ e ∷ [])
one_more w u events e a h sound same p answer =
    let s = setup w in
    record {
      sound = sound;
      run = subst (λ t. run t (map event (events ++ e ∷ [])) (opening_world t) ≡ Some (world u)) (sym same) (
          ap (λ es. run s es (opening_world s)) (map-append event events (e ∷ []))
          ∙ run_more s (map event events) (event e) (opening_world s) (world w) (world u) h.run (happened s (event e) (world w) (world u) a p answer));
    }

pub none_more : (w u : World) (events : List Event) (e : Event) (a : Applied) → IsAfter w events → IsSound u → setup u ≡ setup w → was_possible a ≡ false → Answers (setup w) (event e) (world w) (world u) a → IsAfter u events
none_more w u events e a h sound same p answer =
    let s = setup w in
    record {
      sound = sound;
      run = subst (λ t. run t (map event events) (opening_world t) ≡ Some (world u)) (sym same) (
          h.run ∙ ap Some (sym (not_possible s (event e) (world w) (world u) a p answer).1));
    }

pub confirms : (s : Setup) (k : NameMap) (w : meaning.World) (x : Sighting) (events : List Event) → run s (map event events) (opening_world s) ≡ Some w → IsSighting s k w x → IsConfirmed s k (finding_of x events)
confirms s k w (variants.Fault f v) events h seen = (w, h, seen)
confirms s k w (variants.Size v) events h seen = (w, h, seen)
confirms s k w (variants.Race v u) events h seen = (w, h, seen)
confirms s k w (variants.Divergence v u) events h seen = (w, h, seen)
