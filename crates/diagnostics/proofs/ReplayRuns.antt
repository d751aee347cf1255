-- Runs with one event more.
use Rattle.std.proofs.Common.{◌≡◌, ◌<◌, ◌+◌, ℕ, List, [], ◌∷◌, ◌++◌, length, map, take, true, false, ap, sym, ◌∙◌}
use Rattle.std.specs.Prelude.{Some, None, slice_index_or}
use Rattle.semantics.specs.Setup.{Setup}
use Rattle.semantics.specs.World.{World, Event, happens, run, then_run}
use Rattle.std.proofs.lemmas.List.{take_more, map-append}
use Rattle.machine.specs.Worlds.{Answers, event}
use Rattle.machine.specs.declared.world.Applied.{Applied}
use Rattle.machine.specs.declared.world.Applied.TheVariants as answers
use Rattle.machine.specs.declared.world.Event as code
use Rattle.diagnostics.specs.Possible.{was_possible}
use Rattle.semantics.proofs.Runs.{run-append}

pub run_more : (s : Setup) (es : List Event) (e : Event) (w u v : World) → run s es w ≡ Some u → happens s u e ≡ Some v → run s (es ++ e ∷ []) w ≡ Some v
run_more s es e w u v h k = run-append s es (e ∷ []) w ∙ ap (λ o. then_run o (run s (e ∷ []))) h ∙ ap (λ o. then_run o (run s [])) k

pub happened : (s : Setup) (e : Event) (old new : World) (a : Applied) → was_possible a ≡ true → Answers s e old new a → happens s old e ≡ Some new
happened s e old new answers.Done p h = h.0
happened s e old new answers.NotPossible p h = cc
happened s e old new (answers.Faulted f at) p h = h.0

pub not_possible : (s : Setup) (e : Event) (old new : World) (a : Applied) → was_possible a ≡ false → Answers s e old new a → (happens s old e ≡ None) × (new ≡ old)
not_possible s e old new answers.Done p h = cc
not_possible s e old new answers.NotPossible p h = h
not_possible s e old new (answers.Faulted f at) p h = cc

pub taken : (events : List code.Event) (i : ℕ) (e : code.Event) → i < length events → e ≡ slice_index_or events i e → map event (take (i + 1) events) ≡ map event (take i events) ++ event e ∷ []
taken events i e l h = ap (map event) (take_more events i e l) ∙ map-append event (take i events) (slice_index_or events i e ∷ []) ∙ ap (λ x. map event (take i events) ++ event x ∷ []) (sym h)
