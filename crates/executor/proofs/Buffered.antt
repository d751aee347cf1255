-- Buffers with the results of groups.
use Rattle.std.proofs.Common.{◌≡◌, ◌<◌, ℕ, zero, suc, List, ap, sym, ◌∙◌, subst, refl, arith}
use Rattle.std.specs.Prelude.{ℤ}
use Rattle.semantics.specs.Word.{Width}
use Rattle.semantics.specs.Setup.{Setup, group_count, on_device}
use Rattle.semantics.specs.Memory.{opening_memory}
use Rattle.semantics.specs.Headline.{Headline}
use Rattle.semantics.specs.Rounds.{result_by_rounds, logged, group_log, group_stores, result_of}
use Rattle.semantics.proofs.Logs.{applied-log}
use Rattle.write_log.specs.Written.{element}
use Rattle.group_workers.specs.Writing.{Log, in_order, HasLogs}
use Rattle.executor.specs.Ends.{buffer_cell as cell}
use Rattle.executor.specs.Ends.{HasBuffers, IsResultOf, EndsEvery}

-- a number with the logs of the first groups is that of the result of these groups
in-order-result : (s : Setup) (bound buffer index n : ℕ) (z : ℤ) → z ≡ opening_memory s (cell buffer index) → in_order (group_log s bound) buffer index n z ≡ result_of s bound n (cell buffer index)
in-order-result s bound buffer index zero z h = h
in-order-result s bound buffer index (suc n) z h =
    ap (logged (group_log s bound n buffer index)) (in-order-result s bound buffer index n z h)
    ∙ sym (applied-log (group_stores s bound n) (result_of s bound n) (cell buffer index))

-- logs that have the same of each element
in-order-same : (f h : ℕ → Log) (buffer index n : ℕ) (z : ℤ) → ((g : ℕ) → g < n → f g buffer index ≡ h g buffer index) → in_order f buffer index n z ≡ in_order h buffer index n z
in-order-same f h buffer index zero z e = refl
in-order-same f h buffer index (suc n) z e =
    ap (λ o. logged o (in_order f buffer index n z)) (e n (omega arith))
    ∙ ap (logged (h n buffer index)) (in-order-same f h buffer index n z (λ g l. e g (omega (arith, l))))

pub same-logs : (f h : ℕ → Log) (n : ℕ) (old new : List (List ℤ)) → ((g buffer index : ℕ) → g < n → f g buffer index ≡ h g buffer index) → HasLogs f n old new → HasLogs h n old new
same-logs f h n old new e k = record {
  lengths = k.lengths;
  elements = λ buffer index l. k.elements buffer index l ∙ in-order-same f h buffer index n (element old buffer index) (λ g m. e g buffer index m);
}

-- the launch's buffers with the logs of all groups
pub all-written : (s : Setup) (bound : ℕ) (old new : List (List ℤ)) → old ≡ s.launch.buffers → HasLogs (group_log s bound) (group_count s) old new → IsResultOf s bound new
all-written s bound old new e h =
    let k = subst (λ b. HasLogs (group_log s bound) (group_count s) b new) e h in
    record {
      lengths = k.lengths;
      elements = λ buffer index l. k.elements buffer index l ∙ in-order-result s bound buffer index (group_count s) (element s.launch.buffers buffer index) refl;
    }

-- a run that is over ends with the result
pub every-end : (s : Setup) (bound : ℕ) (b : List (List ℤ)) → Headline s bound → IsResultOf s bound b → EndsEvery s b
every-end s bound b h r = λ es w ran over. subst (λ m. HasBuffers s m b) (sym ((h es w ran).ends_with_the_result over)) r

-- the result on another device, where that is the same memory
pub same-on-device : (w : Width) (s : Setup) (bound : ℕ) (b : List (List ℤ)) → result_by_rounds (on_device w s) bound ≡ result_by_rounds s bound → IsResultOf s bound b → IsResultOf (on_device w s) bound b
same-on-device w s bound b e r =
    let k = subst (λ m. HasBuffers s m b) (sym e) r in
    record { lengths = k.lengths; elements = k.elements }
