-- What the code's kernel, conditions, launch and buffers are in the promise.
use Rattle.kernel_reading.specs.Kernels.{Source}
use Rattle.std.proofs.Common.{◌≡◌, ℕ, List, Bool, [], ◌∷◌, map, refl, ap, sym, ◌∙◌, subst}
use Rattle.std.specs.Prelude.{Vec}
use Rattle.std.specs.declared.alloc.Global.{Global}
use Rattle.semantics.specs.Word.{Width}
use Rattle.semantics.specs.Setup.{at_launch, on_device}
use Rattle.semantics.specs.Launch.{Fits}
use Rattle.semantics.specs.Conditions.{Meets}
use Rattle.semantics.specs.Rounds.{IsDefined}
use Rattle.launch_text.specs.ConditionsReading.{meant}
use Rattle.launch_text.specs.ConditionsText.{IsConditionsText}
use Rattle.launch_text.specs.LaunchSpelling.{IsLaunchText}
use Rattle.launch_text.specs.LaunchReading as given
use Rattle.launch_text.specs.LaunchReading.{number}
use Rattle.launch_text.specs.LaunchText.{buffers_text}
use Rattle.words.specs.View.{word, value_of}
use Rattle.words.specs.declared.word.Word.{Word}
use Rattle.kernel_names.specs.View.{names_seen}
use Rattle.typed_kernels.specs.TypedKernel.{TypedKernel}
use Rattle.core_code.specs.View.{kernel as core_seen}
use Rattle.launch.specs.View.{conditions as conditions_seen, launch as launch_seen, buffer}
use Rattle.launch.specs.declared.conditions.Conditions.{Conditions}
use Rattle.launch.specs.declared.launches.Launch.{Launch}
use Rattle.launch.specs.declared.launches.Buffers.{Buffers}
use Rattle.launch_text.specs.View as view
use Rattle.launch_text.specs.View.{lined}
use Rattle.launch_text.proofs.LeastFits.{conditions_meant, launch_meant}
use Rattle.kernel_reading.specs.Answers.{kernel_seen}
use Rattle.kernel_reading.specs.Texts.{IsTextOf}
use Rattle.cert_check.specs.Accepting.{HasHeadline}
use Rattle.write_log.specs.Written.{words_of}
use Rattle.executor.specs.Ends.{IsResultOf, EndsEvery, HaveKinds}
use Rattle.telling.specs.Telling.{AreSafeTexts, IsRun}

row_seen : (ws : List Word) → map number (map word ws) ≡ map value_of ws
row_seen [] = refl
row_seen (w ∷ ws) = ap (λ xs. value_of w ∷ xs) (row_seen ws)

rows_seen : (bs : List (Vec Word Global)) → map (map number) (map view.words bs) ≡ map buffer bs
rows_seen [] = refl
rows_seen (b ∷ bs) = ap (λ x. x ∷ map (map number) (map view.words bs)) (row_seen b.items) ∙ ap (λ xs. buffer b ∷ xs) (rows_seen bs)

pub is_safe : (is_wide : Bool) (kernel : Source) (conditions : List ℕ) (t : TypedKernel) (c : Conditions) → IsTextOf kernel (kernel_seen t) → IsConditionsText is_wide (names_seen t.0).parameters conditions (meant (lined c)) → HasHeadline (core_seen t.1) (conditions_seen c)
    → AreSafeTexts is_wide kernel conditions (kernel_seen t) (conditions_seen c)
is_safe is_wide kernel conditions t c text said h = record { kernel_text = text; conditions_text = subst (IsConditionsText is_wide (names_seen t.0).parameters conditions) (conditions_meant c) said; headline = h }

pub is_run : (t : TypedKernel) (c : Conditions) (launch written : List ℕ) (l : Launch) (b : Buffers) → IsLaunchText (names_seen t.0).parameters launch (given.meant (view.launch l)) → Fits (core_seen t.1) (launch_seen l)
    → Meets (conditions_seen c) (launch_seen l) → ((w : Width) → IsDefined (on_device w (at_launch (core_seen t.1) (launch_seen l))) c.budget) → ((w : Width) → IsResultOf (on_device w (at_launch (core_seen t.1) (launch_seen l))) c.budget (words_of b))
    → ((w : Width) → EndsEvery (on_device w (at_launch (core_seen t.1) (launch_seen l))) (words_of b)) → HaveKinds (core_seen t.1).buffers (view.buffers b.words) → written ≡ buffers_text (names_seen t.0).parameters (view.buffers b.words) → IsRun (kernel_seen t) (conditions_seen c) launch written (launch_seen l) (view.buffers b.words)
is_run t c launch written l b said fits meets defined result every kinds text =
    let k = core_seen t.1 in
    let n = sym (rows_seen b.words.items) in
    record {
      launch_text = subst (IsLaunchText (names_seen t.0).parameters launch) (launch_meant l) said;
      fits = fits;
      meets = meets;
      defined = defined;
      result = λ w. subst (IsResultOf (on_device w (at_launch k (launch_seen l))) c.budget) n (result w);
      every = λ w. subst (EndsEvery (on_device w (at_launch k (launch_seen l)))) n (every w);
      kinds = kinds;
      text = text;
    }
