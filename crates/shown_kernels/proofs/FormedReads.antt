-- What is read of bytes is ordered and told apart, and names what it declares.
use Rattle.std.proofs.Common.{◌≡◌, ℕ, ◌+◌, List, [], ap, sym, ◌∙◌, subst, inl, inr}
use Rattle.std.specs.Prelude.{Ok, None}
use Rattle.semantics.specs.Launch as launch
use Rattle.semantics.specs.Setup.{Setup}
use Rattle.arrivals.specs.Loops.{unmet}
use Rattle.arrivals.specs.Points.{AreFormed, IsNumbered, points}
use Rattle.arrivals.specs.Shown.{IsSound}
use Rattle.texts.specs.KernelLimits.{statements_of}
use Rattle.reading.proofs.Grammatical.{read-sound, read-tree}
use Rattle.kernel_reading.specs.Kernels.{Kernel, Source, as_plain, read}
use Rattle.kernel_reading.proofs.KernelReads.{read-either}
use Rattle.opencl_reading.proofs.Sound.{written-rises, written-told, written-within}
use Rattle.sound_cores.specs.Declarations.{declared_by, AllWithin}
use Rattle.lanes.specs.Lowering.{IsOrderly}
use Rattle.lanes.specs.Order.{AllNumbered}
use Rattle.sound_cores.specs.Told.{AreTold}
use Rattle.sound_cores.proofs.Forming.{told-formed}
use Rattle.sound_cores.proofs.Pointing.{points-numbered}
use Rattle.sound_cores.proofs.Slots.{all-slots}
use Rattle.shown_kernels.proofs.Numbering.{elaborated-rises, elaborated-told}
use Rattle.shown_kernels.proofs.Declaring.{elaborated-within}

pub read-rises : (text : Source) (k : Kernel) → read text ≡ Ok k → (low : ℕ) × (high : ℕ) × AllNumbered [] low high k.core.body
read-rises text k h =
    let e = read-either text k h in
    elim e.2 [
      | inl p ↦
          let t = p.0 in
          subst (λ x. (low : ℕ) × (high : ℕ) × AllNumbered [] low high x.core.body) p.2
          (1, 1 + statements_of t.tree.body, elaborated-rises text.reading.devices t.tree t.core (read-tree (as_plain text) t p.1).numbers (read-sound (as_plain text) t p.1).is_typed)
      | inr w ↦ subst (λ x. (low : ℕ) × (high : ℕ) × AllNumbered [] low high x.core.body) w.4 (written-rises text.reading.devices e.0 text.bytes w.0 w.3)
    ]

pub read-told : (text : Source) (k : Kernel) → read text ≡ Ok k → AreTold k.core.body
read-told text k h =
    let e = read-either text k h in
    elim e.2 [
      | inl p ↦
          let t = p.0 in
          subst (λ x. AreTold x.core.body) p.2
          (elaborated-told text.reading.devices t.tree t.core (read-tree (as_plain text) t p.1).numbers (read-sound (as_plain text) t p.1).is_typed)
      | inr w ↦ subst (λ x. AreTold x.core.body) w.4 (written-told text.reading.devices e.0 text.bytes w.0 w.3)
    ]

pub read-formed : (text : Source) (k : Kernel) → read text ≡ Ok k → AreFormed k.core.body × IsNumbered (points k.core.body [])
read-formed text k h = let t = read-told text k h in (told-formed k.core.body t, points-numbered k.core.body [] t.once)

pub read-is_sound : (text : Source) (k : Kernel) (s : Setup) → read text ≡ Ok k → s.kernel ≡ k.core → unmet k.core.body ≡ None → IsSound s
read-is_sound text k s h e m =
    let f = read-formed text k h in
    let b : s.kernel.body ≡ k.core.body = ap (λ (c : launch.Kernel). c.body) e in
    record { formed = subst AreFormed (sym b) f.0; numbered = subst (λ ss. IsNumbered (points ss [])) (sym b) f.1; met = ap unmet b ∙ m }

pub read-within : (text : Source) (k : Kernel) → read text ≡ Ok k → AllWithin (declared_by k.core) k.core.body
read-within text k h =
    let e = read-either text k h in
    elim e.2 [
      | inl p ↦
          let t = p.0 in
          subst (λ x. AllWithin (declared_by x.core) x.core.body) p.2
          (elaborated-within text.reading.devices t.tree t.core (read-sound (as_plain text) t p.1).is_typed)
      | inr w ↦ subst (λ x. AllWithin (declared_by x.core) x.core.body) w.4 (written-within text.reading.devices e.0 text.bytes w.0 w.3)
    ]

pub read-orderly : (s : Source) (k : Kernel) → read s ≡ Ok k → IsOrderly k.core
read-orderly s k h = let r = read-rises s k h in record {
  low = r.0;
  high = r.1;
  numbered = r.2;
  within = all-slots (declared_by k.core) k.core.body (read-within s k h);
}
