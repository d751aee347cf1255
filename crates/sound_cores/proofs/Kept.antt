-- What a sound core keeps.
use Rattle.std.proofs.Common.{◌≡◌, ℕ, [], true, ◌&&◌, arith, refl, ap, sym, ◌∙◌, subst}
use Rattle.std.specs.Prelude.{Option, Some, None}
use Rattle.std.proofs.lemmas.Bool.{and_parts}
use Rattle.semantics.specs.Launch.{Kernel}
use Rattle.semantics.specs.Setup.{Setup}
use Rattle.arrivals.specs.Loops.{unmet}
use Rattle.arrivals.specs.Points.{AreFormed, IsNumbered, points}
use Rattle.arrivals.specs.Shown.{IsSound}
use Rattle.lanes.specs.Lowering.{IsOrderly}
use Rattle.lanes.specs.Order.{AllNumbered}
use Rattle.work_item.specs.Proper.{is_proper}
use Rattle.sound_cores.specs.Declarations.{declared_by, AllWithin}
use Rattle.sound_cores.specs.Told.{AreTold}
use Rattle.sound_cores.specs.Sound.{all_numbered, is_some, are_placed, are_within, is_sound}
use Rattle.sound_cores.proofs.Exits.{all-placed}
use Rattle.sound_cores.proofs.Forming.{told-formed}
use Rattle.sound_cores.proofs.Ordering.{all-numbered-in}
use Rattle.sound_cores.proofs.Pointing.{points-numbered}
use Rattle.sound_cores.proofs.Rising.{all-numbered-rises}
use Rattle.sound_cores.proofs.Slots.{all-slots}
use Rattle.sound_cores.proofs.Within.{all-within}

some-number : (o : Option ℕ) → is_some o ≡ true → (n : ℕ) × (o ≡ Some n)
some-number None h = absurd cc
some-number (Some n) h = (n, refl)

-- what is tested, one by one
record Parts (k : Kernel) : Type 0 where
  proper : is_proper k ≡ true
  high : ℕ
  numbered : all_numbered 0 k.body ≡ Some high
  placed : are_placed None k.body ≡ true
  within : are_within (declared_by k) k.body ≡ true

parts : (k : Kernel) → is_sound k ≡ true → Parts k
parts k h =
    let p = and_parts (is_proper k) (is_some (all_numbered 0 k.body) && (are_placed None k.body && are_within (declared_by k) k.body)) h in
    let q = and_parts (is_some (all_numbered 0 k.body)) (are_placed None k.body && are_within (declared_by k) k.body) p.1 in
    let r = and_parts (are_placed None k.body) (are_within (declared_by k) k.body) q.1 in
    let n = some-number (all_numbered 0 k.body) q.0 in
    record { proper = p.0; high = n.0; numbered = n.1; placed = r.0; within = r.1 }

pub sound-proper : (k : Kernel) → is_sound k ≡ true → is_proper k ≡ true
sound-proper k h = (parts k h).proper

pub sound-told : (k : Kernel) → is_sound k ≡ true → AreTold k.body
sound-told k h =
    let p = parts k h in
    record { once = (all-numbered-rises 0 p.high k.body p.numbered).once; placed = all-placed None k.body p.placed }

pub sound-rises : (k : Kernel) → is_sound k ≡ true → (low : ℕ) × (high : ℕ) × AllNumbered [] low high k.body
sound-rises k h = let p = parts k h in (0, p.high, all-numbered-in [] 0 0 p.high p.high k.body (omega arith, omega arith) p.numbered p.placed)

pub sound-within : (k : Kernel) → is_sound k ≡ true → AllWithin (declared_by k) k.body
sound-within k h = all-within (declared_by k) k.body (parts k h).within

pub sound-formed : (k : Kernel) → is_sound k ≡ true → AreFormed k.body × IsNumbered (points k.body [])
sound-formed k h = let t = sound-told k h in (told-formed k.body t, points-numbered k.body [] t.once)

pub sound-setup : (k : Kernel) (s : Setup) → is_sound k ≡ true → s.kernel ≡ k → unmet k.body ≡ None → IsSound s
sound-setup k s h e m =
    let f = sound-formed k h in
    let b : s.kernel.body ≡ k.body = ap (λ (c : Kernel). c.body) e in
    record { formed = subst AreFormed (sym b) f.0; numbered = subst (λ ss. IsNumbered (points ss [])) (sym b) f.1; met = ap unmet b ∙ m }

pub sound-orderly : (k : Kernel) → is_sound k ≡ true → IsOrderly k
sound-orderly k h = let r = sound-rises k h in record { low = r.0; high = r.1; numbered = r.2; within = all-slots (declared_by k) k.body (sound-within k h) }
