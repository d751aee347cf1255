-- What is safe and met is a safe launch.
use Rattle.std.proofs.Common.{◌≡◌, ℕ, List, true, Result, Ok, Err, refl, ap, sym, ◌∙◌, subst}
use Rattle.types.specs.Scope.{Devices}
use Rattle.kernel_reading.specs.Kernels.{Kernel}
use Rattle.launch_text.specs.ConditionsReading.{Lined, conditions_of, meant}
use Rattle.cert_check.specs.Accepting.{HasHeadline}
use Rattle.host_launches.specs.declared.given.Argument.{Argument}
use Rattle.host_launches.specs.declared.given.Range.{Range}
use Rattle.host_launches.specs.declared.shapes.Shape.{Shape}
use Rattle.host_answers.specs.Answers.{AreRead, AreSafe}
use Rattle.host_answers.specs.Meeting.{IsMet, AreMet, AreSafeLaunches}

same_back : {A E : Type 0} (r : Result A E) (a b : A) → r ≡ Ok a → r ≡ Ok b → a ≡ b
same_back r a b p q = let s : Ok a ≡ Ok b = sym p ∙ q in cc

of_both : (d : Devices) (kernel conditions : List ℕ) (r : Range) (gs : List Argument) (k j : Kernel) (c e : Lined) (ss : List Shape)
    → AreRead d kernel conditions k c → HasHeadline k.core (meant c) → IsMet d kernel conditions r gs j e ss → AreSafeLaunches d kernel conditions r gs
of_both d kernel conditions r gs k j c e ss one h two =
    let kernels : k ≡ j = same_back _ k j one.of_kernel two.are_read.of_kernel in
    let first : conditions_of true j.names.parameters conditions ≡ Ok c = subst (λ (x : Kernel). conditions_of true x.names.parameters conditions ≡ Ok c) kernels one.of_conditions in
    let lines : c ≡ e = same_back _ c e first two.are_read.of_conditions in
    let headline : HasHeadline j.core (meant e) = subst (λ (x : Lined). HasHeadline j.core (meant x)) lines (subst (λ (x : Kernel). HasHeadline x.core (meant c)) kernels h) in
    (j, e, ss, record { is_met = two; headline = λ w l of held. headline w l (two.all_meet l of held).0 (two.all_meet l of held).1 })

pub safe_launches : (d : Devices) (kernel conditions : List ℕ) (r : Range) (gs : List Argument) → AreSafe d kernel conditions → AreMet d kernel conditions r gs → AreSafeLaunches d kernel conditions r gs
safe_launches d kernel conditions r gs (k, c, one, safe) (j, e, ss, two) = of_both d kernel conditions r gs k j c e ss one safe.headline two
