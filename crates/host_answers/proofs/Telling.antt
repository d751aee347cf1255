-- What the code has read and answers, in the promises.
use Rattle.std.proofs.Common.{◌≡◌, ◌≢◌, ◌⊎◌, ℕ, List, [], map, Bool, true, false, Option, Some, None, Result, Ok, Err, IsOk, refl, ap, sym, ◌∙◌, subst, inl, inr}
use Rattle.std.specs.Prelude.{Vec, IfErr}
use Rattle.std.specs.declared.alloc.Global.{Global}
use Rattle.semantics.specs.Launch as launch
use Rattle.core_code.specs.View.{kernel as core_seen}
use Rattle.kernel_names.specs.View.{names_seen}
use Rattle.types.specs.Scope.{Devices}
use Rattle.kernel_reading.specs.Answers.{kernel_seen}
use Rattle.kernel_reading.specs.Kernels.{Kernel, read}
use Rattle.kernel_reading.specs.Texts.{IsTextOf}
use Rattle.launch.specs.View.{conditions as conditions_seen}
use Rattle.launch.specs.declared.conditions.Conditions.{Conditions}
use Rattle.launch_text.specs.ConditionsReading.{Lined, conditions_of, meant}
use Rattle.launch_text.specs.ConditionsText.{IsConditionsText}
use Rattle.launch_text.specs.View.{lined}
use Rattle.launch_text.proofs.LeastFits.{conditions_meant}
use Rattle.typed_kernels.specs.TypedKernel.{TypedKernel}
use Rattle.cert_check.specs.Accepting.{HasHeadline}
use Rattle.telling.specs.Telling.{AreSafeTexts}
use Rattle.host_launches.specs.declared.given.Argument.{Argument}
use Rattle.host_launches.specs.declared.given.Range.{Range}
use Rattle.host_launches.specs.declared.given.Refusal.{Refusal}
use Rattle.host_launches.specs.declared.shapes.Shape.{Shape}
use Rattle.host_launches.specs.Launches.{AllMeet}
use Rattle.host_launches.specs.Refusing.{refusal, memory}
use Rattle.host_launches.specs.Telling.{all_told}
use Rattle.host_shapes.specs.Meant.{all_meant}
use Rattle.host_shapes.specs.Shapes.{shapes_of}
use Rattle.host_answers.specs.Options.{source_for}
use Rattle.host_answers.specs.Answers.{AreRead, AreSafe}
use Rattle.host_answers.specs.Meeting.{AreMet, HasNoShapes, IsUnmet, IsTrueUnmet}
use Rattle.host_answers.specs.Readings.{IsReading, Answers, AnswersBy}
use Rattle.host_answers.specs.declared.answer.Answer.{Answer}
use Rattle.host_answers.specs.declared.meeting.Reading.{Reading}

pub safe : (d : Devices) (kernel conditions : List ℕ) (t : TypedKernel) (c : Conditions) → AreRead d kernel conditions (kernel_seen t) (lined c) → IsTextOf (source_for d kernel conditions) (kernel_seen t)
    → IsConditionsText true (names_seen t.0).parameters conditions (meant (lined c)) → HasHeadline (core_seen t.1) (conditions_seen c) → AreSafe d kernel conditions
safe d kernel conditions t c read text said h =
    let headline : HasHeadline (core_seen t.1) (meant (lined c)) = subst (λ x. HasHeadline (core_seen t.1) x) (sym (conditions_meant c)) h in
    (kernel_seen t, lined c, read, record { kernel_text = text; conditions_text = said; headline = headline })

met_by : (d : Devices) (kernel conditions : List ℕ) (r : Range) (gs : List Argument) (is_held : Bool) (t : TypedKernel) (c : Conditions) (o : Option (Vec Shape Global)) (answer : Result (Unit {0}) Refusal)
    → AreRead d kernel conditions (kernel_seen t) (lined c) → all_meant o ≡ shapes_of (source_for d kernel conditions) → AnswersBy (core_seen t.1) c r gs is_held o answer → IsOk answer → AreMet d kernel conditions r gs
met_by d kernel conditions r gs is_held t c None (Ok u) read shapes a ok = absurd (let p : Ok u ≡ Err (refusal 41 0) = a in cc)
met_by d kernel conditions r gs is_held t c None (Err e) read shapes a ok = absurd (let p : false ≡ true = ok in cc)
met_by d kernel conditions r gs is_held t c (Some ss) answer read shapes a ok =
    let all : AllMeet (core_seen t.1) ss.items (meant (lined c)) r gs = subst (λ x. AllMeet (core_seen t.1) ss.items x r gs) (sym (conditions_meant c)) (a.met ok) in
    (kernel_seen t, lined c, ss.items, record { are_read = read; are_shapes = sym shapes; suits = a.suits ok; all_meet = all })

pub met : (d : Devices) (kernel conditions : List ℕ) (r : Range) (gs : List Argument) (is_held : Bool) (x : Reading) (answer : Result (Unit {0}) Refusal) → IsReading d kernel conditions x
    → AnswersBy (core_seen x.typed.1) x.conditions r gs is_held x.shapes answer → IsOk answer → AreMet d kernel conditions r gs
met d kernel conditions r gs is_held x answer reading a ok = met_by d kernel conditions r gs is_held x.typed x.conditions x.shapes answer reading.are_read reading.shapes a ok

-- the answer has the refusal's numbers
pub record IsOfRefusal (e : Refusal) (a : Answer) : Type 0 where
  pub number : a.number ≡ e.number
  pub place : a.place ≡ e.place
  pub column : a.column ≡ 0

unmet_by : (d : Devices) (kernel conditions : List ℕ) (r : Range) (gs : List Argument) (is_held : Bool) (t : TypedKernel) (c : Conditions) (o : Option (Vec Shape Global)) (e : Refusal) (a : Answer)
    → AreRead d kernel conditions (kernel_seen t) (lined c) → all_meant o ≡ shapes_of (source_for d kernel conditions) → AnswersBy (core_seen t.1) c r gs is_held o (Err e) → IsOfRefusal e a → IsTrueUnmet d kernel conditions r gs is_held a
unmet_by d kernel conditions r gs is_held t c None e a read shapes h of =
    let same : e ≡ refusal 41 0 = (let p : Err e ≡ Err (refusal 41 0) = h in cc) in
    inr (inl (record { are_none = sym shapes; number = of.number ∙ ap (λ x. x.number) same; place = of.place ∙ ap (λ x. x.place) same }))
unmet_by d kernel conditions r gs is_held t c (Some ss) e a read shapes h of = inr (inr (by h.told))
  where
    same : refusal a.number a.place ≡ e
    same = ap (λ n. refusal n a.place) of.number ∙ ap (λ n. refusal e.number n) of.place

    by : (e ≡ memory) ⊎ (all_told (core_seen t.1) ss.items c r gs is_held ≡ Err e) → (a.number ≡ 90) ⊎ ((k : Kernel) × (c : Conditions) × (ss : List Shape) × IsUnmet d kernel conditions r gs is_held a k c ss)
    by (inl m) = inl (of.number ∙ ap (λ x. x.number) m)
    by (inr told) = inr (kernel_seen t, c, ss.items, record { are_read = read; are_shapes = sym shapes; told = told ∙ sym (ap (λ x. Err x) same); column = of.column })

pub unmet : (d : Devices) (kernel conditions : List ℕ) (r : Range) (gs : List Argument) (is_held : Bool) (x : Reading) (e : Refusal) (a : Answer) → IsReading d kernel conditions x
    → AnswersBy (core_seen x.typed.1) x.conditions r gs is_held x.shapes (Err e) → IsOfRefusal e a → IsTrueUnmet d kernel conditions r gs is_held a
unmet d kernel conditions r gs is_held x e a reading h of = unmet_by d kernel conditions r gs is_held x.typed x.conditions x.shapes e a reading.are_read reading.shapes h of

-- a refusal of a launch has a number
pub refused_numbered : (k : launch.Kernel) (c : Conditions) (r : Range) (gs : List Argument) (is_held : Bool) (o : Option (Vec Shape Global)) (e : Refusal) → AnswersBy k c r gs is_held o (Err e) → e.number ≢ 0
refused_numbered k c r gs is_held None e h = λ zero.
    let same : e ≡ refusal 41 0 = (let p : Err e ≡ Err (refusal 41 0) = h in cc) in
    let p : 41 ≡ 0 = sym (ap (λ x. x.number) same) ∙ zero in
    cc
refused_numbered k c r gs is_held (Some ss) e h = h.numbered
