-- Which obligation a refusal names.
use Rattle.std.proofs.Common.{◌≡◌, ℕ, zero, suc, ◌+◌, ◌<◌, ◌≤◌, Bool, true, false, ◌&&◌, List, length, get_or, refl, sym, subst, ◌∙◌, inr, arith}
use Rattle.std.specs.Prelude.{Option, Some, Result, Ok, Err, IfOk, IfErr, IsTrue}
use Rattle.std.proofs.lemmas.List.{get_or_default}
use Rattle.linear.specs.Products.{IsImpossibleWithProducts}
use Rattle.certificate_text.specs.Certificate.{Entry}
use Rattle.linear.specs.Forms.{forms}
use Rattle.linear.specs.declared.form.Form.{Form}
use Rattle.facts.specs.declared.error.WalkError.{WalkError}
use Rattle.facts.specs.declared.error.WalkError.TheVariants as walks
use Rattle.walk_trees.specs.Trees.{Obligation}
use Rattle.walk_trees.specs.Shown.{IsShownWithProducts, IsRefutedWithProducts}
use Rattle.entry_check.specs.Entries.{Said, manner_of, facts_for}
use Rattle.two_thread.specs.Listed.{nth_fits}
use Rattle.two_thread.specs.Refusals.{DoNotFit}
use Rattle.entry_check.specs.Lacking.{AllPass, HasUnfit, IsLacking, IsNumbered, IsStopped, Passes, TellsBy, WalkTells, Lacks}
use Rattle.entry_check.specs.declared.error.ShowError.{ShowError}
use Rattle.entry_check.specs.declared.error.ShowError.TheVariants as errors

pub and_false : (a b : Bool) → b ≡ false → (a && b) ≡ false
and_false true b e = e
and_false false b e = refl

-- facts that are impossible show an obligation, in the manner that they are of
pub shown_by : (o : Obligation) (e : Entry) (xs : List Form) (b : Bool) → Some (forms xs) ≡ facts_for e.sort o → (IsTrue b → IsImpossibleWithProducts (forms xs)) → IsTrue b → IsShownWithProducts o
shown_by o e xs b f g h = λ needed. inr (manner_of e.sort, subst IsRefutedWithProducts f (g h))

-- of the obligations of a list, where those before pass
module _ (s : Said) (es : List Entry) (fits : List Bool) (os : List Obligation) (d : Obligation) where
  abbrev PassTo : ℕ → Type 0
  PassTo i = (k : ℕ) → k < i → Passes s es (nth_fits fits (k + 1)) (k + 1) (get_or os k d)

  passes_at : (m : ℕ) (o : Obligation) (x : IsNumbered 0 os m o) → Passes s es (nth_fits fits (x.0 + 1)) (x.0 + 1) (get_or os x.0 d) → Passes s es (nth_fits fits m) m o
  passes_at m o (i, e, l, r) p =
      let k : i + 1 ≡ m = omega (arith, e) in
      subst (λ n. Passes s es (nth_fits fits n) n o) k (subst (Passes s es (nth_fits fits (i + 1)) (i + 1)) (get_or_default os i d o l ∙ sym r) p)

  pub all_passed : (i : ℕ) → length os ≤ i → PassTo i → AllPass s es fits 0 os
  all_passed i h p m o x = passes_at m o x (p x.0 (omega (arith, h, x.2)))

  pub first_lacks : (i n : ℕ) → i < length os → PassTo i → IsStopped s es (nth_fits fits (i + 1)) (i + 1) (get_or os i d) n → Lacks s es fits os n
  first_lacks i zero h p x = absurd (omega (arith, x.0))
  first_lacks i (suc n) h p x =
      let e : suc n ≡ i + 1 = x.0 in
      let own = subst (λ k. IsLacking s es (nth_fits fits k) (suc n) (get_or os i d)) (sym e) x.1 in
      (get_or os i d, (i, omega (arith, e), h, get_or_default os i d (get_or os i d) h), own, λ m o l y. passes_at m o y (p y.0 (omega (arith, l, y.1, e))))

  pub first_unfit : (i : ℕ) → i < length os → PassTo i → (e : WalkError) → DoNotFit (nth_fits fits (i + 1)) e → WalkTells ⊥ (HasUnfit s es fits 0 os) e
  first_unfit i h p walks.TooMany u = u
  first_unfit i h p walks.TooLarge u = (i + 1, get_or os i d, (i, omega arith, h, get_or_default os i d (get_or os i d) h), u, λ m o l y. passes_at m o y (p y.0 (omega (arith, l, y.1))))
  first_unfit i h p walks.Memory u = tt

-- an error says what follows of what it says
pub named : (s t : ℕ → Type 0) (many many' : Option ℕ → Type 0) (walk walk' : WalkError → Type 0) (e : ShowError) → ((n : ℕ) → s n → t n) → ((m : Option ℕ) → many m → many' m) → ((w : WalkError) → walk w → walk' w) → TellsBy s many walk e → TellsBy t many' walk' e
named s t many many' walk walk' (errors.NotShown n) f p g h = f n h
named s t many many' walk walk' (errors.ManyPaths m) f p g h = p m h
named s t many many' walk walk' (errors.Walk e) f p g h = g e h
named s t many many' walk walk' errors.OverBudget f p g h = h
named s t many many' walk walk' errors.Memory f p g h = h

pub mapped : {T E : Type 0} (r : Result T E) (P Q : E → Type 0) → ((e : E) → P e → Q e) → IfErr r P → IfErr r Q
mapped (Ok t) P Q f h = tt
mapped (Err e) P Q f h = f e h

pub ok_mapped : {T E : Type 0} (r : Result T E) (P Q : T → Type 0) → ((t : T) → P t → Q t) → IfOk r P → IfOk r Q
ok_mapped (Ok t) P Q f h = f t h
ok_mapped (Err e) P Q f h = tt
