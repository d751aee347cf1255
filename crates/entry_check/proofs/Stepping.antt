-- One obligation more.
use Rattle.std.proofs.Common.{◌≡◌, ◌<◌, ◌≤◌, ◌⊎◌, ℕ, zero, suc, ◌+◌, ◌-◌, List, [], ◌∷◌, drop, get_or, length, add-one, Bool, true, false, refl, sym, ap, subst, ◌∙◌, arith, inr}
use Rattle.std.specs.Prelude.{Option, None, Some, Result, Ok, Err, IfOk}
use Rattle.std.proofs.lemmas.List.{get_or-drop, length-drop}
use Rattle.certificate_text.specs.Certificate.{Entry}
use Rattle.facts.specs.declared.error.WalkError.{WalkError}
use Rattle.facts.specs.declared.error.WalkError.TheVariants as walks
use Rattle.walk_trees.specs.Trees.{Obligation}
use Rattle.walk_trees.specs.Shown.{IsShownWithProducts}
use Rattle.two_thread.specs.Listed.{no_obligation, nth_fits}
use Rattle.two_thread.specs.Refusals.{DoNotFit}
use Rattle.entry_check.specs.Entries.{Said, entry_of, is_past}
use Rattle.entry_check.specs.Lacking.{HasUnfit, IsStopped, Lacks, Passes, TellsBy, WalkTells}
use Rattle.entry_check.specs.Supplied.{IsReady, ahead}
use Rattle.entry_check.specs.Tallies.{Comes, HasStopped, IsGood, IsNext, IsOn, IsVerdict}
use Rattle.entry_check.specs.declared.error.ShowError.{ShowError}
use Rattle.entry_check.specs.declared.supply.Supply.{Supply}
use Rattle.entry_check.specs.declared.tally.Tally.{Tally}
use Rattle.entry_check.proofs.Alike.{passes_alike, stopped_alike}
use Rattle.entry_check.proofs.OneByOne.{one_more}
use Rattle.entry_check.proofs.Unshown.{first_lacks, first_unfit, named}

module _ {A : Type 0} (xs : List A) (n : ℕ) (x : A) (ys : List A) (e : drop n xs ≡ x ∷ ys) where
  pub next_is : (d : A) → get_or xs n d ≡ x
  next_is d =
      let z : n ≡ n + 0 = omega arith in
      ap (λ k. get_or xs k d) z ∙ sym (get_or-drop n xs 0 d) ∙ ap (λ l. get_or l 0 d) e

  pub next_within : n < length xs
  next_within =
      let a = ap length e in
      let b = length-drop n xs in
      omega (arith, a, b)

  pub next_left : drop (n + 1) xs ≡ ys
  next_left = ap (λ k. drop k xs) (add-one n) ∙ drop_after xs n x ys e
    where
      drop_after : {B : Type 0} (zs : List B) (k : ℕ) (z : B) (ws : List B) → drop k zs ≡ z ∷ ws → drop (suc k) zs ≡ ws
      drop_after zs zero z ws h = ap (drop 1) h
      drop_after [] (suc k) z ws h = absurd cc
      drop_after (y ∷ zs) (suc k) z ws h = drop_after zs k z ws h

module _ (s : Said) (es : List Entry) (os : List Obligation) (fs : List Bool) (n : ℕ) (o : Obligation) (b : Bool) (us : List Obligation) (bs : List Bool) (e : drop n os ≡ o ∷ us) (f : drop n fs ≡ b ∷ bs) where
  own_fit : nth_fits fs (n + 1) ≡ b
  own_fit =
      let k : (n + 1) - 1 ≡ n = omega arith in
      ap (λ m. get_or fs m true) k ∙ next_is fs n b bs f true

  own : get_or os n no_obligation ≡ o
  own = next_is os n o us e no_obligation

  pub goes_on : (x y : Supply) → IsOn s es os fs n x → IsReady y → IsShownWithProducts o → Passes s (ahead y) b (n + 1) o → ((m : ℕ) → n < m → entry_of (ahead y) m ≡ entry_of (ahead x) m) → ((m : ℕ) → n ≤ m → is_past (ahead y) m ≡ is_past (ahead x) m) → IsOn s es os fs (n + 1) y
  goes_on x y on ready shown passes later past =
      let same : entry_of (ahead y) (n + 1) ≡ entry_of es (n + 1) = later (n + 1) (omega arith) ∙ on.later (n + 1) (omega arith) in
      let here : Passes s es b (n + 1) o = passes_alike s b o (ahead y) es (n + 1) same passes in
      let there : Passes s es (nth_fits fs (n + 1)) (n + 1) (get_or os n no_obligation) = subst (λ c. Passes s es c (n + 1) (get_or os n no_obligation)) (sym own_fit) (subst (λ q. Passes s es b (n + 1) q) (sym own) here) in
      record {
        ready = ready;
        good = one_more {P = IsGood s es os fs} n on.good (subst IsShownWithProducts (sym own) shown, there);
        later = λ m h. later m (omega (arith, h)) ∙ on.later m (omega (arith, h));
        past = λ m h. past m (omega (arith, h)) ∙ on.past m (omega (arith, h));
      }

  pub stops_at : (fit : Bool) (x y : Supply) → fit ≡ true → IsOn s es os fs n x → ((m : ℕ) → n < m → entry_of (ahead y) m ≡ entry_of (ahead x) m) → (z : ShowError) → TellsBy (IsStopped s (ahead y) b (n + 1) o) (λ _. ⊥) (DoNotFit b) z → HasStopped s es fit os fs z
  stops_at fit x y holds on later z t =
      let same : entry_of (ahead y) (n + 1) ≡ entry_of es (n + 1) = later (n + 1) (omega arith) ∙ on.later (n + 1) (omega arith) in
      let h : n < length os = next_within os n o us e in
      let pass = λ (k : ℕ) (l : k < n). (on.good k l).1 in
      named (IsStopped s (ahead y) b (n + 1) o) (λ m. (fit ≡ true) × Lacks s es fs os m) (λ _. ⊥) (λ _. ⊥) (DoNotFit b) (WalkTells ⊥ ((fit ≡ false) ⊎ HasUnfit s es fs 0 os)) z
      (λ m u. (holds, first_lacks s es fs os no_obligation n m h pass (subst (λ q. IsStopped s es (nth_fits fs (n + 1)) (n + 1) q m) (sym own) (subst (λ c. IsStopped s es c (n + 1) o m) (sym own_fit) (stopped_alike s b o (ahead y) es (n + 1) m same u)))))
      (λ m u. u)
      (λ w u. unfit w (first_unfit s es fs os no_obligation n h pass w (subst (λ c. DoNotFit c w) (sym own_fit) u))) t
    where
      unfit : (w : WalkError) → WalkTells ⊥ (HasUnfit s es fs 0 os) w → WalkTells ⊥ ((fit ≡ false) ⊎ HasUnfit s es fs 0 os) w
      unfit walks.TooMany u = u
      unfit walks.TooLarge u = inr u
      unfit walks.Memory u = tt

-- of an answer, what both of two clauses say
pub joined : {T E : Type 0} (r : Result T E) (P Q R : Type 0) → (P → Q → R) → IfOk r (λ _. P) → IfOk r (λ _. Q) → IfOk r (λ _. R)
joined (Ok t) P Q R f p q = f p q
joined (Err e) P Q R f p q = tt

-- one more was taken
module _ (s : Said) (es : List Entry) (fit : Bool) (os : List Obligation) (fs : List Bool) (o : Obligation) (b : Bool) (us : List Obligation) (bs : List Bool) (t : Tally) (c : Comes s es fit os fs (o ∷ us) (b ∷ bs) t) where
  pub taken : (m : Tally) → t.count < 65536 → m.count ≡ t.count → IsVerdict s es fit os fs (t.count + 1) m.supply m.stopped → Comes s es fit os fs us bs (record { supply = m.supply; count = m.count + 1; stopped = m.stopped })
  taken m few same verdict =
      let w : t.count < length os = next_within os t.count o us c.obligations in
      record {
        few = omega (arith, few, same);
        within = omega (arith, w, same);
        obligations = ap (λ n. drop (n + 1) os) same ∙ next_left os t.count o us c.obligations;
        own_fits = ap (λ n. drop (n + 1) fs) same ∙ next_left fs t.count b bs c.own_fits;
        verdict = subst (λ n. IsVerdict s es fit os fs (n + 1) m.supply m.stopped) (sym same) verdict;
      }

  pub next_one : IsNext o b t.count os fs
  next_one = (us, bs, c.obligations, c.own_fits)

  pub looks : t.stopped ≡ None → (fit ≡ true) × IsOn s es os fs t.count t.supply
  looks e = subst (λ z. IsVerdict s es fit os fs t.count t.supply z) e c.verdict

-- what the check has stopped at stays
pub stays : (s : Said) (es : List Entry) (fit : Bool) (os : List Obligation) (fs : List Bool) (n m : ℕ) (x y : Supply) (z : Option ShowError) → ((z ≡ None) → ⊥) → IsVerdict s es fit os fs n x z → IsVerdict s es fit os fs m y z
stays s es fit os fs n m x y None h v = absurd (h refl)
stays s es fit os fs n m x y (Some e) h v = v
