-- What two items keep at barriers, said of the lists of their arrivals.
use Rattle.std.proofs.Common.{◌≡◌, ℕ, ◌+◌, ◌<◌, ℤ, List, [], ◌∷◌, ◌++◌, length, get_or, refl, sym, ap, ◌∙◌, ◌≤◌, inl, inr, subst, arith, length-append}
use Rattle.std.proofs.lemmas.Bool.{cases_lt}
use Rattle.std.proofs.lemmas.Grind.{common_steps}
use Rattle.semantics.specs.Setup.{Setup}
use Rattle.semantics.specs.Item.{Status, Running, Waiting, Ended, Stopped, enter, trail}
use Rattle.semantics.specs.Solo.{after, opening, passed, arrived, is_waiting, noted_trail, arrivals}
use Rattle.semantics.specs.Safety.{WaitAlike, EndsLast}
use Rattle.semantics.proofs.Steps.{not_waiting}

length-noted : (st : Status) (t : List ℕ) (ts : List (List ℕ)) → length (noted_trail st t ts) ≡ length ts + is_waiting st
length-noted Running t ts = omega arith
length-noted Waiting t ts = simp length-append refl
length-noted Ended t ts = omega arith
length-noted (Stopped f site) t ts = omega arith

length-arrivals : (s : Setup) (i : ℕ) (ws : List ℤ) → length (arrivals s i ws) ≡ arrived s i ws
unfolding opening
length-arrivals s i [] = omega (arith, not_waiting (enter s.kernel.body []))
length-arrivals s i (z ∷ ws) =
    let e = length-noted (after s i (z ∷ ws)).status (trail (after s i (z ∷ ws)).left) (arrivals s i ws) in
    let r = length-arrivals s i ws in omega (arith, e, r)

record Stood (s : Setup) (i k : ℕ) (t : List ℕ) : Type 0 where
  words : List ℤ
  waits : (after s i words).status ≡ Waiting
  passed_is : passed s i words ≡ k
  trail_is : trail (after s i words).left ≡ t

stood_on : (s : Setup) (i k : ℕ) (z : ℤ) (ws : List ℤ) (st : Status) → (after s i (z ∷ ws)).status ≡ st → (k < length (arrivals s i ws) → Stood s i k (get_or (arrivals s i ws) k [])) → k < length (noted_trail st (trail (after s i (z ∷ ws)).left) (arrivals s i ws)) → Stood s i k (get_or (noted_trail st (trail (after s i (z ∷ ws)).left) (arrivals s i ws)) k [])
stood_on s i k z ws Running e before lt = before lt
stood_on s i k z ws Ended e before lt = before lt
stood_on s i k z ws (Stopped f site) e before lt = before lt
stood_on s i k z ws Waiting e before lt =
    let t = trail (after s i (z ∷ ws)).left in
    elim (cases_lt k (length (arrivals s i ws))) [
      | inl less ↦ subst (Stood s i k) (let q : get_or (arrivals s i ws) k [] ≡ get_or (arrivals s i ws ++ trail (after s i (z ∷ ws)).left ∷ []) k [] = grind (arith, common_steps) in q) (before less)
      | inr more ↦ let n : k ≡ length (arrivals s i ws) = omega (arith, length-noted Waiting (trail (after s i (z ∷ ws)).left) (arrivals s i ws)) in
          record { words = z ∷ ws; waits = e; passed_is = sym (length-arrivals s i ws) ∙ sym n; trail_is = rw n (grind (arith, common_steps)) }
    ]

stood : (s : Setup) (i k : ℕ) (ws : List ℤ) → k < length (arrivals s i ws) → Stood s i k (get_or (arrivals s i ws) k [])
stood s i k [] lt = absurd (omega arith)
stood s i k (z ∷ ws) lt = stood_on s i k z ws (after s i (z ∷ ws)).status refl (stood s i k ws) lt

-- an item that waits after k barriers has just made its k-th arrival
last_arrival : (s : Setup) (i : ℕ) (ws : List ℤ) → (after s i ws).status ≡ Waiting → (passed s i ws < length (arrivals s i ws)) × (get_or (arrivals s i ws) (passed s i ws) [] ≡ trail (after s i ws).left)
unfolding opening
last_arrival s i [] h = absurd (let q = not_waiting (enter s.kernel.body []) in let w = ap is_waiting h in omega (arith, q, w))
last_arrival s i (z ∷ ws) h =
    let n : length (arrivals s i ws) ≡ passed s i (z ∷ ws) = length-arrivals s i ws in
    let e : arrivals s i (z ∷ ws) ≡ arrivals s i ws ++ trail (after s i (z ∷ ws)).left ∷ [] = ap (λ st. noted_trail st (trail (after s i (z ∷ ws)).left) (arrivals s i ws)) h in
    rw (e, ← n) (simp length-append (omega arith), grind (arith, common_steps))

pub alike-by_list : (s : Setup) (i j : ℕ) → WaitAlike s i j → (ws vs : List ℤ) (k : ℕ) → k < length (arrivals s i ws) → k < length (arrivals s j vs) → get_or (arrivals s i ws) k [] ≡ get_or (arrivals s j vs) k []
alike-by_list s i j alike ws vs k a b =
    let x = stood s i k ws a in
    let y = stood s j k vs b in
    sym x.trail_is ∙ alike x.words y.words x.waits y.waits (x.passed_is ∙ sym y.passed_is) ∙ y.trail_is

pub alike-now : (s : Setup) (i j : ℕ) → ((ws vs : List ℤ) (k : ℕ) → k < length (arrivals s i ws) → k < length (arrivals s j vs) → get_or (arrivals s i ws) k [] ≡ get_or (arrivals s j vs) k []) → WaitAlike s i j
alike-now s i j same ws vs a b e =
    let x = last_arrival s i ws a in
    let y = last_arrival s j vs b in
    sym x.1 ∙ same ws vs (passed s i ws) x.0 (omega (arith, y.0, e)) ∙ ap (λ k. get_or (arrivals s j vs) k []) e ∙ y.1

pub ends-by_list : (s : Setup) (i j : ℕ) → EndsLast s i j → (ws vs : List ℤ) → (after s i ws).status ≡ Ended → length (arrivals s j vs) ≤ length (arrivals s i ws)
ends-by_list s i j ends ws vs h = let e = ends ws vs h in omega (arith, e, length-arrivals s i ws, length-arrivals s j vs)

pub ends-now : (s : Setup) (i j : ℕ) → ((ws vs : List ℤ) → (after s i ws).status ≡ Ended → length (arrivals s j vs) ≤ length (arrivals s i ws)) → EndsLast s i j
ends-now s i j fewer ws vs h = let e = fewer ws vs h in omega (arith, e, length-arrivals s i ws, length-arrivals s j vs)
