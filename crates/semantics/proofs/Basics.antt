-- Basic laws of solo runs.
use Rattle.std.proofs.Common.{ℕ, ◌≤◌, ℤ, List, [], ◌∷◌, ap, arith}
use Rattle.semantics.specs.Setup.{Setup}
use Rattle.semantics.specs.Item.{Item, Status, Running, Waiting, Ended, Stopped, enter}
use Rattle.semantics.specs.Solo.{after, opening, arrived, is_waiting}
use Rattle.semantics.proofs.Steps.{not_waiting, over-not_waiting}
use Rattle.semantics.proofs.Turns.{Turn, Steps, Passes, Stays, turn}

at_most_one : (st : Status) → is_waiting st ≤ 1
at_most_one Running = omega arith
at_most_one Waiting = omega arith
at_most_one Ended = omega arith
at_most_one (Stopped f site) = omega arith

pub arrived-steps : (s : Setup) (i : ℕ) (ws : List ℤ) → arrived s i ws ≤ (after s i ws).steps
unfolding opening
arrived-steps s i [] = omega (arith, not_waiting (enter s.kernel.body []))
arrived-steps s i (z ∷ ws) = go (turn s i (after s i ws) z) (arrived-steps s i ws)
  where
    go : Turn (after s i ws) (after s i (z ∷ ws)) → arrived s i ws ≤ (after s i ws).steps → arrived s i (z ∷ ws) ≤ (after s i (z ∷ ws)).steps
    go (Steps n) h =
        let w = ap is_waiting n.was in let q = n.steps in let k = at_most_one (after s i (z ∷ ws)).status in omega (arith, w, q, k, h)
    go (Passes n) h = let q = n.steps in let k = n.goes in omega (arith, q, k, h)
    go (Stays o e) h =
        let w = over-not_waiting (after s i ws).status o in
        let q = ap (λ (it : Item). it.steps) e in
        let k = ap (λ (it : Item). is_waiting it.status) e in omega (arith, w, q, k, h)
