-- What is known at a kernel's entry is of i64; and two items that have come to the kernel's end owe nothing.
use Rattle.std.proofs.Common.{◌≡◌, ℕ, ◌≤◌, Bool, true, List, [], ◌∷◌, ◌++◌, None, cond, arith, refl, ap}
use Rattle.std.specs.Prelude.{pos, ◌-ℤ◌}
use Rattle.std.proofs.lemmas.Int.{ints}
use Rattle.semantics.specs.Launch.{Three, Kernel}
use Rattle.semantics.specs.Conditions.{Conditions}
use Rattle.semantics.specs.Setup.{along}
use Rattle.linear.specs.Exact.{fits}
use Rattle.domain.specs.declared.Domain.{Ghosts}
use Rattle.facts.specs.Symbols as symbols
use Rattle.facts.specs.Symbols.{First, Symbol, Local, Group, Fact, constant, once, minus}
use Rattle.facts.specs.Elements.{Known}
use Rattle.facts.specs.Launching.{id_facts}
use Rattle.arrivals.specs.Trees.{Stop, AtEnd}
use Rattle.arrivals.specs.Shown.{owed, same_turns}
use Rattle.walk_trees.specs.Trees.{Ended, Obligation}
use Rattle.walk_trees.specs.Fitting.{all_fit}
use Rattle.walk_trees.proofs.Each.{Each}
use Rattle.obligations.specs.Notes.{Notes}
use Rattle.obligations.specs.Roots.{root_facts}
use Rattle.obligations.specs.Listing.{Of}
use Rattle.obligations.specs.Meetings.{is_rest, owed_obligations, meetings}
use Rattle.plain_kernels.specs.Kernels.{HasLimits}
use Rattle.plain_kernels.proofs.Trees.{most, less, IsSmall}
use Rattle.plain_kernels.proofs.Fitting.{two, small-fits}

small-all-fit : (fs : List Fact) → Each IsSmall fs → all_fit fs ≡ true
small-all-fit [] h = refl
small-all-fit (f ∷ fs) h = two (fits f) (all_fit fs) (small-fits f h.0) (small-all-fit fs h.1)

small-once : (x : Symbol) → IsSmall (once x)
small-once x = omega arith

small-local : (n : ℕ) (x : Symbol) → n ≤ 1024 → IsSmall (minus (constant (pos n -ℤ pos 1)) (once x))
small-local n x h = less (constant (pos n -ℤ pos 1)) (once x) most (omega (arith, ints, h))

small-group : (x y : Symbol) → IsSmall (minus (minus (once x) (once y)) (constant (pos 1)))
small-group x y = less (minus (once x) (once y)) (constant (pos 1)) most (omega (arith, less (once x) (once y) 2 (omega arith)))

-- in front of facts that fit
ids-fit : (sizes : Three ℕ) (d : ℕ) (more : List Fact) → along sizes d 1 ≤ 1024 → Each IsSmall more → Each IsSmall (id_facts sizes First d ++ more)
ids-fit sizes d more h p = (small-once (Local First d), (small-local (along sizes d 1) (Local First d) h, (small-once (Group First d), (small-group (symbols.Groups d) (Group First d), p))))

pub opening-fits : (k : Kernel) (c : Conditions) (n : Notes) → HasLimits k c → all_fit (root_facts k n None None) ≡ true
opening-fits k c n limits =
    small-all-fit (root_facts k n None None)
    (ids-fit k.sizes 0 (id_facts k.sizes First 1 ++ (id_facts k.sizes First 2 ++ [])) limits.size_x.1 (ids-fit k.sizes 1 (id_facts k.sizes First 2 ++ []) limits.size_y.1 (ids-fit k.sizes 2 [] limits.size_z.1 tt)))

pub no-meetings : {E : Type 0} (g : Ghosts E) (known : Known E) (launch : List Fact) (n : Notes) (head : Bool) (e : Ended E) → e.arrived.stop ≡ AtEnd → meetings g known launch n (record { anchor = None; is_head = head; it = e } ∷ []) ≡ []
no-meetings {E} g known launch n head e h =
    let u : Of (Ended E) = record { anchor = None; is_head = head; it = e } in
    let met : Stop → List Obligation = λ s. cond (is_rest s) (cond (is_rest s) (owed_obligations g known launch n u u (owed s s (same_turns e.arrived.turns e.arrived.turns))) [] ++ []) [] ++ [] in
    ap met h
