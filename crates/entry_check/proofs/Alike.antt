-- Obligations against entries of which those of smaller numbers were passed over.
use Rattle.std.proofs.Common.{◌≡◌, ℕ, ◌&&◌, ◌⊎◌, Bool, true, false, List, subst, sym}
use Rattle.std.specs.Prelude.{Option}
use Rattle.certificate_text.specs.Certificate.{Entry}
use Rattle.walk_trees.specs.Trees.{Obligation}
use Rattle.entry_check.specs.Entries.{Said, entry_of, is_found, found_refutes, names_one}
use Rattle.entry_check.specs.Lacking.{IsStopped, Passes}

module _ (s : Said) (fit : Bool) (o : Obligation) where
  abbrev PassesWith : ℕ → Option Entry → Type 0
  PassesWith n e = (fit ≡ true) × ((o.settled ≡ true) ⊎ (((o.needed ≡ false) × (is_found e ≡ false)) ⊎ ((names_one s.quotient n o && found_refutes s.stated e o) ≡ true)))

  abbrev IsLackingWith : ℕ → Option Entry → Type 0
  IsLackingWith n e = (fit ≡ true) × (o.settled ≡ false) × ((o.needed ≡ true) ⊎ (is_found e ≡ true)) × ((names_one s.quotient n o && found_refutes s.stated e o) ≡ false)

  pub passes_alike : (es fs : List Entry) (n : ℕ) → entry_of es n ≡ entry_of fs n → Passes s es fit n o → Passes s fs fit n o
  passes_alike es fs n p x = subst (PassesWith n) p x

  pub stopped_alike : (es fs : List Entry) (own n : ℕ) → entry_of es own ≡ entry_of fs own → IsStopped s es fit own o n → IsStopped s fs fit own o n
  stopped_alike es fs own n p x = (x.0, subst (IsLackingWith n) (subst (λ k. entry_of es k ≡ entry_of fs k) (sym x.0) p) x.1)
