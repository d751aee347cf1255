-- All obligations were taken.
use Rattle.std.proofs.Common.{◌≡◌, ◌≤◌, List, [], length, Bool, sym, ap, subst, ◌∙◌, arith}
use Rattle.std.specs.Prelude.{Result, Ok, Err, IsErrAnd}
use Rattle.std.specs.List.{All}
use Rattle.std.proofs.lemmas.List.{length-drop}
use Rattle.certificate_text.specs.Certificate.{Entry}
use Rattle.walk_trees.specs.Trees.{Obligation}
use Rattle.walk_trees.specs.Shown.{IsShownWithProducts}
use Rattle.two_thread.specs.Listed.{no_obligation}
use Rattle.entry_check.specs.Entries.{Said, is_past}
use Rattle.entry_check.specs.Lacking.{AllPass}
use Rattle.entry_check.specs.Supplied.{ahead}
use Rattle.entry_check.specs.Tallies.{Comes, HasStopped, IsEnd, IsOn}
use Rattle.entry_check.specs.declared.error.ShowError.{ShowError}
use Rattle.entry_check.specs.declared.error.ShowError.TheVariants as errors
use Rattle.entry_check.specs.declared.supply.Supply.{Supply}
use Rattle.entry_check.specs.declared.tally.Tally.{Tally}
use Rattle.entry_check.proofs.OneByOne.{all_shown}
use Rattle.entry_check.proofs.Unshown.{all_passed}

module _ (s : Said) (es : List Entry) (fit : Bool) (os : List Obligation) (fs : List Bool) (t : Tally) (c : Comes s es fit os fs [] [] t) where
  pub all_taken : t.count ≡ length os
  all_taken =
      let a = ap length c.obligations in
      let b = length-drop t.count os in
      let w = c.within in
      omega (arith, a, b, w)

  pub few_taken : length os ≤ 65536
  few_taken = let a = all_taken in let f = c.few in omega (arith, a, f)

  module _ (supply : Supply) (on : IsOn s es os fs t.count supply) where
    all : length os ≤ t.count
    all = let a = all_taken in omega (arith, a)

    pub are_shown : All IsShownWithProducts os
    are_shown = all_shown os no_obligation t.count all (λ k l. (on.good k l).0)

    pub all_pass : AllPass s es fs 0 os
    all_pass = all_passed s es fs os no_obligation t.count all (λ k l. (on.good k l).1)

    pub past_is : (b : Bool) → b ≡ is_past (ahead supply) t.count → is_past es (length os) ≡ b
    past_is b e = ap (is_past es) (sym all_taken) ∙ sym (on.past t.count (omega arith)) ∙ sym e

-- where memory was wanted nothing is said
pub no_memory : (s : Said) (es : List Entry) (fit : Bool) (os : List Obligation) (fs : List Bool) (r : Result Unit ShowError) → IsErrAnd r (λ e. e ≡ errors.Memory) → IsEnd s es fit os fs r
no_memory s es fit os fs (Ok t) h = absurd h
no_memory s es fit os fs (Err e) h = subst (HasStopped s es fit os fs) (sym h) tt
