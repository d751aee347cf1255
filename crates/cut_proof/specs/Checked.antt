-- How far a derivation is checked.
use Rattle.std.specs.Prelude.{◌≡◌, ◌++◌, ◌∷◌, List, Bool, true, false, map}
use Rattle.linear.specs.Forms.{forms}
use Rattle.cut_proof.specs.Derivations.{Forms, Line, refutes_from}
use Rattle.cut_proof.specs.View.{made_form}
use Rattle.cut_proof.specs.declared.Checking.{Checking}

-- the facts, what the lines have made, and whether the last one is a contradiction
abbrev pub facts_of : Checking → Forms
facts_of c = forms c.facts.now ++ forms c.known.now

abbrev pub forms_made : Checking → Forms
forms_made c = map made_form c.made.items

abbrev pub answer : Checking → Bool
answer c = c.refuted

-- whatever lines come behind it, those from this line on have the answer of those behind it; of a line that may not stand there it is no
abbrev pub Adds : (before : Checking) → Line → (behind : Checking) → Bool → Type 0
Adds before l behind true = (facts_of behind ≡ facts_of before) × ((ls : List Line) → refutes_from (facts_of before) (forms_made before) (answer before) (l ∷ ls) ≡ refutes_from (facts_of before) (forms_made behind) (answer behind) ls)
Adds before l behind false = (ls : List Line) → refutes_from (facts_of before) (forms_made before) (answer before) (l ∷ ls) ≡ false
