-- Claims of all paths, what denies them, and the manners in which they are shown.
use Rattle.std.specs.Prelude.{List, [], ◌∷◌, Option, None, Some}
use Rattle.linear.specs.Forms.{form, forms}
use Rattle.linear.specs.declared.form.Form.{Form}
use Rattle.facts.specs.Symbols.{Fact, denial}
use Rattle.walk_trees.specs.Trees as trees
use Rattle.walk_trees.specs.Trees.{Obligation, Goal, AtLeastZero, Either, Replaced, Divided, Plainly, ByPositive, ByNegative, ByQuotient, claimed}
use Rattle.path_steps.specs.Paths.{Claimed}
use Rattle.two_thread.specs.declared.manner.Manner.{Manner}
use Rattle.two_thread.specs.declared.manner.Manner.TheVariants as manners
use Rattle.std.proofs.Common.{Vec, Global}

abbrev pub manner : Manner → trees.Manner
manner manners.Plainly = Plainly
manner manners.ByPositive = ByPositive
manner manners.ByNegative = ByNegative
manner manners.ByQuotient = ByQuotient

abbrev pub owed : (launch : List Fact) → Claimed → Obligation
owed launch c = claimed launch c.facts c.demand c.needed c.settled c.goal

-- what denies a goal, shown in that manner
abbrev pub denial_by : trees.Manner → Goal → Option Fact
denial_by Plainly (AtLeastZero f) = Some (denial f)
denial_by Plainly (Either p n) = None
denial_by Plainly (Replaced made f) = Some (denial f)
denial_by Plainly (Divided made f) = None
denial_by ByPositive (AtLeastZero f) = None
denial_by ByPositive (Either p n) = Some (denial p)
denial_by ByPositive (Replaced made f) = None
denial_by ByPositive (Divided made f) = None
denial_by ByNegative (AtLeastZero f) = None
denial_by ByNegative (Either p n) = Some (denial n)
denial_by ByNegative (Replaced made f) = None
denial_by ByNegative (Divided made f) = None
denial_by ByQuotient (AtLeastZero f) = None
denial_by ByQuotient (Either p n) = None
denial_by ByQuotient (Replaced made f) = None
denial_by ByQuotient (Divided made f) = Some (denial f)

abbrev pub maybe_form : Option Form → Option Fact
maybe_form None = None
maybe_form (Some f) = Some (form f)

abbrev pub maybe_forms : Option (Vec Form Global) → Option (List Fact)
maybe_forms None = None
maybe_forms (Some v) = Some (forms v.items)

-- the one, or none
abbrev pub listed_form : Option Form → List Fact
listed_form None = []
listed_form (Some f) = form f ∷ []
