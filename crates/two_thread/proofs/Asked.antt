-- What is asked of a pair of stops.
use Rattle.std.proofs.Common.{◌≡◌, List, true, refl, Some, append-nil, sym, ap}
use Rattle.domain.specs.declared.Domain.{Ghosts}
use Rattle.facts.specs.Elements.{Known}
use Rattle.facts.specs.Symbols.{Fact}
use Rattle.walk_trees.specs.Trees as trees
use Rattle.walk_trees.specs.Trees.{Ended, Obligation, facts_by}
use Rattle.obligations.specs.Listing.{Of}
use Rattle.obligations.specs.Meetings.{spot_at}
use Rattle.obligations.specs.Notes.{Notes}
use Rattle.two_thread.specs.Answers.{sort_about, crossing_shown}
use Rattle.obligations.specs.Crossings.{Crossing, crossing_facts, crossing_obligation}
use Rattle.two_thread.specs.Meetings.{about_two, obligation_about, is_settled_about, facts_shown}
use Rattle.two_thread.specs.declared.meetings.About.{About}
use Rattle.two_thread.specs.declared.meetings.About.TheVariants as abouts

module _ {E : Type 0} (g : Ghosts E) (k : Known E) (launch : List Fact) (n : Notes) (u v : Of (Ended E)) where
  pub about_sort : (a : About) → (obligation_about g k launch n u v a).sort ≡ sort_about a
  about_sort (abouts.AtLeast x) = refl
  about_sort (abouts.AtMost x) = refl
  about_sort abouts.Never = refl

  pub about_spot : (a : About) → (obligation_about g k launch n u v a).spot ≡ spot_at u.it.arrived.stop
  about_spot (abouts.AtLeast x) = refl
  about_spot (abouts.AtMost x) = refl
  about_spot abouts.Never = refl

  pub about_other : (a : About) → (obligation_about g k launch n u v a).other ≡ Some (spot_at v.it.arrived.stop)
  about_other (abouts.AtLeast x) = refl
  about_other (abouts.AtMost x) = refl
  about_other abouts.Never = refl

  pub about_needed : (a : About) → (obligation_about g k launch n u v a).needed ≡ true
  about_needed (abouts.AtLeast x) = refl
  about_needed (abouts.AtMost x) = refl
  about_needed abouts.Never = refl

  pub about_settled : (a : About) → (obligation_about g k launch n u v a).settled ≡ is_settled_about g k (about_two u v a)
  about_settled (abouts.AtLeast x) = refl
  about_settled (abouts.AtMost x) = refl
  about_settled abouts.Never = refl

  pub about_facts : (m : trees.Manner) (a : About) → facts_shown m launch n (about_two u v a) ≡ facts_by m (obligation_about g k launch n u v a)
  about_facts trees.Plainly (abouts.AtLeast x) = refl
  about_facts trees.Plainly (abouts.AtMost x) = refl
  about_facts trees.Plainly abouts.Never = refl
  about_facts trees.ByPositive (abouts.AtLeast x) = refl
  about_facts trees.ByPositive (abouts.AtMost x) = refl
  about_facts trees.ByPositive abouts.Never = refl
  about_facts trees.ByNegative (abouts.AtLeast x) = refl
  about_facts trees.ByNegative (abouts.AtMost x) = refl
  about_facts trees.ByNegative abouts.Never = refl
  about_facts trees.ByQuotient (abouts.AtLeast x) = refl
  about_facts trees.ByQuotient (abouts.AtMost x) = refl
  about_facts trees.ByQuotient abouts.Never = refl

pub crossing_by : {E : Type 0} (g : Ghosts E) (k : Known E) (launch : List Fact) (n : Notes) (m : trees.Manner) (p : Crossing E) → crossing_shown m launch n p ≡ facts_by m (crossing_obligation g k launch n p)
crossing_by g k launch n trees.Plainly p = ap Some (sym (append-nil (crossing_facts launch n p)))
crossing_by g k launch n trees.ByPositive p = refl
crossing_by g k launch n trees.ByNegative p = refl
crossing_by g k launch n trees.ByQuotient p = refl
