-- The walk of a term as an item begins: what it evaluates to is found in the tree.
use Rattle.std.proofs.Common.{◌≡◌, ℕ, suc, true, List, [], ◌∷◌, Some, arith, refl, sym, subst, inl, inr}
use Rattle.std.specs.List.{All, Contains}
use Rattle.semantics.specs.Word.{Word}
use Rattle.semantics.specs.Core.{Term}
use Rattle.semantics.specs.Solo.{opening}
use Rattle.semantics.specs.Contents.{HonestTerm}
use Rattle.semantics.specs.Evaluation.{Outcome, evaluate}
use Rattle.arrivals.specs.Trees.{AtEnd}
use Rattle.facts.specs.Symbols.{First, Fact}
use Rattle.facts.specs.Launching.{launch_facts, item_facts}
use Rattle.facts.proofs.Launched.{launch_known, item_known}
use Rattle.facts.proofs.Members.{by_number}
use Rattle.facts.proofs.Worlds.{View, setup, own, agrees_itself}
use Rattle.walk_trees.specs.Trees.{Ended, claims, accesses, ends}
use Rattle.walk_trees.specs.Covered.{covers_term}
use Rattle.walk_trees.specs.Shown.{IsShownWithProducts}
use Rattle.walk_trees.specs.Sound.{beginning, with_value, tree_of, IsFound, IsFoundIn}
use Rattle.walk_trees.proofs.Each.{Has}
use Rattle.walk_trees.proofs.Holding.{held_opening}
use Rattle.walk_trees.proofs.Standing.{walks, Goes, gives, asks, Owns}
use Rattle.walk_trees.proofs.QuotientSound.{DividesLawfully}
use Rattle.walk_trees.proofs.TermSound.{term_sound, ArrivesAsValue}
use Rattle.walk_trees.proofs.Opening.{opening_forms}

contained : {A : Type 0} (x : A) (xs : List A) → Has x xs → Contains xs x
contained x [] h = absurd h
contained x (y ∷ ys) (inl e) = (0, omega arith, sym e)
contained x (y ∷ ys) (inr h) = let p = contained x ys h in (suc p.0, omega (arith, p.1), p.2)

module _ {E : Type 0} (c : View E) (laws : DividesLawfully c.domain) (e : Term) (covered : covers_term c.spaces e ≡ true) where
  abbrev launch : List Fact
  launch = launch_facts c.conditions

  abbrev facts : List Fact
  facts = item_facts c.kernel.sizes First

  found : {variables : Owns} {o : Outcome} → Goes c launch facts 0 (tree_of (walks c) c.kernel e) with_value [] variables (ArrivesAsValue c) o → IsFound (accesses facts 0 (tree_of (walks c) c.kernel e)) (ends facts 0 (tree_of (walks c) c.kernel e)) (setup c) o
  found (gives w rest is right p) = subst (IsFound (accesses facts 0 (tree_of (walks c) c.kernel e)) (ends facts 0 (tree_of (walks c) c.kernel e)) (setup c)) (sym is) (
      let v = by_number (own c p.more) in
      let a = agrees_itself c p.more in
      let last : Ended E = record { arrived = record { stop = AtEnd; turns = Some []; variables = p.arrived ∷ []; held = p.state.held }; facts = p.path } in
      record {
        end = last;
        here = contained last (ends facts 0 (tree_of (walks c) c.kernel e)) (p.way.ended last (inl refl));
        value = p.arrived;
        only = refl;
        numbers = v;
        met = p.stands.known v a;
        kind = p.right.kind;
        same = p.right.form.means v a;
      })
  found (asks a k site is s) = subst (IsFound (accesses facts 0 (tree_of (walks c) c.kernel e)) (ends facts 0 (tree_of (walks c) c.kernel e)) (setup c)) (sym is) (record {
    load = s.node;
    here = contained s.node (accesses facts 0 (tree_of (walks c) c.kernel e)) s.here;
    loads = s.store;
    array = s.array;
    numbers = by_number (own c s.news);
    met = s.known (by_number (own c s.news)) (agrees_itself c s.news);
    same = s.index (by_number (own c s.news)) (agrees_itself c s.news);
    inside = s.inside;
  })

  pub founded : (now : List ℕ) (answers : List Word) → HonestTerm (setup c) c.conditions.contents c.item now e (opening (setup c) c.item).variables answers → All IsShownWithProducts (claims launch facts 0 (tree_of (walks c) c.kernel e)) → IsFoundIn (tree_of (walks c) c.kernel e) (setup c) (evaluate (setup c) c.item now e (opening (setup c) c.item).variables answers)
  founded now answers honest shown = found ((term_sound c launch laws now e covered).value facts 0 [] (beginning c.kernel) with_value (opening (setup c) c.item).variables answers honest (opening_forms c) (record { fit = held_opening c; counted = refl; shared = tt; launched = launch_known c []; known = item_known c []; shown = shown }))
