use Rattle.walk_trees.specs.Sound.{any_space}
use Rattle.walk_trees.proofs.Founded.{founded}
use Rattle.facts.proofs.Worlds.{opening_root}
use Rattle.walk_trees.proofs.laws.walk_of_a_term_is_sound.Goals as goal

pub returns : goal.returns
returns g c = λ k conditions is_wide joins has_entry e l i now answers sized covered fits meets place honest shown.
    let d = g.met.D.Domain in
    founded (record {
      walked = record {
        domain = g.D.Domain;
        lawful = record { top = d.top_holds; number = d.number_holds; add = d.add_holds; mul = d.mul_holds; at_least = d.at_least_holds; at_most = d.at_most_holds; bounds = d.bounds_hold; residue = d.residue_holds; join = d.join_holds };
        kernel = k;
        conditions = conditions;
        is_wide = is_wide;
        joins = joins;
        has_entry = has_entry;
        spaces = any_space;
        launch = l;
        sized = sized;
        fits = fits;
        meets = meets;
      };
      item = i;
      place = place;
      root = opening_root;
    }) (record { div = d.div_holds; rem = d.rem_holds; mask = d.mask_holds }) e covered now answers honest shown
