use Rattle.std.specs.Prelude.{true}
use Rattle.obligations.proofs.WholeSafe.{whole_pair_safe}
use Rattle.obligations.proofs.laws.what_is_shown_by_places_is_pair_safe.Goals as goal

pub returns : goal.returns
returns g c = λ k conditions n l bound sized tell shown fits meets sound short.
    let d = g.met.D.Domain in
    whole_pair_safe (record {
      domain = g.D.Domain;
      lawful = record { top = d.top_holds; number = d.number_holds; join = d.join_holds; add = d.add_holds; mul = d.mul_holds; at_least = d.at_least_holds; at_most = d.at_most_holds; bounds = d.bounds_hold; residue = d.residue_holds };
      kernel = k;
      conditions = conditions;
      is_wide = n.is_wide;
      joins = n.joins;
      has_entry = n.has_entry;
      spaces = λ sp. true;
      launch = l;
      sized = sized;
      fits = fits;
      meets = meets;
    }) n tell (record { div = d.div_holds; rem = d.rem_holds; mask = d.mask_holds }) shown bound sound short
