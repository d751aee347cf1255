use Rattle.std.proofs.Common.{◌≡◌, ◌∙◌, true, map, sym, ap, subst}
use Rattle.std.specs.Prelude.{MatchOption}
use Rattle.std.specs.Option.{option_map}
use Rattle.words.specs.View.{value_of}
use Rattle.work_item.specs.Asks.{cell}
use Rattle.lane_groups.specs.Stores.{store, is_new, IsPlace}
use Rattle.lane_groups.proofs.Placed.{place_later}
use Rattle.lane_groups.proofs.own.Own.later_place.Goals as goal

pub returns-in_default : goal.returns-in_default
returns-in_default c = c.args.self.now.found c.requires (cell c.args.at) (sym c.word.ensures ∙ ap (option_map value_of) c.in_default.is)

pub returns : goal.returns
returns c =
    let a = cell c.args.at in
    let o = c.place_among.result in
    place_later store 16 c.args.self.now.stores.items a o (subst (λ xs. MatchOption o (is_new (map store xs) a ≡ true) (λ p. IsPlace (map store xs) p a)) c.as_slice.ensures.value c.place_among.ensures)
