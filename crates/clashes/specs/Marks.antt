-- What is known of the accesses of one element, and what of it an access clashes with. A group has `n` items.
use Rattle.std.specs.Prelude.{◌/◌, ◌&&◌, ◌||◌, not, nat_eq, ℕ, Bool, true, false, cond, Option, Some, None}
use Rattle.clashes.specs.declared.mark.Mark.{Mark}
use Rattle.clashes.specs.declared.seen.Loads.{Loads}
use Rattle.clashes.specs.declared.seen.Loads.TheVariants.{Nobody, OneItem, OneGroup, Groups}
use Rattle.clashes.specs.declared.seen.Seen.{Seen}

-- different items that no barrier orders
abbrev pub are_unordered : ℕ → Mark → Mark → Bool
are_unordered n a b = not (nat_eq a.item b.item) && (not (nat_eq (a.item / n) (b.item / n)) || nat_eq a.epoch b.epoch)

abbrev pub loads_meet : ℕ → Loads → Mark → Bool
loads_meet n Nobody m = false
loads_meet n (OneItem a) m = are_unordered n a m
loads_meet n (OneGroup g e) m = not (nat_eq (m.item / n) g) || nat_eq m.epoch e
loads_meet n Groups m = true

-- a load after the loads of one item
abbrev pub beside : ℕ → Mark → Mark → Loads
beside n a m =
    cond (nat_eq a.item m.item) (OneItem m) (cond (not (nat_eq (a.item / n) (m.item / n))) Groups (cond (nat_eq a.epoch m.epoch) (OneGroup (m.item / n) m.epoch) (OneItem m)))

abbrev pub loads_after : ℕ → Loads → Mark → Loads
loads_after n Nobody m = OneItem m
loads_after n (OneItem a) m = beside n a m
loads_after n (OneGroup g e) m = cond (not (nat_eq (m.item / n) g)) Groups (cond (nat_eq m.epoch e) (OneGroup g e) (OneItem m))
loads_after n Groups m = Groups

abbrev pub store_meets : ℕ → Option Mark → Mark → Bool
store_meets n None m = false
store_meets n (Some a) m = are_unordered n a m

abbrev pub nothing : Seen
nothing = record { store = None; loads = Nobody }

abbrev pub seen_meets : ℕ → Seen → Mark → Bool → Bool
seen_meets n seen m is_store = store_meets n seen.store m || (is_store && loads_meet n seen.loads m)

abbrev pub seen_after : ℕ → Seen → Mark → Bool → Seen
seen_after n seen m is_store = cond is_store (record { store = Some m; loads = Nobody }) (record { store = seen.store; loads = loads_after n seen.loads m })
