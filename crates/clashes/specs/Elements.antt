-- What a watch knows of each element.
use Rattle.std.specs.Prelude.{ℕ, zero, suc, Bool, ◌&&◌, nat_eq, Option, Some, None}
use Rattle.std.specs.Option.{option_eq, unwrap_or, IsSome}
use Rattle.std.specs.HashMap.{get}
use Rattle.semantics.specs.Memory.{Cell}
use Rattle.clashes.specs.Marks.{nothing}
use Rattle.clashes.specs.declared.seen.Seen.{Seen}
use Rattle.clashes.specs.declared.watch.Watch.{Watch}

-- the group that has an element's array, its number and the index
abbrev pub Key : Type 0
Key = Option ℕ × ℕ × ℕ

abbrev pub group_in : ℕ → Option ℕ
group_in zero = None
group_in (suc g) = Some g

abbrev pub key : Cell → Key
key c = (group_in c.owner, c.array, c.index)

abbrev pub same_key : Key → Key → Bool
same_key x y = (option_eq nat_eq x.0 y.0 && nat_eq x.1 y.1) && nat_eq x.2 y.2

abbrev pub seen_of : Watch → Cell → Seen
seen_of w c = unwrap_or (get same_key w.seen (key c)) nothing

abbrev pub HasRoom : Watch → Cell → Type 0
HasRoom w c = IsSome (get same_key w.seen (key c))
