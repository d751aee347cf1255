-- The world of a launch as it begins.
use Rattle.std.proofs.Common.{◌≡◌, ℕ, List, [], true, refl, sym, ap, ◌∙◌, length, map}
use Rattle.std.specs.Prelude.{replicate, slice_index_or}
use Rattle.std.proofs.lemmas.List.{length-map, length-replicate}
use Rattle.std.proofs.Math.Path.{fun_ext}
use Rattle.semantics.specs.Launch.{product}
use Rattle.semantics.specs.Setup.{Setup, group_count}
use Rattle.semantics.specs.Memory.{Memory, opening_memory}
use Rattle.semantics.specs.Item as meaning
use Rattle.semantics.specs.Solo.{opening}
use Rattle.semantics.specs.World.{opening_world}
use Rattle.work_item.specs.Items.{item}
use Rattle.work_item.specs.Proper.{are_proper, is_proper_left}
use Rattle.work_item.specs.declared.item.Item.{Item}
use Rattle.semantics.specs.Solo.{Access}
use Rattle.machine.specs.Worlds.{items_in}
use Rattle.machine.proofs.Openings.{same}
use Rattle.machine.proofs.Steps.{the_world, world_is}
use Rattle.machine.proofs.Moves.{opening_proper}

pub count_of : (s : Setup) → product s.launch.groups ≡ group_count s
unfolding group_count
count_of s = refl

items_are : (s : Setup) (xs : List Item) (n : ℕ) → ((i : ℕ) → map item xs ≡ replicate n (opening s i)) → (i : ℕ) → items_in xs (opening s) i ≡ opening s i
items_are s xs n h i = ap (λ ys. slice_index_or ys i (opening s i)) (h i) ∙ same n i (opening s i)

pub opens_world : (s : Setup) (xs : List Item) (n : ℕ) (m : Memory) (history : List Access) → m ≡ opening_memory s → ((i : ℕ) → map item xs ≡ replicate n (opening s i)) → history ≡ [] → the_world m (items_in xs (opening s)) history ≡ opening_world s
unfolding opening_world
opens_world s xs n m history e h empty = world_is m (opening_memory s) (items_in xs (opening s)) (opening s) history [] e (fun_ext (items_are s xs n h)) empty

pub opens_count : (s : Setup) (xs : List Item) (n : ℕ) → ((i : ℕ) → map item xs ≡ replicate n (opening s i)) → length xs ≡ n
opens_count s xs n h = sym (length-map xs item) ∙ ap length (h 0) ∙ length-replicate n (opening s 0)

pub opens_proper_left : (s : Setup) (xs : List Item) (n : ℕ) → are_proper s.kernel.body ≡ true → ((i : ℕ) → map item xs ≡ replicate n (opening s i)) → (i : ℕ) → is_proper_left (items_in xs (opening s) i).left ≡ true
opens_proper_left s xs n p h i = ap (λ (it : meaning.Item). is_proper_left it.left) (items_are s xs n h i) ∙ opening_proper s i p
