-- A path before its first step from a place.
use Rattle.std.specs.Prelude.{◌≡◌, ℕ, List, [], Option, true, false, cond}
use Rattle.semantics.specs.Launch.{Kernel}
use Rattle.domain.specs.declared.Domain.{Ghosts}
use Rattle.facts.specs.Symbols.{Fact}
use Rattle.facts.specs.Elements.{Known}
use Rattle.facts.specs.declared.error.WalkError.{WalkError}
use Rattle.facts.specs.declared.error.WalkError.TheVariants as errors
use Rattle.walk_trees.specs.Held.{Held}
use Rattle.walk_trees.specs.Fitting.{all_fit}
use Rattle.obligations.specs.Notes.{Notes}
use Rattle.obligations.specs.Roots.{facts_at, narrow_all, root_facts, root_state}
use Rattle.path_steps.specs.Paths.{Choice, Followed}

-- what is said of a place narrows in the wide walk
abbrev pub narrowed_by_notes : {E : Type 0} → Ghosts E → Known E → Notes → (anchor head : Option ℕ) → Held E → Held E
narrowed_by_notes g e n a h held = cond n.is_wide (narrow_all g e (facts_at n a h) held) held

-- with so many claims before it, along these choices
abbrev pub rooted : {E : Type 0} → Ghosts E → Known E → Kernel → Notes → (claims : ℕ) → (anchor head : Option ℕ) → List Choice → Followed E
rooted g e k n c a h cs = record {
  found = record { facts = root_facts k n a h; claims = []; accesses = []; ends = []; count = c; taken = []; left = cs; is_fit = true; is_few = true };
  state = root_state g e k n c a h;
}

-- a number of what is known there is no i64, or there was no memory
abbrev pub IsUnrooted : List Fact → WalkError → Type 0
IsUnrooted fs errors.TooMany = ⊥
IsUnrooted fs errors.TooLarge = all_fit fs ≡ false
IsUnrooted fs errors.Memory = Unit {0}
