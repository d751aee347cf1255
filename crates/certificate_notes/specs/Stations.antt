-- Places by what may be said of them, and the tests of loops.
use Rattle.std.specs.Prelude.{ℕ, Bool, false, cond, ◌&&◌, ◌||◌, nat_eq, List, [], ◌∷◌, Option, None, Some}
use Rattle.std.specs.Option.{option_map}
use Rattle.arrivals.specs.Places as places
use Rattle.obligations.specs.Notes.{number_at}
use Rattle.obligations.specs.View.{same_number}
use Rattle.certificate_text.specs.Certificate.{Anchor, KernelEntry, Barrier}
use Rattle.certificate_notes.specs.Scenes.{Named, Scene}
use Rattle.certificate_notes.specs.Sights.{Chart, Sight}

abbrev pub scene_at : List Scene → ℕ → Option Scene
scene_at [] n = None
scene_at (s ∷ ss) n = cond (nat_eq s.number n) (Some s) (scene_at ss n)

abbrev pub loop_at : List Scene → ℕ → Option Scene
loop_at [] n = None
loop_at (s ∷ ss) n = cond (s.is_loop && nat_eq s.number n) (Some s) (loop_at ss n)

-- a place by the numbers of its barrier and its loop, the variables on which items may agree there, and the symbols
pub record Station : Type 0 where
  pub anchor : Option ℕ
  pub head : Option ℕ
  pub agreeing : List Named
  pub sight : Sight

abbrev pub at_barrier : Scene → Station
at_barrier b = record { anchor = Some b.number; head = None; agreeing = b.here; sight = record { here = b.here; before = []; around = b.around; has_new = false; has_second = false } }

abbrev pub at_head : (anchor : Option ℕ) (before : List Named) → Scene → Station
at_head a before h = record { anchor = a; head = Some h.number; agreeing = []; sight = record { here = h.here; before = before; around = h.around; has_new = false; has_second = false } }

abbrev pub head_behind : Option Scene → Option Scene → Option Station
head_behind None h = None
head_behind (Some b) None = None
head_behind (Some b) (Some h) = Some (at_head (Some b.number) b.here h)

-- at the entry nothing can be said, at its heads of what the parameters were
abbrev pub station : Chart → Anchor → (head : Option ℕ) → Option Station
station c KernelEntry None = None
station c KernelEntry (Some h) = option_map (at_head None c.entry) (scene_at c.scenes h)
station c (Barrier b) None = option_map at_barrier (scene_at c.scenes b)
station c (Barrier b) (Some h) = head_behind (scene_at c.scenes b) (scene_at c.scenes h)

abbrev pub anchor_number : Anchor → Option ℕ
anchor_number KernelEntry = None
anchor_number (Barrier b) = Some b

abbrev pub is_at : (anchor head : Option ℕ) → places.Place → Bool
is_at a h p = same_number (number_at p.anchor) a && same_number (number_at p.head) h

abbrev pub is_place : List places.Place → (anchor head : Option ℕ) → Bool
is_place [] a h = false
is_place (p ∷ ps) a h = is_at a h p || is_place ps a h

-- in a loop's test there is no anchor
abbrev pub in_test : Scene → Sight
in_test s = record { here = s.here; before = []; around = s.around; has_new = false; has_second = false }
