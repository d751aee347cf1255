-- What the code finds from what is left stands for.
use Rattle.std.specs.Prelude.{ℕ, List, [], ◌∷◌}
use Rattle.core_code.specs.View.{statement, statements}
use Rattle.places.specs.Reaching as reaching
use Rattle.places.specs.Reaching.{no_exits, before, all_before}
use Rattle.places.specs.View.{lists}
use Rattle.places.specs.Frames.{with_frames}
use Rattle.places.specs.declared.point.Rest.{Rest}
use Rattle.places.specs.declared.point.Rest.TheVariants.{Fresh, Turning}
use Rattle.places.specs.declared.behind.Found.{Found}

abbrev pub found : Found → reaching.Found
found f = record { go = lists f.go; exits = with_frames f.frames.items no_exits }

abbrev pub rest_before : ℕ → Rest → reaching.Found → reaching.Found
rest_before n (Fresh ss) w = all_before n (statements ss.now) w
rest_before n (Turning s) w = before n (statement s.now) w

-- the outermost first
abbrev pub rests_before : ℕ → List Rest → reaching.Found → reaching.Found
rests_before n [] w = w
rests_before n (r ∷ rs) w = rests_before n rs (rest_before n r w)
