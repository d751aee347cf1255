-- What the code's ways out stand for.
use Rattle.std.specs.Prelude.{ℕ, List, [], ◌∷◌, cond, nat_eq}
use Rattle.arrivals.specs.Places.{Lists}
use Rattle.places.specs.Reaching as reaching
use Rattle.places.specs.Reaching.{no_exits, in_body}
use Rattle.places.specs.View.{lists}
use Rattle.places.specs.declared.exits.Frame.{Frame}
use Rattle.places.specs.declared.exits.Exits.{Exits}
use Rattle.places.specs.declared.exits.Exits.TheVariants.{Inside, Around}

abbrev pub framed : Frame → reaching.Exits → reaching.Exits
framed f w = record {
  out = λ k. cond (nat_eq f.number k) (lists f.out) (w.out k);
  back = λ k. cond (nat_eq f.number k) (lists f.back) (w.back k);
}

-- the innermost last
abbrev pub with_frames : List Frame → reaching.Exits → reaching.Exits
with_frames [] w = w
with_frames (f ∷ fs) w = with_frames fs (framed f w)

abbrev pub exits : Exits → reaching.Exits
exits (Inside go) = in_body (lists go.now)
exits (Around fs) = with_frames fs.now no_exits

-- the last one of that number
abbrev pub last_out : List Frame → ℕ → Lists → Lists
last_out [] k l = l
last_out (f ∷ fs) k l = last_out fs k (cond (nat_eq f.number k) (lists f.out) l)

abbrev pub last_back : List Frame → ℕ → Lists → Lists
last_back [] k l = l
last_back (f ∷ fs) k l = last_back fs k (cond (nat_eq f.number k) (lists f.back) l)
