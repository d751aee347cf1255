-- Statements that are left, and the ways out of them.
use Rattle.std.proofs.Common.{◌≡◌, ℕ, List, [], ◌∷◌, ◌++◌, refl, ap, ◌∙◌}
use Rattle.semantics.specs.Core.{Statements, none, one}
use Rattle.core_code.specs.View.{statements}
use Rattle.arrivals.specs.Points.{Left, join}
use Rattle.places.specs.Reaching.{Exits, before, all_before, found, nothing}
use Rattle.places.specs.View.{opened, stacked, left}
use Rattle.places.specs.Frames.{framed, with_frames, last_out, last_back}
use Rattle.places.specs.Behind.{rest_before, rests_before}
use Rattle.places.specs.declared.exits.Frame.{Frame}
use Rattle.places.specs.declared.point.Rest.{Rest}
use Rattle.places.specs.declared.point.Rest.TheVariants.{Fresh, Turning}

-- one more, the innermost
pub frames_more : (fs : List Frame) (f : Frame) (w : Exits) → with_frames (fs ++ f ∷ []) w ≡ framed f (with_frames fs w)
frames_more [] f w = refl
frames_more (g ∷ fs) f w = frames_more fs f (framed g w)

pub out_is : (fs : List Frame) (w : Exits) (k : ℕ) → last_out fs k (w.out k) ≡ (with_frames fs w).out k
out_is [] w k = refl
out_is (f ∷ fs) w k = out_is fs (framed f w) k

pub back_is : (fs : List Frame) (w : Exits) (k : ℕ) → last_back fs k (w.back k) ≡ (with_frames fs w).back k
back_is [] w k = refl
back_is (f ∷ fs) w k = back_is fs (framed f w) k

join_found : (n : ℕ) (ss : Statements) (around : List Left) → all_before n ss (found n around) ≡ found n (join ss around)
join_found n none around = refl
join_found n (one s ss) around = ap (before n s) (join_found n ss around)

opened_found : (n : ℕ) (r : Rest) (around : List Left) → rest_before n r (found n around) ≡ found n (opened r around)
opened_found n (Fresh ss) around = join_found n (statements ss.now) around
opened_found n (Turning s) around = refl

stacked_found : (n : ℕ) (rs : List Rest) (around : List Left) → rests_before n rs (found n around) ≡ found n (stacked rs around)
stacked_found n [] around = refl
stacked_found n (r ∷ rs) around = ap (rests_before n rs) (opened_found n r around) ∙ stacked_found n rs (opened r around)

-- from the outermost of what is left to its front
pub rests_found : (n : ℕ) (rs : List Rest) → rests_before n rs nothing ≡ found n (left rs)
rests_found n rs = stacked_found n rs []
