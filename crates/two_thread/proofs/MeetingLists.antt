-- The pairs of stops found one after the other.
use Rattle.std.proofs.Common.{◌≡◌, ℕ, ◌+◌, ◌<◌, ◌≤◌, List, ◌++◌, length, drop, get_or, append-nil, sym, ap, ◌∙◌}
use Rattle.std.proofs.Math.ListN.{drop_of_length-le}
use Rattle.facts.proofs.Facts.{carried}
use Rattle.walk_trees.specs.Trees.{Ended}
use Rattle.obligations.specs.Listing.{Of}
use Rattle.obligations.specs.Notes.{Notes}
use Rattle.two_thread.specs.Meetings.{Meeting, agree_on, agreements, two_meet, meet_each, meet_from, all_meetings}
use Rattle.two_thread.specs.Paths.{no_end}
use Rattle.two_thread.specs.View.{nth_end}
use Rattle.two_thread.proofs.Growing.{front}

pub agree_front : {E : Type 0} (u v : Of (Ended E)) (xs : List ℕ) (i : ℕ) → i < length xs → agreements u v (drop i xs) ≡ agree_on u v (get_or xs i 0) ++ agreements u v (drop (i + 1) xs)
agree_front u v xs i h = ap (agreements u v) (front xs i 0 h)

pub agree_step : {E : Type 0} (u v : Of (Ended E)) (xs : List ℕ) (i x : ℕ) (old new all : List (Meeting E)) → i < length xs → x ≡ get_or xs i 0 → new ≡ old ++ agree_on u v x → old ++ agreements u v (drop i xs) ≡ all → new ++ agreements u v (drop (i + 1) xs) ≡ all
agree_step u v xs i x old new all h q d e = carried old new (agree_on u v x) (agreements u v (drop (i + 1) xs)) all d (ap (λ l. old ++ l) (ap (λ y. agree_on u v y ++ agreements u v (drop (i + 1) xs)) q ∙ sym (agree_front u v xs i h)) ∙ e)

pub agree_end : {E : Type 0} (u v : Of (Ended E)) (xs : List ℕ) (i : ℕ) (out all : List (Meeting E)) → length xs ≤ i → out ++ agreements u v (drop i xs) ≡ all → out ≡ all
agree_end u v xs i out all h e = sym (ap (λ l. out ++ agreements u v l) (drop_of_length-le xs h) ∙ append-nil out) ∙ e

module _ {E : Type 0} (n : Notes) where
  pub each_front : (u : Of (Ended E)) (vs : List (Of (Ended E))) (j : ℕ) → j < length vs → meet_each n u (drop j vs) ≡ two_meet n u (nth_end vs j) ++ meet_each n u (drop (j + 1) vs)
  each_front u vs j h = ap (meet_each n u) (front vs j no_end h)

  pub each_step : (u : Of (Ended E)) (vs : List (Of (Ended E))) (j : ℕ) (old new all : List (Meeting E)) → j < length vs → new ≡ old ++ two_meet n u (nth_end vs j) → old ++ meet_each n u (drop j vs) ≡ all → new ++ meet_each n u (drop (j + 1) vs) ≡ all
  each_step u vs j old new all h d e = carried old new (two_meet n u (nth_end vs j)) (meet_each n u (drop (j + 1) vs)) all d (ap (λ l. old ++ l) (sym (each_front u vs j h)) ∙ e)

  pub each_end : (u : Of (Ended E)) (vs : List (Of (Ended E))) (j : ℕ) (out all : List (Meeting E)) → length vs ≤ j → out ++ meet_each n u (drop j vs) ≡ all → out ≡ all
  each_end u vs j out all h e = sym (ap (λ l. out ++ meet_each n u l) (drop_of_length-le vs h) ∙ append-nil out) ∙ e

  pub all_front : (us : List (Of (Ended E))) (i : ℕ) → i < length us → all_meetings n (drop i us) ≡ meet_from n (nth_end us i) (drop i us) ++ all_meetings n (drop (i + 1) us)
  all_front us i h = ap (all_meetings n) (front us i no_end h) ∙ ap (λ l. meet_from n (nth_end us i) l ++ all_meetings n (drop (i + 1) us)) (sym (front us i no_end h))

  pub all_step : (us : List (Of (Ended E))) (i : ℕ) (old new all : List (Meeting E)) → i < length us → new ≡ old ++ meet_from n (nth_end us i) (drop i us) → old ++ all_meetings n (drop i us) ≡ all → new ++ all_meetings n (drop (i + 1) us) ≡ all
  all_step us i old new all h d e = carried old new (meet_from n (nth_end us i) (drop i us)) (all_meetings n (drop (i + 1) us)) all d (ap (λ l. old ++ l) (sym (all_front us i h)) ∙ e)

  pub all_end : (us : List (Of (Ended E))) (i : ℕ) (out all : List (Meeting E)) → length us ≤ i → out ++ all_meetings n (drop i us) ≡ all → out ≡ all
  all_end us i out all h e = sym (ap (λ l. out ++ all_meetings n l) (drop_of_length-le us h) ∙ append-nil out) ∙ e
