-- Ends of paths by their numbers.
use Rattle.std.proofs.Common.{◌≡◌, ℕ, ◌<◌, true, zero, suc, refl, slice_index_or, List, [], ◌∷◌, length, map, get_or, sym, ap, ◌∙◌, subst, arith}
use Rattle.std.proofs.lemmas.List.{get_or-map, length-map}
use Rattle.std.proofs.lemmas.List.Elements.{All-get_or}
use Rattle.linear.specs.Forms.{forms}
use Rattle.walk_trees.specs.Trees as trees
use Rattle.path_steps.specs.Before.{EndHasAll}
use Rattle.path_steps.specs.View.{followed, ended_seen}
use Rattle.path_steps.specs.declared.path.Arrived.{Arrived}
use Rattle.path_steps.specs.declared.path.Path.{Path}
use Rattle.walk_trees.specs.Seconds.{is_own, are_own}
use Rattle.walk_trees.specs.Terms.{no_value}
use Rattle.walk_trees.specs.Values.{Value}
use Rattle.obligations.specs.Meetings.{first_form}
use Rattle.obligations.specs.Owning.{is_own_end, are_own_values}
use Rattle.std.proofs.lemmas.Bool.{and_parts}
use Rattle.two_thread.specs.Places.{rows, end_count}
use Rattle.two_thread.specs.Paths.{ends_on, tagged, ends_seen, no_end}
use Rattle.two_thread.specs.View.{met_ends, met_end, IsPlaceOfEnd}
use Rattle.two_thread.specs.declared.on_path.OnPath.{OnPath}
use Rattle.two_thread.specs.declared.met.Met.{Met}
use Rattle.two_thread.specs.declared.walked.Tagged.{Tagged}
use Rattle.two_thread.proofs.Copies.{own-end}
use Rattle.two_thread.proofs.Located.{Located, located, located-length}
use Rattle.two_thread.proofs.Nth.{nth_of, tag_from, zero_less}

length_ends_on : {E : Type 0} (p : Path E) → length (ends_on p) ≡ length p.ends.items
unfolding followed
length_ends_on p = length-map p.ends.items (ended_seen (forms p.facts.items) p.news.items p.narrowed.items)

pub length_ends : {E : Type 0} (t : Tagged E) → length (ends_seen t) ≡ length t.path.ends.items
length_ends t = length-map (ends_on t.path) (tagged t) ∙ length_ends_on t.path

nth_end_on : {E : Type 0} (p : Path E) (i : ℕ) (a : Arrived) (d : trees.Ended E) → i < length p.ends.items → a ≡ get_or p.ends.items i a → ended_seen (forms p.facts.items) p.news.items p.narrowed.items a ≡ get_or (ends_on p) i d
unfolding followed
nth_end_on p i a d h e =
    ap (ended_seen (forms p.facts.items) p.news.items p.narrowed.items) e
    ∙ sym (get_or-map (ended_seen (forms p.facts.items) p.news.items p.narrowed.items) p.ends.items i a d h)

pub end_facts_fit : {E : Type 0} (p : Path E) (i : ℕ) (a : Arrived) → i < length p.ends.items → a ≡ get_or p.ends.items i a → EndHasAll (length p.facts.items) (length p.news.items) (length p.narrowed.items) a
end_facts_fit p i a h e = subst (EndHasAll (length p.facts.items) (length p.news.items) (length p.narrowed.items)) (sym e) (All-get_or (EndHasAll (length p.facts.items) (length p.news.items) (length p.narrowed.items)) p.ends.items i a h p.ends_in)

pub length_met_ends : {E : Type 0} (m : Met E) → length m.ends.items ≡ length (met_ends m)
length_met_ends m = ap length m.ends_are ∙ located-length end_count ends_seen length_ends no_end m.paths.items 0

pub is_end_place : {E : Type 0} (m : Met E) (i : ℕ) (x : OnPath) → i < length m.ends.items → x ≡ get_or m.ends.items i x → IsPlaceOfEnd m i x
is_end_place m i x h e =
    let rs = rows 0 (map end_count m.paths.items) in
    let f : x ≡ get_or rs i x = e ∙ ap (λ l. get_or l i x) m.ends_are in
    let l : Located end_count ends_seen length_ends no_end m.paths.items 0 i (get_or rs i x) = located end_count ends_seen length_ends no_end m.paths.items 0 i x (let g = ap length m.ends_are in omega (arith, g, h)) in
    subst (IsPlaceOfEnd m i) (sym f) (omega (arith, l.last), λ p d. l.inside p (d ∙ ap (λ k. get_or m.paths.items k p) (zero_less (get_or rs i x).path)))

-- what stands at an end's place is that end
pub end_is : {E : Type 0} (m : Met E) (i : ℕ) (x : OnPath) (t : Tagged E) (a : Arrived) → IsPlaceOfEnd m i x → t ≡ get_or m.paths.items x.path t → a ≡ get_or t.path.ends.items x.item a → tagged t (ended_seen (forms t.path.facts.items) t.path.news.items t.path.narrowed.items a) ≡ met_end m i
end_is m i x t a h e d =
    let l = h.1 t e in
    let s = ended_seen (forms t.path.facts.items) t.path.news.items t.path.narrowed.items a in
    nth_of t (ends_on t.path) x.item (length t.path.ends.items) s s no_end (length_ends_on t.path) l.0 (nth_end_on t.path x.item a s l.0 d) ∙ l.1

pub end_tag : {E : Type 0} (m : Met E) (i : ℕ) (x : OnPath) (t : Tagged E) → IsPlaceOfEnd m i x → t ≡ get_or m.paths.items x.path t → (t.anchor ≡ (met_end m i).anchor) × (t.is_head ≡ (met_end m i).is_head)
end_tag m i x t h e = let l = h.1 t e in tag_from t (ends_on t.path) x.item (length t.path.ends.items) no_end (met_end m i) (length_ends_on t.path) l.0 l.1

pub met-own_end : {E : Type 0} (m : Met E) (i : ℕ) → i < length m.ends.items → is_own_end (met_end m i).it ≡ true
met-own_end m i h = own-end (met_ends m) i no_end (let l = length_met_ends m in omega (arith, l, h)) m.own_ends

own-at : (vs : List Value) (x : ℕ) → are_own_values vs ≡ true → is_own (slice_index_or vs x no_value).form ≡ true
own-at [] x o = refl
own-at (v ∷ vs) zero o = (and_parts (is_own v.form) (are_own_values vs) o).0
own-at (v ∷ vs) (suc x) o = own-at vs x (and_parts (is_own v.form) (are_own_values vs) o).1

pub variable-own : {E : Type 0} (m : Met E) (i x : ℕ) → i < length m.ends.items → is_own (first_form (met_end m i) x) ≡ true
variable-own m i x h = own-at (met_end m i).it.arrived.variables x (and_parts (are_own_values (met_end m i).it.arrived.variables) (are_own (met_end m i).it.facts) (met-own_end m i h)).0
