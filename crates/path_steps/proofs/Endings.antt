-- A path with one end more, or with more behind its ends; and with one ranking more.
use Rattle.std.proofs.Common.{◌≡◌, ◌≤◌, ℕ, List, [], ◌∷◌, ◌++◌, length, map, refl, sym, ap, subst, ◌∙◌, append-nil}
use Rattle.std.specs.Prelude.{reverse}
use Rattle.std.specs.List.{All}
use Rattle.std.proofs.lemmas.List.{take-append-le, map-append, reverse-append}
use Rattle.std.proofs.lemmas.List.Elements.{All-head, All-tail}
use Rattle.linear.specs.Forms.{form, forms}
use Rattle.linear.specs.declared.form.Form.{Form}
use Rattle.linear.proofs.FormLists.{length-forms, forms_more}
use Rattle.facts.specs.Symbols.{Fact}
use Rattle.path_steps.specs.Before.{EndHasAll}
use Rattle.path_steps.specs.View.{ended_seen, held_seen, stop, turns, value, ranked, shared_seen}
use Rattle.path_steps.specs.declared.path.Arrived.{Arrived}
use Rattle.path_steps.specs.declared.path.Invented.{Invented}
use Rattle.path_steps.specs.declared.path.Narrowed.{Narrowed}
use Rattle.path_steps.specs.declared.path.Ranked.{Ranked}
use Rattle.path_steps.specs.declared.path.Shared.{Shared}
use Rattle.path_steps.proofs.Moves.{whole, all_of}

pub ends_more : {E : Type 0} (fs : List Form) (es : List (Invented E)) (ns : List (Narrowed E)) (cs ds : List Arrived) (c : Arrived) → ds ≡ cs ++ c ∷ [] → c.facts ≡ length fs → c.news ≡ length es → c.narrowed ≡ length ns → map (ended_seen (forms fs) es ns) ds ≡ map (ended_seen (forms fs) es ns) cs ++ record { arrived = record { stop = stop c.stop; turns = turns c.turns; variables = map value c.variables.items; held = held_seen es ns }; facts = forms fs } ∷ []
ends_more fs es ns cs ds c e n m k =
    ap (map (ended_seen (forms fs) es ns)) e ∙ map-append (ended_seen (forms fs) es ns) cs (c ∷ [])
    ∙ (λ i. map (ended_seen (forms fs) es ns) cs ++ record { arrived = record { stop = stop c.stop; turns = turns c.turns; variables = map value c.variables.items; held = held_seen (all_of es c.news m i) (all_of ns c.narrowed k i) }; facts = whole fs c.facts n i } ∷ [])

same_ends : {E : Type 0} (F G : List Fact) (A B : List (Invented E)) (M N : List (Narrowed E)) (n m k : ℕ) (cs : List Arrived) → n ≡ length F → m ≡ length A → k ≡ length M → All (EndHasAll n m k) cs → map (ended_seen (F ++ G) (A ++ B) (M ++ N)) cs ≡ map (ended_seen F A M) cs
same_ends F G A B M N n m k [] e d u h = refl
same_ends F G A B M N n m k (c ∷ cs) e d u h =
    let one = All-head (EndHasAll n m k) c cs h in
    λ i. record { arrived = record { stop = stop c.stop; turns = turns c.turns; variables = map value c.variables.items; held = held_seen (take-append-le c.news A B (subst (λ x. c.news ≤ x) d one.1.0) i) (take-append-le c.narrowed M N (subst (λ x. c.narrowed ≤ x) u one.1.1) i) }; facts = take-append-le c.facts F G (subst (λ x. c.facts ≤ x) e one.0) i } ∷ same_ends F G A B M N n m k cs e d u (All-tail (EndHasAll n m k) c cs h) i

pub ends_kept : {E : Type 0} (fs gs : List Form) (f : Form) (es : List (Invented E)) (ns : List (Narrowed E)) (cs : List Arrived) → gs ≡ fs ++ f ∷ [] → All (EndHasAll (length fs) (length es) (length ns)) cs → map (ended_seen (forms gs) es ns) cs ≡ map (ended_seen (forms fs) es ns) cs
ends_kept fs gs f es ns cs e h =
    (λ i. map (ended_seen (forms_more fs gs f e i) (sym (append-nil es) i) (sym (append-nil ns) i)) cs) ∙ same_ends (forms fs) (form f ∷ []) es [] ns [] (length fs) (length es) (length ns) cs (sym (length-forms fs)) refl refl h

pub ends_known : {E : Type 0} (fs : List Form) (es ds : List (Invented E)) (x : Invented E) (ns : List (Narrowed E)) (cs : List Arrived) → ds ≡ es ++ x ∷ [] → All (EndHasAll (length fs) (length es) (length ns)) cs → map (ended_seen (forms fs) ds ns) cs ≡ map (ended_seen (forms fs) es ns) cs
ends_known fs es ds x ns cs e h =
    (λ i. map (ended_seen (sym (append-nil (forms fs)) i) (e i) (sym (append-nil ns) i)) cs) ∙ same_ends (forms fs) [] es (x ∷ []) ns [] (length fs) (length es) (length ns) cs (sym (length-forms fs)) refl refl h

pub ends_narrowed : {E : Type 0} (fs : List Form) (es : List (Invented E)) (ns ms : List (Narrowed E)) (x : Narrowed E) (cs : List Arrived) → ms ≡ ns ++ x ∷ [] → All (EndHasAll (length fs) (length es) (length ns)) cs → map (ended_seen (forms fs) es ms) cs ≡ map (ended_seen (forms fs) es ns) cs
ends_narrowed fs es ns ms x cs e h =
    (λ i. map (ended_seen (sym (append-nil (forms fs)) i) (sym (append-nil es) i) (e i)) cs) ∙ same_ends (forms fs) [] es [] ns (x ∷ []) (length fs) (length es) (length ns) cs (sym (length-forms fs)) refl refl h

-- the latest one stands first
pub ranks_more : (rs ss : List Ranked) (r : Ranked) → ss ≡ rs ++ r ∷ [] → reverse (map ranked ss) ≡ ranked r ∷ reverse (map ranked rs)
ranks_more rs ss r e = ap (λ l. reverse (map ranked l)) e ∙ ap reverse (map-append ranked rs (r ∷ [])) ∙ reverse-append (map ranked rs) (ranked r ∷ [])

pub quotients_more : (qs rs : List Shared) (q : Shared) → rs ≡ qs ++ q ∷ [] → reverse (map shared_seen rs) ≡ shared_seen q ∷ reverse (map shared_seen qs)
quotients_more qs rs q e = ap (λ l. reverse (map shared_seen l)) e ∙ ap reverse (map-append shared_seen qs (q ∷ [])) ∙ reverse-append (map shared_seen qs) (shared_seen q ∷ [])
