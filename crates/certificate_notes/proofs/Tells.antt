-- What is noted of places and loops tells of items alone.
use Rattle.std.proofs.Common.{◌≡◌, ℕ, Bool, true, false, cond, ◌&&◌, nat_eq, List, [], ◌∷◌, Option, None, Some, refl, ap, sym, ◌∙◌, subst}
use Rattle.std.proofs.lemmas.Bool.{and_parts}
use Rattle.semantics.specs.Launch as launch
use Rattle.facts.specs.Symbols.{Fact}
use Rattle.arrivals.specs.Places as places
use Rattle.obligations.specs.Notes as notes
use Rattle.obligations.specs.Listing.{is_some}
use Rattle.obligations.specs.Telling.{tells, all_tell, congruences_tell, multiples_tell, TellsOfItems}
use Rattle.obligations.specs.View.{same_number}
use Rattle.certificate_text.specs.Rules.{all}
use Rattle.kernel_names.specs.NameMap.{NameMap}
use Rattle.certificate_text.specs.Certificate as certificate
use Rattle.certificate_text.specs.Certificate.{Name, Anchor, KernelEntry, Barrier, Certificate}
use Rattle.certificate_notes.specs.Scenes.{Scene}
use Rattle.certificate_notes.specs.Sights.{Chart, chart_of, fact}
use Rattle.certificate_notes.specs.Noted.{put_first, each, Lines, lines_of, Ranked, bound_of, ranked, ranked_at, ranked_of, has_line, are_stated, Quoted, quotients_of, Noted, noted_all, noted_by, noted}
use Rattle.certificate_notes.specs.Stations.{loop_at, in_test}
use Rattle.certificate_notes.specs.Noting as noting
use Rattle.certificate_notes.proofs.LinesTell.{names, LinesTell, EachTells, MayEach, all-lines-tell}
use Rattle.certificate_notes.proofs.Telling.{FormTells}

-- rankings
abbrev pub RankedTell : List Ranked → Type 0
RankedTell [] = Unit {0}
RankedTell (r ∷ rs) = (tells false r.ranking.form ≡ true) × RankedTell rs

abbrev pub MayRank : Option Ranked → Type 0
MayRank None = Unit {0}
MayRank (Some r) = tells false r.ranking.form ≡ true

abbrev pub MayRanks : Option (List Ranked) → Type 0
MayRanks None = Unit {0}
MayRanks (Some rs) = RankedTell rs

ranked-tells : (n : ℕ) (f : Option Fact) (b : Option notes.Bound) → FormTells false f → MayRank (ranked n f b)
ranked-tells n None b h = tt
ranked-tells n (Some f) None h = tt
ranked-tells n (Some f) (Some b) h = h

ranked_at-tells : (c : Chart) (b : certificate.Bound) (o : Option Scene) → MayRank (ranked_at c b o)
ranked_at-tells c b None = tt
ranked_at-tells c b (Some s) = ranked-tells s.number (fact c (in_test s) b.form) (bound_of b.descent b.most) (names false c s.here [] s.around tt b.form)

first-ranked : (o : Option Ranked) (rs : Option (List Ranked)) → MayRank o → MayRanks rs → MayRanks (put_first o rs)
first-ranked None rs h k = tt
first-ranked (Some r) None h k = tt
first-ranked (Some r) (Some rs) h k = (h, k)

rankings-tell : (c : Chart) (bs : List certificate.Bound) → MayRanks (each (ranked_of c) bs)
rankings-tell c [] = tt
rankings-tell c (b ∷ bs) = first-ranked (ranked_of c b) (each (ranked_of c) bs) (ranked_at-tells c b (loop_at c.scenes b.loop)) (rankings-tell c bs)

-- all that is noted
pub record NotedTells (m : Noted) : Type 0 where
  pub places : EachTells m.places
  pub rankings : RankedTell m.rankings

abbrev pub MayNoted : Option Noted → Type 0
MayNoted None = Unit {0}
MayNoted (Some m) = NotedTells m

together : (is_wide joins : Bool) (c : Chart) (ls : Option (List Lines)) (rs : Option (List Ranked)) (qs : Option (List Quoted)) → MayEach ls → MayRanks rs → MayNoted (noted_all is_wide joins c ls rs qs)
together is_wide joins c None rs qs h k = tt
together is_wide joins c (Some ls) None qs h k = tt
together is_wide joins c (Some ls) (Some rs) None h k = tt
together is_wide joins c (Some ls) (Some rs) (Some qs) h k = record { places = h; rankings = k }

where-noted : (b : Bool) (o : Option Noted) → MayNoted o → MayNoted (cond b o None)
where-noted true o h = h
where-noted false o h = tt

noted-tells : (c : Chart) (ps : List places.Place) (cert : Certificate) → MayNoted (noted_by c ps cert)
noted-tells c ps cert = where-noted (all (has_line cert.bounds) c.scenes && all (are_stated c) cert.entries) _ (together cert.is_wide cert.joins c (each (lines_of c ps) cert.places) (each (ranked_of c) cert.bounds) (quotients_of c cert.entries) (all-lines-tell c ps cert.places) (rankings-tell c cert.bounds))

-- what is asked of it
same-some : (a b : Option ℕ) → same_number a b ≡ true → is_some a ≡ is_some b
same-some None None h = refl
same-some None (Some m) h = cc
same-some (Some n) None h = cc
same-some (Some n) (Some m) h = refl

found-facts : (b : Bool) (l : Lines) (h : Option ℕ) (fs : List Fact) → (b ≡ true → is_some l.head ≡ is_some h) → LinesTell l → all_tell (is_some h) fs ≡ true → all_tell (is_some h) (cond b l.facts fs) ≡ true
found-facts true l h fs e t k = ap (λ x. all_tell x l.facts) (sym (e refl)) ∙ t.facts
found-facts false l h fs e t k = k

found-congruences : (b : Bool) (l : Lines) (h : Option ℕ) (cs : List notes.Congruence) → (b ≡ true → is_some l.head ≡ is_some h) → LinesTell l → congruences_tell (is_some h) cs ≡ true → congruences_tell (is_some h) (cond b l.congruences cs) ≡ true
found-congruences true l h cs e t k = ap (λ x. congruences_tell x l.congruences) (sym (e refl)) ∙ t.congruences
found-congruences false l h cs e t k = k

found-multiples : (b : Bool) (l : Lines) (h : Option ℕ) (ms : List notes.Multiple) → (b ≡ true → is_some l.head ≡ is_some h) → LinesTell l → multiples_tell (is_some h) ms ≡ true → multiples_tell (is_some h) (cond b l.multiples ms) ≡ true
found-multiples true l h ms e t k = ap (λ x. multiples_tell x l.multiples) (sym (e refl)) ∙ t.multiples
found-multiples false l h ms e t k = k

of-head : (a h : Option ℕ) (l : Lines) → noting.is_of a h l ≡ true → is_some l.head ≡ is_some h
of-head a h l e = same-some l.head h (and_parts (same_number l.anchor a) (same_number l.head h) e).1

facts-told : (ls : List Lines) → EachTells ls → (a h : Option ℕ) → all_tell (is_some h) (noting.facts_of ls a h) ≡ true
facts-told [] t a h = refl
facts-told (l ∷ ls) t a h = found-facts (noting.is_of a h l) l h (noting.facts_of ls a h) (of-head a h l) t.0 (facts-told ls t.1 a h)

congruences-told : (ls : List Lines) → EachTells ls → (a h : Option ℕ) → congruences_tell (is_some h) (noting.congruences_of ls a h) ≡ true
congruences-told [] t a h = refl
congruences-told (l ∷ ls) t a h = found-congruences (noting.is_of a h l) l h (noting.congruences_of ls a h) (of-head a h l) t.0 (congruences-told ls t.1 a h)

multiples-told : (ls : List Lines) → EachTells ls → (a h : Option ℕ) → multiples_tell (is_some h) (noting.multiples_of ls a h) ≡ true
multiples-told [] t a h = refl
multiples-told (l ∷ ls) t a h = found-multiples (noting.is_of a h l) l h (noting.multiples_of ls a h) (of-head a h l) t.0 (multiples-told ls t.1 a h)

found-ranking : (b : Bool) (r s : notes.Ranking) → tells false r.form ≡ true → tells false s.form ≡ true → tells false (cond b r s).form ≡ true
found-ranking true r s h k = h
found-ranking false r s h k = k

rankings-told : (rs : List Ranked) → RankedTell rs → (n : ℕ) → tells false (noting.ranking_of rs n).form ≡ true
rankings-told [] t n = refl
rankings-told (r ∷ rs) t n = found-ranking (nat_eq r.loop n) r.ranking (noting.ranking_of rs n) t.0 (rankings-told rs t.1 n)

pub notes-tell : (m : Noted) (entries : List Bool) → NotedTells m → TellsOfItems (noting.notes_by m entries)
notes-tell m entries t = record { facts = facts-told m.places t.places; congruences = congruences-told m.places t.places; multiples = multiples-told m.places t.places; rankings = rankings-told m.rankings t.rankings }

pub told : (k : launch.Kernel) (tree : NameMap) (ps : List places.Place) (cert : Certificate) (m : Noted) → noted k tree ps cert ≡ Some m → NotedTells m
told k tree ps cert m e = subst MayNoted e (noted-tells (chart_of k tree) ps cert)
