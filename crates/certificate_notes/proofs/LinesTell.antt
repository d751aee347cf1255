-- What is noted of places tells of items alone.
use Rattle.std.proofs.Common.{◌≡◌, ℕ, Bool, true, false, cond, ◌&&◌, List, [], ◌∷◌, Option, None, Some, refl}
use Rattle.std.specs.Option.{option_map}
use Rattle.std.proofs.lemmas.Bool.{and_from}
use Rattle.linear.specs.Linear.{Form}
use Rattle.facts.specs.Symbols.{Fact, constant}
use Rattle.arrivals.specs.Places as places
use Rattle.obligations.specs.Notes as notes
use Rattle.obligations.specs.Listing.{is_some}
use Rattle.obligations.specs.Telling.{tells, all_tell, congruences_tell, multiples_tell}
use Rattle.certificate_text.specs.Certificate as certificate
use Rattle.certificate_text.specs.Certificate.{Name, Anchor, KernelEntry, Barrier, Certificate}
use Rattle.certificate_notes.specs.Scenes.{Named, Scene}
use Rattle.certificate_notes.specs.Sights.{Chart, Sight, fact}
use Rattle.certificate_notes.specs.Noted.{put_first, each, Lines, congruence, multiple, multiple_by, joined, lines_at, lines_of}
use Rattle.certificate_notes.specs.Stations.{scene_at, Station, at_barrier, at_head, head_behind, station, anchor_number, is_place}
use Rattle.certificate_notes.proofs.Telling.{FormTells, added-tells, symbol-tells, Fits}

abbrev pub Names : Bool → Chart → Sight → Type 0
Names b c s = (f : Form Name) → FormTells b (fact c s f)

pub names : (b : Bool) (c : Chart) (here before : List Named) (around : List ℕ) → Fits b before → Names b c (record { here = here; before = before; around = around; has_new = false; has_second = false })
names b c here before around h f = added-tells b c (record { here = here; before = before; around = around; has_new = false; has_second = false }) (symbol-tells b c here before around h) f.terms (constant f.constant) refl

abbrev pub AllTell : Bool → Option (List Fact) → Type 0
AllTell b None = Unit {0}
AllTell b (Some fs) = all_tell b fs ≡ true

abbrev pub AllDivide : Bool → Option (List notes.Congruence) → Type 0
AllDivide b None = Unit {0}
AllDivide b (Some cs) = congruences_tell b cs ≡ true

first-tells : (b : Bool) (f : Option Fact) (fs : Option (List Fact)) → FormTells b f → AllTell b fs → AllTell b (put_first f fs)
first-tells b None fs h k = tt
first-tells b (Some f) None h k = tt
first-tells b (Some f) (Some fs) h k = and_from (tells b f) (all_tell b fs) h k

facts-tell : (b : Bool) (c : Chart) (s : Sight) → Names b c s → (fs : List (Form Name)) → AllTell b (each (fact c s) fs)
facts-tell b c s h [] = refl
facts-tell b c s h (f ∷ fs) = first-tells b (fact c s f) (each (fact c s) fs) (h f) (facts-tell b c s h fs)

first-divides : (b : Bool) (m : ℕ) (f : Option Fact) (cs : Option (List notes.Congruence)) → FormTells b f → AllDivide b cs → AllDivide b (put_first (option_map (λ f'. record { modulus = m; form = f' }) f) cs)
first-divides b m None cs h k = tt
first-divides b m (Some f) None h k = tt
first-divides b m (Some f) (Some cs) h k = and_from (tells b f) (congruences_tell b cs) h k

congruences-tell : (b : Bool) (c : Chart) (s : Sight) → Names b c s → (gs : List certificate.Congruence) → AllDivide b (each (congruence c s) gs)
congruences-tell b c s h [] = refl
congruences-tell b c s h (g ∷ gs) = first-divides b g.modulus (fact c s g.form) (each (congruence c s) gs) (h g.form) (congruences-tell b c s h gs)

abbrev pub AllMultiply : Bool → Option (List notes.Multiple) → Type 0
AllMultiply b None = Unit {0}
AllMultiply b (Some ms) = multiples_tell b ms ≡ true

first-multiplies : (b : Bool) (f g : Option Fact) (ms : Option (List notes.Multiple)) → FormTells b f → FormTells b g → AllMultiply b ms → AllMultiply b (put_first (multiple_by f g) ms)
first-multiplies b None g ms h k l = tt
first-multiplies b (Some f) None ms h k l = tt
first-multiplies b (Some f) (Some g) None h k l = tt
first-multiplies b (Some f) (Some g) (Some ms) h k l = and_from (tells b f && tells b g) (multiples_tell b ms) (and_from (tells b f) (tells b g) h k) l

multiples-tell : (b : Bool) (c : Chart) (s : Sight) → Names b c s → (ms : List certificate.Multiple) → AllMultiply b (each (multiple c s) ms)
multiples-tell b c s h [] = refl
multiples-tell b c s h (m ∷ ms) = first-multiplies b (fact c s m.form) (fact c s m.of) (each (multiple c s) ms) (h m.form) (h m.of) (multiples-tell b c s h ms)

-- lines
pub record LinesTell (l : Lines) : Type 0 where
  pub facts : all_tell (is_some l.head) l.facts ≡ true
  pub congruences : congruences_tell (is_some l.head) l.congruences ≡ true
  pub multiples : multiples_tell (is_some l.head) l.multiples ≡ true

abbrev pub MayLines : Option Lines → Type 0
MayLines None = Unit {0}
MayLines (Some l) = LinesTell l

joined-tell : (st : Station) (ns : Option (List ℕ)) (fs : Option (List Fact)) (cs : Option (List notes.Congruence)) (ms : Option (List notes.Multiple)) → AllTell (is_some st.head) fs → AllDivide (is_some st.head) cs → AllMultiply (is_some st.head) ms → MayLines (joined st ns fs cs ms)
joined-tell st None fs cs ms h k l = tt
joined-tell st (Some ns) None cs ms h k l = tt
joined-tell st (Some ns) (Some fs) None ms h k l = tt
joined-tell st (Some ns) (Some fs) (Some cs) None h k l = tt
joined-tell st (Some ns) (Some fs) (Some cs) (Some ms) h k l = record { facts = h; congruences = k; multiples = l }

station-tells : (c : Chart) (p : certificate.Place) (st : Station) → Names (is_some st.head) c st.sight → MayLines (lines_at c p (Some st))
station-tells c p st h = joined-tell st _ _ _ _ (facts-tell (is_some st.head) c st.sight h p.facts) (congruences-tell (is_some st.head) c st.sight h p.congruences) (multiples-tell (is_some st.head) c st.sight h p.multiples)

barrier-tells : (c : Chart) (p : certificate.Place) (o : Option Scene) → MayLines (lines_at c p (option_map at_barrier o))
barrier-tells c p None = tt
barrier-tells c p (Some b) = station-tells c p (at_barrier b) (names false c b.here [] b.around tt)

head-tells : (c : Chart) (p : certificate.Place) (a : Option ℕ) (before : List Named) (h : Scene) → MayLines (lines_at c p (Some (at_head a before h)))
head-tells c p a before h = station-tells c p (at_head a before h) (names true c h.here before h.around tt)

entry-tells : (c : Chart) (p : certificate.Place) (before : List Named) (o : Option Scene) → MayLines (lines_at c p (option_map (at_head None before) o))
entry-tells c p before None = tt
entry-tells c p before (Some h) = head-tells c p None before h

behind-tells : (c : Chart) (p : certificate.Place) (b h : Option Scene) → MayLines (lines_at c p (head_behind b h))
behind-tells c p None h = tt
behind-tells c p (Some b) None = tt
behind-tells c p (Some b) (Some h) = head-tells c p (Some b.number) b.here h

place-tells : (c : Chart) (p : certificate.Place) (a : Anchor) (h : Option ℕ) → MayLines (lines_at c p (station c a h))
place-tells c p KernelEntry None = tt
place-tells c p KernelEntry (Some h) = entry-tells c p c.entry (scene_at c.scenes h)
place-tells c p (Barrier b) None = barrier-tells c p (scene_at c.scenes b)
place-tells c p (Barrier b) (Some h) = behind-tells c p (scene_at c.scenes b) (scene_at c.scenes h)

where-tells : (b : Bool) (o : Option Lines) → MayLines o → MayLines (cond b o None)
where-tells true o h = h
where-tells false o h = tt

lines-tell : (c : Chart) (ps : List places.Place) (p : certificate.Place) → MayLines (lines_of c ps p)
lines-tell c ps p = where-tells (is_place ps (anchor_number p.spot.anchor) p.spot.head) (lines_at c p (station c p.spot.anchor p.spot.head)) (place-tells c p p.spot.anchor p.spot.head)

abbrev pub EachTells : List Lines → Type 0
EachTells [] = Unit {0}
EachTells (l ∷ ls) = LinesTell l × EachTells ls

abbrev pub MayEach : Option (List Lines) → Type 0
MayEach None = Unit {0}
MayEach (Some ls) = EachTells ls

first-lines : (o : Option Lines) (ls : Option (List Lines)) → MayLines o → MayEach ls → MayEach (put_first o ls)
first-lines None ls h k = tt
first-lines (Some l) None h k = tt
first-lines (Some l) (Some ls) h k = (h, k)

pub all-lines-tell : (c : Chart) (ps : List places.Place) (xs : List certificate.Place) → MayEach (each (lines_of c ps) xs)
all-lines-tell c ps [] = tt
all-lines-tell c ps (p ∷ xs) = first-lines (lines_of c ps p) (each (lines_of c ps) xs) (lines-tell c ps p) (all-lines-tell c ps xs)
