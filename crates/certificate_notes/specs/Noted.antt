-- What a certificate says of a kernel's places and loops, in slots and symbols; nothing where it names what the kernel lacks.
use Rattle.std.specs.Prelude.{ℕ, ℤ, pos, suc, ◌^◌, Bool, true, false, cond, not, ◌&&◌, ◌||◌, nat_eq, nat_le, nat_lt, List, [], ◌∷◌, map, Option, None, Some, is_some}
use Rattle.std.specs.Option.{option_map}
use Rattle.linear.specs.Linear.{Form}
use Rattle.semantics.specs.Launch as launch
use Rattle.facts.specs.Symbols.{Fact}
use Rattle.arrivals.specs.Places as places
use Rattle.obligations.specs.Notes as notes
use Rattle.certificate_text.specs.Rules.{all}
use Rattle.lines.specs.Lines.{is_natural}
use Rattle.kernel_names.specs.NameMap.{NameMap}
use Rattle.certificate_text.specs.Certificate as certificate
use Rattle.certificate_text.specs.Certificate.{Descent, Down, Halve, Double, EntrySort, Show, Positive, Negative, Quotient, Name, Certificate}
use Rattle.certificate_notes.specs.Scenes.{Named, Scene}
use Rattle.certificate_notes.specs.Stations.{loop_at, Station, station, anchor_number, is_place, in_test}
use Rattle.certificate_notes.specs.Sights.{Chart, chart_of, Sight, slot_of, fact}

-- what a test makes of each, where it makes something of all
abbrev pub put_first : {B : Type 0} → Option B → Option (List B) → Option (List B)
put_first None rest = None
put_first (Some b) None = None
put_first (Some b) (Some bs) = Some (b ∷ bs)

abbrev pub each : {A B : Type 0} → (A → Option B) → List A → Option (List B)
each f [] = Some []
each f (a ∷ others) = put_first (f a) (each f others)

-- what is said of a place
pub record Lines : Type 0 where
  pub anchor : Option ℕ
  pub head : Option ℕ
  pub same : List ℕ
  pub facts : List Fact
  pub congruences : List notes.Congruence
  pub multiples : List notes.Multiple

-- slots rise in the order of declaration
abbrev pub rise : (least : ℕ) → List ℕ → Bool
rise least [] = true
rise least (n ∷ ns) = nat_le least n && rise (suc n) ns

abbrev pub rising : Option (List ℕ) → Option (List ℕ)
rising None = None
rising (Some ns) = cond (rise 0 ns) (Some ns) None

abbrev pub congruence : Chart → Sight → certificate.Congruence → Option notes.Congruence
congruence c s g = option_map (λ f. record { modulus = g.modulus; form = f }) (fact c s g.form)

abbrev pub multiple_by : (form of : Option Fact) → Option notes.Multiple
multiple_by None g = None
multiple_by (Some f) None = None
multiple_by (Some f) (Some g) = Some (record { of = g; form = f })

abbrev pub multiple : Chart → Sight → certificate.Multiple → Option notes.Multiple
multiple c s m = multiple_by (fact c s m.form) (fact c s m.of)

abbrev pub joined : Station → Option (List ℕ) → Option (List Fact) → Option (List notes.Congruence) → Option (List notes.Multiple) → Option Lines
joined st None fs cs ms = None
joined st (Some ns) None cs ms = None
joined st (Some ns) (Some fs) None ms = None
joined st (Some ns) (Some fs) (Some cs) None = None
joined st (Some ns) (Some fs) (Some cs) (Some ms) = Some (record { anchor = st.anchor; head = st.head; same = ns; facts = fs; congruences = cs; multiples = ms })

abbrev pub lines_at : Chart → certificate.Place → Option Station → Option Lines
lines_at c p None = None
lines_at c p (Some st) = joined st (rising (each (slot_of st.agreeing) p.same)) (each (fact c st.sight) p.facts) (each (congruence c st.sight) p.congruences) (each (multiple c st.sight) p.multiples)

abbrev pub lines_of : Chart → List places.Place → certificate.Place → Option Lines
lines_of c ps p = cond (is_place ps (anchor_number p.spot.anchor) p.spot.head) (lines_at c p (station c p.spot.anchor p.spot.head)) None

-- how a loop ends
pub record Ranked : Type 0 where
  pub loop : ℕ
  pub ranking : notes.Ranking

-- from where on a form doubles: a number above 0 of the text
abbrev pub least_of : ℕ → Option ℤ
least_of n = cond (is_natural n && not (nat_eq n 0)) (Some (pos n)) None

abbrev pub bound_of : Descent → ℤ → Option notes.Bound
bound_of (Down step) most = cond (nat_eq step 0) None (Some (notes.Down step most))
bound_of Halve most = Some (notes.Halving most)
bound_of (Double least) most = option_map (λ l. notes.Doubling l most) (least_of least)

abbrev pub ranked : ℕ → Option Fact → Option notes.Bound → Option Ranked
ranked n None b = None
ranked n (Some f) None = None
ranked n (Some f) (Some b) = Some (record { loop = n; ranking = record { form = f; bound = b } })

abbrev pub ranked_at : Chart → certificate.Bound → Option Scene → Option Ranked
ranked_at c b None = None
ranked_at c b (Some s) = ranked s.number (fact c (in_test s) b.form) (bound_of b.descent b.most)

abbrev pub ranked_of : Chart → certificate.Bound → Option Ranked
ranked_of c b = ranked_at c b (loop_at c.scenes b.loop)

abbrev pub is_bounded : List certificate.Bound → ℕ → Bool
is_bounded [] n = false
is_bounded (b ∷ bs) n = nat_eq b.loop n || is_bounded bs n

-- each loop has a line
abbrev pub has_line : List certificate.Bound → Scene → Bool
has_line bs s = not s.is_loop || is_bounded bs s.number

-- the quotient that an entry names
pub record Quoted : Type 0 where
  pub claim : ℕ
  pub form : Fact

-- the names of all variables and loops of the kernel; of two declarations of one name the first
abbrev pub loops_among : List Scene → List ℕ
loops_among [] = []
loops_among (s ∷ ss) = cond s.is_loop (s.number ∷ loops_among ss) (loops_among ss)

abbrev pub anywhere : Chart → Sight
anywhere c = record { here = c.names; before = c.names; around = loops_among c.scenes; has_new = true; has_second = false }

-- names of two items: a second item has those of the first one
abbrev pub of_both : Chart → Sight
of_both c = record { here = c.names; before = c.names; around = loops_among c.scenes; has_new = true; has_second = true }

-- what a lemma says in symbols, where the kernel has all that it names
abbrev pub lemma_form : Chart → Form Name → Option Fact
lemma_form c f = fact c (of_both c) f

abbrev pub stated : launch.Kernel → NameMap → Form Name → Option Fact
stated k names f = lemma_form (chart_of k names) f

abbrev pub is_stated : Chart → certificate.Lemma → Bool
is_stated c l = is_some (lemma_form c l.form)

abbrev pub are_stated : Chart → certificate.Entry → Bool
are_stated c e = all (is_stated c) e.lemmas

abbrev pub quoted : ℕ → Option Fact → Option (List Quoted) → Option (List Quoted)
quoted n f rest = cond (nat_lt n (2 ^ 32)) (put_first (option_map (λ q. record { claim = n; form = q }) f) rest) None

abbrev pub quoted_first : Chart → ℕ → EntrySort → Option (List Quoted) → Option (List Quoted)
quoted_first c n Show rest = rest
quoted_first c n Positive rest = rest
quoted_first c n Negative rest = rest
quoted_first c n (Quotient f) rest = quoted n (fact c (anywhere c) f) rest

abbrev pub quotients_of : Chart → List certificate.Entry → Option (List Quoted)
quotients_of c [] = Some []
quotients_of c (e ∷ es) = quoted_first c e.obligation e.sort (quotients_of c es)

-- the slots whose ranges are known at a statement, at the entry where there is none
pub record Visible : Type 0 where
  pub statement : Option ℕ
  pub slots : List ℕ

abbrev pub slot : Named → ℕ
slot n = n.slot

abbrev pub visible_at : Scene → Visible
visible_at s = record { statement = Some s.number; slots = map slot s.here }

abbrev pub visible_in : Chart → List Visible
visible_in c = record { statement = None; slots = map slot c.entry } ∷ map visible_at c.scenes

-- all that is said, whether the walk is the wide one, and whether it joins ways
pub record Noted : Type 0 where
  pub is_wide : Bool
  pub joins : Bool
  pub places : List Lines
  pub rankings : List Ranked
  pub visible : List Visible
  pub quotients : List Quoted

abbrev pub noted_all : (is_wide joins : Bool) → Chart → Option (List Lines) → Option (List Ranked) → Option (List Quoted) → Option Noted
noted_all is_wide joins c None rs qs = None
noted_all is_wide joins c (Some ls) None qs = None
noted_all is_wide joins c (Some ls) (Some rs) None = None
noted_all is_wide joins c (Some ls) (Some rs) (Some qs) = Some (record { is_wide = is_wide; joins = joins; places = ls; rankings = rs; visible = visible_in c; quotients = qs })

abbrev pub noted_by : Chart → List places.Place → Certificate → Option Noted
noted_by c ps cert = cond (all (has_line cert.bounds) c.scenes && all (are_stated c) cert.entries) (noted_all cert.is_wide cert.joins c (each (lines_of c ps) cert.places) (each (ranked_of c) cert.bounds) (quotients_of c cert.entries)) None

abbrev pub noted : launch.Kernel → NameMap → List places.Place → Certificate → Option Noted
noted k names ps cert = noted_by (chart_of k names) ps cert
