-- Going over the entries of a text, and opening it again.
use Rattle.std.proofs.Common.{◌≡◌, ℕ, Bool, true, false, ◌&&◌, ◌||◌, List, [], ◌∷◌, ◌++◌, Option, None, Some, Ok, Err, refl, ap, sym, subst, ◌∙◌, append_assoc}
use Rattle.std.specs.Prelude.{Result, IfOk, IfErr}
use Rattle.std.specs.Option.{option_map}
use Rattle.std.proofs.lemmas.Bool.{and_parts}
use Rattle.semantics.specs.Launch as semantics
use Rattle.arrivals.specs.Places.{Place}
use Rattle.kernel_names.specs.NameMap.{NameMap}
use Rattle.certificate_text.specs.Certificate.{Certificate, CertificateFault, Entry}
use Rattle.certificate_text.specs.Reading.{Read, unless}
use Rattle.certificate_text.specs.Rules.{all, rises, is_place, place_is_before, is_bound, bound_is_before, is_entry, entry_is_before, is_narrow, is_written, is_any_certificate}
use Rattle.certificate.specs.EntriesLeft.{Left, with_first, with_entries, gathered as all_gathered}
use Rattle.certificate.specs.EntryAnswers.{Ceases}
use Rattle.certificate.specs.Certificates.{Refuses}
use Rattle.certificate.specs.declared.error.CertError.{CertError}
use Rattle.certificate.proofs.EntriesGathered.{refused_text}
use Rattle.certificate.proofs.Readable.{in_good, any_good}
use Rattle.certificate_notes.specs.Gathered.{gathered}
use Rattle.certificate_notes.specs.Noted.{noted_by}
use Rattle.certificate_notes.specs.NotesView.{notes}
use Rattle.certificate_notes.specs.Sights.{Chart, chart_of}
use Rattle.certificate_notes.specs.declared.gathering.Gathering.{Gathering}
use Rattle.entry_check.specs.Entries.{AreFlags}
use Rattle.cert_check.specs.Breadth.{text_says}
use Rattle.cert_check.specs.Told.{IsToldOf}
use Rattle.cert_check.specs.declared.first_pass.Told.{Told}

-- what entries, and the flags of these, add to notes and to flags that have none of them as yet
abbrev pub Gathers : Chart → (before behind : Gathering) → List Entry → Type 0
Gathers c before behind es = (ps : List Place) (cert : Certificate) → gathered before ≡ noted_by c ps (with_entries [] cert) → gathered behind ≡ noted_by c ps (with_entries es cert)

abbrev pub Flags : (before behind : List Bool) → List Entry → Type 0
Flags before behind es = AreFlags [] before → AreFlags es behind

-- one entry more was given
pub one_over : (whole rest behind : Left) (so : List Entry) (e : Entry) → whole ≡ with_first so rest → rest ≡ with_first (e ∷ []) behind → whole ≡ with_first (so ++ e ∷ []) behind
one_over whole rest behind so e p q =
    p ∙ ap (with_first so) q ∙ ap (λ es. record { entries = es; fault = behind.fault }) (sym (append_assoc so (e ∷ []) behind.entries))

-- what a text tells of a kernel whose names are these
module _ (is_wide : Bool) (text : List ℕ) (k : semantics.Kernel) (tree : NameMap) (ps : List Place) (f : Certificate) (l : Left) (says : text_says is_wide text ≡ all_gathered f l) where
  pub told_whole : (names : Chart) (r : Result Told CertError) → names ≡ chart_of k tree → IfOk r (λ _. l.fault ≡ None) → IfOk r (λ t. option_map notes t.notes ≡ noted_by names ps (with_entries l.entries f)) → IfOk r (λ t. AreFlags l.entries t.flags.items) → IfOk r (IsToldOf is_wide k tree ps text)
  told_whole names (Ok t) n h m g =
      let cert = with_entries l.entries f in
      record { certificate = cert; says = says ∙ ap (λ x. unless x (Ok cert)) h; noted = m ∙ ap (λ c. noted_by c ps cert) n; flags = g }
  told_whole names (Err e) n h m g = tt

  pub told_refused : (r : Result Told CertError) → IfErr r (λ e. Ceases e l) → IfErr r (λ e. Refuses e (text_says is_wide text))
  told_refused (Ok t) h = tt
  told_refused (Err e) h = subst (Refuses e) (sym says) (refused_text e f l h)

-- what a text says where there is no fault behind its entries
on_fault : (fault : Option CertificateFault) (f : Certificate) (es : List Entry) (cert : Certificate) → unless fault (Ok (with_entries es f)) ≡ Ok cert → (fault ≡ None) × (es ≡ cert.entries)
on_fault None f es cert e = let q : with_entries es f ≡ cert = cc in (refl, ap (λ (c : Certificate). c.entries) q)
on_fault (Some x) f es cert e = absurd cc

pub opened_again : (answer : Read) (cert f : Certificate) (l : Left) → answer ≡ Ok cert → answer ≡ all_gathered f l → (l.fault ≡ None) × (l.entries ≡ cert.entries)
opened_again answer cert f l p q = on_fault l.fault f l.entries cert (sym q ∙ p)

-- the entries of a text rise
good : (is_wide : Bool) (text : List ℕ) (cert : Certificate) → text_says is_wide text ≡ Ok cert → is_any_certificate cert ≡ true
good false text cert e = in_good text cert e
good true text cert e = any_good text cert e

pub entries_rise : (is_wide : Bool) (text : List ℕ) (cert : Certificate) → text_says is_wide text ≡ Ok cert → rises entry_is_before cert.entries ≡ true
entries_rise is_wide text cert e =
    let a = and_parts (cert.is_wide || is_narrow cert) (is_written cert) (good is_wide text cert e) in
    let b = and_parts (all is_place cert.places && rises place_is_before cert.places) ((all is_bound cert.bounds && rises bound_is_before cert.bounds) && (all is_entry cert.entries && rises entry_is_before cert.entries)) a.1 in
    let d = and_parts (all is_bound cert.bounds && rises bound_is_before cert.bounds) (all is_entry cert.entries && rises entry_is_before cert.entries) b.1 in
    (and_parts (all is_entry cert.entries) (rises entry_is_before cert.entries) d.1).1
