-- What is written of the texts that were asked about.
use Rattle.std.proofs.Common.{◌≡◌, ℕ, List, [], ◌∷◌, ◌++◌, map, Bool, false, inl, inr, refl, sym, ap, ◌∙◌, subst, append_assoc}
use Rattle.std.specs.Prelude.{◌⊎◌, Option, Some, None, Result, Ok, Err, IfSome, IfOk, Vec, String}
use Rattle.std.specs.declared.alloc.Global.{Global}
use Rattle.std.specs.String.{string_bytes}
use Rattle.kernel_reading.specs.Kernels.{Reading, Source, narrow, text_for, text_under}
use Rattle.reading.specs.Answers as kernels
use Rattle.launch_text.specs.Answers as launches
use Rattle.cert_check.specs.Numbers as checks
use Rattle.executor.specs.Numbers as runs
use Rattle.executor.specs.declared.error.RunError.TheVariants.{Unreckoned}
use Rattle.proof_search.specs.Numbers as searches
use Rattle.std.proofs.lemmas.List.{append-nil}
use Rattle.findings.specs.View.{finding as finding_seen}
use Rattle.telling.specs.Refusals.{IsRefusalLine, refusal_line, place_seen}
use Rattle.telling.specs.Refusing.{IsRefusedText, IsRefusedKernel, IsUnanswered}
use Rattle.telling.specs.Proving.{IsProvedText, IsUnproved, proved_lines, found, findings_text}
use Rattle.semantics.specs.Launch.{Launch, Kernel, Fits}
use Rattle.semantics.specs.Conditions.{Conditions, Meets}
use Rattle.launch.specs.Least.{probe}
use Rattle.launch.specs.View.{conditions as conditions_seen}
use Rattle.telling.specs.Telling.{IsAcceptedText, accepted_line}
use Rattle.telling.specs.Proving.{no_launch_line}
use Rattle.telling.specs.ProvingVerdicts.{Begins, Explains, IsProvedBySome}
use Rattle.telling.specs.Migrating.{IsUnmigrated}
use Rattle.telling.specs.Showing.{IsUnshown}
use Rattle.cert_check.specs.declared.error.CheckError.TheVariants as errors
use Rattle.program.specs.Running.{limit_by, kernel_read, conditions_read, certificate_read, saving, Request, CheckOwn, Check, Run, Prove, Explain, ExplainCheck, Print, Show, ShowAlone, Migrate, Texts, Asks, Answered, IsSafeText, IsSought, Fulfils}
use Rattle.program.specs.Running.{Read, Write, IsOf, Reads, Does, Saves, IsRefusalText, Success, Output, done, refused, silent, torn}
use Rattle.program.specs.Refusing.{Refuses, Refusal}
use Rattle.program.specs.Verdicts.{IsAnsweredBy, Tells, Finds, Kept, Moves, Moved, Explained, IsTold, IsWritten}
use Rattle.telling.specs.declared.Verdict.{Verdict}
use Rattle.telling.specs.declared.Verdict.TheVariants as verdicts

-- a line that refuses has a number and a place
check_line : (is_wide : Bool) (k : Source) (c p line : List ℕ) → IsRefusedText is_wide k c p line → IsRefusalLine line
check_line is_wide k c p line (e, r, h) = (checks.error_number e, place_seen (checks.error_place e), h)

run_line : (is_wide : Bool) (workers : ℕ) (k : Source) (c p l line : List ℕ) → IsUnanswered is_wide workers k c p l line → IsRefusalLine line
run_line is_wide workers k c p l line (inl h) = check_line is_wide k c p line h
run_line is_wide workers k c p l line (inr (inl (kernel, conditions, s, r, h))) = (runs.error_number Unreckoned, place_seen (checks.at_line (runs.error_line Unreckoned)), h)
run_line is_wide workers k c p l line (inr (inr (inl (e, kernel, conditions, s, r, h)))) = (launches.error_number e, place_seen (checks.at_line (launches.error_place e)), h)
run_line is_wide workers k c p l line (inr (inr (inr (e, kernel, conditions, launch, s, q, r, h)))) = (runs.error_number e, place_seen (checks.at_line (runs.error_line e)), h)

print_line : (k line : List ℕ) → IsRefusedKernel k line → IsRefusalLine line
print_line k line (e, r, h) = (kernels.error_number e, place_seen (checks.at_place (kernels.error_place e)), h)

show_line : (k : Source) (line : List ℕ) → IsUnshown k line → IsRefusalLine line
show_line k line (p, (e, r, h)) = (checks.error_number (errors.Kernel e), place_seen (checks.error_place (errors.Kernel e)), h)

migrate_line : (old line : List ℕ) → IsUnmigrated old line → IsRefusalLine line
migrate_line old line (e, r, h) = (checks.error_number (errors.Certificate e), place_seen (checks.error_place (errors.Certificate e)), h)

search_text : (is_wide : Bool) (workers : ℕ) (kernel : Source) (conditions text : List ℕ) → IsUnproved is_wide workers kernel conditions text → IsRefusalText text
search_text is_wide workers kernel conditions text (e, h) =
    (refusal_line (searches.error_number e) (place_seen (searches.error_place e)), findings_text (map finding_seen (found e)), (searches.error_number e, place_seen (searches.error_place e), refl), h.lines)

-- with nothing behind it
alone : (line : List ℕ) → IsRefusalLine line → IsRefusalText line
alone line h = (line, [], h, sym (append-nil line))

-- with more behind it
begun : (tells : List ℕ → Type 0) → ((told : List ℕ) → tells told → IsRefusalText told) → (text : List ℕ) → Begins tells text → IsRefusalText text
begun tells f text h =
    let r = f h.0 h.2 in
    (r.0, r.1 ++ h.1, r.2, h.3 ∙ ap (λ t. t ++ h.1) r.3 ∙ append_assoc r.0 r.1 h.1)

text_of : (r : Request) (t : Texts) (saved : Option Write) (text : List ℕ) → Refuses r t saved text → IsRefusalText text
text_of CheckOwn t saved text h = alone text (check_line false _ _ _ text h)
text_of (Check k c p wide r) t saved text h = alone text (check_line wide (text_under r t.conditions t.kernel) t.conditions t.certificate text h)
text_of (Run k c p l workers wide r) t saved text h = alone text (run_line wide workers (text_under r t.conditions t.kernel) t.conditions t.certificate t.launch text h)
text_of (Prove k c workers out wide r) t saved text h = search_text wide workers (text_under r t.conditions t.kernel) t.conditions text h.0
text_of (Explain k c wide r) t saved text h = begun (IsUnproved wide 1 (text_under r t.conditions t.kernel) t.conditions) (search_text wide 1 (text_under r t.conditions t.kernel) t.conditions) text h
text_of (ExplainCheck k c p wide r) t saved text h =
    let kernel = text_under r t.conditions t.kernel in
    begun (IsRefusedText wide kernel t.conditions t.certificate) (λ line refusal. alone line (check_line wide kernel t.conditions t.certificate line refusal)) text h
text_of (Print k) t saved text h = alone text (print_line t.kernel text h)
text_of (Show k c r) t saved text h = alone text (show_line (text_under r t.conditions t.kernel) text h)
text_of (ShowAlone k r) t saved text h = alone text (show_line (text_for r t.kernel) text h)
text_of (Migrate o n) t saved text h = alone text (migrate_line t.certificate text h.0)

-- what a verdict tells fulfils the request, or refuses it
fulfils : (text : Vec ℕ Global) (r : Request) (t : Texts) (saved : Option Write) → IsAnsweredBy (verdicts.Done text) r t saved → Fulfils IsProvedText r t saved text.items
fulfils text CheckOwn t saved h = h
fulfils text (Check k c p wide r) t saved h = h
fulfils text (Run k c p l workers wide r) t saved h = h
fulfils text (Prove k c workers out wide r) t saved h = h
fulfils text (Explain k c wide r) t saved h = h
fulfils text (ExplainCheck k c p wide r) t saved h = h
fulfils text (Print k) t saved h = h
fulfils text (Show k c r) t saved h = h
fulfils text (ShowAlone k r) t saved h = h
fulfils text (Migrate o n) t saved h = h

refuses : (line : String Global) (r : Request) (t : Texts) (saved : Option Write) → IsAnsweredBy (verdicts.Refused line) r t saved → Refuses r t saved (string_bytes line)
refuses line CheckOwn t saved h = h
refuses line (Check k c p wide r) t saved h = h
refuses line (Run k c p l workers wide r) t saved h = h
refuses line (Prove k c workers out wide r) t saved h = h
refuses line (Explain k c wide r) t saved h = h
refuses line (ExplainCheck k c p wide r) t saved h = h
refuses line (Print k) t saved h = h
refuses line (Show k c r) t saved h = h
refuses line (ShowAlone k r) t saved h = h
refuses line (Migrate o n) t saved h = h

module _ (given : List Read → Option Write → Type 0) (ws : List (List ℕ)) (old new : Option (List ℕ)) (status : ℕ) where
  abbrev Gained : Type 0
  Gained = Output (Success given IsProvedText ws) (Refusal given ws) old new status

  -- the same request, of which more is told
  told_by : (P Q : Request → Texts → Option Write → Type 0) → ((r : Request) (t : Texts) (saved : Option Write) → P r t saved → Q r t saved) → Answered given ws P → Answered given ws Q
  told_by P Q f a = record { request = a.request; texts = a.texts; saved = a.saved; asked = a.asked; done = a.done; may_write = a.may_write; is_told = f a.request a.texts a.saved a.is_told }

  of_text : (text : List ℕ) → Success given IsProvedText ws text → IsWritten text old new 0 status → Gained
  of_text text s (inl h) = done h.0 text s h.1
  of_text text s (inr h) = torn h.0 text h.1.0 (inl s) h.1.1

  of_line : (line : List ℕ) → Refusal given ws line → IsWritten line old new 1 status → Gained
  of_line line s (inl h) = refused h.0 line (text_of s.request s.texts s.saved line s.is_told) s h.1
  of_line line s (inr h) = torn h.0 line h.1.0 (inr s) h.1.1

  pub output_of : (v : Verdict) → Tells given ws v → IsTold v old new status → Output (Success given IsProvedText ws) (Refusal given ws) old new status
  output_of (verdicts.Done text) s h = of_text text.items (told_by (IsAnsweredBy (verdicts.Done text)) (λ r t saved. Fulfils IsProvedText r t saved text.items) (fulfils text) s) h
  output_of (verdicts.Refused line) s h = of_line (string_bytes line) (told_by (IsAnsweredBy (verdicts.Refused line)) (λ r t saved. Refuses r t saved (string_bytes line)) (refuses line) s) h
  output_of verdicts.OutOfMemory s h = silent (inr (inr h.0)) h.1

-- one read more
pub reads-more : {F : Type 0} (contents : F → List ℕ → Option (List ℕ)) (gives : F → List ℕ → ℕ → List ℕ → F → Type 0) (before next after : F) (rs : List Read) (r : Read) →
    Reads contents gives before next rs → gives next r.name r.limit r.bytes after → IsOf (contents next) r → Reads contents gives before after (rs ++ r ∷ [])
reads-more contents gives before next after [] r h g k = (after, subst (λ f. gives f r.name r.limit r.bytes after) h g, subst (λ f. IsOf (contents f) r) h k, refl)
reads-more contents gives before next after (x ∷ rs) r h g k = (h.0, h.1, h.2, reads-more contents gives h.0 next after rs r h.3 g k)

-- and then a text, where one is written
pub does : {F : Type 0} (contents : F → List ℕ → Option (List ℕ)) (gives : F → List ℕ → ℕ → List ℕ → F → Type 0) (before next after : F) (rs : List Read) (w : Option Write) →
    Reads contents gives before next rs → Saves contents next after w → Does contents gives before after rs w
does contents gives before next after rs None h s = subst (λ f. Reads contents gives before f rs) (sym s) h
does contents gives before next after rs (Some w) h s = (next, h, s)

-- what is written where a certificate was found is told of a kernel that is safe
told_of : (k : Kernel) (m : Conditions) (written : List ℕ) (o : Option Launch) → IfSome o (λ l. Fits k l × Meets m l) → written ≡ proved_lines o → ((l : Launch) × Fits k l × Meets m l × (written ≡ accepted_line)) ⊎ (written ≡ accepted_line ++ no_launch_line)
told_of k m written (Some l) h e = inl (l, h.0, h.1, e)
told_of k m written None h e = inr e

is_safe_text : (is_wide : Bool) (kernel : Source) (conditions certificate written : List ℕ) → IsProvedText is_wide kernel conditions certificate written → IsSafeText is_wide kernel conditions written
is_safe_text is_wide kernel conditions certificate written h = (h.0, conditions_seen h.1, h.2.safe, told_of h.0.core (conditions_seen h.1) written (probe h.1) h.2.least h.2.text)

is_sought : (is_wide : Bool) (kernel : Source) (conditions told : List ℕ) → IsProvedBySome is_wide kernel conditions told → IsSought IsProvedText is_wide kernel conditions told
is_sought is_wide kernel conditions told h = (is_safe_text is_wide kernel conditions h.0 told h.1, h)

pub is_explained : (is_wide : Bool) (kernel : Source) (conditions : List ℕ) (v : Verdict) → Explains is_wide v kernel conditions → Explained is_wide v kernel conditions
is_explained is_wide kernel conditions (verdicts.Done text) h = (h.0, h.1, is_sought is_wide kernel conditions h.0 h.2, h.3)
is_explained is_wide kernel conditions (verdicts.Refused text) h = h
is_explained is_wide kernel conditions verdicts.OutOfMemory h = tt

-- a search of files whose answer was kept tells of it
module _ {F : Type 0} (contents : F → List ℕ → Option (List ℕ)) (gives : F → List ℕ → ℕ → List ℕ → F → Type 0) (before next after : F) (ws : List (List ℕ)) (k c kernel conditions : List ℕ) (workers : ℕ) (out : Option (List ℕ)) (is_wide : Bool) (reading : Reading) where
  abbrev Given : Type 0
  Given = Reads contents gives before next (kernel_read (limit_by reading) k kernel ∷ conditions_read c conditions ∷ [])

  abbrev of_search : Texts
  of_search = record { kernel = kernel; conditions = conditions; certificate = []; launch = [] }

  -- with this file written, or none
  asked_of : (v : Verdict) (saved : Option Write) → Asks ws (Prove k c workers out is_wide reading) → Given → Saves contents next after saved → Finds out v is_wide workers (text_under reading conditions kernel) conditions saved → Tells (Does contents gives before after) ws v
  asked_of v saved w r s h =
      record { request = Prove k c workers out is_wide reading; texts = of_search; saved = saved; asked = w; done = does contents gives before next after (kernel_read (limit_by reading) k kernel ∷ conditions_read c conditions ∷ []) saved r s; may_write = tt; is_told = h }

  pub tells : (v : Verdict) → Asks ws (Prove k c workers out is_wide reading) → Given → Kept contents next after out is_wide workers (text_under reading conditions kernel) conditions v → Tells (Does contents gives before after) ws v
  tells (verdicts.Done text) w r h = asked_of (verdicts.Done text) (saving out h.0) w r h.2 (is_safe_text is_wide (text_under reading conditions kernel) conditions h.0 text.items h.1, (h.0, h.1, refl))
  tells (verdicts.Refused line) w r h = asked_of (verdicts.Refused line) None w r h.1 (h.0, refl)
  tells verdicts.OutOfMemory w r h = asked_of verdicts.OutOfMemory None w r h tt

-- a certificate that was read and put into a file in version 2 is told of
module _ {F : Type 0} (contents : F → List ℕ → Option (List ℕ)) (gives : F → List ℕ → ℕ → List ℕ → F → Type 0) (before next after : F) (ws : List (List ℕ)) (o n old : List ℕ) where
  abbrev IsRead : Type 0
  IsRead = Reads contents gives before next (certificate_read o old ∷ [])

  abbrev of_certificate : Texts
  of_certificate = record { kernel = []; conditions = []; certificate = old; launch = [] }

  moved_as : (v : Verdict) (saved : Option Write) → Asks ws (Migrate o n) → IsRead → Saves contents next after saved → Moves n v old saved → Tells (Does contents gives before after) ws v
  moved_as v saved w r s h =
      record { request = Migrate o n; texts = of_certificate; saved = saved; asked = w; done = does contents gives before next after (certificate_read o old ∷ []) saved r s; may_write = tt; is_told = h }

  pub moves : (v : Verdict) → Asks ws (Migrate o n) → IsRead → Moved contents next after (Some n) old v → Tells (Does contents gives before after) ws v
  moves (verdicts.Done text) w r h = moved_as (verdicts.Done text) (saving (Some n) h.0) w r h.2 (h.0, h.1, refl)
  moves (verdicts.Refused line) w r h = moved_as (verdicts.Refused line) None w r h.1 (h.0, refl)
  moves verdicts.OutOfMemory w r h = moved_as verdicts.OutOfMemory None w r h tt

-- what follows of each answer
pub follows : {T E : Type 0} (r : Result T E) (P Q : T → Type 0) → ((t : T) → P t → Q t) → IfOk r P → IfOk r Q
follows (Ok t) P Q f h = f t h
follows (Err e) P Q f h = tt
