-- What an error tells of a kernel, where it is plain.
use Rattle.kernel_reading.specs.Kernels.{Source}
use Rattle.std.proofs.Common.{◌≡◌, ℕ, zero, suc, ◌<◌, List, [], ◌∷◌, get_or, arith, sym, subst, ◌∙◌, inl, inr}
use Rattle.std.specs.Prelude.{◌⊎◌, Bool, true, false, Err, Option, None}
use Rattle.std.proofs.lemmas.Bool.{false≢true}
use Rattle.semantics.specs.Launch as semantics
use Rattle.semantics.specs.Conditions.{Conditions}
use Rattle.certificate_text.specs.Certificate.{Certificate}
use Rattle.launch_text.specs.ConditionsReading.{Lined, meant}
use Rattle.kernel_names.specs.NameMap.{NameMap}
use Rattle.kernel_names.specs.View.{names_seen}
use Rattle.typed_kernels.specs.TypedKernel.{TypedKernel}
use Rattle.core_code.specs.View.{kernel as core_seen}
use Rattle.arrivals.specs.Loops.{unmet}
use Rattle.facts.specs.declared.error.WalkError.TheVariants as walks
use Rattle.walk_trees.specs.Trees.{Obligation, leaves}
use Rattle.obligations.specs.Notes.{Notes}
use Rattle.obligations.specs.Listing.{Planted, all_trees}
use Rattle.obligations.specs.Fitting.{forms_fit}
use Rattle.obligations.specs.Shown.{obligations}
use Rattle.walk.specs.Unfound.{IsFirstOfMany}
use Rattle.plain_kernels.specs.Domains.{domain}
use Rattle.plain_kernels.specs.Claims.{is_range}
use Rattle.plain_kernels.specs.Kernels.{HasLimits, IsPlain, has_signed}
use Rattle.certificate_notes.specs.Noted.{stated}
use Rattle.entry_check.specs.Lacking.{Stops, UnfitOf, owing, owing_fits, said, with_entries}
use Rattle.entry_check.specs.declared.error.ShowError.{ShowError}
use Rattle.entry_check.specs.declared.error.ShowError.TheVariants as shows
use Rattle.cert_check.specs.Refusing.{AreRead, Shows}
use Rattle.cert_check.specs.Checked as checked
use Rattle.cert_check.specs.Plainly.{IsUnrefuted, IsOwnRange, TellsPlain, OnPlainBy}
use Rattle.cert_check.specs.declared.error.CheckError.{CheckError}
use Rattle.cert_check.specs.declared.error.CheckError.TheVariants as errors
use Rattle.walk.proofs.OwnForms.{trees_do_fit, own_do_fit}

-- where a place has one path, none has many
few_paths : {E : Type 0} (s : Option ℕ) (t : Planted E) (ts : List (Planted E)) → ts ≡ t ∷ [] → leaves t.claims t.tree ≡ 1 → IsFirstOfMany s ts → ⊥
few_paths s t ts e one m = few (subst (IsFirstOfMany s) e m)
  where
    few : IsFirstOfMany s (t ∷ []) → ⊥
    few (inl h) = let l : 256 < leaves t.claims t.tree = h.1 in omega (arith, l, one)
    few (inr h) = h.1

-- the laws of plain kernels
pub record Laws : Type 0 where
  pub met : (k : semantics.Kernel) (c : Conditions) → IsPlain k c → unmet k.body ≡ None
  pub one_tree : (k : semantics.Kernel) (c : Conditions) (n : Notes) → HasLimits k c → IsPlain k c → (t : Planted _) × (all_trees domain k c n ≡ t ∷ []) × (leaves t.claims t.tree ≡ 1)
  pub fit : (k : semantics.Kernel) (c : Conditions) (n : Notes) → HasLimits k c → IsPlain k c → forms_fit domain k c n ≡ true
  pub ranges : (k : semantics.Kernel) (c : Conditions) (n : Notes) (i : ℕ) (o : Obligation) → HasLimits k c → IsPlain k c → is_range k (suc i) ≡ true → o ≡ get_or (obligations domain k c n) i o → o.settled ≡ false → (o.needed ≡ true) ⊎ (n.has_entry (suc i) ≡ true) → (n.has_entry (suc i) ≡ true) × (has_signed k.arguments k.body ≡ true)

module _ (laws : Laws) (k : semantics.Kernel) (tree : NameMap) (c : Conditions) (cert : Certificate) (limits : HasLimits k c) (plain : IsPlain k c) where
  not_many : (n : Notes) (s : Option ℕ) → IsFirstOfMany s (all_trees domain k c n) → ⊥
  not_many n s m = let t = laws.one_tree k c n limits plain in few_paths s t.0 (all_trees domain k c n) t.1 t.2 m

  named : (n : Notes) (i : ℕ) → Stops (said n (stated k tree)) cert.entries (owing_fits domain k c n cert.entries) 0 (owing domain k c n cert.entries) (suc i) → IsUnrefuted k tree c n cert (suc i) × IsOwnRange k cert (suc i)
  named n i (o, (j, e, l, q), (f, s, a, r), p) =
      let m : j ≡ i = omega (arith, e) in
      ((o, (j, e, l, q), r), λ b. laws.ranges k c (with_entries cert.entries n) i o limits plain b (subst (λ x. o ≡ get_or (owing domain k c n cert.entries) x o) m q) s a)

  none_unfit : (n : Notes) → UnfitOf domain k c (stated k tree) n cert.entries → ⊥
  none_unfit n (l, (m, o, at, u, p)) = false≢true (sym u ∙ own_do_fit domain k c (with_entries cert.entries n) (laws.fit k c (with_entries cert.entries n) limits plain) m)

  pub tells_plain : (e : ShowError) → Shows k tree c cert e → TellsPlain k tree c cert e
  tells_plain (shows.NotShown zero) (inl h) = inl h
  tells_plain (shows.NotShown zero) (inr (n, said, h)) = inr (n, said, h.1.1)
  tells_plain (shows.NotShown (suc i)) (n, said, h) = let p = named n i h.1 in (n, said, p.0, p.1)
  tells_plain (shows.ManyPaths s) h = h
  tells_plain (shows.Walk walks.TooMany) h = h
  tells_plain (shows.Walk walks.TooLarge) (n, said, inl h) = false≢true (sym h ∙ trees_do_fit domain k c (with_entries cert.entries n) (laws.fit k c (with_entries cert.entries n) limits plain))
  tells_plain (shows.Walk walks.TooLarge) (n, said, inr h) = none_unfit n h
  tells_plain (shows.Walk walks.Memory) h = tt
  tells_plain shows.OverBudget (n, said, h) = (n, said, h.1)
  tells_plain shows.Memory h = tt

-- what stops the check of a kernel with such limits
pub stops_plain : (laws : Laws) (is_wide : Bool) (typed : TypedKernel) (found : Lined) (kernel : Source) (conditions certificate : List ℕ) → HasLimits (core_seen typed.1) (meant found) → AreRead is_wide typed found kernel conditions → (e : CheckError) → checked.StopsBy is_wide typed (meant found) certificate e → OnPlainBy is_wide (Err e) kernel conditions certificate
stops_plain laws is_wide typed found k l p limits read (errors.Kernel e) s = tt
stops_plain laws is_wide typed found k l p limits read (errors.Conditions e) s = tt
stops_plain laws is_wide typed found k l p limits read (errors.Missed site) (loop, missed, at) = (typed, found, read, λ plain. let m = laws.met (core_seen typed.1) (meant found) plain in cc)
stops_plain laws is_wide typed found k l p limits read (errors.Certificate e) s = tt
stops_plain laws is_wide typed found k l p limits read (errors.ManyPaths site) (cert, met, is, (n, s, said, first, at)) =
    (typed, found, read, λ plain. not_many laws (core_seen typed.1) (names_seen typed.0) (meant found) cert limits plain (with_entries cert.entries n) s first)
stops_plain laws is_wide typed found k l p limits read (errors.Show e) (cert, met, is, shown) =
    (typed, found, cert, read, is, λ plain. tells_plain laws (core_seen typed.1) (names_seen typed.0) (meant found) cert limits plain e shown)
