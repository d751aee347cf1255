-- What an error of the obligations tells of a kernel.
use Rattle.std.proofs.Common.{◌≡◌, ℕ, zero, suc, ◌≤◌, Bool, false, nat_lt, List, subst, sym, ◌∙◌, inr}
use Rattle.std.proofs.lemmas.Bool.{ltb-false}
use Rattle.std.specs.List.{All}
use Rattle.semantics.specs.Launch.{Kernel}
use Rattle.semantics.specs.Conditions.{Conditions}
use Rattle.certificate_text.specs.Certificate.{Certificate, Entry}
use Rattle.kernel_names.specs.NameMap.{NameMap}
use Rattle.walk_trees.specs.Shown.{IsShownWithProducts}
use Rattle.obligations.specs.Notes.{Notes}
use Rattle.obligations.specs.Telling.{TellsOfItems}
use Rattle.obligations.specs.Limits.{AreLimits}
use Rattle.certificate_notes.specs.Noted.{lemma_form, stated}
use Rattle.certificate_notes.specs.Sights.{Chart, chart_of}
use Rattle.plain_kernels.specs.Domains.{domain}
use Rattle.entry_check.specs.Entries.{Stating}
use Rattle.entry_check.specs.Lacking.{PassesOf, TellsOf, TellsOwing, owing, steps_of, with_entries}
use Rattle.entry_check.specs.declared.error.ShowError.{ShowError}
use Rattle.entry_check.specs.declared.error.ShowError.TheVariants as shows
use Rattle.cert_check.specs.Refusing.{IsSaid}
use Rattle.cert_check.specs.Checked.{AllIsShown, PassesWith, Unshown}

-- before the budget is looked at
pub tells_of : (k : Kernel) (c : Conditions) (m : Stating) (n : Notes) (es : List Entry) (e : ShowError) → TellsOwing domain k c m n es e → TellsOf domain k c m n es e
tells_of k c m n es (shows.NotShown i) h = h
tells_of k c m n es (shows.ManyPaths s) h = h
tells_of k c m n es (shows.Walk e) h = h
tells_of k c m n es shows.OverBudget h = absurd h
tells_of k c m n es shows.Memory h = tt

-- which obligations have an entry is no matter to items and limits
pub all_is_shown : (k : Kernel) (c : Conditions) (n : Notes) (es : List Entry) → TellsOfItems n → AreLimits n → All IsShownWithProducts (owing domain k c n es) → steps_of k n ≤ c.budget → AllIsShown k c
all_is_shown k c n es t l s b = (with_entries es n, (record { facts = t.facts; congruences = t.congruences; multiples = t.multiples; rankings = t.rankings }, l, s, b))

-- of a kernel and its names as the code has them
module _ (k k' : Kernel) (tree : NameMap) (c : Conditions) (n : Notes) (es : List Entry) (names : Chart) (p : k' ≡ k) (r : names ≡ chart_of k tree) where
  pub passes_named : PassesOf domain k' c (lemma_form names) n es → PassesOf domain k c (stated k tree) n es
  passes_named h = subst (λ x. PassesOf domain k c (lemma_form x) n es) r (subst (λ x. PassesOf domain x c (lemma_form names) n es) p h)

  pub tells_named : (e : ShowError) → TellsOf domain k' c (lemma_form names) n es e → TellsOf domain k c (stated k tree) n es e
  tells_named e h = subst (λ x. TellsOf domain k c (lemma_form x) n es e) r (subst (λ x. TellsOf domain x c (lemma_form names) n es e) p h)

-- and of its entries
module _ (k : Kernel) (tree : NameMap) (c : Conditions) (cert : Certificate) (es : List Entry) (n : Notes) (q : es ≡ cert.entries) (said : IsSaid k tree cert n) where
  pub passes_with : PassesOf domain k c (stated k tree) n es → PassesWith k tree c cert
  passes_with h = (n, said, subst (PassesOf domain k c (stated k tree) n) q h)

  told_said : (e : ShowError) → TellsOf domain k c (stated k tree) n cert.entries e → Unshown k tree c cert e
  told_said (shows.NotShown zero) h = inr (n, said, h)
  told_said (shows.NotShown (suc m)) h = (n, said, h)
  told_said (shows.ManyPaths s) h = (n, said, h)
  told_said (shows.Walk e) h = (n, said, h)
  told_said shows.OverBudget h = (n, said, h)
  told_said shows.Memory h = tt

  pub unshown : (e : ShowError) → TellsOf domain k c (stated k tree) n es e → Unshown k tree c cert e
  unshown e h = told_said e (subst (λ x. TellsOf domain k c (stated k tree) n x e) q h)

-- a test that is false
pub few_steps : (budget steps : ℕ) (b : Bool) → b ≡ nat_lt budget steps → b ≡ false → steps ≤ budget
few_steps budget steps b e f = ltb-false budget steps (sym e ∙ f)
