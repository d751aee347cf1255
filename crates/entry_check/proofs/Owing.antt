-- All that is to be shown of a kernel, with the entries of a certificate.
use Rattle.std.proofs.Common.{List, inl}
use Rattle.semantics.specs.Launch.{Kernel}
use Rattle.semantics.specs.Conditions.{Conditions}
use Rattle.domain.specs.declared.Domain.{Ghosts}
use Rattle.certificate_text.specs.Certificate.{Entry}
use Rattle.facts.specs.declared.error.WalkError.TheVariants as walks
use Rattle.obligations.specs.Notes.{Notes}
use Rattle.walk.specs.Unfound.{IsUnfound}
use Rattle.walk.specs.declared.error.FindError.{FindError}
use Rattle.walk.specs.declared.error.FindError.TheVariants as finds
use Rattle.entry_check.specs.Entries.{Stating}
use Rattle.entry_check.specs.Lacking.{TellsOwing, with_entries}
use Rattle.entry_check.specs.Numbers.{show_of}

module _ {E : Type 0} (g : Ghosts E) (k : Kernel) (c : Conditions) where
  pub told_unfound : (m : Stating) (es : List Entry) (n : Notes) (e : FindError) → IsUnfound g k c (with_entries es n) e → TellsOwing g k c m n es (show_of e)
  told_unfound m es n (finds.ManyPaths s) u = u
  told_unfound m es n (finds.Walk walks.TooMany) u = u
  told_unfound m es n (finds.Walk walks.TooLarge) u = inl u
  told_unfound m es n (finds.Walk walks.Memory) u = tt
