-- What going over the text of a certificate tells of a kernel.
use Rattle.std.specs.Prelude.{◌≡◌, ℕ, List, Bool, Ok}
use Rattle.std.specs.Option.{option_map}
use Rattle.semantics.specs.Launch as semantics
use Rattle.arrivals.specs.Places.{Place}
use Rattle.kernel_names.specs.NameMap.{NameMap}
use Rattle.certificate_text.specs.Certificate.{Certificate}
use Rattle.certificate_notes.specs.Noted as noted
use Rattle.certificate_notes.specs.NotesView as views
use Rattle.entry_check.specs.Entries.{AreFlags}
use Rattle.cert_check.specs.Breadth.{text_says}
use Rattle.cert_check.specs.declared.first_pass.Told.{Told}

-- the text says a certificate, with its notes, where the kernel has all that it names, and the flags of its entries
pub record IsToldOf (is_wide : Bool) (k : semantics.Kernel) (names : NameMap) (ps : List Place) (text : List ℕ) (t : Told) : Type 0 where
  pub certificate : Certificate
  pub says : text_says is_wide text ≡ Ok certificate
  pub noted : option_map views.notes t.notes ≡ noted.noted k names ps certificate
  pub flags : AreFlags certificate.entries t.flags.items
