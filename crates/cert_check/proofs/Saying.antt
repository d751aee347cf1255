-- The code's notes are those that a certificate says.
use Rattle.std.proofs.Common.{◌≡◌, Bool, List, [], ap, sym, ◌∙◌, subst}
use Rattle.std.proofs.Math.Path.{fun_ext}
use Rattle.std.specs.Prelude.{Some}
use Rattle.semantics.specs.Launch.{Kernel}
use Rattle.certificate_text.specs.Certificate.{Certificate}
use Rattle.kernel_names.specs.NameMap.{NameMap}
use Rattle.arrivals.specs.Places.{Place, places}
use Rattle.obligations.specs.Notes as notes
use Rattle.obligations.specs.Telling.{TellsOfItems}
use Rattle.obligations.specs.View.{seen}
use Rattle.obligations.specs.declared.notes.Notes.{Notes}
use Rattle.certificate_notes.specs.Noted.{noted}
use Rattle.certificate_notes.specs.Noting.{notes_by, Agrees}
use Rattle.certificate_notes.specs.NotesView as views
use Rattle.certificate_notes.proofs.Agreeing.{seen-agrees, agrees-tells}
use Rattle.certificate_notes.proofs.Tells.{notes-tell, told}
use Rattle.cert_check.specs.Refusing.{IsSaid}

-- what is the same wherever it is asked is the same
agree_same : (n m : notes.Notes) → Agrees n m → n ≡ m
agree_same n m a =
    ap (λ f. record n { same = f }) (fun_ext a.same)
    ∙ ap (λ f. record n { same = m.same; facts = f }) (fun_ext (λ x. fun_ext (a.facts x)))
    ∙ ap (λ f. record n { same = m.same; facts = m.facts; congruences = f }) (fun_ext (λ x. fun_ext (a.congruences x)))
    ∙ ap (λ f. record n { same = m.same; facts = m.facts; congruences = m.congruences; multiples = f }) (fun_ext (λ x. fun_ext (a.multiples x)))
    ∙ ap (λ f. record n { same = m.same; facts = m.facts; congruences = m.congruences; multiples = m.multiples; ranking = f }) (fun_ext a.ranking)
    ∙ ap (λ f. record m { visible = f; quotient = n.quotient; has_entry = n.has_entry; is_wide = n.is_wide; joins = n.joins }) (fun_ext a.visible)
    ∙ ap (λ f. record m { quotient = f; has_entry = n.has_entry; is_wide = n.is_wide; joins = n.joins }) (fun_ext a.quotient)
    ∙ ap (λ f. record m { has_entry = f; is_wide = n.is_wide; joins = n.joins }) (fun_ext a.has_entry)
    ∙ ap (λ b. record m { is_wide = b; joins = n.joins }) a.is_wide
    ∙ ap (λ b. record m { joins = b }) a.joins

pub seen_said : (n : Notes) → seen n [] ≡ notes_by (views.notes n) []
seen_said n = agree_same (seen n []) (notes_by (views.notes n) []) (seen-agrees n [])

pub is_said : (k : Kernel) (tree : NameMap) (cert : Certificate) (ps : List Place) (n : Notes) → ps ≡ places k.body → Some (views.notes n) ≡ noted k tree ps cert → IsSaid k tree cert (seen n [])
is_said k tree cert ps n p h = (views.notes n, subst (λ x. noted k tree x cert ≡ Some (views.notes n)) p (sym h), seen_said n)

-- and they speak of items alone
pub tells_of_items : (k : Kernel) (tree : NameMap) (cert : Certificate) (ps : List Place) (n : Notes) → Some (views.notes n) ≡ noted k tree ps cert → (flags : List Bool) → TellsOfItems (seen n flags)
tells_of_items k tree cert ps n h flags = agrees-tells (seen n flags) (notes_by (views.notes n) flags) (seen-agrees n flags) (notes-tell (views.notes n) flags (told k tree ps cert (views.notes n) (sym h)))
