-- What is noted of a certificate whose entries are taken one by one.
use Rattle.std.specs.Prelude.{List, [], ◌∷◌, ◌++◌, cond, map, Option, None, Some}
use Rattle.std.specs.Option.{option_map}
use Rattle.certificate_text.specs.Certificate.{Entry, Certificate}
use Rattle.certificate_text.specs.Drafts.{certificate_with}
use Rattle.certificate.specs.View as view
use Rattle.certificate_notes.specs.Sights.{Chart}
use Rattle.certificate_notes.specs.Noted.{Noted, Quoted, are_stated, quotients_of}
use Rattle.certificate_notes.specs.NotesView.{notes}
use Rattle.certificate_notes.specs.declared.front.Front.{Front}
use Rattle.certificate_notes.specs.declared.gathering.Gathering.{Gathering}

-- what stands before the entries, as a certificate that has none
abbrev pub front : Front → Certificate
front f = certificate_with f.is_wide f.joins (map view.place f.places.now) (map view.bound f.bounds.now) []

-- the notes so far, where the kernel has all that was named
abbrev pub gathered : Gathering → Option Noted
gathered g = option_map notes g.notes

-- notes with more quotients behind their own, where there are any
abbrev pub with_quotients : Noted → Option (List Quoted) → Option Noted
with_quotients m None = None
with_quotients m (Some qs) = Some (record m { quotients = m.quotients ++ qs })

-- notes, with what one entry more says
abbrev pub and_entry : Chart → Entry → Option Noted → Option Noted
and_entry c e None = None
and_entry c e (Some m) = cond (are_stated c e) (with_quotients m (quotients_of c (e ∷ []))) None
