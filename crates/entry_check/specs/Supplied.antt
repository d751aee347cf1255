-- What a supply of entries has still to give.
use Rattle.std.specs.Prelude.{◌≡◌, ℕ, List, [], ◌∷◌, ◌++◌, Bool, true, false, nat_le, Option, None, Some}
use Rattle.certificate_text.specs.Certificate as certificates
use Rattle.certificate_text.specs.Rules.{rises, entry_is_before}
use Rattle.certificate.specs.declared.tree.Entry.{Entry}
use Rattle.certificate.specs.EntryAnswers.{given}
use Rattle.certificate.specs.EntryCursors.{left, stopped}
use Rattle.entry_check.specs.declared.supply.Supply.{Supply}

-- the entry that is held, then those that were not read
abbrev pub ahead : Supply → List certificates.Entry
ahead s = given s.held ++ (left s.entries.now).entries

-- no error was met, no fault of the text is left, and the entries ahead rise
abbrev pub IsWhole : Supply → Type 0
IsWhole s = (stopped s.entries.now ≡ None) × ((left s.entries.now).fault ≡ None) × (rises entry_is_before (ahead s) ≡ true)

-- one is held, unless all were read
abbrev pub HoldsNext : Option Entry → List certificates.Entry → Type 0
HoldsNext None es = es ≡ []
HoldsNext (Some e) es = Unit {0}

-- both
abbrev pub IsReady : Supply → Type 0
IsReady s = IsWhole s × HoldsNext s.held (left s.entries.now).entries

-- the first of these entries, if there is one, has this number or a larger one
abbrev pub begin_from : ℕ → List certificates.Entry → Bool
begin_from n [] = true
begin_from n (e ∷ es) = nat_le n e.obligation

-- an entry is held, and its number is not past this one
abbrev pub is_held_up_to : Option Entry → ℕ → Bool
is_held_up_to None last = false
is_held_up_to (Some e) last = nat_le e.obligation last
