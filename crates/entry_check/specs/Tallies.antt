-- How far the check of a list of obligations has come, and what it took since.
use Rattle.std.specs.Prelude.{◌≡◌, ◌<◌, ◌≤◌, ◌⊎◌, ℕ, ◌+◌, List, [], ◌∷◌, ◌++◌, map, drop, get_or, length, Bool, true, false, Option, None, Some, Result, Ok, Err}
use Rattle.std.specs.List.{All}
use Rattle.certificate_text.specs.Certificate.{Entry}
use Rattle.domain.specs.declared.Domain.{Ghosts}
use Rattle.facts.specs.declared.error.WalkError.TheVariants as walks
use Rattle.walk_trees.specs.Trees.{Obligation}
use Rattle.walk_trees.specs.Shown.{IsShownWithProducts}
use Rattle.two_thread.specs.Listed.{no_obligation, nth_fits}
use Rattle.walk.specs.Cursors.{IsUnfoundIn}
use Rattle.walk.specs.declared.error.FindError.{FindError}
use Rattle.walk.specs.declared.error.FindError.TheVariants as finds
use Rattle.walk.specs.declared.terrain.Terrain.{Terrain}
use Rattle.entry_check.specs.Entries.{Said, entry_of, is_past}
use Rattle.entry_check.specs.Lacking.{ArePassed, HasUnfit, Lacks, Passes, TellsBy, WalkTells}
use Rattle.entry_check.specs.Supplied.{IsReady, ahead}
use Rattle.entry_check.specs.declared.error.ShowError.{ShowError}
use Rattle.entry_check.specs.declared.supply.Supply.{Supply}
use Rattle.entry_check.specs.declared.tally.Tally.{Tally}

-- the obligation of this number, counted from 0, is shown, and passes
abbrev pub IsGood : Said → List Entry → List Obligation → (fits : List Bool) → ℕ → Type 0
IsGood s es os fs k = IsShownWithProducts (get_or os k no_obligation) × Passes s es (nth_fits fs (k + 1)) (k + 1) (get_or os k no_obligation)

-- so many are, and the entries ahead are those of the others
pub record IsOn (s : Said) (es : List Entry) (os : List Obligation) (fs : List Bool) (n : ℕ) (supply : Supply) : Type 0 where
  pub ready : IsReady supply
  pub good : (k : ℕ) → k < n → IsGood s es os fs k
  pub later : (m : ℕ) → n < m → entry_of (ahead supply) m ≡ entry_of es m
  pub past : (m : ℕ) → n ≤ m → is_past (ahead supply) m ≡ is_past es m

-- what the check has stopped at; `fit` tells whether what denies claims is of i64
abbrev pub HasStopped : Said → List Entry → (fit : Bool) → List Obligation → (fits : List Bool) → ShowError → Type 0
HasStopped s es fit os fs e = TellsBy (λ n. (fit ≡ true) × Lacks s es fs os n) (λ _. ⊥) (WalkTells ⊥ ((fit ≡ false) ⊎ HasUnfit s es fs 0 os)) e

abbrev pub IsVerdict : Said → List Entry → (fit : Bool) → List Obligation → (fits : List Bool) → ℕ → Supply → Option ShowError → Type 0
IsVerdict s es fit os fs n supply None = (fit ≡ true) × IsOn s es os fs n supply
IsVerdict s es fit os fs n supply (Some e) = HasStopped s es fit os fs e

-- of all obligations these are left
pub record Comes (s : Said) (es : List Entry) (fit : Bool) (os : List Obligation) (fs : List Bool) (left : List Obligation) (left_fits : List Bool) (t : Tally) : Type 0 where
  pub few : t.count ≤ 65536
  pub within : t.count ≤ length os
  pub obligations : drop t.count os ≡ left
  pub own_fits : drop t.count fs ≡ left_fits
  pub verdict : IsVerdict s es fit os fs t.count t.supply t.stopped

-- an obligation is the next one behind so many, and its own forms are of i64, or not
abbrev pub IsNext : Obligation → (fits : Bool) → ℕ → List Obligation → (fits : List Bool) → Type 0
IsNext o b n os fs = (us : List Obligation) × (bs : List Bool) × (drop n os ≡ o ∷ us) × (drop n fs ≡ b ∷ bs)

-- it is shown, and so is one more
abbrev pub GoesOn : Said → Obligation → (fits : Bool) → ℕ → (before behind : Supply) → Type 0
GoesOn s o b n x y = (es : List Entry) (os : List Obligation) (fs : List Bool) → IsOn s es os fs n x → IsNext o b n os fs → IsOn s es os fs (n + 1) y

-- the check stops at it
abbrev pub Stops : Said → Obligation → (fits : Bool) → ℕ → Supply → ShowError → Type 0
Stops s o b n x e = (es : List Entry) (fit : Bool) (os : List Obligation) (fs : List Bool) → fit ≡ true → IsOn s es os fs n x → IsNext o b n os fs → HasStopped s es fit os fs e

-- it has stopped before the first obligation, where not all that denies claims is of i64
abbrev pub StopsBefore : (fit : Bool) → Option ShowError → Type 0
StopsBefore fit None = Unit {0}
StopsBefore fit (Some e) = TellsBy (λ _. ⊥) (λ _. ⊥) (WalkTells ⊥ (fit ≡ false)) e

-- all are left
abbrev pub Begins : List Entry → (fit : Bool) → Tally → Type 0
Begins es fit t = (s : Said) (os : List Obligation) (fs : List Bool) → Comes s es fit os fs os fs t

-- none is left: there are at most 65,536. Each is shown and passes, and no entry is past the last; or the error is what the check has
-- stopped at
abbrev pub IsEnd : Said → List Entry → (fit : Bool) → List Obligation → (fits : List Bool) → Result Unit ShowError → Type 0
IsEnd s es fit os fs (Ok done) = (fit ≡ true) × All IsShownWithProducts os × ArePassed s es fs os
IsEnd s es fit os fs (Err e) = HasStopped s es fit os fs e

abbrev pub Ends : Tally → Result Unit ShowError → Type 0
Ends t r = (s : Said) (es : List Entry) (fit : Bool) (os : List Obligation) (fs : List Bool) → Comes s es fit os fs [] [] t → (length os ≤ 65536) × IsEnd s es fit os fs r

-- where it has not stopped, entries can be asked for
abbrev pub IsSound : Tally → Type 0
IsSound t = t.stopped ≡ None → IsReady t.supply

-- it goes on, and stays stopped
abbrev pub Keeps : (before behind : Tally) → Type 0
Keeps a b = b.stopped ≡ None → a.stopped ≡ None

-- one was taken
abbrev pub TakesOne : Said → Obligation → (fits : Bool) → (before behind : Tally) → Type 0
TakesOne s o b x y = (es : List Entry) (fit : Bool) (os : List Obligation) (fs : List Bool) (us : List Obligation) (bs : List Bool) → Comes s es fit os fs (o ∷ us) (b ∷ bs) x → Comes s es fit os fs us bs y

-- of what is to be shown of the first list, which stands in front, that of the second one is left
abbrev pub Takes : {A : Type 0} → Said → (A → Obligation) → (A → Bool) → (front left : List A) → (before behind : Tally) → Type 0
Takes s f p xs ys x y = (es : List Entry) (fit : Bool) (os : List Obligation) (fs : List Bool) (us : List Obligation) (bs : List Bool) → Comes s es fit os fs (map f xs ++ us) (map p xs ++ bs) x → Comes s es fit os fs (map f ys ++ us) (map p ys ++ bs) y

-- there are over 65,536, or there was no memory
abbrev pub IsCut : List Obligation → FindError → Type 0
IsCut os (finds.ManyPaths s) = ⊥
IsCut os (finds.Walk walks.TooMany) = 65536 < length os
IsCut os (finds.Walk walks.TooLarge) = ⊥
IsCut os (finds.Walk walks.Memory) = Unit {0}

abbrev pub CutsOne : Said → Obligation → (fits : Bool) → Tally → FindError → Type 0
CutsOne s o b x e = (es : List Entry) (fit : Bool) (os : List Obligation) (fs : List Bool) (us : List Obligation) (bs : List Bool) → Comes s es fit os fs (o ∷ us) (b ∷ bs) x → IsCut os e

abbrev pub Cuts : {A : Type 0} → Said → (A → Obligation) → (A → Bool) → (front : List A) → Tally → FindError → Type 0
Cuts s f p xs x e = (es : List Entry) (fit : Bool) (os : List Obligation) (fs : List Bool) (us : List Obligation) (bs : List Bool) → Comes s es fit os fs (map f xs ++ us) (map p xs ++ bs) x → IsCut os e

-- that, or the walk of a place does not come to its end
abbrev pub Fails : {E A : Type 0} → Ghosts E → Terrain E → Said → (A → Obligation) → (A → Bool) → (front : List A) → Tally → FindError → Type 0
Fails g t s f p xs x e = IsUnfoundIn g t e ⊎ Cuts s f p xs x e
