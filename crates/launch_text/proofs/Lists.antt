-- Lists of words, a word at a time.
use Rattle.std.proofs.Common.{◌≡◌, ℕ, zero, suc, ◌+◌, ◌-◌, List, [], ◌∷◌, length, ◌++◌, true, false, Ok, refl, arith, sub-one}
use Rattle.std.specs.Prelude.{codes}
use Rattle.std.proofs.lemmas.List.Sums.{sum_by-append, sum_by-cons}
use Rattle.semantics.specs.Word.{Kind, Word}
use Rattle.launch_text.specs.LaunchFaults.{Cursor, Step, LimitPassed, refused, then, sees, past}
use Rattle.launch_text.specs.LaunchWords.{word_at}
use Rattle.launch_text.specs.LaunchReading.{list_at, words_of}

-- what follows a word
abbrev pub behind_word : Kind → (room : ℕ) → List Word → Word × Cursor → Step (List Word × Cursor)
behind_word k zero ws t = refused LimitPassed t.1
behind_word k (suc room) ws t = list_at k room (ws ++ t.0 ∷ []) t.1

pub list_over : (k : Kind) (room : ℕ) (ws : List Word) (c : Cursor) → sees (codes " ") c ≡ false → list_at k room ws c ≡ Ok (ws, c)
unfolding list_at
list_over k zero ws c h = rw h refl
list_over k (suc room) ws c h = rw h refl

pub list_due : (k : Kind) (room : ℕ) (ws : List Word) (c : Cursor) → sees (codes " ") c ≡ true → list_at k room ws c ≡ then (word_at k (past 1 c)) (behind_word k room ws)
unfolding list_at
list_due k zero ws c h = rw h refl
list_due k (suc room) ws c h = rw h refl

pub list_spent : (k : Kind) (room : ℕ) (ws : List Word) (t : Word × Cursor) → room ≡ 0 → behind_word k room ws t ≡ refused LimitPassed t.1
list_spent k zero ws t e = refl
list_spent k (suc room) ws t e = absurd cc

pub list_more : (k : Kind) (room : ℕ) (ws : List Word) (t : Word × Cursor) → (room ≡ 0 → ⊥) → behind_word k room ws t ≡ list_at k (room - 1) (ws ++ t.0 ∷ []) t.1
list_more k zero ws t e = absurd (e refl)
list_more k (suc room) ws t e = rw sub-one refl

-- one buffer more
pub words-push : (buffers : List (List Word)) (ws : List Word) → words_of (buffers ++ ws ∷ []) ≡ words_of buffers + length ws
words-push buffers ws = omega (arith, sum_by-append length buffers (ws ∷ []), sum_by-cons length ws [])
