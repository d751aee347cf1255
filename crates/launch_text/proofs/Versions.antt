-- Texts that are neither of version 2 nor of version 3 are read alike, whether they may be or not.
use Rattle.std.proofs.Common.{◌≡◌, ℕ, Bool, true, false, nat_eq, nat_lt, List, ◌++◌, length, Ok, Err, refl, ap, sym, ◌∙◌}
use Rattle.std.specs.Prelude.{cond, codes}
use Rattle.std.specs.List.{starts_with}
use Rattle.std.proofs.lemmas.Bool.{cond-false}
use Rattle.texts.specs.Surface.{Parameter}
use Rattle.launch_text.specs.LaunchFaults.{LimitPassed, Cursor, Step, cursor, then, sees, past, end_line}
use Rattle.launch_text.specs.LaunchWords.{Conditions, due}
use Rattle.launch_text.specs.ConditionsReading.{Lined, version_at, numbered_line, headed_line, is_headed, version_line, is_third, conditions_at, conditions_limit, conditions_of}
use Rattle.launch_text.proofs.Taken.{due_took}

-- a text says neither version
abbrev IsNarrow : List ℕ → Type 0
IsNarrow text = (starts_with nat_eq text (codes "conditions 2") ≡ false) × (starts_with nat_eq text (codes "conditions 3") ≡ false)

mark_alike : (c : Cursor) → sees (codes " 2") c ≡ false → version_at true c ≡ version_at false c
unfolding version_at
mark_alike c h = rw h refl

-- the first line behind its first word
abbrev ended : Bool × Cursor → Step (Bool × Cursor)
ended v = then (end_line v.1) (λ d. Ok (v.0, d))

numbered_alike : (c : Cursor) → sees (codes " 2") c ≡ false → numbered_line true c ≡ numbered_line false c
unfolding numbered_line
numbered_alike c h = ap (λ s. then s ended) (mark_alike c h)

two_behind : (text rest : List ℕ) → text ≡ codes "conditions" ++ rest → starts_with nat_eq text (codes "conditions 2") ≡ false → starts_with nat_eq rest (codes " 2") ≡ false
two_behind text rest e h = ap (λ bytes. starts_with nat_eq bytes (codes "conditions 2")) (sym e) ∙ h

three_behind : (text rest : List ℕ) → text ≡ codes "conditions" ++ rest → starts_with nat_eq text (codes "conditions 3") ≡ false → starts_with nat_eq rest (codes " 3") ≡ false
three_behind text rest e h = ap (λ bytes. starts_with nat_eq bytes (codes "conditions 3")) (sym e) ∙ h

abbrev marked : (may_be_two : Bool) → Cursor → Step (Bool × Cursor)
marked may a = cond (is_headed may a) (headed_line (past 2 a)) (numbered_line may a)

behind_word : (c : Cursor) (s : Step Cursor) → due Conditions (codes "conditions") c ≡ s → IsNarrow c.rest → then s (marked true) ≡ then s (marked false)
behind_word c (Err f) e h = refl
behind_word c (Ok a) e h =
    let word = due_took Conditions (codes "conditions") c a e in
    cond-false (sees (codes " 3") a) _ _ (three_behind c.rest a.rest word h.1) ∙ numbered_alike a (two_behind c.rest a.rest word h.0)

head_alike : (c : Cursor) → IsNarrow c.rest → version_line true c ≡ version_line false c
unfolding version_line
head_alike c h = behind_word c (due Conditions (codes "conditions") c) refl h

third_alike : (c : Cursor) → IsNarrow c.rest → is_third true c ≡ is_third false c
third_alike c h = h.1

lines_alike : (ps : List Parameter) (c : Cursor) → IsNarrow c.rest → conditions_at true ps c ≡ conditions_at false ps c
unfolding conditions_at
lines_alike ps c h = rw (head_alike c h, third_alike c h) refl

pub read_alike : (ps : List Parameter) (text : List ℕ) → IsNarrow text → conditions_of true ps text ≡ conditions_of false ps text
read_alike ps text h =
    ap (λ s. let r : Step Lined = cond (nat_lt conditions_limit (length text)) (Err (LimitPassed, 1)) s in r) (lines_alike ps (cursor 1 text) h)
