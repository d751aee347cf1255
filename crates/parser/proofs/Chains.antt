-- How a reader goes on along signs of one rank.
use Rattle.std.proofs.Common.{◌≡◌, ◌≤◌, ℕ, zero, suc, ◌+◌, Bool, true, false, nat_lt, Some, None, List, ◌∷◌, refl, ap, sym, ◌∙◌, arith}
use Rattle.std.proofs.lemmas.Bool.{ltb-false}
use Rattle.semantics.specs.Core.{Site}
use Rattle.texts.specs.Signs.{Sign}
use Rattle.texts.specs.Lexemes.{Lexeme, mark, infix_of}
use Rattle.texts.specs.ParseFaults.{TooDeep, TooMany}
use Rattle.texts.specs.Surface.{Expression, InfixSign, Infix}
use Rattle.texts.specs.Limits.{deep_expression}
use Rattle.parser.specs.Reader.{Reader, Attempt, Took, Refused, carry, front, run}
use Rattle.parser.specs.Expressions.{infix_at, goes_on, longer, chain, ranked}
use Rattle.parser.proofs.Depths.{expression-here}
use Rattle.parser.proofs.Options.{not-some}
use Rattle.parser.proofs.Answers.{Answers, takes, too_deep, too_many}
use Rattle.parser.proofs.Beginnings.{its-rank, inner, parts}

shallow : (p : ℕ) (e : Expression) → deep_expression p e ≡ None → p ≤ 32
shallow p e h = by (nat_lt 32 p) refl
  where
    by : (b : Bool) → nat_lt 32 p ≡ b → p ≤ 32
    by true q = absurd (not-some _ (sym (expression-here p e q) ∙ h))
    by false q = ltb-false 32 p q

-- as many signs may come as levels are left
abbrev pub Spine : (depth : ℕ) → Expression → (left : ℕ) → Type 0
Spine depth l left = (p : ℕ) → deep_expression p l ≡ None → p + depth ≤ 32 + left

-- the reader came to a left operand, or a limit is passed
pub data Reached (operand : Reader Expression) (depth rank : ℕ) (ts : List Lexeme) (l : Expression) (rest : List Lexeme) (deep many : Type 0) : Type 0 where
  reached : (left : ℕ) → Spine depth l left → run (ranked operand depth (suc rank)) ts ≡ run (chain (ranked operand depth rank) (suc rank) left l) rest → Reached operand depth rank ts l rest deep many
  passed_deep : (left : List Lexeme) → (deep → ⊥) → run (ranked operand depth (suc rank)) ts ≡ Refused TooDeep left → Reached operand depth rank ts l rest deep many
  passed_many : (left : List Lexeme) → (many → ⊥) → run (ranked operand depth (suc rank)) ts ≡ Refused TooMany left → Reached operand depth rank ts l rest deep many

pub rank-zero : (operand : Reader Expression) (depth : ℕ) {ts rest : List Lexeme} {e : Expression} {deep many : Type 0} → Answers operand ts e rest deep many → Answers (ranked operand depth zero) ts e rest deep many
unfolding ranked
rank-zero operand depth h = h

pub begun : (operand : Reader Expression) (depth rank : ℕ) {ts rest : List Lexeme} {e : Expression} {deep many : Type 0} → Answers (ranked operand depth rank) ts e rest deep many → Reached operand depth rank ts e rest deep many
unfolding ranked
begun operand depth rank {e = e} (takes k) =
    reached depth (λ p h. omega (arith, shallow p e h)) (ap (λ o. carry o (λ e rest. run (chain (ranked operand depth rank) (suc rank) depth e) rest)) k)
begun operand depth rank (too_deep left n k) = passed_deep left n (ap (λ o. carry o (λ e rest. run (chain (ranked operand depth rank) (suc rank) depth e) rest)) k)
begun operand depth rank (too_many left n k) = passed_many left n (ap (λ o. carry o (λ e rest. run (chain (ranked operand depth rank) (suc rank) depth e) rest)) k)

-- no sign of the rank follows
pub ended : (operand : Reader Expression) (depth rank : ℕ) {ts rest : List Lexeme} {e : Expression} {deep many : Type 0} → infix_at (suc rank) (front rest).kind ≡ None → Reached operand depth rank ts e rest deep many → Answers (ranked operand depth (suc rank)) ts e rest deep many
unfolding chain
ended operand depth rank {rest = rest} {e = e} none (reached left spine k) = takes (k ∙ ap (λ o. run (goes_on (longer (ranked operand depth rank) (suc rank) left e) e (front rest).site o) rest) none)
ended operand depth rank none (passed_deep left n k) = too_deep left n k
ended operand depth rank none (passed_many left n k) = too_many left n k

-- a sign of the rank follows, and a right operand
pub joined : (operand : Reader Expression) (depth rank d : ℕ) {ts us rest : List Lexeme} {l r : Expression} {deep-left many-left deep-right many-right deep many : Type 0} (s : Sign) (sign : InfixSign) (at : Site) → infix_of s ≡ Some (suc rank, sign) → 33 ≤ depth + d →
    (deep → deep-left) → (many → many-left) → (deep → deep-right) → (many → many-right) → (deep → deep_expression d (Infix at sign l r) ≡ None) →
    Reached operand depth rank ts l (mark s at ∷ us) deep-left many-left → Answers (ranked operand depth rank) us r rest deep-right many-right → Reached operand depth rank ts (Infix at sign l r) rest deep many
unfolding chain
joined operand depth rank d s sign at found le low few low-right few-right has (passed_deep left n k) h = passed_deep left (λ f. n (low f)) k
joined operand depth rank d s sign at found le low few low-right few-right has (passed_many left n k) h = passed_many left (λ f. n (few f)) k
joined operand depth rank d {us = us} {l = l} {r = r} s sign at found le low few low-right few-right has (reached zero spine k) h =
    passed_deep (mark s at ∷ us) (λ f. absurd (let q : d + 1 + depth ≤ 32 = spine (d + 1) (parts _ _ (inner d at _ (has f))).0 in omega (arith, q, le)))
    (k ∙ ap (λ o. run (goes_on (longer (ranked operand depth rank) (suc rank) zero l) l at o) (mark s at ∷ us)) (its-rank s (suc rank) sign found))
joined operand depth rank d {ts = ts} {us = us} {rest = rest} {l = l} {r = r} {deep-right = deep-right} {many-right = many-right} {deep = deep} {many = many} s sign at found le low few low-right few-right has (reached (suc left) spine k) h = by h
  where
    came : (o : Attempt Expression) → run (ranked operand depth rank) us ≡ o → run (ranked operand depth (suc rank)) ts ≡ carry o (λ r rest. run (goes_on (longer (ranked operand depth rank) (suc rank) left (Infix at sign l r)) (Infix at sign l r) (front rest).site (infix_at (suc rank) (front rest).kind)) rest)
    came o q = k ∙ ap (λ o. run (goes_on (longer (ranked operand depth rank) (suc rank) (suc left) l) l at o) (mark s at ∷ us)) (its-rank s (suc rank) sign found)
        ∙ ap (λ o. carry o (λ r rest. run (goes_on (longer (ranked operand depth rank) (suc rank) left (Infix at sign l r)) (Infix at sign l r) (front rest).site (infix_at (suc rank) (front rest).kind)) rest)) q

    by : Answers (ranked operand depth rank) us r rest deep-right many-right → Reached operand depth rank ts (Infix at sign l r) rest deep many
    by (takes q) = reached left (λ p h. let q : p + 1 + depth ≤ 32 + suc left = spine (p + 1) (parts _ _ (inner p at _ h)).0 in omega (arith, q)) (came (Took r rest) q)
    by (too_deep over n q) = passed_deep over (λ f. n (low-right f)) (came (Refused TooDeep over) q)
    by (too_many over n q) = passed_many over (λ f. n (few-right f)) (came (Refused TooMany over) q)
