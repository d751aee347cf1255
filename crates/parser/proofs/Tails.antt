-- Signs of one rank, from a left operand on: two readings of one chain.
use Rattle.std.proofs.Common.{◌≡◌, ℕ, suc, Some, None, List, ◌∷◌, refl, ap, sym, ◌∙◌, subst}
use Rattle.semantics.specs.Core.{Site}
use Rattle.texts.specs.Signs.{Sign}
use Rattle.texts.specs.Lexemes.{Lexeme, mark, infix_of}
use Rattle.texts.specs.Surface.{Expression, InfixSign, Infix}
use Rattle.texts.specs.Grammar as rules
use Rattle.texts.specs.Grammar.{IsRank}
use Rattle.parser.specs.Reader.{front, behind}
use Rattle.parser.specs.Expressions.{infix_at}
use Rattle.parser.proofs.Options.{not-some, same-some}
use Rattle.parser.proofs.Beginnings.{Stops, sign-stops, its-rank}

-- from a left operand on, signs of the rank and operands that bind tighter, up to the whole
pub data Tail (room rank : ℕ) (whole : Expression) (left : List Lexeme) : Expression → List Lexeme → Type 0 where
  done : {l : Expression} {rest : List Lexeme} → l ≡ whole → rest ≡ left → Tail room rank whole left l rest
  more : {l r : Expression} {rest us after : List Lexeme} (s : Sign) (sign : InfixSign) (at : Site) → rest ≡ mark s at ∷ us → infix_of s ≡ Some (suc rank, sign) → IsRank room rank us r after → Stops rank (front after).kind →
      Tail room rank whole left (Infix at sign l r) after → Tail room rank whole left l rest

append : {room rank : ℕ} {whole r : Expression} {middle us after : List Lexeme} {l : Expression} {rest : List Lexeme} (s : Sign) (sign : InfixSign) (at : Site) → middle ≡ mark s at ∷ us → infix_of s ≡ Some (suc rank, sign) → IsRank room rank us r after → Stops rank (front after).kind → Tail room rank whole middle l rest → Tail room rank (Infix at sign whole r) after l rest
append {r = r} s sign at e found h stops (done p q) = more s sign at (q ∙ e) found h stops (done (ap (λ x. Infix at sign x r) p) refl)
append s sign at e found h stops (more s' sign' at' e' found' h' stops' t) = more s' sign' at' e' found' h' stops' (append s sign at e found h stops t)

abbrev pub Same : (e : Expression) (rest : List Lexeme) (f : Expression) (left : List Lexeme) → Type 0
Same e rest f left = (e ≡ f) × (rest ≡ left)

-- what another reading has behind the first operand
pub split : {room rank : ℕ} {ts rest left : List Lexeme} {a f : Expression} → ((f : Expression) (left : List Lexeme) → IsRank room rank ts f left → Stops rank (front left).kind → Same a rest f left) → IsRank room (suc rank) ts f left → Stops rank (front left).kind → Tail room rank f left a rest
split only (rules.tighter h) stops = let q = only _ _ h stops in done q.0 q.1
split only (rules.infixed {rank = rank} s sign at found h k) stops = append s sign at refl found k stops (split only h (sign-stops s rank sign found))

none-there : (rank : ℕ) (s : Sign) (sign : InfixSign) (at : Site) (us rest : List Lexeme) → infix_of s ≡ Some (rank, sign) → rest ≡ mark s at ∷ us → infix_at rank (front rest).kind ≡ None → ⊥
none-there rank s sign at us rest found e none = not-some sign (sym (its-rank s rank sign found) ∙ sym (ap (λ l. infix_at rank (front l).kind) e) ∙ none)

-- past the next sign and operand
pub pop : {room rank : ℕ} {us rest left : List Lexeme} {l r f : Expression} (s : Sign) (sign : InfixSign) (at : Site) → infix_of s ≡ Some (suc rank, sign) → infix_at (suc rank) (front left).kind ≡ None → ((g : Expression) (after : List Lexeme) → IsRank room rank us g after → Stops rank (front after).kind → Same r rest g after) →
    Tail room rank f left l (mark s at ∷ us) → Tail room rank f left (Infix at sign l r) rest
pop {rank = rank} {us = us} {left = left} s sign at found none only (done p q) = absurd (none-there (suc rank) s sign at us left found (sym q) none)
pop {room = room} {rank = rank} {us = us} {rest = rest} {left = left} {l = l} {r = r} {f = f} s sign at found none only (more {r = g} {us = vs} {after = after} s' sign' at' e found' h stops t) =
    let same-sign : sign ≡ sign' = same-some _ sign sign' (its-rank s (suc rank) sign found) (ap (λ l. infix_at (suc rank) (front l).kind) e ∙ its-rank s' (suc rank) sign' found') in
    let q = only g after (subst (λ l. IsRank room rank l g after) (sym (ap behind e)) h) stops in
    subst (Tail room rank f left (Infix at sign l r)) (sym q.1)
    (subst (λ x. Tail room rank f left x after) (sym (ap (λ at. Infix at sign l r) (ap (λ l. (front l).site) e) ∙ ap (λ sign. Infix at' sign l r) same-sign ∙ ap (Infix at' sign' l) q.0)) t)

-- no sign of the rank follows
pub finish : {room rank : ℕ} {rest left : List Lexeme} {l f : Expression} → infix_at (suc rank) (front rest).kind ≡ None → Tail room rank f left l rest → Same l rest f left
finish none (done p q) = (p, q)
finish {rank = rank} {rest = rest} none (more {us = us} s sign at e found h stops t) = absurd (none-there (suc rank) s sign at us rest found e none)
