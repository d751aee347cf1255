-- Lexemes have one expression, whatever its depth and length.
use Rattle.std.proofs.Common.{◌≡◌, ℕ, suc, Bool, true, false, List, ◌∷◌, refl, ap, sym, ◌∙◌, subst, arith}
use Rattle.std.proofs.lemmas.Bool.{false≢true}
use Rattle.texts.specs.Signs as signs
use Rattle.texts.specs.Signs.{Sign}
use Rattle.texts.specs.Lexemes.{Lexeme, mark, prefix_of, kind_of}
use Rattle.texts.specs.Surface.{Expression, Expressions, Element, Call, Prefix, Cast, Conditional, also}
use Rattle.texts.specs.Grammar as rules
use Rattle.texts.specs.Grammar.{IsExpression, IsRank, IsOperand, IsArguments, IsMore}
use Rattle.parser.specs.Reader.{front, behind}
use Rattle.parser.specs.Expressions.{is_question}
use Rattle.parser.proofs.Options.{same-some, some-none}
use Rattle.parser.proofs.Beginnings.{Ends, Stops, Closes, lower, sign-stops, expression-begins}
use Rattle.parser.proofs.CompleteExpressions.{parenthesis_closes, bracket_closes, colon_closes, question_stops, more-closes}
use Rattle.parser.proofs.Tails.{Tail, Same, split, pop, finish}

true-false : (b : Bool) → b ≡ true → b ≡ false → ⊥
true-false b p q = false≢true (sym q ∙ p)

mutual
  pub expression-unique : {room other : ℕ} {ts rest left : List Lexeme} {e f : Expression} → IsExpression room ts e rest → IsExpression other ts f left → Closes (front rest).kind → Closes (front left).kind → Same e rest f left
  expression-unique (rules.plain h) (rules.plain k) c d = rank-unique h k c.0 d.0
  expression-unique (rules.plain h) (rules.conditional at colon t a b) c d =
      absurd (true-false _ (ap (λ l. is_question (front l).kind) (rank-unique h t c.0 question_stops).1) c.1)
  expression-unique (rules.conditional at colon t a b) (rules.plain k) c d =
      absurd (true-false _ (sym (ap (λ l. is_question (front l).kind) (rank-unique t k question_stops d.0).1)) d.1)
  expression-unique {other = other} {rest = rest} {left = left} (rules.conditional {e = t} {a = x} {b = y} at colon h a b) (rules.conditional {ts2 = us} {e = u} {a = z} {b = w} at' colon' h' a' b') c d =
      let q = rank-unique h h' question_stops question_stops in
      let r = expression-unique a (subst (λ l. IsExpression other l z (mark signs.Colon colon' ∷ us)) (sym (ap behind q.1)) a') colon_closes colon_closes in
      let s = expression-unique b (subst (λ l. IsExpression other l w left) (sym (ap behind r.1)) b') c d in
      (ap (λ at. Conditional at t x y) (ap (λ l. (front l).site) q.1) ∙ ap (λ t. Conditional at' t x y) q.0 ∙ ap (λ x. Conditional at' u x y) r.0 ∙ ap (Conditional at' u z) s.0, s.1)

  rank-unique : {room other rank : ℕ} {ts rest left : List Lexeme} {e f : Expression} → IsRank room rank ts e rest → IsRank other rank ts f left → Stops rank (front rest).kind → Stops rank (front left).kind → Same e rest f left
  rank-unique (rules.operand h) (rules.operand k) c d = operand-unique h k c.1 d.1
  rank-unique {left = left} (rules.tighter {rank = rank} {rest = rest} h) second c d =
      finish (c.0 (suc rank) (omega arith)) (split (λ f left k stops. rank-unique h k (lower rank (front rest).kind c) stops) second (lower rank (front left).kind d))
  rank-unique (rules.infixed {rank = rank} {rest = rest} s sign at found h k) second c d =
      finish (c.0 (suc rank) (omega arith)) (pop s sign at found (d.0 (suc rank) (omega arith)) (λ f after g stops. rank-unique k g (lower rank (front rest).kind c) stops) (walk h second (sign-stops s rank sign found) d))

  walk : {room other rank : ℕ} {ts rest left : List Lexeme} {e f : Expression} → IsRank room (suc rank) ts e rest → IsRank other (suc rank) ts f left → Stops rank (front rest).kind → Stops (suc rank) (front left).kind → Tail other rank f left e rest
  walk {left = left} (rules.tighter {rank = rank} h) second c d = split (λ f left k stops. rank-unique h k c stops) second (lower rank (front left).kind d)
  walk (rules.infixed {rank = rank} s sign at found h k) second c d =
      pop s sign at found (d.0 (suc rank) (omega arith)) (λ f after g stops. rank-unique k g c stops) (walk h second (sign-stops s rank sign found) d)

  operand-unique : {room other : ℕ} {ts rest left : List Lexeme} {e f : Expression} → IsOperand room ts e rest → IsOperand other ts f left → Ends (front rest).kind → Ends (front left).kind → Same e rest f left
  operand-unique (rules.prefixed {e = e} s sign at found h) (rules.prefixed s' sign' at' found' h') c d =
      let q = operand-unique h h' c d in (ap (λ sign. Prefix at sign e) (same-some (prefix_of s) sign sign' found found') ∙ ap (Prefix at sign') q.0, q.1)
  operand-unique (rules.prefixed s sign at found h) (rules.cast w kind at' in_it end found' h') c d = absurd (some-none (prefix_of signs.LeftParenthesis) sign refl found)
  operand-unique (rules.prefixed s sign at found h) (rules.parentheses at' closing h') c d = absurd (some-none (prefix_of signs.LeftParenthesis) sign refl found)
  operand-unique (rules.cast w kind at in_it end found h) (rules.prefixed s sign at' found' h') c d = absurd (some-none (prefix_of signs.LeftParenthesis) sign refl found')
  operand-unique (rules.cast {e = e} w kind at in_it end found h) (rules.cast w' kind' at' in_it' end' found' h') c d =
      let q = operand-unique h h' c d in (ap (λ kind. Cast at kind e) (same-some (kind_of w) kind kind' found found') ∙ ap (Cast at kind') q.0, q.1)
  operand-unique (rules.cast w kind at in_it end found h) (rules.parentheses at' closing h') c d = absurd (some-none (kind_of w) kind (expression-begins h').0 found)
  operand-unique (rules.literal n at) (rules.literal n' at') c d = (refl, refl)
  operand-unique (rules.variable x at) (rules.variable x' at') c d = (refl, refl)
  operand-unique (rules.variable x at) (rules.element x' at' opening closing h) c d = absurd (true-false true refl c.1)
  operand-unique (rules.variable x at) (rules.call x' at' opening h) c d = absurd (true-false true refl c.0)
  operand-unique (rules.element x at opening closing h) (rules.variable x' at') c d = absurd (true-false true refl d.1)
  operand-unique (rules.element x at opening closing h) (rules.element x' at' opening' closing' h') c d =
      let q = expression-unique h h' bracket_closes bracket_closes in (ap (Element at x) q.0, ap behind q.1)
  operand-unique (rules.call x at opening h) (rules.variable x' at') c d = absurd (true-false true refl d.0)
  operand-unique (rules.call x at opening h) (rules.call x' at' opening' h') c d = let q = arguments-unique h h' in (ap (Call at x) q.0, q.1)
  operand-unique (rules.parentheses at closing h) (rules.prefixed s sign at' found' h') c d = absurd (some-none (prefix_of signs.LeftParenthesis) sign refl found')
  operand-unique (rules.parentheses at closing h) (rules.cast w kind at' in_it end found' h') c d = absurd (some-none (kind_of w) kind (expression-begins h).0 found')
  operand-unique (rules.parentheses at closing h) (rules.parentheses at' closing' h') c d = let q = expression-unique h h' parenthesis_closes parenthesis_closes in (q.0, ap behind q.1)

  arguments-unique : {room other : ℕ} {ts rest left : List Lexeme} {es fs : Expressions} → IsArguments room ts es rest → IsArguments other ts fs left → (es ≡ fs) × (rest ≡ left)
  arguments-unique (rules.empty closing) (rules.empty closing') = (refl, refl)
  arguments-unique (rules.empty closing) (rules.arguments h k) = absurd (true-false true refl (expression-begins h).1)
  arguments-unique (rules.arguments h k) (rules.empty closing) = absurd (true-false true refl (expression-begins h).1)
  arguments-unique {other = other} {left = left} (rules.arguments {e = e} {es = es} h k) (rules.arguments {e = f} {es = fs} h' k') =
      let q = expression-unique h h' (more-closes k) (more-closes k') in
      let r = more-unique k (subst (λ l. IsMore other l fs left) (sym q.1) k') in
      (ap (λ e. also e es) q.0 ∙ ap (also f) r.0, r.1)

  more-unique : {room other : ℕ} {ts rest left : List Lexeme} {es fs : Expressions} → IsMore room ts es rest → IsMore other ts fs left → (es ≡ fs) × (rest ≡ left)
  more-unique (rules.last closing) (rules.last closing') = (refl, refl)
  more-unique {other = other} {left = left} (rules.more {e = e} {es = es} comma h k) (rules.more {e = f} {es = fs} comma' h' k') =
      let q = expression-unique h h' (more-closes k) (more-closes k') in
      let r = more-unique k (subst (λ l. IsMore other l fs left) (sym q.1) k') in
      (ap (λ e. also e es) q.0 ∙ ap (also f) r.0, r.1)
