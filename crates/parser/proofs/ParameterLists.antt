-- Rows of parameters, one after another.
use Rattle.std.proofs.Common.{◌≡◌, ℕ, suc, ◌+◌, ◌-◌, ◌<◌, ◌≤◌, List, [], ◌∷◌, ◌++◌, true, false, cond, refl, ap, ◌∙◌, arith}
use Rattle.texts.specs.Lexemes.{Lexeme}
use Rattle.texts.specs.ParseFaults.{Expected, TooMany}
use Rattle.texts.specs.Surface.{Parameter}
use Rattle.parser.specs.Reader.{Reader, Attempt, Took, Refused, Gives, Fails, Passes, Then, carry, front, behind, run}
use Rattle.parser.specs.Expressions.{is_comma, is_right_parenthesis, expects}
use Rattle.parser.proofs.Steps.{stops-carry}
use Rattle.parser.specs.Kernels.{parameter_reader, one_parameter, more_parameters, parameters_reader}

abbrev pub in_list : List Parameter → Attempt (List Parameter) → Attempt (List Parameter)
in_list front outcome = carry outcome (λ ps rest. Took (front ++ ps) rest)

abbrev with_first : Parameter → Attempt (List Parameter) → Attempt (List Parameter)
with_first p outcome = carry outcome (λ ps rest. Took (p ∷ ps) rest)

abbrev closing-one : List Lexeme → Reader (List Parameter)
closing-one ts = Then (expects is_right_parenthesis) (λ closing. Gives [])

pub none-given : (ts : List Lexeme) → is_right_parenthesis (front ts).kind ≡ true → run parameters_reader ts ≡ Took [] (behind ts)
unfolding parameters_reader
none-given ts h = ap (λ b. run (cond b (Passes (Gives [])) (one_parameter (more_parameters 80))) ts) h

pub some-given : (ts : List Lexeme) → is_right_parenthesis (front ts).kind ≡ false → run parameters_reader ts ≡ carry (run parameter_reader ts) (λ p rest. with_first p (run (more_parameters 80) rest))
unfolding parameters_reader
some-given ts h = ap (λ b. run (cond b (Passes (Gives [])) (one_parameter (more_parameters 80))) ts) h

pub too-many : (list : List Parameter) (count : ℕ) (ts : List Lexeme) → 80 ≤ count → in_list list (run (more_parameters (80 - count)) ts) ≡ Refused TooMany ts
unfolding more_parameters
too-many list count ts h =
    let n : 80 - count ≡ 0 = omega (arith, h) in
    ap (λ n. in_list list (run (more_parameters n) ts)) n

snoc : (list ps : List Parameter) (p : Parameter) → list ++ p ∷ ps ≡ (list ++ p ∷ []) ++ ps
snoc [] ps p = refl
snoc (x ∷ list) ps p = ap (λ l. x ∷ l) (snoc list ps p)

append-nil : (list : List Parameter) → list ++ [] ≡ list
append-nil [] = refl
append-nil (x ∷ list) = ap (λ l. x ∷ l) (append-nil list)

pub another : (list : List Parameter) (count : ℕ) (ts : List Lexeme) → count < 80 → is_comma (front ts).kind ≡ true → in_list list (run (more_parameters (80 - count)) ts) ≡ carry (run parameter_reader (behind ts)) (λ p rest. in_list (list ++ p ∷ []) (run (more_parameters (80 - (count + 1))) rest))
unfolding more_parameters
another list count ts lt h =
    let n : 80 - count ≡ suc (80 - (count + 1)) = omega (arith, lt) in
    ap (λ n. in_list list (run (more_parameters n) ts)) n
    ∙ ap (λ b. in_list list (run (cond b (Passes (one_parameter (more_parameters (80 - (count + 1))))) (closing-one ts)) ts)) h
    ∙ within (run parameter_reader (behind ts))
  where
    shift : (p : Parameter) (o : Attempt (List Parameter)) → in_list list (with_first p o) ≡ in_list (list ++ p ∷ []) o
    shift p (Took ps rest) = ap (λ l. Took l rest) (snoc list ps p)
    shift p (Refused fault rest) = refl

    within : (o : Attempt Parameter) → in_list list (carry o (λ p rest. with_first p (run (more_parameters (80 - (count + 1))) rest))) ≡ carry o (λ p rest. in_list (list ++ p ∷ []) (run (more_parameters (80 - (count + 1))) rest))
    within (Took p rest) = shift p (run (more_parameters (80 - (count + 1))) rest)
    within (Refused fault rest) = refl

pub closes : (list : List Parameter) (count : ℕ) (ts : List Lexeme) → count < 80 → is_comma (front ts).kind ≡ false → in_list list (run (more_parameters (80 - count)) ts) ≡ carry (run (cond (is_right_parenthesis (front ts).kind) (Passes (Gives (front ts).site)) (Fails Expected)) ts) (λ closing rest. Took list rest)
unfolding more_parameters
closes list count ts lt h =
    let n : 80 - count ≡ suc (80 - (count + 1)) = omega (arith, lt) in
    ap (λ n. in_list list (run (more_parameters n) ts)) n
    ∙ ap (λ b. in_list list (run (cond b (Passes (one_parameter (more_parameters (80 - (count + 1))))) (closing-one ts)) ts)) h
    ∙ carried (run (cond (is_right_parenthesis (front ts).kind) (Passes (Gives (front ts).site)) (Fails Expected)) ts)
  where
    carried : {A : Type 0} (o : Attempt A) → in_list list (carry o (λ closing rest. Took [] rest)) ≡ carry o (λ closing rest. Took list rest)
    carried (Took a rest) = ap (λ l. Took l rest) (append-nil list)
    carried (Refused fault rest) = refl

pub ruleset lists = (none-given, some-given, stops-carry)
