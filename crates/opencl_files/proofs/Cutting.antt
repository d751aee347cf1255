-- How a file is cut, lexeme by lexeme.
use Rattle.std.proofs.Common.{◌≡◌, ℕ, ◌+◌, ◌<◌, ◌≤◌, List, [], ◌∷◌, ◌++◌, Bool, true, false, length, get_or, drop, refl, ap, sym, ◌∙◌, map, Ok, Err, arith}
use Rattle.std.specs.Prelude.{reverse}
use Rattle.std.specs.List.{slice_range}
use Rattle.std.proofs.lemmas.List.{map-append, reverse-append}
use Rattle.opencl_tokens.specs.Lexemes as tokens
use Rattle.opencl_tokens.specs.Seen.{lexeme}
use Rattle.opencl_tokens.specs.declared.Lexeme.{Lexeme}
use Rattle.opencl_parser.specs.Faults.{Expected}
use Rattle.opencl_parser.specs.View.{lexemes}
use Rattle.opencl_parser.specs.Declarations.{is_right_brace}
use Rattle.opencl_files.specs.Faults.{Answer, Text}
use Rattle.opencl_files.specs.Chunks as cuts
use Rattle.opencl_files.specs.Chunks.{Step, Chunk, Within, Last, Finished, Wrong, turned, turn_of, by_step, cut, finished}
use Rattle.opencl_files.specs.View.{bracket, brackets}
use Rattle.opencl_files.specs.declared.chunks.Bracket.{Bracket}
use Rattle.opencl_files.proofs.Splits.{dropped, range_more, range_none}

pub brackets-none : brackets [] ≡ []
unfolding brackets
brackets-none = refl

pub brackets-snoc : (stack : List Bracket) (b : Bracket) → brackets (stack ++ b ∷ []) ≡ bracket b ∷ brackets stack
unfolding brackets
brackets-snoc stack b = ap reverse (map-append bracket stack (b ∷ [])) ∙ reverse-append (map bracket stack) (bracket b ∷ [])

not_none : (bs : List cuts.Bracket) (b : cuts.Bracket) → cuts.is_none (bs ++ b ∷ []) ≡ false
not_none [] b = refl
not_none (c ∷ bs) b = refl

pub brackets-some : (stack : List Bracket) (b : Bracket) → cuts.is_none (brackets (b ∷ stack)) ≡ false
unfolding brackets
brackets-some stack b = ap cuts.is_none (reverse-append (bracket b ∷ []) (map bracket stack)) ∙ not_none (reverse (map bracket stack)) (bracket b)

pub none_if : (stack : List Bracket) → length stack < 1 → cuts.is_none (brackets stack) ≡ true
unfolding brackets
none_if [] h = refl
none_if (b ∷ stack) h = absurd (omega arith)

pub some_if : (stack : List Bracket) → 1 ≤ length stack → cuts.is_none (brackets stack) ≡ false
some_if [] h = absurd (omega arith)
some_if (b ∷ stack) h = brackets-some stack b

-- what the lexeme at a place does
at_step : (done : List Chunk) (stack : List cuts.Bracket) (so : List tokens.Lexeme) (ts : List Lexeme) (at : ℕ) (d : Lexeme) (next : Step × List cuts.Bracket) → at < length ts → next ≡ turned stack (turn_of (lexeme (get_or ts at d)).kind) → cut done stack so (lexemes (drop at ts)) ≡ by_step (λ done stack so. cut done stack so (lexemes (drop (at + 1) ts))) done so (lexeme (get_or ts at d)) next
at_step done stack so ts at d next h e =
    ap (cut done stack so) (dropped lexeme ts at d h)
    ∙ ap (by_step (λ done stack so. cut done stack so (lexemes (drop (at + 1) ts))) done so (lexeme (get_or ts at d))) (sym e)

pub within : (done : List Chunk) (stack after : List cuts.Bracket) (ts : List Lexeme) (from at : ℕ) (d : Lexeme) → from ≤ at → at < length ts → (Within, after) ≡ turned stack (turn_of (lexeme (get_or ts at d)).kind) → cut done stack (lexemes (slice_range ts from at)) (lexemes (drop at ts)) ≡ cut done after (lexemes (slice_range ts from (at + 1))) (lexemes (drop (at + 1) ts))
within done stack after ts from at d h k e =
    at_step done stack (lexemes (slice_range ts from at)) ts at d (Within, after) k e
    ∙ ap (λ so. cut done after so (lexemes (drop (at + 1) ts))) (sym (range_more lexeme ts from at d h k))

pub last : (done : List Chunk) (stack after : List cuts.Bracket) (ts : List Lexeme) (from at : ℕ) (d : Lexeme) (c : Chunk) → from ≤ at → at < length ts → (Last, after) ≡ turned stack (turn_of (lexeme (get_or ts at d)).kind) → c ≡ record { lexemes = lexemes (slice_range ts from (at + 1)); is_braced = is_right_brace (lexeme (get_or ts at d)).kind } → cut done stack (lexemes (slice_range ts from at)) (lexemes (drop at ts)) ≡ cut (done ++ c ∷ []) after (lexemes (slice_range ts (at + 1) (at + 1))) (lexemes (drop (at + 1) ts))
last done stack after ts from at d c h k e same =
    at_step done stack (lexemes (slice_range ts from at)) ts at d (Last, after) k e
    ∙ ap (λ so. cut (done ++ record { lexemes = so; is_braced = is_right_brace (lexeme (get_or ts at d)).kind } ∷ []) after [] (lexemes (drop (at + 1) ts))) (sym (range_more lexeme ts from at d h k))
    ∙ ap (λ c. cut (done ++ c ∷ []) after [] (lexemes (drop (at + 1) ts))) (sym same)
    ∙ ap (λ so. cut (done ++ c ∷ []) after so (lexemes (drop (at + 1) ts))) (sym (range_none lexeme ts (at + 1)))

pub file_end : (done : List Chunk) (stack after : List cuts.Bracket) (so : List tokens.Lexeme) (ts : List Lexeme) (at : ℕ) (d : Lexeme) → at < length ts → (Finished, after) ≡ turned stack (turn_of (lexeme (get_or ts at d)).kind) → cut done stack so (lexemes (drop at ts)) ≡ finished done so (lexeme (get_or ts at d)).site
file_end done stack after so ts at d h e = at_step done stack so ts at d (Finished, after) h e

pub wrong : (done : List Chunk) (stack after : List cuts.Bracket) (so : List tokens.Lexeme) (ts : List Lexeme) (at : ℕ) (d : Lexeme) → at < length ts → (Wrong, after) ≡ turned stack (turn_of (lexeme (get_or ts at d)).kind) → cut done stack so (lexemes (drop at ts)) ≡ Err (Text Expected, (lexeme (get_or ts at d)).site)
wrong done stack after so ts at d h e = at_step done stack so ts at d (Wrong, after) h e

pub ruleset cutting = (brackets-none, brackets-snoc, brackets-some)
