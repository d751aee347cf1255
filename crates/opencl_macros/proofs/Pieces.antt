-- A text is read piece by piece.
use Rattle.std.proofs.Common.{◌≡◌, ℕ, zero, suc, ◌+◌, ◌-◌, ◌<◌, List, [], ◌∷◌, length, drop, take, get_or, ap, sym, ◌∙◌, refl, true, cond, arith}
use Rattle.std.specs.Prelude.{Result, Ok, nat_lt}
use Rattle.std.proofs.lemmas.Bool.Decides.{nat_tests}
use Rattle.std.proofs.lemmas.List.{at_drop_more, drop_more, drop-map, take-map, length-map}
use Rattle.semantics.specs.Core.{Site}
use Rattle.opencl_tokens.specs.Seen.{token}
use Rattle.opencl_tokens.specs.declared.Token.{Token}
use Rattle.opencl_macros.specs.Macros.{on}
use Rattle.opencl_macros.specs.Directives.{Faulty, before_bracket, function_with, function_at, function}
use Rattle.opencl_macros.specs.Reading.{State, Went, length_behind, put_piece, piece, read}
use Rattle.opencl_macros.specs.Seen.{tokens_seen, Fails}
use Rattle.opencl_macros.specs.declared.MacroError.{MacroError}
use Rattle.opencl_macros.proofs.Handing.{handed}

pub goes : (ts : List Token) (at : ℕ) (s : State) (r : Result (State × ℕ) Site) → at < length ts → piece s (tokens_seen (drop at ts)) ≡ r
    → read 0 s (tokens_seen (drop at ts)) ≡ on r (λ p. read p.1 p.0 (tokens_seen (drop (at + 1) ts)))
goes [] at s r l e = absurd (omega (arith, l))
goes (t ∷ ts) at s r l e =
    at_drop_more (λ xs. read 0 s (tokens_seen xs)) (t ∷ ts) at t l
    ∙ ap (λ q. on q (λ p. read p.1 p.0 (tokens_seen (drop (at + 1) (t ∷ ts)))))
    (sym (ap (λ xs. piece s (tokens_seen xs)) (drop_more (t ∷ ts) at t l)) ∙ e)

pub skips : (ts : List Token) (at skip : ℕ) (s : State) → 0 < skip → at < length ts
    → read skip s (tokens_seen (drop at ts)) ≡ read (skip - 1) s (tokens_seen (drop (at + 1) ts))
skips ts at zero s h l = absurd (omega (arith, h))
skips [] at (suc skip) s h l = absurd (omega (arith, l))
skips (t ∷ ts) at (suc skip) s h l =
    let n : skip ≡ suc skip - 1 = omega arith in
    at_drop_more (λ xs. read (suc skip) s (tokens_seen xs)) (t ∷ ts) at t l ∙ ap (λ k. read k s (tokens_seen (drop (at + 1) (t ∷ ts)))) n

one-more : (t : Token) (ts : List Token) (count : ℕ) → take (count + 1) (t ∷ ts) ≡ t ∷ take count ts
one-more t ts count = let q : count + 1 ≡ suc count = omega arith in ap (λ k. take k (t ∷ ts)) q

-- the first piece, with its tokens as the code has them
pub taken-piece : (ts : List Token) (first : Token) (s : State) (count : ℕ) (r : Went) → 0 < length ts → first ≡ get_or ts 0 first
    → count ≡ length_behind (token first) (tokens_seen (drop 1 ts))
    → put_piece s (token first) (tokens_seen (take count (drop 1 ts))) (tokens_seen (take (count + 1) ts)) ≡ r
    → piece s (tokens_seen ts) ≡ on r (λ after. Ok (after, count))
taken-piece [] first s count r l f n e = absurd (omega (arith, l))
taken-piece (t ∷ ts) first s count r l f n e =
    let p = n ∙ ap (λ x. length_behind (token x) (tokens_seen ts)) f in
    ap (λ k. on (put_piece s (token t) (take k (tokens_seen ts)) (token t ∷ take k (tokens_seen ts))) (λ after. Ok (after, k))) (sym p)
    ∙ ap (λ q. on q (λ after. Ok (after, count)))
    (ap (λ x. put_piece s (token t) x (token t ∷ x)) (take-map token count ts)
    ∙ ap (λ xs. put_piece s (token t) (tokens_seen (take count ts)) (tokens_seen xs)) (sym (one-more t ts count))
    ∙ ap (λ x. put_piece s (token x) (tokens_seen (take count ts)) (tokens_seen (take (count + 1) (t ∷ ts)))) (sym f) ∙ e)

pub failed-piece : (x : MacroError) (ts : List Token) (first : Token) (s : State) (count : ℕ) → 0 < length ts → first ≡ get_or ts 0 first
    → count ≡ length_behind (token first) (tokens_seen (drop 1 ts))
    → Fails x (put_piece s (token first) (tokens_seen (take count (drop 1 ts))) (tokens_seen (take (count + 1) ts)))
    → Fails x (piece s (tokens_seen ts))
failed-piece x ts first s count l f n h =
    rw (taken-piece ts first s count _ l f n refl) (handed x _ (λ after. Ok (after, count)) h)

pub ending : (ts : List Token) → drop (length (tokens_seen ts) - 1) (tokens_seen ts) ≡ tokens_seen (drop (length ts - 1) ts)
ending ts = ap (λ n. drop (n - 1) (tokens_seen ts)) (length-map ts token) ∙ drop-map token (length ts - 1) ts

pub function-is : (name : List ℕ) (ts : List Token) (count : ℕ) → count ≡ before_bracket (tokens_seen ts) → count < length ts
    → function_with name (tokens_seen (take count ts)) (tokens_seen (drop (count + 1) ts)) ≡ function name (tokens_seen ts)
function-is name ts count e l =
    let small : nat_lt count (length ts) ≡ true = grind (arith, nat_tests) in
    let parts = function_with name (take count (tokens_seen ts)) (drop (count + 1) (tokens_seen ts)) in
    ap (λ xs. function_with name xs (tokens_seen (drop (count + 1) ts))) (sym (take-map token count ts))
    ∙ ap (λ xs. function_with name (take count (tokens_seen ts)) xs) (sym (drop-map token (count + 1) ts))
    ∙ sym (ap (λ b. cond b parts Faulty) (ap (nat_lt count) (length-map ts token) ∙ small))
    ∙ ap (function_at name (tokens_seen ts)) e
