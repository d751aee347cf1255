-- The joining of lines, byte by byte.
use Rattle.std.proofs.Common.{◌≡◌, ℕ, zero, suc, ◌+◌, ◌-◌, ◌<◌, List, [], ◌∷◌, ◌++◌, length, drop, get_or, Ok, Err, ap, refl, sym, ◌∙◌, append_assoc, arith}
use Rattle.std.proofs.lemmas.List.{at_drop_more, drop_more}
use Rattle.semantics.specs.Core.{Site}
use Rattle.texts.specs.Tokens.{past}
use Rattle.opencl_tokens.specs.Faults.{BadByte}
use Rattle.opencl_tokens.specs.Joining.{Joining, Fate, Stays, Goes, Faulty, fate_of, behind, next, joined}

-- past a byte that goes with the one before
pub skips : (text : List ℕ) (at skip : ℕ) (here : Site) → 0 < skip → at < length text →
    joined here skip (drop at text) ≡ joined (past here (get_or text at 0)) (skip - 1) (drop (at + 1) text)
skips text at zero here h l = absurd (omega arith)
skips text at (suc skip) here h l =
    let n : skip ≡ suc skip - 1 = omega arith in
    at_drop_more (joined here (suc skip)) text at 0 l ∙ ap (λ k. joined (past here (get_or text at 0)) k (drop (at + 1) text)) n

-- what becomes of a byte, and what follows it
reads : (text : List ℕ) (at : ℕ) (fate : Fate) (here : Site) → at < length text → fate ≡ fate_of (drop at text) →
    joined here 0 (drop at text) ≡ next fate (get_or text at 0) here
    (λ skip. joined (past here (get_or text at 0)) skip (drop (at + 1) text))
reads text at fate here l e =
    at_drop_more (joined here 0) text at 0 l
    ∙ ap (λ bytes. next (fate_of bytes) (get_or text at 0) here
    (λ skip. joined (past here (get_or text at 0)) skip (drop (at + 1) text))) (sym (drop_more text at 0 l))
    ∙ ap (λ f. next f (get_or text at 0) here (λ skip. joined (past here (get_or text at 0)) skip (drop (at + 1) text))) (sym e)

twice : (a b : List ℕ) (s t : List Site) (j : Joining) → behind a s (behind b t j) ≡ behind (a ++ b) (s ++ t) j
twice a b s t (Ok j) = rw (append_assoc a b j.bytes, append_assoc s t j.sites) refl
twice a b s t (Err e) = refl

-- a byte that stays
pub past_stays : (text : List ℕ) (at skip : ℕ) (here after : Site) (bytes new : List ℕ) (sites more : List Site) → at < length text →
    Stays ≡ fate_of (drop at text) → after ≡ past here (get_or text at 0) → skip ≡ 0 → new ≡ bytes ++ get_or text at 0 ∷ [] →
    more ≡ sites ++ here ∷ [] → behind bytes sites (joined here 0 (drop at text)) ≡ behind new more (joined after skip (drop (at + 1) text))
past_stays text at skip here after bytes new sites more l e s k n m =
    rw (s, k, n, m) (ap (behind bytes sites) (reads text at Stays here l e)
    ∙ twice bytes (get_or text at 0 ∷ []) sites (here ∷ []) (joined (past here (get_or text at 0)) 0 (drop (at + 1) text)))

-- a byte that goes
pub past_goes : (text : List ℕ) (at count skip : ℕ) (here after : Site) (bytes new : List ℕ) (sites more : List Site) → at < length text →
    Goes count ≡ fate_of (drop at text) → after ≡ past here (get_or text at 0) → skip ≡ count - 1 → new ≡ bytes → more ≡ sites →
    behind bytes sites (joined here 0 (drop at text)) ≡ behind new more (joined after skip (drop (at + 1) text))
past_goes text at count skip here after bytes new sites more l e s k n m = rw (s, k, n, m)
    (ap (behind bytes sites) (reads text at (Goes count) here l e))

-- a fault
pub stops : (text : List ℕ) (at : ℕ) (here : Site) (bytes : List ℕ) (sites : List Site) → at < length text →
    Faulty ≡ fate_of (drop at text) → behind bytes sites (joined here 0 (drop at text)) ≡ Err (BadByte, here)
stops text at here bytes sites l e = ap (behind bytes sites) (reads text at Faulty here l e)
