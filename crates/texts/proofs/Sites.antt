-- Lines and columns counted.
use Rattle.std.proofs.Common.{◌≡◌, ℕ, zero, suc, ◌+◌, ◌-◌, ◌<◌, ◌≤◌, List, inl, inr, length, take, get_or, Bool, not, ap, refl, subst, ◌∙◌, arith}
use Rattle.std.specs.List.{suffix_len}
use Rattle.std.proofs.lemmas.Bool.{cases_Bool, cond-true, cond-false}
use Rattle.std.proofs.lemmas.List.Sums.{fold_more, count_by_more_yes, count_by_more_no, suffix_len-take_yes, suffix_len-take_no}
use Rattle.texts.specs.Tokens.{past, first_site, is_line_feed}
use Rattle.texts.specs.Reading.{IsCounted}

more : (text : List ℕ) (at : ℕ) → at < length text → IsCounted text at → IsCounted text (at + 1)
more text at h c =
    let p : ℕ → Bool = λ b. not (is_line_feed b) in
    let site = fold_more past first_site text at 0 h in
    let k : at + 1 - 1 ≡ at = omega arith in
    let last = ap (λ k. p (get_or text k 0)) k in
    elim (cases_Bool (is_line_feed (get_or text at 0))) [
      | inl y ↦
          let s = site ∙ cond-true (is_line_feed (get_or text at 0)) _ _ y in (
            omega (arith, ap (λ s. s.line) s, c.0, count_by_more_yes is_line_feed text at 0 h y),
            omega (arith, ap (λ s. s.column) s, suffix_len-take_no p text (at + 1) 0 (omega arith) (omega arith) (last ∙ ap not y)),
          )
      | inr n ↦
          let s = site ∙ cond-false (is_line_feed (get_or text at 0)) _ _ n in (
            omega (arith, ap (λ s. s.line) s, c.0, count_by_more_no is_line_feed text at 0 h n),
            omega (arith, ap (λ s. s.column) s, c.1, suffix_len-take_yes p text (at + 1) 0 (omega arith) (omega arith) (last ∙ ap not n), ap (λ k. suffix_len p (take k text)) k),
          )
    ]

pub counted : (text : List ℕ) (at : ℕ) → at ≤ length text → IsCounted text at
counted text zero h = (refl, refl)
counted text (suc at) h = let e : at + 1 ≡ suc at = omega arith in subst (IsCounted text) e (more text at (omega arith) (counted text at (omega arith)))
