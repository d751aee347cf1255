-- Flags of entries, one more at a time.
use Rattle.std.proofs.Common.{◌≡◌, ℕ, zero, suc, ◌<◌, ◌≤◌, Bool, true, false, cond, ◌&&◌, nat_eq, nat_le, List, [], ◌∷◌, ◌++◌, length, set, get_or, replicate, refl, inl, inr, ap, sym, ◌∙◌, arith}
use Rattle.std.specs.Prelude.{Option, None, Some}
use Rattle.std.proofs.lemmas.Bool.{cases_eq}
use Rattle.std.proofs.lemmas.Bool.Decides.{nat_tests}
use Rattle.std.proofs.lemmas.List.{length-set, length-replicate, set_past, get_or-set_same, get_or-set_other}
use Rattle.certificate_text.specs.Certificate.{Entry}
use Rattle.entry_check.specs.Entries.{AreFlags, last_of, is_of, is_found}

-- of entries and one more, the entry of a number
last_more : (found : Option Entry) (es : List Entry) (e : Entry) (n : ℕ) → last_of found (es ++ e ∷ []) n ≡ cond (is_of n e) (Some e) (last_of found es n)
last_more found [] e n = refl
last_more found (x ∷ es) e n = last_more (cond (is_of n x) (Some x) found) es e n

found_more : (b : Bool) (e : Entry) (o : Option Entry) → is_found (cond b (Some e) o) ≡ cond b true (is_found o)
found_more true e o = refl
found_more false e o = refl

-- the flag of one number is set, and that of another number stays
set_more : (most : ℕ) (flags : List Bool) (n o : ℕ) (b : Bool) → length flags ≡ suc most → (nat_le n most && nat_eq o n) ≡ b → get_or (set flags o true) n false ≡ cond b true (get_or flags n false)
set_more most flags n o true l e =
    let p : n ≡ o = grind (arith, nat_tests) in
    let q : n ≤ most = grind (arith, nat_tests) in
    ap (λ k. get_or (set flags o true) k false) p ∙ get_or-set_same flags o true false (omega arith)
set_more most flags n o false l e = elim (cases_eq n o) [
  | inl p ↦ let q : most < n = grind (arith, nat_tests) in ap (λ fs. get_or fs n false) (set_past flags o true (omega arith))
  | inr p ↦ get_or-set_other flags o n true false p
]

pub flag_more : (es : List Entry) (e : Entry) (flags behind : List Bool) → behind ≡ set flags e.obligation true → AreFlags es flags → AreFlags (es ++ e ∷ []) behind
flag_more es e flags behind p f = (
  ap length p ∙ length-set flags e.obligation true ∙ f.0,
  λ n. ap (λ fs. get_or fs n false) p
      ∙ set_more 65536 flags n e.obligation (is_of n e) f.0 refl
      ∙ ap (cond (is_of n e) true) (f.1 n)
      ∙ sym (found_more (is_of n e) e (last_of None es n))
      ∙ ap is_found (sym (last_more None es e n)),
)

unset : (room n : ℕ) → get_or (replicate room false) n false ≡ false
unset zero n = refl
unset (suc room) zero = refl
unset (suc room) (suc n) = unset room n

pub none_set : (flags : List Bool) → flags ≡ replicate 65537 false → AreFlags [] flags
none_set flags p = (ap length p ∙ length-replicate 65537 false, λ n. ap (λ fs. get_or fs n false) p ∙ unset 65537 n)
