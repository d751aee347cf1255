-- Entries that rise, asked for by rising numbers.
use Rattle.std.proofs.Common.{◌≡◌, ℕ, suc, ◌<◌, ◌≤◌, true, false, cond, ◌&&◌, nat_eq, nat_le, List, [], ◌∷◌, ◌++◌, refl, ap, sym, subst, ◌∙◌, arith}
use Rattle.std.specs.Prelude.{Option, None, Some}
use Rattle.std.proofs.lemmas.Bool.Decides.{nat_tests}
use Rattle.certificate_text.specs.Certificate as certificates
use Rattle.certificate_text.specs.Rules.{rises, entry_is_before}
use Rattle.certificate.specs.EntryAnswers.{given}
use Rattle.certificate.specs.View.{entry}
use Rattle.certificate.specs.declared.tree.Entry.{Entry}
use Rattle.entry_check.specs.Entries.{entry_of, last_of}
use Rattle.entry_check.specs.Supplied.{begin_from}

-- what stands behind an entry begins past it
behind : (e : certificates.Entry) (es : List certificates.Entry) → rises entry_is_before (e ∷ es) ≡ true → begin_from (suc e.obligation) es ≡ true
behind e [] h = refl
behind e (x ∷ es) h = grind (arith, nat_tests)

rest_rises : (e : certificates.Entry) (es : List certificates.Entry) → rises entry_is_before (e ∷ es) ≡ true → rises entry_is_before es ≡ true
rest_rises e [] h = refl
rest_rises e (x ∷ es) h = grind (arith, nat_tests)

begin_lower : (m n : ℕ) (es : List certificates.Entry) → n ≤ m → begin_from m es ≡ true → begin_from n es ≡ true
begin_lower m n [] l h = refl
begin_lower m n (e ∷ es) l h = grind (arith, nat_tests)

is_other : (most n o : ℕ) → ((n ≡ o) → ⊥) → (nat_le n most && nat_eq o n) ≡ false
is_other most n o h = grind (arith, nat_tests)

is_same : (most n o : ℕ) → n ≤ most → n ≡ o → (nat_le n most && nat_eq o n) ≡ true
is_same most n o l h = grind (arith, nat_tests)

-- entries that begin past a number have none of it
pub none_of : (found : Option certificates.Entry) (es : List certificates.Entry) (n : ℕ) → rises entry_is_before es ≡ true → begin_from (suc n) es ≡ true → last_of found es n ≡ found
none_of found [] n h b = refl
none_of found (e ∷ es) n h b =
    let l : n < e.obligation = grind (arith, nat_tests) in
    ap (λ t. last_of (cond t (Some e) found) es n) (is_other 65536 n e.obligation (λ p. absurd (omega (arith, l, p))))
    ∙ none_of found es n (rest_rises e es h) (begin_lower (suc e.obligation) (suc n) es (omega (arith, l)) (behind e es h))

-- the entry that is held is that of its number
pub held_of : (h : Option Entry) (e : Entry) (es : List certificates.Entry) (n : ℕ) → h ≡ Some e → rises entry_is_before (given h ++ es) ≡ true → n ≤ 65536 → e.obligation ≡ n → entry_of (given h ++ es) n ≡ Some (entry e)
held_of h e es n p r l q =
    let s : rises entry_is_before (entry e ∷ es) ≡ true = subst (λ x. rises entry_is_before (given x ++ es) ≡ true) p r in
    ap (λ x. entry_of (given x ++ es) n) p
    ∙ ap (λ t. last_of (cond t (Some (entry e)) None) es n) (is_same 65536 n e.obligation l (sym q))
    ∙ none_of (Some (entry e)) es n (rest_rises (entry e) es s) (subst (λ m. begin_from (suc m) es ≡ true) q (behind (entry e) es s))

pub held_other : (h : Option Entry) (e : Entry) (es : List certificates.Entry) (n : ℕ) → h ≡ Some e → rises entry_is_before (given h ++ es) ≡ true → begin_from n (given h ++ es) ≡ true → ((e.obligation ≡ n) → ⊥) → entry_of (given h ++ es) n ≡ None
held_other h e es n p r b q =
    let s : rises entry_is_before (entry e ∷ es) ≡ true = subst (λ x. rises entry_is_before (given x ++ es) ≡ true) p r in
    let f : begin_from n (entry e ∷ es) ≡ true = subst (λ x. begin_from n (given x ++ es) ≡ true) p b in
    let g : begin_from (suc n) (entry e ∷ es) ≡ true = grind (arith, nat_tests) in
    ap (λ x. entry_of (given x ++ es) n) p ∙ none_of None (entry e ∷ es) n s g
