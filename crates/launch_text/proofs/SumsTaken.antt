-- What a sum's reader took from the front is a sum.
use Rattle.std.proofs.Common.{◌≡◌, ℕ, zero, suc, ◌≤◌, List, [], ◌∷◌, ◌++◌, length, Bool, true, ◌&&◌, Option, Some, None, Ok, refl, ap, sym, ◌∙◌, subst, append_assoc, arith}
use Rattle.std.specs.Prelude.{ℤ, pos, codes}
use Rattle.std.specs.Fmt.{signed_decimal}
use Rattle.std.proofs.lemmas.Bool.{cond_both, and_parts}
use Rattle.semantics.specs.Conditions.{Factor, ArgumentFactor, GroupsFactor, Summand, Constant, Product}
use Rattle.texts.specs.Surface.{Parameter}
use Rattle.launch_text.specs.LaunchFaults.{Cursor, Step, refused, then, Expected, UnknownName, sees, past}
use Rattle.launch_text.specs.LaunchWords.{number_at, factor_within, factor_at, name_at, is_known}
use Rattle.launch_text.specs.LaunchSums.{value_number, argument_found, argument_at, symbol_at, times, symbols_at, begins_number, term_at, sum_at}
use Rattle.launch_text.specs.ConditionsText.{IsFactor, IsSymbol, groups_x, groups_y, groups_z, argument, IsMultiple, one_name, two_names, IsTerm, alone, number, product, IsSum, last, more, IsShortSum}
use Rattle.lines.proofs.Fronts.{begins}
use Rattle.launch_text.proofs.Back.{then_back, same_back, found_back}
use Rattle.launch_text.proofs.Taken.{number_took, factor_is, name_took, found_rest}

-- bytes of which something is so stand in front of what is left
abbrev pub Took : (List ℕ → Type 0) → Cursor → Cursor → Type 0
Took Is c d = (bytes : List ℕ) × Is bytes × (c.rest ≡ bytes ++ d.rest)

factor_took : (c : Cursor) (t : ℤ × Cursor) → factor_at c ≡ Ok t → (c.rest ≡ signed_decimal t.0 ++ t.1.rest) × IsFactor t.0
unfolding factor_at
factor_took c t e =
    let n = then_back (number_at c) _ t e in
    let f = factor_is n.0.0 t.0 (found_back (factor_within n.0.0) _ n.0.1 t n.2) in
    (number_took c n.0 n.1 ∙ ap (λ z. signed_decimal z ++ n.0.1.rest) f.0 ∙ ap (λ (d : Cursor). signed_decimal t.0 ++ d.rest) (found_rest (factor_within n.0.0) _ n.0.1 t n.2), subst IsFactor f.0 f.1)

abbrev TookSymbol : List Parameter → Cursor → Factor × Cursor → Type 0
TookSymbol ps c t = Took (λ bytes. IsSymbol ps bytes t.0) c t.1

named : (ps : List Parameter) (before : Cursor) (name : List ℕ) (o : Option ℕ) (c : Cursor) (t : Factor × Cursor) → value_number 0 ps name ≡ o → before.rest ≡ name ++ c.rest → argument_found ps name o c ≡ Ok t → TookSymbol ps before t
named ps before name (Some n) c t h r e = subst (λ t. TookSymbol ps before t) (same_back (ArgumentFactor n, c) t e) (name, argument name n h, r)
named ps before name None c t h r e =
    cond_both (is_known ps name) (refused Expected c) (refused UnknownName c) (λ s. s ≡ Ok t → TookSymbol ps before t) (λ _ f. absurd cc) (λ _ f. absurd cc) e

argument_took : (ps : List Parameter) (c : Cursor) (t : Factor × Cursor) → argument_at ps c ≡ Ok t → TookSymbol ps c t
unfolding argument_at
argument_took ps c t e =
    let n = then_back (name_at c) _ t e in
    named ps c n.0.0 (value_number 0 ps n.0.0) n.0.1 t refl (name_took c n.0 n.1) n.2

group_took : (ps : List Parameter) (c : Cursor) (word : List ℕ) (a : Factor) (t : Factor × Cursor) → IsSymbol ps word a → sees word c ≡ true → (let r : Step (Factor × Cursor) = Ok (a, past (length word) c) in r ≡ Ok t) → TookSymbol ps c t
group_took ps c word a t i h e = subst (λ t. TookSymbol ps c t) (same_back (a, past (length word) c) t e) (word, i, begins c.rest word h)

symbol_took : (ps : List Parameter) (c : Cursor) (t : Factor × Cursor) → symbol_at ps c ≡ Ok t → TookSymbol ps c t
unfolding symbol_at
symbol_took ps c t =
    let P : Step (Factor × Cursor) → Type 0 = λ s. s ≡ Ok t → TookSymbol ps c t in
    cond_both (sees (codes "groups.0") c) _ _ P (λ h e. group_took ps c (codes "groups.0") (GroupsFactor 0) t groups_x h e) (λ _.
    cond_both (sees (codes "groups.1") c) _ _ P (λ h e. group_took ps c (codes "groups.1") (GroupsFactor 1) t groups_y h e) (λ _.
    cond_both (sees (codes "groups.2") c) _ _ P (λ h e. group_took ps c (codes "groups.2") (GroupsFactor 2) t groups_z h e) (λ _ e.
    argument_took ps c t e)))

-- two parts and what stands between them
pub joined : (between first others rest whole middle behind : List ℕ) → whole ≡ first ++ middle → middle ≡ between ++ behind → behind ≡ others ++ rest → whole ≡ (first ++ (between ++ others)) ++ rest
joined between first others rest whole middle behind p q r =
    p ∙ ap (λ x. first ++ x) (q ∙ ap (λ x. between ++ x) r ∙ sym (append_assoc between others rest)) ∙ sym (append_assoc first (between ++ others) rest)

abbrev TookMultiple : (products : Bool) → List Parameter → ℤ → Cursor → Summand × Cursor → Type 0
TookMultiple products ps z c t = Took (λ bytes. IsMultiple products ps z bytes t.0) c t.1

symbols_took : (products : Bool) (ps : List Parameter) (z : ℤ) (c : Cursor) (t : Summand × Cursor) → symbols_at products ps z c ≡ Ok t → TookMultiple products ps z c t
unfolding symbols_at
symbols_took products ps z c t e =
    let a = then_back (symbol_at ps c) _ t e in
    let one = symbol_took ps c a.0 a.1 in
    cond_both (products && sees (codes "*") a.0.1) (then (symbol_at ps (past 1 a.0.1)) (λ b. Ok (Product z a.0.0 b.0, b.1))) (Ok (times z a.0.0, a.0.1)) (λ s. s ≡ Ok t → TookMultiple products ps z c t)
    (λ h d. let b = then_back (symbol_at ps (past 1 a.0.1)) _ t d in
    let two = symbol_took ps (past 1 a.0.1) b.0 b.1 in
    let p = and_parts products (sees (codes "*") a.0.1) h in
    subst (λ t. TookMultiple products ps z c t) (same_back (Product z a.0.0 b.0.0, b.0.1) t b.2)
    (one.0 ++ (codes "*" ++ two.0), two_names p.0 one.1 two.1, joined (codes "*") one.0 two.0 b.0.1.rest c.rest a.0.1.rest (past 1 a.0.1).rest one.2 (begins a.0.1.rest (codes "*") p.1) two.2))
    (λ _ d. subst (λ t. TookMultiple products ps z c t) (same_back (times z a.0.0, a.0.1) t d) (one.0, one_name one.1, one.2)) a.2

abbrev TookTerm : (products : Bool) → List Parameter → Cursor → Summand × Cursor → Type 0
TookTerm products ps c t = Took (λ bytes. IsTerm products ps bytes t.0) c t.1

term_took : (products : Bool) (ps : List Parameter) (c : Cursor) (t : Summand × Cursor) → term_at products ps c ≡ Ok t → TookTerm products ps c t
unfolding term_at
term_took products ps c t =
    let P : Step (Summand × Cursor) → Type 0 = λ s. s ≡ Ok t → TookTerm products ps c t in
    cond_both (begins_number c.rest) _ _ P
    (λ _ e. let f = then_back (factor_at c) _ t e in
    let z = factor_took c f.0 f.1 in
    cond_both (sees (codes "*") f.0.1) (symbols_at products ps f.0.0 (past 1 f.0.1)) (Ok (Constant f.0.0, f.0.1)) P
    (λ h d. let s = symbols_took products ps f.0.0 (past 1 f.0.1) t d in
    (signed_decimal f.0.0 ++ (codes "*" ++ s.0), product f.0.0 z.1 s.1, joined (codes "*") (signed_decimal f.0.0) s.0 t.1.rest c.rest f.0.1.rest (past 1 f.0.1).rest z.0 (begins f.0.1.rest (codes "*") h) s.2))
    (λ _ d. subst (λ t. TookTerm products ps c t) (same_back (Constant f.0.0, f.0.1) t d) (signed_decimal f.0.0, number f.0.0 z.1, z.0)) f.2)
    (λ _ e. let s = symbols_took products ps (pos 1) c t e in (s.0, alone s.1, s.2))

-- what a sum's reader adds to the terms before it
pub record TookSum (products : Bool) (ps : List Parameter) (room : ℕ) (done : List Summand) (c : Cursor) (t : List Summand × Cursor) : Type 0 where
  pub terms : List Summand
  pub all : t.0 ≡ done ++ terms
  pub few : length terms ≤ room
  pub bytes : List ℕ
  pub is_sum : IsSum products ps bytes terms
  pub rest : c.rest ≡ bytes ++ t.1.rest

sum_goes_on : (products : Bool) (ps : List Parameter) (room : ℕ) (done : List Summand) (c : Cursor) (one : Summand × Cursor) (t : List Summand × Cursor) → TookTerm products ps c one → sees (codes " + ") one.1 ≡ true → TookSum products ps room (done ++ one.0 ∷ []) (past 3 one.1) t → TookSum products ps (suc room) done c t
sum_goes_on products ps room done c one t term h others = record {
  terms = one.0 ∷ others.terms;
  all = others.all ∙ append_assoc done (one.0 ∷ []) others.terms;
  few = omega (arith, others.few);
  bytes = term.0 ++ (codes " + " ++ others.bytes);
  is_sum = more term.1 others.is_sum;
  rest = joined (codes " + ") term.0 others.bytes t.1.rest c.rest one.1.rest (past 3 one.1).rest term.2 (begins one.1.rest (codes " + ") h) others.rest;
}

sum_took : (products : Bool) (ps : List Parameter) (room : ℕ) (done : List Summand) (c : Cursor) (t : List Summand × Cursor) → sum_at products ps room done c ≡ Ok t → TookSum products ps room done c t
unfolding sum_at
sum_took products ps zero done c t e = absurd cc
sum_took products ps (suc room) done c t e =
    let one = then_back (term_at products ps c) _ t e in
    let term = term_took products ps c one.0 one.1 in
    cond_both (sees (codes " + ") one.0.1) (sum_at products ps room (done ++ one.0.0 ∷ []) (past 3 one.0.1)) (Ok (done ++ one.0.0 ∷ [], one.0.1)) (λ s. s ≡ Ok t → TookSum products ps (suc room) done c t)
    (λ h f. sum_goes_on products ps room done c one.0 t term h (sum_took products ps room (done ++ one.0.0 ∷ []) (past 3 one.0.1) t f))
    (λ _ f. subst (λ t. TookSum products ps (suc room) done c t) (same_back (done ++ one.0.0 ∷ [], one.0.1) t f)
    (record { terms = one.0.0 ∷ []; all = refl; few = omega arith; bytes = term.0; is_sum = last term.1; rest = term.2 })) one.2

-- a sum of at most 8 terms
pub short_sum_took : (products : Bool) (ps : List Parameter) (c : Cursor) (t : List Summand × Cursor) → sum_at products ps 8 [] c ≡ Ok t → Took (λ bytes. IsShortSum products ps bytes t.0) c t.1
short_sum_took products ps c t e =
    let s = sum_took products ps 8 [] c t e in
    (s.bytes, (subst (λ ss. IsSum products ps s.bytes ss) (sym s.all) s.is_sum, subst (λ ss. length ss ≤ 8) (sym s.all) s.few), s.rest)
