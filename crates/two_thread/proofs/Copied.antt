-- What is alike, copied place by place.
use Rattle.std.proofs.Common.{◌≡◌, ℕ, ◌+◌, ◌<◌, ◌≤◌, ◌&&◌, List, [], ◌∷◌, ◌++◌, cond, length, drop, get_or, drop-cons, add-one, refl, sym, ap, subst, ◌∙◌, Some, None}
use Rattle.std.proofs.Math.ListN.{drop_of_length-le}
use Rattle.obligations.specs.View.{same_number, same_of}
use Rattle.obligations.specs.declared.notes.Lines.{Lines}
use Rattle.two_thread.specs.Alike.{alike_of}
use Rattle.two_thread.specs.declared.alike.Alike.{Alike}

-- of the first that are of the barrier, or of those that come later
abbrev pub alike_then : List Alike → (barrier : ℕ) → (past : List ℕ) → List ℕ
alike_then [] b past = past
alike_then (a ∷ as') b past = cond (same_number a.anchor (Some b) && same_number a.head None) a.same.items (alike_then as' b past)

pub alike_none : (as' : List Alike) (b : ℕ) → alike_then as' b [] ≡ alike_of as' b
alike_none [] b = refl
alike_none (a ∷ as') b = ap (cond (same_number a.anchor (Some b) && same_number a.head None) a.same.items) (alike_none as' b)

alike_one : (as' : List Alike) (a : Alike) (b : ℕ) (past : List ℕ) → alike_then (as' ++ a ∷ []) b past ≡ alike_then as' b (alike_then (a ∷ []) b past)
alike_one [] a b past = refl
alike_one (x ∷ as') a b past = ap (cond (same_number x.anchor (Some b) && same_number x.head None) x.same.items) (alike_one as' a b past)

pub alike_step : (ls : List Lines) (i : ℕ) (l : Lines) (found new : List Alike) (a : Alike) → i < length ls → l ≡ get_or ls i l → a.anchor ≡ l.anchor → a.head ≡ l.head → a.same.items ≡ l.same.items → new ≡ found ++ a ∷ [] → ((b : ℕ) → alike_then found b (same_of (drop i ls) b) ≡ same_of ls b) → (b : ℕ) → alike_then new b (same_of (drop (i + 1) ls) b) ≡ same_of ls b
alike_step ls i l found new a h e p q r n k b =
    let d : drop i ls ≡ l ∷ drop (i + 1) ls = drop-cons ls i l h ∙ (λ j. sym e j ∷ drop (sym (add-one i) j) ls) in
    ap (λ x. alike_then x b (same_of (drop (i + 1) ls) b)) n
    ∙ alike_one found a b (same_of (drop (i + 1) ls) b)
    ∙ ap (alike_then found b) (λ j. cond (same_number (p j) (Some b) && same_number (q j) None) (r j) (same_of (drop (i + 1) ls) b))
    ∙ ap (λ x. alike_then found b (same_of x b)) (sym d)
    ∙ k b

pub alike_end : (ls : List Lines) (i : ℕ) (found : List Alike) → length ls ≤ i → ((b : ℕ) → alike_then found b (same_of (drop i ls) b) ≡ same_of ls b) → (b : ℕ) → alike_of found b ≡ same_of ls b
alike_end ls i found h k b = sym (alike_none found b) ∙ sym (ap (λ x. alike_then found b (same_of x b)) (drop_of_length-le ls h)) ∙ k b

-- over a list that is those of the notes
pub alike_next : (ps ls : List Lines) → ls ≡ ps → (i : ℕ) (l : Lines) (found new : List Alike) (a : Alike) → i < length ls → l ≡ get_or ls i l → a.anchor ≡ l.anchor → a.head ≡ l.head → a.same.items ≡ l.same.items → new ≡ found ++ a ∷ [] → ((b : ℕ) → alike_then found b (same_of (drop i ps) b) ≡ same_of ps b) → (b : ℕ) → alike_then new b (same_of (drop (i + 1) ps) b) ≡ same_of ps b
alike_next ps ls q i l found new a h e u v w n k = alike_step ps i l found new a (subst (λ x. i < length x) q h) (e ∙ ap (λ x. get_or x i l) q) u v w n k

pub alike_last : (ps ls : List Lines) → ls ≡ ps → (i : ℕ) (found : List Alike) → length ls ≤ i → ((b : ℕ) → alike_then found b (same_of (drop i ps) b) ≡ same_of ps b) → (b : ℕ) → alike_of found b ≡ same_of ps b
alike_last ps ls q i found h k b = alike_end ps i found (subst (λ x. length x ≤ i) q h) k b
