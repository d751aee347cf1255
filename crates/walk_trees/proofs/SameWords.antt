-- Lists of words that are equal, by a test.
use Rattle.std.proofs.Common.{◌≡◌, Bool, true, false, ◌&&◌, List, [], ◌∷◌, refl}
use Rattle.std.specs.Ordering.{int_eq}
use Rattle.std.proofs.lemmas.Bool.{and_parts, and_from}
use Rattle.std.proofs.lemmas.Bool.Decides.{Decides-int_eq}
use Rattle.semantics.specs.Word.{same_kind, Kind, Int, Uint, Size, Word}

abbrev pub same_word : Word → Word → Bool
same_word a b = same_kind a.kind b.kind && int_eq a.value b.value

abbrev pub same_words : List Word → List Word → Bool
same_words [] [] = true
same_words [] (b ∷ bs) = false
same_words (a ∷ as') [] = false
same_words (a ∷ as') (b ∷ bs) = same_word a b && same_words as' bs

same_kind-is : (a b : Kind) → same_kind a b ≡ true → a ≡ b
same_kind-is Int Int h = refl
same_kind-is Int Uint h = cc
same_kind-is Int Size h = cc
same_kind-is Uint Int h = cc
same_kind-is Uint Uint h = refl
same_kind-is Uint Size h = cc
same_kind-is Size Int h = cc
same_kind-is Size Uint h = cc
same_kind-is Size Size h = refl

same_kind-refl : (a : Kind) → same_kind a a ≡ true
same_kind-refl Int = refl
same_kind-refl Uint = refl
same_kind-refl Size = refl

same_word-is : (a b : Word) → same_word a b ≡ true → a ≡ b
same_word-is a b h =
    let p = and_parts (same_kind a.kind b.kind) (int_eq a.value b.value) h in
    let k = same_kind-is a.kind b.kind p.0 in
    let v = (Decides-int_eq a.value b.value).0 p.1 in
    λ i. record { kind = k i; value = v i }

pub same_words-is : (as' bs : List Word) → same_words as' bs ≡ true → as' ≡ bs
same_words-is [] [] h = refl
same_words-is [] (b ∷ bs) h = cc
same_words-is (a ∷ as') [] h = cc
same_words-is (a ∷ as') (b ∷ bs) h =
    let p = and_parts (same_word a b) (same_words as' bs) h in
    let e = same_word-is a b p.0 in
    let f = same_words-is as' bs p.1 in
    λ i. e i ∷ f i

pub same_words-refl : (as' : List Word) → same_words as' as' ≡ true
same_words-refl [] = refl
same_words-refl (a ∷ as') = and_from (same_word a a) (same_words as' as') (and_from (same_kind a.kind a.kind) (int_eq a.value a.value) (same_kind-refl a.kind) ((Decides-int_eq a.value a.value).1 refl)) (same_words-refl as')
