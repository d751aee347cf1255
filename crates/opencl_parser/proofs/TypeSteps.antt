-- One step of each reader of types.
use Rattle.std.proofs.Common.{◌≡◌, ℕ, zero, suc, ◌-◌, List, ◌++◌, [], ◌∷◌, cond, refl, ap, ◌∙◌, map}
use Rattle.opencl_tokens.specs.Lexemes.{Lexeme}
use Rattle.opencl_tree.specs.Types as types
use Rattle.opencl_tree.specs.View.{qualifiers}
use Rattle.opencl_tree.specs.declared.types.Qualifiers.{Qualifiers}
use Rattle.opencl_parser.specs.Faults.{TooMany}
use Rattle.opencl_parser.specs.Reader.{Gives, Passes, Then, Refused, front, run}
use Rattle.opencl_parser.specs.Signs.{is_star}
use Rattle.opencl_parser.specs.TypeNames.{Known, Typed, typing, by_part, grown, qualifying, by_qualified, qualified, starring, most_words, unqualified}
use Rattle.opencl_parser.proofs.Steps.{pred, stops-carry}

pub typing-none : (ks : List Known) (left : ℕ) (t : Typed) (ts : List Lexeme) → left ≡ 0 → run (typing ks left t) ts ≡ Refused TooMany (front ts).site
unfolding typing
typing-none ks left t ts h = ap (λ n. run (typing ks n t) ts) h

typing-more : (ks : List Known) (left : ℕ) (t : Typed) (ts : List Lexeme) → run (typing ks (suc left) t) ts ≡ run (by_part (typing ks left) t (grown ks t (front ts).kind)) ts
unfolding typing
typing-more ks left t ts = refl

pub typing-less : (ks : List Known) (left : ℕ) (t : Typed) (ts : List Lexeme) → (left ≡ 0 → ⊥) → run (typing ks left t) ts ≡ run (by_part (typing ks (left - 1)) t (grown ks t (front ts).kind)) ts
typing-less ks left t ts h = ap (λ n. run (typing ks n t) ts) (pred left h) ∙ typing-more ks (left - 1) t ts

pub qualifying-none : (left : ℕ) (q : types.Qualifiers) (ts : List Lexeme) → left ≡ 0 → run (qualifying left q) ts ≡ Refused TooMany (front ts).site
unfolding qualifying
qualifying-none left q ts h = ap (λ n. run (qualifying n q) ts) h

qualifying-more : (left : ℕ) (q : types.Qualifiers) (ts : List Lexeme) → run (qualifying (suc left) q) ts ≡ run (by_qualified (qualifying left) q (qualified q (front ts).kind)) ts
unfolding qualifying
qualifying-more left q ts = refl

pub qualifying-less : (left : ℕ) (q : types.Qualifiers) (ts : List Lexeme) → (left ≡ 0 → ⊥) → run (qualifying left q) ts ≡ run (by_qualified (qualifying (left - 1)) q (qualified q (front ts).kind)) ts
qualifying-less left q ts h = ap (λ n. run (qualifying n q) ts) (pred left h) ∙ qualifying-more (left - 1) q ts

pub starring-none : (left : ℕ) (so : List types.Qualifiers) (ts : List Lexeme) → left ≡ 0 → run (starring left so) ts ≡ Refused TooMany (front ts).site
unfolding starring
starring-none left so ts h = ap (λ n. run (starring n so) ts) h

starring-more : (left : ℕ) (so : List types.Qualifiers) (ts : List Lexeme) → run (starring (suc left) so) ts ≡ run (cond (is_star (front ts).kind) (Passes (Then (qualifying most_words unqualified) (λ q. starring left (so ++ q ∷ [])))) (Gives so)) ts
unfolding starring
starring-more left so ts = refl

pub starring-less : (left : ℕ) (so : List types.Qualifiers) (ts : List Lexeme) → (left ≡ 0 → ⊥) → run (starring left so) ts ≡ run (cond (is_star (front ts).kind) (Passes (Then (qualifying most_words unqualified) (λ q. starring (left - 1) (so ++ q ∷ [])))) (Gives so)) ts
starring-less left so ts h = ap (λ n. run (starring n so) ts) (pred left h) ∙ starring-more (left - 1) so ts

pub seen-snoc : (qs : List Qualifiers) (q : Qualifiers) → map qualifiers (qs ++ q ∷ []) ≡ map qualifiers qs ++ qualifiers q ∷ []
seen-snoc [] q = refl
seen-snoc (x ∷ qs) q = ap (λ r. qualifiers x ∷ r) (seen-snoc qs q)

pub ruleset type_steps = (stops-carry, typing-none, typing-less, qualifying-none, qualifying-less, starring-none, starring-less, seen-snoc)
