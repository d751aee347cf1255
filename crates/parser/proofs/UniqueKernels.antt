-- Lexemes have one kernel.
use Rattle.std.proofs.Common.{◌≡◌, ℕ, suc, true, false, List, [], ◌∷◌, refl, ap, sym, ◌∙◌, subst}
use Rattle.std.proofs.lemmas.Bool.{false≢true}
use Rattle.semantics.specs.Core.{Site}
use Rattle.texts.specs.Numbers.{Literal}
use Rattle.texts.specs.Signs as signs
use Rattle.texts.specs.Tokens as token
use Rattle.texts.specs.Lexemes.{Lexeme, mark, kind_of}
use Rattle.texts.specs.Surface.{Statements, Parameter, Buffer, Value, Kernel}
use Rattle.texts.specs.KernelGrammar as rules
use Rattle.texts.specs.KernelGrammar.{IsParameter, IsParameters, IsItems, IsKernel}
use Rattle.parser.specs.Reader.{front, behind}
use Rattle.parser.specs.Expressions.{is_comma}
use Rattle.parser.proofs.Options.{same-some}
use Rattle.parser.proofs.CompleteKernels.{parameter-begins}
use Rattle.parser.proofs.UniqueStatements.{items-unique}

parameter-unique : {ts rest left : List Lexeme} {p q : Parameter} → IsParameter ts p rest → IsParameter ts q left → (p ≡ q) × (rest ≡ left)
parameter-unique (rules.buffer w kind x at type star there found) (rules.buffer w' kind' x' at' type' star' there' found') = (ap (λ kind. Buffer false kind there x) (same-some (kind_of w) kind kind' found found'), refl)
parameter-unique (rules.constant_buffer w kind x at fixed type star there found) (rules.constant_buffer w' kind' x' at' fixed' type' star' there' found') = (ap (λ kind. Buffer true kind there x) (same-some (kind_of w) kind kind' found found'), refl)
parameter-unique (rules.value w kind x at there found) (rules.value w' kind' x' at' there' found') = (ap (λ kind. Value kind there x) (same-some (kind_of w) kind kind' found found'), refl)

comma-ends : (ts us : List Lexeme) (closing comma : _) → mark signs.RightParenthesis closing ∷ ts ≡ mark signs.Comma comma ∷ us → ⊥
comma-ends ts us closing comma e = false≢true (ap (λ l. is_comma (front l).kind) e)

parameters-unique : {ts rest left : List Lexeme} {ps qs : List Parameter} → IsParameters ts ps rest → IsParameters ts qs left → (ps ≡ qs) × (rest ≡ left)
parameters-unique (rules.no_parameter closing) (rules.no_parameter closing') = (refl, refl)
parameters-unique (rules.no_parameter closing) (rules.last_parameter closing' h) = absurd (false≢true (sym (parameter-begins h)))
parameters-unique (rules.no_parameter closing) (rules.another_parameter comma h k) = absurd (false≢true (sym (parameter-begins h)))
parameters-unique (rules.last_parameter closing h) (rules.no_parameter closing') = absurd (false≢true (sym (parameter-begins h)))
parameters-unique (rules.last_parameter closing h) (rules.last_parameter closing' h') = let q = parameter-unique h h' in (ap (λ p. p ∷ []) q.0, ap behind q.1)
parameters-unique {rest = rest} (rules.last_parameter closing h) (rules.another_parameter {ts1 = us} comma h' k') = absurd (comma-ends rest us closing comma (parameter-unique h h').1)
parameters-unique (rules.another_parameter comma h k) (rules.no_parameter closing) = absurd (false≢true (sym (parameter-begins h)))
parameters-unique {left = left} (rules.another_parameter {ts1 = us} comma h k) (rules.last_parameter closing h') = absurd (comma-ends left us closing comma (sym (parameter-unique h h').1))
parameters-unique {left = left} (rules.another_parameter {q = q} {ps = ps} comma h k) (rules.another_parameter {p = p'} {q = q'} {ps = qs} comma' h' k') =
    let e = parameter-unique h h' in
    let f = parameters-unique k (subst (λ l. IsParameters l (q' ∷ qs) left) (sym (ap behind e.1)) k') in
    (ap (λ p. p ∷ q ∷ ps) e.0 ∙ ap (λ l. p' ∷ l) f.0, f.1)

made : (x y z : Literal) (f : List ℕ) (at : Site) (ps : List Parameter) (body : Statements) → Kernel
made x y z f at ps body = record { name = f; name_site = at; sizes = record { x = x.value; y = y.value; z = z.value }; parameters = ps; body = body }

pub kernel-unique : (ts : List Lexeme) (k l : Kernel) (room other : ℕ) → IsKernel room ts k → IsKernel other ts l → k ≡ l
unfolding made
kernel-unique ts k l room other
    (rules.kernel {ps = ps} {body = body} x y z f at1 at2 at3 at4 at5 at6 at7 at8 at9 at10 at11 at12 at13 at14 at15 at16 at17 at18 at19 h i)
    (rules.kernel {room = more} {next = over} {ps = qs} {body = rest} x' y' z' f' b1 b2 b3 b4 b5 b6 b7 b8 b9 b10 b11 b12 b13 b14 b15 b16 b17 b18 b19 h' i') =
    let p = parameters-unique h h' in
    let q = items-unique i (subst (λ l. IsItems (suc (suc more)) 1 l rest over (record { kind = token.End; site = b19 } ∷ [])) (sym (ap behind p.1)) i') in
    ap (λ ps. made x y z f at16 ps body) p.0 ∙ ap (made x y z f at16 qs) q.0
