-- Each kernel of the grammar is read, or a limit is passed.
use Rattle.std.proofs.Common.{◌≡◌, ◌≤◌, ◌<◌, ℕ, zero, suc, ◌+◌, ◌*◌, Bool, true, false, nat_lt, nat_le, ◌&&◌, cond, Some, Result, Ok, Err, List, [], ◌∷◌, length, refl, ap, subst, arith}
use Rattle.std.specs.Prelude.{codes}
use Rattle.std.proofs.lemmas.Bool.{and_from, le-leb, ltb-true}
use Rattle.std.proofs.Math.Nat.{le-mul_of_pos_right}
use Rattle.semantics.specs.Word.{Kind}
use Rattle.semantics.specs.Core.{Site}
use Rattle.texts.specs.Numbers.{Literal}
use Rattle.texts.specs.Reserved as words
use Rattle.texts.specs.Reserved.{Reserved}
use Rattle.texts.specs.Signs as signs
use Rattle.texts.specs.Tokens as token
use Rattle.texts.specs.Lexemes.{Lexeme, mark, word, name, number, kind_of}
use Rattle.texts.specs.Ended.{IsShort}
use Rattle.texts.specs.Surface.{Parameter, Buffer, Value, Kernel}
use Rattle.texts.specs.Limits as limits
use Rattle.texts.specs.Limits.{Counts, nothing_declared, count_parameter, count_parameters, count_statements, counted, measured, deep_statements, within_limits}
use Rattle.texts.specs.KernelLimits.{IsLocalSize, IsShallow, IsFew}
use Rattle.texts.specs.KernelGrammar as rules
use Rattle.texts.specs.KernelGrammar.{IsParameter, IsParameters, IsKernel}
use Rattle.parser.specs.Reader.{front}
use Rattle.parser.specs.Expressions.{is_right_parenthesis}
use Rattle.parser.specs.Kernels.{is_global, is_const, buffer_reader, value_reader, parameter_reader, one_parameter, more_parameters, parameters_reader, size_reader, sizes_reader, attribute_reader, kernel_reader}
use Rattle.parser.proofs.Options.{none-some}
use Rattle.parser.proofs.Answers.{Answers, gives, refuses-many, looks, passes, sure, both, weaker, if-so, if-false}
use Rattle.parser.proofs.Counting.{items-counts}
use Rattle.parser.proofs.Later.{past, stays, later-length, parameters-later}
use Rattle.parser.proofs.CompleteParts.{type-taken}
use Rattle.parser.proofs.CompleteStatements.{items-complete}
use Rattle.parser.proofs.StatementReads.{block-step}
use Rattle.parser.proofs.Exact.{no-error}

no-const : (w : Reserved) (kind : Kind) → kind_of w ≡ Some kind → is_const (token.Word w) ≡ false
no-const words.Const kind h = absurd (none-some kind h)
no-const w kind h = refl

no-global : (w : Reserved) (kind : Kind) → kind_of w ≡ Some kind → is_global (token.Word w) ≡ false
no-global words.Global kind h = absurd (none-some kind h)
no-global w kind h = refl

parameter-complete : {ts rest : List Lexeme} {p : Parameter} {deep many : Type 0} → IsParameter ts p rest → Answers parameter_reader ts p rest deep many
unfolding parameter_reader buffer_reader value_reader
parameter-complete {rest = rest} (rules.buffer w kind x at type star there found) =
    looks (passes (looks (if-false (is_const (token.Word w)) _ _ (no-const w kind found) (sure (type-taken w kind type (mark signs.Star star ∷ name x there ∷ rest) found) (sure refl (sure refl gives))))))
parameter-complete {rest = rest} (rules.constant_buffer w kind x at fixed type star there found) =
    looks (passes (looks (passes (sure (type-taken w kind type (mark signs.Star star ∷ name x there ∷ rest) found) (sure refl (sure refl gives))))))
parameter-complete {rest = rest} (rules.value w kind x at there found) =
    looks (if-false (is_global (token.Word w)) _ _ (no-global w kind found) (sure (type-taken w kind at (name x there ∷ rest) found) (sure refl gives)))

pub parameter-begins : {ts rest : List Lexeme} {p : Parameter} → IsParameter ts p rest → is_right_parenthesis (front ts).kind ≡ false
parameter-begins (rules.buffer w kind x at type star there found) = refl
parameter-begins (rules.constant_buffer w kind x at fixed type star there found) = refl
parameter-begins (rules.value w kind x at there found) = refl

-- the others, as many as are left
none-left : {ts rest : List Lexeme} {ps : List Parameter} {deep many : Type 0} → (many → ⊥) → Answers (more_parameters zero) ts ps rest deep many
unfolding more_parameters
none-left n = refuses-many n

last-read : (left : ℕ) (closing : Site) {rest : List Lexeme} {deep many : Type 0} → Answers (more_parameters (suc left)) (mark signs.RightParenthesis closing ∷ rest) [] rest deep many
unfolding more_parameters
last-read left closing = looks (sure refl gives)

next-read : (left : ℕ) (comma : Site) {ts rest : List Lexeme} {ps : List Parameter} {deep many : Type 0} → Answers (one_parameter (more_parameters left)) ts ps rest deep many → Answers (more_parameters (suc left)) (mark signs.Comma comma ∷ ts) ps rest deep many
unfolding more_parameters
next-read left comma h = looks (passes h)

row-complete : {ts rest : List Lexeme} {p : Parameter} {ps : List Parameter} {deep : Type 0} → IsParameters ts (p ∷ ps) rest → (left : ℕ) → Answers (one_parameter (more_parameters left)) ts (p ∷ ps) rest deep (length ps < left)
row-complete (rules.last_parameter closing h) zero = both (parameter-complete h) (λ f. f) (λ f. f) (both (none-left (λ f. omega (arith, f))) (λ f. f) (λ f. f) gives)
row-complete (rules.last_parameter closing h) (suc left) = both (parameter-complete h) (λ f. f) (λ f. f) (both (last-read left closing) (λ f. f) (λ f. f) gives)
row-complete (rules.another_parameter comma h k) zero = both (parameter-complete h) (λ f. f) (λ f. f) (both (none-left (λ f. omega (arith, f))) (λ f. f) (λ f. f) gives)
row-complete (rules.another_parameter comma h k) (suc left) = both (parameter-complete h) (λ f. f) (λ f. f) (both (next-read left comma (row-complete k left)) (λ f. f) (λ f. omega (arith, f)) gives)

parameters-complete : {ts rest : List Lexeme} {ps : List Parameter} {deep : Type 0} → IsParameters ts ps rest → Answers parameters_reader ts ps rest deep (length ps ≤ 80)
unfolding parameters_reader
parameters-complete (rules.no_parameter closing) = looks (passes gives)
parameters-complete {ts = ts} (rules.last_parameter closing h) = looks (if-false (is_right_parenthesis (front ts).kind) _ _ (parameter-begins h) (weaker (λ f. f) (λ f. omega (arith, f)) (row-complete (rules.last_parameter closing h) 80)))
parameters-complete {ts = ts} (rules.another_parameter comma h k) = looks (if-false (is_right_parenthesis (front ts).kind) _ _ (parameter-begins h) (weaker (λ f. f) (λ f. omega (arith, f)) (row-complete (rules.another_parameter comma h k) 80)))

-- no more than 80, where the counts are within their limits
one-counted : (n most : ℕ) (c d : Counts) (site : Site) → cond (nat_lt n most) (Ok d) (Err site) ≡ Ok c → (n < most) × (d ≡ c)
one-counted n most c d site h = by (nat_lt n most) refl h
  where
    or-else : Counts → Result Counts Site → Counts
    or-else d (Ok c) = c
    or-else d (Err e) = d

    by : (b : Bool) → nat_lt n most ≡ b → cond b (Ok d) (Err site) ≡ Ok c → (n < most) × (d ≡ c)
    by true q h = (ltb-true n most q, ap (or-else d) h)
    by false q h = absurd (no-error site c h)

abbrev Few : Counts → Type 0
Few c = (c.buffers ≤ 16) × (c.variables ≤ 64)

few-parameters : (ps : List Parameter) (c d : Counts) → Few c → count_parameters c ps ≡ Ok d → length ps + (c.buffers + c.variables) ≤ 80
few-parameters [] c d few h = omega (arith, few.0, few.1)
few-parameters (p ∷ ps) c d few h = by (λ e. few-parameters ps e d) (count_parameter c p) refl h
  where
    more : (p : Parameter) (e : Counts) → count_parameter c p ≡ Ok e → Few e × (e.buffers + e.variables ≡ 1 + (c.buffers + c.variables))
    more (Buffer constant kind site x) e q =
        let o = one-counted c.buffers 16 e (record c { buffers = c.buffers + 1 }) site q in
        subst (λ e. Few e × (e.buffers + e.variables ≡ 1 + (c.buffers + c.variables))) o.1 ((omega (arith, o.0), few.1), omega arith)
    more (Value kind site x) e q =
        let o = one-counted c.variables 64 e (record c { variables = c.variables + 1 }) site q in
        subst (λ e. Few e × (e.buffers + e.variables ≡ 1 + (c.buffers + c.variables))) o.1 ((few.0, omega (arith, o.0)), omega arith)

    by : ((e : Counts) → Few e → count_parameters e ps ≡ Ok d → length ps + (e.buffers + e.variables) ≤ 80) → (r : Result Counts Site) → count_parameter c p ≡ r → limits.next r (λ c. count_parameters c ps) ≡ Ok d → suc (length ps) + (c.buffers + c.variables) ≤ 80
    by again (Err site) q h = absurd (no-error site d h)
    by again (Ok e) q h = let m = more p e q in omega (arith, again e m.0 h, m.1)

-- local sizes
size-complete : (product : ℕ) (l : Literal) (at : Site) {rest : List Lexeme} {deep : Type 0} → Answers (size_reader product) (number l at ∷ rest) l.value rest deep (IsLocalSize l.value × (product * l.value ≤ 1024))
size-complete product l at = looks (if-so (nat_le 1 l.value && nat_le l.value 1024 && nat_le (product * l.value) 1024)
    (λ f. and_from (nat_le 1 l.value && nat_le l.value 1024) (nat_le (product * l.value) 1024) (and_from (nat_le 1 l.value) (nat_le l.value 1024) (le-leb 1 l.value f.0.0) (le-leb l.value 1024 f.0.1)) (le-leb (product * l.value) 1024 f.1)) (passes gives))

abbrev FitSizes : (x y z : ℕ) → Type 0
FitSizes x y z = IsLocalSize x × IsLocalSize y × IsLocalSize z × (x * y * z ≤ 1024)

two-fit : (x y z : ℕ) → FitSizes x y z → x * y ≤ 1024
two-fit x y z f = let more : x * y ≤ x * y * z = le-mul_of_pos_right (x * y) f.2.0 in omega (arith, more, f.3)

sizes-complete : (x y z : Literal) (at1 at2 at3 at4 at5 : Site) {rest : List Lexeme} {deep : Type 0} → Answers sizes_reader (number x at1 ∷ mark signs.Comma at2 ∷ number y at3 ∷ mark signs.Comma at4 ∷ number z at5 ∷ rest) (record { x = x.value; y = y.value; z = z.value }) rest deep (FitSizes x.value y.value z.value)
unfolding sizes_reader
sizes-complete x y z at1 at2 at3 at4 at5 =
    both (size-complete 1 x at1) (λ f. f) (λ f. (f.0, omega (arith, f.0.1))) (sure refl (both (size-complete x.value y at3) (λ f. f) (λ f. (f.1, two-fit x.value y.value z.value f)) (sure refl (both (size-complete (x.value * y.value) z at5) (λ f. f) (λ f. (f.2, f.3)) gives))))

attribute-complete : (x y z : Literal) (at1 at2 at3 at4 at5 at6 at7 at8 at9 at10 at11 at12 at13 at14 : Site) {rest : List Lexeme} {deep : Type 0} → Answers attribute_reader (word words.Kernel at1 ∷ word words.Attribute at2 ∷ mark signs.LeftParenthesis at3 ∷ mark signs.LeftParenthesis at4 ∷ name (codes "reqd_work_group_size") at5
    ∷ mark signs.LeftParenthesis at6 ∷ number x at7 ∷ mark signs.Comma at8 ∷ number y at9 ∷ mark signs.Comma at10 ∷ number z at11 ∷ mark signs.RightParenthesis at12 ∷ mark signs.RightParenthesis at13 ∷ mark signs.RightParenthesis at14 ∷ rest)
    (record { x = x.value; y = y.value; z = z.value }) rest deep (FitSizes x.value y.value z.value)
unfolding attribute_reader
attribute-complete x y z at1 at2 at3 at4 at5 at6 at7 at8 at9 at10 at11 at12 at13 at14 =
    sure refl (sure refl (sure refl (sure refl (sure refl (sure refl (both (sizes-complete x y z at7 at8 at9 at10 at11) (λ f. f) (λ f. f) (sure refl (sure refl (sure refl gives)))))))))

next-back : (r : Result Counts Site) (go : Counts → Result Counts Site) (d : Counts) → limits.next r go ≡ Ok d → (c : Counts) × (r ≡ Ok c)
next-back (Ok c) go d h = (c, refl)
next-back (Err site) go d h = absurd (no-error site d h)

few-named : (k : Kernel) → IsFew k → length k.parameters ≤ 80
few-named k w =
    let n = next-back (count_parameters nothing_declared k.parameters) (λ c. count_statements c k.body) w.names.0 w.names.1 in
    omega (arith, few-parameters k.parameters nothing_declared n.0 (omega arith, omega arith) n.1)

pub data KernelAnswers (had : ℕ) (ts : List Lexeme) (k : Kernel) : Type 0 where
  answers : (rest : List Lexeme) → Answers kernel_reader ts k rest ((had ≤ 64) × IsShallow k) (IsShort ts × IsFew k) → KernelAnswers had ts k

pub kernel-complete : {had : ℕ} {ts : List Lexeme} {k : Kernel} → IsKernel had ts k → KernelAnswers had ts k
unfolding kernel_reader
kernel-complete (rules.kernel {room = room} {ps = ps} {body = body} x y z f at1 at2 at3 at4 at5 at6 at7 at8 at9 at10 at11 at12 at13 at14 at15 at16 at17 at18 at19 parameters items) =
    answers (record { kind = token.End; site = at19 } ∷ [])
    (both (attribute-complete x y z at1 at2 at3 at4 at5 at6 at7 at8 at9 at10 at11 at12 at13 at14) (λ f. f) (λ f. f.1.local_sizes) (sure refl (sure refl (sure refl
    (both (parameters-complete parameters) (λ f. f) (λ few. few-named (record { name = f; name_site = at16; sizes = record { x = x.value; y = y.value; z = z.value }; parameters = ps; body = body }) few.1) (sure refl
    (both (block-step 32 63 1 (items-complete 1 items (omega arith) 513 32 63 1 (omega arith) (omega arith)))
    (λ f. (omega (arith, f.0), f.1)) (λ f. (omega (arith, f.0, later-length (past refl (parameters-later parameters) stays)), omega (arith, f.1.statements, items-counts 1 items), f.1.arrays))
    (both (looks gives) (λ f. f) (λ f. f) gives))))))))
