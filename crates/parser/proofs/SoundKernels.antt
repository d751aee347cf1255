-- What is read of a kernel is in the grammar, with local sizes within their limits.
use Rattle.std.proofs.Common.{◌≡◌, ◌≤◌, ℕ, zero, suc, ◌*◌, Bool, true, false, ◌&&◌, nat_le, cond, Option, Some, None, List, [], ◌∷◌, refl, ap, sym, ◌∙◌, subst, arith}
use Rattle.std.specs.Prelude.{codes}
use Rattle.std.proofs.lemmas.Bool.{false≢true, and_parts, leb-true}
use Rattle.semantics.specs.Word.{Kind}
use Rattle.semantics.specs.Core.{Site}
use Rattle.semantics.specs.Launch.{Three}
use Rattle.texts.specs.Numbers.{Literal}
use Rattle.texts.specs.Signs as signs
use Rattle.texts.specs.Reserved as words
use Rattle.texts.specs.Reserved.{Reserved}
use Rattle.texts.specs.Tokens as token
use Rattle.texts.specs.Tokens.{TokenKind}
use Rattle.texts.specs.Lexemes.{Lexeme, mark, word, name, number, kind_of}
use Rattle.texts.specs.Ended.{EndsOnce, ends, goes_on}
use Rattle.texts.specs.ParseFaults.{Expected, TooMany}
use Rattle.texts.specs.Surface.{Statements, Parameter, Buffer, Value, Kernel}
use Rattle.texts.specs.KernelLimits.{IsLocalSize, AllArraysFit, statements_of}
use Rattle.texts.specs.KernelGrammar.{IsParameter, buffer, constant_buffer, value, IsParameters, no_parameter, last_parameter, another_parameter, IsItems, IsKernel, kernel}
use Rattle.parser.specs.Reader.{Reader, Gives, Fails, Looks, Passes, Then, Took, front, behind, run}
use Rattle.parser.specs.Expressions.{is_right_parenthesis, is_comma, expects}
use Rattle.parser.specs.Statements.{number_at}
use Rattle.parser.specs.Kernels.{is_global, is_const, is_end, buffer_reader, value_reader, parameter_reader, one_parameter, more_parameters, parameters_reader, size_by, size_reader, sizes_reader, attribute_reader, ended, kernel_reader}
use Rattle.parser.proofs.Inversion.{not-taken, on-test, same-value}
use Rattle.parser.proofs.Marks.{right_parenthesis, comma}
use Rattle.parser.proofs.Taking.{Went, taking, settled, a-name, TypeWord, type_word, a-type}
use Rattle.parser.proofs.Due.{global_stands, const_stands, star_due, comma_due, left_parenthesis_due, right_parenthesis_due, left_brace_due, kernel_due, attribute_due, required_due, void_due}
use Rattle.parser.proofs.SoundParts.{HasNumber, has_number, number-back}
use Rattle.parser.proofs.SoundStatements.{ItemsRead, block-sound}
use Rattle.parser.proofs.Counting.{items-counts}
use Rattle.parser.proofs.Later.{Later, stays, over, later-ends, parameters-later, items-later}

-- a buffer from its type on
data Starred (constant : Bool) (ts : List Lexeme) (p : Parameter) (rest : List Lexeme) : Type 0 where
  starred : (w : Reserved) (kind : Kind) (x : List ℕ) (type star there : Site) → kind_of w ≡ Some kind → ts ≡ word w type ∷ mark signs.Star star ∷ name x there ∷ rest → Buffer constant kind there x ≡ p → Starred constant ts p rest

buffer-sound : (constant : Bool) (ts rest : List Lexeme) (p : Parameter) → run (buffer_reader constant) ts ≡ Took p rest → Starred constant ts p rest
unfolding buffer_reader
buffer-sound constant ts rest p k = by (taking (buffer_reader constant) ts rest p k)
  where
    by : Went (buffer_reader constant) ts p rest → Starred constant ts p rest
    by w = typed (a-type ts w.1 w.0 w.2)
      where
        typed : TypeWord ts w.0.0 w.0.1 w.1 → Starred constant ts p rest
        typed (type_word t found eq) =
            let s = w.3 in
            let x = s.3 in
            settled (λ p rest. Starred constant ts p rest) p (Buffer constant w.0.0 x.0.1 x.0.0) x.1 rest x.3
            (starred t w.0.0 x.0.0 w.0.1 (front w.1).site x.0.1 found (eq ∙ ap (λ l. word t w.0.1 ∷ l) (star_due w.1 s.1 s.0 s.2 ∙ ap (λ l. mark signs.Star (front w.1).site ∷ l) (a-name s.1 x.1 x.0 x.2))) refl)

value-sound : (ts rest : List Lexeme) (p : Parameter) → run value_reader ts ≡ Took p rest → IsParameter ts p rest
unfolding value_reader
value-sound ts rest p k = by (taking value_reader ts rest p k)
  where
    by : Went value_reader ts p rest → IsParameter ts p rest
    by w = typed (a-type ts w.1 w.0 w.2)
      where
        typed : TypeWord ts w.0.0 w.0.1 w.1 → IsParameter ts p rest
        typed (type_word t found eq) =
            let x = w.3 in
            settled (IsParameter ts) p (Value w.0.0 x.0.1 x.0.0) x.1 rest x.3
            (subst (λ l. IsParameter l (Value w.0.0 x.0.1 x.0.0) x.1) (sym (eq ∙ ap (λ l. word t w.0.1 ∷ l) (a-name w.1 x.1 x.0 x.2))) (value t w.0.0 x.0.0 w.0.1 x.0.1 found))

plain-buffer : (at : Site) (ts rest : List Lexeme) (p : Parameter) → Starred false ts p rest → IsParameter (word words.Global at ∷ ts) p rest
plain-buffer at ts rest p (starred w kind x type star there found eq same) =
    subst (λ p. IsParameter (word words.Global at ∷ ts) p rest) same (subst (λ l. IsParameter (word words.Global at ∷ l) (Buffer false kind there x) rest) (sym eq) (buffer w kind x at type star there found))

fixed-buffer : (at fixed : Site) (ts rest : List Lexeme) (p : Parameter) → Starred true ts p rest → IsParameter (word words.Global at ∷ word words.Const fixed ∷ ts) p rest
fixed-buffer at fixed ts rest p (starred w kind x type star there found eq same) =
    subst (λ p. IsParameter (word words.Global at ∷ word words.Const fixed ∷ ts) p rest) same
    (subst (λ l. IsParameter (word words.Global at ∷ word words.Const fixed ∷ l) (Buffer true kind there x) rest) (sym eq) (constant_buffer w kind x at fixed type star there found))

parameter-sound : (ts rest : List Lexeme) (p : Parameter) → run parameter_reader ts ≡ Took p rest → IsParameter ts p rest
unfolding parameter_reader
parameter-sound ts rest p k =
    let buffers : Reader Parameter = Looks (λ t. cond (is_const t.kind) (Passes (buffer_reader true)) (buffer_reader false)) in
    on-test (is_global (front ts).kind) (Passes buffers) value_reader ts rest p k
    (λ global k. subst (λ l. IsParameter l p rest) (sym (global_stands ts global))
    (on-test (is_const (front (behind ts)).kind) (Passes (buffer_reader true)) (buffer_reader false) (behind ts) rest p k
    (λ constant k. subst (λ l. IsParameter (word words.Global (front ts).site ∷ l) p rest) (sym (const_stands (behind ts) constant))
    (fixed-buffer (front ts).site (front (behind ts)).site (behind (behind ts)) rest p (buffer-sound true (behind (behind ts)) rest p k)))
    (λ other k. plain-buffer (front ts).site (behind ts) rest p (buffer-sound false (behind ts) rest p k))))
    (λ other k. value-sound ts rest p k)

-- the others behind one
more-sound : (left : ℕ) (ts us rest : List Lexeme) (p : Parameter) (ps : List Parameter) → IsParameter ts p us → run (more_parameters left) us ≡ Took ps rest → IsParameters ts (p ∷ ps) rest
unfolding more_parameters
more-sound zero ts us rest p ps h k = absurd (not-taken TooMany us rest ps k)
more-sound (suc left) ts us rest p ps h k =
    let ending : Reader (List Parameter) = Then (expects is_right_parenthesis) (λ closing. Gives []) in
    on-test (is_comma (front us).kind) (Passes (one_parameter (more_parameters left))) ending us rest ps k
    (λ due k. let w = taking (one_parameter (more_parameters left)) (behind us) rest ps k in
    let q = w.3 in
    settled (λ ps rest. IsParameters ts (p ∷ ps) rest) ps (w.0 ∷ q.0) q.1 rest q.3
    (another_parameter (front us).site (subst (IsParameter ts p) (comma us due) h) (more-sound left (behind us) w.1 q.1 w.0 q.0 (parameter-sound (behind us) w.1 w.0 w.2) q.2)))
    (λ other k. let w = taking ending us rest ps k in
    settled (λ ps rest. IsParameters ts (p ∷ ps) rest) ps [] w.1 rest w.3 (last_parameter (front us).site (subst (IsParameter ts p) (right_parenthesis_due us w.1 w.0 w.2) h)))

parameters-sound : (ts rest : List Lexeme) (ps : List Parameter) → run parameters_reader ts ≡ Took ps rest → IsParameters ts ps rest
unfolding parameters_reader
parameters-sound ts rest ps k =
    on-test (is_right_parenthesis (front ts).kind) (Passes (Gives [])) (one_parameter (more_parameters 80)) ts rest ps k
    (λ due k. let w = taking (Passes (Gives [])) ts rest ps k in
    settled (IsParameters ts) ps [] (behind ts) rest w (subst (λ l. IsParameters l [] (behind ts)) (sym (right_parenthesis ts due)) (no_parameter (front ts).site)))
    (λ other k. let w = taking (one_parameter (more_parameters 80)) ts rest ps k in
    let q = w.3 in
    settled (IsParameters ts) ps (w.0 ∷ q.0) q.1 rest q.3 (more-sound 80 ts w.1 q.1 w.0 q.0 (parameter-sound ts w.1 w.0 w.2) q.2))

-- a local size
data ASize (product : ℕ) (ts : List Lexeme) (n : ℕ) (rest : List Lexeme) : Type 0 where
  a_size : HasNumber ts n rest → IsLocalSize n → product * n ≤ 1024 → ASize product ts n rest

size-sound : (product : ℕ) (ts rest : List Lexeme) (n : ℕ) → run (size_reader product) ts ≡ Took n rest → ASize product ts n rest
size-sound product ts rest n k = by (number_at (front ts).kind) refl k
  where
    by : (o : Option ℕ) → number_at (front ts).kind ≡ o → run (size_by product o) ts ≡ Took n rest → ASize product ts n rest
    by None q k = absurd (not-taken Expected ts rest n k)
    by (Some m) q k = on-test (nat_le 1 m && nat_le m 1024 && nat_le (product * m) 1024) (Passes (Gives m)) (Fails TooMany) ts rest n k
        (λ h k. let w = taking (Passes (Gives m)) ts rest n k in
        let b = and_parts (nat_le 1 m && nat_le m 1024) (nat_le (product * m) 1024) h in
        let c = and_parts (nat_le 1 m) (nat_le m 1024) b.0 in
        settled (ASize product ts) n m (behind ts) rest w (a_size (number-back ts (front ts).kind m refl q) (leb-true 1 m c.0, leb-true m 1024 c.1) (leb-true (product * m) 1024 b.1)))
        (λ other k. absurd (not-taken TooMany ts rest n k))

data Sizes (ts : List Lexeme) (s : Three ℕ) (rest : List Lexeme) : Type 0 where
  sizes : (x y z : Literal) (at1 at2 at3 at4 at5 : Site) → ts ≡ number x at1 ∷ mark signs.Comma at2 ∷ number y at3 ∷ mark signs.Comma at4 ∷ number z at5 ∷ rest → record { x = x.value; y = y.value; z = z.value } ≡ s →
      IsLocalSize s.x × IsLocalSize s.y × IsLocalSize s.z × (s.x * s.y * s.z ≤ 1024) → Sizes ts s rest

three-sizes : (ts us vs ws zs rest : List Lexeme) (x y z : ℕ) → ASize 1 ts x us → us ≡ mark signs.Comma (front us).site ∷ vs → ASize x vs y ws → ws ≡ mark signs.Comma (front ws).site ∷ zs → ASize (x * y) zs z rest → Sizes ts (record { x = x; y = y; z = z }) rest
three-sizes ts us vs ws zs rest x y z (a_size (has_number l same-l at-l) fit-x all-x) first (a_size (has_number m same-m at-m) fit-y all-y) second (a_size (has_number n same-n at-n) fit-z all) =
    sizes l m n (front ts).site (front us).site (front vs).site (front ws).site (front zs).site
    (at-l ∙ ap (λ r. number l (front ts).site ∷ r) (first ∙ ap (λ r. mark signs.Comma (front us).site ∷ r) (at-m ∙ ap (λ r. number m (front vs).site ∷ r) (second ∙ ap (λ r. mark signs.Comma (front ws).site ∷ r) at-n))))
    (ap (λ a. record { x = a; y = m.value; z = n.value }) same-l ∙ ap (λ a. record { x = x; y = a; z = n.value }) same-m ∙ ap (λ a. record { x = x; y = y; z = a }) same-n)
    (fit-x, fit-y, fit-z, all)

sizes-sound : (ts rest : List Lexeme) (s : Three ℕ) → run sizes_reader ts ≡ Took s rest → Sizes ts s rest
unfolding sizes_reader
sizes-sound ts rest s k =
    let w = taking sizes_reader ts rest s k in
    let a = w.3 in
    let y = a.3 in
    let b = y.3 in
    let z = b.3 in
    settled (λ s rest. Sizes ts s rest) s (record { x = w.0; y = y.0; z = z.0 }) z.1 rest z.3
    (three-sizes ts w.1 a.1 y.1 b.1 z.1 w.0 y.0 z.0 (size-sound 1 ts w.1 w.0 w.2) (comma_due w.1 a.1 a.0 a.2) (size-sound w.0 a.1 y.1 y.0 y.2) (comma_due y.1 b.1 b.0 b.2) (size-sound (w.0 * y.0) b.1 z.1 z.0 z.2))

next : {t : Lexeme} {ts us vs : List Lexeme} → ts ≡ t ∷ us → us ≡ vs → ts ≡ t ∷ vs
next {t = t} e f = e ∙ ap (λ l. t ∷ l) f

-- up to `void`
data Attribute (ts : List Lexeme) (s : Three ℕ) (rest : List Lexeme) : Type 0 where
  attribute : (x y z : Literal) (at1 at2 at3 at4 at5 at6 at7 at8 at9 at10 at11 at12 at13 at14 : Site) →
      ts ≡ word words.Kernel at1 ∷ word words.Attribute at2 ∷ mark signs.LeftParenthesis at3 ∷ mark signs.LeftParenthesis at4 ∷ name (codes "reqd_work_group_size") at5
      ∷ mark signs.LeftParenthesis at6 ∷ number x at7 ∷ mark signs.Comma at8 ∷ number y at9 ∷ mark signs.Comma at10 ∷ number z at11
      ∷ mark signs.RightParenthesis at12 ∷ mark signs.RightParenthesis at13 ∷ mark signs.RightParenthesis at14 ∷ rest → record { x = x.value; y = y.value; z = z.value } ≡ s →
      IsLocalSize s.x × IsLocalSize s.y × IsLocalSize s.z × (s.x * s.y * s.z ≤ 1024) → Attribute ts s rest

attribute-sound : (ts rest : List Lexeme) (s : Three ℕ) → run attribute_reader ts ≡ Took s rest → Attribute ts s rest
unfolding attribute_reader
attribute-sound ts rest s k = by (taking attribute_reader ts rest s k)
  where
    by : Went attribute_reader ts s rest → Attribute ts s rest
    by a =
        let b = a.3 in
        let c = b.3 in
        let d = c.3 in
        let e = d.3 in
        let f = e.3 in
        let z = f.3 in
        let g = z.3 in
        let h = g.3 in
        let i = h.3 in
        settled (λ s rest. Attribute ts s rest) s z.0 i.1 rest i.3 (sized z.0 z.1 i.1 (sizes-sound f.1 z.1 z.0 z.2)
        (next (kernel_due ts a.1 a.0 a.2) (next (attribute_due a.1 b.1 b.0 b.2) (next (left_parenthesis_due b.1 c.1 c.0 c.2) (next (left_parenthesis_due c.1 d.1 d.0 d.2) (next (required_due d.1 e.1 e.0 e.2) (left_parenthesis_due e.1 f.1 f.0 f.2))))))
        (next (right_parenthesis_due z.1 g.1 g.0 g.2) (next (right_parenthesis_due g.1 h.1 h.0 h.2) (right_parenthesis_due h.1 i.1 i.0 i.2))))
      where
        sized : {at1 at2 at3 at4 at5 at6 at7 at8 at9 : Site} {us : List Lexeme} (s : Three ℕ) (vs ws : List Lexeme) → Sizes us s vs →
            ts ≡ word words.Kernel at1 ∷ word words.Attribute at2 ∷ mark signs.LeftParenthesis at3 ∷ mark signs.LeftParenthesis at4 ∷ name (codes "reqd_work_group_size") at5 ∷ mark signs.LeftParenthesis at6 ∷ us →
            vs ≡ mark signs.RightParenthesis at7 ∷ mark signs.RightParenthesis at8 ∷ mark signs.RightParenthesis at9 ∷ ws → Attribute ts s ws
        sized {at1 = at1} {at2 = at2} {at3 = at3} {at4 = at4} {at5 = at5} {at6 = at6} {at7 = at7} {at8 = at8} {at9 = at9} s vs ws (sizes x y z b1 b2 b3 b4 b5 here same fit) before behind_it =
            attribute x y z at1 at2 at3 at4 at5 at6 b1 b2 b3 b4 b5 at7 at8 at9
            (before ∙ ap (λ l. word words.Kernel at1 ∷ word words.Attribute at2 ∷ mark signs.LeftParenthesis at3 ∷ mark signs.LeftParenthesis at4 ∷ name (codes "reqd_work_group_size") at5 ∷ mark signs.LeftParenthesis at6 ∷ l)
            (here ∙ ap (λ l. number x b1 ∷ mark signs.Comma b2 ∷ number y b3 ∷ mark signs.Comma b4 ∷ number z b5 ∷ l) behind_it)) same fit

-- the end, and nothing behind it
end-kind : (kind : TokenKind) → is_end kind ≡ true → kind ≡ token.End
end-kind token.End h = refl
end-kind kind h = absurd (false≢true h)

end-alone : (ts : List Lexeme) → EndsOnce ts → is_end (front ts).kind ≡ true → ts ≡ record { kind = token.End; site = (front ts).site } ∷ []
end-alone ts (ends at) h = refl
end-alone ts (goes_on {t = t} other k) h = absurd (other (end-kind t.kind h))

-- a kernel that is read, with the limits that were tested
pub record KernelRead (ts : List Lexeme) (k : Kernel) : Type 0 where
  pub in_grammar : IsKernel 64 ts k
  pub local_sizes : IsLocalSize k.sizes.x × IsLocalSize k.sizes.y × IsLocalSize k.sizes.z × (k.sizes.x * k.sizes.y * k.sizes.z ≤ 1024)
  pub statements : statements_of k.body ≤ 512
  pub arrays : AllArraysFit k.body

whole : (ts us vs ws rest : List Lexeme) (s : Three ℕ) (f : List ℕ) (ps : List Parameter) (body : Statements × ℕ) (at1 at2 at3 at4 : Site) → EndsOnce ts → Attribute ts s us → us ≡ word words.Void at1 ∷ name f at2 ∷ mark signs.LeftParenthesis at3 ∷ vs → IsParameters vs ps (mark signs.LeftBrace at4 ∷ ws) →
    ItemsRead 63 1 ws body rest → is_end (front rest).kind ≡ true → KernelRead ts (record { name = f; name_site = at2; sizes = s; parameters = ps; body = body.0 })
whole ts us vs ws rest s f ps body a1 a2 a3 a4 ended_once (attribute x y z at1 at2 at3 at4 at5 at6 at7 at8 at9 at10 at11 at12 at13 at14 here same fit) header parameters items final =
    let before : List Lexeme → List Lexeme = λ l. word words.Kernel at1 ∷ word words.Attribute at2 ∷ mark signs.LeftParenthesis at3 ∷ mark signs.LeftParenthesis at4 ∷ name (codes "reqd_work_group_size") at5
    ∷ mark signs.LeftParenthesis at6 ∷ number x at7 ∷ mark signs.Comma at8 ∷ number y at9 ∷ mark signs.Comma at10 ∷ number z at11 ∷ mark signs.RightParenthesis at12 ∷ mark signs.RightParenthesis at13 ∷ mark signs.RightParenthesis at14 ∷ l in
    let all : ts ≡ before (word words.Void a1 ∷ name f a2 ∷ mark signs.LeftParenthesis a3 ∷ vs) = here ∙ ap before header in
    let left : EndsOnce rest = later-ends (over refl (items-later items.0)) (later-ends (parameters-later parameters) (later-ends (headed at1 at2 at3 at4 at5 at6 at7 at8 at9 at10 at11 at12 at13 at14 a1 a2 a3 x y z f vs) (subst EndsOnce all ended_once))) in
    record {
      in_grammar = subst (λ s. IsKernel 64 ts (record { name = f; name_site = a2; sizes = s; parameters = ps; body = body.0 })) same (subst (λ l. IsKernel 64 l (record { name = f; name_site = a2; sizes = record { x = x.value; y = y.value; z = z.value }; parameters = ps; body = body.0 })) (sym all)
          (kernel x y z f at1 at2 at3 at4 at5 at6 at7 at8 at9 at10 at11 at12 at13 at14 a1 a2 a3 a4 (front rest).site parameters (subst (IsItems 63 1 ws body.0 body.1) (end-alone rest left final) items.0)));
      local_sizes = fit;
      statements = omega (arith, items-counts 1 items.0, items.1);
      arrays = items.2;
    }
  where
    headed : (at1 at2 at3 at4 at5 at6 at7 at8 at9 at10 at11 at12 at13 at14 a1 a2 a3 : Site) (x y z : Literal) (f : List ℕ) (vs : List Lexeme) →
        Later (word words.Kernel at1 ∷ word words.Attribute at2 ∷ mark signs.LeftParenthesis at3 ∷ mark signs.LeftParenthesis at4 ∷ name (codes "reqd_work_group_size") at5
        ∷ mark signs.LeftParenthesis at6 ∷ number x at7 ∷ mark signs.Comma at8 ∷ number y at9 ∷ mark signs.Comma at10 ∷ number z at11 ∷ mark signs.RightParenthesis at12 ∷ mark signs.RightParenthesis at13 ∷ mark signs.RightParenthesis at14
        ∷ word words.Void a1 ∷ name f a2 ∷ mark signs.LeftParenthesis a3 ∷ vs) vs
    headed at1 at2 at3 at4 at5 at6 at7 at8 at9 at10 at11 at12 at13 at14 a1 a2 a3 x y z f vs =
        over refl (over refl (over refl (over refl (over refl (over refl (over refl (over refl (over refl (over refl (over refl (over refl (over refl (over refl (over refl (over refl (over refl stays))))))))))))))))

-- the end is looked at, and left
data Finished (ts : List Lexeme) (body ss : Statements) (rest : List Lexeme) : Type 0 where
  finished : is_end (front ts).kind ≡ true → body ≡ ss → Finished ts body ss rest

finish-sound : (ts rest : List Lexeme) (body ss : Statements) → run (ended body) ts ≡ Took ss rest → Finished ts body ss rest
finish-sound ts rest body ss k =
    on-test (is_end (front ts).kind) (Gives body) (Fails Expected) ts rest ss k (λ h k. finished h (same-value body ss ts rest k)) (λ h k. absurd (not-taken Expected ts rest ss k))

pub kernel-sound : (ts rest : List Lexeme) (k : Kernel) → EndsOnce ts → run kernel_reader ts ≡ Took k rest → KernelRead ts k
unfolding kernel_reader
kernel-sound ts rest k once h = by (taking kernel_reader ts rest k h)
  where
    by : Went kernel_reader ts k rest → KernelRead ts k
    by w =
        let v = w.3 in
        let f = v.3 in
        let p = f.3 in
        let ps = p.3 in
        let b = ps.3 in
        let body = b.3 in
        let e = body.3 in
        ending (finish-sound body.1 e.1 body.0.0 e.0 e.2)
      where
        ending : Finished w.3.3.3.3.3.3.1 w.3.3.3.3.3.3.0.0 w.3.3.3.3.3.3.3.0 w.3.3.3.3.3.3.3.1 → KernelRead ts k
        ending (finished final same) =
            let v = w.3 in
            let f = v.3 in
            let p = f.3 in
            let ps = p.3 in
            let b = ps.3 in
            let body = b.3 in
            let e = body.3 in
            subst (KernelRead ts) e.3.0 (subst (λ x. KernelRead ts (record { name = f.0.0; name_site = f.0.1; sizes = w.0; parameters = ps.0; body = x })) same
            (whole ts w.1 p.1 b.1 body.1 w.0 f.0.0 ps.0 body.0 (front w.1).site f.0.1 (front f.1).site (front ps.1).site once (attribute-sound ts w.1 w.0 w.2)
            (next (void_due w.1 v.1 v.0 v.2) (next (a-name v.1 f.1 f.0 f.2) (left_parenthesis_due f.1 p.1 p.0 p.2)))
            (subst (IsParameters p.1 ps.0) (left_brace_due ps.1 b.1 b.0 b.2) (parameters-sound p.1 ps.1 ps.0 ps.2))
            (block-sound 32 63 1 (omega arith) b.1 body.1 body.0 body.2) final))
