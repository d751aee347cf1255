-- Lexemes have one statement, however long.
use Rattle.std.proofs.Common.{◌≡◌, ℕ, suc, ◌+◌, Bool, true, false, Some, None, List, [], ◌∷◌, refl, ap, sym, ◌∙◌, subst}
use Rattle.std.specs.Prelude.{codes}
use Rattle.std.proofs.lemmas.Bool.{false≢true}
use Rattle.texts.specs.Signs as signs
use Rattle.texts.specs.Reserved as words
use Rattle.texts.specs.Tokens as token
use Rattle.texts.specs.Tokens.{TokenKind}
use Rattle.texts.specs.Lexemes.{Lexeme, mark, word, kind_of, assign_of, jump_of}
use Rattle.texts.specs.Surface.{Declaration, Assignment, First, FirstDeclares, FirstAssigns, Statement, Declare, DeclareArray, Assign, If, While, For, Barrier, Jump, Block, Statements, none, one}
use Rattle.texts.specs.Grammar.{IsExpression}
use Rattle.texts.specs.KernelGrammar as rules
use Rattle.texts.specs.KernelGrammar.{IsAssignment, IsDeclaration, IsFirst, IsStatement, IsBody, IsItems, IsItem, no_else}
use Rattle.parser.specs.Reader.{front, behind}
use Rattle.parser.specs.Expressions.{kind_at}
use Rattle.parser.specs.Statements.{assign_at}
use Rattle.parser.proofs.Options.{same-some, some-none}
use Rattle.parser.proofs.Beginnings.{Closes}
use Rattle.parser.proofs.CompleteExpressions.{semicolon_closes, parenthesis_closes, bracket_closes}
use Rattle.parser.proofs.CompleteParts.{typed-front}
use Rattle.parser.proofs.SoundStatements.{name-of}
use Rattle.parser.proofs.StatementReads.{statement-begins, item-begins, no-brace}
use Rattle.parser.proofs.UniqueExpressions.{expression-unique}

pub assignment-unique : {room other n : ℕ} {ts rest left : List Lexeme} {a b : Assignment} → IsAssignment room n ts a rest → IsAssignment other n ts b left → Closes (front rest).kind → Closes (front left).kind → (a ≡ b) × (rest ≡ left)
assignment-unique {n = n} (rules.to_variable {e = e} x s sign at equal found h) (rules.to_variable x' s' sign' at' equal' found' h') c d =
    let q = expression-unique h h' c d in (
      ap (λ sign. record { number = n; site = at; name = x; index = None; sign = sign; sign_site = equal; value = e }) (same-some (assign_of s) sign sign' found found')
          ∙ ap (λ e. record { number = n; site = at; name = x; index = None; sign = sign'; sign_site = equal; value = e }) q.0,
      q.1,
    )
assignment-unique (rules.to_variable x s sign at equal found h) (rules.to_element x' s' sign' at' opening closing equal' found' i h') c d = absurd (some-none (assign_of signs.LeftBracket) sign refl found)
assignment-unique (rules.to_element x s sign at opening closing equal found i h) (rules.to_variable x' s' sign' at' equal' found' h') c d = absurd (some-none (assign_of signs.LeftBracket) sign' refl found')
assignment-unique {other = other} {n = n} {left = left} (rules.to_element {i = j} {e = e} x s sign at opening closing equal found i h) (rules.to_element {i = k} {e = f} x' s' sign' at' opening' closing' equal' found' i' h') c d =
    let p = expression-unique i i' bracket_closes bracket_closes in
    let signs_same : assign_of s ≡ assign_of s' = ap (λ l. assign_at (front (behind l)).kind) p.1 in
    let q = expression-unique h (subst (λ l. IsExpression other l f left) (sym (ap (λ l. behind (behind l)) p.1)) h') c d in (
      ap (λ j. record { number = n; site = at; name = x; index = Some j; sign = sign; sign_site = equal; value = e }) p.0
          ∙ ap (λ sign. record { number = n; site = at; name = x; index = Some k; sign = sign; sign_site = equal; value = e }) (same-some (assign_of s) sign sign' found (signs_same ∙ found'))
          ∙ ap (λ equal. record { number = n; site = at; name = x; index = Some k; sign = sign'; sign_site = equal; value = e }) (ap (λ l. (front (behind l)).site) p.1)
          ∙ ap (λ e. record { number = n; site = at; name = x; index = Some k; sign = sign'; sign_site = equal'; value = e }) q.0,
      q.1,
    )

pub declaration-unique : {room other n : ℕ} {ts rest left : List Lexeme} {c d : Declaration} → IsDeclaration room n ts c rest → IsDeclaration other n ts d left → Closes (front rest).kind → Closes (front left).kind → (c ≡ d) × (rest ≡ left)
declaration-unique {n = n} (rules.declared {e = e} w kind x at there equal found h) (rules.declared w' kind' x' at' there' equal' found' h') c d =
    let q = expression-unique h h' c d in (
      ap (λ kind. record { number = n; site = at; kind = kind; name_site = there; name = x; value = e }) (same-some (kind_of w) kind kind' found found')
          ∙ ap (λ e. record { number = n; site = at; kind = kind'; name_site = there; name = x; value = e }) q.0,
      q.1,
    )

-- an assignment begins with no type, nor a word or a sign
typed-no : {room other n : ℕ} {ts rest left : List Lexeme} {c : Declaration} {a : Assignment} → IsDeclaration room n ts c rest → IsAssignment other n ts a left → ⊥
typed-no {c = c} h k = some-none _ c.kind (ap kind_at (name-of k)) (typed-front h)

first-unique : {room other n : ℕ} {ts rest left : List Lexeme} {f g : First} → IsFirst room n ts f rest → IsFirst other n ts g left → Closes (front rest).kind → Closes (front left).kind → (f ≡ g) × (rest ≡ left)
first-unique (rules.first_declares h) (rules.first_declares k) c d = let q = declaration-unique h k c d in (ap FirstDeclares q.0, q.1)
first-unique (rules.first_declares h) (rules.first_assigns k) c d = absurd (typed-no h k)
first-unique (rules.first_assigns h) (rules.first_declares k) c d = absurd (typed-no k h)
first-unique (rules.first_assigns h) (rules.first_assigns k) c d = let q = assignment-unique h k c d in (ap FirstAssigns q.0, q.1)

is-name : TokenKind → Bool
is-name (token.Name x) = true
is-name kind = false

bytes-of : TokenKind → List ℕ
bytes-of (token.Name x) = x
bytes-of kind = []

no-name : {room n : ℕ} {ts rest : List Lexeme} {a : Assignment} → IsAssignment room n ts a rest → (kind : TokenKind) → (front ts).kind ≡ kind → is-name kind ≡ false → ⊥
unfolding is-name
no-name h kind q n = false≢true (sym n ∙ sym (ap is-name q) ∙ ap is-name (name-of h))

its-name : {room n : ℕ} {ts rest : List Lexeme} {a : Assignment} → IsAssignment room n ts a rest → (x : List ℕ) → (front ts).kind ≡ token.Name x → a.name ≡ x
unfolding bytes-of
its-name h x q = ap bytes-of (sym (name-of h) ∙ q)

else-here : (rest : List Lexeme) (other : _) (us : List Lexeme) → no_else rest ≡ true → rest ≡ word words.Else other ∷ us → ⊥
else-here rest other us free e = false≢true (sym (ap no_else e) ∙ free)

abbrev pub One : (s t : Statement) (next over : ℕ) (rest left : List Lexeme) → Type 0
One s t next over rest left = (s ≡ t) × (next ≡ over) × (rest ≡ left)

abbrev pub All : (ss us : Statements) (next over : ℕ) (rest left : List Lexeme) → Type 0
All ss us next over rest left = (ss ≡ us) × (next ≡ over) × (rest ≡ left)

mutual
  unfolding is-name

  pub statement-unique : {room other n next over : ℕ} {ts rest left : List Lexeme} {s t : Statement} → IsStatement room n ts s next rest → IsStatement other n ts t over left → One s t next over rest left
  statement-unique (rules.assigns semicolon differs h) (rules.assigns semicolon' differs' h') = let q = assignment-unique h h' semicolon_closes semicolon_closes in (ap Assign q.0, refl, ap behind q.1)
  statement-unique (rules.assigns semicolon differs h) (rules.if_alone at opening closing e a free) = absurd (no-name h (token.Word words.If) refl refl)
  statement-unique (rules.assigns semicolon differs h) (rules.if_else at opening closing other e a b) = absurd (no-name h (token.Word words.If) refl refl)
  statement-unique (rules.assigns semicolon differs h) (rules.while at opening closing e a) = absurd (no-name h (token.Word words.While) refl refl)
  statement-unique (rules.assigns semicolon differs h) (rules.for at opening semicolon' then closing f e u a) = absurd (no-name h (token.Word words.For) refl refl)
  statement-unique (rules.assigns semicolon differs h) (rules.barrier at opening closing semicolon' e) = absurd (differs (its-name h (codes "barrier") refl))
  statement-unique (rules.assigns semicolon differs h) (rules.jump w jump at semicolon' found) = absurd (no-name h (token.Word w) refl refl)
  statement-unique (rules.assigns semicolon differs h) (rules.block at a) = absurd (no-name h (token.Mark signs.LeftBrace) refl refl)
  statement-unique (rules.if_alone at opening closing e a free) (rules.assigns semicolon differs h) = absurd (no-name h (token.Word words.If) refl refl)
  statement-unique {n = n} (rules.if_alone {e = e} {a = a} at opening closing h b free) (rules.if_alone {room = other} {next = over} {rest = left} {e = f} {a = c} at' opening' closing' h' b' free') =
      let q = expression-unique h h' parenthesis_closes parenthesis_closes in
      let r = body-unique b (subst (λ l. IsBody (suc other) (n + 1) l c over left) (sym (ap behind q.1)) b') in
      (ap (λ e. If n at e a none) q.0 ∙ ap (λ a. If n at f a none) r.0, r.1, r.2)
  statement-unique {n = n} (rules.if_alone {rest = rest} {e = e} {a = a} at opening closing h b free) (rules.if_else {room = other} {middle = middle} {ts2 = us} {e = f} {a = c} at' opening' closing' alter h' b' b2) =
      let q = expression-unique h h' parenthesis_closes parenthesis_closes in
      let r = body-unique b (subst (λ l. IsBody (suc other) (n + 1) l c middle (word words.Else alter ∷ us)) (sym (ap behind q.1)) b') in
      absurd (else-here rest alter us free r.2)
  statement-unique (rules.if_else at opening closing other e a b) (rules.assigns semicolon differs h) = absurd (no-name h (token.Word words.If) refl refl)
  statement-unique {n = n} (rules.if_else {ts2 = us} at opening closing alter h b b2) (rules.if_alone {room = other} {next = over} {rest = left} {a = c} at' opening' closing' h' b' free') =
      let q = expression-unique h h' parenthesis_closes parenthesis_closes in
      let r = body-unique b (subst (λ l. IsBody (suc other) (n + 1) l c over left) (sym (ap behind q.1)) b') in
      absurd (else-here left alter us free' (sym r.2))
  statement-unique {n = n} (rules.if_else {middle = m} {ts2 = vs} {e = e} {a = a} {b = y} at opening closing alter h b b2) (rules.if_else {room = other} {middle = middle} {next = over} {ts2 = us} {rest = left} {e = f} {a = c} {b = z} at' opening' closing' alter' h' b' b2') =
      let q = expression-unique h h' parenthesis_closes parenthesis_closes in
      let r = body-unique b (subst (λ l. IsBody (suc other) (n + 1) l c middle (word words.Else alter' ∷ us)) (sym (ap behind q.1)) b') in
      let t = body-unique b2 (subst (λ m. IsBody (suc other) m vs z over left) (sym r.1) (subst (λ l. IsBody (suc other) middle l z over left) (sym (ap behind r.2)) b2')) in
      (ap (λ e. If n at e a y) q.0 ∙ ap (λ a. If n at f a y) r.0 ∙ ap (If n at f c) t.0, t.1, t.2)
  statement-unique (rules.while at opening closing e a) (rules.assigns semicolon differs h) = absurd (no-name h (token.Word words.While) refl refl)
  statement-unique {n = n} (rules.while {e = e} {body = a} at opening closing h b) (rules.while {room = other} {next = over} {rest = left} {e = f} {body = c} at' opening' closing' h' b') =
      let q = expression-unique h h' parenthesis_closes parenthesis_closes in
      let r = body-unique b (subst (λ l. IsBody (suc other) (n + 1) l c over left) (sym (ap behind q.1)) b') in
      (ap (λ e. While n at e a) q.0 ∙ ap (While n at f) r.0, r.1, r.2)
  statement-unique (rules.for at opening semicolon' then closing f e u a) (rules.assigns semicolon differs h) = absurd (no-name h (token.Word words.For) refl refl)
  statement-unique {n = n} (rules.for {first = p} {e = e} {update = u} {body = a} at opening semicolon then closing f h k b) (rules.for {room = other} {next = over} {ts2 = us2} {ts3 = us3} {rest = left} {first = p'} {e = e'} {update = u'} {body = a'} at' opening' semicolon' then' closing' f' h' k' b') =
      let q = first-unique f f' semicolon_closes semicolon_closes in
      let r = expression-unique h (subst (λ l. IsExpression other l e' (mark signs.Semicolon then' ∷ us2)) (sym (ap behind q.1)) h') semicolon_closes semicolon_closes in
      let t = assignment-unique k (subst (λ l. IsAssignment other (n + 2) l u' (mark signs.RightParenthesis closing' ∷ us3)) (sym (ap behind r.1)) k') parenthesis_closes parenthesis_closes in
      let v = body-unique b (subst (λ l. IsBody (suc other) (n + 3) l a' over left) (sym (ap behind t.1)) b') in
      (ap (λ p. For n at p e u a) q.0 ∙ ap (λ e. For n at p' e u a) r.0 ∙ ap (λ u. For n at p' e' u a) t.0 ∙ ap (For n at p' e' u') v.0, v.1, v.2)
  statement-unique (rules.barrier at opening closing semicolon' e) (rules.assigns semicolon differs h) = absurd (differs (its-name h (codes "barrier") refl))
  statement-unique {n = n} (rules.barrier at opening closing semicolon h) (rules.barrier at' opening' closing' semicolon' h') =
      let q = expression-unique h h' parenthesis_closes parenthesis_closes in (ap (Barrier n at) q.0, refl, ap (λ l. behind (behind l)) q.1)
  statement-unique (rules.jump w jump at semicolon' found) (rules.assigns semicolon differs h) = absurd (no-name h (token.Word w) refl refl)
  statement-unique {n = n} (rules.jump w jump at semicolon found) (rules.jump w' jump' at' semicolon' found') = (ap (Jump n at) (same-some (jump_of w) jump jump' found found'), refl, refl)
  statement-unique (rules.block at a) (rules.assigns semicolon differs h) = absurd (no-name h (token.Mark signs.LeftBrace) refl refl)
  statement-unique {n = n} (rules.block at h) (rules.block at' h') = let q = items-unique h h' in (ap (Block n at) q.0, q.1, q.2)

  pub body-unique : {room other n next over : ℕ} {ts rest left : List Lexeme} {ss us : Statements} → IsBody room n ts ss next rest → IsBody other n ts us over left → All ss us next over rest left
  body-unique (rules.single free h) (rules.single free' h') = let q = statement-unique h h' in (ap (λ s. one s none) q.0, q.1, q.2)
  body-unique (rules.single free h) (rules.braces at h') = absurd (false≢true (sym (no-brace h free)))
  body-unique (rules.braces at h) (rules.single free h') = absurd (false≢true (sym (no-brace h' free)))
  body-unique (rules.braces at h) (rules.braces at' h') = items-unique h h'

  pub items-unique : {room other n next over : ℕ} {ts rest left : List Lexeme} {ss us : Statements} → IsItems room n ts ss next rest → IsItems other n ts us over left → All ss us next over rest left
  items-unique (rules.end closing) (rules.end closing') = (refl, refl, refl)
  items-unique (rules.end closing) (rules.item h k) = absurd (false≢true (sym (item-begins h)))
  items-unique (rules.item h k) (rules.end closing) = absurd (false≢true (sym (item-begins h)))
  items-unique {other = other} {over = over} {left = left} (rules.item {ts1 = vs} {s = s} {others = ss} h k) (rules.item {middle = middle} {s = t} {others = us} h' k') =
      let q = item-unique h h' in
      let r = items-unique k (subst (λ m. IsItems other m vs us over left) (sym q.1) (subst (λ l. IsItems other middle l us over left) (sym q.2) k')) in
      (ap (λ s. one s ss) q.0 ∙ ap (one t) r.0, r.1, r.2)

  item-unique : {room other n next over : ℕ} {ts rest left : List Lexeme} {s t : Statement} → IsItem room n ts s next rest → IsItem other n ts t over left → One s t next over rest left
  item-unique (rules.statement h) (rules.statement h') = statement-unique h h'
  item-unique (rules.statement h) (rules.declares {d = c} semicolon h') = absurd (some-none _ c.kind (statement-begins h).0 (typed-front h'))
  item-unique (rules.statement h) (rules.array w kind x length at type there opening count closing semicolon found) = absurd (false≢true (sym (statement-begins h).1))
  item-unique (rules.declares {d = c} semicolon h) (rules.statement h') = absurd (some-none _ c.kind (statement-begins h').0 (typed-front h))
  item-unique (rules.declares semicolon h) (rules.declares semicolon' h') = let q = declaration-unique h h' semicolon_closes semicolon_closes in (ap Declare q.0, refl, ap behind q.1)
  item-unique (rules.declares {d = c} semicolon h) (rules.array w kind x length at type there opening count closing semicolon' found) = absurd (some-none (kind_at (token.Word words.Local)) c.kind refl (typed-front h))
  item-unique (rules.array w kind x length at type there opening count closing semicolon found) (rules.statement h') = absurd (false≢true (sym (statement-begins h').1))
  item-unique (rules.array w kind x length at type there opening count closing semicolon found) (rules.declares {d = c} semicolon' h') = absurd (some-none (kind_at (token.Word words.Local)) c.kind refl (typed-front h'))
  item-unique {n = n} (rules.array w kind x length at type there opening count closing semicolon found) (rules.array w' kind' x' length' at' type' there' opening' count' closing' semicolon' found') =
      (ap (λ kind. DeclareArray n at kind there x length.value) (same-some (kind_of w) kind kind' found found'), refl, refl)
