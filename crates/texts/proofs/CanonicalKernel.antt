-- The grammar relates the tokens of a kernel to that kernel, positions aside.
use Rattle.std.proofs.Common.{◌≡◌, ◌≢◌, ℕ, zero, suc, ◌+◌, List, [], ◌∷◌, Bool, true, false, Option, None, Some, map, not, codes, refl, ap, sym, subst, ◌∙◌, arith}
use Rattle.semantics.specs.Word.{Kind, Int, Uint, Size, Add, Subtract, Multiply, Divide, Remainder, BitAnd, BitOr, BitXor}
use Rattle.semantics.specs.Core.{Site}
use Rattle.semantics.specs.Launch.{Three}
use Rattle.texts.specs.Signs as s
use Rattle.texts.specs.Signs.{LeftParenthesis, RightParenthesis, LeftBrace, RightBrace, LeftBracket, RightBracket, Semicolon, Comma}
use Rattle.texts.specs.Reserved as words
use Rattle.texts.specs.Tokens as token
use Rattle.texts.specs.Tokens.{TokenKind, Mark, Word}
use Rattle.texts.specs.Lexemes.{Lexeme, mark, word, name, number, is_named, assign_of, jump_of}
use Rattle.texts.specs.Grammar.{IsExpression}
use Rattle.texts.specs.KernelGrammar as grammar
use Rattle.texts.specs.KernelGrammar.{IsAssignment, to_variable, to_element, IsDeclaration, declared, IsFirst, first_declares, first_assigns, no_else, IsStatement, assigns, if_alone, if_else, while, for, barrier, block, IsBody, braces, IsItems, end, item, IsItem, statement, declares, array, IsParameter, buffer, constant_buffer, value, IsParameters, no_parameter, last_parameter, another_parameter, IsKernel}
use Rattle.texts.specs.KernelLimits.{statements_in, statements_of}
use Rattle.texts.specs.Spelling.{first_number, IsNumbered, AreNumbered}
use Rattle.texts.specs.CanonicalTokens.{kind_word, jump_word, assign_sign, expression_tokens, declaration_tokens, index_tokens, assignment_tokens, first_tokens, statement_tokens, statements_tokens, else_tokens, parameter_tokens, more_parameters, parameters_tokens, kernel_tokens, IsPrintable, IsPrintableDeclaration, IsPrintableIndex, IsPrintableAssignment, IsPrintableFirst, IsPrintableStatement, ArePrintableStatements, parameter_kind, ArePrintableParameters, IsPrintableKernel}
use Rattle.texts.specs.Surface.{AssignSign, Plain, With, WithLeftShift, WithRightShift, Expression, Declaration, Assignment, First, FirstDeclares, FirstAssigns, JumpWord, Return, Break, Continue, Statement, Declare, DeclareArray, Assign, If, While, For, Barrier, Jump, Block, Statements, none, one, Parameter, Buffer, Value, Kernel}
use Rattle.texts.specs.Bare.{nowhere, bare_expression, bare_declaration, bare_assignment, bare_first, bare_statement, bare_statements, bare_parameter, bare_kernel}
use Rattle.texts.specs.Brackets.{Opens, OpensIndex, OpensAssignment, OpensFirst, OpensStatement, AllOpenStatements}
use Rattle.texts.proofs.CanonicalGrammar.{Placed, over, placed, Says, say_expression, kind_back, named_casts, placed_of}

-- a part of a kernel, the same as `a` but for positions
pub record Found {A : Type 0} (R : List Lexeme → A → List Lexeme → Type 0) (bare : A → A) (a : A) (ks : List TokenKind) (ts : List Lexeme) : Type 0 where
  pub tree : A
  pub rest : List Lexeme
  pub relates : R ts tree rest
  pub left : Placed ks rest
  pub same : bare tree ≡ bare a

-- and the number after it
pub record Counted {A : Type 0} (R : List Lexeme → A → ℕ → List Lexeme → Type 0) (bare : A → A) (a : A) (next : ℕ) (ks : List TokenKind) (ts : List Lexeme) : Type 0 where
  pub tree : A
  pub rest : List Lexeme
  pub relates : R ts tree next rest
  pub left : Placed ks rest
  pub same : bare tree ≡ bare a

assign_back : (sign : AssignSign) → assign_of (assign_sign sign) ≡ Some sign
assign_back Plain = refl
assign_back (With Add) = refl
assign_back (With Subtract) = refl
assign_back (With Multiply) = refl
assign_back (With Divide) = refl
assign_back (With Remainder) = refl
assign_back (With BitAnd) = refl
assign_back (With BitOr) = refl
assign_back (With BitXor) = refl
assign_back WithLeftShift = refl
assign_back WithRightShift = refl

jump_back : (jump : JumpWord) → jump_of (jump_word jump) ≡ Some jump
jump_back Return = refl
jump_back Break = refl
jump_back Continue = refl

plain_declaration : ℕ → Kind → List ℕ → Expression → Declaration
plain_declaration n kind x e = record { number = n; site = nowhere; kind = kind; name_site = nowhere; name = x; value = e }

find_declaration : (d : Declaration) (n room : ℕ) (ks : List TokenKind) (ts : List Lexeme) → d.number ≡ n → IsPrintableDeclaration d → Opens room d.value → Placed (declaration_tokens d ks) ts → Found (IsDeclaration room n) bare_declaration d ks ts
unfolding plain_declaration
find_declaration d n room ks ts m pr h (placed k at (placed k1 there (placed k2 equal p))) =
    let r = say_expression d.value room ks _ (named_casts d.value pr.1) h p in
    record {
      tree = record { number = n; site = at; kind = d.kind; name_site = there; name = d.name; value = r.tree };
      rest = r.rest;
      relates = declared (kind_word d.kind) d.kind d.name at there equal (kind_back d.kind pr.2) r.relates;
      left = r.left;
      same = ap (λ n. plain_declaration n d.kind d.name (bare_expression r.tree)) (sym m) ∙ ap (plain_declaration d.number d.kind d.name) r.same;
    }

plain_assignment : ℕ → List ℕ → Option Expression → AssignSign → Expression → Assignment
plain_assignment n x i sign e = record { number = n; site = nowhere; name = x; index = i; sign = sign; sign_site = nowhere; value = e }

to_place : (x : List ℕ) (i : Option Expression) (sign : AssignSign) (v : Expression) (number site_line n room : ℕ) (at there : Site) (ks : List TokenKind) (ts : List Lexeme) → number ≡ n → IsPrintableIndex i → IsPrintable v → OpensIndex room i → Opens room v →
    Placed (token.Name x ∷ index_tokens i (Mark (assign_sign sign) ∷ expression_tokens v ks)) ts →
    Found (IsAssignment room n) bare_assignment (record { number = number; site = at; name = x; index = i; sign = sign; sign_site = there; value = v }) ks ts
unfolding plain_assignment
to_place x None sign v number line n room at0 there ks ts m pi pv hi hv (placed k at (placed k1 equal p)) =
    let r = say_expression v room ks _ (named_casts v pv) hv p in
    record {
      tree = record { number = n; site = at; name = x; index = None; sign = sign; sign_site = equal; value = r.tree };
      rest = r.rest;
      relates = to_variable x (assign_sign sign) sign at equal (assign_back sign) r.relates;
      left = r.left;
      same = ap (λ n. plain_assignment n x None sign (bare_expression r.tree)) (sym m) ∙ ap (plain_assignment number x None sign) r.same;
    }
to_place x (Some i) sign v number line n zero at0 there ks ts m pi pv hi hv p = absurd hi
to_place x (Some i) sign v number line n (suc room) at0 there ks ts m pi pv hi hv (placed k at (placed k1 opening p)) =
    let r = say_expression i room (Mark RightBracket ∷ Mark (assign_sign sign) ∷ expression_tokens v ks) _ (named_casts i pi) hi p in
    indexed r.tree r.rest r.relates r.same r.left
  where
    indexed : {us : List Lexeme} {opening : Site} (tree : Expression) (rest : List Lexeme) → IsExpression room us tree rest → bare_expression tree ≡ bare_expression i → Placed (Mark RightBracket ∷ Mark (assign_sign sign) ∷ expression_tokens v ks) rest →
        Found (IsAssignment (suc room) n) bare_assignment (record { number = number; site = at0; name = x; index = Some i; sign = sign; sign_site = there; value = v }) ks (name x at ∷ mark LeftBracket opening ∷ us)
    indexed {opening = opening} tree rest g alike (placed k closing (placed k1 equal q)) =
        let r = say_expression v (suc room) ks _ (named_casts v pv) hv q in
        record {
          tree = record { number = n; site = at; name = x; index = Some tree; sign = sign; sign_site = equal; value = r.tree };
          rest = r.rest;
          relates = to_element x (assign_sign sign) sign at opening closing equal (assign_back sign) g r.relates;
          left = r.left;
          same = ap (λ n. plain_assignment n x (Some (bare_expression tree)) sign (bare_expression r.tree)) (sym m) ∙ ap (λ t. plain_assignment number x (Some t) sign (bare_expression r.tree)) alike ∙ ap (plain_assignment number x (Some (bare_expression i)) sign) r.same;
        }

find_assignment : (a : Assignment) (n room : ℕ) (ks : List TokenKind) (ts : List Lexeme) → a.number ≡ n → IsPrintableAssignment a → OpensAssignment room a → Placed (assignment_tokens a ks) ts → Found (IsAssignment room n) bare_assignment a ks ts
find_assignment a n room ks ts m pr h p = to_place a.name a.index a.sign a.value a.number 0 n room a.site a.sign_site ks ts m pr.1 pr.2 h.0 h.1 p

find_first : (f : First) (n room : ℕ) (ks : List TokenKind) (ts : List Lexeme) → first_number f ≡ n → IsPrintableFirst f → OpensFirst room f → Placed (first_tokens f ks) ts → Found (IsFirst room n) bare_first f ks ts
find_first (FirstDeclares d) n room ks ts m pr h p =
    let r = find_declaration d n room ks ts m pr h p in
    record { tree = FirstDeclares r.tree; rest = r.rest; relates = first_declares r.relates; left = r.left; same = ap FirstDeclares r.same }
find_first (FirstAssigns a) n room ks ts m pr h p =
    let r = find_assignment a n room ks ts m pr h p in
    record { tree = FirstAssigns r.tree; rest = r.rest; relates = first_assigns r.relates; left = r.left; same = ap FirstAssigns r.same }

recount : {A : Type 0} {R : List Lexeme → A → ℕ → List Lexeme → Type 0} {bare : A → A} {a : A} {m n : ℕ} {ks : List TokenKind} {ts : List Lexeme} → m ≡ n → Counted R bare a m ks ts → Counted R bare a n ks ts
recount {R = R} {bare = bare} {a = a} {ks = ks} {ts = ts} e r = subst (λ k. Counted R bare a k ks ts) e r

-- no `else` stands in front
fronts : List TokenKind → Bool
fronts [] = true
fronts (k ∷ ks) = not (grammar.is_else k)

front_kept : (ks : List TokenKind) (ts : List Lexeme) → fronts ks ≡ true → Placed ks ts → no_else ts ≡ true
unfolding fronts
front_kept ks ts h over = refl
front_kept ks ts h (placed k at p) = h

kind_front : (kind : Kind) (ks : List TokenKind) → fronts (Word (kind_word kind) ∷ ks) ≡ true
unfolding fronts
kind_front Int ks = refl
kind_front Uint ks = refl
kind_front Size ks = refl

jump_front : (jump : JumpWord) (ks : List TokenKind) → fronts (Word (jump_word jump) ∷ ks) ≡ true
unfolding fronts
jump_front Return ks = refl
jump_front Break ks = refl
jump_front Continue ks = refl

brace_front : (ks : List TokenKind) → fronts (Mark RightBrace ∷ ks) ≡ true
unfolding fronts
brace_front ks = refl

statements_front : (ss : Statements) (ks : List TokenKind) → fronts ks ≡ true → fronts (statements_tokens ss ks) ≡ true
unfolding fronts
statements_front none ks h = h
statements_front (one (Declare d) ss) ks h = kind_front d.kind (token.Name d.name ∷ Mark s.Equal ∷ expression_tokens d.value (Mark Semicolon ∷ statements_tokens ss ks))
statements_front (one (DeclareArray n site kind name_site x length) ss) ks h = refl
statements_front (one (Assign a) ss) ks h = refl
statements_front (one (If n site test a b) ss) ks h = refl
statements_front (one (While n site test body) ss) ks h = refl
statements_front (one (For n site first test update body) ss) ks h = refl
statements_front (one (Barrier n site flags) ss) ks h = refl
statements_front (one (Jump n site jump) ss) ks h = jump_front jump (Mark Semicolon ∷ statements_tokens ss ks)
statements_front (one (Block n site body) ss) ks h = refl

found_declare : (d : Declaration) (n next room : ℕ) (ks : List TokenKind) (ts : List Lexeme) → next ≡ n + 1 → Found (IsDeclaration room n) bare_declaration d (Mark Semicolon ∷ ks) ts → Counted (IsItem room n) bare_statement (Declare d) next ks ts
found_declare d n next room ks ts e r = recount (sym e) (ended r.tree r.rest r.relates r.same r.left)
  where
    ended : (tree : Declaration) (rest : List Lexeme) → IsDeclaration room n ts tree rest → bare_declaration tree ≡ bare_declaration d → Placed (Mark Semicolon ∷ ks) rest → Counted (IsItem room n) bare_statement (Declare d) (n + 1) ks ts
    ended tree rest h same (placed k semicolon q) = record { tree = Declare tree; rest = _; relates = declares semicolon h; left = q; same = ap Declare same }

found_assign : (a : Assignment) (n next room : ℕ) (ks : List TokenKind) (ts : List Lexeme) → a.name ≢ codes "barrier" → next ≡ n + 1 → Found (IsAssignment room n) bare_assignment a (Mark Semicolon ∷ ks) ts → Counted (IsItem room n) bare_statement (Assign a) next ks ts
found_assign a n next room ks ts b e r = recount (sym e) (ended r.tree r.rest r.relates r.same r.left)
  where
    ended : (tree : Assignment) (rest : List Lexeme) → IsAssignment room n ts tree rest → bare_assignment tree ≡ bare_assignment a → Placed (Mark Semicolon ∷ ks) rest → Counted (IsItem room n) bare_statement (Assign a) (n + 1) ks ts
    ended tree rest h same (placed k semicolon q) =
        record { tree = Assign tree; rest = _; relates = statement (assigns semicolon (subst (λ x. x ≢ codes "barrier") (sym (ap (λ t. t.name) same)) b) h); left = q; same = ap Assign same }

found_while : (site : Site) (m n next room : ℕ) (e : Expression) (body : Statements) (ks behind : List TokenKind) {ts : List Lexeme} (at opening : Site) → m ≡ n →
    Says (IsExpression room) e (Mark RightParenthesis ∷ Mark LeftBrace ∷ behind) ts → ((us : List Lexeme) → Placed behind us → Counted (IsItems room (n + 1)) bare_statements body next ks us) →
    Counted (IsItem (suc room) n) bare_statement (While m site e body) next ks (word words.While at ∷ mark LeftParenthesis opening ∷ ts)
found_while site m n next room e body ks behind {ts} at opening q first then = ended first.tree first.rest first.relates first.same first.left
  where
    ended : (tree : Expression) (rest : List Lexeme) → IsExpression room ts tree rest → bare_expression tree ≡ bare_expression e → Placed (Mark RightParenthesis ∷ Mark LeftBrace ∷ behind) rest → Counted (IsItem (suc room) n) bare_statement (While m site e body) next ks (word words.While at ∷ mark LeftParenthesis opening ∷ ts)
    ended tree rest h same (placed k closing (placed k1 brace p)) =
        let r = then _ p in
        record {
          tree = While n at tree r.tree;
          rest = r.rest;
          relates = statement (while at opening closing h (braces brace r.relates));
          left = r.left;
          same = ap (λ k. While k nowhere (bare_expression tree) (bare_statements r.tree)) (sym q) ∙ ap (λ x. While m nowhere x (bare_statements r.tree)) same ∙ ap (While m nowhere (bare_expression e)) r.same;
        }

found_barrier : (site : Site) (m n next room : ℕ) (e : Expression) (ks : List TokenKind) {ts : List Lexeme} (at opening : Site) → m ≡ n → next ≡ n + 1 →
    Says (IsExpression room) e (Mark RightParenthesis ∷ Mark Semicolon ∷ ks) ts → Counted (IsItem (suc room) n) bare_statement (Barrier m site e) next ks (name (codes "barrier") at ∷ mark LeftParenthesis opening ∷ ts)
found_barrier site m n next room e ks {ts} at opening q c first = recount (sym c) (ended first.tree first.rest first.relates first.same first.left)
  where
    ended : (tree : Expression) (rest : List Lexeme) → IsExpression room ts tree rest → bare_expression tree ≡ bare_expression e → Placed (Mark RightParenthesis ∷ Mark Semicolon ∷ ks) rest → Counted (IsItem (suc room) n) bare_statement (Barrier m site e) (n + 1) ks (name (codes "barrier") at ∷ mark LeftParenthesis opening ∷ ts)
    ended tree rest h same (placed k closing (placed k1 semicolon p)) =
        record {
          tree = Barrier n at tree;
          rest = _;
          relates = statement (barrier at opening closing semicolon h);
          left = p;
          same = ap (λ k. Barrier k nowhere (bare_expression tree)) (sym q) ∙ ap (Barrier m nowhere) same;
        }

found_for : (site : Site) (m n next room : ℕ) (f : First) (e : Expression) (u : Assignment) (body : Statements) (ks k1 k2 k3 : List TokenKind) {ts : List Lexeme} (at opening : Site) → m ≡ n →
    Found (IsFirst room (n + 1)) bare_first f (Mark Semicolon ∷ k1) ts →
    ((us : List Lexeme) → Placed k1 us → Says (IsExpression room) e (Mark Semicolon ∷ k2) us) →
    ((us : List Lexeme) → Placed k2 us → Found (IsAssignment room (n + 2)) bare_assignment u (Mark RightParenthesis ∷ Mark LeftBrace ∷ k3) us) →
    ((us : List Lexeme) → Placed k3 us → Counted (IsItems room (n + 3)) bare_statements body next ks us) →
    Counted (IsItem (suc room) n) bare_statement (For m site f e u body) next ks (word words.For at ∷ mark LeftParenthesis opening ∷ ts)
found_for site m n next room f e u body ks k1 k2 k3 {ts} at opening q first second third fourth = begun first.tree first.rest first.relates first.same first.left
  where
    ended : (f1 : First) (e1 : Expression) (u1 : Assignment) (semicolon then : Site) (us1 us2 rest : List Lexeme) → IsFirst room (n + 1) ts f1 (mark Semicolon semicolon ∷ us1) → bare_first f1 ≡ bare_first f →
        IsExpression room us1 e1 (mark Semicolon then ∷ us2) → bare_expression e1 ≡ bare_expression e → IsAssignment room (n + 2) us2 u1 rest → bare_assignment u1 ≡ bare_assignment u →
        Placed (Mark RightParenthesis ∷ Mark LeftBrace ∷ k3) rest → Counted (IsItem (suc room) n) bare_statement (For m site f e u body) next ks (word words.For at ∷ mark LeftParenthesis opening ∷ ts)
    ended f1 e1 u1 semicolon then us1 us2 rest hf sf he se hu su (placed k closing (placed l brace p)) =
        let r = fourth _ p in
        record {
          tree = For n at f1 e1 u1 r.tree;
          rest = r.rest;
          relates = statement (for at opening semicolon then closing hf he hu (braces brace r.relates));
          left = r.left;
          same = ap (λ k. For k nowhere (bare_first f1) (bare_expression e1) (bare_assignment u1) (bare_statements r.tree)) (sym q)
              ∙ ap (λ x. For m nowhere x (bare_expression e1) (bare_assignment u1) (bare_statements r.tree)) sf
              ∙ ap (λ x. For m nowhere (bare_first f) x (bare_assignment u1) (bare_statements r.tree)) se
              ∙ ap (λ x. For m nowhere (bare_first f) (bare_expression e) x (bare_statements r.tree)) su
              ∙ ap (For m nowhere (bare_first f) (bare_expression e) (bare_assignment u)) r.same;
        }

    tested : (f1 : First) (e1 : Expression) (semicolon : Site) (us1 rest : List Lexeme) → IsFirst room (n + 1) ts f1 (mark Semicolon semicolon ∷ us1) → bare_first f1 ≡ bare_first f →
        IsExpression room us1 e1 rest → bare_expression e1 ≡ bare_expression e → Placed (Mark Semicolon ∷ k2) rest → Counted (IsItem (suc room) n) bare_statement (For m site f e u body) next ks (word words.For at ∷ mark LeftParenthesis opening ∷ ts)
    tested f1 e1 semicolon us1 rest hf sf he se (placed k then p) =
        let r = third _ p in
        ended f1 e1 r.tree semicolon then us1 _ r.rest hf sf he se r.relates r.same r.left

    begun : (f1 : First) (rest : List Lexeme) → IsFirst room (n + 1) ts f1 rest → bare_first f1 ≡ bare_first f → Placed (Mark Semicolon ∷ k1) rest → Counted (IsItem (suc room) n) bare_statement (For m site f e u body) next ks (word words.For at ∷ mark LeftParenthesis opening ∷ ts)
    begun f1 rest hf sf (placed k semicolon p) =
        let r = second _ p in
        tested f1 r.tree semicolon _ r.rest hf sf r.relates r.same r.left

found_if : (site : Site) (m n next room : ℕ) (e : Expression) (a : Statements) (ks behind : List TokenKind) {ts : List Lexeme} (at opening : Site) → m ≡ n → fronts ks ≡ true →
    Says (IsExpression room) e (Mark RightParenthesis ∷ Mark LeftBrace ∷ behind) ts → ((us : List Lexeme) → Placed behind us → Counted (IsItems room (n + 1)) bare_statements a next ks us) →
    Counted (IsItem (suc room) n) bare_statement (If m site e a none) next ks (word words.If at ∷ mark LeftParenthesis opening ∷ ts)
found_if site m n next room e a ks behind {ts} at opening q front first then = ended first.tree first.rest first.relates first.same first.left
  where
    ended : (tree : Expression) (rest : List Lexeme) → IsExpression room ts tree rest → bare_expression tree ≡ bare_expression e → Placed (Mark RightParenthesis ∷ Mark LeftBrace ∷ behind) rest → Counted (IsItem (suc room) n) bare_statement (If m site e a none) next ks (word words.If at ∷ mark LeftParenthesis opening ∷ ts)
    ended tree rest h same (placed k closing (placed k1 brace p)) =
        let r = then _ p in
        record {
          tree = If n at tree r.tree none;
          rest = r.rest;
          relates = statement (if_alone at opening closing h (braces brace r.relates) (front_kept ks r.rest front r.left));
          left = r.left;
          same = ap (λ k. If k nowhere (bare_expression tree) (bare_statements r.tree) none) (sym q) ∙ ap (λ x. If m nowhere x (bare_statements r.tree) none) same ∙ ap (λ x. If m nowhere (bare_expression e) x none) r.same;
        }

found_if_else : (site : Site) (m n middle next room : ℕ) (e : Expression) (a b : Statements) (ks behind after : List TokenKind) {ts : List Lexeme} (at opening : Site) → m ≡ n →
    Says (IsExpression room) e (Mark RightParenthesis ∷ Mark LeftBrace ∷ behind) ts → ((us : List Lexeme) → Placed behind us → Counted (IsItems room (n + 1)) bare_statements a middle (Word words.Else ∷ Mark LeftBrace ∷ after) us) →
    ((us : List Lexeme) → Placed after us → Counted (IsItems room middle) bare_statements b next ks us) →
    Counted (IsItem (suc room) n) bare_statement (If m site e a b) next ks (word words.If at ∷ mark LeftParenthesis opening ∷ ts)
found_if_else site m n middle next room e a b ks behind after {ts} at opening q first then otherwise = tested first.tree first.rest first.relates first.same first.left
  where
    ended : (tree : Expression) (taken : Statements) (closing brace : Site) (us rest : List Lexeme) → IsExpression room ts tree (mark RightParenthesis closing ∷ mark LeftBrace brace ∷ us) → bare_expression tree ≡ bare_expression e →
        IsItems room (n + 1) us taken middle rest → bare_statements taken ≡ bare_statements a → Placed (Word words.Else ∷ Mark LeftBrace ∷ after) rest → Counted (IsItem (suc room) n) bare_statement (If m site e a b) next ks (word words.If at ∷ mark LeftParenthesis opening ∷ ts)
    ended tree taken closing brace us rest h same g alike (placed k other (placed k1 second p)) =
        let r = otherwise _ p in
        record {
          tree = If n at tree taken r.tree;
          rest = r.rest;
          relates = statement (if_else at opening closing other h (braces brace g) (braces second r.relates));
          left = r.left;
          same = ap (λ k. If k nowhere (bare_expression tree) (bare_statements taken) (bare_statements r.tree)) (sym q) ∙ ap (λ x. If m nowhere x (bare_statements taken) (bare_statements r.tree)) same
              ∙ ap (λ x. If m nowhere (bare_expression e) x (bare_statements r.tree)) alike ∙ ap (If m nowhere (bare_expression e) (bare_statements a)) r.same;
        }

    tested : (tree : Expression) (rest : List Lexeme) → IsExpression room ts tree rest → bare_expression tree ≡ bare_expression e → Placed (Mark RightParenthesis ∷ Mark LeftBrace ∷ behind) rest → Counted (IsItem (suc room) n) bare_statement (If m site e a b) next ks (word words.If at ∷ mark LeftParenthesis opening ∷ ts)
    tested tree rest h same (placed k closing (placed k1 brace p)) =
        let r = then _ p in
        ended tree r.tree closing brace _ r.rest h same r.relates r.same r.left

mutual
  found : (t : Statement) (n room : ℕ) (ks : List TokenKind) (ts : List Lexeme) → IsNumbered n t → IsPrintableStatement t → OpensStatement room t → fronts ks ≡ true → Placed (statement_tokens t ks) ts → Counted (IsItem room n) bare_statement t (n + statements_in t) ks ts
  found (Declare d) n room ks ts m pr h f p = found_declare d n _ room ks ts refl (find_declaration d n room (Mark Semicolon ∷ ks) ts m pr h p)
  found (DeclareArray k site kind name_site x length) n zero ks ts m pr h f p = absurd h
  found (DeclareArray k site kind name_site x length) n (suc room) ks ts m pr h f (placed a0 at (placed a1 type (placed a2 there (placed a3 opening (placed a4 count (placed a5 closing (placed a6 semicolon p))))))) =
      record { tree = DeclareArray n at kind there x length; rest = _; relates = array (kind_word kind) kind x (record { kind = Int; value = length }) at type there opening count closing semicolon (kind_back kind pr.2); left = p; same = ap (λ k. DeclareArray k nowhere kind nowhere x length) (sym m) }
  found (Assign a) n room ks ts m pr h f p = found_assign a n _ room ks ts pr.1 refl (find_assignment a n room (Mark Semicolon ∷ ks) ts m pr.0 h p)
  found (If k site e a none) n zero ks ts m pr h f p = absurd h
  found (If k site e a none) n (suc room) ks ts m pr h f (placed a0 at (placed a1 opening p)) =
      recount (omega arith) (found_if site k n _ room e a ks (statements_tokens a (Mark RightBrace ∷ ks)) at opening m.0 f (say_expression e room _ _ (named_casts e pr.0) h.0 p) (λ us q. all_found a (n + 1) room ks us m.1 pr.1 h.1 q))
  found (If k site e a (one t ss)) n zero ks ts m pr h f p = absurd h
  found (If k site e a (one t ss)) n (suc room) ks ts m pr h f (placed a0 at (placed a1 opening p)) =
      recount (omega arith) (found_if_else site k n (n + 1 + statements_of a) _ room e a (one t ss) ks (statements_tokens a (Mark RightBrace ∷ else_tokens (one t ss) ks)) (statements_tokens (one t ss) (Mark RightBrace ∷ ks)) at opening m.0 (say_expression e room _ _ (named_casts e pr.0) h.0 p)
      (λ us q. all_found a (n + 1) room _ us m.1 pr.1 h.1 q) (λ us q. all_found (one t ss) (n + 1 + statements_of a) room ks us m.2 pr.2 h.2 q))
  found (While k site e body) n zero ks ts m pr h f p = absurd h
  found (While k site e body) n (suc room) ks ts m pr h f (placed a0 at (placed a1 opening p)) =
      recount (omega arith) (found_while site k n _ room e body ks (statements_tokens body (Mark RightBrace ∷ ks)) at opening m.0 (say_expression e room _ _ (named_casts e pr.0) h.0 p) (λ us q. all_found body (n + 1) room ks us m.1 pr.1 h.1 q))
  found (For k site first e u body) n zero ks ts m pr h f p = absurd h
  found (For k site first e u body) n (suc room) ks ts m pr h f (placed a0 at (placed a1 opening p)) =
      recount (omega arith) (found_for site k n _ room first e u body ks _ _ (statements_tokens body (Mark RightBrace ∷ ks)) at opening m.0 (find_first first (n + 1) room _ _ m.1 pr.0 h.0 p)
      (λ us q. say_expression e room _ us (named_casts e pr.1) h.1 q) (λ us q. find_assignment u (n + 2) room _ us m.2 pr.2 h.2 q) (λ us q. all_found body (n + 3) room ks us m.3 pr.3 h.3 q))
  found (Barrier k site e) n zero ks ts m pr h f p = absurd h
  found (Barrier k site e) n (suc room) ks ts m pr h f (placed a0 at (placed a1 opening p)) = found_barrier site k n _ room e ks at opening m refl (say_expression e room _ _ (named_casts e pr) h p)
  found (Jump k site jump) n room ks ts m pr h f (placed a0 at (placed a1 semicolon p)) =
      record { tree = Jump n at jump; rest = _; relates = statement (grammar.jump (jump_word jump) jump at semicolon (jump_back jump)); left = p; same = ap (λ k. Jump k nowhere jump) (sym m) }
  found (Block k site body) n zero ks ts m pr h f p = absurd h
  found (Block k site body) n (suc room) ks ts m pr h f (placed a0 at p) =
      let r = all_found body (n + 1) room ks _ m.1 pr h p in
      recount (omega arith) (record { tree = Block n at r.tree; rest = r.rest; relates = statement (block at r.relates); left = r.left; same = ap (λ k. Block k nowhere (bare_statements r.tree)) (sym m.0) ∙ ap (Block k nowhere) r.same })

  all_found : (ss : Statements) (n room : ℕ) (ks : List TokenKind) (ts : List Lexeme) → AreNumbered n ss → ArePrintableStatements ss → AllOpenStatements room ss → Placed (statements_tokens ss (Mark RightBrace ∷ ks)) ts → Counted (IsItems room n) bare_statements ss (n + statements_of ss) ks ts
  all_found none n room ks ts m pr h (placed k closing p) = recount (omega arith) (record { tree = none; rest = _; relates = end closing; left = p; same = refl })
  all_found (one t ss) n room ks ts m pr h p =
      let r = found t n room (statements_tokens ss (Mark RightBrace ∷ ks)) ts m.0 pr.0 h.0 (statements_front ss (Mark RightBrace ∷ ks) (brace_front ks)) p in
      let o = all_found ss (n + statements_in t) room ks r.rest m.1 pr.1 h.1 r.left in
      recount (omega arith) (record { tree = one r.tree o.tree; rest = o.rest; relates = item r.relates o.relates; left = o.left; same = ap (λ x. one x (bare_statements o.tree)) r.same ∙ ap (one (bare_statement t)) o.same })

-- parameters
find_parameter : (q : Parameter) (ks : List TokenKind) (ts : List Lexeme) → is_named (parameter_kind q) ≡ true → Placed (parameter_tokens q ks) ts → Found IsParameter bare_parameter q ks ts
find_parameter (Buffer true kind site x) ks ts h (placed k at (placed k1 fixed (placed k2 type (placed k3 star (placed k4 there p))))) =
    record { tree = Buffer true kind there x; rest = _; relates = constant_buffer (kind_word kind) kind x at fixed type star there (kind_back kind h); left = p; same = refl }
find_parameter (Buffer false kind site x) ks ts h (placed k at (placed k2 type (placed k3 star (placed k4 there p)))) =
    record { tree = Buffer false kind there x; rest = _; relates = buffer (kind_word kind) kind x at type star there (kind_back kind h); left = p; same = refl }
find_parameter (Value kind site x) ks ts h (placed k at (placed k1 there p)) =
    record { tree = Value kind there x; rest = _; relates = value (kind_word kind) kind x at there (kind_back kind h); left = p; same = refl }

find_last : (q : Parameter) (ks : List TokenKind) {ts : List Lexeme} (tree : Parameter) (rest : List Lexeme) → IsParameter ts tree rest → bare_parameter tree ≡ bare_parameter q → Placed (Mark RightParenthesis ∷ ks) rest → Found IsParameters (map bare_parameter) (q ∷ []) ks ts
find_last q ks tree rest h same (placed k closing p) = record { tree = tree ∷ []; rest = _; relates = last_parameter closing h; left = p; same = ap (λ x. x ∷ []) same }

find_another : (q r : Parameter) (qs : List Parameter) (ks behind : List TokenKind) {ts : List Lexeme} (tree : Parameter) (rest : List Lexeme) → IsParameter ts tree rest → bare_parameter tree ≡ bare_parameter q → Placed (Mark Comma ∷ behind) rest →
    ((us : List Lexeme) → Placed behind us → Found IsParameters (map bare_parameter) (r ∷ qs) ks us) → Found IsParameters (map bare_parameter) (q ∷ r ∷ qs) ks ts
find_another q r qs ks behind {ts} tree rest h same (placed {ts = us} k comma p) then = ended (then us p)
  where
    with_tail : (others : List Parameter) (last : List Lexeme) → IsParameters us others last → map bare_parameter others ≡ map bare_parameter (r ∷ qs) → Placed ks last → Found IsParameters (map bare_parameter) (q ∷ r ∷ qs) ks ts
    with_tail [] last g alike left = absurd cc
    with_tail (o ∷ os) last g alike left = record { tree = tree ∷ o ∷ os; rest = last; relates = another_parameter comma h g; left = left; same = ap (λ x. x ∷ map bare_parameter (o ∷ os)) same ∙ ap (λ xs. bare_parameter q ∷ xs) alike }

    ended : Found IsParameters (map bare_parameter) (r ∷ qs) ks us → Found IsParameters (map bare_parameter) (q ∷ r ∷ qs) ks ts
    ended o = with_tail o.tree o.rest o.relates o.same o.left

find_parameters : (qs : List Parameter) (ks : List TokenKind) (ts : List Lexeme) → ArePrintableParameters qs → Placed (parameters_tokens qs (Mark RightParenthesis ∷ ks)) ts → Found IsParameters (map bare_parameter) qs ks ts
find_parameters [] ks ts h (placed k closing p) = record { tree = []; rest = _; relates = no_parameter closing; left = p; same = refl }
find_parameters (q ∷ []) ks ts h p =
    let r = find_parameter q (Mark RightParenthesis ∷ ks) ts h.1 p in
    find_last q ks r.tree r.rest r.relates r.same r.left
find_parameters (q ∷ q2 ∷ qs) ks ts h p =
    let r = find_parameter q (more_parameters (q2 ∷ qs) (Mark RightParenthesis ∷ ks)) ts h.1 p in
    find_another q q2 qs ks (parameters_tokens (q2 ∷ qs) (Mark RightParenthesis ∷ ks)) r.tree r.rest r.relates r.same r.left (λ us p. find_parameters (q2 ∷ qs) ks us h.2 p)

pub record SaysKernel (room : ℕ) (k : Kernel) (ts : List Lexeme) : Type 0 where
  pub tree : Kernel
  pub relates : IsKernel room ts tree
  pub same : bare_kernel tree ≡ bare_kernel k

made : List ℕ → Site → Three ℕ → List Parameter → Statements → Kernel
made x at sizes ps body = record { name = x; name_site = at; sizes = sizes; parameters = ps; body = body }

ended_kernel : (k : Kernel) (room : ℕ) (a1 a2 a3 a4 a5 a6 a7 a8 a9 a10 a11 a12 a13 a14 a15 a16 a17 : Site) {ts : List Lexeme} (a18 : Site) (ps : List Parameter) {us : List Lexeme} (body : Statements) (next : ℕ) (rest : List Lexeme) →
    IsParameters ts ps (mark LeftBrace a18 ∷ us) → map bare_parameter ps ≡ map bare_parameter k.parameters → IsItems (suc (suc room)) 1 us body next rest → bare_statements body ≡ bare_statements k.body → Placed (token.End ∷ []) rest →
    SaysKernel (suc (suc (suc room))) k
    (word words.Kernel a1 ∷ word words.Attribute a2 ∷ mark LeftParenthesis a3 ∷ mark LeftParenthesis a4 ∷ name (codes "reqd_work_group_size") a5
    ∷ mark LeftParenthesis a6 ∷ number (record { kind = Int; value = k.sizes.x }) a7 ∷ mark Comma a8 ∷ number (record { kind = Int; value = k.sizes.y }) a9 ∷ mark Comma a10 ∷ number (record { kind = Int; value = k.sizes.z }) a11
    ∷ mark RightParenthesis a12 ∷ mark RightParenthesis a13 ∷ mark RightParenthesis a14 ∷ word words.Void a15 ∷ name k.name a16 ∷ mark LeftParenthesis a17 ∷ ts)
unfolding made
ended_kernel k room a1 a2 a3 a4 a5 a6 a7 a8 a9 a10 a11 a12 a13 a14 a15 a16 a17 a18 ps body next rest h alike g same (placed kind a19 over) =
    record {
      tree = made k.name a16 k.sizes ps body;
      relates = grammar.kernel (record { kind = Int; value = k.sizes.x }) (record { kind = Int; value = k.sizes.y }) (record { kind = Int; value = k.sizes.z }) k.name a1 a2 a3 a4 a5 a6 a7 a8 a9 a10 a11 a12 a13 a14 a15 a16 a17 a18 a19 h g;
      same = ap (λ x. made k.name nowhere k.sizes x (bare_statements body)) alike ∙ ap (made k.name nowhere k.sizes (map bare_parameter k.parameters)) same;
    }

opened_kernel : (k : Kernel) (room : ℕ) (a1 a2 a3 a4 a5 a6 a7 a8 a9 a10 a11 a12 a13 a14 a15 a16 a17 : Site) {ts : List Lexeme} (ps : List Parameter) (rest : List Lexeme) → AreNumbered 1 k.body → ArePrintableStatements k.body → AllOpenStatements (suc (suc room)) k.body →
    IsParameters ts ps rest → map bare_parameter ps ≡ map bare_parameter k.parameters → Placed (Mark LeftBrace ∷ statements_tokens k.body (Mark RightBrace ∷ token.End ∷ [])) rest →
    SaysKernel (suc (suc (suc room))) k
    (word words.Kernel a1 ∷ word words.Attribute a2 ∷ mark LeftParenthesis a3 ∷ mark LeftParenthesis a4 ∷ name (codes "reqd_work_group_size") a5
    ∷ mark LeftParenthesis a6 ∷ number (record { kind = Int; value = k.sizes.x }) a7 ∷ mark Comma a8 ∷ number (record { kind = Int; value = k.sizes.y }) a9 ∷ mark Comma a10 ∷ number (record { kind = Int; value = k.sizes.z }) a11
    ∷ mark RightParenthesis a12 ∷ mark RightParenthesis a13 ∷ mark RightParenthesis a14 ∷ word words.Void a15 ∷ name k.name a16 ∷ mark LeftParenthesis a17 ∷ ts)
opened_kernel k room a1 a2 a3 a4 a5 a6 a7 a8 a9 a10 a11 a12 a13 a14 a15 a16 a17 ps rest m pr o h alike (placed kind a18 p) =
    let r = all_found k.body 1 (suc (suc room)) (token.End ∷ []) _ m pr o p in
    ended_kernel k room a1 a2 a3 a4 a5 a6 a7 a8 a9 a10 a11 a12 a13 a14 a15 a16 a17 a18 ps r.tree (1 + statements_of k.body) r.rest h alike r.relates r.same r.left

say_kernel : (k : Kernel) (room : ℕ) (ts : List Lexeme) → AreNumbered 1 k.body → ArePrintableParameters k.parameters → ArePrintableStatements k.body → AllOpenStatements (suc (suc room)) k.body → Placed (kernel_tokens k) ts → SaysKernel (suc (suc (suc room))) k ts
say_kernel k room ts m ps pr o (placed k1 a1 (placed k2 a2 (placed k3 a3 (placed k4 a4 (placed k5 a5 (placed k6 a6 (placed k7 a7 (placed k8 a8 (placed k9 a9 (placed k10 a10 (placed k11 a11 (placed k12 a12 (placed k13 a13 (placed k14 a14 (placed k15 a15 (placed k16 a16 (placed k17 a17 p))))))))))))))))) =
    let r = find_parameters k.parameters (Mark LeftBrace ∷ statements_tokens k.body (Mark RightBrace ∷ token.End ∷ [])) _ ps p in
    opened_kernel k room a1 a2 a3 a4 a5 a6 a7 a8 a9 a10 a11 a12 a13 a14 a15 a16 a17 r.tree r.rest m pr o r.relates r.same r.left

pub kernel_related : (k : Kernel) (room : ℕ) (ts : List Lexeme) → IsPrintableKernel k → AreNumbered 1 k.body → AllOpenStatements (suc (suc room)) k.body → map (λ t. t.kind) ts ≡ kernel_tokens k →
    (tree : Kernel) × IsKernel (suc (suc (suc room))) ts tree × (bare_kernel tree ≡ bare_kernel k)
kernel_related k room ts h m o e =
    let r = say_kernel k room ts m h.parameters h.body o (subst (λ ks. Placed ks ts) e (placed_of ts)) in
    (r.tree, r.relates, r.same)
