-- The grammar relates the tokens of an expression to that expression, positions aside.
use Rattle.std.proofs.Common.{◌≡◌, ℕ, zero, suc, List, [], ◌∷◌, Bool, true, false, Some, map, refl, ap, subst, ◌∙◌}
use Rattle.semantics.specs.Word.{Kind, Int, Uint, Size, Add, Subtract, Multiply, Divide, Remainder, BitAnd, BitOr, BitXor, Less, AtMost, More, AtLeast, Equal, Unequal}
use Rattle.semantics.specs.Core.{Site}
use Rattle.texts.specs.Signs as s
use Rattle.texts.specs.Signs.{Sign, LeftParenthesis, RightParenthesis, LeftBracket, RightBracket, Comma, Question, Colon}
use Rattle.texts.specs.Tokens.{TokenKind, Mark}
use Rattle.texts.specs.Lexemes.{Lexeme, mark, name, kind_of, is_named, prefix_of}
use Rattle.texts.specs.Grammar.{IsExpression, plain, conditional, IsRank, operand, tighter, infixed, IsOperand, prefixed, cast, literal, variable, element, call, parentheses, IsArguments, empty, arguments, IsMore, last, more}
use Rattle.texts.specs.Canonical.{is_compound}
use Rattle.texts.specs.CanonicalTokens.{kind_word, infix_sign, prefix_sign, parenthesised_tokens, expression_tokens, arguments_tokens, more_tokens, IsPrintable, ArePrintable, HasNamedCasts, HaveNamedCasts}
use Rattle.texts.specs.Surface.{PrefixSign, Minus, LogicalNot, BitNot, InfixSign, Arithmetic, LeftShift, RightShift, Comparison, LogicalAnd, LogicalOr, Expression, Number, Name, Element, Call, Prefix, Cast, Infix, Conditional, Expressions, nothing, also}
use Rattle.texts.specs.Bare.{nowhere, bare_expression, bare_expressions}
use Rattle.texts.specs.Brackets.{AsOperand, Opens, AllOpen}

-- lexemes of these kinds, wherever they stand
pub data Placed : List TokenKind → List Lexeme → Type 0 where
  over : Placed [] []
  placed : {ks : List TokenKind} {ts : List Lexeme} (kind : TokenKind) (site : Site) → Placed ks ts → Placed (kind ∷ ks) (record { kind = kind; site = site } ∷ ts)

-- at the front of the lexemes stands a tree, the same as `e` but for positions, and behind it what is of the kinds `ks`
pub record Says (R : List Lexeme → Expression → List Lexeme → Type 0) (e : Expression) (ks : List TokenKind) (ts : List Lexeme) : Type 0 where
  pub tree : Expression
  pub rest : List Lexeme
  pub relates : R ts tree rest
  pub left : Placed ks rest
  pub same : bare_expression tree ≡ bare_expression e

pub record SaysAll (R : List Lexeme → Expressions → List Lexeme → Type 0) (es : Expressions) (ks : List TokenKind) (ts : List Lexeme) : Type 0 where
  pub tree : Expressions
  pub rest : List Lexeme
  pub relates : R ts tree rest
  pub left : Placed ks rest
  pub same : bare_expressions tree ≡ bare_expressions es

-- ranks
pub lifted : (n : ℕ) {room : ℕ} {ts rest : List Lexeme} {e : Expression} → IsOperand room ts e rest → IsRank room n ts e rest
lifted zero h = operand h
lifted (suc n) h = tighter (lifted n h)

joined : (sign : InfixSign) {room : ℕ} {ts ts1 rest : List Lexeme} {l r : Expression} (at : Site) → IsOperand room ts l (mark (infix_sign sign) at ∷ ts1) → IsOperand room ts1 r rest → IsRank room 10 ts (Infix at sign l r) rest
joined (Arithmetic Multiply) at l r = tighter (tighter (tighter (tighter (tighter (tighter (tighter (tighter (tighter (infixed s.Star _ at refl (lifted 1 l) (lifted 0 r))))))))))
joined (Arithmetic Divide) at l r = tighter (tighter (tighter (tighter (tighter (tighter (tighter (tighter (tighter (infixed s.Slash _ at refl (lifted 1 l) (lifted 0 r))))))))))
joined (Arithmetic Remainder) at l r = tighter (tighter (tighter (tighter (tighter (tighter (tighter (tighter (tighter (infixed s.Percent _ at refl (lifted 1 l) (lifted 0 r))))))))))
joined (Arithmetic Add) at l r = tighter (tighter (tighter (tighter (tighter (tighter (tighter (tighter (infixed s.Plus _ at refl (lifted 2 l) (lifted 1 r)))))))))
joined (Arithmetic Subtract) at l r = tighter (tighter (tighter (tighter (tighter (tighter (tighter (tighter (infixed s.Minus _ at refl (lifted 2 l) (lifted 1 r)))))))))
joined LeftShift at l r = tighter (tighter (tighter (tighter (tighter (tighter (tighter (infixed s.LeftShift _ at refl (lifted 3 l) (lifted 2 r))))))))
joined RightShift at l r = tighter (tighter (tighter (tighter (tighter (tighter (tighter (infixed s.RightShift _ at refl (lifted 3 l) (lifted 2 r))))))))
joined (Comparison Less) at l r = tighter (tighter (tighter (tighter (tighter (tighter (infixed s.Less _ at refl (lifted 4 l) (lifted 3 r)))))))
joined (Comparison More) at l r = tighter (tighter (tighter (tighter (tighter (tighter (infixed s.Greater _ at refl (lifted 4 l) (lifted 3 r)))))))
joined (Comparison AtMost) at l r = tighter (tighter (tighter (tighter (tighter (tighter (infixed s.LessEqual _ at refl (lifted 4 l) (lifted 3 r)))))))
joined (Comparison AtLeast) at l r = tighter (tighter (tighter (tighter (tighter (tighter (infixed s.GreaterEqual _ at refl (lifted 4 l) (lifted 3 r)))))))
joined (Comparison Equal) at l r = tighter (tighter (tighter (tighter (tighter (infixed s.EqualEqual _ at refl (lifted 5 l) (lifted 4 r))))))
joined (Comparison Unequal) at l r = tighter (tighter (tighter (tighter (tighter (infixed s.NotEqual _ at refl (lifted 5 l) (lifted 4 r))))))
joined (Arithmetic BitAnd) at l r = tighter (tighter (tighter (tighter (infixed s.And _ at refl (lifted 6 l) (lifted 5 r)))))
joined (Arithmetic BitXor) at l r = tighter (tighter (tighter (infixed s.Caret _ at refl (lifted 7 l) (lifted 6 r))))
joined (Arithmetic BitOr) at l r = tighter (tighter (infixed s.Or _ at refl (lifted 8 l) (lifted 7 r)))
joined LogicalAnd at l r = tighter (infixed s.AndAnd _ at refl (lifted 9 l) (lifted 8 r))
joined LogicalOr at l r = infixed s.OrOr _ at refl (lifted 10 l) (lifted 9 r)

prefix_back : (sign : PrefixSign) → prefix_of (prefix_sign sign) ≡ Some sign
prefix_back Minus = refl
prefix_back LogicalNot = refl
prefix_back BitNot = refl

pub kind_back : (kind : Kind) → is_named kind ≡ true → kind_of (kind_word kind) ≡ Some kind
kind_back Int h = refl
kind_back Uint h = refl
kind_back Size h = cc

-- what can be printed names the kinds of its casts
mutual
  pub named_casts : (e : Expression) → IsPrintable e → HasNamedCasts e
  named_casts (Number site kind n) h = tt
  named_casts (Name site x) h = tt
  named_casts (Element site x index) h = named_casts index h.1
  named_casts (Call site x es) h = all_named_casts es h.1
  named_casts (Prefix site sign e) h = named_casts e h
  named_casts (Cast site kind e) h = (named_casts e h.0, h.1)
  named_casts (Infix site sign l r) h = (named_casts l h.0, named_casts r h.1)
  named_casts (Conditional site test a b) h = (named_casts test h.0, named_casts a h.1, named_casts b h.2)

  all_named_casts : (es : Expressions) → ArePrintable es → HaveNamedCasts es
  all_named_casts nothing h = tt
  all_named_casts (also e es) h = (named_casts e h.0, all_named_casts es h.1)

-- an expression that is made of operands stands for one, another for an operand
abbrev Shape : Bool → (room : ℕ) → List Lexeme → Expression → List Lexeme → Type 0
Shape true room ts e rest = IsExpression room ts e rest
Shape false room ts e rest = IsOperand room ts e rest

loose : (c : Bool) {room : ℕ} {e : Expression} {ks : List TokenKind} {ts : List Lexeme} → Says (Shape c room) e ks ts → Says (IsExpression room) e ks ts
loose true r = r
loose false r = record { tree = r.tree; rest = r.rest; relates = plain (lifted 10 r.relates); left = r.left; same = r.same }

closed : (e : Expression) (ks : List TokenKind) {room : ℕ} {ts : List Lexeme} (tree : Expression) (rest : List Lexeme) (at : Site) → IsExpression room ts tree rest → bare_expression tree ≡ bare_expression e → Placed (Mark RightParenthesis ∷ ks) rest → Says (IsOperand (suc room)) e ks (mark LeftParenthesis at ∷ ts)
closed e ks tree rest at h same (placed kind closing q) = record { tree = tree; rest = _; relates = parentheses at closing h; left = q; same = same }

child : (c : Bool) (e : Expression) (k : List TokenKind → List TokenKind) (room : ℕ) (ks : List TokenKind) {ts : List Lexeme} →
    ((n : ℕ) (after : List TokenKind) (us : List Lexeme) → Opens n e → Placed (k after) us → Says (Shape c n) e after us) →
    AsOperand c room (λ n. Opens n e) → Placed (parenthesised_tokens c k ks) ts → Says (IsOperand room) e ks ts
child true e k zero ks all h p = absurd h
child true e k (suc room) ks all h (placed kind at p) =
    let r = all room (Mark RightParenthesis ∷ ks) _ h p in
    closed e ks r.tree r.rest at r.relates r.same r.left
child false e k room ks all h p = all room ks _ h p

element_said : (site : Site) (x : List ℕ) (index : Expression) (ks : List TokenKind) {room : ℕ} {ts : List Lexeme} (at opening : Site) (r : Says (IsExpression room) index (Mark RightBracket ∷ ks) ts) → Says (IsOperand (suc room)) (Element site x index) ks (name x at ∷ mark LeftBracket opening ∷ ts)
element_said site x index ks {room} {ts} at opening r = ended r.tree r.rest r.relates r.same r.left
  where
    ended : (tree : Expression) (rest : List Lexeme) → IsExpression room ts tree rest → bare_expression tree ≡ bare_expression index → Placed (Mark RightBracket ∷ ks) rest → Says (IsOperand (suc room)) (Element site x index) ks (name x at ∷ mark LeftBracket opening ∷ ts)
    ended tree rest h same (placed kind closing q) = record { tree = Element at x tree; rest = _; relates = element x at opening closing h; left = q; same = ap (Element nowhere x) same }

infix_said : (site : Site) (sign : InfixSign) (l r : Expression) (ks behind : List TokenKind) {room : ℕ} {ts : List Lexeme} → Says (IsOperand room) l (Mark (infix_sign sign) ∷ behind) ts →
    ((us : List Lexeme) → Placed behind us → Says (IsOperand room) r ks us) → Says (IsExpression room) (Infix site sign l r) ks ts
infix_said site sign l r ks behind {room} {ts} first second = ended first.tree first.rest first.relates first.same first.left
  where
    ended : (tree : Expression) (rest : List Lexeme) → IsOperand room ts tree rest → bare_expression tree ≡ bare_expression l → Placed (Mark (infix_sign sign) ∷ behind) rest → Says (IsExpression room) (Infix site sign l r) ks ts
    ended tree rest h same (placed kind at q) =
        let o = second _ q in
        record { tree = Infix at sign tree o.tree; rest = o.rest; relates = plain (joined sign at h o.relates); left = o.left; same = ap (λ a. Infix nowhere sign a (bare_expression o.tree)) same ∙ ap (Infix nowhere sign (bare_expression l)) o.same }

conditional_said : (site : Site) (t a b : Expression) (ks behind after : List TokenKind) {room : ℕ} {ts : List Lexeme} → Says (IsOperand room) t (Mark Question ∷ behind) ts →
    ((us : List Lexeme) → Placed behind us → Says (IsOperand room) a (Mark Colon ∷ after) us) → ((us : List Lexeme) → Placed after us → Says (IsOperand room) b ks us) → Says (IsExpression room) (Conditional site t a b) ks ts
conditional_said site t a b ks behind after {room} {ts} first second third = asked first.tree first.rest first.relates first.same first.left
  where
    chosen : (tree other : Expression) (at : Site) (us rest : List Lexeme) → IsRank room 10 ts tree (mark Question at ∷ us) → bare_expression tree ≡ bare_expression t → IsOperand room us other rest → bare_expression other ≡ bare_expression a → Placed (Mark Colon ∷ after) rest → Says (IsExpression room) (Conditional site t a b) ks ts
    chosen tree other at us rest h same g alike (placed kind colon q) =
        let o = third _ q in
        record {
          tree = Conditional at tree other o.tree;
          rest = o.rest;
          relates = conditional at colon h (plain (lifted 10 g)) (plain (lifted 10 o.relates));
          left = o.left;
          same = ap (λ x. Conditional nowhere x (bare_expression other) (bare_expression o.tree)) same ∙ ap (λ x. Conditional nowhere (bare_expression t) x (bare_expression o.tree)) alike ∙ ap (Conditional nowhere (bare_expression t) (bare_expression a)) o.same;
        }

    asked : (tree : Expression) (rest : List Lexeme) → IsOperand room ts tree rest → bare_expression tree ≡ bare_expression t → Placed (Mark Question ∷ behind) rest → Says (IsExpression room) (Conditional site t a b) ks ts
    asked tree rest h same (placed kind at q) =
        let o = second _ q in
        chosen tree o.tree at _ o.rest (lifted 10 h) same o.relates o.same o.left

mutual
  said : (e : Expression) (n : ℕ) (ks : List TokenKind) (ts : List Lexeme) → HasNamedCasts e → Opens n e → Placed (expression_tokens e ks) ts → Says (Shape (is_compound e) n) e ks ts
  said (Number site kind v) n ks ts c h (placed k at p) = record { tree = Number at kind v; rest = _; relates = literal (record { kind = kind; value = v }) at; left = p; same = refl }
  said (Name site x) n ks ts c h (placed k at p) = record { tree = Name at x; rest = _; relates = variable x at; left = p; same = refl }
  said (Element site x index) zero ks ts c h p = absurd h
  said (Element site x index) (suc n) ks ts c h (placed k at (placed k1 opening p)) =
      element_said site x index ks at opening (loose (is_compound index) (said index n (Mark RightBracket ∷ ks) _ c h p))
  said (Call site x es) zero ks ts c h p = absurd h
  said (Call site x es) (suc n) ks ts c h (placed k at (placed k1 opening p)) =
      let o = said_arguments es n ks _ c h p in
      record { tree = Call at x o.tree; rest = o.rest; relates = call x at opening o.relates; left = o.left; same = ap (Call nowhere x) o.same }
  said (Prefix site sign e) n ks ts c h (placed k at p) =
      let o = child (is_compound e) e (λ after. expression_tokens e after) n ks (λ n after us h p. said e n after us c h p) h p in
      record { tree = Prefix at sign o.tree; rest = o.rest; relates = plain (lifted 10 (prefixed (prefix_sign sign) sign at (prefix_back sign) o.relates)); left = o.left; same = ap (Prefix nowhere sign) o.same }
  said (Cast site kind e) zero ks ts c h p = absurd h.0
  said (Cast site kind e) (suc n) ks ts c h (placed k at (placed k1 in_it (placed k2 end p))) =
      let o = child (is_compound e) e (λ after. expression_tokens e after) (suc n) ks (λ n after us h p. said e n after us c.0 h p) h.1 p in
      record { tree = Cast at kind o.tree; rest = o.rest; relates = plain (lifted 10 (cast (kind_word kind) kind at in_it end (kind_back kind c.1) o.relates)); left = o.left; same = ap (Cast nowhere kind) o.same }
  said (Infix site sign l r) n ks ts c h p =
      infix_said site sign l r ks (parenthesised_tokens (is_compound r) (λ after. expression_tokens r after) ks)
      (child (is_compound l) l (λ after. expression_tokens l after) n _ (λ n after us h p. said l n after us c.0 h p) h.0 p)
      (λ us q. child (is_compound r) r (λ after. expression_tokens r after) n ks (λ n after us h p. said r n after us c.1 h p) h.1 q)
  said (Conditional site t a b) n ks ts c h p =
      conditional_said site t a b ks _ (parenthesised_tokens (is_compound b) (λ after. expression_tokens b after) ks)
      (child (is_compound t) t (λ after. expression_tokens t after) n _ (λ n after us h p. said t n after us c.0 h p) h.0 p)
      (λ us q. child (is_compound a) a (λ after. expression_tokens a after) n _ (λ n after us h p. said a n after us c.1 h p) h.1 q)
      (λ us q. child (is_compound b) b (λ after. expression_tokens b after) n ks (λ n after us h p. said b n after us c.2 h p) h.2 q)

  said_arguments : (es : Expressions) (n : ℕ) (ks : List TokenKind) (ts : List Lexeme) → HaveNamedCasts es → AllOpen n es → Placed (arguments_tokens es (Mark RightParenthesis ∷ ks)) ts → SaysAll (IsArguments n) es ks ts
  said_arguments nothing n ks ts c h (placed k closing p) = record { tree = nothing; rest = _; relates = empty closing; left = p; same = refl }
  said_arguments (also e es) n ks ts c h p =
      let r = loose (is_compound e) (said e n (more_tokens es (Mark RightParenthesis ∷ ks)) ts c.0 h.0 p) in
      let m = said_more es n ks r.rest c.1 h.1 r.left in
      record { tree = also r.tree m.tree; rest = m.rest; relates = arguments r.relates m.relates; left = m.left; same = ap (λ x. also x (bare_expressions m.tree)) r.same ∙ ap (also (bare_expression e)) m.same }

  said_more : (es : Expressions) (n : ℕ) (ks : List TokenKind) (ts : List Lexeme) → HaveNamedCasts es → AllOpen n es → Placed (more_tokens es (Mark RightParenthesis ∷ ks)) ts → SaysAll (IsMore n) es ks ts
  said_more nothing n ks ts c h (placed k closing p) = record { tree = nothing; rest = _; relates = last closing; left = p; same = refl }
  said_more (also e es) n ks ts c h (placed k comma p) =
      let r = loose (is_compound e) (said e n (more_tokens es (Mark RightParenthesis ∷ ks)) _ c.0 h.0 p) in
      let m = said_more es n ks r.rest c.1 h.1 r.left in
      record { tree = also r.tree m.tree; rest = m.rest; relates = more comma r.relates m.relates; left = m.left; same = ap (λ x. also x (bare_expressions m.tree)) r.same ∙ ap (also (bare_expression e)) m.same }

pub say_expression : (e : Expression) (n : ℕ) (ks : List TokenKind) (ts : List Lexeme) → HasNamedCasts e → Opens n e → Placed (expression_tokens e ks) ts → Says (IsExpression n) e ks ts
say_expression e n ks ts c h p = loose (is_compound e) (said e n ks ts c h p)

pub placed_of : (ts : List Lexeme) → Placed (map (λ t. t.kind) ts) ts
placed_of [] = over
placed_of (t ∷ ts) = placed t.kind t.site (placed_of ts)

pub kinds_of : {ks : List TokenKind} {ts : List Lexeme} → Placed ks ts → map (λ t. t.kind) ts ≡ ks
kinds_of over = refl
kinds_of (placed kind site p) = ap (λ ks. kind ∷ ks) (kinds_of p)

pub expression_related : (e : Expression) (room : ℕ) (after : List TokenKind) (ts : List Lexeme) → HasNamedCasts e → Opens room e → map (λ t. t.kind) ts ≡ expression_tokens e after →
    (tree : Expression) × (rest : List Lexeme) × IsExpression room ts tree rest × (map (λ t. t.kind) rest ≡ after) × (bare_expression tree ≡ bare_expression e)
expression_related e room after ts c h q =
    let r = say_expression e room after ts c h (subst (λ ks. Placed ks ts) q (placed_of ts)) in
    (r.tree, r.rest, r.relates, kinds_of r.left, r.same)
