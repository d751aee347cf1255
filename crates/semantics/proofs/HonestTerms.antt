-- The answers to the loads of a term stay honest when one more comes that is held.
use Rattle.std.proofs.Common.{◌≡◌, ◌<◌, ℕ, ℤ, pos, negsuc, cond, nat_lt, ltb-true, List, [], ◌∷◌, ◌++◌, Bool, true, false, not, Result, Ok, Err, refl, sym, ◌∙◌, subst}
use Rattle.semantics.specs.Word.{Word, Fault, calculate_unary, convert, is_zero, smaller, larger, truth, as_kind}
use Rattle.semantics.specs.Core.{Site, Array, Term, Literal, Variable, Id, Load, Unary, Binary, Convert, Compare, Not, And, Or, Select, Minimum, Maximum, Shift, Within, Opaque}
use Rattle.semantics.specs.Setup.{Setup}
use Rattle.semantics.specs.Memory.{extent, element_kind}
use Rattle.semantics.specs.Evaluation.{Outcome, Gives, Needs, Faults, and_then, settled, operate, compare, Index, At, Outside, within, asks, load, decide, shifted, inside, opaque, evaluate}
use Rattle.semantics.specs.Conditions.{Content}
use Rattle.semantics.specs.Contents.{HoldsOf, FirstHeld, Behind, HonestTerm}
use Rattle.semantics.proofs.MoreAnswers.{Grows, then-by, then-grows, value-grows, settled-grows, load-grows, gives-is}

-- the next answer is held
abbrev pub Held : Setup → List Content → Array → Word → Type 0
Held s cs a w = HoldsOf s cs a.space a.number (as_kind (element_kind s a) w.value)

-- a reader of answers, with what is said of them: nothing is left of none, nor of a last one that was asked for, and it is said of the
-- answers with more behind them
pub record Heeding (s : Setup) (cs : List Content) (f : List Word → Outcome) (P : List Word → Type 0) : Type 0 where
  pub grows : Grows f
  pub none_left : (v : Word) (rest : List Word) → f [] ≡ Gives v rest → rest ≡ []
  pub last_used : (answers : List Word) (a : Array) (k : ℕ) (site : Site) (w v : Word) (rest : List Word) → f answers ≡ Needs a k site → f (answers ++ w ∷ []) ≡ Gives v rest → rest ≡ []
  pub inside : (answers : List Word) (a : Array) (k : ℕ) (site : Site) → f answers ≡ Needs a k site → k < extent s a
  pub none : P []
  pub beyond : (answers more : List Word) (v : Word) (rest : List Word) → f answers ≡ Gives v rest → P answers → P (answers ++ more)
  pub more : (answers : List Word) (a : Array) (k : ℕ) (site : Site) (w : Word) → f answers ≡ Needs a k site → Held s cs a w → P answers → P (answers ++ w ∷ [])

-- what goes on from a value, and reads no more
pub record Blind (go : Word → List Word → Outcome) : Type 0 where
  pub asks_none : (a : Word) (rest : List Word) (b : Array) (k : ℕ) (site : Site) → go a rest ≡ Needs b k site → ⊥
  pub leaves : (a : Word) (rest : List Word) (v : Word) (q : List Word) → go a rest ≡ Gives v q → q ≡ rest
  pub grows : (a : Word) → Grows (go a)

needs-by : (o : Outcome) (go : Word → List Word → Outcome) (a : Array) (k : ℕ) (site : Site) (P : Type 0) → and_then o go ≡ Needs a k site → ((v : Word) (rest : List Word) → o ≡ Gives v rest → go v rest ≡ Needs a k site → P) → (o ≡ Needs a k site → P) → P
needs-by (Gives v rest) go a k site P h f g = f v rest refl h
needs-by (Needs b l site') go a k site P h f g = g h
needs-by (Faults f' site') go a k site P h f g = cc

behind-at : (o : Outcome) (Q : Word → List Word → Type 0) (v : Word) (rest : List Word) → o ≡ Gives v rest → Behind o Q → Q v rest
behind-at o Q v rest e h = subst (λ x. Behind x Q) e h

behind-is : (o : Outcome) (Q : Word → List Word → Type 0) (v : Word) (rest : List Word) → o ≡ Gives v rest → Q v rest → Behind o Q
behind-is o Q v rest e h = subst (λ x. Behind x Q) (sym e) h

behind-by : (o : Outcome) (Q : Word → List Word → Type 0) → ((v : Word) (rest : List Word) → o ≡ Gives v rest → Q v rest) → Behind o Q
behind-by (Gives v rest) Q h = h v rest refl
behind-by (Needs a k site) Q h = tt
behind-by (Faults f site) Q h = tt

within-below : (n : ℕ) (z : ℤ) (k : ℕ) → within n z ≡ At k → k < n
within-below n (pos m) k h = go (nat_lt m n) refl h
  where
    go : (b : Bool) → nat_lt m n ≡ b → cond b (At m) Outside ≡ At k → k < n
    go true e q = let l : m ≡ k = cc in subst (λ x. x < n) l (ltb-true m n e)
    go false e q = cc
within-below n (negsuc m) k h = cc

module _ (s : Setup) (cs : List Content) where
  value-heeds : (w : Word) → Heeding s cs (Gives w) (λ answers. Unit {0})
  value-heeds w = record {
    grows = value-grows w;
    none_left = λ v rest h. sym (gives-is w v [] rest h).1;
    last_used = λ answers a k site w' v rest h e. cc;
    inside = λ answers a k site h. cc;
    none = tt;
    beyond = λ answers more v rest h p. tt;
    more = λ answers a k site w' h held p. tt;
  }

  -- what goes on without reading changes nothing
  blind : (f : List Word → Outcome) (P : List Word → Type 0) (go : Word → List Word → Outcome) → Heeding s cs f P → Blind go → Heeding s cs (λ answers. and_then (f answers) go) P
  blind f P go h b = record {
    grows = then-grows f go h.grows b.grows;
    none_left = λ v rest e.
        let q = then-by (f []) go v rest e in
        b.leaves q.0 q.1 v rest q.3 ∙ h.none_left q.0 q.1 q.2;
    last_used = λ answers a k site w v rest e g.
        let q = then-by (f (answers ++ w ∷ [])) go v rest g in
        b.leaves q.0 q.1 v rest q.3 ∙ needs-by (f answers) go a k site (q.1 ≡ []) e (λ x y l m. absurd (b.asks_none x y a k site m)) (λ l. h.last_used answers a k site w q.0 q.1 l q.2);
    inside = λ answers a k site e. needs-by (f answers) go a k site (k < extent s a) e (λ x y l m. absurd (b.asks_none x y a k site m)) (λ l. h.inside answers a k site l);
    none = h.none;
    beyond = λ answers more v rest e p.
        let q = then-by (f answers) go v rest e in
        h.beyond answers more q.0 q.1 q.2 p;
    more = λ answers a k site w e held p.
        needs-by (f answers) go a k site (P (answers ++ w ∷ [])) e (λ x y l m. absurd (b.asks_none x y a k site m)) (λ l. h.more answers a k site w l held p);
  }

  -- what goes on reads the answers that are left
  pub onward : (f : List Word → Outcome) (P : List Word → Type 0) (go : Word → List Word → Outcome) (Q : Word → List Word → Type 0) → Heeding s cs f P → ((a : Word) → Heeding s cs (go a) (Q a)) → Heeding s cs (λ answers. and_then (f answers) go) (λ answers. P answers × Behind (f answers) Q)
  onward f P go Q h g = record {
    grows = then-grows f go h.grows (λ a. (g a).grows);
    none_left = λ v rest e.
        let q = then-by (f []) go v rest e in
        let l = h.none_left q.0 q.1 q.2 in
        (g q.0).none_left v rest (subst (λ r. go q.0 r ≡ Gives v rest) l q.3);
    last_used = λ answers a k site w v rest e l. last answers a k site w v rest e l;
    inside = λ answers a k site e. needs-by (f answers) go a k site (k < extent s a) e (λ x y l m. (g x).inside y a k site m) (λ l. h.inside answers a k site l);
    none = (h.none, behind-by (f []) Q (λ v rest e. subst (Q v) (sym (h.none_left v rest e)) (g v).none));
    beyond = λ answers more v rest e p.
        let q = then-by (f answers) go v rest e in (
          h.beyond answers more q.0 q.1 q.2 p.0,
          behind-is (f (answers ++ more)) Q q.0 (q.1 ++ more) (h.grows.by answers q.1 more q.0 q.2) ((g q.0).beyond q.1 more v rest q.3 (behind-at (f answers) Q q.0 q.1 q.2 p.1)),
        );
    more = λ answers a k site w e held p. one_more answers a k site w e held p;
  }
    where
      last : (answers : List Word) (a : Array) (k : ℕ) (site : Site) (w v : Word) (rest : List Word) → and_then (f answers) go ≡ Needs a k site → and_then (f (answers ++ w ∷ [])) go ≡ Gives v rest → rest ≡ []
      last answers a k site w v rest e l =
          let q = then-by (f (answers ++ w ∷ [])) go v rest l in
          needs-by (f answers) go a k site (rest ≡ []) e
          (λ x y n m.
          let o = gives-is q.0 x q.1 (y ++ w ∷ []) (sym q.2 ∙ h.grows.by answers y (w ∷ []) x n) in
          (g x).last_used y a k site w v rest m (subst (λ r. go x r ≡ Gives v rest) o.1 (subst (λ z. go z q.1 ≡ Gives v rest) o.0 q.3)))
          (λ n.
          let o = h.last_used answers a k site w q.0 q.1 n q.2 in
          (g q.0).none_left v rest (subst (λ r. go q.0 r ≡ Gives v rest) o q.3))

      one_more : (answers : List Word) (a : Array) (k : ℕ) (site : Site) (w : Word) → and_then (f answers) go ≡ Needs a k site → Held s cs a w → (P answers × Behind (f answers) Q) → (P (answers ++ w ∷ []) × Behind (f (answers ++ w ∷ [])) Q)
      one_more answers a k site w e held p =
          needs-by (f answers) go a k site (P (answers ++ w ∷ []) × Behind (f (answers ++ w ∷ [])) Q) e
          (λ x y n m. (
            h.beyond answers (w ∷ []) x y n p.0,
            behind-is (f (answers ++ w ∷ [])) Q x (y ++ w ∷ []) (h.grows.by answers y (w ∷ []) x n) ((g x).more y a k site w m held (behind-at (f answers) Q x y n p.1)),
          ))
          (λ n. (
            h.more answers a k site w n held p.0,
            behind-by (f (answers ++ w ∷ [])) Q (λ v rest o. subst (Q v) (sym (h.last_used answers a k site w v rest n o)) (g v).none),
          ))

  -- what is said under a premise
  under : (E : Type 0) (f : List Word → Outcome) (P : List Word → Type 0) → Heeding s cs f P → Heeding s cs f (λ answers. E → P answers)
  under E f P h = record {
    grows = h.grows;
    none_left = h.none_left;
    last_used = h.last_used;
    inside = h.inside;
    none = λ x. h.none;
    beyond = λ answers more v rest e p x. h.beyond answers more v rest e (p x);
    more = λ answers a k site w e held p x. h.more answers a k site w e held (p x);
  }

  exchange : (f : List Word → Outcome) (P Q : List Word → Type 0) → Heeding s cs f P → ((answers : List Word) → P answers → Q answers) → ((answers : List Word) → Q answers → P answers) → Heeding s cs f Q
  exchange f P Q h to back = record {
    grows = h.grows;
    none_left = h.none_left;
    last_used = h.last_used;
    inside = h.inside;
    none = to [] h.none;
    beyond = λ answers more v rest e p. to (answers ++ more) (h.beyond answers more v rest e (back answers p));
    more = λ answers a k site w e held p. to (answers ++ w ∷ []) (h.more answers a k site w e held (back answers p));
  }

  and-heeds : (b : Bool) (w : Word) (g : List Word → Outcome) (P : List Word → Type 0) → Heeding s cs g P → Heeding s cs (λ r. decide b (Gives w r) (g r)) (λ r. b ≡ false → P r)
  and-heeds true w g P h = exchange (Gives w) (λ r. Unit {0}) (λ r. true ≡ false → P r) (value-heeds w) (λ r u e. cc) (λ r u. tt)
  and-heeds false w g P h = under (false ≡ false) g P h

  or-heeds : (b : Bool) (w : Word) (g : List Word → Outcome) (P : List Word → Type 0) → Heeding s cs g P → Heeding s cs (λ r. decide (not b) (Gives w r) (g r)) (λ r. b ≡ true → P r)
  or-heeds true w g P h = under (true ≡ true) g P h
  or-heeds false w g P h = exchange (Gives w) (λ r. Unit {0}) (λ r. false ≡ true → P r) (value-heeds w) (λ r u e. cc) (λ r u. tt)

  select-heeds : (b : Bool) (f g : List Word → Outcome) (P Q : List Word → Type 0) → Heeding s cs f P → Heeding s cs g Q → Heeding s cs (λ r. decide b (f r) (g r)) (λ r. (b ≡ false → Q r) × (b ≡ true → P r))
  select-heeds true f g P Q hf hg = exchange f P (λ r. (true ≡ false → Q r) × (true ≡ true → P r)) hf (λ r p. ((λ e. cc), (λ e. p))) (λ r p. p.1 refl)
  select-heeds false f g P Q hf hg = exchange g Q (λ r. (false ≡ false → Q r) × (false ≡ true → P r)) hg (λ r p. ((λ e. p), (λ e. cc))) (λ r p. p.0 refl)

  load-needs : (a : Array) (site : Site) (z : ℤ) (answers : List Word) (b : Array) (k : ℕ) (site' : Site) → load s a site z answers ≡ Needs b k site' → (answers ≡ []) × (a ≡ b)
  load-needs a site z [] b k site' h = (refl, go (within (extent s a) z) h)
    where
      go : (x : Index) → asks a x site ≡ Needs b k site' → a ≡ b
      go (At n) e = cc
      go Outside e = cc
  load-needs a site z (w ∷ answers) b k site' h = cc

  asks-not : (a : Array) (x : Index) (site : Site) (v : Word) (rest : List Word) → asks a x site ≡ Gives v rest → ⊥
  asks-not a (At n) site v rest h = cc
  asks-not a Outside site v rest h = cc

  load-heeds : (a : Array) (site : Site) (z : ℤ) → Heeding s cs (load s a site z) (FirstHeld s cs a)
  load-heeds a site z = record {
    grows = load-grows s a site z;
    none_left = λ v rest h. absurd (asks-not a (within (extent s a) z) site v rest h);
    last_used = λ answers b k site' w v rest h e. last answers b k site' w v rest (load-needs a site z answers b k site' h).0 e;
    inside = λ answers b k site' h. within-by answers b k site' h;
    none = tt;
    beyond = λ answers more v rest h p. over answers more v rest h p;
    more = λ answers b k site' w h held p. let q = load-needs a site z answers b k site' h in
        subst (λ x. FirstHeld s cs a (x ++ w ∷ [])) (sym q.0) (subst (λ x. Held s cs x w) (sym q.1) held);
  }
    where
      last : (answers : List Word) (b : Array) (k : ℕ) (site' : Site) (w v : Word) (rest : List Word) → answers ≡ [] → load s a site z (answers ++ w ∷ []) ≡ Gives v rest → rest ≡ []
      last [] b k site' w v rest h e = sym (gives-is _ v [] rest e).1
      last (x ∷ answers) b k site' w v rest h e = cc

      asks-within : (x : Index) (b : Array) (k : ℕ) (site' : Site) → ((n : ℕ) → x ≡ At n → n < extent s a) → asks a x site ≡ Needs b k site' → k < extent s b
      asks-within (At n) b k site' h e =
          let o : a ≡ b = cc in
          let l : n ≡ k = cc in
          subst (λ y. k < extent s y) o (subst (λ y. y < extent s a) l (h n refl))
      asks-within Outside b k site' h e = cc

      within-by : (answers : List Word) (b : Array) (k : ℕ) (site' : Site) → load s a site z answers ≡ Needs b k site' → k < extent s b
      within-by [] b k site' h = asks-within (within (extent s a) z) b k site' (λ n e. within-below (extent s a) z n e) h
      within-by (x ∷ answers) b k site' h = cc

      over : (answers more : List Word) (v : Word) (rest : List Word) → load s a site z answers ≡ Gives v rest → FirstHeld s cs a answers → FirstHeld s cs a (answers ++ more)
      over [] more v rest h p = absurd (asks-not a (within (extent s a) z) site v rest h)
      over (x ∷ answers) more v rest h p = p

  settled-blind : (r : Word → Result Word Fault) (site : Site) → Blind (λ a rest. settled (r a) site rest)
  settled-blind r site = record { asks_none = λ a rest b k site' h. none (r a) rest b k site' h; leaves = λ a rest v q h. same (r a) rest v q h; grows = λ a. settled-grows (r a) site }
    where
      none : (x : Result Word Fault) (rest : List Word) (b : Array) (k : ℕ) (site' : Site) → settled x site rest ≡ Needs b k site' → ⊥
      none (Ok w) rest b k site' h = cc
      none (Err f) rest b k site' h = cc

      same : (x : Result Word Fault) (rest : List Word) (v : Word) (q : List Word) → settled x site rest ≡ Gives v q → q ≡ rest
      same (Ok w) rest v q h = sym (gives-is w v rest q h).1
      same (Err f) rest v q h = cc

  gives-blind : (w : Word → Word) → Blind (λ a rest. Gives (w a) rest)
  gives-blind w = record { asks_none = λ a rest b k site h. cc; leaves = λ a rest v q h. sym (gives-is (w a) v rest q h).1; grows = λ a. value-grows (w a) }

  module _ (i : ℕ) (now : List ℕ) (vars : List Word) where
    abbrev reads : Term → List Word → Outcome
    reads e answers = evaluate s i now e vars answers

    abbrev Honest : Term → List Word → Type 0
    Honest e answers = HonestTerm s cs i now e vars answers

    two : (l r : Term) (go : Word → Word → List Word → Outcome) → Heeding s cs (reads l) (Honest l) → Heeding s cs (reads r) (Honest r) → ((a : Word) → Blind (go a)) → Heeding s cs (λ answers. and_then (evaluate s i now l vars answers) (λ a rest. and_then (evaluate s i now r vars rest) (go a))) (λ answers. Honest l answers × Behind (evaluate s i now l vars answers) (λ a rest. Honest r rest))
    two l r go hl hr hgo = onward (reads l) (Honest l) (λ a rest. and_then (evaluate s i now r vars rest) (go a)) (λ a rest. Honest r rest) hl (λ a. blind (reads r) (Honest r) (go a) hr (hgo a))

    pub heeds : (e : Term) → Heeding s cs (reads e) (Honest e)
    unfolding evaluate
    heeds (Literal k z) = value-heeds _
    heeds (Variable x) = value-heeds _
    heeds (Id k f d) = value-heeds _
    heeds (Load a site index) = onward (reads index) (Honest index) (λ k rest. load s a site k.value rest) (λ k rest. FirstHeld s cs a rest) (heeds index) (λ k. load-heeds a site k.value)
    heeds (Unary op kind site e) = blind (reads e) (Honest e) (λ a rest. settled (calculate_unary op s.width kind a.value) site rest) (heeds e) (settled-blind (λ a. calculate_unary op s.width kind a.value) site)
    heeds (Binary op kind site l r) = two l r (λ a b rest. settled (operate op s.width kind a b) site rest) (heeds l) (heeds r) (λ a. settled-blind (operate op s.width kind a) site)
    heeds (Convert kind site e) = blind (reads e) (Honest e) (λ a rest. settled (convert s.width kind a.value) site rest) (heeds e) (settled-blind (λ a. convert s.width kind a.value) site)
    heeds (Compare c kind l r) = two l r (λ a b rest. Gives (truth (compare c kind a b)) rest) (heeds l) (heeds r) (λ a. gives-blind (λ b. truth (compare c kind a b)))
    heeds (Not e) = blind (reads e) (Honest e) (λ a rest. Gives (truth (is_zero a.value)) rest) (heeds e) (gives-blind (λ a. truth (is_zero a.value)))
    heeds (And l r) =
        onward (reads l) (Honest l) (λ a rest. decide (is_zero a.value) (Gives (truth false) rest) (and_then (evaluate s i now r vars rest) (λ b rest'. Gives (truth (not (is_zero b.value))) rest'))) (λ a rest. is_zero a.value ≡ false → Honest r rest) (heeds l)
        (λ a. and-heeds (is_zero a.value) (truth false) (λ rest. and_then (evaluate s i now r vars rest) (λ b rest'. Gives (truth (not (is_zero b.value))) rest')) (Honest r)
        (blind (reads r) (Honest r) (λ b rest'. Gives (truth (not (is_zero b.value))) rest') (heeds r) (gives-blind (λ b. truth (not (is_zero b.value))))))
    heeds (Or l r) =
        onward (reads l) (Honest l) (λ a rest. decide (not (is_zero a.value)) (Gives (truth true) rest) (and_then (evaluate s i now r vars rest) (λ b rest'. Gives (truth (not (is_zero b.value))) rest'))) (λ a rest. is_zero a.value ≡ true → Honest r rest) (heeds l)
        (λ a. or-heeds (is_zero a.value) (truth true) (λ rest. and_then (evaluate s i now r vars rest) (λ b rest'. Gives (truth (not (is_zero b.value))) rest')) (Honest r)
        (blind (reads r) (Honest r) (λ b rest'. Gives (truth (not (is_zero b.value))) rest') (heeds r) (gives-blind (λ b. truth (not (is_zero b.value))))))
    heeds (Select t l r) =
        onward (reads t) (Honest t) (λ v rest. decide (is_zero v.value) (evaluate s i now r vars rest) (evaluate s i now l vars rest)) (λ v rest. (is_zero v.value ≡ false → Honest l rest) × (is_zero v.value ≡ true → Honest r rest)) (heeds t)
        (λ v. select-heeds (is_zero v.value) (reads r) (reads l) (Honest r) (Honest l) (heeds r) (heeds l))
    heeds (Minimum l r) = two l r (λ a b rest. Gives (smaller a b) rest) (heeds l) (heeds r) (λ a. gives-blind (smaller a))
    heeds (Maximum l r) = two l r (λ a b rest. Gives (larger a b) rest) (heeds l) (heeds r) (λ a. gives-blind (larger a))
    heeds (Shift d kind l r) = two l r (λ a b rest. Gives (shifted d kind a b) rest) (heeds l) (heeds r) (λ a. gives-blind (shifted d kind a))
    heeds (Within site n e) = blind (reads e) (Honest e) (λ k rest. settled (inside (within n k.value) k) site rest) (heeds e) (settled-blind (λ k. inside (within n k.value) k) site)
    heeds (Opaque n at kind a b c) =
        onward (reads a) (Honest a) (λ x rest. and_then (evaluate s i now b vars rest) (λ y rest'. and_then (evaluate s i now c vars rest') (λ z rest''. Gives (opaque s i now n at kind x y z) rest'')))
        (λ x rest. Honest b rest × Behind (evaluate s i now b vars rest) (λ y rest'. Honest c rest')) (heeds a)
        (λ x. two b c (λ y z rest. Gives (opaque s i now n at kind x y z) rest) (heeds b) (heeds c) (λ y. gives-blind (opaque s i now n at kind x y)))
