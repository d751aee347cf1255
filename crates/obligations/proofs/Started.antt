-- An item of which a place's lines hold stands before the place's tree.
use Rattle.std.proofs.Common.{◌≡◌, ℕ, ◌+◌, ◌<◌, Bool, true, false, cond, List, [], ◌∷◌, ◌++◌, length, Option, Some, None, arith, refl, sym, ap, ◌∙◌, subst}
use Rattle.std.specs.Prelude.{ℤ}
use Rattle.std.specs.List.{All}
use Rattle.std.proofs.lemmas.List.Elements.{All-append, All-nil, All-head, All-tail}
use Rattle.semantics.specs.Word.{in_kind}
use Rattle.semantics.specs.Launch.{Kernel}
use Rattle.semantics.specs.Setup.{item_count}
use Rattle.semantics.specs.Solo.{opening}
use Rattle.linear.specs.Linear.{IsMet}
use Rattle.linear.specs.Exact.{is_rising}
use Rattle.linear.proofs.Merging.{rising_true}
use Rattle.facts.specs.Symbols.{First, Variable, AtAnchor, Turns, number, Fact}
use Rattle.facts.specs.Launching.{known, launch_facts, item_facts}
use Rattle.facts.proofs.Members.{by_number}
use Rattle.facts.proofs.Launched.{launch_known, item_known}
use Rattle.facts.proofs.Worlds.{Walked, View, setup_of, Agrees, variable_at}
use Rattle.arrivals.specs.Paths.{Held}
use Rattle.walk_trees.specs.Held as held
use Rattle.walk_trees.specs.Trees.{Tree, accesses, ends, claims}
use Rattle.walk_trees.specs.Shown.{IsShownWithProducts}
use Rattle.walk_trees.proofs.SameWords.{same_words-is}
use Rattle.walk_trees.proofs.Holding.{known_of, IsHeld, held_narrow, news-narrow}
use Rattle.walk_trees.proofs.Opening.{opening_forms}
use Rattle.walk_trees.proofs.Ranges.{form_once}
use Rattle.walk_trees.proofs.TermSound.{AreForms, forms_kept}
use Rattle.walk_trees.proofs.Fronts.{Stood}
use Rattle.obligations.specs.Notes.{Multiple, Notes}
use Rattle.obligations.specs.Listing.{is_some}
use Rattle.obligations.specs.Telling.{TellsOfItems, all_tell, congruences_tell, multiples_tell}
use Rattle.obligations.specs.Roots.{kinds, kind_of, tops, narrowed_from, facts_at, congruences_at, multiples_at, quotient_facts, range_facts, root_facts, narrow_where, narrow_all, root_held, root_values, root_state}
use Rattle.obligations.proofs.PlaceLines.{root_at, Holds}
use Rattle.obligations.proofs.Rooted.{AreTops, word-right, held_tops, held_from, all_ends-met, facts-met, fewer, root_news, root_news-length, quotients-met, root_forms}
use Rattle.obligations.proofs.Quotients.{both-tops}

-- with what is said of its places; its arrays are of both spaces
abbrev pub over : {E : Type 0} → Walked E → Notes → Walked E
over w n = record {
  domain = w.domain;
  lawful = w.lawful;
  kernel = w.kernel;
  conditions = w.conditions;
  is_wide = n.is_wide;
  joins = n.joins;
  has_entry = n.has_entry;
  spaces = λ sp. true;
  launch = w.launch;
  sized = w.sized;
  fits = w.fits;
  meets = w.meets;
}

abbrev pub view : {E : Type 0} (w : Walked E) (n : Notes) (i : ℕ) → i < item_count (setup_of w) → (from here : Held) → View E
view w n i h from here = record { walked = over w n; item = i; place = h; root = root_at from here }

module _ {E : Type 0} (w : Walked E) (n : Notes) (tell : TellsOfItems n) (i : ℕ) (h : i < item_count (setup_of w)) (from here : Held) where
  abbrev c : View E
  c = view w n i h from here

  abbrev k : Kernel
  k = w.kernel

  told-facts : (a b : Option ℕ) → all_tell (is_some b) (facts_at n a b) ≡ true
  told-facts None None = refl
  told-facts None (Some m) = tell.facts None (Some m)
  told-facts (Some b) m = tell.facts (Some b) m

  told-congruences : (a b : Option ℕ) → congruences_tell (is_some b) (congruences_at n a b) ≡ true
  told-congruences None None = refl
  told-congruences None (Some m) = tell.congruences None (Some m)
  told-congruences (Some b) m = tell.congruences (Some b) m

  told-where : (t b : Bool) (ms : List Multiple) → multiples_tell b ms ≡ true → multiples_tell b (cond t ms []) ≡ true
  told-where true b ms h = h
  told-where false b ms h = refl

  told-multiples : (a b : Option ℕ) → multiples_tell (is_some b) (multiples_at n a b) ≡ true
  told-multiples None None = refl
  told-multiples None (Some m) = told-where n.is_wide true (n.multiples None (Some m)) (tell.multiples None (Some m))
  told-multiples (Some b) m = told-where n.is_wide (is_some m) (n.multiples (Some b) m) (tell.multiples (Some b) m)

  -- the elements of the quotients
  tops_at : (a b : Option ℕ) → List E
  tops_at a b = tops w.domain (congruences_at n a b) ++ tops w.domain (multiples_at n a b)

  are-tops : (a b : Option ℕ) → AreTops c (tops_at a b)
  unfolding tops_at
  are-tops a b = both-tops c (congruences_at n a b) (multiples_at n a b)

  module _ (words : (x : ℕ) → in_kind (kind_of k x) (variable_at here.variables x) ≡ true) (before : (x : ℕ) → in_kind (kind_of k x) (variable_at from.variables x) ≡ true) where
    here-right : (news : List ℤ) (v : ℕ → ℤ) → Agrees c news v → (x : ℕ) → in_kind (kind_of k x) (v (number (Variable First x))) ≡ true
    here-right news v a x = subst (λ z. in_kind (kind_of k x) z ≡ true) (sym (a.variable x)) (words x)

    from-right : (news : List ℤ) (v : ℕ → ℤ) → Agrees c news v → (x : ℕ) → in_kind (kind_of k x) (v (number (AtAnchor First x))) ≡ true
    from-right news v a x = subst (λ z. in_kind (kind_of k x) z ≡ true) (sym (a.at_anchor x)) (before x)

    ranges-met : (a b : Option ℕ) (news : List ℤ) (v : ℕ → ℤ) → Agrees c news v → All (IsMet v) (range_facts k n a b)
    ranges-met None None news v g = All-nil (IsMet v)
    ranges-met (Some m) None news v g = all_ends-met c v (Variable First) (here-right news v g) (n.visible (Some m))
    ranges-met None (Some l) news v g = All-append (IsMet v) _ _ (all_ends-met c v (Variable First) (here-right news v g) (n.visible (Some l))) (all_ends-met c v (AtAnchor First) (from-right news v g) (n.visible None))
    ranges-met (Some m) (Some l) news v g = All-append (IsMet v) _ _ (all_ends-met c v (Variable First) (here-right news v g) (n.visible (Some l))) (all_ends-met c v (AtAnchor First) (from-right news v g) (n.visible (Some m)))

    -- the domain knows the kinds of variables
    first_held : (es : List E) → AreTops c es → (news : List ℤ) → IsHeld c news (record { news = es; narrowed = narrowed_from w.domain (Variable First) 0 (kinds k) })
    first_held es t news = held_from c (Variable First) news es [] 0 (kinds k) (λ m u x l. let e : x ≡ 0 + x = omega arith in subst (λ j. in_kind (kind_of k x) (by_number m (number (Variable First j))) ≡ true) e (here-right news (by_number m) u.agrees x)) (held_tops c es t news)

    both_held : (es : List E) → AreTops c es → (news : List ℤ) → IsHeld c news (record { news = es; narrowed = narrowed_from w.domain (Variable First) 0 (kinds k) ++ narrowed_from w.domain (AtAnchor First) 0 (kinds k) })
    both_held es t news = held_from c (AtAnchor First) news es (narrowed_from w.domain (Variable First) 0 (kinds k)) 0 (kinds k) (λ m u x l. let e : x ≡ 0 + x = omega arith in subst (λ j. in_kind (kind_of k x) (by_number m (number (AtAnchor First j))) ≡ true) e (from-right news (by_number m) u.agrees x)) (first_held es t news)

    root-fits : (a b : Option ℕ) (news : List ℤ) → IsHeld c news (root_held w.domain k n a b)
    unfolding tops_at
    root-fits None None news = held_tops c (tops_at None None) (are-tops None None) news
    root-fits (Some m) None news = first_held (tops_at (Some m) None) (are-tops (Some m) None) news
    root-fits None (Some l) news = both_held (tops_at None (Some l)) (are-tops None (Some l)) news
    root-fits (Some m) (Some l) news = both_held (tops_at (Some m) (Some l)) (are-tops (Some m) (Some l)) news

  -- facts that hold at the place narrow
  where_held : (b : Bool) (news : List ℤ) (f : Fact) (h : held.Held E) → is_rising 0 f.terms ≡ b → ((v : ℕ → ℤ) → Agrees c news v → IsMet v f) → IsHeld c news h → IsHeld c news (narrow_where w.domain (known_of c) b f h)
  where_held true news f h r met e = held_narrow c news f h (rising_true 0 f.terms r) met e
  where_held false news f h r met e = e

  all_held : (news : List ℤ) (fs : List Fact) (h : held.Held E) → ((v : ℕ → ℤ) → Agrees c news v → All (IsMet v) fs) → IsHeld c news h → IsHeld c news (narrow_all w.domain (known_of c) fs h)
  all_held news [] h met e = e
  all_held news (f ∷ fs) h met e =
      all_held news fs (narrow_where w.domain (known_of c) (is_rising 0 f.terms) f h) (λ v g. All-tail (IsMet v) f fs (met v g)) (where_held (is_rising 0 f.terms) news f h refl (λ v g. All-head (IsMet v) f fs (met v g)) e)

  known_held : (b : Bool) (news : List ℤ) (fs : List Fact) (h : held.Held E) → ((v : ℕ → ℤ) → Agrees c news v → All (IsMet v) fs) → IsHeld c news h → IsHeld c news (cond b (narrow_all w.domain (known_of c) fs h) h)
  known_held true news fs h met e = all_held news fs h met e
  known_held false news fs h met e = e

  -- narrowing keeps the new symbols
  where_news : (b : Bool) (f : Fact) (h : held.Held E) → (narrow_where w.domain (known_of c) b f h).news ≡ h.news
  where_news true f h = news-narrow w.domain (known_of c) f h
  where_news false f h = refl

  all_news : (fs : List Fact) (h : held.Held E) → (narrow_all w.domain (known_of c) fs h).news ≡ h.news
  all_news [] h = refl
  all_news (f ∷ fs) h = all_news fs (narrow_where w.domain (known_of c) (is_rising 0 f.terms) f h) ∙ where_news (is_rising 0 f.terms) f h

  known_news : (b : Bool) (fs : List Fact) (h : held.Held E) → (cond b (narrow_all w.domain (known_of c) fs h) h).news ≡ h.news
  known_news true fs h = all_news fs h
  known_news false fs h = refl

  -- what variables are where the path begins
  pub forms : (a b : Option ℕ) → Holds (setup_of w) n a b i from here → (news : List ℤ) → AreForms c news here.variables (root_values k a b)
  forms None None o news = subst (λ ws. AreForms c news ws (root_values k None None)) (sym (same_words-is here.variables (opening (setup_of w) i).variables o.opens)) (forms_kept c (λ v g. fewer c news v g) (opening_forms c))
  forms None (Some l) o news = root_forms c news o.words
  forms (Some m) b o news = root_forms c news o.words

  pub started : (a b : Option ℕ) → Holds (setup_of w) n a b i from here → (count : ℕ) (tree : Tree E) → All IsShownWithProducts (claims (launch_facts w.conditions) (root_facts k n a b) count tree) →
      Stood c (launch_facts w.conditions) (accesses (root_facts k n a b) count tree) (ends (root_facts k n a b) count tree) tree (root_state w.domain (known w.domain k.sizes w.conditions) k n count a b) here.variables here.ranks
  started a b o count tree shown =
      let cs = congruences_at n a b in
      let ms = multiples_at n a b in
      let news = root_news c cs ms o.congruences o.multiples in
      let words = word-right c here.variables o.words in
      let before = word-right c from.variables o.before in
      let said : (v : ℕ → ℤ) → Agrees c news v → All (IsMet v) (facts_at n a b) = λ v g. facts-met c (is_some b) news v g (facts_at n a b) (told-facts a b) o.facts in
      record {
        facts = root_facts k n a b;
        count = count;
        news = news;
        stands = record {
          fit = known_held n.is_wide news (facts_at n a b) (root_held w.domain k n a b) said (root-fits words before a b news);
          shared = tt;
          counted = root_news-length c cs ms o.congruences o.multiples ∙ ap length (sym (known_news n.is_wide (facts_at n a b) (root_held w.domain k n a b)));
          launched = launch_known c news;
          known = λ v g. All-append (IsMet v) (item_facts k.sizes First) _ (item_known c news v g)
              (All-append (IsMet v) (range_facts k n a b) _ (ranges-met words before a b news v g)
              (All-append (IsMet v) (facts_at n a b) (quotient_facts cs ms) (said v g)
              (quotients-met c (is_some b) v cs ms (told-congruences a b) (told-multiples a b) o.congruences o.multiples g)));
          shown = shown;
        };
        forms = forms a b o news;
        ranked = λ m. form_once c news (Turns First m) (here.ranks m) (λ v g. g.turns m);
        touched = λ x e. e;
        ended = λ x e. e;
      }
