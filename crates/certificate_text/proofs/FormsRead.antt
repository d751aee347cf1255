-- Names and forms are written as they are read.
use Rattle.std.proofs.Common.{◌≡◌, ℕ, Bool, true, false, cond, not, ◌&&◌, List, [], ◌∷◌, ◌++◌, drop, Option, Some, refl, ap, sym, ◌∙◌, append_assoc, inl, inr}
use Rattle.std.specs.Prelude.{pos, codes, bytes_eq}
use Rattle.std.specs.Option.{option_map}
use Rattle.std.specs.Ordering.{int_eq}
use Rattle.std.specs.List.{flat_map}
use Rattle.std.specs.Fmt.{decimal, signed_decimal}
use Rattle.std.proofs.lemmas.Bool.{false≢true}
use Rattle.std.proofs.lemmas.List.{append-nil}
use Rattle.std.proofs.lemmas.Grind.{flat_map-append}
use Rattle.std.proofs.lemmas.Slice.Eq.{bytes_eq-Decides}
use Rattle.linear.specs.Linear.{Weighted, Form}
use Rattle.lines.specs.Lines.{is_empty, pieces, first, sole, natural_of, integer_of, follows}
use Rattle.certificate_text.specs.Certificate.{Dimension, First, Second, Third, Name, Variable, AtAnchor, Turns, Fresh, Argument, Length, Groups, Group, Local, Product}
use Rattle.certificate_text.specs.Text.{dimension_text, name_text, term_text, form_text}
use Rattle.certificate_text.specs.Forms.{number, identifier_of, dimension_of, dimensional_of, name_of, second_of, factor_of, in_order, pair_of, triple_of, names_of, weighted, term_of, term_is_before, form, form_of}
use Rattle.lines.specs.Identifiers.{is_identifier}
use Rattle.certificate_text.specs.Rules.{all, rises, is_plain_name, is_factor, names_rise, is_pair, is_name, is_term, is_form}
use Rattle.lines.specs.Lines.{is_natural, is_integer}
use Rattle.lines.proofs.Fronts.{both}
use Rattle.lines.proofs.Decimals.{natural_back, integer_back}
use Rattle.certificate_text.proofs.Cuts.{parted, spaced, pieces_back, then_back, map_back, when_back, cond_back, number_back, first_back, sole_back, none_left, by_word, by_front, all_push, rises_push}

pub identifier_back : (w s : List ℕ) → identifier_of w ≡ Some s → (s ≡ w) × (is_identifier s ≡ true)
identifier_back w s e = let h = when_back (is_identifier w) w s e in (sym h.1, ap is_identifier (sym h.1) ∙ h.0)

pub dimension_back : (w : List ℕ) (d : Dimension) → dimension_of w ≡ Some d → dimension_text d ≡ w
dimension_back w d e = elim (by_word w (codes "0") _ _ d e) [
  | inl h ↦ let q : First ≡ d = cc in ap dimension_text (sym q) ∙ sym h.0
  | inr f ↦ elim (by_word w (codes "1") _ _ d f) [
    | inl h ↦ let q : Second ≡ d = cc in ap dimension_text (sym q) ∙ sym h.0
    | inr g ↦ elim (by_word w (codes "2") _ _ d g) [
      | inl h ↦ let q : Third ≡ d = cc in ap dimension_text (sym q) ∙ sym h.0
      | inr k ↦ absurd cc
    ]
  ]
]

-- a name of something that is read behind some bytes
behind : {A : Type 0} (make : A → Name) (front rest w : List ℕ) (read : Option A) (text : A → List ℕ) (good : A → Bool) (n : Name) → w ≡ front ++ rest → ((a : A) → name_text (make a) ≡ front ++ text a) → ((a : A) → is_plain_name (make a) ≡ good a) → ((a : A) → read ≡ Some a → (text a ≡ rest) × (good a ≡ true)) → option_map make read ≡ Some n → (name_text n ≡ w) × (is_plain_name n ≡ true)
behind make front rest w read text good n p t g back e =
    let m = map_back make read n e in
    let b = back m.0 m.1 in
    (ap name_text (sym m.2) ∙ t m.0 ∙ ap (λ x. front ++ x) b.0 ∙ sym p, ap is_plain_name (sym m.2) ∙ g m.0 ∙ b.1)

sized_back : (w : List ℕ) (n : ℕ) → number (natural_of w) ≡ Some n → (decimal n ≡ w) × (is_natural n ≡ true)
sized_back w n e = natural_back w n (number_back (natural_of w) n e)

placed_back : (w : List ℕ) (d : Dimension) → dimension_of w ≡ Some d → (dimension_text d ≡ w) × (true ≡ true)
placed_back w d e = (dimension_back w d e, refl)

dimensional_back : (w : List ℕ) (n : Name) → dimensional_of w ≡ Some n → (name_text n ≡ w) × (is_plain_name n ≡ true)
unfolding dimensional_of
dimensional_back w n e = elim (by_front w (codes "groups.") _ _ n e) [
  | inl h ↦ behind Groups (codes "groups.") (drop 7 w) w (dimension_of (drop 7 w)) dimension_text (λ _. true) n h.0 (λ _. refl) (λ _. refl) (placed_back (drop 7 w)) h.1
  | inr f ↦ elim (by_front w (codes "group.") _ _ n f) [
    | inl h ↦ behind Group (codes "group.") (drop 6 w) w (dimension_of (drop 6 w)) dimension_text (λ _. true) n h.0 (λ _. refl) (λ _. refl) (placed_back (drop 6 w)) h.1
    | inr g ↦ elim (by_front w (codes "local.") _ _ n g) [
      | inl h ↦ behind Local (codes "local.") (drop 6 w) w (dimension_of (drop 6 w)) dimension_text (λ _. true) n h.0 (λ _. refl) (λ _. refl) (placed_back (drop 6 w)) h.1
      | inr k ↦ behind Variable [] w w (identifier_of w) (λ s. s) is_identifier n refl (λ _. refl) (λ _. refl) (identifier_back w) k
    ]
  ]
]

pub name_back : (w : List ℕ) (n : Name) → name_of w ≡ Some n → (name_text n ≡ w) × (is_plain_name n ≡ true)
unfolding name_of
name_back w n e = elim (by_front w (codes "@") _ _ n e) [
  | inl h ↦ behind AtAnchor (codes "@") (drop 1 w) w (identifier_of (drop 1 w)) (λ s. s) is_identifier n h.0 (λ _. refl) (λ _. refl) (identifier_back (drop 1 w)) h.1
  | inr f ↦ elim (by_front w (codes "$") _ _ n f) [
    | inl h ↦ behind Turns (codes "$") (drop 1 w) w (number (natural_of (drop 1 w))) decimal is_natural n h.0 (λ _. refl) (λ _. refl) (sized_back (drop 1 w)) h.1
    | inr g ↦ elim (by_front w (codes "#") _ _ n g) [
      | inl h ↦ behind Fresh (codes "#") (drop 1 w) w (number (natural_of (drop 1 w))) decimal is_natural n h.0 (λ _. refl) (λ _. refl) (sized_back (drop 1 w)) h.1
      | inr k ↦ elim (by_front w (codes "arg.") _ _ n k) [
        | inl h ↦ behind Argument (codes "arg.") (drop 4 w) w (identifier_of (drop 4 w)) (λ s. s) is_identifier n h.0 (λ _. refl) (λ _. refl) (identifier_back (drop 4 w)) h.1
        | inr l ↦ elim (by_front w (codes "len.") _ _ n l) [
          | inl h ↦ behind Length (codes "len.") (drop 4 w) w (identifier_of (drop 4 w)) (λ s. s) is_identifier n h.0 (λ _. refl) (λ _. refl) (identifier_back (drop 4 w)) h.1
          | inr m ↦ dimensional_back w n m
        ]
      ]
    ]
  ]
]

pub three : (a b c : Bool) → a ≡ true → b ≡ true → c ≡ true → (a && (b && c)) ≡ true
three a b c p q r = rw (p, q, r) refl

plain_factor : (n : Name) → is_plain_name n ≡ true → is_factor n ≡ true
plain_factor (Variable s) h = h
plain_factor (AtAnchor s) h = h
plain_factor (Turns k) h = h
plain_factor (Fresh k) h = h
plain_factor (Argument s) h = h
plain_factor (Length s) h = h
plain_factor (Groups d) h = h
plain_factor (Group d) h = h
plain_factor (Local d) h = h
plain_factor (Second m) h = absurd (false≢true h)
plain_factor (Product l m) h = absurd (false≢true h)

factor_name : (n : Name) → is_factor n ≡ true → is_name n ≡ true
factor_name (Variable s) h = h
factor_name (AtAnchor s) h = h
factor_name (Turns k) h = h
factor_name (Fresh k) h = h
factor_name (Argument s) h = h
factor_name (Length s) h = h
factor_name (Groups d) h = h
factor_name (Group d) h = h
factor_name (Local d) h = h
factor_name (Second m) h = h
factor_name (Product l m) h = absurd (false≢true h)

-- two names that have a product are one
pair_name : (l m : Name) → is_pair l m ≡ true → is_name (Product l m) ≡ true
pair_name l (Variable s) h = h
pair_name l (AtAnchor s) h = h
pair_name l (Turns k) h = h
pair_name l (Fresh k) h = h
pair_name l (Argument s) h = h
pair_name l (Length s) h = h
pair_name l (Groups d) h = h
pair_name l (Group d) h = h
pair_name l (Local d) h = h
pair_name l (Second m) h = h
pair_name l (Product m n) h = absurd (false≢true (both (is_factor l) false h).1)

factor_cut : (w word : List ℕ) (behind : List (List ℕ)) (n : Name) → w ≡ word ++ parted 39 behind → cond (is_empty behind) (name_of word) (second_of word behind) ≡ Some n → (name_text n ≡ w) × (is_factor n ≡ true)
factor_cut w word [] n p e = let b = name_back word n e in (b.0 ∙ sym (append-nil word) ∙ sym p, plain_factor n b.1)
factor_cut w word (rest ∷ others) n p e =
    let s = then_back (sole (rest ∷ others)) _ n e in
    let c = cond_back (is_empty s.0) (option_map Second (name_of word)) n s.2 in
    let m = map_back Second (name_of word) n c.1 in
    let b = name_back word m.0 m.1 in
    let behind : rest ∷ others ≡ [] ∷ [] = sole_back (rest ∷ others) s.0 s.1 ∙ ap (λ r. r ∷ []) (none_left s.0 c.0) in
    (ap name_text (sym m.2) ∙ ap (λ t. t ++ codes "'") b.0 ∙ ap (λ r. word ++ parted 39 r) (sym behind) ∙ sym p, ap is_factor (sym m.2) ∙ b.1)

factor_back : (w : List ℕ) (n : Name) → factor_of w ≡ Some n → (name_text n ≡ w) × (is_factor n ≡ true)
factor_back w n e =
    let a = then_back (first (pieces 39 w)) _ n e in
    factor_cut w a.0.0 a.0.1 n (pieces_back 39 w a.0.0 a.0.1 (first_back (pieces 39 w) a.0 a.1)) a.2

order_back : (a b : List ℕ) (m n : Name) → name_text m ≡ a → name_text n ≡ b → in_order a b ≡ true → names_rise m n ≡ true
order_back a b m n p q h = ap (λ t. in_order t (name_text n)) p ∙ ap (in_order a) q ∙ h

pair_back : (a b : List ℕ) (p : Name) → pair_of a b ≡ Some p → (m n : Name) × (Product m n ≡ p) × (name_text m ≡ a) × (name_text n ≡ b) × (is_pair m n ≡ true)
pair_back a b p e =
    let m = then_back (factor_of a) _ p e in
    let n = then_back (factor_of b) _ p m.2 in
    let w = when_back (in_order a b) (Product m.0 n.0) p n.2 in
    let f = factor_back a m.0 m.1 in
    let g = factor_back b n.0 n.1 in
    (m.0, n.0, w.1, f.0, g.0, three (is_factor m.0) (is_factor n.0) (names_rise m.0 n.0) f.1 g.1 (order_back a b m.0 n.0 f.0 g.0 w.0))

two_names : (a b : List ℕ) (p : Name) → pair_of a b ≡ Some p → (name_text p ≡ a ++ (42 ∷ b)) × (is_name p ≡ true)
two_names a b p e =
    let r = pair_back a b p e in
    (ap name_text (sym r.2) ∙ ap (λ t. t ++ (42 ∷ name_text r.1)) r.3 ∙ ap (λ t. a ++ (42 ∷ t)) r.4, ap is_name (sym r.2) ∙ pair_name r.0 r.1 r.5)

three_names : (a b c : List ℕ) (p : Name) → triple_of a b c ≡ Some p → (name_text p ≡ a ++ (42 ∷ (b ++ (42 ∷ c)))) × (is_name p ≡ true)
three_names a b c p e =
    let l = then_back (factor_of a) _ p e in
    let q = then_back (pair_of b c) _ p l.2 in
    let w = when_back (in_order a b) (Product l.0 q.0) p q.2 in
    let f = factor_back a l.0 l.1 in
    let r = pair_back b c q.0 q.1 in
    let whole : Product l.0 (Product r.0 r.1) ≡ p = ap (Product l.0) r.2 ∙ w.1 in (
      ap name_text (sym whole) ∙ ap (λ t. t ++ (42 ∷ (name_text r.0 ++ (42 ∷ name_text r.1)))) f.0 ∙ ap (λ t. a ++ (42 ∷ (t ++ (42 ∷ name_text r.1)))) r.3 ∙ ap (λ t. a ++ (42 ∷ (b ++ (42 ∷ t)))) r.4,
      ap is_name (sym whole) ∙ three (is_factor l.0) (is_pair r.0 r.1) (names_rise l.0 r.0) f.1 r.5 (order_back a b l.0 r.0 f.0 r.3 w.0),
    )

names_back : (ws : List (List ℕ)) (n : Name) → names_of ws ≡ Some n → (parted 42 ws ≡ 42 ∷ name_text n) × (is_name n ≡ true)
names_back [] n e = absurd cc
names_back (a ∷ []) n e = let b = factor_back a n e in (ap (λ t. 42 ∷ t) (append-nil a ∙ sym b.0), factor_name n b.1)
names_back (a ∷ b ∷ []) n e = let r = two_names a b n e in (ap (λ t. 42 ∷ (a ++ (42 ∷ t))) (append-nil b) ∙ ap (λ t. 42 ∷ t) (sym r.0), r.1)
names_back (a ∷ b ∷ c ∷ []) n e =
    let r = three_names a b c n e in (ap (λ t. 42 ∷ (a ++ (42 ∷ (b ++ (42 ∷ t))))) (append-nil c) ∙ ap (λ t. 42 ∷ t) (sym r.0), r.1)
names_back (a ∷ b ∷ c ∷ d ∷ others) n e = absurd cc

term_back : (word : List ℕ) (t : Weighted Name) → term_of word ≡ Some t → (word ≡ signed_decimal t.coefficient ++ (42 ∷ name_text t.symbol)) × (is_term t ≡ true)
term_back word t e =
    let a = then_back (first (pieces 42 word)) _ t e in
    let c = then_back (number (integer_of a.0.0)) _ t a.2 in
    let n = then_back (names_of a.0.1) _ t c.2 in
    let w = when_back (not (int_eq c.0 (pos 0))) (weighted c.0 n.0) t n.2 in
    let i = integer_back a.0.0 c.0 (number_back (integer_of a.0.0) c.0 c.1) in
    let m = names_back a.0.1 n.0 n.1 in (
      pieces_back 42 word a.0.0 a.0.1 (first_back (pieces 42 word) a.0 a.1) ∙ ap (λ r. a.0.0 ++ r) m.0 ∙ ap (λ r. r ++ (42 ∷ name_text n.0)) (sym i.0)
          ∙ ap (λ (u : Weighted Name). signed_decimal u.coefficient ++ (42 ∷ name_text u.symbol)) w.1,
      ap is_term (sym w.1) ∙ three (is_integer c.0) (not (int_eq c.0 (pos 0))) (is_name n.0) i.1 w.0 m.1,
    )

-- a term and its sign, before the rest
term_front : (a n x : List ℕ) → (a ++ (42 ∷ n)) ++ (32 ∷ (43 ∷ (32 ∷ x))) ≡ (a ++ (codes "*" ++ (n ++ codes " + "))) ++ x
term_front a n x = simp append_assoc

term_spaced : (word sign : List ℕ) (others : List (List ℕ)) (t : Weighted Name) (x : List ℕ) → word ≡ signed_decimal t.coefficient ++ (42 ∷ name_text t.symbol) → sign ≡ codes "+" → spaced others ≡ 32 ∷ x → spaced (word ∷ sign ∷ others) ≡ 32 ∷ (term_text t ++ x)
term_spaced word sign others t x p q r =
    ap (λ w. 32 ∷ (w ++ (32 ∷ (sign ++ spaced others)))) p
    ∙ ap (λ w. 32 ∷ ((signed_decimal t.coefficient ++ (42 ∷ name_text t.symbol)) ++ (32 ∷ (w ++ spaced others)))) q
    ∙ ap (λ w. 32 ∷ ((signed_decimal t.coefficient ++ (42 ∷ name_text t.symbol)) ++ (32 ∷ (43 ∷ w)))) r
    ∙ ap (λ w. 32 ∷ w) (term_front (signed_decimal t.coefficient) (name_text t.symbol) x)

terms_push : (ts : List (Weighted Name)) (t : Weighted Name) (x : List ℕ) → flat_map term_text (ts ++ t ∷ []) ++ x ≡ flat_map term_text ts ++ (term_text t ++ x)
terms_push ts t x =
    ap (λ w. w ++ x) (flat_map-append term_text ts (t ∷ []) ∙ ap (λ w. flat_map term_text ts ++ w) (append-nil (term_text t)))
    ∙ append_assoc (flat_map term_text ts) (term_text t) x

pub form_back : (ts : List (Weighted Name)) (ws : List (List ℕ)) (f : Form Name) → all is_term ts ≡ true → rises term_is_before ts ≡ true → form_of ts ws ≡ Some f → (x : List ℕ) × (spaced ws ≡ 32 ∷ x) × (form_text f ≡ flat_map term_text ts ++ x) × (is_form f ≡ true)
unfolding form_of
form_back ts [] f good up e = absurd cc
form_back ts (word ∷ []) f good up e =
    let m = map_back (form ts) (number (integer_of word)) f e in
    let i = integer_back word m.0 (number_back (integer_of word) m.0 m.1) in
    (word, ap (λ t. 32 ∷ t) (append-nil word), ap form_text (sym m.2) ∙ ap (λ t. flat_map term_text ts ++ t) i.0, ap is_form (sym m.2) ∙ three (all is_term ts) (rises term_is_before ts) (is_integer m.0) good up i.1)
form_back ts (word ∷ sign ∷ others) f good up e =
    let t = then_back (term_of word) _ f e in
    let c = cond_back (bytes_eq sign (codes "+") && follows term_is_before ts t.0) (form_of (ts ++ t.0 ∷ []) others) f t.2 in
    let s = both (bytes_eq sign (codes "+")) (follows term_is_before ts t.0) c.0 in
    let r = term_back word t.0 t.1 in
    let h = form_back (ts ++ t.0 ∷ []) others f (all_push is_term ts t.0 good r.1) (rises_push term_is_before ts t.0 up s.1) c.1 in
    (term_text t.0 ++ h.0, term_spaced word sign others t.0 h.0 r.0 ((bytes_eq-Decides sign (codes "+")).0 s.0) h.1, h.2 ∙ terms_push ts t.0 h.0, h.3)
