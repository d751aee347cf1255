-- What a line says, but for its first word, is written as it is read.
use Rattle.std.proofs.Common.{◌≡◌, ℕ, Bool, true, not, ◌&&◌, List, [], ◌∷◌, ◌++◌, drop, Option, None, Some, refl, ap, sym, ◌∙◌, append_assoc, inl, inr}
use Rattle.std.specs.Prelude.{codes, bytes_eq, nat_le}
use Rattle.std.specs.List.{flat_map}
use Rattle.std.specs.Fmt.{decimal, signed_decimal}
use Rattle.std.proofs.lemmas.List.{append-nil}
use Rattle.std.proofs.lemmas.Grind.{flat_map-append}
use Rattle.linear.specs.Linear.{Form}
use Rattle.lines.specs.Lines.{is_empty, pieces, first, sole, two, natural_of, integer_of, follows}
use Rattle.certificate_text.specs.Certificate.{Name, Anchor, KernelEntry, Barrier, Spot, Congruence, Multiple, Descent, Down, Halve, Double, Bound, EntrySort, Show, Positive, Negative, Quotient, Scaled, Step, Given, Sum, Divide, Product}
use Rattle.certificate_text.specs.Text.{form_text, anchor_text, head_text, place_line, congruence_line, multiple_line, descent_text, bound_line, sort_text, scaled_text, step_line}
use Rattle.certificate_text.specs.Forms.{number, form, constant_of, form_of}
use Rattle.certificate_text.specs.Lines.{Item, PlaceItem, SameItem, FactItem, CongruenceItem, MultipleItem, BoundItem, EntryItem, LemmaItem, MainItem, StepItem, EndItem, at_least, anchor_of, head_of, spot_of, congruence_of, multiple_of, descent_of, bound_of, plain_sort, sort_of, entry_of, scaled_of, line_is_before, sum_of, given_of, divide_of, product_of}
use Rattle.certificate_text.specs.Items.{item_line}
use Rattle.certificate_text.specs.Rules.{all, rises, is_form, is_anchor, is_head, is_spot, is_congruence, is_multiple, is_descent, is_bound, is_sort, is_scaled, is_step}
use Rattle.lines.specs.Lines.{is_natural, is_integer}
use Rattle.std.proofs.lemmas.Slice.Eq.{bytes_eq-Decides}
use Rattle.lines.proofs.Decimals.{natural_back, integer_back}
use Rattle.certificate_text.proofs.Cuts.{parted, spaced, pieces_back, then_back, map_back, when_back, cond_back, number_back, first_back, sole_back, two_back, none_left, by_word, by_front, all_push, rises_push}
use Rattle.certificate_text.proofs.FormsRead.{form_back, three}
use Rattle.lines.specs.Identifiers as identifiers

-- a form without terms
abbrev pub is_constant : Form Name → Bool
is_constant f = is_empty f.terms && is_integer f.constant

-- an item whose line is read: the forms of a multiple are numbers
abbrev pub is_item : Item → Bool
is_item (PlaceItem s) = is_spot s
is_item (SameItem name) = identifiers.is_identifier name
is_item (FactItem f) = is_form f
is_item (CongruenceItem c) = is_congruence c
is_item (MultipleItem m) = is_constant m.form && is_constant m.of
is_item (BoundItem b) = is_bound b
is_item (EntryItem n sort) = (is_natural n && nat_le 1 n) && is_sort sort
is_item (LemmaItem f) = is_form f
is_item MainItem = true
is_item (StepItem s) = is_step s
is_item EndItem = true

-- an item of a certificate that can be written
abbrev pub is_part : Item → Bool
is_part (PlaceItem s) = is_spot s
is_part (SameItem name) = identifiers.is_identifier name
is_part (FactItem f) = is_form f
is_part (CongruenceItem c) = is_congruence c
is_part (MultipleItem m) = is_multiple m
is_part (BoundItem b) = is_bound b
is_part (EntryItem n sort) = (is_natural n && nat_le 1 n) && is_sort sort
is_part (LemmaItem f) = is_form f
is_part MainItem = true
is_part (StepItem s) = is_step s
is_part EndItem = true

pub same : {A : Type 0} (a b : A) → Some a ≡ Some b → a ≡ b
same a b e = cc

pub andt : (a b : Bool) → a ≡ true → b ≡ true → (a && b) ≡ true
andt a b p q = rw (p, q) refl

-- a word, its text, and what follows it
word_front : (ws : List (List ℕ)) (w : List ℕ) (rest : List (List ℕ)) (t x : List ℕ) → ws ≡ w ∷ rest → t ≡ w → spaced rest ≡ x → spaced ws ≡ 32 ∷ (t ++ x)
word_front ws w rest t x e p q = ap spaced e ∙ ap (λ u. 32 ∷ (u ++ spaced rest)) (sym p) ∙ ap (λ y. 32 ∷ (t ++ y)) q

pub whole_back : (ws : List (List ℕ)) (f : Form Name) → form_of [] ws ≡ Some f → (spaced ws ≡ 32 ∷ form_text f) × (is_form f ≡ true)
whole_back ws f e = let h = form_back [] ws f refl refl e in (h.1 ∙ ap (λ t. 32 ∷ t) (sym h.2), h.3)

least_back : (k : ℕ) (w : List ℕ) (n : ℕ) → at_least k (natural_of w) ≡ Some n → (decimal n ≡ w) × (is_natural n ≡ true) × (nat_le k n ≡ true)
least_back k w n e =
    let a = then_back (number (natural_of w)) _ n e in
    let h = when_back (nat_le k a.0) a.0 n a.2 in
    let b = natural_back w a.0 (number_back (natural_of w) a.0 a.1) in
    (ap decimal (sym h.1) ∙ b.0, ap is_natural (sym h.1) ∙ b.1, ap (nat_le k) (sym h.1) ∙ h.0)

pub congruence_back : (ws : List (List ℕ)) (c : Congruence) → congruence_of ws ≡ Some c → (codes "mod" ++ spaced ws ≡ congruence_line c) × (is_congruence c ≡ true)
unfolding congruence_of
congruence_back ws c e =
    let a = then_back (first ws) _ c e in
    let m = then_back (at_least 2 (natural_of a.0.0)) _ c a.2 in
    let f = then_back (form_of [] a.0.1) _ c m.2 in
    let made : Congruence = record { modulus = m.0; form = f.0 } in
    let q : made ≡ c = same made c f.2 in
    let n = least_back 2 a.0.0 m.0 m.1 in
    let g = whole_back a.0.1 f.0 f.1 in (
      ap (λ t. codes "mod" ++ t) (word_front ws a.0.0 a.0.1 (decimal m.0) (32 ∷ form_text f.0) (first_back ws a.0 a.1) n.0 g.0) ∙ ap congruence_line q,
      ap is_congruence (sym q) ∙ three (is_natural m.0) (nat_le 2 m.0) (is_form f.0) n.1 n.2 g.1,
    )

constant_back : (w : List ℕ) (f : Form Name) → constant_of [] w ≡ Some f → (form_text f ≡ w) × (is_constant f ≡ true)
constant_back w f e =
    let m = map_back (form []) (number (integer_of w)) f e in
    let i = integer_back w m.0 (number_back (integer_of w) m.0 m.1) in
    (ap form_text (sym m.2) ∙ i.0, ap is_constant (sym m.2) ∙ i.1)

pub multiple_back : (ws : List (List ℕ)) (m : Multiple) → multiple_of ws ≡ Some m → (codes "multiple" ++ spaced ws ≡ multiple_line m) × (is_item (MultipleItem m) ≡ true)
unfolding multiple_of
multiple_back ws m e =
    let a = then_back (first ws) _ m e in
    let b = then_back (two a.0.1) _ m a.2 in
    let c = cond_back (bytes_eq b.0.0 (codes "of")) _ m b.2 in
    let f = then_back (constant_of [] a.0.0) _ m c.1 in
    let g = then_back (constant_of [] b.0.1) _ m f.2 in
    let made : Multiple = record { of = g.0; form = f.0 } in
    let q : made ≡ m = same made m g.2 in
    let x = constant_back a.0.0 f.0 f.1 in
    let y = constant_back b.0.1 g.0 g.1 in
    let tail : spaced a.0.1 ≡ codes " of " ++ form_text g.0 =
    ap spaced (two_back a.0.1 b.0 b.1) ∙ ap (λ t. 32 ∷ (t ++ (32 ∷ (b.0.1 ++ [])))) ((bytes_eq-Decides b.0.0 (codes "of")).0 c.0) ∙ ap (λ t. codes " of " ++ t) (append-nil b.0.1 ∙ sym y.0)
    in (
      ap (λ t. codes "multiple" ++ t) (word_front ws a.0.0 a.0.1 (form_text f.0) (codes " of " ++ form_text g.0) (first_back ws a.0 a.1) x.0 tail) ∙ ap multiple_line q,
      ap (λ v. is_item (MultipleItem v)) (sym q) ∙ andt (is_constant f.0) (is_constant g.0) x.1 y.1,
    )

anchor_back : (w : List ℕ) (a : Anchor) → anchor_of w ≡ Some a → (anchor_text a ≡ w) × (is_anchor a ≡ true)
anchor_back w a e = elim (by_word w (codes "entry") _ _ a e) [
  | inl h ↦ let q : KernelEntry ≡ a = cc in (ap anchor_text (sym q) ∙ sym h.0, ap is_anchor (sym q))
  | inr f ↦ elim (by_front w (codes "b") _ _ a f) [
    | inl h ↦ let m = map_back Barrier (number (natural_of (drop 1 w))) a h.1 in
        let n = natural_back (drop 1 w) m.0 (number_back (natural_of (drop 1 w)) m.0 m.1) in
        (ap anchor_text (sym m.2) ∙ ap (λ t. 98 ∷ t) n.0 ∙ sym h.0, ap is_anchor (sym m.2) ∙ n.1)
    | inr g ↦ absurd cc
  ]
]

head_back : (ws : List (List ℕ)) (h : Option ℕ) → head_of ws ≡ Some h → (head_text h ≡ parted 47 ws) × (is_head h ≡ true)
head_back [] h e = let q : None ≡ h = cc in (ap head_text (sym q), ap is_head (sym q))
head_back (w ∷ []) h e = elim (by_front w (codes "h") _ _ h e) [
  | inl k ↦ let m = map_back Some (number (natural_of (drop 1 w))) h k.1 in
      let n = natural_back (drop 1 w) m.0 (number_back (natural_of (drop 1 w)) m.0 m.1) in
      (ap head_text (sym m.2) ∙ ap (λ t. 47 ∷ (104 ∷ t)) n.0 ∙ ap (λ t. 47 ∷ t) (sym k.0) ∙ sym (append-nil (47 ∷ w)), ap is_head (sym m.2) ∙ n.1)
  | inr g ↦ absurd cc
]
head_back (w ∷ v ∷ ws) h e = absurd cc

pub spot_back : (word : List ℕ) (s : Spot) → spot_of (pieces 47 word) ≡ Some s → (place_line s ≡ codes "place " ++ word) × (is_spot s ≡ true)
spot_back word s e =
    let w = then_back (first (pieces 47 word)) _ s e in
    let a = then_back (anchor_of w.0.0) _ s w.2 in
    let h = then_back (head_of w.0.1) _ s a.2 in
    let made : Spot = record { anchor = a.0; head = h.0 } in
    let q : made ≡ s = same made s h.2 in
    let b = anchor_back w.0.0 a.0 a.1 in
    let c = head_back w.0.1 h.0 h.1 in (
      ap place_line (sym q) ∙ ap (λ t. codes "place " ++ (t ++ head_text h.0)) b.0 ∙ ap (λ t. codes "place " ++ (w.0.0 ++ t)) c.0 ∙ ap (λ t. codes "place " ++ t) (sym (pieces_back 47 word w.0.0 w.0.1 (first_back (pieces 47 word) w.0 w.1))),
      ap is_spot (sym q) ∙ andt (is_anchor a.0) (is_head h.0) b.1 c.1,
    )

descent_back : (w : List ℕ) (ws : List (List ℕ)) (d : Descent × List (List ℕ)) → descent_of w ws ≡ Some d → (w ++ spaced ws ≡ descent_text d.0 ++ spaced d.1) × (is_descent d.0 ≡ true)
descent_back w ws d e = elim (by_word w (codes "down") _ _ d e) [
  | inl h ↦ let a = then_back (first ws) _ d h.1 in
      let n = then_back (at_least 1 (natural_of a.0.0)) _ d a.2 in
      let made : Descent × List (List ℕ) = (Down n.0, a.0.1) in
      let q : made ≡ d = cc in
      let l = least_back 1 a.0.0 n.0 n.1 in (
        ap (λ t. t ++ spaced ws) h.0 ∙ ap (λ t. codes "down" ++ t) (word_front ws a.0.0 a.0.1 (decimal n.0) (spaced a.0.1) (first_back ws a.0 a.1) l.0 refl) ∙ ap (λ (r : Descent × List (List ℕ)). descent_text r.0 ++ spaced r.1) q,
        ap (λ (r : Descent × List (List ℕ)). is_descent r.0) (sym q) ∙ andt (is_natural n.0) (nat_le 1 n.0) l.1 l.2,
      )
  | inr f ↦ elim (by_word w (codes "halve") _ _ d f) [
    | inl h ↦ let made : Descent × List (List ℕ) = (Halve, ws) in
        let q : made ≡ d = cc in
        (ap (λ t. t ++ spaced ws) h.0 ∙ ap (λ (r : Descent × List (List ℕ)). descent_text r.0 ++ spaced r.1) q, ap (λ (r : Descent × List (List ℕ)). is_descent r.0) (sym q))
    | inr g ↦ elim (by_word w (codes "double") _ _ d g) [
      | inl h ↦ let a = then_back (first ws) _ d h.1 in
          let n = then_back (at_least 1 (natural_of a.0.0)) _ d a.2 in
          let made : Descent × List (List ℕ) = (Double n.0, a.0.1) in
          let q : made ≡ d = cc in
          let l = least_back 1 a.0.0 n.0 n.1 in (
            ap (λ t. t ++ spaced ws) h.0 ∙ ap (λ t. codes "double" ++ t) (word_front ws a.0.0 a.0.1 (decimal n.0) (spaced a.0.1) (first_back ws a.0 a.1) l.0 refl) ∙ ap (λ (r : Descent × List (List ℕ)). descent_text r.0 ++ spaced r.1) q,
            ap (λ (r : Descent × List (List ℕ)). is_descent r.0) (sym q) ∙ andt (is_natural n.0) (nat_le 1 n.0) l.1 l.2,
          )
      | inr k ↦ absurd cc
    ]
  ]
]

pub bound_back : (ws : List (List ℕ)) (b : Bound) → bound_of ws ≡ Some b → (codes "loop" ++ spaced ws ≡ bound_line b) × (is_bound b ≡ true)
unfolding bound_of
bound_back ws b e =
    let a = then_back (first ws) _ b e in
    let n = then_back (number (natural_of a.0.0)) _ b a.2 in
    let s = then_back (first a.0.1) _ b n.2 in
    let d = then_back (descent_of s.0.0 s.0.1) _ b s.2 in
    let c = then_back (first d.0.1) _ b d.2 in
    let m = then_back (number (integer_of c.0.0)) _ b c.2 in
    let f = then_back (form_of [] c.0.1) _ b m.2 in
    let made : Bound = record { loop = n.0; descent = d.0.0; most = m.0; form = f.0 } in
    let q : made ≡ b = same made b f.2 in
    let nb = natural_back a.0.0 n.0 (number_back (natural_of a.0.0) n.0 n.1) in
    let db = descent_back s.0.0 s.0.1 d.0 d.1 in
    let mb = integer_back c.0.0 m.0 (number_back (integer_of c.0.0) m.0 m.1) in
    let fb = whole_back c.0.1 f.0 f.1 in
    let tail = word_front d.0.1 c.0.0 c.0.1 (signed_decimal m.0) (32 ∷ form_text f.0) (first_back d.0.1 c.0 c.1) mb.0 fb.0 in
    let middle : spaced a.0.1 ≡ 32 ∷ (descent_text d.0.0 ++ (32 ∷ (signed_decimal m.0 ++ (32 ∷ form_text f.0)))) = ap spaced (first_back a.0.1 s.0 s.1) ∙ ap (λ t. 32 ∷ t) db.0 ∙ ap (λ t. 32 ∷ (descent_text d.0.0 ++ t)) tail in (
      ap (λ t. codes "loop" ++ t) (word_front ws a.0.0 a.0.1 (decimal n.0) _ (first_back ws a.0 a.1) nb.0 middle) ∙ ap bound_line q,
      ap is_bound (sym q) ∙ andt (is_natural n.0) _ nb.1 (three (is_descent d.0.0) (is_integer m.0) (is_form f.0) db.1 mb.1 fb.1),
    )

plain_back : (w : List ℕ) (c : EntrySort) → plain_sort w ≡ Some c → (sort_text c ≡ w) × (is_sort c ≡ true)
plain_back w c e = elim (by_word w (codes "show") _ _ c e) [
  | inl h ↦ let q : Show ≡ c = cc in (ap sort_text (sym q) ∙ sym h.0, ap is_sort (sym q))
  | inr f ↦ elim (by_word w (codes "pos") _ _ c f) [
    | inl h ↦ let q : Positive ≡ c = cc in (ap sort_text (sym q) ∙ sym h.0, ap is_sort (sym q))
    | inr g ↦ elim (by_word w (codes "neg") _ _ c g) [
      | inl h ↦ let q : Negative ≡ c = cc in (ap sort_text (sym q) ∙ sym h.0, ap is_sort (sym q))
      | inr k ↦ absurd cc
    ]
  ]
]

sort_back : (w : List ℕ) (ws : List (List ℕ)) (c : EntrySort) → sort_of w ws ≡ Some c → (w ++ spaced ws ≡ sort_text c) × (is_sort c ≡ true)
sort_back w ws c e = elim (by_word w (codes "quot") _ _ c e) [
  | inl h ↦ let m = map_back Quotient (form_of [] ws) c h.1 in
      let f = whole_back ws m.0 m.1 in
      (ap (λ t. t ++ spaced ws) h.0 ∙ ap (λ t. codes "quot" ++ t) f.0 ∙ ap sort_text m.2, ap is_sort (sym m.2) ∙ f.1)
  | inr g ↦ let p = cond_back (is_empty ws) (plain_sort w) c g in
      let b = plain_back w c p.1 in
      (ap (λ t. w ++ spaced t) (none_left ws p.0) ∙ append-nil w ∙ sym b.0, b.1)
]

pub entry_back : (ws : List (List ℕ)) (i : Item) → entry_of ws ≡ Some i → (codes "ob" ++ spaced ws ≡ item_line i) × (is_item i ≡ true)
unfolding entry_of
entry_back ws i e =
    let a = then_back (first ws) _ i e in
    let n = then_back (at_least 1 (natural_of a.0.0)) _ i a.2 in
    let b = then_back (first a.0.1) _ i n.2 in
    let c = then_back (sort_of b.0.0 b.0.1) _ i b.2 in
    let made : Item = EntryItem n.0 c.0 in
    let q : made ≡ i = same made i c.2 in
    let nb = least_back 1 a.0.0 n.0 n.1 in
    let cb = sort_back b.0.0 b.0.1 c.0 c.1 in (
      ap (λ t. codes "ob" ++ t) (word_front ws a.0.0 a.0.1 (decimal n.0) (32 ∷ sort_text c.0) (first_back ws a.0 a.1) nb.0 (ap spaced (first_back a.0.1 b.0 b.1) ∙ ap (λ t. 32 ∷ t) cb.0)) ∙ ap item_line q,
      ap is_item (sym q) ∙ andt _ (is_sort c.0) (andt (is_natural n.0) (nat_le 1 n.0) nb.1 nb.2) cb.1,
    )

scaled_back : (f l : List ℕ) (s : Scaled) → scaled_of f l ≡ Some s → (signed_decimal s.factor ≡ f) × (signed_decimal s.line ≡ l) × (is_scaled s ≡ true)
scaled_back f l s e =
    let a = then_back (number (integer_of f)) _ s e in
    let b = then_back (number (integer_of l)) _ s a.2 in
    let made : Scaled = record { factor = a.0; line = b.0 } in
    let q : made ≡ s = same made s b.2 in
    let x = integer_back f a.0 (number_back (integer_of f) a.0 a.1) in
    let y = integer_back l b.0 (number_back (integer_of l) b.0 b.1) in
    (ap (λ (t : Scaled). signed_decimal t.factor) (sym q) ∙ x.0, ap (λ (t : Scaled). signed_decimal t.line) (sym q) ∙ y.0, ap is_scaled (sym q) ∙ andt (is_integer a.0) (is_integer b.0) x.1 y.1)

scaled_front : (f l : List ℕ) (others : List (List ℕ)) (s : Scaled) → signed_decimal s.factor ≡ f → signed_decimal s.line ≡ l → spaced (f ∷ l ∷ others) ≡ scaled_text s ++ spaced others
scaled_front f l others s p q =
    ap (λ t. 32 ∷ (t ++ (32 ∷ (l ++ spaced others)))) (sym p) ∙ ap (λ t. 32 ∷ (signed_decimal s.factor ++ (32 ∷ (t ++ spaced others)))) (sym q)
    ∙ ap (λ t. 32 ∷ t) (sym (append_assoc (signed_decimal s.factor) (32 ∷ signed_decimal s.line) (spaced others)))

parts_push : (parts : List Scaled) (s : Scaled) (x : List ℕ) → flat_map scaled_text (parts ++ s ∷ []) ++ x ≡ flat_map scaled_text parts ++ (scaled_text s ++ x)
parts_push parts s x =
    ap (λ w. w ++ x) (flat_map-append scaled_text parts (s ∷ []) ∙ ap (λ w. flat_map scaled_text parts ++ w) (append-nil (scaled_text s)))
    ∙ append_assoc (flat_map scaled_text parts) (scaled_text s) x

pub sum_back : (parts : List Scaled) (ws : List (List ℕ)) (s : Step) → all is_scaled parts ≡ true → rises line_is_before parts ≡ true → sum_of parts ws ≡ Some s → (codes "s" ++ (flat_map scaled_text parts ++ spaced ws) ≡ step_line s) × (is_step s ≡ true)
unfolding sum_of
sum_back parts [] s good up e =
    let h = when_back (not (is_empty parts)) (Sum parts) s e in
    (ap (λ t. codes "s" ++ t) (append-nil (flat_map scaled_text parts)) ∙ ap step_line h.1, ap is_step (sym h.1) ∙ three (all is_scaled parts) (rises line_is_before parts) (not (is_empty parts)) good up h.0)
sum_back parts (f ∷ []) s good up e = absurd cc
sum_back parts (f ∷ l ∷ others) s good up e =
    let p = then_back (scaled_of f l) _ s e in
    let c = cond_back (follows line_is_before parts p.0) (sum_of (parts ++ p.0 ∷ []) others) s p.2 in
    let b = scaled_back f l p.0 p.1 in
    let h = sum_back (parts ++ p.0 ∷ []) others s (all_push is_scaled parts p.0 good b.2) (rises_push line_is_before parts p.0 up c.0) c.1 in
    (ap (λ t. codes "s" ++ (flat_map scaled_text parts ++ t)) (scaled_front f l others p.0 b.0 b.1) ∙ ap (λ t. codes "s" ++ t) (sym (parts_push parts p.0 (spaced others))) ∙ h.0, h.1)

pub given_back : (ws : List (List ℕ)) (s : Step) → given_of ws ≡ Some s → (codes "g" ++ spaced ws ≡ step_line s) × (is_step s ≡ true)
given_back ws s e =
    let w = then_back (sole ws) _ s e in
    let m = map_back Given (number (integer_of w.0)) s w.2 in
    let i = integer_back w.0 m.0 (number_back (integer_of w.0) m.0 m.1) in
    (ap (λ t. codes "g" ++ spaced t) (sole_back ws w.0 w.1) ∙ ap (λ t. codes "g" ++ (32 ∷ t)) (append-nil w.0 ∙ sym i.0) ∙ ap step_line m.2, ap is_step (sym m.2) ∙ i.1)

pub divide_back : (ws : List (List ℕ)) (s : Step) → divide_of ws ≡ Some s → (codes "d" ++ spaced ws ≡ step_line s) × (is_step s ≡ true)
divide_back ws s e =
    let w = then_back (two ws) _ s e in
    let m = map_back Divide (scaled_of w.0.0 w.0.1) s w.2 in
    let b = scaled_back w.0.0 w.0.1 m.0 m.1 in
    (ap (λ t. codes "d" ++ spaced t) (two_back ws w.0 w.1) ∙ ap (λ t. codes "d" ++ t) (scaled_front w.0.0 w.0.1 [] m.0 b.0 b.1 ∙ append-nil (scaled_text m.0)) ∙ ap step_line m.2, ap is_step (sym m.2) ∙ b.2)

pub product_back : (ws : List (List ℕ)) (s : Step) → product_of ws ≡ Some s → (codes "p" ++ spaced ws ≡ step_line s) × (is_step s ≡ true)
product_back ws s e =
    let w = then_back (two ws) _ s e in
    let f = then_back (number (integer_of w.0.0)) _ s w.2 in
    let l = then_back (number (integer_of w.0.1)) _ s f.2 in
    let q : Product f.0 l.0 ≡ s = same (Product f.0 l.0) s l.2 in
    let a = integer_back w.0.0 f.0 (number_back (integer_of w.0.0) f.0 f.1) in
    let b = integer_back w.0.1 l.0 (number_back (integer_of w.0.1) l.0 l.1) in (
      ap (λ t. codes "p" ++ spaced t) (two_back ws w.0 w.1) ∙ ap (λ t. codes "p " ++ (t ++ (32 ∷ (w.0.1 ++ [])))) (sym a.0) ∙ ap (λ t. codes "p " ++ (signed_decimal f.0 ++ (32 ∷ t))) (append-nil w.0.1 ∙ sym b.0) ∙ ap step_line q,
      ap is_step (sym q) ∙ andt (is_integer f.0) (is_integer l.0) a.1 b.1,
    )
