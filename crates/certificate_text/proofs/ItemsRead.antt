-- Lines are written as they are read.
use Rattle.std.proofs.Common.{◌≡◌, ℕ, true, cond, List, [], ◌++◌, Option, Some, refl, ap, sym, ◌∙◌, inl, inr}
use Rattle.std.specs.Prelude.{codes, bytes_eq}
use Rattle.std.specs.Option.{option_map}
use Rattle.std.proofs.lemmas.List.{append-nil}
use Rattle.linear.specs.Linear.{Form}
use Rattle.lines.specs.Lines.{is_empty, pieces, words, first, sole}
use Rattle.certificate_text.specs.Certificate.{Name}
use Rattle.certificate_text.specs.Forms.{when, identifier_of, form, form_of}
use Rattle.certificate_text.specs.Lines.{Item, PlaceItem, SameItem, FactItem, CongruenceItem, MultipleItem, BoundItem, EntryItem, LemmaItem, MainItem, StepItem, EndItem, spot_of, congruence_of, multiple_of, bound_of, entry_of, sum_of, given_of, divide_of, product_of, place_item, lemma_item, step_item, item_of}
use Rattle.certificate_text.specs.Items.{item_line}
use Rattle.certificate_text.specs.Rules.{is_form}
use Rattle.lines.specs.Lines.{is_integer}
use Rattle.lines.proofs.Fronts.{both}
use Rattle.certificate_text.proofs.Cuts.{spaced, pieces_back, then_back, map_back, when_back, first_back, sole_back, none_left, by_word}
use Rattle.certificate_text.proofs.FormsRead.{identifier_back}
use Rattle.certificate_text.proofs.PartsRead.{is_constant, is_item, is_part, andt, whole_back, congruence_back, multiple_back, spot_back, bound_back, entry_back, sum_back, given_back, divide_back, product_back}

-- an item of something that is read of the words behind a keyword
made_back : {A : Type 0} (make : A → Item) (w k : List ℕ) (ws : List (List ℕ)) (read : Option A) (i : Item) → w ≡ k → option_map make read ≡ Some i → ((a : A) → read ≡ Some a → (k ++ spaced ws ≡ item_line (make a)) × (is_item (make a) ≡ true)) → (w ++ spaced ws ≡ item_line i) × (is_item i ≡ true)
made_back make w k ws read i p e back =
    let m = map_back make read i e in
    let b = back m.0 m.1 in
    (ap (λ t. t ++ spaced ws) p ∙ b.0 ∙ ap item_line m.2, ap is_item (sym m.2) ∙ b.1)

place_item_back : (w : List ℕ) (ws : List (List ℕ)) (i : Item) → place_item w ws ≡ Some i → (w ++ spaced ws ≡ item_line i) × (is_item i ≡ true)
place_item_back w ws i e = elim (by_word w (codes "place") _ _ i e) [
  | inl h ↦ let v = then_back (sole ws) _ i h.1 in
      made_back PlaceItem w (codes "place") ws (spot_of (pieces 47 v.0)) i h.0 v.2 (λ s r.
      let b = spot_back v.0 s r in
      (ap (λ t. codes "place" ++ spaced t) (sole_back ws v.0 v.1) ∙ ap (λ t. codes "place " ++ t) (append-nil v.0) ∙ sym b.0, b.1))
  | inr f ↦ elim (by_word w (codes "same") _ _ i f) [
    | inl h ↦ let v = then_back (sole ws) _ i h.1 in
        made_back SameItem w (codes "same") ws (identifier_of v.0) i h.0 v.2 (λ s r.
        let b = identifier_back v.0 s r in
        (ap (λ t. codes "same" ++ spaced t) (sole_back ws v.0 v.1) ∙ ap (λ t. codes "same " ++ t) (append-nil v.0 ∙ sym b.0), b.1))
    | inr g ↦ elim (by_word w (codes "fact") _ _ i g) [
      | inl h ↦ made_back FactItem w (codes "fact") ws (form_of [] ws) i h.0 h.1 (λ s r.
          let b = whole_back ws s r in
          (ap (λ t. codes "fact" ++ t) b.0, b.1))
      | inr k ↦ elim (by_word w (codes "mod") _ _ i k) [
        | inl h ↦ made_back CongruenceItem w (codes "mod") ws (congruence_of ws) i h.0 h.1 (congruence_back ws)
        | inr l ↦ elim (by_word w (codes "multiple") _ _ i l) [
          | inl h ↦ made_back MultipleItem w (codes "multiple") ws (multiple_of ws) i h.0 h.1 (multiple_back ws)
          | inr m ↦ absurd cc
        ]
      ]
    ]
  ]
]

lemma_item_back : (w : List ℕ) (ws : List (List ℕ)) (i : Item) → lemma_item w ws ≡ Some i → (w ++ spaced ws ≡ item_line i) × (is_item i ≡ true)
lemma_item_back w ws i e = elim (by_word w (codes "p") _ _ i e) [
  | inl h ↦ made_back StepItem w (codes "p") ws (product_of ws) i h.0 h.1 (product_back ws)
  | inr f ↦ elim (by_word w (codes "l") _ _ i f) [
    | inl h ↦ made_back LemmaItem w (codes "l") ws (form_of [] ws) i h.0 h.1 (λ s r.
        let b = whole_back ws s r in
        (ap (λ t. codes "l" ++ t) b.0, b.1))
    | inr g ↦ elim (by_word w (codes "m") _ _ i g) [
      | inl h ↦ let k = when_back (is_empty ws) MainItem i h.1 in
          (ap (λ t. t ++ spaced ws) h.0 ∙ ap (λ t. codes "m" ++ spaced t) (none_left ws k.0) ∙ ap item_line k.1, ap is_item (sym k.1))
      | inr k ↦ place_item_back w ws i k
    ]
  ]
]

step_item_back : (w : List ℕ) (ws : List (List ℕ)) (i : Item) → step_item w ws ≡ Some i → (w ++ spaced ws ≡ item_line i) × (is_item i ≡ true)
step_item_back w ws i e = elim (by_word w (codes "g") _ _ i e) [
  | inl h ↦ made_back StepItem w (codes "g") ws (given_of ws) i h.0 h.1 (given_back ws)
  | inr f ↦ elim (by_word w (codes "s") _ _ i f) [
    | inl h ↦ made_back StepItem w (codes "s") ws (sum_of [] ws) i h.0 h.1 (λ s r. sum_back [] ws s refl refl r)
    | inr g ↦ elim (by_word w (codes "d") _ _ i g) [
      | inl h ↦ made_back StepItem w (codes "d") ws (divide_of ws) i h.0 h.1 (divide_back ws)
      | inr k ↦ lemma_item_back w ws i k
    ]
  ]
]

item_front : (w : List ℕ) (ws : List (List ℕ)) (i : Item) → cond (bytes_eq w (codes "loop")) (option_map BoundItem (bound_of ws)) (cond (bytes_eq w (codes "ob")) (entry_of ws) (cond (bytes_eq w (codes "end")) (when (is_empty ws) EndItem) (step_item w ws))) ≡ Some i → (w ++ spaced ws ≡ item_line i) × (is_item i ≡ true)
item_front w ws i e = elim (by_word w (codes "loop") _ _ i e) [
  | inl h ↦ made_back BoundItem w (codes "loop") ws (bound_of ws) i h.0 h.1 (bound_back ws)
  | inr f ↦ elim (by_word w (codes "ob") _ _ i f) [
    | inl h ↦ let b = entry_back ws i h.1 in (ap (λ t. t ++ spaced ws) h.0 ∙ b.0, b.1)
    | inr g ↦ elim (by_word w (codes "end") _ _ i g) [
      | inl h ↦ let k = when_back (is_empty ws) EndItem i h.1 in
          (ap (λ t. t ++ spaced ws) h.0 ∙ ap (λ t. codes "end" ++ spaced t) (none_left ws k.0) ∙ ap item_line k.1, ap is_item (sym k.1))
      | inr k ↦ step_item_back w ws i k
    ]
  ]
]

-- a line says an item: it is that item's line
pub item_back : (line : List ℕ) (i : Item) → item_of (words line) ≡ Some i → (item_line i ≡ line) × (is_item i ≡ true)
unfolding item_of
item_back line i e =
    let w = then_back (first (words line)) _ i e in
    let b = item_front w.0.0 w.0.1 i w.2 in
    (sym b.0 ∙ sym (pieces_back 32 line w.0.0 w.0.1 (first_back (words line) w.0 w.1)), b.1)

pub constant_form : (f : Form Name) → is_constant f ≡ true → is_form f ≡ true
constant_form f h =
    let p = both (is_empty f.terms) (is_integer f.constant) h in
    ap (λ ts. is_form (form ts f.constant)) (none_left f.terms p.0) ∙ p.1

-- what is read can be written
pub item_part : (i : Item) → is_item i ≡ true → is_part i ≡ true
item_part (PlaceItem s) h = h
item_part (SameItem name) h = h
item_part (FactItem f) h = h
item_part (CongruenceItem c) h = h
item_part (MultipleItem m) h = let p = both (is_constant m.form) (is_constant m.of) h in andt (is_form m.of) (is_form m.form) (constant_form m.of p.1) (constant_form m.form p.0)
item_part (BoundItem b) h = h
item_part (EntryItem n sort) h = h
item_part (LemmaItem f) h = h
item_part MainItem h = h
item_part (StepItem s) h = h
item_part EndItem h = h
