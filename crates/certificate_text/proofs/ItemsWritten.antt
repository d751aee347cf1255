-- Lines are read as they are written.
use Rattle.std.proofs.Common.{◌≡◌, ℕ, true, false, not, nat_eq, ◌&&◌, List, [], ◌∷◌, ◌++◌, Option, None, Some, refl, ap, sym, ◌∙◌, append_assoc}
use Rattle.std.specs.Prelude.{ℤ, codes, nat_le}
use Rattle.std.specs.Option.{option_map}
use Rattle.std.specs.List.{flat_map}
use Rattle.std.specs.Fmt.{decimal, signed_decimal}
use Rattle.std.proofs.lemmas.Bool.{cond-true}
use Rattle.std.proofs.lemmas.List.{append-nil}
use Rattle.linear.specs.Linear.{Form}
use Rattle.lines.specs.Lines.{is_empty, pieces, words, sole, natural_of, integer_of, follows}
use Rattle.certificate_text.specs.Certificate.{Name, Anchor, KernelEntry, Barrier, Spot, Congruence, Multiple, Descent, Down, Halve, Double, Bound, EntrySort, Show, Positive, Negative, Quotient, Scaled, Step, Given, Sum, Divide, Product}
use Rattle.certificate_text.specs.Text.{term_text, form_text, anchor_text, head_text, place_line, congruence_line, multiple_line, descent_text, bound_line, sort_text, entry_line, lemma_line, scaled_text, step_line}
use Rattle.certificate_text.specs.Forms.{then, when, number, identifier_of, form, constant_of, form_of}
use Rattle.certificate_text.specs.Lines.{Item, PlaceItem, SameItem, FactItem, CongruenceItem, MultipleItem, BoundItem, EntryItem, LemmaItem, MainItem, StepItem, EndItem, at_least, anchor_of, spot_of, congruence_of, multiple_of, descent_of, bound_of, sort_of, entry_of, scaled_of, line_is_before, sum_of, given_of, product_of, item_of}
use Rattle.certificate_text.specs.Rules.{all, rises, is_form, is_anchor, is_head, is_spot, is_congruence, is_descent, is_bound, is_sort, is_scaled, is_step}
use Rattle.lines.specs.Lines.{is_natural, is_integer}
use Rattle.lines.proofs.Fronts.{both}
use Rattle.certificate_text.proofs.Cuts.{none_left}
use Rattle.lines.proofs.Decimals.{natural_forth, integer_forth}
use Rattle.certificate_text.proofs.NamesWritten.{is_free, is_plain, cut_one, cut_at, all_append, plain_free, natural_plain, integer_plain, identifier_plain, identifier_forth}
use Rattle.certificate_text.proofs.FormsWritten.{form_forth, rises_follow, moved}
use Rattle.certificate_text.specs.Items.{item_line}
use Rattle.certificate_text.proofs.PartsRead.{is_constant, is_item}

natural_free : (c n : ℕ) → is_plain c ≡ false → is_natural n ≡ true → is_free c (decimal n) ≡ true
natural_free c n p h = plain_free c (decimal n) p (natural_plain n h)

integer_free : (c : ℕ) (z : ℤ) → is_plain c ≡ false → is_integer z ≡ true → is_free c (signed_decimal z) ≡ true
integer_free c z p h = plain_free c (signed_decimal z) p (integer_plain z h)

-- a number and what follows it
natural_word : (n : ℕ) (rest : List ℕ) → is_natural n ≡ true → pieces 32 (decimal n ++ 32 ∷ rest) ≡ decimal n ∷ pieces 32 rest
natural_word n rest h = cut_at 32 (decimal n) rest (natural_free 32 n refl h)

integer_word : (z : ℤ) (rest : List ℕ) → is_integer z ≡ true → pieces 32 (signed_decimal z ++ 32 ∷ rest) ≡ signed_decimal z ∷ pieces 32 rest
integer_word z rest h = cut_at 32 (signed_decimal z) rest (integer_free 32 z refl h)

natural_read : (n : ℕ) → is_natural n ≡ true → number (natural_of (decimal n)) ≡ Some n
natural_read n h = ap number (natural_forth n h)

integer_read : (z : ℤ) → is_integer z ≡ true → number (integer_of (signed_decimal z)) ≡ Some z
integer_read z h = ap number (integer_forth z h)

least_read : (k n : ℕ) → is_natural n ≡ true → nat_le k n ≡ true → at_least k (natural_of (decimal n)) ≡ Some n
least_read k n h l = ap (λ o. then o (λ m. when (nat_le k m) m)) (natural_read n h) ∙ cond-true (nat_le k n) (Some n) None l

congruence_forth : (c : Congruence) → is_congruence c ≡ true → item_of (words (congruence_line c)) ≡ Some (CongruenceItem c)
unfolding item_of congruence_of
congruence_forth c h =
    let p = both (is_natural c.modulus) (nat_le 2 c.modulus && is_form c.form) h in
    let q = both (nat_le 2 c.modulus) (is_form c.form) p.1 in
    let w = natural_word c.modulus (form_text c.form) p.0 in
    ap (λ ws. option_map CongruenceItem (congruence_of ws)) w
    ∙ rw (least_read 2 c.modulus p.0 q.0, form_forth c.form q.1) refl

anchor_plain : (a : Anchor) → is_anchor a ≡ true → all is_plain (anchor_text a) ≡ true
anchor_plain KernelEntry h = refl
anchor_plain (Barrier n) h = natural_plain n h

anchor_forth : (a : Anchor) → is_anchor a ≡ true → anchor_of (anchor_text a) ≡ Some a
anchor_forth KernelEntry h = refl
anchor_forth (Barrier n) h = ap (option_map Barrier) (natural_read n h)

spot_cut : (a : Anchor) (head : Option ℕ) → is_anchor a ≡ true → is_head head ≡ true → spot_of (pieces 47 (anchor_text a ++ head_text head)) ≡ Some (record { anchor = a; head = head })
spot_cut a None p q =
    ap (λ t. spot_of (pieces 47 t)) (append-nil (anchor_text a)) ∙ ap spot_of (cut_one 47 (anchor_text a) (plain_free 47 (anchor_text a) refl (anchor_plain a p)))
    ∙ ap (λ o. then o (λ b. Some (record { anchor = b; head = None }))) (anchor_forth a p)
spot_cut a (Some n) p q =
    ap spot_of (cut_at 47 (anchor_text a) (104 ∷ decimal n) (plain_free 47 (anchor_text a) refl (anchor_plain a p)) ∙ ap (λ ps. anchor_text a ∷ ps) (cut_one 47 (104 ∷ decimal n) (natural_free 47 n refl q)))
    ∙ rw (anchor_forth a p, natural_read n q) refl

spot_free : (a : Anchor) (head : Option ℕ) → is_anchor a ≡ true → is_head head ≡ true → is_free 32 (anchor_text a ++ head_text head) ≡ true
spot_free a None p q = all_append (λ b. not (nat_eq b 32)) (anchor_text a) [] (plain_free 32 (anchor_text a) refl (anchor_plain a p)) refl
spot_free a (Some n) p q = all_append (λ b. not (nat_eq b 32)) (anchor_text a) (47 ∷ (104 ∷ decimal n)) (plain_free 32 (anchor_text a) refl (anchor_plain a p)) (natural_free 32 n refl q)

place_forth : (s : Spot) → is_spot s ≡ true → item_of (words (place_line s)) ≡ Some (PlaceItem s)
unfolding item_of
place_forth s h =
    let p = both (is_anchor s.anchor) (is_head s.head) h in
    ap (λ ws. then (sole ws) (λ word. option_map PlaceItem (spot_of (pieces 47 word)))) (cut_one 32 (anchor_text s.anchor ++ head_text s.head) (spot_free s.anchor s.head p.0 p.1))
    ∙ ap (option_map PlaceItem) (spot_cut s.anchor s.head p.0 p.1)

same_forth : (name : List ℕ) → is_item (SameItem name) ≡ true → item_of (words (codes "same " ++ name)) ≡ Some (SameItem name)
unfolding item_of
same_forth name h =
    ap (λ ws. then (sole ws) (λ word. option_map SameItem (identifier_of word))) (cut_one 32 name (plain_free 32 name refl (identifier_plain name h))) ∙ ap (option_map SameItem) (identifier_forth name h)

fact_forth : (f : Form Name) → is_form f ≡ true → item_of (words (codes "fact " ++ form_text f)) ≡ Some (FactItem f)
unfolding item_of
fact_forth f h = ap (option_map FactItem) (form_forth f h)

descent_forth : (d : Descent) (rest : List ℕ) → is_descent d ≡ true → (w : List ℕ) × (ws : List (List ℕ)) × (pieces 32 (descent_text d ++ 32 ∷ rest) ≡ w ∷ ws) × (descent_of w ws ≡ Some (d, pieces 32 rest))
descent_forth (Down step) rest h =
    let p = both (is_natural step) (nat_le 1 step) h in
    (codes "down", decimal step ∷ pieces 32 rest, ap (λ ws. codes "down" ∷ ws) (natural_word step rest p.0), rw (least_read 1 step p.0 p.1) refl)
descent_forth Halve rest h = (codes "halve", pieces 32 rest, refl, refl)
descent_forth (Double least) rest h =
    let p = both (is_natural least) (nat_le 1 least) h in
    (codes "double", decimal least ∷ pieces 32 rest, ap (λ ws. codes "double" ∷ ws) (natural_word least rest p.0), rw (least_read 1 least p.0 p.1) refl)

bound_read : (ws : List (List ℕ)) (b : Bound) (w : List ℕ) (vs : List (List ℕ)) (rest : List (List ℕ)) → is_natural b.loop ≡ true → is_integer b.most ≡ true → ws ≡ decimal b.loop ∷ w ∷ vs → descent_of w vs ≡ Some (b.descent, signed_decimal b.most ∷ rest) → form_of [] rest ≡ Some b.form → bound_of ws ≡ Some b
unfolding bound_of
bound_read ws b w vs rest n m e d f = rw (e, natural_read b.loop n, d, integer_read b.most m, f) refl

bound_forth : (b : Bound) → is_bound b ≡ true → item_of (words (bound_line b)) ≡ Some (BoundItem b)
unfolding item_of
bound_forth b h =
    let p = both (is_natural b.loop) (is_descent b.descent && (is_integer b.most && is_form b.form)) h in
    let q = both (is_descent b.descent) (is_integer b.most && is_form b.form) p.1 in
    let r = both (is_integer b.most) (is_form b.form) q.1 in
    let tail : List ℕ = signed_decimal b.most ++ (32 ∷ form_text b.form) in
    let d = descent_forth b.descent tail q.0 in
    let split = natural_word b.loop (descent_text b.descent ++ (32 ∷ tail)) p.0 ∙ ap (λ ws. decimal b.loop ∷ ws) d.2 in
    ap (option_map BoundItem) (bound_read (pieces 32 (decimal b.loop ++ (32 ∷ (descent_text b.descent ++ (32 ∷ tail))))) b d.0 d.1 (pieces 32 (form_text b.form)) p.0 r.0 split (d.3 ∙ ap (λ ws. Some (b.descent, ws)) (integer_word b.most (form_text b.form) r.0)) (form_forth b.form r.1))

sort_forth : (c : EntrySort) → is_sort c ≡ true → (w : List ℕ) × (ws : List (List ℕ)) × (pieces 32 (sort_text c) ≡ w ∷ ws) × (sort_of w ws ≡ Some c)
sort_forth Show h = (codes "show", [], refl, refl)
sort_forth Positive h = (codes "pos", [], refl, refl)
sort_forth Negative h = (codes "neg", [], refl, refl)
sort_forth (Quotient f) h = (codes "quot", pieces 32 (form_text f), refl, ap (option_map Quotient) (form_forth f h))

entry_read : (ws : List (List ℕ)) (n : ℕ) (c : EntrySort) (w : List ℕ) (vs : List (List ℕ)) → is_natural n ≡ true → nat_le 1 n ≡ true → ws ≡ decimal n ∷ w ∷ vs → sort_of w vs ≡ Some c → entry_of ws ≡ Some (EntryItem n c)
unfolding entry_of
entry_read ws n c w vs h l e d = rw (e, least_read 1 n h l, d) refl

entry_forth : (n : ℕ) (c : EntrySort) → is_item (EntryItem n c) ≡ true → item_of (words (entry_line n c)) ≡ Some (EntryItem n c)
unfolding item_of
entry_forth n c h =
    let p = both (is_natural n && nat_le 1 n) (is_sort c) h in
    let q = both (is_natural n) (nat_le 1 n) p.0 in
    let d = sort_forth c p.1 in
    entry_read (pieces 32 (decimal n ++ (32 ∷ sort_text c))) n c d.0 d.1 q.0 q.1 (natural_word n (sort_text c) q.0 ∙ ap (λ ws. decimal n ∷ ws) d.2) d.3

scaled_read : (s : Scaled) → is_scaled s ≡ true → scaled_of (signed_decimal s.factor) (signed_decimal s.line) ≡ Some s
scaled_read s h = let p = both (is_integer s.factor) (is_integer s.line) h in rw (integer_read s.factor p.0, integer_read s.line p.1) refl

abbrev part_words : List Scaled → List (List ℕ)
part_words [] = []
part_words (s ∷ parts) = signed_decimal s.factor ∷ signed_decimal s.line ∷ part_words parts

part_cut : (w : List ℕ) (parts : List Scaled) → is_free 32 w ≡ true → all is_scaled parts ≡ true → pieces 32 (w ++ flat_map scaled_text parts) ≡ w ∷ part_words parts
part_cut w [] f h = ap (pieces 32) (append-nil w) ∙ cut_one 32 w f
part_cut w (s ∷ parts) f h =
    let p = both (is_scaled s) (all is_scaled parts) h in
    let q = both (is_integer s.factor) (is_integer s.line) p.0 in
    let rest : List ℕ = flat_map scaled_text parts in
    let e : w ++ (scaled_text s ++ rest) ≡ w ++ (32 ∷ (signed_decimal s.factor ++ (32 ∷ (signed_decimal s.line ++ rest)))) = simp append_assoc in
    ap (pieces 32) e ∙ cut_at 32 w (signed_decimal s.factor ++ (32 ∷ (signed_decimal s.line ++ rest))) f
    ∙ ap (λ ws. w ∷ ws) (integer_word s.factor (signed_decimal s.line ++ rest) q.0 ∙ ap (λ ws. signed_decimal s.factor ∷ ws) (part_cut (signed_decimal s.line) parts (integer_free 32 s.line refl q.1) p.1))

next_part : (done : List Scaled) (ws : List (List ℕ)) (f l : List ℕ) (others : List (List ℕ)) (s : Scaled) → ws ≡ f ∷ l ∷ others → scaled_of f l ≡ Some s → follows line_is_before done s ≡ true → sum_of done ws ≡ sum_of (done ++ s ∷ []) others
unfolding sum_of
next_part done ws f l others s e q r = rw (e, q, r) refl

no_parts : (done : List Scaled) → not (is_empty done) ≡ true → sum_of done [] ≡ Some (Sum done)
unfolding sum_of
no_parts done h = cond-true (not (is_empty done)) (Some (Sum done)) None h

sum_forth : (done parts : List Scaled) → all is_scaled parts ≡ true → rises line_is_before (done ++ parts) ≡ true → not (is_empty (done ++ parts)) ≡ true → sum_of done (part_words parts) ≡ Some (Sum (done ++ parts))
sum_forth done [] h up some = no_parts done (ap (λ ps. not (is_empty ps)) (sym (append-nil done)) ∙ some) ∙ ap (λ ps. Some (Sum ps)) (sym (append-nil done))
sum_forth done (s ∷ parts) h up some =
    let p = both (is_scaled s) (all is_scaled parts) h in
    next_part done (part_words (s ∷ parts)) (signed_decimal s.factor) (signed_decimal s.line) (part_words parts) s refl (scaled_read s p.0) (rises_follow line_is_before done s parts up)
    ∙ sum_forth (done ++ s ∷ []) parts p.1 (ap (rises line_is_before) (sym (moved done s parts)) ∙ up) (ap (λ ps. not (is_empty ps)) (sym (moved done s parts)) ∙ some)
    ∙ ap (λ ps. Some (Sum ps)) (sym (moved done s parts))

step_forth : (s : Step) → is_step s ≡ true → item_of (words (step_line s)) ≡ Some (StepItem s)
unfolding item_of
step_forth (Given n) h =
    ap (λ ws. option_map StepItem (given_of ws)) (cut_one 32 (signed_decimal n) (integer_free 32 n refl h)) ∙ ap (λ o. option_map StepItem (option_map Given o)) (integer_read n h)
step_forth (Sum parts) h =
    let p = both (all is_scaled parts) (rises line_is_before parts && not (is_empty parts)) h in
    let q = both (rises line_is_before parts) (not (is_empty parts)) p.1 in
    ap item_of (part_cut (codes "s") parts refl p.0) ∙ ap (option_map StepItem) (sum_forth [] parts p.0 q.0 q.1)
step_forth (Product f l) h =
    let p = both (is_integer f) (is_integer l) h in
    ap (λ ws. option_map StepItem (product_of ws)) (integer_word f (signed_decimal l) p.0 ∙ ap (λ ws. signed_decimal f ∷ ws) (cut_one 32 (signed_decimal l) (integer_free 32 l refl p.1)))
    ∙ rw (integer_read f p.0, integer_read l p.1) refl
step_forth (Divide s) h =
    let c = part_cut (codes "d") (s ∷ []) refl (rw h refl) in
    ap (λ t. item_of (words (codes "d" ++ t))) (sym (append-nil (scaled_text s))) ∙ ap item_of c ∙ ap (λ o. option_map StepItem (option_map Divide o)) (scaled_read s h)

-- a form without terms is its number
constant_is : (f : Form Name) → is_constant f ≡ true → form_text f ≡ signed_decimal f.constant
constant_is f h = ap (λ ts. flat_map term_text ts ++ signed_decimal f.constant) (none_left f.terms (both (is_empty f.terms) (is_integer f.constant) h).0)

constant_forth : (f : Form Name) → is_constant f ≡ true → constant_of [] (signed_decimal f.constant) ≡ Some f
constant_forth f h =
    let p = both (is_empty f.terms) (is_integer f.constant) h in
    ap (option_map (form [])) (integer_read f.constant p.1) ∙ ap (λ ts. Some (form ts f.constant)) (sym (none_left f.terms p.0))

multiple_read : (ws : List (List ℕ)) (m : Multiple) → ws ≡ signed_decimal m.form.constant ∷ codes "of" ∷ signed_decimal m.of.constant ∷ [] → is_constant m.form ≡ true → is_constant m.of ≡ true → multiple_of ws ≡ Some m
unfolding multiple_of
multiple_read ws m e f g = rw (e, constant_forth m.form f, constant_forth m.of g) refl

multiple_forth : (m : Multiple) → is_item (MultipleItem m) ≡ true → item_of (words (multiple_line m)) ≡ Some (MultipleItem m)
unfolding item_of
multiple_forth m h =
    let p = both (is_constant m.form) (is_constant m.of) h in
    let f = (both (is_empty m.form.terms) (is_integer m.form.constant) p.0).1 in
    let g = (both (is_empty m.of.terms) (is_integer m.of.constant) p.1).1 in
    let text : form_text m.form ++ (codes " of " ++ form_text m.of) ≡ signed_decimal m.form.constant ++ (codes " of " ++ signed_decimal m.of.constant) = ap (λ t. t ++ (codes " of " ++ form_text m.of)) (constant_is m.form p.0) ∙ ap (λ t. signed_decimal m.form.constant ++ (codes " of " ++ t)) (constant_is m.of p.1) in
    let cut = ap (pieces 32) text ∙ integer_word m.form.constant (codes "of " ++ signed_decimal m.of.constant) f ∙ ap (λ ws. signed_decimal m.form.constant ∷ codes "of" ∷ ws) (cut_one 32 (signed_decimal m.of.constant) (integer_free 32 m.of.constant refl g)) in
    ap (λ ws. option_map MultipleItem (multiple_of ws)) cut ∙ ap (option_map MultipleItem) (multiple_read _ m refl p.0 p.1)

lemma_forth : (f : Form Name) → is_form f ≡ true → item_of (words (lemma_line f)) ≡ Some (LemmaItem f)
unfolding item_of
lemma_forth f h = ap (option_map LemmaItem) (form_forth f h)

pub item_forth : (i : Item) → is_item i ≡ true → item_of (words (item_line i)) ≡ Some i
unfolding item_of
item_forth (PlaceItem s) h = place_forth s h
item_forth (SameItem name) h = same_forth name h
item_forth (FactItem f) h = fact_forth f h
item_forth (CongruenceItem c) h = congruence_forth c h
item_forth (MultipleItem m) h = multiple_forth m h
item_forth (BoundItem b) h = bound_forth b h
item_forth (EntryItem n sort) h = entry_forth n sort h
item_forth (LemmaItem f) h = lemma_forth f h
item_forth MainItem h = refl
item_forth (StepItem s) h = step_forth s h
item_forth EndItem h = refl
