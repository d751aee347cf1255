-- What is written is read: the lines of a launch.
use Rattle.std.proofs.Common.{◌≡◌, ℕ, zero, suc, ◌+◌, ◌-◌, ◌<◌, ◌≤◌, ◌^◌, true, List, [], ◌∷◌, ◌++◌, length, Option, Some, None, Ok, refl, ap, sym, ◌∙◌, append_assoc, arith}
use Rattle.std.specs.Prelude.{codes}
use Rattle.std.specs.List.{AllZip, flat_map, prefix_len}
use Rattle.lines.specs.Bytes.{is_decimal_digit}
use Rattle.std.specs.Fmt.{decimal, signed_decimal}
use Rattle.std.proofs.lemmas.List.{append-nil}
use Rattle.std.proofs.lemmas.List.Sums.{sum_by-cons}
use Rattle.semantics.specs.Word.{Kind, Word}
use Rattle.semantics.specs.Launch.{IsArgument}
use Rattle.lines.specs.Identifiers.{is_identifier}
use Rattle.texts.specs.Surface.{Parameter, Buffer, Value}
use Rattle.launch_text.specs.LaunchFaults.{Cursor, Step, cursor, then, expect, end_line}
use Rattle.launch_text.specs.LaunchWords.{Launch, word_at, due, due_blank, due_parameter, head_line, go_on, each, end_text}
use Rattle.launch_text.specs.LaunchReading as reading
use Rattle.launch_text.specs.LaunchReading.{TypedLaunch, groups_line, argument_line, argument_due, list_at, words_at, most_words, words_of, buffer_line, buffer_due, fill_line}
use Rattle.launch_text.specs.LaunchText as text
use Rattle.kernel_names.specs.Parameters.{value_kind, buffer_kind, kinds}
use Rattle.launch_text.specs.Parameters.{AreNamed, AreWords}
use Rattle.launch_text.proofs.Lists.{words-push}
use Rattle.launch_text.proofs.Forth.{natural_forth, word_forth, parameter_forth}

pub blank_forth : (rest : List ℕ) (n : ℕ) → expect (codes " ") (cursor n (32 ∷ rest)) ≡ Ok (cursor n rest)
unfolding expect
blank_forth rest n = refl

pub end_forth : (rest : List ℕ) (n : ℕ) → end_line (cursor n (10 ∷ rest)) ≡ Ok (cursor (n + 1) rest)
unfolding end_line
end_forth rest n = refl

arg_due : (rest : List ℕ) (n : ℕ) → due_blank Launch (codes "arg") (cursor n (codes "arg " ++ rest)) ≡ Ok (cursor n rest)
unfolding due_blank due expect
arg_due rest n = refl

pub buffer_word_due : (rest : List ℕ) (n : ℕ) → due_blank Launch (codes "buffer") (cursor n (codes "buffer " ++ rest)) ≡ Ok (cursor n rest)
unfolding due_blank due expect
buffer_word_due rest n = refl

groups_due : (rest : List ℕ) (n : ℕ) → due_blank Launch (codes "groups") (cursor n (codes "groups " ++ rest)) ≡ Ok (cursor n rest)
unfolding due_blank due expect
groups_due rest n = refl

fill_due : (rest : List ℕ) (n : ℕ) → due_blank Launch (codes "fill") (cursor n (codes "fill " ++ rest)) ≡ Ok (cursor n rest)
unfolding due_blank due expect
fill_due rest n = refl

pub head_forth : (rest : List ℕ) → head_line Launch (codes "launch") (cursor 1 (codes "launch 1" ++ (10 ∷ rest))) ≡ Ok (cursor 2 rest)
unfolding head_line due expect end_line
head_forth rest = refl

pub end_text_forth : (n : ℕ) → end_text (cursor n []) ≡ Ok tt
unfolding end_text
end_text_forth n = refl

pub groups_forth : (x y z : ℕ) (rest : List ℕ) (n : ℕ) → (1 ≤ x) × (x ≤ 65536) → (1 ≤ y) × (y ≤ 65536) → (1 ≤ z) × (z ≤ 65536) → groups_line (cursor n (codes "groups " ++ (decimal x ++ (32 ∷ (decimal y ++ (32 ∷ (decimal z ++ (10 ∷ rest)))))))) ≡ Ok (reading.counts x y z, cursor (n + 1) rest)
unfolding groups_line
groups_forth x y z rest n a b d =
    rw (
      groups_due (decimal x ++ (32 ∷ (decimal y ++ (32 ∷ (decimal z ++ (10 ∷ rest)))))) n,
      natural_forth 1 65536 x (32 ∷ (decimal y ++ (32 ∷ (decimal z ++ (10 ∷ rest))))) n a.0 a.1 (omega arith) refl,
      blank_forth (decimal y ++ (32 ∷ (decimal z ++ (10 ∷ rest)))) n,
      natural_forth 1 65536 y (32 ∷ (decimal z ++ (10 ∷ rest))) n b.0 b.1 (omega arith) refl,
      blank_forth (decimal z ++ (10 ∷ rest)) n,
      natural_forth 1 65536 z (10 ∷ rest) n d.0 d.1 (omega arith) refl,
      end_forth rest n,
    ) refl

pub fill_forth : (m : ℕ) (rest : List ℕ) (n : ℕ) → m < 2 ^ 31 → fill_line (cursor n (codes "fill " ++ (decimal m ++ (10 ∷ rest)))) ≡ Ok (m, cursor (n + 1) rest)
unfolding fill_line
fill_forth m rest n h =
    rw (fill_due (decimal m ++ (10 ∷ rest)) n, natural_forth 0 2147483647 m (10 ∷ rest) n (omega arith) (omega arith) (omega arith) refl, end_forth rest n) refl

pub argument_forth : (ps : List Parameter) (k : Kind) (name : List ℕ) (w : Word) (rest : List ℕ) (n : ℕ) → is_identifier name ≡ true → IsArgument k w → argument_line ps k name (cursor n (codes "arg " ++ (name ++ (32 ∷ (signed_decimal w.value ++ (10 ∷ rest)))))) ≡ Ok (w, cursor (n + 1) rest)
unfolding argument_line due_parameter
argument_forth ps k name w rest n i h =
    rw (
      arg_due (name ++ (32 ∷ (signed_decimal w.value ++ (10 ∷ rest)))) n,
      parameter_forth ps name (32 ∷ (signed_decimal w.value ++ (10 ∷ rest))) n i refl,
      blank_forth (signed_decimal w.value ++ (10 ∷ rest)) n,
      word_forth k w (10 ∷ rest) n h refl,
      end_forth rest n,
    ) refl

list_stops : (ws : List Word) (rest : List ℕ) → prefix_len is_decimal_digit (flat_map text.word_text ws ++ (10 ∷ rest)) ≡ 0
list_stops [] rest = refl
list_stops (w ∷ ws) rest = refl

list_forth : (k : Kind) (room : ℕ) (done ws : List Word) (rest : List ℕ) (n : ℕ) → AreWords k ws → length ws ≤ room → list_at k room done (cursor n (flat_map text.word_text ws ++ (10 ∷ rest))) ≡ Ok (done ++ ws, cursor n (10 ∷ rest))
unfolding list_at
list_forth k zero done [] rest n h l = ap (λ ws. let r : Step (List Word × Cursor) = Ok (ws, cursor n (10 ∷ rest)) in r) (sym (append-nil done))
list_forth k (suc room) done [] rest n h l = ap (λ ws. let r : Step (List Word × Cursor) = Ok (ws, cursor n (10 ∷ rest)) in r) (sym (append-nil done))
list_forth k zero done (w ∷ ws) rest n h l = absurd (omega arith)
list_forth k (suc room) done (w ∷ ws) rest n h l =
    ap (λ bytes. then (word_at k (cursor n bytes)) (λ t. list_at k room (done ++ t.0 ∷ []) t.1)) (append_assoc (signed_decimal w.value) (flat_map text.word_text ws) (10 ∷ rest))
    ∙ ap (λ s. then s (λ (t : Word × Cursor). list_at k room (done ++ t.0 ∷ []) t.1)) (word_forth k w (flat_map text.word_text ws ++ (10 ∷ rest)) n h.0 (list_stops ws rest))
    ∙ list_forth k room (done ++ w ∷ []) ws rest n h.1 (omega arith)
    ∙ ap (λ vs. let r : Step (List Word × Cursor) = Ok (vs, cursor n (10 ∷ rest)) in r) (append_assoc done (w ∷ []) ws)

words_forth : (k : Kind) (room : ℕ) (ws : List Word) (rest : List ℕ) (n : ℕ) → AreWords k ws → length ws ≤ room → words_at k room (cursor n (codes "list" ++ (flat_map text.word_text ws ++ (10 ∷ rest)))) ≡ Ok (ws, cursor n (10 ∷ rest))
unfolding words_at
words_forth k room ws rest n h l = list_forth k room [] ws rest n h l

buffer_forth : (ps : List Parameter) (room : ℕ) (k : Kind) (name : List ℕ) (ws : List Word) (rest : List ℕ) (n : ℕ) → is_identifier name ≡ true → AreWords k ws → length ws ≤ room → buffer_line ps room k name (cursor n (codes "buffer " ++ (name ++ (codes " list" ++ (flat_map text.word_text ws ++ (10 ∷ rest)))))) ≡ Ok (ws, cursor (n + 1) rest)
unfolding buffer_line due_parameter
buffer_forth ps room k name ws rest n i h l =
    rw (
      buffer_word_due (name ++ (codes " list" ++ (flat_map text.word_text ws ++ (10 ∷ rest)))) n,
      parameter_forth ps name (codes " list" ++ (flat_map text.word_text ws ++ (10 ∷ rest))) n i refl,
      blank_forth (codes "list" ++ (flat_map text.word_text ws ++ (10 ∷ rest))) n,
      words_forth k room ws rest n h l,
      end_forth rest n,
    ) refl

argument_shape : (name digits others rest : List ℕ) → ((codes "arg " ++ (name ++ (32 ∷ (digits ++ 10 ∷ [])))) ++ others) ++ rest ≡ codes "arg " ++ (name ++ (32 ∷ (digits ++ (10 ∷ (others ++ rest)))))
argument_shape name digits others rest = simp append_assoc

buffer_shape : (name list others rest : List ℕ) → ((codes "buffer " ++ (name ++ (codes " list" ++ (list ++ 10 ∷ [])))) ++ others) ++ rest ≡ codes "buffer " ++ (name ++ (codes " list" ++ (list ++ (10 ∷ (others ++ rest)))))
buffer_shape name list others rest = simp append_assoc

pub each_goes : {A : Type 0} (line : List A → Parameter → Option (Cursor → Step (A × Cursor))) (done : List A) (p : Parameter) (ps : List Parameter) (c d : Cursor) (own : Cursor → Step (A × Cursor)) (a : A) → line done p ≡ Some own → own c ≡ Ok (a, d) → each line done (p ∷ ps) c ≡ each line (done ++ a ∷ []) ps d
unfolding each
each_goes line done p ps c d own a s e =
    ap (λ o. go_on o done c (λ more d. each line more ps d)) s ∙ ap (λ r. then r (λ t. each line (done ++ t.0 ∷ []) ps t.1)) e

pub each_ends : {A : Type 0} (line : List A → Parameter → Option (Cursor → Step (A × Cursor))) (done : List A) (c : Cursor) → each line done [] c ≡ Ok (done ++ [], c)
unfolding each
each_ends {A} line done c = ap (λ xs. let r : Step (List A × Cursor) = Ok (xs, c) in r) (sym (append-nil done))

pub each_skips : {A : Type 0} (line : List A → Parameter → Option (Cursor → Step (A × Cursor))) (done : List A) (p : Parameter) (ps : List Parameter) (c : Cursor) → line done p ≡ None → each line done (p ∷ ps) c ≡ each line done ps c
unfolding each
each_skips line done p ps c s = ap (λ o. go_on o done c (λ more d. each line more ps d)) s

pub appended : {A : Type 0} (done : List A) (a : A) (others : List A) (c : Cursor) → (let r : Step (List A × Cursor) = Ok ((done ++ a ∷ []) ++ others, c) in r) ≡ Ok (done ++ (a ∷ others), c)
appended {A} done a others c = ap (λ xs. let r : Step (List A × Cursor) = Ok (xs, c) in r) (append_assoc done (a ∷ []) others)

pub arguments_forth : (ps : List Parameter) (done : List Word) (qs : List Parameter) (ws : List Word) (rest : List ℕ) (n : ℕ) → AreNamed qs → AllZip IsArgument (kinds value_kind qs) ws → (m : ℕ) × (each (argument_due ps) done qs (cursor n (text.arguments_text qs ws ++ rest)) ≡ Ok (done ++ ws, cursor m rest))
arguments_forth ps done [] [] rest n i h = (n, each_ends (argument_due ps) done (cursor n rest))
arguments_forth ps done [] (w ∷ ws) rest n i h = absurd h
arguments_forth ps done (Buffer constant k site name ∷ qs) ws rest n i h =
    let more = arguments_forth ps done qs ws rest n i.1 h in
    (more.0, each_skips (argument_due ps) done (Buffer constant k site name) qs (cursor n (text.arguments_text qs ws ++ rest)) refl ∙ more.1)
arguments_forth ps done (Value k site name ∷ qs) [] rest n i h = absurd h
arguments_forth ps done (Value k site name ∷ qs) (w ∷ ws) rest n i h =
    let others = text.arguments_text qs ws in
    let more = arguments_forth ps (done ++ w ∷ []) qs ws rest (n + 1) i.1 h.1 in
    let own = argument_line ps k name in
    let here : own (cursor n ((text.argument_text name w ++ others) ++ rest)) ≡ Ok (w, cursor (n + 1) (others ++ rest)) =
    ap (λ bytes. own (cursor n bytes)) (argument_shape name (signed_decimal w.value) others rest) ∙ argument_forth ps k name w (others ++ rest) n i.0 h.0 in
    (more.0, each_goes (argument_due ps) done (Value k site name) qs (cursor n ((text.argument_text name w ++ others) ++ rest)) (cursor (n + 1) (others ++ rest)) own w refl here ∙ more.1 ∙ appended done w ws (cursor more.0 rest))

pub buffers_forth : (ps : List Parameter) (done : List (List Word)) (qs : List Parameter) (bs : List (List Word)) (rest : List ℕ) (n : ℕ) → AreNamed qs → AllZip AreWords (kinds buffer_kind qs) bs → words_of done + words_of bs ≤ most_words → (m : ℕ) × (each (buffer_due ps) done qs (cursor n (text.buffers_text qs bs ++ rest)) ≡ Ok (done ++ bs, cursor m rest))
buffers_forth ps done [] [] rest n i h l = (n, each_ends (buffer_due ps) done (cursor n rest))
buffers_forth ps done [] (b ∷ bs) rest n i h l = absurd h
buffers_forth ps done (Value k site name ∷ qs) bs rest n i h l =
    let more = buffers_forth ps done qs bs rest n i.1 h l in
    (more.0, each_skips (buffer_due ps) done (Value k site name) qs (cursor n (text.buffers_text qs bs ++ rest)) refl ∙ more.1)
buffers_forth ps done (Buffer constant k site name ∷ qs) [] rest n i h l = absurd h
buffers_forth ps done (Buffer constant k site name ∷ qs) (b ∷ bs) rest n i h l =
    let others = text.buffers_text qs bs in
    let one = sum_by-cons length b bs in
    let pushed = words-push done b in
    let fewer : words_of (done ++ b ∷ []) + words_of bs ≤ most_words = omega (arith, l, one, pushed) in
    let more = buffers_forth ps (done ++ b ∷ []) qs bs rest (n + 1) i.1 h.1 fewer in
    let own = buffer_line ps (most_words - words_of done) k name in
    let fits : length b ≤ most_words - words_of done = omega (arith, l, one) in
    let here : own (cursor n ((text.buffer_text name b ++ others) ++ rest)) ≡ Ok (b, cursor (n + 1) (others ++ rest)) =
    ap (λ bytes. own (cursor n bytes)) (buffer_shape name (flat_map text.word_text b) others rest) ∙ buffer_forth ps (most_words - words_of done) k name b (others ++ rest) n i.0 h.0 fits in
    (more.0, each_goes (buffer_due ps) done (Buffer constant k site name) qs (cursor n ((text.buffer_text name b ++ others) ++ rest)) (cursor (n + 1) (others ++ rest)) own b refl here ∙ more.1 ∙ appended done b bs (cursor more.0 rest))
