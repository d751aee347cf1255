-- What is read of a launch text is what its text says.
use Rattle.std.proofs.Common.{◌≡◌, ℕ, zero, suc, ◌-◌, ◌<◌, ◌≤◌, ◌^◌, nat_lt, List, [], ◌∷◌, ◌++◌, length, map, Ok, refl, ap, sym, ◌∙◌, subst, append_assoc, arith}
use Rattle.std.specs.Prelude.{codes, replicate, sum_by}
use Rattle.std.specs.Fmt.{decimal, signed_decimal}
use Rattle.std.proofs.lemmas.Bool.{cond_both}
use Rattle.std.proofs.lemmas.List.{append-nil, length-map}
use Rattle.std.proofs.lemmas.List.Sums.{sum_by-cons}
use Rattle.semantics.specs.Word.{Kind, Word}
use Rattle.semantics.specs.Launch.{Three, IsCount, IsArgument}
use Rattle.texts.specs.Surface.{Parameter, Buffer, Value}
use Rattle.launch_text.specs.LaunchFaults.{LimitPassed, Cursor, Step, cursor, refused, then, sees, past, expect, end_line}
use Rattle.launch_text.specs.LaunchWords.{Launch, natural_at, word_at, due_blank, due_parameter, head_line, end_text, each}
use Rattle.launch_text.specs.LaunchReading.{TypedLaunch, number, meant, counts, groups_line, argument_line, argument_due, argument_lines, list_at, fill_at, words_at, most_words, words_of, buffer_line, buffer_due, buffer_lines, fill_line, given, launch_at, launch_limit, launch_of}
use Rattle.launch_text.specs.LaunchText.{argument_text, fill_text}
use Rattle.launch_text.specs.LaunchSpelling.{AreListed, no_word, a_word, AreContents, listed, filled, contents_text, counts_text, AreWordLines, no_argument, past_buffer, an_argument, AreBufferLines, no_buffer, past_value, a_buffer, AreLaunchLines, IsLaunchText}
use Rattle.lines.proofs.Fronts.{begins}
use Rattle.launch_text.proofs.Back.{then_back, same_back, unless_back, natural_back, word_back}
use Rattle.launch_text.proofs.Fills.{map-filled}
use Rattle.launch_text.proofs.Lists.{words-push}
use Rattle.launch_text.proofs.Taken.{expect_took, end_took, natural_took, word_took, due_blank_took, due_parameter_took, head_took, end_text_took}
use Rattle.launch_text.proofs.SumsTaken.{Took, joined}
use Rattle.launch_text.proofs.LinesTaken.{TookLines, no_line, one_line, argument_shape, not_above}

-- what the line of groups said
abbrev TookCounts : Cursor → Three ℕ × Cursor → Type 0
TookCounts c t = (c.rest ≡ counts_text t.0 ++ t.1.rest) × (IsCount t.0.x × IsCount t.0.y × IsCount t.0.z)

pub counts_shape : (x y z rest : List ℕ) → codes "groups " ++ (x ++ (32 ∷ (y ++ (32 ∷ (z ++ (10 ∷ rest)))))) ≡ (codes "groups " ++ (x ++ (codes " " ++ (y ++ (codes " " ++ (z ++ 10 ∷ [])))))) ++ rest
counts_shape x y z rest = simp append_assoc

counts_whole : (g : Three ℕ) (rest whole a b d e f h : List ℕ) → whole ≡ codes "groups" ++ (32 ∷ a) → a ≡ decimal g.x ++ b → b ≡ 32 ∷ d → d ≡ decimal g.y ++ e → e ≡ 32 ∷ f → f ≡ decimal g.z ++ h → h ≡ 10 ∷ rest → whole ≡ counts_text g ++ rest
counts_whole g rest whole a b d e f h p q r s t u v =
    p ∙ ap (λ w. codes "groups " ++ w) (q ∙ ap (λ w. decimal g.x ++ w) (r ∙ ap (λ w. 32 ∷ w) (s ∙ ap (λ w. decimal g.y ++ w) (t ∙ ap (λ w. 32 ∷ w) (u ∙ ap (λ w. decimal g.z ++ w) v)))))
    ∙ counts_shape (decimal g.x) (decimal g.y) (decimal g.z) rest

groups_took : (c : Cursor) (t : Three ℕ × Cursor) → groups_line c ≡ Ok t → TookCounts c t
unfolding groups_line
groups_took c t e =
    let a = then_back (due_blank _ _ c) _ t e in
    let x = then_back (natural_at 1 65536 a.0) _ t a.2 in
    let b = then_back (expect _ x.0.1) _ t x.2 in
    let y = then_back (natural_at 1 65536 b.0) _ t b.2 in
    let d = then_back (expect _ y.0.1) _ t y.2 in
    let z = then_back (natural_at 1 65536 d.0) _ t d.2 in
    let f = then_back (end_line z.0.1) _ t z.2 in
    subst (λ (r : Three ℕ × Cursor). TookCounts c r) (same_back (counts x.0.0 y.0.0 z.0.0, f.0) t f.2) (
      counts_whole (counts x.0.0 y.0.0 z.0.0) f.0.rest c.rest a.0.rest x.0.1.rest b.0.rest y.0.1.rest d.0.rest z.0.1.rest (due_blank_took Launch (codes "groups") c a.0 a.1) (natural_took 1 65536 a.0 x.0 x.1)
          (expect_took (codes " ") x.0.1 b.0 b.1) (natural_took 1 65536 b.0 y.0 y.1) (expect_took (codes " ") y.0.1 d.0 d.1) (natural_took 1 65536 d.0 z.0 z.1) (end_took z.0.1 f.0 f.1),
      (natural_back 1 65536 a.0 x.0 x.1, natural_back 1 65536 b.0 y.0 y.1, natural_back 1 65536 d.0 z.0 z.1),
    )

-- what the line of an argument said
abbrev TookArgument : Kind → (name : List ℕ) → Cursor → Word × Cursor → Type 0
TookArgument k name c t = (c.rest ≡ argument_text name t.0 ++ t.1.rest) × IsArgument k t.0

argument_whole : (name : List ℕ) (w : Word) (rest whole a b : List ℕ) → whole ≡ codes "arg" ++ (32 ∷ (name ++ (32 ∷ a))) → a ≡ signed_decimal w.value ++ b → b ≡ 10 ∷ rest → whole ≡ argument_text name w ++ rest
argument_whole name w rest whole a b p q r =
    p ∙ ap (λ x. codes "arg " ++ (name ++ (32 ∷ x))) (q ∙ ap (λ x. signed_decimal w.value ++ x) r) ∙ argument_shape name (signed_decimal w.value) rest

argument_took : (ps : List Parameter) (k : Kind) (name : List ℕ) (c : Cursor) (t : Word × Cursor) → argument_line ps k name c ≡ Ok t → TookArgument k name c t
unfolding argument_line
argument_took ps k name c t e =
    let a = then_back (due_parameter _ _ ps name c) _ t e in
    let b = then_back (word_at k a.0) _ t a.2 in
    let d = then_back (end_line b.0.1) _ t b.2 in
    subst (λ (r : Word × Cursor). TookArgument k name c r) (same_back (b.0.0, d.0) t d.2) (
      argument_whole name b.0.0 d.0.rest c.rest a.0.rest b.0.1.rest (due_parameter_took Launch (codes "arg") ps name c a.0 a.1) (word_took k a.0 b.0 b.1) (end_took b.0.1 d.0 d.1),
      word_back k a.0 b.0 b.1,
    )

map_same : (ws : List Word) → map (λ (w : Word). w) ws ≡ ws
map_same [] = refl
map_same (w ∷ ws) = ap (λ vs. w ∷ vs) (map_same ws)

arguments_took : (all : List Parameter) (done : List Word) (ps : List Parameter) (c : Cursor) (t : List Word × Cursor) → each (argument_due all) done ps c ≡ Ok t → TookLines (AreWordLines ps) (λ (w : Word). w) done c t
unfolding each
arguments_took all done [] c t e = no_line (AreWordLines []) (λ (w : Word). w) done c t no_argument e
arguments_took all done (Buffer constant k site name ∷ ps) c t e =
    let others = arguments_took all done ps c t e in
    record { read = others.read; all = others.all; lines = others.lines; are = past_buffer constant k site name others.are; rest = others.rest }
arguments_took all done (Value k site name ∷ ps) c t e =
    let u = then_back (argument_line all k name c) _ t e in
    let one = argument_took all k name c u.0 u.1 in
    one_line (AreWordLines ps) (AreWordLines (Value k site name ∷ ps)) (λ (w : Word). w) done u.0.0 (argument_text name u.0.0) c u.0.1 t one.0
    (λ lines ws more. an_argument k site name u.0.0 one.1 more) (arguments_took all (done ++ u.0.0 ∷ []) ps u.0.1 t u.2)

-- what a list's reader adds to the words before it
pub record TookList (k : Kind) (room : ℕ) (done : List Word) (c : Cursor) (t : List Word × Cursor) : Type 0 where
  pub words : List Word
  pub all : t.0 ≡ done ++ words
  pub few : length words ≤ room
  pub bytes : List ℕ
  pub are : AreListed k bytes (map number words)
  pub rest : c.rest ≡ bytes ++ t.1.rest

no_more : (k : Kind) (room : ℕ) (done : List Word) (c : Cursor) (t : List Word × Cursor) → (let s : Step (List Word × Cursor) = Ok (done, c) in s ≡ Ok t) → TookList k room done c t
no_more k room done c t e = subst (λ t. TookList k room done c t) (same_back (done, c) t e) (record { words = []; all = sym (append-nil done); few = omega arith; bytes = []; are = no_word; rest = refl })

word_whole : (word bytes rest whole a b : List ℕ) → whole ≡ 32 ∷ a → a ≡ word ++ b → b ≡ bytes ++ rest → whole ≡ (codes " " ++ (word ++ bytes)) ++ rest
word_whole word bytes rest whole a b p q r = p ∙ ap (λ x. 32 ∷ x) (q ∙ ap (λ x. word ++ x) r ∙ sym (append_assoc word bytes rest))

list_took : (k : Kind) (room : ℕ) (done : List Word) (c : Cursor) (t : List Word × Cursor) → list_at k room done c ≡ Ok t → TookList k room done c t
unfolding list_at
list_took k zero done c t =
    cond_both (sees (codes " ") c) (then (word_at k (past 1 c)) (λ u. refused LimitPassed u.1)) (Ok (done, c)) (λ s. s ≡ Ok t → TookList k zero done c t)
    (λ _ e. let one = then_back (word_at k (past 1 c)) _ t e in absurd cc)
    (λ _ e. no_more k zero done c t e)
list_took k (suc room) done c t =
    cond_both (sees (codes " ") c) (then (word_at k (past 1 c)) (λ u. list_at k room (done ++ u.0 ∷ []) u.1)) (Ok (done, c)) (λ s. s ≡ Ok t → TookList k (suc room) done c t)
    (λ h e. let one = then_back (word_at k (past 1 c)) _ t e in
    let others = list_took k room (done ++ one.0.0 ∷ []) one.0.1 t one.2 in
    record {
      words = one.0.0 ∷ others.words;
      all = others.all ∙ append_assoc done (one.0.0 ∷ []) others.words;
      few = omega (arith, others.few);
      bytes = codes " " ++ (signed_decimal one.0.0.value ++ others.bytes);
      are = a_word one.0.0.value (word_back k (past 1 c) one.0 one.1).1 others.are;
      rest = word_whole (signed_decimal one.0.0.value) others.bytes t.1.rest c.rest (past 1 c).rest one.0.1.rest (begins c.rest (codes " ") h) (word_took k (past 1 c) one.0 one.1) others.rest;
    })
    (λ _ e. no_more k (suc room) done c t e)

-- what a buffer's words were read of
abbrev TookWords : Kind → (room : ℕ) → Cursor → List Word × Cursor → Type 0
TookWords k room c t = Took (λ bytes. AreContents k bytes (map number t.0)) c t.1 × (length t.0 ≤ room)

pub length_filled : (n : ℕ) (w : Word) → length (replicate n w) ≡ n
length_filled zero w = refl
length_filled (suc n) w = ap suc (length_filled n w)

fill_took : (k : Kind) (room : ℕ) (c : Cursor) (t : List Word × Cursor) → fill_at k room c ≡ Ok t → TookWords k room c t
unfolding fill_at
fill_took k room c t e =
    let a = then_back (expect _ c) _ t e in
    let n = then_back (natural_at 0 room a.0) _ t a.2 in
    let b = then_back (expect _ n.0.1) _ t n.2 in
    let w = then_back (word_at k b.0) _ t b.2 in
    let few = (natural_back 0 room a.0 n.0 n.1).1 in
    let contents : List ℕ = codes "fill " ++ (decimal n.0.0 ++ (codes " " ++ signed_decimal w.0.0.value)) in
    subst (λ (r : List Word × Cursor). TookWords k room c r) (same_back (replicate n.0.0 w.0.0, w.0.1) t w.2) (
      (
        contents,
        subst (λ zs. AreContents k contents zs) (sym (map-filled number n.0.0 w.0.0)) (filled n.0.0 w.0.0.value (word_back k b.0 w.0 w.1).1),
        expect_took (codes "fill ") c a.0 a.1 ∙ ap (λ x. codes "fill " ++ x) (joined (codes " ") (decimal n.0.0) (signed_decimal w.0.0.value) w.0.1.rest a.0.rest n.0.1.rest b.0.rest (natural_took 0 room a.0 n.0 n.1) (expect_took (codes " ") n.0.1 b.0 b.1) (word_took k b.0 w.0 w.1)),
      ),
      omega (arith, length_filled n.0.0 w.0.0),
    )

words_took : (k : Kind) (room : ℕ) (c : Cursor) (t : List Word × Cursor) → words_at k room c ≡ Ok t → TookWords k room c t
unfolding words_at
words_took k room c t =
    cond_both (sees (codes "list") c) (list_at k room [] (past 4 c)) (fill_at k room c) (λ s. s ≡ Ok t → TookWords k room c t)
    (λ h e. let l = list_took k room [] (past 4 c) t e in (
      (codes "list" ++ l.bytes, subst (λ ws. AreContents k (codes "list" ++ l.bytes) (map number ws)) (sym l.all) (listed l.are), begins c.rest (codes "list") h ∙ ap (λ x. codes "list" ++ x) l.rest),
      subst (λ ws. length ws ≤ room) (sym l.all) l.few,
    ))
    (λ _ e. fill_took k room c t e)

-- what the line of a buffer said
pub record TookBuffer (k : Kind) (room : ℕ) (name : List ℕ) (c : Cursor) (t : List Word × Cursor) : Type 0 where
  pub contents : List ℕ
  pub are : AreContents k contents (map number t.0)
  pub few : length t.0 ≤ room
  pub rest : c.rest ≡ contents_text name contents ++ t.1.rest

pub buffer_shape : (name contents rest : List ℕ) → codes "buffer " ++ (name ++ (32 ∷ (contents ++ (10 ∷ rest)))) ≡ (codes "buffer " ++ (name ++ (codes " " ++ (contents ++ 10 ∷ [])))) ++ rest
buffer_shape name contents rest = simp append_assoc

buffer_whole : (name contents rest whole a b : List ℕ) → whole ≡ codes "buffer" ++ (32 ∷ (name ++ (32 ∷ a))) → a ≡ contents ++ b → b ≡ 10 ∷ rest → whole ≡ contents_text name contents ++ rest
buffer_whole name contents rest whole a b p q r = p ∙ ap (λ x. codes "buffer " ++ (name ++ (32 ∷ x))) (q ∙ ap (λ x. contents ++ x) r) ∙ buffer_shape name contents rest

buffer_took : (ps : List Parameter) (room : ℕ) (k : Kind) (name : List ℕ) (c : Cursor) (t : List Word × Cursor) → buffer_line ps room k name c ≡ Ok t → TookBuffer k room name c t
unfolding buffer_line
buffer_took ps room k name c t e =
    let a = then_back (due_parameter _ _ ps name c) _ t e in
    let b = then_back (words_at k room a.0) _ t a.2 in
    let d = then_back (end_line b.0.1) _ t b.2 in
    let w = words_took k room a.0 b.0 b.1 in
    subst (λ (r : List Word × Cursor). TookBuffer k room name c r) (same_back (b.0.0, d.0) t d.2) (record {
      contents = w.0.0;
      are = w.0.1;
      few = w.1;
      rest = buffer_whole name w.0.0 d.0.rest c.rest a.0.rest b.0.1.rest (due_parameter_took Launch (codes "buffer") ps name c a.0 a.1) w.0.2 (end_took b.0.1 d.0 d.1);
    })

-- buffers behind those before, with no more words than a text gives
abbrev TookBuffers : List Parameter → List (List Word) → Cursor → List (List Word) × Cursor → Type 0
TookBuffers ps done c t = TookLines (AreBufferLines ps) (map number) done c t × (words_of t.0 ≤ most_words)

buffers_took : (all : List Parameter) (done : List (List Word)) (ps : List Parameter) (c : Cursor) (t : List (List Word) × Cursor) → words_of done ≤ most_words → each (buffer_due all) done ps c ≡ Ok t → TookBuffers ps done c t
unfolding each
buffers_took all done [] c t l e =
    (no_line (AreBufferLines []) (map number) done c t no_buffer e, subst (λ (r : List (List Word) × Cursor). words_of r.0 ≤ most_words) (same_back (done, c) t e) l)
buffers_took all done (Value k site name ∷ ps) c t l e =
    let more = buffers_took all done ps c t l e in
    let others = more.0 in
    (record { read = others.read; all = others.all; lines = others.lines; are = past_value k site name others.are; rest = others.rest }, more.1)
buffers_took all done (Buffer constant k site name ∷ ps) c t l e =
    let u = then_back (buffer_line all (most_words - words_of done) k name c) _ t e in
    let one = buffer_took all (most_words - words_of done) k name c u.0 u.1 in
    let more = buffers_took all (done ++ u.0.0 ∷ []) ps u.0.1 t (omega (arith, words-push done u.0.0, one.few)) u.2 in (
      one_line (AreBufferLines ps) (AreBufferLines (Buffer constant k site name ∷ ps)) (map number) done u.0.0 (contents_text name one.contents) c u.0.1 t one.rest
          (λ lines buffers after. a_buffer constant k site name one.are after) more.0,
      more.1,
    )

-- what the line of the fill said
abbrev TookFill : Cursor → ℕ × Cursor → Type 0
TookFill c t = (c.rest ≡ fill_text t.0 ++ t.1.rest) × (t.0 < 2 ^ 31)

fill_shape : (word rest : List ℕ) → codes "fill " ++ (word ++ (10 ∷ rest)) ≡ (codes "fill " ++ (word ++ 10 ∷ [])) ++ rest
fill_shape word rest = simp append_assoc

fill_line_took : (c : Cursor) (t : ℕ × Cursor) → fill_line c ≡ Ok t → TookFill c t
unfolding fill_line
fill_line_took c t e =
    let a = then_back (due_blank _ _ c) _ t e in
    let n = then_back (natural_at 0 2147483647 a.0) _ t a.2 in
    let d = then_back (end_line n.0.1) _ t n.2 in
    let few = (natural_back 0 2147483647 a.0 n.0 n.1).1 in
    subst (λ (r : ℕ × Cursor). TookFill c r) (same_back (n.0.0, d.0) t d.2) (
      due_blank_took Launch (codes "fill") c a.0 a.1 ∙ ap (λ x. codes "fill " ++ x) (natural_took 0 2147483647 a.0 n.0 n.1 ∙ ap (λ x. decimal n.0.0 ++ x) (end_took n.0.1 d.0 d.1)) ∙ fill_shape (decimal n.0.0) d.0.rest,
      omega (arith, few),
    )

words_meant : (buffers : List (List Word)) → sum_by length (map (map number) buffers) ≡ words_of buffers
words_meant [] = refl
words_meant (ws ∷ buffers) =
    omega (arith, words_meant buffers, length-map ws number, sum_by-cons length ws buffers, sum_by-cons length (map number ws) (map (map number) buffers))

whole : (all groups arguments buffers fill r1 r2 r3 r4 r5 : List ℕ) → all ≡ codes "launch" ++ (32 ∷ 49 ∷ 10 ∷ r1) → r1 ≡ groups ++ r2 → r2 ≡ arguments ++ r3 → r3 ≡ buffers ++ r4 → r4 ≡ fill ++ r5 → r5 ≡ []
    → all ≡ codes "launch 1" ++ (10 ∷ (groups ++ (arguments ++ (buffers ++ fill))))
whole all groups arguments buffers fill r1 r2 r3 r4 r5 a b c d e f =
    a ∙ ap (λ x. codes "launch 1" ++ (10 ∷ x)) (b ∙ ap (λ x. groups ++ x) (c ∙ ap (λ x. arguments ++ x) (d ∙ ap (λ x. buffers ++ x) (e ∙ ap (λ x. fill ++ x) f ∙ append-nil fill))))

lines_took : (ps : List Parameter) (c : Cursor) (x : TypedLaunch) → launch_at ps c ≡ Ok x → AreLaunchLines ps c.rest (meant x)
unfolding launch_at
lines_took ps c x e =
    let head = then_back (head_line _ _ c) _ x e in
    let groups = then_back (groups_line head.0) _ x head.2 in
    let arguments = then_back (argument_lines ps groups.0.1) _ x groups.2 in
    let buffers = then_back (buffer_lines ps arguments.0.1) _ x arguments.2 in
    let fill = then_back (fill_line buffers.0.1) _ x buffers.2 in
    let end = then_back (end_text fill.0.1) _ x fill.2 in
    let g = groups_took head.0 groups.0 groups.1 in
    let a = arguments_took ps [] ps groups.0.1 arguments.0 arguments.1 in
    let b = buffers_took ps [] ps arguments.0.1 buffers.0 (omega arith) buffers.1 in
    let lines = b.0 in
    let f = fill_line_took buffers.0.1 fill.0 fill.1 in
    subst (λ (y : TypedLaunch). AreLaunchLines ps c.rest (meant y)) (same_back (given groups.0.0 arguments.0.0 buffers.0.0 fill.0.0) x end.2) (record {
      argument_lines = a.lines;
      buffer_lines = lines.lines;
      is_text = whole c.rest (counts_text groups.0.0) a.lines lines.lines (fill_text fill.0.0) head.0.rest groups.0.1.rest arguments.0.1.rest buffers.0.1.rest fill.0.1.rest
          (head_took Launch (codes "launch") c head.0 head.1) g.0 a.rest lines.rest f.0 (end_text_took fill.0.1 end.0 end.1);
      count_x = g.1.0;
      count_y = g.1.1;
      count_z = g.1.2;
      arguments = subst (λ ws. AreWordLines ps a.lines ws) (map_same a.read ∙ sym a.all) a.are;
      buffers = subst (λ bs. AreBufferLines ps lines.lines (map (map number) bs)) (sym lines.all) lines.are;
      few_words = omega (arith, words_meant buffers.0.0, b.1);
      fill = f.1;
      machine = refl;
    })

pub launch_took : (ps : List Parameter) (text : List ℕ) (x : TypedLaunch) → launch_of ps text ≡ Ok x → IsLaunchText ps text (meant x)
launch_took ps text x e =
    let h = unless_back (nat_lt launch_limit (length text)) (launch_at ps (cursor 1 text)) LimitPassed (cursor 1 text) x e in
    record { lines = lines_took ps (cursor 1 text) x h.1; within_limit = not_above launch_limit (length text) h.0 }
