-- A launch that is read is one of the kernel for which it is read.
use Rattle.std.proofs.Common.{◌≡◌, ℕ, zero, suc, ◌+◌, ◌-◌, ◌<◌, ◌≤◌, ◌^◌, true, nat_lt, List, [], ◌∷◌, ◌++◌, length, map, Ok, refl, ap, subst, inl, inr, ◌⊎◌, arith}
use Rattle.std.specs.Prelude.{codes, replicate}
use Rattle.std.specs.List.{All, AllZip}
use Rattle.std.proofs.lemmas.Bool.{cond_both}
use Rattle.std.proofs.lemmas.List.{length-map, length-append, map_push}
use Rattle.std.proofs.lemmas.List.Elements.{All-nil, All-cons, All-push}
use Rattle.semantics.specs.Word.{Kind, Word, in_kind}
use Rattle.semantics.specs.Launch.{Kernel, Three, IsCount, IsArgument, IsBuffer, Fits}
use Rattle.texts.specs.Surface.{Parameter, Buffer, Value}
use Rattle.launch_text.specs.LaunchFaults.{LimitPassed, Cursor, Step, cursor, refused, then, sees, past, expect, end_line}
use Rattle.launch_text.specs.LaunchWords.{natural_at, word_at, head_line, end_text, due_blank, due_parameter}
use Rattle.launch_text.specs.LaunchReading.{TypedLaunch, number, meant, counts, groups_line, argument_line, argument_due, argument_lines, list_at, fill_at, words_at, most_words, words_of, buffer_line, buffer_due, buffer_lines, fill_line, given, launch_at, launch_of}
use Rattle.launch_text.proofs.Back.{then_back, same_back, unless_back, natural_back, word_back}
use Rattle.kernel_names.specs.Parameters.{kinds, value_kind, buffer_kind}
use Rattle.launch_text.proofs.Parameters.{Skips, Reads, each_back}

abbrev AreThree : Three ℕ → Type 0
AreThree t = IsCount t.x × IsCount t.y × IsCount t.z

groups_fit : (c : Cursor) (t : Three ℕ × Cursor) → groups_line c ≡ Ok t → AreThree t.0
unfolding groups_line
groups_fit c t e =
    let a = then_back (due_blank _ _ c) _ t e in
    let x = then_back (natural_at 1 65536 a.0) _ t a.2 in
    let b = then_back (expect _ x.0.1) _ t x.2 in
    let y = then_back (natural_at 1 65536 b.0) _ t b.2 in
    let d = then_back (expect _ y.0.1) _ t y.2 in
    let z = then_back (natural_at 1 65536 d.0) _ t d.2 in
    let f = then_back (end_line z.0.1) _ t z.2 in
    subst (λ (r : Three ℕ × Cursor). AreThree r.0) (same_back (counts x.0.0 y.0.0 z.0.0, f.0) t f.2)
    (natural_back 1 65536 a.0 x.0 x.1, natural_back 1 65536 b.0 y.0 y.1, natural_back 1 65536 d.0 z.0 z.1)

argument_fits : (ps : List Parameter) (k : Kind) (name : List ℕ) (c : Cursor) (t : Word × Cursor) → argument_line ps k name c ≡ Ok t → IsArgument k t.0
unfolding argument_line
argument_fits ps k name c t e =
    let a = then_back (due_parameter _ _ ps name c) _ t e in
    let b = then_back (word_at k a.0) _ t a.2 in
    let d = then_back (end_line b.0.1) _ t b.2 in
    subst (λ (r : Word × Cursor). IsArgument k r.0) (same_back (b.0.0, d.0) t d.2) (word_back k a.0 b.0 b.1)

argument_one : (ps : List Parameter) (done : List Word) (p : Parameter) → Skips (argument_due ps) value_kind done p ⊎ Reads (argument_due ps) value_kind IsArgument done p
argument_one ps done (Buffer constant k site name) = inl (record { no_line = refl; no_kind = refl })
argument_one ps done (Value k site name) = inr (record { own = argument_line ps k name; kind = k; is_line = refl; is_kind = refl; good = argument_fits ps k name })

-- words of a kind, at most so many
abbrev AreWords : Kind → ℕ → List Word → Type 0
AreWords k most ws = (length ws ≤ most) × All (λ z. in_kind k z ≡ true) (map number ws)

kept : (k : Kind) (most : ℕ) (ws : List Word) (c : Cursor) (t : List Word × Cursor) → AreWords k most ws → (let s : Step (List Word × Cursor) = Ok (ws, c) in s ≡ Ok t) → AreWords k most t.0
kept k most ws c t h e = subst (λ (r : List Word × Cursor). AreWords k most r.0) (same_back (ws, c) t e) h

list_fits : (k : Kind) (room most : ℕ) (ws : List Word) (c : Cursor) (t : List Word × Cursor) → length ws + room ≤ most → AreWords k most ws → list_at k room ws c ≡ Ok t → AreWords k most t.0
unfolding list_at
list_fits k zero most ws c t l h =
    cond_both (sees (codes " ") c) (then (word_at k (past 1 c)) (λ u. refused LimitPassed u.1)) (Ok (ws, c)) (λ s. s ≡ Ok t → AreWords k most t.0)
    (λ _ e. let one = then_back (word_at k (past 1 c)) _ t e in absurd cc)
    (λ _ e. kept k most ws c t h e)
list_fits k (suc room) most ws c t l h =
    cond_both (sees (codes " ") c) (then (word_at k (past 1 c)) (λ u. list_at k room (ws ++ u.0 ∷ []) u.1)) (Ok (ws, c)) (λ s. s ≡ Ok t → AreWords k most t.0)
    (λ _ e. let one = then_back (word_at k (past 1 c)) _ t e in
    let longer = length-append ws (one.0.0 ∷ []) in
    list_fits k room most (ws ++ one.0.0 ∷ []) one.0.1 t (omega arith)
    (omega arith, rw map_push (All-push (λ z. in_kind k z ≡ true) (map number ws) one.0.0.value h.1 (word_back k (past 1 c) one.0 one.1).1)) one.2)
    (λ _ e. kept k most ws c t h e)

filled_fits : (k : Kind) (n : ℕ) (w : Word) → in_kind k w.value ≡ true → (length (replicate n w) ≡ n) × All (λ z. in_kind k z ≡ true) (map number (replicate n w))
filled_fits k zero w h = (refl, All-nil (λ z. in_kind k z ≡ true))
filled_fits k (suc n) w h =
    let more = filled_fits k n w h in
    (ap suc more.0, All-cons (λ z. in_kind k z ≡ true) w.value (map number (replicate n w)) h more.1)

fill_fits : (k : Kind) (room : ℕ) (c : Cursor) (t : List Word × Cursor) → fill_at k room c ≡ Ok t → AreWords k room t.0
unfolding fill_at
fill_fits k room c t e =
    let a = then_back (expect _ c) _ t e in
    let n = then_back (natural_at 0 room a.0) _ t a.2 in
    let b = then_back (expect _ n.0.1) _ t n.2 in
    let w = then_back (word_at k b.0) _ t b.2 in
    let all = filled_fits k n.0.0 w.0.0 (word_back k b.0 w.0 w.1).1 in
    let few = (natural_back 0 room a.0 n.0 n.1).1 in
    subst (λ (r : List Word × Cursor). AreWords k room r.0) (same_back (replicate n.0.0 w.0.0, w.0.1) t w.2) (omega (arith, all.0), all.1)

words_fit : (k : Kind) (room : ℕ) (c : Cursor) (t : List Word × Cursor) → words_at k room c ≡ Ok t → AreWords k room t.0
unfolding words_at
words_fit k room c t =
    cond_both (sees (codes "list") c) (list_at k room [] (past 4 c)) (fill_at k room c) (λ s. s ≡ Ok t → AreWords k room t.0)
    (λ _ e. list_fits k room room [] (past 4 c) t (omega arith) (omega arith, All-nil (λ z. in_kind k z ≡ true)) e)
    (λ _ e. fill_fits k room c t e)

abbrev IsBufferOf : Kind → List Word → Type 0
IsBufferOf k ws = IsBuffer k (map number ws)

buffer_fits : (ps : List Parameter) (room : ℕ) → room ≤ 1048576 → (k : Kind) (name : List ℕ) (c : Cursor) (t : List Word × Cursor) → buffer_line ps room k name c ≡ Ok t → IsBufferOf k t.0
unfolding buffer_line
buffer_fits ps room l k name c t e =
    let a = then_back (due_parameter _ _ ps name c) _ t e in
    let b = then_back (words_at k room a.0) _ t a.2 in
    let d = then_back (end_line b.0.1) _ t b.2 in
    let h = words_fit k room a.0 b.0 b.1 in
    let same = length-map b.0.0 number in
    subst (λ (r : List Word × Cursor). IsBufferOf k r.0) (same_back (b.0.0, d.0) t d.2) (omega arith, h.1)

room_left : (n : ℕ) → most_words - n ≤ 1048576
room_left n = omega arith

buffer_one : (ps : List Parameter) (done : List (List Word)) (p : Parameter) → Skips (buffer_due ps) buffer_kind done p ⊎ Reads (buffer_due ps) buffer_kind IsBufferOf done p
buffer_one ps done (Buffer constant k site name) = inr (record { own = buffer_line ps (most_words - words_of done) k name; kind = k; is_line = refl; is_kind = refl; good = buffer_fits ps (most_words - words_of done) (room_left (words_of done)) k name })
buffer_one ps done (Value k site name) = inl (record { no_line = refl; no_kind = refl })

fill_small : (c : Cursor) (t : ℕ × Cursor) → fill_line c ≡ Ok t → t.0 < 2 ^ 31
unfolding fill_line
fill_small c t e =
    let a = then_back (due_blank _ _ c) _ t e in
    let n = then_back (natural_at 0 2147483647 a.0) _ t a.2 in
    let d = then_back (end_line n.0.1) _ t n.2 in
    let few = (natural_back 0 2147483647 a.0 n.0 n.1).1 in
    subst (λ (r : ℕ × Cursor). r.0 < 2 ^ 31) (same_back (n.0.0, d.0) t d.2) (omega arith)

zip_map : {A B C : Type 0} (P : A → C → Type 0) (f : B → C) (xs : List A) (ys : List B) → AllZip (λ a b. P a (f b)) xs ys → AllZip P xs (map f ys)
zip_map P f [] [] h = tt
zip_map P f [] (y ∷ ys) h = absurd h
zip_map P f (x ∷ xs) [] h = absurd h
zip_map P f (x ∷ xs) (y ∷ ys) h = (h.0, zip_map P f xs ys h.1)

lines_fit : (kernel : Kernel) (ps : List Parameter) → kernel.arguments ≡ kinds value_kind ps → kernel.buffers ≡ kinds buffer_kind ps → (c : Cursor) (x : TypedLaunch) → launch_at ps c ≡ Ok x → Fits kernel (meant x)
unfolding launch_at
lines_fit kernel ps own shared c x e =
    let head = then_back (head_line _ _ c) _ x e in
    let groups = then_back (groups_line head.0) _ x head.2 in
    let arguments = then_back (argument_lines ps groups.0.1) _ x groups.2 in
    let buffers = then_back (buffer_lines ps arguments.0.1) _ x arguments.2 in
    let fill = then_back (fill_line buffers.0.1) _ x buffers.2 in
    let end = then_back (end_text fill.0.1) _ x fill.2 in
    let counts = groups_fit head.0 groups.0 groups.1 in
    let words : AllZip IsArgument kernel.arguments arguments.0.0 = rw own (each_back (argument_due ps) value_kind IsArgument (argument_one ps) [] [] ps groups.0.1 arguments.0 tt arguments.1) in
    let lists : AllZip IsBufferOf kernel.buffers buffers.0.0 = rw shared (each_back (buffer_due ps) buffer_kind IsBufferOf (buffer_one ps) [] [] ps arguments.0.1 buffers.0 tt buffers.1) in
    subst (λ (y : TypedLaunch). Fits kernel (meant y)) (same_back (given groups.0.0 arguments.0.0 buffers.0.0 fill.0.0) x end.2) (record {
      count_x = counts.0;
      count_y = counts.1;
      count_z = counts.2;
      arguments = words;
      buffers = zip_map IsBuffer (map number) kernel.buffers buffers.0.0 lists;
      fill = fill_small buffers.0.1 fill.0 fill.1;
    })

pub launch_fits : (kernel : Kernel) (ps : List Parameter) → kernel.arguments ≡ kinds value_kind ps → kernel.buffers ≡ kinds buffer_kind ps → (text : List ℕ) (x : TypedLaunch) → launch_of ps text ≡ Ok x → Fits kernel (meant x)
launch_fits kernel ps own shared text x e =
    lines_fit kernel ps own shared (cursor 1 text) x (unless_back (nat_lt 4194304 (length text)) (launch_at ps (cursor 1 text)) LimitPassed (cursor 1 text) x e).1
