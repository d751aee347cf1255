-- The numbers of a result are of the kinds of their buffers, so that they are read as themselves.
use Rattle.std.proofs.Common.{◌≡◌, ◌<◌, ◌≤◌, ◌++◌, ℕ, zero, suc, ℤ, pos, List, [], ◌∷◌, true, length, map, drop, refl, sym, ap, ◌∙◌, subst, arith}
use Rattle.std.specs.Prelude.{slice_index_or, Vec}
use Rattle.std.specs.declared.alloc.Global.{Global}
use Rattle.std.proofs.lemmas.List.{length-map, drop_all, append-nil}
use Rattle.std.proofs.lemmas.List.Elements.{All-map}
use Rattle.std.proofs.lemmas.Slice.Zip.{AllZip-long}
use Rattle.semantics.specs.Word.{Kind, Int, Word, in_kind}
use Rattle.semantics.specs.Launch.{IsBuffer, Fits}
use Rattle.semantics.specs.Setup.{Setup}
use Rattle.semantics.specs.Memory.{Memory, Cell, kind_at}
use Rattle.semantics.specs.World.{opening_world}
use Rattle.semantics.specs.Headline.{Headline}
use Rattle.semantics.specs.Rounds.{result_by_rounds}
use Rattle.semantics.proofs.Words.{as_kind-same}
use Rattle.semantics.proofs.MemoryKinds.{memory-kinds}
use Rattle.words.specs.View.{word, value_of}
use Rattle.words.specs.declared.word.Word as code
use Rattle.launch.specs.View.{buffer}
use Rattle.launch.specs.declared.launches.Buffers.{Buffers}
use Rattle.write_log.specs.Written.{words_of}
use Rattle.executor.specs.Ends.{buffer_cell, IsResultOf, HaveKinds}
use Rattle.executor.specs.Kinds.{words, typed, read, of_kinds}
use Rattle.group_workers.proofs.Logs.{rows-alike}

abbrev number : Word → ℤ
number w = w.value

-- past the last buffer nothing is read
none-read : (ks : List Kind) → of_kinds ks [] ≡ []
none-read [] = refl
none-read (k ∷ ks) = refl

pub all-read : (ks : List Kind) (vs : List (Vec code.Word Global)) (i : ℕ) (out whole : List (List Word)) → length vs ≤ i → out ++ of_kinds ks (map buffer (drop i vs)) ≡ whole → out ≡ whole
all-read ks vs i out whole l h = sym (ap (λ ws. out ++ of_kinds ks (map buffer ws)) (drop_all i vs l) ∙ ap (λ ws. out ++ ws) (none-read ks) ∙ append-nil out) ∙ h

-- each word has the kind that it is read as
have-kinds : (ks : List Kind) (bs : List (List ℤ)) → length ks ≡ length bs → HaveKinds ks (of_kinds ks bs)
have-kinds [] bs h = tt
have-kinds (k ∷ ks) [] h = absurd (omega (arith, h))
have-kinds (k ∷ ks) (b ∷ bs) h = (All-map (λ (w : Word). w.kind ≡ k) (read k) b (λ j d l. refl), have-kinds ks bs (omega (arith, h)))

-- and numbers of that kind are read as themselves
row-same : (k : Kind) (zs : List ℤ) → ((i : ℕ) → i < length zs → in_kind k (slice_index_or zs i (pos 0)) ≡ true) → map number (map (read k) zs) ≡ zs
row-same k [] h = refl
row-same k (z ∷ zs) h = ap (λ x. x ∷ map number (map (read k) zs)) (as_kind-same k z (h zero (omega arith))) ∙ ap (λ xs. z ∷ xs) (row-same k zs (λ i l. h (suc i) (omega (arith, l))))

rows-same : (ks : List Kind) (bs : List (List ℤ)) → length ks ≡ length bs
    → ((a i : ℕ) → i < length (slice_index_or bs a []) → in_kind (slice_index_or ks a Int) (slice_index_or (slice_index_or bs a []) i (pos 0)) ≡ true)
    → map (map number) (of_kinds ks bs) ≡ bs
rows-same [] [] e h = refl
rows-same [] (b ∷ bs) e h = absurd (omega (arith, e))
rows-same (k ∷ ks) [] e h = absurd (omega (arith, e))
rows-same (k ∷ ks) (b ∷ bs) e h =
    ap (λ x. x ∷ map (map number) (of_kinds ks bs)) (row-same k b (λ i l. h zero i l))
    ∙ ap (λ xs. b ∷ xs) (rows-same ks bs (omega (arith, e)) (λ a i l. h (suc a) i l))

-- the result is the memory of a run that is over, which keeps to kinds
result-kind : (s : Setup) (bound : ℕ) (c : Cell) → Fits s.kernel s.launch → Headline s bound → in_kind (kind_at s c) (result_by_rounds s bound c) ≡ true
result-kind s bound c f h =
    let go = (h [] (opening_world s) refl).can_go_on in
    ap (λ (m : Memory). in_kind (kind_at s c) (m c)) (sym ((h go.0 go.1 go.2).ends_with_the_result go.3)) ∙ memory-kinds s go.0 go.1 c f go.2

-- a buffer for each parameter
as-many : (s : Setup) (bound : ℕ) (b : List (List ℤ)) → Fits s.kernel s.launch → IsResultOf s bound b → length s.kernel.buffers ≡ length b
as-many s bound b f r =
    sym (AllZip-long IsBuffer s.kernel.buffers s.launch.buffers f.buffers) ∙ sym (length-map s.launch.buffers length) ∙ ap length (sym r.lengths) ∙ length-map b length

result-same : (s : Setup) (bound : ℕ) (b : List (List ℤ)) → Fits s.kernel s.launch → Headline s bound → IsResultOf s bound b → map (map number) (of_kinds s.kernel.buffers b) ≡ b
result-same s bound b f h r = rows-same s.kernel.buffers b (as-many s bound b f r) (λ a i l.
    ap (in_kind (slice_index_or s.kernel.buffers a Int)) (r.elements a i (subst (λ n. i < n) (rows-alike b s.launch.buffers a r.lengths) l))
    ∙ result-kind s bound (buffer_cell a i) f h)

row-seen : (ws : List code.Word) → map number (map word ws) ≡ map value_of ws
row-seen [] = refl
row-seen (w ∷ ws) = ap (λ xs. value_of w ∷ xs) (row-seen ws)

rows-seen : (vs : List (Vec code.Word Global)) → map (map number) (map words vs) ≡ map buffer vs
rows-seen [] = refl
rows-seen (v ∷ vs) = ap (λ x. x ∷ map (map number) (map words vs)) (row-seen v.items) ∙ ap (λ xs. buffer v ∷ xs) (rows-seen vs)

-- what is read as the kinds of its parameters has the same numbers
numbers-stay : (s : Setup) (bound : ℕ) (b answer : Buffers) → Fits s.kernel s.launch → Headline s bound → IsResultOf s bound (words_of b)
    → typed answer ≡ of_kinds s.kernel.buffers (words_of b) → words_of answer ≡ words_of b
numbers-stay s bound b answer f h r e = sym (rows-seen answer.words.items) ∙ ap (map (map number)) e ∙ result-same s bound (words_of b) f h r

pub stays-the-result : (s : Setup) (bound : ℕ) (b answer : Buffers) → Fits s.kernel s.launch → Headline s bound → IsResultOf s bound (words_of b)
    → typed answer ≡ of_kinds s.kernel.buffers (words_of b) → IsResultOf s bound (words_of answer)
stays-the-result s bound b answer f h r e = subst (IsResultOf s bound) (sym (numbers-stay s bound b answer f h r e)) r

pub has-kinds : (s : Setup) (bound : ℕ) (b answer : Buffers) → Fits s.kernel s.launch → IsResultOf s bound (words_of b)
    → typed answer ≡ of_kinds s.kernel.buffers (words_of b) → HaveKinds s.kernel.buffers (typed answer)
has-kinds s bound b answer f r e = subst (HaveKinds s.kernel.buffers) (sym e) (have-kinds s.kernel.buffers (words_of b) (as-many s bound (words_of b) f r))
