-- What a launch text says by cases is read of it.
use Rattle.std.proofs.Common.{◌≡◌, ℕ, zero, suc, ◌+◌, ◌-◌, ◌≤◌, true, nat_lt, List, [], ◌∷◌, ◌++◌, length, map, Ok, refl, ap, sym, ◌∙◌, append_assoc, arith}
use Rattle.std.specs.Prelude.{ℤ, codes, replicate, sum_by}
use Rattle.std.specs.List.{prefix_len}
use Rattle.std.specs.Fmt.{decimal, signed_decimal}
use Rattle.std.proofs.lemmas.Bool.{cond-false}
use Rattle.std.proofs.lemmas.List.{append-nil, length-map}
use Rattle.std.proofs.lemmas.List.Sums.{sum_by-cons}
use Rattle.semantics.specs.Word.{Kind, Word, word}
use Rattle.semantics.specs.Launch as meaning
use Rattle.semantics.specs.Launch.{Three}
use Rattle.lines.specs.Bytes.{is_decimal_digit}
use Rattle.lines.specs.Identifiers.{is_identifier}
use Rattle.texts.specs.Surface.{Parameter, Buffer, Value}
use Rattle.texts.specs.Spelling.{SpellsParameters}
use Rattle.launch_text.specs.LaunchFaults.{Cursor, Step, cursor, then, expect}
use Rattle.launch_text.specs.LaunchWords.{word_at, due_parameter, each}
use Rattle.launch_text.specs.LaunchReading.{TypedLaunch, number, meant, groups_line, argument_line, argument_due, list_at, fill_at, words_at, most_words, words_of, buffer_line, buffer_due, given, launch_at, launch_limit, launch_of}
use Rattle.launch_text.specs.LaunchText.{argument_text, fill_text}
use Rattle.launch_text.specs.LaunchSpelling.{AreListed, no_word, a_word, AreContents, listed, filled, contents_text, counts_text, AreWordLines, no_argument, past_buffer, an_argument, AreBufferLines, no_buffer, past_value, a_buffer, AreLaunchLines, IsLaunchText}
use Rattle.launch_text.specs.Parameters.{AreNamed}
use Rattle.launch_text.proofs.Back.{same_back}
use Rattle.launch_text.proofs.Fills.{map-filled}
use Rattle.launch_text.proofs.Lists.{words-push}
use Rattle.launch_text.proofs.Forth.{natural_forth, word_forth, parameter_forth}
use Rattle.launch_text.proofs.LinesForth.{blank_forth, end_forth, buffer_word_due, head_forth, end_text_forth, groups_forth, fill_forth, argument_forth, each_goes, each_skips, each_ends, appended}
use Rattle.launch_text.proofs.LaunchForth.{not_above}
use Rattle.launch_text.proofs.LinesTaken.{argument_shape}
use Rattle.launch_text.proofs.LaunchTaken.{counts_shape, buffer_shape}
use Rattle.launch_text.proofs.RangesForth.{ReadsLines}
use Rattle.launch_text.proofs.ConditionsForth.{spelt_names}

counts_forth : (g : Three ℕ) (rest : List ℕ) (n : ℕ) → (1 ≤ g.x) × (g.x ≤ 65536) → (1 ≤ g.y) × (g.y ≤ 65536) → (1 ≤ g.z) × (g.z ≤ 65536) → groups_line (cursor n (counts_text g ++ rest)) ≡ Ok (g, cursor (n + 1) rest)
counts_forth g rest n a b d = ap (λ bytes. groups_line (cursor n bytes)) (sym (counts_shape (decimal g.x) (decimal g.y) (decimal g.z) rest)) ∙ groups_forth g.x g.y g.z rest n a b d

arguments_forth : (all : List Parameter) (done : List Word) (ps : List Parameter) (lines : List ℕ) (ws : List Word) (rest : List ℕ) (n : ℕ) → AreNamed ps → AreWordLines ps lines ws → (m : ℕ) × (each (argument_due all) done ps (cursor n (lines ++ rest)) ≡ Ok (done ++ ws, cursor m rest))
arguments_forth all done ps lines ws rest n i no_argument = (n, each_ends (argument_due all) done (cursor n rest))
arguments_forth all done ps lines ws rest n i (past_buffer {ps = others} constant k site name more) =
    let behind = arguments_forth all done others lines ws rest n i.1 more in
    (behind.0, each_skips (argument_due all) done (Buffer constant k site name) others (cursor n (lines ++ rest)) refl ∙ behind.1)
arguments_forth all done ps lines ws rest n i (an_argument {ps = others} {lines = after} {ws = words} k site name w h more) =
    let own = argument_line all k name in
    let behind = arguments_forth all (done ++ w ∷ []) others after words rest (n + 1) i.1 more in
    let here : own (cursor n ((argument_text name w ++ after) ++ rest)) ≡ Ok (w, cursor (n + 1) (after ++ rest)) =
    ap (λ bytes. own (cursor n bytes)) (append_assoc (argument_text name w) after rest ∙ sym (argument_shape name (signed_decimal w.value) (after ++ rest))) ∙ argument_forth all k name w (after ++ rest) n i.0 h in
    (behind.0, each_goes (argument_due all) done (Value k site name) others (cursor n ((argument_text name w ++ after) ++ rest)) (cursor (n + 1) (after ++ rest)) own w refl here ∙ behind.1 ∙ appended done w words (cursor behind.0 rest))

-- words of a kind
abbrev words_for : Kind → List ℤ → List Word
words_for k zs = map (word k) zs

words_are : (k : Kind) (zs : List ℤ) → map number (words_for k zs) ≡ zs
words_are k [] = refl
words_are k (z ∷ zs) = ap (λ others. z ∷ others) (words_are k zs)

listed_stops : (k : Kind) (bytes : List ℕ) (zs : List ℤ) (rest : List ℕ) → AreListed k bytes zs → prefix_len is_decimal_digit (bytes ++ (10 ∷ rest)) ≡ 0
listed_stops k bytes zs rest no_word = refl
listed_stops k bytes zs rest (a_word z h more) = refl

list_forth : (k : Kind) (room : ℕ) (done : List Word) (bytes : List ℕ) (zs : List ℤ) (rest : List ℕ) (n : ℕ) → AreListed k bytes zs → length zs ≤ room → list_at k room done (cursor n (bytes ++ (10 ∷ rest))) ≡ Ok (done ++ words_for k zs, cursor n (10 ∷ rest))
unfolding list_at
list_forth k zero done bytes zs rest n no_word l = ap (λ ws. let r : Step (List Word × Cursor) = Ok (ws, cursor n (10 ∷ rest)) in r) (sym (append-nil done))
list_forth k (suc room) done bytes zs rest n no_word l = ap (λ ws. let r : Step (List Word × Cursor) = Ok (ws, cursor n (10 ∷ rest)) in r) (sym (append-nil done))
list_forth k zero done bytes zs rest n (a_word {zs = others} z h more) l = absurd (omega arith)
list_forth k (suc room) done bytes zs rest n (a_word {bytes = after} {zs = others} z h more) l =
    ap (λ bytes. then (word_at k (cursor n bytes)) (λ t. list_at k room (done ++ t.0 ∷ []) t.1)) (append_assoc (signed_decimal z) after (10 ∷ rest))
    ∙ ap (λ s. then s (λ (t : Word × Cursor). list_at k room (done ++ t.0 ∷ []) t.1)) (word_forth k (word k z) (after ++ (10 ∷ rest)) n (refl, h) (listed_stops k after others rest more))
    ∙ list_forth k room (done ++ word k z ∷ []) after others rest n more (omega (arith, l))
    ∙ ap (λ vs. let r : Step (List Word × Cursor) = Ok (vs, cursor n (10 ∷ rest)) in r) (append_assoc done (word k z ∷ []) (words_for k others))

fill_word_forth : (rest : List ℕ) (n : ℕ) → expect (codes "fill ") (cursor n (codes "fill " ++ rest)) ≡ Ok (cursor n rest)
unfolding expect
fill_word_forth rest n = refl

fill_shape : (count word rest : List ℕ) → (codes "fill " ++ (count ++ (codes " " ++ word))) ++ rest ≡ codes "fill " ++ (count ++ (32 ∷ (word ++ rest)))
fill_shape count word rest = simp append_assoc

fill_at_forth : (k : Kind) (room m : ℕ) (z : ℤ) (rest : List ℕ) (n : ℕ) → meaning.IsArgument k (word k z) → m ≤ room → m ≤ most_words → fill_at k room (cursor n ((codes "fill " ++ (decimal m ++ (codes " " ++ signed_decimal z))) ++ (10 ∷ rest))) ≡ Ok (replicate m (word k z), cursor n (10 ∷ rest))
unfolding fill_at
fill_at_forth k room m z rest n h l few =
    rw (
      fill_shape (decimal m) (signed_decimal z) (10 ∷ rest),
      fill_word_forth (decimal m ++ (32 ∷ (signed_decimal z ++ (10 ∷ rest)))) n,
      natural_forth 0 room m (32 ∷ (signed_decimal z ++ (10 ∷ rest))) n (omega arith) l (omega (arith, few)) refl,
      blank_forth (signed_decimal z ++ (10 ∷ rest)) n,
      word_forth k (word k z) (10 ∷ rest) n h refl,
    ) refl

-- a buffer's words are read, and mean this
pub record ReadsWords (k : Kind) (room : ℕ) (contents : List ℕ) (zs : List ℤ) (rest : List ℕ) (n : ℕ) : Type 0 where
  pub words : List Word
  pub is_read : words_at k room (cursor n (contents ++ (10 ∷ rest))) ≡ Ok (words, cursor n (10 ∷ rest))
  pub is_meant : map number words ≡ zs

length_all : (n : ℕ) (z : ℤ) → length (replicate n z) ≡ n
length_all zero z = refl
length_all (suc n) z = ap suc (length_all n z)

contents_forth : (k : Kind) (room : ℕ) (contents : List ℕ) (zs : List ℤ) (rest : List ℕ) (n : ℕ) → AreContents k contents zs → length zs ≤ room → room ≤ most_words → ReadsWords k room contents zs rest n
unfolding words_at
contents_forth k room contents zs rest n (listed {bytes = bytes} h) l few =
    record { words = words_for k zs; is_read = list_forth k room [] bytes zs rest n h l; is_meant = words_are k zs }
contents_forth k room contents zs rest n (filled m z h) l few =
    let all = length_all m z in
    record { words = replicate m (word k z); is_read = fill_at_forth k room m z rest n (refl, h) (omega (arith, l, all)) (omega (arith, l, all, few)); is_meant = map-filled number m (word k z) }

buffer_forth : (ps : List Parameter) (room : ℕ) (k : Kind) (name contents : List ℕ) (ws : List Word) (rest : List ℕ) (n : ℕ) → is_identifier name ≡ true → words_at k room (cursor n (contents ++ (10 ∷ rest))) ≡ Ok (ws, cursor n (10 ∷ rest))
    → buffer_line ps room k name (cursor n (contents_text name contents ++ rest)) ≡ Ok (ws, cursor (n + 1) rest)
unfolding buffer_line due_parameter
buffer_forth ps room k name contents ws rest n i h =
    rw (
      sym (buffer_shape name contents rest),
      buffer_word_due (name ++ (32 ∷ (contents ++ (10 ∷ rest)))) n,
      parameter_forth ps name (32 ∷ (contents ++ (10 ∷ rest))) n i refl,
      blank_forth (contents ++ (10 ∷ rest)) n,
      h,
      end_forth rest n,
    ) refl

buffers_forth : (all : List Parameter) (done : List (List Word)) (ps : List Parameter) (lines : List ℕ) (buffers : List (List ℤ)) (rest : List ℕ) (n : ℕ) → AreNamed ps → AreBufferLines ps lines buffers → words_of done + sum_by length buffers ≤ most_words
    → ReadsLines (each (buffer_due all) done ps) (map number) done lines buffers rest n
buffers_forth all done ps lines buffers rest n i no_buffer l = record { read = []; line = n; is_read = each_ends (buffer_due all) done (cursor n rest); is_meant = refl }
buffers_forth all done ps lines buffers rest n i (past_value {ps = others} k site name more) l =
    let behind = buffers_forth all done others lines buffers rest n i.1 more l in
    record {
      read = behind.read;
      line = behind.line;
      is_read = each_skips (buffer_due all) done (Value k site name) others (cursor n (lines ++ rest)) refl ∙ behind.is_read;
      is_meant = behind.is_meant;
    }
buffers_forth all done ps lines buffers rest n i (a_buffer {ps = others} {lines = after} {contents = contents} {zs = zs} {buffers = more_buffers} constant k site name h more) l =
    let room : ℕ = most_words - words_of done in
    let one = sum_by-cons length zs more_buffers in
    let words = contents_forth k room contents zs (after ++ rest) n h (omega (arith, l, one)) (omega arith) in
    let ws : List Word = words.words in
    let same : length ws ≡ length zs = sym (length-map ws number) ∙ ap length words.is_meant in
    let behind = buffers_forth all (done ++ ws ∷ []) others after more_buffers rest (n + 1) i.1 more (omega (arith, l, one, same, words-push done ws)) in
    let own = buffer_line all room k name in
    let here : own (cursor n ((contents_text name contents ++ after) ++ rest)) ≡ Ok (ws, cursor (n + 1) (after ++ rest)) =
    ap (λ bytes. own (cursor n bytes)) (append_assoc (contents_text name contents) after rest) ∙ buffer_forth all room k name contents ws (after ++ rest) n i.0 words.is_read in
    record {
      read = ws ∷ behind.read;
      line = behind.line;
      is_read = each_goes (buffer_due all) done (Buffer constant k site name) others (cursor n ((contents_text name contents ++ after) ++ rest)) (cursor (n + 1) (after ++ rest)) own ws refl here
          ∙ behind.is_read ∙ appended done ws behind.read (cursor behind.line rest);
      is_meant = ap (λ b. b ∷ map (map number) behind.read) words.is_meant ∙ ap (λ others. zs ∷ others) behind.is_meant;
    }

made : (l : meaning.Launch) (buffers : List (List ℤ)) → buffers ≡ l.buffers → l.machine ≡ meaning.silent → (let d : meaning.Launch = record { groups = l.groups; arguments = l.arguments; buffers = buffers; fill = l.fill; machine = meaning.silent } in d ≡ l)
made l buffers p q = rw (p, sym q) refl

lines_forth : (ps : List Parameter) (text : List ℕ) (l : meaning.Launch) → AreNamed ps → AreLaunchLines ps text l → (x : TypedLaunch) × (launch_at ps (cursor 1 text) ≡ Ok x) × (meant x ≡ l)
unfolding launch_at
lines_forth ps text l i t =
    let last : List ℕ = fill_text l.fill in
    let behind_arguments : List ℕ = t.buffer_lines ++ last in
    let body : List ℕ = t.argument_lines ++ behind_arguments in
    let arguments = arguments_forth ps [] ps t.argument_lines l.arguments behind_arguments 3 i t.arguments in
    let buffers = buffers_forth ps [] ps t.buffer_lines l.buffers last arguments.0 i t.buffers (omega (arith, t.few_words)) in (
      given l.groups l.arguments buffers.read l.fill,
      rw (
        t.is_text,
        head_forth (counts_text l.groups ++ body),
        counts_forth l.groups body 2 t.count_x t.count_y t.count_z,
        arguments.1,
        buffers.is_read,
        fill_forth l.fill [] buffers.line t.fill,
        end_text_forth (buffers.line + 1),
      ) refl,
      made l _ buffers.is_meant t.machine,
    )

pub spelling_forth : (ps : List Parameter) (text : List ℕ) (l : meaning.Launch) → SpellsParameters ps → IsLaunchText ps text l → (x : TypedLaunch) × (launch_of ps text ≡ Ok x) × (meant x ≡ l)
spelling_forth ps text l i t =
    let x = lines_forth ps text l (spelt_names ps i) t.lines in
    (x.0, cond-false (nat_lt launch_limit (length text)) _ _ (not_above launch_limit (length text) t.within_limit) ∙ x.1, x.2)

pub one_launch : (ps : List Parameter) (text : List ℕ) (l m : meaning.Launch) → SpellsParameters ps → IsLaunchText ps text l → IsLaunchText ps text m → l ≡ m
one_launch ps text l m i t u =
    let x = spelling_forth ps text l i t in
    let y = spelling_forth ps text m i u in
    sym x.2 ∙ ap meant (same_back x.0 y.0 (sym x.1 ∙ y.1)) ∙ y.2
