-- Stretches that grow at their end.
use Rattle.std.proofs.Common.{◌≡◌, ◌<◌, ◌≤◌, ◌+◌, ◌-◌, ℕ, pos, zero, suc, List, [], ◌∷◌, ◌++◌, Bool, true, false, cond, Result, Ok, Err, OnOk, is_err, refl, sym, ap, ap₂, ◌∙◌, subst, arith, nat_lt, length, get_or, length-append, append_assoc}
use Rattle.std.proofs.Math.ListN as lists
use Rattle.std.proofs.Math.Seq.{get_or-append_seam}
use Rattle.std.proofs.lemmas.Bool.Decides.{nat_tests}
use Rattle.std.proofs.lemmas.List.{append-nil, length-map, get_or-append-add, get_or-map}
use Rattle.words.specs.declared.word.Kind.{Kind}
use Rattle.words.specs.declared.word.Word.{Word}
use Rattle.words.specs.declared.word.Word.TheVariants.{Int}
use Rattle.std.specs.List.Sorted.{IsStrictlySortedBy}
use Rattle.std.specs.Map.{keys_of}
use Rattle.write_log.proofs.RisingRuns.{run_rises}
use Rattle.write_log.specs.Elements.{Entry, AreApart, GoesOn, HasWords, IsLaid, border, by_element, entries_in, entry_at, entry_of, first_entries, nowhere, read_word, read_words, run, stretch_at, word_at}
use Rattle.write_log.specs.declared.stretch.Stretch.{Stretch}
use Rattle.write_log.proofs.Stretches.{border-is, border-past, last-is, last-snoc}

-- a further end
module _ (ts : List Stretch) (n : ℕ) (h : AreApart ts n) where
  border-same : (end number : ℕ) → number < length ts → border ts end number ≡ border ts n number
  border-same end number l = border-is ts end number nowhere l ∙ sym (border-is ts n number nowhere l)

  border-up : (end number : ℕ) → n ≤ end → border ts n number ≤ border ts end number
  border-up end number l = by (nat_lt number (length ts)) refl
    where
      by : (b : Bool) → nat_lt number (length ts) ≡ b → border ts n number ≤ border ts end number
      by true q = let e = border-same end number (grind (arith, nat_tests)) in omega (arith, e)
      by false q =
          let m = border-past ts n number (grind (arith, nat_tests)) in
          let e = border-past ts end number (grind (arith, nat_tests)) in
          omega (arith, m, e, l)

  apart-further : (end : ℕ) → n ≤ end → AreApart ts end
  apart-further end l number in_range =
      let here = border-same end number in_range in
      let next = h number in_range in
      let up = border-up end (number + 1) l in
      omega (arith, here, next, up)

-- the last stretch goes on
pub goes-on_last : (ts : List Stretch) (n : ℕ) (at : ℕ × ℕ) (kind : Kind) → border ts n 0 ≡ 0 → AreApart ts n → (number : ℕ) → number + 1 ≡ length ts → (s : Stretch) → get_or ts number nowhere ≡ s → s.buffer ≡ at.0 → s.kind ≡ kind → s.first ≤ at.1 → s.start + (at.1 - s.first) ≡ n
    → GoesOn ts ts n at kind
goes-on_last ts n at kind b h number count s is buffer_is kind_is first_is start_is = record {
  before = λ place l. refl;
  element = λ place word bits e.
      let there : stretch_at ts place ≡ s = last-is ts (place + 1) place nowhere number (apart-further ts n h (place + 1) (omega (arith, e))) (omega (arith, count)) (omega (arith, starts place, e, start_is)) (omega (arith, ends place)) ∙ is in
      let index : s.first + (place - s.start) ≡ at.1 + word = omega (arith, e, first_is, start_is) in
      ap (λ t. entry_of t place bits) there ∙ rw (buffer_is, kind_is, index) refl;
  begins = λ end l. border-same ts n h end 0 (omega (arith, count)) ∙ b;
  apart = λ end l. apart-further ts n h end (omega (arith, l));
}
  where
    starts : (place : ℕ) → border ts (place + 1) number ≡ s.start
    starts place = border-is ts (place + 1) number nowhere (omega (arith, count)) ∙ ap (λ (t : Stretch). t.start) is

    ends : (place : ℕ) → border ts (place + 1) (number + 1) ≡ place + 1
    ends place = border-past ts (place + 1) (number + 1) (omega (arith, count))

-- a new one starts
module _ (ts : List Stretch) (n : ℕ) (s : Stretch) (b : border ts n 0 ≡ 0) (h : AreApart ts n) (starts : s.start ≡ n) where
  longer : length (ts ++ s ∷ []) ≡ length ts + 1
  longer = length-append ts (s ∷ [])

  -- the borders are those before, and where the new one starts
  border-snoc : (end number : ℕ) → number ≤ length ts → border (ts ++ s ∷ []) end number ≡ border ts n number
  border-snoc end number l = by (nat_lt number (length ts)) refl
    where
      by : (t : Bool) → nat_lt number (length ts) ≡ t → border (ts ++ s ∷ []) end number ≡ border ts n number
      by true q =
          let below : number < length ts = grind (arith, nat_tests) in
          border-is (ts ++ s ∷ []) end number nowhere (omega (arith, longer, below))
          ∙ ap (λ (t : Stretch). t.start) (lists.get_or-append ts (s ∷ []) nowhere number below)
          ∙ sym (border-is ts n number nowhere below)
      by false q =
          let last : number ≡ length ts = grind (arith, nat_tests) in
          border-is (ts ++ s ∷ []) end number nowhere (omega (arith, longer, last))
          ∙ ap (λ (t : Stretch). t.start) (ap (λ m. get_or (ts ++ s ∷ []) m nowhere) last ∙ get_or-append_seam ts s [] nowhere)
          ∙ starts
          ∙ sym (border-past ts n number (omega (arith, last)))

  apart-snoc : (end : ℕ) → n < end → AreApart (ts ++ s ∷ []) end
  apart-snoc end l number in_range = by (nat_lt number (length ts)) refl
    where
      by : (t : Bool) → nat_lt number (length ts) ≡ t → border (ts ++ s ∷ []) end number < border (ts ++ s ∷ []) end (number + 1)
      by true q =
          let below : number < length ts = grind (arith, nat_tests) in
          let here = border-snoc end number (omega (arith, below)) in
          let next = border-snoc end (number + 1) (omega (arith, below)) in
          let up = h number below in
          omega (arith, here, next, up)
      by false q =
          let last : length ts ≤ number = grind (arith, nat_tests) in
          let here = border-snoc end number (omega (arith, in_range, longer)) in
          let starts_there = border-past ts n number last in
          let next = border-past (ts ++ s ∷ []) end (number + 1) (omega (arith, longer, last)) in
          omega (arith, here, starts_there, next, l)

  pub goes-on_new : (at : ℕ × ℕ) (kind : Kind) → s.buffer ≡ at.0 → s.first ≡ at.1 → s.kind ≡ kind → GoesOn ts (ts ++ s ∷ []) n at kind
  goes-on_new at kind buffer_is first_is kind_is = record {
    before = λ place l.
        let below : nat_lt place s.start ≡ true = grind (arith, nat_tests) in
        last-snoc ts s place nowhere ∙ ap (λ t. cond t (stretch_at ts place) s) below;
    element = λ place word bits e.
        let from_there : nat_lt place s.start ≡ false = grind (arith, nat_tests) in
        let there : stretch_at (ts ++ s ∷ []) place ≡ s = last-snoc ts s place nowhere ∙ ap (λ t. cond t (stretch_at ts place) s) from_there in
        let index : s.first + (place - s.start) ≡ at.1 + word = omega (arith, e, first_is, starts) in
        ap (λ t. entry_of t place bits) there ∙ rw (buffer_is, kind_is, index) refl;
    begins = λ end l. border-snoc end 0 (omega arith) ∙ b;
    apart = apart-snoc;
  }

-- what a call says where it gave no error
pub without_error : {X E P : Type 0} (r : Result X E) → OnOk r P → false ≡ is_err r → P
without_error (Ok x) h e = h
without_error (Err x) h e = cc

-- what stretches and bits have once words went on at the end
module _ (old new : List Stretch) (bits more : List ℕ) (at : ℕ × ℕ) (kind : Kind) (ws : List Word) (g : GoesOn old new (length bits) at kind) (w : HasWords bits more kind ws) where
  entry-before : (place : ℕ) → place < length bits → entry_at new more place ≡ entry_at old bits place
  entry-before place l = ap₂ (λ s b. entry_of s place b) (g.before place l) (w.kept place l)

  entry-behind : (k : ℕ) → k < length ws → entry_at new more (length bits + k) ≡ ((at.0, at.1 + k), word_at ws k)
  entry-behind k l = g.element (length bits + k) k (get_or more (length bits + k) 0) refl ∙ ap (λ x. ((at.0, at.1 + k), x)) (w.filled k l)

  first-before : (n : ℕ) → n ≤ length bits → first_entries new more n ≡ first_entries old bits n
  first-before zero l = refl
  first-before (suc n) l = ap₂ (λ es e. es ++ e ∷ []) (first-before n (omega (arith, l))) (entry-before n (omega (arith, l)))

  grown : (k : ℕ) → k ≤ length ws → first_entries new more (length bits + k) ≡ entries_in old bits ++ run at.0 at.1 ws k
  grown zero l =
      let here : length bits + 0 ≡ length bits = omega arith in
      ap (first_entries new more) here ∙ first-before (length bits) (omega arith) ∙ sym (append-nil (entries_in old bits))
  grown (suc k) l =
      let next : length bits + suc k ≡ suc (length bits + k) = omega arith in
      ap (first_entries new more) next
      ∙ ap₂ (λ es e. es ++ e ∷ []) (grown k (omega (arith, l))) (entry-behind k (omega (arith, l)))
      ∙ append_assoc (entries_in old bits) (run at.0 at.1 ws k) (((at.0, at.1 + k), word_at ws k) ∷ [])

  pub grown_all : entries_in new more ≡ entries_in old bits ++ run at.0 at.1 ws (length ws)
  grown_all = ap (first_entries new more) w.count ∙ grown (length ws) (omega arith)

  grown_rises : IsStrictlySortedBy by_element (keys_of (entries_in old bits)) → IsStrictlySortedBy by_element (keys_of (entries_in old bits) ++ at ∷ []) → IsStrictlySortedBy by_element (keys_of (entries_in new more))
  grown_rises s t = subst (λ es. IsStrictlySortedBy by_element (keys_of es)) (sym grown_all) (run_rises (entries_in old bits) at.0 at.1 ws s t (length ws))

  grown_begins : 0 < length ws → border new (length more) 0 ≡ 0
  grown_begins some_ = let count = w.count in g.begins (length more) (omega (arith, count, some_))

  grown_apart : 0 < length ws → AreApart new (length more)
  grown_apart some_ = let count = w.count in g.apart (length more) (omega (arith, count, some_))

  -- the indices have 32 bits
  grown_fits : (limit : ℕ) → ((place : ℕ) → place < length bits → (entry_at old bits place).0.1 < limit) → at.1 + length ws ≤ limit → (place : ℕ) → place < length more → (entry_at new more place).0.1 < limit
  grown_fits limit h fits place l = by (nat_lt place (length bits)) refl
    where
      by : (t : Bool) → nat_lt place (length bits) ≡ t → (entry_at new more place).0.1 < limit
      by true q =
          let below : place < length bits = grind (arith, nat_tests) in
          subst (λ (e : Entry). e.0.1 < limit) (sym (entry-before place below)) (h place below)
      by false q =
          let behind : length bits ≤ place = grind (arith, nat_tests) in
          let count = w.count in
          let there : length bits + (place - length bits) ≡ place = omega (arith, behind) in
          let some_ : place - length bits < length ws = omega (arith, behind, l, count) in
          subst (λ p. (entry_at new more p).0.1 < limit) there (subst (λ (e : Entry). e.0.1 < limit) (sym (entry-behind (place - length bits) some_)) (omega (arith, some_, fits)))

  pub grown_laid : IsLaid old bits → IsStrictlySortedBy by_element (keys_of (entries_in old bits) ++ at ∷ []) → 0 < length ws → at.1 + length ws ≤ 4294967296 → IsLaid new more
  grown_laid laid above some_ fits = record {
    rising = grown_rises laid.rising above;
    begins = grown_begins some_;
    apart = grown_apart some_;
    fits = grown_fits 4294967296 laid.fits fits;
  }

-- one word more
pub one_word : (bits : List ℕ) (b : ℕ) (kind : Kind) (w : Word) → read_word kind b ≡ w → HasWords bits (bits ++ b ∷ []) kind (w ∷ [])
one_word bits b kind w is = record {
  count = length-append bits (b ∷ []);
  kept = λ place l. lists.get_or-append bits (b ∷ []) 0 place l;
  filled = filled;
}
  where
    filled : (k : ℕ) → k < length (w ∷ []) → read_word kind (get_or (bits ++ b ∷ []) (length bits + k) 0) ≡ word_at (w ∷ []) k
    filled zero l =
        let here : length bits + 0 ≡ length bits = omega arith in
        ap (read_word kind) (ap (λ n. get_or (bits ++ b ∷ []) n 0) here ∙ get_or-append_seam bits b [] 0) ∙ is
    filled (suc k) l = absurd (omega (arith, l))

-- bits more, of one kind
pub more_words : (bits more : List ℕ) (kind : Kind) → HasWords bits (bits ++ more) kind (read_words kind more)
more_words bits more kind = record {
  count = length-append bits more ∙ ap (λ n. length bits + n) (sym (length-map more (read_word kind)));
  kept = λ place l. lists.get_or-append bits more 0 place l;
  filled = λ k l.
      ap (read_word kind) (get_or-append-add bits more k 0)
      ∙ sym (get_or-map (read_word kind) more k 0 (Int (pos 0)) (subst (λ n. k < n) (length-map more (read_word kind)) l));
}

pub one_run : (es : List Entry) (at : ℕ × ℕ) (w : Word) → es ++ run at.0 at.1 (w ∷ []) 1 ≡ es ++ (at, w) ∷ []
one_run es at w =
    let here : at.1 + 0 ≡ at.1 = omega arith in
    ap (λ i. es ++ ((at.0, i), w) ∷ []) here
