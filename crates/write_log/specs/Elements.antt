-- Elements of buffers, in their order, and lists of entries: elements with their words, also as stretches and bits.
use Rattle.std.specs.Prelude.{◌≡◌, ◌<◌, ℕ, pos, zero, suc, ◌+◌, ◌-◌, ℤ, List, [], ◌∷◌, ◌++◌, Option, Some, cond, nat_eq, nat_lt, ◌&&◌, length, map, slice_index_or}
use Rattle.std.specs.declared.cmp.Ordering.{Ordering}
use Rattle.std.specs.Ordering.{nat_cmp, ordering_then}
use Rattle.std.specs.Option.{option_map}
use Rattle.std.specs.List.Sorted.{IsStrictlySortedBy}
use Rattle.std.specs.Map.{keys_of, lookup}
use Rattle.std.proofs.Props.{props}
use Rattle.std.proofs.lemmas.Map.Keys.{IsStrictlySortedBy-prop}
use Rattle.std.specs.BTreeMap.{is_at}
use Rattle.std.specs.Int.{cast_signed, w32}
use Rattle.words.specs.View.{value_of}
use Rattle.words.specs.declared.word.Kind.{Kind}
use Rattle.words.specs.declared.word.Kind.TheVariants as kinds
use Rattle.words.specs.declared.word.Word.{Word}
use Rattle.words.specs.declared.word.Word.TheVariants.{Int, Uint, Size}
use Rattle.write_log.specs.declared.stretch.Stretch.{Stretch}

-- an element is a buffer's number and an index; elements go by buffer, then by index
abbrev pub Entry : Type 0
Entry = (ℕ × ℕ) × Word

abbrev pub by_element : ℕ × ℕ → ℕ × ℕ → Ordering
by_element x y = ordering_then (nat_cmp x.0 y.0) (nat_cmp x.1 y.1)

-- the number that a list of entries has of an element, if it has one
abbrev pub found : List Entry → ℕ → ℕ → Option ℤ
found es b i = option_map value_of (lookup (is_at (by_element (b, i))) es)

-- the word of a place
abbrev pub word_at : List Word → ℕ → Word
word_at ws k = slice_index_or ws k (Int (pos 0))

-- n words of a buffer, one after another from an index on
abbrev pub run : ℕ → ℕ → List Word → ℕ → List Entry
run buffer first ws zero = []
run buffer first ws (suc n) = run buffer first ws n ++ ((buffer, first + n), word_at ws n) ∷ []

-- what there is of an element once they are noted, one after another
abbrev pub noted : ℕ → ℕ → List Word → ℕ → (b i : ℕ) → Option ℤ → Option ℤ
noted buffer first ws zero b i o = o
noted buffer first ws (suc n) b i o = cond (nat_eq b buffer && nat_eq i (first + n)) (Some (value_of (word_at ws n))) (noted buffer first ws n b i o)

-- the word of a kind that has these bits
abbrev pub read_word : Kind → ℕ → Word
read_word kinds.Int bits = Int (cast_signed w32 bits)
read_word kinds.Uint bits = Uint bits
read_word kinds.Size bits = Size bits

abbrev pub read_words : Kind → List ℕ → List Word
read_words kind = map (read_word kind)

-- the entry of a stretch whose bits stand at a place
abbrev pub entry_of : Stretch → (place bits : ℕ) → Entry
entry_of s place bits = ((s.buffer, s.first + (place - s.start)), read_word s.kind bits)

-- the last of the stretches that starts at a place or before it; where there is none, this one
abbrev pub last_from : List Stretch → (place : ℕ) → Stretch → Stretch
last_from [] place s = s
last_from (t ∷ ts) place s = last_from ts place (cond (nat_lt place t.start) s t)

-- no stretch
abbrev pub nowhere : Stretch
nowhere = record { buffer = 0; first = 0; start = 0; kind = kinds.Uint }

abbrev pub stretch_at : List Stretch → (place : ℕ) → Stretch
stretch_at ts place = last_from ts place nowhere

-- the entry whose bits stand at a place, and the entries of the first n places
abbrev pub entry_at : List Stretch → List ℕ → (place : ℕ) → Entry
entry_at ts bits place = entry_of (stretch_at ts place) place (slice_index_or bits place 0)

abbrev pub first_entries : List Stretch → List ℕ → (n : ℕ) → List Entry
first_entries ts bits zero = []
first_entries ts bits (suc n) = first_entries ts bits n ++ entry_at ts bits n ∷ []

-- all entries of stretches with these bits
abbrev pub entries_in : List Stretch → List ℕ → List Entry
entries_in ts bits = first_entries ts bits (length bits)

-- where a stretch starts; past the last one, where all end
abbrev pub border : List Stretch → (end number : ℕ) → ℕ
border ts end number = slice_index_or (map (λ (t : Stretch). t.start) ts) number end

-- each stretch starts below the next one, and the last one below the end
abbrev pub AreApart : List Stretch → (end : ℕ) → Type 0
AreApart ts end = (number : ℕ) → number < length ts → border ts end number < border ts end (number + 1)

-- stretches and bits of a list: its elements rise, each of its stretches has bits, and its indices have 32 bits
pub record IsLaid (ts : List Stretch) (bits : List ℕ) : Type 0 where
  pub rising : IsStrictlySortedBy by_element (keys_of (entries_in ts bits))
  pub begins : border ts (length bits) 0 ≡ 0
  pub apart : AreApart ts (length bits)
  pub fits : (place : ℕ) → place < length bits → (entry_at ts bits place).0.1 < 4294967296

pub IsLaid-prop : (ts : List Stretch) (bits : List ℕ) → IsProp (IsLaid ts bits)
IsLaid-prop ts bits = Prim.hlevel (IsStrictlySortedBy-prop by_element (keys_of (entries_in ts bits)), props)

-- the element where a stretch begins
abbrev pub head_of : List Stretch → (number : ℕ) → ℕ × ℕ
head_of ts number = ((slice_index_or ts number nowhere).buffer, (slice_index_or ts number nowhere).first)

-- stretches that had bits at the first places, and go on at the next one with an element and those behind it, of a kind
pub record GoesOn (old new : List Stretch) (places : ℕ) (at : ℕ × ℕ) (kind : Kind) : Type 0 where
  pub before : (place : ℕ) → place < places → stretch_at new place ≡ stretch_at old place
  pub element : (place word bits : ℕ) → place ≡ places + word → entry_of (stretch_at new place) place bits ≡ ((at.0, at.1 + word), read_word kind bits)
  pub begins : (end : ℕ) → places < end → border new end 0 ≡ 0
  pub apart : (end : ℕ) → places < end → AreApart new end

-- bits, and then those of words of a kind
pub record HasWords (old new : List ℕ) (kind : Kind) (ws : List Word) : Type 0 where
  pub count : length new ≡ length old + length ws
  pub kept : (place : ℕ) → place < length old → slice_index_or new place 0 ≡ slice_index_or old place 0
  pub filled : (k : ℕ) → k < length ws → read_word kind (slice_index_or new (length old + k) 0) ≡ word_at ws k
