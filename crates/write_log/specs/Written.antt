-- What a log has of each element, and buffers with it written.
use Rattle.std.specs.Prelude.{ℕ, zero, suc, ◌+◌, ℤ, pos, List, [], ◌∷◌, map, slice_index_or, slice_set, Option, cond}
use Rattle.words.specs.View.{value_of}
use Rattle.launch.specs.View.{buffer}
use Rattle.launch.specs.declared.launches.Buffers.{Buffers}
use Rattle.write_log.specs.declared.log.WriteLog.{WriteLog}
use Rattle.write_log.specs.declared.stretch.Stretch.{Stretch}
use Rattle.write_log.specs.Elements.{entries_in, read_word}
pub use Rattle.write_log.specs.Elements.{Entry, by_element, found, noted, read_words}

-- the entries of a log: those of its list as long as they rise, and then those of its map
abbrev pub entries : WriteLog → List Entry
entries log = cond log.rises (entries_in log.list.stretches.items log.list.bits.items) log.map.entries

-- the number that a log has of an element, if it has one
abbrev pub written : WriteLog → ℕ → ℕ → Option ℤ
written log b i = found (entries log) b i

-- the numbers of each buffer
abbrev pub words_of : Buffers → List (List ℤ)
words_of bs = map buffer bs.words.items

abbrev pub element : List (List ℤ) → ℕ → ℕ → ℤ
element bs b i = slice_index_or (slice_index_or bs b []) i (pos 0)

-- buffers with a number at an element, and with those of a list of entries, one after another
abbrev pub put_word : List (List ℤ) → ℕ → ℕ → ℤ → List (List ℤ)
put_word bs b i z = slice_set bs b (slice_set (slice_index_or bs b []) i z)

abbrev pub put_all : List Entry → List (List ℤ) → List (List ℤ)
put_all [] bs = bs
put_all (e ∷ es) bs = put_all es (put_word bs e.0.0 e.0.1 (value_of e.1))

-- a buffer with the numbers of the first n words of a stretch, one after another
abbrev pub put_bits : Stretch → List ℕ → (n : ℕ) → List ℤ → List ℤ
put_bits s bits zero row = row
put_bits s bits (suc n) row = slice_set (put_bits s bits n row) (s.first + n) (value_of (read_word s.kind (slice_index_or bits (s.start + n) 0)))
