-- The code's kinds, words, faults and answers, as the definitions have them.
use Rattle.std.specs.Prelude.{ℕ, ℤ, pos, Result, Ok, Err}
use Rattle.semantics.specs.Word as semantics
use Rattle.words.specs.declared.word.Kind.{Kind}
use Rattle.words.specs.declared.word.Kind.TheVariants as kinds
use Rattle.words.specs.declared.word.Word.{Word}
use Rattle.words.specs.declared.word.Word.TheVariants as words
use Rattle.words.specs.declared.word.Fault.{Fault}
use Rattle.words.specs.declared.word.Fault.TheVariants as faults

abbrev pub kind : Kind → semantics.Kind
kind kinds.Int = semantics.Int
kind kinds.Uint = semantics.Uint
kind kinds.Size = semantics.Size

-- a word's kind and number
abbrev pub kind_of : Word → semantics.Kind
kind_of (words.Int z) = semantics.Int
kind_of (words.Uint n) = semantics.Uint
kind_of (words.Size n) = semantics.Size

abbrev pub value_of : Word → ℤ
value_of (words.Int z) = z
value_of (words.Uint n) = pos n
value_of (words.Size n) = pos n

abbrev pub word : Word → semantics.Word
word w = semantics.word (kind_of w) (value_of w)

abbrev pub fault : Fault → semantics.Fault
fault faults.DivisionByZero = semantics.DivisionByZero
fault faults.Overflow = semantics.Overflow
fault faults.OutOfBounds = semantics.OutOfBounds

-- what an operation answers
abbrev pub seen : Result Word Fault → Result semantics.Word semantics.Fault
seen (Ok w) = Ok (word w)
seen (Err f) = Err (fault f)

-- the number by which a fault is printed
abbrev pub number_of : Fault → ℕ
number_of faults.DivisionByZero = 1
number_of faults.Overflow = 2
number_of faults.OutOfBounds = 3
