-- The words of buffers with their kinds, and numbers as words of the kinds of their buffers.
use Rattle.std.specs.Prelude.{ℤ, Vec, List, [], ◌∷◌, map}
use Rattle.std.specs.declared.alloc.Global.{Global}
use Rattle.semantics.specs.Word.{Kind, Word, word, as_kind}
use Rattle.words.specs.View as view
use Rattle.words.specs.declared.word.Word as code
use Rattle.launch.specs.declared.launches.Buffers.{Buffers}

abbrev pub words : Vec code.Word Global → List Word
words ws = map view.word ws.items

-- the words of each buffer
abbrev pub typed : Buffers → List (List Word)
typed b = map words b.words.items

-- 32 bits read as a word of a kind
abbrev pub read : Kind → ℤ → Word
read k z = word k (as_kind k z)

-- the numbers of each buffer, read as its kind
abbrev pub of_kinds : List Kind → List (List ℤ) → List (List Word)
of_kinds [] bs = []
of_kinds (k ∷ ks) [] = []
of_kinds (k ∷ ks) (b ∷ bs) = map (read k) b ∷ of_kinds ks bs
