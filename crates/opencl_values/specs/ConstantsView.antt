-- What the entries of the code's tables of constants stand for.
use denote.Ref.{Bor}
use Rattle.std.specs.Prelude.{ℕ, List}
use Rattle.semantics.specs.Word as word
use Rattle.words.specs.View.{kind}
use Rattle.words.specs.declared.word.Kind.{Kind}

abbrev pub integer_entry : Bor (List ℕ) × Kind × ℕ → List ℕ × word.Kind × ℕ
integer_entry e = (e.0.now, kind e.1, e.2)

abbrev pub text_seen : Bor (List ℕ) → List ℕ
text_seen text = text.now

-- the number of an entry, without its name
abbrev pub number_in : List ℕ × word.Kind × ℕ → word.Kind × ℕ
number_in e = (e.1, e.2)

abbrev pub number_seen : Kind × ℕ → word.Kind × ℕ
number_seen n = (kind n.0, n.1)
