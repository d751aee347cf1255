-- Reading a launch text: its lines in order, or the first fault.
use Rattle.std.specs.Prelude.{ℕ, zero, suc, ◌-◌, ℤ, List, [], ◌∷◌, ◌++◌, map, length, replicate, sum_by, cond, nat_lt, Option, None, Some, Ok, Err, codes}
use Rattle.semantics.specs.Word.{Kind, Word}
use Rattle.semantics.specs.Launch as meaning
use Rattle.semantics.specs.Launch.{Three}
use Rattle.texts.specs.Surface.{Parameter, Buffer, Value}
use Rattle.launch_text.specs.LaunchFaults.{LimitPassed, Cursor, cursor, Step, refused, then, sees, past, expect, end_line}
use Rattle.launch_text.specs.LaunchWords.{Launch, natural_at, word_at, due_blank, due_parameter, head_line, each, end_text}

-- what a launch text says: the words of buffers with their kinds
pub record TypedLaunch : Type 0 where
  pub groups : Three ℕ
  pub arguments : List Word
  pub buffers : List (List Word)
  pub fill : ℕ

abbrev pub number : Word → ℤ
number w = w.value

-- the launch itself
abbrev pub meant : TypedLaunch → meaning.Launch
meant l = record { groups = l.groups; arguments = l.arguments; buffers = map (map number) l.buffers; fill = l.fill; machine = meaning.silent }

abbrev pub counts : (x y z : ℕ) → Three ℕ
counts x y z = record { x = x; y = y; z = z }

unfoldable pub groups_line : Cursor → Step (Three ℕ × Cursor)
groups_line c =
    then (due_blank Launch (codes "groups") c) (λ a. then (natural_at 1 65536 a) (λ x. then (expect (codes " ") x.1) (λ b. then (natural_at 1 65536 b) (λ y.
    then (expect (codes " ") y.1) (λ d. then (natural_at 1 65536 d) (λ z. then (end_line z.1) (λ e. Ok (counts x.0 y.0 z.0, e))))))))

unfoldable pub argument_line : List Parameter → Kind → (name : List ℕ) → Cursor → Step (Word × Cursor)
argument_line ps k name c =
    then (due_parameter Launch (codes "arg") ps name c) (λ a. then (word_at k a) (λ t. then (end_line t.1) (λ d. Ok (t.0, d))))

-- one line a value parameter
abbrev pub argument_due : List Parameter → List Word → Parameter → Option (Cursor → Step (Word × Cursor))
argument_due ps arguments (Buffer constant k site name) = None
argument_due ps arguments (Value k site name) = Some (argument_line ps k name)

abbrev pub argument_lines : List Parameter → Cursor → Step (List Word × Cursor)
argument_lines ps c = each (argument_due ps) [] ps c

-- words with a blank before each, behind those that there are, at most as many as there is room for
unfoldable pub list_at : Kind → (room : ℕ) → List Word → Cursor → Step (List Word × Cursor)
list_at k zero words c = cond (sees (codes " ") c) (then (word_at k (past 1 c)) (λ t. refused LimitPassed t.1)) (Ok (words, c))
list_at k (suc room) words c =
    cond (sees (codes " ") c) (then (word_at k (past 1 c)) (λ t. list_at k room (words ++ t.0 ∷ []) t.1)) (Ok (words, c))

-- a length and the word that fills it
unfoldable pub fill_at : Kind → (room : ℕ) → Cursor → Step (List Word × Cursor)
fill_at k room c =
    then (expect (codes "fill ") c) (λ a. then (natural_at 0 room a) (λ n. then (expect (codes " ") n.1) (λ b. then (word_at k b) (λ t.
    Ok (replicate n.0 t.0, t.1)))))

unfoldable pub words_at : Kind → (room : ℕ) → Cursor → Step (List Word × Cursor)
words_at k room c = cond (sees (codes "list") c) (list_at k room [] (past 4 c)) (fill_at k room c)

unfoldable pub buffer_line : List Parameter → (room : ℕ) → Kind → (name : List ℕ) → Cursor → Step (List Word × Cursor)
buffer_line ps room k name c =
    then (due_parameter Launch (codes "buffer") ps name c) (λ a. then (words_at k room a) (λ t. then (end_line t.1) (λ d. Ok (t.0, d))))

-- a text gives at most so many words of buffers in all
abbrev pub most_words : ℕ
most_words = 1048576

abbrev pub words_of : List (List Word) → ℕ
words_of buffers = sum_by length buffers

-- one line a buffer parameter
abbrev pub buffer_due : List Parameter → List (List Word) → Parameter → Option (Cursor → Step (List Word × Cursor))
buffer_due ps buffers (Buffer constant k site name) = Some (buffer_line ps (most_words - words_of buffers) k name)
buffer_due ps buffers (Value k site name) = None

abbrev pub buffer_lines : List Parameter → Cursor → Step (List (List Word) × Cursor)
buffer_lines ps c = each (buffer_due ps) [] ps c

unfoldable pub fill_line : Cursor → Step (ℕ × Cursor)
fill_line c = then (due_blank Launch (codes "fill") c) (λ a. then (natural_at 0 2147483647 a) (λ t. then (end_line t.1) (λ d. Ok (t.0, d))))

abbrev pub given : Three ℕ → List Word → List (List Word) → (fill : ℕ) → TypedLaunch
given groups arguments buffers fill = record { groups = groups; arguments = arguments; buffers = buffers; fill = fill }

-- all lines
unfoldable pub launch_at : List Parameter → Cursor → Step TypedLaunch
launch_at ps c =
    then (head_line Launch (codes "launch") c) (λ a. then (groups_line a) (λ groups. then (argument_lines ps groups.1) (λ arguments.
    then (buffer_lines ps arguments.1) (λ buffers. then (fill_line buffers.1) (λ fill.
    then (end_text fill.1) (λ _. Ok (given groups.0 arguments.0 buffers.0 fill.0)))))))

-- the longest launch text, in bytes
abbrev pub launch_limit : ℕ
launch_limit = 4194304

-- what a text says of a kernel with these parameters, or its first fault and the number of the line
abbrev pub launch_of : List Parameter → List ℕ → Step TypedLaunch
launch_of ps text = cond (nat_lt launch_limit (length text)) (Err (LimitPassed, 1)) (launch_at ps (cursor 1 text))
