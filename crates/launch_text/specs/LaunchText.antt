-- The text of a launch, its buffers written out word by word.
use Rattle.std.specs.Prelude.{ℕ, List, [], ◌∷◌, ◌++◌, codes}
use Rattle.std.specs.List.{flat_map}
use Rattle.std.specs.Fmt.{decimal, signed_decimal}
use Rattle.semantics.specs.Word.{Word}
use Rattle.lines.specs.Lines.{line_feed}
use Rattle.texts.specs.Surface.{Parameter, Buffer, Value}
use Rattle.launch_text.specs.LaunchReading.{TypedLaunch}

abbrev pub word_text : Word → List ℕ
word_text w = codes " " ++ signed_decimal w.value

-- `buffer NAME list W W ..`
abbrev pub buffer_text : (name : List ℕ) → List Word → List ℕ
buffer_text name ws = codes "buffer " ++ (name ++ (codes " list" ++ (flat_map word_text ws ++ line_feed ∷ [])))

-- one line a buffer parameter, in order
abbrev pub buffers_text : List Parameter → List (List Word) → List ℕ
buffers_text [] buffers = []
buffers_text (Value k site name ∷ ps) buffers = buffers_text ps buffers
buffers_text (Buffer constant k site name ∷ ps) [] = []
buffers_text (Buffer constant k site name ∷ ps) (ws ∷ buffers) = buffer_text name ws ++ buffers_text ps buffers

abbrev pub argument_text : (name : List ℕ) → Word → List ℕ
argument_text name w = codes "arg " ++ (name ++ (codes " " ++ (signed_decimal w.value ++ line_feed ∷ [])))

-- one line a value parameter, in order
abbrev pub arguments_text : List Parameter → List Word → List ℕ
arguments_text [] arguments = []
arguments_text (Buffer constant k site name ∷ ps) arguments = arguments_text ps arguments
arguments_text (Value k site name ∷ ps) [] = []
arguments_text (Value k site name ∷ ps) (w ∷ ws) = argument_text name w ++ arguments_text ps ws

abbrev pub groups_text : TypedLaunch → List ℕ
groups_text l =
    codes "groups " ++ (decimal l.groups.x ++ (codes " " ++ (decimal l.groups.y ++ (codes " " ++ (decimal l.groups.z ++ line_feed ∷ [])))))

abbrev pub fill_text : ℕ → List ℕ
fill_text n = codes "fill " ++ (decimal n ++ line_feed ∷ [])

abbrev pub launch_text : List Parameter → TypedLaunch → List ℕ
launch_text ps l =
    (codes "launch 1" ++ line_feed ∷ []) ++ (groups_text l ++ (arguments_text ps l.arguments ++ (buffers_text ps l.buffers ++ fill_text l.fill)))
