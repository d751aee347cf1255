-- Launches with just the parameters of a kernel.
use Rattle.std.specs.Prelude.{◌≡◌, ◌≤◌, ◌<◌, ◌^◌, true, List, [], ◌∷◌}
use Rattle.std.specs.List.{AllZip}
use Rattle.semantics.specs.Word.{Kind, Word}
use Rattle.semantics.specs.Launch.{IsCount, IsArgument}
use Rattle.lines.specs.Identifiers.{is_identifier}
use Rattle.texts.specs.Surface.{Parameter}
use Rattle.kernel_names.specs.Parameters.{value_kind, buffer_kind, kinds}
use Rattle.launch_text.specs.LaunchWords.{name_of}
use Rattle.launch_text.specs.LaunchReading.{TypedLaunch, most_words, words_of}

-- names that the texts can spell
abbrev pub AreNamed : List Parameter → Type 0
AreNamed [] = Unit {0}
AreNamed (p ∷ ps) = (is_identifier (name_of p) ≡ true) × AreNamed ps

-- words of a kind
abbrev pub AreWords : Kind → List Word → Type 0
AreWords k [] = Unit {0}
AreWords k (w ∷ ws) = IsArgument k w × AreWords k ws

-- a launch of a kernel with these parameters whose text gives at most 1,048,576 words
pub record IsGiven (ps : List Parameter) (l : TypedLaunch) : Type 0 where
  pub names : AreNamed ps
  pub count_x : IsCount l.groups.x
  pub count_y : IsCount l.groups.y
  pub count_z : IsCount l.groups.z
  pub arguments : AllZip IsArgument (kinds value_kind ps) l.arguments
  pub buffers : AllZip AreWords (kinds buffer_kind ps) l.buffers
  pub few : words_of l.buffers ≤ most_words
  pub fill : l.fill < 2 ^ 31
