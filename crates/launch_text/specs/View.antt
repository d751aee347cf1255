-- The code's conditions and launches as a text says them: each condition with its line, each word with its kind.
use Rattle.std.specs.Prelude.{ℕ, List, map, slice_index, Vec}
use Rattle.std.specs.Option.{option_map}
use Rattle.std.specs.declared.alloc.Global.{Global}
use denote.Ref.{Bor}
use Rattle.semantics.specs.Launch as launches
use Rattle.semantics.specs.Word as semantics
use Rattle.launch_text.specs.Answers.{bytes}
use Rattle.launch_text.specs.ConditionsReading as conditions
use Rattle.launch_text.specs.HeadReading as heads
use Rattle.launch_text.specs.LaunchReading as given
use Rattle.launch_text.specs.declared.head.Head.{Head}
use Rattle.launch_text.specs.declared.head.LocalCount.{LocalCount}
use Rattle.words.specs.View.{kind, word}
use Rattle.words.specs.declared.word.Word.{Word}
use Rattle.launch.specs.View as view
use Rattle.launch.specs.declared.conditions.CountRange.{CountRange}
use Rattle.launch.specs.declared.conditions.CountRanges.{CountRanges}
use Rattle.launch.specs.declared.conditions.ArgumentRange.{ArgumentRange}
use Rattle.launch.specs.declared.conditions.Length.{Length}
use Rattle.launch.specs.declared.conditions.Requirement.{Requirement}
use Rattle.launch.specs.declared.conditions.Content.{Content}
use Rattle.launch.specs.declared.conditions.Conditions.{Conditions}
use Rattle.launch.specs.declared.launches.Counts.{Counts}
use Rattle.launch.specs.declared.launches.Launch.{Launch}

abbrev pub counts : CountRange → conditions.CountRange
counts r = conditions.counts_between r.low r.high

abbrev pub three_counts : CountRanges → launches.Three conditions.CountRange
three_counts r = conditions.three (counts r.x) (counts r.y) (counts r.z)

abbrev pub argument : ArgumentRange → conditions.ArgumentRange
argument r = conditions.words_between (word r.low) (word r.high) r.line

abbrev pub arguments : Vec ArgumentRange Global → List conditions.ArgumentRange
arguments rs = map argument rs.items

abbrev pub length : Length → conditions.Length
length l = conditions.length_of (kind l.kind) (view.sum l.least) l.line

abbrev pub lengths : Vec Length Global → List conditions.Length
lengths ls = map length ls.items

abbrev pub requirement : Requirement → conditions.Requirement
requirement r = conditions.requirement_of (view.sum r.left) (view.sum r.right) r.line

abbrev pub requirements : Vec Requirement Global → List conditions.Requirement
requirements rs = map requirement rs.items

abbrev pub content : Content → conditions.ContentLine
content x = conditions.content_of x.buffer x.is_upper (view.sum x.sum) x.line

abbrev pub contents : Vec Content Global → List conditions.ContentLine
contents xs = map content xs.items

abbrev pub lined : Conditions → conditions.Lined
lined c = conditions.lined (three_counts c.groups) c.groups_line (arguments c.arguments) (lengths c.lengths) (requirements c.requirements) (contents c.contents) c.budget

abbrev pub words : Vec Word Global → List semantics.Word
words ws = map word ws.items

abbrev pub buffers : Vec (Vec Word Global) Global → List (List semantics.Word)
buffers bs = map words bs.items

abbrev pub given_counts : Counts → launches.Three ℕ
given_counts c = given.counts c.x c.y c.z

abbrev pub launch : Launch → given.TypedLaunch
launch l = given.given (given_counts l.groups) (words l.arguments) (buffers l.buffers.words) l.fill

abbrev pub sizes : List ℕ → launches.Three ℕ
sizes s = heads.sizes_of (slice_index s 0) (slice_index s 1) (slice_index s 2)

abbrev pub local : LocalCount → heads.LocalCount
local l = heads.local_of l.name.now l.count

abbrev pub locals : Vec LocalCount Global → List heads.LocalCount
locals ls = map local ls.items

abbrev pub defines : Vec (Bor (List ℕ)) Global → List (List ℕ)
defines ds = map bytes ds.items

abbrev pub head : Head → heads.Head
head h = heads.head_with (option_map bytes h.kernel) (defines h.defines) (option_map sizes h.sizes) (locals h.locals)
