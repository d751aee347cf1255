-- What the code's conditions and launches stand for.
use Rattle.std.specs.Prelude.{ℕ, ℤ, pos, List, map}
use Rattle.semantics.specs.Conditions as meaning
use Rattle.semantics.specs.Launch as launches
use Rattle.words.specs.View.{word, value_of}
use Rattle.words.specs.declared.word.Word.{Word}
use Rattle.std.specs.Prelude.{Vec}
use Rattle.std.specs.declared.alloc.Global.{Global}
use Rattle.launch.specs.Numbers.{number}
use Rattle.launch.specs.declared.conditions.CountRange.{CountRange}
use Rattle.launch.specs.declared.conditions.ArgumentRange.{ArgumentRange}
use Rattle.launch.specs.declared.conditions.Dimension.{Dimension}
use Rattle.launch.specs.declared.conditions.Dimension.TheVariants as dimensions
use Rattle.launch.specs.declared.conditions.Factor.{Factor}
use Rattle.launch.specs.declared.conditions.Factor.TheVariants as factors
use Rattle.launch.specs.declared.conditions.Summand.{Summand}
use Rattle.launch.specs.declared.conditions.Summand.TheVariants as summands
use Rattle.launch.specs.declared.conditions.Sum.{Sum}
use Rattle.launch.specs.declared.conditions.Length.{Length}
use Rattle.launch.specs.declared.conditions.Requirement.{Requirement}
use Rattle.launch.specs.declared.conditions.Content.{Content}
use Rattle.launch.specs.declared.conditions.Conditions.{Conditions}
use Rattle.launch.specs.declared.launches.Counts.{Counts}
use Rattle.launch.specs.declared.launches.Launch.{Launch}

abbrev pub count_range : CountRange → meaning.Range
count_range r = record { low = pos r.low; high = pos r.high }

abbrev pub argument_range : ArgumentRange → meaning.Range
argument_range r = record { low = value_of r.low; high = value_of r.high }

abbrev pub dimension : Dimension → ℕ
dimension dimensions.X = 0
dimension dimensions.Y = 1
dimension dimensions.Z = 2

abbrev pub factor : Factor → meaning.Factor
factor (factors.Argument p) = meaning.ArgumentFactor p
factor (factors.Groups d) = meaning.GroupsFactor (dimension d)

abbrev pub summand : Summand → meaning.Summand
summand (summands.Constant n) = meaning.Constant (number n)
summand (summands.Argument c p) = meaning.Argument (number c) p
summand (summands.Groups c d) = meaning.Groups (number c) (dimension d)
summand (summands.Product c a b) = meaning.Product (number c) (factor a) (factor b)

abbrev pub sum : Sum → List meaning.Summand
sum s = map summand s.terms.items

abbrev pub length_sum : Length → List meaning.Summand
length_sum l = sum l.least

abbrev pub requirement : Requirement → meaning.Requirement
requirement r = record { left = sum r.left; right = sum r.right }

abbrev pub content : Content → meaning.Content
content x = record { buffer = x.buffer; is_upper = x.is_upper; sum = sum x.sum }

abbrev pub conditions : Conditions → meaning.Conditions
conditions c = record {
  groups = record { x = count_range c.groups.x; y = count_range c.groups.y; z = count_range c.groups.z };
  arguments = map argument_range c.arguments.items;
  lengths = map length_sum c.lengths.items;
  requires = map requirement c.requirements.items;
  contents = map content c.contents.items;
  budget = c.budget;
}

abbrev pub counts : Counts → launches.Three ℕ
counts c = record { x = c.x; y = c.y; z = c.z }

abbrev pub buffer : Vec Word Global → List ℤ
buffer b = map value_of b.items

abbrev pub launch : Launch → launches.Launch
launch l = record {
  groups = counts l.groups;
  arguments = map word l.arguments.items;
  buffers = map buffer l.buffers.words.items;
  fill = l.fill;
  machine = launches.silent;
}
