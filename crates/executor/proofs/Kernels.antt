-- What is known of an accepted kernel at a launch that fits it.
use Rattle.std.proofs.Common.{◌≡◌, ◌<◌, List, length, map, sym, ◌∙◌}
use Rattle.std.proofs.lemmas.List.{length-map}
use Rattle.std.proofs.lemmas.Slice.Zip.{AllZip-long}
use Rattle.std.specs.List.{AllZip}
use Rattle.semantics.specs.Launch.{Kernel, Launch, IsArgument, IsBuffer, product}
use Rattle.semantics.specs.Word.{Width}
use Rattle.semantics.specs.Setup.{group_size, at_launch, on_device}
use Rattle.std.specs.Prelude.{Vec}
use Rattle.std.specs.declared.alloc.Global.{Global}
use Rattle.words.specs.View.{word}
use Rattle.launch.specs.View.{argument_range, length_sum, buffer}
use Rattle.launch.specs.declared.conditions.ArgumentRange.{ArgumentRange}
use Rattle.launch.specs.declared.conditions.Length.{Length}
use Rattle.words.specs.declared.word.Word as code

pub some-items : (k : Kernel) (l : Launch) → 0 < product k.sizes → 0 < group_size (at_launch k l)
unfolding group_size
some-items k l h = h

pub some-items-on : (w : Width) (k : Kernel) (l : Launch) → 0 < product k.sizes → 0 < group_size (on_device w (at_launch k l))
unfolding group_size
some-items-on w k l h = h

-- as many as the kernel has parameters
pub arguments-alike : (k : Kernel) (rs : List ArgumentRange) (ws : List code.Word) → length (map argument_range rs) ≡ length k.arguments → AllZip IsArgument k.arguments (map word ws) → length rs ≡ length ws
arguments-alike k rs ws h a = sym (length-map rs argument_range) ∙ h ∙ sym (AllZip-long IsArgument k.arguments (map word ws) a) ∙ length-map ws word

pub buffers-alike : (k : Kernel) (ls : List Length) (bs : List (Vec code.Word Global)) → length (map length_sum ls) ≡ length k.buffers → AllZip IsBuffer k.buffers (map buffer bs) → length ls ≡ length bs
buffers-alike k ls bs h a = sym (length-map ls length_sum) ∙ h ∙ sym (AllZip-long IsBuffer k.buffers (map buffer bs) a) ∙ length-map bs buffer
