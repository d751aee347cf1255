-- The text of a kernel without jumps that a core does not have, and so the functions in front of it.
use Rattle.std.specs.Prelude.{map}
use Rattle.opencl_tree.specs.Tree.{Statements}
use Rattle.opencl_files.specs.FileTree.{Header, KernelText}
use Rattle.opencl_jumps.specs.Functions.{function_body}
use Rattle.opencl_jumps.specs.Switches.{all_rewritten}

abbrev pub rewritten_function : (Header × Statements) → (Header × Statements)
rewritten_function f = (f.0, function_body f.0.site f.0.base f.1)

abbrev pub rewritten_text : KernelText → KernelText
rewritten_text t = record t { body = all_rewritten t.body; functions = map rewritten_function t.functions }
