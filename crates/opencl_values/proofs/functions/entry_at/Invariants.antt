use Rattle.std.proofs.Common.{◌≡◌, ◌+◌, drop}
use Rattle.std.specs.Prelude.{map}
use Rattle.opencl_values.specs.Functions.{entry_at}
use Rattle.opencl_values.specs.FunctionsView.{form_entry}
use Rattle.opencl_values.proofs.functions.entry_at.Given as goal

abbrev pub invariant-loop-text : goal.invariant-loop-text
invariant-loop-text l = record {
  place : l.place ≡ l.from + l.text-index;
  same : entry_at (map form_entry (drop l.text-index l.table)) l.name l.place ≡ entry_at (map form_entry l.table) l.name l.from;
}
