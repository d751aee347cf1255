-- What the code answers of the machine, as the definitions have it.
use Rattle.std.specs.Prelude.{Option, None, Some}
use Rattle.std.specs.Option.{option_map}
use Rattle.opencl_tokens.specs.Seen.{site}
use Rattle.opencl_macros.specs.Expansion as expansion
use Rattle.opencl_macros.specs.Machine as machines
use Rattle.opencl_macros.specs.Seen.{active, arguments, fed, feed, macro}
use Rattle.opencl_macros.specs.declared.feed.Fed.{Fed}
use Rattle.opencl_macros.specs.declared.machine.Call.{Call}
use Rattle.opencl_macros.specs.declared.machine.Arguments.{Arguments}
use Rattle.opencl_macros.specs.declared.machine.Expansion.{Expansion}
use Rattle.opencl_macros.specs.declared.machine.Machine.{Machine}

abbrev pub machine : Machine → machines.Machine
machine m = record { feed = feed m.feed.items; active = active m.active.items; out = feed m.out.items; left = m.left }

abbrev pub call : Call → machines.Use
call c = record { name = c.name.now; site = site c.site; macro = macro c.used; arguments = arguments c.arguments.items }

abbrev pub next : machines.Machine → Option Call → machines.Next
next m None = machines.Goes m
next m (Some c) = machines.Calls (call c) m

abbrev pub expansion_seen : Expansion → machines.Expanded
expansion_seen e = record { out = feed e.out.items; left = e.left }

abbrev pub done_seen : Arguments → machines.Arguments
done_seen a = record { done = arguments a.done.items; left = a.left }

abbrev pub machine_came : Machine → machines.Expanded
machine_came m = record { out = feed m.out.items; left = m.left }

abbrev pub took : Option Fed → machines.Machine → Option expansion.Fed × machines.Machine
took item m = (option_map fed item, m)
