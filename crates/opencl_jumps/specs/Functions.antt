-- The body of a function of the file. Where a `return` does not stand last on its way, it keeps its value in a variable, and the function
-- goes on to its end, where it gives that. The variable begins as 0, which nothing sees: a value is given on each way (C99 6.9.1p12).
use Rattle.std.specs.Prelude.{Bool, true, false, cond, ◌&&◌, Option, Some, None}
use Rattle.semantics.specs.Core.{Site}
use Rattle.opencl_tree.specs.Types.{Base, Void, Numbers, Alias}
use Rattle.opencl_tree.specs.Tree.{Statement, Return, Statements, none, one}
use Rattle.opencl_jumps.specs.Exits.{Returning, ends, fits, needs}
use Rattle.opencl_jumps.specs.Made.{flag_of, result_name, variable, declared, flag_declared}
use Rattle.opencl_jumps.specs.Leaving.{leave}
use Rattle.opencl_jumps.specs.Switches.{all_rewritten}

-- the last statement of a function that gives something
abbrev pub last : Site → Statement
last at = Return 0 at (Some (variable at result_name))

abbrev pub followed : Statements → Statement → Statements
followed none s = one s none
followed (one first others) s = one first (followed others s)

abbrev pub gives : Option Base → Statements → Bool
gives None ss = true
gives (Some b) ss = ends ss

abbrev pub may_flag : Option Base → Statements → Bool
may_flag b ss = needs Returning false ss && (gives b ss && fits Returning ss)

abbrev pub flagged : Site → Statements → Statements
flagged at ss = one (flag_declared at (flag_of Returning)) (leave Returning true ss none)

abbrev pub giving : Site → Base → Statements → Statements
giving at b ss = one (declared at b result_name) (followed (flagged at ss) (last at))

abbrev pub as_flagged : Site → Option Base → Statements → Statements
as_flagged at None ss = flagged at ss
as_flagged at (Some b) ss = giving at b ss

abbrev pub returning : Site → Option Base → Statements → Statements
returning at b ss = cond (may_flag b ss) (as_flagged at b ss) ss

-- a function of `void` gives nothing
abbrev pub result_base : Base → Option Base
result_base Void = None
result_base (Numbers s n) = Some (Numbers s n)
result_base (Alias name) = Some (Alias name)

-- the base is that of the function's type
unfoldable pub function_body : Site → Base → Statements → Statements
function_body at b ss = returning at (result_base b) (all_rewritten ss)
