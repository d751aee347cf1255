-- What the code's calls stand for.
use Rattle.core_code.specs.View.{site}
use Rattle.opencl_terms.specs.View.{scalar}
use Rattle.opencl_values.specs.Calls as calls
use Rattle.opencl_values.specs.View.{singles_seen}
use Rattle.opencl_values.specs.declared.calls.Call.{Call}
use Rattle.words.specs.View.{kind}

abbrev pub call : Call → calls.Call
call c = record { ids = kind c.ids; operation = c.operation; to = scalar c.to; site = site c.at; arguments = singles_seen c.of.now }
