-- What the code answers of `defined`, as the definitions have it.
use Rattle.std.specs.Prelude.{List, Vec, Option}
use Rattle.std.specs.Option.{option_map}
use Rattle.std.specs.declared.alloc.Global.{Global}
use Rattle.opencl_tokens.specs.Tokens as tokens
use Rattle.opencl_tokens.specs.Seen.{token}
use Rattle.opencl_tokens.specs.declared.Token.{Token}
use Rattle.opencl_macros.specs.Questions as questions
use Rattle.opencl_macros.specs.Seen.{tokens_seen}
use Rattle.opencl_macros.specs.declared.questions.Due.{Due}
use Rattle.opencl_macros.specs.declared.questions.Due.TheVariants as dues

abbrev pub due : Due → questions.Due
due dues.Nothing = questions.Nothing
due dues.NameOrBracket = questions.NameOrBracket
due dues.NameAlone = questions.NameAlone
due dues.Bracket = questions.Bracket

abbrev pub maybe_token : Option Token → Option tokens.Token
maybe_token t = option_map token t

abbrev pub asked : Due × Option Token → questions.Due × Option tokens.Token
asked a = (due a.0, maybe_token a.1)

abbrev pub tokens_of : Vec Token Global → List tokens.Token
tokens_of ts = tokens_seen ts.items
