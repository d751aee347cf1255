-- What the code answers, as the definitions have it.
use Rattle.std.specs.Prelude.{ℕ, ◌≡◌, Bool, true, false, List, map, Vec, Option, None, Some, Result, Ok, Err}
use Rattle.std.specs.Option.{option_map}
use denote.Ref.{Bor}
use Rattle.std.specs.declared.alloc.Global.{Global}
use Rattle.semantics.specs.Core as core
use Rattle.opencl_tokens.specs.Tokens as tokens
use Rattle.opencl_tokens.specs.Seen.{token, site}
use Rattle.opencl_tokens.specs.declared.Token.{Token}
use Rattle.opencl_macros.specs.Macros as macros
use Rattle.opencl_macros.specs.Expansion as expansion
use Rattle.opencl_macros.specs.Bodies as bodies
use Rattle.opencl_macros.specs.declared.MacroError.{MacroError}
use Rattle.opencl_macros.specs.declared.MacroError.TheVariants as errors
use Rattle.opencl_macros.specs.declared.macros.Macro.{Macro}
use Rattle.opencl_macros.specs.declared.macros.Entry.{Entry}
use Rattle.opencl_macros.specs.declared.feed.Fed.{Fed}
use Rattle.opencl_macros.specs.declared.feed.Fed.TheVariants as items
use Rattle.opencl_macros.specs.declared.bodies.Filled.{Filled}

-- an answer is the definition's, unless memory was refused
abbrev pub Fails : {X : Type 0} → MacroError → Result X core.Site → Type 0
Fails (errors.At s) answer = answer ≡ Err (site s)
Fails errors.Memory answer = Unit {0}

abbrev pub Gives : {A B : Type 0} → (A → B) → Result A MacroError → Result B core.Site → Type 0
Gives view (Ok a) answer = answer ≡ Ok (view a)
Gives view (Err e) answer = Fails e answer

abbrev pub tokens_seen : List Token → List tokens.Token
tokens_seen ts = map token ts

abbrev pub lent : Bor (List Token) → List tokens.Token
lent ts = tokens_seen ts.now

abbrev pub name : Bor (List ℕ) → List ℕ
name n = n.now

abbrev pub macro : Macro → macros.Macro
macro m = record { parameters = option_map lent m.parameters; body = lent m.body }

abbrev pub maybe_macro : Option Macro → Option macros.Macro
maybe_macro m = option_map macro m

abbrev pub entry : Entry → macros.Entry
entry e = record { name = e.name.now; macro = maybe_macro e.stands_for }

abbrev pub table : List Entry → macros.Table
table es = map entry es

abbrev pub fed : Fed → expansion.Fed
fed (items.Word t is_kept) = expansion.Word (token t) is_kept
fed items.Behind = expansion.Behind

abbrev pub feed : List Fed → List expansion.Fed
feed fs = map fed fs

abbrev pub active : List (Bor (List ℕ)) → expansion.Active
active ns = map name ns

abbrev pub arguments : List (Vec Fed Global) → List (List expansion.Fed)
arguments xs = map (λ x. feed x.items) xs

abbrev pub lent_feed : Bor (List Fed) → List expansion.Fed
lent_feed fs = feed fs.now

abbrev pub gathered_seen : List (Bor (List ℕ)) → List Fed → Vec (Vec Fed Global) Global → expansion.Gathered
gathered_seen ns rest found = record { arguments = arguments found.items; active = active ns; rest = feed rest }

-- where memory was not refused
abbrev pub IfRead : {A : Type 0} → Result A MacroError → (A → Type 0) → Type 0
IfRead (Ok a) P = P a
IfRead (Err (errors.At s)) P = ⊥
IfRead (Err errors.Memory) P = Unit {0}

abbrev pub filled_seen : Filled → bodies.Filled
filled_seen f = record { tokens = feed f.tokens.items; left = f.left; is_bare = f.is_bare; joins = f.joins }

abbrev pub when_filled : (fits : Bool) → bodies.Filled → Option bodies.Filled
when_filled true f = Some f
when_filled false f = None
