-- What the code reads and answers, as the definitions have it.
use Rattle.std.specs.Prelude.{◌≡◌, ℕ, List, [], Bool, true, false, map, reverse, Option, None, Some, Result, Ok, Err, Vec, String, string_bytes, slice_index}
use Rattle.std.specs.declared.alloc.Global.{Global}
use Rattle.std.specs.Option.{option_map}
use Rattle.semantics.specs.Core as core
use Rattle.semantics.specs.Launch.{Three}
use Rattle.core_code.specs.View.{site}
use Rattle.core_code.specs.declared.tree.Site.{Site}
use Rattle.opencl_tree.specs.Tree as tree
use Rattle.opencl_tree.specs.View.{base, qualifiers, maybe, declaration, statements}
use Rattle.opencl_tree.specs.declared.tree.Stmt.{Stmt}
use Rattle.opencl_parser.specs.View.{lexemes, all_known, base_named, typed, text_seen}
use Rattle.opencl_parser.specs.View as parser
use Rattle.opencl_files.specs.Faults as rules
use Rattle.opencl_files.specs.FileTree as trees
use Rattle.opencl_files.specs.Chunks as cuts
use Rattle.opencl_files.specs.Functions as functions
use Rattle.opencl_files.specs.Headers as headers
use Rattle.opencl_files.specs.FileConstants as constants
use Rattle.opencl_files.specs.Fronts as fronts
use Rattle.opencl_files.specs.declared.errors.FileFault.{FileFault}
use Rattle.opencl_files.specs.declared.errors.FileFault.TheVariants as faults
use Rattle.opencl_files.specs.declared.errors.FileError.{FileError}
use Rattle.opencl_files.specs.declared.errors.FileError.TheVariants as errors
use Rattle.opencl_files.specs.declared.chunks.Bracket.{Bracket}
use Rattle.opencl_files.specs.declared.chunks.Bracket.TheVariants as brackets_of
use Rattle.opencl_files.specs.declared.chunks.Turn.{Turn}
use Rattle.opencl_files.specs.declared.chunks.Turn.TheVariants as turns
use Rattle.opencl_files.specs.declared.chunks.Step.{Step}
use Rattle.opencl_files.specs.declared.chunks.Step.TheVariants as steps
use Rattle.opencl_files.specs.declared.chunks.Chunk.{Chunk}
use Rattle.opencl_files.specs.declared.chunks.Cut.{Cut}
use Rattle.opencl_files.specs.declared.functions.Spot.{Spot}
use Rattle.opencl_files.specs.declared.functions.Named.{Named}
use Rattle.opencl_files.specs.declared.functions.Looking.{Looking}
use Rattle.opencl_files.specs.declared.functions.Kernel.{Kernel}
use Rattle.opencl_files.specs.declared.attributes.AttributePart.{AttributePart}
use Rattle.opencl_files.specs.declared.attributes.AttributePart.TheVariants as parts
use Rattle.opencl_files.specs.declared.parameters.Front.{Front}
use Rattle.opencl_files.specs.declared.headers.Lead.{Lead}
use Rattle.opencl_files.specs.declared.headers.Title.{Title}
use Rattle.opencl_files.specs.declared.constants.Place.{Place}
use Rattle.opencl_files.specs.declared.fronts.Gathered.{Gathered}
use Rattle.opencl_files.specs.declared.tree.Parameter.{Parameter}
use Rattle.opencl_files.specs.declared.tree.Header.{Header}
use Rattle.opencl_files.specs.declared.tree.Enumerator.{Enumerator}
use Rattle.opencl_files.specs.declared.tree.KernelText.{KernelText}

-- faults
abbrev pub fault : FileFault → rules.FileFault
fault (faults.Text f) = rules.Text (parser.fault f)
fault faults.NoKernel = rules.NoKernel
fault faults.KernelTwice = rules.KernelTwice
fault faults.SeveralKernels = rules.SeveralKernels

abbrev pub error_number : FileError → ℕ
error_number (errors.At f s) = rules.fault_number (fault f)
error_number errors.Memory = 90

abbrev pub maybe_site : Option Site → Option core.Site
maybe_site None = None
maybe_site (Some s) = Some (site s)

abbrev pub error_place : FileError → Option core.Site
error_place (errors.At f s) = Some (site s)
error_place errors.Memory = None

-- an answer is the definition's, unless memory was refused
abbrev pub Fails : {A : Type 0} → FileError → rules.Answer A → Type 0
Fails (errors.At f s) answer = answer ≡ Err (fault f, site s)
Fails errors.Memory answer = Unit {0}

abbrev pub Answers : {A C : Type 0} → (C → A) → Result C FileError → rules.Answer A → Type 0
Answers view (Ok c) answer = answer ≡ Ok (view c)
Answers view (Err error) answer = Fails error answer

-- chunks
abbrev pub bracket : Bracket → cuts.Bracket
bracket brackets_of.Parenthesis = cuts.Parenthesis
bracket brackets_of.Square = cuts.Square
bracket brackets_of.Brace = cuts.Brace

-- the code has the newest last
unfoldable pub brackets : List Bracket → List cuts.Bracket
brackets stack = reverse (map bracket stack)

abbrev pub turn : Turn → cuts.Turn
turn (turns.Opens b) = cuts.Opens (bracket b)
turn (turns.Closes b) = cuts.Closes (bracket b)
turn turns.Ends = cuts.Ends
turn turns.Stops = cuts.Stops
turn turns.Other = cuts.Other

abbrev pub step : Step → cuts.Step
step steps.Within = cuts.Within
step steps.Last = cuts.Last
step steps.Finished = cuts.Finished
step steps.Wrong = cuts.Wrong

abbrev pub chunk : Chunk → cuts.Chunk
chunk c = record { lexemes = lexemes c.lexemes.now; is_braced = c.is_braced }

abbrev pub chunks : List Chunk → List cuts.Chunk
chunks cs = map chunk cs

abbrev pub cut : Cut → cuts.Cut
cut c = record { chunks = chunks c.chunks.items; end = site c.end }

-- functions
abbrev pub spotted : Spot → List ℕ × core.Site
spotted s = (s.name.now, site s.site)

abbrev pub named : Named → functions.Named
named f = record { name = f.name.now; site = site f.site; is_kernel = f.is_kernel }

abbrev pub looking : Looking → functions.Looking
looking l = record { depth = l.depth; is_kernel = l.is_kernel; last = option_map spotted l.last }

abbrev pub kernel : Kernel → functions.Kernel
kernel k = record { before = chunks k.before.now; lexemes = lexemes k.lexemes.now; name = k.name.now; site = site k.site }

abbrev pub kernels : List Kernel → List functions.Kernel
kernels ks = map kernel ks

-- headers
abbrev pub sizes : List ℕ → Three ℕ
sizes s = record { x = slice_index s 0; y = slice_index s 1; z = slice_index s 2 }

abbrev pub maybe_sizes : Option (List ℕ) → Option (Three ℕ)
maybe_sizes None = None
maybe_sizes (Some s) = Some (sizes s)

abbrev pub attribute_part : AttributePart → headers.AttributePart
attribute_part parts.Deeper = headers.Deeper
attribute_part parts.Closing = headers.Closing
attribute_part parts.Sizes = headers.Sizes
attribute_part parts.Passed = headers.Passed

abbrev pub maybe_name : Option (String Global) → Option (List ℕ)
maybe_name None = None
maybe_name (Some x) = Some (string_bytes x)

abbrev pub front : Front → headers.Front
front f = record { base = base_named f.base; qualifiers = qualifiers f.qualifiers; stars = map qualifiers f.stars.items }

abbrev pub parameter : Parameter → trees.Parameter
parameter p = record {
  site = site p.site;
  name = maybe_name p.name;
  base = base p.base;
  qualifiers = qualifiers p.qualifiers;
  stars = map qualifiers p.stars.items;
  dimensions = map maybe p.dimensions.items;
}

abbrev pub parameters : Vec Parameter Global → List trees.Parameter
parameters ps = map parameter ps.items

abbrev pub lead : Lead → headers.Lead
lead l = record { typed = typed l.typed; sizes = maybe_sizes l.sizes }

abbrev pub title : Title → headers.Title
title t = record { stars = map qualifiers t.stars.items; site = site t.site; name = t.name.now }

abbrev pub header : Header → trees.Header
header h = record {
  sizes = maybe_sizes h.sizes;
  base = base h.base;
  qualifiers = qualifiers h.qualifiers;
  stars = map qualifiers h.stars.items;
  site = site h.site;
  name = string_bytes h.name;
  parameters = parameters h.parameters;
}

abbrev pub body : Vec Stmt Global → tree.Statements
body b = statements b.items

abbrev pub function : Header × Vec Stmt Global → trees.Header × tree.Statements
function f = (header f.0, body f.1)

-- what constants are put into
abbrev pub place_seen : Place → constants.Room
place_seen p = record { head = lexemes p.head.now; most = p.most }

-- what stands before a kernel
abbrev pub enumerator : Enumerator → trees.Enumerator
enumerator e = record { site = site e.site; name = string_bytes e.name; value = maybe e.value }

abbrev pub enumerators : Vec Enumerator Global → List trees.Enumerator
enumerators es = map enumerator es.items

abbrev pub gathered : Gathered → fronts.Gathered
gathered g = record {
  known = all_known g.known.items;
  aliases = map declaration g.aliases.items;
  enumerations = map enumerators g.enumerations.items;
  functions = map function g.functions.items;
  constants = chunks g.constants.items;
}

abbrev pub kernel_text : KernelText → trees.KernelText
kernel_text k = record {
  header = header k.header;
  body = body k.body;
  aliases = map declaration k.aliases.items;
  enumerations = map enumerators k.enumerations.items;
  functions = map function k.functions.items;
}
