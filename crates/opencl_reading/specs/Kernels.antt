-- What the bytes of a text of OpenCL C say where it is read for some devices, with the head of conditions: a core with its map of names, or
-- the first fault with its place. What a core has to keep that is run and proved is tested of it.
use Rattle.std.specs.Prelude.{ℕ, List, [], ◌++◌, codes, length, map, Bool, true, false, cond, ◌&&◌, nat_le, Option, None, Some, Result, Ok, Err}
use Rattle.semantics.specs.Word.{Kind}
use Rattle.semantics.specs.Launch as launch
use Rattle.semantics.specs.Launch.{Three}
use Rattle.semantics.specs.Core.{Site}
pub use Rattle.work_item.specs.Proper.{are_sizes}
use Rattle.types.specs.Scope.{Devices, size_kind}
use Rattle.kernel_names.specs.NameMap.{NameMap, site_at}
use Rattle.kernel_names.specs.Parameters.{value_kind, buffer_kind, kinds}
use Rattle.opencl_tokens.specs.Faults as texts
use Rattle.opencl_tokens.specs.Joining.{Joined, joined_of}
use Rattle.opencl_tokens.specs.Tokens.{Token}
use Rattle.opencl_tokens.specs.Scanning.{tokens_of}
use Rattle.opencl_tokens.specs.Lexemes.{Lexeme}
use Rattle.opencl_tokens.specs.Reading.{lexemes_of}
use Rattle.opencl_macros.specs.Reading.{preprocessed}
use Rattle.opencl_files.specs.Faults as files
use Rattle.opencl_files.specs.FileTree.{KernelText}
use Rattle.opencl_files.specs.Files.{chosen_kernel}
use Rattle.opencl_values.specs.Faults as cores
use Rattle.launch_text.specs.HeadReading.{Head}
use Rattle.opencl_core.specs.Heads.{LocalCount}
pub use Rattle.opencl_core.specs.Kernels.{Written}
use Rattle.opencl_core.specs.Kernels.{kernel_of}
use Rattle.sound_cores.specs.Sound.{is_sound}
pub use Rattle.sound_cores.specs.Unset.{first_unset}
use Rattle.opencl_values.specs.Scope.{Binding}
use Rattle.opencl_reading.specs.Defines.{joined_behind, tokens_behind}
use Rattle.opencl_reading.specs.FileNames.{outside_of}
use Rattle.opencl_reading.specs.FileTypes.{meant_in}
use Rattle.opencl_reading.specs.HeadRules.{are_same_sizes, are_locals, as_count}
use Rattle.opencl_reading.specs.Jumps.{rewritten_text}
use Rattle.opencl_reading.specs.Kinds.{are_same}
use Rattle.opencl_reading.specs.Overloads.{first_overloading}

-- `NoSizes`: neither the kernel nor the head says how large its work-groups are; `OtherSizes`: both do, and differ; `NoSuchLocal`: the head
-- gives a length to a name that no `__local` parameter has, or twice to one
pub data Fault : Type 0 where
  OfText : (fault : texts.TextFault) → Fault
  OfFile : (fault : files.FileFault) → Fault
  OfCore : (fault : cores.Fault) → Fault
  NoSizes OtherSizes NoSuchLocal : Fault
  Unsound : Fault

abbrev pub Read : Type 0
Read = Result Written (Fault × Site)

-- goes on from a part, whose faults are among these
abbrev pub on : {A B F : Type 0} → (F → Fault) → Result A (F × Site) → (A → Result B (Fault × Site)) → Result B (Fault × Site)
on into (Ok a) next = next a
on into (Err (fault, site)) next = Err (into fault, site)

abbrev pub when : Bool → Fault → Site → Written → Read
when true fault site w = Ok w
when false fault site w = Err (fault, site)

-- at most 96 parameters (ours)
abbrev pub has_few : NameMap → Bool
has_few m = nat_le (length m.parameters) 96

-- the map tells of just the core's parameters
abbrev pub has_parameters : launch.Kernel → NameMap → Bool
has_parameters k m = are_same k.arguments (kinds value_kind m.parameters) && are_same k.buffers (kinds buffer_kind m.parameters)

abbrev pub is_kept : Written → Bool
is_kept w = is_sound w.core && has_parameters w.core w.names

abbrev pub tested : Site → Written → Read
tested at w = when (is_kept w) Unsound at w

-- a kernel with a variable that may be read before it is set has no meaning (C99 6.7.8p10, J.2)
abbrev pub all_set : Site → Written → Option ℕ → Read
all_set at w None = tested at w
all_set at w (Some n) = Err (OfCore cores.Unset, site_at w.names (Some n))

abbrev pub with_few : Site → Written → Bool → Read
with_few at w true = all_set at w (first_unset w.core)
with_few at w false = Err (OfCore cores.TooMany, at)

abbrev pub checked : Site → Written → Read
checked at w = with_few at w (has_few w.names)

abbrev pub of_size : (ids : Kind) → (outside : List Binding) → KernelText → List LocalCount → Three ℕ → Read
of_size ids outside t counts sizes =
    on OfCore (kernel_of ids (meant_in ids t outside) t.functions sizes t.header counts t.body) (checked t.header.site)

-- the kernel's attribute says how large its work-groups are, or the head does; what both say is the same
abbrev pub agreed : Site → (own given : Option (Three ℕ)) → Result (Three ℕ) (Fault × Site)
agreed at None None = Err (NoSizes, at)
agreed at None (Some sizes) = Ok sizes
agreed at (Some sizes) None = Ok sizes
agreed at (Some sizes) (Some others) = cond (are_same_sizes sizes others) (Ok sizes) (Err (OtherSizes, at))

-- lengths are given to `__local` parameters, to each once
abbrev pub counted : (ids : Kind) → (outside : List Binding) → KernelText → List LocalCount → Three ℕ → Bool → Read
counted ids outside t counts sizes false = Err (NoSuchLocal, t.header.site)
counted ids outside t counts sizes true = of_size ids outside t counts sizes

abbrev pub with_locals : (ids : Kind) → (outside : List Binding) → KernelText → Head → Three ℕ → Read
with_locals ids outside t h sizes = counted ids outside t (map as_count h.locals) sizes (are_locals t.header.parameters h.locals)

-- a work-group has at most 1,024 work-items
abbrev pub sized : (ids : Kind) → (outside : List Binding) → KernelText → Head → Three ℕ → Bool → Read
sized ids outside t h sizes false = Err (OfCore cores.TooMany, t.header.site)
sized ids outside t h sizes true = with_locals ids outside t h sizes

abbrev pub with_sizes : (ids : Kind) → (outside : List Binding) → KernelText → Head → Three ℕ → Read
with_sizes ids outside t h sizes = sized ids outside t h sizes (are_sizes sizes)

abbrev pub same : Fault → Fault
same fault = fault

abbrev pub with_head : (ids : Kind) → (outside : List Binding) → Head → KernelText → Read
with_head ids outside h t = on same (agreed t.header.site t.header.sizes h.sizes) (with_sizes ids outside t h)

abbrev pub of_text : (ids : Kind) → Head → List Lexeme → KernelText → Read
of_text ids h ts t = with_head ids (outside_of ts) h (rewritten_text t)

abbrev pub of_file : (ids : Kind) → Head → List Lexeme → (overloading : Option Site) → Read
of_file ids h ts None = on OfFile (chosen_kernel h.kernel ts) (of_text ids h ts)
of_file ids h ts (Some at) = Err (OfCore (cores.LeftOut cores.Outside), at)

abbrev pub of_lexemes : (ids : Kind) → Head → List Lexeme → Read
of_lexemes ids h ts = of_file ids h ts (first_overloading ts)

-- a fault of directives and macros
abbrev pub placed : {A : Type 0} → Result A Site → Result A (texts.TextFault × Site)
placed (Ok a) = Ok a
placed (Err site) = Err (texts.Preprocessor, site)

abbrev pub of_expanded : (ids : Kind) → Head → List Token → Read
of_expanded ids h ts = on OfText (lexemes_of ts) (of_lexemes ids h)

abbrev pub with_given : (ids : Kind) → Head → (text given : List Token) → Read
with_given ids h ts gs = on OfText (placed (preprocessed gs ts)) (of_expanded ids h)

-- macros that stand for the same in each build of OpenCL C 1.2 (OpenCL 1.2, 6.10)
unfoldable pub constants : List ℕ
constants =
    codes "#define __OPENCL_VERSION__ 120\n#define __OPENCL_C_VERSION__ 120\n#define __ENDIAN_LITTLE__ 1\n"
    ++ codes "#define CL_VERSION_1_0 100\n#define CL_VERSION_1_1 110\n#define CL_VERSION_1_2 120\n"

-- what the head defines comes behind them
abbrev pub with_texts : (ids : Kind) → Head → (text given : List Token) → List Joined → Read
with_texts ids h ts gs lines = on OfText (tokens_behind gs lines) (with_given ids h ts)

abbrev pub with_defines : (ids : Kind) → Head → (text given : List Token) → Read
with_defines ids h ts gs = on OfText (joined_behind [] h.defines) (with_texts ids h ts gs)

abbrev pub with_lines : (ids : Kind) → Head → List Token → Joined → Read
with_lines ids h ts lines = on OfText (tokens_of lines) (with_defines ids h ts)

abbrev pub of_tokens : (ids : Kind) → Head → List Token → Read
of_tokens ids h ts = on OfText (joined_of constants) (with_lines ids h ts)

abbrev pub of_lines : (ids : Kind) → Head → Joined → Read
of_lines ids h lines = on OfText (tokens_of lines) (of_tokens ids h)

unfoldable pub read : Devices → Head → (bytes : List ℕ) → Read
read d h bytes = on OfText (joined_of bytes) (of_lines (size_kind d) h)
