-- What the words of a command line ask for. The words that are no option are the command and the names of files.
use Rattle.std.specs.Prelude.{◌≡◌, ℕ, List, [], ◌∷◌, map, Bool, true, false, ◌||◌, cond, Option, Some, None, slice_get, bytes_eq, codes}
use Rattle.std.specs.Prelude.{String}
use Rattle.std.specs.Option.{option_map}
use Rattle.std.specs.Fmt.{decimal}
use Rattle.std.specs.String.{string_bytes}
use Rattle.std.specs.declared.alloc.Global.{Global}
use Rattle.types.specs.Scope.{Devices, Bits32, Any}
use Rattle.kernel_reading.specs.Kernels.{Language, Plain, OpenCl, Reading}
use Rattle.kernel_reading.specs.Sources.{reading as reading_seen}
use Rattle.command_line.specs.declared.Names.{Names}
use Rattle.command_line.specs.declared.Search.{Search}
use Rattle.command_line.specs.declared.Subject.{Subject}
use Rattle.command_line.specs.declared.Showing.{Showing}
use Rattle.command_line.specs.declared.Line.{Line}
use Rattle.command_line.specs.declared.Line.TheVariants as lines

abbrev pub texts : List (String Global) → List (List ℕ)
texts ws = map string_bytes ws

abbrev pub is_option : List ℕ → Bool
is_option w = bytes_eq w (codes "--workers") || (bytes_eq w (codes "--out") || bytes_eq w (codes "--devices"))

-- options that have no value
abbrev pub is_wide : List ℕ → Bool
is_wide w = bytes_eq w (codes "--wide")

abbrev pub is_opencl : List ℕ → Bool
is_opencl w = bytes_eq w (codes "--opencl")

abbrev pub is_flag : List ℕ → Bool
is_flag w = is_wide w || is_opencl w

-- the word behind another option is its value
abbrev pub operands : (is_value : Bool) → List (List ℕ) → List (List ℕ)
operands is_value [] = []
operands true (w ∷ ws) = operands false ws
operands false (w ∷ ws) = cond (is_option w) (operands true ws) (cond (is_flag w) (operands false ws) (w ∷ operands false ws))

-- one of the words is `--wide`
abbrev pub has_wide : List (List ℕ) → Bool
has_wide [] = false
has_wide (w ∷ ws) = is_wide w || has_wide ws

-- one of them is `--opencl`
abbrev pub has_opencl : List (List ℕ) → Bool
has_opencl [] = false
has_opencl (w ∷ ws) = is_opencl w || has_opencl ws

-- the word behind the first `--out` is the name of a file to write
abbrev pub saved_as : (is_name : Bool) → List (List ℕ) → Option (List ℕ)
saved_as is_name [] = None
saved_as true (w ∷ ws) = Some w
saved_as false (w ∷ ws) = saved_as (bytes_eq w (codes "--out")) ws

-- the word behind the first `--workers` is their number
abbrev pub workers_as : (is_number : Bool) → List (List ℕ) → Option (List ℕ)
workers_as is_number [] = None
workers_as true (w ∷ ws) = Some w
workers_as false (w ∷ ws) = workers_as (bytes_eq w (codes "--workers")) ws

-- a decimal with no sign and no zero before it; 1 where there is no word
abbrev pub IsNumberOf : Option (List ℕ) → ℕ → Type 0
IsNumberOf None n = n ≡ 1
IsNumberOf (Some w) n = w ≡ decimal n

abbrev pub AsksWorkers : List (List ℕ) → ℕ → Type 0
AsksWorkers ws n = IsNumberOf (workers_as false ws) n

-- the word behind the first `--devices` says which
abbrev pub devices_as : (is_name : Bool) → List (List ℕ) → Option (List ℕ)
devices_as is_name [] = None
devices_as true (w ∷ ws) = Some w
devices_as false (w ∷ ws) = devices_as (bytes_eq w (codes "--devices")) ws

-- `32` or `any`, and no other word; `32` where there is no word
abbrev pub IsDevicesOf : Option (List ℕ) → Devices → Type 0
IsDevicesOf None d = d ≡ Bits32
IsDevicesOf (Some w) Bits32 = w ≡ codes "32"
IsDevicesOf (Some w) Any = w ≡ codes "any"

-- the devices that the kernel is read for
abbrev pub AsksDevices : List (List ℕ) → Devices → Type 0
AsksDevices ws d = IsDevicesOf (devices_as false ws) d

abbrev pub language_by : (is_opencl : Bool) → Language
language_by true = OpenCl
language_by false = Plain

-- the way in which the kernel is read: `--opencl` asks for OpenCL C
abbrev pub AsksReading : List (List ℕ) → Reading → Type 0
AsksReading ws r = AsksDevices ws r.devices × (r.language ≡ language_by (has_opencl ws))

-- this is the n-th of them, from 0
abbrev pub HasWord : List (List ℕ) → ℕ → List ℕ → Type 0
HasWord ws n w = slice_get (operands false ws) n ≡ Some w

-- the files of the kernel, its conditions and its certificate come first; `--wide` asks for the wide check; `--opencl` and `--devices`
-- say how the kernel is read
pub record HasNames (ws : List (List ℕ)) (names : Names) : Type 0 where
  pub kernel : HasWord ws 1 names.kernel.now
  pub conditions : HasWord ws 2 names.conditions.now
  pub certificate : HasWord ws 3 names.certificate.now
  pub wide : names.is_wide ≡ has_wide ws
  pub reading : AsksReading ws (reading_seen names.reading)

-- the kernel and the conditions come first, `--out` names the file to write, `--workers` the number of workers, `--wide` asks for the wide
-- search; `--opencl` and `--devices` say how the kernel is read
pub record HasSearch (ws : List (List ℕ)) (search : Search) : Type 0 where
  pub kernel : HasWord ws 1 search.kernel.now
  pub conditions : HasWord ws 2 search.conditions.now
  pub out : option_map (λ w. w.now) search.out ≡ saved_as false ws
  pub workers : AsksWorkers ws search.workers
  pub wide : search.is_wide ≡ has_wide ws
  pub reading : AsksReading ws (reading_seen search.reading)

-- the kernel and the conditions come first, then the certificate, where there is one; `--wide` asks for the wide check; `--opencl` and
-- `--devices` say how the kernel is read
pub record HasSubject (ws : List (List ℕ)) (subject : Subject) : Type 0 where
  pub kernel : HasWord ws 1 subject.kernel.now
  pub conditions : HasWord ws 2 subject.conditions.now
  pub certificate : option_map (λ w. w.now) subject.certificate ≡ slice_get (operands false ws) 3
  pub wide : subject.is_wide ≡ has_wide ws
  pub reading : AsksReading ws (reading_seen subject.reading)

-- the kernel comes first, then the conditions, where they are named; `--opencl` is one of the words, and `--devices` says for which devices
-- the kernel is read
pub record HasShowing (ws : List (List ℕ)) (showing : Showing) : Type 0 where
  pub kernel : HasWord ws 1 showing.kernel.now
  pub conditions : option_map (λ w. w.now) showing.conditions ≡ slice_get (operands false ws) 2
  pub opencl : has_opencl ws ≡ true
  pub reading : AsksReading ws (reading_seen showing.reading)

abbrev pub Asks : List (List ℕ) → Line → Type 0
Asks ws lines.First = ws ≡ []
Asks ws (lines.Check names) = HasWord ws 0 (codes "check") × HasNames ws names
Asks ws (lines.Run names launch workers) = HasWord ws 0 (codes "run") × HasNames ws names × HasWord ws 4 launch.now × AsksWorkers ws workers
Asks ws (lines.Prove search) = HasWord ws 0 (codes "prove") × HasSearch ws search
Asks ws (lines.Explain subject) = HasWord ws 0 (codes "explain") × HasSubject ws subject
Asks ws (lines.Print kernel) = HasWord ws 0 (codes "print") × HasWord ws 1 kernel.now × (has_opencl ws ≡ false)
Asks ws (lines.Show showing) = HasWord ws 0 (codes "print") × HasShowing ws showing
Asks ws (lines.Migrate old new) = HasWord ws 0 (codes "migrate") × HasWord ws 1 old.now × HasWord ws 2 new.now
Asks ws lines.Usage = Unit {0}
