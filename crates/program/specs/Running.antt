-- What a run of the program reads and writes.
use Rattle.std.specs.Prelude.{◌≡◌, ◌≢◌, ◌+◌, ◌++◌, ◌⊎◌, ℕ, List, [], ◌∷◌, Bool, true, false, Option, Some, None, IfSome, slice_get, take, codes}
use Rattle.std.specs.Io.KnownBytes.{Appends, Keeps}
use Rattle.semantics.specs.Launch.{Launch, Fits}
use Rattle.semantics.specs.Conditions.{Conditions, Meets}
use Rattle.kernel_reading.specs.Kernels.{Language, Plain, OpenCl, Reading, Kernel, Source, narrow, text_for, text_under}
use Rattle.telling.specs.Telling.{AreSafeTexts, IsAcceptedText, IsResultText, IsPrintedText, accepted_line}
use Rattle.telling.specs.Proving.{no_launch_line}
use Rattle.telling.specs.ProvingVerdicts.{Begins}
use Rattle.telling.specs.Migrating.{IsMigrated}
use Rattle.telling.specs.Showing.{IsShownText}
use Rattle.telling.specs.Refusals.{IsRefusalLine}
use Rattle.command_line.specs.Words.{operands, has_wide, has_opencl, HasWord, AsksWorkers, AsksReading, saved_as}
use Rattle.program.specs.First.{first_kernel, first_conditions}

-- a read of a file: its name, the limit of its text, and the bytes that it gave
pub record Read : Type 0 where
  pub name : List ℕ
  pub limit : ℕ
  pub bytes : List ℕ

-- the bytes are what the file has, as far as that is known, up to one byte past the limit
abbrev pub IsOf : (known : List ℕ → Option (List ℕ)) → Read → Type 0
IsOf known r = IfSome (known r.name) (λ b. r.bytes ≡ take (r.limit + 1) b)

-- from these files to those, the reads were made one after another, and nothing else was done to the files
abbrev pub Reads : {F : Type 0} → (contents : F → List ℕ → Option (List ℕ)) → (gives : F → List ℕ → ℕ → List ℕ → F → Type 0) → (before after : F) → List Read → Type 0
Reads contents gives before after [] = after ≡ before
Reads {F} contents gives before after (r ∷ rs) =
    (next : F) × gives before r.name r.limit r.bytes next × IsOf (contents before) r × Reads contents gives next after rs

-- a text that was written to a file of this name
pub record Write : Type 0 where
  pub name : List ℕ
  pub text : List ℕ

-- the file has the text, as far as that is known, and what any other file has is as it was
abbrev pub IsPut : {F : Type 0} → (contents : F → List ℕ → Option (List ℕ)) → (before after : F) → Write → Type 0
IsPut contents before after w = IfSome (contents after w.name) (λ b. b ≡ w.text) × ((n : List ℕ) → n ≢ w.name → contents after n ≡ contents before n)

-- from these files to those, the reads were made one after another, then the text was written, where there is one, and nothing else was
-- done to the files
abbrev pub Does : {F : Type 0} → (contents : F → List ℕ → Option (List ℕ)) → (gives : F → List ℕ → ℕ → List ℕ → F → Type 0) → (before after : F) → List Read → Option Write → Type 0
Does contents gives before after rs None = Reads contents gives before after rs
Does {F} contents gives before after rs (Some w) = (next : F) × Reads contents gives before next rs × IsPut contents next after w

abbrev pub Saves : {F : Type 0} → (contents : F → List ℕ → Option (List ℕ)) → (before after : F) → Option Write → Type 0
Saves contents before after None = after ≡ before
Saves contents before after (Some w) = IsPut contents before after w

-- a text, written to the file that is named, if one is
abbrev pub saving : Option (List ℕ) → (text : List ℕ) → Option Write
saving None text = None
saving (Some name) text = Some (record { name = name; text = text })

-- the longest text of a kernel, in bytes
abbrev pub plain_limit : ℕ
plain_limit = 65536

abbrev pub limit_in : Language → ℕ
limit_in Plain = plain_limit
limit_in OpenCl = 1048576

abbrev pub limit_by : Reading → ℕ
limit_by r = limit_in r.language

abbrev pub kernel_read : (limit : ℕ) (name bytes : List ℕ) → Read
kernel_read limit name bytes = record { name = name; limit = limit; bytes = bytes }

abbrev pub conditions_read : (name bytes : List ℕ) → Read
conditions_read name bytes = record { name = name; limit = 65536; bytes = bytes }

abbrev pub certificate_read : (name bytes : List ℕ) → Read
certificate_read name bytes = record { name = name; limit = 16777216; bytes = bytes }

abbrev pub launch_read : (name bytes : List ℕ) → Read
launch_read name bytes = record { name = name; limit = 4194304; bytes = bytes }

-- what the words ask of it: a check of the texts that stand in the program, or a check, a run, a search, an explanation, a canonical text,
-- a text that shows what was made of a kernel, under conditions or alone, or a certificate in version 2 of files, each by its name; by the
-- wide check or search, or by the one that is not; of a kernel that is read in this way
pub data Request : Type 0 where
  CheckOwn : Request
  Check : (kernel conditions certificate : List ℕ) (is_wide : Bool) (reading : Reading) → Request
  Run : (kernel conditions certificate launch : List ℕ) (workers : ℕ) (is_wide : Bool) (reading : Reading) → Request
  Prove : (kernel conditions : List ℕ) (workers : ℕ) (out : Option (List ℕ)) (is_wide : Bool) (reading : Reading) → Request
  Explain : (kernel conditions : List ℕ) (is_wide : Bool) (reading : Reading) → Request
  ExplainCheck : (kernel conditions certificate : List ℕ) (is_wide : Bool) (reading : Reading) → Request
  Print : (kernel : List ℕ) → Request
  Show : (kernel conditions : List ℕ) (reading : Reading) → Request
  ShowAlone : (kernel : List ℕ) (reading : Reading) → Request
  Migrate : (old new : List ℕ) → Request

-- there is no n-th word that is no option, from 0
abbrev pub HasNoWord : List (List ℕ) → ℕ → Type 0
HasNoWord ws n = slice_get (operands false ws) n ≡ None

-- which words ask for it, options left out
abbrev pub Asks : List (List ℕ) → Request → Type 0
Asks ws CheckOwn = ws ≡ []
Asks ws (Check k c p wide r) = HasWord ws 0 (codes "check") × HasWord ws 1 k × HasWord ws 2 c × HasWord ws 3 p × (wide ≡ has_wide ws) × AsksReading ws r
Asks ws (Run k c p l workers wide r) =
    HasWord ws 0 (codes "run") × HasWord ws 1 k × HasWord ws 2 c × HasWord ws 3 p × HasWord ws 4 l × AsksWorkers ws workers × (wide ≡ has_wide ws) × AsksReading ws r
Asks ws (Prove k c workers out wide r) =
    HasWord ws 0 (codes "prove") × HasWord ws 1 k × HasWord ws 2 c × AsksWorkers ws workers × (out ≡ saved_as false ws) × (wide ≡ has_wide ws) × AsksReading ws r
Asks ws (Explain k c wide r) = HasWord ws 0 (codes "explain") × HasWord ws 1 k × HasWord ws 2 c × HasNoWord ws 3 × (wide ≡ has_wide ws) × AsksReading ws r
Asks ws (ExplainCheck k c p wide r) =
    HasWord ws 0 (codes "explain") × HasWord ws 1 k × HasWord ws 2 c × HasWord ws 3 p × (wide ≡ has_wide ws) × AsksReading ws r
Asks ws (Print k) = HasWord ws 0 (codes "print") × HasWord ws 1 k × (has_opencl ws ≡ false)
Asks ws (Show k c r) = HasWord ws 0 (codes "print") × HasWord ws 1 k × HasWord ws 2 c × (has_opencl ws ≡ true) × AsksReading ws r
Asks ws (ShowAlone k r) = HasWord ws 0 (codes "print") × HasWord ws 1 k × HasNoWord ws 2 × (has_opencl ws ≡ true) × AsksReading ws r
Asks ws (Migrate o n) = HasWord ws 0 (codes "migrate") × HasWord ws 1 o × HasWord ws 2 n

-- what was read of files; a text that the request does not name is any
pub record Texts : Type 0 where
  pub kernel : List ℕ
  pub conditions : List ℕ
  pub certificate : List ℕ
  pub launch : List ℕ

-- the reads that gave it, in this order
abbrev pub reads : Request → Texts → List Read
reads CheckOwn t = []
reads (Check k c p wide r) t = kernel_read (limit_by r) k t.kernel ∷ conditions_read c t.conditions ∷ certificate_read p t.certificate ∷ []
reads (Run k c p l workers wide r) t = kernel_read (limit_by r) k t.kernel ∷ conditions_read c t.conditions ∷ certificate_read p t.certificate ∷ launch_read l t.launch ∷ []
reads (Prove k c workers out wide r) t = kernel_read (limit_by r) k t.kernel ∷ conditions_read c t.conditions ∷ []
reads (Explain k c wide r) t = kernel_read (limit_by r) k t.kernel ∷ conditions_read c t.conditions ∷ []
reads (ExplainCheck k c p wide r) t = kernel_read (limit_by r) k t.kernel ∷ conditions_read c t.conditions ∷ certificate_read p t.certificate ∷ []
reads (Print k) t = kernel_read plain_limit k t.kernel ∷ []
reads (Show k c r) t = kernel_read (limit_by r) k t.kernel ∷ conditions_read c t.conditions ∷ []
reads (ShowAlone k r) t = kernel_read (limit_by r) k t.kernel ∷ []
reads (Migrate o n) t = certificate_read o t.certificate ∷ []

-- a search may write a file, and so may `migrate`
abbrev pub MayWrite : Request → Option Write → Type 0
MayWrite CheckOwn saved = saved ≡ None
MayWrite (Check k c p wide r) saved = saved ≡ None
MayWrite (Run k c p l workers wide r) saved = saved ≡ None
MayWrite (Prove k c workers out wide r) saved = Unit {0}
MayWrite (Explain k c wide r) saved = saved ≡ None
MayWrite (ExplainCheck k c p wide r) saved = saved ≡ None
MayWrite (Print k) saved = saved ≡ None
MayWrite (Show k c r) saved = saved ≡ None
MayWrite (ShowAlone k r) saved = saved ≡ None
MayWrite (Migrate o n) saved = Unit {0}

-- the words ask for a request, its reads were made, and a text was written behind them where there is one (`given`), and this is told of it
pub record Answered (given : List Read → Option Write → Type 0) (ws : List (List ℕ)) (told : Request → Texts → Option Write → Type 0) : Type 0 where
  pub request : Request
  pub texts : Texts
  pub saved : Option Write
  pub asked : Asks ws request
  pub done : given (reads request texts) saved
  pub may_write : MayWrite request saved
  pub is_told : told request texts saved

-- the headline holds at each launch that meets the conditions: `accepted` where some launch of the kernel does, or else a line more
abbrev pub IsSafeText : (is_wide : Bool) → (kernel : Source) (conditions written : List ℕ) → Type 0
IsSafeText is_wide kernel conditions written =
    (k : Kernel) × (c : Conditions) × AreSafeTexts is_wide kernel conditions k c × (((l : Launch) × Fits k.core l × Meets c l × (written ≡ accepted_line)) ⊎ (written ≡ accepted_line ++ no_launch_line))

-- and what was found, a certificate, was written to the file behind `--out`, where there is one; `proof` says of it that it is one, of a
-- wide search or of one that is not
abbrev pub IsFound : (proof : (is_wide : Bool) (kernel : Source) (conditions certificate written : List ℕ) → Type 0) (is_wide : Bool) (out : Option (List ℕ)) (kernel : Source) (conditions written : List ℕ) → Option Write → Type 0
IsFound proof is_wide out kernel conditions written saved =
    IsSafeText is_wide kernel conditions written × ((certificate : List ℕ) × proof is_wide kernel conditions certificate written × (saved ≡ saving out certificate))

-- the same where no file is written
abbrev pub IsSought : (proof : (is_wide : Bool) (kernel : Source) (conditions certificate written : List ℕ) → Type 0) (is_wide : Bool) (kernel : Source) (conditions written : List ℕ) → Type 0
IsSought proof is_wide kernel conditions written = IsSafeText is_wide kernel conditions written × ((certificate : List ℕ) × proof is_wide kernel conditions certificate written)

-- the certificate of version 1 that was read was written in version 2 to the file of this name
abbrev pub IsMoved : (name old written : List ℕ) → Option Write → Type 0
IsMoved name old written saved = (new : List ℕ) × IsMigrated old new written × (saved ≡ saving (Some name) new)

-- what fulfils a request: `accepted`, the buffers of a launch, a canonical text, a text that shows a kernel, or `migrated`; where an answer
-- is explained, it begins the text
abbrev pub Fulfils : (proof : (is_wide : Bool) (kernel : Source) (conditions certificate written : List ℕ) → Type 0) → Request → Texts → Option Write → (written : List ℕ) → Type 0
Fulfils proof CheckOwn t saved written = IsAcceptedText false (text_for narrow first_kernel) first_conditions written
Fulfils proof (Check k c p wide r) t saved written = IsAcceptedText wide (text_under r t.conditions t.kernel) t.conditions written
Fulfils proof (Run k c p l workers wide r) t saved written = IsResultText wide (text_under r t.conditions t.kernel) t.conditions t.launch written
Fulfils proof (Prove k c workers out wide r) t saved written = IsFound proof wide out (text_under r t.conditions t.kernel) t.conditions written saved
Fulfils proof (Explain k c wide r) t saved written = Begins (IsSought proof wide (text_under r t.conditions t.kernel) t.conditions) written
Fulfils proof (ExplainCheck k c p wide r) t saved written = Begins (IsAcceptedText wide (text_under r t.conditions t.kernel) t.conditions) written
Fulfils proof (Print k) t saved written = IsPrintedText t.kernel written
Fulfils proof (Show k c r) t saved written = IsShownText (text_under r t.conditions t.kernel) written
Fulfils proof (ShowAlone k r) t saved written = IsShownText (text_for r t.kernel) written
Fulfils proof (Migrate o n) t saved written = IsMoved n t.certificate written saved

abbrev pub Success : (given : List Read → Option Write → Type 0) (proof : (is_wide : Bool) (kernel : Source) (conditions certificate written : List ℕ) → Type 0) (ws : List (List ℕ)) (written : List ℕ) → Type 0
Success given proof ws written = Answered given ws (λ request texts saved. Fulfils proof request texts saved written)

-- the one file that may change: that which `prove` or `migrate` is asked to write
abbrev pub IsOut : (ws : List (List ℕ)) (name : List ℕ) → Type 0
IsOut ws name = (HasWord ws 0 (codes "prove") × (saved_as false ws ≡ Some name)) ⊎ (HasWord ws 0 (codes "migrate") × HasWord ws 2 name)

-- a line that refuses, and what stands behind it
abbrev pub IsRefusalText : List ℕ → Type 0
IsRefusalText text = (line : List ℕ) × (behind : List ℕ) × IsRefusalLine line × (text ≡ line ++ behind)

-- what the standard output has gained, by the status: at 0 what succeeds, at 1 a line that refuses, with findings behind it, at 2 and 4
-- nothing, at 3 nothing or, where the output failed, a front of one of these; `refusal` says of a refusal what it tells
pub data Output (success refusal : List ℕ → Type 0) (old new : Option (List ℕ)) (status : ℕ) : Type 0 where
  done : status ≡ 0 → (text : List ℕ) → success text → Appends old new text → Output success refusal old new status
  refused : status ≡ 1 → (text : List ℕ) → IsRefusalText text → refusal text → Appends old new text → Output success refusal old new status
  silent : (status ≡ 2) ⊎ ((status ≡ 3) ⊎ (status ≡ 4)) → Keeps old new → Output success refusal old new status
  torn : status ≡ 3 → (text : List ℕ) (n : ℕ) → success text ⊎ refusal text → Appends old new (take n text) → Output success refusal old new status
