-- What is read keeps what kernels of texts keep, since it was tested.
use Rattle.std.proofs.Common.{◌≡◌, ◌≤◌, ◌<◌, ◌*◌, ℕ, zero, suc, Bool, List, [], ◌∷◌, map, true, false, Ok, Err, Option, Some, None, refl, ap, ◌∙◌, subst, arith}
use Rattle.std.specs.Prelude.{Result, nat_le, nat_lt}
use Rattle.std.proofs.lemmas.Bool.{and_parts}
use Rattle.std.proofs.lemmas.Bool.Decides.{nat_tests}
use Rattle.semantics.specs.Core.{Site}
use Rattle.semantics.specs.Word.{same_kind, Kind, Int, Uint, Size}
use Rattle.semantics.specs.Launch as launch
use Rattle.semantics.specs.Launch.{Three, product}
use Rattle.lanes.specs.Order.{AllNumbered}
use Rattle.types.specs.Scope.{Devices, size_kind}
use Rattle.kernel_names.specs.NameMap.{NameMap}
use Rattle.kernel_names.specs.Parameters.{HasParameters, value_kind, buffer_kind, kinds}
use Rattle.reading.specs.Limits.{HasLocalSizes}
use Rattle.texts.specs.KernelLimits.{IsLocalSize}
use Rattle.work_item.specs.Proper.{are_sizes, are_proper, is_proper}
use Rattle.sound_cores.specs.Declarations.{declared_by, AllWithin}
use Rattle.sound_cores.specs.Sound.{is_sound}
use Rattle.sound_cores.specs.Told.{AreTold}
use Rattle.sound_cores.specs.Unset.{first_unset}
use Rattle.sound_cores.proofs.Kept.{sound-proper, sound-told, sound-rises, sound-within}
use Rattle.opencl_tokens.specs.Joining.{joined_of}
use Rattle.opencl_tokens.specs.Scanning.{tokens_of}
use Rattle.opencl_tokens.specs.Lexemes.{Lexeme}
use Rattle.opencl_tokens.specs.Reading.{lexemes_of}
use Rattle.opencl_macros.specs.Reading.{preprocessed}
use Rattle.opencl_files.specs.FileTree.{KernelText}
use Rattle.opencl_files.specs.Files.{chosen_kernel}
use Rattle.launch_text.specs.HeadReading.{Head}
use Rattle.opencl_core.specs.Heads.{LocalCount}
use Rattle.opencl_core.specs.Kernels.{Written, kernel_of}
use Rattle.opencl_values.specs.Scope.{Binding}
use Rattle.opencl_reading.specs.Defines.{joined_behind, tokens_behind}
use Rattle.opencl_reading.specs.FileNames.{outside_of}
use Rattle.opencl_reading.specs.FileTypes.{meant_in}
use Rattle.opencl_reading.specs.HeadRules.{are_locals, as_count}
use Rattle.opencl_reading.specs.Kinds.{are_same}
use Rattle.opencl_reading.specs.Overloads.{first_overloading}
use Rattle.opencl_reading.specs.Jumps.{rewritten_text}
use Rattle.opencl_reading.specs.Kernels.{Fault, OfText, OfFile, OfCore, Unsound, on, when, has_few, has_parameters, is_kept, tested, all_set, with_few, checked, of_size, agreed, counted, sized, with_sizes, same, with_head, of_text, of_file, of_lexemes, placed, of_expanded, with_given, constants, with_texts, with_defines, with_lines, of_tokens, of_lines, read}

-- a part that answers was followed by what answers
on-back : {A B F : Type 0} (into : F → Fault) (r : Result A (F × Site)) (next : A → Result B (Fault × Site)) (b : B) → on into r next ≡ Ok b → (a : A) × (next a ≡ Ok b)
on-back into (Ok a) next b h = (a, h)
on-back into (Err (fault, site)) next b h = absurd cc

when-back : (b : Bool) (fault : Fault) (site : Site) (w v : Written) → when b fault site w ≡ Ok v → (b ≡ true) × (w ≡ v)
when-back true fault site w v h = (refl, cc)
when-back false fault site w v h = absurd cc

tested-kept : (at : Site) (w v : Written) → tested at w ≡ Ok v → is_kept v ≡ true
tested-kept at w v h = let p = when-back (is_kept w) Unsound at w v h in subst (λ x. is_kept x ≡ true) p.1 p.0

set-kept : (at : Site) (w v : Written) (o : Option ℕ) → all_set at w o ≡ Ok v → is_kept v ≡ true
set-kept at w v None h = tested-kept at w v h
set-kept at w v (Some n) h = absurd cc

few-kept : (at : Site) (w v : Written) (b : Bool) → with_few at w b ≡ Ok v → is_kept v ≡ true
few-kept at w v true h = set-kept at w v (first_unset w.core) h
few-kept at w v false h = absurd cc

size-kept : (ids : Kind) (outside : List Binding) (t : KernelText) (counts : List LocalCount) (sizes : Three ℕ) (v : Written) → of_size ids outside t counts sizes ≡ Ok v → is_kept v ≡ true
size-kept ids outside t counts sizes v h =
    let w = on-back OfCore (kernel_of ids (meant_in ids t outside) t.functions sizes t.header counts t.body) (checked t.header.site) v h in
    few-kept t.header.site w.0 v (has_few w.0.names) w.1

counted-kept : (ids : Kind) (outside : List Binding) (t : KernelText) (counts : List LocalCount) (sizes : Three ℕ) (b : Bool) (v : Written) → counted ids outside t counts sizes b ≡ Ok v → is_kept v ≡ true
counted-kept ids outside t counts sizes true v h = size-kept ids outside t counts sizes v h
counted-kept ids outside t counts sizes false v h = absurd cc

sized-kept : (ids : Kind) (outside : List Binding) (t : KernelText) (head : Head) (sizes : Three ℕ) (b : Bool) (v : Written) → sized ids outside t head sizes b ≡ Ok v → is_kept v ≡ true
sized-kept ids outside t head sizes true v h = counted-kept ids outside t (map as_count head.locals) sizes (are_locals t.header.parameters head.locals) v h
sized-kept ids outside t head sizes false v h = absurd cc

head-kept : (ids : Kind) (outside : List Binding) (head : Head) (t : KernelText) (v : Written) → with_head ids outside head t ≡ Ok v → is_kept v ≡ true
head-kept ids outside head t v h =
    let s = on-back same (agreed t.header.site t.header.sizes head.sizes) (with_sizes ids outside t head) v h in
    sized-kept ids outside t head s.0 (are_sizes s.0) v s.1

file-kept : (ids : Kind) (head : Head) (ts : List Lexeme) (o : Option Site) (v : Written) → of_file ids head ts o ≡ Ok v → is_kept v ≡ true
file-kept ids head ts None v h =
    let t = on-back OfFile (chosen_kernel head.kernel ts) (of_text ids head ts) v h in
    head-kept ids (outside_of ts) head (rewritten_text t.0) v t.1
file-kept ids head ts (Some at) v h = absurd cc

read-kept : (d : Devices) (head : Head) (bytes : List ℕ) (v : Written) → read d head bytes ≡ Ok v → is_kept v ≡ true
unfolding read
read-kept d head bytes v h =
    let ids = size_kind d in
    let lines = on-back OfText (joined_of bytes) (of_lines ids head) v h in
    let tokens = on-back OfText (tokens_of lines.0) (of_tokens ids head) v lines.1 in
    let given = on-back OfText (joined_of constants) (with_lines ids head tokens.0) v tokens.1 in
    let cs = on-back OfText (tokens_of given.0) (with_defines ids head tokens.0) v given.1 in
    let ds = on-back OfText (joined_behind [] head.defines) (with_texts ids head tokens.0 cs.0) v cs.1 in
    let gs = on-back OfText (tokens_behind cs.0 ds.0) (with_given ids head tokens.0) v ds.1 in
    let out = on-back OfText (placed (preprocessed gs.0 tokens.0)) (of_expanded ids head) v gs.1 in
    let ts = on-back OfText (lexemes_of out.0) (of_lexemes ids head) v out.1 in
    file-kept ids head ts.0 (first_overloading ts.0) v ts.1

read-is_sound : (d : Devices) (head : Head) (bytes : List ℕ) (v : Written) → read d head bytes ≡ Ok v → is_sound v.core ≡ true
read-is_sound d head bytes v h = (and_parts (is_sound v.core) (has_parameters v.core v.names) (read-kept d head bytes v h)).0

pub written-proper : (d : Devices) (head : Head) (bytes : List ℕ) (w : Written) → read d head bytes ≡ Ok w → is_proper w.core ≡ true
written-proper d head bytes w h = sound-proper w.core (read-is_sound d head bytes w h)

pub written-told : (d : Devices) (head : Head) (bytes : List ℕ) (w : Written) → read d head bytes ≡ Ok w → AreTold w.core.body
written-told d head bytes w h = sound-told w.core (read-is_sound d head bytes w h)

pub written-rises : (d : Devices) (head : Head) (bytes : List ℕ) (w : Written) → read d head bytes ≡ Ok w → (low : ℕ) × (high : ℕ) × AllNumbered [] low high w.core.body
written-rises d head bytes w h = sound-rises w.core (read-is_sound d head bytes w h)

pub written-within : (d : Devices) (head : Head) (bytes : List ℕ) (w : Written) → read d head bytes ≡ Ok w → AllWithin (declared_by w.core) w.core.body
written-within d head bytes w h = sound-within w.core (read-is_sound d head bytes w h)

same-back : (a b : Kind) → same_kind a b ≡ true → a ≡ b
same-back Int Int h = refl
same-back Uint Uint h = refl
same-back Size Size h = refl
same-back Int Uint h = absurd cc
same-back Int Size h = absurd cc
same-back Uint Int h = absurd cc
same-back Uint Size h = absurd cc
same-back Size Int h = absurd cc
same-back Size Uint h = absurd cc

pub all-same : (xs bs : List Kind) → are_same xs bs ≡ true → xs ≡ bs
all-same [] [] h = refl
all-same [] (b ∷ bs) h = absurd cc
all-same (a ∷ xs) [] h = absurd cc
all-same (a ∷ xs) (b ∷ bs) h =
    let p = and_parts (same_kind a b) (are_same xs bs) h in
    ap (λ x. x ∷ xs) (same-back a b p.0) ∙ ap (λ xs. b ∷ xs) (all-same xs bs p.1)

pub told-kinds : (k : launch.Kernel) (m : NameMap) → has_parameters k m ≡ true → HasParameters m k
told-kinds k m h =
    let p = and_parts (are_same k.arguments (kinds value_kind m.parameters)) (are_same k.buffers (kinds buffer_kind m.parameters)) h in
    (all-same k.arguments (kinds value_kind m.parameters) p.0, all-same k.buffers (kinds buffer_kind m.parameters) p.1)

pub written-parameters : (d : Devices) (head : Head) (bytes : List ℕ) (w : Written) → read d head bytes ≡ Ok w → HasParameters w.names w.core
written-parameters d head bytes w h = told-kinds w.core w.names (and_parts (is_sound w.core) (has_parameters w.core w.names) (read-kept d head bytes w h)).1

-- no dimension is empty
some : (x y z : ℕ) → 0 < x * y * z → (1 ≤ x) × (1 ≤ y) × (1 ≤ z)
some zero y z h = absurd (omega arith)
some (suc x) zero z h = absurd (let e : suc x * zero ≡ 0 = omega arith in let f : 0 < 0 * z = subst (λ n. 0 < n * z) e h in omega (arith, f))
some (suc x) (suc y) zero h = absurd (omega arith)
some (suc x) (suc y) (suc z) h = (omega arith, omega arith, omega arith)

at-most : (a b : ℕ) → nat_le a b ≡ true → a ≤ b
at-most a b h = grind (arith, nat_tests)

above : (a : ℕ) → nat_lt 0 a ≡ true → 0 < a
above a h = grind (arith, nat_tests)

local-sizes : (t : Three ℕ) → are_sizes t ≡ true → IsLocalSize t.x × IsLocalSize t.y × IsLocalSize t.z
local-sizes t h =
    let a = and_parts (nat_le t.x 1024) _ h in
    let b = and_parts (nat_le t.y 1024) _ a.1 in
    let c = and_parts (nat_le t.z 1024) _ b.1 in
    let d = and_parts (nat_lt 0 (product t)) (nat_le (product t) 1024) c.1 in
    let s = some t.x t.y t.z (above (product t) d.0) in
    ((s.0, at-most t.x 1024 a.0), (s.1, at-most t.y 1024 b.0), (s.2, at-most t.z 1024 c.0))

pub written-sizes : (d : Devices) (head : Head) (bytes : List ℕ) (w : Written) → read d head bytes ≡ Ok w → HasLocalSizes w.core
written-sizes d head bytes w h = local-sizes w.core.sizes (and_parts (are_sizes w.core.sizes) (are_proper w.core.body) (written-proper d head bytes w h)).0
