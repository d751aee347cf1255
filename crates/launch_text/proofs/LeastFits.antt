-- The least launch is one of the kernel whose conditions it meets; and what the code's conditions and launches mean.
use Rattle.std.proofs.Common.{◌≡◌, ℕ, zero, suc, true, List, [], ◌∷◌, length, map, replicate, Some, refl, ap, sym, ◌∙◌, subst, arith}
use Rattle.std.specs.Prelude.{ℤ}
use Rattle.std.specs.List.{All, AllZip}
use Rattle.std.proofs.lemmas.List.{length-replicate, length-map}
use Rattle.std.proofs.lemmas.List.Elements.{All-nil, All-cons}
use Rattle.semantics.specs.Word.{Kind, Word as Typed, word as typed, in_kind}
use Rattle.semantics.specs.Launch.{Kernel, Launch, IsArgument, IsBuffer, Fits}
use Rattle.launch_text.specs.ConditionsReading as reading
use Rattle.launch_text.specs.LaunchReading as launches
use Rattle.words.specs.View.{kind, word}
use Rattle.launch.specs.View as seen
use Rattle.launch.specs.Least.{low, least_with, least_length, number, probe}
use Rattle.launch.specs.declared.conditions.ArgumentRange.{ArgumentRange}
use Rattle.launch.specs.declared.conditions.Length.{Length}
use Rattle.launch.specs.declared.conditions.Conditions.{Conditions}
use Rattle.launch.specs.declared.launches.Launch.{Launch as CodeLaunch}
use Rattle.launch.proofs.Least.{IsFilled, all-filled, probe-back}
use Rattle.launch_text.specs.View as view
use Rattle.launch_text.specs.Fits.{IsRange, IsLength, IsOf}

map-map : {A B C : Type 0} (f : B → C) (g : A → B) (h : A → C) (one : (a : A) → f (g a) ≡ h a) (xs : List A) → map f (map g xs) ≡ map h xs
map-map f g h one [] = refl
map-map f g h one (x ∷ xs) = ap (λ y. y ∷ map f (map g xs)) (one x) ∙ ap (λ ys. h x ∷ ys) (map-map f g h one xs)

-- without their lines the conditions are what they are for a launch
pub conditions_meant : (c : Conditions) → reading.meant (view.lined c) ≡ seen.conditions c
conditions_meant c =
    let a = map-map reading.argument_meant view.argument seen.argument_range (λ _. refl) c.arguments.items in
    let l = map-map reading.length_meant view.length seen.length_sum (λ _. refl) c.lengths.items in
    let r = map-map reading.requirement_meant view.requirement seen.requirement (λ _. refl) c.requirements.items in
    let x = map-map reading.content_meant view.content seen.content (λ _. refl) c.contents.items in
    ap (λ xs. record (reading.meant (view.lined c)) { arguments = xs }) a
    ∙ ap (λ xs. record (reading.meant (view.lined c)) { arguments = map seen.argument_range c.arguments.items; lengths = xs }) l
    ∙ ap (λ xs. record (seen.conditions c) { requires = xs; contents = map reading.content_meant (map view.content c.contents.items) }) r
    ∙ ap (λ xs. record (seen.conditions c) { contents = xs }) x

pub launch_meant : (l : CodeLaunch) → launches.meant (view.launch l) ≡ seen.launch l
launch_meant l =
    ap (λ bs. record (seen.launch l) { buffers = bs })
    (map-map (map launches.number) view.words seen.buffer (λ b. map-map launches.number word _ (λ _. refl) b.items) l.buffers.words.items)

all_in : (k : Kind) (z : ℤ) (n : ℕ) → in_kind k z ≡ true → All (λ y. in_kind k y ≡ true) (map number (replicate n (typed k z)))
all_in k z zero h = All-nil (λ y. in_kind k y ≡ true)
all_in k z (suc n) h = All-cons (λ y. in_kind k y ≡ true) z (map number (replicate n (typed k z))) h (all_in k z n h)

lows_fit : (ks : List Kind) (rs : List ArgumentRange) → AllZip IsRange ks (map view.argument rs) → AllZip IsArgument ks (map word (map low rs))
lows_fit [] [] h = tt
lows_fit [] (r ∷ rs) h = absurd h
lows_fit (k ∷ ks) [] h = absurd h
lows_fit (k ∷ ks) (r ∷ rs) h = (h.0.0, lows_fit ks rs h.1)

-- a buffer that was filled has numbers of its kind
filled_fits : (l : Launch) (n : Length) (ws : List Typed) → IsFilled l n ws → IsBuffer (kind n.kind) (map number ws)
filled_fits l n ws f =
    let k : Kind = kind n.kind in
    let all : List Typed = replicate (least_length l n) (typed k f.value) in
    let long : length (map number all) ≡ least_length l n = length-map all number ∙ length-replicate (least_length l n) (typed k f.value) in
    subst (λ (x : List Typed). IsBuffer k (map number x)) (sym f.are) (omega (arith, long, f.few), all_in k f.value (least_length l n) f.is_in_kind)

all_fit : (l : Launch) (ks : List Kind) (ns : List Length) (ws : List (List Typed)) → AllZip (IsFilled l) ns ws → AllZip IsLength ks (map view.length ns) → AllZip IsBuffer ks (map (map number) ws)
all_fit l [] [] [] f h = tt
all_fit l [] [] (w ∷ ws) f h = absurd f
all_fit l [] (n ∷ ns) ws f h = absurd h
all_fit l (k ∷ ks) [] ws f h = absurd h
all_fit l (k ∷ ks) (n ∷ ns) [] f h = absurd f
all_fit l (k ∷ ks) (n ∷ ns) (w ∷ ws) f h = (subst (λ (x : Kind). IsBuffer x (map number w)) h.0 (filled_fits l n w f.0), all_fit l ks ns ws f.1 h.1)

pub least_fits : (kernel : Kernel) (c : Conditions) (l : Launch) → IsOf kernel (view.lined c) → probe c ≡ Some l → Fits kernel l
least_fits kernel c l f h =
    let p = probe-back c l h in
    let all = all-filled (least_with c []) c.contents.items 0 1048576 c.lengths.items p.words (omega arith) p.are_filled in
    subst (λ (y : Launch). Fits kernel y) (sym p.is_least) (record {
      count_x = f.counts_x.0;
      count_y = f.counts_y.0;
      count_z = f.counts_z.0;
      arguments = lows_fit kernel.arguments c.arguments.items f.arguments;
      buffers = all_fit (least_with c []) kernel.buffers c.lengths.items p.words all f.lengths;
      fill = omega arith;
    })
