-- What nothing refuses is a launch of the kernel that meets the conditions.
use Rattle.std.proofs.Common.{◌≡◌, ℕ, ◌*◌, ◌<◌, ◌≤◌, ◌^◌, List, [], length, map, Bool, true, Result, Ok, refl, ap, sym, ◌∙◌, subst, arith}
use Rattle.std.specs.Prelude.{ℤ}
use Rattle.std.specs.List.{All, AllZip}
use Rattle.semantics.specs.Word.{Word, in_kind}
use Rattle.semantics.specs.Launch.{Three, Kernel, Launch, Machine, Fits, IsArgument, IsBuffer}
use Rattle.semantics.specs.Conditions.{Conditions, Meets, IsHeld}
use Rattle.launch.specs.Unmet.{with_buffers}
use Rattle.launch.specs.View.{counts}
use Rattle.launch.specs.declared.launches.Counts.{Counts}
use Rattle.host_launches.specs.declared.given.Argument.{Argument}
use Rattle.host_launches.specs.declared.given.Range.{Range}
use Rattle.host_launches.specs.declared.shapes.Shape.{Shape}
use Rattle.host_launches.specs.Sizes.{first, second, third, groups_of}
use Rattle.host_launches.specs.Fitting.{arguments_fit}
use Rattle.host_launches.specs.Kinds.{value_kinds, buffer_kinds, all_kinds, are_parameters}
use Rattle.host_launches.specs.Numbers.{words_of, lengths_of}
use Rattle.host_launches.specs.Telling.{groups_told}
use Rattle.host_launches.specs.Launches.{IsLaunchOf, Suits, AllMeet}
use Rattle.host_launches.specs.Refusing.{on, when}
use Rattle.host_launches.proofs.Taking.{on-ok, when-ok}
use Rattle.host_launches.proofs.Groups.{AllCounted, all_counted, whole_of, only}
use Rattle.host_launches.proofs.Arguments.{AllFit, all_fit, few}
use Rattle.host_launches.proofs.Words.{AreOf, are_of, words_are, lengths_alike, buffers_are}

pub record Told (k : Kernel) (ss : List Shape) (r : Range) (gs : List Argument) (g : Counts) : Type 0 where
  pub counted : AllCounted k.sizes r g
  pub fit : AllFit ss gs
  pub of : AreOf k ss

pub told : (k : Kernel) (ss : List Shape) (r : Range) (gs : List Argument) (g : Counts) → groups_told k ss r gs ≡ Ok g → Told k ss r gs g
told k ss r gs g h =
    let a = on-ok (groups_of k.sizes r) (λ g. on (arguments_fit ss gs) (λ u. when (are_parameters k ss) 41 (length ss) (Ok g))) g h in
    let b = on-ok (arguments_fit ss gs) (λ u. when (are_parameters k ss) 41 (length ss) (Ok a.0)) g a.2 in
    let c = when-ok (are_parameters k ss) 41 (length ss) (Ok a.0) g b.2 in
    let same : a.0 ≡ g = cc in
    record { counted = all_counted k.sizes r g (a.1 ∙ ap (λ n. Ok n) same); fit = all_fit ss gs b.1; of = are_of k ss c.0 }

pub suits : (k : Kernel) (ss : List Shape) (r : Range) (gs : List Argument) (g : Counts) → Told k ss r gs g → Suits k ss r gs
suits k ss r gs g t = record {
  dimensions = t.counted.dimensions;
  x = whole_of k.sizes.x (first r) g.x t.counted.x;
  y = whole_of k.sizes.y (second r) g.y t.counted.y;
  z = whole_of k.sizes.z (third r) g.z t.counted.z;
  arguments = t.fit.arguments;
  apart = t.fit.apart;
}

same_groups : (a b : Three ℕ) → a.x ≡ b.x → a.y ≡ b.y → a.z ≡ b.z → a ≡ b
same_groups a b p q r = ap (λ n. three n a.y a.z) p ∙ ap (λ n. three b.x n a.z) q ∙ ap (λ n. three b.x b.y n) r
  where
    three : ℕ → ℕ → ℕ → Three ℕ
    three x y z = record { x = x; y = y; z = z }

groups_are : (k : Kernel) (ss : List Shape) (r : Range) (gs : List Argument) (g : Counts) (l : Launch) → Told k ss r gs g → IsLaunchOf k ss r gs l → l.groups ≡ counts g
groups_are k ss r gs g l t h =
    same_groups l.groups (counts g) (only k.sizes.x (first r) g.x l.groups.x t.counted.x h.x) (only k.sizes.y (second r) g.y l.groups.y t.counted.y h.y)
    (only k.sizes.z (third r) g.z l.groups.z t.counted.z h.z)

pub fits : (k : Kernel) (ss : List Shape) (r : Range) (gs : List Argument) (g : Counts) (l : Launch) → Told k ss r gs g → IsLaunchOf k ss r gs l → Fits k l
fits k ss r gs g l t h =
    let groups : l.groups ≡ counts g = groups_are k ss r gs g l t h in
    let words : AllZip IsArgument k.arguments (words_of ss gs) = subst (λ ks. AllZip IsArgument ks (words_of ss gs)) (sym t.of.arguments) (words_are ss gs t.fit.many) in
    let short : All (λ n. n ≤ 4294967295) (map (λ b. length b) l.buffers) = subst (λ ns. All (λ n. n ≤ 4294967295) ns) (sym h.lengths) (few ss gs t.fit.arguments) in
    record {
      count_x = subst (λ n. (1 ≤ n) × (n ≤ 65536)) (sym (ap (λ (c : Three ℕ). c.x) groups)) t.counted.x.count;
      count_y = subst (λ n. (1 ≤ n) × (n ≤ 65536)) (sym (ap (λ (c : Three ℕ). c.y) groups)) t.counted.y.count;
      count_z = subst (λ n. (1 ≤ n) × (n ≤ 65536)) (sym (ap (λ (c : Three ℕ). c.z) groups)) t.counted.z.count;
      arguments = subst (λ ws. AllZip IsArgument k.arguments ws) (sym h.arguments) words;
      buffers = buffers_are k.buffers l.buffers h.kinds short;
      fill = h.fill;
    }

-- a launch with these groups and arguments is the other one with its buffers
same_launch : (a b : Launch) → a.groups ≡ b.groups → a.arguments ≡ b.arguments → a.buffers ≡ b.buffers → a.fill ≡ b.fill → a.machine ≡ b.machine → a ≡ b
same_launch a b p q r s t =
    ap (λ g. all g a.arguments a.buffers a.fill a.machine) p ∙ ap (λ ws. all b.groups ws a.buffers a.fill a.machine) q
    ∙ ap (λ bs. all b.groups b.arguments bs a.fill a.machine) r ∙ ap (λ f. all b.groups b.arguments b.buffers f a.machine) s
    ∙ ap (λ m. all b.groups b.arguments b.buffers b.fill m) t
  where
    all : Three ℕ → List Word → List (List ℤ) → ℕ → Machine → Launch
    all g ws bs f m = record { groups = g; arguments = ws; buffers = bs; fill = f; machine = m }

pub meets_all : (k : Kernel) (ss : List Shape) (c : Conditions) (r : Range) (gs : List Argument) (g : Counts) (o : Launch) (ns : List ℕ) → Told k ss r gs g → o.groups ≡ counts g → o.arguments ≡ words_of ss gs → ns ≡ lengths_of ss gs
    → ((bs : List (List ℤ)) (f : ℕ) (m : Machine) → map (λ (b : List ℤ). length b) bs ≡ ns → All (IsHeld (with_buffers o bs f m)) c.contents → Meets c (with_buffers o bs f m)) → AllMeet k ss c r gs
meets_all k ss c r gs g o ns t groups words lengths met l h held =
    let same : with_buffers o l.buffers l.fill l.machine ≡ l =
    same_launch (with_buffers o l.buffers l.fill l.machine) l (groups ∙ sym (groups_are k ss r gs g l t h)) (words ∙ sym h.arguments) refl refl refl in
    let held' : All (IsHeld (with_buffers o l.buffers l.fill l.machine)) c.contents = subst (λ z. All (IsHeld z) c.contents) (sym same) held in
    (fits k ss r gs g l t h, subst (λ z. Meets c z) same (met l.buffers l.fill l.machine (h.lengths ∙ sym lengths) held'))
