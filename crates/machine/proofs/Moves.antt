-- What the steps of work-items answer.
use Rattle.std.proofs.Common.{◌≡◌, ◌<◌, ◌≤◌, nat_eq, ℕ, List, [], ◌∷◌, Bool, true, false, refl, sym, ap, ◌∙◌, arith, nat_lt, lt-ltb}
use Rattle.std.specs.Prelude.{Some, None}
use Rattle.std.proofs.lemmas.Bool.{and_parts}
use Rattle.std.proofs.lemmas.Bool.Decides.{nat_tests}
use Rattle.semantics.specs.Word.{Fault}
use Rattle.semantics.specs.Core.{Site}
use Rattle.semantics.specs.Launch.{Kernel, Launch, Fits}
use Rattle.semantics.specs.Setup.{Setup, item_count}
use Rattle.semantics.specs.Item.{Entry, Item, Running, Waiting, Stopped, status_of}
use Rattle.semantics.specs.Ask.{Ask, ask, passes}
use Rattle.semantics.specs.Solo.{moved, opening}
use Rattle.semantics.specs.World as meaning
use Rattle.semantics.specs.World.{World, Step, happens, guarded, put_item}
use Rattle.semantics.proofs.Events.{step-running}
use Rattle.work_item.specs.Proper.{is_proper, are_sizes, are_proper, is_proper_left}
use Rattle.work_item.specs.View.{AreFew}
use Rattle.work_item.specs.Asks.{asked}
use Rattle.work_item.proofs.Keeping.{opens_proper}
use Rattle.work_item.specs.declared.ask.Ask as code
use Rattle.work_item.specs.declared.ask.Ask.TheVariants as variants
use Rattle.machine.specs.Worlds.{stepped, answered, is_move, told, Answers}

pub sizes_of : (k : Kernel) → is_proper k ≡ true → are_sizes k.sizes ≡ true
sizes_of k h = (and_parts (are_sizes k.sizes) (are_proper k.body) h).0

pub body_of : (k : Kernel) → is_proper k ≡ true → are_proper k.body ≡ true
body_of k h = (and_parts (are_sizes k.sizes) (are_proper k.body) h).1

pub few_of : (k : Kernel) (l : Launch) → Fits k l → AreFew l.groups
few_of k l h = (h.count_x.1, h.count_y.1, h.count_z.1)

pub opening_proper : (s : Setup) (i : ℕ) → are_proper s.kernel.body ≡ true → is_proper_left (opening s i).left ≡ true
unfolding opening
opening_proper s i h = opens_proper s.kernel.body h

pub not_there : (s : Setup) (w : World) (i : ℕ) → item_count s ≤ i → happens s w (Step i) ≡ None
unfolding happens
not_there s w i h = by (nat_lt i (item_count s)) refl
  where
    by : (b : Bool) → nat_lt i (item_count s) ≡ b → guarded b (meaning.stepped w i (ask s i (w.items i))) ≡ None
    by true e = absurd (grind (arith, nat_tests))
    by false e = refl

there : (s : Setup) (w : World) (i : ℕ) (a : Ask) → i < item_count s → a ≡ ask s i (w.items i) → happens s w (Step i) ≡ meaning.stepped w i a
unfolding happens
there s w i a l e = ap (λ b. guarded b (meaning.stepped w i (ask s i (w.items i)))) (lt-ltb i (item_count s) l) ∙ ap (meaning.stepped w i) (sym e)

waits : (w : World) (i : ℕ) (it : Item) (left : List Entry) → meaning.stepped w i (passes it left) ≡ None
waits w i it [] = refl
waits w i it (e ∷ rest) = refl

rests : (w : World) (i : ℕ) (c : code.Ask) (it : Item) → is_move c ≡ false → meaning.stepped w i (asked c it) ≡ None
rests w i (variants.Loads at k s) it h = cc
rests w i (variants.Stores at s z) it h = cc
rests w i (variants.Faults f s) it h = cc
rests w i (variants.Sets slot z) it h = cc
rests w i (variants.Takes block) it h = cc
rests w i (variants.Repeats body update) it h = cc
rests w i variants.PassesBy it h = cc
rests w i variants.Arrives it h = cc
rests w i variants.Ends it h = cc
rests w i (variants.Leaves n) it h = cc
rests w i (variants.Resumes n) it h = cc
rests w i variants.Waits it h = waits w i it it.left
rests w i variants.Rests it h = refl

pub no_move : (s : Setup) (w : World) (i : ℕ) (c : code.Ask) → i < item_count s → asked c (w.items i) ≡ ask s i (w.items i) → is_move c ≡ false → happens s w (Step i) ≡ None
no_move s w i c l e h = there s w i (asked c (w.items i)) l e ∙ rests w i c (w.items i) h

goes : (w : World) (i : ℕ) (c : code.Ask) → is_move c ≡ true → meaning.stepped w i (asked c (w.items i)) ≡ Some (stepped w i (asked c (w.items i)))
goes w i (variants.Loads at k s) h = refl
goes w i (variants.Stores at s z) h = refl
goes w i (variants.Faults f s) h = refl
goes w i (variants.Sets slot z) h = refl
goes w i (variants.Takes block) h = refl
goes w i (variants.Repeats body update) h = refl
goes w i variants.PassesBy h = refl
goes w i variants.Arrives h = refl
goes w i variants.Ends h = refl
goes w i (variants.Leaves n) h = refl
goes w i (variants.Resumes n) h = refl
goes w i variants.Waits h = cc
goes w i variants.Rests h = cc

-- an item that is done with a statement is not stopped
never : (left : List Entry) (f : Fault) (at : Site) → status_of left ≡ Stopped f at → ⊥
never [] f at h = cc
never (e ∷ rest) f at h = cc

put_here : (i : ℕ) (it : Item) (items : ℕ → Item) → put_item i it items i ≡ it
unfolding put_item
put_here i it items = rw (same i) refl
  where
    same : (n : ℕ) → nat_eq n n ≡ true
    same n = grind (arith, nat_tests)

tells : (s : Setup) (w v : World) (i : ℕ) (c : code.Ask) → happens s w (Step i) ≡ Some v → (w.items i).status ≡ Running → is_move c ≡ true
    → (v.items i).status ≡ (moved (w.items i) (asked c (w.items i)) (answered (asked c (w.items i)) w.memory)).status → Answers s (Step i) w v (told c)
tells s w v i (variants.Loads at k p) h r m e = (h, λ f q st. let x : Running ≡ Stopped f q = sym (e ∙ r) ∙ st in cc)
tells s w v i (variants.Stores at p z) h r m e = (h, λ f q st. never _ f q (sym e ∙ st))
tells s w v i (variants.Faults f p) h r m e = (h, e)
tells s w v i (variants.Sets slot z) h r m e = (h, λ f q st. never _ f q (sym e ∙ st))
tells s w v i (variants.Takes block) h r m e = (h, λ f q st. never _ f q (sym e ∙ st))
tells s w v i (variants.Repeats body update) h r m e = (h, λ f q st. never _ f q (sym e ∙ st))
tells s w v i variants.PassesBy h r m e = (h, λ f q st. never _ f q (sym e ∙ st))
tells s w v i variants.Arrives h r m e = (h, λ f q st. let x : Waiting ≡ Stopped f q = sym e ∙ st in cc)
tells s w v i variants.Ends h r m e = (h, λ f q st. never [] f q (sym e ∙ st))
tells s w v i (variants.Leaves n) h r m e = (h, λ f q st. never _ f q (sym e ∙ st))
tells s w v i (variants.Resumes n) h r m e = (h, λ f q st. never _ f q (sym e ∙ st))
tells s w v i variants.Waits h r m e = cc
tells s w v i variants.Rests h r m e = cc

pub move_answers : (s : Setup) (w v : World) (i : ℕ) (c : code.Ask) → i < item_count s → asked c (w.items i) ≡ ask s i (w.items i) → is_move c ≡ true → v ≡ stepped w i (asked c (w.items i)) → Answers s (Step i) w v (told c)
move_answers s w v i c l e m h =
    let k = there s w i (asked c (w.items i)) l e ∙ goes w i c m ∙ ap Some (sym h) in
    tells s w v i c k (step-running s w v i k) m (ap (λ (x : World). (x.items i).status) h ∙ ap (λ (it : Item). it.status) (put_here i _ w.items))
