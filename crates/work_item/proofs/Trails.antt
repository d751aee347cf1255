-- Trails, entry by entry.
use Rattle.std.proofs.Common.{◌≡◌, List, [], ◌∷◌, ◌++◌, Bool, true, false, ◌&&◌, nat_eq, length, refl, ap, sym, ◌∙◌, arith}
use Rattle.std.specs.Prelude.{Some, bytes_eq}
use Rattle.semantics.specs.Core.{number}
use Rattle.semantics.specs.Item.{Entry, trail, local_flag, global_flag}
use Rattle.work_item.specs.declared.left.Frame.{Frame}
use Rattle.work_item.specs.Left.{stacked, fronted}
use Rattle.work_item.specs.Rests.{is_same_entry}
use Rattle.work_item.proofs.Stacks.{stacked_more}

assoc : (a b c d r : Bool) → (a && (b && (c && (d && r)))) ≡ ((a && (b && (c && d))) && r)
assoc true true true d r = refl
assoc true true false d r = refl
assoc true false c d r = refl
assoc false b c d r = refl

pub next_entries : (e f : Entry) (r q : List Entry) → bytes_eq (trail (e ∷ r)) (trail (f ∷ q)) ≡ (is_same_entry e f && bytes_eq (trail r) (trail q))
next_entries e f r q =
    assoc (nat_eq (number e.statement) (number f.statement)) (nat_eq e.turns f.turns) (nat_eq (local_flag e.statement) (local_flag f.statement)) (nat_eq (global_flag e.statement) (global_flag f.statement)) (bytes_eq (trail r) (trail q))

nothing : (fs : List Frame) → length fs ≡ 0 → fs ≡ []
nothing [] h = refl
nothing (f ∷ fs) h = absurd (omega (arith, h))

pub no_block : (all : List Frame) → length all ≡ 0 → [] ≡ stacked all []
no_block all h = ap (λ xs. stacked xs []) (sym (nothing all h))

pub last_block : (all before : List Frame) (f : Frame) → all ≡ before ++ f ∷ [] → fronted (Some f) before ≡ stacked all []
last_block all before f h = sym (stacked_more before f []) ∙ ap (λ xs. stacked xs []) (sym h)
