-- What is done with each statement of a list, from its last one on.
use Rattle.std.proofs.Common.{◌≡◌, List, [], ◌∷◌, ◌++◌, map, Bool, refl, ap}
use Rattle.semantics.specs.Core.{Site}
use Rattle.opencl_tree.specs.Tree.{Statements, none, one}
use Rattle.opencl_tree.specs.View.{statement, statements}
use Rattle.opencl_tree.specs.declared.tree.Stmt.{Stmt}
use Rattle.opencl_jumps.specs.Exits.{Exit}
use Rattle.opencl_jumps.specs.Leaving.{looped, all_looped, leave, leave_at}
use Rattle.opencl_jumps.specs.Switches.{rewritten, all_rewritten, Cut, not_cut, cut, cut_at, linked, chain}
use Rattle.opencl_jumps.specs.Functions.{followed}
use Rattle.opencl_jumps.specs.View.{group}
use Rattle.opencl_jumps.specs.declared.switches.Group.{Group}
use Rattle.opencl_jumps.proofs.Weights.{joined}

pub looped-last : (xs : List Stmt) (x : Stmt) (others : Statements) → joined (all_looped (statements (xs ++ x ∷ []))) others ≡ joined (all_looped (statements xs)) (one (looped (statement x)) others)
looped-last [] x others = refl
looped-last (y ∷ ys) x others = ap (one (looped (statement y))) (looped-last ys x others)

pub rewritten-last : (xs : List Stmt) (x : Stmt) (others : Statements) → joined (all_rewritten (statements (xs ++ x ∷ []))) others ≡ joined (all_rewritten (statements xs)) (one (rewritten (statement x)) others)
rewritten-last [] x others = refl
rewritten-last (y ∷ ys) x others = ap (one (rewritten (statement y))) (rewritten-last ys x others)

pub leave-last : (e : Exit) (f : Bool) (xs : List Stmt) (x : Stmt) (behind : Statements) → leave e f (statements (xs ++ x ∷ [])) behind ≡ leave e f (statements xs) (leave_at e f (statement x) behind)
leave-last e f [] x behind = refl
leave-last e f (y ∷ ys) x behind = ap (leave_at e f (statement y)) (leave-last e f ys x behind)

-- a body, cut from its end on, where some of it was
abbrev pub cut_behind : Statements → Cut → Cut
cut_behind none c = c
cut_behind (one s ss) c = cut_at s (cut_behind ss c)

pub cut-all : (ss : Statements) → cut_behind ss not_cut ≡ cut ss
cut-all none = refl
cut-all (one s ss) = ap (cut_at s) (cut-all ss)

pub cut-last : (xs : List Stmt) (x : Stmt) (c : Cut) → cut_behind (statements (xs ++ x ∷ [])) c ≡ cut_behind (statements xs) (cut_at (statement x) c)
cut-last [] x c = refl
cut-last (y ∷ ys) x c = ap (cut_at (statement y)) (cut-last ys x c)

pub chain-last : (at : Site) (gs : List Group) (g : Group) (so : Statements) → chain at (map group (gs ++ g ∷ [])) so ≡ linked at (group g) (chain at (map group gs) so)
chain-last at [] g so = refl
chain-last at (f ∷ fs) g so = chain-last at fs g (linked at (group f) so)

pub followed-last : (xs : List Stmt) (x : Stmt) → statements (xs ++ x ∷ []) ≡ followed (statements xs) (statement x)
followed-last [] x = refl
followed-last (y ∷ ys) x = ap (one (statement y)) (followed-last ys x)
