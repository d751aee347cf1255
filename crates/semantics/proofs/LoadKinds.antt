-- A load's value is a number of its array's kind.
use Rattle.std.proofs.Common.{◌≡◌, ℕ, ℤ, List, [], ◌∷◌, true, ◌+◌, suc, refl, ap, subst, arith}
use Rattle.semantics.specs.Word.{Word, in_kind}
use Rattle.semantics.specs.Core.{Site, Array, Space, Global, Local, Term, Load}
use Rattle.semantics.specs.Setup.{Setup, group_of}
use Rattle.semantics.specs.Memory.{cell, owner_of, extent, kind_at, kind_in, element_kind_in, element_kind}
use Rattle.semantics.specs.Evaluation.{Gives, within, read, load, evaluate}
use Rattle.semantics.proofs.Words.{as_kind-in_kind}
use Rattle.semantics.proofs.MoreAnswers.{then-by, asks-gives}

abbrev HasKind : Setup → Array → Word → Type 0
HasKind s a v = (v.kind ≡ element_kind s a) × (in_kind v.kind v.value ≡ true)

load-kind : (s : Setup) (a : Array) (site : Site) (z : ℤ) (answers rest : List Word) (v : Word) → load s a site z answers ≡ Gives v rest → HasKind s a v
load-kind s a site z [] rest v h = absurd (asks-gives a (within (extent s a) z) site v rest h)
load-kind s a site z (w ∷ answers) rest v h =
    let e : read s a w ≡ v = cc in
    subst (λ x. HasKind s a x) e (refl, as_kind-in_kind (element_kind s a) w.value)

pub value_has_kind : (s : Setup) (i : ℕ) (now : List ℕ) (a : Array) (site : Site) (index : Term) (variables answers rest : List Word) (v : Word) → evaluate s i now (Load a site index) variables answers ≡ Gives v rest → HasKind s a v
unfolding evaluate
value_has_kind s i now a site index variables answers rest v h =
    let q = then-by (evaluate s i now index variables answers) (λ k later. load s a site k.value later) v rest h in
    load-kind s a site q.0.value q.1 rest v q.3

kind_in-space : (s : Setup) (i : ℕ) (p : Space) (n : ℕ) → kind_in s (owner_of s i p) n ≡ element_kind_in s p n
kind_in-space s i Global n = refl
kind_in-space s i Local n =
    let e : 1 + group_of s i ≡ suc (group_of s i) = omega arith in
    ap (λ o. kind_in s o n) e

pub element_has_kind : (s : Setup) (i k : ℕ) (a : Array) → kind_at s (cell s i a k) ≡ element_kind s a
element_has_kind s i k a = kind_in-space s i a.space a.number
