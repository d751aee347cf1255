-- The map of the visible names says what the definitions' list of them says.
use Rattle.std.proofs.Common.{Bor, ◌≡◌, ℕ, Bool, true, false, not, cond, ◌||◌, List, [], ◌∷◌, ◌++◌, map, Option, Some, None, is_some, option_map, bytes_eq, refl, ap, ◌∙◌}
use Rattle.std.specs.Cmp.Lexicographic.{nat_list_eq_equiv}
use Rattle.std.specs.Map.{lookup}
use Rattle.std.proofs.lemmas.List.{map-append}
use Rattle.indexmap.specs.IndexMap.{IndexMap, insert_entry}
use Rattle.indexmap.proofs.CallerLemmas.{insert_entry-new}
use Rattle.types.specs.Scope as scope
use Rattle.types.specs.Names.{binding, meaning_seen, names}
use Rattle.types.specs.declared.scope.Meaning.{Meaning}

-- the first entry of a name has what the first binding of the name has
pub looked-up : (entries : List (Bor (List ℕ) × Meaning)) (name : List ℕ) → option_map meaning_seen (lookup (λ k. bytes_eq name k.now) entries) ≡ scope.meaning_of (map binding entries) name
looked-up [] name = refl
looked-up (e ∷ es) name = by (bytes_eq name e.0.now) (bytes_eq e.0.now name) (nat_list_eq_equiv.symm name e.0.now) (looked-up es name)
  where
    by : (a b : Bool) → a ≡ b → option_map meaning_seen (lookup (λ k. bytes_eq name k.now) es) ≡ scope.meaning_of (map binding es) name
        → option_map meaning_seen (cond a (Some e.1) (lookup (λ k. bytes_eq name k.now) es)) ≡ cond b (Some (meaning_seen e.1)) (scope.meaning_of (map binding es) name)
    by true true same rest = refl
    by false false same rest = rest
    by true false same rest = cc
    by false true same rest = cc

unseen : (m : Option Meaning) → option_map meaning_seen m ≡ None → m ≡ None
unseen None h = refl
unseen (Some m) h = cc

free : (m : Option scope.Meaning) (taken : Bool) → not (is_some m || taken) ≡ true → m ≡ None
free None taken h = refl
free (Some m) taken h = cc

-- a name that may be declared goes last
pub bound : {S : Type 0} (old new : IndexMap (Bor (List ℕ)) Meaning S) (name : Bor (List ℕ)) (meaning : Meaning) (taken : Bool)
    → not (is_some (scope.meaning_of (names old) name.now) || taken) ≡ true
    → new.entries ≡ insert_entry (λ x y. bytes_eq x.now y.now) old.entries name meaning
    → names new ≡ names old ++ binding (name, meaning) ∷ []
bound old new name meaning taken h e =
    let none = unseen (lookup (λ k. bytes_eq name.now k.now) old.entries) (looked-up old.entries name.now ∙ free (scope.meaning_of (names old) name.now) taken h) in
    ap (map binding) (e ∙ insert_entry-new (λ x y. bytes_eq x.now y.now) old name meaning none) ∙ map-append binding old.entries ((name, meaning) ∷ [])
