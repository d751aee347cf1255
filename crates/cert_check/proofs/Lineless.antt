-- A text of version 1 has no lines of what buffers hold.
use Rattle.std.proofs.Common.{◌≡◌, ℕ, nat_lt, Bool, true, false, List, [], length, map, Ok, refl, ap, sym, ◌∙◌, subst}
use Rattle.semantics.specs.Conditions.{Content}
use Rattle.texts.specs.Surface.{Parameter}
use Rattle.launch_text.specs.LaunchFaults.{LimitPassed, Step, Cursor, cursor, expect, end_line}
use Rattle.launch_text.specs.LaunchWords.{Conditions, due, end_text}
use Rattle.launch_text.specs.ConditionsReading.{ContentLine, Lined, content_meant, meant, groups_line, argument_lines, length_lines, requirement_lines, content_lines, budget_at, lined, version_at, numbered_line, version_line, is_third, conditions_at, conditions_limit, conditions_of}
use Rattle.launch_text.proofs.Back.{then_back, same_back, unless_back}

version_one : (c : Cursor) (t : Bool × Cursor) → version_at false c ≡ Ok t → t.0 ≡ false
unfolding version_at
version_one c t e =
    let d = then_back (expect _ c) _ t e in
    ap (λ (r : Bool × Cursor). r.0) (sym (same_back (false, d.0) t d.2))

numbered_one : (c : Cursor) (t : Bool × Cursor) → numbered_line false c ≡ Ok t → t.0 ≡ false
unfolding numbered_line
numbered_one c t e =
    let v = then_back (version_at false c) _ t e in
    let d = then_back (end_line v.0.1) _ t v.2 in
    ap (λ (r : Bool × Cursor). r.0) (sym (same_back (v.0.0, d.0) t d.2)) ∙ version_one c v.0 v.1

first_one : (c : Cursor) (t : Bool × Cursor) → version_line false c ≡ Ok t → t.0 ≡ false
unfolding version_line
first_one c t e =
    let a = then_back (due _ _ c) _ t e in
    numbered_one a.0 t a.2

none_read : (ps : List Parameter) (c : Cursor) (t : List ContentLine × Cursor) → content_lines false ps c ≡ Ok t → t.0 ≡ []
unfolding content_lines
none_read ps c t e = ap (λ (r : List ContentLine × Cursor). r.0) (sym (same_back ([], c) t e))

no_lines : (ps : List Parameter) (c : Cursor) (x : Lined) → conditions_at false ps c ≡ Ok x → x.contents ≡ []
unfolding conditions_at
no_lines ps c x e =
    let version = then_back (version_line false c) _ x e in
    let groups = then_back (groups_line version.0.1) _ x version.2 in
    let arguments = then_back (argument_lines ps groups.0.1) _ x groups.2 in
    let lengths = then_back (length_lines version.0.0 ps arguments.0.1) _ x arguments.2 in
    let requires = then_back (requirement_lines version.0.0 ps lengths.0.1) _ x lengths.2 in
    let contents = then_back (content_lines version.0.0 ps requires.0.1) _ x requires.2 in
    let budget = then_back (budget_at (is_third false c) contents.0.1) _ x contents.2 in
    let end = then_back (end_text budget.0.1) _ x budget.2 in
    let none = none_read ps requires.0.1 contents.0 (subst (λ b. content_lines b ps requires.0.1 ≡ Ok contents.0) (first_one c version.0 version.1) contents.1) in
    ap (λ (y : Lined). y.contents) (sym (same_back (lined groups.0.0 version.0.1.line arguments.0.0 lengths.0.0 requires.0.0 contents.0.0 budget.0.0) x end.2)) ∙ none

pub no_contents : (is_wide : Bool) (ps : List Parameter) (text : List ℕ) (x : Lined) → conditions_of is_wide ps text ≡ Ok x → is_wide ≡ false → (meant x).contents ≡ []
no_contents is_wide ps text x e f =
    let read : conditions_of false ps text ≡ Ok x = subst (λ w. conditions_of w ps text ≡ Ok x) f e in
    ap (map content_meant) (no_lines ps (cursor 1 text) x (unless_back (nat_lt conditions_limit (length text)) (conditions_at false ps (cursor 1 text)) LimitPassed (cursor 1 text) x read).1)
