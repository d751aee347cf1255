-- The code's notes say what is noted.
use Rattle.std.proofs.Common.{◌≡◌, ℕ, Bool, cond, true, false, nat_eq, List, [], ◌∷◌, map, Option, None, Some, refl, ap, sym, ◌∙◌, subst}
use Rattle.linear.specs.Forms.{form, forms}
use Rattle.linear.specs.declared.form.Form.{Form}
use Rattle.loop_bounds.specs.declared.bound.LoopBound.{LoopBound}
use Rattle.std.specs.Prelude.{Result, Ok, Err, IfOk, IfSome}
use Rattle.std.specs.Option.{option_map}
use Rattle.obligations.specs.Notes as notes
use Rattle.obligations.specs.Listing.{is_some}
use Rattle.obligations.specs.Telling.{tells, all_tell, congruences_tell, multiples_tell, TellsOfItems}
use Rattle.certificate_notes.specs.declared.error.NamesError.{NamesError}
use Rattle.certificate_notes.specs.Noted.{Noted}
use Rattle.obligations.specs.declared.notes.Lines.{Lines}
use Rattle.obligations.specs.declared.notes.Visible.{Visible}
use Rattle.obligations.specs.declared.notes.Quotient.{Quotient}
use Rattle.obligations.specs.declared.notes.Notes.{Notes}
use Rattle.obligations.specs.View as seen
use Rattle.certificate_notes.specs.NotesView as views
use Rattle.certificate_notes.specs.NotesView.{lines, ranked, visible, quoted}
use Rattle.certificate_notes.specs.Noting as noting
use Rattle.certificate_notes.specs.Noting.{notes_by, Agrees}

either : {A : Type 0} (b : Bool) (x x' y y' : A) → x ≡ x' → y ≡ y' → cond b x y ≡ cond b x' y'
either true x x' y y' h k = h
either false x x' y y' h k = k

forms-same : (fs : List Form) → forms fs ≡ map form fs
forms-same [] = refl
forms-same (f ∷ fs) = ap (λ gs. form f ∷ gs) (forms-same fs)

facts-same : (ls : List Lines) (a h : Option ℕ) → seen.facts_of ls a h ≡ noting.facts_of (map lines ls) a h
facts-same [] a h = refl
facts-same (l ∷ ls) a h = either (seen.is_of a h l) _ _ _ _ (forms-same l.facts.items) (facts-same ls a h)

congruences-same : (ls : List Lines) (a h : Option ℕ) → seen.congruences_of ls a h ≡ noting.congruences_of (map lines ls) a h
congruences-same [] a h = refl
congruences-same (l ∷ ls) a h = either (seen.is_of a h l) _ _ _ _ refl (congruences-same ls a h)

multiples-same : (ls : List Lines) (a h : Option ℕ) → seen.multiples_of ls a h ≡ noting.multiples_of (map lines ls) a h
multiples-same [] a h = refl
multiples-same (l ∷ ls) a h = either (seen.is_of a h l) _ _ _ _ refl (multiples-same ls a h)

same-same : (ls : List Lines) (b : ℕ) → seen.same_of ls b ≡ noting.same_of (map lines ls) b
same-same [] b = refl
same-same (l ∷ ls) b = either (seen.is_of (Some b) None l) _ _ _ _ refl (same-same ls b)

ranking-same : (rs : List LoopBound) (n : ℕ) → seen.ranking_of rs n ≡ noting.ranking_of (map ranked rs) n
ranking-same [] n = refl
ranking-same (r ∷ rs) n = either (nat_eq r.number n) _ _ _ _ refl (ranking-same rs n)

visible-same : (vs : List Visible) (s : Option ℕ) → seen.visible_of vs s ≡ noting.visible_of (map visible vs) s
visible-same [] s = refl
visible-same (v ∷ vs) s = either (seen.same_number v.statement s) _ _ _ _ refl (visible-same vs s)

quotient-same : (qs : List Quotient) (n : ℕ) → seen.quotient_of qs n ≡ noting.quotient_of (map quoted qs) n
quotient-same [] n = refl
quotient-same (q ∷ qs) n = either (nat_eq q.claim n) _ _ _ _ refl (quotient-same qs n)

pub seen-agrees : (n : Notes) (entries : List Bool) → Agrees (seen.seen n entries) (notes_by (views.notes n) entries)
seen-agrees n entries = record {
  same = same-same n.places.items;
  facts = facts-same n.places.items;
  congruences = congruences-same n.places.items;
  multiples = multiples-same n.places.items;
  ranking = ranking-same n.rankings.items;
  visible = visible-same n.visible.items;
  quotient = quotient-same n.quotients.items;
  has_entry = λ c. refl;
  is_wide = refl;
  joins = refl;
}

-- and tell of items alone
pub agrees-tells : (n m : notes.Notes) → Agrees n m → TellsOfItems m → TellsOfItems n
agrees-tells n m a t = record {
  facts = λ a' h. ap (all_tell (is_some h)) (a.facts a' h) ∙ t.facts a' h;
  congruences = λ a' h. ap (congruences_tell (is_some h)) (a.congruences a' h) ∙ t.congruences a' h;
  multiples = λ a' h. ap (multiples_tell (is_some h)) (a.multiples a' h) ∙ t.multiples a' h;
  rankings = λ k. ap (λ r. tells false r.form) (a.ranking k) ∙ t.rankings k;
}

-- the answers of the code, by what it noted
pub noted-agrees : (r : Option Notes) (o : Option Noted) → option_map views.notes r ≡ o → IfSome r (λ n. (entries : List Bool) (m : Noted) → o ≡ Some m → Agrees (seen.seen n entries) (notes_by m entries))
noted-agrees None o h = tt
noted-agrees (Some n) o h = λ entries m e. let k : views.notes n ≡ m = cc in subst (λ x. Agrees (seen.seen n entries) (notes_by x entries)) k (seen-agrees n entries)

pub noted-tells : (r : Option Notes) (o : Option Noted) → option_map views.notes r ≡ o → ((m : Noted) → o ≡ Some m → (entries : List Bool) → TellsOfItems (notes_by m entries)) → IfSome r (λ n. (entries : List Bool) → TellsOfItems (seen.seen n entries))
noted-tells None o h t = tt
noted-tells (Some n) o h t = λ entries. agrees-tells (seen.seen n entries) (notes_by (views.notes n) entries) (seen-agrees n entries) (t (views.notes n) (sym h) entries)

pub ok-agrees : (r : Result (Option Notes) NamesError) (o : Option Noted) → IfOk r (λ x. option_map views.notes x ≡ o) → IfOk r (λ x. IfSome x (λ n. (entries : List Bool) (m : Noted) → o ≡ Some m → Agrees (seen.seen n entries) (notes_by m entries)))
ok-agrees (Ok x) o h = noted-agrees x o h
ok-agrees (Err e) o h = h

pub ok-tells : (r : Result (Option Notes) NamesError) (o : Option Noted) → IfOk r (λ x. option_map views.notes x ≡ o) → ((m : Noted) → o ≡ Some m → (entries : List Bool) → TellsOfItems (notes_by m entries)) → IfOk r (λ x. IfSome x (λ n. (entries : List Bool) → TellsOfItems (seen.seen n entries)))
ok-tells (Ok x) o h t = noted-tells x o h t
ok-tells (Err e) o h t = h
