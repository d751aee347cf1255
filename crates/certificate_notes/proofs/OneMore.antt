-- The notes of a certificate with an entry more behind its own.
use Rattle.std.proofs.Common.{◌≡◌, ℕ, ◌^◌, Bool, true, false, cond, ◌&&◌, List, [], ◌∷◌, ◌++◌, Option, None, Some, refl, ap, sym, ◌∙◌}
use Rattle.std.specs.Prelude.{nat_lt}
use Rattle.std.proofs.Math.Bool.{and-true}
use Rattle.std.proofs.lemmas.List.{append-nil}
use Rattle.arrivals.specs.Places as places
use Rattle.certificate_text.specs.Rules.{all}
use Rattle.certificate_text.specs.Certificate as certificates
use Rattle.certificate_text.specs.Drafts.{certificate_with}
use Rattle.certificate_text.specs.Certificate.{Entry, EntrySort, Show, Positive, Negative, Quotient, Certificate}
use Rattle.certificate.specs.EntriesLeft.{with_entries}
use Rattle.certificate_notes.specs.Behind.{after}
use Rattle.certificate_notes.specs.Gathered.{with_quotients, and_entry}
use Rattle.certificate_notes.specs.Noted.{put_first, each, Lines, lines_of, Ranked, ranked_of, has_line, are_stated, Quoted, quoted_first, quotients_of, Noted, noted_all, noted_by}
use Rattle.certificate_notes.specs.Sights.{Chart}
use Rattle.certificate_notes.proofs.Each.{after-nothing}

-- a test of all, and of one more
and_assoc : (a b c : Bool) → a && (b && c) ≡ (a && b) && c
and_assoc true b c = refl
and_assoc false b c = refl

all_last : {A : Type 0} (test : A → Bool) (xs : List A) (x : A) → all test (xs ++ x ∷ []) ≡ all test xs && test x
all_last test [] x = and-true (test x)
all_last test (y ∷ xs) x = ap (λ b. test y && b) (all_last test xs x) ∙ and_assoc (test y) (all test xs) (test x)

-- quotients, and those behind them
abbrev behind : Option (List Quoted) → Option (List Quoted) → Option (List Quoted)
behind None r = None
behind (Some qs) r = after qs r

put_behind : (q : Option Quoted) (a r : Option (List Quoted)) → put_first q (behind a r) ≡ behind (put_first q a) r
put_behind None a r = refl
put_behind (Some q) None r = refl
put_behind (Some q) (Some qs) None = refl
put_behind (Some q) (Some qs) (Some rs) = refl

where_small : (b : Bool) (q : Option Quoted) (a r : Option (List Quoted)) → cond b (put_first q (behind a r)) None ≡ behind (cond b (put_first q a) None) r
where_small true q a r = put_behind q a r
where_small false q a r = refl

first_behind : (c : Chart) (n : ℕ) (s : EntrySort) (a r : Option (List Quoted)) → quoted_first c n s (behind a r) ≡ behind (quoted_first c n s a) r
first_behind c n Show a r = refl
first_behind c n Positive a r = refl
first_behind c n Negative a r = refl
first_behind c n (Quotient f) a r = where_small (nat_lt n (2 ^ 32)) _ a r

quotients_last : (c : Chart) (es : List Entry) (e : Entry) → quotients_of c (es ++ e ∷ []) ≡ behind (quotients_of c es) (quotients_of c (e ∷ []))
quotients_last c [] e = sym (after-nothing (quotients_of c (e ∷ [])))
quotients_last c (f ∷ es) e = ap (quoted_first c f.obligation f.sort) (quotients_last c es e) ∙ first_behind c f.obligation f.sort (quotients_of c es) (quotients_of c (e ∷ []))

-- notes, and what is behind them, where that is stated
abbrev and_stated : Bool → Option (List Quoted) → Option Noted → Option Noted
and_stated u r None = None
and_stated u r (Some m) = cond u (with_quotients m r) None

all_noted : (is_wide joins : Bool) (c : Chart) (ls : Option (List Lines)) (rs : Option (List Ranked)) (qs r : Option (List Quoted)) → noted_all is_wide joins c ls rs (behind qs r) ≡ and_stated true r (noted_all is_wide joins c ls rs qs)
all_noted w j c None rs qs r = refl
all_noted w j c (Some ls) None qs r = refl
all_noted w j c (Some ls) (Some rs) None r = refl
all_noted w j c (Some ls) (Some rs) (Some qs) None = refl
all_noted w j c (Some ls) (Some rs) (Some qs) (Some more) = refl

unstated : (r : Option (List Quoted)) (o : Option Noted) → None ≡ and_stated false r o
unstated r None = refl
unstated r (Some m) = refl

where_stated : (t s u : Bool) (is_wide joins : Bool) (c : Chart) (ls : Option (List Lines)) (rs : Option (List Ranked)) (qs r : Option (List Quoted))
    → cond (t && (s && u)) (noted_all is_wide joins c ls rs (behind qs r)) None ≡ and_stated u r (cond (t && s) (noted_all is_wide joins c ls rs qs) None)
where_stated true true true w j c ls rs qs r = all_noted w j c ls rs qs r
where_stated true true false w j c ls rs qs r = unstated r (noted_all w j c ls rs qs)
where_stated true false u w j c ls rs qs r = refl
where_stated false s u w j c ls rs qs r = refl

one_more : (c : Chart) (e : Entry) (o : Option Noted) → and_stated (are_stated c e) (quotients_of c (e ∷ [])) o ≡ and_entry c e o
one_more c e None = refl
one_more c e (Some m) = refl

pub noted_more : (c : Chart) (ps : List places.Place) (cert : Certificate) (es : List Entry) (e : Entry) → noted_by c ps (with_entries (es ++ e ∷ []) cert) ≡ and_entry c e (noted_by c ps (with_entries es cert))
noted_more c ps cert es e =
    let t = all (has_line cert.bounds) c.scenes in
    let ls = each (lines_of c ps) cert.places in
    let rs = each (ranked_of c) cert.bounds in
    ap (λ b. cond (t && b) (noted_all cert.is_wide cert.joins c ls rs (quotients_of c (es ++ e ∷ []))) None) (all_last (are_stated c) es e)
    ∙ ap (λ qs. cond (t && (all (are_stated c) es && are_stated c e)) (noted_all cert.is_wide cert.joins c ls rs qs) None) (quotients_last c es e)
    ∙ where_stated t (all (are_stated c) es) (are_stated c e) cert.is_wide cert.joins c ls rs (quotients_of c es) (quotients_of c (e ∷ []))
    ∙ one_more c e (noted_by c ps (with_entries es cert))

-- the quotients with the one that an entry names, where the kernel has all that is named
inside : {A : Type 0} (a b : A) → Some a ≡ Some b → a ≡ b
inside a b e = cc

quotients_more : (m : Noted) (b : Bool) (new : List Quoted) (r : Option (List Quoted)) → cond b (after new (Some [])) None ≡ after m.quotients r → cond b (Some (record m { quotients = new })) None ≡ with_quotients m r
quotients_more m true new None e = absurd cc
quotients_more m true new (Some qs) e = ap (λ x. Some (record m { quotients = x })) (sym (append-nil new) ∙ inside (new ++ []) (m.quotients ++ qs) e)
quotients_more m false new None e = refl
quotients_more m false new (Some qs) e = absurd cc

pub entry_noted : (c : Chart) (e : Entry) (m : Noted) (b : Bool) (new : List Quoted) → true ≡ are_stated c e → cond b (after new (Some [])) None ≡ after m.quotients (quotients_of c (e ∷ [])) → cond b (Some (record m { quotients = new })) None ≡ and_entry c e (Some m)
entry_noted c e m b new t h = quotients_more m b new (quotients_of c (e ∷ [])) h ∙ ap (λ u. cond u (with_quotients m (quotients_of c (e ∷ []))) None) t

pub entry_lacking : (c : Chart) (e : Entry) (m : Noted) → false ≡ are_stated c e → None ≡ and_entry c e (Some m)
entry_lacking c e m t = ap (λ u. cond u (with_quotients m (quotients_of c (e ∷ []))) None) t

-- a certificate of its parts
pub rejoined : (cert : Certificate) (is_wide joins : Bool) (pls : List certificates.Place) (bs : List certificates.Bound) (es : List Entry) → is_wide ≡ cert.is_wide → joins ≡ cert.joins → pls ≡ cert.places → bs ≡ cert.bounds → es ≡ cert.entries → with_entries es (certificate_with is_wide joins pls bs []) ≡ cert
rejoined cert w j pls bs es p q r s t = rw (p, q, r, s, t) refl
