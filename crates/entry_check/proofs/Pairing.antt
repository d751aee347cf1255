-- The pairs of rows, of whichever kind these are.
use Rattle.std.proofs.Common.{◌≡◌, ◌<◌, ℕ, ◌+◌, List, [], ◌∷◌, ◌++◌, drop, length, Bool, true, false, ◌&&◌, append-nil, refl, sym, ap, ◌∙◌, arith}
use Rattle.std.proofs.lemmas.List.{length-append}
use Rattle.domain.specs.declared.Domain.{Ghosts}
use Rattle.two_thread.specs.Paths.{all_accesses, all_ends}
use Rattle.two_thread.specs.View.{scope, sought_array}
use Rattle.two_thread.specs.declared.walked.Tagged.{Tagged}
use Rattle.walk.specs.Cursors.{Gives, IsOver, conditions_of, kernel_of, left_accesses, left_ends}
use Rattle.walk.specs.declared.cursor.Paths.{Paths}
use Rattle.walk.specs.declared.terrain.Terrain.{Terrain}
use Rattle.entry_check.specs.Hand.{notes_in}
use Rattle.entry_check.specs.Held.{Holds}
use Rattle.entry_check.specs.Rows.{Row, all_alone, all_pairs, all_rows, has_pairs, left_rows, no_row, nth_row, pairs_from, pairs_with, rows_seen}
use Rattle.entry_check.specs.declared.asked.Asked.{Asked}
use Rattle.entry_check.specs.declared.paired.Paired.{Paired}
use Rattle.entry_check.specs.declared.paired.Paired.TheVariants as kinds
use Rattle.entry_check.proofs.Final.{final_both, none_meet}
use Rattle.entry_check.proofs.Holding.{all_next, each_both, each_foreign, from_head, from_rest, in_first, in_next, last, seam, with_both}
use Rattle.entry_check.proofs.Lone.{lone_both, none_sought}

-- what a cursor gave, and what is left
module _ {E : Type 0} (g : Ghosts E) (t : Terrain E) where
  pub gives_rows : (k : Paired) (x z : Paths) (p : Tagged E) → Gives g t x p z → left_rows g t k x ≡ rows_seen k p ++ left_rows g t k z
  gives_rows kinds.Ends x z p v = v.ends
  gives_rows (kinds.Accesses s) x z p v = v.accesses

  pub over_rows : (k : Paired) (x : Paths) → IsOver g t x → left_rows g t k x ≡ []
  over_rows kinds.Ends x o = o.ends
  over_rows (kinds.Accesses s) x o = o.accesses

  pub copied_rows : (k : Paired) (x y : Paths) → left_accesses g t y ≡ left_accesses g t x → left_ends g t y ≡ left_ends g t x → left_rows g t k y ≡ left_rows g t k x
  copied_rows kinds.Ends x y a e = e
  copied_rows (kinds.Accesses s) x y a e = a

  held_all : (k : Paired) (x z : Paths) (from held : List (Tagged E)) → Holds g t x from z held → all_rows k from ++ left_rows g t k x ≡ all_rows k held ++ left_rows g t k z
  held_all kinds.Ends x z from held h = h.ends
  held_all (kinds.Accesses s) x z from held h = h.accesses

  pub holds_rows : (k : Paired) (x y z : Paths) (p : Tagged E) (held : List (Tagged E)) → Gives g t x p y → Holds g t y (p ∷ []) z held → left_rows g t k x ≡ all_rows k held ++ left_rows g t k z
  holds_rows k x y z p held v h =
      gives_rows k x y p v ∙ ap (λ l. l ++ left_rows g t k y) (sym (append-nil (rows_seen k p))) ∙ held_all k y z (p ∷ []) held h

-- rows that are alone, list by list
module _ {E : Type 0} (t : Terrain E) where
  alone_both : (k : Paired) (us vs : List (Row E k)) → all_alone t k (us ++ vs) ≡ (all_alone t k us && all_alone t k vs)
  alone_both kinds.Ends us vs = final_both us vs
  alone_both (kinds.Accesses s) us vs = lone_both t s us vs

  pub alone_first : (k : Paired) (us vs : List (Row E k)) → all_alone t k us ≡ false → false ≡ all_alone t k (us ++ vs)
  alone_first k us vs h = sym (alone_both k us vs ∙ ap (λ b. b && all_alone t k vs) h)

  pub alone_behind : (k : Paired) (us vs ws : List (Row E k)) (b : Bool) → all_alone t k us ≡ true → b ≡ all_alone t k ws → ws ≡ vs → b ≡ all_alone t k (us ++ vs)
  alone_behind k us vs ws b h e q = e ∙ ap (all_alone t k) q ∙ sym (alone_both k us vs ∙ ap (λ x. x && all_alone t k vs) h)

  pub alone_more : (k : Paired) (all one : Bool) (xs us ys : List (Row E k)) (whole : Bool) → xs ≡ us ++ ys → one ≡ all_alone t k us → (all && all_alone t k xs) ≡ whole → ((all && one) && all_alone t k ys) ≡ whole
  alone_more k all one xs us ys whole e q h =
      sym (regroup all one (all_alone t k ys)) ∙ ap (λ b. all && b) (ap (λ b. b && all_alone t k ys) q ∙ sym (alone_both k us ys) ∙ sym (ap (all_alone t k) e)) ∙ h
    where
      regroup : (a b c : Bool) → (a && (b && c)) ≡ ((a && b) && c)
      regroup true b c = refl
      regroup false b c = refl

  -- none is left
  pub alone_over : (k : Paired) (b : Bool) (us : List (Row E k)) (whole : Bool) → us ≡ [] → (b && all_alone t k us) ≡ whole → b ≡ whole
  alone_over k b us whole e h = sym (and_true b) ∙ ap (λ x. b && x) (sym (ap (all_alone t k) e ∙ none k)) ∙ h
    where
      and_true : (a : Bool) → (a && true) ≡ a
      and_true true = refl
      and_true false = refl

      none : (k : Paired) → all_alone t k [] ≡ true
      none kinds.Ends = refl
      none (kinds.Accesses s) = refl

-- a path that was put behind those that are held
module _ {E : Type 0} (k : Paired) (start old new : List (Tagged E)) (p : Tagged E) (i : ℕ) (held : old ≡ start) (put : new ≡ old ++ p ∷ []) (within : i < length (all_rows k start)) where
  rows_put : all_rows k new ≡ all_rows k start ++ rows_seen k p
  rows_put = ap (all_rows k) (put ∙ ap (λ ts. ts ++ p ∷ []) held) ∙ last (rows_seen k) start p

  pub still_row : i < length (all_rows k new)
  still_row =
      let m = ap length rows_put in
      let n = length-append (all_rows k start) (rows_seen k p) in
      omega (arith, within, m, n)

  row_put : nth_row k new i ≡ nth_row k start i
  row_put = in_first (all_rows k start) (rows_seen k p) (all_rows k new) i (no_row E k) rows_put within

  drop_put : (own : ℕ) → own ≡ length (all_rows k start) → drop own (all_rows k new) ≡ rows_seen k p
  drop_put own l = seam (all_rows k start) (rows_seen k p) (all_rows k new) own rows_put l

module _ {E : Type 0} (a : Asked E) (t : Terrain E) where
  -- a row with two lists
  pub with_two : (k : Paired) (u : Row E k) (xs ys : List (Row E k)) → pairs_with a t k u (xs ++ ys) ≡ pairs_with a t k u xs ++ pairs_with a t k u ys
  with_two kinds.Ends u xs ys = each_both (notes_in a.premises) u xs ys
  with_two (kinds.Accesses s) u xs ys = with_both (kernel_of t).sizes (conditions_of t) s.fenced (sought_array s) (scope s.scope) u xs ys

  pub with_none : (k : Paired) (u : Row E k) → pairs_with a t k u [] ≡ []
  with_none kinds.Ends u = refl
  with_none (kinds.Accesses s) u = refl

  from_with : (k : Paired) (u : Row E k) (us : List (Row E k)) → has_pairs E k u ≡ true → pairs_from a t k u us ≡ pairs_with a t k u us
  from_with kinds.Ends u us h = from_rest (notes_in a.premises) u us h
  from_with (kinds.Accesses s) u us h = refl

  pub from_two : (k : Paired) (u : Row E k) (xs ys : List (Row E k)) → has_pairs E k u ≡ true → pairs_from a t k u (xs ++ ys) ≡ pairs_with a t k u xs ++ pairs_with a t k u ys
  from_two k u xs ys h = from_with k u (xs ++ ys) h ∙ with_two k u xs ys

  pub from_none : (k : Paired) (u : Row E k) (us : List (Row E k)) → has_pairs E k u ≡ false → pairs_from a t k u us ≡ []
  from_none kinds.Ends u us h = from_head (notes_in a.premises) u us h
  from_none (kinds.Accesses s) u us h = each_foreign (kernel_of t).sizes (conditions_of t) s.fenced (sought_array s) (scope s.scope) u us h

  -- the next row with those behind it, and then the others
  pub pairs_next : (k : Paired) (ts : List (Tagged E)) (ys : List (Row E k)) (i : ℕ) → i < length (all_rows k ts) → all_pairs a t k (drop i (all_rows k ts) ++ ys) ≡ pairs_from a t k (nth_row k ts i) (drop i (all_rows k ts) ++ ys) ++ all_pairs a t k (drop (i + 1) (all_rows k ts) ++ ys)
  pairs_next kinds.Ends ts ys i h = all_next (notes_in a.premises) (all_ends ts) ys i h
  pairs_next (kinds.Accesses s) ts ys i h = in_next (kernel_of t).sizes (conditions_of t) s.fenced (sought_array s) (scope s.scope) (all_accesses ts) ys i h

  pub no_pairs : (k : Paired) (us : List (Row E k)) → us ≡ [] → all_pairs a t k us ≡ []
  no_pairs k us e = ap (all_pairs a t k) e ∙ none k
    where
      none : (k : Paired) → all_pairs a t k [] ≡ []
      none kinds.Ends = refl
      none (kinds.Accesses s) = refl

  pub alone_none : (k : Paired) (us : List (Row E k)) → all_alone t k us ≡ true → all_pairs a t k us ≡ []
  alone_none kinds.Ends us h = none_meet (notes_in a.premises) us h
  alone_none (kinds.Accesses s) us h = none_sought t s us h

  -- a row with what stands on the path that was put last, and with what is left behind it
  module _ (k : Paired) (start old new : List (Tagged E)) (p : Tagged E) (i : ℕ) (held : old ≡ start) (put : new ≡ old ++ p ∷ []) (within : i < length (all_rows k start)) where
    pub pairs_behind : (own : ℕ) (left behind : List (Row E k)) → own ≡ length (all_rows k start) → left ≡ rows_seen k p ++ behind → pairs_with a t k (nth_row k start i) left ≡ pairs_with a t k (nth_row k new i) (drop own (all_rows k new)) ++ pairs_with a t k (nth_row k start i) behind
    pairs_behind own left behind l e =
        let u = nth_row k start i in
        let w = row_put k start old new p i held put within in
        let d = drop_put k start old new p i held put within own l in
        ap (pairs_with a t k u) e ∙ with_two k u (rows_seen k p) behind ∙ ap (λ l. l ++ pairs_with a t k u behind) (sym (λ j. pairs_with a t k (w j) (d j)))
