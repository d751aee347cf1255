-- Steps on one word keep the rule.
use Rattle.std.proofs.Common.{◌≡◌, ℕ, ◌/◌, ◌%◌, ◌<◌, ◌≢◌, ◌==◌, Bool, true, false, List, [], ◌∷◌, ◌++◌, length, set, get_or, bit_and, refl, sym, ap, ◌∙◌, subst, ⊎_elim, length-set, arith}
use Rattle.std.specs.Int.{bit_at}
use Rattle.std.proofs.lemmas.Nat.Bits.{bit_at_and, bit_at-lt}
use Rattle.std.proofs.lemmas.Bool.{cases_eq, eq-eqb, eqb-true, ne_eqb, false≢true, false_from_ne_true, cases_Bool}
use mathlib.Core.Option.{Option, some, none}
use lib.ListN.{get_elem?}
use Rattle.atomic_table.proofs.Lists.{at_set, at_snoc, set_again}
use Rattle.atomic_table.specs.Table.{State, Me, Step, Act, keeps, Valid, stepped, carried_after, step}
use Rattle.supports.specs.Candidates.{Supports, IsInGreatest}
use Rattle.supports.specs.Sets.{members, HoldsGreatest}
use Rattle.supports.proofs.Bits.{members_written, members_elsewhere, same_place}
use Rattle.board.specs.declared.View.{View}
use Rattle.board.specs.Rule.{Seen, IsView, Holds, Learns, Looks, Drops}

-- whether candidate c is in the word y of its place
abbrev in_word : ℕ → ℕ → Bool
in_word y c = bit_at y (c % 64) == 1

pub absent : (a b : Bool) → (a ≡ true → b ≡ true) → b ≡ false → a ≡ false
absent a b f e = false_from_ne_true a (λ t. false≢true (sym e ∙ f t))

-- one set lies in another
Within : List ℕ → List ℕ → Type 0
Within small large = (c : ℕ) → members small c ≡ true → members large c ≡ true

within : (small large : List ℕ) → Within small large → (c : ℕ) → members small c ≡ true → members large c ≡ true
unfolding Within
within small large w = w

is_within : (small large : List ℕ) → ((c : ℕ) → members small c ≡ true → members large c ≡ true) → Within small large
unfolding Within
is_within small large w = w

module _ (i y : ℕ) where
  -- the same word written into two sets keeps one inside the other
  both : (small large : List ℕ) → i < length small → i < length large → Within small large → Within (set small i y) (set large i y)
  both small large s l w = is_within _ _ (λ c e. ⊎_elim
      (λ here. members_written large i y c l here ∙ sym (members_written small i y c s here) ∙ e)
      (λ away. members_elsewhere large i y c away ∙ within small large w c (sym (members_elsewhere small i y c away) ∙ e))
      (cases_eq (c / 64) i))

  -- a word of candidates of a larger set is written into it
  fewer : (words large : List ℕ) → i < length large → ((c : ℕ) → c / 64 ≡ i → in_word y c ≡ true → members words c ≡ true) → Within words large → Within (set large i y) large
  fewer words large l inside w = is_within _ _ (λ c e. ⊎_elim
      (λ here. within words large w c (inside c here (sym (members_written large i y c l here) ∙ e)))
      (λ away. sym (members_elsewhere large i y c away) ∙ e)
      (cases_eq (c / 64) i))

  -- a word that has the greatest set's candidates is written into a set that holds it
  holds : (supports : Supports) (large : List ℕ) → i < length large → ((c : ℕ) → c / 64 ≡ i → IsInGreatest supports c → in_word y c ≡ true) → HoldsGreatest supports (members large) → HoldsGreatest supports (members (set large i y))
  holds supports large l has g c in_greatest = ⊎_elim
      (λ here. members_written large i y c l here ∙ has c here in_greatest)
      (λ away. members_elsewhere large i y c away ∙ g c in_greatest)
      (cases_eq (c / 64) i)

-- the words lie in what any seat knows to be left
in_left : (supports : Supports) (s : State (Unit {0}) View) (id : ℕ) (v : View) → Holds supports s → get_elem? s.views id ≡ some v → Within s.words v.left
in_left supports s id v rule at = is_within _ _ (λ c e. ⊎_elim
    (λ t. t)
    (λ f. let lt : c < length v.supports = subst (λ l. c < length l) (sym (rule.views id v at).0) (rule.within c e) in absurd (false≢true (sym (rule.lacks id v at c (lt, f)) ∙ e)))
    (cases_Bool (members v.left c)))

-- the view of a seat that leaves y in the word i
abbrev with_word : View → ℕ → ℕ → View
with_word v i y = record { supports = v.supports; left = set v.left i y }

module _ (supports : Supports) (i y : ℕ) (words : List ℕ) (homes : List (Option (Unit {0}))) (views : List View) (id : ℕ) (v : View)
    (rule : Holds supports (record { words = words; homes = homes; views = views })) (at : get_elem? views id ≡ some v) (lt : i < 8)
    (inside : (c : ℕ) → c / 64 ≡ i → in_word y c ≡ true → members words c ≡ true)
    (has : (c : ℕ) → c / 64 ≡ i → IsInGreatest supports c → in_word y c ≡ true) where
  known : Within words v.left
  known = in_left supports (record { words = words; homes = homes; views = views }) id v rule at

  long : i < length words
  long = omega (arith, rule.eight)

  left_long : i < length v.left
  left_long = let eight = (rule.views id v at).1 in omega arith

  left_fewer : Within (set v.left i y) v.left
  left_fewer = fewer i y words v.left left_long inside known

  words_fewer : Within (set words i y) words
  words_fewer = fewer i y words words long inside (is_within _ _ (λ c e. e))

  view_after : IsView supports (with_word v i y)
  view_after = ((rule.views id v at).0, length-set v.left i y ∙ (rule.views id v at).1, λ c e. (rule.views id v at).2 c (within _ _ left_fewer c e))

  left_holds : HoldsGreatest supports (members (set v.left i y))
  left_holds = holds i y supports v.left left_long has (λ c g. within _ _ known c (rule.greatest c g))

  more_seen : (c : ℕ) → Seen v c → Seen (with_word v i y) c
  more_seen c seen = (seen.0, absent _ _ (within _ _ left_fewer c) seen.1)

  lacks_after : (j : ℕ) (u : View) → get_elem? (set views id (with_word v i y)) j ≡ some u → (c : ℕ) → Seen u c → members (set words i y) c ≡ false
  lacks_after j u there c seen = ⊎_elim
      (λ t. absent _ _ (within _ _ (both i y words v.left long left_long known) c) (ap (λ w. members w.left c) t.1 ∙ seen.1))
      (λ t. absent _ _ (within _ _ words_fewer c) (rule.lacks j u t.1 c seen))
      (at_set views id j (with_word v i y) u there)

  pub kept : Holds supports (record { words = set words i y; homes = homes; views = set views id (with_word v i y) })
  kept = record {
    eight = length-set words i y ∙ rule.eight;
    greatest = holds i y supports words long has rule.greatest;
    within = λ c e. rule.within c (within _ _ words_fewer c e);
    views = λ j u there. ⊎_elim (λ t. subst (IsView supports) t.1 view_after) (λ t. rule.views j u t.1) (at_set views id j (with_word v i y) u there);
    lacks = lacks_after;
  }

  pub learned : (slots : ℕ) (step : Step (Unit {0})) (held : List (ℕ × Unit {0})) → step.word ≡ i → Learns step (v, held) (with_word v i y, held) y
  learned slots step held same =
      let e = (rule.views id v at).0 in
      record {
        view = subst (λ t. IsView t (with_word v i y)) (sym e) view_after;
        left = ap (λ k. set v.left k y) (sym same);
        greatest = subst (λ t. HoldsGreatest t (members (set v.left i y))) (sym e) left_holds;
        more = more_seen;
        slots = refl;
      }

fewer_bits : (x m b : ℕ) → (bit_at (bit_and x m) b == 1) ≡ true → (bit_at x b == 1) ≡ true
fewer_bits x m b t = let one = eqb-true (bit_at (bit_and x m) b) 1 t in eq-eqb (bit_at x b) 1 (omega (arith, bit_at_and x m b, bit_at-lt x b))

kept_bit : (x m b : ℕ) → (bit_at x b == 1) ≡ true → bit_at m b ≡ 1 → (bit_at (bit_and x m) b == 1) ≡ true
kept_bit x m b t e = let one = eqb-true (bit_at x b) 1 t in eq-eqb (bit_at (bit_and x m) b) 1 (omega (arith, bit_at_and x m b))

-- a look at a word
pub looks : (supports : Supports) (slots i id : ℕ) (me : Me (Unit {0}) View) (s : State (Unit {0}) View) → i < 8 → Holds supports s → get_elem? s.views id ≡ some me.0
    → (w : View) × (a : Act (Unit {0})) × Valid s.homes me.1 a × Holds supports (stepped s i (get_or s.words i 0) id me.1 w a) × Looks (step slots i 0 0 none) me (get_or s.words i 0) (w, carried_after me.1 a)
looks supports slots i id me s lt rule at =
    let x : ℕ = get_or s.words i 0 in
    let same : (c : ℕ) → c / 64 ≡ i → in_word x c ≡ members s.words c = λ c e. ap (λ k. bit_at (get_or s.words k 0) (c % 64) == 1) (sym e) in
    let inside : (c : ℕ) → c / 64 ≡ i → in_word x c ≡ true → members s.words c ≡ true = λ c e t. sym (same c e) ∙ t in
    let has : (c : ℕ) → c / 64 ≡ i → IsInGreatest supports c → in_word x c ≡ true = λ c e g. same c e ∙ rule.greatest c g in (
      with_word me.0 i x,
      keeps,
      tt,
      kept supports i x s.words s.homes s.views id me.0 rule at lt inside has,
      learned supports i x s.words s.homes s.views id me.0 rule at lt inside has slots (step slots i 0 0 none) me.1 refl,
    )

-- candidates are taken off by a mask that holds those of the greatest set
pub drops : (supports : Supports) (slots i m id : ℕ) (me : Me (Unit {0}) View) (s : State (Unit {0}) View) → i < 8 → ((c : ℕ) → c / 64 ≡ i → IsInGreatest supports c → bit_at m (c % 64) ≡ 1) → Holds supports s → get_elem? s.views id ≡ some me.0
    → (w : View) × (a : Act (Unit {0})) × Valid s.homes me.1 a × Holds supports (stepped s i (bit_and (get_or s.words i 0) m) id me.1 w a) × Drops (step slots i m 0 none) me (get_or s.words i 0) (w, carried_after me.1 a)
drops supports slots i m id me s lt mask rule at =
    let x : ℕ = get_or s.words i 0 in
    let y : ℕ = bit_and x m in
    let same : (c : ℕ) → c / 64 ≡ i → in_word x c ≡ members s.words c = λ c e. ap (λ k. bit_at (get_or s.words k 0) (c % 64) == 1) (sym e) in
    let inside : (c : ℕ) → c / 64 ≡ i → in_word y c ≡ true → members s.words c ≡ true = λ c e t. sym (same c e) ∙ fewer_bits x m (c % 64) t in
    let has : (c : ℕ) → c / 64 ≡ i → IsInGreatest supports c → in_word y c ≡ true = λ c e g. kept_bit x m (c % 64) (same c e ∙ rule.greatest c g) (mask c e g) in (
      with_word me.0 i y,
      keeps,
      tt,
      kept supports i y s.words s.homes s.views id me.0 rule at lt inside has,
      learned supports i y s.words s.homes s.views id me.0 rule at lt inside has slots (step slots i m 0 none) me.1 refl,
    )

-- a mask that leaves out one candidate alone holds each of the greatest set that stands in that word
pub but_others : (supports : Supports) (k m : ℕ) → ((b : ℕ) → b < 64 → b ≢ k % 64 → bit_at m b ≡ 1) → ¬ (IsInGreatest supports k) → (c : ℕ) → c / 64 ≡ k / 64 → IsInGreatest supports c → bit_at m (c % 64) ≡ 1
but_others supports k m others out c e g = others (c % 64) (omega arith) (λ b. out (subst (IsInGreatest supports) (same_place c k e b) g))

-- what is written by it lacks that candidate
pub but_lacks : (left : List ℕ) (x k m : ℕ) → length left ≡ 8 → k < 512 → bit_at m (k % 64) ≡ 0 → members (set left (k / 64) (bit_and x m)) k ≡ false
but_lacks left x k m eight lt lacks =
    let long : k / 64 < length left = omega arith in
    members_written left (k / 64) (bit_and x m) k long refl ∙ ne_eqb (bit_at (bit_and x m) (k % 64)) 1 (λ one. let two = bit_at_and x m (k % 64) in omega (arith, one, lacks, two))

-- a seat is split into two that have seen the same
pub parted : (supports : Supports) (words : List ℕ) (homes : List (Option (Unit {0}))) (views : List View) (id : ℕ) (v : View) → Holds supports (record { words = words; homes = homes; views = views }) → get_elem? views id ≡ some v → Holds supports (record { words = words; homes = homes; views = set views id v ++ v ∷ [] })
parted supports words homes views id v rule at = record {
  eight = rule.eight;
  greatest = rule.greatest;
  within = rule.within;
  views = λ j u there. ⊎_elim
      (λ old. rule.views j u old)
      (λ same. subst (IsView supports) same (rule.views id v at))
      (at_snoc views v u j (ap (λ l. get_elem? (l ++ v ∷ []) j) (sym (set_again views id v at)) ∙ there));
  lacks = λ j u there c seen. ⊎_elim
      (λ old. rule.lacks j u old c seen)
      (λ same. rule.lacks id v at c (subst (λ t. Seen t c) (sym same) seen))
      (at_snoc views v u j (ap (λ l. get_elem? (l ++ v ∷ []) j) (sym (set_again views id v at)) ∙ there));
}
